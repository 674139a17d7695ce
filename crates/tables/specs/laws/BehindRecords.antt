-- Which records can no longer stand in order where the records of some commands have been read. Assumes nothing.
use Rattle.std.specs.Prelude.{ℕ, suc, ◌<◌, ◌≡◌, refl, Bool, true, false, not, ◌&&◌, List, [], ◌∷◌, eqb, length, Ok}
use Rattle.std.proofs.Common.{ap, ◌∙◌, subst, arith, eqb-true}
use Rattle.std.proofs.lemmas.Bool.{eqb-false}
use Rattle.expression.specs.declared.Credential.{Credential}
use Rattle.class.specs.declared.Name.{Name}
use Rattle.record.specs.declared.Pair.{Pair}
use Rattle.record.specs.declared.Record.{Record}
use Rattle.record.specs.declared.Record.TheVariants.{Own, Named, IssuerStored, SubjectStored, Sensitive, Access}
use Rattle.record.specs.Record.{record_at}
use Rattle.tables.specs.Tables.{Tables}
use Rattle.tables.specs.Check.{none, in_order}
use Rattle.tables.specs.laws.Group.{Group, Gone}
use Rattle.tables.specs.laws.Groups.{names, credentials_of, pairs}

-- the commands by number: 0x10 is the first
abbrev pub rank_of : Record → ℕ
rank_of (Own e) = 0
rank_of (Named n) = 1
rank_of (IssuerStored c) = 2
rank_of (SubjectStored c) = 3
rank_of (Sensitive p) = 4
rank_of (Access p) = 5

-- no record of the first commands, so many, is in order at an index
pub record BehindRecords (k : ℕ) (s : List ℕ) (at : ℕ) (T : Tables) : Type 0 where
  pub begun : eqb T.own 0 ≡ false
  pub out : at < length s → (r : Record) → record_at s at ≡ Ok r → rank_of r < k → in_order T r ≡ false

-- a command by its number: its records are those of that number, and where it has one, no earlier command is in order
pub record Ranked {A : Type 0} (G : Group A) (k : ℕ) : Type 0 where
  pub own : (r : Record) → rank_of r ≡ k → (x : A) × (r ≡ G.wrap x)
  pub same : (T : Tables) (L : List A) → (G.put T L).own ≡ T.own
  pub blocks : (T : Tables) (L : List A) (r : Record) → eqb T.own 0 ≡ false → none L ≡ false → rank_of r < k → in_order (G.put T L) r ≡ false

-- the records of one more command have been read
pub passed-next : {A : Type 0} {G : Group A} {k : ℕ} → Ranked G k → {num : A → ℕ} {s : List ℕ} {start : ℕ} {L : List A} {at : ℕ} {T : Tables}
    → G.put T [] ≡ T → BehindRecords k s start T → Gone G num s start L 0 at
    → BehindRecords (suc k) s at (G.put T L)
passed-next {A} {G} {k} ranked {num} {s} {start} {L} {at} {T} first p g =
    record { begun = ap (λ (e : ℕ). eqb e 0) (ranked.same T L) ∙ p.begun; out = λ more r h l. by_rank more r h l (eqb (rank_of r) k) refl }
  where
    earlier : (M : List A) → L ≡ M → at < length s → (r : Record) → record_at s at ≡ Ok r → rank_of r < k → in_order (G.put T M) r ≡ false
    earlier [] e more r h l =
        let still : at ≡ start = g.still (ap none e) in
        ap (λ (U : Tables). in_order U r) first ∙ p.out (subst (λ (j : ℕ). j < length s) still more) r (subst (λ (j : ℕ). record_at s j ≡ Ok r) still h) l
    earlier (x ∷ M) e more r h l = ranked.blocks T (x ∷ M) r p.begun refl l

    by_rank : at < length s → (r : Record) → record_at s at ≡ Ok r → rank_of r < suc k → (b : Bool) → eqb (rank_of r) k ≡ b → in_order (G.put T L) r ≡ false
    by_rank more r h l true e = let x = ranked.own r (eqb-true (rank_of r) k e) in absurd (g.stop refl more x.0 (h ∙ ap Ok x.1))
    by_rank more r h l false e = earlier L refl more r h (omega (arith, eqb-false (rank_of r) k e))

-- The commands

and-false : (b : Bool) → b && false ≡ false
and-false true = refl
and-false false = refl

-- a test that fails among others
fails-last : (p q : Bool) → q ≡ false → p && q ≡ false
fails-last p q h = ap (λ (b : Bool). p && b) h ∙ and-false p

fails-first : (p q : Bool) → p ≡ false → p && q ≡ false
fails-first p q h = ap (λ (b : Bool). b && q) h

pub names-ranked : Ranked names 1
unfolding names in_order
names-ranked = record { own = own; same = λ T L. refl; blocks = blocks }
  where
    own : (r : Record) → rank_of r ≡ 1 → (x : Name) × (r ≡ Named x)
    own (Own e) h = absurd (omega arith)
    own (Named n) h = (n, refl)
    own (IssuerStored c) h = absurd (omega arith)
    own (SubjectStored c) h = absurd (omega arith)
    own (Sensitive p) h = absurd (omega arith)
    own (Access p) h = absurd (omega arith)

    blocks : (T : Tables) (L : List Name) (r : Record) → eqb T.own 0 ≡ false → none L ≡ false → rank_of r < 1 → in_order (names.put T L) r ≡ false
    blocks T L (Own e) o n h = o
    blocks T L (Named m) o n h = absurd (omega arith)
    blocks T L (IssuerStored c) o n h = absurd (omega arith)
    blocks T L (SubjectStored c) o n h = absurd (omega arith)
    blocks T L (Sensitive p) o n h = absurd (omega arith)
    blocks T L (Access p) o n h = absurd (omega arith)

pub issuer-ranked : Ranked (credentials_of false) 2
unfolding credentials_of in_order
issuer-ranked = record { own = own; same = λ T L. refl; blocks = blocks }
  where
    own : (r : Record) → rank_of r ≡ 2 → (x : Credential) × (r ≡ IssuerStored x)
    own (Own e) h = absurd (omega arith)
    own (Named n) h = absurd (omega arith)
    own (IssuerStored c) h = (c, refl)
    own (SubjectStored c) h = absurd (omega arith)
    own (Sensitive p) h = absurd (omega arith)
    own (Access p) h = absurd (omega arith)

    blocks : (T : Tables) (L : List Credential) (r : Record) → eqb T.own 0 ≡ false → none L ≡ false → rank_of r < 2
        → in_order ((credentials_of false).put T L) r ≡ false
    blocks T L (Own e) o n h = o
    blocks T L (Named m) o n h =
        fails-first (not (eqb T.own 0) && none L && none T.subject_stored && none T.sensitive) (none T.access)
        (fails-first (not (eqb T.own 0) && none L && none T.subject_stored) (none T.sensitive)
        (fails-first (not (eqb T.own 0) && none L) (none T.subject_stored) (fails-last (not (eqb T.own 0)) (none L) n)))
    blocks T L (IssuerStored c) o n h = absurd (omega arith)
    blocks T L (SubjectStored c) o n h = absurd (omega arith)
    blocks T L (Sensitive p) o n h = absurd (omega arith)
    blocks T L (Access p) o n h = absurd (omega arith)

pub subject-ranked : Ranked (credentials_of true) 3
unfolding credentials_of in_order
subject-ranked = record { own = own; same = λ T L. refl; blocks = blocks }
  where
    own : (r : Record) → rank_of r ≡ 3 → (x : Credential) × (r ≡ SubjectStored x)
    own (Own e) h = absurd (omega arith)
    own (Named n) h = absurd (omega arith)
    own (IssuerStored c) h = absurd (omega arith)
    own (SubjectStored c) h = (c, refl)
    own (Sensitive p) h = absurd (omega arith)
    own (Access p) h = absurd (omega arith)

    blocks : (T : Tables) (L : List Credential) (r : Record) → eqb T.own 0 ≡ false → none L ≡ false → rank_of r < 3
        → in_order ((credentials_of true).put T L) r ≡ false
    blocks T L (Own e) o n h = o
    blocks T L (Named m) o n h =
        fails-first (not (eqb T.own 0) && none T.issuer_stored && none L && none T.sensitive) (none T.access)
        (fails-first (not (eqb T.own 0) && none T.issuer_stored && none L) (none T.sensitive)
        (fails-last (not (eqb T.own 0) && none T.issuer_stored) (none L) n))
    blocks T L (IssuerStored c) o n h =
        fails-first (not (eqb T.own 0) && none L && none T.sensitive) (none T.access)
        (fails-first (not (eqb T.own 0) && none L) (none T.sensitive) (fails-last (not (eqb T.own 0)) (none L) n))
    blocks T L (SubjectStored c) o n h = absurd (omega arith)
    blocks T L (Sensitive p) o n h = absurd (omega arith)
    blocks T L (Access p) o n h = absurd (omega arith)

pub sensitive-ranked : Ranked (pairs false) 4
unfolding pairs in_order
sensitive-ranked = record { own = own; same = λ T L. refl; blocks = blocks }
  where
    own : (r : Record) → rank_of r ≡ 4 → (x : Pair) × (r ≡ Sensitive x)
    own (Own e) h = absurd (omega arith)
    own (Named n) h = absurd (omega arith)
    own (IssuerStored c) h = absurd (omega arith)
    own (SubjectStored c) h = absurd (omega arith)
    own (Sensitive p) h = (p, refl)
    own (Access p) h = absurd (omega arith)

    blocks : (T : Tables) (L : List Pair) (r : Record) → eqb T.own 0 ≡ false → none L ≡ false → rank_of r < 4 → in_order ((pairs false).put T L) r ≡ false
    blocks T L (Own e) o n h = o
    blocks T L (Named m) o n h =
        fails-first (not (eqb T.own 0) && none T.issuer_stored && none T.subject_stored && none L) (none T.access)
        (fails-last (not (eqb T.own 0) && none T.issuer_stored && none T.subject_stored) (none L) n)
    blocks T L (IssuerStored c) o n h =
        fails-first (not (eqb T.own 0) && none T.subject_stored && none L) (none T.access)
        (fails-last (not (eqb T.own 0) && none T.subject_stored) (none L) n)
    blocks T L (SubjectStored c) o n h = fails-first (not (eqb T.own 0) && none L) (none T.access) (fails-last (not (eqb T.own 0)) (none L) n)
    blocks T L (Sensitive p) o n h = absurd (omega arith)
    blocks T L (Access p) o n h = absurd (omega arith)

pub access-ranked : Ranked (pairs true) 5
unfolding pairs in_order
access-ranked = record { own = own; same = λ T L. refl; blocks = blocks }
  where
    own : (r : Record) → rank_of r ≡ 5 → (x : Pair) × (r ≡ Access x)
    own (Own e) h = absurd (omega arith)
    own (Named n) h = absurd (omega arith)
    own (IssuerStored c) h = absurd (omega arith)
    own (SubjectStored c) h = absurd (omega arith)
    own (Sensitive p) h = absurd (omega arith)
    own (Access p) h = (p, refl)

    blocks : (T : Tables) (L : List Pair) (r : Record) → eqb T.own 0 ≡ false → none L ≡ false → rank_of r < 5 → in_order ((pairs true).put T L) r ≡ false
    blocks T L (Own e) o n h = o
    blocks T L (Named m) o n h = fails-last (not (eqb T.own 0) && none T.issuer_stored && none T.subject_stored && none T.sensitive) (none L) n
    blocks T L (IssuerStored c) o n h = fails-last (not (eqb T.own 0) && none T.subject_stored && none T.sensitive) (none L) n
    blocks T L (SubjectStored c) o n h = fails-last (not (eqb T.own 0) && none T.sensitive) (none L) n
    blocks T L (Sensitive p) o n h = fails-last (not (eqb T.own 0)) (none L) n
    blocks T L (Access p) o n h = absurd (omega arith)
