-- How many bytes a record has, by its command. Assumes nothing.
use Rattle.std.specs.Prelude.{ℕ, ◌<◌, ◌≤◌, ◌≡◌, refl, Bool, true, false, cond, ◌||◌, List, eqb}
use Rattle.std.proofs.Common.{get_or, sym, ap, ◌∙◌, ⊎_elim, arith, eqb-true, ne_eqb}
use Rattle.expression.specs.declared.Role.{Role}
use Rattle.expression.specs.declared.Credential.{Credential}
use Rattle.expression.specs.declared.Expression.TheVariants as E
use Rattle.word.specs.laws.Bools.{or_cases}
use Rattle.record.specs.declared.Pair.{Pair}
use Rattle.record.specs.declared.Record.{Record}
use Rattle.record.specs.declared.Record.TheVariants.{Own, Named, IssuerStored, SubjectStored, Sensitive, Access}
use Rattle.record.specs.Record.{record_bytes, size_of, size_by}
use Rattle.record.specs.Unreadable.{Whole}
use Rattle.record.specs.laws.RecordExact.{some_size}

-- the first byte of a record
abbrev pub code_of : Record → ℕ
code_of r = get_or (record_bytes r) 0 0

-- a record has as many bytes as its command says
pub size-by : (r : Record) → size_by (code_of r) ≡ size_of r
unfolding record_bytes size_by
size-by (Own n) = refl
size-by (Named n) = refl
size-by (IssuerStored c) = refl
size-by (SubjectStored c) = refl
size-by (Sensitive p) = refl
size-by (Access p) = refl

-- the first byte of a whole record says its size
module _ (s : List ℕ) (at : ℕ) (w : Whole s at) where
  pub whole-size : size_by (get_or s at 0) ≡ size_of w.like
  whole-size = ap size_by w.code ∙ size-by w.like

pub size-stored : (c : ℕ) → (eqb c 18 || eqb c 19) ≡ true → 23 ≡ size_by c
unfolding size_by
size-stored c h = sym (⊎_elim (λ e. ap size_by (eqb-true c 18 e)) (λ e. ap size_by (eqb-true c 19 e)) (or_cases (eqb c 18) (eqb c 19) h))

pub size-pair : (c : ℕ) → (eqb c 20 || eqb c 21) ≡ true → 9 ≡ size_by c
unfolding size_by
size-pair c h = sym (⊎_elim (λ e. ap size_by (eqb-true c 20 e)) (λ e. ap size_by (eqb-true c 21 e)) (or_cases (eqb c 20) (eqb c 21) h))

pub size_none : (c : ℕ) → (c ≡ 16 → ⊥) → (c ≡ 17 → ⊥) → (eqb c 18 || eqb c 19) ≡ false → (eqb c 20 || eqb c 21) ≡ false → 0 ≡ size_by c
unfolding size_by
size_none c g h k l = sym (λ i. cond (ne_eqb c 16 g i) 3 (cond (ne_eqb c 17 h i) 4 (cond (k i) 23 (cond (l i) 9 0))))

-- a role, a credential, a pair: any
role : Role
role = record { entity = 0; name = 0 }

credential : Credential
credential = record { head = role; body = E.Entity 0 }

pair : Pair
pair = record { role = role; other = role }

-- a number that is not zero is that of some record
pub size-like : (c : ℕ) → 0 < size_by c → (r : Record) × (code_of r ≡ c)
unfolding size_by record_bytes
size-like c = go (eqb c 16) (eqb c 17) (eqb c 18) (eqb c 19) (eqb c 20) (eqb c 21) (λ h. sym (eqb-true c 16 h)) (λ h. sym (eqb-true c 17 h))
    (λ h. sym (eqb-true c 18 h)) (λ h. sym (eqb-true c 19 h)) (λ h. sym (eqb-true c 20 h)) (λ h. sym (eqb-true c 21 h))
  where
    go : (o n i s p a : Bool) → (o ≡ true → 16 ≡ c) → (n ≡ true → 17 ≡ c) → (i ≡ true → 18 ≡ c) → (s ≡ true → 19 ≡ c) → (p ≡ true → 20 ≡ c)
        → (a ≡ true → 21 ≡ c) → 0 < cond o 3 (cond n 4 (cond (i || s) 23 (cond (p || a) 9 0))) → (r : Record) × (code_of r ≡ c)
    go true n i s p a ho hn hi hs hp ha h = (Own 0, ho refl)
    go false true i s p a ho hn hi hs hp ha h = (Named (record { name = 0; class = 0 }), hn refl)
    go false false true s p a ho hn hi hs hp ha h = (IssuerStored credential, hi refl)
    go false false false true p a ho hn hi hs hp ha h = (SubjectStored credential, hs refl)
    go false false false false true a ho hn hi hs hp ha h = (Sensitive pair, hp refl)
    go false false false false false true ho hn hi hs hp ha h = (Access pair, ha refl)
    go false false false false false false ho hn hi hs hp ha h = absurd (omega arith)

-- so it is three or more
pub size-least : (c : ℕ) → 0 < size_by c → 3 ≤ size_by c
size-least c h =
    let w = size-like c h in
    let e : size_by c ≡ size_of w.0 = ap size_by (sym w.1) ∙ size-by w.0 in
    omega (arith, some_size w.0)
