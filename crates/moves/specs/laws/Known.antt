-- Where the tables of two runs differ, and until when what is known of the sensitive roles is the same in both (document 01, "Two runs").
-- Assumes nothing.
use Rattle.std.specs.Prelude.{ℕ, ◌≡◌, refl, ◌⊎◌, ◌↔◌, Bool, true, false, not, cond, ◌&&◌}
use Rattle.std.proofs.Common.{sym, ◌∙◌, ap, ⊎_elim}
use mathlib.Core.List.{List, [], ◌∷◌, Memᴰ}
use Rattle.expression.specs.declared.Role.{Role}
use Rattle.expression.specs.declared.Credential.{Credential}
use Rattle.expression.specs.Same.{same_role}
use Rattle.expression.specs.laws.Same.{same_role-eq, eq-same_role}
use Rattle.rt0.specs.Lists.{any}
use Rattle.rt0.specs.laws.Lists.{any-find, any_here}
use Rattle.word.specs.laws.Bools.{and_parts, and_both, false-true, or-neither, bool_iff}
use Rattle.record.specs.declared.Pair.{Pair}
use Rattle.tables.specs.Tables.{Tables}
use Rattle.tables.specs.Lookup.{holds, is_sensitive, other_of}
use Rattle.tables.specs.Public.{Hidden, held_of, hidden_of}
use Rattle.tables.specs.laws.Public.{held-mem, held-find}
use Rattle.propagation.specs.laws.Flags.{not-of}
use Rattle.negotiation.specs.State.{State}
use Rattle.moves.specs.declared.Holding.{Holding}
use Rattle.moves.specs.declared.Holding.TheVariants.{Absent, Free, Guarded}
use Rattle.moves.specs.declared.Known.TheVariants.{Waiting, Seen}
use Rattle.moves.specs.Known.{policy_of, holding_of, is_acknowledged, known_of}

-- held alike, and under the same access policy
unfoldable pub same_holding : Holding → Holding → Bool
same_holding Absent Absent = true
same_holding Absent Free = false
same_holding Absent (Guarded b) = false
same_holding Free Absent = false
same_holding Free Free = true
same_holding Free (Guarded b) = false
same_holding (Guarded a) Absent = false
same_holding (Guarded a) Free = false
same_holding (Guarded a) (Guarded b) = same_role a b

pub same-holding-eq : (x y : Holding) → same_holding x y ≡ true → x ≡ y
unfolding same_holding
same-holding-eq Absent Absent h = refl
same-holding-eq Absent Free h = absurd (false-true h)
same-holding-eq Absent (Guarded b) h = absurd (false-true h)
same-holding-eq Free Absent h = absurd (false-true h)
same-holding-eq Free Free h = refl
same-holding-eq Free (Guarded b) h = absurd (false-true h)
same-holding-eq (Guarded a) Absent h = absurd (false-true h)
same-holding-eq (Guarded a) Free h = absurd (false-true h)
same-holding-eq (Guarded a) (Guarded b) h = ap Guarded (same_role-eq a b h)

same-own : (x : Holding) → same_holding x x ≡ true
unfolding same_holding
same-own Absent = refl
same-own Free = refl
same-own (Guarded a) = eq-same_role a a refl

pub eq-same-holding : (x y : Holding) → x ≡ y → same_holding x y ≡ true
eq-same-holding x y e = ap (same_holding x) (sym e) ∙ same-own x

-- A sensitive role differs where one of the tables holds it and the other does not, or where both hold it under different access policies
abbrev pub Differs : Tables → Tables → Role → Type 0
Differs T U r = holding_of (hidden_of T) r ≡ holding_of (hidden_of U) r → ⊥

-- "A role is held if 0x13 has its direct credential"
pub held-exact : (own : ℕ) (P : List Pair) (C : List Credential) (r : Role) → is_sensitive P r ≡ true → any (same_role r) (held_of own P C) ≡ holds own C r
held-exact own P C r s =
    bool_iff (any (same_role r) (held_of own P C)) (holds own C r) there (λ h. any_here (same_role r) (held-mem own P C r s h) (eq-same_role r r refl))
  where
    there : any (same_role r) (held_of own P C) ≡ true → holds own C r ≡ true
    there h = let f = any-find (same_role r) (held_of own P C) h in ap (holds own C) (same_role-eq r f.0 f.2) ∙ (held-find own P C f.0 f.1).1

-- a sensitive role that both hold or neither, under the same access policy or none, does not differ
pub holding-alike : (T U : Tables) (r : Role) → T.sensitive ≡ U.sensitive → is_sensitive T.sensitive r ≡ true
    → holds T.own T.subject_stored r ≡ holds U.own U.subject_stored r → other_of T.access r ≡ other_of U.access r
    → holding_of (hidden_of T) r ≡ holding_of (hidden_of U) r
unfolding holding_of hidden_of
holding-alike T U r e s h a =
    let t = held-exact T.own T.sensitive T.subject_stored r s in
    let u = held-exact U.own U.sensitive U.subject_stored r (sym (ap (λ (P : List Pair). is_sensitive P r) e) ∙ s) in
    let b : any (same_role r) (held_of T.own T.sensitive T.subject_stored)
    ≡ any (same_role r) (held_of U.own U.sensitive U.subject_stored) = t ∙ h ∙ sym u in
    λ i. cond (b i) (policy_of (a i)) Absent

abbrev pub differing : Hidden → Hidden → Pair → Bool
differing H K p = not (same_holding (holding_of H p.role) (holding_of K p.role))

-- the Ack target of one of these roles, on which the two differ, is satisfied
abbrev pub disclosed_among : Hidden → Hidden → State → List Pair → Bool
disclosed_among H K S P = any (λ (p : Pair). differing H K p && is_acknowledged S p.other) P

-- a differing role's Ack target is satisfied
unfoldable pub is_disclosed : Tables → Tables → State → Bool
is_disclosed T U S = disclosed_among (hidden_of T) (hidden_of U) S T.sensitive

-- such a role
pub record Disclosed (T U : Tables) (S : State) : Type 0 where
  pub pair : Pair
  pub stands : Memᴰ pair T.sensitive
  pub differs : Differs T U pair.role
  pub acknowledged : is_acknowledged S pair.other ≡ true

not-true : (b : Bool) → not b ≡ true → b ≡ true → ⊥
not-true true h k = false-true h
not-true false h k = false-true k

true-not : (b : Bool) → (b ≡ true → ⊥) → not b ≡ true
true-not true h = absurd (h refl)
true-not false h = refl

pub disclosed-exact : (T U : Tables) (S : State) → (is_disclosed T U S ≡ true) ↔ Disclosed T U S
unfolding is_disclosed
disclosed-exact T U S = (there, back)
  where
    test : Pair → Bool
    test p = differing (hidden_of T) (hidden_of U) p && is_acknowledged S p.other

    there : any test T.sensitive ≡ true → Disclosed T U S
    there h =
        let r = any-find test T.sensitive h in
        let p : Pair = r.0 in
        let q = and_parts (differing (hidden_of T) (hidden_of U) p) (is_acknowledged S p.other) r.2 in
        record {
          pair = p;
          stands = r.1;
          differs = λ e. not-true (same_holding (holding_of (hidden_of T) p.role) (holding_of (hidden_of U) p.role)) q.0 (eq-same-holding _ _ e);
          acknowledged = q.1;
        }

    back : Disclosed T U S → any test T.sensitive ≡ true
    back o =
        let p : Pair = o.pair in
        any_here test o.stands
        (and_both (differing (hidden_of T) (hidden_of U) p) (is_acknowledged S p.other)
        (true-not (same_holding (holding_of (hidden_of T) p.role) (holding_of (hidden_of U) p.role)) (λ h. o.differs (same-holding-eq _ _ h)))
        o.acknowledged)

-- What is known
