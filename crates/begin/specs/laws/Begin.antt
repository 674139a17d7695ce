-- What begin leads to, test by test. Assumes nothing.
use Rattle.std.specs.Prelude.{ℕ, zero, suc, ◌≡◌, refl, Bool, true, false, ◌||◌, List, eqb, length, Result, Ok, Err}
use Rattle.std.proofs.Math.Path.{sym, ap}
use Rattle.std.proofs.Common.{◌∙◌, eq-eqb, ne_eqb}
use Rattle.std.proofs.Math.Bool.{cond}
use Rattle.numbers.specs.Sizes.{NEGOTIATION-BYTES}
use Rattle.expression.specs.declared.Role.{Role}
use Rattle.rt0.specs.From.{role_of}
use Rattle.tables.specs.laws.Tables.{tables_of}
use Rattle.tables.specs.Check.{or_else, read_tables}
use Rattle.tables.specs.laws.Check.{outcome_of}
use Rattle.tables.specs.declared.House.{House}
use Rattle.negotiation.specs.State.{State, fresh_state, within}
use Rattle.negotiation.specs.Layout.{state_bytes}
use Rattle.begin.specs.Begin.{is_requester, role_number, other_number, begin_number, side_of, begun_state, behind_tables, begin_of}
use Rattle.numbers.specs.Answer.{Answer, refused, accepted, answer_of, no_value, buffer_after, judged}
use Rattle.tables.specs.Tables.{Tables}
use Rattle.numbers.specs.Refusals.{LENGTH}

-- The wanted role and the other end

module _ (entity name : ℕ) where
  by_tests_lem : (a b : Bool) → a ≡ is_requester entity name → b ≡ (eqb entity 0 || eqb name 0) → ◌≡◌ {A = ℕ} (cond a 0 (cond b 3 0)) (role_number entity name)
  unfolding role_number
  by_tests_lem a b h k = λ i. cond (h i) 0 (cond (k i) 3 0)

  module _ {a : Bool} (h : a ≡ is_requester entity name) where
    -- no role is wanted
    pub role-none : a ≡ true → 0 ≡ role_number entity name
    role-none e = by_tests_lem true (eqb entity 0 || eqb name 0) (sym e ∙ h) refl

    -- just one zero
    pub role-zero : a ≡ false → (eqb entity 0 || eqb name 0) ≡ true → 3 ≡ role_number entity name
    role-zero e z = by_tests_lem false true (sym e ∙ h) (sym z)

    pub role-free : a ≡ false → (eqb entity 0 || eqb name 0) ≡ false → 0 ≡ role_number entity name
    role-free e z = by_tests_lem false false (sym e ∙ h) (sym z)

-- the side, by whether a role is wanted
pub side-by : (entity name : ℕ) {a : Bool} → a ≡ is_requester entity name → (b : Bool) → a ≡ b → ◌≡◌ {A = ℕ} (cond b 1 0) (side_of entity name)
side-by entity name h b e = λ i. cond ((sym e ∙ h) i) 1 0

-- The call

-- the answer and the bytes that a call leaves
abbrev pub Leaves : List ℕ → Answer State → ℕ → List ℕ → Type 0
Leaves n x r b = (r ≡ answer_of no_value x) × (b ≡ buffer_after state_bytes n x)

-- a refused call leaves the bytes as they were
leaves-refused : (n : List ℕ) (x : Answer State) (k : ℕ) → x ≡ refused k → Leaves n x k n
leaves-refused n x k h = (sym (ap (answer_of no_value) h), sym (ap (buffer_after state_bytes n) h))

-- a number that is not zero refuses
judged-refused : (k : ℕ) (S : State) → (k ≡ 0 → ⊥) → judged k (accepted S) ≡ refused k
judged-refused zero S z = absurd (z refl)
judged-refused (suc k) S z = refl

-- of two numbers the first decides, where it is not zero
or-else-first : (k m : ℕ) → (k ≡ 0 → ⊥) → or_else k m ≡ k
or-else-first k m z = ap (λ (b : Bool). cond b m k) (ne_eqb k 0 z)

or-else-second : (k m : ℕ) → k ≡ 0 → or_else k m ≡ m
or-else-second k m z = ap (λ (b : Bool). cond b m k) (eq-eqb k 0 z)

-- a negotiation of another length
pub begin-outside : (s n : List ℕ) (other entity name : ℕ) → (length n ≡ NEGOTIATION-BYTES → ⊥) → Leaves n (begin_of s n other entity name) 1 n
unfolding begin_of
begin-outside s n other entity name h =
    leaves-refused n _ 1 (ap (λ (b : Bool). cond b (behind_tables other entity name (read_tables s)) (refused LENGTH)) (ne_eqb (length n) NEGOTIATION-BYTES h))

module _ (s n : List ℕ) (other entity name : ℕ) (d : Result House ℕ) (size : length n ≡ NEGOTIATION-BYTES) (h : outcome_of d ≡ read_tables s) where
  inside : (o : Answer Tables) → outcome_of d ≡ o → begin_of s n other entity name ≡ behind_tables other entity name o
  unfolding begin_of
  inside o q =
      ap (λ (b : Bool). cond b (behind_tables other entity name (read_tables s)) (refused LENGTH)) (eq-eqb (length n) NEGOTIATION-BYTES size)
      ∙ ap (behind_tables other entity name) (sym h ∙ q)

  -- the tables are refused
  pub begin-tables : {k : ℕ} → d ≡ Err k → Leaves n (begin_of s n other entity name) k n
  begin-tables {k} z = leaves-refused n _ k (inside (refused k) (ap outcome_of z))

  module _ {house : House} (ok : d ≡ Ok house) {k : ℕ} (role : k ≡ role_number entity name) where
    numbers : (m : ℕ) → begin_number (tables_of house) other entity name ≡ m
        → begin_of s n other entity name ≡ judged m (accepted (begun_state (tables_of house) other entity name))
    numbers m q =
        inside (accepted (tables_of house)) (ap outcome_of ok)
        ∙ ap (λ (j : ℕ). judged j (accepted (begun_state (tables_of house) other entity name))) q

    -- the role is refused
    pub begin-role : (k ≡ 0 → ⊥) → Leaves n (begin_of s n other entity name) k n
    unfolding begin_number tables_of
    begin-role z =
        leaves-refused n _ k (numbers k (ap (λ (j : ℕ). or_else j (other_number house.own other)) (sym role) ∙ or-else-first k _ z) ∙ judged-refused k _ z)

    module _ (free : k ≡ 0) {m : ℕ} (end : m ≡ other_number house.own other) where
      second : begin_number (tables_of house) other entity name ≡ m
      unfolding begin_number tables_of
      second = (λ i. or_else (sym role i) (sym end i)) ∙ or-else-second k m free

      -- the other end is refused
      pub begin-other : (m ≡ 0 → ⊥) → Leaves n (begin_of s n other entity name) m n
      begin-other z = leaves-refused n _ m (numbers m second ∙ judged-refused m _ z)

      -- the fresh negotiation
      pub begin-fresh : m ≡ 0 → {S : State} {side : ℕ} {b : List ℕ} → side ≡ side_of entity name
          → S ≡ fresh_state side house.own other (role_of entity name) → b ≡ state_bytes S
          → Leaves n (begin_of s n other entity name) 0 b
      unfolding begun_state tables_of
      begin-fresh z e f w =
          let q = numbers 0 (second ∙ z) in (
            sym (ap (answer_of no_value) q),
            w ∙ ap state_bytes (f ∙ ap (λ (x : ℕ). fresh_state x house.own other (role_of entity name)) e)
                ∙ sym (ap (buffer_after state_bytes n) q),
          )

-- a fresh negotiation is within the sizes
pub within-fresh : (S : State) (side own other : ℕ) (wanted : Role) → S ≡ fresh_state side own other wanted → within S ≡ true
unfolding within fresh_state
within-fresh S side own other wanted h = ap within h
