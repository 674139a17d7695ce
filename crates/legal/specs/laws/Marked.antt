-- A node that is marked is in a legal state, and what nodes are does not change. Assumes nothing.
use Prim.Native.Nat.{ℕ, zero, suc, ◌<◌}
use Rattle.std.proofs.Common.{arith, sym, ◌∙◌, eqb-true}
use Rattle.std.specs.Prelude.{◌≡◌, true, false, cond, ◌&&◌, ◌||◌, eqb, set}
use Rattle.std.proofs.Math.Path.{refl, ap}
use Rattle.std.proofs.Math.Bool.{Bool, not, or-false}
use mathlib.Core.List.{List, [], ◌∷◌, ◌++◌}
use Rattle.std.specs.Int.Bits.{bit_or}
use Rattle.std.proofs.Math.Dec.{ltb}
use Rattle.expression.specs.declared.Expression.{Expression}
use Rattle.expression.specs.declared.Expression.TheVariants as E
use Rattle.expression.specs.Form.{well_formed}
use Rattle.rt0.specs.Lists.{any}
use Rattle.word.specs.laws.Bools.{false-true, and_parts, and_both}
use Rattle.class.specs.declared.Name.{Name}
use Rattle.class.specs.Typing.{type_of}
use Rattle.graph.specs.declared.Node.{Node}
use Rattle.graph.specs.Graph.{node_in, in_state}
use Rattle.graph.specs.Form.{legal_state}
use Rattle.graph.specs.laws.Form.{legal-few}
use Rattle.graph.specs.Find.{is_node}
use Rattle.graph.specs.Growth.{gains}
use Rattle.justification.specs.InTurn.{in_turn}
use Rattle.damage.specs.Records.{is_typed, node_sound, node_fits}
use Rattle.graph.specs.Processed.{marked_state}

-- States

-- one of the four states
four : (P : ℕ → Type 0) → P 0 → P 1 → P 2 → P 3 → (t : ℕ) → t < 4 → P t
four P a b c d zero l = a
four P a b c d (suc zero) l = b
four P a b c d (suc (suc zero)) l = c
four P a b c d (suc (suc (suc zero))) l = d
four P a b c d (suc (suc (suc (suc t)))) l = absurd (omega arith)

-- with the verifier's bit or the opponent's
abbrev with_bit : Bool → ℕ → ℕ
with_bit b t = cond b (bit_or t 1) (bit_or t 2)

few-bit : (b : Bool) (t : ℕ) → t < 4 → ltb (with_bit b t) 4 ≡ true
few-bit true = four (λ t. ltb (bit_or t 1) 4 ≡ true) refl refl refl refl
few-bit false = four (λ t. ltb (bit_or t 2) 4 ≡ true) refl refl refl refl

some-bit : (b : Bool) (t : ℕ) → t < 4 → ltb 0 (with_bit b t) ≡ true
some-bit true = four (λ t. ltb 0 (bit_or t 1) ≡ true) refl refl refl refl
some-bit false = four (λ t. ltb 0 (bit_or t 2) ≡ true) refl refl refl refl

goal-bit : (b : Bool) (t : ℕ) → t < 4 → (eqb t 1 || eqb t 3) ≡ true → (eqb (with_bit b t) 1 || eqb (with_bit b t) 3) ≡ true
goal-bit true = four (λ t. (eqb t 1 || eqb t 3) ≡ true → (eqb (bit_or t 1) 1 || eqb (bit_or t 1) 3) ≡ true) (λ h. refl) (λ h. refl) (λ h. refl) (λ h. refl)
goal-bit false =
    four (λ t. (eqb t 1 || eqb t 3) ≡ true → (eqb (bit_or t 2) 1 || eqb (bit_or t 2) 3) ≡ true) (λ h. absurd (false-true h)) (λ h. refl)
    (λ h. absurd (false-true h)) (λ h. refl)

full-bit : (b : Bool) → eqb (with_bit b 3) 3 ≡ true
full-bit true = refl
full-bit false = refl

legal-bit : (b : Bool) (x : Expression) (t : ℕ) → t < 4 → legal_state x t ≡ true → legal_state x (with_bit b t) ≡ true
unfolding legal_state
legal-bit b (E.Entity a) t l h = ap (λ (n : ℕ). eqb (with_bit b n) 3) (eqb-true t 3 h) ∙ full-bit b
legal-bit b (E.Role a) t l h = few-bit b t l
legal-bit b (E.Linked a r) t l h = few-bit b t l
legal-bit b (E.Intersection p) t l h = and_both (ltb 0 (with_bit b t)) (ltb (with_bit b t) 4) (some-bit b t l) (few-bit b t l)
legal-bit b (E.Goal r) t l h = goal-bit b t l h

gains-bit : (b : Bool) (t : ℕ) → t < 4 → gains t (with_bit b t) ≡ true
gains-bit true = four (λ t. gains t (bit_or t 1) ≡ true) refl refl refl refl
gains-bit false = four (λ t. gains t (bit_or t 2) ≡ true) refl refl refl refl

module _ (s : ℕ) (n : Node) (h : legal_state n.expression n.state ≡ true) where
  pub marked-legal : legal_state n.expression (marked_state s n) ≡ true
  unfolding marked_state
  marked-legal = legal-bit (eqb n.verifier s) n.expression n.state (legal-few n.expression n.state h) h

  pub marked-gains : gains n.state (marked_state s n) ≡ true
  unfolding marked_state
  marked-gains = gains-bit (eqb n.verifier s) n.state (legal-few n.expression n.state h)

-- Nodes in turn

or_assoc : (a b c : Bool) → (a || (b || c)) ≡ ((a || b) || c)
or_assoc true b c = refl
or_assoc false b c = refl

any_last : (f : Node → Bool) (xs : List Node) (x : Node) → any f (xs ++ (x ∷ [])) ≡ (any f xs || f x)
any_last f [] x = or-false (f x)
any_last f (y ∷ ys) x = ap (λ (r : Bool). f y || r) (any_last f ys x) ∙ or_assoc (f y) (any f ys) (f x)

-- the same nodes but for their states
abbrev Alike : List Node → List Node → Type 0
Alike b d = (x : Expression) (v s : ℕ) → any (is_node x v s) b ≡ any (is_node x v s) d

alike-more : (b d : List Node) (n : Node) (t : ℕ) → Alike b d → Alike (b ++ (n ∷ [])) (d ++ (in_state t n ∷ []))
alike-more b d n t a x v s = any_last (is_node x v s) b n ∙ ap (λ (r : Bool). r || is_node x v s n) (a x v s) ∙ sym (any_last (is_node x v s) d (in_state t n))

module _ (names : List Name) where
  sound-marked : (n : Node) (t : ℕ) → legal_state n.expression t ≡ true → node_sound names n ≡ true → node_sound names (in_state t n) ≡ true
  unfolding node_sound
  sound-marked n t l h =
      let f : Bool = well_formed n.expression && ltb 0 n.subject && ltb n.verifier 2 in
      let a = and_parts (f && legal_state n.expression n.state) (is_typed (type_of names n.expression)) h in
      let b = and_parts f (legal_state n.expression n.state) a.0 in
      and_both (f && legal_state n.expression t) (is_typed (type_of names n.expression)) (and_both f (legal_state n.expression t) b.0 l) a.1

  fits-alike : (b d : List Node) (n : Node) → Alike b d → node_fits names b n ≡ node_fits names d n
  unfolding node_fits
  fits-alike b d n a = ap (λ (r : Bool). node_sound names n && not r) (a n.expression n.verifier n.subject)

  fits-marked : (b d : List Node) (n : Node) (t : ℕ) → Alike b d → legal_state n.expression t ≡ true → node_fits names b n ≡ true
      → node_fits names d (in_state t n) ≡ true
  unfolding node_fits
  fits-marked b d n t a l h =
      let p = and_parts (node_sound names n) (not (any (is_node n.expression n.verifier n.subject) b)) h in
      and_both (node_sound names (in_state t n)) (not (any (is_node n.expression n.verifier n.subject) d)) (sound-marked n t l p.0)
      (ap not (sym (a n.expression n.verifier n.subject)) ∙ p.1)

  turn-alike : (b d xs : List Node) → Alike b d → in_turn (node_fits names) b xs ≡ in_turn (node_fits names) d xs
  unfolding in_turn
  turn-alike b d [] a = refl
  turn-alike b d (x ∷ xs) a = λ i. fits-alike b d x a i && turn-alike (b ++ (x ∷ [])) (d ++ (x ∷ [])) xs (alike-more b d x x.state a) i

  -- nodes still fit once one of them is marked
  pub turn-marked : (b d xs : List Node) (i t : ℕ) → Alike b d → legal_state (node_in xs i).expression t ≡ true → in_turn (node_fits names) b xs ≡ true
      → in_turn (node_fits names) d (set xs i (in_state t (node_in xs i))) ≡ true
  unfolding in_turn
  turn-marked b d [] i t a l h = refl
  turn-marked b d (x ∷ xs) zero t a l h =
      let p = and_parts (node_fits names b x) (in_turn (node_fits names) (b ++ (x ∷ [])) xs) h in
      and_both (node_fits names d (in_state t x)) (in_turn (node_fits names) (d ++ (in_state t x ∷ [])) xs) (fits-marked b d x t a l p.0)
      (sym (turn-alike (b ++ (x ∷ [])) (d ++ (in_state t x ∷ [])) xs (alike-more b d x t a)) ∙ p.1)
  turn-marked b d (x ∷ xs) (suc i) t a l h =
      let p = and_parts (node_fits names b x) (in_turn (node_fits names) (b ++ (x ∷ [])) xs) h in
      and_both (node_fits names d x) (in_turn (node_fits names) (d ++ (x ∷ [])) (set xs i (in_state t (node_in xs i)))) (sym (fits-alike b d x a) ∙ p.0)
      (turn-marked (b ++ (x ∷ [])) (d ++ (x ∷ [])) xs i t (alike-more b d x x.state a) l p.1)
