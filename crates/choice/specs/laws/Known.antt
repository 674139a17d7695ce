-- What the code finds of a sensitive role, and of an Ack or AC target. Assumes nothing.
use Prim.Native.Nat.{ℕ, ◌≤◌, ◌<◌}
use Rattle.std.proofs.Common.{arith, ◌∙◌, le-ltb, lt-ltb}
use Rattle.std.specs.Prelude.{◌≡◌, refl, Bool, true, false, not, ◌&&◌, List, [], ◌∷◌, eqb, length, get_or, Option, Some, None}
use Rattle.std.proofs.Math.Path.{sym, ap}
use Rattle.std.proofs.Math.Bool.{cond}
use Rattle.std.proofs.lemmas.Bool.{not-true, not-false}
use Rattle.expression.specs.declared.Role.{Role}
use Rattle.expression.specs.declared.Expression.TheVariants as E
use Rattle.expression.specs.Same.{same_role}
use Rattle.rt0.specs.Lists.{any}
use Rattle.word.specs.laws.Bools.{or_left, or_right, false-true}
use Rattle.record.specs.declared.Pair.{Pair}
use Rattle.tables.specs.Tables.{Tables}
use Rattle.tables.specs.Lookup.{holds, is_sensitive, other_of}
use Rattle.tables.specs.Public.{Hidden, hidden_of}
use Rattle.propagation.specs.Flags.{at}
use Rattle.graph.specs.Find.{find_node}
use Rattle.graph.specs.Propagated.{satisfied_b}
use Rattle.justification.specs.laws.Justified.{Says}
use Rattle.negotiation.specs.State.{State}
use Rattle.moves.specs.declared.Holding.{Holding}
use Rattle.moves.specs.declared.Holding.TheVariants.{Absent}
use Rattle.moves.specs.declared.Known.{Known}
use Rattle.moves.specs.declared.Known.TheVariants.{Waiting, Seen}
use Rattle.moves.specs.Known.{policy_of, holding_of, is_acknowledged}
use Rattle.moves.specs.laws.Known.{held-exact}

-- An Ack or AC target

module _ (S : State) (r : Role) {n i : ℕ} {sat : List ℕ} (l : length S.nodes ≡ n)
    (p : i ≡ find_node S.nodes (E.Role r) S.header.side S.header.other) (s : Says S.nodes S.edges sat) where
  pub acknowledged-absent : n ≤ i → false ≡ is_acknowledged S r
  unfolding is_acknowledged
  acknowledged-absent h =
      let j : ℕ = find_node S.nodes (E.Role r) S.header.side S.header.other in
      sym (ap (λ (b : Bool). b && at (satisfied_b S.nodes S.edges) j) (le-ltb j (length S.nodes) (omega (arith, l, p))))

  pub acknowledged-flag : i < n → eqb (get_or sat i 0) 1 ≡ is_acknowledged S r
  unfolding is_acknowledged
  acknowledged-flag h =
      let j : ℕ = find_node S.nodes (E.Role r) S.header.side S.header.other in
      (s.says i ∙ ap (at (satisfied_b S.nodes S.edges)) p)
      ∙ sym (ap (λ (b : Bool). b && at (satisfied_b S.nodes S.edges) j) (lt-ltb j (length S.nodes) (omega (arith, l, p))))

-- What we hold

-- a role whose Ack role is found is sensitive
pub found-sensitive : (P : List Pair) (a ack : Role) → other_of P a ≡ Some ack → is_sensitive P a ≡ true
unfolding other_of is_sensitive
found-sensitive [] a ack h = absurd (absent-found h)
  where
    is_found : Option Role → Bool
    is_found (Some r) = true
    is_found None = false

    absent-found : None ≡ Some ack → ⊥
    absent-found e = false-true (ap is_found e)
found-sensitive (p ∷ ps) a ack h = go (same_role p.role a) refl h (λ k. found-sensitive ps a ack k)
  where
    go : (b : Bool) → same_role p.role a ≡ b → cond b (Some p.other) (other_of ps a) ≡ Some ack
        → (other_of ps a ≡ Some ack → is_sensitive ps a ≡ true) → is_sensitive (p ∷ ps) a ≡ true
    go true e k ih = or_left (same_role p.role a) (any (λ (q : Pair). same_role q.role a) ps) e
    go false e k ih = or_right (same_role p.role a) (any (λ (q : Pair). same_role q.role a) ps) (ih k)

module _ (T : Tables) (a : Role) (s : is_sensitive T.sensitive a ≡ true) {b : Bool} (p : b ≡ holds T.own T.subject_stored a) where
  held : (x : Bool) → b ≡ x → cond x (policy_of (other_of T.access a)) Absent ≡ holding_of (hidden_of T) a
  unfolding holding_of hidden_of
  held x h = sym (ap (λ (y : Bool). cond y (policy_of (other_of T.access a)) Absent) (held-exact T.own T.sensitive T.subject_stored a s ∙ (sym p ∙ h)))

  pub holding-absent : not b ≡ true → Absent ≡ holding_of (hidden_of T) a
  holding-absent h = held false (not-true b h)

  pub holding-policy : not b ≡ false → {o : Option Role} {h : Holding} → o ≡ other_of T.access a → h ≡ policy_of o → h ≡ holding_of (hidden_of T) a
  holding-policy z q e = e ∙ (ap policy_of q ∙ held true (not-false b z))

-- What is known

abbrev pub known_as : State → Hidden → Role → Role → Known
known_as S H a ack = cond (is_acknowledged S ack) (Seen (holding_of H a)) Waiting

module _ (S : State) (H : Hidden) (a ack : Role) {b : Bool} (p : b ≡ is_acknowledged S ack) where
  pub known-waiting : not b ≡ true → Waiting ≡ known_as S H a ack
  known-waiting h = sym (ap (λ (x : Bool). cond x (Seen (holding_of H a)) Waiting) (sym p ∙ not-true b h))

  pub known-seen : not b ≡ false → {h : Holding} → h ≡ holding_of H a → Seen h ≡ known_as S H a ack
  known-seen z e = ap Seen e ∙ sym (ap (λ (x : Bool). cond x (Seen (holding_of H a)) Waiting) (sym p ∙ not-false b z))
