-- The rules for a role about us: by whether it is sensitive (section 5.4). Assumes nothing.
use Rattle.std.specs.Prelude.{ℕ, ◌≡◌, Bool, ◌||◌, Option, Some, None}
use Rattle.std.proofs.Math.Path.{refl, ap}
use Rattle.std.proofs.Common.{sym}
use Rattle.std.proofs.Math.Bool.{true, false, not, cond}
use mathlib.Core.List.{List, [], ◌∷◌}
use Rattle.expression.specs.declared.Role.{Role}
use Rattle.expression.specs.declared.Expression.TheVariants as E
use Rattle.expression.specs.Same.{same_role}
use Rattle.expression.specs.laws.Same.{same_role-eq}
use Rattle.expression.specs.Kinds.{is_entity}
use Rattle.word.specs.laws.Bools.{false-true}
use Rattle.record.specs.declared.Pair.{Pair}
use Rattle.tables.specs.Lookup.{is_sensitive, other_of}
use Rattle.tables.specs.Public.{Hidden, keep}
use Rattle.graph.specs.declared.Node.{Node}
use Rattle.negotiation.specs.State.{State}
use Rattle.moves.specs.Frontiers.{bodies_of}
use Rattle.moves.specs.Known.{known_of}
use Rattle.moves.specs.Candidates.{Plan}
use Rattle.moves.specs.Rules.{End, implications, to_subject, then_mark, control_edge, sensitive_rules, sens_frontier, own_rules}
use Rattle.choice.specs.laws.Known.{known_as}

is_found : Option Role → Bool
is_found (Some r) = true
is_found None = false

other_role : Role → Option Role → Role
other_role a (Some r) = r
other_role a None = a

pub absent-sensitive : (P : List Pair) (a : Role) → other_of P a ≡ None → is_sensitive P a ≡ false
unfolding other_of is_sensitive is_found
absent-sensitive [] a h = refl
absent-sensitive (p ∷ ps) a h = go (same_role p.role a) h (λ k. absent-sensitive ps a k)
  where
    go : (b : Bool) → cond b (Some p.other) (other_of ps a) ≡ None → (other_of ps a ≡ None → is_sensitive ps a ≡ false)
        → (b || is_sensitive ps a) ≡ false
    go true k ih = absurd (false-true (sym (ap is_found k)))
    go false k ih = ih k

module _ (o : End) (i : ℕ) (n : Node) (a : Role) (H : Hidden) (S : State) where
  abbrev rest_plan : Role → Plan
  rest_plan ack =
      sensitive_rules o i n (control_edge o n ack) (implications n
      (keep (λ x. not (is_entity x)) (sens_frontier o (bodies_of o.tables.subject_stored (E.Role a))))) (known_as S H a ack)

  pub own-plain : (P : List Pair) → other_of P a ≡ None → own_rules o i n a (known_of H P S) ≡ then_mark (to_subject n (sens_frontier o (E.Role a ∷ [])))
  unfolding other_of known_of is_found
  own-plain [] h = refl
  own-plain (p ∷ ps) h = go (same_role p.role a) h (λ k. own-plain ps k)
    where
      go : (b : Bool) → cond b (Some p.other) (other_of ps a) ≡ None
          → (other_of ps a ≡ None → own_rules o i n a (known_of H ps S) ≡ then_mark (to_subject n (sens_frontier o (E.Role a ∷ []))))
          → cond b (sensitive_rules o i n (control_edge o n p.other)
          (implications n (keep (λ x. not (is_entity x)) (sens_frontier o (bodies_of o.tables.subject_stored (E.Role a)))))
          (known_as S H p.role p.other)) (own_rules o i n a (known_of H ps S))
          ≡ then_mark (to_subject n (sens_frontier o (E.Role a ∷ [])))
      go true k ih = absurd (false-true (sym (ap is_found k)))
      go false k ih = ih k

  pub own-sensitive : (P : List Pair) (ack : Role) → other_of P a ≡ Some ack → own_rules o i n a (known_of H P S) ≡ rest_plan ack
  unfolding other_of known_of is_found other_role
  own-sensitive [] ack h = absurd (false-true (ap is_found h))
  own-sensitive (p ∷ ps) ack h = go (same_role p.role a) refl h (λ k. own-sensitive ps ack k)
    where
      go : (b : Bool) → same_role p.role a ≡ b → cond b (Some p.other) (other_of ps a) ≡ Some ack
          → (other_of ps a ≡ Some ack → own_rules o i n a (known_of H ps S) ≡ rest_plan ack)
          → cond b (sensitive_rules o i n (control_edge o n p.other)
          (implications n (keep (λ x. not (is_entity x)) (sens_frontier o (bodies_of o.tables.subject_stored (E.Role a)))))
          (known_as S H p.role p.other)) (own_rules o i n a (known_of H ps S))
          ≡ rest_plan ack
      go true e k ih =
          let r : p.role ≡ a = same_role-eq p.role a e in
          let q : p.other ≡ ack = ap (other_role a) k in
          λ t. sensitive_rules o i n (control_edge o n (q t))
          (implications n (keep (λ x. not (is_entity x)) (sens_frontier o (bodies_of o.tables.subject_stored (E.Role a))))) (known_as S H (r t) (q t))
      go false e k ih = ih k
