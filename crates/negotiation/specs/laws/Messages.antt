-- A message more. Assumes nothing.
use Rattle.std.specs.Prelude.{ℕ, ◌+◌, ◌<◌, ◌≡◌, Bool, true, false, eqb}
use Rattle.std.proofs.Common.{arith, add-zero, sym, ◌∙◌, eq-eqb, ne_eqb}
use Rattle.std.proofs.Math.Bool.{cond}
use Rattle.negotiation.specs.declared.Messages.{Messages}
use Rattle.negotiation.specs.Messages.{message_count, counted}

-- the count rises by one, whoever sends
pub counted-one : (side : ℕ) (m : Messages) → message_count (counted side m) ≡ message_count m + 1
unfolding message_count counted
counted-one side m = go (eqb side 0)
  where
    go : (b : Bool) → m.mediator + cond b 1 0 + (m.requester + cond b 0 1) ≡ m.mediator + m.requester + 1
    go true = omega arith
    go false = omega arith

-- each of the two is within the count
pub within_count : (m : Messages) (n : ℕ) → message_count m < n → (m.mediator < n) × (m.requester < n)
unfolding message_count
within_count m n l = (omega arith, omega arith)

module _ (side : ℕ) (m : Messages) where
  by_side : {b : Bool} → eqb side 0 ≡ b
      → ◌≡◌ {A = Messages} (record { mediator = m.mediator + cond b 1 0; requester = m.requester + cond b 0 1 }) (counted side m)
  unfolding counted
  by_side e = λ i. record { mediator = m.mediator + cond (sym e i) 1 0; requester = m.requester + cond (sym e i) 0 1 }

  pub counted-mediator : side ≡ 0 → ◌≡◌ {A = Messages} (record { mediator = m.mediator + 1; requester = m.requester }) (counted side m)
  counted-mediator e =
      (λ i. record { mediator = m.mediator + 1; requester = sym (add-zero m.requester) i }) ∙ by_side (eq-eqb side 0 e)

  pub counted-requester : (side ≡ 0 → ⊥) → ◌≡◌ {A = Messages} (record { mediator = m.mediator; requester = m.requester + 1 }) (counted side m)
  counted-requester e =
      (λ i. record { mediator = sym (add-zero m.mediator) i; requester = m.requester + 1 }) ∙ by_side (ne_eqb side 0 e)
