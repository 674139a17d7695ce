-- Whose turn it is, by the counts: the first message is the mediator's, and counts that agree do so with a message in turn. Assumes nothing.
use Prim.Native.Nat.{ℕ, ◌+◌, ◌%◌, ◌<◌}
use Rattle.std.proofs.Common.{arith, sym, ◌∙◌}
use Rattle.std.specs.Prelude.{◌≡◌, true, eqb}
use Rattle.std.proofs.Math.Path.{ap}
use Rattle.std.proofs.Math.Logic.{⊎_elim}
use borrow.Author.Tests.{eqb-true, eq-eqb}
use Rattle.word.specs.laws.Bools.{or_left, or_right}
use Rattle.negotiation.specs.declared.Messages.{Messages}
use Rattle.negotiation.specs.Messages.{message_count, counted}
use Rattle.negotiation.specs.laws.Messages.{counted-mediator, counted-requester}
use Rattle.damage.specs.Header.{counts_agree}
use Rattle.damage.specs.laws.Going.{agree-cases}
use Rattle.standing.specs.Turn.{sends}

module _ (v : ℕ) (m : Messages) (turn : sends v m ≡ true) where
  in-turn : message_count m % 2 ≡ v
  unfolding sends
  in-turn = eqb-true (message_count m % 2) v turn

  -- who sends is the mediator or the requester
  pub sender-side : v < 2
  sender-side = omega (arith, in-turn)

  -- while none is counted, the mediator sends
  pub first-side : message_count m ≡ 0 → v ≡ 0
  first-side z = omega (arith, in-turn, z)

  pub agree-next : counts_agree m ≡ true → counts_agree (counted v m) ≡ true
  unfolding message_count counts_agree
  agree-next h =
      let a : ℕ = m.mediator in
      let b : ℕ = m.requester in
      ⊎_elim
      (λ e. ap counts_agree (sym (counted-mediator v m (omega (arith, in-turn, e))))
      ∙ or_right (eqb (a + 1) b) (eqb (a + 1) (b + 1)) (eq-eqb (a + 1) (b + 1) (omega (arith, e))))
      (λ e. ap counts_agree (sym (counted-requester v m (λ z. omega (arith, in-turn, e, z))))
      ∙ or_left (eqb a (b + 1)) (eqb a (b + 1 + 1)) (eq-eqb a (b + 1) e))
      (agree-cases m h)
