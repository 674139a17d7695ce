-- The two ends, by their tests. Assumes nothing.
use Rattle.std.specs.Prelude.{ℕ, ◌≡◌, Bool}
use Rattle.std.proofs.Common.{sym, eq-eqb, ne_eqb}
use Rattle.std.proofs.Math.Path.{ap}
use Rattle.std.proofs.Math.Bool.{cond}
use Rattle.negotiation.specs.declared.Header.{Header}
use Rattle.negotiation.specs.Ends.{requester, entity_of}

module _ (h : Header) where
  pub requester-mediator : h.side ≡ 0 → h.other ≡ requester h
  unfolding requester
  requester-mediator e = ap (λ (b : Bool). cond b h.other h.own) (sym (eq-eqb h.side 0 e))

  pub requester-self : (h.side ≡ 0 → ⊥) → h.own ≡ requester h
  unfolding requester
  requester-self e = ap (λ (b : Bool). cond b h.other h.own) (sym (ne_eqb h.side 0 e))

  pub entity-own : (v : ℕ) → v ≡ h.side → h.own ≡ entity_of h v
  unfolding entity_of
  entity-own v e = ap (λ (b : Bool). cond b h.own h.other) (sym (eq-eqb v h.side e))

  pub entity-other : (v : ℕ) → (v ≡ h.side → ⊥) → h.other ≡ entity_of h v
  unfolding entity_of
  entity-other v e = ap (λ (b : Bool). cond b h.own h.other) (sym (ne_eqb v h.side e))
