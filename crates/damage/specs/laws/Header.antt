-- The header, by its tests. Assumes nothing.
use Rattle.std.specs.Prelude.{ℕ, ◌+◌, ◌≡◌, refl, Bool, true, not, ◌&&◌, ◌||◌, ltb, leb}
use Rattle.std.proofs.Common.{sym, ◌∙◌, eq-eqb, ne_eqb}
use Rattle.std.proofs.Math.Bool.{false, cond}
use Rattle.std.proofs.Math.Dec.{eqb}
use Rattle.expression.specs.declared.Role.{Role}
use Rattle.expression.specs.Form.{is_role, is_empty}
use Rattle.negotiation.specs.declared.Header.{Header}
use Rattle.negotiation.specs.declared.Messages.{Messages}
use Rattle.negotiation.specs.Messages.{message_count}
use Rattle.damage.specs.Header.{wanted_sound, other_sound, header_sound, counts_agree, empty_sound, count_sound, end_sound}

module _ (side : ℕ) (r : Role) where
  by_side : (a : Bool) → a ≡ eqb side 0 → cond a (is_role r) (is_empty r) ≡ wanted_sound side r
  unfolding wanted_sound
  by_side a e = λ i. cond (e i) (is_role r) (is_empty r)

  -- the requester wants none
  pub wanted-none : {b : Bool} → (side ≡ 0 → ⊥) → b ≡ is_empty r → b ≡ wanted_sound side r
  wanted-none h e = e ∙ by_side false (sym (ne_eqb side 0 h))

  -- the mediator's role
  pub wanted-role : {b : Bool} → side ≡ 0 → b ≡ is_role r → b ≡ wanted_sound side r
  wanted-role h e = e ∙ by_side true (sym (eq-eqb side 0 h))

pub header_is : (own : ℕ) (h : Header) {w : Bool} → w ≡ wanted_sound h.side h.wanted
    → (ltb h.side 2 && eqb h.own own && (not (eqb h.other 0) && not (eqb h.other h.own)) && w) ≡ header_sound own h
unfolding header_sound
header_is own h e = λ i. ltb h.side 2 && eqb h.own own && other_sound h.own h.other && e i

module _ (h : Header) where
  pub empty-is : (edges shown : ℕ) {n : ℕ} → n ≡ message_count h.messages
      → (eqb n 0 && eqb h.end 0 && eqb h.idle 0 && eqb edges 0 && eqb shown 0) ≡ empty_sound h edges shown
  unfolding empty_sound
  empty-is edges shown e = λ i. eqb (e i) 0 && eqb h.end 0 && eqb h.idle 0 && eqb edges 0 && eqb shown 0

pub counts-are : (m : Messages) → (eqb m.mediator m.requester || eqb m.mediator (m.requester + 1)) ≡ counts_agree m
unfolding counts_agree
counts-are m = refl

pub count-is : (m : Messages) {n : ℕ} → n ≡ message_count m → (ltb 0 n && leb n 1027) ≡ count_sound m
unfolding count_sound
count-is m e = λ i. ltb 0 (e i) && leb (e i) 1027

module _ (primary end idle : ℕ) where
  -- neither satisfied nor failed
  unfoldable unknown : Bool
  unknown = ((eqb end 0 || eqb end 4) && ltb idle 2) || (eqb end 3 && eqb idle 1)

  by-primary : (a b : Bool) → a ≡ eqb primary 1 → b ≡ eqb primary 2
      → cond a (eqb end 1 && eqb idle 0) (cond b (eqb end 2 && eqb idle 0) unknown) ≡ end_sound primary end idle
  unfolding end_sound unknown
  by-primary a b e f = λ i. cond (e i) (eqb end 1 && eqb idle 0) (cond (f i) (eqb end 2 && eqb idle 0) unknown)

  pub end-success : primary ≡ 1 → (eqb end 1 && eqb idle 0) ≡ end_sound primary end idle
  end-success e = by-primary true (eqb primary 2) (sym (eq-eqb primary 1 e)) refl

  pub end-failed : (primary ≡ 1 → ⊥) → primary ≡ 2 → (eqb end 2 && eqb idle 0) ≡ end_sound primary end idle
  end-failed h e = by-primary false true (sym (ne_eqb primary 1 h)) (sym (eq-eqb primary 2 e))

  pub end-open : (primary ≡ 1 → ⊥) → (primary ≡ 2 → ⊥) → (((eqb end 0 || eqb end 4) && ltb idle 2) || (eqb end 3 && eqb idle 1)) ≡ end_sound primary end idle
  unfolding unknown
  end-open h k = by-primary false false (sym (ne_eqb primary 1 h)) (sym (ne_eqb primary 2 k))
