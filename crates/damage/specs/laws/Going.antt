-- A header that is not damaged, by its parts; an end that is none. Assumes nothing.
use Prim.Native.Nat.{ℕ, ◌+◌, ◌≤◌, ◌<◌}
use Rattle.std.proofs.Common.{arith, sym, ◌∙◌, ap, inl, inr}
use Rattle.std.specs.Prelude.{◌≡◌, refl, ◌⊎◌, Bool, true, false, cond, ◌&&◌, ◌||◌, eqb, ltb, leb, length}
use Rattle.std.proofs.Math.Logic.{⊎_elim}
use borrow.Author.Tests.{eq-eqb, eqb-true, eqb-false, leb-true, ltb-true}
use Rattle.word.specs.laws.Bools.{and_parts, or_cases, false-true}
use Rattle.propagation.specs.laws.Flags.{decided}
use Rattle.tables.specs.Tables.{Tables}
use Rattle.negotiation.specs.declared.Header.{Header}
use Rattle.negotiation.specs.declared.Messages.{Messages}
use Rattle.negotiation.specs.Messages.{message_count}
use Rattle.negotiation.specs.State.{State}
use Rattle.damage.specs.Header.{other_sound, wanted_sound, header_sound, counts_agree, empty_sound, count_sound, end_sound}
use Rattle.damage.specs.Damage.{graph_sound, sound}
use Rattle.damage.specs.laws.Damage.{sound-parts, graph-parts, sound-some}
use Rattle.numbers.specs.Sizes.{MOST-MESSAGES}

-- What a header has

pub header-parts : (own : ℕ) (h : Header) → header_sound own h ≡ true → (h.side < 2) × (h.own ≡ own)
unfolding header_sound
header-parts own h e =
    let a = and_parts (ltb h.side 2 && eqb h.own own && other_sound h.own h.other) (wanted_sound h.side h.wanted) e in
    let b = and_parts (ltb h.side 2 && eqb h.own own) (other_sound h.own h.other) a.0 in
    let c = and_parts (ltb h.side 2) (eqb h.own own) b.0 in
    (ltb-true h.side 2 c.0, eqb-true h.own own c.1)

pub empty-parts : (h : Header) (m k : ℕ) → empty_sound h m k ≡ true → (message_count h.messages ≡ 0) × (h.end ≡ 0) × (m ≡ 0) × (k ≡ 0)
unfolding empty_sound
empty-parts h m k e =
    let n : ℕ = message_count h.messages in
    let a = and_parts (eqb n 0 && eqb h.end 0 && eqb h.idle 0 && eqb m 0) (eqb k 0) e in
    let b = and_parts (eqb n 0 && eqb h.end 0 && eqb h.idle 0) (eqb m 0) a.0 in
    let c = and_parts (eqb n 0 && eqb h.end 0) (eqb h.idle 0) b.0 in
    let d = and_parts (eqb n 0) (eqb h.end 0) c.0 in
    (eqb-true n 0 d.0, eqb-true h.end 0 d.1, eqb-true m 0 b.1, eqb-true k 0 a.1)

-- counts that agree: the mediator's is the requester's, or one more
pub agree-cases : (m : Messages) → counts_agree m ≡ true → (m.mediator ≡ m.requester) ⊎ (m.mediator ≡ m.requester + 1)
unfolding counts_agree
agree-cases m h =
    ⊎_elim (λ e. inl (eqb-true m.mediator m.requester e)) (λ e. inr (eqb-true m.mediator (m.requester + 1) e))
    (or_cases (eqb m.mediator m.requester) (eqb m.mediator (m.requester + 1)) h)

module _ (T : Tables) (S : State) (h : sound T S ≡ true) where
  pub by-nodes : header_sound T.own S.header ≡ true
  by-nodes = (sound-parts T S h).0

  pub no-nodes : length S.nodes ≡ 0 → empty_sound S.header (length S.edges) (length S.shown) ≡ true
  no-nodes z =
      sym (ap (λ (b : Bool). cond b (empty_sound S.header (length S.edges) (length S.shown)) (graph_sound T.names S))
      (eq-eqb (length S.nodes) 0 z)) ∙ (sound-parts T S h).2

  -- none is counted where no node stands
  pub no-messages : length S.nodes ≡ 0 → message_count S.header.messages ≡ 0
  no-messages z = (empty-parts S.header (length S.edges) (length S.shown) (no-nodes z)).0

  -- the count is within its bound
  pub sound-count : message_count S.header.messages ≤ MOST-MESSAGES
  unfolding count_sound
  sound-count =
      let n : ℕ = message_count S.header.messages in
      ⊎_elim (λ z. omega (arith, no-messages (eqb-true (length S.nodes) 0 z)))
      (λ z. leb-true n 1027 (and_parts (ltb 0 n) (leb n 1027)
      (graph-parts T.names S (sound-some T S h (eqb-false (length S.nodes) 0 z))).0).1)
      (decided (eqb (length S.nodes) 0))

  -- each count has ten bits
  pub few-messages : (S.header.messages.mediator < 1024) × (S.header.messages.requester < 1024)
  unfolding message_count
  few-messages =
      ⊎_elim (λ e. (omega (arith, e, sound-count), omega (arith, e, sound-count))) (λ e. (omega (arith, e, sound-count), omega (arith, e, sound-count)))
      (agree-cases S.header.messages (sound-parts T S h).1)

-- while it goes on, the primary is neither satisfied nor failed
pub going_on : (p e i : ℕ) → e ≡ 0 → end_sound p e i ≡ true → (p ≡ 1 → ⊥) × (p ≡ 2 → ⊥)
unfolding end_sound
going_on p e i z h = go (eqb p 1) refl (eqb p 2) refl (sym (ap (λ (k : ℕ). end_sound p k i) z) ∙ h)
  where
    go : (a : Bool) → eqb p 1 ≡ a → (b : Bool) → eqb p 2 ≡ b
        → cond a (eqb 0 1 && eqb i 0) (cond b (eqb 0 2 && eqb i 0) (((eqb 0 0 || eqb 0 4) && ltb i 2) || (eqb 0 3 && eqb i 1))) ≡ true
        → (p ≡ 1 → ⊥) × (p ≡ 2 → ⊥)
    go true x b y k = absurd (false-true k)
    go false x true y k = absurd (false-true k)
    go false x false y k = (eqb-false p 1 x, eqb-false p 2 y)
