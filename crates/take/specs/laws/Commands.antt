-- The commands of a message, test by test. Assumes nothing.
use Prim.Native.Nat.{ℕ, zero, suc, ◌+◌, ◌-◌, ◌≤◌, ◌<◌}
use Rattle.std.specs.Prelude.{Bool, false, ◌||◌, not, List, eqb, ◌≡◌, length, Result, Ok, Err, OnOk}
use Rattle.std.proofs.Math.Bool.{true, cond}
use Rattle.class.specs.declared.Name.{Name}
use Rattle.message.specs.declared.Command.{Command}
use Rattle.message.specs.Command.{command_at, size_of}
use Rattle.negotiation.specs.State.{State, within}
use Rattle.negotiation.specs.laws.State.{state_of}
use Rattle.reader.specs.laws.Position.{position_after}
use Rattle.reader.specs.laws.PositionLaws.{position-read}
use Rattle.applied.specs.Step.{stepped, is_move, has_room}
use Rattle.legal.specs.Number.{legal_number}
use Rattle.std.proofs.Common.{arith, ◌∙◌, eqb-true}
use Rattle.std.proofs.Math.Path.{refl, sym, ap, subst}
use Rattle.std.proofs.lemmas.Bool.{eqb-false}
use Rattle.word.specs.laws.Bools.{false-true}
use Rattle.graph.specs.laws.Graph.{nodes_of}
use Rattle.states.specs.laws.Brings.{NodesFormed}
use Rattle.message.specs.laws.Command.{nothing, size-some}
use Rattle.message.specs.laws.CommandExact.{command-formed, command-room}
use Rattle.negotiation.specs.declared.Negotiation.{Negotiation}
use Rattle.legal.specs.laws.Room.{legal-room, step-within}
use Rattle.applied.specs.laws.StepFormed.{step-formed}
use Rattle.take.specs.Commands.{on_command, commands_from}
use Rattle.message.specs.Message.{is_end}
use Rattle.numbers.specs.Answer.{Answer, refused, accepted, judged}

-- what the code's answer is, with the negotiation that it left
unfoldable pub taken_of : Result Bool ℕ → Negotiation → Answer (State × Bool)
taken_of (Ok moved) n = accepted (state_of n, moved)
taken_of (Err k) n = refused k

-- the number of a command that was not read
abbrev pub refusal_of : Result Command ℕ → ℕ
refusal_of (Ok c) = 0
refusal_of (Err k) = k

-- a negotiation within the sizes, whose nodes have their forms
pub record Room (n : Negotiation) : Type 0 where
  pub sizes : within (state_of n) ≡ true
  pub formed : NodesFormed (nodes_of n.nodes)

-- fewer bytes are left behind it
pub fewer-left : (m : List ℕ) (at : ℕ) {i : ℕ} {a : Result Command ℕ} {c : Command} → a ≡ command_at m at → a ≡ Ok c → i ≡ position_after m at
    → length m - i < length m - at
fewer-left m at {i} {a} {c} ae h ie = omega (arith, ie ∙ position-read m at (sym ae ∙ h), command-room m at c (sym ae ∙ h), size-some c)

-- The loop

-- the commands from at on lead from n to what the whole message leads to
pub record Reading (ns : List Name) (s : ℕ) (m : List ℕ) (S₀ : State) (n : Negotiation) (at : ℕ) (moved : Bool) : Type 0 where
  pub fuel : ℕ
  pub enough : length m ≤ fuel + at
  pub same : commands_from (length m) ns s m 0 S₀ false ≡ commands_from fuel ns s m at (state_of n) moved
  pub sizes : within (state_of n) ≡ true
  pub formed : NodesFormed (nodes_of n.nodes)

module _ (ns : List Name) (s : ℕ) (m : List ℕ) where
  pub reading-start : (n : Negotiation) {v : Bool} → v ≡ false → within (state_of n) ≡ true → NodesFormed (nodes_of n.nodes) → Reading ns s m (state_of n) n 0 v
  reading-start n e w f =
      record { fuel = length m; enough = omega arith; same = ap (commands_from (length m) ns s m 0 (state_of n)) (sym e); sizes = w; formed = f }

  -- one command
  one : (f at : ℕ) (S : State) (v : Bool) {a : Result Command ℕ} → command_at m at ≡ a → 0 < f
      → (g : ℕ) × (f ≡ suc g) × (commands_from f ns s m at S v ≡ on_command (λ size T w. commands_from g ns s m (at + size) T w) ns s S v a)
  unfolding commands_from
  one zero at S v e l = absurd (omega arith)
  one (suc g) at S v e l = (g, refl, ap (on_command (λ size T w. commands_from g ns s m (at + size) T w) ns s S v) e)

  module _ {S₀ : State} {n : Negotiation} {at : ℕ} {v : Bool} (r : Reading ns s m S₀ n at v) where
    -- the negotiation read so far is within the sizes, and its nodes have their forms
    pub reading-room : Room n
    reading-room = record { sizes = r.sizes; formed = r.formed }

    -- the answer is a refusal
    answers-refused : (t : Result Bool ℕ) (n' : Negotiation) (k : ℕ) → t ≡ Err k → commands_from (length m) ns s m 0 S₀ false ≡ refused k
        → (taken_of t n' ≡ commands_from (length m) ns s m 0 S₀ false) × OnOk t (Room n')
    unfolding taken_of
    answers-refused t n' k e q = (ap (λ (x : Result Bool ℕ). taken_of x n') e ∙ sym q, subst (λ (x : Result Bool ℕ). OnOk x (Room n')) (sym e) tt)

    past : (f : ℕ) → command_at m at ≡ Err 2 → commands_from f ns s m at (state_of n) v ≡ refused 2
    unfolding commands_from
    past zero h = refl
    past (suc f) h = ap (on_command (λ size T w. commands_from f ns s m (at + size) T w) ns s (state_of n) v) h

    -- no command stands there, and no end has come
    pub reading-past : (n' : Negotiation) → length m ≤ at → taken_of (Err 2) n' ≡ commands_from (length m) ns s m 0 S₀ false
    reading-past n' l = (answers-refused (Err 2) n' 2 refl (r.same ∙ past r.fuel (sym (nothing m at l)))).0

    module _ (l : at < length m) {a : Result Command ℕ} (ae : a ≡ command_at m at) where
      step-one : (g : ℕ) × (r.fuel ≡ suc g) × (commands_from r.fuel ns s m at (state_of n) v
          ≡ on_command (λ size T w. commands_from g ns s m (at + size) T w) ns s (state_of n) v a)
      step-one = one r.fuel at (state_of n) v (sym ae) (omega (arith, r.enough))

      -- a command that cannot be read
      pub reading-unread : (n' : Negotiation) {k j : ℕ} → a ≡ Err k → j ≡ refusal_of a → taken_of (Err j) n' ≡ commands_from (length m) ns s m 0 S₀ false
      reading-unread n' {k} {j} h q =
          (answers-refused (Err j) n' k (ap Err (q ∙ ap refusal_of h))
          (r.same ∙ step-one.2 ∙ ap (on_command (λ size T w. commands_from step-one.0 ns s m (at + size) T w) ns s (state_of n) v) h)).0

      module _ {c : Command} (h : a ≡ Ok c) {k : ℕ} (ke : k ≡ legal_number ns s (state_of n) c) where
        by_number : commands_from (length m) ns s m 0 S₀ false
            ≡ judged k (cond (is_end c) (accepted (state_of n, v)) (commands_from step-one.0 ns s m (at + size_of c) (stepped (state_of n) s c) (v || is_move c)))
        by_number =
            r.same ∙ step-one.2 ∙ ap (on_command (λ size T w. commands_from step-one.0 ns s m (at + size) T w) ns s (state_of n) v) h
            ∙ ap (λ (i : ℕ). judged i (cond (is_end c) (accepted (state_of n, v))
            (commands_from step-one.0 ns s m (at + size_of c) (stepped (state_of n) s c) (v || is_move c)))) (sym ke)

        judged-refused : (i : ℕ) (x : Answer (State × Bool)) → (i ≡ 0 → ⊥) → judged i x ≡ refused i
        judged-refused zero x z = absurd (z refl)
        judged-refused (suc i) x z = refl

        -- one that is not legal
        pub reading-illegal : (n' : Negotiation) → (k ≡ 0 → ⊥) → taken_of (Err k) n' ≡ commands_from (length m) ns s m 0 S₀ false
        reading-illegal n' z = (answers-refused (Err k) n' k refl (by_number ∙ judged-refused k _ z)).0

        module _ (z : k ≡ 0) {b : Bool} (be : b ≡ is_end c) where
          by_end : commands_from (length m) ns s m 0 S₀ false
              ≡ cond b (accepted (state_of n, v)) (commands_from step-one.0 ns s m (at + size_of c) (stepped (state_of n) s c) (v || is_move c))
          by_end =
              by_number ∙ ap (λ (i : ℕ). judged i (cond (is_end c) (accepted (state_of n, v))
              (commands_from step-one.0 ns s m (at + size_of c) (stepped (state_of n) s c) (v || is_move c)))) z
              ∙ ap (λ (d : Bool). cond d (accepted (state_of n, v))
              (commands_from step-one.0 ns s m (at + size_of c) (stepped (state_of n) s c) (v || is_move c))) (sym be)

          -- the end
          pub reading-end : {w : Bool} → b ≡ true → w ≡ v → taken_of (Ok w) n ≡ commands_from (length m) ns s m 0 S₀ false
          unfolding taken_of
          reading-end q x =
              (λ i. accepted (state_of n, x i))
              ∙ sym (by_end ∙ ap (λ (d : Bool). cond d (accepted (state_of n, v))
              (commands_from step-one.0 ns s m (at + size_of c) (stepped (state_of n) s c) (v || is_move c))) q)

          -- the next command
          pub reading-next : {n' : Negotiation} {v' : Bool} {i : ℕ} → b ≡ false → state_of n' ≡ stepped (state_of n) s c → v' ≡ (v || is_move c)
              → i ≡ position_after m at
              → Reading ns s m S₀ n' i v'
          unfolding state_of
          reading-next {n'} {v'} {i} q e ve ie =
              let room : has_room (state_of n) c ≡ true = legal-room (state_of n) ns s c (sym ke ∙ z) in
              let wide : within (stepped (state_of n) s c) ≡ true = step-within (state_of n) r.sizes s c room in
              let past : i ≡ at + size_of c = ie ∙ position-read m at (sym ae ∙ h) in
              record {
                fuel = step-one.0;
                enough = omega (arith, r.enough, step-one.1, size-some c, past);
                same =
                    by_end ∙ ap (λ (t : Bool). cond t (accepted (state_of n, v))
                    (commands_from step-one.0 ns s m (at + size_of c) (stepped (state_of n) s c) (v || is_move c))) q
                    ∙ (λ j. commands_from step-one.0 ns s m (sym past j) (sym e j) (sym ve j));
                sizes = ap within e ∙ wide;
                formed =
                    subst (λ (S : State). NodesFormed S.nodes) (sym e) (step-formed (state_of n) s c r.formed room (command-formed m at c (sym ae ∙ h)));
              }

        -- one that is not legal, or the end
        pub reading-stop : {b : Bool} → b ≡ is_end c → (t : Result Bool ℕ) (n' : Negotiation) → (not (eqb k 0) || b) ≡ true
            → t ≡ cond (eqb k 0) (Ok v) (Err k) → n' ≡ n → (taken_of t n' ≡ commands_from (length m) ns s m 0 S₀ false) × Room n'
        reading-stop {b} be t n' z e x = (
          ap (λ (u : Result Bool ℕ). taken_of u n') e ∙ ap (taken_of (cond (eqb k 0) (Ok v) (Err k))) x ∙ go (eqb k 0) refl z,
          subst Room (sym x) reading-room,
        )
          where
            go : (d : Bool) → eqb k 0 ≡ d → (not d || b) ≡ true → taken_of (cond d (Ok v) (Err k)) n ≡ commands_from (length m) ns s m 0 S₀ false
            go true q y = reading-end (eqb-true k 0 q) be y refl
            go false q y = reading-illegal n (eqb-false k 0 q)

-- neither
pub stop-left : (k : ℕ) (b : Bool) → (not (eqb k 0) || b) ≡ false → (k ≡ 0) × (b ≡ false)
stop-left k b h = go (eqb k 0) refl h
  where
    go : (d : Bool) → eqb k 0 ≡ d → (not d || b) ≡ false → (k ≡ 0) × (b ≡ false)
    go true q y = (eqb-true k 0 q, y)
    go false q y = absurd (false-true (sym y))
