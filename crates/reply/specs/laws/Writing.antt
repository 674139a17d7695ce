-- A reply while it is written, move by move. Assumes nothing.
use Prim.Native.Nat.{ℕ, suc, ◌+◌, ◌-◌, ◌≤◌, ◌<◌}
use Rattle.std.proofs.Common.{arith, ◌∙◌, append-nil, leb-true}
use Rattle.std.specs.Prelude.{◌≡◌, refl, Bool, true, false, cond, List, [], ◌∷◌, ◌++◌, eqb, ltb}
use Rattle.std.proofs.Math.Path.{sym, ap, subst}
use Rattle.std.proofs.Math.ListN.{length}
use Rattle.std.proofs.Math.Seq.{paste-zero}
use Rattle.expression.specs.Bytes.{pasted}
use Rattle.word.specs.laws.Bools.{false-true}
use Rattle.tables.specs.Tables.{Tables}
use Rattle.graph.specs.laws.Graph.{nodes_of, edges_of}
use Rattle.graph.specs.laws.Columns.{nodes-length}
use Rattle.states.specs.laws.Complete.{StateColumns}
use Rattle.graph.specs.Propagated.{propagated_state as propagated}
use Rattle.message.specs.declared.Command.{Command}
use Rattle.negotiation.specs.declared.Negotiation.{Negotiation}
use Rattle.negotiation.specs.State.{State}
use Rattle.negotiation.specs.laws.State.{state_of}
use Rattle.message.specs.Message.{bytes_of}
use Rattle.moves.specs.declared.Found.{Found}
use Rattle.moves.specs.Rules.{end_in}
use Rattle.moves.specs.Move.{Move, next_move}
use Rattle.moves.specs.Carried.{carried, has_room_for}
use Rattle.moves.specs.laws.Own.{found_move}
use Rattle.choice.specs.laws.Next.{NothingBefore, Resting}
use Rattle.choice.specs.laws.Exhausted.{Exhausted, exhausted-both, idle-exhausted, exhausted-carried}
use Rattle.choice.specs.laws.Waits.{Waits, Unchanged, waits-none, waits-rests, waits-carried}
use Rattle.reply.specs.declared.Written.{Written}
use Rattle.reply.specs.Reply.{Replied, stopped}
use Rattle.legality.specs.laws.Going.{Going, going-few, going-edges}
use Rattle.legality.specs.laws.Kept.{move-going}
use Rattle.reply.specs.laws.Carry.{paste-length, pasted-behind}
use Rattle.reply.specs.laws.Turns.{Next, stops, goes, by_room, fits_behind, behind_move, next_in, behind, go_on, rest_from, behind-behind, bytes-behind}

-- the code's answer is this reply, its bytes written from an index on
pub record Gives (T : Tables) (R : Replied) (from : ℕ) (d₀ : List ℕ) (n : Negotiation) (r : Written) (d : List ℕ) : Type 0 where
  pub state : state_of n ≡ R.state
  pub full : r.full ≡ R.full
  pub size : r.at ≡ from + length (bytes_of R.commands)
  pub bytes : d ≡ pasted d₀ from (bytes_of R.commands)
  pub most : r.at + 1 ≤ 4096
  pub going : Going T (state_of n)

-- What it means that a move comes next

abbrev is_going : Next → Bool
is_going (stops b) = false
is_going (goes m) = true

abbrev move_in : Next → List Command
move_in (stops b) = []
move_in (goes m) = m

pub record Fits (T : Tables) (S : State) (at : ℕ) (m : List Command) : Type 0 where
  pub next : m ≡ next_move (end_in T S)
  pub room : has_room_for S.header.side S m ≡ true
  pub most : at + length (bytes_of m) + 1 ≤ 4096

pub next_fits : (T : Tables) (S : State) (at : ℕ) (m : List Command) → next_in T S at ≡ goes m → Fits T S at m
unfolding next_in
next_fits T S at m h = by-primary (eqb (propagated S.nodes S.edges 0) 1) (next_move (end_in T S)) refl h
  where
    by-room : (x : List Command) (room fits : Bool) → has_room_for S.header.side S x ≡ room → fits_behind at x ≡ fits → x ≡ next_move (end_in T S)
        → by_room x room fits ≡ goes m → Fits T S at m
    by-room x true true r f q e =
        let same : x ≡ m = ap move_in e in
        record {
          next = sym same ∙ q;
          room = ap (has_room_for S.header.side S) (sym same) ∙ r;
          most = subst (λ (y : List Command). at + length (bytes_of y) + 1 ≤ 4096) same (leb-true (at + length (bytes_of x) + 1) 4096 f);
        }
    by-room x true false r f q e = absurd (false-true (ap is_going e))
    by-room x false fits r f q e = absurd (false-true (ap is_going e))

    by_move : (x : Move) → x ≡ next_move (end_in T S) → behind_move S at x ≡ goes m → Fits T S at m
    by_move [] q e = absurd (false-true (ap is_going e))
    by_move (c ∷ ms) q e = by-room (c ∷ ms) (has_room_for S.header.side S (c ∷ ms)) (fits_behind at (c ∷ ms)) refl refl q e

    by-primary : (b : Bool) (x : Move) → x ≡ next_move (end_in T S) → cond b (stops false) (behind_move S at x) ≡ goes m → Fits T S at m
    by-primary true x q e = absurd (false-true (ap is_going e))
    by-primary false x q e = by_move x q e

-- The loop

-- some commands are out; left: how many more moves there may be
pub record Writing (T : Tables) (S₀ : State) (from : ℕ) (d₀ : List ℕ) (S : State) (at left : ℕ) (d : List ℕ) : Type 0 where
  pub out : List Command
  pub same : rest_from 4096 T S₀ from ≡ behind out (rest_from left T S at)
  pub bytes : d ≡ pasted d₀ from (bytes_of out)
  pub end : at ≡ from + length (bytes_of out)
  pub most : at + 1 ≤ 4096
  pub long : 4096 ≤ length d₀
  pub going : Going T S

module _ (T : Tables) (S₀ : State) (from : ℕ) (d₀ : List ℕ) where
  pub writing_start : Going T S₀ → from + 1 ≤ 4096 → 4096 ≤ length d₀ → Writing T S₀ from d₀ S₀ from 4096 d₀
  writing_start g m l = record { out = []; same = refl; bytes = paste-zero d₀ from []; end = omega arith; most = m; long = l; going = g }

  module _ (n : Negotiation) {at left : ℕ} {d : List ℕ} (w : Writing T S₀ from d₀ (state_of n) at left d) where
    -- as long as before
    pub writing-length : length d ≡ length d₀
    writing-length = ap length w.bytes ∙ paste-length d₀ from (bytes_of w.out) (omega (arith, w.end, w.most, w.long))

    -- nothing is added
    ended : {b : Bool} → rest_from left T (state_of n) at ≡ stopped [] (state_of n) b
        → Gives T (rest_from 4096 T S₀ from) from d₀ n (record { at = at; full = b }) d
    ended {b} e =
        let all : rest_from 4096 T S₀ from ≡ behind w.out (stopped [] (state_of n) b) = w.same ∙ ap (behind w.out) e in
        let cs : w.out ≡ (rest_from 4096 T S₀ from).commands = sym (ap (λ (x : Replied). x.commands) all ∙ append-nil w.out) in
        record {
          state = sym (ap (λ (x : Replied). x.state) all);
          full = sym (ap (λ (x : Replied). x.full) all);
          size = w.end ∙ ap (λ (l : List Command). from + length (bytes_of l)) cs;
          bytes = w.bytes ∙ ap (λ (l : List Command). pasted d₀ from (bytes_of l)) cs;
          most = w.most;
          going = w.going;
        }

    -- no more moves may be made
    pub writing-past : left ≤ 0 → Gives T (rest_from 4096 T S₀ from) from d₀ n (record { at = at; full = false }) d
    unfolding rest_from
    writing-past l = ended (let z : left ≡ 0 = omega (arith, l) in ap (λ (k : ℕ). rest_from k T (state_of n) at) z)

    module _ (l : 0 < left) {x : Next} (te : next_in T (state_of n) at ≡ x) where
      step-one : rest_from left T (state_of n) at ≡ go_on
          (λ m. behind m (rest_from (left - 1) T (carried (state_of n).header.side (state_of n) m) (at + length (bytes_of m)))) (state_of n) x
      unfolding rest_from
      step-one =
          let z : left ≡ suc (left - 1) = omega (arith, l) in
          ap (λ (k : ℕ). rest_from k T (state_of n) at) z
          ∙ ap (go_on (λ m. behind m (rest_from (left - 1) T (carried (state_of n).header.side (state_of n) m) (at + length (bytes_of m)))) (state_of n)) te

    pub writing-stops : 0 < left → {b : Bool} → next_in T (state_of n) at ≡ stops b
        → Gives T (rest_from 4096 T S₀ from) from d₀ n (record { at = at; full = b }) d
    writing-stops l te = ended (step-one l te)

    module _ (l : 0 < left) {m : List Command} (te : next_in T (state_of n) at ≡ goes m) where
      pub writing-fits : Fits T (state_of n) at m
      writing-fits = next_fits T (state_of n) at m te

      -- what carrying the move asks
      pub writing-room : (has_room_for n.header.side (state_of n) m ≡ true) × (at + length (bytes_of m) ≤ 4096) × (4096 ≤ length d)
      unfolding state_of
      writing-room = (writing-fits.room, omega (arith, writing-fits.most), omega (arith, writing-length, w.long))

      -- one more move
      pub writing-next : (n' : Negotiation) {d' : List ℕ} {k : ℕ} → state_of n' ≡ carried n.header.side (state_of n) m
          → d' ≡ pasted d at (bytes_of m) → k ≡ length (bytes_of m)
          → Writing T S₀ from d₀ (state_of n') (at + k) (left - 1) d'
      unfolding state_of
      writing-next n' {d'} {k} ne de ke =
          let f = writing-fits in
          record {
            out = w.out ++ m;
            same =
                w.same ∙ ap (behind w.out) (step-one l te)
                ∙ sym (behind-behind w.out m (rest_from (left - 1) T (carried n.header.side (state_of n) m) (at + length (bytes_of m))))
                ∙ (λ i. behind (w.out ++ m) (rest_from (left - 1) T (sym ne i) (at + sym ke i)));
            bytes = de ∙ pasted-behind d₀ d from at w.out m w.bytes w.end (omega (arith, w.end, f.most, w.long));
            end = omega (arith, w.end, ke, bytes-behind w.out m);
            most = omega (arith, f.most, ke);
            long = w.long;
            going =
                subst (Going T) (sym (ne ∙ ap (carried n.header.side (state_of n)) f.next))
                (move-going T (state_of n) w.going (ap (has_room_for n.header.side (state_of n)) (sym f.next) ∙ f.room));
          }

-- Rule (4) of sensitive roles

-- below the node of a move nothing was left to do, and what is done stays done
pub exhausted-next : (T : Tables) (n n' : Negotiation) (cs : List Command) → Going T (state_of n) → state_of n' ≡ carried n.header.side (state_of n) cs
    → {p m k r : ℕ} → Exhausted T (state_of n) p → m < n.nodes.count → NothingBefore (end_in T (state_of n)) m → k ≡ m → r ≡ cond (ltb p k) k p
    → Exhausted T (state_of n') r
unfolding state_of
exhausted-next T n n' cs g e {p} {m} {k} {r} f l i ke re =
    let q : ℕ = cond (ltb p m) m p in
    let both : Exhausted T (state_of n) q = exhausted-both T (state_of n) p m f (idle-exhausted T (state_of n) m (omega (arith, l, nodes-length n.nodes)) i) in
    subst (Exhausted T (state_of n')) (sym (re ∙ ap (λ (j : ℕ). cond (ltb p j) j p) ke))
    (subst (λ (U : State). Exhausted T U q) (sym e) (exhausted-carried T (state_of n) q (going-few T (state_of n) g) both cs))

-- Targets that wait

-- below the node of a move there was nothing left to do
pub waits-next : (T : Tables) (n n' : Negotiation) (f : Found) {cs : List Command} → Going T (state_of n) → cs ≡ found_move (end_in T (state_of n)) f
    → state_of n' ≡ carried n.header.side (state_of n) cs
    → {sat failed : List ℕ} → StateColumns (nodes_of n.nodes) (edges_of n.edges) sat failed → {k : ℕ} → f.node < n.nodes.count
    → NothingBefore (end_in T (state_of n)) f.node → k ≡ f.node → Waits T (state_of n') sat failed k
unfolding state_of
waits-next T n n' f g m e {sat} {failed} z l i ke =
    subst (Waits T (state_of n') sat failed) (sym ke)
    (subst (λ (U : State). Waits T U sat failed f.node) (sym (e ∙ ap (carried n.header.side (state_of n)) m))
    (waits-carried T (state_of n) f (going-few T (state_of n) g) (omega (arith, l, nodes-length n.nodes)) (going-edges T (state_of n) g) z i))

pub waits_start : (T : Tables) (n : Negotiation) (sat failed : List ℕ) → Going T (state_of n) → Waits T (state_of n) sat failed 0
unfolding state_of
waits_start T n sat failed g = waits-none T (state_of n) sat failed (omega (arith, g.some))

pub waits-now : (T : Tables) (n : Negotiation) {sat failed last earlier : List ℕ} → Going T (state_of n)
    → StateColumns (nodes_of n.nodes) (edges_of n.edges) sat failed
    → {q r : ℕ} → Waits T (state_of n) last earlier q → Unchanged n.edges sat last failed earlier q r → Resting T (state_of n) r
unfolding state_of
waits-now T n g z w c =
    waits-rests T n (omega (arith, g.some, nodes-length n.nodes)) (omega (arith, going-few T (state_of n) g, nodes-length n.nodes))
    (going-edges T (state_of n) g) z w c
