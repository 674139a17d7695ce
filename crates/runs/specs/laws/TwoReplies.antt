-- Two replies: while no differing role's Ack target is satisfied, the tables of two runs give the same reply (document 01, "Two runs").
-- Assumes nothing.
use Prim.Native.Nat.{ℕ, zero, suc, ◌+◌}
use Rattle.std.specs.Prelude.{◌≡◌, ◌⊎◌, true, false, eqb, leb, length}
use Rattle.std.proofs.Math.Path.{refl, ap}
use Rattle.std.proofs.Common.{sym, ◌∙◌, subst, ⊎_elim}
use Rattle.std.proofs.Math.Bool.{Bool, cond}
use mathlib.Core.List.{List, [], ◌∷◌, ◌++◌}
use Rattle.expression.specs.declared.Expression.TheVariants as E
use Rattle.word.specs.laws.Bools.{false-true, not-of}
use Rattle.class.specs.declared.Name.{Name}
use Rattle.tables.specs.Tables.{Tables}
use Rattle.tables.specs.Public.{Public, public_of}
use Rattle.graph.specs.Propagated.{propagated_state as propagated}
use Rattle.message.specs.declared.Command.{Command}
use Rattle.message.specs.declared.Command.TheVariants.{Open}
use Rattle.negotiation.specs.State.{State, within}
use Rattle.message.specs.Message.{bytes_of}
use Rattle.moves.specs.laws.Known.{is_disclosed}
use Rattle.moves.specs.Initial.{initial_state}
use Rattle.moves.specs.Rules.{end_in}
use Rattle.moves.specs.Move.{Move, next_move}
use Rattle.moves.specs.Carried.{carried, has_room_for}
use Rattle.moves.proofs.laws.Alike.{move-alike}
use Rattle.reply.specs.Reply.{Replied, stopped, with_move, reply_from, opening, reply_in}
use Rattle.runs.specs.laws.Stays.{within-kept, carried-stays, opening-stays, disclosed-stays}

module _ (T U : Tables) (e : public_of T ≡ public_of U) where
  same_names : T.names ≡ U.names
  unfolding public_of
  same_names = ap (λ (p : Public). p.names) e

  -- after one of the two no differing role's Ack target is satisfied
  abbrev pub OneUndisclosed : Replied → Replied → Type 0
  OneUndisclosed x y = (is_disclosed T U x.state ≡ false) ⊎ (is_disclosed T U y.state ≡ false)

  with-alike : (next then : State → List Command → Replied) (S : State) (cs : List Command) (m : Move)
      → ((R : State) (ds : List Command) → within R ≡ true → OneUndisclosed (next R ds) (then R ds) → next R ds ≡ then R ds)
      → within S ≡ true → OneUndisclosed (with_move next S cs m) (with_move then S cs m) → with_move next S cs m ≡ with_move then S cs m
  with-alike next then S cs [] ih w h = refl
  with-alike next then S cs (c ∷ ms) ih w h = go (has_room_for S.header.side S (c ∷ ms)) refl (leb (length (bytes_of (cs ++ (c ∷ ms))) + 1) 4096) h
    where
      chosen : Bool → Bool → Replied → Replied
      chosen b d r = cond b (cond d r (stopped cs S false)) (stopped cs S true)

      R : State
      R = carried S.header.side S (c ∷ ms)

      go : (b : Bool) → has_room_for S.header.side S (c ∷ ms) ≡ b → (d : Bool)
          → OneUndisclosed (chosen b d (next R (cs ++ (c ∷ ms)))) (chosen b d (then R (cs ++ (c ∷ ms))))
          → chosen b d (next R (cs ++ (c ∷ ms))) ≡ chosen b d (then R (cs ++ (c ∷ ms)))
      go true q true k = ih R (cs ++ (c ∷ ms)) (carried-stays within-kept S.header.side S (c ∷ ms) q w) k
      go true q false k = refl
      go false q d k = refl

  -- nothing is disclosed at the end, so nothing was at the start
  undisclosed-before : (f : ℕ) (S : State) (cs : List Command) → within S ≡ true → OneUndisclosed (reply_from f T S cs) (reply_from f U S cs)
      → is_disclosed T U S ≡ false
  undisclosed-before f S cs w h =
      not-of (is_disclosed T U S) (λ o. ⊎_elim (λ k. false-true (sym k ∙ disclosed-stays T U f T S cs w o))
      (λ k. false-true (sym k ∙ disclosed-stays T U f U S cs w o)) h)

  from-alike : (f : ℕ) (S : State) (cs : List Command) → within S ≡ true → OneUndisclosed (reply_from f T S cs) (reply_from f U S cs)
      → reply_from f T S cs ≡ reply_from f U S cs
  unfolding reply_from
  from-alike zero S cs w h = refl
  from-alike (suc f) S cs w h =
      go (eqb (propagated S.nodes S.edges 0) 1) (next_move (end_in T S)) (next_move (end_in U S))
      (move-alike T U e S (undisclosed-before (suc f) S cs w h)) (λ R ds v k. from-alike f R ds v k) h
    where
      by : Tables → Bool → Move → Replied
      by W b m = cond b (stopped cs S false) (with_move (λ R ds. reply_from f W R ds) S cs m)

      same_move : (b : Bool) (m : Move)
          → ((R : State) (ds : List Command) → within R ≡ true → OneUndisclosed (reply_from f T R ds) (reply_from f U R ds)
          → reply_from f T R ds ≡ reply_from f U R ds)
          → OneUndisclosed (by T b m) (by U b m) → by T b m ≡ by U b m
      same_move true m ih k = refl
      same_move false m ih k = with-alike (λ R ds. reply_from f T R ds) (λ R ds. reply_from f U R ds) S cs m ih w k

      go : (b : Bool) (m n : Move) → m ≡ n
          → ((R : State) (ds : List Command) → within R ≡ true → OneUndisclosed (reply_from f T R ds) (reply_from f U R ds)
          → reply_from f T R ds ≡ reply_from f U R ds)
          → OneUndisclosed (by T b m) (by U b n) → by T b m ≡ by U b n
      go b m n q ih k = same_move b m ih (subst (λ (x : Move). OneUndisclosed (by T b m) (by U b x)) (sym q) k) ∙ ap (by U b) q

  opening-alike : (S : State) → opening T S ≡ opening U S
  opening-alike S =
      ap (λ (ns : List Name). cond (eqb (length S.nodes) 0)
      (Open (record { role = S.header.wanted; state = initial_state ns true (E.Role S.header.wanted) }) ∷ []) []) same_names

  -- Where, after one of the two replies, no differing role's Ack target is satisfied, they are the same
  pub replies-alike : (S : State) → within S ≡ true → (is_disclosed T U (reply_in T S).state ≡ false) ⊎ (is_disclosed T U (reply_in U S).state ≡ false)
      → reply_in T S ≡ reply_in U S
  unfolding reply_in
  replies-alike S w h =
      let s : ℕ = S.header.side in
      let by : List Command → Replied = λ cs. reply_from 4096 U (carried s S cs) cs in
      let q : by (opening T S) ≡ by (opening U S) = ap by (opening-alike S) in
      from-alike 4096 (carried s S (opening T S)) (opening T S) (opening-stays within-kept T S w)
      (subst (λ (r : Replied). OneUndisclosed (reply_in T S) r) (sym q) h) ∙ q
