-- A reply consists of legal updates, leaves a negotiation that is not damaged, and is taken at the other end (document 01, "The reply").
-- Assumes nothing.
use Prim.Native.Nat.{ℕ, zero, suc, ◌+◌, ◌<◌}
use Rattle.std.specs.Prelude.{◌≡◌, Bool, cond, leb}
use Rattle.std.proofs.Math.Path.{refl}
use Rattle.std.proofs.Common.{sym, ◌∙◌, ap, subst}
use Rattle.std.proofs.Math.Bool.{true, false}
use mathlib.Core.List.{List, [], ◌∷◌, ◌++◌, append_assoc, append-nil}
use borrow.Author.Tests.{eqb-true, eqb-false}
use Rattle.std.proofs.Math.Dec.{eqb}
use Rattle.std.proofs.Math.ListN.{length}
use Rattle.word.specs.laws.Bools.{or-neither}
use Rattle.expression.specs.declared.Expression.TheVariants as E
use Rattle.class.specs.declared.Name.{Name}
use Rattle.tables.specs.Tables.{Tables}
use Rattle.tables.specs.Accepted.{Sound}
use Rattle.graph.specs.Propagated.{propagated_state as propagated}
use Rattle.message.specs.declared.Opening.{Opening}
use Rattle.message.specs.declared.Command.{Command}
use Rattle.message.specs.declared.Command.TheVariants.{Open}
use Rattle.message.specs.Command.{formed_command}
use Rattle.negotiation.specs.declared.Header.{Header}
use Rattle.negotiation.specs.Messages.{message_count, counted}
use Rattle.negotiation.specs.State.{State, within, with_header}
use Rattle.damage.specs.Header.{counts_agree, end_sound}
use Rattle.damage.specs.Damage.{sound}
use Rattle.damage.specs.laws.Damage.{sound-parts, graph-parts, sound-some}
use Rattle.applied.specs.Step.{stepped, is_move, moved}
use Rattle.applied.specs.After.{after_message}
use Rattle.legal.specs.laws.AfterKept.{after-sound}
use Rattle.legal.specs.Legal.{Legal}
use Rattle.message.specs.Message.{bytes_of}
use Rattle.legal.specs.Updates.{Updates, none, next}
use Rattle.applied.specs.laws.Step.{step-header, step-still}
use Rattle.standing.specs.Turn.{sends}
use Rattle.standing.specs.laws.Turn.{first-side, agree-next}
use Rattle.damage.specs.laws.Going.{no-messages, going_on}
use Rattle.moves.specs.Initial.{initial_state}
use Rattle.moves.specs.Rules.{end_in}
use Rattle.moves.specs.Move.{Move, next_move}
use Rattle.moves.specs.Carried.{carried, has_room_for}
use Rattle.legality.specs.laws.Going.{Going}
use Rattle.legality.specs.laws.Legal.{move-updates}
use Rattle.legality.specs.laws.Kept.{updates-going, updates-header, sound-going, open-formed, open-legal, opening-going}
use Rattle.legality.specs.Mirror.{Mirrored}
use Rattle.legality.specs.laws.Mirror.{updates-mirror, opened-mirror}
use Rattle.reply.specs.Reply.{Replied, stopped, with_move, reply_from, reply_in, replied_state}
use Rattle.numbers.specs.Sizes.{MOST-MESSAGES}

-- Updates

updates-append : {ns : List Name} {s : ℕ} {S R U : State} {cs ds : List Command} → Updates ns s S cs R → Updates ns s R ds U → Updates ns s S (cs ++ ds) U
updates-append none v = v
updates-append (next {c = c} e f l u) v = next {c = c} e f l (updates-append u v)

-- without an open, an edge or a mark the graph stays
updates-still : {ns : List Name} {s : ℕ} {S U : State} {cs : List Command} → Updates ns s S cs U → moved cs ≡ false
    → (U.nodes ≡ S.nodes) × (U.edges ≡ S.edges)
updates-still none h = (refl, refl)
updates-still {s = s} (next {S = S} {c = c} {cs = cs} e f l u) h =
    let p = or-neither (is_move c) (moved cs) h in
    let q = updates-still u p.1 in
    let r = step-still S s c p.0 in
    (q.0 ∙ r.0, q.1 ∙ r.1)

-- Move by move

-- what stands behind the commands cs, in a state where s is our side
record Behind (T : Tables) (s : ℕ) (S : State) (cs : List Command) (r : Replied) : Type 0 where
  rest : List Command
  commands : r.commands ≡ cs ++ rest
  updates : Updates T.names s S rest r.state

behind-none : (T : Tables) (s : ℕ) (S : State) (cs : List Command) (full : Bool) → Behind T s S cs (stopped cs S full)
behind-none T s S cs full = record { rest = []; commands = sym (append-nil cs); updates = none }

behind_more : (T : Tables) (s : ℕ) (S R : State) (cs m : List Command) (r : Replied) → Updates T.names s S m R → Behind T s R (cs ++ m) r → Behind T s S cs r
behind_more T s S R cs m r u b = record { rest = m ++ b.rest; commands = b.commands ∙ append_assoc cs m b.rest; updates = updates-append u b.updates }

module _ (T : Tables) where
  -- a move, and what stands behind it
  move-behind : (more : State → List Command → Replied) (s : ℕ) (S : State) (cs : List Command) (m : Move) → S.header.side ≡ s
      → (has_room_for S.header.side S m ≡ true → Updates T.names S.header.side S m (carried S.header.side S m))
      → (Updates T.names s S m (carried S.header.side S m)
      → Behind T s (carried S.header.side S m) (cs ++ m) (more (carried S.header.side S m) (cs ++ m)))
      → Behind T s S cs (with_move more S cs m)
  move-behind more s S cs [] e h ih = behind-none T s S cs false
  move-behind more s S cs (c ∷ ms) e h ih = go (has_room_for S.header.side S (c ∷ ms)) refl (leb (length (bytes_of (cs ++ (c ∷ ms))) + 1) 4096)
    where
      R : State
      R = carried S.header.side S (c ∷ ms)

      go : (a : Bool) → has_room_for S.header.side S (c ∷ ms) ≡ a → (b : Bool)
          → Behind T s S cs (cond a (cond b (more R (cs ++ (c ∷ ms))) (stopped cs S false)) (stopped cs S true))
      go true q true =
          let u = subst (λ (v : ℕ). Updates T.names v S (c ∷ ms) R) e (h q) in behind_more T s S R cs (c ∷ ms) (more R (cs ++ (c ∷ ms))) u (ih u)
      go true q false = behind-none T s S cs false
      go false q b = behind-none T s S cs true

  from-behind : (f s : ℕ) (S : State) (cs : List Command) → Going T S → S.header.side ≡ s → Behind T s S cs (reply_from f T S cs)
  unfolding reply_from
  from-behind zero s S cs g e = behind-none T s S cs false
  from-behind (suc f) s S cs g e =
      go (eqb (propagated S.nodes S.edges 0) 1)
      (move-behind (λ U ds. reply_from f T U ds) s S cs (next_move (end_in T S)) e (move-updates T S g)
      (λ u. from-behind f s (carried S.header.side S (next_move (end_in T S))) (cs ++ next_move (end_in T S)) (updates-going T u g)
      (ap (λ (h : Header). h.side) (updates-header u) ∙ e)))
    where
      go : (b : Bool) {r : Replied} → Behind T s S cs r → Behind T s S cs (cond b (stopped cs S false) r)
      go true k = behind-none T s S cs false
      go false k = k

-- The reply

-- what a reply of S is: legal updates, by which our end goes on, and which are legal at the other end, too
record Given (T : Tables) (S : State) (r : Replied) : Type 0 where
  updates : Updates T.names S.header.side S r.commands r.state
  going : Going T r.state
  mirror : (k : Header) → Mirrored S.header k → Updates T.names S.header.side (with_header S k) r.commands (with_header r.state k)

module _ (T : Tables) (t : Sound T) (S : State) (h : sound T S ≡ true) (w : within S ≡ true) (turn : sends S.header.side S.header.messages ≡ true) where
  abbrev s : ℕ
  s = S.header.side

  abbrev first : Opening
  first = record { role = S.header.wanted; state = initial_state T.names true (E.Role S.header.wanted) }

  -- while no node stands, the mediator sends
  pub opens-first : length S.nodes ≡ 0 → S.header.side ≡ 0
  opens-first z = first-side S.header.side S.header.messages turn (no-messages T S h z)

  -- a reply that goes on from a graph
  going-given : Going T S → (r : Replied) → Behind T s S [] r → Given T S r
  going-given g r b =
      let u : Updates T.names s S r.commands r.state = subst (λ (cs : List Command). Updates T.names s S cs r.state)
      (sym b.commands) b.updates in
      record { updates = u; going = updates-going T u g; mirror = λ k m. updates-mirror S.header k m T g refl u }

  -- the mediator's first reply
  opened-given : length S.nodes ≡ 0 → (r : Replied) → Behind T s (stepped S s (Open first)) (Open first ∷ []) r → Given T S r
  opened-given z r b =
      let side : S.header.side ≡ 0 = opens-first z in
      let f : formed_command (Open first) ≡ true = open-formed T t S h w side z in
      let l : Legal T.names s S (Open first) = open-legal T t S h w side z in
      let g : Going T (stepped S s (Open first)) = opening-going T t S h w side z in
      record {
        updates = subst (λ (cs : List Command). Updates T.names s S cs r.state) (sym b.commands) (next {c = Open first} refl f l b.updates);
        going = updates-going T b.updates g;
        mirror =
            λ k m. subst (λ (cs : List Command). Updates T.names s (with_header S k) cs (with_header r.state k)) (sym b.commands)
            (opened-mirror S.header k m T s S first refl f l g b.updates);
      }

  given : Given T S (reply_in T S)
  unfolding reply_in
  given = go (eqb (length S.nodes) 0) refl
    where
      go : (b : Bool) → eqb (length S.nodes) 0 ≡ b → Given T S (reply_from 4096 T (carried s S (cond b (Open first ∷ []) [])) (cond b (Open first ∷ []) []))
      go true e =
          let z : length S.nodes ≡ 0 = eqb-true (length S.nodes) 0 e in
          let side : S.header.side ≡ 0 = opens-first z in
          opened-given z (reply_from 4096 T (stepped S s (Open first)) (Open first ∷ []))
          (from-behind T 4096 s (stepped S s (Open first)) (Open first ∷ []) (opening-going T t S h w side z)
          (ap (λ (x : Header). x.side) (step-header S s (Open first))))
      go false e =
          let g : Going T S = sound-going T t S h w (eqb-false (length S.nodes) 0 e) in
          going-given g (reply_from 4096 T S []) (from-behind T 4096 s S [] g refl)

  -- all commands of a reply are legal updates
  pub reply-updates : Updates T.names S.header.side S (reply_in T S).commands (reply_in T S).state
  reply-updates = given.updates

  pub reply-going : Going T (reply_in T S).state
  reply-going = given.going

  -- kept-sound for reply: it leaves a negotiation that is not damaged, where the count stays within its bound
  pub reply-sound : S.header.end ≡ 0 → message_count S.header.messages < MOST-MESSAGES → sound T (replied_state (reply_in T S)) ≡ true
  unfolding replied_state
  reply-sound going few =
      let r : Replied = reply_in T S in
      let q : r.state.header ≡ S.header = updates-header reply-updates in
      after-sound T r.state.header.side r.state (moved r.commands) r.full reply-going.header reply-going.graph reply-going.some
      (ap (λ (x : Header). counts_agree (counted x.side x.messages)) q
      ∙ agree-next S.header.side S.header.messages turn (sound-parts T S h).1)
      (subst (λ (x : Header). message_count x.messages < MOST-MESSAGES) (sym q) few) still
    where
      still : moved (reply_in T S).commands ≡ false
          → (propagated (reply_in T S).state.nodes (reply_in T S).state.edges 0 ≡ 1 → ⊥)
          × (propagated (reply_in T S).state.nodes (reply_in T S).state.edges 0 ≡ 2 → ⊥)
      still e =
          let q = updates-still reply-updates e in
          let some : length S.nodes ≡ 0 → ⊥ = λ z. reply-going.some (ap length q.0 ∙ z) in
          going_on (propagated (reply_in T S).state.nodes (reply_in T S).state.edges 0) S.header.end S.header.idle going
          ((λ i. end_sound (propagated (q.0 i) (q.1 i) 0) S.header.end S.header.idle) ∙ (graph-parts T.names S (sound-some T S h some)).4)

  pub reply-within : within (replied_state (reply_in T S)) ≡ true
  unfolding replied_state after_message with_header within
  reply-within = reply-going.sizes

  -- the same commands are legal updates at the other end
  pub reply-mirrored : (h : Header) → Mirrored S.header h
      → Updates T.names S.header.side (with_header S h) (reply_in T S).commands (with_header (reply_in T S).state h)
  reply-mirrored h m = given.mirror h m
