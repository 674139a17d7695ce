-- The commands of an accepted message keep the graph of a negotiation undamaged. Assumes nothing.
use Prim.Native.Nat.{ℕ, zero, suc, ◌+◌}
use Rattle.std.proofs.Common.{arith, sym, ◌∙◌, ap, eq-eqb}
use Rattle.std.specs.Prelude.{◌≡◌, Bool, true, false, cond, ◌||◌, List, [], ◌∷◌, length, Result, Ok, Err}
use Rattle.std.proofs.Math.Path.{refl, subst}
use Rattle.std.proofs.Math.Bool.{or-true}
use Rattle.std.proofs.Math.ListN.{length-append}
use Rattle.word.specs.laws.Bools.{false-true, or-neither, or_left}
use Rattle.class.specs.declared.Name.{Name}
use Rattle.class.specs.Typing.{type_of, credential_number}
use Rattle.message.specs.declared.Opening.{Opening}
use Rattle.message.specs.declared.Command.{Command}
use Rattle.message.specs.declared.Command.TheVariants.{Show, Open, Bring, Join, Mark, End}
use Rattle.message.specs.Command.{command_at, size_of}
use Rattle.message.specs.laws.CommandExact.{command-formed}
use Rattle.negotiation.specs.State.{State, within, with_node}
use Rattle.applied.specs.Step.{primary_of, stepped, is_move}
use Rattle.legal.specs.Number.{refuse, type_number, is_fresh, show_number, bring_number, join_number, mark_number, end_number, legal_by, legal_number}
use Rattle.legal.specs.laws.Number.{refuse-none, first-none}
use Rattle.legal.specs.laws.Kept.{GraphKept}
use Rattle.legal.specs.laws.KeptStep.{open_kept, step_kept}
use Rattle.legal.specs.laws.Room.{legal-room, step-within}
use Rattle.take.specs.Commands.{on_command, commands_from}
use Rattle.message.specs.Message.{is_end}
use Rattle.applied.specs.laws.Step.{step-header, step-still, step-some}
use Rattle.numbers.specs.Answer.{Answer, refused, accepted, judged}
use Rattle.numbers.specs.laws.Answer.{is_accepted, first_of}

abbrev pub moved_taken : Answer (State × Bool) → Bool
moved_taken (refused k) = false
moved_taken (accepted (T, v)) = v

-- what commands leave of a state with a node
pub record Led (ns : List Name) (S : State) (v : Bool) (T : State) (w : Bool) : Type 0 where
  pub graph : GraphKept ns T
  pub some : length T.nodes ≡ 0 → ⊥
  pub header : T.header ≡ S.header
  pub sizes : within T ≡ true
  -- a move is not forgotten, and without one nodes and edges stay
  pub moves : v ≡ true → w ≡ true
  pub still : w ≡ false → (T.nodes ≡ S.nodes) × (T.edges ≡ S.edges)

-- All commands

module _ (ns : List Name) (s : ℕ) (m : List ℕ) where
  abbrev After : ℕ → ℕ → State → Bool → State → Bool → Type 0
  After f at S v T w = commands_from f ns s m at S v ≡ accepted (T, w)

  -- what stands behind one command
  follows : (S : State) (v : Bool) (c : Command) (T : State) (w : Bool) → Led ns (stepped S s c) (v || is_move c) T w → Led ns S v T w
  follows S v c T w l =
      record {
        graph = l.graph;
        some = l.some;
        header = l.header ∙ step-header S s c;
        sizes = l.sizes;
        moves = λ e. l.moves (or_left v (is_move c) e);
        still = λ e. let p = l.still e in let q = step-still S s c (unmoved e) in (p.0 ∙ q.0, p.1 ∙ q.1);
      }
    where
      unmoved : w ≡ false → is_move c ≡ false
      unmoved e = go (v || is_move c) refl
        where
          go : (b : Bool) → (v || is_move c) ≡ b → is_move c ≡ false
          go true h = absurd (false-true (sym e ∙ l.moves h))
          go false h = (or-neither v (is_move c) h).1

  -- the commands from an index on
  abbrev Leads : ℕ → State → Bool → Type 0
  Leads f T w = (at : ℕ) (S : State) (v : Bool) → GraphKept ns S → (length S.nodes ≡ 0 → ⊥) → within S ≡ true → After f at S v T w → Led ns S v T w

  -- one command, and those behind it
  module _ (f : ℕ) (T : State) (w : Bool) (next : Leads f T w) (at : ℕ) (S : State) (v : Bool) (g : GraphKept ns S) (some : length S.nodes ≡ 0 → ⊥)
      (wi : within S ≡ true) where
    led-end : (c : Command) → command_at m at ≡ Ok c → legal_number ns s S c ≡ 0 → (b : Bool)
        → cond b (accepted (S, v)) (commands_from f ns s m (at + size_of c) (stepped S s c) (v || is_move c)) ≡ accepted (T, w) → Led ns S v T w
    led-end c e l true q =
        let t : S ≡ T = ap (first_of S) q in
        let u : v ≡ w = ap moved_taken q in
        subst (λ (U : State). Led ns S v U w) t (subst (Led ns S v S) u
        (record { graph = g; some = some; header = refl; sizes = wi; moves = λ x. x; still = λ x. (refl, refl) }))
    led-end c e l false q =
        follows S v c T w
        (next (at + size_of c) (stepped S s c) (v || is_move c) (step_kept ns s S c g some (command-formed m at c e) l) (step-some S s c some)
        (step-within S wi s c (legal-room S ns s c l)) q)

    led-number : (c : Command) → command_at m at ≡ Ok c → (k : ℕ) → legal_number ns s S c ≡ k
        → judged k (cond (is_end c) (accepted (S, v)) (commands_from f ns s m (at + size_of c) (stepped S s c) (v || is_move c))) ≡ accepted (T, w) → Led ns S v T w
    led-number c e zero l q = led-end c e l (is_end c) q
    led-number c e (suc k) l q = absurd (false-true (ap is_accepted q))

    led-answer : (a : Result Command ℕ) → command_at m at ≡ a → on_command (λ size U x. commands_from f ns s m (at + size) U x) ns s S v a ≡ accepted (T, w)
        → Led ns S v T w
    led-answer (Err k) e q = absurd (false-true (ap is_accepted q))
    led-answer (Ok c) e q = led-number c e (legal_number ns s S c) refl q

  pub commands-led : (f : ℕ) (T : State) (w : Bool) → Leads f T w
  unfolding commands_from
  commands-led zero T w at S v g some wi h = absurd (false-true (ap is_accepted h))
  commands-led (suc f) T w at S v g some wi h = led-answer f T w (commands-led f T w) at S v g some wi (command_at m at) refl h

-- The first message

-- while no node stands, only an open is legal
module _ (ns : List Name) (s : ℕ) (S : State) (fresh : is_fresh S ≡ true) where
  fresh-refuses : (rest : ℕ) → refuse (is_fresh S) 23 rest ≡ 0 → ⊥
  fresh-refuses rest h = false-true (sym (refuse-none (is_fresh S) 23 rest (omega arith) h).0 ∙ fresh)

  fresh-open : (c : Command) → legal_number ns s S c ≡ 0 → (o : Opening) × (c ≡ Open o)
  unfolding legal_number legal_by show_number bring_number join_number mark_number end_number
  fresh-open (Show c) h = absurd (fresh-refuses _ (first-none (credential_number ns c) _ h).1)
  fresh-open (Open o) h = (o, refl)
  fresh-open (Bring n) h = absurd (fresh-refuses _ (first-none (type_number (type_of ns n.expression)) _ h).1)
  fresh-open (Join e) h = absurd (fresh-refuses _ h)
  fresh-open (Mark i) h = absurd (fresh-refuses _ h)
  fresh-open End h = absurd (fresh-refuses _ h)

-- a message to a requester that has seen none
module _ (ns : List Name) (m : List ℕ) (S : State) (side : S.header.side ≡ 1) (own : S.header.own ≡ 0 → ⊥) (no_Node : length S.nodes ≡ 0)
    (no_edge : length S.edges ≡ 0) (no-shown : length S.shown ≡ 0) (wi : within S ≡ true) where
  opened_some : (o : Opening) → length (stepped S 0 (Open o)).nodes ≡ 0 → ⊥
  unfolding stepped with_node
  opened_some o z = omega (arith, length-append S.nodes (primary_of S.header o ∷ []))

  -- what stands behind the first command
  abbrev Behind : ℕ → ℕ → Bool → State → Bool → Command → Type 0
  Behind f at v T w c =
      command_at m at ≡ Ok c → legal_number ns 0 S c ≡ 0
      → cond (is_end c) (accepted (S, v)) (commands_from f ns 0 m (at + size_of c) (stepped S 0 c) (v || is_move c)) ≡ accepted (T, w) → Led ns S v T w × (w ≡ true)

  behind-open : (f at : ℕ) (v : Bool) (T : State) (w : Bool) (o : Opening) → Behind f at v T w (Open o)
  behind-open f at v T w o e l q =
      let k = commands-led ns 0 m f T w (at + size_of (Open o)) (stepped S 0 (Open o)) (v || true)
      (open_kept ns S o side no_Node no_edge no-shown own (command-formed m at (Open o) e)) (opened_some o)
      (step-within S wi 0 (Open o) (legal-room S ns 0 (Open o) l)) q in
      (follows ns 0 m S v (Open o) T w k, k.moves (or-true v))

  pub opening-led : (f at : ℕ) (v : Bool) (T : State) (w : Bool) → commands_from f ns 0 m at S v ≡ accepted (T, w) → Led ns S v T w × (w ≡ true)
  unfolding commands_from is_fresh
  opening-led zero at v T w h = absurd (false-true (ap is_accepted h))
  opening-led (suc f) at v T w h = by_answer (command_at m at) refl h
    where
      by_number : (c : Command) → command_at m at ≡ Ok c → (k : ℕ) → legal_number ns 0 S c ≡ k
          → judged k (cond (is_end c) (accepted (S, v)) (commands_from f ns 0 m (at + size_of c) (stepped S 0 c) (v || is_move c))) ≡ accepted (T, w)
          → Led ns S v T w × (w ≡ true)
      by_number c e zero l q =
          let o = fresh-open ns 0 S (eq-eqb (length S.nodes) 0 no_Node) c l in subst (Behind f at v T w) (sym o.1) (behind-open f at v T w o.0) e l q
      by_number c e (suc k) l q = absurd (false-true (ap is_accepted q))

      by_answer : (a : Result Command ℕ) → command_at m at ≡ a
          → on_command (λ size U x. commands_from f ns 0 m (at + size) U x) ns 0 S v a ≡ accepted (T, w) → Led ns S v T w × (w ≡ true)
      by_answer (Err k) e q = absurd (false-true (ap is_accepted q))
      by_answer (Ok c) e q = by_number c e (legal_number ns 0 S c) refl q
