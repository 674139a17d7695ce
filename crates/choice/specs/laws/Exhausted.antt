-- The edges of rule (4) of a sensitive role: once all are done they stay done (section 5.4). Assumes nothing.
use Rattle.std.specs.Prelude.{ℕ, ◌≤◌, ◌<◌, ◌≡◌, refl, Bool, true, false, cond, ◌||◌, List, ltb, length, Some}
use Rattle.std.proofs.Common.{arith, sym, ◌∙◌, ap}
use Rattle.expression.specs.declared.Role.{Role}
use Rattle.expression.specs.declared.Expression.TheVariants as E
use Rattle.tables.specs.Tables.{Tables}
use Rattle.tables.specs.Lookup.{other_of}
use Rattle.tables.specs.Public.{hidden_of}
use Rattle.graph.specs.declared.Node.{Node}
use Rattle.graph.specs.Graph.{node_in}
use Rattle.message.specs.declared.Command.{Command}
use Rattle.negotiation.specs.State.{State}
use Rattle.moves.specs.declared.Candidate.{Candidate}
use Rattle.moves.specs.declared.Choice.{Choice}
use Rattle.moves.specs.declared.Choice.TheVariants as C
use Rattle.moves.specs.declared.Known.{Known}
use Rattle.moves.specs.declared.Known.TheVariants.{Waiting, Seen}
use Rattle.moves.specs.declared.Holding.TheVariants.{Absent, Free, Guarded}
use Rattle.moves.specs.Known.{is_acknowledged}
use Rattle.moves.specs.Candidates.{first_not, mark_if, is_done}
use Rattle.moves.specs.Rules.{end_in}
use Rattle.moves.specs.Move.{choice_at}
use Rattle.moves.specs.Carried.{carried}
use Rattle.candidates.specs.laws.Least.{or_else}
use Rattle.choice.specs.laws.Known.{known_as}
use Rattle.choice.specs.laws.Sensitive.{alone, control_for, own_for, satisfied_in, policy_choice, holding_choice, known_choice}
use Rattle.choice.specs.laws.Asked.{rest_edges, Asked, rest_at, sensitive-at}
use Rattle.choice.specs.laws.Later.{or_nothing, Later, asked-back, rest-stays, carried_later}
use Rattle.choice.specs.laws.Next.{NothingBefore}
use Rattle.numbers.specs.Sizes.{MOST-NODES}

-- below p the edges of rule (4) of sensitive roles about us are done
pub record Exhausted (T : Tables) (S : State) (p : ℕ) : Type 0 where
  pub stands : p ≤ length S.nodes
  pub done : (i : ℕ) → i < p → (n : Node) (a ack : Role) → Asked S i n (E.Role a) → n.subject ≡ T.own → other_of T.sensitive a ≡ Some ack
      → first_not (is_done S.nodes S.edges i) C.Nothing (rest_edges T n a) ≡ C.Nothing

pub exhausted-none : (T : Tables) (S : State) → Exhausted T S 0
exhausted-none T S = record { stands = omega arith; done = λ i l n a ack q s f. absurd (omega (arith, l)) }

-- below the larger of two numbers
pub exhausted-both : (T : Tables) (S : State) (p m : ℕ) → Exhausted T S p → Exhausted T S m → Exhausted T S (cond (ltb p m) m p)
exhausted-both T S p m f g = go (ltb p m)
  where
    go : (b : Bool) → Exhausted T S (cond b m p)
    go true = g
    go false = f

-- Where there is nothing to do

-- whatever is known of the role, the rest is done
known-nothing : (S : State) (d : Candidate → Bool) (i : ℕ) (n : Node) (rest : Choice) (k : Known) → known_choice S d i n rest k ≡ C.Nothing → rest ≡ C.Nothing
unfolding known_choice holding_choice policy_choice
known-nothing S d i n rest Waiting h = (or_nothing rest (mark_if (satisfied_in S i)) h).0
known-nothing S d i n rest (Seen Absent) h = (or_nothing rest C.Mark h).0
known-nothing S d i n rest (Seen Free) h = (or_nothing rest C.Mark (or_nothing (alone d (own_for n)) (or_else rest C.Mark) h).1).0
known-nothing S d i n rest (Seen (Guarded r)) h =
    let a : Bool = is_acknowledged S r in
    let m : Choice = or_else rest (mark_if (a || satisfied_in S i)) in
    let o : Choice = cond a (alone d (own_for n)) C.Nothing in
    (or_nothing rest (mark_if (a || satisfied_in S i)) (or_nothing o m (or_nothing (alone d (control_for S n r)) (or_else o m) h).1).1).0

module _ (T : Tables) (S : State) where
  idle-done : (i : ℕ) (n : Node) (a ack : Role) → Asked S i n (E.Role a) → n.subject ≡ T.own → other_of T.sensitive a ≡ Some ack
      → choice_at (end_in T S) i n ≡ C.Nothing → rest_at T S i n a ack ≡ C.Nothing
  idle-done i n a ack q s f h =
      let d : Candidate → Bool = is_done S.nodes S.edges i in
      let k : Known = known_as S (hidden_of T) a ack in
      known-nothing S d i n (rest_at T S i n a ack) k
      (or_nothing (alone d (control_for S n ack)) (known_choice S d i n (rest_at T S i n a ack) k) (sensitive-at T S i n a ack q s f ∙ h)).1

  pub idle-exhausted : (m : ℕ) → m ≤ length S.nodes → NothingBefore (end_in T S) m → Exhausted T S m
  unfolding end_in
  idle-exhausted m l P = record { stands = l; done = λ i j n a ack q s f. idle-done i n a ack q s f (ap (choice_at (end_in T S) i) q.number ∙ P.none i j) }

-- Growth

exhausted-grown : (T : Tables) (S R : State) (p : ℕ) → Later S R → length S.nodes ≤ MOST-NODES → Exhausted T S p → Exhausted T R p
exhausted-grown T S R p u few f = record { stands = omega (arith, f.stands, u.more.more); done = later }
  where
    later : (i : ℕ) → i < p → (n : Node) (a ack : Role) → Asked R i n (E.Role a) → n.subject ≡ T.own → other_of T.sensitive a ≡ Some ack
        → first_not (is_done R.nodes R.edges i) C.Nothing (rest_edges T n a) ≡ C.Nothing
    later i l n a ack q s k =
        let inside : i < length S.nodes = omega (arith, l, f.stands) in
        let subject : (node_in S.nodes i).subject ≡ n.subject = sym (ap (λ (y : Node). y.subject) q.number ∙ (u.more.alike i inside).subject) in
        ap (λ (x : Node). first_not (is_done R.nodes R.edges i) C.Nothing (rest_edges T x a)) q.number
        ∙ rest-stays u inside T few a (f.done i l (node_in S.nodes i) a ack (asked-back u inside q) (subject ∙ s) k)

-- commands of our side leave done what is done
pub exhausted-carried : (T : Tables) (S : State) (p : ℕ) → length S.nodes ≤ MOST-NODES → Exhausted T S p → (cs : List Command)
    → Exhausted T (carried S.header.side S cs) p
exhausted-carried T S p few f cs = exhausted-grown T S (carried S.header.side S cs) p (carried_later S S.header.side refl cs) few f
