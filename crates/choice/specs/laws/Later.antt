-- What stays as commands of our side carry the negotiation on: what is done stays done. Assumes nothing.
use Prim.Native.Nat.{ℕ, ◌/◌, ◌%◌, ◌≤◌, ◌<◌}
use Rattle.std.proofs.Common.{div-one, arith, sym, ◌∙◌, ap, eqb-true, lt-ltb, ltb-true, get_or-set_same, get_or-set_other}
use Rattle.std.specs.Prelude.{◌≡◌, Bool, false, cond, ◌||◌, List, [], ◌∷◌, eqb, length, set}
use Rattle.std.proofs.Math.Path.{refl}
use Rattle.std.proofs.Math.Logic.{⊎_elim}
use Rattle.std.proofs.Math.Bool.{true}
use Rattle.std.proofs.lemmas.Bool.{eqb-false}
use Rattle.std.specs.Int.Bits.{bit_or}
use Rattle.std.proofs.Math.ListN.{get_or-append}
use Rattle.word.specs.laws.Bit.{bit_at, bit-or}
use Rattle.expression.specs.declared.Role.{Role}
use Rattle.expression.specs.declared.Expression.{Expression}
use Rattle.word.specs.laws.Bools.{false-true, or_cases, or_left, or_right}
use Rattle.tables.specs.Tables.{Tables}
use Rattle.graph.specs.declared.Node.{Node}
use Rattle.graph.specs.declared.Edge.{Edge}
use Rattle.graph.specs.Graph.{node_in, blank, in_state}
use Rattle.graph.specs.Find.{has_edge}
use Rattle.graph.specs.laws.FindExact as F
use Rattle.message.specs.declared.Command.{Command}
use Rattle.message.specs.declared.Command.TheVariants.{Show, Open, Bring, Join, Mark, End}
use Rattle.negotiation.specs.declared.Header.{Header}
use Rattle.negotiation.specs.State.{State, with_node, with_edge, with_shown, with_mark}
use Rattle.graph.specs.Processed.{processed_by, marked_state}
use Rattle.applied.specs.Step.{primary_of, child_in, stepped}
use Rattle.moves.specs.declared.Candidate.{Candidate}
use Rattle.moves.specs.declared.Choice.{Choice}
use Rattle.moves.specs.declared.Choice.TheVariants as C
use Rattle.moves.specs.laws.KnownStays.{More, Onward, found-more, more_same, more-both, step-onward, step-header}
use Rattle.moves.specs.Candidates.{first_not, child_number, child_stands, is_done}
use Rattle.moves.specs.Carried.{carried}
use Rattle.candidates.specs.laws.Least.{or_else}
use Rattle.choice.specs.laws.Asked.{rest_edges, Asked}
use Rattle.choice.specs.laws.Next.{is_nothing}
use Rattle.numbers.specs.Sizes.{MOST-NODES}

-- Where there is nothing to do

pub or_nothing : (b c : Choice) → or_else b c ≡ C.Nothing → (b ≡ C.Nothing) × (c ≡ C.Nothing)
or_nothing (C.Edge w) c h = absurd (false-true (ap is_nothing h))
or_nothing C.Mark c h = absurd (false-true (ap is_nothing h))
or_nothing C.Nothing c h = (refl, h)

pub first-stays : (d e : Candidate → Bool) → ((w : Candidate) → d w ≡ true → e w ≡ true) → (ws : List Candidate) → first_not d C.Nothing ws ≡ C.Nothing
    → first_not e C.Nothing ws ≡ C.Nothing
unfolding first_not
first-stays d e f [] h = refl
first-stays d e f (w ∷ ws) h = go (d w) refl h (λ k. first-stays d e f ws k)
  where
    go : (b : Bool) → d w ≡ b → cond b (first_not d C.Nothing ws) (C.Edge w) ≡ C.Nothing
        → (first_not d C.Nothing ws ≡ C.Nothing → first_not e C.Nothing ws ≡ C.Nothing)
        → cond (e w) (first_not e C.Nothing ws) (C.Edge w) ≡ C.Nothing
    go true q k ih = ap (λ (b : Bool). cond b (first_not e C.Nothing ws) (C.Edge w)) (f w q) ∙ ih k
    go false q k ih = absurd (false-true (ap is_nothing k))

module _ {ns ns' : List Node} {es es' : List Edge} (g : More ns es ns' es') (few : length ns ≤ 128) where
  -- a child that stands is found at the same number
  same-child : (w : Candidate) → child_stands ns w ≡ true → child_number ns' w ≡ child_number ns w
  same-child w h =
      ⊎_elim (λ a. absurd (omega (arith, few, a.number, ltb-true (child_number ns w) (length ns) h)))
      (λ f. found-more g w.expression w.verifier w.subject f)
      (F.find_cases ns w.expression w.verifier w.subject)

  abbrev edge : ℕ → Candidate → ℕ → Edge
  edge i w c = record { kind = w.kind; parent = i; child = c }

  pub done-stays : (i : ℕ) (w : Candidate) → is_done ns es i w ≡ true → is_done ns' es' i w ≡ true
  unfolding is_done
  done-stays i w h = go (child_stands ns w) refl h
    where
      joined : (eqb i (child_number ns w) || has_edge es (edge i w (child_number ns w))) ≡ true
          → (eqb i (child_number ns w) || has_edge es' (edge i w (child_number ns w))) ≡ true
      joined k =
          let c : ℕ = child_number ns w in
          ⊎_elim (λ z. or_left (eqb i c) (has_edge es' (edge i w c)) z)
          (λ z. or_right (eqb i c) (has_edge es' (edge i w c)) ((F.has-exact es' (edge i w c)).1 (g.edges (edge i w c) ((F.has-exact es (edge i w c)).0 z))))
          (or_cases (eqb i c) (has_edge es (edge i w c)) k)

      go : (b : Bool) → child_stands ns w ≡ b → cond b (eqb i (child_number ns w) || has_edge es (edge i w (child_number ns w))) false ≡ true
          → cond (child_stands ns' w) (eqb i (child_number ns' w) || has_edge es' (edge i w (child_number ns' w))) false ≡ true
      go true q k =
          let e : child_number ns' w ≡ child_number ns w = same-child w q in
          let l : child_number ns' w < length ns' = omega (arith, e, g.more, ltb-true (child_number ns w) (length ns) q) in
          (λ j. cond (lt-ltb (child_number ns' w) (length ns') l j) (eqb i (e j) || has_edge es' (edge i w (e j))) false) ∙ joined k
      go false q k = absurd (false-true k)

-- The negotiation goes on by commands of our side

-- nodes and edges stay, and so do the header and what our side has processed
pub record Later (S R : State) : Type 0 where
  pub more : Onward S R
  pub header : R.header ≡ S.header
  pub back : (i : ℕ) → i < length S.nodes → processed_by S.header.side (node_in R.nodes i) ≡ false
      → processed_by S.header.side (node_in S.nodes i) ≡ false

module _ {S R : State} (u : Later S R) {i : ℕ} (l : i < length S.nodes) where
  abbrev old : Node
  old = node_in S.nodes i

  pub same-side : R.header.side ≡ S.header.side
  same-side = ap (λ (h : Header). h.side) u.header

  -- what is asked at a node was asked there
  pub asked-back : {n : Node} {e : Expression} → Asked R i n e → Asked S i old e
  asked-back {n} q =
      let x = u.more.alike i l in
      record {
        number = refl;
        expression = sym (ap (λ (y : Node). y.expression) q.number ∙ x.expression) ∙ q.expression;
        unprocessed = u.back i l ((λ t. processed_by (sym same-side t) (sym q.number t)) ∙ q.unprocessed);
        opponent = λ e. q.opponent (ap (λ (y : Node). y.verifier) q.number ∙ (x.verifier ∙ (e ∙ sym same-side)));
      }

  -- the edges of rule (4) that are done stay done
  pub rest-stays : (T : Tables) → length S.nodes ≤ MOST-NODES → (a : Role)
      → first_not (is_done S.nodes S.edges i) C.Nothing (rest_edges T old a) ≡ C.Nothing
      → first_not (is_done R.nodes R.edges i) C.Nothing (rest_edges T (node_in R.nodes i) a) ≡ C.Nothing
  rest-stays T few a h =
      let x = u.more.alike i l in
      let n : Node = node_in R.nodes i in
      (λ t. first_not (is_done R.nodes R.edges i) C.Nothing
      (rest_edges T (record { expression = n.expression; subject = x.subject t; verifier = x.verifier t; state = n.state }) a))
      ∙ first-stays (is_done S.nodes S.edges i) (is_done R.nodes R.edges i) (λ w k. done-stays u.more few i w k) (rest_edges T old a) h

-- Commands

-- a mark sets the bit that is asked for
marked-processed : (s : ℕ) (n : Node) → processed_by s (in_state (marked_state s n) n) ≡ true
unfolding processed_by marked_state bit_at
marked-processed s n = go (eqb n.verifier s)
  where
    t : ℕ
    t = n.state

    go : (b : Bool) → cond b (eqb (cond b (bit_or t 1) (bit_or t 2) % 2) 1) (eqb (cond b (bit_or t 1) (bit_or t 2) / 2 % 2) 1) ≡ true
    go true = sym (ap (λ (k : ℕ). eqb (k % 2) 1) (div-one (bit_or t 1))) ∙ (bit-or t 1 0 ∙ or_right (bit_at t 0) (bit_at 1 0) refl)
    go false = bit-or t 2 1 ∙ or_right (bit_at t 1) (bit_at 2 1) refl

later_same : (S : State) → Later S S
later_same S = record { more = more_same S.nodes S.edges; header = refl; back = λ i l h. h }

later-both : {S R U : State} → Later S R → Later R U → Later S U
later-both {S} {R} {U} f g =
    let side : R.header.side ≡ S.header.side = ap (λ (h : Header). h.side) f.header in
    record {
      more = more-both f.more g.more;
      header = g.header ∙ f.header;
      back =
          λ i l h. f.back i l ((λ t. processed_by (sym side t) (node_in R.nodes i))
          ∙ g.back i (omega (arith, l, f.more.more)) ((λ t. processed_by (side t) (node_in U.nodes i)) ∙ h));
    }

step-open : (S : State) (c : Command) (i : ℕ) → i < length S.nodes
    → processed_by S.header.side (node_in (stepped S S.header.side c).nodes i) ≡ false → processed_by S.header.side (node_in S.nodes i) ≡ false
unfolding stepped with_node with_edge with_shown with_mark
step-open S (Show c) i l h = h
step-open S (Open o) i l h = sym (ap (processed_by S.header.side) (get_or-append S.nodes (primary_of S.header o ∷ []) blank i l)) ∙ h
step-open S (Bring b) i l h = sym (ap (processed_by S.header.side) (get_or-append S.nodes (child_in S b ∷ []) blank i l)) ∙ h
step-open S (Join e) i l h = h
step-open S (Mark k) i l h = go (eqb i k) refl
  where
    s : ℕ
    s = S.header.side

    marked : Node
    marked = in_state (marked_state s (node_in S.nodes k)) (node_in S.nodes k)

    go : (b : Bool) → eqb i k ≡ b → processed_by s (node_in S.nodes i) ≡ false
    go true e =
        let same : node_in (set S.nodes k marked) i ≡ marked = ap (node_in (set S.nodes k marked)) (eqb-true i k e)
        ∙ get_or-set_same S.nodes k marked blank (omega (arith, l, eqb-true i k e)) in
        absurd (false-true (sym h ∙ (ap (processed_by s) same ∙ marked-processed s (node_in S.nodes k))))
    go false e = sym (ap (processed_by s) (get_or-set_other S.nodes k i marked blank (eqb-false i k e))) ∙ h
step-open S End i l h = h

pub carried_later : (S : State) (s : ℕ) → s ≡ S.header.side → (cs : List Command) → Later S (carried s S cs)
carried_later S s e [] = later_same S
carried_later S s e (c ∷ cs) =
    later-both (step-later c) (carried_later (stepped S s c) s (e ∙ sym (ap (λ (h : Header). h.side) (step-header S s c))) cs)
  where
    step-later : (c : Command) → Later S (stepped S s c)
    step-later c =
        record {
          more = step-onward S s c;
          header = step-header S s c;
          back = λ i l h. step-open S c i l
              (ap (λ (k : ℕ). processed_by S.header.side (node_in (stepped S k c).nodes i)) (sym e) ∙ h);
        }
