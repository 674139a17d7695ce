-- The report, test by test, and its numbers read back. Assumes nothing.
use Rattle.std.specs.Prelude.{ℕ, ◌+◌, ◌*◌, ◌/◌, ◌%◌, ◌≤◌, ◌<◌, zero, suc, Bool, true, false, ◌&&◌, ◌||◌, List, [], ◌∷◌, ◌++◌, ltb, eqb, leb, length, get_or, ◌≡◌, refl, Result, Ok, Err}
use Rattle.std.proofs.Math.Bool.{cond}
use Rattle.graph.specs.Propagated.{propagated_state, satisfied_b, failed_b, complete_b}
use Rattle.standing.specs.Standing.{restore_of}
use Rattle.std.proofs.Common.{arith, ◌∙◌, ⊎_elim, lt-ltb, le-ltb, eqb-true, leb-true}
use Rattle.std.proofs.Math.Path.{sym, ap}
use Rattle.rt0.specs.laws.Pool.{credentials, credential_at}
use Rattle.rt0.specs.laws.Added.{length-up_to}
use Rattle.word.specs.laws.Bools.{and_parts, or_cases}
use Rattle.propagation.specs.Flags.{at}
use Rattle.graph.specs.declared.Node.{Node}
use Rattle.graph.specs.declared.Edge.{Edge}
use Rattle.graph.specs.laws.Graph.{nodes_of, edges_of}
use Rattle.graph.specs.laws.Columns.{nodes-length, edges-length, node_in_lem}
use Rattle.graph.specs.laws.Form.{legal-few}
use Rattle.negotiation.specs.declared.Messages.{Messages}
use Rattle.negotiation.specs.declared.Negotiation.{Negotiation}
use Rattle.negotiation.specs.State.{State, within}
use Rattle.negotiation.specs.laws.State.{state_of as state_held}
use Rattle.standing.specs.declared.Restored.{Restored}
use Rattle.damage.specs.Header.{end_sound}
use Rattle.damage.specs.Damage.{sound, records_sound}
use Rattle.standing.specs.laws.Standing.{standing_of}
use Rattle.damage.specs.laws.Damage.{graph-parts, sound-some, sound-legal, fits-sound}
use Rattle.damage.specs.laws.Going.{few-messages}
use Rattle.report.specs.Report.{Report, report_on, behind_negotiation, report_of, packed, unpacked}
use Rattle.numbers.specs.Answer.{Answer, refused, accepted, answer_of}
use Rattle.tables.specs.Tables.{Tables}
use Rattle.justification.specs.InTurn.{in_turn}
use Rattle.damage.specs.Records.{node_fits, primary_sound, credential_fits}
use Rattle.graph.specs.Graph.{node_in, blank}
use Rattle.numbers.specs.Sizes.{MOST-NODES, MOST-EDGES, MOST-SHOWN}

-- a report of these numbers
abbrev pub numbered : ℕ → ℕ → ℕ → ℕ → ℕ → ℕ → Messages → Report
numbered s p e n m k c = record { state = s; propagated = p; end = e; nodes = n; edges = m; shown = k; messages = c }

-- The numbers

-- the lowest number, and the rest
low-4 : (x y n : ℕ) → n ≡ x + y * 4 → x < 4 → (n % 4 ≡ x) × (n / 4 ≡ y)
low-4 x y n q l = (omega arith, omega arith)

low-8 : (x y n : ℕ) → n ≡ x + y * 8 → x < 8 → (n % 8 ≡ x) × (n / 8 ≡ y)
low-8 x y n q l = (omega arith, omega arith)

low-128 : (x y n : ℕ) → n ≡ x + y * 128 → x < 128 → (n % 128 ≡ x) × (n / 128 ≡ y)
low-128 x y n q l = (omega arith, omega arith)

low-256 : (x y n : ℕ) → n ≡ x + y * 256 → x < 256 → (n % 256 ≡ x) × (n / 256 ≡ y)
low-256 x y n q l = (omega arith, omega arith)

low-512 : (x y n : ℕ) → n ≡ x + y * 512 → x < 512 → (n % 512 ≡ x) × (n / 512 ≡ y)
low-512 x y n q l = (omega arith, omega arith)

low-1024 : (x y n : ℕ) → n ≡ x + y * 1024 → x < 1024 → (n % 1024 ≡ x) × (n / 1024 ≡ y)
low-1024 x y n q l = (omega arith, omega arith)

-- what is packed is read back
pub packed-back : (r : Report) → r.state < 4 → r.propagated < 4 → r.end < 8 → r.nodes < 256 → r.edges < 512 → r.shown < 128
    → r.messages.mediator < 1024 → unpacked (packed r) ≡ r
unfolding packed unpacked
packed-back r a b c d e f g =
    let s7 : ℕ = r.messages.mediator + r.messages.requester * 1024 in
    let s6 : ℕ = r.shown + s7 * 128 in
    let s5 : ℕ = r.edges + s6 * 512 in
    let s4 : ℕ = r.nodes + s5 * 256 in
    let s3 : ℕ = r.end + s4 * 8 in
    let s2 : ℕ = r.propagated + s3 * 4 in
    let v1 = low-4 r.state s2 (packed r) refl a in
    let v2 = low-4 r.propagated s3 (packed r / 4) v1.1 b in
    let v3 = low-8 r.end s4 (packed r / 4 / 4) v2.1 c in
    let v4 = low-256 r.nodes s5 (packed r / 4 / 4 / 8) v3.1 d in
    let v5 = low-512 r.edges s6 (packed r / 4 / 4 / 8 / 256) v4.1 e in
    let v6 = low-128 r.shown s7 (packed r / 4 / 4 / 8 / 256 / 512) v5.1 f in
    let v7 = low-1024 r.messages.mediator r.messages.requester (packed r / 4 / 4 / 8 / 256 / 512 / 128) v6.1 g in
    λ i. record {
      state = v1.0 i;
      propagated = v2.0 i;
      end = v3.0 i;
      nodes = v4.0 i;
      edges = v5.0 i;
      shown = v6.0 i;
      messages = record { mediator = v7.0 i; requester = v7.1 i };
    }

-- The call

module _ (tables negotiation : List ℕ) (i : ℕ) (r : Result Restored ℕ) (e : standing_of r ≡ restore_of tables negotiation) where
  -- the tables or the negotiation are refused
  pub report-refused : {k : ℕ} → r ≡ Err k → k ≡ answer_of packed (report_of tables negotiation i)
  unfolding report_of standing_of
  report-refused q = sym (ap (λ (s : Answer (Tables × State)). answer_of packed (behind_negotiation i s)) (sym e ∙ ap standing_of q))

  module _ {R : Restored} (z : r ≡ Ok R) where
    by-node : (b : Bool) → ltb i (length (nodes_of R.negotiation.nodes)) ≡ b
        → answer_of packed (report_of tables negotiation i) ≡ answer_of packed (cond b (accepted (report_on (state_held R.negotiation) i)) (refused 24))
    unfolding report_of standing_of state_held
    by-node b q =
        ap (λ (s : Answer (Tables × State)). answer_of packed (behind_negotiation i s)) (sym e ∙ ap standing_of z)
        ∙ ap (λ (b : Bool). answer_of packed (cond b (accepted (report_on (state_held R.negotiation) i)) (refused 24))) q

    -- an absent node
    pub report-absent : {k : ℕ} → k ≡ i → R.negotiation.nodes.count ≤ k → 24 ≡ answer_of packed (report_of tables negotiation i)
    report-absent ke l = sym (by-node false (le-ltb i (length (nodes_of R.negotiation.nodes)) (omega (arith, nodes-length R.negotiation.nodes))))

    pub report-node : {k v : ℕ} → k ≡ i → k < R.negotiation.nodes.count → v ≡ packed (report_on (state_held R.negotiation) k)
        → v * 256 ≡ answer_of packed (report_of tables negotiation i)
    report-node {k} {v} ke l ve =
        sym (by-node true (lt-ltb i (length (nodes_of R.negotiation.nodes)) (omega (arith, nodes-length R.negotiation.nodes)))
        ∙ sym (ap (λ (n : ℕ). n * 256) (ve ∙ ap (λ (n : ℕ). packed (report_on (state_held R.negotiation) n)) ke)))

-- In code

pub pack-is : {s p e n m k s' p' e' n' m' k' a' b' : ℕ} {c : Messages} → s' ≡ s → p' ≡ p → e' ≡ e → n' ≡ n → m' ≡ m → k' ≡ k
    → a' ≡ c.mediator → b' ≡ c.requester
    → (s' + (p' + (e' + (n' + (m' + (k' + (a' + b' * 1024) * 128) * 512) * 256) * 8) * 4) * 4) ≡ packed (numbered s p e n m k c)
unfolding packed
pack-is a b d f g h j l = λ i. a i + (b i + (d i + (f i + (g i + (h i + (j i + l i * 1024) * 128) * 512) * 256) * 8) * 4) * 4

-- the numbers of a negotiation as it is held
pub report-is : (G : Negotiation) (i : ℕ) {p v : ℕ} → i < G.nodes.count → p ≡ propagated_state (nodes_of G.nodes) (edges_of G.edges) i
    → v ≡ packed (numbered (get_or G.nodes.state i 0) p G.header.end G.nodes.count G.edges.count G.shown.count
    G.header.messages) → v ≡ packed (report_on (state_held G) i)
unfolding report_on state_held credentials
report-is G i l e q = q ∙ ap packed (λ t. record {
  state = (sym (node_in_lem G.nodes i l) t).state;
  propagated = e t;
  end = G.header.end;
  nodes = sym (nodes-length G.nodes) t;
  edges = sym (edges-length G.edges) t;
  shown = sym (length-up_to G.shown.count (credential_at G.shown)) t;
  messages = G.header.messages;
})

-- and its counts of messages have ten bits
pub held-counts : (T : Tables) (G : Negotiation) → sound T (state_held G) ≡ true
    → (G.header.messages.mediator < 1024) × (G.header.messages.requester < 1024)
unfolding state_held
held-counts T G h = few-messages T (state_held G) h

-- What a report's numbers are

-- a propagated state is 0, 1 or 2
state-few : (ns : List Node) (es : List Edge) (i : ℕ) → propagated_state ns es i < 4
unfolding propagated_state
state-few ns es i = go (at (satisfied_b ns es) i || complete_b ns es i) (at (failed_b ns es) i)
  where
    go : (a b : Bool) → cond a 1 (cond b 2 0) < 4
    go true b = omega arith
    go false true = omega arith
    go false false = omega arith

-- an end is 0 to 4
end-few : (p e i : ℕ) → end_sound p e i ≡ true → e < 8
unfolding end_sound
end-few p e i h = go (eqb p 1) (eqb p 2) h
  where
    is : (k j : ℕ) → k < 8 → (eqb e k && eqb i j) ≡ true → e < 8
    is k j l t = let z : e ≡ k = eqb-true e k (and_parts (eqb e k) (eqb i j) t).0 in omega arith

    go : (a b : Bool) → cond a (eqb e 1 && eqb i 0) (cond b (eqb e 2 && eqb i 0) (((eqb e 0 || eqb e 4) && ltb i 2) || (eqb e 3 && eqb i 1))) ≡ true → e < 8
    go true b t = is 1 0 (omega arith) t
    go false true t = is 2 0 (omega arith) t
    go false false t =
        ⊎_elim
        (λ q. ⊎_elim (λ a. let z : e ≡ 0 = eqb-true e 0 a in omega arith) (λ a. let z : e ≡ 4 = eqb-true e 4 a in omega arith)
        (or_cases (eqb e 0) (eqb e 4) (and_parts (eqb e 0 || eqb e 4) (ltb i 2) q).0))
        (λ q. is 3 1 (omega arith) q)
        (or_cases ((eqb e 0 || eqb e 4) && ltb i 2) (eqb e 3 && eqb i 1) t)

-- an element passes the test behind some of those before it
turn_at : {A : Type 0} (t : List A → A → Bool) (d : A) (before xs : List A) (i : ℕ) → in_turn t before xs ≡ true → i < length xs
    → (b : List A) × (t b (get_or xs i d) ≡ true)
unfolding in_turn
turn_at t d before [] i h l = absurd (omega arith)
turn_at t d before (x ∷ xs) zero h l = (before, (and_parts (t before x) (in_turn t (before ++ (x ∷ [])) xs) h).0)
turn_at t d before (x ∷ xs) (suc i) h l = turn_at t d (before ++ (x ∷ [])) xs i (and_parts (t before x) (in_turn t (before ++ (x ∷ [])) xs) h).1 (omega arith)

-- the numbers of an accepted report are the state byte, the propagated state, the end and the counts of the records held
pub report-numbers : (T : Tables) (S : State) → within S ≡ true → sound T S ≡ true → (i : ℕ) → i < length S.nodes
    → unpacked (packed (report_on S i)) ≡ report_on S i
unfolding report_on within records_sound
report-numbers T S w h i l =
    let p = graph-parts T.names S (sound-some T S h (λ z. omega (arith, l, z))) in
    let nodes : Bool = in_turn (node_fits T.names) [] S.nodes in
    let fit = (and_parts nodes (primary_sound S.header (node_in S.nodes 0))
    (and_parts (nodes && primary_sound S.header (node_in S.nodes 0)) (in_turn (credential_fits T.names) [] S.shown) p.1).0).0 in
    let n = turn_at (node_fits T.names) blank [] S.nodes i fit l in
    let a = and_parts (leb (length S.nodes) MOST-NODES && leb (length S.edges) MOST-EDGES) (leb (length S.shown) MOST-SHOWN) w in
    let b = and_parts (leb (length S.nodes) MOST-NODES) (leb (length S.edges) MOST-EDGES) a.0 in
    packed-back (report_on S i)
    (legal-few (node_in S.nodes i).expression (node_in S.nodes i).state
    (sound-legal T.names (node_in S.nodes i) (fits-sound T.names n.0 (node_in S.nodes i) n.1)))
    (state-few S.nodes S.edges i)
    (end-few (propagated_state S.nodes S.edges 0) S.header.end S.header.idle p.4)
    (omega (arith, leb-true (length S.nodes) MOST-NODES b.0))
    (omega (arith, leb-true (length S.edges) MOST-EDGES b.1))
    (omega (arith, leb-true (length S.shown) MOST-SHOWN a.1))
    (few-messages T S h).0
