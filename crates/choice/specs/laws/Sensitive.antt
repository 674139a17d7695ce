-- The choice for a sensitive role (section 5.4, (1) to (5)), and by what is known of our roles. Assumes nothing.
use Rattle.std.specs.Prelude.{ℕ, ◌≡◌, not, cond, ◌||◌}
use Rattle.std.proofs.Math.Path.{refl, sym, ap}
use Rattle.std.proofs.Common.{◌∙◌}
use Rattle.std.proofs.Math.Bool.{Bool, true, false}
use borrow.Author.Tests.{not-true, not-false}
use mathlib.Core.List.{List, [], ◌∷◌, ◌++◌}
use Rattle.expression.specs.declared.Role.{Role}
use Rattle.expression.specs.declared.Expression.TheVariants as E
use Rattle.propagation.specs.Flags.{at}
use Rattle.propagation.specs.laws.Flags.{flag}
use Rattle.graph.specs.declared.Node.{Node}
use Rattle.graph.specs.Propagated.{satisfied_b}
use Rattle.justification.specs.laws.Justified.{Says}
use Rattle.negotiation.specs.State.{State}
use Rattle.negotiation.specs.Ends.{other_side}
use Rattle.moves.specs.declared.Candidate.{Candidate}
use Rattle.moves.specs.declared.Choice.{Choice}
use Rattle.moves.specs.declared.Choice.TheVariants as C
use Rattle.moves.specs.declared.Holding.{Holding}
use Rattle.moves.specs.declared.Holding.TheVariants.{Absent, Free, Guarded}
use Rattle.moves.specs.declared.Known.{Known}
use Rattle.moves.specs.declared.Known.TheVariants.{Waiting, Seen}
use Rattle.moves.specs.Known.{is_acknowledged}
use Rattle.moves.specs.Candidates.{first_not, mark_if, chosen_in}
use Rattle.moves.specs.Rules.{End, is_satisfied, control_edge, own_edge, sensitive_rules}
use Rattle.candidates.specs.laws.Least.{better, or_else, first_rest}

-- one edge, unless it is done
abbrev pub alone : (Candidate → Bool) → Candidate → Choice
alone d w = better d C.Nothing w

first-cons : (d : Candidate → Bool) (rest : Choice) (w : Candidate) (ws : List Candidate) → first_not d rest (w ∷ ws) ≡ or_else (alone d w) (first_not d rest ws)
unfolding first_not better
first-cons d rest w ws = go (d w)
  where
    go : (b : Bool) → cond b (first_not d rest ws) (C.Edge w) ≡ or_else (cond b C.Nothing (C.Edge w)) (first_not d rest ws)
    go true = refl
    go false = refl

-- a control edge, the edge to our own trivial target, and whether a node is satisfied, in a state
abbrev pub control_for : State → Node → Role → Candidate
control_for S n r = record { kind = 6; verifier = other_side n.verifier; expression = E.Role r; subject = S.header.other; direct = false }

abbrev pub own_for : Node → Candidate
own_for n = record { kind = 1; verifier = n.verifier; expression = E.Entity n.subject; subject = n.subject; direct = true }

abbrev pub satisfied_in : State → ℕ → Bool
satisfied_in S i = at (satisfied_b S.nodes S.edges) i

module _ (S : State) (d : Candidate → Bool) (i : ℕ) (n : Node) (rest : Choice) where
  -- rules (2) to (5) where an AC role is set
  unfoldable pub policy_choice : Role → Choice
  policy_choice r =
      or_else (alone d (control_for S n r))
      (or_else (cond (is_acknowledged S r) (alone d (own_for n)) C.Nothing)
      (or_else rest (mark_if (is_acknowledged S r || satisfied_in S i))))

  -- by what we hold
  unfoldable pub holding_choice : Holding → Choice
  holding_choice Absent = or_else rest C.Mark
  holding_choice Free = or_else (alone d (own_for n)) (or_else rest C.Mark)
  holding_choice (Guarded r) = policy_choice r

  -- by what is known
  unfoldable pub known_choice : Known → Choice
  known_choice Waiting = or_else rest (mark_if (satisfied_in S i))
  known_choice (Seen h) = holding_choice h

module _ (o : End) (d : Candidate → Bool) (i : ℕ) (n : Node) (ack : Candidate) (rest : List Candidate) where
  behind-all : (m : Bool) → first_not d (mark_if m) rest ≡ or_else (first_not d C.Nothing rest) (mark_if m)
  behind-all m = first_rest d (mark_if m) rest

  policy-rules : (r : Role) → policy_choice o.state d i n (first_not d C.Nothing rest) r
      ≡ first_not d (mark_if (is_acknowledged o.state r || is_satisfied o i))
      (control_edge o n r ∷ (cond (is_acknowledged o.state r) (own_edge o n ∷ []) [] ++ rest))
  unfolding policy_choice
  policy-rules r =
      let a : Bool = is_acknowledged o.state r in
      let m : Choice = mark_if (a || is_satisfied o i) in
      ap (λ (c : Choice). or_else (alone d (control_edge o n r)) (or_else (cond a (alone d (own_edge o n)) C.Nothing) c)) (sym (first_rest d m rest))
      ∙ (ap (or_else (alone d (control_edge o n r))) (go a m) ∙ sym (first-cons d m (control_edge o n r) (cond a (own_edge o n ∷ []) [] ++ rest)))
    where
      go : (a : Bool) (m : Choice) → or_else (cond a (alone d (own_edge o n)) C.Nothing) (first_not d m rest) ≡ first_not d m (cond a (own_edge o n ∷ []) [] ++ rest)
      go true m = sym (first-cons d m (own_edge o n) rest)
      go false m = refl

  -- the rules for a sensitive role come to this
  pub sensitive-rules : (k : Known) → or_else (alone d ack) (known_choice o.state d i n (first_not d C.Nothing rest) k)
      ≡ chosen_in d (sensitive_rules o i n ack rest k)
  unfolding known_choice holding_choice sensitive_rules chosen_in
  sensitive-rules Waiting = ap (or_else (alone d ack)) (sym (behind-all (is_satisfied o i))) ∙ sym (first-cons d (mark_if (is_satisfied o i)) ack rest)
  sensitive-rules (Seen Absent) = ap (or_else (alone d ack)) (sym (behind-all true)) ∙ sym (first-cons d C.Mark ack rest)
  sensitive-rules (Seen Free) =
      ap (λ (c : Choice). or_else (alone d ack) (or_else (alone d (own_edge o n)) c)) (sym (behind-all true))
      ∙ (ap (or_else (alone d ack)) (sym (first-cons d C.Mark (own_edge o n) rest)) ∙ sym (first-cons d C.Mark ack (own_edge o n ∷ rest)))
  sensitive-rules (Seen (Guarded r)) =
      ap (or_else (alone d ack)) (policy-rules r)
      ∙ sym (first-cons d (mark_if (is_acknowledged o.state r || is_satisfied o i)) ack
      (control_edge o n r ∷ (cond (is_acknowledged o.state r) (own_edge o n ∷ []) [] ++ rest)))

-- What the code finds

module _ (S : State) (d : Candidate → Bool) (i : ℕ) (n : Node) (rest : Choice) {c : Choice} where
  pub by-waiting : {m : Choice} {k : Known} {b : Bool} → k ≡ Waiting → b ≡ satisfied_in S i → m ≡ mark_if b → c ≡ or_else rest m → c ≡ known_choice S d i n rest k
  unfolding known_choice
  by-waiting e p q r = r ∙ (ap (or_else rest) (q ∙ ap mark_if p) ∙ sym (ap (known_choice S d i n rest) e))

  pub by-seen : {k : Known} {h : Holding} → k ≡ Seen h → c ≡ holding_choice S d i n rest h → c ≡ known_choice S d i n rest k
  unfolding known_choice
  by-seen e p = p ∙ sym (ap (known_choice S d i n rest) e)

  pub by-absent : {h : Holding} → h ≡ Absent → c ≡ or_else rest C.Mark → c ≡ holding_choice S d i n rest h
  unfolding holding_choice
  by-absent e p = p ∙ sym (ap (holding_choice S d i n rest) e)

  pub by-free : {a b : Choice} {w : Candidate} {h : Holding} → h ≡ Free → w ≡ own_for n → a ≡ alone d w → b ≡ or_else rest C.Mark → c ≡ or_else a b
      → c ≡ holding_choice S d i n rest h
  unfolding holding_choice
  by-free e w p q r = r ∙ ((λ t. or_else ((p ∙ ap (alone d) w) t) (q t)) ∙ sym (ap (holding_choice S d i n rest) e))

  pub by-guarded : {h : Holding} {r : Role} → h ≡ Guarded r → c ≡ policy_choice S d i n rest r → c ≡ holding_choice S d i n rest h
  unfolding holding_choice
  by-guarded e p = p ∙ sym (ap (holding_choice S d i n rest) e)

  module _ (r : Role) {w : Candidate} {control : Choice} (we : w ≡ control_for S n r) (ce : control ≡ alone d w) {a : Bool} (ae : a ≡ is_acknowledged S r) where
    pub policy-waits : {s : Bool} {m b : Choice} → not a ≡ true → s ≡ satisfied_in S i → m ≡ mark_if s → b ≡ or_else rest m → c ≡ or_else control b
        → c ≡ policy_choice S d i n rest r
    unfolding policy_choice
    policy-waits h p q u v =
        v ∙ ((λ t. or_else ((ce ∙ ap (alone d) we) t) ((u ∙ ap (or_else rest) (q ∙ ap mark_if p)) t))
        ∙ sym (ap (λ (x : Bool). or_else (alone d (control_for S n r))
        (or_else (cond x (alone d (own_for n)) C.Nothing) (or_else rest (mark_if (x || satisfied_in S i))))) (sym ae ∙ not-true a h)))

    pub policy-met : {o : Candidate} {own b e : Choice} → not a ≡ false → o ≡ own_for n → own ≡ alone d o → b ≡ or_else rest C.Mark → e ≡ or_else own b
        → c ≡ or_else control e → c ≡ policy_choice S d i n rest r
    unfolding policy_choice
    policy-met h p q u f v =
        v ∙ ((λ t. or_else ((ce ∙ ap (alone d) we) t) ((f ∙ (λ z. or_else ((q ∙ ap (alone d) p) z) (u z))) t))
        ∙ sym (ap (λ (x : Bool). or_else (alone d (control_for S n r))
        (or_else (cond x (alone d (own_for n)) C.Nothing) (or_else rest (mark_if (x || satisfied_in S i))))) (sym ae ∙ not-false a h)))

pub control-verifier : (S : State) (n : Node) (r : Role) {v : ℕ} → v ≡ other_side n.verifier
    → record { kind = 6; verifier = v; expression = E.Role r; subject = S.header.other; direct = false } ≡ control_for S n r
control-verifier S n r e = λ t. record { kind = 6; verifier = e t; expression = E.Role r; subject = S.header.other; direct = false }

pub satisfied-flag : (S : State) {sat : List ℕ} → Says S.nodes S.edges sat → {i j : ℕ} → j ≡ i → flag sat j ≡ satisfied_in S i
satisfied-flag S {sat} s {i} e = ap (flag sat) e ∙ s.says i
