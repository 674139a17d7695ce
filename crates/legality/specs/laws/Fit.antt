-- The edges that a rule may add are right: of the form of their kind, to a proper child, and justified once the credentials that go before them are
-- shown. Assumes nothing.
use Rattle.std.specs.Prelude.{ℕ, ◌<◌, true, false, eqb, length}
use Rattle.std.proofs.Common.{arith, sym, ap, ⊎_elim}
use Rattle.std.proofs.Math.Path.{◌≡◌, refl, subst}
use Rattle.std.proofs.Math.Bool.{not}
use mathlib.Core.List.Memᴰ
use mathlib.Core.List.{List, [], ◌++◌, Memᴰ}
use Rattle.std.proofs.lemmas.Bool.{eqb-false}
use Rattle.expression.specs.declared.Credential.{Credential}
use Rattle.expression.specs.declared.Expression.{Expression}
use Rattle.rt0.specs.From.{From}
use Rattle.rt0.proofs.laws.Laws.{more, sound, complete}
use Rattle.propagation.specs.laws.Flags.{decided}
use Rattle.tables.specs.Tables.{Tables}
use Rattle.tables.specs.Public.{keep}
use Rattle.tables.specs.laws.Public.{keep-mem}
use Rattle.needed.specs.Needed.{needed}
use Rattle.needed.specs.laws.Needed.{needed-enough, needed-some}
use Rattle.graph.specs.declared.Node.{Node}
use Rattle.graph.specs.Graph.{node_in}
use Rattle.graph.specs.Form.{is_standard, form}
use Rattle.message.specs.Command.{edge_kind}
use Rattle.negotiation.specs.State.{State}
use Rattle.rt0.specs.Shown.{is_shown}
use Rattle.applied.specs.Step.{verifier_of}
use Rattle.legal.specs.Number.{formed_as}
use Rattle.legal.specs.Legal.{Monitored, Justifies}
use Rattle.moves.specs.declared.Candidate.{Candidate}
use Rattle.moves.specs.Rules.{End, end_in, child_for, suits_node}
use Rattle.moves.specs.Move.{side_set, credentials_for}
use Rattle.legality.specs.laws.Proper.{Proper}
use Rattle.legality.specs.laws.Stored.{Stored}
use Rattle.legality.specs.laws.Going.{Going, going-node}
use Rattle.legality.specs.laws.Forms.{form-one, body-target}
use Rattle.legality.specs.laws.Shown.{showing, Showable, showable-none, sub-showable, unshown-showable, shown-mem}
use Rattle.legality.specs.laws.Reached.{Reached}

-- the wanted child as a node
abbrev pub child_node : Candidate → ℕ → Node
child_node w t = record { expression = w.expression; subject = w.subject; verifier = w.verifier; state = t }

-- an edge into node i, behind the credentials cs
pub record FitWith (T : Tables) (S : State) (i : ℕ) (w : Candidate) (cs : List Credential) : Type 0 where
  pub kind : edge_kind w.kind ≡ true
  pub verifier : w.verifier ≡ verifier_of w.kind (node_in S.nodes i)
  pub form : (t : ℕ) → formed_as S.header w.kind (node_in S.nodes i) (child_node w t) ≡ true
  pub child : Proper T.names w.expression
  pub subject : 0 < w.subject
  pub shows : Showable T.names S.shown cs
  pub justified : Justifies (showing S cs) w.kind i w.expression w.subject

-- behind those that go before it
pub record Fit (T : Tables) (S : State) (i : ℕ) (w : Candidate) : Type 0 where
  pub fit : FitWith T S i w (credentials_for (end_in T S) (node_in S.nodes i) w)

-- each of these edges
abbrev pub AllFit : Tables → State → ℕ → List Candidate → Type 0
AllFit T S i ws = (w : Candidate) → Memᴰ w ws → Fit T S i w

-- Kinds but 1

-- no credentials go before them
none_before : (o : End) (n : Node) (w : Candidate) → eqb w.kind 1 ≡ false → credentials_for o n w ≡ []
unfolding credentials_for
none_before o n w h = rw h refl

module _ (T : Tables) (S : State) (i : ℕ) (w : Candidate) where
  pub plain-fit : eqb w.kind 1 ≡ false → edge_kind w.kind ≡ true → w.verifier ≡ verifier_of w.kind (node_in S.nodes i)
      → ((t : ℕ) → formed_as S.header w.kind (node_in S.nodes i) (child_node w t) ≡ true)
      → Proper T.names w.expression → 0 < w.subject → (w.kind ≡ 4 → Monitored S (node_in S.nodes i).expression w.subject i)
      → Fit T S i w
  plain-fit one k v f p s m =
      record {
        fit = subst (FitWith T S i w) (sym (none_before (end_in T S) (node_in S.nodes i) w one))
            (record {
              kind = k;
              verifier = v;
              form = f;
              child = p;
              subject = s;
              shows = showable-none T.names S.shown;
              justified = record { implied = λ e. absurd (eqb-false w.kind 1 one e); monitored = λ e. again (m e) };
            });
      }
    where
      again : Monitored S (node_in S.nodes i).expression w.subject i → Monitored (showing S []) (node_in S.nodes i).expression w.subject i
      again h =
          record {
            goal = h.goal;
            monitor = h.monitor;
            solution = h.solution;
            solving = h.solving;
            first = h.first;
            second = h.second;
            linked = h.linked;
            role = h.role;
            satisfied = h.satisfied;
          }

-- Kind 1

-- what is from something over our credentials is so over those shown and those not shown yet
pub unshown-from : (shown own : List Credential) {f e : Expression} → From own f e → From (shown ++ keep (λ c. not (is_shown shown c)) own) f e
unshown-from shown own h = more sub h
  where
    sub : (c : Credential) → Memᴰ c own → Memᴰ c (shown ++ keep (λ c. not (is_shown shown c)) own)
    sub c m =
        ⊎_elim (λ k. Memᴰ.append_left (keep (λ c. not (is_shown shown c)) own) (shown-mem shown c k))
        (λ k. Memᴰ.append_right shown (keep-mem (λ c. not (is_shown shown c)) m (ap not k)))
        (decided (is_shown shown c))

-- the needed ones are enough
needed-from : (shown own : List Credential) (f e : Expression) → From own f e → From (shown ++ needed shown f e (keep (λ c. not (is_shown shown c)) own)) f e
needed-from shown own f e h =
    let C : List Credential = keep (λ c. not (is_shown shown c)) own in
    sound (shown ++ needed shown f e C) f e (needed-enough shown f e C (complete (shown ++ C) f e (unshown-from shown own h)))

module _ (T : Tables) (S : State) (g : Going T S) (i : ℕ) (l : i < length S.nodes) where
  -- an implication edge to an expression that our credentials reach
  pub implication-fit : (C : List Credential) → Stored T.names C → side_set (end_in T S) (node_in S.nodes i) ≡ C
      → is_standard (node_in S.nodes i).expression ≡ true
      → (x : Expression) → Reached T.names C (node_in S.nodes i).expression x → suits_node (node_in S.nodes i) x ≡ true
      → Fit T S i (child_for 1 (node_in S.nodes i) x (node_in S.nodes i).subject)
  unfolding credentials_for end_in verifier_of formed_as
  implication-fit C s own std x r suits =
      let n : Node = node_in S.nodes i in
      record {
        fit =
            subst (λ (D : List Credential). FitWith T S i (child_for 1 n x n.subject)
            (needed S.shown n.expression x (keep (λ c. not (is_shown S.shown c)) D))) (sym own)
            (record {
              kind = refl;
              verifier = refl;
              form = λ t. form-one _ n (child_node (child_for 1 n x n.subject) t) std (body-target n x r.body suits) refl refl;
              child = r.proper;
              subject = (going-node T S g i l).subject;
              shows =
                  sub-showable (needed-some S.shown n.expression x (keep (λ c. not (is_shown S.shown c)) C))
                  (unshown-showable T.names S.shown C s);
              justified = record {
                implied = λ e. needed-from S.shown C n.expression x r.from;
                monitored = λ e. absurd (let z : ◌≡◌ {A = ℕ} 1 4 = e in omega (arith, z));
              };
            });
      }
