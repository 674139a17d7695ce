-- Which steps a graph grows by: a node added, an edge added, a node marked, and steps one after the other. Assumes nothing.
use Rattle.std.specs.Prelude.{ℕ, ◌<◌, ◌≡◌, refl, Bool, true, false, ◌||◌, List, [], ◌∷◌, ◌++◌, eqb, length, set}
use Rattle.std.proofs.Common.{arith, sym, ◌∙◌, ap, ⊎_elim, append_assoc, append-nil, eq-eqb, eqb-true, length-append, length-set, get_or-set_same, get_or-set_other}
use mathlib.Core.List.Memᴰ
use Rattle.std.proofs.lemmas.Bool.{eqb-false}
use Rattle.std.proofs.Math.ListN.{get_or-append}
use Rattle.word.specs.laws.Bools.{or_cases, or_left, or_right}
use Rattle.graph.specs.declared.Node.{Node}
use Rattle.graph.specs.declared.Edge.{Edge}
use Rattle.graph.specs.Graph.{node_in, blank, in_state}
use Rattle.graph.specs.States.{FullyProcessed}
use Rattle.graph.specs.Growth.{gains, Grown, Joined}
use Rattle.graph.specs.laws.States.{gains-all, processed-inside, processed-stays}

gains-same : (s : ℕ) → gains s s ≡ true
gains-same s = or_right (eqb s 0 || eqb s 3) (eqb s s) (eq-eqb s s refl)

gains-both : (s t u : ℕ) → gains s t ≡ true → gains t u ≡ true → gains s u ≡ true
gains-both s t u g h =
    ⊎_elim
    (λ a.
    ⊎_elim (λ z. or_left (eqb s 0 || eqb u 3) (eqb s u) (or_left (eqb s 0) (eqb u 3) z))
    (λ z. or_left (eqb s 0 || eqb u 3) (eqb s u) (or_right (eqb s 0) (eqb u 3) (eq-eqb u 3 (gains-all t u (eqb-true t 3 z) h))))
    (or_cases (eqb s 0) (eqb t 3) a))
    (λ e. ap (λ (n : ℕ). gains n u) (eqb-true s t e) ∙ h)
    (or_cases (eqb s 0 || eqb t 3) (eqb s t) g)

module _ (ns : List Node) (es : List Edge) (joined : Joined ns es) where
  pub grown-node : (n : Node) → Grown ns es (ns ++ (n ∷ [])) es
  grown-node n =
      let old : (i : ℕ) → i < length ns → node_in (ns ++ (n ∷ [])) i ≡ node_in ns i = λ i l. get_or-append ns (n ∷ []) blank i l in
      record {
        more = omega (arith, length-append ns (n ∷ []));
        same = λ i l j. record {
          expression = (old i l j).expression;
          subject = (old i l j).subject;
          verifier = (old i l j).verifier;
          state = (node_in (ns ++ (n ∷ [])) i).state;
        };
        gained = λ i l. ap (λ (x : Node). gains (node_in ns i).state x.state) (old i l) ∙ gains-same (node_in ns i).state;
        added = [];
        edges = sym (append-nil es);
        unprocessed = λ e m. absurd (Memᴰ.not-nil m);
        joined = joined;
      }

  -- "Only a side that has not processed the parent may add an edge into it"
  pub grown-edge : (e : Edge) → (FullyProcessed ns e.parent → ⊥) → Grown ns es ns (es ++ (e ∷ []))
  grown-edge e p =
      record {
        more = omega arith;
        same = λ i l. refl;
        gained = λ i l. gains-same (node_in ns i).state;
        added = e ∷ [];
        edges = refl;
        unprocessed = λ d m f. p (ap (λ (x : Edge). (node_in ns x.parent).state) (sym (Memᴰ.eq_of_singleton m)) ∙ f);
        joined = joined;
      }

  pub grown-mark : (i s : ℕ) → gains (node_in ns i).state s ≡ true → Grown ns es (set ns i (in_state s (node_in ns i))) es
  grown-mark i s g =
      record {
        more = omega (arith, length-set ns i (in_state s (node_in ns i)));
        same = λ k l. same k l (eqb k i) refl;
        gained = λ k l. gained k l (eqb k i) refl;
        added = [];
        edges = sym (append-nil es);
        unprocessed = λ e m. absurd (Memᴰ.not-nil m);
        joined = joined;
      }
    where
      here : (k : ℕ) → k < length ns → k ≡ i → node_in (set ns i (in_state s (node_in ns i))) k ≡ in_state s (node_in ns k)
      here k l e =
          ap (node_in (set ns i (in_state s (node_in ns i)))) e ∙ get_or-set_same ns i (in_state s (node_in ns i)) blank (omega arith)
          ∙ ap (λ (n : ℕ). in_state s (node_in ns n)) (sym e)

      other : (k : ℕ) → (k ≡ i → ⊥) → node_in (set ns i (in_state s (node_in ns i))) k ≡ node_in ns k
      other k o = get_or-set_other ns i k (in_state s (node_in ns i)) blank o

      -- a node that was put into state t
      in-state : {x : Node} (y : Node) (t : ℕ) → x ≡ in_state t y → x ≡ in_state x.state y
      in-state y t e = e ∙ ap (λ (u : ℕ). in_state u y) (sym (ap (λ (n : Node). n.state) e))

      same : (k : ℕ) → k < length ns → (b : Bool) → eqb k i ≡ b
          → node_in (set ns i (in_state s (node_in ns i))) k ≡ in_state (node_in (set ns i (in_state s (node_in ns i))) k).state (node_in ns k)
      same k l true q = in-state (node_in ns k) s (here k l (eqb-true k i q))
      same k l false q = in-state (node_in ns k) (node_in ns k).state (other k (eqb-false k i q))

      gained : (k : ℕ) → k < length ns → (b : Bool) → eqb k i ≡ b → gains (node_in ns k).state (node_in (set ns i (in_state s (node_in ns i))) k).state ≡ true
      gained k l true q =
          ap (λ (x : Node). gains (node_in ns k).state x.state) (here k l (eqb-true k i q))
          ∙ ap (λ (n : ℕ). gains (node_in ns n).state s) (eqb-true k i q) ∙ g
      gained k l false q = ap (λ (x : Node). gains (node_in ns k).state x.state) (other k (eqb-false k i q)) ∙ gains-same (node_in ns k).state

pub grown-both : {ns ns' ns'' : List Node} {es es' es'' : List Edge} → Grown ns es ns' es' → Grown ns' es' ns'' es'' → Grown ns es ns'' es''
grown-both {ns} {ns'} {ns''} {es} {es'} {es''} g h =
    let inner : (i : ℕ) → i < length ns → i < length ns' = λ i l. omega (arith, g.more) in
    record {
      more = omega (arith, g.more, h.more);
      same = λ i l. h.same i (inner i l) ∙ ap (in_state (node_in ns'' i).state) (g.same i l);
      gained = λ i l. gains-both (node_in ns i).state (node_in ns' i).state (node_in ns'' i).state (g.gained i l) (h.gained i (inner i l));
      added = g.added ++ h.added;
      edges = h.edges ∙ ap (λ (l : List Edge). l ++ h.added) g.edges ∙ append_assoc es g.added h.added;
      unprocessed = λ e m p.
          ⊎_elim (λ k. g.unprocessed e k p) (λ k. h.unprocessed e k (processed-stays g e.parent (processed-inside ns e.parent p) p))
          (Memᴰ.append_cases g.added m);
      joined = g.joined;
    }
