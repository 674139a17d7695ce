-- Which steps of a graph leave its satisfied nodes as they are: a node that is no trivial target, an edge that brings nothing, a mark of a node
-- that is no intersection. Assumes nothing.
use Rattle.std.specs.Prelude.{ℕ, ◌<◌, ◌≡◌, refl, Bool, true, false, eqb, length, set}
use Rattle.std.proofs.Common.{arith, sym, ◌∙◌, ap, subst, ⊎_elim, eqb-true, length-append, length-set, get_or-set_same, get_or-set_other}
use mathlib.Core.List.Memᴰ
use mathlib.Core.List.{List, [], ◌∷◌, ◌++◌, Memᴰ}
use Rattle.std.proofs.lemmas.Bool.{eqb-false}
use Rattle.std.proofs.Math.ListN.{get_or-append}
use Rattle.std.proofs.Math.Seq.{get_or-append_seam}
use Rattle.expression.specs.declared.Role.{Role}
use Rattle.expression.specs.declared.Parts.{Parts}
use Rattle.expression.specs.declared.Expression.{Expression}
use Rattle.expression.specs.declared.Expression.TheVariants as E
use Rattle.expression.specs.Kinds.{is_entity}
use Rattle.word.specs.laws.Bools.{false-true, bool_iff}
use Rattle.rt0.specs.From.{roles_of}
use Rattle.propagation.specs.Flags.{at}
use Rattle.graph.specs.declared.Node.{Node}
use Rattle.graph.specs.declared.Edge.{Edge}
use Rattle.graph.specs.Graph.{node_in, blank, in_state}
use Rattle.graph.specs.Form.{is_standard}
use Rattle.graph.specs.States.{implication_kind, intersection_kind, Child, FullyProcessed, Part, Satisfied, trivial, standard, intersection}
use Rattle.graph.specs.laws.States.{satisfied-inside}
use Rattle.graph.specs.Propagated.{satisfied_b}
use Rattle.graph.specs.laws.Propagated.{satisfied-exact}

-- the same nodes are satisfied
pub record Still (ns : List Node) (es : List Edge) (ns' : List Node) (es' : List Edge) : Type 0 where
  pub onward : {i : ℕ} → Satisfied ns es i → Satisfied ns' es' i
  pub back : {i : ℕ} → Satisfied ns' es' i → Satisfied ns es i

pub still-none : (ns : List Node) (es : List Edge) → Still ns es ns es
still-none ns es = record { onward = λ h. h; back = λ h. h }

pub still_both : {ns ns' ns'' : List Node} {es es' es'' : List Edge} → Still ns es ns' es' → Still ns' es' ns'' es'' → Still ns es ns'' es''
still_both g h = record { onward = λ z. h.onward (g.onward z); back = λ z. g.back (h.back z) }

-- by number
pub still-same : {ns ns' : List Node} {es es' : List Edge} → Still ns es ns' es' → (i : ℕ) → at (satisfied_b ns es) i ≡ at (satisfied_b ns' es') i
still-same {ns} {ns'} {es} {es'} h i =
    bool_iff _ _ (λ z. (satisfied-exact ns' es' i).1 (h.onward ((satisfied-exact ns es i).0 z)))
    (λ z. (satisfied-exact ns es i).1 (h.back ((satisfied-exact ns' es' i).0 z)))

-- each edge leads into a node
pub record Inside (ns : List Node) (es : List Edge) : Type 0 where
  pub parent : (e : Edge) → Memᴰ e es → e.parent < length ns

-- An edge more

-- the edge brings its parent nothing: its child is not satisfied, or its parent is, or it is no child of that kind
pub record Idle (ns : List Node) (es : List Edge) (e : Edge) : Type 0 where
  pub implication : implication_kind e.kind ≡ true → Satisfied ns es e.child → Satisfied ns es e.parent
  pub part : intersection_kind e.kind ≡ true → FullyProcessed ns e.parent → Satisfied ns es e.child → Satisfied ns es e.parent

module _ (ns : List Node) (es : List Edge) (e : Edge) where
  child-more : {t : ℕ → Bool} {i c : ℕ} → Child ns es t i c → Child ns (es ++ (e ∷ [])) t i c
  child-more k = record { kind = k.kind; passes = k.passes; edge = Memᴰ.append_left (e ∷ []) k.edge; inside = k.inside }

  edge-onward : {i : ℕ} → Satisfied ns es i → Satisfied ns (es ++ (e ∷ [])) i
  edge-onward (trivial x) = trivial x
  edge-onward (standard s k h) = standard s (child-more k) (edge-onward h)
  edge-onward (intersection x p f w h) =
      intersection x p f (λ a m. record { child = child-more (w a m).child; role = (w a m).role }) (λ a m. edge-onward (h a m))

  module _ (idle : Idle ns es e) where
    -- an implication child that the edge brings, or an older one
    by-child : {i c : ℕ} → is_standard (node_in ns i).expression ≡ true → Child ns (es ++ (e ∷ [])) implication_kind i c → Satisfied ns es c → Satisfied ns es i
    by-child {i} {c} s k h =
        ⊎_elim
        (λ m. standard s (record { kind = k.kind; passes = k.passes; edge = m; inside = k.inside }) h)
        (λ m.
        let q : record { kind = k.kind; parent = i; child = c } ≡ e = Memᴰ.eq_of_singleton m in
        subst (Satisfied ns es) (sym (ap (λ (d : Edge). d.parent) q))
        (idle.implication (sym (ap (λ (d : Edge). implication_kind d.kind) q) ∙ k.passes) (subst (Satisfied ns es) (ap (λ (d : Edge). d.child) q) h)))
        (Memᴰ.append_cases es k.edge)

    -- all parts, one of which the edge may bring
    by_parts : {i : ℕ} {p : Parts} → (node_in ns i).expression ≡ E.Intersection p → FullyProcessed ns i → (f : (a : Role) → Memᴰ a (roles_of p) → ℕ)
        → ((a : Role) (m : Memᴰ a (roles_of p)) → Part ns (es ++ (e ∷ [])) i a (f a m))
        → ((a : Role) (m : Memᴰ a (roles_of p)) → Satisfied ns es (f a m)) → Satisfied ns es i
    by_parts {i} {p} x z f w h = go (at (satisfied_b ns es) i) refl
      where
        old : at (satisfied_b ns es) i ≡ false → (a : Role) (m : Memᴰ a (roles_of p))
            → Memᴰ (record { kind = (w a m).child.kind; parent = i; child = f a m }) es
        old n a m =
            ⊎_elim (λ j. j)
            (λ j.
            let q : record { kind = (w a m).child.kind; parent = i; child = f a m } ≡ e = Memᴰ.eq_of_singleton j in
            let g : Satisfied ns es i =
            subst (Satisfied ns es) (sym (ap (λ (d : Edge). d.parent) q))
            (idle.part (sym (ap (λ (d : Edge). intersection_kind d.kind) q) ∙ (w a m).child.passes)
            (sym (ap (λ (d : Edge). (node_in ns d.parent).state) q) ∙ z) (subst (Satisfied ns es) (ap (λ (d : Edge). d.child) q) (h a m))) in
            absurd (false-true (sym n ∙ (satisfied-exact ns es i).1 g)))
            (Memᴰ.append_cases es (w a m).child.edge)

        go : (b : Bool) → at (satisfied_b ns es) i ≡ b → Satisfied ns es i
        go true n = (satisfied-exact ns es i).0 n
        go false n =
            intersection x z f
            (λ a m. record {
              child = record {
                kind = (w a m).child.kind;
                passes = (w a m).child.passes;
                edge = old n a m;
                inside = (w a
                    m).child.inside;
              };
              role = (w a m).role;
            })
            h

    edge-back : {i : ℕ} → Satisfied ns (es ++ (e ∷ [])) i → Satisfied ns es i
    edge-back (trivial x) = trivial x
    edge-back (standard s k h) = by-child s k (edge-back h)
    edge-back (intersection x p f w h) = by_parts x p f w (λ a m. edge-back (h a m))

    pub still-edge : Still ns es ns (es ++ (e ∷ []))
    still-edge = record { onward = edge-onward; back = edge-back }

  pub inside-edge : Inside ns es → e.parent < length ns → Inside ns (es ++ (e ∷ []))
  inside-edge h l =
      record {
        parent = λ d m. ⊎_elim (λ k. h.parent d k) (λ k. subst (λ (x : Edge). x.parent < length ns) (sym (Memᴰ.eq_of_singleton k)) l)
            (Memᴰ.append_cases es m);
      }

-- A node more

module _ (ns : List Node) (es : List Edge) (x : Node) (inside : Inside ns es) where
  abbrev more : List Node
  more = ns ++ (x ∷ [])

  old-node : (i : ℕ) → i < length ns → node_in more i ≡ node_in ns i
  old-node i l = get_or-append ns (x ∷ []) blank i l

  old-expression : (i : ℕ) → i < length ns → (node_in more i).expression ≡ (node_in ns i).expression
  old-expression i l = ap (λ (n : Node). n.expression) (old-node i l)

  child-wider : {t : ℕ → Bool} {i c : ℕ} → Child ns es t i c → Child more es t i c
  child-wider k = record { kind = k.kind; passes = k.passes; edge = k.edge; inside = omega (arith, k.inside, length-append ns (x ∷ [])) }

  node-onward : {i : ℕ} → Satisfied ns es i → Satisfied more es i
  node-onward (trivial {i} e) = trivial (old-expression i (satisfied-inside {ns = ns} {es = es} (trivial e)) ∙ e)
  node-onward (standard {i} s k h) = standard (ap is_standard (old-expression i (satisfied-inside (standard s k h))) ∙ s) (child-wider k) (node-onward h)
  node-onward (intersection {i} e p f w h) =
      let l : i < length ns = satisfied-inside (intersection e p f w h) in
      intersection (old-expression i l ∙ e) (ap (λ (n : Node). n.state) (old-node i l) ∙ p) f
      (λ a m. record { child = child-wider (w a m).child; role = old-expression (f a m) (w a m).child.inside ∙ (w a m).role })
      (λ a m. node-onward (h a m))

  module _ (plain : is_entity x.expression ≡ false) where
    trivial-back : {i a : ℕ} → (node_in more i).expression ≡ E.Entity a → Satisfied ns es i
    trivial-back {i} {a} e = go (eqb i (length ns)) refl
      where
        go : (b : Bool) → eqb i (length ns) ≡ b → Satisfied ns es i
        go true q =
            absurd (false-true (sym plain ∙ ap (λ (n : Node). is_entity n.expression) (sym (get_or-append_seam ns x [] blank))
            ∙ ap (λ (j : ℕ). is_entity (node_in more j).expression) (sym (eqb-true i (length ns) q)) ∙ ap is_entity e))
        go false q =
            let l : i < length ns = omega (arith, satisfied-inside {ns = more} {es = es} (trivial e), length-append ns (x ∷ []), eqb-false i (length ns) q) in
            trivial (sym (old-expression i l) ∙ e)

    child-inner : {t : ℕ → Bool} {i c : ℕ} → Child more es t i c → Satisfied ns es c → Child ns es t i c
    child-inner k h = record { kind = k.kind; passes = k.passes; edge = k.edge; inside = satisfied-inside h }

    node-back : {i : ℕ} → Satisfied more es i → Satisfied ns es i
    node-back (trivial e) = trivial-back e
    node-back (standard {i} s k h) =
        standard (sym (ap is_standard (old-expression i (inside.parent _ k.edge))) ∙ s) (child-inner k (node-back h)) (node-back h)
    node-back (intersection {i} {p} e z f w h) =
        let l : i < length ns = inside.parent _ (w p.first (Memᴰ.head refl)).child.edge in
        intersection (sym (old-expression i l) ∙ e) (sym (ap (λ (n : Node). n.state) (old-node i l)) ∙ z) f
        (λ a m. record {
          child = child-inner (w a m).child (node-back (h a m));
          role = sym
              (old-expression (f a m) (satisfied-inside (node-back (h a m)))) ∙ (w a m).role;
        })
        (λ a m. node-back (h a m))

    pub still-node : Still ns es more es
    still-node = record { onward = node-onward; back = node-back }

  pub inside-node : Inside more es
  inside-node = record { parent = λ d m. omega (arith, inside.parent d m, length-append ns (x ∷ [])) }

  -- an edge from the new node brings nothing
  pub idle-new : is_entity x.expression ≡ false → (e : Edge) → e.child ≡ length ns → Idle more es e
  idle-new plain e q =
      let none : Satisfied more es e.child → ⊥ = λ h. omega (arith, satisfied-inside (node-back plain h), q) in
      record { implication = λ k h. absurd (none h); part = λ k z h. absurd (none h) }

-- A node in another state

-- an intersection target
abbrev pub is_parts : Expression → Bool
is_parts (E.Entity a) = false
is_parts (E.Role a) = false
is_parts (E.Linked a r) = false
is_parts (E.Intersection p) = true
is_parts (E.Goal r) = false

module _ (ns : List Node) (es : List Edge) (i s : ℕ) (l : i < length ns) where
  abbrev marked : List Node
  marked = set ns i (in_state s (node_in ns i))

  wide : length marked ≡ length ns
  wide = length-set ns i (in_state s (node_in ns i))

  other-node : (j : ℕ) → (j ≡ i → ⊥) → node_in marked j ≡ node_in ns j
  other-node j o = get_or-set_other ns i j (in_state s (node_in ns i)) blank o

  same-expression : (j : ℕ) → (node_in marked j).expression ≡ (node_in ns j).expression
  same-expression j = go (eqb j i) refl
    where
      go : (b : Bool) → eqb j i ≡ b → (node_in marked j).expression ≡ (node_in ns j).expression
      go true q =
          ap (λ (k : ℕ). (node_in marked k).expression) (eqb-true j i q) ∙ ap (λ (n : Node). n.expression) (get_or-set_same ns i (in_state s (node_in ns i)) blank l)
          ∙ ap (λ (k : ℕ). (node_in ns k).expression) (sym (eqb-true j i q))
      go false q = ap (λ (n : Node). n.expression) (other-node j (eqb-false j i q))

  pub inside-mark : Inside ns es → Inside marked es
  inside-mark h = record { parent = λ d m. omega (arith, h.parent d m, wide) }

  -- children are those before
  child-marked : {t : ℕ → Bool} {j c : ℕ} → Child ns es t j c → Child marked es t j c
  child-marked k = record { kind = k.kind; passes = k.passes; edge = k.edge; inside = omega (arith, k.inside, wide) }

  child-unmarked : {t : ℕ → Bool} {j c : ℕ} → Child marked es t j c → Child ns es t j c
  child-unmarked k = record { kind = k.kind; passes = k.passes; edge = k.edge; inside = omega (arith, k.inside, wide) }

  module _ (whole : is_parts (node_in ns i).expression ≡ false) where
    -- an intersection's state is as before
    same-state : (j : ℕ) {p : Parts} → (node_in ns j).expression ≡ E.Intersection p → node_in marked j ≡ node_in ns j
    same-state j e = other-node j (λ q. false-true (sym whole ∙ ap (λ (k : ℕ). is_parts (node_in ns k).expression) (sym q) ∙ ap is_parts e))

    mark-onward : {j : ℕ} → Satisfied ns es j → Satisfied marked es j
    mark-onward (trivial {i = j} e) = trivial (same-expression j ∙ e)
    mark-onward (standard {i = j} t k h) =
        standard (ap is_standard (same-expression j) ∙ t) (child-marked k) (mark-onward h)
    mark-onward (intersection {i = j} e z f w h) =
        intersection (same-expression j ∙ e) (ap (λ (n : Node). n.state) (same-state j e) ∙ z) f
        (λ a m. record { child = child-marked (w a m).child; role = same-expression (f a m) ∙ (w a m).role })
        (λ a m. mark-onward (h a m))

    mark-back : {j : ℕ} → Satisfied marked es j → Satisfied ns es j
    mark-back (trivial {i = j} e) = trivial (sym (same-expression j) ∙ e)
    mark-back (standard {i = j} t k h) =
        standard (sym (ap is_standard (same-expression j)) ∙ t) (child-unmarked k) (mark-back h)
    mark-back (intersection {i = j} e z f w h) =
        intersection (sym (same-expression j) ∙ e) (sym (ap (λ (n : Node). n.state) (same-state j (sym (same-expression j) ∙ e))) ∙ z) f
        (λ a m. record { child = child-unmarked (w a m).child; role = sym (same-expression (f a m)) ∙ (w a m).role })
        (λ a m. mark-back (h a m))

    pub still-mark : Still ns es marked es
    still-mark = record { onward = mark-onward; back = mark-back }
