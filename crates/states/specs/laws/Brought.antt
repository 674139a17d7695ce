-- Children that the columns bring. Assumes nothing.
use Rattle.std.specs.Prelude.{ℕ, ◌+◌, ◌*◌, ◌/◌, ◌≤◌, ◌<◌, ◌≡◌, refl, Bool, true, false, cond, get_or, length, take}
use Rattle.std.proofs.Common.{arith, sym, ◌∙◌, ap, subst, ⊎_elim, length-take-le, get_or-take}
use mathlib.Core.List.{List, Memᴰ}
use Rattle.std.proofs.Math.Seq.{take-length}
use Rattle.expression.specs.declared.Parts.{Parts}
use Rattle.expression.specs.declared.Expression.{Expression}
use Rattle.expression.specs.declared.Expression.TheVariants as E
use Rattle.graph.specs.declared.Node.{Node}
use Rattle.graph.specs.declared.Edge.{Edge}
use Rattle.graph.specs.Graph.{node_in}
use Rattle.graph.specs.laws.Graph.{edge_in}
use Rattle.graph.specs.Form.{is_standard}
use Rattle.graph.specs.States.{implication_kind, intersection_kind, Child}
use Rattle.propagation.specs.laws.Flags.{decided}
use Rattle.states.specs.laws.Brings.{slot_in, slot_as, slot_for, brings, from_of, slot_of, Joined}
use Rattle.states.specs.laws.BringsLaws.{brings-parts, brings-of, from-child, into-slot, from-none}
use Rattle.states.specs.laws.Fields.{slot-standard}
use Rattle.states.specs.laws.Places.{mem_index, index-mem}

-- an edge brings node i the child c, which fills slot k of its four
pub record Brought (ns : List Node) (es : List Edge) (i k c : ℕ) : Type 0 where
  pub kind : ℕ
  pub edge : Memᴰ (record { kind = kind; parent = i; child = c }) es
  pub inside : c < length ns
  pub slot : slot_as kind (node_in ns i).expression (node_in ns c).expression ≡ k

-- an edge of a kind that passes fills the slot of the kind; one that does not fills none
passed : (t : Bool) (x k : ℕ) → k < 4 → cond t x 4 ≡ k → (t ≡ true) × (x ≡ k)
passed true x k l e = (refl, e)
passed false x k l e = absurd (omega arith)

-- an implication child
pub implied : {ns : List Node} {es : List Edge} {i k c : ℕ} → is_standard (node_in ns i).expression ≡ true → k < 4 → Brought ns es i k c
    → Child ns es implication_kind i c
implied {ns} {es} {i} {k} {c} s l w =
    record {
      kind = w.kind;
      passes = (passed (implication_kind w.kind) 0 k l (sym (slot-standard w.kind (node_in ns i).expression (node_in ns c).expression s) ∙ w.slot)).0;
      edge = w.edge;
      inside = w.inside;
    }

pub implies : {ns : List Node} {es : List Edge} {i c : ℕ} → is_standard (node_in ns i).expression ≡ true → Child ns es implication_kind i c → Brought ns es i 0 c
implies {ns} {es} {i} {c} s k =
    record {
      kind = k.kind;
      edge = k.edge;
      inside = k.inside;
      slot = slot-standard k.kind (node_in ns i).expression (node_in ns c).expression s ∙ ap (λ (b : Bool). cond b 0 4) k.passes;
    }

-- an intersection child, and the slot of its role
pub joined : {ns : List Node} {es : List Edge} {i k c : ℕ} {p : Parts} → (node_in ns i).expression ≡ E.Intersection p → k < 4 → Brought ns es i k c
    → Child ns es intersection_kind i c × (slot_in p (node_in ns c).expression ≡ k)
unfolding slot_as
joined {ns} {es} {i} {k} {c} {p} e l w =
    let t = passed (intersection_kind w.kind) (slot_in p (node_in ns c).expression) k l
    (sym (ap (λ (x : Expression). slot_as w.kind x (node_in ns c).expression) e) ∙ w.slot) in
    (record { kind = w.kind; passes = t.0; edge = w.edge; inside = w.inside }, t.1)

pub joins : {ns : List Node} {es : List Edge} {i c : ℕ} {p : Parts} → (node_in ns i).expression ≡ E.Intersection p → Child ns es intersection_kind i c
    → Brought ns es i (slot_in p (node_in ns c).expression) c
unfolding slot_as
joins {ns} {es} {i} {c} {p} e k =
    record {
      kind = k.kind;
      edge = k.edge;
      inside = k.inside;
      slot =
          ap (λ (x : Expression). slot_as k.kind x (node_in ns c).expression) e
          ∙ ap (λ (b : Bool). cond b (slot_in p (node_in ns c).expression) 4) k.passes;
    }

module _ {ns : List Node} {es : List Edge} {F S : List ℕ} (jn : Joined ns es F S) (m : ℕ) (l : m ≤ length es) where
  -- an edge that leads from a node brings a child
  pub brought-at : (j i : ℕ) → j < m → get_or F j 0 < 128 → get_or S j 0 / 4 ≡ i
      → (k : ℕ) × (k < 4) × (get_or S j 0 ≡ i * 4 + k) × Brought ns (take m es) i k (get_or F j 0)
  brought-at j i q f s =
      let e : Edge = edge_in es j in
      let jf : get_or F j 0 ≡ from_of ns e = jn.from j (omega arith) in
      let js : get_or S j 0 ≡ slot_of ns e = jn.slot j (omega arith) in
      let b : brings ns e ≡ true = ⊎_elim (λ t. t) (λ t. absurd (omega (arith, from-none ns e t))) (decided (brings ns e)) in
      let p = brings-parts ns e b in
      let z : slot_of ns e ≡ e.parent * 4 + slot_for ns e = into-slot ns e b in
      let y : e.parent ≡ i = omega (arith, p.2) in
      let x : e.child ≡ get_or F j 0 = sym (jf ∙ from-child ns e b) in
      let w : Memᴰ (edge_in es j) (take m es) = subst (λ (d : Edge). Memᴰ d (take m es))
      (get_or-take m es j (record { kind = 0; parent = 0; child = 0 }) q)
      (index-mem (record { kind = 0; parent = 0; child = 0 }) (take m es) j (omega (arith, length-take-le m es l))) in (
        slot_for ns e,
        p.2,
        omega arith,
        record {
          kind = e.kind;
          edge = subst (λ (d : Edge). Memᴰ d (take m es)) (λ t. record { kind = e.kind; parent = y t; child = x t }) w;
          inside = omega (arith, p.1);
          slot = sym (λ t. slot_as e.kind (node_in ns (y t)).expression (node_in ns (x t)).expression);
        },
      )

  -- a child that an edge brings stands in the columns
  pub brought-here : {i k c : ℕ} → i < length ns → k < 4 → Brought ns (take m es) i k c → (j : ℕ) × (j < m) × (get_or F j 0 ≡ c) × (get_or S j 0 ≡ i * 4 + k)
  brought-here {i} {k} {c} il kl w =
      let d : Edge = record { kind = w.kind; parent = i; child = c } in
      let r = mem_index (record { kind = 0; parent = 0; child = 0 }) w.edge in
      let q : r.0 < m = omega (arith, r.1, length-take-le m es l) in
      let e : edge_in es r.0 ≡ d = sym (get_or-take m es r.0 (record { kind = 0; parent = 0; child = 0 }) q) ∙ r.2 in
      let b : brings ns d ≡ true = brings-of ns d il w.inside (omega (arith, w.slot)) in (
        r.0,
        q,
        jn.from r.0 (omega arith) ∙ ap (from_of ns) e ∙ from-child ns d b,
        jn.slot r.0 (omega arith) ∙ ap (slot_of ns) e ∙ into-slot ns d b ∙ ap (λ (n : ℕ). i * 4 + n) w.slot,
      )

-- the same over all edges
module _ {ns : List Node} {es : List Edge} {F S : List ℕ} (jn : Joined ns es F S) where
  pub brought-at-all : (j i : ℕ) → j < length es → get_or F j 0 < 128 → get_or S j 0 / 4 ≡ i → (k : ℕ) × (k < 4) × Brought ns es i k (get_or F j 0)
  brought-at-all j i q f s =
      let r = brought-at jn (length es) (omega arith) j i q f s in
      (r.0, r.1, subst (λ (d : List Edge). Brought ns d i r.0 (get_or F j 0)) (take-length es) r.3)

  pub brought-here-all : {i k c : ℕ} → i < length ns → k < 4 → Brought ns es i k c → (j : ℕ) × (j < length es) × (get_or F j 0 ≡ c) × (get_or S j 0 ≡ i * 4 + k)
  brought-here-all {i} {k} {c} il kl w =
      brought-here jn (length es) (omega arith) il kl (subst (λ (d : List Edge). Brought ns d i k c) (sym (take-length es)) w)
