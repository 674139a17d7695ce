-- What a message leaves is not damaged where its commands kept the graph. Assumes nothing.
use Prim.Native.Nat.{ℕ, ◌+◌, ◌<◌}
use Rattle.std.proofs.Common.{arith, ◌∙◌, eqb-true, lt-ltb, le-leb}
use Rattle.std.specs.Prelude.{◌≡◌, Bool, true, false, not, cond, ◌&&◌, ◌||◌, ltb, leb, length}
use Rattle.std.proofs.Math.Path.{refl, sym, ap}
use mathlib.Core.List.{List, []}
use Rattle.std.proofs.Math.Dec.{eqb}
use Rattle.word.specs.laws.Bools.{and_both}
use Rattle.graph.specs.declared.Node.{Node}
use Rattle.graph.specs.declared.Edge.{Edge}
use Rattle.graph.specs.Propagated.{propagated_state as propagated}
use Rattle.justification.specs.InTurn.{in_turn}
use Rattle.tables.specs.Tables.{Tables}
use Rattle.negotiation.specs.declared.Header.{Header}
use Rattle.negotiation.specs.Messages.{message_count, counted}
use Rattle.negotiation.specs.laws.Messages.{counted-one}
use Rattle.negotiation.specs.State.{State, with_header}
use Rattle.negotiation.specs.Ends.{requester, entity_of}
use Rattle.damage.specs.Header.{header_sound, counts_agree, count_sound, end_sound}
use Rattle.damage.specs.Records.{primary_sound}
use Rattle.damage.specs.Edges.{brought, formed, edge_fits, all_brought}
use Rattle.damage.specs.Damage.{records_sound, edges_justified, sound}
use Rattle.damage.specs.laws.Damage.{whole-graph, graph-end}
use Rattle.applied.specs.After.{end_of, is_stalled, idle_of, header_after, after_message}
use Rattle.legal.specs.laws.Kept.{GraphKept}
use Rattle.numbers.specs.Sizes.{MOST-MESSAGES}

-- the end that is judged is not contradicted: without a move the primary is neither satisfied nor failed, for the negotiation had not ended
pub end-judged : (p idle : ℕ) (moved full : Bool) → (moved ≡ false → (p ≡ 1 → ⊥) × (p ≡ 2 → ⊥))
    → end_sound p (end_of p (is_stalled moved idle) full) (idle_of moved) ≡ true
unfolding end_sound end_of is_stalled idle_of
end-judged p idle moved full h = go (eqb p 1) refl (eqb p 2) refl moved h (eqb idle 1) full
  where
    go : (a : Bool) → eqb p 1 ≡ a → (b : Bool) → eqb p 2 ≡ b → (v : Bool) → (v ≡ false → (p ≡ 1 → ⊥) × (p ≡ 2 → ⊥)) → (d f : Bool)
        → (let e : ℕ = cond a 1 (cond b 2 (cond (not v && d) 3 (cond f 4 0))) in let i : ℕ = cond v 0 1 in
        cond a (eqb e 1 && eqb i 0) (cond b (eqb e 2 && eqb i 0) (((eqb e 0 || eqb e 4) && ltb i 2) || (eqb e 3 && eqb i 1)))) ≡ true
    go true x b y true g d f = refl
    go true x b y false g d f = absurd ((g refl).0 (eqb-true p 1 x))
    go false x true y true g d f = refl
    go false x true y false g d f = absurd ((g refl).1 (eqb-true p 2 y))
    go false x false y true g d true = refl
    go false x false y true g d false = refl
    go false x false y false g true f = refl
    go false x false y false g false true = refl
    go false x false y false g false false = refl

module _ (v p : ℕ) (moved full : Bool) (h : Header) where
  same-fits : (ns : List Node) (b : List Edge) (e : Edge) → edge_fits h ns b e ≡ edge_fits (header_after v p moved full h) ns b e
  unfolding edge_fits formed entity_of header_after
  same-fits ns b e = refl

  same-brought : (ns : List Node) (es : List Edge) → all_brought h ns es ≡ all_brought (header_after v p moved full h) ns es
  unfolding all_brought
  same-brought ns es = ap (λ (f : List Edge → Edge → Bool). in_turn f [] es && eqb (brought es) (length ns)) (λ i b e. same-fits ns b e i)

  same-header : (own : ℕ) → header_sound own h ≡ header_sound own (header_after v p moved full h)
  unfolding header_sound header_after
  same-header own = refl

module _ (T : Tables) (v : ℕ) (U : State) (moved full : Bool) where
  same-records : records_sound T.names U ≡ records_sound T.names (after_message v U moved full)
  unfolding records_sound primary_sound requester after_message with_header header_after
  same-records = refl

  same-justified : edges_justified U ≡ edges_justified (after_message v U moved full)
  unfolding edges_justified after_message with_header
  same-justified = refl

  count-sound : message_count U.header.messages < MOST-MESSAGES → count_sound (counted v U.header.messages) ≡ true
  unfolding count_sound
  count-sound l =
      let n : ℕ = message_count (counted v U.header.messages) in
      let one : n ≡ message_count U.header.messages + 1 = counted-one v U.header.messages in
      and_both (ltb 0 n) (leb n 1027) (lt-ltb 0 n (omega (arith, one))) (le-leb n 1027 (omega (arith, one, l)))

  pub after-sound : header_sound T.own U.header ≡ true → GraphKept T.names U → (length U.nodes ≡ 0 → ⊥)
      → counts_agree (counted v U.header.messages) ≡ true → message_count U.header.messages < MOST-MESSAGES
      → (moved ≡ false → (propagated U.nodes U.edges 0 ≡ 1 → ⊥) × (propagated U.nodes U.edges 0 ≡ 2 → ⊥))
      → sound T (after_message v U moved full) ≡ true
  unfolding after_message with_header header_after
  after-sound h g some agree few still =
      let p : ℕ = propagated U.nodes U.edges 0 in
      sym
      (whole-graph T (after_message v U moved full) {a = true} (sym (sym (same-header v p moved full U.header T.own) ∙ h)) refl
      {c = true} (sym agree) refl refl some
      (graph-end T.names (after_message v U moved full) {a = true} (sym (count-sound few)) refl {b = true} (sym (sym same-records ∙ g.records)) refl
      {c = true} (sym (sym (same-brought v p moved full U.header U.nodes U.edges) ∙ g.edges)) refl {d = true}
      (sym (sym same-justified ∙ g.justified)) refl refl
      (sym (end-judged p U.header.idle moved full still))))
