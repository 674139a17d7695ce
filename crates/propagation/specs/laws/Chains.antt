-- The edges from each node as a chain, the latest first. Assumes nothing.
use Rattle.std.specs.Prelude.{ℕ, ◌+◌, ◌≤◌, ◌<◌, ◌≡◌, List, eqb, get_or, length, set, replicate}
use Rattle.std.proofs.Common.{arith, sym, ◌∙◌, ap, subst, ⊎_elim, eqb-true, length-set, get_or-set_same, get_or-set_other}
use Rattle.std.proofs.lemmas.Bool.{eqb-false}
use Rattle.std.proofs.lemmas.List.{length-replicate}
use Rattle.propagation.specs.laws.Flags.{decided}
use Rattle.word.specs.laws.Search.{zeros}

-- head[v] is the number of the last edge from v plus one, next[j] that of the last edge before j from the same node plus one; 0: none
pub record Chained (m : ℕ) (from head next : List ℕ) : Type 0 where
  pub head-size : length head ≡ 256
  pub next-size : length next ≡ 256
  pub head-low : (v : ℕ) → get_or head v 0 ≤ m
  pub next_low : (j : ℕ) → get_or next j 0 ≤ j
  pub head-all : (v j : ℕ) → get_or head v 0 ≤ j → j < m → get_or from j 0 ≡ v → ⊥
  pub next-all : (i j : ℕ) → i < m → get_or next i 0 ≤ j → j < i → get_or from j 0 ≡ get_or from i 0 → ⊥

pub chain-start : (from : List ℕ) → Chained 0 from (replicate 256 0) (replicate 256 0)
chain-start from =
    record {
      head-size = length-replicate {A = ℕ} 256 0;
      next-size = length-replicate {A = ℕ} 256 0;
      head-low = λ v. omega (arith, zeros 256 v);
      next_low = λ j. omega (arith, zeros 256 j);
      head-all = λ v j l h. absurd (omega arith);
      next-all = λ i j l. absurd (omega arith);
    }

-- edge m joins the chain of its node f
pub chain_link : (m f h : ℕ) (from head next : List ℕ) → m < 256 → f < 256 → f ≡ get_or from m 0 → h ≡ get_or head f 0 → Chained m from head next
    → Chained (m + 1) from (set head f (m + 1)) (set next m h)
chain_link m f h from head next ml fl fe he c =
    let hs : length head ≡ 256 = c.head-size in
    let ns : length next ≡ 256 = c.next-size in
    let hf : get_or (set head f (m + 1)) f 0 ≡ m + 1 = get_or-set_same head f (m + 1) 0 (omega arith) in
    let nm : get_or (set next m h) m 0 ≡ h = get_or-set_same next m h 0 (omega arith) in
    let ho : (v : ℕ) → (v ≡ f → ⊥) → get_or (set head f (m + 1)) v 0 ≡ get_or head v 0 = λ v o. get_or-set_other head f v (m + 1) 0 o in
    let nx : (j : ℕ) → (j ≡ m → ⊥) → get_or (set next m h) j 0 ≡ get_or next j 0 = λ j o. get_or-set_other next m j h 0 o in
    record {
      head-size = length-set head f (m + 1) ∙ hs;
      next-size = length-set next m h ∙ ns;
      head-low = λ v. ⊎_elim
          (λ e. let q : get_or (set head f (m + 1)) v 0 ≡ m + 1 = ap (λ (n : ℕ). get_or (set head f (m + 1)) n 0) (eqb-true v f e) ∙ hf in omega arith)
          (λ e. omega (arith, ho v (eqb-false v f e), c.head-low v)) (decided (eqb v f));
      next_low = λ j. ⊎_elim
          (λ e. let z : j ≡ m = eqb-true j m e in let q : get_or (set next m h) j 0 ≡ h = ap (λ (n : ℕ). get_or (set next m h) n 0) z
          ∙ nm in omega (arith, c.head-low f))
          (λ e. omega (arith, nx j (eqb-false j m e), c.next_low j)) (decided (eqb j m));
      head-all = λ v j l k q. ⊎_elim
          (λ e. let z : get_or (set head f (m + 1)) v 0 ≡ m + 1 = ap (λ (n : ℕ). get_or (set head f (m + 1)) n 0) (eqb-true v f e) ∙ hf in omega arith)
          (λ e. ⊎_elim (λ d. eqb-false v f e (sym q ∙ ap (λ (n : ℕ). get_or from n 0) (eqb-true j m d) ∙ sym fe))
          (λ d. c.head-all v j (omega (arith, ho v (eqb-false v f e))) (omega (arith, eqb-false j m d)) q) (decided (eqb j m))) (decided (eqb v f));
      next-all = λ i j l k u q. ⊎_elim
          (λ e. let z : i ≡ m = eqb-true i m e in
          let y : get_or (set next m h) i 0 ≡ h = ap (λ (n : ℕ). get_or (set next m h) n 0) z ∙ nm in
          c.head-all f j (omega arith) (omega arith) (q ∙ ap (λ (n : ℕ). get_or from n 0) z ∙ sym fe))
          (λ e. c.next-all i j (omega (arith, eqb-false i m e)) (omega (arith, nx i (eqb-false i m e))) u q) (decided (eqb i m));
    }

pub chain-all : {m j : ℕ} {from head next : List ℕ} → j ≤ m → m ≤ j → Chained j from head next → Chained m from head next
chain-all {m} {j} {from} {head} {next} a b c = let z : j ≡ m = omega arith in subst (λ (k : ℕ). Chained k from head next) z c
