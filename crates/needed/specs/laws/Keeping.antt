-- Own credentials switched on from a number on, and those kept: each step of the loops. Assumes nothing.
use Rattle.std.specs.Prelude.{ℕ, zero, suc, ◌+◌, ◌-◌, ◌≤◌, ◌<◌, ◌≡◌, refl, ◌⊎◌, Bool, true, false, length, set, replicate}
use Rattle.std.proofs.Common.{arith, sym, ◌∙◌, inr, length-set, get_or-set_other}
use Rattle.std.proofs.Math.Path.{ap, subst}
use Rattle.std.proofs.Math.Logic.{inl, ⊎_elim}
use mathlib.Core.List.Memᴰ
use mathlib.Core.List.{List, [], ◌∷◌, ◌++◌, append-nil, Memᴰ}
use Rattle.std.proofs.Math.ListN.{length-replicate}
use Rattle.expression.specs.declared.Credential.{Credential}
use Rattle.expression.specs.declared.Expression.{Expression}
use Rattle.rt0.specs.declared.Pool.{Pool}
use Rattle.rt0.specs.Decide.{from?}
use Rattle.rt0.proofs.laws.Laws.{same_set}
use Rattle.rt0.specs.Pool.{up_to}
use Rattle.rt0.specs.laws.Pool.{credential_at, credentials}
use Rattle.closure.specs.laws.Rules.{el}
use Rattle.rules.specs.laws.Table.{chosen}
use Rattle.rules.specs.laws.Exact.{chosen-mem, chosen-find}
use Rattle.relation.specs.laws.Relation.{switched}
use Rattle.needed.specs.Needed.{kept, enough, needed}
use Rattle.needed.specs.laws.Needed.{first_of, rest_of, enough-gains, kept-nil, kept-done, kept-jump, kept-all, needed-same}
use Rattle.needed.specs.laws.Columns.{FirstOn, Grown, holds_from, LastNeeded, WithRest, Keeping, Needed}
use Rattle.needed.specs.laws.Column.{up_to-mem, up_to-find, rest-split, rest-next, rest-none, rest-mem, rest-find, first_rest, lt-or, none-on}
use Rattle.needed.specs.laws.Column.{rest-chosen, one-chosen, set_at, stays, came}
use Rattle.needed.specs.laws.Halves.{Halves, halves-end}
use Rattle.word.specs.laws.Search.{zeros}

-- The credentials from a number on switched on

grown-all : (k d : ℕ) (was : List ℕ) → k + d ≤ 128 → length was ≡ 128 → Grown (k + d) k was (switched k d was)
unfolding switched
grown-all k zero was l sized = record { sized = sized; says = λ i m h. inl h; old = λ i h. h; new = λ i m o. absurd (omega arith) }
grown-all k (suc d) was l sized =
    let g : Grown (k + d) k was (switched k d was) = grown-all k d was (omega arith) sized in
    record {
      sized = length-set (switched k d was) (k + d) 1 ∙ g.sized;
      says = λ j m h. ⊎_elim (λ o. ⊎_elim (λ y. g.says j y o) (λ y. inr (omega arith)) (lt-or j (k + d))) (λ y. inr (omega arith))
          (came (switched k d was) (k + d) j h);
      old = λ j h. stays (switched k d was) (k + d) j g.sized (omega arith) (g.old j h);
      new = λ j m o. ⊎_elim (λ y. get_or-set_other (switched k d was) (k + d) j 1 0 y ∙ g.new j m (omega (arith, y))) (λ y. y)
          (set_at (switched k d was) (k + d) j g.sized (omega arith));
    }

module _ (P : Pool) (was : List ℕ) (f e : Expression) where
  -- those on are those that were and the credentials from k on
  pub grown-enough : (k : ℕ) (on : List ℕ) → Grown P.count k was on → from? (chosen P on) f e ≡ from? (chosen P was ++ rest_of P k) f e
  unfolding chosen
  grown-enough k on g = same_set (chosen P on) (chosen P was ++ rest_of P k) to fro f e
    where
      to : (c : Credential) → Memᴰ c (chosen P on) → Memᴰ c (chosen P was ++ rest_of P k)
      to c m =
          let r = chosen-find P on P.count c m in
          subst (λ (d : Credential). Memᴰ d (chosen P was ++ rest_of P k)) (sym r.3)
          (⊎_elim (λ h. Memᴰ.append_left (rest_of P k) (chosen-mem P was P.count r.0 r.1 h))
          (λ h. Memᴰ.append_right (chosen P was) (rest-mem P k r.0 h r.1)) (g.says r.0 r.1 r.2))

      fro : (c : Credential) → Memᴰ c (chosen P was ++ rest_of P k) → Memᴰ c (chosen P on)
      fro c m =
          ⊎_elim (λ h. let r = chosen-find P was P.count c h in subst (λ (d : Credential). Memᴰ d (chosen P on)) (sym r.3)
          (chosen-mem P on P.count r.0 r.1 (g.old r.0 r.2)))
          (λ h. let r = rest-find P k c h in subst (λ (d : Credential). Memᴰ d (chosen P on)) (sym r.3)
          (chosen-mem P on P.count r.0 r.2 (g.new r.0 r.1 r.2)))
          (Memᴰ.append_cases (chosen P was) m)

  -- the answer with those from k on switched on
  pub switched-holds : P.count ≤ 128 → length was ≡ 128 → (k : ℕ) → k ≤ P.count → (on : List ℕ) → on ≡ switched k (P.count - k) was → {b : Bool}
      → b ≡ from? (chosen P on) f e → b ≡ holds_from P was f e k
  switched-holds small sized k l on q h = h ∙ grown-enough k on (subst (λ (x : List ℕ). Grown P.count k was x) (sym q) g)
    where
      g : Grown P.count k was (switched k (P.count - k) was)
      g =
          let z : k + (P.count - k) ≡ P.count = omega arith in
          subst (λ (m : ℕ). Grown m k was (switched k (P.count - k) was)) z (grown-all k (P.count - k) was (omega arith) sized)

  -- the number that a search by halves ends with
  pub halves-needed : P.count ≤ 128 → (a : ℕ) → a ≤ P.count → (low high last : ℕ) → high ≤ low → Halves (holds_from P was f e) a P.count low high last
      → LastNeeded P was f e a last
  halves-needed small a l low high last m s =
      let r = halves-end (holds_from P was f e) a P.count low high last small l m s in
      record { found = r.0; last = r.1; none = r.2 }

-- Those kept

module _ (P : Pool) (small : P.count ≤ 128) (s : ℕ) (f e : Expression) where
  pub keep-start : (on : List ℕ) → s ≤ P.count → FirstOn s on → Keeping P s f e (replicate 128 0) on s
  unfolding needed
  keep-start on l h =
      record {
        from = omega arith;
        within = l;
        sized = length-replicate {A = ℕ} 128 0;
        on-sized = h.sized;
        own = λ i o. absurd (let z : el (replicate 128 0) i ≡ 0 = zeros 128 i in omega arith);
        says = λ i o. ⊎_elim (λ m. inl m) (λ m. absurd (let z : el on i ≡ 0 = h.others i m in omega arith)) (lt-or i s);
        shown = h.shown;
        kept_on = λ i o. absurd (let z : el (replicate 128 0) i ≡ 0 = zeros 128 i in omega arith);
        so_far = ap (λ (ks : List Credential). kept (enough (first_of P s) f e) ks (rest_of P s)) (sym (none-on P 128));
      }

  module _ (r on : List ℕ) (a : ℕ) (k : Keeping P s f e r on a) where
    -- those on are those shown and those kept
    kept-among : (X : List Credential) → from? (chosen P on ++ X) f e ≡ enough (first_of P s) f e (chosen P r ++ X)
    unfolding chosen first_of
    kept-among X = same_set (chosen P on ++ X) (first_of P s ++ (chosen P r ++ X)) to fro f e
      where
        one : (i : ℕ) → i < P.count → (i < s) ⊎ (el r i ≡ 1) → Memᴰ (credential_at P i) (first_of P s ++ (chosen P r ++ X))
        one i l h =
            ⊎_elim (λ m. Memᴰ.append_left (chosen P r ++ X) (up_to-mem s (credential_at P) i m))
            (λ m. Memᴰ.append_right (first_of P s) (Memᴰ.append_left X (chosen-mem P r P.count i l m))) h

        to : (c : Credential) → Memᴰ c (chosen P on ++ X) → Memᴰ c (first_of P s ++ (chosen P r ++ X))
        to c m =
            ⊎_elim (λ h. let x = chosen-find P on P.count c h in subst (λ (d : Credential). Memᴰ d (first_of P s ++ (chosen P r ++ X)))
            (sym x.3) (one x.0 x.1 (k.says x.0 x.2)))
            (λ h. Memᴰ.append_right (first_of P s) (Memᴰ.append_right (chosen P r) h)) (Memᴰ.append_cases (chosen P on) m)

        there : (i : ℕ) (c : Credential) → i < P.count → el on i ≡ 1 → c ≡ credential_at P i → Memᴰ c (chosen P on ++ X)
        there i c l o q = subst (λ (d : Credential). Memᴰ d (chosen P on ++ X)) (sym q) (Memᴰ.append_left X (chosen-mem P on P.count i l o))

        fro : (c : Credential) → Memᴰ c (first_of P s ++ (chosen P r ++ X)) → Memᴰ c (chosen P on ++ X)
        fro c m =
            ⊎_elim (λ h. let x = up_to-find s (credential_at P) c h in let l : x.0 < s = x.1 in there x.0 c (omega (arith, k.from, k.within))
            (k.shown x.0 l) x.2)
            (λ h. ⊎_elim (λ y. let x = chosen-find P r P.count c y in there x.0 c x.1 (k.kept_on x.0 x.2) x.3)
            (λ y. Memᴰ.append_right (chosen P on) y) (Memᴰ.append_cases (chosen P r) h))
            (Memᴰ.append_cases (first_of P s) m)

    in-pool : (i : ℕ) → el r i ≡ 1 → (s ≤ i) × (i < P.count)
    in-pool i o = let h = k.own i o in let l : i < a = h.1 in (h.0, omega (arith, k.within))

    -- the edge holds over the pool where the needed ones are enough
    over-pool : (q : List ℕ) {b : Bool} → chosen P q ≡ needed (first_of P s) f e (rest_of P s) → enough (first_of P s) f e (chosen P q) ≡ b
        → b ≡ from? (credentials P) f e
    over-pool q h w =
        sym w
        ∙ (ap (enough (first_of P s) f e) h
        ∙ (sym (needed-same (first_of P s) f e (rest_of P s))
        ∙ ap (λ (l : List Credential). from? l f e) (sym (first_rest P s (omega (arith, k.from, k.within))))))

    -- those kept are enough
    pub keep-done : (z : ℕ) → LastNeeded P on f e a z → z ≡ P.count → Needed P s f e true r
    keep-done z last q = record { holds = over-pool r all alone; own = in-pool; all = all }
      where
        alone : enough (first_of P s) f e (chosen P r) ≡ true
        alone =
            ap (enough (first_of P s) f e) (sym (append-nil (chosen P r)))
            ∙ (sym (kept-among [])
            ∙ (ap (λ (l : List Credential). from? (chosen P on ++ l) f e) (sym (rest-none P z (omega arith))) ∙ (last.found (omega arith)).1))

        all : chosen P r ≡ needed (first_of P s) f e (rest_of P s)
        all = sym (k.so_far ∙ kept-done (enough (first_of P s) f e) (enough-gains (first_of P s) f e) (chosen P r) (rest_of P a) alone)

    -- none is left to be tried, and those kept are enough
    keep-end : P.count ≤ a → enough (first_of P s) f e (chosen P r) ≡ true → Needed P s f e true r
    keep-end l alone = record { holds = over-pool r all alone; own = in-pool; all = all }
      where
        all : chosen P r ≡ needed (first_of P s) f e (rest_of P s)
        all = sym (k.so_far ∙ (ap (kept (enough (first_of P s) f e) (chosen P r)) (rest-none P a l) ∙ kept-nil (enough (first_of P s) f e) (chosen P r)))

    -- all are kept, and are not enough
    pub keep_all : (z : ℕ) (q : List ℕ) → LastNeeded P on f e a z → P.count < z → WithRest P.count a r q → Needed P s f e false q
    keep_all z q last l w =
        record {
          holds = over-pool q all (ap (enough (first_of P s) f e) with_rest ∙ few);
          own =
              λ i o. ⊎_elim (λ m. in-pool i (sym (w.before i m) ∙ o))
              (λ m. ⊎_elim (λ y. (omega (arith, k.from), y)) (λ y. in-pool i (sym (w.after i y) ∙ o)) (lt-or i P.count)) (lt-or i a);
          all = all;
        }
      where
        with_rest : chosen P q ≡ chosen P r ++ rest_of P a
        with_rest = rest-chosen P r q a k.within (λ i o. (k.own i o).1) w

        few : enough (first_of P s) f e (chosen P r ++ rest_of P a) ≡ false
        few = sym (kept-among (rest_of P a)) ∙ last.none l

        all : chosen P q ≡ needed (first_of P s) f e (rest_of P s)
        all = with_rest ∙ sym (k.so_far ∙ kept-all (enough (first_of P s) f e) (enough-gains (first_of P s) f e) (chosen P r) (rest_of P a) few)

    -- one more is kept
    pub keep-next : (z : ℕ) (now : List ℕ) → LastNeeded P on f e a z → z < P.count → now ≡ set on z 1 → Keeping P s f e (set r z 1) now (z + 1)
    keep-next z now last l q = subst (λ (x : List ℕ). Keeping P s f e (set r z 1) x (z + 1)) (sym q)
        (record {
          from = omega (arith, k.from, found.0);
          within = omega arith;
          sized = length-set r z 1 ∙ k.sized;
          on-sized = length-set on z 1 ∙ k.on-sized;
          own =
              λ i o. ⊎_elim (λ h. let m = k.own i h in let u : i < a = m.1 in (m.0, omega (arith, found.0)))
              (λ h. (omega (arith, k.from, found.0), omega arith)) (came r z i o);
          says =
              λ i o. ⊎_elim (λ h. ⊎_elim (λ m. inl m) (λ m. inr (stays r z i k.sized (omega arith) m)) (k.says i h))
              (λ h. inr (is-on r i k.sized h)) (came on z i o);
          shown = λ i m. stays on z i k.on-sized (omega arith) (k.shown i m);
          kept_on = λ i o. ⊎_elim (λ h. stays on z i k.on-sized (omega arith) (k.kept_on i h)) (λ h. is-on on i k.on-sized h) (came r z i o);
          so_far = k.so_far ∙ jump;
        })
      where
        found : (a ≤ z) × (from? (chosen P on ++ rest_of P z) f e ≡ true) × (from? (chosen P on ++ rest_of P (z + 1)) f e ≡ false)
        found = ((last.found (omega arith)).0, (last.found (omega arith)).1, last.last l)

        is-on : (x : List ℕ) (i : ℕ) → length x ≡ 128 → i ≡ z → el (set x z 1) i ≡ 1
        is-on x i sized h = ⊎_elim (λ y. absurd (y h)) (λ y. y) (set_at x z i sized (omega arith))

        G : List Credential → Bool
        G = enough (first_of P s) f e

        jump : kept G (chosen P r) (rest_of P a) ≡ kept G (chosen P (set r z 1)) (rest_of P (z + 1))
        jump =
            ap (kept G (chosen P r)) (rest-split P a z found.0 (omega arith)
            ∙ ap (λ (l : List Credential). up_to (z - a) (λ (i : ℕ). credential_at P (a + i)) ++ l) (rest-next P z l))
            ∙ (kept-jump G (enough-gains (first_of P s) f e) (chosen P r) (up_to (z - a) (λ (i : ℕ). credential_at P (a + i))) (credential_at P z)
            (rest_of P (z + 1))
            (ap (λ (l : List Credential). G (chosen P r ++ l)) (sym (rest-next P z l)) ∙ (sym (kept-among (rest_of P z)) ∙ found.1))
            (sym (kept-among (rest_of P (z + 1))) ∙ found.2)
            ∙ ap (λ (ks : List Credential). kept G ks (rest_of P (z + 1)))
            (sym (one-chosen P r z k.sized small l (λ i o. let m : i < a = (k.own i o).1 in omega (arith, found.0)))))

  -- the last one of the pool is kept
  pub keep-last : (r on : List ℕ) (a : ℕ) → Keeping P s f e r on a → (z : ℕ) → LastNeeded P on f e a z → z + 1 ≡ P.count → Needed P s f e true (set r z 1)
  keep-last r on a k z last q =
      keep-end (set r z 1) (set on z 1) (z + 1) (keep-next r on a k z (set on z 1) last (omega arith) refl) (omega arith)
      (ap (enough (first_of P s) f e) with-one ∙ (sym (kept-among r on a k (rest_of P z)) ∙ (last.found (omega arith)).1))
    where
      with-one : chosen P (set r z 1) ≡ chosen P r ++ rest_of P z
      with-one =
          one-chosen P r z k.sized small (omega arith) (λ i o. let m : i < a = (k.own i o).1 in let y : a ≤ z = (last.found (omega arith)).0 in omega arith)
          ∙ ap (λ (l : List Credential). chosen P r ++ l)
          (sym (rest-next P z (omega arith) ∙ ap (λ (l : List Credential). credential_at P z ∷ l) (rest-none P (z + 1) (omega arith))))
