-- The least rows of a pool's rules are role containment. Assumes nothing.
use Prim.Native.Nat.{ℕ, zero, suc, ◌*◌, ◌≤◌, ◌<◌}
use Rattle.std.proofs.Common.{arith, sym, ◌∙◌, subst}
use Rattle.std.proofs.Math.Path.{◌≡◌, refl, ap}
use Rattle.std.specs.Prelude.{◌⊎◌, Bool, ◌&&◌, ltb}
use Rattle.std.proofs.Math.Logic.{inl, inr, ⊎_elim}
use Rattle.std.proofs.Math.Bool.{true, false, cond}
use mathlib.Core.List.Memᴰ
use mathlib.Core.List.{List, [], ◌∷◌, Memᴰ}
use borrow.Author.Tests.{eqb-true, eqb-false, eq-eqb, ne_eqb, ltb-true, lt-ltb}
use Rattle.std.proofs.Math.Dec.{eqb}
use Rattle.expression.specs.declared.Role.{Role}
use Rattle.expression.specs.declared.Parts.{Parts}
use Rattle.expression.specs.declared.Credential.{Credential}
use Rattle.expression.specs.declared.Expression.{Expression}
use Rattle.expression.specs.declared.Expression.TheVariants as E
use Rattle.expression.specs.Form.{pick_expression}
use Rattle.expression.specs.Same.{same}
use Rattle.expression.specs.laws.Same.{same-eq, same_role-eq, eq-same_role}
use Rattle.rt0.specs.declared.Pool.{Pool}
use Rattle.rt0.specs.From.{role_of, roles_of, From, reflexive, transitive, credential, linking, intersection}
use Rattle.word.specs.laws.Bools.{false-true, and_parts, and_both}
use Rattle.rt0.specs.Decide.{from?}
use Rattle.rt0.proofs.laws.Laws.{Reach, here, step, link, each, role-ends, sound, complete}
use Rattle.rt0.specs.laws.Pool.{head_at, body_at, expression_in, credential_at}
use Rattle.rt0.specs.Pool.{up_to}
use Rattle.closure.specs.declared.Rules.{Rules}
use Rattle.closure.specs.laws.Rules.{el, bits, Takes, mem_of, Used, Model, Within}
use Rattle.rules.specs.laws.Table.{is_head, row_of, row_in, is_body, bit_of, bit_in, row_for, chosen_to, chosen, third, fourth}
use Rattle.rules.specs.laws.Table.{Unnamed, Row, entity, goal, role, linked, intersection as meet, Compiled}
use Rattle.word.specs.laws.Search.{any_to-here}
use Rattle.rules.specs.laws.Search.{any-cases, first_found, first-none}

-- what is reached is from
pub unreach : {C : List Credential} {x y : Expression} → Reach C x y → From C x y
unreach here = reflexive
unreach (step m h) = transitive (credential m) (unreach h)
unreach (link h₁ h₂) = transitive (linking (unreach h₁)) (unreach h₂)
unreach (each h) = intersection (λ p m. unreach (h p m))

-- The credentials that are on

module _ (P : Pool) (on : List ℕ) where
  -- a credential that is on is among the chosen
  pub chosen-mem : (n i : ℕ) → i < n → el on i ≡ 1 → Memᴰ (credential_at P i) (chosen_to P on n)
  chosen-mem zero i l o = absurd (omega arith)
  chosen-mem (suc n) i l o = go (eqb i n) refl (λ k. chosen-mem n i k o)
    where
      go : (t : Bool) → eqb i n ≡ t → (i < n → Memᴰ (credential_at P i) (chosen_to P on n)) → Memᴰ (credential_at P i) (chosen_to P on (suc n))
      go true e ih =
          let z : i ≡ n = eqb-true i n e in
          let o' : eqb (el on n) 1 ≡ true = eq-eqb (el on n) 1 (rw z at o) in
          rw o' (Memᴰ.append_right (chosen_to P on n) (Memᴰ.head (ap (credential_at P) z)))
      go false e ih = Memᴰ.append_left (cond (eqb (el on n) 1) (credential_at P n ∷ []) []) (ih (omega (arith, eqb-false i n e)))

  -- each of the chosen is a credential that is on
  pub chosen-find : (n : ℕ) (c : Credential) → Memᴰ c (chosen_to P on n) → (i : ℕ) × (i < n) × (el on i ≡ 1) × (c ≡ credential_at P i)
  chosen-find zero c m = absurd (Memᴰ.not-nil m)
  chosen-find (suc n) c m =
      ⊎_elim (λ k. let r = chosen-find n c k in let l : r.0 < n = r.1 in (r.0, omega arith, r.2, r.3))
      (λ k. go (eqb (el on n) 1) refl k) (Memᴰ.append_cases (chosen_to P on n) m)
    where
      go : (t : Bool) → eqb (el on n) 1 ≡ t → Memᴰ c (cond t (credential_at P n ∷ []) []) → (i : ℕ) × (i < suc n) × (el on i ≡ 1) × (c ≡ credential_at P i)
      go true e k = (n, omega arith, eqb-true (el on n) 1 e, Memᴰ.eq_of_singleton k)
      go false e k = absurd (Memᴰ.not-nil k)

  -- where each is on, they are all there
  pub chosen-all : (n : ℕ) → ((i : ℕ) → i < n → el on i ≡ 1) → chosen_to P on n ≡ up_to n (credential_at P)
  chosen-all zero h = refl
  chosen-all (suc n) h =
      let o : eqb (el on n) 1 ≡ true = eq-eqb (el on n) 1 (h n (omega arith)) in
      rw (o, chosen-all n (λ i l. h i (omega arith)))

-- Rows and bits

module _ (P : Pool) (small : P.count ≤ 128) where
  -- a row below 128 is that of a head
  pub row-found : (p : Role) → row_of P p < 128 → (row_of P p < P.count) × (head_at P (row_of P p) ≡ p)
  unfolding row_in
  row-found p l = ⊎_elim
      (λ h. let r = first_found P.count (is_head P p) h in (r.0, same_role-eq (head_at P (row_of P p)) p r.1))
      (λ h. absurd (omega (arith, first-none P.count (is_head P p) h))) (any-cases P.count (is_head P p))

  -- a head has a row
  pub row_here : (p : Role) (i : ℕ) → i < P.count → head_at P i ≡ p → (row_of P p < P.count) × (head_at P (row_of P p) ≡ p)
  unfolding row_in
  row_here p i l e =
      let r = first_found P.count (is_head P p) (any_to-here P.count (is_head P p) i l (eq-same_role (head_at P i) p e)) in
      (r.0, same_role-eq (head_at P (row_of P p)) p r.1)

  -- a row is below 128, or 128
  pub row-cases : (p : Role) → (row_of P p < 128) ⊎ (row_of P p ≡ 128)
  unfolding row_in
  row-cases p = ⊎_elim
      (λ h. let r = first_found P.count (is_head P p) h in let l : row_of P p < P.count = r.0 in inl (omega arith))
      (λ h. inr (first-none P.count (is_head P p) h)) (any-cases P.count (is_head P p))

  body-at : (b s : ℕ) → is_body P b s ≡ true → body_at P s ≡ E.Entity b
  unfolding expression_in
  body-at b s h =
      let q = and_parts (eqb (el P.kinds (s * 2)) 1) (eqb (el P.numbers (s * 8)) b) h in
      rw q.0 (ap E.Entity (eqb-true (el P.numbers (s * 8)) b q.1))

  -- a bit below 128 is that of a body
  pub bit_found : (b : ℕ) → bit_of P b < 128 → (bit_of P b < P.count) × (body_at P (bit_of P b) ≡ E.Entity b)
  unfolding bit_in
  bit_found b l = ⊎_elim
      (λ h. let r = first_found P.count (is_body P b) h in (r.0, body-at b (bit_of P b) r.1))
      (λ h. absurd (omega (arith, first-none P.count (is_body P b) h))) (any-cases P.count (is_body P b))

  -- a bit is that of a credential, or 128
  pub bit-cases : (b : ℕ) → (bit_of P b < P.count) ⊎ (bit_of P b ≡ 128)
  unfolding bit_in
  bit-cases b =
      ⊎_elim (λ h. inl (first_found P.count (is_body P b) h).0) (λ h. inr (first-none P.count (is_body P b) h)) (any-cases P.count (is_body P b))

  -- a body of kind 1 is an entity
  pub body-one : (s : ℕ) → el P.kinds (s * 2) ≡ 1 → body_at P s ≡ E.Entity (el P.numbers (s * 8))
  unfolding expression_in
  body-one s h = rw (eq-eqb (el P.kinds (s * 2)) 1 h)

  -- a body that is an entity passes the test for it
  pub body-entity : (k b : ℕ) → body_at P k ≡ E.Entity b → is_body P b k ≡ true
  unfolding expression_in
  body-entity k b h =
      go (eqb (el P.kinds (k * 2)) 1) (eqb (el P.kinds (k * 2)) 2) (eqb (el P.kinds (k * 2)) 3) (eqb (el P.kinds (k * 2)) 4) _ _ _ _ _ _ refl h
    where
      go : (t u v w : Bool) (x : ℕ) (y z : Role) (n : ℕ) (p : Parts) (m : ℕ) → eqb (el P.kinds (k * 2)) 1 ≡ t
          → pick_expression t (E.Entity x) (pick_expression u (E.Role y)
          (pick_expression v (E.Linked z n) (pick_expression w (E.Intersection p) (E.Goal m)))) ≡ E.Entity b → (t && eqb x b) ≡ true
      go true u v w x y z n p m q h = eq-eqb x b (cc)
      go false true v w x y z n p m q h = absurd (let d : ◌≡◌ {A = ℕ} 0 1 = cc in omega arith)
      go false false true w x y z n p m q h = absurd (let d : ◌≡◌ {A = ℕ} 0 1 = cc in omega arith)
      go false false false true x y z n p m q h = absurd (let d : ◌≡◌ {A = ℕ} 0 1 = cc in omega arith)
      go false false false false x y z n p m q h = absurd (let d : ◌≡◌ {A = ℕ} 0 1 = cc in omega arith)

  -- an entity that is a body has a bit
  pub bit-here : (b k : ℕ) → k < P.count → body_at P k ≡ E.Entity b → (bit_of P b < P.count) × (body_at P (bit_of P b) ≡ E.Entity b)
  unfolding bit_in
  bit-here b k l e =
      let r = first_found P.count (is_body P b) (any_to-here P.count (is_body P b) k l (body-entity k b e)) in
      (r.0, body-at b (bit_of P b) r.1)

-- The four roles of an intersection's rule are its roles

module _ (p : Parts) (G : Role → Type 0) where
  -- what holds of the four holds of each role
  pub four-all : G p.first → G p.second → G (third p) → G (fourth p) → (a : Role) → Memᴰ a (roles_of p) → G a
  four-all g₀ g₁ g₂ g₃ a m = go (eqb p.count 2) (eqb p.count 3) g₂ g₃ m
    where
      hit : {b c : Role} → b ≡ c → G c → G b
      hit q g = rw q g

      go : (t u : Bool) → G (cond t p.first p.third) → G (cond t p.first (cond u p.first p.fourth))
          → Memᴰ a (p.first ∷ p.second ∷ cond t [] (p.third ∷ cond u [] (p.fourth ∷ []))) → G a
      go true u h₂ h₃ m =
          ⊎_elim (λ q. hit q g₀) (λ k. ⊎_elim (λ q. hit q g₁) (λ k. absurd (Memᴰ.not-nil k)) (Memᴰ.cases_cons k)) (Memᴰ.cases_cons m)
      go false true h₂ h₃ m =
          ⊎_elim (λ q. hit q g₀) (λ k. ⊎_elim (λ q. hit q g₁)
          (λ k. ⊎_elim (λ q. hit q h₂) (λ k. absurd (Memᴰ.not-nil k)) (Memᴰ.cases_cons k)) (Memᴰ.cases_cons k)) (Memᴰ.cases_cons m)
      go false false h₂ h₃ m =
          ⊎_elim (λ q. hit q g₀) (λ k. ⊎_elim (λ q. hit q g₁)
          (λ k. ⊎_elim (λ q. hit q h₂) (λ k. ⊎_elim (λ q. hit q h₃) (λ k. absurd (Memᴰ.not-nil k)) (Memᴰ.cases_cons k))
          (Memᴰ.cases_cons k)) (Memᴰ.cases_cons k)) (Memᴰ.cases_cons m)

  -- what holds of each role holds of the four
  pub all-four : ((a : Role) → Memᴰ a (roles_of p) → G a) → G p.first × G p.second × G (third p) × G (fourth p)
  all-four h = (
    h _ (Memᴰ.head refl),
    h _ (Memᴰ.tail (Memᴰ.head refl)),
    (go (eqb p.count 2) (eqb p.count 3) h).0,
    (go (eqb p.count 2)
        (eqb p.count 3) h).1,
  )
    where
      go : (t u : Bool) → ((a : Role) → Memᴰ a (p.first ∷ p.second ∷ cond t [] (p.third ∷ cond u [] (p.fourth ∷ []))) → G a)
          → G (cond t p.first p.third) × G (cond t p.first (cond u p.first p.fourth))
      go true u k = (k _ (Memᴰ.head refl), k _ (Memᴰ.head refl))
      go false true k = (k _ (Memᴰ.tail (Memᴰ.tail (Memᴰ.head refl))), k _ (Memᴰ.head refl))
      go false false k =
          (k _ (Memᴰ.tail (Memᴰ.tail (Memᴰ.head refl))), k _ (Memᴰ.tail (Memᴰ.tail (Memᴰ.tail (Memᴰ.head refl)))))

-- What rows and bits stand for: bit s stands for the expression t s, and row 129, where it has bits, for e itself

module _ (P : Pool) (on : List ℕ) (small : P.count ≤ 128) (e : Expression) (t : ℕ → Expression) (asked : Bool) (is-e : asked ≡ true → (s : ℕ) → t s ≡ e) where
  abbrev C : List Credential
  C = chosen P on

  -- a role's row is that of a head, or 128, or 129 where the role is e
  pub row-for : (p : Role) → ((row_for P e p ≡ row_of P p) × (row_of P p < P.count) × (head_at P (row_of P p) ≡ p))
      ⊎ (((row_for P e p ≡ 128) × (row_of P p ≡ 128)) ⊎ ((row_for P e p ≡ 129) × (row_of P p ≡ 128) × (E.Role p ≡ e)))
  unfolding row_for
  row-for p = ⊎_elim
      (λ l. let r = row-found P small p l in inl (rw (ne_eqb (row_of P p) 128 (λ q. omega arith)), r.0, r.1))
      (λ q. inr (go (same (E.Role p) e) q refl)) (row-cases P small p)
    where
      go : (u : Bool) → row_of P p ≡ 128 → same (E.Role p) e ≡ u
          → ((cond (eqb (row_of P p) 128) (cond u 129 128) (row_of P p) ≡ 128) × (row_of P p ≡ 128))
          ⊎ ((cond (eqb (row_of P p) 128) (cond u 129 128) (row_of P p) ≡ 129) × (row_of P p ≡ 128) × (E.Role p ≡ e))
      go true q k = inr (rw (eq-eqb (row_of P p) 128 q), q, same-eq (E.Role p) e k)
      go false q k = inl (rw (eq-eqb (row_of P p) 128 q), q)

  -- the relation that the rows stand for
  unfoldable pub Truth : ℕ → ℕ → Bool
  Truth r s = cond (eqb r 129) asked (ltb r P.count && from? C (E.Role (head_at P r)) (t s))

  -- what a head's row says is true
  pub from-truth : (r s : ℕ) → r < P.count → Truth r s ≡ true → From C (E.Role (head_at P r)) (t s)
  unfolding Truth
  from-truth r s l h =
      let z : eqb r 129 ≡ false = ne_eqb r 129 (λ q. omega arith) in
      sound C (E.Role (head_at P r)) (t s) (and_parts (ltb r P.count) _ (rw z at h)).1

  -- what is true of a head its row says
  pub to-truth : (r s : ℕ) → r < P.count → From C (E.Role (head_at P r)) (t s) → Truth r s ≡ true
  unfolding Truth
  to-truth r s l h = rw (ne_eqb r 129 (λ q. omega arith)) (and_both (ltb r P.count) _ (lt-ltb r P.count l) (complete C (E.Role (head_at P r)) (t s) h))

  -- only heads and row 129 have bits
  pub truth-row : (r s : ℕ) → Truth r s ≡ true → ((r ≡ 129) × (asked ≡ true)) ⊎ (r < P.count)
  unfolding Truth
  truth-row r s h = go (eqb r 129) refl h
    where
      go : (u : Bool) → eqb r 129 ≡ u → cond u asked (ltb r P.count && from? C (E.Role (head_at P r)) (t s)) ≡ true
          → ((r ≡ 129) × (asked ≡ true)) ⊎ (r < P.count)
      go true q k = inl (eqb-true r 129 q, k)
      go false q k = inr (ltb-true r P.count (and_parts (ltb r P.count) _ k).0)

  -- row 128 is empty
  pub no_truth : (s : ℕ) → Truth 128 s ≡ true → ⊥
  no_truth s h = ⊎_elim (λ k. let q : 128 ≡ 129 = k.0 in omega arith) (λ l. omega arith) (truth-row 128 s h)

  -- where row 129 has bit s, it stands for e
  pub truth-e : (s : ℕ) → Truth 129 s ≡ true → t s ≡ e
  truth-e s h = ⊎_elim (λ k. is-e k.1 s) (λ l. absurd (omega arith)) (truth-row 129 s h)

  -- what a role's row says is true of the role
  pub good : (p : Role) (s : ℕ) → Truth (row_for P e p) s ≡ true → From C (E.Role p) (t s)
  good p s h = ⊎_elim
      (λ k. subst (λ (q : Role). From C (E.Role q) (t s)) k.2 (from-truth (row_of P p) s k.1 (rw k.0 at h)))
      (λ v. ⊎_elim (λ k. absurd (no_truth s (rw k.0 at h)))
      (λ k. subst (λ (x : Expression). From C (E.Role p) x) (k.2 ∙ sym (truth-e s (rw k.0 at h))) reflexive) v)
      (row-for p)

  module _ (X : Rules) where
    unnamed : (i j : ℕ) → Unnamed X i → bits X.named i j ≡ true → ⊥
    unnamed i j z h = false-true (sym (z.none j) ∙ h)

    module _ (In : ℕ → Type 0) (M : ℕ → ℕ → Bool) (members : (a : Role) (b : ℕ) → bit_of P b < P.count → M (row_of P a) (bit_of P b) ≡ true
        → From C (E.Role a) (E.Entity b)) where
      -- a rule gives no more than what is true of its expression
      pub takes-sound : (i : ℕ) (x : Expression) → Row P e X i x → (g : ℕ → Bool) → ((s : ℕ) → In s → From C x (t s) → g s ≡ true) → Takes X i In M Truth g
      takes-sound i x (entity q z) g up = record { meet = λ s u a b c d. absurd (no_truth s (rw q.p0 at a)); link = λ j s u n m v. absurd (unnamed i j z n) }
      takes-sound i x (goal q z) g up = record { meet = λ s u a b c d. absurd (no_truth s (rw q.p0 at a)); link = λ j s u n m v. absurd (unnamed i j z n) }
      takes-sound i x (role {p = p} q z) g up =
          record { meet = λ s u a b c d. up s u (good p s (rw q.p0 at a)); link = λ j s u n m v. absurd (unnamed i j z n) }
      takes-sound i x (linked {a = r} {m = name} q f w) g up =
          record {
            meet = λ s u a b c d. absurd (no_truth s (rw q.p0 at a));
            link = λ j s u n m v.
                let k = w.says j n in
                let h₁ : From C (E.Role r) (E.Entity (head_at P j).entity) = members r (head_at P j).entity k.3 (rw (f, k.2) at m) in
                let h₂ : From C (E.Role (role_of (head_at P j).entity name)) (t s) = subst
                (λ (y : ℕ). From C (E.Role (role_of (head_at P j).entity y)) (t s)) k.1 (from-truth j s k.0 v) in
                up s u (transitive (linking h₁) h₂);
          }
      takes-sound i x (meet {p = p} q z) g up =
          record {
            meet =
                λ s u a b c d. up s u (intersection
                (λ o k. four-all p (λ (o : Role). From C (E.Role o) (t s)) (good p.first s (rw q.p0 at a))
                (good p.second s (rw q.p1 at b)) (good (third p) s (rw q.p2 at c)) (good (fourth p) s (rw q.p3 at d)) o k));
            link = λ j s u n m v. absurd (unnamed i j z n);
          }

    -- what is true is a model of the rules
    pub truth-model : Compiled P e X → (own : Bool) (M : List ℕ)
        → ((a : Role) (b : ℕ) → bit_of P b < P.count → mem_of own Truth (bits M) (row_of P a) (bit_of P b) ≡ true → From C (E.Role a) (E.Entity b))
        → Model X on own (bits M) Truth
    unfolding chosen
    truth-model comp own M members =
        record {
          rule = λ i l o.
              let l' : i < P.count = rw comp.count at l in
              takes-sound (Used X) (mem_of own Truth (bits M)) members i (body_at P i) (comp.row i l') (Truth (el X.head i))
              (λ s u h.
              let r = row_here P small (head_at P i) i l' refl in
              rw (comp.head i l') (to-truth (row_of P (head_at P i)) s r.0 (rw r.1 (transitive (credential (chosen-mem P on P.count i l' o)) h))));
        }

    -- what is true of an expression its rule gives
    module _ (In : ℕ → Type 0) (K : List ℕ) (M : ℕ → ℕ → Bool) (within : Within (bits K) Truth) where
      -- the rows K say that role p is from what bit s stands for
      abbrev pub Known : ℕ → Role → Type 0
      Known s p = bits K (row_for P e p) s ≡ true

      -- the rows K say so of the expression, or of the roles that it is made of
      abbrev pub Hold : ℕ → Expression → Type 0
      Hold s (E.Entity b) = E.Entity b ≡ t s
      Hold s (E.Role p) = Known s p
      Hold s (E.Linked a m) = (E.Linked a m ≡ t s) ⊎ ((b : ℕ) × (bit_of P b < P.count) × (M (row_of P a) (bit_of P b) ≡ true) × Known s (role_of b m))
      Hold s (E.Intersection p) = (E.Intersection p ≡ t s) ⊎ ((a : Role) → Memᴰ a (roles_of p) → Known s a)
      Hold s (E.Goal m) = E.Goal m ≡ t s

      -- where a link leads to the asked role itself
      abbrev pub Own : ℕ → Expression → Type 0
      Own s x = (a : Role) × (m : ℕ) × (b : ℕ) × (x ≡ E.Linked a m) × (bit_of P b < P.count) × (M (row_of P a) (bit_of P b) ≡ true) × (E.Role (role_of b m) ≡ t s)

      -- what holds of an expression its rule gives
      pub takes-hold : (i s : ℕ) (x : Expression) → In s → Row P e X i x → (g : ℕ → Bool) → Takes X i In M (bits K) g → (x ≡ t s → g s ≡ true)
          → (Own s x → g s ≡ true) → Hold s x → g s ≡ true
      takes-hold i s x u (entity q z) g take base own h = base h
      takes-hold i s x u (goal q z) g take base own h = base h
      takes-hold i s x u (role q z) g take base own h = take.meet s u (rw q.p0 h) (rw q.p1 h) (rw q.p2 h) (rw q.p3 h)
      takes-hold i s x u (linked {a = a} {m = m} q f w) g take base own h = ⊎_elim (λ z. base z) (λ k. via k.0 k.1 k.2 k.3) h
        where
          via : (b : ℕ) → bit_of P b < P.count → M (row_of P a) (bit_of P b) ≡ true → Known s (role_of b m) → g s ≡ true
          via b l k known = ⊎_elim
              (λ r.
              let j : ℕ = row_of P (role_of b m) in
              let hj : head_at P j ≡ role_of b m = r.2 in
              let ni : (head_at P j).name ≡ m = ap (λ (p : Role). p.name) hj in
              let ii : (head_at P j).entity ≡ b = ap (λ (p : Role). p.entity) hj in
              let self : row_of P (head_at P j) ≡ j = ap (row_of P) hj in
              let bit : bits X.named i j ≡ true = w.all j r.1 ni self (subst (λ (y : ℕ). bit_of P y < P.count) (sym ii) l) in
              let sj : el X.src j ≡ bit_of P b = (w.says j bit).2 ∙ ap (bit_of P) ii in
              take.link j s u bit (rw (f, sj) k) (rw r.0 at known))
              (λ v. ⊎_elim (λ r. absurd (no_truth s (within.within 128 s (rw r.0 at known))))
              (λ r. own (a, m, b, refl, l, k, r.2 ∙ sym (truth-e s (within.within 129 s (rw r.0 at known))))) v)
              (row-for (role_of b m))
      takes-hold i s x u (meet {p = p} q z) g take base own h = ⊎_elim (λ z. base z)
          (λ k. let f = all-four p (Known s) k in take.meet s u (rw q.p0 f.0) (rw q.p1 f.1) (rw q.p2 f.2) (rw q.p3 f.3)) h

      -- a bit in a role's own row makes the role known
      pub known_of : (p : Role) (s : ℕ) → bits K (row_of P p) s ≡ true → Known s p
      known_of p s h = ⊎_elim (λ k. rw k.0 h)
          (λ v. ⊎_elim (λ k. absurd (no_truth s (within.within 128 s (rw k.1 at h))))
          (λ k. absurd (no_truth s (within.within 128 s (rw k.1 at h)))) v) (row-for p)

      module _ (comp : Compiled P e X) (model : (i : ℕ) → i < P.count → el on i ≡ 1 → Takes X i In M (bits K) (bits K (el X.head i)))
          (Valid : ℕ → Type 0) (valid : (s : ℕ) → Valid s → In s)
          (self : (s : ℕ) (p : Role) → Valid s → E.Role p ≡ t s → Known s p)
          (base : (i s : ℕ) → i < P.count → el on i ≡ 1 → Valid s → body_at P i ≡ t s → bits K (row_of P (head_at P i)) s ≡ true)
          (own : (i s : ℕ) → i < P.count → el on i ≡ 1 → Valid s → Own s (body_at P i) → bits K (row_of P (head_at P i)) s ≡ true)
          (via : (a : Role) (b : ℕ) → bit_of P b < P.count → ((s : ℕ) → Valid s → E.Entity b ≡ t s → Known s a) → Reach C (E.Role a) (E.Entity b)
          → M (row_of P a) (bit_of P b) ≡ true) where
        at-once : (x : Expression) (s : ℕ) → Valid s → x ≡ t s → Hold s x
        at-once (E.Entity b) s v q = q
        at-once (E.Role p) s v q = self s p v q
        at-once (E.Linked a m) s v q = inl q
        at-once (E.Intersection p) s v q = inl q
        at-once (E.Goal m) s v q = q

        -- rows that are closed, and have what is so at once, have all that is reached
        pub all_held : {x y : Expression} → Reach C x y → (s : ℕ) → Valid s → y ≡ t s → Hold s x
        unfolding chosen
        all_held {x = x} here s v q = at-once x s v q
        all_held (step {c = c} m h) s v q =
            let r = chosen-find P on P.count c m in
            let i : ℕ = r.0 in
            let tb : c.body ≡ body_at P i = ap (λ (x : Credential). x.body) r.3 in
            let th : c.head ≡ head_at P i = ap (λ (x : Credential). x.head) r.3 in
            let hd : el X.head i ≡ row_of P (head_at P i) = comp.head i r.1 in
            let k : bits K (el X.head i) s ≡ true =
            takes-hold i s (body_at P i) (valid s v) (comp.row i r.1) (bits K (el X.head i)) (model i r.1 r.2)
            (λ z. rw hd (base i s r.1 r.2 v z)) (λ z. rw hd (own i s r.1 r.2 v z)) (rw tb at (all_held h s v q)) in
            rw th (known_of (head_at P i) s (rw hd at k))
        all_held (link {a = a} {n = n} {b = b} h₁ h₂) s v q =
            let c = role-ends b h₁ in
            let r = chosen-find P on P.count c.0 c.1 in
            let tb : body_at P r.0 ≡ E.Entity b = ap (λ (x : Credential). x.body) (sym r.3) ∙ c.2 in
            let l = bit-here P small b r.0 r.1 tb in
            inr (b, l.0, via a b l.0 (λ s' v' q'. all_held h₁ s' v' q') h₁, all_held h₂ s v q)
        all_held (each h) s v q = inr (λ p k. all_held (h p k) s v q)
