-- How the columns of a pool's rules are filled. Assumes nothing.
use Prim.Native.Nat.{ℕ, zero, suc, ◌+◌, ◌*◌, ◌/◌, ◌%◌, ◌≤◌, ◌<◌}
use Rattle.std.proofs.Common.{arith, sym, ◌∙◌, subst, inl, inr, ⊎_elim, add-zero}
use Rattle.std.specs.Prelude.{◌≡◌, ◌⊎◌, Bool, ◌&&◌, cond, List, [], eqb, get_or, length, set, replicate}
use Rattle.std.proofs.Math.Path.{refl, ap}
use Rattle.std.proofs.Math.Bool.{true, false}
use borrow.Author.Tests.{eqb-true, eqb-false, eq-eqb, ne_eqb, ltb-true}
use Rattle.std.proofs.Math.Dec.{ltb}
use Rattle.std.proofs.Math.ListN.{length-set}
use Rattle.std.proofs.lemmas.List.{length-replicate}
use Rattle.std.proofs.Math.Seq.{get_or-set_same, get_or-set_other}
use Rattle.expression.specs.declared.Role.{Role}
use Rattle.expression.specs.declared.Parts.{Parts}
use Rattle.expression.specs.declared.Expression.{Expression}
use Rattle.expression.specs.declared.Expression.TheVariants as E
use Rattle.expression.specs.Form.{pick_expression}
use Rattle.expression.specs.Same.{same}
use Rattle.word.specs.laws.Bit.{bit_at, bit-zero}
use Rattle.rt0.specs.declared.Pool.{Pool}
use Rattle.word.specs.laws.Bools.{false-true, and_parts, and_both}
use Rattle.rt0.specs.laws.Pool.{pool_of, head_at, body_at, expression_in}
use Rattle.closure.specs.laws.Rules.{el, bits, Under, Marked}
use Rattle.rules.specs.declared.Four.{Four}
use Rattle.rules.specs.laws.Table.{row_of, row_in, bit_of, row_for, third, fourth}
use Rattle.rules.specs.laws.Exact.{row-cases, bit-cases}
use Rattle.rules.specs.laws.Columns.{body_first, four_rows, first_row, is_linked, Column, four_at, FourUnder, PartsTo, Able, NamedRow, NamedLink, NamesTo}
use Rattle.rules.specs.laws.Columns.{is_named, has_link, link_source, SameLink, copied}

-- Numbers below a bound

repeated : (n v i : ℕ) → (◌≡◌ {A = ℕ} (get_or (replicate n v) i 0) v) ⊎ (◌≡◌ {A = ℕ} (get_or (replicate n v) i 0) 0)
repeated zero v i = inr refl
repeated (suc n) v zero = inl refl
repeated (suc n) v (suc i) = repeated n v i

-- a list of one number below the bound
pub under-start : (bound len v : ℕ) → v < bound → 0 < bound → Under bound (replicate len v)
under-start bound len v h z = record { under = λ i. ⊎_elim (λ q. rw q h) (λ q. rw q z) (repeated len v i) }

-- a number below the bound stored in it
pub under-add : (bound k v : ℕ) (l : List ℕ) → k < length l → v < bound → Under bound l → Under bound (set l k v)
under-add bound k v l h b u = record { under = λ j. go j (eqb j k) refl }
  where
    go : (j : ℕ) → (t : Bool) → eqb j k ≡ t → el (set l k v) j < bound
    go j true e = let z : j ≡ k = eqb-true j k e in rw z (rw (get_or-set_same l k v 0 h) b)
    go j false e = rw (get_or-set_other l k j v 0 (eqb-false j k e)) (u.under j)

-- A column, one number after another

-- a column with nothing filled
pub column-start : (f : ℕ → ℕ) (len bound v : ℕ) → v < bound → 0 < bound → Column f len bound 0 (replicate len v)
column-start f len bound v h z = record { sized = length-replicate {A = ℕ} len v; upto = λ j l. absurd (omega arith); under = under-start bound len v h z }

-- the next number stored
pub column-add : (f : ℕ → ℕ) (len bound k v : ℕ) (l : List ℕ) → k < len → v ≡ f k → v < bound → Column f len bound k l → Column f len bound (k + 1) (set l k v)
column-add f len bound k v l h q b inv =
    record {
      sized = length-set l k v ∙ inv.sized;
      upto = λ j m. go j m (eqb j k) refl;
      under = under-add bound k v l (omega (arith, inv.sized)) b
          inv.under;
    }
  where
    go : (j : ℕ) → j < k + 1 → (t : Bool) → eqb j k ≡ t → el (set l k v) j ≡ f j
    go j m true e = let z : j ≡ k = eqb-true j k e in rw z (get_or-set_same l k v 0 (omega (arith, inv.sized)) ∙ q)
    go j m false e = get_or-set_other l k j v 0 (eqb-false j k e) ∙ inv.upto j (omega (arith, eqb-false j k e))

-- the column filled up to n
pub column-end : (f : ℕ → ℕ) (len bound i n : ℕ) (l : List ℕ) → i ≤ n → n ≤ i → Column f len bound i l → Column f len bound n l
column-end f len bound i n l a b c = let z : i ≡ n = omega arith in subst (λ (x : ℕ). Column f len bound x l) z c

-- Rows are below 130

-- a role's row
pub row_small : (n : ℕ) (H : List ℕ) → n ≤ 128 → (p : Role) → row_in n H p < 130
row_small n H small p = ⊎_elim (λ h. omega arith) (λ h. omega arith) (row-cases (pool_of n H [] []) small p)

-- a role's row where e is asked about
pub row-for-small : (P : Pool) → P.count ≤ 128 → (e : Expression) (p : Role) → row_for P e p < 130
unfolding row_for
row-for-small P small e p = go (eqb (row_of P p) 128) (same (E.Role p) e) (row_of P p) (row_small P.count P.heads small p)
  where
    go : (t u : Bool) (x : ℕ) → x < 130 → cond t (cond u 129 128) x < 130
    go true true x h = omega arith
    go true false x h = omega arith
    go false u x h = h

-- a rule's membership row
pub first_small : (P : Pool) → P.count ≤ 128 → (x : Expression) → first_row (row_of P) x < 130
first_small P small (E.Entity b) = omega arith
first_small P small (E.Role p) = omega arith
first_small P small (E.Linked a m) = row_small P.count P.heads small a
first_small P small (E.Intersection p) = omega arith
first_small P small (E.Goal m) = omega arith

-- a rule's four rows
pub four-small : (ρ : Role → ℕ) → ((p : Role) → ρ p < 130) → (x : Expression) → FourUnder 130 (four_rows ρ x)
four-small ρ h (E.Entity b) = record { a = omega arith; b = omega arith; c = omega arith; d = omega arith }
four-small ρ h (E.Role p) = record { a = h p; b = h p; c = h p; d = h p }
four-small ρ h (E.Linked a m) = record { a = omega arith; b = omega arith; c = omega arith; d = omega arith }
four-small ρ h (E.Intersection p) = record { a = h p.first; b = h p.second; c = h (third p); d = h (fourth p) }
four-small ρ h (E.Goal m) = record { a = omega arith; b = omega arith; c = omega arith; d = omega arith }

-- Four rows, one rule after another

-- four numbers stored from index at
abbrev pub put4 : List ℕ → ℕ → Four → List ℕ
put4 l at r = set (set (set (set l at r.a) (at + 1) r.b) (at + 2) r.c) (at + 3) r.d

module _ (l : List ℕ) (at : ℕ) (r : Four) where
  pub put-length : length (put4 l at r) ≡ length l
  put-length = simp length-set

  put_other : (j : ℕ) → (j ≡ at → ⊥) → (j ≡ at + 1 → ⊥) → (j ≡ at + 2 → ⊥) → (j ≡ at + 3 → ⊥) → el (put4 l at r) j ≡ el l j
  put_other j h₀ h₁ h₂ h₃ =
      get_or-set_other (set (set (set l at r.a) (at + 1) r.b) (at + 2) r.c) (at + 3) j r.d 0 h₃
      ∙ get_or-set_other (set (set l at r.a) (at + 1) r.b) (at + 2) j r.c 0 h₂
      ∙ get_or-set_other (set l at r.a) (at + 1) j r.b 0 h₁
      ∙ get_or-set_other l at j r.a 0 h₀

  module _ (room : at + 3 < length l) where
    put_a : el (put4 l at r) at ≡ r.a
    put_a =
        get_or-set_other (set (set (set l at r.a) (at + 1) r.b) (at + 2) r.c) (at + 3) at r.d 0 (λ q. omega arith)
        ∙ get_or-set_other (set (set l at r.a) (at + 1) r.b) (at + 2) at r.c 0 (λ q. omega arith)
        ∙ get_or-set_other (set l at r.a) (at + 1) at r.b 0 (λ q. omega arith)
        ∙ get_or-set_same l at r.a 0 (omega arith)

    put_b : el (put4 l at r) (at + 1) ≡ r.b
    put_b =
        get_or-set_other (set (set (set l at r.a) (at + 1) r.b) (at + 2) r.c) (at + 3) (at + 1) r.d 0 (λ q. omega arith)
        ∙ get_or-set_other (set (set l at r.a) (at + 1) r.b) (at + 2) (at + 1) r.c 0 (λ q. omega arith)
        ∙ get_or-set_same (set l at r.a) (at + 1) r.b 0 (omega (arith, length-set l at r.a))

    put-c : el (put4 l at r) (at + 2) ≡ r.c
    put-c =
        get_or-set_other (set (set (set l at r.a) (at + 1) r.b) (at + 2) r.c) (at + 3) (at + 2) r.d 0 (λ q. omega arith)
        ∙ get_or-set_same (set (set l at r.a) (at + 1) r.b) (at + 2) r.c 0 (simp length-set (omega arith))

    put-d : el (put4 l at r) (at + 3) ≡ r.d
    put-d = get_or-set_same (set (set (set l at r.a) (at + 1) r.b) (at + 2) r.c) (at + 3) r.d 0 (simp length-set (omega arith))

    -- four numbers below the bound stay below it when stored
    pub put_under : (bound : ℕ) → FourUnder bound r → Under bound l → Under bound (put4 l at r)
    put_under bound f u =
        under-add bound (at + 3) r.d _ (simp length-set (omega arith)) f.d
        (under-add bound (at + 2) r.c _ (simp length-set (omega arith)) f.c
        (under-add bound (at + 1) r.b _ (omega (arith, length-set l at r.a)) f.b (under-add bound at r.a l (omega arith) f.a u)))

-- they are read back
pub put_four : (l : List ℕ) (i : ℕ) (r : Four) → i * 4 + 3 < length l → four_at (put4 l (i * 4) r) i ≡ r
put_four l i r room = λ k. record { a = put_a l (i * 4) r room k; b = put_b l (i * 4) r room k; c = put-c l (i * 4) r room k; d = put-d l (i * 4) r room k }

-- the other rules keep theirs
pub put-before : (l : List ℕ) (i j : ℕ) (r : Four) → (j ≡ i → ⊥) → four_at (put4 l (i * 4) r) j ≡ four_at l j
put-before l i j r ne = λ k. record {
  a = put_other l (i * 4) r (j * 4) (λ q. ne (omega arith)) (λ q. omega arith) (λ q. omega arith) (λ q. omega arith) k;
  b = put_other l (i * 4) r (j * 4 + 1) (λ q. omega arith) (λ q. ne (omega arith)) (λ q. omega arith) (λ q. omega arith) k;
  c = put_other l (i * 4) r (j * 4 + 2) (λ q. omega arith) (λ q. omega arith) (λ q. ne (omega arith)) (λ q. omega arith) k;
  d = put_other l (i * 4) r (j * 4 + 3) (λ q. omega arith) (λ q. omega arith) (λ q. omega arith) (λ q. ne (omega arith)) k;
}

module _ (ρ : Role → ℕ) (P : Pool) where
  -- no rule stored
  pub parts-start : PartsTo ρ P 0 (replicate 512 128)
  parts-start =
      record { sized = length-replicate {A = ℕ} 512 128; under = under-start 130 512 128 (omega arith) (omega arith); four = λ i l. absurd (omega arith) }

  -- the rows of the next rule stored
  pub parts_add : ((p : Role) → ρ p < 130) → (k : ℕ) (l : List ℕ) (r : Four) → k < 128 → r ≡ four_rows ρ (body_at P k) → PartsTo ρ P k l
      → PartsTo ρ P (k + 1) (put4 l (k * 4) r)
  parts_add small k l r h q inv =
      let room : k * 4 + 3 < length l = omega (arith, inv.sized) in
      record {
        sized = put-length l (k * 4) r ∙ inv.sized;
        under = put_under l (k * 4) r room 130 (rw q (four-small ρ small (body_at P k))) inv.under;
        four = λ i m. go i m (eqb i k) refl;
      }
    where
      go : (i : ℕ) → i < k + 1 → (t : Bool) → eqb i k ≡ t → four_at (put4 l (k * 4) r) i ≡ four_rows ρ (body_at P i)
      go i m true e = let z : i ≡ k = eqb-true i k e in rw z (put_four l k r (omega (arith, inv.sized)) ∙ q)
      go i m false e = put-before l k i r (eqb-false i k e) ∙ inv.four i (omega (arith, eqb-false i k e))

  -- the rows of all rules
  pub parts-end : (i n : ℕ) (l : List ℕ) → i ≤ n → n ≤ i → PartsTo ρ P i l → PartsTo ρ P n l
  parts-end i n l a b c = let z : i ≡ n = omega arith in subst (λ (x : ℕ). PartsTo ρ P x l) z c

-- a linked body has kind 3
pub linked-kind : (P : Pool) (i : ℕ) (a : Role) (m : ℕ) → body_at P i ≡ E.Linked a m → has_link P i ≡ true
unfolding expression_in
linked-kind P i a m h =
    go (eqb (el P.kinds (i * 2)) 1) (eqb (el P.kinds (i * 2)) 2) (eqb (el P.kinds (i * 2)) 3) (eqb (el P.kinds (i * 2)) 4) _ _ _ _ _ _ h
  where
    go : (t u v w : Bool) (x : ℕ) (y z : Role) (n : ℕ) (p : Parts) (o : ℕ)
        → pick_expression t (E.Entity x) (pick_expression u (E.Role y)
        (pick_expression v (E.Linked z n) (pick_expression w (E.Intersection p) (E.Goal o)))) ≡ E.Linked a m → v ≡ true
    go true u v w x y z n p o q = absurd (let d : ◌≡◌ {A = ℕ} 0 1 = cc in omega arith)
    go false true v w x y z n p o q = absurd (let d : ◌≡◌ {A = ℕ} 0 1 = cc in omega arith)
    go false false true w x y z n p o q = refl
    go false false false true x y z n p o q = absurd (let d : ◌≡◌ {A = ℕ} 0 1 = cc in omega arith)
    go false false false false x y z n p o q = absurd (let d : ◌≡◌ {A = ℕ} 0 1 = cc in omega arith)

-- a body that is no link has no membership row
pub first-none : (P : Pool) (i : ℕ) → has_link P i ≡ false → 128 ≡ body_first P i
first-none P i h = go (body_at P i) refl
  where
    go : (x : Expression) → body_at P i ≡ x → 128 ≡ first_row (row_of P) x
    go (E.Entity b) q = refl
    go (E.Role p) q = refl
    go (E.Linked a m) q = absurd (false-true (sym h ∙ linked-kind P i a m q))
    go (E.Intersection p) q = refl
    go (E.Goal m) q = refl

-- The heads that links can go by

-- head j is its own row: its entity's bit
pub source-here : (P : Pool) (h j s : ℕ) → h ≡ row_of P (head_at P j) → h ≡ j → s ≡ bit_of P (head_at P j).entity → s ≡ link_source P j
source-here P h j s q e z = z ∙ sym (rw (eq-eqb (row_of P (head_at P j)) j (sym q ∙ e)))

-- head j is not its own row: none
pub source-none : (P : Pool) (h j : ℕ) → h ≡ row_of P (head_at P j) → (h ≡ j → ⊥) → 128 ≡ link_source P j
source-none P h j q e = sym (rw (ne_eqb (row_of P (head_at P j)) j (λ z. e (q ∙ z))))

source-bit : (P : Pool) (j s : ℕ) → s ≡ link_source P j → s < 128 → s ≡ bit_of P (head_at P j).entity
source-bit P j s q l = go (eqb (row_of P (head_at P j)) j) q
  where
    go : (t : Bool) → s ≡ cond t (bit_of P (head_at P j).entity) 128 → s ≡ bit_of P (head_at P j).entity
    go true z = z
    go false z = absurd (omega arith)

source-all : (P : Pool) (j s : ℕ) → s ≡ link_source P j → row_of P (head_at P j) ≡ j → s ≡ bit_of P (head_at P j).entity
source-all P j s q e = q ∙ rw (eq-eqb (row_of P (head_at P j)) j e)

module _ (P : Pool) where
  -- no head looked at
  pub able-start : (lit : Bool) → Able P lit 0 (replicate 128 0) (replicate 128 0)
  able-start lit =
      record {
        sized = length-replicate {A = ℕ} 128 0;
        sized' = length-replicate {A = ℕ} 128 0;
        under = under-start 128 128 0 (omega arith) (omega arith);
        says = λ j h. absurd (⊎_elim (λ q. omega arith) (λ q. omega arith) (repeated 128 0 j));
        all = λ _ j l. absurd (omega arith);
      }

  -- where none are sought, none are needed
  pub able-off : (lit : Bool) (n : ℕ) → lit ≡ false → Able P lit n (replicate 128 0) (replicate 128 0)
  able-off lit n q =
      record {
        sized = (able-start lit).sized;
        sized' = (able-start lit).sized';
        under = (able-start lit).under;
        says = λ j h. absurd (⊎_elim (λ q. omega arith) (λ q. omega arith) (repeated 128 0 j));
        all = λ z. absurd (false-true (sym q ∙ z));
      }

  -- head j has a source: it is marked
  pub able-add : P.count ≤ 128 → (lit : Bool) (src able : List ℕ) (j s : ℕ) → j < P.count → s ≡ link_source P j → s < 128 → Able P lit j src able
      → Able P lit (j + 1) (set src j s) (set able j 1)
  able-add small lit src able j s l q b inv =
      let qs : s ≡ bit_of P (head_at P j).entity = source-bit P j s q b in
      let lj : j < length src = omega (arith, inv.sized) in
      record {
        sized = length-set src j s ∙ inv.sized;
        sized' = length-set able j 1 ∙ inv.sized';
        under = under-add 128 j s src lj b inv.under;
        says = λ k z. go k z (eqb k j) refl;
        all = λ z k y x w. on z k y x w (eqb k j) refl;
      }
    where
      qs : s ≡ bit_of P (head_at P j).entity
      qs = source-bit P j s q b

      have : bit_of P (head_at P j).entity < P.count
      have = ⊎_elim (λ z. z) (λ z. absurd (omega (arith, qs))) (bit-cases P small (head_at P j).entity)

      go : (k : ℕ) → el (set able j 1) k ≡ 1 → (t : Bool) → eqb k j ≡ t
          → (k < j + 1) × (el (set src j s) k ≡ bit_of P (head_at P k).entity) × (bit_of P (head_at P k).entity < P.count)
      go k z true e = let q : k ≡ j = eqb-true k j e in (omega arith, rw q (get_or-set_same src j s 0 (omega (arith, inv.sized)) ∙ qs), rw q have)
      go k z false e =
          let ne : k ≡ j → ⊥ = eqb-false k j e in
          let r = inv.says k (sym (get_or-set_other able j k 1 0 ne) ∙ z) in
          (omega (arith, r.0), get_or-set_other src j k s 0 ne ∙ r.1, r.2)

      on : lit ≡ true → (k : ℕ) → k < j + 1 → row_of P (head_at P k) ≡ k → bit_of P (head_at P k).entity < P.count → (t : Bool) → eqb k j ≡ t
          → el (set able j 1) k ≡ 1
      on z k y x w true e = rw (eqb-true k j e) (get_or-set_same able j 1 0 (omega (arith, inv.sized')))
      on z k y x w false e = get_or-set_other able j k 1 0 (eqb-false k j e) ∙ inv.all z k (omega (arith, eqb-false k j e)) x w

  -- head j has no source
  pub able-skip : (lit : Bool) (src able : List ℕ) (j s : ℕ) → s ≡ link_source P j → P.count ≤ 128 → 128 ≤ s → Able P lit j src able
      → Able P lit (j + 1) src able
  able-skip lit src able j s q small nay inv =
      record {
        sized = inv.sized;
        sized' = inv.sized';
        under = inv.under;
        says = λ k z. let r = inv.says k z in (omega (arith, r.0), r.1, r.2);
        all = λ z k y x w. go z k y x w (eqb k j) refl;
      }
    where
      go : lit ≡ true → (k : ℕ) → k < j + 1 → row_of P (head_at P k) ≡ k → bit_of P (head_at P k).entity < P.count → (t : Bool) → eqb k j ≡ t → el able k ≡ 1
      go z k y x w true e =
          let y : k ≡ j = eqb-true k j e in
          let w' : bit_of P (head_at P j).entity < P.count = rw y at w in
          let z' : s ≡ bit_of P (head_at P j).entity = source-all P j s q (rw y at x) in
          absurd (omega arith)
      go z k y x w false e = inv.all z k (omega (arith, eqb-false k j e)) x w

  -- all heads looked at
  pub able-end : (lit : Bool) (src able : List ℕ) (j n : ℕ) → j ≤ n → n ≤ j → Able P lit j src able → Able P lit n src able
  able-end lit src able j n a b c = let z : j ≡ n = omega arith in subst (λ (x : ℕ). Able P lit x src able) z c

-- The heads that a link names

module _ (P : Pool) (able : List ℕ) (i m : ℕ) (N : List ℕ) where
  -- no head looked at
  pub name-start : length N ≡ 260 → NamedRow P able i m 0 N N
  name-start h = record { sized = h; kept = record { within = λ r s z. z }; says = λ q t z. inl z; all = λ t l. absurd (omega arith) }

  -- head j is named: its bit is marked
  pub name-add : (j : ℕ) (N₁ N₂ : List ℕ) {b : Bool} → b ≡ is_named P able m j → b ≡ true → NamedRow P able i m j N N₁ → Marked N₁ i j N₂
      → NamedRow P able i m (j + 1) N N₂
  name-add j N₁ N₂ e h inv new =
      let k = and_parts (eqb (el able j) 1) (eqb (head_at P j).name m) (sym e ∙ h) in
      record {
        sized = new.sized;
        kept = record { within = λ r s z. new.kept.within r s (inv.kept.within r s z) };
        says = λ q t z. ⊎_elim
            (λ y. ⊎_elim (λ x. inl x) (λ x. let l : t < j = x.1 in inr (x.0, omega arith, x.2, x.3)) (inv.says q t y))
            (λ y. let z : t ≡ j = y.1 in inr (y.0, omega arith, rw z (eqb-true (el able j) 1 k.0), rw z (eqb-true (head_at P j).name m k.1)))
            (new.says q t z);
        all = λ t l a n. go t l a n (eqb t j) refl;
      }
    where
      go : (t : ℕ) → t < j + 1 → el able t ≡ 1 → (head_at P t).name ≡ m → (u : Bool) → eqb t j ≡ u → bits N₂ i t ≡ true
      go t l a n true z = rw (eqb-true t j z) new.here
      go t l a n false z = new.kept.within i t (inv.all t (omega (arith, eqb-false t j z)) a n)

  -- head j is not named
  pub name-skip : (j : ℕ) (N₁ : List ℕ) {b : Bool} → b ≡ is_named P able m j → b ≡ false → NamedRow P able i m j N N₁ → NamedRow P able i m (j + 1) N N₁
  name-skip j N₁ e h inv =
      record {
        sized = inv.sized;
        kept = inv.kept;
        says = λ q t z. ⊎_elim (λ x. inl x) (λ x. let l : t < j = x.1 in inr (x.0, omega arith, x.2, x.3)) (inv.says q t z);
        all = λ t l a n. go t l a n (eqb t j) refl;
      }
    where
      go : (t : ℕ) → t < j + 1 → el able t ≡ 1 → (head_at P t).name ≡ m → (u : Bool) → eqb t j ≡ u → bits N₁ i t ≡ true
      go t l a n true z =
          let q : t ≡ j = eqb-true t j z in
          absurd (false-true (sym (sym e ∙ h) ∙ and_both (eqb (el able j) 1) (eqb (head_at P j).name m) (eq-eqb (el able j) 1 (rw q at a))
          (eq-eqb (head_at P j).name m (rw q at n))))
      go t l a n false z = inv.all t (omega (arith, eqb-false t j z)) a n

  -- all heads looked at
  pub name-end : (j n : ℕ) (N₁ : List ℕ) → j ≤ n → n ≤ j → NamedRow P able i m j N N₁ → NamedRow P able i m n N N₁
  name-end j n N₁ a b c = let z : j ≡ n = omega arith in subst (λ (x : ℕ). NamedRow P able i m x N N₁) z c

-- what is no link is not equal to one
pub not-linked : (x : Expression) → is_linked x ≡ false → (a : Role) (m : ℕ) → x ≡ E.Linked a m → ⊥
not-linked x h a m q = false-true (sym h ∙ ap is_linked q)

module _ (P : Pool) (able : List ℕ) (i k : ℕ) (x : Expression) (N : List ℕ) where
  -- a link names the heads of its name
  pub link_row : (a : Role) (m : ℕ) (N' : List ℕ) → x ≡ E.Linked a m → NamedRow P able i m k N N' → NamedLink P able i k x N N'
  link_row a m N' q r =
      record {
        sized = r.sized;
        kept = r.kept;
        says = λ p t z. ⊎_elim (λ y. inl y) (λ y. inr (a, m, q, y.0, y.1, y.2, y.3)) (r.says p t z);
        all = λ a' m' t q' l h n. let e : m' ≡ m = same_name a' a m' m (sym q' ∙ q) in r.all t l h (n ∙ e);
      }
    where
      same_name : (a b : Role) (m n : ℕ) → E.Linked a m ≡ E.Linked b n → m ≡ n
      same_name a b m n e = cc

  -- what is no link names nothing
  pub link-none : length N ≡ 260 → ((a : Role) (m : ℕ) → x ≡ E.Linked a m → ⊥) → NamedLink P able i k x N N
  link-none h none = record { sized = h; kept = record { within = λ r s z. z }; says = λ p t z. inl z; all = λ a m t q. absurd (none a m q) }

-- a table of zeros has no bits
pub no_bits : (n r s : ℕ) → bits (replicate n 0) r s ≡ true → ⊥
unfolding bits
no_bits n r s h =
    let k = (and_parts (ltb s 128) _ h).1 in
    let z : ◌≡◌ {A = ℕ} (get_or (replicate n 0) (r * 2 + s / 64) 0) 0 = ⊎_elim (λ q. q) (λ q. q) (repeated n 0 (r * 2 + s / 64)) in
    false-true (sym (bit-zero (s % 64)) ∙ sym (ap (λ (x : ℕ). bit_at x (s % 64)) z) ∙ k)

module _ (P : Pool) (able : List ℕ) where
  -- no body looked at
  pub names-start : NamesTo P able 0 (replicate 260 0)
  names-start = record { sized = length-replicate {A = ℕ} 260 0; says = λ q t z. absurd (no_bits 260 q t z); all = λ q a m t l. absurd (omega arith) }

  -- the link of body k is taken in
  pub names-add : (k : ℕ) (x : Expression) (N N' : List ℕ) → x ≡ body_at P k → NamesTo P able k N → NamedLink P able k P.count x N N'
      → NamesTo P able (k + 1) N'
  names-add k x N N' e inv new =
      record {
        sized = new.sized;
        says = λ q t z. ⊎_elim
            (λ y. let r = inv.says q t y in (r.0, r.1, omega (arith, r.2), r.3, r.4, r.5, r.6))
            (λ y. let w : q ≡ k = y.3 in (y.0, y.1, omega arith, rw w (sym e ∙ y.2), y.4, y.5, y.6)) (new.says q t z);
        all = λ q a m t l h b c d. go q a m t l h b c d (eqb q k) refl;
      }
    where
      go : (q : ℕ) (a : Role) (m t : ℕ) → q < k + 1 → body_at P q ≡ E.Linked a m → t < P.count → el able t ≡ 1 → (head_at P t).name ≡ m → (u : Bool)
          → eqb q k ≡ u → bits N' q t ≡ true
      go q a m t l h b c d true z = let w : q ≡ k = eqb-true q k z in rw w (new.all a m t (e ∙ (rw w at h)) b c d)
      go q a m t l h b c d false z = new.kept.within q t (inv.all q a m t (omega (arith, eqb-false q k z)) h b c d)

  -- body k is no link
  pub names-skip : (k : ℕ) (N : List ℕ) → has_link P k ≡ false → NamesTo P able k N → NamesTo P able (k + 1) N
  names-skip k N none inv =
      record {
        sized = inv.sized;
        says = λ q t z. let r = inv.says q t z in (r.0, r.1, omega (arith, r.2), r.3, r.4, r.5, r.6);
        all = λ q a m t l h b c d. go q a m t l h b c d (eqb q k) refl;
      }
    where
      go : (q : ℕ) (a : Role) (m t : ℕ) → q < k + 1 → body_at P q ≡ E.Linked a m → t < P.count → el able t ≡ 1 → (head_at P t).name ≡ m → (u : Bool)
          → eqb q k ≡ u → bits N q t ≡ true
      go q a m t l h b c d true z = let w : q ≡ k = eqb-true q k z in absurd (false-true (sym none ∙ linked-kind P k a m (rw w at h)))
      go q a m t l h b c d false z = inv.all q a m t (omega (arith, eqb-false q k z)) h b c d

  -- all bodies looked at
  pub names-end : (i n : ℕ) (N : List ℕ) → i ≤ n → n ≤ i → NamesTo P able i N → NamesTo P able n N
  names-end i n N a b c = let z : i ≡ n = omega arith in subst (λ (x : ℕ). NamesTo P able x N) z c

-- a body of kind 3 is a link
linked-body : (P : Pool) (i : ℕ) → has_link P i ≡ true
    → body_at P i ≡ E.Linked (record { entity = el P.numbers (i * 8); name = el P.numbers (i * 8 + 1) }) (el P.numbers (i * 8 + 2))
unfolding expression_in
linked-body P i h = rw (eqb-true (el P.kinds (i * 2)) 3 h)

-- A row that is copied

module _ (N : List ℕ) (k i : ℕ) (size : length N ≡ 260) (l : i < 128) where
  copy-here : (h : ℕ) → h < 2 → el (copied N k i) (i * 2 + h) ≡ el N (k * 2 + h)
  unfolding copied
  copy-here zero u =
      ap (el (copied N k i)) (add-zero (i * 2)) ∙ get_or-set_other (set N (i * 2) (el N (k * 2))) (i * 2 + 1) (i * 2) (el N (k * 2 + 1)) 0 (λ q. omega arith)
      ∙ get_or-set_same N (i * 2) (el N (k * 2)) 0 (omega arith) ∙ ap (el N) (sym (add-zero (k * 2)))
  copy-here (suc zero) u = get_or-set_same (set N (i * 2) (el N (k * 2))) (i * 2 + 1) (el N (k * 2 + 1)) 0 (omega (arith, length-set N (i * 2) (el N (k * 2))))
  copy-here (suc (suc h)) u = absurd (omega arith)

  copy-else : (r h : ℕ) → h < 2 → (r ≡ i → ⊥) → el (copied N k i) (r * 2 + h) ≡ el N (r * 2 + h)
  unfolding copied
  copy-else r h u ne =
      get_or-set_other (set N (i * 2) (el N (k * 2))) (i * 2 + 1) (r * 2 + h) (el N (k * 2 + 1)) 0 (λ q. ne (omega arith))
      ∙ get_or-set_other N (i * 2) (r * 2 + h) (el N (k * 2)) 0 (λ q. ne (omega arith))

  -- its bits
  copy-bits : (t : ℕ) → bits (copied N k i) i t ≡ bits N k t
  unfolding bits
  copy-bits t = go (ltb t 128) refl
    where
      go : (b : Bool) → ltb t 128 ≡ b → (b && bit_at (el (copied N k i) (i * 2 + t / 64)) (t % 64)) ≡ (b && bit_at (el N (k * 2 + t / 64)) (t % 64))
      go true e = let z : t < 128 = ltb-true t 128 e in ap (λ (x : ℕ). bit_at x (t % 64)) (copy-here (t / 64) (omega arith))
      go false e = refl

  -- those of other rows
  copy_rest : (r t : ℕ) → (r ≡ i → ⊥) → bits (copied N k i) r t ≡ bits N r t
  unfolding bits
  copy_rest r t ne = go (ltb t 128) refl
    where
      go : (b : Bool) → ltb t 128 ≡ b → (b && bit_at (el (copied N k i) (r * 2 + t / 64)) (t % 64)) ≡ (b && bit_at (el N (r * 2 + t / 64)) (t % 64))
      go true e = let z : t < 128 = ltb-true t 128 e in ap (λ (x : ℕ). bit_at x (t % 64)) (copy-else r (t / 64) (omega arith) ne)
      go false e = refl

  copy-size : length (copied N k i) ≡ 260
  unfolding copied
  copy-size = length-set (set N (i * 2) (el N (k * 2))) (i * 2 + 1) (el N (k * 2 + 1)) ∙ length-set N (i * 2) (el N (k * 2)) ∙ size

-- a link with the name of one before names the same heads
pub names-copy : (P : Pool) (able : List ℕ) (k i : ℕ) (N N' : List ℕ) {b : Bool} → i < 128 → has_link P i ≡ true
    → SameLink P.kinds P.numbers k i b → b ≡ true → N' ≡ copied N k i
    → NamesTo P able i N → NamesTo P able (i + 1) N'
names-copy P able k i N N' l link same e new inv = subst (λ (x : List ℕ). NamesTo P able (i + 1) x) (sym new)
    record {
      sized = copy-size N k i inv.sized l;
      says = λ q t z. go q t z (eqb q i) refl;
      all = λ q a m t u h b c d. in' q a m t u h b c d (eqb q i) refl;
    }
  where
    m : ℕ
    m = el P.numbers (i * 8 + 2)

    at-k : body_at P k ≡ E.Linked (record { entity = el P.numbers (k * 8); name = el P.numbers (k * 8 + 1) }) m
    at-k = linked-body P k (same.link e) ∙ ap (E.Linked (record { entity = el P.numbers (k * 8); name = el P.numbers (k * 8 + 1) })) (same.name e)

    one_name : (a b : Role) (m n : ℕ) → E.Linked a m ≡ E.Linked b n → m ≡ n
    one_name a b m n q = cc

    go : (q t : ℕ) → bits (copied N k i) q t ≡ true → (u : Bool) → eqb q i ≡ u
        → (a : Role) × (m : ℕ) × (q < i + 1) × (body_at P q ≡ E.Linked a m) × (t < P.count) × (el able t ≡ 1) × ((head_at P t).name ≡ m)
    go q t z true w =
        let y : q ≡ i = eqb-true q i w in
        let r = inv.says k t (sym (copy-bits N k i inv.sized l t) ∙ (rw y at z)) in
        (_, m, omega arith, ap (body_at P) y ∙ linked-body P i link, r.4, r.5, r.6 ∙ one_name r.0 _ r.1 m (sym r.3 ∙ at-k))
    go q t z false w =
        let r = inv.says q t (sym (copy_rest N k i inv.sized l q t (eqb-false q i w)) ∙ z) in
        (r.0, r.1, omega (arith, r.2), r.3, r.4, r.5, r.6)

    in' : (q : ℕ) (a : Role) (n t : ℕ) → q < i + 1 → body_at P q ≡ E.Linked a n → t < P.count → el able t ≡ 1 → (head_at P t).name ≡ n → (u : Bool)
        → eqb q i ≡ u → bits (copied N k i) q t ≡ true
    in' q a n t u h b c d true w =
        let y : q ≡ i = eqb-true q i w in
        let z : n ≡ m = one_name a _ n m (sym h ∙ ap (body_at P) y ∙ linked-body P i link) in
        ap (λ (x : ℕ). bits (copied N k i) x t) y ∙ copy-bits N k i inv.sized l t ∙ inv.all k _ m t (same.before e) at-k b c (d ∙ z)
    in' q a n t u h b c d false w =
        copy_rest N k i inv.sized l q t (eqb-false q i w) ∙ inv.all q a n t (omega (arith, eqb-false q i w)) h b c d
