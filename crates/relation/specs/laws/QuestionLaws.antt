-- The steps of a question, one after another. Assumes nothing.
use Rattle.std.specs.Prelude.{ℕ, zero, suc, ◌*◌, ◌+◌, ◌-◌, ◌≤◌, ◌<◌, ◌≡◌, ◌⊎◌, Bool, ◌&&◌, not, length, set, replicate}
use Rattle.std.proofs.Common.{arith, ◌∙◌, ap, subst, inl, get_or-set_same, get_or-set_other}
use Rattle.std.proofs.Math.Path.{refl, sym}
use Rattle.std.proofs.Math.Logic.{inr, ⊎_elim}
use Rattle.std.proofs.Math.Bool.{true, false}
use mathlib.Core.List.{List, Memᴰ}
use borrow.Author.Tests.{eqb-true, eqb-false, eq-eqb, ne_eqb}
use Rattle.std.proofs.Math.Dec.{eqb}
use Rattle.std.proofs.lemmas.List.{length-replicate}
use Rattle.expression.specs.declared.Role.{Role}
use Rattle.expression.specs.declared.Credential.{Credential}
use Rattle.expression.specs.declared.Expression.{Expression}
use Rattle.expression.specs.declared.Expression.TheVariants as E
use Rattle.expression.specs.declared.Raw.{Raw}
use Rattle.expression.specs.Form.{raw_of, expression_of}
use Rattle.expression.specs.Same.{same}
use Rattle.expression.specs.laws.Laws.{expression-raw}
use Rattle.expression.specs.laws.Same.{eq-same}
use Rattle.expression.specs.Kinds.{is_role_expression}
use Rattle.rt0.specs.declared.Pool.{Pool}
use Rattle.rt0.specs.From.{From, reflexive, transitive, credential}
use Rattle.word.specs.laws.Bools.{false-true, and_parts, and_both}
use Rattle.rt0.proofs.laws.Laws.{more}
use Rattle.rt0.specs.laws.Pool.{head_at, body_at, expression_in}
use Rattle.closure.specs.laws.Rules.{el, bits, Marked}
use Rattle.rules.specs.laws.Table.{row_of, row_in, bit_of, row_for, chosen, third, fourth}
use Rattle.rules.specs.declared.Four.{Four}
use Rattle.rules.specs.laws.Columns.{four_rows}
use Rattle.rules.specs.laws.Exact.{body-entity, chosen-mem, chosen-find, row-found, row_here, row-cases, bit-here}
use Rattle.rules.specs.laws.Column.{no_bits, row-for-small}
use Rattle.relation.specs.laws.Relation.{Relation, Start, at_once, Asked, switched}
use Rattle.relation.specs.laws.Answer.{once-says, Moved}
use Rattle.relation.specs.laws.Question.{Seeded, StartTo, OwnRow, starts_at, AskedTo}

-- what holds of e holds of each expression with its numbers
pub by-raw : (F : Expression → Type 0) (e : Expression) {raw : Raw} → raw ≡ raw_of e → F e → (x : Expression) → raw ≡ raw_of x → F x
by-raw F e q f x k = subst F (sym (expression-raw e) ∙ (ap expression_of (sym q ∙ k) ∙ expression-raw x)) f

-- The row of a role where e is asked about

module _ (P : Pool) (e : Expression) (p : Role) (old : ℕ) (q : old ≡ row_of P p) where
  -- a role that is a head keeps its row
  pub asked-kept : (old ≡ 128 → ⊥) → old ≡ row_for P e p
  unfolding row_for
  asked-kept z = rw (← q, ne_eqb old 128 z)

  -- e itself, where it is no head, has row 129
  pub asked-own : old ≡ 128 → {b : Bool} → b ≡ same (E.Role p) e → b ≡ true → 129 ≡ row_for P e p
  unfolding row_for
  asked-own z h k = rw (← q, eq-eqb old 128 z, sym h ∙ k)

  -- any other role that is no head has row 128
  pub asked-none : old ≡ 128 → {b : Bool} → b ≡ same (E.Role p) e → b ≡ false → 128 ≡ row_for P e p
  unfolding row_for
  asked-none z h k = rw (← q, eq-eqb old 128 z, sym h ∙ k)

-- The rows of a rule where e is asked about

module _ (P : Pool) (e : Expression) (i : ℕ) (old : Four) (q : old ≡ four_rows (row_of P) (body_at P i)) where
  -- rows of heads are kept
  pub asked-heads : (not (eqb old.a 128) && (not (eqb old.b 128) && (not (eqb old.c 128) && not (eqb old.d 128)))) ≡ true
      → old ≡ four_rows (row_for P e) (body_at P i)
  asked-heads h =
      let x = and_parts _ _ h in
      let y = and_parts _ _ x.1 in
      let z = and_parts _ _ y.1 in
      heads (other _ x.0) (other _ y.0) (other _ z.0) (other _ z.1)
    where
      other : (r : ℕ) → not (eqb r 128) ≡ true → r ≡ 128 → ⊥
      other r k z = false-true (sym (ap (λ (b : Bool). not b) (eq-eqb r 128 z)) ∙ k)

      heads : (old.a ≡ 128 → ⊥) → (old.b ≡ 128 → ⊥) → (old.c ≡ 128 → ⊥) → (old.d ≡ 128 → ⊥) → old ≡ four_rows (row_for P e) (body_at P i)
      heads a b c d = go (body_at P i) q
        where
          kept : (p : Role) (r : ℕ) → r ≡ row_of P p → (r ≡ 128 → ⊥) → r ≡ row_for P e p
          kept p r z n = asked-kept P e p r z n

          go : (x : Expression) → old ≡ four_rows (row_of P) x → old ≡ four_rows (row_for P e) x
          go (E.Entity b) z = z
          go (E.Role p) z =
              λ j. record {
                a = kept p _ (ap (λ (r : Four). r.a) z) a j;
                b = kept p _ (ap (λ (r : Four). r.b) z) b j;
                c = kept p _
                    (ap (λ (r : Four). r.c) z) c j;
                d = kept p _ (ap (λ (r : Four). r.d) z) d j;
              }
          go (E.Linked p m) z = z
          go (E.Intersection p) z =
              λ j. record {
                a = kept p.first _ (ap (λ (r : Four). r.a) z) a j;
                b = kept p.second _ (ap (λ (r : Four). r.b) z) b j;
                c = kept
                    (third p) _ (ap (λ (r : Four). r.c) z) c j;
                d = kept (fourth p) _ (ap (λ (r : Four). r.d) z) d j;
              }
          go (E.Goal m) z = z

  -- the rule of an entity has no rows
  pub asked-entity : el P.kinds (i * 2) ≡ 1 → old ≡ four_rows (row_for P e) (body_at P i)
  unfolding expression_in
  asked-entity h = q ∙ rw h

  -- nor has that of a link
  pub asked-link : el P.kinds (i * 2) ≡ 3 → old ≡ four_rows (row_for P e) (body_at P i)
  unfolding expression_in
  asked-link h = q ∙ rw h

-- The row of e itself

-- no role is e where e is no role
pub no-role : (e : Expression) → is_role_expression e ≡ false → (p : Role) → E.Role p ≡ e → ⊥
no-role e h p q = false-true (sym h ∙ sym (ap is_role_expression q))

-- a role whose row is not 128 is a head
pub old_row : (n : ℕ) (H : List ℕ) (e : Expression) (q : Role) (r : ℕ) → e ≡ E.Role q → r ≡ row_in n H q → eqb r 128 ≡ false → (p : Role) → E.Role p ≡ e
    → row_in n H p ≡ 128 → ⊥
old_row n H e q r k h z p g y = let o : q ≡ p = cc in false-true (sym z ∙ eq-eqb r 128 (h ∙ (ap (row_in n H) o ∙ y)))

-- where e is no role, row 129 stands for it
pub own-none : (P : Pool) (e : Expression) → is_role_expression e ≡ false → OwnRow P e 129
own-none P e h = record { small = omega arith; says = inl refl; own = λ p q. absurd (no-role e h p q) }

-- where e is a role, its row where it is asked about stands for it
pub own-role : (P : Pool) → P.count ≤ 128 → (e : Expression) (q : Role) (r : ℕ) → e ≡ E.Role q → r ≡ row_for P e q → OwnRow P e r
unfolding row_for
own-role P small e q r z h =
    record {
      small = rw h (row-for-small P small e q);
      says = go (eqb (row_of P q) 128) (same (E.Role q) e) refl refl;
      own = λ p w. let y : p ≡ q = same-role p q (w ∙ z) in rw y h;
    }
  where
    same-role : (p q : Role) → E.Role p ≡ E.Role q → p ≡ q
    same-role p q e = cc

    go : (t u : Bool) → eqb (row_of P q) 128 ≡ t → same (E.Role q) e ≡ u → (r ≡ 129) ⊎ ((r < P.count) × (E.Role (head_at P r) ≡ e))
    go true true x y = inl (h ∙ rw (x, y))
    go true false x y = absurd (false-true (sym y ∙ eq-same (E.Role q) e (sym z)))
    go false u x y =
        let k : r ≡ row_of P q = h ∙ rw x in
        let f = ⊎_elim (λ l. row-found P small q l) (λ w. absurd (eqb-false (row_of P q) 128 x w)) (row-cases P small q) in
        inr (rw k f.0, rw k (ap E.Role f.1 ∙ sym z))

-- What a credential says at once

-- a body that is no entity says nothing at once
pub seed-none : (P : Pool) → P.count ≤ 128 → (i : ℕ) (K : List ℕ) → length K ≡ 260 → (el P.kinds (i * 2) ≡ 1 → ⊥) → Seeded P i K K
seed-none P small i K h off =
    record {
      sized = h;
      kept = record { within = λ r s z. z };
      says = λ r s z. inl z;
      all = λ b z. absurd (off (eqb-true (el P.kinds (i * 2)) 1 (and_parts (eqb (el P.kinds (i * 2)) 1) _ (body-entity P small i b z)).0));
    }

same-entity : (a b : ℕ) → E.Entity a ≡ E.Entity b → a ≡ b
same-entity a b e = cc

-- a body that is an entity says its bit
pub seed-mark : (P : Pool) (i : ℕ) (K : List ℕ) (b r s : ℕ) (K' : List ℕ) → body_at P i ≡ E.Entity b → r ≡ row_of P (head_at P i) → s ≡ bit_of P b
    → Marked K r s K' → Seeded P i K K'
seed-mark P i K b r s K' q hr hs m =
    record {
      sized = m.sized;
      kept = m.kept;
      says = λ u t w. ⊎_elim (λ y. inl y) (λ y. inr (b, q, y.0 ∙ hr, y.1 ∙ hs)) (m.says u t w);
      all = λ b' w. let y : b' ≡ b = same-entity b' b (sym w ∙ q) in rw y (rw (← hr, ← hs) m.here);
    }

-- the bit of an entity that is a body
pub body-bit : (P : Pool) → P.count ≤ 128 → (i b s : ℕ) → i < P.count → body_at P i ≡ E.Entity b → s ≡ bit_of P b → s < 128
body-bit P small i b s l q h = let k : bit_of P b < P.count = (bit-here P small b i l q).0 in omega arith

module _ (P : Pool) (on : List ℕ) (small : P.count ≤ 128) where
  -- what is seeded is true
  seed-true : (i : ℕ) → i < P.count → el on i ≡ 1 → (r s b : ℕ) → body_at P i ≡ E.Entity b → r ≡ row_of P (head_at P i) → s ≡ bit_of P b
      → (r < P.count) × From (chosen P on) (E.Role (head_at P r)) (body_at P s)
  unfolding chosen
  seed-true i l o r s b q hr hs =
      let f = row_here P small (head_at P i) i l refl in
      let g = bit-here P small b i l q in
      (rw hr f.0, rw (hr, hs) (rw (f.1, g.1) (rw q at (credential (chosen-mem P on P.count i l o)))))

  -- no credential looked at
  pub start-start : StartTo P on 0 (replicate 260 0)
  start-start = record { sized = length-replicate {A = ℕ} 260 0; says = λ r s z. absurd (no_bits 260 r s z); seeds = λ i b l. absurd (omega arith) }

  -- credential k is on: what it says is taken in
  pub start-add : (k : ℕ) (K K' : List ℕ) → k < P.count → el on k ≡ 1 → Seeded P k K K' → StartTo P on k K → StartTo P on (k + 1) K'
  start-add k K K' l o new inv =
      record {
        sized = new.sized;
        says = λ r s z. ⊎_elim (λ y. inv.says r s y) (λ y. seed-true k l o r s y.0 y.1 y.2 y.3) (new.says r s z);
        seeds = λ i b m p q. go i b m p q (eqb i k) refl;
      }
    where
      go : (i b : ℕ) → i < k + 1 → el on i ≡ 1 → body_at P i ≡ E.Entity b → (t : Bool) → eqb i k ≡ t → bits K' (row_of P (head_at P i)) (bit_of P b) ≡ true
      go i b m p q true z = let y : i ≡ k = eqb-true i k z in rw y (new.all b (rw y at q))
      go i b m p q false z = new.kept.within _ _ (inv.seeds i b (omega (arith, eqb-false i k z)) p q)

  -- credential k is off
  pub start-skip : (k : ℕ) (K : List ℕ) → (el on k ≡ 1 → ⊥) → StartTo P on k K → StartTo P on (k + 1) K
  start-skip k K off inv = record { sized = inv.sized; says = inv.says; seeds = λ i b m p q. go i b m p q (eqb i k) refl }
    where
      go : (i b : ℕ) → i < k + 1 → el on i ≡ 1 → body_at P i ≡ E.Entity b → (t : Bool) → eqb i k ≡ t → bits K (row_of P (head_at P i)) (bit_of P b) ≡ true
      go i b m p q true z = let y : i ≡ k = eqb-true i k z in absurd (off (rw y at p))
      go i b m p q false z = inv.seeds i b (omega (arith, eqb-false i k z)) p q

  -- all credentials looked at
  pub start-end : (k : ℕ) (K : List ℕ) → P.count ≤ k → StartTo P on k K → Start P on K
  start-end k K l inv = record { sized = inv.sized; says = inv.says; seeds = λ i b m p q. inv.seeds i b (omega arith) p q }

  -- the rows of a relation are a start
  pub start-related : (K : List ℕ) → Relation P on K → Start P on K
  unfolding chosen
  start-related K rel =
      record {
        sized = rel.sized;
        says = rel.says;
        seeds = λ j b m p w. rel.all (head_at P j) b (bit-here P small b j m w).0 (rw w at (credential (chosen-mem P on P.count j m p)));
      }

  -- a credential more: the rows of a start, with what it says at once, are one
  pub start-more : (was K K' : List ℕ) (i : ℕ) → i < P.count → i < length was → on ≡ set was i 1 → Start P was K → Seeded P i K K' → Start P on K'
  unfolding chosen
  start-more was K K' i l room q old new =
      record {
        sized = new.sized;
        says =
            λ r s z. ⊎_elim (λ y. let k = old.says r s y in (k.0, more keep k.1)) (λ y. seed-true i l here r s y.0 y.1 y.2 y.3)
            (new.says r s z);
        seeds = λ j b m p w. go j b m p w (eqb j i) refl;
      }
    where
      here : el on i ≡ 1
      here = rw q (get_or-set_same was i 1 0 room)

      still : (j : ℕ) → el was j ≡ 1 → el on j ≡ 1
      still j h = pick (eqb j i) refl
        where
          pick : (t : Bool) → eqb j i ≡ t → el on j ≡ 1
          pick true z = rw (eqb-true j i z) here
          pick false z = rw q (get_or-set_other was i j 1 0 (eqb-false j i z) ∙ h)

      keep : (c : Credential) → Memᴰ c (chosen P was) → Memᴰ c (chosen P on)
      keep c m =
          let r = chosen-find P was P.count c m in
          subst (λ (d : Credential). Memᴰ d (chosen P on)) (sym r.3) (chosen-mem P on P.count r.0 r.1 (still r.0 r.2))

      go : (j b : ℕ) → j < P.count → el on j ≡ 1 → body_at P j ≡ E.Entity b → (t : Bool) → eqb j i ≡ t → bits K' (row_of P (head_at P j)) (bit_of P b) ≡ true
      go j b m p w true z = let y : j ≡ i = eqb-true j i z in rw y (new.all b (rw y at w))
      go j b m p w false z =
          let o : el was j ≡ 1 = sym (get_or-set_other was i j 1 0 (eqb-false j i z)) ∙ (rw q at p) in
          new.kept.within _ _ (old.seeds j b m o w)

-- Credentials switched on one after another

-- none
pub switched-none : (low high : ℕ) (on : List ℕ) → high ≤ low → on ≡ switched low (high - low) on
unfolding switched
switched-none low high on l = let z : high - low ≡ zero = omega arith in rw z refl

-- one more
pub switched-next : (low i : ℕ) (was on now : List ℕ) → low ≤ i → on ≡ switched low (i - low) was → now ≡ set on i 1 → now ≡ switched low ((i + 1) - low) was
unfolding switched
switched-next low i was on now l q h =
    let z : (i + 1) - low ≡ suc (i - low) = omega arith in
    let y : low + (i - low) ≡ i = omega arith in
    rw z (rw y (rw (← q) h))

-- one alone
pub switched-one : (i : ℕ) (on now : List ℕ) → now ≡ switched i ((i + 1) - i) on → now ≡ set on i 1
unfolding switched
switched-one i on now h =
    let z : (i + 1) - i ≡ suc zero = omega arith in
    let y : i + zero ≡ i = omega arith in
    h ∙ (ap (λ (d : ℕ). switched i d on) z ∙ ap (λ (j : ℕ). set on j 1) y)

-- all of them
pub switched-end : (low i high : ℕ) (was on : List ℕ) → i ≤ high → high ≤ i → on ≡ switched low (i - low) was → on ≡ switched low (high - low) was
switched-end low i high was on l m q = let z : i ≡ high = omega arith in subst (λ (j : ℕ). on ≡ switched low (j - low) was) z q

-- The rows that a question starts from

module _ (P : Pool) (on K : List ℕ) (small : P.count ≤ 128) (rel : Relation P on K) (e : Expression) where
  -- the row of e itself
  pub asked-start : (r : ℕ) (N K₀ : List ℕ) → N ≡ replicate 260 0 → OwnRow P e r → Marked N r 0 K₀ → AskedTo P on K e 0 K₀
  asked-start r N K₀ none own m =
      record {
        sized = m.sized;
        says =
            λ q t z. ⊎_elim (λ y. absurd (no_bits 260 q t (rw none at y)))
            (λ y. ⊎_elim (λ w. inl (y.0 ∙ w)) (λ w. inr (rw y.0 w.0, rw y.0 (rw w.1 reflexive))) own.says) (m.says q t z);
        own = λ p q. rw (← own.own p q) m.here;
        seeds = λ i l. absurd (omega arith);
      }

  starts-parts : (i : ℕ) {b : Bool} → b ≡ starts_at P on K e i → b ≡ true → (el on i ≡ 1) × (at_once P K e (body_at P i) ≡ true)
  unfolding starts_at
  starts-parts i h k = let r = and_parts (eqb (el on i) 1) _ (sym h ∙ k) in (eqb-true (el on i) 1 r.0, r.1)

  -- credential k starts: its head's row is marked
  pub asked-add : (k r : ℕ) (K₀ K₁ : List ℕ) {b : Bool} → k < P.count → b ≡ starts_at P on K e k → b ≡ true → r ≡ row_of P (head_at P k)
      → Marked K₀ r 0 K₁ → AskedTo P on K e k K₀ → AskedTo P on K e (k + 1) K₁
  unfolding chosen
  asked-add k r K₀ K₁ l h w hr m inv =
      let s = starts-parts k h w in
      let f = row_here P small (head_at P k) k l refl in
      record {
        sized = m.sized;
        says = λ q t z. ⊎_elim (λ y. inv.says q t y)
            (λ y. inr (
              rw (y.0 ∙ hr) f.0,
              rw (y.0 ∙ hr)
                  (rw f.1 (transitive (credential (chosen-mem P on P.count k l s.0)) (once-says P on small K rel e (body_at P k) s.1))),
            ))
            (m.says q t z);
        own = λ p q. m.kept.within _ _ (inv.own p q);
        seeds = λ i n o a. go i n o a (eqb i k) refl;
      }
    where
      go : (i : ℕ) → i < k + 1 → el on i ≡ 1 → at_once P K e (body_at P i) ≡ true → (t : Bool) → eqb i k ≡ t → bits K₁ (row_of P (head_at P i)) 0 ≡ true
      go i n o a true z = rw (eqb-true i k z) (rw (← hr) m.here)
      go i n o a false z = m.kept.within _ _ (inv.seeds i (omega (arith, eqb-false i k z)) o a)

  -- credential k does not start
  pub asked-skip : (k : ℕ) (K₀ : List ℕ) {b : Bool} → b ≡ starts_at P on K e k → b ≡ false → AskedTo P on K e k K₀ → AskedTo P on K e (k + 1) K₀
  unfolding starts_at
  asked-skip k K₀ h w inv = record { sized = inv.sized; says = inv.says; own = inv.own; seeds = λ i n o a. go i n o a (eqb i k) refl }
    where
      go : (i : ℕ) → i < k + 1 → el on i ≡ 1 → at_once P K e (body_at P i) ≡ true → (t : Bool) → eqb i k ≡ t → bits K₀ (row_of P (head_at P i)) 0 ≡ true
      go i n o a true z =
          let y : i ≡ k = eqb-true i k z in
          absurd (false-true (sym (sym h ∙ w) ∙ and_both (eqb (el on k) 1) _ (eq-eqb (el on k) 1 (rw y at o)) (rw y at a)))
      go i n o a false z = inv.seeds i (omega (arith, eqb-false i k z)) o a

  -- all credentials looked at
  pub asked-end : (k : ℕ) (K₀ : List ℕ) → P.count ≤ k → AskedTo P on K e k K₀ → Asked P on K e K₀
  asked-end k K₀ l inv = record { sized = inv.sized; says = inv.says; own = inv.own; seeds = λ i n o a. inv.seeds i (omega arith) o a }

-- The rows of an entity, one after another

module _ (K : List ℕ) (s : ℕ) where
  -- none yet
  pub moved-start : Moved K s 0 (replicate 260 0)
  moved-start = record { sized = length-replicate {A = ℕ} 260 0; says = λ r t h. absurd (no_bits 260 r t h); all = λ r l h. absurd (omega arith) }

  -- row k has the bit
  pub moved-add : (k : ℕ) (L L' : List ℕ) {b : Bool} → b ≡ bits K k s → b ≡ true → Marked L k 0 L' → Moved K s k L → Moved K s (k + 1) L'
  moved-add k L L' h w m inv =
      record {
        sized = m.sized;
        says = λ r t z. ⊎_elim (λ y. inv.says r t y) (λ y. rw y.0 (sym h ∙ w)) (m.says r t z);
        all = λ r l z. go r l z (eqb r k) refl;
      }
    where
      go : (r : ℕ) → r < k + 1 → bits K r s ≡ true → (t : Bool) → eqb r k ≡ t → bits L' r 0 ≡ true
      go r l z true q = rw (eqb-true r k q) m.here
      go r l z false q = m.kept.within _ _ (inv.all r (omega (arith, eqb-false r k q)) z)

  -- row k does not have it
  pub moved-skip : (k : ℕ) (L : List ℕ) {b : Bool} → b ≡ bits K k s → b ≡ false → Moved K s k L → Moved K s (k + 1) L
  moved-skip k L h w inv = record { sized = inv.sized; says = inv.says; all = λ r l z. go r l z (eqb r k) refl }
    where
      go : (r : ℕ) → r < k + 1 → bits K r s ≡ true → (t : Bool) → eqb r k ≡ t → bits L r 0 ≡ true
      go r l z true q = absurd (false-true (sym (sym h ∙ w) ∙ (rw (eqb-true r k q) at z)))
      go r l z false q = inv.all r (omega (arith, eqb-false r k q)) z
