-- How tables of digits are filled, and what they find. Assumes nothing.
use Rattle.std.specs.Prelude.{ℕ, zero, suc, ◌+◌, ◌*◌, ◌/◌, ◌%◌, ◌≤◌, ◌<◌, ◌≡◌, refl, Bool, true, false, not, List, eqb, ltb, length, replicate}
use Rattle.std.proofs.Common.{arith, mod-lt, zero-lt-suc, ◌∙◌, ap, subst, eqb-true, ltb-true, ltb-false}
use Rattle.std.proofs.Math.Path.{sym}
use Rattle.std.proofs.lemmas.Bool.{eqb-false}
use Rattle.std.specs.Int.Bits.{bit_and}
use Rattle.std.proofs.lemmas.List.{length-replicate}
use Rattle.expression.specs.declared.Role.{Role}
use Rattle.expression.specs.laws.Same.{same_role-eq}
use Rattle.word.specs.laws.Bit.{bit_at, least, bit-and, bit-zero, none_below}
use Rattle.word.specs.laws.Bools.{false-true, and_parts, and_both}
use Rattle.rt0.specs.laws.Pool.{head_in}
use Rattle.closure.specs.laws.Rules.{el, bits, Within, Marked}
use Rattle.closure.specs.laws.Laws.{bit_is}
use Rattle.word.specs.laws.Search.{any_to, any_to-here}
use Rattle.rules.specs.laws.Table.{is_head_in, row_in, is_body_in, bit_in}
use Rattle.rules.specs.laws.Search.{first-at, first-none}
use Rattle.rules.specs.laws.Digits.{Held, shared, Noted, NoneBelow, HeadsIn, BodiesIn, Open}

-- a test that holds at no index below k holds nowhere
nowhere-to : (k : ℕ) (f : ℕ → Bool) → ((i : ℕ) → i < k → f i ≡ false) → any_to k f ≡ false
nowhere-to zero f h = refl
nowhere-to (suc k) f h = rw (nowhere-to k f (λ i l. h i (omega arith))) (h k (omega arith))

-- Filling

-- the rows of the three digits marked
pub noted : (x j : ℕ) (T T₁ T₂ T₃ : List ℕ) → Marked T (x % 64) j T₁ → Marked T₁ (64 + x / 64 % 32) j T₂ → Marked T₂ (96 + x / 2048 % 32) j T₃
    → Noted x j T T₃
noted x j T T₁ T₂ T₃ a b c =
    record {
      sized = c.sized;
      kept = record { within = λ r s h. c.kept.within r s (b.kept.within r s (a.kept.within r s h)) };
      here =
          record {
            low = c.kept.within _ _ (b.kept.within _ _ a.here);
            mid = c.kept.within _ _ b.here;
            high = c.here;
          };
    }

held_kept : (T T' : List ℕ) (x j : ℕ) → Within (bits T) (bits T') → Held T x j → Held T' x j
held_kept T T' x j w h = record { low = w.within _ _ h.low; mid = w.within _ _ h.mid; high = w.within _ _ h.high }

-- a number noted after those below k
held_next : (f : ℕ → ℕ) (x k : ℕ) (T T' : List ℕ) → x ≡ f k → Noted x k T T' → ((j : ℕ) → j < k → Held T (f j) j) → (j : ℕ) → j < k + 1 → Held T' (f j) j
held_next f x k T T' e n h j l = go (eqb j k) refl
  where
    go : (t : Bool) → eqb j k ≡ t → Held T' (f j) j
    go true q = let z : j ≡ k = eqb-true j k q in subst (λ (i : ℕ). Held T' (f i) i) (sym z) (subst (λ (y : ℕ). Held T' y k) e n.here)
    go false q = held_kept T T' (f j) j n.kept (h j (omega (arith, eqb-false j k q)))

pub heads-start : (H E N : List ℕ) → length E ≡ 260 → length N ≡ 260 → HeadsIn H 0 E N
heads-start H E N e n = record { sized = e; sized' = n; entity = λ j l. absurd (omega arith); name = λ j l. absurd (omega arith) }

pub heads-add : (H : List ℕ) (k x y : ℕ) (E E' N N' : List ℕ) → x ≡ el H (k * 2) → y ≡ el H (k * 2 + 1) → Noted x k E E' → Noted y k N N'
    → HeadsIn H k E N → HeadsIn H (k + 1) E' N'
heads-add H k x y E E' N N' e f a b inv =
    record {
      sized = a.sized;
      sized' = b.sized;
      entity = held_next (λ (j : ℕ). el H (j * 2)) x k E E' e a inv.entity;
      name = held_next (λ (j : ℕ). el H (j * 2 + 1)) y k N N' f b inv.name;
    }

pub heads-end : (H : List ℕ) (k n : ℕ) (E N : List ℕ) → k ≤ n → n ≤ k → HeadsIn H k E N → HeadsIn H n E N
heads-end H k n E N l g inv = let z : k ≡ n = omega arith in subst (λ (i : ℕ). HeadsIn H i E N) z inv

pub bodies-start : (K N T : List ℕ) → length T ≡ 260 → BodiesIn K N 0 T
bodies-start K N T e = record { sized = e; body = λ j l. absurd (omega arith) }

pub bodies-add : (K N : List ℕ) (k x : ℕ) (T T' : List ℕ) → x ≡ el N (k * 8) → Noted x k T T' → BodiesIn K N k T → BodiesIn K N (k + 1) T'
bodies-add K N k x T T' e n inv = record { sized = n.sized; body = λ j l h. go j l h (eqb j k) refl }
  where
    go : (j : ℕ) → j < k + 1 → el K (j * 2) ≡ 1 → (t : Bool) → eqb j k ≡ t → Held T' (el N (j * 8)) j
    go j l h true q =
        let z : j ≡ k = eqb-true j k q in
        subst (λ (i : ℕ). Held T' (el N (i * 8)) i) (sym z) (subst (λ (y : ℕ). Held T' y k) e n.here)
    go j l h false q = held_kept T T' (el N (j * 8)) j n.kept (inv.body j (omega (arith, eqb-false j k q)) h)

pub bodies-skip : (K N : List ℕ) (k : ℕ) (T : List ℕ) → (el K (k * 2) ≡ 1 → ⊥) → BodiesIn K N k T → BodiesIn K N (k + 1) T
bodies-skip K N k T other inv = record { sized = inv.sized; body = λ j l h. go j l h (eqb j k) refl }
  where
    go : (j : ℕ) → j < k + 1 → el K (j * 2) ≡ 1 → (t : Bool) → eqb j k ≡ t → Held T (el N (j * 8)) j
    go j l h true q = absurd (other (subst (λ (i : ℕ). el K (i * 2) ≡ 1) (eqb-true j k q) h))
    go j l h false q = inv.body j (omega (arith, eqb-false j k q)) h

pub bodies-end : (K N : List ℕ) (k n : ℕ) (T : List ℕ) → k ≤ n → n ≤ k → BodiesIn K N k T → BodiesIn K N n T
bodies-end K N k n T l g inv = let z : k ≡ n = omega arith in subst (λ (i : ℕ). BodiesIn K N i T) z inv

-- Finding

-- the least number of the first word
pub below-low : (lo hi r : ℕ) → r < 64 → r ≡ least lo → NoneBelow lo hi r
below-low lo hi r l e =
    record {
      low = λ i h q. none_below lo (i % 64) (omega (arith, e));
      high = λ i h q. absurd (omega arith);
    }

-- the first word is empty, and this is the least number of the second
pub below-high : (lo hi r : ℕ) → lo ≡ 0 → r ≡ least hi → NoneBelow lo hi (64 + r)
below-high lo hi r z e =
    record {
      low = λ i h q. ap (λ (x : ℕ). bit_at x (i % 64)) z ∙ bit-zero (i % 64);
      high = λ i h q. none_below hi (i % 64) (omega (arith, e));
    }

-- both words are empty
pub below_none : (lo hi : ℕ) → lo ≡ 0 → hi ≡ 0 → NoneBelow lo hi 128
below_none lo hi y z =
    record {
      low = λ i h q. ap (λ (x : ℕ). bit_at x (i % 64)) y ∙ bit-zero (i % 64);
      high = λ i h q. ap (λ (x : ℕ). bit_at x (i % 64)) z ∙ bit-zero (i % 64);
    }

-- a credential in the rows of the digits is in what they share
held-shared : (T : List ℕ) (x j h : ℕ) → j < 128 → j / 64 ≡ h → Held T x j → bit_at (shared T x h) (j % 64) ≡ true
unfolding shared
held-shared T x j h l e d =
    let a = word (x % 64) d.low in
    let b = word (64 + x / 64 % 32) d.mid in
    let c = word (96 + x / 2048 % 32) d.high in
    bit-and _ _ (j % 64) ∙ and_both _ _ (bit-and _ _ (j % 64) ∙ and_both _ _ a b) c
  where
    word : (r : ℕ) → bits T r j ≡ true → bit_at (el T (r * 2 + h)) (j % 64) ≡ true
    word r b = subst (λ (y : ℕ). bit_at (el T (r * 2 + y)) (j % 64) ≡ true) e (bit_is T r j l ∙ b)

-- the words that have each credential with a number have none of them below r
none-held : (lo hi r i : ℕ) → NoneBelow lo hi r → i < 128 → (i / 64 ≡ 0 → bit_at lo (i % 64) ≡ true) → (i / 64 ≡ 1 → bit_at hi (i % 64) ≡ true) → i < r → ⊥
none-held lo hi r i none l a b h = go (ltb i 64) refl
  where
    go : (t : Bool) → ltb i 64 ≡ t → ⊥
    go true q = let m : i < 64 = ltb-true i 64 q in let z : i / 64 ≡ 0 = omega arith in false-true (sym (none.low i h z) ∙ a z)
    go false q = let m : 64 ≤ i = ltb-false i 64 q in let z : i / 64 ≡ 1 = omega arith in false-true (sym (none.high i h z) ∙ b z)

module _ (n : ℕ) (small : n ≤ 128) where
  module _ (H : List ℕ) (p : Role) (E N : List ℕ) (lo hi r : ℕ) (tables : HeadsIn H n E N)
      (low : lo ≡ bit_and (shared E p.entity 0) (shared N p.name 0)) (high : hi ≡ bit_and (shared E p.entity 1) (shared N p.name 1))
      (none : NoneBelow lo hi r) where
    no-head : (i : ℕ) → i < n → i < r → is_head_in H p i ≡ false
    no-head i l h = go (is_head_in H p i) refl
      where
        go : (t : Bool) → is_head_in H p i ≡ t → is_head_in H p i ≡ false
        go false q = q
        go true q =
            let z : head_in H i ≡ p = same_role-eq (head_in H i) p q in
            let m : i < 128 = omega arith in
            let a : Held E p.entity i = subst (λ (s : Role). Held E s.entity i) z (tables.entity i l) in
            let b : Held N p.name i = subst (λ (s : Role). Held N s.name i) z (tables.name i l) in
            absurd (none-held lo hi r i none m
            (λ e. ap (λ (w : ℕ). bit_at w (i % 64)) low
            ∙ (bit-and _ _ (i % 64) ∙ and_both _ _ (held-shared E p.entity i 0 m e a) (held-shared N p.name i 0 m e b)))
            (λ e. ap (λ (w : ℕ). bit_at w (i % 64)) high
            ∙ (bit-and _ _ (i % 64) ∙ and_both _ _ (held-shared E p.entity i 1 m e a) (held-shared N p.name i 1 m e b))) h)

    -- the tables find no credential
    pub row-missed : n ≤ r → 128 ≡ row_in n H p
    unfolding row_in
    row-missed g = sym (first-none n (is_head_in H p) (nowhere-to n (is_head_in H p) (λ i l. no-head i l (omega arith))))

    -- the tables find credential r
    pub row-hit : {b : Bool} → r < n → b ≡ is_head_in H p r → b ≡ true → r ≡ row_in n H p
    unfolding row_in
    row-hit g e t = first-at n (is_head_in H p) r g (nowhere-to r (is_head_in H p) (λ i l. no-head i (omega arith) l)) e t

  module _ (K N : List ℕ) (b : ℕ) (T : List ℕ) (lo hi r : ℕ) (table : BodiesIn K N n T) (low : lo ≡ shared T b 0)
      (high : hi ≡ shared T b 1) (none : NoneBelow lo hi r) where
    no_body : (i : ℕ) → i < n → i < r → is_body_in K N b i ≡ false
    no_body i l h = go (is_body_in K N b i) refl
      where
        go : (t : Bool) → is_body_in K N b i ≡ t → is_body_in K N b i ≡ false
        go false q = q
        go true q =
            let z = and_parts (eqb (el K (i * 2)) 1) (eqb (el N (i * 8)) b) q in
            let m : i < 128 = omega arith in
            let a : Held T b i = subst (λ (x : ℕ). Held T x i) (eqb-true _ b z.1) (table.body i l (eqb-true _ 1 z.0)) in
            absurd (none-held lo hi r i none m (λ e. ap (λ (w : ℕ). bit_at w (i % 64)) low ∙ held-shared T b i 0 m e a)
            (λ e. ap (λ (w : ℕ). bit_at w (i % 64)) high ∙ held-shared T b i 1 m e a) h)

    pub bit-missed : n ≤ r → 128 ≡ bit_in n K N b
    unfolding bit_in
    bit-missed g = sym (first-none n (is_body_in K N b) (nowhere-to n (is_body_in K N b) (λ i l. no_body i l (omega arith))))

    pub bit-hit : {t : Bool} → r < n → t ≡ is_body_in K N b r → t ≡ true → r ≡ bit_in n K N b
    unfolding bit_in
    bit-hit g e t = first-at n (is_body_in K N b) r g (nowhere-to r (is_body_in K N b) (λ i l. no_body i (omega arith) l)) e t

-- A table that rules nothing out

all_set : any_to 64 (λ (k : ℕ). not (bit_at 18446744073709551615 k)) ≡ false
unfolding bit_at
all_set = refl

full : (i : ℕ) → i < 64 → bit_at 18446744073709551615 i ≡ true
full i l = go (bit_at 18446744073709551615 i) refl
  where
    go : (t : Bool) → bit_at 18446744073709551615 i ≡ t → bit_at 18446744073709551615 i ≡ true
    go true q = q
    go false q = absurd (false-true (sym all_set ∙ any_to-here 64 (λ (k : ℕ). not (bit_at 18446744073709551615 k)) i l (ap not q)))

repeated-at : (n v i : ℕ) → i < n → el (replicate n v) i ≡ v
repeated-at zero v i l = absurd (omega arith)
repeated-at (suc n) v zero l = refl
repeated-at (suc n) v (suc i) l = repeated-at n v i (omega arith)

pub open-start : Open (replicate 260 18446744073709551615)
open-start =
    record {
      sized = length-replicate {A = ℕ} 260 18446744073709551615;
      all = λ r j l m.
          sym (bit_is (replicate 260 18446744073709551615) r j m)
          ∙ (ap (λ (x : ℕ). bit_at x (j % 64)) (repeated-at 260 18446744073709551615 (r * 2 + j / 64) (omega arith))
          ∙ full (j % 64) (mod-lt j (zero-lt-suc 63)));
    }

open-held : (T : List ℕ) (x j : ℕ) → j < 128 → Open T → Held T x j
open-held T x j l o = record { low = o.all _ j (omega arith) l; mid = o.all _ j (omega arith) l; high = o.all _ j (omega arith) l }

pub open-heads : (H : List ℕ) (k : ℕ) (T : List ℕ) → k ≤ 128 → Open T → HeadsIn H k T T
open-heads H k T l o =
    record {
      sized = o.sized;
      sized' = o.sized;
      entity = λ j m. open-held T (el H (j * 2)) j (omega arith) o;
      name = λ j m. open-held T (el H (j * 2 + 1)) j (omega arith) o;
    }

pub open-bodies : (K N : List ℕ) (k : ℕ) (T : List ℕ) → k ≤ 128 → Open T → BodiesIn K N k T
open-bodies K N k T l o = record { sized = o.sized; body = λ j m h. open-held T (el N (j * 8)) j (omega arith) o }
