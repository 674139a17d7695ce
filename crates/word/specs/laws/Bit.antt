-- A word as a set of numbers: the bits of the operations on words. Assumes nothing.
use Rattle.std.specs.Prelude.{ℕ, zero, suc, ◌+◌, ◌*◌, ◌-◌, ◌/◌, ◌%◌, ◌^◌, ◌≤◌, ◌<◌, ◌≡◌, refl, eqb, ltb}
use Rattle.std.proofs.Common.{mod-lt, div-one, add-zero, mul-one, one-mul, div-lt_iff_lt-mul, zero-lt-suc, pow-suc, mul_assoc, suc-mul, lt_of_lt_of_le, arith, sym, ◌∙◌, ap, ap₂, subst, pow-add, pow_pos, pow_mono}
use Rattle.std.proofs.Math.Nat.{zero-div, div-eq_of_lt, div-div-eq-div-mul, pow-succ', mul-mod_left}
use mathlib.Core.Bool.{Bool, true, false, ◌&&◌, ◌||◌, not}
use borrow.Author.Tests.{eqb-true, eq-eqb, ne_eqb}
use Rattle.std.proofs.Math.Pow.{pow-lt, split}
use Rattle.std.proofs.lemmas.Nat.{shl-shr, and_shr, or_shr, xor_shr, and_mod, or_mod, xor_mod, and_le_r, and_block, and_mask}
use Rattle.std.specs.Int.Count.{count_trailing_zeros, under}
use Rattle.std.specs.Int.Bits.{bit_and, bit_or, bit_xor, or_add_and, xor_add_and, and_zero_r, and_self}
use Rattle.word.specs.laws.Bools.{false-true}

-- whether i is in the set w
unfoldable pub bit_at : ℕ → ℕ → Bool
bit_at w i = eqb (w / 2 ^ i % 2) 1

-- the set of i alone
unfoldable pub only : ℕ → ℕ
only i = 2 ^ i

unfoldable pub without : ℕ → ℕ → ℕ
without m i = bit_xor m (2 ^ i)

-- the least number of a set that is not empty
unfoldable pub least : ℕ → ℕ
least m = count_trailing_zeros 64 m

or-digit : (x y : ℕ) → x < 2 → y < 2 → eqb (bit_or x y) 1 ≡ (eqb x 1 || eqb y 1)
or-digit zero y h k = refl
or-digit (suc zero) zero h k = refl
or-digit (suc zero) (suc zero) h k = refl
or-digit (suc zero) (suc (suc y)) h k = absurd (omega arith)
or-digit (suc (suc x)) y h k = absurd (omega arith)

and-digit : (x y : ℕ) → x < 2 → y < 2 → eqb (bit_and x y) 1 ≡ (eqb x 1 && eqb y 1)
and-digit zero y h k = refl
and-digit (suc zero) zero h k = refl
and-digit (suc zero) (suc zero) h k = refl
and-digit (suc zero) (suc (suc y)) h k = absurd (omega arith)
and-digit (suc (suc x)) y h k = absurd (omega arith)

xor-digit : (x y : ℕ) → x < 2 → y < 2 → eqb (bit_xor x y) 1 ≡ not (mathlib.Core.Bool.beq (eqb x 1) (eqb y 1))
xor-digit zero zero h k = refl
xor-digit zero (suc zero) h k = refl
xor-digit zero (suc (suc y)) h k = absurd (omega arith)
xor-digit (suc zero) zero h k = refl
xor-digit (suc zero) (suc zero) h k = refl
xor-digit (suc zero) (suc (suc y)) h k = absurd (omega arith)
xor-digit (suc (suc x)) y h k = absurd (omega arith)

pub bit-or : (a b i : ℕ) → bit_at (bit_or a b) i ≡ (bit_at a i || bit_at b i)
unfolding bit_at
bit-or a b i =
    ap (λ (x : ℕ). eqb (x % 2) 1) (or_shr a b i) ∙ ap (λ (x : ℕ). eqb x 1) (or_mod (a / 2 ^ i) (b / 2 ^ i) 1)
    ∙ or-digit (a / 2 ^ i % 2) (b / 2 ^ i % 2) (mod-lt _ (zero-lt-suc 1)) (mod-lt _ (zero-lt-suc 1))

pub bit-and : (a b i : ℕ) → bit_at (bit_and a b) i ≡ (bit_at a i && bit_at b i)
unfolding bit_at
bit-and a b i =
    ap (λ (x : ℕ). eqb (x % 2) 1) (and_shr a b i) ∙ ap (λ (x : ℕ). eqb x 1) (and_mod (a / 2 ^ i) (b / 2 ^ i) 1)
    ∙ and-digit (a / 2 ^ i % 2) (b / 2 ^ i % 2) (mod-lt _ (zero-lt-suc 1)) (mod-lt _ (zero-lt-suc 1))

bit-xor : (a b i : ℕ) → bit_at (bit_xor a b) i ≡ not (mathlib.Core.Bool.beq (bit_at a i) (bit_at b i))
unfolding bit_at
bit-xor a b i =
    ap (λ (x : ℕ). eqb (x % 2) 1) (xor_shr a b i) ∙ ap (λ (x : ℕ). eqb x 1) (xor_mod (a / 2 ^ i) (b / 2 ^ i) 1)
    ∙ xor-digit (a / 2 ^ i % 2) (b / 2 ^ i % 2) (mod-lt _ (zero-lt-suc 1)) (mod-lt _ (zero-lt-suc 1))

pub bit-zero : (i : ℕ) → bit_at 0 i ≡ false
unfolding bit_at
bit-zero i = ap (λ (x : ℕ). eqb (x % 2) 1) (zero-div (2 ^ i))

-- a word below 2 ^ k has no number from k on
pub bit-small : (w k i : ℕ) → w < 2 ^ k → bit_at w i ≡ true → i < k
unfolding bit_at
bit-small w k i h b = go (ltb i k) refl
  where
    go : (t : Bool) → ltb i k ≡ t → i < k
    go true e = borrow.Author.Tests.ltb-true i k e
    go false e =
        let l : k ≤ i = borrow.Author.Tests.ltb-false i k e in
        absurd (false-true (sym (ap (λ (x : ℕ). eqb (x % 2) 1) (div-eq_of_lt (lt_of_lt_of_le h (pow_mono l)))) ∙ b))

bit-only-same : (i : ℕ) → bit_at (2 ^ i) i ≡ true
unfolding bit_at
bit-only-same i = ap (λ (x : ℕ). eqb (x / 2 ^ i % 2) 1) (sym (one-mul (2 ^ i))) ∙ ap (λ (x : ℕ). eqb (x % 2) 1) (shl-shr 1 i)

bit-only-above : (d i : ℕ) → bit_at (2 ^ (suc d + i)) i ≡ false
unfolding bit_at
bit-only-above d i =
    ap (λ (x : ℕ). eqb (x / 2 ^ i % 2) 1) (pow-add 2 (suc d) i) ∙ ap (λ (x : ℕ). eqb (x % 2) 1) (shl-shr (2 ^ suc d) i)
    ∙ ap (λ (x : ℕ). eqb (x % 2) 1) (pow-suc 2 d) ∙ ap (λ (x : ℕ). eqb x 1) (mul-mod_left (2 ^ d) 2)

bit-only-below : (i k : ℕ) → k < i → bit_at (2 ^ k) i ≡ false
unfolding bit_at
bit-only-below i k h = ap (λ (x : ℕ). eqb (x % 2) 1) (div-eq_of_lt (pow-lt h))

pub bit-only : (i k : ℕ) → bit_at (only i) k ≡ eqb k i
unfolding only
bit-only i k = go (ltb k i) (ltb i k) refl refl
  where
    go : (t u : Bool) → ltb k i ≡ t → ltb i k ≡ u → bit_at (2 ^ i) k ≡ eqb k i
    go true u e f =
        let l : k < i = borrow.Author.Tests.ltb-true k i e in
        let d : suc (i - suc k) + k ≡ i = omega arith in
        subst (λ (x : ℕ). bit_at (2 ^ x) k ≡ false) d (bit-only-above (i - suc k) k) ∙ sym (ne_eqb k i (λ q. omega arith))
    go false true e f =
        let l : i < k = borrow.Author.Tests.ltb-true i k f in
        bit-only-below k i l ∙ sym (ne_eqb k i (λ q. omega arith))
    go false false e f =
        let l : i ≤ k = borrow.Author.Tests.ltb-false k i e in
        let m : k ≤ i = borrow.Author.Tests.ltb-false i k f in
        let q : k ≡ i = omega arith in
        rw q (bit-only-same i ∙ sym (eq-eqb i i refl))

pub bit-without : (m i k : ℕ) → bit_at (without m i) k ≡ not (mathlib.Core.Bool.beq (bit_at m k) (eqb k i))
unfolding without only
bit-without m i k = bit-xor m (2 ^ i) k ∙ ap (λ (x : Bool). not (mathlib.Core.Bool.beq (bit_at m k) x)) (bit-only i k)

-- what is left after a number is taken out
pub without_sub : (m i k : ℕ) → bit_at m i ≡ true → bit_at (without m i) k ≡ true → bit_at m k ≡ true
without_sub m i k h b = go (bit_at m k) (eqb k i) refl refl (sym (bit-without m i k) ∙ b)
  where
    go : (t u : Bool) → bit_at m k ≡ t → eqb k i ≡ u → not (mathlib.Core.Bool.beq t u) ≡ true → bit_at m k ≡ true
    go true u e f q = e
    go false true e f q = rw (eqb-true k i f) h
    go false false e f q = absurd (false-true q)

-- a number that is taken out of m is i
pub without_gone : (m i k : ℕ) → bit_at m k ≡ true → bit_at (without m i) k ≡ false → k ≡ i
without_gone m i k h b = go (eqb k i) refl (sym (ap (λ (x : Bool). not (mathlib.Core.Bool.beq x (eqb k i))) h) ∙ sym (bit-without m i k) ∙ b)
  where
    go : (u : Bool) → eqb k i ≡ u → not (mathlib.Core.Bool.beq true u) ≡ false → k ≡ i
    go true f q = eqb-true k i f
    go false f q = absurd (false-true (sym q))

and-only : (m i : ℕ) → bit_at m i ≡ true → bit_and m (2 ^ i) ≡ 2 ^ i
unfolding bit_at
and-only m i h =
    let q : m / 2 ^ i % 2 ≡ 1 = eqb-true (m / 2 ^ i % 2) 1 h in
    ap₂ bit_and (sym (split m i)) (sym (add-zero (1 * 2 ^ i) ∙ one-mul (2 ^ i)))
    ∙ and_block i (m / 2 ^ i) 1 (m % 2 ^ i) 0 (mod-lt m (pow_pos i)) (pow_pos i)
    ∙ ap₂ (λ (x y : ℕ). x * 2 ^ i + y) (and_mask (m / 2 ^ i) 1 ∙ q) (and_zero_r (m % 2 ^ i))
    ∙ add-zero (1 * 2 ^ i) ∙ one-mul (2 ^ i)

pub without-less : (m i : ℕ) → bit_at m i ≡ true → without m i < m
unfolding without
without-less m i h = omega (arith, xor_add_and m (2 ^ i), and-only m i h, pow_pos i)

-- the lowest number of a set
half_pos : (q : ℕ) → 0 < q → q % 2 ≡ 0 → 0 < q / 2
half_pos q h e = omega arith

is_one : (q r : ℕ) → q % 2 ≡ suc r → q % 2 ≡ 1
is_one q r e = omega arith

none_below_one : (q : ℕ) → 0 < q → q < 1 → ⊥
none_below_one q h k = omega arith

tz_odd : (d q : ℕ) → 0 < q → q < 2 ^ d → q / 2 ^ count_trailing_zeros d q % 2 ≡ 1
unfolding count_trailing_zeros
tz_odd zero q h k = absurd (none_below_one q h k)
tz_odd (suc d) q h k =
    go (q % 2) refl (λ (e : q % 2 ≡ 0). tz_odd d (q / 2) (half_pos q h e) ((div-lt_iff_lt-mul (zero-lt-suc 1)).1 (subst (λ (x : ℕ). q < x) (pow-suc 2 d) k)))
  where
    go : (r : ℕ) → q % 2 ≡ r → (q % 2 ≡ 0 → q / 2 / 2 ^ count_trailing_zeros d (q / 2) % 2 ≡ 1) → q / 2 ^ under r (count_trailing_zeros d (q / 2)) % 2 ≡ 1
    go zero e ih =
        let t = count_trailing_zeros d (q / 2) in
        ap (λ (x : ℕ). x % 2) (ap (λ (x : ℕ). q / x) (pow-succ' 2 t) ∙ sym (div-div-eq-div-mul q 2 (2 ^ t))) ∙ ih e
    go (suc r) e ih = ap (λ (x : ℕ). x % 2) (div-one q) ∙ is_one q r e

pub lowest-in : (q : ℕ) → 0 < q → q < 2 ^ 64 → (count_trailing_zeros 64 q < 64) × (bit_at q (count_trailing_zeros 64 q) ≡ true) × (count_trailing_zeros 64 q ≡ least q)
unfolding bit_at least
lowest-in q h k =
    let b : bit_at q (count_trailing_zeros 64 q) ≡ true = eq-eqb _ 1 (tz_odd 64 q h k) in
    (bit-small q 64 (count_trailing_zeros 64 q) k b, b, refl)

tz-mul : (d q : ℕ) → (a : ℕ) × (q ≡ a * 2 ^ count_trailing_zeros d q)
unfolding count_trailing_zeros
tz-mul zero q = (q, sym (mul-one q))
tz-mul (suc d) q = go (q % 2) refl (tz-mul d (q / 2))
  where
    go : (r : ℕ) → q % 2 ≡ r → (a : ℕ) × (q / 2 ≡ a * 2 ^ count_trailing_zeros d (q / 2)) → (a : ℕ) × (q ≡ a * 2 ^ under r (count_trailing_zeros d (q / 2)))
    go zero e ih =
        let t = count_trailing_zeros d (q / 2) in
        let z : q ≡ q / 2 * 2 = omega arith in
        (ih.0, z ∙ ap (λ (x : ℕ). x * 2) ih.1 ∙ mul_assoc ih.0 (2 ^ t) 2 ∙ ap (λ (x : ℕ). ih.0 * x) (sym (pow-suc 2 t)))
    go (suc r) e ih = (q, sym (mul-one q))

-- a set has no number below its least
pub none_below : (m i : ℕ) → i < least m → bit_at m i ≡ false
unfolding bit_at least
none_below m i l =
    let t = count_trailing_zeros 64 m in
    let a = (tz-mul 64 m).0 in
    let d = t - suc i in
    let s : t ≡ suc d + i = omega arith in
    let p : 2 ^ t ≡ 2 ^ d * 2 * 2 ^ i = ap (λ (x : ℕ). 2 ^ x) s ∙ pow-add 2 (suc d) i ∙ ap (λ (x : ℕ). x * 2 ^ i) (pow-suc 2 d) in
    let q : m ≡ a * 2 ^ d * 2 * 2 ^ i =
    (tz-mul 64 m).1 ∙ ap (λ (x : ℕ). a * x) p ∙ sym (mul_assoc a (2 ^ d * 2) (2 ^ i)) ∙ ap (λ (x : ℕ). x * 2 ^ i) (sym (mul_assoc a (2 ^ d) 2)) in
    ap (λ (x : ℕ). eqb (x / 2 ^ i % 2) 1) q ∙ ap (λ (x : ℕ). eqb (x % 2) 1) (shl-shr (a * 2 ^ d * 2) i) ∙ ap (λ (x : ℕ). eqb x 1) (mul-mod_left (a * 2 ^ d) 2)

-- an odd number and the even one below it
and-even : (b : ℕ) → suc b % 2 ≡ 1 → bit_and (suc b) b ≡ b
and-even b e =
    let h = b / 2 in
    let z : suc b ≡ h * 2 ^ 1 + 1 = omega arith in
    let y : b ≡ h * 2 ^ 1 + 0 = omega arith in
    ap₂ bit_and z y ∙ and_block 1 h h 1 0 (omega arith) (omega arith) ∙ ap (λ (x : ℕ). x * 2 ^ 1 + 0) (and_self h) ∙ sym y

and-less : (q a t : ℕ) → q ≡ a * 2 ^ t → a % 2 ≡ 1 → bit_and q (q - 1) + 2 ^ t ≡ q
and-less q zero t e odd = absurd (omega arith)
and-less q (suc b) t e odd =
    let p = 2 ^ t in
    let l : 0 < p = pow_pos t in
    let m : suc b * p ≡ b * p + p = omega (arith, suc-mul b p) in
    let y : q - 1 ≡ b * p + (p - 1) = omega (arith, e, m, l) in
    let z : bit_and q (q - 1) ≡ b * p + 0 =
    ap₂ bit_and (e ∙ sym (add-zero (suc b * p))) y ∙ and_block t (suc b) b 0 (p - 1) l (omega (arith, l))
    ∙ ap (λ (x : ℕ). x * p + 0) (and-even b odd) in
    omega (arith, z, e, m)

pub others-is : (q : ℕ) → 0 < q → q < 2 ^ 64 → bit_and q (q - 1) ≡ without q (least q)
unfolding least without
others-is q h k =
    let t = count_trailing_zeros 64 q in
    let a = (tz-mul 64 q).0 in
    let e : q ≡ a * 2 ^ t = (tz-mul 64 q).1 in
    let odd : a % 2 ≡ 1 = ap (λ (x : ℕ). x % 2) (sym (shl-shr a t) ∙ ap (λ (x : ℕ). x / 2 ^ t) (sym e)) ∙ tz_odd 64 q h k in
    omega (arith, and-less q a t e odd, xor_add_and q (2 ^ t), and-only q t (lowest-in q h k).1)

-- a set that takes in more is a greater number
pub or-more : (a b : ℕ) → a ≤ bit_or a b
or-more a b = omega (arith, or_add_and a b, and_le_r a b)

pub test-is : (w i : ℕ) → bit_and (w / 2 ^ i) 1 ≡ w / 2 ^ i % 2
test-is w i = and_mask (w / 2 ^ i) 1
