-- The bytes of an expression: what was written is read back, and what is read is what writing yields.
use Rattle.std.specs.Prelude.{ℕ, zero, suc, ◌+◌, ◌*◌, ◌/◌, ◌%◌, ◌<◌, ◌≤◌, ◌≡◌, refl, List, [], ◌∷◌, ◌++◌, true, length, get_or, take, drop, Some}
use Rattle.std.proofs.Common.{sym, ap, ◌∙◌, append_assoc, arith, add-zero, add_assoc, div-add-mod', length-append, length-take-le, drop-drop, get_or-append-add, drop-cons}
use Rattle.std.proofs.Math.ListN.{get_or-append}
use Rattle.std.proofs.Math.Seq.{take-length, length_paste_head}
use Rattle.std.proofs.lemmas.List.Edits.{take-paste, drop-paste}
use Rattle.expression.specs.declared.Raw.{Raw}
use Rattle.expression.specs.declared.Expression.{Expression}
use Rattle.expression.specs.Bytes.{raw_at, raw_bytes, number_at, pasted}
use Rattle.expression.specs.Form.{raw_of, well_formed, form_of, read_of}
use Rattle.expression.specs.laws.Laws.{complete, canonical}

module _ (d s : List ℕ) (at : ℕ) (room : at + length s ≤ length d) where
  -- a byte that was copied
  pub get_d-paste : (i : ℕ) → i < length s → get_or (pasted d at s) (at + i) 0 ≡ get_or s i 0
  get_d-paste i h =
      let e : length (take at d ++ take (length s) s) ≡ at + length s = length_paste_head d at s (length s) (omega arith) (omega arith) in
      get_or-append (take at d ++ take (length s) s) (drop (at + length s) d) 0 (at + i) (omega arith)
      ∙ ap (λ (k : ℕ). get_or (take at d ++ take (length s) s) (k + i) 0) (sym (length-take-le at d (omega arith)))
      ∙ get_or-append-add (take at d) (take (length s) s) i 0
      ∙ ap (λ (l : List ℕ). get_or l i 0) (take-length s)

  -- a number whose two bytes were copied
  pub number-paste : (i : ℕ) → i + 1 < length s → number_at (pasted d at s) (at + i) ≡ get_or s i 0 * 256 + get_or s (i + 1) 0
  number-paste i h =
      let high : get_or (pasted d at s) (at + i) 0 ≡ get_or s i 0 = get_d-paste i (omega arith) in
      let low : get_or (pasted d at s) (at + (i + 1)) 0 ≡ get_or s (i + 1) 0 = get_d-paste (i + 1) h in
      rw (add_assoc at i 1, high, low)

-- two copies side by side are one
pub paste-paste : (d : List ℕ) (at : ℕ) (xs ys : List ℕ) → at + length xs + length ys ≤ length d
    → pasted (pasted d at xs) (at + length xs) ys ≡ pasted d at (xs ++ ys)
paste-paste d at xs ys h =
    let n : ℕ = at + length xs in
    let head : take n (pasted d at xs) ≡ take at d ++ xs
    = take-paste d at xs (length xs) (omega arith) (omega arith) ∙ ap (λ (l : List ℕ). take at d ++ l) (take-length xs) in
    let e : n + length ys ≡ at + length (xs ++ ys) = omega (arith, length-append xs ys) in
    let rest : drop (n + length ys) (pasted d at xs) ≡ drop (at + length (xs ++ ys)) d
    = sym (drop-drop (length ys) n (pasted d at xs))
    ∙ ap (drop (length ys)) (drop-paste d at xs (length xs) (omega arith) (omega arith))
    ∙ drop-drop (length ys) n d
    ∙ ap (λ (k : ℕ). drop k d) e in
    (λ j. head j ++ take-length ys j ++ rest j)
    ∙ ap (λ (l : List ℕ). l ++ drop (at + length (xs ++ ys)) d) (append_assoc (take at d) xs ys)
    ∙ ap (λ (l : List ℕ). take at d ++ l ++ drop (at + length (xs ++ ys)) d) (sym (take-length (xs ++ ys)))

-- an expression's numbers are read back from where they were written
pub raw-back : (d : List ℕ) (at : ℕ) (r : Raw) → at + 18 ≤ length d → raw_at (pasted d at (raw_bytes r)) at ≡ r
raw-back d at r room =
    let num : (i : ℕ) → i + 1 < 18 → number_at (pasted d at (raw_bytes r)) (at + i) ≡ get_or (raw_bytes r) i 0 * 256 + get_or (raw_bytes r) (i + 1) 0
    = number-paste d (raw_bytes r) at room in
    let k : get_or (pasted d at (raw_bytes r)) at 0 ≡ r.kind
    = ap (λ (j : ℕ). get_or (pasted d at (raw_bytes r)) j 0) (sym (add-zero at)) ∙ get_d-paste d (raw_bytes r) at room 0 (omega arith) in
    let c : get_or (pasted d at (raw_bytes r)) (at + 1) 0 ≡ r.count = get_d-paste d (raw_bytes r) at room 1 (omega arith) in
    let h0 : number_at (pasted d at (raw_bytes r)) (at + 2) ≡ r.n0 = num 2 (omega arith) ∙ div-add-mod' r.n0 256 in
    let h1 : number_at (pasted d at (raw_bytes r)) (at + 4) ≡ r.n1 = num 4 (omega arith) ∙ div-add-mod' r.n1 256 in
    let h2 : number_at (pasted d at (raw_bytes r)) (at + 6) ≡ r.n2 = num 6 (omega arith) ∙ div-add-mod' r.n2 256 in
    let h3 : number_at (pasted d at (raw_bytes r)) (at + 8) ≡ r.n3 = num 8 (omega arith) ∙ div-add-mod' r.n3 256 in
    let h4 : number_at (pasted d at (raw_bytes r)) (at + 10) ≡ r.n4 = num 10 (omega arith) ∙ div-add-mod' r.n4 256 in
    let h5 : number_at (pasted d at (raw_bytes r)) (at + 12) ≡ r.n5 = num 12 (omega arith) ∙ div-add-mod' r.n5 256 in
    let h6 : number_at (pasted d at (raw_bytes r)) (at + 14) ≡ r.n6 = num 14 (omega arith) ∙ div-add-mod' r.n6 256 in
    let h7 : number_at (pasted d at (raw_bytes r)) (at + 16) ≡ r.n7 = num 16 (omega arith) ∙ div-add-mod' r.n7 256 in
    λ i. record { kind = k i; count = c i; n0 = h0 i; n1 = h1 i; n2 = h2 i; n3 = h3 i; n4 = h4 i; n5 = h5 i; n6 = h6 i; n7 = h7 i }

-- a well-formed expression is read back from where it was written
pub read-write : (d : List ℕ) (at : ℕ) (e : Expression) → at + 18 ≤ length d → well_formed e ≡ true → read_of (pasted d at (raw_bytes (raw_of e))) at ≡ Some e
read-write d at e room h = ap form_of (raw-back d at (raw_of e) room) ∙ complete e h

-- the n elements from at + i on, written out
abbrev spell : ℕ → List ℕ → ℕ → ℕ → List ℕ
spell zero s at i = []
spell (suc n) s at i = get_or s (at + i) 0 ∷ spell n s at (i + 1)

-- one element more, at the front
pub next-byte : (n : ℕ) (s : List ℕ) (at i : ℕ) → at + i < length s → take (suc n) (drop (at + i) s) ≡ get_or s (at + i) 0 ∷ take n (drop (at + (i + 1)) s)
next-byte n s at i inside =
    let next : suc (at + i) ≡ at + (i + 1) = omega arith in
    ap (take (suc n)) (drop-cons s (at + i) 0 inside) ∙ ap (λ (k : ℕ). get_or s (at + i) 0 ∷ take n (drop k s)) next

spelled : (n : ℕ) (s : List ℕ) (at i : ℕ) → at + i + n ≤ length s → take n (drop (at + i) s) ≡ spell n s at i
spelled zero s at i h = refl
spelled (suc n) s at i h = next-byte n s at i (omega arith) ∙ ap (λ (l : List ℕ). get_or s (at + i) 0 ∷ l) (spelled n s at (i + 1) (omega arith))

high : (a b : ℕ) → b < 256 → (a * 256 + b) / 256 ≡ a
high a b h = omega arith

low : (a b : ℕ) → b < 256 → (a * 256 + b) % 256 ≡ b
low a b h = omega arith

module _ (s : List ℕ) (at i : ℕ) (bytes : (i : ℕ) → get_or s i 0 < 256) where
  -- the high byte of a number is that read first
  pub high_byte : number_at s (at + i) / 256 ≡ get_or s (at + i) 0
  high_byte = high (get_or s (at + i) 0) (get_or s (at + i + 1) 0) (bytes (at + i + 1))

  -- the low byte of a number is that read second
  pub low_byte : number_at s (at + i) % 256 ≡ get_or s (at + (i + 1)) 0
  low_byte = low (get_or s (at + i) 0) (get_or s (at + i + 1) 0) (bytes (at + i + 1)) ∙ ap (λ (k : ℕ). get_or s k 0) (add_assoc at i 1)

-- the bytes of the numbers read are those that stand there
pub raw-only : (s : List ℕ) (at : ℕ) → ((i : ℕ) → get_or s i 0 < 256) → at + 18 ≤ length s → raw_bytes (raw_at s at) ≡ take 18 (drop at s)
raw-only s at bytes room =
    let hi : (i : ℕ) → number_at s (at + i) / 256 ≡ get_or s (at + i) 0 = λ i. high_byte s at i bytes in
    let lo : (i : ℕ) → number_at s (at + i) % 256 ≡ get_or s (at + (i + 1)) 0 = λ i. low_byte s at i bytes in
    let z : get_or s at 0 ≡ get_or s (at + 0) 0 = ap (λ (k : ℕ). get_or s k 0) (sym (add-zero at)) in
    let written : raw_bytes (raw_at s at) ≡ spell 18 s at 0
    = λ i. z i ∷ get_or s (at + 1) 0 ∷ hi 2 i ∷ lo 2 i ∷ hi 4 i ∷ lo 4 i ∷ hi 6 i ∷ lo 6 i ∷ hi 8 i ∷ lo 8 i
    ∷ hi 10 i ∷ lo 10 i ∷ hi 12 i ∷ lo 12 i ∷ hi 14 i ∷ lo 14 i ∷ hi 16 i ∷ lo 16 i ∷ [] in
    written ∙ sym (spelled 18 s at 0 (omega arith)) ∙ ap (λ (k : ℕ). take 18 (drop k s)) (add-zero at)

-- reading succeeds only on the bytes that writing yields
pub read_only : (s : List ℕ) (at : ℕ) (e : Expression) → ((i : ℕ) → get_or s i 0 < 256) → at + 18 ≤ length s → read_of s at ≡ Some e
    → (take 18 (drop at s) ≡ raw_bytes (raw_of e)) × (well_formed e ≡ true)
read_only s at e bytes room h =
    let c = canonical (raw_at s at) e h in
    (sym (raw-only s at bytes room) ∙ ap raw_bytes (sym c.0), c.1)
