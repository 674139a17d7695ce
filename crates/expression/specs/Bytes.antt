-- Numbers and the 18 bytes of an expression, of right form or not.
use Rattle.std.specs.Prelude.{ℕ, ◌+◌, ◌*◌, ◌/◌, ◌%◌, List, [], ◌∷◌, length, get_or}
use Rattle.std.proofs.Math.Seq.{paste}
use Rattle.expression.specs.declared.Raw.{Raw}

-- a number as two bytes
abbrev pub number_bytes : ℕ → List ℕ
number_bytes n = n / 256 ∷ n % 256 ∷ []

-- two bytes, high byte first
abbrev pub number_at : List ℕ → ℕ → ℕ
number_at s at = get_or s at 0 * 256 + get_or s (at + 1) 0

-- kind, part count, eight numbers
abbrev pub raw_at : List ℕ → ℕ → Raw
raw_at s at =
    record {
      kind = get_or s at 0;
      count = get_or s (at + 1) 0;
      n0 = number_at s (at + 2);
      n1 = number_at s (at + 4);
      n2 = number_at s (at + 6);
      n3 = number_at s (at + 8);
      n4 = number_at s (at + 10);
      n5 = number_at s (at + 12);
      n6 = number_at s (at + 14);
      n7 = number_at s (at + 16);
    }

-- the same as bytes
abbrev pub raw_bytes : Raw → List ℕ
raw_bytes r =
    r.kind ∷ r.count ∷
    r.n0 / 256 ∷ r.n0 % 256 ∷ r.n1 / 256 ∷ r.n1 % 256 ∷
    r.n2 / 256 ∷ r.n2 % 256 ∷ r.n3 / 256 ∷ r.n3 % 256 ∷
    r.n4 / 256 ∷ r.n4 % 256 ∷ r.n5 / 256 ∷ r.n5 % 256 ∷
    r.n6 / 256 ∷ r.n6 % 256 ∷ r.n7 / 256 ∷ r.n7 % 256 ∷ []

-- d with the elements from index at replaced by those of s
abbrev pub pasted : List ℕ → ℕ → List ℕ → List ℕ
pasted d at s = paste d at s (length s)
