-- What is read from an index where certain bytes stand. Assumes nothing.
use Rattle.std.specs.Prelude.{ℕ, ◌+◌, ◌≤◌, ◌*◌, ◌/◌, ◌%◌, ◌<◌, ◌≡◌, refl, true, Bool, false, List, ◌∷◌, ◌++◌, length, get_or, take, drop, Option, Some, None}
use Rattle.std.proofs.Common.{sym, ap, ◌∙◌, arith, add-zero, div-add-mod', length-append, length-drop, take-append-drop, take-add, take_at, get_or-drop, drop-drop}
use Rattle.std.proofs.Math.Seq.{take-length}
use Rattle.expression.specs.declared.Credential.{Credential}
use Rattle.expression.specs.Bytes.{pasted, number_at, number_bytes}
use Rattle.expression.specs.Credential.{well_formed_credential, read_credential, credential_bytes, pick_credential, role_at, credential_of, role_bytes}
use Rattle.expression.specs.laws.Credential.{credential-back}
use Rattle.expression.specs.declared.Role.{Role}
use Rattle.expression.specs.Form.{read_of}
use Rattle.expression.specs.declared.Expression.{Expression}

abbrev pub Bytes : List ℕ → Type 0
Bytes s = (i : ℕ) → get_or s i 0 < 256

-- a credential that is read is well formed
credential-formed : (h : Role) (x : Option Expression) (c : Credential) → credential_of h x ≡ Some c → well_formed_credential c ≡ true
credential-formed h (Some b) c k = go (well_formed_credential r) refl k
  where
    r : Credential
    r = record { head = h; body = b }

    go : (t : Bool) → well_formed_credential r ≡ t → pick_credential t (Some r) None ≡ Some c → well_formed_credential c ≡ true
    go true p q = let same : r ≡ c = cc in ap well_formed_credential (sym same) ∙ p
    go false p q = let z : ◌≡◌ {A = ℕ} 0 1 = cc in absurd (omega arith)
credential-formed h None c k = let z : ◌≡◌ {A = ℕ} 0 1 = cc in absurd (omega arith)

pub read-formed : (s : List ℕ) (at : ℕ) (c : Credential) → read_credential s at ≡ Some c → well_formed_credential c ≡ true
unfolding read_credential
read-formed s at c h = credential-formed (role_at s at) (read_of s (at + 4)) c h

pub skip : (s : List ℕ) (at n : ℕ) (l : List ℕ) → drop at s ≡ l → drop (at + n) s ≡ drop n l
skip s at n l h = sym (drop-drop n at s) ∙ ap (drop n) h

-- bytes that stand there already
pub self-paste : (s : List ℕ) (at : ℕ) (b : List ℕ) → take (length b) (drop at s) ≡ b → pasted s at b ≡ s
self-paste s at b h =
    ap (λ (l : List ℕ). (take at s ++ l) ++ drop (at + length b) s) (take-length b ∙ sym h)
    ∙ ap (λ (l : List ℕ). l ++ drop (at + length b) s) (sym (take-add at (length b) s))
    ∙ take-append-drop (at + length b) s

-- bytes written from the start
pub pasted-front : (d s : List ℕ) → pasted d 0 s ≡ s ++ drop (length s) d
pasted-front d s = let z : 0 + length s ≡ length s = omega arith in λ i. take-length s i ++ drop (z i) d

module _ (s : List ℕ) (at : ℕ) where
  -- one of the bytes
  pub byte-there : (i : ℕ) (l : List ℕ) → drop at s ≡ l → get_or s (at + i) 0 ≡ get_or l i 0
  byte-there i l h = sym (get_or-drop at s i 0) ∙ ap (λ (m : List ℕ). get_or m i 0) h

  -- the first byte
  pub code-there : (code : ℕ) (l : List ℕ) → drop at s ≡ code ∷ l → get_or s at 0 ≡ code
  code-there code l h = ap (λ (k : ℕ). get_or s k 0) (sym (add-zero at)) ∙ byte-there 0 (code ∷ l) h

module _ (s : List ℕ) (at : ℕ) (inside : at ≤ length s) where
  -- how many bytes there are
  pub size-there : (l : List ℕ) → drop at s ≡ l → length s ≡ at + length l
  size-there l h = omega (arith, length-drop at s, ap length h)

  -- the credential
  pub read-there : (c : Credential) (l : List ℕ) → well_formed_credential c ≡ true → drop at s ≡ credential_bytes c ++ l → read_credential s at ≡ Some c
  read-there c l formed h =
      let b : List ℕ = credential_bytes c in
      let there : take 22 (drop at s) ≡ b = ap (take 22) h ∙ take_at b l 22 refl in
      let room : at + 22 ≤ length s = omega (arith, size-there (b ++ l) h, length-append b l) in
      ap (λ (m : List ℕ). read_credential m at) (sym (self-paste s at b there)) ∙ credential-back s at c room formed

-- the number, and the role
pub number-there : (s : List ℕ) (at n : ℕ) (l : List ℕ) → drop at s ≡ number_bytes n ++ l → n ≡ number_at s at
number-there s at n l h =
    let high : get_or s at 0 ≡ n / 256 = code-there s at (n / 256) _ h in
    let low : get_or s (at + 1) 0 ≡ n % 256 = byte-there s at 1 (number_bytes n ++ l) h in
    sym ((λ i. high i * 256 + low i) ∙ div-add-mod' n 256)

pub role-there : (s : List ℕ) (at : ℕ) (r : Role) (l : List ℕ) → drop at s ≡ role_bytes r ++ l → r ≡ role_at s at
role-there s at r l h =
    λ i. record {
      entity = number-there s at r.entity (number_bytes r.name ++ l) h i;
      name = number-there s (at + 2) r.name l
          (skip s at 2 (role_bytes r ++ l) h) i;
    }
