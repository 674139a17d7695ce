-- The bytes of a credential: what was written is read back, and what is read is what writing yields.
use Rattle.std.specs.Prelude.{ℕ, suc, ◌+◌, ◌/◌, ◌%◌, ◌<◌, ◌≤◌, ◌≡◌, refl, List, ◌∷◌, ◌++◌, Bool, true, false, ◌&&◌, length, get_or, take, drop, Option, Some, None}
use Rattle.std.proofs.Common.{sym, ◌∙◌, arith, add-zero, div-add-mod'}
use Rattle.std.proofs.Math.Path.{ap}
use Rattle.std.proofs.lemmas.List.Edits.{length-paste}
use Rattle.expression.specs.declared.Role.{Role}
use Rattle.expression.specs.declared.Credential.{Credential}
use Rattle.expression.specs.Bytes.{number_at, raw_bytes, pasted}
use Rattle.expression.specs.Form.{raw_of, read_of, is_role, well_formed}
use Rattle.expression.specs.laws.Laws.{and_left, and_right}
use Rattle.expression.specs.laws.Codec.{number-paste, paste-paste, read-write, read_only, high_byte, low_byte, next-byte}
use Rattle.expression.specs.Credential.{is_body, begins_with, well_formed_credential, pick_credential, checked_credential, role_at, credential_of}
use Rattle.expression.specs.Credential.{read_credential, role_bytes, credential_bytes}
use Rattle.expression.specs.declared.Expression.{Expression}

-- the reader, where the body is of wrong form
pub wrong-body : (s : List ℕ) (at : ℕ) → read_of s (at + 4) ≡ None → read_credential s at ≡ None
unfolding read_credential
wrong-body s at h = ap (credential_of (role_at s at)) h

-- the reader, where the body is read
pub read-body : (s : List ℕ) (at : ℕ) (c : Credential) → c.head.entity ≡ number_at s at → c.head.name ≡ number_at s (at + 2)
    → read_of s (at + 4) ≡ Some c.body → read_credential s at ≡ checked_credential c
unfolding read_credential
read-body s at c p q h = λ i. credential_of (record { entity = sym p i; name = sym q i }) (h i)

-- the test of a credential has that of its body in it
body-formed : (c : Credential) → well_formed_credential c ≡ true → well_formed c.body ≡ true
unfolding well_formed_credential
body-formed c h =
    let head : Bool = is_role c.head in
    let formed : Bool = well_formed c.body in
    let body : Bool = is_body c.body in
    and_right head formed (and_left (head && formed) body (and_left (head && formed && body) (begins_with c.head.entity c.body) h))

-- where the body is of right form, the rest is left to test
pub formed-body : (c : Credential) → well_formed c.body ≡ true
    → well_formed_credential c ≡ is_role c.head && is_body c.body && begins_with c.head.entity c.body
unfolding well_formed_credential
formed-body c h = go (is_role c.head)
  where
    go : (a : Bool) → a && well_formed c.body && is_body c.body && begins_with c.head.entity c.body
        ≡ a && is_body c.body && begins_with c.head.entity c.body
    go true = rw h
    go false = refl

module _ (d : List ℕ) (at : ℕ) (c : Credential) (room : at + 22 ≤ length d) where
  head-back : role_at (pasted d at (credential_bytes c)) at ≡ c.head
  head-back =
      let l : List ℕ = credential_bytes c in
      let entity : number_at (pasted d at l) at ≡ c.head.entity
      = ap (number_at (pasted d at l)) (sym (add-zero at)) ∙ number-paste d l at room 0 (omega arith) ∙ div-add-mod' c.head.entity 256 in
      let name : number_at (pasted d at l) (at + 2) ≡ c.head.name = number-paste d l at room 2 (omega arith) ∙ div-add-mod' c.head.name 256 in
      λ i. record { entity = entity i; name = name i }

  body_back : well_formed c.body ≡ true → read_of (pasted d at (credential_bytes c)) (at + 4) ≡ Some c.body
  body_back h =
      let front : List ℕ = role_bytes c.head in
      let back : List ℕ = raw_bytes (raw_of c.body) in
      let size : length (pasted d at front) ≡ length d = length-paste d at front 4 (omega arith) (omega arith) in
      ap (λ (l : List ℕ). read_of l (at + 4)) (sym (paste-paste d at front back (omega arith)))
      ∙ read-write (pasted d at front) (at + 4) c.body (omega arith) h

  -- a well-formed credential is read back from where it was written
  pub credential-back : well_formed_credential c ≡ true → read_credential (pasted d at (credential_bytes c)) at ≡ Some c
  unfolding read_credential
  credential-back h =
      (λ i. credential_of (head-back i) (body_back (body-formed c h) i)) ∙ ap (λ (b : Bool). pick_credential b (Some c) None) h

-- head and body, written one after the other
pub written : (d e f : List ℕ) (at : ℕ) (c : Credential) (b : List ℕ) → at + 22 ≤ length d → b ≡ role_bytes c.head
    → e ≡ pasted d at b → f ≡ pasted e (at + 4) (raw_bytes (raw_of c.body)) → f ≡ pasted d at (credential_bytes c)
written d e f at c b room p q r =
    let back : List ℕ = raw_bytes (raw_of c.body) in
    r ∙ ap (λ (l : List ℕ). pasted l (at + 4) back) (q ∙ ap (pasted d at) p) ∙ paste-paste d at (role_bytes c.head) back (omega arith)

-- what is read is well formed, of the head that stands there and of the body read
credential-read : (h : Role) (a : Option Expression) (c : Credential) → credential_of h a ≡ Some c
    → (h ≡ c.head) × (a ≡ Some c.body) × (well_formed_credential c ≡ true)
credential-read h (Some b) c k = at (well_formed_credential r) refl k
  where
    r : Credential
    r = record { head = h; body = b }

    at : (t : Bool) → well_formed_credential r ≡ t → pick_credential t (Some r) None ≡ Some c
        → (h ≡ c.head) × (Some b ≡ Some c.body) × (well_formed_credential c ≡ true)
    at true p q =
        let same : r ≡ c = cc in
        (ap (λ (z : Credential). z.head) same, ap (λ (z : Credential). Some z.body) same, ap well_formed_credential (sym same) ∙ p)
    at false p q = let z : ◌≡◌ {A = ℕ} 0 1 = cc in absurd (omega arith)
credential-read h None c k = let z : ◌≡◌ {A = ℕ} 0 1 = cc in absurd (omega arith)

-- the bytes of the head read are those that stand there
head-only : (s : List ℕ) (at : ℕ) → ((i : ℕ) → get_or s i 0 < 256) → at + 4 ≤ length s
    → take 22 (drop at s) ≡ role_bytes (role_at s at) ++ take 18 (drop (at + 4) s)
head-only s at bytes room =
    let step : (n i : ℕ) → at + i < length s → take (suc n) (drop (at + i) s) ≡ get_or s (at + i) 0 ∷ take n (drop (at + (i + 1)) s)
    = λ n i h. next-byte n s at i h in
    let zero-on : take 22 (drop at s) ≡ take 22 (drop (at + 0) s) = ap (λ (k : ℕ). take 22 (drop k s)) (sym (add-zero at)) in
    let spelled : take 22 (drop at s) ≡ get_or s (at + 0) 0 ∷ get_or s (at + 1) 0 ∷ get_or s (at + 2) 0 ∷ get_or s (at + 3) 0 ∷ take 18 (drop (at + 4) s)
    = zero-on
    ∙ step 21 0 (omega arith)
    ∙ ap (λ (l : List ℕ). get_or s (at + 0) 0 ∷ l)
    (step 20 1 (omega arith)
    ∙ ap (λ (l : List ℕ). get_or s (at + 1) 0 ∷ l)
    (step 19 2 (omega arith) ∙ ap (λ (l : List ℕ). get_or s (at + 2) 0 ∷ l) (step 18 3 (omega arith)))
    ) in
    let z : number_at s at ≡ number_at s (at + 0) = ap (number_at s) (sym (add-zero at)) in
    let hi : (i : ℕ) → number_at s (at + i) / 256 ≡ get_or s (at + i) 0 = λ i. high_byte s at i bytes in
    let lo : (i : ℕ) → number_at s (at + i) % 256 ≡ get_or s (at + (i + 1)) 0 = λ i. low_byte s at i bytes in
    spelled ∙ sym (λ i. (ap (λ (n : ℕ). n / 256) z ∙ hi 0) i ∷ (ap (λ (n : ℕ). n % 256) z ∙ lo 0) i ∷ hi 2 i ∷ lo 2 i ∷ take 18 (drop (at + 4) s))

-- reading succeeds only on the bytes that writing yields
pub credential-only : (s : List ℕ) (at : ℕ) (c : Credential) → ((i : ℕ) → get_or s i 0 < 256) → at + 22 ≤ length s → read_credential s at ≡ Some c
    → (take 22 (drop at s) ≡ credential_bytes c) × (well_formed_credential c ≡ true)
unfolding read_credential
credential-only s at c bytes room h =
    let r = credential-read (role_at s at) (read_of s (at + 4)) c h in
    let body = read_only s (at + 4) c.body bytes (omega arith) r.1 in
    (head-only s at bytes (omega arith) ∙ (λ i. role_bytes (r.0 i) ++ body.0 i), r.2)
