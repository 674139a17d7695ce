-- How the reading of a credential list goes on, and which numbers refuse it. Assumes nothing.
use Prim.Native.Nat.{ℕ, zero, suc, ◌+◌, ◌-◌, ◌*◌, ◌<◌, ◌≤◌}
use Rattle.std.specs.Prelude.{cond, Bool, length, get_or, take, drop, ◌≡◌, ◌⊎◌, Option, Some, None, Result, Ok, Err, IfOk}
use Rattle.std.proofs.Math.Bool.{true, false}
use mathlib.Core.List.{List, [], ◌∷◌, ◌++◌}
use Rattle.std.proofs.Math.Dec.{ltb, eqb}
use Rattle.std.proofs.Common.{length-append, length-drop, take-append-drop, sym, ◌∙◌, subst, inl, inr, arith, add-zero}
use Rattle.expression.specs.declared.Credential.{Credential}
use Rattle.expression.specs.Credential.{well_formed_credential, read_credential, credential_bytes}
use Rattle.expression.specs.laws.There.{byte-there, code-there, size-there, skip, read-there}
use Rattle.rt0.specs.laws.Pool.{credentials}
use Rattle.question.specs.declared.Step.{Step}
use Rattle.question.specs.declared.Step.TheVariants.{Taken, End}
use Rattle.std.proofs.Math.Path.{refl, ap}
use borrow.Author.Tests.{lt-ltb, le-ltb, ltb-true, ltb-false, eqb-true, eqb-false, ne_eqb}
use Rattle.numbers.specs.Bytes.{CREDENTIAL-BYTES}
use Rattle.numbers.specs.Sizes.{MOST-CREDENTIALS, MOST-CREDENTIALS-BYTES}
use Rattle.rt0.specs.declared.Pool.{Pool}
use Rattle.rt0.specs.laws.Added.{count-length}
use Rattle.question.specs.Credentials.{taken, credential_step, end_step, command_step, step_at, after, list_from, credentials_of}
use Rattle.question.specs.Refused.{CredentialFirst, Whole, credential, end, Unreadable, malformed}
use Rattle.question.specs.Refused as R
use Rattle.numbers.specs.Answer.{Answer, refused, accepted}

-- what a listing says: its pool's credentials, or its refusal number
unfoldable pub listed_of : Result Pool ℕ → Answer (List Credential)
listed_of (Ok P) = accepted (credentials P)
listed_of (Err k) = refused k

-- where the credentials go into a pool that is lent: those of the pool, or the refusal number
unfoldable pub filled_of : Result (Unit {0}) ℕ → Pool → Answer (List Credential)
filled_of (Ok u) P = accepted (credentials P)
filled_of (Err k) P = refused k

-- the same of the pool itself
pub filled-list : (u : Unit {0}) (P : Pool) → filled_of (Ok u) P ≡ listed_of (Ok P)
unfolding filled_of listed_of
filled-list u P = refl

-- a list that is refused, whatever the pool
pub refused-list : (P : Pool) (k : ℕ) → filled_of (Err k) P ≡ listed_of (Err k)
unfolding filled_of listed_of
refused-list P k = refl

-- The command at an index

-- a command too short to be a credential
pub cut : (s : List ℕ) (at : ℕ) → length s - at < CREDENTIAL-BYTES → Err 2 ≡ credential_step s at
unfolding credential_step
cut s at h = sym (ap (λ (t : Bool). cond t (Err 2) (taken (read_credential s (at + 1)))) (lt-ltb (length s - at) CREDENTIAL-BYTES h))

-- a whole credential command
pub whole : (s : List ℕ) (at : ℕ) (r : Option Credential) → CREDENTIAL-BYTES ≤ length s - at → read_credential s (at + 1) ≡ r → taken r ≡ credential_step s at
unfolding credential_step
whole s at r h q =
    ap taken (sym q)
    ∙ sym (ap (λ (t : Bool). cond t (Err 2) (taken (read_credential s (at + 1)))) (le-ltb (length s - at) CREDENTIAL-BYTES h))

-- the end, where the test says whether it stands last
pub last : (s : List ℕ) (at : ℕ) (t : Bool) → eqb (at + 1) (length s) ≡ t → cond t (Ok End) (Err 2) ≡ end_step s at
unfolding end_step
last s at t h = sym (ap (λ (b : Bool). cond b (Ok End) (Err 2)) h)

-- a byte stands at the index
pub at_code : (s : List ℕ) (at code : ℕ) → at < length s → get_or s at 0 ≡ code → command_step s at code ≡ step_at s at
unfolding step_at
at_code s at code h q =
    ap (command_step s at) (sym q)
    ∙ sym (ap (λ (t : Bool). cond t (command_step s at (get_or s at 0)) (Err 2)) (lt-ltb at (length s) h))

-- an unknown command
pub unknown : (s : List ℕ) (at code : ℕ) → (code ≡ 1 → ⊥) → (code ≡ 6 → ⊥) → Err 2 ≡ command_step s at code
unknown s at code h k = sym (simp (ne_eqb code 1 h, ne_eqb code 6 k))

-- Why no command can be read at an index

module _ (s : List ℕ) (at : ℕ) where
  code-drop : get_or (drop at s) 0 0 ≡ get_or s at 0
  code-drop = sym (byte-there s at 0 (drop at s) refl) ∙ ap (λ (i : ℕ). get_or s i 0) (add-zero at)

  pub credential-first : get_or s at 0 ≡ 1 → CREDENTIAL-BYTES ≤ length s - at → CredentialFirst (drop at s)
  credential-first code room = record { code = code-drop ∙ code; room = omega (arith, length-drop at s) }

  -- the command is neither the end nor a whole credential
  not-whole : (drop at s ≡ 6 ∷ [] → ⊥) → (get_or s at 0 ≡ 1 → CREDENTIAL-BYTES ≤ length s - at → ⊥) → Unreadable (drop at s) 2
  not-whole f g = R.cut go refl
    where
      go : Whole (drop at s) → ⊥
      go (credential w) = g (sym code-drop ∙ w.code) (omega (arith, w.room, length-drop at s))
      go (end h) = f h

  -- no byte is left
  pub none_left : length s ≤ at → Unreadable (drop at s) 2
  none_left h = not-whole (λ e. omega (arith, length-drop at s, ap length e)) (λ code room. omega (arith, room))

  -- a credential whose operands have wrong form
  wrong-form : at < length s → read_credential s (at + 1) ≡ None → (d : Credential) → well_formed_credential d ≡ true
      → take CREDENTIAL-BYTES (drop at s) ≡ 1 ∷ credential_bytes d → ⊥
  wrong-form inside h d formed q =
      let rest : List ℕ = drop CREDENTIAL-BYTES (drop at s) in
      let there : drop at s ≡ (1 ∷ credential_bytes d) ++ rest = sym (take-append-drop CREDENTIAL-BYTES (drop at s)) ∙ ap (λ (l : List ℕ). l ++ rest) q in
      let back : read_credential s (at + 1) ≡ Some d = read-there s (at + 1) (omega arith) d rest formed (skip s at 1 _ there) in
      let z : ◌≡◌ {A = ℕ} 0 1 = cc (h, back) in
      omega arith

-- what is known where a step was found: of a credential and of the end that they stand there, of a refusal its reason
abbrev Sure : List ℕ → ℕ → Result Step ℕ → Type 0
Sure s at (Ok (Taken c)) = (at + CREDENTIAL-BYTES ≤ length s) × (get_or s at 0 ≡ 1) × (read_credential s (at + 1) ≡ Some c)
Sure s at (Ok End) = (at + 1 ≡ length s) × (get_or s at 0 ≡ 6)
Sure s at (Err k) = Unreadable (drop at s) k

module _ (s : List ℕ) (at : ℕ) (inside : at < length s) where
  sure-credential : get_or s at 0 ≡ 1 → Sure s at (credential_step s at)
  unfolding credential_step
  sure-credential code = go (ltb (length s - at) CREDENTIAL-BYTES) (read_credential s (at + 1)) refl refl
    where
      go : (t : Bool) (r : Option Credential) → ltb (length s - at) CREDENTIAL-BYTES ≡ t → read_credential s (at + 1) ≡ r
          → Sure s at (cond t (Err 2) (taken r))
      go true r h q =
          not-whole s at (λ e. omega (arith, code, code-there s at 6 [] e)) (λ c room. omega (arith, room, ltb-true (length s - at) CREDENTIAL-BYTES h))
      go false (Some c) h q = (omega (arith, ltb-false (length s - at) CREDENTIAL-BYTES h), code, q)
      go false None h q = malformed (credential-first s at code (ltb-false (length s - at) CREDENTIAL-BYTES h)) (wrong-form s at inside q) refl

  sure-end : get_or s at 0 ≡ 6 → Sure s at (end_step s at)
  unfolding end_step
  sure-end code = go (eqb (at + 1) (length s)) refl
    where
      go : (t : Bool) → eqb (at + 1) (length s) ≡ t → Sure s at (cond t (Ok End) (Err 2))
      go true h = (eqb-true (at + 1) (length s) h, code)
      go false h =
          not-whole s at (λ e. eqb-false (at + 1) (length s) h (sym (size-there s at (omega arith) (6 ∷ []) e))) (λ c room. omega (arith, code, c))

  sure-command : (code : ℕ) → get_or s at 0 ≡ code → Sure s at (command_step s at code)
  sure-command code e = go (eqb code 1) (eqb code 6) refl refl
    where
      go : (t u : Bool) → eqb code 1 ≡ t → eqb code 6 ≡ u → Sure s at (cond t (credential_step s at) (cond u (end_step s at) (Err 2)))
      go true u h k = sure-credential (e ∙ eqb-true code 1 h)
      go false true h k = sure-end (e ∙ eqb-true code 6 k)
      go false false h k =
          not-whole s at (λ q. eqb-false code 6 k (sym e ∙ code-there s at 6 [] q)) (λ c room. eqb-false code 1 h (sym e ∙ c))

sure : (s : List ℕ) (at : ℕ) → Sure s at (step_at s at)
unfolding step_at
sure s at = go (ltb at (length s)) refl
  where
    go : (t : Bool) → ltb at (length s) ≡ t → Sure s at (cond t (command_step s at (get_or s at 0)) (Err 2))
    go true h = sure-command s at (ltb-true at (length s) h) (get_or s at 0) refl
    go false h = none_left s at (ltb-false at (length s) h)

-- a credential that was taken stands there, whole
pub taken-sure : (s : List ℕ) (at : ℕ) (c : Credential) → step_at s at ≡ Ok (Taken c)
    → (at + CREDENTIAL-BYTES ≤ length s) × (get_or s at 0 ≡ 1) × (read_credential s (at + 1) ≡ Some c)
taken-sure s at c h = subst (Sure s at) h (sure s at)

-- an end that was found stands last
pub end-sure : (s : List ℕ) (at : ℕ) → step_at s at ≡ Ok End → (at + 1 ≡ length s) × (get_or s at 0 ≡ 6)
end-sure s at h = subst (Sure s at) h (sure s at)

-- a command is refused for its reason
pub step-reason : (s : List ℕ) (at k : ℕ) → step_at s at ≡ Err k → Unreadable (drop at s) k
step-reason s at k h = subst (Sure s at) h (sure s at)

-- and by 2 or 3
abbrev pub Refusal : ℕ → Type 0
Refusal k = (k ≡ 2) ⊎ (k ≡ 3)

pub step-refusal : (s : List ℕ) (at k : ℕ) → step_at s at ≡ Err k → Refusal k
step-refusal s at k h = go (step-reason s at k h)
  where
    go : Unreadable (drop at s) k → Refusal k
    go (R.cut n e) = inl e
    go (malformed w n e) = inr e

-- The list

abbrev SureList : Answer (List Credential) → Type 0
SureList (refused k) = Refusal k
SureList (accepted C) = Unit {0}

sure-list : (n : ℕ) (s : List ℕ) (at : ℕ) (C : List Credential) → SureList (list_from n s at C)
unfolding list_from
sure-list zero s at C = inl refl
sure-list (suc n) s at C = go (step_at s at) (λ k h. step-refusal s at k h) (λ D. sure-list n s (at + CREDENTIAL-BYTES) D)
  where
    go : (x : Result Step ℕ) → ((k : ℕ) → x ≡ Err k → Refusal k) → ((D : List Credential) → SureList (list_from n s (at + CREDENTIAL-BYTES) D))
        → SureList (after (list_from n s (at + CREDENTIAL-BYTES)) C x)
    go (Ok (Taken c)) number rest = rest (C ++ (c ∷ []))
    go (Ok End) number rest = tt
    go (Err k) number rest = number k refl

-- a list is refused 2 or 3
pub list-refusal : (s : List ℕ) (k : ℕ) → credentials_of s ≡ refused k → Refusal k
unfolding credentials_of
list-refusal s k h = subst SureList h (sure-list (length s) s 0 [])

-- no byte is left
past : (n : ℕ) (s : List ℕ) (at : ℕ) (C : List Credential) → length s ≤ at → list_from n s at C ≡ refused 2
unfolding list_from step_at
past zero s at C h = refl
past (suc n) s at C h =
    ap (λ (t : Bool). after (list_from n s (at + CREDENTIAL-BYTES)) C (cond t (command_step s at (get_or s at 0)) (Err 2))) (le-ltb at (length s) h)

-- a listing that is not refused
pub listed-all : {l : Result Pool ℕ} {P : Pool} → l ≡ Ok P → listed_of l ≡ accepted (credentials P)
unfolding listed_of
listed-all h = ap listed_of h

-- a listing that is refused
pub listed-refused : {l : Result Pool ℕ} {k : ℕ} → l ≡ Err k → listed_of l ≡ refused k
unfolding listed_of
listed-refused h = ap listed_of h

-- a listing says what the bytes mean, and its pool has at most 64 credentials
abbrev Lists : List ℕ → Result Pool ℕ → Type 0
Lists s l = (listed_of l ≡ credentials_of s) × (IfOk l (λ P. P.count ≤ MOST-CREDENTIALS))

-- the commands before the index at have been read into the pool P
pub record Reading (s : List ℕ) (P : Pool) (at : ℕ) : Type 0 where
  pub counted : at ≡ CREDENTIAL-BYTES * P.count
  pub inside : at ≤ length s
  pub fuel : ℕ
  pub enough : length s ≤ fuel + at
  pub rest : credentials_of s ≡ list_from fuel s at (credentials P)

pub reading-start : (s : List ℕ) (P : Pool) → credentials P ≡ [] → Reading s P 0
unfolding credentials_of
reading-start s P h =
    let none : P.count ≡ 0 = sym (count-length P) ∙ ap length h in
    record {
      counted = omega arith;
      inside = omega arith;
      fuel = length s;
      enough = omega arith;
      rest = ap (list_from (length s) s 0) (sym h);
    }

-- a list of at most 1,473 bytes has at most 64 credentials
pub reading-few : {s : List ℕ} {P : Pool} {at : ℕ} → Reading s P at → length s ≤ MOST-CREDENTIALS-BYTES → P.count ≤ MOST-CREDENTIALS
reading-few r h = omega (arith, r.counted, r.inside)

module _ {s : List ℕ} {P : Pool} {at : ℕ} (r : Reading s P at) (more : at < length s) where
  -- one command more
  turn : (x : Result Step ℕ) → step_at s at ≡ x → (n : ℕ) × (r.fuel ≡ suc n) × (credentials_of s ≡ after (list_from n s (at + CREDENTIAL-BYTES)) (credentials P) x)
  unfolding list_from
  turn x h = go r.fuel refl
    where
      go : (f : ℕ) → r.fuel ≡ f → (n : ℕ) × (r.fuel ≡ suc n) × (credentials_of s ≡ after (list_from n s (at + CREDENTIAL-BYTES)) (credentials P) x)
      go zero e = absurd (omega (arith, r.enough))
      go (suc n) e = (n, e, r.rest ∙ ap (λ (f : ℕ). list_from f s at (credentials P)) e ∙ ap (after (list_from n s (at + CREDENTIAL-BYTES)) (credentials P)) h)

  pub reading-next : {c : Credential} {Q : Pool} → step_at s at ≡ Ok (Taken c) → credentials Q ≡ credentials P ++ (c ∷ []) → Reading s Q (at + CREDENTIAL-BYTES)
  reading-next {c} {Q} h q =
      let t = turn (Ok (Taken c)) h in
      let one : Q.count ≡ P.count + 1 = sym (count-length Q) ∙ ap length q ∙ length-append (credentials P) (c ∷ [])
      ∙ ap (λ (n : ℕ). n + 1) (count-length P) in
      record {
        counted = omega (arith, r.counted);
        inside = (taken-sure s at c h).0;
        fuel = t.0;
        enough = omega (arith, r.enough, t.1);
        rest = t.2 ∙ ap (list_from t.0 s (at + CREDENTIAL-BYTES)) (sym q);
      }

  -- the end: all credentials were read
  pub list-end : step_at s at ≡ Ok End → listed_of (Ok P) ≡ credentials_of s
  unfolding listed_of
  list-end h = sym (turn (Ok End) h).2

  -- and they are at most 64
  pub end-lists : step_at s at ≡ Ok End → length s ≤ MOST-CREDENTIALS-BYTES → Lists s (Ok P)
  end-lists h most = (list-end h, reading-few r most)

  -- the first command that cannot be read
  pub list-refused : {k : ℕ} → step_at s at ≡ Err k → listed_of (Err k) ≡ credentials_of s
  unfolding listed_of
  list-refused {k} h = sym (turn (Err k) h).2

  pub refused-lists : {k : ℕ} → step_at s at ≡ Err k → length s ≤ MOST-CREDENTIALS-BYTES → Lists s (Err k) × (P.count ≤ MOST-CREDENTIALS)
  refused-lists h most = ((list-refused h, tt), reading-few r most)

-- the end is missing
pub list-past : {s : List ℕ} {P : Pool} {at : ℕ} → Reading s P at → length s ≤ at → listed_of (Err 2) ≡ credentials_of s
unfolding listed_of
list-past {s} {P} {at} r h = sym (r.rest ∙ past r.fuel s at (credentials P) h)

pub past-lists : {s : List ℕ} {P : Pool} {at : ℕ} → Reading s P at → length s ≤ at → length s ≤ MOST-CREDENTIALS-BYTES
    → Lists s (Err 2) × (P.count ≤ MOST-CREDENTIALS)
past-lists r h most = ((list-past r h, tt), reading-few r most)
