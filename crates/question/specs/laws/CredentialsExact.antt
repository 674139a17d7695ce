-- A list is accepted exactly where it is the commands of well-formed credentials and an end, and refused for the first other one. Assumes nothing.
use Prim.Native.Nat.{ℕ, zero, suc, ◌+◌, ◌*◌, ◌<◌, ◌≤◌}
use Rattle.std.specs.Prelude.{◌≡◌, true, get_or, take, drop, Some, Result, Ok, Err}
use Rattle.std.proofs.Math.Path.{refl, ap}
use Rattle.std.proofs.Common.{sym, ◌∙◌, subst, arith, add_assoc, add-one, eq-eqb, length-append, take-append-drop, drop_of_length-le, take_at, drop_at, drop-drop, drop-cons}
use mathlib.Core.List.{List, [], ◌∷◌, ◌++◌, append_assoc, append-nil}
use Rattle.std.proofs.Math.ListN.{length}
use Rattle.numbers.specs.Bytes.{CREDENTIAL-BYTES}
use Rattle.expression.specs.declared.Credential.{Credential}
use Rattle.expression.specs.Credential.{well_formed_credential, credential_bytes}
use Rattle.expression.specs.laws.Credential.{credential-only}
use Rattle.expression.specs.laws.There.{code-there, size-there, read-there}
use Rattle.question.specs.declared.Step.{Step}
use Rattle.question.specs.declared.Step.TheVariants.{Taken, End}
use Rattle.question.specs.Credentials.{step_at, after, list_from, credentials_of}
use Rattle.question.specs.laws.Credentials.{whole, last, at_code, credential-first, none_left, taken-sure, end-sure, step-reason}
use Rattle.question.specs.Asked.{commands_then, commands, Formed}
use Rattle.question.specs.Refused.{credential, end, Unreadable, malformed}
use Rattle.question.specs.Refused as R
use Rattle.numbers.specs.Answer.{Answer, refused, accepted}

module _ (s : List ℕ) (at : ℕ) (inside : at ≤ length s) where
  end-there : drop at s ≡ 6 ∷ [] → step_at s at ≡ Ok End
  end-there h =
      let size : length s ≡ at + 1 = size-there s at inside (6 ∷ []) h in
      sym (last s at true (eq-eqb (at + 1) (length s) (sym size)) ∙ at_code s at 6 (omega arith) (code-there s at 6 [] h))

module _ (s : List ℕ) (at : ℕ) (inside : at ≤ length s) (c : Credential) (l : List ℕ) (formed : well_formed_credential c ≡ true)
    (h : drop at s ≡ 1 ∷ (credential_bytes c ++ l)) where
  fits-there : at + CREDENTIAL-BYTES ≤ length s
  fits-there = omega (arith, size-there s at inside (1 ∷ (credential_bytes c ++ l)) h, length-append (credential_bytes c) l)

  rest-there : drop (at + CREDENTIAL-BYTES) s ≡ l
  rest-there = sym (drop-drop CREDENTIAL-BYTES at s) ∙ ap (drop CREDENTIAL-BYTES) h ∙ drop_at (credential_bytes c) l 22 refl

  taken-there : step_at s at ≡ Ok (Taken c)
  taken-there =
      let fits : at + CREDENTIAL-BYTES ≤ length s = fits-there in
      let next : drop (at + 1) s ≡ credential_bytes c ++ l = sym (drop-drop 1 at s) ∙ ap (drop 1) h in
      sym (whole s at (Some c) (omega arith) (read-there s (at + 1) (omega arith) c l formed next) ∙ at_code s at 1 (omega arith) (code-there s at 1 _ h))

-- the commands of well-formed credentials are read back, and what stands behind them decides
from-commands : (s l : List ℕ) (f : List Credential → Answer (List Credential))
    → ((n at : ℕ) (D : List Credential) → at ≤ length s → drop at s ≡ l → list_from (suc n) s at D ≡ f D)
    → (n at : ℕ) (C D : List Credential) → at ≤ length s → Formed C → drop at s ≡ commands_then C l → length C < n → list_from n s at D ≡ f (D ++ C)
unfolding list_from
from-commands s l f stop zero at C D inside formed h more = absurd (omega arith)
from-commands s l f stop (suc n) at [] D inside formed h more = stop n at D inside h ∙ ap f (sym (append-nil D))
from-commands s l f stop (suc n) at (c ∷ C) D inside formed h more =
    ap (after (list_from n s (at + CREDENTIAL-BYTES)) D) (taken-there s at inside c (commands_then C l) formed.0 h)
    ∙ from-commands s l f stop n (at + CREDENTIAL-BYTES) C (D ++ (c ∷ [])) (fits-there s at inside c (commands_then C l) formed.0 h) formed.1
    (rest-there s at inside c (commands_then C l) formed.0 h) (omega arith)
    ∙ ap f (append_assoc D (c ∷ []) C)

pub length-then : (C : List Credential) (l : List ℕ) → length (commands_then C l) ≡ CREDENTIAL-BYTES * length C + length l
length-then [] l = omega arith
length-then (c ∷ C) l = omega (arith, length-append (credential_bytes c) (commands_then C l), length-then C l)

-- the commands of well-formed credentials are read back
pub list_back : (C : List Credential) → Formed C → credentials_of (commands C) ≡ accepted C
unfolding credentials_of list_from
list_back C formed =
    let s : List ℕ = commands C in
    from-commands s (6 ∷ []) accepted (λ n at D inside h. ap (after (list_from n s (at + CREDENTIAL-BYTES)) D) (end-there s at inside h)) (length s) 0 C []
    (omega arith) formed refl (omega (arith, length-then C (6 ∷ [])))

-- what is known where an answer was found: the credentials F, and the bytes l behind their commands
abbrev Stop : List Credential → List ℕ → Answer (List Credential) → Type 0
Stop F l (accepted E) = (E ≡ F) × (l ≡ 6 ∷ [])
Stop F l (refused k) = Unreadable l k

-- the bytes from an index on, behind the credentials D
pub record Rest (s : List ℕ) (at : ℕ) (D : List Credential) (x : Answer (List Credential)) : Type 0 where
  pub listed : List Credential
  pub others : List ℕ
  pub there : drop at s ≡ commands_then listed others
  pub formed : Formed listed
  pub stop : Stop (D ++ listed) others x

module _ (s : List ℕ) (bytes : (i : ℕ) → get_or s i 0 < 256) where
  credential-there : (at : ℕ) (c : Credential) → step_at s at ≡ Ok (Taken c)
      → (drop at s ≡ 1 ∷ (credential_bytes c ++ drop (at + CREDENTIAL-BYTES) s)) × (well_formed_credential c ≡ true)
  credential-there at c h =
      let w = taken-sure s at c h in
      let o = credential-only s (at + 1) c bytes (omega (arith, w.0)) w.2 in
      let next : drop (suc at) s ≡ credential_bytes c ++ drop (at + CREDENTIAL-BYTES) s
      = ap (λ (k : ℕ). drop k s) (sym (add-one at))
      ∙ sym (take-append-drop 22 (drop (at + 1) s))
      ∙ (λ i. o.0 i ++ (drop-drop 22 (at + 1) s ∙ ap (λ (k : ℕ). drop k s) (add_assoc at 1 22)) i) in
      (drop-cons s at 0 (omega (arith, w.0)) ∙ (λ i. w.1 i ∷ next i), o.1)

  one_more : (at : ℕ) (c : Credential) (D : List Credential) (x : Answer (List Credential)) → step_at s at ≡ Ok (Taken c)
      → Rest s (at + CREDENTIAL-BYTES) (D ++ (c ∷ [])) x → Rest s at D x
  one_more at c D x h r =
      let w = credential-there at c h in
      record {
        listed = c ∷ r.listed;
        others = r.others;
        there = w.0 ∙ ap (λ (l : List ℕ). 1 ∷ (credential_bytes c ++ l)) r.there;
        formed = (w.1, r.formed);
        stop = subst (λ (F : List Credential). Stop F r.others x) (append_assoc D (c ∷ []) r.listed) r.stop;
      }

  end-only : (at : ℕ) → step_at s at ≡ Ok End → drop at s ≡ 6 ∷ []
  end-only at h =
      let w = end-sure s at h in
      drop-cons s at 0 (omega (arith, w.0)) ∙ (λ i. w.1 i ∷ drop_of_length-le s {i = suc at} (omega (arith, w.0)) i)

  refused-here : (at k : ℕ) (D : List Credential) → Unreadable (drop at s) k → Rest s at D (refused k)
  refused-here at k D u = record { listed = []; others = drop at s; there = refl; formed = tt; stop = u }

  to-commands : (n at : ℕ) (D : List Credential) → length s ≤ n + at → Rest s at D (list_from n s at D)
  unfolding list_from
  to-commands zero at D l = refused-here at 2 D (none_left s at (omega arith))
  to-commands (suc n) at D l = go (step_at s at) refl (λ F. to-commands n (at + CREDENTIAL-BYTES) F (omega arith))
    where
      go : (x : Result Step ℕ) → step_at s at ≡ x → ((F : List Credential) → Rest s (at + CREDENTIAL-BYTES) F (list_from n s (at + CREDENTIAL-BYTES) F))
          → Rest s at D (after (list_from n s (at + CREDENTIAL-BYTES)) D x)
      go (Ok (Taken c)) q again = one_more at c D _ q (again (D ++ (c ∷ [])))
      go (Ok End) q again = record { listed = []; others = 6 ∷ []; there = end-only at q; formed = tt; stop = (sym (append-nil D), refl) }
      go (Err k) q again = refused-here at k D (step-reason s at k q)

  -- what the answer says of the bytes
  pub list-says : Rest s 0 [] (credentials_of s)
  unfolding credentials_of
  list-says = to-commands (length s) 0 [] (omega arith)

  -- bytes that are accepted are the commands of well-formed credentials
  pub list-only : (C : List Credential) → credentials_of s ≡ accepted C → (s ≡ commands C) × Formed C
  list-only C h =
      let r = subst (Rest s 0 []) h list-says in
      (r.there ∙ (λ i. commands_then (sym r.stop.0 i) (r.stop.1 i)), subst Formed (sym r.stop.0) r.formed)

  -- Refused

  one_number : {l : List ℕ} {j k : ℕ} → Unreadable l j → Unreadable l k → j ≡ k
  one_number (R.cut n e) (R.cut m q) = e ∙ sym q
  one_number (R.cut n e) (malformed w m q) = absurd (n (credential w))
  one_number (malformed w n e) (R.cut m q) = absurd (m (credential w))
  one_number (malformed w n e) (malformed v m q) = e ∙ sym q

  unreadable-step : (at k : ℕ) → Unreadable (drop at s) k → step_at s at ≡ Err k
  unreadable-step at k u = go (step_at s at) refl u
    where
      go : (x : Result Step ℕ) → step_at s at ≡ x → Unreadable (drop at s) k → x ≡ Err k
      go (Ok (Taken c)) h (R.cut n e) = let w = taken-sure s at c h in absurd (n (credential (credential-first s at w.1 (omega (arith, w.0)))))
      go (Ok (Taken c)) h (malformed w n e) =
          let o = credential-there at c h in
          let rest : List ℕ = drop (at + CREDENTIAL-BYTES) s in
          absurd (n c o.1 (ap (take CREDENTIAL-BYTES) o.0 ∙ take_at (1 ∷ credential_bytes c) rest CREDENTIAL-BYTES refl))
      go (Ok End) h (R.cut n e) = absurd (n (end (end-only at h)))
      go (Ok End) h (malformed w n e) = absurd (omega (arith, w.code, ap (λ (l : List ℕ). get_or l 0 0) (end-only at h)))
      go (Err j) h v = ap Err (one_number (step-reason s at j h) v)

  -- a command that cannot be read ends the list
  pub list-stopped : (C : List Credential) (l : List ℕ) (k : ℕ) → 0 < length s → s ≡ commands_then C l → Formed C → Unreadable l k → credentials_of s ≡ refused k
  unfolding credentials_of list_from
  list-stopped C l k some h formed u =
      from-commands s l (λ D. refused k)
      (λ n at D inside q. ap (after (list_from n s (at + CREDENTIAL-BYTES)) D) (unreadable-step at k (subst (λ (m : List ℕ). Unreadable m k) (sym q) u)))
      (length s) 0 C [] (omega arith) formed h (omega (arith, ap length h, length-then C l))
