-- Records are read from their own bytes and from no others, and refused by two numbers. Assumes nothing.
use Prim.Native.Nat.{ℕ, suc, ◌+◌, ◌-◌, ◌/◌, ◌%◌, ◌<◌, ◌≤◌}
use Rattle.std.specs.Prelude.{◌≡◌, ◌⊎◌, Bool, true, false, cond, List, [], ◌∷◌, ◌++◌, ltb, eqb, take, drop, Option, Some, None, Result, Ok, Err}
use Rattle.std.proofs.Math.Path.{refl, subst}
use Rattle.std.proofs.Common.{sym, ap, ◌∙◌, ⊎_elim, arith, add_assoc, add-one, ltb-true, ltb-false, eqb-true, ne_eqb, length-append, drop-cons}
use Rattle.std.proofs.Math.Logic.{inl, inr}
use Rattle.std.proofs.lemmas.Bool.{eqb-false}
use Rattle.std.proofs.Math.ListN.{length, get_or}
use Rattle.expression.specs.declared.Credential.{Credential}
use Rattle.expression.specs.declared.Expression.TheVariants as E
use Rattle.expression.specs.Bytes.{number_at, number_bytes}
use Rattle.expression.specs.Credential.{well_formed_credential, role_at, read_credential, role_bytes, credential_bytes}
use Rattle.expression.specs.laws.Credential.{credential-only}
use Rattle.expression.specs.laws.There.{byte-there, code-there, size-there, read-there, Bytes, number-there, skip, role-there, read-formed}
use Rattle.class.specs.declared.Name.{Name}
use Rattle.record.specs.declared.Pair.{Pair}
use Rattle.record.specs.declared.Record.{Record}
use Rattle.record.specs.declared.Record.TheVariants.{Own, Named, IssuerStored, SubjectStored, Sensitive, Access}
use Rattle.record.specs.Record.{formed_name, formed_pair, formed, stored, paired, whole, checked, own_at, name_of, name_at, stored_of, stored_at, pair_of}
use Rattle.record.specs.Record.{pair_at, record_at, record_bytes, size_of}
use Rattle.record.specs.Unreadable.{Whole}
use Rattle.record.specs.laws.Record.{stored_code, own-full, name-full, stored-full, pair-full, at_code}

-- a record has this first byte, this test of its form and these operands
record Has (code : ℕ) (good : Bool) (l : List ℕ) (r : Record) : Type 0 where
  bytes : record_bytes r ≡ code ∷ l
  form : formed r ≡ good
  size : size_of r ≡ suc (length l)

own-has : (n : ℕ) → Has 16 (ltb 0 n) (number_bytes n) (Own n)
unfolding record_bytes formed
own-has n = record { bytes = refl; form = refl; size = refl }

name-has : (n : Name) → Has 17 (formed_name n) (number_bytes n.name ++ (n.class ∷ [])) (Named n)
unfolding record_bytes formed
name-has n = record { bytes = refl; form = refl; size = refl }

stored-has : (subject : Bool) (c : Credential) → Has (stored_code subject) (well_formed_credential c) (credential_bytes c) (stored subject c)
unfolding record_bytes formed
stored-has true c = record { bytes = refl; form = refl; size = refl }
stored-has false c = record { bytes = refl; form = refl; size = refl }

abbrev pair_bytes : Pair → List ℕ
pair_bytes p = role_bytes p.role ++ role_bytes p.other

abbrev pair_code : Bool → ℕ
pair_code access = cond access 21 20

paired-has : (access : Bool) (p : Pair) → Has (pair_code access) (formed_pair p) (pair_bytes p) (paired access p)
unfolding record_bytes formed
paired-has true p = record { bytes = refl; form = refl; size = refl }
paired-has false p = record { bytes = refl; form = refl; size = refl }

-- a record has as many bytes as its size
pub record-length : (r : Record) → length (record_bytes r) ≡ size_of r
unfolding record_bytes
record-length (Own n) = refl
record-length (Named n) = refl
record-length (IssuerStored c) = refl
record-length (SubjectStored c) = refl
record-length (Sensitive p) = refl
record-length (Access p) = refl

-- a record has at least three bytes
pub some_size : (r : Record) → 2 < size_of r
some_size (Own e) = omega arith
some_size (Named n) = omega arith
some_size (IssuerStored c) = omega arith
some_size (SubjectStored c) = omega arith
some_size (Sensitive p) = omega arith
some_size (Access p) = omega arith

-- The size by the first byte

-- the first byte of a record, and how many bytes a command with this first byte has, the other number where there is none such
abbrev code_of : Record → ℕ
code_of r = get_or (record_bytes r) 0 0

abbrev size_by : ℕ → ℕ → ℕ
size_by other code =
    cond (eqb code 16) 3 (cond (eqb code 17) 4 (cond (eqb code 18) 23 (cond (eqb code 19) 23 (cond (eqb code 20) 9 (cond (eqb code 21) 9 other)))))

size-by : (other : ℕ) (r : Record) → size_of r ≡ size_by other (code_of r)
unfolding record_bytes
size-by other (Own n) = refl
size-by other (Named n) = refl
size-by other (IssuerStored c) = refl
size-by other (SubjectStored c) = refl
size-by other (Sensitive p) = refl
size-by other (Access p) = refl

module _ (s : List ℕ) (at : ℕ) where
  whole-size : (other : ℕ) → Whole s at → at + size_by other (get_or s at 0) ≤ length s
  whole-size other w =
      let e : size_of w.like ≡ size_by other (get_or s at 0) = size-by other w.like ∙ ap (size_by other) (sym w.code) in
      omega (arith, e, w.room)

-- The bytes of what is read

module _ (s : List ℕ) where
  next : (n at : ℕ) → at < length s → take (suc n) (drop at s) ≡ get_or s at 0 ∷ take n (drop (at + 1) s)
  next n at h = ap (take (suc n)) (drop-cons s at 0 h) ∙ ap (λ (k : ℕ). get_or s at 0 ∷ take n (drop k s)) (sym (add-one at))

  number-only : Bytes s → (n at : ℕ) → at + 2 ≤ length s → take (suc (suc n)) (drop at s) ≡ number_bytes (number_at s at) ++ take n (drop (at + 2) s)
  number-only bytes n at h =
      let high : number_at s at / 256 ≡ get_or s at 0 = omega (arith, bytes (at + 1)) in
      let low : number_at s at % 256 ≡ get_or s (at + 1) 0 = omega (arith, bytes (at + 1)) in
      next (suc n) at (omega arith)
      ∙ ap (λ (l : List ℕ). get_or s at 0 ∷ l) (next n (at + 1) (omega arith))
      ∙ (λ i. sym high i ∷ sym low i ∷ take n (drop (add_assoc at 1 1 i) s))

  role-only : Bytes s → (n at : ℕ) → at + 4 ≤ length s → take (suc (suc (suc (suc n)))) (drop at s) ≡ role_bytes (role_at s at) ++ take n (drop (at + 4) s)
  role-only bytes n at h =
      number-only bytes (suc (suc n)) at (omega arith)
      ∙ ap (λ (l : List ℕ). number_bytes (number_at s at) ++ l) (number-only bytes n (at + 2) (omega arith))
      ∙ ap (λ (k : ℕ). role_bytes (role_at s at) ++ take n (drop k s)) (add_assoc at 2 2)

  name-only : Bytes s → (at : ℕ) → at + 3 ≤ length s → take 3 (drop at s) ≡ number_bytes (number_at s at) ++ (get_or s (at + 2) 0 ∷ [])
  name-only bytes at h = number-only bytes 1 at (omega arith) ∙ ap (λ (l : List ℕ). number_bytes (number_at s at) ++ l) (next 0 (at + 2) (omega arith))

  pair-only : Bytes s → (at : ℕ) → at + 8 ≤ length s → take 8 (drop at s) ≡ pair_bytes (pair_of s at)
  pair-only bytes at h = role-only bytes 4 at (omega arith) ∙ ap (λ (l : List ℕ). role_bytes (role_at s at) ++ l) (role-only bytes 0 (at + 4) (omega arith))

-- what is known where an answer was found: of a record that it has room and right form and that its bytes stand there, of a refusal whether
-- the command is whole
abbrev Sure : List ℕ → ℕ → Result Record ℕ → Type 0
Sure s at (Ok r) = (at + size_of r ≤ length s) × (formed r ≡ true) × (Bytes s → take (size_of r) (drop at s) ≡ record_bytes r) × Whole s at
Sure s at (Err k) = ((k ≡ 2) × (Whole s at → ⊥)) ⊎ ((k ≡ 3) × Whole s at)

module _ (s : List ℕ) (at : ℕ) where
  sure-whole : (code : ℕ) (good : Bool) (l : List ℕ) (r : Record) → Has code good l r → get_or s at 0 ≡ code → (x : Result Record ℕ)
      → (suc (length l) ≤ length s - at → Whole s at → Sure s at x) → Sure s at (whole (suc (length l)) s at x)
  sure-whole code good l r w q x k = go (ltb (length s - at) (suc (length l))) refl
    where
      same : get_or s at 0 ≡ code_of r
      same = q ∙ sym (ap (λ (m : List ℕ). get_or m 0 0) w.bytes)

      go : (t : Bool) → ltb (length s - at) (suc (length l)) ≡ t → Sure s at (cond t (Err 2) x)
      go true h =
          let size : size_by 0 (get_or s at 0) ≡ suc (length l) = ap (size_by 0) same ∙ sym (size-by 0 r) ∙ w.size in
          inl (refl, λ v. omega (arith, whole-size s at 0 v, ltb-true (length s - at) (suc (length l)) h))
      go false h = let room = ltb-false (length s - at) (suc (length l)) h in k room (record { like = r; code = same; room = omega (arith, w.size, room) })

  sure-read : (code : ℕ) (l : List ℕ) (r : Record) → Has code true l r → get_or s at 0 ≡ code → suc (length l) ≤ length s - at → Whole s at
      → (Bytes s → take (length l) (drop (at + 1) s) ≡ l) → Sure s at (Ok r)
  sure-read code l r w q h v k =
      let first : take (suc (length l)) (drop at s) ≡ get_or s at 0 ∷ take (length l) (drop (at + 1) s) = next s (length l) at (omega arith) in
      (omega (arith, w.size), w.form, λ b. ap (λ (n : ℕ). take n (drop at s)) w.size ∙ first ∙ (λ i. q i ∷ k b i) ∙ sym w.bytes, v)

  sure-checked : (code : ℕ) (good : Bool) (l : List ℕ) (r : Record) → Has code good l r → get_or s at 0 ≡ code
      → (suc (length l) ≤ length s - at → Bytes s → take (length l) (drop (at + 1) s) ≡ l) → Sure s at (whole (suc (length l)) s at (checked good r))
  sure-checked code true l r w q k = sure-whole code true l r w q (Ok r) (λ h v. sure-read code l r w q h v (k h))
  sure-checked code false l r w q k = sure-whole code false l r w q (Err 3) (λ h v. inr (refl, v))

  sure-own : get_or s at 0 ≡ 16 → Sure s at (own_at s at)
  unfolding own_at
  sure-own q = sure-checked 16 _ _ _ (own-has (number_at s (at + 1))) q (λ h b. number-only s b 0 (at + 1) (omega arith))

  sure-name : get_or s at 0 ≡ 17 → Sure s at (name_at s at)
  unfolding name_at
  sure-name q = sure-checked 17 _ _ _ (name-has (name_of s (at + 1))) q (λ h b. name-only s b (at + 1) (omega arith))

  sure-stored : (subject : Bool) → get_or s at 0 ≡ stored_code subject → Sure s at (stored_at subject s at)
  unfolding stored_at
  sure-stored subject q =
      sure-whole (stored_code subject) _ _ _ (stored-has subject (record { head = role_at s (at + 1); body = E.Entity 0 })) q
      (stored_of subject (read_credential s (at + 1))) (λ h v. go (read_credential s (at + 1)) refl h v)
    where
      go : (x : Option Credential) → read_credential s (at + 1) ≡ x → 23 ≤ length s - at → Whole s at → Sure s at (stored_of subject x)
      go (Some c) p h v =
          let w = subst (λ (t : Bool). Has (stored_code subject) t (credential_bytes c) (stored subject c)) (read-formed s (at + 1) c p) (stored-has subject c) in
          sure-read (stored_code subject) (credential_bytes c) (stored subject c) w q h v (λ b. (credential-only s (at + 1) c b (omega arith) p).0)
      go None p h v = inr (refl, v)

  sure-pair : (access : Bool) → get_or s at 0 ≡ pair_code access → Sure s at (pair_at access s at)
  unfolding pair_at
  sure-pair access q = sure-checked (pair_code access) _ _ _ (paired-has access (pair_of s (at + 1))) q (λ h b. pair-only s b (at + 1) (omega arith))

  sure-test : (code k : ℕ) (x y : Result Record ℕ) → (code ≡ k → Sure s at x) → ((code ≡ k → ⊥) → Sure s at y) → Sure s at (cond (eqb code k) x y)
  sure-test code k x y here other = go (eqb code k) refl
    where
      go : (t : Bool) → eqb code k ≡ t → Sure s at (cond t x y)
      go true h = here (eqb-true code k h)
      go false h = other (eqb-false code k h)

  unknown : (code : ℕ) → get_or s at 0 ≡ code → (code ≡ 16 → ⊥) → (code ≡ 17 → ⊥) → (code ≡ 18 → ⊥) → (code ≡ 19 → ⊥) → (code ≡ 20 → ⊥) → (code ≡ 21 → ⊥)
      → Whole s at → ⊥
  unknown code q h0 h1 h2 h3 h4 h5 w =
      let n : ℕ = suc (length s) in
      let e : size_by n code ≡ n =
      simp (ne_eqb code 16 h0, ne_eqb code 17 h1, ne_eqb code 18 h2, ne_eqb code 19 h3, ne_eqb code 20 h4, ne_eqb code 21 h5) in
      omega (arith, whole-size s at n w, ap (size_by n) q, e)

  sure : Sure s at (record_at s at)
  unfolding record_at
  sure =
      let code : ℕ = get_or s at 0 in
      sure-test code 16 _ _ sure-own (λ h0.
      sure-test code 17 _ _ sure-name (λ h1.
      sure-test code 18 _ _ (sure-stored false) (λ h2.
      sure-test code 19 _ _ (sure-stored true) (λ h3.
      sure-test code 20 _ _ (sure-pair false) (λ h4.
      sure-test code 21 _ (Err 2) (sure-pair true) (λ h5.
      inl (refl, unknown code refl h0 h1 h2 h3 h4 h5)))))))

-- a record is refused 2 where its command is not whole, and 3 where it is
pub record-reason : (s : List ℕ) (at k : ℕ) → record_at s at ≡ Err k → ((k ≡ 2) × (Whole s at → ⊥)) ⊎ ((k ≡ 3) × Whole s at)
record-reason s at k h = subst (Sure s at) h (sure s at)

pub record-refusal : (s : List ℕ) (at k : ℕ) → record_at s at ≡ Err k → (k ≡ 2) ⊎ (k ≡ 3)
record-refusal s at k h = ⊎_elim (λ w. inl w.0) (λ w. inr w.0) (record-reason s at k h)

-- the command of a record that was read is whole
pub record-whole : (s : List ℕ) (at : ℕ) (r : Record) → record_at s at ≡ Ok r → Whole s at
record-whole s at r h = (subst (Sure s at) h (sure s at)).3

-- a record that was read ends within the bytes
pub record-room : (s : List ℕ) (at : ℕ) (r : Record) → at < length s → record_at s at ≡ Ok r → at + size_of r ≤ length s
record-room s at r inside h = (subst (Sure s at) h (sure s at)).0

-- its operands have right form
pub record-formed : (s : List ℕ) (at : ℕ) (r : Record) → record_at s at ≡ Ok r → formed r ≡ true
record-formed s at r h = (subst (Sure s at) h (sure s at)).1

-- its bytes stand there
pub record-only : (s : List ℕ) (at : ℕ) (r : Record) → ((i : ℕ) → get_or s i 0 < 256) → at < length s → record_at s at ≡ Ok r
    → take (size_of r) (drop at s) ≡ record_bytes r
record-only s at r bytes inside h = (subst (Sure s at) h (sure s at)).2 bytes

-- Records read back

module _ (s : List ℕ) (at : ℕ) (l : List ℕ) (inside : at ≤ length s) where
  own_back : (n : ℕ) → drop at s ≡ (16 ∷ number_bytes n) ++ l → ltb 0 n ≡ true → Ok (Own n) ≡ own_at s at
  own_back n h good = own-full s at n true (omega (arith, size-there s at inside _ h)) (number-there s (at + 1) n l (skip s at 1 _ h)) good

  name_back : (n : Name) → drop at s ≡ (17 ∷ (number_bytes n.name ++ (n.class ∷ []))) ++ l → formed_name n ≡ true → Ok (Named n) ≡ name_at s at
  name_back n h good =
      name-full s at n true (omega (arith, size-there s at inside _ h)) (number-there s (at + 1) n.name (n.class ∷ l) (skip s at 1 _ h))
      (sym (byte-there s at 3 _ h)) good

  stored_back : (subject : Bool) (code : ℕ) (c : Credential) → drop at s ≡ (code ∷ credential_bytes c) ++ l → well_formed_credential c ≡ true
      → Ok (stored subject c) ≡ stored_at subject s at
  stored_back subject code c h good =
      let room : at + 23 ≤ length s = omega (arith, size-there s at inside _ h, length-append (credential_bytes c) l) in
      stored-full s at subject (Some c) (omega arith) (read-there s (at + 1) (omega arith) c l good (skip s at 1 _ h))

  pair-back : (access : Bool) (code : ℕ) (p : Pair) → drop at s ≡ (code ∷ pair_bytes p) ++ l → formed_pair p ≡ true → Ok (paired access p) ≡ pair_at access s at
  pair-back access code p h good =
      let role : p.role ≡ role_at s (at + 1) = role-there s (at + 1) p.role (role_bytes p.other ++ l) (skip s at 1 _ h) in
      let other : p.other ≡ role_at s (at + 5) = role-there s (at + 5) p.other l (skip s at 5 _ h) in
      pair-full s at access p true (omega (arith, size-there s at inside _ h)) role other good

-- a record of right form is read back from where its bytes stand
pub record-back : (s : List ℕ) (at : ℕ) (r : Record) (l : List ℕ) → at ≤ length s → drop at s ≡ record_bytes r ++ l → formed r ≡ true → record_at s at ≡ Ok r
unfolding record_bytes formed
record-back s at (Own n) l inside h good = sym (own_back s at l inside n h good ∙ at_code s at 16 (code-there s at 16 _ h))
record-back s at (Named n) l inside h good = sym (name_back s at l inside n h good ∙ at_code s at 17 (code-there s at 17 _ h))
record-back s at (IssuerStored c) l inside h good = sym (stored_back s at l inside false 18 c h good ∙ at_code s at 18 (code-there s at 18 _ h))
record-back s at (SubjectStored c) l inside h good = sym (stored_back s at l inside true 19 c h good ∙ at_code s at 19 (code-there s at 19 _ h))
record-back s at (Sensitive p) l inside h good = sym (pair-back s at l inside false 20 p h good ∙ at_code s at 20 (code-there s at 20 _ h))
record-back s at (Access p) l inside h good = sym (pair-back s at l inside true 21 p h good ∙ at_code s at 21 (code-there s at 21 _ h))
