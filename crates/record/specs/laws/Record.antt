-- What a record is read as, by the tests on its bytes. Assumes nothing.
use Rattle.std.specs.Prelude.{ℕ, ◌+◌, ◌-◌, ◌<◌, ◌≤◌, ◌≡◌, Bool, cond, ◌&&◌, List, ltb, leb, eqb, Option, Result, Err}
use Rattle.std.proofs.Math.Path.{refl, sym, ap}
use Rattle.std.proofs.Common.{◌∙◌, add_assoc}
use Rattle.std.proofs.Math.Bool.{true, false}
use borrow.Author.Tests.{lt-ltb, le-ltb, leb-true, eqb-true, ne_eqb}
use Rattle.std.proofs.Math.ListN.{length, get_or}
use Rattle.expression.specs.Bytes.{number_at}
use Rattle.expression.specs.Credential.{role_at, read_credential}
use Rattle.expression.specs.laws.Laws.{and_left, and_right}
use Rattle.class.specs.declared.Name.{Name}
use Rattle.record.specs.declared.Record.{Record}
use Rattle.record.specs.declared.Pair.{Pair}
use Rattle.record.specs.declared.Record.TheVariants.{Own, Named}
use Rattle.record.specs.Record.{formed_name, formed_pair, paired, whole, checked, own_at, name_of, name_at, stored_of, stored_at, pair_of, pair_at, by_code}
use Rattle.record.specs.Record.{record_at}
use Rattle.numbers.specs.Bytes.{CREDENTIAL-BYTES}
use Rattle.expression.specs.declared.Credential.{Credential}

-- the first byte of a stored credential
abbrev pub stored_code : Bool → ℕ
stored_code subject = cond subject 19 18

-- whether it stands at an index, and no byte of the record is cut off
unfoldable pub begins_stored : Bool → List ℕ → ℕ → Bool
begins_stored subject s at = leb CREDENTIAL-BYTES (length s - at) && eqb (get_or s at 0) (stored_code subject)

module _ (size : ℕ) (s : List ℕ) (at : ℕ) where
  -- too few bytes are left
  cut : (r : Result Record ℕ) → length s - at < size → Err 2 ≡ whole size s at r
  cut r h = sym (ap (λ (t : Bool). cond t (Err 2) r) (lt-ltb (length s - at) size h))

  -- enough bytes are left
  full : {r q : Result Record ℕ} → size ≤ length s - at → q ≡ r → q ≡ whole size s at r
  full {r} h e = e ∙ sym (ap (λ (t : Bool). cond t (Err 2) r) (le-ltb (length s - at) size h))

module _ (s : List ℕ) (at : ℕ) where
  -- self, cut
  pub own-cut : length s - at < 3 → Err 2 ≡ own_at s at
  unfolding own_at
  own-cut h = cut 3 s at _ h

  -- self, whole
  pub own-full : (e : ℕ) (b : Bool) → 3 ≤ length s - at → e ≡ number_at s (at + 1) → ltb 0 e ≡ b → checked b (Own e) ≡ own_at s at
  unfolding own_at
  own-full e b h p q = full 3 s at h (λ i. checked (sym (sym (ap (ltb 0) p) ∙ q) i) (Own (p i)))

  -- a name, cut
  pub name-cut : length s - at < 4 → Err 2 ≡ name_at s at
  unfolding name_at
  name-cut h = cut 4 s at _ h

  -- a name, whole
  pub name-full : (n : Name) (b : Bool) → 4 ≤ length s - at → n.name ≡ number_at s (at + 1) → n.class ≡ get_or s (at + 3) 0 → formed_name n ≡ b
      → checked b (Named n) ≡ name_at s at
  unfolding name_at
  name-full n b h p q f =
      let same : n ≡ name_of s (at + 1) = λ i. record { name = p i; class = (q ∙ ap (λ (k : ℕ). get_or s k 0) (sym (add_assoc at 1 2))) i } in
      full 4 s at h (λ i. checked (sym (sym (ap formed_name same) ∙ f) i) (Named (same i)))

  -- a stored credential, cut
  pub stored_cut : (subject : Bool) → length s - at < 23 → Err 2 ≡ stored_at subject s at
  unfolding stored_at
  stored_cut subject h = cut 23 s at _ h

  -- a stored credential, whole
  pub stored-full : (subject : Bool) (r : Option Credential) → 23 ≤ length s - at → read_credential s (at + 1) ≡ r → stored_of subject r ≡ stored_at subject s at
  unfolding stored_at
  stored-full subject r h q = full 23 s at h (ap (stored_of subject) (sym q))

  -- a pair, cut
  pub pair-cut : (access : Bool) → length s - at < 9 → Err 2 ≡ pair_at access s at
  unfolding pair_at
  pair-cut access h = cut 9 s at _ h

  -- a pair, whole
  pub pair-full : (access : Bool) (p : Pair) (b : Bool) → 9 ≤ length s - at → p.role ≡ role_at s (at + 1) → p.other ≡ role_at s (at + 5) → formed_pair p ≡ b
      → checked b (paired access p) ≡ pair_at access s at
  unfolding pair_at
  pair-full access p b h u v f =
      let same : p ≡ pair_of s (at + 1) = λ i. record { role = u i; other = (v ∙ ap (role_at s) (sym (add_assoc at 1 4))) i } in
      full 9 s at h (λ i. checked (sym (sym (ap formed_pair same) ∙ f) i) (paired access (same i)))

  -- the first byte says which record stands there
  pub at_code : (code : ℕ) → get_or s at 0 ≡ code → by_code code s at ≡ record_at s at
  unfolding record_at
  at_code code h = ap (λ (c : ℕ). by_code c s at) (sym h)

  -- an unknown first byte
  pub unknown : (code : ℕ) → (code ≡ 16 → ⊥) → (code ≡ 17 → ⊥) → (code ≡ 18 → ⊥) → (code ≡ 19 → ⊥) → (code ≡ 20 → ⊥) → (code ≡ 21 → ⊥)
      → Err 2 ≡ by_code code s at
  unknown code h0 h1 h2 h3 h4 h5 = sym (simp (ne_eqb code 16 h0, ne_eqb code 17 h1, ne_eqb code 18 h2, ne_eqb code 19 h3, ne_eqb code 20 h4, ne_eqb code 21 h5))

  -- where a stored credential begins, it is the record that stands there
  pub stored-begun : (subject : Bool) → begins_stored subject s at ≡ true
      → (23 ≤ length s - at) × (record_at s at ≡ stored_of subject (read_credential s (at + 1)))
  unfolding begins_stored
  stored-begun subject h =
      let size : 23 ≤ length s - at = leb-true 23 (length s - at) (and_left (leb 23 (length s - at)) (eqb (get_or s at 0) (stored_code subject)) h) in
      let code : get_or s at 0 ≡ stored_code subject
      = eqb-true (get_or s at 0) (stored_code subject) (and_right (leb 23 (length s - at)) (eqb (get_or s at 0) (stored_code subject)) h) in
      (size, sym (at_code (stored_code subject) code) ∙ (by_code_lem subject ∙ sym (stored-full subject (read_credential s (at + 1)) size refl)))
    where
      by_code_lem : (b : Bool) → by_code (stored_code b) s at ≡ stored_at b s at
      by_code_lem true = refl
      by_code_lem false = refl
