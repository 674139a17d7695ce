-- The credentials of a storage read so far, in columns. Assumes nothing.
use Rattle.std.specs.Prelude.{ℕ, ◌+◌, ◌<◌, ◌≤◌, ◌≡◌, refl, Bool, true, false, cond, ◌||◌, eqb, length, Option, Some, None, Result, Ok, Err}
use Rattle.std.proofs.Common.{sym, ◌∙◌, arith, eqb-true}
use Rattle.std.proofs.Math.Path.{ap, subst}
use mathlib.Core.List.{List, [], ◌∷◌, ◌++◌}
use Rattle.numbers.specs.Sizes.{MOST-STORED}
use Rattle.numbers.specs.Refusals.{OPERAND}
use Rattle.expression.specs.declared.Credential.{Credential}
use Rattle.expression.specs.Order.{before_credential}
use Rattle.rt0.specs.declared.Pool.{Pool}
use Rattle.rt0.specs.laws.Pool.{credentials}
use Rattle.rt0.specs.laws.Added.{Sized, count-length}
use Rattle.class.specs.declared.Name.{Name}
use Rattle.class.specs.Names.{class_of}
use Rattle.class.specs.Typing.{credential_number}
use Rattle.record.specs.declared.Record.{Record}
use Rattle.record.specs.Record.{record_at, stored_of}
use Rattle.tables.specs.Check.{or_else, suits_storage, stored_number}
use Rattle.tables.specs.laws.Group.{rising, behind, Step, picked_step, step_of, Going, Gone, number_behind}
use Rattle.tables.specs.laws.Group.{going_start, going_next, going-above, going-other, going-stop, going-stop-at, gone-past}
use Rattle.tables.specs.laws.Groups.{credentials_of, credentials-lawful, pick_stored}
use Rattle.tables.specs.laws.Reading.{StoredGone}

or_else_none : (k : ℕ) → k ≡ or_else k 0
or_else_none k = go (eqb k 0) refl
  where
    go : (b : Bool) → eqb k 0 ≡ b → k ≡ cond b 0 k
    go true e = eqb-true k 0 e
    go false e = refl

-- the number of a stored credential, whose head may stand in the storage or not
module _ (ns : List Name) (subject : Bool) (c : Credential) {k m : ℕ} {b : Bool} (h : k ≡ credential_number ns c) (q : m ≡ class_of ns c.head.name)
    (e : b ≡ suits_storage subject m) where
  by-storage : (t : Bool) → b ≡ t → or_else k (cond t 0 5) ≡ stored_number ns subject c
  unfolding stored_number
  by-storage t u = λ i. or_else (h i) (cond ((sym u ∙ e ∙ ap (suits_storage subject) q) i) 0 5)

  pub stored-suits : b ≡ true → k ≡ stored_number ns subject c
  stored-suits u = or_else_none k ∙ by-storage true u

  pub stored_other : b ≡ false → {r : ℕ} → r ≡ or_else k 5 → r ≡ stored_number ns subject c
  stored_other u w = w ∙ by-storage false u

-- behind other credentials of the storage
pub stored-behind : (ns : List Name) (subject : Bool) (count : ℕ) (last c : Credential) {k j r : ℕ} {b : Bool} → b ≡ before_credential last c
    → k ≡ stored_number ns subject c
    → j ≡ rising (eqb count 0 || b) count MOST-STORED → r ≡ or_else k j → r ≡ number_behind (credentials_of subject) (stored_number ns subject) count last c
unfolding behind credentials_of
stored-behind ns subject count last c h n q e = e ∙ (λ i. or_else (n i) ((q ∙ ap (λ (u : Bool). rising (eqb count 0 || u) count MOST-STORED) h) i))

-- a record that was read, where a credential of the storage may stand
pub stored-picked : (subject : Bool) {x t : Result Record ℕ} (r : Record) {z : Step Credential} → x ≡ t → x ≡ Ok r
    → z ≡ picked_step (λ c. 0) (pick_stored subject r) → z ≡ step_of (credentials_of subject) (λ c. 0) t
unfolding credentials_of
stored-picked subject r h q e = e ∙ ap (step_of (credentials_of subject) (λ c. 0)) (sym q ∙ h)

-- a credential that was read without the record around it, or not
abbrev pub answer_step : Option Credential → Step Credential
answer_step (Some c) = Ok (Some c)
answer_step None = Err OPERAND

pub stored-read : (subject : Bool) (r : Option Credential) (t : Result Record ℕ) → t ≡ stored_of subject r
    → answer_step r ≡ step_of (credentials_of subject) (λ c. 0) t
unfolding credentials_of
stored-read subject r t h = go subject r ∙ ap (step_of (credentials_of subject) (λ c. 0)) (sym h)
  where
    go : (b : Bool) (x : Option Credential) → answer_step x ≡ step_of (credentials_of b) (λ c. 0) (stored_of b x)
    go true (Some c) = refl
    go false (Some c) = refl
    go true None = refl
    go false None = refl

-- the credentials between two indices stand in the pool
abbrev pub ReadingStored : List Name → Bool → List ℕ → ℕ → Pool → Credential → ℕ → Type 0
ReadingStored ns subject s start P last at = Going (credentials_of subject) (stored_number ns subject) s start (credentials P) last at

pub stored-start : (ns : List Name) (subject : Bool) (s : List ℕ) (start : ℕ) (P : Pool) (last : Credential) → credentials P ≡ [] → Sized P
    → ReadingStored ns subject s start P last start
stored-start ns subject s start P last h z =
    subst (λ (L : List Credential). Going (credentials_of subject) (stored_number ns subject) s start L last start) (sym h) (going_start last)

module _ (ns : List Name) (subject : Bool) {s : List ℕ} {start : ℕ} (P : Pool) {last : Credential} {at : ℕ}
    (r : ReadingStored ns subject s start P last at) where
  -- no byte is left
  pub stored_past : length s ≤ at → StoredGone ns subject s start (Ok at) P
  stored_past h = gone-past r h

  module _ (more : at < length s) {x : Result (Option Credential) ℕ}
      (h : x ≡ step_of (credentials_of subject) (number_behind (credentials_of subject) (stored_number ns subject) P.count last) (record_at s at)) where
    -- a credential is taken
    pub stored-room : (c : Credential) → x ≡ Ok (Some c) → P.count < MOST-STORED
    unfolding credentials_of
    stored-room c e = (going-above r more (credentials-lawful subject) P.count (count-length P) c (sym h ∙ e)).1

    pub stored_next : (c : Credential) → x ≡ Ok (Some c) → (Q : Pool) → credentials Q ≡ credentials P ++ (c ∷ []) → ReadingStored ns subject s start Q c (at + 23)
    unfolding credentials_of
    stored_next c e Q z =
        subst (λ (L : List Credential). Going (credentials_of subject) (stored_number ns subject) s start L c (at + 23)) (sym z)
        (going_next r more (credentials-lawful subject) P.count (count-length P) c (sym h ∙ e))

    -- the record of another command stands there
    pub stored-other : x ≡ Ok None → StoredGone ns subject s start (Ok at) P
    stored-other e = going-other r more (credentials-lawful subject) P.count (count-length P) (sym h ∙ e)

    -- a credential is refused
    pub stored-stop : (k : ℕ) → x ≡ Err k → StoredGone ns subject s start (Err k) P
    stored-stop k e = going-stop r more (credentials-lawful subject) P.count (count-length P) k (sym h ∙ e)

    -- the reading of credentials stops at this index
    pub stored-stop-at : (k : ℕ) → x ≡ Err k → Gone (credentials_of subject) (stored_number ns subject) s start (credentials P) k at
    stored-stop-at k e = going-stop-at r more (credentials-lawful subject) P.count (count-length P) k (sym h ∙ e)

-- a pool counts its credentials
pub stored-few : (P : Pool) → length (credentials P) ≤ MOST-STORED → P.count ≤ MOST-STORED
stored-few P h = omega (arith, h, count-length P)
