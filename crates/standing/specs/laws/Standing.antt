-- What a call finds, test by test. Assumes nothing.
use Rattle.std.specs.Prelude.{ℕ, ◌<◌, Bool, not, List, ◌≡◌, Option as Returned, Some, None, Result, Ok, Err, IfOk, MatchOption}
use Rattle.std.proofs.Math.Bool.{cond, true, false}
use Rattle.std.proofs.Math.Option.{Option, none, some}
use Rattle.std.proofs.Math.Dec.{eqb}
use Rattle.std.proofs.Math.ListN.{length}
use Rattle.tables.specs.laws.Tables.{tables_of}
use Rattle.tables.specs.Check.{read_tables}
use Rattle.negotiation.specs.State.{State, within}
use Rattle.negotiation.specs.laws.State.{state_of}
use Rattle.standing.specs.declared.Restored.{Restored}
use Rattle.damage.specs.Damage.{read_sound, sound, if_sound}
use Rattle.std.proofs.Common.{◌∙◌}
use Rattle.std.proofs.Math.Path.{refl, sym, ap, subst}
use borrow.Author.Tests.{eq-eqb, ne_eqb, eqb-true, not-true, not-false}
use Rattle.word.specs.laws.Bools.{false-true}
use Rattle.tables.specs.laws.Decoding.{Housed}
use Rattle.tables.specs.laws.Accepted.{accepted-sound}
use Rattle.tables.specs.declared.House.{House}
use Rattle.negotiation.specs.declared.Negotiation.{Negotiation}
use Rattle.negotiation.specs.Layout.{read_state}
use Rattle.negotiation.specs.laws.Layout.{reading_of}
use Rattle.negotiation.specs.laws.Codec.{read-within}
use Rattle.standing.specs.Standing.{behind_damage, behind_tables, restore_of}
use Rattle.numbers.specs.Answer.{Answer, refused, accepted}
use Rattle.numbers.specs.laws.Answer.{is_accepted}
use Rattle.tables.specs.Tables.{Tables}
use Rattle.numbers.specs.Refusals.{LENGTH}
use Rattle.numbers.specs.Sizes.{NEGOTIATION-BYTES}

-- what the code's answer is
unfoldable pub standing_of : Result Restored ℕ → Answer (Tables × State)
standing_of (Ok r) = accepted (tables_of r.house, state_of r.negotiation)
standing_of (Err k) = refused k

-- the same where what is found lies beside the answer
unfoldable pub found_of : Result (Unit {0}) ℕ → Restored → Answer (Tables × State)
found_of (Ok u) r = standing_of (Ok r)
found_of (Err k) r = standing_of (Err k)

pub found-standing : (u : Unit {0}) (r : Restored) → found_of (Ok u) r ≡ standing_of (Ok r)
unfolding found_of
found-standing u r = refl

pub refused-standing : (k : ℕ) (r : Restored) → found_of (Err k) r ≡ standing_of (Err k)
unfolding found_of
refused-standing k r = refl

-- what an accepted call can rely on
pub record Usable (r : Restored) : Type 0 where
  pub housed : Housed r.house
  pub within-sizes : within (state_of r.negotiation) ≡ true
  pub is-sound : sound (tables_of r.house) (state_of r.negotiation) ≡ true

-- a refused call
usable-refused : (r : Result Restored ℕ) {k : ℕ} → r ≡ Err k → IfOk r Usable
usable-refused r h = subst (λ (x : Result Restored ℕ). IfOk x Usable) (sym h) tt

standing-refused : (r : Result Restored ℕ) {k : ℕ} → r ≡ Err k → standing_of r ≡ refused k
unfolding standing_of
standing-refused r h = ap standing_of h

-- a state that is read is within the sizes
pub state-within : (s : List ℕ) (n : Negotiation) → reading_of (Some n) ≡ read_state s → within (state_of n) ≡ true
unfolding reading_of
state-within s n e = read-within s (state_of n) (sym e)

module _ (tables negotiation : List ℕ) where
  by_length : (b : Bool) → eqb (length negotiation) NEGOTIATION-BYTES ≡ b
      → restore_of tables negotiation ≡ cond b (behind_tables negotiation (read_tables tables)) (refused LENGTH)
  unfolding restore_of
  by_length b e = ap (λ (b : Bool). cond b (behind_tables negotiation (read_tables tables)) (refused LENGTH)) e

  -- a refusal that the meaning has
  gives : (r : Result Restored ℕ) (k : ℕ) → r ≡ Err k → restore_of tables negotiation ≡ refused k
      → (standing_of r ≡ restore_of tables negotiation) × (IfOk r Usable)
  gives r k e h = (standing-refused r e ∙ sym h, usable-refused r e)

  -- what is read of the state
  reads : (R : Returned Negotiation) → reading_of R ≡ read_state negotiation
      → MatchOption R (read_state negotiation ≡ none) (λ n. read_state negotiation ≡ some (state_of n))
  unfolding reading_of
  reads (Some n) e = sym e
  reads None e = sym e

  pub restore-outside : (length negotiation ≡ NEGOTIATION-BYTES → ⊥) → standing_of (Err 1) ≡ restore_of tables negotiation
  restore-outside h = (gives (Err 1) 1 refl (by_length false (ne_eqb (length negotiation) NEGOTIATION-BYTES h))).0

  module _ (l : length negotiation ≡ NEGOTIATION-BYTES) where
    pub restore-tables : {k : ℕ} → refused k ≡ read_tables tables → standing_of (Err k) ≡ restore_of tables negotiation
    restore-tables {k} e =
        (gives (Err k) k refl (by_length true (eq-eqb (length negotiation) NEGOTIATION-BYTES l) ∙ ap (behind_tables negotiation) (sym e))).0

    module _ (H : House) (accepts : accepted (tables_of H) ≡ read_tables tables) where
      by_state : (x : Option State) → if_sound (tables_of H) (read_state negotiation) ≡ x
          → restore_of tables negotiation ≡ behind_damage (tables_of H) x
      unfolding read_sound
      by_state x e =
          by_length true (eq-eqb (length negotiation) NEGOTIATION-BYTES l) ∙ ap (behind_tables negotiation) (sym accepts) ∙ ap (behind_damage (tables_of H)) e

      -- no state has these bytes
      pub restore-unread : reading_of None ≡ read_state negotiation → standing_of (Err 20) ≡ restore_of tables negotiation
      restore-unread e = (gives (Err 20) 20 refl (by_state none (ap (if_sound (tables_of H)) (reads None e)))).0

      module _ (n : Negotiation) (held : reading_of (Some n) ≡ read_state negotiation) {b : Bool} (be : b ≡ sound (tables_of H) (state_of n)) where
        by_sound : (t : Bool) → t ≡ sound (tables_of H) (state_of n) → restore_of tables negotiation ≡ behind_damage (tables_of H) (cond t (some (state_of n)) none)
        by_sound t e = by_state (cond t (some (state_of n)) none)
            (ap (if_sound (tables_of H)) (reads (Some n) held) ∙ ap (λ (t : Bool). cond t (some (state_of n)) none) (sym e))

        -- it is damaged
        pub restore-damaged : not b ≡ true → standing_of (Err 20) ≡ restore_of tables negotiation
        restore-damaged h = (gives (Err 20) 20 refl (by_sound false (sym (not-true b h) ∙ be))).0

        pub restore-sound : not b ≡ false → standing_of (Ok (record { house = H; negotiation = n })) ≡ restore_of tables negotiation
        unfolding standing_of
        restore-sound h = sym (by_sound true (sym (not-false b h) ∙ be))

        pub restore-usable : not b ≡ false → Housed H → Usable (record { house = H; negotiation = n })
        restore-usable h hd =
            record { housed = hd; within-sizes = state-within negotiation n held; is-sound = sym be ∙ not-false b h }

-- The house of accepted tables is an entity

abbrev own_in : Answer (Tables × State) → ℕ
own_in (refused k) = 0
own_in (accepted (T, S)) = T.own

behind-own : (tables negotiation : List ℕ) (o : Answer Tables) → read_tables tables ≡ o → is_accepted (behind_tables negotiation o) ≡ true
    → 0 < own_in (behind_tables negotiation o)
behind-own tables negotiation (refused k) e h = absurd (false-true h)
behind-own tables negotiation (accepted T) e h = go (read_sound T negotiation) h
  where
    go : (x : Option State) → is_accepted (behind_damage T x) ≡ true → 0 < own_in (behind_damage T x)
    go none k = absurd (false-true k)
    go (some S) k = (accepted-sound tables T e).own

module _ (tables negotiation : List ℕ) (r : Restored) (e : standing_of (Ok r) ≡ restore_of tables negotiation) where
  restored-standing : accepted (tables_of r.house, state_of r.negotiation) ≡ restore_of tables negotiation
  unfolding standing_of
  restored-standing = e

  pub restored-length : length negotiation ≡ NEGOTIATION-BYTES
  unfolding restore_of
  restored-length = go (eqb (length negotiation) NEGOTIATION-BYTES) refl (sym (ap is_accepted restored-standing))
    where
      go : (b : Bool) → eqb (length negotiation) NEGOTIATION-BYTES ≡ b
          → is_accepted (cond b (behind_tables negotiation (read_tables tables)) (refused LENGTH)) ≡ true → length negotiation ≡ NEGOTIATION-BYTES
      go true x h = eqb-true (length negotiation) NEGOTIATION-BYTES x
      go false x h = absurd (false-true h)

  pub restored-own : 0 < r.house.own
  unfolding restore_of tables_of
  restored-own =
      subst (λ (x : Answer (Tables × State)). 0 < own_in x) (sym restored-standing)
      (go (eqb (length negotiation) NEGOTIATION-BYTES) (sym (ap is_accepted restored-standing)))
    where
      go : (b : Bool) → is_accepted (cond b (behind_tables negotiation (read_tables tables)) (refused LENGTH)) ≡ true
          → 0 < own_in (cond b (behind_tables negotiation (read_tables tables)) (refused LENGTH))
      go true h = behind-own tables negotiation (read_tables tables) refl h
      go false h = absurd (false-true h)
