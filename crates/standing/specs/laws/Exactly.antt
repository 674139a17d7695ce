-- What a call finds in its tables and its negotiation, exactly. Assumes nothing.
use Rattle.std.specs.Prelude.{ℕ, ◌≡◌, ◌↔◌, Bool, List, eqb}
use Rattle.std.proofs.Common.{arith, ◌∙◌, eqb-true, eq-eqb}
use Rattle.std.proofs.Math.Path.{refl, sym, ap}
use Rattle.std.proofs.Math.Bool.{true, false, cond}
use Rattle.std.proofs.Math.Option.{Option, none, some}
use Rattle.std.proofs.Math.ListN.{length}
use Rattle.word.specs.laws.Bools.{false-true}
use Rattle.numbers.specs.Refusals.{LENGTH, DAMAGED}
use Rattle.numbers.specs.Sizes.{NEGOTIATION-BYTES}
use Rattle.numbers.specs.Answer.{Answer, refused, accepted}
use Rattle.numbers.specs.laws.Answer.{is_accepted, number_of, first_of, second_of}
use Rattle.tables.specs.Tables.{Tables}
use Rattle.tables.specs.Check.{read_tables}
use Rattle.tables.specs.laws.Accepted.{check-numbers}
use Rattle.negotiation.specs.State.{State, within}
use Rattle.negotiation.specs.Layout.{state_bytes, read_state}
use Rattle.negotiation.specs.laws.Codec.{layout-length, state-back, state-only, read-within}
use Rattle.damage.specs.Damage.{sound, if_sound, read_sound}
use Rattle.standing.specs.Standing.{behind_damage, behind_tables, restore_of}
use Rattle.standing.specs.Holds.{Holds, Damaged}

module _ (tables negotiation : List ℕ) where
  to-holds : (T : Tables) (S : State) → restore_of tables negotiation ≡ accepted (T, S) → Holds tables negotiation T S
  unfolding restore_of read_sound
  to-holds T S e = by_length (eqb (length negotiation) NEGOTIATION-BYTES) e
    where
      by-sound : (U : Tables) (W : State) → read_tables tables ≡ accepted U → read_state negotiation ≡ some W → (c : Bool) → sound U W ≡ c
          → behind_damage U (cond c (some W) none) ≡ accepted (T, S) → Holds tables negotiation T S
      by-sound U W q r true s h =
          let t : U ≡ T = ap (first_of T) h in
          let w : W ≡ S = ap (second_of S) h in
          record {
            house = q ∙ ap accepted t;
            bytes = state-only negotiation W r ∙ ap state_bytes w;
            sizes = sym (ap within w) ∙ read-within negotiation W r;
            undamaged = (λ i. sound (sym t i) (sym w i)) ∙ s;
          }
      by-sound U W q r false s h = absurd (false-true (ap is_accepted h))

      by_state : (U : Tables) → read_tables tables ≡ accepted U → (x : Option State) → read_state negotiation ≡ x
          → behind_damage U (if_sound U x) ≡ accepted (T, S) → Holds tables negotiation T S
      by_state U q none r h = absurd (false-true (ap is_accepted h))
      by_state U q (some W) r h = by-sound U W q r (sound U W) refl h

      by-tables : (o : Answer Tables) → read_tables tables ≡ o → behind_tables negotiation o ≡ accepted (T, S) → Holds tables negotiation T S
      by-tables (refused k) q h = absurd (false-true (ap is_accepted h))
      by-tables (accepted U) q h = by_state U q (read_state negotiation) refl h

      by_length : (b : Bool) → cond b (behind_tables negotiation (read_tables tables)) (refused LENGTH) ≡ accepted (T, S) → Holds tables negotiation T S
      by_length true h = by-tables (read_tables tables) refl h
      by_length false h = absurd (false-true (ap is_accepted h))

  from-holds : (T : Tables) (S : State) → Holds tables negotiation T S → restore_of tables negotiation ≡ accepted (T, S)
  unfolding restore_of read_sound
  from-holds T S w =
      let l : length negotiation ≡ NEGOTIATION-BYTES = ap length w.bytes ∙ layout-length S w.sizes in
      let r : read_state negotiation ≡ some S = ap read_state w.bytes ∙ state-back S w.sizes in
      (λ i. cond (eq-eqb (length negotiation) NEGOTIATION-BYTES l i) (behind_tables negotiation (w.house i)) (refused LENGTH))
      ∙ ap (λ (x : Option State). behind_damage T (if_sound T x)) r
      ∙ ap (λ (b : Bool). behind_damage T (cond b (some S) none)) w.undamaged

  -- a call finds the tables T and the state S exactly where the lent bytes are theirs, and neither is at fault
  pub restored-exactly : (T : Tables) (S : State) → (restore_of tables negotiation ≡ accepted (T, S)) ↔ Holds tables negotiation T S
  restored-exactly T S = (to-holds T S, from-holds T S)

  to-damaged : restore_of tables negotiation ≡ refused DAMAGED → Damaged tables negotiation
  unfolding restore_of
  to-damaged e = by_length (eqb (length negotiation) NEGOTIATION-BYTES) refl e
    where
      by-tables : length negotiation ≡ NEGOTIATION-BYTES → (o : Answer Tables) → read_tables tables ≡ o → behind_tables negotiation o ≡ refused DAMAGED
          → Damaged tables negotiation
      by-tables l (refused k) q h = let z : k ≡ DAMAGED = ap number_of h in absurd (omega (arith, check-numbers tables k q))
      by-tables l (accepted U) q h =
          record { size = l; house = U; read = q; none-held = λ S w. false-true (sym (ap is_accepted e) ∙ ap is_accepted (from-holds U S w)) }

      by_length : (b : Bool) → eqb (length negotiation) NEGOTIATION-BYTES ≡ b
          → cond b (behind_tables negotiation (read_tables tables)) (refused LENGTH) ≡ refused DAMAGED → Damaged tables negotiation
      by_length true x h = by-tables (eqb-true (length negotiation) NEGOTIATION-BYTES x) (read_tables tables) refl h
      by_length false x h = absurd (let z : ◌≡◌ {A = ℕ} LENGTH DAMAGED = ap number_of h in omega arith)

  from-damaged : Damaged tables negotiation → restore_of tables negotiation ≡ refused DAMAGED
  unfolding restore_of read_sound
  from-damaged d =
      (λ i. cond (eq-eqb (length negotiation) NEGOTIATION-BYTES d.size i) (behind_tables negotiation (d.read i)) (refused LENGTH))
      ∙ by_state (read_state negotiation) refl
    where
      by-sound : (W : State) → read_state negotiation ≡ some W → (c : Bool) → sound d.house W ≡ c
          → behind_damage d.house (cond c (some W) none) ≡ refused DAMAGED
      by-sound W r true s =
          absurd (d.none-held W (record { house = d.read; bytes = state-only negotiation W r; sizes = read-within negotiation W r; undamaged = s }))
      by-sound W r false s = refl

      by_state : (x : Option State) → read_state negotiation ≡ x → behind_damage d.house (if_sound d.house x) ≡ refused DAMAGED
      by_state none r = refl
      by_state (some W) r = by-sound W r (sound d.house W) refl

  -- "20 negotiation damaged", exactly
  pub damaged-exactly : (restore_of tables negotiation ≡ refused DAMAGED) ↔ Damaged tables negotiation
  damaged-exactly = (to-damaged, from-damaged)
