-- A call finds nothing exactly for a length, for the tables or for damage. Assumes nothing.
use Rattle.std.specs.Prelude.{ℕ, ◌↔◌, Bool, true, false, List, eqb, length}
use Rattle.std.proofs.Math.Path.{◌≡◌, refl, sym, ap}
use Rattle.std.proofs.Common.{◌∙◌, eqb-true, eq-eqb, ne_eqb}
use Rattle.std.proofs.Math.Bool.{cond}
use Rattle.std.proofs.Math.Option.{Option, none, some}
use Rattle.std.proofs.lemmas.Bool.{eqb-false}
use Rattle.word.specs.laws.Bools.{false-true}
use Rattle.numbers.specs.Sizes.{NEGOTIATION-BYTES}
use Rattle.numbers.specs.Refusals.{LENGTH}
use Rattle.numbers.specs.Answer.{Answer, refused, accepted}
use Rattle.numbers.specs.laws.Answer.{is_refused, number_of}
use Rattle.tables.specs.Tables.{Tables}
use Rattle.tables.specs.Check.{read_tables}
use Rattle.negotiation.specs.State.{State}
use Rattle.damage.specs.Damage.{read_sound}
use Rattle.standing.specs.Standing.{behind_damage, behind_tables, restore_of}
use Rattle.standing.specs.Holds.{Unrestored, wrong-length, unread, damaged}
use Rattle.standing.specs.laws.Exactly.{damaged-exactly}

module _ (tables negotiation : List ℕ) (k : ℕ) where
  to-unrestored : restore_of tables negotiation ≡ refused k → Unrestored tables negotiation k
  unfolding restore_of
  to-unrestored h = by_length (eqb (length negotiation) NEGOTIATION-BYTES) refl h
    where
      number : {A : Type 0} {j : ℕ} → ◌≡◌ {A = Answer A} (refused j) (refused k) → k ≡ j
      number q = sym (ap number_of q)

      by-damage : (T : Tables) (x : Option State) → behind_damage T x ≡ refused k → Unrestored tables negotiation k
      by-damage T none q = damaged ((damaged-exactly tables negotiation).0 (h ∙ ap refused (number q))) (number q)
      by-damage T (some S) q = absurd (false-true (ap is_refused q))

      by-tables : length negotiation ≡ NEGOTIATION-BYTES → (a : Answer Tables) → read_tables tables ≡ a → behind_tables negotiation a ≡ refused k
          → Unrestored tables negotiation k
      by-tables l (refused j) e q = unread l (e ∙ ap refused (sym (number q)))
      by-tables l (accepted T) e q = by-damage T (read_sound T negotiation) q

      by_length : (b : Bool) → eqb (length negotiation) NEGOTIATION-BYTES ≡ b
          → cond b (behind_tables negotiation (read_tables tables)) (refused LENGTH) ≡ refused k → Unrestored tables negotiation k
      by_length true x q = by-tables (eqb-true (length negotiation) NEGOTIATION-BYTES x) (read_tables tables) refl q
      by_length false x q = wrong-length (eqb-false (length negotiation) NEGOTIATION-BYTES x) (number q)

  from-unrestored : Unrestored tables negotiation k → restore_of tables negotiation ≡ refused k
  unfolding restore_of
  from-unrestored (wrong-length l e) =
      (λ i. cond (ne_eqb (length negotiation) NEGOTIATION-BYTES l i) (behind_tables negotiation (read_tables tables)) (refused LENGTH)) ∙ ap refused (sym e)
  from-unrestored (unread l e) = λ i. cond (eq-eqb (length negotiation) NEGOTIATION-BYTES l i) (behind_tables negotiation (e i)) (refused LENGTH)
  from-unrestored (damaged d e) = (damaged-exactly tables negotiation).1 d ∙ ap refused (sym e)

  -- nothing is found, with a number, exactly where its reason holds and no earlier one does
  pub unrestored-exactly : (restore_of tables negotiation ≡ refused k) ↔ Unrestored tables negotiation k
  unrestored-exactly = (to-unrestored, from-unrestored)
