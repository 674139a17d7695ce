-- What the call leaves in the buffers. Assumes nothing.
use Rattle.std.specs.Prelude.{ℕ, ◌-◌, ◌*◌, ◌≤◌, ◌≡◌, Bool, false, not, List, eqb, leb, length, Result, Ok, Err}
use Rattle.std.proofs.Math.Path.{refl, sym, ap}
use Rattle.std.proofs.Common.{◌∙◌, subst}
use Rattle.std.proofs.Math.Bool.{true, cond}
use Rattle.std.proofs.Math.Option.{Option, none, some}
use borrow.Author.Tests.{eq-eqb, ne_eqb, not-true, not-false, eqb-true, leb-true}
use Rattle.expression.specs.Bytes.{pasted}
use Rattle.word.specs.laws.Bools.{and_parts, false-true}
use Rattle.tables.specs.Tables.{Tables}
use Rattle.tables.specs.laws.Tables.{tables_of}
use Rattle.tables.specs.Accepted.{Sound}
use Rattle.tables.specs.laws.Accepted.{accepted-sound}
use Rattle.tables.specs.Check as C
use Rattle.negotiation.specs.State.{State}
use Rattle.negotiation.specs.laws.State.{state_of}
use Rattle.negotiation.specs.Layout.{state_bytes, zeros}
use Rattle.negotiation.specs.laws.Layout.{paste-whole, length-zeros}
use Rattle.negotiation.specs.declared.Negotiation.{Negotiation}
use Rattle.standing.specs.declared.Restored.{Restored}
use Rattle.damage.specs.Damage.{read_sound}
use Rattle.standing.specs.Standing as R
use Rattle.standing.specs.laws.Standing.{standing_of}
use Rattle.reply.specs.Reply.{replied_in, behind_standing, reply_size, reply_of, reply_left, length_of, given_state}
use Rattle.reply.specs.laws.Reply.{Replies}
use Rattle.numbers.specs.Answer.{Answer, refused, accepted, answer_of, buffer_after}
use Rattle.numbers.specs.laws.Answer.{is_accepted, first_of}
use Rattle.standing.specs.Buffers.{scratch_left}
use Rattle.numbers.specs.Refusals.{LENGTH}
use Rattle.numbers.specs.Sizes.{NEGOTIATION-BYTES, SCRATCH-BYTES}

-- Tables that stand are sound

standing-sound : (tables negotiation : List ℕ) (T : Tables) (S : State) → R.restore_of tables negotiation ≡ accepted (T, S) → Sound T
unfolding R.restore_of
standing-sound tables negotiation T S e = by_length (eqb (length negotiation) NEGOTIATION-BYTES) e
  where
    by-damage : (U : Tables) (o : Option State) → C.read_tables tables ≡ accepted U → R.behind_damage U o ≡ accepted (T, S) → Sound T
    by-damage U none q h = absurd (false-true (ap is_accepted h))
    by-damage U (some W) q h = subst Sound (ap (first_of T) h) (accepted-sound tables U q)

    by-tables : (o : Answer Tables) → C.read_tables tables ≡ o → R.behind_tables negotiation o ≡ accepted (T, S) → Sound T
    by-tables (refused k) q h = absurd (false-true (ap is_accepted h))
    by-tables (accepted U) q h = by-damage U (read_sound U negotiation) q h

    by_length : (b : Bool) → cond b (R.behind_tables negotiation (C.read_tables tables)) (refused LENGTH) ≡ accepted (T, S) → Sound T
    by_length true h = by-tables (C.read_tables tables) refl h
    by_length false h = absurd (false-true (ap is_accepted h))

-- The buffers

-- what a call leaves
abbrev Leaves : List ℕ → List ℕ → List ℕ → Answer (List ℕ × State) → ℕ → List ℕ → List ℕ → List ℕ → Type 0
Leaves negotiation reply scratch o r n p s =
    (r ≡ answer_of length_of o) × ((n ≡ buffer_after given_state negotiation o) × ((p ≡ reply_left reply o) × (s ≡ scratch_left scratch o)))

module _ (tables negotiation reply scratch : List ℕ) where
  by_size : (b : Bool) → reply_size (length reply) (length scratch) ≡ b → (s : Answer (Tables × State)) → R.restore_of tables negotiation ≡ s
      → reply_of tables negotiation reply scratch ≡ cond b (behind_standing s) (refused LENGTH)
  unfolding reply_of
  by_size b x s y = λ i. cond (x i) (behind_standing (y i)) (refused LENGTH)

  refuses : (k : ℕ) {p : List ℕ} → reply_of tables negotiation reply scratch ≡ refused k → p ≡ reply
      → Leaves negotiation reply scratch (reply_of tables negotiation reply scratch) k negotiation p scratch
  refuses k {p} e q = subst (λ (o : Answer (List ℕ × State)). Leaves negotiation reply scratch o k negotiation p scratch) (sym e) (refl, (refl, (q, refl)))

  module _ {b : Bool} (be : b ≡ reply_size (length reply) (length scratch)) where
    -- a length
    pub reply-size : not b ≡ true → Leaves negotiation reply scratch (reply_of tables negotiation reply scratch) 1 negotiation reply scratch
    reply-size h = refuses 1 (by_size false (sym be ∙ not-true b h) _ refl) refl

    module _ (bh : not b ≡ false) where
      sized : reply_size (length reply) (length scratch) ≡ true
      sized = sym be ∙ not-false b bh

      pub size-parts : (4096 ≤ length reply) × (length scratch ≡ 4096)
      unfolding reply_size
      size-parts =
          let p = and_parts (leb 4096 (length reply)) (eqb (length scratch) SCRATCH-BYTES) sized in
          (leb-true 4096 (length reply) p.0, eqb-true (length scratch) SCRATCH-BYTES p.1)

      module _ (r : Result Restored ℕ) (re : standing_of r ≡ R.restore_of tables negotiation) where
        -- the tables or the negotiation
        pub reply-unrestored : {k : ℕ} → r ≡ Err k
            → Leaves negotiation reply scratch (reply_of tables negotiation reply scratch) k negotiation reply scratch
        unfolding standing_of
        reply-unrestored {k} q = refuses k (by_size true sized (refused k) (sym re ∙ ap standing_of q)) refl

        module _ {held : Restored} (q : r ≡ Ok held) where
          stands : R.restore_of tables negotiation ≡ accepted (tables_of held.house, state_of held.negotiation)
          unfolding standing_of
          stands = sym re ∙ ap standing_of q

          pub restored-sound : Sound (tables_of held.house)
          restored-sound = standing-sound tables negotiation (tables_of held.house) (state_of held.negotiation) stands

          module _ (n' : Negotiation) (t : Result ℕ ℕ) {p : List ℕ} (te : Replies (tables_of held.house) (state_of held.negotiation) reply n' t p) where
            is-outcome : reply_of tables negotiation reply scratch ≡ replied_in (tables_of held.house) (state_of held.negotiation)
            is-outcome = by_size true sized (accepted (tables_of held.house, state_of held.negotiation)) stands

            -- the end or the turn
            pub reply-refused : {k : ℕ} → t ≡ Err k
                → Leaves negotiation reply scratch (reply_of tables negotiation reply scratch) k negotiation p scratch
            reply-refused {k} e = refuses k (is-outcome ∙ (te.refuses k e).0) (te.refuses k e).1

            pub reply-given : {at : ℕ} {n s : List ℕ} → t ≡ Ok at → n ≡ state_bytes (state_of n') → s ≡ pasted scratch 0 (zeros (4096 - 0))
                → Leaves negotiation reply scratch (reply_of tables negotiation reply scratch) (at * 256) n p s
            reply-given {at} {n} {s} e ne se =
                let l : length scratch ≡ 4096 = size-parts.1 in
                subst (λ (o : Answer (List ℕ × State)). Leaves negotiation reply scratch o (at * 256) n p s) (sym (is-outcome ∙ te.gives at e)) (
                  ap (λ (k : ℕ). k * 256) (te.size at e),
                  (ne, (te.written at e, se ∙ paste-whole scratch (zeros 4096) (length-zeros 4096 ∙ sym l) ∙ ap zeros (sym l))),
                )
