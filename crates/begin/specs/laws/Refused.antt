-- Begin is refused exactly for its reason, and accepted exactly where there is none. Assumes nothing.
use Rattle.std.specs.Prelude.{ℕ, ◌<◌, ◌≤◌, ◌≡◌, ◌↔◌, ◌⊎◌, Bool, ◌&&◌, ◌||◌, List, length, get_or}
use Rattle.std.proofs.Common.{arith, sym, ◌∙◌, inl, inr}
use Rattle.std.proofs.Math.Path.{refl, ap, subst}
use Rattle.std.proofs.Math.Bool.{true, false, cond}
use borrow.Author.Tests.{eqb-true, eqb-false, eq-eqb, ne_eqb}
use Rattle.std.proofs.Math.Dec.{eqb}
use Rattle.tables.specs.Tables.{Tables}
use Rattle.tables.specs.Check.{or_else, read_tables}
use Rattle.tables.specs.laws.Accepted.{check-numbers}
use Rattle.tables.specs.laws.Refused.{refused-range, check-refused-exactly}
use Rattle.negotiation.specs.State.{State}
use Rattle.begin.specs.Begin.{role_number, other_number, begin_number, begun_state, behind_tables, begin_of}
use Rattle.begin.specs.Refused.{Lent, Wanted, requester, mediator, OneZero, zero-entity, zero-name, BeginRefused, wrong-length, unread, one-zero}
use Rattle.begin.specs.Refused.{other-end, Begun}
use Rattle.numbers.specs.Answer.{Answer, refused, accepted, judged}
use Rattle.numbers.specs.Refusals.{LENGTH, NAME}
use Rattle.numbers.specs.Sizes.{NEGOTIATION-BYTES}

-- The wanted role and the other end

abbrev by_tests : Bool → Bool → ℕ
by_tests e n = cond (e && n) 0 (cond (e || n) 3 0)

module _ (entity name : ℕ) where
  role-tests : {e n : Bool} → eqb entity 0 ≡ e → eqb name 0 ≡ n → role_number entity name ≡ by_tests e n
  unfolding role_number
  role-tests p q = λ i. by_tests (p i) (q i)

  role-zero : OneZero entity name → role_number entity name ≡ 3
  role-zero (zero-entity p q) = role-tests (eq-eqb entity 0 p) (ne_eqb name 0 q)
  role-zero (zero-name p q) = role-tests (ne_eqb entity 0 p) (eq-eqb name 0 q)

  role-free : Wanted entity name → role_number entity name ≡ 0
  role-free (requester p q) = role-tests (eq-eqb entity 0 p) (eq-eqb name 0 q)
  role-free (mediator p q) = role-tests (ne_eqb entity 0 p) (ne_eqb name 0 q)

module _ (own other : ℕ) where
  other-tests : {o w : Bool} → eqb other 0 ≡ o → eqb other own ≡ w → other_number own other ≡ cond (o || w) 7 0
  unfolding other_number
  other-tests p q = λ i. cond (p i || q i) 7 0

  other-same : (other ≡ 0) ⊎ (other ≡ own) → other_number own other ≡ 7
  other-same (inl e) = other-tests (eq-eqb other 0 e) refl
  other-same (inr e) = other-tests refl (eq-eqb other own e) ∙ go (eqb other 0)
    where
      go : (o : Bool) → ◌≡◌ {A = ℕ} (cond (o || true) 7 0) 7
      go true = refl
      go false = refl

-- The call

module _ (tables negotiation : List ℕ) (other entity name : ℕ) where
  abbrev Refusal : ℕ → Type 0
  Refusal k = BeginRefused tables negotiation other entity name k

  module _ {T : Tables} (g : Lent tables negotiation T) where
    by-numbers : {j k : ℕ} → role_number entity name ≡ j → other_number T.own other ≡ k
        → begin_of tables negotiation other entity name ≡ judged (or_else j k) (accepted (begun_state T other entity name))
    unfolding begin_of begin_number
    by-numbers p q =
        (λ i. cond (eq-eqb (length negotiation) NEGOTIATION-BYTES g.size i) (behind_tables other entity name (g.house i)) (refused LENGTH))
        ∙ (λ i. judged (or_else (p i) (q i)) (accepted (begun_state T other entity name)))

  -- what an answer says of the call: X of a refusal, which follows from the reason and from a refusal of the tables
  module _ (X : ℕ → Type 0) (reason : (k : ℕ) → Refusal k → X k)
      (house : (k : ℕ) → length negotiation ≡ NEGOTIATION-BYTES → read_tables tables ≡ refused k → X k) where
    abbrev Says : Answer State → Type 0
    Says (refused k) = X k
    Says (accepted S) = Begun tables negotiation other entity name S

    module _ {T : Tables} (g : Lent tables negotiation T) where
      other-says : Wanted entity name → (o w : Bool) → eqb other 0 ≡ o → eqb other T.own ≡ w
          → Says (judged (cond (o || w) 7 0) (accepted (begun_state T other entity name)))
      other-says r true w p q = reason 7 (other-end g r (inl (eqb-true other 0 p)) refl)
      other-says r false true p q = reason 7 (other-end g r (inr (eqb-true other T.own q)) refl)
      other-says r false false p q =
          record { house = T; lent = g; wanted = r; nonzero = eqb-false other 0 p; distinct = eqb-false other T.own q; fresh = refl }

      role-says : (k : ℕ) (a : Answer State) → (Wanted entity name → Says (judged k a)) → (e n : Bool)
          → eqb entity 0 ≡ e → eqb name 0 ≡ n → Says (judged (or_else (by_tests e n) k) a)
      role-says k a free true true p q = free (requester (eqb-true entity 0 p) (eqb-true name 0 q))
      role-says k a free true false p q = reason 3 (one-zero g (zero-entity (eqb-true entity 0 p) (eqb-false name 0 q)) refl)
      role-says k a free false true p q = reason 3 (one-zero g (zero-name (eqb-false entity 0 p) (eqb-true name 0 q)) refl)
      role-says k a free false false p q = free (mediator (eqb-false entity 0 p) (eqb-false name 0 q))

      lent_says : Says (begin_of tables negotiation other entity name)
      lent_says =
          subst Says (sym (by-numbers g (role-tests entity name refl refl) (other-tests T.own other refl refl)))
          (role-says (cond (eqb other 0 || eqb other T.own) 7 0) (accepted (begun_state T other entity name))
          (λ r. other-says r (eqb other 0) (eqb other T.own) refl refl) (eqb entity 0) (eqb name 0) refl refl)

    begin-says : Says (begin_of tables negotiation other entity name)
    unfolding begin_of
    begin-says = go (eqb (length negotiation) NEGOTIATION-BYTES) (read_tables tables) refl refl
      where
        go : (b : Bool) (a : Answer Tables) → eqb (length negotiation) NEGOTIATION-BYTES ≡ b → read_tables tables ≡ a
            → Says (cond (eqb (length negotiation) NEGOTIATION-BYTES) (behind_tables other entity name (read_tables tables)) (refused LENGTH))
        go false a p q =
            subst Says (λ i. cond (sym p i) (behind_tables other entity name (read_tables tables)) (refused LENGTH))
            (reason 1 (wrong-length (eqb-false (length negotiation) NEGOTIATION-BYTES p) refl))
        go true (refused k) p q =
            subst Says (λ i. cond (sym p i) (behind_tables other entity name (sym q i)) (refused LENGTH))
            (house k (eqb-true (length negotiation) NEGOTIATION-BYTES p) q)
        go true (accepted T) p q = lent_says (record { size = eqb-true (length negotiation) NEGOTIATION-BYTES p; house = q })

  -- Refused

  module _ (bytes : (i : ℕ) → get_or tables i 0 < 256) where
    to-refusal : (k : ℕ) → begin_of tables negotiation other entity name ≡ refused k → Refusal k
    to-refusal k h =
        let house : (j : ℕ) → length negotiation ≡ NEGOTIATION-BYTES → read_tables tables ≡ refused j → Refusal j
        = λ j l e. unread l ((check-refused-exactly tables bytes j).0 e) in
        subst (Says Refusal (λ j b. b) house) h (begin-says Refusal (λ j b. b) house)

    from-refusal : {k : ℕ} → Refusal k → begin_of tables negotiation other entity name ≡ refused k
    unfolding begin_of
    from-refusal (wrong-length n e) =
        (λ i. cond (ne_eqb (length negotiation) NEGOTIATION-BYTES n i) (behind_tables other entity name (read_tables tables)) (refused LENGTH))
        ∙ ap refused (sym e)
    from-refusal {k} (unread l u) =
        λ i. cond (eq-eqb (length negotiation) NEGOTIATION-BYTES l i)
        (behind_tables other entity name ((check-refused-exactly tables bytes k).1 u i)) (refused LENGTH)
    from-refusal (one-zero {T} g z e) = by-numbers g (role-zero entity name z) refl ∙ ap refused (sym e)
    from-refusal (other-end {T} g w o e) = by-numbers g (role-free entity name w) (other-same T.own other o) ∙ ap refused (sym e)

    -- begin is refused with a number exactly where its reason holds and no earlier one does
    pub begin-refused-exactly : (k : ℕ) → (begin_of tables negotiation other entity name ≡ refused k) ↔ BeginRefused tables negotiation other entity name k
    begin-refused-exactly k = (to-refusal k, from-refusal)

  abbrev Numbered : ℕ → Type 0
  Numbered k = (0 < k) × (k ≤ 7) × (k ≡ NAME → ⊥)

  refusal-range : (k : ℕ) → Refusal k → Numbered k
  refusal-range k (wrong-length n e) = (omega arith, omega arith, λ z. omega (arith, z))
  refusal-range k (unread l u) = let w = refused-range u in (w.0, omega (arith, w.1), w.2)
  refusal-range k (one-zero g z e) = (omega arith, omega arith, λ y. omega (arith, y))
  refusal-range k (other-end g w o e) = (omega arith, omega arith, λ z. omega (arith, z))

  -- begin is refused by a number from 1 to 7, and never by 4
  pub begin-numbers : (k : ℕ) → begin_of tables negotiation other entity name ≡ refused k → (0 < k) × (k ≤ 7) × (k ≡ NAME → ⊥)
  begin-numbers k h =
      let house : (j : ℕ) → length negotiation ≡ NEGOTIATION-BYTES → read_tables tables ≡ refused j → Numbered j
      = λ j l e. let w = check-numbers tables j e in (w.0, omega (arith, w.1), w.2) in
      subst (Says Numbered refusal-range house) h (begin-says Numbered refusal-range house)

  -- Accepted

  to-begun : (S : State) → begin_of tables negotiation other entity name ≡ accepted S → Begun tables negotiation other entity name S
  to-begun S h = subst (Says (λ k. Unit {0}) (λ k b. tt) (λ k l e. tt)) h (begin-says (λ k. Unit {0}) (λ k b. tt) (λ k l e. tt))

  from-begun : (S : State) → Begun tables negotiation other entity name S → begin_of tables negotiation other entity name ≡ accepted S
  from-begun S b =
      let T : Tables = b.house in
      by-numbers b.lent (role-free entity name b.wanted)
      (other-tests T.own other (ne_eqb other 0 b.nonzero) (ne_eqb other T.own b.distinct))
      ∙ ap accepted (sym b.fresh)

  -- begin makes a fresh negotiation exactly where there is no reason
  pub begun-exactly : (S : State) → (begin_of tables negotiation other entity name ≡ accepted S) ↔ Begun tables negotiation other entity name S
  begun-exactly S = (to-begun S, from-begun S)
