-- A record is read exactly where it stands, and refused exactly for its reason. Assumes nothing.
use Rattle.std.specs.Prelude.{ℕ, ◌<◌, ◌≡◌, refl, ◌↔◌, List, ◌++◌, length, get_or, drop, Result, Ok, Err}
use Rattle.std.proofs.Common.{arith, sym, ap, ◌∙◌, ⊎_elim, length-append, length-drop, take-append-drop}
use Rattle.record.specs.declared.Record.{Record}
use Rattle.record.specs.Record.{record_at, record_bytes, size_of}
use Rattle.record.specs.Unreadable.{StandsAt, Unreadable, cut, malformed}
use Rattle.record.specs.laws.RecordExact.{some_size, record-length, record-reason, record-whole, record-formed, record-only, record-back}

module _ (s : List ℕ) (at : ℕ) where
  -- a record that was read begins within the bytes
  pub read-inside : (r : Record) → record_at s at ≡ Ok r → at < length s
  read-inside r h = let w = record-whole s at r h in omega (arith, w.room, some_size w.like)

  from-stands : (r : Record) → StandsAt s at r → record_at s at ≡ Ok r
  from-stands r w =
      let rest : List ℕ = drop (size_of r) (drop at s) in
      let there : drop at s ≡ record_bytes r ++ rest = sym (take-append-drop (size_of r) (drop at s)) ∙ ap (λ (l : List ℕ). l ++ rest) w.bytes in
      let inside : at < length s = omega (arith, length-drop at s, ap length there, length-append (record_bytes r) rest, record-length r, some_size r) in
      record-back s at r rest (omega arith) there w.form

  module _ (bytes : (i : ℕ) → get_or s i 0 < 256) where
    to-stands : (r : Record) → record_at s at ≡ Ok r → StandsAt s at r
    to-stands r h = record { form = record-formed s at r h; bytes = record-only s at r bytes (read-inside r h) h }

    -- a record is read exactly where it stands
    pub stands-exactly : (r : Record) → (record_at s at ≡ Ok r) ↔ StandsAt s at r
    stands-exactly r = (to-stands r, from-stands r)

    module _ (k : ℕ) where
      to-unreadable : record_at s at ≡ Err k → Unreadable s at k
      to-unreadable h =
          ⊎_elim (λ w. cut w.1 w.0)
          (λ w. malformed w.1 (λ r v. absurd (let z : ◌≡◌ {A = ℕ} 0 1 = cc (h, from-stands r v) in omega arith)) w.0) (record-reason s at k h)

      from-unreadable : Unreadable s at k → record_at s at ≡ Err k
      from-unreadable u = go (record_at s at) refl u
        where
          go : (x : Result Record ℕ) → record_at s at ≡ x → Unreadable s at k → x ≡ Err k
          go (Ok r) h (cut n e) = absurd (n (record-whole s at r h))
          go (Ok r) h (malformed w n e) = absurd (n r (to-stands r h))
          go (Err j) h (cut n e) = ⊎_elim (λ w. ap Err (w.0 ∙ sym e)) (λ w. absurd (n w.1)) (record-reason s at j h)
          go (Err j) h (malformed v n e) = ⊎_elim (λ w. absurd (w.1 v)) (λ w. ap Err (w.0 ∙ sym e)) (record-reason s at j h)

      -- no record can be read at an index, with a number, exactly where its reason holds
      pub unreadable-exactly : (record_at s at ≡ Err k) ↔ Unreadable s at k
      unreadable-exactly = (to-unreadable, from-unreadable)
