-- The reading of whole tables, command by command. Assumes nothing.
use Rattle.std.specs.Prelude.{ℕ, ◌≡◌, true, false, List, [], Result, Ok, Err}
use Rattle.std.proofs.Math.Path.{sym}
use Rattle.std.proofs.Common.{◌∙◌}
use Rattle.expression.specs.declared.Credential.{Credential}
use Rattle.rt0.specs.declared.Pool.{Pool}
use Rattle.rt0.specs.laws.Pool.{credentials}
use Rattle.class.specs.declared.Name.{Name}
use Rattle.class.specs.declared.Names.{Names}
use Rattle.class.specs.laws.Names.{names_of}
use Rattle.record.specs.declared.Pair.{Pair}
use Rattle.tables.specs.declared.Pairs.{Pairs}
use Rattle.tables.specs.declared.House.{House}
use Rattle.tables.specs.Tables.{with_pairs}
use Rattle.tables.specs.laws.Tables.{pairs_of, tables_of}
use Rattle.tables.specs.laws.Groups.{names, credentials_of, pairs}
use Rattle.tables.specs.laws.Reading.{tables_for, judged_by, NamesGone, StoredGone, PairsGone}
use Rattle.tables.specs.laws.BehindRecords.{names-ranked, issuer-ranked, subject-ranked, sensitive-ranked, access-ranked}
use Rattle.tables.specs.laws.Decoding.{left_of, without_pairs, Come, Wrong, Filled, Housed}
use Rattle.tables.specs.laws.DecodingLaws.{open-names, open-issuer, open-subject, open-sensitive, open-access, come-wrong, come-on, left-nothing, left-wrong, class_same}

module _ {s : List ℕ} {start own : ℕ} where
  -- names
  module _ (c : Come s start 1 (without_pairs own [] [] [])) (N : Names) where
    pub names-wrong : {k : ℕ} → NamesGone s start (Err k) N → Wrong s k
    names-wrong g = come-wrong c (open-names own c.behind.begun) g.gone

    pub names-come : {at : ℕ} → NamesGone s start (Ok at) N → Come s at 2 (without_pairs own (names_of N) [] [])
    unfolding names
    names-come g = come-on c (open-names own c.behind.begun) g.gone names-ranked

  -- issuer-stored credentials
  module _ (ns : List Name) (c : Come s start 2 (without_pairs own ns [] [])) (P : Pool) where
    pub issuer-wrong : {k : ℕ} → StoredGone ns false s start (Err k) P → Wrong s k
    issuer-wrong g = come-wrong c (open-issuer own c.behind.begun ns) g

    pub issuer-come : {at : ℕ} → StoredGone ns false s start (Ok at) P → Come s at 3 (without_pairs own ns (credentials P) [])
    unfolding credentials_of
    issuer-come g = come-on c (open-issuer own c.behind.begun ns) g issuer-ranked

  -- subject-stored ones
  module _ (ns : List Name) (I : List Credential) (c : Come s start 3 (without_pairs own ns I [])) (P : Pool) where
    pub subject-wrong : {k : ℕ} → StoredGone ns true s start (Err k) P → Wrong s k
    subject-wrong g = come-wrong c (open-subject own c.behind.begun ns I) g

    pub subject-come : {at : ℕ} → StoredGone ns true s start (Ok at) P → Come s at 4 (without_pairs own ns I (credentials P))
    unfolding credentials_of
    subject-come g = come-on c (open-subject own c.behind.begun ns I) g subject-ranked

  -- sensitive roles, by any others
  module _ (ns : List Name) (I S : List Credential) (c : Come s start 4 (without_pairs own ns I S)) (Q : List Pair) (P : Pairs) where
    pub sensitive-wrong : {k : ℕ} → PairsGone (tables_for own ns S Q) false s start (Err k) P → Wrong s k
    sensitive-wrong g = come-wrong c (open-sensitive own c.behind.begun ns I S Q) g

    pub sensitive-come : {at : ℕ} → PairsGone (tables_for own ns S Q) false s start (Ok at) P
        → Come s at 5 (with_pairs false (without_pairs own ns I S) (pairs_of P))
    unfolding pairs
    sensitive-come g = come-on c (open-sensitive own c.behind.begun ns I S Q) g sensitive-ranked

  -- AC records
  module _ (ns : List Name) (I S : List Credential) (L : List Pair) (c : Come s start 5 (with_pairs false (without_pairs own ns I S) L)) (P : Pairs) where
    pub access-wrong : {k : ℕ} → PairsGone (tables_for own ns S L) true s start (Err k) P → Wrong s k
    access-wrong g = come-wrong c (open-access own c.behind.begun ns I S L) g

    pub access-come : {at : ℕ} → PairsGone (tables_for own ns S L) true s start (Ok at) P
        → Come s at 6 (with_pairs true (with_pairs false (without_pairs own ns I S) L) (pairs_of P))
    unfolding pairs
    access-come g = come-on c (open-access own c.behind.begun ns I S L) g access-ranked

-- nothing stands behind them, or a record that is refused
pub filled : (s : List ℕ) (at : ℕ) (H : House) → Come s at 6 (tables_of H) → Housed H → (r : Result (Unit {0}) ℕ) → r ≡ left_of s at (judged_by H) → Filled s r H
unfolding tables_of
filled s at H c h (Ok u) e = (left-nothing s at _ _ (class_same _ _ _ _ _ _) c.behind e ∙ sym c.same, h)
filled s at H c h (Err k) e = left-wrong s at _ _ (class_same _ _ _ _ _ _) c.behind e ∙ sym c.same
