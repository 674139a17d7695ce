-- The pairs read so far, in columns, and the numbers of the next one. Assumes nothing.
use Rattle.std.specs.Prelude.{ℕ, ◌+◌, ◌<◌, ◌≤◌, ◌≡◌, refl, Bool, true, false, not, ◌&&◌, ◌||◌, eqb, length, Option, Some, None, Result, Ok, Err}
use Rattle.std.proofs.Common.{sym, ◌∙◌, arith}
use Rattle.std.proofs.Math.Path.{ap, subst}
use Rattle.std.proofs.Math.Bool.{cond}
use mathlib.Core.List.{List, []}
use Rattle.expression.specs.declared.Role.{Role}
use Rattle.expression.specs.declared.Credential.{Credential}
use Rattle.expression.specs.Form.{ascends}
use Rattle.word.specs.laws.Bools.{false-true}
use Rattle.class.specs.declared.Name.{Name}
use Rattle.class.specs.Names.{class_of}
use Rattle.record.specs.declared.Pair.{Pair}
use Rattle.record.specs.declared.Record.{Record}
use Rattle.record.specs.Record.{record_at}
use Rattle.tables.specs.declared.Pairs.{Pairs}
use Rattle.tables.specs.Tables.{Tables}
use Rattle.tables.specs.laws.Tables.{pairs_of}
use Rattle.tables.specs.Lookup.{holds, is_sensitive}
use Rattle.tables.specs.Check.{or_else, suits_pair, pair_number}
use Rattle.tables.specs.laws.Group.{rising, behind, number_behind, Step, judged_step, picked_step, step_of, step-some, step-none, Going, Gone}
use Rattle.tables.specs.laws.Group.{going_start, going_next, going-above, going-other, going-stop, going-stop-at, gone-past}
use Rattle.tables.specs.laws.Groups.{pick_pair, pairs, pairs_most, pairs-lawful}
use Rattle.tables.specs.laws.Columns.{PairsSized, PairsStored, pairs-length}
use Rattle.tables.specs.laws.Reading.{tables_for, PairsGone}

module _ (own : ℕ) (ns : List Name) (C : List Credential) (P : List Pair) where
  -- Whether a role may stand

  module _ (r : Role) where
    -- in 0x14 its class decides
    pub suits-sensitive : (access : Bool) {k : ℕ} → not access ≡ true → k ≡ class_of ns r.name → eqb k 3 ≡ suits_pair access (tables_for own ns C P) r
    suits-sensitive true n h = absurd (false-true n)
    suits-sensitive false n h = ap (λ (k : ℕ). eqb k 3) h

    -- in 0x15 we hold it, and it is sensitive
    pub suits-access : (access : Bool) {u v : Bool} → not access ≡ false → u ≡ holds own C r → v ≡ is_sensitive P r
        → (u && v) ≡ suits_pair access (tables_for own ns C P) r
    suits-access true n e f = λ i. e i && f i
    suits-access false n e f = absurd (false-true (sym n))

  -- The class rules for a pair

  module _ (access : Bool) (x : Pair) {b : Bool} (h : b ≡ suits_pair access (tables_for own ns C P) x.role) where
    judged-by : (v : Bool) → b ≡ v → cond v 0 5 ≡ pair_number access (tables_for own ns C P) x
    unfolding pair_number
    judged-by v e = λ i. cond ((sym e ∙ h) i) 0 5

    -- the role suits
    pub pair-kept : b ≡ true → 0 ≡ pair_number access (tables_for own ns C P) x
    pair-kept e = judged-by true e

    -- it does not
    pub pair-broken : b ≡ false → 5 ≡ pair_number access (tables_for own ns C P) x
    pair-broken e = judged-by false e

-- the number of a pair behind others, step by step
pub behind-pairs : (access : Bool) (k count : ℕ) (last x : Pair) {up : Bool} {most r j : ℕ} → up ≡ ascends last.role x.role
    → most ≡ pairs_most access → r ≡ rising (eqb count 0 || up) count most → j ≡ or_else k r → j ≡ behind (pairs access) k count last x
unfolding behind pairs
behind-pairs access k count last x u m h e = e ∙ ap (or_else k) (h ∙ (λ i. rising (eqb count 0 || u i) count (m i)))

-- a record that was read, where a pair may stand
module _ (access : Bool) (U : Tables) (count : ℕ) (last : Pair) {x t : Result Record ℕ} {r : Record} {w : Step Pair} (h : x ≡ t) (q : x ≡ Ok r)
    (e : w ≡ picked_step (λ p. 0) (pick_pair access r)) where
  pub pair-some : {v : Pair} {k : ℕ} {z : Step Pair} → w ≡ Ok (Some v) → k ≡ pair_number access U v
      → z ≡ judged_step (behind (pairs access) k count last v) v → z ≡ step_of (pairs access) (number_behind (pairs access) (pair_number access U) count last) t
  unfolding pairs
  pair-some u n d = step-some (pairs access) (pair_number access U) count last h q e u n d

  pub pair-none : w ≡ Ok None → Ok None ≡ step_of (pairs access) (number_behind (pairs access) (pair_number access U) count last) t
  unfolding pairs
  pair-none u = step-none (pairs access) (pair_number access U) count last h q e u

-- either command has room for 32
pairs-most : (access : Bool) → (pairs access).most ≡ 32
unfolding pairs
pairs-most true = refl
pairs-most false = refl

-- the pairs between two indices stand in the columns
abbrev pub ReadingPairs : Tables → Bool → List ℕ → ℕ → Pairs → Pair → ℕ → Type 0
ReadingPairs U access s start P last at = Going (pairs access) (pair_number access U) s start (pairs_of P) last at

pub pairs_start : (U : Tables) (access : Bool) (s : List ℕ) (start : ℕ) (P : Pairs) (last : Pair) → pairs_of P ≡ [] → PairsSized P
    → ReadingPairs U access s start P last start
pairs_start U access s start P last h z =
    subst (λ (L : List Pair). Going (pairs access) (pair_number access U) s start L last start) (sym h) (going_start last)

module _ (U : Tables) (access : Bool) {s : List ℕ} {start : ℕ} (P : Pairs) {last : Pair} {at : ℕ} (r : ReadingPairs U access s start P last at) where
  -- no byte is left
  pub pairs-past : length s ≤ at → PairsGone U access s start (Ok at) P
  pairs-past h = gone-past r h

  module _ (more : at < length s) {x : Result (Option Pair) ℕ} (h : x
      ≡ step_of (pairs access) (number_behind (pairs access) (pair_number access U) P.count last) (record_at s at)) where
    -- a pair is taken
    pub pairs-room : (p : Pair) → x ≡ Ok (Some p) → P.count < 32
    pairs-room p e =
        let room = (going-above r more (pairs-lawful access) P.count (pairs-length P) p (sym h ∙ e)).1 in
        omega (arith, room, pairs-most access)

    pub pairs_next : (p : Pair) → x ≡ Ok (Some p) → {Q : Pairs} → PairsStored p P Q → ReadingPairs U access s start Q p (at + 9)
    unfolding pairs
    pairs_next p e {Q} z =
        subst (λ (L : List Pair). Going (pairs access) (pair_number access U) s start L p (at + 9)) (sym z.all)
        (going_next r more (pairs-lawful access) P.count (pairs-length P) p (sym h ∙ e))

    -- the record of another command stands there
    pub pairs-other : x ≡ Ok None → PairsGone U access s start (Ok at) P
    pairs-other e = going-other r more (pairs-lawful access) P.count (pairs-length P) (sym h ∙ e)

    -- a pair is refused
    pub pairs-stop : (k : ℕ) → x ≡ Err k → PairsGone U access s start (Err k) P
    pairs-stop k e = going-stop r more (pairs-lawful access) P.count (pairs-length P) k (sym h ∙ e)

    -- the reading of pairs stops at this index
    pub pairs-stop-at : (k : ℕ) → x ≡ Err k → Gone (pairs access) (pair_number access U) s start (pairs_of P) k at
    pairs-stop-at k e = going-stop-at r more (pairs-lawful access) P.count (pairs-length P) k (sym h ∙ e)

-- columns count their pairs
pub pairs-few : (P : Pairs) → length (pairs_of P) ≤ 32 → P.count ≤ 32
pairs-few P h = omega (arith, h, pairs-length P)
