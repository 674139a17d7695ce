-- The names read so far, in columns. Assumes nothing.
use Rattle.std.specs.Prelude.{ℕ, zero, suc, ◌+◌, ◌<◌, ◌≤◌, ◌≡◌, refl, Bool, true, false, ltb, eqb, length, get_or, Option, Some, None, Result, Ok, Err}
use Rattle.std.proofs.Math.Path.{sym, ap, subst}
use Rattle.std.proofs.Common.{◌∙◌, arith, ltb-true, eqb-true}
use mathlib.Core.List.{List, []}
use Rattle.std.proofs.lemmas.Bool.{eqb-false}
use Rattle.numbers.specs.Sizes.{MOST-NAMES}
use Rattle.rt0.specs.Pool.{up_to}
use Rattle.rt0.specs.Lists.{all}
use Rattle.word.specs.laws.Bools.{and_parts}
use Rattle.class.specs.declared.Name.{Name}
use Rattle.class.specs.declared.Names.{Names}
use Rattle.class.specs.laws.Names.{name_at, names_of, Ascending}
use Rattle.record.specs.Record.{record_at}
use Rattle.tables.specs.laws.Group.{Going, number_behind, step_of, Gone, going_start, going_next, going-above, going-other, going-stop, going-stop-at, gone-past, all_append}
use Rattle.tables.specs.laws.Groups.{names, names-lawful}
use Rattle.tables.specs.laws.Columns.{NamesStored, names-length}
use Rattle.tables.specs.laws.Reading.{no_number, NamesGone}

-- what holds of all of a list from columns holds at each index
all-at : {A : Type 0} (t : A → Bool) (n : ℕ) (g : ℕ → A) → all t (up_to n g) ≡ true → (i : ℕ) → i < n → t (g i) ≡ true
all-at t zero g h i l = absurd (omega arith)
all-at t (suc n) g h i l = go (eqb i n) refl (λ k. all-at t n g b.0 i k)
  where
    b : (all t (up_to n g) ≡ true) × (t (g n) ≡ true)
    b = and_parts (all t (up_to n g)) (t (g n)) (sym (all_append t (up_to n g) (g n)) ∙ h)

    go : (s : Bool) → eqb i n ≡ s → (i < n → t (g i) ≡ true) → t (g i) ≡ true
    go true e ih = ap (λ (j : ℕ). t (g j)) (eqb-true i n e) ∙ b.1
    go false e ih = ih (omega (arith, eqb-false i n e))

-- names ascend with one more that comes after them
ascending-add : (N M : Names) (x : Name) → Ascending N.count N.name → NamesStored x N M
    → all (λ (m : Name). ltb m.name x.name) (names_of N) ≡ true → Ascending (N.count + 1) M.name
unfolding names_of
ascending-add N M x h z u = record { less = λ i j l k. go i j l k (eqb j N.count) refl }
  where
    go : (i j : ℕ) → i < j → j < N.count + 1 → (s : Bool) → eqb j N.count ≡ s → get_or M.name i 0 < get_or M.name j 0
    go i j l k true e =
        let q : j ≡ N.count = eqb-true j N.count e in
        let lo : get_or N.name i 0 < x.name = ltb-true (get_or N.name i 0) x.name
        (all-at (λ (m : Name). ltb m.name x.name) N.count (name_at N) u i (omega arith)) in
        let here : get_or M.name j 0 ≡ x.name = ap (λ (m : ℕ). get_or M.name m 0) q ∙ z.last in
        omega (arith, z.kept i (omega arith))
    go i j l k false e =
        let m : j < N.count = omega (arith, eqb-false j N.count e) in
        omega (arith, z.kept i (omega arith), z.kept j m, h.less i j l m)

-- the names between two indices stand in the columns
pub record ReadingNames (s : List ℕ) (start : ℕ) (N : Names) (last : Name) (at : ℕ) : Type 0 where
  pub going : Going names no_number s start (names_of N) last at
  pub ascending : Ascending N.count N.name

pub reading-start : (s : List ℕ) (start : ℕ) (N : Names) (last : Name) → names_of N ≡ [] → ReadingNames s start N last start
reading-start s start N last h =
    record {
      going = subst (λ (L : List Name). Going names no_number s start L last start) (sym h) (going_start last);
      ascending = record { less = λ i j l k. absurd (omega (arith, ap length h, names-length N)) };
    }

module _ {s : List ℕ} {start : ℕ} {N : Names} {last : Name} {at : ℕ} (r : ReadingNames s start N last at) where
  -- no byte is left
  pub names-past : length s ≤ at → NamesGone s start (Ok at) N
  names-past h = record { gone = gone-past r.going h; ascending = r.ascending }

  module _ (more : at < length s) {x : Result (Option Name) ℕ} (h : x ≡ step_of names (number_behind names no_number N.count last) (record_at s at)) where
    -- a name is taken
    pub names-room : (n : Name) → x ≡ Ok (Some n) → N.count < 64
    unfolding names
    names-room n e = (going-above r.going more names-lawful N.count (names-length N) n (sym h ∙ e)).1

    pub names-next : (n : Name) → x ≡ Ok (Some n) → {M : Names} → NamesStored n N M → ReadingNames s start M n (at + 4)
    unfolding names
    names-next n e {M} z =
        let step = sym h ∙ e in
        record {
          going =
              subst (λ (L : List Name). Going names no_number s start L n (at + 4)) (sym z.all)
              (going_next r.going more names-lawful N.count (names-length N) n step);
          ascending =
              subst (λ (k : ℕ). Ascending k M.name) (sym z.counted)
              (ascending-add N M n r.ascending z (going-above r.going more names-lawful N.count (names-length N) n step).0);
        }

    -- the record of another command stands there
    pub names-other : x ≡ Ok None → NamesGone s start (Ok at) N
    names-other e = record {
      gone = going-other r.going more names-lawful N.count (names-length N) (sym h ∙ e);
      ascending = r.ascending;
    }

    -- a name is refused
    pub names-stop : (k : ℕ) → x ≡ Err k → NamesGone s start (Err k) N
    names-stop k e = record {
      gone = going-stop r.going more names-lawful N.count (names-length N) k (sym h ∙ e);
      ascending = r.ascending;
    }

    -- the reading of names stops at this index
    pub names-stop-at : (k : ℕ) → x ≡ Err k → (Gone names no_number s start (names_of N) k at) × (Ascending N.count N.name)
    names-stop-at k e = (going-stop-at r.going more names-lawful N.count (names-length N) k (sym h ∙ e), r.ascending)

-- columns count their names
pub names-few : (N : Names) → length (names_of N) ≤ MOST-NAMES → N.count ≤ MOST-NAMES
names-few N h = omega (arith, h, names-length N)
