-- The records of one command, read one after another: a law family for every command but self. Assumes nothing.
use Rattle.std.specs.Prelude.{ℕ, zero, suc, ◌+◌, ◌<◌, ◌≤◌, ◌≡◌, refl, ◌⊎◌, Bool, true, false, cond, ◌&&◌, ◌||◌, List, [], ◌∷◌, ◌++◌, ltb, eqb, length, Option, Some, None, Result, Ok, Err}
use Rattle.std.proofs.Common.{sym, ◌∙◌, ⊎_elim, arith, ltb-true, ne_eqb, length-append}
use Rattle.std.proofs.Math.Path.{ap}
use Rattle.std.proofs.lemmas.Bool.{eqb-false}
use Rattle.rt0.specs.Lists.{all}
use Rattle.word.specs.laws.Bools.{and_parts, false-true}
use Rattle.record.specs.declared.Record.{Record}
use Rattle.record.specs.Record.{record_at, size_of}
use Rattle.record.specs.laws.RecordExact.{record-refusal}
use Rattle.tables.specs.Tables.{Tables, added}
use Rattle.tables.specs.Check.{or_else, none, in_order, judge}
use Rattle.tables.specs.laws.Check.{read_from, from-refused, from-judged}
use Rattle.numbers.specs.Answer.{Answer, refused, judged}

-- a command: its records, their order, the rules of 4 and 5 for them, and how many there may be
pub record Group (A : Type 0) : Type 0 where
  pub wrap : A → Record
  pub pick : Record → Option A
  pub put : Tables → List A → Tables
  pub before : A → A → Bool
  pub number : Tables → A → ℕ
  pub most : ℕ
  pub size : ℕ

-- "ascend strictly", and no size is passed: zero or 6
abbrev pub rising : Bool → ℕ → ℕ → ℕ
rising up count most = cond (up && ltb count most) 0 6

-- what holds of such a command
pub record Lawful {A : Type 0} (G : Group A) : Type 0 where
  pub picked : (r : Record) (x : A) → G.pick r ≡ Some x → r ≡ G.wrap x
  pub wrapped : (x : A) → G.pick (G.wrap x) ≡ Some x
  pub sized : (x : A) → size_of (G.wrap x) ≡ G.size
  pub more : (T : Tables) (L : List A) (x : A) → added (G.put T L) (G.wrap x) ≡ G.put T (L ++ (x ∷ []))
  pub judges : (T : Tables) (L : List A) (x : A) → in_order T (G.wrap x) ≡ true
      → judge (G.put T L) (G.wrap x) ≡ or_else (G.number T x) (rising (all (λ y. G.before y x) L) (length L) G.most)
  pub chain : (x y z : A) → G.before x y ≡ true → G.before y z ≡ true → G.before x z ≡ true

-- x comes after all of L exactly where it comes after the last
pub record Top {A : Type 0} (before : A → A → Bool) (L : List A) (last : A) : Type 0 where
  pub above : (x : A) → all (λ y. before y x) L ≡ (none L || before last x)

-- a test of all, with one element more
pub all_append : {A : Type 0} (t : A → Bool) (L : List A) (x : A) → all t (L ++ (x ∷ [])) ≡ all t L && t x
all_append t [] x = go (t x)
  where
    go : (b : Bool) → b && true ≡ true && b
    go true = refl
    go false = refl
all_append t (y ∷ L) x = ap (λ (b : Bool). t y && b) (all_append t L x) ∙ sym (assoc (t y) (all t L) (t x))
  where
    assoc : (p q r : Bool) → (p && q) && r ≡ p && (q && r)
    assoc true q r = refl
    assoc false q r = refl

module _ {A : Type 0} (before : A → A → Bool) where
  pub top_start : (last : A) → Top before [] last
  top_start last = record { above = λ x. refl }

  not_none : (L : List A) (x : A) → none (L ++ (x ∷ [])) ≡ false
  not_none [] x = refl
  not_none (y ∷ L) x = refl

  all-chain : (chain : (x y z : A) → before x y ≡ true → before y z ≡ true → before x z ≡ true) (L : List A) (c x : A)
      → all (λ y. before y c) L ≡ true → before c x ≡ true → all (λ y. before y x) L ≡ true
  all-chain chain [] c x h k = refl
  all-chain chain (y ∷ L) c x h k =
      let b = and_parts (before y c) (all (λ z. before z c) L) h in
      λ i. chain y c x b.0 k i && all-chain chain L c x b.1 k i

  pub top-add : (chain : (x y z : A) → before x y ≡ true → before y z ≡ true → before x z ≡ true) (L : List A) (c : A)
      → all (λ y. before y c) L ≡ true → Top before (L ++ (c ∷ [])) c
  top-add chain L c h =
      record { above = λ x. all_append (λ y. before y x) L c ∙ go x (before c x) refl ∙ sym (ap (λ (b : Bool). b || before c x) (not_none L c)) }
    where
      and-false : (b : Bool) → b && false ≡ false
      and-false true = refl
      and-false false = refl

      go : (x : A) (b : Bool) → before c x ≡ b → all (λ y. before y x) L && before c x ≡ before c x
      go x true e = ap (λ (b : Bool). b && before c x) (all-chain chain L c x h e)
      go x false e = ap (λ (b : Bool). all (λ y. before y x) L && b) e ∙ (and-false (all (λ y. before y x) L) ∙ sym e)

-- tables at which the records of a command may begin: it is in order, it has none, and num gives 4 and 5 for them
pub record Open {A : Type 0} (G : Group A) (num : A → ℕ) (T : Tables) : Type 0 where
  pub order : (x : A) → in_order T (G.wrap x) ≡ true
  pub first : G.put T [] ≡ T
  pub numbers : (x : A) → G.number T x ≡ num x

-- the number of the record x, which earns k by the class rules, behind others of its command, so many, the last of which is last
unfoldable pub behind : {A : Type 0} → Group A → ℕ → ℕ → A → A → ℕ
behind G k count last x = or_else k (rising (eqb count 0 || G.before last x) count G.most)

abbrev pub number_behind : {A : Type 0} → Group A → (A → ℕ) → ℕ → A → A → ℕ
number_behind G num count last x = behind G (num x) count last x

-- the number of a record that was not read
abbrev pub refusal_of : Result Record ℕ → ℕ
refusal_of (Ok r) = 0
refusal_of (Err k) = k

-- what stands next: a record of the command that is taken, nothing where another command's record stands, or a refusal number
abbrev pub Step : Type 0 → Type 0
Step A = Result (Option A) ℕ

abbrev pub judged_step : {A : Type 0} → ℕ → A → Step A
judged_step zero x = Ok (Some x)
judged_step (suc k) x = Err (suc k)

abbrev pub picked_step : {A : Type 0} → (A → ℕ) → Option A → Step A
picked_step number None = Ok None
picked_step number (Some x) = judged_step (number x) x

abbrev pub step_of : {A : Type 0} → Group A → (A → ℕ) → Result Record ℕ → Step A
step_of G number (Err k) = Err k
step_of G number (Ok r) = picked_step number (G.pick r)

-- a step by its number
pub step-zero : {A : Type 0} (x : A) {k m : ℕ} → k ≡ m → k ≡ 0 → Ok (Some x) ≡ judged_step m x
step-zero x h z = ap (λ (n : ℕ). judged_step n x) (sym z ∙ h)

pub step-number : {A : Type 0} (x : A) {k m : ℕ} → k ≡ m → (k ≡ 0 → ⊥) → Err k ≡ judged_step m x
step-number {A} x {k} {m} h z = go k z ∙ ap (λ (n : ℕ). judged_step n x) h
  where
    go : (n : ℕ) → (n ≡ 0 → ⊥) → ◌≡◌ {A = Step A} (Err n) (judged_step n x)
    go zero w = absurd (w refl)
    go (suc n) w = refl

-- a record that was not read
pub step-unread : {A : Type 0} (G : Group A) (number : A → ℕ) {x y : Result Record ℕ} {k m : ℕ} → x ≡ y → x ≡ Err k → m ≡ refusal_of x
    → Err m ≡ step_of G number y
step-unread G number h q e = ap Err (e ∙ ap refusal_of q) ∙ ap (step_of G number) (sym q ∙ h)

-- a record that was read: one of the command, which earns k by the class rules, is judged behind the others; at another one the reading stops
module _ {A : Type 0} (G : Group A) (num : A → ℕ) (count : ℕ) (last : A) {x y : Result Record ℕ} {r : Record} {w : Step A} (h : x ≡ y) (q : x ≡ Ok r)
    (e : w ≡ picked_step (λ v. 0) (G.pick r)) where
  step-read : {z : Step A} → z ≡ picked_step (number_behind G num count last) (G.pick r) → z ≡ step_of G (number_behind G num count last) y
  step-read t = t ∙ ap (step_of G (number_behind G num count last)) (sym q ∙ h)

  pub step-some : {v : A} {k : ℕ} {z : Step A} → w ≡ Ok (Some v) → k ≡ num v → z ≡ judged_step (behind G k count last v) v
      → z ≡ step_of G (number_behind G num count last) y
  step-some {v} {k} {z} t n d = step-read (go (G.pick r) (sym t ∙ e))
    where
      go : (o : Option A) → Ok (Some v) ≡ picked_step (λ u. 0) o → z ≡ picked_step (number_behind G num count last) o
      go None u = cc
      go (Some m) u =
          let p : v ≡ m = cc in d ∙ (λ i. judged_step (behind G (n i) count last v) v) ∙ (λ i. judged_step (number_behind G num count last (p i)) (p i))

  pub step-none : w ≡ Ok None → Ok None ≡ step_of G (number_behind G num count last) y
  step-none t = step-read (go (G.pick r) (sym t ∙ e))
    where
      go : (o : Option A) → ◌≡◌ {A = Step A} (Ok None) (picked_step (λ u. 0) o) → ◌≡◌ {A = Step A} (Ok None) (picked_step (number_behind G num count last) o)
      go None u = refl
      go (Some m) u = cc

-- a record whose class and order were left to test
module _ {A : Type 0} (G : Group A) (number : A → ℕ) (y : Result Record ℕ) {w : Step A} (h : w ≡ step_of G (λ v. 0) y) where
  pub step_then : {v : A} {z : Step A} → w ≡ Ok (Some v) → z ≡ judged_step (number v) v → z ≡ step_of G number y
  step_then {v} {z} t d = go y (sym t ∙ h)
    where
      picked : (o : Option A) → Ok (Some v) ≡ picked_step (λ u. 0) o → z ≡ picked_step number o
      picked None u = cc
      picked (Some m) u = let p : v ≡ m = cc in d ∙ (λ i. judged_step (number (p i)) (p i))

      go : (x : Result Record ℕ) → Ok (Some v) ≡ step_of G (λ u. 0) x → z ≡ step_of G number x
      go (Err k) u = cc
      go (Ok r) u = picked (G.pick r) u

  -- it stops, with a refusal number or at a record of another command
  module _ {z : Step A} (n : (v : A) → z ≡ Ok (Some v) → ⊥) where
    stays : w ≡ z → z ≡ step_of G number y
    stays t = go y (sym t ∙ h)
      where
        picked : (o : Option A) → z ≡ picked_step (λ u. 0) o → z ≡ picked_step number o
        picked None u = u
        picked (Some m) u = absurd (n m u)

        go : (x : Result Record ℕ) → z ≡ step_of G (λ u. 0) x → z ≡ step_of G number x
        go (Err m) u = u
        go (Ok r) u = picked (G.pick r) u

  pub step-stop : {k : ℕ} → w ≡ Err k → Err k ≡ step_of G number y
  step-stop t = stays (λ v u. cc) t

  pub step-other : w ≡ Ok None → Ok None ≡ step_of G number y
  step-other t = stays (λ v u. cc) t

-- an empty list has no element
none-length : {A : Type 0} (L : List A) → none L ≡ eqb (length L) 0
none-length [] = refl
none-length (x ∷ L) = sym (ne_eqb (suc (length L)) 0 (λ e. omega arith))

-- the records of the command between two indices have been read: those of L
pub record Going {A : Type 0} (G : Group A) (num : A → ℕ) (s : List ℕ) (start : ℕ) (L : List A) (last : A) (at : ℕ) : Type 0 where
  pub same : (T : Tables) → Open G num T → read_from s start T ≡ read_from s at (G.put T L)
  pub top : Top G.before L last
  pub few : length L ≤ G.most
  pub still : none L ≡ true → at ≡ start

-- the reading of the command's records is over: with a refusal number, or where another record stands or none
pub record Gone {A : Type 0} (G : Group A) (num : A → ℕ) (s : List ℕ) (start : ℕ) (L : List A) (refusal at : ℕ) : Type 0 where
  pub same : (T : Tables) → Open G num T → read_from s start T ≡ judged refusal (read_from s at (G.put T L))
  pub few : length L ≤ G.most
  pub still : none L ≡ true → at ≡ start
  pub stop : refusal ≡ 0 → at < length s → (x : A) → record_at s at ≡ Ok (G.wrap x) → ⊥

-- a record of the command is refused
pub record Refused {A : Type 0} (G : Group A) (num : A → ℕ) (s : List ℕ) (start : ℕ) (L : List A) (k : ℕ) : Type 0 where
  pub at : ℕ
  pub gone : Gone G num s start L k at
  pub some : k ≡ 0 → ⊥

-- how the reading of the command's records ends: at an index behind them, or with a refusal number
abbrev pub Ends : {A : Type 0} → Group A → (A → ℕ) → List ℕ → ℕ → List A → Result ℕ ℕ → Type 0
Ends G num s start L (Ok at) = Gone G num s start L 0 at
Ends G num s start L (Err k) = Refused G num s start L k

-- a number that is not zero refuses
pub judged-refused : (k : ℕ) (o : Answer Tables) → (k ≡ 0 → ⊥) → judged k o ≡ refused k
judged-refused zero o h = absurd (h refl)
judged-refused (suc k) o h = refl

-- one rule after another passes only where both do
or-else-zero : (k m : ℕ) → or_else k m ≡ 0 → m ≡ 0
or-else-zero k m h = go (eqb k 0) refl h
  where
    go : (b : Bool) → eqb k 0 ≡ b → cond b m k ≡ 0 → m ≡ 0
    go true e q = q
    go false e q = absurd (eqb-false k 0 e q)

rising-zero : (up : Bool) (count most : ℕ) → rising up count most ≡ 0 → (up ≡ true) × (count < most)
rising-zero up count most h = go up (ltb count most) refl h
  where
    go : (p q : Bool) → ltb count most ≡ q → ◌≡◌ {A = ℕ} (cond (p && q) 0 6) 0 → (p ≡ true) × (count < most)
    go true true e k = (refl, ltb-true count most e)
    go true false e k = absurd (let z : ◌≡◌ {A = ℕ} 6 0 = k in omega arith)
    go false q e k = absurd (let z : ◌≡◌ {A = ℕ} 6 0 = k in omega arith)

-- the numbers of records that cannot be read are not zero
pub some-refusal : (k : ℕ) → (k ≡ 2) ⊎ (k ≡ 3) → k ≡ 0 → ⊥
some-refusal k h z = ⊎_elim (λ e. omega arith) (λ e. omega arith) h

read_same : {r t : Record} → ◌≡◌ {A = Result Record ℕ} (Ok r) (Ok t) → r ≡ t
read_same h = cc

-- an element is not absent
pub none-some : {A : Type 0} {x : A} → None ≡ Some x → ⊥
none-some h = cc

module _ {A : Type 0} {G : Group A} {num : A → ℕ} {s : List ℕ} {start : ℕ} where
  pub going_start : (last : A) → Going G num s start [] last start
  going_start last = record { same = λ T o. ap (read_from s start) (sym o.first); top = top_start G.before last; few = omega arith; still = λ e. refl }

  -- no byte is left
  pub gone-past : {L : List A} {last : A} {at : ℕ} → Going G num s start L last at → length s ≤ at → Gone G num s start L 0 at
  gone-past g h = record { same = g.same; few = g.few; still = g.still; stop = λ e more x q. absurd (omega arith) }

  -- a record of another command
  pub gone-other : {L : List A} {last : A} {at : ℕ} → Going G num s start L last at → ((x : A) → record_at s at ≡ Ok (G.wrap x) → ⊥)
      → Gone G num s start L 0 at
  gone-other g h = record { same = g.same; few = g.few; still = g.still; stop = λ e more x q. h x q }

  module _ {L : List A} {last : A} {at : ℕ} (g : Going G num s start L last at) (more : at < length s) where
    -- a record that cannot be read
    pub gone-refused : (k : ℕ) → (k ≡ 0 → ⊥) → record_at s at ≡ Err k → Gone G num s start L k at
    gone-refused k z h =
        record {
          same = λ T o. g.same T o ∙ from-refused s at (G.put T L) more k h ∙ sym (judged-refused k _ z);
          few = g.few;
          still = g.still;
          stop = λ e. absurd (z e);
        }

    module _ (l : Lawful G) (x : A) (h : record_at s at ≡ Ok (G.wrap x)) where
      number-there : (T : Tables) → Open G num T → judge (G.put T L) (G.wrap x) ≡ number_behind G num (length L) last x
      unfolding behind
      number-there T o =
          l.judges T L x (o.order x)
          ∙ (λ i. or_else (o.numbers x i) (rising ((g.top.above x ∙ ap (λ (b : Bool). b || G.before last x) (none-length L)) i) (length L) G.most))

      -- a record that is refused
      gone-judged : (k : ℕ) → number_behind G num (length L) last x ≡ k → (k ≡ 0 → ⊥) → Gone G num s start L k at
      gone-judged k q z =
          record {
            same = λ T o.
                g.same T o
                ∙ from-judged s at (G.put T L) more (G.wrap x) k h (number-there T o ∙ q)
                ∙ judged-refused k _ z
                ∙ sym (judged-refused k _ z);
            few = g.few;
            still = g.still;
            stop = λ e. absurd (z e);
          }

      next-rising : number_behind G num (length L) last x ≡ 0 → (all (λ y. G.before y x) L ≡ true) × (length L < G.most)
      unfolding behind
      next-rising q =
          let up = rising-zero (eqb (length L) 0 || G.before last x) (length L) G.most (or-else-zero (num x) _ q) in
          (g.top.above x ∙ ap (λ (b : Bool). b || G.before last x) (none-length L) ∙ up.0, up.1)

      -- a record that is taken
      next : number_behind G num (length L) last x ≡ 0 → Going G num s start (L ++ (x ∷ [])) x (at + G.size)
      next q =
          let up = next-rising q in
          record {
            same = λ T o.
                g.same T o
                ∙ from-judged s at (G.put T L) more (G.wrap x) 0 h (number-there T o ∙ q)
                ∙ (λ i. read_from s (at + l.sized x i) (l.more T L x i));
            top = top-add G.before l.chain L x up.0;
            few = omega (arith, length-append L (x ∷ []), up.1);
            still = λ e. absurd (false-true (sym (not_none G.before L x) ∙ e));
          }

    module _ (l : Lawful G) (count : ℕ) (size : length L ≡ count) where
      abbrev number : A → ℕ
      number = number_behind G num count last

      resized : (x : A) (k : ℕ) → number x ≡ k → number_behind G num (length L) last x ≡ k
      resized x k q = ap (λ (n : ℕ). number_behind G num n last x) size ∙ q

      -- the step takes x: it stands there, and it earns no number
      judged-taken : (k : ℕ) (x y : A) → judged_step k x ≡ Ok (Some y) → (x ≡ y) × (k ≡ 0)
      judged-taken zero x y e = let q : x ≡ y = cc in (q, refl)
      judged-taken (suc k) x y e = cc

      step-taken : (r : Result Record ℕ) (x : A) → step_of G number r ≡ Ok (Some x) → (r ≡ Ok (G.wrap x)) × (number x ≡ 0)
      step-taken (Err k) x e = cc
      step-taken (Ok r) x e = go (G.pick r) refl e
        where
          go : (o : Option A) → G.pick r ≡ o → picked_step number o ≡ Ok (Some x) → (◌≡◌ {A = Result Record ℕ} (Ok r) (Ok (G.wrap x))) × (number x ≡ 0)
          go None p q = cc
          go (Some y) p q =
              let t = judged-taken (number y) y x q in
              (ap Ok (l.picked r y p ∙ ap G.wrap t.0), sym (ap number t.0) ∙ t.1)

      -- a record is taken
      pub going_next : (x : A) → step_of G number (record_at s at) ≡ Ok (Some x) → Going G num s start (L ++ (x ∷ [])) x (at + G.size)
      going_next x e = let t = step-taken (record_at s at) x e in next l x t.0 (resized x 0 t.1)

      -- such a record comes after all before it, and there was room for it
      pub going-above : (x : A) → step_of G number (record_at s at) ≡ Ok (Some x) → (all (λ y. G.before y x) L ≡ true) × (count < G.most)
      going-above x e =
          let t = step-taken (record_at s at) x e in
          let u = next-rising l x t.0 (resized x 0 t.1) in
          (u.0, omega (arith, u.1))

      -- a record of another command stands there
      pub going-other : step_of G number (record_at s at) ≡ Ok None → Gone G num s start L 0 at
      going-other e = go (record_at s at) refl e
        where
          judged-some : (k : ℕ) (x : A) → ◌≡◌ {A = Step A} (judged_step k x) (Ok None) → ⊥
          judged-some zero x q = cc
          judged-some (suc k) x q = cc

          pick : (r : Record) → record_at s at ≡ Ok r → (o : Option A) → G.pick r ≡ o → picked_step number o ≡ Ok None → Gone G num s start L 0 at
          pick r h None p q =
              gone-other g (λ x w. let v : r ≡ G.wrap x = read_same (sym h ∙ w) in none-some (sym p ∙ (ap G.pick v ∙ l.wrapped x)))
          pick r h (Some y) p q = absurd (judged-some (number y) y q)

          go : (r : Result Record ℕ) → record_at s at ≡ r → step_of G number r ≡ Ok None → Gone G num s start L 0 at
          go (Err m) h q = cc
          go (Ok r) h q = pick r h (G.pick r) refl q

      judged-stop : (k : ℕ) (x : A) (m : ℕ) → judged_step k x ≡ Err m → (k ≡ m) × (m ≡ 0 → ⊥)
      judged-stop zero x m e = cc
      judged-stop (suc k) x m e = let q : suc k ≡ m = cc in (q, λ z. omega arith)

      -- one that is refused, or that cannot be read
      stops : (k : ℕ) → step_of G number (record_at s at) ≡ Err k → (Gone G num s start L k at) × (k ≡ 0 → ⊥)
      stops k e = go (record_at s at) refl e
        where
          pick : (r : Record) → record_at s at ≡ Ok r → (o : Option A) → G.pick r ≡ o → picked_step number o ≡ Err k
              → (Gone G num s start L k at) × (k ≡ 0 → ⊥)
          pick r h None p q = cc
          pick r h (Some y) p q =
              let t = judged-stop (number y) y k q in
              (gone-judged l y (h ∙ ap Ok (l.picked r y p)) k (resized y k t.0) t.1, t.1)

          go : (r : Result Record ℕ) → record_at s at ≡ r → step_of G number r ≡ Err k → (Gone G num s start L k at) × (k ≡ 0 → ⊥)
          go (Err m) h q =
              let z : m ≡ k = cc in
              let o = some-refusal k (record-refusal s at k (h ∙ ap Err z)) in
              (gone-refused k o (h ∙ ap Err z), o)
          go (Ok r) h q = pick r h (G.pick r) refl q

      pub going-stop : (k : ℕ) → step_of G number (record_at s at) ≡ Err k → Refused G num s start L k
      going-stop k e = let t = stops k e in record { at = at; gone = t.0; some = t.1 }

      -- the reading stops at this index
      pub going-stop-at : (k : ℕ) → step_of G number (record_at s at) ≡ Err k → Gone G num s start L k at
      going-stop-at k e = (stops k e).0
