-- Two runs (document 01, "Two runs": "one claim about the whole list, not one for each call"). Assumes nothing.
use Rattle.std.specs.Prelude.{ℕ, ◌≡◌, refl, ◌⊎◌, Bool, false, length}
use Rattle.std.proofs.Math.Path.{sym, ap}
use Rattle.std.proofs.Common.{◌∙◌, ⊎_elim}
use Rattle.std.proofs.Math.Logic.{inl, inr}
use Rattle.std.proofs.Math.Bool.{true}
use mathlib.Core.List.{List, [], ◌∷◌, ◌++◌, Memᴰ}
use Rattle.std.proofs.Math.ListN as L
use Rattle.expression.specs.declared.Role.{Role}
use Rattle.expression.specs.Same.{same_role}
use Rattle.expression.specs.laws.Same.{eq-same_role}
use Rattle.rt0.specs.laws.Lists.{any_here}
use Rattle.word.specs.laws.Bools.{false-true, not-of}
use Rattle.record.specs.declared.Pair.{Pair}
use Rattle.tables.specs.Tables.{Tables}
use Rattle.tables.specs.Check.{read_tables}
use Rattle.tables.specs.Lookup.{holds, is_sensitive}
use Rattle.tables.specs.Public.{DifferOnly, public_of}
use Rattle.tables.specs.laws.Sound.{accepted-public}
use Rattle.negotiation.specs.State.{State, within}
use Rattle.negotiation.specs.Layout.{state_bytes}
use Rattle.take.specs.laws.TakePublic.{take-public}
use Rattle.moves.specs.laws.Known.{Differs, holding-alike, is_disclosed, Disclosed, disclosed-exact}
use Rattle.reply.specs.Reply as A
use Rattle.runs.specs.laws.ReplyPublic.{Undisclosed, reply-public}
use Rattle.report.specs.laws.ReportPublic.{report-public}
use Rattle.begin.specs.Begin.{begin_of}
use Rattle.begin.specs.laws.Kept.{begin-alike}
use Rattle.runs.specs.Runs.{Call, take, reply, report, left_by_take, left_by_reply, left_by_report, left_by, run, taken_to, given_to, after_call, after}
use Rattle.runs.specs.Runs.{Differing, held, policy, NoneSatisfied}
use Rattle.runs.proofs.laws.Runs.{left_after}
use Rattle.runs.specs.laws.Acknowledged.{acknowledged-stands}
use Rattle.runs.specs.laws.RunsKept.{call-keeps, calls-keep, keeps-sizes, keeps-disclosed, begun-within}
use Rattle.numbers.specs.Answer.{Answer, refused, accepted}

-- Where the tables differ

same_or_not : (a b : Bool) → (a ≡ b) ⊎ (a ≡ b → ⊥)
same_or_not true true = inl refl
same_or_not true false = inr (λ e. false-true (sym e))
same_or_not false true = inr (λ e. false-true e)
same_or_not false false = inl refl

-- a sensitive role that differs is held in one only, or its access policies differ
differs-differing : (T U : Tables) (r : Role) → T.sensitive ≡ U.sensitive → is_sensitive T.sensitive r ≡ true → Differs T U r → Differing T U r
differs-differing T U r e s d =
    ⊎_elim (λ h. policy (λ a. d (holding-alike T U r e s h a))) (λ h. held h)
    (same_or_not (holds T.own T.subject_stored r) (holds U.own U.subject_stored r))

stands-sensitive : (P : List Pair) (p : Pair) → Memᴰ p P → is_sensitive P p.role ≡ true
unfolding is_sensitive
stands-sensitive P p m = any_here (λ (q : Pair). same_role q.role p.role) m (eq-same_role p.role p.role refl)

none-disclosed : (T U : Tables) (S : State) → T.sensitive ≡ U.sensitive → within S ≡ true → NoneSatisfied T U S → is_disclosed T U S ≡ false
none-disclosed T U S e w n = not-of (is_disclosed T U S) (λ h. shut ((disclosed-exact T U S).0 h))
  where
    shut : Disclosed T U S → ⊥
    shut o =
        let p : Pair = o.pair in
        n p o.stands (differs-differing T U p.role e (stands-sensitive T.sensitive p o.stands) o.differs)
        (acknowledged-stands S p.other w o.acknowledged)

-- One call

undisclosed : (T U : Tables) (S : State) (o : Answer (List ℕ × State)) → is_disclosed T U (given_to S o) ≡ false → Undisclosed T U o
undisclosed T U S (refused k) h = tt
undisclosed T U S (accepted (m, N)) h = h

module _ (T U : Tables) (e : public_of T ≡ public_of U) (s t : List ℕ) (h : read_tables s ≡ accepted T) (k : read_tables t ≡ accepted U) where
  -- where one of two calls leaves no differing role's Ack target satisfied, they leave the same
  pub call-alike : (S : State) (c : Call) → (is_disclosed T U (after_call s S c) ≡ false) ⊎ (is_disclosed T U (after_call t S c) ≡ false)
      → (left_by s (state_bytes S) c ≡ left_by t (state_bytes S) c) × (after_call s S c ≡ after_call t S c)
  unfolding left_by after_call
  call-alike S (take message scratch) q =
      let o = take-public s t T U h k e (state_bytes S) message scratch in
      (ap (left_by_take (state_bytes S) message scratch) o, ap (taken_to S) o)
  call-alike S (reply buffer scratch) q =
      let o = reply-public T U e s t h k (state_bytes S) buffer scratch
      (⊎_elim (λ z. inl (undisclosed T U S (A.reply_of s (state_bytes S) buffer scratch) z))
      (λ z. inr (undisclosed T U S (A.reply_of t (state_bytes S) buffer scratch) z)) q) in
      (ap (left_by_reply (state_bytes S) buffer scratch) o, ap (given_to S) o)
  call-alike S (report node) q = (ap (left_by_report (state_bytes S)) (report-public s t T U h k e (state_bytes S) node), refl)

  -- not disclosed at the end, not disclosed before
  undisclosed-earlier : (w : List ℕ) (W : Tables) → read_tables w ≡ accepted W → (S : State) (cs : List Call) → within S ≡ true
      → is_disclosed T U (after w S cs) ≡ false → is_disclosed T U S ≡ false
  undisclosed-earlier w W r S cs v z =
      not-of (is_disclosed T U S) (λ o. false-true (sym z ∙ (calls-keep (keeps-disclosed T U) w W r S cs (record { sizes = v; opened = o })).opened))

  -- A list of calls
  pub calls-alike : (cs : List Call) (S : State) → within S ≡ true → (is_disclosed T U (after s S cs) ≡ false) ⊎ (is_disclosed T U (after t S cs) ≡ false)
      → (run s (state_bytes S) cs ≡ run t (state_bytes S) cs) × (after s S cs ≡ after t S cs)
  unfolding run after
  calls-alike [] S w q = (refl, refl)
  calls-alike (c ∷ cs) S w q =
      let ws : within (after_call s S c) ≡ true = call-keeps keeps-sizes s T h S c w in
      let wt : within (after_call t S c) ≡ true = call-keeps keeps-sizes t U k S c w in
      let one = call-alike S c (⊎_elim (λ z. inl (undisclosed-earlier s T h (after_call s S c) cs ws z))
      (λ z. inr (undisclosed-earlier t U k (after_call t S c) cs wt z)) q) in
      let l : left_by s (state_bytes S) c ≡ left_by t (state_bytes S) c = one.0 in
      let n : after_call s S c ≡ after_call t S c = one.1 in
      let rest = calls-alike cs (after_call s S c) ws (⊎_elim (λ z. inl z) (λ z. inr (ap (λ (N : State). is_disclosed T U (after t N cs)) n ∙ z)) q) in
      let b : (left_by s (state_bytes S) c).negotiation ≡ state_bytes (after_call s S c) = left_after s S c in
      let d : (left_by t (state_bytes S) c).negotiation ≡ state_bytes (after_call s S c) = left_after t S c ∙ sym (ap state_bytes n) in
      let more : run s (left_by s (state_bytes S) c).negotiation cs ≡ run t (left_by t (state_bytes S) c).negotiation cs =
      ap (λ (x : List ℕ). run s x cs) b ∙ rest.0 ∙ sym (ap (λ (x : List ℕ). run t x cs) d) in
      (λ i. l i ∷ more i, rest.1 ∙ ap (λ (N : State). after t N cs) n)

-- The first calls of a list leave what they leave alone
run-first : (tables negotiation : List ℕ) (before behind : List Call)
    → L.take (length before) (run tables negotiation (before ++ behind)) ≡ run tables negotiation before
unfolding run
run-first tables negotiation [] behind = refl
run-first tables negotiation (c ∷ cs) behind = ap (λ x. left_by tables negotiation c ∷ x) (run-first tables (left_by tables negotiation c).negotiation cs behind)

-- Two runs whose tables differ only in which sensitive roles are held and in access policies

module _ (s t : List ℕ) (T U : Tables) (h : read_tables s ≡ accepted T) (k : read_tables t ≡ accepted U) (d : DifferOnly T U) (negotiation : List ℕ)
    (other entity name : ℕ) where
  -- "Begin, given the same arguments and, but for the tables, the same buffers in both runs, answers alike and leaves the same bytes; where it
  -- accepts, the list starts there." While in one of the runs no differing role's Ack target is satisfied, every call of the list answers alike
  -- and leaves the same bytes in both.
  pub two_runs : (begin_of s negotiation other entity name ≡ begin_of t negotiation other entity name)
      × ((S : State) → begin_of s negotiation other entity name ≡ accepted S → (cs : List Call)
      → NoneSatisfied T U (after s S cs) ⊎ NoneSatisfied T U (after t S cs)
      → (run s (state_bytes S) cs ≡ run t (state_bytes S) cs) × (after s S cs ≡ after t S cs))
  two_runs =
      let e : public_of T ≡ public_of U = (accepted-public s t T U h k).0 d in
      let sizes : (S : State) → begin_of s negotiation other entity name ≡ accepted S → within S ≡ true
      = λ S b. begun-within s negotiation other entity name T S h b in (
        begin-alike s t negotiation other entity name h k e,
        λ S b cs n. calls-alike T U e s t h k cs S (sizes S b)
            (⊎_elim (λ z. inl (none-disclosed T U (after s S cs) d.sensitive (calls-keep keeps-sizes s T h S cs (sizes S b)) z))
            (λ z. inr (none-disclosed T U (after t S cs) d.sensitive (calls-keep keeps-sizes t U k S cs (sizes S b)) z)) n),
      )

  -- "until": of a list that goes on with other calls, all that was left before is the same in both
  pub two-runs-until : (S : State) → begin_of s negotiation other entity name ≡ accepted S → (before behind : List Call)
      → NoneSatisfied T U (after s S before) ⊎ NoneSatisfied T U (after t S before)
      → L.take (length before) (run s (state_bytes S) (before ++ behind)) ≡ L.take (length before) (run t (state_bytes S) (before ++ behind))
  two-runs-until S b before behind n =
      run-first s (state_bytes S) before behind ∙ (two_runs.1 S b before n).0 ∙ sym (run-first t (state_bytes S) before behind)
