-- Credentials that go out one after another are legal, and where they lead. Assumes nothing.
use Rattle.std.specs.Prelude.{ℕ, ◌<◌, ◌≡◌, Bool, true, not, ltb, length}
use Rattle.std.proofs.Math.Path.{refl, subst}
use Rattle.std.proofs.Common.{sym, ◌∙◌, ap, ⊎_elim}
use mathlib.Core.List.Memᴰ
use mathlib.Core.List.{List, [], ◌∷◌, ◌++◌, map, append_assoc, append-nil, Memᴰ}
use borrow.Author.Tests.{ltb-true, not-true}
use Rattle.expression.specs.declared.Credential.{Credential}
use Rattle.expression.specs.Order.{before_credential}
use Rattle.expression.specs.Same.{same_credential}
use Rattle.expression.specs.laws.Same.{same_credential-eq, same_credential-refl}
use Rattle.rt0.specs.laws.Lists.{all-each, all_of, any-find, any_here}
use Rattle.word.specs.laws.Bools.{false-true, and_parts}
use Rattle.class.specs.declared.Name.{Name}
use Rattle.tables.specs.Accepted.{Rising, rising_none, rising-cons}
use Rattle.tables.specs.laws.Sorted.{rising-parts}
use Rattle.tables.specs.Public.{keep}
use Rattle.tables.specs.laws.Public.{before_self, keep-find, rising-keep}
use Rattle.needed.specs.laws.Needed.{Sublist, nothing, dropped, taken, sub-mem}
use Rattle.message.specs.declared.Command.{Command}
use Rattle.message.specs.declared.Command.TheVariants.{Show}
use Rattle.message.specs.Command.{formed_command}
use Rattle.negotiation.specs.State.{State, with_shown}
use Rattle.rt0.specs.Shown.{is_shown}
use Rattle.applied.specs.Step.{stepped, has_room}
use Rattle.legal.specs.Legal.{OpenFirst, NodesStand, FormedAndNew, EdgeJustified, Unprocessed, RoomLeft}
use Rattle.legal.specs.laws.Exact.{credential-kept}
use Rattle.legal.specs.Updates.{Updates, next}
use Rattle.moves.specs.Carried.{has_room_for}
use Rattle.legality.specs.laws.Proper.{ProperCredential}
use Rattle.legality.specs.laws.Stored.{Stored}
use Rattle.numbers.specs.Sizes.{MOST-SHOWN}

-- the state once these credentials are shown, too
abbrev pub showing : State → List Credential → State
showing S cs = record { header = S.header; nodes = S.nodes; edges = S.edges; shown = S.shown ++ cs }

-- credentials that may go out: they keep all rules, none is shown yet, and none is there twice
pub record Showable (ns : List Name) (shown cs : List Credential) : Type 0 where
  pub stored : Stored ns cs
  pub fresh : (c : Credential) → Memᴰ c cs → Memᴰ c shown → ⊥

pub showable-none : (ns : List Name) (shown : List Credential) → Showable ns shown []
showable-none ns shown =
    record { stored = record { each = λ c m. absurd (Memᴰ.not-nil m); rising = rising_none }; fresh = λ c m. absurd (Memᴰ.not-nil m) }

-- Some of the credentials

-- some elements of a list that ascends ascend
sub-rising : {A : Type 0} {before : A → A → Bool} {xs ys : List A} → Sublist xs ys → Rising before ys → Rising before xs
sub-rising nothing r = r
sub-rising (dropped h) r = sub-rising h (rising-parts r).1
sub-rising {before = before} (taken {c = c} {xs = xs} {ys = ys} h) r =
    rising-cons (all_of (λ y. before c y) xs (λ y m. all-each (λ z. before c z) (sub-mem h y m) (rising-parts r).0)) (sub-rising h (rising-parts r).1)

pub sub-showable : {ns : List Name} {shown xs ys : List Credential} → Sublist xs ys → Showable ns shown ys → Showable ns shown xs
sub-showable h s =
    record {
      stored = record { each = λ c m. s.stored.each c (sub-mem h c m); rising = sub-rising h s.stored.rising };
      fresh = λ c m. s.fresh c (sub-mem h c m);
    }

pub shown-mem : (C : List Credential) (c : Credential) → is_shown C c ≡ true → Memᴰ c C
unfolding is_shown
shown-mem C c h = let w = any-find (λ d. same_credential d c) C h in subst (λ (d : Credential). Memᴰ d C) (same_credential-eq w.0 c w.2) w.1

pub mem-shown : (C : List Credential) (c : Credential) → Memᴰ c C → is_shown C c ≡ true
unfolding is_shown
mem-shown C c m = any_here (λ d. same_credential d c) m (same_credential-refl c)

-- "less .. those already shown"
pub unshown-showable : (ns : List Name) (shown C : List Credential) → Stored ns C → Showable ns shown (keep (λ c. not (is_shown shown c)) C)
unshown-showable ns shown C s =
    record {
      stored =
          record { each = λ c m. s.each c (keep-find (λ c. not (is_shown shown c)) C m).0; rising = rising-keep (λ c. not (is_shown shown c)) s.rising };
      fresh = λ c m k. false-true (sym (not-true (is_shown shown c) (keep-find (λ c. not (is_shown shown c)) C m).1) ∙ mem-shown shown c k);
    }

-- The commands

-- behind the first credential the others may go out
rest-showable : (ns : List Name) (shown : List Credential) (c : Credential) (cs : List Credential) → Showable ns shown (c ∷ cs)
    → Showable ns (shown ++ (c ∷ [])) cs
rest-showable ns shown c cs s =
    let r = rising-parts s.stored.rising in
    record {
      stored = record { each = λ d m. s.stored.each d (Memᴰ.tail m); rising = r.1 };
      fresh = λ d m k.
          ⊎_elim (s.fresh d (Memᴰ.tail m))
          (λ j. false-true (sym (before_self c) ∙ ap (before_credential c) (sym (Memᴰ.eq_of_singleton j)) ∙ all-each (λ e. before_credential c e) m r.0))
          (Memᴰ.append_cases shown k);
    }

module _ (ns : List Name) (s : ℕ) (rest : List Command) (U : State) where
  -- the credentials, and then the commands that are legal behind them
  pub shows-updates : (cs : List Credential) (S : State) → 0 < length S.nodes → Showable ns S.shown cs → has_room_for s S (map Show cs ++ rest) ≡ true
      → (has_room_for s (showing S cs) rest ≡ true → Updates ns s (showing S cs) rest U) → Updates ns s S (map Show cs ++ rest) U
  unfolding stepped with_shown has_room OpenFirst NodesStand FormedAndNew EdgeJustified Unprocessed RoomLeft formed_command
  shows-updates [] S some h room more =
      let e : showing S [] ≡ S = λ i. record { header = S.header; nodes = S.nodes; edges = S.edges; shown = append-nil S.shown i } in
      subst (λ (R : State). Updates ns s R rest U) e (more (ap (λ (R : State). has_room_for s R rest) e ∙ room))
  shows-updates (c ∷ cs) S some h room more =
      let p = and_parts (ltb (length S.shown) MOST-SHOWN) (has_room_for s (with_shown S c) (map Show cs ++ rest)) room in
      let e : showing (with_shown S c) cs ≡ showing S (c ∷ cs) = λ i.
      record { header = S.header; nodes = S.nodes; edges = S.edges; shown = append_assoc S.shown (c ∷ []) cs i } in
      let proper : ProperCredential ns c = h.stored.each c (Memᴰ.head refl) in
      next {c = Show c} refl proper.formed
      (record {
        classes = credential-kept ns c proper.classes;
        open-first = some;
        nodes = tt;
        form = h.fresh c (Memᴰ.head refl);
        justified = tt;
        unprocessed = tt;
        room = ltb-true (length S.shown) MOST-SHOWN p.0;
      })
      (shows-updates cs (with_shown S c) some (rest-showable ns S.shown c cs h) p.1
      (λ r. subst (λ (R : State). Updates ns s R rest U) (sym e) (more (ap (λ (R : State). has_room_for s R rest) (sym e) ∙ r))))
