-- The credentials asked for are flagged and followed, one after the other and pass by pass, until the column is closed. Assumes nothing.
use Rattle.std.specs.Prelude.{ℕ, ◌+◌, ◌≤◌, ◌<◌, ◌≡◌, refl, ◌⊎◌, Bool, false, ◌||◌, List, eqb, ltb, length, set, replicate}
use Rattle.std.proofs.Common.{arith, sym, ◌∙◌, ap, subst, inl, inr, ⊎_elim, eqb-true, eq-eqb, ne_eqb, ltb-true, ltb-false, length-set, get_or-set_same, get_or-set_other}
use Rattle.std.proofs.Math.Bool.{true}
use Rattle.std.proofs.lemmas.Bool.{eqb-false}
use Rattle.std.proofs.lemmas.List.{get_or-replicate, length-replicate}
use Rattle.expression.specs.declared.Role.{Role}
use Rattle.expression.specs.declared.Parts.{Parts}
use Rattle.expression.specs.declared.Expression.{Expression}
use Rattle.expression.specs.declared.Expression.TheVariants as E
use Rattle.expression.specs.Same.{same_role}
use Rattle.expression.specs.laws.Same.{same_role-eq, eq-same_role}
use Rattle.rt0.specs.declared.Pool.{Pool}
use Rattle.rt0.specs.From.{roles_of}
use Rattle.rt0.specs.laws.Lists.{any-find}
use Rattle.word.specs.laws.Bools.{false-true, or_cases}
use Rattle.rt0.specs.laws.Pool.{head_at, body_at, head_in}
use Rattle.rt0.specs.laws.Heads.{NoHead}
use Rattle.rules.specs.laws.Table.{third, fourth}
use Rattle.rules.specs.laws.Exact.{four-all}
use Rattle.closure.specs.laws.Rules.{el}
use Rattle.needed.specs.laws.Column.{came}
use Rattle.needed.specs.laws.Relevant.{asks, ClosedFor}
use Rattle.needed.specs.laws.Flags.{is_named, Raised, Marked, Work, Followed, Swept}
use Rattle.word.specs.laws.Search.{zeros}

-- A flag

pub raised-not : {b : Bool} (was : ℕ) → b ≡ false → Raised b was was
raised-not was h = record { told = λ k. absurd (false-true (sym h ∙ k)); stays = λ k. k }

pub raised-one : {b : Bool} (was : ℕ) → Raised b was 1
raised-one was = record { told = λ k. refl; stays = λ k. refl }

pub not_named : (m : ℕ) (h : Role) → (h.name ≡ m → ⊥) → is_named m h ≡ false
unfolding is_named
not_named m h n = ne_eqb h.name m n

-- A column

module _ {H : List ℕ} {t : Role → Bool} {r : List ℕ} where
  pub marked_start : length r ≡ 128 → Marked H t 0 r r
  marked_start z = record { sized = z; grows = λ i h. h; all = λ i l. absurd (omega arith) }

  pub marked_next : {i v : ℕ} {q : List ℕ} → Marked H t i r q → i < 128 → Raised (t (head_in H i)) (el q i) v → Marked H t (i + 1) r (set q i v)
  marked_next {i} {v} {q} m l s =
      record {
        sized = length-set q i v ∙ m.sized;
        grows = λ j h. at j (m.grows j h) (λ e. s.stays (subst (λ (k : ℕ). el q k ≡ 1) e (m.grows j h)));
        all = λ j k h. go (eqb j i) refl k h;
      }
    where
      here : (j : ℕ) → j ≡ i → v ≡ 1 → el (set q i v) j ≡ 1
      here j e h = ap (el (set q i v)) e ∙ get_or-set_same q i v 0 (omega (arith, m.sized)) ∙ h

      at : (j : ℕ) → el q j ≡ 1 → (j ≡ i → v ≡ 1) → el (set q i v) j ≡ 1
      at j h k = pick (eqb j i) refl
        where
          pick : (b : Bool) → eqb j i ≡ b → el (set q i v) j ≡ 1
          pick true e = here j (eqb-true j i e) (k (eqb-true j i e))
          pick false e = get_or-set_other q i j v 0 (eqb-false j i e) ∙ h

      go : {j : ℕ} (b : Bool) → eqb j i ≡ b → j < i + 1 → t (head_in H j) ≡ true → el (set q i v) j ≡ 1
      go {j} true e k h = here j (eqb-true j i e) (s.told (subst (λ (x : ℕ). t (head_in H x) ≡ true) (eqb-true j i e) h))
      go {j} false e k h = get_or-set_other q i j v 0 (eqb-false j i e) ∙ m.all j (omega (arith, eqb-false j i e)) h

  pub marked_all : {i : ℕ} {q : List ℕ} (n : ℕ) → n ≤ i → Marked H t i r q → Marked H t n r q
  marked_all n l m = record { sized = m.sized; grows = m.grows; all = λ j k. m.all j (omega arith) }

-- a credential is marked
pub marked-one : {H : List ℕ} {t : Role → Bool} {r q : List ℕ} {i : ℕ} → Marked H t i r q → i < 128 → Marked H t (i + 1) r (set q i 1)
marked-one m l = marked_next m l (raised-one _)

-- those with other heads need not be
pub marked_other : {H : List ℕ} {p : Role} {r q : List ℕ} {i k : ℕ} → NoHead H p i k → Marked H (same_role p) i r q → Marked H (same_role p) k r q
marked_other {H} {p} {r} {q} {i} {k} o m = record { sized = m.sized; grows = m.grows; all = λ j l h. go j l h (ltb j i) refl }
  where
    go : (j : ℕ) → j < k → same_role p (head_in H j) ≡ true → (t : Bool) → ltb j i ≡ t → el q j ≡ 1
    go j l h true e = m.all j (ltb-true j i e) h
    go j l h false e = absurd (false-true (sym (o.none j (ltb-false j i e) l) ∙ eq-same_role (head_in H j) p (sym (same_role-eq p (head_in H j) h))))

-- What an expression asks for

module _ {H : List ℕ} {n : ℕ} where
  -- one test after the other
  marked-both : {s t u : Role → Bool} {r q w : List ℕ} → ((h : Role) → u h ≡ true → (s h ≡ true) ⊎ (t h ≡ true)) → Marked H s n r q → Marked H t n q w
      → Marked H u n r w
  marked-both either a b =
      record {
        sized = b.sized;
        grows = λ i h. b.grows i (a.grows i h);
        all = λ i l h. ⊎_elim (λ k. b.grows i (a.all i l k)) (λ k. b.all i l k) (either (head_in H i) h);
      }

  module _ {r : List ℕ} (z : length r ≡ 128) where
    pub marked-entity : {x : Expression} {b : ℕ} → x ≡ E.Entity b → Marked H (asks x) n r r
    unfolding asks
    marked-entity e = rw e (record { sized = z; grows = λ i h. h; all = λ i l h. absurd (false-true h) })

    pub marked-goal : {x : Expression} {m : ℕ} → x ≡ E.Goal m → Marked H (asks x) n r r
    unfolding asks
    marked-goal e = rw e (record { sized = z; grows = λ i h. h; all = λ i l h. absurd (false-true h) })

  module _ {r q : List ℕ} where
    pub marked-role : {x : Expression} {p : Role} → x ≡ E.Role p → Marked H (same_role p) n r q → Marked H (asks x) n r q
    unfolding asks
    marked-role e m = rw e (record { sized = m.sized; grows = m.grows; all = m.all })

    pub marked-as : {x y : Expression} → x ≡ y → Marked H (asks y) n r q → Marked H (asks x) n r q
    marked-as e m = subst (λ (y : Expression). Marked H (asks y) n r q) (sym e) m

    pub marked-linked : (a : Role) (m : ℕ) {w : List ℕ} → Marked H (same_role a) n r q → Marked H (is_named m) n q w → Marked H (asks (E.Linked a m)) n r w
    unfolding asks is_named
    marked-linked a m h k = marked-both (λ p o. or_cases _ _ o) h k

  -- what is marked stays so
  marked-later : {s t : Role → Bool} {r q w : List ℕ} → Marked H s n r q → Marked H t n q w → Marked H s n r w
  marked-later a b = marked-both (λ h k. inl k) a b

  -- what is marked later is marked
  marked-since : {s t : Role → Bool} {r q w : List ℕ} → Marked H s n r q → Marked H t n q w → Marked H t n r w
  marked-since a b = marked-both (λ h k. inr k) a b

  -- an intersection asks for its roles
  marked-parts : (p : Parts) {r w : List ℕ} → Marked H (same_role p.first) n r w → Marked H (same_role p.second) n r w
      → Marked H (same_role (third p)) n r w → Marked H (same_role (fourth p)) n r w → Marked H (asks (E.Intersection p)) n r w
  unfolding asks
  marked-parts p {w = w} a b c d =
      record {
        sized = a.sized;
        grows = a.grows;
        all = λ i l h.
            let x = any-find (λ (o : Role). same_role o (head_in H i)) (roles_of p) h in
            four-all p (λ (o : Role). same_role o (head_in H i) ≡ true → el w i ≡ 1) (a.all i l) (b.all i l) (c.all i l) (d.all i l) x.0 x.1 x.2;
      }

  module _ (p : Parts) {r q u : List ℕ} (a : Marked H (same_role p.first) n r q) (b : Marked H (same_role p.second) n q u) where
    pub marked-two : p.count ≡ 2 → Marked H (asks (E.Intersection p)) n r u
    marked-two z =
        let one = marked-later a b in
        let two : eqb p.count 2 ≡ true = eq-eqb p.count 2 z in
        marked-parts p one (marked-since a b) (rw two one) (rw two one)

    module _ {v : List ℕ} (more : p.count ≡ 2 → ⊥) (c : Marked H (same_role p.third) n u v) where
      not-two : eqb p.count 2 ≡ false
      not-two = ne_eqb p.count 2 more

      pub marked-three : p.count ≡ 3 → Marked H (asks (E.Intersection p)) n r v
      marked-three z =
          let one = marked-later (marked-later a b) c in
          let three : eqb p.count 3 ≡ true = eq-eqb p.count 3 z in
          marked-parts p one (marked-later (marked-since a b) c) (rw not-two (marked-since (marked-later a b) c)) (rw (not-two, three) one)

      pub marked-four : {w : List ℕ} → (p.count ≡ 3 → ⊥) → Marked H (same_role p.fourth) n v w → Marked H (asks (E.Intersection p)) n r w
      marked-four z d =
          let one = marked-later (marked-later a b) c in
          let three : eqb p.count 3 ≡ false = ne_eqb p.count 3 z in
          marked-parts p (marked-later one d) (marked-later (marked-later (marked-since a b) c) d)
          (rw not-two (marked-later (marked-since (marked-later a b) c) d)) (rw (not-two, three) (marked-since one d))

-- A credential is followed

module _ (P : Pool) (j : ℕ) {r done : List ℕ} (w : Work P r done) where
  pub follow-not : (el r j ≡ 1 → ⊥) → Followed P j r done r done false
  follow-not n = record { work = w; grows = λ i h. h; same = λ _. (refl, refl, λ h. absurd (n h)) }

  pub follow-done : el done j ≡ 1 → Followed P j r done r done false
  follow-done d = record { work = w; grows = λ i h. h; same = λ _. (refl, refl, λ h. d) }

  pub follow-new : {q : List ℕ} (x : Expression) → j < 128 → x ≡ body_at P j → Marked P.heads (asks x) P.count r q
      → Followed P j r done q (set done j 1) true
  follow-new {q} x l e m =
      record {
        work =
            record {
              sized = m.sized;
              done-sized = length-set done j 1
                  ∙ w.done-sized;
              followed = λ k h. ⊎_elim (λ o. record { covers = λ i y a. m.grows i ((w.followed k o).covers i y a) })
                  (λ o. record { covers = λ i y a. m.all i y (subst (λ (z : Expression). asks z (head_at P i) ≡ true) (ap (body_at P) o ∙ sym e) a) })
                  (came done j k h);
            };
        grows = m.grows;
        same = λ h. absurd (false-true (sym h));
      }

-- A pass

module _ {P : Pool} {r : List ℕ} where
  pub pass-start : {done : List ℕ} (b : Bool) → Work P r done → Swept P r r done b 0
  pass-start b w = record { work = w; grows = λ i h. h; still = λ h j l. absurd (omega arith) }

  pub pass-next : {q ended u over : List ℕ} {a b : Bool} {j : ℕ} → Swept P r q ended a j → Followed P j q ended u over b → Swept P r u over (a || b) (j + 1)
  pass-next {q} {ended} {u} {over} {a} {b} {j} p f =
      record { work = f.work; grows = λ i h. f.grows i (p.grows i h); still = λ h k l o. go a b refl refl h k l o }
    where
      go : (x y : Bool) → a ≡ x → b ≡ y → (x || y) ≡ false → (k : ℕ) → k < j + 1 → el u k ≡ 1 → el over k ≡ 1
      go true y c d h k l o = absurd (false-true (sym h))
      go false true c d h k l o = absurd (false-true (sym h))
      go false false c d h k l o = at (eqb k j) refl
        where
          was : el q k ≡ 1
          was = ap (λ (z : List ℕ). el z k) (sym (f.same d).0) ∙ o

          is : el ended k ≡ 1 → el over k ≡ 1
          is z = ap (λ (z : List ℕ). el z k) (f.same d).1 ∙ z

          at : (t : Bool) → eqb k j ≡ t → el over k ≡ 1
          at true e = let z : k ≡ j = eqb-true k j e in is (ap (el ended) z ∙ (f.same d).2 (ap (el q) (sym z) ∙ was))
          at false e = is (p.still c k (omega (arith, eqb-false k j e)) was)

  pub pass_all : {q ended : List ℕ} {b : Bool} {k : ℕ} (n : ℕ) → n ≤ k → Swept P r q ended b k → Swept P r q ended b n
  pass_all n l p = record { work = p.work; grows = p.grows; still = λ h j m. p.still h j (omega arith) }

-- Pass by pass

module _ {P : Pool} {r : List ℕ} where
  pub work_start : {t : Role → Bool} {k : ℕ} {o : List ℕ} → Marked P.heads t k o r → Work P r (replicate 128 0)
  work_start m = record { sized = m.sized; done-sized = length-replicate {A = ℕ} 128 0; followed = λ j h. absurd (none j h) }
    where
      none : (j : ℕ) → el (replicate 128 0) j ≡ 1 → ⊥
      none j h = let z : el (replicate 128 0) j ≡ 0 = zeros 128 j in omega arith

  pub pass-again : {q ended u over : List ℕ} {a b : Bool} {k n : ℕ} → Swept P r q ended a k → Swept P q u over b n → Swept P r u over true 0
  pass-again p s = record { work = s.work; grows = λ i h. s.grows i (p.grows i h); still = λ h. absurd (false-true (sym h)) }

  -- a pass that follows none leaves a closed column
  pub pass-closed : (f : Expression) {o q ended u over : List ℕ} {a b : Bool} {k : ℕ} → Marked P.heads (asks f) P.count o r
      → Swept P r q ended a k → Swept P q u over b P.count → b ≡ false → ClosedFor P f u
  pass-closed f m p s h =
      record {
        asked = λ i l x. s.grows i (p.grows i (m.all i l x));
        followed = λ j i l y o x. (s.work.followed j (s.still h j l o)).covers i y x;
      }

-- a column with all is closed
pub all_closed : (P : Pool) (f : Expression) → P.count ≤ 128 → ClosedFor P f (replicate 128 1)
all_closed P f l = record { asked = λ i m _. get_or-replicate 128 i 1 0 (omega arith); followed = λ j i _ m _ _. get_or-replicate 128 i 1 0 (omega arith) }
