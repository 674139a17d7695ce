-- Rounds that add failed nodes until one adds none. Assumes nothing.
use Rattle.std.specs.Prelude.{ℕ, ◌+◌, ◌/◌, ◌≤◌, ◌<◌, ◌≡◌, refl, Bool, false, ◌&&◌, ◌||◌, not, List, eqb, ltb, length, set, replicate}
use Rattle.std.proofs.Common.{arith, add-one, ◌∙◌, ap, subst, length-set}
use Rattle.std.proofs.Math.Path.{sym}
use Rattle.std.proofs.Math.Logic.{⊎_elim}
use Rattle.std.proofs.Math.Bool.{true, and-false, or-false, or-true}
use borrow.Author.Tests.{eqb-true, eqb-false, eq-eqb, ne_eqb, ltb-true, ltb-false, lt-ltb, le-ltb, not-true}
use Rattle.std.proofs.Math.ListN.{get_or}
use Rattle.std.proofs.lemmas.List.{length-replicate}
use Rattle.word.specs.laws.Bools.{false-true, or_cases, or_left, or_right, and_parts, and_both, bool_iff, not-of}
use Rattle.propagation.specs.laws.Flags.{decided, any_to-find, cnt, cnt-le, cnt-one, flag, flag_same, flag-other, flag-grows, flag-cases}
use Rattle.propagation.specs.laws.Flags.{flag-zeros}
use Rattle.propagation.specs.Flags.{at}
use Rattle.propagation.specs.laws.Least.{Monotone, least-closed, least-below}
use Rattle.propagation.specs.laws.Satisfied.{Graph, from_at, slot_at, node_at}
use Rattle.propagation.specs.laws.Work.{Beyond}
use Rattle.propagation.specs.laws.Failed.{brings, child_of, fails_by, failed_rule, failed_of, Sound, same_b, Touched, Swept}
use Rattle.word.specs.laws.Search.{any_to, any_to-here}

-- The rule

pub child-find : (m : ℕ) (G : Graph) (s : ℕ → Bool) (i : ℕ) → child_of m G s i ≡ true
    → (j : ℕ) × (j < m) × (slot_at G j / 4 ≡ i) × (from_at G j < 128) × (s (from_at G j) ≡ true)
unfolding child_of
child-find m G s i h =
    let r = any_to-find m (brings G (λ j. s (from_at G j)) i) h in
    let p = and_parts (eqb (slot_at G r.0 / 4) i) _ r.2 in
    let q = and_parts (ltb (from_at G r.0) 128) _ p.1 in
    (r.0, r.1, eqb-true (slot_at G r.0 / 4) i p.0, ltb-true (from_at G r.0) 128 q.0, q.1)

pub child-here : (m : ℕ) (G : Graph) (s : ℕ → Bool) (i j : ℕ) → j < m → slot_at G j / 4 ≡ i → from_at G j < 128 → s (from_at G j) ≡ true → child_of m G s i ≡ true
unfolding child_of
child-here m G s i j l e f h =
    any_to-here m (brings G (λ j. s (from_at G j)) i) j l (and_both _ _ (eq-eqb (slot_at G j / 4) i e) (and_both _ _ (lt-ltb (from_at G j) 128 f) h))

pub child-mono : (m : ℕ) (G : Graph) (s t : ℕ → Bool) → ((f : ℕ) → s f ≡ true → t f ≡ true) → (i : ℕ) → child_of m G s i ≡ true → child_of m G t i ≡ true
child-mono m G s t h i g = let r = child-find m G s i g in child-here m G t i r.0 r.1 r.2 r.3 (h (from_at G r.0) r.4)

-- what is outside of more is outside of less
outside : (a b : Bool) → (a ≡ true → b ≡ true) → not b ≡ true → not a ≡ true
outside a b h g = ap not (not-of a (λ y. false-true (sym (not-true b g) ∙ h y)))

pub fails-mono : (w : ℕ) (a b c d : Bool) → (b ≡ true → a ≡ true) → (c ≡ true → d ≡ true) → fails_by w a c ≡ true → fails_by w b d ≡ true
unfolding fails_by
fails-mono w a b c d f g h =
    ⊎_elim
    (λ p. let q = and_parts (eqb w 1) (not a) p in or_left _ _ (and_both _ _ q.0 (outside b a f q.1)))
    (λ p. let q = and_parts (eqb w 2) c p in or_right (eqb w 1 && not b) _ (and_both _ _ q.0 (g q.1)))
    (or_cases (eqb w 1 && not a) (eqb w 2 && c) h)

pub failed-mono : (m : ℕ) (G : Graph) → Monotone (failed_rule m G)
unfolding failed_rule
failed-mono m G =
    record {
      mono = λ s t h i g. fails-mono (node_at G i) _ _ _ _ (child-mono m G (λ f. not (t f)) (λ f. not (s f)) (λ f. outside (s f) (t f) (h f)) i)
          (child-mono m G s t h i) g;
    }

-- a node that the rule brings has failed
pub failed-closed : (m : ℕ) (G : Graph) (i : ℕ) → i < 128
    → fails_by (node_at G i) (child_of m G (λ f. not (at (failed_of m G) f)) i) (child_of m G (at (failed_of m G)) i) ≡ true → at (failed_of m G) i ≡ true
unfolding failed_of failed_rule
failed-closed m G i l h = least-closed (failed_rule m G) 128 (failed-mono m G) i l h

-- Nodes with a child of a kind

pub touch-start : (G : Graph) (failed : List ℕ) (on : Bool) → Touched 0 G failed on (replicate 128 0)
unfolding child_of
touch-start G failed on = record { size = length-replicate {A = ℕ} 128 0; touched = flag-zeros 128 }

child-next : (m : ℕ) (G : Graph) (s : ℕ → Bool) (i : ℕ) → child_of (m + 1) G s i ≡ (child_of m G s i || brings G (λ j. s (from_at G j)) i m)
unfolding child_of
child-next m G s i = ap (λ (k : ℕ). any_to k (brings G (λ j. s (from_at G j)) i)) (add-one m)

module _ (m : ℕ) (G : Graph) (failed : List ℕ) (on : Bool) where
  abbrev in? : ℕ → Bool
  in? f = same_b on (flag failed f)

  -- edge m brings its node x / 4 such a child
  touch-add : (r r' : List ℕ) (x : ℕ) → x ≡ slot_at G m → slot_at G m < 512 → (ltb (from_at G m) 128 && same_b on (flag failed (from_at G m))) ≡ true
      → r' ≡ set r (x / 4) 1
      → Touched m G failed on r → Touched (m + 1) G failed on r'
  touch-add r r' x xe few h re t =
      let z : length r ≡ 128 = t.size in
      let l : slot_at G m / 4 < length r = omega arith in
      let e : r' ≡ set r (slot_at G m / 4) 1 = re ∙ ap (λ (k : ℕ). set r (k / 4) 1) xe in
      record {
        size = ap length e ∙ length-set r (slot_at G m / 4) 1 ∙ z;
        touched = λ i. ap (λ (s : List ℕ). flag s i) e ∙ ⊎_elim
            (λ q. let k : i ≡ slot_at G m / 4 = eqb-true i (slot_at G m / 4) q in
            ap (flag (set r (slot_at G m / 4) 1)) k ∙ flag_same r (slot_at G m / 4) l
            ∙ sym (child-next m G in? i ∙ ap (λ (b : Bool). child_of m G in? i || b) (and_both _ _ (eq-eqb (slot_at G m / 4) i (sym k)) h)
            ∙ or-true (child_of m G in? i)))
            (λ q. flag-other r (slot_at G m / 4) i (eqb-false i (slot_at G m / 4) q) ∙ t.touched i
            ∙ sym (child-next m G in? i ∙ ap (λ (b : Bool). child_of m G in? i || (b && (ltb (from_at G m) 128 && in? (from_at G m))))
            (ne_eqb (slot_at G m / 4) i (λ y. eqb-false i (slot_at G m / 4) q (sym y))) ∙ or-false (child_of m G in? i)))
            (decided (eqb i (slot_at G m / 4)));
      }

  touch-skip : (r r' : List ℕ) → (ltb (from_at G m) 128 && same_b on (flag failed (from_at G m))) ≡ false → r' ≡ r → Touched m G failed on r
      → Touched (m + 1) G failed on r'
  touch-skip r r' h e t =
      record {
        size = ap length e ∙ t.size;
        touched = λ i. ap (λ (s : List ℕ). flag s i) e ∙ t.touched i
            ∙ sym (child-next m G in? i ∙ ap (λ (b : Bool). child_of m G in? i || (eqb (slot_at G m / 4) i && b)) h
            ∙ ap (λ (b : Bool). child_of m G in? i || b) (and-false (eqb (slot_at G m / 4) i)) ∙ or-false (child_of m G in? i));
      }

  -- the same with what the code has read
  at_from : (f : ℕ) (b t : Bool) → f ≡ from_at G m → b ≡ (ltb f 128 && same_b on (flag failed f)) → b ≡ t
      → (ltb (from_at G m) 128 && same_b on (flag failed (from_at G m))) ≡ t
  at_from f b t e h k = ap (λ (x : ℕ). ltb x 128 && same_b on (flag failed x)) (sym e) ∙ sym h ∙ k

  pub touch-add-at : (r r' : List ℕ) (x f : ℕ) (b : Bool) → x ≡ slot_at G m → slot_at G m < 512 → f ≡ from_at G m
      → b ≡ (ltb f 128 && same_b on (flag failed f)) → b ≡ true → r' ≡ set r (x / 4) 1
      → Touched m G failed on r → Touched (m + 1) G failed on r'
  touch-add-at r r' x f b xe few fe be bt re t = touch-add r r' x xe few (at_from f b true fe be bt) re t

  pub touch-skip-at : (r r' : List ℕ) (f : ℕ) (b : Bool) → f ≡ from_at G m → b ≡ (ltb f 128 && same_b on (flag failed f)) → b ≡ false → r' ≡ r
      → Touched m G failed on r → Touched (m + 1) G failed on r'
  touch-skip-at r r' f b fe be bt re t = touch-skip r r' (at_from f b false fe be bt) re t

pub touch-all : (G : Graph) (failed : List ℕ) (on : Bool) (r : List ℕ) (j m : ℕ) → j ≤ m → m ≤ j → Touched j G failed on r → Touched m G failed on r
touch-all G failed on r j m a b t = let z : j ≡ m = omega arith in subst (λ (k : ℕ). Touched k G failed on r) z t

pub is-past : (failed : List ℕ) (f : ℕ) (on : Bool) → 128 ≤ f → false ≡ (ltb f 128 && same_b on (flag failed f))
is-past failed f on h = sym (ap (λ (t : Bool). t && same_b on (flag failed f)) (le-ltb f 128 h))

pub is-on : (failed : List ℕ) (f : ℕ) (on : Bool) → f < 128 → on ≡ true → flag failed f ≡ (ltb f 128 && same_b on (flag failed f))
is-on failed f on h e = sym (λ i. lt-ltb f 128 h i && same_b (e i) (flag failed f))

pub is-off : (failed : List ℕ) (f : ℕ) (on : Bool) → f < 128 → on ≡ false → not (flag failed f) ≡ (ltb f 128 && same_b on (flag failed f))
is-off failed f on h e = sym (λ i. lt-ltb f 128 h i && same_b (e i) (flag failed f))

-- Nodes that fail by the columns

module _ (way alive hit failed : List ℕ) where
  -- node i fails by the columns
  abbrev falls : ℕ → Bool
  falls i = fails_by (get_or way i 0) (flag alive i) (flag hit i)

  pub sweep-start : length failed ≡ 128 → Swept way alive hit failed 0 failed 0
  sweep-start z =
      record {
        size = z;
        within = omega arith;
        sound = λ i h g. absurd (false-true (sym g ∙ h));
        seen = λ i l. absurd (omega arith);
        counted = omega
            arith;
        same = λ e i. refl;
      }

  sweep-add : (r : List ℕ) (k a : ℕ) → k < 128 → flag r k ≡ false → falls k ≡ true → Swept way alive hit failed k r a
      → Swept way alive hit failed (k + 1) (set r k 1) (a + 1)
  sweep-add r k a l off h w =
      let z : length r ≡ 128 = w.size in
      let ps : k < length r = omega arith in
      let on : flag (set r k 1) k ≡ true = flag_same r k ps in
      record {
        size = length-set r k 1 ∙ z;
        within = omega arith;
        sound = λ i g f. ⊎_elim (λ q. (omega arith, ap falls q ∙ h)) (λ y. w.sound i y f) (flag-cases r k i g);
        seen =
            λ i g f. ⊎_elim (λ y. ap (flag (set r k 1)) (eqb-true i k y) ∙ on)
            (λ y. flag-grows r k i ps (w.seen i (omega (arith, eqb-false i k y)) f)) (decided (eqb i k));
        counted =
            cnt-one 128 (flag r) (flag (set r k 1)) k l off on (λ i o. flag-other r k i o)
            ∙ (let c : cnt 128 (flag r) ≡ cnt 128 (flag failed) + a = w.counted in omega arith);
        same = λ y. absurd (omega arith);
      }

  sweep-skip : (r : List ℕ) (k a : ℕ) → k < 128 → (falls k ≡ true → flag r k ≡ true) → Swept way alive hit failed k r a → Swept way alive hit failed (k + 1) r a
  sweep-skip r k a l h w =
      record {
        size = w.size;
        within = omega arith;
        sound = w.sound;
        seen =
            λ i g f. ⊎_elim (λ y. let q : i ≡ k = eqb-true i k y in ap (flag r) q ∙ h (ap falls (sym q) ∙ f))
            (λ y. w.seen i (omega (arith, eqb-false i k y)) f) (decided (eqb i k));
        counted = w.counted;
        same = w.same;
      }

  pub sweep-add-at : (r r' : List ℕ) (k a a' : ℕ) (b : Bool) → k < 128 → b ≡ (not (flag r k) && fails_by (get_or way k 0) (flag alive k) (flag hit k))
      → b ≡ true → r' ≡ set r k 1 → a' ≡ a + 1
      → Swept way alive hit failed k r a → Swept way alive hit failed (k + 1) r' a'
  sweep-add-at r r' k a a' b l e t re ae w =
      let p = and_parts (not (flag r k)) (falls k) (sym e ∙ t) in
      subst (λ (n : ℕ). Swept way alive hit failed (k + 1) r' n) (sym ae)
      (subst (λ (s : List ℕ). Swept way alive hit failed (k + 1) s (a + 1)) (sym re) (sweep-add r k a l (not-true (flag r k) p.0) p.1 w))

  pub sweep-skip-at : (r r' : List ℕ) (k a a' : ℕ) (b : Bool) → k < 128 → b ≡ (not (flag r k) && fails_by (get_or way k 0) (flag alive k) (flag hit k))
      → b ≡ false → r' ≡ r → a' ≡ a
      → Swept way alive hit failed k r a → Swept way alive hit failed (k + 1) r' a'
  sweep-skip-at r r' k a a' b l e t re ae w =
      subst (λ (n : ℕ). Swept way alive hit failed (k + 1) r' n) (sym ae) (subst (λ (s : List ℕ). Swept way alive hit failed (k + 1) s a) (sym re)
      (sweep-skip r k a l (λ h. ⊎_elim (λ y. y) (λ y. absurd (false-true (sym (sym e ∙ t) ∙ and_both (not (flag r k)) (falls k) (ap not y) h)))
      (decided (flag r k))) w))

  -- beyond the nodes none fails
  pub sweep-all : (r : List ℕ) (n k a : ℕ) → n ≤ k → Beyond n 0 way → Swept way alive hit failed k r a → Swept way alive hit failed 128 r a
  unfolding fails_by
  sweep-all r n k a h b w =
      record {
        size = w.size;
        within = omega arith;
        sound = w.sound;
        seen = λ i l f. ⊎_elim (λ e. w.seen i (ltb-true i k e) f)
            (λ e. let z : get_or way i 0 ≡ 0 = b.beyond i (omega (arith, ltb-false i k e)) l in absurd
            (false-true (sym (ap (λ (x : ℕ). fails_by x (flag alive i) (flag hit i)) z) ∙ f)))
            (decided (ltb i k));
        counted = w.counted;
        same = w.same;
      }

pub cnt-few : (r : List ℕ) → cnt 128 (flag r) ≤ 128
cnt-few r = cnt-le 128 (flag r)

-- Rounds

module _ {m : ℕ} {G : Graph} {failed alive hit r : List ℕ} (a : ℕ) (ta : Touched m G failed false alive) (th : Touched m G failed true hit)
    (w : Swept G.node alive hit failed 128 r a) (s : Sound m G failed) where
  -- the sweep goes by the rule
  rule-of : (i : ℕ) → fails_by (node_at G i) (flag alive i) (flag hit i) ≡ failed_rule m G (flag failed) i
  unfolding failed_rule
  rule-of i = λ j. fails_by (node_at G i) (ta.touched i j) (th.touched i j)

  pub round-sound : Sound m G r
  unfolding failed_of
  round-sound =
      record {
        size = w.size;
        sound = λ i h. ⊎_elim (λ y. s.sound i y)
            (λ y. let o = w.sound i h y in least-closed (failed_rule m G) 128 (failed-mono m G) i o.0
            ((failed-mono m G).mono (flag failed) (at (failed_of m G)) s.sound i (sym (rule-of i) ∙ o.1)))
            (decided (flag failed i));
      }

  -- a round that adds nothing proves that no node is missing
  pub round-last : a ≡ 0 → (i : ℕ) → flag r i ≡ at (failed_of m G) i
  unfolding failed_of
  round-last z i = bool_iff _ _ (round-sound.sound i) (least-below (failed_rule m G) 128 (failed-mono m G) (flag r) closed i)
    where
      closed : (i : ℕ) → i < 128 → failed_rule m G (flag r) i ≡ true → flag r i ≡ true
      closed i l h = w.seen i l (rule-of i ∙ (failed-mono m G).mono (flag r) (flag failed) (λ k g. sym (w.same z k) ∙ g) i h)
