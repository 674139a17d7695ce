-- Rows that rules make grow. Assumes nothing.
use Rattle.std.specs.Prelude.{ℕ, zero, suc, ◌+◌, ◌*◌, ◌/◌, ◌%◌, ◌^◌, ◌≤◌, ◌<◌, ◌≡◌, refl, ◌⊎◌, Bool, true, false, ◌||◌, not, cond, List, [], ◌∷◌, eqb, ltb, length, set}
use Rattle.std.proofs.Common.{add-zero, arith, sym, ◌∙◌, ap, subst, inl, inr, ⊎_elim, length-set, get_or-set_same, get_or-set_other}
use borrow.Author.Tests.{eqb-true, eqb-false, ltb-true, ltb-false, eq-eqb}
use Rattle.std.specs.Int.Bits.{bit_and, bit_or}
use Rattle.std.proofs.Math.ListN.{get_or-eq_default}
use Rattle.word.specs.laws.Bit.{bit_at, only, bit-or, bit-and, bit-zero, bit-only, without, without_sub, without_gone, or-more}
use Rattle.word.specs.laws.Bools.{false-true, or-neither, and_parts}
use Rattle.closure.specs.declared.Rules.{Rules}
use Rattle.closure.specs.laws.Rules.{el, bits, Under, Fits, Takes, mem_of, mem_rows, Used, Model, Within, Grown, Closed, Marked}
use Rattle.closure.specs.laws.Words.{InWord, LinksOf, meet_of, WordOf, room, Unchanged, TurnOf, RuleOf, PassOf, Poured, HeldOf, FullOf, level}
use Rattle.closure.specs.laws.Words.{FilledOf, RestsOf, StillOf}

or_cases : (a b s : ℕ) → bit_at (bit_or a b) s ≡ true → (bit_at a s ≡ true) ⊎ (bit_at b s ≡ true)
or_cases a b s h = go (bit_at a s) refl (sym (bit-or a b s) ∙ h)
  where
    go : (t : Bool) → bit_at a s ≡ t → (t || bit_at b s) ≡ true → (bit_at a s ≡ true) ⊎ (bit_at b s ≡ true)
    go true e q = inl e
    go false e q = inr q

or_left : (a b s : ℕ) → bit_at a s ≡ true → bit_at (bit_or a b) s ≡ true
or_left a b s h = bit-or a b s ∙ rw h

or_right : (a b s : ℕ) → bit_at b s ≡ true → bit_at (bit_or a b) s ≡ true
or_right a b s h = bit-or a b s ∙ go (bit_at a s) (bit_at b s) h
  where
    go : (t u : Bool) → u ≡ true → (t || u) ≡ true
    go true u q = refl
    go false u q = q

and_cases : (a b s : ℕ) → bit_at (bit_and a b) s ≡ true → (bit_at a s ≡ true) × (bit_at b s ≡ true)
and_cases a b s h = and_parts (bit_at a s) (bit_at b s) (sym (bit-and a b s) ∙ h)

and_both : (a b s : ℕ) → bit_at a s ≡ true → bit_at b s ≡ true → bit_at (bit_and a b) s ≡ true
and_both a b s h k = bit-and a b s ∙ rw (h, k)

-- Bits of rows, by words

bits-low : (K : List ℕ) (r s : ℕ) → bits K r s ≡ true → s < 128
unfolding bits
bits-low K r s q = ltb-true s 128 (and_parts (ltb s 128) (bit_at (el K (r * 2 + s / 64)) (s % 64)) q).0

bits-word : (K : List ℕ) (r s h : ℕ) → s / 64 ≡ h → bits K r s ≡ true → bit_at (el K (r * 2 + h)) (s % 64) ≡ true
unfolding bits
bits-word K r s h e q = subst (λ (x : ℕ). bit_at (el K (r * 2 + x)) (s % 64) ≡ true) e (and_parts (ltb s 128) (bit_at (el K (r * 2 + s / 64)) (s % 64)) q).1

word-bits : (K : List ℕ) (r s h : ℕ) → h < 2 → s / 64 ≡ h → bit_at (el K (r * 2 + h)) (s % 64) ≡ true → bits K r s ≡ true
unfolding bits
word-bits K r s h l e q =
    let z : s < 128 = omega arith in
    rw (borrow.Author.Tests.lt-ltb s 128 z) (subst (λ (x : ℕ). bit_at (el K (r * 2 + x)) (s % 64) ≡ true) (sym e) q)

pub bit_is : (K : List ℕ) (r s : ℕ) → s < 128 → bit_at (el K (r * 2 + s / 64)) (s % 64) ≡ bits K r s
unfolding bits
bit_is K r s l = rw (borrow.Author.Tests.lt-ltb s 128 l)

-- Links, number by number

pub record LinksTo (N b h f : ℕ) (S L M : List ℕ) (m w : ℕ) : Type 0 where
  pub left : (j : ℕ) → bit_at m j ≡ true → bit_at N j ≡ true
  pub says : (t : ℕ) → bit_at w t ≡ true
      → (j : ℕ) × (j < 64) × (bit_at N j ≡ true) × (bits M f (el S (b + j)) ≡ true) × (bit_at (el L ((b + j) * 2 + h)) t ≡ true)
  pub all : (j t : ℕ) → bit_at N j ≡ true → bit_at m j ≡ false → bits M f (el S (b + j)) ≡ true → bit_at (el L ((b + j) * 2 + h)) t ≡ true → bit_at w t ≡ true

-- whether a number is still to come, is this one, or has been seen
split : (m j k : ℕ) → bit_at (without m j) k ≡ false → (bit_at m k ≡ false) ⊎ (k ≡ j)
split m j k h = go (bit_at m k) refl
  where
    go : (t : Bool) → bit_at m k ≡ t → (bit_at m k ≡ false) ⊎ (k ≡ j)
    go true e = inr (without_gone m j k e h)
    go false e = inl e

module _ (N b h f : ℕ) (S L M : List ℕ) where
  pub links-start : LinksTo N b h f S L M N 0
  links-start = record { left = λ j q. q; says = λ t q. absurd (false-true (sym (bit-zero t) ∙ q)); all = λ j t q k. absurd (false-true (sym k ∙ q)) }

  links-add : (m w j : ℕ) → j < 64 → bit_at m j ≡ true → bits M f (el S (b + j)) ≡ true
      → LinksTo N b h f S L M m w → LinksTo N b h f S L M (without m j) (bit_or w (el L ((b + j) * 2 + h)))
  links-add m w j l q p inv =
      let v = el L ((b + j) * 2 + h) in
      record {
        left = λ k z. inv.left k (without_sub m j k q z);
        says = λ t z. ⊎_elim (λ y. inv.says t y) (λ y. (j, l, inv.left j q, p, y)) (or_cases w v t z);
        all = λ k t n z y x. ⊎_elim (λ e. or_left w v t (inv.all k t n e y x))
            (λ e. or_right w v t (subst (λ (k : ℕ). bit_at (el L ((b + k) * 2 + h)) t ≡ true) e x)) (split m j k z);
      }

  links-skip : (m w j : ℕ) → bit_at m j ≡ true → bits M f (el S (b + j)) ≡ false → LinksTo N b h f S L M m w → LinksTo N b h f S L M (without m j) w
  links-skip m w j q p inv =
      record {
        left = λ k z. inv.left k (without_sub m j k q z);
        says = inv.says;
        all = λ k t n z y x. ⊎_elim (λ e. inv.all k t n e y x)
            (λ e. absurd (false-true (sym p ∙ subst (λ (k : ℕ). bits M f (el S (b + k)) ≡ true) e y))) (split m j k z);
      }

  pub links-next : (m w j : ℕ) → j < 64 → bit_at m j ≡ true → (b' : Bool) → b' ≡ bits M f (el S (b + j)) → (m' w' : ℕ) → m' ≡ without m j
      → w' ≡ cond b' (bit_or w (el L ((b + j) * 2 + h))) w
      → LinksTo N b h f S L M m w → LinksTo N b h f S L M m' w'
  links-next m w j l q b' e m' w' d g inv =
      subst (λ (x : ℕ). LinksTo N b h f S L M x w') (sym d) (subst (λ (x : ℕ). LinksTo N b h f S L M (without m j) x) (sym g) (go b' e))
    where
      go : (t : Bool) → t ≡ bits M f (el S (b + j)) → LinksTo N b h f S L M (without m j) (cond t (bit_or w (el L ((b + j) * 2 + h))) w)
      go true z = links-add m w j l q (sym z) inv
      go false z = links-skip m w j q (sym z) inv

  pub links-all : (m w : ℕ) → m ≡ 0 → LinksTo N b h f S L M m w → LinksOf N b h f S L M w
  links-all m w e inv = record { says = inv.says; all = λ j t n p v. inv.all j t n (ap (λ (x : ℕ). bit_at x j) e ∙ bit-zero j) p v }

-- A rule's word

module _ (X : Rules) (i h : ℕ) (L M : List ℕ) where
  -- the links of word q of what rule i names
  abbrev Link : ℕ → ℕ → Type 0
  Link q k = LinksOf (el X.named (i * 2 + q)) (q * 64) h (el X.first i) X.src L M k

  link-in : (q k : ℕ) → Link q k → (j s : ℕ) → j / 64 ≡ q → s / 64 ≡ h → bits X.named i j ≡ true → bits M (el X.first i) (el X.src j) ≡ true
      → bits L j s ≡ true → bit_at k (s % 64) ≡ true
  link-in q k l j s e f a b c =
      let z : q * 64 + j % 64 ≡ j = omega arith in
      l.all (j % 64) (s % 64) (bits-word X.named i j q e a) (subst (λ (x : ℕ). bits M (el X.first i) (el X.src x) ≡ true) (sym z) b)
      (subst (λ (x : ℕ). bit_at (el L (x * 2 + h)) (s % 64) ≡ true) (sym z) (bits-word L j s h f c))

  -- what the links of word q say
  abbrev Says : ℕ → ℕ → Type 0
  Says q k = (t : ℕ) → bit_at k t ≡ true → (j : ℕ) × (j < 64) × (bit_at (el X.named (i * 2 + q)) j ≡ true)
      × (bits M (el X.first i) (el X.src (q * 64 + j)) ≡ true) × (bit_at (el L ((q * 64 + j) * 2 + h)) t ≡ true)

  link-out : (q k : ℕ) → q < 2 → h < 2 → Says q k → (s : ℕ) → s / 64 ≡ h → bit_at k (s % 64) ≡ true
      → (j : ℕ) × (bits X.named i j ≡ true) × (bits M (el X.first i) (el X.src j) ≡ true) × (bits L j s ≡ true)
  link-out q k u v l s e b =
      let r = l (s % 64) b in
      let z : r.0 < 64 = r.1 in
      let d : (q * 64 + r.0) / 64 ≡ q = omega arith in
      let m : r.0 ≡ (q * 64 + r.0) % 64 = omega arith in (
        q * 64 + r.0,
        word-bits X.named i (q * 64 + r.0) q u d (subst (λ (x : ℕ). bit_at (el X.named (i * 2 + q)) x ≡ true) m r.2),
        r.3,
        word-bits L (q * 64 + r.0) s h v e r.4,
      )

  abbrev shared : ℕ
  shared = meet_of L (el X.part (i * 4)) (el X.part (i * 4 + 1)) (el X.part (i * 4 + 2)) (el X.part (i * 4 + 3)) h

  meet-in : (s : ℕ) → s / 64 ≡ h → bits L (el X.part (i * 4)) s ≡ true → bits L (el X.part (i * 4 + 1)) s ≡ true
      → bits L (el X.part (i * 4 + 2)) s ≡ true → bits L (el X.part (i * 4 + 3)) s ≡ true → bit_at shared (s % 64) ≡ true
  meet-in s z a b c d =
      and_both _ _ (s % 64) (and_both _ _ (s % 64) (and_both _ _ (s % 64) (bits-word L _ s h z a) (bits-word L _ s h z b)) (bits-word L _ s h z c))
      (bits-word L _ s h z d)

  meet-out : h < 2 → (s : ℕ) → s / 64 ≡ h → bit_at shared (s % 64) ≡ true
      → (bits L (el X.part (i * 4)) s ≡ true) × (bits L (el X.part (i * 4 + 1)) s ≡ true)
      × (bits L (el X.part (i * 4 + 2)) s ≡ true) × (bits L (el X.part (i * 4 + 3)) s ≡ true)
  meet-out u s z q =
      let x = and_cases _ _ (s % 64) q in
      let y = and_cases _ _ (s % 64) x.0 in
      let w = and_cases _ _ (s % 64) y.0 in
      (word-bits L _ s h u z w.0, word-bits L _ s h u z w.1, word-bits L _ s h u z y.1, word-bits L _ s h u z x.1)

  half : (j : ℕ) → j < 128 → (j / 64 ≡ 0) ⊎ (j / 64 ≡ 1)
  half j l = go (ltb j 64) refl
    where
      go : (t : Bool) → ltb j 64 ≡ t → (j / 64 ≡ 0) ⊎ (j / 64 ≡ 1)
      go true e = let z : j < 64 = ltb-true j 64 e in inl (omega arith)
      go false e = let z : 64 ≤ j = ltb-false j 64 e in inr (omega arith)

  word_at : (k l : ℕ) → h < 2 → Link 0 k → Link 1 l → WordOf X i h L M (bit_or (bit_or shared k) l)
  word_at k l u lo hi =
      record {
        taken =
            record {
              meet = λ s z a b c d. or_left (bit_or shared k) l (s % 64) (or_left shared k (s % 64) (meet-in s z a b c d));
              link = λ j s z n m v. ⊎_elim (λ e. or_left (bit_or shared k) l (s % 64) (or_right shared k (s % 64) (link-in 0 k lo j s e z n m v)))
                  (λ e. or_right (bit_or shared k) l (s % 64) (link-in 1 l hi j s e z n m v)) (half j (bits-low X.named i j n));
            };
        least = λ m G g v w t s z b.
            let link : (q r : ℕ) → q < 2 → Link q r → bit_at r (s % 64) ≡ true → g s ≡ true =
            λ q r y x p. (let o = link-out q r y u x.says s z p in t.link o.0 s z o.1 (w.within _ _ o.2) (v.within _ s o.3)) in
            ⊎_elim
            (λ p. ⊎_elim
            (λ p. let o = meet-out u s z p in t.meet s z (v.within _ s o.0) (v.within _ s o.1) (v.within _ s o.2) (v.within _ s o.3))
            (λ p. link 0 k (omega arith) lo p) (or_cases shared k (s % 64) p))
            (λ p. link 1 l (omega arith) hi p) (or_cases (bit_or shared k) l (s % 64) b);
      }

  pub word_of : (w k l : ℕ) → h < 2 → w ≡ shared → LinksOf (el X.named (i * 2)) 0 h (el X.first i) X.src L M k
      → LinksOf (el X.named (i * 2 + 1)) 64 h (el X.first i) X.src L M l → WordOf X i h L M (bit_or (bit_or w k) l)
  word_of w k l u e lo hi =
      subst (λ (x : ℕ). WordOf X i h L M (bit_or (bit_or x k) l)) (sym e)
      (word_at k l u (subst (λ (x : ℕ). LinksOf (el X.named x) 0 h (el X.first i) X.src L M k) (sym (add-zero (i * 2))) lo) hi)

-- Rows that take in a word

-- the word at r * 2 + h takes in w
abbrev pub take : List ℕ → ℕ → ℕ → List ℕ
take K at w = set K at (bit_or (el K at) w)

module _ (K : List ℕ) (r h w : ℕ) (u : h < 2) (l : r * 2 + h < length K) where
  take_same : el (take K (r * 2 + h) w) (r * 2 + h) ≡ bit_or (el K (r * 2 + h)) w
  take_same = get_or-set_same K (r * 2 + h) (bit_or (el K (r * 2 + h)) w) 0 l

  take-says : (q t : ℕ) → bits (take K (r * 2 + h) w) q t ≡ true → (bits K q t ≡ true) ⊎ ((q ≡ r) × (t / 64 ≡ h) × (bit_at w (t % 64) ≡ true))
  take-says q t b = go (eqb (q * 2 + t / 64) (r * 2 + h)) refl
    where
      z : t / 64 < 2
      z = omega (arith, bits-low (take K (r * 2 + h) w) q t b)

      c : bit_at (el (take K (r * 2 + h) w) (q * 2 + t / 64)) (t % 64) ≡ true
      c = bits-word (take K (r * 2 + h) w) q t (t / 64) refl b

      go : (x : Bool) → eqb (q * 2 + t / 64) (r * 2 + h) ≡ x → (bits K q t ≡ true) ⊎ ((q ≡ r) × (t / 64 ≡ h) × (bit_at w (t % 64) ≡ true))
      go true e =
          let i : q * 2 + t / 64 ≡ r * 2 + h = eqb-true (q * 2 + t / 64) (r * 2 + h) e in
          let m : q ≡ r = omega (arith, z) in
          let n : t / 64 ≡ h = omega (arith, z) in
          ⊎_elim (λ p. inl (word-bits K q t (t / 64) z refl (subst (λ (x : ℕ). bit_at (el K x) (t % 64) ≡ true) (sym i) p))) (λ p. inr (m, n, p))
          (or_cases (el K (r * 2 + h)) w (t % 64)
          (sym (ap (λ (x : ℕ). bit_at x (t % 64)) take_same) ∙ subst (λ (x : ℕ). bit_at (el (take K (r * 2 + h) w) x) (t % 64) ≡ true) i c))
      go false e =
          inl (word-bits K q t (t / 64) z refl
          (sym (ap (λ (x : ℕ). bit_at x (t % 64)) (get_or-set_other K (r * 2 + h) (q * 2 + t / 64) (bit_or (el K (r * 2 + h)) w) 0
          (eqb-false (q * 2 + t / 64) (r * 2 + h) e))) ∙ c))

  take_in : (G : ℕ → ℕ → Bool) → Within (bits K) G → ((s : ℕ) → s / 64 ≡ h → bit_at w (s % 64) ≡ true → G r s ≡ true) → Within (bits (take K (r * 2 + h) w)) G
  take_in G k g =
      record {
        within = λ q t b. ⊎_elim (λ p. k.within q t p) (λ p. subst (λ (x : ℕ). G x t ≡ true) (sym p.0) (g t p.1 p.2)) (take-says q t b);
      }

  take-here : (s : ℕ) → s / 64 ≡ h → bit_at w (s % 64) ≡ true → bits (take K (r * 2 + h) w) r s ≡ true
  take-here s e b =
      word-bits (take K (r * 2 + h) w) r s h u e (ap (λ (x : ℕ). bit_at x (s % 64)) take_same ∙ or_right (el K (r * 2 + h)) w (s % 64) b)

  take-kept : Within (bits K) (bits (take K (r * 2 + h) w))
  take-kept = record { within = λ q t b. go q t b (eqb (q * 2 + t / 64) (r * 2 + h)) refl }
    where
      go : (q t : ℕ) → bits K q t ≡ true → (x : Bool) → eqb (q * 2 + t / 64) (r * 2 + h) ≡ x → bits (take K (r * 2 + h) w) q t ≡ true
      go q t b x e = word-bits (take K (r * 2 + h) w) q t (t / 64) (omega (arith, bits-low K q t b)) refl (up x e)
        where
          c : bit_at (el K (q * 2 + t / 64)) (t % 64) ≡ true
          c = bits-word K q t (t / 64) refl b

          up : (x : Bool) → eqb (q * 2 + t / 64) (r * 2 + h) ≡ x → bit_at (el (take K (r * 2 + h) w) (q * 2 + t / 64)) (t % 64) ≡ true
          up true e =
              let i : q * 2 + t / 64 ≡ r * 2 + h = eqb-true (q * 2 + t / 64) (r * 2 + h) e in
              subst (λ (x : ℕ). bit_at (el (take K (r * 2 + h) w) x) (t % 64) ≡ true) (sym i)
              (ap (λ (x : ℕ). bit_at x (t % 64)) take_same ∙ or_left (el K (r * 2 + h)) w (t % 64) (subst (λ (x : ℕ). bit_at (el K x) (t % 64) ≡ true) i c))
          up false e =
              ap (λ (x : ℕ). bit_at x (t % 64)) (get_or-set_other K (r * 2 + h) (q * 2 + t / 64) (bit_or (el K (r * 2 + h)) w) 0
              (eqb-false (q * 2 + t / 64) (r * 2 + h) e)) ∙ c

pub mark-at : (K : List ℕ) (r s b : ℕ) → r < 130 → s < 128 → length K ≡ 260 → b ≡ only (s % 64) → Marked K r s (take K (r * 2 + s / 64) b)
mark-at K r s b l m n e =
    let u : s / 64 < 2 = omega arith in
    let i : r * 2 + s / 64 < length K = omega arith in
    let is : (t : ℕ) → bit_at b t ≡ eqb t (s % 64) = λ t. ap (λ (x : ℕ). bit_at x t) e ∙ bit-only (s % 64) t in
    record {
      sized = length-set K (r * 2 + s / 64) _ ∙ n;
      kept = take-kept K r (s / 64) b u i;
      here = take-here K r (s / 64) b u i s refl (is (s % 64) ∙ eq-eqb (s % 64) (s % 64) refl);
      says = λ q t z. ⊎_elim (λ p. inl p)
          (λ p.
          let y : t % 64 ≡ s % 64 = eqb-true (t % 64) (s % 64) (sym (is (t % 64)) ∙ p.2) in
          let x : t / 64 ≡ s / 64 = p.1 in
          inr (p.0, omega arith))
          (take-says K r (s / 64) b u i q t z);
    }

-- Rows that grow

abbrev MemWithin : (own : Bool) (K M : List ℕ) (G : ℕ → ℕ → Bool) → Type 0
MemWithin own K M G = Within (bits (mem_rows own K M)) (mem_of own G (bits M))

mem-within : (own : Bool) (K M : List ℕ) (G : ℕ → ℕ → Bool) → Within (bits K) G → MemWithin own K M G
unfolding mem_rows
mem-within true K M G h = record { within = λ r s q. h.within r s q }
mem-within false K M G h = record { within = λ r s q. q }

mem-from : (own : Bool) (K M : List ℕ) (r s : ℕ) → mem_of own (bits K) (bits M) r s ≡ true → bits (mem_rows own K M) r s ≡ true
unfolding mem_rows
mem-from true K M r s q = q
mem-from false K M r s q = q

within-trans : {G H J : ℕ → ℕ → Bool} → Within G H → Within H J → Within G J
within-trans a b = record { within = λ r s q. b.within r s (a.within r s q) }

room-set : (K : List ℕ) (h v : ℕ) → h < length K → el K h < v → el K h < 2 ^ 64 → room (set K h v) + 1 ≤ room K
room-set [] h v l m b = absurd (omega arith)
room-set (x ∷ K) zero v l m b = omega arith
room-set (x ∷ K) (suc h) v l m b = omega (arith, room-set K h v (omega arith) m b)

true-false : true ≡ false → ⊥
true-false h = false-true (sym h)

-- A rule that takes in more bits takes in fewer
takes_part : {X : Rules} {i : ℕ} {In In' : ℕ → Type 0} {m G : ℕ → ℕ → Bool} {g : ℕ → Bool} → ((s : ℕ) → In' s → In s) → Takes X i In m G g → Takes X i In' m G g
takes_part f t = record { meet = λ s z. t.meet s (f s z); link = λ j s z. t.link j s (f s z) }

-- One turn

module _ (X : Rules) (own : Bool) (M : List ℕ) (i h : ℕ) (K : List ℕ) (w : ℕ) (under : Under 130 X.head) (two : h < 2) (lt : h < X.words)
    (size : length K ≡ 260) (word : WordOf X i h K (mem_rows own K M) w) where
  pub turn-new : (v : ℕ) → v ≡ bit_or (el K (el X.head i * 2 + h)) w → (v ≡ el K (el X.head i * 2 + h) → ⊥) → el K (el X.head i * 2 + h) < 2 ^ 64
      → TurnOf X own M i h K (set K (el X.head i * 2 + h) v) true
  turn-new v e new b =
      let r = el X.head i in
      let l : r * 2 + h < length K = omega (arith, under.under i) in
      let m : el K (r * 2 + h) < bit_or (el K (r * 2 + h)) w = lib.Arith.lt_of_le-ne (or-more (el K (r * 2 + h)) w) (λ q. new (e ∙ sym q)) in
      subst (λ (x : ℕ). TurnOf X own M i h K (set K (r * 2 + h) x) true) (sym e)
      record {
        sized = length-set K (r * 2 + h) _ ∙ size;
        kept = take-kept K r h w two l;
        least = λ G t k. take_in K r h w two l G k
            (λ s z q. word.least (mem_of own G (bits M)) G (G r) k (mem-within own K M G k) (takes_part (λ s z. omega arith) t) s z q);
        fewer = room-set K (r * 2 + h) (bit_or (el K (r * 2 + h)) w) l m b;
        same = λ q. absurd (true-false q);
        still = λ q. absurd (true-false q);
      }

  pub turn-same : (v : ℕ) → v ≡ bit_or (el K (el X.head i * 2 + h)) w → v ≡ el K (el X.head i * 2 + h) → TurnOf X own M i h K K false
  turn-same v e same =
      record {
        sized = size;
        kept = record { within = λ r s q. q };
        least = λ G t k. k;
        fewer = omega arith;
        same = λ q. refl;
        still = λ q. record {
          meet = λ s z a b c d. in' s z (word.taken.meet s z a b c d);
          link = λ j s z n m v. in' s z (word.taken.link j s z n (mem-from own K M _ _ m) v);
        };
      }
    where
      in' : (s : ℕ) → s / 64 ≡ h → bit_at w (s % 64) ≡ true → bits K (el X.head i) s ≡ true
      in' s z q =
          word-bits K (el X.head i) s h two z
          (ap (λ (x : ℕ). bit_at x (s % 64)) (sym same ∙ e) ∙ or_right (el K (el X.head i * 2 + h)) w (s % 64) q)

-- One rule, word by word

module _ (X : Rules) (on : List ℕ) (own : Bool) (M : List ℕ) where
  pub grow-start : (K : List ℕ) → length K ≡ 260 → Grown X on own M K K
  grow-start K h = record { sized = h; kept = record { within = λ r s q. q }; least = λ G m k. k }

  pub grow-more : {K₀ K K' : List ℕ} → Grown X on own M K₀ K → Grown X on own M K K' → Grown X on own M K₀ K'
  grow-more a b = record { sized = b.sized; kept = within-trans a.kept b.kept; least = λ G m k. b.least G m (a.least G m k) }

  pub record RuleTo (i : ℕ) (K₀ K : List ℕ) (r : Bool) (h : ℕ) : Type 0 where
    pub upto : h ≤ X.words
    pub grown : Grown X on own M K₀ K
    pub fewer : room K + cond r 1 0 ≤ room K₀
    pub same : r ≡ false → K₀ ≡ K
    pub still : r ≡ false → (g : ℕ) → g < h → Unchanged X own M i (InWord g) K

  pub rule-start : (i : ℕ) (K : List ℕ) → length K ≡ 260 → RuleTo i K K false 0
  rule-start i K h = record { upto = omega arith; grown = grow-start K h; fewer = omega arith; same = λ q. refl; still = λ q g l. absurd (omega arith) }

  pub rule-turn : {i h : ℕ} {K₀ K K' : List ℕ} {r t : Bool} → i < X.count → el on i ≡ 1 → h < X.words
      → TurnOf X own M i h K K' t → RuleTo i K₀ K r h → RuleTo i K₀ K' (r || t) (h + 1)
  rule-turn {i} {h} {K₀} {K} {K'} {r} {t} l o w turn inv =
      record {
        upto = omega arith;
        grown = grow-more inv.grown (record { sized = turn.sized; kept = turn.kept; least = λ G m k. turn.least G (m.rule i l o) k });
        fewer = few r t inv.fewer turn.fewer;
        same = λ q. let z = or-neither r t q in inv.same z.0 ∙ turn.same z.1;
        still = λ q g k. (let z = or-neither r t q in go g k z.0 z.1 (eqb g h) refl);
      }
    where
      few : (r t : Bool) → room K + cond r 1 0 ≤ room K₀ → room K' + cond t 1 0 ≤ room K → room K' + cond (r || t) 1 0 ≤ room K₀
      few true true a b = omega arith
      few true false a b = omega arith
      few false t a b = omega arith

      go : (g : ℕ) → g < h + 1 → r ≡ false → t ≡ false → (x : Bool) → eqb g h ≡ x → Unchanged X own M i (InWord g) K'
      go g k p q true e = subst (λ (x : ℕ). Unchanged X own M i (InWord x) K') (sym (eqb-true g h e)) (turn.still q)
      go g k p q false e = subst (λ (x : List ℕ). Unchanged X own M i (InWord g) x) (turn.same q) (inv.still p g (omega (arith, eqb-false g h e)))

  pub rule-all : {i h : ℕ} {K₀ K : List ℕ} {r : Bool} → X.words ≤ h → RuleTo i K₀ K r h → RuleOf X on own M i K₀ K r
  rule-all {i} {h} {K₀} {K} l inv =
      record {
        grown = inv.grown;
        fewer = inv.fewer;
        same = inv.same;
        still = λ q k o. record {
          meet = λ s z. (inv.still q (s / 64) (omega arith)).meet s refl;
          link = λ j s z. (inv.still q (s / 64) (omega arith)).link j s refl;
        };
      }

  pub rule-off : (i : ℕ) (K : List ℕ) → length K ≡ 260 → (i < X.count → el on i ≡ 1 → ⊥) → RuleOf X on own M i K K false
  rule-off i K h no' = record { grown = grow-start K h; fewer = omega arith; same = λ q. refl; still = λ q l o. absurd (no' l o) }

  -- Rule by rule

  pub record PassTo (K₀ K : List ℕ) (added i : ℕ) : Type 0 where
    pub upto : i ≤ X.count
    pub few : added ≤ i
    pub grown : Grown X on own M K₀ K
    pub fewer : room K + added ≤ room K₀
    pub still : added ≡ 0 → (j : ℕ) → j < i → el on j ≡ 1 → Unchanged X own M j (Used X) K

  pub pass-start : (K : List ℕ) → length K ≡ 260 → PassTo K K 0 0
  pass-start K h = record { upto = omega arith; few = omega arith; grown = grow-start K h; fewer = omega arith; still = λ z j l. absurd (omega arith) }

  pub pass-more : {i added : ℕ} {K₀ K K' : List ℕ} {r : Bool} → i < X.count → r ≡ true → RuleOf X on own M i K K' r → PassTo K₀ K added i
      → PassTo K₀ K' (added + 1) (i + 1)
  pass-more {i} {added} {K₀} {K} {K'} l e rule inv =
      record {
        upto = omega arith;
        few = omega (arith, inv.few);
        grown = grow-more inv.grown rule.grown;
        fewer = omega (arith, inv.fewer, subst (λ (x : Bool). room K' + cond x 1 0 ≤ room K) e rule.fewer);
        still = λ z. absurd (omega arith);
      }

  pub pass-unchanged : {i added : ℕ} {K₀ K K' : List ℕ} {r : Bool} → i < X.count → r ≡ false → RuleOf X on own M i K K' r → PassTo K₀ K added i
      → PassTo K₀ K' added (i + 1)
  pass-unchanged {i} {added} {K₀} {K} {K'} {r} l e rule inv =
      record {
        upto = omega arith;
        few = omega (arith, inv.few);
        grown = grow-more inv.grown rule.grown;
        fewer = omega (arith, inv.fewer, rule.fewer);
        still = λ z j k o. go z j k o (eqb j i) refl;
      }
    where
      go : added ≡ 0 → (j : ℕ) → j < i + 1 → el on j ≡ 1 → (t : Bool) → eqb j i ≡ t → Unchanged X own M j (Used X) K'
      go z j k o true q =
          let y : j ≡ i = eqb-true j i q in
          subst (λ (x : ℕ). Unchanged X own M x (Used X) K') (sym y) (rule.still e l (subst (λ (x : ℕ). el on x ≡ 1) y o))
      go z j k o false q = subst (λ (x : List ℕ). Unchanged X own M j (Used X) x) (rule.same e) (inv.still z j (omega (arith, eqb-false j i q)) o)

  pub pass_all : {i added : ℕ} {K₀ K : List ℕ} → X.count ≤ i → PassTo K₀ K added i → PassOf X on own M K₀ K added
  pass_all l inv = record { grown = inv.grown; fewer = inv.fewer; still = λ z. record { rule = λ j k o. inv.still z j (omega arith) o } }

  -- Pass by pass

  pub record CloseTo (K₀ K : List ℕ) (more : Bool) : Type 0 where
    pub grown : Grown X on own M K₀ K
    pub done : more ≡ false → Model X on own (bits M) (bits K)

  pub close-start : (K : List ℕ) → length K ≡ 260 → CloseTo K K true
  close-start K h = record { grown = grow-start K h; done = λ q. absurd (true-false q) }

  pub close-pass : {K₀ K K' : List ℕ} {more more' : Bool} {added : ℕ} → PassOf X on own M K K' added → (more' ≡ false → added ≡ 0) → CloseTo K₀ K more
      → CloseTo K₀ K' more'
  close-pass p f inv = record { grown = grow-more inv.grown p.grown; done = λ q. p.still (f q) }

  pub close-all : {K₀ K₁ K : List ℕ} {more : Bool} → more ≡ false → Grown X on own M K₀ K₁ → CloseTo K₁ K more → Closed X on own M K₀ K
  close-all e g inv = record { grown = grow-more g inv.grown; model = inv.done e }

-- what the rows can still take in, and the pass that is still to come
unfoldable pub left : List ℕ → Bool → ℕ
left K more = room K + cond more 1 0

pub close-less : {X : Rules} {on : List ℕ} {own : Bool} {M K K' : List ℕ} {added : ℕ} → PassOf X on own M K K' added
    → (more : Bool) → (more ≡ true → 0 < added) → left K' more < left K true
unfolding left
close-less p true f = omega (arith, p.fewer, f refl)
close-less p false f = omega (arith, p.fewer)

-- A row that takes in a row, word by word

module _ (w j r : ℕ) where
  pub add-more : {K₀ K K' : List ℕ} → Poured w j r K₀ K → Poured w j r K K' → Poured w j r K₀ K'
  add-more a b = record { sized = b.sized; kept = within-trans a.kept b.kept; least = λ G f k. b.least G f (a.least G f k) }

  pub add-word : (K : List ℕ) (h : ℕ) → h < 2 → h < w → r < 130 → length K ≡ 260 → Poured w j r K (take K (r * 2 + h) (el K (j * 2 + h)))
  add-word K h u n l e =
      let z : r * 2 + h < length K = omega arith in
      record {
        sized = length-set K (r * 2 + h) _ ∙ e;
        kept = take-kept K r h (el K (j * 2 + h)) u z;
        least = λ G f k. take_in K r h (el K (j * 2 + h)) u z G k (λ s q b. f s (omega arith) (k.within j s (word-bits K j s h u q b)));
      }

pub not_left : (b : Bool) → not b ≡ false → b ≡ true
not_left true h = refl
not_left false h = absurd (true-false h)

pub link-grown : {X : Rules} {on : List ℕ} {own : Bool} {M K K' : List ℕ} {i j : ℕ} → i < X.count → el on i ≡ 1 → bits X.named i j ≡ true
    → bits (mem_rows own K M) (el X.first i) (el X.src j) ≡ true → Poured X.words j (el X.head i) K K' → Grown X on own M K K'
link-grown {own = own} {M} {K} {i = i} {j} l o n m p =
    record {
      sized = p.sized;
      kept = p.kept;
      least = λ G g k. p.least G (λ s u b. (g.rule i l o).link j s u n ((mem-within own K M G k).within _ _ m) b) k;
    }

-- A rule along some of its links, in the first word
pub links-grown : (X : Rules) (on : List ℕ) (own : Bool) (M K : List ℕ) (i m w : ℕ) → Under 130 X.head → 0 < X.words → length K ≡ 260 → i < X.count
    → el on i ≡ 1 → LinksOf (bit_and m (el X.named (i * 2))) 0 0 (el X.first i) X.src K (mem_rows own K M) w
    → Grown X on own M K (take K (el X.head i * 2) w)
links-grown X on own M K i m w under some size l o links =
    let r = el X.head i in
    let e : r * 2 + 0 ≡ r * 2 = add-zero (r * 2) in
    let u : ◌<◌ 0 2 = omega arith in
    let z : r * 2 + 0 < length K = omega (arith, under.under i) in
    let says : Says X i 0 K (mem_rows own K M) 0 w = λ t b.
    (let q = links.says t b in (
      q.0,
      q.1,
      subst (λ (x : ℕ). bit_at (el X.named x) q.0 ≡ true) (sym (add-zero (i * 2)))
          (and_cases m (el X.named (i * 2)) q.0 q.2).1,
      q.3,
      q.4,
    )) in
    subst (λ (x : ℕ). Grown X on own M K (take K x w)) e
    record {
      sized = length-set K (r * 2 + 0) _ ∙ size;
      kept = take-kept K r 0 w u z;
      least = λ G g k. take_in K r 0 w u z G k
          (λ s d b.
          let p = link-out X i 0 K (mem_rows own K M) 0 w u u says s d b in
          (g.rule i l o).link p.0 s (omega arith) p.1 ((mem-within own K M G k).within _ _ p.2) (k.within _ s p.3));
    }

-- Rows that hold all that a row holds

pub held_next : {h k w : ℕ} {K : List ℕ} → HeldOf h k K w → HeldOf h (k + 1) K (bit_or w (el K (k * 2 + h)))
held_next {h} {k} {w} {K} inv = record { all = λ r t l b. go r t l b (eqb r k) refl }
  where
    go : (r t : ℕ) → r < k + 1 → bit_at (el K (r * 2 + h)) t ≡ true → (x : Bool) → eqb r k ≡ x → bit_at (bit_or w (el K (k * 2 + h))) t ≡ true
    go r t l b true e = or_right w (el K (k * 2 + h)) t (subst (λ (x : ℕ). bit_at (el K (x * 2 + h)) t ≡ true) (eqb-true r k e) b)
    go r t l b false e = or_left w (el K (k * 2 + h)) t (inv.all r t (omega (arith, eqb-false r k e)) b)

-- a row that has a bit is one of the list
row_low : (K : List ℕ) (r h t : ℕ) → length K ≡ 260 → h < 2 → bit_at (el K (r * 2 + h)) t ≡ true → r < 130
row_low K r h t e u b = go (ltb r 130) refl
  where
    go : (x : Bool) → ltb r 130 ≡ x → r < 130
    go true z = ltb-true r 130 z
    go false z =
        let l : 130 ≤ r = ltb-false r 130 z in
        absurd (false-true (sym (bit-zero t) ∙ sym (ap (λ (x : ℕ). bit_at x t) (get_or-eq_default K 0 (omega arith))) ∙ b))

pub level-start : (K : List ℕ) (lo hi : ℕ) → length K ≡ 260 → HeldOf 0 130 K lo → HeldOf 1 130 K hi → Within (bits K) (level lo hi)
unfolding level
level-start K lo hi size low high =
    record {
      within = λ r s b.
          let l : s < 128 = bits-low K r s b in
          ⊎_elim
          (λ e. let q = bits-word K r s 0 e b in word-bits (lo ∷ hi ∷ []) 0 s 0 (omega arith) e
          (low.all r (s % 64) (row_low K r 0 (s % 64) size (omega arith) q) q))
          (λ e. let q = bits-word K r s 1 e b in word-bits (lo ∷ hi ∷ []) 0 s 1 (omega arith) e
          (high.all r (s % 64) (row_low K r 1 (s % 64) size (omega arith) q) q))
          (in-half s l);
    }
  where
    in-half : (j : ℕ) → j < 128 → (j / 64 ≡ 0) ⊎ (j / 64 ≡ 1)
    in-half j l = go (ltb j 64) refl
      where
        go : (t : Bool) → ltb j 64 ≡ t → (j / 64 ≡ 0) ⊎ (j / 64 ≡ 1)
        go true e = let z : j < 64 = ltb-true j 64 e in inl (omega arith)
        go false e = let z : 64 ≤ j = ltb-false j 64 e in inr (omega arith)

-- what grows by rules stays within the words
pub level-grown : {X : Rules} {on : List ℕ} {own : Bool} {M K K' : List ℕ} (lo hi : ℕ) → Grown X on own M K K' → Within (bits K) (level lo hi)
    → Within (bits K') (level lo hi)
unfolding level
level-grown lo hi g k = g.least (λ r s. bits (lo ∷ hi ∷ []) 0 s) (record { rule = λ i l o. record { meet = λ s z a b c d. a; link = λ j s z n m v. v } }) k

pub rule-full : (X : Rules) (on : List ℕ) (own : Bool) (M K : List ℕ) (i lo hi : ℕ) {b : Bool} → Fits X → length K ≡ 260
    → Within (bits K) (level lo hi) → FullOf X.words lo hi (el X.head i) K b → b ≡ true
    → RuleOf X on own M i K K false
unfolding level
rule-full X on own M K i lo hi fits size within full e =
    record {
      grown = grow-start X on own M K size;
      fewer = omega arith;
      same = λ q. refl;
      still = λ q l o. record { meet = λ s z a b c d. in' s z (within.within _ s a); link = λ j s z n m v. in' s z (within.within j s v) };
    }
  where
    r : ℕ
    r = el X.head i

    in' : (s : ℕ) → s / 64 < X.words → bits (lo ∷ hi ∷ []) 0 s ≡ true → bits K r s ≡ true
    in' s z b = go (ltb s 64) refl
      where
        l : s < 128
        l = bits-low (lo ∷ hi ∷ []) 0 s b

        go : (t : Bool) → ltb s 64 ≡ t → bits K r s ≡ true
        go true q =
            let y : s < 64 = ltb-true s 64 q in
            let h : s / 64 ≡ 0 = omega arith in
            word-bits K r s 0 (omega arith) h (ap (λ (x : ℕ). bit_at x (s % 64)) (ap (el K) (add-zero (r * 2)) ∙ full.low e)
            ∙ bits-word (lo ∷ hi ∷ []) 0 s 0 h b)
        go false q =
            let y : 64 ≤ s = ltb-false s 64 q in
            let h : s / 64 ≡ 1 = omega arith in
            word-bits K r s 1 (omega arith) h (ap (λ (x : ℕ). bit_at x (s % 64)) (full.high e (omega arith)) ∙ bits-word (lo ∷ hi ∷ []) 0 s 1 h b)

-- The first word alone

-- a rule's row takes in what its parts share
pub meet-grown : (X : Rules) (on : List ℕ) (own : Bool) (M K : List ℕ) (i w : ℕ) → Under 130 X.head → 0 < X.words → length K ≡ 260 → i < X.count
    → el on i ≡ 1 → w ≡ meet_of K (el X.part (i * 4)) (el X.part (i * 4 + 1)) (el X.part (i * 4 + 2)) (el X.part (i * 4 + 3)) 0
    → Grown X on own M K (take K (el X.head i * 2) w)
meet-grown X on own M K i w under some size l o is =
    let r = el X.head i in
    let e : r * 2 + 0 ≡ r * 2 = add-zero (r * 2) in
    let u : ◌<◌ 0 2 = omega arith in
    let z : r * 2 + 0 < length K = omega (arith, under.under i) in
    subst (λ (x : ℕ). Grown X on own M K (take K x w)) e
    record {
      sized = length-set K (r * 2 + 0) _ ∙ size;
      kept = take-kept K r 0 w u z;
      least = λ G g k. take_in K r 0 w u z G k
          (λ s d b.
          let p = meet-out X i 0 K M u s d (subst (λ (x : ℕ). bit_at x (s % 64) ≡ true) is b) in
          (g.rule i l o).meet s (omega arith) (k.within _ s p.0) (k.within _ s p.1) (k.within _ s p.2) (k.within _ s p.3));
    }

pub filled-start : (K : List ℕ) → FilledOf 0 K 0
filled-start K = record { all = λ j t l b. absurd (omega arith) }

pub filled-add : (K : List ℕ) (k w b : ℕ) → b ≡ only k → FilledOf k K w → FilledOf (k + 1) K (bit_or w b)
filled-add K k w b e inv = record { all = λ j t l q. go j t l q (eqb j k) refl }
  where
    go : (j t : ℕ) → j < k + 1 → bit_at (el K (j * 2)) t ≡ true → (x : Bool) → eqb j k ≡ x → bit_at (bit_or w b) j ≡ true
    go j t l q true z = or_right w b j (ap (λ (x : ℕ). bit_at x j) e ∙ (bit-only k j ∙ z))
    go j t l q false z = or_left w b j (inv.all j t (omega (arith, eqb-false j k z)) q)

pub filled-skip : (K : List ℕ) (k w : ℕ) → el K (k * 2) ≡ 0 → FilledOf k K w → FilledOf (k + 1) K w
filled-skip K k w e inv = record { all = λ j t l q. go j t l q (eqb j k) refl }
  where
    go : (j t : ℕ) → j < k + 1 → bit_at (el K (j * 2)) t ≡ true → (x : Bool) → eqb j k ≡ x → bit_at w j ≡ true
    go j t l q true z =
        let y : j ≡ k = eqb-true j k z in
        absurd (false-true (sym (bit-zero t) ∙ (sym (ap (λ (x : ℕ). bit_at x t) e) ∙ subst (λ (x : ℕ). bit_at (el K (x * 2)) t ≡ true) y q)))
    go j t l q false z = inv.all j t (omega (arith, eqb-false j k z)) q

module _ (X : Rules) (on : List ℕ) (own : Bool) (M : List ℕ) (i : ℕ) (K : List ℕ) where
  pub rests-off : {b : Bool} → (el on i ≡ 1 → ⊥) → RestsOf X on own M i K b
  rests-off n = record { quiet = λ e o. absurd (n o) }

  pub rests-not : RestsOf X on own M i K false
  rests-not = record { quiet = λ e. absurd (false-true e) }

  old_row : (old s : ℕ) → old ≡ el K (el X.head i * 2) → s / 64 ≡ 0 → bit_at old (s % 64) ≡ true → bits K (el X.head i) s ≡ true
  old_row old s e z b =
      word-bits K (el X.head i) s 0 (omega arith) z
      (subst (λ (x : ℕ). bit_at (el K x) (s % 64) ≡ true) (sym (add-zero (el X.head i * 2))) (sym (ap (λ (x : ℕ). bit_at x (s % 64)) e) ∙ b))

  -- a row that holds all that a row holds
  pub rests-full : (old lo : ℕ) → X.words ≡ 1 → length K ≡ 260 → HeldOf 0 130 K lo → old ≡ el K (el X.head i * 2) → old ≡ lo → RestsOf X on own M i K true
  rests-full old lo one size held is full =
      record { quiet = λ e o. record { meet = λ s z a b c d. in' s z _ a; link = λ j s z n m v. in' s z j v } }
    where
      in' : (s : ℕ) → s / 64 < X.words → (r : ℕ) → bits K r s ≡ true → bits K (el X.head i) s ≡ true
      in' s z r b =
          let h : s / 64 ≡ 0 = omega arith in
          let q = bits-word K r s 0 h b in
          old_row old s is h (ap (λ (x : ℕ). bit_at x (s % 64)) full ∙ held.all r (s % 64) (row_low K r 0 (s % 64) size (omega arith) q) q)

  -- a rule whose word is in its row
  pub rests-in : (old m k F : ℕ) → X.words ≡ 1 → FilledOf 64 K F → el X.named (i * 2 + 1) ≡ 0
      → m ≡ meet_of K (el X.part (i * 4)) (el X.part (i * 4 + 1)) (el X.part (i * 4 + 2)) (el X.part (i * 4 + 3)) 0
      → LinksOf (bit_and (el X.named (i * 2)) F) 0 0 (el X.first i) X.src K (mem_rows own K M) k
      → old ≡ el K (el X.head i * 2) → {b : Bool} → b ≡ eqb (bit_or (bit_or m k) old) old → RestsOf X on own M i K b
  rests-in old m k F one filled none is links row {b} test = record { quiet = λ e o. quiet (eqb-true _ _ (sym test ∙ e)) }
    where
      quiet : bit_or (bit_or m k) old ≡ old → Unchanged X own M i (Used X) K
      quiet same =
          record {
            meet = λ s z a b c d.
                let h : s / 64 ≡ 0 = omega arith in
                keep s h (or_left m k (s % 64) (ap (λ (x : ℕ). bit_at x (s % 64)) is ∙ meet-in X i 0 K M s h a b c d));
            link = λ j s z n p v.
                let h : s / 64 ≡ 0 = omega arith in
                keep s h (or_right m k (s % 64) (via j s h n (mem-from own K M _ _ p) v));
          }
        where
          keep : (s : ℕ) → s / 64 ≡ 0 → bit_at (bit_or m k) (s % 64) ≡ true → bits K (el X.head i) s ≡ true
          keep s h q = old_row old s row h (sym (ap (λ (x : ℕ). bit_at x (s % 64)) same) ∙ or_left (bit_or m k) old (s % 64) q)

          low : (j : ℕ) → bits X.named i j ≡ true → j / 64 ≡ 0
          low j n = ⊎_elim (λ h. h)
              (λ h. absurd (false-true (sym (bit-zero (j % 64)) ∙ (sym (ap (λ (x : ℕ). bit_at x (j % 64)) none) ∙ bits-word X.named i j 1 h n))))
              (half X i 0 K M j (bits-low X.named i j n))

          via : (j s : ℕ) → s / 64 ≡ 0 → bits X.named i j ≡ true → bits (mem_rows own K M) (el X.first i) (el X.src j) ≡ true
              → bits K j s ≡ true → bit_at k (s % 64) ≡ true
          via j s h n p v =
              let l : j / 64 ≡ 0 = low j n in
              let d : j % 64 ≡ j = omega arith in
              let z : 0 + j ≡ j = omega arith in
              let a : (0 + j) * 2 + 0 ≡ j * 2 = omega arith in
              let w : bit_at (el K (j * 2)) (s % 64) ≡ true = subst (λ (x : ℕ). bit_at (el K x) (s % 64) ≡ true) (add-zero (j * 2)) (bits-word K j s 0 h v) in
              let q : bit_at (el X.named (i * 2)) j ≡ true =
              subst (λ (x : ℕ). bit_at (el X.named (i * 2)) x ≡ true) d
              (subst (λ (x : ℕ). bit_at (el X.named x) (j % 64) ≡ true) (add-zero (i * 2)) (bits-word X.named i j 0 l n)) in
              links.all j (s % 64) (and_both (el X.named (i * 2)) F j q (filled.all j (s % 64) (omega arith) w))
              (subst (λ (x : ℕ). bits (mem_rows own K M) (el X.first i) (el X.src x) ≡ true) (sym z) p)
              (subst (λ (x : ℕ). bit_at (el K x) (s % 64) ≡ true) (sym a) w)

-- Rule by rule

pub record StillTo (X : Rules) (on : List ℕ) (own : Bool) (M K : List ℕ) (i : ℕ) : Type 0 where
  pub upto : i ≤ X.count
  pub quiet : (j : ℕ) → j < i → el on j ≡ 1 → Unchanged X own M j (Used X) K

module _ (X : Rules) (on : List ℕ) (own : Bool) (M K : List ℕ) where
  pub still-not : StillOf X on own M K false
  still-not = record { model = λ e. absurd (false-true e) }

  pub still-start : StillTo X on own M K 0
  still-start = record { upto = omega arith; quiet = λ j l. absurd (omega arith) }

  pub still-next : (i : ℕ) {b : Bool} → i < X.count → RestsOf X on own M i K b → not b ≡ false → StillTo X on own M K i → StillTo X on own M K (i + 1)
  still-next i {b} l rests e inv = record { upto = omega arith; quiet = λ j k o. go j k o (eqb j i) refl }
    where
      go : (j : ℕ) → j < i + 1 → el on j ≡ 1 → (t : Bool) → eqb j i ≡ t → Unchanged X own M j (Used X) K
      go j k o true q =
          let y : j ≡ i = eqb-true j i q in
          subst (λ (x : ℕ). Unchanged X own M x (Used X) K) (sym y) (rests.quiet (not_left b e) (subst (λ (x : ℕ). el on x ≡ 1) y o))
      go j k o false q = inv.quiet j (omega (arith, eqb-false j i q)) o

  pub still-all : (i : ℕ) → X.count ≤ i → StillTo X on own M K i → StillOf X on own M K true
  still-all i l inv = record { model = λ e. record { rule = λ j k o. inv.quiet j (omega arith) o } }

pub filled-end : (K : List ℕ) (k n w : ℕ) → k ≤ n → n ≤ k → FilledOf k K w → FilledOf n K w
filled-end K k n w a b inv = let e : k ≡ n = omega arith in subst (λ (x : ℕ). FilledOf x K w) e inv
