-- Why the queue finds the satisfied nodes. Assumes nothing.
use Rattle.std.specs.Prelude.{ℕ, zero, suc, ◌+◌, ◌*◌, ◌/◌, ◌≤◌, ◌<◌, ◌≡◌, refl, Bool, true, false, ◌||◌, List, eqb, ltb, get_or, length, set, replicate}
use Rattle.std.proofs.Common.{arith, sym, ◌∙◌, ap, subst, ⊎_elim, eqb-true, eq-eqb, ne_eqb, ltb-true, ltb-false, lt-ltb, le-ltb, length-set, get_or-set_same, get_or-set_other}
use Rattle.std.proofs.lemmas.Bool.{eqb-false}
use Rattle.std.proofs.lemmas.List.{length-replicate}
use Rattle.word.specs.laws.Bools.{false-true, or_cases, and_parts, and_both, bool_iff}
use Rattle.propagation.specs.laws.Flags.{decided, cnt, cnt-le, cnt-one, cnt-none, cnt-room, flag, flag_same, flag-other, flag-grows, flag-zeros}
use Rattle.propagation.specs.laws.Flags.{flag-past}
use Rattle.propagation.specs.Flags.{at}
use Rattle.propagation.specs.laws.Least.{least-closed, least-below}
use Rattle.propagation.specs.laws.Satisfied.{Graph, from_at, slot_at, node_at, filled_by, satisfied_rule, satisfied_of}
use Rattle.propagation.specs.laws.SatisfiedLaws.{filled-find, filled-here, filled-mono, satisfied-parts, satisfied-of, satisfied-mono, satisfied-more}
use Rattle.propagation.specs.laws.Chains.{Chained}
use Rattle.propagation.specs.declared.satisfying.Work.{Work}
use Rattle.propagation.specs.laws.Work.{ready_at, Beyond, work, Base, Full, Later, Marked, Brought, Visited, Done}

-- Slots

or-second : (a b : Bool) → a ≡ false → (a || b) ≡ true → b ≡ true
or-second a b p h = ⊎_elim (λ q. absurd (false-true (sym p ∙ q))) (λ q. q) (or_cases a b h)

ready-parts : (k : ℕ) (got : List ℕ) (a : ℕ) → ready_at k got a ≡ true → (k < 5) × ((i : ℕ) → i < k → flag got (a + i) ≡ true)
unfolding ready_at
ready-parts k got a h =
    let h4 = and_parts _ (ltb k 4 || flag got (a + 3)) h in
    let h3 = and_parts _ (ltb k 3 || flag got (a + 2)) h4.0 in
    let h2 = and_parts _ (ltb k 2 || flag got (a + 1)) h3.0 in
    let h1 = and_parts (ltb k 5) (ltb k 1 || flag got a) h2.0 in
    let few : k < 5 = ltb-true k 5 h1.0 in
    (few, each h1.1 h2.1 h3.1 h4.1 few)
  where
    each : (ltb k 1 || flag got a) ≡ true → (ltb k 2 || flag got (a + 1)) ≡ true → (ltb k 3 || flag got (a + 2)) ≡ true → (ltb k 4 || flag got (a + 3)) ≡ true
        → k < 5 → (i : ℕ) → i < k → flag got (a + i) ≡ true
    each p0 p1 p2 p3 few zero l = let e : a + 0 ≡ a = omega arith in ap (flag got) e ∙ or-second (ltb k 1) (flag got a) (le-ltb k 1 (omega arith)) p0
    each p0 p1 p2 p3 few (suc zero) l = or-second (ltb k 2) (flag got (a + 1)) (le-ltb k 2 (omega arith)) p1
    each p0 p1 p2 p3 few (suc (suc zero)) l = or-second (ltb k 3) (flag got (a + 2)) (le-ltb k 3 (omega arith)) p2
    each p0 p1 p2 p3 few (suc (suc (suc zero))) l = or-second (ltb k 4) (flag got (a + 3)) (le-ltb k 4 (omega arith)) p3
    each p0 p1 p2 p3 few (suc (suc (suc (suc i)))) l = absurd (omega arith)

slot_of : (k i : ℕ) (got : List ℕ) (a : ℕ) → (i < k → flag got (a + i) ≡ true) → (ltb k (i + 1) || flag got (a + i)) ≡ true
slot_of k i got a h = go (ltb k (i + 1)) refl
  where
    go : (b : Bool) → ltb k (i + 1) ≡ b → (b || flag got (a + i)) ≡ true
    go true e = refl
    go false e = h (omega (arith, ltb-false k (i + 1) e))

ready_of : (k : ℕ) (got : List ℕ) (a : ℕ) → k < 5 → ((i : ℕ) → i < k → flag got (a + i) ≡ true) → ready_at k got a ≡ true
unfolding ready_at
ready_of k got a l h =
    let e : a + 0 ≡ a = omega arith in
    and_both _ (ltb k 4 || flag got (a + 3)) (and_both _ (ltb k 3 || flag got (a + 2))
    (and_both _ (ltb k 2 || flag got (a + 1)) (and_both (ltb k 5) (ltb k 1 || flag got a) (lt-ltb k 5 l)
    (subst (λ (n : ℕ). (ltb k 1 || flag got n) ≡ true) e (slot_of k 0 got a (h 0)))) (slot_of k 1 got a (h 1))) (slot_of k 2 got a (h 2)))
    (slot_of k 3 got a (h 3))

-- One node

later_refl : (W : Work) → Later W W
later_refl W = record { got-grows = λ k h. h; sat-grows = λ i h. h; kept = λ r h. refl; more = omega arith }

later_trans : {U X W : Work} → Later U X → Later X W → Later U W
later_trans {U} {X} {W} a b =
    let p : U.tail ≤ X.tail = a.more in
    let q : X.tail ≤ W.tail = b.more in
    record {
      got-grows = λ k h. b.got-grows k (a.got-grows k h);
      sat-grows = λ i h. b.sat-grows i (a.sat-grows i h);
      kept = λ r h. b.kept r
          (omega arith) ∙ a.kept r h;
      more = omega arith;
    }

pub mark-stands : (m : ℕ) (G : Graph) (W : Work) (p : ℕ) → Base m G W → get_or W.sat p 0 ≡ 1 → Marked m G W W p
mark-stands m G W p b h = record { base = b; later = later_refl W; here = λ z. eq-eqb (get_or W.sat p 0) 1 h }

pub mark-not : (m : ℕ) (G : Graph) (W : Work) (p : ℕ) → Base m G W → ready_at (node_at G p) W.got (p * 4) ≡ false → Marked m G W W p
mark-not m G W p b h = record { base = b; later = later_refl W; here = λ z. absurd (false-true (sym h ∙ z)) }

pub mark-room : (m : ℕ) (G : Graph) (W : Work) (p : ℕ) → Base m G W → p < 128 → (get_or W.sat p 0 ≡ 1 → ⊥) → W.tail < 128
mark-room m G W p b l h =
    let c : W.tail ≡ cnt 128 (flag W.sat) = b.counted in omega (arith, cnt-room 128 (flag W.sat) p l (ne_eqb (get_or W.sat p 0) 1 h))

abbrev pub marked : Work → ℕ → Work
marked W p = work W.got (set W.sat p 1) (set W.queue W.tail p) (W.tail + 1)

pub mark-new : (m : ℕ) (G : Graph) (W : Work) (p : ℕ) → Base m G W → p < 128 → (get_or W.sat p 0 ≡ 1 → ⊥)
    → ready_at (node_at G p) W.got (p * 4) ≡ true → Marked m G W (marked W p) p
unfolding satisfied_of
mark-new m G W p b l h ready =
    let parts = ready-parts (node_at G p) W.got (p * 4) ready in
    let off : flag W.sat p ≡ false = ne_eqb (get_or W.sat p 0) 1 h in
    let ss : length W.sat ≡ 128 = b.sat-size in
    let qs : length W.queue ≡ 128 = b.queue-size in
    let ps : p < length W.sat = omega arith in
    let tl : W.tail < 128 = mark-room m G W p b l h in
    let ts : W.tail < length W.queue = omega arith in
    let on : flag (set W.sat p 1) p ≡ true = flag_same W.sat p ps in
    let grows : (i : ℕ) → flag W.sat i ≡ true → flag (set W.sat p 1) i ≡ true = λ i t. flag-grows W.sat p i ps t in
    let kept : (r : ℕ) → r < W.tail → get_or (set W.queue W.tail p) r 0
    ≡ get_or W.queue r 0 = λ r t. get_or-set_other W.queue W.tail r p 0 (λ (z : r ≡ W.tail). omega arith) in
    let last : get_or (set W.queue W.tail p) W.tail 0 ≡ p = get_or-set_same W.queue W.tail p 0 ts in
    let holds : at (satisfied_of m G) p ≡ true
    = least-closed (satisfied_rule m G) 128 (satisfied-mono m G) p l
    (satisfied-of m G (at (satisfied_of m G)) p parts.0 (λ k q. b.got-sound (p * 4 + k) (parts.1 k q))) in
    record {
      base = record {
        few = b.few;
        slots = b.slots;
        got-size = b.got-size;
        sat-size = length-set W.sat p 1 ∙ ss;
        queue-size = length-set W.queue W.tail p ∙ qs;
        got-sound = b.got-sound;
        sat-sound =
            λ i t. ⊎_elim (λ e. ap (at (satisfied_of m G)) (eqb-true i p e) ∙ holds)
            (λ e. b.sat-sound i (sym (flag-other W.sat p i (eqb-false i p e)) ∙ t)) (decided (eqb i p));
        counted =
            ap (λ (k : ℕ). k + 1) b.counted ∙ sym (cnt-one 128 (flag W.sat) (flag (set W.sat p 1)) p l off on (λ i o. flag-other W.sat p i o));
        queued = λ i t. ⊎_elim (λ e. (W.tail, omega arith, last ∙ sym (eqb-true i p e)))
            (λ e. let r = b.queued i (sym (flag-other W.sat p i (eqb-false i p e)) ∙ t) in let rl : r.0 < W.tail = r.1 in
            (r.0, omega arith, kept r.0 rl ∙ r.2)) (decided (eqb i p));
        standing = λ r t. ⊎_elim
            (λ e. let z : r ≡ W.tail = eqb-true r W.tail e in let v : get_or (set W.queue W.tail p) r 0
            ≡ p = ap (λ (n : ℕ). get_or (set W.queue W.tail p) n 0) z ∙ last in (omega arith, ap (flag (set W.sat p 1)) v ∙ on))
            (λ e. let z : r < W.tail = omega (arith, eqb-false r W.tail e) in let v : get_or (set W.queue W.tail p) r 0
            ≡ get_or W.queue r 0 = kept r z in let o = b.standing r z in let ol : get_or W.queue r 0 < 128 = o.0 in
            (omega arith, ap (flag (set W.sat p 1)) v ∙ grows (get_or W.queue r 0) o.1))
            (decided (eqb r W.tail));
      };
      later = record { got-grows = λ k t. t; sat-grows = grows; kept = kept; more = omega arith };
      here = λ z. on;
    }

-- One edge

abbrev pub filled : Work → ℕ → Work
filled W k = work (set W.got k 1) W.sat W.queue W.tail

fill : (m : ℕ) (G : Graph) (W : Work) (j : ℕ) → Base m G W → j < m → flag W.sat (from_at G j) ≡ true → Base m G (filled W (slot_at G j))
fill m G W j b l h =
    record {
      few = b.few;
      slots = b.slots;
      got-size = length-set W.got (slot_at G j) 1 ∙ b.got-size;
      sat-size = b.sat-size;
      queue-size = b.queue-size;
      got-sound = λ k t. ⊎_elim
          (λ e. filled-here m G (at (satisfied_of m G)) k j l (sym (eqb-true k (slot_at G j) e)) (b.sat-sound (from_at G j) h))
          (λ e. b.got-sound k (sym (flag-other W.got (slot_at G j) k (eqb-false k (slot_at G j) e)) ∙ t)) (decided (eqb k (slot_at G j)));
      sat-sound = b.sat-sound;
      counted = b.counted;
      queued = b.queued;
      standing = b.standing;
    }

ready-other : (k s i : ℕ) (got : List ℕ) → (i ≡ s / 4 → ⊥) → ready_at k (set got s 1) (i * 4) ≡ true → ready_at k got (i * 4) ≡ true
ready-other k s i got o h =
    let r = ready-parts k (set got s 1) (i * 4) h in
    ready_of k got (i * 4) r.0 (λ n l. sym (flag-other got s (i * 4 + n) (λ (z : i * 4 + n ≡ s). o (omega arith))) ∙ r.1 n l)

bring-done : (m : ℕ) (G : Graph) (W : Work) (j : ℕ) (s q : List ℕ) (t : ℕ) → Base m G W → Full 128 G W
    → Marked m G (filled W (slot_at G j)) (work (set W.got (slot_at G j) 1) s q t) (slot_at G j / 4)
    → Brought m G W (work (set W.got (slot_at G j) 1) s q t) j
bring-done m G W j s q t b f d =
    let gs : length W.got ≡ 512 = b.got-size in
    let sl : slot_at G j < 512 = b.slots j in
    let inside : slot_at G j < length W.got = omega arith in
    record {
      base = d.base;
      full = record {
        full = λ i l r. ⊎_elim
            (λ e. let z : i ≡ slot_at G j / 4 = eqb-true i (slot_at G j / 4) e in ap (flag s) z
            ∙ d.here (subst (λ (n : ℕ). ready_at (node_at G n) (set W.got (slot_at G j) 1) (n * 4) ≡ true) z r))
            (λ e. d.later.sat-grows i (f.full i l (ready-other (node_at G i) (slot_at G j) i W.got (eqb-false i (slot_at G j / 4) e) r)))
            (decided (eqb i (slot_at G j / 4)));
      };
      later =
          record {
            got-grows = λ k h. flag-grows W.got (slot_at G j) k inside h;
            sat-grows = d.later.sat-grows;
            kept = d.later.kept;
            more =
                d.later.more;
          };
      here = flag_same W.got (slot_at G j) inside;
    }

-- The edges from one node

pub visit-start : (m : ℕ) (G : Graph) (W : Work) (head next : List ℕ) (f v h : ℕ) → Base m G W → Full 128 G W → Chained m G.from head next → f ≡ v
    → h ≡ get_or head f 0 → Visited m G W W v h
visit-start m G W head next f v h b u c fe he =
    record {
      base = b;
      full = u;
      later = later_refl W;
      low = omega (arith, c.head-low f);
      seen = λ e l k z. absurd
          (c.head-all f e (omega arith) k (z ∙ sym fe));
    }

-- edge j, the first below h, is from v, and the next one of the chain is n
pub visit-follow : {m : ℕ} {G : Graph} {W X Y : Work} {v h j n : ℕ} (head next : List ℕ) → h ≡ j + 1 → n ≡ get_or next j 0 → from_at G j ≡ v
    → Chained m G.from head next
    → Visited m G W X v h → Brought m G X Y j → Visited m G W Y v n
visit-follow {m} {G} {W} {X} {Y} {v} {h} {j} {n} head next he ne fe c a d =
    let low : h ≤ m = a.low in
    record {
      base = d.base;
      full = d.full;
      later = later_trans a.later d.later;
      low = omega (arith, c.next_low j);
      seen = λ e l k z. ⊎_elim (λ i. ap (λ (n : ℕ). flag Y.got (slot_at G n)) (eqb-true e j i) ∙ d.here)
          (λ i. ⊎_elim (λ p. absurd (c.next-all j e (omega arith) (omega arith) (ltb-true e j p) (z ∙ sym fe)))
          (λ p. d.later.got-grows (slot_at G e) (a.seen e (omega (arith, eqb-false e j i, ltb-false e j p)) k z)) (decided (ltb e j))) (decided (eqb e j));
    }

pub visit-skip : {m : ℕ} {G : Graph} {W X : Work} {v h j : ℕ} → h ≡ j + 1 → (from_at G j ≡ v → ⊥) → Visited m G W X v h → Visited m G W X v j
visit-skip {m} {G} {W} {X} {v} {h} {j} he o a =
    let low : h ≤ m = a.low in
    record {
      base = a.base;
      full = a.full;
      later = a.later;
      low = omega arith;
      seen =
          λ e l k z. ⊎_elim (λ i. absurd (o (sym (ap (from_at G) (eqb-true e j i)) ∙ z))) (λ i. a.seen e (omega (arith, eqb-false e j i)) k z)
          (decided (eqb e j));
    }

pub visit-all : {m : ℕ} {G : Graph} {W X : Work} {v h : ℕ} → h ≤ 0 → Visited m G W X v h → Visited m G W X v 0
visit-all l a = record { base = a.base; full = a.full; later = a.later; low = omega arith; seen = λ e h k z. a.seen e (omega arith) k z }

-- The queue

pub settle_step : {m : ℕ} {G : Graph} {W X : Work} (q : ℕ) → q < W.tail → Done m G W q → Visited m G W X (get_or W.queue q 0) 0 → Done m G X (q + 1)
settle_step {m} {G} {W} {X} q h d a =
    let more : W.tail ≤ X.tail = a.later.more in
    record {
      base = a.base;
      full = a.full;
      within = omega arith;
      done = λ e r l k z. ⊎_elim
          (λ i. a.seen e (omega arith) l (z ∙ ap (λ (n : ℕ). get_or X.queue n 0) (eqb-true r q i) ∙ a.later.kept q h))
          (λ i. let rq : r < q = omega (arith, eqb-false r q i) in a.later.got-grows (slot_at G e)
          (d.done e r l rq (z ∙ a.later.kept r (omega arith)))) (decided (eqb r q));
    }

pub done_all : {m : ℕ} {G : Graph} {W : Work} (q : ℕ) → W.tail ≤ q → Done m G W q → Done m G W W.tail
done_all {m} {G} {W} q l d = record { base = d.base; full = d.full; within = omega arith; done = λ e r a b z. d.done e r a (omega arith) z }

pub tail-few : {m : ℕ} {G : Graph} {W : Work} → Base m G W → W.tail ≤ 128
tail-few {m} {G} {W} b = let c : W.tail ≡ cnt 128 (flag W.sat) = b.counted in omega (arith, cnt-le 128 (flag W.sat))

-- the queue has run dry: the satisfied nodes are the least solution
pub settled : (m : ℕ) (G : Graph) (W : Work) → Done m G W W.tail → (i : ℕ) → flag W.sat i ≡ at (satisfied_of m G) i
unfolding satisfied_of
settled m G W d i = bool_iff _ _ (d.base.sat-sound i) (least-below (satisfied_rule m G) 128 (satisfied-mono m G) (flag W.sat) closed i)
  where
    slot-done : (k : ℕ) → filled_by m G (flag W.sat) k ≡ true → flag W.got k ≡ true
    slot-done k h = follow (found h)
      where
        found : filled_by m G (flag W.sat) k ≡ true → (j : ℕ) × (j < m) × (slot_at G j ≡ k) × (flag W.sat (from_at G j) ≡ true)
        found h = filled-find m G (flag W.sat) k h

        follow : (j : ℕ) × (j < m) × (slot_at G j ≡ k) × (flag W.sat (from_at G j) ≡ true) → flag W.got k ≡ true
        follow r = let p = d.base.queued (from_at G r.0) r.3 in sym (ap (flag W.got) r.2) ∙ d.done r.0 p.0 r.1 p.1 (sym p.2)

    closed : (i : ℕ) → i < 128 → satisfied_rule m G (flag W.sat) i ≡ true → flag W.sat i ≡ true
    closed i l h =
        let p = satisfied-parts m G (flag W.sat) i h in d.full.full i l
        (ready_of (node_at G i) W.got (i * 4) p.0 (λ k q. slot-done (i * 4 + k) (p.1 k q)))

pub settled_at : {m j : ℕ} {G : Graph} {W : Work} → j ≤ m → m ≤ j → Done j G W W.tail → (i : ℕ) → flag W.sat i ≡ at (satisfied_of m G) i
settled_at {m} {j} {G} {W} a b d = let z : j ≡ m = omega arith in settled m G W (subst (λ (k : ℕ). Done k G W W.tail) z d)

-- The start

pub start : (G : Graph) → ((j : ℕ) → slot_at G j < 512) → Base 0 G (work (replicate 512 0) (replicate 128 0) (replicate 128 0) 0)
start G slots =
    record {
      few = omega arith;
      slots = slots;
      got-size = length-replicate {A = ℕ} 512 0;
      sat-size = length-replicate {A = ℕ} 128 0;
      queue-size = length-replicate {A = ℕ} 128 0;
      got-sound = λ k h. absurd (false-true (sym (flag-zeros 512 k) ∙ h));
      sat-sound = λ i h. absurd (false-true (sym (flag-zeros 128 i) ∙ h));
      counted = sym (cnt-none 128 (flag (replicate 128 0)) (flag-zeros 128));
      queued = λ i h. absurd (false-true (sym (flag-zeros 128 i) ∙ h));
      standing = λ r h. absurd (omega arith);
    }

pub full-none : (G : Graph) (W : Work) → Full 0 G W
full-none G W = record { full = λ i l. absurd (omega arith) }

pub full-next : {m : ℕ} {G : Graph} {got s q s' q' : List ℕ} {t t' : ℕ} (i : ℕ) → Full i G (work got s q t)
    → Marked m G (work got s q t) (work got s' q' t') i → Full (i + 1) G (work got s' q' t')
full-next {m} {G} {got} {s} {q} {s'} {q'} {t} {t'} i f d =
    record {
      full = λ n l r. ⊎_elim
          (λ e. let z : n ≡ i = eqb-true n i e in ap (flag s') z ∙ d.here (subst (λ (x : ℕ). ready_at (node_at G x) got (x * 4) ≡ true) z r))
          (λ e. d.later.sat-grows n (f.full n (omega (arith, eqb-false n i e)) r)) (decided (eqb n i));
    }

-- beyond the nodes none needs anything that it gets
pub full-all : {G : Graph} {W : Work} (n i : ℕ) → n ≤ i → Beyond n 5 G.node → Full i G W → Full 128 G W
unfolding ready_at
full-all {G} {W} n i h b f =
    record {
      full = λ j l r. ⊎_elim (λ e. f.full j (ltb-true j i e) r)
          (λ e. let z : node_at G j ≡ 5 = b.beyond j (omega (arith, ltb-false j i e)) l in absurd
          (false-true (sym (ap (λ (k : ℕ). ready_at k W.got (j * 4)) z) ∙ r)))
          (decided (ltb j i));
    }

-- with no edge there is none to follow
pub done_none : {G : Graph} {W : Work} → Base 0 G W → Full 128 G W → Done 0 G W W.tail
done_none b f = record { base = b; full = f; within = omega arith; done = λ e r l. absurd (omega arith) }

-- One more edge

pub base_more : (m : ℕ) (G : Graph) (W : Work) → m < 256 → Base m G W → Base (m + 1) G W
base_more m G W l b =
    record {
      few = omega arith;
      slots = b.slots;
      got-size = b.got-size;
      sat-size = b.sat-size;
      queue-size = b.queue-size;
      got-sound =
          λ k h. filled-mono m (m + 1) G (at (satisfied_of m G)) (at (satisfied_of (m + 1) G)) (omega arith) (satisfied-more m (m + 1) G (omega arith))
          k (b.got-sound k h);
      sat-sound = λ i h. satisfied-more m (m + 1) G (omega arith) i (b.sat-sound i h);
      counted = b.counted;
      queued = b.queued;
      standing = b.standing;
    }

pub done-bring : (m : ℕ) (G : Graph) (W X : Work) → Done m G W W.tail → Brought (m + 1) G W X m → Done (m + 1) G X W.tail
done-bring m G W X d a =
    record {
      base = a.base;
      full = a.full;
      within = a.later.more;
      done = λ e r l h z. ⊎_elim (λ i. ap (λ (n : ℕ). flag X.got (slot_at G n)) (eqb-true e m i) ∙ a.here)
          (λ i. a.later.got-grows (slot_at G e) (d.done e r (omega (arith, eqb-false e m i)) h (z ∙ a.later.kept r h))) (decided (eqb e m));
    }

done-skip : (m : ℕ) (G : Graph) (W : Work) → m < 256 → Done m G W W.tail → flag W.sat (from_at G m) ≡ false → Done (m + 1) G W W.tail
done-skip m G W l d off =
    record {
      base = base_more m G W l d.base;
      full = d.full;
      within = d.within;
      done = λ e r k h z. ⊎_elim (λ i. absurd (false-true (sym off ∙ ap (flag W.sat) (sym (ap (from_at G) (eqb-true e m i)) ∙ z) ∙ (d.base.standing r h).1)))
          (λ i. d.done e r (omega (arith, eqb-false e m i)) h z) (decided (eqb e m));
    }

-- With the slot as it was read

pub fill-at : (m : ℕ) (G : Graph) (W : Work) (j s : ℕ) → s ≡ slot_at G j → Base m G W → j < m → flag W.sat (from_at G j) ≡ true → Base m G (filled W s)
fill-at m G W j s e b l h = subst (λ (x : ℕ). Base m G (filled W x)) (sym e) (fill m G W j b l h)

pub bring-at : (m : ℕ) (G : Graph) (W : Work) (j x : ℕ) (s q : List ℕ) (t : ℕ) → x ≡ slot_at G j → Base m G W → Full 128 G W
    → Marked m G (filled W x) (work (set W.got x 1) s q t) (x / 4) → Brought m G W (work (set W.got x 1) s q t) j
bring-at m G W j x s q t e b f d =
    subst (λ (x : ℕ). Marked m G (filled W x) (work (set W.got x 1) s q t) (x / 4) → Brought m G W (work (set W.got x 1) s q t) j) (sym e)
    (bring-done m G W j s q t b f) d

-- An edge that brings nothing yet

pub insert-off : (m : ℕ) (G : Graph) (W : Work) (f : ℕ) → m < 256 → Done m G W W.tail → f ≡ from_at G m → (get_or W.sat f 0 ≡ 1 → ⊥)
    → Done (m + 1) G W W.tail
insert-off m G W f l d e o = done-skip m G W l d (ap (flag W.sat) (sym e) ∙ ne_eqb (get_or W.sat f 0) 1 o)

pub insert-past : (m : ℕ) (G : Graph) (W : Work) (f : ℕ) → m < 256 → Done m G W W.tail → f ≡ from_at G m → 128 ≤ f → Done (m + 1) G W W.tail
insert-past m G W f l d e h =
    let s : length W.sat ≡ 128 = d.base.sat-size in done-skip m G W l d (ap (flag W.sat) (sym e) ∙ flag-past W.sat f (omega arith))

pub insert-on : (m : ℕ) (G : Graph) (W : Work) (f : ℕ) → f ≡ from_at G m → get_or W.sat f 0 ≡ 1 → flag W.sat (from_at G m) ≡ true
insert-on m G W f e h = ap (flag W.sat) (sym e) ∙ eq-eqb (get_or W.sat f 0) 1 h
