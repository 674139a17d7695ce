-- Why the queue finds what the chains come to. Assumes nothing.
use Rattle.std.specs.Prelude.{ℕ, ◌+◌, ◌≤◌, ◌<◌, ◌≡◌, refl, Bool, true, false, not, List, eqb, ltb, get_or, length, set, replicate}
use Rattle.std.proofs.Common.{arith, sym, ◌∙◌, ap, subst, inl, inr, ⊎_elim, eqb-true, eq-eqb, ne_eqb, ltb-true, ltb-false, length-set, get_or-set_same, get_or-set_other}
use Rattle.std.proofs.lemmas.Bool.{eqb-false, not-true, not-false}
use Rattle.std.proofs.lemmas.List.{length-replicate}
use Rattle.expression.specs.declared.Role.{Role}
use Rattle.expression.specs.declared.Parts.{Parts}
use Rattle.expression.specs.declared.Expression.{Expression}
use Rattle.expression.specs.declared.Expression.TheVariants as E
use Rattle.expression.specs.Same.{same_role}
use Rattle.expression.specs.laws.Same.{same_role-eq, eq-same_role}
use Rattle.rt0.specs.declared.Pool.{Pool}
use Rattle.rt0.specs.laws.Pool.{head_at, head_in, body_at}
use Rattle.word.specs.laws.Bools.{bool_iff, no-and, false-true, and_parts, and_both}
use Rattle.closure.specs.laws.Rules.{el}
use Rattle.propagation.specs.laws.Flags.{decided, cnt, cnt-le, cnt-one, cnt-none, cnt-room, flag, flag_same, flag-other, flag-grows, flag-cases}
use Rattle.propagation.specs.laws.Flags.{flag-zeros, flag-past}
use Rattle.frontier.specs.laws.Frontier.{Chain, first, next, Reaches, role-eq}
use Rattle.frontier.specs.declared.Work.{Work}
use Rattle.frontier.specs.laws.Queue.{is_next, Next, work, Queue, Later, Joined, Entered, Followed, Done, Running}

-- One credential

next_of : (P : Pool) (on : List ℕ) (p : Role) (i : ℕ) → i < P.count → is_next P.heads on p i ≡ true → Next P on (E.Role p) i
unfolding is_next
next_of P on p i l h =
    let w = and_parts (eqb (el on i) 1) (same_role (head_at P i) p) h in
    record { below = l; is-on = eqb-true (el on i) 1 w.0; head = ap E.Role (sym (same_role-eq (head_at P i) p w.1)) }

of-next : (P : Pool) (on : List ℕ) (p : Role) (i : ℕ) → Next P on (E.Role p) i → is_next P.heads on p i ≡ true
unfolding is_next
of-next P on p i h = and_both (eqb (el on i) 1) (same_role (head_at P i) p) (eq-eqb (el on i) 1 h.is-on) (eq-same_role (head_at P i) p (sym (role-eq h.head)))

later_refl : (W : Work) → Later W W
later_refl W = record { grows = λ i h. h; kept = λ r h. refl; more = omega arith }

later_trans : {U X W : Work} → Later U X → Later X W → Later U W
later_trans {U} {X} {W} a b =
    let p : U.tail ≤ X.tail = a.more in
    let q : X.tail ≤ W.tail = b.more in
    record { grows = λ i h. b.grows i (a.grows i h); kept = λ r h. b.kept r (omega arith) ∙ a.kept r h; more = omega arith }

-- a credential with another head is not next
pub next-other : (H on : List ℕ) (p : Role) (i : ℕ) {t : Bool} → t ≡ same_role (head_in H i) p → not t ≡ true → false ≡ is_next H on p i
unfolding is_next
next-other H on p i {t} e k = no-and (eqb (el on i) 1) _ (sym e ∙ not-true t k)

-- one with the head is next where it is on
pub next-on : (H on : List ℕ) (p : Role) (i : ℕ) {t : Bool} → t ≡ same_role (head_in H i) p → not t ≡ false → eqb (el on i) 1 ≡ is_next H on p i
unfolding is_next
next-on H on p i {t} e k = bool_iff (eqb (el on i) 1) _ (λ h. and_both _ _ h (sym e ∙ not-false t k)) (λ h. (and_parts _ _ h).0)

pub join_stands : (P : Pool) (on : List ℕ) (W : Work) (p : Role) (i : ℕ) → Queue W → get_or W.found i 0 ≡ 1 → Joined P on W W p i
join_stands P on W p i b h = record { base = b; later = later_refl W; here = λ z. eq-eqb (get_or W.found i 0) 1 h; only = λ j t. inl t }

pub join-not : (P : Pool) (on : List ℕ) (W : Work) (p : Role) (i : ℕ) → Queue W → is_next P.heads on p i ≡ false → Joined P on W W p i
join-not P on W p i b h = record { base = b; later = later_refl W; here = λ z. absurd (false-true (sym h ∙ of-next P on p i z)); only = λ j t. inl t }

pub join-room : (W : Work) (i : ℕ) → Queue W → i < 128 → (get_or W.found i 0 ≡ 1 → ⊥) → W.tail < 128
join-room W i b l h =
    let c : W.tail ≡ cnt 128 (flag W.found) = b.counted in omega (arith, cnt-room 128 (flag W.found) i l (ne_eqb (get_or W.found i 0) 1 h))

abbrev joined : Work → ℕ → Work
joined W i = work (set W.found i 1) (set W.queue W.tail i) (W.tail + 1)

pub join-new : (P : Pool) (on : List ℕ) (W : Work) (p : Role) (i : ℕ) → Queue W → i < P.count → i < 128 → (get_or W.found i 0 ≡ 1 → ⊥)
    → is_next P.heads on p i ≡ true → Joined P on W (joined W i) p i
join-new P on W p i b c l h is =
    let off : flag W.found i ≡ false = ne_eqb (get_or W.found i 0) 1 h in
    let fs : length W.found ≡ 128 = b.found-size in
    let qs : length W.queue ≡ 128 = b.queue-size in
    let ps : i < length W.found = omega arith in
    let tl : W.tail < 128 = join-room W i b l h in
    let ts : W.tail < length W.queue = omega arith in
    let stands : flag (set W.found i 1) i ≡ true = flag_same W.found i ps in
    let grows : (j : ℕ) → flag W.found j ≡ true → flag (set W.found i 1) j ≡ true = λ j t. flag-grows W.found i j ps t in
    let kept : (r : ℕ) → r < W.tail → get_or (set W.queue W.tail i) r 0
    ≡ get_or W.queue r 0 = λ r t. get_or-set_other W.queue W.tail r i 0 (λ (z : r ≡ W.tail). omega arith) in
    let last : get_or (set W.queue W.tail i) W.tail 0 ≡ i = get_or-set_same W.queue W.tail i 0 ts in
    record {
      base = record {
        found-size = length-set W.found i 1 ∙ fs;
        queue-size = length-set W.queue W.tail i ∙ qs;
        counted =
            ap (λ (k : ℕ). k + 1) b.counted ∙ sym
            (cnt-one 128 (flag W.found) (flag (set W.found i 1)) i l off stands (λ j o. flag-other W.found i j o));
        queued = λ j t. ⊎_elim (λ e. (W.tail, omega arith, last ∙ sym e))
            (λ e. let r = b.queued j e in let rl : r.0 < W.tail = r.1 in (r.0, omega arith, kept r.0 rl ∙ r.2)) (flag-cases W.found i j t);
        standing = λ r t. ⊎_elim
            (λ e. let z : r ≡ W.tail = eqb-true r W.tail e in ap (flag (set W.found i 1))
            (ap (λ (n : ℕ). get_or (set W.queue W.tail i) n 0) z ∙ last) ∙ stands)
            (λ e. let z : r < W.tail = omega (arith, eqb-false r W.tail e) in ap (flag (set W.found i 1)) (kept r z)
            ∙ grows (get_or W.queue r 0) (b.standing r z))
            (decided (eqb r W.tail));
      };
      later = record { grows = grows; kept = kept; more = omega arith };
      here = λ z. stands;
      only = λ j t. ⊎_elim (λ e. inr (e, next_of P on p i c is)) (λ e. inl e) (flag-cases W.found i j t);
    }

-- The credentials with one head

pub enter-start : (P : Pool) (on : List ℕ) (W : Work) (x : Expression) → Queue W → Entered P on W W x 0
enter-start P on W x b = record { base = b; later = later_refl W; seen = λ i l. absurd (omega arith); only = λ j t. inl t }

pub enter-next : {P : Pool} {on : List ℕ} {W X Y : Work} {p : Role} (k : ℕ) → Entered P on W X (E.Role p) k → Joined P on X Y p k
    → Entered P on W Y (E.Role p) (k + 1)
enter-next {P} {on} {W} {X} {Y} {p} k a d =
    record {
      base = d.base;
      later = later_trans a.later d.later;
      seen = λ i l h. ⊎_elim
          (λ e. let z : i ≡ k = eqb-true i k e in ap (flag Y.found) z ∙ d.here (subst (λ (j : ℕ). Next P on (E.Role p) j) z h))
          (λ e. d.later.grows i (a.seen i (omega (arith, eqb-false i k e)) h)) (decided (eqb i k));
      only = λ j t. ⊎_elim (λ e. a.only j e) (λ e. inr (subst (λ (i : ℕ). Next P on (E.Role p) i) (sym e.0) e.1)) (d.only j t);
    }

-- each number below the count was looked at
pub enter-all : {P : Pool} {on : List ℕ} {W X : Work} {x : Expression} (k : ℕ) → P.count ≤ k → Entered P on W X x k → Entered P on W X x P.count
enter-all k l a = record { base = a.base; later = a.later; seen = λ i h n. a.seen i (omega arith) n; only = a.only }

-- an expression that is no role is no head
enter-none : {P : Pool} {on : List ℕ} {x : Expression} (W : Work) → Queue W → ((p : Role) → x ≡ E.Role p → ⊥) → Entered P on W W x P.count
enter-none W b n = record { base = b; later = later_refl W; seen = λ i l h. absurd (n _ h.head); only = λ j t. inl t }

pub enter-entity : {P : Pool} {on : List ℕ} {x : Expression} {b : ℕ} (W : Work) → Queue W → x ≡ E.Entity b → Entered P on W W x P.count
enter-entity {b = b} W q h = enter-none W q (λ p k. let z : E.Entity b ≡ E.Role p = sym h ∙ k in absurd (let d : ◌≡◌ {A = ℕ} 0 1 = cc in omega arith))

pub enter-linked : {P : Pool} {on : List ℕ} {x : Expression} {a : Role} {m : ℕ} (W : Work) → Queue W → x ≡ E.Linked a m → Entered P on W W x P.count
enter-linked {a = a} {m = m} W q h = enter-none W q (λ p k. let z : E.Linked a m ≡ E.Role p = sym h ∙ k in absurd (let d : ◌≡◌ {A = ℕ} 0 1 = cc in omega arith))

pub enter-intersection : {P : Pool} {on : List ℕ} {x : Expression} {s : Parts} (W : Work) → Queue W → x ≡ E.Intersection s → Entered P on W W x P.count
enter-intersection {s = s} W q h =
    enter-none W q (λ p k. let z : E.Intersection s ≡ E.Role p = sym h ∙ k in absurd (let d : ◌≡◌ {A = ℕ} 0 1 = cc in omega arith))

pub enter-goal : {P : Pool} {on : List ℕ} {x : Expression} {m : ℕ} (W : Work) → Queue W → x ≡ E.Goal m → Entered P on W W x P.count
enter-goal {m = m} W q h = enter-none W q (λ p k. let z : E.Goal m ≡ E.Role p = sym h ∙ k in absurd (let d : ◌≡◌ {A = ℕ} 0 1 = cc in omega arith))

-- The credentials after one

pub follow-stop : (P : Pool) (on stop : List ℕ) (W : Work) (j : ℕ) → Queue W → get_or stop j 0 ≡ 1 → Followed P on stop W W j
follow-stop P on stop W j b h =
    record { base = b; later = later_refl W; seen = λ i o n. absurd (false-true (sym o ∙ eq-eqb (get_or stop j 0) 1 h)); only = λ i t. inl t }

pub follow-on : {P : Pool} {on stop : List ℕ} {W X : Work} {x : Expression} (j : ℕ) → (get_or stop j 0 ≡ 1 → ⊥) → x ≡ body_at P j
    → Entered P on W X x P.count → Followed P on stop W X j
follow-on {P} {on} {stop} {W} {X} {x} j o e a =
    record {
      base = a.base;
      later = a.later;
      seen = λ i s n. a.seen i n.below (subst (λ (y : Expression). Next P on y i) (sym e) n);
      only = λ i t. ⊎_elim (λ h. inl h) (λ n. inr (ne_eqb (get_or stop j 0) 1 o, subst (λ (y : Expression). Next P on y i) e n)) (a.only i t);
    }

-- The queue

pub empty : Queue (work (replicate 128 0) (replicate 128 0) 0)
empty =
    record {
      found-size = length-replicate {A = ℕ} 128 0;
      queue-size = length-replicate {A = ℕ} 128 0;
      counted = sym (cnt-none 128 (flag (replicate 128 0)) (flag-zeros 128));
      queued = λ i h. absurd (false-true (sym (flag-zeros 128 i) ∙ h));
      standing = λ r h. absurd (omega arith);
    }

pub tail-few : {W : Work} → Queue W → W.tail ≤ 128
tail-few {W} b = let c : W.tail ≡ cnt 128 (flag W.found) = b.counted in omega (arith, cnt-le 128 (flag W.found))

queue-low : {W : Work} → Queue W → (r : ℕ) → r < W.tail → get_or W.queue r 0 < 128
queue-low {W} b r l = ⊎_elim
    (λ e. let z : get_or W.queue r 0 < length W.found = ltb-true _ _ e in let s : length W.found ≡ 128 = b.found-size in omega arith)
    (λ e. absurd (false-true (sym (flag-past W.found (get_or W.queue r 0) (ltb-false _ _ e)) ∙ b.standing r l)))
    (decided (ltb (get_or W.queue r 0) (length W.found)))

done-start : {P : Pool} {on stop : List ℕ} {e : Role} {X : Work} (q : List ℕ) → Entered P on (work (replicate 128 0) q 0) X (E.Role e) P.count
    → Done P on stop e X 0
done-start q a =
    record {
      base = a.base;
      sound = λ i t. ⊎_elim (λ h. absurd (false-true (sym (flag-zeros 128 i) ∙ h))) (λ n. first n.below n.is-on (sym (role-eq n.head))) (a.only i t);
      starts = λ i n. a.seen i n.below n;
      within = omega arith;
      done = λ r i l. absurd (omega arith);
    }

done_next : {P : Pool} {on stop : List ℕ} {e : Role} {W X : Work} {j : ℕ} (q : ℕ) → q < W.tail → j ≡ get_or W.queue q 0 → Done P on stop e W q
    → Followed P on stop W X j → Done P on stop e X (q + 1)
done_next {P} {on} {stop} {e} {W} {X} {j} q l je d a =
    let more : W.tail ≤ X.tail = a.later.more in
    let stands : flag W.found j ≡ true = ap (flag W.found) je ∙ d.base.standing q l in
    record {
      base = a.base;
      sound = λ i t. ⊎_elim (λ h. d.sound i h) (λ n. next (d.sound j stands) n.0 n.1.head n.1.below n.1.is-on) (a.only i t);
      starts = λ i n. a.later.grows i (d.starts i n);
      within = omega arith;
      done = λ r i h s n. ⊎_elim
          (λ z. let v : get_or X.queue r 0 ≡ j = ap (λ (k : ℕ). get_or X.queue k 0) (eqb-true r q z) ∙ (a.later.kept q l ∙ sym je) in
          a.seen i (sym (ap (flag stop) v) ∙ s) (subst (λ (k : ℕ). Next P on (body_at P k) i) v n))
          (λ z. let rq : r < q = omega (arith, eqb-false r q z) in
          let v : get_or X.queue r 0 ≡ get_or W.queue r 0 = a.later.kept r (omega arith) in
          a.later.grows i (d.done r i rq (sym (ap (flag stop) v) ∙ s) (subst (λ (k : ℕ). Next P on (body_at P k) i) v n))) (decided (eqb r q));
    }

-- the queue has run dry: each chain is found
found_all : {P : Pool} {on stop : List ℕ} {e : Role} {W : Work} → Done P on stop e W W.tail → {i : ℕ} → Chain P on stop e i → flag W.found i ≡ true
found_all d (first {i = i} l o h) = d.starts i (record { below = l; is-on = o; head = ap E.Role (sym h) })
found_all {P} {on} {stop} {e} {W} d (next {j = j} {i = i} c s q l o) =
    let r = d.base.queued j (found_all d c) in
    d.done r.0 i r.1 (ap (flag stop) r.2 ∙ s) (record { below = l; is-on = o; head = ap (body_at P) r.2 ∙ q })

done_all : {P : Pool} {on stop : List ℕ} {e : Role} {W : Work} (q : ℕ) → W.tail ≤ q → Done P on stop e W q → Reaches P on stop e W.found
done_all {P} {on} {stop} {e} {W} q l d = record { sized = d.base.found-size; sound = d.sound; complete = λ i c. found_all all c }
  where
    all : Done P on stop e W W.tail
    all = record { base = d.base; sound = d.sound; starts = d.starts; within = omega arith; done = λ r i h s n. d.done r i (omega arith) s n }

-- The loop over the queue

pub run-start : {P : Pool} {on stop : List ℕ} {W : Work} → Queue W → Running P on stop W W 0
run-start b = record { base = b; goes = λ e d. d }

pub run-next : {P : Pool} {on stop : List ℕ} {W X Y : Work} {j : ℕ} (q : ℕ) → q < X.tail → j ≡ get_or X.queue q 0 → Running P on stop W X q
    → Followed P on stop X Y j → Running P on stop W Y (q + 1)
run-next q l e r a = record { base = a.base; goes = λ f d. done_next q l e (r.goes f d) a }

pub run_end : {P : Pool} {on stop : List ℕ} {e : Role} {W X : Work} {s : List ℕ} (q : ℕ) → X.tail ≤ q
    → Entered P on (work (replicate 128 0) s 0) W (E.Role e) P.count → Running P on stop W X q → Reaches P on stop e X.found
run_end {e = e} q l a r = done_all q l (r.goes e (done-start _ a))

-- the credential next in the queue is one of the pool's 128
pub queue-read : {W : Work} {j : ℕ} (q : ℕ) → Queue W → q < W.tail → j ≡ get_or W.queue q 0 → j < 128
queue-read {W} q b l e = let z : get_or W.queue q 0 < 128 = queue-low b q l in omega arith
