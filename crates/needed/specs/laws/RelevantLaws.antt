-- Credentials whose heads are not asked for change no answer, and none of them is needed. Assumes nothing.
use Rattle.std.specs.Prelude.{ℕ, ◌≡◌, refl, Bool, true, false}
use Rattle.std.proofs.Common.{sym, ◌∙◌, ap, subst, ⊎_elim, eq-eqb}
use mathlib.Core.List.Memᴰ
use mathlib.Core.List.{List, [], ◌∷◌, ◌++◌, append_assoc, Memᴰ}
use Rattle.expression.specs.declared.Role.{Role}
use Rattle.expression.specs.declared.Parts.{Parts}
use Rattle.expression.specs.declared.Credential.{Credential}
use Rattle.expression.specs.declared.Expression.{Expression}
use Rattle.expression.specs.declared.Expression.TheVariants as E
use Rattle.expression.specs.Same.{same_role}
use Rattle.expression.specs.laws.Same.{same_role-eq, eq-same_role}
use Rattle.rt0.specs.declared.Pool.{Pool}
use Rattle.rt0.specs.From.{role_of, roles_of}
use Rattle.rt0.specs.laws.Lists.{any_here}
use Rattle.word.specs.laws.Bools.{or_left, or_right, bool_iff}
use Rattle.rt0.specs.Decide.{from?}
use Rattle.rt0.proofs.laws.Laws.{Reach, here, step, link, each, reach, more, sound, complete}
use Rattle.rt0.specs.laws.Pool.{head_at, credential_at, credentials}
use Rattle.rules.specs.laws.Exact.{unreach}
use Rattle.needed.specs.Needed.{kept, enough, needed}
use Rattle.needed.specs.laws.Needed.{kept-nil, kept-drop, kept-keep}
use Rattle.needed.specs.laws.Relevant.{asks, Sufficient, Reduced, nothing, dropped, taken, Flagged, ClosedFor}
use Rattle.needed.specs.laws.Column.{up_to-find}

-- What a rule's premises ask for

asks-role : (p : Role) → asks (E.Role p) p ≡ true
unfolding asks
asks-role p = eq-same_role p p refl

asks-first : (a : Role) (m : ℕ) (h : Role) → asks (E.Role a) h ≡ true → asks (E.Linked a m) h ≡ true
unfolding asks
asks-first a m h k = or_left _ _ k

asks-named : (a : Role) (m b : ℕ) (h : Role) → asks (E.Role (role_of b m)) h ≡ true → asks (E.Linked a m) h ≡ true
unfolding asks
asks-named a m b h k =
    let q : h.name ≡ m = sym (ap (λ (p : Role). p.name) (same_role-eq (role_of b m) h k)) in
    or_right (same_role a h) _ (eq-eqb h.name m q)

asks-part : (ps : Parts) (p : Role) → Memᴰ p (roles_of ps) → (h : Role) → asks (E.Role p) h ≡ true → asks (E.Intersection ps) h ≡ true
unfolding asks
asks-part ps p m h k = any_here (λ a. same_role a h) m k

-- Answers

-- a derivation uses credentials with heads in R alone
reach-relevant : {C D : List Credential} {R : Role → Type 0}
    → ((c : Credential) → Memᴰ c C → R c.head → (h : Role) → asks c.body h ≡ true → R h)
    → ((c : Credential) → Memᴰ c C → R c.head → Memᴰ c D)
    → {x e : Expression} → ((h : Role) → asks x h ≡ true → R h) → Reach C x e → Reach D x e
reach-relevant next sub asked here = here
reach-relevant next sub asked (step {c = c} m h) =
    let r = asked c.head (asks-role c.head) in
    step (sub c m r) (reach-relevant next sub (λ p k. next c m r p k) h)
reach-relevant next sub asked (link {a = a} {n = n} {b = b} h₁ h₂) =
    link (reach-relevant next sub (λ p k. asked p (asks-first a n p k)) h₁) (reach-relevant next sub (λ p k. asked p (asks-named a n b p k)) h₂)
reach-relevant next sub asked (each {ps = ps} h) = each (λ p m. reach-relevant next sub (λ q k. asked q (asks-part ps p m q k)) (h p m))

module _ {R : Role → Type 0} where
  -- the shorter list has no other credentials
  reduced-old : {xs ys : List Credential} → Reduced R xs ys → (c : Credential) → Memᴰ c xs → Memᴰ c ys
  reduced-old nothing c m = m
  reduced-old (dropped n h) c m = Memᴰ.tail (reduced-old h c m)
  reduced-old (taken h) c m = ⊎_elim (λ q. Memᴰ.head q) (λ k. Memᴰ.tail (reduced-old h c k)) (Memᴰ.cases_cons m)

  -- and all with heads in R
  reduced-all : {xs ys : List Credential} → Reduced R xs ys → (c : Credential) → Memᴰ c ys → R c.head → Memᴰ c xs
  reduced-all nothing c m r = m
  reduced-all (dropped n h) c m r = ⊎_elim (λ q. absurd (n (subst (λ (d : Credential). R d.head) q r))) (λ k. reduced-all h c k r) (Memᴰ.cases_cons m)
  reduced-all (taken h) c m r = ⊎_elim (λ q. Memᴰ.head q) (λ k. Memᴰ.tail (reduced-all h c k r)) (Memᴰ.cases_cons m)

  pub reduced-append : {xs ys us vs : List Credential} → Reduced R xs ys → Reduced R us vs → Reduced R (xs ++ us) (ys ++ vs)
  reduced-append nothing k = k
  reduced-append (dropped n h) k = dropped n (reduced-append h k)
  reduced-append (taken h) k = taken (reduced-append h k)

  reduced-same : (xs : List Credential) → Reduced R xs xs
  reduced-same [] = nothing
  reduced-same (c ∷ xs) = taken (reduced-same xs)

  -- heads closed over a list are closed over a part of it
  pub closed-sub : {f : Expression} {C D : List Credential} → ((c : Credential) → Memᴰ c D → Memᴰ c C) → Sufficient f C R → Sufficient f D R
  closed-sub sub k = record { asked = k.asked; followed = λ c m r. k.followed c (sub c m) r }

  -- credentials with other heads change no answer
  pub from-relevant : (f e : Expression) {C D : List Credential} → Sufficient f C R → Reduced R D C → from? C f e ≡ from? D f e
  from-relevant f e {C} {D} k d =
      bool_iff (from? C f e) (from? D f e)
      (λ h. complete D f e (unreach (reach-relevant k.followed (λ c m r. reduced-all d c m r) k.asked (reach (sound C f e h)))))
      (λ h. complete C f e (more (λ c m. reduced-old d c m) (sound D f e h)))

  -- The needed ones

  module _ (shown less : List Credential) (f e : Expression) (fewer : Reduced R less shown) where
    kept-relevant : (ks : List Credential) {cs ds : List Credential} → Sufficient f (shown ++ (ks ++ cs)) R → enough shown f e (ks ++ cs) ≡ true
        → Reduced R ds cs → kept (enough less f e) ks ds ≡ kept (enough shown f e) ks cs
    kept-relevant ks k g nothing = kept-nil (enough less f e) ks ∙ sym (kept-nil (enough shown f e) ks)
    kept-relevant ks k g (dropped {c = c} {xs = ds} {ys = cs} n d) =
        let less_one : Reduced R (shown ++ (ks ++ cs)) (shown ++ (ks ++ (c ∷ cs))) = reduced-append (reduced-same shown)
        (reduced-append (reduced-same ks) (dropped n (reduced-same cs))) in
        let still : enough shown f e (ks ++ cs) ≡ true = sym (from-relevant f e k less_one) ∙ g in
        kept-relevant ks (closed-sub (λ x m. reduced-old less_one x m) k) still d ∙ sym (kept-drop (enough shown f e) ks c cs still)
    kept-relevant ks k g (taken {c = c} {xs = ds} {ys = cs} d) =
        go (enough shown f e (ks ++ cs)) refl (λ h. kept-relevant ks smaller h d)
        (kept-relevant (ks ++ (c ∷ [])) moved (ap (enough shown f e) (append_assoc ks (c ∷ []) cs) ∙ g) d)
      where
        smaller : Sufficient f (shown ++ (ks ++ cs)) R
        smaller =
            closed-sub (λ x m. ⊎_elim (λ u. Memᴰ.append_left (ks ++ (c ∷ cs)) u)
            (λ u. Memᴰ.append_right shown (⊎_elim (λ w. Memᴰ.append_left (c ∷ cs) w) (λ w. Memᴰ.append_right ks (Memᴰ.tail w))
            (Memᴰ.append_cases ks u))) (Memᴰ.append_cases shown m)) k

        moved : Sufficient f (shown ++ ((ks ++ (c ∷ [])) ++ cs)) R
        moved = subst (λ (l : List Credential). Sufficient f (shown ++ l) R) (sym (append_assoc ks (c ∷ []) cs)) k

        both : enough shown f e (ks ++ cs) ≡ enough less f e (ks ++ ds)
        both = from-relevant f e smaller (reduced-append fewer (reduced-append (reduced-same ks) d))

        go : (b : Bool) → enough shown f e (ks ++ cs) ≡ b
            → (enough shown f e (ks ++ cs) ≡ true → kept (enough less f e) ks ds ≡ kept (enough shown f e) ks cs)
            → kept (enough less f e) (ks ++ (c ∷ [])) ds ≡ kept (enough shown f e) (ks ++ (c ∷ [])) cs
            → kept (enough less f e) ks (c ∷ ds) ≡ kept (enough shown f e) ks (c ∷ cs)
        go true q drop keep = kept-drop (enough less f e) ks c ds (sym both ∙ q) ∙ drop q ∙ sym (kept-drop (enough shown f e) ks c cs q)
        go false q drop keep = kept-keep (enough less f e) ks c ds (sym both ∙ q) ∙ keep ∙ sym (kept-keep (enough shown f e) ks c cs q)

    -- where the credentials are enough, those with other heads can be left out: the same ones are needed
    pub needed-relevant : (own some : List Credential) → Sufficient f (shown ++ own) R → from? (shown ++ own) f e ≡ true → Reduced R some own
        → needed less f e some ≡ needed shown f e own
    unfolding needed
    needed-relevant own some k g d = kept-relevant [] k g d

-- Columns

-- the heads that a closed column flags are closed
pub closed-column : (P : Pool) (f : Expression) (r : List ℕ) → ClosedFor P f r → Sufficient f (credentials P) (Flagged P r)
unfolding credentials
closed-column P f r k =
    record {
      asked = λ h a. record { each = λ i l q. k.asked i l (subst (λ (p : Role). asks f p ≡ true) (sym q) a) };
      followed = λ c m z h a.
          let w = up_to-find P.count (credential_at P) c m in
          let j : ℕ = w.0 in
          record {
            each = λ i l q. k.followed j i w.1 l (z.each j w.1 (sym (ap (λ (d : Credential). d.head) w.2)))
                (subst (λ (d : Credential). asks d.body (head_at P i) ≡ true) w.2 (subst (λ (p : Role). asks c.body p ≡ true) (sym q) a));
          };
    }
