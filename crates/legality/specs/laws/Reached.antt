-- The members of a frontier are from the expression that it starts at, over the credentials by which they are reached. Assumes nothing.
use Rattle.std.specs.Prelude.{◌≡◌, Bool, true}
use Rattle.std.proofs.Common.{sym, subst, ⊎_elim}
use mathlib.Core.List.Memᴰ
use mathlib.Core.List.{List, [], ◌∷◌, Memᴰ}
use Rattle.expression.specs.declared.Credential.{Credential}
use Rattle.expression.specs.declared.Expression.{Expression}
use Rattle.expression.specs.declared.Expression.TheVariants as E
use Rattle.expression.specs.Credential.{is_body}
use Rattle.expression.specs.Same.{same}
use Rattle.expression.specs.laws.Same.{same-eq}
use Rattle.rt0.specs.From.{From, reflexive, transitive, credential}
use Rattle.rt0.specs.laws.Lists.{map-find}
use Rattle.class.specs.declared.Name.{Name}
use Rattle.tables.specs.Public.{keep}
use Rattle.tables.specs.laws.Public.{keep-find}
use Rattle.frontier.specs.Frontier.{Frontier, here, through}
use Rattle.moves.specs.Frontiers.{bodies_of, frontier_of}
use Rattle.moves.specs.laws.FrontiersExact.{frontier-find}
use Rattle.legality.specs.laws.Proper.{Proper, body-proper, body-body}
use Rattle.legality.specs.laws.Stored.{Stored}

-- x may be the child of an implication edge into a node of expression top: it is proper and no goal, and top from x holds over C
pub record Reached (ns : List Name) (C : List Credential) (top x : Expression) : Type 0 where
  pub proper : Proper ns x
  pub body : is_body x ≡ true
  pub from : From C top x

module _ (ns : List Name) (C : List Credential) (top : Expression) (s : Stored ns C) where
  -- the bodies of the credentials of a role that is reached
  step-reached : (c : Credential) → Memᴰ c C → {e : Expression} → e ≡ E.Role c.head → From C top e → Reached ns C top c.body
  step-reached c m q f =
      let k = s.each c m in
      record { proper = body-proper ns c k; body = body-body ns c k; from = transitive (subst (λ (x : Expression). From C top x) q f) (credential m) }

  -- the members of a frontier
  walk-reached : {pred : Expression → Bool} {e f : Expression} → Frontier pred C e f → Reached ns C top e → Reached ns C top f
  walk-reached (here h) r = r
  walk-reached (through {c = c} n m q k) r = walk-reached k (step-reached c m q r.from)

  pub frontier-reached : (pred : Expression → Bool) (xs : List Expression) → ((x : Expression) → Memᴰ x xs → Reached ns C top x)
      → (f : Expression) → Memᴰ f (frontier_of pred C xs) → Reached ns C top f
  frontier-reached pred xs h f m = let w = frontier-find pred C xs m in walk-reached w.2 (h w.0 w.1)

  -- the bodies of a role's credentials
  pub bodies-reached : (x : Expression) → From C top x → (y : Expression) → Memᴰ y (bodies_of C x) → Reached ns C top y
  bodies-reached x f y m =
      let b = map-find (λ (c : Credential). c.body) (keep (λ (c : Credential). same (E.Role c.head) x) C) m in
      let c = keep-find (λ (c : Credential). same (E.Role c.head) x) C b.1 in
      subst (λ (z : Expression). Reached ns C top z) (sym b.2) (step-reached b.0 c.0 (sym (same-eq (E.Role b.0.head) x c.1)) f)

  -- the expression itself
  pub self-reached : Proper ns top → is_body top ≡ true → (y : Expression) → Memᴰ y (top ∷ []) → Reached ns C top y
  self-reached p b y m =
      ⊎_elim (λ e. subst (λ (z : Expression). Reached ns C top z) (sym e) (record { proper = p; body = b; from = reflexive }))
      (λ k. absurd (Memᴰ.not-nil k)) (Memᴰ.cases_cons m)
