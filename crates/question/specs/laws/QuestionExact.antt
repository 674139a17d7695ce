-- A question is answered exactly where the lent bytes are those of well-formed credentials and expressions. Assumes nothing.
use Rattle.std.specs.Prelude.{ℕ, ◌<◌, ◌≡◌, refl, ◌↔◌, Bool, true, false, cond, List, [], ◌∷◌, length, get_or, Option, Some, None}
use Rattle.std.proofs.Common.{sym, ap, ◌∙◌, arith, take_all}
use Rattle.numbers.specs.Bytes.{EXPRESSION-BYTES}
use Rattle.expression.specs.declared.Credential.{Credential}
use Rattle.expression.specs.declared.Expression.{Expression}
use Rattle.expression.specs.Form.{read_of}
use Rattle.expression.specs.Credential.{is_body}
use Rattle.expression.specs.laws.Codec.{read-write, read_only}
use Rattle.expression.specs.laws.There.{self-paste}
use Rattle.question.specs.Credentials.{credentials_of}
use Rattle.question.specs.Asked.{expression_bytes, Askable, Written}
use Rattle.question.specs.laws.Question.{Asked}
use Rattle.question.specs.Refused.{Unaskable}
use Rattle.question.specs.laws.CredentialsExact.{length-then, list_back, list-only}
use Rattle.question.specs.Question.{askable, operand_of}

operand-back : (x : Expression) → Askable x → operand_of (expression_bytes x) ≡ Some x
unfolding operand_of
operand-back x h =
    let b : List ℕ = expression_bytes x in
    let back : read_of b 0 ≡ Some x = ap (λ (l : List ℕ). read_of l 0) (sym (self-paste b 0 b refl)) ∙ read-write b 0 x (omega arith) h.formed in
    ap askable back ∙ ap (λ (t : Bool). cond t (Some x) None) h.kind

askable-read : (r : Option Expression) (x : Expression) → askable r ≡ Some x → (r ≡ Some x) × (is_body x ≡ true)
askable-read (Some z) x h = go (is_body z) refl h
  where
    go : (t : Bool) → is_body z ≡ t → cond t (Some z) None ≡ Some x → (Some z ≡ Some x) × (is_body x ≡ true)
    go true p q = let same : z ≡ x = cc in (q, ap is_body (sym same) ∙ p)
    go false p q = let n : ◌≡◌ {A = ℕ} 0 1 = cc in absurd (omega arith)
askable-read None x h = let n : ◌≡◌ {A = ℕ} 0 1 = cc in absurd (omega arith)

operand-only : (s : List ℕ) (x : Expression) → ((i : ℕ) → get_or s i 0 < 256) → length s ≡ EXPRESSION-BYTES → operand_of s ≡ Some x
    → (s ≡ expression_bytes x) × Askable x
unfolding operand_of
operand-only s x bytes size h =
    let r = askable-read (read_of s 0) x h in
    let o = read_only s 0 x bytes (omega arith) r.0 in
    (sym (take_all EXPRESSION-BYTES s (omega arith)) ∙ o.0, record { formed = o.1; kind = r.1 })

-- the bytes of no expression that may be asked
pub operand-wrong-exactly : (s : List ℕ) → ((i : ℕ) → get_or s i 0 < 256) → length s ≡ EXPRESSION-BYTES → (operand_of s ≡ None) ↔ Unaskable s
operand-wrong-exactly s bytes size = (
  λ h x w q. let z : ◌≡◌ {A = ℕ} 0 1 = cc (h, ap operand_of q ∙ operand-back x w) in omega arith,
  λ n. go n (operand_of s) refl,
)
  where
    go : Unaskable s → (r : Option Expression) → operand_of s ≡ r → operand_of s ≡ None
    go n (Some x) h = let o = operand-only s x bytes size h in absurd (n x o.1 o.0)
    go n None h = h

-- at most 64 well-formed credentials and two well-formed expressions, written as bytes, ask whether x from y
pub written-asked : {c f e : List ℕ} {C : List Credential} {x y : Expression} → Written c f e C x y → Asked c f e C x y
written-asked {c} {f} {e} {C} {x} {y} w = record {
  sizes = record {
    some = omega (arith, ap length w.credentials, length-then C (6 ∷ []));
    most = omega (arith, ap length w.credentials, length-then C (6 ∷ []), w.most);
    first = ap length w.first;
    second = ap length w.second;
  };
  credentials = ap credentials_of w.credentials ∙ list_back C w.formed;
  first = ap operand_of w.first ∙ operand-back x w.left;
  second = ap operand_of w.second ∙ operand-back y w.right;
}

-- no other bytes do
pub asked-written : {c f e : List ℕ} {C : List Credential} {x y : Expression} → ((i : ℕ) → get_or c i 0 < 256) → ((i : ℕ) → get_or f i 0 < 256)
    → ((i : ℕ) → get_or e i 0 < 256)
    → Asked c f e C x y → Written c f e C x y
asked-written {c} {f} {e} {C} {x} {y} p q r h =
    let l = list-only c p C h.credentials in
    let u = operand-only f x q h.sizes.first h.first in
    let v = operand-only e y r h.sizes.second h.second in
    record {
      credentials = l.0;
      first = u.0;
      second = v.0;
      most = omega (arith, ap length l.0, length-then C (6 ∷ []), h.sizes.most);
      formed = l.1;
      left = u.1;
      right = v.1;
    }
