-- What an answer says of the question, and that every question has one of five answers. Assumes nothing.
use Rattle.std.specs.Prelude.{ℕ, ◌*◌, ◌≡◌, refl, ◌⊎◌, Bool, true, false, cond, ◌&&◌, List, ltb, leb, eqb, length, Option, Some, None, Result, Ok, Err}
use Rattle.std.proofs.Common.{sym, ap, ◌∙◌, subst, inl, inr, ⊎_elim, lt-ltb, ltb-true, le-leb, leb-true, eq-eqb, eqb-true}
use Rattle.numbers.specs.Sizes.{MOST-CREDENTIALS-BYTES}
use Rattle.numbers.specs.Bytes.{EXPRESSION-BYTES}
use Rattle.expression.specs.declared.Credential.{Credential}
use Rattle.expression.specs.declared.Expression.{Expression}
use Rattle.expression.specs.Form.{read_of}
use Rattle.expression.specs.Credential.{is_body}
use Rattle.expression.specs.laws.Laws.{and_left, and_right}
use Rattle.rt0.specs.Decide.{from?}
use Rattle.question.specs.Credentials.{credentials_of}
use Rattle.question.specs.Asked.{Sized}
use Rattle.question.specs.laws.Credentials.{Refusal, list-refusal}
use Rattle.question.specs.Question.{sized, askable, operand_of, yes_or_no, answered, question_of}
use Rattle.numbers.specs.Answer.{Answer, refused, accepted, answer_of}
use Rattle.numbers.specs.Refusals.{LENGTH}

-- bytes of wrong form
pub operand-wrong : (s : List ℕ) → read_of s 0 ≡ None → None ≡ operand_of s
unfolding operand_of
operand-wrong s h = sym (ap askable h)

-- bytes of an expression, which is an operand unless it is a goal
pub operand_read : (s : List ℕ) (x : Expression) (b : Bool) → read_of s 0 ≡ Some x → is_body x ≡ b → cond b (Some x) None ≡ operand_of s
unfolding operand_of
operand_read s x b h k = sym (ap askable h ∙ ap (λ (t : Bool). cond t (Some x) None) k)

-- lengths within the sizes pass the test
pub sized-true : {c f e : ℕ} → Sized c f e → sized c f e ≡ true
unfolding sized
sized-true {c} {f} {e} h =
    rw (lt-ltb 0 c h.some, le-leb c MOST-CREDENTIALS-BYTES h.most, eq-eqb f EXPRESSION-BYTES h.first, eq-eqb e EXPRESSION-BYTES h.second)

-- lengths that pass the test are within the sizes
pub true-sized : (c f e : ℕ) → sized c f e ≡ true → Sized c f e
unfolding sized
true-sized c f e h =
    let p : Bool = ltb 0 c in
    let q : Bool = leb c MOST-CREDENTIALS-BYTES in
    let r : Bool = eqb f EXPRESSION-BYTES in
    let t : Bool = eqb e EXPRESSION-BYTES in
    let three : p && q && r ≡ true = and_left (p && q && r) t h in
    let two : p && q ≡ true = and_left (p && q) r three in
    record {
      some = ltb-true 0 c (and_left p q two);
      most = leb-true c MOST-CREDENTIALS-BYTES (and_right p q two);
      first = eqb-true f EXPRESSION-BYTES (and_right (p && q) r three);
      second = eqb-true e EXPRESSION-BYTES (and_right (p && q && r) t h);
    }

-- a length outside the sizes
pub question-outside : (c f e : List ℕ) → sized (length c) (length f) (length e) ≡ false → 1 ≡ answer_of yes_or_no (question_of c f e)
unfolding question_of
question-outside c f e h = sym (ap (λ (t : Bool). answer_of yes_or_no (cond t (answered (credentials_of c) (operand_of f) (operand_of e)) (refused LENGTH))) h)

-- lengths within the sizes: the answer by what the bytes are read as
pub question-read : (c f e : List ℕ) (l : Answer (List Credential)) (p q : Option Expression) → sized (length c) (length f) (length e) ≡ true
    → credentials_of c ≡ l → operand_of f ≡ p
    → operand_of e ≡ q → answered l p q ≡ question_of c f e
unfolding question_of
question-read c f e l p q h u v w = λ i. cond (sym h i) (answered (sym u i) (sym v i) (sym w i)) (refused LENGTH)

pub question-inside : (c f e : List ℕ) (l : Answer (List Credential)) (p q : Option Expression) → sized (length c) (length f) (length e) ≡ true
    → credentials_of c ≡ l → operand_of f ≡ p
    → operand_of e ≡ q → answer_of yes_or_no (answered l p q) ≡ answer_of yes_or_no (question_of c f e)
question-inside c f e l p q h u v w = ap (answer_of yes_or_no) (question-read c f e l p q h u v w)

-- what a decision says of the question
abbrev pub decision_of : Result Bool ℕ → Answer Bool
decision_of (Ok b) = accepted b
decision_of (Err k) = refused k

-- the lent bytes ask whether x from y over the credentials C
pub record Asked (c f e : List ℕ) (C : List Credential) (x y : Expression) : Type 0 where
  pub sizes : Sized (length c) (length f) (length e)
  pub credentials : credentials_of c ≡ accepted C
  pub first : operand_of f ≡ Some x
  pub second : operand_of e ≡ Some y

-- the answer to a question that is asked in right form
pub question-asked : {c f e : List ℕ} {C : List Credential} {x y : Expression} → Asked c f e C x y → question_of c f e ≡ accepted (from? C x y)
question-asked {c} {f} {e} h = sym (question-read c f e _ _ _ (sized-true h.sizes) h.credentials h.first h.second)

-- a refusal number
abbrev pub Refused : ℕ → Type 0
Refused n = (n ≡ 1) ⊎ Refusal n

-- the question that the lent bytes ask has the answer n
abbrev Asks : List ℕ → List ℕ → List ℕ → ℕ → Type 0
Asks c f e n = (C : List Credential) × (x : Expression) × (y : Expression) × Asked c f e C x y × (n ≡ yes_or_no (from? C x y) * 256)

-- every call is refused or answers a question
question-cases : (c f e : List ℕ) → Refused (answer_of yes_or_no (question_of c f e)) ⊎ Asks c f e (answer_of yes_or_no (question_of c f e))
unfolding question_of
question-cases c f e = size (sized (length c) (length f) (length e)) refl
  where
    read : (l : Answer (List Credential)) (p q : Option Expression) → sized (length c) (length f) (length e) ≡ true → credentials_of c ≡ l
        → operand_of f ≡ p → operand_of e ≡ q
        → Refused (answer_of yes_or_no (answered l p q)) ⊎ Asks c f e (answer_of yes_or_no (answered l p q))
    read (refused k) p q h l a b = inl (inr (list-refusal c k l))
    read (accepted C) None q h l a b = inl (inr (inr refl))
    read (accepted C) (Some x) None h l a b = inl (inr (inr refl))
    read (accepted C) (Some x) (Some y) h l a b =
        inr (C, x, y, record { sizes = true-sized (length c) (length f) (length e) h; credentials = l; first = a; second = b }, refl)

    size : (t : Bool) → sized (length c) (length f) (length e) ≡ t
        → (let n : ℕ = answer_of yes_or_no (cond t (answered (credentials_of c) (operand_of f) (operand_of e)) (refused LENGTH)) in Refused n ⊎ Asks c f e n)
    size true h = read (credentials_of c) (operand_of f) (operand_of e) h refl refl refl
    size false h = inl (inl refl)

yes_or_no_lem : (b : Bool) → ((b ≡ true) × (yes_or_no b * 256 ≡ 256)) ⊎ ((b ≡ false) × (yes_or_no b * 256 ≡ 0))
yes_or_no_lem true = inl (refl, refl)
yes_or_no_lem false = inr (refl, refl)

-- the answer is no, yes or one of three refusal numbers
pub question-numbers : (c f e : List ℕ) (n : ℕ) → answer_of yes_or_no (question_of c f e) ≡ n → (n ≡ 0) ⊎ ((n ≡ 256) ⊎ ((n ≡ 1) ⊎ ((n ≡ 2) ⊎ (n ≡ 3))))
question-numbers c f e n h =
    ⊎_elim (λ r. inr (inr (subst Refused h r)))
    (λ w. ⊎_elim (λ y. inr (inl (sym h ∙ w.4 ∙ y.1))) (λ y. inl (sym h ∙ w.4 ∙ y.1)) (yes_or_no_lem (from? w.0 w.1 w.2))) (question-cases c f e)
