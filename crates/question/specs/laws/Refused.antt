-- A question is answered exactly where it is one, and refused exactly for its reason. Assumes nothing.
use Rattle.std.specs.Prelude.{ℕ, ◌<◌, ◌≡◌, ◌↔◌, Bool, List, [], length, get_or, Option, Some, None}
use Rattle.std.proofs.Math.Path.{refl, sym, ap}
use Rattle.std.proofs.Common.{◌∙◌, subst, inl, inr}
use Rattle.std.proofs.Math.Bool.{true, false, cond}
use Rattle.word.specs.laws.Bools.{false-true}
use Rattle.expression.specs.declared.Credential.{Credential}
use Rattle.question.specs.Credentials.{credentials_of}
use Rattle.question.specs.Question.{sized, operand_of, answered, question_of}
use Rattle.rt0.specs.Decide.{from?}
use Rattle.rt0.proofs.laws.Laws.{from-exact}
use Rattle.question.specs.Asked.{Sized, Answered}
use Rattle.question.specs.Refused.{QuestionRefused, size, list, operand}
use Rattle.question.specs.laws.CredentialsExact.{list_back, Rest, list-says, list-only, list-stopped}
use Rattle.question.specs.laws.Question.{sized-true, true-sized, question-read, Asked, question-asked}
use Rattle.question.specs.laws.QuestionExact.{operand-wrong-exactly, written-asked, asked-written}
use Rattle.numbers.specs.Answer.{Answer, refused, accepted}
use Rattle.numbers.specs.Refusals.{LENGTH}
use Rattle.expression.specs.declared.Expression.{Expression}

module _ (c f e : List ℕ) (p : (i : ℕ) → get_or c i 0 < 256) (q : (i : ℕ) → get_or f i 0 < 256) (r : (i : ℕ) → get_or e i 0 < 256) where
  -- what an answer says of the bytes
  abbrev Says : Answer Bool → Type 0
  Says (refused k) = QuestionRefused c f e k
  Says (accepted b) = Answered c f e b

  read-says : Sized (length c) (length f) (length e) → (l : Answer (List Credential)) (x y : Option Expression) → credentials_of c ≡ l → operand_of f ≡ x
      → operand_of e ≡ y → Says (answered l x y)
  read-says w (refused k) x y h u v = let o = subst (Rest c 0 []) h (list-says c p) in list o.listed w o.there o.formed o.stop
  read-says w (accepted C) None y h u v =
      let o = list-only c p C h in operand C w o.0 o.1 (inl ((operand-wrong-exactly f q w.first).0 u)) refl
  read-says w (accepted C) (Some x) None h u v =
      let o = list-only c p C h in operand C w o.0 o.1 (inr ((operand-wrong-exactly e r w.second).0 v)) refl
  read-says w (accepted C) (Some x) (Some y) h u v =
      let asked : Asked c f e C x y = record { sizes = w; credentials = h; first = u; second = v } in
      record { credentials = C; left = x; right = y; written = asked-written p q r asked; yes = from-exact C x y }

  question-says : Says (question_of c f e)
  unfolding question_of
  question-says = go (sized (length c) (length f) (length e)) refl
    where
      go : (t : Bool) → sized (length c) (length f) (length e) ≡ t
          → Says (cond t (answered (credentials_of c) (operand_of f) (operand_of e)) (refused LENGTH))
      go true h = read-says (true-sized (length c) (length f) (length e) h) (credentials_of c) (operand_of f) (operand_of e) refl refl refl
      go false h = size (λ w. false-true (sym h ∙ sized-true w)) refl

  second-wrong : (C : List Credential) (x : Option Expression) → answered (accepted C) x None ≡ refused 3
  second-wrong C None = refl
  second-wrong C (Some x) = refl

  from-refusal : {k : ℕ} → QuestionRefused c f e k → question_of c f e ≡ refused k
  unfolding question_of
  from-refusal {k} (size n z) = go (sized (length c) (length f) (length e)) refl
    where
      go : (t : Bool) → sized (length c) (length f) (length e) ≡ t
          → cond t (answered (credentials_of c) (operand_of f) (operand_of e)) (refused LENGTH) ≡ refused k
      go true h = absurd (n (true-sized (length c) (length f) (length e) h))
      go false h = ap refused (sym z)
  from-refusal {k} (list C {l} w b g u) = sym (question-read c f e (refused k) _ _ (sized-true w) (list-stopped c p C l k w.some b g u) refl refl)
  from-refusal (operand C w b g (inl n) z) =
      sym (question-read c f e (accepted C) None _ (sized-true w) (ap credentials_of b ∙ list_back C g) ((operand-wrong-exactly f q w.first).1 n) refl)
      ∙ ap refused (sym z)
  from-refusal (operand C w b g (inr n) z) =
      sym (question-read c f e (accepted C) _ None (sized-true w) (ap credentials_of b ∙ list_back C g) refl ((operand-wrong-exactly e r w.second).1 n))
      ∙ second-wrong C (operand_of f)
      ∙ ap refused (sym z)

  -- a question is refused with a number exactly where its reason holds and no earlier one does
  pub question-refused-exactly : (k : ℕ) → (question_of c f e ≡ refused k) ↔ QuestionRefused c f e k
  question-refused-exactly k = (λ h. subst Says h question-says, from-refusal)

  -- two tests of one fact
  same_test : (a b : Bool) → (a ≡ true → b ≡ true) → (b ≡ true → a ≡ true) → a ≡ b
  same_test true b h k = sym (h refl)
  same_test false true h k = k refl
  same_test false false h k = refl

  from-answer : {b : Bool} → Answered c f e b → question_of c f e ≡ accepted b
  from-answer {b} w =
      let exact = from-exact w.credentials w.left w.right in
      question-asked (written-asked w.written)
      ∙ ap accepted (same_test (from? w.credentials w.left w.right) b (λ h. w.yes.1 (exact.0 h)) (λ h. exact.1 (w.yes.0 h)))

  -- a question is answered exactly where the lent bytes are one, with yes exactly where "f from e" holds
  pub question-exactly : (b : Bool) → (question_of c f e ≡ accepted b) ↔ Answered c f e b
  question-exactly b = (λ h. subst Says h question-says, from-answer)
