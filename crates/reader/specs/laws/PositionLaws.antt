-- A reader's position, test by test. Assumes nothing.
use Rattle.std.specs.Prelude.{ℕ, ◌+◌, ◌<◌, ◌≤◌, ◌≡◌, refl, Bool, true, false, List, ltb, length, Result, Ok, Err}
use Rattle.std.proofs.Math.Path.{sym, ap}
use Rattle.std.proofs.Common.{◌∙◌, lt-ltb, le-ltb}
use Rattle.std.proofs.Math.Bool.{cond}
use Rattle.message.specs.declared.Command.{Command}
use Rattle.message.specs.Command.{command_at, size_of}
use Rattle.message.specs.laws.CommandExact.{command-room}
use Rattle.reader.specs.laws.Position.{behind, behind_in, position_after}

module _ (n at : ℕ) where
  same : (b : Bool) → at ≡ cond b at at
  same true = refl
  same false = refl

  -- nothing was read
  pub behind-refused : {a : Result Command ℕ} {k : ℕ} → a ≡ Err k → at ≡ behind_in n at a
  unfolding behind_in behind
  behind-refused {a} {k} h = same (ltb n at) ∙ ap (behind_in n at) (sym h)

  module _ {a : Result Command ℕ} {c : Command} (h : a ≡ Ok c) {d : ℕ} (de : d ≡ size_of c) where
    test : {b : Bool} → ltb n (at + d) ≡ b → ltb n (at + size_of c) ≡ b
    test e = ap (λ (x : ℕ). ltb n (at + x)) (sym de) ∙ e

    -- the message has no room for it
    pub behind-beyond : n < at + d → at ≡ behind_in n at a
    unfolding behind_in behind
    behind-beyond l = sym (ap (λ (b : Bool). cond b at (at + size_of c)) (test (lt-ltb n (at + d) l))) ∙ ap (behind_in n at) (sym h)

    -- it lies in the message
    pub behind-inside : at + d ≤ n → at + d ≡ behind_in n at a
    unfolding behind_in behind
    behind-inside l =
        ap (λ (x : ℕ). at + x) de ∙ sym (ap (λ (b : Bool). cond b at (at + size_of c)) (test (le-ltb n (at + d) l))) ∙ ap (behind_in n at) (sym h)

-- a command that stands in a message lies in it
pub behind-read : (m : List ℕ) (at : ℕ) → behind_in (length m) at (command_at m at) ≡ position_after m at
unfolding behind_in behind position_after
behind-read m at = go (command_at m at) refl
  where
    go : (a : Result Command ℕ) → command_at m at ≡ a → behind_in (length m) at a ≡ behind at a
    go (Ok c) h = ap (λ (b : Bool). cond b at (at + size_of c)) (le-ltb (length m) (at + size_of c) (command-room m at c h))
    go (Err k) h = sym (same (length m) at (ltb (length m) at))

-- behind a command that stands there
pub position-read : (m : List ℕ) (at : ℕ) {c : Command} → command_at m at ≡ Ok c → position_after m at ≡ at + size_of c
unfolding behind position_after
position-read m at h = ap (behind at) h
