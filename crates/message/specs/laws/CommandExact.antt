-- Commands are read from their own bytes and from no others, and refused for two reasons. Assumes nothing.
use Prim.Native.Nat.{ℕ, suc, ◌+◌, ◌-◌, ◌<◌, ◌≤◌}
use Rattle.std.specs.Prelude.{◌≡◌, ◌⊎◌, ◌↔◌, Bool, cond, ◌&&◌, ltb, take, Option, Some, None, Result, Ok, Err}
use Rattle.std.proofs.Math.Path.{refl, sym, ap, subst}
use Rattle.std.proofs.Common.{◌∙◌, ⊎_elim, arith, add_assoc, add-one, length-append, length-drop, take-append-drop, drop-cons, get_or-take, get_or-drop, take-add, take_at, length-take-le}
use Rattle.std.proofs.Math.Logic.{inl, inr}
use Rattle.std.proofs.Math.Bool.{true, false}
use mathlib.Core.List.{List, [], ◌∷◌, ◌++◌, append_assoc}
use borrow.Author.Tests.{ltb-true, ltb-false, eqb-true, eqb-false}
use Rattle.std.proofs.Math.Dec.{eqb}
use Rattle.std.proofs.Math.ListN.{length, get_or, drop, drop_of_length-le}
use Rattle.std.proofs.Math.Seq.{drop-drop, take-length, drop-append_seam}
use Rattle.expression.specs.declared.Expression.{Expression}
use Rattle.expression.specs.declared.Expression.TheVariants as E
use Rattle.expression.specs.declared.Credential.{Credential}
use Rattle.expression.specs.Bytes.{number_at, raw_at, raw_bytes, pasted, number_bytes}
use Rattle.expression.specs.Form.{raw_of, read_of, well_formed}
use Rattle.expression.specs.laws.Laws.{canonical}
use Rattle.expression.specs.laws.Codec.{next-byte, high_byte, low_byte, read_only, read-write}
use Rattle.expression.specs.Credential.{well_formed_credential, read_credential, credential_bytes}
use Rattle.expression.specs.laws.Credential.{credential-only}
use Rattle.expression.specs.laws.There.{self-paste, byte-there, code-there, size-there, read-there, Bytes, read-formed, skip, role-there, number-there}
use Rattle.graph.specs.declared.Edge.{Edge}
use Rattle.message.specs.declared.Opening.{Opening}
use Rattle.message.specs.declared.NewEdge.{NewEdge}
use Rattle.message.specs.declared.Command.{Command}
use Rattle.message.specs.declared.Command.TheVariants.{Show, Open, Bring, Join, Mark, End}
use Rattle.message.specs.Command.{edge_kind, formed_opening, formed_new, formed_command, whole, checked, shown, show_at, opening_of, open_at, new_of}
use Rattle.message.specs.Command.{brought, bring_at, edge_of, join_at, mark_at, end_at, by_code, command_at, opening_bytes, new_bytes, edge_bytes}
use Rattle.message.specs.Command.{command_bytes, size_of}
use Rattle.message.specs.Unreadable.{StandsAt, Whole, Unreadable, cut, malformed}
use Rattle.numbers.specs.Refusals.{COMMAND, OPERAND}
use Rattle.numbers.specs.Bytes.{CREDENTIAL-BYTES, OPEN-BYTES, NEW-EDGE-BYTES, OLD-EDGE-BYTES, MARK-BYTES, END-BYTES}
use Rattle.message.specs.laws.Command.{size-some, show-full, open_full, bring-full, join-full, mark-full, end-last, at_code}

-- a command has this first byte, this test of its form and these operands
record Has (code : ℕ) (good : Bool) (l : List ℕ) (c : Command) : Type 0 where
  bytes : command_bytes c ≡ code ∷ l
  form : formed_command c ≡ good
  size : size_of c ≡ suc (length l)

show-has : (c : Credential) (good : Bool) → well_formed_credential c ≡ good → Has 1 good (credential_bytes c) (Show c)
unfolding command_bytes formed_command
show-has c good h = record { bytes = refl; form = h; size = refl }

open-has : (o : Opening) → Has 2 (formed_opening o) (opening_bytes o) (Open o)
unfolding command_bytes formed_command
open-has o = record { bytes = refl; form = refl; size = refl }

bring-has : (n : NewEdge) → well_formed n.expression ≡ true → Has 3 (formed_new n) (new_bytes n) (Bring n)
unfolding command_bytes formed_command
bring-has n h = record { bytes = refl; form = ap (λ (t : Bool). t && formed_new n) h; size = refl }

join-has : (g : Edge) → Has 4 (edge_kind g.kind) (edge_bytes g) (Join g)
unfolding command_bytes formed_command
join-has g = record { bytes = refl; form = refl; size = refl }

mark-has : (n : ℕ) → Has 5 true (n ∷ []) (Mark n)
unfolding command_bytes formed_command
mark-has n = record { bytes = refl; form = refl; size = refl }

end-has : Has 6 true [] End
unfolding command_bytes formed_command
end-has = record { bytes = refl; form = refl; size = refl }

-- a command has as many bytes as its size
pub command-length : (c : Command) → length (command_bytes c) ≡ size_of c
unfolding command_bytes
command-length (Show c) = refl
command-length (Open o) = refl
command-length (Bring n) = refl
command-length (Join g) = refl
command-length (Mark n) = refl
command-length End = refl

-- The bytes of what is read

module _ (s : List ℕ) (at : ℕ) where
  first_byte : (n : ℕ) → at < length s → take (suc n) (drop at s) ≡ get_or s at 0 ∷ take n (drop (at + 1) s)
  first_byte n h = ap (take (suc n)) (drop-cons s at 0 h) ∙ ap (λ (k : ℕ). get_or s at 0 ∷ take n (drop k s)) (sym (add-one at))

  number-only : Bytes s → (n i : ℕ) → at + (i + 2) ≤ length s
      → take (suc (suc n)) (drop (at + i) s) ≡ number_bytes (number_at s (at + i)) ++ take n (drop (at + (i + 2)) s)
  number-only bytes n i h =
      next-byte (suc n) s at i (omega arith)
      ∙ ap (λ (l : List ℕ). get_or s (at + i) 0 ∷ l) (next-byte n s at (i + 1) (omega arith))
      ∙ (λ j. sym (high_byte s at i bytes) j ∷ sym (low_byte s at i bytes) j ∷ take n (drop (at + add_assoc i 1 1 j) s))

  open-only : Bytes s → at + 6 ≤ length s → take 5 (drop (at + 1) s) ≡ opening_bytes (opening_of s at)
  open-only bytes h =
      number-only bytes 3 1 (omega arith)
      ∙ ap (λ (l : List ℕ). number_bytes (number_at s (at + 1)) ++ l) (number-only bytes 1 3 (omega arith))
      ∙ (λ j. number_bytes (number_at s (at + 1)) ++ (number_bytes (number_at s (sym (add_assoc at 1 2) j)) ++ next-byte 0 s at 5 (omega arith) j))

  child-only : Bytes s → (child : Expression) → at + 24 ≤ length s → read_of s (at + 3) ≡ Some child
      → take 21 (drop (at + 3) s) ≡ raw_bytes (raw_of child) ++ take 3 (drop (at + 21) s)
  child-only bytes child h q =
      take-add 18 3 (drop (at + 3) s)
      ∙ (λ j. (read_only s (at + 3) child bytes (omega arith) q).0 j ++ take 3 (drop-drop 18 (at + 3) s j))
      ∙ ap (λ (k : ℕ). raw_bytes (raw_of child) ++ take 3 (drop k s)) (add_assoc at 3 18)

  bring-only : Bytes s → (child : Expression) → at + 24 ≤ length s → read_of s (at + 3) ≡ Some child → take 23 (drop (at + 1) s) ≡ new_bytes (new_of s at child)
  bring-only bytes child h q =
      let rest : take 3 (drop (at + 21) s) ≡ number_bytes (number_at s (at + 21)) ++ (get_or s (at + 23) 0 ∷ [])
      = number-only bytes 1 21 (omega arith) ∙ ap (λ (l : List ℕ). number_bytes (number_at s (at + 21)) ++ l) (next-byte 0 s at 23 (omega arith)) in
      next-byte 22 s at 1 (omega arith)
      ∙ ap (λ (l : List ℕ). get_or s (at + 1) 0 ∷ l) (next-byte 21 s at 2 (omega arith))
      ∙ ap (λ (l : List ℕ). get_or s (at + 1) 0 ∷ get_or s (at + 2) 0 ∷ l) (child-only bytes child h q)
      ∙ ap (λ (l : List ℕ). get_or s (at + 1) 0 ∷ get_or s (at + 2) 0 ∷ (raw_bytes (raw_of child) ++ l)) rest

  join-only : at + 4 ≤ length s → take 3 (drop (at + 1) s) ≡ edge_bytes (edge_of s at)
  join-only h =
      next-byte 2 s at 1 (omega arith)
      ∙ ap (λ (l : List ℕ). get_or s (at + 1) 0 ∷ l) (next-byte 1 s at 2 (omega arith))
      ∙ ap (λ (l : List ℕ). get_or s (at + 1) 0 ∷ get_or s (at + 2) 0 ∷ l) (next-byte 0 s at 3 (omega arith))

abbrev is_end : Command → Bool
is_end (Show c) = false
is_end (Open o) = false
is_end (Bring n) = false
is_end (Join g) = false
is_end (Mark n) = false
is_end End = true

never : {A : Type 0} → false ≡ true → A
never h = let z : ◌≡◌ {A = ℕ} 0 1 = cc in absurd (omega arith)

-- A whole command, by its first byte

-- how many bytes a command with this first byte has
abbrev size_by : ℕ → ℕ
size_by code =
    cond (eqb code 1) CREDENTIAL-BYTES
    (cond (eqb code 2) OPEN-BYTES (cond (eqb code 3) NEW-EDGE-BYTES (cond (eqb code 4) OLD-EDGE-BYTES (cond (eqb code 5) MARK-BYTES END-BYTES))))

abbrev first_of : Command → ℕ
first_of c = get_or (command_bytes c) 0 0

size-by : (c : Command) → size_by (first_of c) ≡ size_of c
unfolding command_bytes
size-by (Show c) = refl
size-by (Open o) = refl
size-by (Bring n) = refl
size-by (Join g) = refl
size-by (Mark n) = refl
size-by End = refl

known : (c : Command) → (0 < first_of c) × (first_of c < 7)
unfolding command_bytes
known (Show c) = (omega arith, omega arith)
known (Open o) = (omega arith, omega arith)
known (Bring n) = (omega arith, omega arith)
known (Join g) = (omega arith, omega arith)
known (Mark n) = (omega arith, omega arith)
known End = (omega arith, omega arith)

end_by : (c : Command) → first_of c ≡ 6 → c ≡ End
unfolding command_bytes
end_by (Show c) h = absurd (omega (arith, h))
end_by (Open o) h = absurd (omega (arith, h))
end_by (Bring n) h = absurd (omega (arith, h))
end_by (Join g) h = absurd (omega (arith, h))
end_by (Mark n) h = absurd (omega (arith, h))
end_by End h = refl

-- three numbers in a row left out
past : (from code : ℕ) → from < code → (code ≡ from + 1 → ⊥) → (code ≡ from + 2 → ⊥) → (code ≡ from + 3 → ⊥) → from + 3 < code
past from code h a b c = omega arith

module _ (s : List ℕ) (at : ℕ) where
  -- a whole command has its size, by its first byte
  whole-size : (code : ℕ) → get_or s at 0 ≡ code → Whole s at → size_by code ≤ length s - at
  whole-size code q w =
      let e : size_of w.like ≡ size_by code = sym (size-by w.like) ∙ ap size_by (sym w.code ∙ q) in
      omega (arith, w.room, e)

  whole_by : (code : ℕ) (l : List ℕ) (good : Bool) (c : Command) → Has code good l c → get_or s at 0 ≡ code → suc (length l) ≤ length s - at
      → (is_end c ≡ true → length s ≡ at + 1) → Whole s at
  whole_by code l good c w q h last =
      record { like = c; code = q ∙ sym (ap (λ (m : List ℕ). get_or m 0 0) w.bytes); room = omega (arith, w.size); last = λ e. last (ap is_end e) }

-- a credential of right form
abbrev some : Credential
some = record { head = record { entity = 1; name = 1 }; body = E.Entity 1 }

-- what is known where an answer was found: of a command that it has room and right form, that its bytes stand there, and that nothing
-- follows an end; that a refusal is 2 where no command stands whole, and else 3
abbrev Sure : List ℕ → ℕ → Result Command ℕ → Type 0
Sure s at (Ok c) =
    (at + size_of c ≤ length s) × (formed_command c ≡ true) × (Bytes s → take (size_of c) (drop at s) ≡ command_bytes c) × (is_end c ≡ true → length s ≡ at + 1)
Sure s at (Err k) = ((k ≡ COMMAND) × (Whole s at → ⊥)) ⊎ ((k ≡ OPERAND) × Whole s at)

module _ (s : List ℕ) (at : ℕ) where
  sure-whole : (size : ℕ) (x : Result Command ℕ) → (Whole s at → size ≤ length s - at) → (size ≤ length s - at → Sure s at x) → Sure s at (whole size s at x)
  sure-whole size x w k = go (ltb (length s - at) size) refl
    where
      go : (t : Bool) → ltb (length s - at) size ≡ t → Sure s at (cond t (Err 2) x)
      go true h = inl (refl, λ v. omega (arith, w v, ltb-true (length s - at) size h))
      go false h = k (ltb-false (length s - at) size h)

  sure-read : (code : ℕ) (l : List ℕ) (c : Command) → Has code true l c → get_or s at 0 ≡ code → suc (length l) ≤ length s - at
      → (Bytes s → take (length l) (drop (at + 1) s) ≡ l) → (is_end c ≡ true → length s ≡ at + 1) → Sure s at (Ok c)
  sure-read code l c w q h k last =
      let first : take (suc (length l)) (drop at s) ≡ get_or s at 0 ∷ take (length l) (drop (at + 1) s) = first_byte s at (length l) (omega arith) in
      (omega (arith, w.size), w.form, λ b. ap (λ (n : ℕ). take n (drop at s)) w.size ∙ first ∙ (λ i. q i ∷ k b i) ∙ sym w.bytes, last)

  sure-checked : (code : ℕ) (good : Bool) (l : List ℕ) (c : Command) → Has code good l c → get_or s at 0 ≡ code → suc (length l) ≤ length s - at
      → (Bytes s → take (length l) (drop (at + 1) s) ≡ l) → (is_end c ≡ true → length s ≡ at + 1) → Sure s at (checked good c)
  sure-checked code true l c w q h k last = sure-read code l c w q h k last
  sure-checked code false l c w q h k last = inr (refl, whole_by s at code l false c w q h last)

  sure-show : get_or s at 0 ≡ 1 → Sure s at (show_at s at)
  unfolding show_at
  sure-show q = sure-whole 23 (shown (read_credential s (at + 1))) (whole-size s at 1 q) (λ h. go (read_credential s (at + 1)) refl h)
    where
      go : (x : Option Credential) → read_credential s (at + 1) ≡ x → 23 ≤ length s - at → Sure s at (shown x)
      go (Some c) p h =
          sure-read 1 (credential_bytes c) (Show c) (show-has c true (read-formed s (at + 1) c p)) q h
          (λ b. (credential-only s (at + 1) c b (omega arith) p).0) never
      go None p h = inr (refl, whole_by s at 1 (credential_bytes some) _ (Show some) (show-has some _ refl) q h never)

  sure-open : get_or s at 0 ≡ 2 → Sure s at (open_at s at)
  unfolding open_at
  sure-open q = sure-whole 6 _ (whole-size s at 2 q) (λ h. sure-checked 2 _ _ _ (open-has (opening_of s at)) q h (λ b. open-only s at b (omega arith)) never)

  sure-bring : get_or s at 0 ≡ 3 → Sure s at (bring_at s at)
  unfolding bring_at
  sure-bring q = sure-whole 24 (brought s at (read_of s (at + 3))) (whole-size s at 3 q) (λ h. go (read_of s (at + 3)) refl h)
    where
      go : (x : Option Expression) → read_of s (at + 3) ≡ x → 24 ≤ length s - at → Sure s at (brought s at x)
      go (Some child) p h =
          sure-checked 3 _ _ _ (bring-has (new_of s at child) (canonical (raw_at s (at + 3)) child p).1) q h (λ b. bring-only s at b child (omega arith) p) never
      go None p h =
          let n : NewEdge = new_of s at (E.Entity 1) in
          inr (refl, whole_by s at 3 (new_bytes n) (formed_new n) (Bring n) (bring-has n refl) q h never)

  sure-join : get_or s at 0 ≡ 4 → Sure s at (join_at s at)
  unfolding join_at
  sure-join q = sure-whole 4 _ (whole-size s at 4 q) (λ h. sure-checked 4 _ _ _ (join-has (edge_of s at)) q h (λ b. join-only s at (omega arith)) never)

  sure-mark : get_or s at 0 ≡ 5 → Sure s at (mark_at s at)
  unfolding mark_at
  sure-mark q = sure-whole 2 _ (whole-size s at 5 q) (λ h. sure-read 5 _ _ (mark-has (get_or s (at + 1) 0)) q h (λ b. next-byte 0 s at 1 (omega arith)) never)

  sure-end : get_or s at 0 ≡ 6 → Sure s at (end_at s at)
  unfolding end_at
  sure-end q = go (eqb (length s - at) 1) refl
    where
      go : (t : Bool) → eqb (length s - at) 1 ≡ t → Sure s at (cond t (Ok End) (Err 2))
      go true h =
          let one : length s - at ≡ 1 = eqb-true (length s - at) 1 h in
          sure-read 6 [] End end-has q (omega (arith, one)) (λ b. refl) (λ z. omega (arith, one))
      go false h = inl (refl, λ w. let e = w.last (end_by w.like (sym w.code ∙ q)) in eqb-false (length s - at) 1 h (omega (arith, e)))

  sure-test : (code k : ℕ) (x y : Result Command ℕ) → (code ≡ k → Sure s at x) → ((code ≡ k → ⊥) → Sure s at y) → Sure s at (cond (eqb code k) x y)
  sure-test code k x y here other = go (eqb code k) refl
    where
      go : (t : Bool) → eqb code k ≡ t → Sure s at (cond t x y)
      go true h = here (eqb-true code k h)
      go false h = other (eqb-false code k h)

  sure : Sure s at (command_at s at)
  unfolding command_at
  sure =
      let code : ℕ = get_or s at 0 in
      sure-whole 1 (by_code code s at) (λ w. omega (arith, w.room, size-some w.like)) (λ inside.
      sure-test code 1 _ _ sure-show (λ n1.
      sure-test code 2 _ _ sure-open (λ n2.
      sure-test code 3 _ _ sure-bring (λ n3.
      sure-test code 4 _ _ sure-join (λ n4.
      sure-test code 5 _ _ sure-mark (λ n5.
      sure-test code 6 _ (Err 2) sure-end (λ n6.
      inl (
        refl,
        λ w.
            let k = subst (λ (n : ℕ). (0 < n) × (n < 7)) (sym w.code) (known w.like) in
            let a = past 3 code (past 0 code k.0 n1 n2 n3) n4 n5 n6 in
            omega (arith, a, k.1),
      ))))))))

-- a command is refused 2 or 3
pub command-refusal : (s : List ℕ) (at k : ℕ) → command_at s at ≡ Err k → (k ≡ 2) ⊎ (k ≡ 3)
command-refusal s at k h = ⊎_elim (λ z. inl z.0) (λ z. inr z.0) (subst (Sure s at) h (sure s at))

-- a command that was read ends within the bytes
pub command-room : (s : List ℕ) (at : ℕ) (c : Command) → command_at s at ≡ Ok c → at + size_of c ≤ length s
command-room s at c h = (subst (Sure s at) h (sure s at)).0

-- its operands have right form
pub command-formed : (s : List ℕ) (at : ℕ) (c : Command) → command_at s at ≡ Ok c → formed_command c ≡ true
command-formed s at c h = (subst (Sure s at) h (sure s at)).1

-- its bytes stand there
pub command-only : (s : List ℕ) (at : ℕ) (c : Command) → ((i : ℕ) → get_or s i 0 < 256) → command_at s at ≡ Ok c → take (size_of c) (drop at s) ≡ command_bytes c
command-only s at c bytes h = (subst (Sure s at) h (sure s at)).2 bytes

-- nothing stands after an end that was read
pub command-end : (s : List ℕ) (at : ℕ) → command_at s at ≡ Ok End → length s ≡ at + 1
command-end s at h = (subst (Sure s at) h (sure s at)).3 refl

begins : (s : List ℕ) (at code : ℕ) (l : List ℕ) → drop at s ≡ code ∷ l → at < length s
begins s at code l h = omega (arith, length-drop at s, ap length h)

expression-there : (s : List ℕ) (at : ℕ) (x : Expression) (l : List ℕ) → at + 18 ≤ length s → well_formed x ≡ true
    → drop at s ≡ raw_bytes (raw_of x) ++ l → read_of s at ≡ Some x
expression-there s at x l room formed h =
    let b : List ℕ = raw_bytes (raw_of x) in
    let there : take 18 (drop at s) ≡ b = ap (take 18) h ∙ take_at b l 18 refl in
    ap (λ (m : List ℕ). read_of m at) (sym (self-paste s at b there)) ∙ read-write s at x room formed

and_both : (x y : Bool) → x && y ≡ true → (x ≡ true) × (y ≡ true)
and_both true y h = (refl, h)
and_both false y h = let z : ◌≡◌ {A = ℕ} 0 1 = cc in absurd (omega arith)

module _ (s : List ℕ) (at : ℕ) (l : List ℕ) (inside : at ≤ length s) where
  show-back : (c : Credential) → drop at s ≡ (1 ∷ credential_bytes c) ++ l → well_formed_credential c ≡ true → Ok (Show c) ≡ show_at s at
  show-back c h good =
      let room : at + 23 ≤ length s = omega (arith, size-there s at inside _ h, length-append (credential_bytes c) l) in
      show-full s at (Some c) (omega arith) (read-there s (at + 1) (omega arith) c l good (skip s at 1 _ h))

  open-back : (o : Opening) → drop at s ≡ (2 ∷ opening_bytes o) ++ l → formed_opening o ≡ true → Ok (Open o) ≡ open_at s at
  open-back o h good =
      open_full s at o true (omega (arith, size-there s at inside _ h)) (role-there s (at + 1) o.role (o.state ∷ l) (skip s at 1 _ h))
      (sym (byte-there s at 5 _ h)) good

  bring-back : (n : NewEdge) → drop at s ≡ (3 ∷ new_bytes n) ++ l → well_formed n.expression && formed_new n ≡ true → Ok (Bring n) ≡ bring_at s at
  bring-back n h good =
      let both = and_both (well_formed n.expression) (formed_new n) good in
      let room : at + 24 ≤ length s = omega (arith, size-there s at inside _ h) in
      let child : read_of s (at + 3) ≡ Some n.expression
      = expression-there s (at + 3) n.expression (number_bytes n.subject ++ (n.state ∷ l)) (omega arith) both.0 (skip s at 3 _ h) in
      let subject : n.subject ≡ number_at s (at + 21) = number-there s (at + 21) n.subject (n.state ∷ l) (skip s at 21 _ h) in
      bring-full s at n true (omega arith) child (sym (byte-there s at 1 _ h)) (sym (byte-there s at 2 _ h)) subject (sym (byte-there s at 23 _ h)) both.1

  join-back : (g : Edge) → drop at s ≡ (4 ∷ edge_bytes g) ++ l → edge_kind g.kind ≡ true → Ok (Join g) ≡ join_at s at
  join-back g h good =
      join-full s at g true (omega (arith, size-there s at inside _ h)) (sym (byte-there s at 1 _ h)) (sym (byte-there s at 2 _ h))
      (sym (byte-there s at 3 _ h)) good

  mark-back : (n : ℕ) → drop at s ≡ (5 ∷ n ∷ []) ++ l → Ok (Mark n) ≡ mark_at s at
  mark-back n h = mark-full s at n (omega (arith, size-there s at inside _ h)) (sym (byte-there s at 1 _ h))

  end_back : drop at s ≡ (6 ∷ []) ++ l → l ≡ [] → Ok End ≡ end_at s at
  end_back h last = end-last s at (omega (arith, size-there s at inside _ h, ap length last))

-- a command of right form is read back from where its bytes stand, an end where no bytes follow
pub command-back : (s : List ℕ) (at : ℕ) (c : Command) (l : List ℕ) → drop at s ≡ command_bytes c ++ l → formed_command c ≡ true → (c ≡ End → l ≡ [])
    → command_at s at ≡ Ok c
unfolding command_bytes formed_command
command-back s at (Show c) l h good last =
    let inside : at < length s = begins s at 1 _ h in
    sym (show-back s at l (omega arith) c h good ∙ at_code s at 1 inside (code-there s at 1 _ h))
command-back s at (Open o) l h good last =
    let inside : at < length s = begins s at 2 _ h in
    sym (open-back s at l (omega arith) o h good ∙ at_code s at 2 inside (code-there s at 2 _ h))
command-back s at (Bring n) l h good last =
    let inside : at < length s = begins s at 3 _ h in
    sym (bring-back s at l (omega arith) n h good ∙ at_code s at 3 inside (code-there s at 3 _ h))
command-back s at (Join g) l h good last =
    let inside : at < length s = begins s at 4 _ h in
    sym (join-back s at l (omega arith) g h good ∙ at_code s at 4 inside (code-there s at 4 _ h))
command-back s at (Mark n) l h good last =
    let inside : at < length s = begins s at 5 _ h in
    sym (mark-back s at l (omega arith) n h ∙ at_code s at 5 inside (code-there s at 5 _ h))
command-back s at End l h good last =
    let inside : at < length s = begins s at 6 _ h in
    sym (end_back s at l (omega arith) h (last refl) ∙ at_code s at 6 inside (code-there s at 6 _ h))

-- Unreadable commands

module _ (s : List ℕ) (at : ℕ) where
  -- the first byte of a command that stands there
  first-there : (c : Command) → take (size_of c) (drop at s) ≡ command_bytes c → get_or s at 0 ≡ first_of c
  first-there c h =
      ap (λ (n : ℕ). get_or s n 0) (omega arith)
      ∙ sym (get_or-drop at s 0 0)
      ∙ sym (get_or-take (size_of c) (drop at s) 0 0 (size-some c))
      ∙ ap (λ (l : List ℕ). get_or l 0 0) h

  -- a command of right form whose bytes stand there is read
  there-read : Whole s at → (c : Command) → StandsAt s at c → command_at s at ≡ Ok c
  unfolding command_bytes
  there-read w c h =
      let l : List ℕ = drop (size_of c) (drop at s) in
      let there : drop at s ≡ command_bytes c ++ l = sym (take-append-drop (size_of c) (drop at s)) ∙ ap (λ (m : List ℕ). m ++ l) h.bytes in
      let last : c ≡ End → length s ≡ at + 1
      = λ e. w.last (end_by w.like (sym w.code ∙ first-there c h.bytes ∙ ap first_of e)) in
      command-back s at c l there h.form
      (λ e. ap (λ (k : Command). drop (size_of k) (drop at s)) e ∙ drop-drop 1 at s ∙ drop_of_length-le s {i = at + 1} (omega (arith, last e)))

  two-answers : {k : ℕ} {c : Command} → Err k ≡ Ok c → ⊥
  two-answers e = let z : ◌≡◌ {A = ℕ} 0 1 = cc in omega arith

  module _ (bytes : (i : ℕ) → get_or s i 0 < 256) where
    -- a command that was read stands there, and whole
    read-there-whole : (c : Command) → command_at s at ≡ Ok c → Whole s at × StandsAt s at c
    read-there-whole c h =
        let b = command-only s at c bytes h in (
          record { like = c; code = first-there c b; room = command-room s at c h; last = λ e. command-end s at (h ∙ ap Ok e) },
          record { form = command-formed s at c h; bytes = b },
        )

    refused-by : (k : ℕ) → command_at s at ≡ Err k → Sure s at (Err k) → Unreadable s at k
    refused-by k h (inl z) = cut z.1 z.0
    refused-by k h (inr z) = malformed z.1 (λ c there. two-answers (sym h ∙ there-read z.1 c there)) z.0

    by_answer : (x : Result Command ℕ) → command_at s at ≡ x → {k : ℕ} → Unreadable s at k → Sure s at x → x ≡ Err k
    by_answer (Ok c) h (cut n e) u = absurd (n (read-there-whole c h).0)
    by_answer (Ok c) h (malformed w n e) u = absurd (n c (read-there-whole c h).1)
    by_answer (Err j) h (cut n e) (inl z) = ap Err (z.0 ∙ sym e)
    by_answer (Err j) h (cut n e) (inr z) = absurd (n z.1)
    by_answer (Err j) h (malformed w n e) (inl z) = absurd (z.1 w)
    by_answer (Err j) h (malformed w n e) (inr z) = ap Err (z.0 ∙ sym e)

    -- nothing can be read exactly where no command stands whole (2), or its operands have wrong form (3)
    pub unreadable-exactly : (k : ℕ) → (command_at s at ≡ Err k) ↔ Unreadable s at k
    unreadable-exactly k = (λ h. refused-by k h (subst (Sure s at) h (sure s at)), λ u. by_answer (command_at s at) refl u (sure s at))

-- what stands from where it was copied on
paste-drop : (d : List ℕ) (at : ℕ) (b : List ℕ) → at ≤ length d → drop at (pasted d at b) ≡ b ++ drop (at + length b) d
paste-drop d at b h =
    let rest : List ℕ = drop (at + length b) d in
    ap (drop at) (append_assoc (take at d) (take (length b) b) rest)
    ∙ ap (λ (k : ℕ). drop k (take at d ++ (take (length b) b ++ rest))) (sym (length-take-le at d h))
    ∙ drop-append_seam (take at d) (take (length b) b ++ rest)
    ∙ ap (λ (l : List ℕ). l ++ rest) (take-length b)

-- a command of right form is read back from where it was written, an end from the last byte
pub command-written : (d : List ℕ) (at : ℕ) (c : Command) → at + size_of c ≤ length d → formed_command c ≡ true → (c ≡ End → length d ≡ at + 1)
    → command_at (pasted d at (command_bytes c)) at ≡ Ok c
command-written d at c room good last =
    let b : List ℕ = command_bytes c in
    let none : c ≡ End → drop (at + length b) d ≡ []
    = λ q. drop_of_length-le d {i = at + length b} (omega (arith, last q, command-length c, ap size_of q)) in
    command-back (pasted d at b) at c (drop (at + length b) d) (paste-drop d at b (omega arith)) good none
