-- What a command is read as, by the tests on its bytes, and what is written in steps. Assumes nothing.
use Rattle.std.specs.Prelude.{ℕ, ◌+◌, ◌-◌, ◌<◌, ◌≤◌, ◌≡◌, Bool, List, [], ◌∷◌, ◌++◌, eqb, length, get_or, Option, Some, None, Result, Ok, Err}
use Rattle.std.proofs.Math.Path.{sym, ap}
use Rattle.std.proofs.Common.{◌∙◌, subst, arith, lt-ltb, le-ltb, ne_eqb}
use Rattle.std.proofs.Math.Bool.{cond}
use Rattle.expression.specs.declared.Credential.{Credential}
use Rattle.expression.specs.Bytes.{number_at, raw_bytes, pasted, number_bytes}
use Rattle.expression.specs.Form.{raw_of, read_of}
use Rattle.expression.specs.laws.Codec.{paste-paste}
use Rattle.expression.specs.Credential.{role_at, read_credential, credential_bytes}
use Rattle.graph.specs.declared.Edge.{Edge}
use Rattle.message.specs.declared.Opening.{Opening}
use Rattle.message.specs.declared.NewEdge.{NewEdge}
use Rattle.message.specs.declared.Command.{Command}
use Rattle.message.specs.declared.Command.TheVariants.{Open, Bring, Join, Mark, End, Show}
use Rattle.message.specs.Command.{edge_kind, formed_opening, formed_new, whole, checked, shown, show_at, opening_of, open_at, new_of, brought, bring_at}
use Rattle.message.specs.Command.{edge_of, join_at, mark_at, end_at, by_code, command_at, new_bytes, command_bytes, size_of}

-- a command has a byte
pub size-some : (c : Command) → 0 < size_of c
size-some (Show c) = omega arith
size-some (Open o) = omega arith
size-some (Bring n) = omega arith
size-some (Join e) = omega arith
size-some (Mark i) = omega arith
size-some End = omega arith

module _ (size : ℕ) (s : List ℕ) (at : ℕ) where
  -- too few bytes are left
  cut : (r : Result Command ℕ) → length s - at < size → Err 2 ≡ whole size s at r
  cut r h = sym (ap (λ (t : Bool). cond t (Err 2) r) (lt-ltb (length s - at) size h))

  -- enough bytes are left
  full : {r q : Result Command ℕ} → size ≤ length s - at → q ≡ r → q ≡ whole size s at r
  full {r} h e = e ∙ sym (ap (λ (t : Bool). cond t (Err 2) r) (le-ltb (length s - at) size h))

module _ (s : List ℕ) (at : ℕ) where
  -- a credential, cut
  pub show-cut : length s - at < 23 → Err 2 ≡ show_at s at
  unfolding show_at
  show-cut h = cut 23 s at _ h

  -- a credential, whole
  pub show-full : (r : Option Credential) → 23 ≤ length s - at → read_credential s (at + 1) ≡ r → shown r ≡ show_at s at
  unfolding show_at
  show-full r h q = full 23 s at h (ap shown (sym q))

  -- an open, cut
  pub open-cut : length s - at < 6 → Err 2 ≡ open_at s at
  unfolding open_at
  open-cut h = cut 6 s at _ h

  -- an open, whole
  pub open_full : (o : Opening) (b : Bool) → 6 ≤ length s - at → o.role ≡ role_at s (at + 1) → o.state ≡ get_or s (at + 5) 0 → formed_opening o ≡ b
      → checked b (Open o) ≡ open_at s at
  unfolding open_at
  open_full o b h p q f =
      let same : o ≡ opening_of s at = λ i. record { role = p i; state = q i } in
      full 6 s at h (λ i. checked (sym (sym (ap formed_opening same) ∙ f) i) (Open (same i)))

  -- an edge with a new child, cut
  pub bring-cut : length s - at < 24 → Err 2 ≡ bring_at s at
  unfolding bring_at
  bring-cut h = cut 24 s at _ h

  -- an edge with a new child, its expression of wrong form
  pub bring-wrong : 24 ≤ length s - at → read_of s (at + 3) ≡ None → Err 3 ≡ bring_at s at
  unfolding bring_at
  bring-wrong h q = full 24 s at h (ap (brought s at) (sym q))

  -- an edge with a new child, whole
  pub bring-full : (n : NewEdge) (b : Bool) → 24 ≤ length s - at → read_of s (at + 3) ≡ Some n.expression → n.kind ≡ get_or s (at + 1) 0
      → n.parent ≡ get_or s (at + 2) 0 → n.subject ≡ number_at s (at + 21) → n.state ≡ get_or s (at + 23) 0 → formed_new n ≡ b
      → checked b (Bring n) ≡ bring_at s at
  unfolding bring_at
  bring-full n b h x k p u t f =
      let same : n ≡ new_of s at n.expression = λ i. record { kind = k i; parent = p i; expression = n.expression; subject = u i; state = t i } in
      full 24 s at h ((λ i. checked (sym (sym (ap formed_new same) ∙ f) i) (Bring (same i))) ∙ ap (brought s at) (sym x))

  -- an edge between old nodes, cut
  pub join-cut : length s - at < 4 → Err 2 ≡ join_at s at
  unfolding join_at
  join-cut h = cut 4 s at _ h

  -- an edge between old nodes, whole
  pub join-full : (g : Edge) (b : Bool) → 4 ≤ length s - at → g.kind ≡ get_or s (at + 1) 0 → g.parent ≡ get_or s (at + 2) 0 → g.child ≡ get_or s (at + 3) 0
      → edge_kind g.kind ≡ b → checked b (Join g) ≡ join_at s at
  unfolding join_at
  join-full g b h k p q f =
      let same : g ≡ edge_of s at = λ i. record { kind = k i; parent = p i; child = q i } in
      full 4 s at h (λ i. checked (sym (sym (ap edge_kind k) ∙ f) i) (Join (same i)))

  -- a mark, cut
  pub mark-cut : length s - at < 2 → Err 2 ≡ mark_at s at
  unfolding mark_at
  mark-cut h = cut 2 s at _ h

  -- a mark, whole
  pub mark-full : (n : ℕ) → 2 ≤ length s - at → n ≡ get_or s (at + 1) 0 → Ok (Mark n) ≡ mark_at s at
  unfolding mark_at
  mark-full n h q = full 2 s at h (ap (λ (k : ℕ). Ok (Mark k)) q)

  -- an end, last
  pub end-last : length s - at ≡ 1 → Ok End ≡ end_at s at
  unfolding end_at
  end-last h = sym (ap (λ (n : ℕ). cond (eqb n 1) (Ok End) (Err 2)) h)

  -- an end that bytes follow
  pub end-followed : (length s - at ≡ 1 → ⊥) → Err 2 ≡ end_at s at
  unfolding end_at
  end-followed h = sym (ap (λ (t : Bool). cond t (Ok End) (Err 2)) (ne_eqb (length s - at) 1 h))

  -- nothing stands there
  pub nothing : length s ≤ at → Err 2 ≡ command_at s at
  unfolding command_at
  nothing h = cut 1 s at _ (omega arith)

  -- the first byte says which command stands there
  pub at_code : (code : ℕ) → at < length s → get_or s at 0 ≡ code → by_code code s at ≡ command_at s at
  unfolding command_at
  at_code code inside h = full 1 s at (omega arith) (ap (λ (c : ℕ). by_code c s at) (sym h))

  -- an unknown first byte
  pub unknown : (code : ℕ) → (code ≡ 1 → ⊥) → (code ≡ 2 → ⊥) → (code ≡ 3 → ⊥) → (code ≡ 4 → ⊥) → (code ≡ 5 → ⊥) → (code ≡ 6 → ⊥)
      → Err 2 ≡ by_code code s at
  unknown code h0 h1 h2 h3 h4 h5 = sym (simp (ne_eqb code 1 h0, ne_eqb code 2 h1, ne_eqb code 3 h2, ne_eqb code 4 h3, ne_eqb code 5 h4, ne_eqb code 6 h5))

-- a credential command, written in two steps
pub show-written : (d f g : List ℕ) (at : ℕ) (c : Credential) → at + 23 ≤ length d → f ≡ pasted d at (1 ∷ []) → g ≡ pasted f (at + 1) (credential_bytes c)
    → g ≡ pasted d at (1 ∷ credential_bytes c)
show-written d f g at c room p q =
    q ∙ ap (λ (l : List ℕ). pasted l (at + 1) (credential_bytes c)) p ∙ paste-paste d at (1 ∷ []) (credential_bytes c) (omega arith)

-- an edge with a new child, written in three
pub bring-written : (d f g h : List ℕ) (at : ℕ) (n : NewEdge) → at + 24 ≤ length d → f ≡ pasted d at (3 ∷ n.kind ∷ n.parent ∷ [])
    → g ≡ pasted f (at + 3) (raw_bytes (raw_of n.expression)) → h ≡ pasted g (at + 21) (number_bytes n.subject ++ (n.state ∷ []))
    → h ≡ pasted d at (3 ∷ new_bytes n)
bring-written d f g h at n room p q r =
    let front : List ℕ = 3 ∷ n.kind ∷ n.parent ∷ [] in
    let child : List ℕ = raw_bytes (raw_of n.expression) in
    let rest : List ℕ = number_bytes n.subject ++ (n.state ∷ []) in
    let two : g ≡ pasted d at (front ++ child) = q ∙ ap (λ (l : List ℕ). pasted l (at + 3) child) p ∙ paste-paste d at front child (omega arith) in
    r ∙ ap (λ (l : List ℕ). pasted l (at + 21) rest) two ∙ paste-paste d at (front ++ child) rest (omega arith)

-- room for a command, where it is known which
pub room_for : (at n : ℕ) (c k : Command) → c ≡ k → at + size_of c ≤ n → at + size_of k ≤ n
room_for at n c k h room = subst (λ (x : Command). at + size_of x ≤ n) h room

-- its bytes, where it is known which
pub bytes_of : (d g : List ℕ) (at : ℕ) (c k : Command) → c ≡ k → g ≡ pasted d at (command_bytes k) → g ≡ pasted d at (command_bytes c)
bytes_of d g at c k h w = w ∙ ap (λ (x : Command). pasted d at (command_bytes x)) (sym h)
