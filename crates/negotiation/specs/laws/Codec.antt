-- What is written is read back, and reading succeeds only on bytes that writing yields: one encoding a state. Assumes nothing.
use Prim.Native.Nat.{ℕ, zero, suc, ◌+◌, ◌*◌, ◌/◌, ◌%◌}
use Rattle.std.proofs.Common.{arith, add-zero, add_assoc, suc-mul, zero-mul, sym, ◌∙◌, drop-drop}
use Rattle.std.proofs.Math.Nat.{div-add-mod'}
use Rattle.std.specs.Prelude.{◌≡◌, refl, Bool, true, false, cond, length, get_or, drop}
use Rattle.std.proofs.Math.Path.{ap}
use mathlib.Core.List.{List, [], ◌∷◌, ◌++◌, append_assoc}
use Rattle.std.proofs.Math.Option.{none, some}
use Rattle.std.proofs.Math.Seq.{drop_at}
use Rattle.expression.specs.declared.Raw.{Raw}
use Rattle.expression.specs.declared.Credential.{Credential}
use Rattle.expression.specs.Bytes.{number_at, raw_at, raw_bytes}
use Rattle.expression.specs.Form.{raw_of, expression_of}
use Rattle.expression.specs.laws.Laws.{expression-raw}
use Rattle.expression.specs.Credential.{credential_bytes}
use Rattle.expression.specs.laws.There.{byte-there, code-there}
use Rattle.rt0.specs.Pool.{up_to}
use Rattle.rt0.specs.laws.Added.{up_to-same}
use Rattle.graph.specs.declared.Node.{Node}
use Rattle.graph.specs.declared.Edge.{Edge}
use Rattle.negotiation.specs.declared.Header.{Header}
use Rattle.negotiation.specs.State.{State, within}
use Rattle.negotiation.specs.Layout.{node_bytes, edge_bytes, records, part, header_part, state_bytes, header_from, node_from, edge_from, credential_from}
use Rattle.negotiation.specs.Layout.{few, candidate_of, same_bytes, read_state}
use Rattle.negotiation.specs.laws.Layout.{Sizes, sizes, node-size, edge-size, credential-size, header-part, nodes-front, edges-front, state-length}
use Rattle.negotiation.specs.laws.Read.{few-all, candidate-within, same-bytes-eq, same-bytes-refl}
use Rattle.numbers.specs.Sizes.{MOST-EDGES}

-- One record

module _ (s : List ℕ) (at : ℕ) where
  -- a number whose two bytes stand there
  number-there : (i : ℕ) (l : List ℕ) (n : ℕ) → drop at s ≡ l → get_or l i 0 ≡ n / 256 → get_or l (i + 1) 0 ≡ n % 256 → number_at s (at + i) ≡ n
  number-there i l n h p q =
      let high : get_or s (at + i) 0 ≡ n / 256 = byte-there s at i l h ∙ p in
      let low : get_or s (at + i + 1) 0 ≡ n % 256 = ap (λ (k : ℕ). get_or s k 0) (add_assoc at i 1) ∙ byte-there s at (i + 1) l h ∙ q in
      (λ t. high t * 256 + low t) ∙ div-add-mod' n 256

  first-number : (l : List ℕ) (n : ℕ) → drop at s ≡ l → get_or l 0 0 ≡ n / 256 → get_or l 1 0 ≡ n % 256 → number_at s at ≡ n
  first-number l n h p q = ap (number_at s) (sym (add-zero at)) ∙ number-there 0 l n h p q

  raw-there : (r : Raw) (l : List ℕ) → drop at s ≡ raw_bytes r ++ l → raw_at s at ≡ r
  raw-there r l h =
      let b : List ℕ = raw_bytes r ++ l in
      λ t. record {
        kind = code-there s at r.kind _ h t;
        count = byte-there s at 1 b h t;
        n0 = number-there 2 b r.n0 h refl refl t;
        n1 = number-there 4 b r.n1 h refl refl t;
        n2 = number-there 6 b r.n2 h refl refl t;
        n3 = number-there 8 b r.n3 h refl refl t;
        n4 = number-there 10 b r.n4 h refl refl t;
        n5 = number-there 12 b r.n5 h refl refl t;
        n6 = number-there 14 b r.n6 h refl refl t;
        n7 = number-there 16 b r.n7 h refl refl t;
      }

node-back : (s : List ℕ) (at : ℕ) (x : Node) (l : List ℕ) → drop at s ≡ node_bytes x ++ l → node_from s at ≡ x
unfolding node_bytes
node-back s at x l h =
    let tail : List ℕ = x.subject / 256 ∷ x.subject % 256 ∷ x.verifier ∷ x.state ∷ [] in
    let b : List ℕ = node_bytes x ++ l in
    let raw : raw_at s at ≡ raw_of x.expression = raw-there s at (raw_of x.expression) (tail ++ l) h in
    λ t. record {
      expression = (ap expression_of raw ∙ expression-raw x.expression) t;
      subject = number-there s at 18 b x.subject h refl refl t;
      verifier = byte-there s at 20 b h t;
      state = byte-there s at 21 b h t;
    }

edge-back : (s : List ℕ) (at : ℕ) (e : Edge) (l : List ℕ) → drop at s ≡ edge_bytes e ++ l → edge_from s at ≡ e
edge-back s at e l h =
    λ t. record { kind = code-there s at e.kind _ h t; parent = byte-there s at 1 (edge_bytes e ++ l) h t; child = byte-there s at 2 (edge_bytes e ++ l) h t }

shown-credential-back : (s : List ℕ) (at : ℕ) (c : Credential) (l : List ℕ) → drop at s ≡ credential_bytes c ++ l → credential_from s at ≡ c
shown-credential-back s at c l h =
    let b : List ℕ = credential_bytes c ++ l in
    let body : drop (at + 4) s ≡ raw_bytes (raw_of c.body) ++ l = sym (drop-drop 4 at s) ∙ ap (drop 4) h in
    λ t. record {
      head = record { entity = first-number s at b c.head.entity h refl refl t; name = number-there s at 2 b c.head.name h refl refl t };
      body = (ap expression_of (raw-there s (at + 4) (raw_of c.body) l body) ∙ expression-raw c.body) t;
    }

-- Records one after the other

up_to-front : {A : Type 0} (n : ℕ) (h : ℕ → A) → up_to (suc n) h ≡ h zero ∷ up_to n (λ (i : ℕ). h (suc i))
up_to-front zero h = refl
up_to-front (suc n) h = ap (λ (l : List _). l ++ (h (suc n) ∷ [])) (up_to-front n h)

module _ {A : Type 0} (f : A → List ℕ) (g : List ℕ → ℕ → A) (k : ℕ) (size : (x : A) → length (f x) ≡ k)
    (back : (s : List ℕ) (at : ℕ) (x : A) (l : List ℕ) → drop at s ≡ f x ++ l → g s at ≡ x) where
  records-back : (xs : List A) (s : List ℕ) (at : ℕ) (l : List ℕ) → drop at s ≡ records f xs ++ l → up_to (length xs) (λ (i : ℕ). g s (at + i * k)) ≡ xs
  records-back [] s at l h = refl
  records-back (x ∷ xs) s at l h =
      let whole : drop at s ≡ f x ++ (records f xs ++ l) = h ∙ append_assoc (f x) (records f xs) l in
      let rest : drop (at + k) s ≡ records f xs ++ l = sym (drop-drop k at s) ∙ ap (drop k) whole ∙ drop_at (f x) (records f xs ++ l) k (size x) in
      let start : at + 0 * k ≡ at = ap (λ (n : ℕ). at + n) (zero-mul k) ∙ add-zero at in
      let next : (i : ℕ) → at + suc i * k ≡ at + k + i * k = λ i. omega (arith, suc-mul i k) in
      up_to-front (length xs) (λ (i : ℕ). g s (at + i * k))
      ∙ (λ t. (ap (g s) start ∙ back s at x (records f xs ++ l) whole) t
      ∷ (up_to-same (length xs) (λ (i : ℕ). g s (at + suc i * k)) (λ (i : ℕ). g s (at + k + i * k)) (λ i m. ap (g s) (next i))
      ∙ records-back xs s (at + k) l rest) t)

  -- a part that stands there
  part-back : (n : ℕ) (xs : List A) (s : List ℕ) (at : ℕ) (l : List ℕ) → drop at s ≡ part n f xs ++ l → up_to (length xs) (λ (i : ℕ). g s (at + i * k)) ≡ xs
  unfolding part
  part-back n xs s at l h = records-back xs s at _ (h ∙ append_assoc (records f xs) _ l)

-- The whole

module _ (S : State) (z : Sizes S) where
  header-back : header_from (state_bytes S) ≡ S.header
  unfolding state_bytes header_part
  header-back =
      let h : Header = S.header in
      λ t. record {
        side = h.side;
        own = div-add-mod' h.own 256 t;
        other = div-add-mod' h.other 256 t;
        wanted = record { entity = div-add-mod' h.wanted.entity 256 t; name = div-add-mod' h.wanted.name 256 t };
        end = h.end;
        idle = h.idle;
        messages = record { mediator = div-add-mod' h.messages.mediator 256 t; requester = div-add-mod' h.messages.requester 256 t };
      }

  nodes-back : up_to (few 128 (get_or (state_bytes S) 16 0)) (λ (i : ℕ). node_from (state_bytes S) (128 + i * 22)) ≡ S.nodes
  unfolding state_bytes header_part
  nodes-back =
      let nodes : List ℕ = part 2816 node_bytes S.nodes in
      let edges : List ℕ = part 768 edge_bytes S.edges in
      let shown : List ℕ = part 1408 credential_bytes S.shown in
      let split : state_bytes S ≡ header_part S ++ (nodes ++ (edges ++ shown)) = append_assoc (header_part S ++ nodes) edges shown
      ∙ append_assoc (header_part S) nodes (edges ++ shown) in
      ap (λ (n : ℕ). up_to n (λ (i : ℕ). node_from (state_bytes S) (128 + i * 22))) (few-all 128 (length S.nodes) z.nodes)
      ∙ part-back node_bytes node_from 22 node-size node-back 2816 S.nodes (state_bytes S) 128 (edges ++ shown)
      (ap (drop 128) split ∙ drop_at (header_part S) (nodes ++ (edges ++ shown)) 128 (header-part S z))

  edges-back : up_to (few 256 (number_at (state_bytes S) 17)) (λ (j : ℕ). edge_from (state_bytes S) (2944 + j * 3)) ≡ S.edges
  unfolding state_bytes header_part
  edges-back =
      let nodes : List ℕ = part 2816 node_bytes S.nodes in
      let edges : List ℕ = part 768 edge_bytes S.edges in
      let shown : List ℕ = part 1408 credential_bytes S.shown in
      ap (λ (n : ℕ). up_to (few 256 n) (λ (j : ℕ). edge_from (state_bytes S) (2944 + j * 3))) (div-add-mod' (length S.edges) MOST-EDGES)
      ∙ ap (λ (n : ℕ). up_to n (λ (j : ℕ). edge_from (state_bytes S) (2944 + j * 3))) (few-all 256 (length S.edges) z.edges)
      ∙ part-back edge_bytes edge_from 3 edge-size edge-back 768 S.edges (state_bytes S) 2944 shown
      (ap (drop 2944) (append_assoc (header_part S ++ nodes) edges shown) ∙ drop_at (header_part S ++ nodes) (edges ++ shown) 2944 (nodes-front S z))

  shown-back : up_to (few 64 (get_or (state_bytes S) 19 0)) (λ (k : ℕ). credential_from (state_bytes S) (3712 + k * 22)) ≡ S.shown
  unfolding state_bytes header_part part
  shown-back =
      let front : List ℕ = header_part S ++ part 2816 node_bytes S.nodes ++ part 768 edge_bytes S.edges in
      ap (λ (n : ℕ). up_to n (λ (k : ℕ). credential_from (state_bytes S) (3712 + k * 22))) (few-all 64 (length S.shown) z.shown)
      ∙ records-back credential_bytes credential_from 22 credential-size shown-credential-back S.shown (state_bytes S) 3712 _
      (drop_at front (part 1408 credential_bytes S.shown) 3712 (edges-front S z))

  -- a state is the candidate of its bytes
  candidate-back : candidate_of (state_bytes S) ≡ S
  unfolding candidate_of
  candidate-back = λ t. record { header = header-back t; nodes = nodes-back t; edges = edges-back t; shown = shown-back t }

-- every state within the sizes has 5,120 bytes
pub layout-length : (S : State) → within S ≡ true → length (state_bytes S) ≡ 5120
layout-length S h = state-length S (sizes S h)

-- what is written is read back
pub state-back : (S : State) → within S ≡ true → read_state (state_bytes S) ≡ some S
unfolding read_state
state-back S h =
    let s : List ℕ = state_bytes S in
    let c : candidate_of s ≡ S = candidate-back S (sizes S h) in
    (λ t. cond (same_bytes s (state_bytes (c t))) (some (c t)) none) ∙ ap (λ (b : Bool). cond b (some S) none) (same-bytes-refl s)

-- what is read is the candidate, and the bytes are its own
read-state : (s : List ℕ) (S : State) → read_state s ≡ some S → (candidate_of s ≡ S) × (s ≡ state_bytes (candidate_of s))
unfolding read_state
read-state s S h = go (same_bytes s (state_bytes (candidate_of s))) refl h
  where
    go : (b : Bool) → same_bytes s (state_bytes (candidate_of s)) ≡ b → cond b (some (candidate_of s)) none ≡ some S
        → (candidate_of s ≡ S) × (s ≡ state_bytes (candidate_of s))
    go true e k = (cc, same-bytes-eq s (state_bytes (candidate_of s)) e)
    go false e k = absurd (let w : ◌≡◌ {A = ℕ} 0 1 = cc in omega arith)

-- reading succeeds only on the bytes that writing yields
pub state-only : (s : List ℕ) (S : State) → read_state s ≡ some S → s ≡ state_bytes S
state-only s S h = let r = read-state s S h in r.1 ∙ ap state_bytes r.0

-- a state that is read is within the sizes
pub read-within : (s : List ℕ) (S : State) → read_state s ≡ some S → within S ≡ true
read-within s S h = sym (ap within (read-state s S h).0) ∙ candidate-within s
