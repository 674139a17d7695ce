-- The 5,120 bytes of a negotiation, layout number 2 (docs/LAYOUT.md), and what is read from them. Assumes nothing.
use Rattle.std.specs.Prelude.{ℕ, ◌+◌, ◌*◌, ◌-◌, ◌/◌, ◌%◌, Bool, true, false, cond, ◌&&◌, List, [], ◌∷◌, ◌++◌, eqb, leb, length, get_or, replicate}
use Rattle.std.proofs.Math.Option.{Option, none, some}
use Rattle.expression.specs.declared.Credential.{Credential}
use Rattle.expression.specs.Bytes.{number_at, raw_at, raw_bytes}
use Rattle.expression.specs.Form.{raw_of, expression_of}
use Rattle.expression.specs.Credential.{role_at, credential_bytes}
use Rattle.rt0.specs.Pool.{up_to}
use Rattle.graph.specs.declared.Node.{Node}
use Rattle.graph.specs.declared.Edge.{Edge}
use Rattle.negotiation.specs.declared.Header.{Header}
use Rattle.negotiation.specs.State.{State}
use Rattle.numbers.specs.Sizes.{MOST-NODES, MOST-EDGES, MOST-SHOWN}

-- where the nodes, the edges and the credentials shown begin
abbrev pub NODES-AT : ℕ
NODES-AT = 128

abbrev pub EDGES-AT : ℕ
EDGES-AT = 2944

abbrev pub SHOWN-AT : ℕ
SHOWN-AT = 3712

-- Writing

-- layout number 2, side, self, other end, wanted entity and name, end, idle, messages of the mediator and of the requester, node count, edge
-- count, shown count
abbrev pub header_bytes : Header → ℕ → ℕ → ℕ → List ℕ
header_bytes h nodes edges shown =
    2 ∷ h.side ∷ h.own / 256 ∷ h.own % 256 ∷ h.other / 256 ∷ h.other % 256 ∷
    h.wanted.entity / 256 ∷ h.wanted.entity % 256 ∷ h.wanted.name / 256 ∷ h.wanted.name % 256 ∷
    h.end ∷ h.idle ∷ h.messages.mediator / 256 ∷ h.messages.mediator % 256 ∷ h.messages.requester / 256 ∷ h.messages.requester % 256 ∷
    nodes ∷ edges / 256 ∷ edges % 256 ∷ shown ∷ []

-- expression, subject, verifier, state
unfoldable pub node_bytes : Node → List ℕ
node_bytes x = raw_bytes (raw_of x.expression) ++ (x.subject / 256 ∷ x.subject % 256 ∷ x.verifier ∷ x.state ∷ [])

-- kind, parent, child
abbrev pub edge_bytes : Edge → List ℕ
edge_bytes e = e.kind ∷ e.parent ∷ e.child ∷ []

-- bytes of zero
unfoldable pub zeros : ℕ → List ℕ
zeros n = replicate n 0

-- records one after the other
abbrev pub records : {A : Type 0} → (A → List ℕ) → List A → List ℕ
records f [] = []
records f (x ∷ xs) = f x ++ records f xs

-- a part of a size in bytes: records, the unused ones zero
unfoldable pub part : {A : Type 0} → ℕ → (A → List ℕ) → List A → List ℕ
part size f xs = records f xs ++ zeros (size - length (records f xs))

-- the header, zeros up to 127
unfoldable pub header_part : State → List ℕ
header_part S = header_bytes S.header (length S.nodes) (length S.edges) (length S.shown) ++ zeros 108

-- 128 bytes, 128 nodes of 22, 256 edges of 3, 64 credentials of 22
unfoldable pub state_bytes : State → List ℕ
state_bytes S =
    header_part S ++ part (MOST-NODES * 22) node_bytes S.nodes ++ part (MOST-EDGES * 3) edge_bytes S.edges ++ part (MOST-SHOWN * 22) credential_bytes S.shown

-- Reading

abbrev pub header_from : List ℕ → Header
header_from s =
    record {
      side = get_or s 1 0;
      own = number_at s 2;
      other = number_at s 4;
      wanted = role_at s 6;
      end = get_or s 10 0;
      idle = get_or s 11 0;
      messages = record { mediator = number_at s 12; requester = number_at s 14 };
    }

abbrev pub node_from : List ℕ → ℕ → Node
node_from s at =
    record { expression = expression_of (raw_at s at); subject = number_at s (at + 18); verifier = get_or s (at + 20) 0; state = get_or s (at + 21) 0 }

abbrev pub edge_from : List ℕ → ℕ → Edge
edge_from s at = record { kind = get_or s at 0; parent = get_or s (at + 1) 0; child = get_or s (at + 2) 0 }

abbrev pub credential_from : List ℕ → ℕ → Credential
credential_from s at = record { head = role_at s at; body = expression_of (raw_at s (at + 4)) }

-- a count over the size counts as none
unfoldable pub few : ℕ → ℕ → ℕ
few most n = cond (leb n most) n 0

-- the only state whose bytes these may be
unfoldable pub candidate_of : List ℕ → State
candidate_of s =
    record {
      header = header_from s;
      nodes = up_to (few MOST-NODES (get_or s 16 0)) (λ (i : ℕ). node_from s (NODES-AT + i * 22));
      edges = up_to (few MOST-EDGES (number_at s 17)) (λ (j : ℕ). edge_from s (EDGES-AT + j * 3));
      shown = up_to (few MOST-SHOWN (get_or s 19 0)) (λ (k : ℕ). credential_from s (SHOWN-AT + k * 22));
    }

unfoldable pub same_bytes : List ℕ → List ℕ → Bool
same_bytes [] [] = true
same_bytes [] (y ∷ ys) = false
same_bytes (x ∷ xs) [] = false
same_bytes (x ∷ xs) (y ∷ ys) = eqb x y && same_bytes xs ys

-- the state whose bytes these are, if there is one
unfoldable pub read_state : List ℕ → Option State
read_state s = cond (same_bytes s (state_bytes (candidate_of s))) (some (candidate_of s)) none
