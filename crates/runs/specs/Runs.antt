-- The calls of a run, what each leaves, and where the tables of two runs differ (document 01, "Two runs"). Assumes nothing.
use Rattle.report.specs.Report.{Report, packed}
use Rattle.reply.specs.Reply.{length_of}
use Rattle.std.specs.Prelude.{ℕ, ◌<◌, ◌≡◌, length}
use mathlib.Core.List.{List, [], ◌∷◌, Memᴰ}
use Rattle.expression.specs.declared.Role.{Role}
use Rattle.expression.specs.declared.Expression.TheVariants as E
use Rattle.record.specs.declared.Pair.{Pair}
use Rattle.tables.specs.Tables.{Tables}
use Rattle.tables.specs.Lookup.{holds, other_of}
use Rattle.graph.specs.Graph.{node_in}
use Rattle.graph.specs.States.{Satisfied}
use Rattle.negotiation.specs.State.{State}
use Rattle.negotiation.specs.Layout.{state_bytes}
use Rattle.take.specs.Take as K
use Rattle.reply.specs.Reply as A
use Rattle.report.specs.Report as B
use Rattle.numbers.specs.Answer.{Answer, refused, accepted, answer_of, no_value, buffer_after}
use Rattle.standing.specs.Buffers.{scratch_left}

-- "its arguments, and what its other buffers hold at its start, belong to the list": a message and the scratch, a reply buffer and the scratch,
-- a node
pub data Call : Type 0 where
  take : List ℕ → List ℕ → Call
  reply : List ℕ → List ℕ → Call
  report : ℕ → Call

-- What a call leaves: its answer, the negotiation, and its other buffers. No call changes the tables.
pub record Left : Type 0 where
  pub answer : ℕ
  pub negotiation : List ℕ
  pub others : List (List ℕ)

-- take leaves its message as it was
unfoldable pub left_by_take : List ℕ → List ℕ → List ℕ → Answer State → Left
left_by_take negotiation message scratch o =
    record { answer = answer_of no_value o; negotiation = buffer_after state_bytes negotiation o; others = message ∷ scratch_left scratch o ∷ [] }

-- "A reply is its length and bytes"
unfoldable pub left_by_reply : List ℕ → List ℕ → List ℕ → Answer (List ℕ × State) → Left
left_by_reply negotiation buffer scratch o =
    record { answer = answer_of length_of o; negotiation = buffer_after A.given_state negotiation o; others = A.reply_left buffer o ∷ scratch_left scratch o ∷ [] }

-- "states and counts are all that report gives"; it changes no buffer
unfoldable pub left_by_report : List ℕ → Answer Report → Left
left_by_report negotiation o = record { answer = answer_of packed o; negotiation = negotiation; others = [] }

-- "Each call is lent its run's tables and negotiation"
unfoldable pub left_by : List ℕ → List ℕ → Call → Left
left_by tables negotiation (take message scratch) = left_by_take negotiation message scratch (K.take_of tables negotiation message scratch)
left_by tables negotiation (reply buffer scratch) = left_by_reply negotiation buffer scratch (A.reply_of tables negotiation buffer scratch)
left_by tables negotiation (report node) = left_by_report negotiation (B.report_of tables negotiation node)

-- what the calls of a list leave, each lent the negotiation that the one before it left
unfoldable pub run : List ℕ → List ℕ → List Call → List Left
run tables negotiation [] = []
run tables negotiation (c ∷ cs) = left_by tables negotiation c ∷ run tables (left_by tables negotiation c).negotiation cs

-- the negotiation that the last of them left
unfoldable pub last_of : List ℕ → List Left → List ℕ
last_of negotiation [] = negotiation
last_of negotiation (x ∷ xs) = last_of x.negotiation xs

-- The graph

-- what a message accepted or a reply given leads to
abbrev pub taken_to : State → Answer State → State
taken_to S (refused k) = S
taken_to S (accepted N) = N

abbrev pub given_to : State → Answer (List ℕ × State) → State
given_to S (refused k) = S
given_to S (accepted (m, N)) = N

unfoldable pub after_call : List ℕ → State → Call → State
after_call tables S (take message scratch) = taken_to S (K.take_of tables (state_bytes S) message scratch)
after_call tables S (reply buffer scratch) = given_to S (A.reply_of tables (state_bytes S) buffer scratch)
after_call tables S (report node) = S

-- "The graph after a call is built by the commands of all messages accepted and replies given so far"
unfoldable pub after : List ℕ → State → List Call → State
after tables S [] = S
after tables S (c ∷ cs) = after tables (after_call tables S c) cs

-- Where the tables differ

-- "A role is held if 0x13 has its direct credential; its access policy is its 0x15 record or none"
pub data Differing (T U : Tables) (r : Role) : Type 0 where
  held : (holds T.own T.subject_stored r ≡ holds U.own U.subject_stored r → ⊥) → Differing T U r
  policy : (other_of T.access r ≡ other_of U.access r → ⊥) → Differing T U r

-- "A role's Ack target is the node there with our end as verifier, its Ack role and the other end as subject; it is satisfied if it stands and
-- propagation satisfies it": that of a role whose Ack role is r
pub record AckSatisfied (S : State) (r : Role) : Type 0 where
  pub node : ℕ
  pub stands : node < length S.nodes
  pub verifier : (node_in S.nodes node).verifier ≡ S.header.side
  pub role : (node_in S.nodes node).expression ≡ E.Role r
  pub subject : (node_in S.nodes node).subject ≡ S.header.other
  pub satisfied : Satisfied S.nodes S.edges node

-- that of no sensitive role in which the tables differ
abbrev pub NoneSatisfied : Tables → Tables → State → Type 0
NoneSatisfied T U S = (p : Pair) → Memᴰ p T.sensitive → Differing T U p.role → AckSatisfied S p.other → ⊥
