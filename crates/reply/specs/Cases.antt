-- The marked cases (a) to (j) of document 01: questions, and negotiations by the definitions of reply and take at both ends; (i) and (j) also with
-- names that are not listed (request 2). One table, one computed proof. Assumes nothing.
use Rattle.std.specs.Prelude.{ℕ, zero, suc, Bool, true, false, ◌&&◌, eqb, List, [], ◌∷◌, ◌++◌, length}
use Rattle.expression.specs.declared.Role.{Role}
use Rattle.expression.specs.declared.Credential.{Credential}
use Rattle.expression.specs.declared.Expression.{Expression}
use Rattle.expression.specs.declared.Expression.TheVariants as E
use Rattle.rt0.specs.From.{role_of}
use Rattle.class.specs.declared.Name.{Name}
use Rattle.tables.specs.Tables.{Tables}
use Rattle.negotiation.specs.Layout.{zeros}
use Rattle.negotiation.specs.State.{State, fresh_state}
use Rattle.rt0.specs.Decide.{from?}
use Rattle.applied.specs.Step.{stepped, moved}
use Rattle.legal.specs.Number.{first, legal_number}
use Rattle.applied.specs.After.{after_message}
use Rattle.moves.specs.Carried.{carried}
use Rattle.message.specs.declared.Command.{Command}
use Rattle.reply.specs.Reply.{Replied, reply_in, replied_state, reply_bytes}

abbrev named : ℕ → ℕ → Name
named n c = record { name = n; class = c }

-- "Names 1 class 1, 2 and 3 class 3"
abbrev names : List Name
names = named 1 1 ∷ named 2 3 ∷ named 3 3 ∷ []

-- without those of class 3
abbrev fewer_names : List Name
fewer_names = named 1 1 ∷ []

abbrev ◌←◌ : Role → Expression → Credential
p ← b = record { head = p; body = b }

infix 4 ◌←◌
-- Questions

-- a role, written entity, name
abbrev role : ℕ → ℕ → Expression
role a r = E.Role (role_of a r)

-- an intersection of two roles
abbrev both : Role → Role → Expression
both p q = E.Intersection (record { count = 2; first = p; second = q; third = role_of 0 0; fourth = role_of 0 0 })

abbrev chain : List Credential
chain = (role_of 1 1 ← role 2 2) ∷ (role_of 2 2 ← E.Entity 3) ∷ []

abbrev link : List Credential
link = (role_of 1 1 ← E.Linked (role_of 1 2) 3) ∷ (role_of 2 3 ← E.Entity 4) ∷ []

abbrev meet : List Credential
meet = (role_of 1 1 ← both (role_of 2 2) (role_of 3 3)) ∷ (role_of 2 2 ← E.Entity 4) ∷ []

-- Negotiations

-- "Studio 3 .. has 0x12 3.1←4.3 and 0x13 1.2←3"
abbrev studio : List Name → Tables
studio ns =
    record {
      own = 3;
      names = ns;
      issuer_stored = (role_of 3 1 ← E.Role (role_of 4 3)) ∷ [];
      subject_stored = (role_of 1 2 ← E.Entity 3) ∷ [];
      sensitive = [];
      access = [];
    }

-- "House has 0x13 4.3←2, 4.3 sensitive, Ack 1.2, no AC"; (j) "House without 4.3←2"
abbrev house_of : List Name → List Credential → Tables
house_of ns held =
    record { own = 2; names = ns; issuer_stored = []; subject_stored = held; sensitive = record { role = role_of 4 3; other = role_of 1 2 } ∷ []; access = [] }

abbrev pub house : List Credential → Tables
house held = house_of names held

-- The messages of (i), byte by byte

-- open 3.1; 3.1←4.3; an implication into node 0 from 4.3 of 2; node 0 marked; the end
abbrev pub first_message : List ℕ
first_message =
    2 ∷ 0 ∷ 3 ∷ 0 ∷ 1 ∷ 2 ∷ 1 ∷ 0 ∷ 3 ∷ 0 ∷ 1 ∷ 2 ∷ 0 ∷ 0 ∷ 4 ∷ 0 ∷ 3 ∷ (zeros 12
    ++ (3 ∷ 1 ∷ 0 ∷ 2 ∷ 0 ∷ 0 ∷ 4 ∷ 0 ∷ 3 ∷ (zeros 12 ++ (0 ∷ 2 ∷ 1 ∷ 5 ∷ 0 ∷ 6 ∷ []))))

-- a control edge into node 1 from 1.2 of 3; the end
abbrev pub second_message : List ℕ
second_message = 3 ∷ 6 ∷ 1 ∷ 2 ∷ 0 ∷ 0 ∷ 1 ∷ 0 ∷ 2 ∷ (zeros 12 ++ (0 ∷ 3 ∷ 1 ∷ 6 ∷ []))

-- 1.2←3; an implication into node 2 from 3; node 2 marked; the end
abbrev pub third_message : List ℕ
third_message =
    1 ∷ 0 ∷ 1 ∷ 0 ∷ 2 ∷ 1 ∷ 0 ∷ 0 ∷ 3 ∷ (zeros 14 ++ (3 ∷ 1 ∷ 2 ∷ 1 ∷ 0 ∷ 0 ∷ 3 ∷ (zeros 14 ++ (0 ∷ 3 ∷ 3 ∷ 5 ∷ 2 ∷ 6 ∷ []))))

-- 4.3←2; an implication into node 1 from 2; the end
abbrev pub fourth_message : List ℕ
fourth_message =
    1 ∷ 0 ∷ 4 ∷ 0 ∷ 3 ∷ 1 ∷ 0 ∷ 0 ∷ 2 ∷ (zeros 14 ++ (3 ∷ 1 ∷ 1 ∷ 1 ∷ 0 ∷ 0 ∷ 2 ∷ (zeros 14 ++ (0 ∷ 2 ∷ 3 ∷ 6 ∷ []))))

-- a message as both ends see it: its bytes, whether each of its commands is a legal update at the end that takes it, and the end and the nodes there
-- afterwards
pub record Turn : Type 0 where
  pub bytes : List ℕ
  pub legal : Bool
  pub end : ℕ
  pub nodes : ℕ

abbrev pub turn : List ℕ → ℕ → ℕ → Turn
turn b e n = record { bytes = b; legal = true; end = e; nodes = n }

-- each command is legal where it stands
abbrev all_legal : List Name → ℕ → State → List Command → Bool
all_legal ns s S [] = true
all_legal ns s S (c ∷ cs) = eqb (legal_number ns s S c) 0 && all_legal ns s (stepped S s c) cs

-- what the message leaves at the end that takes it
abbrev taken_state : ℕ → State → List Command → State
taken_state s R cs = after_message s (carried s R cs) (moved cs) false

-- so many messages, the first by the end of tables T in state S to that of U in R, and then in turn
abbrev play : ℕ → Tables → State → Tables → State → List Turn
play zero T S U R = []
play (suc k) T S U R =
    let r : Replied = reply_in T S in
    let A : State = taken_state S.header.side R r.commands in
    record { bytes = reply_bytes r; legal = all_legal U.names S.header.side R r.commands; end = A.header.end; nodes = length A.nodes }
    ∷ play k U A T (replied_state r)

-- "Studio 3 mediates 3.1 for House 2"
abbrev played : List Name → List Credential → List Turn
played ns held = play 4 (studio ns) (fresh_state 0 3 2 (role_of 3 1)) (house_of ns held) (fresh_state 1 2 3 (role_of 0 0))

-- The table

-- "f from e" over credentials; both ends with these names, House with these credentials
pub data Case : Type 0 where
  question : List Credential → Expression → Expression → Case
  negotiation : List Name → List Credential → Case

pub data Outcome : Type 0 where
  answer : Bool → Outcome
  turns : List Turn → Outcome

abbrev pub outcome : Case → Outcome
outcome (question C f e) = answer (from? C f e)
outcome (negotiation ns held) = turns (played ns held)

abbrev pub table : List Case
table =
    question [] (role 1 1) (role 1 1)
    ∷ question [] (role 1 1) (E.Entity 2)
    ∷ question chain (role 1 1) (E.Entity 3)
    ∷ question chain (role 2 2) (role 1 1)
    ∷ question ((role_of 1 2 ← E.Entity 2) ∷ link) (role 1 1) (E.Entity 4)
    ∷ question link (role 1 1) (E.Entity 4)
    ∷ question meet (role 1 1) (E.Entity 4)
    ∷ question ((role_of 3 3 ← E.Entity 4) ∷ meet) (role 1 1) (E.Entity 4)
    ∷ negotiation names ((role_of 4 3 ← E.Entity 2) ∷ [])
    ∷ negotiation names []
    ∷ negotiation fewer_names ((role_of 4 3 ← E.Entity 2) ∷ [])
    ∷ negotiation fewer_names []
    ∷ []
