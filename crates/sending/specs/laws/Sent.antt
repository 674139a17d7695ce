-- A move as it is sent, by its parts: credentials, then a command (document 01, "The reply"). Assumes nothing.
use Rattle.std.specs.Prelude.{ℕ, ◌≤◌, ◌≡◌, Bool, cond, List, [], ◌∷◌, eqb, replicate}
use Rattle.expression.specs.declared.Credential.{Credential}
use Rattle.expression.specs.declared.Expression.{Expression}
use Rattle.expression.specs.declared.Expression.TheVariants as E
use Rattle.rules.specs.laws.Table.{chosen}
use Rattle.class.specs.declared.Name.{Name}
use Rattle.tables.specs.Lookup.{direct_of}
use Rattle.tables.specs.Public.{Public}
use Rattle.graph.specs.declared.Node.{Node}
use Rattle.message.specs.declared.Command.{Command}
use Rattle.message.specs.declared.Command.TheVariants.{Bring, Join}
use Rattle.moves.specs.declared.Candidate.{Candidate}
use Rattle.moves.specs.declared.Outgoing.{Outgoing}
use Rattle.moves.specs.declared.Preparation.{Preparation}
use Rattle.moves.specs.Initial.{initial_state}
use Rattle.moves.specs.Candidates.{child_number, child_stands}
use Rattle.sending.specs.laws.Unshown.{unshown_of}

-- these credentials go out, then this command
pub record Sends (cs : List Credential) (c : Command) (r : Outgoing) : Type 0 where
  pub shows : chosen r.pool r.on ≡ cs
  pub command : r.command ≡ c
  pub few : r.pool.count ≤ 128

-- "An old child is joined by 0x04", a new one is brought
unfoldable pub command_for : List Name → ℕ → List Node → ℕ → Candidate → Command
command_for names side nodes i w =
    cond (child_stands nodes w)
    (Join (record { kind = w.kind; parent = i; child = child_number nodes w }))
    (Bring (record {
      kind = w.kind;
      parent = i;
      expression = w.expression;
      subject = w.subject;
      state = initial_state names (eqb w.verifier side)
          w.expression;
    }))

-- "only the direct credential is sent, unless shown"
unfoldable pub direct_in : List Credential → ℕ → Expression → List Credential
direct_in shown own (E.Entity a) = []
direct_in shown own (E.Role a) = unshown_of shown (direct_of own a ∷ [])
direct_in shown own (E.Linked a r) = []
direct_in shown own (E.Intersection p) = []
direct_in shown own (E.Goal r) = []

-- "from the own set for that side"
unfoldable pub side_set_of : Public → ℕ → Node → List Credential
side_set_of T side n = cond (eqb n.verifier side) T.issuer_stored T.subject_stored

-- the same by the columns of our tables
unfoldable pub side_chosen : Preparation → Bool → List Credential
side_chosen o ours = cond ours (chosen o.house.issuer (replicate 128 1)) (chosen o.house.subject o.visible)
