-- What the credentials of a pool prove, as the code keeps it: the relation of roles and entities over all of them. Assumes nothing.
use Rattle.std.specs.Prelude.{ℕ, ◌≤◌, ◌≡◌, Bool, List, replicate}
use Rattle.std.proofs.Common.{◌∙◌, ap}
use Rattle.expression.specs.declared.Expression.{Expression}
use Rattle.expression.specs.declared.Credential.{Credential}
use Rattle.rt0.specs.declared.Pool.{Pool}
use Rattle.rt0.specs.laws.Pool.{credentials}
use Rattle.rt0.specs.Decide.{from? as from_of}
use Rattle.closure.specs.declared.Rules.{Rules}
use Rattle.closure.specs.laws.Rules.{rules_of}
use Rattle.rules.specs.laws.Table.{chosen}
use Rattle.rules.specs.laws.Ruled.{Ruled, by-columns}
use Rattle.relation.specs.laws.Relation.{Relation}
use Rattle.relation.specs.laws.Reached.{all-on}

pub record ProvedBy (P : Pool) (R : Rules) (rows : List ℕ) : Type 0 where
  pub few : P.count ≤ 128
  pub ruled : Ruled P R
  pub related : Relation P (replicate 128 1) rows

-- the rules by their columns
pub proved-columns : (P : Pool) (R : Rules) {rows : List ℕ} → ProvedBy P R rows
    → ProvedBy P (rules_of P.count R.words R.head R.part R.first R.named R.src) rows
proved-columns P R k = record { few = k.few; ruled = by-columns P R k.ruled; related = k.related }

-- an answer over all credentials
pub proved-all : (P : Pool) (R : Rules) {rows : List ℕ} (f e : Expression) {r : Bool} → ProvedBy P R rows
    → r ≡ from_of (chosen P (replicate 128 1)) f e → r ≡ from_of (credentials P) f e
proved-all P R f e k h = h ∙ ap (λ (C : List Credential). from_of C f e) (all-on P k.few)
