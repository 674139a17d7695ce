-- Satisfied, failed and complete nodes (section 4.4, with document 01's change). Assumes nothing.
use Rattle.std.specs.Prelude.{ℕ, ◌<◌, ◌≡◌, ◌⊎◌, Bool, true, ◌||◌, eqb, length}
use mathlib.Core.List.{List, Memᴰ}
use Rattle.expression.specs.declared.Role.{Role}
use Rattle.expression.specs.declared.Parts.{Parts}
use Rattle.expression.specs.declared.Expression.TheVariants as E
use Rattle.rt0.specs.From.{roles_of}
use Rattle.graph.specs.declared.Node.{Node}
use Rattle.graph.specs.declared.Edge.{Edge}
use Rattle.graph.specs.Graph.{node_in}
use Rattle.graph.specs.Form.{is_standard}

-- "Kinds 1 and 4 both bring implication children"
abbrev pub implication_kind : ℕ → Bool
implication_kind k = eqb k 1 || eqb k 4

abbrev pub solution_kind : ℕ → Bool
solution_kind k = eqb k 3

abbrev pub intersection_kind : ℕ → Bool
intersection_kind k = eqb k 5

-- node c is a child of node i by an edge whose kind passes the test
pub record Child (ns : List Node) (es : List Edge) (t : ℕ → Bool) (i c : ℕ) : Type 0 where
  pub kind : ℕ
  pub passes : t kind ≡ true
  pub edge : Memᴰ (record { kind = kind; parent = i; child = c }) es
  pub inside : c < length ns

-- "When a node is both verifier-processed and opponent-processed, we say that it is fully processed"
abbrev pub FullyProcessed : List Node → ℕ → Type 0
FullyProcessed ns i = (node_in ns i).state ≡ 3

-- node c is a child of the intersection target i, for its role a
pub record Part (ns : List Node) (es : List Edge) (i : ℕ) (a : Role) (c : ℕ) : Type 0 where
  pub child : Child ns es intersection_kind i c
  pub role : (node_in ns c).expression ≡ E.Role a

-- A trivial target is satisfied; a standard target where one of its implication children is; an intersection target of k parts "only with
-- all k part edges, each child satisfied, and fully processed".
pub data Satisfied (ns : List Node) (es : List Edge) : ℕ → Type 0 where
  trivial : {i a : ℕ} → (node_in ns i).expression ≡ E.Entity a → Satisfied ns es i
  standard : {i c : ℕ} → is_standard (node_in ns i).expression ≡ true → Child ns es implication_kind i c → Satisfied ns es c → Satisfied ns es i
  intersection : {i : ℕ} {p : Parts} → (node_in ns i).expression ≡ E.Intersection p → FullyProcessed ns i
      → (f : (a : Role) → Memᴰ a (roles_of p) → ℕ)
      → ((a : Role) (m : Memᴰ a (roles_of p)) → Part ns es i a (f a m))
      → ((a : Role) (m : Memᴰ a (roles_of p)) → Satisfied ns es (f a m))
      → Satisfied ns es i

-- A standard target is failed "when it is fully processed and either it has no implication child, or all of its implication children are
-- failed", an intersection target "when one of its children is failed".
pub data Failed (ns : List Node) (es : List Edge) : ℕ → Type 0 where
  failed-standard : {i : ℕ} → is_standard (node_in ns i).expression ≡ true → FullyProcessed ns i
      → ((c : ℕ) → Child ns es implication_kind i c → Failed ns es c)
      → Failed ns es i
  failed-intersection : {i c : ℕ} {p : Parts} → (node_in ns i).expression ≡ E.Intersection p → Child ns es intersection_kind i c → Failed ns es c → Failed ns es i

-- A linking goal is complete "when it is fully processed and all of its linking-solution children are either satisfied or failed".
pub record Complete (ns : List Node) (es : List Edge) (i : ℕ) : Type 0 where
  pub name : ℕ
  pub goal : (node_in ns i).expression ≡ E.Goal name
  pub processed : FullyProcessed ns i
  pub solved : (c : ℕ) → Child ns es solution_kind i c → Satisfied ns es c ⊎ Failed ns es c
