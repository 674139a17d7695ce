-- The state in which a new node starts (section 5.2). Assumes nothing.
use Rattle.std.specs.Prelude.{ℕ, Bool, not, cond, ◌&&◌, List, eqb}
use Rattle.expression.specs.declared.Expression.{Expression}
use Rattle.expression.specs.declared.Expression.TheVariants as E
use Rattle.class.specs.declared.Name.{Name}
use Rattle.class.specs.Names.{class_of}

-- "subject-traces-all"
abbrev pub is_subject_all : List Name → ℕ → Bool
is_subject_all ns r = eqb (class_of ns r) 3

-- "if r is subject-traces-all, it is verifier-processed .. otherwise, it is opponent-processed"
unfoldable pub traced : Bool → ℕ
traced subjectAll = cond subjectAll 1 2

-- 1 is verifier-processed, 2 opponent-processed, 3 both; own says whether the node's verifier creates it
unfoldable pub initial_state : List Name → Bool → Expression → ℕ
initial_state ns own (E.Entity a) = 3
initial_state ns own (E.Role a) = traced (is_subject_all ns a.name)
initial_state ns own (E.Linked a r) = traced (is_subject_all ns a.name && is_subject_all ns r)
initial_state ns own (E.Intersection p) = traced (not own)
initial_state ns own (E.Goal r) = 1
