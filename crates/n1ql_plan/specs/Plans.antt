-- The plan of a statement: the index that answers it, and the spans that are read of it.
use Rattle.std.specs.Prelude.{◌≡◌, ⊤, ℕ, Bool, true, false, not, ◌&&◌, List, map, Option, Some, None, is_some, option_map, if◌then◌else◌}
use Rattle.std.specs.List.{filter, list_any}
use Rattle.std.specs.Option.{option_map_or, option_or}
use Rattle.n1ql_value.specs.declared.state.State.{State}
use Rattle.n1ql_value.specs.declared.state.State.TheVariants.{Online}
use Rattle.n1ql_ast.specs.declared.expr.Expr.{Expr}
use Rattle.n1ql_ast.specs.declared.selection.Selection.{Selection}
use Rattle.n1ql_ast.specs.Conjunction.{conjuncts_in}
use Rattle.index_def.specs.declared.definition.IndexDef.{IndexDef}
use Rattle.index_def.specs.LiveIndexes.{Live, named}
use Rattle.index_def.specs.Reasons.{is_array}
use Rattle.n1ql_spans.specs.Choice.{Candidate, choice_of}
use Rattle.n1ql_spans.specs.Spans.{spans_of}
use Rattle.n1ql_plan.specs.declared.plan_fault.PlanFault.{PlanFault}
use Rattle.n1ql_plan.specs.declared.plan_fault.PlanFault.TheVariants.{Unknown, NotOnline, NoIndex, Memory}
use Rattle.n1ql_plan.specs.declared.query_plan.Plan.{Plan}

abbrev pub is_online : State → Bool
is_online Online = true
is_online _ = false

-- USE INDEX names an index that is live, and online
abbrev pub hint_fault : Option (List ℕ) → List Live → Option PlanFault
hint_fault None live = None
hint_fault (Some name) live =
    option_map_or (λ (index : Live). if is_online index.state then None else Some NotOnline) (named name live) (Some Unknown)

-- An index with an array key has no part in the choice: its rows alone answer no statement.
abbrev pub may_serve : Live → Bool
may_serve index = is_online index.state && not (list_any is_array index.def.keys)

-- the indexes among which is chosen, by number
abbrev pub serving : List Live → List (ℕ × IndexDef)
serving live = map (λ (index : Live). (index.number, index.def)) (filter may_serve live)

-- why a statement has no plan: the first of the three that holds
abbrev pub plan_fault : Selection Expr → List Live → Option PlanFault
plan_fault q live = option_or (hint_fault q.hint live) (if is_some (choice_of q (serving live)) then None else Some NoIndex)

-- what a refusal says; want of memory says nothing
abbrev pub IsRefusalOf : Selection Expr → List Live → PlanFault → Type 0
IsRefusalOf q live Memory = ⊤
IsRefusalOf q live fault = plan_fault q live ≡ Some fault

-- the plan that reads the index of a candidate
abbrev pub plan_with : Selection Expr → Candidate → Plan
plan_with q c =
    record { index = c.number; spans = spans_of (conjuncts_in q.filter) c.def; covered = c.fit.covered; ordered = false }

abbrev pub plan_of : Selection Expr → List Live → Option Plan
plan_of q live = option_map (plan_with q) (choice_of q (serving live))
