-- Groups of rows, and the value of an expression on a group.
use Rattle.std.specs.Prelude.{ℕ, ◌-◌, Bool, true, false, not, ◌||◌, List, [], ◌∷◌, ◌++◌, length, map, take, Option, Some, None}
use Rattle.std.specs.List.{filter, list_any}
use Rattle.std.specs.Option.{option_map_or}
use Rattle.std.specs.Ordering.{is_eq}
use Rattle.n1ql_value.specs.declared.datum.Datum.{Datum}
use Rattle.n1ql_value.specs.declared.value.Value.{Value}
use Rattle.n1ql_value.specs.declared.value.Value.TheVariants.{Missing}
use Rattle.n1ql_value.specs.Datum.{datum_of}
use Rattle.sorted_lists.specs.SortedLists.{each_once, sort_of}
use Rattle.n1ql_ast.specs.declared.agg.Agg.{Agg}
use Rattle.n1ql_ast.specs.declared.expr.Expr.{Expr, fold-Expr}
use Rattle.n1ql_ast.specs.declared.expr.Expr.TheOpen.{Expr-F}
use Rattle.n1ql_ast.specs.declared.order.Order.{Order}
use Rattle.n1ql_ast.specs.declared.selection.Selection.{Selection}
use Rattle.n1ql_ast.specs.declared.term.Term.{Term}
use Rattle.n1ql_ast.specs.declared.term.Term.TheVariants.{One}
use Rattle.n1ql_ast.specs.Evaluation.{Environment, level_in, value_of}
use Rattle.n1ql_ast.specs.Forms.{has_no_aggregate}
use Rattle.n1ql_meaning.specs.Aggregates.{aggregate_of}
use Rattle.n1ql_meaning.specs.Rows.{InputRow, base_cmp}

-- The variables that ANY, EVERY, ARRAY and FIRST bind around an aggregate: the names of the environment in front of those that each
-- row of the group has itself.
abbrev pub frames_around : Environment → Environment → List (List ℕ × Value)
frames_around row env = take (length env.bound - length row.bound) env.bound

-- another row of the group inside the same frames
abbrev pub on_row : Environment → Environment → Environment
on_row env row = record { id = row.id; doc = row.doc; keys = row.keys; bound = frames_around row env ++ row.bound }

-- the expression of an aggregate on a row; COUNT(*) has none
abbrev pub value_if_any : Option (Environment → Value) → Environment → Value
value_if_any None env = Missing
value_if_any (Some x) env = x env

-- an aggregate on each row of the group, in the frames around it; MISSING where there is no group
abbrev pub over_rows : Option (List Environment) → Agg → Option (Environment → Value) → Environment → Value
over_rows None agg x env = Missing
over_rows (Some rows) agg x env = aggregate_of agg (map (λ row. value_if_any x (on_row env row)) rows)

-- one level of an expression on a group, given what its parts are in each environment
abbrev pub level_over : Option (List Environment) → Expr-F (Environment → Value) → Environment → Value
level_over group (Expr-F.Agg agg x) env = over_rows group agg x env
level_over group level env = level_in level env

-- The value of an expression on a group of rows, where there is one: aggregates are evaluated on its rows, all else in the environment.
abbrev pub value_over : Option (List Environment) → Expr → Environment → Value
value_over group = fold-Expr (Environment → Value) (level_over group)

abbrev pub has_aggregate : Expr → Bool
has_aggregate e = not (has_no_aggregate e)

abbrev pub has_aggregate_in : Term Expr → Bool
has_aggregate_in (One value name given) = has_aggregate value
has_aggregate_in _ = false

abbrev pub has_any : {A : Type 0} → List A → Bool
has_any [] = false
has_any (x ∷ xs) = true

-- it has GROUP BY, or an aggregate in its result or in ORDER BY
abbrev pub is_grouped : Selection Expr → Bool
is_grouped q =
    has_any q.groups || (option_map_or has_aggregate q.raw false ||
    (list_any has_aggregate_in q.terms || list_any (λ (o : Order Expr). has_aggregate o.key) q.orders))

-- A group: the values of its keys, and its rows in order.
pub record Group : Type 0 where
  pub keys : List Datum
  pub rows : List InputRow

-- the values of the keys of GROUP BY on a row
abbrev pub group_keys : List Expr → InputRow → List Datum
group_keys es row = map (λ e. datum_of (value_of e row.env)) es

-- the rows that have these values
abbrev pub group_of : List Expr → List InputRow → List Datum → Group
group_of es rows keys = record { keys = keys; rows = filter (λ row. is_eq (base_cmp keys (group_keys es row))) rows }

-- A group for each list of values that the keys have on some row, in the order of these lists. Without GROUP BY there is one group, of
-- all rows, even of no row.
abbrev pub groups_of : List Expr → List InputRow → List Group
groups_of [] rows = record { keys = []; rows = rows } ∷ []
groups_of (e ∷ es) rows = map (group_of (e ∷ es) rows) (each_once base_cmp (sort_of base_cmp (map (group_keys (e ∷ es)) rows)))
