-- What the rows of a statement, or its groups, give as results.
use Rattle.std.specs.Prelude.{ℕ, suc, pos, Bool, true, List, [], ◌∷◌, ◌++◌, map, codes, Option, Some, None, unwrap_or, if◌then◌else◌}
use Rattle.std.specs.Fmt.{signed_decimal}
use Rattle.std.specs.List.{filter}
use Rattle.std.specs.Option.{option_map_or}
use Rattle.n1ql_value.specs.declared.datum.Datum.{Datum}
use Rattle.n1ql_value.specs.declared.value.Value.{Value}
use Rattle.n1ql_value.specs.declared.value.Value.TheVariants.{Missing}
use Rattle.n1ql_value.specs.Constructors.{object_of}
use Rattle.n1ql_value.specs.Datum.{datum_of}
use Rattle.n1ql_value.specs.Kinds.{is_true, object_in, or_missing}
use Rattle.n1ql_value.specs.Names.{under_name}
use Rattle.n1ql_ast.specs.declared.expr.Expr.{Expr}
use Rattle.n1ql_ast.specs.declared.scope.Scope.{Scope}
use Rattle.n1ql_ast.specs.declared.selection.Selection.{Selection}
use Rattle.n1ql_ast.specs.declared.term.Term.{Term}
use Rattle.n1ql_ast.specs.declared.term.Term.TheVariants.{All, Spread, One}
use Rattle.n1ql_ast.specs.Evaluation.{Environment}
use Rattle.n1ql_ast.specs.FormedSelections.{unnest_names}
use Rattle.n1ql_ast.specs.Names.{name_in}
use Rattle.n1ql_meaning.specs.Groups.{Group, groups_of, is_grouped, value_over}
use Rattle.n1ql_meaning.specs.OrderKeys.{order_key}
use Rattle.n1ql_meaning.specs.Rows.{InputRow}

-- What gives a result, a row or a group: what expressions are evaluated on, the rows of the group where it is one, and the base.
pub record Subject : Type 0 where
  pub env : Environment
  pub group : Option (List Environment)
  pub base : List Datum

abbrev pub value_on : Subject → Expr → Value
value_on s e = value_over s.group e s.env

-- a row by itself
abbrev pub row_alone : InputRow → Subject
row_alone row = record { env = row.env; group = None; base = row.base }

-- what expressions are evaluated on where there is no row: nothing is there to be named
abbrev pub nowhere : Environment
nowhere = record { id = None; doc = Missing; keys = []; bound = [] }

abbrev pub first_of : List InputRow → Environment
first_of [] = nowhere
first_of (row ∷ rows) = row.env

-- a group stands on its first row, by the values of its keys
abbrev pub group_whole : Group → Subject
group_whole g = record { env = first_of g.rows; group = Some (map (λ (row : InputRow). row.env) g.rows); base = g.keys }

-- HAVING is TRUE, or there is none
abbrev pub has : Option Expr → Subject → Bool
has None s = true
has (Some e) s = is_true (value_on s e)

-- the rows, or where the statement is grouped the groups for which HAVING is TRUE
abbrev pub subjects_of : Selection Expr → List InputRow → List Subject
subjects_of q rows = (if is_grouped q then filter (has q.having) (map group_whole (groups_of q.groups rows)) else map row_alone rows)

-- the names that are seen everywhere but in UNNEST
abbrev pub scope_of : Selection Expr → Scope
scope_of q = record { bound = unnest_names q.unnests; alias = q.alias }

-- what a name is bound to
abbrev pub bound_to : List ℕ → Environment → Value
bound_to name env = or_missing (under_name name env.bound)

-- the pairs that a term adds, where its place among the terms is `at`, from 1
abbrev pub pairs_of_term : Selection Expr → Subject → ℕ → Term Expr → List (List ℕ × Datum)
pairs_of_term q s at All = (q.alias, datum_of s.env.doc) ∷ map (λ name. (name, datum_of (bound_to name s.env))) (unnest_names q.unnests)
pairs_of_term q s at (Spread name) = unwrap_or (object_in (value_on s (name_in (scope_of q) name))) []
pairs_of_term q s at (One value name given) = (unwrap_or name (codes "$" ++ signed_decimal (pos at)), datum_of (value_on s value)) ∷ []

abbrev pub pairs_of_terms : Selection Expr → Subject → ℕ → List (Term Expr) → List (List ℕ × Datum)
pairs_of_terms q s at [] = []
pairs_of_terms q s at (t ∷ ts) = pairs_of_term q s at t ++ pairs_of_terms q s (suc at) ts

-- RAW gives the value of its expression. Without it the terms put their pairs into one object, in their order: a name that comes again
-- has the last value that isn't MISSING.
abbrev pub result_of : Selection Expr → Subject → Value
result_of q s = option_map_or (value_on s) q.raw (object_of (pairs_of_terms q s 1 q.terms))

-- A result, the values of the keys of ORDER BY, and the base of what gave it.
pub record PlacedResult : Type 0 where
  pub result : Value
  pub order : List Datum
  pub base : List Datum

abbrev pub placed_result : Selection Expr → Subject → PlacedResult
placed_result q s =
    record { result = result_of q s; order = map (λ o. datum_of (value_on s (order_key q o))) q.orders; base = s.base }
