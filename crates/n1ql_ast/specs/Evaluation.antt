-- The value of an expression, by cases on its tree.
use Rattle.std.specs.Prelude.{ℕ, Bool, true, not, drop, List, [], ◌∷◌, map, Option, Some, None, option_map, unwrap_or, if◌then◌else◌, codes}
use Rattle.std.specs.List.{filter, find, list_all, list_any, zip}
use Rattle.n1ql_value.specs.declared.datum.Datum.{Datum}
use Rattle.n1ql_value.specs.declared.datum.Datum.TheVariants as datum
use Rattle.n1ql_value.specs.declared.value.Value.{Value}
use Rattle.n1ql_value.specs.declared.value.Value.TheVariants.{Missing, Array, Object}
use Rattle.n1ql_value.specs.declared.value.Value.TheVariants as value
use Rattle.n1ql_value.specs.Datum.{datum_of, value_of as value_at}
use Rattle.n1ql_value.specs.Names.{under_name}
use Rattle.n1ql_value.specs.Collation.{key_at}
use Rattle.n1ql_value.specs.Kinds.{is_missing, is_true, array_in, or_null, or_missing}
use Rattle.n1ql_value.specs.Tables.{on_kind}
use Rattle.n1ql_value.specs.Logic.{not_of}
use Rattle.n1ql_value.specs.Comparison.{in_of, between_of, null_test, missing_test, valued_test}
use Rattle.n1ql_value.specs.Arithmetic.{negation_of}
use Rattle.n1ql_value.specs.Operators.{operation_of}
use Rattle.n1ql_value.specs.Paths.{field_of, place_of}
use Rattle.n1ql_value.specs.Constructors.{array_of, object_of}
use Rattle.n1ql_value.specs.FunctionValues.{call_of}
use Rattle.n1ql_ast.specs.declared.expr.Expr.{Expr, fold-Expr}
use Rattle.n1ql_ast.specs.declared.expr.Expr.TheOpen.{Expr-F}
use Rattle.n1ql_ast.specs.declared.test.Test.{Test}
use Rattle.n1ql_ast.specs.declared.test.Test.TheVariants as test

-- What an expression is evaluated on: the id of a document, or none where there is no document; the document; the key values
-- of a row of an index, where the row stands for the document; and the bound names with their values, the innermost first.
pub record Environment : Type 0 where
  pub id : Option (List ℕ)
  pub doc : Value
  pub keys : List Datum
  pub bound : List (List ℕ × Value)

-- the environment of a document, with no name bound
abbrev pub on_document : List ℕ → Value → List Datum → Environment
on_document id doc keys = record { id = Some id; doc = doc; keys = keys; bound = [] }

-- the environment inside what binds a name, and the one outside of the innermost binding
abbrev pub inside : List ℕ → Value → Environment → Environment
inside name v env = record { id = env.id; doc = env.doc; keys = env.keys; bound = (name, v) ∷ env.bound }

abbrev pub outside : Environment → Environment
outside env = record { id = env.id; doc = env.doc; keys = env.keys; bound = drop 1 env.bound }

-- META of a document, the object of its id
abbrev pub meta_of : List ℕ → Value
meta_of id = Object ((codes "id", datum.Text id) ∷ [])

-- what IS gives
abbrev pub test_of : Test → Value → Value
test_of test.Null v = null_test v
test_of test.Missing v = missing_test v
test_of test.Valued v = valued_test v

-- the value of the first THEN whose WHEN is TRUE
abbrev pub first_case : List Value → List Value → Option Value
first_case whens thens = option_map (λ (p : Value × Value). p.1) (find (λ (p : Value × Value). is_true p.0) (zip whens thens))

-- of the elements of an array; MISSING of MISSING, and NULL of what is no array
abbrev pub over_elements : (List Value → Value) → Value → Value
over_elements f v = on_kind array_in (λ ds. f (map value_at ds)) v

-- the elements of an array of those values that aren't MISSING
abbrev pub elements_given : List Value → List Datum
elements_given vs = map datum_of (filter (λ v. not (is_missing v)) vs)

-- the values of several parts
abbrev pub values_in : List (Environment → Value) → Environment → List Value
values_in xs env = map (λ x. x env) xs

-- the value of a part with a name bound to an element
abbrev pub value_at_element : (Environment → Value) → List ℕ → Environment → Value → Value
value_at_element x name env v = x (inside name v env)

-- whether an element passes WHEN: each does where there is none
abbrev pub passes : Option (Environment → Value) → List ℕ → Environment → Value → Bool
passes None name env v = true
passes (Some when) name env v = is_true (when (inside name v env))

-- one level of an expression in an environment, given what its parts are in each environment
abbrev pub level_in : Expr-F (Environment → Value) → Environment → Value
level_in (Expr-F.Const v) env = v
level_in Expr-F.Doc env = env.doc
level_in (Expr-F.MetaOf own) env = (if own then or_missing (option_map meta_of env.id) else Missing)
level_in (Expr-F.Var name) env = or_missing (under_name name env.bound)
level_in (Expr-F.Key at) env = value_at (key_at env.keys at)
level_in (Expr-F.Field x name) env = field_of name (x env)
level_in (Expr-F.Place x at) env = place_of (x env) (at env)
level_in (Expr-F.Not x) env = not_of (x env)
level_in (Expr-F.Neg x) env = negation_of (x env)
level_in (Expr-F.Two op x y) env = operation_of op (x env) (y env)
level_in (Expr-F.Is test x) env = test_of test (x env)
level_in (Expr-F.Among x y) env = in_of (x env) (y env)
level_in (Expr-F.Between x low high) env = between_of (x env) (low env) (high env)
level_in (Expr-F.Call fun xs) env = call_of fun (map datum_of (values_in xs env))
level_in (Expr-F.List xs) env = array_of (map datum_of (values_in xs env))
level_in (Expr-F.Build names xs) env = object_of (zip names (map datum_of (values_in xs env)))
level_in (Expr-F.Case whens thens other) env =
    unwrap_or (first_case (values_in whens env) (values_in thens env)) (or_null (option_map (λ x. x env) other))
level_in (Expr-F.Any name over test) env =
    over_elements (λ vs. value.Bool (list_any (passes (Some test) name env) vs)) (over env)
level_in (Expr-F.Every name over test) env =
    over_elements (λ vs. value.Bool (list_all (passes (Some test) name env) vs)) (over env)
level_in (Expr-F.Each name item over when) env =
    over_elements (λ vs. Array (elements_given (map (value_at_element item name env) (filter (passes when name env) vs)))) (over env)
level_in (Expr-F.First name item over when) env =
    over_elements (λ vs. or_missing (option_map (value_at_element item name env) (find (passes when name env) vs))) (over env)
-- outside of a group: what aggregates are of a group's rows is said where groups are
level_in (Expr-F.Agg agg x) env = Missing

-- the value of an expression in an environment
abbrev pub value_of : Expr → Environment → Value
value_of = fold-Expr (Environment → Value) level_in
