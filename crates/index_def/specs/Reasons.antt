-- Why a statement defines no index.
use Rattle.std.specs.Prelude.{Bool, true, false, not, ◌&&◌, nat_lt, List, [], ◌∷◌, ◌++◌, length, Option, find, codes}
use Rattle.std.specs.List.{filter, flat_map, list_all, list_any, cons_option}
use Rattle.std.specs.Option.{option_map_or}
use Rattle.std.specs.Str.{bytes_eq}
use Rattle.n1ql_value.specs.declared.value.Value.TheVariants as value
use Rattle.n1ql_ast.specs.declared.create.Create.{Create}
use Rattle.n1ql_ast.specs.declared.expr.Expr.{Expr, out-Expr}
use Rattle.n1ql_ast.specs.declared.expr.Expr.TheOpen.{Expr-F}
use Rattle.n1ql_ast.specs.declared.key.Key.{Key}
use Rattle.n1ql_ast.specs.declared.key.Key.TheVariants.{Plain, Each}
use Rattle.index_def.specs.declared.reason.Reason.{Reason}
use Rattle.index_def.specs.declared.reason.Reason.TheVariants.{TooManyKeys, TwoArrays, ConstantKey, MetaAlias, With}
use Rattle.index_def.specs.declared.subject.Subject.TheVariants.{Document, OtherName}
use Rattle.index_def.specs.Mentions.{is_silent_on}

-- a key that has a row for each of several values
abbrev pub is_array : Key → Bool
is_array (Plain e) = false
is_array (Each distinct item var over when) = true

-- the expressions of a key
abbrev pub parts_of : Key → List Expr
parts_of (Plain e) = e ∷ []
parts_of (Each distinct item var over when) = item ∷ over ∷ cons_option when []

-- a key in which neither the document, nor a field of it, nor META of it stands
abbrev pub is_constant : Key → Bool
is_constant key = list_all (is_silent_on Document) (parts_of key)

-- the expressions of a statement
abbrev pub parts_of_create : Create → List Expr
parts_of_create c = flat_map parts_of c.keys ++ cons_option c.filter (cons_option c.options [])

-- TRUE or FALSE, written out
abbrev pub is_truth : Expr-F Expr → Bool
is_truth (Expr-F.Const (value.Bool b)) = true
is_truth _ = false

-- an object in which each name is `defer_build` and each value is TRUE or FALSE, written out
abbrev pub defers : Expr-F Expr → Bool
defers (Expr-F.Build names values) =
    list_all (bytes_eq (codes "defer_build")) names && list_all (λ e. is_truth (out-Expr e)) values
defers _ = false

-- whether a statement has a reason: more than sixteen keys; more than one array key; a constant key; META of another name,
-- wherever it stands; another option than `defer_build` with a truth value
abbrev pub has_reason : Reason → Create → Bool
has_reason TooManyKeys c = nat_lt 16 (length c.keys)
has_reason TwoArrays c = nat_lt 1 (length (filter is_array c.keys))
has_reason ConstantKey c = list_any is_constant c.keys
has_reason MetaAlias c = not (list_all (is_silent_on OtherName) (parts_of_create c))
has_reason With c = not (option_map_or (λ e. defers (out-Expr e)) c.options true)

-- the reasons, in the order in which they are told
abbrev pub reasons : List Reason
reasons = TooManyKeys ∷ TwoArrays ∷ ConstantKey ∷ MetaAlias ∷ With ∷ []

-- the reason that is told, where there is one
abbrev pub first_reason : Create → Option Reason
first_reason c = find (λ reason. has_reason reason c) reasons
