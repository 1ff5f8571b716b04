-- The spans of an index for the conjuncts of WHERE.
use Rattle.std.specs.Prelude.{ℕ, Bool, true, false, ◌&&◌, List, [], ◌∷◌, map, Option, bytes_eq, if◌then◌else◌}
use Rattle.std.specs.List.{filter_map, fold, list_all, list_any}
use Rattle.n1ql_value.specs.declared.range.Range.{Range}
use Rattle.n1ql_ast.specs.declared.expr.Expr.{Expr, out-Expr}
use Rattle.n1ql_ast.specs.declared.expr.Expr.TheOpen.{Expr-F}
use Rattle.n1ql_ast.specs.declared.key.Key.{Key}
use Rattle.n1ql_ast.specs.declared.key.Key.TheVariants.{Plain, Each}
use Rattle.n1ql_ast.specs.Conjunction.{conjuncts_in, conjuncts_of}
use Rattle.n1ql_ast.specs.Equality.{same_tree}
use Rattle.index_def.specs.declared.definition.IndexDef.{IndexDef}
use Rattle.n1ql_spans.specs.RangeAlgebra.{free, hull, meets}
use Rattle.n1ql_spans.specs.Bounding.{bounding}

-- the expression is the same as one of these; and each of several is
abbrev pub is_among : List Expr → Expr → Bool
is_among cs e = list_any (same_tree e) cs

abbrev pub are_among : List Expr → List Expr → Bool
are_among cs es = list_all (is_among cs) es

-- the ranges of each conjunct that bounds an expression
abbrev pub bounds_in : Expr → List Expr → List (List Range)
bounds_in e conjuncts = filter_map (bounding e) conjuncts

-- One level of a conjunct, for an array key: an ANY over the key's array, under its variable, whose condition has each conjunct of
-- the key's WHEN. The conjuncts of its condition bound the key's item.
abbrev pub any_bounds : Expr → List ℕ → Expr → Option Expr → Expr-F Expr → List (List Range)
any_bounds item var over when (Expr-F.Any name array condition) =
    let conjuncts = conjuncts_of condition in
    (if bytes_eq name var && (same_tree array over && are_among conjuncts (conjuncts_in when)) then bounds_in item conjuncts else [])
any_bounds item var over when _ = []

-- the first list with something in it
abbrev pub first_some : {A : Type 0} → List (List A) → List A
first_some [] = []
first_some ([] ∷ lists) = first_some lists
first_some ((x ∷ xs) ∷ lists) = x ∷ xs

-- the first ANY that bounds the item of an array key
abbrev pub array_bounds : Expr → List ℕ → Expr → Option Expr → List Expr → List (List Range)
array_bounds item var over when conjuncts = first_some (map (λ c. any_bounds item var over when (out-Expr c)) conjuncts)

-- the ranges of each bounding conjunct of a key
abbrev pub bounds_of : List Expr → Key → List (List Range)
bounds_of conjuncts (Plain e) = bounds_in e conjuncts
bounds_of conjuncts (Each distinct item var over when) = array_bounds item var over when conjuncts

-- what lies in a range of each; without bounding conjuncts all values do
abbrev pub ranges_of : List Expr → Key → List Range
ranges_of conjuncts key = fold meets (free ∷ []) (bounds_of conjuncts key)

abbrev pub has_some : {A : Type 0} → List A → Bool
has_some [] = false
has_some (x ∷ xs) = true

-- a span for each range of the leading key, in order; of a later key the hull of its ranges
abbrev pub spans_over : List (List Range) → List (List Range)
spans_over [] = []
spans_over (leading ∷ later) = map (λ r. r ∷ map hull later) leading

-- no spans where some key has no range
abbrev pub spans_of : List Expr → IndexDef → List (List Range)
spans_of conjuncts def =
    let ranges = map (ranges_of conjuncts) def.keys in
    (if list_all has_some ranges then spans_over ranges else [])
