-- DISTINCT, ORDER BY, OFFSET and LIMIT.
use Rattle.std.specs.Prelude.{ℕ, Bool, not, List, [], ◌∷◌, map, take, drop, Option, if◌then◌else◌}
use Rattle.std.specs.List.{filter}
use Rattle.std.specs.Option.{option_map_or}
use Rattle.std.specs.Ordering.{ordering_then}
use Rattle.std.specs.declared.cmp.Ordering.{Ordering}
use Rattle.std.specs.declared.cmp.Ordering.TheVariants.{Equal}
use Rattle.n1ql_value.specs.declared.datum.Datum.{Datum}
use Rattle.n1ql_value.specs.declared.value.Value.{Value}
use Rattle.n1ql_value.specs.Collation.{key_at, value_cmp}
use Rattle.sorted_lists.specs.SortedLists.{sort_of}
use Rattle.n1ql_ast.specs.declared.expr.Expr.{Expr}
use Rattle.n1ql_ast.specs.declared.order.Order.{Order}
use Rattle.n1ql_ast.specs.declared.selection.Selection.{Selection}
use Rattle.n1ql_ast.specs.Equality.{same_value}
use Rattle.n1ql_meaning.specs.Results.{PlacedResult}
use Rattle.n1ql_meaning.specs.Rows.{base_cmp}

-- two results are equal by the order of values
abbrev pub is_same_result : PlacedResult → PlacedResult → Bool
is_same_result a b = same_value a.result b.result

-- DISTINCT: of equal results the first
abbrev pub first_of_each : List PlacedResult → List PlacedResult
first_of_each [] = []
first_of_each (r ∷ rs) = r ∷ filter (λ other. not (is_same_result r other)) (first_of_each rs)

-- DESC turns the order of values round
abbrev pub directed_cmp : Bool → Datum → Datum → Ordering
directed_cmp desc x y = (if desc then value_cmp y x else value_cmp x y)

-- by the keys of ORDER BY in turn
abbrev pub orders_cmp : List (Order Expr) → List Datum → List Datum → Ordering
orders_cmp [] xs ys = Equal
orders_cmp (o ∷ os) xs ys = ordering_then (directed_cmp o.desc (key_at xs 0) (key_at ys 0)) (orders_cmp os (drop 1 xs) (drop 1 ys))

-- the order of results: by the keys of ORDER BY, and then by their bases
abbrev pub placed_cmp : List (Order Expr) → PlacedResult → PlacedResult → Ordering
placed_cmp os a b = ordering_then (orders_cmp os a.order b.order) (base_cmp a.base b.base)

abbrev pub in_order : List (Order Expr) → List PlacedResult → List PlacedResult
in_order os rs = sort_of (placed_cmp os) rs

-- OFFSET leaves out so many from the front, and then LIMIT keeps so many
abbrev pub cut : Option ℕ → ℕ → List Value → List Value
cut limit offset vs = option_map_or (λ n. take n (drop offset vs)) limit (drop offset vs)

-- the results of a statement, given what its rows or groups give, by their bases
abbrev pub finished : Selection Expr → List PlacedResult → List Value
finished q rs =
    cut q.limit q.offset (map (λ (r : PlacedResult). r.result) (in_order q.orders (if q.distinct then first_of_each rs else rs)))
