-- Whether the rows of an index tell all that a statement reads.
use Rattle.std.specs.Prelude.{ℕ, suc, Bool, true, false, not, ◌&&◌, List, [], ◌∷◌, codes, Option, Some, None, option_map, bytes_eq, if◌then◌else◌}
use Rattle.std.specs.List.{filter, filter_map, list_all, list_any}
use Rattle.std.specs.Option.{option_map_or}
use Rattle.n1ql_ast.specs.declared.expr.Expr.{Expr, fold-Expr, map-Expr, roll-Expr}
use Rattle.n1ql_ast.specs.declared.expr.Expr.TheOpen.{Expr-F}
use Rattle.n1ql_ast.specs.declared.expr.Expr.TheVariants as expr
use Rattle.n1ql_ast.specs.declared.key.Key.{Key}
use Rattle.n1ql_ast.specs.declared.key.Key.TheVariants.{Plain, Each}
use Rattle.n1ql_ast.specs.declared.selection.Selection.{Selection}
use Rattle.n1ql_ast.specs.declared.term.Term.{Term}
use Rattle.n1ql_ast.specs.declared.term.Term.TheVariants.{All, Spread, One}
use Rattle.n1ql_ast.specs.Conjunction.{conjuncts_in}
use Rattle.n1ql_ast.specs.Equality.{same_tree}
use Rattle.n1ql_ast.specs.FormedSelections.{unnest_names}
use Rattle.n1ql_ast.specs.Forms.{of_each_part}
use Rattle.index_def.specs.declared.definition.IndexDef.{IndexDef}
use Rattle.index_def.specs.Reasons.{is_array}
use Rattle.n1ql_meaning.specs.OrderKeys.{order_key}
use Rattle.n1ql_spans.specs.Spans.{is_among}

-- META().id
abbrev pub own_id : Expr
own_id = expr.Field (expr.MetaOf true) (codes "id")

-- What is known of an expression: itself, what it is over a row of the index, and whether that reads the row alone.
pub record Covering : Type 0 where
  pub whole : Expr
  pub over : Expr
  pub covered : Bool

-- the expressions of keys that aren't array keys
abbrev pub plain_in : Key → Option Expr
plain_in (Plain e) = Some e
plain_in (Each distinct item var over when) = None

abbrev pub plain_keys : List Key → List Expr
plain_keys keys = filter_map plain_in keys

-- the place of the first key that an expression is the same as
abbrev pub place_among : List Expr → Expr → Option ℕ
place_among [] e = None
place_among (k ∷ ks) e = (if same_tree k e then Some 0 else option_map suc (place_among ks e))

-- One level by itself reads no document and no META of it. A statement reads no row, so none is known for a key in it.
abbrev pub is_on_row : {A : Type 0} → Expr-F A → Bool
is_on_row Expr-F.Doc = false
is_on_row (Expr-F.MetaOf own) = not own
is_on_row (Expr-F.Key at) = false
is_on_row _ = true

-- An expression that is a key, at this place, is read from the row whole. So is META().id, from the row's id. Any other is read
-- part by part.
abbrev pub covering_at : Option ℕ → Expr → Expr-F Covering → Covering
covering_at (Some place) whole l = record { whole = whole; over = expr.Key place; covered = true }
covering_at None whole l =
    (if same_tree own_id whole then record { whole = whole; over = whole; covered = true }
    else record {
      whole = whole;
      over = roll-Expr (map-Expr Covering Expr (λ c. c.over) l);
      covered = is_on_row l && of_each_part (map-Expr Covering Bool (λ c. c.covered) l);
    })

-- the greatest parts first: an expression is tested before its parts
abbrev pub covering_in : List Expr → Expr-F Covering → Covering
covering_in keys l = let whole = roll-Expr (map-Expr Covering Expr (λ c. c.whole) l) in covering_at (place_among keys whole) whole l

abbrev pub covering : List Expr → Expr → Covering
covering keys = fold-Expr Covering (covering_in keys)

-- over the rows of an index with these keys
abbrev pub over_keys : List Expr → Expr → Expr
over_keys keys e = (covering keys e).over

abbrev pub is_covered : List Expr → Expr → Bool
is_covered keys e = (covering keys e).covered

-- `*` reads the document, and so does `name.*` of a name that isn't an UNNEST name
abbrev pub is_covered_term : List Expr → List (List ℕ) → Term Expr → Bool
is_covered_term keys names All = false
is_covered_term keys names (Spread name) = list_any (bytes_eq name) names
is_covered_term keys names (One value name given) = is_covered keys value

-- the conjuncts that are the same as none of a filter's
abbrev pub rest_of : List Expr → List Expr → List Expr
rest_of filter_conjuncts conjuncts = filter (λ c. not (is_among filter_conjuncts c)) conjuncts

-- an expression that there may be
abbrev pub is_covered_if_any : List Expr → Option Expr → Bool
is_covered_if_any keys e = option_map_or (is_covered keys) e true

-- the result of a statement
abbrev pub covers_result : List Expr → Selection Expr → Bool
covers_result keys q = is_covered_if_any keys q.raw && list_all (is_covered_term keys (unnest_names q.unnests)) q.terms

-- its rows, where this is left of the conjuncts of WHERE
abbrev pub covers_rows : List Expr → List Expr → Selection Expr → Bool
covers_rows keys left q = list_all (λ u. is_covered keys u.over) q.unnests && list_all (is_covered keys) left

-- its groups and their order
abbrev pub covers_groups : List Expr → Selection Expr → Bool
covers_groups keys q =
    list_all (is_covered keys) q.groups && (is_covered_if_any keys q.having && list_all (λ o. is_covered keys (order_key q o)) q.orders)

-- Each expression of a statement, whose WHERE has these conjuncts. An index with an array key covers none, and the conjuncts of the
-- filter are taken away.
abbrev pub covers_with : List Expr → Selection Expr → IndexDef → Bool
covers_with conjuncts q def =
    let keys = plain_keys def.keys in
    not (list_any is_array def.keys) && (covers_result keys q && (covers_rows keys (rest_of def.filter conjuncts) q && covers_groups keys q))

abbrev pub covers : Selection Expr → IndexDef → Bool
covers q def = covers_with (conjuncts_in q.filter) q def
