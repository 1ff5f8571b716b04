-- Whether an index can serve a statement, and how well.
use Rattle.std.specs.Prelude.{Bool, false, not, ◌&&◌, ◌||◌, List, length, slice_get, Option, Some, None, if◌then◌else◌}
use Rattle.std.specs.List.{filter, list_all}
use Rattle.std.specs.Option.{option_map_or}
use Rattle.n1ql_ast.specs.declared.expr.Expr.{Expr}
use Rattle.n1ql_ast.specs.declared.key.Key.{Key}
use Rattle.n1ql_ast.specs.declared.selection.Selection.{Selection}
use Rattle.n1ql_ast.specs.Conjunction.{conjuncts_in}
use Rattle.index_def.specs.declared.definition.IndexDef.{IndexDef}
use Rattle.index_def.specs.Reasons.{is_array}
use Rattle.n1ql_spans.specs.declared.fits.Fit.{Fit}
use Rattle.n1ql_spans.specs.Covering.{covers}
use Rattle.n1ql_spans.specs.Spans.{are_among, bounds_of, has_some}

-- some conjunct bounds the key
abbrev pub is_bounded : List Expr → Key → Bool
is_bounded conjuncts key = has_some (bounds_of conjuncts key)

-- Each conjunct of the filter is one of the statement's, some conjunct bounds the leading key, and some conjunct bounds each array
-- key. A primary index always qualifies.
abbrev pub qualifies : List Expr → IndexDef → Bool
qualifies conjuncts def =
    def.primary
    || (are_among conjuncts def.filter
    && (option_map_or (is_bounded conjuncts) (slice_get def.keys 0) false
    && list_all (λ key. not (is_array key) || is_bounded conjuncts key) def.keys))

-- whether the index covers the statement, and how many of its keys have bounding conjuncts; none where it doesn't qualify
abbrev pub fit_of : Selection Expr → IndexDef → Option Fit
fit_of q def =
    let conjuncts = conjuncts_in q.filter in
    (if qualifies conjuncts def then Some (record { covered = covers q def; ranged = length (filter (is_bounded conjuncts) def.keys) })
    else None)
