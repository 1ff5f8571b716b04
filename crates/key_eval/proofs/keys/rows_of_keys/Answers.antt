use Rattle.std.proofs.Common.{◌≡◌, Bool, cond, List, ap, ap₂, ◌∙◌}
use Rattle.std.specs.List.{list_any}
use Rattle.n1ql_value.specs.declared.row.Row.{Row}
use Rattle.n1ql_value.specs.Collation.{row_cmp}
use Rattle.sorted_lists.specs.SortedLists.{sort_of}
use Rattle.index_def.specs.Keys.{is_distinct, once_if, rows_of_tuples}
use Rattle.key_eval.specs.Neighbours.{neighbours_once}
use Rattle.key_eval.proofs.Kept.{kept_in_order}
use Rattle.key_eval.proofs.keys.rows_of_keys.Goals as goal

pub returns : goal.returns
returns c =
    let distinct : Bool = list_any is_distinct c.args.keys.now in
    let kept : Bool → List Row → List Row = λ b rows. cond b (neighbours_once row_cmp rows) rows in
    let rows = c.in_ok-rows_of_tuples.field-0.items in
    let made : rows ≡ rows_of_tuples _ c.args.id.now = c.in_ok-rows_of_tuples.ensures ∙ ap (λ tuples. rows_of_tuples tuples c.args.id.now) c.in_ok-tuples.ensures in
    c.from_vec.ensures
    ∙ (c.in_ok-rows-2.ensures
    ∙ (ap₂ kept c.has_distinct.ensures c.in_ok-rows.ensures
    ∙ (kept_in_order distinct rows ∙ ap (λ rs. sort_of row_cmp (once_if distinct rs)) made)))
