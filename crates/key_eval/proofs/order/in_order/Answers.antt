use Rattle.std.proofs.Common.{Bool, rules}
use Rattle.std.proofs.lemmas.List.Sorted.{answers_always, ranks_by}
use Rattle.std.specs.Ordering.{is_lt}
use Rattle.n1ql_value.specs.declared.row.Row.{Row}
use Rattle.n1ql_value.specs.Collation.{row_cmp}
use Rattle.n1ql_value.proofs.RowLaws.{row_cmp-total}
use Rattle.sorted_lists.proofs.Stable.{sorted_is_sort_of}
use Rattle.key_eval.proofs.order.in_order.Goals as goal

pub returns : goal.returns
returns c =
    let below : Row → Row → Bool = λ a b. is_lt (row_cmp a b) in
    let order = ranks_by row_cmp-total (λ (z : Row). z) in
    sorted_is_sort_of row_cmp-total c.args.rows.items c.sort_by.new.self.items
    (c.in_ok-sort_by.ensures.sorted below order (answers_always _ _ _ (λ f a r g h. search rules)))
    (c.in_ok-sort_by.ensures.stable below order (answers_always _ _ _ (λ f a r g h. search rules)))
