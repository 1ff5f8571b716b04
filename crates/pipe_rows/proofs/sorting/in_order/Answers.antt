use Rattle.std.proofs.Common.{◌≡◌, Bool, List, map, refl, ap, ◌∙◌, rules}
use Rattle.std.specs.Cmp.{IsTotalOrder}
use Rattle.std.specs.Ordering.{is_lt, on}
use Rattle.std.specs.declared.cmp.Ordering.{Ordering}
use Rattle.std.proofs.lemmas.Cmp.{on_total}
use Rattle.std.proofs.lemmas.Fn.{answers_by}
use Rattle.std.proofs.lemmas.List.Sorted.{ranks_by}
use Rattle.n1ql_ast.specs.declared.expr.Expr.{Expr}
use Rattle.n1ql_ast.specs.declared.order.Order.{Order}
use Rattle.n1ql_meaning.specs.Finish.{placed_cmp}
use Rattle.pipe_rows.specs.declared.out.Out.{Out}
use Rattle.pipe_rows.specs.Pipes.{placed}
use Rattle.pipe_rows.proofs.Sorted.{map-sort_of}
use Rattle.pipe_rows.proofs.sorting.in_order.Goals as goal

pub returns : goal.returns
returns c =
    let orders : List (Order Expr) = c.args.orders.now in
    let compare : Out → Out → Ordering = on placed (placed_cmp orders) in
    let total : IsTotalOrder compare = on_total placed (c.order_of_results_is_total.ensures orders) in
    let below : Out → Out → Bool = λ a b. is_lt (compare a b) in
    let order = ranks_by total (λ (z : Out). z) in
    ap (map placed) (c.a_stable_sort_is_the_sort.ensures compare total c.args.outs.items c.sort_by.new.self.items
    (c.in_ok-sort_by.ensures.sorted below order (answers_by _ _ (λ f. f.0.now ≡ orders) (λ f a r g h k. (search (rules, k), search (rules, k))) _ refl))
    (c.in_ok-sort_by.ensures.stable below order (answers_by _ _ (λ f. f.0.now ≡ orders) (λ f a r g h k. (search (rules, k), search (rules, k))) _ refl)))
    ∙ map-sort_of placed (placed_cmp orders) c.args.outs.items
