use Rattle.std.proofs.Common.{◌≡◌, subst, sym, ap}
use Rattle.std.proofs.lemmas.Result.{IfOk-weaker}
use Rattle.std.specs.List.Sorted.{IsSorted}
use Rattle.n1ql_value.specs.Collation.{row_cmp}
use Rattle.index_tree.specs.inner.Shared.{rows_in}
use Rattle.index_tree.specs.Range.{rows_within}
use Rattle.index_tree.proofs.PlaceLemmas.{IsSorted-rows_within}
use Rattle.index_tree.proofs.frozen.Frozen.range.Goals as goal

pub returns-clause-sorted : goal.returns-clause-sorted
returns-clause-sorted c =
    let same : rows_in c.as_slice.result.now ≡ rows_in c.self.inside.rows.items = ap rows_in c.as_slice.ensures.value in
    let sorted = IsSorted-rows_within c.as_slice-2.result.now (rows_in c.as_slice.result.now) (subst (IsSorted row_cmp) (sym same) c.self.invariant) in
    IfOk-weaker c.rows_held.result (λ held. held ≡ rows_within c.as_slice-2.result.now (rows_in c.as_slice.result.now)) (IsSorted row_cmp)
    (λ held is. subst (IsSorted row_cmp) (sym is) sorted) c.rows_held.ensures
