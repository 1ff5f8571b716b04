use Rattle.std.proofs.Common.{map}
use Rattle.pipe_rows.specs.Pipes.{placed}
use Rattle.pipe_rows.specs.Seen.{has_seen}
use Rattle.pipe_rows.proofs.Firsts.{same_again}
use Rattle.pipe_rows.proofs.distinct.first_of_each.Goals as goal

pub loop-out-preserved : goal.loop-out-preserved
loop-out-preserved c =
    same_again c.order_of_values_is_total.ensures c.distinct_results_differ.ensures.one_more c.loop-out.yielded c.in-Some.out (map placed c.loop-out.kept.items)
    (has_seen c.loop-out.seen) (has_seen c.is_new.new.seen) c.in_ok-is_new.field-0 c.loop-out.invariant c.in_ok-is_new.ensures.new c.if-branch.false c.in_ok-is_new.ensures.seen
