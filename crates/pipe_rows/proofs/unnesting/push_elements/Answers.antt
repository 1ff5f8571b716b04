use Rattle.pipe_rows.specs.Pipes.{row_of}
use Rattle.pipe_rows.proofs.Elements.{elements_step}
use Rattle.pipe_rows.proofs.unnesting.push_elements.Goals as goal

pub loop-at-preserved : goal.loop-at-preserved
loop-at-preserved c =
    elements_step c.args.unnest.now.name (row_of c.args.row.now) c.loop-at.at c.index-items-at.result c.in_ok-value.value c.args.items.now
    c.loop-at.made.items c.push.new.self.items c.in_ok-with_element.field-0 _
    c.index-items-at.is c.loop-at-test.true c.in_ok-value.ensures c.in_ok-with_element.ensures c.in_ok-push.ensures.items c.loop-at.invariant
