use Rattle.script_text.specs.Reports.{end_text}
use Rattle.script_text.proofs.LineLemmas.{item_more}
use Rattle.script_text.proofs.reporting.ends.put_ends.Goals as goal

pub loop-at-preserved : goal.loop-at-preserved
loop-at-preserved c =
    item_more end_text c.args.ends.now c.loop-at.at c.index-ends-at.result c.args.out.now.items c.loop-at.out.items c.separate.new.out.items c.put_end.new.out.items c.loop-at-test.true c.index-ends-at.is c.loop-at.invariant c.in_ok-separate.ensures c.in_ok-put_end.ensures
