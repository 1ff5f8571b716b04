use Rattle.std.proofs.Common.{get_or}
use Rattle.std.specs.Prelude.{decimal}
use Rattle.script_text.proofs.LineLemmas.{item_more, same_at}
use Rattle.script_text.proofs.reporting.text.put_items.Goals as goal

pub loop-at-preserved : goal.loop-at-preserved
loop-at-preserved c =
    let i = c.loop-at.at in
    let xs = c.args.numbers.now in
    item_more decimal xs i (get_or xs i 0) c.args.out.now.items c.loop-at.out.items c.separate.new.out.items c.put_decimal.new.out.items c.loop-at-test.true (same_at xs i c.loop-at-test.true) c.loop-at.invariant c.in_ok-separate.ensures c.in_ok-put_decimal.ensures
