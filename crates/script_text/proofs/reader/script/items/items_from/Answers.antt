use Rattle.script_text.proofs.Items.{items_from-first, items_from-turn}
use Rattle.script_text.proofs.reader.script.items.items_from.Goals as goal

pub lines-init : goal.lines-init
lines-init c = items_from-first c.args.sizes c.args.lines c.into_iter-line-iterator.result c.new-items.result c.new-items.ensures c.into_iter-line-iterator.ensures.into_iter_gives

pub lines-preserved : goal.lines-preserved
lines-preserved c =
    items_from-turn _ c.args.sizes c.lines.items c.push.new.self (c.in-Some.line.number, c.in-Some.line.bytes.now)
    c.lines.line-iterator c.next.new.self c.in-Ok.item c.lines.invariant c.in-Some.ensures.steps c.in-Ok.ensures c.in_ok-push-in-Ok.ensures.ok
