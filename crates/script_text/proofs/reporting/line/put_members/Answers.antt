use Rattle.script_text.specs.inner.ReportMembers.{written}
use Rattle.script_text.proofs.LineLemmas.{item_more}
use Rattle.script_text.proofs.reporting.line.put_members.Goals as goal

pub loop-at-preserved : goal.loop-at-preserved
loop-at-preserved c =
    item_more written c.args.members.now c.loop-at.at c.index-members-at.result c.args.out.now.items c.loop-at.out.items c.separate.new.out.items c.put_member.new.out.items c.loop-at-test.true c.index-members-at.is c.loop-at.invariant c.in_ok-separate.ensures c.in_ok-put_member.ensures
