use Rattle.std.proofs.Common.{refl}
use Rattle.script_text.proofs.Rows.{stands_here, stands_later, stands_nowhere}
use Rattle.script_text.proofs.reader.format.shape.stands_in.Goals as goal

pub loop-member-init : goal.loop-member-init
loop-member-init c = refl

pub loop-member-preserved : goal.loop-member-preserved
loop-member-preserved c =
    stands_later c.args.row.now c.loop-member.member-index _ c.args.name.now c.args.value.now c.eq.result c.as_str.result.now
    c.loop-member-test.true c.loop-member.invariant c.if-eq.false c.eq.ensures c.as_str.ensures

pub returns-then-eq : goal.returns-then-eq
returns-then-eq c =
    stands_here c.args.row.now c.loop-member.member-index _ c.args.name.now c.args.value.now c.eq.result c.as_str.result.now c.has.result
    c.loop-member-test.true c.loop-member.invariant c.if-eq.true c.eq.ensures c.as_str.ensures c.has.ensures

pub returns : goal.returns
returns c = stands_nowhere c.args.row.now c.loop-member.member-index c.args.name.now c.args.value.now c.loop-member-test.false c.loop-member.invariant
