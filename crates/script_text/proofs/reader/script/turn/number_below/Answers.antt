use Rattle.std.proofs.Common.{◌≤◌, arith}
use Rattle.script_text.specs.Members.{value_at}
use Rattle.script_text.specs.Rows.{spelling}
use Rattle.script_text.proofs.ItemBounds.{number_most}
use Rattle.script_text.proofs.reader.script.turn.number_below.Goals as goal

pub overflow_cast-result : goal.overflow_cast-result
overflow_cast-result c =
    let few : c.count_at.result ≤ c.args.end = rw c.count_at.ensures (number_most c.args.end (value_at (spelling c.args.name) c.args.members.now) c.requires) in
    omega (arith, few, c.ranges.end.fits)
