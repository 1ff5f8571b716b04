use Rattle.std.proofs.Common.{None}
use Rattle.std.proofs.Math.Seq.{map-set}
use Rattle.std.specs.Prelude.{option_map}
use Rattle.std.specs.Arc.{arc_value}
use Rattle.gsi_hub.proofs.newest.drop_newest.Goals as goal

pub returns : goal.returns
returns c = map-set (option_map arc_value) c.args.newest.now.items c.args.i None
