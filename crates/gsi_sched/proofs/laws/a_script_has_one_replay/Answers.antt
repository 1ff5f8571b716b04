use Rattle.std.proofs.Common.{ℕ, List, ap}
use mathlib.Core.Path.{fun_ext}
use Rattle.scan_history.specs.Readings.{Read}
use Rattle.gsi_sched.specs.Replay.{history_of}
use Rattle.gsi_sched.proofs.laws.a_script_has_one_replay.Goals as goal

pub returns : goal.returns
returns c read other script are are_too =
    ap (λ (r : List ℕ → Read). history_of r script) (fun_ext (λ text. c.below.ensures.one_reading read other are are_too text))
