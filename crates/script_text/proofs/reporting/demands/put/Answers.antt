use Rattle.std.proofs.Common.{arith}
use Rattle.script_text.proofs.DemandLemmas.{set_one}
use Rattle.script_text.proofs.reporting.demands.put.Goals as goal

pub returns : goal.returns
returns c = λ d. set_one c.args.demands.now.items c.args.place c.args.demand d (omega (arith, c.requires, c.args.demands.now.ok))
