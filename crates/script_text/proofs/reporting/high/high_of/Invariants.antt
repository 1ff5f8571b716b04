use Rattle.std.proofs.Common.{◌≡◌, take}
use Rattle.vb_store.specs.Mutations.{high_of}
use Rattle.script_text.proofs.CountLemmas.{log_of}
use Rattle.script_text.proofs.reporting.high.high_of.Given as goal

abbrev pub invariant-loop-happened : goal.invariant-loop-happened
invariant-loop-happened l = l.high ≡ high_of l.n (log_of (take l.happened-index l.events))
