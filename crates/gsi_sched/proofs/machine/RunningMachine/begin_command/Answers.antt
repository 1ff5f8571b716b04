use Rattle.std.proofs.Common.{◌∙◌, ap, is_some}
use Rattle.gsi_sched.proofs.FirstCalls.{some_copied, reading_there}
use Rattle.gsi_sched.proofs.machine.RunningMachine.begin_command.Goals as goal

pub command-requires : goal.command-requires
command-requires c = c.requires.client

pub read_command-requires : goal.read_command-requires
read_command-requires c = some_copied c.command.result (ap is_some c.command.ensures ∙ c.requires.idle.more)

pub begin_as-requires : goal.begin_as-requires
begin_as-requires c = record {
  following = c.requires.following;
  client = c.requires.client;
  idle = c.requires.idle;
  reading = reading_there _ _ c.command.ensures c.in_ok-reading.reading c.in_ok-reading.ensures;
}

pub returns : goal.returns
returns c = c.begin_as.ensures
