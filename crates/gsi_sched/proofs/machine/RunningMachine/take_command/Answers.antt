use Rattle.std.proofs.lemmas.Result.{on_ok_weaker}
use Rattle.gsi_sched.proofs.Acting.{happens_next, is_one_ahead}
use Rattle.gsi_sched.proofs.machine.RunningMachine.take_command.Goals as goal

pub begin_command-requires : goal.begin_command-requires
begin_command-requires c = record { following = c.requires.following; client = c.requires.client; idle = c.requires.idle }

pub follow-requires : goal.follow-requires
follow-requires c = is_one_ahead c.args.self.now c.args.c c.known.ensures c.begin_command.new.self c.requires.following c.in_ok-begin_command.ensures

pub returns : goal.returns
returns c =
    on_ok_weaker c.follow.result
    (λ done. happens_next c.args.self.now c.args.c c.begin_command.new.self c.follow.new.self c.in_ok-begin_command.ensures done)
    c.follow.ensures
