use Rattle.std.proofs.lemmas.Result.{on_ok_weaker}
use Rattle.gsi_sched.proofs.Acting.{acts_idle, acts_ended}
use Rattle.gsi_sched.proofs.StagesOfClients.{ended_here, idle_here, builds_here, asks_here, never_picked}
use Rattle.gsi_sched.proofs.machine.RunningMachine.act.Goals as goal

pub stage-requires : goal.stage-requires
stage-requires c = c.requires.client

pub take_command-requires : goal.take_command-requires
take_command-requires c = record {
  following = c.requires.following;
  client = c.requires.client;
  idle = idle_here c.args.self.now c.args.c c.stage.result c.stage.ensures c.in-Idle.is;
}

pub finish_work-requires : goal.finish_work-requires
finish_work-requires c = record {
  following = c.requires.following;
  client = c.requires.client;
  work = builds_here c.args.self.now c.args.c c.stage.result c.stage.ensures c.in-Work.is;
}

pub finish_request-requires : goal.finish_request-requires
finish_request-requires c = record {
  following = c.requires.following;
  client = c.requires.client;
  request = asks_here c.args.self.now c.args.c c.stage.result c.stage.ensures c.in-Started.i c.in-Started.is;
}

pub unreachable-requires : goal.unreachable-requires
unreachable-requires c = never_picked c.args.self.now c.args.c c.stage.result c.stage.ensures c.known.ensures c.requires.following c.in-Picked.i c.in-Picked.is

pub returns-in-Ended : goal.returns-in-Ended
returns-in-Ended c =
    let it = ended_here c.args.self.now c.args.c c.stage.result c.stage.ensures c.in-Ended.is in
    acts_ended c.args.self.now c.args.c it.0 it.1

pub returns-in-Idle : goal.returns-in-Idle
returns-in-Idle c =
    let r = c.args.self.now in
    on_ok_weaker c.take_command.result
    (λ goes. acts_idle r c.args.c c.take_command.new.self (idle_here r c.args.c c.stage.result c.stage.ensures c.in-Idle.is).opened goes)
    c.take_command.ensures

pub returns-in-Work : goal.returns-in-Work
returns-in-Work c = c.finish_work.ensures

pub returns-in-Started : goal.returns-in-Started
returns-in-Started c = c.finish_request.ensures
