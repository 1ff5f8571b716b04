use Rattle.std.proofs.Common.{◌<◌, sym, subst, arith}
use Rattle.scan_history.specs.declared.script.Script.{Script}
use Rattle.gsi_hub.specs.Past.{next_command}
use Rattle.gsi_sched.specs.declared.machine.reading.Reading.TheVariants as reading
use Rattle.gsi_sched.proofs.FirstCalls.{reading_is, text_read, text_formed, text_faults, came, came_after, idle_there, text_there}
use Rattle.gsi_sched.proofs.machine.RunningMachine.begin_as.Goals as goal

pub mutate-requires : goal.mutate-requires
mutate-requires c = record {
  client = c.requires.client;
  idle = c.requires.idle.opened;
  change = reading_is (next_command c.args.self.now.hub c.args.c) c.args.reading.now reading.Change c.in-Change.is c.requires.reading;
}

pub define-requires : goal.define-requires
define-requires c = record {
  client = c.requires.client;
  idle = c.requires.idle.opened;
  text = text_read (next_command c.args.self.now.hub c.args.c) c.args.reading.now c.requires.reading c.in-Statement.read c.in-Statement.is;
  formed = text_formed (next_command c.args.self.now.hub c.args.c) c.args.reading.now c.requires.reading c.in-Statement.read c.in-Statement.is;
}

pub refuse_parse-requires : goal.refuse_parse-requires
refuse_parse-requires c =
    let r = c.args.self.now in
    record {
      client = subst (λ (s : Script). c.args.c < s.clients) (sym c.reserve.ensures.same.script) c.requires.client;
      spare = omega (arith, c.in_ok-reserve-in-Fault.ensures.room);
      idle = idle_there c.known.ensures r c.args.c c.requires.following c.requires.idle c.reserve.new.self c.reserve.ensures.same;
      text = text_there c.known.ensures r c.args.c c.requires.following c.requires.idle c.reserve.new.self c.reserve.ensures.same _ (text_faults (next_command r.hub c.args.c) c.args.reading.now c.requires.reading c.in-Fault.at c.in-Fault.is);
    }

pub start-requires : goal.start-requires
start-requires c = record {
  client = c.requires.client;
  idle = c.requires.idle.opened;
  request = reading_is (next_command c.args.self.now.hub c.args.c) c.args.reading.now reading.Request c.in-Request.is c.requires.reading;
}

pub returns-in_ok-mutate-in-Change : goal.returns-in_ok-mutate-in-Change
returns-in_ok-mutate-in-Change c =
    came c.known.ensures c.args.self.now c.args.c c.requires.following c.requires.idle _ c.mutate.new.self c.in_ok-mutate-in-Change.ensures.ok

pub returns-in_ok-define-in-Statement : goal.returns-in_ok-define-in-Statement
returns-in_ok-define-in-Statement c =
    came c.known.ensures c.args.self.now c.args.c c.requires.following c.requires.idle _ c.define.new.self c.in_ok-define-in-Statement.ensures.ok

pub returns-in_ok-reserve-in-Fault : goal.returns-in_ok-reserve-in-Fault
returns-in_ok-reserve-in-Fault c =
    came_after c.known.ensures c.args.self.now c.args.c c.requires.following c.requires.idle c.reserve.new.self c.reserve.ensures.same _ c.refuse_parse.new.self c.refuse_parse.ensures

pub returns-in_ok-start-in-Request : goal.returns-in_ok-start-in-Request
returns-in_ok-start-in-Request c =
    came c.known.ensures c.args.self.now c.args.c c.requires.following c.requires.idle _ c.start.new.self c.in_ok-start-in-Request.ensures.ok
