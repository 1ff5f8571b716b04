use Rattle.std.proofs.Common.{◌≡◌, true, false, arith}
use Rattle.std.specs.Arc.{arc_value}
use Rattle.std.proofs.lemmas.Result.{on_ok_weaker}
use Rattle.scan_history.specs.Legal.{waits}
use Rattle.gsi_hub.specs.Past.{state_of, next_command}
use Rattle.gsi_sched.proofs.ShortRequests.{short_request, impatient_acts, may_after, caught_up_acts}
use Rattle.gsi_sched.proofs.machine.RunningMachine.finish_short.Goals as goal

pub returns-then-not-waits : goal.returns-then-not-waits
returns-then-not-waits c =
    let r = c.args.self.now in
    let q = short_request (state_of r.hub) c.args.c c.args.i (arc_value c.args.at) c.requires.request c.requires.short in
    let never : waits (next_command r.hub c.args.c) ≡ false = grind arith in
    on_ok_weaker c.say_not_yet.result
    (impatient_acts c.known.ensures r c.args.c c.args.i (arc_value c.args.at) q c.say_not_yet.new.self never)
    c.say_not_yet.ensures

pub finish_caught_up-requires-clause-may : goal.finish_caught_up-requires-clause-may
finish_caught_up-requires-clause-may c =
    let r = c.args.self.now in
    let q = short_request (state_of r.hub) c.args.c c.args.i (arc_value c.args.at) c.requires.request c.requires.short in
    may_after c.known.ensures r c.args.c c.args.i (arc_value c.args.at) q c.catch_up.new.self c.requires.following c.in_ok-catch_up.ensures

pub returns : goal.returns
returns c =
    let r = c.args.self.now in
    let q = short_request (state_of r.hub) c.args.c c.args.i (arc_value c.args.at) c.requires.request c.requires.short in
    let waited : waits (next_command r.hub c.args.c) ≡ true = grind arith in
    on_ok_weaker c.finish_caught_up.result
    (caught_up_acts c.known.ensures r c.args.c c.args.i (arc_value c.args.at) q c.catch_up.new.self c.finish_caught_up.new.self waited c.in_ok-catch_up.ensures)
    c.finish_caught_up.ensures
