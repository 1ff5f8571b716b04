use Rattle.std.proofs.Common.{sym, ap, ◌∙◌, arith}
use Rattle.std.specs.Option.{option_copied}
use Rattle.gsi_sched.proofs.Ended.{commands_fit}
use Rattle.gsi_sched.proofs.machine.whole.command_count.Goals as goal

pub overflow_cast-result : goal.overflow_cast-result
overflow_cast-result c =
    let fit = commands_fit c.args.script.now c.requires.sound c.args.c c.in-Some.commands.now (sym c.get.ensures ∙ ap option_copied c.in-Some.is) in
    omega (arith, fit, c.len.ensures)

pub returns-in-Some-clause-fits : goal.returns-in-Some-clause-fits
returns-in-Some-clause-fits c =
    let fit = commands_fit c.args.script.now c.requires.sound c.args.c c.in-Some.commands.now (sym c.get.ensures ∙ ap option_copied c.in-Some.is) in
    omega (arith, fit, c.len.ensures)
