use Rattle.std.proofs.Common.{inl, arith}
use Rattle.script_text.proofs.Input.{lines-few}
use Rattle.script_text.proofs.reader.script.input.Lines.len.Goals as goal

pub count-requires-clause-fits : goal.count-requires-clause-fits
count-requires-clause-fits c = inl (omega (arith, c.self.invariant, lines-few c.self.inside.number c.self.inside.rest.now))
