use Rattle.std.proofs.Common.{◌≡◌, map}
use Rattle.n1ql_value.specs.Datum.{datum_of}
use Rattle.pipe_rows.specs.declared.out.Out.{Out}
use Rattle.pipe_rows.proofs.finishing.results.Given as goal

abbrev pub invariant-loop-out : goal.invariant-loop-out
invariant-loop-out l = l.values ≡ map (λ (o : Out). datum_of o.result) l.yielded
