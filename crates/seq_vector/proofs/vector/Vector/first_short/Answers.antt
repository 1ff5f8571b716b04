use Rattle.std.proofs.Common.{sym, arith}
use Rattle.seq_vector.proofs.Shortness.{first_short-found, first_short-covered}
use Rattle.seq_vector.proofs.vector.Vector.first_short.Goals as goal

pub returns-then-get-clause-test : goal.returns-then-get-clause-test
returns-then-get-clause-test c =
    sym (first_short-found c.args.self.now c.args.want.now c.loop-vb.vb (record { within = omega arith; short = omega arith; before = c.loop-vb.invariant }))

pub returns-clause-test : goal.returns-clause-test
returns-clause-test c = sym (first_short-covered c.args.self.now c.args.want.now (λ vb h. c.loop-vb.invariant vb (omega arith)))
