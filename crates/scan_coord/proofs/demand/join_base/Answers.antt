use Rattle.std.proofs.Common.{sym, ap, ◌∙◌}
use Rattle.seq_vector.specs.Vectors.{join}
use Rattle.scan_coord.specs.declared.demand.Demand.{Demand}
use Rattle.scan_coord.specs.Demands.{base_of}
use Rattle.scan_coord.proofs.Joins.{join_zeros}
use Rattle.scan_coord.proofs.demand.join_base.Goals as goal

-- src/demand.rt:60:1
pub returns-in-NotBounded-clause-joined : goal.returns-in-NotBounded-clause-joined
returns-in-NotBounded-clause-joined c =
    sym (ap (λ (d : Demand). join c.args.want.now (base_of d c.args.session.now c.args.high.now)) c.in-NotBounded.is
    ∙ join_zeros c.args.want.now c.args.high.now c.requires.size)
