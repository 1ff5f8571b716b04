use Rattle.seq_vector.specs.Vectors.{entry}
use Rattle.vb_store.specs.Mutations.{high_of}
use Rattle.dcp_stream.specs.Streams.{next_bounds}
use Rattle.dcp_stream.specs.Pieces.{marker_start}
use Rattle.dcp_stream.proofs.Advancing.{told, told_after}
use Rattle.dcp_stream.proofs.laws.numbers_decide.Goals as goal

pub returns-clause-next : goal.returns-clause-next
returns-clause-next c n log most vb m =
    told log (marker_start (entry m.stream.at vb) (entry m.stream.ends vb) (entry m.began vb)) (next_bounds (high_of n log) most vb m.stream)

pub returns-clause-after : goal.returns-clause-after
returns-clause-after c n log most vb m =
    told_after log (marker_start (entry m.stream.at vb) (entry m.stream.ends vb) (entry m.began vb)) (next_bounds (high_of n log) most vb m.stream) m
