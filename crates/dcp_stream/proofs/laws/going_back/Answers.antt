use Rattle.dcp_stream.proofs.Lowering.{stream_back, ends_within}
use Rattle.dcp_stream.proofs.laws.going_back.Goals as goal

pub returns-clause-stream : goal.returns-clause-stream
returns-clause-stream c = λ to s same is. stream_back to s (λ vb. c.meet_is_greatest.ensures.entries s.at to vb same) (c.meet_is_greatest.ensures.size s.at to same) is

pub returns-clause-within : goal.returns-clause-within
returns-clause-within c = λ to s same is. ends_within to s (λ vb. c.meet_is_greatest.ensures.entries s.at to vb same) (c.meet_is_greatest.ensures.size s.at to same) is

pub returns-clause-size : goal.returns-clause-size
returns-clause-size c = λ to s same. c.meet_is_greatest.ensures.size s.at to same
