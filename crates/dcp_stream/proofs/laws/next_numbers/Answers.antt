use Rattle.dcp_stream.proofs.Advancing.{bounds_hold, stream_on, reached_on, advanced-size}
use Rattle.dcp_stream.proofs.laws.next_numbers.Goals as goal

pub returns-clause-bounds : goal.returns-clause-bounds
returns-clause-bounds c = λ high most vb s b is reached within some e. bounds_hold high most vb s is reached within b some e

pub returns-clause-stream : goal.returns-clause-stream
returns-clause-stream c = stream_on

pub returns-clause-reached : goal.returns-clause-reached
returns-clause-reached c = reached_on

pub returns-clause-size : goal.returns-clause-size
returns-clause-size c = advanced-size
