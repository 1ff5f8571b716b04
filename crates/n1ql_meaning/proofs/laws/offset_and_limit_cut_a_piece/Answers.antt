use Rattle.n1ql_meaning.proofs.Finishing.{cut_length, cut_piece}
use Rattle.n1ql_meaning.proofs.laws.offset_and_limit_cut_a_piece.Goals as goal

pub returns-clause-piece : goal.returns-clause-piece
returns-clause-piece c = cut_piece

pub returns-clause-long : goal.returns-clause-long
returns-clause-long c = cut_length
