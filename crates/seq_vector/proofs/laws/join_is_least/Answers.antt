use Rattle.std.proofs.Common.{max, refl, arith}
use Rattle.seq_vector.proofs.PointwiseLemmas.{length-pointwise, get_or-pointwise}
use Rattle.seq_vector.proofs.laws.join_is_least.Goals as goal

pub returns-clause-size : goal.returns-clause-size
returns-clause-size c = length-pointwise max

pub returns-clause-entries : goal.returns-clause-entries
returns-clause-entries c = λ v w vb e. get_or-pointwise max v w vb refl e

pub returns-clause-covers_first : goal.returns-clause-covers_first
returns-clause-covers_first c = λ v w e vb h. omega (arith, get_or-pointwise max v w vb refl e)

pub returns-clause-covers_second : goal.returns-clause-covers_second
returns-clause-covers_second c = λ v w e vb h. omega (arith, get_or-pointwise max v w vb refl e)

pub returns-clause-least : goal.returns-clause-least
returns-clause-least c = λ v w u e a b vb h. omega (arith, length-pointwise max v w e, get_or-pointwise max v w vb refl e, a vb, b vb)
