use Rattle.std.proofs.Common.{min, refl, arith}
use Rattle.seq_vector.proofs.PointwiseLemmas.{length-pointwise, get_or-pointwise}
use Rattle.seq_vector.proofs.laws.meet_is_greatest.Goals as goal

pub returns-clause-size : goal.returns-clause-size
returns-clause-size c = length-pointwise min

pub returns-clause-entries : goal.returns-clause-entries
returns-clause-entries c = λ v w vb e. get_or-pointwise min v w vb refl e

pub returns-clause-under_first : goal.returns-clause-under_first
returns-clause-under_first c = λ v w e vb h. omega (arith, get_or-pointwise min v w vb refl e)

pub returns-clause-under_second : goal.returns-clause-under_second
returns-clause-under_second c = λ v w e vb h. omega (arith, get_or-pointwise min v w vb refl e)

pub returns-clause-greatest : goal.returns-clause-greatest
returns-clause-greatest c = λ v w u e a b vb h. omega (arith, length-pointwise min v w e, get_or-pointwise min v w vb refl e, a vb, b vb)
