use Rattle.seq_vector.proofs.Shortness.{first_short-told, first_short-found, first_short-none, first_short-covered, covers-told, covers-found}
use Rattle.seq_vector.proofs.laws.tests_tell_of_each_vbucket.Goals as goal

pub returns-clause-covers : goal.returns-clause-covers
returns-clause-covers c have want = (covers-told have want, covers-found have want)

pub returns-clause-short : goal.returns-clause-short
returns-clause-short c have want vb = (first_short-told have want vb, first_short-found have want vb)

pub returns-clause-none : goal.returns-clause-none
returns-clause-none c have want = (first_short-none have want, first_short-covered have want)
