use Rattle.vb_store.proofs.Numbering.{length-high_of, entry-high_of, high_of-next, high_of-le, high_of-grows}
use Rattle.vb_store.proofs.Keeping.{high_of-nil}
use Rattle.vb_store.proofs.laws.high_counts.Goals as goal

pub returns-clause-size : goal.returns-clause-size
returns-clause-size c = length-high_of

pub returns-clause-entries : goal.returns-clause-entries
returns-clause-entries c = entry-high_of

pub returns-clause-none : goal.returns-clause-none
returns-clause-none c = high_of-nil

pub returns-clause-grows : goal.returns-clause-grows
returns-clause-grows c = high_of-grows

pub returns-clause-next : goal.returns-clause-next
returns-clause-next c = high_of-next

pub returns-clause-few : goal.returns-clause-few
returns-clause-few c = high_of-le
