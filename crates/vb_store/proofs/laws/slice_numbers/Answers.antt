use Rattle.vb_store.proofs.Numbering.{slice_of-places}
use Rattle.vb_store.proofs.Slices.{length-slice_of, slice_of-parts, slice_of-above, slice_of-numbers}
use Rattle.vb_store.proofs.laws.slice_numbers.Goals as goal

pub returns-clause-places : goal.returns-clause-places
returns-clause-places c = slice_of-places

pub returns-clause-size : goal.returns-clause-size
returns-clause-size c = length-slice_of

pub returns-clause-parts : goal.returns-clause-parts
returns-clause-parts c = slice_of-parts

pub returns-clause-above : goal.returns-clause-above
returns-clause-above c = slice_of-above

pub returns-clause-numbers : goal.returns-clause-numbers
returns-clause-numbers c = slice_of-numbers
