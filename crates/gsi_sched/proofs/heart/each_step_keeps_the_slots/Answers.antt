use Rattle.gsi_sched.proofs.KeptIndexes.{event_keeps, one_changed, given_kept}
use Rattle.gsi_sched.proofs.heart.each_step_keeps_the_slots.Goals as goal

pub returns-clause-event : goal.returns-clause-event
returns-clause-event c script m e slots runs runs_on kept = event_keeps c.below.ensures c.stood.ensures script m e slots runs runs_on kept

pub returns-clause-one : goal.returns-clause-one
returns-clause-one c script m i slot w slots kept own = one_changed c.below.ensures c.stood.ensures script m i slot w slots kept own

pub returns-clause-online : goal.returns-clause-online
returns-clause-online c script m b projected slots kept stands same = given_kept c.below.ensures c.stood.ensures script m b projected slots kept stands same
