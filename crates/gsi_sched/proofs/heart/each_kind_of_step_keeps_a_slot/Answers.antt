use Rattle.gsi_sched.proofs.KeptSlots.{grows, begins, sends, loses, delivers, catches_up}
use Rattle.gsi_sched.proofs.heart.each_kind_of_step_keeps_a_slot.Goals as goal

pub returns-clause-grows : goal.returns-clause-grows
returns-clause-grows c n log def more s w numbered kept = grows c.stood.ensures n log def more s w numbered kept

pub returns-clause-begins : goal.returns-clause-begins
returns-clause-begins c n log def i numbered = begins c.stood.ensures n log def i numbered

pub returns-clause-sends : goal.returns-clause-sends
returns-clause-sends c n log def p b s w stands same kept = sends c.stood.ensures n log def p b s w stands same kept

pub returns-clause-loses : goal.returns-clause-loses
returns-clause-loses c n log def place s w kept = loses c.stood.ensures n log def place s w kept

pub returns-clause-delivers : goal.returns-clause-delivers
returns-clause-delivers c n log def place s w kept = delivers c.stood.ensures n log def place s w kept

pub returns-clause-catches_up : goal.returns-clause-catches_up
returns-clause-catches_up c n log def v s w stands own at kept = catches_up c.stood.ensures n log def v s w stands own at kept
