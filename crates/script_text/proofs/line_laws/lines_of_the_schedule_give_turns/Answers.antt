use Rattle.script_text.proofs.LineLaws.{turn-client, turn-project, turn-deliver, turn-first, turn-lose, turn-publish, turn-rewind}
use Rattle.script_text.proofs.line_laws.lines_of_the_schedule_give_turns.Goals as goal

pub returns-clause-client : goal.returns-clause-client
returns-clause-client d n c members e = turn-client n c members e

pub returns-clause-project : goal.returns-clause-project
returns-clause-project d n vb members e = turn-project n vb members e

pub returns-clause-deliver : goal.returns-clause-deliver
returns-clause-deliver d n place index members e f = turn-deliver n place index members e f

pub returns-clause-first : goal.returns-clause-first
returns-clause-first d n index members e f = turn-first n index members e f

pub returns-clause-lose : goal.returns-clause-lose
returns-clause-lose d n place index members e f = turn-lose n place index members e f

pub returns-clause-publish : goal.returns-clause-publish
returns-clause-publish d n index members e = turn-publish n index members e

pub returns-clause-rewind : goal.returns-clause-rewind
returns-clause-rewind d n members entries e = turn-rewind n members entries e
