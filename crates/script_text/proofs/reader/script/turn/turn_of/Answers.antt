use Rattle.script_text.proofs.ItemBounds.{turn_client, turn_vbucket}
use Rattle.script_text.proofs.reader.script.turn.turn_of.Goals as goal

pub number_below-requires : goal.number_below-requires
number_below-requires c = turn_client c.args.sizes c.args.form c.args.members.now c.in-Client.is c.requires.within

pub number_below-requires-in-Project : goal.number_below-requires-in-Project
number_below-requires-in-Project c = turn_vbucket c.args.sizes c.args.form c.args.members.now c.in-Project.is c.requires.within
