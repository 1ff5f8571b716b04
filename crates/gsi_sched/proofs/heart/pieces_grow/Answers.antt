use Rattle.gsi_sched.proofs.heart.pieces_grow.Goals as goal

pub returns : goal.returns
returns c = c.growth.ensures
