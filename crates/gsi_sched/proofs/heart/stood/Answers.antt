use Rattle.gsi_sched.proofs.heart.stood.Goals as goal

pub returns : goal.returns
returns c =
    record {
      worker_grows = c.growth.ensures.workers;
      piece_grows = c.pieces_grow.ensures;
      delivery = c.a_delivery_keeps.ensures;
      moves = c.a_delivery_moves.ensures.own;
      stays = c.a_delivery_moves.ensures.others;
      at_zero = c.start.ensures;
      high_size = c.high_counts.ensures.size;
    }
