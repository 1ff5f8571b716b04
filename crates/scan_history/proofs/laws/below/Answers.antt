use Rattle.scan_history.proofs.laws.below.Goals as goal

pub returns : goal.returns
returns c =
    record {
      reflexive = c.cover_is_order.ensures.reflexive;
      transitive = c.cover_is_order.ensures.transitive;
      join_size = c.join_is_least.ensures.size;
      join_least = c.join_is_least.ensures.least;
      high_size = c.high_counts.ensures.size;
      high_none = c.high_counts.ensures.none;
      high_grows = c.high_counts.ensures.grows;
      high_next = c.append_changes.ensures.high;
      numbered_next = c.append_changes.ensures.numbered;
    }
