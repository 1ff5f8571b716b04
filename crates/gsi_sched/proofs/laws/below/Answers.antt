use Rattle.gsi_sched.proofs.laws.below.Goals as goal

pub returns : goal.returns
returns c =
    record {
      reflexive = c.cover_is_order.ensures.reflexive;
      transitive = c.cover_is_order.ensures.transitive;
      antisymmetric = c.cover_is_order.ensures.antisymmetric;
      tells = c.tests_tell_of_each_vbucket.ensures.covers;
      high_size = c.high_counts.ensures.size;
      high_none = c.high_counts.ensures.none;
      high_grows = c.high_counts.ensures.grows;
      bounds = c.next_numbers.ensures.bounds;
      stream_next = c.next_numbers.ensures.stream;
      reached_next = c.next_numbers.ensures.reached;
      size_next = c.next_numbers.ensures.size;
      stream_back = c.going_back.ensures.stream;
      within_back = c.going_back.ensures.within;
      size_back = c.going_back.ensures.size;
      one_reading = c.texts_are_read_in_one_way.ensures.one;
      one_more = c.one_more.ensures.state;
      legal_more = λ script events e legal may. (c.one_more.ensures.legal script events e).1 (legal, may);
      consistent = c.a_legal_history_is_consistent.ensures;
      served = c.an_index_goes_forth.ensures.served;
      dropped = c.an_index_goes_forth.ensures.dropped;
      made = c.what_is_made_stays.ensures.definition;
      log_grows = c.what_is_made_stays.ensures.mutations;
      first = c.a_first_action_may_follow.ensures;
      within = c.commands_come_in_order.ensures;
      demand_size = c.an_open_request_was_asked_for.ensures.size;
    }
