use Rattle.gsi_hub.proofs.known.known.Goals as goal

pub returns : goal.returns
returns c = record {
  some_read = c.texts_are_read_in_one_way.ensures.some;
  told = c.texts_are_read_in_one_way.ensures.told;
  others = c.other_clients.ensures.one;
  own = c.own_part.ensures;
  state_next = c.one_more.ensures.state;
  legal_next = λ script events e legal may. (c.one_more.ensures.legal script events e).1 (legal, may);
  first_may = c.a_first_action_may_follow.ensures;
  one_next = c.one_next_event.ensures.next;
  consistent = c.a_legal_history_is_consistent.ensures;
  in_order = c.commands_come_in_order.ensures;
  asked = c.an_open_request_was_asked_for.ensures.asked;
  demand_size = c.an_open_request_was_asked_for.ensures.size;
  within = c.an_open_request_was_asked_for.ensures.within;
  served = c.an_index_goes_forth.ensures.served;
  dropped = c.an_index_goes_forth.ensures.dropped;
  high_size = c.high_counts.ensures.size;
  grows = c.growth.ensures.snapshots;
}
