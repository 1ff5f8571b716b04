use Rattle.gsi_sched.proofs.machine.known.known.Goals as goal

pub returns : goal.returns
returns c = record {
  below = c.below.ensures;
  stood = c.stood.ensures;
  some_read = c.texts_are_read_in_one_way.ensures.some;
  legal_before = c.beginnings.ensures.legal;
  followed = λ script events e legal. ((c.one_more.ensures.legal script events e).0 legal).1;
  asked = c.an_open_request_was_asked_for.ensures.asked;
  answers_stay = c.answers_stay.ensures;
  scans = c.a_scan_is_that_of_the_documents.ensures;
}
