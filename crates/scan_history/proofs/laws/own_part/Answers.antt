use Rattle.std.proofs.lemmas.Bool.{cond-true}
use Rattle.vb_store.specs.Mutations.{high_of}
use Rattle.scan_history.specs.Fold.{is_of, own_step}
use Rattle.scan_history.proofs.laws.own_part.Goals as goal

pub returns : goal.returns
returns c n s e d is = cond-true (is_of d e) (own_step (high_of n s.log) (s.client d) e) (s.client d) is
