use Rattle.query_run.proofs.Evaluable.{FormLaws, over_evaluable}
use Rattle.query_run.proofs.covered.statements_over_keys_can_be_evaluated.Goals as goal

pub returns : goal.returns
returns c =
    let laws : FormLaws = record { conjuncts = c.conjuncts_are_well_formed.ensures; keys = c.keys_can_be_evaluated.ensures } in
    over_evaluable laws
