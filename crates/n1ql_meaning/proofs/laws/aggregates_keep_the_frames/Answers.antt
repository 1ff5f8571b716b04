use Rattle.std.proofs.Common.{◌≡◌, length}
use Rattle.std.proofs.lemmas.List.Elements.{recursion_from_All}
use Rattle.n1ql_ast.specs.Evaluation.{Environment}
use Rattle.n1ql_meaning.proofs.Frames.{aggregate_inside, counted}
use Rattle.n1ql_meaning.proofs.laws.aggregates_keep_the_frames.Goals as goal

pub returns-clause-one : goal.returns-clause-one
returns-clause-one c agg x frames base rows h =
    aggregate_inside agg x frames base rows (recursion_from_All (λ (row : Environment). length row.bound ≡ length base.bound) rows h)

pub returns-clause-all : goal.returns-clause-all
returns-clause-all c = counted
