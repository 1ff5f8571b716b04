use Rattle.std.proofs.Common.{map, if◌then◌else◌}
use Rattle.n1ql_meaning.specs.Finish.{first_of_each, in_order}
use Rattle.n1ql_meaning.specs.Results.{PlacedResult, placed_result, subjects_of}
use Rattle.n1ql_meaning.proofs.Finishing.{cut_most}
use Rattle.n1ql_meaning.proofs.laws.no_more_results_than_the_limit.Goals as goal

pub returns : goal.returns
returns c q rows =
    let rs = map (placed_result q) (subjects_of q rows) in
    cut_most q.limit q.offset (map (λ (r : PlacedResult). r.result) (in_order q.orders (if q.distinct then first_of_each rs else rs)))
