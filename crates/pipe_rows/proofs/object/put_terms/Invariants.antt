use Rattle.std.proofs.Common.{◌≡◌, suc, drop}
use Rattle.std.specs.List.{fold}
use Rattle.n1ql_value.specs.Constructors.{with_given}
use Rattle.n1ql_expr.specs.Scopes.{environment_on}
use Rattle.n1ql_meaning.specs.Results.{pairs_of_terms}
use Rattle.pipe_rows.specs.Pipes.{alone}
use Rattle.pipe_rows.proofs.object.put_terms.Given as goal

abbrev pub invariant-loop-at : goal.invariant-loop-at
invariant-loop-at l = fold with_given l.pairs (pairs_of_terms l.q (alone (environment_on l.env)) (suc l.at) (drop l.at l.terms)) ≡ fold with_given l.initial.pairs (pairs_of_terms l.q (alone (environment_on l.env)) 1 l.terms)
