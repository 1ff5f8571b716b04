use Rattle.n1ql_parse.proofs.expressions.grammar.+expr_at.Given as goal

abbrev pub decreases-expr_at : goal.decreases-expr_at
decreases-expr_at l = l.fuel
