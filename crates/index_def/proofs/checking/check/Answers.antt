use Rattle.std.proofs.Common.{sym, subst}
use Rattle.index_def.specs.Forms.{IsFormed}
use Rattle.index_def.proofs.Formed.{definition_is_formed, statement_defines_formed}
use Rattle.index_def.proofs.checking.check.Goals as goal

pub returns-in-Ok-clause-formed : goal.returns-in-Ok-clause-formed
returns-in-Ok-clause-formed c = λ h. subst IsFormed (sym c.in-Ok.ensures) (definition_is_formed c.args.c.now h)

pub returns-in-Ok-clause-statement : goal.returns-in-Ok-clause-statement
returns-in-Ok-clause-statement c = λ h. subst IsFormed (sym c.in-Ok.ensures) (definition_is_formed c.args.c.now (statement_defines_formed c.args.c.now h))
