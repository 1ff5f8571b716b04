use Rattle.std.proofs.Common.{codes}
use Rattle.n1ql_ast.specs.declared.ddl.Ddl.TheVariants as ddl
use Rattle.scan_history.specs.Fold.{state_after}
use Rattle.scan_history.specs.Readings.{reads}
use Rattle.scan_history.proofs.StatementReading.{create_on}
use Rattle.scan_history.proofs.ToldStatements.{creates, removes}
use Rattle.scan_history.proofs.Told as told
use Rattle.scan_history.proofs.laws.the_told_history_is_legal_and_finished.Goals as goal

pub returns-clause-legal : goal.returns-clause-legal
returns-clause-legal c read are =
    let told_as = c.texts_are_read_in_one_way.ensures.told read are in
    told.legal read
    (told_as (codes "CREATE INDEX ix ON ks(x)") (reads (ddl.Create (create_on 120))) creates)
    (told_as (codes "DROP INDEX ix ON ks") (reads (ddl.Remove (codes "ks") (codes "ix"))) removes)

pub returns-clause-finished : goal.returns-clause-finished
unfolding state_after
returns-clause-finished c = told.finished
