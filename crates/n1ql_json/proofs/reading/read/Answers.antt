use Rattle.std.proofs.lemmas.Bool.{false≢true}
use Rattle.serde_json.specs.View.{view}
use Rattle.n1ql_json.proofs.Outcomes.{gives_read, refused}
use Rattle.n1ql_json.proofs.reading.read.Goals as goal

pub returns-in-Ok : goal.returns-in-Ok
returns-in-Ok c = gives_read c.args.bytes.now (view c.in-Ok.tree) c.value_from.result c.in-Ok.ensures.ok.0 c.in-Ok.ensures.ok.1 c.value_from.ensures.ok c.value_from.ensures.err

pub returns-else-is_memory : goal.returns-else-is_memory
returns-else-is_memory c = refused c.args.bytes.now (c.in-Err.ensures.err (λ h. false≢true (c.if-is_memory.ensures.1 h)))
