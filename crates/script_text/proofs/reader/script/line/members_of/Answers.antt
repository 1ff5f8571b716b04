use Rattle.std.proofs.Common.{ap, ◌∙◌}
use Rattle.std.specs.Option.{ok_or}
use Rattle.scan_history.specs.declared.kind.Kind.TheVariants as kind
use Rattle.script_text.proofs.Read.{members_of-read, members_of-syntax, members_of-number}
use Rattle.script_text.proofs.reader.script.line.members_of.Goals as goal

pub returns-in-Some : goal.returns-in-Some
returns-in-Some c =
    members_of-read c.args.line.now c.in-Ok.value c.object_in.result c.in-Ok.ensures c.object_in.ensures ∙ ap (λ o. ok_or o kind.Shape) c.in-Some.is

pub returns-in-None : goal.returns-in-None
returns-in-None c =
    members_of-read c.args.line.now c.in-Ok.value c.object_in.result c.in-Ok.ensures c.object_in.ensures ∙ ap (λ o. ok_or o kind.Shape) c.in-None.is

pub returns-in-Err-Syntax : goal.returns-in-Err-Syntax
returns-in-Err-Syntax c = members_of-syntax c.args.line.now c.read.result c.in-Err-Syntax.field-0 c.read.ensures c.in-Err-Syntax.is c.in-Err-Syntax.field-0-is

pub returns-in-Err-Number : goal.returns-in-Err-Number
returns-in-Err-Number c = members_of-number c.args.line.now c.read.result c.in-Err-Number.field-0 c.read.ensures c.in-Err-Number.is c.in-Err-Number.field-0-is
