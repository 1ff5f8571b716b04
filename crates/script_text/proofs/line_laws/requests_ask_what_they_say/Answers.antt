use Rattle.script_text.proofs.LineLaws.{demand-none, demand-all, demand-own, demand-given, wait-none, wait-told}
use Rattle.script_text.proofs.line_laws.requests_ask_what_they_say.Goals as goal

pub returns-clause-nothing : goal.returns-clause-nothing
returns-clause-nothing c n members e = demand-none n members e

pub returns-clause-all : goal.returns-clause-all
returns-clause-all c n members e = demand-all n members e

pub returns-clause-own : goal.returns-clause-own
returns-clause-own c n members e at = demand-own n members e at

pub returns-clause-given : goal.returns-clause-given
returns-clause-given c n members entries e at = demand-given n members entries e at

pub returns-clause-waits : goal.returns-clause-waits
returns-clause-waits c n members e = wait-none n members e

pub returns-clause-as_told : goal.returns-clause-as_told
returns-clause-as_told c n members wait e = wait-told n members wait e
