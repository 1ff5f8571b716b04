use Rattle.std.proofs.Common.{[], ap, ◌∙◌, arith}
use Rattle.script_text.specs.Scripts.{lists_of}
use Rattle.script_text.proofs.Lists.{lists_of-no_clients, lists_of-client_more}
use Rattle.script_text.proofs.reader.script.lists.empty_lists.Goals as goal

pub lists-init : goal.lists-init
lists-init c = lists_of-no_clients c.new-lists.result.items c.new-lists.ensures.items

pub lists-preserved : goal.lists-preserved
lists-preserved c = lists_of-client_more c.lists.counter c.lists.lists.items c.push.new.self.items c.new.result c.lists.invariant c.new.ensures c.in_ok-push.ensures.items

pub returns : goal.returns
returns c = c.lists.invariant ∙ ap (λ n. lists_of n []) (omega arith)
