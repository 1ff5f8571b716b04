use Rattle.std.proofs.Common.{ap, sym, ◌∙◌}
use Rattle.std.proofs.lemmas.Iterator.Adapters.{YieldsList-from_vec}
use Rattle.std.proofs.lemmas.Iterator.Consumers.{YieldsList-end}
use Rattle.std.proofs.lemmas.List.{map-id}
use Rattle.script_text.specs.Scripts.{lists_of, schedule_of}
use Rattle.script_text.proofs.Lists.{lists_of-more, schedule_of-more, schedule_of-none}
use Rattle.script_text.proofs.reader.script.lists.lists_of.Goals as goal

pub items-init : goal.items-init
items-init c = (c.in_ok-lists.ensures, schedule_of-none c.new-schedule.result c.new-schedule.ensures)

pub items-preserved : goal.items-preserved
items-preserved c = (
  lists_of-more c.args.clients c.items.yielded c.in-Some.item c.items.lists.items c.add.new.lists.items c.items.invariant.0 c.in_ok-add.ensures.commands,
  schedule_of-more c.items.yielded c.in-Some.item c.items.schedule c.add.new.schedule c.items.invariant.1 c.in_ok-add.ensures.schedule,
)

pub returns-clause-commands : goal.returns-clause-commands
returns-clause-commands c =
    let into = c.into_iter-item-iterator.ensures.into_iter_gives in
    let all = YieldsList-from_vec {s = c.into_iter-item-iterator.result} c.into_vec-item-items.result.items into.0 (into.1 ∙ c.into_vec-item-items.result.ok.0) in
    let end = YieldsList-end all c.items.yielded _ c.items.yielded_by c.next.result c.next.new.self c.in-None.is c.next.ensures.steps in
    c.from_vec.ensures ∙ (c.items.invariant.0
    ∙ ap (lists_of c.args.clients) (sym (map-id c.items.yielded) ∙ (end.0 ∙ c.into_vec-item-items.ensures)))

pub returns-clause-schedule : goal.returns-clause-schedule
returns-clause-schedule c =
    let into = c.into_iter-item-iterator.ensures.into_iter_gives in
    let all = YieldsList-from_vec {s = c.into_iter-item-iterator.result} c.into_vec-item-items.result.items into.0 (into.1 ∙ c.into_vec-item-items.result.ok.0) in
    let end = YieldsList-end all c.items.yielded _ c.items.yielded_by c.next.result c.next.new.self c.in-None.is c.next.ensures.steps in
    c.items.invariant.1 ∙ ap schedule_of (sym (map-id c.items.yielded) ∙ (end.0 ∙ c.into_vec-item-items.ensures))
