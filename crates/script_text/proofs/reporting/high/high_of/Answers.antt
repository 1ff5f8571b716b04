use Rattle.std.proofs.Common.{ap, ◌∙◌, sym, List, ℕ, get_or, take, arith}
use Rattle.std.proofs.lemmas.List.{take_all}
use Rattle.vb_store.specs.Mutations.{high_of}
use Rattle.scan_history.specs.Events.{Event}
use Rattle.script_text.specs.Counts.{counted}
use Rattle.script_text.proofs.CountLemmas.{log_of, counted-more, few_mutations, state_after-log}
use Rattle.std.proofs.lemmas.List.{length-take-le}
use Rattle.script_text.proofs.reporting.high.high_of.Goals as goal

pub loop-happened-init : goal.loop-happened-init
loop-happened-init c = c.in_ok-high.ensures ∙ sym (c.high_counts.ensures.none c.args.n)

pub count-requires : goal.count-requires
count-requires c =
    let i = c.loop-happened.happened-index in
    let some = take i c.args.events.now in
    λ vb. omega (arith, ap (λ (v : List ℕ). get_or v vb 0) c.loop-happened.invariant, c.high_counts.ensures.few c.args.n (log_of some) vb, few_mutations some, length-take-le i c.args.events.now (omega arith), c.loop-happened-test.true)

pub loop-happened-preserved : goal.loop-happened-preserved
loop-happened-preserved c =
    let e : Event = c.happened-item.result in
    counted-more c.args.n (c.high_counts.ensures.next c.args.n) c.args.events.now c.loop-happened.happened-index e c.loop-happened.high c.count.new.high c.loop-happened-test.true c.happened-item.is c.loop-happened.invariant
    (c.count.ensures ∙ ap (counted c.loop-happened.high) c.event.ensures)

pub returns : goal.returns
returns c =
    let all = take_all c.loop-happened.happened-index c.args.events.now (omega arith) in
    c.loop-happened.invariant ∙ (ap (λ (es : List Event). high_of c.args.n (log_of es)) all ∙ ap (high_of c.args.n) (sym (state_after-log c.args.n c.args.events.now)))
