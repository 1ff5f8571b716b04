use Rattle.std.proofs.Common.{◌≡◌, ◌∷◌, ◌++◌, option_map, List, ap, ◌∙◌}
use Rattle.serde_json.specs.View.{members_view}
use Rattle.n1ql_value.specs.Datum.{datum_of}
use Rattle.n1ql_json.specs.Reads.{members_read}
use Rattle.n1ql_json.proofs.Members.{Entry, Pair, members_step}
use Rattle.n1ql_json.proofs.reading.+values.Goals as goal

pub pairs_from-loop-name-preserved : goal.pairs_from-loop-name-preserved
pairs_from-loop-name-preserved t c =
    let l = c.loop-name in
    let e : Entry = (c.in-Some.name, c.in-Some.member) in
    let left = c.next.new.self in
    let steps : l.name-iterator ≡ e ∷ left = c.in-Some.ensures.steps in
    members_step c.args.members.entries left l.invariant.0 e l.pairs c.put.new.self c.from_string.result (datum_of c.in_ok-value.value)
    (l.invariant.1 ∙ ap (λ es. l.invariant.0 ++ es) steps) c.into_iter-name-iterator.ensures.into_iter_gives.5 l.invariant.2
    (l.invariant.3 ∙ ap (λ (es : List Entry). option_map (λ (qs : List Pair). l.pairs ++ qs) (members_read (members_view es))) steps)
    c.in_ok-value.ensures.ok c.from_string.ensures c.in_ok-put.ensures.ok
