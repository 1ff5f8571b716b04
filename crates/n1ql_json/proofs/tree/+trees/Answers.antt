use Rattle.std.proofs.Common.{◌≡◌, List, [], ◌∷◌, ◌++◌, Some, option_map, option_and_then, sym, ap, ◌∙◌, append_assoc}
use Rattle.std.specs.Borrow.{Bor}
use Rattle.std.specs.Prelude.{ℕ}
use Rattle.std.specs.Vec.Iter.{into_iter_items}
use Rattle.std.specs.declared.alloc.Global.{Global}
use Rattle.json.specs.Value.{value_view, items_view, members_view}
use Rattle.json.specs.declared.value.Value.{Value as Tree}
use Rattle.serde_json.specs.Data.{no_members}
use Rattle.serde_json.specs.Read.{of_items, of_members}
use Rattle.n1ql_value.specs.declared.datum.Datum.{Datum}
use Rattle.n1ql_value.specs.Datum.{datum_of}
use Rattle.n1ql_value.specs.Names.{with_pair}
use Rattle.n1ql_json.specs.Reads.{items_read}
use Rattle.n1ql_json.proofs.Trees.{item_turn, member_turn}
use Rattle.n1ql_json.proofs.tree.+trees.Goals as goal

pub values_of-loop-item-preserved : goal.values_of-loop-item-preserved
values_of-loop-item-preserved t c =
    let l = c.loop-item in
    let left = into_iter_items c.next.new.self in
    let steps : into_iter_items l.item-iterator ≡ c.in-Some.item ∷ left = c.in-Some.ensures.steps.0 in
    l.invariant ∙ ap (λ is. option_map (λ (ds : List Datum). l.values ++ ds) (option_and_then items_read (of_items (items_view is)))) steps
    ∙ item_turn l.values (value_view c.in-Some.item) (items_view left) (datum_of c.in_ok-value.value) c.in_ok-value.ensures
    ∙ ap (λ (front : List Datum). option_map (λ (ds : List Datum). front ++ ds) (option_and_then items_read (of_items (items_view left)))) (sym c.in_ok-push.ensures.ok)

pub pairs_of-loop-name-init : goal.pairs_of-loop-name-init
pairs_of-loop-name-init t c =
    let all = sym c.into_iter-name-iterator.ensures.into_iter_gives.0 in
    ([], all, no_members, ap (λ ms. of_members (members_view ms) no_members) all, ap Some (sym c.new-pairs.ensures))

pub pairs_of-loop-name-preserved : goal.pairs_of-loop-name-preserved
pairs_of-loop-name-preserved t c =
    let l = c.loop-name in
    let first : Bor (List ℕ) × Tree Global = (c.in-Some.name, c.in-Some.member) in
    let left = into_iter_items c.next.new.self in
    let steps : into_iter_items l.name-iterator ≡ first ∷ left = c.in-Some.ensures.steps.0 in
    let done = l.invariant.0 in
    let found = l.invariant.2 in
    let turn = member_turn c.in-Some.name.now (value_view c.in-Some.member) (members_view left) found l.pairs (datum_of c.in_ok-value.value) l.invariant.4 c.in_ok-value.ensures in (
      done ++ first ∷ [],
      l.invariant.1 ∙ ap (λ ms. done ++ ms) steps ∙ sym (append_assoc done (first ∷ []) left),
      turn.0,
      l.invariant.3 ∙ ap (λ ms. of_members (members_view ms) found) steps ∙ turn.1,
      turn.2 ∙ ap Some (sym (c.in_ok-put.ensures.ok ∙ ap (λ name. with_pair name (datum_of c.in_ok-value.value) l.pairs) c.in_ok-name.ensures)),
    )
