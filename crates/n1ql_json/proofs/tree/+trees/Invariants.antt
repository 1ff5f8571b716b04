use Rattle.std.proofs.Common.{◌≡◌, List, ◌++◌, Some, option_map, option_and_then}
use Rattle.std.specs.Borrow.{Bor}
use Rattle.std.specs.Prelude.{ℕ}
use Rattle.std.specs.Vec.Iter.{into_iter_items}
use Rattle.std.specs.declared.alloc.Global.{Global}
use Rattle.json.specs.Value.{items_view, members_view}
use Rattle.json.specs.declared.value.Value.{Value as Tree}
use Rattle.serde_json.specs.Data.{Members, no_members}
use Rattle.serde_json.specs.Read.{of_items, of_members}
use Rattle.n1ql_value.specs.declared.datum.Datum.{Datum}
use Rattle.n1ql_json.specs.Reads.{items_read, members_read}
use Rattle.n1ql_json.proofs.tree.+trees.Given as goal

abbrev pub invariant-values_of-loop-item : goal.invariant-values_of-loop-item
invariant-values_of-loop-item l =
    option_and_then items_read (of_items (items_view l.fn.items.items))
    ≡ option_map (λ (ds : List Datum). l.values ++ ds) (option_and_then items_read (of_items (items_view (into_iter_items l.item-iterator))))

abbrev pub invariant-pairs_of-loop-name : goal.invariant-pairs_of-loop-name
invariant-pairs_of-loop-name l =
    (done : List (Bor (List ℕ) × Tree Global)) × (l.fn.members.items ≡ done ++ into_iter_items l.name-iterator)
    × (found : Members) × (of_members (members_view l.fn.members.items) no_members ≡ of_members (members_view (into_iter_items l.name-iterator)) found)
    × (members_read found ≡ Some l.pairs)
