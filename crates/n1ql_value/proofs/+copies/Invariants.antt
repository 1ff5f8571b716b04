use Rattle.std.proofs.Common.{◌≡◌, take}
use Rattle.n1ql_value.proofs.+copies.Given as goal

abbrev pub invariant-pairs::Pairs::copy-loop-name : goal.invariant-pairs::Pairs::copy-loop-name
invariant-pairs::Pairs::copy-loop-name l = l.entries.items ≡ take l.name-index l.name-items

abbrev pub invariant-vals::Vals::copy-loop-item : goal.invariant-vals::Vals::copy-loop-item
invariant-vals::Vals::copy-loop-item l = l.items.items ≡ take l.item-index l.item-items
