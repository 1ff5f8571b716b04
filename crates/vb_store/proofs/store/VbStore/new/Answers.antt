use Rattle.std.proofs.Common.{refl, ap, map}
use Rattle.std.specs.Arc.{arc_value}
use Rattle.std.specs.BTreeMap.{is_at}
use Rattle.std.specs.Map.{lookup}
use Rattle.std.specs.Option.{option_map}
use Rattle.std.specs.String.{string_bytes}
use Rattle.std.specs.Ordering.{nat_cmp}
use Rattle.std.specs.Cmp.Lexicographic.{slice_cmp}
use Rattle.vb_store.proofs.Keeping.{kept_none_at}
use Rattle.vb_store.proofs.store.VbStore.new.Goals as goal

pub invariant_of-result : goal.invariant_of-result
invariant_of-result c =
    kept_none_at c.args.n _ _ _ _ _ c.requires.0 c.requires.1 refl (ap (map arc_value) c.new.ensures.items) c.in_ok-by_vbucket.ensures c.in_ok-high.ensures (λ id. ap (λ es. option_map arc_value (lookup (is_at (λ k. slice_cmp nat_cmp id (string_bytes k))) es)) c.new-2.ensures.empty)
