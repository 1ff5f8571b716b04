use Rattle.std.proofs.Common.{refl, ◌≡◌, ◌+◌, ℕ, suc, List, take, Option, Some, option_map, sym, ap, ◌∙◌, arith}
use Rattle.std.specs.Option.{option_map_or}
use Rattle.std.proofs.lemmas.Option.{slice_get_read}
use Rattle.index_def.specs.LiveIndexes.{Live, named}
use Rattle.index_def.specs.LiveIndexes.{first_of_each, numbers_of}
use Rattle.index_ddl.specs.inner.Writes.{added_once}
use Rattle.index_ddl.proofs.Numbers.{numbers_step}
use Rattle.index_ddl.proofs.catalog.Catalog.numbers_of.Goals as goal

pub loop-name-preserved : goal.loop-name-preserved
loop-name-preserved c =
    let next : suc c.loop-name.name-index ≡ c.loop-name.name-index + 1 = omega arith in
    let before : List ℕ = first_of_each (numbers_of (take c.loop-name.name-index c.args.names.now) c.args.self.now.live) in
    c.in_ok-add_once.ensures
    ∙ ap (λ (ns : List ℕ). option_map_or (added_once ns) c.number_of.result ns) c.loop-name.invariant
    ∙ ap (λ (n : Option ℕ). option_map_or (added_once before) n before) (c.number_of.ensures
    ∙ ap (λ (name : List ℕ). option_map (λ (index : Live). index.number) (named name c.args.self.now.live)) c.as_str.ensures)
    ∙ numbers_step c.args.names.now c.args.self.now.live c.loop-name.name-index c.name-item.result (sym (slice_get_read c.args.names.now _ c.loop-name.name-index c.name-item.result refl c.loop-name-test.true c.name-item.is))
    ∙ ap (λ (n : ℕ). first_of_each (numbers_of (take n c.args.names.now) c.args.self.now.live)) next
