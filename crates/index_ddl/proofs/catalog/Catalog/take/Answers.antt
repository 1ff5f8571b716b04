use Rattle.std.proofs.Common.{◌≡◌, ◌≤◌, List, Option, Some, None, IsNone, option_map, sym, ap, subst, ◌∙◌, refl}
use Rattle.std.specs.Prelude.{string_bytes, map}
use Rattle.n1ql_value.specs.Limits.{max_indexes}
use Rattle.std.specs.Map.{lookup, keys_of, values_of}
use Rattle.std.specs.Str.{bytes_eq}
use Rattle.index_def.specs.LiveIndexes.{Live, named, without, AreNumbered}
use Rattle.index_ddl.specs.Catalogs.{Indexes}
use Rattle.index_ddl.proofs.Lookups.{found_by_name}
use Rattle.index_ddl.proofs.Changes.{still_keyed, still_numbered, taken_live, none_taken}
use Rattle.index_ddl.proofs.catalog.Catalog.take.Goals as goal

pub invariant_of-self : goal.invariant_of-self
invariant_of-self c =
    let es = c.self.inside.by_name.entries in
    subst (λ es. (map string_bytes (keys_of es) ≡ map (λ (index : Live). index.def.name) (values_of es)) × (c.self.inside.made ≤ max_indexes) × AreNumbered 0 c.self.inside.made (values_of es))
    (sym c.shift_remove.ensures.entries)
    (still_keyed (λ k. bytes_eq c.args.name.now (string_bytes k)) string_bytes es c.self.invariant.0, c.self.invariant.1, still_numbered (λ k. bytes_eq c.args.name.now (string_bytes k)) 0 c.self.inside.made es c.self.invariant.2)

pub returns-clause-index : goal.returns-clause-index
returns-clause-index c =
    c.shift_remove.ensures.value ∙ found_by_name string_bytes c.args.name.now c.self.inside.by_name.entries c.self.invariant.0
    ∙ ap (λ (indexes : Indexes). named c.args.name.now indexes.live) c.self.view_is

pub returns-clause-live : goal.returns-clause-live
returns-clause-live c =
    taken_live (λ k. bytes_eq c.args.name.now (string_bytes k)) c.self.inside.made c.self.inside.by_name.entries c.shift_remove.new.self.entries
    c.args.self.now.live c.shift_remove.result c.self.invariant.2 c.shift_remove.ensures.value c.shift_remove.ensures.entries
    (ap (λ (indexes : Indexes). indexes.live) c.self.view_is)

pub returns-clause-none : goal.returns-clause-none
returns-clause-none c =
    none_taken c.self.inside.made c.self.inside.by_name.entries c.shift_remove.new.self.entries c.args.self.now c.shift_remove.result
    c.shift_remove.ensures.unchanged c.self.view_is
