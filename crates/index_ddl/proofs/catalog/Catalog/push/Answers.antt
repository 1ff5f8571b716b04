use Rattle.std.proofs.Common.{◌≡◌, ℕ, ◌+◌, ◌≤◌, ◌++◌, ◌∷◌, [], List, Option, Some, None, IsNone, option_map, sym, ap, subst, ◌∙◌, refl, arith}
use Rattle.std.specs.Prelude.{string_bytes, map}
use Rattle.std.specs.Map.{keys_of, values_of}
use Rattle.std.specs.Arc.{arc_value}
use Rattle.std.specs.String.{string_eq}
use Rattle.indexmap.specs.IndexMap.{insert_entry}
use Rattle.n1ql_value.specs.Limits.{max_indexes}
use Rattle.index_def.specs.LiveIndexes.{Live, named, AreNumbered}
use Rattle.index_ddl.specs.Catalogs.{Indexes, with_index}
use Rattle.index_def.specs.declared.definition.IndexDef.{IndexDef}
use Rattle.index_ddl.proofs.Changes.{pushed_last, pushed_keyed, pushed_values, one_more}
use Rattle.index_ddl.proofs.catalog.Catalog.push.Goals as goal

pub invariant_of-self-2 : goal.invariant_of-self-2
invariant_of-self-2 c =
    let es = c.self.inside.by_name.entries in
    let index : Live = record { number = c.self.inside.made; def = arc_value c.args.def; state = c.args.state } in
    let key = c.in_ok-name.name in
    let its_name = c.in_ok-name.ensures ∙ ap (λ (d : IndexDef). d.name) c.deref.ensures in
    let none = subst (λ (name : List ℕ). IsNone (named name (values_of es))) (sym its_name) (subst (λ (indexes : Indexes). IsNone (named (arc_value c.args.def).name indexes.live)) (sym c.self.view_is) c.requires.new) in
    let last = pushed_last c.self.inside.by_name key index c.insert.new.self.entries c.self.invariant.0 none (c.in_ok-insert.ensures.entries ∙ ap (insert_entry string_eq es key) c.new-index.ensures) in
    subst (λ es. (map string_bytes (keys_of es) ≡ map (λ (index : Live). index.def.name) (values_of es)) × (c.self.inside.made + 1 ≤ max_indexes) × AreNumbered 0 (c.self.inside.made + 1) (values_of es))
    (sym last) (
      pushed_keyed string_bytes es key index c.self.invariant.0 its_name,
      subst (λ (indexes : Indexes). indexes.made + 1 ≤ max_indexes) (sym c.self.view_is) (omega (arith, c.requires.room)),
      subst (AreNumbered 0 (c.self.inside.made + 1)) (sym (pushed_values es key index)) (one_more 0 c.self.inside.made (values_of es) (arc_value c.args.def) c.args.state c.self.invariant.2),
    )

pub returns-clause-ok : goal.returns-clause-ok
returns-clause-ok c =
    let es = c.self.inside.by_name.entries in
    let index : Live = record { number = c.self.inside.made; def = arc_value c.args.def; state = c.args.state } in
    let key = c.in_ok-name.name in
    let its_name = c.in_ok-name.ensures ∙ ap (λ (d : IndexDef). d.name) c.deref.ensures in
    let none = subst (λ (name : List ℕ). IsNone (named name (values_of es))) (sym its_name) (subst (λ (indexes : Indexes). IsNone (named (arc_value c.args.def).name indexes.live)) (sym c.self.view_is) c.requires.new) in
    let last = pushed_last c.self.inside.by_name key index c.insert.new.self.entries c.self.invariant.0 none (c.in_ok-insert.ensures.entries ∙ ap (insert_entry string_eq es key) c.new-index.ensures) in
    ap (λ es. record { live = values_of es; made = c.self.inside.made + 1 }) last
    ∙ ap (λ l. record { live = l; made = c.self.inside.made + 1 }) (pushed_values es key index)
    ∙ ap (with_index (arc_value c.args.def) c.args.state) c.self.view_is
