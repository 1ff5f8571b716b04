use Rattle.std.proofs.Common.{◌≡◌, ◌≤◌, ℕ, List, Some, None, sym, ap, subst, ◌∙◌}
use Rattle.std.specs.Prelude.{string_bytes, map}
use Rattle.std.specs.Option.{option_copied_mut}
use Rattle.std.specs.Map.{keys_of, values_of}
use Rattle.indexmap.specs.IndexMap.{keys, values, with_value_at}
use Rattle.indexmap.proofs.CallerLemmas.{keys-with_value_at}
use Rattle.n1ql_value.specs.Limits.{max_indexes}
use Rattle.index_def.specs.LiveIndexes.{Live, with_state, AreNumbered}
use Rattle.index_ddl.specs.Catalogs.{Indexes}
use Rattle.index_ddl.specs.inner.Writes.{in_state_at}
use Rattle.index_ddl.specs.declared.catalog.Catalog.TheInside.{Inside}
use Rattle.index_ddl.proofs.Writes.{written, past, same_names, same_numbers}
use Rattle.index_ddl.proofs.catalog.Catalog.set_state_at.Goals as goal
use Rattle.index_ddl.proofs.catalog.Catalog.set_state_at.Goals.{in-Some, in_default}

-- the values and the keys after the write, whichever way it went
values_after : (c : goal.Joined-get_index_mut) → values c.match-get_index_mut.self-inside.by_name ≡ in_state_at c.args.at c.args.state (values c.self.inside.by_name)
values_after c = elim c.match-get_index_mut.branch [
  | in-Some w ↦ ap (λ (i : Inside). values i.by_name) w.self-inside-is
      ∙ ap (λ (index : Live). values (with_value_at c.self.inside.by_name c.args.at index)) w.set_state.ensures
      ∙ written c.self.inside.by_name.entries c.args.at c.args.state w.in-Some.index.now (sym c.get_index_mut.ensures.value ∙ ap option_copied_mut w.in-Some.is)
  | in_default w ↦ ap (λ (i : Inside). values i.by_name) w.self-inside-is
      ∙ past (values c.self.inside.by_name) c.args.at c.args.state (sym c.get_index_mut.ensures.value ∙ ap option_copied_mut w.in_default.is)
]

keys_after : (c : goal.Joined-get_index_mut) → keys c.match-get_index_mut.self-inside.by_name ≡ keys c.self.inside.by_name
keys_after c = elim c.match-get_index_mut.branch [
  | in-Some w ↦ ap (λ (i : Inside). keys i.by_name) w.self-inside-is ∙ keys-with_value_at c.self.inside.by_name c.args.at w.set_state.new.self
  | in_default w ↦ ap (λ (i : Inside). keys i.by_name) w.self-inside-is
]

made_after : (c : goal.Joined-get_index_mut) → c.match-get_index_mut.self-inside.made ≡ c.self.inside.made
made_after c = elim c.match-get_index_mut.branch [
  | in-Some w ↦ ap (λ (i : Inside). i.made) w.self-inside-is
  | in_default w ↦ ap (λ (i : Inside). i.made) w.self-inside-is
]

pub invariant_of-self : goal.invariant_of-self
invariant_of-self c =
    let live = values c.self.inside.by_name in (
      ap (map string_bytes) (keys_after c) ∙ c.self.invariant.0 ∙ sym (same_names live c.args.at c.args.state) ∙ ap (map (λ (index : Live). index.def.name)) (sym (values_after c)),
      subst (λ (n : ℕ). n ≤ max_indexes) (sym (made_after c)) c.self.invariant.1,
      subst (λ (n : ℕ). AreNumbered 0 n (values c.match-get_index_mut.self-inside.by_name)) (sym (made_after c))
          (subst (AreNumbered 0 c.self.inside.made) (sym (values_after c)) (same_numbers 0 c.self.inside.made live c.args.at c.args.state c.self.invariant.2)),
    )

pub returns-clause-live : goal.returns-clause-live
returns-clause-live c = values_after c ∙ ap (λ (indexes : Indexes). in_state_at c.args.at c.args.state indexes.live) c.self.view_is
