-- What a write of one index's state leaves.
use Rattle.std.proofs.Common.{◌≡◌, ℕ, zero, suc, ◌+◌, ◌≤◌, List, [], ◌∷◌, map, slice_get, Option, Some, None, refl, sym, ap, ap₂, ◌∙◌}
use Rattle.std.specs.Map.{keys_of, values_of}
use Rattle.indexmap.specs.IndexMap.{set_value_at}
use Rattle.n1ql_value.specs.declared.state.State.{State}
use Rattle.index_def.specs.LiveIndexes.{Live, with_state, AreNumbered}
use Rattle.index_ddl.specs.inner.Writes.{in_state_at}

pub written : {K : Type 0} (es : List (K × Live)) (at : ℕ) (state : State) (index : Live) → slice_get (values_of es) at ≡ Some index
    → values_of (set_value_at es at (with_state state index)) ≡ in_state_at at state (values_of es)
written [] at state index is = absurd cc
written (e ∷ es) zero state index is =
    let it : e.1 ≡ index = cc in ap (λ i. with_state state i ∷ values_of es) (sym it)
written (e ∷ es) (suc at) state index is = ap (λ l. e.1 ∷ l) (written es at state index is)

pub past : (live : List Live) (at : ℕ) (state : State) → slice_get live at ≡ None → live ≡ in_state_at at state live
past [] at state is = refl
past (x ∷ live) zero state is = absurd cc
past (x ∷ live) (suc at) state is = ap (λ l. x ∷ l) (past live at state is)

pub same_names : (live : List Live) (at : ℕ) (state : State) → map (λ (index : Live). index.def.name) (in_state_at at state live) ≡ map (λ (index : Live). index.def.name) live
same_names [] at state = refl
same_names (x ∷ live) zero state = refl
same_names (x ∷ live) (suc at) state = ap (λ l. x.def.name ∷ l) (same_names live at state)

pub same_numbers : (least made : ℕ) (live : List Live) (at : ℕ) (state : State) → AreNumbered least made live → AreNumbered least made (in_state_at at state live)
same_numbers least made [] at state h = h
same_numbers least made (x ∷ live) zero state h = h
same_numbers least made (x ∷ live) (suc at) state h = (h.0, same_numbers (x.number + 1) made live at state h.1)
