-- The JSON of a value by its top, and of what stands below it one after another.
use Rattle.std.proofs.Common.{◌≡◌, ℕ, zero, suc, ◌+◌, ◌<◌, List, [], ◌∷◌, length, get_or, take, map, Less, Greater, nat_cmp, refl, sym, ap, ◌∙◌, arith, rules, add-one, Bool}
use Rattle.std.proofs.lemmas.Cmp.{nat_list_cmp_total}
use Rattle.std.specs.Cmp.Lexicographic.{slice_cmp}
use Rattle.std.specs.Ordering.{ordering_reverse}
use Rattle.serde_json.specs.Data.{Data, null, boolean, Members, member, put}
use Rattle.serde_json.specs.declared.value.Value.TheVariants as Json
use Rattle.serde_json.specs.declared.value.Value.{the_lemmas}
use Rattle.serde_json.specs.View.{view}
use Rattle.n1ql_value.specs.declared.datum.Datum.{Datum}
use Rattle.n1ql_value.specs.declared.datum.Datum.TheFolds.{map-Datum, fold_out-Datum}
use Rattle.n1ql_value.specs.declared.text.Text.{Text as Bytes}
use Rattle.n1ql_value.specs.declared.value.Value.{Value}
use Rattle.n1ql_value.specs.Datum.{datum_of, pair_of, layer_of, out_datum_of}
use Rattle.n1ql_value.specs.Names.{IsBelowFirst, NamesGrow}
use Rattle.n1ql_json.specs.Json.{json_of, json_layer, json_pair, members_with}

pub view-Null : view Json.Null ≡ null
view-Null = search (rules, the_lemmas)

pub view-Bool : (b : Bool) → view (Json.Bool b) ≡ boolean b
view-Bool b = search (rules, the_lemmas)

abbrev pub Entry : Type 0
Entry = Bytes × Value

-- the JSON of a value, by its top
abbrev pub json_by_layer : Value → Data
json_by_layer v = json_layer (map-Datum Datum Data json_of (layer_of v))

pub json_of-layer : (v w : Value) → v ≡ w → json_of (datum_of v) ≡ json_by_layer w
json_of-layer v w is = fold_out-Datum Data json_layer (datum_of v) ∙ (ap (λ d. json_layer (map-Datum Datum Data json_of d)) (out_datum_of v) ∙ ap json_by_layer is)

-- a name below the first is below all
below_each : (name : List ℕ) (es : List Entry) → IsBelowFirst name (map pair_of es) → NamesGrow (map pair_of es) → (j : ℕ) (d : Entry) → j < length es → slice_cmp nat_cmp name (get_or es j d).0 ≡ Less
below_each name [] b g j d h = absurd (omega arith)
below_each name (e ∷ es) b g zero d h = b
below_each name (e ∷ es) b g (suc j) d h = nat_list_cmp_total.trans name e.0 (get_or es j d).0 b (below_each e.0 es g.0 g.1 j d (omega arith))

-- the members of the first pairs
abbrev pub members_to : List Entry → ℕ → Members
members_to es i = members_with (map json_pair (map pair_of (take i es)))

-- the next pair goes last
pub put_next : (es : List Entry) (i : ℕ) (d : Entry) → i < length es → NamesGrow (map pair_of es) → put (get_or es i d).0 (json_of (datum_of (get_or es i d).1)) (members_to es i) ≡ members_to es (suc i)
put_next [] i d h g = absurd (omega arith)
put_next (e ∷ es) zero d h g = refl
put_next (e ∷ es) (suc i) d h g =
    let name = (get_or es i d).0 in
    let above : slice_cmp nat_cmp name e.0 ≡ Greater = nat_list_cmp_total.antisymm name e.0 ∙ ap ordering_reverse (below_each e.0 es g.0 g.1 i d (omega arith)) in
    rw above (ap (member e.0 (json_of (datum_of e.1))) (put_next es i d (omega arith) g.1))

-- one more pair at the end of the members
pub put_more : (es : List Entry) (i : ℕ) (e : Entry) (found : Members) (name : List ℕ) (d : Data) → i < length es → e ≡ get_or es i e → NamesGrow (map pair_of es)
    → found ≡ members_to es i → name ≡ e.0 → d ≡ json_of (datum_of e.1) → put name d found ≡ members_to es (i + 1)
put_more es i e found name d h is g front same json =
    let item : e ≡ get_or es i e = is in
    ap (λ (n : List ℕ). put n d found) (same ∙ ap (λ (x : Entry). x.0) item)
    ∙ (ap (λ (x : Data). put (get_or es i e).0 x found) (json ∙ ap (λ (x : Entry). json_of (datum_of x.1)) item)
    ∙ (ap (put (get_or es i e).0 (json_of (datum_of (get_or es i e).1))) front
    ∙ (put_next es i e h g ∙ ap (members_to es) (sym (add-one i)))))
