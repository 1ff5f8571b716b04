-- What becomes of the map's entries when an index comes or goes.
use Rattle.std.proofs.Common.{◌≡◌, ℕ, ◌+◌, ◌≤◌, Bool, true, false, cond, ◌==◌, List, [], ◌∷◌, ◌++◌, map, drop, Option, Some, None, refl, sym, ap, ap₂, subst, ◌∙◌, true≢false, arith}
use Rattle.std.specs.Map.{lookup, keys_of, values_of, remove_entry}
use Rattle.index_def.specs.declared.definition.IndexDef.{IndexDef}
use Rattle.index_def.specs.LiveIndexes.{Live, is_numbered, without, named, AreNumbered}
use Rattle.std.specs.Prelude.{IfSome, IfNone, IsNone, string_bytes, String}
use Rattle.std.specs.String.{string_eq}
use Rattle.std.proofs.Common.{Global}
use Rattle.indexmap.specs.IndexMap.{IndexMap, insert_entry}
use Rattle.indexmap.proofs.CallerLemmas.{insert_entry-new}
use Rattle.index_ddl.specs.Catalogs.{Indexes}
use Rattle.index_ddl.proofs.Lookups.{IsKeyed, found_by_name}

pub weaker : (least less made : ℕ) (live : List Live) → less ≤ least → AreNumbered least made live → AreNumbered less made live
weaker least less made [] le h = omega arith
weaker least less made (index ∷ live) le h = (omega (arith, h.0), h.1)

pub one_more : (least made : ℕ) (live : List Live) (def : IndexDef) (state : Rattle.n1ql_value.specs.declared.state.State.State) → AreNumbered least made live → AreNumbered least (made + 1) (live ++ record { number = made; def = def; state = state } ∷ [])
one_more least made [] def state h = (h, omega arith)
one_more least made (index ∷ live) def state h = (h.0, one_more (index.number + 1) made live def state h.1)

module _ {K : Type 0} (test : K → Bool) where
  pub not_below : (least made : ℕ) (es : List (K × Live)) (index : Live) → AreNumbered least made (values_of es) → lookup test es ≡ Some index → least ≤ index.number
  not_below least made [] index h found = absurd cc
  not_below least made (e ∷ es) index h found = by (test e.0) refl (not_below (e.1.number + 1) made es index h.1)
    where
      by : (b : Bool) → test e.0 ≡ b → (lookup test es ≡ Some index → e.1.number + 1 ≤ index.number) → least ≤ index.number
      by true is rest = let same : Some e.1 ≡ Some index = sym (ap (λ c. cond c (Some e.1) (lookup test es)) is) ∙ found in
          let it : e.1 ≡ index = cc in
          subst (λ (x : Live). least ≤ x.number) it h.0
      by false is rest = let later = rest (sym (ap (λ c. cond c (Some e.1) (lookup test es)) is) ∙ found) in omega (arith, later, h.0)

  pub still_numbered : (least made : ℕ) (es : List (K × Live)) → AreNumbered least made (values_of es) → AreNumbered least made (values_of (remove_entry test es))
  still_numbered least made [] h = h
  still_numbered least made (e ∷ es) h = by (test e.0) refl (still_numbered (e.1.number + 1) made es h.1)
    where
      by : (b : Bool) → test e.0 ≡ b → AreNumbered (e.1.number + 1) made (values_of (remove_entry test es)) → AreNumbered least made (values_of (cond (test e.0) es (e ∷ remove_entry test es)))
      by true is rest = subst (λ c. AreNumbered least made (values_of (cond c es (e ∷ remove_entry test es)))) (sym is) (weaker (e.1.number + 1) least made (values_of es) (omega (arith, h.0)) h.1)
      by false is rest = subst (λ c. AreNumbered least made (values_of (cond c es (e ∷ remove_entry test es)))) (sym is) (h.0, rest)

  pub removed_is_without : (least made : ℕ) (es : List (K × Live)) (index : Live) → AreNumbered least made (values_of es) → lookup test es ≡ Some index → values_of (remove_entry test es) ≡ without index.number (values_of es)
  removed_is_without least made [] index h found = absurd cc
  removed_is_without least made (e ∷ es) index h found =
      by (test e.0) refl (not_below (e.1.number + 1) made es index h.1) (removed_is_without (e.1.number + 1) made es index h.1)
    where
      by : (b : Bool) → test e.0 ≡ b → (lookup test es ≡ Some index → e.1.number + 1 ≤ index.number)
          → (lookup test es ≡ Some index → values_of (remove_entry test es) ≡ without index.number (values_of es)) → values_of (cond (test e.0) es (e ∷ remove_entry test es)) ≡ without index.number (e.1 ∷ values_of es)
      by true is later rest =
          let same : Some e.1 ≡ Some index = sym (ap (λ c. cond c (Some e.1) (lookup test es)) is) ∙ found in
          let number : e.1.number ≡ index.number = cc in
          let here : is_numbered index.number e.1 ≡ true = grind (arith, number) in
          ap (λ c. values_of (cond c es (e ∷ remove_entry test es))) is ∙ sym (ap (λ c. cond c (values_of es) (e.1 ∷ without index.number (values_of es))) here)
      by false is later rest =
          let there : lookup test es ≡ Some index = sym (ap (λ c. cond c (Some e.1) (lookup test es)) is) ∙ found in
          let above = later there in
          let elsewhere : is_numbered index.number e.1 ≡ false = grind (arith, above) in
          ap (λ c. values_of (cond c es (e ∷ remove_entry test es))) is
          ∙ ap (λ l. e.1 ∷ l) (rest there)
          ∙ sym (ap (λ c. cond c (values_of es) (e.1 ∷ without index.number (values_of es))) elsewhere)

  pub still_keyed : (bytes : K → List ℕ) (es : List (K × Live)) → IsKeyed bytes es → IsKeyed bytes (remove_entry test es)
  still_keyed bytes [] h = h
  still_keyed bytes (e ∷ es) h = by (test e.0) refl (still_keyed bytes es (ap (drop 1) h))
    where
      by : (b : Bool) → test e.0 ≡ b → IsKeyed bytes (remove_entry test es) → IsKeyed bytes (cond (test e.0) es (e ∷ remove_entry test es))
      by true is rest = subst (λ c. IsKeyed bytes (cond c es (e ∷ remove_entry test es))) (sym is) (ap (drop 1) h)
      by false is rest = subst (λ c. IsKeyed bytes (cond c es (e ∷ remove_entry test es))) (sym is)
          (ap₂ ◌∷◌ (cc) rest)

pub pushed_keyed : {K : Type 0} (bytes : K → List ℕ) (es : List (K × Live)) (key : K) (index : Live) → IsKeyed bytes es → bytes key ≡ index.def.name → IsKeyed bytes (es ++ (key, index) ∷ [])
pushed_keyed bytes [] key index h is = ap (λ b. b ∷ []) is
pushed_keyed bytes (e ∷ es) key index h is = ap₂ ◌∷◌ (cc) (pushed_keyed bytes es key index (ap (drop 1) h) is)

pub pushed_values : {K : Type 0} (es : List (K × Live)) (key : K) (index : Live) → values_of (es ++ (key, index) ∷ []) ≡ values_of es ++ index ∷ []
pushed_values [] key index = refl
pushed_values (e ∷ es) key index = ap (λ l. e.1 ∷ l) (pushed_values es key index)

none_is : {A : Type 0} (r : Option A) → IsNone r → r ≡ None
none_is None h = refl
none_is (Some x) h = absurd (true≢false h)

module _ {K : Type 0} (test : K → Bool) where
  -- the index that is taken out is the one of its number
  pub taken_live : (made : ℕ) (es es' : List (K × Live)) (live : List Live) (r : Option Live) → AreNumbered 0 made (values_of es) → r ≡ lookup test es
      → es' ≡ remove_entry test es → values_of es ≡ live → IfSome r (λ (index : Live). values_of es' ≡ without index.number live)
  taken_live made es es' live None h at gone is = tt
  taken_live made es es' live (Some index) h at gone is =
      ap values_of gone ∙ removed_is_without test 0 made es index h (sym at) ∙ ap (without index.number) is

-- where there is none, nothing is taken out
pub none_taken : {K : Type 0} (made : ℕ) (es es' : List (K × Live)) (now : Indexes) (r : Option Live) → IfNone r (es' ≡ es) → record { live = values_of es; made = made } ≡ now → IfNone r (record { live = values_of es'; made = made } ≡ now)
none_taken made es es' now None same is = ap (λ l. record { live = values_of l; made = made }) same ∙ is
none_taken made es es' now (Some index) same is = tt

-- a new name goes last
module _ {S : Type 0} (m : IndexMap (String Global) Live S) (key : String Global) (index : Live) where
  pub pushed_last : (es' : List (String Global × Live)) → IsKeyed string_bytes m.entries → IsNone (named (string_bytes key) (values_of m.entries))
      → es' ≡ insert_entry string_eq m.entries key index → es' ≡ m.entries ++ (key, index) ∷ []
  pushed_last es' keyed new is = is ∙ insert_entry-new string_eq m key index (found_by_name string_bytes (string_bytes key) m.entries keyed ∙ none_is _ new)
