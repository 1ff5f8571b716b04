-- The results that DISTINCT keeps, and what the set of them holds, when one more comes.
use Rattle.std.proofs.Common.{◌≡◌, Bool, true, false, not, ◌||◌, cond, List, [], ◌∷◌, ◌++◌, map, append-nil, refl, sym, ap, ap₂, ◌∙◌}
use Rattle.std.specs.Cmp.{IsTotalOrder}
use Rattle.std.specs.List.{list_any}
use Rattle.std.specs.Ordering.{is_eq}
use Rattle.std.specs.declared.cmp.Ordering.{Ordering}
use Rattle.std.specs.declared.cmp.Ordering.TheVariants.{Less, Equal, Greater}
use Rattle.std.proofs.lemmas.List.{map-append}
use Rattle.n1ql_value.specs.declared.value.Value.{Value}
use Rattle.n1ql_value.specs.Collation.{value_cmp}
use Rattle.n1ql_value.specs.Datum.{datum_of}
use Rattle.n1ql_ast.specs.Equality.{same_value}
use Rattle.n1ql_meaning.specs.Finish.{first_of_each, is_same_result}
use Rattle.n1ql_meaning.specs.Results.{PlacedResult}
use Rattle.pipe_rows.specs.declared.out.Out.{Out}
use Rattle.pipe_rows.specs.Pipes.{placed}

-- whether some result is the same as a value
abbrev holds : Value → List PlacedResult → Bool
holds v rs = list_any (λ (r : PlacedResult). same_value v r.result) rs

if_equal : (o : Ordering) → is_eq o ≡ true → o ≡ Equal
if_equal Equal h = refl
if_equal Less h = absurd cc
if_equal Greater h = absurd cc

not_new : (b : Bool) → false ≡ not b → b ≡ true
not_new true h = refl
not_new false h = absurd cc

same_for_both : IsTotalOrder value_cmp → (v x : Value) → same_value v x ≡ true → (rs : List PlacedResult) → holds v rs ≡ holds x rs
same_for_both o v x h [] = refl
same_for_both o v x h (r ∷ rs) =
    ap₂ ◌||◌ (ap is_eq (o.congr (datum_of v) (datum_of x) (datum_of r.result) (if_equal (value_cmp (datum_of v) (datum_of x)) h))) (same_for_both o v x h rs)

or_there : (same old whole : Bool) → (same ≡ true → whole ≡ true) → old ≡ whole → (same || old) ≡ whole
or_there true old whole f e = sym (f refl)
or_there false old whole f e = e

-- a result that is there already adds nothing
pub same_again : IsTotalOrder value_cmp
    → ((rs : List PlacedResult) (r : PlacedResult) → first_of_each (rs ++ r ∷ []) ≡ first_of_each rs ++ cond (list_any (is_same_result r) (first_of_each rs)) [] (r ∷ []))
    → (ys : List Out) (out : Out) (kept : List PlacedResult) (old new : Value → Bool) (b : Bool)
    → (kept ≡ first_of_each (map placed ys)) × ((v : Value) → old v ≡ holds v kept)
    → b ≡ not (old out.result) → b ≡ false → ((v : Value) → new v ≡ (same_value v out.result || old v))
    → (kept ≡ first_of_each (map placed (ys ++ out ∷ []))) × ((v : Value) → new v ≡ holds v kept)
same_again o law ys out kept old new b (k, s) n f e =
    let there : holds out.result kept ≡ true = sym (s out.result) ∙ not_new (old out.result) (sym f ∙ n) in
    let still : first_of_each (map placed (ys ++ out ∷ [])) ≡ kept =
    ap first_of_each (map-append placed ys (out ∷ []))
    ∙ (law (map placed ys) (placed out)
    ∙ (ap (λ rs. rs ++ cond (list_any (is_same_result (placed out)) rs) [] (placed out ∷ [])) (sym k)
    ∙ (ap (λ t. kept ++ cond t [] (placed out ∷ [])) there ∙ append-nil kept))) in
    (sym still, λ v. e v ∙ or_there (same_value v out.result) (old v) (holds v kept) (λ h. same_for_both o v out.result h kept ∙ there) (s v))
