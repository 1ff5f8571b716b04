-- The law of spans: where WHERE is TRUE on a document, a row of the document lies in a span.
use Rattle.std.proofs.Common.{◌≡◌, ℕ, suc, Bool, true, false, not, ◌&&◌, ◌||◌, List, [], ◌∷◌, map, cond, Option, Some, None, option_map, IfSome, IsTrue, ◌⊎◌, inl, inr, refl, sym, ap, ap₂, subst, ◌∙◌, if◌then◌else◌, codes, arith}
use Rattle.std.proofs.lemmas.Bool.{true≢false}
use Rattle.std.proofs.lemmas.Map.Text.{is_eq-slice_cmp}
use Rattle.std.proofs.lemmas.Slice.Eq.{bytes_eq-Decides}
use Rattle.std.specs.Prelude.{bytes_eq}
use Rattle.std.specs.List.{All, cons_option, filter, flat_map, fold, list_all, list_any}
use Rattle.std.specs.Ordering.{nat_cmp, is_eq}
use Rattle.std.specs.Cmp.Lexicographic.{slice_cmp}
use Rattle.n1ql_value.specs.declared.datum.Datum.{Datum}
use Rattle.n1ql_value.specs.declared.datum.Datum.TheVariants as datum
use Rattle.n1ql_value.specs.declared.range.Range.{Range}
use Rattle.n1ql_value.specs.declared.row.Row.{Row}
use Rattle.n1ql_value.specs.declared.value.Value.{Value}
use Rattle.n1ql_value.specs.declared.value.Value.TheVariants.{Missing, Null, Int, Text, Array, Object}
use Rattle.n1ql_value.specs.declared.value.Value.TheVariants as value
use Rattle.n1ql_value.specs.Collation.{row_cmp}
use Rattle.n1ql_value.specs.Datum.{datum_of, value_of as value_at, value_of-datum_of, datum_of-value_of}
use Rattle.n1ql_value.specs.Kinds.{is_missing, is_true}
use Rattle.n1ql_value.specs.Paths.{field_of}
use Rattle.n1ql_value.specs.Ranges.{range_holds, span_holds, some_span_holds}
use Rattle.sorted_lists.proofs.Members.{list_any-filter, list_any-implies, list_any-map, list_any-sort_of}
use Rattle.sorted_lists.proofs.Once.{list_any-each_once}
use Rattle.n1ql_ast.specs.declared.expr.Expr.{Expr, fold-roll-Expr, map-Expr, out-Expr, roll-Expr}
use Rattle.n1ql_ast.specs.declared.expr.Expr.TheFolds.{fold_out-Expr}
use Rattle.n1ql_ast.specs.declared.expr.Expr.TheOpen.{Expr-F}
use Rattle.n1ql_ast.specs.declared.expr.Expr.TheVariants as expr
use Rattle.n1ql_ast.specs.declared.key.Key.{Key}
use Rattle.n1ql_ast.specs.declared.key.Key.TheVariants.{Plain, Each}
use Rattle.n1ql_ast.specs.Bindings.{Alike, IsClosed, IsClosedIn}
use Rattle.n1ql_ast.specs.Conjunction.{all_true, conjuncts_in, conjuncts_of}
use Rattle.n1ql_ast.specs.Equality.{same_tree}
use Rattle.n1ql_ast.specs.Evaluation.{Environment, inside, level_in, on_document, over_elements, passes, value_at_element, value_of}
use Rattle.n1ql_ast.specs.FormedStatements.{IsFormedIn, IsFormedKey}
use Rattle.index_def.specs.declared.definition.IndexDef.{IndexDef}
use Rattle.index_def.specs.Keys.{combinations, elements_in, has_leading, is_admitted, is_distinct, keys_of, once_if, rows_of_tuples, tuples_of, values_of}
use Rattle.index_def.specs.Reasons.{is_array}
use Rattle.n1ql_meaning.specs.Rows.{document_with}
use Rattle.n1ql_spans.specs.Bounding.{bounding}
use Rattle.n1ql_spans.specs.Covering.{own_id}
use Rattle.n1ql_spans.specs.Fits.{is_bounded}
use Rattle.n1ql_spans.specs.RangeAlgebra.{free, hull, meets}
use Rattle.n1ql_spans.specs.Spans.{any_bounds, are_among, bounds_in, first_some, has_some, is_among, ranges_of, spans_of, spans_over}
use Rattle.n1ql_spans.proofs.BoundingHolds.{bounding_holds}
use Rattle.n1ql_spans.proofs.ComparisonsHold.{HeldIfAny, truth}
use Rattle.n1ql_spans.proofs.LawsBelow.{OrderLaws, TreeLaws}
use Rattle.n1ql_spans.proofs.RangesHold.{AllHold, in_all, in_hull, some_hold}
use Rattle.n1ql_spans.proofs.Tests.{all_among, all_of_any, and, any_left, any_right, both, found, or_cases, or_left, or_right}

-- ---- what a key must be

-- a value that all of the ranges hold, and that isn't MISSING where there are some
abbrev InAll : List (List Range) → Value → Type 0
InAll rss v = AllHold rss (datum_of v) × (IsTrue (has_some rss) → IsTrue (not (is_missing v)))

one_more : (o : Option (List Range)) (rss : List (List Range)) (v : Value) → HeldIfAny o v → InAll rss v → InAll (cons_option o rss) v
one_more None rss v h all = all
one_more (Some rs) rss v h all = ((h.0, all.0), λ some. h.1)

-- it lies in some range, and the leading one isn't MISSING
abbrev fits : Bool → List Range → Value → Bool
fits lead rs v = some_hold rs (datum_of v) && (not lead || not (is_missing v))

lead_or : (lead b : Bool) → (IsTrue lead → IsTrue b) → IsTrue (not lead || b)
lead_or true b h = h refl
lead_or false b h = refl

some_free : (d : Datum) → IsTrue (some_hold (free ∷ []) d)
some_free d = refl

-- META().id of a document
value_of-roll : (l : Expr-F Expr) (env : Environment) → value_of (roll-Expr l) env ≡ level_in (map-Expr Expr (Environment → Value) value_of l) env
value_of-roll l env = ap (λ (f : Environment → Value). f env) (fold-roll-Expr (Environment → Value) level_in l)

text_there : (id : List ℕ) → value_at (datum.Text id) ≡ Text id
text_there id = value_of-datum_of (Text id)

id_there : (id : List ℕ) (doc : Value) → value_of own_id (on_document id doc []) ≡ Text id
id_there id doc =
    ap (λ e. value_of e (on_document id doc [])) (sym (expr.rolls-Field (expr.MetaOf true) (codes "id")))
    ∙ (value_of-roll (Expr-F.Field (expr.MetaOf true) (codes "id")) (on_document id doc [])
    ∙ (ap (field_of (codes "id")) (ap (λ e. value_of e (on_document id doc [])) (sym (expr.rolls-MetaOf true)) ∙ value_of-roll (Expr-F.MetaOf true) (on_document id doc [])) ∙ text_there id))

plain_part : Key → Expr
plain_part (Plain e) = e
plain_part (Each distinct item var over when) = item

same_part : (e f : Expr) → Plain e ≡ Plain f → e ≡ f
unfolding plain_part
same_part e f is = ap plain_part is

named_alike : (t u : Bool) → t ≡ u → (x : Value) (rest other : Option Value) → IsTrue (u || false) → cond t (Some x) rest ≡ cond t (Some x) other
named_alike true u is x rest other h = refl
named_alike false true is x rest other h = absurd cc
named_alike false false is x rest other h = absurd cc

over_true : (so : Value → Bool) (w : Value) → IsTrue (is_true (over_elements (λ vs. value.Bool (list_any so vs)) w)) → IsTrue (list_any so (elements_in w))
over_true so Missing h = absurd cc
over_true so Null h = absurd cc
over_true so (value.Bool b) h = absurd cc
over_true so (Int z) h = absurd cc
over_true so (Text t) h = absurd cc
over_true so (Array ds) h = truth (list_any so (map value_at ds)) h
over_true so (Object ps) h = absurd cc

pub first_all : {X : Type 0} (P : X → Type 0) (x : X) (xs : List X) → All P (x ∷ xs) → P x
first_all P x xs all = all 0 x (omega arith)

later_all : {X : Type 0} (P : X → Type 0) (x : X) (xs : List X) → All P (x ∷ xs) → All P xs
later_all P x xs all k d h = all (suc k) d (omega arith)

module _ (order : OrderLaws) (trees : TreeLaws) where
  exact : (a b : Expr) → IsTrue (same_tree a b) → a ≡ b
  exact a b h = (trees.same a b).0 h

  fits_by : (lead : Bool) (rss : List (List Range)) (v : Value) → AllHold rss (datum_of v) → (IsTrue lead → IsTrue (not (is_missing v))) → IsTrue (fits lead (fold meets (free ∷ []) rss) v)
  fits_by lead rss v all there =
      and (some_hold (fold meets (free ∷ []) rss) (datum_of v)) (not lead || not (is_missing v))
      (in_all order (free ∷ []) rss (datum_of v) (some_free (datum_of v)) all) (lead_or lead (not (is_missing v)) there)

  -- the conjuncts that are TRUE put a key's expression into the ranges of all that bound it
  in_bounds : (e : Expr) (env : Environment) (cs : List Expr) → IsTrue (all_true cs env) → InAll (bounds_in e cs) (value_of e env)
  in_bounds e env [] h = (tt, λ k. absurd cc)
  in_bounds e env (c ∷ cs) h =
      let two = both (is_true (value_of c env)) (all_true cs env) h in
      one_more (bounding e c) (bounds_in e cs) (value_of e env) (bounding_holds order trees e env c two.0) (in_bounds e env cs two.1)

  module _ (id : List ℕ) (doc : Value) (bound : List (List ℕ × Value)) (cs : List Expr) where
    abbrev pub env : Environment
    env = document_with bound (id, doc)

    abbrev pub start : Environment
    start = on_document id doc []

    closed_here : (e : Expr) → IsClosed e → value_of e env ≡ value_of e start
    closed_here e closed = trees.closed e [] closed env start (record { id = refl; doc = refl; keys = refl; bound = λ n h. absurd cc })

    -- what a leading key needs besides: a conjunct that bounds it, or that it is META().id
    abbrev pub Leads : Bool → Key → Type 0
    Leads lead key = IsTrue lead → (IsTrue (is_bounded cs key) ⊎ (key ≡ Plain own_id))

    abbrev Chosen : Bool → Key → Type 0
    Chosen lead key = IsTrue (list_any (fits lead (ranges_of cs key)) (values_of key start))

    present : (lead : Bool) (e : Expr) → Leads lead (Plain e) → InAll (bounds_in e cs) (value_of e start) → IsTrue lead → IsTrue (not (is_missing (value_of e start)))
    present lead e leads all h = elim (leads h) [ inl some ↦ all.1 some | inr is ↦ rw (ap (λ x. value_of x start) (same_part e own_id is) ∙ id_there id doc) refl ]

    plain_chosen : (lead : Bool) (e : Expr) → IsClosed e → Leads lead (Plain e) → IsTrue (all_true cs env) → Chosen lead (Plain e)
    plain_chosen lead e closed leads h =
        let all : InAll (bounds_in e cs) (value_of e start) = subst (InAll (bounds_in e cs)) (closed_here e closed) (in_bounds e env cs h) in
        or_left (fits lead (ranges_of cs (Plain e)) (value_of e start)) false (fits_by lead (bounds_in e cs) (value_of e start) all.0 (present lead e leads all))

    -- ---- array keys

    module _ (distinct : Bool) (item : Expr) (var : List ℕ) (over : Expr) (when : Option Expr) where
      abbrev inner : Value → Environment
      inner x = inside var x env

      abbrev element : Value → Environment
      element x = inside var x start

      alike : (x : Value) → Alike (var ∷ []) (inner x) (element x)
      alike x = record {
        id = refl;
        doc = refl;
        keys = refl;
        bound = λ n h. named_alike (is_eq (slice_cmp nat_cmp n var)) (bytes_eq n var) (is_eq-slice_cmp n var) x _ _ h;
      }

      abbrev keeps : Value → Bool
      keeps = passes (option_map value_of when) var start

      abbrev item_fits : Bool → List (List Range) → Value → Bool
      item_fits lead rss x = fits lead (fold meets (free ∷ []) rss) (value_of item (element x))

      -- an element on which the condition of the ANY is TRUE
      element_chosen : (lead : Bool) (parts : List Expr) → IsClosedIn (var ∷ []) item → ((x : Value) → IsTrue (all_true parts (inner x)) → IsTrue (keeps x))
          → (IsTrue lead → IsTrue (has_some (bounds_in item parts))) → (x : Value) → IsTrue (all_true parts (inner x)) → IsTrue (keeps x && item_fits lead (bounds_in item parts) x)
      element_chosen lead parts closed kept leads x h =
          let all : InAll (bounds_in item parts) (value_of item (element x)) =
          subst (InAll (bounds_in item parts)) (trees.closed item (var ∷ []) closed (inner x) (element x) (alike x)) (in_bounds item (inner x) parts h) in
          and (keeps x) (item_fits lead (bounds_in item parts) x) (kept x h) (fits_by lead (bounds_in item parts) (value_of item (element x)) all.0 (λ l. all.1 (leads l)))

      -- the key's WHEN is among the conjuncts
      when_by : (w : Option Expr) → IfSome w (IsFormedIn (var ∷ [])) → (parts : List Expr) → IsTrue (are_among parts (conjuncts_in w))
          → (x : Value) → IsTrue (all_true parts (inner x)) → IsTrue (passes (option_map value_of w) var start x)
      when_by None closed parts among x h = refl
      when_by (Some e) closed parts among x h =
          let parts_true : IsTrue (all_true (conjuncts_of e) (inner x)) = all_among (λ c. is_true (value_of c (inner x))) same_tree exact (conjuncts_of e) parts among h in
          subst (λ v. IsTrue (is_true v)) (trees.closed e (var ∷ []) closed.1 (inner x) (element x) (alike x)) (trees.conjuncts e (inner x) ∙ parts_true)

      abbrev Goal : Bool → List (List Range) → Type 0
      Goal lead rss = IsTrue (list_any (fits lead (fold meets (free ∷ []) rss)) (values_of (Each distinct item var over when) start))

      module _ (lead : Bool) (formed : IsFormedKey (Each distinct item var over when)) where
        any_chosen : (parts : List Expr) (test : Expr) → parts ≡ conjuncts_of test → IsTrue (are_among parts (conjuncts_in when)) → IsTrue (has_some (bounds_in item parts))
            → IsTrue (list_any (passes (Some (value_of test)) var env) (elements_in (value_of over env))) → Goal lead (bounds_in item parts)
        any_chosen parts test is among some h =
            let rss : List (List Range) = bounds_in item parts in
            let elements : List Value = elements_in (value_of over start) in
            let here : IsTrue (list_any (passes (Some (value_of test)) var env) elements) =
            subst (λ w. IsTrue (list_any (passes (Some (value_of test)) var env) (elements_in w))) (closed_here over formed.1.1) h in
            let each : (x : Value) → IsTrue (passes (Some (value_of test)) var env x) → IsTrue (keeps x && item_fits lead rss x) =
            λ x t. element_chosen lead parts formed.0.1 (when_by when formed.2 parts among) (λ l. some) x (ap (λ es. all_true es (inner x)) is ∙ (sym (trees.conjuncts test (inner x)) ∙ t)) in
            let kept : IsTrue (list_any (item_fits lead rss) (filter keeps elements)) =
            subst IsTrue (sym (list_any-filter keeps (item_fits lead rss) elements)) (list_any-implies (passes (Some (value_of test)) var env) (λ x. keeps x && item_fits lead rss x) each elements here) in
            subst IsTrue (sym (list_any-map (value_at_element (value_of item) var start) (fits lead (fold meets (free ∷ []) rss)) (filter keeps elements))) kept

        any_level : (name : List ℕ) (array test : Expr) → IsTrue (is_true (level_in (map-Expr Expr (Environment → Value) value_of (Expr-F.Any name array test)) env))
            → IsTrue (has_some (any_bounds item var over when (Expr-F.Any name array test))) → Goal lead (any_bounds item var over when (Expr-F.Any name array test))
        any_level name array test h some =
            let parts : List Expr = conjuncts_of test in
            let among : Bool = are_among parts (conjuncts_in when) in
            elim (bytes_eq name var && (same_tree array over && among)) as (λ b. (bytes_eq name var && (same_tree array over && among)) ≡ b → IsTrue (has_some (cond b (bounds_in item parts) [])) → Goal lead (cond b (bounds_in item parts) [])) [
              | true ↦ λ is k.
                  let two = both (bytes_eq name var) (same_tree array over && among) is in
                  let rest = both (same_tree array over) among two.1 in
                  any_chosen parts test refl rest.1 k
                  (over_true (passes (Some (value_of test)) var env) (value_of over env)
                  (subst (λ (n : List ℕ). IsTrue (is_true (over_elements (λ vs. value.Bool (list_any (passes (Some (value_of test)) n env) vs)) (value_of over env)))) ((bytes_eq-Decides name var).0 two.0)
                  (subst (λ a. IsTrue (is_true (over_elements (λ vs. value.Bool (list_any (passes (Some (value_of test)) name env) vs)) (value_of a env)))) (exact array over rest.0) h)))
              | false ↦ λ is k. absurd cc
            ] refl some

        each_level : (l : Expr-F Expr) → IsTrue (is_true (level_in (map-Expr Expr (Environment → Value) value_of l) env)) → IsTrue (has_some (any_bounds item var over when l)) → Goal lead (any_bounds item var over when l)
        each_level (Expr-F.Any name array test) h some = any_level name array test h some
        each_level l h some = absurd (true≢false (sym some))

        abbrev bounds_by : Expr → List (List Range)
        bounds_by c = any_bounds item var over when (out-Expr c)

        -- the first list of several that has something in it
        next_chosen : (rss : List (List Range)) (more : List (List (List Range))) → (IsTrue (has_some rss) → Goal lead rss) → (IsTrue (has_some (first_some more)) → Goal lead (first_some more))
            → IsTrue (has_some (first_some (rss ∷ more))) → Goal lead (first_some (rss ∷ more))
        next_chosen [] more here next some = next some
        next_chosen (rs ∷ rss) more here next some = here refl

        each_chosen : (es : List Expr) → IsTrue (all_true es env) → IsTrue (has_some (first_some (map bounds_by es))) → Goal lead (first_some (map bounds_by es))
        each_chosen [] h some = absurd cc
        each_chosen (c ∷ es) h some =
            let two = both (is_true (value_of c env)) (all_true es env) h in
            next_chosen (bounds_by c) (map bounds_by es)
            (each_level (out-Expr c) (subst (λ (f : Environment → Value). IsTrue (is_true (f env))) (fold_out-Expr (Environment → Value) level_in c) two.0))
            (each_chosen es two.1) some

    -- ---- all keys

    -- what a key needs: it is formed, an array key is bounded, and a leading key is bounded or META().id
    abbrev pub Serves : Bool → Key → Type 0
    Serves lead key = IsFormedKey key × (IsTrue (not (is_array key) || is_bounded cs key) × Leads lead key)

    chosen : (lead : Bool) (key : Key) → Serves lead key → IsTrue (all_true cs env) → Chosen lead key
    chosen lead (Plain e) serves h = plain_chosen lead e serves.0.1 serves.1.1 h
    chosen lead (Each distinct item var over when) serves h = each_chosen distinct item var over when lead serves.0 cs h serves.1.0

    abbrev pub AllServe : Bool → List Key → Type 0
    AllServe lead [] = Unit {0}
    AllServe lead (key ∷ keys) = Serves lead key × AllServe false keys

    -- a value of each key, in the ranges of its key
    abbrev all_fit : Bool → List (List Range) → List Datum → Bool
    all_fit lead [] [] = true
    all_fit lead (rs ∷ rss) (d ∷ ds) = fits lead rs (value_at d) && all_fit false rss ds
    all_fit lead _ _ = false

    any_after : (lead : Bool) (rs : List Range) (rss : List (List Range)) (d : Datum) (more : List (List Datum)) → IsTrue (fits lead rs (value_at d)) → IsTrue (list_any (all_fit false rss) more)
        → IsTrue (list_any (all_fit lead (rs ∷ rss)) (map (λ rest. d ∷ rest) more))
    any_after lead rs rss d [] h k = k
    any_after lead rs rss d (t ∷ ts) h k =
        let rest : List (List Datum) = map (λ rest. d ∷ rest) ts in
        or_cases (all_fit false rss t) (list_any (all_fit false rss) ts) k
        (λ l. or_left (fits lead rs (value_at d) && all_fit false rss t) (list_any (all_fit lead (rs ∷ rss)) rest) (and (fits lead rs (value_at d)) (all_fit false rss t) h l))
        (λ l. or_right (fits lead rs (value_at d) && all_fit false rss t) (list_any (all_fit lead (rs ∷ rss)) rest) (any_after lead rs rss d ts h l))

    any_combination : (lead : Bool) (rs : List Range) (rss : List (List Range)) (choices : List Datum) (more : List (List Datum)) → IsTrue (list_any (λ d. fits lead rs (value_at d)) choices) → IsTrue (list_any (all_fit false rss) more)
        → IsTrue (list_any (all_fit lead (rs ∷ rss)) (flat_map (λ d. map (λ rest. d ∷ rest) more) choices))
    any_combination lead rs rss [] more h k = h
    any_combination lead rs rss (d ∷ ds) more h k =
        let so : List Datum → Bool = all_fit lead (rs ∷ rss) in
        or_cases (fits lead rs (value_at d)) (list_any (λ d. fits lead rs (value_at d)) ds) h
        (λ l. any_left so (map (λ rest. d ∷ rest) more) (flat_map (λ d. map (λ rest. d ∷ rest) more) ds) (any_after lead rs rss d more l k))
        (λ l. any_right so (map (λ rest. d ∷ rest) more) (flat_map (λ d. map (λ rest. d ∷ rest) more) ds) (any_combination lead rs rss ds more l k))

    some_tuple : (lead : Bool) (keys : List Key) → AllServe lead keys → IsTrue (all_true cs env) → IsTrue (list_any (all_fit lead (map (ranges_of cs) keys)) (tuples_of keys start))
    some_tuple lead [] serve h = refl
    some_tuple lead (key ∷ keys) serve h =
        let rs : List Range = ranges_of cs key in
        let there : IsTrue (list_any (λ v. fits lead rs (value_at (datum_of v))) (values_of key start)) =
        list_any-implies (fits lead rs) (λ v. fits lead rs (value_at (datum_of v))) (λ v t. subst (λ w. IsTrue (fits lead rs w)) (sym (value_of-datum_of v)) t) (values_of key start) (chosen lead key serve.0 h) in
        any_combination lead rs (map (ranges_of cs) keys) (map datum_of (values_of key start)) (combinations (map (λ key. map datum_of (values_of key start)) keys))
        (subst IsTrue (sym (list_any-map datum_of (λ d. fits lead rs (value_at d)) (values_of key start))) there)
        (some_tuple false keys serve.1 h)

    -- ---- spans

    some_range : (rs : List Range) (d : Datum) → IsTrue (some_hold rs d) → IsTrue (has_some rs)
    some_range [] d h = absurd cc
    some_range (r ∷ rs) d h = refl

    fit_holds : (lead : Bool) (rs : List Range) (d : Datum) → IsTrue (fits lead rs (value_at d)) → IsTrue (some_hold rs d)
    fit_holds lead rs d h = subst (λ e. IsTrue (some_hold rs e)) (datum_of-value_of d) (both (some_hold rs (datum_of (value_at d))) (not lead || not (is_missing (value_at d))) h).0

    all_have : (lead : Bool) (rss : List (List Range)) (ds : List Datum) → IsTrue (all_fit lead rss ds) → IsTrue (list_all has_some rss)
    all_have lead [] [] h = refl
    all_have lead [] (d ∷ ds) h = absurd cc
    all_have lead (rs ∷ rss) [] h = absurd cc
    all_have lead (rs ∷ rss) (d ∷ ds) h =
        let two = both (fits lead rs (value_at d)) (all_fit false rss ds) h in
        and (has_some rs) (list_all has_some rss) (some_range rs d (fit_holds lead rs d two.0)) (all_have false rss ds two.1)

    hulls_hold : (rss : List (List Range)) (ds : List Datum) → IsTrue (all_fit false rss ds) → IsTrue (span_holds (map hull rss) ds)
    hulls_hold [] [] h = refl
    hulls_hold [] (d ∷ ds) h = absurd cc
    hulls_hold (rs ∷ rss) [] h = absurd cc
    hulls_hold (rs ∷ rss) (d ∷ ds) h =
        let two = both (fits false rs (value_at d)) (all_fit false rss ds) h in
        and (range_holds (hull rs) d) (span_holds (map hull rss) ds) (in_hull order rs d (fit_holds false rs d two.0)) (hulls_hold rss ds two.1)

    spans_hold : (rs : List Range) (rss : List (List Range)) (d : Datum) (ds : List Datum) → IsTrue (some_hold rs d) → IsTrue (span_holds (map hull rss) ds) → IsTrue (some_span_holds (map (λ r. r ∷ map hull rss) rs) (d ∷ ds))
    spans_hold [] rss d ds h k = h
    spans_hold (r ∷ rs) rss d ds h k =
        or_cases (range_holds r d) (some_hold rs d) h
        (λ t. or_left (range_holds r d && span_holds (map hull rss) ds) (some_span_holds (map (λ r. r ∷ map hull rss) rs) (d ∷ ds)) (and (range_holds r d) (span_holds (map hull rss) ds) t k))
        (λ t. or_right (range_holds r d && span_holds (map hull rss) ds) (some_span_holds (map (λ r. r ∷ map hull rss) rs) (d ∷ ds)) (spans_hold rs rss d ds t k))

    fit_in_span : (rs : List Range) (rss : List (List Range)) (ds : List Datum) → IsTrue (all_fit true (rs ∷ rss) ds) → IsTrue (has_leading ds && some_span_holds (spans_over (rs ∷ rss)) ds)
    fit_in_span rs rss [] h = absurd cc
    fit_in_span rs rss (d ∷ ds) h =
        let two = both (fits true rs (value_at d)) (all_fit false rss ds) h in
        and (not (is_missing (value_at d))) (some_span_holds (spans_over (rs ∷ rss)) (d ∷ ds))
        (both (some_hold rs (datum_of (value_at d))) (not (is_missing (value_at d))) two.0).1 (spans_hold rs rss d ds (fit_holds true rs d two.0) (hulls_hold rss ds two.1))

    -- ---- rows

    abbrev pub in_spans : List (List Range) → Row → Bool
    in_spans spans row = some_span_holds spans row.keys

    once_kept : (so : Row → Bool) (distinct : Bool) (rows : List Row) → IsTrue (list_any so rows) → IsTrue (list_any so (once_if distinct rows))
    once_kept so true rows h = subst IsTrue (sym (list_any-each_once {R = row_cmp} order.exact_rows so rows)) h
    once_kept so false rows h = h

    abbrev row_with : List Datum → Row
    row_with tuple = record { keys = tuple; id = id }

    rows_hold : (spans : List (List Range)) (tuples : List (List Datum)) → IsTrue (list_any (λ t. has_leading t && some_span_holds spans t) tuples) → IsTrue (list_any (in_spans spans) (rows_of_tuples tuples id))
    rows_hold spans tuples h =
        subst IsTrue (sym (list_any-map row_with (in_spans spans) (filter has_leading tuples))) (subst IsTrue (sym (list_any-filter has_leading (some_span_holds spans) tuples)) h)

    -- the filter's conjuncts are among those of WHERE, and read no name that is bound outside of them
    pub admitted : (es : List Expr) → All (IsFormedIn []) es → IsTrue (are_among cs es) → IsTrue (all_true cs env) → IsTrue (list_all (λ e. is_true (value_of e start)) es)
    admitted [] formed among h = refl
    admitted (e ∷ es) formed among h =
        let two = both (is_among cs e) (are_among cs es) among in
        let first : IsFormedIn [] e = first_all (IsFormedIn []) e es formed in
        and (is_true (value_of e start)) (list_all (λ e. is_true (value_of e start)) es)
        (subst (λ v. IsTrue (is_true v)) (closed_here e first.1) (all_of_any (λ c. is_true (value_of c env)) same_tree exact e cs two.0 h))
        (admitted es (later_all (IsFormedIn []) e es formed) two.1 h)

    pub in_some_span : (def : IndexDef) (key : Key) (keys : List Key) → def.keys ≡ key ∷ keys → AllServe true (key ∷ keys) → IsTrue (is_admitted def start) → IsTrue (all_true cs env)
        → IsTrue (list_any (in_spans (spans_of cs def)) (keys_of def id doc))
    in_some_span def key keys is serve admitted h =
        let ranges : List (List Range) = map (ranges_of cs) (key ∷ keys) in
        let tuples : List (List Datum) = tuples_of (key ∷ keys) start in
        let some : IsTrue (list_any (all_fit true ranges) tuples) = some_tuple true (key ∷ keys) serve h in
        let one = found (all_fit true ranges) tuples some in
        let have : IsTrue (list_all has_some ranges) = all_have true ranges one.0 one.1 in
        let spans : spans_of cs def ≡ spans_over ranges = ap (λ ks. if list_all has_some (map (ranges_of cs) ks) then spans_over (map (ranges_of cs) ks) else []) is ∙ rw have refl in
        let rows : IsTrue (list_any (in_spans (spans_over ranges)) (rows_of_tuples tuples id)) =
        rows_hold (spans_over ranges) tuples (list_any-implies (all_fit true ranges) (λ t. has_leading t && some_span_holds (spans_over ranges) t) (fit_in_span (ranges_of cs key) (map (ranges_of cs) keys)) tuples some) in
        let all_rows : IsTrue (list_any (in_spans (spans_of cs def)) (rows_of_tuples (tuples_of def.keys start) id)) =
        subst (λ (p : List (List Range) × List Key). IsTrue (list_any (in_spans p.0) (rows_of_tuples (tuples_of p.1 start) id))) (sym (ap₂ (λ (a : List (List Range)) (b : List Key). (a, b)) spans is)) rows in
        let kept : List Row = once_if (list_any is_distinct def.keys) (rows_of_tuples (tuples_of def.keys start) id) in
        rw admitted (subst IsTrue (sym (list_any-sort_of row_cmp (in_spans (spans_of cs def)) kept))
        (once_kept (in_spans (spans_of cs def)) (list_any is_distinct def.keys) (rows_of_tuples (tuples_of def.keys start) id) all_rows))

    abbrev pub serves_later : Key → Bool
    serves_later key = not (is_array key) || is_bounded cs key

    later_serve : (keys : List Key) → All IsFormedKey keys → IsTrue (list_all serves_later keys) → AllServe false keys
    later_serve [] formed h = tt
    later_serve (key ∷ keys) formed h =
        let s = both (serves_later key) (list_all serves_later keys) h in
        ((first_all IsFormedKey key keys formed, (s.0, λ l. absurd (true≢false (sym l)))), later_serve keys (later_all IsFormedKey key keys formed) s.1)

    pub all_serve : (key : Key) (keys : List Key) → All IsFormedKey (key ∷ keys) → IsTrue (is_bounded cs key) → IsTrue (list_all serves_later (key ∷ keys)) → AllServe true (key ∷ keys)
    all_serve key keys formed some h =
        let s = both (serves_later key) (list_all serves_later keys) h in
        ((first_all IsFormedKey key keys formed, (s.0, λ l. inl some)), later_serve keys (later_all IsFormedKey key keys formed) s.1)
