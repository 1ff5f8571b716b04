-- The rows of a statement go document by document, and those of a document are that document with its elements bound.
use Rattle.std.proofs.Common.{◌≡◌, ℕ, suc, Bool, true, false, List, [], ◌∷◌, ◌++◌, map, cond, reverse, refl, sym, ap, subst, ◌∙◌, append_assoc}
use Rattle.std.specs.Prelude.{unwrap_or}
use Rattle.std.specs.List.{AllByRecursion, filter, flat_map}
use Rattle.std.proofs.lemmas.List.{reverse-append}
use Rattle.std.proofs.lemmas.List.Concat.{flat_map-append}
use Rattle.std.proofs.lemmas.List.Elements.{filter-append}
use Rattle.n1ql_value.specs.declared.datum.Datum.{Datum}
use Rattle.n1ql_value.specs.declared.value.Value.{Value}
use Rattle.n1ql_value.specs.declared.value.Value.TheVariants.{Missing}
use Rattle.n1ql_value.specs.Datum.{value_of as value_at}
use Rattle.n1ql_value.specs.Kinds.{array_in}
use Rattle.n1ql_ast.specs.declared.expr.Expr.{Expr}
use Rattle.n1ql_ast.specs.declared.selection.Selection.{Selection}
use Rattle.n1ql_ast.specs.declared.unnest.Unnest.{Unnest}
use Rattle.n1ql_ast.specs.Evaluation.{inside, value_of}
use Rattle.n1ql_ast.specs.FormedSelections.{unnest_names}
use Rattle.n1ql_meaning.specs.Rows.{InputRow, IsRejected, document_with, meets, row_of_document, rows_from, rows_of, unnested, unnested_by, unnested_over, with_element, with_elements}

-- ---- one list after another

unnested_by-append : (us : List (Unnest Expr)) (xs ys : List InputRow) → unnested_by us (xs ++ ys) ≡ unnested_by us xs ++ unnested_by us ys
unnested_by-append [] xs ys = refl
unnested_by-append (u ∷ us) xs ys = ap (unnested_by us) (flat_map-append (unnested u) xs ys) ∙ unnested_by-append us (flat_map (unnested u) xs) (flat_map (unnested u) ys)

abbrev kept : Selection Expr → InputRow → Bool
kept q row = meets q.filter row.env

pub rows_from-append : (q : Selection Expr) (xs ys : List InputRow) → rows_from q (xs ++ ys) ≡ rows_from q xs ++ rows_from q ys
rows_from-append q xs ys = ap (filter (kept q)) (unnested_by-append q.unnests xs ys) ∙ filter-append (kept q) (unnested_by q.unnests xs) (unnested_by q.unnests ys)

unnested_by-nil : (us : List (Unnest Expr)) → unnested_by us [] ≡ []
unnested_by-nil [] = refl
unnested_by-nil (u ∷ us) = unnested_by-nil us

pub rows_from-nil : (q : Selection Expr) → rows_from q [] ≡ []
rows_from-nil q = ap (filter (kept q)) (unnested_by-nil q.unnests)

-- the rows of documents are those of the first and then those of the others
pub rows_of-cons : (q : Selection Expr) (e : List ℕ × Value) (docs : List (List ℕ × Value)) → rows_of q (e ∷ docs) ≡ rows_of q (e ∷ []) ++ rows_of q docs
rows_of-cons q e docs = rows_from-append q (row_of_document e ∷ []) (map row_of_document docs)

pub by_document : (q : Selection Expr) (docs : List (List ℕ × Value)) → rows_of q docs ≡ flat_map (λ e. rows_of q (e ∷ [])) docs
by_document q [] = rows_from-nil q
by_document q (e ∷ docs) = rows_of-cons q e docs ∙ ap (λ rows. rows_of q (e ∷ []) ++ rows) (by_document q docs)

-- ---- each row is its document, with elements bound

abbrev names_in : List (List ℕ × Value) → List (List ℕ)
names_in bound = map (λ (b : List ℕ × Value). b.0) bound

abbrev pub IsRowOf : List ℕ × Value → List (List ℕ) → InputRow → Type 0
IsRowOf e names row = (bound : List (List ℕ × Value)) × (row.env ≡ document_with bound e) × (names_in bound ≡ names)

pub all-append : {X : Type 0} (P : X → Type 0) (xs ys : List X) → AllByRecursion P xs → AllByRecursion P ys → AllByRecursion P (xs ++ ys)
all-append P [] ys h k = k
all-append P (x ∷ xs) ys h k = (h.0, all-append P xs ys h.1 k)

element_of : (e : List ℕ × Value) (names : List (List ℕ)) (name : List ℕ) (row : InputRow) (place : ℕ) (v : Value)
    → IsRowOf e names row → IsRowOf e (name ∷ names) (with_element name row place v)
element_of e names name row place v h = ((name, v) ∷ h.0, ap (inside name v) h.1, ap (λ ns. name ∷ ns) h.2)

elements_of : (e : List ℕ × Value) (names : List (List ℕ)) (name : List ℕ) (row : InputRow) (place : ℕ) (ds : List Datum)
    → IsRowOf e names row → AllByRecursion (IsRowOf e (name ∷ names)) (with_elements name row place ds)
elements_of e names name row place [] h = tt
elements_of e names name row place (d ∷ ds) h = (element_of e names name row place (value_at d) h, elements_of e names name row (suc place) ds h)

over_of : (e : List ℕ × Value) (names : List (List ℕ)) (u : Unnest Expr) (row : InputRow) (ds : List Datum)
    → IsRowOf e names row → AllByRecursion (IsRowOf e (u.name ∷ names)) (unnested_over u row ds)
over_of e names u row [] h =
    elim u.left as (λ b. AllByRecursion (IsRowOf e (u.name ∷ names)) (cond b (with_element u.name row 0 Missing ∷ []) [])) [
      | true ↦ (element_of e names u.name row 0 Missing h, tt)
      | false ↦ tt
    ]
over_of e names u row (d ∷ ds) h = elements_of e names u.name row 0 (d ∷ ds) h

unnested_of : (e : List ℕ × Value) (names : List (List ℕ)) (u : Unnest Expr) (rows : List InputRow)
    → AllByRecursion (IsRowOf e names) rows → AllByRecursion (IsRowOf e (u.name ∷ names)) (flat_map (unnested u) rows)
unnested_of e names u [] h = tt
unnested_of e names u (row ∷ rows) h =
    all-append (IsRowOf e (u.name ∷ names)) (unnested u row) (flat_map (unnested u) rows)
    (over_of e names u row (unwrap_or (array_in (value_of u.over row.env)) []) h.0) (unnested_of e names u rows h.1)

one_further : (name : List ℕ) (names more : List (List ℕ)) → reverse names ++ name ∷ more ≡ reverse (name ∷ names) ++ more
one_further name names more = sym (ap (λ ns. ns ++ more) (reverse-append (name ∷ []) names) ∙ append_assoc (reverse names) (name ∷ []) more)

unnested_by_of : (e : List ℕ × Value) (names : List (List ℕ)) (us : List (Unnest Expr)) (rows : List InputRow)
    → AllByRecursion (IsRowOf e names) rows → AllByRecursion (IsRowOf e (reverse (unnest_names us) ++ names)) (unnested_by us rows)
unnested_by_of e names [] rows h = h
unnested_by_of e names (u ∷ us) rows h =
    subst (λ ns. AllByRecursion (IsRowOf e ns) (unnested_by us (flat_map (unnested u) rows))) (one_further u.name (unnest_names us) names)
    (unnested_by_of e (u.name ∷ names) us (flat_map (unnested u) rows) (unnested_of e names u rows h))

without_more : {X : Type 0} (xs : List X) → xs ++ [] ≡ xs
without_more [] = refl
without_more (x ∷ xs) = ap (λ ys. x ∷ ys) (without_more xs)

-- before WHERE
pub rows_are_of : (q : Selection Expr) (e : List ℕ × Value)
    → AllByRecursion (IsRowOf e (reverse (unnest_names q.unnests))) (unnested_by q.unnests (row_of_document e ∷ []))
rows_are_of q e =
    subst (λ ns. AllByRecursion (IsRowOf e ns) (unnested_by q.unnests (row_of_document e ∷ []))) (without_more (reverse (unnest_names q.unnests)))
    (unnested_by_of e [] q.unnests (row_of_document e ∷ []) (([], refl, refl), tt))

none_kept : {X : Type 0} (so : X → Bool) (P : X → Type 0) → ((x : X) → P x → so x ≡ false) → (xs : List X) → AllByRecursion P xs → filter so xs ≡ []
none_kept so P never [] h = refl
none_kept so P never (x ∷ xs) h = rw (never x h.0) (none_kept so P never xs h.1)

pub none_of_rejected : (q : Selection Expr) (e : List ℕ × Value) → IsRejected q e → rows_of q (e ∷ []) ≡ []
none_of_rejected q e never =
    none_kept (kept q) (IsRowOf e (reverse (unnest_names q.unnests)))
    (λ row h. ap (meets q.filter) h.1 ∙ never h.0 h.2) (unnested_by q.unnests (row_of_document e ∷ [])) (rows_are_of q e)

-- ---- documents without rows

pub left_out : (q : Selection Expr) (keep : List ℕ × Value → Bool) (docs : List (List ℕ × Value))
    → AllByRecursion (λ e. keep e ≡ false → rows_of q (e ∷ []) ≡ []) docs → rows_of q (filter keep docs) ≡ rows_of q docs
left_out q keep [] h = refl
left_out q keep (e ∷ docs) h =
    elim (keep e) as (λ b. keep e ≡ b → rows_of q (cond b (e ∷ filter keep docs) (filter keep docs)) ≡ rows_of q (e ∷ docs)) [
      | true ↦ λ is.
          rows_of-cons q e (filter keep docs) ∙ (ap (λ rows. rows_of q (e ∷ []) ++ rows) (left_out q keep docs h.1) ∙ sym (rows_of-cons q e docs))
      | false ↦ λ is. left_out q keep docs h.1 ∙ sym (rows_of-cons q e docs ∙ ap (λ rows. rows ++ rows_of q docs) (h.0 is))
    ] refl
