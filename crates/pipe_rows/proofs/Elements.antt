-- Rows for the elements from a place on, and the pairs of the terms from a place on.
use Rattle.std.proofs.Common.{◌≡◌, ◌<◌, ◌+◌, ℕ, suc, List, [], ◌∷◌, ◌++◌, length, get_or, drop, map, add-one, drop-cons, sym, ap, ◌∙◌}
use Rattle.std.specs.List.{fold}
use Rattle.std.proofs.lemmas.List.{map-append, append_assoc}
use Rattle.std.proofs.lemmas.List.Sums.{fold-append}
use Rattle.n1ql_value.specs.declared.datum.Datum.{Datum}
use Rattle.n1ql_value.specs.declared.value.Value.{Value}
use Rattle.n1ql_value.specs.Constructors.{with_given}
use Rattle.n1ql_value.specs.Datum.{datum_of, value_of-datum_of}
use Rattle.n1ql_ast.specs.declared.expr.Expr.{Expr}
use Rattle.n1ql_ast.specs.declared.selection.Selection.{Selection}
use Rattle.n1ql_ast.specs.declared.term.Term.{Term}
use Rattle.n1ql_meaning.specs.Results.{Subject, pairs_of_term, pairs_of_terms}
use Rattle.n1ql_meaning.specs.Rows.{InputRow, with_element, with_elements}
use Rattle.pipe_rows.specs.declared.pipe_row.PipeRow.{PipeRow}
use Rattle.pipe_rows.specs.Pipes.{row_of}

pub elements_more : (name : List ℕ) (base : InputRow) (at : ℕ) (v : Value) (vs ws : List Value) (made : List PipeRow) (r : PipeRow)
    → ws ≡ v ∷ vs → row_of r ≡ with_element name base at v
    → map row_of (made ++ r ∷ []) ++ with_elements name base (suc at) (map datum_of vs)
    ≡ map row_of made ++ with_elements name base at (map datum_of ws)
elements_more name base at v vs ws made r e h =
    ap (λ rs. rs ++ with_elements name base (suc at) (map datum_of vs)) (map-append row_of made (r ∷ []))
    ∙ (append_assoc (map row_of made) (row_of r ∷ []) (with_elements name base (suc at) (map datum_of vs))
    ∙ (ap (λ w. map row_of made ++ w ∷ with_elements name base (suc at) (map datum_of vs))
    (h ∙ ap (with_element name base at) (sym (value_of-datum_of v)))
    ∙ ap (λ us. map row_of made ++ with_elements name base at (map datum_of us)) (sym e)))

pub terms_more : (q : Selection Expr) (s : Subject) (at : ℕ) (t : Term Expr) (ts ws : List (Term Expr)) (ps more : List (List ℕ × Datum))
    → ws ≡ t ∷ ts → more ≡ fold with_given ps (pairs_of_term q s at t)
    → fold with_given more (pairs_of_terms q s (suc at) ts) ≡ fold with_given ps (pairs_of_terms q s at ws)
terms_more q s at t ts ws ps more e h =
    ap (λ z. fold with_given z (pairs_of_terms q s (suc at) ts)) h
    ∙ (sym (fold-append with_given ps (pairs_of_term q s at t) (pairs_of_terms q s (suc at) ts))
    ∙ ap (λ us. fold with_given ps (pairs_of_terms q s at us)) (sym e))

pub elements_step : (name : List ℕ) (base : InputRow) (at : ℕ) (item v : Value) (items : List Value) (old new : List PipeRow) (r : PipeRow) (whole : List InputRow)
    → item ≡ get_or items at item → at < length items → v ≡ item → row_of r ≡ with_element name base at v → new ≡ old ++ r ∷ []
    → map row_of old ++ with_elements name base at (map datum_of (drop at items)) ≡ whole
    → map row_of new ++ with_elements name base (at + 1) (map datum_of (drop (at + 1) items)) ≡ whole
elements_step name base at item v items old new r whole is lt e h n i =
    rw add-one (ap (λ rs. map row_of rs ++ with_elements name base (suc at) (map datum_of (drop (suc at) items))) n
    ∙ (elements_more name base at item (drop (suc at) items) (drop at items) old r
    (drop-cons items at item lt ∙ ap (λ z. z ∷ drop (suc at) items) (sym is)) (h ∙ ap (with_element name base at) e)
    ∙ i))

pub terms_step : (q : Selection Expr) (s : Subject) (at : ℕ) (t : Term Expr) (terms : List (Term Expr)) (ps more whole : List (List ℕ × Datum))
    → t ≡ get_or terms at t → at < length terms → more ≡ fold with_given ps (pairs_of_term q s (at + 1) t)
    → fold with_given ps (pairs_of_terms q s (suc at) (drop at terms)) ≡ whole
    → fold with_given more (pairs_of_terms q s (suc (at + 1)) (drop (at + 1) terms)) ≡ whole
terms_step q s at t terms ps more whole is lt h i =
    rw add-one (terms_more q s (suc at) t (drop (suc at) terms) (drop at terms) ps more
    (drop-cons terms at t lt ∙ ap (λ z. z ∷ drop (suc at) terms) (sym is)) (rw add-one at h)
    ∙ i)
