-- What a row gives rests on its environment alone.
use Rattle.std.proofs.Common.{◌≡◌, ℕ, suc, List, [], ◌∷◌, ◌++◌, map, refl, ap, ap₂, ◌∙◌}
use Rattle.std.specs.Borrow.{Bor}
use Rattle.std.specs.Option.{option_map_or}
use Rattle.n1ql_value.specs.declared.datum.Datum.{Datum}
use Rattle.n1ql_value.specs.declared.value.Value.{Value}
use Rattle.n1ql_value.specs.Constructors.{object_of}
use Rattle.n1ql_value.specs.Datum.{datum_of}
use Rattle.n1ql_ast.specs.declared.expr.Expr.{Expr}
use Rattle.n1ql_ast.specs.declared.order.Order.{Order}
use Rattle.n1ql_ast.specs.declared.selection.Selection.{Selection}
use Rattle.n1ql_ast.specs.declared.term.Term.{Term}
use Rattle.n1ql_ast.specs.declared.term.Term.TheVariants.{All, Spread, One}
use Rattle.n1ql_ast.specs.Evaluation.{Environment}
use Rattle.n1ql_meaning.specs.OrderKeys.{order_key}
use Rattle.n1ql_meaning.specs.Results.{PlacedResult, pairs_of_term, pairs_of_terms, placed_result, result_of, row_alone, value_on}
use Rattle.n1ql_meaning.specs.Rows.{InputRow}
use Rattle.pipe_rows.specs.Pipes.{alone}

term_same : (q : Selection Expr) (row : InputRow) (at : ℕ) (t : Term Expr) → pairs_of_term q (alone row.env) at t ≡ pairs_of_term q (row_alone row) at t
term_same q row at All = refl
term_same q row at (Spread name) = refl
term_same q row at (One e name given) = refl

terms_same : (q : Selection Expr) (row : InputRow) (at : ℕ) (ts : List (Term Expr)) → pairs_of_terms q (alone row.env) at ts ≡ pairs_of_terms q (row_alone row) at ts
terms_same q row at [] = refl
terms_same q row at (t ∷ ts) = ap₂ ◌++◌ (term_same q row at t) (terms_same q row (suc at) ts)

pub same_result : (q : Selection Expr) (row : InputRow) → result_of q (alone row.env) ≡ result_of q (row_alone row)
same_result q row = ap (λ ps. option_map_or (value_on (row_alone row)) q.raw (object_of ps)) (terms_same q row 1 q.terms)

key_values : (row : InputRow) (keys : List (Bor Expr)) → map (λ (key : Bor Expr). datum_of (value_on (alone row.env) key.now)) keys
    ≡ map (λ e. datum_of (value_on (row_alone row) e)) (map (λ (key : Bor Expr). key.now) keys)
key_values row [] = refl
key_values row (key ∷ keys) = ap (λ ds. datum_of (value_on (row_alone row) key.now) ∷ ds) (key_values row keys)

order_values : (q : Selection Expr) (row : InputRow) (os : List (Order Expr)) → map (λ e. datum_of (value_on (row_alone row) e)) (map (order_key q) os)
    ≡ map (λ o. datum_of (value_on (row_alone row) (order_key q o))) os
order_values q row [] = refl
order_values q row (o ∷ os) = ap (λ ds. datum_of (value_on (row_alone row) (order_key q o)) ∷ ds) (order_values q row os)

abbrev out_made : Value → List Datum → List Datum → PlacedResult
out_made result order base = record { result = result; order = order; base = base }

pub same_out : (q : Selection Expr) (row : InputRow) (keys : List (Bor Expr)) (result : Value) (order base : List Datum)
    → map (λ (key : Bor Expr). key.now) keys ≡ map (order_key q) q.orders → result ≡ result_of q (alone row.env)
    → order ≡ map (λ (key : Bor Expr). datum_of (value_on (alone row.env) key.now)) keys → base ≡ row.base
    → out_made result order base ≡ placed_result q (row_alone row)
same_out q row keys result order base k r o b =
    ap (λ v. out_made v order base) (r ∙ same_result q row)
    ∙ (ap (λ ds. out_made (result_of q (row_alone row)) ds base)
    (o ∙ (key_values row keys ∙ (ap (map (λ e. datum_of (value_on (row_alone row) e))) k ∙ order_values q row q.orders)))
    ∙ ap (λ ds. out_made (result_of q (row_alone row)) (map (λ o. datum_of (value_on (row_alone row) (order_key q o))) q.orders) ds) b)

-- so does what was worked out on the environment of the row
pub out_on : (q : Selection Expr) (row : InputRow) (keys : List (Bor Expr)) (env : Environment) (result : Value) (order base : List Datum)
    → env ≡ row.env → map (λ (key : Bor Expr). key.now) keys ≡ map (order_key q) q.orders → result ≡ result_of q (alone env)
    → order ≡ map (λ (key : Bor Expr). datum_of (value_on (alone env) key.now)) keys → base ≡ row.base
    → out_made result order base ≡ placed_result q (row_alone row)
out_on q row keys env result order base v k r o b =
    same_out q row keys result order base k (r ∙ ap (λ e. result_of q (alone e)) v)
    (o ∙ ap (λ e. map (λ (key : Bor Expr). datum_of (value_on (alone e) key.now)) keys) v) b
