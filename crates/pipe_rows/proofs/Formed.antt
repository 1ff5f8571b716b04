-- The expressions of a statement that is formed can be evaluated.
use Rattle.std.proofs.Common.{ℕ, List, [], ◌∷◌, ◌++◌, Option, Some, None, IfSome}
use Rattle.std.specs.List.{All, AllByRecursion}
use Rattle.std.proofs.lemmas.List.Elements.{All-from_recursion, All-weaker}
use Rattle.n1ql_ast.specs.declared.expr.Expr.{Expr}
use Rattle.n1ql_ast.specs.declared.order.Order.{Order}
use Rattle.n1ql_ast.specs.declared.selection.Selection.{Selection}
use Rattle.n1ql_ast.specs.declared.term.Term.{Term}
use Rattle.n1ql_ast.specs.declared.term.Term.TheVariants as term
use Rattle.n1ql_ast.specs.declared.unnest.Unnest.{Unnest}
use Rattle.n1ql_ast.specs.FormedSelections.{AreFormedUnnests, IsFormedOfGroup, IsFormedSelect, IsFormedTerm, unnest_names}
use Rattle.n1ql_ast.specs.FormedStatements.{IsFormedIn}
use Rattle.n1ql_ast.specs.Forms.{IsWellFormed}
use Rattle.pipe_rows.specs.Evaluable.{IsEvaluable, IsEvaluableTerm}

weaker_if_any : {A : Type 0} (P Q : A → Type 0) → ((x : A) → P x → Q x) → (o : Option A) → IfSome o P → IfSome o Q
weaker_if_any P Q h None is = _
weaker_if_any P Q h (Some x) is = h x is

formed_term : (names : List (List ℕ)) (t : Term Expr) → IsFormedTerm names t → IsEvaluableTerm t
formed_term names term.All h = _
formed_term names (term.Spread name) h = _
formed_term names (term.One value name given) h = h.0.0

formed_unnests : (names : List (List ℕ)) (us : List (Unnest Expr)) → AreFormedUnnests names us → AllByRecursion (λ (u : Unnest Expr). IsWellFormed u.over) us
formed_unnests names [] h = _
formed_unnests names (u ∷ us) h = (h.0.0.0, formed_unnests (names ++ u.name ∷ []) us h.1)

pub evaluable : (q : Selection Expr) → IsFormedSelect q → IsEvaluable q
evaluable q formed =
    let names : List (List ℕ) = unnest_names q.unnests in
    record {
      raw = weaker_if_any (IsFormedOfGroup names) IsWellFormed (λ e h. h.0.0) q.raw formed.raw;
      terms = All-weaker (IsFormedTerm names) IsEvaluableTerm (formed_term names) q.terms formed.terms;
      unnests = All-from_recursion (λ (u : Unnest Expr). IsWellFormed u.over) q.unnests (formed_unnests [] q.unnests formed.unnests);
      filter = weaker_if_any (IsFormedIn names) IsWellFormed (λ e h. h.0.0) q.filter formed.filter;
      orders = All-weaker (λ (o : Order Expr). IsFormedOfGroup names o.key) (λ (o : Order Expr). IsWellFormed o.key) (λ o h. h.0.0) q.orders formed.orders;
    }
