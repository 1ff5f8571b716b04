-- What the keys of ORDER BY mean can be evaluated.
use Rattle.std.proofs.Common.{◌≡◌, ℕ, true, false, Bool, cond, List, [], ◌∷◌, map, Option, Some, None, IfSome, unwrap_or, subst, sym}
use Rattle.std.specs.Borrow.{Bor}
use Rattle.std.specs.List.{All, fold}
use Rattle.std.specs.Option.{option_and_then, option_or}
use Rattle.std.specs.Str.{bytes_eq}
use Rattle.std.proofs.lemmas.List.Elements.{All-cons, All-head, All-nil, All-tail}
use Rattle.n1ql_ast.specs.declared.expr.Expr.{Expr}
use Rattle.n1ql_ast.specs.declared.order.Order.{Order}
use Rattle.n1ql_ast.specs.declared.selection.Selection.{Selection}
use Rattle.n1ql_ast.specs.declared.term.Term.{Term}
use Rattle.n1ql_ast.specs.declared.term.Term.TheVariants.{One, Spread}
use Rattle.n1ql_ast.specs.declared.term.Term.TheVariants as term
use Rattle.n1ql_ast.specs.Forms.{IsWellFormed}
use Rattle.n1ql_meaning.specs.OrderKeys.{given_as, last_given_as, order_key}
use Rattle.pipe_rows.specs.Evaluable.{IsEvaluable, IsEvaluableTerm}

-- where a choice is well formed, so is what it gives
chosen : (b : Bool) (e : Expr) → IsWellFormed e → IfSome (cond b (Some e) None) IsWellFormed
chosen true e h = h
chosen false e h = _

given_well : (name : List ℕ) (t : Term Expr) → IsEvaluableTerm t → IfSome (given_as name t) IsWellFormed
given_well name (One e (Some own) true) h = chosen (bytes_eq name own) e h
given_well name (One e (Some own) false) h = _
given_well name (One e None g) h = _
given_well name (Spread n) h = _
given_well name term.All h = _

either_well : (a b : Option Expr) → IfSome a IsWellFormed → IfSome b IsWellFormed → IfSome (option_or a b) IsWellFormed
either_well None b h k = k
either_well (Some e) b h k = h

last_well : (name : List ℕ) (found : Option Expr) (ts : List (Term Expr)) → IfSome found IsWellFormed → All IsEvaluableTerm ts
    → IfSome (fold (λ found t. option_or (given_as name t) found) found ts) IsWellFormed
last_well name found [] h all = h
last_well name found (t ∷ ts) h all =
    last_well name (option_or (given_as name t) found) ts
    (either_well (given_as name t) found (given_well name t (All-head IsEvaluableTerm t ts all)) h) (All-tail IsEvaluableTerm t ts all)

or_own : (found : Option Expr) (e : Expr) → IfSome found IsWellFormed → IsWellFormed e → IsWellFormed (unwrap_or found e)
or_own None e h k = k
or_own (Some x) e h k = h

meant_well : (ts : List (Term Expr)) (alone : Option (List ℕ)) → All IsEvaluableTerm ts
    → IfSome (option_and_then (λ name. last_given_as name ts) alone) IsWellFormed
meant_well ts None all = _
meant_well ts (Some name) all = last_well name None ts _ all

pub key_well : (q : Selection Expr) → IsEvaluable q → (os : List (Order Expr)) → All (λ (o : Order Expr). IsWellFormed o.key) os
    → All IsWellFormed (map (order_key q) os)
key_well q f [] all = All-nil IsWellFormed
key_well q f (o ∷ os) all =
    All-cons IsWellFormed (order_key q o) (map (order_key q) os)
    (or_own (option_and_then (λ name. last_given_as name q.terms) o.alone) o.key (meant_well q.terms o.alone f.terms)
    (All-head (λ (o : Order Expr). IsWellFormed o.key) o os all))
    (key_well q f os (All-tail (λ (o : Order Expr). IsWellFormed o.key) o os all))

pub All-of_map : {X Y : Type 0} (P : X → Type 0) (f : Y → X) (ys : List Y) → All P (map f ys) → All (λ y. P (f y)) ys
All-of_map P f [] h = All-nil (λ y. P (f y))
All-of_map P f (y ∷ ys) h = All-cons (λ z. P (f z)) y ys (All-head P (f y) (map f ys) h) (All-of_map P f ys (All-tail P (f y) (map f ys) h))

-- what the keys of ORDER BY mean can be evaluated
pub keys_well : (q : Selection Expr) (keys : List (Bor Expr)) → IsEvaluable q → map (λ (key : Bor Expr). key.now) keys ≡ map (order_key q) q.orders
    → All (λ (key : Bor Expr). IsWellFormed key.now) keys
keys_well q keys f e =
    All-of_map IsWellFormed (λ (key : Bor Expr). key.now) keys (subst (All IsWellFormed) (sym e) (key_well q f q.orders f.orders))
