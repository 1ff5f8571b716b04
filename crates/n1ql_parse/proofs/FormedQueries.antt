-- Each expression of a SELECT can be evaluated, on a document or on a group, and its variables are bound around it.
use Rattle.std.proofs.Common.{◌≡◌, ℕ, ◌<◌, true, false, List, [], ◌∷◌, ◌++◌, map, length, Option, None, refl, sym, subst, ◌∙◌, append_assoc, append-nil, arith}
use Rattle.std.specs.Prelude.{◌^◌, unwrap_or, Result, Ok, Err, IfOk}
use Rattle.std.specs.Option.{IfSome, option_map}
use Rattle.std.specs.List.{All}
use Rattle.std.proofs.lemmas.List.Elements.{All-nil, All-cons}
use Rattle.n1ql_ast.specs.declared.expr.Expr.{Expr}
use Rattle.n1ql_ast.specs.declared.order.Order.{Order}
use Rattle.n1ql_ast.specs.declared.scope.Scope.{Scope}
use Rattle.n1ql_ast.specs.declared.selection.Selection.{Selection}
use Rattle.n1ql_ast.specs.declared.term.Term.{Term}
use Rattle.n1ql_ast.specs.declared.token_class.TokenClass.{TokenClass}
use Rattle.n1ql_ast.specs.declared.unnest.Unnest.{Unnest}
use Rattle.n1ql_ast.specs.declared.unresolved_expr.UnresolvedExpr.{UnresolvedExpr}
use Rattle.n1ql_ast.specs.FormedSelections.{AreFormedUnnests, IsFormedOfGroup, IsFormedSelect, IsFormedTerm, unnest_names}
use Rattle.n1ql_ast.specs.FormedStatements.{IsFormedIn}
use Rattle.n1ql_ast.specs.Grammar as g
use Rattle.n1ql_ast.specs.Grammar.{IsExpr, IsExprs, MoreExprs}
use Rattle.n1ql_ast.specs.Names.{inside, outermost, resolved}
use Rattle.n1ql_ast.specs.ResolvedSelections.{order_in, resolved_select, scope_behind, select_in, term_in, unnests_in}
use Rattle.n1ql_ast.specs.Selections as q
use Rattle.n1ql_ast.specs.Selections.{AreUnnests, IsOrder, IsOrders, IsResult, IsSelect, IsWholeSelect, IsTerm, IsTerms, MayFilter, MayGroup, MayHaving, MayLimit, MayOffset, MayOrder, MoreOrders, MoreTerms}
use Rattle.n1ql_parse.specs.declared.parse_fault.ParseFault.{ParseFault}
use Rattle.n1ql_parse.proofs.Formed.{kept}
use Rattle.n1ql_parse.proofs.FormedDefinitions.{Bound, expr-formed}
use Rattle.n1ql_parse.proofs.Whole.{allows-apart, allows-counts, apart_where, counted_where}

-- The names of the UNNESTs are those that the scope behind them binds.

names-behind : (s : Scope) (us : List (Unnest UnresolvedExpr)) → s.bound ++ unnest_names (unnests_in s us) ≡ (scope_behind s us).bound
names-behind s [] = append-nil s.bound
names-behind s (u ∷ us) = sym (append_assoc s.bound (u.name ∷ []) (unnest_names (unnests_in (inside u.name s) us))) ∙ names-behind (inside u.name s) us

-- Expressions.

group-formed : Bound → {x : UnresolvedExpr} {ts rest : List TokenClass} → IsExpr true ts x rest → (s : Scope) → IsFormedOfGroup s.bound (resolved x s)
group-formed bound {x = x} p s = ((kept counted_where true allows-counts p s, kept apart_where true allows-apart p s), bound x s)

mutual
  exprs-formed : Bound → {xs : List UnresolvedExpr} {ts rest : List TokenClass} → IsExprs false ts xs rest → (s : Scope) → All (IsFormedIn s.bound) (map (λ x. resolved x s) xs)
  exprs-formed bound (g.exprs {x = x} {xs = xs} p m) s = All-cons (IsFormedIn s.bound) (resolved x s) (map (λ x. resolved x s) xs) (expr-formed bound p s) (more-formed bound m s)

  more-formed : Bound → {xs : List UnresolvedExpr} {ts rest : List TokenClass} → MoreExprs false ts xs rest → (s : Scope) → All (IsFormedIn s.bound) (map (λ x. resolved x s) xs)
  more-formed bound g.exprs_done s = All-nil (IsFormedIn s.bound)
  more-formed bound (g.exprs_more p) s = exprs-formed bound p s

-- The result.

term-formed : Bound → {ts rest : List TokenClass} {t : Term UnresolvedExpr} → IsTerm ts t rest → (s : Scope) → IsFormedTerm s.bound (term_in s t)
term-formed bound q.term_all s = tt
term-formed bound q.term_spread s = tt
term-formed bound (q.term_one p m) s = group-formed bound p s

mutual
  terms-formed : Bound → {terms : List (Term UnresolvedExpr)} {ts rest : List TokenClass} → IsTerms ts terms rest → (s : Scope) → All (IsFormedTerm s.bound) (map (term_in s) terms)
  terms-formed bound (q.terms {t = t} {more = more} p m) s = All-cons (IsFormedTerm s.bound) (term_in s t) (map (term_in s) more) (term-formed bound p s) (more_terms-formed bound m s)

  more_terms-formed : Bound → {terms : List (Term UnresolvedExpr)} {ts rest : List TokenClass} → MoreTerms ts terms rest → (s : Scope) → All (IsFormedTerm s.bound) (map (term_in s) terms)
  more_terms-formed bound q.terms_done s = All-nil (IsFormedTerm s.bound)
  more_terms-formed bound (q.terms_more p) s = terms-formed bound p s

raw-formed : Bound → {x : Option UnresolvedExpr} {terms : List (Term UnresolvedExpr)} {ts rest : List TokenClass} → IsResult ts x terms rest → (s : Scope) →
    IfSome (option_map (λ y. resolved y s) x) (IsFormedOfGroup s.bound)
raw-formed bound (q.result_raw p) s = group-formed bound p s
raw-formed bound (q.result_terms p) s = tt

result-formed : Bound → {x : Option UnresolvedExpr} {terms : List (Term UnresolvedExpr)} {ts rest : List TokenClass} → IsResult ts x terms rest → (s : Scope) →
    All (IsFormedTerm s.bound) (map (term_in s) terms)
result-formed bound (q.result_raw p) s = All-nil (IsFormedTerm s.bound)
result-formed bound (q.result_terms p) s = terms-formed bound p s

raw-alone : {x : Option UnresolvedExpr} {terms : List (Term UnresolvedExpr)} {ts rest : List TokenClass} → IsResult ts x terms rest → (s : Scope) →
    IfSome (option_map (λ y. resolved y s) x) (λ e. map (term_in s) terms ≡ [])
raw-alone (q.result_raw p) s = refl
raw-alone (q.result_terms p) s = tt

some-terms : {x : Option UnresolvedExpr} {terms : List (Term UnresolvedExpr)} {ts rest : List TokenClass} → IsResult ts x terms rest → (s : Scope) →
    option_map (λ y. resolved y s) x ≡ None → 0 < length (map (term_in s) terms)
some-terms (q.result_raw p) s e = absurd cc
some-terms (q.result_terms (q.terms p m)) s e = omega arith

-- UNNEST, WHERE and GROUP BY.

unnests-formed : Bound → {us : List (Unnest UnresolvedExpr)} {ts rest : List TokenClass} → AreUnnests ts us rest → (s : Scope) → AreFormedUnnests s.bound (unnests_in s us)
unnests-formed bound q.unnests_done s = tt
unnests-formed bound (q.unnests_more (q.unnest {name = name} l p m) more) s = (expr-formed bound p s, unnests-formed bound more (inside name s))

filter-formed : Bound → {x : Option UnresolvedExpr} {ts rest : List TokenClass} → MayFilter ts x rest → (s : Scope) → IfSome (option_map (λ y. resolved y s) x) (IsFormedIn s.bound)
filter-formed bound q.filter_none s = tt
filter-formed bound (q.filter_some p) s = expr-formed bound p s

groups-formed : Bound → {xs : List UnresolvedExpr} {x : Option UnresolvedExpr} {ts rest : List TokenClass} → MayGroup ts xs x rest → (s : Scope) → All (IsFormedIn s.bound) (map (λ y. resolved y s) xs)
groups-formed bound q.group_none s = All-nil (IsFormedIn s.bound)
groups-formed bound (q.group_some p m) s = exprs-formed bound p s

having-formed : Bound → {x : Option UnresolvedExpr} {ts rest : List TokenClass} → MayHaving ts x rest → (s : Scope) → IfSome (option_map (λ y. resolved y s) x) (IsFormedOfGroup s.bound)
having-formed bound q.having_none s = tt
having-formed bound (q.having_some p) s = group-formed bound p s

grouped-having : Bound → {xs : List UnresolvedExpr} {x : Option UnresolvedExpr} {ts rest : List TokenClass} → MayGroup ts xs x rest → (s : Scope) → IfSome (option_map (λ y. resolved y s) x) (IsFormedOfGroup s.bound)
grouped-having bound q.group_none s = tt
grouped-having bound (q.group_some p m) s = having-formed bound m s

having-grouped : {xs : List UnresolvedExpr} {x : Option UnresolvedExpr} {ts rest : List TokenClass} → MayGroup ts xs x rest → (s : Scope) →
    map (λ y. resolved y s) xs ≡ [] → option_map (λ y. resolved y s) x ≡ None
having-grouped q.group_none s e = refl
having-grouped (q.group_some (g.exprs p k) m) s e = absurd cc

-- ORDER BY, LIMIT and OFFSET.

abbrev IsFormedOrder : List (List ℕ) → Order Expr → Type 0
IsFormedOrder names o = IsFormedOfGroup names o.key

order-formed : Bound → {ts rest : List TokenClass} {o : Order UnresolvedExpr} → IsOrder ts o rest → (s : Scope) → IsFormedOrder s.bound (order_in s o)
order-formed bound (q.order p m) s = group-formed bound p s

mutual
  orders-formed : Bound → {orders : List (Order UnresolvedExpr)} {ts rest : List TokenClass} → IsOrders ts orders rest → (s : Scope) → All (IsFormedOrder s.bound) (map (order_in s) orders)
  orders-formed bound (q.orders {o = o} {more = more} p m) s = All-cons (IsFormedOrder s.bound) (order_in s o) (map (order_in s) more) (order-formed bound p s) (more_orders-formed bound m s)

  more_orders-formed : Bound → {orders : List (Order UnresolvedExpr)} {ts rest : List TokenClass} → MoreOrders ts orders rest → (s : Scope) → All (IsFormedOrder s.bound) (map (order_in s) orders)
  more_orders-formed bound q.orders_done s = All-nil (IsFormedOrder s.bound)
  more_orders-formed bound (q.orders_more p) s = orders-formed bound p s

order_by-formed : Bound → {orders : List (Order UnresolvedExpr)} {ts rest : List TokenClass} → MayOrder ts orders rest → (s : Scope) → All (IsFormedOrder s.bound) (map (order_in s) orders)
order_by-formed bound q.order_none s = All-nil (IsFormedOrder s.bound)
order_by-formed bound (q.order_some p) s = orders-formed bound p s

limit-below : {limit : Option ℕ} {ts rest : List TokenClass} → MayLimit ts limit rest → IfSome limit (λ n. n < 2 ^ 63)
limit-below q.limit_none = tt
limit-below (q.limit_some h) = h

offset-below : {offset : ℕ} {ts rest : List TokenClass} → MayOffset ts offset rest → offset < 2 ^ 63
offset-below q.offset_none = omega arith
offset-below (q.offset_some h) = h

-- The whole, with the names that are bound around it.

record IsFormedWith (names : List (List ℕ)) (e : Selection Expr) : Type 0 where
  raw : IfSome e.raw (IsFormedOfGroup names)
  terms : All (IsFormedTerm names) e.terms
  filter : IfSome e.filter (IsFormedIn names)
  groups : All (IsFormedIn names) e.groups
  having : IfSome e.having (IsFormedOfGroup names)
  orders : All (IsFormedOrder names) e.orders

formed-with : Bound → {y : Selection UnresolvedExpr} {ts rest : List TokenClass} → IsSelect ts y rest → (s : Scope) (us : List (Unnest Expr)) → IsFormedWith s.bound (select_in s us y)
formed-with bound (q.select d r a u n f k o m z) s us = record {
  raw = raw-formed bound r s;
  terms = result-formed bound r s;
  filter = filter-formed bound f s;
  groups = groups-formed bound k s;
  having = grouped-having bound k s;
  orders = order_by-formed bound o s;
}

-- What doesn't ask for them.

record IsFormedApart (s : Scope) (y : Selection UnresolvedExpr) : Type 0 where
  none : IfSome (option_map (λ x. resolved x s) y.raw) (λ e. map (term_in s) y.terms ≡ [])
  some : option_map (λ x. resolved x s) y.raw ≡ None → 0 < length (map (term_in s) y.terms)
  unnests : AreFormedUnnests [] (unnests_in (outermost y.alias) y.unnests)
  grouped : map (λ x. resolved x s) y.groups ≡ [] → option_map (λ x. resolved x s) y.having ≡ None
  limit : IfSome y.limit (λ n. n < 2 ^ 63)
  offset : y.offset < 2 ^ 63

formed-apart : Bound → {y : Selection UnresolvedExpr} {ts rest : List TokenClass} → IsSelect ts y rest → (s : Scope) → IsFormedApart s y
formed-apart bound (q.select {keyspace = keyspace} {second = second} d r a u n f k o m z) s = record {
  none = raw-alone r s;
  some = some-terms r s;
  unnests = unnests-formed bound n (outermost (unwrap_or second keyspace));
  grouped = having-grouped k s;
  limit = limit-below m;
  offset = offset-below z;
}

select-formed : Bound → {y : Selection UnresolvedExpr} {ts rest : List TokenClass} → IsSelect ts y rest → IsFormedSelect (resolved_select y)
select-formed bound {y = y} h =
    let s : Scope = scope_behind (outermost y.alias) y.unnests in
    let us : List (Unnest Expr) = unnests_in (outermost y.alias) y.unnests in
    let w : IsFormedWith (unnest_names us) (select_in s us y) = subst (λ names. IsFormedWith names (select_in s us y)) (sym (names-behind (outermost y.alias) y.unnests)) (formed-with bound h s us) in
    let v = formed-apart bound h s in
    record {
      raw = w.raw;
      terms = w.terms;
      none = v.none;
      some = v.some;
      unnests = v.unnests;
      filter = w.filter;
      groups = w.groups;
      having = w.having;
      grouped = v.grouped;
      orders = w.orders;
      limit = v.limit;
      offset = v.offset;
    }

-- so is what an unresolved SELECT means, unless memory ran out
pub meant-formed : Bound → {y : Selection UnresolvedExpr} {ts : List TokenClass} → IsWholeSelect ts y → (r : Result (Selection Expr) ParseFault) →
    IfOk r (λ e. e ≡ resolved_select y) → IfOk r IsFormedSelect
meant-formed bound h (Ok e) is = subst IsFormedSelect (sym is) (select-formed bound h)
meant-formed bound h (Err fault) is = tt
