-- A statement over the keys of an index can be evaluated where the statement can.
use Rattle.std.proofs.Common.{◌≡◌, ℕ, Bool, true, not, ◌&&◌, List, [], ◌∷◌, map, Option, Some, None, option_map, IsTrue, IfSome, refl, sym, ap, ◌∙◌}
use Rattle.std.specs.List.{All, AllByRecursion, fold}
use Rattle.std.proofs.lemmas.List.Elements.{All-filter, All-map, All-nil, All-weaker, recursion_from_All}
use Rattle.n1ql_value.specs.declared.op.Op.TheVariants.{And}
use Rattle.n1ql_ast.specs.declared.expr.Expr.{Expr, fold-roll-Expr}
use Rattle.n1ql_ast.specs.declared.expr.Expr.TheOpen.{Expr-F}
use Rattle.n1ql_ast.specs.declared.expr.Expr.TheVariants as expr
use Rattle.n1ql_ast.specs.declared.order.Order.{Order}
use Rattle.n1ql_ast.specs.declared.selection.Selection.{Selection}
use Rattle.n1ql_ast.specs.declared.term.Term.{Term}
use Rattle.n1ql_ast.specs.declared.term.Term.TheVariants as term
use Rattle.n1ql_ast.specs.declared.unnest.Unnest.{Unnest}
use Rattle.n1ql_ast.specs.Conjunction.{conjuncts_in, conjuncts_of}
use Rattle.n1ql_ast.specs.Forms.{IsWellFormed, has_its_counts, is_well_formed, of_each_part}
use Rattle.index_def.specs.declared.definition.IndexDef.{IndexDef}
use Rattle.n1ql_spans.specs.Covering.{over_keys, plain_keys, rest_of}
use Rattle.n1ql_spans.specs.Spans.{is_among}
use Rattle.n1ql_covered.specs.OverKeys.{and_with, joined, over_index, over_order, over_term, over_unnest}
use Rattle.pipe_rows.specs.Evaluable.{IsEvaluable, IsEvaluableTerm}

pub record FormLaws : Type 0 where
  pub conjuncts : (e : Expr) → IsWellFormed e → All IsWellFormed (conjuncts_of e)
  pub keys : (keys : List Expr) (e : Expr) → IsWellFormed e → IsWellFormed (over_keys keys e)

if_mapped : {A B : Type 0} (P : A → Type 0) (Q : B → Type 0) (f : A → B) → ((x : A) → P x → Q (f x)) → (o : Option A) → IfSome o P → IfSome (option_map f o) Q
if_mapped P Q f h None is = _
if_mapped P Q f h (Some x) is = h x is

-- ---- conditions joined by AND

two_well : (c d : Expr) → IsWellFormed c → IsWellFormed d → IsWellFormed (expr.Two And c d)
two_well c d left right =
    ap is_well_formed (sym (expr.rolls-Two And c d))
    ∙ (fold-roll-Expr Bool (λ l. has_its_counts l && of_each_part l) (Expr-F.Two And c d)
    ∙ (ap (λ b. b && is_well_formed d) left ∙ right))

and_well : (left : Option Expr) (d : Expr) → IfSome left IsWellFormed → IsWellFormed d → IfSome (and_with left d) IsWellFormed
and_well None d h is = is
and_well (Some c) d h is = two_well c d h is

joined_well : (left : Option Expr) (es : List Expr) → IfSome left IsWellFormed → AllByRecursion IsWellFormed es → IfSome (fold and_with left es) IsWellFormed
joined_well left [] h all = h
joined_well left (e ∷ es) h all = joined_well (and_with left e) es (and_well left e h all.0) all.1

-- ---- over the keys

module _ (laws : FormLaws) (keys : List Expr) where
  over_well : (e : Expr) → IsWellFormed e → IsWellFormed (over_keys keys e)
  over_well = laws.keys keys

  term_over : (t : Term Expr) → IsEvaluableTerm t → IsEvaluableTerm (over_term keys t)
  term_over term.All h = _
  term_over (term.Spread name) h = _
  term_over (term.One value name given) h = over_well value h

  conjuncts_well : (filter : Option Expr) → IfSome filter IsWellFormed → All IsWellFormed (conjuncts_in filter)
  conjuncts_well None h = All-nil IsWellFormed
  conjuncts_well (Some e) h = laws.conjuncts e h

  left_well : (own : List Expr) (filter : Option Expr) → IfSome filter IsWellFormed → IfSome (joined (map (over_keys keys) (rest_of own (conjuncts_in filter)))) IsWellFormed
  left_well own filter h =
      let rest : List Expr = rest_of own (conjuncts_in filter) in
      joined_well None (map (over_keys keys) rest) _
      (recursion_from_All IsWellFormed (map (over_keys keys) rest)
      (All-map IsWellFormed (over_keys keys) rest
      (All-weaker IsWellFormed (λ e. IsWellFormed (over_keys keys e)) over_well rest
      (All-filter (λ c. not (is_among own c)) IsWellFormed (conjuncts_in filter) (conjuncts_well filter h)))))

pub over_evaluable : FormLaws → (q : Selection Expr) (def : IndexDef) → IsEvaluable q → IsEvaluable (over_index q def)
over_evaluable laws q def own =
    let keys : List Expr = plain_keys def.keys in
    record {
      raw = if_mapped IsWellFormed IsWellFormed (over_keys keys) (over_well laws keys) q.raw own.raw;
      terms = All-map IsEvaluableTerm (over_term keys) q.terms (All-weaker IsEvaluableTerm (λ t. IsEvaluableTerm (over_term keys t)) (term_over laws keys) q.terms own.terms);
      unnests = All-map (λ (u : Unnest Expr). IsWellFormed u.over) (over_unnest keys) q.unnests
          (All-weaker (λ (u : Unnest Expr). IsWellFormed u.over) (λ (u : Unnest Expr). IsWellFormed (over_keys keys u.over)) (λ u. over_well laws keys u.over) q.unnests own.unnests);
      filter = left_well laws keys def.filter q.filter own.filter;
      orders = All-map (λ (o : Order Expr). IsWellFormed o.key) (over_order keys) q.orders
          (All-weaker (λ (o : Order Expr). IsWellFormed o.key) (λ (o : Order Expr). IsWellFormed (over_keys keys o.key)) (λ o. over_well laws keys o.key) q.orders own.orders);
    }
