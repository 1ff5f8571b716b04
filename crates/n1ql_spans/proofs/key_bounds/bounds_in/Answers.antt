use Rattle.std.proofs.Common.{◌≡◌, ℕ, ◌+◌, ◌<◌, List, [], ◌∷◌, ◌++◌, length, get_or, take, Option, append-nil, sym, ap, ◌∙◌}
use Rattle.std.proofs.lemmas.List.{take_more}
use Rattle.std.proofs.lemmas.List.Elements.{filter_map-append}
use Rattle.std.specs.List.{cons_option}
use Rattle.n1ql_value.specs.declared.range.Range.{Range}
use Rattle.n1ql_ast.specs.declared.expr.Expr.{Expr}
use Rattle.n1ql_spans.specs.Bounding.{bounding}
use Rattle.n1ql_spans.specs.Spans.{bounds_in}
use Rattle.n1ql_spans.proofs.key_bounds.bounds_in.Goals as goal
use Rattle.n1ql_spans.proofs.key_bounds.bounds_in.Goals.{in-Some+in_ok-push, in_default}

-- one more conjunct
next_bounds : (e : Expr) (cs : List Expr) (i : ℕ) (c : Expr) (found : Option (List Range)) → i < length cs → c ≡ get_or cs i c → found ≡ bounding e c → bounds_in e (take (i + 1) cs) ≡ bounds_in e (take i cs) ++ cons_option found []
next_bounds e cs i c found h is was =
    ap (bounds_in e) (take_more cs i c h)
    ∙ (filter_map-append (bounding e) (take i cs) (get_or cs i c ∷ [])
    ∙ ap (λ o. bounds_in e (take i cs) ++ cons_option o []) (ap (bounding e) (sym is) ∙ sym was))

pub loop-c-preserved : goal.loop-c-preserved
loop-c-preserved c =
    let e = c.args.e.now in
    let before = take c.loop-c.c-index c.args.conjuncts.now in
    let next = next_bounds e c.args.conjuncts.now c.loop-c.c-index c.c-item.result c.in_ok-ranges.field-0 c.loop-c-test.true c.c-item.is c.in_ok-ranges.ensures in
    elim c.match-branch-2.branch [
      | in-Some+in_ok-push w ↦
          rw w.bounds-is (w.in_ok-push.ensures.items
          ∙ (ap (λ rss. rss ++ w.in-Some.ranges ∷ []) c.loop-c.invariant ∙ sym (next ∙ ap (λ found. bounds_in e before ++ cons_option found []) w.in-Some.is)))
      | in_default w ↦
          rw w.bounds-is (c.loop-c.invariant
          ∙ sym (next ∙ (ap (λ found. bounds_in e before ++ cons_option found []) w.in_default.is ∙ append-nil (bounds_in e before))))
    ]
