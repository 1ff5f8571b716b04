-- Names and what they call.
use Rattle.std.specs.Prelude.{◌≡◌, ℕ, suc, ◌<◌, Bool, true, false, not, ◌&&◌, if◌then◌else◌, List, [], ◌∷◌, length, Some, None, refl}
use Rattle.std.proofs.Common.{sym, ap, ◌∙◌, subst, arith}
use Rattle.std.proofs.lemmas.Bool.{not-true}
use Rattle.n1ql_value.specs.declared.fun.Fun.{Fun}
use Rattle.n1ql_value.specs.Functions.{TakesCount}
use Rattle.n1ql_ast.specs.declared.agg.Agg.{Agg}
use Rattle.n1ql_ast.specs.declared.agg.Agg.TheVariants as rows
use Rattle.n1ql_ast.specs.declared.callee.Callee.{Callee}
use Rattle.n1ql_ast.specs.declared.callee.Callee.TheVariants as callee
use Rattle.n1ql_ast.specs.declared.token_class.TokenClass.{TokenClass}
use Rattle.n1ql_ast.specs.declared.token_class.TokenClass.TheVariants.{Keyword, Name, Str, Num, Other}
use Rattle.n1ql_ast.specs.declared.keyword.Keyword.{Keyword as AnyKeyword}
use Rattle.n1ql_ast.specs.declared.keyword.Keyword.TheVariants as keyword
use Rattle.n1ql_ast.specs.declared.unresolved_expr.UnresolvedExpr.{UnresolvedExpr}
use Rattle.n1ql_ast.specs.declared.unresolved_expr.UnresolvedExpr.TheVariants as unresolved
use Rattle.n1ql_ast.specs.Callees.{callee_of}
use Rattle.n1ql_ast.specs.Grammar as g
use Rattle.n1ql_ast.specs.Grammar.{IsExpr, IsPrim, IsExprs}
use Rattle.n1ql_parse.specs.declared.expressions.precedence.Precedence.{Precedence}
use Rattle.n1ql_parse.specs.declared.expressions.precedence.Precedence.TheVariants as precedence
use Rattle.n1ql_parse.specs.declared.tokens.word.Word.{Word}
use Rattle.n1ql_parse.specs.inner.Steps.{Parser, got, sees}
use Rattle.n1ql_parse.specs.inner.Parser.{meta, is_count, call, aggregate_over, count, aggregate, named_as, named_by, named}
use Rattle.n1ql_parse.proofs.Reading.Prefixes.{Rel, next, Stops, Agrees, Within, Completes, Seq, seq, Pure, none_taken, Either, one, other}
use Rattle.n1ql_parse.proofs.Reading.Combined.{ends, agrees_after, within_as, within_seq, within_pure, within_less, completes_pure}
use Rattle.n1ql_parse.proofs.Reading.Looks.{is_same, same_is, Then, behind, Worded, worded, within_word, within_name, completes_then, links_then}
use Rattle.n1ql_parse.proofs.Reading.Precedences.{up_to}
use Rattle.n1ql_parse.proofs.Reading.Lookahead.{expr_head}
use Rattle.n1ql_parse.proofs.Reading.Choices.{within_then, within_may}
use Rattle.n1ql_parse.proofs.Reading.Arguments.{within_arguments}

-- The forms that a name with a bracket behind it begins.

abbrev Closed : {A : Type 0} → A → Rel A
Closed x = Then keyword.CloseParenthesis (Pure x)

completes_closed : {A : Type 0} (x : A) → Completes (Closed x)
completes_closed x = completes_then keyword.CloseParenthesis (completes_pure x)

abbrev CallRel : Bool → Fun → Rel UnresolvedExpr
CallRel agg f = Seq (λ ts xs vs. IsExprs agg ts xs vs × TakesCount f (length xs)) (λ xs. Closed (unresolved.Call f xs))

abbrev MetaRel : Rel UnresolvedExpr
MetaRel = Either (Closed (unresolved.Meta None)) (Worded (λ w. Closed (unresolved.Meta (Some w.text))))

abbrev OverRel : Agg → Rel UnresolvedExpr
OverRel a = Seq (IsExpr false) (λ x. Closed (unresolved.Agg a (Some x)))

abbrev CountRel : Rel UnresolvedExpr
CountRel = Either (Then keyword.Star (Closed (unresolved.Agg rows.CountAll None))) (OverRel rows.Count)

-- what may stand behind a name
abbrev pub NamedBy : Bool → Word → Rel UnresolvedExpr
NamedBy agg w us y vs = IsPrim agg (Name w.text w.quoted ∷ us) y vs

-- what stands behind a name and its bracket
abbrev Behind : Bool → List ℕ → Rel UnresolvedExpr
Behind agg text us y vs = IsPrim agg (Name text false ∷ Keyword keyword.OpenParenthesis ∷ us) y vs

same_fun : {f h : Fun} {c : Callee} → c ≡ callee.Function f → c ≡ callee.Function h → f ≡ h
same_fun e k = cc

same_agg : {a b : Agg} {c : Callee} → c ≡ callee.Aggregate a → c ≡ callee.Aggregate b → a ≡ b
same_agg e k = cc

call_to : (agg : Bool) (text : List ℕ) (f : Fun) → callee_of text ≡ callee.Function f → (us vs : List TokenClass) (y : UnresolvedExpr) → CallRel agg f us y vs → Behind agg text us y vs
call_to agg text f e us vs y (seq xs _ p (behind r)) = ends (Behind agg text) r (g.prim_call e p.0 p.1)

call_from : (agg : Bool) (text : List ℕ) (f : Fun) → callee_of text ≡ callee.Function f → (us vs : List TokenClass) (y : UnresolvedExpr) → Behind agg text us y vs → Stops (up_to 1) vs → CallRel agg f us y vs
call_from agg text f e us _ _ g.prim_name st = let h : true ≡ false = st in cc
call_from agg text f e us vs y (g.prim_object p) st = elim p [ ]
call_from agg text f e us vs _ (g.prim_call {fun = h} {xs = xs} k p t) st =
    subst (λ f. CallRel agg f us (unresolved.Call h xs) vs) (same_fun k e) (seq xs _ (p, t) (behind none_taken))
call_from agg text f e us vs y (g.prim_meta k) st = let h : callee.Function f ≡ callee.Meta = sym e ∙ k in cc
call_from agg text f e us vs y (g.prim_meta_of k) st = let h : callee.Function f ≡ callee.Meta = sym e ∙ k in cc
call_from agg text f e us vs y (g.prim_count_all k) st = let h : callee.Function f ≡ callee.Aggregate rows.Count = sym e ∙ k in cc
call_from agg text f e us vs y (g.prim_aggregate {a = a} k p) st = let h : callee.Function f ≡ callee.Aggregate a = sym e ∙ k in cc

meta_to : (agg : Bool) (text : List ℕ) → callee_of text ≡ callee.Meta → (us vs : List TokenClass) (y : UnresolvedExpr) → MetaRel us y vs → Behind agg text us y vs
meta_to agg text e _ _ _ (one (behind none_taken)) = g.prim_meta e
meta_to agg text e _ _ _ (other (worded (behind none_taken))) = g.prim_meta_of e

meta_from : (agg : Bool) (text : List ℕ) → callee_of text ≡ callee.Meta → (us vs : List TokenClass) (y : UnresolvedExpr) → Behind agg text us y vs → Stops (up_to 1) vs → MetaRel us y vs
meta_from agg text e us _ _ g.prim_name st = let h : true ≡ false = st in cc
meta_from agg text e us vs y (g.prim_object p) st = elim p [ ]
meta_from agg text e us vs y (g.prim_call {fun = f} k p t) st = let h : callee.Meta ≡ callee.Function f = sym e ∙ k in cc
meta_from agg text e us vs y (g.prim_meta k) st = one (behind none_taken)
meta_from agg text e us vs y (g.prim_meta_of k) st = other (worded (behind none_taken))
meta_from agg text e us vs y (g.prim_count_all k) st = let h : callee.Meta ≡ callee.Aggregate rows.Count = sym e ∙ k in cc
meta_from agg text e us vs y (g.prim_aggregate {a = a} k p) st = let h : callee.Meta ≡ callee.Aggregate a = sym e ∙ k in cc

over_to : (text : List ℕ) (a : Agg) → callee_of text ≡ callee.Aggregate a → (us vs : List TokenClass) (y : UnresolvedExpr) → OverRel a us y vs → Behind true text us y vs
over_to text a e us vs y (seq x _ p (behind r)) = ends (Behind true text) r (g.prim_aggregate e p)

over_from : (text : List ℕ) (a : Agg) → is_count a ≡ false → callee_of text ≡ callee.Aggregate a → (us vs : List TokenClass) (y : UnresolvedExpr) → Behind true text us y vs → Stops (up_to 1) vs → OverRel a us y vs
over_from text a c e us _ _ g.prim_name st = let h : true ≡ false = st in cc
over_from text a c e us vs y (g.prim_object p) st = elim p [ ]
over_from text a c e us vs y (g.prim_call {fun = f} k p t) st = let h : callee.Aggregate a ≡ callee.Function f = sym e ∙ k in cc
over_from text a c e us vs y (g.prim_meta k) st = let h : callee.Aggregate a ≡ callee.Meta = sym e ∙ k in cc
over_from text a c e us vs y (g.prim_meta_of k) st = let h : callee.Aggregate a ≡ callee.Meta = sym e ∙ k in cc
over_from text a c e us vs y (g.prim_count_all k) st = let h : true ≡ false = ap is_count (same_agg k e) ∙ c in cc
over_from text a c e us vs _ (g.prim_aggregate {a = b} {x = x} k p) st = subst (λ d. OverRel d us (unresolved.Agg b (Some x)) vs) (same_agg k e) (seq x _ p (behind none_taken))

count_to : (text : List ℕ) → callee_of text ≡ callee.Aggregate rows.Count → (us vs : List TokenClass) (y : UnresolvedExpr) → CountRel us y vs → Behind true text us y vs
count_to text e _ _ _ (one (behind (behind none_taken))) = g.prim_count_all e
count_to text e us vs y (other r) = over_to text rows.Count e us vs y r

count_from : (text : List ℕ) → callee_of text ≡ callee.Aggregate rows.Count → (us vs : List TokenClass) (y : UnresolvedExpr) → Behind true text us y vs → Stops (up_to 1) vs → CountRel us y vs
count_from text e us _ _ g.prim_name st = let h : true ≡ false = st in cc
count_from text e us vs y (g.prim_object p) st = elim p [ ]
count_from text e us vs y (g.prim_call {fun = f} k p t) st = let h : callee.Aggregate rows.Count ≡ callee.Function f = sym e ∙ k in cc
count_from text e us vs y (g.prim_meta k) st = let h : callee.Aggregate rows.Count ≡ callee.Meta = sym e ∙ k in cc
count_from text e us vs y (g.prim_meta_of k) st = let h : callee.Aggregate rows.Count ≡ callee.Meta = sym e ∙ k in cc
count_from text e us vs y (g.prim_count_all k) st = one (behind (behind none_taken))
count_from text e us vs _ (g.prim_aggregate {a = b} {x = x} k p) st = other (subst (λ d. OverRel d us (unresolved.Agg b (Some x)) vs) (same_agg k e) (seq x _ p (behind none_taken)))

-- Names that call nothing.

abbrev is_called : Bool → Callee → Bool
is_called agg (callee.Function f) = true
is_called agg callee.Meta = true
is_called agg (callee.Aggregate a) = agg
is_called agg callee.Nothing = false

calls_nothing : (agg : Bool) (text : List ℕ) (c : Callee) → callee_of text ≡ c → is_called agg c ≡ false → (us vs : List TokenClass) (y : UnresolvedExpr) → IsPrim agg (Name text false ∷ us) y vs → (y ≡ unresolved.Name text) × (vs ≡ us)
calls_nothing agg text c e h us vs y g.prim_name = (refl, refl)
calls_nothing agg text c e h us vs y (g.prim_object p) = elim p [ ]
calls_nothing agg text c e h _ vs y (g.prim_call {fun = f} k p t) = let l : true ≡ false = ap (is_called agg) (sym k ∙ e) ∙ h in cc
calls_nothing agg text c e h _ vs y (g.prim_meta k) = let l : true ≡ false = ap (is_called agg) (sym k ∙ e) ∙ h in cc
calls_nothing agg text c e h _ vs y (g.prim_meta_of k) = let l : true ≡ false = ap (is_called agg) (sym k ∙ e) ∙ h in cc
calls_nothing agg text c e h _ vs y (g.prim_count_all k) = let l : true ≡ false = ap (is_called true) (sym k ∙ e) ∙ h in cc
calls_nothing agg text c e h _ vs y (g.prim_aggregate {a = a} k p) = let l : true ≡ false = ap (is_called true) (sym k ∙ e) ∙ h in cc

bracket_seen : (us : List TokenClass) → sees keyword.OpenParenthesis (Keyword keyword.OpenParenthesis ∷ us) ≡ true
bracket_seen us = is_same keyword.OpenParenthesis

no_bracket : (agg : Bool) (text : List ℕ) (quoted : Bool) (us vs : List TokenClass) (y : UnresolvedExpr) → (sees keyword.OpenParenthesis us && not quoted) ≡ false → IsPrim agg (Name text quoted ∷ us) y vs → (y ≡ unresolved.Name text) × (vs ≡ us)
no_bracket agg text quoted us vs y h g.prim_name = (refl, refl)
no_bracket agg text quoted us vs y h (g.prim_object p) = elim p [ ]
no_bracket agg text quoted _ vs y h (g.prim_call {ts = us} k p t) = let l : true ≡ false = sym (ap (λ b. b && true) (bracket_seen us)) ∙ h in cc
no_bracket agg text quoted _ vs y h (g.prim_meta {ts = us} k) = let l : true ≡ false = sym (ap (λ b. b && true) (bracket_seen (Keyword keyword.CloseParenthesis ∷ us))) ∙ h in cc
no_bracket agg text quoted _ vs y h (g.prim_meta_of {quoted = q} {whose = whose} {ts = us} k) = let l : true ≡ false = sym (ap (λ b. b && true) (bracket_seen (Name whose q ∷ Keyword keyword.CloseParenthesis ∷ us))) ∙ h in cc
no_bracket agg text quoted _ vs y h (g.prim_count_all {ts = us} k) = let l : true ≡ false = sym (ap (λ b. b && true) (bracket_seen (Keyword keyword.Star ∷ Keyword keyword.CloseParenthesis ∷ us))) ∙ h in cc
no_bracket agg text quoted _ vs y h (g.prim_aggregate {ts = us} k p) = let l : true ≡ false = sym (ap (λ b. b && true) (bracket_seen us)) ∙ h in cc

sees_next : (m : AnyKeyword) (us ts : List TokenClass) → next us ≡ next ts → sees m us ≡ sees m ts
sees_next m [] [] e = refl
sees_next m [] (t ∷ ts) e = cc
sees_next m (u ∷ us) [] e = cc
sees_next m (u ∷ us) (t ∷ ts) e = same_token u t (some_is e)
  where
    some_is : {a b : TokenClass} → Some a ≡ Some b → a ≡ b
    some_is h = cc

    same_tail : (u : TokenClass) → sees m (u ∷ us) ≡ sees m (u ∷ ts)
    same_tail (Keyword n) = refl
    same_tail (Name text quoted) = refl
    same_tail (Str text) = refl
    same_tail (Num n) = refl
    same_tail Other = refl

    same_token : (u t : TokenClass) → u ≡ t → sees m (u ∷ us) ≡ sees m (t ∷ ts)
    same_token u t h = subst (λ k. sees m (u ∷ us) ≡ sees m (k ∷ ts)) h (same_tail u)

sees_is : (m : AnyKeyword) (ts : List TokenClass) → sees m ts ≡ true → (us : List TokenClass) × (ts ≡ Keyword m ∷ us)
sees_is m [] e = cc
sees_is m (Keyword n ∷ ts) e = (ts, ap (λ k. Keyword k ∷ ts) (same_is n m e))
sees_is m (Name text quoted ∷ ts) e = cc
sees_is m (Str text ∷ ts) e = cc
sees_is m (Num n ∷ ts) e = cc
sees_is m (Other ∷ ts) e = cc

and_parts : (a b : Bool) → (a && b) ≡ true → (a ≡ true) × (b ≡ true)
and_parts true true e = (refl, refl)
and_parts true false e = cc
and_parts false b e = cc

module _ (inner : Bool → Precedence → Parser UnresolvedExpr) (agg : Bool) where
  within_call : (n : ℕ) → Within n (up_to 7) (IsExpr agg) (inner agg precedence.Or) → (f : Fun) → Within n (up_to 1) (CallRel agg f) (call inner agg f)
  unfolding call
  within_call n w f = within_seq (within_arguments inner agg f n w)
      (λ xs. within_then keyword.CloseParenthesis (within_pure (unresolved.Call f xs)) (completes_pure (unresolved.Call f xs)))
      (λ xs. links_then refl) (λ xs. completes_closed (unresolved.Call f xs))

  within_meta : (n : ℕ) → Within n (up_to 1) MetaRel meta
  unfolding meta
  within_meta n = within_may keyword.CloseParenthesis (within_pure (unresolved.Meta None))
      (within_less (omega arith) (within_name {n = n} (λ text. within_then keyword.CloseParenthesis (within_pure (unresolved.Meta (Some text))) (completes_pure (unresolved.Meta (Some text)))) (completes_closed (unresolved.Meta (Some [])))))
      (λ us vs y r st. elim r [ ])

  within_over : (n : ℕ) → Within n (up_to 7) (IsExpr false) (inner false precedence.Or) → (a : Agg) → Within n (up_to 1) (OverRel a) (aggregate_over inner agg a)
  unfolding aggregate_over
  within_over n w a = within_seq w
      (λ x. within_then keyword.CloseParenthesis (within_pure (unresolved.Agg a (Some x))) (completes_pure (unresolved.Agg a (Some x))))
      (λ x. links_then refl) (λ x. completes_closed (unresolved.Agg a (Some x)))

  no_star : (us vs : List TokenClass) (y : UnresolvedExpr) → OverRel rows.Count (Keyword keyword.Star ∷ us) y vs → Stops (up_to 1) vs → ⊥
  no_star us vs y (seq x ws p q) st = let h : false ≡ true = expr_head p in cc

  within_count : (n : ℕ) → Within n (up_to 7) (IsExpr false) (inner false precedence.Or) → Within n (up_to 1) CountRel (count inner agg)
  unfolding count
  within_count n w = within_may keyword.Star
      (within_then keyword.CloseParenthesis (within_pure (unresolved.Agg rows.CountAll None)) (completes_pure (unresolved.Agg rows.CountAll None)))
      (within_over n w rows.Count) no_star

  within_aggregate : (n : ℕ) → Within n (up_to 7) (IsExpr false) (inner false precedence.Or) → (text : List ℕ) (a : Agg) → callee_of text ≡ callee.Aggregate a → Within n (up_to 1) (Behind true text) (aggregate inner agg a)
  unfolding aggregate
  within_aggregate n w text a e = by_count (is_count a) refl
    where
      of_count : (a : Agg) → is_count a ≡ true → a ≡ rows.Count
      of_count rows.Count h = refl
      of_count _ h = cc

      by_count : (b : Bool) → is_count a ≡ b → Within n (up_to 1) (Behind true text) (if b then count inner agg else aggregate_over inner agg a)
      by_count true h =
          let k : callee_of text ≡ callee.Aggregate rows.Count = e ∙ ap callee.Aggregate (of_count a h) in
          within_as {before = up_to 1} (within_count n w) (count_to text k) (λ us vs y q st. (count_from text k us vs y q st, st))
      by_count false h = within_as {before = up_to 1} (within_over n w a) (over_to text a e) (λ us vs y q st. (over_from text a h e us vs y q st, st))

  -- a name alone, where nothing else is read
  only_name : (text : List ℕ) (quoted : Bool) (ts : List TokenClass) →
      ((us vs : List TokenClass) (y : UnresolvedExpr) → next us ≡ next ts → IsPrim agg (Name text quoted ∷ us) y vs → (y ≡ unresolved.Name text) × (vs ≡ us)) →
      Agrees (up_to 1) (λ us y vs. IsPrim agg (Name text quoted ∷ us) y vs) ts (got (unresolved.Name text) ts)
  only_name text quoted ts only = record { front = []; is = refl; sound = λ us. g.prim_name; only = λ us vs y e q st. only us vs y e q }

module _ (inner : Bool → Precedence → Parser UnresolvedExpr) where
  abbrev Inside : ℕ → Bool → Type 0
  Inside n agg = Within n (up_to 7) (IsExpr agg) (inner agg precedence.Or)

  at_bracket : (agg : Bool) (n : ℕ) → Inside n agg → Inside n false → (w : Word) (c : Callee) → callee_of w.text ≡ c → (us : List TokenClass) → length us < n →
      Agrees (up_to 1) (λ us y vs. IsPrim agg (Name w.text false ∷ us) y vs) (Keyword keyword.OpenParenthesis ∷ us) (named_as inner agg w c (Keyword keyword.OpenParenthesis ∷ us))
  at_bracket agg n v vf w (callee.Function f) e us h = agrees_after (CallRel agg f) _ us (Keyword keyword.OpenParenthesis) (call inner agg f us) ((within_call inner agg n v f).agrees us h)
      (call_to agg w.text f e) (call_from agg w.text f e)
  at_bracket agg n v vf w callee.Meta e us h = agrees_after MetaRel _ us (Keyword keyword.OpenParenthesis) (meta us) ((within_meta inner agg n).agrees us h)
      (meta_to agg w.text e) (meta_from agg w.text e)
  at_bracket true n v vf w (callee.Aggregate a) e us h = agrees_after (Behind true w.text) _ us (Keyword keyword.OpenParenthesis) (aggregate inner true a us) ((within_aggregate inner true n vf w.text a e).agrees us h)
      (λ us vs y q. q) (λ us vs y q st. q)
  at_bracket false n v vf w (callee.Aggregate a) e us h = only_name inner false w.text false (Keyword keyword.OpenParenthesis ∷ us) (λ ws vs y same q. calls_nothing false w.text (callee.Aggregate a) e refl ws vs y q)
  at_bracket agg n v vf w callee.Nothing e us h = only_name inner agg w.text false (Keyword keyword.OpenParenthesis ∷ us) (λ ws vs y same q. calls_nothing agg w.text callee.Nothing e refl ws vs y q)

  within_named_by : (agg : Bool) (n : ℕ) → Inside n agg → Inside n false → (w : Word) → Within (suc n) (up_to 1) (NamedBy agg w) (named_by inner agg w)
  unfolding named_by
  within_named_by agg n v vf w = record { agrees = λ ts h. by_test ts h (sees keyword.OpenParenthesis ts && not w.quoted) refl }
    where
      by_test : (ts : List TokenClass) → length ts < suc n → (b : Bool) → (sees keyword.OpenParenthesis ts && not w.quoted) ≡ b →
          Agrees (up_to 1) (NamedBy agg w) ts (if b then named_as inner agg w (callee_of w.text) ts else got (unresolved.Name w.text) ts)
      by_test ts h true e =
          let parts = and_parts (sees keyword.OpenParenthesis ts) (not w.quoted) e in
          let at = sees_is keyword.OpenParenthesis ts parts.0 in
          let k : length at.0 < n = (let l = ap length at.1 in omega arith) in
          let r = at_bracket agg n v vf w (callee_of w.text) refl at.0 k in
          subst (λ q. Agrees (up_to 1) (λ us y vs. IsPrim agg (Name w.text q ∷ us) y vs) ts (named_as inner agg w (callee_of w.text) ts)) (sym (not-true w.quoted parts.1))
          (subst (λ l. Agrees (up_to 1) (λ us y vs. IsPrim agg (Name w.text false ∷ us) y vs) l (named_as inner agg w (callee_of w.text) l)) (sym at.1) r)
      by_test ts h false e = only_name inner agg w.text w.quoted ts (λ us vs y same q.
          no_bracket agg w.text w.quoted us vs y (ap (λ b. b && not w.quoted) (sees_next keyword.OpenParenthesis us ts same) ∙ e) q)

  pub within_named : (agg : Bool) (n : ℕ) → Inside n agg → Inside n false → Within (suc n) (up_to 1) (Worded (NamedBy agg)) (named inner agg)
  unfolding named
  within_named agg n v vf = within_less (omega arith) (within_word (within_named_by agg n v vf) (record { more = []; tree = unresolved.Name []; reads = λ us. g.prim_name }))
