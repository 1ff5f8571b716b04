-- Brackets, lists, objects, and the forms that begin with a word.
use Rattle.std.specs.Prelude.{◌≡◌, ℕ, ◌≤◌, Bool, true, false, List, [], ◌∷◌, Option, Some, None, refl}
use Rattle.std.proofs.Common.{sym, ◌∙◌, arith}
use Rattle.n1ql_ast.specs.declared.token_class.TokenClass.{TokenClass}
use Rattle.n1ql_ast.specs.declared.token_class.TokenClass.TheVariants.{Keyword}
use Rattle.n1ql_ast.specs.declared.keyword.Keyword.{Keyword as AnyKeyword}
use Rattle.n1ql_ast.specs.declared.keyword.Keyword.TheVariants as keyword
use Rattle.n1ql_ast.specs.declared.unresolved_expr.UnresolvedExpr.{UnresolvedExpr}
use Rattle.n1ql_ast.specs.declared.unresolved_expr.UnresolvedExpr.TheVariants as unresolved
use Rattle.n1ql_ast.specs.Grammar as g
use Rattle.n1ql_ast.specs.Grammar.{IsExpr, IsExprs, IsObject, IsPairs, IsArms, MayElse, MayWhen, IsQuantified, IsEach}
use Rattle.n1ql_parse.specs.declared.expressions.arms.Arms.{Arms}
use Rattle.n1ql_parse.specs.declared.expressions.each.Each.{Each}
use Rattle.n1ql_parse.specs.declared.expressions.precedence.Precedence.{Precedence}
use Rattle.n1ql_parse.specs.declared.expressions.precedence.Precedence.TheVariants as precedence
use Rattle.n1ql_parse.specs.declared.expressions.object_fields.ObjectFields.{ObjectFields}
use Rattle.n1ql_parse.specs.declared.expressions.quantified.Quantified.{Quantified}
use Rattle.n1ql_parse.specs.inner.Steps.{Parser, got, and_then, expect}
use Rattle.n1ql_parse.specs.inner.Parser.{whole_after, parenthesized, list, object, «case», quantified, any, every, each, array, first}
use Rattle.n1ql_parse.proofs.Reading.Prefixes.{Rel, Stops, Within, Completes, Links, Seq, seq, Pure, none_taken, Either, one, other}
use Rattle.n1ql_parse.proofs.Reading.Combined.{ends, within_as, within_seq, within_pure, within_less, links_pure, links_seq, completes_pure, completes_seq}
use Rattle.n1ql_parse.proofs.Reading.Looks.{Then, behind, Worded, worded, within_name, completes_then, completes_name, links_then}
use Rattle.n1ql_parse.proofs.Reading.Precedences.{up_to, tighter_stops}
use Rattle.n1ql_parse.proofs.Reading.Lookahead.{exprs_head}
use Rattle.n1ql_parse.proofs.Reading.Zero.{completes_at}
use Rattle.n1ql_parse.proofs.Reading.Choices.{within_then, within_may}
use Rattle.n1ql_parse.proofs.Reading.Lists.{ArePairs, within_wholes, within_pairs, within_arms}

-- a closing keyword and nothing more
pub completes_end : {A : Type 0} (m : AnyKeyword) (x : A) → Completes (Then m (Pure x))
completes_end m x = completes_then m (completes_pure x)

pub within_end : {A : Type 0} {n : ℕ} {goes : TokenClass → Bool} (m : AnyKeyword) (x : A) → Within n goes (Then m (Pure x)) (λ ts. and_then (expect m ts) (λ _ us. got x us))
within_end m x = within_then m (within_pure x) (completes_pure x)

-- What these forms read, behind the keyword or the word that each begins with.

abbrev pub BracketRel : Bool → Rel UnresolvedExpr
BracketRel agg = Seq (IsExpr agg) (λ x. Then keyword.CloseParenthesis (Pure x))

abbrev pub ListRel : Bool → Rel UnresolvedExpr
ListRel agg = Either (Then keyword.CloseSquare (Pure (unresolved.List []))) (Seq (IsExprs agg) (λ xs. Then keyword.CloseSquare (Pure (unresolved.List xs))))

abbrev pub ObjectRel : Bool → Rel UnresolvedExpr
ObjectRel agg = Either (Then keyword.CloseBrace (Pure (unresolved.Build [] [])))
    (Seq (λ ts (p : ObjectFields) vs. IsPairs agg ts p.names p.values vs) (λ p. Then keyword.CloseBrace (Pure (unresolved.Build p.names p.values))))

abbrev CaseEnd : Bool → Arms → Rel UnresolvedExpr
CaseEnd agg a = Seq (MayElse agg) (λ other. Then keyword.End (Pure (unresolved.Case a.whens a.thens other)))

abbrev CaseBody : Bool → Rel UnresolvedExpr
CaseBody agg = Seq (λ ts (a : Arms) vs. IsArms agg (Keyword keyword.When ∷ ts) a.whens a.thens vs) (CaseEnd agg)

abbrev pub CaseRel : Bool → Rel UnresolvedExpr
CaseRel agg = Then keyword.When (CaseBody agg)

abbrev TestPart : {A : Type 0} → Bool → (UnresolvedExpr → A) → Rel A
TestPart agg made = Seq (IsExpr agg) (λ test. Then keyword.End (Pure (made test)))

abbrev OverPart : {A : Type 0} → Bool → (UnresolvedExpr → UnresolvedExpr → A) → Rel A
OverPart agg made = Seq (IsExpr agg) (λ over. Then keyword.Satisfies (TestPart agg (made over)))

abbrev pub QuantifiedRel : {A : Type 0} → Bool → (List ℕ → UnresolvedExpr → UnresolvedExpr → A) → Rel A
QuantifiedRel agg made = Worded (λ v. Then keyword.In (OverPart agg (made v.text)))

abbrev WhenPart : {A : Type 0} → Bool → (Option UnresolvedExpr → A) → Rel A
WhenPart agg made = Seq (MayWhen agg) (λ when. Then keyword.End (Pure (made when)))

abbrev InPart : {A : Type 0} → Bool → (UnresolvedExpr → Option UnresolvedExpr → A) → Rel A
InPart agg made = Seq (IsExpr agg) (λ over. WhenPart agg (made over))

abbrev ForPart : {A : Type 0} → Bool → (List ℕ → UnresolvedExpr → Option UnresolvedExpr → A) → Rel A
ForPart agg made = Worded (λ v. Then keyword.In (InPart agg (made v.text)))

abbrev pub EachRel : {A : Type 0} → Bool → (List ℕ → UnresolvedExpr → UnresolvedExpr → Option UnresolvedExpr → A) → Rel A
EachRel agg made = Seq (IsExpr agg) (λ item. Then keyword.For (ForPart agg (λ name. made name item)))

abbrev one_quantified : List ℕ → UnresolvedExpr → UnresolvedExpr → Quantified
one_quantified name over test = record { variable = name; over = over; test = test }

abbrev one_each : List ℕ → UnresolvedExpr → UnresolvedExpr → Option UnresolvedExpr → Each
one_each name item over when = record { variable = name; item = item; over = over; when = when }

abbrev pub AreQuantified : Bool → Rel Quantified
AreQuantified agg ts q vs = IsQuantified agg ts q.variable q.over q.test vs

abbrev pub AreEach : Bool → Rel Each
AreEach agg ts e vs = IsEach agg ts e.variable e.item e.over e.when vs

abbrev pub AnyRel : Bool → Rel UnresolvedExpr
AnyRel agg = Seq (AreQuantified agg) (λ q. Pure (unresolved.Any q.variable q.over q.test))

abbrev pub EveryRel : Bool → Rel UnresolvedExpr
EveryRel agg = Seq (AreQuantified agg) (λ q. Pure (unresolved.Every q.variable q.over q.test))

abbrev pub ArrayRel : Bool → Rel UnresolvedExpr
ArrayRel agg = Seq (AreEach agg) (λ e. Pure (unresolved.Each e.variable e.item e.over e.when))

abbrev pub FirstRel : Bool → Rel UnresolvedExpr
FirstRel agg = Seq (AreEach agg) (λ e. Pure (unresolved.First e.variable e.item e.over e.when))

quantified_to : (agg : Bool) (us vs : List TokenClass) (q : Quantified) → QuantifiedRel agg one_quantified us q vs → AreQuantified agg us q vs
quantified_to agg _ vs q (worded (behind (seq over _ p (behind (seq test ws r (behind e)))))) = ends (AreQuantified agg) e (g.quantified p r)

quantified_from : (agg : Bool) (us vs : List TokenClass) (name : List ℕ) (over test : UnresolvedExpr) → IsQuantified agg us name over test vs → QuantifiedRel agg one_quantified us (one_quantified name over test) vs
quantified_from agg us vs name over test (g.quantified p r) = worded (behind (seq _ _ p (behind (seq _ _ r (behind none_taken)))))

each_to : (agg : Bool) (us vs : List TokenClass) (e : Each) → EachRel agg one_each us e vs → AreEach agg us e vs
each_to agg us vs e (seq item _ p (behind (worded (behind (seq over _ q (seq when _ r (behind k))))))) = ends (AreEach agg) k (g.each p q r)

each_from : (agg : Bool) (us vs : List TokenClass) (name : List ℕ) (item over : UnresolvedExpr) (when : Option UnresolvedExpr) → IsEach agg us name item over when vs → EachRel agg one_each us (one_each name item over when) vs
each_from agg us vs name item over when (g.each p q r) = seq _ _ p (behind (worded (behind (seq _ _ q (seq _ _ r (behind none_taken))))))

-- a keyword with an expression behind it, or nothing
abbrev pub May : Bool → AnyKeyword → Rel (Option UnresolvedExpr)
May agg m = Either (Then m (Seq (IsExpr agg) (λ x. Pure (Some x)))) (Pure None)

else_to : (agg : Bool) (us vs : List TokenClass) (y : Option UnresolvedExpr) → May agg keyword.Else us y vs → MayElse agg us y vs
else_to agg us vs y (one (behind (seq x ws p r))) = ends (MayElse agg) r (g.else_some p)
else_to agg us vs y (other none_taken) = g.else_none

else_from : (agg : Bool) (us vs : List TokenClass) (y : Option UnresolvedExpr) → MayElse agg us y vs → May agg keyword.Else us y vs
else_from agg us vs y (g.else_some p) = one (behind (seq _ _ p none_taken))
else_from agg us vs y g.else_none = other none_taken

when_to : (agg : Bool) (us vs : List TokenClass) (y : Option UnresolvedExpr) → May agg keyword.When us y vs → MayWhen agg us y vs
when_to agg us vs y (one (behind (seq x ws p r))) = ends (MayWhen agg) r (g.when_some p)
when_to agg us vs y (other none_taken) = g.when_none

when_from : (agg : Bool) (us vs : List TokenClass) (y : Option UnresolvedExpr) → MayWhen agg us y vs → May agg keyword.When us y vs
when_from agg us vs y (g.when_some p) = one (behind (seq _ _ p none_taken))
when_from agg us vs y g.when_none = other none_taken

pub stops_less : (m n : ℕ) → m ≤ n → (us : List TokenClass) → Stops (up_to n) us → Stops (up_to m) us
stops_less m n h [] st = tt
stops_less m n h (t ∷ us) st = tighter_stops m n h t st

links_else : (agg : Bool) → Links (up_to 8) (up_to 9) (MayElse agg)
links_else agg = record { stops = go }
  where
    go : (us vs : List TokenClass) (y : Option UnresolvedExpr) → MayElse agg us y vs → Stops (up_to 9) vs → Stops (up_to 8) us
    go us vs y (g.else_some p) st = refl
    go us vs y g.else_none st = stops_less 8 9 (omega arith) us st

links_when : (agg : Bool) → Links (up_to 7) (up_to 8) (MayWhen agg)
links_when agg = record { stops = go }
  where
    go : (us vs : List TokenClass) (y : Option UnresolvedExpr) → MayWhen agg us y vs → Stops (up_to 8) vs → Stops (up_to 7) us
    go us vs y (g.when_some p) st = refl
    go us vs y g.when_none st = stops_less 7 8 (omega arith) us st

completes_else : (agg : Bool) → Completes (MayElse agg)
completes_else agg = record { more = []; tree = None; reads = λ us. g.else_none }

completes_when : (agg : Bool) → Completes (MayWhen agg)
completes_when agg = record { more = []; tree = None; reads = λ us. g.when_none }

completes_case_end : (agg : Bool) (a : Arms) → Completes (CaseEnd agg a)
completes_case_end agg a = completes_seq (completes_else agg) (λ other. completes_end keyword.End (unresolved.Case a.whens a.thens other))

completes_test : {A : Type 0} (agg : Bool) (made : UnresolvedExpr → A) → Completes (TestPart agg made)
completes_test agg made = completes_seq (completes_at agg precedence.Or) (λ x. completes_end keyword.End (made x))

completes_over : {A : Type 0} (agg : Bool) (made : UnresolvedExpr → UnresolvedExpr → A) → Completes (OverPart agg made)
completes_over agg made = completes_seq (completes_at agg precedence.Or) (λ over. completes_then keyword.Satisfies (completes_test agg (made over)))

completes_when_part : {A : Type 0} (agg : Bool) (made : Option UnresolvedExpr → A) → Completes (WhenPart agg made)
completes_when_part agg made = completes_seq (completes_when agg) (λ when. completes_end keyword.End (made when))

completes_in : {A : Type 0} (agg : Bool) (made : UnresolvedExpr → Option UnresolvedExpr → A) → Completes (InPart agg made)
completes_in agg made = completes_seq (completes_at agg precedence.Or) (λ over. completes_when_part agg (made over))

completes_for : {A : Type 0} (agg : Bool) (made : List ℕ → UnresolvedExpr → Option UnresolvedExpr → A) → Completes (ForPart agg made)
completes_for agg made = completes_name (completes_then keyword.In (completes_in agg (made [])))

completes_arms : (agg : Bool) → Completes (λ ts (a : Arms) vs. IsArms agg (Keyword keyword.When ∷ ts) a.whens a.thens vs)
completes_arms agg =
    let c = completes_seq (completes_at agg precedence.Or) (λ x. completes_then keyword.Then (completes_seq (completes_at agg precedence.Or) (λ y. completes_pure (record { whens = x ∷ []; thens = y ∷ [] })))) in
    record { more = c.more; tree = c.tree; reads = λ us. go (c.reads us) }
  where
    go : {ts us : List TokenClass} {a : Arms} → Seq (IsExpr agg) (λ x. Then keyword.Then (Seq (IsExpr agg) (λ y. Pure (record { whens = x ∷ []; thens = y ∷ [] })))) ts a us → IsArms agg (Keyword keyword.When ∷ ts) a.whens a.thens us
    go (seq x _ p (behind (seq y ws q r))) = ends (λ ts (a : Arms) vs. IsArms agg (Keyword keyword.When ∷ ts) a.whens a.thens vs) r (g.arms p q g.arms_done)

module _ (inner : Bool → Precedence → Parser UnresolvedExpr) (agg : Bool) (n : ℕ) (w : Within n (up_to 7) (IsExpr agg) (inner agg precedence.Or)) where
  pub within_whole_after : (m : AnyKeyword) (k : ℕ) → 7 ≤ k → up_to k (Keyword m) ≡ true → Within n (up_to k) (May agg m) (whole_after inner agg m)
  unfolding whole_after
  within_whole_after m k h goes = within_may m
      (within_seq w (λ x. within_pure (Some x)) (λ x. links_pure (tighter_stops 7 k h)) (λ x. completes_pure (Some x)))
      (within_pure None) off
    where
      off : (us vs : List TokenClass) (y : Option UnresolvedExpr) → Pure None (Keyword m ∷ us) y vs → Stops (up_to k) vs → ⊥
      off us _ _ none_taken st = let l : true ≡ false = sym goes ∙ st in cc

  within_else : Within n (up_to 9) (MayElse agg) (whole_after inner agg keyword.Else)
  within_else = within_as {before = up_to 9} (within_whole_after keyword.Else 9 (omega arith) refl) (else_to agg) (λ us vs y q st. (else_from agg us vs y q, st))

  within_when : Within n (up_to 8) (MayWhen agg) (whole_after inner agg keyword.When)
  within_when = within_as {before = up_to 8} (within_whole_after keyword.When 8 (omega arith) refl) (when_to agg) (λ us vs y q st. (when_from agg us vs y q, st))

  pub within_parenthesized : Within n (up_to 1) (BracketRel agg) (parenthesized inner agg)
  unfolding parenthesized
  within_parenthesized = within_seq w (λ x. within_end keyword.CloseParenthesis x) (λ x. links_then refl) (λ x. completes_end keyword.CloseParenthesis x)

  pub within_list : Within n (up_to 1) (ListRel agg) (list inner agg)
  unfolding list
  within_list = within_may keyword.CloseSquare (within_pure (unresolved.List []))
      (within_seq (within_wholes inner agg n w) (λ xs. within_end keyword.CloseSquare (unresolved.List xs)) (λ xs. links_then refl) (λ xs. completes_end keyword.CloseSquare (unresolved.List xs)))
      off
    where
      off : (us vs : List TokenClass) (y : UnresolvedExpr) → Seq (IsExprs agg) (λ xs. Then keyword.CloseSquare (Pure (unresolved.List xs))) (Keyword keyword.CloseSquare ∷ us) y vs → Stops (up_to 1) vs → ⊥
      off us vs y (seq xs ws p q) st = let h : false ≡ true = exprs_head p in cc

  pub within_object : Within n (up_to 1) (ObjectRel agg) (object inner agg)
  unfolding object
  within_object = within_may keyword.CloseBrace (within_pure (unresolved.Build [] []))
      (within_seq (within_less (omega arith) (within_pairs inner agg n w)) (λ p. within_end keyword.CloseBrace (unresolved.Build p.names p.values)) (λ p. links_then refl) (λ p. completes_end keyword.CloseBrace (unresolved.Build p.names p.values)))
      off
    where
      off : (us vs : List TokenClass) (y : UnresolvedExpr) → Seq (ArePairs inner agg) (λ p. Then keyword.CloseBrace (Pure (unresolved.Build p.names p.values))) (Keyword keyword.CloseBrace ∷ us) y vs → Stops (up_to 1) vs → ⊥
      off us vs y (seq xs ws p q) st = elim p [ ]

  pub within_case : Within n (up_to 1) (CaseRel agg) («case» inner agg)
  unfolding «case»
  within_case = within_then keyword.When
      (within_seq (within_arms inner agg n w)
      (λ a. within_seq within_else (λ other. within_end keyword.End (unresolved.Case a.whens a.thens other)) (λ other. links_then refl) (λ other. completes_end keyword.End (unresolved.Case a.whens a.thens other)))
      (λ a. links_seq {between = up_to 9} (links_else agg) (λ other. links_then refl)) (completes_case_end agg))
      (completes_seq (completes_arms agg) (completes_case_end agg))

  within_quantified_rel : Within n (up_to 1) (QuantifiedRel agg one_quantified) (quantified inner agg)
  unfolding quantified
  within_quantified_rel = within_less (omega arith) (within_name {n = n}
      (λ name. within_then keyword.In
      (within_seq w
      (λ over. within_then keyword.Satisfies
      (within_seq w (λ test. within_end keyword.End (one_quantified name over test)) (λ test. links_then refl) (λ test. completes_end keyword.End (one_quantified name over test)))
      (completes_test agg (one_quantified name over)))
      (λ over. links_then refl) (λ over. completes_then keyword.Satisfies (completes_test agg (one_quantified name over))))
      (completes_over agg (one_quantified name)))
      (completes_then keyword.In (completes_over agg (one_quantified []))))

  pub within_quantified : Within n (up_to 1) (AreQuantified agg) (quantified inner agg)
  within_quantified = within_as {before = up_to 1} within_quantified_rel (quantified_to agg)
      (λ us vs q r st. (quantified_from agg us vs q.variable q.over q.test r, st))

  within_in : {A : Type 0} (made : UnresolvedExpr → Option UnresolvedExpr → A) → Within n (up_to 1) (InPart agg made)
      (λ ts. and_then (inner agg precedence.Or ts) (λ over us. and_then (whole_after inner agg keyword.When us) (λ when vs. and_then (expect keyword.End vs) (λ _ ws. got (made over when) ws))))
  within_in made = within_seq w
      (λ over. within_seq within_when (λ when. within_end keyword.End (made over when)) (λ when. links_then refl) (λ when. completes_end keyword.End (made over when)))
      (λ over. links_seq {between = up_to 8} (links_when agg) (λ when. links_then refl)) (λ over. completes_when_part agg (made over))

  within_each_rel : Within n (up_to 1) (EachRel agg one_each) (each inner agg)
  unfolding each
  within_each_rel = within_seq w
      (λ item. within_then keyword.For
      (within_less (omega arith) (within_name {n = n} (λ name. within_then keyword.In (within_in (one_each name item)) (completes_in agg (one_each name item)))
      (completes_then keyword.In (completes_in agg (one_each [] item)))))
      (completes_for agg (λ name. one_each name item)))
      (λ item. links_then refl) (λ item. completes_then keyword.For (completes_for agg (λ name. one_each name item)))

  pub within_each : Within n (up_to 1) (AreEach agg) (each inner agg)
  within_each = within_as {before = up_to 1} within_each_rel (each_to agg)
      (λ us vs e r st. (each_from agg us vs e.variable e.item e.over e.when r, st))

  -- a form whose parts are made into an unresolved expression
  within_made : {A : Type 0} {R : Rel A} {p : Parser A} (made : A → UnresolvedExpr) → Within n (up_to 1) R p → Within n (up_to 1) (Seq R (λ q. Pure (made q))) (λ ts. and_then (p ts) (λ q us. got (made q) us))
  within_made made v = within_seq v (λ q. within_pure (made q)) (λ q. links_pure (λ t e. e)) (λ q. completes_pure (made q))

  pub within_any : Within n (up_to 1) (AnyRel agg) (any inner agg)
  unfolding any
  within_any = within_made (λ (q : Quantified). unresolved.Any q.variable q.over q.test) within_quantified

  pub within_every : Within n (up_to 1) (EveryRel agg) (every inner agg)
  unfolding every
  within_every = within_made (λ (q : Quantified). unresolved.Every q.variable q.over q.test) within_quantified

  pub within_array : Within n (up_to 1) (ArrayRel agg) (array inner agg)
  unfolding array
  within_array = within_made (λ (e : Each). unresolved.Each e.variable e.item e.over e.when) within_each

  pub within_first : Within n (up_to 1) (FirstRel agg) (first inner agg)
  unfolding first
  within_first = within_made (λ (e : Each). unresolved.First e.variable e.item e.over e.when) within_each
