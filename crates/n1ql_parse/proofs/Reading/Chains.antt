-- Operands with operators of one level between them, once for all levels.
use Rattle.std.specs.Prelude.{◌≡◌, ℕ, zero, suc, ◌<◌, Bool, true, false, List, [], ◌∷◌, length, Some, refl}
use Rattle.std.proofs.Common.{sym, ap, ◌∙◌, subst, arith}
use Rattle.n1ql_value.specs.declared.op.Op.{Op}
use Rattle.n1ql_ast.specs.declared.token_class.TokenClass.{TokenClass}
use Rattle.n1ql_ast.specs.declared.token_class.TokenClass.TheVariants.{Keyword}
use Rattle.n1ql_ast.specs.declared.keyword.Keyword.{Keyword as AnyKeyword}
use Rattle.n1ql_ast.specs.declared.unresolved_expr.UnresolvedExpr.{UnresolvedExpr}
use Rattle.n1ql_ast.specs.declared.unresolved_expr.UnresolvedExpr.TheVariants as unresolved
use Rattle.n1ql_parse.specs.declared.expressions.precedence.Precedence.{Precedence}
use Rattle.n1ql_parse.specs.inner.Steps.{Parser, got}
use Rattle.n1ql_parse.specs.inner.Parser.{op_at, tighter, chain_from, chain_on, chain}
use Rattle.n1ql_parse.proofs.Reading.Prefixes.{Rel, next, Stops, Agrees, Within, Completes, Links, Seq, seq, Pure, none_taken, Either, one, other}
use Rattle.n1ql_parse.proofs.Reading.Combined.{within_as, within_seq, within_pure, within_less, next_none}
use Rattle.n1ql_parse.proofs.Reading.Taken.{Operated, operated, within_operator}

-- what goes on from the unresolved expression so far
pub data Chain (l : Precedence) (R : Rel UnresolvedExpr) : (x : UnresolvedExpr) (ts : List TokenClass) (y : UnresolvedExpr) (vs : List TokenClass) → Type 0 where
  chain_done : {x : UnresolvedExpr} {ts : List TokenClass} → Chain l R x ts x ts
  chain_more : {operator : AnyKeyword} {o : Op} {x y z : UnresolvedExpr} {ts us vs : List TokenClass} →
      op_at l operator ≡ Some o → R ts y us → Chain l R (unresolved.Two o x y) us z vs → Chain l R x (Keyword operator ∷ ts) z vs

-- what the tokens of a level have to do with what may come after an operand and after the whole
pub record Apart (l : Precedence) (tight wide : TokenClass → Bool) : Type 0 where
  pub less : (t : TokenClass) → wide t ≡ false → tight t ≡ false
  pub off : (m : AnyKeyword) (o : Op) → op_at l m ≡ Some o → tight (Keyword m) ≡ false
  pub goes : (m : AnyKeyword) (o : Op) → op_at l m ≡ Some o → wide (Keyword m) ≡ true

-- one operator with its operand, and what goes on from there; or nothing
abbrev pub OneMore : Precedence → Rel UnresolvedExpr → UnresolvedExpr → Rel UnresolvedExpr
OneMore l R x = Either (Operated l (λ o. Seq R (λ y. Chain l R (unresolved.Two o x y)))) (Pure x)

of_one_more : (l : Precedence) (R : Rel UnresolvedExpr) (x : UnresolvedExpr) (us vs : List TokenClass) (y : UnresolvedExpr) → OneMore l R x us y vs → Chain l R x us y vs
of_one_more l R x us vs y (one (operated e (seq z ws p q))) = chain_more e p q
of_one_more l R x us vs y (other none_taken) = chain_done

one_more_of : (l : Precedence) (R : Rel UnresolvedExpr) (x : UnresolvedExpr) (us vs : List TokenClass) (y : UnresolvedExpr) → Chain l R x us y vs → OneMore l R x us y vs
one_more_of l R x us vs y chain_done = other none_taken
one_more_of l R x us vs y (chain_more e p q) = one (operated e (seq _ _ p q))

chain_links : (l : Precedence) (R : Rel UnresolvedExpr) (tight wide : TokenClass → Bool) → Apart l tight wide → (x : UnresolvedExpr) → Links tight wide (Chain l R x)
chain_links l R tight wide apart x = record { stops = λ us vs y r. go x us vs y r }
  where
    weaker : (vs : List TokenClass) → Stops wide vs → Stops tight vs
    weaker [] st = tt
    weaker (t ∷ vs) st = apart.less t st

    go : (x : UnresolvedExpr) (us vs : List TokenClass) (y : UnresolvedExpr) → Chain l R x us y vs → Stops wide vs → Stops tight us
    go x us vs y chain_done st = weaker us st
    go x us vs y (chain_more {operator = operator} {o = o} e p q) st = apart.off operator o e

chain_completes : (l : Precedence) (R : Rel UnresolvedExpr) (x : UnresolvedExpr) → Completes (Chain l R x)
chain_completes l R x = record { more = []; tree = x; reads = λ us. chain_done }

chain_end : (l : Precedence) (R : Rel UnresolvedExpr) (x y : UnresolvedExpr) (vs : List TokenClass) → Chain l R x [] y vs → (y ≡ x) × (vs ≡ [])
chain_end l R x y vs chain_done = (refl, refl)

module _ (inner : Bool → Precedence → Parser UnresolvedExpr) (agg : Bool) (l : Precedence) (R : Rel UnresolvedExpr) (tight wide : TokenClass → Bool) (apart : Apart l tight wide) where
  pub within_chain_from : (n : ℕ) → Within n tight R (inner agg (tighter l)) → (x : UnresolvedExpr) → Within (suc n) wide (Chain l R x) (chain_from inner agg l n x)
  unfolding chain_from
  within_chain_from zero w x = record { agrees = go }
    where
      at_end : (vs : List TokenClass) → length vs < 1 → vs ≡ []
      at_end [] h = refl
      at_end (t ∷ vs) h = absurd (omega arith)

      go : (ts : List TokenClass) → length ts < 1 → Agrees wide (Chain l R x) ts (got x ts)
      go ts h = record {
        front = [];
        is = refl;
        sound = λ us. chain_done;
        only = λ us vs y e q st.
            let eu = next_none (e ∙ ap next (at_end ts h)) in
            let p = chain_end l R x y vs (subst (λ k. Chain l R x k y vs) eu q) in
            (p.0, p.1 ∙ sym eu);
      }
  within_chain_from (suc n) w x =
      within_as {before = wide}
      (within_operator l
      (λ o. within_seq w (λ y. within_chain_from n (within_less (omega arith) w) (unresolved.Two o x y))
      (λ y. chain_links l R tight wide apart (unresolved.Two o x y)) (λ y. chain_completes l R (unresolved.Two o x y)))
      (within_pure x) off)
      (of_one_more l R x) (λ us vs y q st. (one_more_of l R x us vs y q, st))
    where
      off : (m : AnyKeyword) (o : Op) (us vs : List TokenClass) (y : UnresolvedExpr) → op_at l m ≡ Some o → Pure x (Keyword m ∷ us) y vs → Stops wide vs → ⊥
      off m o us _ _ e none_taken st = let h : true ≡ false = sym (apart.goes m o e) ∙ st in cc

  pub within_chain_on : (n : ℕ) → Within n tight R (inner agg (tighter l)) → (x : UnresolvedExpr) → Within n wide (Chain l R x) (chain_on inner agg l x)
  unfolding chain_on
  within_chain_on n w x = record { agrees = λ ts h. (within_chain_from (length ts) (within_less (omega arith) w) x).agrees ts (omega arith) }

  pub within_chain : (n : ℕ) → Within n tight R (inner agg (tighter l)) → Within n wide (Seq R (Chain l R)) (chain inner agg l)
  unfolding chain
  within_chain n w = within_seq w (within_chain_on n w) (chain_links l R tight wide apart) (chain_completes l R)
