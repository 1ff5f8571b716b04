-- A function value that reads the unresolved expressions inside a rule.
use Rattle.std.specs.Prelude.{ℕ, Bool, List, Result}
use Rattle.std.specs.declared.alloc.Global.{Global}
use denote.Ref.{MutBor}
use Rattle.n1ql_ast.specs.declared.token_class.TokenClass.{TokenClass}
use Rattle.n1ql_ast.specs.declared.unresolved_expr.UnresolvedExpr.{UnresolvedExpr}
use Rattle.n1ql_parse.specs.declared.expressions.precedence.Precedence.{Precedence}
use Rattle.n1ql_parse.specs.declared.tokens.parse_stop.ParseStop.{ParseStop}
use Rattle.n1ql_parse.specs.inner.Steps.{Gives}
use Rattle.n1ql_parse.specs.inner.Parser.{at}

pub record Nests (fuel : ℕ) (pre : Global → MutBor (List TokenClass) → ℕ → Bool → Precedence → Type 0)
    (post : Global → MutBor (List TokenClass) → ℕ → Bool → Precedence → Result UnresolvedExpr ParseStop → MutBor (List TokenClass) → Type 0) : Type 0 where
  pub callable : (alloc : Global) (old : MutBor (List TokenClass)) (agg : Bool) (precedence : Precedence) → pre alloc old fuel agg precedence
  pub reads : (alloc : Global) (old new : MutBor (List TokenClass)) (agg : Bool) (precedence : Precedence) (r : Result UnresolvedExpr ParseStop) →
      post alloc old fuel agg precedence r new → Gives (at fuel agg precedence old.now) r new.now
