-- Where tokens leave a language, which is given by the lists of tokens that follow it.
use Rattle.std.specs.Prelude.{◌≡◌, ℕ, ◌+◌, ◌<◌, ◌≤◌, List, ◌++◌, length, take}
use Rattle.n1ql_ast.specs.declared.token_class.TokenClass.{TokenClass}
use Rattle.n1ql_ast.specs.declared.unresolved_expr.UnresolvedExpr.{UnresolvedExpr}
use Rattle.n1ql_ast.specs.Grammar.{IsWhole}

-- some list that begins so follows the language
abbrev pub Begins : (List TokenClass → Type 0) → List TokenClass → Type 0
Begins Follows ts = (more : List TokenClass) × Follows (ts ++ more)

-- The tokens leave the language behind the first `at` of them: each front up to there begins a list that follows it, and with
-- the next token none does; or there is no next token, and they don't follow it themselves.
pub record Leaves (Follows : List TokenClass → Type 0) (ts : List TokenClass) (at : ℕ) : Type 0 where
  pub within : at ≤ length ts
  pub before : (n : ℕ) → n ≤ at → Begins Follows (take n ts)
  pub here : at < length ts → ¬ Begins Follows (take (at + 1) ts)
  pub past : at ≡ length ts → ¬ Follows ts

-- the tokens are one expression
abbrev pub FollowsExpr : List TokenClass → Type 0
FollowsExpr ts = (x : UnresolvedExpr) × IsWhole ts x
