-- The tree that a text has in a language, and the three languages that are read.
use Rattle.std.specs.Prelude.{◌≡◌, ℕ, ◌≤◌, List, length}
use Rattle.n1ql_lex.specs.declared.token.Token.{Token}
use Rattle.n1ql_lex.specs.Tokens.{IsTokens}
use Rattle.n1ql_ast.specs.declared.ddl.Ddl.{Ddl}
use Rattle.n1ql_ast.specs.declared.expr.Expr.{Expr}
use Rattle.n1ql_ast.specs.declared.selection.Selection.{Selection}
use Rattle.n1ql_ast.specs.declared.token_class.TokenClass.{TokenClass}
use Rattle.n1ql_ast.specs.Grammar.{IsWhole}
use Rattle.n1ql_ast.specs.Names.{outermost, resolved}
use Rattle.n1ql_ast.specs.ResolvedSelections.{resolved_select}
use Rattle.n1ql_ast.specs.Selections.{IsWholeSelect}
use Rattle.n1ql_ast.specs.Statements.{IsStatement}
use Rattle.n1ql_parse.specs.Input.{classes_of}

-- the greatest number of tokens of a text that is read
abbrev pub most_tokens : ℕ
most_tokens = 512

-- The text has few tokens, and the language gives them this tree.
pub record IsTextOf {A : Type 0} (Is : List TokenClass → A → Type 0) (text : List ℕ) (tree : A) : Type 0 where
  pub tokens : List Token
  pub cut : IsTokens text tokens
  pub few : length tokens ≤ most_tokens
  pub whole : Is (classes_of tokens) tree

-- A language gives the tokens an unresolved tree, and the tree is what it means.
pub record IsMeant {U A : Type 0} (Is : List TokenClass → U → Type 0) (meaning_of : U → A) (ts : List TokenClass) (tree : A) : Type 0 where
  pub unresolved : U
  pub whole : Is ts unresolved
  pub meaning : tree ≡ meaning_of unresolved

-- the tokens are one expression, whose document has the name `alias`
abbrev pub IsMeantExpr : List ℕ → List TokenClass → Expr → Type 0
IsMeantExpr alias = IsMeant IsWhole (λ x. resolved x (outermost alias))

-- the tokens are one SELECT
abbrev pub IsMeantSelect : List TokenClass → Selection Expr → Type 0
IsMeantSelect = IsMeant IsWholeSelect resolved_select

-- the expression that a text is
abbrev pub IsReading : List ℕ → List ℕ → Expr → Type 0
IsReading text alias e = IsTextOf (IsMeantExpr alias) text e

-- the statement on indexes that a text is
abbrev pub IsReadingDdl : List ℕ → Ddl → Type 0
IsReadingDdl text d = IsTextOf IsStatement text d

-- the SELECT that a text is
abbrev pub IsReadingSelect : List ℕ → Selection Expr → Type 0
IsReadingSelect text q = IsTextOf IsMeantSelect text q
