-- What a search for a token at the front of a text answers.
use Rattle.std.specs.Prelude.{ℕ, List, Option, Some, None}
use Rattle.n1ql_lex.specs.declared.lexeme.Lexeme.{Lexeme}
use Rattle.n1ql_lex.specs.declared.token_kind.TokenKind.{TokenKind}
use Rattle.n1ql_lex.specs.declared.opening.Opening.{Opening}
use Rattle.n1ql_lex.specs.declared.lex_fault.LexFault.{LexFault}
use Rattle.n1ql_lex.specs.declared.lex_fault.LexFault.TheVariants.{Fault, Memory}
use Rattle.n1ql_lex.specs.Tokens.{IsToken, IsTokenOf, IsFault}

-- the token of an opening, or none where there is none
abbrev pub IsLexemeOf : Opening → List ℕ → Option Lexeme → Type 0
IsLexemeOf opening text (Some found) = IsTokenOf opening text found.kind found.len
IsLexemeOf opening text None = (kind : TokenKind) (len : ℕ) → IsTokenOf opening text kind len → ⊥

-- the token at the front, or none where there is none
abbrev pub IsLexeme : List ℕ → Option Lexeme → Type 0
IsLexeme text (Some found) = IsToken text found.kind found.len
IsLexeme text None = (kind : TokenKind) (len : ℕ) → IsToken text kind len → ⊥

-- a fault stands where the text has one; want of memory may come at any text
abbrev pub IsFaultOf : List ℕ → LexFault → Type 0
IsFaultOf text (Fault at) = IsFault text at
IsFaultOf text Memory = Unit {0}
