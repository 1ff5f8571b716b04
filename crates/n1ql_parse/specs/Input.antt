-- What the grammar sees of the tokens of a text.
use Rattle.std.specs.Prelude.{List, map, Option, Some, None}
use Rattle.n1ql_ast.specs.declared.token_class.TokenClass.{TokenClass}
use Rattle.n1ql_ast.specs.declared.token_class.TokenClass.TheVariants as class
use Rattle.n1ql_ast.specs.declared.keyword.Keyword.{Keyword}
use Rattle.n1ql_ast.specs.Keywords.{keyword_spelt}
use Rattle.n1ql_lex.specs.declared.token.Token.{Token}
use Rattle.n1ql_lex.specs.declared.token_kind.TokenKind.{TokenKind}
use Rattle.n1ql_lex.specs.declared.token_kind.TokenKind.TheVariants.{Word, Name, Str, Num, Sign}

-- a keyword, where the spelling is that of one
abbrev pub keyword_class : Option Keyword → TokenClass
keyword_class (Some keyword) = class.Keyword keyword
keyword_class None = class.Other

-- words and signs are told by their spelling; names, strings and numbers are what they are
abbrev pub class_of : TokenKind → TokenClass
class_of (Word text) = keyword_class (keyword_spelt text)
class_of (Sign text) = keyword_class (keyword_spelt text)
class_of (Name text quoted) = class.Name text quoted
class_of (Str text) = class.Str text
class_of (Num number) = class.Num number

abbrev pub classes_of : List Token → List TokenClass
classes_of tokens = map (λ token. class_of token.kind) tokens
