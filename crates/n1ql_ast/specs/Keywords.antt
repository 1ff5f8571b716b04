-- Reserved words and signs, and how each is written.
use Rattle.std.specs.Prelude.{ℕ, List, [], ◌∷◌, Option, codes, find}
use Rattle.std.specs.Str.{bytes_eq}
use Rattle.n1ql_ast.specs.declared.keyword.Keyword.{Keyword}
use Rattle.n1ql_ast.specs.declared.keyword.Keyword.TheVariants as keyword

-- the spelling of a keyword, a word in capitals
abbrev pub spelling_of : Keyword → List ℕ
spelling_of keyword.All = codes "ALL"
spelling_of keyword.And = codes "AND"
spelling_of keyword.Any = codes "ANY"
spelling_of keyword.Array = codes "ARRAY"
spelling_of keyword.As = codes "AS"
spelling_of keyword.Asc = codes "ASC"
spelling_of keyword.Between = codes "BETWEEN"
spelling_of keyword.Build = codes "BUILD"
spelling_of keyword.By = codes "BY"
spelling_of keyword.Case = codes "CASE"
spelling_of keyword.Create = codes "CREATE"
spelling_of keyword.Delete = codes "DELETE"
spelling_of keyword.Desc = codes "DESC"
spelling_of keyword.Distinct = codes "DISTINCT"
spelling_of keyword.Drop = codes "DROP"
spelling_of keyword.Else = codes "ELSE"
spelling_of keyword.End = codes "END"
spelling_of keyword.Every = codes "EVERY"
spelling_of keyword.False = codes "FALSE"
spelling_of keyword.First = codes "FIRST"
spelling_of keyword.For = codes "FOR"
spelling_of keyword.From = codes "FROM"
spelling_of keyword.Group = codes "GROUP"
spelling_of keyword.Gsi = codes "GSI"
spelling_of keyword.Hash = codes "HASH"
spelling_of keyword.Having = codes "HAVING"
spelling_of keyword.In = codes "IN"
spelling_of keyword.Include = codes "INCLUDE"
spelling_of keyword.Index = codes "INDEX"
spelling_of keyword.Inner = codes "INNER"
spelling_of keyword.Is = codes "IS"
spelling_of keyword.Join = codes "JOIN"
spelling_of keyword.Left = codes "LEFT"
spelling_of keyword.Limit = codes "LIMIT"
spelling_of keyword.Missing = codes "MISSING"
spelling_of keyword.Not = codes "NOT"
spelling_of keyword.Null = codes "NULL"
spelling_of keyword.Offset = codes "OFFSET"
spelling_of keyword.On = codes "ON"
spelling_of keyword.Or = codes "OR"
spelling_of keyword.Order = codes "ORDER"
spelling_of keyword.Partition = codes "PARTITION"
spelling_of keyword.Primary = codes "PRIMARY"
spelling_of keyword.Raw = codes "RAW"
spelling_of keyword.Satisfies = codes "SATISFIES"
spelling_of keyword.Select = codes "SELECT"
spelling_of keyword.Set = codes "SET"
spelling_of keyword.Then = codes "THEN"
spelling_of keyword.True = codes "TRUE"
spelling_of keyword.Unnest = codes "UNNEST"
spelling_of keyword.Unset = codes "UNSET"
spelling_of keyword.Update = codes "UPDATE"
spelling_of keyword.Use = codes "USE"
spelling_of keyword.Using = codes "USING"
spelling_of keyword.Valued = codes "VALUED"
spelling_of keyword.When = codes "WHEN"
spelling_of keyword.Where = codes "WHERE"
spelling_of keyword.With = codes "WITH"
spelling_of keyword.OpenParenthesis = codes "("
spelling_of keyword.CloseParenthesis = codes ")"
spelling_of keyword.OpenSquare = codes "["
spelling_of keyword.CloseSquare = codes "]"
spelling_of keyword.OpenBrace = codes "{"
spelling_of keyword.CloseBrace = codes "}"
spelling_of keyword.Comma = codes ","
spelling_of keyword.Dot = codes "."
spelling_of keyword.Colon = codes ":"
spelling_of keyword.Plus = codes "+"
spelling_of keyword.Minus = codes "-"
spelling_of keyword.Star = codes "*"
spelling_of keyword.Percent = codes "%"
spelling_of keyword.Equal = codes "="
spelling_of keyword.DoubleEqual = codes "=="
spelling_of keyword.NotEqual = codes "!="
spelling_of keyword.LessGreater = codes "<>"
spelling_of keyword.Less = codes "<"
spelling_of keyword.LessEqual = codes "<="
spelling_of keyword.Greater = codes ">"
spelling_of keyword.GreaterEqual = codes ">="
spelling_of keyword.DoubleBar = codes "||"

abbrev pub keywords : List Keyword
keywords =
    keyword.All ∷ keyword.And ∷ keyword.Any ∷ keyword.Array ∷ keyword.As ∷ keyword.Asc ∷ keyword.Between ∷ keyword.Build ∷ keyword.By ∷
    keyword.Case ∷ keyword.Create ∷ keyword.Delete ∷ keyword.Desc ∷ keyword.Distinct ∷ keyword.Drop ∷ keyword.Else ∷ keyword.End ∷
    keyword.Every ∷ keyword.False ∷ keyword.First ∷ keyword.For ∷ keyword.From ∷ keyword.Group ∷ keyword.Gsi ∷ keyword.Hash ∷ keyword.Having ∷
    keyword.In ∷ keyword.Include ∷ keyword.Index ∷ keyword.Inner ∷ keyword.Is ∷ keyword.Join ∷ keyword.Left ∷ keyword.Limit ∷ keyword.Missing ∷
    keyword.Not ∷ keyword.Null ∷ keyword.Offset ∷ keyword.On ∷ keyword.Or ∷ keyword.Order ∷ keyword.Partition ∷ keyword.Primary ∷ keyword.Raw ∷
    keyword.Satisfies ∷ keyword.Select ∷ keyword.Set ∷ keyword.Then ∷ keyword.True ∷ keyword.Unnest ∷ keyword.Unset ∷ keyword.Update ∷
    keyword.Use ∷ keyword.Using ∷ keyword.Valued ∷ keyword.When ∷ keyword.Where ∷ keyword.With ∷ keyword.OpenParenthesis ∷ keyword.CloseParenthesis ∷
    keyword.OpenSquare ∷ keyword.CloseSquare ∷ keyword.OpenBrace ∷ keyword.CloseBrace ∷ keyword.Comma ∷ keyword.Dot ∷ keyword.Colon ∷
    keyword.Plus ∷ keyword.Minus ∷ keyword.Star ∷ keyword.Percent ∷ keyword.Equal ∷ keyword.DoubleEqual ∷ keyword.NotEqual ∷
    keyword.LessGreater ∷ keyword.Less ∷ keyword.LessEqual ∷ keyword.Greater ∷ keyword.GreaterEqual ∷ keyword.DoubleBar ∷ []

-- the keyword that is written so, or none
unfoldable pub keyword_spelt : List ℕ → Option Keyword
keyword_spelt text = find (λ m. bytes_eq text (spelling_of m)) keywords
