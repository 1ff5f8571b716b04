-- Words: names, and the reserved words of N1QL.
use Rattle.std.specs.Prelude.{ℕ, false, List, [], ◌∷◌, Option, Some, None, codes, find}
use Rattle.std.specs.List.{take_while}
use Rattle.std.specs.Str.{bytes_eq, str_to_ascii_uppercase}
use Rattle.n1ql_lex.specs.declared.token_kind.TokenKind.{TokenKind}
use Rattle.n1ql_lex.specs.declared.token_kind.TokenKind.TheVariants.{Word, Name}
use Rattle.n1ql_lex.specs.Bytes.{is_word_byte}

abbrev pub reserved_words : List (List ℕ)
reserved_words =
    codes "ALL" ∷ codes "AND" ∷ codes "ANY" ∷ codes "ARRAY" ∷ codes "AS" ∷ codes "ASC" ∷ codes "BETWEEN" ∷
    codes "BUILD" ∷ codes "BY" ∷ codes "CASE" ∷ codes "CREATE" ∷ codes "DELETE" ∷ codes "DESC" ∷ codes "DISTINCT" ∷
    codes "DROP" ∷ codes "ELSE" ∷ codes "END" ∷ codes "EVERY" ∷ codes "FALSE" ∷ codes "FIRST" ∷ codes "FOR" ∷
    codes "FROM" ∷ codes "GROUP" ∷ codes "GSI" ∷ codes "HASH" ∷ codes "HAVING" ∷ codes "IN" ∷ codes "INCLUDE" ∷
    codes "INDEX" ∷ codes "INNER" ∷ codes "IS" ∷ codes "JOIN" ∷ codes "LEFT" ∷ codes "LIMIT" ∷ codes "MISSING" ∷
    codes "NOT" ∷ codes "NULL" ∷ codes "OFFSET" ∷ codes "ON" ∷ codes "OR" ∷ codes "ORDER" ∷ codes "PARTITION" ∷
    codes "PRIMARY" ∷ codes "RAW" ∷ codes "SATISFIES" ∷ codes "SELECT" ∷ codes "SET" ∷ codes "THEN" ∷ codes "TRUE" ∷
    codes "UNNEST" ∷ codes "UNSET" ∷ codes "UPDATE" ∷ codes "USE" ∷ codes "USING" ∷ codes "VALUED" ∷ codes "WHEN" ∷
    codes "WHERE" ∷ codes "WITH" ∷ []

-- the reserved word that a word is without regard to case, in capitals
unfoldable pub reserved_word_of : List ℕ → Option (List ℕ)
reserved_word_of word = find (λ reserved. bytes_eq reserved (str_to_ascii_uppercase word)) reserved_words

-- a word is a reserved word, else a name
abbrev pub kind_of_word : List ℕ → Option (List ℕ) → TokenKind
kind_of_word word (Some reserved) = Word reserved
kind_of_word word None = Name word false

-- the longest word at the front
abbrev pub word_of : List ℕ → List ℕ
word_of bytes = take_while is_word_byte bytes
