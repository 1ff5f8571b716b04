-- The texts of the history that is told: each reads as its statement.
use Rattle.std.proofs.Common.{◌≡◌, ℕ, List, [], ◌∷◌, false, codes, refl, sym, subst, arith}
use Rattle.std.specs.Prelude.{drop}
use Rattle.n1ql_lex.specs.declared.token.Token.{Token}
use Rattle.n1ql_lex.specs.declared.token_kind.TokenKind.TheVariants.{Word, Name}
use Rattle.n1ql_lex.specs.Bytes.{opening_of}
use Rattle.n1ql_lex.specs.Words.{reserved_word_of}
use Rattle.n1ql_lex.specs.Tokens.{IsToken, IsTokens, none}
use Rattle.n1ql_ast.specs.declared.ddl.Ddl.TheVariants as ddl
use Rattle.n1ql_ast.specs.declared.token_class.TokenClass.{TokenClass}
use Rattle.n1ql_ast.specs.declared.token_class.TokenClass.TheVariants.{Keyword, Name as NameClass}
use Rattle.n1ql_ast.specs.declared.keyword.Keyword.TheVariants as keyword
use Rattle.n1ql_ast.specs.Keywords.{keyword_spelt}
use Rattle.n1ql_ast.specs.Statements.{IsStatement, ddl_drop, using_none}
use Rattle.n1ql_parse.specs.Input.{classes_of}
use Rattle.n1ql_parse.specs.Readings.{IsReadingDdl}
use Rattle.scan_history.proofs.StatementTokens.{token_of, one, gap}
use Rattle.scan_history.proofs.StatementReading.{create_on}
use Rattle.scan_history.proofs.StatementText.{reads_as}

pub creates : IsReadingDdl (codes "CREATE INDEX ix ON ks(x)") (ddl.Create (create_on 120))
creates = reads_as (codes "CREATE INDEX ix ON ks(x)") 120 refl

abbrev text : List ℕ
text = codes "DROP INDEX ix ON ks"

abbrev tokens : List Token
tokens =
    token_of (Word (codes "DROP")) 0 4 ∷ token_of (Word (codes "INDEX")) 5 10 ∷ token_of (Name (codes "ix") false) 11 13 ∷
    token_of (Word (codes "ON")) 14 16 ∷ token_of (Name (codes "ks") false) 17 19 ∷ []

drop_word : IsToken (drop 0 text) (Word (codes "DROP")) 4
unfolding opening_of reserved_word_of
drop_word = record { some = omega arith; token = (refl, refl) }

index_word : IsToken (drop 5 text) (Word (codes "INDEX")) 5
unfolding opening_of reserved_word_of
index_word = record { some = omega arith; token = (refl, refl) }

name_word : IsToken (drop 11 text) (Name (codes "ix") false) 2
unfolding opening_of reserved_word_of
name_word = record { some = omega arith; token = (refl, refl) }

on_word : IsToken (drop 14 text) (Word (codes "ON")) 2
unfolding opening_of reserved_word_of
on_word = record { some = omega arith; token = (refl, refl) }

keyspace_word : IsToken (drop 17 text) (Name (codes "ks") false) 2
unfolding opening_of reserved_word_of
keyspace_word = record { some = omega arith; token = (refl, refl) }

cut : IsTokens text tokens
cut =
    one text 19 0 _ 4 _ drop_word
    (gap text 19 4 _ (omega arith) refl
    (one text 19 5 _ 5 _ index_word
    (gap text 19 10 _ (omega arith) refl
    (one text 19 11 _ 2 _ name_word
    (gap text 19 13 _ (omega arith) refl
    (one text 19 14 _ 2 _ on_word
    (gap text 19 16 _ (omega arith) refl
    (one text 19 17 _ 2 _ keyspace_word none))))))))

abbrev classes : List TokenClass
classes = Keyword keyword.Drop ∷ Keyword keyword.Index ∷ NameClass (codes "ix") false ∷ Keyword keyword.On ∷ NameClass (codes "ks") false ∷ []

the_classes : classes_of tokens ≡ classes
unfolding keyword_spelt
the_classes = refl

whole : IsStatement classes (ddl.Remove (codes "ks") (codes "ix"))
whole = ddl_drop using_none

pub removes : IsReadingDdl (codes "DROP INDEX ix ON ks") (ddl.Remove (codes "ks") (codes "ix"))
removes =
    record {
      tokens = tokens;
      cut = cut;
      few = omega arith;
      whole = subst (λ ks. IsStatement ks (ddl.Remove (codes "ks") (codes "ix"))) (sym the_classes) whole;
    }
