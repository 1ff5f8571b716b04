-- The statement on a field reads as one definition.
use Rattle.std.proofs.Common.{◌≡◌, ℕ, Bool, true, false, List, [], ◌∷◌, None, refl, sym, ap, ◌∙◌, subst}
use Rattle.std.specs.Prelude.{codes, ◌&&◌, ◌==◌, if◌then◌else◌}
use Rattle.n1ql_ast.specs.declared.create.Create.{Create}
use Rattle.n1ql_ast.specs.declared.ddl.Ddl.TheVariants as ddl
use Rattle.n1ql_ast.specs.declared.expr.Expr.{Expr}
use Rattle.n1ql_ast.specs.declared.expr.Expr.TheVariants as expr
use Rattle.n1ql_ast.specs.declared.key.Key.TheVariants as key
use Rattle.n1ql_ast.specs.declared.token_class.TokenClass.{TokenClass}
use Rattle.n1ql_ast.specs.declared.token_class.TokenClass.TheVariants.{Keyword, Name}
use Rattle.n1ql_ast.specs.declared.keyword.Keyword.TheVariants as keyword
use Rattle.n1ql_ast.specs.declared.unresolved_expr.UnresolvedExpr.{fold-roll-UnresolvedExpr}
use Rattle.n1ql_ast.specs.declared.unresolved_expr.UnresolvedExpr.TheOpen.{UnresolvedExpr-F}
use Rattle.n1ql_ast.specs.declared.unresolved_expr.UnresolvedExpr.TheVariants as unresolved
use Rattle.n1ql_ast.specs.declared.scope.Scope.{Scope}
use Rattle.n1ql_ast.specs.Keywords.{keyword_spelt}
use Rattle.n1ql_ast.specs.Names.{level_in, outermost}
use Rattle.n1ql_ast.specs.Grammar.{IsExpr, expr as is_expr, or_done, and, and_done, not_rel, rel, test_none, add, add_done, mul, mul_done, neg_post, post, post_done, prim_name}
use Rattle.n1ql_ast.specs.Statements.{IsStatement, IsKey, on_document, keys, key_plain, keys_done, ddl_create, where_none, using_none, with_none}
use Rattle.n1ql_parse.specs.Input.{classes_of}
use Rattle.scan_history.proofs.StatementForm.{index_name}
use Rattle.scan_history.proofs.StatementTokens.{tokens_on}

-- the creation of the index on a field
abbrev pub create_on : ℕ → Create
create_on letter =
    record { name = index_name; keyspace = codes "ks"; keys = key.Plain (expr.Field expr.Doc (letter ∷ [])) ∷ []; filter = None; options = None; primary = false }

abbrev pub classes_on : ℕ → List TokenClass
classes_on letter =
    Keyword keyword.Create ∷ Keyword keyword.Index ∷ Name (codes "ix") false ∷ Keyword keyword.On ∷ Name (codes "ks") false ∷ Keyword keyword.OpenParenthesis ∷
    Name (letter ∷ []) false ∷ Keyword keyword.CloseParenthesis ∷ []

pub classes : (letter : ℕ) → classes_of (tokens_on letter) ≡ classes_on letter
unfolding keyword_spelt
classes letter = refl

-- a name by itself
a_name : (name : List ℕ) (rest : List TokenClass) → IsExpr false (Name name false ∷ rest) (unresolved.Name name) rest
a_name name rest = is_expr (and (not_rel (rel (add (mul (neg_post (post prim_name post_done)) mul_done) add_done) test_none)) and_done) or_done

and_false : (b : Bool) → (b && false) ≡ false
and_false true = refl
and_false false = refl

-- one letter isn't the name of the keyspace
no_keyspace : (letter : ℕ) → on_document (codes "ks") (unresolved.Name (letter ∷ [])) ≡ expr.Field expr.Doc (letter ∷ [])
no_keyspace letter =
    ap (on_document (codes "ks")) (sym (unresolved.rolls-Name (letter ∷ [])))
    ∙ (ap (λ (f : Scope → Expr). f (outermost (codes "ks"))) (fold-roll-UnresolvedExpr (Scope → Expr) level_in (UnresolvedExpr-F.Name (letter ∷ [])))
    ∙ ap (λ b. if b then expr.Doc else expr.Field expr.Doc (letter ∷ [])) (and_false (letter == 107)))

pub statement : (letter : ℕ) → IsStatement (classes_on letter) (ddl.Create (create_on letter))
statement letter =
    ddl_create
    (keys (subst (λ (e : Expr). IsKey (codes "ks") (Name (letter ∷ []) false ∷ Keyword keyword.CloseParenthesis ∷ []) (key.Plain e) (Keyword keyword.CloseParenthesis ∷ [])) (no_keyspace letter) (key_plain (a_name (letter ∷ []) (Keyword keyword.CloseParenthesis ∷ [])))) keys_done)
    where_none using_none with_none
