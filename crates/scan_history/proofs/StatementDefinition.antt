-- The statement on a field defines an index.
use Rattle.std.proofs.Common.{◌≡◌, ℕ, Bool, true, false, List, [], ◌∷◌, Option, Some, None, sym, ap, ◌∙◌}
use Rattle.std.specs.Prelude.{◌&&◌, ◌||◌, not, if◌then◌else◌}
use Rattle.n1ql_ast.specs.declared.expr.Expr.{fold-roll-Expr}
use Rattle.n1ql_ast.specs.declared.expr.Expr.TheOpen.{Expr-F}
use Rattle.n1ql_ast.specs.declared.expr.Expr.TheVariants as expr
use Rattle.n1ql_ast.specs.Forms.{of_each_part}
use Rattle.index_def.specs.declared.subject.Subject.{Subject}
use Rattle.index_def.specs.declared.subject.Subject.TheVariants.{Document, OtherName}
use Rattle.index_def.specs.Mentions.{is_silent_on, is_subject, subject_of}
use Rattle.index_def.specs.declared.reason.Reason.{Reason}
use Rattle.index_def.specs.declared.reason.Reason.TheVariants.{ConstantKey, MetaAlias}
use Rattle.index_def.specs.Reasons.{first_reason}
use Rattle.scan_history.proofs.StatementReading.{create_on}

-- one level of whether an expression is silent on a subject
abbrev level : Subject → Expr-F Bool → Bool
level s l = not (is_subject (subject_of l) s) && of_each_part l

silent_on_document : (s : Subject) → is_silent_on s expr.Doc ≡ level s Expr-F.Doc
silent_on_document s = ap (is_silent_on s) (sym expr.rolls-Doc) ∙ fold-roll-Expr Bool (level s) Expr-F.Doc

-- a field of the document speaks of what the document does
silent_on_field : (s : Subject) (name : List ℕ) → is_silent_on s (expr.Field expr.Doc name) ≡ level s Expr-F.Doc
silent_on_field s name =
    ap (is_silent_on s) (sym (expr.rolls-Field expr.Doc name))
    ∙ (fold-roll-Expr Bool (level s) (Expr-F.Field expr.Doc name) ∙ silent_on_document s)

abbrev found : Bool → Bool → Option Reason
found document other =
    if (document && true) || false then Some ConstantKey else (if not (other && true) then Some MetaAlias else None)

pub no_reason : (letter : ℕ) → first_reason (create_on letter) ≡ None
no_reason letter =
    ap (λ b. found b (is_silent_on OtherName (expr.Field expr.Doc (letter ∷ [])))) (silent_on_field Document (letter ∷ []))
    ∙ ap (found false) (silent_on_field OtherName (letter ∷ []))
