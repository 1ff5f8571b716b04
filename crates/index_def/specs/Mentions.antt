-- What an expression speaks of, at any depth.
use Rattle.std.specs.Prelude.{Bool, true, false, not, ◌&&◌, Option, Some, None}
use Rattle.n1ql_ast.specs.declared.expr.Expr.{Expr, fold-Expr}
use Rattle.n1ql_ast.specs.declared.expr.Expr.TheOpen.{Expr-F}
use Rattle.n1ql_ast.specs.Forms.{of_each_part}
use Rattle.index_def.specs.declared.subject.Subject.{Subject}
use Rattle.index_def.specs.declared.subject.Subject.TheVariants.{Document, OtherName}

-- what one level of an expression speaks of by itself. A field of the document has the document as its part.
abbrev pub subject_of : {A : Type 0} → Expr-F A → Option Subject
subject_of Expr-F.Doc = Some Document
subject_of (Expr-F.MetaOf true) = Some Document
subject_of (Expr-F.MetaOf false) = Some OtherName
subject_of _ = None

abbrev pub is_subject : Option Subject → Subject → Bool
is_subject None s = false
is_subject (Some Document) Document = true
is_subject (Some Document) OtherName = false
is_subject (Some OtherName) Document = false
is_subject (Some OtherName) OtherName = true

-- neither the expression nor any part of it speaks of the subject
abbrev pub is_silent_on : Subject → Expr → Bool
is_silent_on s = fold-Expr Bool (λ l. not (is_subject (subject_of l) s) && of_each_part l)
