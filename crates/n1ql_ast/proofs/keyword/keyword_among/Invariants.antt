use Rattle.std.proofs.Common.{◌≡◌, drop, find}
use Rattle.std.specs.Str.{bytes_eq}
use Rattle.n1ql_ast.specs.Keywords.{spelling_of}
use Rattle.n1ql_ast.proofs.keyword.keyword_among.Given as goal

abbrev pub invariant-loop-keyword : goal.invariant-loop-keyword
invariant-loop-keyword l =
    find (λ keyword. bytes_eq l.text (spelling_of keyword)) (drop l.keyword-index l.table)
    ≡ find (λ keyword. bytes_eq l.text (spelling_of keyword)) l.table
