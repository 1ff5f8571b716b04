use Rattle.std.proofs.Common.{◌≡◌, drop, find}
use Rattle.std.specs.Str.{str_eq_ignore_ascii_case}
use Rattle.n1ql_value.specs.Functions.{name_of, functions}
use Rattle.n1ql_value.proofs.fun.Fun.by_name.Given as goal

abbrev pub invariant-loop-fun : goal.invariant-loop-fun
invariant-loop-fun l =
    find (λ fun. str_eq_ignore_ascii_case l.name (name_of fun)) (drop l.fun-index l.fun-items)
    ≡ find (λ fun. str_eq_ignore_ascii_case l.name (name_of fun)) functions
