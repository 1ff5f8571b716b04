use Rattle.std.proofs.Common.{◌≡◌, drop, find, map}
use Rattle.std.specs.Str.{bytes_eq, str_to_ascii_uppercase}
use Rattle.n1ql_lex.proofs.word.word_among.Given as goal

abbrev pub invariant-loop-capitals : goal.invariant-loop-capitals
invariant-loop-capitals l =
    find (λ capitals. bytes_eq capitals (str_to_ascii_uppercase l.word)) (map (λ entry. entry.now) (drop l.capitals-index l.table))
    ≡ find (λ capitals. bytes_eq capitals (str_to_ascii_uppercase l.word)) (map (λ entry. entry.now) l.table)
