use Rattle.std.proofs.Common.{◌≡◌, ◌-◌, length, drop}
use Rattle.std.specs.Str.{bytes_eq, str_to_ascii_uppercase}
use Rattle.n1ql_lex.proofs.word.is_in_capitals.Given as goal

abbrev pub invariant-loop-at : goal.invariant-loop-at
invariant-loop-at l =
    bytes_eq (drop l.at l.capitals) (str_to_ascii_uppercase (drop l.at l.word)) ≡ bytes_eq l.capitals (str_to_ascii_uppercase l.word)

abbrev pub decreases-loop-at : goal.decreases-loop-at
decreases-loop-at l = length l.word - l.at
