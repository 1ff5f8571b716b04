use Rattle.std.proofs.Common.{◌≡◌, drop, map}
use Rattle.n1ql_ast.specs.Forms.{all_hold}
use Rattle.index_def.specs.Mentions.{is_silent_on}
use Rattle.index_def.proofs.mention.+mention.Given as goal

abbrev pub invariant-are_all_silent_on-loop-x : goal.invariant-are_all_silent_on-loop-x
invariant-are_all_silent_on-loop-x l =
    all_hold (map (is_silent_on l.subject) (drop l.x-index l.xs)) ≡ all_hold (map (is_silent_on l.subject) l.xs)
