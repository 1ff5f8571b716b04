use Rattle.std.proofs.Common.{◌≡◌, take}
use Rattle.n1ql_parse.specs.Input.{classes_of}
use Rattle.n1ql_parse.proofs.tokens.classes.classes_of.Given as goal

abbrev pub invariant-loop-token : goal.invariant-loop-token
invariant-loop-token l = l.classes ≡ classes_of (take l.token-index l.tokens)
