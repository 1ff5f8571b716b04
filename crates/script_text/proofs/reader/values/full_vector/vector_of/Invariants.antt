use Rattle.std.proofs.Common.{◌≡◌}
use Rattle.script_text.proofs.Vectors.{filled}
use Rattle.script_text.proofs.reader.values.full_vector.vector_of.Given as goal

-- the entries so far, and zeros
abbrev pub invariant-loop-vb : goal.invariant-loop-vb
invariant-loop-vb l = l.vector ≡ filled l.vbuckets l.vb l.entries
