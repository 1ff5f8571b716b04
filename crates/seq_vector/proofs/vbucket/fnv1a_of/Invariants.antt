use Rattle.std.proofs.Common.{◌≡◌, take}
use Rattle.std.specs.Prelude.{fold}
use Rattle.seq_vector.specs.Vectors.{with_byte}
use Rattle.seq_vector.proofs.vbucket.fnv1a_of.Given as goal

abbrev pub invariant-loop-byte : goal.invariant-loop-byte
invariant-loop-byte l = l.hash ≡ fold with_byte 2166136261 (take l.byte-index l.bytes)
