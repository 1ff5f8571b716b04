-- The words of the program's call.
use Rattle.std.specs.Prelude.{◌≡◌, ℕ, List, Bool, true, false, drop, map, string_bytes, String, Result, Ok, Err, Vec, if◌then◌else◌}
use Rattle.std.specs.Vec.Iter.{into_iter_items}
use Rattle.std.specs.declared.alloc.Global.{Global}
use Rattle.std.specs.IoError.{error_kind}
use Rattle.std.specs.declared.io.Error.{Error}
use Rattle.std.specs.declared.io.ErrorKind.{ErrorKind}
use Rattle.std.specs.declared.io.ErrorKind.TheVariants.{OutOfMemory}
use Rattle.std.specs.declared.vec.IntoIter.{IntoIter}
use Rattle.gsi_main.specs.declared.status.Status.{Status}
use Rattle.gsi_main.specs.declared.status.Status.TheVariants as status

-- memory ran out
abbrev pub is_want_of_memory : ErrorKind → Bool
is_want_of_memory OutOfMemory = true
is_want_of_memory _ = false

abbrev pub is_out_of_memory : Error → Bool
is_out_of_memory error = is_want_of_memory (error_kind error)

-- the words are the arguments behind the first, where memory suffices; without arguments there is the status that tells why
abbrev pub AreWords : Result (IntoIter (String Global) Global) Error → Result (Vec (List ℕ) Global) Status → Type 0
AreWords (Ok arguments) (Ok words) = words.items ≡ map string_bytes (drop 1 (into_iter_items arguments))
AreWords (Ok arguments) (Err s) = s ≡ status.Memory
AreWords (Err error) (Ok words) = ⊥
AreWords (Err error) (Err s) = s ≡ (if is_out_of_memory error then status.Memory else status.Words)
