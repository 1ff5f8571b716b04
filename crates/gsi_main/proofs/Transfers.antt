-- What calls of a source or a sink, one after another, do to the known bytes.
use Rattle.std.proofs.Common.{rules, ◌≡◌, ℕ, ◌+◌, List, ◌++◌, take, drop, Option, sym, ap, ◌∙◌, subst, take-add}
use Rattle.std.specs.Io.KnownBytes.{Appends}
use Rattle.std.proofs.KnownBytes.{Appends-trans}
use Rattle.gsi_main.specs.Faults.{Rose, next_count}

-- a prefix, and then the prefix of the rest
pub Appends-more : (a b c : Option (List ℕ)) (done n : ℕ) (report rest : List ℕ) → rest ≡ drop done report
    → Appends a b (take done report) → Appends b c (take n rest) → Appends a c (take (done + n) report)
Appends-more a b c done n report rest e p q =
    subst (Appends a c) (ap (λ r. take done report ++ take n r) e ∙ sym (take-add done n report)) (Appends-trans a b c _ _ p q)

-- one more fault
pub rose_next : (old new : ℕ) → new ≡ next_count old → Rose old new
rose_next old new is = search (rules, is)
