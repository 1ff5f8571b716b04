-- A script of two clients with few commands is sound.
use Rattle.std.proofs.Common.{◌≡◌, ℕ, ◌+◌, ◌*◌, ◌≤◌, List, [], ◌∷◌, ◌++◌, length, refl, sym, ap, ◌∙◌, subst, arith}
use Rattle.std.proofs.lemmas.List.{length-append}
use Rattle.std.proofs.lemmas.List.Sums.{length-filter, count_by-le-length}
use Rattle.std.specs.List.{AllByRecursion, filter, flat_map}
use Rattle.scan_history.specs.declared.command.Command.{Command}
use Rattle.scan_history.specs.declared.script.Script.{Script}
use Rattle.scan_history.specs.Sound.{IsWithinBounds, is_scan, IsSound}
use Rattle.gsi_hub_tests.specs.Pairs.{AddsCommands}

module _ {A : Type 0} (P : A → Type 0) where
  pub all_append : (xs ys : List A) → AllByRecursion P xs → AllByRecursion P ys → AllByRecursion P (xs ++ ys)
  all_append [] ys p q = q
  all_append (x ∷ xs) ys p q = (p.0, all_append xs ys p.1 q)

  -- one more element
  pub all_more : (xs : List A) (x : A) → AllByRecursion P xs → P x → AllByRecursion P (xs ++ x ∷ [])
  all_more xs x p q = all_append xs (x ∷ []) p (q, tt)

abbrev made : List ℕ → List (List Command) → Script
made keyspace commands = record { vbuckets = 2; clients = 2; workers = 0; batch = 1; keyspace = keyspace; commands = commands; schedule = [] }

counted : (xs ys : List Command) → length xs ≤ 100 → length ys ≤ 100 → length (xs ++ (ys ++ [])) ≤ 200
counted xs ys p q =
    let all = length-append xs (ys ++ []) in
    let some = length-append ys [] in
    omega (arith, all, some)

scanned : (xs : List Command) → length xs ≤ 200 → length (filter is_scan xs) ≤ 1024
scanned xs p =
    let same = length-filter is_scan xs in
    let less = count_by-le-length is_scan xs in
    omega (arith, same, less)

sound_made : (keyspace : List ℕ) (xs ys : List Command) → 1 ≤ length keyspace → length keyspace ≤ 100
    → AllByRecursion (IsWithinBounds 2) xs → length xs ≤ 100 → AllByRecursion (IsWithinBounds 2) ys → length ys ≤ 100
    → IsSound (made keyspace (xs ∷ ys ∷ []))
sound_made keyspace xs ys some short within few within_too few_too =
    let count = counted xs ys few few_too in
    record {
      vbuckets = (omega arith, omega arith);
      clients = (omega arith, omega arith);
      workers = omega arith;
      batch = (omega arith, omega arith);
      keyspace = (some, short);
      lists = refl;
      commands = all_append (IsWithinBounds 2) xs (ys ++ []) within (all_append (IsWithinBounds 2) ys [] within_too tt);
      schedule = tt;
      lines = omega (arith, count);
      product = omega (arith, count);
      scans = scanned (xs ++ (ys ++ [])) count;
    }

pub sound_pair : (keyspace : List ℕ) (none one two : List (List Command)) → 1 ≤ length keyspace → length keyspace ≤ 100
    → none ≡ [] → AddsCommands none one → AddsCommands one two → IsSound (made keyspace two)
sound_pair keyspace none one two some short empty first second =
    let is_one : one ≡ first.commands ∷ [] = first.added ∙ ap (λ lists. lists ++ first.commands ∷ []) empty in
    let is_two : two ≡ first.commands ∷ second.commands ∷ [] = second.added ∙ ap (λ lists. lists ++ second.commands ∷ []) is_one in
    subst (λ lists. IsSound (made keyspace lists)) (sym is_two)
    (sound_made keyspace first.commands second.commands some short first.within first.few second.within second.few)
