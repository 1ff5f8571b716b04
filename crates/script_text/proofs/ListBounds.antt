-- The commands of all clients and the schedule are among all lines.
use Rattle.std.proofs.Common.{◌≡◌, ℕ, zero, suc, ◌+◌, ◌<◌, ◌≤◌, Bool, true, false, cond, eqb, List, [], ◌∷◌, ◌++◌, length, map, Option, Some, None, refl, ap, ap₂, ◌∙◌, arith}
use Rattle.std.specs.Prelude.{filter_map}
use Rattle.std.specs.List.{AllByRecursion, cons_option, filter, flat_map, range_with_len}
use Rattle.std.proofs.lemmas.Bool.{ne_eqb, eqb-true}
use Rattle.std.proofs.lemmas.List.{length-map}
use Rattle.std.proofs.lemmas.List.FromFn.{length-range_with_len}
use Rattle.scan_history.specs.declared.command.Command.{Command}
use Rattle.script_text.specs.declared.reader.script.item.Item.{Item}
use Rattle.script_text.specs.declared.reader.script.item.Item.TheVariants as item
use Rattle.script_text.specs.Scripts.{commands_by, lists_of, turn_in, schedule_of}

-- the command of a line, whoever's it is
abbrev pub command_in : Item → Option Command
command_in (item.Command client command) = Some command
command_in (item.Turn turn) = None

abbrev pub commands_in : List Item → List Command
commands_in items = filter_map command_in items

-- the commands of n clients from client a on
abbrev from : ℕ → ℕ → List Item → List Command
from a n items = flat_map (λ commands. commands) (map (λ c. commands_by c items) (range_with_len a n))

-- a command in front of others, where it is one of the client
abbrev in_front : Bool → Command → List Command → List Command
in_front own command commands = cons_option (cond own (Some command) None) commands

module _ (P : Command → Type 0) where
  all_append : (xs ys : List Command) → AllByRecursion P xs → AllByRecursion P ys → AllByRecursion P (xs ++ ys)
  all_append [] ys p q = q
  all_append (x ∷ xs) ys p q = (p.0, all_append xs ys p.1 q)

  own_cases : (own : Bool) (command : Command) (commands : List Command) → P command → AllByRecursion P commands → AllByRecursion P (in_front own command commands)
  own_cases true command commands p q = (p, q)
  own_cases false command commands p q = q

  all_by : (c : ℕ) (items : List Item) → AllByRecursion P (commands_in items) → AllByRecursion P (commands_by c items)
  all_by c [] p = tt
  all_by c (item.Command client command ∷ items) p = own_cases (eqb client c) command (commands_by c items) p.0 (all_by c items p.1)
  all_by c (item.Turn turn ∷ items) p = all_by c items p

  all_from : (a n : ℕ) (items : List Item) → AllByRecursion P (commands_in items) → AllByRecursion P (from a n items)
  all_from a zero items p = tt
  all_from a (suc n) items p = all_append (commands_by a items) (from (a + 1) n items) (all_by a items p) (all_from (a + 1) n items p)

  -- what holds of each line's command holds of each client's
  pub lists_all : (n : ℕ) (items : List Item) → AllByRecursion P (commands_in items) → AllByRecursion P (flat_map (λ commands. commands) (lists_of n items))
  unfolding lists_of
  lists_all n items p = all_from 0 n items p

module _ (w : Command → ℕ) where
  -- the weights of commands together
  abbrev pub total : List Command → ℕ
  total [] = 0
  total (x ∷ xs) = w x + total xs

  total-append : (xs ys : List Command) → total (xs ++ ys) ≡ total xs + total ys
  total-append [] ys = omega arith
  total-append (x ∷ xs) ys = let e = total-append xs ys in omega (arith, e)

  from-cons : (a n : ℕ) (items : List Item) → total (from a (suc n) items) ≡ total (commands_by a items) + total (from (a + 1) n items)
  from-cons a n items = total-append (commands_by a items) (from (a + 1) n items)

  by_cases : (own : Bool) (command : Command) (commands : List Command) → total (in_front own command commands) ≤ w command + total commands
  by_cases true command commands = omega arith
  by_cases false command commands = omega arith

  other : (c client : ℕ) (command : Command) (items : List Item) → (client ≡ c → ⊥) → commands_by c (item.Command client command ∷ items) ≡ commands_by c items
  other c client command items e = ap (λ own. in_front own command (commands_by c items)) (ne_eqb client c e)

  -- a line of a client before them changes nothing
  outside : (a n client : ℕ) (command : Command) (items : List Item) → client < a → from a n (item.Command client command ∷ items) ≡ from a n items
  outside a zero client command items h = refl
  outside a (suc n) client command items h =
      ap₂ (λ (xs ys : List Command). xs ++ ys) (other a client command items (λ e. omega arith)) (outside (a + 1) n client command items (omega arith))

  here_or_later : (a n client : ℕ) (command : Command) (items : List Item) (own : Bool) → eqb client a ≡ own
      → total (from (a + 1) n (item.Command client command ∷ items)) ≤ w command + total (from (a + 1) n items)
      → total (from a (suc n) (item.Command client command ∷ items)) ≤ w command + total (from a (suc n) items)
  here_or_later a n client command items true e later =
      let same : total (from (a + 1) n (item.Command client command ∷ items)) ≡ total (from (a + 1) n items) =
      ap total (outside (a + 1) n client command items (let at = eqb-true client a e in omega (arith, at))) in
      let here = by_cases (eqb client a) command (commands_by a items) in
      omega (arith, from-cons a n (item.Command client command ∷ items), from-cons a n items, same, here)
  here_or_later a n client command items false e later =
      let same : total (commands_by a (item.Command client command ∷ items)) ≡ total (commands_by a items) =
      ap (λ own. total (in_front own command (commands_by a items))) e in
      omega (arith, from-cons a n (item.Command client command ∷ items), from-cons a n items, same)

  one_more : (a n client : ℕ) (command : Command) (items : List Item) → total (from a n (item.Command client command ∷ items)) ≤ w command + total (from a n items)
  one_more a zero client command items = omega arith
  one_more a (suc n) client command items = here_or_later a n client command items (eqb client a) refl (one_more (a + 1) n client command items)

  none_yet : (a n : ℕ) → total (from a n []) ≡ 0
  none_yet a zero = refl
  none_yet a (suc n) = none_yet (a + 1) n

  among : (n : ℕ) (items : List Item) → total (from 0 n items) ≤ total (commands_in items)
  among n [] = let e = none_yet 0 n in omega (arith, e)
  among n (item.Command client command ∷ items) = let rest = among n items in omega (arith, one_more 0 n client command items, rest)
  among n (item.Turn turn ∷ items) = among n items

total-length : (xs : List Command) → total (λ x. 1) xs ≡ length xs
total-length [] = refl
total-length (x ∷ xs) = let e = total-length xs in omega (arith, e)

count_cases : (b : Bool) (x : Command) (xs : List Command) (n : ℕ) → n ≡ length xs → cond b 1 0 + n ≡ length (cond b (x ∷ xs) xs)
count_cases true x xs n e = omega arith
count_cases false x xs n e = omega arith

total-filter : (p : Command → Bool) (xs : List Command) → total (λ x. cond (p x) 1 0) xs ≡ length (filter p xs)
total-filter p [] = refl
total-filter p (x ∷ xs) = count_cases (p x) x (filter p xs) (total (λ x. cond (p x) 1 0) xs) (total-filter p xs)

-- each line is a command or a turn
parts_whole : (items : List Item) → length (commands_in items) + length (filter_map turn_in items) ≡ length items
parts_whole [] = refl
parts_whole (item.Command client command ∷ items) = let e = parts_whole items in omega (arith, e)
parts_whole (item.Turn turn ∷ items) = let e = parts_whole items in omega (arith, e)

-- no more commands of clients and turns than lines, and no more commands that pass a test
pub lists_few : (n : ℕ) (items : List Item) → length (flat_map (λ commands. commands) (lists_of n items)) + length (schedule_of items) ≤ length items
unfolding lists_of schedule_of
lists_few n items =
    omega (arith, among (λ x. 1) n items, total-length (from 0 n items), total-length (commands_in items), parts_whole items)

pub lists_pass : (p : Command → Bool) (n : ℕ) (items : List Item)
    → length (filter p (flat_map (λ commands. commands) (lists_of n items))) ≤ length (filter p (commands_in items))
unfolding lists_of
lists_pass p n items =
    omega (arith, among (λ x. cond (p x) 1 0) n items, total-filter p (from 0 n items), total-filter p (commands_in items))

pub lists_of-length : (n : ℕ) (items : List Item) → length (lists_of n items) ≡ n
unfolding lists_of
lists_of-length n items = length-map (range_with_len 0 n) (λ c. commands_by c items) ∙ length-range_with_len 0 n
