-- A script that is read is within its limits.
use Rattle.std.proofs.Common.{◌≡◌, ℕ, ◌*◌, ◌<◌, ◌≤◌, Bool, true, false, cond, eqb, eq-eqb, ltb, List, [], ◌∷◌, length, Some, None, Result, Ok, Err, refl, sym, ap, ◌∙◌, arith, subst}
use borrow.Author.Tests.{ltb-false}
use Rattle.std.proofs.Math.Nat.{mul-le-mul_left}
use Rattle.std.specs.Prelude.{◌||◌, ⊤, IfOk, count_by, filter_map}
use Rattle.std.specs.List.{AllByRecursion, cons_option, filter}
use Rattle.n1ql_value.specs.Limits.{max_lines, max_product, max_scans}
use Rattle.std.proofs.lemmas.List.Sums.{length-filter}
use Rattle.scan_history.specs.declared.command.Command.{Command}
use Rattle.scan_history.specs.declared.command.Command.TheVariants.{Upsert, Delete, Ddl, Scan}
use Rattle.scan_history.specs.declared.kind.Kind.{Kind}
use Rattle.scan_history.specs.declared.script.Script.{Script}
use Rattle.scan_history.specs.declared.what.What.TheVariants.{Lines, Product, Scans}
use Rattle.scan_history.specs.Sound.{IsWithinBounds, IsTurn, is_scan, IsSound}
use Rattle.script_text.specs.declared.reader.script.header.Header.{Header}
use Rattle.script_text.specs.declared.reader.script.item.Item.{Item}
use Rattle.script_text.specs.declared.reader.script.item.Item.TheVariants as item
use Rattle.script_text.specs.declared.reader.script.script_fault.ScriptFault.{ScriptFault}
use Rattle.script_text.specs.declared.reader.format.sizes.Sizes.{Sizes}
use Rattle.script_text.specs.Items.{header_of_line, item_of_line}
use Rattle.script_text.specs.Reading.{ReadsAs}
use Rattle.script_text.specs.Scripts.{script, too_large, ahead, and_then_lines, items_from, commands_by, lists_of, turn_in, schedule_of, script_with, is_scan_item, outcome_in_limits, outcome_with_commands, outcome_with_header, outcome_of}
use Rattle.script_text.proofs.HeaderBounds.{HeaderFits, header_of_line-fits}
use Rattle.script_text.proofs.ItemBounds.{ItemFits, item_of_line-fits}
use Rattle.script_text.proofs.ListBounds.{commands_in, lists_all, lists_few, lists_pass, lists_of-length}

-- each line is within bounds
abbrev pub AllFit : Sizes → List Item → Type 0
AllFit sizes items = AllByRecursion (ItemFits sizes) items

fit_more : (sizes : Sizes) (i : Item) (r : Result (List Item) (ℕ × Kind)) (items : List Item) → ItemFits sizes i
    → ((rest : List Item) → r ≡ Ok rest → AllFit sizes rest) → ahead (i ∷ []) r ≡ Ok items → AllFit sizes items
fit_more sizes i (Err line) items fits h e = cc
fit_more sizes i (Ok rest) items fits h e = let same : i ∷ rest ≡ items = cc in subst (AllFit sizes) same (fits, h rest refl)

line_cases : (sizes : Sizes) (n : ℕ) (r : Result Item Kind) (after : Result (List Item) (ℕ × Kind)) (items : List Item)
    → ((i : Item) → r ≡ Ok i → ItemFits sizes i) → ((rest : List Item) → after ≡ Ok rest → AllFit sizes rest)
    → and_then_lines n r after ≡ Ok items → AllFit sizes items
line_cases sizes n (Err kind) after items fits h e = cc
line_cases sizes n (Ok i) after items fits h e = fit_more sizes i after items (fits i refl) h e

items_fit : (sizes : Sizes) (lines : List (ℕ × List ℕ)) (items : List Item) → items_from sizes lines ≡ Ok items → AllFit sizes items
items_fit sizes [] items e = let same : [] ≡ items = cc in subst (AllFit sizes) same tt
items_fit sizes (line ∷ lines) items e =
    line_cases sizes line.0 (item_of_line sizes line.1) (items_from sizes lines) items (item_of_line-fits sizes line.1) (items_fit sizes lines) e

-- what that says of the commands and of the schedule
commands_fit : (sizes : Sizes) (items : List Item) → AllFit sizes items → AllByRecursion (IsWithinBounds sizes.vbuckets) (commands_in items)
commands_fit sizes [] fit = tt
commands_fit sizes (item.Command client command ∷ items) fit = (fit.0.1, commands_fit sizes items fit.1)
commands_fit sizes (item.Turn turn ∷ items) fit = commands_fit sizes items fit.1

turns_fit : (sizes : Sizes) (items : List Item) → AllFit sizes items → AllByRecursion (IsTurn sizes.vbuckets sizes.clients) (filter_map turn_in items)
turns_fit sizes [] fit = tt
turns_fit sizes (item.Command client command ∷ items) fit = turns_fit sizes items fit.1
turns_fit sizes (item.Turn turn ∷ items) fit = (fit.0, turns_fit sizes items fit.1)

scan_cases : (b : Bool) (c : Command) (i : Item) (cs : List Command) (is : List Item) → length cs ≡ length is → length (cond b (c ∷ cs) cs) ≡ length (cond b (i ∷ is) is)
scan_cases true c i cs is e = omega arith
scan_cases false c i cs is e = e

scans_same : (items : List Item) → length (filter is_scan (commands_in items)) ≡ length (filter is_scan_item items)
unfolding is_scan_item
scans_same [] = refl
scans_same (item.Command client command ∷ items) =
    scan_cases (is_scan command) command (item.Command client command) (filter is_scan (commands_in items)) (filter is_scan_item items) (scans_same items)
scans_same (item.Turn turn ∷ items) = scans_same items

script_sound : (header : Header) (items : List Item) → HeaderFits header → AllFit header.sizes items → length items ≤ max_lines
    → header.sizes.vbuckets * length items ≤ max_product → count_by is_scan_item items ≤ max_scans → IsSound (script_with header items)
unfolding schedule_of
script_sound header items fits all lines product scans =
    let n = header.sizes.clients in
    let few = lists_few n items in
    let pass = lists_pass is_scan n items in
    let same = scans_same items in
    let counted = length-filter is_scan_item items in
    record {
      vbuckets = fits.vbuckets;
      clients = fits.clients;
      workers = fits.workers;
      batch = fits.batch;
      keyspace = fits.keyspace;
      lists = lists_of-length n items;
      commands = lists_all (IsWithinBounds header.sizes.vbuckets) n items (commands_fit header.sizes items all);
      schedule = turns_fit header.sizes items all;
      lines = omega arith;
      product = omega (arith, mul-le-mul_left header.sizes.vbuckets few);
      scans = omega arith;
    }

limit_tests : (lines product scans : Bool) (made found : Script)
    → cond lines (too_large Lines max_lines) (cond product (too_large Product max_product) (cond scans (too_large Scans max_scans) (script made))) ≡ script found
    → (lines ≡ false) × (product ≡ false) × (scans ≡ false) × (made ≡ found)
limit_tests true product scans made found e = cc
limit_tests false true scans made found e = cc
limit_tests false false true made found e = cc
limit_tests false false false made found e = (refl, refl, refl, cc)

outcome_in_limits-sound : (header : Header) (items : List Item) (found : Script) → HeaderFits header → AllFit header.sizes items → outcome_in_limits header items ≡ script found → IsSound found
unfolding outcome_in_limits
outcome_in_limits-sound header items found fits all e =
    let p = limit_tests (ltb max_lines (length items)) (ltb max_product (header.sizes.vbuckets * length items)) (ltb max_scans (count_by is_scan_item items)) (script_with header items) found e in
    subst IsSound p.3 (script_sound header items fits all (ltb-false max_lines (length items) p.0) (ltb-false max_product (header.sizes.vbuckets * length items) p.1) (ltb-false max_scans (count_by is_scan_item items) p.2))

outcome_with_commands-sound : (header : Header) (r : Result (List Item) (ℕ × Kind)) (found : Script) → HeaderFits header
    → ((items : List Item) → r ≡ Ok items → AllFit header.sizes items) → outcome_with_commands header r ≡ script found → IsSound found
outcome_with_commands-sound header (Err line) found fits all e = cc
outcome_with_commands-sound header (Ok items) found fits all e = outcome_in_limits-sound header items found fits (all items refl) e

outcome_with_header-sound : (n : ℕ) (lines : List (ℕ × List ℕ)) (r : Result Header Kind) (found : Script) → ((header : Header) → r ≡ Ok header → HeaderFits header)
    → outcome_with_header n lines r ≡ script found → IsSound found
outcome_with_header-sound n lines (Err kind) found fits e = cc
outcome_with_header-sound n lines (Ok header) found fits e =
    outcome_with_commands-sound header (items_from header.sizes lines) found (fits header refl) (items_fit header.sizes lines) e

outcome_of-sound : (lines : List (ℕ × List ℕ)) (found : Script) → outcome_of lines ≡ script found → IsSound found
outcome_of-sound [] found e = cc
outcome_of-sound (line ∷ lines) found e = outcome_with_header-sound line.0 lines (header_of_line line.1) found (header_of_line-fits line.1) e

-- what is read
pub read_sound : (lines : List (ℕ × List ℕ)) (r : Result Script ScriptFault) → ReadsAs (outcome_of lines) r → IfOk r (λ found. IsSound found)
read_sound lines (Ok found) e = outcome_of-sound lines found e
read_sound lines (Err fault) e = tt
