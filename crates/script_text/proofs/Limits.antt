-- The reader of scripts names no limit on the input: whoever hands it the bytes has counted them.
use Rattle.std.proofs.Common.{◌≡◌, ℕ, List, [], ◌∷◌, Bool, true, false, length, Some, None, refl, sym, ap, ◌∙◌, subst}
use Rattle.std.specs.Prelude.{⊤, Result, Ok, Err, ◌*◌, nat_lt, count_by, if◌then◌else◌}
use Rattle.std.specs.Result.{result_err}
use Rattle.n1ql_value.specs.Limits.{max_lines, max_product, max_scans}
use Rattle.scan_history.specs.declared.kind.Kind.{Kind}
use Rattle.scan_history.specs.declared.what.What.TheVariants.{Input, Lines, Product, Scans}
use Rattle.script_text.specs.declared.reader.script.header.Header.{Header}
use Rattle.script_text.specs.declared.reader.script.item.Item.{Item}
use Rattle.scan_history.specs.declared.script.Script.{Script}
use Rattle.script_text.specs.declared.reader.script.script_fault.ScriptFault.{ScriptFault}
use Rattle.script_text.specs.declared.reader.script.script_fault.ScriptFault.TheVariants.{Line, TooLarge, Memory}
use Rattle.script_text.specs.inner.Limits.{limit_passed, outcome_within_scans}
use Rattle.script_text.specs.Reading.{ReadsAs}
use Rattle.script_text.specs.Items.{header_of_line}
use Rattle.script_text.specs.Scripts.{Outcome, script, bad, too_large, items_from, is_scan_item, script_with, outcome_in_limits, outcome_with_commands, outcome_with_header, outcome_of}
use Rattle.script_text.proofs.Items.{items_from-length}

-- what passed a limit, where something did
abbrev IsNoInput : Outcome → Type 0
IsNoInput (script read) = ⊤
IsNoInput (bad line kind) = ⊤
IsNoInput (too_large what limit) = ¬ (what ≡ Input)

of_limits : (a b c : Bool) (header : Header) (items : List Item)
    → IsNoInput (if a then too_large Lines max_lines else if b then too_large Product max_product else if c then too_large Scans max_scans else script (script_with header items))
of_limits true b c header items = λ e. absurd (cc)
of_limits false true c header items = λ e. absurd (cc)
of_limits false false true header items = λ e. absurd (cc)
of_limits false false false header items = tt

of_items : (header : Header) (items : List Item) → IsNoInput (outcome_in_limits header items)
unfolding outcome_in_limits
of_items header items =
    of_limits (nat_lt max_lines (length items)) (nat_lt max_product (header.sizes.vbuckets * length items)) (nat_lt max_scans (count_by is_scan_item items)) header items

of_result : (header : Header) (r : Result (List Item) (ℕ × Kind)) → IsNoInput (outcome_with_commands header r)
of_result header (Ok items) = of_items header items
of_result header (Err line) = tt

of_header : (n : ℕ) (lines : List (ℕ × List ℕ)) (r : Result Header Kind) → IsNoInput (outcome_with_header n lines r)
of_header n lines (Ok header) = of_result header (items_from header.sizes lines)
of_header n lines (Err kind) = tt

of_lines : (lines : List (ℕ × List ℕ)) → IsNoInput (outcome_of lines)
of_lines [] = tt
of_lines (line ∷ lines) = of_header line.0 lines (header_of_line line.1)

-- the reader answers as the lines do, so not that the input is too long
pub no_input_limit : (lines : List (ℕ × List ℕ)) (result : Result Script ScriptFault) → ReadsAs (outcome_of lines) result → (limit : ℕ) → ¬ (result ≡ Err (TooLarge Input limit))
no_input_limit lines (Ok read) reads limit = λ e. absurd (cc)
no_input_limit lines (Err (Line line kind)) reads limit = λ e. absurd (cc)
no_input_limit lines (Err (TooLarge what most)) reads limit = λ e.
    let input : what ≡ Input = cc in
    subst IsNoInput reads (of_lines lines) input
no_input_limit lines (Err Memory) reads limit = λ e. absurd (cc)

-- the limits on the number of lines, tested ahead of what the lines say
passed_cases : (a b : Bool) (later : Outcome) (passed : ScriptFault)
    → (if a then Some (TooLarge Lines max_lines) else if b then Some (TooLarge Product max_product) else None) ≡ Some passed
    → ReadsAs (if a then too_large Lines max_lines else if b then too_large Product max_product else later) (Err passed)
passed_cases true b later passed e =
    let told : TooLarge Lines max_lines ≡ passed = cc in
    subst (λ (fault : ScriptFault). ReadsAs (too_large Lines max_lines) (Err fault)) told refl
passed_cases false true later passed e =
    let told : TooLarge Product max_product ≡ passed = cc in
    subst (λ (fault : ScriptFault). ReadsAs (too_large Product max_product) (Err fault)) told refl
passed_cases false false later passed e = absurd (cc)

not_passed_cases : (a b : Bool) (later : Outcome)
    → (if a then Some (TooLarge Lines max_lines) else if b then Some (TooLarge Product max_product) else None) ≡ None
    → (if a then too_large Lines max_lines else if b then too_large Product max_product else later) ≡ later
not_passed_cases true b later e = absurd (cc)
not_passed_cases false true later e = absurd (cc)
not_passed_cases false false later e = refl

passed-items : (header : Header) (items : List Item) (passed : ScriptFault) → limit_passed header.sizes.vbuckets (length items) ≡ Some passed
    → ReadsAs (outcome_in_limits header items) (Err passed)
unfolding outcome_in_limits
passed-items header items passed e =
    passed_cases (nat_lt max_lines (length items)) (nat_lt max_product (header.sizes.vbuckets * length items)) (outcome_within_scans header items) passed e

not_passed-items : (header : Header) (items : List Item) → limit_passed header.sizes.vbuckets (length items) ≡ None
    → outcome_in_limits header items ≡ outcome_within_scans header items
unfolding outcome_in_limits
not_passed-items header items e =
    not_passed_cases (nat_lt max_lines (length items)) (nat_lt max_product (header.sizes.vbuckets * length items)) (outcome_within_scans header items) e

passed-result : (header : Header) (n : ℕ) (passed : ScriptFault) (r : Result (List Item) (ℕ × Kind)) → ((items : List Item) → r ≡ Ok items → length items ≡ n)
    → limit_passed header.sizes.vbuckets n ≡ Some passed → result_err r ≡ None → ReadsAs (outcome_with_commands header r) (Err passed)
passed-result header n passed (Ok items) count e good =
    passed-items header items passed (ap (limit_passed header.sizes.vbuckets) (count items refl) ∙ e)
passed-result header n passed (Err line) count e good = absurd (cc)

-- too many lines, none of them bad
pub passed-lines : (header : Header) (lines : List (ℕ × List ℕ)) (n : ℕ) (passed : ScriptFault) → n ≡ length lines
    → Some passed ≡ limit_passed header.sizes.vbuckets n → result_err (items_from header.sizes lines) ≡ None
    → ReadsAs (outcome_with_commands header (items_from header.sizes lines)) (Err passed)
passed-lines header lines n passed counted e good =
    passed-result header (length lines) passed (items_from header.sizes lines) (items_from-length header.sizes lines)
    (ap (limit_passed header.sizes.vbuckets) (sym counted) ∙ sym e) good

-- not too many lines
pub not_passed-lines : (header : Header) (lines : List (ℕ × List ℕ)) (n : ℕ) (items : List Item) (result : Result Script ScriptFault) → n ≡ length lines
    → None ≡ limit_passed header.sizes.vbuckets n → items_from header.sizes lines ≡ Ok items → ReadsAs (outcome_within_scans header items) result
    → ReadsAs (outcome_with_commands header (items_from header.sizes lines)) result
not_passed-lines header lines n items result counted e says reads =
    let many : length items ≡ n = items_from-length header.sizes lines items says ∙ sym counted in
    let scans : outcome_in_limits header items ≡ outcome_within_scans header items = not_passed-items header items (ap (limit_passed header.sizes.vbuckets) many ∙ sym e) in
    subst (λ (outcome : Outcome). ReadsAs outcome result) (sym (ap (outcome_with_commands header) says ∙ scans)) reads
