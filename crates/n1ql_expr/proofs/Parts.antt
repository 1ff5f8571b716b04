-- The parts of an expression are lighter than it, and well formed where it is.
use Rattle.std.proofs.Common.{◌≡◌, ◌<◌, ◌≤◌, ◌==◌, nat_le, MatchOption, ℕ, zero, suc, max, Bool, true, false, ◌&&◌, List, [], ◌∷◌, length, get_or, map, Option, Some, None, IsTrue, refl, sym, ap, subst, ◌∙◌, arith}
use Rattle.std.specs.Prelude.{⊤}
use Rattle.std.specs.Option.{option_map}
use Rattle.std.proofs.lemmas.List.{length-map}
use Rattle.std.proofs.lemmas.Bool.Decides.{nat_tests}
use Rattle.n1ql_value.specs.declared.fun.Fun.{Fun}
use Rattle.n1ql_value.specs.Functions.{TakesCount, least_count, most_count}
use Rattle.n1ql_value.specs.declared.op.Op.{Op}
use Rattle.n1ql_ast.specs.declared.expr.Expr.{Expr, fold-Expr, fold-roll-Expr}
use Rattle.n1ql_ast.specs.declared.expr.Expr.TheOpen.{Expr-F}
use Rattle.n1ql_ast.specs.declared.expr.Expr.TheVariants as expr
use Rattle.n1ql_ast.specs.Forms.{IsWellFormed, all_hold, held_if_any, has_its_counts, is_well_formed, is_within, of_each_part, takes_count}

-- the largest of the numbers, or 0
abbrev pub largest : List ℕ → ℕ
largest [] = 0
largest (n ∷ ns) = max n (largest ns)

abbrev pub if_any : Option ℕ → ℕ
if_any None = 0
if_any (Some n) = n

abbrev pub weight_step : Expr-F ℕ → ℕ
weight_step (Expr-F.Const v) = 0
weight_step Expr-F.Doc = 0
weight_step (Expr-F.MetaOf own) = 0
weight_step (Expr-F.Var name) = 0
weight_step (Expr-F.Key at) = 0
weight_step (Expr-F.Field x name) = suc x
weight_step (Expr-F.Place x at) = suc (max x at)
weight_step (Expr-F.Not x) = suc x
weight_step (Expr-F.Neg x) = suc x
weight_step (Expr-F.Two op x y) = suc (max x y)
weight_step (Expr-F.Is test x) = suc x
weight_step (Expr-F.Among x list) = suc (max x list)
weight_step (Expr-F.Between x low high) = suc (max x (max low high))
weight_step (Expr-F.Call fun args) = suc (largest args)
weight_step (Expr-F.List items) = suc (largest items)
weight_step (Expr-F.Build names values) = suc (largest values)
weight_step (Expr-F.Case whens thens other) = suc (max (largest whens) (max (largest thens) (if_any other)))
weight_step (Expr-F.Any name over test) = suc (max over test)
weight_step (Expr-F.Every name over test) = suc (max over test)
weight_step (Expr-F.Each name item over when) = suc (max item (max over (if_any when)))
weight_step (Expr-F.First name item over when) = suc (max item (max over (if_any when)))
weight_step (Expr-F.Agg agg x) = suc (if_any x)

-- how deep an expression nests. It is the measure of the evaluation.
abbrev pub weight : Expr → ℕ
weight = fold-Expr ℕ weight_step

abbrev pub weight_of_all : List Expr → ℕ
weight_of_all es = largest (map weight es)

abbrev pub weight_if_any : Option Expr → ℕ
weight_if_any e = if_any (option_map weight e)

abbrev formed_step : Expr-F Bool → Bool
formed_step l = has_its_counts l && of_each_part l

first_holds : (a b : Bool) → IsTrue (a && b) → IsTrue a
first_holds true b h = refl
first_holds false b h = absurd (cc)

second_holds : (a b : Bool) → IsTrue (a && b) → IsTrue b
second_holds true b h = h
second_holds false b h = absurd (cc)

-- a part, and a part that there may be, beside the whole
abbrev pub Fits : Expr → Expr → Type 0
Fits x e = (weight x < weight e) × IsWellFormed x

abbrev pub FitsIfAny : Option Expr → Expr → Type 0
FitsIfAny x e = (weight_if_any x < weight e) × IsTrue (held_if_any (option_map is_well_formed x))

weight-Two : (op : Op) (x : Expr) (y : Expr) → weight (expr.Two op x y) ≡ suc (max (weight x) (weight y))
weight-Two op x y = ap weight (sym (expr.rolls-Two op x y)) ∙ fold-roll-Expr ℕ weight_step (Expr-F.Two op x y)

formed-Two : (op : Op) (x : Expr) (y : Expr) → is_well_formed (expr.Two op x y) ≡ (is_well_formed x && (is_well_formed y))
formed-Two op x y = ap is_well_formed (sym (expr.rolls-Two op x y)) ∙ fold-roll-Expr Bool formed_step (Expr-F.Two op x y)

pub parts-Two : (e : Expr) (op : Op) (x : Expr) (y : Expr) → e ≡ expr.Two op x y → IsWellFormed e → Fits x e × Fits y e
parts-Two e op x y is h =
    let heavier : weight e ≡ suc (max (weight x) (weight y)) = ap weight is ∙ weight-Two op x y in
    let all : IsTrue (is_well_formed x && (is_well_formed y)) = subst IsTrue (ap is_well_formed is ∙ formed-Two op x y) h in
    ((omega (arith, heavier), first_holds (is_well_formed x) (is_well_formed y) all), (omega (arith, heavier), (second_holds (is_well_formed x) (is_well_formed y) all)))

weight-Between : (x : Expr) (low : Expr) (high : Expr) → weight (expr.Between x low high) ≡ suc (max (weight x) (max (weight low) (weight high)))
weight-Between x low high = ap weight (sym (expr.rolls-Between x low high)) ∙ fold-roll-Expr ℕ weight_step (Expr-F.Between x low high)

formed-Between : (x : Expr) (low : Expr) (high : Expr) → is_well_formed (expr.Between x low high) ≡ (is_well_formed x && (is_well_formed low && (is_well_formed high)))
formed-Between x low high = ap is_well_formed (sym (expr.rolls-Between x low high)) ∙ fold-roll-Expr Bool formed_step (Expr-F.Between x low high)

pub parts-Between : (e : Expr) (x : Expr) (low : Expr) (high : Expr) → e ≡ expr.Between x low high → IsWellFormed e → Fits x e × Fits low e × Fits high e
parts-Between e x low high is h =
    let heavier : weight e ≡ suc (max (weight x) (max (weight low) (weight high))) = ap weight is ∙ weight-Between x low high in
    let all : IsTrue (is_well_formed x && (is_well_formed low && (is_well_formed high))) = subst IsTrue (ap is_well_formed is ∙ formed-Between x low high) h in
    ((omega (arith, heavier), first_holds (is_well_formed x) (is_well_formed low && (is_well_formed high)) all), (omega (arith, heavier), first_holds (is_well_formed low) (is_well_formed high) (second_holds (is_well_formed x) (is_well_formed low && (is_well_formed high)) all)), (omega (arith, heavier), (second_holds (is_well_formed low) (is_well_formed high) (second_holds (is_well_formed x) (is_well_formed low && (is_well_formed high)) all))))

weight-Any : (name : List ℕ) (over : Expr) (test : Expr) → weight (expr.Any name over test) ≡ suc (max (weight over) (weight test))
weight-Any name over test = ap weight (sym (expr.rolls-Any name over test)) ∙ fold-roll-Expr ℕ weight_step (Expr-F.Any name over test)

formed-Any : (name : List ℕ) (over : Expr) (test : Expr) → is_well_formed (expr.Any name over test) ≡ (is_well_formed over && (is_well_formed test))
formed-Any name over test = ap is_well_formed (sym (expr.rolls-Any name over test)) ∙ fold-roll-Expr Bool formed_step (Expr-F.Any name over test)

pub parts-Any : (e : Expr) (name : List ℕ) (over : Expr) (test : Expr) → e ≡ expr.Any name over test → IsWellFormed e → Fits over e × Fits test e
parts-Any e name over test is h =
    let heavier : weight e ≡ suc (max (weight over) (weight test)) = ap weight is ∙ weight-Any name over test in
    let all : IsTrue (is_well_formed over && (is_well_formed test)) = subst IsTrue (ap is_well_formed is ∙ formed-Any name over test) h in
    ((omega (arith, heavier), first_holds (is_well_formed over) (is_well_formed test) all), (omega (arith, heavier), (second_holds (is_well_formed over) (is_well_formed test) all)))

weight-Every : (name : List ℕ) (over : Expr) (test : Expr) → weight (expr.Every name over test) ≡ suc (max (weight over) (weight test))
weight-Every name over test = ap weight (sym (expr.rolls-Every name over test)) ∙ fold-roll-Expr ℕ weight_step (Expr-F.Every name over test)

formed-Every : (name : List ℕ) (over : Expr) (test : Expr) → is_well_formed (expr.Every name over test) ≡ (is_well_formed over && (is_well_formed test))
formed-Every name over test = ap is_well_formed (sym (expr.rolls-Every name over test)) ∙ fold-roll-Expr Bool formed_step (Expr-F.Every name over test)

pub parts-Every : (e : Expr) (name : List ℕ) (over : Expr) (test : Expr) → e ≡ expr.Every name over test → IsWellFormed e → Fits over e × Fits test e
parts-Every e name over test is h =
    let heavier : weight e ≡ suc (max (weight over) (weight test)) = ap weight is ∙ weight-Every name over test in
    let all : IsTrue (is_well_formed over && (is_well_formed test)) = subst IsTrue (ap is_well_formed is ∙ formed-Every name over test) h in
    ((omega (arith, heavier), first_holds (is_well_formed over) (is_well_formed test) all), (omega (arith, heavier), (second_holds (is_well_formed over) (is_well_formed test) all)))

weight-Each : (name : List ℕ) (item : Expr) (over : Expr) (when : Option Expr) → weight (expr.Each name item over when) ≡ suc (max (weight item) (max (weight over) (weight_if_any when)))
weight-Each name item over None = ap weight (sym (expr.rolls-Each name item over None)) ∙ fold-roll-Expr ℕ weight_step (Expr-F.Each name item over None)
weight-Each name item over (Some other) = ap weight (sym (expr.rolls-Each name item over (Some other))) ∙ fold-roll-Expr ℕ weight_step (Expr-F.Each name item over (Some other))

formed-Each : (name : List ℕ) (item : Expr) (over : Expr) (when : Option Expr) → is_well_formed (expr.Each name item over when) ≡ (is_well_formed item && (is_well_formed over && (held_if_any (option_map is_well_formed when))))
formed-Each name item over None = ap is_well_formed (sym (expr.rolls-Each name item over None)) ∙ fold-roll-Expr Bool formed_step (Expr-F.Each name item over None)
formed-Each name item over (Some other) = ap is_well_formed (sym (expr.rolls-Each name item over (Some other))) ∙ fold-roll-Expr Bool formed_step (Expr-F.Each name item over (Some other))

pub parts-Each : (e : Expr) (name : List ℕ) (item : Expr) (over : Expr) (when : Option Expr) → e ≡ expr.Each name item over when → IsWellFormed e → Fits item e × Fits over e × FitsIfAny when e
parts-Each e name item over when is h =
    let heavier : weight e ≡ suc (max (weight item) (max (weight over) (weight_if_any when))) = ap weight is ∙ weight-Each name item over when in
    let all : IsTrue (is_well_formed item && (is_well_formed over && (held_if_any (option_map is_well_formed when)))) = subst IsTrue (ap is_well_formed is ∙ formed-Each name item over when) h in
    ((omega (arith, heavier), first_holds (is_well_formed item) (is_well_formed over && (held_if_any (option_map is_well_formed when))) all), (omega (arith, heavier), first_holds (is_well_formed over) (held_if_any (option_map is_well_formed when)) (second_holds (is_well_formed item) (is_well_formed over && (held_if_any (option_map is_well_formed when))) all)), (omega (arith, heavier), (second_holds (is_well_formed over) (held_if_any (option_map is_well_formed when)) (second_holds (is_well_formed item) (is_well_formed over && (held_if_any (option_map is_well_formed when))) all))))

weight-First : (name : List ℕ) (item : Expr) (over : Expr) (when : Option Expr) → weight (expr.First name item over when) ≡ suc (max (weight item) (max (weight over) (weight_if_any when)))
weight-First name item over None = ap weight (sym (expr.rolls-First name item over None)) ∙ fold-roll-Expr ℕ weight_step (Expr-F.First name item over None)
weight-First name item over (Some other) = ap weight (sym (expr.rolls-First name item over (Some other))) ∙ fold-roll-Expr ℕ weight_step (Expr-F.First name item over (Some other))

formed-First : (name : List ℕ) (item : Expr) (over : Expr) (when : Option Expr) → is_well_formed (expr.First name item over when) ≡ (is_well_formed item && (is_well_formed over && (held_if_any (option_map is_well_formed when))))
formed-First name item over None = ap is_well_formed (sym (expr.rolls-First name item over None)) ∙ fold-roll-Expr Bool formed_step (Expr-F.First name item over None)
formed-First name item over (Some other) = ap is_well_formed (sym (expr.rolls-First name item over (Some other))) ∙ fold-roll-Expr Bool formed_step (Expr-F.First name item over (Some other))

pub parts-First : (e : Expr) (name : List ℕ) (item : Expr) (over : Expr) (when : Option Expr) → e ≡ expr.First name item over when → IsWellFormed e → Fits item e × Fits over e × FitsIfAny when e
parts-First e name item over when is h =
    let heavier : weight e ≡ suc (max (weight item) (max (weight over) (weight_if_any when))) = ap weight is ∙ weight-First name item over when in
    let all : IsTrue (is_well_formed item && (is_well_formed over && (held_if_any (option_map is_well_formed when)))) = subst IsTrue (ap is_well_formed is ∙ formed-First name item over when) h in
    ((omega (arith, heavier), first_holds (is_well_formed item) (is_well_formed over && (held_if_any (option_map is_well_formed when))) all), (omega (arith, heavier), first_holds (is_well_formed over) (held_if_any (option_map is_well_formed when)) (second_holds (is_well_formed item) (is_well_formed over && (held_if_any (option_map is_well_formed when))) all)), (omega (arith, heavier), (second_holds (is_well_formed over) (held_if_any (option_map is_well_formed when)) (second_holds (is_well_formed item) (is_well_formed over && (held_if_any (option_map is_well_formed when))) all))))

-- the counts of a call and of an object
le_held : (m n : ℕ) → IsTrue (nat_le m n) → m ≤ n
le_held m n h = grind (arith, nat_tests)

within_held : (most : Option ℕ) (n : ℕ) → IsTrue (is_within most n) → MatchOption most ⊤ (λ m. n ≤ m)
within_held None n h = tt
within_held (Some m) n h = le_held n m h

count_held : (fun : Fun) (n : ℕ) → IsTrue (takes_count fun n) → TakesCount fun n
count_held fun n h =
    let least : Bool = nat_le (least_count fun) n in
    let most : Bool = is_within (most_count fun) n in
    (le_held (least_count fun) n (first_holds least most h), within_held (most_count fun) n (second_holds least most h))

formed-Call : (fun : Fun) (args : List Expr) → is_well_formed (expr.Call fun args) ≡ (takes_count fun (length (map is_well_formed args)) && all_hold (map is_well_formed args))
formed-Call fun args = ap is_well_formed (sym (expr.rolls-Call fun args)) ∙ fold-roll-Expr Bool formed_step (Expr-F.Call fun args)

pub count-Call : (e : Expr) (fun : Fun) (args : List Expr) (n : ℕ) → e ≡ expr.Call fun args → IsWellFormed e → n ≡ length args → TakesCount fun n
count-Call e fun args n is h same =
    let counted : IsTrue (takes_count fun (length (map is_well_formed args))) = first_holds (takes_count fun (length (map is_well_formed args))) (all_hold (map is_well_formed args)) (subst IsTrue (ap is_well_formed is ∙ formed-Call fun args) h) in
    count_held fun n (subst (λ (k : ℕ). IsTrue (takes_count fun k)) (length-map args is_well_formed ∙ sym same) counted)

formed-Build : (names : List (List ℕ)) (values : List Expr) → is_well_formed (expr.Build names values) ≡ ((length names == length (map is_well_formed values)) && all_hold (map is_well_formed values))
formed-Build names values = ap is_well_formed (sym (expr.rolls-Build names values)) ∙ fold-roll-Expr Bool formed_step (Expr-F.Build names values)

eq_held : (m n : ℕ) → IsTrue (m == n) → m ≡ n
eq_held m n h = grind (arith, nat_tests)

pub count-Build : (e : Expr) (names : List (List ℕ)) (values : List Expr) → e ≡ expr.Build names values → IsWellFormed e → length names ≡ length values
count-Build e names values is h =
    eq_held (length names) (length (map is_well_formed values))
    (first_holds (length names == length (map is_well_formed values)) (all_hold (map is_well_formed values)) (subst IsTrue (ap is_well_formed is ∙ formed-Build names values) h))
    ∙ length-map values is_well_formed

-- each of several
pub formed_at : (es : List Expr) (i : ℕ) (d : Expr) → IsTrue (all_hold (map is_well_formed es)) → i < length es → IsWellFormed (get_or es i d)
formed_at [] i d h k = absurd (omega arith)
formed_at (e ∷ es) zero d h k = first_holds (is_well_formed e) (all_hold (map is_well_formed es)) h
formed_at (e ∷ es) (suc i) d h k = formed_at es i d (second_holds (is_well_formed e) (all_hold (map is_well_formed es)) h) (omega arith)

pub weight_at : (es : List Expr) (i : ℕ) (d : Expr) → i < length es → weight (get_or es i d) < suc (weight_of_all es)
weight_at [] i d k = absurd (omega arith)
weight_at (e ∷ es) zero d k = omega arith
weight_at (e ∷ es) (suc i) d k = omega (arith, weight_at es i d (omega arith))
