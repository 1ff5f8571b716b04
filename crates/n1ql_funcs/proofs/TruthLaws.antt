-- AND is the least and OR the greatest of two truths, and what follows from it.
use Rattle.std.proofs.Common.{◌≡◌, ◌≤◌, ℕ, zero, suc, min, max, Bool, true, false, cond, refl, sym, ap, ap₂, ◌∙◌, arith}
use Rattle.n1ql_value.specs.declared.value.Value.{Value}
use Rattle.n1ql_value.specs.declared.value.Value.TheVariants as value
use Rattle.n1ql_value.specs.Logic.{truth_of, all_of, some_of, and_of, or_of, not_of}
use Rattle.n1ql_funcs.specs.declared.truth.Truth.{Truth}
use Rattle.n1ql_funcs.specs.declared.truth.Truth.TheVariants.{Missing, Null, No, Yes}
use Rattle.n1ql_funcs.specs.Truths.{truth_value}
use Rattle.n1ql_funcs.specs.TruthOrder.{truth_rank}

-- the truth that a value counts as
abbrev counted : Value → Truth
counted value.Missing = Missing
counted (value.Bool true) = Yes
counted (value.Bool false) = No
counted _ = Null

counted_value : (v : Value) → truth_of v ≡ truth_value (counted v)
counted_value value.Missing = refl
counted_value (value.Bool true) = refl
counted_value (value.Bool false) = refl
counted_value value.Null = refl
counted_value (value.Int z) = refl
counted_value (value.Text t) = refl
counted_value (value.Array ds) = refl
counted_value (value.Object ps) = refl

rank_counted : (v : Value) → truth_rank v ≡ truth_rank (truth_value (counted v))
rank_counted value.Missing = refl
rank_counted (value.Bool true) = refl
rank_counted (value.Bool false) = refl
rank_counted value.Null = refl
rank_counted (value.Int z) = refl
rank_counted (value.Text t) = refl
rank_counted (value.Array ds) = refl
rank_counted (value.Object ps) = refl

least : (x y : Truth) → truth_rank (all_of (truth_value x) (truth_value y)) ≡ min (truth_rank (truth_value x)) (truth_rank (truth_value y))
least No No = refl
least No Missing = refl
least No Null = refl
least No Yes = refl
least Missing No = refl
least Missing Missing = refl
least Missing Null = refl
least Missing Yes = refl
least Null No = refl
least Null Missing = refl
least Null Null = refl
least Null Yes = refl
least Yes No = refl
least Yes Missing = refl
least Yes Null = refl
least Yes Yes = refl

greatest : (x y : Truth) → truth_rank (some_of (truth_value x) (truth_value y)) ≡ max (truth_rank (truth_value x)) (truth_rank (truth_value y))
greatest No No = refl
greatest No Missing = refl
greatest No Null = refl
greatest No Yes = refl
greatest Missing No = refl
greatest Missing Missing = refl
greatest Missing Null = refl
greatest Missing Yes = refl
greatest Null No = refl
greatest Null Missing = refl
greatest Null Null = refl
greatest Null Yes = refl
greatest Yes No = refl
greatest Yes Missing = refl
greatest Yes Null = refl
greatest Yes Yes = refl

pub and-least : (a b : Value) → truth_rank (and_of a b) ≡ min (truth_rank a) (truth_rank b)
and-least a b = ap₂ (λ v w. truth_rank (all_of v w)) (counted_value a) (counted_value b) ∙ (least (counted a) (counted b) ∙ sym (ap₂ min (rank_counted a) (rank_counted b)))

pub or-greatest : (a b : Value) → truth_rank (or_of a b) ≡ max (truth_rank a) (truth_rank b)
or-greatest a b = ap₂ (λ v w. truth_rank (some_of v w)) (counted_value a) (counted_value b) ∙ (greatest (counted a) (counted b) ∙ sym (ap₂ max (rank_counted a) (rank_counted b)))

-- the truth at a place of the order
abbrev ranked : ℕ → Value
ranked zero = value.Bool false
ranked (suc zero) = value.Missing
ranked (suc (suc zero)) = value.Null
ranked (suc (suc (suc n))) = value.Bool true

ranked_truth : (v : Value) → ranked (truth_rank v) ≡ truth_of v
ranked_truth value.Missing = refl
ranked_truth (value.Bool true) = refl
ranked_truth (value.Bool false) = refl
ranked_truth value.Null = refl
ranked_truth (value.Int z) = refl
ranked_truth (value.Text t) = refl
ranked_truth (value.Array ds) = refl
ranked_truth (value.Object ps) = refl

same_rank : (a b : Value) → truth_rank a ≡ truth_rank b → truth_of a ≡ truth_of b
same_rank a b e = sym (ranked_truth a) ∙ (ap ranked e ∙ ranked_truth b)

all_truth : (p q r : Bool) → let v : Value = cond p (value.Bool false) (cond q value.Missing (cond r value.Null (value.Bool true))) in truth_of v ≡ v
all_truth true q r = refl
all_truth false true r = refl
all_truth false false true = refl
all_truth false false false = refl

some_truth : (p q r : Bool) → let v : Value = cond p (value.Bool true) (cond q value.Null (cond r value.Missing (value.Bool false))) in truth_of v ≡ v
some_truth true q r = refl
some_truth false true r = refl
some_truth false false true = refl
some_truth false false false = refl

and_truth : (a b : Value) → truth_of (and_of a b) ≡ and_of a b
and_truth a b = all_truth _ _ _

or_truth : (a b : Value) → truth_of (or_of a b) ≡ or_of a b
or_truth a b = some_truth _ _ _

pub and-commutes : (a b : Value) → and_of a b ≡ and_of b a
and-commutes a b = sym (and_truth a b) ∙ (same_rank (and_of a b) (and_of b a) (omega (arith, and-least a b, and-least b a)) ∙ and_truth b a)

pub or-commutes : (a b : Value) → or_of a b ≡ or_of b a
or-commutes a b = sym (or_truth a b) ∙ (same_rank (or_of a b) (or_of b a) (omega (arith, or-greatest a b, or-greatest b a)) ∙ or_truth b a)

pub and-associates : (a b c : Value) → and_of a (and_of b c) ≡ and_of (and_of a b) c
and-associates a b c =
    sym (and_truth a (and_of b c))
    ∙ (same_rank (and_of a (and_of b c)) (and_of (and_of a b) c) (omega (arith, and-least a (and_of b c), and-least b c, and-least (and_of a b) c, and-least a b))
    ∙ and_truth (and_of a b) c)

pub or-associates : (a b c : Value) → or_of a (or_of b c) ≡ or_of (or_of a b) c
or-associates a b c =
    sym (or_truth a (or_of b c))
    ∙ (same_rank (or_of a (or_of b c)) (or_of (or_of a b) c) (omega (arith, or-greatest a (or_of b c), or-greatest b c, or-greatest (or_of a b) c, or-greatest a b))
    ∙ or_truth (or_of a b) c)

pub and-absorbs : (a b : Value) → and_of a (or_of a b) ≡ truth_of a
and-absorbs a b = sym (and_truth a (or_of a b)) ∙ same_rank (and_of a (or_of a b)) a (omega (arith, and-least a (or_of a b), or-greatest a b))

pub or-absorbs : (a b : Value) → or_of a (and_of a b) ≡ truth_of a
or-absorbs a b = sym (or_truth a (and_of a b)) ∙ same_rank (or_of a (and_of a b)) a (omega (arith, or-greatest a (and_of a b), and-least a b))

-- what stands in the middle is kept by NOT
pub not-middle : (a : Value) → 1 ≤ truth_rank a → truth_rank a ≤ 2 → not_of a ≡ truth_of a
not-middle value.Missing h k = refl
not-middle (value.Bool true) h k = absurd (omega arith)
not-middle (value.Bool false) h k = absurd (omega arith)
not-middle value.Null h k = refl
not-middle (value.Int z) h k = refl
not-middle (value.Text t) h k = refl
not-middle (value.Array ds) h k = refl
not-middle (value.Object ps) h k = refl
