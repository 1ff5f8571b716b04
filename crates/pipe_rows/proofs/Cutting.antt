-- What OFFSET and LIMIT leave of what stands for results.
use Rattle.std.proofs.Common.{◌≡◌, ℕ, zero, suc, cond, List, [], ◌∷◌, drop, take, map, Option, Some, None, refl, ap, ◌∙◌}
use Rattle.std.specs.Option.{option_map_or}
use Rattle.n1ql_value.specs.declared.value.Value.{Value}
use Rattle.n1ql_value.specs.Datum.{datum_of}
use Rattle.n1ql_ast.specs.declared.expr.Expr.{Expr}
use Rattle.n1ql_ast.specs.declared.selection.Selection.{Selection}
use Rattle.n1ql_meaning.specs.Finish.{cut, finished, first_of_each, in_order}
use Rattle.n1ql_meaning.specs.Results.{PlacedResult}
use Rattle.pipe_rows.specs.declared.out.Out.{Out}
use Rattle.pipe_rows.specs.Pipes.{placed}

-- the results alone
abbrev told : List Out → List Value
told os = map (λ (r : PlacedResult). r.result) (map placed os)

told_is : (os : List Out) → map (λ (o : Out). datum_of o.result) os ≡ map datum_of (told os)
told_is [] = refl
told_is (o ∷ os) = ap (λ ds. datum_of o.result ∷ ds) (told_is os)

told_drop : (n : ℕ) (os : List Out) → told (drop n os) ≡ drop n (told os)
told_drop zero os = refl
told_drop (suc n) [] = refl
told_drop (suc n) (o ∷ os) = told_drop n os

told_take : (n : ℕ) (os : List Out) → told (take n os) ≡ take n (told os)
told_take zero os = refl
told_take (suc n) [] = refl
told_take (suc n) (o ∷ os) = ap (λ vs. o.result ∷ vs) (told_take n os)

cut_told : (limit : Option ℕ) (offset : ℕ) (os : List Out)
    → told (option_map_or (λ n. take n (drop offset os)) limit (drop offset os)) ≡ cut limit offset (told os)
cut_told None offset os = told_drop offset os
cut_told (Some n) offset os = told_take n (drop offset os) ∙ ap (take n) (told_drop offset os)

pub finished_is : (q : Selection Expr) (outs kept sorted : List Out)
    → map placed kept ≡ cond q.distinct (first_of_each (map placed outs)) (map placed outs)
    → map placed sorted ≡ in_order q.orders (map placed kept)
    → map (λ (o : Out). datum_of o.result) (option_map_or (λ n. take n (drop q.offset sorted)) q.limit (drop q.offset sorted))
    ≡ map datum_of (finished q (map placed outs))
finished_is q outs kept sorted k s =
    told_is (option_map_or (λ n. take n (drop q.offset sorted)) q.limit (drop q.offset sorted))
    ∙ ap (map datum_of) (cut_told q.limit q.offset sorted
    ∙ ap (λ rs. cut q.limit q.offset (map (λ (r : PlacedResult). r.result) rs)) (s ∙ ap (in_order q.orders) k))
