-- One level of an expression, mapped part by part.
use Rattle.std.proofs.Common.{◌≡◌, List, [], ◌∷◌, map, Some, None, refl, ap, ap₂}
use Rattle.n1ql_ast.specs.declared.expr.Expr.{map-Expr}
use Rattle.n1ql_ast.specs.declared.expr.Expr.TheOpen.{Expr-F}

pub maps : {A B C : Type 0} (f : A → B) (g : B → C) (xs : List A) → map g (map f xs) ≡ map (λ x. g (f x)) xs
maps f g [] = refl
maps f g (x ∷ xs) = ap (λ ys. g (f x) ∷ ys) (maps f g xs)

-- one after the other
pub map-map : {A B C : Type 0} (f : A → B) (g : B → C) (l : Expr-F A) → map-Expr B C g (map-Expr A B f l) ≡ map-Expr A C (λ x. g (f x)) l
map-map f g (Expr-F.Call fun xs) = ap (Expr-F.Call fun) (maps f g xs)
map-map f g (Expr-F.List xs) = ap Expr-F.List (maps f g xs)
map-map f g (Expr-F.Build names xs) = ap (Expr-F.Build names) (maps f g xs)
map-map f g (Expr-F.Case whens thens None) = ap₂ (λ ws ts. Expr-F.Case ws ts None) (maps f g whens) (maps f g thens)
map-map f g (Expr-F.Case whens thens (Some other)) = ap₂ (λ ws ts. Expr-F.Case ws ts (Some (g (f other)))) (maps f g whens) (maps f g thens)
map-map f g (Expr-F.Each name item over None) = refl
map-map f g (Expr-F.Each name item over (Some when)) = refl
map-map f g (Expr-F.First name item over None) = refl
map-map f g (Expr-F.First name item over (Some when)) = refl
map-map f g (Expr-F.Agg agg None) = refl
map-map f g (Expr-F.Agg agg (Some x)) = refl
map-map f g l = refl

itself : {A : Type 0} (xs : List A) → map (λ x. x) xs ≡ xs
itself [] = refl
itself (x ∷ xs) = ap (λ ys. x ∷ ys) (itself xs)

pub map-id : {A : Type 0} (l : Expr-F A) → map-Expr A A (λ x. x) l ≡ l
map-id (Expr-F.Call fun xs) = ap (Expr-F.Call fun) (itself xs)
map-id (Expr-F.List xs) = ap Expr-F.List (itself xs)
map-id (Expr-F.Build names xs) = ap (Expr-F.Build names) (itself xs)
map-id (Expr-F.Case whens thens None) = ap₂ (λ ws ts. Expr-F.Case ws ts None) (itself whens) (itself thens)
map-id (Expr-F.Case whens thens (Some other)) = ap₂ (λ ws ts. Expr-F.Case ws ts (Some other)) (itself whens) (itself thens)
map-id (Expr-F.Each name item over None) = refl
map-id (Expr-F.Each name item over (Some when)) = refl
map-id (Expr-F.First name item over None) = refl
map-id (Expr-F.First name item over (Some when)) = refl
map-id (Expr-F.Agg agg None) = refl
map-id (Expr-F.Agg agg (Some x)) = refl
map-id l = refl
