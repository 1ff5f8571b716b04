-- The arguments of a function: as many as it takes.
use Rattle.std.specs.Prelude.{◌≡◌, ℕ, zero, suc, ◌+◌, ◌-◌, ◌<◌, ◌≤◌, Bool, true, false, nat_lt, if◌then◌else◌, List, [], ◌∷◌, ◌++◌, length, Option, Some, None, MatchOption, ⊤, refl}
use Rattle.std.proofs.Common.{sym, ap, ◌∙◌, subst, append_assoc, append-nil, length-append, arith}
use Rattle.std.proofs.lemmas.Bool.{ltb-true, ltb-false, lt-ltb}
use Rattle.n1ql_value.specs.declared.fun.Fun.{Fun}
use Rattle.n1ql_value.specs.declared.fun.Fun.TheVariants as fun
use Rattle.n1ql_value.specs.Functions.{least_count, most_count, TakesCount}
use Rattle.n1ql_ast.specs.declared.token_class.TokenClass.{TokenClass}
use Rattle.n1ql_ast.specs.declared.token_class.TokenClass.TheVariants.{Keyword}
use Rattle.n1ql_ast.specs.declared.keyword.Keyword.TheVariants as keyword
use Rattle.n1ql_ast.specs.declared.unresolved_expr.UnresolvedExpr.{UnresolvedExpr}
use Rattle.n1ql_ast.specs.Grammar as g
use Rattle.n1ql_ast.specs.Grammar.{IsExpr, IsExprs, MoreExprs}
use Rattle.n1ql_parse.specs.declared.expressions.precedence.Precedence.{Precedence}
use Rattle.n1ql_parse.specs.declared.expressions.precedence.Precedence.TheVariants as precedence
use Rattle.n1ql_parse.specs.inner.Steps.{Parser, got, and_then, eat, expect}
use Rattle.n1ql_parse.specs.inner.Parser.{is_below, comma_after, arguments_from, arguments}
use Rattle.n1ql_parse.proofs.Reading.Prefixes.{Rel, Stops, Within, Completes, Links, Seq, seq, Pure, none_taken, Either, one, other}
use Rattle.n1ql_parse.proofs.Reading.Combined.{ends, within_as, within_eq, within_seq, regrouped, within_pure, within_less}
use Rattle.n1ql_parse.proofs.Reading.Looks.{Then, behind, within_expect, within_eat}
use Rattle.n1ql_parse.proofs.Reading.Precedences.{up_to, tighter_stops}
use Rattle.n1ql_parse.proofs.Reading.Lookahead.{exprs_head}
use Rattle.n1ql_parse.proofs.Reading.Zero.{completes_at}
use Rattle.n1ql_parse.proofs.Reading.Lists.{within_none}

-- no more than a function takes
abbrev IsUpTo : Option ℕ → ℕ → Type 0
IsUpTo most n = MatchOption most ⊤ (λ most. n ≤ most)

below_is : (most : Option ℕ) (n : ℕ) → is_below n most ≡ true → IsUpTo most (n + 1)
below_is (Some most) n e = let h : n < most = ltb-true n most e in omega arith
below_is None n e = search

not_below : (most : Option ℕ) (n k : ℕ) → is_below n most ≡ false → IsUpTo most k → k ≤ n
not_below (Some most) n k e h = let l : most ≤ n = ltb-false n most e in omega arith
not_below None n k e h = cc

less_below : (f : Fun) (n : ℕ) → n < least_count f → is_below n (most_count f) ≡ true
less_below fun.Abs n h = lt-ltb n 1 h
less_below fun.ArrayLength n h = lt-ltb n 1 h
less_below fun.ArrayContains n h = lt-ltb n 2 h
less_below fun.Contains n h = lt-ltb n 2 h
less_below fun.Length n h = lt-ltb n 1 h
less_below fun.ObjectNames n h = lt-ltb n 1 h
less_below fun.ToString n h = lt-ltb n 1 h
less_below fun.TypeOf n h = lt-ltb n 1 h
less_below _ n h = refl

one_fits : (f : Fun) → IsUpTo (most_count f) 1
one_fits fun.Abs = omega arith
one_fits fun.ArrayLength = omega arith
one_fits fun.ArrayContains = omega arith
one_fits fun.Contains = omega arith
one_fits fun.Length = omega arith
one_fits fun.ObjectNames = omega arith
one_fits fun.ToString = omega arith
one_fits fun.TypeOf = omega arith
one_fits _ = search

least_fits : (f : Fun) → IsUpTo (most_count f) (least_count f)
least_fits fun.Abs = omega arith
least_fits fun.ArrayLength = omega arith
least_fits fun.ArrayContains = omega arith
least_fits fun.Contains = omega arith
least_fits fun.Length = omega arith
least_fits fun.ObjectNames = omega arith
least_fits fun.ToString = omega arith
least_fits fun.TypeOf = omega arith
least_fits _ = search

filled : (most : Option ℕ) (m least : ℕ) → IsUpTo most m → IsUpTo most least → IsUpTo most (m + (least - m))
filled (Some most) m least h l = omega arith
filled None m least h l = search

one_longer : (found : List UnresolvedExpr) (x : UnresolvedExpr) → length (found ++ x ∷ []) ≡ length found + 1
one_longer found x = length-append found (x ∷ [])

some_exprs : {agg : Bool} {ts vs : List TokenClass} {xs : List UnresolvedExpr} → IsExprs agg ts xs vs → 1 ≤ length xs
some_exprs (g.exprs p q) = omega arith

-- this many expressions more
record Filling (agg : Bool) (n : ℕ) : Type 0 where
  more : List TokenClass
  xs : List UnresolvedExpr
  count : length xs ≡ n
  reads : (us : List TokenClass) → MoreExprs agg (more ++ us) xs us

filling : (agg : Bool) (n : ℕ) → Filling agg n
filling agg zero = record { more = []; xs = []; count = refl; reads = λ us. g.exprs_done }
filling agg (suc n) =
    let c = completes_at agg precedence.Or in
    let f = filling agg n in
    record {
      more = Keyword keyword.Comma ∷ (c.more ++ f.more);
      xs = c.tree ∷ f.xs;
      count = ap suc f.count;
      reads = λ us. g.exprs_more (subst (λ ts. IsExprs agg ts (c.tree ∷ f.xs) us) (sym (append_assoc c.more f.more us)) (g.exprs (c.reads (f.more ++ us)) (f.reads us)));
    }

module _ (inner : Bool → Precedence → Parser UnresolvedExpr) (agg : Bool) (f : Fun) where
  abbrev Whole : ℕ → Type 0
  Whole n = Within n (up_to 7) (IsExpr agg) (inner agg precedence.Or)

  -- arguments behind those that were found, as many in all as the function takes
  pub data FoundArgs (found : List UnresolvedExpr) (ts : List TokenClass) (ys : List UnresolvedExpr) (vs : List TokenClass) : Type 0 where
    found_args : (xs : List UnresolvedExpr) → ys ≡ found ++ xs → IsExprs agg ts xs vs → TakesCount f (length ys) → FoundArgs found ts ys vs

  -- after the last of those that were found
  data MoreArgs (found : List UnresolvedExpr) (ts : List TokenClass) (ys : List UnresolvedExpr) (vs : List TokenClass) : Type 0 where
    more_args : (xs : List UnresolvedExpr) → ys ≡ found ++ xs → MoreExprs agg ts xs vs → TakesCount f (length ys) → MoreArgs found ts ys vs

  completes_more_args : (found : List UnresolvedExpr) → IsUpTo (most_count f) (length found) → Completes (MoreArgs found)
  completes_more_args found fits =
      let k = filling agg (least_count f - length found) in
      let e : length (found ++ k.xs) ≡ length found + (least_count f - length found) = length-append found k.xs ∙ ap (λ n. length found + n) k.count in
      let t : TakesCount f (length (found ++ k.xs)) = subst (TakesCount f) (sym e) (omega arith, filled (most_count f) (length found) (least_count f) fits (least_fits f)) in
      record { more = k.more; tree = found ++ k.xs; reads = λ us. more_args k.xs refl (k.reads us) t }

  links_more_args : (found : List UnresolvedExpr) → Links (up_to 7) (up_to 8) (MoreArgs found)
  links_more_args found = record { stops = go }
    where
      weaker : (vs : List TokenClass) → Stops (up_to 8) vs → Stops (up_to 7) vs
      weaker [] st = tt
      weaker (t ∷ vs) st = tighter_stops 7 8 (omega arith) t st

      go : (us vs : List TokenClass) (ys : List UnresolvedExpr) → MoreArgs found us ys vs → Stops (up_to 8) vs → Stops (up_to 7) us
      go us _ ys (more_args _ e g.exprs_done t) st = weaker us st
      go us vs ys (more_args _ e (g.exprs_more q) t) st = refl

  comma_of : (found : List UnresolvedExpr) (us vs : List TokenClass) (ys : List UnresolvedExpr) → Then keyword.Comma (FoundArgs found) us ys vs → MoreArgs found us ys vs
  comma_of found _ vs ys (behind (found_args xs e q t)) = more_args xs e (g.exprs_more q) t

  -- what comes after an argument
  next_args : (n : ℕ) (found : List UnresolvedExpr) (m : ℕ) → length found ≡ m → IsUpTo (most_count f) m → (p : Parser (List UnresolvedExpr)) →
      (is_below m (most_count f) ≡ true → Within n (up_to 8) (FoundArgs found) p) → (is_below m (most_count f) ≡ true → Completes (FoundArgs found)) →
      Within (suc n) (up_to 8) (MoreArgs found) (λ ts. and_then (comma_after f m ts) (λ more. if more then p else (λ us. got found us)))
  unfolding comma_after
  next_args n found m count fits p w completes = step (nat_lt m (least_count f)) (is_below m (most_count f)) refl refl
    where
      takes : least_count f ≤ m → TakesCount f (length found)
      takes h = (omega arith, subst (IsUpTo (most_count f)) (sym count) fits)

      no_more : nat_lt m (least_count f) ≡ true → (us vs : List TokenClass) (ys : List UnresolvedExpr) → MoreArgs found us ys vs → Then keyword.Comma (FoundArgs found) us ys vs
      no_more h us vs ys (more_args _ e g.exprs_done t) =
          let l : m < least_count f = ltb-true m (least_count f) h in
          let k : length ys ≡ length found + 0 = ap length e ∙ length-append found [] in
          let a : least_count f ≤ length ys = t.0 in
          absurd (omega arith)
      no_more h us vs ys (more_args xs e (g.exprs_more q) t) = behind (found_args xs e q t)

      may_to : least_count f ≤ m → (us vs : List TokenClass) (ys : List UnresolvedExpr) → Either (Then keyword.Comma (FoundArgs found)) (Pure found) us ys vs → MoreArgs found us ys vs
      may_to h us vs ys (one r) = comma_of found us vs ys r
      may_to h us vs ys (other r) = ends (MoreArgs found) r (more_args [] (sym (append-nil found)) g.exprs_done (takes h))

      may_from : (us vs : List TokenClass) (ys : List UnresolvedExpr) → MoreArgs found us ys vs → Either (Then keyword.Comma (FoundArgs found)) (Pure found) us ys vs
      may_from us _ ys (more_args _ e g.exprs_done t) = other (subst (λ z. Pure found us z us) (sym (e ∙ append-nil found)) none_taken)
      may_from us vs ys (more_args xs e (g.exprs_more q) t) = one (behind (found_args xs e q t))

      off : (us vs : List TokenClass) (ys : List UnresolvedExpr) → Pure found (Keyword keyword.Comma ∷ us) ys vs → Stops (up_to 8) vs → ⊥
      off us _ _ none_taken st = let h : true ≡ false = st in cc

      full_to : least_count f ≤ m → (us vs : List TokenClass) (ys : List UnresolvedExpr) → Pure found us ys vs → MoreArgs found us ys vs
      full_to h us vs ys r = ends (MoreArgs found) r (more_args [] (sym (append-nil found)) g.exprs_done (takes h))

      full_from : is_below m (most_count f) ≡ false → (us vs : List TokenClass) (ys : List UnresolvedExpr) → MoreArgs found us ys vs → Pure found us ys vs
      full_from h us _ ys (more_args _ e g.exprs_done t) = subst (λ z. Pure found us z us) (sym (e ∙ append-nil found)) none_taken
      full_from h us vs ys (more_args xs e (g.exprs_more q) t) =
          let k : length ys ≡ length found + length xs = ap length e ∙ length-append found xs in
          let a : length ys ≤ m = not_below (most_count f) m (length ys) h t.1 in
          let b : 1 ≤ length xs = some_exprs q in
          absurd (omega arith)

      step : (b c : Bool) → nat_lt m (least_count f) ≡ b → is_below m (most_count f) ≡ c →
          Within (suc n) (up_to 8) (MoreArgs found) (λ ts. and_then
          ((if b then (λ us. and_then (expect keyword.Comma us) (λ _ vs. got true vs)) else (if c then eat keyword.Comma else (λ us. got false us))) ts)
          (λ more. if more then p else (λ us. got found us)))
      step true c hb hc = within_eq
          (within_as {before = up_to 8} (within_expect keyword.Comma {f = λ _. p} (w (less_below f m (ltb-true m (least_count f) hb))) (completes (less_below f m (ltb-true m (least_count f) hb)))) (comma_of found) (λ us vs ys q st. (no_more hb us vs ys q, st)))
          (λ ts. regrouped (expect keyword.Comma ts) (λ _ vs. got true vs) (λ more. if more then p else (λ us. got found us)))
      step false true hb hc = within_as {before = up_to 8} (within_eat keyword.Comma (w hc) (within_pure found) off) (may_to (ltb-false m (least_count f) hb)) (λ us vs ys q st. (may_from us vs ys q, st))
      step false false hb hc = within_as {before = up_to 8} (within_pure found) (full_to (ltb-false m (least_count f) hb)) (λ us vs ys q st. (full_from hc us vs ys q, st))

  args_to : (found : List UnresolvedExpr) (us vs : List TokenClass) (ys : List UnresolvedExpr) → Seq (IsExpr agg) (λ x. MoreArgs (found ++ x ∷ [])) us ys vs → FoundArgs found us ys vs
  args_to found us vs ys (seq x ws p (more_args xs e q t)) = found_args (x ∷ xs) (e ∙ append_assoc found (x ∷ []) xs) (g.exprs p q) t

  args_from : (found : List UnresolvedExpr) (us vs : List TokenClass) (ys : List UnresolvedExpr) → FoundArgs found us ys vs → Seq (IsExpr agg) (λ x. MoreArgs (found ++ x ∷ [])) us ys vs
  args_from found us vs ys (found_args _ e (g.exprs {x = x} {xs = xs} p q) t) = seq x _ p (more_args xs (e ∙ sym (append_assoc found (x ∷ []) xs)) q t)

  fits_one_more : (found : List UnresolvedExpr) (x : UnresolvedExpr) → IsUpTo (most_count f) (length found + 1) → IsUpTo (most_count f) (length (found ++ x ∷ []))
  fits_one_more found x = subst (IsUpTo (most_count f)) (sym (one_longer found x))

  completes_found_args : (found : List UnresolvedExpr) → IsUpTo (most_count f) (length found + 1) → Completes (FoundArgs found)
  completes_found_args found fits =
      let x = (completes_at agg precedence.Or).tree in
      let c = completes_more_args (found ++ x ∷ []) (fits_one_more found x fits) in
      let m = (completes_at agg precedence.Or).more in
      record {
        more = m ++ c.more;
        tree = c.tree;
        reads = λ us. args_to found ((m ++ c.more) ++ us) us c.tree
            (subst (λ ts. Seq (IsExpr agg) (λ x. MoreArgs (found ++ x ∷ [])) ts c.tree us) (sym (append_assoc m c.more us)) (seq x (c.more ++ us) ((completes_at agg precedence.Or).reads (c.more ++ us)) (c.reads us)));
      }

  no_args : (found : List UnresolvedExpr) (vs : List TokenClass) (ys : List UnresolvedExpr) → FoundArgs found [] ys vs → ⊥
  no_args found vs ys (found_args xs e p t) = exprs_head p

  two_more : (found : List UnresolvedExpr) (x : UnresolvedExpr) → is_below (length found + 1) (most_count f) ≡ true → IsUpTo (most_count f) (length (found ++ x ∷ []) + 1)
  two_more found x room = subst (λ k. IsUpTo (most_count f) (k + 1)) (sym (one_longer found x)) (below_is (most_count f) (length found + 1) room)

  within_arguments_from : (n : ℕ) → Whole (suc n) → (found : List UnresolvedExpr) → IsUpTo (most_count f) (length found + 1) → Within (suc n) (up_to 8) (FoundArgs found) (arguments_from inner agg f n found)
  unfolding arguments_from
  within_arguments_from zero w found fits = within_none (completes_found_args found fits) (no_args found)
  within_arguments_from (suc n) w found fits = within_as {before = up_to 8}
      (within_seq w
      (λ x. next_args (suc n) (found ++ x ∷ []) (length found + 1) (one_longer found x) fits (arguments_from inner agg f n (found ++ x ∷ []))
      (λ room. within_arguments_from n (within_less (omega arith) w) (found ++ x ∷ [])
      (two_more found x room))
      (λ room. completes_found_args (found ++ x ∷ []) (two_more found x room)))
      (λ x. links_more_args (found ++ x ∷ [])) (λ x. completes_more_args (found ++ x ∷ []) (fits_one_more found x fits)))
      (args_to found) (λ us vs ys q st. (args_from found us vs ys q, st))

  abbrev pub AreArgs : Rel (List UnresolvedExpr)
  AreArgs ts xs vs = IsExprs agg ts xs vs × TakesCount f (length xs)

  args_whole : (us vs : List TokenClass) (ys : List UnresolvedExpr) → FoundArgs [] us ys vs → AreArgs us ys vs
  args_whole us vs ys (found_args xs e p t) = (subst (λ zs. IsExprs agg us zs vs) (sym e) p, t)

  pub within_arguments : (n : ℕ) → Whole n → Within n (up_to 8) AreArgs (arguments inner agg f)
  unfolding arguments
  within_arguments n w = within_as {before = up_to 8} {R = FoundArgs []}
      (record { agrees = λ ts h. (within_arguments_from (length ts) (within_less (omega arith) w) [] (one_fits f)).agrees ts (omega arith) })
      args_whole (λ us vs ys q st. (found_args ys refl q.0 q.1, st))
