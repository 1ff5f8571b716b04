-- Things of one class with commas between them.
use Rattle.std.specs.Prelude.{◌≡◌, ℕ, zero, suc, Bool, false, if◌then◌else◌, List, [], ◌∷◌, ◌++◌, length, refl}
use Rattle.std.proofs.Common.{sym, ◌∙◌, subst, append_assoc, arith}
use Rattle.n1ql_ast.specs.declared.token_class.TokenClass.{TokenClass}
use Rattle.n1ql_ast.specs.declared.token_class.TokenClass.TheVariants.{Keyword}
use Rattle.n1ql_ast.specs.declared.keyword.Keyword.TheVariants as keyword
use Rattle.n1ql_parse.specs.inner.Steps.{Parser, got, stuck, and_then, eat}
use Rattle.n1ql_parse.proofs.Reading.Prefixes.{Rel, Within, Completes, Seq, seq, Pure, none_taken, Either, one, other}
use Rattle.n1ql_parse.proofs.Reading.Combined.{ends, within_as, within_seq, within_less, completes_pure, completes_other}
use Rattle.n1ql_parse.proofs.Reading.Looks.{Then, behind}
use Rattle.n1ql_parse.proofs.Reading.Precedences.{up_to}
use Rattle.n1ql_parse.proofs.Reading.Lists.{may_more, links_may_more, within_none}

-- one thing or more
pub data Several {A : Type 0} (R : Rel A) : (ts : List TokenClass) (xs : List A) (rest : List TokenClass) → Type 0 where
  single : {x : A} {ts rest : List TokenClass} → R ts x rest → Several R ts (x ∷ []) rest
  further : {x : A} {xs : List A} {ts us rest : List TokenClass} → R ts x (Keyword keyword.Comma ∷ us) → Several R us xs rest → Several R ts (x ∷ xs) rest

-- the loop that reads them, behind those that were found
abbrev pub several_from : {A : Type 0} → Parser A → ℕ → List A → Parser (List A)
several_from p zero found = λ ts. stuck (length ts)
several_from p (suc n) found = λ ts. and_then (p ts) (λ x us. and_then (eat keyword.Comma us)
    (λ more. if more then several_from p n (found ++ x ∷ []) else (λ vs. got (found ++ x ∷ []) vs)))

-- over what may come after one of them
module _ {A : Type 0} (R : Rel A) (p : Parser A) (before : TokenClass → Bool) (off : before (Keyword keyword.Comma) ≡ false)
    (less : (t : TokenClass) → up_to 8 t ≡ false → before t ≡ false) where
  data Found (found : List A) (ts : List TokenClass) (ys : List A) (vs : List TokenClass) : Type 0 where
    behind_found : (xs : List A) → ys ≡ found ++ xs → Several R ts xs vs → Found found ts ys vs

  abbrev ThenMore : List A → Rel (List A)
  ThenMore found = Seq R (λ x. Either (Then keyword.Comma (Found (found ++ x ∷ []))) (Pure (found ++ x ∷ [])))

  several_to : (found : List A) (us vs : List TokenClass) (ys : List A) → ThenMore found us ys vs → Found found us ys vs
  several_to found us vs ys (seq x _ r (one (behind (behind_found xs e q)))) = behind_found (x ∷ xs) (e ∙ append_assoc found (x ∷ []) xs) (further r q)
  several_to found us vs ys (seq x ws r (other e)) = ends (Found found) e (behind_found (x ∷ []) refl (single r))

  several_back : (found : List A) (us vs : List TokenClass) (ys : List A) → Found found us ys vs → ThenMore found us ys vs
  several_back found us vs ys (behind_found _ e (single {x = x} r)) =
      seq x vs r (other (subst (λ z. Pure (found ++ x ∷ []) vs z vs) (sym e) none_taken))
  several_back found us vs ys (behind_found _ e (further {x = x} {xs = xs} r q)) =
      seq x _ r (one (behind (behind_found xs (e ∙ sym (append_assoc found (x ∷ []) xs)) q)))

  completes_found : Completes R → (found : List A) → Completes (Found found)
  completes_found c found =
      record { more = c.more; tree = found ++ c.tree ∷ []; reads = λ us. behind_found (c.tree ∷ []) refl (single (c.reads us)) }

  none_found : ((vs : List TokenClass) (y : A) → R [] y vs → ⊥) → (found : List A) (vs : List TokenClass) (ys : List A) → Found found [] ys vs → ⊥
  none_found none found vs ys (behind_found _ e (single {x = x} r)) = none vs x r
  none_found none found vs ys (behind_found _ e (further {x = x} r q)) = none _ x r

  within_from : Completes R → ((vs : List TokenClass) (y : A) → R [] y vs → ⊥) → (n : ℕ) → Within (suc n) before R p → (found : List A) →
      Within (suc n) (up_to 8) (Found found) (several_from p n found)
  within_from c none zero w found = within_none (completes_found c found) (none_found none found)
  within_from c none (suc n) w found = within_as {before = up_to 8}
      (within_seq w (λ x. may_more keyword.Comma refl (found ++ x ∷ []) (within_from c none n (within_less (omega arith) w) (found ++ x ∷ [])))
      (λ x. links_may_more keyword.Comma off less (found ++ x ∷ [])) (λ x. completes_other (completes_pure (found ++ x ∷ []))))
      (several_to found) (λ us vs ys q st. (several_back found us vs ys q, st))

  found_none : (us vs : List TokenClass) (ys : List A) → Found [] us ys vs → Several R us ys vs
  found_none us vs ys (behind_found xs e q) = subst (λ zs. Several R us zs vs) (sym e) q

  pub within_several : Completes R → ((vs : List TokenClass) (y : A) → R [] y vs → ⊥) → (n : ℕ) → Within n before R p →
      Within n (up_to 8) (Several R) (λ ts. several_from p (length ts) [] ts)
  within_several c none n w = within_as {before = up_to 8} {R = Found []}
      (record { agrees = λ ts h. (within_from c none (length ts) (within_less (omega arith) w) []).agrees ts (omega arith) })
      found_none (λ us vs ys q st. (behind_found ys refl q, st))

pub completes_several : {A : Type 0} {R : Rel A} → Completes R → Completes (Several R)
completes_several c = record { more = c.more; tree = c.tree ∷ []; reads = λ us. single (c.reads us) }
