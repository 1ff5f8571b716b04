-- What is told by the tokens that were taken, what stops more, and a keyword that is only noted.
use Rattle.std.specs.Prelude.{◌≡◌, ℕ, ◌+◌, ◌-◌, Bool, true, false, if◌then◌else◌, List, [], ◌∷◌, ◌++◌, length, take, refl}
use Rattle.std.proofs.Common.{sym, ap, ◌∙◌, subst, append_assoc, length-append, arith}
use Rattle.n1ql_ast.specs.declared.token_class.TokenClass.{TokenClass}
use Rattle.n1ql_ast.specs.declared.token_class.TokenClass.TheVariants.{Keyword}
use Rattle.n1ql_ast.specs.declared.keyword.Keyword.{Keyword as AnyKeyword}
use Rattle.n1ql_ast.specs.Selections.{tokens_before}
use Rattle.n1ql_parse.specs.inner.Steps.{Outcome, got, stuck, Parser, and_then, eat}
use Rattle.n1ql_parse.proofs.Reading.Prefixes.{Rel, Stops, Agrees, Within, Completes, Either}
use Rattle.n1ql_parse.proofs.Reading.Combined.{within_as, within_eq}
use Rattle.n1ql_parse.proofs.Reading.Looks.{Then}
use Rattle.n1ql_parse.proofs.Reading.Choices.{within_may}

-- The tokens that were taken.

whole_front : (front us : List TokenClass) → take (length front) (front ++ us) ≡ front
whole_front [] us = refl
whole_front (t ∷ front) us = ap (λ ts. t ∷ ts) (whole_front front us)

taken_front : (front us : List TokenClass) → tokens_before (front ++ us) us ≡ front
taken_front front us =
    let whole : length (front ++ us) ≡ length front + length us = length-append front us in
    let count : length front ≡ length (front ++ us) - length us = omega arith in
    subst (λ n. take n (front ++ us) ≡ front) count (whole_front front us)

-- what was read, with what this and the tokens that it took tell
abbrev pub Marked : {A B : Type 0} → (List TokenClass → A → B) → Rel A → Rel (A × B)
Marked f R ts p us = R ts p.0 us × (p.1 ≡ f (tokens_before ts us) p.0)

same_front : {A B : Type 0} (f : List TokenClass → A → B) (x : A) (front us : List TokenClass) → f (tokens_before (front ++ us) us) x ≡ f front x
same_front f x front us = ap (λ ts. f ts x) (taken_front front us)

agrees_marked : {A B : Type 0} (goes : TokenClass → Bool) (f : List TokenClass → A → B) (R : Rel A) (ts : List TokenClass) (o : Outcome A) → Agrees goes R ts o →
    Agrees goes (Marked f R) ts (and_then o (λ x us. got (x, f (tokens_before ts us) x) us))
agrees_marked goes f R ts (got x rest) r =
    let told : f (tokens_before ts rest) x ≡ f r.front x = ap (λ us. f (tokens_before us rest) x) r.is ∙ same_front f x r.front rest in
    record {
      front = r.front;
      is = r.is;
      sound = λ us. (r.sound us, told ∙ sym (same_front f x r.front us));
      only = λ us vs p e q st.
          let k = r.only us vs p.0 e q.0 st in
          let mark : p.1 ≡ f (tokens_before ts rest) x =
          q.1 ∙ (ap (λ ws. f (tokens_before (r.front ++ us) ws) p.0) k.1 ∙ (same_front f p.0 r.front us ∙ (ap (f r.front) k.0 ∙ sym told))) in
          (λ i. (k.0 i, mark i), k.1);
    }
agrees_marked goes f R ts (stuck n) r = record {
  front = r.front;
  rest = r.rest;
  is = r.is;
  is_left = r.is_left;
  more = r.more;
  tree = (r.tree, f (r.front ++ r.more) r.tree);
  viable = λ us. (
    r.viable us,
    sym (subst (λ ts. f (tokens_before ts us) r.tree ≡ f (r.front ++ r.more) r.tree) (append_assoc r.front r.more us) (same_front f r.tree (r.front ++ r.more) us)),
  );
  dead = λ us vs p e q st. r.dead us vs p.0 e q.0 st;
}

pub within_marked : {A B : Type 0} {n : ℕ} {goes : TokenClass → Bool} {R : Rel A} {p : Parser A} (f : List TokenClass → A → B) → Within n goes R p →
    Within n goes (Marked f R) (λ ts. and_then (p ts) (λ x us. got (x, f (tokens_before ts us) x) us))
within_marked {goes = goes} {R = R} {p = p} f w = record { agrees = λ ts h. agrees_marked goes f R ts (p ts) (w.agrees ts h) }

pub completes_marked : {A B : Type 0} {R : Rel A} (f : List TokenClass → A → B) → Completes R → Completes (Marked f R)
completes_marked f c = record {
  more = c.more;
  tree = (c.tree, f c.more c.tree);
  reads = λ us. (c.reads us, sym (same_front f c.tree c.more us));
}

-- What stops more.

pub stops_for : {before after : TokenClass → Bool} → ((t : TokenClass) → after t ≡ false → before t ≡ false) → (us : List TokenClass) → Stops after us → Stops before us
stops_for less [] st = tt
stops_for less (t ∷ us) st = less t st

pub within_wider : {A : Type 0} {n : ℕ} {before after : TokenClass → Bool} {R : Rel A} {p : Parser A} → ((t : TokenClass) → after t ≡ false → before t ≡ false) →
    Within n before R p → Within n after R p
within_wider {before = before} less w = within_as {before = before} w (λ us vs y q. q) (λ us vs y q st. (q, stops_for less vs st))

-- A keyword that is only noted.

flagged : {A : Type 0} (f : Bool → Parser A) (o : Outcome Bool) → and_then o f ≡ and_then o (λ found. if found then f true else f false)
flagged f (got true us) = refl
flagged f (got false us) = refl
flagged f (stuck n) = refl

pub within_flag : {A : Type 0} {n : ℕ} {goes : TokenClass → Bool} (m : AnyKeyword) {R : Bool → Rel A} {f : Bool → Parser A} → ((found : Bool) → Within n goes (R found) (f found)) →
    ((us vs : List TokenClass) (y : A) → R false (Keyword m ∷ us) y vs → Stops goes vs → ⊥) →
    Within n goes (Either (Then m (R true)) (R false)) (λ ts. and_then (eat m ts) f)
within_flag m {f = f} w off = within_eq (within_may m (w true) (w false) off) (λ ts. flagged f (eat m ts))
