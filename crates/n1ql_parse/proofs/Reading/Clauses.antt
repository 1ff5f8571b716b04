-- The parts of statements: names, keys, USING, WITH and WHERE.
use Rattle.std.specs.Prelude.{◌≡◌, ℕ, zero, suc, Bool, true, false, if◌then◌else◌, List, [], ◌∷◌, ◌++◌, length, Option, Some, None, refl}
use Rattle.std.proofs.Common.{sym, ap, ◌∙◌, subst, arith}
use Rattle.n1ql_ast.specs.declared.expr.Expr.{Expr}
use Rattle.n1ql_ast.specs.declared.key.Key.{Key}
use Rattle.n1ql_ast.specs.declared.key.Key.TheVariants as any_key
use Rattle.n1ql_ast.specs.declared.token_class.TokenClass.{TokenClass}
use Rattle.n1ql_ast.specs.declared.token_class.TokenClass.TheVariants.{Keyword, Name, Str, Num, Other}
use Rattle.n1ql_ast.specs.declared.keyword.Keyword.{Keyword as AnyKeyword}
use Rattle.n1ql_ast.specs.declared.keyword.Keyword.TheVariants as keyword
use Rattle.n1ql_ast.specs.declared.unresolved_expr.UnresolvedExpr.{UnresolvedExpr}
use Rattle.n1ql_ast.specs.declared.unresolved_expr.UnresolvedExpr.TheVariants as unresolved
use Rattle.n1ql_ast.specs.Grammar as g
use Rattle.n1ql_ast.specs.Grammar.{IsExpr, IsObject}
use Rattle.n1ql_ast.specs.Statements as s
use Rattle.n1ql_ast.specs.Statements.{MayName, MayUsing, MayWith, MayWhere, IsKey, IsKeys, MoreKeys, IsNames, MoreNames, on_document, array_key as array_key_of}
use Rattle.n1ql_parse.specs.declared.expressions.each.Each.{Each}
use Rattle.n1ql_parse.specs.declared.expressions.precedence.Precedence.TheVariants as precedence
use Rattle.n1ql_parse.specs.declared.tokens.word.Word.{Word}
use Rattle.n1ql_parse.specs.inner.Steps.{Outcome, Parser, got, and_then, eat, expect, name}
use Rattle.n1ql_parse.specs.inner.Parser.{at, enough}
use Rattle.n1ql_parse.specs.inner.Statements.{parsed_object, parsed_each, may_name, may_using, options, may_with, filter, may_where, array_key, plain_key, key, keys_from, keys, names_from, names, on_keyspace}
use Rattle.n1ql_parse.proofs.Reading.Prefixes.{Rel, Stops, Within, Completes, Links, Seq, seq, Pure, none_taken, Next, meant, Either, one, other}
use Rattle.n1ql_parse.proofs.Reading.Combined.{ends, regrouped, either, within_as, within_eq, within_less, within_seq, within_pure, within_either, links_pure, completes_pure, completes_seq}
use Rattle.n1ql_parse.proofs.Reading.Looks.{Then, behind, Worded, worded, word_seen, within_name, completes_name}
use Rattle.n1ql_parse.proofs.Reading.Precedences.{up_to, tighter_stops}
use Rattle.n1ql_parse.proofs.Reading.Lookahead.{expr_head}
use Rattle.n1ql_parse.proofs.Reading.Zero.{zero_const, zero_expr, completes_at}
use Rattle.n1ql_parse.proofs.Reading.Choices.{within_then, within_may}
use Rattle.n1ql_parse.proofs.Reading.Forms.{ObjectRel, AreEach, within_object, within_each, within_end, stops_less}
use Rattle.n1ql_parse.proofs.Reading.Rounds.{nests, within_parsed}
use Rattle.n1ql_parse.proofs.Reading.Several.{Several, single, further, several_from, within_several}

pub and_got : {A : Type 0} (o : Outcome A) → and_then o (λ x us. got x us) ≡ o
and_got (Outcome.got x us) = refl
and_got (Outcome.stuck n) = refl

-- what another keyword begins
pub apart : {A : Type 0} {R : Rel A} {us vs : List TokenClass} {y : A} (m n : AnyKeyword) → Then m R (Keyword n ∷ us) y vs → m ≡ n
apart m n (behind r) = refl

-- The rules of expressions as parts of statements.

-- an object whose opening brace was taken
abbrev pub AreObject : Rel UnresolvedExpr
AreObject ts x vs = IsObject false (Keyword keyword.OpenBrace ∷ ts) x vs

object_to : (us vs : List TokenClass) (y : UnresolvedExpr) → ObjectRel false us y vs → AreObject us y vs
object_to _ vs y (one (behind r)) = ends AreObject r g.object_empty
object_to us vs y (other (seq p _ q (behind r))) = ends AreObject r (g.object_pairs q)

object_from : (us vs : List TokenClass) (y : UnresolvedExpr) → AreObject us y vs → ObjectRel false us y vs
object_from _ vs _ g.object_empty = one (behind none_taken)
object_from us vs _ (g.object_pairs {names = names} {xs = xs} p) = other (seq (record { names = names; values = xs }) _ p (behind none_taken))

within_parsed_object : (n : ℕ) → Within n (up_to 1) AreObject parsed_object
unfolding parsed_object
within_parsed_object n = within_as {before = up_to 1} {R = ObjectRel false}
    (record { agrees = λ ts h. (within_object (at (enough ts)) false (suc (length ts)) (nests (enough ts) (suc (length ts)) false precedence.Or (omega arith))).agrees ts (omega arith) })
    object_to (λ us vs y q st. (object_from us vs y q, st))

within_parsed_each : (n : ℕ) → Within n (up_to 1) (AreEach false) parsed_each
unfolding parsed_each
within_parsed_each n =
    record { agrees = λ ts h. (within_each (at (enough ts)) false (suc (length ts)) (nests (enough ts) (suc (length ts)) false precedence.Or (omega arith))).agrees ts (omega arith) }

-- Names.

-- a name, and nothing more
abbrev pub OneName : Rel (List ℕ)
OneName = Worded (λ w. Pure w.text)

pub within_one_name : {n : ℕ} {goes : TokenClass → Bool} → Within n goes OneName name
within_one_name {n = n} {goes = goes} =
    within_eq (within_less (omega arith) (within_name {n = n} {goes = goes} {R = Pure} {f = λ text us. got text us} (λ text. within_pure text) (completes_pure []))) (λ ts. sym (and_got (name ts)))

names_to : (us vs : List TokenClass) (ys : List (List ℕ)) → Several OneName us ys vs → IsNames us ys vs
names_to _ vs _ (single (worded e)) = ends (λ us y vs. IsNames us (y ∷ []) vs) e (s.names s.names_done)
names_to _ vs _ (further {xs = xs} {us = us} (worded e) q) =
    ends (λ ts y ws. MoreNames ws xs vs → IsNames ts (y ∷ xs) vs) e (λ m. s.names m) (s.names_more (names_to us vs xs q))

names_back : (us vs : List TokenClass) (ys : List (List ℕ)) → IsNames us ys vs → Several OneName us ys vs
names_back us vs ys (s.names s.names_done) = single (worded none_taken)
names_back us vs ys (s.names (s.names_more {more = more} {ts = ts} p)) = further (worded none_taken) (names_back ts vs more p)

names_are : (n : ℕ) (found : List (List ℕ)) → names_from n found ≡ several_from name n found
unfolding names_from
names_are zero found = refl
names_are (suc n) found = λ i ts. and_then (name ts) (λ x us. and_then (eat keyword.Comma us)
    (λ more. if more then names_are n (found ++ x ∷ []) i else (λ vs. got (found ++ x ∷ []) vs)))

no_name : (vs : List TokenClass) (y : List ℕ) → OneName [] y vs → ⊥
no_name vs y r = elim r [ ]

pub within_names : (n : ℕ) → Within n (up_to 8) IsNames names
unfolding names
within_names n = within_as {before = up_to 8} {R = Several OneName}
    (within_eq (within_several OneName name (up_to 7) refl (tighter_stops 7 8 (omega arith)) (completes_name (completes_pure [])) no_name n within_one_name) (λ ts. ap (λ (f : Parser (List (List ℕ))). f ts) (names_are (length ts) [])))
    names_to (λ us vs ys q st. (names_back us vs ys q, st))

pub completes_names : Completes IsNames
completes_names = record { more = Name [] true ∷ []; tree = [] ∷ []; reads = λ us. s.names s.names_done }

-- a name goes on
abbrev pub is_name : TokenClass → Bool
is_name (Name text quoted) = true
is_name _ = false

name_either : (ts : List TokenClass) → may_name ts ≡ either word_seen (λ w us. got (Some w.text) us) (λ us. got None us) ts
name_either [] = refl
name_either (Keyword m ∷ ts) = refl
name_either (Name text quoted ∷ ts) = refl
name_either (Str text ∷ ts) = refl
name_either (Num n ∷ ts) = refl
name_either (Other ∷ ts) = refl

abbrev SeenName : Rel (Option (List ℕ))
SeenName = Either (Next word_seen (λ (w : Word). Pure (Some w.text))) (Pure None)

pub within_may_name : {n : ℕ} → Within n is_name MayName may_name
within_may_name {n = n} = within_less {m = n} {n = suc n} (omega arith)
    (within_eq (within_as {before = is_name} {R = SeenName}
    (within_either {n = n} {look = word_seen} {R = λ (w : Word). Pure (Some w.text)} {f = λ w us. got (Some w.text) us} (λ w. within_pure (Some w.text)) (within_pure None) off)
    to (λ us vs y q st. (from us vs y q, st))) name_either)
  where
    off : (t : TokenClass) (w : Word) (us vs : List TokenClass) (y : Option (List ℕ)) → word_seen t ≡ Some w → Pure None (t ∷ us) y vs → Stops is_name vs → ⊥
    off (Name text quoted) w us _ _ e none_taken st = cc
    off (Keyword m) w us _ _ e none_taken st = cc
    off (Str text) w us _ _ e none_taken st = cc
    off (Num n) w us _ _ e none_taken st = cc
    off Other w us _ _ e none_taken st = cc

    is_named : (t : TokenClass) (w : Word) (us vs : List TokenClass) (y : Option (List ℕ)) → word_seen t ≡ Some w → Pure (Some w.text) us y vs → MayName (t ∷ us) y vs
    is_named (Name text quoted) w us vs y e r =
        let same : record { text = text; quoted = quoted } ≡ w = cc in
        ends (λ ts z ws. MayName (Name text quoted ∷ us) z ws) {us = us} r (subst (λ (v : Word). MayName (Name text quoted ∷ us) (Some v.text) us) same s.name_some)
    is_named (Keyword m) w us vs y e r = cc
    is_named (Str text) w us vs y e r = cc
    is_named (Num n) w us vs y e r = cc
    is_named Other w us vs y e r = cc

    to : (us vs : List TokenClass) (y : Option (List ℕ)) → SeenName us y vs → MayName us y vs
    to us vs y (one (meant t w ws is seen r)) = subst (λ l. MayName l y vs) (sym is) (is_named t w ws vs y seen r)
    to us vs y (other none_taken) = s.name_none

    from : (us vs : List TokenClass) (y : Option (List ℕ)) → MayName us y vs → SeenName us y vs
    from us vs y s.name_none = other none_taken
    from _ vs _ (s.name_some {quoted = quoted} {name = name}) = one (meant (Name name quoted) (record { text = name; quoted = quoted }) vs refl refl none_taken)

pub completes_may_name : Completes MayName
completes_may_name = record { more = []; tree = None; reads = λ us. s.name_none }

-- ON and a keyspace, and what comes after them
pub within_on : {A : Type 0} {n : ℕ} {goes : TokenClass → Bool} {R : List ℕ → Rel A} {f : List ℕ → Parser A} → ((keyspace : List ℕ) → Within n goes (R keyspace) (f keyspace)) →
    Completes (R []) → Within n goes (Then keyword.On (Worded (λ w. R w.text))) (λ ts. and_then (on_keyspace ts) f)
unfolding on_keyspace
within_on {R = R} {f = f} w c = within_eq (within_then keyword.On (within_less (omega arith) (within_name {R = R} {f = f} w c)) (completes_name c)) (λ ts. regrouped (expect keyword.On ts) (λ _. name) f)

-- USING GSI, WITH and WHERE.

abbrev pub UsingRel : Rel (Unit {0})
UsingRel ts _ vs = MayUsing ts vs

using_to : (us vs : List TokenClass) (y : Unit {0}) → Either (Then keyword.Using (Then keyword.Gsi (Pure tt))) (Pure tt) us y vs → UsingRel us y vs
using_to _ vs y (one (behind (behind e))) = ends UsingRel e s.using_gsi
using_to us vs y (other e) = ends UsingRel e s.using_none

using_from : (us vs : List TokenClass) (y : Unit {0}) → UsingRel us y vs → Either (Then keyword.Using (Then keyword.Gsi (Pure tt))) (Pure tt) us y vs
using_from us vs y s.using_none = other none_taken
using_from us vs y s.using_gsi = one (behind (behind none_taken))

-- nothing, where a keyword that goes on comes next
pub none_or_more : {A : Type 0} {x : A} (goes : TokenClass → Bool) (m : AnyKeyword) → goes (Keyword m) ≡ true → (us vs : List TokenClass) (y : A) → Pure x (Keyword m ∷ us) y vs → Stops goes vs → ⊥
none_or_more goes m on us _ _ none_taken st = let h : true ≡ false = sym on ∙ st in cc

pub within_may_using : {n : ℕ} → Within n (up_to 11) UsingRel may_using
unfolding may_using
within_may_using = within_as {before = up_to 11}
    (within_may keyword.Using (within_eq (within_end keyword.Gsi tt) (λ ts. sym (and_got (expect keyword.Gsi ts)))) (within_pure tt) (none_or_more (up_to 11) keyword.Using refl))
    using_to (λ us vs y q st. (using_from us vs y q, st))

pub completes_using : Completes UsingRel
completes_using = record { more = []; tree = tt; reads = λ us. s.using_none }

abbrev OptionsRel : List ℕ → Rel (Option Expr)
OptionsRel keyspace = Then keyword.OpenBrace (Seq AreObject (λ x. Pure (Some (on_document keyspace x))))

with_to : (keyspace : List ℕ) (us vs : List TokenClass) (y : Option Expr) → Either (Then keyword.With (OptionsRel keyspace)) (Pure None) us y vs → MayWith keyspace us y vs
with_to keyspace _ vs y (one (behind (behind (seq x _ p e)))) = ends (MayWith keyspace) e (s.with_some p)
with_to keyspace us vs y (other e) = ends (MayWith keyspace) e s.with_none

with_from : (keyspace : List ℕ) (us vs : List TokenClass) (y : Option Expr) → MayWith keyspace us y vs → Either (Then keyword.With (OptionsRel keyspace)) (Pure None) us y vs
with_from keyspace us vs y s.with_none = other none_taken
with_from keyspace us vs y (s.with_some g.object_empty) = one (behind (behind (seq _ _ g.object_empty none_taken)))
with_from keyspace us vs y (s.with_some (g.object_pairs p)) = one (behind (behind (seq _ _ (g.object_pairs p) none_taken)))

completes_object : Completes AreObject
completes_object = record { more = Keyword keyword.CloseBrace ∷ []; tree = unresolved.Build [] []; reads = λ us. g.object_empty }

within_options : {n : ℕ} (keyspace : List ℕ) → Within n (up_to 12) (OptionsRel keyspace) (options keyspace)
unfolding options
within_options {n = n} keyspace = within_then keyword.OpenBrace
    (within_seq (within_parsed_object n) (λ x. within_pure (Some (on_document keyspace x))) (λ x. links_pure (tighter_stops 1 12 (omega arith))) (λ x. completes_pure (Some (on_document keyspace x))))
    (completes_seq completes_object (λ x. completes_pure (Some (on_document keyspace x))))

pub within_may_with : {n : ℕ} (keyspace : List ℕ) → Within n (up_to 12) (MayWith keyspace) (may_with keyspace)
unfolding may_with
within_may_with keyspace = within_as {before = up_to 12}
    (within_may keyword.With (within_options keyspace) (within_pure None) (none_or_more (up_to 12) keyword.With refl))
    (with_to keyspace) (λ us vs y q st. (with_from keyspace us vs y q, st))

pub completes_with : (keyspace : List ℕ) → Completes (MayWith keyspace)
completes_with keyspace = record { more = []; tree = None; reads = λ us. s.with_none }

abbrev FilterRel : List ℕ → Rel (Option Expr)
FilterRel keyspace = Seq (IsExpr false) (λ x. Pure (Some (on_document keyspace x)))

where_to : (keyspace : List ℕ) (us vs : List TokenClass) (y : Option Expr) → Either (Then keyword.Where (FilterRel keyspace)) (Pure None) us y vs → MayWhere keyspace us y vs
where_to keyspace _ vs y (one (behind (seq x _ p e))) = ends (MayWhere keyspace) e (s.where_some p)
where_to keyspace us vs y (other e) = ends (MayWhere keyspace) e s.where_none

where_from : (keyspace : List ℕ) (us vs : List TokenClass) (y : Option Expr) → MayWhere keyspace us y vs → Either (Then keyword.Where (FilterRel keyspace)) (Pure None) us y vs
where_from keyspace us vs y s.where_none = other none_taken
where_from keyspace us vs y (s.where_some p) = one (behind (seq _ _ p none_taken))

within_filter : {n : ℕ} (keyspace : List ℕ) → Within n (up_to 10) (FilterRel keyspace) (filter keyspace)
unfolding filter
within_filter {n = n} keyspace =
    within_seq (within_parsed n false) (λ x. within_pure (Some (on_document keyspace x))) (λ x. links_pure (tighter_stops 7 10 (omega arith))) (λ x. completes_pure (Some (on_document keyspace x)))

pub within_may_where : {n : ℕ} (keyspace : List ℕ) → Within n (up_to 10) (MayWhere keyspace) (may_where keyspace)
unfolding may_where
within_may_where keyspace = within_as {before = up_to 10}
    (within_may keyword.Where (within_filter keyspace) (within_pure None) (none_or_more (up_to 10) keyword.Where refl))
    (where_to keyspace) (λ us vs y q st. (where_from keyspace us vs y q, st))

pub completes_where : (keyspace : List ℕ) → Completes (MayWhere keyspace)
completes_where keyspace = record { more = []; tree = None; reads = λ us. s.where_none }

-- What may stand before them.

pub links_with : (keyspace : List ℕ) → Links (up_to 11) (up_to 12) (MayWith keyspace)
links_with keyspace = record { stops = go }
  where
    go : (us vs : List TokenClass) (y : Option Expr) → MayWith keyspace us y vs → Stops (up_to 12) vs → Stops (up_to 11) us
    go us vs y (s.with_some p) st = refl
    go us vs y s.with_none st = stops_less 11 12 (omega arith) us st

pub links_using : Links (up_to 10) (up_to 11) UsingRel
links_using = record { stops = go }
  where
    go : (us vs : List TokenClass) (y : Unit {0}) → UsingRel us y vs → Stops (up_to 11) vs → Stops (up_to 10) us
    go us vs y s.using_gsi st = refl
    go us vs y s.using_none st = stops_less 10 11 (omega arith) us st

-- Keys.

abbrev ArrayKeyRel : List ℕ → Bool → Rel Key
ArrayKeyRel keyspace distinct = Then keyword.Array (Seq (AreEach false) (λ (e : Each). Pure (array_key_of keyspace distinct e.variable e.item e.over e.when)))

abbrev PlainKeyRel : List ℕ → Rel Key
PlainKeyRel keyspace = Seq (IsExpr false) (λ x. Pure (any_key.Plain (on_document keyspace x)))

abbrev KeyRel : List ℕ → Rel Key
KeyRel keyspace = Either (Then keyword.All (ArrayKeyRel keyspace false)) (Either (Then keyword.Distinct (ArrayKeyRel keyspace true)) (PlainKeyRel keyspace))

key_to : (keyspace : List ℕ) (us vs : List TokenClass) (y : Key) → KeyRel keyspace us y vs → IsKey keyspace us y vs
key_to keyspace _ vs y (one (behind (behind (seq parts _ p e)))) = ends (IsKey keyspace) e (s.key_all p)
key_to keyspace _ vs y (other (one (behind (behind (seq parts _ p e))))) = ends (IsKey keyspace) e (s.key_distinct p)
key_to keyspace us vs y (other (other (seq x _ p e))) = ends (IsKey keyspace) e (s.key_plain p)

key_from : (keyspace : List ℕ) (us vs : List TokenClass) (y : Key) → IsKey keyspace us y vs → KeyRel keyspace us y vs
key_from keyspace us vs y (s.key_all {name = name} {item = item} {over = over} {when = when} p) =
    one (behind (behind (seq (record { variable = name; item = item; over = over; when = when }) _ p none_taken)))
key_from keyspace us vs y (s.key_distinct {name = name} {item = item} {over = over} {when = when} p) =
    other (one (behind (behind (seq (record { variable = name; item = item; over = over; when = when }) _ p none_taken))))
key_from keyspace us vs y (s.key_plain p) = other (other (seq _ _ p none_taken))

completes_each : Completes (AreEach false)
completes_each = record {
  more = Num 0 ∷ Keyword keyword.For ∷ Name [] true ∷ Keyword keyword.In ∷ Num 0 ∷ Keyword keyword.End ∷ [];
  tree = record { variable = []; item = zero_const; over = zero_const; when = None };
  reads = λ us. g.each (zero_expr false _) (zero_expr false _) g.when_none;
}

within_array_key : {n : ℕ} (keyspace : List ℕ) (distinct : Bool) → Within n (up_to 7) (ArrayKeyRel keyspace distinct) (array_key keyspace distinct)
unfolding array_key
within_array_key {n = n} keyspace distinct = within_then keyword.Array
    (within_seq (within_parsed_each n) (λ (e : Each). within_pure (array_key_of keyspace distinct e.variable e.item e.over e.when)) (λ e. links_pure (tighter_stops 1 7 (omega arith)))
    (λ (e : Each). completes_pure (array_key_of keyspace distinct e.variable e.item e.over e.when)))
    (completes_seq completes_each (λ (e : Each). completes_pure (array_key_of keyspace distinct e.variable e.item e.over e.when)))

within_plain_key : {n : ℕ} (keyspace : List ℕ) → Within n (up_to 7) (PlainKeyRel keyspace) (plain_key keyspace)
unfolding plain_key
within_plain_key {n = n} keyspace =
    within_seq (within_parsed n false) (λ x. within_pure (any_key.Plain (on_document keyspace x))) (λ x. links_pure (λ t e. e)) (λ x. completes_pure (any_key.Plain (on_document keyspace x)))

no_plain : (keyspace : List ℕ) (us vs : List TokenClass) (y : Key) → PlainKeyRel keyspace (Keyword keyword.Distinct ∷ us) y vs → Stops (up_to 7) vs → ⊥
no_plain keyspace us vs y (seq x _ p e) st = let h : false ≡ true = expr_head p in cc

no_all : (keyspace : List ℕ) (us vs : List TokenClass) (y : Key) → Either (Then keyword.Distinct (ArrayKeyRel keyspace true)) (PlainKeyRel keyspace) (Keyword keyword.All ∷ us) y vs → Stops (up_to 7) vs → ⊥
no_all keyspace us vs y (one r) st = let h : keyword.Distinct ≡ keyword.All = apart keyword.Distinct keyword.All r in cc
no_all keyspace us vs y (other (seq x _ p e)) st = let h : false ≡ true = expr_head p in cc

within_key : {n : ℕ} (keyspace : List ℕ) → Within n (up_to 7) (IsKey keyspace) (key keyspace)
unfolding key
within_key keyspace = within_as {before = up_to 7}
    (within_may keyword.All (within_array_key keyspace false)
    (within_may keyword.Distinct (within_array_key keyspace true) (within_plain_key keyspace) (no_plain keyspace)) (no_all keyspace))
    (key_to keyspace) (λ us vs y q st. (key_from keyspace us vs y q, st))

keys_to : (keyspace : List ℕ) (us vs : List TokenClass) (ys : List Key) → Several (IsKey keyspace) us ys vs → IsKeys keyspace us ys vs
keys_to keyspace us vs _ (single r) = s.keys r s.keys_done
keys_to keyspace us vs _ (further {xs = xs} {us = ws} r q) = s.keys r (s.keys_more (keys_to keyspace ws vs xs q))

keys_back : (keyspace : List ℕ) (us vs : List TokenClass) (ys : List Key) → IsKeys keyspace us ys vs → Several (IsKey keyspace) us ys vs
keys_back keyspace us vs _ (s.keys r s.keys_done) = single r
keys_back keyspace us vs _ (s.keys r (s.keys_more {ks = ks} {ts = ts} q)) = further r (keys_back keyspace ts vs ks q)

keys_are : (keyspace : List ℕ) (n : ℕ) (found : List Key) → keys_from keyspace n found ≡ several_from (key keyspace) n found
unfolding keys_from
keys_are keyspace zero found = refl
keys_are keyspace (suc n) found = λ i ts. and_then (key keyspace ts) (λ k us. and_then (eat keyword.Comma us)
    (λ more. if more then keys_are keyspace n (found ++ k ∷ []) i else (λ vs. got (found ++ k ∷ []) vs)))

no_key : (keyspace : List ℕ) (vs : List TokenClass) (y : Key) → IsKey keyspace [] y vs → ⊥
no_key keyspace vs y (s.key_plain p) = expr_head p

completes_key : (keyspace : List ℕ) → Completes (IsKey keyspace)
completes_key keyspace = let c = completes_at false precedence.Or in
    record { more = c.more; tree = any_key.Plain (on_document keyspace c.tree); reads = λ us. s.key_plain (c.reads us) }

pub within_keys : (n : ℕ) (keyspace : List ℕ) → Within n (up_to 8) (IsKeys keyspace) (keys keyspace)
unfolding keys
within_keys n keyspace = within_as {before = up_to 8} {R = Several (IsKey keyspace)}
    (within_eq (within_several (IsKey keyspace) (key keyspace) (up_to 7) refl (tighter_stops 7 8 (omega arith)) (completes_key keyspace) (no_key keyspace) n (within_key keyspace)) (λ ts. ap (λ (f : Parser (List Key)). f ts) (keys_are keyspace (length ts) [])))
    (keys_to keyspace) (λ us vs ys q st. (keys_back keyspace us vs ys q, st))

pub completes_keys : (keyspace : List ℕ) → Completes (IsKeys keyspace)
completes_keys keyspace = let c = completes_key keyspace in record { more = c.more; tree = c.tree ∷ []; reads = λ us. s.keys (c.reads us) s.keys_done }
