-- The statements on indexes.
use Rattle.std.specs.Prelude.{◌≡◌, ℕ, suc, Bool, false, List, [], ◌∷◌, length, Option, refl}
use Rattle.std.proofs.Common.{◌∙◌, arith}
use Rattle.n1ql_ast.specs.declared.ddl.Ddl.{Ddl}
use Rattle.n1ql_ast.specs.declared.ddl.Ddl.TheVariants as statement
use Rattle.n1ql_ast.specs.declared.expr.Expr.{Expr}
use Rattle.n1ql_ast.specs.declared.key.Key.{Key}
use Rattle.n1ql_ast.specs.declared.token_class.TokenClass.{TokenClass}
use Rattle.n1ql_ast.specs.declared.token_class.TokenClass.TheVariants.{Keyword}
use Rattle.n1ql_ast.specs.declared.keyword.Keyword.TheVariants as keyword
use Rattle.n1ql_ast.specs.Statements as s
use Rattle.n1ql_ast.specs.Statements.{MayName, MayWith, MayWhere, IsKeys, IsNames, IsDdl, primary_index, primary_name}
use Rattle.n1ql_parse.specs.inner.Steps.{Parser, got, and_then, expect}
use Rattle.n1ql_parse.specs.inner.Statements.{may_using, may_with, key_list, create_on, create_index, create_primary, create, name_list, build, remove_on, remove_in, remove_index, remove_primary, remove, statement_parsed}
use Rattle.n1ql_parse.proofs.Reading.Prefixes.{Rel, Stops, Agrees, Within, Completes, Links, Seq, seq, Pure, none_taken, Either, one, other}
use Rattle.n1ql_parse.proofs.Reading.Combined.{ends, regrouped, within_as, within_eq, within_less, within_seq, within_pure, links_pure, links_seq, completes_pure, completes_first, completes_seq}
use Rattle.n1ql_parse.proofs.Reading.Looks.{Then, behind, Worded, worded, within_name, completes_then, completes_name, links_then}
use Rattle.n1ql_parse.proofs.Reading.Precedences.{up_to, tighter_stops}
use Rattle.n1ql_parse.proofs.Reading.Choices.{within_then, within_may}
use Rattle.n1ql_parse.proofs.Reading.Clauses.{UsingRel, apart, within_on, within_keys, completes_keys, within_names, completes_names, within_may_name, completes_may_name, within_may_using, completes_using, links_using, within_may_with, completes_with, links_with, within_may_where, completes_where}

-- something in brackets
abbrev bracketed : {A : Type 0} → Parser A → Parser A
bracketed p ts = and_then (expect keyword.OpenParenthesis ts) (λ _ us. and_then (p us) (λ x vs. and_then (expect keyword.CloseParenthesis vs) (λ _ ws. got x ws)))

bracketed_then : {A B : Type 0} (p : Parser A) (f : A → Parser B) (ts : List TokenClass) → and_then (bracketed p ts) f
    ≡ and_then (expect keyword.OpenParenthesis ts) (λ _ us. and_then (p us) (λ x vs. and_then (expect keyword.CloseParenthesis vs) (λ _ ws. f x ws)))
bracketed_then p f ts =
    regrouped (expect keyword.OpenParenthesis ts) (λ _ us. and_then (p us) (λ x vs. and_then (expect keyword.CloseParenthesis vs) (λ _ ws. got x ws))) f
    ∙ (λ i. and_then (expect keyword.OpenParenthesis ts) (λ _ us.
    (regrouped (p us) (λ x vs. and_then (expect keyword.CloseParenthesis vs) (λ _ ws. got x ws)) f
    ∙ (λ j. and_then (p us) (λ x vs. regrouped (expect keyword.CloseParenthesis vs) (λ _ ws. got x ws) f j))) i))

within_parenthesizeded : {A B : Type 0} {n : ℕ} {goes : TokenClass → Bool} {R : Rel A} {S : A → Rel B} {p : Parser A} {f : A → Parser B} →
    Within n (up_to 8) R p → ((x : A) → Within n goes (S x) (f x)) → Completes R → ((x : A) → Completes (S x)) →
    Within n goes (Then keyword.OpenParenthesis (Seq R (λ x. Then keyword.CloseParenthesis (S x)))) (λ ts. and_then (bracketed p ts) f)
within_parenthesizeded {p = p} {f = f} w v c d = within_eq
    (within_then keyword.OpenParenthesis
    (within_seq w (λ x. within_then keyword.CloseParenthesis (v x) (d x)) (λ x. links_then refl) (λ x. completes_then keyword.CloseParenthesis (d x)))
    (completes_seq c (λ x. completes_then keyword.CloseParenthesis (d x))))
    (bracketed_then p f)

-- How statements end.

abbrev UsingEnd : Ddl → Rel Ddl
UsingEnd d = Seq UsingRel (λ _. Pure d)

abbrev WithEnd : List ℕ → (Option Expr → Ddl) → Rel Ddl
WithEnd keyspace made = Seq (MayWith keyspace) (λ o. Pure (made o))

abbrev UsingWith : List ℕ → (Option Expr → Ddl) → Rel Ddl
UsingWith keyspace made = Seq UsingRel (λ _. WithEnd keyspace made)

completes_using_end : (d : Ddl) → Completes (UsingEnd d)
completes_using_end d = completes_seq completes_using (λ _. completes_pure d)

completes_with_end : (keyspace : List ℕ) (made : Option Expr → Ddl) → Completes (WithEnd keyspace made)
completes_with_end keyspace made = completes_seq (completes_with keyspace) (λ o. completes_pure (made o))

completes_using_with : (keyspace : List ℕ) (made : Option Expr → Ddl) → Completes (UsingWith keyspace made)
completes_using_with keyspace made = completes_seq completes_using (λ _. completes_with_end keyspace made)

links_with_end : (keyspace : List ℕ) (made : Option Expr → Ddl) → Links (up_to 11) (up_to 12) (WithEnd keyspace made)
links_with_end keyspace made = links_seq {between = up_to 12} (links_with keyspace) (λ o. links_pure (λ t e. e))

links_using_with : (keyspace : List ℕ) (made : Option Expr → Ddl) → Links (up_to 10) (up_to 12) (UsingWith keyspace made)
links_using_with keyspace made = links_seq {between = up_to 11} links_using (λ _. links_with_end keyspace made)

within_using_end : {n : ℕ} (d : Ddl) → Within n (up_to 12) (UsingEnd d) (λ ts. and_then (may_using ts) (λ _ us. got d us))
within_using_end d = within_seq within_may_using (λ _. within_pure d) (λ _. links_pure (tighter_stops 11 12 (omega arith))) (λ _. completes_pure d)

within_using_with : {n : ℕ} (keyspace : List ℕ) (made : Option Expr → Ddl) →
    Within n (up_to 12) (UsingWith keyspace made) (λ ts. and_then (may_using ts) (λ _ us. and_then (may_with keyspace us) (λ o vs. got (made o) vs)))
within_using_with keyspace made = within_seq within_may_using
    (λ _. within_seq (within_may_with keyspace) (λ o. within_pure (made o)) (λ o. links_pure (λ t e. e)) (λ o. completes_pure (made o)))
    (λ _. links_with_end keyspace made) (λ _. completes_with_end keyspace made)

-- CREATE INDEX.

abbrev one_index : List ℕ → List ℕ → List Key → Option Expr → Option Expr → Ddl
one_index text keyspace ks condition settings =
    statement.Create (record { name = text; keyspace = keyspace; keys = ks; filter = condition; options = settings; primary = false })

abbrev WhereEnd : List ℕ → List ℕ → List Key → Rel Ddl
WhereEnd text keyspace ks = Seq (MayWhere keyspace) (λ c. UsingWith keyspace (one_index text keyspace ks c))

abbrev CreateOn : List ℕ → List ℕ → Rel Ddl
CreateOn text keyspace = Then keyword.OpenParenthesis (Seq (IsKeys keyspace) (λ ks. Then keyword.CloseParenthesis (WhereEnd text keyspace ks)))

abbrev CreateIndex : Rel Ddl
CreateIndex = Worded (λ v. Then keyword.On (Worded (λ w. CreateOn v.text w.text)))

completes_where_end : (text keyspace : List ℕ) (ks : List Key) → Completes (WhereEnd text keyspace ks)
completes_where_end text keyspace ks = completes_seq (completes_where keyspace) (λ c. completes_using_with keyspace (one_index text keyspace ks c))

completes_create_on : (text keyspace : List ℕ) → Completes (CreateOn text keyspace)
completes_create_on text keyspace =
    completes_then keyword.OpenParenthesis (completes_seq (completes_keys keyspace) (λ ks. completes_then keyword.CloseParenthesis (completes_where_end text keyspace ks)))

completes_create_index : Completes CreateIndex
completes_create_index = completes_name (completes_then keyword.On (completes_name (completes_create_on [] [])))

within_create_on : {n : ℕ} (text keyspace : List ℕ) → Within n (up_to 12) (CreateOn text keyspace) (create_on text keyspace)
unfolding create_on key_list
within_create_on {n = n} text keyspace = within_parenthesizeded (within_keys n keyspace)
    (λ ks. within_seq (within_may_where keyspace) (λ c. within_using_with keyspace (one_index text keyspace ks c))
    (λ c. links_using_with keyspace (one_index text keyspace ks c)) (λ c. completes_using_with keyspace (one_index text keyspace ks c)))
    (completes_keys keyspace) (completes_where_end text keyspace)

within_create_index : {n : ℕ} → Within n (up_to 12) CreateIndex create_index
unfolding create_index
within_create_index {n = n} = within_less (omega arith) (within_name {n = n}
    (λ text. within_on {R = CreateOn text} (within_create_on text) (completes_create_on text []))
    (completes_then keyword.On (completes_name (completes_create_on [] []))))

-- CREATE PRIMARY INDEX.

abbrev one_primary : Option (List ℕ) → List ℕ → Option Expr → Ddl
one_primary text keyspace settings = statement.Create (primary_index text keyspace settings)

abbrev PrimaryOn : Option (List ℕ) → Rel Ddl
PrimaryOn text = Then keyword.On (Worded (λ w. UsingWith w.text (one_primary text w.text)))

abbrev CreatePrimary : Rel Ddl
CreatePrimary = Then keyword.Index (Seq MayName PrimaryOn)

completes_primary_on : (text : Option (List ℕ)) → Completes (PrimaryOn text)
completes_primary_on text = completes_then keyword.On (completes_name (completes_using_with [] (one_primary text [])))

completes_create_primary : Completes CreatePrimary
completes_create_primary = completes_then keyword.Index (completes_seq completes_may_name completes_primary_on)

within_create_primary : {n : ℕ} → Within n (up_to 12) CreatePrimary create_primary
unfolding create_primary
within_create_primary = within_then keyword.Index
    (within_seq within_may_name
    (λ text. within_on {R = λ keyspace. UsingWith keyspace (one_primary text keyspace)} (λ keyspace. within_using_with keyspace (one_primary text keyspace)) (completes_using_with [] (one_primary text [])))
    (λ text. links_then refl) completes_primary_on)
    (completes_seq completes_may_name completes_primary_on)

abbrev CreateRel : Rel Ddl
CreateRel = Either (Then keyword.Primary CreatePrimary) (Then keyword.Index CreateIndex)

no_primary : {R : Rel Ddl} (us vs : List TokenClass) (y : Ddl) → Then keyword.Index R (Keyword keyword.Primary ∷ us) y vs → Stops (up_to 12) vs → ⊥
no_primary us vs y r st = let h : keyword.Index ≡ keyword.Primary = apart keyword.Index keyword.Primary r in cc

within_create : {n : ℕ} → Within n (up_to 12) CreateRel create
unfolding create
within_create = within_may keyword.Primary within_create_primary (within_then keyword.Index within_create_index completes_create_index) no_primary

-- BUILD INDEX.

abbrev BuildOn : List ℕ → Rel Ddl
BuildOn keyspace = Then keyword.OpenParenthesis (Seq IsNames (λ xs. Then keyword.CloseParenthesis (UsingEnd (statement.Build keyspace xs))))

abbrev BuildRel : Rel Ddl
BuildRel = Then keyword.Index (Then keyword.On (Worded (λ w. BuildOn w.text)))

completes_build_on : (keyspace : List ℕ) → Completes (BuildOn keyspace)
completes_build_on keyspace =
    completes_then keyword.OpenParenthesis (completes_seq completes_names (λ xs. completes_then keyword.CloseParenthesis (completes_using_end (statement.Build keyspace xs))))

within_build : {n : ℕ} → Within n (up_to 12) BuildRel build
unfolding build name_list
within_build {n = n} = within_then keyword.Index
    (within_on {R = BuildOn}
    (λ keyspace. within_parenthesizeded (within_names n) (λ xs. within_using_end (statement.Build keyspace xs)) completes_names (λ xs. completes_using_end (statement.Build keyspace xs)))
    (completes_build_on []))
    (completes_then keyword.On (completes_name (completes_build_on [])))

-- DROP INDEX.

abbrev RemoveOn : List ℕ → Rel Ddl
RemoveOn text = Then keyword.On (Worded (λ w. UsingEnd (statement.Remove w.text text)))

abbrev RemoveIn : List ℕ → Rel Ddl
RemoveIn keyspace = Worded (λ w. UsingEnd (statement.Remove keyspace w.text))

abbrev RemoveNamed : List ℕ → Rel Ddl
RemoveNamed text = Either (Then keyword.Dot (RemoveIn text)) (RemoveOn text)

abbrev RemoveIndex : Rel Ddl
RemoveIndex = Worded (λ w. RemoveNamed w.text)

abbrev RemovePrimary : Rel Ddl
RemovePrimary = Then keyword.Index (RemoveOn primary_name)

abbrev RemoveRel : Rel Ddl
RemoveRel = Either (Then keyword.Primary RemovePrimary) (Then keyword.Index RemoveIndex)

completes_remove_on : (text : List ℕ) → Completes (RemoveOn text)
completes_remove_on text = completes_then keyword.On (completes_name (completes_using_end (statement.Remove [] text)))

completes_remove_in : (keyspace : List ℕ) → Completes (RemoveIn keyspace)
completes_remove_in keyspace = completes_name (completes_using_end (statement.Remove keyspace []))

completes_remove_named : (text : List ℕ) → Completes (RemoveNamed text)
completes_remove_named text = completes_first (completes_then keyword.Dot (completes_remove_in text))

within_remove_on : {n : ℕ} (text : List ℕ) → Within n (up_to 12) (RemoveOn text) (remove_on text)
unfolding remove_on
within_remove_on {n = n} text = within_then keyword.On
    (within_less (omega arith) (within_name {n = n} {R = λ keyspace. UsingEnd (statement.Remove keyspace text)} (λ keyspace. within_using_end (statement.Remove keyspace text)) (completes_using_end (statement.Remove [] text))))
    (completes_name (completes_using_end (statement.Remove [] text)))

within_remove_in : {n : ℕ} (keyspace : List ℕ) → Within n (up_to 12) (RemoveIn keyspace) (remove_in keyspace)
unfolding remove_in
within_remove_in {n = n} keyspace =
    within_less (omega arith) (within_name {n = n} {R = λ text. UsingEnd (statement.Remove keyspace text)} (λ text. within_using_end (statement.Remove keyspace text)) (completes_using_end (statement.Remove keyspace [])))

no_dot : (text : List ℕ) (us vs : List TokenClass) (y : Ddl) → RemoveOn text (Keyword keyword.Dot ∷ us) y vs → Stops (up_to 12) vs → ⊥
no_dot text us vs y r st = let h : keyword.On ≡ keyword.Dot = apart keyword.On keyword.Dot r in cc

within_remove_index : {n : ℕ} → Within n (up_to 12) RemoveIndex remove_index
unfolding remove_index
within_remove_index {n = n} = within_less (omega arith) (within_name {n = n} {R = RemoveNamed}
    (λ text. within_may keyword.Dot (within_remove_in text) (within_remove_on text) (no_dot text))
    (completes_remove_named []))

within_remove_primary : {n : ℕ} → Within n (up_to 12) RemovePrimary remove_primary
unfolding remove_primary
within_remove_primary = within_then keyword.Index (within_remove_on primary_name) (completes_remove_on primary_name)

within_remove : {n : ℕ} → Within n (up_to 12) RemoveRel remove
unfolding remove
within_remove = within_may keyword.Primary within_remove_primary
    (within_then keyword.Index within_remove_index (completes_name (completes_remove_named []))) no_primary

-- Every statement.

abbrev StatementRel : Rel Ddl
StatementRel = Either (Then keyword.Create CreateRel) (Either (Then keyword.Build BuildRel) (Then keyword.Drop RemoveRel))

no_build : (us vs : List TokenClass) (y : Ddl) → Then keyword.Drop RemoveRel (Keyword keyword.Build ∷ us) y vs → Stops (up_to 12) vs → ⊥
no_build us vs y r st = let h : keyword.Drop ≡ keyword.Build = apart keyword.Drop keyword.Build r in cc

no_create : (us vs : List TokenClass) (y : Ddl) → Either (Then keyword.Build BuildRel) (Then keyword.Drop RemoveRel) (Keyword keyword.Create ∷ us) y vs → Stops (up_to 12) vs → ⊥
no_create us vs y (one r) st = let h : keyword.Build ≡ keyword.Create = apart keyword.Build keyword.Create r in cc
no_create us vs y (other r) st = let h : keyword.Drop ≡ keyword.Create = apart keyword.Drop keyword.Create r in cc

completes_remove : Completes RemoveRel
completes_remove = completes_first (completes_then keyword.Primary (completes_then keyword.Index (completes_remove_on primary_name)))

within_statement_rel : {n : ℕ} → Within n (up_to 12) StatementRel statement_parsed
unfolding statement_parsed
within_statement_rel = within_may keyword.Create within_create
    (within_may keyword.Build within_build (within_then keyword.Drop within_remove completes_remove) no_build) no_create

statement_to : (us vs : List TokenClass) (y : Ddl) → StatementRel us y vs → IsDdl us y vs
statement_to _ vs y (one (behind (one (behind (behind (seq n _ p (behind (worded (seq u _ q (seq o _ r e)))))))))) = ends IsDdl e (s.ddl_primary p q r)
statement_to _ vs y (one (behind (other (behind (worded (behind (worded (behind (seq ks _ p (behind (seq c _ q (seq u _ r (seq o _ w e))))))))))))) =
    ends IsDdl e (s.ddl_create p q r w)
statement_to _ vs y (other (one (behind (behind (behind (worded (behind (seq xs _ p (behind (seq u _ q e)))))))))) = ends IsDdl e (s.ddl_build p q)
statement_to _ vs y (other (other (behind (one (behind (behind (behind (worded (seq u _ q e))))))))) = ends IsDdl e (s.ddl_drop_primary q)
statement_to _ vs y (other (other (behind (other (behind (worded (one (behind (worded (seq u _ q e)))))))))) = ends IsDdl e (s.ddl_drop_in q)
statement_to _ vs y (other (other (behind (other (behind (worded (other (behind (worded (seq u _ q e)))))))))) = ends IsDdl e (s.ddl_drop q)

statement_from : (us vs : List TokenClass) (y : Ddl) → IsDdl us y vs → StatementRel us y vs
statement_from _ vs y (s.ddl_primary p q r) = one (behind (one (behind (behind (seq _ _ p (behind (worded (seq tt _ q (seq _ _ r none_taken)))))))))
statement_from _ vs y (s.ddl_create p q r w) =
    one (behind (other (behind (worded (behind (worded (behind (seq _ _ p (behind (seq _ _ q (seq tt _ r (seq _ _ w none_taken))))))))))))
statement_from _ vs y (s.ddl_build p q) = other (one (behind (behind (behind (worded (behind (seq _ _ p (behind (seq tt _ q none_taken)))))))))
statement_from _ vs y (s.ddl_drop_primary q) = other (other (behind (one (behind (behind (behind (worded (seq tt _ q none_taken))))))))
statement_from _ vs y (s.ddl_drop_in q) = other (other (behind (other (behind (worded (one (behind (worded (seq tt _ q none_taken)))))))))
statement_from _ vs y (s.ddl_drop q) = other (other (behind (other (behind (worded (other (behind (worded (seq tt _ q none_taken)))))))))

-- what is read at the front of any tokens
pub statement-agrees : (ts : List TokenClass) → Agrees (up_to 12) IsDdl ts (statement_parsed ts)
statement-agrees ts =
    let w : Within (suc (length ts)) (up_to 12) IsDdl statement_parsed
    = within_as {before = up_to 12} within_statement_rel statement_to (λ us vs y q st. (statement_from us vs y q, st)) in
    w.agrees ts (omega arith)
