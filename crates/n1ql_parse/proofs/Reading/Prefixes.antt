-- What a front of the tokens is to a relation between tokens, what is read of them and what is left.
use Rattle.std.specs.Prelude.{◌≡◌, ℕ, ◌<◌, Bool, false, List, [], ◌∷◌, ◌++◌, length, Option, Some, None}
use Rattle.n1ql_ast.specs.declared.token_class.TokenClass.{TokenClass}
use Rattle.n1ql_parse.specs.inner.Steps.{Outcome, got, stuck, Parser}

-- such a relation
abbrev pub Rel : Type 0 → Type 1
Rel A = List TokenClass → A → List TokenClass → Type 0

-- the token that stands next
abbrev pub next : List TokenClass → Option TokenClass
next [] = None
next (t ∷ ts) = Some t

-- the next token can't go on with what was read
abbrev pub Stops : (TokenClass → Bool) → List TokenClass → Type 0
Stops goes [] = Unit {0}
Stops goes (t ∷ ts) = goes t ≡ false

-- A front was read: the relation reads it before anything, and before anything that has the same next token nothing else is read.
pub record Reads {A : Type 0} (goes : TokenClass → Bool) (R : Rel A) (ts : List TokenClass) (x : A) (rest : List TokenClass) : Type 0 where
  pub front : List TokenClass
  pub is : ts ≡ front ++ rest
  pub sound : (us : List TokenClass) → R (front ++ us) x us
  pub only : (us vs : List TokenClass) (y : A) → next us ≡ next rest → R (front ++ us) y vs → Stops goes vs → (y ≡ x) × (vs ≡ us)

-- A front can be completed to what the relation reads, and with the next token it can't.
pub record Fails {A : Type 0} (goes : TokenClass → Bool) (R : Rel A) (ts : List TokenClass) (left : ℕ) : Type 0 where
  pub front : List TokenClass
  pub rest : List TokenClass
  pub is : ts ≡ front ++ rest
  pub is_left : length rest ≡ left
  pub more : List TokenClass
  pub tree : A
  pub viable : (us : List TokenClass) → R (front ++ (more ++ us)) tree us
  pub dead : (us vs : List TokenClass) (y : A) → next us ≡ next rest → R (front ++ us) y vs → Stops goes vs → ⊥

-- the outcome of a rule on these tokens is what the relation reads of them
abbrev pub Agrees : {A : Type 0} → (TokenClass → Bool) → Rel A → List TokenClass → Outcome A → Type 0
Agrees goes R ts (got x rest) = Reads goes R ts x rest
Agrees goes R ts (stuck left) = Fails goes R ts left

-- a rule agrees on less than n tokens
pub record Within {A : Type 0} (n : ℕ) (goes : TokenClass → Bool) (R : Rel A) (p : Parser A) : Type 0 where
  pub agrees : (ts : List TokenClass) → length ts < n → Agrees goes R ts (p ts)

-- the relation reads something
pub record Completes {A : Type 0} (R : Rel A) : Type 0 where
  pub more : List TokenClass
  pub tree : A
  pub reads : (us : List TokenClass) → R (more ++ us) tree us

-- where the relation reads something, what came before has stopped
pub record Links {A : Type 0} (before after : TokenClass → Bool) (R : Rel A) : Type 0 where
  pub stops : (us vs : List TokenClass) (y : A) → R us y vs → Stops after vs → Stops before us

-- in sequence
pub data Seq {A B : Type 0} (R : Rel A) (S : A → Rel B) (ts : List TokenClass) (y : B) (vs : List TokenClass) : Type 0 where
  seq : (x : A) (us : List TokenClass) → R ts x us → S x us y vs → Seq R S ts y vs

-- nothing is taken
pub data Pure {A : Type 0} (x : A) : (ts : List TokenClass) (y : A) (vs : List TokenClass) → Type 0 where
  none_taken : {ts : List TokenClass} → Pure x ts x ts

-- a token that means something, and then what that calls for
pub data Next {A C : Type 0} (look : TokenClass → Option C) (R : C → Rel A) (ts : List TokenClass) (y : A) (vs : List TokenClass) : Type 0 where
  meant : (t : TokenClass) (c : C) (us : List TokenClass) → ts ≡ t ∷ us → look t ≡ Some c → R c us y vs → Next look R ts y vs

-- one or the other
pub data Either {A : Type 0} (R S : Rel A) (ts : List TokenClass) (y : A) (vs : List TokenClass) : Type 0 where
  one : R ts y vs → Either R S ts y vs
  other : S ts y vs → Either R S ts y vs
