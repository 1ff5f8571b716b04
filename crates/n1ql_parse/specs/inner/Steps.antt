-- What reading from the classes of tokens answers, and the steps that every rule is made of.
use Rattle.std.specs.Prelude.{◌≡◌, ℕ, Bool, true, false, if◌then◌else◌, List, [], ◌∷◌, length, drop, Option, Some, None, Result, Ok, Err, ⊤}
use denote.Enum.Bare.{sameb}
use Rattle.n1ql_ast.specs.contracts.keyword.Keyword.{the_type}
use Rattle.n1ql_ast.specs.declared.token_class.TokenClass.{TokenClass}
use Rattle.n1ql_ast.specs.declared.token_class.TokenClass.TheVariants.{Keyword, Name, Str}
use Rattle.n1ql_ast.specs.declared.keyword.Keyword.{Keyword as AnyKeyword}
use Rattle.n1ql_parse.specs.declared.tokens.parse_stop.ParseStop.{ParseStop}
use Rattle.n1ql_parse.specs.declared.tokens.parse_stop.ParseStop.TheVariants.{Fault, Memory}
use Rattle.n1ql_parse.specs.declared.tokens.word.Word.{Word}

-- What was read and what comes after it, or how many tokens are left from the one on at which no text goes on.
pub data Outcome (A : Type 0) : Type 0 where
  got : (x : A) (rest : List TokenClass) → Outcome A
  stuck : (left : ℕ) → Outcome A

-- what reads from the front of a list
abbrev pub Parser : Type 0 → Type 0
Parser A = List TokenClass → Outcome A

-- what is read behind what was read
abbrev pub and_then : {A B : Type 0} → Outcome A → (A → Parser B) → Outcome B
and_then (got x rest) f = f x rest
and_then (stuck left) f = stuck left

-- one after the other, the second by what the first read
infixl 10 ◌>>=◌
abbrev pub ◌>>=◌ : {A B : Type 0} → Parser A → (A → Parser B) → Parser B
p >>= f = λ ts. and_then (p ts) f

-- one after the other
infixl 10 ◌>>◌
abbrev pub ◌>>◌ : {A B : Type 0} → Parser A → Parser B → Parser B
p >> q = p >>= (λ _. q)

-- reads nothing
abbrev pub pure : {A : Type 0} → A → Parser A
pure x = λ ts. got x ts

-- what is made of what was read
infixr 11 ◌<$>◌
abbrev pub ◌<$>◌ : {A B : Type 0} → (A → B) → Parser A → Parser B
f <$> p = p >>= (λ x. pure (f x))

-- no text goes on here
abbrev pub fail : {A : Type 0} → Parser A
fail = λ ts. stuck (length ts)

-- nothing is left
abbrev pub end_of : List TokenClass → Outcome (Unit {0})
end_of [] = got tt []
end_of (t ∷ ts) = stuck (length (t ∷ ts))

-- the end of the list
abbrev pub end : Parser (Unit {0})
end = end_of

-- takes the next token, whatever it is
abbrev pub skip : Parser (Unit {0})
skip = λ ts. got tt (drop 1 ts)

-- two keywords are the same
unfoldable pub same_keyword : AnyKeyword → AnyKeyword → Bool
same_keyword = sameb the_type

-- the next token is this keyword
abbrev pub sees : AnyKeyword → List TokenClass → Bool
sees m (Keyword n ∷ ts) = same_keyword n m
sees m _ = false

-- takes this keyword where it comes next, and tells whether it did
abbrev pub eat : AnyKeyword → Parser Bool
eat m = λ ts. if sees m ts then got true (drop 1 ts) else got false ts

-- takes this keyword
abbrev pub expect : AnyKeyword → Parser (Unit {0})
expect m = λ ts. if sees m ts then got tt (drop 1 ts) else stuck (length ts)

-- the name at the front
abbrev pub word_of : List TokenClass → Outcome Word
word_of (Name text quoted ∷ ts) = got (record { text = text; quoted = quoted }) ts
word_of ts = stuck (length ts)

-- takes a name with its backquotes, if it has some
abbrev pub word : Parser Word
word = word_of

-- takes a name
abbrev pub name : Parser (List ℕ)
name = (λ w. w.text) <$> word

-- the string at the front
abbrev pub string_of : List TokenClass → Outcome (List ℕ)
string_of (Str text ∷ ts) = got text ts
string_of ts = stuck (length ts)

-- takes a string
abbrev pub string : Parser (List ℕ)
string = string_of

-- goes on by what there is
abbrev pub if_some : {A B : Type 0} → Option A → (A → Parser B) → Parser B → Parser B
if_some (Some x) f p = f x
if_some None f p = p

-- what a function that reads ensures: the outcome, unless memory ran out
abbrev pub Gives : {A : Type 0} → Outcome A → Result A ParseStop → List TokenClass → Type 0
Gives outcome (Ok x) rest = outcome ≡ got x rest
Gives outcome (Err (Fault left)) rest = outcome ≡ stuck left
Gives outcome (Err Memory) rest = ⊤
