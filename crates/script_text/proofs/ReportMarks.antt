-- The beginning of the line of an event tells the event's mark.
use Rattle.std.proofs.Common.{◌≡◌, ◌≢◌, ℕ, ◌^◌, ◌≤◌, List, [], ◌∷◌, ◌++◌, length, get_or, drop, map, Option, Some, None, refl, sym, ap, ap₂, ◌∙◌, append_assoc, append-nil, decimal, arith}
use Rattle.std.specs.Prelude.{codes, flat_map}
use Rattle.std.specs.List.{AllByRecursion}
use Rattle.vb_store.specs.declared.mutation.Mutation.{Mutation}
use Rattle.scan_history.specs.declared.done.End.{End}
use Rattle.scan_history.specs.declared.why.Why.{Why}
use Rattle.scan_history.specs.declared.why.Why.TheVariants.{Plain, At, Because}
use Rattle.scan_history.specs.Events.{Event, mutate, define, build, online, publish, removed, start, answer, pick, fetch, not_yet, refuse}
use Rattle.scan_history.specs.Marks.{mark_of}
use Rattle.script_text.specs.Lines.{word, member_text, line_of, vector_text}
use Rattle.script_text.specs.Reports.{LineMembers, Beside, refusal_name, event_members, end_line, place_members, reason_members, code_members, row_members, too_large_members}
use Rattle.script_text.proofs.Decimals.{IsDigit, IsWritten, after_decimal, read_decimal}
use Rattle.script_text.proofs.VectorTexts.{read_vector}

-- what a line begins with: a client, maybe behind a place; or the index and the vector of a publication
pub data Head : Type 0 where
  of_client : (c : ℕ) → Head
  of_place : (at c : ℕ) → Head
  of_index : (i : ℕ) → (v : List ℕ) → Head

abbrev head_of : Event → Head
head_of (mutate c k what) = of_client c
head_of (define c k i deferred def) = of_client c
head_of (build c k indexes) = of_client c
head_of (online c k indexes) = of_client c
head_of (publish i at) = of_index i at
head_of (removed c k i) = of_client c
head_of (start c k i demand) = of_client c
head_of (answer c k at) = of_client c
head_of (pick c k at) = of_client c
head_of (fetch c k at fetched) = of_client c
head_of (not_yet c k have) = of_client c
head_of (refuse c k code Plain) = of_client c
head_of (refuse c k code (At at)) = of_place at c
head_of (refuse c k code (Because reason)) = of_client c

abbrev mark_told : Head → Option ℕ × Option (ℕ × List ℕ)
mark_told (of_client c) = (Some c, None)
mark_told (of_place at c) = (Some c, None)
mark_told (of_index i v) = (None, Some (i, v))

marks_told : (e : Event) → mark_told (head_of e) ≡ mark_of e
marks_told (mutate c k what) = refl
marks_told (define c k i deferred def) = refl
marks_told (build c k indexes) = refl
marks_told (online c k indexes) = refl
marks_told (publish i at) = refl
marks_told (removed c k i) = refl
marks_told (start c k i demand) = refl
marks_told (answer c k at) = refl
marks_told (pick c k at) = refl
marks_told (fetch c k at fetched) = refl
marks_told (not_yet c k have) = refl
marks_told (refuse c k code Plain) = refl
marks_told (refuse c k code (At at)) = refl
marks_told (refuse c k code (Because reason)) = refl

-- a line with this beginning, and what stands behind it
abbrev begun : Head → List ℕ → List ℕ
begun (of_client c) t = 123 ∷ (word (codes "c") ++ 58 ∷ (decimal c ++ 44 ∷ t))
begun (of_place at c) t = 123 ∷ (word (codes "at") ++ 58 ∷ (decimal at ++ 44 ∷ (word (codes "c") ++ 58 ∷ (decimal c ++ 44 ∷ t))))
begun (of_index i v) t =
    123 ∷ (word (codes "e") ++ 58 ∷ (word (codes "publish") ++ 44 ∷ (word (codes "i") ++ 58 ∷ (decimal i ++ 44 ∷ (word (codes "v") ++ 58 ∷ (vector_text v ++ 125 ∷ t))))))

-- numbers that are written whole, and a vector of n entries
abbrev IsWrittenHead : ℕ → Head → Type 0
IsWrittenHead n (of_client c) = IsWritten c
IsWrittenHead n (of_place at c) = IsWritten c
IsWrittenHead n (of_index i v) = IsWritten i × (length v ≡ n) × AllByRecursion IsWritten v

-- a comma and a bracket are no digits
comma : IsDigit 44 → ⊥
comma d = omega (arith, d)

read_client : (c d : ℕ) (t u : List ℕ) → IsWritten c → IsWritten d → decimal c ++ 44 ∷ t ≡ decimal d ++ 44 ∷ u
    → mark_told (of_client c) ≡ mark_told (of_client d)
read_client c d t u p q e = ap (λ (x : ℕ). mark_told (of_client x)) (read_decimal c d t u 44 44 p q comma comma e).0

read_index : (n i j : ℕ) (v w t u : List ℕ) → n ≤ 10 ^ 64 → IsWrittenHead n (of_index i v) → IsWrittenHead n (of_index j w)
    → decimal i ++ 44 ∷ (word (codes "v") ++ 58 ∷ (vector_text v ++ 125 ∷ t)) ≡ decimal j ++ 44 ∷ (word (codes "v") ++ 58 ∷ (vector_text w ++ 125 ∷ u))
    → mark_told (of_index i v) ≡ mark_told (of_index j w)
read_index n i j v w t u few p q e =
    let at = read_decimal i j (word (codes "v") ++ 58 ∷ (vector_text v ++ 125 ∷ t)) (word (codes "v") ++ 58 ∷ (vector_text w ++ 125 ∷ u)) 44 44 p.0 q.0 comma comma e in
    let vector = read_vector v w (125 ∷ t) (125 ∷ u) (omega (arith, p.1)) (p.1 ∙ sym q.1) p.2 q.2 (ap (drop 5) at.1) in
    ap₂ (λ (x : ℕ) (y : List ℕ). mark_told (of_index x y)) at.0 vector.0

-- the beginning tells the mark
heads_tell : (n : ℕ) (h g : Head) (t u : List ℕ) → n ≤ 10 ^ 64 → IsWrittenHead n h → IsWrittenHead n g → begun h t ≡ begun g u → mark_told h ≡ mark_told g
heads_tell n (of_client c) (of_client d) t u few p q e = read_client c d t u p q (ap (drop 5) e)
heads_tell n (of_client c) (of_place at d) t u few p q e = absurd (omega (arith, ap (λ l. get_or l 2 0) e))
heads_tell n (of_client c) (of_index i v) t u few p q e = absurd (omega (arith, ap (λ l. get_or l 2 0) e))
heads_tell n (of_place at c) (of_client d) t u few p q e = absurd (omega (arith, ap (λ l. get_or l 2 0) e))
heads_tell n (of_place at c) (of_place place d) t u few p q e =
    let behind = after_decimal at place (word (codes "c") ++ 58 ∷ (decimal c ++ 44 ∷ t)) (word (codes "c") ++ 58 ∷ (decimal d ++ 44 ∷ u)) 44 44 comma comma (ap (drop 6) e) in
    read_client c d t u p q (ap (drop 5) behind.1)
heads_tell n (of_place at c) (of_index i v) t u few p q e = absurd (omega (arith, ap (λ l. get_or l 2 0) e))
heads_tell n (of_index i v) (of_client d) t u few p q e = absurd (omega (arith, ap (λ l. get_or l 2 0) e))
heads_tell n (of_index i v) (of_place at d) t u few p q e = absurd (omega (arith, ap (λ l. get_or l 2 0) e))
heads_tell n (of_index i v) (of_index j w) t u few p q e = read_index n i j v w t u few p q (ap (drop 19) e)

-- the end of a line, from a member on
abbrev from_member : List ℕ × List ℕ → LineMembers → List ℕ → List ℕ
from_member m ms rest = (member_text m ++ flat_map (λ u. 44 ∷ u) (map member_text ms)) ++ 125 ∷ 10 ∷ rest

first_member : (name value : List ℕ) (m : List ℕ × List ℕ) (ms : LineMembers) (rest : List ℕ)
    → line_of ((name, value) ∷ m ∷ ms) ++ rest ≡ 123 ∷ (word name ++ 58 ∷ (value ++ 44 ∷ from_member m ms rest))
first_member name value m ms rest =
    let more : List ℕ = member_text m ++ flat_map (λ u. 44 ∷ u) (map member_text ms) in
    let all : List ℕ = (word name ++ 58 ∷ value) ++ 44 ∷ more in
    ap (λ l. 123 ∷ l)
    (append_assoc (all ++ 125 ∷ []) (10 ∷ []) rest
    ∙ (append_assoc all (125 ∷ []) (10 ∷ rest)
    ∙ (append_assoc (word name ++ 58 ∷ value) (44 ∷ more) (125 ∷ 10 ∷ rest) ∙ append_assoc (word name) (58 ∷ value) (44 ∷ (more ++ 125 ∷ 10 ∷ rest)))))

next_member : (name value : List ℕ) (m : List ℕ × List ℕ) (ms : LineMembers) (rest : List ℕ)
    → from_member (name, value) (m ∷ ms) rest ≡ word name ++ 58 ∷ (value ++ 44 ∷ from_member m ms rest)
next_member name value m ms rest =
    let more : List ℕ = member_text m ++ flat_map (λ u. 44 ∷ u) (map member_text ms) in
    append_assoc (word name ++ 58 ∷ value) (44 ∷ more) (125 ∷ 10 ∷ rest) ∙ append_assoc (word name) (58 ∷ value) (44 ∷ (more ++ 125 ∷ 10 ∷ rest))

last_member : (name value rest : List ℕ) → from_member (name, value) [] rest ≡ word name ++ 58 ∷ (value ++ 125 ∷ 10 ∷ rest)
last_member name value rest =
    ap (λ l. l ++ 125 ∷ 10 ∷ rest) (append-nil (word name ++ 58 ∷ value)) ∙ append_assoc (word name) (58 ∷ value) (125 ∷ 10 ∷ rest)

abbrev Begins : List ℕ → Head → Type 0
Begins line h = (t : List ℕ) × (line ≡ begun h t)

-- a line whose first member is the client
by_client : (members : LineMembers) {m : List ℕ × List ℕ} {ms : LineMembers} (c : ℕ) (rest : List ℕ) → members ≡ (codes "c", decimal c) ∷ m ∷ ms
    → Begins (line_of members ++ rest) (of_client c)
by_client members {m = m} {ms = ms} c rest are = (from_member m ms rest, ap (λ l. line_of l ++ rest) are ∙ first_member (codes "c") (decimal c) m ms rest)

by_place : (members : LineMembers) {m : List ℕ × List ℕ} {ms : LineMembers} (at c : ℕ) (rest : List ℕ) → members ≡ (codes "at", decimal at) ∷ (codes "c", decimal c) ∷ m ∷ ms
    → Begins (line_of members ++ rest) (of_place at c)
by_place members {m = m} {ms = ms} at c rest are = (
  from_member m ms rest,
  ap (λ l. line_of l ++ rest) are ∙ (first_member (codes "at") (decimal at) (codes "c", decimal c) (m ∷ ms) rest
      ∙ ap (λ l. 123 ∷ (word (codes "at") ++ 58 ∷ (decimal at ++ 44 ∷ l))) (next_member (codes "c") (decimal c) m ms rest)),
)

by_index : (i : ℕ) (v rest : List ℕ)
    → Begins (line_of ((codes "e", word (codes "publish")) ∷ (codes "i", decimal i) ∷ (codes "v", vector_text v) ∷ []) ++ rest) (of_index i v)
by_index i v rest = (
  10 ∷ rest,
  first_member (codes "e") (word (codes "publish")) (codes "i", decimal i) ((codes "v", vector_text v) ∷ []) rest
      ∙ ap (λ l. 123 ∷ (word (codes "e") ++ 58 ∷ (word (codes "publish") ++ 44 ∷ l)))
      (next_member (codes "i") (decimal i) (codes "v", vector_text v) [] rest
      ∙ ap (λ l. word (codes "i") ++ 58 ∷ (decimal i ++ 44 ∷ l)) (last_member (codes "v") (vector_text v) rest)),
)

-- an answer, with its rows or without
answer_begins : (rows : Option (List ℕ)) (demand : List ℕ) (c k : ℕ) (at rest : List ℕ)
    → Begins (line_of (event_members (record { rows = rows; demand = demand }) (answer c k at)) ++ rest) (of_client c)
answer_begins None demand c k at rest = by_client (event_members (record { rows = None; demand = demand }) (answer c k at)) c rest refl
answer_begins (Some rows) demand c k at rest = by_client (event_members (record { rows = Some rows; demand = demand }) (answer c k at)) c rest refl

fetch_begins : (rows : Option (List ℕ)) (demand : List ℕ) (c k : ℕ) (at fetched rest : List ℕ)
    → Begins (line_of (event_members (record { rows = rows; demand = demand }) (fetch c k at fetched)) ++ rest) (of_client c)
fetch_begins None demand c k at fetched rest = by_client (event_members (record { rows = None; demand = demand }) (fetch c k at fetched)) c rest refl
fetch_begins (Some rows) demand c k at fetched rest = by_client (event_members (record { rows = Some rows; demand = demand }) (fetch c k at fetched)) c rest refl

line_begins : (b : Beside) (e : Event) (rest : List ℕ) → Begins (line_of (event_members b e) ++ rest) (head_of e)
line_begins b (mutate c k what) rest = by_client (event_members b (mutate c k what)) c rest refl
line_begins b (define c k i deferred def) rest = by_client (event_members b (define c k i deferred def)) c rest refl
line_begins b (build c k indexes) rest = by_client (event_members b (build c k indexes)) c rest refl
line_begins b (online c k indexes) rest = by_client (event_members b (online c k indexes)) c rest refl
line_begins b (publish i at) rest = by_index i at rest
line_begins b (removed c k i) rest = by_client (event_members b (removed c k i)) c rest refl
line_begins b (start c k i demand) rest = by_client (event_members b (start c k i demand)) c rest refl
line_begins b (answer c k at) rest = answer_begins b.rows b.demand c k at rest
line_begins b (pick c k at) rest = by_client (event_members b (pick c k at)) c rest refl
line_begins b (fetch c k at fetched) rest = fetch_begins b.rows b.demand c k at fetched rest
line_begins b (not_yet c k have) rest = by_client (event_members b (not_yet c k have)) c rest refl
line_begins b (refuse c k code Plain) rest = by_client (event_members b (refuse c k code Plain)) c rest refl
line_begins b (refuse c k code (At at)) rest = by_place (event_members b (refuse c k code (At at))) at c rest refl
line_begins b (refuse c k code (Because reason)) rest = by_client (event_members b (refuse c k code (Because reason))) c rest refl

-- no line of an event is the line at the end
no_end : (h : Head) (t : List ℕ) (count : ℕ) (high : List ℕ) (ends : List End) → begun h t ≡ end_line count high ends → ⊥
no_end (of_client c) t count high ends e = omega (arith, ap (λ l. get_or l 2 0) e)
no_end (of_place at c) t count high ends e = omega (arith, ap (λ l. get_or l 2 0) e)
no_end (of_index i v) t count high ends e = omega (arith, ap (λ l. get_or l 6 0) e)

pub is_no_end : (b : Beside) (e : Event) (rest : List ℕ) (count : ℕ) (high : List ℕ) (ends : List End) → line_of (event_members b e) ++ rest ≡ end_line count high ends → ⊥
is_no_end b e rest count high ends same =
    let begins = line_begins b e rest in
    no_end (head_of e) begins.0 count high ends (sym begins.1 ∙ same)

-- an event whose numbers are written whole: those of its mark
abbrev pub IsTold : ℕ → Event → Type 0
IsTold n e = IsWrittenHead n (head_of e)

pub lines_tell : (n : ℕ) (b other : Beside) (e x : Event) (rest more : List ℕ) → n ≤ 10 ^ 64 → IsTold n e → IsTold n x
    → line_of (event_members b e) ++ rest ≡ line_of (event_members other x) ++ more → mark_of e ≡ mark_of x
lines_tell n b other e x rest more few p q same =
    let begins = line_begins b e rest in
    let starts = line_begins other x more in
    sym (marks_told e) ∙ (heads_tell n (head_of e) (head_of x) begins.0 starts.0 few p q (sym begins.1 ∙ (same ∙ starts.1)) ∙ marks_told x)
