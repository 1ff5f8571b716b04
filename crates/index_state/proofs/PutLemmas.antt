-- Puts, one behind the other.
use Rattle.std.proofs.Common.{◌≡◌, ℕ, ◌+◌, ◌<◌, List, [], ◌∷◌, ◌++◌, map, take, length, get_or, sym, ap, ◌∙◌, subst, arith}
use Rattle.std.proofs.lemmas.List.{map-append, take_more}
use Rattle.std.proofs.lemmas.List.Elements.{All-push}
use Rattle.std.proofs.lemmas.List.Sums.{fold-append}
use Rattle.std.specs.List.{All}
use Rattle.index_state.specs.declared.change.Change.{Change}
use Rattle.index_state.specs.declared.put.Put.{Put}
use Rattle.index_state.specs.RowsById.{RowsById, with_rows, with_changes}
use Rattle.index_state.specs.inner.Held.{change_of, count_in}

count_in-push : (ps : List Put) (p : Put) → count_in (ps ++ p ∷ []) ≡ count_in ps + length p.again
count_in-push [] p = omega arith
count_in-push (x ∷ ps) p = let rest = count_in-push ps p in omega arith

pub count_in-more : (ps : List Put) (i : ℕ) (p : Put) → i < length ps → p ≡ get_or ps i p → count_in (take (i + 1) ps) ≡ count_in (take i ps) + length p.again
count_in-more ps i p h at =
    ap count_in (take_more ps i p h ∙ ap (λ (last : Put). take i ps ++ last ∷ []) (sym at)) ∙ count_in-push (take i ps) p

pub with_changes-push : (ps : List Put) (p : Put) (held : RowsById) → with_changes (map change_of (ps ++ p ∷ [])) held ≡ with_rows (with_changes (map change_of ps) held) p.id p.rows
with_changes-push ps p held =
    ap (λ cs. with_changes cs held) (map-append change_of ps (p ∷ []))
    ∙ fold-append (λ (rows : RowsById) (c : Change). with_rows rows c.id c.rows) held (map change_of ps) (change_of p ∷ [])

pub All-more : (P : Put → Type 0) (ps : List Put) (i : ℕ) (p : Put) → i < length ps → p ≡ get_or ps i p → All P (take i ps) → P p → All P (take (i + 1) ps)
All-more P ps i p h at all one =
    subst (All P) (ap (λ (last : Put). take i ps ++ last ∷ []) at ∙ sym (take_more ps i p h)) (All-push P (take i ps) p all one)
