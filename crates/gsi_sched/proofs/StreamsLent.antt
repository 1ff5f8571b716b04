-- An initial stream that was lent is written back.
use Rattle.std.proofs.Common.{◌≡◌, ℕ, Option, Some, Result, Ok, Err, MutBor, sym, ap, ◌∙◌, subst}
use Rattle.std.specs.Prelude.{IsSomeAnd, IfOk, OnSome}
use Rattle.std.specs.FinMap as map
use Rattle.std.specs.Option.{option_copied_mut}
use Rattle.dcp_stream.specs.declared.piece.Piece.{Piece}
use Rattle.dcp_stream.specs.Pieces.{Marked, after_any}
use Rattle.stream_merge.specs.Joined.{Joined}

-- the initial stream of an index, with another in its place
abbrev pub put_initial : ℕ → Marked → Joined → Joined
put_initial i m streams = record streams { initial = map.insert streams.initial i m }

module _ (r : Option (MutBor Marked)) (position : MutBor Marked) (found : Option Marked) (is : r ≡ Some position) (value : option_copied_mut r ≡ found) where
  lent_is : Some position.now ≡ found
  lent_is = sym (ap option_copied_mut is) ∙ value

  -- what holds of the stream that is lent
  pub on_lent : (Q : Marked → Type 0) → Q position.now → IsSomeAnd found Q
  on_lent Q holds = subst (λ o. IsSomeAnd o Q) lent_is holds

  pub of_lent : (Q : Marked → Type 0) → IsSomeAnd found Q → Q position.now
  of_lent Q holds = subst (λ o. IsSomeAnd o Q) (sym lent_is) holds

  pub written_back : (P : Type 0) → OnSome r P → P
  written_back P holds = subst (λ o. OnSome o P) is holds

  -- one that gave its next piece
  pub moved_back : {E : Type 0} (result : Result (Option Piece) E) (i : ℕ) (old new : Joined) (m : Marked) → new ≡ put_initial i m old
      → IfOk result (λ piece. m ≡ after_any piece position.now) → IfOk result (λ piece. IsSomeAnd found (λ x. new ≡ put_initial i (after_any piece x) old))
  moved_back (Ok piece) i old new m back moved =
      on_lent (λ x. new ≡ put_initial i (after_any piece x) old) (back ∙ ap (λ y. put_initial i y old) moved)
  moved_back (Err e) i old new m back moved = tt
