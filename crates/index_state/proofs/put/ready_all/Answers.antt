use Rattle.std.proofs.Common.{◌≡◌, [], ◌∷◌, ◌++◌, map, sym, ap, ◌∙◌, subst, List}
use Rattle.std.proofs.lemmas.List.{map-append}
use Rattle.std.proofs.lemmas.List.Elements.{All-push}
use Rattle.std.specs.List.{All}
use Rattle.index_state.specs.declared.put.Put.{Put}
use Rattle.index_state.specs.declared.change.Change.{Change}
use Rattle.index_state.specs.inner.Held.{change_of}
use Rattle.index_state.proofs.put.ready_all.Goals as goal

pub loop-change-preserved : goal.loop-change-preserved
loop-change-preserved c =
    let p = c.in_ok-ready.field-0 in (
      ap (map change_of) c.in_ok-push.ensures.items ∙ map-append change_of c.loop-change.puts.items (p ∷ [])
          ∙ ap (λ (cs : List Change). cs ++ change_of p ∷ []) c.loop-change.invariant.0 ∙ ap (λ (one : Change). c.loop-change.yielded ++ one ∷ []) c.in_ok-ready.ensures.same,
      subst (All (λ (x : Put). x.again ≡ x.rows)) (sym {A = List Put} c.in_ok-push.ensures.items) (All-push (λ (x : Put). x.again ≡ x.rows) c.loop-change.puts.items p c.loop-change.invariant.1 c.in_ok-ready.ensures.alike),
    )
