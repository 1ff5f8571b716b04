use Rattle.std.proofs.Common.{◌≡◌, ℕ, List, Decides, codes, subst}
use Rattle.std.proofs.lemmas.Slice.Eq.{slice_eq-Decides}
use Rattle.std.proofs.lemmas.Bool.Decides.{Decides-eqb}
use Rattle.gsi_main.proofs.WordLemmas.{one_word}
use Rattle.gsi_main.proofs.replay.is_replay.Goals as goal

pub returns-in-len1 : goal.returns-in-len1
returns-in-len1 c =
    let is : Decides c.eq.result (c.as_str.result.now ≡ codes "replay") = slice_eq-Decides Decides-eqb _ _ _ c.eq.ensures in
    let decides = subst (λ (word : List ℕ). Decides c.eq.result (word ≡ codes "replay")) c.as_str.ensures is in
    one_word c.eq.result c.args.words.now c.word-item.result (codes "replay") c.in-len1.len_at_least c.in-len1.len_below c.word-item.is decides
