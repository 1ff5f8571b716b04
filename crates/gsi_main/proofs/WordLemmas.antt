-- A list of one word.
use Rattle.std.proofs.Common.{◌≡◌, ℕ, ◌<◌, ◌≤◌, ◌↔◌, List, [], ◌∷◌, Bool, IsTrue, Decides, length, get_or, sym, ap, ◌∙◌, arith}

pub one_word : (r : Bool) (words : List (List ℕ)) (word wanted : List ℕ) → 1 ≤ length words → length words < 2
    → word ≡ get_or words 0 word → Decides r (word ≡ wanted) → IsTrue r ↔ (words ≡ wanted ∷ [])
one_word r [] word wanted low high is d = absurd (omega arith)
one_word r (x ∷ []) word wanted low high is d = (λ t. ap (λ w. w ∷ []) (sym is ∙ d.0 t), λ e. let same : x ≡ wanted = cc in d.1 (is ∙ same))
one_word r (x ∷ y ∷ words) word wanted low high is d = absurd (omega arith)
