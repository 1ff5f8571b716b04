-- What the lines say, line by line.
use Rattle.std.proofs.Common.{◌≡◌, ℕ, suc, List, [], ◌∷◌, ◌++◌, length, Result, Ok, Err, refl, sym, ap, ap₂, ◌∙◌, append_assoc}
use Rattle.scan_history.specs.declared.kind.Kind.{Kind}
use Rattle.script_text.specs.declared.reader.script.item.Item.{Item}
use Rattle.script_text.specs.declared.reader.format.sizes.Sizes.{Sizes}
use Rattle.script_text.specs.Items.{item_of_line}
use Rattle.script_text.specs.Scripts.{ahead, and_then_lines, items_from}

ahead-none : (r : Result (List Item) (ℕ × Kind)) → r ≡ ahead [] r
ahead-none (Ok items) = refl
ahead-none (Err line) = refl

-- nothing yet
pub items_from-first : (sizes : Sizes) (lines left : List (ℕ × List ℕ)) (items : List Item) → items ≡ [] → left ≡ lines → items_from sizes lines ≡ ahead items (items_from sizes left)
items_from-first sizes lines left items none all =
    ahead-none (items_from sizes lines)
    ∙ ap₂ (λ (is : List Item) (ls : List (ℕ × List ℕ)). ahead is (items_from sizes ls)) (sym none) (sym all)

-- one more item behind those that are done
ahead-more : (done : List Item) (item : Item) (others : Result (List Item) (ℕ × Kind)) → ahead done (ahead (item ∷ []) others) ≡ ahead (done ++ item ∷ []) others
ahead-more done item (Ok items) = ap Ok (sym (append_assoc done (item ∷ []) items))
ahead-more done item (Err line) = refl

-- one turn over the lines
pub items_from-turn : (whole : Result (List Item) (ℕ × Kind)) (sizes : Sizes) (done new : List Item) (line : ℕ × List ℕ) (left lines : List (ℕ × List ℕ)) (item : Item)
    → whole ≡ ahead done (items_from sizes left) → left ≡ line ∷ lines → item_of_line sizes line.1 ≡ Ok item
    → new ≡ done ++ item ∷ [] → whole ≡ ahead new (items_from sizes lines)
items_from-turn whole sizes done new line left lines item e steps says push =
    e ∙ (ap (λ (ls : List (ℕ × List ℕ)). ahead done (items_from sizes ls)) steps
    ∙ (ap (λ (r : Result Item Kind). ahead done (and_then_lines line.0 r (items_from sizes lines))) says
    ∙ (ahead-more done item (items_from sizes lines)
    ∙ ap (λ (is : List Item). ahead is (items_from sizes lines)) (sym push))))

-- as many items as lines
length-ahead : (item : Item) (n : ℕ) (others : Result (List Item) (ℕ × Kind)) → ((items : List Item) → others ≡ Ok items → length items ≡ n)
    → (items : List Item) → ahead (item ∷ []) others ≡ Ok items → length items ≡ suc n
length-ahead item n (Ok others) count items e =
    let all : item ∷ others ≡ items = cc in
    ap length (sym all) ∙ ap suc (count others refl)
length-ahead item n (Err line) count items e = absurd (cc)

length-line : (number n : ℕ) (r : Result Item Kind) (after : Result (List Item) (ℕ × Kind)) → ((items : List Item) → after ≡ Ok items → length items ≡ n)
    → (items : List Item) → and_then_lines number r after ≡ Ok items → length items ≡ suc n
length-line number n (Ok item) after count items e = length-ahead item n after count items e
length-line number n (Err kind) after count items e = absurd (cc)

pub items_from-length : (sizes : Sizes) (lines : List (ℕ × List ℕ)) (items : List Item) → items_from sizes lines ≡ Ok items → length items ≡ length lines
items_from-length sizes [] items e =
    let none : [] ≡ items = cc in
    ap length (sym none)
items_from-length sizes (line ∷ lines) items e =
    length-line line.0 (length lines) (item_of_line sizes line.1) (items_from sizes lines) (items_from-length sizes lines) items e
