-- Maps from keys to lists: what is left without one key, and all lists together in an order.
use Rattle.std.proofs.Common.{◌≡◌, Bool, true, false, cond, not, T, ◌&&◌, List, [], ◌∷◌, ◌++◌, refl, sym, ap, ◌∙◌, Some, None, Option, unwrap_or, map as map_list}
use Rattle.std.specs.Cmp.{IsTotalOrder, tied_itself, eq_by_cmp_equiv, alike_right}
use Rattle.std.specs.FinMap as map
use Rattle.std.specs.FinMap.{IsAntisymmetric}
use Rattle.std.specs.FinMap.Entries.{where_key, find, is_sorted, below_all, is_sorted-where_key, find-where_key, same_entries}
use Rattle.std.specs.List.{flat_map}
use Rattle.std.specs.Option.{option_map_or}
use Rattle.std.specs.Ordering.{is_eq, is_lt, eq_by_cmp}
use Rattle.std.specs.declared.cmp.Ordering.{Ordering}
use Rattle.std.specs.declared.cmp.Ordering.TheVariants.{Less, Equal, Greater}
use Rattle.sorted_lists.specs.SortedLists.{sort_of, with_all}
use Rattle.index_state.specs.inner.Held.{is_empty, full}
use Rattle.sorted_lists.proofs.Exchange.{sort_of-append, with_all-comm}
use Rattle.sorted_lists.proofs.Orderings.{equal_of}

first : (a b : Bool) → T (a && b) → T a
first true b p = tt
first false b p = p

second : (a b : Bool) → T (a && b) → T b
second true b p = p
second false b p = absurd p

less : (o : Ordering) → T (is_lt o) → o ≡ Less
less Less p = refl
less Equal p = absurd p
less Greater p = absurd p

turned : {A : Type 0} (b : Bool) (x y : A) → cond (not b) x y ≡ cond b y x
turned true x y = refl
turned false x y = refl

again : {A : Type 0} (b : Bool) (x y z : A) → cond b x (cond b y z) ≡ cond b x z
again true x y z = refl
again false x y z = refl

module _ {K X : Type 0} {R : K → K → Ordering} (o : IsTotalOrder R) (same : IsAntisymmetric R) where
  -- the entries of other keys
  abbrev others : K → List (K × X) → List (K × X)
  others k es = where_key R (λ x. not (eq_by_cmp R k x)) es

  pub entries-remove : (m : map.FinMap R X) (k : K) → map.entries (map.remove m k) ≡ others k (map.entries m)
  entries-remove m k =
      let sorted = is_sorted-where_key R (λ x. not (eq_by_cmp R k x)) (map.entries m) (map.entries_sorted m) in
      let alike : (q x : K) → R q x ≡ Equal → not (eq_by_cmp R k x) ≡ not (eq_by_cmp R k q) = λ q x t. ap (λ r. not (is_eq r)) (sym (alike_right o q x k t)) in
      let gets : (q : K) → map.get (map.from_sorted {R = R} (others k (map.entries m))) q ≡ map.get (map.remove m k) q =
      λ q. map.get-from_sorted R (others k (map.entries m)) q sorted
      ∙ find-where_key R (λ x. not (eq_by_cmp R k x)) q (alike q) (map.entries m)
      ∙ turned (eq_by_cmp R k q) _ _
      ∙ ap (λ b. cond b None (find R q (map.entries m))) ((eq_by_cmp_equiv o).symm k q)
      ∙ ap (λ v. cond (eq_by_cmp R q k) None v) (sym (map.get-entries m q))
      ∙ sym (map.get-remove o m k q) in
      sym (ap map.entries (map.same_map o same _ _ gets)) ∙ map.entries-from_sorted R (others k (map.entries m)) sorted

  pub remove-insert : (m : map.FinMap R X) (k : K) (v : X) → map.remove (map.insert m k v) k ≡ map.remove m k
  remove-insert m k v =
      map.same_map o same _ _ (λ q. map.get-remove o (map.insert m k v) k q
      ∙ ap (λ w. cond (eq_by_cmp R q k) None w) (map.get-insert o m k v q)
      ∙ again (eq_by_cmp R q k) _ _ _
      ∙ sym (map.get-remove o m k q))

  pub get_same-insert : (m : map.FinMap R X) (k : K) (v : X) → map.get (map.insert m k v) k ≡ Some v
  get_same-insert m k v = map.get-insert o m k v k ∙ ap (λ r. cond (is_eq r) (Some v) (map.get m k)) (tied_itself o k)

  -- a key that ties with one below all others is none of them
  others_of_below : (k x : K) (es : List (K × X)) → R k x ≡ Equal → T (below_all R x es) → others k es ≡ es
  others_of_below k x [] t h = refl
  others_of_below k x (e ∷ es) t h =
      let apart : R k e.0 ≡ Less = o.congr k x e.0 t ∙ less _ (first _ _ h) in
      ap (λ r. cond (not (is_eq r)) (e ∷ others k es) (others k es)) apart ∙ ap (λ l. e ∷ l) (others_of_below k x es t (second _ _ h))

both : (a b : Bool) → T a → T b → T (a && b)
both true b p q = q
both false b p q = absurd p

-- a list, unless it is empty
abbrev pub if_any : {X : Type 0} → List X → Option (List X)
if_any [] = None
if_any (x ∷ xs) = Some (x ∷ xs)

-- Entries whose values are lists, under a total order of the keys that tells different keys apart.
module _ {K Y : Type 0} {R : K → K → Ordering} (o : IsTotalOrder R) (same : IsAntisymmetric R) where
  abbrev pub found : K → List (K × List Y) → List Y
  found q es = unwrap_or (find R q es) []

  abbrev pub pieces : List (K × List Y) → List Y
  pieces es = flat_map (λ e. e.1) es

  pieces-full_at : (k : K) (ys : List Y) (es : List (K × List Y)) → pieces (full es) ≡ pieces es → pieces (full ((k, ys) ∷ es)) ≡ pieces ((k, ys) ∷ es)
  pieces-full_at k [] es rest = rest
  pieces-full_at k (y ∷ ys) es rest = ap (λ l. (y ∷ ys) ++ l) rest

  pub pieces-full : (es : List (K × List Y)) → pieces (full es) ≡ pieces es
  pieces-full [] = refl
  pieces-full (e ∷ es) = pieces-full_at e.0 e.1 es (pieces-full es)

  below_full : (x : K) (es : List (K × List Y)) → T (below_all R x es) → T (below_all R x (full es))
  below_full x [] h = tt
  below_full x (e ∷ es) h =
      let rest = below_full x es (second _ _ h) in
      elim (is_empty e.1) as (λ b. T (below_all R x (cond (not b) (e ∷ full es) (full es)))) [ true ↦ rest | false ↦ both _ _ (first _ _ h) rest ]

  pub is_sorted-full : (es : List (K × List Y)) → T (is_sorted R es) → T (is_sorted R (full es))
  is_sorted-full [] h = tt
  is_sorted-full (e ∷ es) h =
      let rest = is_sorted-full es (second _ _ h) in
      elim (is_empty e.1) as (λ b. T (is_sorted R (cond (not b) (e ∷ full es) (full es)))) [ true ↦ rest | false ↦ both _ _ (below_full e.0 es (first _ _ h)) rest ]

  not_below : (q x : K) (es : List (K × List Y)) → R q x ≡ Equal → T (below_all R x es) → find R q es ≡ None
  not_below q x [] t h = refl
  not_below q x (e ∷ es) t h =
      let apart : R q e.0 ≡ Less = o.congr q x e.0 t ∙ less _ (first _ _ h) in
      ap (λ r. cond (is_eq r) (Some e.1) (find R q es)) apart ∙ not_below q x es t (second _ _ h)

  find-full_at : (q k : K) (ys : List Y) (es : List (K × List Y)) (b : Bool) → eq_by_cmp R q k ≡ b → T (below_all R k es) → find R q (full es) ≡ if_any (found q es)
      → find R q (full ((k, ys) ∷ es)) ≡ if_any (found q ((k, ys) ∷ es))
  find-full_at q k [] es true t h rest = rest ∙ ap (λ v. if_any (unwrap_or v [])) (not_below q k es (equal_of _ t) h) ∙ rw t refl
  find-full_at q k (y ∷ ys) es true t h rest = rw t refl
  find-full_at q k [] es false t h rest = rw t rest
  find-full_at q k (y ∷ ys) es false t h rest = rw t rest

  pub find-full : (q : K) (es : List (K × List Y)) → T (is_sorted R es) → find R q (full es) ≡ if_any (found q es)
  find-full q [] h = refl
  find-full q (e ∷ es) h = find-full_at q e.0 e.1 es (eq_by_cmp R q e.0) refl (first _ _ h) (find-full q es (second _ _ h))

  -- two maps that give the same list at each key have the same lists, but for empty ones
  pub same_pieces : (es fs : List (K × List Y)) → T (is_sorted R es) → T (is_sorted R fs) → ((q : K) → found q es ≡ found q fs) → pieces es ≡ pieces fs
  same_pieces es fs s t is =
      let full_is : full es ≡ full fs = same_entries R o same (full es) (full fs) (is_sorted-full es s) (is_sorted-full fs t) (λ q. find-full q es s ∙ ap if_any (is q) ∙ sym (find-full q fs t)) in
      sym (pieces-full es) ∙ ap pieces full_is ∙ pieces-full fs

  module _ {S : Y → Y → Ordering} (total : IsTotalOrder S) (exact : IsAntisymmetric S) where
    -- the list at one key, put into all others
    pub sort_of-pieces : (k : K) (es : List (K × List Y)) → T (is_sorted R es) → sort_of S (pieces es) ≡ with_all S (found k es) (sort_of S (pieces (others o same k es)))
    sort_of-pieces k [] h = refl
    sort_of-pieces k (e ∷ es) h =
        elim (eq_by_cmp R k e.0) as (λ b. eq_by_cmp R k e.0 ≡ b → sort_of S (pieces (e ∷ es)) ≡ with_all S (unwrap_or (cond b (Some e.1) (find R k es)) []) (sort_of S (pieces (cond (not b) (e ∷ others o same k es) (others o same k es))))) [
          | true ↦ λ t. sort_of-append total exact e.1 (pieces es) ∙ ap (λ l. with_all S e.1 (sort_of S (pieces l))) (sym (others_of_below o same k e.0 es (equal_of _ t) (first _ _ h)))
          | false ↦ λ t. sort_of-append total exact e.1 (pieces es)
              ∙ ap (with_all S e.1) (sort_of-pieces k es (second _ _ h))
              ∙ with_all-comm total exact e.1 (found k es) _
              ∙ ap (with_all S (found k es)) (sym (sort_of-append total exact e.1 (pieces (others o same k es))))
        ] refl

    pub sort_of-entries : (m : map.FinMap R (List Y)) (k : K) → sort_of S (pieces (map.entries m)) ≡ with_all S (unwrap_or (map.get m k) []) (sort_of S (pieces (map.entries (map.remove m k))))
    sort_of-entries m k =
        sort_of-pieces k (map.entries m) (map.entries_sorted m)
        ∙ ap (λ v. with_all S (unwrap_or v []) (sort_of S (pieces (others o same k (map.entries m))))) (sym (map.get-entries m k))
        ∙ ap (λ l. with_all S (unwrap_or (map.get m k) []) (sort_of S (pieces l))) (sym (entries-remove o same m k))

-- Entries by a function of the key and the value.
module _ {K X Y : Type 0} {R : K → K → Ordering} (same : IsAntisymmetric R) (f : K → X → List Y) where
  abbrev pub mapped : List (K × X) → List (K × List Y)
  mapped es = map_list (λ e. (e.0, f e.0 e.1)) es

  below_mapped : (x : K) (es : List (K × X)) → T (below_all R x es) → T (below_all R x (mapped es))
  below_mapped x [] h = tt
  below_mapped x (e ∷ es) h = both _ _ (first _ _ h) (below_mapped x es (second _ _ h))

  pub is_sorted-mapped : (es : List (K × X)) → T (is_sorted R es) → T (is_sorted R (mapped es))
  is_sorted-mapped [] h = tt
  is_sorted-mapped (e ∷ es) h = both _ _ (below_mapped e.0 es (first _ _ h)) (is_sorted-mapped es (second _ _ h))

  pub find-mapped : (q : K) (es : List (K × X)) → unwrap_or (find R q (mapped es)) [] ≡ option_map_or (f q) (find R q es) []
  find-mapped q [] = refl
  find-mapped q (e ∷ es) =
      elim (eq_by_cmp R q e.0) as (λ b. eq_by_cmp R q e.0 ≡ b → unwrap_or (cond b (Some (f e.0 e.1)) (find R q (mapped es))) [] ≡ option_map_or (f q) (cond b (Some e.1) (find R q es)) []) [
        | true ↦ λ t. ap (λ k. f k e.1) (sym (same q e.0 (equal_of _ t)))
        | false ↦ λ t. find-mapped q es
      ] refl

  pub pieces-mapped : (es : List (K × X)) → flat_map (λ e. e.1) (mapped es) ≡ flat_map (λ e. f e.0 e.1) es
  pieces-mapped [] = refl
  pieces-mapped (e ∷ es) = ap (λ l. f e.0 e.1 ++ l) (pieces-mapped es)
