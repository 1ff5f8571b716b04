use Rattle.std.proofs.Common.{◌≡◌, ◌++◌, ◌∷◌, [], List, ℕ, Some, cond, length, get_or, set, refl, ap, sym, ◌∙◌, arith, map}
use Rattle.std.specs.Str.{bytes_eq}
use Rattle.std.specs.String.{string_bytes}
use Rattle.std.specs.BTreeMap.{get_by_text}
use Rattle.std.specs.Option.{option_map}
use Rattle.std.proofs.lemmas.Grind.{common_steps}
use Rattle.std.proofs.lemmas.List.{map-append}
use Rattle.std.proofs.lemmas.Map.Text.{btree_map_updates_text}
use Rattle.std.specs.Arc.{arc_value}
use Rattle.vb_store.specs.Mutations.{next_mutation}
use Rattle.vb_store.specs.inner.Held.{IsKept, lists_of}
use Rattle.vb_store.proofs.Keeping.{kept_push_at, mapped_cond, IsNext-next_mutation, next_mutation-within}
use Rattle.vb_store.proofs.store.VbStore.append.Goals as goal

kept : (c : goal.After-set) → IsKept (length c.set.new.self) (map arc_value c.push.new.self.items) (lists_of c.push_reserved.new.lists.items) c.set.new.self (λ id. option_map arc_value (get_by_text c.insert.new.self id))
kept c =
    let n = length c.self.inside.high in
    let log = map arc_value c.self.inside.log.items in
    let lists = lists_of c.self.inside.by_vbucket.items in
    let m = c.next_mutation-next.result in
    let is : m ≡ next_mutation n log c.args.id c.args.body = c.next_mutation-next.ensures ∙ ap (λ s. next_mutation s.vbuckets s.log c.args.id c.args.body) (sym c.self.view_is) in
    let shared : arc_value c.in_ok-mutation.mutation ≡ m = c.in_ok-mutation.ensures.ok in
    let pushed : c.push.new.self.items ≡ c.self.inside.log.items ++ c.in_ok-in_log.in_log ∷ [] = grind (arith, common_steps) in
    let logged : map arc_value c.push.new.self.items ≡ log ++ m ∷ [] =
    ap (map arc_value) pushed ∙ map-append arc_value c.self.inside.log.items (c.in_ok-in_log.in_log ∷ []) ∙ ap (λ x. log ++ x ∷ []) (c.in_ok-in_log.ensures ∙ shared) in
    let listed : lists_of c.push_reserved.new.lists.items ≡ set lists m.vb (get_or lists m.vb [] ++ m ∷ []) =
    c.push_reserved.ensures ∙ ap (λ ls. set ls m.vb (get_or ls m.vb [] ++ arc_value c.in_ok-in_vbucket.in_vbucket ∷ [])) c.reserve_in.ensures.same
    ∙ ap (λ x. set lists m.vb (get_or lists m.vb [] ++ x ∷ [])) (c.in_ok-in_vbucket.ensures ∙ shared) in
    let found : (id : List ℕ) → option_map arc_value (get_by_text c.insert.new.self id) ≡ cond (bytes_eq m.id id) (Some m) (option_map arc_value (get_by_text c.self.inside.last id)) = λ id.
    let key : string_bytes c.in_ok-key.key ≡ m.id = c.in_ok-key.ensures.ok ∙ c.as_str.ensures in
    let last : arc_value c.in_ok-as_last.as_last ≡ m = c.in_ok-as_last.ensures ∙ shared in
    let older = option_map arc_value (get_by_text c.self.inside.last id) in
    ap (option_map arc_value) (btree_map_updates_text (string_bytes c.in_ok-key.key) c.self.inside.last c.insert.new.self (Some c.in_ok-as_last.as_last) c.in_ok-insert.ensures.updates id)
    ∙ mapped_cond arc_value (bytes_eq (string_bytes c.in_ok-key.key) id) c.in_ok-as_last.as_last (get_by_text c.self.inside.last id)
    ∙ ap (λ k. cond (bytes_eq k id) (Some (arc_value c.in_ok-as_last.as_last)) older) key ∙ ap (λ x. cond (bytes_eq m.id id) (Some x) older) last in
    kept_push_at n (length c.set.new.self) log (map arc_value c.push.new.self.items) lists (lists_of c.push_reserved.new.lists.items) c.self.inside.high c.set.new.self
    (λ id. option_map arc_value (get_by_text c.self.inside.last id)) (λ id. option_map arc_value (get_by_text c.insert.new.self id)) m c.self.invariant
    (IsNext-next_mutation n log c.args.id c.args.body m is) (next_mutation-within n log c.args.id c.args.body m is c.self.invariant.some) refl refl logged listed c.set.ensures found

pub invariant_of-self-2 : goal.invariant_of-self-2
invariant_of-self-2 c = kept c

pub returns-clause-numbered : goal.returns-clause-numbered
returns-clause-numbered c = (kept c).numbered
