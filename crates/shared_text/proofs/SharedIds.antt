-- Ids of a pool as their trees: two are the same where their trees are.
use Rattle.std.proofs.Common.{◌≡◌, ℕ, ◌+◌, ◌<◌, ◌==◌, Bool, true, false, cond, not, ◌||◌, nat_lt, IsTrue, List, [], ◌∷◌, ◌++◌, length, position, Some, None, refl, ap, ap₂, sym, ◌∙◌, subst, arith}
use Rattle.std.specs.List.{list_any, position_or_len}
use Rattle.std.proofs.lemmas.Bool.{true≢false}
use Rattle.std.proofs.lemmas.Bool.Decides.{nat_tests}
use Rattle.std.proofs.lemmas.List.{length-map}
use Rattle.std.proofs.lemmas.List.Elements.{All-head, All-tail, All-push}
use Rattle.theory.specs.Terms.{Term}
use Rattle.term_pool.specs.Pools.{Pooled, IsWhole, id_place, pool_held}
use Rattle.term_pool.specs.declared.ids.Id.{Id}
use Rattle.term_pool.proofs.Pooling.{only}
use Rattle.term_pool.proofs.Sharing.{same-tree}
use Rattle.shared_text.specs.CodeMeanings.{is_id, trees, AreLive, walked_of}
use Rattle.shared_text.specs.Walks.{Walked}
use Rattle.shared_text.specs.declared.met.Met.{Met}
use Rattle.shared_text.specs.PrintedTerms.{same, is_among, with_term, number_in}
use Rattle.shared_text.proofs.Joined.{same-itself, same-not}

module _ (p : Pooled) (whole : IsWhole p.nodes) where
  abbrev pub tree : Id → Term
  tree id = (pool_held p).tree id

  abbrev pub IsLive : Id → Type 0
  IsLive id = IsTrue ((pool_held p).live id)

  within : (id : Id) → IsLive id → id.at < length p.nodes
  within id live = grind (arith, nat_tests)

  pub same-id : (a b : Id) → IsLive a → IsLive b → is_id a b ≡ same (tree a) (tree b)
  same-id a b la lb = go (a.at == b.at) refl
    where
      go : (t : Bool) → (a.at == b.at) ≡ t → is_id a b ≡ same (tree a) (tree b)
      go true e =
          let is : a.at ≡ b.at = grind (arith, nat_tests) in
          e ∙ sym (subst (λ x. same (tree a) (tree x) ≡ true) (only a b is) (same-itself (tree a)))
      go false e =
          e ∙ sym (same-not (tree a) (tree b) (λ t.
          let is : a.at ≡ b.at = same-tree id_place only p.nodes whole.order whole.distinct a.at b.at (within a la) (within b lb) t in
          true≢false (sym (subst (λ n. (a.at == n) ≡ true) is (itself a.at)) ∙ e)))
        where
          itself : (n : ℕ) → (n == n) ≡ true
          itself n = grind (arith, nat_tests)

  pub any-id : (id : Id) → IsLive id → (ids : List Id) → AreLive p ids → list_any (is_id id) ids ≡ is_among (trees p ids) (tree id)
  any-id id live [] all = refl
  any-id id live (x ∷ ids) all = ap₂ (λ a b. a || b) (same-id id x live (All-head IsLive x ids all)) (any-id id live ids (All-tail IsLive x ids all))

  prefix-id : (id : Id) → IsLive id → (ids : List Id) → AreLive p ids → position_or_len (is_id id) ids ≡ position_or_len (same (tree id)) (trees p ids)
  prefix-id id live [] all = refl
  prefix-id id live (x ∷ ids) all =
      ap₂ (λ a n. cond (not a) (1 + n) 0) (same-id id x live (All-head IsLive x ids all)) (prefix-id id live ids (All-tail IsLive x ids all))

  pub position-id : (id : Id) → IsLive id → (ids : List Id) → AreLive p ids → position (is_id id) ids ≡ number_in (trees p ids) (tree id)
  position-id id live ids all =
      ap₂ (λ n l. cond (nat_lt n l) (Some n) None) (prefix-id id live ids all) (sym (length-map ids tree))

  trees-append : (xs ys : List Id) → trees p (xs ++ ys) ≡ trees p xs ++ trees p ys
  trees-append [] ys = refl
  trees-append (x ∷ xs) ys = ap (λ ts. tree x ∷ ts) (trees-append xs ys)

  pub with-live : (ids : List Id) (id : Id) → AreLive p ids → IsLive id → AreLive p (cond (list_any (is_id id) ids) ids (ids ++ id ∷ []))
  with-live ids id all live = go (list_any (is_id id) ids)
    where
      go : (b : Bool) → AreLive p (cond b ids (ids ++ id ∷ []))
      go true = all
      go false = All-push IsLive ids id all live

  pub with-tree : (ids : List Id) (id : Id) → AreLive p ids → IsLive id → trees p (cond (list_any (is_id id) ids) ids (ids ++ id ∷ [])) ≡ with_term (trees p ids) (tree id)
  with-tree ids id all live =
      go (list_any (is_id id) ids) ∙ ap (λ b. cond b (trees p ids) (trees p ids ++ tree id ∷ [])) (any-id id live ids all)
    where
      go : (b : Bool) → trees p (cond b ids (ids ++ id ∷ [])) ≡ cond b (trees p ids) (trees p ids ++ tree id ∷ [])
      go true = refl
      go false = trees-append ids (id ∷ [])

abbrev pub walked : List Term → List Term → Walked
walked found again = record { found = found; again = again }

pub met-nothing : (p : Pooled) (m : Met) → m.found ≡ [] → m.again ≡ [] → walked_of p m ≡ walked [] []
met-nothing p m found again = ap₂ (λ xs ys. walked (trees p xs) (trees p ys)) found again
