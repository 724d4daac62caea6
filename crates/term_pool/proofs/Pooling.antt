-- The nodes of a pool: each is there once, also after one is added or some are cut off.
use Rattle.std.proofs.Common.{◌≡◌, ◌≢◌, ℕ, ◌<◌, ◌≤◌, ◌⊎◌, inl, inr, Bool, true, false, IsTrue, nat_lt, nat_le, if◌then◌else◌, List, [], ◌∷◌, ◌++◌, length, take, slice_get, slice_index_or, position, Option, Some, None, IfSome, IfNone, is_some, All, refl, sym, ◌∙◌, ap, subst, true≢false, arith}
use Rattle.std.specs.Option.{unwrap_or}
use Rattle.std.specs.List.{list_any}
use Rattle.std.proofs.lemmas.Option.{unwrap_or-slice_get, slice_get-get_or}
use Rattle.std.proofs.lemmas.List.{length_push, length-take}
use Rattle.std.proofs.lemmas.List.Folds.{list_any_at, list_any_none}
use Rattle.std.proofs.lemmas.List.Quantifiers.{position-Some}
use Rattle.std.proofs.lemmas.Bool.Decides.{nat_tests}
use Rattle.theory.specs.Terms as tree
use Rattle.term_pool.specs.declared.facts.Facts.{Facts}
use Rattle.term_pool.specs.declared.ids.Id.{Id}
use Rattle.term_pool.specs.declared.node.Node.{Node}
use Rattle.term_pool.specs.declared.node.Node.TheVariants.{Sort}
use Rattle.term_pool.specs.Nodes.{says, AllPass}
use Rattle.term_pool.specs.Pools.{AreDistinct, IsPool, id_place}
use Rattle.term_pool.specs.Shelves.{facts_of, node_at, tree_at}
use Rattle.term_pool.proofs.Shelving.{tri, at-append, at-last, at-take, tree_at-says, below, is_below, parts-below, shelved-push, shelved-take, shelved-none}
use Rattle.term_pool.proofs.Sharing.{same-node}

module _ {X : Type 0} (test : X → Bool) (d : X) (xs : List X) (x : X) where
  -- an element that is found is there
  found : (i : ℕ) → position test xs ≡ Some i → ((y : X) → test y ≡ true → x ≡ y) → (i < length xs) × (unwrap_or (slice_get xs i) d ≡ x)
  found i h sound =
      let s = position-Some test xs i d h in
      (s.0, unwrap_or-slice_get xs i d ∙ sym (sound (slice_index_or xs i d) s.1))

  -- and one that is not found is nowhere
  pub missing : list_any test xs ≡ false → test x ≡ true → (i : ℕ) → i < length xs → unwrap_or (slice_get xs i) d ≢ x
  missing h whole i less e =
      let here : slice_index_or xs i d ≡ x = sym (unwrap_or-slice_get xs i d) ∙ e in
      true≢false (sym (list_any_at test xs i d less (subst (λ y. test y ≡ true) (sym here) whole)) ∙ h)

  nowhere : ((i : ℕ) → i < length xs → unwrap_or (slice_get xs i) d ≢ x) → ((y : X) → test y ≡ true → x ≡ y) → list_any test xs ≡ false
  nowhere h sound = list_any_none test xs none
    where
      no_test : (k : ℕ) (f : X) → k < length xs → (b : Bool) → test (slice_index_or xs k f) ≡ b → b ≡ false
      no_test k f less false e = refl
      no_test k f less true e =
          absurd (h k less (ap (λ o. unwrap_or o d) (slice_get-get_or xs k f less) ∙ sym (sound (slice_index_or xs k f) e)))

      none : All (λ y. test y ≡ false) xs
      none k f less = no_test k f less (test (slice_index_or xs k f)) refl

  -- a key that is nowhere goes last
  pub new-key : (ys : List X) → ys ≡ (if list_any test xs then xs else xs ++ x ∷ [])
      → ((i : ℕ) → i < length xs → unwrap_or (slice_get xs i) d ≢ x) → ((y : X) → test y ≡ true → x ≡ y) → ys ≡ xs ++ x ∷ []
  new-key ys is h sound = is ∙ ap (λ b. if b then xs else xs ++ x ∷ []) (nowhere h sound)

pub has_room : (cap len : ℕ) → nat_le cap len ≡ false → len < cap
has_room cap len h = grind (arith, nat_tests)

-- what a look-up by a test says, where the test is for x and no other
pub found-place : {X : Type 0} (test : X → Bool) (d : X) (xs : List X) (x : X) (r : Option ℕ) → r ≡ position test xs → ((y : X) → test y ≡ true → x ≡ y)
    → IfSome r (λ i. (i < length xs) × (unwrap_or (slice_get xs i) d ≡ x))
found-place test d xs x None is sound = tt
found-place test d xs x (Some i) is sound = found test d xs x i (sym is) sound

pub no-place : {X : Type 0} (test : X → Bool) (d : X) (xs : List X) (x : X) (r : Option ℕ) → is_some r ≡ list_any test xs → test x ≡ true
    → IfNone r ((i : ℕ) → i < length xs → unwrap_or (slice_get xs i) d ≢ x)
no-place test d xs x None is whole = missing test d xs x (sym is) whole
no-place test d xs x (Some i) is whole = tt

-- ids with one place are one
pub only : (p q : Id) → p.at ≡ q.at → p ≡ q
only p q e = (λ i. record { at = e i })

module _ {I : Type 0} where
  distinct-push : (nodes : List (Node I)) (n : Node I) → AreDistinct nodes → ((i : ℕ) → i < length nodes → node_at nodes i ≢ n)
      → AreDistinct (nodes ++ n ∷ [])
  distinct-push nodes n d new = record { each = λ i j il jl e. go i j (tri i (length nodes)) (tri j (length nodes)) il jl e }
    where
      go : (i j : ℕ) → (i < length nodes) ⊎ ((i ≡ length nodes) ⊎ (length nodes < i)) → (j < length nodes) ⊎ ((j ≡ length nodes) ⊎ (length nodes < j))
          → i < length (nodes ++ n ∷ []) → j < length (nodes ++ n ∷ []) → node_at (nodes ++ n ∷ []) i ≡ node_at (nodes ++ n ∷ []) j → i ≡ j
      go i j (inl a) (inl b) il jl e = d.each i j a b (sym (at-append (Sort 0) nodes (n ∷ []) i a) ∙ (e ∙ at-append (Sort 0) nodes (n ∷ []) j b))
      go i j (inl a) (inr (inl b)) il jl e =
          absurd (new i a (sym (at-append (Sort 0) nodes (n ∷ []) i a) ∙ (e ∙ at-last (Sort 0) nodes n j b)))
      go i j (inr (inl a)) (inl b) il jl e =
          absurd (new j b (sym (at-append (Sort 0) nodes (n ∷ []) j b) ∙ (sym e ∙ at-last (Sort 0) nodes n i a)))
      go i j (inr (inl a)) (inr (inl b)) il jl e = a ∙ sym b
      go i j (inr (inr a)) s il jl e = absurd (omega (arith, a, il, length_push nodes n))
      go i j s (inr (inr b)) il jl e = absurd (omega (arith, b, jl, length_push nodes n))

  distinct-take : (nodes : List (Node I)) (m : ℕ) → AreDistinct nodes → AreDistinct (take m nodes)
  distinct-take nodes m d =
      record {
        each = λ i j il jl e.
            let short = length-take m nodes in
            d.each i j (omega (arith, il, short)) (omega (arith, jl, short))
            (sym (at-take (Sort 0) m nodes i (omega (arith, il, short))) ∙ (e ∙ at-take (Sort 0) m nodes j (omega (arith, jl, short))));
      }

-- no nodes
pub pool-none : (cap : ℕ) → cap ≤ 50000000 → IsPool [] [] cap
pool-none cap h =
    record {
      shelved = shelved-none id_place;
      distinct = record { each = λ i j il jl e. absurd (omega (arith, il)) };
      room = omega arith;
      small = h;
    }

pub pool-take : (nodes : List (Node Id)) (facts : List Facts) (cap m : ℕ) → IsPool nodes facts cap → IsPool (take m nodes) (take m facts) cap
pool-take nodes facts cap m p =
    record {
      shelved = shelved-take id_place nodes facts m p.shelved;
      distinct = distinct-take nodes m p.distinct;
      room = omega (arith, length-take m nodes, p.room);
      small = p.small;
    }

module _ (nodes : List (Node Id)) (facts : List Facts) (cap : ℕ) (p : IsPool nodes facts cap) (n : Node Id)
    (parts : AllPass (λ (q : Id). nat_lt q.at (length nodes)) n) where
  -- a node that is nowhere has a tree that no other node has
  pub new-tree : ((i : ℕ) → i < length nodes → node_at nodes i ≢ n) → (id : Id) → IsTrue (nat_lt id.at (length nodes))
      → tree_at id_place nodes id.at ≢ says (λ (q : Id). tree_at id_place nodes q.at) n
  new-tree new id live e =
      let less = below id.at (length nodes) live in
      new id.at less (
      same-node id_place only nodes p.shelved.order p.distinct n id.at (parts-below id_place nodes n p.shelved.order parts) less e
      )

  -- and the other way round
  pub new-node : ((id : Id) → IsTrue (nat_lt id.at (length nodes)) → tree_at id_place nodes id.at ≢ says (λ (q : Id). tree_at id_place nodes q.at) n)
      → (i : ℕ) → i < length nodes → node_at nodes i ≢ n
  new-node new i less e =
      new (record { at = i }) (is_below i (length nodes) less)
      (tree_at-says id_place nodes p.shelved.order i ∙ ap (says (λ (q : Id). tree_at id_place nodes q.at)) e)

  -- a node that is there stands for what it says
  pub old-node : (id : Id) → id.at < length nodes → node_at nodes id.at ≡ n
      → IsTrue (nat_lt id.at (length nodes)) × (tree_at id_place nodes id.at ≡ says (λ (q : Id). tree_at id_place nodes q.at) n)
      × (tree.height (says (λ (q : Id). tree_at id_place nodes q.at) n) ≤ 2000)
  old-node id less e =
      let is = tree_at-says id_place nodes p.shelved.order id.at ∙ ap (says (λ (q : Id). tree_at id_place nodes q.at)) e in
      (is_below id.at (length nodes) less, is, subst (λ t. tree.height t ≤ 2000) is (p.shelved.low id.at))

  pub pool-push : (f : Facts) → ((i : ℕ) → i < length nodes → node_at nodes i ≢ n) → length nodes < cap
      → f ≡ facts_of (says (λ (q : Id). tree_at id_place nodes q.at) n) → f.height ≤ 2000 → IsPool (nodes ++ n ∷ []) (facts ++ f ∷ []) cap
  pool-push f new room is low =
      record {
        shelved = shelved-push id_place nodes facts n f p.shelved (parts-below id_place nodes n p.shelved.order parts) is low;
        distinct = distinct-push nodes n p.distinct new;
        room = omega (arith, length_push nodes n, room);
        small = p.small;
      }
