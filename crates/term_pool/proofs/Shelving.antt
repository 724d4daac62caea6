-- Trees of nodes in a list: they are what the nodes say, and adding nodes at the end or cutting them off changes no other tree.
use Rattle.std.proofs.Common.{◌≡◌, ℕ, zero, suc, Bool, nat_lt, IsTrue, ◌<◌, ◌≤◌, min, ◌⊎◌, inl, inr, List, [], ◌∷◌, ◌++◌, length, take, slice_get, Option, None, refl, sym, ◌∙◌, ap, ap₂, subst, arith}
use Rattle.std.specs.Option.{unwrap_or}
use Rattle.std.proofs.lemmas.Option.{slice_get_past}
use Rattle.std.proofs.lemmas.List.{length_push, length-take}
use Rattle.theory.proofs.Lists.{slice_get-append, slice_get-last}
use Rattle.theory.specs.Terms as tree
use Rattle.term_pool.specs.declared.node.Node.{Node}
use Rattle.term_pool.specs.declared.node.Node.TheVariants.{Var, Sort, Pi, Lam, App, Let}
use Rattle.term_pool.specs.declared.facts.Facts.{Facts}
use Rattle.std.proofs.lemmas.Bool.Decides.{nat_tests}
use Rattle.term_pool.specs.declared.row.Key.{Key}
use Rattle.term_pool.specs.declared.row.Row.{Row}
use Rattle.term_pool.specs.Held.{Extends, AddsParts}
use Rattle.term_pool.specs.Nodes.{says, AllParts, AllPass}
use Rattle.term_pool.specs.Parts.{IsPart}
use Rattle.term_pool.specs.NodeFacts.{node_facts, AreLow}
use Rattle.term_pool.specs.Shelves.{facts_of, fact_at, node_at, tree_within, tree_at, AreInOrder, AreShelved, shelf_held}

pub tri : (i n : ℕ) → (i < n) ⊎ ((i ≡ n) ⊎ (n < i))
tri zero zero = inr (inl refl)
tri zero (suc n) = inl (omega arith)
tri (suc i) zero = inr (inr (omega arith))
tri (suc i) (suc n) =
    elim (tri i n) [
      | inl l ↦ inl (omega (arith, l))
      | inr r ↦ elim r [ inl e ↦ inr (inl (ap suc e)) | inr g ↦ inr (inr (omega (arith, g))) ]
    ]

from_there : (i n : ℕ) → (i ≡ n) ⊎ (n < i) → n ≤ i
from_there i n (inl e) = omega (arith, e)
from_there i n (inr l) = omega (arith, l)

pub below : (a b : ℕ) → IsTrue (nat_lt a b) → a < b
below a b h = grind (arith, nat_tests)

pub is_below : (a b : ℕ) → a < b → IsTrue (nat_lt a b)
is_below a b h = grind (arith, nat_tests)

-- a tree is a part of itself
pub part-self : (t : tree.Term) → IsPart t t
part-self (tree.Pi a b) = inl refl
part-self (tree.Lam a b) = inl refl
part-self (tree.App a b) = inl refl
part-self (tree.Let a t b) = inl refl
part-self _ = refl

-- elements by place
module _ {X : Type 0} where
  pub at-append : (d : X) (xs ys : List X) (i : ℕ) → i < length xs → unwrap_or (slice_get (xs ++ ys) i) d ≡ unwrap_or (slice_get xs i) d
  at-append d xs ys i h = ap (λ o. unwrap_or o d) (slice_get-append xs ys i h)

  pub at-last : (d : X) (xs : List X) (x : X) (i : ℕ) → i ≡ length xs → unwrap_or (slice_get (xs ++ x ∷ []) i) d ≡ x
  at-last d xs x i e = ap (λ j. unwrap_or (slice_get (xs ++ x ∷ []) j) d) e ∙ ap (λ o. unwrap_or o d) (slice_get-last xs x)

  pub at-past : (d : X) (xs : List X) (i : ℕ) → length xs ≤ i → unwrap_or (slice_get xs i) d ≡ d
  at-past d xs i h = ap (λ o. unwrap_or o d) (slice_get_past xs i h)

  slice_get-take_before : (n : ℕ) (xs : List X) (i : ℕ) → i < n → slice_get (take n xs) i ≡ slice_get xs i
  slice_get-take_before zero xs i h = grind arith
  slice_get-take_before (suc n) [] i h = refl
  slice_get-take_before (suc n) (x ∷ xs) zero h = refl
  slice_get-take_before (suc n) (x ∷ xs) (suc i) h = slice_get-take_before n xs i (omega arith)

  slice_get-take_behind : (n : ℕ) (xs : List X) (i : ℕ) → n ≤ i → slice_get (take n xs) i ≡ None
  slice_get-take_behind zero xs i h = refl
  slice_get-take_behind (suc n) [] i h = refl
  slice_get-take_behind (suc n) (x ∷ xs) zero h = grind arith
  slice_get-take_behind (suc n) (x ∷ xs) (suc i) h = slice_get-take_behind n xs i (omega arith)

  pub at-take : (d : X) (n : ℕ) (xs : List X) (i : ℕ) → i < n → unwrap_or (slice_get (take n xs) i) d ≡ unwrap_or (slice_get xs i) d
  at-take d n xs i h = ap (λ o. unwrap_or o d) (slice_get-take_before n xs i h)

  pub at-cut : (d : X) (n : ℕ) (xs : List X) (i : ℕ) → n ≤ i → unwrap_or (slice_get (take n xs) i) d ≡ d
  at-cut d n xs i h = ap (λ o. unwrap_or o d) (slice_get-take_behind n xs i h)

module _ {I : Type 0} where
  pub says-ext : (f g : I → tree.Term) (n : Node I) → AllParts (λ p. f p ≡ g p) n → says f n ≡ says g n
  says-ext f g (Pi a b) h = ap₂ tree.Pi h.0 h.1
  says-ext f g (Lam a b) h = ap₂ tree.Lam h.0 h.1
  says-ext f g (App a b) h = ap₂ tree.App h.0 h.1
  says-ext f g (Let a t b) h = (λ i. tree.Let (h.0 i) (h.1 i) (h.2 i))
  says-ext f g _ h = refl

  pub parts-map : (P Q : I → Type 0) (n : Node I) → ((p : I) → P p → Q p) → AllParts P n → AllParts Q n
  parts-map P Q (Pi a b) k h = (k a h.0, k b h.1)
  parts-map P Q (Lam a b) k h = (k a h.0, k b h.1)
  parts-map P Q (App a b) k h = (k a h.0, k b h.1)
  parts-map P Q (Let a t b) k h = (k a h.0, k t h.1, k b h.2)
  parts-map P Q _ k h = tt

  -- what is kept of the parts makes what is kept of the whole
  pub facts-says : (f : I → tree.Term) (n : Node I) → node_facts (λ p. facts_of (f p)) n ≡ facts_of (says f n)
  facts-says f (Var m) = refl
  facts-says f (Sort i) = refl
  facts-says f (Pi a b) = refl
  facts-says f (Lam a b) = refl
  facts-says f (App a b) = refl
  facts-says f (Let a t b) = refl
  facts-says f _ = refl

  node_facts-ext : (f g : I → Facts) (n : Node I) → ((p : I) → f p ≡ g p) → node_facts f n ≡ node_facts g n
  node_facts-ext f g n h = (λ i. node_facts (λ p. h p i) n)

  module _ (place : I → ℕ) where
    -- to follow parts more often than there are places before changes nothing
    within-enough : (nodes : List (Node I)) → AreInOrder place nodes → (k j i : ℕ) → i < k → i < j
        → tree_within place nodes k i ≡ tree_within place nodes j i
    within-enough nodes o zero j i ik ij = grind arith
    within-enough nodes o (suc k) zero i ik ij = grind arith
    within-enough nodes o (suc k) (suc j) i ik ij =
        says-ext (λ p. tree_within place nodes k (place p)) (λ p. tree_within place nodes j (place p)) (node_at nodes i)
        (parts-map (λ p. place p < i) (λ p. tree_within place nodes k (place p) ≡ tree_within place nodes j (place p)) (node_at nodes i)
        (λ p less. within-enough nodes o k j (place p) (omega arith) (omega arith)) (o.each i))

    -- the tree at a place is what its node says
    pub tree_at-says : (nodes : List (Node I)) → AreInOrder place nodes → (i : ℕ)
        → tree_at place nodes i ≡ says (λ p. tree_at place nodes (place p)) (node_at nodes i)
    unfolding tree_at
    tree_at-says nodes o i =
        says-ext (λ p. tree_within place nodes i (place p)) (λ p. tree_within place nodes (suc (place p)) (place p)) (node_at nodes i)
        (parts-map (λ p. place p < i) (λ p. tree_within place nodes i (place p) ≡ tree_within place nodes (suc (place p)) (place p)) (node_at nodes i)
        (λ p less. within-enough nodes o i (suc (place p)) (place p) less (omega arith)) (o.each i))

    within-agree : (nodes nodes' : List (Node I)) (m : ℕ) → AreInOrder place nodes
        → ((i : ℕ) → i < m → node_at nodes' i ≡ node_at nodes i) → (k i : ℕ) → i < m
        → tree_within place nodes' k i ≡ tree_within place nodes k i
    within-agree nodes nodes' m o same zero i less = refl
    within-agree nodes nodes' m o same (suc k) i less =
        ap (says (λ p. tree_within place nodes' k (place p))) (same i less)
        ∙ says-ext (λ p. tree_within place nodes' k (place p)) (λ p. tree_within place nodes k (place p)) (node_at nodes i)
        (parts-map (λ p. place p < i) (λ p. tree_within place nodes' k (place p) ≡ tree_within place nodes k (place p)) (node_at nodes i)
        (λ p before. within-agree nodes nodes' m o same k (place p) (omega arith)) (o.each i))

    -- lists with the same nodes before a place have the same trees there
    tree_at-agree : (nodes nodes' : List (Node I)) (m : ℕ) → AreInOrder place nodes
        → ((i : ℕ) → i < m → node_at nodes' i ≡ node_at nodes i) → (i : ℕ) → i < m
        → tree_at place nodes' i ≡ tree_at place nodes i
    unfolding tree_at
    tree_at-agree nodes nodes' m o same i less = within-agree nodes nodes' m o same (suc i) i less

    tree_at-cut : (nodes : List (Node I)) → AreInOrder place nodes → (i : ℕ) → node_at nodes i ≡ Sort 0 → tree_at place nodes i ≡ tree.Sort 0
    tree_at-cut nodes o i h = tree_at-says nodes o i ∙ ap (says (λ p. tree_at place nodes (place p))) h

    tree_at-past : (nodes : List (Node I)) → AreInOrder place nodes → (i : ℕ) → length nodes ≤ i → tree_at place nodes i ≡ tree.Sort 0
    tree_at-past nodes o i h = tree_at-cut nodes o i (at-past (Sort 0) nodes i h)

    -- a node whose parts are in the list goes at the end
    pub order-push : (nodes : List (Node I)) (n : Node I) → AreInOrder place nodes → AllParts (λ p. place p < length nodes) n
        → AreInOrder place (nodes ++ n ∷ [])
    order-push nodes n o h =
        record {
          each = λ i. elim (tri i (length nodes)) [
            | inl l ↦ subst (AllParts (λ p. place p < i)) (sym (at-append (Sort 0) nodes (n ∷ []) i l)) (o.each i)
            | inr r ↦ elim r [
              | inl e ↦
                  subst (AllParts (λ p. place p < i)) (sym (at-last (Sort 0) nodes n i e))
                  (subst (λ j. AllParts (λ p. place p < j) n) (sym e) h)
              | inr g ↦
                  subst (AllParts (λ p. place p < i))
                  (sym (at-past (Sort 0) (nodes ++ n ∷ []) i (omega (arith, length_push nodes n)))) tt
            ]
          ];
        }

    pub tree_at-push : (nodes : List (Node I)) (n : Node I) → AreInOrder place nodes → (i : ℕ) → i < length nodes
        → tree_at place (nodes ++ n ∷ []) i ≡ tree_at place nodes i
    tree_at-push nodes n o i less =
        tree_at-agree nodes (nodes ++ n ∷ []) (length nodes) o (λ j l. at-append (Sort 0) nodes (n ∷ []) j l) i less

    pub tree_at-pushed : (nodes : List (Node I)) (n : Node I) → AreInOrder place nodes → AllParts (λ p. place p < length nodes) n
        → (i : ℕ) → i ≡ length nodes → tree_at place (nodes ++ n ∷ []) i ≡ says (λ p. tree_at place nodes (place p)) n
    tree_at-pushed nodes n o h i e =
        tree_at-says (nodes ++ n ∷ []) (order-push nodes n o h) i
        ∙ (ap (says (λ p. tree_at place (nodes ++ n ∷ []) (place p))) (at-last (Sort 0) nodes n i e)
        ∙ says-ext (λ p. tree_at place (nodes ++ n ∷ []) (place p)) (λ p. tree_at place nodes (place p)) n
        (parts-map (λ p. place p < length nodes) (λ p. tree_at place (nodes ++ n ∷ []) (place p) ≡ tree_at place nodes (place p)) n
        (λ p less. tree_at-push nodes n o (place p) less) h))

    pub shelved-push : (nodes : List (Node I)) (facts : List Facts) (n : Node I) (f : Facts) → AreShelved place nodes facts
        → AllParts (λ p. place p < length nodes) n
        → f ≡ facts_of (says (λ p. tree_at place nodes (place p)) n) → f.height ≤ 2000
        → AreShelved place (nodes ++ n ∷ []) (facts ++ f ∷ [])
    shelved-push nodes facts n f s h is low =
        let nodes' = nodes ++ n ∷ [] in
        let facts' = facts ++ f ∷ [] in
        let o = order-push nodes n s.order h in
        let none : facts_of (tree.Sort 0) ≡ record { height = 1; bound = 0 } = refl in
        let each : (i : ℕ) → (tree.height (tree_at place nodes' i) ≤ 2000) × (fact_at facts' i ≡ facts_of (tree_at place nodes' i))
        = λ i. elim (tri i (length nodes)) [
          | inl l ↦
              (let same = tree_at-push nodes n s.order i l in (
                subst (λ t. tree.height t ≤ 2000) (sym same) (s.low i),
                at-append (record { height = 1; bound = 0 }) facts (f ∷ []) i (omega (arith, s.lengths)) ∙ (s.kept i ∙ ap facts_of (sym same)),
              ))
          | inr r ↦ elim r [
            | inl e ↦
                (let same = tree_at-pushed nodes n s.order h i e in (
                  subst (λ t. tree.height t ≤ 2000) (sym same) (subst (λ (g : Facts). g.height ≤ 2000) is low),
                  at-last (record { height = 1; bound = 0 }) facts f i (e ∙ sym s.lengths) ∙ (is ∙ ap facts_of (sym same)),
                ))
            | inr g ↦
                (let same = tree_at-past nodes' o i (omega (arith, length_push nodes n)) in (
                  subst (λ t. tree.height t ≤ 2000) (sym same) (omega arith),
                  at-past (record { height = 1; bound = 0 }) facts' i (omega (arith, length_push facts f, s.lengths)) ∙ ap facts_of (sym same),
                ))
          ]
        ] in
        record {
          order = o;
          low = λ i. (each i).0;
          kept = λ i. (each i).1;
          lengths = omega (arith, length_push nodes n, length_push facts f, s.lengths);
        }

    order-take : (nodes : List (Node I)) (m : ℕ) → AreInOrder place nodes → AreInOrder place (take m nodes)
    order-take nodes m o =
        record {
          each = λ i. elim (tri i m) [
            | inl l ↦ subst (AllParts (λ p. place p < i)) (sym (at-take (Sort 0) m nodes i l)) (o.each i)
            | inr r ↦ subst (AllParts (λ p. place p < i)) (sym (at-cut (Sort 0) m nodes i (from_there i m r))) tt
          ];
        }

    pub tree_at-take : (nodes : List (Node I)) (m : ℕ) → AreInOrder place nodes → (i : ℕ) → i < m → tree_at place (take m nodes) i ≡ tree_at place nodes i
    tree_at-take nodes m o i less = tree_at-agree nodes (take m nodes) m o (λ j l. at-take (Sort 0) m nodes j l) i less

    -- the nodes that are left after others were cut off stay as they are
    pub shelved-take : (nodes : List (Node I)) (facts : List Facts) (m : ℕ) → AreShelved place nodes facts
        → AreShelved place (take m nodes) (take m facts)
    shelved-take nodes facts m s =
        let o = order-take nodes m s.order in
        let each : (i : ℕ) → (tree.height (tree_at place (take m nodes) i) ≤ 2000) × (fact_at (take m facts) i ≡ facts_of (tree_at place (take m nodes) i))
        = λ i. elim (tri i m) [
          | inl l ↦
              (let same = tree_at-take nodes m s.order i l in (
                subst (λ t. tree.height t ≤ 2000) (sym same) (s.low i),
                at-take (record { height = 1; bound = 0 }) m facts i l ∙ (s.kept i ∙ ap facts_of (sym same)),
              ))
          | inr r ↦
              (let behind = from_there i m r in
              let same = tree_at-cut (take m nodes) o i (at-cut (Sort 0) m nodes i behind) in (
                subst (λ t. tree.height t ≤ 2000) (sym same) (omega arith),
                at-cut (record { height = 1; bound = 0 }) m facts i behind ∙ ap facts_of (sym same),
              ))
        ] in
        record {
          order = o;
          low = λ i. (each i).0;
          kept = λ i. (each i).1;
          lengths = length-take m facts ∙ (ap (min m) s.lengths ∙ sym (length-take m nodes));
        }

    -- what is worked out for a node is what is kept of its tree
    pub facts-node : (nodes : List (Node I)) (facts : List Facts) → AreShelved place nodes facts → (n : Node I)
        → node_facts (λ p. fact_at facts (place p)) n ≡ facts_of (says (λ p. tree_at place nodes (place p)) n)
    facts-node nodes facts s n =
        node_facts-ext (λ p. fact_at facts (place p)) (λ p. facts_of (tree_at place nodes (place p))) n (λ p. s.kept (place p))
        ∙ facts-says (λ p. tree_at place nodes (place p)) n

    pub shelved-low : (nodes : List (Node I)) (facts : List Facts) → AreShelved place nodes facts → AreLow facts
    shelved-low nodes facts s = record { each = λ i. subst (λ (f : Facts). f.height ≤ 2000) (sym (s.kept i)) (s.low i) }

    -- no nodes
    pub shelved-none : AreShelved place [] []
    unfolding tree_at
    shelved-none = record { order = record { each = λ i. tt }; low = λ i. omega arith; kept = λ i. refl; lengths = refl }

    module _ (nodes : List (Node I)) (n : Node I) (o : AreInOrder place nodes) (h : AllPass (λ p. nat_lt (place p) (length nodes)) n) where
      pub parts-below : AllParts (λ p. place p < length nodes) n
      parts-below = parts-map (λ p. IsTrue (nat_lt (place p) (length nodes))) (λ p. place p < length nodes) n (λ p l. below (place p) (length nodes) l) h

      pub makes-push : (id : I) → place id ≡ length nodes → tree.height (says (λ p. tree_at place nodes (place p)) n) ≤ 2000
          → IsTrue (nat_lt (place id) (length (nodes ++ n ∷ [])))
          × (tree_at place (nodes ++ n ∷ []) (place id) ≡ says (λ p. tree_at place nodes (place p)) n)
          × (tree.height (says (λ p. tree_at place nodes (place p)) n) ≤ 2000)
      makes-push id e low = (
        is_below (place id) (length (nodes ++ n ∷ [])) (omega (arith, e, length_push nodes n)),
        tree_at-pushed nodes n o parts-below (place id) e,
        low,
      )

      module _ (full full' keeps : Bool) (told missed : ℕ) (rows : ℕ → Key I → Option (Row I)) where
        -- a node that is added leaves the others as they are
        pub extends-push : Extends (shelf_held place nodes full told keeps rows missed) (shelf_held place (nodes ++ n ∷ []) full' told keeps rows missed)
        extends-push =
            record {
              lives = λ id l. let less = below (place id) (length nodes) l in is_below (place id) (length (nodes ++ n ∷ [])) (omega (arith, less, length_push nodes n));
              trees = λ id l. tree_at-push nodes n o (place id) (below (place id) (length nodes) l);
              keeps_rows = refl;
              told = refl;
              rows = refl;
              missed = refl;
            }

        -- and the only id that is new stands for what it says
        pub adds-push : AddsParts (shelf_held place nodes full told keeps rows missed) (shelf_held place (nodes ++ n ∷ []) full' told keeps rows missed) (says (λ p. tree_at place nodes (place p)) n)
        adds-push =
            record {
              each = λ id l. elim (tri (place id) (length nodes)) [
                | inl less ↦ inl (is_below (place id) (length nodes) less)
                | inr r ↦ elim r [
                  | inl e ↦ inr (subst (λ t. IsPart t (says (λ p. tree_at place nodes (place p)) n)) (sym (tree_at-pushed nodes n o parts-below (place id) e)) (part-self _))
                  | inr g ↦ (let less = below (place id) (length (nodes ++ n ∷ [])) l in absurd (omega (arith, less, g, length_push nodes n)))
                ]
              ];
            }

pub ruleset look_laws = (tree_at-says)

pub ruleset fact_laws = (facts-node)
