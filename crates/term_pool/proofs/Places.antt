-- A node that is looked up in a set, and goes to its end where it is new.
use Rattle.std.proofs.Common.{◌≡◌, ◌≢◌, ℕ, suc, ◌+◌, ◌-◌, ◌<◌, ◌≤◌, inl, inr, Bool, true, false, not, ◌||◌, cond, IsTrue, nat_lt, nat_le, if◌then◌else◌, List, [], ◌∷◌, ◌++◌, length, take, slice_get, Option, refl, sym, ◌∙◌, ap, subst, true≢false, append_assoc, arith}
use Rattle.std.specs.Option.{unwrap_or}
use Rattle.std.specs.List.{list_any, position_or_len}
use Rattle.std.proofs.lemmas.Option.{unwrap_or-slice_get}
use Rattle.std.proofs.lemmas.List.{length-append}
use Rattle.std.proofs.lemmas.List.Sums.{passes_at_first}
use Rattle.std.proofs.lemmas.Bool.Decides.{nat_tests}
use Rattle.theory.specs.Terms as tree
use Rattle.term_pool.specs.Held.{Extends, AddsParts, Lacks, IsNew}
use Rattle.term_pool.specs.Layers.{IsLayer}
use Rattle.term_pool.specs.Nodes.{says, AllPass}
use Rattle.term_pool.specs.Placing.{IsNowhere, IsPlaced}
use Rattle.term_pool.specs.Pools.{IsPool, id_place}
use Rattle.term_pool.specs.Shelves.{facts_of, node_at, tree_at, shelf_held}
use Rattle.term_pool.specs.declared.facts.Facts.{Facts}
use Rattle.term_pool.specs.declared.ids.Id.{Id}
use Rattle.term_pool.specs.declared.node.Node.{Node}
use Rattle.term_pool.specs.declared.row.Key.{Key}
use Rattle.term_pool.specs.declared.row.Row.{Row}
use Rattle.term_pool.proofs.Layering.{found-behind, nowhere-at-all}
use Rattle.term_pool.proofs.Pooling.{missing, new-tree, old-node, pool-push}
use Rattle.term_pool.proofs.Shelving.{part-self, makes-push, extends-push, adds-push}

module _ {X : Type 0} (test : X → Bool) where
  -- the first place where the test passes is the length where it passes nowhere,
  none-first : (xs : List X) → list_any test xs ≡ false → position_or_len test xs ≡ length xs
  none-first [] h = refl
  none-first (x ∷ xs) h = go (test x) h (none-first xs)
    where
      go : (b : Bool) → (b || list_any test xs) ≡ false → (list_any test xs ≡ false → position_or_len test xs ≡ length xs)
          → cond (not b) (1 + position_or_len test xs) 0 ≡ suc (length xs)
      go true e rest = absurd (true≢false e)
      go false e rest = omega (arith, rest e)

  -- and before it where it passes somewhere
  some-first : (xs : List X) → list_any test xs ≡ true → position_or_len test xs < length xs
  some-first [] h = absurd (true≢false (sym h))
  some-first (x ∷ xs) h = go (test x) h (some-first xs)
    where
      go : (b : Bool) → (b || list_any test xs) ≡ true → (list_any test xs ≡ true → position_or_len test xs < length xs)
          → cond (not b) (1 + position_or_len test xs) 0 < suc (length xs)
      go true e rest = omega arith
      go false e rest = omega (arith, rest e)

  module _ (d : X) (xs : List X) (x : X) (ys : List X) (i : ℕ) (new : Bool) (fresh : new ≡ not (list_any test xs))
      (keys : ys ≡ (if list_any test xs then xs else xs ++ x ∷ [])) (at : i ≡ position_or_len test xs) where
    any-old : (b : Bool) → new ≡ not b → new ≡ false → b ≡ true
    any-old true e n = refl
    any-old false e n = absurd (true≢false (sym e ∙ n))

    any-new : (b : Bool) → new ≡ not b → new ≡ true → b ≡ false
    any-new true e n = absurd (true≢false (sym n ∙ e))
    any-new false e n = refl

    -- an element that is not new is where the set says,
    pub entered-old : ((y : X) → test y ≡ true → x ≡ y) → new ≡ false → (i < length xs) × (unwrap_or (slice_get xs i) d ≡ x) × (ys ≡ xs)
    entered-old sound n =
        let any = any-old (list_any test xs) fresh n in
        let less = some-first xs any in (
          omega (arith, less, at),
          ap (λ j. unwrap_or (slice_get xs j) d) at ∙ (unwrap_or-slice_get xs (position_or_len test xs) d ∙ sym (sound _ (passes_at_first test xs d less))),
          keys ∙ ap (λ b. if b then xs else xs ++ x ∷ []) any,
        )

    -- and one that is new is nowhere, and goes last
    pub entered-new : test x ≡ true → new ≡ true → (i ≡ length xs) × ((j : ℕ) → j < length xs → unwrap_or (slice_get xs j) d ≢ x) × (ys ≡ xs ++ x ∷ [])
    entered-new whole n =
        let any = any-new (list_any test xs) fresh n in
        (at ∙ none-first xs any, missing test d xs x any whole, keys ∙ ap (λ b. if b then xs else xs ++ x ∷ []) any)

-- what was added last is cut off
pub take-before : {X : Type 0} (xs : List X) (x : X) → take (length xs) (xs ++ x ∷ []) ≡ xs
take-before [] x = refl
take-before (y ∷ ys) x = ap (λ l. y ∷ l) (take-before ys x)

module _ (nodes : List (Node Id)) (facts : List Facts) (cap : ℕ) (p : IsPool nodes facts cap) (n : Node Id)
    (parts : AllPass (λ (q : Id). nat_lt q.at (length nodes)) n) where
  -- where there is no room for a node that is nowhere
  module _ (nodes' : List (Node Id)) (same : nodes' ≡ nodes) (nowhere : IsNowhere nodes n) (told missed : ℕ) (keeps : Bool) (rows : ℕ → Key Id → Option (Row Id)) where
    pub refused-new : (full : Bool) → IsNew (shelf_held id_place nodes' full told keeps rows missed) (says (λ (q : Id). tree_at id_place nodes q.at) n)
    refused-new full =
        subst (λ ns. IsNew (shelf_held id_place ns full told keeps rows missed) (says (λ (q : Id). tree_at id_place nodes q.at) n)) (sym same)
        (new-tree nodes facts cap p n parts nowhere)

    pub refused-full : cap ≤ length nodes
        → Lacks (shelf_held id_place nodes' (nat_le cap (length nodes')) told keeps rows missed) (says (λ (q : Id). tree_at id_place nodes q.at) n)
    refused-full room =
        let count = ap length same in
        record {
          full = grind (arith, nat_tests, room, count);
          part = says (λ (q : Id). tree_at id_place nodes q.at) n;
          is_part = part-self (says (λ (q : Id). tree_at id_place nodes q.at) n);
          is_new = refused-new (nat_le cap (length nodes'));
        }

  module _ (f : Facts) (made : f ≡ facts_of (says (λ (q : Id). tree_at id_place nodes q.at) n)) (nodes' : List (Node Id)) (facts' : List Facts) (at : ℕ) where
    pub placed-pool : IsPlaced n f cap nodes facts nodes' facts' at → IsPool nodes' facts' cap
    placed-pool (inl t) = subst (λ ns. IsPool ns facts' cap) (sym t.same) (subst (λ fs. IsPool nodes fs cap) (sym t.kept) p)
    placed-pool (inr a) =
        subst (λ ns. IsPool ns facts' cap) (sym a.longer)
        (subst (λ fs. IsPool (nodes ++ n ∷ []) fs cap) (sym a.noted) (pool-push nodes facts cap p n parts f a.nowhere a.spare made a.low))

    pub placed-makes : (id : Id) → id.at ≡ at → IsPlaced n f cap nodes facts nodes' facts' at
        → IsTrue (nat_lt id.at (length nodes')) × (tree_at id_place nodes' id.at ≡ says (λ (q : Id). tree_at id_place nodes q.at) n)
        × (tree.height (says (λ (q : Id). tree_at id_place nodes q.at) n) ≤ 2000)
    placed-makes id here (inl t) =
        subst (λ ns. IsTrue (nat_lt id.at (length ns)) × (tree_at id_place ns id.at ≡ says (λ (q : Id). tree_at id_place nodes q.at) n)
        × (tree.height (says (λ (q : Id). tree_at id_place nodes q.at) n) ≤ 2000)) (sym t.same)
        (old-node nodes facts cap p n parts id (omega (arith, here, t.less)) (ap (λ j. node_at nodes j) here ∙ t.here))
    placed-makes id here (inr a) =
        subst (λ ns. IsTrue (nat_lt id.at (length ns)) × (tree_at id_place ns id.at ≡ says (λ (q : Id). tree_at id_place nodes q.at) n)
        × (tree.height (says (λ (q : Id). tree_at id_place nodes q.at) n) ≤ 2000)) (sym a.longer)
        (makes-push id_place nodes n p.shelved.order parts id (here ∙ a.last) (subst (λ (g : Facts). g.height ≤ 2000) made a.low))

    module _ (full full' keeps : Bool) (told missed : ℕ) (rows : ℕ → Key Id → Option (Row Id)) where
      pub placed-extends : IsPlaced n f cap nodes facts nodes' facts' at
          → Extends (shelf_held id_place nodes full told keeps rows missed) (shelf_held id_place nodes' full' told keeps rows missed)
      placed-extends (inl t) =
          subst (λ ns. Extends (shelf_held id_place nodes full told keeps rows missed) (shelf_held id_place ns full' told keeps rows missed)) (sym t.same)
          (record { lives = λ id l. l; trees = λ id l. refl; keeps_rows = refl; told = refl; rows = refl; missed = refl })
      placed-extends (inr a) =
          subst (λ ns. Extends (shelf_held id_place nodes full told keeps rows missed) (shelf_held id_place ns full' told keeps rows missed)) (sym a.longer)
          (extends-push id_place nodes n p.shelved.order parts full full' keeps told missed rows)

      pub placed-adds : IsPlaced n f cap nodes facts nodes' facts' at
          → AddsParts (shelf_held id_place nodes full told keeps rows missed) (shelf_held id_place nodes' full' told keeps rows missed) (says (λ (q : Id). tree_at id_place nodes q.at) n)
      placed-adds (inl t) =
          subst (λ ns. AddsParts (shelf_held id_place nodes full told keeps rows missed) (shelf_held id_place ns full' told keeps rows missed) (says (λ (q : Id). tree_at id_place nodes q.at) n)) (sym t.same)
          (record { each = λ id l. inl l })
      placed-adds (inr a) =
          subst (λ ns. AddsParts (shelf_held id_place nodes full told keeps rows missed) (shelf_held id_place ns full' told keeps rows missed) (says (λ (q : Id). tree_at id_place nodes q.at) n)) (sym a.longer)
          (adds-push id_place nodes n p.shelved.order parts full full' keeps told missed rows)

-- what is placed in the second of two lists is placed in both
pub placed-over : (below : List (Node Id)) (kept : List Facts) (nodes : List (Node Id)) (facts : List Facts) (cap room : ℕ) (n : Node Id) (f : Facts)
    (nodes' : List (Node Id)) (facts' : List Facts) (at : ℕ) → IsNowhere below n → length below ≤ cap → room ≡ cap - length below
    → IsPlaced n f room nodes facts nodes' facts' at
    → IsPlaced n f cap (below ++ nodes) (kept ++ facts) (below ++ nodes') (kept ++ facts') (length below + at)
placed-over below kept nodes facts cap room n f nodes' facts' at first small is (inl t) =
    let found = found-behind below nodes n at (t.less, t.here) in
    inl (record { less = found.0; here = found.1; same = ap (λ ns. below ++ ns) t.same; kept = ap (λ fs. kept ++ fs) t.kept })
placed-over below kept nodes facts cap room n f nodes' facts' at first small is (inr a) =
    inr (record {
      last = omega (arith, a.last, length-append below nodes);
      spare = omega (arith, a.spare, small, is, length-append below nodes);
      low = a.low;
      nowhere = nowhere-at-all below nodes n first a.nowhere;
      longer = ap (λ ns. below ++ ns) a.longer ∙ sym (append_assoc below nodes (n ∷ []));
      noted = ap (λ fs. kept ++ fs) a.noted ∙ sym (append_assoc kept facts (f ∷ []));
    })

-- and a layer stays one
pub placed-layer : (below : List (Node Id)) (cap : ℕ) (nodes : List (Node Id)) (facts : List Facts) → IsLayer below cap nodes facts → (n : Node Id)
    → AllPass (λ (q : Id). nat_lt q.at (length (below ++ nodes))) n → (f : Facts)
    → f ≡ facts_of (says (λ (q : Id). tree_at id_place (below ++ nodes) q.at) n) → (nodes' : List (Node Id)) (facts' : List Facts) (room at : ℕ)
    → IsNowhere below n → length below ≤ cap → room ≡ cap - length below → IsPlaced n f room nodes facts nodes' facts' at → IsLayer below cap nodes' facts'
placed-layer below cap nodes facts l n parts f made nodes' facts' room at first small is h =
    record {
      whole = λ kept p.
          placed-pool (below ++ nodes) (kept ++ facts) cap (l.whole kept p) n parts f made (below ++ nodes') (kept ++ facts') (length below + at)
          (placed-over below kept nodes facts cap room n f nodes' facts' at first small is h);
    }
