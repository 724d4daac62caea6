-- The types in the order of a pair are a telescope.
use Rattle.std.proofs.Common.{◌≡◌, ◌≢◌, ◌⊎◌, inl, inr, ℕ, ◌<◌, Bool, true, false, List, [], ◌++◌, length, refl, sym, ap, ◌∙◌, subst, arith}
use Rattle.std.specs.Prelude.{AllPairs}
use Rattle.std.proofs.lemmas.Bool.{false≢true}
use Rattle.std.proofs.lemmas.Option.{slice_get_within}
use Rattle.theory.specs.Terms.{Term}
use Rattle.theory.specs.Signatures.{Signature}
use Rattle.tele_eq.specs.Levels.{is_among}
use Rattle.tree_translation.specs.structural_rec.Laws.{IsTelescopeOrder}
use Rattle.tree_translation.specs.structural_rec.Positions.{Admission, IsFixed, fixed_positions, mentions}
use Rattle.tree_translation.specs.structural_rec.Positions.IsFixed.{parameter, behind}
use Rattle.tree_translation.specs.structural_rec.Orders.{recursive_positions}
use Rattle.tree_translation.proofs.structural_rec.FixedPositions.{fixed-before, fixed-decides}
use Rattle.tree_translation.proofs.structural_rec.RecursionOrders.{AreInOrder, Follows as FollowTypes, Rising, after-in-order, among-left, among-right, among-tells, family-mentions, fixed-rising, follows-append, not-true-is, once-append, recursive-in-order, rising-follows, rising-once, with-others-telescope}
use Rattle.lex_recursion.specs.Following.{Follows, fixed_behind}
use Rattle.lex_recursion.specs.Pairs.{IsPair, Pair, pair_order}
use Rattle.lex_recursion.proofs.FixedBehind.{unless-has, unless-rising, unless-tells}

-- the fixed positions of the rest after first positions that are in order
fixed-in-order : (S : Signature) (tele : List Term) (first : List ℕ) (k : ℕ) (a : Admission) → AreInOrder tele first → (m : Follows S tele first k a)
    → AreInOrder tele (first ++ fixed_behind tele first k m.parameters)
fixed-in-order S tele first k a h m = record { within = within; once = once; follow = follow }
  where
    fixed : List ℕ
    fixed = fixed_behind tele first k m.parameters

    tells : (i : ℕ) → is_among i fixed ≡ true → IsFixed tele k m.parameters i × (is_among i first ≡ false)
    tells i among =
        let parts = unless-tells first (fixed_positions tele k m.parameters) i among in
        ((fixed-decides tele k m.parameters i).0 parts.0, parts.1)

    within : (i : ℕ) → is_among i (first ++ fixed) ≡ true → i < length tele
    within i among = elim (among-tells i first fixed among) [
      | inl front ↦ h.within i front
      | inr back ↦ (
          let low = fixed-before tele k m.parameters (tells i back).0 in
          let far = slice_get_within tele k _ m.type in
          omega arith
          )
    ]

    rising : Rising fixed
    rising = unless-rising first (fixed_positions tele k m.parameters) (fixed-rising tele k m.parameters)

    once : AllPairs (λ i n. i ≢ n) (first ++ fixed)
    once = once-append first fixed h.once (rising-once fixed rising) (λ i among. (tells i among).1)

    closed : (i n : ℕ) → is_among i fixed ≡ true → mentions tele i n ≡ true → (is_among n first ≡ true) ⊎ (is_among n fixed ≡ true)
    closed i n among mentioned = by (is_among n first) refl
      where
        by : (b : Bool) → is_among n first ≡ b → (is_among n first ≡ true) ⊎ (is_among n fixed ≡ true)
        by true e = inl e
        by false e =
            inr (unless-has first (fixed_positions tele k m.parameters) n ((fixed-decides tele k m.parameters n).1 (behind (tells i among).0 mentioned)) e)

    follow : FollowTypes tele [] (first ++ fixed)
    follow = follows-append tele [] first first fixed (λ n among. inr among) h.follow (rising-follows tele first fixed closed rising)

-- and then the indices and the position itself
following-in-order : (S : Signature) (tele : List Term) (first : List ℕ) (k : ℕ) (a : Admission) → AreInOrder tele first → Follows S tele first k a
    → AreInOrder tele (recursive_positions k a)
following-in-order S tele first k a h m =
    after-in-order tele a.fixed a.indices k
    (record {
      fixed_order = subst (AreInOrder tele) (sym m.fixed) (fixed-in-order S tele first k a h m);
      inside = slice_get_within tele k _ m.type;
      outside = not-true-is (is_among k a.fixed) outside;
      before = m.before;
      different = m.different;
      apart = m.apart;
      index_types = m.index_types;
      index_order = m.index_order;
      own = own;
    })
  where
    fixed : List ℕ
    fixed = fixed_behind tele first k m.parameters

    outside : is_among k a.fixed ≡ true → ⊥
    outside among = elim (among-tells k first fixed (sym (ap (is_among k) m.fixed) ∙ among)) [
      | inl front ↦ false≢true (sym m.outside ∙ front)
      | inr back ↦ (
          let parts = unless-tells first (fixed_positions tele k m.parameters) k back in
          let low = fixed-before tele k m.parameters ((fixed-decides tele k m.parameters k).0 parts.0) in
          omega arith
          )
    ]

    named : (n : ℕ) → IsFixed tele k m.parameters n → (b : Bool) → is_among n first ≡ b → is_among n (first ++ fixed) ≡ true
    named n is true e = among-left n first fixed e
    named n is false e =
        among-right n first fixed (unless-has first (fixed_positions tele k m.parameters) n ((fixed-decides tele k m.parameters n).1 is) e)

    own : (n : ℕ) → mentions tele k n ≡ true → is_among n (a.fixed ++ a.indices) ≡ true
    own n mentioned = elim (family-mentions tele k a.number m.parameters a.indices n m.type m.before mentioned) [
      | inl there ↦
          among-left n a.fixed a.indices (ap (is_among n) m.fixed ∙ named n (parameter there) (is_among n first) refl)
      | inr index ↦ among-right n a.fixed a.indices index
    ]

pub pair-order-is-telescope : (S : Signature) (tele : List Term) (p : Pair) → IsPair S tele p → IsTelescopeOrder tele (pair_order (length tele) p)
pair-order-is-telescope S tele p is =
    with-others-telescope tele (recursive_positions p.second p.inner)
    (following-in-order S tele (recursive_positions p.first p.outer) p.second p.inner (recursive-in-order S tele p.first p.outer is.admits) is.follows)
