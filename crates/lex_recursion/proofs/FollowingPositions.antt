-- A position follows others exactly where something is found that it rests on.
use Rattle.std.proofs.Common.{◌≡◌, ℕ, ◌+◌, Bool, true, false, ◌&&◌, cond, Option, Some, None, option_and_then, List, ◌++◌, length, map, slice_get, refl, sym, ap, ap₂, ◌∙◌, subst, arith}
use Rattle.std.specs.Prelude.{◌↔◌}
use Rattle.std.proofs.lemmas.Bool.{and_from}
use Rattle.std.proofs.lemmas.List.{length-map, length-drop, length-take, take-append-drop}
use Rattle.std.proofs.lemmas.Option.{none-some}
use Rattle.theory.specs.Terms.{Term}
use Rattle.theory.specs.Spines.{head_of, spine_of}
use Rattle.theory.specs.Telescopes.{applied}
use Rattle.theory.specs.Signatures.{Signature}
use Rattle.theory.proofs.Lists.{some_is}
use Rattle.theory.proofs.Spines.{applied-spine}
use Rattle.core_terms.specs.Levels.{variable}
use Rattle.kernel_reduce.proofs.LookUps.{family-found}
use Rattle.case_below_gen.proofs.PartTests.{and-tells}
use Rattle.tele_eq.specs.Levels.{is_among}
use Rattle.case_trees.specs.Problems.{Member, member_of}
use Rattle.tree_translation.specs.structural_rec.Positions.{Admission, admission_from, are_different, are_in_order, are_independent, positions_of}
use Rattle.tree_translation.proofs.structural_rec.AdmittingPositions.{ArePositions, positions-tells, positions-found, different-tells, different-found, in-order-tells, in-order-found, only-tells, only-found, independent-tells, independent-found}
use Rattle.tree_translation.proofs.structural_rec.FixedPositions.{mentions-before}
use Rattle.lex_recursion.specs.Following.{Follows, fixed_behind, following, following_of, following_with}
use Rattle.lex_recursion.proofs.MemberTypes.{IsMemberAt, member-tells, member-found}

-- ---- a found admission is one

-- the tests of the search that a type has passed
record Told (S : Signature) (tele : List Term) (first : List ℕ) (k : ℕ) (t : Term) (m : Member) (is : List ℕ) : Type 0 where
  outside : is_among k first ≡ false
  at : slice_get tele k ≡ Some t
  member : IsMemberAt S (head_of t) (spine_of t) m
  positions : positions_of k m.indices ≡ Some is
  different : are_different is ≡ true
  ordered : are_in_order tele is ≡ true
  independent : are_independent tele (first ++ fixed_behind tele first k m.parameters) is is ≡ true

told-follows : (S : Signature) (tele : List Term) (first : List ℕ) (k : ℕ) (t : Term) (m : Member) (is : List ℕ) → Told S tele first k t m is
    → Follows S tele first k (record { number = m.n; fixed = first ++ fixed_behind tele first k m.parameters; indices = is })
told-follows S tele first k t m is told = record {
  outside = told.outside;
  family = m.family;
  parameters = m.parameters;
  known = family-found S m.n m.family told.member.known;
  type = told.at ∙ ap (λ u. Some u) (sym (applied-spine t) ∙ ap₂ applied told.member.head (sym (take-append-drop count (spine_of t)) ∙ ap₂ (λ us vs. us ++ vs) (sym told.member.parameters) (sym told.member.indices ∙ positions.form)));
  parameter_count = ap length told.member.parameters ∙ (let long = told.member.counted in length-take count (spine_of t) ∙ omega arith);
  index_count = (let long = told.member.counted in sym (length-map is (variable k)) ∙ (ap length (sym positions.form ∙ told.member.indices) ∙ (length-drop count (spine_of t) ∙ omega arith)));
  before = positions.before;
  different = different-tells is told.different;
  fixed = refl;
  apart = λ i among. (independent-tells tele fixed is is told.independent i among).0;
  index_types = λ i n among mentioned. only-tells tele fixed is i i (independent-tells tele fixed is is told.independent i among).1 n (mentions-before tele i n mentioned) mentioned;
  index_order = in-order-tells tele is told.ordered;
}
  where
    count : ℕ
    count = length m.family.parameters

    fixed : List ℕ
    fixed = first ++ fixed_behind tele first k m.parameters

    positions : ArePositions k m.indices is
    positions = positions-tells k m.indices is told.positions

following-tells : (S : Signature) (tele : List Term) (first : List ℕ) (k : ℕ) (a : Admission) → following S tele first k ≡ Some a → Follows S tele first k a
following-tells S tele first k a h = by-place (is_among k first) refl h
  where
    from : (t : Term) (m : Member) (is : List ℕ) → is_among k first ≡ false → slice_get tele k ≡ Some t → IsMemberAt S (head_of t) (spine_of t) m
        → positions_of k m.indices ≡ Some is → (b : Bool)
        → ((are_different is && are_in_order tele is) && are_independent tele (first ++ fixed_behind tele first k m.parameters) is is) ≡ b
        → cond b (Some (record { number = m.n; fixed = first ++ fixed_behind tele first k m.parameters; indices = is })) None ≡ Some a → Follows S tele first k a
    from t m is outside at member positions true e h =
        let parts = and-tells (are_different is && are_in_order tele is) (are_independent tele (first ++ fixed_behind tele first k m.parameters) is is) e in
        let alone = and-tells (are_different is) (are_in_order tele is) parts.0 in
        subst (Follows S tele first k) (some_is h)
        (told-follows S tele first k t m is (record { outside = outside; at = at; member = member; positions = positions; different = alone.0; ordered = alone.1; independent = parts.1 }))
    from t m is outside at member positions false e h = absurd (none-some a h)

    with-member : (t : Term) (m : Member) → is_among k first ≡ false → slice_get tele k ≡ Some t → member_of S t ≡ Some m → (o : Option (List ℕ))
        → positions_of k m.indices ≡ o → option_and_then (admission_from tele m.n (first ++ fixed_behind tele first k m.parameters)) o ≡ Some a
        → Follows S tele first k a
    with-member t m outside at e None positions h = absurd (none-some a h)
    with-member t m outside at e (Some is) positions h =
        from t m is outside at (member-tells S (head_of t) (spine_of t) m e) positions
        ((are_different is && are_in_order tele is) && are_independent tele (first ++ fixed_behind tele first k m.parameters) is is) refl h

    by-member : (t : Term) → is_among k first ≡ false → slice_get tele k ≡ Some t → (o : Option Member) → member_of S t ≡ o
        → option_and_then (following_with tele first k) o ≡ Some a → Follows S tele first k a
    by-member t outside at None e h = absurd (none-some a h)
    by-member t outside at (Some m) e h = with-member t m outside at e (positions_of k m.indices) refl h

    by-type : is_among k first ≡ false → (o : Option Term) → slice_get tele k ≡ o → option_and_then (following_of S tele first k) o ≡ Some a
        → Follows S tele first k a
    by-type outside None e h = absurd (none-some a h)
    by-type outside (Some t) e h = by-member t outside e (member_of S t) refl h

    by-place : (b : Bool) → is_among k first ≡ b → cond b None (option_and_then (following_of S tele first k) (slice_get tele k)) ≡ Some a
        → Follows S tele first k a
    by-place true e h = absurd (none-some a h)
    by-place false e h = by-type e (slice_get tele k) refl h

-- ---- and each admission is found

following-found : (S : Signature) (tele : List Term) (first : List ℕ) (k : ℕ) (a : Admission) → Follows S tele first k a → following S tele first k ≡ Some a
following-found S tele first k a m =
    ap (λ b. cond b None (option_and_then (following_of S tele first k) (slice_get tele k))) m.outside
    ∙ (ap (option_and_then (following_of S tele first k)) m.type
    ∙ (ap (option_and_then (following_with tele first k)) (member-found S a.number m.family m.parameters indices m.known m.parameter_count (length-map a.indices (variable k) ∙ m.index_count))
    ∙ (ap (option_and_then (admission_from tele a.number (first ++ fixed_behind tele first k m.parameters))) (positions-found k a.indices m.before)
    ∙ (ap (λ fixed. admission_from tele a.number fixed a.indices) (sym m.fixed)
    ∙ ap (λ b. cond b (Some (record { number = a.number; fixed = a.fixed; indices = a.indices })) None) tests))))
  where
    indices : List Term
    indices = map (variable k) a.indices

    tests : ((are_different a.indices && are_in_order tele a.indices) && are_independent tele a.fixed a.indices a.indices) ≡ true
    tests =
        and_from (are_different a.indices && are_in_order tele a.indices) (are_independent tele a.fixed a.indices a.indices)
        (and_from (are_different a.indices) (are_in_order tele a.indices) (different-found a.indices m.different) (in-order-found tele a.indices m.index_order))
        (independent-found tele a.fixed a.indices a.indices (λ i among. (m.apart i among, only-found tele a.fixed a.indices i i (λ n h. m.index_types i n among h))))

pub following-decides : (S : Signature) (tele : List Term) (first : List ℕ) (k : ℕ) (a : Admission) → (following S tele first k ≡ Some a) ↔ Follows S tele first k a
following-decides S tele first k a = (following-tells S tele first k a, following-found S tele first k a)
