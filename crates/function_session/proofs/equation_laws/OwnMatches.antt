-- A walk that ends has terms that its clause matches, unless the clause has ( ). Nothing is asked of the signature.
use Rattle.std.proofs.Common.{◌≡◌, ℕ, true, false, List, [], ◌∷◌, ◌++◌, refl, sym, ap, ◌∙◌}
use Rattle.std.proofs.lemmas.Bool.{true≢false, or_left, or_right}
use Rattle.theory.specs.Terms.{Term}
use Rattle.theory.specs.Telescopes.{Telescope}
use Rattle.theory.specs.Signatures.{Signature}
use Rattle.core_terms.specs.Patterns as pattern
use Rattle.core_terms.specs.Patterns.{Pat, Pats}
use Rattle.core_terms.specs.Clauses.{Right, Is}
use Rattle.core_terms.specs.CaseTrees.{Walk}
use Rattle.case_trees.specs.pattern_vectors.Columns.{AreWhole}
use Rattle.case_trees.specs.pattern_vectors.Matching.{matches_all}
use Rattle.case_trees.specs.Pairs.{Pair, Pairs, waiting, open_in, all_open, all_left}
use Rattle.case_trees.specs.Places.{all_variable_places}
use Rattle.case_trees.specs.Points.{bounded_point, start_at, solution_for}
use Rattle.case_trees.specs.Scoped.{IsClauseFor}
use Rattle.case_trees.specs.Stops.{or_halts, answers}
use Rattle.case_trees.specs.OwnWalks.{own_walk_of}
use Rattle.case_trees.proofs.Answered.{Holds, and_next-holds}
use Rattle.case_trees.proofs.Looks.{AllPairs}
use Rattle.case_trees.proofs.OwnPlaces.{IsAsking, IsWorked, AreWorked}
use Rattle.case_trees.proofs.OwnWalkLaws.{IsOwn, IsOwnWorked, own-starts, own-works, own-moves, own-walk}
use Rattle.case_trees.proofs.Shapes as shape
use Rattle.case_trees.proofs.Shapes.{HasShape, HaveShapes, all-done-match}
use Rattle.case_trees.proofs.WalkLooks.{IsOther, Outcomes, look-holds}
use Rattle.case_trees.proofs.WalkTurns.{Claims, Turns, keeping-holds, walk-holds}
use Rattle.clause_reports.specs.Reports.{is_absurd, some_absurd}

asked : (pat : Pat) → IsAsking pat → IsOther pat → is_absurd pat ≡ true
asked pattern.Bind asks other = absurd asks
asked pattern.Wild asks other = absurd asks
asked (pattern.Dot written) asks other = absurd asks
asked (pattern.Con n number pats) asks other = absurd other
asked pattern.Absurd asks other = refl

both-pairs : (O P Q : (Pat × Term) → Type 0) → ((o : Pat × Term) → O o → Q o) → ((o : Pat × Term) → P o → Q o) → (xs ys : List (Pat × Term))
    → AllPairs O xs → AllPairs P ys → AllPairs Q (xs ++ ys)
both-pairs O P Q first second [] [] h k = tt
both-pairs O P Q first second [] (y ∷ ys) h k = (second y k.0, both-pairs O P Q first second [] ys h k.1)
both-pairs O P Q first second (x ∷ xs) ys h k = (first x h.0, both-pairs O P Q first second xs ys h.1 k)

mutual
  open-asked : (S : Signature) (pat : Pat) (pair : Pair) → HasShape S pat pair → IsWorked S pair
      → AllPairs (λ o. IsOther o.0 → is_absurd pat ≡ true) (open_in pair)
  open-asked S _ _ (shape.waits pat t) worked = (asked pat worked.0, tt)
  open-asked S _ _ (shape.binds t) worked = tt
  open-asked S _ _ (shape.passes t) worked = tt
  open-asked S _ _ (shape.keeps written t) worked = tt
  open-asked S _ _ (shape.builds n number pats b pairs e same args shapes) worked = all-asked S pats pairs shapes worked
  open-asked S _ _ (shape.apart pat t far) worked = tt

  -- an open pattern that asks for no constructor is ( )
  all-asked : (S : Signature) (pats : Pats) (pairs : Pairs) → HaveShapes S pats pairs → AreWorked S pairs
      → AllPairs (λ o. IsOther o.0 → some_absurd pats ≡ true) (all_open pairs)
  all-asked S _ _ shape.none worked = tt
  all-asked S _ _ (shape.more pat pats pair pairs is are) worked =
      both-pairs (λ o. IsOther o.0 → is_absurd pat ≡ true) (λ o. IsOther o.0 → some_absurd pats ≡ true) _
      (λ o h other. or_left (is_absurd pat) (some_absurd pats) (h other)) (λ o h other. or_right (is_absurd pat) (some_absurd pats) (h other))
      (open_in pair) (all_open pairs) (open-asked S pat pair is worked.0) (all-asked S pats pairs are worked.1)

-- the bindings of a walk are the terms at the variables, and the clause matches the terms
pub record IsMatched (S : Signature) (pats : Pats) (w : Walk) : Type 0 where
  pub binds : all_variable_places S pats w.terms ≡ w.binds
  pub matches : some_absurd pats ≡ false → matches_all S pats w.terms ≡ true

matching-claims : Signature → Pats → Claims
matching-claims S pats = record {
  Before = IsOwn S pats;
  Then = IsOwnWorked S pats;
  Good = IsMatched S pats;
  Cause = λ e. Unit {0};
  Open = λ p pair. IsOther pair.0 → some_absurd pats ≡ true;
}

matching-outcomes : (S : Signature) (clause : ℕ) (pats : Pats) → Outcomes S clause (matching-claims S pats)
unfolding matching-claims
matching-outcomes S clause pats = record {
  halts = λ e. tt;
  wrong = λ p pairs pair x type h o tidy to none. tt;
  no_number = λ p pairs pair x found n number qs h at is none. tt;
  solved = λ p pairs pair x found n number qs c steps context solution h at is there runs.
      own-moves S pats p pairs context (solution_for p solution) h.own;
  impossible = λ p pairs pair x found n number qs c steps context u v h at is there runs. tt;
  stuck = λ p pairs pair x found number c steps context u v why h at tried there runs. tt;
  not_absurd = λ p pairs pair x found number c steps context solution h at other there runs. tt;
  ends = λ p pairs pair x found h at other all. record {
    binds = (own-walk S pats p pairs h).binds;
    matches = λ no. absurd (true≢false (sym (at.is_open other) ∙ no));
  };
}

matching-turns : (S : Signature) (clause : ℕ) (pats : Pats) → AreWhole S pats → Turns S clause (matching-claims S pats)
unfolding matching-claims
matching-turns S clause pats whole = record {
  halts = λ e. tt;
  works = λ p pairs new h all clean. own-works S pats p pairs new whole h all clean;
  drops = λ p pairs new clash h all e. tt;
  opens = λ p pairs h. all-asked S pats pairs h.own.shapes h.worked;
  ends = λ p pairs h e. record {
    binds = (own-walk S pats p pairs h).binds;
    matches = λ no. ap (matches_all S pats) h.own.terms ∙ all-done-match S pats pairs h.own.shapes (e, h.clean);
  };
  looks = look-holds S clause (matching-claims S pats) (matching-outcomes S clause pats);
  forced = λ p pairs h pair u o to e. tt;
}

pub walk-matched : (S : Signature) (context : Telescope) (goal : Term) (terms : List Term) (pats : Pats) (binds : ℕ) (right : Right) (number left : ℕ)
    → IsClauseFor S terms pats binds → Holds (IsMatched S pats) (λ e. Unit {0}) (own_walk_of S context goal terms (Is pats binds right) number left).0
unfolding matching-claims
walk-matched S context goal terms pats binds right number left for =
    and_next-holds (λ p. IsOwn S pats p (waiting pats terms)) (IsMatched S pats) (λ e. Unit {0})
    (answers (or_halts (bounded_point (start_at context goal terms))) left) _
    (keeping-holds S (λ p. IsOwn S pats p (waiting pats terms)) (λ e. Unit {0}) (start_at context goal terms) (λ e. tt)
    (own-starts S context goal terms pats binds for))
    (λ p rest h. walk-holds S number (matching-claims S pats) (matching-turns S number pats for.whole) (all_left (waiting pats terms)) p (waiting pats terms) rest h)
