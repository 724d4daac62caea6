-- The bindings and the dots of a walk are those of its terms.
use Rattle.std.proofs.Common.{◌≡◌, ℕ, true, false, ◌&&◌, None, List, [], ◌++◌, map, refl, sym, ap, ap₂, ◌∙◌}
use Rattle.std.proofs.lemmas.Bool.{false≢true}
use Rattle.theory.specs.Terms.{Term}
use Rattle.theory.specs.Substitutions.{fill}
use Rattle.theory.specs.Telescopes.{Telescope}
use Rattle.theory.specs.Eliminators.{no_variable}
use Rattle.theory.specs.Signatures.{Signature}
use Rattle.core_terms.specs.Patterns as pattern
use Rattle.core_terms.specs.Patterns.{Pat, Pats}
use Rattle.core_terms.specs.Clauses.{Right, Is}
use Rattle.core_terms.specs.CaseTrees.{Walk}
use Rattle.unification.specs.Built.{built_of}
use Rattle.case_trees.specs.pattern_vectors.Columns.{AreWhole}
use Rattle.case_trees.specs.pattern_vectors.Matching.{is_constructor, matches, matches_all, matches_built}
use Rattle.case_trees.proofs.pattern_vectors.Separate.{and-both}
use Rattle.case_trees.specs.Pairs.{Pair, Pairs, waiting, term_in, terms_in, some_clashes, open_in, all_open, all_bound, all_dots, all_left}
use Rattle.case_trees.specs.Keeping.{keep_all}
use Rattle.case_trees.specs.Points.{Point, bounded_point, start_at, under_solution, moved_point, moved_pairs, solution_for}
use Rattle.case_trees.specs.Stops.{or_halts, answers}
use Rattle.case_trees.specs.OwnWalks.{or_none, walked_dots, walk_at, own_walk_of}
use Rattle.case_trees.specs.Places.{all_variable_places, all_variables_found, all_dot_places}
use Rattle.case_trees.specs.Laws.{WalkBinds, WalkKeepsDots, WalkKeepsAllDots}
use Rattle.case_trees.specs.Scoped.{IsClauseFor}
use Rattle.case_trees.proofs.Answered.{Holds, and_next-holds, answer-of}
use Rattle.case_trees.proofs.Workings.{AllBecome}
use Rattle.case_trees.proofs.Looks.{any-pairs}
use Rattle.case_trees.proofs.Shapes as shape
use Rattle.case_trees.proofs.Shapes.{HasShape, HaveShapes, AreDone, waiting-shapes, all-shapes, moved-shapes, terms-moved}
use Rattle.case_trees.proofs.OwnTerms.{all-kept}
use Rattle.case_trees.proofs.OwnPlaces.{IsAsking, is-none, IsWorked, AreWorked, all-worked, all-places, all-finds, all-dots, all-done-there, all-kept-dots}
use Rattle.case_trees.proofs.WalkTurns.{Claims, Turns, keeping-holds, walk-holds}
use Rattle.case_trees.proofs.WalkLooks.{Outcomes, look-holds}

-- the pairs of a clause at a point have its patterns, and the terms of the point
pub record IsOwn (S : Signature) (pats : Pats) (p : Point) (pairs : Pairs) : Type 0 where
  pub terms : p.terms ≡ terms_in pairs
  pub shapes : HaveShapes S pats pairs

-- pairs of a clause's own walk that are worked, where none clashes
pub record IsOwnWorked (S : Signature) (pats : Pats) (p : Point) (pairs : Pairs) : Type 0 where
  pub own : IsOwn S pats p pairs
  pub worked : AreWorked S pairs
  pub clean : some_clashes pairs ≡ false

pub own-starts : (S : Signature) (context : Telescope) (goal : Term) (terms : List Term) (pats : Pats) (binds : ℕ) → IsClauseFor S terms pats binds
    → IsOwn S pats (start_at context goal terms) (waiting pats terms)
own-starts S context goal terms pats binds for =
    let (shapes, same) = waiting-shapes S pats terms for.long in
    record { terms = sym same; shapes = shapes }

pub own-works : (S : Signature) (pats : Pats) (p : Point) (pairs new : Pairs) → AreWhole S pats → IsOwn S pats p pairs → AllBecome S pairs new
    → some_clashes new ≡ false → IsOwnWorked S pats (record p { terms = keep_all S new p.terms }) new
own-works S pats p pairs new whole h all clean =
    record {
      own = record {
        terms = ap (keep_all S new) h.terms ∙ all-kept S pats pairs new all h.shapes whole;
        shapes = (all-shapes S pats pairs new all h.shapes whole).0;
      };
      worked = all-worked S pairs new all clean;
      clean = clean;
    }

pub own-moves : (S : Signature) (pats : Pats) (p : Point) (pairs : Pairs) (context : Telescope) (solution : List Term) → IsOwn S pats p pairs
    → IsOwn S pats (moved_point p context solution) (moved_pairs solution pairs)
own-moves S pats p pairs context solution h =
    record {
      terms = ap (map (under_solution solution)) h.terms ∙ sym (terms-moved (fill no_variable solution) pairs);
      shapes = moved-shapes S (fill no_variable solution) pats pairs h.shapes;
    }

-- ---- matched patterns have no open pair

none-append : {A : Type 0} (xs ys : List A) → xs ≡ [] → ys ≡ [] → xs ++ ys ≡ []
none-append xs ys e k = ap₂ (λ us vs. us ++ vs) e k

unmatched : (S : Signature) (pat : Pat) (t : Term) → IsAsking pat → built_of S t ≡ None → matches S pat t ≡ false
unmatched S pattern.Bind t asks none = absurd asks
unmatched S pattern.Wild t asks none = absurd asks
unmatched S (pattern.Dot written) t asks none = absurd asks
unmatched S (pattern.Con n number pats) t asks none = ap (matches_built n number (matches_all S pats)) none
unmatched S pattern.Absurd t asks none = refl

mutual
  matched-done : (S : Signature) (pat : Pat) (pair : Pair) → HasShape S pat pair → IsWorked S pair → matches S pat (term_in pair) ≡ true → open_in pair ≡ []
  matched-done S _ _ (shape.waits pat t) worked is = absurd (false≢true (sym (unmatched S pat t worked.0 (is-none S t worked.1)) ∙ is))
  matched-done S _ _ (shape.binds t) worked is = refl
  matched-done S _ _ (shape.passes t) worked is = refl
  matched-done S _ _ (shape.keeps written t) worked is = refl
  matched-done S _ _ (shape.builds n number pats b pairs e same args shapes) worked is =
      let all : (is_constructor n number b && matches_all S pats b.arguments) ≡ true = sym (ap (matches_built n number (matches_all S pats)) e) ∙ is in
      let (first, rest) = and-both (is_constructor n number b) (matches_all S pats b.arguments) all in
      all-matched-done S pats pairs shapes worked (sym (ap (matches_all S pats) args) ∙ rest)
  matched-done S _ _ (shape.apart pat t far) worked is = refl

  pub all-matched-done : (S : Signature) (pats : Pats) (pairs : Pairs) → HaveShapes S pats pairs → AreWorked S pairs
      → matches_all S pats (terms_in pairs) ≡ true → all_open pairs ≡ []
  all-matched-done S _ _ shape.none worked is = refl
  all-matched-done S _ _ (shape.more pat pats pair pairs one others) worked is =
      let (first, rest) = and-both (matches S pat (term_in pair)) (matches_all S pats (terms_in pairs)) is in
      none-append (open_in pair) (all_open pairs) (matched-done S pat pair one worked.0 first) (all-matched-done S pats pairs others worked.1 rest)

-- ---- the walk

-- the bindings and the dots of a walk are those of its terms
pub record IsOfTerms (S : Signature) (pats : Pats) (w : Walk) : Type 0 where
  pub binds : all_variable_places S pats w.terms ≡ w.binds
  pub dots : w.dots ≡ walked_dots (all_variables_found S pats w.terms) (all_dot_places S pats w.terms)
  pub every_dot : matches_all S pats w.terms ≡ true → w.dots ≡ map (λ d. (under_solution w.binds d.0, d.1)) (all_dot_places S pats w.terms)

pub own-walk : (S : Signature) (pats : Pats) (p : Point) (pairs : Pairs) → IsOwnWorked S pats p pairs → IsOfTerms S pats (walk_at p pairs)
own-walk S pats p pairs h =
    record {
      binds = ap (all_variable_places S pats) h.own.terms ∙ all-places S pats pairs h.own.shapes h.worked h.clean;
      dots = ap₂ walked_dots (sym (ap (all_variables_found S pats) h.own.terms ∙ all-finds S pats pairs h.own.shapes h.worked h.clean))
          (sym (ap (all_dot_places S pats) h.own.terms ∙ all-dots S pats pairs h.own.shapes h.worked h.clean));
      every_dot = λ is.
          let matched : matches_all S pats (terms_in pairs) ≡ true = sym (ap (matches_all S pats) h.own.terms) ∙ is in
          let done : AreDone pairs = (all-matched-done S pats pairs h.own.shapes h.worked matched, h.clean) in
          let written : all_dot_places S pats p.terms ≡ all_dots pairs = ap (all_dot_places S pats) h.own.terms ∙ all-dots S pats pairs h.own.shapes h.worked h.clean in
          all-kept-dots (all_bound pairs) (all_dots pairs) (all-done-there pairs done)
          ∙ ap (map (λ d. (under_solution (map or_none (all_bound pairs)) d.0, d.1))) (sym written);
    }

own-claims : Signature → Pats → Claims
own-claims S pats = record {
  Before = IsOwn S pats;
  Then = IsOwnWorked S pats;
  Good = IsOfTerms S pats;
  Cause = λ e. Unit {0};
  Open = λ p pair. Unit {0};
}

own-outcomes : (S : Signature) (clause : ℕ) (pats : Pats) → Outcomes S clause (own-claims S pats)
unfolding own-claims
own-outcomes S clause pats = record {
  halts = λ e. tt;
  wrong = λ p pairs pair x type h o tidy to none. tt;
  no_number = λ p pairs pair x found n number qs h at is none. tt;
  solved = λ p pairs pair x found n number qs c steps context solution h at is there runs.
      own-moves S pats p pairs context (solution_for p solution) h.own;
  impossible = λ p pairs pair x found n number qs c steps context u v h at is there runs. tt;
  stuck = λ p pairs pair x found number c steps context u v why h at tried there runs. tt;
  not_absurd = λ p pairs pair x found number c steps context solution h at other there runs. tt;
  ends = λ p pairs pair x found h at other all. own-walk S pats p pairs h;
}

own-turns : (S : Signature) (clause : ℕ) (pats : Pats) → AreWhole S pats → Turns S clause (own-claims S pats)
unfolding own-claims
own-turns S clause pats whole = record {
  halts = λ e. tt;
  works = λ p pairs new h all clean. own-works S pats p pairs new whole h all clean;
  drops = λ p pairs new clash h all e. tt;
  opens = λ p pairs h. any-pairs (all_open pairs);
  ends = λ p pairs h e. own-walk S pats p pairs h;
  looks = look-holds S clause (own-claims S pats) (own-outcomes S clause pats);
  forced = λ p pairs h pair u o to e. tt;
}

pub walk-of_terms : (S : Signature) (context : Telescope) (goal : Term) (terms : List Term) (pats : Pats) (binds : ℕ) (right : Right) (number left : ℕ)
    → IsClauseFor S terms pats binds → Holds (IsOfTerms S pats) (λ e. Unit {0}) (own_walk_of S context goal terms (Is pats binds right) number left).0
unfolding own-claims
walk-of_terms S context goal terms pats binds right number left for =
    and_next-holds (λ p. IsOwn S pats p (waiting pats terms)) (IsOfTerms S pats) (λ e. Unit {0})
    (answers (or_halts (bounded_point (start_at context goal terms))) left) _
    (keeping-holds S (λ p. IsOwn S pats p (waiting pats terms)) (λ e. Unit {0}) (start_at context goal terms) (λ e. tt)
    (own-starts S context goal terms pats binds for))
    (λ p rest h. walk-holds S number (own-claims S pats) (own-turns S number pats for.whole) (all_left (waiting pats terms)) p (waiting pats terms) rest h)

pub walk_binds : WalkBinds
walk_binds = λ S context goal terms pats binds right number left given for.
    answer-of (IsOfTerms S pats) (λ w. all_variable_places S pats w.terms ≡ w.binds) (λ e. Unit {0})
    (own_walk_of S context goal terms (Is pats binds right) number left).0 (λ w h. h.binds)
    (walk-of_terms S context goal terms pats binds right number left for)

pub walk_keeps_dots : WalkKeepsDots
walk_keeps_dots = λ S context goal terms pats binds right number left given for.
    answer-of (IsOfTerms S pats) (λ w. w.dots ≡ walked_dots (all_variables_found S pats w.terms) (all_dot_places S pats w.terms)) (λ e. Unit {0})
    (own_walk_of S context goal terms (Is pats binds right) number left).0 (λ w h. h.dots)
    (walk-of_terms S context goal terms pats binds right number left for)

pub walk_keeps_all_dots : WalkKeepsAllDots
walk_keeps_all_dots = λ S context goal terms pats binds right number left given for.
    answer-of (IsOfTerms S pats) (λ w. matches_all S pats w.terms ≡ true → w.dots ≡ map (λ d. (under_solution w.binds d.0, d.1)) (all_dot_places S pats w.terms)) (λ e. Unit {0})
    (own_walk_of S context goal terms (Is pats binds right) number left).0 (λ w h. h.every_dot)
    (walk-of_terms S context goal terms pats binds right number left for)
