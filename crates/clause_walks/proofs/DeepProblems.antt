-- Where a part of the family's record in the problem of a constructor is too high, its run is Deep.
use Rattle.std.proofs.Common.{◌≡◌, ℕ, nat_le, ◌&&◌, Bool, true, false, cond, Result, Ok, Err, List, [], ◌∷◌, ◌++◌, length, map, refl, sym, ap, ◌∙◌}
use Rattle.theory.specs.Terms.{Term}
use Rattle.theory.specs.Telescopes.{Telescope, variables}
use Rattle.theory.specs.Families.{Constructor}
use Rattle.theory.specs.Signatures.{Signature}
use Rattle.core_terms.specs.Answers.{Spent, and_then, and_next, is_low, are_low, bounded_terms}
use Rattle.core_terms.specs.declared.stop.Stop.{Stop}
use Rattle.core_terms.specs.declared.stop.Stop.TheVariants.{Deep}
use Rattle.tele_eq.specs.Items.{Item}
use Rattle.tele_eq.specs.TelescopicEquality.{equations}
use Rattle.unification.specs.Heights.{are_low_items, are_low_equations, bounded_state, equations_made, start_made, most_places}
use Rattle.unification.specs.Injecting.{lifted}
use Rattle.unification.specs.Outcomes.{Outcome}
use Rattle.unification.specs.Records.{argument_items, family_items, constructor_terms}
use Rattle.unification.specs.Runs.{unify_of, run_of}
use Rattle.unification.specs.States.{Problem, State, starting}
use Rattle.problems.proofs.LowTerms.{deep-left}
use Rattle.case_trees.specs.Problems.{Member, problem_of}
use Rattle.clause_walks.specs.Reaching.{RunEnd, run_end, run_one}
use Rattle.problems.specs.ProblemsMade.{problem_made}
use Rattle.problems.proofs.ProblemParts.{and-none, err-is, made-by, ok-err, problem-is}

-- ---- a problem that can't start

low-behind : (context : Telescope) (X : List Item) → are_low_items X ≡ false → are_low (context ++ map (λ item. item.type) X) ≡ false
low-behind [] X e = low-types X ∙ e
  where
    low-types : (Y : List Item) → are_low (map (λ (item : Item). item.type) Y) ≡ are_low_items Y
    low-types [] = refl
    low-types (y ∷ Y) = ap (λ b. is_low y.type && b) (low-types Y)
low-behind (a ∷ context) X e = ap (λ b. is_low a && b) (low-behind context X e) ∙ and-none (is_low a)

-- each refusal of the equations is Deep
terms-deep : (ts : List Term) (go : Telescope → Result State Stop) → ((types : Telescope) → go types ≡ Err Deep) → and_then (bounded_terms ts) go ≡ Err Deep
terms-deep ts go h = by (are_low ts)
  where
    by : (fine : Bool) → and_then (cond {A = Result (List Term) Stop} fine (Ok ts) (Err Deep)) go ≡ Err Deep
    by true = h ts
    by false = refl

made-deep : (X : List Item) (us vs : List Term) (go : Telescope → Result State Stop) → ((types : Telescope) → go types ≡ Err Deep)
    → and_then (equations_made X us vs) go ≡ Err Deep
made-deep X us vs go h = by (nat_le (length X) most_places) (are_low_items X)
  where
    by : (few low : Bool)
        → and_then (cond few (and_then (cond {A = Result (List Item) Stop} low (Ok X) (Err Deep)) (λ items. bounded_terms (equations items us vs))) (Err Deep)) go ≡ Err Deep
    by true true = terms-deep (equations X us vs) go h
    by true false = refl
    by false low = refl

items-deep : (X : List Item) (us vs : List Term) → are_low_items X ≡ false → equations_made X us vs ≡ Err Deep
items-deep X us vs e = by (nat_le (length X) most_places) (are_low_items X) e
  where
    by : (few low : Bool) → low ≡ false
        → cond few (and_then (cond {A = Result (List Item) Stop} low (Ok X) (Err Deep)) (λ items. bounded_terms (equations items us vs))) (Err Deep) ≡ Err Deep
    by true true e = absurd (cc)
    by true false e = refl
    by false low e = refl

state-deep : (p : Problem) → are_low p.context ≡ false → (types : Telescope) → bounded_state (starting p types) ≡ Err Deep
state-deep p e types =
    ap (λ b. cond {A = Result State Stop} (b && (are_low_equations (starting p types).equations && are_low (variables (length p.context)))) (Ok (starting p types)) (Err Deep)) e

module _ (context : Telescope) (x : ℕ) (m : Member) (number : ℕ) (c : Constructor) (e : Stop)
    (left : length (problem_of context x m number c).left ≡ length (problem_of context x m number c).telescope)
    (right : length (problem_of context x m number c).right ≡ length (problem_of context x m number c).telescope) where
  abbrev p : Problem
  p = problem_of context x m number c

  abbrev A : List Item
  A = argument_items m.n m.parameters c

  abbrev F : List Item
  F = family_items m.n m.family (lifted (length c.arguments) m.parameters)

  abbrev L : List Term
  L = constructor_terms m.n number m.parameters c

  start-by : (first second third : Bool) → are_low_items A ≡ first → are_low_items F ≡ second → are_low L ≡ third
      → ◌≡◌ {A = Result Problem Stop} (Err e) (made-by first second third A F L p) → start_made p ≡ Err e
  start-by true true true ea ef el h = absurd (ok-err (sym h))
  start-by true true false ea ef el h =
      ap (λ r. and_then r (λ types. bounded_state (starting p types))) (deep-left F L p.right left right el) ∙ ap Err (err-is (sym h))
  start-by true false third ea ef el h =
      ap (λ r. and_then r (λ types. bounded_state (starting p types))) (items-deep F L p.right ef) ∙ ap Err (err-is (sym h))
  start-by false second third ea ef el h =
      made-deep F L p.right (λ types. bounded_state (starting p types)) (state-deep p (low-behind context A ea)) ∙ ap Err (err-is (sym h))

  start-deep : ◌≡◌ {A = Result Problem Stop} (Err e) (problem_made context x m number c) → start_made (problem_of context x m number c) ≡ Err e
  start-deep h = start-by (are_low_items A) (are_low_items F) (are_low L) refl refl refl h

-- the run that is Deep
pub one-deep : (S : Signature) (context : Telescope) (x : ℕ) (m : Member) (number : ℕ) (c : Constructor) (left : ℕ) (e : Stop)
    → length (problem_of context x m number c).left ≡ length (problem_of context x m number c).telescope
    → length (problem_of context x m number c).right ≡ length (problem_of context x m number c).telescope
    → ◌≡◌ {A = Result Problem Stop} (Err e) (problem_made context x m number c)
    → ◌≡◌ {A = Spent RunEnd} (Err e, left) (run_one S context x m number c left)
one-deep S context x m number c left e el er h =
    ap (λ r. and_next (and_next (r, left) (run_of S)) (λ o rest. (Ok (run_end (length c.arguments) (problem_of context x m number c) o), rest)))
    (sym (start-deep context x m number c e el er h))

-- and the one that has an outcome or is refused
pub one-ends : (S : Signature) (context : Telescope) (x : ℕ) (m : Member) (number : ℕ) (c : Constructor) (q : Problem) (left mid : ℕ) (o : Outcome)
    → ◌≡◌ {A = Result Problem Stop} (Ok q) (problem_made context x m number c) → ◌≡◌ {A = Spent Outcome} (Ok o, mid) (unify_of S q left)
    → ◌≡◌ {A = Spent RunEnd} (Ok (run_end (length c.arguments) q o), mid) (run_one S context x m number c left)
one-ends S context x m number c q left mid o made run =
    let same : q ≡ problem_of context x m number c = problem-is context x m number c q made in
    ap (λ (p : Problem). (Ok (run_end (length c.arguments) p o), mid)) same
    ∙ ap (λ r. and_next r (λ o rest. (Ok (run_end (length c.arguments) (problem_of context x m number c) o), rest))) (run ∙ ap (λ p. unify_of S p left) same)
