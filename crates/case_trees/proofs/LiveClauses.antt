-- The clauses that are left at a node, each with the terms that it has reduced.
use Rattle.std.proofs.Common.{◌≡◌, ℕ, suc, ◌+◌, Bool, true, false, cond, Some, Result, Ok, Err, IfOk, List, [], ◌∷◌, map, sym, subst as transport, arith}
use Rattle.std.specs.List.{All}
use Rattle.theory.specs.Terms.{Term}
use Rattle.theory.specs.Substitutions.{fill}
use Rattle.theory.specs.Eliminators.{no_variable}
use Rattle.theory.specs.Signatures.{Signature, HasClosedBodies}
use Rattle.theory.specs.SignatureScopes.{IsScoped}
use Rattle.core_terms.specs.Answers.{and_then}
use Rattle.core_terms.specs.Patterns.{Pats}
use Rattle.core_terms.specs.Clauses as clause
use Rattle.core_terms.specs.Clauses.{Clauses, Right, Is}
use Rattle.core_terms.specs.declared.stop.Stop.{Stop}
use Rattle.core_terms.specs.declared.stop.Stop.TheVariants.{Deep}
use Rattle.tele_eq.specs.ReflexivityLaws.{EachConverts}
use Rattle.case_trees.specs.pattern_vectors.Columns.{AreWhole}
use Rattle.unification.proofs.UnderInstances.{each-same, each-inst}
use Rattle.case_trees.specs.Pairs.{Pairs, terms_in, are_low_pairs}
use Rattle.case_trees.specs.Keeping.{keep_all}
use Rattle.case_trees.specs.Points.{under_solution, moved_pairs}
use Rattle.case_trees.specs.Trees.{Live, all_live, moved_live}
use Rattle.case_trees.specs.Places.{clause_at}
use Rattle.case_trees.specs.Scoped.{AreClausesFor}
use Rattle.case_trees.proofs.Workings.{AllBecome}
use Rattle.case_trees.proofs.Shapes.{HaveShapes, waiting-shapes, all-shapes, moved-shapes, terms-moved}
use Rattle.case_trees.proofs.OwnTerms.{all-kept}
use Rattle.case_trees.proofs.OwnPlaces.{AreWorked}
use Rattle.case_trees.proofs.SharedTerms.{all-own-kept}
use Rattle.case_trees.proofs.Comparing.{all-compare}
use Rattle.case_trees.proofs.KeptConversion.{all-convert}
use Rattle.case_trees.proofs.Leading.{each-trans}

-- The pairs of a clause of the list have its patterns, and their terms convert to those of the node before any comparison.
pub record IsLiveAt (S : Signature) (clauses : Clauses) (plain : List Term) (c : Live) : Type 0 where
  pub pats : Pats
  pub binds : ℕ
  pub right : Right
  pub there : clause_at clauses c.number ≡ Some (Is pats binds right)
  pub whole : AreWhole S pats
  pub shapes : HaveShapes S pats c.pairs
  pub converts : EachConverts S plain (terms_in c.pairs)

abbrev pub AreLiveAt : Signature → Clauses → (plain : List Term) → List Live → Type 0
AreLiveAt S clauses plain [] = Unit {0}
AreLiveAt S clauses plain (c ∷ live) = IsLiveAt S clauses plain c × AreLiveAt S clauses plain live

-- the terms of each of the clauses are scoped
abbrev pub AreLiveScoped : Signature → ℕ → List Live → Type 0
AreLiveScoped S n [] = Unit {0}
AreLiveScoped S n (c ∷ live) = All (IsScoped S n) (terms_in c.pairs) × AreLiveScoped S n live

-- each of the clauses is worked
abbrev pub AllWorked : Signature → List Live → Type 0
AllWorked S [] = Unit {0}
AllWorked S (c ∷ live) = AreWorked S c.pairs × AllWorked S live

-- the clauses from a number on, at the start
pub all-live-at : (S : Signature) (all : Clauses) (number : ℕ) (terms : List Term) (clauses : Clauses) → AreClausesFor S terms clauses
    → ((j : ℕ) → clause_at all (number + j) ≡ clause_at clauses j) → AreLiveAt S all terms (all_live number terms clauses)
all-live-at S all number terms clause.nil for at = tt
all-live-at S all number terms (clause.cons (Is pats binds right) clauses) for at =
    let (shapes, same) = waiting-shapes S pats terms for.0.long in
    let here : number + 0 ≡ number = omega arith in (
      record {
        pats = pats;
        binds = binds;
        right = right;
        there = transport (λ k. clause_at all k ≡ Some (Is pats binds right)) here (at 0);
        whole = for.0.whole;
        shapes = shapes;
        converts = transport (EachConverts S terms) (sym same) (each-same S terms);
      },
      all-live-at S all (number + 1) terms clauses for.1
          (λ j. let next : number + suc j ≡ number + 1 + j = omega arith in transport (λ k. clause_at all k ≡ clause_at clauses j) next (at (suc j))),
    )

-- a clause that is worked
pub live-works : (S : Signature) (clauses : Clauses) (plain : List Term) (c : Live) (new : Pairs) → IsLiveAt S clauses plain c → AllBecome S c.pairs new
    → IsLiveAt S clauses plain (record { number = c.number; pairs = new })
live-works S clauses plain c new h all =
    let kept = (all-compare S h.pats c.pairs new (terms_in c.pairs) all (all-own-kept S h.pats c.pairs h.shapes) h.whole).1 in
    record {
      pats = h.pats;
      binds = h.binds;
      right = h.right;
      there = h.there;
      whole = h.whole;
      shapes = (all-shapes S h.pats c.pairs new all h.shapes h.whole).0;
      converts = each-trans S plain (terms_in c.pairs) (terms_in new) h.converts
          (transport (EachConverts S (terms_in c.pairs)) (all-kept S h.pats c.pairs new all h.shapes h.whole)
          (all-convert S (terms_in c.pairs) (keep_all S new (terms_in c.pairs)) kept));
    }

live-moves : (S : Signature) → HasClosedBodies S → (solution : List Term) (clauses : Clauses) (plain : List Term) (c : Live) → IsLiveAt S clauses plain c
    → IsLiveAt S clauses (map (under_solution solution) plain) (record { number = c.number; pairs = moved_pairs solution c.pairs })
live-moves S closed solution clauses plain c h =
    record {
      pats = h.pats;
      binds = h.binds;
      right = h.right;
      there = h.there;
      whole = h.whole;
      shapes = moved-shapes S (fill no_variable solution) h.pats c.pairs h.shapes;
      converts = transport (EachConverts S (map (under_solution solution) plain)) (sym (terms-moved (fill no_variable solution) c.pairs))
          (each-inst S closed (fill no_variable solution) plain (terms_in c.pairs) h.converts);
    }

-- the clauses after a solution
pub all-live-move : (S : Signature) → HasClosedBodies S → (solution : List Term) (clauses : Clauses) (plain : List Term) (live : List Live)
    → AreLiveAt S clauses plain live → IfOk (moved_live solution live) (AreLiveAt S clauses (map (under_solution solution) plain))
all-live-move S closed solution clauses plain [] h = tt
all-live-move S closed solution clauses plain (c ∷ live) h =
    by (are_low_pairs (moved_pairs solution c.pairs)) (moved_live solution live) (all-live-move S closed solution clauses plain live h.1)
  where
    by : (low : Bool) (others : Result (List Live) Stop) → IfOk others (AreLiveAt S clauses (map (under_solution solution) plain))
        → IfOk (and_then (cond low (Ok (moved_pairs solution c.pairs)) (Err Deep)) (λ pairs.
        and_then others (λ more_live. Ok (record { number = c.number; pairs = pairs } ∷ more_live))))
        (AreLiveAt S clauses (map (under_solution solution) plain))
    by true (Ok moved) k = (live-moves S closed solution clauses plain c h.0, k)
    by true (Err e) k = tt
    by false others k = tt
