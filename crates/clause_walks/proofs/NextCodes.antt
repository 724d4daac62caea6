-- The code's answers at the parts of a turn.
use Rattle.std.proofs.Common.{◌≡◌, ℕ, ◌==◌, true, false, None, Result, Ok, Err, IfOk, List, [], ◌∷◌, length, refl, sym, ap, ap₂, ◌∙◌, subst as transport}
use Rattle.theory.specs.Terms.{Term}
use Rattle.theory.specs.Telescopes.{Telescope}
use Rattle.theory.specs.Signatures.{Signature}
use Rattle.core_terms.specs.Answers.{Spent, and_next}
use Rattle.core_terms.specs.CaseTrees.{Step}
use Rattle.core_terms.specs.Patterns.{Pat}
use Rattle.core_terms.specs.declared.stop.Stop.{Stop}
use Rattle.unification.specs.Outcomes.{Outcome, Solved}
use Rattle.case_trees.specs.Keeping.{keep_all}
use Rattle.case_trees.specs.Looking.{first_found}
use Rattle.case_trees.specs.Pairs.{Pairs}
use Rattle.case_trees.specs.Points.{Point}
use Rattle.case_trees.specs.Stops.{TreeStop, Halts, Stopping, or_halts, answers}
use Rattle.case_trees.specs.Working.{of_columns, work_pairs}
use Rattle.clause_walks.specs.CodeWalks.{Next, solved_next, own_next, next_reached, next_at}
use Rattle.clause_walks.specs.Forgetting.{CoverAll}
use Rattle.clause_walks.specs.Reaching.{Reached, reach}
use Rattle.clause_walks.specs.Stops.{Tells, Yields}
use Rattle.clause_walks.specs.declared.stops.TreeStop as code
use Rattle.clause_walks.proofs.Covering.{worked-covered}
use Rattle.clause_walks.proofs.TurnParts.{solved-on}

-- ---- the pattern's own constructor

pub solved-ok : (clause : ℕ) (p : Point) (pairs : Pairs) (o : Outcome) (steps : List Step) (context G : Telescope) (solution us : List Term) (n : Next)
    → o ≡ Solved steps context solution → G ≡ context → us ≡ solution → ◌≡◌ {A = Result Next Stop} (Ok n) (solved_next p pairs G us)
    → ◌≡◌ {A = Result Next TreeStop} (Ok n) (own_next clause p pairs o)
solved-ok clause p pairs o steps context G solution us n is same also h =
    ap or_halts h
    ∙ (ap₂ (λ G us. or_halts (solved_next p pairs G us)) same also ∙ (solved-on p pairs context solution ∙ ap (own_next clause p pairs) (sym is)))

pub solved-err : (clause : ℕ) (p : Point) (pairs : Pairs) (o : Outcome) (steps : List Step) (context G : Telescope) (solution us : List Term) (e : Stop)
    → o ≡ Solved steps context solution → G ≡ context → us ≡ solution → ◌≡◌ {A = Result Next Stop} (Err e) (solved_next p pairs G us)
    → ◌≡◌ {A = Result Next TreeStop} (Err (Halts e)) (own_next clause p pairs o)
solved-err clause p pairs o steps context G solution us e is same also h =
    ap or_halts h
    ∙ (ap₂ (λ G us. or_halts (solved_next p pairs G us)) same also ∙ (solved-on p pairs context solution ∙ ap (own_next clause p pairs) (sym is)))

-- ---- an open pair

pub tells-yields : {A B : Type 0} (f : A → B) (r : Result A code.TreeStop) (meant : Result B TreeStop) (left : ℕ) → Tells f r meant → Yields f r left (answers meant left)
tells-yields f (Ok a) meant left h = ap (λ m. answers m left) h
tells-yields f (Err e) meant left h = λ other. ap (λ m. answers m left) (h other)

module _ (S : Signature) (clause : ℕ) (p : Point) (pairs : Pairs) (left rest : ℕ) where
  -- with pairs that are open
  some-open : (waiting : List (Pat × Term)) → (length waiting == 0) ≡ false
      → and_next (first_found S clause p.context (reach S true clause p.context) waiting None None left) (λ r rest. answers (next_reached clause p pairs r) rest)
      ≡ next_at S clause p pairs waiting left
  some-open [] some = absurd (cc)
  some-open (pair ∷ others) some = refl

  pub open-refused : (waiting : List (Pat × Term)) (e : TreeStop) → (length waiting == 0) ≡ false
      → ◌≡◌ {A = Stopping Reached} (Err e, rest) (first_found S clause p.context (reach S true clause p.context) waiting None None left)
      → ◌≡◌ {A = Stopping Next} (Err e, rest) (next_at S clause p pairs waiting left)
  open-refused waiting e some h =
      ap (λ s. and_next s (λ r rest. answers (next_reached clause p pairs r) rest)) h ∙ some-open waiting some

  pub open-next : (waiting : List (Pat × Term)) (r : Reached) → (length waiting == 0) ≡ false
      → ◌≡◌ {A = Stopping Reached} (Ok r, rest) (first_found S clause p.context (reach S true clause p.context) waiting None None left)
      → answers (next_reached clause p pairs r) rest ≡ next_at S clause p pairs waiting left
  open-next waiting r some h =
      ap (λ s. and_next s (λ r rest. answers (next_reached clause p pairs r) rest)) h ∙ some-open waiting some

-- ---- worked pairs

pub worked-covers : (S : Signature) (pairs worked : Pairs) (us : List Term) (left rest : ℕ) → CoverAll S pairs us
    → ◌≡◌ {A = Spent Pairs} (Ok worked, rest) (work_pairs S of_columns pairs left) → CoverAll S worked (keep_all S worked us)
worked-covers S pairs worked us left rest h e =
    transport (λ (s : Spent Pairs). IfOk s.0 (λ new. CoverAll S new (keep_all S new us))) (sym e) (worked-covered S of_columns pairs left us h)
