-- The looking goes from pair to pair, as each of them comes to something.
use Rattle.std.proofs.Common.{◌≡◌, ℕ, Bool, Option, Some, None, Result, Ok, Err, List, ◌∷◌, refl, sym, ap, ◌∙◌}
use Rattle.theory.specs.Terms.{Term}
use Rattle.theory.specs.Telescopes.{Telescope}
use Rattle.theory.specs.Signatures.{Signature}
use Rattle.core_terms.specs.Answers.{on_answer, and_next}
use Rattle.core_terms.specs.Patterns.{Pat}
use Rattle.core_terms.specs.declared.stop.Stop.{Stop}
use Rattle.kernel_reduce.specs.Tidying.{tidy_of}
use Rattle.unification.specs.Solutions.{variable_in}
use Rattle.case_trees.specs.Pairs.{or_later}
use Rattle.case_trees.specs.Stops.{TreeStop, Stopping, or_halts, answers}
use Rattle.case_trees.specs.Looking.{Look, Found, Passed, Further, behind_look, at_open, first_found}
use Rattle.clause_walks.specs.Reaching.{Reached, Arrival, Arrives, IsStuck, IsForced, reach, arrival, arrive_at, arrive}

-- how the looking goes on after a pair
abbrev pub go_on : Further Reached → (stuck forced : Option TreeStop) → Arrival → ℕ → Stopping Reached
go_on further stuck forced (Arrives r) left = answers (Ok r) left
go_on further stuck forced (IsStuck e) left = further (or_later stuck (Some e)) forced left
go_on further stuck forced (IsForced e) left = further stuck (or_later forced (Some e)) left

behind-arrives : (clause : ℕ) (further : Further Reached) (stuck forced : Option TreeStop) (r : Result (Look Reached) TreeStop) (left : ℕ)
    → and_next (r, left) (behind_look clause further stuck forced)
    ≡ and_next (and_next (r, left) (λ look rest. answers (Ok (arrival clause look)) rest)) (go_on further stuck forced)
behind-arrives clause further stuck forced (Err e) left = refl
behind-arrives clause further stuck forced (Ok (Found r)) left = refl
behind-arrives clause further stuck forced (Ok (Passed r)) left = refl

open-arrives : (S : Signature) (own : Bool) (clause : ℕ) (context : Telescope) (pat : Pat) (u : Term) (x : Option ℕ) (further : Further Reached)
    (stuck forced : Option TreeStop) (left : ℕ)
    → at_open clause context (reach S own clause context) further pat u x stuck forced left
    ≡ and_next (arrive_at S own clause context pat u x left) (go_on further stuck forced)
open-arrives S own clause context pat u None further stuck forced left = refl
open-arrives S own clause context pat u (Some x) further stuck forced left =
    behind-arrives clause further stuck forced (reach S own clause context pat x left).0 (reach S own clause context pat x left).1

pub first-arrives : (S : Signature) (own : Bool) (clause : ℕ) (context : Telescope) (pat : Pat) (t : Term) (pairs : List (Pat × Term))
    (stuck forced : Option TreeStop) (left : ℕ)
    → first_found S clause context (reach S own clause context) ((pat, t) ∷ pairs) stuck forced left
    ≡ and_next (arrive S own clause context pat t left) (go_on (first_found S clause context (reach S own clause context) pairs) stuck forced)
first-arrives S own clause context pat t pairs stuck forced left = by (tidy_of S left t).0 (tidy_of S left t).1
  where
    by : (r : Result Term Stop) (rest : ℕ)
        → on_answer (or_halts r) rest (λ u end.
        at_open clause context (reach S own clause context) (first_found S clause context (reach S own clause context) pairs) pat u (variable_in u) stuck forced end)
        ≡ and_next (on_answer (or_halts r) rest (λ u end. arrive_at S own clause context pat u (variable_in u) end))
        (go_on (first_found S clause context (reach S own clause context) pairs) stuck forced)
    by (Err e) rest = refl
    by (Ok u) rest =
        open-arrives S own clause context pat u (variable_in u) (first_found S clause context (reach S own clause context) pairs) stuck forced rest

-- ---- the code's answers at a pair

module _ (S : Signature) (own : Bool) (clause : ℕ) (context : Telescope) (pair : Pat × Term) (pairs : List (Pat × Term)) (stuck forced : Option TreeStop)
    (left mid : ℕ) where
  abbrev pub further : Further Reached
  further = first_found S clause context (reach S own clause context) pairs

  step : first_found S clause context (reach S own clause context) (pair ∷ pairs) stuck forced left
      ≡ and_next (arrive S own clause context pair.0 pair.1 left) (go_on further stuck forced)
  step = first-arrives S own clause context pair.0 pair.1 pairs stuck forced left

  pub looked-at : (a : Arrival) → ◌≡◌ {A = Stopping Arrival} (Ok a, mid) (arrive S own clause context pair.0 pair.1 left)
      → go_on further stuck forced a mid ≡ first_found S clause context (reach S own clause context) (pair ∷ pairs) stuck forced left
  looked-at a h = ap (λ r. and_next r (go_on further stuck forced)) h ∙ sym step

  pub look-refused : (e : TreeStop) → ◌≡◌ {A = Stopping Arrival} (Err e, mid) (arrive S own clause context pair.0 pair.1 left)
      → ◌≡◌ {A = Stopping Reached} (Err e, mid) (first_found S clause context (reach S own clause context) (pair ∷ pairs) stuck forced left)
  look-refused e h = ap (λ r. and_next r (go_on further stuck forced)) h ∙ sym step
