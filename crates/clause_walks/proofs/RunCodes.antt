-- How the code runs the problems of constructors.
use Rattle.std.proofs.Common.{◌≡◌, ℕ, zero, suc, ◌+◌, ◌-◌, ◌<◌, Some, option_map, slice_get, Result, Ok, Err, List, [], ◌∷◌, ◌++◌, length, map, take, drop, refl, sym, ap, ap₂, ◌∙◌, subst as transport, arith}
use Rattle.std.proofs.lemmas.List.{length-map, map-append}
use Rattle.std.proofs.lemmas.Option.{slice_get-map}
use Rattle.theory.specs.Telescopes.{Telescope}
use Rattle.theory.specs.Signatures.{Signature}
use Rattle.core_terms.specs.Answers.{Spent}
use Rattle.core_terms.specs.declared.stop.Stop.{Stop}
use Rattle.core_sig.specs.Meanings.{argument_of, constructor_of}
use Rattle.core_sig.specs.declared.family.Constructor.{Constructor}
use Rattle.unification.specs.Outcomes.{Outcome}
use Rattle.unification.specs.Runs.{unify_of}
use Rattle.unification.specs.ScopedStates.{IsScopedProblem}
use Rattle.unification.specs.States as pure
use Rattle.case_trees.specs.Problems.{Member, problem_of}
use Rattle.case_trees.specs.Stops.{Halts, Stopping}
use Rattle.case_trees.specs.Looking.{Look, Passed, Looked, StuckRun, run_all}
use Rattle.clause_walks.specs.LookMeanings.{ran_of, ends_of}
use Rattle.clause_walks.specs.Reaching.{RunEnd, run_end, run_one, sorted, ends_behind, run_wanted}
use Rattle.problems.specs.ProblemsMade.{problem_made}
use Rattle.problems.specs.MemberConditions.{AreFrom}
use Rattle.problems.specs.declared.members.Member as code
use Rattle.clause_walks.specs.declared.running.Ran.{Ran}
use Rattle.clause_walks.proofs.DeepProblems.{one-deep, one-ends}
use Rattle.clause_walks.proofs.RunSteps.{run_on, run-goes, run-refused}

-- ---- one run

module _ (S : Signature) (context : Telescope) (x : ℕ) (m : Member) (number p : ℕ) (con : Constructor) (left : ℕ) where
  pub code-deep : (e : Stop) → IsScopedProblem S (problem_of context x m number (constructor_of p con))
      → ◌≡◌ {A = Result pure.Problem Stop} (Err e) (problem_made context x m number (constructor_of p con))
      → ◌≡◌ {A = Spent RunEnd} (Err e, left) (run_one S context x m number (constructor_of p con) left)
  code-deep e scoped h = one-deep S context x m number (constructor_of p con) left e scoped.left_length scoped.right_length h

  pub code-ends : (q : pure.Problem) (mid : ℕ) (o : Outcome) (r : RunEnd)
      → ◌≡◌ {A = Result pure.Problem Stop} (Ok q) (problem_made context x m number (constructor_of p con)) → ◌≡◌ {A = Spent Outcome} (Ok o, mid) (unify_of S q left)
      → r ≡ run_end (length con.args) q o → ◌≡◌ {A = Spent RunEnd} (Ok r, mid) (run_one S context x m number (constructor_of p con) left)
  code-ends q mid o r made run e =
      ap (λ r. (Ok r, mid)) (e ∙ ap (λ k. run_end k q o) (sym (length-map con.args (argument_of p))))
      ∙ one-ends S context x m number (constructor_of p con) q left mid o made run

-- ---- runs after one another

module _ (S : Signature) (context : Telescope) (x : ℕ) (m : Member) (number p : ℕ) (cons rest : List Constructor) (con : Constructor) (made : List Ran)
    (left mid : ℕ) (split : cons ≡ con ∷ rest) where
  abbrev pub all : Stopping (Look (List RunEnd))
  all = ends_behind (ends_of made) (run_all S context x m number (map (constructor_of p) cons) left)

  abbrev pub one : Spent RunEnd
  one = run_one S context x m number (constructor_of p con) left

  again : ends_behind (ends_of made) (run_all S context x m number (constructor_of p con ∷ map (constructor_of p) rest) left) ≡ all
  again = ap (λ cs. ends_behind (ends_of made) (run_all S context x m number (map (constructor_of p) cs) left)) (sym split)

  pub code-goes : (next : ℕ) (more : List Ran) (ran : Ran) (first : RunEnd) → next ≡ number + 1 → more ≡ made ++ ran ∷ []
      → Ok (ran_of ran) ≡ sorted first → ◌≡◌ {A = Spent RunEnd} (Ok first, mid) one
      → ends_behind (ends_of more) (run_all S context x m next (map (constructor_of p) rest) mid) ≡ all
  code-goes next more ran first en em sort run =
      ap₂ (λ runs k. ends_behind runs (run_all S context x m k (map (constructor_of p) rest) mid)) (ap ends_of em ∙ map-append ran_of made (ran ∷ [])) en
      ∙ (ap (λ r. run_on S context x m number (map (constructor_of p) rest) (ends_of made) r mid) sort
      ∙ (run-goes S context x m number (constructor_of p con) (map (constructor_of p) rest) (ends_of made) left mid first run ∙ again))

  pub code-stuck : (s : StuckRun) (first : RunEnd) → Err s ≡ sorted first → ◌≡◌ {A = Spent RunEnd} (Ok first, mid) one
      → ◌≡◌ {A = Stopping (Look (List RunEnd))} (Ok (Passed s), mid) all
  code-stuck s first sort run =
      ap (λ r. run_on S context x m number (map (constructor_of p) rest) (ends_of made) r mid) sort
      ∙ (run-goes S context x m number (constructor_of p con) (map (constructor_of p) rest) (ends_of made) left mid first run ∙ again)

  pub code-refused : (e : Stop) → ◌≡◌ {A = Spent RunEnd} (Err e, mid) one → ◌≡◌ {A = Stopping (Look (List RunEnd))} (Err (Halts e), mid) all
  code-refused e run = run-refused S context x m number (constructor_of p con) (map (constructor_of p) rest) (ends_of made) left mid e run ∙ again

-- ---- the constructors that are run

drop-item : {A : Type 0} (xs : List A) (n : ℕ) (y : A) (ys : List A) → y ∷ ys ≡ drop n xs → (slice_get xs n ≡ Some y) × (ys ≡ drop (n + 1) xs)
drop-item [] zero y ys e = absurd (cc)
drop-item [] (suc n) y ys e = absurd (cc)
drop-item (x ∷ xs) zero y ys e = (cc, cc)
drop-item (x ∷ xs) (suc n) y ys e =
    let next : suc n + 1 ≡ suc (n + 1) = omega arith in
    let h = drop-item xs n y ys e in
    (h.0, rw next h.1)

from-drop : (m : code.Member) (number : ℕ) (cs : List Constructor) → cs ≡ drop number m.family.now.cons → AreFrom m number cs
from-drop m number [] e = tt
from-drop m number (c ∷ cs) e = let h = drop-item m.family.now.cons number c cs e in (h.0, from-drop m (number + 1) cs h.1)

-- all of them
pub all-from : (m : code.Member) (cs : List Constructor) → cs ≡ m.family.now.cons → AreFrom m 0 cs
all-from m cs e = from-drop m 0 cs e

one-item : {A : Type 0} (xs : List A) (n : ℕ) → n < length xs → (x : A) × (slice_get xs n ≡ Some x) × (take 1 (drop n xs) ≡ x ∷ [])
one-item [] n less = absurd (omega arith)
one-item (x ∷ xs) zero less = (x, refl, refl)
one-item (x ∷ xs) (suc n) less = one-item xs n (omega arith)

-- one of them, as the code takes it from the slice
pub one-from : (m : code.Member) (number : ℕ) (cs : List Constructor) → cs ≡ m.family.now.cons → number < length cs
    → AreFrom m number (take (number + 1 - number) (drop number cs))
one-from m number cs e less =
    let one : number + 1 - number ≡ 1 = omega arith in
    let h = one-item cs number less in
    rw (one, h.2) (transport (λ ds. slice_get ds number ≡ Some h.0) e h.1, tt)

pub code-wanted : (S : Signature) (clause : ℕ) (context : Telescope) (x : ℕ) (found : Looked) (number p : ℕ) (cs all : List Constructor) (made : List Ran) (left : ℕ)
    → cs ≡ all → number < length cs → made ≡ []
    → ends_behind (ends_of made) (run_all S context x found.member number (map (constructor_of p) (take (number + 1 - number) (drop number cs))) left)
    ≡ ends_behind [] (run_wanted S clause context x found number (slice_get (map (constructor_of p) all) number) left)
code-wanted S clause context x found number p cs all made left e less none =
    let one : number + 1 - number ≡ 1 = omega arith in
    let h = one-item cs number less in
    ap (λ runs. ends_behind (ends_of runs) (run_all S context x found.member number (map (constructor_of p) (take (number + 1 - number) (drop number cs))) left)) none
    ∙ (ap (λ k. ends_behind [] (run_all S context x found.member number (map (constructor_of p) (take k (drop number cs))) left)) one
    ∙ (ap (λ ds. ends_behind [] (run_all S context x found.member number (map (constructor_of p) ds) left)) h.2
    ∙ ap (λ c. ends_behind [] (run_wanted S clause context x found number c left))
    (sym (slice_get-map (constructor_of p) all number ∙ ap (option_map (constructor_of p)) (transport (λ ds. slice_get ds number ≡ Some h.0) e h.1)))))
