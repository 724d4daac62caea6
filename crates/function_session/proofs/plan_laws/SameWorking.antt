-- Signatures of which the same is read have the same comparisons of patterns, and the same variables to split.
use mathlib.Core.Path.{fun_ext}
use Rattle.std.proofs.Common.{◌≡◌, ℕ, ◌+◌, Bool, true, Option, option_and_then, List, [], ◌∷◌, length, Ok, refl, ap, ap₂, ◌∙◌}
use Rattle.theory.specs.Terms.{Term, Fam}
use Rattle.theory.specs.Telescopes.{Telescope}
use Rattle.theory.specs.Families.{Constructor}
use Rattle.theory.specs.Signatures.{Signature}
use Rattle.theory.specs.Spines.{head_of, spine_of}
use Rattle.core_terms.specs.Answers.{Spent, and_next}
use Rattle.core_terms.specs.Patterns as pattern
use Rattle.core_terms.specs.Patterns.{Pat, Pats}
use Rattle.kernel_reduce.specs.Reduction.{answered}
use Rattle.unification.specs.Built.{Built, built_of}
use Rattle.unification.specs.Outcomes.{Outcome}
use Rattle.unification.specs.Solutions.{variable_in}
use Rattle.unification.specs.States.{Problem}
use Rattle.case_trees.specs.Keeping.{keep, keep_all, kept_over, unless_built}
use Rattle.case_trees.specs.Looking.{Further, Look, Looked, Ran, at_open, first_found, if_expected, look_at_type, looked_at, run_all, unless_stuck}
use Rattle.case_trees.specs.Pairs as pair
use Rattle.case_trees.specs.Pairs.{Binds, Builds, Clashes, Keeps, Pair, Pairs, Passes, Waits, term_in, terms_in, waiting}
use Rattle.case_trees.specs.Points.{bounded_point, point_keeping}
use Rattle.case_trees.specs.Problems.{Member, member_at, member_of, member_with, problem_of, type_of_variable}
use Rattle.case_trees.specs.Stops.{Stopping, TreeStop, answers, halting}
use Rattle.case_trees.specs.Working.{Rooms, against_absurd, compared, compared_head, in_room, of_arguments, unless_clash, work_pair, work_pairs, work_pattern, work_patterns}
use Rattle.function_session.specs.plan_laws.Reading.{AreReadAlike}
use Rattle.function_session.proofs.plan_laws.SameReduction.{tidy-is, whnf-is}
use Rattle.function_session.proofs.plan_laws.SameRuns.{unify-is}
use Rattle.function_session.proofs.plan_laws.SameTrials.{built-is}

abbrev Heads : Type 0
Heads = Bool → ℕ → Term → Spent Term

abbrev Finds : Type 0
Finds = Term → Option Built

module _ (S T : Signature) (alike : AreReadAlike S T) where
  head-is : compared_head S ≡ compared_head T
  head-is =
      ap₂ {C = (room left : ℕ) → Term → Spent Term}
      (λ (w : Heads) (find : Finds) (room left : ℕ) (t : Term). and_next (w true left t) (λ w rest. answered (in_room room w (find w)) rest))
      (whnf-is S T alike) (built-is S T alike)

  mutual
    pattern-same : (room : ℕ) (pat : Pat) (t : Term) (left : ℕ) → work_pattern S room pat t left ≡ work_pattern T room pat t left
    pattern-same room pattern.Bind t left = refl
    pattern-same room pattern.Wild t left = refl
    pattern-same room (pattern.Dot written) t left = refl
    pattern-same room (pattern.Con n number pats) t left =
        ap₂
        (λ (head : (room left : ℕ) → Term → Spent Term) (find : Finds).
        and_next (head room left t) (λ w rest. compared n number pats t w (work_patterns S (of_arguments room) pats) (find w) rest))
        head-is (built-is S T alike)
        ∙ ap
        (λ (work : List Term → ℕ → Spent Pairs).
        and_next (compared_head T room left t) (λ w rest. compared n number pats t w work (built_of T w) rest))
        (fun_ext (λ us. fun_ext (λ n. patterns-same (of_arguments room) pats us n)))
    pattern-same room pattern.Absurd t left =
        ap₂
        (λ (head : (room left : ℕ) → Term → Spent Term) (find : Finds).
        and_next (head room left t) (λ w rest. answered (Ok (against_absurd t w (find w))) rest))
        head-is (built-is S T alike)

    patterns-same : (rooms : Rooms) (pats : Pats) (terms : List Term) (left : ℕ)
        → work_patterns S rooms pats terms left ≡ work_patterns T rooms pats terms left
    patterns-same rooms (pattern.cons pat pats) (t ∷ terms) left =
        ap₂ (λ (first : Spent Pair) (work : ℕ → Spent Pairs). and_next first (unless_clash (waiting pats terms) work))
        (pattern-same (rooms (length (t ∷ terms))) pat t left) (fun_ext (λ n. patterns-same rooms pats terms n))
    patterns-same rooms (pattern.cons pat pats) [] left = refl
    patterns-same rooms pattern.nil terms left = refl

  mutual
    pair-same : (room : ℕ) (p : Pair) (left : ℕ) → work_pair S room p left ≡ work_pair T room p left
    pair-same room (Waits pat t) left = pattern-same room pat t left
    pair-same room (Builds n number ps pairs) left =
        ap (λ (work : Spent Pairs). and_next work (λ worked rest. answered (Ok (Builds n number ps worked)) rest))
        (pairs-same (of_arguments room) pairs left)
    pair-same room (Binds t) left = refl
    pair-same room (Passes t) left = refl
    pair-same room (Keeps written t) left = refl
    pair-same room (Clashes pat t) left = refl

    pairs-same : (rooms : Rooms) (pairs : Pairs) (left : ℕ) → work_pairs S rooms pairs left ≡ work_pairs T rooms pairs left
    pairs-same rooms pair.nil left = refl
    pairs-same rooms (pair.cons p pairs) left =
        ap₂ (λ (first : Spent Pair) (work : ℕ → Spent Pairs). and_next first (unless_clash pairs work))
        (pair-same (rooms (length (terms_in (pair.cons p pairs)))) p left) (fun_ext (λ n. pairs-same rooms pairs n))

  pub work-is : work_pairs S ≡ work_pairs T
  work-is = fun_ext (λ rooms. fun_ext (λ pairs. fun_ext (λ left. pairs-same rooms pairs left)))

  mutual
    keep-same : (p : Pair) (t : Term) → keep S p t ≡ keep T p t
    keep-same (Builds n number ps pairs) t =
        ap₂ (λ (keeps : List Term → List Term) (find : Finds). kept_over keeps (term_in (Builds n number ps pairs)) (find t))
        (fun_ext (λ us. keep-all-same pairs us)) (built-is S T alike)
    keep-same (Clashes pat w) t = ap (λ (find : Finds). unless_built w t (find t)) (built-is S T alike)
    keep-same (Waits pat u) t = refl
    keep-same (Binds u) t = refl
    keep-same (Passes u) t = refl
    keep-same (Keeps written u) t = refl

    keep-all-same : (pairs : Pairs) (terms : List Term) → keep_all S pairs terms ≡ keep_all T pairs terms
    keep-all-same (pair.cons p pairs) (t ∷ terms) = ap₂ ◌∷◌ (keep-same p t) (keep-all-same pairs terms)
    keep-all-same (pair.cons p pairs) [] = refl
    keep-all-same pair.nil terms = refl

  pub keeping-is : point_keeping S ≡ point_keeping T
  keeping-is =
      fun_ext (λ p. fun_ext (λ pairs. ap (λ (terms : List Term). bounded_point (record p { terms = terms })) (keep-all-same pairs p.terms)))

  -- ---- looking

  pub found-same : {A : Type 0} (clause : ℕ) (context : Telescope) (look : Pat → ℕ → ℕ → Stopping (Look A)) (pairs : List (Pat × Term))
      (stuck forced : Option TreeStop) (left : ℕ)
      → first_found S clause context look pairs stuck forced left ≡ first_found T clause context look pairs stuck forced left
  found-same clause context look [] stuck forced left = refl
  found-same {A} clause context look (p ∷ pairs) stuck forced left =
      ap₂
      (λ (w : ℕ → Term → Spent Term) (further : Further A).
      and_next (halting (w left p.1)) (λ u rest. at_open clause context look further p.0 u (variable_in u) stuck forced rest))
      (tidy-is S T alike)
      (fun_ext (λ stuck. fun_ext (λ forced. fun_ext (λ left. found-same clause context look pairs stuck forced left))))

  member-at-same : (h : Term) (spine : List Term) → member_at S h spine ≡ member_at T h spine
  member-at-same (Fam n) spine = ap (option_and_then (member_with n spine)) (alike.families n)
  member-at-same _ spine = refl

  pub member-is : member_of S ≡ member_of T
  member-is = fun_ext (λ t. member-at-same (head_of t) (spine_of t))

  pub type-is : look_at_type S ≡ look_at_type T
  type-is =
      ap₂ {C = (clause : ℕ) → Telescope → Pat → (x : ℕ) → ℕ → Stopping Looked}
      (λ (w : Heads) (of : Term → Option Member) (clause : ℕ) (context : Telescope) (pat : Pat) (x left : ℕ).
      and_next (halting (w true left (type_of_variable context x))) (λ type rest.
      answers (looked_at clause context type (option_and_then (if_expected pat) (of type))) rest))
      (whnf-is S T alike) member-is

  pub runs-same : (context : Telescope) (x : ℕ) (m : Member) (number : ℕ) (constructors : List Constructor) (left : ℕ)
      → run_all S context x m number constructors left ≡ run_all T context x m number constructors left
  runs-same context x m number [] left = refl
  runs-same context x m number (c ∷ constructors) left =
      ap₂
      (λ (unify : Problem → ℕ → Spent Outcome) (others : ℕ → Stopping (Look (List Ran))).
      and_next (halting (unify (problem_of context x m number c) left)) (unless_stuck c (problem_of context x m number c) others))
      (unify-is S T alike) (fun_ext (λ n. runs-same context x m (number + 1) constructors n))
