-- Terms that match patterns fit them, over each signature with the families of the one over which they match.
use Rattle.std.proofs.Common.{◌≡◌, ℕ, true, Option, Some, None, option_and_then, List, [], ◌∷◌, ◌++◌, map, slice_get, refl, sym, ap, ap₂, ◌∙◌, subst as transport}
use Rattle.std.proofs.lemmas.Bool.{false≢true}
use Rattle.std.proofs.lemmas.Option.{none-some}
use Rattle.theory.specs.Terms.{Term, Con}
use Rattle.theory.specs.Telescopes.{applied}
use Rattle.theory.specs.Spines.{head_of, spine_of}
use Rattle.theory.specs.Families.{Family}
use Rattle.theory.specs.Signatures.{Signature, FamilyOf, IsEntryAt}
use Rattle.core_terms.specs.Patterns as pattern
use Rattle.core_terms.specs.Patterns.{Pat, Pats}
use Rattle.kernel_reduce.specs.Entries.{family_at}
use Rattle.kernel_reduce.proofs.LookUps.{family-found}
use Rattle.unification.specs.Built.{Built, built_of, with_spine, with_all}
use Rattle.unification.proofs.Constructors.{found, built-is}
use Rattle.case_trees.specs.pattern_vectors.Matching.{is_constructor, matches, matches_all, matches_built}
use Rattle.case_trees.proofs.pattern_vectors.Opens.{numbers-same}
use Rattle.case_trees.proofs.pattern_vectors.Separate.{and-both}
use Rattle.case_trees.specs.Pairs.{all_unbound}
use Rattle.case_trees.specs.OwnWalks.{or_none}
use Rattle.case_trees.specs.Places.{in_arguments, variable_places, all_variable_places}
use Rattle.clause_reports.specs.Equations.{shown_built, shown, all_shown}
use Rattle.function_session.specs.equation_laws.Fitting as fit
use Rattle.function_session.specs.equation_laws.Fitting.{Fits, AllFit}

-- the families of the one are families of the other
abbrev pub FamiliesStay : (W S : Signature) → Type 0
FamiliesStay W S = (n : ℕ) (f : Family) → family_at W n ≡ Some f → family_at S n ≡ Some f

with-family : (us : List Term) (n number : ℕ) → Family → Option Built
with-family us n number f = option_and_then (with_all n number f us) (slice_get f.constructors number)

constructor-stays : (W S : Signature) → FamiliesStay W S → (n number : ℕ) (us : List Term) (b : Built) (o : Option Family) → family_at W n ≡ o
    → option_and_then (with-family us n number) o ≡ Some b → option_and_then (with-family us n number) (family_at S n) ≡ Some b
constructor-stays W S stay n number us b None at e = absurd (none-some b e)
constructor-stays W S stay n number us b (Some f) at e = ap (option_and_then (with-family us n number)) (stay n f at) ∙ e

spine-stays : (W S : Signature) → FamiliesStay W S → (h : Term) (us : List Term) (b : Built) → with_spine W h us ≡ Some b → with_spine S h us ≡ Some b
unfolding with-family
spine-stays W S stay (Con n number) us b e = constructor-stays W S stay n number us b (family_at W n) refl e
spine-stays W S stay _ us b e = absurd (none-some b e)

-- a constructor with all its arguments is one there
pub built-stays : (W S : Signature) → FamiliesStay W S → (t : Term) (b : Built) → built_of W t ≡ Some b → built_of S t ≡ Some b
built-stays W S stay t b e = spine-stays W S stay (head_of t) (spine_of t) b e

built-fits : (W S : Signature) (written : Term → Term) → FamiliesStay W S → (n number : ℕ) (pats : Pats) (u : Term) (o : Option Built) → built_of W u ≡ o
    → matches_built n number (matches_all W pats) o ≡ true
    → ((us : List Term) → matches_all W pats us ≡ true → AllFit S written pats us (all_shown S written pats us) (all_variable_places W pats us))
    → Fits S written (pattern.Con n number pats) u (shown_built (all_shown S written pats) u (built_of S u))
    (in_arguments (all_variable_places W pats) (map or_none (all_unbound pats)) o)
built-fits W S written stay n number pats u None at is inner = absurd (false≢true is)
built-fits W S written stay n number pats u (Some b) at is inner =
    let (same, rest) = and-both (is_constructor n number b) (matches_all W pats b.arguments) is in
    let (same_n, same_number) = numbers-same n number b same in
    let entry : IsEntryAt S n (FamilyOf b.family) =
    transport (λ k. IsEntryAt S k (FamilyOf b.family)) same_n
    (family-found S b.n b.family (stay b.n b.family (found W u b at).family)) in
    let is_built : u ≡ applied (Con n number) (b.parameters ++ b.arguments) =
    (built-is W u b at).term ∙ ap₂ (λ m i. applied (Con m i) (b.parameters ++ b.arguments)) same_n same_number in
    let places = all_variable_places W pats b.arguments in
    let inside = all_shown S written pats b.arguments in
    let fits : Fits S written (pattern.Con n number pats) (applied (Con n number) (b.parameters ++ b.arguments)) (applied (Con n number) (b.parameters ++ inside)) places =
    fit.built n number b.family pats b.parameters b.arguments inside places entry (built-is W u b at).built.parameters (inner b.arguments rest) in
    transport (λ o. Fits S written (pattern.Con n number pats) u (shown_built (all_shown S written pats) u o) places) (sym (built-stays W S stay u b at))
    (transport (λ t. Fits S written (pattern.Con n number pats) t (applied (Con b.n b.number) (b.parameters ++ inside)) places) (sym is_built)
    (transport (λ h. Fits S written (pattern.Con n number pats) (applied (Con n number) (b.parameters ++ b.arguments)) (applied h (b.parameters ++ inside)) places)
    (ap₂ Con (sym same_n) (sym same_number)) fits))

mutual
  fits : (W S : Signature) (written : Term → Term) → FamiliesStay W S → (pat : Pat) (u : Term) → matches W pat u ≡ true
      → Fits S written pat u (shown S written pat u) (variable_places W pat u)
  fits W S written stay pattern.Bind u is = fit.variable u
  fits W S written stay pattern.Wild u is = fit.wild u
  fits W S written stay (pattern.Dot t) u is = fit.dot t u
  fits W S written stay (pattern.Con n number pats) u is =
      built-fits W S written stay n number pats u (built_of W u) refl is (λ us inner. all-fit W S written stay pats us inner)
  fits W S written stay pattern.Absurd u is = absurd (false≢true is)

  -- matched terms fit, what is shown of them has the written dots, and the terms of the variables are those at their places
  pub all-fit : (W S : Signature) (written : Term → Term) → FamiliesStay W S → (pats : Pats) (us : List Term) → matches_all W pats us ≡ true
      → AllFit S written pats us (all_shown S written pats us) (all_variable_places W pats us)
  all-fit W S written stay pattern.nil [] is = fit.none
  all-fit W S written stay pattern.nil (u ∷ us) is = absurd (false≢true is)
  all-fit W S written stay (pattern.cons pat pats) [] is = absurd (false≢true is)
  all-fit W S written stay (pattern.cons pat pats) (u ∷ us) is =
      let (first, rest) = and-both (matches W pat u) (matches_all W pats us) is in
      fit.more pat pats u (shown S written pat u) us (all_shown S written pats us) (variable_places W pat u) (all_variable_places W pats us)
      (fits W S written stay pat u first) (all-fit W S written stay pats us rest)

-- ---- the same dots, written otherwise

mutual
  one-written : (S : Signature) (g h : Term → Term) → ((t : Term) → g t ≡ h t) → (pat : Pat) (t u : Term) (ts : List Term) → Fits S g pat t u ts
      → Fits S h pat t u ts
  one-written S g h same _ _ _ _ (fit.variable t) = fit.variable t
  one-written S g h same _ _ _ _ (fit.wild t) = fit.wild t
  one-written S g h same _ _ _ _ (fit.dot s t) = transport (λ u. Fits S h (pattern.Dot s) t u []) (sym (same s)) (fit.dot s t)
  one-written S g h same _ _ _ _ (fit.built n number f pats ps ts us terms entry long all) =
      fit.built n number f pats ps ts us terms entry long (all-written S g h same pats ts us terms all)

  pub all-written : (S : Signature) (g h : Term → Term) → ((t : Term) → g t ≡ h t) → (pats : Pats) (ts us terms : List Term) → AllFit S g pats ts us terms
      → AllFit S h pats ts us terms
  all-written S g h same _ _ _ _ fit.none = fit.none
  all-written S g h same _ _ _ _ (fit.more pat pats t u ts us first rest one all) =
      fit.more pat pats t u ts us first rest (one-written S g h same pat t u first one) (all-written S g h same pats ts us rest all)
