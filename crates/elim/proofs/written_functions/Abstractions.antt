-- The abstraction over a scrutinee beside the walk that it is made from: at the variables of the context, and the scrutinee for the new one,
-- the types are those of the arguments and the goal is that of the walk, up to conversion.
use Rattle.std.proofs.Common.{ℕ, zero, suc, ◌+◌, ◌-◌, ◌≤◌, false, List, [], ◌∷◌, ◌++◌, length, map, take, drop, Result, Ok, Err, IfOk, sym, subst as transport}
use Rattle.theory.specs.Conversion.{Converts, same}
use Rattle.theory.specs.Eliminators.{no_variable}
use Rattle.theory.specs.Signatures.{HasClosedBodies, Signature}
use Rattle.theory.specs.SignatureScopes.{IsScoped, IsScopedTelescope}
use Rattle.theory.specs.Substitutions.{extend, fill}
use Rattle.theory.specs.Telescopes.{Telescope}
use Rattle.theory.specs.Terms.{Term, Var, height, lift}
use Rattle.theory.proofs.Congruence.{converts-inst-each, converts-sym, converts-trans, converts_of_lift}
use Rattle.core_terms.proofs.Answers.{Answers, and_next-has}
use Rattle.core_terms.specs.Bounds.{most_height}
use Rattle.kernel_reduce.proofs.ReductionLaws.{normal-converts}
use Rattle.kernel_reduce.specs.Reduction.{nesting}
use Rattle.tele_eq.specs.Items.{term_at}
use Rattle.tele_eq.specs.ReflexivityLaws.{EachConverts}
use Rattle.unification.proofs.UnderInstances.{closed-bodies, each-append, each-length, each-same}
use Rattle.unification.specs.ScopedStates.{IsReady}
use Rattle.case_trees.specs.Points.{under_solution}
use Rattle.clause_reports.specs.elaboration.Walking.{helper_arguments}
use Rattle.with_abstraction.proofs.FormScopes.{AreFormsFitting, forms-fitting}
use Rattle.with_abstraction.proofs.GivenBack.{given-back}
use Rattle.with_abstraction.specs.Abstractions.{Abstracted, abstracted}
use Rattle.with_abstraction.specs.Laws.{GivesBack, at_terms, type_of_variable, types_at_terms}
use Rattle.with_abstraction.specs.NormalForms.{NormalForms, normal_forms_of, plain_normal_of, plain_normals_of}

-- ---- normal forms

-- a term, its context and a goal convert to their normal forms
pub record AreFormsOf (S : Signature) (context : Telescope) (goal t : Term) (m : NormalForms) : Type 0 where
  pub fitting : AreFormsFitting S (length context) m
  pub goal_is : Converts S goal m.goal
  pub types : EachConverts S context m.types
  pub scrutinee : Converts S t m.scrutinee

normal-is : (S : Signature) (t : Term) (left : ℕ) → Answers (Converts S t) (plain_normal_of S t left)
normal-is S t left = by (plain_normal_of S t left).0 (normal-converts S false nesting t left)
  where
    by : {E : Type 0} (r : Result Term E) → IfOk r (λ u. Converts S t u × (height u ≤ most_height)) → IfOk r (Converts S t)
    by (Ok u) h = h.0
    by (Err e) h = tt

normals-are : (S : Signature) (types : Telescope) (left : ℕ) → Answers (EachConverts S types) (plain_normals_of S types left)
normals-are S [] left = tt
normals-are S (a ∷ types) left =
    and_next-has (Converts S a) (EachConverts S (a ∷ types)) (plain_normal_of S a left) _ (normal-is S a left) (λ b rest h.
    and_next-has (EachConverts S types) (EachConverts S (a ∷ types)) (plain_normals_of S types rest) _ (normals-are S types rest) (λ others end all.
    (h, all)))

record AreConverting (S : Signature) (context : Telescope) (goal t : Term) (m : NormalForms) : Type 0 where
  goal_is : Converts S goal m.goal
  types : EachConverts S context m.types
  scrutinee : Converts S t m.scrutinee

forms-convert : (S : Signature) (context : Telescope) (goal t : Term) (left : ℕ)
    → Answers (AreConverting S context goal t) (normal_forms_of S context goal t left)
forms-convert S context goal t left =
    let P = AreConverting S context goal t in
    and_next-has (Converts S goal) P (plain_normal_of S goal left) _ (normal-is S goal left) (λ G rest g.
    and_next-has (EachConverts S context) P (plain_normals_of S context rest) _ (normals-are S context rest) (λ types more all.
    and_next-has (Converts S t) P (plain_normal_of S t more) _ (normal-is S t more) (λ u end h.
    record { goal_is = g; types = all; scrutinee = h })))

pub forms-are : (S : Signature) (context : Telescope) (goal t : Term) (left : ℕ) → IsReady S → IsScopedTelescope S 0 context
    → IsScoped S (length context) goal → IsScoped S (length context) t → Answers (AreFormsOf S context goal t) (normal_forms_of S context goal t left)
forms-are S context goal t left ready types g u =
    by (normal_forms_of S context goal t left).0 (forms-fitting S context goal t left ready.scoped types g u) (forms-convert S context goal t left)
  where
    by : {E : Type 0} (r : Result NormalForms E) → IfOk r (AreFormsFitting S (length context)) → IfOk r (AreConverting S context goal t)
        → IfOk r (AreFormsOf S context goal t)
    by (Ok m) h k = record { fitting = h; goal_is = k.goal_is; types = k.types; scrutinee = k.scrutinee }
    by (Err e) h k = tt

-- ---- at arguments that convert

module _ (S : Signature) (closed : HasClosedBodies S) where
  extend-each : (s q : ℕ → Term) (t u : Term) → ((n : ℕ) → Converts S (s n) (q n)) → Converts S t u → (n : ℕ) → Converts S (extend s t n) (extend q u n)
  extend-each s q t u each h zero = h
  extend-each s q t u each h (suc n) = each n

  fill-each : (s q : ℕ → Term) (ts us : List Term) → ((n : ℕ) → Converts S (s n) (q n)) → EachConverts S ts us → (n : ℕ)
      → Converts S (fill s ts n) (fill q us n)
  fill-each s q [] [] each all n = each n
  fill-each s q [] (u ∷ us) each all n = absurd all
  fill-each s q (t ∷ ts) [] each all n = absurd all
  fill-each s q (t ∷ ts) (u ∷ us) each all n = fill-each (extend s t) (extend q u) ts us (extend-each s q t u each all.0) all.1 n

  pub at-each : (ts us : List Term) (a : Term) → EachConverts S ts us → Converts S (at_terms ts a) (at_terms us a)
  at-each ts us a all = converts-inst-each S closed (fill no_variable ts) (fill no_variable us) (fill-each no_variable no_variable ts us (λ n. same) all) a

  types-each : (done others ts us : List Term) (tele : Telescope) → EachConverts S done others → EachConverts S ts us
      → EachConverts S (types_at_terms done ts tele) (types_at_terms others us tele)
  types-each done others [] [] [] h all = tt
  types-each done others [] [] (a ∷ tele) h all = tt
  types-each done others [] (u ∷ us) tele h all = absurd all
  types-each done others (t ∷ ts) [] tele h all = absurd all
  types-each done others (t ∷ ts) (u ∷ us) [] h all = tt
  types-each done others (t ∷ ts) (u ∷ us) (a ∷ tele) h all = (
    at-each done others a h,
    types-each (done ++ t ∷ []) (others ++ u ∷ []) ts us tele (each-append S done others (t ∷ []) (u ∷ []) h (all.0, tt)) all.1,
  )

  term-each : (ts us : List Term) (i : ℕ) → EachConverts S ts us → Converts S (term_at ts i) (term_at us i)
  term-each [] [] i all = same
  term-each [] (u ∷ us) i all = absurd all
  term-each (t ∷ ts) [] i all = absurd all
  term-each (t ∷ ts) (u ∷ us) zero all = all.0
  term-each (t ∷ ts) (u ∷ us) (suc i) all = term-each ts us i all.1

  variable-each : (types others : Telescope) (v : ℕ) → EachConverts S types others → Converts S (type_of_variable types v) (type_of_variable others v)
  variable-each types others v all =
      transport (λ n. Converts S (type_of_variable types v) (lift (term_at others (n - (v + 1))) (v + 1) 0)) (each-length S types others all)
      (converts_of_lift S closed (v + 1) 0 (term_at types (length types - (v + 1))) (term_at others (length types - (v + 1)))
      (term-each types others (length types - (v + 1)) all))

  variables-each : (types others : Telescope) (vs : List ℕ) → EachConverts S types others
      → EachConverts S (map (type_of_variable types) vs) (map (type_of_variable others) vs)
  variables-each types others [] all = tt
  variables-each types others (v ∷ vs) all = (variable-each types others v all, variables-each types others vs all)

  each-sym : (ts us : List Term) → EachConverts S ts us → EachConverts S us ts
  each-sym [] [] all = tt
  each-sym [] (u ∷ us) all = absurd all
  each-sym (t ∷ ts) [] all = absurd all
  each-sym (t ∷ ts) (u ∷ us) all = (converts-sym all.0, each-sym ts us all.1)

  each-joined : (ts us vs : List Term) → EachConverts S ts us → EachConverts S us vs → EachConverts S ts vs
  each-joined [] [] [] h k = tt
  each-joined [] [] (v ∷ vs) h k = absurd k
  each-joined [] (u ∷ us) vs h k = absurd h
  each-joined (t ∷ ts) [] vs h k = absurd h
  each-joined (t ∷ ts) (u ∷ us) [] h k = absurd k
  each-joined (t ∷ ts) (u ∷ us) (v ∷ vs) h k = (converts-trans h.0 k.0, each-joined ts us vs h.1 k.1)

-- ---- the abstraction

-- an abstraction over t in a context with a goal
pub record IsAbstractionOf (S : Signature) (context : Telescope) (goal t : Term) (a : Abstracted) : Type 0 where
  pub type : Term
  pub types : EachConverts S (types_at_terms [] (helper_arguments a t) a.telescope)
      (map (type_of_variable context) (take a.place a.order) ++ type ∷ map (type_of_variable context) (drop a.place a.order))
  pub goal_there : Converts S (under_solution (helper_arguments a t) a.goal) goal

pub abstraction-is : (S : Signature) (context : Telescope) (goal t type : Term) (m : NormalForms) → IsReady S → IsScoped S (length context) type
    → AreFormsOf S context goal t m → IsAbstractionOf S context goal t (abstracted m type)
abstraction-is S context goal t type m ready scoped h = record {
  type = type;
  types =
      each-joined S closed (types_at_terms [] (helper_arguments a t) a.telescope) (types_at_terms [] (helper_arguments a m.scrutinee) a.telescope)
      (map (type_of_variable context) front ++ type ∷ map (type_of_variable context) behind)
      (types-each S closed [] [] (helper_arguments a t) (helper_arguments a m.scrutinee) a.telescope tt arguments)
      (transport (λ ts. EachConverts S ts (map (type_of_variable context) front ++ type ∷ map (type_of_variable context) behind)) (sym back.types)
      (each-append S (map (type_of_variable m.types) front) (map (type_of_variable context) front) (type ∷ map (type_of_variable m.types) behind)
      (type ∷ map (type_of_variable context) behind) (variables-each S closed m.types context front types)
      (same, variables-each S closed m.types context behind types)));
  goal_there =
      converts-trans (at-each S closed (helper_arguments a t) (helper_arguments a m.scrutinee) a.goal arguments)
      (transport (λ g. Converts S g goal) (sym back.goal) (converts-sym h.goal_is));
}
  where
    a : Abstracted
    a = abstracted m type

    back : GivesBack m type (abstracted m type)
    back = given-back S (length context) m type h.fitting scoped

    closed : HasClosedBodies S
    closed = closed-bodies S ready.scoped

    front : List ℕ
    front = take (abstracted m type).place (abstracted m type).order

    behind : List ℕ
    behind = drop (abstracted m type).place (abstracted m type).order

    types : EachConverts S m.types context
    types = each-sym S closed context m.types h.types

    arguments : EachConverts S (helper_arguments (abstracted m type) t) (helper_arguments (abstracted m type) m.scrutinee)
    arguments =
        each-append S (map Var front) (map Var front) (t ∷ map Var behind) (m.scrutinee ∷ map Var behind) (each-same S (map Var front))
        (h.scrutinee, each-same S (map Var behind))
