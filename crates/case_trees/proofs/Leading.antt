-- A substitution leads from the goal and the terms at the start to those that are there.
use Rattle.std.proofs.Common.{◌≡◌, ℕ, ◌≤◌, List, [], ◌∷◌, length, map, refl, sym, ap, ap₂, ◌∙◌, subst as transport}
use Rattle.std.proofs.lemmas.List.{length-map}
use Rattle.std.proofs.lemmas.List.Elements.{All-head, All-tail}
use Rattle.std.specs.List.{All}
use Rattle.theory.specs.Terms.{Term, Var, free_of}
use Rattle.theory.specs.Substitutions.{inst, fill}
use Rattle.theory.specs.Telescopes.{Telescope, variables}
use Rattle.theory.specs.Eliminators.{no_variable}
use Rattle.theory.specs.Signatures.{Signature, HasClosedBodies}
use Rattle.theory.specs.SignatureScopes.{IsScoped}
use Rattle.theory.proofs.Congruence.{converts-trans}
use Rattle.theory.proofs.Instances.{inst-inst, inst-var, inst-same}
use Rattle.theory.proofs.Instantiation.{inst-scoped, inst-fill}
use Rattle.theory.proofs.ScopedTypes.{length-variables}
use Rattle.tele_eq.specs.ReflexivityLaws.{EachConverts}
use Rattle.unification.proofs.UnderInstances.{each-same, each-inst, fill-variables}
use Rattle.case_trees.specs.Points.{Point, start_at, under_solution, moved_point}
use Rattle.case_trees.specs.Scoped.{IsScopedPoint}
use Rattle.case_trees.specs.Laws.{LeadsTo}
use Rattle.case_trees.specs.Kept.{KeptAll}
use Rattle.case_trees.proofs.KeptConversion.{all-convert}

pub each-trans : (S : Signature) (ts us vs : List Term) → EachConverts S ts us → EachConverts S us vs → EachConverts S ts vs
each-trans S [] [] [] h k = tt
each-trans S [] [] (v ∷ vs) h k = absurd k
each-trans S [] (u ∷ us) vs h k = absurd h
each-trans S (t ∷ ts) [] vs h k = absurd h
each-trans S (t ∷ ts) (u ∷ us) [] h k = absurd k
each-trans S (t ∷ ts) (u ∷ us) (v ∷ vs) h k = (converts-trans h.0 k.0, each-trans S ts us vs h.1 k.1)

-- the point leads from the start
abbrev pub Leads : Signature → Point → Point → Type 0
Leads S start p = LeadsTo S start p.goal p.substitution p.terms

-- ---- each variable for itself

variables-inst : (k : ℕ) → map (inst Var) (variables k) ≡ variables k
variables-inst k = by (variables k)
  where
    by : (ts : List Term) → map (inst Var) ts ≡ ts
    by [] = refl
    by (t ∷ ts) = ap₂ (λ u us. u ∷ us) (inst-var t) (by ts)

itself : (n : ℕ) (t : Term) → free_of t ≤ n → under_solution (variables n) t ≡ t
itself n t le =
    inst-scoped (fill no_variable (variables n)) t n
    (λ i less. ap (λ us. fill no_variable us i) (sym (variables-inst n)) ∙ fill-variables no_variable Var n i less) le

all-itself : (S : Signature) (n : ℕ) (ts : List Term) → All (IsScoped S n) ts → map (under_solution (variables n)) ts ≡ ts
all-itself S n [] h = refl
all-itself S n (t ∷ ts) h = ap₂ (λ u us. u ∷ us) (itself n t (All-head (IsScoped S n) t ts h).variables) (all-itself S n ts (All-tail (IsScoped S n) t ts h))

pub leads-start : (S : Signature) (context : Telescope) (goal : Term) (terms : List Term) → IsScopedPoint S (start_at context goal terms)
    → Leads S (start_at context goal terms) (start_at context goal terms)
leads-start S context goal terms h =
    record {
      whole = length-variables (length context);
      goal_there = itself (length context) goal h.goal.variables;
      terms_there = transport (λ us. EachConverts S us terms) (sym (all-itself S (length context) terms h.terms)) (each-same S terms);
    }

-- ---- further comparisons

pub leads-kept : (S : Signature) (start p : Point) (us : List Term) → Leads S start p → KeptAll S p.terms us → Leads S start (record p { terms = us })
leads-kept S start p us h all =
    record {
      whole = h.whole;
      goal_there = h.goal_there;
      terms_there = each-trans S (map (under_solution p.substitution) start.terms) p.terms us h.terms_there (all-convert S p.terms us all);
    }

-- ---- solutions

-- one substitution after another
pub twice-under : (solution s : List Term) (t : Term) → under_solution solution (under_solution s t) ≡ under_solution (map (under_solution solution) s) t
twice-under solution s t =
    inst-inst (fill no_variable solution) (fill no_variable s) t
    ∙ inst-same t (λ n. inst-fill (fill no_variable solution) no_variable s n)

all-twice-under : (solution s ts : List Term) → map (under_solution solution) (map (under_solution s) ts) ≡ map (under_solution (map (under_solution solution) s)) ts
all-twice-under solution s [] = refl
all-twice-under solution s (t ∷ ts) = ap₂ (λ u us. u ∷ us) (twice-under solution s t) (all-twice-under solution s ts)

pub leads-moved : (S : Signature) (start p : Point) (context : Telescope) (solution : List Term) → HasClosedBodies S → Leads S start p
    → Leads S start (moved_point p context solution)
leads-moved S start p context solution closed h =
    record {
      whole = length-map p.substitution (under_solution solution) ∙ h.whole;
      goal_there = sym (twice-under solution p.substitution start.goal) ∙ ap (under_solution solution) h.goal_there;
      terms_there = transport (λ ts. EachConverts S ts (map (under_solution solution) p.terms)) (all-twice-under solution p.substitution start.terms)
          (each-inst S closed (fill no_variable solution) (map (under_solution p.substitution) start.terms) p.terms h.terms_there);
    }
