-- A term over a helper's telescope as the code makes it is the one that is meant.
use Rattle.std.proofs.Common.{◌≡◌, ℕ, ◌+◌, ◌-◌, ◌≤◌, Bool, true, false, cond, nat_lt, List, [], ◌∷◌, map, refl, sym, ap, ap₂, ◌∙◌, arith}
use Rattle.std.proofs.lemmas.Bool.Decides.{nat_tests}
use Rattle.theory.specs.Terms.{Term, lift}
use Rattle.theory.specs.Terms.Term.{Var, Pi, Lam, App, Let}
use Rattle.theory.specs.Substitutions.{inst}
use Rattle.theory.proofs.Instances.{ap₃}
use Rattle.core_terms.specs.Instances.{under_binders}
use Rattle.core_terms.proofs.Instances.{inst_under, under-none-path}
use Rattle.with_abstraction.specs.Abstractions.{Abstracted}
use Rattle.clause_reports.specs.elaboration.Walking.{variable_in}
use Rattle.function_checks.specs.walk_checks.CodeOpening.{renamed_under}

-- the term that replaces a variable which is bound outside
pub under-high : (under n : ℕ) (s : ℕ → Term) (t : Term) → under ≤ n → t ≡ s (n - under) → lift t under 0 ≡ under_binders under s n
unfolding under_binders
under-high under n s t high is = go (nat_lt n under) refl
  where
    go : (b : Bool) → nat_lt n under ≡ b → lift t under 0 ≡ cond b (Var n) (lift (s (n - under)) under 0)
    go true h = absurd (grind (arith, nat_tests))
    go false h = ap (λ t. lift t under 0) is

pub renamed-is : (a : Abstracted) (under : ℕ) (t : Term) → renamed_under a under t ≡ inst (under_binders under (variable_in a)) t
renamed-is a under (Pi b c) = ap₂ Pi (renamed-is a under b) (renamed-is a (under + 1) c ∙ sym (inst_under under (variable_in a) c))
renamed-is a under (Lam b c) = ap₂ Lam (renamed-is a under b) (renamed-is a (under + 1) c ∙ sym (inst_under under (variable_in a) c))
renamed-is a under (App f b) = ap₂ App (renamed-is a under f) (renamed-is a under b)
renamed-is a under (Let b t c) =
    ap₃ Let (renamed-is a under b) (renamed-is a under t) (renamed-is a (under + 1) c ∙ sym (inst_under under (variable_in a) c))
renamed-is a under (Var n) = refl
renamed-is a under _ = refl

pub renamed-none : (a : Abstracted) (t : Term) → renamed_under a 0 t ≡ inst (variable_in a) t
renamed-none a t = renamed-is a 0 t ∙ ap (λ s. inst s t) (under-none-path (variable_in a))

pub renamed-terms : (a : Abstracted) (terms : List Term) → map (renamed_under a 0) terms ≡ map (inst (variable_in a)) terms
renamed-terms a [] = refl
renamed-terms a (t ∷ terms) = ap₂ ◌∷◌ (renamed-none a t) (renamed-terms a terms)

pub ruleset renaming = (renamed-none, renamed-terms)
