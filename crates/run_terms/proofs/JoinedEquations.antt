-- Equations after an injectivity, and the parts of a constructor's record there.
use Rattle.std.proofs.Common.{◌≡◌, ℕ, ◌+◌, List, [], ◌∷◌, ◌++◌, length, map, ap, sym, ◌∙◌}
use Rattle.std.proofs.lemmas.List.{length-map}
use Rattle.theory.specs.Terms.{Term, Con}
use Rattle.theory.specs.Substitutions.{inst, fill}
use Rattle.theory.specs.Telescopes.{applied, variables, weaken_by}
use Rattle.theory.specs.Eliminators.{no_variable}
use Rattle.core_terms.specs.Meanings.{tele_of}
use Rattle.core_sig.specs.Meanings.{argument_of, constructor_of}
use Rattle.core_sig.specs.declared.family.Constructor.{Constructor}
use Rattle.tele_eq.specs.Items.{Item}
use Rattle.unification.specs.Injecting.{lifted}
use Rattle.unification.specs.Records.{constructor_terms}
use Rattle.unification.specs.States.{Equation, State, equations_at}
use Rattle.problems.specs.CodeInjections.{equations_joined}
use Rattle.problems.proofs.RecordItems.{values-are}
use Rattle.run_terms.specs.CodeInjections.{moved_after_group}
use Rattle.run_terms.specs.StandingMeanings.{equations_of}
use Rattle.run_terms.specs.declared.state.Equation as code

pub joined-are : (s : State) (g size depth : ℕ) (X : List Item) (types us vs terms proofs : List Term) (made : List Equation) → size ≡ length s.context
    → depth ≡ size + length types → made ≡ equations_at X types us vs
    → made ++ moved_after_group s g size depth terms proofs ≡ equations_joined s g X types us vs terms proofs
joined-are s g size depth X types us vs terms proofs made es ed em = rw (em, ed, es)

pub constructor-terms-are : (n number : ℕ) (ps : List Term) (p : ℕ) (con : Constructor)
    → map (inst (fill no_variable (lifted (length con.args) ps ++ variables (length con.args)))) (tele_of con.targets)
    ++ applied (weaken_by (length con.args) (applied (Con n number) ps)) (variables (length con.args)) ∷ []
    ≡ constructor_terms n number ps (constructor_of p con)
constructor-terms-are n number ps p con =
    let made : ℕ → List Term = λ k. map (inst (fill (λ v. weaken_by k (fill no_variable ps v)) (variables k))) (tele_of con.targets) in
    let whole : ℕ → Term = λ k. applied (weaken_by k (applied (Con n number) ps)) (variables k) in
    sym (ap (λ k. made k ++ whole k ∷ []) (length-map con.args (argument_of p))
    ∙ ap (λ q. map (inst q) (tele_of con.targets) ++ whole (length con.args) ∷ []) (sym (values-are ps (length con.args))))

-- equations that are made after none
pub made-only : (made : List code.Equation) (more equations : List Equation) → made ≡ [] → equations ≡ equations_of made ++ more → equations ≡ more
made-only made more equations em e = e ∙ ap (λ xs. equations_of xs ++ more) em
