use Rattle.std.proofs.Common.{Ok, ℕ, List, [], ◌∷◌, ◌++◌, length, map, ap, ap₂, ◌∙◌}
use Rattle.std.proofs.lemmas.List.{map-append}
use Rattle.theory.specs.Terms.{Term, Con}
use Rattle.theory.specs.Eliminators.{no_variable}
use Rattle.theory.specs.Substitutions.{fill, inst}
use Rattle.theory.specs.Telescopes.{applied, variables, weaken_by}
use Rattle.core_terms.specs.Meanings.{tree_of, tele_of}
use Rattle.core_terms.proofs.Builders.{ok_is}
use Rattle.unification.specs.Injecting.{lifted}
use Rattle.run_terms.proofs.JoinedEquations.{constructor-terms-are}
use Rattle.run_terms.proofs.injecting.constructor_terms.Goals as goal

pub returns : goal.returns
returns c = λ p.
    let ps = tele_of c.args.ps.now in
    let count = c.in_ok-count.ensures.ok ∙ ap length c.as_slice.ensures in
    let made : ℕ → List Term → List Term = λ k terms. map (inst (fill no_variable (lifted k ps ++ variables k))) terms in
    let whole : ℕ → Term = λ k. applied (weaken_by k (applied (Con c.args.n c.args.number) ps)) (variables k) in
    ap Ok
    (ap tele_of c.in_ok-push.ensures.ok
    ∙ (map-append tree_of c.in_ok-made.made (c.in_ok-whole.whole ∷ [])
    ∙ (ap₂ (λ ts t. ts ++ t ∷ []) (ok_is c.in_ok-made.ensures ∙ ap₂ made count (ap tele_of c.as_slice-2.ensures))
    (ok_is c.in_ok-whole.ensures ∙ ap whole count)
    ∙ constructor-terms-are c.args.n c.args.number ps p c.args.con.now)))
