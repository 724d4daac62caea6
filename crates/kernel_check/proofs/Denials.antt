-- A denial behind the number of a child.
use Rattle.std.proofs.Common.{◌≡◌, ℕ, Result, Ok, Err, ap, sym, ◌∙◌}
use Rattle.theory.specs.Terms.{Term}
use Rattle.core_terms.specs.Meanings.{denial_of}
use Rattle.core_terms.specs.Verdicts as pure
use Rattle.core_terms.specs.declared.verdict.Denial.{Denial}
use Rattle.core_terms.specs.declared.stop.Stop.{Stop}
use Rattle.kernel_check.specs.Checking.{denial_behind, verdict_behind}
use Rattle.kernel_check.specs.Verdicts.{verdict_in}
use Rattle.kernel_check.specs.declared.verdict.VerdictIn.{VerdictIn}
use Rattle.kernel_check.specs.declared.verdict.VerdictIn.TheVariants.{No}

abbrev no_of : Result pure.Denial Stop → Result pure.Verdict Stop
no_of (Ok denial) = Ok (pure.No denial)
no_of (Err e) = Err e

abbrev same_result : {A : Type 0} → Result A Stop → Result A Stop → Type 0
same_result r s = r ≡ s

-- a denial that was put behind the number stands for the verdict that is meant
pub behind-no : {I : Type 0} (tree : I → Term) (child : ℕ) (verdict : VerdictIn I) (denial made : Denial) → verdict ≡ No denial
    → same_result (Ok (denial_of made)) (Ok (denial_behind child (denial_of denial)))
    → same_result (Ok (verdict_in tree (No made))) (Ok (verdict_behind child (verdict_in tree verdict)))
behind-no {I} tree child verdict denial made is e =
    let moved : same_result (Ok (verdict_behind child (verdict_in tree (No denial)))) (Ok (verdict_behind child (verdict_in tree verdict))) =
    ap (λ (v : VerdictIn I). Ok (verdict_behind child (verdict_in tree v))) (sym is) in
    ap no_of e ∙ moved
