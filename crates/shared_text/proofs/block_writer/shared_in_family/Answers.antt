use Rattle.std.proofs.Common.{◌≡◌, List, [], ◌∷◌, ◌++◌, ap, ap₂, ◌∙◌}
use Rattle.theory.specs.Terms.{Term}
use Rattle.core_sig.specs.Raw.{raw_of}
use Rattle.core_text.specs.RawEntries.{RawFamilyOf}
use Rattle.term_pool.specs.Pools.{pool_held}
use Rattle.shared_text.specs.CodeMeanings.{trees}
use Rattle.shared_text.specs.PrintedTerms.{joined, shared_terms, written_terms}
use Rattle.shared_text.specs.Walks.{met_shared}
use Rattle.shared_text.proofs.WalkLaws.{met-shared}
use Rattle.shared_text.proofs.block_writer.shared_in_family.Goals as goal

pub returns-clause-terms : goal.returns-clause-terms
returns-clause-terms c =
    let p = c.args.pool.now in
    let ids = c.args.ids.now in
    let written : List Term = trees p ids.params.items ++ (pool_held p).tree ids.ty ∷ trees p ids.cons.items in
    let is : written ≡ written_terms (RawFamilyOf (raw_of c.args.raw.now)) =
    ap (λ ts. ts ++ (pool_held p).tree ids.ty ∷ trees p ids.cons.items) c.requires.params.terms
    ∙ ap₂ (λ t cs. (raw_of c.args.raw.now).parameters ++ t ∷ cs) c.requires.type c.requires.constructors.terms in
    c.in_ok-shared.ensures.terms
    ∙ (ap (λ w. joined [] (met_shared w)) c.in_ok-met.ensures.walked ∙ (met-shared written ∙ ap shared_terms is))
