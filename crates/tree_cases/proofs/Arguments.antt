-- Patterns for the arguments of a constructor.
use Rattle.std.proofs.Common.{◌≡◌, ℕ, Some, List, length, map, ◌∙◌, true, arith}
use Rattle.std.proofs.lemmas.Bool.Decides.{nat_tests}
use Rattle.std.proofs.lemmas.List.{length-map}
use Rattle.theory.specs.Families.{Constructor}
use Rattle.theory.specs.Signatures.{Signature}
use Rattle.core_terms.specs.Patterns as pattern
use Rattle.core_terms.specs.PatternMeanings.{pat_of, pats_of}
use Rattle.core_terms.specs.declared.pattern.Pat.{Pat}
use Rattle.kernel_reduce.specs.Entries.{constructor_at}
use Rattle.case_trees.specs.pattern_vectors.Columns.{IsWhole, AreWhole}
use Rattle.case_trees.specs.pattern_vectors.Matching.{is_as_long}
use Rattle.case_trees.proofs.pattern_vectors.Columns.{as-long-counted}

-- patterns for as many arguments are as long
as-long : {A : Type 0} (pats : List Pat) (us : List A) → length pats ≡ length us → is_as_long (pats_of pats) us ≡ true
as-long pats us same =
    let counted : length (map pat_of pats) ≡ length us = length-map pats pat_of ∙ same in
    as-long-counted (map pat_of pats) us ∙ grind (arith, nat_tests, counted)

-- a constructor with all its arguments, each of which is whole
pub whole : (S : Signature) (n number : ℕ) (pats : List Pat)
    → ((c : Constructor) → constructor_at S n number ≡ Some c → length pats ≡ length c.arguments) → AreWhole S (pats_of pats)
    → IsWhole S (pattern.Con n number (pats_of pats))
whole S n number pats all rest = ((λ c at. as-long pats c.arguments (all c at)), rest)
