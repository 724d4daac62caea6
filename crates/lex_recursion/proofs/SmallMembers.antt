-- The family that the code finds a small type to be has small parameters.
use Rattle.std.proofs.Common.{Option, Some, None, option_map, Ok, Err, IfOk, IfSome, sym}
use Rattle.std.specs.Prelude.{Result}
use Rattle.theory.specs.Terms.{Term}
use Rattle.theory.specs.Signatures.{Signature}
use Rattle.core_terms.specs.Answers.{Gives}
use Rattle.core_terms.specs.Meanings.{tele_of}
use Rattle.core_terms.specs.declared.stop.Stop.{Stop}
use Rattle.core_terms.proofs.Builders.{ok_is}
use Rattle.tele_eq.specs.Items.{AreSmallTerms, IsSmall}
use Rattle.case_trees.specs.Problems.{member_of}
use Rattle.problems.specs.MemberMeanings.{member_meant}
use Rattle.problems.specs.declared.members.Member.{Member}
use Rattle.lex_recursion.proofs.MemberTypes.{member-small}

pub small-found : (S : Signature) (t : Term) (found : Result (Option Member) Stop) → Gives (option_map member_meant) found (Ok (member_of S t)) → IsSmall t
    → IfOk found (λ o. IfSome o (λ m. AreSmallTerms (tele_of m.params)))
small-found S t (Ok None) given small = tt
small-found S t (Ok (Some m)) given small = member-small S t (member_meant m) (sym (ok_is given)) small
small-found S t (Err stop) given small = tt
