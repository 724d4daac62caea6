use Rattle.std.proofs.Common.{Ok, List, length, subst as transport}
use Rattle.core_terms.specs.Answers.{Gives}
use Rattle.core_terms.specs.Meanings.{tele_of}
use Rattle.core_terms.specs.declared.term.Term.{Term}
use Rattle.core_sig.specs.Meanings.{constructor_of}
use Rattle.unification.specs.Records.{constructor_terms}
use Rattle.split_terms.proofs.branch_problems.terms_at.Goals as goal

pub returns : goal.returns
returns c =
    let m = c.args.m.now in
    let k = length m.family.now.params in
    let P : List Term → Type 0 = λ ps.
    Gives tele_of c.constructor_terms.result (Ok (constructor_terms m.number c.args.number (tele_of ps) (constructor_of k c.args.con.now))) in
    transport P c.as_slice.ensures (c.constructor_terms.ensures k)
