use Rattle.std.proofs.Common.{sym, ◌∙◌, arith}
use Rattle.std.proofs.lemmas.List.{length-map}
use Rattle.core_terms.specs.Meanings.{tree_of}
use Rattle.proof_walks.specs.proof_terms.ProofMeanings.{place_of}
use Rattle.proof_walks.proofs.ScopeTests.{place-tells}
use Rattle.proof_walks.proofs.starts.scoped_place.Goals as goal

pub returns-then-is_scoped_place-clause-kept : goal.returns-then-is_scoped_place-clause-kept
returns-then-is_scoped_place-clause-kept c = record {
  scoped = place-tells c.args.sig.now (place_of c.args.p) (sym c.is_scoped_place.ensures ∙ c.if-is_scoped_place.true);
  few = omega (arith, c.requires.few, length-map c.args.p.ctx tree_of);
}
