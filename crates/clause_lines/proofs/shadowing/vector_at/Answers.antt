use Rattle.std.proofs.Common.{sym, subst as transport}
use Rattle.core_terms.specs.Meanings.{tele_of}
use Rattle.kernel_reduce.specs.WellScoped.{CanReduce}
use Rattle.proof_walks.specs.proof_terms.ProofMeanings.{place_of}
use Rattle.proof_walks.proofs.KeptPlaces.{kept-reduces}
use Rattle.clause_lines.proofs.shadowing.vector_at.Goals as goal

pub vector_of-requires-clause-given : goal.vector_of-requires-clause-given
vector_of-requires-clause-given c =
    transport (λ ts. CanReduce c.args.sig.now (tele_of ts)) (sym c.as_slice-3.ensures)
    (kept-reduces c.args.sig.now (place_of c.args.p.now) c.requires.ready c.requires.kept)
