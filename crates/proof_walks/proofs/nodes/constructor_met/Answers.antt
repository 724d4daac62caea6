use Rattle.std.proofs.Common.{length, sym, subst as transport}
use Rattle.theory.specs.SignatureScopes.{IsScoped}
use Rattle.core_terms.specs.Meanings.{tree_of}
use Rattle.proof_walks.proofs.FoundTerms.{arguments-scoped}
use Rattle.proof_walks.proofs.nodes.constructor_met.Goals as goal

pub returns-clause-scoped : goal.returns-clause-scoped
returns-clause-scoped c =
    let n = length c.args.ctx.now in
    let term = transport (λ S. IsScoped S n (tree_of c.args.t.now)) (sym c.requires.kernel) c.requires.term in
    arguments-scoped c.args.sig.now c.args.n n (tree_of c.in_ok-w.w) c.met_in.result
    (transport (λ S. IsScoped S n (tree_of c.in_ok-w.w)) c.requires.kernel (c.in_ok-w.ensures.scoped n term)) c.met_in.ensures.answer
