use Rattle.std.proofs.Common.{sym, subst as transport, arith}
use Rattle.theory.specs.Signatures.{axiom_k_type}
use Rattle.theory.specs.SignatureScopes.{IsScoped}
use Rattle.core_terms.specs.Meanings.{tree_of}
use Rattle.kernel_reduce.proofs.WellScoped.{closed_terms}
use Rattle.family_check.proofs.Instances.{given-is}
use Rattle.family_check.proofs.PreludeEntries.{equality-there}
use Rattle.family_check.proofs.ScopedEntering.{axiom_k-scoped}
use Rattle.family_check.proofs.axioms.enter_axiom_k.Goals as goal

pub enter-requires-clause-asked : goal.enter-requires-clause-asked
enter-requires-clause-asked c =
    let type = transport (IsScoped c.args.sig.now 0) (sym (given-is (tree_of c.in_ok-ty.ty) (axiom_k_type c.args.i c.args.m) (c.in_ok-ty.ensures)))
    (axiom_k-scoped c.args.sig.now c.args.i c.args.m c.requires.signature (equality-there c.args.sig.now c.args.i c.requires.prelude) (omega arith) (omega arith)) in
    closed_terms c.requires.signature.scoped (type, tt)
