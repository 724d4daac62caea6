use Rattle.std.proofs.Common.{◌≤◌, sym, ◌∙◌, arith}
use Rattle.theory.specs.Terms.{free_of}
use Rattle.core_terms.specs.Meanings.{tree_of}
use Rattle.core_sig.proofs.ScopeTests.{entries-tell, entries-told}
use Rattle.core_sig.proofs.scoping.is_scoped.Goals as goal

pub returns-then-free_of-n : goal.returns-then-free_of-n
returns-then-free_of-n c =
    let t = tree_of c.args.t.now in
    let low : free_of t ≤ c.args.n = omega arith in (
      λ yes. record { variables = low; entries = entries-tell c.args.sig.now t (sym c.has_entries.ensures ∙ yes) },
      λ is. c.has_entries.ensures ∙ entries-told c.args.sig.now t is.entries,
    )
