use Rattle.std.proofs.Common.{◌≡◌, ◌-◌, ◌*◌, sym, subst, arith}
use Rattle.std.proofs.lemmas.Result.{IfOk-weaker}
use Rattle.theory.specs.Terms.{top}
use Rattle.theory.specs.Signatures.{FamilyOf, IsEntryAt}
use Rattle.theory.specs.Prelude.{prelude, equality_family, unit_family, pair_family}
use Rattle.core_sig.specs.Meanings.{family_of}
use Rattle.core_sig.proofs.PreludeEntries.{equality_number, unit_number, pair_number}
use Rattle.core_sig.proofs.prelude.family_at.Goals as goal

pub returns-then-number-levels-clause-ok : goal.returns-then-number-levels-clause-ok
returns-then-number-levels-clause-ok c = λ k.
    let i = c.args.number - 1 in
    IfOk-weaker c.equality_family.result (λ f. family_of f ≡ equality_family i) (λ f. IsEntryAt (prelude k) c.args.number (FamilyOf (family_of f)))
    (λ f e. subst (λ g. IsEntryAt (prelude k) c.args.number (FamilyOf g)) (sym e) (equality_number k c.args.number i (omega arith) (omega arith))) c.equality_family.ensures.ok

pub returns-then-number-levels-2-clause-ok : goal.returns-then-number-levels-2-clause-ok
returns-then-number-levels-2-clause-ok c = λ k.
    let i = c.args.number - top - 1 in
    IfOk-weaker c.unit_family.result (λ f. family_of f ≡ unit_family i) (λ f. IsEntryAt (prelude k) c.args.number (FamilyOf (family_of f)))
    (λ f e. subst (λ g. IsEntryAt (prelude k) c.args.number (FamilyOf g)) (sym e) (unit_number k c.args.number i (omega arith) (omega arith))) c.unit_family.ensures.ok

pub returns-else-number-levels-2-clause-ok : goal.returns-else-number-levels-2-clause-ok
returns-else-number-levels-2-clause-ok c = λ k.
    let i = c.args.number - 2 * top - 1 in
    IfOk-weaker c.pair_family.result (λ f. family_of f ≡ pair_family i) (λ f. IsEntryAt (prelude k) c.args.number (FamilyOf (family_of f)))
    (λ f e. subst (λ g. IsEntryAt (prelude k) c.args.number (FamilyOf g)) (sym e) (pair_number k c.args.number i (omega arith) (omega arith))) c.pair_family.ensures.ok
