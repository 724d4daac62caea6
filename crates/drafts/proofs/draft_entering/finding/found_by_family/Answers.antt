use Rattle.std.proofs.Common.{◌++◌, bytes_eq, sym, ap, ◌∙◌}
use Rattle.core_sig.specs.Meanings.{family_of}
use Rattle.drafts.proofs.draft_entering.FamilyNames.{none-of-family}
use Rattle.drafts.proofs.draft_entering.finding.found_by_family.Goals as goal

-- src/draft_entering/finding.rt:143:1
pub returns-in-None : goal.returns-in-None
returns-in-None c =
    none-of-family c.args.name.now c.args.n (family_of c.args.f.now)
    (λ rest. ap (λ part. bytes_eq (part ++ rest) c.args.name.now) (sym c.as_slice.ensures) ∙ c.in-None.ensures rest)
