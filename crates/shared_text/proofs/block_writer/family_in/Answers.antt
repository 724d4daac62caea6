use Rattle.std.proofs.Common.{Ok, subst}
use Rattle.core_terms.specs.Answers.{Gives}
use Rattle.core_sig.specs.Raw.{raw_of}
use Rattle.core_text.specs.RawEntries.{RawFamilyOf}
use Rattle.shared_text.specs.BlockText.{block_with}
use Rattle.shared_text.proofs.block_writer.family_in.Goals as goal

pub returns : goal.returns
returns c =
    subst (λ ts. Gives (λ text. text) c.family_with.result (Ok (block_with c.args.sig.now ts (RawFamilyOf (raw_of c.args.raw.now)))))
    c.in_ok-shared.ensures.terms c.family_with.ensures
