use Rattle.elim.proofs.headline.Full.{full}
use Rattle.elim.proofs.headline.laws.full_headline.Goals as goal

pub returns : goal.returns
returns c =
    full c.acceptance.ensures c.accepted_is_the_shown.ensures c.lines_are_core_files.ensures c.lines_are_reports.ensures c.without_k.ensures
    c.lines_lack_axiom_k.ensures
