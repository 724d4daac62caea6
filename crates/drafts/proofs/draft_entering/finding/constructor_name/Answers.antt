use Rattle.std.proofs.Common.{length, ◌∙◌}
use Rattle.drafts.proofs.draft_entering.NameParts.{name-there}
use Rattle.drafts.proofs.draft_entering.finding.constructor_name.Goals as goal

pub returns-in-Some : goal.returns-in-Some
returns-in-Some c =
    let h = rw c.as_slice.ensures at c.in-Some.ensures.lookup in
    c.as_slice-in-Some.ensures
    ∙ name-there c.args.f.now.cons (length c.args.f.now.params) c.args.number c.in-Some.con.now h.3.0 h.3.1
