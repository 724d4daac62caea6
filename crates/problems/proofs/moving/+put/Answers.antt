use Rattle.std.proofs.Common.{arith}
use Rattle.core_terms.specs.Meanings.{tele_of}
use Rattle.problems.proofs.Rooms.{put-room}
use Rattle.problems.proofs.moving.+put.Goals as goal

pub behind_at-term_at-requires : goal.behind_at-term_at-requires
behind_at-term_at-requires t c =
    put-room c.args.behind.over c.saturating_sub-by.result (tele_of c.args.behind.terms.now) c.requires.behind.terms (omega arith)
