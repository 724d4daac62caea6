use Rattle.std.proofs.Common.{rules, refl}
use Rattle.term_pool.proofs.shifts.known.Goals as goal

pub returns-then-same : goal.returns-then-same
returns-then-same g c =
    record {
      row = c.in_ok-row.row.now;
      among = c.in_ok-row.ensures.member;
      depth_is = c.if-row-depth.true;
      from = search rules;
      answer_is = refl;
    }
