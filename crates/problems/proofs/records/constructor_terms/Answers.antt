use Rattle.std.proofs.Common.{length, rules}
use Rattle.core_terms.specs.Meanings.{tele_of}
use Rattle.problems.proofs.RecordItems.{constructor-terms-of, map-snoc}
use Rattle.problems.proofs.records.constructor_terms.Goals as goal

pub returns-in_err-made : goal.returns-in_err-made
returns-in_err-made c =
    rw (constructor-terms-of c.args.n c.args.number (tele_of c.args.ps.now) (length c.args.ps.now) c.args.con.now) (search rules)

pub returns-in_err-constructor_at : goal.returns-in_err-constructor_at
returns-in_err-constructor_at c =
    rw (constructor-terms-of c.args.n c.args.number (tele_of c.args.ps.now) (length c.args.ps.now) c.args.con.now) (search rules)

pub returns : goal.returns
returns c =
    rw (constructor-terms-of c.args.n c.args.number (tele_of c.args.ps.now) (length c.args.ps.now) c.args.con.now) (search (rules, map-snoc))
