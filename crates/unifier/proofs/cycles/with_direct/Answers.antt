use Rattle.std.proofs.Common.{◌≡◌, Ok, length, map, reverse, ◌++◌, ap, ap₂, ◌∙◌, slice_get, arith}
use Rattle.core_terms.specs.Meanings.{tree_of, tele_of}
use Rattle.core_terms.proofs.Builders.{ok_is}
use Rattle.core_sig.specs.Meanings.{argument_of}
use Rattle.problems.specs.CodeCycles.{direct_in, is_direct_at}
use Rattle.unifier.proofs.CycleCodes.{one-waits, none-waits}
use Rattle.unifier.proofs.cycles.with_direct.Goals as goal

pub arguments-preserved : goal.arguments-preserved
arguments-preserved c =
    let p = length c.args.b.record.now.params in
    let h = c.len.ensures in
    one-waits (map (argument_of p) c.args.b.con.now.args) c.arguments.us.items c.pop.new.self.items c.in-Some.u c.is_direct_at.result
    (tele_of c.arguments.made.items) (tele_of c.in_ok-made.made.items) (tele_of c.args.terms.items ++ reverse (direct_in c.args.b (tree_of c.args.t.now))) c.in-Some.ensures.items
    (c.is_direct_at.ensures p ∙ ap₂ (λ args at. is_direct_at (slice_get (map (argument_of p) args) at)) c.as_slice-args.ensures (c.len.ensures ∙ c.pop.new.self.ok.0)) (ok_is c.in_ok-made.ensures) c.arguments.invariant

pub returns : goal.returns
returns c =
    let p = length c.args.b.record.now.params in
    let none : length c.arguments.us.items ≡ 0 = omega (arith, c.in_default.ensures.cases.0, c.arguments.us.ok.0) in
    ap Ok (none-waits (map (argument_of p) c.args.b.con.now.args) c.arguments.us.items (tele_of c.arguments.made.items) (tele_of c.args.terms.items ++ reverse (direct_in c.args.b (tree_of c.args.t.now))) none c.arguments.invariant)
