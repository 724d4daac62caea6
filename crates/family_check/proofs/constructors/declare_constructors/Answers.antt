use Rattle.std.proofs.Common.{◌≡◌, ◌+◌, ◌<◌, [], ◌∷◌, length, map, get_or, sym, ap, ◌∙◌, subst as transport, arith}
use Rattle.std.proofs.lemmas.Iterator.Adapters.{YieldsList-from_vec}
use Rattle.std.proofs.lemmas.Iterator.Consumers.{YieldsList-turn}
use Rattle.std.proofs.lemmas.List.{length-append, length-map, get_or-map}
use Rattle.theory.specs.Terms.{Term}
use Rattle.core_terms.specs.Meanings.{tree_of, tele_of}
use Rattle.core_sig.specs.declared.raw.RawCon.{RawCon}
use Rattle.kernel_reduce.specs.WellScoped.{AreWellScoped}
use Rattle.kernel_reduce.proofs.WellScoped.{term_at}
use Rattle.core_sig.specs.Kinds.{HaveKinds}
use Rattle.core_sig.specs.Meanings.{family_of}
use Rattle.core_sig.specs.declared.family.Constructor.{Constructor}
use Rattle.family_check.specs.Meanings.{stop_of}
use Rattle.family_check.proofs.CallOutcomes.{passes_on}
use Rattle.family_check.proofs.ConstructorLoops.{made-on, made-stop}
use Rattle.core_terms.proofs.Lists.{all-more, count-more}
use Rattle.family_check.proofs.constructors.declare_constructors.Goals as goal

abbrev type_of : RawCon → Term
type_of raw = tree_of raw.ty

pub declare_constructor-requires-clause-asked : goal.declare_constructor-requires-clause-asked
declare_constructor-requires-clause-asked c =
    let turn = YieldsList-turn (YieldsList-from_vec {s = c.into_iter-raw-iterator.result} c.args.raws.items (cc) (cc)) c.loop-raw.yielded c.loop-raw.raw-iterator c.loop-raw.yielded_by c.next.result c.next.new.self c.in-Some.raw c.in-Some.is c.next.ensures.steps in
    let lt : length c.loop-raw.yielded < length (map type_of c.args.raws.items) = omega (arith, turn.0, length-map c.args.raws.items type_of) in
    let item = sym (get_or-map type_of c.args.raws.items (length c.loop-raw.yielded) c.in-Some.raw (type_of c.in-Some.raw) turn.0) in
    transport (λ t. AreWellScoped c.args.sig.now (tele_of c.args.f.now.params) (t ∷ [])) (sym (ap type_of turn.1 ∙ item))
    (term_at (length c.loop-raw.yielded) (type_of c.in-Some.raw) lt c.requires.asked)

pub returns-in_err-con-clause-answer : goal.returns-in_err-con-clause-answer
returns-in_err-con-clause-answer c =
    let turn = YieldsList-turn (YieldsList-from_vec {s = c.into_iter-raw-iterator.result} c.args.raws.items (cc) (cc)) c.loop-raw.yielded c.loop-raw.raw-iterator c.loop-raw.yielded_by c.next.result c.next.new.self c.in-Some.raw c.in-Some.is c.next.ensures.steps in
    let count : length c.loop-raw.yielded ≡ length c.loop-raw.made = sym c.loop-raw.invariant.count in
    let lt : length c.loop-raw.made < length c.args.raws.items = omega (arith, turn.0) in
    passes_on _ c.from_residual.result c.in_err-con.field-0.0 _ _ c.from_residual.ensures.1 (λ q.
    made-stop c.args.sig.now c.args.n (family_of c.args.f.now) c.args.raws.items (length c.args.f.now.params) c.in-Some.raw c.loop-raw.units.left c.loop-raw.made _ _
    c.loop-raw.invariant.answer (ap length c.as_slice.ensures) lt (turn.1 ∙ ap (λ k. get_or c.args.raws.items k c.in-Some.raw) count)
    (stop_of c.in_err-con.field-0.0) _ (c.in_err-con.ensures.answer q))

pub loop-raw-preserved : goal.loop-raw-preserved
loop-raw-preserved c =
    let turn = YieldsList-turn (YieldsList-from_vec {s = c.into_iter-raw-iterator.result} c.args.raws.items (cc) (cc)) c.loop-raw.yielded c.loop-raw.raw-iterator c.loop-raw.yielded_by c.next.result c.next.new.self c.in-Some.raw c.in-Some.is c.next.ensures.steps in
    let grown : length c.loop-raw.made + 1 ≡ length c.push.new.self = count-more c.loop-raw.made c.push.new.self _ c.in_ok-push.ensures.ok in
    let count : length c.loop-raw.yielded ≡ length c.loop-raw.made = sym c.loop-raw.invariant.count in
    let lt : length c.loop-raw.made < length c.args.raws.items = omega (arith, turn.0) in
    record {
      count = omega (arith, length-append c.loop-raw.yielded (c.in-Some.raw ∷ []));
      answer = made-on c.args.sig.now c.args.n (family_of c.args.f.now) c.args.raws.items (length c.args.f.now.params) c.in-Some.raw c.loop-raw.units.left c.loop-raw.made _ _
          c.loop-raw.invariant.answer (ap length c.as_slice.ensures) lt (turn.1 ∙ ap (λ k. get_or c.args.raws.items k c.in-Some.raw) count)
          c.push.new.self c.in_ok-con.con _ c.in_ok-push.ensures.ok c.in_ok-con.ensures.answer;
      kinds = all-more (λ (k : Constructor). HaveKinds c.args.n (family_of c.args.f.now) 0 k.args) c.loop-raw.made c.push.new.self c.in_ok-con.con c.in_ok-push.ensures.ok c.loop-raw.invariant.kinds c.in_ok-con.ensures.kinds;
      sum = omega arith;
      spends = omega arith;
    }
