use Rattle.std.proofs.Common.{◌≡◌, [], ◌∷◌, ◌++◌, map, length, sym, ap, subst, ◌∙◌}
use Rattle.std.specs.Prelude.{All}
use Rattle.std.specs.List.{list_all}
use Rattle.std.proofs.lemmas.Iterator.Adapters.{YieldsList-from_vec}
use Rattle.std.proofs.lemmas.Iterator.Consumers.{YieldsList-end}
use Rattle.std.proofs.lemmas.List.{map-id}
use Rattle.std.proofs.lemmas.List.Elements.{All-push}
use Rattle.core_sig.specs.Kinds.{HaveKinds}
use Rattle.core_sig.specs.Meanings.{family_of}
use Rattle.core_sig.specs.Raw.{RawConstructor, raw_constructor_of}
use Rattle.core_sig.specs.declared.family.Constructor.{Constructor}
use Rattle.core_text.specs.RawEntries.{ends_in_family}
use Rattle.core_text.specs.Records.{constructor_shown}
use Rattle.core_text.proofs.RecordTexts.{constructors-more}
use Rattle.core_text.proofs.records.constructors.Goals as goal

pub loop-con-preserved : goal.loop-con-preserved
loop-con-preserved c =
    let n = c.args.family in
    let p = length c.args.f.now.params in
    let test = λ (k : RawConstructor). ends_in_family n p (length c.args.f.now.indices) 0 k.type in
    let kinds = λ (k : Constructor). HaveKinds n (family_of c.args.f.now) 0 k.args in
    let levels = λ (k : Constructor). All (λ a. a.level ≡ 0) k.args in
    let one = c.in_ok-constructor.field-0 in
    let items : c.push.new.self ≡ c.loop-con.cons ++ one ∷ [] = c.in_ok-push.ensures.ok in
    record {
      shown = λ tests. ap (map (constructor_shown n p)) items
          ∙ constructors-more n p test c.loop-con.yielded c.in-Some.con c.loop-con.cons one c.loop-con.invariant.shown c.in_ok-constructor.ensures.shown tests;
      kinds = subst (All kinds) (sym items) (All-push kinds c.loop-con.cons one c.loop-con.invariant.kinds c.in_ok-constructor.ensures.kinds);
      levels = subst (All levels) (sym items) (All-push levels c.loop-con.cons one c.loop-con.invariant.levels c.in_ok-constructor.ensures.levels);
    }

pub returns-clause-shown : goal.returns-clause-shown
returns-clause-shown c =
    let n = c.args.family in
    let p = length c.args.f.now.params in
    let test = λ (k : RawConstructor). ends_in_family n p (length c.args.f.now.indices) 0 k.type in
    let end = YieldsList-end (YieldsList-from_vec {s = c.into_iter-con-iterator.result} c.args.raw (cc) (cc)) c.loop-con.yielded c.loop-con.con-iterator c.loop-con.yielded_by c.next.result c.next.new.self c.in-None.is c.next.ensures.steps in
    let same : c.loop-con.yielded ≡ c.args.raw = sym (map-id c.loop-con.yielded) ∙ end.0 in
    λ tests. c.loop-con.invariant.shown (ap (λ cs. list_all test (map raw_constructor_of cs)) same ∙ tests) ∙ ap (map raw_constructor_of) same
