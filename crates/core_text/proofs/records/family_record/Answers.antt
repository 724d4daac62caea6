use Rattle.std.proofs.Common.{◌≡◌, true, length, map, ◌++◌, sym, ap, ap₂, subst, ◌∙◌}
use Rattle.std.specs.Prelude.{Some, All}
use Rattle.std.specs.List.{list_all}
use Rattle.std.proofs.lemmas.List.Elements.{All-nil}
use Rattle.core_terms.specs.Meanings.{tree_of}
use Rattle.core_sig.specs.Kinds.{HaveKinds}
use Rattle.core_sig.specs.Meanings.{family_of}
use Rattle.core_sig.specs.Raw.{raw_constructor_of}
use Rattle.core_sig.specs.declared.family.Arg.{Arg}
use Rattle.core_sig.specs.declared.family.ArgKind.TheVariants.{Plain}
use Rattle.core_sig.specs.declared.family.Constructor.{Constructor}
use Rattle.core_sig.specs.declared.family.Family.{Family}
use Rattle.core_terms.specs.Telescopes.{domains_of}
use Rattle.core_text.specs.RawEntries.{end_level, ends_in_family}
use Rattle.core_text.specs.Records.{typed, with_level_zero, constructor_shown}
use Rattle.core_text.proofs.RecordTexts.{family-shown, shows-record, kinds-kept, levels-zero}
use Rattle.core_text.proofs.records.family_record.Goals as goal

pub returns-clause-is_shown : goal.returns-clause-is_shown
returns-clause-is_shown c =
    let f = c.with_constructors.result in
    let type = tree_of c.args.raw.ty in
    let types : map typed f.indices ≡ map with_level_zero (domains_of type) = ap (map typed) c.with_constructors.ensures.indices ∙ (c.in_ok-index_types.ensures.types ∙ ap (λ xs. map typed xs ++ map with_level_zero (domains_of type)) c.new-indices.ensures) in
    let ends : end_level type ≡ Some c.in-Some.level = sym c.end_level.ensures ∙ c.in-Some.is in
    let tests : true ≡ list_all (λ k. ends_in_family c.args.n (length f.params) (length f.indices) 0 k.type) (map raw_constructor_of c.args.raw.cons) =
    sym c.if-not-branch.false ∙ (c.in_ok-show_constructors.ensures.ok
    ∙ (ap (λ cs. list_all (λ k. ends_in_family c.args.n (length c.args.raw.params) (length c.index_types.new.indices) 0 k.type) (map raw_constructor_of cs)) c.as_slice.ensures
    ∙ ap₂ (λ p i. list_all (λ k. ends_in_family c.args.n (length p) (length i) 0 k.type) (map raw_constructor_of c.args.raw.cons)) (sym c.with_constructors.ensures.params) (sym c.with_constructors.ensures.indices))) in
    shows-record c.args.n f c.args.raw c.in-Some.level true c.with_constructors.ensures.params types ends tests

pub returns-clause-kinds : goal.returns-clause-kinds
returns-clause-kinds c =
    let f = c.with_constructors.result in
    let bare : Family = record { name = c.args.raw.name; params = c.args.raw.params; indices = c.index_types.new.indices; level = c.in-Some.level; cons = c.new.result } in
    let plain = λ (a : Arg). a.kind ≡ Plain in
    let kinds = λ (k : Constructor). HaveKinds c.args.n (family_of f) 0 k.args in
    record {
      indices = subst (All plain) (sym c.with_constructors.ensures.indices) (c.in_ok-index_types.ensures.kinds (subst (All plain) (sym c.new-indices.ensures) (All-nil plain)));
      constructors = subst (All kinds) (sym c.with_constructors.ensures.cons)
          (kinds-kept c.args.n bare f c.in_ok-cons.cons c.with_constructors.ensures.params c.with_constructors.ensures.indices c.in_ok-cons.ensures.kinds);
    }

pub returns-clause-shown : goal.returns-clause-shown
returns-clause-shown c =
    let n = c.args.n in
    let f = c.with_constructors.result in
    let bare : Family = record { name = c.args.raw.name; params = c.args.raw.params; indices = c.index_types.new.indices; level = c.in-Some.level; cons = c.new.result } in
    let type = tree_of c.args.raw.ty in
    let kinds = λ (k : Constructor). HaveKinds n (family_of f) 0 k.args in
    let types : map typed f.indices ≡ map with_level_zero (domains_of type) = ap (map typed) c.with_constructors.ensures.indices ∙ (c.in_ok-index_types.ensures.types ∙ ap (λ xs. map typed xs ++ map with_level_zero (domains_of type)) c.new-indices.ensures) in
    let ends : end_level type ≡ Some f.level = sym c.end_level.ensures ∙ (c.in-Some.is ∙ ap Some (sym c.with_constructors.ensures.level)) in
    let tests : list_all (λ k. ends_in_family n (length c.args.raw.params) (length c.index_types.new.indices) 0 k.type) (map raw_constructor_of c.args.raw.cons) ≡ true =
    ap (λ cs. list_all (λ k. ends_in_family n (length c.args.raw.params) (length c.index_types.new.indices) 0 k.type) (map raw_constructor_of cs)) (sym c.as_slice.ensures)
    ∙ (sym c.in_ok-show_constructors.ensures.ok ∙ c.if-not-branch.false) in
    family-shown n f c.args.raw c.with_constructors.ensures.name c.with_constructors.ensures.params types ends
    (subst (All kinds) (sym c.with_constructors.ensures.cons) (kinds-kept n bare f c.in_ok-cons.cons c.with_constructors.ensures.params c.with_constructors.ensures.indices c.in_ok-cons.ensures.kinds))
    (ap₂ (λ p cs. map (constructor_shown n (length p)) cs) c.with_constructors.ensures.params c.with_constructors.ensures.cons ∙ c.in_ok-cons.ensures.shown tests)

pub returns-clause-levels : goal.returns-clause-levels
returns-clause-levels c =
    let f = c.with_constructors.result in
    let type = tree_of c.args.raw.ty in
    let levels = λ (k : Constructor). All (λ a. a.level ≡ 0) k.args in
    let types : map typed f.indices ≡ map with_level_zero (domains_of type) = ap (map typed) c.with_constructors.ensures.indices ∙ (c.in_ok-index_types.ensures.types ∙ ap (λ xs. map typed xs ++ map with_level_zero (domains_of type)) c.new-indices.ensures) in
    levels-zero f (domains_of type) types (subst (All levels) (sym c.with_constructors.ensures.cons) c.in_ok-cons.ensures.levels)
