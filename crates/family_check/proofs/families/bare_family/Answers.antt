use Rattle.std.proofs.Common.{◌≡◌, ◌++◌, [], sym, ap, ◌∙◌, subst as transport, arith}
use Rattle.std.proofs.lemmas.List.{length-map}
use Rattle.core_terms.specs.Meanings.{tree_of, tele_of}
use Rattle.kernel_reduce.specs.WellScoped.{AreWellScoped}
use Rattle.core_terms.specs.Telescopes.{domains_of}
use Rattle.family_check.proofs.ScopedShapes.{after_domains}
use Rattle.family_check.proofs.families.bare_family.Goals as goal

pub leveled_indices-requires : goal.leveled_indices-requires
leveled_indices-requires c =
    let t = tree_of c.args.ty in
    let whole : tele_of c.split_products.new.types.items ≡ domains_of t = c.in_ok-end.ensures.domains ∙ ap (λ xs. tele_of xs ++ domains_of t) c.new-types.ensures.items in
    transport (λ params. AreWellScoped c.args.sig.now (tele_of params ++ tele_of c.split_products.new.types.items) []) (sym c.as_slice.ensures)
    (transport (λ types. AreWellScoped c.args.sig.now (tele_of c.args.params ++ types) []) (sym whole)
    (after_domains t c.requires.asked (omega (arith, c.requires.few, length-map c.args.params tree_of)) c.requires.low))
