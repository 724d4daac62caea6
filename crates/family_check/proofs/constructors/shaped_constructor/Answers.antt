use Rattle.std.proofs.Common.{◌≡◌, ◌≤◌, ◌++◌, [], length, All, sym, ap, ◌∙◌, subst as transport, arith}
use Rattle.std.proofs.lemmas.List.{length-map}
use Rattle.theory.specs.Terms.{height}
use Rattle.core_terms.specs.Meanings.{tree_of, tele_of}
use Rattle.kernel_reduce.specs.WellScoped.{AreWellScoped}
use Rattle.core_terms.specs.Telescopes.{domains_of, end_of}
use Rattle.core_sig.proofs.Lists.{all-unmapped}
use Rattle.family_check.proofs.DomainHeights.{domains-count, domains-low, end-low}
use Rattle.core_terms.proofs.LeadingProducts.{domains-ended, end-ends}
use Rattle.family_check.proofs.ScopedShapes.{after_domains}
use Rattle.family_check.proofs.constructors.shaped_constructor.Goals as goal

pub targets-requires-clause-few : goal.targets-requires-clause-few
targets-requires-clause-few c =
    let t = tree_of c.args.raw.ty in
    let whole : tele_of c.split_products.new.types.items ≡ domains_of t = c.in_ok-end.ensures.domains ∙ ap (λ xs. tele_of xs ++ domains_of t) c.new-types.ensures.items in
    let count : length c.split_products.new.types.items ≡ length (domains_of t) = sym (length-map c.split_products.new.types.items tree_of) ∙ ap length whole in
    let view = ap length c.as_slice.ensures.value in
    let few = domains-count t in
    omega (arith, c.requires.low, c.requires.few)

pub targets-requires-clause-low : goal.targets-requires-clause-low
targets-requires-clause-low c =
    let t = tree_of c.args.raw.ty in
    let whole : tele_of c.split_products.new.types.items ≡ domains_of t = c.in_ok-end.ensures.domains ∙ ap (λ xs. tele_of xs ++ domains_of t) c.new-types.ensures.items in
    transport (All (λ x. height (tree_of x) ≤ 2000)) (sym c.as_slice.ensures.value)
    (all-unmapped (λ x. height x ≤ 2000) tree_of c.split_products.new.types.items
    (transport (All (λ x. height x ≤ 2000)) (sym whole) (domains-low t 2000 c.requires.low)))

pub targets-requires-clause-end : goal.targets-requires-clause-end
targets-requires-clause-end c =
    let t = tree_of c.args.raw.ty in
    let low = end-low t in
    let few = c.requires.low in
    transport (λ x. height x ≤ 2000) (sym c.in_ok-end.ensures.end) (omega arith)

pub targets-requires-clause-ended : goal.targets-requires-clause-ended
targets-requires-clause-ended c =
    let t = tree_of c.args.raw.ty in
    ap domains_of c.in_ok-end.ensures.end ∙ domains-ended (end_of t) (end-ends t)

pub leveled_constructor-requires-clause-asked : goal.leveled_constructor-requires-clause-asked
leveled_constructor-requires-clause-asked c =
    let t = tree_of c.args.raw.ty in
    let whole : tele_of c.split_products.new.types.items ≡ domains_of t = c.in_ok-end.ensures.domains ∙ ap (λ xs. tele_of xs ++ domains_of t) c.new-types.ensures.items in
    transport (λ types. AreWellScoped c.args.sig.now (tele_of c.args.f.now.params ++ types) []) (sym whole)
    (after_domains t c.requires.asked (omega (arith, c.requires.few, length-map c.args.f.now.params tree_of)) c.requires.low)

pub leveled_constructor-requires-clause-low : goal.leveled_constructor-requires-clause-low
leveled_constructor-requires-clause-low c =
    let t = tree_of c.args.raw.ty in
    let whole : tele_of c.split_products.new.types.items ≡ domains_of t = c.in_ok-end.ensures.domains ∙ ap (λ xs. tele_of xs ++ domains_of t) c.new-types.ensures.items in
    all-unmapped (λ x. height x ≤ 2000) tree_of c.split_products.new.types.items
    (transport (All (λ x. height x ≤ 2000)) (sym whole) (domains-low t 2000 c.requires.low))
