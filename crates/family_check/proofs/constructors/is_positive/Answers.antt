use Rattle.std.proofs.Common.{◌≡◌, Bool, true, false, not, ◌||◌, sym, ◌∙◌, rules, arith}
use Rattle.std.specs.Option.{is_some}
use Rattle.std.proofs.lemmas.List.{length-map}
use Rattle.theory.specs.Families.{mentions}
use Rattle.core_terms.specs.Meanings.{tree_of}
use Rattle.core_sig.specs.Meanings.{family_of}
use Rattle.family_check.specs.Shapes.{recursive_parts}
use Rattle.family_check.proofs.KindShapes.{kind-tells}
use Rattle.family_check.proofs.constructors.is_positive.Goals as goal

positive : (m r p : Bool) → m ≡ true → r ≡ p → r ≡ (not m || p)
positive true r p is e = e
positive false r p is e = absurd (grind arith)

pub returns-else-not-mentions : goal.returns-else-not-mentions
returns-else-not-mentions c =
    let f = family_of c.args.f.now in
    let t = tree_of c.args.ty.now in
    let there : mentions c.args.n t ≡ true = sym c.mentions.ensures ∙ (search rules) in
    positive (mentions c.args.n t) c.is_recursive.result (is_some (recursive_parts c.args.n f c.args.at t)) there
    (c.is_recursive.ensures ∙ sym (kind-tells c.args.n f c.args.at c.kind_of.result t
    (c.kind_of.ensures f (length-map c.args.f.now.params tree_of) (length-map c.args.f.now.indices (λ i. (tree_of i.ty, i.level))))))
