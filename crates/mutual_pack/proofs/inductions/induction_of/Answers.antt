use Rattle.std.proofs.Common.{◌≡◌, ◌∷◌, [], ap, ◌∙◌, rules}
use Rattle.core_terms.specs.Meanings.{tree_of}
use Rattle.core_terms.proofs.Builders.{ok_is}
use Rattle.core_sig.specs.Shapes.{shape_of}
use Rattle.mutual_pack.specs.Inductions.{packed_numbers, induction_type, induction_term, induction_name, analysis_name}
use Rattle.mutual_pack.specs.MutualFamilies.{packed_of}
use Rattle.mutual_pack.proofs.Entries.{drafted-same}
use Rattle.mutual_pack.proofs.inductions.induction_of.Goals as goal

pub returns : goal.returns
returns c =
    let packed = packed_of c.args.packed.now in
    let f = shape_of c.args.f.now in
    let q = packed_numbers packed f in
    let same = c.requires.numbers in
    let type : tree_of c.in_ok-ty.ty ≡ induction_type q packed.owners f c.args.k =
    ok_is c.in_ok-ty.ensures ∙ (ap (λ x. induction_type x c.as_slice-owners.result.now f c.args.k) same ∙ ap (λ x. induction_type q x f c.args.k) c.as_slice-owners.ensures) in
    let term : tree_of c.in_ok-body.body ≡ induction_term q packed.owners f c.args.base c.args.k =
    ok_is c.in_ok-body.ensures ∙ (ap (λ x. induction_term x c.as_slice-owners.result.now f c.args.base c.args.k) same ∙ ap (λ x. induction_term q x f c.args.base c.args.k) c.as_slice-owners.ensures) in
    drafted-same c.drafted.result c.args.base _ (induction_name c.args.name.now) _ (analysis_name packed ∷ []) _ (induction_type q packed.owners f c.args.k) _ (induction_term q packed.owners f c.args.base c.args.k)
    (search rules) (search rules) type term c.drafted.ensures
