use Rattle.std.proofs.Common.{◌≡◌, ◌≤◌, [], None, Some, length, map, slice_get, refl, ap, sym, ◌∙◌, subst}
use Rattle.std.proofs.lemmas.Bool.{ltb-false}
use Rattle.std.proofs.lemmas.Option.{slice_get_read, slice_get_past}
use Rattle.std.specs.Option.{option_map_or}
use Rattle.core_sig.specs.Shapes.{argument_shape}
use Rattle.core_sig.specs.declared.family.Constructor.{Constructor}
use Rattle.mutual_pack.proofs.Lookups.{arguments_are, few-arguments}
use Rattle.mutual_pack.proofs.equations.arguments_of.Goals as goal

pub returns-in-Some-clause-few : goal.returns-in-Some-clause-few
returns-in-Some-clause-few c =
    let there = subst (λ cons. slice_get cons c.args.number ≡ Some c.in-Some.con.now) c.as_slice.ensures (slice_get_read c.as_slice.result.now _ c.args.number c.in-Some.con.now refl c.in-Some.ensures.lookup.3.0 c.in-Some.ensures.lookup.1) in
    subst (λ args. length args ≤ 2000) (sym c.as_slice-in-Some.ensures)
    (few-arguments c.args.f.now.cons c.args.number c.in-Some.con.now c.requires.arguments there)

pub returns-in-None-clause-is : goal.returns-in-None-clause-is
returns-in-None-clause-is c =
    let past = ltb-false c.args.number (length c.as_slice.result.now) (sym c.in-None.ensures.lookup.0) in
    let none : slice_get c.args.f.now.cons c.args.number ≡ None = subst (λ cons. slice_get cons c.args.number ≡ None) c.as_slice.ensures (slice_get_past c.as_slice.result.now c.args.number past) in
    sym (arguments_are c.args.f.now.cons c.args.number ∙ ap (λ o. option_map_or (λ (con : Constructor). map argument_shape con.args) o []) none)
