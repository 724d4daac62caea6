use Rattle.std.proofs.Common.{Result, Ok, map, length, ap, ◌∙◌}
use Rattle.theory.specs.Terms.Term.{Sort}
use Rattle.theory.specs.Telescopes.{products}
use Rattle.core_terms.specs.Meanings.{tree_of, tele_of}
use Rattle.core_terms.specs.declared.stop.Stop.{Stop}
use Rattle.core_terms.proofs.Builders.{ok_is}
use Rattle.core_sig.specs.Raw.{RawFamily}
use Rattle.core_text.specs.Records.{constructor_shown}
use Rattle.elab_session.proofs.ShownFamilies.{family-shown}
use Rattle.elab_session.proofs.shown.family_shown.Goals as goal

abbrev ok : RawFamily → Result RawFamily Stop
ok f = Ok f

pub returns : goal.returns
returns c =
    ap ok
    (family-shown c.args.number c.args.f.now _ _ _ _ (record { indices = c.requires.indices; constructors = c.requires.constructors })
    (c.in_ok-name.ensures)
    (ok_is c.in_ok-params.ensures ∙ ap tele_of c.as_slice.ensures)
    (ok_is c.in_ok-ty.ensures ∙ ap (λ ts. products ts (Sort c.args.f.now.level)) (ok_is c.in_ok-types.ensures ∙ ap (map (λ a. tree_of a.ty)) c.as_slice-2.ensures))
    (ok_is c.in_ok-cons.ensures ∙ (ap (λ cs. map (constructor_shown c.args.number c.in_ok-count.count) cs) c.as_slice-4.ensures
    ∙ ap (λ p. map (constructor_shown c.args.number p) c.args.f.now.cons) (c.in_ok-count.ensures.ok ∙ ap length c.as_slice-3.ensures))))
