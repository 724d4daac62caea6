use Rattle.std.proofs.Common.{sym, ◌∙◌, ap, ◌∷◌, []}
use Rattle.std.proofs.lemmas.List.{map-append}
use Rattle.theory.specs.Terms.Term.{App}
use Rattle.theory.specs.Telescopes.{applied}
use Rattle.core_terms.specs.Meanings.{tree_of, tele_of}
use Rattle.core_terms.proofs.Builders.{applied-push, ok_is}
use Rattle.core_terms.proofs.building.applied.Goals as goal

pub loop-arg-preserved : goal.loop-arg-preserved
loop-arg-preserved c =
    ok_is c.in_ok-whole.ensures
    ∙ (ap (λ f. App f (tree_of c.in-Some.arg)) c.loop-arg.invariant
    ∙ (sym (applied-push (tree_of c.args.head) (tele_of c.loop-arg.yielded) (tree_of c.in-Some.arg))
    ∙ ap (applied (tree_of c.args.head)) (sym (map-append tree_of c.loop-arg.yielded (c.in-Some.arg ∷ [])))))
