use Rattle.std.proofs.Common.{sym, ◌∙◌, ap, ◌∷◌, []}
use Rattle.std.proofs.lemmas.List.{map-append}
use Rattle.theory.specs.Telescopes.{functions}
use Rattle.core_terms.specs.Meanings.{tree_of, tele_of}
use Rattle.core_terms.proofs.Builders.{functions-push, ok_is}
use Rattle.core_terms.proofs.building.functions.Goals as goal

pub loop-ty-preserved : goal.loop-ty-preserved
loop-ty-preserved c =
    ap (functions (tele_of c.pop.new.self.items)) (ok_is c.in_ok-whole.ensures)
    ∙ (sym (functions-push (tele_of c.pop.new.self.items) (tree_of c.in-Some.ty) (tree_of c.loop-ty.whole))
    ∙ (ap (λ tele. functions tele (tree_of c.loop-ty.whole))
    (sym (map-append tree_of c.pop.new.self.items (c.in-Some.ty ∷ [])) ∙ ap tele_of (sym c.in-Some.ensures.items))
    ∙ c.loop-ty.invariant))
