use Rattle.std.proofs.Common.{Ok, ℕ, List, [], ◌∷◌, ◌++◌, length, map, ap, ap₂, ◌∙◌}
use Rattle.std.proofs.lemmas.List.{map-append}
use Rattle.theory.specs.Terms.{Term, Fam}
use Rattle.theory.specs.Substitutions.{fill}
use Rattle.theory.specs.Telescopes.{applied, variables, weaken_by, inst_telescope}
use Rattle.theory.specs.Eliminators.{no_variable}
use Rattle.core_terms.specs.Meanings.{tree_of, tele_of}
use Rattle.core_terms.proofs.Builders.{ok_is}
use Rattle.core_sig.specs.declared.family.Arg.{Arg}
use Rattle.tele_eq.specs.Items.{Item, item_of, items_of}
use Rattle.unification.specs.Records.{items_at}
use Rattle.run_terms.proofs.FamilyItems.{family-items-are}
use Rattle.run_terms.proofs.instances.family_items.Goals as goal

pub returns : goal.returns
returns c =
    let ps = tele_of c.args.ps.now in
    let level = c.args.f.now.level in
    let first : List Arg → List Item = λ args.
    items_at (inst_telescope (fill no_variable ps) (map (λ a. tree_of a.ty) args)) (map (λ a. a.level) args) in
    let last : ℕ → Term = λ k. applied (weaken_by k (applied (Fam c.args.n) ps)) (variables k) in
    let with : List Item → Term → List Item = λ X t. X ++ record { type = t; level = level } ∷ [] in
    let indices = c.as_slice-indices.ensures in
    ap Ok
    (ap items_of (c.in_ok-push.ensures.ok)
    ∙ (map-append item_of c.in_ok-made.made (record { ty = c.in_ok-ty.ty; level = level } ∷ [])
    ∙ (ap₂ with (ok_is c.in_ok-made.ensures ∙ ap first indices)
    (ok_is c.in_ok-ty.ensures ∙ ap last (c.in_ok-count.ensures.ok ∙ ap length indices))
    ∙ family-items-are c.args.n c.args.f.now ps)))
