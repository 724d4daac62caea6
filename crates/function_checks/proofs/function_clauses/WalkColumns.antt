-- A walk ends with as many terms as it begins with.
use Rattle.std.proofs.Common.{◌≡◌, ℕ, Ok, IfOk, List, [], length, map, sym, ◌∙◌, subst as transport}
use Rattle.std.proofs.lemmas.List.{length-map}
use Rattle.theory.specs.Terms.{Term}
use Rattle.theory.specs.Telescopes.{Telescope}
use Rattle.theory.specs.Signatures.{Signature}
use Rattle.core_terms.specs.CaseTrees.{Walk}
use Rattle.core_terms.specs.Clauses.{Clause, Is}
use Rattle.case_trees.proofs.WalkLeading.{walk_leads}
use Rattle.case_trees.specs.Laws.{IsGiven, LeadsTo}
use Rattle.case_trees.specs.OwnWalks.{own_walk_of}
use Rattle.case_trees.specs.Points.{start_at, under_solution}
use Rattle.case_trees.specs.Scoped.{IsClauseOf}
use Rattle.case_trees.specs.Stops.{Stopping}
use Rattle.unification.proofs.UnderInstances.{each-length}

pub walk-columns : (S : Signature) (context : Telescope) (goal : Term) (terms : List Term) (c : Clause) (number left rest : ℕ) (w : Walk)
    → IsGiven S context goal terms → IsClauseOf S terms c → ◌≡◌ {A = Stopping Walk} (Ok w, rest) (own_walk_of S context goal terms c number left)
    → length w.terms ≡ length terms
walk-columns S context goal terms (Is pats binds right) number left rest w given for e =
    let leads : LeadsTo S (start_at context goal terms) w.goal w.subst w.terms =
    transport (λ r. IfOk r.0 (λ w. LeadsTo S (start_at context goal terms) w.goal w.subst w.terms)) (sym e)
    (walk_leads S context goal terms pats binds right number left given for) in
    sym (sym (length-map terms (under_solution w.subst)) ∙ each-length S (map (under_solution w.subst) terms) w.terms leads.terms_there)
