use Rattle.std.proofs.Common.{Ok, sym, ap, ◌∙◌, subst}
use Rattle.resolve.specs.Answers.{Gives}
use Rattle.resolve.specs.Names.{variable_of}
use Rattle.resolve.specs.Scopes.{names_of}
use Rattle.resolve.proofs.Nearest.{variable-near, far_found}
use Rattle.resolve.proofs.scope.Scope.+variable.Goals as goal

pub returns-in-Some : goal.returns-in-Some
returns-in-Some t c =
    let name = c.args.name.now in
    let near = c.in-Behind.binders.now in
    let far = names_of c.in-Behind.outer.now in
    subst (λ r. Gives (λ found. found) c.some_number.result (Ok r))
    (sym (ap (λ s. variable_of name (names_of s)) c.in-Behind.is ∙ variable-near name near far c.in-Some.n (sym c.variable-in-Behind.ensures ∙ c.in-Some.is)))
    c.some_number.ensures

pub returns-in_ok-variable-in-None : goal.returns-in_ok-variable-in-None
returns-in_ok-variable-in-None t c =
    let name = c.args.name.now in
    let near = c.in-Behind.binders.now in
    let far = names_of c.in-Behind.outer.now in
    subst (λ r. Gives (λ found. found) c.further-in-None.result (Ok r))
    (far_found name near far c.in_ok-variable-in-None.field-0 c.len.result (sym c.variable-in-Behind.ensures ∙ c.in-None.is) c.in_ok-variable-in-None.ensures c.len.ensures
    ∙ sym (ap (λ s. variable_of name (names_of s)) c.in-Behind.is))
    c.further-in-None.ensures
