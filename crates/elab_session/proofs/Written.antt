-- Laws of one declaration, form by form: what it keeps, and that it is accepted as it is written.
use Rattle.theory.specs.Signatures.{IsPrefix}
use Rattle.surface_syntax.specs.Trees as surf
use Rattle.elab_session.specs.Entering.{CanEnter}
use Rattle.elab_session.specs.Laws.{DeclareExtends, DeclareKeepsReady, DeclaresAsWritten}
use Rattle.elab_session.specs.Sessions.{IsReady}
use Rattle.elab_session.proofs.Entered.{entry-extends, entry-ready}
use Rattle.elab_session.proofs.Resolved.{declare-has}
use Rattle.elab_session.proofs.Enterable.{resolved-can}
use Rattle.elab_session.proofs.WrittenDefinitions.{definition-written}
use Rattle.elab_session.proofs.WrittenFamilies.{family-written}

pub declare-extends : DeclareExtends
declare-extends S fuel d =
    declare-has (CanEnter S) (λ a. IsPrefix S a.signature) S fuel d (resolved-can S d) (λ raw can. entry-extends S raw fuel)

pub declare-ready : DeclareKeepsReady
declare-ready S fuel d ready =
    declare-has (CanEnter S) (λ a. IsReady a.signature) S fuel d (resolved-can S d) (λ raw can. entry-ready S raw fuel ready can)

pub declares-written : DeclaresAsWritten
declares-written S fuel (surf.Def x ty body) well = definition-written S fuel x ty body well
declares-written S fuel (surf.Data x params ty cons) well = family-written S fuel x params ty cons well
declares-written S fuel (surf.Decide x of decision) well = tt
declares-written S fuel (surf.Mutual params members whole tag tags) well = tt
declares-written S fuel (surf.Fun x ty clauses) well = tt
