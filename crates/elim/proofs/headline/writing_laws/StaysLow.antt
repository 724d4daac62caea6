-- Declarations that are accepted show no term that is too high.
use Rattle.std.proofs.Common.{◌^◌, List, [], ◌∷◌, Result, Ok, Err, IfOk, subst, arith}
use Rattle.std.proofs.lemmas.Option.{slice_get_within}
use Rattle.theory.specs.Prelude.{prelude}
use Rattle.theory.specs.Signatures.{Signature}
use Rattle.surface_syntax.specs.Trees as surf
use Rattle.surface_syntax.specs.declared.tree.Word.{Word}
use Rattle.resolve.specs.Functions.{Function, function}
use Rattle.resolve.specs.declared.stop.ResolveStop.{ResolveStop}
use Rattle.tree_translation.specs.Plans.{Plan}
use Rattle.clause_reports.specs.elaboration.Refusals.{Refusal}
use Rattle.clause_reports.specs.elaboration.Functions.{plan_of}
use Rattle.elab_session.specs.declared.refusal.Refusal as session
use Rattle.function_session.specs.Elaborating.{Elaborated}
use Rattle.surface_syntax.specs.word_laws.Words.{Each}
use Rattle.elim.specs.headline.writing_laws.Writing.{AreLow, HasFewParameters, EntriesStayLow}
use Rattle.elim.proofs.elim_program.DeclaredNames.{WordsAre}
use Rattle.elim.proofs.headline.writing_laws.Carrying.{Any}
use Rattle.elim.proofs.headline.writing_laws.Functions.{PartsAre, FunctionFew}
use Rattle.elim.proofs.headline.writing_laws.Heights.{define-low, eliminator-low, axiom_k-low, declare-low}
use Rattle.elim.proofs.headline.writing_laws.Sessions.{DeclIs, KeepsAll, declared-keeps}

low-is-kept : KeepsAll Any Any Any (2 ^ 32) AreLow
low-is-kept = record {
  keeps = record {
    define = λ S name type body left low h. define-low S name type body left low;
    eliminator = λ S n f m left low. eliminator-low S n f m left low;
    axiom_k = λ S i m left low. axiom_k-low S i m left low;
    generated = λ S g low listed. tt;
    own = λ x h. tt;
    motive = λ x h. tt;
    step = λ x h. tt;
    helper = λ x k h few. tt;
    proof = λ x k clause h few. tt;
  };
  induction = λ x h. tt;
  declare = λ S raw left low h. declare-low S raw left low h.few;
}

any-names : (cons : List surf.Typed) → Each (λ c. Any c.name.text) cons
any-names [] = tt
any-names (c ∷ cons) = (tt, any-names cons)

any-members : (members : List surf.Member) → Each (WordsAre Any) members
any-members [] = tt
any-members (m ∷ members) = ((tt, any-names m.cons), any-members members)

any-words : (words : List Word) → Each (λ x. Any x.text) words
any-words [] = tt
any-words (x ∷ words) = (tt, any-words words)

any-parts : (S : Signature) (r : Result Function ResolveStop) → IfOk r (FunctionFew Any S)
any-parts S (Ok f) = λ level left. always (plan_of S f level left).0
  where
    always : (r : Result Plan Refusal) → IfOk r (PartsAre Any)
    always (Ok plan) = λ k lt. tt
    always (Err e) = tt
any-parts S (Err e) = tt

few-is : (S : Signature) (d : surf.Decl) → HasFewParameters d → DeclIs Any Any (2 ^ 32) S d
few-is S (surf.Def x ty body) few = tt
few-is S (surf.Data x params ty cons) few = (tt, few, any-names cons)
few-is S (surf.Decide x family into) few = tt
few-is S (surf.Mutual params members f tag tags) few = (any-members members, tt, tt, any-words tags, few)
few-is S (surf.Fun x ty clauses) few = (tt, any-parts S (function S x ty clauses))

pub entries-stay-low : EntriesStayLow
entries-stay-low = (
  λ k n e after at. (let lt = slice_get_within (prelude k).entries n e at in absurd (omega arith)),
  λ s d a low few is. (
      let Keeps-low : Result Elaborated session.Refusal → Type 0 = λ r. IfOk r (λ b. AreLow b.signature) in
      subst Keeps-low is (declared-keeps Any Any Any (2 ^ 32) AreLow low-is-kept s low d (few-is s.signature d few))),
)
