-- The laws of declarations and of calls.
use Rattle.std.proofs.Common.{◌≡◌, ℕ, List, length, Result, Ok, IfOk, sym, ap, ◌∙◌, subst}
use Rattle.theory.specs.Terms.{Term}
use Rattle.theory.specs.Signatures.{Signature, IsPrefix}
use Rattle.theory.specs.SignatureScopes.{IsFamilyNumber, IsConstantNumber}
use Rattle.core_sig.specs.Raw.{raw_of}
use Rattle.core_sig.specs.declared.raw.RawFamily.{RawFamily}
use Rattle.surface_syntax.specs.Trees as surf
use Rattle.surface_syntax.specs.declared.tree.Word.{Word}
use Rattle.resolve.specs.declared.fun_core.FunCore.{FunCore}
use Rattle.resolve.specs.declared.stop.ResolveStop.{ResolveStop}
use Rattle.core_terms.proofs.Answers.{stands-has}
use Rattle.resolve.specs.Answers.{IsUnforeseen, Gives}
use Rattle.resolve.specs.Families.{family}
use Rattle.resolve.specs.Functions.{function}
use Rattle.resolve.specs.Laws.{TermsResolve, FamiliesResolve, FunctionsResolve}
use Rattle.resolve.specs.Names.{scope_of, known_in}
use Rattle.resolve.specs.Resolving.{resolve}
use Rattle.resolve.specs.Scoping.{IsResolved, IsResolvedFamily, IsResolvedFunction}
use Rattle.resolve.specs.PatternMeanings.{fun_of}
use Rattle.resolve.proofs.KnownNames.{known_resolved}
use Rattle.resolve.proofs.ScopedTerms.{term_resolved}
use Rattle.resolve.proofs.ScopedFamilies.{length_scope, itself, family_resolved}
use Rattle.resolve.proofs.ScopedFunctions.{function_resolved}

pub terms-resolve : TermsResolve
terms-resolve S names t =
    subst (λ n. IfOk (resolve (known_in S) t (scope_of names)) (IsResolved S n)) (length_scope names)
    (term_resolved S (known_in S) (known_resolved S S (itself S)) t (scope_of names))

pub families-resolve : FamiliesResolve
families-resolve S T (surf.Data name params ty cons) p at = family_resolved S T p at name params ty cons
families-resolve S T (surf.Def name ty body) p at = tt
families-resolve S T (surf.Decide name f d) p at = tt
families-resolve S T (surf.Mutual params members f tag tags) p at = tt
families-resolve S T (surf.Fun name ty cs) p at = tt

pub functions-resolve : FunctionsResolve
functions-resolve S T (surf.Fun name ty cs) p at = function_resolved S T p at name ty cs
functions-resolve S T (surf.Def name ty body) p at = tt
functions-resolve S T (surf.Decide name f d) p at = tt
functions-resolve S T (surf.Mutual params members f tag tags) p at = tt
functions-resolve S T (surf.Data name params ty cons) p at = tt

-- a term that is answered under names
pub term_is : (S : Signature) (names given : List (List ℕ)) (t : surf.Surf) (a : Term) → given ≡ names → Ok a ≡ resolve (known_in S) t (scope_of given) → IsResolved S (length names) a
term_is S names given t a same is =
    subst (λ r. IfOk r (IsResolved S (length names))) (sym (is ∙ ap (λ names. resolve (known_in S) t (scope_of names)) same)) (terms-resolve S names t)

pub family_has : (S T : Signature) → IsPrefix S T → IsFamilyNumber T (length S.entries) → (x : Word) (params : List surf.Typed) (ty : surf.Surf) (cons : List surf.Typed) (result : Result RawFamily ResolveStop)
    → Gives raw_of result (family S x params ty cons) → IfOk result (λ raw. IsResolvedFamily S T (raw_of raw))
family_has S T p at x params ty cons result g = stands-has IsUnforeseen (λ e. e) raw_of (IsResolvedFamily S T) result (family S x params ty cons) g (family_resolved S T p at x params ty cons)

pub function_has : (S T : Signature) → IsPrefix S T → IsConstantNumber T (length S.entries) → (x : Word) (ty : surf.Surf) (ws : surf.Clauses) (result : Result FunCore ResolveStop)
    → Gives fun_of result (function S x ty ws) → IfOk result (λ f. IsResolvedFunction S T (fun_of f))
function_has S T p at x ty ws result g = stands-has IsUnforeseen (λ e. e) fun_of (IsResolvedFunction S T) result (function S x ty ws) g (function_resolved S T p at x ty ws)
