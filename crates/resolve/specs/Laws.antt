-- Laws of resolution, in the form that callers need.
use Rattle.std.specs.Prelude.{ℕ, List, length, IfOk}
use Rattle.theory.specs.Signatures.{Signature, IsPrefix}
use Rattle.theory.specs.SignatureScopes.{IsFamilyNumber, IsConstantNumber}
use Rattle.surface_syntax.specs.Trees as surf
use Rattle.resolve.specs.Families.{resolve_data}
use Rattle.resolve.specs.Functions.{resolve_fun}
use Rattle.resolve.specs.Mutual.{resolve_mutual}
use Rattle.resolve.specs.Resolving.{resolve_term}
use Rattle.resolve.specs.Scoping.{IsResolved, IsResolvedFamily, IsResolvedFunction, HasMemberConstants, IsResolvedMutual}

-- a term is scoped over the signature and the names that it is resolved under
abbrev pub TermsResolve : Type 0
TermsResolve = (S : Signature) (names : List (List ℕ)) (t : surf.Surf) → IfOk (resolve_term S names t) (IsResolved S (length names))

-- a family is scoped over a signature that goes on with an entry for it
abbrev pub FamiliesResolve : Type 0
FamiliesResolve =
    (S T : Signature) (d : surf.Decl) → IsPrefix S T → IsFamilyNumber T (length S.entries) → IfOk (resolve_data S d) (IsResolvedFamily S T)

-- so is a function
abbrev pub FunctionsResolve : Type 0
FunctionsResolve =
    (S T : Signature) (d : surf.Decl) → IsPrefix S T → IsConstantNumber T (length S.entries) → IfOk (resolve_fun S d) (IsResolvedFunction S T)

-- families that refer to each other are scoped over a signature that goes on with a constant for each of them
abbrev pub MutualFamiliesResolve : Type 0
MutualFamiliesResolve =
    (S T : Signature) (d : surf.Decl) → IsPrefix S T → IfOk (resolve_mutual S d) (λ raw. HasMemberConstants S T raw → IsResolvedMutual S T raw)
