-- The record of a family in a scoped signature has no variables beyond those that its parts are over.
use Rattle.std.proofs.Common.{ℕ, ◌+◌, ◌≤◌, List, [], ◌∷◌, length}
use Rattle.std.proofs.lemmas.List.Elements.{All-weaker}
use Rattle.std.specs.List.{All}
use Rattle.theory.specs.Terms.{Term, free_of}
use Rattle.theory.specs.Telescopes.{Telescope}
use Rattle.theory.specs.Families.{Argument, Constructor, Family, index_types}
use Rattle.theory.specs.Families.Argument.{Plain, Recursive}
use Rattle.theory.specs.Signatures.{Signature, FamilyOf, IsEntryAt}
use Rattle.theory.specs.WellFormed.{first_entries}
use Rattle.theory.specs.Scopes as record_scopes
use Rattle.theory.specs.SignatureScopes.{IsScoped, IsScopedTelescope, IsScopedArguments, IsScopedConstructor, IsScopedSignature}

telescope-over : (S : Signature) (n : ℕ) (tele : Telescope) → IsScopedTelescope S n tele → record_scopes.IsTelescopeOver n tele
telescope-over S n [] h = tt
telescope-over S n (a ∷ tele) h = (h.0.variables, telescope-over S (n + 1) tele h.1)

terms-over : (S : Signature) (n : ℕ) (us : List Term) → All (IsScoped S n) us → All (λ t. free_of t ≤ n) us
terms-over S n us h = All-weaker (IsScoped S n) (λ t. free_of t ≤ n) (λ t k. k.variables) us h

arguments-over : (S : Signature) (n : ℕ) (arguments : List Argument) → IsScopedArguments S n arguments → record_scopes.AreArgumentsOver n arguments
arguments-over S n [] h = tt
arguments-over S n (Plain type level ∷ arguments) h = (h.0.0.variables, arguments-over S (n + 1) arguments h.1)
arguments-over S n (Recursive inner targets level ∷ arguments) h =
    ((telescope-over S n inner h.0.0, terms-over S (n + length inner) targets h.0.1), arguments-over S (n + 1) arguments h.1)

constructor-over : (S : Signature) (n indices : ℕ) (c : Constructor) → IsScopedConstructor S n indices c → record_scopes.IsConstructorOver n c
constructor-over S n indices c h =
    record { arguments = arguments-over S n c.arguments h.arguments; targets = terms-over S (n + length c.arguments) c.targets h.targets }

pub family-over : (S : Signature) (n : ℕ) (f : Family) → IsScopedSignature S → IsEntryAt S n (FamilyOf f) → record_scopes.IsClosedFamily f
family-over S n f scoped at =
    let h = scoped n (FamilyOf f) at in
    let k = length f.parameters in
    record {
      parameters = telescope-over (first_entries S n) 0 f.parameters h.parameters;
      indices = telescope-over (first_entries S n) k (index_types f) h.indices;
      constructors =
          All-weaker (IsScopedConstructor (first_entries S (n + 1)) k (length f.indices)) (record_scopes.IsConstructorOver k)
          (constructor-over (first_entries S (n + 1)) k (length f.indices)) f.constructors h.constructors;
    }
