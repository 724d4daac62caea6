-- Constructors in scoped terms: their families occur in the signature, and their parts are scoped.
use Rattle.std.proofs.Common.{◌≡◌, ℕ, Some, IfSome, List, ◌++◌, length, slice_get, sym, subst, arith}
use Rattle.std.proofs.lemmas.List.Elements.{All-append, All-take, All-drop}
use Rattle.std.proofs.lemmas.Option.{slice_get_within}
use Rattle.std.specs.List.{All}
use Rattle.theory.specs.Terms.{Term}
use Rattle.theory.specs.Terms.Term.{Con}
use Rattle.theory.specs.Telescopes.{applied}
use Rattle.theory.specs.Spines.{spine_of}
use Rattle.theory.specs.Signatures.{Signature, FamilyOf, IsEntryAt}
use Rattle.theory.specs.SignatureScopes.{IsScoped}
use Rattle.theory.proofs.ScopedTerms.{applied-scoped, spine-scoped}
use Rattle.unification.specs.Built.{Built, built_of}
use Rattle.unification.proofs.Constructors.{each-found, found, built-is}

-- a constructor of a family of the signature, with as many arguments as it has, and scoped parts
pub record IsBuiltIn (S : Signature) (m : ℕ) (b : Built) : Type 0 where
  pub entry : IsEntryAt S b.n (FamilyOf b.family)
  pub constructor : slice_get b.family.constructors b.number ≡ Some b.constructor
  pub parameters : All (IsScoped S m) b.parameters
  pub arguments : All (IsScoped S m) b.arguments
  pub count : length b.arguments ≡ length b.constructor.arguments

-- a constructor that a scoped term is
pub built-scoped : (S : Signature) (m : ℕ) (t : Term) (b : Built) → built_of S t ≡ Some b → IsScoped S m t → IsBuiltIn S m b
built-scoped S m t b e h =
    let is = found S t b e in
    let built = (built-is S t b e).built in
    let count = length b.family.parameters in
    let all = spine-scoped S m t h in
    record {
      entry = built.family;
      constructor = built.constructor;
      parameters = subst (All (IsScoped S m)) (sym is.parameters) (All-take (IsScoped S m) count (spine_of t) all);
      arguments = subst (All (IsScoped S m)) (sym is.arguments) (All-drop (IsScoped S m) count (spine_of t) all);
      count = built.arguments;
    }

pub built-in : (S : Signature) (m : ℕ) (t : Term) → IsScoped S m t → IfSome (built_of S t) (IsBuiltIn S m)
built-in S m t h = each-found S t (IsBuiltIn S m) (λ b e. built-scoped S m t b e h)

-- the constructor at other scoped arguments
pub with_arguments-scoped : (S : Signature) (m : ℕ) (b : Built) (us : List Term) → IsBuiltIn S m b → All (IsScoped S m) us
    → IsScoped S m (applied (Con b.n b.number) (b.parameters ++ us))
with_arguments-scoped S m b us is all =
    applied-scoped S m (Con b.n b.number) (b.parameters ++ us)
    (record { variables = omega arith; entries = (b.family, is.entry, slice_get_within b.family.constructors b.number b.constructor is.constructor) })
    (All-append (IsScoped S m) b.parameters us is.parameters all)
