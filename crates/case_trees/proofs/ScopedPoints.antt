-- Kept forms of scoped terms are scoped, and so is a point after a solution.
use Rattle.std.proofs.Common.{◌≡◌, ℕ, zero, suc, true, Some, IfSome, List, [], ◌∷◌, ◌++◌, length, map, take, subst as transport}
use Rattle.std.proofs.lemmas.List.Elements.{All-append, All-take, All-cons, All-head, All-tail, All-map, All-weaker}
use Rattle.std.specs.List.{All}
use Rattle.theory.specs.Terms.{Term, Con}
use Rattle.theory.specs.Substitutions.{fill, extend}
use Rattle.theory.specs.Telescopes.{Telescope}
use Rattle.theory.specs.Eliminators.{no_variable}
use Rattle.theory.specs.Signatures.{Signature}
use Rattle.theory.specs.SignatureScopes.{IsScoped, IsScopedTelescope, IsScopedSignature}
use Rattle.theory.proofs.ScopedTerms.{sort-scoped, inst-scoped, applied-scoped, head-scoped}
use Rattle.kernel_reduce.proofs.ScopedReduction.{step-scoped}
use Rattle.unification.specs.Built.{Built, built_of}
use Rattle.unification.proofs.BuiltScopes.{IsBuiltIn, built-in}
use Rattle.unification.proofs.Constructors.{built-is}
use Rattle.case_trees.specs.Points.{Point, under_solution, moved_point}
use Rattle.case_trees.specs.Scoped.{IsScopedPoint}
use Rattle.case_trees.proofs.Arguments.{head-applied}
use Rattle.case_trees.specs.HeadSteps as chain
use Rattle.case_trees.specs.HeadSteps.{Reaches, HeadForm}
use Rattle.case_trees.specs.Kept as kept
use Rattle.case_trees.specs.Kept.{KeptFrom, KeptAll, at_arguments}

pub chain-scoped : (S : Signature) (n : ℕ) → IsScopedSignature S → (t w : Term) → Reaches S t w → IsScoped S n t → IsScoped S n w
chain-scoped S n scoped _ _ (chain.here t) h = h
chain-scoped S n scoped _ _ (chain.more t u w e rest) h =
    chain-scoped S n scoped u w rest (transport (λ o. IfSome o (IsScoped S n)) e (step-scoped S true n t scoped h))

-- the constructor that a scoped term is found to be has scoped parts
pub built-parts : (S : Signature) (n : ℕ) (t : Term) (b : Built) → IsScoped S n t → built_of S t ≡ Some b → IsBuiltIn S n b
built-parts S n t b h e = transport (λ o. IfSome o (IsBuiltIn S n)) e (built-in S n t h)

mutual
  pub kept-scoped : (S : Signature) (n : ℕ) → IsScopedSignature S → (t u : Term) → KeptFrom S t u → IsScoped S n t → IsScoped S n u
  kept-scoped S n scoped _ _ (kept.same t) h = h
  kept-scoped S n scoped t _ (kept.head _ w b us form e all) h =
      let w_scoped = chain-scoped S n scoped t w form.reaches h in
      let parts = built-parts S n w b w_scoped e in
      let head : IsScoped S n (Con b.n b.number) =
      transport (IsScoped S n) (head-applied (Con b.n b.number) (b.parameters ++ b.arguments))
      (head-scoped S n (at_arguments b b.arguments) (transport (IsScoped S n) (built-is S w b e).term w_scoped)) in
      applied-scoped S n (Con b.n b.number) (b.parameters ++ us) head
      (All-append (IsScoped S n) b.parameters us parts.parameters (all-kept-scoped S n scoped b.arguments us all parts.arguments))

  pub all-kept-scoped : (S : Signature) (n : ℕ) → IsScopedSignature S → (ts us : List Term) → KeptAll S ts us → All (IsScoped S n) ts → All (IsScoped S n) us
  all-kept-scoped S n scoped _ _ kept.none h = h
  all-kept-scoped S n scoped _ _ (kept.more t u ts us one all) h =
      All-cons (IsScoped S n) u us (kept-scoped S n scoped t u one (All-head (IsScoped S n) t ts h))
      (all-kept-scoped S n scoped ts us all (All-tail (IsScoped S n) t ts h))

-- ---- solutions

-- each variable has a scoped term
filled-scoped : (S : Signature) (m : ℕ) (s : ℕ → Term) (us : List Term) → ((v : ℕ) → IsScoped S m (s v)) → All (IsScoped S m) us → (v : ℕ) → IsScoped S m (fill s us v)
filled-scoped S m s [] each all v = each v
filled-scoped S m s (u ∷ us) each all v =
    filled-scoped S m (extend s u) us extended (All-tail (IsScoped S m) u us all) v
  where
    extended : (k : ℕ) → IsScoped S m (extend s u k)
    extended zero = All-head (IsScoped S m) u us all
    extended (suc k) = each k

pub under-scoped : (S : Signature) (n m : ℕ) (solution : List Term) (t : Term) → All (IsScoped S m) solution → IsScoped S n t → IsScoped S m (under_solution solution t)
under-scoped S n m solution t all h =
    inst-scoped S (fill no_variable solution) n m t (λ v less. filled-scoped S m no_variable solution (λ k. sort-scoped 0) all v) h

pub all-under-scoped : (S : Signature) (n m : ℕ) (solution ts : List Term) → All (IsScoped S m) solution → All (IsScoped S n) ts
    → All (IsScoped S m) (map (under_solution solution) ts)
all-under-scoped S n m solution ts all h =
    All-map (IsScoped S m) (under_solution solution) ts
    (All-weaker (IsScoped S n) (λ t. IsScoped S m (under_solution solution t)) (λ t k. under-scoped S n m solution t all k) ts h)

pub moved-scoped : (S : Signature) (p : Point) (context : Telescope) (solution : List Term) → IsScopedPoint S p → IsScopedTelescope S 0 context
    → All (IsScoped S (length context)) solution → IsScopedPoint S (moved_point p context (take (length p.context) solution))
moved-scoped S p context solution h new all =
    let first = All-take (IsScoped S (length context)) (length p.context) solution all in
    record {
      context = new;
      goal = under-scoped S (length p.context) (length context) (take (length p.context) solution) p.goal first h.goal;
      substitution = all-under-scoped S (length p.context) (length context) (take (length p.context) solution) p.substitution first h.substitution;
      terms = all-under-scoped S (length p.context) (length context) (take (length p.context) solution) p.terms first h.terms;
    }
