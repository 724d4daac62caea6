-- The one next step of a term at its head.
use Rattle.std.specs.Prelude.{ℕ, ◌+◌, Bool, false, cond, ◌&&◌, ◌==◌, Option, Some, None, option_map, option_and_then, List, [], ◌∷◌, length, take, drop, slice_get}
use Rattle.theory.specs.Terms.{Term, Lam, App, Let, Const, Con, Elim, AxiomK, subst}
use Rattle.theory.specs.Spines.{head_of, spine_of}
use Rattle.theory.specs.Families.{Family, Constructor}
use Rattle.theory.specs.Eliminators.{iota_right}
use Rattle.theory.specs.Signatures.{Signature, equality}
use Rattle.kernel_reduce.specs.Entries.{body_at, family_at}
use Rattle.kernel_reduce.specs.Identities.{has_k_at}

-- a function at an argument
abbrev pub beta_step : Term → Term → Option Term
beta_step (Lam a b) u = Some (subst b 0 u)
beta_step f u = None

-- the arguments are all that an eliminator of the family takes before its scrutinee
abbrev pub fills : List Term → Option Family → Bool
fills args (Some f) = length args == length f.parameters + (1 + (length f.constructors + length f.indices))
fills args None = false

-- a head with its arguments takes one argument more, its scrutinee: an eliminator, or K where it steps
abbrev pub awaits_scrutinee : Signature → Term → List Term → Bool
awaits_scrutinee S (Elim n m) args = fills args (family_at S n)
awaits_scrutinee S (AxiomK i m) args = has_k_at S i && (length args == 4)
awaits_scrutinee S _ args = false

-- The parameters `ps` of an eliminator, and in `rest` its motive, its methods and its indices; `us` are the arguments of
-- constructor `c` without its parameters.
abbrev pub method_applied : ℕ → ℕ → Family → ℕ → Constructor → List Term → List Term → List Term → Option Term
method_applied n m f number c us ps (P ∷ rest) =
    let ms = take (length f.constructors) rest in
    option_map (λ method. iota_right n m ps P ms c.arguments method us) (slice_get ms number)
method_applied n m f number c us ps [] = None

-- iota at constructor `c`, where it has all its arguments `us`, the parameters first
abbrev pub iota_at : ℕ → ℕ → Family → List Term → ℕ → List Term → Constructor → Option Term
iota_at n m f args number us c =
    let k = length f.parameters in
    cond (length us == k + length c.arguments)
    (method_applied n m f number c (drop k us) (take k args) (drop k args))
    None

-- iota of the eliminator of family n into Type m, at a scrutinee with the given head and arguments
abbrev pub iota_step : ℕ → ℕ → List Term → Term → List Term → Family → Option Term
iota_step n m args (Con g number) us f =
    cond (g == n) (option_and_then (iota_at n m f args number us) (slice_get f.constructors number)) None
iota_step n m args _ us f = None

-- K at a reflexivity of Eq.i with its two arguments
abbrev pub k_step : ℕ → List Term → Term → List Term → Option Term
k_step i args (Con g number) us =
    cond ((g == equality i) && ((number == 0) && (length us == 2))) (slice_get args 3) None
k_step i args _ us = None

-- iota or K, by the head and the arguments before the scrutinee, and the head and the arguments of the scrutinee
abbrev pub contraction : Signature → Term → List Term → Term → List Term → Option Term
contraction S (Elim n m) args h us = option_and_then (iota_step n m args h us) (family_at S n)
contraction S (AxiomK i m) args h us = k_step i args h us
contraction S _ args h us = None

-- the step of the scrutinee in its place, where it takes one, and else the contraction
abbrev pub scrutinee_step : Term → Option Term → Option Term → Option Term
scrutinee_step f (Some u) contracted = Some (App f u)
scrutinee_step f None contracted = contracted

-- the step of `App f u` where f awaits its scrutinee, and u steps to `inner`
abbrev pub elimination_step : Signature → Term → Term → Option Term → Option Term
elimination_step S f u inner =
    cond (awaits_scrutinee S (head_of f) (spine_of f))
    (scrutinee_step f inner (contraction S (head_of f) (spine_of f) (head_of u) (spine_of u)))
    None

-- the first value that is there
abbrev pub first_of : Option Term → Option Term → Option Term
first_of (Some t) other = Some t
first_of None other = other

-- the step of `App f u`, where f steps to `outer` and u to `inner`: that of f comes first
abbrev pub application_step : Signature → Term → Term → Option Term → Option Term → Option Term
application_step S f u (Some g) inner = Some (App g u)
application_step S f u None inner = first_of (beta_step f u) (elimination_step S f u inner)

-- the step of a term, without delta where `delta` is false
abbrev pub step_of : Signature → Bool → Term → Option Term
step_of S delta (App f u) = application_step S f u (step_of S delta f) (step_of S delta u)
step_of S delta (Let a t b) = Some (subst b 0 t)
step_of S delta (Const n) = cond delta (body_at S n) None
step_of S delta _ = None
