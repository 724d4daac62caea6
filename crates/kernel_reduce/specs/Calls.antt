-- Hypotheses of iota in the form in which the code makes them. The values stand for the variables of the family's record, the
-- nearest one last, `p` of them for its parameters; `recursor` is the eliminator with parameters, motive and methods.
use Rattle.std.specs.Prelude.{◌≡◌, ℕ, ◌<◌, ◌≤◌, ◌+◌, ◌-◌, nat_lt, nat_le, cond, min, List, [], ◌∷◌, ◌++◌, length, take, drop, get_or}
use Rattle.theory.specs.Terms.{Term, Sort, Pi, Lam, App, Elim, lift}
use Rattle.theory.specs.Telescopes.{applied, variables}
use Rattle.theory.specs.Spines.{spine_of}
use Rattle.core_terms.specs.Meanings.{tree_of}
use Rattle.core_sig.specs.declared.family.Arg.{Arg}
use Rattle.core_sig.specs.declared.family.Constructor.{Constructor}
use Rattle.core_sig.specs.declared.family.Family.{Family}
use Rattle.core_sig.specs.declared.family.ArgKind.{ArgKind}
use Rattle.core_sig.specs.declared.family.ArgKind.TheVariants.{Plain, Recursive}
use Rattle.core_terms.specs.Instances.{instance_of}

-- the recursor at the targets that are in `D p targets`, so many binders further in
abbrev pub call_of : List Term → ℕ → Term → ℕ → Term → Term
call_of values p recursor under (App f a) =
    cond (nat_le p (min (length (spine_of f)) 2001))
    (App (call_of values p recursor under f) (instance_of values under a))
    (lift recursor under 0)
call_of values p recursor under t = lift recursor under 0

-- this call applied to the recursive argument r, which is itself applied to the variables of these binders
abbrev pub recursive_call_of : List Term → ℕ → Term → Term → ℕ → Term → Term
recursive_call_of values p recursor r under t =
    App (call_of values p recursor under t) (applied (lift r under 0) (variables under))

-- the hypothesis for r, whose type has `inner` products before `D p targets`
abbrev pub hypothesis_of : List Term → ℕ → Term → Term → ℕ → ℕ → Term → Term
hypothesis_of values p recursor r inner under (Pi a b) =
    cond (nat_lt 0 inner)
    (Lam (instance_of values under a) (hypothesis_of values p recursor r (inner - 1) (under + 1) b))
    (recursive_call_of values p recursor r under (Pi a b))
hypothesis_of values p recursor r inner under t = recursive_call_of values p recursor r under t

-- In front of `rest` the hypothesis for a recursive argument with the type t: the first `known` values stand for the variables
-- of that type, and the next one is the argument.
abbrev pub hypothesis_before : List Term → ℕ → Term → ℕ → Term → ArgKind → List Term → List Term
hypothesis_before values p recursor known t Plain rest = rest
hypothesis_before values p recursor known t (Recursive inner) rest =
    hypothesis_of (take known values) p recursor (get_or values known (Sort 0)) inner 0 t ∷ rest

-- the hypotheses for arguments after the first `known` values
abbrev pub hypotheses_of : List Term → ℕ → Term → ℕ → List Arg → List Term
hypotheses_of values p recursor known [] = []
hypotheses_of values p recursor known (a ∷ args) =
    hypothesis_before values p recursor known (tree_of a.ty) a.kind (hypotheses_of values p recursor (known + 1) args)

-- the right side of iota for the eliminator of family n into Type m at constructor `number`, where `args` are the arguments of the
-- eliminator and `us` those of the constructor, p parameters first in both
abbrev pub iota_made : ℕ → ℕ → ℕ → ℕ → ℕ → List Term → List Term → List Arg → Term
iota_made n m p constructors number args us codes =
    applied (applied (get_or args (p + (1 + number)) (Sort 0)) (drop p us))
    (hypotheses_of (take p args ++ drop p us) p (applied (Elim n m) (take (p + (1 + constructors)) args)) p codes)

-- The arguments of an eliminator before its scrutinee, and those of constructor `number` of its family, are all that these take,
-- and few enough that their number is small.
pub record HasAllArguments (f : Family) (c : Constructor) (number : ℕ) (args us : List Term) : Type 0 where
  pub number_low : number < length f.cons
  pub args_long : length f.params + (1 + length f.cons) ≤ length args
  pub us_all : length us ≡ length f.params + length c.args
  pub args_few : length args ≤ 2000
