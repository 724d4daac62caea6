-- Validity: every derived type is a sort or has one.
use Rattle.std.proofs.Common.{◌≡◌, ℕ, zero, suc, ◌+◌, Some, [], ◌∷◌, slice_get, subst as transport, sym, ap, ◌∙◌}
use Rattle.std.proofs.lemmas.Option.{none-some}
use Rattle.theory.specs.Terms.{Term, IsClosed}
use Rattle.theory.specs.Terms.Term.{Sort, Pi}
use Rattle.theory.specs.Telescopes.{Context, weaken_by}
use Rattle.theory.specs.Signatures.{Signature}
use Rattle.theory.specs.Typing.{IsContext, Has, HasSort, IsType}
use Rattle.theory.specs.Typing.IsContext.{empty, bind}
use Rattle.theory.specs.Typing.IsType.{is_sort, has_sort}
use Rattle.theory.specs.Typing.Has.{variable, sort, product, function, application, local, symbol, below, below_sort}
use Rattle.theory.specs.WellFormed.{IsTyped}
use Rattle.theory.specs.TypingLaws.{Subsumption, FunctionTypes}
use Rattle.theory.proofs.Generation.{parts}
use Rattle.theory.proofs.Renaming.{weaken_by-one, weaken_by-next, ren-closed}
use Rattle.theory.proofs.Lists.{some_is}
use Rattle.theory.proofs.Scoping.{symbol_type_closed}
use Rattle.theory.proofs.Substituting.{has-put}
use Rattle.theory.proofs.Weakening.{has-ren, renames-suc}

-- the type of a variable has a sort in the whole context
pub variable_sort : {S : Signature} {G : Context} → IsTyped S → (n : ℕ) (a : Term) → IsContext S G → slice_get G n ≡ Some a → HasSort S G (weaken_by (n + 1) a)
variable_sort typed n a empty at = absurd (none-some a at)
variable_sort {S} typed zero a (bind {G = G} {a = b} i context db) at = (
  i,
  transport (λ x. Has S (b ∷ G) x (Sort i)) (sym (weaken_by-one b) ∙ ap (weaken_by 1) (some_is at))
      (has-ren typed db suc (b ∷ G) (renames-suc b G) (bind i context db)),
)
variable_sort {S} typed (suc n) a (bind {G = G} {a = b} i context db) at =
    let (j, d) = variable_sort typed n a context at in (
      j,
      transport (λ x. Has S (b ∷ G) x (Sort j)) (sym (weaken_by-next a n))
          (has-ren typed d suc (b ∷ G) (renames-suc b G) (bind i context db)),
    )

-- a closed term with a sort in the empty context has it in every context
pub has-anywhere : {S : Signature} {G : Context} {t : Term} → IsTyped S → IsClosed t → (i : ℕ) → IsContext S G → Has S [] t (Sort i) → Has S G t (Sort i)
has-anywhere {S} {G} {t} typed closed i context d =
    transport (λ x. Has S G x (Sort i)) (ren-closed (λ n. n) t closed)
    (has-ren typed d (λ n. n) G (λ n a at. absurd (none-some a at)) context)

-- a product is no sort, so it has one where it is a type
pub product_sort : {S : Signature} {G : Context} {a b : Term} → IsType S G (Pi a b) → HasSort S G (Pi a b)
product_sort (has_sort i d) = (i, d)

-- every derived type is a sort or has one
pub valid : {S : Signature} → IsTyped S → {G : Context} {t a : Term} → Has S G t a → IsType S G a
valid typed (variable {a = a} n context at) = let (i, d) = variable_sort typed n a context at in has_sort i d
valid typed (sort i context limit) = is_sort _
valid typed (product i j da db) = is_sort _
valid typed (function i j da db dc) = has_sort _ (product i j da dc)
valid {S} typed (application {G = G} {u = u} {a = a} {b = b} df du) =
    let (i, d) = product_sort (valid typed df) in
    let p = parts d in
    has_sort p.codomain_level (has-put typed p.codomain du)
valid typed (local i da dt db) = valid typed db
valid typed (symbol context type) =
    let (i, d) = typed.types type in has_sort i (has-anywhere typed (symbol_type_closed typed type) i context d)
valid typed (below i dt le db) = has_sort i db
valid typed (below_sort i dt le) = is_sort i

-- a term has every greater type
pub subsumption : Subsumption
subsumption S G t a _ d le (is_sort i) = below_sort i d le
subsumption S G t a _ d le (has_sort i type) = below i d le type

-- the parts of a function's type
pub function_types : FunctionTypes
function_types S G f a b typed d =
    let (i, product_type) = product_sort (valid typed d) in
    let p = parts product_type in
    ((p.domain_level, p.domain), (p.codomain_level, p.codomain))
