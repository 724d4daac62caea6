-- Telescopes that are resolved one binder after the other, where the first types are resolved already.
use Rattle.std.proofs.Common.{◌≡◌, ℕ, ◌+◌, ◌<◌, ◌≤◌, List, [], ◌∷◌, ◌++◌, map, drop, length, get_or, Option, Ok, Err, refl, ap, sym, ◌∙◌}
use Rattle.std.proofs.Math.ListN.{drop_of_length-le}
use Rattle.std.proofs.lemmas.List.{map-append}
use Rattle.theory.specs.Terms.{Term}
use Rattle.core_terms.specs.declared.low.Low.{Low}
use Rattle.resolve.specs.declared.stop.ResolveStop.{ResolveStop}
use Rattle.surface_syntax.specs.declared.tree.Word.{Word}
use Rattle.resolve.specs.Binding.{closed}
use Rattle.core_terms.specs.Low.{low_of}
use Rattle.resolve.specs.Names.{Scope, name_of}
use Rattle.resolve.specs.Resolving.{Answer, binding, group, low}
use Rattle.core_terms.proofs.Lists.{drop-at}

-- one type more, bound nearest to what is under it
pub closed_more : (make : Term → Term → Term) (types : List Term) (a : Term) (inner : Answer) → closed make (types ++ a ∷ []) inner ≡ closed make types (binding make (Ok a) inner)
closed_more make [] a inner = refl
closed_more make (b ∷ types) a inner = ap (binding make (Ok b)) (closed_more make types a inner)

-- a refusal under types is the refusal
pub closed_stop : (make : Term → Term → Term) (types : List Term) (e : ResolveStop) → closed make types (Err e) ≡ Err e
closed_stop make [] e = refl
closed_stop make (a ∷ types) e = ap (binding make (Ok a)) (closed_stop make types e)

-- the name at place k takes its type
pub group_step : (make : Term → Term → Term) (names : List (Option Word)) (k : ℕ) (x : Option Word) (type : Scope → Answer) (inner : Scope → Answer) (scope : Scope) (types more : List Low) (a : Low)
    → k < length names → x ≡ get_or names k x → Ok (low_of a) ≡ type scope → more ≡ types ++ a ∷ []
    → closed make (map low_of types) (group make (drop k names) type inner scope)
    ≡ closed make (map low_of more) (group make (drop (k + 1) names) type inner (name_of x ∷ scope))
group_step make names k x type inner scope types more a lt is answer pushed =
    ap (λ xs. closed make (map low_of types) (group make xs type inner scope)) (drop-at names k x lt is)
    ∙ (ap (λ r. closed make (map low_of types) (binding make r (group make (drop (k + 1) names) type inner (name_of x ∷ scope)))) (sym answer)
    ∙ (sym (closed_more make (map low_of types) (low_of a) (group make (drop (k + 1) names) type inner (name_of x ∷ scope)))
    ∙ ap (λ ts. closed make ts (group make (drop (k + 1) names) type inner (name_of x ∷ scope))) (sym (ap (map low_of) pushed ∙ map-append low_of types (a ∷ [])))))

-- its type is refused
pub group_stop : (make : Term → Term → Term) (names : List (Option Word)) (k : ℕ) (x : Option Word) (type : Scope → Answer) (inner : Scope → Answer) (scope : Scope) (types : List Term) (e : ResolveStop)
    → k < length names → x ≡ get_or names k x → Err e ≡ type scope
    → closed make types (group make (drop k names) type inner scope) ≡ Err e
group_stop make names k x type inner scope types e lt is answer =
    ap (λ xs. closed make types (group make xs type inner scope)) (drop-at names k x lt is)
    ∙ (ap (λ r. closed make types (binding make r (group make (drop (k + 1) names) type inner (name_of x ∷ scope)))) (sym answer)
    ∙ closed_stop make types e)

-- no name is left
pub group_done : (make : Term → Term → Term) (names : List (Option Word)) (k : ℕ) (type : Scope → Answer) (inner : Scope → Answer) (scope : Scope) → length names ≤ k
    → group make (drop k names) type inner scope ≡ inner scope
group_done make names k type inner scope end = ap (λ xs. group make xs type inner scope) (drop_of_length-le names end)

-- the last type is bound around what is under it
pub bind_step : (make : Term → Term → Term) (types rest : List Low) (a under made : Low) → types ≡ rest ++ a ∷ [] → Ok (low_of made) ≡ low (make (low_of a) (low_of under))
    → closed make (map low_of types) (Ok (low_of under)) ≡ closed make (map low_of rest) (Ok (low_of made))
bind_step make types rest a under made is answer =
    ap (λ ts. closed make ts (Ok (low_of under))) (ap (map low_of) is ∙ map-append low_of rest (a ∷ []))
    ∙ (closed_more make (map low_of rest) (low_of a) (Ok (low_of under))
    ∙ ap (closed make (map low_of rest)) (sym answer))

pub bind_stop : (make : Term → Term → Term) (types rest : List Low) (a under : Low) (e : ResolveStop) → types ≡ rest ++ a ∷ [] → Err e ≡ low (make (low_of a) (low_of under))
    → closed make (map low_of types) (Ok (low_of under)) ≡ Err e
bind_stop make types rest a under e is answer =
    ap (λ ts. closed make ts (Ok (low_of under))) (ap (map low_of) is ∙ map-append low_of rest (a ∷ []))
    ∙ (closed_more make (map low_of rest) (low_of a) (Ok (low_of under))
    ∙ (ap (closed make (map low_of rest)) (sym answer) ∙ closed_stop make (map low_of rest) e))
