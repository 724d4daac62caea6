-- Printed terms of an entry, and which of them are shared. An application is printed with its whole spine, so no shorter
-- application inside a spine is a printed term.
use native.Mathlib.Decide.{ℕ_discrete}
use Rattle.std.specs.Prelude.{ℕ, Bool, true, false, cond, ◌&&◌, nat_le, nat_lt, List, [], ◌∷◌, ◌++◌, map, filter, flat_map, length, position, Option}
use Rattle.std.specs.List.{list_any}
use Rattle.theory.specs.Terms.{Term, Term-discrete, Pi, Lam, App, Let, height}
use Rattle.core_text.specs.RawEntries.{RawEntry, RawFamilyOf, RawEliminator, RawAxiomK, RawDefinition}

-- the terms are syntactically equal
abbrev pub same : Term → Term → Bool
same a b = elim (Term-discrete ℕ_discrete a b) [ yes e ↦ true | no e ↦ false ]

-- the term is one of the list
abbrev pub is_among : List Term → Term → Bool
is_among ts t = list_any (same t) ts

-- ---- printed children

-- the head and the arguments of an application
abbrev pub spine_members : Term → List Term
spine_members (App f a) = spine_members f ++ a ∷ []
spine_members t = t ∷ []

-- both children of a product or function, the three of a `let`, and the head and the arguments of a whole spine
abbrev pub printed_children : Term → List Term
printed_children (Pi a b) = a ∷ b ∷ []
printed_children (Lam a b) = a ∷ b ∷ []
printed_children (Let a t b) = a ∷ t ∷ b ∷ []
printed_children (App f a) = spine_members (App f a)
printed_children _ = []

-- ---- printed terms

-- The term and all printed children below it, each where a reading from left to right ends it. `is_function` where the term is
-- the function of an application: an application there is not printed by itself.
abbrev pub ends_of : Bool → Term → List Term
ends_of is_function (Pi a b) = ends_of false a ++ ends_of false b ++ Pi a b ∷ []
ends_of is_function (Lam a b) = ends_of false a ++ ends_of false b ++ Lam a b ∷ []
ends_of is_function (Let a t b) = ends_of false a ++ ends_of false t ++ ends_of false b ++ Let a t b ∷ []
ends_of is_function (App f a) = ends_of true f ++ ends_of false a ++ cond is_function [] (App f a ∷ [])
ends_of is_function t = t ∷ []

-- the terms, with one more at the end where it is not among them
abbrev pub with_term : List Term → Term → List Term
with_term ts t = cond (is_among ts t) ts (ts ++ t ∷ [])

-- the terms that are not there yet, in their order and each once, after those that are there
abbrev pub joined : List Term → List Term → List Term
joined there [] = there
joined there (t ∷ ts) = joined (with_term there t) ts

-- the terms that the line of an entry writes, from left to right
abbrev pub written_terms : RawEntry → List Term
written_terms (RawFamilyOf raw) = raw.parameters ++ raw.type ∷ map (λ c. c.type) raw.constructors
written_terms (RawEliminator family m) = []
written_terms (RawAxiomK i m) = []
written_terms (RawDefinition name type body) = type ∷ body ∷ []

-- the different terms at and below those that are written, in the order in which they are first ended
abbrev pub printed_terms : List Term → List Term
printed_terms written = joined [] (flat_map (ends_of false) written)

-- ---- shared terms

-- the places of printed terms: each written term, and each printed child of a printed term
abbrev pub places : List Term → List Term
places written = written ++ flat_map printed_children (printed_terms written)

-- how often the term is in the list
abbrev pub times : Term → List Term → ℕ
times t ts = length (filter (same t) ts)

-- a printed term that is higher than 1 and stands at two or more places
abbrev pub is_shared : List Term → Term → Bool
is_shared written t = nat_lt 1 (height t) && nat_le 2 (times t (places written))

-- the shared terms in the order in which they are first ended
abbrev pub shared_terms : List Term → List Term
shared_terms written = filter (is_shared written) (printed_terms written)

-- the number of a shared term, from 0
abbrev pub number_in : List Term → Term → Option ℕ
number_in shared t = position (same t) shared
