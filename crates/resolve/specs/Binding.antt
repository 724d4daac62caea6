-- A list of types bound around a term, and parts of a telescope that extend such a list.
use Rattle.std.specs.Prelude.{◌≡◌, List, [], ◌∷◌, ◌++◌, Result, Ok, Err}
use Rattle.theory.specs.Terms as tree
use Rattle.resolve.specs.declared.stop.ResolveStop.{ResolveStop}
use Rattle.core_terms.specs.Answers.{Unless}
use Rattle.resolve.specs.Answers.{IsUnforeseen}
use Rattle.resolve.specs.Names.{Scope}
use Rattle.resolve.specs.Resolving.{Answer, binding}

-- the types, the first of which is bound outermost, around an answer
abbrev pub closed : (tree.Term → tree.Term → tree.Term) → List tree.Term → Answer → Answer
closed make [] inner = inner
closed make (a ∷ types) inner = binding make (Ok a) (closed make types inner)

-- A part of a telescope goes on from the types and the names before it to those after it: around whatever is inside, it
-- answers the same as the types and the names after it do.
abbrev pub IsBound : (tree.Term → tree.Term → tree.Term) → ((Scope → Answer) → Scope → Answer) → Scope → List tree.Term → Scope → List tree.Term → Scope → Result (Unit {0}) ResolveStop → Type 0
IsBound make wraps outer types names more further (Ok _) =
    (inner : Scope → Answer) → closed make types (wraps inner (names ++ outer)) ≡ closed make more (inner (further ++ outer))
IsBound make wraps outer types names more further (Err e) =
    Unless (IsUnforeseen e) ((inner : Scope → Answer) → closed make types (wraps inner (names ++ outer)) ≡ Err e)
