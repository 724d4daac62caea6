-- The names that a core file may declare.
use Rattle.std.specs.Prelude.{ℕ, ◌==◌, nat_lt, Bool, not, ◌&&◌, ◌||◌, if◌then◌else◌, List, length, take, drop, codes, bytes_eq, Some, None, option_and_then, Ok}
use Rattle.std.specs.List.{list_any}
use Rattle.std.specs.Option.{is_some}
use Rattle.std.specs.Str.{chars, is_utf8}
use Rattle.theory.specs.Signatures.{Signature}
use Rattle.core_sig.specs.Names.{find}
use Rattle.core_sig.specs.Raw.{RawConstructor}
use Rattle.surface_syntax.specs.Spelling.{piece}
use Rattle.surface_syntax.specs.declared.token.Piece.{Piece}
use Rattle.surface_syntax.specs.declared.token.Piece.TheVariants.{Found}
use Rattle.surface_syntax.specs.declared.token.TokenKind.TheVariants.{Plain, Dotted, Mark}
use Rattle.core_text.specs.NameRuns.{run_len}
use Rattle.core_text.specs.Reading.{Reading, wrong, first}
use Rattle.core_text.specs.SymbolLookup.{before_end, number_at_end}
use Rattle.core_text.specs.declared.declared_names.Shape.{Shape}
use Rattle.core_text.specs.declared.declared_names.Shape.TheVariants.{Declarable, Underscore, Malformed}

-- `!` and a character more at least
abbrev pub is_generated : List ℕ → Bool
is_generated cs = (first cs == 33) && nat_lt 1 (length cs)

-- a mark is a `_` or another one
abbrev pub marked : List ℕ → Shape
marked cs = if first cs == 95 then Underscore else Malformed

-- By the piece of the surface text with which the characters begin: a plain name, or a plain or dotted name with `!` and more after it,
-- may be declared; a `_` that begins no name is a shape of its own, since a name could go on after it.
abbrev pub shape_by : Piece → List ℕ → Shape
shape_by (Found Plain n) cs = if (n == length cs) || is_generated (drop n cs) then Declarable else Malformed
shape_by (Found Dotted n) cs = if is_generated (drop n cs) then Declarable else Malformed
shape_by (Found Mark n) cs = marked cs
shape_by _ cs = Malformed

-- the shape of a run of characters of names
abbrev pub shape_of : List ℕ → Shape
shape_of name = if is_utf8 name then shape_by (piece (chars name)) (chars name) else Malformed

-- D!elim.m, where D holds no `!`
abbrev pub is_eliminator_name : List ℕ → Bool
is_eliminator_name name =
    is_some (option_and_then (λ p. option_and_then (λ family. if list_any (λ b. b == 33) family then None else Some p.1) (before_end (codes "!elim.") p.0)) (number_at_end name))

-- Eq.i!k.m
abbrev pub is_axiom_k_name : List ℕ → Bool
is_axiom_k_name name =
    is_some (option_and_then (λ p. option_and_then (λ equality. option_and_then (λ q. if bytes_eq q.0 (codes "Eq.") then Some p.1 else None) (number_at_end equality)) (before_end (codes "!k.") p.0)) (number_at_end name))

-- Neither the signature nor the line so far has the name. `own` is the name of the family that the line declares, or
-- nothing, and `found` has the constructors so far.
abbrev pub is_new : Signature → List ℕ → List RawConstructor → List ℕ → Bool
is_new S own found name =
    not (is_some (find S name)) && (not (bytes_eq name own) && not (list_any (λ c. bytes_eq name c.name) found))

-- the name may be there
abbrev pub may_declare : Signature → List ℕ → List RawConstructor → List ℕ → Bool
may_declare S own found name =
    not (is_eliminator_name name) && (not (is_axiom_k_name name) && is_new S own found name)

abbrev pub by_shape : Shape → Bool → List ℕ → List ℕ → Reading (List ℕ)
by_shape Declarable allowed name rest = if allowed then Ok (name, drop (length name) rest) else wrong rest
by_shape Underscore allowed name rest = wrong (drop 1 rest)
by_shape Malformed allowed name rest = wrong rest

-- a name that a core file may declare there
abbrev pub new_name : Signature → List ℕ → List RawConstructor → List ℕ → Reading (List ℕ)
new_name S own found rest =
    let name = take (run_len rest) rest in by_shape (shape_of name) (may_declare S own found name) name rest
