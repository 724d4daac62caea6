-- The symbol of a name in a term: an entry or a constructor, else an eliminator or axiom K by its spelling.
use Rattle.std.specs.Prelude.{ℕ, ◌-◌, ◌==◌, nat_le, nat_lt, not, ◌&&◌, if◌then◌else◌, List, take, drop, length, codes, bytes_eq, slice_index, slice_get, Option, Some, None, option_and_then}
use Rattle.theory.specs.Terms.{Term, Const, Fam, Con, Elim, AxiomK, top}
use Rattle.theory.specs.Signatures.{Entry, FamilyOf, Definition, Signature}
use Rattle.core_sig.specs.Names.{find}
use Rattle.core_sig.specs.declared.entry.Found.{Found}
use Rattle.core_sig.specs.declared.entry.Found.TheVariants.{Entry as FoundEntry, Con as FoundCon}
use Rattle.core_text.specs.Reading.{is_digit, with_digit}

-- a number of at most two digits, without a leading zero, at the end of the bytes, and the bytes before it
abbrev pub number_at_end : List ℕ → Option (List ℕ × ℕ)
number_at_end bytes =
    let n = length bytes in
    let last = slice_index bytes (n - 1) in
    let other = slice_index bytes (n - 2) in
    if not (is_digit last) then None
    else (if nat_le 2 n && (is_digit other && not (other == 48)) then Some (take (n - 2) bytes, with_digit (other - 48) last)
    else Some (take (n - 1) bytes, last - 48))

-- the bytes before the word at the end
abbrev pub before_end : List ℕ → List ℕ → Option (List ℕ)
before_end word bytes =
    let n = length bytes - length word in if bytes_eq (drop n bytes) word then Some (take n bytes) else None

-- number n, where it is a family or a definition
abbrev pub entry_symbol : ℕ → Option Entry → Option Term
entry_symbol n (Some (FamilyOf f)) = Some (Fam n)
entry_symbol n (Some (Definition name type body)) = Some (Const n)
entry_symbol n _ = None

abbrev pub found_symbol : Signature → Option Found → Option Term
found_symbol S (Some (FoundEntry n)) = entry_symbol n (slice_get S.entries n)
found_symbol S (Some (FoundCon f c)) = Some (Con f c)
found_symbol S None = None

-- the eliminator into `Type m` of what was found
abbrev pub eliminator_into : ℕ → Option Term → Option Term
eliminator_into m (Some (Fam n)) = if nat_lt m top then Some (Elim n m) else None
eliminator_into m _ = None

-- D!elim.m
abbrev pub eliminator_symbol : Signature → List ℕ → Option Term
eliminator_symbol S name =
    option_and_then (λ p. option_and_then (λ family. eliminator_into p.1 (found_symbol S (find S family))) (before_end (codes "!elim.") p.0)) (number_at_end name)

-- K at the levels
abbrev pub axiom_k_at : List ℕ → ℕ → ℕ → Option Term
axiom_k_at front i m = if bytes_eq front (codes "Eq.") && (nat_lt i top && nat_lt m top) then Some (AxiomK i m) else None

-- Eq.i!k.m
abbrev pub axiom_k_symbol : List ℕ → Option Term
axiom_k_symbol name =
    option_and_then (λ p. option_and_then (λ equality. option_and_then (λ q. axiom_k_at q.0 q.1 p.1) (number_at_end equality)) (before_end (codes "!k.") p.0)) (number_at_end name)

-- the first of two that there is
abbrev pub or_else : Option Term → Option Term → Option Term
or_else (Some t) other = Some t
or_else None other = other

-- A name in a term over the signature. `own` is the name of the family that is being declared, or nothing.
abbrev pub symbol : Signature → List ℕ → List ℕ → Option Term
symbol S own name =
    if nat_lt 0 (length own) && bytes_eq name own then Some (Fam (length S.entries))
    else or_else (found_symbol S (find S name)) (or_else (eliminator_symbol S name) (axiom_k_symbol name))
