-- Core text of entries: each entry is one line. Levels that a family keeps for its indices and arguments are not written.
use Rattle.std.specs.Prelude.{ℕ, List, [], ◌∷◌, ◌++◌, codes, decimal}
use Rattle.theory.specs.Telescopes.{Telescope}
use Rattle.theory.specs.Signatures.{Entry, FamilyOf, EliminatorAt, AxiomKAt, Definition, Signature}
use Rattle.core_sig.specs.Raw.{RawConstructor, RawFamily}
use Rattle.core_text.specs.RawEntries.{RawEntry, RawFamilyOf, RawEliminator, RawAxiomK, RawDefinition, family_shown}
use Rattle.core_text.specs.SymbolNames.{name_at}
use Rattle.core_text.specs.TermText.{term_text}

-- the types of parameters, each after a space and in parentheses of its own
abbrev pub parameters_text : Signature → Telescope → List ℕ
parameters_text S [] = []
parameters_text S (a ∷ tele) = codes " (" ++ term_text S a ++ codes ")" ++ parameters_text S tele

-- constructors with their types, the first one after the text `before` and each other one after a semicolon
abbrev pub constructors_text : Signature → List ℕ → List RawConstructor → List ℕ
constructors_text S before [] = []
constructors_text S before (c ∷ constructors) =
    before ++ c.name ++ codes " : " ++ term_text S c.type ++ constructors_text S (codes " ; ") constructors

-- data D (P) (Q) : T { c : A ; d : B }
abbrev pub family_text : Signature → RawFamily → List ℕ
family_text S f =
    codes "data " ++ f.name ++ parameters_text S f.parameters ++ codes " : " ++ term_text S f.type
    ++ codes " {" ++ constructors_text S (codes " ") f.constructors ++ codes " }"

-- entry number n, without the line feed
abbrev pub entry_text : Signature → ℕ → Entry → List ℕ
entry_text S n (FamilyOf f) = family_text S (family_shown n f)
entry_text S n (EliminatorAt family m) = codes "elim " ++ name_at S family ++ codes " " ++ decimal m
entry_text S n (AxiomKAt i m) = codes "axiomk " ++ decimal i ++ codes " " ++ decimal m
entry_text S n (Definition name type body) = codes "def " ++ name ++ codes " : " ++ term_text S type ++ codes " = " ++ term_text S body

-- the line of entry number n, with the line feed that ends it
abbrev pub entry_line : Signature → ℕ → Entry → List ℕ
entry_line S n e = entry_text S n e ++ codes "\n"

-- The line that says it, over a signature in which each number of its terms has a name. The number of an entry matters to
-- families alone.
abbrev pub line_text : Signature → RawEntry → List ℕ
line_text S (RawFamilyOf raw) = family_text S raw ++ codes "\n"
line_text S (RawEliminator family m) = entry_line S 0 (EliminatorAt family m)
line_text S (RawAxiomK i m) = entry_line S 0 (AxiomKAt i m)
line_text S (RawDefinition name type body) = entry_line S 0 (Definition name type body)
