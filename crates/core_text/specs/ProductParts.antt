-- The text of (tele) -> end in three parts: the part before the end, the end, and the parentheses after it.
use Rattle.std.specs.Prelude.{ℕ, zero, suc, List, [], ◌∷◌, ◌++◌, codes}
use Rattle.theory.specs.Telescopes.{Telescope}
use Rattle.theory.specs.Signatures.{Signature}
use Rattle.core_text.specs.TermText.{term_text}

-- each domain after its parenthesis and before its arrow
abbrev pub opened : Signature → Telescope → List ℕ
opened S [] = []
opened S (a ∷ tele) = codes "(" ++ term_text S a ++ codes " -> " ++ opened S tele

-- the parentheses after the end of n products
abbrev pub closed : ℕ → List ℕ
closed zero = []
closed (suc n) = codes ")" ++ closed n
