-- The texts of a context and of the checker's reason, which refusals and reports show.
use Rattle.std.specs.Prelude.{ℕ, List, [], ◌∷◌, ◌++◌, codes}
use Rattle.theory.specs.Terms.{Term}
use Rattle.theory.specs.Signatures.{Signature}
use Rattle.core_terms.specs.Verdicts.{Reason, Mismatch, NotAProduct, NotASort, NoSuchInstance, LevelTooHigh}
use Rattle.core_text.specs.TermText.{term_text}

-- types, the first one after the text `before` and each other one after a comma
abbrev pub types_text : Signature → List ℕ → List Term → List ℕ
types_text S before [] = []
types_text S before (t ∷ types) = before ++ term_text S t ++ types_text S (codes ", ") types

-- a context from the outermost type on, in brackets
abbrev pub context_text : Signature → List Term → List ℕ
context_text S types = codes "[" ++ types_text S [] types ++ codes "]"

-- why the checker rejects a term
abbrev pub reason_text : Signature → Reason → List ℕ
reason_text S (Mismatch found wanted) = codes "found " ++ term_text S found ++ codes " wanted " ++ term_text S wanted
reason_text S (NotAProduct found) = codes "NotAProduct " ++ term_text S found
reason_text S (NotASort found) = codes "NotASort " ++ term_text S found
reason_text S NoSuchInstance = codes "NoSuchInstance"
reason_text S LevelTooHigh = codes "LevelTooHigh"
