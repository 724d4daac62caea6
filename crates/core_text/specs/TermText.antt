-- Core text of terms: each term has one spelling, in which single spaces separate the parts.
use Rattle.std.specs.Prelude.{ℕ, Bool, true, false, cond, List, [], ◌∷◌, ◌++◌, codes, decimal}
use Rattle.theory.specs.Terms.{Term, Var, Sort, Pi, Lam, App, Let, Const, Fam, Con, Elim, AxiomK}
use Rattle.theory.specs.Signatures.{Signature}
use Rattle.core_text.specs.SymbolNames.{name_at, constructor_name_at, eliminator_name, axiom_k_name}

-- an application in its parentheses, but for one that is the function of another, which shares that one's
abbrev pub enclosed : Bool → List ℕ → List ℕ
enclosed is_function text = cond is_function text (codes "(" ++ text ++ codes ")")

-- A term over a signature; `is_function` where it is the function of an application.
abbrev pub spelled : Signature → Bool → Term → List ℕ
spelled S is_function (Var n) = codes "%" ++ decimal n
spelled S is_function (Sort i) = codes "Type " ++ decimal i
spelled S is_function (Pi a b) = codes "(" ++ spelled S false a ++ codes " -> " ++ spelled S false b ++ codes ")"
spelled S is_function (Lam a b) = codes "(\\" ++ spelled S false a ++ codes " . " ++ spelled S false b ++ codes ")"
spelled S is_function (App f a) = enclosed is_function (spelled S true f ++ codes " " ++ spelled S false a)
spelled S is_function (Let a t b) =
    codes "(let " ++ spelled S false a ++ codes " = " ++ spelled S false t ++ codes " . " ++ spelled S false b ++ codes ")"
spelled S is_function (Const n) = name_at S n
spelled S is_function (Fam n) = name_at S n
spelled S is_function (Con n c) = constructor_name_at S n c
spelled S is_function (Elim n m) = eliminator_name (name_at S n) m
spelled S is_function (AxiomK i m) = axiom_k_name i m

-- the text of a term
abbrev pub term_text : Signature → Term → List ℕ
term_text S t = spelled S false t

-- terms, each after a space
abbrev pub spaced : Signature → List Term → List ℕ
spaced S [] = []
spaced S (t ∷ terms) = codes " " ++ term_text S t ++ spaced S terms
