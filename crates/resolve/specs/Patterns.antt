-- The patterns that written patterns stand for, or the first refusal in source order.
use Rattle.std.specs.Prelude.{ℕ, ◌+◌, ◌==◌, if◌then◌else◌, List, [], ◌∷◌, ◌++◌, length, Option, Some, None, option_and_then, Result, Ok, Err, slice_get, bytes_eq}
use Rattle.std.specs.List.{list_any}
use Rattle.std.specs.Option.{option_map_or}
use Rattle.theory.specs.Signatures as signature
use Rattle.theory.specs.Signatures.{Signature}
use Rattle.core_terms.specs.Patterns as core
use Rattle.core_sig.specs.Names.{find}
use Rattle.core_sig.specs.declared.entry.Found.{Found}
use Rattle.core_sig.specs.declared.entry.Found.TheVariants.{Entry, Con}
use Rattle.surface_syntax.specs.Trees as surf
use Rattle.surface_syntax.specs.declared.tree.Word.{Word}
use Rattle.resolve.specs.declared.stop.ResolveStop.{ResolveStop}
use Rattle.resolve.specs.declared.stop.ResolveStop.TheVariants.{UnknownName, WrongArity, NotLinear}
use Rattle.core_terms.specs.Answers.{and_then}
use Rattle.resolve.specs.Names.{Known, Scope}
use Rattle.resolve.specs.Resolving.{resolve}

-- a constructor: the entry number of its family, its own number, and how many arguments it has after the parameters
pub record Constructor : Type 0 where
  pub family : ℕ
  pub number : ℕ
  pub arguments : ℕ

-- how many arguments constructor c of an entry has
abbrev pub arguments_in : ℕ → Option signature.Entry → ℕ
arguments_in c (Some (signature.FamilyOf f)) = option_map_or (λ k. length k.arguments) (slice_get f.constructors c) 0
arguments_in c _ = 0

abbrev pub constructor_found : Signature → Found → Option Constructor
constructor_found S (Entry n) = None
constructor_found S (Con f c) = Some (record { family = f; number = c; arguments = arguments_in c (slice_get S.entries f) })

-- the constructor that has the name
abbrev pub constructor : Signature → List ℕ → Option Constructor
constructor S name = option_and_then (constructor_found S) (find S name)

-- a name without arguments is a variable where it is no constructor
abbrev pub variable : ℕ → Word → Option Constructor → List (List ℕ)
variable n x (Some c) = []
variable n x None = if n == 0 then x.text ∷ [] else []

abbrev pub count : surf.Pats → ℕ
count surf.no_pat = 0
count (surf.arg p ps) = 1 + count ps

abbrev mutual
  -- the variables that a pattern binds, in source order
  pub bound : Signature → surf.Pat → List (List ℕ)
  bound S (surf.Name x) = variable 0 x (constructor S x.text)
  bound S surf.Wild = []
  bound S (surf.Dot t) = []
  bound S surf.Void = []
  bound S (surf.Con x args) = variable (count args) x (constructor S x.text) ++ bound_all S args

  pub bound_all : Signature → surf.Pats → List (List ℕ)
  bound_all S surf.no_pat = []
  bound_all S (surf.arg p ps) = bound S p ++ bound_all S ps

-- A name with n arguments is a constructor. Without arguments it may also be a variable, which is not among those before it.
abbrev pub head : ℕ → List (List ℕ) → Word → Option Constructor → Result (Option Constructor) ResolveStop
head n before x (Some c) = if n == c.arguments then Ok (Some c) else Err (WrongArity x.start x.text)
head n before x None =
    if n == 0 then (if list_any (bytes_eq x.text) before then Err (NotLinear x.start x.text) else Ok None)
    else Err (UnknownName x.start x.text)

-- the pattern of a head with its arguments
abbrev pub headed : Option Constructor → core.Pats → core.Pat
headed (Some c) args = core.Con c.family c.number args
headed None args = core.Bind

abbrev mutual
  -- A pattern after the variables `before`. The scope has all the variables of its clause, for the terms after dots.
  pub pattern : Signature → Known → Scope → List (List ℕ) → surf.Pat → Result core.Pat ResolveStop
  pattern S known scope before (surf.Name x) =
      and_then (head 0 before x (constructor S x.text)) (λ c. Ok (headed c core.nil))
  pattern S known scope before surf.Wild = Ok core.Wild
  pattern S known scope before (surf.Dot t) = and_then (resolve known t scope) (λ t. Ok (core.Dot t))
  pattern S known scope before surf.Void = Ok core.Absurd
  pattern S known scope before (surf.Con x args) =
      and_then (head (count args) before x (constructor S x.text)) (λ c.
      and_then (patterns S known scope (before ++ variable (count args) x (constructor S x.text)) args) (λ args. Ok (headed c args)))

  pub patterns : Signature → Known → Scope → List (List ℕ) → surf.Pats → Result core.Pats ResolveStop
  patterns S known scope before surf.no_pat = Ok core.nil
  patterns S known scope before (surf.arg p ps) =
      and_then (pattern S known scope before p) (λ q.
      and_then (patterns S known scope (before ++ bound S p) ps) (λ qs. Ok (core.cons q qs)))
