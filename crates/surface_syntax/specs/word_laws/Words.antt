-- The spellings of words in declarations: plain names where a name is declared or bound, and plain or dotted names where one is used.
use Rattle.std.specs.Prelude.{◌≡◌, ◌⊎◌, true, List, [], ◌∷◌, Option, Some, None}
use Rattle.std.specs.Str.{is_utf8, chars}
use Rattle.surface_syntax.specs.Tokens.{Spells}
use Rattle.surface_syntax.specs.Trees as surf
use Rattle.surface_syntax.specs.declared.token.TokenKind.{TokenKind}
use Rattle.surface_syntax.specs.declared.token.TokenKind.TheVariants.{Plain, Dotted}
use Rattle.surface_syntax.specs.declared.tree.Word.{Word}

-- each of a list
abbrev pub Each : {A : Type 0} → (A → Type 0) → List A → Type 0
Each P [] = Unit {0}
Each P (x ∷ xs) = P x × Each P xs

-- the word is UTF-8, and the spelling of a token of this kind that is within its limit
abbrev pub IsSpelled : TokenKind → Word → Type 0
IsSpelled of w = (is_utf8 w.text ≡ true) × Spells of (chars w.text) true

abbrev pub IsPlain : Word → Type 0
IsPlain w = IsSpelled Plain w

-- a plain or a dotted name
abbrev pub IsUsed : Word → Type 0
IsUsed w = IsPlain w ⊎ IsSpelled Dotted w

-- a name of a binder, or `_`
abbrev pub IsBound : Option Word → Type 0
IsBound (Some w) = IsPlain w
IsBound None = Unit {0}

-- the words of terms
abbrev mutual
  pub IsTerm : surf.Surf → Type 0
  IsTerm (surf.Lam bs b) = AreBinders bs × IsTerm b
  IsTerm (surf.Pi bs b) = AreBinders bs × IsTerm b
  IsTerm (surf.Arrow a b) = IsTerm a × IsTerm b
  IsTerm (surf.App f args) = IsTerm f × AreTerms args
  IsTerm (surf.Let w a t b) = IsPlain w × IsTerm a × IsTerm t × IsTerm b
  IsTerm (surf.Sort i) = Unit {0}
  IsTerm (surf.Named w) = IsUsed w

  pub AreTerms : surf.Surfs → Type 0
  AreTerms surf.nil = Unit {0}
  AreTerms (surf.cons t ts) = IsTerm t × AreTerms ts

  pub IsBinder : surf.Binder → Type 0
  IsBinder (surf.Group names a) = Each IsBound names × IsTerm a

  pub AreBinders : surf.Binders → Type 0
  AreBinders surf.no_binder = Unit {0}
  AreBinders (surf.bind b bs) = IsBinder b × AreBinders bs

-- the words of patterns
abbrev mutual
  pub IsPat : surf.Pat → Type 0
  IsPat (surf.Name w) = IsUsed w
  IsPat surf.Wild = Unit {0}
  IsPat (surf.Dot t) = IsTerm t
  IsPat surf.Void = Unit {0}
  IsPat (surf.Con w ps) = IsUsed w × ArePats ps

  pub ArePats : surf.Pats → Type 0
  ArePats surf.no_pat = Unit {0}
  ArePats (surf.arg p ps) = IsPat p × ArePats ps

-- the words of clauses
abbrev mutual
  pub IsRight : surf.Right → Type 0
  IsRight (surf.Side t) = IsTerm t
  IsRight (surf.With t cs) = IsTerm t × AreClauses cs
  IsRight surf.Absurd = Unit {0}

  pub IsClause : surf.Clause → Type 0
  IsClause (surf.Is w ps right) = IsPlain w × ArePats (surf.pats ps) × IsRight right

  pub AreClauses : surf.Clauses → Type 0
  AreClauses surf.no_clause = Unit {0}
  AreClauses (surf.also c cs) = IsClause c × AreClauses cs

-- a name with its type
abbrev pub IsTyped : surf.Typed → Type 0
IsTyped p = IsPlain p.name × IsTerm p.ty

abbrev pub IsMember : surf.Member → Type 0
IsMember m = IsPlain m.name × IsTerm m.ty × Each IsTyped m.cons

-- the words of a declaration
abbrev pub HasWords : surf.Decl → Type 0
HasWords (surf.Def w ty body) = IsPlain w × IsTerm ty × IsTerm body
HasWords (surf.Decide w f e) = IsPlain w × IsPlain f × IsPlain e
HasWords (surf.Data w params ty cons) = IsPlain w × Each IsTyped params × IsTerm ty × Each IsTyped cons
HasWords (surf.Mutual params members f t tags) = Each IsTyped params × Each IsMember members × IsPlain f × IsPlain t × Each IsPlain tags
HasWords (surf.Fun w ty clauses) = IsPlain w × IsTerm ty × AreClauses clauses
