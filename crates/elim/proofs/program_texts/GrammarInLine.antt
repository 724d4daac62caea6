-- Declarations of a text without line feeds in its names have none in theirs.
use Rattle.std.proofs.Common.{◌≡◌, ℕ, Bool, true, false, List, [], ◌∷◌, Option, codes}
use Rattle.std.specs.Prelude.{if◌then◌else◌, slice_range, nat_le}
use Rattle.theory.specs.Terms.{top}
use Rattle.core_text.specs.Lines.{is_in_line}
use Rattle.surface_syntax.specs.Spelling.{is_text}
use Rattle.surface_syntax.specs.Trees as surf
use Rattle.surface_syntax.specs.Grammar as g
use Rattle.surface_syntax.specs.declared.tree.Word.{Word}
use Rattle.surface_syntax.specs.declared.token.Token.{Token}
use Rattle.surface_syntax.specs.declared.token.TokenKind.{TokenKind}
use Rattle.surface_syntax.specs.declared.token.TokenKind.TheVariants.{Plain, Dotted, Number, Keyword, Mark}
use Rattle.surface_syntax.specs.declared.lexeme.Lexeme.{Lexeme}
use Rattle.surface_syntax.specs.declared.lexeme.Lexeme.TheVariants as x
use Rattle.surface_syntax.specs.Lexemes.{leveled, number, spelled, word_of, lexemes_of}
use Rattle.surface_syntax.specs.word_laws.Words.{Each}

abbrev pub WordIn : Word → Type 0
WordIn w = is_in_line w.text ≡ true

-- lexemes whose names are in line
abbrev pub IsGood : Lexeme → Type 0
IsGood (x.Plain w) = WordIn w
IsGood (x.Dotted w) = WordIn w
IsGood _ = Unit {0}

-- the words that a term uses
abbrev mutual
  pub UsesInLine : surf.Surf → Type 0
  UsesInLine (surf.Lam bs b) = BindersInLine bs × UsesInLine b
  UsesInLine (surf.Pi bs b) = BindersInLine bs × UsesInLine b
  UsesInLine (surf.Arrow a b) = UsesInLine a × UsesInLine b
  UsesInLine (surf.App f args) = UsesInLine f × AllInLine args
  UsesInLine (surf.Let x a t b) = UsesInLine a × UsesInLine t × UsesInLine b
  UsesInLine (surf.Sort i) = Unit {0}
  UsesInLine (surf.Named x) = WordIn x

  pub AllInLine : surf.Surfs → Type 0
  AllInLine surf.nil = Unit {0}
  AllInLine (surf.cons t ts) = UsesInLine t × AllInLine ts

  pub BinderInLine : surf.Binder → Type 0
  BinderInLine (surf.Group names a) = UsesInLine a

  pub BindersInLine : surf.Binders → Type 0
  BindersInLine surf.no_binder = Unit {0}
  BindersInLine (surf.bind b bs) = BinderInLine b × BindersInLine bs

-- the words of patterns
abbrev mutual
  pub PatInLine : surf.Pat → Type 0
  PatInLine (surf.Name w) = WordIn w
  PatInLine surf.Wild = Unit {0}
  PatInLine (surf.Dot t) = UsesInLine t
  PatInLine surf.Void = Unit {0}
  PatInLine (surf.Con w ps) = WordIn w × PatsInLine ps

  pub PatsInLine : surf.Pats → Type 0
  PatsInLine surf.no_pat = Unit {0}
  PatsInLine (surf.arg p ps) = PatInLine p × PatsInLine ps

-- the words of clauses
abbrev mutual
  pub RightInLine : surf.Right → Type 0
  RightInLine (surf.Side t) = UsesInLine t
  RightInLine (surf.With t cs) = UsesInLine t × ClausesInLine cs
  RightInLine surf.Absurd = Unit {0}

  pub ClauseInLine : surf.Clause → Type 0
  ClauseInLine (surf.Is w ps right) = WordIn w × PatsInLine (surf.pats ps) × RightInLine right

  pub ClausesInLine : surf.Clauses → Type 0
  ClausesInLine surf.no_clause = Unit {0}
  ClausesInLine (surf.also c cs) = ClauseInLine c × ClausesInLine cs

-- names with their types
abbrev pub TypedIn : surf.Typed → Type 0
TypedIn p = WordIn p.name × UsesInLine p.ty

-- one of several families that refer to each other
abbrev pub MemberIn : surf.Member → Type 0
MemberIn m = WordIn m.name × UsesInLine m.ty × Each TypedIn m.cons

-- a declaration whose words are in line
abbrev pub DeclInLine : surf.Decl → Type 0
DeclInLine (surf.Def x ty body) = WordIn x × UsesInLine ty × UsesInLine body
DeclInLine (surf.Data x params ty cons) = WordIn x × Each TypedIn params × UsesInLine ty × Each TypedIn cons
DeclInLine (surf.Decide x family into) = WordIn x × WordIn family × WordIn into
DeclInLine (surf.Mutual params members f tag tags) = Each TypedIn params × Each MemberIn members × WordIn f × WordIn tag × Each WordIn tags
DeclInLine (surf.Fun x ty clauses) = WordIn x × UsesInLine ty × ClausesInLine clauses

applied-in : (h : surf.Surf) (args : List surf.Surf) → UsesInLine h → AllInLine (surf.surfs args) → UsesInLine (g.applied h args)
applied-in h [] p q = p
applied-in h (a ∷ args) p q = (p, q)

module _ (allows : ℕ → ℕ → Bool) where
  names-in : {ts rest : List Lexeme} {ns : List (Option Word)} → g.Names allows ts rest ns → Each IsGood ts → Each IsGood rest
  names-in g.name h = h.1
  names-in g.blank h = h.1
  names-in (g.names n) h = names-in n h.1
  names-in (g.blanks n) h = names-in n h.1

  mutual
    term-in : {d : ℕ} {ts rest : List Lexeme} {t : surf.Surf} → g.Term allows d ts rest t → Each IsGood ts → UsesInLine t × Each IsGood rest
    term-in (g.lam m bs b) h = let p = binders-in bs h.1 in let q = term-in b p.1.1 in ((p.0, q.0), q.1)
    term-in (g.pi m bs b) h = let p = binders-in bs h in let q = term-in b p.1.1 in ((p.0, q.0), q.1)
    term-in (g.app m a args) h = let p = atom-in a h in let q = atoms-in args p.1 in (applied-in _ _ p.0 q.0, q.1)
    term-in (g.arrow m a args b) h =
        let p = atom-in a h in let q = atoms-in args p.1 in let r = term-in b q.1.1 in ((applied-in _ _ p.0 q.0, r.0), r.1)
    term-in (g.«let» m a t b) h =
        let p = term-in a h.1.1.1 in let q = term-in t p.1.1 in let r = term-in b q.1.1 in ((p.0, q.0, r.0), r.1)

    binders-in : {d : ℕ} {ts rest : List Lexeme} {bs : List surf.Binder} → g.Binders allows d ts rest bs → Each IsGood ts → BindersInLine (surf.binders bs) × Each IsGood rest
    binders-in (g.one b) h = let p = binder-in b h in ((p.0, tt), p.1)
    binders-in (g.more b bs) h = let p = binder-in b h in let q = binders-in bs p.1 in ((p.0, q.0), q.1)

    binder-in : {d : ℕ} {ts rest : List Lexeme} {b : surf.Binder} → g.Binder allows d ts rest b → Each IsGood ts → BinderInLine b × Each IsGood rest
    binder-in (g.group n a) h = let k = names-in n h.1 in let p = term-in a k.1 in (p.0, p.1.1)

    atom-in : {d : ℕ} {ts rest : List Lexeme} {t : surf.Surf} → g.Atom allows d ts rest t → Each IsGood ts → UsesInLine t × Each IsGood rest
    atom-in g.sort h = (tt, h.1.1)
    atom-in g.plain h = (h.0, h.1)
    atom-in g.dotted h = (h.0, h.1)
    atom-in (g.parens t) h = let p = term-in t h.1 in (p.0, p.1.1)

    atoms-in : {d : ℕ} {ts rest : List Lexeme} {args : List surf.Surf} → g.Atoms allows d ts rest args → Each IsGood ts → AllInLine (surf.surfs args) × Each IsGood rest
    atoms-in g.Atoms.end h = (tt, h)
    atoms-in (g.Atoms.next a args) h = let p = atom-in a h in let q = atoms-in args p.1 in ((p.0, q.0), q.1)

  params-in : {ts rest : List Lexeme} {ps : List surf.Typed} → g.Params allows ts rest ps → Each IsGood ts → Each TypedIn ps × Each IsGood rest
  params-in g.Params.end h = (tt, h)
  params-in (g.Params.next a ps) h = let p = term-in a h.1.1.1 in let q = params-in ps p.1.1 in (((h.1.0, p.0), q.0), q.1)

  listed-in : {ts rest : List Lexeme} {cs : List surf.Typed} → g.Listed_cons allows ts rest cs → Each IsGood ts → Each TypedIn cs × Each IsGood rest
  listed-in (g.Listed_cons.last a) h = let p = term-in a h.1.1 in (((h.0, p.0), tt), p.1.1)
  listed-in (g.Listed_cons.more a cs) h = let p = term-in a h.1.1 in let q = listed-in cs p.1.1 in (((h.0, p.0), q.0), q.1)

  cons-in : {ts rest : List Lexeme} {cs : List surf.Typed} → g.Cons allows ts rest cs → Each IsGood ts → Each TypedIn cs × Each IsGood rest
  cons-in g.Cons.none h = (tt, h.1)
  cons-in (g.Cons.some cs) h = listed-in cs h

  members-in : {ts rest : List Lexeme} {ms : List surf.Member} → g.Members allows ts rest ms → Each IsGood ts → Each MemberIn ms × Each IsGood rest
  members-in (g.Members.last a cs) h = let p = term-in a h.1.1.1 in let q = cons-in cs p.1.1 in (((h.1.0, p.0, q.0), tt), q.1)
  members-in (g.Members.more a cs ms) h =
      let p = term-in a h.1.1.1 in let q = cons-in cs p.1.1 in let r = members-in ms q.1 in (((h.1.0, p.0, q.0), r.0), r.1)

  tags-in : {ts rest : List Lexeme} {tags : List Word} → g.Tags allows ts rest tags → Each IsGood ts → Each WordIn tags × Each IsGood rest
  tags-in g.Tags.last h = ((h.0, tt), h.1.1)
  tags-in (g.Tags.more tags) h = let p = tags-in tags h.1.1 in ((h.0, p.0), p.1)

  mutual
    pat-in : {d n : ℕ} {ts rest : List Lexeme} {p : surf.Pat} → g.Pat allows d ts rest p n → Each IsGood ts → PatInLine p × Each IsGood rest
    pat-in (g.Pat.plain m) h = (h.0, h.1)
    pat-in (g.Pat.dotted m) h = (h.0, h.1)
    pat-in (g.Pat.wild m) h = (tt, h.1)
    pat-in (g.Pat.dot m t) h = atom-in t h.1
    pat-in (g.Pat.void m) h = (tt, h.1.1)
    pat-in (g.Pat.con m ps) h = let p = pats-in ps h.1.1 in ((h.1.0, p.0), p.1.1)
    pat-in (g.Pat.dotted_con m ps) h = let p = pats-in ps h.1.1 in ((h.1.0, p.0), p.1.1)

    pats-in : {d n : ℕ} {ts rest : List Lexeme} {ps : List surf.Pat} → g.Pats allows d ts rest ps n → Each IsGood ts → PatsInLine (surf.pats ps) × Each IsGood rest
    pats-in g.Pats.end h = (tt, h)
    pats-in (g.Pats.next p ps) h = let q = pat-in p h in let r = pats-in ps q.1 in ((q.0, r.0), r.1)

  mutual
    clause-in : {d : ℕ} {ts rest : List Lexeme} {c : surf.Clause} → g.Clause allows d ts rest c → Each IsGood ts → ClauseInLine c × Each IsGood rest
    clause-in (g.Clause.side m ps t) h = let p = pats-in ps h.1 in let q = term-in t p.1.1 in ((h.0, p.0, q.0), q.1)
    clause-in (g.Clause.inspect m ps t cs) h =
        let p = pats-in ps h.1 in let q = term-in t p.1.1 in let r = clauses-in cs q.1.1 in ((h.0, p.0, (q.0, r.0)), r.1)
    clause-in (g.Clause.absurd m ps) h = let p = pats-in ps h.1 in ((h.0, p.0, tt), p.1)

    clauses-in : {d : ℕ} {ts rest : List Lexeme} {cs : List surf.Clause} → g.Clauses allows d ts rest cs → Each IsGood ts → ClausesInLine (surf.clauses cs) × Each IsGood rest
    clauses-in g.Clauses.none h = (tt, h.1)
    clauses-in (g.Clauses.some cs) h = listed-clauses-in cs h

    listed-clauses-in : {d : ℕ} {ts rest : List Lexeme} {cs : List surf.Clause} → g.Listed allows d ts rest cs → Each IsGood ts → ClausesInLine (surf.clauses cs) × Each IsGood rest
    listed-clauses-in (g.Listed.last c) h = let p = clause-in c h in ((p.0, tt), p.1.1)
    listed-clauses-in (g.Listed.more c cs) h = let p = clause-in c h in let q = listed-clauses-in cs p.1.1 in ((p.0, q.0), q.1)

  decl-in : {ts rest : List Lexeme} {d : surf.Decl} → g.Decl allows ts rest d → Each IsGood ts → DeclInLine d × Each IsGood rest
  decl-in (g.def a t) h = let p = term-in a h.1.1.1 in let q = term-in t p.1.1 in ((h.1.0, p.0, q.0), q.1)
  decl-in g.decide h = ((h.1.0, h.1.1.1.1.0, h.1.1.1.1.1.0), h.1.1.1.1.1.1)
  decl-in (g.family ps a cs) h =
      let p = params-in ps h.1.1 in let q = term-in a p.1.1 in let r = cons-in cs q.1.1 in ((h.1.0, p.0, q.0, r.0), r.1)
  decl-in (g.families ps a cs ms tags) h =
      let p = params-in ps h.1.1 in let q = term-in a p.1.1 in let r = cons-in cs q.1.1 in
      let m = members-in ms r.1 in let n = tags-in tags m.1.1.1.1.1 in
      ((p.0, ((h.1.0, q.0, r.0), m.0), m.1.1.0, m.1.1.1.0, n.0), n.1)
  decl-in (g.function a cs) h = let p = term-in a h.1.1.1 in let q = clauses-in cs p.1.1 in ((h.1.0, p.0, q.0), q.1)

  pub file-in : {ts : List Lexeme} {ds : List surf.Decl} → g.File allows ts ds → Each IsGood ts → Each DeclInLine ds
  file-in g.File.end h = tt
  file-in (g.File.next d ds) h = let p = decl-in d h in (p.0, file-in ds p.1)

-- Tokens in line are lexemes in line.

leveled-good : (n : ℕ) → IsGood (leveled n)
leveled-good n = go (nat_le n top)
  where
    go : (b : Bool) → IsGood (if b then x.Level n else x.Number)
    go true = tt
    go false = tt

number-good : (text : List ℕ) → IsGood (number text)
number-good [] = tt
number-good (d ∷ []) = leveled-good _
number-good (c ∷ d ∷ []) = leveled-good _
number-good (c ∷ d ∷ e ∷ text) = tt

keyword-good : (a b c d e f : Bool) →
    IsGood (if a then x.Data else (if b then x.Def else (if c then x.Fun else (if d then x.With else (if e then x.Let else (if f then x.In else x.Type))))))
keyword-good true b c d e f = tt
keyword-good false true c d e f = tt
keyword-good false false true d e f = tt
keyword-good false false false true e f = tt
keyword-good false false false false true f = tt
keyword-good false false false false false true = tt
keyword-good false false false false false false = tt

mark-good : (a b c d e f i j k l : Bool) →
    IsGood (if a then x.Open else (if b then x.Close else (if c then x.OpenBrace else (if d then x.CloseBrace else (if e then x.Colon
    else (if f then x.Semicolon else (if i then x.Equals else (if j then x.Backslash else (if k then x.Arrow else (if l then x.Underscore else x.Dot))))))))))
mark-good true b c d e f i j k l = tt
mark-good false true c d e f i j k l = tt
mark-good false false true d e f i j k l = tt
mark-good false false false true e f i j k l = tt
mark-good false false false false true f i j k l = tt
mark-good false false false false false true i j k l = tt
mark-good false false false false false false true j k l = tt
mark-good false false false false false false false true k l = tt
mark-good false false false false false false false false true l = tt
mark-good false false false false false false false false false true = tt
mark-good false false false false false false false false false false = tt

lexeme-good : (of : TokenKind) (w : Word) → WordIn w → IsGood (spelled of w)
lexeme-good Plain w h = h
lexeme-good Dotted w h = h
lexeme-good Number w h = number-good w.text
lexeme-good Keyword w h =
    keyword-good (is_text w.text (codes "data")) (is_text w.text (codes "def")) (is_text w.text (codes "fun")) (is_text w.text (codes "with")) (is_text w.text (codes "let")) (is_text w.text (codes "in"))
lexeme-good Mark w h =
    mark-good (is_text w.text (codes "(")) (is_text w.text (codes ")")) (is_text w.text (codes "{")) (is_text w.text (codes "}")) (is_text w.text (codes ":"))
    (is_text w.text (codes ";")) (is_text w.text (codes "=")) (is_text w.text (codes "\\")) (is_text w.text (codes "->")) (is_text w.text (codes "_"))

pub lexemes-good : (bytes : List ℕ) (tokens : List Token) → Each (λ t. is_in_line (slice_range bytes t.start t.end) ≡ true) tokens → Each IsGood (lexemes_of bytes tokens)
lexemes-good bytes [] h = tt
lexemes-good bytes (t ∷ ts) h = (lexeme-good t.kind (word_of bytes t) h.0, lexemes-good bytes ts h.1)
