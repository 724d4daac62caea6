-- Declarations that the grammar has for good lexemes have good words.
use Rattle.std.proofs.Common.{ℕ, Bool, List, [], ◌∷◌, Option, inl, inr}
use Rattle.surface_syntax.specs.Trees as surf
use Rattle.surface_syntax.specs.Grammar as g
use Rattle.surface_syntax.specs.declared.tree.Word.{Word}
use Rattle.surface_syntax.specs.declared.lexeme.Lexeme.{Lexeme}
use Rattle.surface_syntax.specs.declared.lexeme.Lexeme.TheVariants as x
use Rattle.surface_syntax.specs.declared.token.TokenKind.TheVariants.{Dotted}
use Rattle.surface_syntax.specs.word_laws.Words.{Each, IsSpelled, IsPlain, IsBound, IsTerm, AreTerms, IsBinder, AreBinders, IsPat, ArePats, IsClause, AreClauses, IsTyped, IsMember, HasWords}

-- a lexeme that is a name is spelled as one
abbrev pub IsGood : Lexeme → Type 0
IsGood (x.Plain w) = IsPlain w
IsGood (x.Dotted w) = IsSpelled Dotted w
IsGood _ = Unit {0}

applied-in : (h : surf.Surf) (args : List surf.Surf) → IsTerm h → AreTerms (surf.surfs args) → IsTerm (g.applied h args)
applied-in h [] p q = p
applied-in h (a ∷ args) p q = (p, q)

module _ (allows : ℕ → ℕ → Bool) where
  names-in : {ts rest : List Lexeme} {ns : List (Option Word)} → g.Names allows ts rest ns → Each IsGood ts → Each IsBound ns × Each IsGood rest
  names-in g.name h = ((h.0, tt), h.1)
  names-in g.blank h = ((tt, tt), h.1)
  names-in (g.names n) h = let p = names-in n h.1 in ((h.0, p.0), p.1)
  names-in (g.blanks n) h = let p = names-in n h.1 in ((tt, p.0), p.1)

  mutual
    term-in : {d : ℕ} {ts rest : List Lexeme} {t : surf.Surf} → g.Term allows d ts rest t → Each IsGood ts → IsTerm t × Each IsGood rest
    term-in (g.lam m bs b) h = let p = binders-in bs h.1 in let q = term-in b p.1.1 in ((p.0, q.0), q.1)
    term-in (g.pi m bs b) h = let p = binders-in bs h in let q = term-in b p.1.1 in ((p.0, q.0), q.1)
    term-in (g.app m a args) h = let p = atom-in a h in let q = atoms-in args p.1 in (applied-in _ _ p.0 q.0, q.1)
    term-in (g.arrow m a args b) h =
        let p = atom-in a h in let q = atoms-in args p.1 in let r = term-in b q.1.1 in ((applied-in _ _ p.0 q.0, r.0), r.1)
    term-in (g.«let» m a t b) h =
        let p = term-in a h.1.1.1 in let q = term-in t p.1.1 in let r = term-in b q.1.1 in ((h.1.0, p.0, q.0, r.0), r.1)

    binders-in : {d : ℕ} {ts rest : List Lexeme} {bs : List surf.Binder} → g.Binders allows d ts rest bs → Each IsGood ts → AreBinders (surf.binders bs) × Each IsGood rest
    binders-in (g.one b) h = let p = binder-in b h in ((p.0, tt), p.1)
    binders-in (g.more b bs) h = let p = binder-in b h in let q = binders-in bs p.1 in ((p.0, q.0), q.1)

    binder-in : {d : ℕ} {ts rest : List Lexeme} {b : surf.Binder} → g.Binder allows d ts rest b → Each IsGood ts → IsBinder b × Each IsGood rest
    binder-in (g.group n a) h = let k = names-in n h.1 in let p = term-in a k.1.1 in ((k.0, p.0), p.1.1)

    atom-in : {d : ℕ} {ts rest : List Lexeme} {t : surf.Surf} → g.Atom allows d ts rest t → Each IsGood ts → IsTerm t × Each IsGood rest
    atom-in g.sort h = (tt, h.1.1)
    atom-in g.plain h = (inl h.0, h.1)
    atom-in g.dotted h = (inr h.0, h.1)
    atom-in (g.parens t) h = let p = term-in t h.1 in (p.0, p.1.1)

    atoms-in : {d : ℕ} {ts rest : List Lexeme} {args : List surf.Surf} → g.Atoms allows d ts rest args → Each IsGood ts → AreTerms (surf.surfs args) × Each IsGood rest
    atoms-in g.Atoms.end h = (tt, h)
    atoms-in (g.Atoms.next a args) h = let p = atom-in a h in let q = atoms-in args p.1 in ((p.0, q.0), q.1)

  params-in : {ts rest : List Lexeme} {ps : List surf.Typed} → g.Params allows ts rest ps → Each IsGood ts → Each IsTyped ps × Each IsGood rest
  params-in g.Params.end h = (tt, h)
  params-in (g.Params.next a ps) h = let p = term-in a h.1.1.1 in let q = params-in ps p.1.1 in (((h.1.0, p.0), q.0), q.1)

  listed-in : {ts rest : List Lexeme} {cs : List surf.Typed} → g.Listed_cons allows ts rest cs → Each IsGood ts → Each IsTyped cs × Each IsGood rest
  listed-in (g.Listed_cons.last a) h = let p = term-in a h.1.1 in (((h.0, p.0), tt), p.1.1)
  listed-in (g.Listed_cons.more a cs) h = let p = term-in a h.1.1 in let q = listed-in cs p.1.1 in (((h.0, p.0), q.0), q.1)

  cons-in : {ts rest : List Lexeme} {cs : List surf.Typed} → g.Cons allows ts rest cs → Each IsGood ts → Each IsTyped cs × Each IsGood rest
  cons-in g.Cons.none h = (tt, h.1)
  cons-in (g.Cons.some cs) h = listed-in cs h

  members-in : {ts rest : List Lexeme} {ms : List surf.Member} → g.Members allows ts rest ms → Each IsGood ts → Each IsMember ms × Each IsGood rest
  members-in (g.Members.last a cs) h =
      let p = term-in a h.1.1.1 in let q = cons-in cs p.1.1 in (((h.1.0, p.0, q.0), tt), q.1)
  members-in (g.Members.more a cs ms) h =
      let p = term-in a h.1.1.1 in let q = cons-in cs p.1.1 in let r = members-in ms q.1 in (((h.1.0, p.0, q.0), r.0), r.1)

  tags-in : {ts rest : List Lexeme} {tags : List Word} → g.Tags allows ts rest tags → Each IsGood ts → Each IsPlain tags × Each IsGood rest
  tags-in g.Tags.last h = ((h.0, tt), h.1.1)
  tags-in (g.Tags.more tags) h = let p = tags-in tags h.1.1 in ((h.0, p.0), p.1)

  mutual
    pat-in : {d n : ℕ} {ts rest : List Lexeme} {p : surf.Pat} → g.Pat allows d ts rest p n → Each IsGood ts → IsPat p × Each IsGood rest
    pat-in (g.Pat.plain m) h = (inl h.0, h.1)
    pat-in (g.Pat.dotted m) h = (inr h.0, h.1)
    pat-in (g.Pat.wild m) h = (tt, h.1)
    pat-in (g.Pat.dot m t) h = atom-in t h.1
    pat-in (g.Pat.void m) h = (tt, h.1.1)
    pat-in (g.Pat.con m ps) h = let p = pats-in ps h.1.1 in ((inl h.1.0, p.0), p.1.1)
    pat-in (g.Pat.dotted_con m ps) h = let p = pats-in ps h.1.1 in ((inr h.1.0, p.0), p.1.1)

    pats-in : {d n : ℕ} {ts rest : List Lexeme} {ps : List surf.Pat} → g.Pats allows d ts rest ps n → Each IsGood ts → ArePats (surf.pats ps) × Each IsGood rest
    pats-in g.Pats.end h = (tt, h)
    pats-in (g.Pats.next p ps) h = let q = pat-in p h in let r = pats-in ps q.1 in ((q.0, r.0), r.1)

  mutual
    clause-in : {d : ℕ} {ts rest : List Lexeme} {c : surf.Clause} → g.Clause allows d ts rest c → Each IsGood ts → IsClause c × Each IsGood rest
    clause-in (g.Clause.side m ps t) h = let p = pats-in ps h.1 in let q = term-in t p.1.1 in ((h.0, p.0, q.0), q.1)
    clause-in (g.Clause.inspect m ps t cs) h =
        let p = pats-in ps h.1 in let q = term-in t p.1.1 in let r = clauses-in cs q.1.1 in ((h.0, p.0, (q.0, r.0)), r.1)
    clause-in (g.Clause.absurd m ps) h = let p = pats-in ps h.1 in ((h.0, p.0, tt), p.1)

    clauses-in : {d : ℕ} {ts rest : List Lexeme} {cs : List surf.Clause} → g.Clauses allows d ts rest cs → Each IsGood ts → AreClauses (surf.clauses cs) × Each IsGood rest
    clauses-in g.Clauses.none h = (tt, h.1)
    clauses-in (g.Clauses.some cs) h = listed-clauses-in cs h

    listed-clauses-in : {d : ℕ} {ts rest : List Lexeme} {cs : List surf.Clause} → g.Listed allows d ts rest cs → Each IsGood ts → AreClauses (surf.clauses cs) × Each IsGood rest
    listed-clauses-in (g.Listed.last c) h = let p = clause-in c h in ((p.0, tt), p.1.1)
    listed-clauses-in (g.Listed.more c cs) h = let p = clause-in c h in let q = listed-clauses-in cs p.1.1 in ((p.0, q.0), q.1)

  decl-in : {ts rest : List Lexeme} {d : surf.Decl} → g.Decl allows ts rest d → Each IsGood ts → HasWords d × Each IsGood rest
  decl-in (g.def a t) h = let p = term-in a h.1.1.1 in let q = term-in t p.1.1 in ((h.1.0, p.0, q.0), q.1)
  decl-in g.decide h = ((h.1.0, h.1.1.1.1.0, h.1.1.1.1.1.0), h.1.1.1.1.1.1)
  decl-in (g.family ps a cs) h =
      let p = params-in ps h.1.1 in let q = term-in a p.1.1 in let r = cons-in cs q.1.1 in ((h.1.0, p.0, q.0, r.0), r.1)
  decl-in (g.families ps a cs ms tags) h =
      let p = params-in ps h.1.1 in let q = term-in a p.1.1 in let r = cons-in cs q.1.1 in
      let m = members-in ms r.1 in let t = tags-in tags m.1.1.1.1.1 in
      ((p.0, ((h.1.0, q.0, r.0), m.0), m.1.1.0, m.1.1.1.0, t.0), t.1)
  decl-in (g.function a cs) h = let p = term-in a h.1.1.1 in let q = clauses-in cs p.1.1 in ((h.1.0, p.0, q.0), q.1)

  pub file-in : {ts : List Lexeme} {ds : List surf.Decl} → g.File allows ts ds → Each IsGood ts → Each HasWords ds
  file-in g.File.end h = tt
  file-in (g.File.next d ds) h = let p = decl-in d h in (p.0, file-in ds p.1)
