-- A declaration has no more parts than lexemes.
use Rattle.std.proofs.Common.{ℕ, ◌+◌, ◌≤◌, Bool, List, length, Option, arith}
use Rattle.surface_syntax.specs.Trees as surf
use Rattle.surface_syntax.specs.Grammar as g
use Rattle.surface_syntax.specs.declared.tree.Word.{Word}
use Rattle.surface_syntax.specs.declared.lexeme.Lexeme.{Lexeme}
use Rattle.surface_syntax.specs.word_laws.Numbers.{withs_clause, withs, HasFew}
use Rattle.surface_syntax.specs.word_laws.Words.{Each}

module _ (allows : ℕ → ℕ → Bool) where
  names-fewer : {ts rest : List Lexeme} {ns : List (Option Word)} → g.Names allows ts rest ns → length rest ≤ length ts
  names-fewer g.name = omega arith
  names-fewer g.blank = omega arith
  names-fewer (g.names n) = let p = names-fewer n in omega (arith, p)
  names-fewer (g.blanks n) = let p = names-fewer n in omega (arith, p)

  mutual
    term-fewer : {d : ℕ} {ts rest : List Lexeme} {t : surf.Surf} → g.Term allows d ts rest t → length rest ≤ length ts
    term-fewer (g.lam m bs b) = let p = binders-fewer bs in let q = term-fewer b in omega (arith, p, q)
    term-fewer (g.pi m bs b) = let p = binders-fewer bs in let q = term-fewer b in omega (arith, p, q)
    term-fewer (g.app m a args) = let p = atom-fewer a in let q = atoms-fewer args in omega (arith, p, q)
    term-fewer (g.arrow m a args b) = let p = atom-fewer a in let q = atoms-fewer args in let r = term-fewer b in omega (arith, p, q, r)
    term-fewer (g.«let» m a t b) = let p = term-fewer a in let q = term-fewer t in let r = term-fewer b in omega (arith, p, q, r)

    binders-fewer : {d : ℕ} {ts rest : List Lexeme} {bs : List surf.Binder} → g.Binders allows d ts rest bs → length rest ≤ length ts
    binders-fewer (g.one b) = binder-fewer b
    binders-fewer (g.more b bs) = let p = binder-fewer b in let q = binders-fewer bs in omega (arith, p, q)

    binder-fewer : {d : ℕ} {ts rest : List Lexeme} {b : surf.Binder} → g.Binder allows d ts rest b → length rest ≤ length ts
    binder-fewer (g.group n a) = let p = names-fewer n in let q = term-fewer a in omega (arith, p, q)

    atom-fewer : {d : ℕ} {ts rest : List Lexeme} {t : surf.Surf} → g.Atom allows d ts rest t → length rest ≤ length ts
    atom-fewer g.sort = omega arith
    atom-fewer g.plain = omega arith
    atom-fewer g.dotted = omega arith
    atom-fewer (g.parens t) = let p = term-fewer t in omega (arith, p)

    atoms-fewer : {d : ℕ} {ts rest : List Lexeme} {args : List surf.Surf} → g.Atoms allows d ts rest args → length rest ≤ length ts
    atoms-fewer g.Atoms.end = omega arith
    atoms-fewer (g.Atoms.next a args) = let p = atom-fewer a in let q = atoms-fewer args in omega (arith, p, q)

  params-counted : {ts rest : List Lexeme} {ps : List surf.Typed} → g.Params allows ts rest ps → length ps + length rest ≤ length ts
  params-counted g.Params.end = omega arith
  params-counted (g.Params.next a ps) = let p = term-fewer a in let q = params-counted ps in omega (arith, p, q)

  listed-counted : {ts rest : List Lexeme} {cs : List surf.Typed} → g.Listed_cons allows ts rest cs → length cs + length rest ≤ length ts
  listed-counted (g.Listed_cons.last a) = let p = term-fewer a in omega (arith, p)
  listed-counted (g.Listed_cons.more a cs) = let p = term-fewer a in let q = listed-counted cs in omega (arith, p, q)

  cons-counted : {ts rest : List Lexeme} {cs : List surf.Typed} → g.Cons allows ts rest cs → length cs + length rest ≤ length ts
  cons-counted g.Cons.none = omega arith
  cons-counted (g.Cons.some cs) = listed-counted cs

  members-counted : {ts rest : List Lexeme} {ms : List surf.Member} → g.Members allows ts rest ms → length ms + length rest ≤ length ts
  members-counted (g.Members.last a cs) = let p = term-fewer a in let q = cons-counted cs in omega (arith, p, q)
  members-counted (g.Members.more a cs ms) =
      let p = term-fewer a in let q = cons-counted cs in let r = members-counted ms in omega (arith, p, q, r)

  tags-counted : {ts rest : List Lexeme} {tags : List Word} → g.Tags allows ts rest tags → length tags + length rest ≤ length ts
  tags-counted g.Tags.last = omega arith
  tags-counted (g.Tags.more tags) = let p = tags-counted tags in omega (arith, p)

  mutual
    pat-fewer : {d n : ℕ} {ts rest : List Lexeme} {p : surf.Pat} → g.Pat allows d ts rest p n → length rest ≤ length ts
    pat-fewer (g.Pat.plain m) = omega arith
    pat-fewer (g.Pat.dotted m) = omega arith
    pat-fewer (g.Pat.wild m) = omega arith
    pat-fewer (g.Pat.dot m t) = let p = atom-fewer t in omega (arith, p)
    pat-fewer (g.Pat.void m) = omega arith
    pat-fewer (g.Pat.con m ps) = let p = pats-fewer ps in omega (arith, p)
    pat-fewer (g.Pat.dotted_con m ps) = let p = pats-fewer ps in omega (arith, p)

    pats-fewer : {d n : ℕ} {ts rest : List Lexeme} {ps : List surf.Pat} → g.Pats allows d ts rest ps n → length rest ≤ length ts
    pats-fewer g.Pats.end = omega arith
    pats-fewer (g.Pats.next p ps) = let q = pat-fewer p in let r = pats-fewer ps in omega (arith, q, r)

  mutual
    clause-counted : {d : ℕ} {ts rest : List Lexeme} {c : surf.Clause} → g.Clause allows d ts rest c → withs_clause c + length rest ≤ length ts
    clause-counted (g.Clause.side m ps t) = let p = pats-fewer ps in let q = term-fewer t in omega (arith, p, q)
    clause-counted (g.Clause.inspect m ps t cs) =
        let p = pats-fewer ps in let q = term-fewer t in let r = clauses-counted cs in omega (arith, p, q, r)
    clause-counted (g.Clause.absurd m ps) = let p = pats-fewer ps in omega (arith, p)

    clauses-counted : {d : ℕ} {ts rest : List Lexeme} {cs : List surf.Clause} → g.Clauses allows d ts rest cs → withs (surf.clauses cs) + length rest ≤ length ts
    clauses-counted g.Clauses.none = omega arith
    clauses-counted (g.Clauses.some cs) = listed-clauses-counted cs

    listed-clauses-counted : {d : ℕ} {ts rest : List Lexeme} {cs : List surf.Clause} → g.Listed allows d ts rest cs → withs (surf.clauses cs) + length rest ≤ length ts
    listed-clauses-counted (g.Listed.last c) = let p = clause-counted c in omega (arith, p)
    listed-clauses-counted (g.Listed.more c cs) = let p = clause-counted c in let q = listed-clauses-counted cs in omega (arith, p, q)

  decl-fewer : {ts rest : List Lexeme} {d : surf.Decl} → g.Decl allows ts rest d → length rest ≤ length ts
  decl-fewer (g.def a t) = let p = term-fewer a in let q = term-fewer t in omega (arith, p, q)
  decl-fewer g.decide = omega arith
  decl-fewer (g.family ps a cs) =
      let p = params-counted ps in let q = term-fewer a in let r = cons-counted cs in omega (arith, p, q, r)
  decl-fewer (g.families ps a cs ms tags) =
      let p = params-counted ps in let q = term-fewer a in let r = cons-counted cs in let m = members-counted ms in let t = tags-counted tags in omega (arith, p, q, r, m, t)
  decl-fewer (g.function a cs) = let p = term-fewer a in let q = clauses-counted cs in omega (arith, p, q)

  decl-few : {most : ℕ} {ts rest : List Lexeme} {d : surf.Decl} → g.Decl allows ts rest d → length ts ≤ most → HasFew most d
  decl-few (g.def a t) le = tt
  decl-few g.decide le = tt
  decl-few (g.family ps a cs) le =
      let p = params-counted ps in let q = term-fewer a in let r = cons-counted cs in (omega (arith, le, p), omega (arith, le, p, q, r))
  decl-few (g.families ps a cs ms tags) le =
      let p = params-counted ps in let q = term-fewer a in let r = cons-counted cs in let m = members-counted ms in let t = tags-counted tags in
      (omega (arith, le, p), omega (arith, le, p, q, r, m), omega (arith, le, p, q, r, m, t))
  decl-few (g.function a cs) le = let p = term-fewer a in let q = clauses-counted cs in omega (arith, le, p, q)

  pub file-few : {most : ℕ} {ts : List Lexeme} {ds : List surf.Decl} → g.File allows ts ds → length ts ≤ most → Each (HasFew most) ds
  file-few g.File.end le = tt
  file-few (g.File.next d ds) le = let p = decl-fewer d in (decl-few d le, file-few ds (omega (arith, le, p)))
