-- Declarations one by one.
use Rattle.std.proofs.Common.{◌≡◌, ℕ, ◌+◌, ◌<◌, Bool, true, false, List, ◌∷◌, length, map, drop, get_or, Option, Ok, Err, sym, ap, subst, ◌∙◌}
use Rattle.std.proofs.lemmas.List.{drop_more}
use Rattle.surface_syntax.specs.Trees as surf
use Rattle.surface_syntax.specs.TreeMeanings.{decl_of}
use Rattle.surface_syntax.specs.declared.tree.Decl.{Decl}
use Rattle.function_session.specs.Declaring.{declared_in, session_after}
use Rattle.function_session.specs.Sessions.{Session}
use Rattle.elim.specs.declared.program_texts.status.Status.{Status}
use Rattle.elim.specs.elim_program.Outputs.{Block, declared_block, followed, declarations}
use Rattle.elim.proofs.elim_program.Following.{IsWriting, Writes, written_one, written_last, written_part}

-- the lines of one declaration
abbrev Lines : Session → surf.Decl → Block
Lines s d = declared_block s.signature d (declared_in s d)

-- the session after it
abbrev Next : Session → surf.Decl → Session
Next s d = session_after s d (declared_in s d)

module _ (before now end : Option (List ℕ)) (whole : Block) (s : Session) (decls : List Decl) (i : ℕ) (d : Decl) (lt : i < length decls) (is : d ≡ get_or decls i d)
    (so_far : IsWriting before now whole (declarations s (map decl_of (drop i decls)))) where
  next : IsWriting before now whole (followed (Lines s (decl_of d)) (declarations (Next s (decl_of d)) (map decl_of (drop (i + 1) decls))))
  next = subst (λ ds. IsWriting before now whole (declarations s (map decl_of ds))) (drop_more decls i d lt ∙ ap (λ x. x ∷ drop (i + 1) decls) (sym is)) so_far

  pub failed_next : (status : Status) → Writes now end (Err status) (Lines s (decl_of d)) → Writes before end (Err status) whole
  failed_next status written = written_part before now end whole (Lines s (decl_of d)) (declarations (Next s (decl_of d)) (map decl_of (drop (i + 1) decls))) status next written

  pub refused_next : (r : Bool) → r ≡ true → Writes now end (Ok r) (Lines s (decl_of d)) → Writes before end (Ok true) whole
  refused_next r e written =
      written_last before now end whole (Lines s (decl_of d)) (declarations (Next s (decl_of d)) (map decl_of (drop (i + 1) decls))) next
      (subst (λ x. Writes now end (Ok x) (Lines s (decl_of d))) e written)

  pub accepted_next : (r : Bool) → r ≡ false → Writes now end (Ok r) (Lines s (decl_of d)) → (t : Session) → t ≡ Next s (decl_of d)
      → IsWriting before end whole (declarations t (map decl_of (drop (i + 1) decls)))
  accepted_next r e written t et =
      let P : Session → Type 0 = λ x. IsWriting before end whole (declarations x (map decl_of (drop (i + 1) decls))) in
      subst P (sym et)
      (written_one before now end whole (Lines s (decl_of d)) (declarations (Next s (decl_of d)) (map decl_of (drop (i + 1) decls))) next
      (subst (λ x. Writes now end (Ok x) (Lines s (decl_of d))) e written))
