-- The lines above one that accepts a declaration are a core file of the signature that has it.
use Rattle.std.proofs.Common.{◌≡◌, ◌==◌, ℕ, Bool, true, false, not, List, [], ◌∷◌, ◌++◌, refl, sym, ap₂, subst}
use Rattle.std.specs.Prelude.{◌&&◌, if◌then◌else◌}
use Rattle.theory.specs.Prelude.{prelude}
use Rattle.theory.specs.Signatures.{Signature, IsPrefix}
use Rattle.theory.specs.WellFormed.{IsWellFormed}
use Rattle.theory.proofs.Pushing.{prefix_reflexive, prefix_transitive}
use Rattle.core_text.specs.LineLaws.{NotesArePassedOver, EndsAreRead}
use Rattle.core_text.specs.Lines.{AreInLine}
use Rattle.core_text.specs.ReadBack.{EntriesAreReadBack}
use Rattle.core_text.specs.WrittenEntries.{EntriesThatFollow}
use Rattle.elim.specs.elim_program.Headline.{core_lines, Shows, none, more}
use Rattle.elim.specs.program_texts.Lines.{longer, lines_of, text_of}
use Rattle.elim.specs.elim_program.Outputs.{head_lines}
use Rattle.elim.specs.headline.program_laws.CoreFiles.{IsCoreFile, IsWritable}
use Rattle.elim.specs.headline.program_laws.Laws.{OneSignature}
use Rattle.elim.proofs.headline.program_laws.CoreFiles.{core-file}
use Rattle.elim.proofs.headline.program_laws.Writable.{in-turn}
use Rattle.elim.proofs.headline.program_laws.LinesWithoutK.{above-later, later, shown-k, shows-later}

-- whole lines hold no line feed
longer-in : (c : ℕ) (lines : List (List ℕ)) → (c == 10) ≡ false → AreInLine lines → AreInLine (longer c lines)
longer-in c [] e h = tt
longer-in c (line ∷ lines) e h = (ap₂ (λ a b. not a && b) e h.0, h.1)

lines-in : (text : List ℕ) → AreInLine (lines_of text)
lines-in [] = tt
lines-in (c ∷ cs) = by (c == 10) refl (lines-in cs)
  where
    by : (b : Bool) → (c == 10) ≡ b → AreInLine (lines_of cs) → AreInLine (if b then [] ∷ lines_of cs else longer c (lines_of cs))
    by true e h = (refl, h)
    by false e h = longer-in c (lines_of cs) e h

first-in : (xs ys : List (List ℕ)) → AreInLine (xs ++ ys) → AreInLine xs
first-in [] ys h = tt
first-in (x ∷ xs) ys h = (h.0, first-in xs ys h.1)

after-heads : (k : Bool) (lines : List (List ℕ)) → AreInLine (head_lines k ++ lines) → AreInLine lines
after-heads true lines h = h.1.1
after-heads false lines h = h.1.1

begun : {P S : Signature} {lines : List (List ℕ)} → Shows P S lines → IsPrefix P S
begun {P} none = prefix_reflexive P
begun {P} (more S T lines shows grown) = prefix_transitive P S T (begun shows) grown

-- lines that show the entries of a signature are a core file of it
pub core-of-lines : EntriesAreReadBack → EntriesThatFollow → NotesArePassedOver → EndsAreRead → (text : List ℕ) (above below lines : List (List ℕ)) (k : Bool) (W : Signature)
    → lines_of text ≡ above ++ below → above ≡ head_lines k ++ lines → Shows (prelude k) W (core_lines lines) → IsWellFormed W → IsWritable W → IsCoreFile k (text_of above) W
core-of-lines back follow passed ends text above below lines k W whole heads shows formed writable =
    let in_line : AreInLine above = first-in above below (subst AreInLine whole (lines-in text)) in
    subst (λ ls. IsCoreFile k (text_of ls) W) (sym heads)
    (core-file back follow passed ends W formed (in-turn W formed writable) k (shown-k shows) (begun shows) lines (after-heads k lines (subst AreInLine heads in_line)) shows)

pub from_laws : EntriesAreReadBack → EntriesThatFollow → NotesArePassedOver → EndsAreRead → OneSignature
from_laws back follow passed ends words bytes text above below name whole shown writable =
    core-of-lines back follow passed ends text above below (later words bytes above name shown) shown.k shown.after whole (above-later words bytes above name shown)
    (shows-later words bytes above name shown) shown.formed writable
