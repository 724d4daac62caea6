-- Without K, no line above one that accepts a declaration is that of an instance of K.
use Rattle.std.proofs.Common.{◌≡◌, ◌==◌, ℕ, zero, suc, ◌+◌, ◌-◌, Bool, true, false, not, List, [], ◌∷◌, ◌++◌, length, All, codes, Option, Some, None, refl, sym, ap, subst, ◌∙◌, true≢false}
use Rattle.std.specs.Prelude.{slice_get, if◌then◌else◌, IsTrue}
use Rattle.std.proofs.lemmas.Bool.{eqb-true}
use Rattle.std.proofs.lemmas.List.Elements.{All-cons, All-nil, All-append, All-head, All-tail}
use Rattle.theory.specs.Prelude.{prelude}
use Rattle.theory.specs.Signatures.{Entry, FamilyOf, EliminatorAt, AxiomKAt, Definition, Signature, IsPrefix}
use Rattle.theory.proofs.Widening.{prefix_keeps}
use Rattle.core_text.specs.EntryText.{entry_text}
use Rattle.elim.specs.elim_program.Headline.{is_core, core_lines, Shows, none, more, IsShown}
use Rattle.elim.specs.elim_program.Outputs.{line_of, entry_lines, lines_after, note_lines, head_lines}
use Rattle.elim.proofs.elim_program.Accepted.{shows-more}
use Rattle.elim.specs.headline.program_laws.Laws.{WithoutK, VerifiedWithoutK}
use Rattle.elim.specs.headline.program_laws.WithoutK.{LacksK, HasNoK, IsOtherLine, AreWithoutK}
use Rattle.elim.proofs.headline.program_laws.EntriesWithoutK.{well_formed_without_k}

entry-other : (S : Signature) (n : ℕ) (e : Entry) → LacksK n e → IsOtherLine (entry_text S n e)
entry-other S n (FamilyOf f) h = refl
entry-other S n (EliminatorAt g m) h = refl
entry-other S n (AxiomKAt i m) h = absurd h
entry-other S n (Definition name type body) h = refl

line-other : (S : Signature) (n : ℕ) (o : Option Entry) → ((e : Entry) → o ≡ Some e → LacksK n e) → IsOtherLine (line_of S n o)
line-other S n (Some e) h = entry-other S n e (h e refl)
line-other S n None h = refl

entries-other : (S : Signature) → HasNoK S → (n count : ℕ) → All IsOtherLine (entry_lines S n count)
entries-other S h n zero = All-nil IsOtherLine
entries-other S h n (suc count) =
    All-cons IsOtherLine (line_of S n (slice_get S.entries n)) (entry_lines S (n + 1) count) (line-other S n (slice_get S.entries n) (h n)) (entries-other S h (n + 1) count)

no-k-before : (S T : Signature) → IsPrefix S T → HasNoK T → HasNoK S
no-k-before S T longer h n e at = h n e ((prefix_keeps longer).entry n e at)

shown-other : {P S : Signature} {lines : List (List ℕ)} → Shows P S lines → HasNoK S → All IsOtherLine lines
shown-other none h = All-nil IsOtherLine
shown-other (more S T lines shown longer) h =
    All-append IsOtherLine lines (lines_after S T) (shown-other shown (no-k-before S T longer h))
    (entries-other T h (length S.entries) (length T.entries - length S.entries))

-- a signature that is shown has K where the signature before it has it
pub shown-k : {P S : Signature} {lines : List (List ℕ)} → Shows P S lines → S.has_k ≡ P.has_k
shown-k none = refl
shown-k (more S T lines shown longer) = longer.has_k ∙ shown-k shown

-- a line that begins with `#`
note-other : (line : List ℕ) → is_core line ≡ false → IsOtherLine line
note-other [] e = cc
note-other (c ∷ cs) e = by (c == 35) refl e
  where
    at : (d : ℕ) → 35 ≡ d → IsOtherLine (d ∷ cs)
    at d q = subst (λ (x : ℕ). IsOtherLine (x ∷ cs)) q refl

    by : (b : Bool) → (c == 35) ≡ b → not b ≡ false → IsOtherLine (c ∷ cs)
    by true q r = at c (sym (eqb-true c 35 q))
    by false q r = absurd (true≢false r)

-- where the core lines are others, all lines are
all-other : (lines : List (List ℕ)) → All IsOtherLine (core_lines lines) → All IsOtherLine lines
all-other [] h = All-nil IsOtherLine
all-other (line ∷ lines) h = by (is_core line) refl h (all-other lines)
  where
    by : (b : Bool) → is_core line ≡ b → All IsOtherLine (if b then line ∷ core_lines lines else core_lines lines) → (All IsOtherLine (core_lines lines) → All IsOtherLine lines)
        → All IsOtherLine (line ∷ lines)
    by true e k rest = All-cons IsOtherLine line lines (All-head IsOtherLine line (core_lines lines) k) (rest (All-tail IsOtherLine line (core_lines lines) k))
    by false e k rest = All-cons IsOtherLine line lines (note-other line e) (rest k)

heads-other : All IsOtherLine (head_lines false)
heads-other =
    All-cons IsOtherLine (codes "elim 1") (codes "prelude" ∷ []) refl (All-cons IsOtherLine (codes "prelude") [] refl (All-nil IsOtherLine))

module _ (words : List (List ℕ)) (bytes : List ℕ) (above : List (List ℕ)) (name : List ℕ) (shown : IsShown words bytes above name) where
  -- the lines above without the head lines
  pub later : List (List ℕ)
  later = shown.earlier ++ (lines_after shown.before shown.after ++ note_lines shown.after shown.clauses shown.equations)

  pub shows-later : Shows (prelude shown.k) shown.after (core_lines later)
  unfolding later
  shows-later = shows-more (prelude shown.k) shown.before shown.after shown.clauses shown.equations shown.earlier shown.shown shown.longer

  pub above-later : above ≡ head_lines shown.k ++ later
  unfolding later
  above-later = shown.lines

  module _ (off : shown.k ≡ false) where
    entries : HasNoK shown.after
    entries = well_formed_without_k shown.after shown.formed (shown-k shows-later ∙ off)

    pub without : AreWithoutK above shown.after
    without = record {
      lines = subst (λ ls. All IsOtherLine ls) (sym (above-later ∙ ap (λ k. head_lines k ++ later) off))
          (All-append IsOtherLine (head_lines false) later heads-other (all-other later (shown-other shows-later entries)));
      entries = entries;
    }

pub without_k : WithoutK
without_k words bytes above name shown off = without words bytes above name shown off

pub verified_without_k : VerifiedWithoutK
verified_without_k text above name verified = well_formed_without_k verified.signature verified.formed (flag verified.signature.has_k verified.has_k)
  where
    flag : (b : Bool) → (IsTrue b → IsTrue false) → b ≡ false
    flag true h = absurd (true≢false (sym (h refl)))
    flag false h = refl
