-- The lines of refusals hold no line feed.
use Rattle.std.proofs.Common.{◌≡◌, ℕ, true, List, [], ◌∷◌, ◌++◌, codes, refl}
use Rattle.std.specs.Prelude.{decimal}
use Rattle.core_text.specs.Lines.{is_in_line, AreInLine}
use Rattle.core_text.proofs.Feeds.{both, decimal-in}
use Rattle.elab_session.specs.declared.refusal.Refusal.{Refusal}
use Rattle.elim.specs.declared.program_texts.text_stop.TextStop.{TextStop}
use Rattle.elim.specs.declared.program_texts.text_stop.TextStop.TheVariants as stop
use Rattle.elim.specs.program_texts.Refusals.{candidate_lines, candidate_of, refusal_line, refusal_text, refused_lines, stop_line}
use Rattle.elim.proofs.program_texts.SessionInLine.{TextIn}

pub join : (xs ys : List (List ℕ)) → AreInLine xs → AreInLine ys → AreInLine (xs ++ ys)
join [] ys h k = k
join (x ∷ xs) ys h k = (h.0, join xs ys h.1 k)

pub refusal-in : (name : List ℕ) (e : Refusal) → is_in_line name ≡ true → TextIn e → is_in_line (refusal_line name e) ≡ true
refusal-in name e h k =
    both (codes "# refused " ++ name ++ codes " ") (refusal_text e) (both (codes "# refused " ++ name) (codes " ") (both (codes "# refused ") name refl h) refl) k.0

pub refused-lines-in : (name : List ℕ) (e : Refusal) → is_in_line name ≡ true → TextIn e → AreInLine (refused_lines name e)
refused-lines-in name e h k = join (candidate_lines (candidate_of e)) (refusal_line name e ∷ []) k.1 (refusal-in name e h k, tt)

pub stop-in : (e : TextStop) → is_in_line (stop_line e) ≡ true
stop-in stop.Memory = refl
stop-in stop.TooLong = refl
stop-in (stop.NotUtf8 offset) = both (codes "# refused NotUtf8 ") (decimal offset) refl (decimal-in offset)
stop-in (stop.BadToken offset) = both (codes "# refused BadToken ") (decimal offset) refl (decimal-in offset)
stop-in (stop.Nested offset) = both (codes "# refused Nested ") (decimal offset) refl (decimal-in offset)
stop-in (stop.NotCoreText offset) = both (codes "# refused NotCoreText ") (decimal offset) refl (decimal-in offset)
stop-in (stop.Syntax offset) = both (codes "# refused Syntax ") (decimal offset) refl (decimal-in offset)
