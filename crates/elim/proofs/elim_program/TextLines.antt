-- Lines as texts.
use Rattle.std.proofs.Common.{◌≡◌, ◌≢◌, ℕ, zero, suc, ◌+◌, ◌-◌, Bool, true, false, not, List, [], ◌∷◌, ◌++◌, Result, Ok, Err, refl, sym, ap, ◌∙◌, arith, append_assoc}
use Rattle.std.specs.Prelude.{◌==◌, if◌then◌else◌, OnOk, slice_get, codes}
use Rattle.std.proofs.lemmas.Bool.{and_parts, false≢true}
use Rattle.theory.specs.Signatures.{Signature}
use Rattle.core_text.specs.Lines.{is_in_line, AreInLine}
use Rattle.clause_reports.specs.elaboration.Functions.{ClauseLine}
use Rattle.elim.specs.program_texts.ClauseTexts.{clause_line, leaf_lines, with_leaves, clause_lines, clauses_text}
use Rattle.elim.specs.program_texts.Lines.{longer, lines_of, text_of}
use Rattle.elim.specs.elim_program.Outputs.{line_of, entry_lines}

pub text_both : (xs ys : List (List ℕ)) → text_of (xs ++ ys) ≡ text_of xs ++ text_of ys
text_both [] ys = refl
text_both (x ∷ xs) ys = ap (λ t. x ++ 10 ∷ t) (text_both xs ys) ∙ sym (append_assoc x (10 ∷ text_of xs) (text_of ys))

pub leaves_text : (S : Signature) (c : ClauseLine) → (clause_line S c ++ codes "\n") ++ text_of (leaf_lines S c.line) ≡ text_of (with_leaves S c)
unfolding with_leaves
leaves_text S c = append_assoc (clause_line S c) (codes "\n") (text_of (leaf_lines S c.line))

pub clauses_are : (S : Signature) (clauses : List ClauseLine) → clauses_text S clauses ≡ text_of (clause_lines S clauses)
clauses_are S [] = refl
clauses_are S (c ∷ clauses) = ap (λ t. text_of (with_leaves S c) ++ t) (clauses_are S clauses) ∙ sym (text_both (with_leaves S c) (clause_lines S clauses))

-- the line of one entry more
entry_more : (S : Signature) (n count : ℕ) (before middle after : List ℕ) → count ≢ 0 → middle ≡ before ++ (line_of S n (slice_get S.entries n) ++ codes "\n")
    → after ≡ middle ++ text_of (entry_lines S (n + 1) (count - 1)) → after ≡ before ++ text_of (entry_lines S n count)
entry_more S n zero before middle after h m a = absurd (h refl)
entry_more S n (suc count) before middle after h m a =
    let less : suc count - 1 ≡ count = omega arith in
    let line = line_of S n (slice_get S.entries n) in
    let rest = text_of (entry_lines S (n + 1) count) in
    a ∙ ap (λ k. middle ++ text_of (entry_lines S (n + 1) k)) less ∙ ap (λ l. l ++ rest) m ∙ append_assoc before (line ++ codes "\n") rest
    ∙ ap (λ l. before ++ l) (append_assoc line (codes "\n") rest)

pub on_more : {E : Type 0} (r : Result (Unit {0}) E) (S : Signature) (n count : ℕ) (before middle after : List ℕ) → count ≢ 0 → middle ≡ before ++ (line_of S n (slice_get S.entries n) ++ codes "\n")
    → OnOk r (after ≡ middle ++ text_of (entry_lines S (n + 1) (count - 1))) → OnOk r (after ≡ before ++ text_of (entry_lines S n count))
on_more (Ok u) S n count before middle after h m a = entry_more S n count before middle after h m a
on_more (Err e) S n count before middle after h m a = tt

other : {A : Type 0} (b : Bool) (x y : A) → not b ≡ true → (if b then x else y) ≡ y
other true x y h = absurd (false≢true h)
other false x y h = refl

line-first : (line rest : List ℕ) → is_in_line line ≡ true → lines_of (line ++ 10 ∷ rest) ≡ line ∷ lines_of rest
line-first [] rest h = refl
line-first (c ∷ cs) rest h =
    let parts = and_parts (not (c == 10)) (is_in_line cs) h in
    other (c == 10) ([] ∷ lines_of (cs ++ 10 ∷ rest)) (longer c (lines_of (cs ++ 10 ∷ rest))) parts.0 ∙ ap (longer c) (line-first cs rest parts.1)

-- lines without a line feed are the lines of their text
pub lines-text : (lines : List (List ℕ)) → AreInLine lines → lines_of (text_of lines) ≡ lines
lines-text [] h = refl
lines-text (line ∷ lines) h = line-first line (text_of lines) h.0 ∙ ap (λ ls. line ∷ ls) (lines-text lines h.1)

-- the lines of the front of a text are the first of its lines
pub lines-front : (front rest : List ℕ) → (more : List (List ℕ)) × (lines_of (front ++ rest) ≡ lines_of front ++ more)
lines-front [] rest = (lines_of rest, refl)
lines-front (c ∷ cs) rest =
    let h = lines-front cs rest in go (c == 10) (lines_of cs) (lines_of (cs ++ rest)) h.0 h.1
  where
    go : (b : Bool) (part whole more : List (List ℕ)) → whole ≡ part ++ more
        → (m : List (List ℕ)) × ((if b then [] ∷ whole else longer c whole) ≡ (if b then [] ∷ part else longer c part) ++ m)
    go true part whole more e = (more, ap (λ ls. [] ∷ ls) e)
    go false [] whole more e = (longer c more, ap (longer c) e)
    go false (l ∷ part) whole more e = (more, ap (longer c) e)
