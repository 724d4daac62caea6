-- A line that is spelled right is read, unless a term in it is too deep or too high, or it shows no record.
use Rattle.std.proofs.Common.{◌≡◌, ◌≢◌, inl, inr, ℕ, ◌+◌, ◌-◌, ◌<◌, ◌≤◌, ◌^◌, Bool, true, false, List, [], ◌∷◌, ◌++◌, map, length, refl, ap, ◌∙◌, subst, append-nil, arith}
use Rattle.std.specs.Prelude.{if◌then◌else◌, Option, Some, Result, Ok, Err, All, AllPairs, codes}
use Rattle.std.proofs.lemmas.List.{length-append}
use Rattle.std.proofs.lemmas.List.Elements.{All-nil, All-cons}
use Rattle.theory.specs.Terms.{Term, Var, Sort, Pi, Lam, App, Let, Const, Fam, Con, Elim, AxiomK, height}
use Rattle.theory.specs.Telescopes.{Telescope}
use Rattle.theory.specs.Signatures.{Signature, Definition, names}
use Rattle.theory.proofs.Lists.{slice_get-last, slice_get-longer}
use Rattle.core_sig.specs.Raw.{RawConstructor}
use Rattle.core_text.specs.EntryParts.{EachTerm}
use Rattle.core_text.specs.EntryReading.{shows_entry, shown_by, next_entry, with_offset, entry_from}
use Rattle.core_text.specs.EntryText.{parameters_text, constructors_text, line_text}
use Rattle.core_text.specs.LineReading.{line_at}
use Rattle.core_text.specs.ReadableNames.{HasReadableNames}
use Rattle.core_text.specs.RawEntries.{RawEntry, RawFamilyOf, RawEliminator, RawAxiomK, RawDefinition}
use Rattle.core_text.specs.Reading.{Reading, wrong}
use Rattle.core_text.specs.SpelledLines.{IsSpelledOutcome, SpelledLinesAreRead}
use Rattle.core_text.specs.Spellings.{raw_line, IsEntryOver}
use Rattle.core_text.specs.SymbolNames.{own_name, with_name}
use Rattle.core_text.specs.TermText.{spelled, term_text}
use Rattle.core_text.specs.declared.stop.CoreTextStop.{CoreTextStop}
use Rattle.core_text.specs.declared.stop.CoreTextStop.TheVariants.{NotCoreText}
use Rattle.core_text.proofs.Depths.{is_read, is_nested}
use Rattle.core_text.proofs.EntriesFollow.{IsShort, IsAfter, entry-right}
use Rattle.core_text.proofs.LineForms.{constructors-size, grouped-is}
use Rattle.core_text.proofs.LinesBack.{parameter-text, parameters-long, Starts, offset-is}
use Rattle.core_text.proofs.LinesSpelled.{Line, line-spelled, next-is}
use Rattle.core_text.proofs.NumbersBack.{drop-word}
use Rattle.core_text.proofs.SymbolOutcomes.{Has}

-- ---- terms whose texts are short

-- a term is higher than its text is long by one at most
height-short : (W : Signature) (is_function : Bool) (t : Term) → height t ≤ 1 + length (spelled W is_function t)
height-short W b (Var n) = omega arith
height-short W b (Sort i) = omega arith
height-short W b (Pi x y) = simp length-append (omega (arith, height-short W false x, height-short W false y))
height-short W b (Lam x y) = simp length-append (omega (arith, height-short W false x, height-short W false y))
height-short W true (App f a) = simp length-append (omega (arith, height-short W true f, height-short W false a))
height-short W false (App f a) = simp length-append (omega (arith, height-short W true f, height-short W false a))
height-short W b (Let x t y) = simp length-append (omega (arith, height-short W false x, height-short W false t, height-short W false y))
height-short W b (Const n) = omega arith
height-short W b (Fam n) = omega arith
height-short W b (Con n c) = omega arith
height-short W b (Elim n m) = omega arith
height-short W b (AxiomK i m) = omega arith

types-short : (W : Signature) (tele : Telescope) → length (parameters_text W tele) < 2 ^ 32 → All IsShort tele × (length tele < 2 ^ 32)
types-short W [] short = (All-nil IsShort, omega arith)
types-short W (a ∷ tele) short =
    let text = term_text W a in
    let others = parameters_text W tele in
    let size : length (parameters_text W (a ∷ tele)) ≡ length text + (length others + 3) = omega (arith, ap length (parameter-text W a tele []), ap length (append-nil (parameters_text W (a ∷ tele))), length-append text (41 ∷ (others ++ [])), length-append others []) in
    let more = types-short W tele (omega (arith, short, size)) in
    let long = parameters-long W tele in
    (All-cons IsShort a tele (omega (arith, short, size, height-short W false a)) more.0, omega (arith, short, size, long))

constructors-short : (W : Signature) (before : List ℕ) (cs : List RawConstructor) → length (constructors_text W before cs) < 2 ^ 32 → All IsShort (map (λ c. c.type) cs)
constructors-short W before [] short = All-nil IsShort
constructors-short W before (c ∷ cs) short =
    let size = constructors-size W before c cs in
    All-cons IsShort c.type (map (λ c. c.type) cs) (omega (arith, short, size, height-short W false c.type))
    (constructors-short W (codes " ; ") cs (omega (arith, short, size)))

-- ---- the signature over which a line is written

abbrev over : Signature → RawEntry → Signature
over S (RawFamilyOf raw) = with_name S raw.name
over S _ = S

over-has : (S : Signature) (raw : RawEntry) → Has (over S raw) S
over-has S (RawFamilyOf raw) n e at = slice_get-longer S.entries (Definition raw.name (Sort 0) (Sort 0) ∷ []) n e at
over-has S (RawEliminator g m) n e at = at
over-has S (RawAxiomK i m) n e at = at
over-has S (RawDefinition name type body) n e at = at

-- of a line that is short
record HasShortLine (S : Signature) (raw : RawEntry) : Type 0 where
  after : IsAfter S (over S raw) raw
  terms : EachTerm IsShort raw

line-short : (S : Signature) (raw : RawEntry) → length (raw_line S raw) < 2 ^ 32 → HasShortLine S raw
line-short S (RawFamilyOf raw) short =
    let W = with_name S raw.name in
    let tele = parameters_text W raw.parameters in
    let type = term_text W raw.type in
    let cs = constructors_text W (codes " ") raw.constructors in
    let end = codes " {" ++ (cs ++ codes " }\n") in
    let third = length-append cs (codes " }\n") in
    let second = length-append type end in
    let next = length-append tele (codes " : " ++ (type ++ end)) in
    let size = length-append raw.name (tele ++ (codes " : " ++ (type ++ end))) in
    let sum : length tele + (length type + length cs) < 2 ^ 32 = omega (arith, short, ap length (grouped-is W (RawFamilyOf raw)), size, next, second, third) in
    let types = types-short W raw.parameters (omega (arith, sum)) in
    record {
      after = (types.1, ap own_name (slice_get-last S.entries (Definition raw.name (Sort 0) (Sort 0))));
      terms = (types.0, omega (arith, sum, height-short W false raw.type), constructors-short W (codes " ") raw.constructors (omega (arith, sum)));
    }
line-short S (RawEliminator g m) short = record { after = tt; terms = tt }
line-short S (RawAxiomK i m) short = record { after = tt; terms = tt }
line-short S (RawDefinition name type body) short =
    let first = term_text S type in
    let second = term_text S body in
    let whole = ap length (grouped-is S (RawDefinition name type body)) in
    let one = length-append name (codes " : " ++ (first ++ (codes " = " ++ (second ++ codes "\n")))) in
    let two = length-append first (codes " = " ++ (second ++ codes "\n")) in
    let three = length-append second (codes "\n") in
    record {
      after = tt;
      terms = (omega (arith, short, whole, one, two, three, height-short S false type), omega (arith, short, whole, one, two, three, height-short S false body));
    }

line-is : (S : Signature) (raw : RawEntry) → line_text (over S raw) raw ≡ raw_line S raw
line-is S (RawFamilyOf raw) = refl
line-is S (RawEliminator g m) = refl
line-is S (RawAxiomK i m) = refl
line-is S (RawDefinition name type body) = refl

line-read : (S : Signature) → AllPairs (λ x y. x ≢ y) (names S) → HasReadableNames S → (raw : RawEntry) (rest : List ℕ) → IsEntryOver S raw → length (raw_line S raw) < 2 ^ 32 → Line S (raw_line S raw) raw rest
line-read S distinct plain raw rest is short =
    let few = line-short S raw short in
    subst (λ line. Line S line raw rest) (line-is S raw)
    (line-spelled S (over S raw) raw rest (entry-right S (over S raw) distinct plain (over-has S raw) raw few.after few.terms is))

-- ---- a line after other bytes

start-is : (before text : List ℕ) → length (before ++ text) - length text ≡ length before
start-is before text = omega (arith, length-append before text)

pub spelled-lines-are-read : SpelledLinesAreRead
spelled-lines-are-read S raw before others distinct plain is short =
    by (line-read S distinct plain raw others is short)
  where
    line : List ℕ
    line = raw_line S raw

    text : List ℕ
    text = before ++ (line ++ others)

    -- the reading there, with its offset
    outcome : Reading RawEntry → Result (Option (RawEntry × ℕ)) CoreTextStop
    outcome m = with_offset (length text) (shown_by (length S.entries) (line ++ others) m)

    reading : Starts (line ++ others) → entry_from S text (length before) ≡ outcome (line_at S [] (line ++ others))
    reading starts =
        ap (λ r. with_offset (length text) (next_entry S r)) (drop-word before (line ++ others)) ∙ ap (with_offset (length text)) (next-is S (line ++ others) starts)

    shown : (b : Bool) → shows_entry (length S.entries) raw ≡ b → (r : Result (Option (RawEntry × ℕ)) CoreTextStop) → r ≡ outcome (Ok (raw, others)) → IsSpelledOutcome S raw (length before) (length before + length line) r
    shown true e r same = inl (same ∙ (ap (λ b. with_offset (length text) (if b then Ok (Some raw, others) else wrong (line ++ others))) e ∙ ap (λ k. Ok (Some (raw, k))) (offset-is before line others)))
    shown false e r same = inr (inr (e, same ∙ (ap (λ b. with_offset (length text) (if b then Ok (Some raw, others) else wrong (line ++ others))) e ∙ ap (λ k. Err (NotCoreText k)) (start-is before (line ++ others)))))

    by : Line S line raw others → IsSpelledOutcome S raw (length before) (length before + length line) (entry_from S text (length before))
    by l = elim l.reads [
      | is_read e ↦ shown (shows_entry (length S.entries) raw) refl (entry_from S text (length before)) (reading l.starts ∙ ap outcome e)
      | is_nested left high e ↦ inr (inl (high, length text - left, reading l.starts ∙ ap outcome e))
    ]
