-- Where a run goes wrong, no source file goes on, and before it one does.
use Rattle.std.proofs.Common.{◌≡◌, ℕ, ◌≤◌, List, [], ◌∷◌, ◌++◌, length, refl, sym, ap, subst, ◌∙◌, arith, append_assoc, length-append}
use Rattle.surface_syntax.specs.Grammar.{File, limit}
use Rattle.surface_syntax.specs.Machine as m
use Rattle.surface_syntax.specs.Parsing.{Answer, Read, Wrong, Deep, run}
use Rattle.surface_syntax.specs.Viable.{every, IsViable, Next, nothing, first, GoesNoFurther, GoesWrong}
use Rattle.surface_syntax.specs.declared.lexeme.Lexeme.{Lexeme}
use Rattle.surface_syntax.proofs.Looks.{placed}
use Rattle.surface_syntax.proofs.Results.{Allows, shape, result}
use Rattle.surface_syntax.proofs.Ways.{Covers, every_covers, limit_covers, Text, text, file_result, result_file, Passes, over, wrong, deep, deep_next, Way, way, ways, Finish, finish, finishes, way_text}

-- answers without declarations
pub deep_shape : (a : Answer) {n : ℕ} → shape a ≡ Deep n → a ≡ Deep n
deep_shape (Read ds) e = cc
deep_shape (Wrong n) e = cc
deep_shape (Deep n) e = e

pub next_same : (ts : List Lexeme) → Next ts ts
next_same [] = nothing
next_same (y ∷ ts) = first

pub viable_by : (front more : List Lexeme) → Text every (front ++ more) → IsViable front
viable_by front more (text ds file) = record { more = more; decls = ds; file = file }

pub viable_to : {front : List Lexeme} {s : m.State} → Passes m.Start front s → Finish s → IsViable front
viable_to {front} passes (finish more q) = viable_by front more (result_file every (front ++ more) (way_text every every_covers more passes ∙ q))

-- the answer of a way
way_answer : (ts front back : List Lexeme) {s : m.State} → ts ≡ front ++ back → Passes m.Start front s → result limit m.Start ts ≡ result limit (placed (length back) s) back
way_answer ts front back parts passes = ap (λ (us : List Lexeme). result limit m.Start us) parts ∙ way_text limit limit_covers back passes

wrong_stops : {front back : List Lexeme} {s : m.State} → Passes m.Start front s → ((allows : Allows) → Covers allows → (more : List Lexeme) → Next back more → result allows (placed (length more) s) more ≡ Wrong (length more)) →
    GoesNoFurther front back
wrong_stops passes w = λ more next ds file. (let e = file_result file in let f = way_text every every_covers more passes in let g = w every every_covers more next in cc)

wrong_way : (ts : List Lexeme) (n : ℕ) → result limit m.Start ts ≡ Wrong n → Way m.Start ts → GoesWrong ts n
wrong_way ts n q (way front back parts passes (over e)) = let a = way_answer ts front back parts passes in let b = e limit limit_covers in cc
wrong_way ts n q (way front back parts passes (deep {s = s} d out a h e)) = let f = way_answer ts front back parts passes in let g = deep_next s back d out e limit back (next_same back) h in cc
wrong_way ts n q (way {s' = s} front back parts passes (wrong w)) = record {
  front = front;
  back = back;
  parts = parts;
  left = (let f = way_answer ts front back parts passes in let g = w limit limit_covers back (next_same back) in cc);
  viable = viable_to passes (finishes s);
  stops = wrong_stops passes w;
}

-- where the machine goes wrong, so does the grammar
pub run_wrong : (ts : List Lexeme) (n : ℕ) → run limit m.Start ts ≡ Wrong n → GoesWrong ts n
run_wrong ts n q = wrong_way ts n (ap shape q) (ways ts m.Start)

-- two ways to part a list
pub data Parts (fs bs cs ds : List Lexeme) : Type 0 where
  same : fs ≡ cs → bs ≡ ds → Parts fs bs cs ds
  before : (y : Lexeme) (us : List Lexeme) → cs ≡ fs ++ y ∷ us → bs ≡ y ∷ us ++ ds → Parts fs bs cs ds
  behind : (y : Lexeme) (us : List Lexeme) → fs ≡ cs ++ y ∷ us → ds ≡ y ∷ us ++ bs → Parts fs bs cs ds

tail_same : {y z : Lexeme} {ts us : List Lexeme} → y ∷ ts ≡ z ∷ us → ts ≡ us
tail_same e = cc

head_same : {y z : Lexeme} {ts us : List Lexeme} → y ∷ ts ≡ z ∷ us → y ≡ z
head_same e = cc

more_parts : {y z : Lexeme} {fs bs cs ds : List Lexeme} → y ≡ z → Parts fs bs cs ds → Parts (y ∷ fs) bs (z ∷ cs) ds
more_parts {y} {z} {fs} {bs} {cs} e (same p q) = let h : y ∷ fs ≡ z ∷ cs = cc in same h q
more_parts {y} {z} {fs} {bs} {cs} e (before x us p q) = let h : z ∷ cs ≡ y ∷ fs ++ x ∷ us = cc in before x us h q
more_parts {y} {z} {fs} {bs} {cs} e (behind x us p q) = let h : y ∷ fs ≡ z ∷ cs ++ x ∷ us = cc in behind x us h q

pub parts : (fs bs cs ds : List Lexeme) → fs ++ bs ≡ cs ++ ds → Parts fs bs cs ds
parts [] bs [] ds e = same refl e
parts [] bs (z ∷ cs) ds e = before z cs refl e
parts (y ∷ fs) bs [] ds e = behind y fs refl (sym e)
parts (y ∷ fs) bs (z ∷ cs) ds e = more_parts (head_same e) (parts fs bs cs ds (tail_same e))

-- a front that goes on can't be one where the language goes no further
no_longer : (front back longer us ds : List Lexeme) (y : Lexeme) → GoesNoFurther front back → longer ≡ front ++ y ∷ us → back ≡ y ∷ us ++ ds → IsViable longer → ⊥
no_longer front back longer us ds y stops p q viable =
    stops (y ∷ us ++ viable.more) (subst (λ (b : List Lexeme). Next b (y ∷ us ++ viable.more)) (sym q) first) viable.decls
    (subst (λ (ts : List Lexeme). File every ts viable.decls) (ap (λ (ts : List Lexeme). ts ++ viable.more) p ∙ append_assoc front (y ∷ us) viable.more) viable.file)

one_by : {ts : List Lexeme} {n k : ℕ} (a : GoesWrong ts n) (b : GoesWrong ts k) → Parts a.front a.back b.front b.back → n ≡ k
one_by a b (same p q) = sym a.left ∙ ap length q ∙ b.left
one_by a b (before y us p q) = absurd (no_longer a.front a.back b.front us b.back y a.stops p q b.viable)
one_by a b (behind y us p q) = absurd (no_longer b.front b.back a.front us a.back y b.stops p q a.viable)

pub one_wrong : {ts : List Lexeme} {n k : ℕ} → GoesWrong ts n → GoesWrong ts k → n ≡ k
one_wrong a b = one_by a b (parts a.front a.back b.front b.back (sym a.parts ∙ b.parts))

-- a front that is viable ends at the place where lexemes go wrong, or before
viable_by_parts : (front back fr bk : List Lexeme) → GoesNoFurther front back → IsViable fr → Parts front back fr bk → length back ≤ length bk
viable_by_parts front back fr bk stops viable (same p q) = let e = ap length q in omega arith
viable_by_parts front back fr bk stops viable (before y us p q) = absurd (no_longer front back fr us bk y stops p q viable)
viable_by_parts front back fr bk stops viable (behind y us p q) = let e = ap length q in let f = length-append us back in omega arith

pub viable_within : {ts : List Lexeme} {n : ℕ} (fr bk : List Lexeme) → GoesWrong ts n → ts ≡ fr ++ bk → IsViable fr → n ≤ length bk
viable_within fr bk w e viable = subst (λ (i : ℕ). i ≤ length bk) w.left (viable_by_parts w.front w.back fr bk w.stops viable (parts w.front w.back fr bk (sym w.parts ∙ e)))
