-- How the mode `work` makes its source file, and the lines where it is refused.
use Rattle.std.proofs.Common.{◌≡◌, ◌≢◌, ℕ, zero, suc, ◌+◌, ◌-◌, ◌≤◌, true, List, [], ◌∷◌, ◌++◌, length, map, get_or, Result, Ok, Err, refl, ap, subst, ◌∙◌, arith, append_assoc}
use Rattle.std.specs.Prelude.{OnOk}
use Rattle.core_terms.specs.Answers.{Unless}
use Rattle.surface_syntax.specs.TreeMeanings.{decl_of}
use Rattle.surface_syntax.specs.declared.tree.Decl.{Decl}
use Rattle.elab_session.specs.declared.refusal.Refusal.{Refusal}
use Rattle.function_session.specs.Declaring.{declared_in, with_declared}
use Rattle.function_session.specs.Elaborating.{Elaborated}
use Rattle.function_session.specs.Sessions.{Session}
use Rattle.elab_session.specs.Refusals.{IsUnforeseen}
use Rattle.elim.specs.elim_program.Blocks.{Makes}
use Rattle.elim.specs.elim_program.Counting.{Refuses}
use Rattle.elim.specs.elim_program.Outputs.{block, declared_name}
use Rattle.elim.specs.program_texts.Refusals.{refused_lines}
use Rattle.elim.specs.elim_program.WorkTexts.{numbered, template, text_from}
use Rattle.elim.specs.elim_program.Works.{on_worked, with_accepted, worked}
use Rattle.elim.specs.declared.elim_program.block.Block.{Block}
use Rattle.elim.specs.declared.elim_program.counts.Counts.{Counts}
use Rattle.elim.specs.declared.program_texts.status.Status.{Status}
use Rattle.elim.specs.declared.program_texts.status.Status.TheVariants.{NoMemory}

-- one family and one function more
text_more : (from count : ℕ) (before middle after : List ℕ) → count ≢ 0 → middle ≡ before ++ numbered from template → after ≡ middle ++ text_from (from + 1) (count - 1)
    → after ≡ before ++ text_from from count
text_more from zero before middle after some m a = absurd (some refl)
text_more from (suc count) before middle after some m a =
    let less : suc count - 1 ≡ count = omega arith in
    a ∙ ap (λ n. middle ++ text_from (from + 1) n) less ∙ ap (λ l. l ++ text_from (from + 1) count) m ∙ append_assoc before (numbered from template) (text_from (from + 1) count)

pub on_text : {E : Type 0} (r : Result (Unit {0}) E) (from count : ℕ) (before middle after : List ℕ) → count ≢ 0 → middle ≡ before ++ numbered from template
    → OnOk r (after ≡ middle ++ text_from (from + 1) (count - 1)) → OnOk r (after ≡ before ++ text_from from count)
on_text (Ok u) from count before middle after some m a = text_more from count before middle after some m a
on_text (Err e) from count before middle after some m a = tt

abbrev Made : Block → Result Block Status
Made b = Ok b

no_ok : (b : Block) → Made b ≡ Err NoMemory → ⊥
no_ok b e = cc

-- the first declaration is refused
pub refused_first : (s : Session) (decls : List Decl) (d : Decl) (c : Counts) (e : Refusal) (b : Block) (name : List ℕ) → 1 ≤ length decls → d ≡ get_or decls 0 d
    → name ≡ declared_name (decl_of d) → Makes (Made b) (block (refused_lines name e) true) → (IsUnforeseen e → Made b ≡ Err NoMemory)
    → Unless (IsUnforeseen e) (Err e ≡ declared_in s (decl_of d)) → Refuses b (worked s (map decl_of decls) c)
refused_first s [] d c e b name some first same made memory answer = absurd (omega (arith, some))
refused_first s (d ∷ ds) x c e b name some first same made memory answer =
    let go : Elaborated → Result Counts (List (List ℕ)) = λ a. worked (with_declared s (decl_of d) a.signature) (map decl_of ds) (with_accepted c a) in
    let is : Err e ≡ declared_in s (decl_of d) =
    subst (λ y. Err e ≡ declared_in s (decl_of y)) first (answer (λ u. no_ok b (memory u))) in
    let named : name ≡ declared_name (decl_of d) = same ∙ ap (λ y. declared_name (decl_of y)) first in
    subst (λ m. Refuses b (on_worked (decl_of d) m go)) is (subst (λ n. Makes (Made b) (block (refused_lines n e) true)) named made)
