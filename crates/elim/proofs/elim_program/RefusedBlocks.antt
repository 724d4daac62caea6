-- The lines of a declaration and of an entry that are refused.
use Rattle.std.proofs.Common.{◌≡◌, ℕ, List, [], ◌∷◌, true, Result, Ok, Err, subst, ap, ◌∙◌}
use Rattle.std.specs.Prelude.{OnOk}
use Rattle.theory.specs.Signatures.{Signature}
use Rattle.core_terms.specs.Answers.{Unless}
use Rattle.surface_syntax.specs.Trees as surf
use Rattle.family_check.specs.Entering.{Entered}
use Rattle.elab_session.specs.Refusals.{IsUnforeseen}
use Rattle.elab_session.specs.declared.refusal.Refusal.{Refusal}
use Rattle.function_session.specs.Declaring.{session_after}
use Rattle.function_session.specs.Elaborating.{Elaborated}
use Rattle.function_session.specs.Sessions.{Session}
use Rattle.elim.specs.elim_program.Blocks.{Makes}
use Rattle.elim.specs.elim_program.Outputs.{block, declared_block, declared_name}
use Rattle.elim.specs.elim_program.Verifies.{after_entry, entry_block}
use Rattle.elim.specs.program_texts.Refusals.{refusal_line, refused_lines}
use Rattle.elim.specs.declared.elim_program.block.Block as code
use Rattle.elim.specs.declared.program_texts.status.Status.{Status}
use Rattle.elim.specs.declared.program_texts.status.Status.TheVariants.{NoMemory}

no_ok : (b : code.Block) → ◌≡◌ {A = Result code.Block Status} (Ok b) (Err NoMemory) → ⊥
no_ok b e = cc

pub made_refused : (S : Signature) (d : surf.Decl) (r : Refusal) (result : Result code.Block Status) (meant : Result Elaborated Refusal) (name : List ℕ) → name ≡ declared_name d
    → Makes result (block (refused_lines name r) true) → (IsUnforeseen r → result ≡ Err NoMemory) → Unless (IsUnforeseen r) (Err r ≡ meant)
    → Makes result (declared_block S d meant)
made_refused S d r (Err e) meant name same made memory answer = made
made_refused S d r (Ok b) meant name same made memory answer =
    let is : Err r ≡ meant = answer (λ u. no_ok b (memory u)) in
    subst (λ m. Makes (Ok b) (declared_block S d m)) is (subst (λ n. Makes (Ok b) (block (refused_lines n r) true)) same made)

pub after_refused : (s t : Session) (d : surf.Decl) (r : Refusal) (result : Result code.Block Status) (meant : Result Elaborated Refusal) → t ≡ s → (IsUnforeseen r → result ≡ Err NoMemory)
    → Unless (IsUnforeseen r) (Err r ≡ meant) → OnOk result (t ≡ session_after s d meant)
after_refused s t d r (Err e) meant same memory answer = tt
after_refused s t d r (Ok b) meant same memory answer =
    let is : Err r ≡ meant = answer (λ u. no_ok b (memory u)) in same ∙ ap (session_after s d) is

-- ---- entries of a core file

pub made_refusal : (r : Refusal) (result : Result code.Block Status) (meant : Result Entered Refusal) (name : List ℕ)
    → Makes result (block (refusal_line name r ∷ []) true) → (IsUnforeseen r → result ≡ Err NoMemory) → Unless (IsUnforeseen r) (Err r ≡ meant)
    → Makes result (entry_block name meant)
made_refusal r (Err e) meant name made memory answer = made
made_refusal r (Ok b) meant name made memory answer =
    let is : Err r ≡ meant = answer (λ u. no_ok b (memory u)) in subst (λ m. Makes (Ok b) (entry_block name m)) is made

pub after_refusal : (S T : Signature) (r : Refusal) (result : Result code.Block Status) (meant : Result Entered Refusal) → T ≡ S
    → (IsUnforeseen r → result ≡ Err NoMemory) → Unless (IsUnforeseen r) (Err r ≡ meant) → OnOk result (T ≡ after_entry S meant)
after_refusal S T r (Err e) meant same memory answer = tt
after_refusal S T r (Ok b) meant same memory answer =
    let is : Err r ≡ meant = answer (λ u. no_ok b (memory u)) in same ∙ ap (after_entry S) is
