-- Lines and counts of a session that begins with the prelude.
use Rattle.std.proofs.Common.{◌≡◌, ℕ, List, Result, Ok, Err, Bool, sym, ap, subst, ◌∙◌}
use Rattle.surface_syntax.specs.Trees.{Decl}
use Rattle.function_session.specs.Declaring.{new_session}
use Rattle.function_session.specs.Sessions.{Session}
use Rattle.elim.specs.program_texts.Texts.{Answer}
use Rattle.elim.specs.declared.program_texts.status.Status.{Status}
use Rattle.elim.specs.declared.program_texts.words.Command.{Command}
use Rattle.elim.specs.elim_program.Blocks.{Makes, shown_block, text_of_block}
use Rattle.elim.specs.elim_program.Counting.{Refuses}
use Rattle.elim.specs.elim_program.Outputs.{declarations, text_block}
use Rattle.elim.specs.elim_program.Runs.{Written}
use Rattle.elim.specs.elim_program.Works.{worked, worked_block}
use Rattle.elim.specs.declared.elim_program.block.Block as code
use Rattle.elim.specs.declared.elim_program.counts.Counts.{Counts}

pub written-in-new : (command : Command) (ds : List Decl) (answer : Answer) (s : Session) (result : Result Bool Status) (text : List ℕ) → answer ≡ Ok ds
    → s ≡ new_session command.k command.fuel → Written result (declarations s ds) text → Written result (text_block command answer) text
written-in-new command ds answer s result text e is w =
    subst (λ a. Written result (text_block command a) text) (sym e) (subst (λ t. Written result (declarations t ds) text) is w)

pub counted-in-new : (n : ℕ) (s t : Session) (ds : List Decl) (start counts : Counts) (result : Result code.Block Status) → s ≡ t → Ok counts ≡ worked s ds start
    → Makes result (worked_block n (Ok counts)) → Makes result (worked_block n (worked t ds start))
counted-in-new n s t ds start counts result is counted m =
    subst (λ r. Makes result (worked_block n r)) (counted ∙ ap (λ x. worked x ds start) is) m

refuses-shows : (n : ℕ) (b : code.Block) (r : Result Counts (List (List ℕ))) → Refuses b r → text_of_block b ≡ shown_block (worked_block n r)
refuses-shows n b (Ok c) h = absurd h
refuses-shows n b (Err lines) h = h

pub refused-in-new : (n : ℕ) (s t : Session) (ds : List Decl) (start : Counts) (b : code.Block) → s ≡ t → Refuses b (worked s ds start)
    → text_of_block b ≡ shown_block (worked_block n (worked t ds start))
refused-in-new n s t ds start b is h = refuses-shows n b (worked t ds start) (subst (Refuses b) (ap (λ x. worked x ds start) is) h)
