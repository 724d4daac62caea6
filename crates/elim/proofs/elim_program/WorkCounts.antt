-- The mode `work` counts the clauses of the lines that `compile` writes.
use Rattle.std.proofs.Common.{ℕ, true, false, List, [], ◌∷◌, Result, Ok, Err, refl, sym, ap, ◌∙◌, append_assoc}
use Rattle.theory.specs.Signatures.{Signature}
use Rattle.elab_session.specs.declared.refusal.Refusal.{Refusal}
use Rattle.function_session.specs.Declaring.{declared_in, session_after, with_declared}
use Rattle.function_session.specs.Elaborating.{Elaborated}
use Rattle.function_session.specs.Sessions.{Session}
use Rattle.elim.specs.declared.elim_program.counts.Counts.{Counts}
use Rattle.elim.specs.elim_program.Outputs.{Block, accepted_lines, block, declarations, declared_block, followed}
use Rattle.elim.specs.elim_program.WorkLaws.{IsCountOf, Accepting, WorkCountsOutput, on_accepting, acceptings}
use Rattle.elim.specs.elim_program.Works.{on_worked, with_accepted, worked}

-- one declaration more, where those after it are counted
count_more : (S : Signature) (a : Elaborated) (c : Counts) (all : List Accepting) (written : Block) (r : Result Counts (List (List ℕ))) → IsCountOf (with_accepted c a) all written r
    → IsCountOf c ((S, a) ∷ all) (followed (block (accepted_lines S a) false) written) r
count_more S a c all written (Ok n) h = (ap (λ b. followed (block (accepted_lines S a) false) b) h.0, h.1)
count_more S a c all written (Err lines) h =
    ap (λ b. followed (block (accepted_lines S a) false) b) h
    ∙ ap (λ ls. block ls true) (sym (append_assoc (accepted_lines S a) _ lines))

pub work_counts_output : WorkCountsOutput
work_counts_output s [] c = (refl, refl)
work_counts_output s (d ∷ ds) c = by (λ t more. work_counts_output t ds more) (declared_in s d)
  where
    by : ((t : Session) (more : Counts) → IsCountOf more (acceptings t ds) (declarations t ds) (worked t ds more)) → (r : Result Elaborated Refusal)
        → IsCountOf c (on_accepting s.signature r (λ T. acceptings (with_declared s d T) ds)) (followed (declared_block s.signature d r) (declarations (session_after s d r) ds)) (on_worked d r (λ a. worked (with_declared s d a.signature) ds (with_accepted c a)))
    by rec (Ok a) =
        let t = with_declared s d a.signature in
        count_more s.signature a c (acceptings t ds) (declarations t ds) (worked t ds (with_accepted c a)) (rec t (with_accepted c a))
    by rec (Err e) = refl
