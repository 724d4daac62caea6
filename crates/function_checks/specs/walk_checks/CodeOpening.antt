-- How a helper is opened, one call after the other, and its terms as the code makes them.
use Rattle.std.specs.Prelude.{ℕ, ◌+◌, []}
use Rattle.theory.specs.Terms.{Term, Var, Sort, Pi, Lam, App, Let, Const, Fam, Con, Elim, AxiomK}
use Rattle.theory.specs.Telescopes.{products}
use Rattle.core_terms.specs.Answers.{and_next}
use Rattle.core_terms.specs.CaseTrees.{Walk}
use Rattle.core_terms.specs.Instances.{under_binders}
use Rattle.kernel_check.specs.Checking.{infer_sort_of}
use Rattle.kernel_reduce.specs.Reduction.{nesting}
use Rattle.with_abstraction.specs.Abstractions.{Abstracted, abstract_over_of}
use Rattle.clause_reports.specs.elaboration.Refusals.{Owner, OfGoal, Elaborating, answers, halting, granted}
use Rattle.clause_reports.specs.elaboration.Walking.{Session, Opening, without_self, if_low_level, and_level, variable_in}

-- once the goal does not mention the function
abbrev pub level_asked : Session → Owner → Abstracted → (goal : Term) → ℕ → Elaborating Opening
level_asked s owner a goal left =
    and_next (granted s.signature (OfGoal owner) (infer_sort_of s.signature nesting [] (products a.telescope goal) left)) (λ sort end.
    answers (and_level a (if_low_level s.signature owner sort)) end)

-- once all is abstracted
abbrev pub goal_asked : Session → Owner → Abstracted → ℕ → Elaborating Opening
goal_asked s owner a left = and_next (answers (without_self s.own owner a.goal) left) (λ goal more. level_asked s owner a goal more)

-- once the type of the scrutinee does not mention the function
abbrev pub over_type : Session → Owner → Walk → (t type : Term) → ℕ → Elaborating Opening
over_type s owner w t type left =
    and_next (halting (abstract_over_of s.signature w.ctx w.goal t type left)) (λ a more. goal_asked s owner a more)

-- once the scrutinee has a type
abbrev pub type_asked : Session → Owner → Walk → (t type : Term) → ℕ → Elaborating Opening
type_asked s owner w t type left = and_next (answers (without_self s.own owner type) left) (λ found rest. over_type s owner w t found rest)

-- a term of a walk's context over the helper's telescope, under so many binders
abbrev pub renamed_under : Abstracted → (under : ℕ) → Term → Term
renamed_under a under (Var n) = under_binders under (variable_in a) n
renamed_under a under (Sort i) = Sort i
renamed_under a under (Pi b c) = Pi (renamed_under a under b) (renamed_under a (under + 1) c)
renamed_under a under (Lam b c) = Lam (renamed_under a under b) (renamed_under a (under + 1) c)
renamed_under a under (App f b) = App (renamed_under a under f) (renamed_under a under b)
renamed_under a under (Let b t c) = Let (renamed_under a under b) (renamed_under a under t) (renamed_under a (under + 1) c)
renamed_under a under (Const c) = Const c
renamed_under a under (Fam f) = Fam f
renamed_under a under (Con f c) = Con f c
renamed_under a under (Elim f m) = Elim f m
renamed_under a under (AxiomK i m) = AxiomK i m
