-- The verdicts that answers over a store stand for.
use Rattle.std.specs.Prelude.{◌≡◌, Bool, true, false, IsTrue, Result, Ok, Err}
use Rattle.theory.specs.Terms.{Term, Pi}
use Rattle.core_terms.specs.Answers.{Unless}
use Rattle.core_terms.specs.Meanings.{denial_of}
use Rattle.core_terms.specs.Verdicts.{Reason, Mismatch, NotAProduct, NotASort, NoSuchInstance, LevelTooHigh, Verdict, Yes, No}
use Rattle.core_terms.specs.declared.stop.Stop.{Stop}
use Rattle.core_terms.specs.declared.stop.Stop.TheVariants.{Memory, PoolFull}
use Rattle.term_pool.specs.Held.{Held}
use Rattle.kernel_check.specs.declared.verdict.ReasonIn.{ReasonIn}
use Rattle.kernel_check.specs.declared.verdict.ReasonIn.TheVariants as code
use Rattle.kernel_check.specs.declared.verdict.VerdictIn.{VerdictIn}
use Rattle.kernel_check.specs.declared.verdict.VerdictIn.TheVariants as in_store

-- the answer is `meant` by way of `f`, unless memory ran out or the store has no room
abbrev pub AnswersIn : {A B : Type 0} → (A → B) → Result A Stop → Result B Stop → Type 0
AnswersIn f (Ok a) meant = Ok (f a) ≡ meant
AnswersIn f (Err e) meant = Unless (e ≡ Memory) (Unless (e ≡ PoolFull) (Err e ≡ meant))

abbrev pub is_product : Term → Bool
is_product (Pi a b) = true
is_product _ = false

module _ {I : Type 0} where
  abbrev pub verdict_in : (I → Term) → VerdictIn I → Verdict
  verdict_in tree (in_store.Yes id) = Yes (tree id)
  verdict_in tree (in_store.No denial) = No (denial_of denial)

  abbrev pub reason_in : (I → Term) → ReasonIn I → Reason
  reason_in tree (code.Mismatch found wanted) = Mismatch (tree found) (tree wanted)
  reason_in tree (code.NotAProduct found) = NotAProduct (tree found)
  reason_in tree (code.NotASort found) = NotASort (tree found)
  reason_in tree code.NoSuchInstance = NoSuchInstance
  reason_in tree code.LevelTooHigh = LevelTooHigh

  -- the ids of a reason are live
  abbrev pub IsLiveReason : Held I → ReasonIn I → Type 0
  IsLiveReason held (code.Mismatch found wanted) = IsTrue (held.live found) × IsTrue (held.live wanted)
  IsLiveReason held (code.NotAProduct found) = IsTrue (held.live found)
  IsLiveReason held (code.NotASort found) = IsTrue (held.live found)
  IsLiveReason held _ = Unit {0}

  -- the type that is answered is live
  abbrev pub IsLiveVerdict : Held I → VerdictIn I → Type 0
  IsLiveVerdict held (in_store.Yes id) = IsTrue (held.live id)
  IsLiveVerdict held (in_store.No denial) = Unit {0}
