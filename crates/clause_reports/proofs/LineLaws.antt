-- The laws of reports follow from the statement of each line.
use Rattle.std.proofs.Common.{◌≡◌, ◌↔◌, subst as transport, refl, ℕ, Bool, true, false, cond, Result, Ok, Err, IfOk, arith}
use Rattle.theory.specs.Signatures.{Signature}
use Rattle.core_terms.proofs.Answers.{Answers}
use Rattle.tree_translation.specs.Plans.{Plan}
use Rattle.clause_reports.specs.Equations.{part_at, pats_of}
use Rattle.clause_reports.specs.Laws.{AbsurdIsAbsurd, DefinitionalConverts, ProvedHasType, ShadowedMatches}
use Rattle.clause_reports.specs.Reports.{Absurd, Reported, reported, Reference, some_absurd, equation_report, report_of}
use Rattle.clause_reports.specs.Stops.{answers}
use Rattle.clause_reports.proofs.Keeping.{weaker}
use Rattle.clause_reports.proofs.Lines.{Says, Said, report-says}

pub definitional-converts : DefinitionalConverts
definitional-converts before S plan c left entered reference =
    weaker (Said S plan c) _ (report_of S plan c left).0 (λ r said is.
    let h = transport (Says S plan c r.signature) is said in
    (h.0.equation, h.0.is, h.0.converts, h.1)) (report-says S plan c left)

pub proved-has_type : ProvedHasType
proved-has_type before S plan c left entered reference =
    weaker (Said S plan c) _ (report_of S plan c left).0 (λ r said n is over.
    let h = transport (Says S plan c r.signature) is said in
    (h.equation, h.body, h.is, h.entry (over h.equation h.is), h.grows.prefix, h.grows.keeps)) (report-says S plan c left)

pub shadowed-matches : ShadowedMatches
shadowed-matches before S plan c left entered reference =
    weaker (Said S plan c) _ (report_of S plan c left).0 (λ r said earlier context vector leaves is.
    let h = transport (Says S plan c r.signature) is said in
    (h.before, h.own, h.other, h.shown, h.converts, h.same)) (report-says S plan c left)

-- a clause with `( )` has the line Absurd
pub absurd-line : (S : Signature) (plan : Plan) (c : Reference) (left : ℕ)
    → Answers (λ r. some_absurd (pats_of (part_at plan c.part) c.clause) ≡ true → r.line ≡ Absurd) (report_of S plan c left)
absurd-line S plan c left = by (some_absurd (pats_of (part_at plan c.part) c.clause))
  where
    never : {E : Type 0} (r : Result Reported E) → IfOk r (λ x. false ≡ true → x.line ≡ Absurd)
    never (Ok x) = λ no. absurd (grind arith)
    never (Err e) = tt

    by : (b : Bool) → Answers (λ r. b ≡ true → r.line ≡ Absurd) (cond b (answers (Ok (reported S Absurd)) left) (equation_report S plan c left))
    by true = λ yes. refl
    by false = never (equation_report S plan c left).0

pub absurd-is_absurd : AbsurdIsAbsurd
absurd-is_absurd before S plan c left entered reference =
    joined (report_of S plan c left).0 (report-says S plan c left) (absurd-line S plan c left)
  where
    joined : {E : Type 0} (r : Result Reported E) → IfOk r (Said S plan c)
        → IfOk r (λ x. some_absurd (pats_of (part_at plan c.part) c.clause) ≡ true → x.line ≡ Absurd)
        → IfOk r (λ x. (x.line ≡ Absurd) ↔ (some_absurd (pats_of (part_at plan c.part) c.clause) ≡ true))
    joined (Ok x) said line = ((λ is. transport (Says S plan c x.signature) is said), line)
    joined (Err e) said line = tt
