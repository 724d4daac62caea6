-- Answers for instances whose levels fit, or do not, or whose type is too high.
use Rattle.std.proofs.Common.{◌≡◌, ◌≢◌, ℕ, ◌<◌, Bool, true, false, cond, nat_le, Result, Ok, Err, IsErrAnd, [], refl, sym, ap, ◌∙◌, subst as transport, arith}
use Rattle.std.proofs.lemmas.Bool.Decides.{nat_tests}
use Rattle.theory.specs.Terms.{Term, height}
use Rattle.theory.specs.Signatures.{Entry, Signature}
use Rattle.core_terms.specs.Answers.{bounded, and_next}
use Rattle.core_terms.specs.declared.stop.Stop as stop
use Rattle.core_terms.specs.declared.stop.Stop.TheVariants.{Memory, Deep}
use Rattle.family_check.specs.Entering.{entered, entered_at, enter_instance}
use Rattle.family_check.specs.Meanings.{Yields, stop_of}
use Rattle.family_check.specs.Outcomes.{OfType, Stopped, ended}
use Rattle.family_check.specs.declared.stop.FamilyStop.{FamilyStop}
use Rattle.family_check.specs.declared.stop.FamilyStop.TheVariants.{Stop}
use Rattle.family_check.proofs.Lowness.{sort-deep}

-- the levels fit
pub fits-yields : (S T : Signature) (e : Entry) (fits : Bool) (type : Term) (r : Result ℕ FamilyStop) (left l : ℕ) → fits ≡ true
    → Yields (entered_at T) r left (enter_instance S e true type l) → Yields (entered_at T) r left (enter_instance S e fits type l)
fits-yields S T e fits type r left l is h = transport (λ b. Yields (entered_at T) r left (enter_instance S e b type l)) (sym is) h

deep-instance : (S : Signature) (e : Entry) (type : Term) (l : ℕ) → 2000 < height type → enter_instance S e true type l ≡ ended (Err (Stopped Deep)) l
deep-instance S e type l high = ap (λ x. and_next x (λ sort end. ended (Ok (entered S e)) end)) (sort-deep S OfType [] type l high)

abbrev same_answer : Result Term stop.Stop → Result Term stop.Stop → Type 0
same_answer r s = r ≡ s

-- the type is higher than 2,000
high : (S T : Signature) (entry : Entry) (fits : Bool) (type : Term) (e : stop.Stop) (s : FamilyStop) (l : ℕ) → fits ≡ true → s ≡ Stop e
    → (e ≢ Memory → Err e ≡ bounded type) → Yields (entered_at T) (Err s) l (enter_instance S entry fits type l)
high S T entry fits type e s l is at why =
    fits-yields S T entry fits type (Err s) l l is
    (λ q. by_case (nat_le (height type) 2000) refl (why (λ m. q (at ∙ ap Stop m))))
  where
    by_case : (b : Bool) → nat_le (height type) 2000 ≡ b → same_answer (Err e) (cond b (Ok type) (Err Deep)) → ended (Err (stop_of s)) l ≡ enter_instance S entry true type l
    by_case true test h = absurd (let f : same_answer (Err e) (Ok type) = h in cc)
    by_case false test h =
        let f : same_answer (Err e) (Err Deep) = h in
        let deep : e ≡ Deep = cc in
        ap (λ x. ended (Err (stop_of x)) l) (at ∙ ap Stop deep)
        ∙ sym (deep-instance S entry type l (grind (arith, nat_tests)))

pub high_yields : (S T : Signature) (entry : Entry) (fits : Bool) (type : Term) (e : stop.Stop) (r : Result ℕ FamilyStop) (l : ℕ) → fits ≡ true → IsErrAnd r (λ s. s ≡ Stop e)
    → (e ≢ Memory → Err e ≡ bounded type) → Yields (entered_at T) r l (enter_instance S entry fits type l)
high_yields S T entry fits type e (Ok n) l is at why = absurd at
high_yields S T entry fits type e (Err s) l is at why = high S T entry fits type e s l is at why

-- a term that was made is the one that is meant
pub made-is : (t u : Term) → same_answer (Ok t) (bounded u) → t ≡ u
made-is t u h = by_case (nat_le (height u) 2000) h
  where
    by_case : (b : Bool) → same_answer (Ok t) (cond b (Ok u) (Err Deep)) → t ≡ u
    by_case true e = let f : same_answer (Ok t) (Ok u) = e in cc
    by_case false e = absurd (let f : same_answer (Ok t) (Err Deep) = e in cc)

pub given-is : (t u : Term) → same_answer (Ok t) (Ok u) → t ≡ u
given-is t u e = cc
