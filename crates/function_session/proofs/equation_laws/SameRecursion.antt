-- Recursion of a plan is the same over a signature with more entries.
use Rattle.std.proofs.Common.{◌≡◌, ℕ, zero, suc, ◌+◌, Option, Some, None, option_map, option_and_then, List, [], ◌∷◌, slice_get, refl, sym, ap, ◌∙◌, subst as transport}
use Rattle.std.proofs.lemmas.Option.{none-some}
use Rattle.theory.specs.Terms.{Term, Fam, App}
use Rattle.theory.specs.Telescopes.{Telescope}
use Rattle.theory.specs.Families.{Family}
use Rattle.theory.specs.Signatures.{Signature, FamilyOf, IsEntryAt, IsPrefix}
use Rattle.theory.specs.SignatureScopes.{HasEntries, IsScopedTelescope}
use Rattle.theory.specs.Spines.{head_of, spine_of}
use Rattle.theory.proofs.Lists.{some_is}
use Rattle.theory.proofs.Widening.{prefix_keeps}
use Rattle.kernel_reduce.specs.Entries.{family_in, family_at}
use Rattle.tree_translation.specs.structural_rec.Positions.{Admission, Admits, family_number, admission_in, admission_with, admission_of, admission}
use Rattle.tree_translation.proofs.structural_rec.AdmittingPositions.{admission-decides}
use Rattle.tree_translation.specs.Plans.{Plan, own_part}
use Rattle.tree_translation.specs.Recursion.{recursion_with, recursion_at, recursion_of}

-- a family of the shorter one is the same in both
same-family : (before S : Signature) → IsPrefix before S → (n : ℕ) (f : Family) → IsEntryAt before n (FamilyOf f) → family_at before n ≡ family_at S n
same-family before S prefix n f at =
    ap (option_and_then family_in) at ∙ sym (ap (option_and_then family_in) ((prefix_keeps prefix).entry n (FamilyOf f) at))

head-entries : (S : Signature) (t : Term) → HasEntries S t → HasEntries S (head_of t)
head-entries S (App f a) h = head-entries S f h.0
head-entries S _ h = h

head-same : (before S : Signature) → IsPrefix before S → (tele : List Term) (j : ℕ) (spine : List Term) (h : Term) → HasEntries before h
    → option_and_then (admission_in before tele j spine) (family_number h) ≡ option_and_then (admission_in S tele j spine) (family_number h)
head-same before S prefix tele j spine (Fam n) (f, at) = ap (option_and_then (admission_with tele j n spine)) (same-family before S prefix n f at)
head-same before S prefix tele j spine _ h = refl

type-same : (before S : Signature) → IsPrefix before S → (tele : List Term) (j : ℕ) (o : Option Term) → ((t : Term) → o ≡ Some t → HasEntries before t)
    → option_and_then (admission_of before tele j) o ≡ option_and_then (admission_of S tele j) o
type-same before S prefix tele j None h = refl
type-same before S prefix tele j (Some t) h = head-same before S prefix tele j (spine_of t) (head_of t) (head-entries before t (h t refl))

-- each type of a telescope names entries
pub type-entries : (S : Signature) (n : ℕ) (tele : Telescope) (j : ℕ) (t : Term) → IsScopedTelescope S n tele → slice_get tele j ≡ Some t → HasEntries S t
type-entries S n [] j t h at = absurd (none-some t at)
type-entries S n (a ∷ tele) zero t h at = transport (HasEntries S) (some_is at) h.0.entries
type-entries S n (a ∷ tele) (suc j) t h at = type-entries S (n + 1) tele j t h.1 at

admission-same : (before S : Signature) → IsPrefix before S → (tele : Telescope) (j : ℕ) → IsScopedTelescope before 0 tele
    → admission before tele j ≡ admission S tele j
admission-same before S prefix tele j h =
    type-same before S prefix tele j (slice_get tele j) (λ t at. type-entries before 0 tele j t h at)

found-same : (before S : Signature) → IsPrefix before S → (tele : Telescope) (j : ℕ) (o : Option Admission) → admission before tele j ≡ o
    → option_and_then (λ a. option_map (recursion_with j a) (family_at before a.number)) o ≡ option_and_then (λ a. option_map (recursion_with j a) (family_at S a.number)) o
found-same before S prefix tele j None at = refl
found-same before S prefix tele j (Some a) at =
    let is : Admits before tele j a = (admission-decides before tele j a).0 at in
    ap (option_map (recursion_with j a)) (same-family before S prefix a.number is.family is.known)

position-same : (before S : Signature) → IsPrefix before S → (tele : Telescope) (o : Option ℕ) → IsScopedTelescope before 0 tele
    → option_and_then (recursion_at before tele) o ≡ option_and_then (recursion_at S tele) o
position-same before S prefix tele None h = refl
position-same before S prefix tele (Some j) h =
    found-same before S prefix tele j (admission before tele j) refl
    ∙ ap (option_and_then (λ a. option_map (recursion_with j a) (family_at S a.number))) (admission-same before S prefix tele j h)

pub recursion-same : (before S : Signature) → IsPrefix before S → (plan : Plan) → IsScopedTelescope before 0 (own_part plan).tele
    → recursion_of before plan ≡ recursion_of S plan
recursion-same before S prefix plan h = position-same before S prefix (own_part plan).tele plan.position h
