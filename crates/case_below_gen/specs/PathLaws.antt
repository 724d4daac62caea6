-- Where whole paths lead: the component of `D!all.m` at a term for a strict part of it.
use Rattle.std.specs.Prelude.{◌≡◌, Some, ℕ, ◌⊎◌, List, [], ◌∷◌, ◌++◌, map, length, take, slice_get}
use Rattle.theory.specs.Terms.{Term, App, Const, Con}
use Rattle.theory.specs.Substitutions.{inst, fill}
use Rattle.theory.specs.Telescopes.{Telescope, applied}
use Rattle.theory.specs.Spines.{head_of, spine_of}
use Rattle.theory.specs.Families.{Recursive, Constructor, Family}
use Rattle.theory.specs.Eliminators.{no_variable}
use Rattle.theory.specs.Signatures.{Signature}
use Rattle.theory.specs.Conversion.{Converts}
use Rattle.core_sig.specs.FamilyShapes.{family_shape}
use Rattle.case_below_gen.specs.declared.sides.Side.TheVariants.{First, Second}
use Rattle.case_below_gen.specs.CourseEntries.{course_of}
use Rattle.case_below_gen.specs.CourseLaws.{HasBody, HasCourse}
use Rattle.case_below_gen.specs.Paths.{path_of}
use Rattle.case_below_gen.specs.Projections.{side_entry_term}
use Rattle.case_below_gen.specs.StrictParts.{IsStrictPart}

-- t is a constructor with the parameters ps, and r is a recursive argument of it, after the arguments `before`
pub record IsArgumentAt (n : ℕ) (f : Family) (ps : List Term) (t r : Term) (inner : Telescope) (targets before : List Term) : Type 0 where
  pub number : ℕ
  pub constructor : Constructor
  pub us : List Term
  pub at : ℕ
  pub level : ℕ
  pub form : t ≡ applied (Con n number) (ps ++ us)
  pub known : slice_get f.constructors number ≡ Some constructor
  pub arguments : length us ≡ length constructor.arguments
  pub kind : slice_get constructor.arguments at ≡ Some (Recursive inner targets level)
  pub argument : slice_get us at ≡ Some r
  pub place : before ≡ take at us

-- t has a strict part with the targets js
pub data HasPartWith (n : ℕ) (f : Family) (ps : List Term) (part : Term) (js : List Term) : Term → Type 0 where
  itself : {t r : Term} {inner : Telescope} {targets before : List Term} (ts : List Term) → IsArgumentAt n f ps t r inner targets before → length ts ≡ length inner
      → part ≡ applied r ts → js ≡ map (inst (fill no_variable (ps ++ (before ++ ts)))) targets → HasPartWith n f ps part js t
  inside : {t r : Term} {targets before : List Term} → IsArgumentAt n f ps t r [] targets before → HasPartWith n f ps part js r → HasPartWith n f ps part js t

-- the constructors in t, and in its strict parts, have the parameters ps
abbrev pub HaveParameters : (n : ℕ) (f : Family) (ps : List Term) (t : Term) → Type 0
HaveParameters n f ps t = (u : Term) (number : ℕ) → (u ≡ t) ⊎ IsStrictPart n f u t → head_of u ≡ Con n number → take (length f.parameters) (spine_of u) ≡ ps

-- The path to a strict part in `D!all.m` at a term converts to `D!rec.m` at the part: this is what makes a recursive clause hold by
-- conversion.
abbrev pub PathComputes : Type 0
PathComputes =
    (S : Signature) (n : ℕ) (f : Family) (m below aux rec all : ℕ) → HasCourse S n f m below aux
    → HasBody S rec (side_entry_term First n (family_shape n f) (course_of (family_shape n f) m below) aux)
    → HasBody S all (side_entry_term Second n (family_shape n f) (course_of (family_shape n f) m below) aux)
    → (ps : List Term) (P s : Term) → length ps ≡ length f.parameters → (part t b : Term) (is : List Term) → length is ≡ length f.indices
    → HaveParameters n f ps t → IsStrictPart n f part t → Converts S b (App (applied (Const all) (ps ++ P ∷ s ∷ is)) t)
    → (js : List Term) × HasPartWith n f ps part js t
    × Converts S (path_of (record { family = n; shape = family_shape n f; m = m; below = below; motive = P; part = part }) t b) (App (applied (Const rec) (ps ++ P ∷ s ∷ js)) part)
