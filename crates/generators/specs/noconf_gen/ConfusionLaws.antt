-- No confusion of two constructors: `D!nct.c.m` computes.
use Rattle.std.specs.Prelude.{◌≡◌, ◌≢◌, Some, ℕ, ◌+◌, List, ◌∷◌, ◌++◌, length, slice_get}
use Rattle.theory.specs.Terms.{Term, Const, Con}
use Rattle.theory.specs.Substitutions.{inst, fill}
use Rattle.theory.specs.Telescopes.{applied}
use Rattle.theory.specs.Families.{Constructor, Family}
use Rattle.theory.specs.Eliminators.{no_variable}
use Rattle.theory.specs.Signatures.{Signature, FamilyOf, IsEntryAt, HasClosedBodies}
use Rattle.theory.specs.Conversion.{Converts}
use Rattle.core_sig.specs.FamilyShapes.{constructor_shape, family_shape}
use Rattle.case_below_gen.specs.CaseEntries.{case_term}
use Rattle.case_below_gen.specs.CourseLaws.{HasBody}
use Rattle.generators.specs.noconf_gen.Compared.{constructed}
use Rattle.generators.specs.noconf_gen.NoConfusionTypes.{nct_term, injection_type, conflict_type, confusion_level}

-- the signature has family number n, `D!case.(j+1)` as a constant, and `D!nct.c.m` for constructor c, which mentions it
pub record HasConfusion (S : Signature) (n : ℕ) (f : Family) (number : ℕ) (c : Constructor) (m analysis nct : ℕ) : Type 0 where
  pub bodies : HasClosedBodies S
  pub family : IsEntryAt S n (FamilyOf f)
  pub cases : HasBody S analysis (case_term n (family_shape n f) (confusion_level (family_shape n f) m + 1))
  pub confusion : HasBody S nct (nct_term n (family_shape n f) number (constructor_shape n f c) m (confusion_level (family_shape n f) m) analysis)

-- Terms for `D!nct.c.m`: parameters ps, arguments ss of c, indices is, constructor `at` with parameters qs and arguments us, and
-- equations es.
pub record AreCompared (f : Family) (c : Constructor) (at : ℕ) (d : Constructor) (ps ss is qs us es : List Term) : Type 0 where
  pub constructor : slice_get f.constructors at ≡ Some d
  pub parameters : length ps ≡ length f.parameters
  pub first : length ss ≡ length c.arguments
  pub indices : length is ≡ length f.indices
  pub constructor_parameters : length qs ≡ length f.parameters
  pub second : length us ≡ length d.arguments
  pub equations : length es ≡ length f.indices + 1

-- D!nct.c.m ps ss is (d qs us) es
abbrev pub confusion_at : (n at nct : ℕ) (ps ss is qs us es : List Term) → Term
confusion_at n at nct ps ss is qs us es = applied (Const nct) (ps ++ (ss ++ (is ++ applied (Con n at) (qs ++ us) ∷ es)))

-- a term over all these, with them put for its variables
abbrev pub put_for_all : (n at : ℕ) (ps ss is qs us es : List Term) → Term → Term
put_for_all n at ps ss is qs us es t = inst (fill no_variable (ps ++ (ss ++ (is ++ applied (Con n at) (qs ++ us) ∷ (us ++ es))))) t

-- the level after the parameters, the arguments of c, the indices and the other term
abbrev pub level_of_second : (n : ℕ) (f : Family) → Constructor → ℕ
level_of_second n f c = length f.parameters + length (constructor_shape n f c).arguments + length (family_shape n f).indices + 1

-- at two applications of c: (Q : eqs -> Type m) -> ((es : eqs(Ac; s; t)) -> Q congs(es)) -> Q E
abbrev pub InjectionComputes : Type 0
InjectionComputes =
    (S : Signature) (n : ℕ) (f : Family) (number : ℕ) (c : Constructor) (m analysis nct : ℕ) → HasConfusion S n f number c m analysis nct
    → (ps ss is qs us es : List Term) → AreCompared f c number c ps ss is qs us es
    → let second = level_of_second n f c in
    let start = second + length (constructor_shape n f c).arguments in
    Converts S (confusion_at n number nct ps ss is qs us es)
    (put_for_all n number ps ss is qs us es
    (injection_type n (family_shape n f) number (constructor_shape n f c) (length f.parameters) second m start (start + length (family_shape n f).indices + 1)))

-- at an application of another constructor: (Q : eqs -> Type m) -> Q E, for every motive
abbrev pub ConflictComputes : Type 0
ConflictComputes =
    (S : Signature) (n : ℕ) (f : Family) (number : ℕ) (c : Constructor) (m analysis nct : ℕ) → HasConfusion S n f number c m analysis nct
    → (at : ℕ) (d : Constructor) (ps ss is qs us es : List Term) → AreCompared f c at d ps ss is qs us es → at ≢ number
    → let p = length f.parameters in
    let k = length (family_shape n f).indices in
    let second = level_of_second n f c in
    let start = second + length (constructor_shape n f d).arguments in
    Converts S (confusion_at n at nct ps ss is qs us es)
    (put_for_all n at ps ss is qs us es
    (conflict_type n (family_shape n f) (constructed n p k number p (constructor_shape n f c)) (constructed n p k at second (constructor_shape n f d)) m start (start + k + 1)))
