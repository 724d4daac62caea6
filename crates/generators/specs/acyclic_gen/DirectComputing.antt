-- `D!direct` computes.
use Rattle.std.specs.Prelude.{ℕ, cond, List, [], ◌∷◌, ◌++◌}
use Rattle.std.specs.List.{All}
use Rattle.theory.specs.Terms.{Term, App, Const, Fam, Con}
use Rattle.theory.specs.Telescopes.{applied}
use Rattle.theory.specs.Families.{Argument, Constructor, Family}
use Rattle.theory.specs.Prelude.{unit_type}
use Rattle.theory.specs.Signatures.{Signature, FamilyOf, IsEntryAt, HasClosedBodies}
use Rattle.theory.specs.Conversion.{Converts}
use Rattle.core_sig.specs.FamilyShapes.{kind_of, family_shape}
use Rattle.case_below_gen.specs.Components.{pair_of}
use Rattle.case_below_gen.specs.CourseLaws.{IsRegular, HasBody, IsAtConstructor}
use Rattle.generators.specs.acyclic_gen.DirectEntries.{carrier_of, direct_term}
use Rattle.generators.specs.acyclic_gen.DirectLaws.{HasNoTargets}
use Rattle.generators.specs.acyclic_gen.Statements.{is_direct}

-- The signature has family number n, and `D!direct` as a constant.
pub record HasDirect (S : Signature) (n : ℕ) (f : Family) (direct : ℕ) : Type 0 where
  pub bodies : HasClosedBodies S
  pub family : IsEntryAt S n (FamilyOf f)
  pub regular : IsRegular (family_shape n f)
  pub targets : All (λ c. All HasNoTargets c.arguments) f.constructors
  pub entry : HasBody S direct (direct_term (family_shape n f) (carrier_of n (family_shape n f) direct))

-- Pair.l (Pair.l (P u) (D u)) (.. Unit.l), for each direct one u among the arguments us
abbrev pub parts_of : (level : ℕ) (P D : Term) → List Argument → (us : List Term) → Term
parts_of level P D (a ∷ arguments) (u ∷ us) =
    let others = parts_of level P D arguments us in
    cond (is_direct (kind_of a)) (pair_of level (pair_of level (App P u) (App D u)) others) others
parts_of level P D _ _ = Fam (unit_type level)

-- `D!direct` computes: D!direct p P at a constructor converts to the type of pairs of P and D!direct p P at each direct argument
abbrev pub DirectComputes : Type 0
DirectComputes =
    (S : Signature) (n : ℕ) (f : Family) (direct : ℕ) → HasDirect S n f direct
    → (number : ℕ) (c : Constructor) (ps : List Term) (P : Term) (qs us : List Term) → IsAtConstructor f number c ps [] qs us
    → Converts S (App (applied (Const direct) (ps ++ P ∷ [])) (applied (Con n number) (qs ++ us)))
    (parts_of f.level P (applied (Const direct) (ps ++ P ∷ [])) c.arguments us)
