-- The families of the prelude: Empty, and for each level i Eq.i, Unit.i and Pair.i.
use Rattle.std.specs.Prelude.{ℕ, ◌+◌, ◌/◌, ◌%◌, nat_lt, cond, List, [], ◌∷◌, ◌++◌, codes}
use Rattle.theory.specs.Terms.{Var, Sort}
use Rattle.theory.specs.Families.{Family, Plain}

-- a level below 100 in decimal
abbrev pub level_text : ℕ → List ℕ
level_text i = cond (nat_lt i 10) ((48 + i) ∷ []) ((48 + i / 10) ∷ (48 + i % 10) ∷ [])

abbrev pub empty_family : Family
empty_family = record { name = codes "Empty"; parameters = []; indices = []; level = 0; constructors = [] }

-- Eq.i (A : Type i) (a : A) : A -> Type i, with refl.i : Eq.i A a a
abbrev pub equality_family : ℕ → Family
equality_family i = record {
  name = codes "Eq." ++ level_text i;
  parameters = Sort i ∷ Var 0 ∷ [];
  indices = (Var 1, i) ∷ [];
  level = i;
  constructors = record { name = codes "refl." ++ level_text i; arguments = []; targets = Var 0 ∷ [] } ∷ [];
}

-- Unit.i : Type i, with unit.i : Unit.i
abbrev pub unit_family : ℕ → Family
unit_family i = record {
  name = codes "Unit." ++ level_text i;
  parameters = [];
  indices = [];
  level = i;
  constructors = record { name = codes "unit." ++ level_text i; arguments = []; targets = [] } ∷ [];
}

-- Pair.i (A B : Type i) : Type i, with pair.i : A -> B -> Pair.i A B
abbrev pub pair_family : ℕ → Family
pair_family i = record {
  name = codes "Pair." ++ level_text i;
  parameters = Sort i ∷ Sort i ∷ [];
  indices = [];
  level = i;
  constructors =
      record { name = codes "pair." ++ level_text i; arguments = Plain (Var 1) i ∷ Plain (Var 1) i ∷ []; targets = [] } ∷ [];
}
