-- Splitting a variable: the problem of each constructor of its family.
use Rattle.std.specs.Prelude.{ℕ, ◌+◌, ◌-◌, ◌==◌, cond, Option, Some, None, option_and_then, List, [], ◌∷◌, ◌++◌, length, map, take, drop}
use Rattle.theory.specs.Terms.{Term, Var, Fam, lift}
use Rattle.theory.specs.Spines.{head_of, spine_of}
use Rattle.theory.specs.Telescopes.{Telescope}
use Rattle.theory.specs.Families.{Family, Constructor}
use Rattle.theory.specs.Signatures.{Signature}
use Rattle.kernel_reduce.specs.Entries.{family_at}
use Rattle.tele_eq.specs.Items.{term_at}
use Rattle.unification.specs.States.{Problem}
use Rattle.unification.specs.Injecting.{lifted}
use Rattle.unification.specs.Records.{argument_items, family_items, constructor_terms}

-- a family with all its parameters and indices
pub record Member : Type 0 where
  pub n : ℕ
  pub family : Family
  pub parameters : List Term
  pub indices : List Term

abbrev pub member_with : (n : ℕ) → (spine : List Term) → Family → Option Member
member_with n spine f =
    let count = length f.parameters in
    cond (length spine == count + length f.indices)
    (Some (record { n = n; family = f; parameters = take count spine; indices = drop count spine }))
    None

abbrev pub member_at : Signature → Term → List Term → Option Member
member_at S (Fam n) spine = option_and_then (member_with n spine) (family_at S n)
member_at S h spine = None

-- a type as a family with all its parameters and indices
abbrev pub member_of : Signature → Term → Option Member
member_of S t = member_at S (head_of t) (spine_of t)

-- the type of variable x, in the context itself
abbrev pub type_of_variable : Telescope → (x : ℕ) → Term
type_of_variable context x = lift (term_at context (length context - (x + 1))) (x + 1) 0

-- The problem of constructor `number` for variable x of the type D ps is, in the context after which the constructor's arguments
-- Ac are: us_c, c ps Ac and is, x in the telescope I, D ps I.
abbrev pub problem_of : Telescope → (x : ℕ) → Member → (number : ℕ) → Constructor → Problem
problem_of context x m number c =
    let count = length c.arguments in
    record {
      context = context ++ map (λ item. item.type) (argument_items m.n m.parameters c);
      telescope = family_items m.n m.family (lifted count m.parameters);
      left = constructor_terms m.n number m.parameters c;
      right = lifted count m.indices ++ Var (x + count) ∷ [];
    }
