-- The goal, the types of the context and the scrutinee of an abstraction, in plain normal form: constants stay as they are. Units are
-- counted in the order in which the terms are here: the goal, the types of the context from the outermost on, the scrutinee.
use Rattle.std.specs.Prelude.{ℕ, false, [], ◌∷◌, Ok}
use Rattle.theory.specs.Terms.{Term}
use Rattle.theory.specs.Telescopes.{Telescope}
use Rattle.theory.specs.Signatures.{Signature}
use Rattle.core_terms.specs.Answers.{Spent, and_next}
use Rattle.kernel_reduce.specs.Reduction.{answered, nesting, normal_of}

-- the plain normal form of a term
abbrev pub plain_normal_of : Signature → Term → ℕ → Spent Term
plain_normal_of S t left = normal_of S false nesting t left

-- the plain normal forms of types, one after the other
abbrev pub plain_normals_of : Signature → Telescope → ℕ → Spent Telescope
plain_normals_of S [] left = answered (Ok []) left
plain_normals_of S (a ∷ types) left =
    and_next (plain_normal_of S a left) (λ b rest.
    and_next (plain_normals_of S types rest) (λ others end. answered (Ok (b ∷ others)) end))

-- the goal, the types of a context and the scrutinee, all over that context
pub record NormalForms : Type 0 where
  pub goal : Term
  pub types : Telescope
  pub scrutinee : Term

abbrev pub normal_forms_of : Signature → (context : Telescope) (goal t : Term) → ℕ → Spent NormalForms
normal_forms_of S context goal t left =
    and_next (plain_normal_of S goal left) (λ G rest.
    and_next (plain_normals_of S context rest) (λ types more.
    and_next (plain_normal_of S t more) (λ u end. answered (Ok (record { goal = G; types = types; scrutinee = u })) end)))
