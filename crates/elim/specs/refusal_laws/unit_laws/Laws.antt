-- An answer of the kernel, unless it is out of units, is the same with more units, and the further units are left.
use Rattle.std.specs.Prelude.{ℕ, Bool, List}
use Rattle.theory.specs.Terms.{Term}
use Rattle.theory.specs.Telescopes.{Context}
use Rattle.theory.specs.Families.{Family}
use Rattle.theory.specs.Signatures.{Signature}
use Rattle.core_sig.specs.Raw.{RawFamily}
use Rattle.kernel_reduce.specs.Reduction.{head_step_of, whnf_of, normal_of}
use Rattle.kernel_reduce.specs.Comparison.{convertible_of, subtype_of}
use Rattle.kernel_reduce.specs.Tidying.{tidy_of}
use Rattle.kernel_check.specs.Checking.{infer_of, infer_sort_of, check_of}
use Rattle.family_check.specs.Entering.{declare_of, instance_of, axiom_k_of, define_of}
use Rattle.elim.specs.refusal_laws.unit_laws.Steady.{IsFuel, IsFamilyFuel, IsSteady}

-- Reduction and comparison.

abbrev pub HeadStepSteady : Type 0
HeadStepSteady = (S : Signature) (delta : Bool) (t : Term) → IsSteady IsFuel (head_step_of S delta t)

abbrev pub WhnfSteady : Type 0
WhnfSteady = (S : Signature) (delta : Bool) (t : Term) → IsSteady IsFuel (λ left. whnf_of S delta left t)

abbrev pub TidySteady : Type 0
TidySteady = (S : Signature) (t : Term) → IsSteady IsFuel (λ left. tidy_of S left t)

abbrev pub NormalSteady : Type 0
NormalSteady = (S : Signature) (delta : Bool) (room : ℕ) (t : Term) → IsSteady IsFuel (normal_of S delta room t)

abbrev pub ConvertibleSteady : Type 0
ConvertibleSteady = (S : Signature) (room : ℕ) (a b : Term) → IsSteady IsFuel (convertible_of S room a b)

abbrev pub SubtypeSteady : Type 0
SubtypeSteady = (S : Signature) (room : ℕ) (a b : Term) → IsSteady IsFuel (subtype_of S room a b)

-- The checker.

abbrev pub InferSteady : Type 0
InferSteady = (S : Signature) (room : ℕ) (G : Context) (t : Term) → IsSteady IsFuel (infer_of S room G t)

abbrev pub InferSortSteady : Type 0
InferSortSteady = (S : Signature) (room : ℕ) (G : Context) (t : Term) → IsSteady IsFuel (infer_sort_of S room G t)

abbrev pub CheckSteady : Type 0
CheckSteady = (S : Signature) (room : ℕ) (G : Context) (t wanted : Term) → IsSteady IsFuel (check_of S room G t wanted)

-- Entries.

abbrev pub DeclareSteady : Type 0
DeclareSteady = (S : Signature) (raw : RawFamily) → IsSteady IsFamilyFuel (declare_of S raw)

abbrev pub InstanceSteady : Type 0
InstanceSteady = (S : Signature) (n : ℕ) (f : Family) (m : ℕ) → IsSteady IsFamilyFuel (instance_of S n f m)

abbrev pub AxiomKSteady : Type 0
AxiomKSteady = (S : Signature) (i m : ℕ) → IsSteady IsFamilyFuel (axiom_k_of S i m)

abbrev pub DefineSteady : Type 0
DefineSteady = (S : Signature) (name : List ℕ) (type body : Term) → IsSteady IsFamilyFuel (define_of S name type body)
