-- Signatures of which the same is read have the same abstractions.
use mathlib.Core.Path.{fun_ext}
use Rattle.std.proofs.Common.{◌≡◌, ℕ, Bool, false, [], ◌∷◌, Ok, refl, ap, ap₂}
use Rattle.theory.specs.Terms.{Term}
use Rattle.theory.specs.Telescopes.{Telescope}
use Rattle.theory.specs.Signatures.{Signature}
use Rattle.core_terms.specs.Answers.{Spent, and_next, is_low}
use Rattle.kernel_reduce.specs.Reduction.{answered, if_low, nesting}
use Rattle.with_abstraction.specs.Abstractions.{abstract_over_of, abstracted}
use Rattle.with_abstraction.specs.NormalForms.{NormalForms, normal_forms_of, plain_normal_of, plain_normals_of}
use Rattle.function_session.specs.plan_laws.Reading.{AreReadAlike}
use Rattle.function_session.proofs.plan_laws.SameReduction.{normal-is}

abbrev Normals : Type 0
Normals = Term → ℕ → Spent Term

module _ (S T : Signature) (alike : AreReadAlike S T) where
  plain-is : plain_normal_of S ≡ plain_normal_of T
  plain-is = ap {B = Normals} (λ (normal : Bool → ℕ → Term → ℕ → Spent Term) (t : Term) (left : ℕ). normal false nesting t left) (normal-is S T alike)

  plains-same : (types : Telescope) (left : ℕ) → plain_normals_of S types left ≡ plain_normals_of T types left
  plains-same [] left = refl
  plains-same (a ∷ types) left =
      ap₂
      (λ (normal : Normals) (more : ℕ → Spent Telescope).
      and_next (normal a left) (λ b rest. and_next (more rest) (λ others end. answered (Ok (b ∷ others)) end)))
      plain-is (fun_ext (λ n. plains-same types n))

  pub forms-same : (context : Telescope) (goal t : Term) (left : ℕ) → normal_forms_of S context goal t left ≡ normal_forms_of T context goal t left
  forms-same context goal t left =
      ap₂
      (λ (normal : Normals) (normals : ℕ → Spent Telescope).
      and_next (normal goal left) (λ G rest.
      and_next (normals rest) (λ types more.
      and_next (normal t more) (λ u end. answered (Ok (record { goal = G; types = types; scrutinee = u })) end))))
      plain-is (fun_ext (λ n. plains-same context n))

pub same-abstractions : (S T : Signature) (context : Telescope) (goal t type : Term) (left : ℕ) → AreReadAlike S T
    → abstract_over_of S context goal t type left ≡ abstract_over_of T context goal t type left
same-abstractions S T context goal t type left alike =
    ap (λ (forms : Spent NormalForms). and_next forms (λ m rest. if_low (is_low type) (answered (Ok (abstracted m type))) rest))
    (forms-same S T alike context goal t left)
