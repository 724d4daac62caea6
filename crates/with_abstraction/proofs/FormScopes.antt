-- Normal forms of scoped terms are scoped, and low; a context has as many of them as types. They give no units back.
use Rattle.std.proofs.Common.{◌≡◌, ℕ, suc, ◌+◌, ◌≤◌, false, List, [], ◌∷◌, length, Result, Ok, Err, IfOk, refl, ap, subst as transport, arith}
use Rattle.std.proofs.lemmas.List.{length-map}
use Rattle.theory.specs.Terms.{Term, height}
use Rattle.theory.specs.Telescopes.{Telescope}
use Rattle.theory.specs.Signatures.{Signature}
use Rattle.theory.specs.Conversion.{Converts}
use Rattle.theory.specs.SignatureScopes.{IsScoped, IsScopedSignature, IsScopedTelescope}
use Rattle.theory.proofs.ScopedTerms.{scoped_over_more}
use Rattle.core_terms.specs.Answers.{and_next}
use Rattle.core_terms.specs.Meanings.{tree_of, tele_of}
use Rattle.core_terms.specs.declared.term.Term as code
use Rattle.core_terms.proofs.Answers.{and_next-has, and_next-spends}
use Rattle.kernel_reduce.specs.Reduction.{answered, nesting}
use Rattle.kernel_reduce.specs.WellScoped.{AreScoped}
use Rattle.kernel_reduce.proofs.ReductionLaws.{normal-converts, normal-spends}
use Rattle.kernel_reduce.proofs.ScopedReduction.{normal-scoped}
use Rattle.with_abstraction.specs.Conditions.{IsOver, AreTypesOver, AreFormsOver}
use Rattle.with_abstraction.specs.NormalForms.{NormalForms, plain_normal_of, plain_normals_of, normal_forms_of}

-- a term over n variables that is not too high
pub record IsFitting (S : Signature) (n : ℕ) (t : Term) : Type 0 where
  pub scoped : IsScoped S n t
  pub low : height t ≤ 2000

-- types of a context after j variables, so many of them
pub data AreFitting (S : Signature) : (j count : ℕ) → Telescope → Type 0 where
  none : (j : ℕ) → AreFitting S j 0 []
  one : (j count : ℕ) (a : Term) (types : Telescope) → IsFitting S j a → AreFitting S (j + 1) count types → AreFitting S j (suc count) (a ∷ types)

-- normal forms in a context of n variables
pub record AreFormsFitting (S : Signature) (n : ℕ) (m : NormalForms) : Type 0 where
  pub goal : IsFitting S n m.goal
  pub types : AreFitting S 0 n m.types
  pub scrutinee : IsFitting S n m.scrutinee

both : {A : Type 0} (P Q : Term → Type 0) (r : Result Term A) → IfOk r P → IfOk r Q → IfOk r (λ u. P u × Q u)
both P Q (Ok u) h k = (h, k)
both P Q (Err e) h k = tt

weaker : {A B : Type 0} (P Q : B → Type 0) (r : Result B A) → IfOk r P → ((b : B) → P b → Q b) → IfOk r Q
weaker P Q (Ok u) h k = k u h
weaker P Q (Err e) h k = tt

pub normal-fitting : (S : Signature) (n : ℕ) (t : Term) (left : ℕ) → IsScopedSignature S → IsScoped S n t → IfOk (plain_normal_of S t left).0 (IsFitting S n)
normal-fitting S n t left sig h =
    weaker (λ u. (Converts S t u × (height u ≤ 2000)) × IsScoped S n u) (IsFitting S n) (plain_normal_of S t left).0
    (both (λ u. Converts S t u × (height u ≤ 2000)) (IsScoped S n) (plain_normal_of S t left).0
    (normal-converts S false nesting t left) (normal-scoped S false nesting n t left sig h))
    (λ u k. record { scoped = k.1; low = k.0.1 })

pub normals-fitting : (S : Signature) (j : ℕ) (types : Telescope) (left : ℕ) → IsScopedSignature S → IsScopedTelescope S j types
    → IfOk (plain_normals_of S types left).0 (AreFitting S j (length types))
normals-fitting S j [] left sig h = none j
normals-fitting S j (a ∷ types) left sig h =
    and_next-has (IsFitting S j) (AreFitting S j (suc (length types))) (plain_normal_of S a left)
    (λ b rest. and_next (plain_normals_of S types rest) (λ others end. answered (Ok (b ∷ others)) end))
    (normal-fitting S j a left sig h.0)
    (λ b rest fits. and_next-has (AreFitting S (j + 1) (length types)) (AreFitting S j (suc (length types))) (plain_normals_of S types rest)
    (λ others end. answered (Ok (b ∷ others)) end)
    (normals-fitting S (j + 1) types rest sig h.1)
    (λ others end k. one j (length types) b others fits k))

pub forms-fitting : (S : Signature) (context : Telescope) (goal t : Term) (left : ℕ) → IsScopedSignature S → IsScopedTelescope S 0 context
    → IsScoped S (length context) goal → IsScoped S (length context) t
    → IfOk (normal_forms_of S context goal t left).0 (AreFormsFitting S (length context))
forms-fitting S context goal t left sig types g u =
    and_next-has (IsFitting S (length context)) (AreFormsFitting S (length context)) (plain_normal_of S goal left)
    (λ G rest. and_next (plain_normals_of S context rest) (λ types more.
    and_next (plain_normal_of S t more) (λ u end. answered (Ok (record { goal = G; types = types; scrutinee = u })) end)))
    (normal-fitting S (length context) goal left sig g)
    (λ G rest a. and_next-has (AreFitting S 0 (length context)) (AreFormsFitting S (length context)) (plain_normals_of S context rest)
    (λ types more. and_next (plain_normal_of S t more) (λ u end. answered (Ok (record { goal = G; types = types; scrutinee = u })) end))
    (normals-fitting S 0 context rest sig types)
    (λ normals more b. and_next-has (IsFitting S (length context)) (AreFormsFitting S (length context)) (plain_normal_of S t more)
    (λ u end. answered (Ok (record { goal = G; types = normals; scrutinee = u })) end)
    (normal-fitting S (length context) t more sig u)
    (λ v end c. record { goal = a; types = b; scrutinee = c })))

-- ---- what the code asks of them

pub fitting-over : (S : Signature) (n : ℕ) (t : Term) → IsFitting S n t → IsOver n t
fitting-over S n t h = record { low = h.low; free = h.scoped.variables }

pub types-over : (S : Signature) (j count : ℕ) (types : Telescope) → AreFitting S j count types → AreTypesOver j types
types-over S j _ _ (none _) = tt
types-over S j _ _ (one _ count a types h k) = (fitting-over S j a h, types-over S (j + 1) count types k)

pub types-count : (S : Signature) (j count : ℕ) (types : Telescope) → AreFitting S j count types → length types ≡ count
types-count S j _ _ (none _) = refl
types-count S j _ _ (one _ count a types h k) = ap suc (types-count S (j + 1) count types k)

pub types-scoped : (S : Signature) (j count : ℕ) (types : Telescope) → AreFitting S j count types → IsScopedTelescope S j types
types-scoped S j _ _ (none _) = tt
types-scoped S j _ _ (one _ count a types h k) = (h.scoped, types-scoped S (j + 1) count types k)

pub forms-over : (S : Signature) (n : ℕ) (m : NormalForms) → AreFormsFitting S n m → AreFormsOver n m
forms-over S n m h = record {
  goal = fitting-over S n m.goal h.goal;
  types = types-over S 0 n m.types h.types;
  count = types-count S 0 n m.types h.types;
  scrutinee = fitting-over S n m.scrutinee h.scrutinee;
}

-- normal forms of terms that are scoped in a context of the code
pub forms-over_context : (S : Signature) (context : List code.Term) (goal t : Term) (left : ℕ) → IsScopedSignature S
    → IsScopedTelescope S 0 (tele_of context) → IsScoped S (length (tele_of context)) goal → IsScoped S (length (tele_of context)) t
    → IfOk (normal_forms_of S (tele_of context) goal t left).0 (AreFormsOver (length context))
forms-over_context S context goal t left sig types g u =
    transport (λ n. IfOk (normal_forms_of S (tele_of context) goal t left).0 (AreFormsOver n)) (length-map context tree_of)
    (weaker (AreFormsFitting S (length (tele_of context))) (AreFormsOver (length (tele_of context))) (normal_forms_of S (tele_of context) goal t left).0
    (forms-fitting S (tele_of context) goal t left sig types g u) (forms-over S (length (tele_of context))))

-- the types of a context are scoped over as many variables as a call of reduction may have
pub types-reducible : (S : Signature) (j most : ℕ) (types : Telescope) → j + length types ≤ most → IsScopedTelescope S j types → AreScoped S most types
types-reducible S j most [] le h = tt
types-reducible S j most (a ∷ types) le h =
    (scoped_over_more S j most a (omega arith) h.0, types-reducible S (j + 1) most types (omega arith) h.1)

-- ---- units

pub normals-spend : (S : Signature) (types : Telescope) (left : ℕ) → (plain_normals_of S types left).1 ≤ left
normals-spend S [] left = omega arith
normals-spend S (a ∷ types) left =
    and_next-spends (plain_normal_of S a left) (λ b rest. and_next (plain_normals_of S types rest) (λ others end. answered (Ok (b ∷ others)) end)) left
    (normal-spends S false nesting a left)
    (λ b rest. and_next-spends (plain_normals_of S types rest) (λ others end. answered (Ok (b ∷ others)) end) rest
    (normals-spend S types rest) (λ others end. omega arith))

pub forms-spend : (S : Signature) (context : Telescope) (goal t : Term) (left : ℕ) → (normal_forms_of S context goal t left).1 ≤ left
forms-spend S context goal t left =
    and_next-spends (plain_normal_of S goal left) (λ G rest. and_next (plain_normals_of S context rest) (λ types more.
    and_next (plain_normal_of S t more) (λ u end. answered (Ok (record { goal = G; types = types; scrutinee = u })) end))) left
    (normal-spends S false nesting goal left)
    (λ G rest. and_next-spends (plain_normals_of S context rest) (λ types more.
    and_next (plain_normal_of S t more) (λ u end. answered (Ok (record { goal = G; types = types; scrutinee = u })) end)) rest
    (normals-spend S context rest)
    (λ types more. and_next-spends (plain_normal_of S t more) (λ u end. answered (Ok (record { goal = G; types = types; scrutinee = u })) end) more
    (normal-spends S false nesting t more) (λ u end. omega arith)))
