-- Tests on heads and on exact numbers of arguments.
use Rattle.std.proofs.Common.{◌≡◌, ℕ, ◌+◌, Bool, ◌&&◌, nat_eq, Some, length, sym, ap, ap₂, ◌∙◌}
use Rattle.std.proofs.lemmas.Bool.Decides.{Decides-eqb}
use Rattle.theory.specs.Terms.{Term}
use Rattle.theory.specs.Terms.Term.{Con, Elim}
use Rattle.theory.specs.Spines.{head_of, spine_of}
use Rattle.theory.specs.Families.{Family}
use Rattle.theory.specs.Signatures.{Signature}
use Rattle.kernel_reduce.specs.Entries.{family_at}
use Rattle.kernel_reduce.specs.Steps.{fills, awaits_scrutinee}
use Rattle.kernel_reduce.specs.Tests.{family_takes, meets}

pub awaits-eliminator : (S : Signature) (t : Term) (n m : ℕ) (f : Family) (count arity : ℕ) → head_of t ≡ Elim n m → Some f ≡ family_at S n → count ≡ length (spine_of t)
    → arity ≡ length f.parameters + (1 + (length f.constructors + length f.indices)) → nat_eq count arity ≡ awaits_scrutinee S (head_of t) (spine_of t)
awaits-eliminator S t n m f count arity eh ef ec ea =
    ap₂ nat_eq ec ea ∙ ap (fills (spine_of t)) ef ∙ ap (λ h. awaits_scrutinee S h (spine_of t)) (sym eh)

pub meets-constructor : (S : Signature) (t u : Term) (n m g number : ℕ) (f : Family) (count : ℕ) (answer : Bool) → head_of t ≡ Elim n m → head_of u ≡ Con g number → g ≡ n
    → Some f ≡ family_at S n → count ≡ length (spine_of u) → answer ≡ family_takes number count (Some f) → answer ≡ meets S (head_of t) (head_of u) (length (spine_of u))
meets-constructor S t u n m g number f count answer et eu eg ef ec ea =
    ea ∙ ap₂ (family_takes number) ec ef
    ∙ sym (ap (λ b. b && family_takes number (length (spine_of u)) (family_at S n)) ((Decides-eqb g n).1 eg))
    ∙ ap₂ (λ h k. meets S h k (length (spine_of u))) (sym et) (sym eu)
