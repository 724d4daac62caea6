-- Where an eliminator meets a constructor, all arguments of both are there, and they have no more free variables than the terms.
use Rattle.std.proofs.Common.{◌≡◌, ℕ, ◌+◌, ◌≤◌, true, ◌==◌, Some, option_map, List, length, slice_get, sym, ap, ap₂, ◌∙◌, subst as transport, arith}
use Rattle.std.proofs.lemmas.Bool.Decides.{Decides-eqb}
use Rattle.std.proofs.lemmas.List.{length-map}
use Rattle.std.proofs.lemmas.Option.{slice_get_within, slice_get-map, some_pair_parts, same_Some}
use Rattle.std.specs.List.{All}
use Rattle.theory.proofs.Scopes.{free_of-applied}
use Rattle.theory.proofs.Spines.{applied-spine}
use Rattle.theory.specs.Terms.{Term, height, free_of}
use Rattle.theory.specs.Terms.Term.{Var, Con, Elim}
use Rattle.theory.specs.Spines.{head_of, spine_of}
use Rattle.theory.specs.Signatures.{Signature}
use Rattle.core_terms.specs.Meanings.{tree_of}
use Rattle.core_sig.specs.Meanings.{argument_of, constructor_of, family_of}
use Rattle.core_sig.specs.declared.family.Constructor.{Constructor}
use Rattle.core_sig.specs.declared.family.Family.{Family}
use Rattle.kernel_reduce.specs.Calls.{HasAllArguments}
use Rattle.kernel_reduce.specs.Entries.{family_at}
use Rattle.kernel_reduce.specs.Steps.{awaits_scrutinee, fills}
use Rattle.kernel_reduce.specs.Tests.{constructor_takes, family_takes, meets, eliminator_numbers, constructor_number}
use Rattle.kernel_reduce.proofs.SpineLengths.{spine_fits}
use Rattle.kernel_reduce.proofs.StepLaws.{both-true}

found-at : (f : Family) (c : Constructor) (number : ℕ) → slice_get f.cons number ≡ Some c → slice_get (family_of f).constructors number ≡ Some (constructor_of (length f.params) c)
found-at f c number at = slice_get-map (constructor_of (length f.params)) f.cons number ∙ ap (option_map (constructor_of (length f.params))) at

takes-all : (f : Family) (c : Constructor) (number count : ℕ) → slice_get f.cons number ≡ Some c → family_takes number count (Some (family_of f)) ≡ true
    → count ≡ length f.params + length c.args
takes-all f c number count at h =
    let test = transport (λ o. constructor_takes (length (family_of f).parameters) count o ≡ true) (found-at f c number at) h in
    let equal = (Decides-eqb count (length (family_of f).parameters + length (constructor_of (length f.params) c).arguments)).0 test in
    omega (arith, equal, length-map f.params tree_of, length-map c.args (argument_of (length f.params)))

eliminator-is : (h : Term) (n m : ℕ) → Some (n, m) ≡ eliminator_numbers h → h ≡ Elim n m
eliminator-is (Elim n' m') n m e = let parts = some_pair_parts n n' m m' e in ap₂ Elim (sym parts.0) (sym parts.1)
eliminator-is (Var x) n m e = absurd (grind arith)
eliminator-is _ n m e = absurd (grind arith)

constructor-is : (k : Term) (number : ℕ) → Some number ≡ constructor_number k → (g : ℕ) × (k ≡ Con g number)
constructor-is (Con g c) number e = (g, ap (Con g) (sym (same_Some number c e)))
constructor-is (Var x) number e = absurd (grind arith)
constructor-is _ number e = absurd (grind arith)

spine-few : (t : Term) → height t ≤ 2000 → length (spine_of t) ≤ 2000
spine-few t low = let h = spine_fits t in omega arith

pub has-all : (S : Signature) (t u : Term) (n m number : ℕ) (f : Family) (c : Constructor) (args us : List Term)
    → Some (n, m) ≡ eliminator_numbers (head_of t) → Some number ≡ constructor_number (head_of u) → Some (family_of f) ≡ family_at S n → slice_get f.cons number ≡ Some c
    → awaits_scrutinee S (head_of t) (spine_of t) ≡ true → meets S (head_of t) (head_of u) (length (spine_of u)) ≡ true → height t ≤ 2000
    → args ≡ spine_of t → us ≡ spine_of u → HasAllArguments f c number args us
has-all S t u n m number f c args us eh ek ef at awaits met low ea eu =
    let h = eliminator-is (head_of t) n m eh in
    let k = constructor-is (head_of u) number ek in
    let full = transport (λ o. fills (spine_of t) o ≡ true) (sym ef) (transport (λ x. awaits_scrutinee S x (spine_of t) ≡ true) h awaits) in
    let whole = (Decides-eqb (length (spine_of t)) (length (family_of f).parameters + (1 + (length (family_of f).constructors + length (family_of f).indices)))).0 full in
    let pair = transport (λ x. meets S x (Con k.0 number) (length (spine_of u)) ≡ true) h (transport (λ x. meets S (head_of t) x (length (spine_of u)) ≡ true) k.1 met) in
    let taken = transport (λ o. family_takes number (length (spine_of u)) o ≡ true) (sym ef) (both-true (k.0 == n) (family_takes number (length (spine_of u)) (family_at S n)) pair).1 in
    let all = takes-all f c number (length (spine_of u)) at taken in
    let few = spine-few t low in
    record {
      number_low = slice_get_within f.cons number c at;
      args_long = omega (arith, whole, ap length ea, length-map f.params tree_of, length-map f.cons (constructor_of (length f.params)));
      us_all = omega (arith, all, ap length eu);
      args_few = omega (arith, few, ap length ea);
    }

pub spine-free : (bound : ℕ) (t : Term) (args : List Term) → args ≡ spine_of t → free_of t ≤ bound → All (λ v. free_of v ≤ bound) args
spine-free bound t args e h =
    transport (All (λ v. free_of v ≤ bound)) (sym e)
    ((free_of-applied (head_of t) (spine_of t) bound).1 (transport (λ x. free_of x ≤ bound) (sym (applied-spine t)) h)).1
