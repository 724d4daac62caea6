-- The right side of iota in the form in which the code makes it.
use Rattle.std.proofs.Common.{◌≡◌, ℕ, suc, ◌+◌, ◌<◌, ◌≤◌, cond, Some, None, option_map, List, ◌∷◌, ◌++◌, length, get_or, take, drop, map, sym, ap, ap₂, ◌∙◌, arith}
use Rattle.std.proofs.lemmas.Bool.Decides.{Decides-eqb}
use Rattle.std.proofs.lemmas.List.{length-append, length-take, length-drop, length-map, get_or-take, get_or-drop}
use Rattle.std.proofs.lemmas.Option.{slice_get-get_or}
use Rattle.std.proofs.Math.Seq.{drop-cons, take-add, take-append_seam, drop-append_seam}
use Rattle.theory.specs.Terms.{Term}
use Rattle.theory.specs.Terms.Term.{Sort, Elim}
use Rattle.theory.specs.Substitutions.{fill}
use Rattle.theory.specs.Telescopes.{applied}
use Rattle.theory.specs.Families.{Family, Constructor}
use Rattle.theory.specs.Eliminators.{hypotheses, no_variable, iota_right}
use Rattle.theory.proofs.Spines.{applied-append}
use Rattle.core_sig.specs.Meanings.{argument_of}
use Rattle.core_sig.specs.declared.family.Arg.{Arg}
use Rattle.kernel_reduce.specs.Calls.{hypotheses_of, iota_made}
use Rattle.kernel_reduce.specs.Steps.{method_applied, iota_at}
use Rattle.kernel_reduce.proofs.CallForms.{hypotheses-are}

-- the recursor, the parameters first
Recursor : ℕ → ℕ → Family → List Term → Term
Recursor n m f args = applied (Elim n m) (take (length f.parameters + (1 + length f.constructors)) args)

method-is : (n m number : ℕ) (f : Family) (c : Constructor) (vs args : List Term) (d : Term) → number < length f.constructors
    → length f.parameters + (1 + length f.constructors) ≤ length args
    → method_applied n m f number c vs (take (length f.parameters) args) (drop (length f.parameters) args)
    ≡ Some (applied (get_or args (length f.parameters + (1 + number)) d) (vs ++ hypotheses (fill no_variable (take (length f.parameters) args)) (Recursor n m f args) c.arguments vs))
unfolding Recursor
method-is n m number f c vs args d low fits =
    ap (method_applied n m f number c vs (take p args)) (drop-cons args p d within)
    ∙ (ap (option_map (λ method. iota_right n m (take p args) P (take nc rest) c.arguments method vs)) (slice_get-get_or (take nc rest) number d there)
    ∙ ap Some (ap₂ (λ method recursor. applied method (vs ++ hypotheses (fill no_variable (take p args)) recursor c.arguments vs)) method (ap (applied (Elim n m)) front)))
  where
    p : ℕ
    p = length f.parameters

    nc : ℕ
    nc = length f.constructors

    within : p < length args
    within = omega arith

    P : Term
    P = get_or args p d

    rest : List Term
    rest = drop (suc p) args

    there : number < length (take nc rest)
    there = omega (arith, length-take nc rest, length-drop (suc p) args)

    method : get_or (take nc rest) number d ≡ get_or args (p + (1 + number)) d
    method = get_or-take nc rest number d low ∙ (get_or-drop (suc p) args number d ∙ ap (λ k. get_or args k d) (omega arith))

    front : take p args ++ P ∷ take nc rest ≡ take (p + (1 + nc)) args
    front =
        let one : suc nc ≡ 1 + nc = omega arith in
        ap (λ xs. take p args ++ take (suc nc) xs) (sym (drop-cons args p d within))
        ∙ (sym (take-add p (suc nc) args) ∙ ap (λ k. take (p + k) args) one)

-- the term that the code makes is iota's right side
pub iota-made : (n m number : ℕ) (f : Family) (c : Constructor) (args us : List Term) (codes : List Arg) → number < length f.constructors
    → length f.parameters + (1 + length f.constructors) ≤ length args → length us ≡ length f.parameters + length c.arguments
    → c.arguments ≡ map (argument_of (length f.parameters)) codes → length f.parameters ≤ 2000
    → iota_at n m f args number us c ≡ Some (iota_made n m (length f.parameters) (length f.constructors) number args us codes)
unfolding Recursor
iota-made n m number f c args us codes low fits full same few =
    ap (λ b. cond b (method_applied n m f number c vs (take p args) (drop p args)) None) ((Decides-eqb _ _).1 full)
    ∙ (method-is n m number f c vs args (Sort 0) low fits
    ∙ ap Some
    (applied-append method vs (hypotheses (fill no_variable (take p args)) recursor c.arguments vs)
    ∙ ap (applied (applied method vs)) (sym made)))
  where
    p : ℕ
    p = length f.parameters

    vs : List Term
    vs = drop p us

    method : Term
    method = get_or args (p + (1 + number)) (Sort 0)

    recursor : Term
    recursor = applied (Elim n m) (take (p + (1 + length f.constructors)) args)

    values : List Term
    values = take p args ++ vs

    front : length (take p args) ≡ p
    front = omega (arith, length-take p args)

    first : take p values ≡ take p args
    first = ap (λ k. take k values) (sym front) ∙ take-append_seam (take p args) vs

    last : drop p values ≡ vs
    last = ap (λ k. drop k values) (sym front) ∙ drop-append_seam (take p args) vs

    made : hypotheses_of values p recursor p codes ≡ hypotheses (fill no_variable (take p args)) recursor c.arguments vs
    made =
        hypotheses-are values p recursor p codes few
        (omega (arith, length-append (take p args) vs, length-take p args, length-drop p us, length-map codes (argument_of p), ap length same))
        ∙ (ap₂ (λ xs ys. hypotheses (fill no_variable xs) recursor (map (argument_of p) codes) ys) first last
        ∙ ap (λ xs. hypotheses (fill no_variable (take p args)) recursor xs vs) (sym same))
