-- The hypotheses and the right side of iota in the form in which the code makes them.
use Rattle.std.proofs.Common.{◌≡◌, ℕ, zero, suc, ◌+◌, ◌-◌, ◌<◌, ◌≤◌, min, Bool, true, false, cond, nat_lt, nat_le, List, [], ◌∷◌, ◌++◌, length, get_or, take, drop, map, refl, sym, ap, ap₂, ◌∙◌, arith}
use mathlib.Core.Path.{fun_ext}
use Rattle.std.proofs.lemmas.Bool.Decides.{nat_tests}
use Rattle.std.proofs.lemmas.List.{length-append, map-append}
use Rattle.std.proofs.Math.Seq.{take-suc, drop-cons}
use Rattle.theory.specs.Terms.{Term, lift}
use Rattle.theory.specs.Terms.Term.{Var, Sort, Pi, Lam, App, Let, Const, Fam, Con, Elim, AxiomK}
use Rattle.theory.specs.Substitutions.{weaken, inst, extend, fill}
use Rattle.theory.specs.Telescopes.{applied, variables}
use Rattle.theory.specs.Spines.{spine_of}
use Rattle.theory.specs.Eliminators.{hypothesis, hypotheses, no_variable}
use Rattle.theory.proofs.Commuting.{lift_by_none}
use Rattle.core_terms.specs.Meanings.{tree_of}
use Rattle.core_sig.specs.Meanings.{domains, behind, argument_with, argument_of}
use Rattle.core_sig.specs.declared.family.Arg.{Arg}
use Rattle.core_sig.specs.declared.family.ArgKind.{ArgKind}
use Rattle.core_sig.specs.declared.family.ArgKind.TheVariants as kind
use Rattle.core_terms.specs.Instances.{under_binders, instance_of}
use Rattle.kernel_reduce.specs.Calls.{call_of, recursive_call_of, hypothesis_of, hypothesis_before, hypotheses_of}
use Rattle.core_terms.proofs.Builders.{applied-push}
use Rattle.core_terms.proofs.Instances.{weaken-lifted, instance-is_inst, ups-path, under-none-path}

drop-all : {A : Type 0} (xs : List A) (n : ℕ) → length xs ≤ n → drop n xs ≡ []
drop-all [] zero h = refl
drop-all [] (suc n) h = refl
drop-all (x ∷ xs) zero h = absurd (omega arith)
drop-all (x ∷ xs) (suc n) h = drop-all xs n (omega arith)

drop-snoc : {A : Type 0} (xs : List A) (a : A) (n : ℕ) → n ≤ length xs → drop n (xs ++ a ∷ []) ≡ drop n xs ++ a ∷ []
drop-snoc xs a zero h = refl
drop-snoc [] a (suc n) h = absurd (omega arith)
drop-snoc (x ∷ xs) a (suc n) h = drop-snoc xs a n (omega arith)

-- the targets after p arguments
pub call-is : (values : List Term) (p : ℕ) (recursor : Term) (under : ℕ) (t : Term) → p ≤ 2000
    → call_of values p recursor under t ≡ applied (lift recursor under 0) (map (instance_of values under) (drop p (spine_of t)))
call-is values p recursor under (App f a) few = by_case (nat_le p (min (length (spine_of f)) 2001)) refl (call-is values p recursor under f few)
  where
    by_case : (b : Bool) → nat_le p (min (length (spine_of f)) 2001) ≡ b
        → call_of values p recursor under f ≡ applied (lift recursor under 0) (map (instance_of values under) (drop p (spine_of f)))
        → cond b (App (call_of values p recursor under f) (instance_of values under a)) (lift recursor under 0)
        ≡ applied (lift recursor under 0) (map (instance_of values under) (drop p (spine_of f ++ a ∷ [])))
    by_case true e inner =
        let within : p ≤ length (spine_of f) = grind (arith, nat_tests) in
        ap (λ g. App g (instance_of values under a)) inner
        ∙ (sym (applied-push (lift recursor under 0) (map (instance_of values under) (drop p (spine_of f))) (instance_of values under a))
        ∙ ap (applied (lift recursor under 0))
        (sym (map-append (instance_of values under) (drop p (spine_of f)) (a ∷ []))
        ∙ ap (map (instance_of values under)) (sym (drop-snoc (spine_of f) a p within))))
    by_case false e inner =
        let past : suc (length (spine_of f)) ≤ p = grind (arith, nat_tests) in
        ap (λ us. applied (lift recursor under 0) (map (instance_of values under) us))
        (sym (drop-all (spine_of f ++ a ∷ []) p (omega (arith, length-append (spine_of f) (a ∷ [])))))
call-is values p recursor under (Var n) few = ap (λ us. applied (lift recursor under 0) (map (instance_of values under) us)) (sym (drop-all [] p (omega arith)))
call-is values p recursor under _ few = ap (λ us. applied (lift recursor under 0) (map (instance_of values under) us)) (sym (drop-all [] p (omega arith)))

weaken-applied : (h : Term) (us : List Term) → weaken (applied h us) ≡ applied (weaken h) (map weaken us)
weaken-applied h [] = refl
weaken-applied h (u ∷ us) = weaken-applied (App h u) us

weaken-variables : (h : Term) (k : ℕ) → App (applied h (map weaken (variables k))) (Var 0) ≡ applied h (variables (k + 1))
weaken-variables h zero = refl
weaken-variables h (suc k) =
    weaken-variables (App h (Var (suc k))) k
    ∙ let e : suc (k + 1) ≡ suc k + 1 = omega arith in
    let f : suc k ≡ k + 1 = omega arith in
    ap (λ n. applied (App h (Var n)) (variables (k + 1))) f ∙ ap (λ n. applied h (variables n)) e

-- a recursive argument applied to the variables of one binder more
argument-under : (r : Term) (k : ℕ) → App (weaken (applied (lift r k 0) (variables k))) (Var 0) ≡ applied (lift r (k + 1) 0) (variables (k + 1))
argument-under r k =
    ap (λ x. App x (Var 0)) (weaken-applied (lift r k 0) (variables k))
    ∙ (ap (λ h. App (applied h (map weaken (variables k))) (Var 0)) (weaken-lifted r k) ∙ weaken-variables (lift r (k + 1) 0) k)

map-same : (f g : Term → Term) (us : List Term) → ((u : Term) → f u ≡ g u) → map f us ≡ map g us
map-same f g [] h = refl
map-same f g (u ∷ us) h = ap₂ ◌∷◌ (h u) (map-same f g us h)

-- the call at the end of a hypothesis
recursive_call-is : (values : List Term) (p : ℕ) (recursor r : Term) (under : ℕ) (t : Term) → p ≤ 2000
    → recursive_call_of values p recursor r under t
    ≡ hypothesis (under_binders under (fill no_variable values)) (lift recursor under 0) (applied (lift r under 0) (variables under)) [] (drop p (spine_of t))
recursive_call-is values p recursor r under t few =
    ap (λ f. App f (applied (lift r under 0) (variables under)))
    (call-is values p recursor under t few
    ∙ ap (applied (lift recursor under 0)) (map-same _ _ (drop p (spine_of t)) (instance-is_inst values under)))

hypothesis-under : (values : List Term) (p : ℕ) (recursor r : Term) (inner under : ℕ) (t : Term) → p ≤ 2000
    → hypothesis_of values p recursor r inner under t
    ≡ hypothesis (under_binders under (fill no_variable values)) (lift recursor under 0) (applied (lift r under 0) (variables under)) (domains inner t) (drop p (spine_of (behind inner t)))
hypothesis-under values p recursor r zero under (Pi a b) few = recursive_call-is values p recursor r under (Pi a b) few
hypothesis-under values p recursor r (suc inner) under (Pi a b) few =
    let s = fill no_variable values in
    let targets = drop p (spine_of (behind inner b)) in
    let test : nat_lt 0 (suc inner) ≡ true = grind (arith, nat_tests) in
    let less : suc inner - 1 ≡ inner = omega arith in
    ap (λ b'. cond b' (Lam (instance_of values under a) (hypothesis_of values p recursor r (suc inner - 1) (under + 1) b)) (recursive_call_of values p recursor r under (Pi a b))) test
    ∙ (ap (λ i. Lam (instance_of values under a) (hypothesis_of values p recursor r i (under + 1) b)) less
    ∙ (ap₂ Lam (instance-is_inst values under a) (hypothesis-under values p recursor r inner (under + 1) b few)
    ∙ ap (Lam (inst (under_binders under s) a))
    (sym (ap (λ x. hypothesis x (weaken (lift recursor under 0)) (App (weaken (applied (lift r under 0) (variables under))) (Var 0)) (domains inner b) targets) (ups-path under s)
    ∙ (ap (λ x. hypothesis (under_binders (under + 1) s) x (App (weaken (applied (lift r under 0) (variables under))) (Var 0)) (domains inner b) targets) (weaken-lifted recursor under)
    ∙ ap (λ x. hypothesis (under_binders (under + 1) s) (lift recursor (under + 1) 0) x (domains inner b) targets) (argument-under r under))))))
hypothesis-under values p recursor r zero under (Var n) few = recursive_call-is values p recursor r under (Var n) few
hypothesis-under values p recursor r (suc inner) under (Var n) few = recursive_call-is values p recursor r under (Var n) few
hypothesis-under values p recursor r zero under (Sort i) few = recursive_call-is values p recursor r under (Sort i) few
hypothesis-under values p recursor r (suc inner) under (Sort i) few = recursive_call-is values p recursor r under (Sort i) few
hypothesis-under values p recursor r zero under (Lam a b) few = recursive_call-is values p recursor r under (Lam a b) few
hypothesis-under values p recursor r (suc inner) under (Lam a b) few = recursive_call-is values p recursor r under (Lam a b) few
hypothesis-under values p recursor r zero under (App f a) few = recursive_call-is values p recursor r under (App f a) few
hypothesis-under values p recursor r (suc inner) under (App f a) few = recursive_call-is values p recursor r under (App f a) few
hypothesis-under values p recursor r zero under (Let a t b) few = recursive_call-is values p recursor r under (Let a t b) few
hypothesis-under values p recursor r (suc inner) under (Let a t b) few = recursive_call-is values p recursor r under (Let a t b) few
hypothesis-under values p recursor r zero under (Const c) few = recursive_call-is values p recursor r under (Const c) few
hypothesis-under values p recursor r (suc inner) under (Const c) few = recursive_call-is values p recursor r under (Const c) few
hypothesis-under values p recursor r zero under (Fam f) few = recursive_call-is values p recursor r under (Fam f) few
hypothesis-under values p recursor r (suc inner) under (Fam f) few = recursive_call-is values p recursor r under (Fam f) few
hypothesis-under values p recursor r zero under (Con f c) few = recursive_call-is values p recursor r under (Con f c) few
hypothesis-under values p recursor r (suc inner) under (Con f c) few = recursive_call-is values p recursor r under (Con f c) few
hypothesis-under values p recursor r zero under (Elim f m) few = recursive_call-is values p recursor r under (Elim f m) few
hypothesis-under values p recursor r (suc inner) under (Elim f m) few = recursive_call-is values p recursor r under (Elim f m) few
hypothesis-under values p recursor r zero under (AxiomK i m) few = recursive_call-is values p recursor r under (AxiomK i m) few
hypothesis-under values p recursor r (suc inner) under (AxiomK i m) few = recursive_call-is values p recursor r under (AxiomK i m) few

pub hypothesis-is : (values : List Term) (p : ℕ) (recursor r : Term) (inner : ℕ) (t : Term) → p ≤ 2000
    → hypothesis_of values p recursor r inner 0 t ≡ hypothesis (fill no_variable values) recursor r (domains inner t) (drop p (spine_of (behind inner t)))
hypothesis-is values p recursor r inner t few =
    hypothesis-under values p recursor r inner 0 t few
    ∙ (ap (λ s. hypothesis s (lift recursor 0 0) (lift r 0 0) (domains inner t) (drop p (spine_of (behind inner t)))) (under-none-path (fill no_variable values))
    ∙ ap₂ (λ x y. hypothesis (fill no_variable values) x y (domains inner t) (drop p (spine_of (behind inner t)))) (lift_by_none recursor 0) (lift_by_none r 0))

fill-snoc : (s : ℕ → Term) (us : List Term) (v : Term) (n : ℕ) → fill s (us ++ v ∷ []) n ≡ extend (fill s us) v n
fill-snoc s [] v zero = refl
fill-snoc s [] v (suc n) = refl
fill-snoc s (u ∷ us) v n = fill-snoc (extend s u) us v n

fill-more : (s : ℕ → Term) (values : List Term) (k : ℕ) (d : Term) → k < length values → extend (fill s (take k values)) (get_or values k d) ≡ fill s (take (suc k) values)
fill-more s values k d low =
    sym (fun_ext (fill-snoc s (take k values) (get_or values k d))) ∙ ap (fill s) (sym (take-suc values k d low))

pub hypotheses-are : (values : List Term) (p : ℕ) (recursor : Term) (known : ℕ) (args : List Arg) → p ≤ 2000 → known + length args ≤ length values
    → hypotheses_of values p recursor known args ≡ hypotheses (fill no_variable (take known values)) recursor (map (argument_of p) args) (drop known values)
hypotheses-are values p recursor known [] few fits = refl
hypotheses-are values p recursor known (a ∷ args) few fits =
    by a.kind (hypotheses-are values p recursor (known + 1) args few (omega arith))
    ∙ ap (hypotheses (fill no_variable (take known values)) recursor (map (argument_of p) (a ∷ args))) (sym (drop-cons values known (Sort 0) low))
  where
    low : known < length values
    low = omega arith

    one : known + 1 ≡ suc known
    one = omega arith

    v : Term
    v = get_or values known (Sort 0)

    more : extend (fill no_variable (take known values)) v ≡ fill no_variable (take (known + 1) values)
    more = fill-more no_variable values known (Sort 0) low ∙ ap (λ n. fill no_variable (take n values)) (sym one)

    by : (kind : ArgKind) → hypotheses_of values p recursor (known + 1) args ≡ hypotheses (fill no_variable (take (known + 1) values)) recursor (map (argument_of p) args) (drop (known + 1) values)
        → hypothesis_before values p recursor known (tree_of a.ty) kind (hypotheses_of values p recursor (known + 1) args)
        ≡ hypotheses (fill no_variable (take known values)) recursor (argument_with p (tree_of a.ty) a.level kind ∷ map (argument_of p) args) (v ∷ drop (suc known) values)
    by kind.Plain rest =
        rest ∙ ap₂ (λ s n. hypotheses s recursor (map (argument_of p) args) (drop n values)) (sym more) one
    by (kind.Recursive inner) rest =
        ap₂ ◌∷◌ (hypothesis-is (take known values) p recursor v inner (tree_of a.ty) few)
        (rest ∙ ap₂ (λ s n. hypotheses s recursor (map (argument_of p) args) (drop n values)) (sym more) one)
