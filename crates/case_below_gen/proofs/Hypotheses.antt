-- Hypotheses of recursors that do the same, and lists of terms that convert.
use Rattle.std.proofs.Common.{◌≡◌, ℕ, zero, suc, ◌+◌, List, [], ◌∷◌, ◌++◌, map, length, All, refl, ap, sym, ◌∙◌, subst₂, append_assoc, arith}
use Rattle.std.proofs.lemmas.List.{length-map, map-append}
use Rattle.std.proofs.lemmas.List.Elements.{All-head, All-tail}
use mathlib.Core.Path.{fun_ext}
use Rattle.theory.specs.Terms.{Term}
use Rattle.theory.specs.Terms.Term.{Var, App, Const}
use Rattle.theory.specs.Substitutions.{ren, inst, ups, weaken, extend, fill}
use Rattle.theory.specs.Telescopes.{Telescope, applied}
use Rattle.theory.specs.Families.{Argument, Plain, Recursive, Family}
use Rattle.theory.specs.Eliminators.{hypothesis, hypotheses, no_variable}
use Rattle.theory.specs.Signatures.{Signature, HasClosedBodies}
use Rattle.theory.specs.Conversion.{Converts}
use Rattle.theory.specs.Conversion.Converts.{same}
use Rattle.theory.proofs.Instances.{ren-ren, ren-is_inst, inst-inst}
use Rattle.theory.proofs.Instantiation.{inst-fill}
use Rattle.theory.proofs.Congruence.{converts-lam, converts-inst-each}
use Rattle.theory.proofs.Spines.{applied-append}
use Rattle.core_sig.proofs.EntryInstances.{ren-id}
use Rattle.core_sig.specs.FamilyShapes.{argument_shapes}
use Rattle.core_sig.specs.Shapes.{recursive_count}
use Rattle.case_below_gen.specs.CourseLaws.{HasTargets}

-- two recursors do the same at all indices and scrutinees, wherever they are
abbrev pub Agree : (S : Signature) (k : ℕ) (A R : Term) → Type 0
Agree S k A R = (r : ℕ → ℕ) (js : List Term) (y : Term) → length js ≡ k → Converts S (App (applied (ren r A) js) y) (App (applied (ren r R) js) y)

agree-weaken : (S : Signature) (k : ℕ) (A R : Term) → Agree S k A R → Agree S k (weaken A) (weaken R)
agree-weaken S k A R agree r js y counted =
    subst₂ (λ a b. Converts S (App (applied a js) y) (App (applied b js) y)) (sym (ren-ren r suc A)) (sym (ren-ren r suc R)) (agree (λ n. r (suc n)) js y counted)

pub hypothesis-agrees : (S : Signature) (k : ℕ) (s : ℕ → Term) (A R r : Term) (inner : Telescope) (targets : List Term) → Agree S k A R → length targets ≡ k → Converts S (hypothesis s A r inner targets) (hypothesis s R r inner targets)
hypothesis-agrees S k s A R r [] targets agree counted =
    subst₂ (λ a b. Converts S (App (applied a (map (inst s) targets)) r) (App (applied b (map (inst s) targets)) r)) (ren-id (λ n. n) A (λ n. refl)) (ren-id (λ n. n) R (λ n. refl))
    (agree (λ n. n) (map (inst s) targets) r (length-map targets (inst s) ∙ counted))
hypothesis-agrees S k s A R r (a ∷ inner) targets agree counted =
    converts-lam same (hypothesis-agrees S k (ups s) (weaken A) (weaken R) (App (weaken r) (Var 0)) inner targets (agree-weaken S k A R agree) counted)

-- one by one
abbrev pub EachConverts : Signature → List Term → List Term → Type 0
EachConverts S [] [] = Unit {0}
EachConverts S (t ∷ ts) (u ∷ us) = Converts S t u × EachConverts S ts us
EachConverts S _ _ = ⊥

pub hypotheses-agree : (S : Signature) (k : ℕ) (s : ℕ → Term) (A R : Term) (arguments : List Argument) (us : List Term) → Agree S k A R → All (HasTargets k) arguments → EachConverts S (hypotheses s A arguments us) (hypotheses s R arguments us)
hypotheses-agree S k s A R [] us agree all = tt
hypotheses-agree S k s A R (Plain type level ∷ arguments) [] agree all = tt
hypotheses-agree S k s A R (Recursive inner targets level ∷ arguments) [] agree all = tt
hypotheses-agree S k s A R (Plain type level ∷ arguments) (u ∷ us) agree all =
    hypotheses-agree S k (extend s u) A R arguments us agree (All-tail (HasTargets k) (Plain type level) arguments all)
hypotheses-agree S k s A R (Recursive inner targets level ∷ arguments) (u ∷ us) agree all = (
  hypothesis-agrees S k s A R u inner targets agree (All-head (HasTargets k) (Recursive inner targets level) arguments all),
  hypotheses-agree S k (extend s u) A R arguments us agree (All-tail (HasTargets k) (Recursive inner targets level) arguments all),
)

extend-converts : (S : Signature) (s q : ℕ → Term) (t u : Term) → ((n : ℕ) → Converts S (s n) (q n)) → Converts S t u → (n : ℕ) → Converts S (extend s t n) (extend q u n)
extend-converts S s q t u each h zero = h
extend-converts S s q t u each h (suc n) = each n

pub fill-converts : (S : Signature) (s q : ℕ → Term) (ts us : List Term) → ((n : ℕ) → Converts S (s n) (q n)) → EachConverts S ts us → (n : ℕ) → Converts S (fill s ts n) (fill q us n)
fill-converts S s q [] [] each all n = each n
fill-converts S s q [] (u ∷ us) each all n = absurd all
fill-converts S s q (t ∷ ts) [] each all n = absurd all
fill-converts S s q (t ∷ ts) (u ∷ us) each all n = fill-converts S (extend s t) (extend q u) ts us (extend-converts S s q t u each all.0) all.1 n

-- a term with terms put for its last variables that convert
pub inst-converts : (S : Signature) (s : ℕ → Term) (xs ts us : List Term) (t : Term) → HasClosedBodies S → EachConverts S ts us → Converts S (inst (fill s (xs ++ ts)) t) (inst (fill s (xs ++ us)) t)
inst-converts S s xs ts us t closed all = converts-inst-each S closed (fill s (xs ++ ts)) (fill s (xs ++ us)) (from s xs) t
  where
    from : (s : ℕ → Term) (xs : List Term) (n : ℕ) → Converts S (fill s (xs ++ ts) n) (fill s (xs ++ us) n)
    from s [] n = fill-converts S s s ts us (λ m. same) all n
    from s (x ∷ xs) n = from (extend s x) xs n

-- there is a hypothesis for each recursive argument
pub length-hypotheses : (n : ℕ) (f : Family) (at : ℕ) (s : ℕ → Term) (R : Term) (arguments : List Argument) (us : List Term) → length us ≡ length arguments → length (hypotheses s R arguments us) ≡ recursive_count (argument_shapes n f at arguments)
length-hypotheses n f at s R [] us counted = refl
length-hypotheses n f at s R (Plain type level ∷ arguments) [] counted = absurd (omega arith)
length-hypotheses n f at s R (Recursive inner targets level ∷ arguments) [] counted = absurd (omega arith)
length-hypotheses n f at s R (Plain type level ∷ arguments) (u ∷ us) counted = length-hypotheses n f (at + 1) (extend s u) R arguments us (omega arith)
length-hypotheses n f at s R (Recursive inner targets level ∷ arguments) (u ∷ us) counted =
    let rest = length-hypotheses n f (at + 1) (extend s u) R arguments us (omega arith) in omega arith

-- ---- renamings of terms that are put for variables

ren-fill : (r : ℕ → ℕ) (us : List Term) (t : Term) → ren r (inst (fill no_variable us) t) ≡ inst (fill no_variable (map (ren r) us)) t
ren-fill r us t =
    ren-is_inst r (inst (fill no_variable us) t)
    ∙ (inst-inst p (fill no_variable us) t
    ∙ (ap (λ s. inst s t) (fun_ext (inst-fill p no_variable us))
    ∙ ap (λ vs. inst (fill no_variable vs) t) (ap (λ g. map g us) (fun_ext (λ u. sym (ren-is_inst r u))))))
  where
    p : ℕ → Term
    p n = Var (r n)

pub ren-constant : (r : ℕ → ℕ) (c : ℕ) (us : List Term) → ren r (applied (Const c) us) ≡ applied (Const c) (map (ren r) us)
ren-constant r c us = go (Const c) us
  where
    go : (h : Term) (us : List Term) → ren r (applied h us) ≡ applied (ren r h) (map (ren r) us)
    go h [] = refl
    go h (u ∷ us) = go (App h u) us

pub map-scope : (r : ℕ → ℕ) (ps : List Term) (P s : Term) → map (ren r) (ps ++ P ∷ s ∷ []) ≡ map (ren r) ps ++ ren r P ∷ ren r s ∷ []
map-scope r ps P s = map-append (ren r) ps (P ∷ s ∷ [])

-- a constant and its body, at parameters, a motive and a step
pub agree-constant : (S : Signature) (k c p : ℕ) (t : Term) → ((ps : List Term) (P s : Term) (js : List Term) (y : Term) → length ps ≡ p → length js ≡ k → Converts S (App (applied (Const c) (ps ++ P ∷ s ∷ js)) y) (App (applied (inst (fill no_variable (ps ++ P ∷ s ∷ [])) t) js) y))
    → (ps : List Term) (P s : Term) → length ps ≡ p → Agree S k (applied (Const c) (ps ++ P ∷ s ∷ [])) (inst (fill no_variable (ps ++ P ∷ s ∷ [])) t)
agree-constant S k c p t unfolds ps P s params r js y counted =
    subst₂ (Converts S)
    (ap (λ h. App h y) (joined ∙ ap (λ h. applied h js) (sym (ren-constant r c (ps ++ P ∷ s ∷ []) ∙ ap (applied (Const c)) (map-scope r ps P s)))))
    (ap (λ R. App (applied R js) y) (sym (ren-fill r (ps ++ P ∷ s ∷ []) t ∙ ap (λ us. inst (fill no_variable us) t) (map-scope r ps P s))))
    (unfolds (map (ren r) ps) (ren r P) (ren r s) js y (length-map ps (ren r) ∙ params) counted)
  where
    joined : applied (Const c) (map (ren r) ps ++ ren r P ∷ ren r s ∷ js) ≡ applied (applied (Const c) (map (ren r) ps ++ ren r P ∷ ren r s ∷ [])) js
    joined =
        ap (applied (Const c)) (sym (append_assoc (map (ren r) ps) (ren r P ∷ ren r s ∷ []) js))
        ∙ applied-append (Const c) (map (ren r) ps ++ ren r P ∷ ren r s ∷ []) js
