-- Terms that are found convertible convert, and a term that is found below another one is below it.
use native.Mathlib.Decide.{ℕ_discrete}
use Rattle.std.proofs.Common.{◌≡◌, ℕ, ◌≤◌, zero, suc, Bool, true, false, ◌&&◌, ◌==◌, IsTrue, Result, Ok, Err, IfOk, refl, ap, ap₂, subst as transport, arith}
use Rattle.std.proofs.lemmas.Bool.Decides.{Decides-eqb, nat_tests}
use Rattle.theory.specs.Terms.{Term, Term-discrete}
use Rattle.theory.specs.Terms.Term.{Var, Sort, Pi, Lam, App, Fam, Con, Elim, AxiomK}
use Rattle.theory.specs.Signatures.{Signature}
use Rattle.theory.specs.Conversion.{Converts, Below}
use Rattle.theory.specs.Conversion.Converts.{same as unchanged}
use Rattle.theory.specs.Conversion.Below.{converts, sorts, products, trans}
use Rattle.theory.proofs.Congruence.{converts-trans, converts-sym, converts-pi, converts-lam, converts-app}
use Rattle.core_terms.specs.Answers.{Spent, is_low}
use Rattle.core_terms.specs.declared.stop.Stop.{Stop}
use Rattle.kernel_reduce.specs.Reduction.{whnf_of}
use Rattle.kernel_reduce.specs.Comparison.{same, second_if, both, on_heads, heads_convertible, unless_same, convertible_of, heads_below, subtype_of}
use Rattle.kernel_reduce.specs.Laws.{IsHeadForm, ConvertibleConverts, SubtypeIsBelow, ConvertibleSpends, SubtypeSpends}
use Rattle.core_terms.proofs.Answers.{Answers, and_next-has, and_next-spends}
use Rattle.kernel_reduce.proofs.Answers.{charge-has, if_low-has, charge-spends, if_low-spends}
use Rattle.kernel_reduce.proofs.StepLaws.{both-true}
use Rattle.kernel_reduce.proofs.ReductionLaws.{whnf-is_head_form, whnf-spends}

-- a yes shows P
abbrev Shows : Type 0 → Bool → Type 0
Shows P holds = IsTrue holds → P

pub same-tells : (a b : Term) → same a b ≡ true → a ≡ b
same-tells a b h = by_case (Term-discrete ℕ_discrete a b) h
  where
    by_case : (d : Dec (a ≡ b)) → (elim d [ yes e ↦ true | no e ↦ false ]) ≡ true → a ≡ b
    by_case (yes e) h = e
    by_case (no e) h = absurd (grind arith)

converts-from : {S : Signature} {a b : Term} → a ≡ b → Converts S a b
converts-from {S} {a} {b} e = transport (λ x. Converts S a x) e unchanged

second_if-shows : (P Q : Type 0) (holds : Bool) (second : ℕ → Spent Bool) (left : ℕ) → Shows P holds
    → ((rest : ℕ) → Answers (Shows Q) (second rest)) → Answers (Shows (P × Q)) (second_if holds second left)
second_if-shows P Q true second left h k = behind (second left).0 (k left)
  where
    behind : (r : Result Bool Stop) → IfOk r (Shows Q) → IfOk r (Shows (P × Q))
    behind (Ok x) q = λ t. (h refl, q t)
    behind (Err e) q = tt
second_if-shows P Q false second left h k = λ t. absurd (grind arith)

both-show : (P Q : Type 0) (first second : ℕ → Spent Bool) (left : ℕ) → ((rest : ℕ) → Answers (Shows P) (first rest))
    → ((rest : ℕ) → Answers (Shows Q) (second rest)) → Answers (Shows (P × Q)) (both first second left)
both-show P Q first second left h k =
    and_next-has (Shows P) (Shows (P × Q)) (first left) _ (h left) (λ holds rest p. second_if-shows P Q holds second rest p k)

weaker : {P Q : Type 0} (r : Spent Bool) → (P → Q) → Answers (Shows P) r → Answers (Shows Q) r
weaker {P} {Q} r f h = by_case r.0 h
  where
    by_case : (x : Result Bool Stop) → IfOk x (Shows P) → IfOk x (Shows Q)
    by_case (Ok b) k = λ t. f (k t)
    by_case (Err e) k = tt

-- both-show at a former that keeps P and Q
children-show : {P Q R : Type 0} (first second : ℕ → Spent Bool) (left : ℕ) → (P → Q → R) → ((rest : ℕ) → Answers (Shows P) (first rest))
    → ((rest : ℕ) → Answers (Shows Q) (second rest)) → Answers (Shows R) (both first second left)
children-show {P} {Q} first second left f h k =
    weaker (both first second left) (λ p. f p.0 p.1) (both-show P Q first second left h k)

on_heads-show : (S : Signature) (R : Term → Term → Type 0) (a b : Term) (compare : Term → Term → ℕ → Spent Bool) (left : ℕ)
    → ((c d : Term) (rest : ℕ) → Converts S a c → Converts S b d → Answers (Shows (R a b)) (compare c d rest))
    → Answers (Shows (R a b)) (on_heads S a b compare left)
on_heads-show S R a b compare left h =
    and_next-has (IsHeadForm S true a) _ (whnf_of S true left a) _ (whnf-is_head_form S true left a) (λ c rest hc.
    and_next-has (IsHeadForm S true b) _ (whnf_of S true rest b) _ (whnf-is_head_form S true rest b) (λ d end hd.
    h c d end hc.converts hd.converts))

between : {S : Signature} {a b c d : Term} → Converts S a c → Converts S b d → Converts S c d → Converts S a b
between h k m = converts-trans h (converts-trans m (converts-sym k))

IsComparison : Signature → (Term → Term → ℕ → Spent Bool) → Type 0
IsComparison S compare = (a b : Term) (left : ℕ) → Answers (Shows (Converts S a b)) (compare a b left)

heads-convert : (S : Signature) (compare : Term → Term → ℕ → Spent Bool) → IsComparison S compare → IsComparison S (heads_convertible compare)
unfolding IsComparison
heads-convert S compare h (Var n) (Var m) left = λ t. converts-from (ap Var ((Decides-eqb n m).0 t))
heads-convert S compare h (Sort i) (Sort j) left = λ t. converts-from (ap Sort ((Decides-eqb i j).0 t))
heads-convert S compare h (Pi a b) (Pi c d) left = children-show (compare a c) (compare b d) left converts-pi (h a c) (h b d)
heads-convert S compare h (Lam a b) (Lam c d) left = children-show (compare a c) (compare b d) left converts-lam (h a c) (h b d)
heads-convert S compare h (App a b) (App c d) left = children-show (compare a c) (compare b d) left converts-app (h a c) (h b d)
heads-convert S compare h (Fam f) (Fam g) left = λ t. converts-from (ap Fam ((Decides-eqb f g).0 t))
heads-convert S compare h (Con f c) (Con g d) left = λ t.
    let parts = both-true (f == g) (c == d) t in
    converts-from (ap₂ Con ((Decides-eqb f g).0 parts.0) ((Decides-eqb c d).0 parts.1))
heads-convert S compare h (Elim f m) (Elim g n) left = λ t.
    let parts = both-true (f == g) (m == n) t in
    converts-from (ap₂ Elim ((Decides-eqb f g).0 parts.0) ((Decides-eqb m n).0 parts.1))
heads-convert S compare h (AxiomK i m) (AxiomK j n) left = λ t.
    let parts = both-true (i == j) (m == n) t in
    converts-from (ap₂ AxiomK ((Decides-eqb i j).0 parts.0) ((Decides-eqb m n).0 parts.1))
heads-convert S compare h _ _ left = λ t. absurd (grind arith)

unless_same-show : (S : Signature) (a b : Term) (compare : ℕ → Spent Bool) (left : ℕ) → Answers (Shows (Converts S a b)) (compare left)
    → Answers (Shows (Converts S a b)) (unless_same (same a b) compare left)
unless_same-show S a b compare left h = by_case (same a b) refl
  where
    by_case : (t : Bool) → same a b ≡ t → Answers (Shows (Converts S a b)) (unless_same t compare left)
    by_case true e = λ t. converts-from (same-tells a b e)
    by_case false e = h

-- terms that are found convertible convert
pub convertible-converts : ConvertibleConverts
unfolding IsComparison
convertible-converts S zero a b left = tt
convertible-converts S (suc room) a b left =
    if_low-has _ (is_low a && is_low b) _ left (λ low.
    charge-has _ _ left (λ rest.
    unless_same-show S a b _ rest
    (on_heads-show S (Converts S) a b _ rest (λ c d end hc hd.
    weaker (heads_convertible (convertible_of S room) c d end) (between hc hd)
    (heads-convert S (convertible_of S room) (convertible-converts S room) c d end)))))

IsSubtyping : Signature → (Term → Term → ℕ → Spent Bool) → Type 0
IsSubtyping S compare = (a b : Term) (left : ℕ) → Answers (Shows (Below S a b)) (compare a b left)

heads-below : (S : Signature) (compare order : Term → Term → ℕ → Spent Bool) → IsComparison S compare → IsSubtyping S order → IsSubtyping S (heads_below compare order)
unfolding IsComparison IsSubtyping
heads-below S compare order h k (Sort i) (Sort j) left = λ t. sorts (grind (arith, nat_tests))
heads-below S compare order h k (Pi a b) (Pi c d) left = children-show (compare a c) (order b d) left products (h a c) (k b d)
heads-below S compare order h k a b left = weaker (compare a b left) converts (h a b left)

-- a term that is found below another one is below it
pub subtype-is_below : SubtypeIsBelow
unfolding IsComparison IsSubtyping
subtype-is_below S zero a b left = tt
subtype-is_below S (suc room) a b left =
    if_low-has _ (is_low a && is_low b) _ left (λ low.
    charge-has _ _ left (λ rest.
    on_heads-show S (Below S) a b _ rest (λ c d end hc hd.
    weaker (heads_below (convertible_of S room) (subtype_of S room) c d end)
    (λ m. trans (converts hc) (trans m (converts (converts-sym hd))))
    (heads-below S (convertible_of S room) (subtype_of S room) (convertible-converts S room) (subtype-is_below S room) c d end))))

-- a comparison that gives no units back
Spends : (Term → Term → ℕ → Spent Bool) → Type 0
Spends compare = (a b : Term) (left : ℕ) → (compare a b left).1 ≤ left

second_if-spends : (holds : Bool) (second : ℕ → Spent Bool) (left : ℕ) → ((rest : ℕ) → (second rest).1 ≤ rest) → (second_if holds second left).1 ≤ left
second_if-spends true second left h = h left
second_if-spends false second left h = omega arith

both-spend : (first second : ℕ → Spent Bool) (left : ℕ) → ((rest : ℕ) → (first rest).1 ≤ rest) → ((rest : ℕ) → (second rest).1 ≤ rest) → (both first second left).1 ≤ left
both-spend first second left h k =
    and_next-spends (first left) _ left (h left) (λ holds rest. second_if-spends holds second rest k)

on_heads-spend : (S : Signature) (a b : Term) (compare : Term → Term → ℕ → Spent Bool) (left : ℕ) → Spends compare → (on_heads S a b compare left).1 ≤ left
unfolding Spends
on_heads-spend S a b compare left h =
    and_next-spends (whnf_of S true left a) _ left (whnf-spends S true left a) (λ c rest.
    and_next-spends (whnf_of S true rest b) _ rest (whnf-spends S true rest b) (λ d end. h c d end))

heads_convertible-spends : (compare : Term → Term → ℕ → Spent Bool) → Spends compare → Spends (heads_convertible compare)
unfolding Spends
heads_convertible-spends compare h (Pi a b) (Pi c d) left = both-spend (compare a c) (compare b d) left (h a c) (h b d)
heads_convertible-spends compare h (Lam a b) (Lam c d) left = both-spend (compare a c) (compare b d) left (h a c) (h b d)
heads_convertible-spends compare h (App a b) (App c d) left = both-spend (compare a c) (compare b d) left (h a c) (h b d)
heads_convertible-spends compare h (Var n) (Var m) left = omega arith
heads_convertible-spends compare h (Sort i) (Sort j) left = omega arith
heads_convertible-spends compare h (Fam f) (Fam g) left = omega arith
heads_convertible-spends compare h (Con f c) (Con g d) left = omega arith
heads_convertible-spends compare h (Elim f m) (Elim g n) left = omega arith
heads_convertible-spends compare h (AxiomK i m) (AxiomK j n) left = omega arith
heads_convertible-spends compare h _ _ left = omega arith

unless_same-spends : (t : Bool) (compare : ℕ → Spent Bool) (left : ℕ) → (compare left).1 ≤ left → (unless_same t compare left).1 ≤ left
unless_same-spends true compare left h = omega arith
unless_same-spends false compare left h = h

pub convertible-spends : ConvertibleSpends
unfolding Spends
convertible-spends S zero a b left = omega arith
convertible-spends S (suc room) a b left =
    if_low-spends (is_low a && is_low b) _ left
    (charge-spends _ left (λ rest.
    unless_same-spends (same a b) _ rest
    (on_heads-spend S a b _ rest (heads_convertible-spends (convertible_of S room) (convertible-spends S room)))))

heads_below-spends : (compare order : Term → Term → ℕ → Spent Bool) → Spends compare → Spends order → Spends (heads_below compare order)
unfolding Spends
heads_below-spends compare order h k (Sort i) (Sort j) left = omega arith
heads_below-spends compare order h k (Pi a b) (Pi c d) left = both-spend (compare a c) (order b d) left (h a c) (k b d)
heads_below-spends compare order h k a b left = h a b left

pub subtype-spends : SubtypeSpends
unfolding Spends
subtype-spends S zero a b left = omega arith
subtype-spends S (suc room) a b left =
    if_low-spends (is_low a && is_low b) _ left
    (charge-spends _ left (λ rest.
    on_heads-spend S a b _ rest (heads_below-spends (convertible_of S room) (subtype_of S room) (convertible-spends S room) (subtype-spends S room))))
