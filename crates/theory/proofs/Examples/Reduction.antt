-- The right side of iota, one step of each kind and at each place, conversion, cumulativity.
use Rattle.std.proofs.Common.{◌≡◌, ◌≢◌, ℕ, List, [], ◌∷◌, refl, arith, slice_get, ap, sym, ◌∙◌, lit≤, lit<, IsTrue, subst as transport, ◌++◌}
use Rattle.theory.specs.Terms.{Term, Var, Sort, Pi, Lam, App, Let, Const, Elim, AxiomK}
use Rattle.theory.specs.Substitutions.{weaken}
use Rattle.theory.specs.Telescopes.{applied}
use Rattle.theory.specs.Eliminators.{iota_right}
use Rattle.theory.specs.Signatures.{Signature, Definition, IsEntryAt, HasIdentity, reflexivity}
use Rattle.theory.specs.Conversion.{Contracts, beta, zeta, delta, iota, axiom_k, Step, here, domain, codomain, annotation, body, function, argument, let_type, let_value, let_body, Converts, same, forwards, backwards, Below, converts, sorts, products, trans}
use Rattle.theory.proofs.Lists.{some_is}
use Rattle.theory.proofs.Examples.Forms.{const_number, body_same}
use Rattle.theory.proofs.Examples.Sample.{nat, vec, tree, Nat, zero_term, suc_of, suc_constructor, cons, node, nat_family, two, sample}

-- Nat!elim.m P z s (suc n) steps to s n (Nat!elim.m P z s n)
suc_iota : (m : ℕ) (P z s n : Term) → iota_right nat m [] P (z ∷ s ∷ []) suc_constructor.arguments s (n ∷ [])
    ≡ App (App s n) (App (App (App (App (Elim nat m) P) z) s) n)
suc_iota m P z s n = refl

-- Vec!elim.m A P x f k (cons B n a v) steps to f n a v (Vec!elim.m A P x f n v)
cons_iota : (m : ℕ) (A P x f n a v : Term) → iota_right vec m (A ∷ []) P (x ∷ f ∷ []) cons.arguments f (n ∷ a ∷ v ∷ [])
    ≡ App (App (App (App f n) a) v) (App (App (App (App (App (App (Elim vec m) A) P) x) f) n) v)
cons_iota m A P x f n a v = refl

-- Tree!elim.m P f (node g) steps to f g (\n. Tree!elim.m P f (g n))
node_iota : (m : ℕ) (P f g : Term) → iota_right tree m [] P (f ∷ []) node.arguments f (g ∷ [])
    ≡ App (App f g) (Lam Nat (App (App (App (Elim tree m) (weaken P)) (weaken f)) (App (weaken g) (Var 0))))
node_iota m P f g = refl

-- (\x. x x) u steps to u u
beta_step : (a u : Term) → Step sample (App (Lam a (App (Var 0) (Var 0))) u) (App u u)
beta_step a u = here beta

-- let x : A = t in x x steps to t t
zeta_step : (a t : Term) → Step sample (Let a t (App (Var 0) (Var 0))) (App t t)
zeta_step a t = here zeta

-- two steps to suc (suc zero)
two_is_given : two ≢ Const 8
two_is_given e = grind arith

delta_step : Step sample (Const 8) (suc_of (suc_of zero_term))
delta_step = here (delta 8 refl two_is_given)

-- a provisional constant takes no step, in any signature
provisional_is_stuck : (S : Signature) (n : ℕ) (name : List ℕ) (type : Term) → IsEntryAt S n (Definition name type (Const n))
    → (t u : Term) → t ≡ Const n → Step S t u → ⊥
provisional_is_stuck S n name type at t u e (here beta) = grind arith
provisional_is_stuck S n name type at t u e (here zeta) = grind arith
provisional_is_stuck S n name type at t u e (here (delta m found given)) =
    let number : m ≡ n = const_number e in
    given (body_same (some_is (sym found ∙ (ap (slice_get S.entries) number ∙ at))) ∙ ap Const (sym number))
provisional_is_stuck S n name type at t u e (here (iota k m number f c ps P ms is qs us found constructor redex method)) = grind arith
provisional_is_stuck S n name type at t u e (here (axiom_k i m on identity)) = grind arith
provisional_is_stuck S n name type at t u e _ = grind arith

iota_step : (P z s n : Term) → Step sample (App (App (App (App (Elim nat 0) P) z) s) (suc_of n)) (App (App s n) (App (App (App (App (Elim nat 0) P) z) s) n))
iota_step P z s n = here (iota nat 0 1 nat_family suc_constructor [] P (z ∷ s ∷ []) [] [] (n ∷ []) refl refl (record { parameters = refl; methods = refl; indices = refl; constructor_parameters = refl; arguments = refl }) refl)

k_step : (A a P d B b : Term) → Step sample (App (App (App (App (App (AxiomK 0 1) A) a) P) d) (reflexivity 0 B b)) d
k_step A a P d B b = here (axiom_k 0 1 refl (record { level = lit< tt; entry = refl }))

-- a step at each place, in terms that hold the constant two
two_step : Step sample (Const 8) two
two_step = delta_step

places : (t : Term)
    → Step sample (Pi (Const 8) t) (Pi two t) × Step sample (Pi t (Const 8)) (Pi t two) × Step sample (Lam (Const 8) t) (Lam two t)
    × Step sample (Lam t (Const 8)) (Lam t two) × Step sample (App (Const 8) t) (App two t) × Step sample (App t (Const 8)) (App t two)
    × Step sample (Let (Const 8) t t) (Let two t t) × Step sample (Let t (Const 8) t) (Let t two t) × Step sample (Let t t (Const 8)) (Let t t two)
places t = (domain two_step, codomain two_step, annotation two_step, body two_step, function two_step, argument two_step, let_type two_step, let_value two_step, let_body two_step)

-- suc (suc zero) and (\x. suc x) (suc zero) convert by a step backwards, and with two by one forwards before it
converts_back : Converts sample two (App (Lam Nat (suc_of (Var 0))) (suc_of zero_term))
converts_back = backwards (here beta) same

converts_both_ways : Converts sample (Const 8) (App (Lam Nat (suc_of (Var 0))) (suc_of zero_term))
converts_both_ways = forwards two_step converts_back

-- A -> Type 0 is below A -> Type 2, and so where a domain is converted
below_products : (a : Term) → Below sample (Pi a (Sort 0)) (Pi a (Sort 2))
below_products a = products same (sorts (lit≤ tt))

below_converted : (b : Term) → Below sample (Pi (App b (Const 8)) (Sort 0)) (Pi (App b two) (Sort 1))
below_converted b = trans (converts (forwards (domain (argument two_step)) same)) (products same (sorts (lit≤ tt)))

-- the head of a spine, and K at reflexivity: it steps only where K is on and Eq.i is there
head_of : Term → Term
head_of (App f a) = head_of f
head_of t = t

head_of-applied : (f : Term) (spine : List Term) → head_of (applied f spine) ≡ head_of f
unfolding head_of
head_of-applied f [] = refl
head_of-applied f (a ∷ spine) = head_of-applied (App f a) spine

k_needs : (S : Signature) (i m : ℕ) (A a P d B b t u : Term)
    → t ≡ App (App (App (App (App (AxiomK i m) A) a) P) d) (reflexivity i B b) → Contracts S t u → IsTrue S.has_k × HasIdentity S i
unfolding head_of
k_needs S i m A a P d B b t u e (beta {a = c} {b = f}) = let head : Lam c f ≡ AxiomK i m = ap head_of e in absurd (grind arith)
k_needs S i m A a P d B b t u e zeta = absurd (grind arith)
k_needs S i m A a P d B b t u e (delta n found given) = absurd (grind arith)
k_needs S i m A a P d B b t u e (iota n m' number f c ps P' ms is qs us found constructor redex method) =
    let head : Elim n m' ≡ AxiomK i m = sym (head_of-applied (Elim n m') (ps ++ P' ∷ (ms ++ is))) ∙ ap head_of e in
    absurd (grind arith)
k_needs S i m A a P d B b t u e (axiom_k i' m' on identity) =
    let head : AxiomK i' m' ≡ AxiomK i m = ap head_of e in
    let same : i' ≡ i = grind arith in
    (on, transport (HasIdentity S) same identity)
