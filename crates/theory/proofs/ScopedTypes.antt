-- The types that scoped records bring along are closed.
use Rattle.std.proofs.Common.{◌≡◌, ℕ, zero, suc, ◌+◌, ◌≤◌, List, [], ◌∷◌, map, All, length, refl, ap, arith}
use Rattle.std.proofs.lemmas.List.{length-map}
use Rattle.std.proofs.lemmas.List.Elements.{All-nil, All-cons, All-head, All-tail}
use Rattle.theory.specs.Terms.{Term, free_of, IsClosed}
use Rattle.theory.specs.Terms.Term.{Var, Sort, Pi, App, Fam, Con}
use Rattle.theory.specs.Substitutions.{weaken, inst, ups, extend, fill}
use Rattle.theory.specs.Telescopes.{Telescope, products, applied, variables, weaken_by, inst_telescope}
use Rattle.theory.specs.Families.{Argument, Plain, Recursive, Constructor, Family, index_types, argument_types, constructor_telescope, family_head}
use Rattle.theory.specs.Eliminators.{motive_type, hypothesis_type, hypothesis_types, method_type, method_types}
use Rattle.theory.specs.Scopes.{IsTelescopeOver, AreArgumentsOver, IsConstructorOver, IsClosedFamily}
use Rattle.theory.specs.ScopeLaws.{FamilyTypeClosed, ConstructorTypeClosed, EliminatorTypeClosed, AxiomKTypeClosed}
use Rattle.theory.proofs.FreeInstances.{free_of-weaken, free_of-weaken_by, free_of-ups, free_of-inst, free_of-extend, free_of-fill, free_of-map_inst, free_of-variables}
use Rattle.theory.proofs.Scopes.{Scoped, Places, scoped-products, scoped-applied, scoped-arrows, scoped-weaken, scoped-raised, scoped-arguments, length-argument_types}

-- there are k nearest variables
pub length-variables : (k : ℕ) → length (variables k) ≡ k
length-variables zero = refl
length-variables (suc k) = ap suc (length-variables k)

scoped-variables : (k : ℕ) → All (Scoped k) (variables k)
scoped-variables k = free_of-variables k k (omega arith)

-- a family at its parameters
pub scoped-head : (number : ℕ) (f : Family) → free_of (family_head number f) ≤ length f.parameters
scoped-head number f = scoped-applied (Fam number) _ (length f.parameters) (omega arith) (scoped-variables (length f.parameters))

-- products over parameters are closed
closed-products : (tele : Telescope) (body : Term) → IsTelescopeOver 0 tele → free_of body ≤ length tele
    → IsClosed (products tele body)
closed-products tele body st sb = omega (arith, scoped-products tele body 0 st (omega arith))

-- the type of a scoped family
pub family_type_closed : FamilyTypeClosed
family_type_closed f scoped =
    closed-products f.parameters _ scoped.parameters
    (scoped-products (index_types f) (Sort f.level) (length f.parameters) scoped.indices (omega arith))

-- the type of a scoped constructor
pub constructor_type_closed : ConstructorTypeClosed
constructor_type_closed number f c sp sc =
    let k = length c.arguments in
    let p = length f.parameters in
    let head = family_head number f in
    let types = length-argument_types Var head c.arguments in
    let end : free_of (applied (weaken_by k head) c.targets) ≤ p + k =
    scoped-applied (weaken_by k head) c.targets (p + k) (free_of-weaken_by k head p (scoped-head number f)) sc.targets in
    closed-products f.parameters _ sp
    (scoped-products (constructor_telescope number f c) _ p
    (scoped-arguments Var head c.arguments p p (λ i lt. omega arith) (scoped-head number f) sc.arguments)
    (omega (arith, end, types)))

-- the type of K
pub axiom_k_type_closed : AxiomKTypeClosed
axiom_k_type_closed i m = refl

-- the type of a motive
pub scoped-motive : (number : ℕ) (f : Family) (m : ℕ) → IsClosedFamily f
    → free_of (motive_type number f m) ≤ length f.parameters
scoped-motive number f m scoped =
    let k = length f.indices in
    let p = length f.parameters in
    let head : free_of (applied (weaken_by k (family_head number f)) (variables k)) ≤ p + k =
    scoped-applied _ (variables k) (p + k) (free_of-weaken_by k _ p (scoped-head number f))
    (free_of-variables k (p + k) (omega arith)) in
    scoped-products (index_types f) _ p scoped.indices (omega (arith, head, length-map f.indices (λ i. i.0)))

-- the type of a hypothesis
pub scoped-hypothesis : (s : ℕ → Term) (P r : Term) (inner : Telescope) (targets : List Term) (k n : ℕ) → Places s k n
    → free_of P ≤ n → free_of r ≤ n → IsTelescopeOver k inner → All (Scoped (k + length inner)) targets
    → free_of (hypothesis_type s P r inner targets) ≤ n
scoped-hypothesis s P r [] targets k n each hp hr si st =
    omega (
      arith,
      scoped-applied P (map (inst s) targets) n hp
          (free_of-map_inst s targets k n each (scoped-raised targets (k + 0) k (omega arith) st)),
    )
scoped-hypothesis s P r (a ∷ inner) targets k n each hp hr si st =
    let hw = free_of-weaken r n hr in
    omega (
      arith,
      free_of-inst s a k n si.0 each,
      scoped-hypothesis (ups s) (weaken P) (App (weaken r) (Var 0)) inner targets (k + 1) (n + 1) (free_of-ups s k n each)
          (free_of-weaken P n hp) (omega arith) si.1
          (scoped-raised targets (k + suc (length inner)) ((k + 1) + length inner) (omega arith) st),
    )

-- the types of the hypotheses
pub scoped-hypotheses : (s : ℕ → Term) (P : Term) (arguments : List Argument) (us : List Term) (k n : ℕ) → Places s k n
    → free_of P ≤ n → AreArgumentsOver k arguments → All (Scoped n) us → All (Scoped n) (hypothesis_types s P arguments us)
scoped-hypotheses s P [] us k n each hp sa su = All-nil (Scoped n)
scoped-hypotheses s P (Plain type level ∷ arguments) [] k n each hp sa su = All-nil (Scoped n)
scoped-hypotheses s P (Recursive inner targets level ∷ arguments) [] k n each hp sa su = All-nil (Scoped n)
scoped-hypotheses s P (Plain type level ∷ arguments) (u ∷ us) k n each hp sa su =
    scoped-hypotheses (extend s u) P arguments us (k + 1) n (free_of-extend s u k n each (All-head (Scoped n) u us su)) hp
    sa.1 (All-tail (Scoped n) u us su)
scoped-hypotheses s P (Recursive inner targets level ∷ arguments) (u ∷ us) k n each hp sa su =
    let hu = All-head (Scoped n) u us su in
    All-cons (Scoped n) _ _ (scoped-hypothesis s P u inner targets k n each hp hu sa.0.0 sa.0.1)
    (scoped-hypotheses (extend s u) P arguments us (k + 1) n (free_of-extend s u k n each hu) hp sa.1
    (All-tail (Scoped n) u us su))

-- the variables that are bound by a method's arguments, and those of the record after them
scoped-filled : (s : ℕ → Term) (j k n : ℕ) → Places s k n
    → Places (fill (λ i. weaken_by j (s i)) (variables j)) (k + j) (n + j)
scoped-filled s j k n each i lt =
    free_of-fill (λ v. weaken_by j (s v)) (variables j) k (n + j) (λ v h. free_of-weaken_by j (s v) n (each v h))
    (free_of-variables j (n + j) (omega arith)) i (omega (arith, length-variables j))

-- the type of a method
pub scoped-method : (s : ℕ → Term) (head con P : Term) (c : Constructor) (k n : ℕ) → Places s k n → free_of head ≤ n
    → free_of con ≤ n → free_of P ≤ n → IsConstructorOver k c → free_of (method_type s head con P c) ≤ n
scoped-method s head con P c k n each hh hc hp sc =
    let j = length c.arguments in
    let us = variables j in
    let inside : ℕ → Term = λ i. weaken_by j (s i) in
    let su : All (Scoped (n + j)) us = free_of-variables j (n + j) (omega arith) in
    let wp = free_of-weaken_by j P n hp in
    let left =
    scoped-applied (weaken_by j P) _ (n + j) wp
    (free_of-map_inst (fill inside us) c.targets (k + j) (n + j) (scoped-filled s j k n each) sc.targets) in
    let right = scoped-applied (weaken_by j con) us (n + j) (free_of-weaken_by j con n hc) su in
    let end =
    scoped-arrows (hypothesis_types inside (weaken_by j P) c.arguments us)
    (App (applied (weaken_by j P) (map (inst (fill inside us)) c.targets)) (applied (weaken_by j con) us)) (n + j)
    (scoped-hypotheses inside (weaken_by j P) c.arguments us k (n + j) (λ i lt. free_of-weaken_by j (s i) n (each i lt)) wp
    sc.arguments su)
    (omega (arith, left, right)) in
    scoped-products (argument_types s head c.arguments) _ n (scoped-arguments s head c.arguments k n each hh sc.arguments)
    (omega (arith, end, length-argument_types s head c.arguments))

-- the types of the methods
pub scoped-methods : (s : ℕ → Term) (family : ℕ) (ps : List Term) (P : Term) (number : ℕ) (cs : List Constructor) (k n : ℕ)
    → Places s k n → All (Scoped n) ps → free_of P ≤ n → All (IsConstructorOver k) cs
    → All (Scoped n) (method_types s family ps P number cs)
scoped-methods s family ps P number [] k n each sp hp sc = All-nil (Scoped n)
scoped-methods s family ps P number (c ∷ cs) k n each sp hp sc =
    All-cons (Scoped n) _ _
    (scoped-method s (applied (Fam family) ps) (applied (Con family number) ps) P c k n each
    (scoped-applied (Fam family) ps n (omega arith) sp) (scoped-applied (Con family number) ps n (omega arith) sp) hp
    (All-head (IsConstructorOver k) c cs sc))
    (scoped-methods s family ps P (number + 1) cs k n each sp hp (All-tail (IsConstructorOver k) c cs sc))

-- a telescope with terms put for the variables that it is over
pub scoped-inst_telescope : (s : ℕ → Term) (tele : Telescope) (k n : ℕ) → Places s k n → IsTelescopeOver k tele
    → IsTelescopeOver n (inst_telescope s tele)
scoped-inst_telescope s [] k n each st = tt
scoped-inst_telescope s (a ∷ tele) k n each st =
    (free_of-inst s a k n st.0 each, scoped-inst_telescope (ups s) tele (k + 1) (n + 1) (free_of-ups s k n each) st.1)

-- an instantiation keeps the length of a telescope
pub length-inst_telescope : (s : ℕ → Term) (tele : Telescope) → length (inst_telescope s tele) ≡ length tele
length-inst_telescope s [] = refl
length-inst_telescope s (a ∷ tele) = ap suc (length-inst_telescope (ups s) tele)

-- (I) -> (x : D p I) -> P I x, where P is the nearest variable
abbrev conclusion : ℕ → Family → Term
conclusion number f =
    let k = length f.indices in
    let ps = map weaken (variables (length f.parameters)) in
    products (inst_telescope (λ v. Var (suc v)) (index_types f))
    (Pi (applied (weaken_by k (applied (Fam number) ps)) (variables k))
    (App (applied (Var (k + 1)) (map weaken (variables k))) (Var 0)))

scoped-conclusion : (number : ℕ) (f : Family) → IsClosedFamily f → free_of (conclusion number f) ≤ length f.parameters + 1
scoped-conclusion number f scoped =
    let k = length f.indices in
    let p = length f.parameters in
    let s : ℕ → Term = λ v. Var (suc v) in
    let ps = map weaken (variables p) in
    let head = scoped-applied (Fam number) ps (p + 1) (omega arith) (scoped-weaken (variables p) p (scoped-variables p)) in
    let domain =
    scoped-applied (weaken_by k (applied (Fam number) ps)) (variables k) ((p + 1) + k)
    (free_of-weaken_by k (applied (Fam number) ps) (p + 1) head)
    (free_of-variables k ((p + 1) + k) (omega arith)) in
    let spine =
    scoped-applied (Var (k + 1)) (map weaken (variables k)) (((p + 1) + k) + 1) (omega arith)
    (scoped-raised (map weaken (variables k)) (k + 1) (((p + 1) + k) + 1) (omega arith) (scoped-weaken (variables k) k (scoped-variables k))) in
    scoped-products (inst_telescope s (index_types f)) _ (p + 1)
    (scoped-inst_telescope s (index_types f) p (p + 1) (λ i lt. omega arith) scoped.indices)
    (omega (arith, domain, spine, length-inst_telescope s (index_types f), length-map f.indices (λ i. i.0)))

-- the type of an eliminator of a scoped family
pub eliminator_type_closed : EliminatorTypeClosed
eliminator_type_closed number f m scoped =
    let p = length f.parameters in
    let s : ℕ → Term = λ v. Var (suc v) in
    let ps = map weaken (variables p) in
    let methods =
    scoped-arrows (method_types s number ps (Var 0) 0 f.constructors) _ (p + 1)
    (scoped-methods s number ps (Var 0) 0 f.constructors p (p + 1) (λ i lt. omega arith)
    (scoped-weaken (variables p) p (scoped-variables p)) (omega arith) scoped.constructors)
    (scoped-conclusion number f scoped) in
    closed-products f.parameters _ scoped.parameters (omega (arith, scoped-motive number f m scoped, methods))
