-- An entry over more than 2,000 parameters, constructors or arguments is too high, and so is one that compares a constructor of
-- more than 1,000 arguments with itself.
use Rattle.std.proofs.Common.{◌≡◌, ℕ, ◌+◌, ◌≤◌, ◌<◌, Bool, true, false, nat_le, cond, List, [], ◌∷◌, ◌++◌, length, Err, refl, subst, arith}
use Rattle.std.proofs.lemmas.Bool.Decides.{nat_tests}
use Rattle.std.proofs.lemmas.List.{length-map}
use Rattle.theory.specs.Terms.{Term, height}
use Rattle.theory.specs.Terms.Term.{Var, Sort, Pi, Lam, App}
use Rattle.core_terms.specs.Levels.{place_under, place, over}
use Rattle.core_terms.specs.declared.levels.Binder.TheVariants.{Function}
use Rattle.core_terms.specs.declared.stop.Stop.TheVariants.{Deep}
use Rattle.core_terms.proofs.Placing.{height-over, height-functions}
use Rattle.core_sig.specs.declared.family.ArgKind.{ArgKind}
use Rattle.core_sig.specs.declared.family.ArgKind.TheVariants.{Plain, Recursive}
use Rattle.core_sig.specs.Shapes.{ArgumentShape, ConstructorShape, Shape, types_of, by_kind, recursive_count, HaveFewArguments, IsFew}
use Rattle.case_below_gen.specs.CourseEntries.{applied_to_methods}
use Rattle.case_below_gen.proofs.FewMethods.{few-methods, drafted-deep}
use Rattle.generators.proofs.acyclic_gen.DirectLevels.{directs-some}
use Rattle.tele_eq.proofs.Growing.{snoc-append}
use Rattle.generators.specs.acyclic_gen.Statements.{carrier_at, no_part, has_direct, directs}
use Rattle.generators.specs.acyclic_gen.Claims.{pushed_part, hypothesis, hypotheses_over, method_over, eliminator}
use Rattle.generators.specs.acyclic_gen.DirectEntries.{carrier_of, parts_type, direct_method, direct_type, direct_term, direct_name, direct_draft}
use Rattle.generators.specs.acyclic_gen.Pushing.{branch_of, branch_point, pushed_pair, push_method, pushing}
use Rattle.generators.specs.acyclic_gen.AcyclicEntries.{with_part, pushes, acyclic_method, next_noconf, applied_to_acyclic_methods, acyclic_type, acyclic_term, acyclic_name, names_for, acyclic_draft}
use Rattle.generators.specs.acyclic_gen.Bounds.{AreLow, AreSmallArguments, HaveSmallArguments, IsSmallShape}
use Rattle.generators.specs.declared.acyclic_gen.carrier.Carrier.{Carrier}
use Rattle.generators.specs.declared.acyclic_gen.claims.Claim.{Claim}
use Rattle.generators.specs.declared.acyclic_gen.claims.Claim.TheVariants.{Direct, Acyclic, Pushed}
use Rattle.generators.specs.declared.acyclic_gen.claims.Push.{Push}
use Rattle.generators.specs.declared.acyclic_gen.direct_arguments.Direct.{Direct as DirectArgument}

-- ---- methods

height-hypotheses : (claim : Claim) (q : Carrier) (first at depth : ℕ) (arguments : List ArgumentShape) (end : Term) → height end ≤ height (hypotheses_over claim q first at depth arguments end)
height-hypotheses claim q first at depth [] end = omega arith
height-hypotheses claim q first at depth (a ∷ arguments) end =
    by a.kind (height-hypotheses claim q first (at + 1) depth arguments end) (height-hypotheses claim q first (at + 1) (depth + 1) arguments end)
  where
    by : (kind : ArgKind) → height end ≤ height (hypotheses_over claim q first (at + 1) depth arguments end) → height end ≤ height (hypotheses_over claim q first (at + 1) (depth + 1) arguments end)
        → height end ≤ height (by_kind kind (hypotheses_over claim q first (at + 1) depth arguments end) (λ count. Lam (hypothesis claim q first at depth count a.type) (hypotheses_over claim q first (at + 1) (depth + 1) arguments end)))
    by Plain plain recursive = plain
    by (Recursive count) plain recursive = omega arith

-- a method is as high as its arguments are many, above its end
height-method : (claim : Claim) (q : Carrier) (depth : ℕ) (c : ConstructorShape) (end : Term) → height end + length c.arguments ≤ height (method_over claim q depth c end)
height-method claim q depth c end =
    let count = length c.arguments in
    let inner = height-hypotheses claim q depth 0 (depth + count) c.arguments end in
    let outer = height-over Function ((0, q.params) ∷ (depth, count) ∷ []) q.params depth (types_of c.arguments) (hypotheses_over claim q depth 0 (depth + count) c.arguments end) in
    let types = length-map c.arguments (λ a. a.type) in
    omega arith

low-place : (runs : List (ℕ × ℕ)) (size depth : ℕ) (t : Term) → height (place runs size depth t) ≤ 2000 → height t ≤ 2000
low-place runs size depth t low = by (nat_le (height t) 2000) refl
  where
    by : (b : Bool) → nat_le (height t) 2000 ≡ b → height t ≤ 2000
    by true e = grind (arith, nat_tests)
    by false e = subst (λ b. height (cond b (place_under runs size depth 0 t) t) ≤ 2000) e low

low-over : (runs : List (ℕ × ℕ)) (size depth : ℕ) (arguments : List ArgumentShape) (end : Term) → height (over Function runs size depth (types_of arguments) end) ≤ 2000 → AreLow arguments
low-over runs size depth [] end low = tt
low-over runs size depth (a ∷ arguments) end low =
    (low-place runs size depth a.type (omega arith), low-over runs (size + 1) (depth + 1) arguments end (omega arith))

low-method : (claim : Claim) (q : Carrier) (depth : ℕ) (c : ConstructorShape) (end : Term) → height (method_over claim q depth c end) ≤ 2000 → AreLow c.arguments
low-method claim q depth c end low =
    let count = length c.arguments in
    low-over ((0, q.params) ∷ (depth, count) ∷ []) q.params depth c.arguments (hypotheses_over claim q depth 0 (depth + count) c.arguments end) low

-- ---- D!direct

few-direct : (f : Shape) (q : Carrier) → length f.indices ≤ 2000 → height (direct_term f q) ≤ 2000 → IsFew f
few-direct f q indices low =
    let inside = q.params + 2 in
    let head = eliminator Direct q inside in
    let end = Lam (Pi (carrier_at q q.params) (Sort q.level)) (Lam (carrier_at q (q.params + 1)) (App (applied_to_methods (λ i c. direct_method q inside c) 0 head f.constructors) (Var 0))) in
    let outer = height-functions f.parameters end in
    let inner = few-methods (λ i c. direct_method q inside c) 0 head f.constructors least (omega arith) in
    let count = inner.1 in
    record { parameters = omega arith; indices = indices; constructors = omega arith; arguments = inner.0 }
  where
    least : (i : ℕ) (c : ConstructorShape) → length c.arguments ≤ height (direct_method q (q.params + 2) c)
    least i c =
        let depth = q.params + 2 in
        let inside = depth + length c.arguments in
        let whole = height-method Direct q depth c (parts_type q (inside + recursive_count c.arguments) (directs depth inside c.arguments)) in
        omega arith

pub direct-deep : (base : ℕ) (name : List ℕ) (n : ℕ) (f : Shape) → length f.indices ≤ 2000 → ¬ IsFew f → Err Deep ≡ direct_draft base name n f
direct-deep base name n f indices many =
    let q = carrier_of n f base in
    drafted-deep (direct_name name) base [] (direct_type f q) (direct_term f q) (λ low. many (few-direct f q indices low))

-- ---- D!acyclic

-- the head, and the method for one of the constructors, are parts of the whole term
height-among : (method : ℕ → ConstructorShape → Term) (number : ℕ) (head : Term) (constructors : List ConstructorShape) → height head ≤ height (applied_to_methods method number head constructors)
height-among method number head [] = omega arith
height-among method number head (c ∷ constructors) =
    let rest = height-among method (number + 1) (App head (method number c)) constructors in omega arith

method-among : (method : ℕ → ConstructorShape → Term) (k number : ℕ) (head : Term) (earlier : List ConstructorShape) (c : ConstructorShape) (later : List ConstructorShape)
    → ((i : ℕ) → k ≤ height (method i c)) → k ≤ height (applied_to_methods method number head (earlier ++ c ∷ later))
method-among method k number head [] c later least =
    let rest = height-among method (number + 1) (App head (method number c)) later in
    let here = least number in
    omega arith
method-among method k number head (e ∷ earlier) c later least =
    method-among method k (number + 1) (App head (method number e)) earlier c later least

-- a push has a method for the constructor itself
push-least : (q : Carrier) (earlier : List ConstructorShape) (c : ConstructorShape) (later : List ConstructorShape) (push : Push) (own : List ArgumentShape) (depth : ℕ)
    → length c.arguments ≤ height (pushing q (earlier ++ c ∷ later) push own depth)
push-least q earlier c later push own depth =
    method-among (push_method q push own depth) (length c.arguments) 0 (eliminator (Pushed push) q depth) earlier c later least
  where
    least : (i : ℕ) → length c.arguments ≤ height (push_method q push own depth i c)
    least i =
        let branch = branch_of depth i c in
        let pair = pushed_pair q push own branch (directs depth branch.hypothesis c.arguments) in
        let whole = height-method (Pushed push) q depth c (Lam (no_part q branch.given (pushed_part push) (branch_point branch)) pair) in
        omega arith

pushes-least : (q : Carrier) (constructors : List ConstructorShape) (push : Push) (own : List ArgumentShape) (depth k : ℕ) (ds : List DirectArgument)
    → 0 < length ds → ((p : Push) → k ≤ height (pushing q constructors p own depth)) → k ≤ height (pushes q constructors push own depth ds)
pushes-least q constructors push own depth k [] some least = elim some [ ]
pushes-least q constructors push own depth k (d ∷ ds) some least = let here = least (with_part push d.argument) in omega arith

-- the arguments of a constructor with direct ones
small-method : (q : Carrier) (earlier : List ConstructorShape) (c : ConstructorShape) (later : List ConstructorShape) (depth number noconf : ℕ)
    → height (acyclic_method q (earlier ++ c ∷ later) depth number noconf c) ≤ 2000 → has_direct c.arguments ≡ true → AreSmallArguments c.arguments
small-method q earlier c later depth number noconf low has =
    let count = length c.arguments in
    let inside = depth + count in
    let whole = inside + recursive_count c.arguments in
    let push : Push = record { constructor = number; noconf = noconf; first = depth; count = count; part = depth } in
    let end = pushes q (earlier ++ c ∷ later) push c.arguments whole (directs depth inside c.arguments) in
    let inner = pushes-least q (earlier ++ c ∷ later) push c.arguments whole count (directs depth inside c.arguments) (directs-some depth inside c.arguments has) (λ p. push-least q earlier c later p c.arguments whole) in
    let outer = height-method Acyclic q depth c end in
    record { few = omega arith; low = low-method Acyclic q depth c end low }

few-acyclic-methods : (q : Carrier) (depth number noconf : ℕ) (head : Term) (earlier cs : List ConstructorShape)
    → height (applied_to_acyclic_methods q (earlier ++ cs) depth number noconf head cs) ≤ 2000
    → HaveFewArguments cs × HaveSmallArguments cs × (height head + length cs ≤ height (applied_to_acyclic_methods q (earlier ++ cs) depth number noconf head cs))
few-acyclic-methods q depth number noconf head earlier [] low = (tt, tt, omega arith)
few-acyclic-methods q depth number noconf head earlier (c ∷ cs) low =
    let method = acyclic_method q (earlier ++ c ∷ cs) depth number noconf c in
    let e : (earlier ++ c ∷ []) ++ cs ≡ earlier ++ c ∷ cs = snoc-append earlier c cs in
    let next = next_noconf noconf c.arguments in
    let rest = subst (λ all. height (applied_to_acyclic_methods q all depth (number + 1) next (App head method) cs) ≤ 2000 → HaveFewArguments cs × HaveSmallArguments cs × (height (App head method) + length cs ≤ height (applied_to_acyclic_methods q all depth (number + 1) next (App head method) cs))) e (few-acyclic-methods q depth (number + 1) next (App head method) (earlier ++ c ∷ []) cs) low in
    let tail = rest.2 in
    let count = length c.arguments in
    let push : Push = record { constructor = number; noconf = noconf; first = depth; count = count; part = depth } in
    let end = pushes q (earlier ++ c ∷ cs) push c.arguments (depth + count + recursive_count c.arguments) (directs depth (depth + count) c.arguments) in
    let here = height-method Acyclic q depth c end in
    ((omega arith, rest.0), (small-method q earlier c cs depth number noconf (omega arith), rest.1), omega arith)

few-acyclic : (f : Shape) (q : Carrier) (noconf : ℕ) → length f.indices ≤ 2000 → height (acyclic_term f q noconf) ≤ 2000 → IsSmallShape f
few-acyclic f q noconf indices low =
    let inside = q.params + 1 in
    let head = eliminator Acyclic q inside in
    let end = Lam (carrier_at q q.params) (App (applied_to_acyclic_methods q f.constructors inside 0 noconf head f.constructors) (Var 0)) in
    let outer = height-functions f.parameters end in
    let inner = few-acyclic-methods q inside 0 noconf head [] f.constructors (omega arith) in
    let count = inner.2 in
    let few : IsFew f = record { parameters = omega arith; indices = indices; constructors = omega arith; arguments = inner.0 } in
    record { few = few; small = inner.1 }

pub acyclic-deep : (base : ℕ) (name : List ℕ) (names : List (List ℕ)) (n : ℕ) (f : Shape) → length f.indices ≤ 2000 → ¬ IsSmallShape f
    → Err Deep ≡ acyclic_draft base name names n f
acyclic-deep base name names n f indices many =
    let q = carrier_of n f base in
    drafted-deep (acyclic_name name) base (names_for name names f.constructors) (acyclic_type f q) (acyclic_term f q (base + 1))
    (λ low. many (few-acyclic f q (base + 1) indices low))
