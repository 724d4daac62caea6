-- The turn of a trial, by the constructors on both sides.
use Rattle.std.proofs.Common.{◌≡◌, ℕ, ◌+◌, ◌≤◌, ◌==◌, Bool, true, cond, Option, Some, Result, Ok, Err, List, length, take, drop, sym, ap, ap₂, ◌∙◌, arith}
use Rattle.std.proofs.lemmas.Bool.Decides.{nat_tests}
use Rattle.std.proofs.lemmas.List.{length-map, length-take, length-drop}
use Rattle.theory.specs.Terms.{Term, height}
use Rattle.theory.specs.Spines.{spine_of}
use Rattle.theory.specs.Signatures.{Signature}
use Rattle.core_terms.specs.Answers.{Spent}
use Rattle.core_terms.specs.CaseTrees.{Step}
use Rattle.core_terms.specs.Meanings.{tree_of, tele_of}
use Rattle.core_terms.specs.declared.case_tree.Rule.TheVariants.{Inject}
use Rattle.core_terms.specs.declared.stop.Stop.{Stop}
use Rattle.core_sig.specs.Meanings.{constructor_of, family_of}
use Rattle.unification.specs.Built as pure
use Rattle.unification.specs.Built.{built_of, has_no_indices}
use Rattle.unification.specs.Groups.{Membership, group_turn}
use Rattle.unification.specs.Constructors.{with_built, constructor_turn}
use Rattle.unification.specs.Heights.{injection_made}
use Rattle.unification.specs.States.{Equation, State}
use Rattle.unification.specs.Turns.{Goes, Trial, Turn, goes_to, type_in}
use Rattle.problems.specs.declared.built.Built.{Built}
use Rattle.core_terms.specs.declared.term.Term as code
use Rattle.kernel_reduce.proofs.SpineLengths.{spine_fits}
use Rattle.problems.proofs.BuiltCodes.{IsOf, from_code, of-built}

same-number : (x : ℕ) → (x == x) ≡ true
same-number x = grind (arith, nat_tests)

-- ---- a step to a state that is made

pub goes-made : (step : Step) (t : State) (made : Result State Stop) (left : ℕ) → Ok t ≡ made → ◌≡◌ {A = Spent (Option Turn)} (Ok (Some (Goes step t)), left) (goes_to step made left)
goes-made step t made left e = ap (λ made. goes_to step made left) e

pub goes-refused : (step : Step) (x : Stop) (made : Result State Stop) (left : ℕ) → Err x ≡ made → ◌≡◌ {A = Spent (Option Turn)} (Err x, left) (goes_to step made left)
goes-refused step x made left e = ap (λ made. goes_to step made left) e

-- ---- one constructor on both sides of an equation

-- the state after it, by the constructor that the code has found in the left side
abbrev pub made_of : State → (g k : ℕ) → Built → (ps : List Term) → (l r : Term) → Result State Stop
made_of s g k b ps l r =
    let f = b.record.now in
    injection_made s g b.family b.number (family_of f) (constructor_of k b.con.now) ps (drop (length f.params) (spine_of l)) (drop (length f.params) (spine_of r))

on-same : (x : ℕ) (test : Bool) (same none other : Trial) (left : ℕ) → true ≡ test → cond (x == x) (cond test same none) other left ≡ same left
on-same x test same none other left e =
    ap (λ b. cond b (cond test same none) other left) (same-number x) ∙ ap (λ b. cond b same none left) (sym e)

-- the injected state, with the numbers and lists of the definition
made-same : (s : State) (g k : ℕ) (b : Built) (ps : List Term) (l r : Term) → k ≡ length b.record.now.params → ps ≡ take (length b.record.now.params) (spine_of l)
    → injection_made s g b.family b.number (family_of b.record.now) (from_code b l).constructor (from_code b l).parameters (from_code b l).arguments (from_code b r).arguments
    ≡ made_of s g k b ps l r
made-same s g k b ps l r count is =
    let f = b.record.now in
    ap (λ n. injection_made s g b.family b.number (family_of f) (constructor_of (length f.params) b.con.now) (take n (spine_of l)) (drop n (spine_of l)) (drop n (spine_of r))) (length-map f.params tree_of)
    ∙ ap₂ (λ k ps. made_of s g k b ps l r) (sym count) (sym is)

pub turn-injects : (S : Signature) (s : State) (e : Equation) (l r : Term) (b : Built) (ps : List Term) (k left : ℕ) → IsOf S l b → IsOf S r b
    → true ≡ has_no_indices (family_of b.record.now) → k ≡ length b.record.now.params → ps ≡ take (length b.record.now.params) (spine_of l)
    → goes_to (record { group = 1; rule = Inject b.family b.number; ty = type_in e.type; left = l; right = r }) (made_of s 1 k b ps l r) left
    ≡ with_built (constructor_turn S s e) l r (built_of S l) (built_of S r) left
turn-injects S s e l r b ps k left hl hr none count is =
    let step : Step = record { group = 1; rule = Inject b.family b.number; ty = type_in e.type; left = l; right = r } in
    sym (ap₂ (λ x y. with_built (constructor_turn S s e) l r x y left) (of-built S l b hl) (of-built S r b hr)
    ∙ (on-same b.number (has_no_indices (family_of b.record.now)) _ _ _ left none
    ∙ ap (λ made. goes_to step made left) (made-same s 1 k b ps l r count is)))

-- the step of the code
pub code-goes : (S : Signature) (s : State) (e : Equation) (l r : Term) (b : Built) (ps : List Term) (k left : ℕ) (t : State) (step : Step) → IsOf S l b → IsOf S r b
    → true ≡ has_no_indices (family_of b.record.now) → k ≡ length b.record.now.params → ps ≡ take (length b.record.now.params) (spine_of l)
    → step ≡ record { group = 1; rule = Inject b.family b.number; ty = type_in e.type; left = l; right = r } → Ok t ≡ made_of s 1 k b ps l r
    → ◌≡◌ {A = Spent (Option Turn)} (Ok (Some (Goes step t)), left) (with_built (constructor_turn S s e) l r (built_of S l) (built_of S r) left)
code-goes S s e l r b ps k left t step hl hr none count is at made =
    goes-made step t (made_of s 1 k b ps l r) left made
    ∙ (ap (λ step. goes_to step (made_of s 1 k b ps l r) left) at ∙ turn-injects S s e l r b ps k left hl hr none count is)

pub code-refused : (S : Signature) (s : State) (e : Equation) (l r : Term) (b : Built) (ps : List Term) (k left : ℕ) (x : Stop) → IsOf S l b → IsOf S r b
    → true ≡ has_no_indices (family_of b.record.now) → k ≡ length b.record.now.params → ps ≡ take (length b.record.now.params) (spine_of l) → Err x ≡ made_of s 1 k b ps l r
    → ◌≡◌ {A = Spent (Option Turn)} (Err x, left) (with_built (constructor_turn S s e) l r (built_of S l) (built_of S r) left)
code-refused S s e l r b ps k left x hl hr none count is made =
    goes-refused _ x (made_of s 1 k b ps l r) left made ∙ turn-injects S s e l r b ps k left hl hr none count is

-- ---- the parameters and the arguments

take-whole : {A : Type 0} (k : ℕ) (us : List A) → k ≤ length us → length (take k us) ≡ k
take-whole k us le = let h = length-take k us in omega arith

-- a term that is a constructor has all its parameters
pub count-parameters : (S : Signature) (l : Term) (b : Built) (ps : List code.Term) → IsOf S l b → tele_of ps ≡ take (length b.record.now.params) (spine_of l) → length ps ≡ length b.record.now.params
count-parameters S l b ps h is =
    let all = h.all in
    let e = ap length is in
    let w = take-whole (length b.record.now.params) (spine_of l) (omega arith) in
    omega (arith, length-map ps tree_of)

-- and after them its arguments
pub count-arguments : (l : Term) (us : List code.Term) (count args : ℕ) → length (spine_of l) ≡ count + args → tele_of us ≡ drop count (spine_of l) → length us ≡ args
count-arguments l us count args all is =
    let e = ap length is in
    let d = length-drop count (spine_of l) in
    omega (arith, length-map us tree_of)

pub few-arguments : (l : Term) (count args : ℕ) → length (spine_of l) ≡ count + args → height l ≤ 2000 → args ≤ 2000
few-arguments l count args all low = let h = spine_fits l in omega arith

-- ---- turns of a group

group-same : (s : State) (g k : ℕ) (b : Built) (m : Membership) (ps : List Term) (l r : Term) → family_of b.record.now ≡ m.family → m.parameters ≡ ps → k ≡ length b.record.now.params
    → injection_made s g b.family b.number m.family (from_code b l).constructor m.parameters (from_code b l).arguments (from_code b r).arguments ≡ made_of s g k b ps l r
group-same s g k b m ps l r family parameters count =
    let f = b.record.now in
    ap₂ (λ F qs. injection_made s g b.family b.number F (from_code b l).constructor qs (from_code b l).arguments (from_code b r).arguments) (sym family) parameters
    ∙ (ap (λ n. injection_made s g b.family b.number (family_of f) (constructor_of (length f.params) b.con.now) ps (drop n (spine_of l)) (drop n (spine_of r))) (length-map f.params tree_of)
    ∙ ap (λ k. made_of s g k b ps l r) (sym count))

same-goes : (x : ℕ) (same other : Trial) (left : ℕ) → cond (x == x) same other left ≡ same left
same-goes x same other left = ap (λ b. cond b same other left) (same-number x)

-- both sides of a group's equation are constructor b with all its arguments, and its place is in the family at ps
pub record IsTurn (S : Signature) (l r : Term) (b : Built) (m : Membership) (k : ℕ) (ps : List Term) : Type 0 where
  pub left : IsOf S l b
  pub right : IsOf S r b
  pub family : family_of b.record.now ≡ m.family
  pub parameters : m.parameters ≡ ps
  pub count : k ≡ length b.record.now.params

pub group-injects : (S : Signature) (s : State) (g : ℕ) (e : Equation) (m : Membership) (type l r : Term) (b : Built) (ps : List Term) (k left : ℕ) → IsTurn S l r b m k ps
    → goes_to (record { group = g + 1; rule = Inject b.family b.number; ty = type; left = l; right = r }) (made_of s (g + 1) k b ps l r) left
    ≡ with_built (group_turn S s g e m type) l r (built_of S l) (built_of S r) left
group-injects S s g e m type l r b ps k left is =
    let step : Step = record { group = g + 1; rule = Inject b.family b.number; ty = type; left = l; right = r } in
    sym (ap₂ (λ x y. with_built (group_turn S s g e m type) l r x y left) (of-built S l b is.left) (of-built S r b is.right)
    ∙ (same-goes b.number _ _ left ∙ ap (λ made. goes_to step made left) (group-same s (g + 1) k b m ps l r is.family is.parameters is.count)))

pub group-goes : (S : Signature) (s : State) (g : ℕ) (e : Equation) (m : Membership) (type l r : Term) (b : Built) (ps : List Term) (k left : ℕ) (t : State) → IsTurn S l r b m k ps → Ok t ≡ made_of s (g + 1) k b ps l r
    → ◌≡◌ {A = Spent (Option Turn)} (Ok (Some (Goes (record { group = g + 1; rule = Inject b.family b.number; ty = type; left = l; right = r }) t)), left) (with_built (group_turn S s g e m type) l r (built_of S l) (built_of S r) left)
group-goes S s g e m type l r b ps k left t is made =
    goes-made _ t (made_of s (g + 1) k b ps l r) left made ∙ group-injects S s g e m type l r b ps k left is

pub group-refused : (S : Signature) (s : State) (g : ℕ) (e : Equation) (m : Membership) (type l r : Term) (b : Built) (ps : List Term) (k left : ℕ) (x : Stop) → IsTurn S l r b m k ps → Err x ≡ made_of s (g + 1) k b ps l r
    → ◌≡◌ {A = Spent (Option Turn)} (Err x, left) (with_built (group_turn S s g e m type) l r (built_of S l) (built_of S r) left)
group-refused S s g e m type l r b ps k left x is made =
    goes-refused _ x (made_of s (g + 1) k b ps l r) left made ∙ group-injects S s g e m type l r b ps k left is

-- the numbers of a group's family
pub group-indices : (S : Signature) (l : Term) (b : Built) (k : ℕ) → IsOf S l b → ((p : pure.Built) → built_of S l ≡ Some p → length p.family.indices ≡ k) → length b.record.now.indices ≡ k
group-indices S l b k h all = let e = all (from_code b l) (of-built S l b h) in
    let n = length-map {B = Term × ℕ} b.record.now.indices (λ i. (tree_of i.ty, i.level)) in
    omega arith

pub group-parameters : (S : Signature) (l : Term) (b : Built) (k : ℕ) → IsOf S l b → ((p : pure.Built) → built_of S l ≡ Some p → length p.family.parameters ≡ k) → k ≡ length b.record.now.params
group-parameters S l b k h all = let e = all (from_code b l) (of-built S l b h) in omega (arith, length-map b.record.now.params tree_of)

pub turn-is : (S : Signature) (l r : Term) (b : Built) (m : Membership) (k : ℕ) (ps : List Term) → IsOf S l b → IsOf S r b → ((p : pure.Built) → built_of S l ≡ Some p → p.family ≡ m.family) → m.parameters ≡ ps → k ≡ length b.record.now.params
    → IsTurn S l r b m k ps
turn-is S l r b m k ps hl hr family parameters count =
    record { left = hl; right = hr; family = family (from_code b l) (of-built S l b hl); parameters = parameters; count = count }
