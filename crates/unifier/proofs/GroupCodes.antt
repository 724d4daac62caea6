-- The code finds the same group as the definition.
use Rattle.std.proofs.Common.{◌≡◌, ◌≢◌, ℕ, zero, suc, ◌+◌, ◌-◌, ◌≤◌, ◌<◌, ◌==◌, ◌&&◌, Bool, true, false, Option, Some, Ok, Err, List, [], ◌∷◌, length, take, drop, get_or, All, IsTrue, sym, ap, ap₂, ◌∙◌, arith}
use Rattle.std.proofs.lemmas.Bool.Decides.{nat_tests}
use Rattle.std.proofs.lemmas.List.{length-map, take_all}
use Rattle.std.proofs.lemmas.List.Elements.{All-cons, All-nil}
use Rattle.theory.specs.Terms.{Term, height}
use Rattle.theory.specs.Spines.{spine_of}
use Rattle.theory.specs.Families.{Family}
use Rattle.theory.specs.Signatures.{Signature}
use Rattle.core_terms.specs.Answers.{Spent, and_next}
use Rattle.core_terms.specs.Meanings.{tree_of, tele_of}
use Rattle.core_terms.specs.declared.stop.Stop.{Stop}
use Rattle.core_terms.specs.declared.term.Term as code
use Rattle.core_sig.specs.Meanings.{family_of}
use Rattle.core_sig.specs.declared.family.Family.{Family as CodeFamily}
use Rattle.kernel_reduce.specs.Comparison.{both, second_if, convertible_of}
use Rattle.kernel_reduce.specs.Reduction.{nesting}
use Rattle.kernel_reduce.specs.Entries.{family_at}
use Rattle.unification.specs.Built as pure
use Rattle.unification.specs.Built.{built_of, is_fitting}
use Rattle.unification.specs.Constructors.{heads, with_built, with_heads}
use Rattle.unification.specs.Groups.{all_convertible, are_equations_of, group_turn, if_holds, on_membership}
use Rattle.unification.specs.States.{Equation as PureEquation, State, types_as_they_stand}
use Rattle.unification.specs.Turns.{Turn}
use Rattle.problems.specs.CodeBuilt.{AreOfOneFamily}
use Rattle.unifier.specs.CodeGroups.{IsGroupOf, has_places, membership_from}
use Rattle.unifier.specs.declared.groups.Membership.{Membership}
use Rattle.problems.proofs.BuiltForms.{built-is}
use Rattle.problems.specs.Conditions.{AreLow}
use Rattle.problems.specs.Meanings.{equations_of}
use Rattle.problems.specs.declared.state.Equation.{Equation}
use Rattle.problems.proofs.CycleForms.{AreLower, spine-lower}

-- ---- the lengths

test-equal : (a b : ℕ) (rest : Bool) → a ≡ b → ((a == b) && rest) ≡ rest
test-equal a b rest e = ap (λ t. t && rest) (let f : (a == b) ≡ true = grind (arith, nat_tests) in f)

test-other : (a b : ℕ) (rest : Bool) → a ≢ b → ((a == b) && rest) ≡ false
test-other a b rest h = ap (λ t. t && rest) (let f : (a == b) ≡ false = grind (arith, nat_tests) in f)

module _ (f : CodeFamily) (k : ℕ) (spine : List Term) where
  count-indices : length (family_of f).indices ≡ length f.indices
  count-indices = length-map f.indices (λ i. (tree_of i.ty, i.level))

  count-parameters : length (family_of f).parameters ≡ length f.params
  count-parameters = length-map f.params tree_of

  pub places-spine : length f.indices ≡ k → length spine ≢ length f.params + k → false ≡ has_places k spine (family_of f)
  places-spine e h =
      sym (test-equal (length (family_of f).indices) k _ (count-indices ∙ e)
      ∙ test-other (length spine) (length (family_of f).parameters + k) (is_fitting (family_of f)) (λ d. h (d ∙ ap (λ n. n + k) count-parameters)))

  pub places-level : length f.indices ≡ k → length spine ≡ length f.params + k → is_fitting (family_of f) ≡ has_places k spine (family_of f)
  places-level e h =
      sym (test-equal (length (family_of f).indices) k _ (count-indices ∙ e)
      ∙ test-equal (length spine) (length (family_of f).parameters + k) (is_fitting (family_of f)) (h ∙ ap (λ n. n + k) (sym count-parameters)))

-- ---- types that are compared one by one

first-type : (es : List Equation) (e : Equation) → 0 < length es → e ≡ get_or es 0 e
    → types_as_they_stand (equations_of es) ≡ tree_of e.ty ∷ types_as_they_stand (equations_of (take (length es - 1) (drop 1 es)))
first-type [] e lt is = absurd (omega arith)
first-type (d ∷ es) e lt is =
    ap₂ (λ (d : Equation) es. tree_of d.ty ∷ types_as_they_stand (equations_of es)) (sym is) (sym (take_all (length (d ∷ es) - 1) es (omega arith)))

first-term : (us : List code.Term) (u : code.Term) → 0 < length us → u ≡ get_or us 0 u → tele_of us ≡ tree_of u ∷ tele_of (take (length us - 1) (drop 1 us))
first-term [] u lt is = absurd (omega arith)
first-term (v ∷ us) u lt is = ap₂ (λ v us. tree_of v ∷ tele_of us) (sym is) (sym (take_all (length (v ∷ us) - 1) us (omega arith)))

both-refused : (first second : ℕ → Spent Bool) (left end : ℕ) (x : Stop) → ◌≡◌ {A = Spent Bool} (Err x, end) (first left) → ◌≡◌ {A = Spent Bool} (Err x, end) (both first second left)
both-refused first second left end x h = ap (λ r. and_next r (λ holds rest. second_if holds second rest)) h

both-false : (first second : ℕ → Spent Bool) (left end : ℕ) → ◌≡◌ {A = Spent Bool} (Ok false, end) (first left) → ◌≡◌ {A = Spent Bool} (Ok false, end) (both first second left)
both-false first second left end h = ap (λ r. and_next r (λ holds rest. second_if holds second rest)) h

both-true : (first second : ℕ → Spent Bool) (left end : ℕ) → ◌≡◌ {A = Spent Bool} (Ok true, end) (first left) → second end ≡ both first second left
both-true first second left end h = ap (λ r. and_next r (λ holds rest. second_if holds second rest)) h

module _ (S : Signature) (es : List Equation) (e : Equation) (us : List code.Term) (u : code.Term) (left : ℕ) (some : 0 < length es) (is : e ≡ get_or es 0 e) (there : 0 < length us) (at : u ≡ get_or us 0 u) where
  at-first : both (λ left. convertible_of S nesting (tree_of e.ty) (tree_of u) left) (λ left. all_convertible S (types_as_they_stand (equations_of (take (length es - 1) (drop 1 es)))) (tele_of (take (length us - 1) (drop 1 us))) left) left
      ≡ all_convertible S (types_as_they_stand (equations_of es)) (tele_of us) left
  at-first = sym (ap₂ (λ ts vs. all_convertible S ts vs left) (first-type es e some is) (first-term us u there at))

  pub compare-refused : (x : Stop) (end : ℕ) → ◌≡◌ {A = Spent Bool} (Err x, end) (convertible_of S nesting (tree_of e.ty) (tree_of u) left)
      → ◌≡◌ {A = Spent Bool} (Err x, end) (all_convertible S (types_as_they_stand (equations_of es)) (tele_of us) left)
  compare-refused x end h = both-refused (λ left. convertible_of S nesting (tree_of e.ty) (tree_of u) left) _ left end x h ∙ at-first

  pub compare-false : (end : ℕ) → ◌≡◌ {A = Spent Bool} (Ok false, end) (convertible_of S nesting (tree_of e.ty) (tree_of u) left)
      → ◌≡◌ {A = Spent Bool} (Ok false, end) (all_convertible S (types_as_they_stand (equations_of es)) (tele_of us) left)
  compare-false end h = both-false (λ left. convertible_of S nesting (tree_of e.ty) (tree_of u) left) _ left end h ∙ at-first

  pub compare-true : (end : ℕ) → ◌≡◌ {A = Spent Bool} (Ok true, end) (convertible_of S nesting (tree_of e.ty) (tree_of u) left)
      → all_convertible S (types_as_they_stand (equations_of (take (length es - 1) (drop 1 es)))) (tele_of (take (length us - 1) (drop 1 us))) end
      ≡ all_convertible S (types_as_they_stand (equations_of es)) (tele_of us) left
  compare-true end h = both-true (λ left. convertible_of S nesting (tree_of e.ty) (tree_of u) left) _ left end h ∙ at-first

-- ---- low terms

lower-low : (h : ℕ) (us : List Term) → AreLower h us → h ≤ 2000 → AreLow us
lower-low h [] lower low = tt
lower-low h (u ∷ us) lower low = (omega (arith, lower.0), lower-low h us lower.1 low)

pub low-all : (us : List Term) → AreLow us → All (λ t. height t ≤ 2000) us
low-all [] h = All-nil (λ t. height t ≤ 2000)
low-all (u ∷ us) h = All-cons (λ t. height t ≤ 2000) u us h.0 (low-all us h.1)

pub take-low : (k : ℕ) (us : List Term) → AreLow us → AreLow (take k us)
take-low zero us h = tt
take-low (suc k) [] h = tt
take-low (suc k) (u ∷ us) h = (h.0, take-low k us h.1)

pub spine-low : (t : Term) → height t ≤ 2000 → AreLow (spine_of t)
spine-low t low = lower-low (height t) (spine_of t) (spine-lower t) low

-- ---- the constructors of a group's members

pub wanted-family : (S : Signature) (n k : ℕ) (m : Membership) (l : Term) (p : pure.Built) → IsGroupOf S n k m → built_of S l ≡ Some p → IsTrue (p.n == m.number) → p.family ≡ family_of m.record.now
wanted-family S n k m l p is e test =
    let same : p.n ≡ m.number = grind (arith, nat_tests) in
    some-is (sym (built-is S l p e).family ∙ (ap (family_at S) same ∙ is.family))
  where
    some-is : {A : Type 0} {a b : A} → ◌≡◌ {A = Option A} (Some a) (Some b) → a ≡ b
    some-is e = cc

pub wanted-parameters : (S : Signature) (n k : ℕ) (m : Membership) (l : Term) (p : pure.Built) → IsGroupOf S n k m → built_of S l ≡ Some p → IsTrue (p.n == m.number) → length p.family.parameters ≡ length m.params
wanted-parameters S n k m l p is e test =
    ap (λ (f : Family). length f.parameters) (wanted-family S n k m l p is e test) ∙ (count-parameters m.record.now k [] ∙ sym is.count)

-- ---- the trial after the head forms

module _ (S : Signature) (s : State) (k : ℕ) (e : PureEquation) (type : Term) (m : Membership) (left : ℕ) where
  abbrev pub member_trial : Spent (Option Turn)
  member_trial = on_membership S s k e type (Some (membership_from m)) left

  abbrev pub member_heads : Spent (Option (Term × Term))
  member_heads = heads S (λ b. b.n == m.number) e.left e.right left

  abbrev go : (l : Term) (b : pure.Built) (r : Term) (d : pure.Built) → ℕ → Spent (Option Turn)
  go l b r d units =
      and_next (are_equations_of S (membership_from m) (take (k + 1) s.equations) units) (λ holds rest. if_holds holds (group_turn S s k e (membership_from m) type l b r d) rest)

  module _ (l r : Term) (end : ℕ) (found : ◌≡◌ {A = Spent (Option (Term × Term))} (Ok (Some (l, r)), end) member_heads) (one : AreOfOneFamily S l r) where
    at-heads : go l one.b r one.d end ≡ member_trial
    at-heads =
        sym (ap₂ (λ x y. with_built go l r x y end) one.left one.right) ∙ ap (λ r. and_next r (λ found rest. with_heads S go found rest)) found

    pub equations-hold : (last : ℕ) → ◌≡◌ {A = Spent Bool} (Ok true, last) (are_equations_of S (membership_from m) (take (k + 1) s.equations) end)
        → with_built (group_turn S s k e (membership_from m) type) l r (built_of S l) (built_of S r) last ≡ member_trial
    equations-hold last h =
        ap₂ (λ x y. with_built (group_turn S s k e (membership_from m) type) l r x y last) one.left one.right
        ∙ (ap (λ q. and_next q (λ holds rest. if_holds holds (group_turn S s k e (membership_from m) type l one.b r one.d) rest)) h ∙ at-heads)
