-- States of unification in which a constructor is to come to a term of the solution: the last equation is between the constructor and
-- that term, or the head form of the term is the constructor.
use Rattle.std.proofs.Common.{◌≡◌, ◌⊎◌, inl, inr, ℕ, ◌+◌, ◌<◌, ◌≤◌, true, Some, option_map, List, [], ◌∷◌, ◌++◌, length, drop, slice_get, refl, sym, ap, ◌∙◌, subst as transport, arith}
use Rattle.std.proofs.lemmas.List.{append_assoc, drop-append-le}
use Rattle.std.proofs.lemmas.Option.{slice_get-map, slice_get_within}
use Rattle.theory.specs.Terms.{Term, Var}
use Rattle.theory.specs.Substitutions.{inst}
use Rattle.theory.specs.Families.{Family, Constructor}
use Rattle.theory.specs.Signatures.{Signature, HasClosedBodies, reflexivity}
use Rattle.theory.proofs.Lists.{some_is, slice_get-pushed}
use Rattle.core_terms.specs.CaseTrees.{Step}
use Rattle.core_terms.specs.Levels.{variable}
use Rattle.tele_eq.specs.Environments.{Environment, put}
use Rattle.tele_eq.specs.TelescopicEquality.{equations}
use Rattle.unification.specs.Built.{Built, built_of}
use Rattle.unification.specs.Injecting.{group_proofs, injected_state}
use Rattle.unification.specs.Moving.{over_first, behind, moved_item, moved}
use Rattle.unification.specs.Occurrences.{lacks, order_without}
use Rattle.unification.specs.Records.{argument_items, constructor_terms}
use Rattle.unification.specs.Rules as rule
use Rattle.unification.specs.Rules.{Steps, level_of}
use Rattle.unification.specs.Solving.{reordered, solved, solved_state, deleted_state}
use Rattle.unification.specs.States.{Equation, State, equations_at}
use Rattle.unification.proofs.Constructors.{instance_of, built-instance}
use Rattle.unification.proofs.SolvedVariables.{solution_at, solved-is_inst, solved-agrees}
use Rattle.case_trees.specs.HeadSteps.{Reaches, HasConstructor}
use Rattle.case_trees.proofs.ConstructorForms.{built-has, constructor-stays, constructor-reached, constructor-form}
use Rattle.case_trees.proofs.HeadChains.{chain-stays}
use Rattle.case_trees.proofs.GoingTurns.{AreHeads}

-- the term at a level has the constructor
pub record HasConstructorAt (S : Signature) (n number level : ℕ) (solution : List Term) : Type 0 where
  pub term : Term
  pub there : slice_get solution level ≡ Some term
  pub has : HasConstructor S n number term

-- The last equation has the constructor on its left, and on its right the term at a level of the solution.
pub record AwaitsConstructor (S : Signature) (n number level : ℕ) (s : State) : Type 0 where
  pub before : List Equation
  pub last : Equation
  pub whole : s.equations ≡ before ++ last ∷ []
  pub built : Built
  pub left : built_of S last.left ≡ Some built
  pub family : built.n ≡ n
  pub constructor : built.number ≡ number
  pub right : slice_get s.solution level ≡ Some last.right

abbrev pub HasOrAwaits : Signature → (n number level : ℕ) → State → Type 0
HasOrAwaits S n number level s = HasConstructorAt S n number level s.solution ⊎ AwaitsConstructor S n number level s

pub left-has : (S : Signature) (n number level : ℕ) (s : State) (h : AwaitsConstructor S n number level s) → HasConstructor S n number h.last.left
left-has S n number level s h =
    transport (λ k. HasConstructor S k number h.last.left) h.family
    (transport (λ k. HasConstructor S h.built.n k h.last.left) h.constructor (built-has S h.last.left h.built h.left))

-- an equation of the state is the last one, or comes before it
pub standing : (S : Signature) (n number level : ℕ) (s : State) (h : AwaitsConstructor S n number level s) (k : ℕ) (e : Equation) → slice_get s.equations k ≡ Some e
    → (k + 1 ≤ length h.before) ⊎ (h.last ≡ e)
standing S n number level s h k e at =
    by (slice_get-pushed h.before h.last k e (sym (ap (λ es. slice_get es k) h.whole) ∙ at))
  where
    by : (slice_get h.before k ≡ Some e) ⊎ ((k ≡ length h.before) × (h.last ≡ e)) → (k + 1 ≤ length h.before) ⊎ (h.last ≡ e)
    by (inl there) = let less : k < length h.before = slice_get_within h.before k e there in inl (omega arith)
    by (inr (place, same)) = inr same

-- ---- the last equation stays

abbrev moved_one : (items types : Environment) (side : Term → Term) (size depth : ℕ) → Equation → Equation
moved_one items types side size depth e = record {
  place = moved_item items size depth e.place;
  type = put types size depth e.type;
  left = side e.left;
  right = side e.right;
}

-- equations that are moved, with a last one
pub record MovedLast (items types : Environment) (side : Term → Term) (size depth : ℕ) (es : List Equation) (last : Equation) : Type 0 where
  pub front : List Equation
  pub end : Equation
  pub whole : moved items types side size depth (es ++ last ∷ []) ≡ front ++ end ∷ []
  pub left : end.left ≡ side last.left
  pub right : end.right ≡ side last.right

moved-last : (items types : Environment) (side : Term → Term) (size depth : ℕ) (es : List Equation) (last : Equation)
    → MovedLast items types side size depth es last
moved-last items types side size depth [] last =
    record { front = []; end = moved_one items types side size depth last; whole = refl; left = refl; right = refl }
moved-last items types side size depth (e ∷ es) last =
    let h = moved-last items types side (size + 1) (depth + 1) es last in
    record {
      front = moved_one items types side size depth e ∷ h.front;
      end = h.end;
      whole = ap (λ rest. moved_one items types side size depth e ∷ rest) h.whole;
      left = h.left;
      right = h.right;
    }

-- where other equations than the last go out
moved-awaits : (S : Signature) (n number level : ℕ) (s t : State) (h : AwaitsConstructor S n number level s) (new : List Equation) (items types : Environment)
    (side : Term → Term) (size depth g : ℕ) → t.equations ≡ new ++ moved items types side size depth (drop g s.equations) → g ≤ length h.before
    → ((b : Built) → built_of S h.last.left ≡ Some b → (d : Built) × ((built_of S (side h.last.left) ≡ Some d) × ((d.n ≡ b.n) × (d.number ≡ b.number))))
    → slice_get t.solution level ≡ Some (side h.last.right) → AwaitsConstructor S n number level t
moved-awaits S n number level s t h new items types side size depth g whole le keeps right =
    let m = moved-last items types side size depth (drop g h.before) h.last in
    let rest : drop g s.equations ≡ drop g h.before ++ h.last ∷ [] = ap (drop g) h.whole ∙ drop-append-le g h.before (h.last ∷ []) le in
    let (d, (is, (family, constructor))) = keeps h.built h.left in
    record {
      before = new ++ m.front;
      last = m.end;
      whole = whole ∙ (ap (λ es. new ++ moved items types side size depth es) rest ∙ (ap (λ es. new ++ es) m.whole ∙ sym (append_assoc new m.front (m.end ∷ []))));
      built = d;
      left = ap (built_of S) m.left ∙ is;
      family = family ∙ h.family;
      constructor = constructor ∙ h.constructor;
      right = right ∙ ap Some (sym m.right);
    }

same-built : (S : Signature) (t : Term) (b : Built) → built_of S t ≡ Some b → (d : Built) × ((built_of S t ≡ Some d) × ((d.n ≡ b.n) × (d.number ≡ b.number)))
same-built S t b e = (b, (e, (refl, refl)))

-- ---- a solution

-- a term of the state after the solution
abbrev Behind : State → (p : ℕ) (u : Term) → Term → Term
Behind s p u = put (solved (length s.context) (order_without s.context p) p u) (length s.context) (length (order_without s.context p))

solved-there : (s : State) (i p : ℕ) (A u t : Term) (level : ℕ) → slice_get s.solution level ≡ Some t
    → slice_get (solved_state s i p A u).solution level ≡ Some (Behind s p u t)
solved-there s i p A u t level e = slice_get-map (Behind s p u) s.solution level ∙ ap (option_map (Behind s p u)) e

pub has-solved : (S : Signature) → HasClosedBodies S → (n number level : ℕ) (s : State) (i p : ℕ) (A u : Term) → p < length s.context
    → lacks s.context p u ≡ true → HasConstructorAt S n number level s.solution → HasConstructorAt S n number level (solved_state s i p A u).solution
has-solved S closed n number level s i p A u less free h =
    record {
      term = Behind s p u h.term;
      there = solved-there s i p A u h.term level h.there;
      has = transport (HasConstructor S n number) (sym (solved-is_inst s.context p u less free h.term))
          (constructor-stays S (solution_at s.context p u) closed n number h.term h.has);
    }

pub awaits-solved : (S : Signature) (n number level : ℕ) (s : State) (h : AwaitsConstructor S n number level s) (i p : ℕ) (A u : Term) → p < length s.context
    → lacks s.context p u ≡ true → 1 ≤ length h.before → AwaitsConstructor S n number level (solved_state s i p A u)
awaits-solved S n number level s h i p A u less free le =
    let m = length (order_without s.context p) in
    let s' = solved (length s.context) (order_without s.context p) p u in
    let A' = put (reordered (order_without s.context p)) (length s.context) m A in
    let u' = put (reordered (order_without s.context p)) (length s.context) m u in
    moved-awaits S n number level s (solved_state s i p A u) h [] (behind (length s.context) 1 m s' (over_first m (u' ∷ [])))
    (behind (length s.context) 1 m s' (over_first m (reflexivity i A' u' ∷ []))) (Behind s p u) (length s.context + 1) m 1 refl le
    (λ b e. (
      instance_of (solution_at s.context p u) b,
      (
        ap (built_of S) (solved-is_inst s.context p u less free h.last.left) ∙ built-instance S (solution_at s.context p u) h.last.left b e,
        (refl, refl),
      ),
    ))
    (solved-there s i p A u h.last.right level h.right)

-- the last equation is solved, where its right side is found to be the variable
pub solves-last : (S : Signature) → HasClosedBodies S → (n number level : ℕ) (s : State) (h : AwaitsConstructor S n number level s) (i x : ℕ) (A u : Term)
    → x < length s.context → lacks s.context (level_of (length s.context) x) u ≡ true → Reaches S h.last.right (Var x) → HasConstructor S n number u
    → HasConstructorAt S n number level (solved_state s i (level_of (length s.context) x) A u).solution
solves-last S closed n number level s h i x A u less free reaches has =
    let p = level_of (length s.context) x in
    let q = solution_at s.context p u in
    let low : p < length s.context = omega arith in
    record {
      term = Behind s p u h.last.right;
      there = solved-there s i p A u h.last.right level h.right;
      has = transport (HasConstructor S n number) (sym (solved-is_inst s.context p u low free h.last.right))
          (constructor-reached S n number (inst q h.last.right) (inst q (Var x)) (chain-stays S q closed h.last.right (Var x) reaches)
          (transport (HasConstructor S n number) (sym (solved-agrees s.context p x u low less refl free))
          (constructor-stays S q closed n number u has)));
    }

-- ---- a deletion and an injectivity

pub awaits-deleted : (S : Signature) (n number level : ℕ) (s : State) (h : AwaitsConstructor S n number level s) (i : ℕ) (A u : Term) → 1 ≤ length h.before
    → AwaitsConstructor S n number level (deleted_state s i A u)
awaits-deleted S n number level s h i A u le =
    let m = length s.context in
    moved-awaits S n number level s (deleted_state s i A u) h [] (behind m 1 m variable (over_first m (u ∷ [])))
    (behind m 1 m variable (over_first m (reflexivity i A u ∷ []))) (λ t. t) (m + 1) m 1 refl le (λ b e. same-built S h.last.left b e) h.right

awaits-injected : (S : Signature) (n number level : ℕ) (s : State) (h : AwaitsConstructor S n number level s) (g k l : ℕ) (f : Family) (c : Constructor) (ps us vs : List Term)
    → g ≤ length h.before → AwaitsConstructor S n number level (injected_state s g k l f c ps us vs)
awaits-injected S n number level s h g k l f c ps us vs le =
    let m = length s.context in
    let new = m + length c.arguments in
    let X = argument_items k ps c in
    moved-awaits S n number level s (injected_state s g k l f c ps us vs) h (equations_at X (equations X us vs) us vs)
    (behind m g new variable (over_first new (constructor_terms k l ps c)))
    (behind m g new variable (over_first new (group_proofs k l f c ps us vs))) (λ t. t) (m + g) new g refl le (λ b e. same-built S h.last.left b e) h.right

-- the last of the equations that go out has constructors on both sides
pub injected-tracks : (S : Signature) (n number level : ℕ) (s : State) (h : AwaitsConstructor S n number level s) (k : ℕ) (e : Equation) → slice_get s.equations k ≡ Some e
    → (l : Term) (b : Built) (r : Term) (d : Built) → AreHeads S e.left e.right l b r d → b.number ≡ d.number
    → (m j : ℕ) (f : Family) (c : Constructor) (ps us vs : List Term) → HasOrAwaits S n number level (injected_state s (k + 1) m j f c ps us vs)
injected-tracks S n number level s h k e at l b r d is same m j f c ps us vs = by (standing S n number level s h k e at)
  where
    by : (k + 1 ≤ length h.before) ⊎ (h.last ≡ e) → HasOrAwaits S n number level (injected_state s (k + 1) m j f c ps us vs)
    by (inl le) = inr (awaits-injected S n number level s h (k + 1) m j f c ps us vs le)
    by (inr last) =
        let left : HasConstructor S n number e.left = transport (λ (x : Equation). HasConstructor S n number x.left) last (left-has S n number level s h) in
        let (b', (found, (family, constructor))) = constructor-form S n number e.left l left is.left in
        let one : b ≡ b' = some_is (sym is.left_built ∙ found) in
        inl (record {
          term = e.right;
          there = h.right ∙ ap (λ (x : Equation). Some x.right) last;
          has = record {
            form = r;
            head = is.right;
            built = d;
            found = is.right_built;
            family = sym is.family ∙ (ap (λ (x : Built). x.n) one ∙ family);
            constructor = sym same ∙ (ap (λ (x : Built). x.number) one ∙ constructor);
          };
        })

-- ---- where it is there already it stays, at any step of the rules

pub has-stepped : (S : Signature) → HasClosedBodies S → (n number level : ℕ) (s t : State) (step : Step) → Steps S s step t
    → HasConstructorAt S n number level s.solution → HasConstructorAt S n number level t.solution
has-stepped S closed n number level s _ _ (rule.solve_right _ e x A u first solvable) h =
    let less : x < length s.context = solvable.variable in
    has-solved S closed n number level s e.place.level (level_of (length s.context) x) A u (omega arith) solvable.term h
has-stepped S closed n number level s _ _ (rule.solve_left _ e x A u first solvable) h =
    let less : x < length s.context = solvable.variable in
    has-solved S closed n number level s e.place.level (level_of (length s.context) x) A u (omega arith) solvable.term h
has-stepped S closed n number level s _ _ (rule.inject_group _ k f ps type b d hb hd same number' group) h = h
has-stepped S closed n number level s _ _ (rule.inject _ e A b d hb hd same number' low plain first) h = h
has-stepped S closed n number level s _ _ (rule.delete _ e A u v on first converts) h = h
