-- Injectivity and conflict of the constructors on both sides of an equation, which comes after k others of its group.
use Rattle.std.proofs.Common.{◌≡◌, ℕ, suc, ◌+◌, ◌<◌, ◌≤◌, inl, inr, ◌==◌, Bool, true, Some, List, length, drop, slice_get, All, refl, ap, sym, subst as transport, subst₂, ◌∙◌, arith}
use Rattle.std.proofs.lemmas.Bool.{eqb-true}
use Rattle.theory.specs.Terms.{Term}
use Rattle.theory.specs.Families.{Family, Constructor}
use Rattle.theory.specs.Signatures.{Signature, FamilyOf, IsEntryAt}
use Rattle.theory.specs.SignatureScopes.{IsScoped}
use Rattle.theory.specs.Conversion.{Converts}
use Rattle.core_terms.specs.Levels.{variable}
use Rattle.tele_eq.specs.TelescopicEquality.{equations}
use Rattle.unification.specs.Built.{Built, term_of, built_of}
use Rattle.unification.specs.Constructors.{conflict_step, injection_step}
use Rattle.unification.specs.Heights.{injection_made}
use Rattle.unification.specs.Injecting.{group_proofs, injected_equations, injected_state}
use Rattle.unification.specs.Laws.Falls.{units, size}
use Rattle.unification.specs.Moving.{over_first, behind, moved}
use Rattle.unification.specs.Records.{argument_items, constructor_terms}
use Rattle.unification.specs.Rules.{Steps, IsAbsurd}
use Rattle.unification.specs.Runs.{size_of_sides}
use Rattle.unification.specs.ScopedStates.{IsReady, IsScopedState}
use Rattle.unification.specs.States.{Equation, State, equations_at}
use Rattle.unification.specs.Turns.{Goes, fails_at, goes_to}
use Rattle.unification.proofs.BuiltScopes.{built-scoped}
use Rattle.unification.proofs.Cases.{less-or_same}
use Rattle.unification.proofs.Constructors.{built-is, same-constructor}
use Rattle.unification.proofs.HeadForms.{AreSides, Stay}
use Rattle.unification.proofs.MovedStates.{IsInjection, injected_state-scoped, injection_made-has}
use Rattle.unification.proofs.Sizes.{size_of_all, sides-append, sides-at, sides-moved, sides-behind, built-smaller}
use Rattle.unification.proofs.Trials.{Comes, goes_to-comes}
use Rattle.unification.proofs.TurnProperties.{IsOnward, IsTurn, AreScopedSides, fails_at-is}

-- ---- the measure

-- an injectivity of sides that are constructors as they are makes the equations smaller
injected-smaller : (S : Signature) (s : State) (k : ℕ) (e : Equation) (b d : Built) (n number : ℕ) (f : Family) (c : Constructor) (ps : List Term)
    → slice_get s.equations k ≡ Some e → built_of S e.left ≡ Some b → built_of S e.right ≡ Some d
    → size_of_sides (injected_equations s (k + 1) n number f c ps b.arguments d.arguments) < size_of_sides s.equations
injected-smaller S s k e b d n number f c ps at l r =
    let X = argument_items n ps c in
    let us = b.arguments in
    let vs = d.arguments in
    let m = length s.context in
    let new = m + length c.arguments in
    let items = behind m (k + 1) new variable (over_first new (constructor_terms n number ps c)) in
    let types = behind m (k + 1) new variable (over_first new (group_proofs n number f c ps us vs)) in
    let others = moved items types (λ t. t) (m + (k + 1)) new (drop (k + 1) s.equations) in
    let places = equations_at X (equations X us vs) us vs in
    let split : size_of_sides (injected_equations s (k + 1) n number f c ps us vs) ≡ size_of_sides places + size_of_sides others =
    sides-append places others in
    let first : size_of_sides places ≤ size_of_all us + size_of_all vs = sides-at X (equations X us vs) us vs in
    let second : size_of_sides others ≡ size_of_sides (drop (k + 1) s.equations) =
    sides-moved items types (λ t. t) (m + (k + 1)) new (drop (k + 1) s.equations) (λ t. refl) in
    let after = sides-behind s.equations k e at in
    let next : k + 1 ≡ suc k = omega arith in
    let same : size_of_sides (drop (k + 1) s.equations) ≡ size_of_sides (drop (suc k) s.equations) = ap (λ i. size_of_sides (drop i s.equations)) next in
    let left_less = built-smaller S e.left b l in
    let right_less = built-smaller S e.right d r in
    omega arith

-- so it makes the state less, or the reduction of a side has spent units
injected-onward : (S : Signature) (s : State) (left k : ℕ) (e : Equation) (type l : Term) (b : Built) (r : Term) (d : Built) (f : Family) (ps : List Term)
    (rest : ℕ) → slice_get s.equations k ≡ Some e → rest ≤ left → Stay left e.left e.right l r rest → built_of S l ≡ Some b
    → built_of S r ≡ Some d
    → IsOnward S s left (injection_step (k + 1) type l r b) (injected_state s (k + 1) b.n b.number f b.constructor ps b.arguments d.arguments) rest
injected-onward S s left k e type l b r d f ps rest at le stay lb rd = record {
  falls = elim (less-or_same rest left le) [
    | inl less ↦ units less
    | inr same ↦
        size same refl
        (injected-smaller S s k e b d b.n b.number f b.constructor ps at (ap (built_of S) (sym (stay same).0) ∙ lb) (ap (built_of S) (sym (stay same).1) ∙ rd))
  ];
  whole = refl;
  deletes = λ k is. cc;
}

-- ---- scopes

-- the arguments on both sides are those of one constructor
injection : (S : Signature) (m : ℕ) (l : Term) (b : Built) (r : Term) (d : Built) (f : Family) (ps : List Term) → built_of S l ≡ Some b
    → built_of S r ≡ Some d → b.n ≡ d.n → b.number ≡ d.number → IsScoped S m l → IsScoped S m r → IsEntryAt S b.n (FamilyOf f)
    → All (IsScoped S m) ps → IsInjection S m b.n b.number f b.constructor ps b.arguments d.arguments
injection S m l b r d f ps lb rd family number hl hr entry all =
    let left = built-scoped S m l b lb hl in
    let right = built-scoped S m r d rd hr in
    record {
      owner = b.family;
      entry = left.entry;
      constructor = left.constructor;
      family = entry;
      parameters = all;
      left = left.arguments;
      right = right.arguments;
      left_length = left.count;
      right_length =
          right.count
          ∙ ap (λ (c : Constructor). length c.arguments)
          (sym (same-constructor S b d (built-is S l b lb).built (built-is S r d rd).built family number));
    }

-- ---- turns

-- the equation's sides and type are scoped, and the injectivity is made for constructor b's own family
pub record IsInjective (S : Signature) (s : State) (k : ℕ) (e : Equation) (type : Term) (b d : Built) (f : Family) (ps : List Term) : Type 0 where
  pub sides : AreScopedSides S s e.left e.right
  pub type_scoped : IsScoped S (length s.context + k) type
  pub entry : IsEntryAt S b.n (FamilyOf f)
  pub parameters : All (IsScoped S (length s.context)) ps
  pub step : Steps S s (injection_step (k + 1) type (term_of b) (term_of d) b)
      (injected_state s (k + 1) b.n b.number f b.constructor ps b.arguments d.arguments)

-- one constructor on both sides: the turn of the injectivity
pub injects-is : (S : Signature) (s : State) (left k : ℕ) (e : Equation) (type : Term) (fits : Built → Bool) (l : Term) (b : Built) (r : Term) (d : Built)
    (f : Family) (ps : List Term) (rest : ℕ) → slice_get s.equations k ≡ Some e → rest ≤ left → AreSides S fits e.left e.right l b r d
    → Stay left e.left e.right l r rest → (b.number == d.number) ≡ true → (IsReady S → IsScopedState S s → IsInjective S s k e type b d f ps)
    → Comes (IsTurn S s left) (goes_to (injection_step (k + 1) type l r b) (injection_made s (k + 1) b.n b.number f b.constructor ps b.arguments d.arguments)) rest
injects-is S s left k e type fits l b r d f ps rest at le sides stay number injective =
    goes_to-comes (IsTurn S s left) (injection_step (k + 1) type l r b) _ rest
    (injection_made-has (λ t. IsTurn S s left (Goes (injection_step (k + 1) type l r b) t) rest) s (k + 1) b.n b.number f b.constructor ps b.arguments d.arguments
    (record {
      allowed =
          injected-onward S s left k e type l b r d f ps rest at le stay sides.left_built sides.right_built;
      right = λ ready scoped.
          (let is = injective ready scoped in
          let hl : IsScoped S (length s.context) l = sides.left_reduct.scoped _ ready.scoped is.sides.0 in
          let hr : IsScoped S (length s.context) r = sides.right_reduct.scoped _ ready.scoped is.sides.1 in
          record {
            good = (
              (
                record { place = k; group = refl; type = is.type_scoped; left = hl; right = hr },
                injected_state-scoped S s (k + 1) b.n b.number f b.constructor ps b.arguments d.arguments ready scoped
                    (injection S (length s.context) l b r d f ps sides.left_built sides.right_built sides.family (eqb-true b.number d.number number) hl hr is.entry
                    is.parameters),
              ),
              refl,
            );
            follows =
                subst₂ (λ x y. Steps S s (injection_step (k + 1) type x y b) (injected_state s (k + 1) b.n b.number f b.constructor ps b.arguments d.arguments))
                (sym (built-is S l b sides.left_built).term) (sym (built-is S r d sides.right_built).term) is.step;
          });
    }))

-- the equation's sides and type are scoped, and the conflict is evidence of absurdity
pub record IsConflicting (S : Signature) (s : State) (k : ℕ) (e : Equation) (type : Term) (b d : Built) : Type 0 where
  pub sides : AreScopedSides S s e.left e.right
  pub type_scoped : IsScoped S (length s.context + k) type
  pub evidence : IsAbsurd S s (conflict_step (k + 1) type (term_of b) (term_of d) b d)

-- different constructors: the turn of the conflict
pub conflicts-is : (S : Signature) (s : State) (left k : ℕ) (e : Equation) (type : Term) (fits : Built → Bool) (l : Term) (b : Built) (r : Term) (d : Built)
    (rest : ℕ) → AreSides S fits e.left e.right l b r d → (IsReady S → IsScopedState S s → IsConflicting S s k e type b d)
    → Comes (IsTurn S s left) (fails_at S (conflict_step (k + 1) type l r b d) e.left e.right) rest
conflicts-is S s left k e type fits l b r d rest sides conflicting =
    fails_at-is S s left (conflict_step (k + 1) type l r b d) e.left e.right rest (λ k is. cc) (λ ready scoped.
    let is = conflicting ready scoped in
    record {
      step_scoped = record {
        place = k;
        group = refl;
        type = is.type_scoped;
        left = sides.left_reduct.scoped _ ready.scoped is.sides.0;
        right = sides.right_reduct.scoped _ ready.scoped is.sides.1;
      };
      evidence =
          subst₂ (λ x y. IsAbsurd S s (conflict_step (k + 1) type x y b d)) (sym (built-is S l b sides.left_built).term)
          (sym (built-is S r d sides.right_built).term) is.evidence;
      left_scoped = is.sides.0;
      right_scoped = is.sides.1;
      left = sides.left_reduct.converts;
      right = sides.right_reduct.converts;
    })

-- the sides convert to the constructors
pub left-converts : (S : Signature) (fits : Built → Bool) (u v l : Term) (b : Built) (r : Term) (d : Built) → AreSides S fits u v l b r d
    → Converts S u (term_of b)
left-converts S fits u v l b r d sides = transport (Converts S u) (built-is S l b sides.left_built).term sides.left_reduct.converts

pub right-converts : (S : Signature) (fits : Built → Bool) (u v l : Term) (b : Built) (r : Term) (d : Built) → AreSides S fits u v l b r d
    → Converts S v (term_of d)
right-converts S fits u v l b r d sides = transport (Converts S v) (built-is S r d sides.right_built).term sides.right_reduct.converts
