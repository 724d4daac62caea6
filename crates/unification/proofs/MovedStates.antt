-- The states after a solution, a deletion and an injectivity are scoped.
use Rattle.std.proofs.Common.{◌≡◌, ℕ, ◌+◌, ◌-◌, ◌<◌, ◌≤◌, inl, inr, ◌==◌, true, Some, IfOk, List, [], ◌∷◌, ◌++◌, length, map, drop, slice_get, All, refl, sym, subst, ◌∙◌, arith, eq-eqb}
use Rattle.std.proofs.lemmas.List.Elements.{All-weaker, All-map}
use Rattle.std.proofs.lemmas.Bool.{eqb-true}
use Rattle.theory.specs.Terms.{Term, top}
use Rattle.theory.specs.Telescopes.{Telescope, variables}
use Rattle.theory.specs.Families.{Family, Constructor}
use Rattle.theory.specs.PreludeFamilies.{equality_family}
use Rattle.theory.specs.Signatures.{Signature, FamilyOf, IsEntryAt, reflexivity}
use Rattle.theory.specs.SignatureScopes.{IsScoped}
use Rattle.theory.proofs.ScopedTerms.{app-scoped, var-scoped}
use Rattle.theory.proofs.Lists.{only}
use Rattle.core_terms.specs.Levels.{variable}
use Rattle.core_terms.specs.Answers.{bounded_terms}
use Rattle.core_terms.proofs.Answers.{and_then-has, and_then-is}
use Rattle.tele_eq.specs.Environments.{put}
use Rattle.tele_eq.specs.ScopeLaws.{HasAllIdentities}
use Rattle.tele_eq.specs.TelescopicEquality.{equations}
use Rattle.tele_eq.proofs.Growing.{append-none}
use Rattle.tele_eq.proofs.ScopeLaws.{scoped_congruences}
use Rattle.unification.specs.Heights.{bounded_state, equations_made, group_made, injected_made, injection_made}
use Rattle.unification.specs.Injecting.{lifted, group_proofs, injected_equations, injected_state}
use Rattle.unification.specs.Moving.{over_first, behind, moved}
use Rattle.unification.specs.Occurrences.{lacks, order_without}
use Rattle.unification.specs.Records.{argument_items, family_items, constructor_terms}
use Rattle.unification.specs.ScopedStates.{AreScopedEquations, IsReady, IsScopedState}
use Rattle.unification.specs.Solving.{reordered, solved, new_context, solved_state, deleted_state}
use Rattle.unification.specs.States.{State, equations_at}
use Rattle.unification.proofs.Cases.{either}
use Rattle.unification.proofs.Levels.{not-among-head}
use Rattle.unification.proofs.MovedEquations.{StandsFrom, behind-stands, over_first-scoped, moved-scoped, equations-append, equations-more, equations-drop}
use Rattle.unification.proofs.Occurring.{put-all}
use Rattle.unification.proofs.ScopedEquations.{telescope-equations, bounded_state-has}
use Rattle.unification.proofs.ScopedRecords.{variables-scoped, lifted-scoped, length-argument_items, argument_items-scoped, family_items-scoped, constructor_terms-scoped}
use Rattle.unification.proofs.SolvedContexts.{IsOver, other-among, over-others, length-order, length-new_context, reordered-term, solved-scoped, solved_context-scoped}
use Rattle.unification.proofs.Counts.{length-equations, length-equations_at}

reflexivity-scoped : (S : Signature) (n i : ℕ) (A u : Term) → HasAllIdentities S → i < top → IsScoped S n A → IsScoped S n u
    → IsScoped S n (reflexivity i A u)
reflexivity-scoped S n i A u has low h k =
    app-scoped (app-scoped (record { variables = omega arith; entries = (equality_family i, (has i low).entry, omega arith) }) h) k

variable-scoped : (S : Signature) (j d : ℕ) → j < d → IsScoped S d (variable d j)
variable-scoped S j d lt = var-scoped (omega arith)

-- ---- a solution

-- a term without variable p and its dependants is over the other variables
lacking-over : (context : Telescope) (p : ℕ) (t : Term) → lacks context p t ≡ true → IsOver (length context) (order_without context p) t
lacking-over context p t free =
    over-others context p t (order_without context p) free
    (λ i low stays. other-among context p i low (λ same. not-among-head i p _ stays (sym same)))

pub solved_state-scoped : (S : Signature) (s : State) (i p : ℕ) (A u : Term) → IsReady S → IsScopedState S s → p < length s.context → i < top
    → IsScoped S (length s.context) A → IsScoped S (length s.context) u → lacks s.context p A ≡ true → lacks s.context p u ≡ true
    → IsScopedState S (solved_state s i p A u)
solved_state-scoped S s i p A u ready scoped lt low ha hu fa fu =
    let n = length s.context in
    let order = order_without s.context p in
    let m = length order in
    let s' = solved n order p u in
    let A' = put (reordered order) n m A in
    let u' = put (reordered order) n m u in
    let counted : length (new_context s.context s' 0 order) ≡ m = length-new_context s.context s' 0 order in
    let whole : order ≡ order ++ [] = sym (append-none order) in
    let moved_A : IsScoped S m A' = reordered-term S n order order [] A m whole ha (lacking-over s.context p A fa) (omega arith) in
    let moved_u : IsScoped S m u' = reordered-term S n order order [] u m whole hu (lacking-over s.context p u fu) (omega arith) in
    let own : (j d : ℕ) → j < n → m ≤ d → IsScoped S d (s' d j) = λ j d below le. each j d below le in
    let items : StandsFrom S (n + 1) m (behind n 1 m s' (over_first m (u' ∷ []))) =
    behind-stands S n 1 m s' (over_first m (u' ∷ [])) own (λ j d le. over_first-scoped S m (u' ∷ []) j d (only (IsScoped S m) u' moved_u) le) in
    let equal = reflexivity i A' u' in
    let types : StandsFrom S (n + 1) m (behind n 1 m s' (over_first m (equal ∷ []))) =
    behind-stands S n 1 m s' (over_first m (equal ∷ [])) own
    (λ j d le. over_first-scoped S m (equal ∷ []) j d (only (IsScoped S m) equal (reflexivity-scoped S m i A' u' ready.identities low moved_A moved_u)) le) in
    let side : (t : Term) → IsScoped S n t → IsScoped S m (put s' n m t) = λ t h. put-all S s' n m t (λ j below d le. own j d below le) h in
    record {
      context = solved_context-scoped S s.context p u scoped.context lt hu fu;
      equations =
          subst (λ k. AreScopedEquations S k 0 (solved_state s i p A u).equations) (sym counted)
          (moved-scoped S n m 1 0 (n + 1) m _ _ (put s' n m) refl (omega arith) items types side (drop 1 s.equations)
          (equations-more S n (0 + 1) 1 (drop 1 s.equations) (omega arith) (equations-drop S n 0 1 s.equations scoped.equations)));
      solution =
          subst (λ k. All (IsScoped S k) (map (put s' n m) s.solution)) (sym counted)
          (All-map (IsScoped S m) (put s' n m) s.solution (All-weaker (IsScoped S n) (λ t. IsScoped S m (put s' n m t)) side s.solution scoped.solution));
    }
  where
    each : (j d : ℕ) → j < length s.context → length (order_without s.context p) ≤ d
        → IsScoped S d (solved (length s.context) (order_without s.context p) p u d j)
    each j d below le =
        solved-scoped S (length s.context) p u (order_without s.context p) (order_without s.context p) [] j d (sym (append-none (order_without s.context p))) hu
        (elim (either (j == p)) [
          | inl same ↦ inr (eqb-true j p same, lacking-over s.context p u fu)
          | inr not_same ↦
              let other : j ≡ p → ⊥ = (λ (e : j ≡ p). let t : (j == p) ≡ true = eq-eqb j p e in cc) in
              inl (other, other-among s.context p j below other)
        ])
        le

-- it has one variable less
pub solved_state-context : (s : State) (i p : ℕ) (A u : Term) → p < length s.context → length (solved_state s i p A u).context ≡ length s.context - 1
solved_state-context s i p A u lt =
    let order = order_without s.context p in
    let counted : length (new_context s.context (solved (length s.context) order p u) 0 order) ≡ length order =
    length-new_context s.context (solved (length s.context) order p u) 0 order in
    let fewer : length order + 1 ≡ length s.context = length-order s.context p lt in
    counted ∙ omega arith

-- ---- a deletion

pub deleted_state-scoped : (S : Signature) (s : State) (i : ℕ) (A u : Term) → IsReady S → IsScopedState S s → i < top
    → IsScoped S (length s.context) A → IsScoped S (length s.context) u → IsScopedState S (deleted_state s i A u)
deleted_state-scoped S s i A u ready scoped low ha hu =
    let n = length s.context in
    let equal = reflexivity i A u in
    let own : (j d : ℕ) → j < n → n ≤ d → IsScoped S d (variable d j) = λ j d lt le. variable-scoped S j d (omega arith) in
    let items : StandsFrom S (n + 1) n (behind n 1 n variable (over_first n (u ∷ []))) =
    behind-stands S n 1 n variable (over_first n (u ∷ [])) own (λ j d le. over_first-scoped S n (u ∷ []) j d (only (IsScoped S n) u hu) le) in
    let types : StandsFrom S (n + 1) n (behind n 1 n variable (over_first n (equal ∷ []))) =
    behind-stands S n 1 n variable (over_first n (equal ∷ [])) own
    (λ j d le. over_first-scoped S n (equal ∷ []) j d (only (IsScoped S n) equal (reflexivity-scoped S n i A u ready.identities low ha hu)) le) in
    record {
      context = scoped.context;
      equations =
          moved-scoped S n n 1 0 (n + 1) n _ _ (λ t. t) refl (omega arith) items types (λ t h. h) (drop 1 s.equations)
          (equations-more S n (0 + 1) 1 (drop 1 s.equations) (omega arith) (equations-drop S n 0 1 s.equations scoped.equations));
      solution = scoped.solution;
    }

-- ---- an injectivity

-- an injection: constructor `number` of family n, at scoped parameters and two lists of scoped arguments
pub record IsInjection (S : Signature) (m n number : ℕ) (f : Family) (c : Constructor) (ps us vs : List Term) : Type 0 where
  pub owner : Family
  pub entry : IsEntryAt S n (FamilyOf owner)
  pub constructor : slice_get owner.constructors number ≡ Some c
  pub family : IsEntryAt S n (FamilyOf f)
  pub parameters : All (IsScoped S m) ps
  pub left : All (IsScoped S m) us
  pub right : All (IsScoped S m) vs
  pub left_length : length us ≡ length c.arguments
  pub right_length : length vs ≡ length c.arguments

-- congruences of scoped terms
pub group_proofs-scoped : (S : Signature) (m n number : ℕ) (owner f : Family) (c : Constructor) (ps us vs : List Term) → IsReady S
    → IsEntryAt S n (FamilyOf owner) → slice_get owner.constructors number ≡ Some c → IsEntryAt S n (FamilyOf f)
    → All (IsScoped S m) ps → All (IsScoped S m) us → All (IsScoped S m) vs
    → All (IsScoped S (m + length c.arguments)) (group_proofs n number f c ps us vs)
group_proofs-scoped S m n number owner f c ps us vs ready at there family hp hu hv =
    let count = length c.arguments in
    let ps' = lifted count ps in
    let lifted_ps : All (IsScoped S (m + count)) ps' = lifted-scoped S m count ps hp in
    scoped_congruences S (m + count) (argument_items n ps' c) (family_items n f ps') (constructor_terms n number ps' c) (lifted count us)
    (lifted count vs) (variables count) ready.identities
    (argument_items-scoped S n number (m + count) owner c ps' ready.scoped at there lifted_ps)
    (family_items-scoped S n (m + count) f ps' ready.scoped family lifted_ps)
    (subst (λ k. All (IsScoped S (m + count + k)) (constructor_terms n number ps' c)) (sym (length-argument_items n ps' c))
    (constructor_terms-scoped S n number (m + count) owner c ps' ready.scoped at there lifted_ps))
    (lifted-scoped S m count us hu) (lifted-scoped S m count vs hv) (variables-scoped S (m + count) count (omega arith))

pub injected_state-scoped : (S : Signature) (s : State) (g n number : ℕ) (f : Family) (c : Constructor) (ps us vs : List Term) → IsReady S
    → IsScopedState S s → IsInjection S (length s.context) n number f c ps us vs → IsScopedState S (injected_state s g n number f c ps us vs)
injected_state-scoped S s g n number f c ps us vs ready scoped is =
    let m = length s.context in
    let new = m + length c.arguments in
    let X = argument_items n ps c in
    let terms = constructor_terms n number ps c in
    let proofs = group_proofs n number f c ps us vs in
    let own : (j d : ℕ) → j < m → new ≤ d → IsScoped S d (variable d j) = λ j d lt le. variable-scoped S j d (omega arith) in
    let items : StandsFrom S (m + g) new (behind m g new variable (over_first new terms)) =
    behind-stands S m g new variable (over_first new terms) own
    (λ j d le. over_first-scoped S new terms j d (constructor_terms-scoped S n number m is.owner c ps ready.scoped is.entry is.constructor is.parameters) le) in
    let types : StandsFrom S (m + g) new (behind m g new variable (over_first new proofs)) =
    behind-stands S m g new variable (over_first new proofs) own
    (λ j d le. over_first-scoped S new proofs j d (group_proofs-scoped S m n number is.owner f c ps us vs ready is.entry is.constructor is.family is.parameters is.left is.right) le) in
    let first = equations_at X (equations X us vs) us vs in
    let counted : length X ≡ length c.arguments = length-argument_items n ps c in
    let many : length first ≡ length X =
    length-equations_at X (equations X us vs) us vs (length-equations X us vs) (is.left_length ∙ sym counted)
    (is.right_length ∙ sym counted) in
    let others = moved (behind m g new variable (over_first new terms)) (behind m g new variable (over_first new proofs)) (λ t. t) (m + g) new (drop g s.equations) in
    record {
      context = scoped.context;
      equations =
          equations-append S m 0 first others
          (telescope-equations S m X us vs ready.identities (argument_items-scoped S n number m is.owner c ps ready.scoped is.entry is.constructor is.parameters)
          is.left is.right)
          (moved-scoped S m m g (0 + length first) (m + g) new _ _ (λ t. t) refl (omega arith) items types (λ t h. h) (drop g s.equations)
          (equations-more S m (0 + g) g (drop g s.equations) (omega arith) (equations-drop S m 0 g s.equations scoped.equations)));
      solution = scoped.solution;
    }

-- the state that is made, unless a term is too high
pub injection_made-has : (P : State → Type 0) (s : State) (g n number : ℕ) (f : Family) (c : Constructor) (ps us vs : List Term)
    → P (injected_state s g n number f c ps us vs) → IfOk (injection_made s g n number f c ps us vs) P
injection_made-has P s g n number f c ps us vs h =
    and_then-has (λ es. es ≡ injected_equations s g n number f c ps us vs) P (injected_made s g n number f c ps us vs)
    (λ es. bounded_state (record s { equations = es }))
    (and_then-is _ (equations_made (argument_items n ps c) us vs) _ (λ types e.
    and_then-is _ (group_made n number f c ps us vs) _ (λ proofs e'.
    and_then-is _ (bounded_terms (constructor_terms n number ps c)) _ (λ terms e''. refl))))
    (λ es e. bounded_state-has P (record s { equations = es }) (subst (λ x. P (record s { equations = x })) (sym e) h))
