-- A helper that is opened over a walk is scoped over the signature without the function: its scrutinee may name the function, but neither
-- its telescope nor its goal does.
use Rattle.std.proofs.Common.{◌≡◌, ℕ, suc, ◌+◌, ◌-◌, ◌≤◌, ◌<◌, Bool, true, false, cond, nat_lt, List, [], ◌∷◌, ◌++◌, length, length-append, map, reverse, Result, Ok, Err, IfOk, refl, sym, subst as transport, arith}
use Rattle.std.proofs.lemmas.Bool.Decides.{nat_tests}
use Rattle.std.proofs.lemmas.List.{length-map, length-reverse}
use Rattle.std.proofs.lemmas.List.Elements.{All-nil, All-cons}
use Rattle.std.specs.List.{All}
use Rattle.theory.specs.Terms.{Term, Sort, Const, lift, top}
use Rattle.theory.specs.Telescopes.{Telescope, products}
use Rattle.theory.specs.Signatures.{Signature, Definition}
use Rattle.theory.specs.SignatureScopes.{IsScoped, IsScopedContext, IsScopedSignature, IsScopedTelescope}
use Rattle.theory.specs.WellFormed.{provisional}
use Rattle.theory.proofs.Pushing.{push_is_longer}
use Rattle.theory.proofs.ScopedTerms.{HasNumbers, context-scoped, keeps-numbers, scoped-wider, telescope-wider}
use Rattle.theory.proofs.Widening.{prefix_keeps}
use Rattle.core_terms.specs.Answers.{and_next, is_low}
use Rattle.core_terms.specs.CaseTrees.{Walk}
use Rattle.core_terms.specs.Verdicts.{No, Verdict, Yes}
use Rattle.core_terms.specs.declared.stop.Stop.{Stop}
use Rattle.core_terms.proofs.Answers.{and_next-has}
use Rattle.kernel_check.specs.Checking.{infer_of, infer_sort_of}
use Rattle.kernel_check.specs.Laws.{IsScopedVerdict}
use Rattle.kernel_check.proofs.Contexts.{context-reverse}
use Rattle.kernel_check.proofs.Scoped.{infer-scoped}
use Rattle.kernel_reduce.specs.Reduction.{answered, if_low, nesting}
use Rattle.tele_eq.proofs.Growing.{append-none}
use Rattle.tree_translation.specs.structural_rec.Calls.{has_constant}
use Rattle.unification.proofs.SolvedContexts.{reordered-term}
use Rattle.with_abstraction.specs.Abstractions.{Abstracted, abstract_over_of, abstracted, arranged_with, opened_types}
use Rattle.with_abstraction.specs.Needed.{widened}
use Rattle.with_abstraction.specs.NormalForms.{NormalForms, normal_forms_of, plain_normal_of, plain_normals_of}
use Rattle.with_abstraction.specs.Occurrences.{without}
use Rattle.with_abstraction.specs.Orders.{behind, in_front, new_order}
use Rattle.with_abstraction.proofs.BehindLevels.{length-both}
use Rattle.with_abstraction.proofs.Following.{all-among, all-follow}
use Rattle.with_abstraction.proofs.FormScopes.{AreFitting, AreFormsFitting, IsFitting, forms-fitting, normal-fitting, normals-fitting, types-count, types-scoped}
use Rattle.with_abstraction.proofs.OpenedTypes.{is-opened, opened-count}
use Rattle.with_abstraction.proofs.ScopedAbstractions.{abstraction-of_scoped, all-scoped, arranged-scoped, without-scoped}
use Rattle.clause_reports.specs.elaboration.Refusals.{OfGoal, OfWith, Owner, Part, Refusal, answers, granted, halting, level_too_high, or_ill_typed}
use Rattle.clause_reports.specs.elaboration.Walking.{Opening, Session, and_level, greatest_level, if_low_level, open_over, without_self}
use Rattle.function_session.proofs.plan_laws.Answering.{halts-ok, if-ok, next-has}
use Rattle.function_session.proofs.plan_laws.OwnFree.{scoped-before}
use Rattle.function_session.proofs.plan_laws.SameAbstractions.{forms-same}
use Rattle.function_session.proofs.plan_laws.SameReduction.{not-read}

-- ---- normal forms

-- those of a context and a goal that are over S, whatever the scrutinee names
pub record AreFormsOver (S : Signature) (n : ℕ) (m : NormalForms) : Type 0 where
  pub goal : IsFitting S n m.goal
  pub types : AreFitting S 0 n m.types

forms-over : (S : Signature) (context : Telescope) (goal t : Term) (left : ℕ) → IsScopedSignature S → IsScopedTelescope S 0 context
    → IsScoped S (length context) goal → IfOk (normal_forms_of S context goal t left).0 (AreFormsOver S (length context))
forms-over S context goal t left sig types g =
    and_next-has (IsFitting S (length context)) (AreFormsOver S (length context)) (plain_normal_of S goal left)
    (λ G rest. and_next (plain_normals_of S context rest) (λ types more.
    and_next (plain_normal_of S t more) (λ u end. answered (Ok (record { goal = G; types = types; scrutinee = u })) end)))
    (normal-fitting S (length context) goal left sig g)
    (λ G rest a. and_next-has (AreFitting S 0 (length context)) (AreFormsOver S (length context)) (plain_normals_of S context rest)
    (λ types more. and_next (plain_normal_of S t more) (λ u end. answered (Ok (record { goal = G; types = types; scrutinee = u })) end))
    (normals-fitting S 0 context rest sig types)
    (λ normals more b. next-has (AreFormsOver S (length context)) (plain_normal_of S t more)
    (λ u end. answered (Ok (record { goal = G; types = normals; scrutinee = u })) end)
    (λ u end e. record { goal = a; types = b })))

-- ---- abstractions

-- the telescope and the goal of an abstraction in a context of n variables
abbrev AreScopedBoth : Signature → ℕ → Abstracted → Type 0
AreScopedBoth S n a = IsScopedTelescope S 0 a.telescope × IsScoped S (n + 1) a.goal

abstraction-over : (S : Signature) (n : ℕ) (m : NormalForms) (type : Term) → AreFormsOver S n m → IsScoped S n type → AreScopedBoth S n (abstracted m type)
abstraction-over S n m type h k =
    transport (λ c. AreScopedBoth S n (arranged_with c m.scrutinee type (opened_types c m.scrutinee type (widened c 0 m.types)) m.goal)) (sym count) made
  where
    count : length m.types ≡ n
    count = types-count S 0 n m.types h.types

    types : List Term
    types = opened_types n m.scrutinee type (widened n 0 m.types)

    order : List ℕ
    order = new_order n types

    both : length (in_front n types) + length (behind n types) ≡ n
    both = length-both n types (opened-count n m.scrutinee type m.types count)

    made : AreScopedBoth S n (arranged_with n m.scrutinee type types m.goal)
    made = (
      arranged-scoped S n (types ++ lift type 1 0 ∷ []) order [] order 0 refl refl
          (all-follow n types (lift type 1 0) (is-opened n m.scrutinee type m.types count))
          (all-scoped S n m.scrutinee type m.types count (types-scoped S 0 n m.types h.types) k),
      reordered-term S (n + 1) order order [] (without m.scrutinee m.goal) (n + 1) (sym (append-none order))
          (without-scoped S m.scrutinee n 0 m.goal (omega arith) h.goal.scoped) (λ l lt has. all-among n types l lt)
          (let e : length order ≡ length (in_front n types) + suc (length (behind n types)) = length-append (in_front n types) (n ∷ behind n types) in omega (arith, both)),
    )

each-low : (n : ℕ) (js : List ℕ) → length js ≤ n → All (λ x. x < n) (map (λ j. n - (j + 1)) js)
each-low n [] le = All-nil (λ x. x < n)
each-low n (j ∷ js) le =
    let low : n - (j + 1) < n = omega (arith, le) in
    All-cons (λ x. x < n) (n - (j + 1)) (map (λ j. n - (j + 1)) js) low (each-low n js (omega (arith, le)))

-- the variables of the context in the order of an abstraction
order-low : (m : NormalForms) (type : Term) (n : ℕ) → length m.types ≡ n → length (abstracted m type).order ≡ n
    → All (λ x. x < n) (abstracted m type).order
order-low m type n count long =
    transport (λ k. All (λ x. x < k) (abstracted m type).order) count
    (each-low (length m.types) levels (let e : length (abstracted m type).order ≡ length levels = length-map levels (λ j. length m.types - (j + 1)) in omega (arith, e, long, count)))
  where
    types : List Term
    types = opened_types (length m.types) m.scrutinee type (widened (length m.types) 0 m.types)

    levels : List ℕ
    levels = in_front (length m.types) types ++ behind (length m.types) types

-- An abstraction in a context of n variables: over S are its telescope and its goal, and its order has variables of the context.
pub record IsAbstractionOver (S : Signature) (n : ℕ) (a : Abstracted) : Type 0 where
  pub telescope : IsScopedTelescope S 0 a.telescope
  pub goal : IsScoped S (n + 1) a.goal
  pub types : length a.telescope ≡ n + 1
  pub place : a.place ≤ n
  pub variables : length a.order ≡ n
  pub each : All (λ x. x < n) a.order

pub low-has : (P : Abstracted → Type 0) (b : Bool) (a : Abstracted) (rest : ℕ) → P a → IfOk (if_low b (answered (Ok a)) rest).0 P
low-has P true a rest h = h
low-has P false a rest h = tt

module _ (S : Signature) (name : List ℕ) (type : Term) (sig : IsScopedSignature S) (with_function : IsScopedSignature (provisional S name type)) where
  abstract-has : (context : Telescope) (goal t found : Term) (left : ℕ) → IsScopedTelescope S 0 context → IsScoped S (length context) goal
      → IsScopedTelescope (provisional S name type) 0 context → IsScoped (provisional S name type) (length context) goal
      → IsScoped (provisional S name type) (length context) t → IsScoped S (length context) found → IsScoped (provisional S name type) (length context) found
      → IfOk (abstract_over_of (provisional S name type) context goal t found left).0 (IsAbstractionOver S (length context))
  abstract-has context goal t found left types g types' g' t' f f' =
      next-has (IsAbstractionOver S (length context)) (normal_forms_of (provisional S name type) context goal t left)
      (λ m rest. if_low (is_low found) (answered (Ok (abstracted m found))) rest)
      (λ m rest e.
      let over = if-ok (AreFormsOver S (length context)) (normal_forms_of (provisional S name type) context goal t left).0 m e
      (transport (λ r. IfOk r.0 (AreFormsOver S (length context))) (forms-same S (provisional S name type) (not-read S name type) context goal t left)
      (forms-over S context goal t left sig types g)) in
      let fits = if-ok (AreFormsFitting (provisional S name type) (length context)) (normal_forms_of (provisional S name type) context goal t left).0 m e
      (forms-fitting (provisional S name type) context goal t left with_function types' g' t') in
      let scoped = abstraction-of_scoped (provisional S name type) (length context) m found fits f' in
      let both = abstraction-over S (length context) m found over f in
      low-has (IsAbstractionOver S (length context)) (is_low found) (abstracted m found) rest
      (record {
        telescope = both.0;
        goal = both.1;
        types = scoped.types;
        place = scoped.place;
        variables = scoped.variables;
        each = order-low m found (length context) (types-count S 0 (length context) m.types over.types) scoped.variables;
      }))

-- ---- helpers

-- what the checker grants is scoped
granted-scoped : (S : Signature) (n : ℕ) (part : Part) (r : Result Verdict Stop) (found : Term) → IfOk r (IsScopedVerdict S n)
    → or_ill_typed S part r ≡ Ok found → IsScoped S n found
granted-scoped S n part (Ok (Yes t)) found h e = let same : t ≡ found = cc in transport (IsScoped S n) same h
granted-scoped S n part (Ok (No d)) found h e = absurd (cc)
granted-scoped S n part (Err s) found h e = absurd (cc)

self-free : (own : ℕ) (owner : Owner) (t u : Term) → without_self own owner t ≡ Ok u → (has_constant own t ≡ false) × (t ≡ u)
self-free own owner t u e = by (has_constant own t) refl e
  where
    by : (b : Bool) → has_constant own t ≡ b → ◌≡◌ {A = Result Term Refusal} (cond b (Err (Refusal.SelfInType owner)) (Ok t)) (Ok u)
        → (has_constant own t ≡ false) × (t ≡ u)
    by true is k = absurd (cc)
    by false is k = (is, cc)

-- a helper that is opened over a walk
pub record IsOpened (S : Signature) (n : ℕ) (o : Opening) : Type 0 where
  pub over : IsAbstractionOver S n o.abstraction
  pub level : o.level < top

level-has : (S : Signature) (n : ℕ) (R : Signature) (owner : Owner) (a : Abstracted) (sort : Term) → IsAbstractionOver S n a
    → IfOk (and_level a (if_low_level R owner sort)) (IsOpened S n)
level-has S n R owner a (Sort J) h = by (nat_lt greatest_level J) refl
  where
    by : (b : Bool) → nat_lt greatest_level J ≡ b → IfOk (and_level a (cond b (Err (level_too_high R (OfGoal owner) J greatest_level)) (Ok J))) (IsOpened S n)
    by true is = tt
    by false is = let low : J < top = grind (arith, nat_tests, is) in record { over = h; level = low }
level-has S n R owner a _ h = let low : 0 < top = omega arith in record { over = h; level = low }

-- the signature with the function, as its clauses are walked over it
abbrev pub session : Signature → (name : List ℕ) → (type : Term) → Session
session S name type = record { signature = provisional S name type; name = name; own = length S.entries }

reverse-scoped : (S : Signature) (context : Telescope) → IsScopedTelescope S 0 context → IsScopedContext S (reverse context)
reverse-scoped S context h = transport (IsScopedContext S) (context-reverse context) ((context-scoped S context).0 h)

-- what is there stays there
pub numbers : (S : Signature) (name : List ℕ) (type : Term) → HasNumbers S (provisional S name type)
numbers S name type = keeps-numbers (prefix_keeps (push_is_longer S (Definition name type (Const (length S.entries)))))

-- the scopes of a walk where a helper is opened
pub record IsWalkIn (S T : Signature) (w : Walk) : Type 0 where
  pub context : IsScopedTelescope S 0 w.ctx
  pub goal : IsScoped S (length w.ctx) w.goal
  pub terms : All (IsScoped S (length w.ctx)) w.terms
  pub binds : All (IsScoped T (length w.ctx)) w.binds

module _ (S : Signature) (name : List ℕ) (type : Term) (sig : IsScopedSignature S) (with_function : IsScopedSignature (provisional S name type)) where
  pub open-has : (owner : Owner) (w : Walk) (t : Term) (left : ℕ) → IsWalkIn S (provisional S name type) w
      → IsScoped (provisional S name type) (length w.ctx) t
      → IfOk (open_over (session S name type) owner w t left).0 (IsOpened S (length w.ctx))
  open-has owner w t left h t' =
      let T = provisional S name type in
      let n = length w.ctx in
      let types' : IsScopedTelescope T 0 w.ctx = telescope-wider (numbers S name type) 0 w.ctx h.context in
      let goal' : IsScoped T n w.goal = scoped-wider (numbers S name type) h.goal in
      next-has (IsOpened S n) (granted T (OfWith owner) (infer_of T nesting (reverse w.ctx) t left)) _ (λ found rest e1.
      next-has (IsOpened S n) (answers (without_self (length S.entries) owner found) rest) _ (λ u rest e2.
      next-has (IsOpened S n) (halting (abstract_over_of T w.ctx w.goal t u rest)) _ (λ a more e3.
      next-has (IsOpened S n) (answers (without_self (length S.entries) owner a.goal) more) _ (λ goal more e4.
      next-has (IsOpened S n) (granted T (OfGoal owner) (infer_sort_of T nesting [] (products a.telescope goal) more)) _ (λ sort end e5.
      let found' : IsScoped T n found =
      transport (λ k. IsScoped T k found) (length-reverse w.ctx)
      (granted-scoped T (length (reverse w.ctx)) (OfWith owner) (infer_of T nesting (reverse w.ctx) t left).0 found
      (infer-scoped T nesting (reverse w.ctx) t left with_function (reverse-scoped T w.ctx types')
      (transport (λ k. IsScoped T k t) (sym (length-reverse w.ctx)) t')) e1) in
      let free = self-free (length S.entries) owner found u e2 in
      let f : IsScoped S n u = transport (IsScoped S n) free.1 (scoped-before S name type n found found' free.0) in
      level-has S n T owner a sort
      (if-ok (IsAbstractionOver S n) (abstract_over_of T w.ctx w.goal t u rest).0 a (halts-ok _ a e3)
      (abstract-has S name type sig with_function w.ctx w.goal t u rest h.context h.goal types' goal' t' f (transport (IsScoped T n) free.1 found'))))))))
