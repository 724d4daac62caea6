-- The conditions of the walks and trees of a part: it is scoped, and its clauses have one pattern for each of its columns.
use Rattle.std.proofs.Common.{◌≡◌, ℕ, zero, suc, ◌+◌, cond, Bool, true, false, Some, Result, Ok, Err, IfOk, [], length, reverse, refl, sym, ap, ◌∙◌, subst as transport, arith}
use Rattle.std.proofs.lemmas.List.{length-reverse}
use Rattle.std.specs.List.{All}
use Rattle.theory.specs.Terms.{Term, free_of}
use Rattle.theory.specs.Signatures.{Signature}
use Rattle.theory.specs.SignatureScopes.{IsScoped, IsScopedContext, IsScopedTelescope}
use Rattle.theory.specs.Telescopes.{Telescope}
use Rattle.theory.proofs.Lists.{some_is}
use Rattle.theory.proofs.ScopedTerms.{context-scoped}
use Rattle.core_terms.proofs.Answers.{Answers, and_next-has}
use Rattle.core_terms.specs.Answers.{is_low}
use Rattle.core_terms.specs.CaseTrees.{Walk}
use Rattle.core_terms.specs.Clauses as clause
use Rattle.core_terms.specs.Clauses.{Clause, Clauses, Right, Is}
use Rattle.core_terms.specs.Patterns.{Pats}
use Rattle.core_terms.specs.Verdicts.{Verdict, Yes, No}
use Rattle.core_terms.specs.declared.stop.Stop.{Stop}
use Rattle.case_trees.proofs.ScopedPoints.{under-scoped}
use Rattle.case_trees.proofs.WalkEnding.{walk_scoped}
use Rattle.case_trees.specs.Laws.{IsGiven}
use Rattle.case_trees.specs.OwnWalks.{own_walk_of}
use Rattle.case_trees.specs.Places.{clause_at}
use Rattle.case_trees.specs.Points.{under_solution}
use Rattle.case_trees.specs.Scoped.{IsScopedWalk}
use Rattle.case_trees.specs.Stops.{TreeStop, answers as walked_with}
use Rattle.clause_reports.proofs.Keeping.{Any, any}
use Rattle.clause_reports.specs.elaboration.Refusals.{OfGoal, OfWith, Owner, Part, Refusal, SelfInType, answers, granted, halting, or_halts}
use Rattle.clause_reports.specs.elaboration.Walking.{Opened, Opening, Session, and_level, helper_terms, if_low_level, open_over, opened, without_self}
use Rattle.function_checks.proofs.function_clauses.Fitting.{clause-for}
use Rattle.function_checks.proofs.function_clauses.HelperParts.{helper-columns, terms-scoped}
use Rattle.function_checks.proofs.function_clauses.WalkColumns.{walk-columns}
use Rattle.kernel_check.proofs.Contexts.{context-reverse}
use Rattle.kernel_check.proofs.Scoped.{infer-scoped}
use Rattle.kernel_check.specs.Checking.{infer_of, infer_sort_of}
use Rattle.kernel_check.specs.Laws.{IfYes, IsScopedVerdict}
use Rattle.kernel_reduce.specs.Reduction.{answered, if_low, nesting}
use Rattle.resolve.specs.Scoping.{AreClauses, IsClause}
use Rattle.tree_translation.specs.structural_rec.Calls.{has_constant}
use Rattle.theory.specs.Telescopes.{products}
use Rattle.unification.proofs.ScopedRecords.{variables-scoped}
use Rattle.unification.specs.ScopedStates.{IsReady}
use Rattle.with_abstraction.proofs.ScopedAbstractions.{abstraction-of_scoped}
use Rattle.with_abstraction.specs.Abstractions.{Abstracted, abstract_over_of, abstracted}
use Rattle.with_abstraction.specs.Laws.{IsScopedAbstraction}
use Rattle.with_abstraction.specs.NormalForms.{normal_forms_of}
use Rattle.function_session.proofs.Written.{granted-has}
use Rattle.function_session.proofs.plan_laws.OpenedScopes.{low-has}
use Rattle.elim.proofs.written_functions.Abstractions.{AreFormsOf, IsAbstractionOf, abstraction-is, forms-are}

-- ---- helpers that are opened

-- an abstraction in a scoped context that is scoped
pub record IsScopedOver (S : Signature) (context : Telescope) (goal t : Term) (a : Abstracted) : Type 0 where
  pub scoped : IsScopedAbstraction S (length context) a
  pub of : IsAbstractionOf S context goal t a

-- the abstraction in a scoped context, however long, is scoped
abstraction-fits : (S : Signature) (context : Telescope) (goal t type : Term) (left : ℕ) → IsReady S → IsScopedTelescope S 0 context
    → IsScoped S (length context) goal → IsScoped S (length context) t → IsScoped S (length context) type
    → Answers (IsScopedOver S context goal t) (abstract_over_of S context goal t type left)
abstraction-fits S context goal t type left ready types g u k =
    and_next-has (AreFormsOf S context goal t) (IsScopedOver S context goal t) (normal_forms_of S context goal t left)
    (λ m rest. if_low (is_low type) (answered (Ok (abstracted m type))) rest)
    (forms-are S context goal t left ready types g u)
    (λ m rest forms. low-has (IsScopedOver S context goal t) (is_low type) (abstracted m type) rest
    (record {
      scoped = abstraction-of_scoped S (length context) m type forms.fitting k;
      of = abstraction-is S context goal t type m ready k forms;
    }))

halting-has : {A : Type 0} (P : A → Type 0) (r : Result A Stop) → IfOk r P → IfOk (or_halts r) P
halting-has P (Ok a) h = h
halting-has P (Err e) h = tt

-- a term that does not mention the function is itself
self-is : (constant : ℕ) (owner : Owner) (t : Term) → IfOk (without_self constant owner t) (λ u. u ≡ t)
self-is constant owner t = by (has_constant constant t)
  where
    by : (b : Bool) → IfOk {E = Refusal} (cond b (Err (SelfInType owner)) (Ok t)) (λ u. u ≡ t)
    by true = tt
    by false = refl

level-is : (P : Abstracted → Type 0) (a : Abstracted) (level : Result ℕ Refusal) → P a → IfOk (and_level a level) (λ (o : Opening). P o.abstraction)
level-is P a (Ok J) h = h
level-is P a (Err e) h = tt

-- the type that is found is scoped
yes-scoped : (S : Signature) (n m : ℕ) (r : Result Verdict Stop) → n ≡ m → IfOk r (IsScopedVerdict S n) → IfOk r (λ v. IfYes v (IsScoped S m))
yes-scoped S n m (Ok (Yes type)) e h = transport (λ k. IsScoped S k type) e h
yes-scoped S n m (Ok (No d)) e h = tt
yes-scoped S n m (Err e) same h = tt

-- the context of a walk
context-fits : (S : Signature) (types : Telescope) → IsScopedTelescope S 0 types → IsScopedContext S (reverse types)
context-fits S types h = transport (IsScopedContext S) (context-reverse types) ((context-scoped S types).0 h)

found-fits : (S : Signature) (part : Part) (types : Telescope) (t : Term) (left : ℕ) → IsReady S → IsScopedTelescope S 0 types → IsScoped S (length types) t
    → Answers (IsScoped S (length types)) (granted S part (infer_of S nesting (reverse types) t left))
found-fits S part types t left ready h k =
    granted-has (IsScoped S (length types)) S part (infer_of S nesting (reverse types) t left).0
    (yes-scoped S (length (reverse types)) (length types) (infer_of S nesting (reverse types) t left).0 (length-reverse types)
    (infer-scoped S nesting (reverse types) t left ready.scoped (context-fits S types h)
    (transport (λ n. IsScoped S n t) (sym (length-reverse types)) k)))

-- the opening of a helper over a walk is scoped
pub opening-fits : (s : Session) (owner : Owner) (w : Walk) (t : Term) (left : ℕ) → IsReady s.signature → IsScopedWalk s.signature w
    → IsScoped s.signature (length w.ctx) t
    → Answers (λ (o : Opening). IsScopedOver s.signature w.ctx w.goal t o.abstraction) (open_over s owner w t left)
opening-fits s owner w t left ready scoped k =
    let S = s.signature in
    let n = length w.ctx in
    let P : Opening → Type 0 = λ o. IsScopedOver S w.ctx w.goal t o.abstraction in
    and_next-has (IsScoped S n) P (granted S (OfWith owner) (infer_of S nesting (reverse w.ctx) t left)) _
    (found-fits S (OfWith owner) w.ctx t left ready scoped.context k) (λ found rest f.
    and_next-has (λ type. type ≡ found) P (answers (without_self s.own owner found) rest) _ (self-is s.own owner found) (λ type more same.
    and_next-has (IsScopedOver S w.ctx w.goal t) P (halting (abstract_over_of S w.ctx w.goal t type more)) _
    (halting-has (IsScopedOver S w.ctx w.goal t) (abstract_over_of S w.ctx w.goal t type more).0
    (abstraction-fits S w.ctx w.goal t type more ready scoped.context scoped.goal k (transport (IsScoped S n) (sym same) f))) (λ a end h.
    and_next-has Any P (answers (without_self s.own owner a.goal) end) _ (any (without_self s.own owner a.goal)) (λ goal last u.
    let sort = granted S (OfGoal owner) (infer_sort_of S nesting [] (products a.telescope goal) last) in
    and_next-has Any P sort _ (any sort.0) (λ found_sort final v.
    level-is (IsScopedOver S w.ctx w.goal t) a (if_low_level S owner found_sort) h)))))

-- ---- the columns of a helper

helper-given : (S : Signature) (w : Walk) (o : Opening) → IsReady S → IsScopedWalk S w → IsScopedAbstraction S (length w.ctx) o.abstraction
    → IsGiven S (opened o w).tele (opened o w).goal (opened o w).terms
helper-given S w o ready scoped h =
    let a = o.abstraction in
    let same = sym h.types in
    record {
      ready = ready;
      scoped = record {
        context = h.telescope;
        goal = transport (λ k. IsScoped S k a.goal) same h.goal;
        substitution = variables-scoped S (length a.telescope) (length a.telescope) (omega arith);
        terms = transport (λ k. All (IsScoped S k) (helper_terms a w.terms)) same (terms-scoped S a (length w.ctx) w.terms h.variables scoped.terms);
      };
    }

-- ---- parts

-- the conditions of walks and trees on a part
pub record IsWalkable (S : Signature) (part : Opened) (clauses : Clauses) : Type 0 where
  pub given : IsGiven S part.tele part.goal part.terms
  pub fitting : AreClauses S (length part.terms) clauses

pub clause-resolved : (S : Signature) (k : ℕ) (clauses : Clauses) (number : ℕ) (c : Clause) → AreClauses S k clauses → clause_at clauses number ≡ Some c
    → IsClause S k c
clause-resolved S k clause.nil number c h e = absurd (cc)
clause-resolved S k (clause.cons first clauses) zero c h e = transport (IsClause S k) (some_is e) h.0
clause-resolved S k (clause.cons first clauses) (suc number) c h e = clause-resolved S k clauses number c h.1 e

-- the own walk of a clause of a part
pub record IsFit (S : Signature) (part : Opened) (w : Walk) : Type 0 where
  pub scoped : IsScopedWalk S w
  pub columns : length w.terms ≡ length part.terms

pub walk-fits : (S : Signature) (part : Opened) (number binds left : ℕ) (pats : Pats) (right : Right) (w : Walk) → IsGiven S part.tele part.goal part.terms
    → IsClause S (length part.terms) (Is pats binds right)
    → (own_walk_of S part.tele part.goal part.terms (Is pats binds right) number left).0 ≡ Ok w → IsFit S part w
walk-fits S part number binds left pats right w h c e =
    let for = clause-for S part.terms (Is pats binds right) c in
    let r = own_walk_of S part.tele part.goal part.terms (Is pats binds right) number left in
    record {
      scoped = transport (λ (r : Result Walk TreeStop). IfOk r (IsScopedWalk S)) e (walk_scoped S part.tele part.goal part.terms pats binds right number left h for);
      columns =
          walk-columns S part.tele part.goal part.terms (Is pats binds right) number left r.1 w h for
          (ap (λ (a : Result Walk TreeStop). walked_with a r.1) (sym e));
    }

-- a helper that is opened over a walk, with the clauses inside
pub record IsOpenedFor (S : Signature) (w : Walk) (t : Term) (o : Opening) (inside : Clauses) : Type 0 where
  pub abstraction : IsScopedOver S w.ctx w.goal t o.abstraction
  pub walkable : IsWalkable S (opened o w) inside

pub helper-opens : (s : Session) (binds rest : ℕ) (part : Opened) (inside : Clauses) (pats : Pats) (scrutinee : Term) (owner : Owner) (w : Walk) (o : Opening)
    → IsReady s.signature → IsClause s.signature (length part.terms) (Is pats binds (clause.With scrutinee inside)) → IsFit s.signature part w
    → (open_over s owner w (under_solution w.binds scrutinee) rest).0 ≡ Ok o
    → IsOpenedFor s.signature w (under_solution w.binds scrutinee) o inside
helper-opens s binds rest part inside pats scrutinee owner w o ready c fit is =
    let S = s.signature in
    let t = under_solution w.binds scrutinee in
    let bound : IsScoped S (length w.ctx) t =
    under-scoped S (free_of scrutinee) (length w.ctx) w.binds scrutinee fit.scoped.binds
    (record { variables = omega arith; entries = c.3.0.scoped.entries }) in
    let a : IsScopedOver S w.ctx w.goal t o.abstraction =
    transport (λ (r : Result Opening Refusal). IfOk r (λ (o : Opening). IsScopedOver S w.ctx w.goal t o.abstraction)) is
    (opening-fits s owner w t rest ready fit.scoped bound) in
    record {
      abstraction = a;
      walkable = record {
        given = helper-given S w o ready fit.scoped a.scoped;
        fitting = transport (λ n. AreClauses S n inside) (sym (helper-columns w o ∙ ap (λ n. n + 1) fit.columns)) c.3.1;
      };
    }

pub helper-walkable : (s : Session) (number binds left rest : ℕ) (part : Opened) (clauses inside : Clauses) (pats : Pats) (scrutinee : Term) (owner : Owner)
    (w : Walk) (o : Opening) → IsWalkable s.signature part clauses → clause_at clauses number ≡ Some (Is pats binds (clause.With scrutinee inside))
    → (own_walk_of s.signature part.tele part.goal part.terms (Is pats binds (clause.With scrutinee inside)) number left).0 ≡ Ok w
    → (open_over s owner w (under_solution w.binds scrutinee) rest).0 ≡ Ok o → IsWalkable s.signature (opened o w) inside
helper-walkable s number binds left rest part clauses inside pats scrutinee owner w o h there walked is =
    let S = s.signature in
    let c = clause-resolved S (length part.terms) clauses number (Is pats binds (clause.With scrutinee inside)) h.fitting there in
    (helper-opens s binds rest part inside pats scrutinee owner w o h.given.ready c
    (walk-fits S part number binds left pats (clause.With scrutinee inside) w h.given c walked) is).walkable
