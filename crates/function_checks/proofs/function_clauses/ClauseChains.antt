-- The walks of clauses are those of the definition, one call after the other.
use Rattle.std.proofs.Common.{◌≡◌, rules, ℕ, List, [], ◌∷◌, Result, Ok, Err, refl, sym, ap, ◌∙◌, subst as transport}
use Rattle.theory.specs.Terms.{Term}
use Rattle.theory.specs.Telescopes.{Telescope}
use Rattle.theory.specs.Signatures.{Signature}
use Rattle.core_terms.specs.Answers.{and_next, bounded, on_answer}
use Rattle.core_terms.specs.CaseTrees.{Walk}
use Rattle.core_terms.specs.Clauses as clause
use Rattle.core_terms.specs.Clauses.{Clause, Clauses, Right, Is}
use Rattle.core_terms.specs.Patterns.{Pats}
use Rattle.core_terms.specs.PatternMeanings.{clause_of, pats_of, right_of}
use Rattle.core_terms.specs.declared.pattern.Clause as code
use Rattle.core_terms.specs.declared.pattern.Right.TheFolds.{the_lemmas}
use Rattle.case_trees.specs.OwnWalks.{own_walk_of}
use Rattle.case_trees.specs.Points.{under_solution}
use Rattle.tree_translation.specs.Naming.{part_named}
use Rattle.clause_reports.specs.elaboration.Refusals as pure
use Rattle.clause_reports.specs.elaboration.Refusals.{Elaborating, Owner, answers, or_halts, owner_of, walking}
use Rattle.clause_reports.specs.elaboration.Walking.{Session, Opened, Given, after_dots, check_dot, open_over, walk_clause, walk_right}
use Rattle.function_checks.specs.function_clauses.CodeClauses.{Scrutinee, clause_walked, helper_opened, inside_walked, scrutinee_over, scrutinised, with_dots}
use Rattle.function_checks.specs.function_refusals.RefusalMeanings.{Elaborates}
use Rattle.function_checks.specs.declared.function_refusals.refusal.FunctionRefusal.{FunctionRefusal}
use Rattle.function_checks.proofs.function_refusals.EndedTrees.{refused}
use Rattle.function_checks.specs.walk_checks.CodeDots.{dots_checked}

-- ---- one call after another

nested-answer : {A B C : Type 0} (r : Result A pure.Refusal) (n : ℕ) (f : A → ℕ → Elaborating B) (g : B → ℕ → Elaborating C)
    → and_next (on_answer r n f) g ≡ on_answer r n (λ a m. and_next (f a m) g)
nested-answer (Ok a) n f g = refl
nested-answer (Err e) n f g = refl

pub nested : {A B C : Type 0} (first : Elaborating A) (f : A → ℕ → Elaborating B) (g : B → ℕ → Elaborating C)
    → and_next (and_next first f) g ≡ and_next first (λ a m. and_next (f a m) g)
nested first f g = nested-answer first.0 first.1 f g

same-answer : {A B : Type 0} (r : Result A pure.Refusal) (n : ℕ) (f g : A → ℕ → Elaborating B) → ((a : A) (m : ℕ) → f a m ≡ g a m)
    → on_answer r n f ≡ on_answer r n g
same-answer (Ok a) n f g h = h a n
same-answer (Err e) n f g h = refl

pub same-after : {A B : Type 0} (first : Elaborating A) (f g : A → ℕ → Elaborating B) → ((a : A) (m : ℕ) → f a m ≡ g a m)
    → and_next first f ≡ and_next first g
same-after first f g h = same-answer first.0 first.1 f g h

-- ---- dots

pub dots-first : {A : Type 0} (S : Signature) (owner : Owner) (context : Telescope) (dots : List (Term × Term)) (go : ℕ → Elaborating A) (left : ℕ)
    → and_next (dots_checked S owner context dots left) (λ u rest. go rest) ≡ after_dots S owner context dots go left
dots-first S owner context [] go left = refl
dots-first S owner context (d ∷ dots) go left =
    nested (check_dot S owner context d left) (λ written rest. dots_checked S owner context dots rest) (λ u rest. go rest)
    ∙ same-after (check_dot S owner context d left) (λ written rest. and_next (dots_checked S owner context dots rest) (λ u more. go more))
    (λ written rest. after_dots S owner context dots go rest) (λ written rest. dots-first S owner context dots go rest)

pub with-dots-first : {A : Type 0} (S : Signature) (owner : Owner) (w : Walk) (go : Walk → ℕ → Elaborating A) (left : ℕ)
    → and_next (with_dots S owner w left) go ≡ after_dots S owner w.ctx w.dots (go w) left
with-dots-first S owner w go left =
    nested (dots_checked S owner w.ctx w.dots left) (λ u more. answers (Ok w) more) go ∙ dots-first S owner w.ctx w.dots (go w) left

-- ---- clauses

pub clause-parts : (c : code.Clause) → clause_of c ≡ Is (pats_of c.pats) c.binds (right_of c.right)
clause-parts c = search (rules, the_lemmas)

clause-is : (s : Session) (k : ℕ) (part : Opened) (number next : ℕ) (pats : Pats) (binds : ℕ) (right : Right) (left : ℕ)
    → and_next (clause_walked s.signature (part_named s.name k) part number (Is pats binds right) left)
    (λ w rest. walk_right s k number next (owner_of (part_named s.name k) number) w right rest)
    ≡ walk_clause s k part number next (Is pats binds right) left
clause-is s k part number next pats binds right left =
    let S = s.signature in
    let name = part_named s.name k in
    let owner = owner_of name number in
    let first = walking S name (own_walk_of S part.tele part.goal part.terms (Is pats binds right) number left) in
    let go : Walk → ℕ → Elaborating Given = λ w rest. walk_right s k number next owner w right rest in
    nested first (λ w rest. with_dots S owner w rest) go
    ∙ same-after first (λ w rest. and_next (with_dots S owner w rest) go) (λ w rest. after_dots S owner w.ctx w.dots (go w) rest)
    (λ w rest. with-dots-first S owner w go rest)

pub with-is : (s : Session) (k number next : ℕ) (owner : Owner) (w : Walk) (written : Term) (inner : Clauses) (left : ℕ)
    → and_next (scrutinised s next owner w written left) (λ x rest. inside_walked s k number next w x inner rest)
    ≡ walk_right s k number next owner w (clause.With written inner) left
with-is s k number next owner w written inner left =
    let first = answers (or_halts (bounded (under_solution w.binds written))) left in
    let go : Scrutinee → ℕ → Elaborating Given = λ x rest. inside_walked s k number next w x inner rest in
    nested first (λ t rest. helper_opened s next owner w t rest) go
    ∙ same-after first (λ t rest. and_next (helper_opened s next owner w t rest) go)
    (λ t rest. and_next (open_over s owner w t rest) (λ o more. go (scrutinee_over s next w t o) more))
    (λ t rest. nested (open_over s owner w t rest) (λ o more. answers (Ok (scrutinee_over s next w t o)) more) go)

-- ---- calls of the code, one after the other

abbrev gave : {A : Type 0} → A → ℕ → Elaborating A
gave a n = (Ok a, n)

clause-first : (s : Session) (k : ℕ) (part : Opened) (number next : ℕ) (c : Clause) (pats : Pats) (binds : ℕ) (right : Right) (left : ℕ)
    (function : List ℕ) → c ≡ Is pats binds right → function ≡ part_named s.name k
    → and_next (clause_walked s.signature function part number c left)
    (λ w rest. walk_right s k number next (owner_of function number) w right rest)
    ≡ walk_clause s k part number next c left
clause-first s k part number next c pats binds right left function is same =
    ap
    (λ f. and_next (clause_walked s.signature f part number c left) (λ w rest. walk_right s k number next (owner_of f number) w right rest))
    same
    ∙ ap
    (λ c. and_next (clause_walked s.signature (part_named s.name k) part number c left)
    (λ w rest. walk_right s k number next (owner_of (part_named s.name k) number) w right rest))
    is
    ∙ clause-is s k part number next pats binds right left
    ∙ ap (λ c. walk_clause s k part number next c left) (sym is)

pub clause-goes-on : {B : Type 0} (g : B → Given) (s : Session) (k : ℕ) (part : Opened) (number next : ℕ) (c : Clause) (pats : Pats) (binds : ℕ)
    (right : Right) (left more end : ℕ) (function : List ℕ) (w : Walk) (result : Result B FunctionRefusal) → c ≡ Is pats binds right
    → function ≡ part_named s.name k → gave w more ≡ clause_walked s.signature function part number c left
    → Elaborates g result end (walk_right s k number next (owner_of function number) w right more)
    → Elaborates g result end (walk_clause s k part number next c left)
clause-goes-on g s k part number next c pats binds right left more end function w result is same h rest =
    transport (Elaborates g result end)
    (ap (λ r. and_next r (λ w rest. walk_right s k number next (owner_of function number) w right rest)) h
    ∙ clause-first s k part number next c pats binds right left function is same)
    rest

pub clause-ends : (s : Session) (k : ℕ) (part : Opened) (number next : ℕ) (c : Clause) (pats : Pats) (binds : ℕ) (right : Right)
    (left more : ℕ) (function : List ℕ) (e : pure.Refusal) → c ≡ Is pats binds right → function ≡ part_named s.name k
    → refused e more ≡ clause_walked s.signature function part number c left → refused e more ≡ walk_clause s k part number next c left
clause-ends s k part number next c pats binds right left more function e is same h =
    ap (λ r. and_next r (λ w rest. walk_right s k number next (owner_of function number) w right rest)) h
    ∙ clause-first s k part number next c pats binds right left function is same

pub with-goes-on : {B : Type 0} (g : B → Given) (s : Session) (k number next : ℕ) (owner : Owner) (w : Walk) (written : Term) (inner : Clauses)
    (left more end : ℕ) (x : Scrutinee) (result : Result B FunctionRefusal) → gave x more ≡ scrutinised s next owner w written left
    → Elaborates g result end (inside_walked s k number next w x inner more)
    → Elaborates g result end (walk_right s k number next owner w (clause.With written inner) left)
with-goes-on g s k number next owner w written inner left more end x result h rest =
    transport (Elaborates g result end)
    (ap (λ r. and_next r (λ x rest. inside_walked s k number next w x inner rest)) h ∙ with-is s k number next owner w written inner left) rest
