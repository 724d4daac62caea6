-- Own walks of clauses, as they are worked by hand. Refusals have their data, and the units are given.
use native.Mathlib.Decide.{ℕ_discrete}
use Rattle.std.proofs.Common.{◌≡◌, ℕ, false, true, Ok, Err, List, [], ◌∷◌, refl}
use Rattle.theory.specs.Terms.{Term}
use Rattle.theory.specs.Terms.Term.{Var, Sort, Pi, App, Fam}
use Rattle.theory.specs.Terms as term
use Rattle.theory.specs.Signatures.{equation, reflexivity}
use Rattle.theory.specs.Telescopes.{Telescope}
use Rattle.theory.proofs.AfterPrelude.{after}
use Rattle.core_terms.specs.Patterns as pattern
use Rattle.core_terms.specs.Patterns.{Pat, Bind, Wild, Dot, Con, vector}
use Rattle.core_terms.specs.Clauses as clause
use Rattle.core_terms.specs.Clauses.{Clause, Is}
use Rattle.core_terms.specs.CaseTrees.{Walk}
use Rattle.case_trees.specs.Stops.{Stopping, Stuck, NotAbsurd, Impossible, WrongConstructor, Forced, answers}
use Rattle.case_trees.specs.OwnWalks.{own_walk_of}
use Rattle.unification.specs.declared.why.Why.TheVariants.{NeedsK, NotRigid}
use Rattle.case_trees.proofs.Samples.{sample, Nat, zero_term, suc_term, Vec, cons_term, Fin, Boolean, Q, Has, fsuc, there_term, pred}

abbrev zero_pattern : Pat
zero_pattern = Con (after 0) 0 (vector [])

abbrev suc_pattern : Pat → Pat
suc_pattern pat = Con (after 0) 1 (vector (pat ∷ []))

abbrev refl_pattern : Pat
refl_pattern = Con 1 0 (vector [])

-- the walk of a clause without K, with the goal Nat
abbrev walk : Telescope → (terms : List Term) → List Pat → (binds left : ℕ) → Stopping Walk
walk context terms pats binds left =
    own_walk_of (sample false) context Nat terms (Is (vector pats) binds (clause.Side (Sort 0))) 0 left

-- head A n (cons .n x xs)
head : own_walk_of (sample false) (Sort 0 ∷ Nat ∷ Vec (Var 1) (suc_term (Var 0)) ∷ []) (Var 2) (Var 2 ∷ Var 1 ∷ Var 0 ∷ [])
    (Is (vector (Bind ∷ Bind ∷ Con (after 1) 1 (vector (Dot (Var 2) ∷ Bind ∷ Bind ∷ [])) ∷ [])) 4 (clause.Side (Var 1))) 0 10
    ≡ answers
    (Ok (record {
      ctx = Sort 0 ∷ Nat ∷ Var 1 ∷ Vec (Var 2) (Var 1) ∷ [];
      goal = Var 3;
      subst = Var 3 ∷ Var 2 ∷ cons_term (Var 3) (Var 2) (Var 1) (Var 0) ∷ [];
      terms = Var 3 ∷ Var 2 ∷ cons_term (Var 3) (Var 2) (Var 1) (Var 0) ∷ [];
      binds = Var 3 ∷ Var 2 ∷ Var 1 ∷ Var 0 ∷ [];
      dots = (Var 2, Var 2) ∷ [];
    }))
    10
unfolding native.Mathlib.Decide.ℕ_discrete sample
head = refl

-- nil is no vector of length suc n
impossible : walk (Sort 0 ∷ Nat ∷ Vec (Var 1) (suc_term (Var 0)) ∷ []) (Var 2 ∷ Var 1 ∷ Var 0 ∷ [])
    (Bind ∷ Bind ∷ Con (after 1) 0 (vector []) ∷ []) 2 10
    ≡ answers (Err (Impossible 0 (Sort 0 ∷ Nat ∷ Vec (Var 1) (suc_term (Var 0)) ∷ []) zero_term (suc_term (Var 1)))) 10
unfolding native.Mathlib.Decide.ℕ_discrete sample
impossible = refl

-- a clause that is dropped in its own walk: suc n against zero, ( ) against zero
clashing : walk [] (zero_term ∷ []) (suc_pattern Bind ∷ []) 1 10
    ≡ answers (Err (Impossible 0 [] (term.Con (after 0) 1) (term.Con (after 0) 0))) 10
unfolding native.Mathlib.Decide.ℕ_discrete sample
clashing = refl

clashing_absurd : walk [] (suc_term zero_term ∷ []) (pattern.Absurd ∷ []) 0 10
    ≡ answers (Err (Impossible 0 [] (term.Con (after 0) 1) (term.Con (after 0) 1))) 10
unfolding native.Mathlib.Decide.ℕ_discrete sample
clashing_absurd = refl

-- zero in a type that is a variable
wrong_constructor : walk (Sort 0 ∷ Var 0 ∷ []) (Var 1 ∷ Var 0 ∷ []) (Bind ∷ zero_pattern ∷ []) 1 10
    ≡ answers (Err (WrongConstructor 0 (Sort 0 ∷ Var 0 ∷ []) (Var 1))) 10
unfolding native.Mathlib.Decide.ℕ_discrete sample
wrong_constructor = refl

-- zero against f n
forced : walk (Pi Nat Nat ∷ Nat ∷ []) (App (Var 1) (Var 0) ∷ []) (zero_pattern ∷ []) 0 10
    ≡ answers (Err (Forced 0 (Pi Nat Nat ∷ Nat ∷ []) zero_pattern (App (Var 1) (Var 0)))) 10
unfolding native.Mathlib.Decide.ℕ_discrete sample
forced = refl

-- f n is passed on where a further column has a variable
forced_last : walk (Pi Nat Nat ∷ Nat ∷ []) (App (Var 1) (Var 0) ∷ Var 0 ∷ []) (zero_pattern ∷ zero_pattern ∷ []) 0 10
    ≡ answers (Err (Forced 0 (Pi Nat Nat ∷ []) zero_pattern (App (Var 0) zero_term))) 10
unfolding native.Mathlib.Decide.ℕ_discrete sample
forced_last = refl

-- ( ) where there are constructors: the first one is reported
not_absurd : walk (Boolean ∷ []) (Var 0 ∷ []) (pattern.Absurd ∷ []) 0 10 ≡ answers (Err (NotAbsurd 0 (after 3) 0)) 10
unfolding native.Mathlib.Decide.ℕ_discrete sample
not_absurd = refl

-- n = n, without K
needs_k : walk (Nat ∷ equation 0 Nat (Var 0) (Var 0) ∷ []) (Var 1 ∷ Var 0 ∷ []) (Bind ∷ refl_pattern ∷ []) 1 10
    ≡ answers (Err (Stuck 0 (Nat ∷ equation 0 Nat (Var 0) (Var 0) ∷ []) (Var 1) (Var 1) NeedsK)) 9
unfolding native.Mathlib.Decide.ℕ_discrete sample
needs_k = refl

needs_k_absurd : walk (Nat ∷ equation 0 Nat (Var 0) (Var 0) ∷ []) (Var 1 ∷ Var 0 ∷ []) (Bind ∷ pattern.Absurd ∷ []) 1 10
    ≡ answers (Err (Stuck 0 (Nat ∷ equation 0 Nat (Var 0) (Var 0) ∷ []) (Var 1) (Var 1) NeedsK)) 9
unfolding native.Mathlib.Decide.ℕ_discrete sample
needs_k_absurd = refl

-- and with K
not_absurd_by_k : own_walk_of (sample true) (Nat ∷ equation 0 Nat (Var 0) (Var 0) ∷ []) Nat (Var 1 ∷ Var 0 ∷ [])
    (Is (vector (Bind ∷ pattern.Absurd ∷ [])) 1 clause.Absurd) 0 10
    ≡ answers (Err (NotAbsurd 0 1 0)) 9
unfolding native.Mathlib.Decide.ℕ_discrete sample
not_absurd_by_k = refl

-- the second identity of a and a: A a .a refl refl
second_identity : walk
    (Sort 0 ∷ Var 0 ∷ Var 1 ∷ equation 0 (Var 2) (Var 1) (Var 0) ∷ equation 0 (Var 3) (Var 2) (Var 1) ∷ [])
    (Var 4 ∷ Var 3 ∷ Var 2 ∷ Var 1 ∷ Var 0 ∷ []) (Bind ∷ Bind ∷ Dot (Var 0) ∷ refl_pattern ∷ refl_pattern ∷ []) 2 20
    ≡ answers (Err (Stuck 0 (Sort 0 ∷ Var 0 ∷ equation 0 (Var 1) (Var 0) (Var 0) ∷ []) (Var 1) (Var 1) NeedsK)) 19
unfolding native.Mathlib.Decide.ℕ_discrete sample
second_identity = refl

-- refl at e : pred m = zero is stuck, for one unit, and passes on to suc k at m. Then pred (suc k) is reduced, for three units: zero
-- stands for k.
passed_on : walk (Nat ∷ equation 0 Nat (pred (Var 0)) zero_term ∷ []) (Var 0 ∷ Var 1 ∷ []) (refl_pattern ∷ suc_pattern Bind ∷ []) 1 20
    ≡ answers
    (Ok (record {
      ctx = [];
      goal = Nat;
      subst = suc_term zero_term ∷ reflexivity 0 Nat (pred (suc_term zero_term)) ∷ [];
      terms = reflexivity 0 Nat (pred (suc_term zero_term)) ∷ suc_term zero_term ∷ [];
      binds = zero_term ∷ [];
      dots = [];
    }))
    16
unfolding native.Mathlib.Decide.ℕ_discrete sample
passed_on = refl

-- cons n x xs at a Vec of length pred m is stuck, for two units, and ( ) ends the walk. So n, x and xs have no term, and the dot that
-- mentions x is not kept.
unbound : walk (Nat ∷ Vec Nat (pred (Var 0)) ∷ Nat ∷ Nat ∷ Fam 0 ∷ []) (Var 4 ∷ Var 3 ∷ Var 2 ∷ Var 1 ∷ Var 0 ∷ [])
    (Bind ∷ Con (after 1) 1 (vector (Bind ∷ Bind ∷ Bind ∷ [])) ∷ Dot (Var 3) ∷ Dot (Var 1) ∷ pattern.Absurd ∷ []) 4 20
    ≡ answers
    (Ok (record {
      ctx = Nat ∷ Vec Nat (pred (Var 0)) ∷ Nat ∷ Nat ∷ Fam 0 ∷ [];
      goal = Nat;
      subst = Var 4 ∷ Var 3 ∷ Var 2 ∷ Var 1 ∷ Var 0 ∷ [];
      terms = Var 4 ∷ Var 3 ∷ Var 2 ∷ Var 1 ∷ Var 0 ∷ [];
      binds = Var 4 ∷ Sort 0 ∷ Sort 0 ∷ Sort 0 ∷ [];
      dots = (Var 4, Var 2) ∷ [];
    }))
    18
unfolding native.Mathlib.Decide.ℕ_discrete sample
unbound = refl

-- a constructor that is stuck wins over an earlier one that can be there, and else the first one is reported
stuck_wins : walk (Q zero_term ∷ []) (Var 0 ∷ []) (pattern.Absurd ∷ []) 0 10
    ≡ answers (Err (Stuck 0 (Q zero_term ∷ Nat ∷ []) (pred (Var 0)) zero_term NotRigid)) 9
unfolding native.Mathlib.Decide.ℕ_discrete sample
stuck_wins = refl

first_of_both : walk (Nat ∷ Q (Var 0) ∷ []) (Var 1 ∷ Var 0 ∷ []) (Bind ∷ pattern.Absurd ∷ []) 1 10
    ≡ answers (Err (NotAbsurd 0 (after 9) 0)) 10
unfolding native.Mathlib.Decide.ℕ_discrete sample
first_of_both = refl

-- the own problem alone is run: q0 k at Q zero
own_problem : walk (Q zero_term ∷ []) (Var 0 ∷ []) (Con (after 9) 0 (vector (Bind ∷ [])) ∷ []) 1 10
    ≡ answers
    (Ok (record {
      ctx = [];
      goal = Nat;
      subst = App (term.Con (after 9) 0) zero_term ∷ [];
      terms = App (term.Con (after 9) 0) zero_term ∷ [];
      binds = zero_term ∷ [];
      dots = [];
    }))
    10
unfolding native.Mathlib.Decide.ℕ_discrete sample
own_problem = refl

-- m .m refl, of suc m = suc n
injective : walk (Nat ∷ Nat ∷ equation 0 Nat (suc_term (Var 1)) (suc_term (Var 0)) ∷ []) (Var 2 ∷ Var 1 ∷ Var 0 ∷ [])
    (Bind ∷ Dot (Var 0) ∷ refl_pattern ∷ []) 1 10
    ≡ answers
    (Ok (record {
      ctx = Nat ∷ [];
      goal = Nat;
      subst = Var 0 ∷ Var 0 ∷ reflexivity 0 Nat (suc_term (Var 0)) ∷ [];
      terms = Var 0 ∷ Var 0 ∷ reflexivity 0 Nat (suc_term (Var 0)) ∷ [];
      binds = Var 0 ∷ [];
      dots = (Var 0, Var 0) ∷ [];
    }))
    10
unfolding native.Mathlib.Decide.ℕ_discrete sample
injective = refl

-- .(suc zero) refl, of n = zero: the dot is kept, and zero is forced there
forced_zero : walk (Nat ∷ equation 0 Nat (Var 0) zero_term ∷ []) (Var 1 ∷ Var 0 ∷ []) (Dot (suc_term zero_term) ∷ refl_pattern ∷ []) 0 10
    ≡ answers
    (Ok (record {
      ctx = [];
      goal = Nat;
      subst = zero_term ∷ reflexivity 0 Nat zero_term ∷ [];
      terms = zero_term ∷ reflexivity 0 Nat zero_term ∷ [];
      binds = [];
      dots = (suc_term zero_term, zero_term) ∷ [];
    }))
    10
unfolding native.Mathlib.Decide.ℕ_discrete sample
forced_zero = refl

-- n i (there .n .i h), at Has (suc n) (fsuc n i): the two types of the group are compared, for a unit each
down : walk (Nat ∷ Fin (Var 0) ∷ Has (suc_term (Var 1)) (fsuc (Var 1) (Var 0)) ∷ []) (Var 2 ∷ Var 1 ∷ Var 0 ∷ [])
    (Bind ∷ Bind ∷ Con (after 10) 1 (vector (Dot (Var 2) ∷ Dot (Var 1) ∷ Bind ∷ [])) ∷ []) 3 10
    ≡ answers
    (Ok (record {
      ctx = Nat ∷ Fin (Var 0) ∷ Has (Var 1) (Var 0) ∷ [];
      goal = Nat;
      subst = Var 2 ∷ Var 1 ∷ there_term (Var 2) (Var 1) (Var 0) ∷ [];
      terms = Var 2 ∷ Var 1 ∷ there_term (Var 2) (Var 1) (Var 0) ∷ [];
      binds = Var 2 ∷ Var 1 ∷ Var 0 ∷ [];
      dots = (Var 2, Var 2) ∷ (Var 1, Var 1) ∷ [];
    }))
    8
unfolding native.Mathlib.Decide.ℕ_discrete sample
down = refl
