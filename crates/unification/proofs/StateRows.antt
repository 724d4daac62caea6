-- States on the way of e : Eq.0 Nat (suc m) (suc n) to refl. The types of the equations, as they are, are those that another
-- implementation writes into the motives of its eliminators.
use Rattle.std.proofs.Common.{◌≡◌, Ok, [], ◌∷◌, refl}
use Rattle.theory.specs.Terms.{Term}
use Rattle.theory.specs.Terms.Term.{Var, Pi, Lam, App, Elim}
use Rattle.theory.specs.Families.{Recursive}
use Rattle.theory.specs.Signatures.{equation, reflexivity}
use Rattle.theory.proofs.AfterPrelude.{after}
use Rattle.unification.specs.States.{State}
use Rattle.unification.specs.Heights.{start_made}
use Rattle.unification.specs.Injecting.{injected_state}
use Rattle.unification.specs.Solving.{solved_state}
use Rattle.unification.proofs.Samples.{nat_family, item, Nat, suc_term}

-- Eq.0!elim.0 A a P d b e
abbrev J : (A a P d b e : Term) → Term
J A a P d b e = App (App (App (App (App (App (Elim 1 0) A) a) P) d) b) e

-- refl.0 Nat a, transported along e : Eq.0 Nat a b to Eq.0 Nat a b; a1, a2 and a3 are a so many
-- binders further in
abbrev transported : (a a1 a2 a3 b e : Term) → Term
transported a a1 a2 a3 b e =
    App
    (J Nat a (Lam Nat (Lam (equation 0 Nat a1 (Var 0)) (Pi (equation 0 Nat a2 a2) (equation 0 Nat a3 (Var 2)))))
    (Lam (equation 0 Nat a a) (Var 0)) b e)
    (reflexivity 0 Nat a)

-- m n : Nat, e
abbrev before : State
before = record {
  context = Nat ∷ Nat ∷ equation 0 Nat (suc_term (Var 1)) (suc_term (Var 0)) ∷ [];
  equations =
      record {
        place = item Nat;
        type = equation 0 Nat (suc_term (Var 2)) (suc_term (Var 1));
        left = suc_term (Var 2);
        right = suc_term (Var 1);
      }
      ∷ record {
        place = item (equation 0 Nat (suc_term (Var 3)) (Var 0));
        type = equation 0 (equation 0 Nat (suc_term (Var 3)) (suc_term (Var 2)))
            (transported (suc_term (Var 3)) (suc_term (Var 4)) (suc_term (Var 5)) (suc_term (Var 6)) (suc_term (Var 2)) (Var 0))
            (Var 1);
        left = reflexivity 0 Nat (suc_term (Var 2));
        right = Var 0;
      }
      ∷ [];
  solution = Var 2 ∷ Var 1 ∷ Var 0 ∷ [];
}

started : start_made
    (record {
      context = Nat ∷ Nat ∷ equation 0 Nat (suc_term (Var 1)) (suc_term (Var 0)) ∷ [];
      telescope = item Nat ∷ item (equation 0 Nat (suc_term (Var 3)) (Var 0)) ∷ [];
      left = suc_term (Var 2) ∷ reflexivity 0 Nat (suc_term (Var 2)) ∷ [];
      right = suc_term (Var 1) ∷ Var 0 ∷ [];
    })
    ≡ Ok before
started = refl

-- the state after the equation of m and n
abbrev between : State
between = record {
  context = before.context;
  equations =
      record { place = item Nat; type = equation 0 Nat (Var 2) (Var 1); left = Var 2; right = Var 1 }
      ∷ record {
        place = item (equation 0 Nat (suc_term (Var 3)) (suc_term (Var 0)));
        type = equation 0 (equation 0 Nat (suc_term (Var 3)) (suc_term (Var 2)))
            (transported (suc_term (Var 3)) (suc_term (Var 4)) (suc_term (Var 5)) (suc_term (Var 6)) (suc_term (Var 2))
            (J Nat (Var 3) (Lam Nat (Lam (equation 0 Nat (Var 4) (Var 0)) (equation 0 Nat (suc_term (Var 5)) (suc_term (Var 1)))))
            (reflexivity 0 Nat (suc_term (Var 3))) (Var 2) (Var 0)))
            (Var 1);
        left = reflexivity 0 Nat (suc_term (Var 2));
        right = Var 0;
      }
      ∷ [];
  solution = before.solution;
}

injected : injected_state before 1 (after 0) 1 nat_family
    (record { name = []; arguments = Recursive [] [] 0 ∷ []; targets = [] }) [] (Var 2 ∷ []) (Var 1 ∷ [])
    ≡ between
injected = refl

-- n is solved by m, which leaves m : Nat, e : Eq.0 Nat (suc m) (suc m)
solved : solved_state between 0 1 Nat (Var 2)
    ≡ record {
      context = Nat ∷ equation 0 Nat (suc_term (Var 0)) (suc_term (Var 0)) ∷ [];
      equations =
          record {
            place = item (equation 0 Nat (suc_term (Var 1)) (suc_term (Var 1)));
            type = equation 0 (equation 0 Nat (suc_term (Var 1)) (suc_term (Var 1)))
                (transported (suc_term (Var 1)) (suc_term (Var 2)) (suc_term (Var 3)) (suc_term (Var 4)) (suc_term (Var 1))
                (J Nat (Var 1) (Lam Nat (Lam (equation 0 Nat (Var 2) (Var 0)) (equation 0 Nat (suc_term (Var 3)) (suc_term (Var 1)))))
                (reflexivity 0 Nat (suc_term (Var 1))) (Var 1) (reflexivity 0 Nat (Var 1))))
                (Var 0);
            left = reflexivity 0 Nat (suc_term (Var 1));
            right = Var 0;
          }
          ∷ [];
      solution = Var 1 ∷ Var 1 ∷ Var 0 ∷ [];
    }
solved = refl
