-- Reading terms, computed: what is read with the bytes after it, or the number of bytes from the place on where it stops.
use Rattle.std.proofs.Common.{◌≡◌, ℕ, true, false, Bool, List, [], ◌∷◌, refl}
use Rattle.std.specs.Prelude.{codes, Option, None, Ok, Err}
use Rattle.theory.specs.Terms.{Term, Var, Pi, Lam, App, Let}
use Rattle.core_text.specs.Reading.{read_level}
use Rattle.core_text.specs.TermReading.{read_term}
use Rattle.core_text.specs.declared.halt.Halt.TheVariants.{Nested, Wrong}

no_names : List ℕ → Option Term
no_names name = None

variable : read_term no_names 2000 12 (codes "%11)") ≡ Ok (Var 11, codes ")")
unfolding no_names
variable = refl

-- under 12 binders no variable is numbered 12, so `%1` ends before the `2`
greatest : read_term no_names 2000 12 (codes "%12)") ≡ Ok (Var 1, codes "2)")
greatest = refl

no_binder : read_term no_names 2000 0 (codes "%0)") ≡ Err (Wrong 3)
no_binder = refl

no_leading_zero : read_term no_names 2000 12 (codes "%00)") ≡ Ok (Var 0, codes "0)")
no_leading_zero = refl

product : read_term no_names 2000 1 (codes "(%0 -> %1)\n") ≡ Ok (Pi (Var 0) (Var 1), codes "\n")
product = refl

function_in_let : read_term no_names 2000 1 (codes "(let %0 = %0 . (\\%1 . %2))") ≡ Ok (Let (Var 0) (Var 0) (Lam (Var 1) (Var 2)), [])
function_in_let = refl

application : read_term no_names 2000 2 (codes "(%0 %1 (%0 %1)) ") ≡ Ok (App (App (Var 0) (Var 1)) (App (Var 0) (Var 1)), codes " ")
application = refl

-- an application as a head has no parentheses of its own: the second argument may not begin
enclosed_head : read_term no_names 2000 2 (codes "((%0 %1) %0)") ≡ Err (Wrong 3)
enclosed_head = refl

-- but it may be the domain of a product
enclosed_domain : read_term no_names 2000 2 (codes "((%0 %1) -> %0)") ≡ Ok (Pi (App (Var 0) (Var 1)) (Var 0), [])
enclosed_domain = refl

no_argument : read_term no_names 2000 2 (codes "(%0)") ≡ Err (Wrong 1)
no_argument = refl

end_of_text : read_term no_names 2000 2 (codes "(%0 -> ") ≡ Err (Wrong 0)
unfolding no_names
end_of_text = refl

-- a term is due inside one term too many, whatever is there
too_deep : read_term no_names 2 1 (codes "((?") ≡ Err (Nested 1)
too_deep = refl

-- the levels 1 and 12 are left, so `1` goes on with `2` alone
levels : List Bool
levels = false ∷ true ∷ false ∷ false ∷ false ∷ false ∷ false ∷ false ∷ false ∷ false ∷ false ∷ false ∷ true ∷ []

two_digits : read_level levels (codes "12\n") ≡ Ok (12, codes "\n")
unfolding levels
two_digits = refl

one_digit : read_level levels (codes "13\n") ≡ Ok (1, codes "3\n")
unfolding levels
one_digit = refl

no_level : read_level levels (codes "2\n") ≡ Err (Wrong 2)
unfolding levels
no_level = refl
