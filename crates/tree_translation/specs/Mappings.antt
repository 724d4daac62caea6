-- How the variables of a clause's own walk are read at a leaf of the clause: two lists of terms are compared place by place, and the
-- first place at which the walk's list has a variable gives its term.
use Rattle.std.specs.Prelude.{ℕ, ◌+◌, ◌-◌, ◌==◌, ◌&&◌, Bool, false, cond, Option, Some, None, List, ◌∷◌, ◌++◌, length}
use Rattle.std.specs.Option.{option_or}
use Rattle.theory.specs.Terms.{Term, Var, Sort, App, Con}
use Rattle.theory.specs.Spines.{head_of, spine_of}
use Rattle.core_terms.specs.CaseTrees.{Walk}
use Rattle.tele_eq.specs.Items.{each_position, term_at}
use Rattle.tele_eq.specs.Levels.{place_in}

abbrev pub are_one_constructor : Term → Term → Bool
are_one_constructor (Con n c) (Con m d) = (n == m) && (c == d)
are_one_constructor _ _ = false

-- both are one constructor at as many arguments
abbrev pub have_one_constructor : Term → Term → Bool
have_one_constructor w t = are_one_constructor (head_of w) (head_of t) && (length (spine_of w) == length (spine_of t))

abbrev mutual
  -- the part of t at the first place where w has variable x, searched only under constructors that both have
  pub found_in : (x : ℕ) → (w t : Term) → Option Term
  found_in x (Var v) t = cond (v == x) (Some t) None
  found_in x (App g r) (App h s) =
      cond (have_one_constructor (App g r) (App h s)) (option_or (found_along x g h) (found_in x r s)) None
  found_in x _ _ = None

  -- that part among the arguments of a constructor, its parameters included
  pub found_along : (x : ℕ) → (w t : Term) → Option Term
  found_along x (App g r) (App h s) = option_or (found_along x g h) (found_in x r s)
  found_along x _ _ = None

abbrev pub found_among : (x : ℕ) → (ws ts : List Term) → Option Term
found_among x (w ∷ ws) (t ∷ ts) = option_or (found_in x w t) (found_among x ws ts)
found_among x _ _ = None

-- a variable that is found nowhere is Type 0
abbrev pub or_sort : Option Term → Term
or_sort (Some t) = t
or_sort None = Sort 0

-- the terms for the variables of the walk's context: its substitution and terms are compared with those of the leaf
abbrev pub mapping : Walk → (substitution terms : List Term) → List Term
mapping w substitution terms =
    let count = length w.ctx in
    each_position (λ j. or_sort (found_among (count - (j + 1)) (w.subst ++ w.terms) (substitution ++ terms))) 0 count

-- a substitution for a telescope in a new order, as one for the old order
abbrev pub in_old_order : (order : List ℕ) → List Term → List Term
in_old_order order substitution = each_position (λ i. term_at substitution (place_in order i)) 0 (length order)
