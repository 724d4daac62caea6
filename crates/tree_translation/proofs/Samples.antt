-- A signature for examples, and plans whose trees are those that splitting gives.
use Rattle.std.proofs.Common.{ℕ, Bool, Option, option_and_then, Result, Ok, Err, List, [], ◌∷◌, ◌++◌, length, map, codes}
use Rattle.theory.specs.Terms.{Term}
use Rattle.theory.specs.Terms.Term.{Var, Sort, Pi, App, Con, Fam, Const}
use Rattle.theory.specs.Telescopes.{Telescope, products, variables}
use Rattle.theory.specs.Families.{Plain, Recursive, Family}
use Rattle.theory.specs.Prelude.{prelude}
use Rattle.theory.specs.Signatures.{Signature, Entry, FamilyOf, Definition}
use Rattle.theory.proofs.AfterPrelude.{after}
use Rattle.core_terms.specs.CaseTrees.{Tree, Leaf, Walk}
use Rattle.core_terms.specs.Clauses.{Clause, Clauses, clauses as all_clauses}
use Rattle.core_sig.specs.Drafts.{Draft}
use Rattle.case_trees.specs.Stops.{TreeStop}
use Rattle.case_trees.specs.OwnWalks.{own_walk_of}
use Rattle.case_trees.specs.Trees.{split_of}
use Rattle.tree_translation.specs.Plans.{Plan, Part}
use Rattle.tree_translation.specs.RightSides.{no_walk}
use Rattle.tree_translation.specs.Recursion.{recursion_at, order_of, ordered_telescope, ordered_term}
use Rattle.tree_translation.specs.Entries.{ordered_variables}

abbrev pub nat_family : Family
nat_family = record {
  name = codes "Nat";
  parameters = [];
  indices = [];
  level = 0;
  constructors =
      record { name = codes "zero"; arguments = []; targets = [] }
      ∷ record { name = codes "suc"; arguments = Recursive [] [] 0 ∷ []; targets = [] }
      ∷ [];
}

abbrev pub vec_family : Family
vec_family = record {
  name = codes "Vec";
  parameters = Sort 0 ∷ [];
  indices = (Fam (after 0), 0) ∷ [];
  level = 0;
  constructors =
      record { name = codes "nil"; arguments = []; targets = Con (after 0) 0 ∷ [] }
      ∷ record {
        name = codes "cons";
        arguments = Plain (Fam (after 0)) 0 ∷ Plain (Var 1) 0 ∷ Recursive [] (Var 1 ∷ []) 0 ∷ [];
        targets = App (Con (after 0) 1) (Var 2) ∷ [];
      }
      ∷ [];
}

abbrev pub bool_family : Family
bool_family = record {
  name = codes "Bool";
  parameters = [];
  indices = [];
  level = 0;
  constructors =
      record { name = codes "true"; arguments = []; targets = [] }
      ∷ record { name = codes "false"; arguments = []; targets = [] }
      ∷ [];
}

abbrev pub fin_family : Family
fin_family = record {
  name = codes "Fin";
  parameters = [];
  indices = (Fam (after 0), 0) ∷ [];
  level = 0;
  constructors =
      record { name = codes "fzero"; arguments = Plain (Fam (after 0)) 0 ∷ []; targets = App (Con (after 0) 1) (Var 0) ∷ [] }
      ∷ record {
        name = codes "fsuc";
        arguments = Plain (Fam (after 0)) 0 ∷ Recursive [] (Var 0 ∷ []) 0 ∷ [];
        targets = App (Con (after 0) 1) (Var 1) ∷ [];
      }
      ∷ [];
}

abbrev pub w_family : Family
w_family = record {
  name = codes "W";
  parameters = Sort 0 ∷ Pi (Var 0) (Sort 0) ∷ [];
  indices = [];
  level = 0;
  constructors =
      record {
        name = codes "sup";
        arguments = Plain (Var 1) 0 ∷ Recursive (App (Var 1) (Var 0) ∷ []) [] 0 ∷ [];
        targets = [];
      }
      ∷ [];
}

abbrev pub list_family : Family
list_family = record {
  name = codes "List";
  parameters = Sort 0 ∷ [];
  indices = [];
  level = 0;
  constructors =
      record { name = codes "lnil"; arguments = []; targets = [] }
      ∷ record { name = codes "lcons"; arguments = Plain (Var 0) 0 ∷ Recursive [] [] 0 ∷ []; targets = [] }
      ∷ [];
}

-- after the prelude Nat, Vec, Bool, Fin, W and List
abbrev pub sample : Bool → Signature
sample k = record {
  entries =
      (prelude k).entries
      ++ FamilyOf nat_family
      ∷ FamilyOf vec_family
      ∷ FamilyOf bool_family
      ∷ FamilyOf fin_family
      ∷ FamilyOf w_family
      ∷ FamilyOf list_family
      ∷ [];
  has_k = k;
}

abbrev pub has_family : Family
has_family = record {
  name = codes "Has";
  parameters = [];
  indices = (Fam (after 0), 0) ∷ (App (Fam (after 3)) (Var 0), 0) ∷ [];
  level = 0;
  constructors =
      record {
        name = codes "here";
        arguments = Plain (Fam (after 0)) 0 ∷ [];
        targets = App (Con (after 0) 1) (Var 0) ∷ App (Con (after 3) 0) (Var 0) ∷ [];
      }
      ∷ record {
        name = codes "there";
        arguments = Plain (Fam (after 0)) 0 ∷ Plain (App (Fam (after 3)) (Var 0)) 0 ∷ Recursive [] (Var 1 ∷ Var 0 ∷ []) 0 ∷ [];
        targets = App (Con (after 0) 1) (Var 2) ∷ App (App (Con (after 3) 1) (Var 2)) (Var 1) ∷ [];
      }
      ∷ [];
}

abbrev pub up_family : Family
up_family = record {
  name = codes "Up";
  parameters = [];
  indices = (Fam (after 0), 0) ∷ (App (Fam (after 3)) (Var 0), 0) ∷ [];
  level = 0;
  constructors =
      record {
        name = codes "stop";
        arguments = Plain (Fam (after 0)) 0 ∷ Plain (App (Fam (after 3)) (Var 0)) 0 ∷ [];
        targets = Var 1 ∷ Var 0 ∷ [];
      }
      ∷ record {
        name = codes "go";
        arguments =
            Plain (Fam (after 0)) 0
            ∷ Plain (App (Fam (after 3)) (Var 0)) 0
            ∷ Recursive [] (App (Con (after 0) 1) (Var 1) ∷ App (App (Con (after 3) 1) (Var 1)) (Var 0) ∷ []) 0
            ∷ [];
        targets = Var 2 ∷ Var 1 ∷ [];
      }
      ∷ [];
}

abbrev pub parity_family : Family
parity_family = record {
  name = codes "Parity";
  parameters = [];
  indices = (Fam (after 0), 0) ∷ [];
  level = 0;
  constructors =
      record { name = codes "even"; arguments = Plain (Fam (after 0)) 0 ∷ []; targets = App (Const (after 6)) (Var 0) ∷ [] }
      ∷ record { name = codes "odd"; arguments = Plain (Fam (after 0)) 0 ∷ []; targets = App (Con (after 0) 1) (App (Const (after 6)) (Var 0)) ∷ [] }
      ∷ [];
}

abbrev pub vg_family : Family
vg_family = record {
  name = codes "Vg";
  parameters = Sort 0 ∷ [];
  indices = (Fam (after 0), 0) ∷ [];
  level = 0;
  constructors =
      record { name = codes "ve"; arguments = Plain (Fam (after 0)) 0 ∷ []; targets = Var 0 ∷ [] }
      ∷ record {
        name = codes "vc";
        arguments = Plain (Fam (after 0)) 0 ∷ Plain (Var 1) 0 ∷ Recursive [] (App (Con (after 0) 1) (Var 1) ∷ []) 0 ∷ [];
        targets = Var 2 ∷ [];
      }
      ∷ [];
}

-- a constant without a body
abbrev pub constant : ℕ → Entry
constant n = Definition [] (Sort 0) (Const n)

-- a signature with more entries after it
abbrev pub behind : Signature → List Entry → Signature
behind S entries = record S { entries = S.entries ++ entries }

abbrev pub Nat : Term
Nat = Fam (after 0)

abbrev pub suc_term : Term → Term
suc_term n = App (Con (after 0) 1) n

abbrev pub Fin : Term → Term
Fin n = App (Fam (after 3)) n

abbrev pub Vec : Term → Term → Term
Vec a n = App (App (Fam (after 1)) a) n

-- the function itself, in right sides
abbrev pub own : Term
own = Const (after 6)

abbrev pub draft : (name : List ℕ) (base : ℕ) → (names : List (List ℕ)) → (type body : Term) → Draft
draft name base names type body = record { entry = Definition name type body; base = base; names = names }

abbrev pub or_leaf : Result Tree TreeStop → Tree
or_leaf (Ok t) = t
or_leaf (Err e) = Leaf 1000 [] (Sort 0) [] [] []

abbrev pub order_in : Signature → Telescope → (position : Option ℕ) → List ℕ
order_in S tele position = order_of (length tele) (option_and_then (recursion_at S tele) position)

-- the part of a function, whose tree starts from the order of recursion
abbrev pub function_part : Signature → (level : ℕ) → Telescope → (goal : Term) → (position : Option ℕ) → Clauses → (sides : List Term) → Part
function_part S level tele goal position clauses sides =
    let count = length tele in
    let order = order_in S tele position in
    record {
      level = level;
      tele = tele;
      terms = variables count;
      goal = goal;
      tree = or_leaf (split_of S (ordered_telescope tele order) (ordered_term count order goal) (ordered_variables order count) clauses 1000).0;
      sides = sides;
      walks = [];
      pats = [];
    }

-- the own walks of clauses, where they have some
abbrev pub or_no_walk : Result Walk TreeStop → Walk
or_no_walk (Ok w) = w
or_no_walk (Err e) = no_walk

abbrev pub walks_of : Signature → Telescope → (goal : Term) → (terms : List Term) → List Clause → List Walk
walks_of S tele goal terms clauses = map (λ c. or_no_walk (own_walk_of S tele goal terms c 0 1000).0) clauses

-- the part of a helper
abbrev pub helper_part : Signature → (level : ℕ) → Telescope → (terms : List Term) → (goal : Term) → List Clause → (sides : List Term) → Part
helper_part S level tele terms goal clauses sides = record {
  level = level;
  tele = tele;
  terms = terms;
  goal = goal;
  tree = or_leaf (split_of S tele goal terms (all_clauses clauses) 1000).0;
  sides = sides;
  walks = walks_of S tele goal terms clauses;
  pats = [];
}

-- the plan of a function with helpers, over `base` entries
abbrev pub plan_with : Signature → (base : ℕ) → (name : List ℕ) → (level : ℕ) → Telescope → (goal : Term) → (position : Option ℕ) → List Clause → (sides : List Term) → (helpers : List Part) → Plan
plan_with S base name level tele goal position clauses sides helpers = record {
  base = base;
  name = name;
  type = products tele goal;
  arity = length tele;
  level = level;
  position = position;
  parts =
      record (function_part S level tele goal position (all_clauses clauses) sides) {
        walks = walks_of S tele goal (variables (length tele)) clauses;
      }
      ∷ helpers;
}

-- the plan of a function without helpers
abbrev pub plan_of : Signature → (base : ℕ) → (name : List ℕ) → (level : ℕ) → Telescope → (goal : Term) → (position : Option ℕ) → List Clause → (sides : List Term) → Plan
plan_of S base name level tele goal position clauses sides = plan_with S base name level tele goal position clauses sides []
