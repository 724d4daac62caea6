-- The clauses of a function by their numbers alone.
use Rattle.std.proofs.Common.{◌≡◌, ℕ, zero, suc, ◌+◌, List, [], ◌∷◌, ◌++◌, map, refl, ap, ap₂}
use Rattle.core_terms.specs.Clauses as clause
use Rattle.core_terms.specs.Clauses.{Clauses}
use Rattle.tree_translation.specs.Naming.{part_named}
use Rattle.clause_reports.specs.elaboration.Refusals.{Owner, owner_of}
use Rattle.function_session.specs.Laws.{owners, owners_from}

-- how many clauses there are
abbrev pub count_of : Clauses → ℕ
count_of clause.nil = zero
count_of (clause.cons c clauses) = suc (count_of clauses)

-- so many clauses of part k from clause `number` on
abbrev pub numbered : (name : List ℕ) → (k number count : ℕ) → List Owner
numbered name k number zero = []
numbered name k number (suc count) = owner_of (part_named name k) number ∷ numbered name k (number + 1) count

-- so many clauses of each part from part k on
abbrev pub numbered_from : (name : List ℕ) → (k : ℕ) → List ℕ → List Owner
numbered_from name k [] = []
numbered_from name k (count ∷ counts) = numbered name k 0 count ++ numbered_from name (k + 1) counts

owners-numbered : (name : List ℕ) (k number : ℕ) (clauses : Clauses) → owners name k number clauses ≡ numbered name k number (count_of clauses)
owners-numbered name k number clause.nil = refl
owners-numbered name k number (clause.cons c clauses) =
    ap (λ rest. owner_of (part_named name k) number ∷ rest) (owners-numbered name k (number + 1) clauses)

pub all-numbered : (name : List ℕ) (k : ℕ) (parts : List Clauses) → owners_from name k parts ≡ numbered_from name k (map count_of parts)
all-numbered name k [] = refl
all-numbered name k (clauses ∷ parts) = ap₂ (λ first rest. first ++ rest) (owners-numbered name k 0 clauses) (all-numbered name (k + 1) parts)
