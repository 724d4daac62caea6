-- Scopes of drafts.
use Rattle.std.specs.Prelude.{◌≡◌, ℕ, ◌<◌, List, [], length, Some, Ok}
use Rattle.theory.specs.Terms.{Term}
use Rattle.theory.specs.Signatures.{Signature}
use Rattle.theory.specs.SignatureScopes.{IsConstantNumber, IsFamilyNumber, IsConstructorNumber, IsScoped, IsScopedTelescope}
use Rattle.core_sig.specs.Drafts.{Draft}
use Rattle.core_sig.specs.ScopedDrafts.{IsScopedDraft}
use Rattle.tree_translation.specs.Entries.{motive_entry}
use Rattle.tree_translation.specs.Naming.{Naming, number_in, with_names, drafted_in_order}
use Rattle.tree_translation.specs.Plans.{Plan, own_part}
use Rattle.tree_translation.specs.Recursion.{Recursion, order_of, ordered_telescope, ordered_term}

-- A signature T whose families are those of S, and whose constants below a base are constants of S.
pub record IsNamedOver (S T : Signature) (base : ℕ) : Type 0 where
  pub families : (n : ℕ) → IsFamilyNumber T n → IsFamilyNumber S n
  pub constructors : (n c : ℕ) → IsConstructorNumber T n c → IsConstructorNumber S n c
  pub constants : (c : ℕ) → c < base → IsConstantNumber T c → IsConstantNumber S c

-- A draft that is numbered by first mention is scoped, where its type and its term, with the numbers of its table, are scoped over a
-- signature whose further constants stand for names.
abbrev pub DraftScopedInOrder : Type 0
DraftScopedInOrder =
    (S T : Signature) (name : List ℕ) (base : ℕ) (candidates : List (List ℕ)) (type term : Naming → Term) (d : Draft) → IsNamedOver S T base →
    drafted_in_order name base candidates type term ≡ Ok d → IsScoped T 0 (type (number_in base (with_names [] candidates))) →
    IsScoped T 0 (term (number_in base (with_names [] candidates))) → (d.base ≡ base) × IsScopedDraft S d

-- The types of the function's telescope, in the order of recursion, are each over those before it, and the goal is over them.
pub record IsOrdered (S : Signature) (plan : Plan) (r : Recursion) : Type 0 where
  pub telescope : (let part = own_part plan in IsScopedTelescope S 0 (ordered_telescope part.tele (order_of (length part.tele) (Some r))))
  pub goal :
      (let part = own_part plan in
      let order = order_of (length part.tele) (Some r) in
      IsScoped S (length (ordered_telescope part.tele order)) (ordered_term (length part.tele) order part.goal))

-- the motive of a function is a scoped draft
abbrev pub MotiveScoped : Type 0
MotiveScoped = (S : Signature) (plan : Plan) (r : Recursion) (d : Draft) → IsOrdered S plan r → motive_entry plan r ≡ Ok d → (d.base ≡ plan.base) × IsScopedDraft S d
