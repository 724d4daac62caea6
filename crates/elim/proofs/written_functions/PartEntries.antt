-- Each part of a plan is a definition of its name in the signature that has the plan's entries.
use Rattle.std.proofs.Common.{◌≡◌, ℕ, List, Ok, refl, sym, ap, ◌∙◌, subst as transport}
use Rattle.std.specs.Option.{option_map_or}
use Rattle.std.specs.Prelude.{option_and_then}
use Rattle.theory.specs.Terms.{Term}
use Rattle.theory.specs.Signatures.{Definition, IsEntryAt, IsPrefix, Signature}
use Rattle.theory.specs.WellFormed.{IsWellFormed}
use Rattle.theory.proofs.Widening.{prefix_keeps}
use Rattle.core_terms.proofs.Answers.{Answers, and_next-has}
use Rattle.core_sig.specs.Drafts.{Draft}
use Rattle.core_sig.specs.Names.{find}
use Rattle.core_sig.specs.Settling.{entry_found, renumbered, renumbered_entry, settled_number}
use Rattle.core_text.proofs.NamesFound.{definition-found}
use Rattle.family_check.specs.Entering.{Entered}
use Rattle.tree_translation.proofs.Drafting.{in_order-is}
use Rattle.tree_translation.specs.Entries.{motive_entry, step_entry}
use Rattle.tree_translation.specs.Naming.{Naming, drafted_in_order, motive_name, step_name, part_named}
use Rattle.tree_translation.specs.Plans.{Plan}
use Rattle.tree_translation.specs.Recursion.{Recursion}
use Rattle.clause_reports.proofs.Keeping.{Any, any, weaker}
use Rattle.clause_reports.specs.DraftEntering.{enter_all, enter_draft_of, enter_entry, enter_needed, mentioned}
use Rattle.clause_reports.specs.Equations.{number_of}
use Rattle.clause_reports.proofs.ProvedTypes.{enter_entry-there}
use Rattle.elim.specs.written_functions.Clauses.{FunctionAt, HasPart, part_type}
use Rattle.elim.proofs.written_functions.Proofs.{IsThere}

-- ---- names

-- a definition with a name
pub record HasName (T : Signature) (name : List ℕ) : Type 0 where
  pub number : ℕ
  pub type : Term
  pub body : Term
  pub there : IsEntryAt T number (Definition name type body)

pub name-stays : (T U : Signature) (name : List ℕ) → IsPrefix T U → HasName T name → HasName U name
name-stays T U name p h = record {
  number = h.number;
  type = h.type;
  body = h.body;
  there = (prefix_keeps p).entry h.number (Definition name h.type h.body) h.there;
}

-- a definition with a name and a type
pub record HasType (T : Signature) (name : List ℕ) (type : Term) : Type 0 where
  pub number : ℕ
  pub body : Term
  pub there : IsEntryAt T number (Definition name type body)

pub type-stays : (T U : Signature) (name : List ℕ) (type : Term) → IsPrefix T U → HasType T name type → HasType U name type
type-stays T U name type p h = record {
  number = h.number;
  body = h.body;
  there = (prefix_keeps p).entry h.number (Definition name type h.body) h.there;
}

-- where all names are different, it has the number that is found by its name
pub number-found : (U : Signature) (name : List ℕ) (type : Term) → IsWellFormed U → (h : HasType U name type) → number_of U name ≡ h.number
number-found U name type well h =
    ap (λ o. option_map_or (λ n. n) (option_and_then entry_found o) 0)
    (definition-found U well.distinct h.number (Definition name type h.body) name h.there refl)

-- so does a name that is looked up, whatever number stands for it otherwise
pub found-number : (U : Signature) (name : List ℕ) (c : ℕ) → IsWellFormed U → HasName U name
    → option_map_or (λ n. n) (option_and_then entry_found (find U name)) c ≡ number_of U name
found-number U name c well h =
    let found = definition-found U well.distinct h.number (Definition name h.type h.body) name h.there refl in
    ap (λ o. option_map_or (λ n. n) (option_and_then entry_found o) c) found
    ∙ sym (ap (λ o. option_map_or (λ n. n) (option_and_then entry_found o) 0) found)

pub part-there : (U : Signature) (f : FunctionAt) (k : ℕ) → IsWellFormed U → HasType U (part_named f.function.name k) (part_type f k) → HasPart U f k
part-there U f k well h =
    let name = part_named f.function.name k in record {
      body = h.body;
      entry = transport (λ n. IsEntryAt U n (Definition name (part_type f k) h.body)) (sym (number-found U name (part_type f k) well h)) h.there;
    }

-- ---- drafts

-- a draft of a definition with a name
pub record IsNamed (name : List ℕ) (d : Draft) : Type 0 where
  pub type : Term
  pub body : Term
  pub entry : d.entry ≡ Definition name type body

order-named : (name : List ℕ) (base : ℕ) (candidates : List (List ℕ)) (type term : Naming → Term) (d : Draft)
    → drafted_in_order name base candidates type term ≡ Ok d → IsNamed name d
order-named name base candidates type term d h = record { type = _; body = _; entry = (in_order-is name base candidates type term d h).entry }

pub motive-named : (plan : Plan) (r : Recursion) (d : Draft) → motive_entry plan r ≡ Ok d → IsNamed (motive_name plan.name) d
motive-named plan r d h = search order-named

pub step-named : (S : Signature) (plan : Plan) (r : Recursion) (d : Draft) → step_entry S plan r ≡ Ok d → IsNamed (step_name plan.name) d
step-named S plan r d h = search order-named

-- ---- entering

pub draft-enters : (T : Signature) (name : List ℕ) (d : Draft) (left : ℕ) → IsNamed name d → Answers (λ (e : Entered). HasName e.signature name) (enter_draft_of T d left)
draft-enters T name d left n =
    let P : Entered → Type 0 = λ e. HasName e.signature name in
    let all = enter_all enter_needed T (mentioned d) left in
    and_next-has Any P all _ (any all.0) (λ U rest u.
    let r = settled_number U d.base d.names in
    let e = Definition name (renumbered r n.type) (renumbered r n.body) in
    transport (λ entry. Answers P (enter_entry U entry rest)) (sym (ap (renumbered_entry r) n.entry))
    (weaker (IsThere e) P (enter_entry U e rest).0
    (λ x there. record { number = x.number; type = renumbered r n.type; body = renumbered r n.body; there = there }) (enter_entry-there U e rest)))
