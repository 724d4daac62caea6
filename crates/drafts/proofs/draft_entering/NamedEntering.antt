-- The generated entry with a name enters after all that it needs.
use Rattle.std.proofs.Common.{◌≡◌, ℕ, true, false, cond, Option, Some, None, option_map, List, Ok, refl, sym, ap, ◌∙◌, arith}
use Rattle.std.specs.Option.{is_some}
use Rattle.std.proofs.lemmas.Bool.{true≢false}
use Rattle.theory.specs.Signatures.{Signature}
use Rattle.core_sig.specs.Names.{find}
use Rattle.core_sig.specs.declared.entry.Found.{Found}
use Rattle.clause_reports.specs.DraftEntering.{Names, enter_generated, enter_mention, enter_needed}
use Rattle.clause_reports.specs.Generated.{Generated, generated_by}
use Rattle.clause_reports.specs.Stops.{answers}
use Rattle.drafts.specs.draft_entering.Conditions.{IsGeneratedName}
use Rattle.drafts.specs.draft_entering.FoundNames.{numbers_of}
use Rattle.drafts.specs.declared.draft_entering.generated.Generated as code
use Rattle.tree_translation.specs.Needed.{is_found}

known : (o : Option Found) → is_some o ≡ false → is_found o ≡ false
known None is = refl
known (Some f) is = absurd (true≢false is)

-- a mention of a name that the signature does not know enters the generated entry
unknown-met : (S : Signature) (name : List ℕ) (left : ℕ) → is_some (find S name) ≡ false
    → enter_generated enter_needed S (generated_by S name) left ≡ enter_mention enter_needed S (Names name) left
unknown-met S name left is =
    sym (ap (λ b. cond b (answers (Ok S) left) (enter_generated enter_needed S (generated_by S name) left)) (known (find S name) is))

none : (o : Option Generated) → option_map numbers_of o ≡ None → o ≡ None
none None is = refl
none (Some g) is = absurd (grind arith)

some : (o : Option Generated) (g : code.Generated) → option_map numbers_of o ≡ Some g → (h : Generated) × (o ≡ Some h)
some None g is = absurd (grind arith)
some (Some h) g is = (h, refl)

pub nothing-met : (S : Signature) (name : List ℕ) (left : ℕ) → is_some (find S name) ≡ false → option_map numbers_of (generated_by S name) ≡ None
    → answers (Ok S) left ≡ enter_mention enter_needed S (Names name) left
nothing-met S name left unknown is =
    sym (ap (λ o. enter_generated enter_needed S o left) (none (generated_by S name) is)) ∙ unknown-met S name left unknown

pub something-there : (S : Signature) (name : List ℕ) (g : code.Generated) → option_map numbers_of (generated_by S name) ≡ Some g → IsGeneratedName S name
something-there S name g is = some (generated_by S name) g is
