-- The family that the code makes is the one that its line shows.
use Rattle.std.proofs.Common.{◌≡◌, ℕ, List, map, length, sym, ap, ap₂, ◌∙◌}
use Rattle.theory.specs.Terms.{Term}
use Rattle.theory.specs.Terms.Term.{Sort}
use Rattle.theory.specs.Telescopes.{Telescope, products}
use Rattle.core_terms.specs.Meanings.{tree_of, tele_of}
use Rattle.core_sig.specs.Kinds.{HasKinds}
use Rattle.core_sig.specs.Meanings.{family_of}
use Rattle.core_sig.specs.Raw.{RawConstructor, RawFamily}
use Rattle.core_sig.specs.declared.family.Family.{Family}
use Rattle.core_sig.proofs.Arguments.{index_types-of}
use Rattle.core_text.specs.RawEntries.{family_shown}
use Rattle.core_text.specs.Records.{constructor_shown}
use Rattle.core_text.proofs.RecordTexts.{constructors-shown}

abbrev pub raw-parts : List ℕ → Telescope → Term → List RawConstructor → RawFamily
raw-parts name parameters type constructors = record { name = name; parameters = parameters; type = type; constructors = constructors }

pub family-shown : (n : ℕ) (f : Family) (name : List ℕ) (params : Telescope) (type : Term) (cons : List RawConstructor) → HasKinds n f
    → name ≡ f.name → params ≡ tele_of f.params → type ≡ products (map (λ a. tree_of a.ty) f.indices) (Sort f.level)
    → cons ≡ map (constructor_shown n (length f.params)) f.cons
    → raw-parts name params type cons ≡ family_shown n (family_of f)
family-shown n f name params type cons kinds named given typed made =
    ap₂ (λ n ps. raw-parts n ps type cons) named given
    ∙ ap₂ (λ t cs. raw-parts f.name (tele_of f.params) t cs)
    (typed ∙ ap (λ ts. products ts (Sort f.level)) (sym (index_types-of f)))
    (made ∙ sym (constructors-shown n f f.cons kinds.constructors))
