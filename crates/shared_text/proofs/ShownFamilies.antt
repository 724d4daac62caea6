-- A family as its line shows it, by the terms of the code.
use Rattle.std.proofs.Common.{◌≡◌, ℕ, Result, Ok, Err, List, map, length, ap, ap₂, sym, ◌∙◌}
use Rattle.theory.specs.Terms.{Term}
use Rattle.core_terms.specs.Meanings.{tele_of}
use Rattle.core_sig.specs.Kinds.{HasKinds}
use Rattle.core_sig.specs.Meanings.{family_of}
use Rattle.core_sig.specs.Raw.{RawConstructor, RawFamily}
use Rattle.core_sig.specs.declared.family.Family.{Family}
use Rattle.core_text.specs.RawEntries.{family_shown, type_shown}
use Rattle.core_text.specs.Records.{constructor_shown}
use Rattle.core_text.proofs.RecordTexts.{constructors-shown}

abbrev value : {A E : Type 0} → A → Result A E → A
value d (Ok x) = x
value d (Err e) = d

pub ok-is : {A E : Type 0} (x y : A) → ◌≡◌ {A = Result A E} (Ok x) (Ok y) → x ≡ y
ok-is x y e = ap (value x) e

abbrev with_types : Family → Term → List RawConstructor → RawFamily
with_types f ty cons = record { name = f.name; parameters = tele_of f.params; type = ty; constructors = cons }

pub family-is : (n params : ℕ) (f : Family) (ty : Term) (cons : List RawConstructor) → HasKinds n f → params ≡ length f.params → ty ≡ type_shown (family_of f)
    → cons ≡ map (constructor_shown n params) f.cons
    → ◌≡◌ {A = RawFamily} (record { name = f.name; parameters = tele_of f.params; type = ty; constructors = cons }) (family_shown n (family_of f))
family-is n params f ty cons kinds count type shown =
    ap₂ (with_types f) type
    (shown ∙ (ap (λ p. map (constructor_shown n p) f.cons) count ∙ sym (constructors-shown n f f.cons kinds.constructors)))
