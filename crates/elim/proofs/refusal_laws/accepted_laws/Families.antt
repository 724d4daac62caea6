-- A declared family is the one that its line shows, and so is accepted.
use Rattle.std.proofs.Common.{◌≡◌, ℕ, ◌≤◌, List, [], ◌∷◌, map, length, Result, Ok, Err, IfOk, refl, sym, ap, ap₂, ◌∙◌, subst as transport, arith}
use Rattle.theory.specs.Terms.{Term, Sort, Pi}
use Rattle.theory.specs.Telescopes.{Telescope, products}
use Rattle.theory.specs.Families.{Constructor, Family, constructor_type}
use Rattle.theory.specs.Signatures.{Signature, FamilyOf}
use Rattle.core_sig.specs.Raw.{RawConstructor, RawFamily}
use Rattle.core_text.specs.RawEntries.{family_shown, type_shown, constructor_type_shown}
use Rattle.family_check.specs.Entering.{Entered, entered, declare_of}
use Rattle.family_check.specs.Laws.{IsAsDeclared, EntersAsDeclared}
use Rattle.family_check.specs.Outcomes.{FamilyStop}
use Rattle.family_check.proofs.AsDeclared.{declare-gives}
use Rattle.elab_session.proofs.ShownFamilies.{raw-parts}
use Rattle.elim.specs.refusal_laws.unit_laws.Steady.{IsFamilyFuel}
use Rattle.elim.proofs.refusal_laws.unit_laws.Entering.{declare-steady}
use Rattle.elim.specs.refusal_laws.accepted_laws.Checked.{unchanged, one_more}
use Rattle.elim.specs.refusal_laws.accepted_laws.Laws.{FamilyIsChecked}
use Rattle.elim.proofs.refusal_laws.accepted_laws.Steps.{CheckedTo, with-fuel}

abbrev codomain : Term → Term
codomain (Pi a b) = b
codomain t = t

abbrev first : List (List ℕ) → List ℕ
first [] = []
first (x ∷ xs) = x

abbrev others : {A : Type 0} → List A → List A
others [] = []
others (x ∷ xs) = xs

abbrev first_term : List Term → Term
first_term [] = Sort 0
first_term (x ∷ xs) = x

-- equal products of one telescope have equal ends
same-end : (tele : Telescope) (a b : Term) → products tele a ≡ products tele b → a ≡ b
same-end [] a b e = e
same-end (t ∷ tele) a b e = same-end tele a b (ap codomain e)

abbrev by-line : ℕ → Family → Constructor → RawConstructor
by-line n f c = record { name = c.name; type = constructor_type_shown n f c }

abbrev constructor-parts : List ℕ → Term → RawConstructor
constructor-parts name type = record { name = name; type = type }

module _ (n : ℕ) (f : Family) where
  constructors-shown : (cs : List Constructor) (raws : List RawConstructor) → map (λ c. c.name) cs ≡ map (λ (r : RawConstructor). r.name) raws
      → map (constructor_type n f) cs ≡ map (λ (r : RawConstructor). products f.parameters r.type) raws → raws ≡ map (by-line n f) cs
  constructors-shown [] [] names types = refl
  constructors-shown [] (r ∷ raws) names types = cc
  constructors-shown (c ∷ cs) [] names types = cc
  constructors-shown (c ∷ cs) (r ∷ raws) names types =
      ap₂ ◌∷◌
      (ap₂ constructor-parts (sym (ap first names)) (sym (same-end f.parameters (constructor_type_shown n f c) r.type (ap first_term types))))
      (constructors-shown cs raws (ap others names) (ap others types))

  pub family-is : (raw : RawFamily) → IsAsDeclared n raw f → raw ≡ family_shown n f
  family-is raw is =
      ap₂ (λ name ps. raw-parts name ps raw.type raw.constructors) (sym (ap first is.names)) (sym is.parameters)
      ∙ ap₂ (λ t cs. raw-parts f.name f.parameters t cs)
      (sym (same-end f.parameters (type_shown f) raw.type (is.type ∙ ap (λ ps. products ps raw.type) (sym is.parameters))))
      (constructors-shown f.constructors raw.constructors (ap others is.names)
      (is.constructor_types ∙ ap (λ ps. map (λ (r : RawConstructor). products ps r.type) raw.constructors) (sym is.parameters)))

pub family-checked : (S : Signature) (raw : RawFamily) (left fuel : ℕ) → left ≤ fuel → IfOk (declare_of S raw left).0 (CheckedTo fuel S)
family-checked S raw left fuel le = by (declare_of S raw left).0 refl (declare-gives S raw left)
  where
    by : (r : Result Entered FamilyStop) → (declare_of S raw left).0 ≡ r → IfOk r (EntersAsDeclared S raw) → IfOk r (CheckedTo fuel S)
    by (Ok x) is (f, new, given) =
        transport (CheckedTo fuel S) (sym new)
        (one_more S (FamilyOf f) unchanged
        (transport (λ (shown : RawFamily). (declare_of S shown fuel).0 ≡ Ok (entered S (FamilyOf f))) (family-is (length S.entries) f raw given)
        (with-fuel IsFamilyFuel (declare_of S raw) (entered S (FamilyOf f)) left fuel (declare-steady S raw) le (is ∙ ap Ok new))))
    by (Err stop) is h = tt

pub family-is-checked : FamilyIsChecked
family-is-checked S raw fuel = family-checked S raw fuel fuel (omega arith)
