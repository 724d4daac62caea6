-- Without K, no entry of a well-formed signature holds it.
use Rattle.std.proofs.Common.{◌≡◌, ℕ, ◌⊎◌, inl, inr, false, [], ◌∷◌, All, sym, subst}
use Rattle.std.proofs.lemmas.List.Elements.{All-cons, All-nil}
use Rattle.std.proofs.lemmas.Option.{slice_get-get_or}
use Rattle.theory.specs.Terms.{Term, Const}
use Rattle.theory.specs.AxiomKLaws.{LacksAxiomK}
use Rattle.theory.specs.Telescopes.{Telescope, products}
use Rattle.theory.specs.Signatures.{Entry, FamilyOf, EliminatorAt, AxiomKAt, Definition, Signature, IsEntryAt, family, constructor, constant}
use Rattle.theory.specs.Typing.{HasSort, Has}
use Rattle.theory.specs.WellFormed.{IsWellFormed, IsTyped, whole}
use Rattle.theory.proofs.WellFormedness.{well_formed_typed}
use Rattle.theory.proofs.WithoutAxiomK.{no_axiom_k_entry, no_axiom_k_in_derivations}
use Rattle.core_text.specs.RawEntries.{type_shown}
use Rattle.elim.specs.headline.program_laws.WithoutK.{LacksK, HasNoK}

lacks-types : (tele : Telescope) (end : Term) → LacksAxiomK (products tele end) → All LacksAxiomK tele
lacks-types [] end h = All-nil LacksAxiomK
lacks-types (a ∷ tele) end h = All-cons LacksAxiomK a tele h.0 (lacks-types tele end h.1)

lacks-end : (tele : Telescope) (end : Term) → LacksAxiomK (products tele end) → LacksAxiomK end
lacks-end [] end h = h
lacks-end (a ∷ tele) end h = lacks-end tele end h.1

module _ (S : Signature) (formed : IsWellFormed S) (off : S.has_k ≡ false) where
  typed : IsTyped S
  typed = well_formed_typed S formed

  sorted : (a : Term) → HasSort S [] a → LacksAxiomK a
  sorted a h = (no_axiom_k_in_derivations S (whole formed) off [] a _ h.1).0

  body-lacks : (n : ℕ) (body type : Term) → (body ≡ Const n) ⊎ Has S [] body type → LacksAxiomK body
  body-lacks n body type (inl e) = subst LacksAxiomK (sym e) tt
  body-lacks n body type (inr d) = (no_axiom_k_in_derivations S (whole formed) off [] body type d).0

  pub entry-lacks : (n : ℕ) (e : Entry) → IsEntryAt S n e → LacksK n e
  entry-lacks n (FamilyOf f) at =
      let h = sorted _ (typed.types (family n at)) in (
        lacks-types f.parameters (type_shown f) h,
        lacks-end f.parameters (type_shown f) h,
        λ number c inside. lacks-end f.parameters _ (sorted _ (typed.types (constructor n number at (slice_get-get_or f.constructors number c inside)))),
      )
  entry-lacks n (EliminatorAt g m) at = tt
  entry-lacks n (AxiomKAt i m) at = no_axiom_k_entry S (whole formed) off n i m at
  entry-lacks n (Definition name type body) at =
      (sorted type (typed.types (constant n at)), body-lacks n body type (typed.bodies at))

pub well_formed_without_k : (S : Signature) → IsWellFormed S → S.has_k ≡ false → HasNoK S
well_formed_without_k S formed off n e at = entry-lacks S formed off n e at
