-- The symbol of a name is a term over the signature, with levels that can be written.
use Rattle.std.proofs.Common.{◌≡◌, ℕ, Bool, true, false, List, [], length, refl, subst, inl, inr, arith}
use Rattle.std.specs.Prelude.{◌&&◌, nat_lt, if◌then◌else◌, Option, Some, None, option_and_then, slice_get, bytes_eq, codes}
use Rattle.std.proofs.lemmas.Bool.{and_parts}
use Rattle.theory.specs.Terms.{Term, Fam, Elim, AxiomK, height, top}
use Rattle.theory.specs.Signatures.{Entry, FamilyOf, Definition, Signature, IsEntryAt}
use Rattle.theory.specs.SignatureScopes.{IsFamilyNumber, IsConstructorNumber}
use Rattle.core_sig.specs.Names.{find}
use Rattle.core_sig.specs.declared.entry.Found.{Found}
use Rattle.core_sig.specs.declared.entry.Found.TheVariants.{Entry as FoundEntry, Con as FoundCon}
use Rattle.core_text.specs.SymbolLookup.{number_at_end, before_end, entry_symbol, found_symbol, eliminator_into, eliminator_symbol, axiom_k_at, axiom_k_symbol, or_else, symbol}
use Rattle.core_text.proofs.Over.{IsTermOver}
use Rattle.core_text.proofs.SymbolOutcomes.{some-is, find-constructor, through}
use Rattle.core_text.proofs.Outcomes.{lt-is}

fam-is : {a b : ℕ} → Fam a ≡ Fam b → a ≡ b
fam-is e = cc

-- a name that stands for a family stands for one of the signature
pub family-number : (S : Signature) (name : List ℕ) (n : ℕ) → found_symbol S (find S name) ≡ Some (Fam n) → IsFamilyNumber S n
family-number S name n e = by (find S name) e
  where
    entry : (k : ℕ) (o : Option Entry) → slice_get S.entries k ≡ o → entry_symbol k o ≡ Some (Fam n) → IsFamilyNumber S n
    entry k None at is = absurd (cc)
    entry k (Some (FamilyOf f)) at is = subst (IsFamilyNumber S) (fam-is (some-is is)) (f, at)
    entry k (Some _) at is = absurd (cc)

    by : (o : Option Found) → found_symbol S o ≡ Some (Fam n) → IsFamilyNumber S n
    by None is = absurd (cc)
    by (Some (FoundEntry k)) is = entry k (slice_get S.entries k) refl is
    by (Some (FoundCon f c)) is = absurd (cc)

-- a term of one symbol
pub record IsSymbol (S : Signature) (own : Bool) (t : Term) : Type 0 where
  pub over : IsTermOver S own 0 t
  pub leaf : height t ≡ 1

module _ (S : Signature) (own : Bool) where
  abbrev Over : Term → Type 0
  Over t = IsSymbol S own t

  entry-over : (n : ℕ) (o : Option Entry) → ((e : Entry) → o ≡ Some e → IsEntryAt S n e) → (t : Term) → entry_symbol n o ≡ Some t → Over t
  entry-over n None at t e = absurd (cc)
  entry-over n (Some (FamilyOf f)) at t e = subst Over (some-is e) (record { over = record { symbols = inl (f, at (FamilyOf f) refl); free = omega arith }; leaf = refl })
  entry-over n (Some (Definition name type body)) at t e =
      subst Over (some-is e) (record { over = record { symbols = (name, type, body, at (Definition name type body) refl); free = omega arith }; leaf = refl })
  entry-over n (Some _) at t e = absurd (cc)

  found-over : (o : Option Found) → ((f c : ℕ) → o ≡ Some (FoundCon f c) → IsConstructorNumber S f c) → (t : Term) → found_symbol S o ≡ Some t → Over t
  found-over None within t e = absurd (cc)
  found-over (Some (FoundEntry n)) within t e = entry-over n (slice_get S.entries n) (λ x is. is) t e
  found-over (Some (FoundCon f c)) within t e = subst Over (some-is e) (record { over = record { symbols = within f c refl; free = omega arith }; leaf = refl })

  eliminator-over : (name : List ℕ) (m : ℕ) (o : Option Term) → found_symbol S (find S name) ≡ o → (t : Term) → eliminator_into m o ≡ Some t → Over t
  eliminator-over name m None is t e = absurd (cc)
  eliminator-over name m (Some (Fam n)) is t e = by (nat_lt m top) refl e
    where
      by : (b : Bool) → nat_lt m top ≡ b → (if b then Some (Elim n m) else None) ≡ Some t → Over t
      by true low same =
          subst Over (some-is same) (record { over = record { symbols = (family-number S name n is, lt-is m top low); free = omega arith }; leaf = refl })
      by false low same = absurd (cc)
  eliminator-over name m (Some _) is t e = absurd (cc)

  eliminators-over : (name : List ℕ) (t : Term) → eliminator_symbol S name ≡ Some t → Over t
  eliminators-over name t e =
      through (Over t) (λ p. option_and_then (λ family. eliminator_into p.1 (found_symbol S (find S family))) (before_end (codes "!elim.") p.0)) (number_at_end name) t
      (λ p is. through (Over t) (λ family. eliminator_into p.1 (found_symbol S (find S family))) (before_end (codes "!elim.") p.0) t
      (λ family same. eliminator-over family p.1 (found_symbol S (find S family)) refl t same) is) e

  axiom_k-over : (front : List ℕ) (i m : ℕ) (t : Term) → axiom_k_at front i m ≡ Some t → Over t
  axiom_k-over front i m t e = by (bytes_eq front (codes "Eq.") && (nat_lt i top && nat_lt m top)) refl e
    where
      by : (b : Bool) → (bytes_eq front (codes "Eq.") && (nat_lt i top && nat_lt m top)) ≡ b → (if b then Some (AxiomK i m) else None) ≡ Some t → Over t
      by true low same =
          let parts = and_parts (nat_lt i top) (nat_lt m top) (and_parts (bytes_eq front (codes "Eq.")) (nat_lt i top && nat_lt m top) low).1 in
          subst Over (some-is same) (record { over = record { symbols = (lt-is i top parts.0, lt-is m top parts.1); free = omega arith }; leaf = refl })
      by false low same = absurd (cc)

  axioms-over : (name : List ℕ) (t : Term) → axiom_k_symbol name ≡ Some t → Over t
  axioms-over name t e =
      through (Over t) (λ p. option_and_then (λ equality. option_and_then (λ q. axiom_k_at q.0 q.1 p.1) (number_at_end equality)) (before_end (codes "!k.") p.0)) (number_at_end name) t
      (λ p is. through (Over t) (λ equality. option_and_then (λ q. axiom_k_at q.0 q.1 p.1) (number_at_end equality)) (before_end (codes "!k.") p.0) t
      (λ equality same. through (Over t) (λ q. axiom_k_at q.0 q.1 p.1) (number_at_end equality) t (λ q at. axiom_k-over q.0 q.1 p.1 t at) same) is) e

  first-over : (t : Term) (o other : Option Term) → (o ≡ Some t → Over t) → (other ≡ Some t → Over t) → or_else o other ≡ Some t → Over t
  first-over t (Some u) other first second e = first e
  first-over t None other first second e = second e

  others-over : (name : List ℕ) (t : Term) → or_else (found_symbol S (find S name)) (or_else (eliminator_symbol S name) (axiom_k_symbol name)) ≡ Some t → Over t
  others-over name t =
      first-over t (found_symbol S (find S name)) (or_else (eliminator_symbol S name) (axiom_k_symbol name)) (found-over (find S name) (find-constructor S name) t)
      (first-over t (eliminator_symbol S name) (axiom_k_symbol name) (eliminators-over name t) (axioms-over name t))

-- where no family is being declared
pub symbol-over : (S : Signature) (name : List ℕ) (t : Term) → symbol S [] name ≡ Some t → IsSymbol S false t
symbol-over S name t e = others-over S false name t e

-- and where one is: its own name stands for it
pub own-symbol-over : (S : Signature) (own name : List ℕ) (t : Term) → symbol S own name ≡ Some t → IsSymbol S true t
own-symbol-over S own name t e = by (nat_lt 0 (length own) && bytes_eq name own) e
  where
    by : (b : Bool) → (if b then Some (Fam (length S.entries)) else or_else (found_symbol S (find S name)) (or_else (eliminator_symbol S name) (axiom_k_symbol name))) ≡ Some t → IsSymbol S true t
    by true is = subst (IsSymbol S true) (some-is is) (record { over = record { symbols = inr (refl, refl); free = omega arith }; leaf = refl })
    by false is = others-over S true name t is
