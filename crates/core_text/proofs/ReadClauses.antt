-- Properties of an entry that was read, as callers use them.
use Rattle.std.proofs.Common.{◌≡◌, ◌≢◌, ℕ, zero, suc, ◌<◌, ◌≤◌, Bool, true, false, List, [], ◌∷◌, ◌++◌, map, length, get_or, refl, sym, ◌∙◌, subst, append_assoc, append-nil, arith}
use Rattle.std.specs.Prelude.{◌||◌, Result, Ok, Err, Option, Some, None, IfOk, IfSome, bytes_eq}
use Rattle.std.specs.List.{list_any}
use Rattle.std.proofs.lemmas.Bool.{false≢true}
use Rattle.std.proofs.lemmas.List.{map-append}
use Rattle.std.proofs.lemmas.List.Elements.{All-nil, All-cons, All-push}
use Rattle.std.proofs.lemmas.List.Quantifiers.{all_pairs_push}
use Rattle.std.proofs.lemmas.Slice.Eq.{bytes_eq-Decides}
use Rattle.theory.specs.Signatures as signature
use Rattle.theory.specs.Signatures.{Signature, names_of}
use Rattle.core_sig.specs.Names.{find}
use Rattle.core_sig.specs.Meanings.{entry_of}
use Rattle.core_sig.specs.Raw.{RawConstructor}
use Rattle.core_sig.specs.declared.entry.Entry.{Entry}
use Rattle.core_text.specs.EntryReading.{ReadsEntry, entry_from}
use Rattle.core_text.specs.RawEntries.{constructor_line, entry_shown}
use Rattle.core_text.specs.ReadLaws.{AreFresh, IsReadEntry}
use Rattle.core_text.specs.Spellings.{IsNewName, IsEntryOver}
use Rattle.core_text.specs.declared.stop.CoreTextStop.{CoreTextStop}
use Rattle.core_text.proofs.EntryOutcomes.{what-is-read}
use Rattle.core_text.proofs.LineForms.{names-shown}
use Rattle.core_text.proofs.NewNames.{new-unknown, new-apart}
use Rattle.core_text.proofs.Over.{AreConstructorsOver}

-- ---- the names of an entry that was read are fresh

none-fresh : (S : Signature) → AreFresh S []
none-fresh S = record { unknown = All-nil (λ name. find S name ≡ None); distinct = λ i j d lt within. absurd (omega arith) }

one-fresh : (S : Signature) (name : List ℕ) → IsNewName S [] [] name → AreFresh S (name ∷ [])
one-fresh S name new = record {
  unknown = All-cons (λ n. find S n ≡ None) name [] (new-unknown S [] [] name new) (All-nil (λ n. find S n ≡ None));
  distinct = λ i j d lt within. absurd (omega arith);
}

abbrev named : List RawConstructor → List (List ℕ)
named found = map (λ c. c.name) found

differ : (x y : List ℕ) → bytes_eq x y ≡ false → x ≢ y
differ x y e same = false≢true (sym e ∙ (bytes_eq-Decides x y).1 same)

neither : (a b : Bool) → (a || b) ≡ false → (a ≡ false) × (b ≡ false)
neither true b e = absurd (false≢true (sym e))
neither false b e = (refl, e)

others-differ : (name : List ℕ) (found : List RawConstructor) → list_any (λ c. bytes_eq name c.name) found ≡ false → (k : ℕ) (d : List ℕ) → k < length (named found) → get_or (named found) k d ≢ name
others-differ name [] e k d lt = absurd (omega arith)
others-differ name (c ∷ found) e zero d lt = λ same. differ name c.name (neither (bytes_eq name c.name) _ e).0 (sym same)
others-differ name (c ∷ found) e (suc k) d lt = others-differ name found (neither (bytes_eq name c.name) _ e).1 k d (omega arith)

more-fresh : (S : Signature) (own : List ℕ) (found : List RawConstructor) (c : RawConstructor) → AreFresh S (own ∷ named found) → IsNewName S own found c.name → AreFresh S (own ∷ named (found ++ c ∷ []))
more-fresh S own found c fresh new =
    subst (λ ns. AreFresh S (own ∷ ns)) (sym (map-append (λ (k : RawConstructor). k.name) found (c ∷ []))) (record {
      unknown = All-push (λ name. find S name ≡ None) (own ∷ named found) c.name fresh.unknown (new-unknown S own found c.name new);
      distinct = all_pairs_push (λ x y. x ≢ y) (own ∷ named found) c.name fresh.distinct different;
    })
  where
    different : (k : ℕ) (d : List ℕ) → k < length (own ∷ named found) → get_or (own ∷ named found) k d ≢ c.name
    different zero d lt = λ same. differ c.name own (new-apart S own found c.name new).0 (sym same)
    different (suc k) d lt = others-differ c.name found (new-apart S own found c.name new).1 k d (omega arith)

all-fresh : (S : Signature) (own : List ℕ) (p : ℕ) (cs found : List RawConstructor) → AreFresh S (own ∷ named found) → AreConstructorsOver S own p found cs → AreFresh S (own ∷ named (found ++ cs))
all-fresh S own p [] found fresh are = subst (λ xs. AreFresh S (own ∷ named xs)) (sym (append-nil found)) fresh
all-fresh S own p (c ∷ cs) found fresh are =
    subst (λ xs. AreFresh S (own ∷ named xs)) (append_assoc found (c ∷ []) cs)
    (all-fresh S own p cs (found ++ c ∷ []) (more-fresh S own found c fresh are.0) are.2)

pub fresh-names : (S : Signature) (n : ℕ) (e : signature.Entry) → IsEntryOver S (entry_shown n e) → AreFresh S (names_of e)
fresh-names S n (signature.FamilyOf f) is =
    subst (AreFresh S) (names-shown n f) (all-fresh S f.name (length f.parameters) (map (constructor_line n f) f.constructors) [] (one-fresh S f.name is.name) is.constructors)
fresh-names S n (signature.EliminatorAt f m) is = none-fresh S
fresh-names S n (signature.AxiomKAt i m) is = none-fresh S
fresh-names S n (signature.Definition name type body) is = one-fresh S name is.0

-- the entry and its offset
pub record IsGiven (S : Signature) (n from size : ℕ) (p : Entry × ℕ) : Type 0 where
  pub readable : IsReadEntry S (entry_shown n (entry_of p.0))
  pub names : AreFresh S (names_of (entry_of p.0))
  pub forward : from < p.1
  pub within : p.1 ≤ size

pub given : (S : Signature) (text : List ℕ) (from n : ℕ) (result : Result (Option (Entry × ℕ)) CoreTextStop) → from ≤ length text → ReadsEntry n result (entry_from S text from) → IfOk result (λ o. IfSome o (IsGiven S n from (length text)))
given S text from n (Ok None) within is = tt
given S text from n (Ok (Some p)) within is =
    let what = what-is-read S text from (entry_shown n (entry_of p.0)) p.1 within (sym is) in
    record { readable = what.0; names = fresh-names S n (entry_of p.0) what.0.0; forward = what.1; within = what.2 }
given S text from n (Err e) within is = tt

pub given-in : {P Q : Entry × ℕ → Type 0} (r : Result (Option (Entry × ℕ)) CoreTextStop) → ((p : Entry × ℕ) → P p → Q p) → IfOk r (λ o. IfSome o P) → IfOk r (λ o. IfSome o Q)
given-in (Ok None) k h = tt
given-in (Ok (Some p)) k h = k p h
given-in (Err e) k h = tt
