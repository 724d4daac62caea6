-- The line of an entry with its parts grouped to the right, as a reader meets them.
use Rattle.std.proofs.Common.{◌≡◌, ℕ, ◌+◌, ◌≤◌, List, [], ◌∷◌, ◌++◌, length, refl, ap, append_assoc, append-nil, arith}
use Rattle.std.specs.Prelude.{codes, decimal}
use Rattle.std.proofs.lemmas.List.{length-append}
use Rattle.std.proofs.lemmas.Simd.{map-map}
use Rattle.theory.specs.Terms.{Term}
use Rattle.theory.specs.Families.{Family}
use Rattle.theory.specs.Signatures.{Signature, Entry, FamilyOf, EliminatorAt, AxiomKAt, Definition, names_of}
use Rattle.core_sig.specs.Raw.{RawConstructor, RawFamily, raw_names}
use Rattle.core_text.specs.EntryText.{parameters_text, constructors_text, line_text, entry_line}
use Rattle.core_text.specs.RawEntries.{RawEntry, RawFamilyOf, RawEliminator, RawAxiomK, RawDefinition, constructor_line, entry_shown, family_shown}
use Rattle.core_text.specs.Spellings.{raw_line}
use Rattle.core_text.specs.SymbolNames.{name_at, with_name}
use Rattle.core_text.specs.TermText.{term_text}

-- ---- constructors

pub constructor-text : (S : Signature) (before : List ℕ) (c : RawConstructor) (cs : List RawConstructor) (rest : List ℕ) → constructors_text S before (c ∷ cs) ++ rest ≡ before ++ (c.name ++ (codes " : " ++ (term_text S c.type ++ (constructors_text S (codes " ; ") cs ++ rest))))
constructor-text S before c cs rest = simp append_assoc

pub constructors-size : (S : Signature) (before : List ℕ) (c : RawConstructor) (cs : List RawConstructor) → length (constructors_text S before (c ∷ cs)) ≡ length before + (length c.name + (3 + (length (term_text S c.type) + length (constructors_text S (codes " ; ") cs))))
constructors-size S before c cs =
    let type = term_text S c.type in
    let others = constructors_text S (codes " ; ") cs in
    omega (arith, ap length (constructor-text S before c cs []), ap length (append-nil (constructors_text S before (c ∷ cs))), length-append before (c.name ++ (codes " : " ++ (type ++ (others ++ [])))), length-append c.name (codes " : " ++ (type ++ (others ++ []))), length-append type (others ++ []), length-append others [])

pub constructors-long : (S : Signature) (before : List ℕ) (cs : List RawConstructor) → length cs ≤ length (constructors_text S before cs)
constructors-long S before [] = omega arith
constructors-long S before (c ∷ cs) = omega (arith, constructors-long S (codes " ; ") cs, constructors-size S before c cs)

-- ---- lines with what follows them

pub family-text : (S : Signature) (raw : RawFamily) (rest : List ℕ) → line_text S (RawFamilyOf raw) ++ rest ≡ codes "data " ++ (raw.name ++ (parameters_text S raw.parameters ++ (codes " : " ++ (term_text S raw.type ++ (codes " {" ++ (constructors_text S (codes " ") raw.constructors ++ (codes " }" ++ 10 ∷ rest)))))))
family-text S raw rest = simp append_assoc

pub eliminator-text : (S : Signature) (g m : ℕ) (rest : List ℕ) → line_text S (RawEliminator g m) ++ rest ≡ codes "elim " ++ (name_at S g ++ (codes " " ++ (decimal m ++ 10 ∷ rest)))
eliminator-text S g m rest = simp append_assoc

pub axiom_k-text : (S : Signature) (i m : ℕ) (rest : List ℕ) → line_text S (RawAxiomK i m) ++ rest ≡ codes "axiomk " ++ (decimal i ++ (codes " " ++ (decimal m ++ 10 ∷ rest)))
axiom_k-text S i m rest = simp append_assoc

pub definition-text : (S : Signature) (name : List ℕ) (type body : Term) (rest : List ℕ) → line_text S (RawDefinition name type body) ++ rest ≡ codes "def " ++ (name ++ (codes " : " ++ (term_text S type ++ (codes " = " ++ (term_text S body ++ 10 ∷ rest)))))
definition-text S name type body rest = simp append_assoc

-- ---- whole lines

-- the line of an entry is the line that it shows
pub line-shown : (S : Signature) (n : ℕ) (e : Entry) → line_text S (entry_shown n e) ≡ entry_line S n e
line-shown S n (FamilyOf f) = refl
line-shown S n (EliminatorAt g m) = refl
line-shown S n (AxiomKAt i m) = refl
line-shown S n (Definition name type body) = refl

-- it declares the names of the entry
pub names-shown : (n : ℕ) (f : Family) → raw_names (family_shown n f) ≡ names_of (FamilyOf f)
names-shown n f = ap (λ ns. f.name ∷ ns) (map-map (λ (c : RawConstructor). c.name) (constructor_line n f) f.constructors)

abbrev pub grouped : Signature → RawEntry → List ℕ
grouped S (RawFamilyOf raw) =
    codes "data " ++ (raw.name ++ (parameters_text S raw.parameters ++ (codes " : " ++ (term_text S raw.type ++ (codes " {" ++ (constructors_text S (codes " ") raw.constructors ++ codes " }\n"))))))
grouped S (RawEliminator g m) = codes "elim " ++ (name_at S g ++ (codes " " ++ (decimal m ++ codes "\n")))
grouped S (RawAxiomK i m) = codes "axiomk " ++ (decimal i ++ (codes " " ++ (decimal m ++ codes "\n")))
grouped S (RawDefinition name type body) = codes "def " ++ (name ++ (codes " : " ++ (term_text S type ++ (codes " = " ++ (term_text S body ++ codes "\n")))))

pub grouped-is : (S : Signature) (raw : RawEntry) → grouped S raw ≡ line_text S raw
grouped-is S (RawFamilyOf raw) = simp append_assoc
grouped-is S (RawEliminator g m) = simp append_assoc
grouped-is S (RawAxiomK i m) = simp append_assoc
grouped-is S (RawDefinition name type body) = simp append_assoc

-- after the entries S
abbrev pub grouped_line : Signature → RawEntry → List ℕ
grouped_line S (RawFamilyOf raw) = grouped (with_name S raw.name) (RawFamilyOf raw)
grouped_line S raw = grouped S raw

pub grouped_line-is : (S : Signature) (raw : RawEntry) → grouped_line S raw ≡ raw_line S raw
grouped_line-is S (RawFamilyOf raw) = grouped-is (with_name S raw.name) (RawFamilyOf raw)
grouped_line-is S (RawEliminator g m) = grouped-is S (RawEliminator g m)
grouped_line-is S (RawAxiomK i m) = grouped-is S (RawAxiomK i m)
grouped_line-is S (RawDefinition name type body) = grouped-is S (RawDefinition name type body)
