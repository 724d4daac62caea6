-- Entries that the conditions of well-formed signatures refuse.
use Rattle.std.proofs.Common.{◌≡◌, ◌≢◌, ℕ, true, false, List, [], ◌∷◌, length, refl, arith, sym, ◌∙◌, true≢false, lit<, AllPairs, ◌<◌, map, ap, subst, subst₂}
use Rattle.std.proofs.Math.Seq.{take-append_seam}
use Rattle.std.proofs.lemmas.Option.{slice_get_within}
use Rattle.theory.specs.Terms.{Term, Const, top}
use Rattle.theory.specs.Telescopes.{Context, Telescope}
use Rattle.theory.specs.Families.{Family, Constructor, Plain, Recursive, level_of}
use Rattle.theory.specs.Signatures.{Signature, Entry, FamilyOf, Definition, TypeOf, constant, names}
use Rattle.theory.specs.Conversion.{IsIotaRedex}
use Rattle.theory.specs.Typing.{Has, symbol, below, below_sort}
use Rattle.theory.specs.WellFormed.{IsFamily, IsEliminator, IsAxiomK, IsEntry, IsWellFormed, HasLevels, HasTargets, none, more, provisional, first_entries, family, eliminator, axiom_k, definition}
use Rattle.theory.proofs.Lists.{slice_get-last}
use Rattle.theory.proofs.Examples.Forms.{const_number, type_same, body_same}
use Rattle.theory.proofs.Examples.Sample.{nat, suc_constructor, nat_family, vec_family, defined}

-- K where it is off
k_off : (S : Signature) (i m : ℕ) → S.has_k ≡ false → IsAxiomK S i m → ⊥
k_off S i m off h = true≢false (sym h.on ∙ off)

-- K where another family occurs in the place of Eq.0
k_elsewhere : (m : ℕ) → IsAxiomK (record { entries = FamilyOf nat_family ∷ FamilyOf nat_family ∷ []; has_k = true }) 0 m → ⊥
k_elsewhere m h = grind (arith, h.identity.entry)

-- an eliminator into `Type top`
eliminator_into_top : (S : Signature) (n : ℕ) (f : Family) → IsEliminator S n top f → ⊥
eliminator_into_top S n f h = let lt = h.level in omega arith

-- an instance that is already there
instance_twice : IsEliminator defined nat 0 nat_family → ⊥
instance_twice h = h.new (5, lit< tt, refl)

first_same : {i j : ℕ} {is js : List ℕ} → i ∷ is ≡ j ∷ js → i ≡ j
first_same e = cc

levels_above : {S : Signature} {l : ℕ} {G : Context} {tele : Telescope} {levels : List ℕ} → HasLevels S l G tele levels
    → (i : ℕ) (rest : List ℕ) → levels ≡ i ∷ rest → l < i → ⊥
levels_above none i rest e lt = grind arith
levels_above (more {i = j} {levels = js} t le h) i rest e lt = let same : j ≡ i = first_same e in omega arith

-- a family of Type 0 that keeps level 1 for an argument
big_level : (S : Signature) (name : List ℕ) (c : Constructor) → (type : Term) → c.arguments ≡ Plain type 1 ∷ []
    → IsFamily S (record { name = name; parameters = []; indices = []; level = 0; constructors = c ∷ [] }) → ⊥
big_level S name c type e h = levels_above (h.constructors 0 c (lit< tt)).levels 1 [] (ap (map level_of) e) (lit< tt)

-- a recursive argument of Vec without an index
no_index : HasTargets vec_family (Recursive [] [] 0) → ⊥
no_index e = grind arith

-- an eliminator at a constructor that lacks its argument is no redex
partial : (ms : List Term) → IsIotaRedex nat_family suc_constructor [] ms [] [] [] → ⊥
partial ms h = let e = h.arguments in omega arith

-- one name twice
name_twice : (S : Signature) (s : List ℕ) → names S ≡ s ∷ s ∷ [] → IsWellFormed S → ⊥
name_twice S s e h = subst (AllPairs (λ x y. x ≢ y)) e h.distinct 0 1 s (lit< tt) (lit< tt) refl

-- a provisional end: its body has no type over the signature before it
no_symbol : (S : Signature) (t a : Term) → TypeOf S t a → t ≡ Const (length S.entries) → ⊥
no_symbol S t a (constant n at) e =
    let number = const_number e in
    let within = slice_get_within S.entries n _ at in
    omega arith
no_symbol S t a _ e = grind arith

no_body : (S : Signature) (G : Context) (t a : Term) → Has S G t a → t ≡ Const (length S.entries) → ⊥
no_body S G t a (symbol c s) e = no_symbol S t a s e
no_body S G t a (below i h b k) e = no_body S G t _ h e
no_body S G t a (below_sort i h b) e = no_body S G t _ h e
no_body S G t a _ e = grind arith

body_has : {T : Signature} {e : Entry} {name : List ℕ} {type body : Term} → IsEntry T e → e ≡ Definition name type body → Has T [] body type
body_has (family f) e = grind arith
body_has (eliminator f h) e = grind arith
body_has (axiom_k h) e = grind arith
body_has {T = T} (definition d) e = subst₂ (λ t b. Has T [] b t) (type_same e) (body_same e) d.body_type

provisional_is_not_well_formed : (S : Signature) (name : List ℕ) (type : Term) → IsWellFormed (provisional S name type) → ⊥
provisional_is_not_well_formed S name type h =
    let n = length S.entries in
    let e = Definition name type (Const n) in
    let entry = h.each n e (slice_get-last S.entries e) in
    no_body (first_entries (provisional S name type) n) [] (Const n) type (body_has entry refl)
    (ap Const (sym (ap length (take-append_seam S.entries (e ∷ [])))))
