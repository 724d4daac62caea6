-- Codes of terms, families and signatures, by which a proof distinguishes their values.
use Rattle.std.specs.Prelude.{◌≡◌, ◌⊎◌, ℕ, zero, suc, Bool, List, refl}
use Rattle.std.specs.Coded.{Coded, code_by, coded_ℕ, coded_bool, coded_list, coded×, coded⊎}
use base.Stored.{Gv, gnum, gcons, num}
use denote.Struct.Codes.{itself}
use mathlib.Core.Logic.{inl, inr}
use mathlib.Core.Path.{ap₂}
use Rattle.theory.specs.Terms.{Term, Var, Sort, Pi, Lam, App, Let, Const, Fam, Con, Elim, AxiomK}
use Rattle.theory.specs.Families.{Argument, Plain, Recursive, Constructor, Family}
use Rattle.theory.specs.Signatures.{Entry, FamilyOf, EliminatorAt, AxiomKAt, Definition, Signature}

-- a term as a tree of numbers: a tag, then a number, two terms, or for a symbol of two numbers a tag of another shape
abbrev tree_of : Term → Gv
tree_of (Var n) = gcons (gnum 0) (gnum n)
tree_of (Sort i) = gcons (gnum 1) (gnum i)
tree_of (Const c) = gcons (gnum 2) (gnum c)
tree_of (Fam f) = gcons (gnum 3) (gnum f)
tree_of (Pi a b) = gcons (gnum 0) (gcons (tree_of a) (tree_of b))
tree_of (Lam a b) = gcons (gnum 1) (gcons (tree_of a) (tree_of b))
tree_of (App f a) = gcons (gnum 2) (gcons (tree_of f) (tree_of a))
tree_of (Let a t b) = gcons (gnum 3) (gcons (tree_of a) (gcons (gnum 0) (gcons (tree_of t) (tree_of b))))
tree_of (Con f c) = gcons (gcons (gnum 0) (gnum f)) (gnum c)
tree_of (Elim f m) = gcons (gcons (gnum 1) (gnum f)) (gnum m)
tree_of (AxiomK i m) = gcons (gcons (gnum 2) (gnum i)) (gnum m)

abbrev leaf : ℕ → ℕ → Term
leaf zero n = Var n
leaf (suc zero) n = Sort n
leaf (suc (suc zero)) n = Const n
leaf _ n = Fam n

-- the parts of a `let` after its type are held as a product
abbrev let_of : Term → Term → Term
let_of a (Pi t b) = Let a t b
let_of a _ = a

abbrev branch : ℕ → Term → Term → Term
branch zero a b = Pi a b
branch (suc zero) a b = Lam a b
branch (suc (suc zero)) a b = App a b
branch _ a b = let_of a b

abbrev symbol : ℕ → ℕ → ℕ → Term
symbol zero m n = Con m n
symbol (suc zero) m n = Elim m n
symbol _ m n = AxiomK m n

abbrev term_of : Gv → Term
term_of (gcons (gnum tag) (gnum n)) = leaf tag n
term_of (gcons (gnum tag) (gcons a b)) = branch tag (term_of a) (term_of b)
term_of (gcons (gcons tag m) n) = symbol (num tag) (num m) (num n)
term_of _ = Sort 0

pub term_of-tree_of : (t : Term) → term_of (tree_of t) ≡ t
term_of-tree_of (Pi a b) = ap₂ Pi (term_of-tree_of a) (term_of-tree_of b)
term_of-tree_of (Lam a b) = ap₂ Lam (term_of-tree_of a) (term_of-tree_of b)
term_of-tree_of (App f a) = ap₂ App (term_of-tree_of f) (term_of-tree_of a)
term_of-tree_of (Let a t b) = ap₂ let_of (term_of-tree_of a) (ap₂ Pi (term_of-tree_of t) (term_of-tree_of b))
term_of-tree_of (Var n) = refl
term_of-tree_of (Sort i) = refl
term_of-tree_of (Const c) = refl
term_of-tree_of (Fam f) = refl
term_of-tree_of (Con f c) = refl
term_of-tree_of (Elim f m) = refl
term_of-tree_of (AxiomK i m) = refl

abbrev pub term_code : Coded Term
term_code = code_by Gv itself tree_of term_of term_of-tree_of

abbrev PlainParts : Type 0
PlainParts = Term × ℕ

abbrev RecursiveParts : Type 0
RecursiveParts = List Term × (List Term × ℕ)

abbrev argument_parts : Argument → PlainParts ⊎ RecursiveParts
argument_parts (Plain type level) = inl (type, level)
argument_parts (Recursive inner targets level) = inr (inner, (targets, level))

abbrev argument_from : PlainParts ⊎ RecursiveParts → Argument
argument_from (inl p) = Plain p.0 p.1
argument_from (inr p) = Recursive p.0 p.1.0 p.1.1

pub argument_from-parts : (a : Argument) → argument_from (argument_parts a) ≡ a
argument_from-parts (Plain type level) = refl
argument_from-parts (Recursive inner targets level) = refl

abbrev argument_code : Coded Argument
argument_code =
    code_by (PlainParts ⊎ RecursiveParts)
    (coded⊎ (coded× term_code coded_ℕ) (coded× (coded_list term_code) (coded× (coded_list term_code) coded_ℕ)))
    argument_parts argument_from argument_from-parts

abbrev constructor_code : Coded Constructor
constructor_code =
    code_by (List ℕ × (List Argument × List Term))
    (coded× (coded_list coded_ℕ) (coded× (coded_list argument_code) (coded_list term_code)))
    (λ c. (c.name, (c.arguments, c.targets)))
    (λ p. record { name = p.0; arguments = p.1.0; targets = p.1.1 })
    (λ _. refl)

abbrev pub family_code : Coded Family
family_code =
    code_by (List ℕ × (List Term × (List (Term × ℕ) × (ℕ × List Constructor))))
    (coded× (coded_list coded_ℕ) (coded× (coded_list term_code) (coded× (coded_list (coded× term_code coded_ℕ)) (coded× coded_ℕ (coded_list constructor_code)))))
    (λ f. (f.name, (f.parameters, (f.indices, (f.level, f.constructors)))))
    (λ p. record { name = p.0; parameters = p.1.0; indices = p.1.1.0; level = p.1.1.1.0; constructors = p.1.1.1.1 })
    (λ _. refl)

abbrev EntryParts : Type 0
EntryParts = Family ⊎ ((ℕ × ℕ) ⊎ ((ℕ × ℕ) ⊎ (List ℕ × (Term × Term))))

abbrev entry_parts : Entry → EntryParts
entry_parts (FamilyOf f) = inl f
entry_parts (EliminatorAt n m) = inr (inl (n, m))
entry_parts (AxiomKAt i m) = inr (inr (inl (i, m)))
entry_parts (Definition name type body) = inr (inr (inr (name, (type, body))))

abbrev entry_from : EntryParts → Entry
entry_from (inl f) = FamilyOf f
entry_from (inr (inl p)) = EliminatorAt p.0 p.1
entry_from (inr (inr (inl p))) = AxiomKAt p.0 p.1
entry_from (inr (inr (inr p))) = Definition p.0 p.1.0 p.1.1

pub entry_from-parts : (e : Entry) → entry_from (entry_parts e) ≡ e
entry_from-parts (FamilyOf f) = refl
entry_from-parts (EliminatorAt n m) = refl
entry_from-parts (AxiomKAt i m) = refl
entry_from-parts (Definition name type body) = refl

abbrev pub entry_code : Coded Entry
entry_code =
    code_by EntryParts
    (coded⊎ family_code (coded⊎ (coded× coded_ℕ coded_ℕ) (coded⊎ (coded× coded_ℕ coded_ℕ) (coded× (coded_list coded_ℕ) (coded× term_code term_code)))))
    entry_parts entry_from entry_from-parts

abbrev pub signature_code : Coded Signature
signature_code =
    code_by (List Entry × Bool) (coded× (coded_list entry_code) coded_bool) (λ s. (s.entries, s.has_k))
    (λ p. record { entries = p.0; has_k = p.1 }) (λ _. refl)
