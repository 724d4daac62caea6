-- Scoping of drafts: the numbers of their terms stand for entries of a signature or for names.
use Rattle.std.specs.Prelude.{◌≡◌, ◌⊎◌, Some, ℕ, ◌+◌, ◌≤◌, ◌<◌, List}
use Rattle.theory.specs.Terms.{Term, Pi, Lam, App, Let, Const, Fam, Con, Elim, free_of}
use Rattle.theory.specs.Signatures.{Signature}
use Rattle.theory.specs.SignatureScopes.{IsConstantNumber, IsConstructorNumber, IsFamilyNumber}
use Rattle.core_sig.specs.Names.{find}
use Rattle.core_sig.specs.declared.entry.Found.TheVariants.{Entry}

-- the constant is an entry of T and below `base`, or from there on one of `count` names
abbrev pub IsDraftNumber : Signature → ℕ → ℕ → ℕ → Type 0
IsDraftNumber T base count c = ((c < base) × IsConstantNumber T c) ⊎ ((base ≤ c) × (c < base + count))

-- each constant is an entry or a name of the draft, and each family and constructor number has its entry in T
abbrev pub HasDraftEntries : Signature → ℕ → ℕ → Term → Type 0
HasDraftEntries T base count (Pi a b) = HasDraftEntries T base count a × HasDraftEntries T base count b
HasDraftEntries T base count (Lam a b) = HasDraftEntries T base count a × HasDraftEntries T base count b
HasDraftEntries T base count (App f a) = HasDraftEntries T base count f × HasDraftEntries T base count a
HasDraftEntries T base count (Let a t b) =
    HasDraftEntries T base count a × HasDraftEntries T base count t × HasDraftEntries T base count b
HasDraftEntries T base count (Const c) = IsDraftNumber T base count c
HasDraftEntries T base count (Fam n) = IsFamilyNumber T n
HasDraftEntries T base count (Con n c) = IsConstructorNumber T n c
HasDraftEntries T base count (Elim n m) = IsFamilyNumber T n
HasDraftEntries T base count _ = Unit {0}

-- a term of a draft over n variables
pub record IsDraftTerm (T : Signature) (base count n : ℕ) (t : Term) : Type 0 where
  pub variables : free_of t ≤ n
  pub entries : HasDraftEntries T base count t

-- in S the name stands for an entry that is a constant of T
abbrev pub NamesConstant : (S T : Signature) → List ℕ → Type 0
NamesConstant S T name = (n : ℕ) × (find S name ≡ Some (Entry n)) × IsConstantNumber T n
