-- The entries that keep a signature open, and the well-formed signatures that are open.
use Rattle.std.proofs.Common.{◌≢◌, ℕ, List, [], ◌∷◌, length, All, refl, sym, ap, subst as transport, inl, arith}
use Rattle.std.proofs.lemmas.List.Elements.{All-append, All-cons, All-head, All-tail, All-nil}
use Rattle.std.proofs.lemmas.Option.{slice_get_within}
use Rattle.theory.specs.Terms.{Term}
use Rattle.theory.specs.Terms.Term.{Const}
use Rattle.theory.specs.Families.{Family}
use Rattle.theory.specs.Prelude.{prelude}
use Rattle.theory.specs.Signatures.{Signature, Entry, FamilyOf, EliminatorAt, AxiomKAt, Definition}
use Rattle.theory.specs.SignatureScopes.{IsConstantNumber, IsScoped, IsScopedEntry}
use Rattle.theory.specs.WellFormed.{IsWellFormed, pushed}
use Rattle.theory.proofs.Pushing.{prefix_transitive, push_is_longer}
use Rattle.kernel_reduce.proofs.WellFormedScopes.{well_formed-scoped, well_formed-whole}
use Rattle.family_check.specs.Scopes.{HasPrelude, IsSettled}
use Rattle.family_check.proofs.Settling.{push-settled, first-all}
use Rattle.drafts.specs.draft_entering.Conditions.{IsNoFamily, IsOpen}
use Rattle.drafts.specs.draft_entering.FreeNames.{HasUnmarkedNames}
use Rattle.drafts.proofs.draft_entering.Longer.{open-longer}
use Rattle.drafts.proofs.draft_entering.Entered.{pushed-longer}
use Rattle.drafts.proofs.draft_entering.UnmarkedNames.{names-free}
use Rattle.drafts.specs.entering_laws.Laws.{IsUnmarked, DefinitionKeepsOpen, FamilyKeepsOpen, NamesStayUnmarked, WellFormedIsOpen}

-- ---- definitions

body_of : Entry → Term
body_of (Definition name type body) = body
body_of e = Const 0

-- a term that is scoped over S does not name the entry after those of S
not-next : (S : Signature) → ¬ IsScoped S 0 (Const (length S.entries))
not-next S h =
    let there : IsConstantNumber S (length S.entries) = h.entries in
    let low = slice_get_within S.entries (length S.entries) _ there.3 in
    omega arith

own-body : (S : Signature) (name : List ℕ) (type body : Term) → IsScoped S 0 body
    → (own : List ℕ) (other : Term) → Definition name type body ≢ Definition own other (Const (length S.entries))
unfolding body_of
own-body S name type body h own other e = not-next S (transport (IsScoped S 0) (ap body_of e) h)

definition-scoped : (S : Signature) (name : List ℕ) (type body : Term) → IsScoped S 0 type → IsScoped S 0 body
    → IsScopedEntry (pushed S (Definition name type body)) (length S.entries) (Definition name type body)
definition-scoped S name type body h k =
    let before = first-all S (Definition name type body) in
    (transport (λ T. IsScoped T 0 type) before h, inl (transport (λ T. IsScoped T 0 body) before k))

pub definition-keeps : DefinitionKeepsOpen
definition-keeps S name type body is h k =
    let e = Definition name type body in
    open-longer S (pushed S e) (pushed-longer S (pushed S e) name type body refl)
    (push-settled S e is.settled (definition-scoped S name type body h k) (own-body S name type body k)) is

-- ---- families

IsFamilyEntry : Entry → Type 0
IsFamilyEntry (FamilyOf f) = Unit {0}
IsFamilyEntry e = ⊥

other-entry : (f : Family) (name : List ℕ) (type body : Term) → FamilyOf f ≢ Definition name type body
unfolding IsFamilyEntry
other-entry f name type body e = transport IsFamilyEntry e tt

prelude-pushed : (S : Signature) (e : Entry) → HasPrelude S → HasPrelude (pushed S e)
prelude-pushed S e h = prefix_transitive (prelude S.has_k) S (pushed S e) h (push_is_longer S e)

one : (e : Entry) → HasUnmarkedNames e → All HasUnmarkedNames (e ∷ [])
one e h = All-cons HasUnmarkedNames e [] h (All-nil HasUnmarkedNames)

pub family-opens : (S : Signature) (f : Family) → IsOpen S → IsUnmarked S → HasUnmarkedNames (FamilyOf f) → IsSettled (pushed S (FamilyOf f))
    → IsOpen (pushed S (FamilyOf f)) × IsUnmarked (pushed S (FamilyOf f))
family-opens S f is unmarked own settled = (
  record { settled = settled; prelude = prelude-pushed S (FamilyOf f) is.prelude; tabled = names-free (pushed S (FamilyOf f)) all },
  all,
)
  where
    all : IsUnmarked (pushed S (FamilyOf f))
    all = All-append HasUnmarkedNames S.entries (FamilyOf f ∷ []) unmarked (one (FamilyOf f) own)

pub family-keeps : FamilyKeepsOpen
family-keeps S f is unmarked own scoped =
    family-opens S f is unmarked own
    (push-settled S (FamilyOf f) is.settled scoped (λ name type. other-entry f name type (Const (length S.entries))))

-- ---- names

plain-unmarked : (e : Entry) → IsNoFamily e → HasUnmarkedNames e
plain-unmarked (FamilyOf f) h = absurd (h f refl)
plain-unmarked (EliminatorAt n m) h = tt
plain-unmarked (AxiomKAt i m) h = tt
plain-unmarked (Definition name type body) h = tt

all-plain : (entries : List Entry) → All IsNoFamily entries → All HasUnmarkedNames entries
all-plain [] h = All-nil HasUnmarkedNames
all-plain (e ∷ entries) h =
    All-cons HasUnmarkedNames e entries (plain-unmarked e (All-head IsNoFamily e entries h)) (all-plain entries (All-tail IsNoFamily e entries h))

pub names-stay : NamesStayUnmarked
names-stay S T h unmarked =
    transport (All HasUnmarkedNames) (sym h.entries) (All-append HasUnmarkedNames S.entries h.more unmarked (all-plain h.more h.plain))

-- ---- well-formed signatures

pub well_formed-settled : (S : Signature) → IsWellFormed S → IsSettled S
well_formed-settled S h = record {
  scoped = well_formed-scoped S h;
  bodies = λ n name type at. well_formed-whole S h n name type (Const n) at refl;
}

pub well_formed-open : WellFormedIsOpen
well_formed-open S h p unmarked = record { settled = well_formed-settled S h; prelude = p; tabled = names-free S unmarked }
