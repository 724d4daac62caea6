-- Properties of a signature that one keeps which goes on with entries that are no families.
use Rattle.std.proofs.Common.{◌≡◌, ◌⊎◌, inl, inr, ℕ, zero, suc, ◌+◌, ◌-◌, Bool, true, false, cond, Option, Some, None, List, [], ◌∷◌, ◌++◌, length, take, get_or, slice_get, bytes_eq, All, refl, sym, ap, ◌∙◌, subst as transport, arith, append_assoc}
use Rattle.std.specs.Map.{lookup}
use Rattle.std.proofs.lemmas.Option.{none-some}
use Rattle.std.proofs.lemmas.List.{append-nil, take_at}
use Rattle.std.proofs.lemmas.Slice.Eq.{bytes_eq-Decides}
use Rattle.std.proofs.lemmas.List.Elements.{All-append, All-head, All-tail, All-nil}
use Rattle.theory.specs.Terms.{Term, Var, Sort, Pi, Lam, App, Let, Const, Fam, Con, Elim, AxiomK, free_of}
use Rattle.theory.specs.Prelude.{prelude}
use Rattle.theory.specs.Signatures.{Signature, Entry, FamilyOf, EliminatorAt, AxiomKAt, Definition, IsPrefix}
use Rattle.theory.specs.SignatureScopes.{IsConstantNumber}
use Rattle.theory.specs.WellFormed.{pushed, first_entries}
use Rattle.theory.proofs.Lists.{slice_get-last, slice_get-longer, slice_get-append_right, some_is}
use Rattle.theory.proofs.Pushing.{prefix_transitive}
use Rattle.core_sig.specs.DraftScopes.{HasDraftEntries}
use Rattle.core_sig.specs.Names.{find, named}
use Rattle.core_sig.specs.declared.entry.Found.{Found}
use Rattle.core_sig.specs.declared.entry.Found.TheVariants.{Entry as FoundEntry}
use Rattle.core_sig.proofs.NameLists.{named-append}
use Rattle.core_sig.proofs.PlacedDrafts.{draft-longer}
use Rattle.family_check.specs.Scopes.{HasPrelude, IsSettled}
use Rattle.clause_reports.specs.Generated.{generated_by, of_entry, of_entries, of_identities, is_generated, name_of}
use Rattle.std.specs.List.{filter, find as first_in}
use Rattle.drafts.specs.draft_entering.Conditions.{IsDefined, IsGeneratedName, IsTabled, IsOpen, IsEnterable, IsNoFamily, Extends, IsEnterableTerm, HasDefined}

abbrev IsDefinitionOrNone : Entry → Type 0
IsDefinitionOrNone (FamilyOf f) = ⊥
IsDefinitionOrNone e = Unit {0}

-- ---- the relation

pub extends-same : (S : Signature) → Extends S S
extends-same S = record { more = []; entries = sym (append-nil S.entries); has_k = refl; plain = All-nil IsNoFamily }

pub extends-on : (S T U : Signature) → Extends S T → Extends T U → Extends S U
extends-on S T U h k = record {
  more = h.more ++ k.more;
  entries = k.entries ∙ ap (λ l. l ++ k.more) h.entries ∙ append_assoc S.entries h.more k.more;
  has_k = k.has_k ∙ h.has_k;
  plain = All-append IsNoFamily h.more k.more h.plain k.plain;
}

only-plain : (e : Entry) → IsNoFamily e → All IsNoFamily (e ∷ [])
only-plain e h zero d lt = h
only-plain e h (suc k) d lt = absurd (omega arith)

pub extends-push : (S : Signature) (e : Entry) → IsNoFamily e → Extends S (pushed S e)
extends-push S e h = record { more = e ∷ []; entries = refl; has_k = refl; plain = only-plain e h }

pub extends-prefix : (S T : Signature) → Extends S T → IsPrefix S T
extends-prefix S T h = record { more = h.more; entries = h.entries; has_k = h.has_k }

-- T without the further entries is S
pub cut-back : (S T : Signature) (n : ℕ) → Extends S T → n ≡ length S.entries → first_entries T n ≡ S
cut-back S T n h is = λ i. record {
  entries = (ap (λ l. take n l) h.entries ∙ take_at S.entries h.more n (sym is)) i;
  has_k = h.has_k i;
}

-- ---- names

pub lookup-some : (name : List ℕ) (xs ys : List (List ℕ × Found)) (f : Found) → lookup (bytes_eq name) xs ≡ Some f → lookup (bytes_eq name) (xs ++ ys) ≡ Some f
lookup-some name [] ys f e = absurd (none-some f e)
lookup-some name (x ∷ xs) ys f e = by (bytes_eq name x.0) (lookup-some name xs ys f) e
  where
    by : (b : Bool) → (lookup (bytes_eq name) xs ≡ Some f → lookup (bytes_eq name) (xs ++ ys) ≡ Some f)
        → cond b (Some x.1) (lookup (bytes_eq name) xs) ≡ Some f → cond b (Some x.1) (lookup (bytes_eq name) (xs ++ ys)) ≡ Some f
    by true rest h = h
    by false rest h = rest h

lookup-none : (name : List ℕ) (xs ys : List (List ℕ × Found)) → lookup (bytes_eq name) xs ≡ None → lookup (bytes_eq name) (xs ++ ys) ≡ lookup (bytes_eq name) ys
lookup-none name [] ys e = refl
lookup-none name (x ∷ xs) ys e = by (bytes_eq name x.0) (lookup-none name xs ys) e
  where
    by : (b : Bool) → (lookup (bytes_eq name) xs ≡ None → lookup (bytes_eq name) (xs ++ ys) ≡ lookup (bytes_eq name) ys)
        → cond b (Some x.1) (lookup (bytes_eq name) xs) ≡ None → cond b (Some x.1) (lookup (bytes_eq name) (xs ++ ys)) ≡ lookup (bytes_eq name) ys
    by true rest h = absurd (none-some x.1 (sym h))
    by false rest h = rest h

find-parts : (S T : Signature) (h : Extends S T) (name : List ℕ) → find T name ≡ lookup (bytes_eq name) (named 0 S.entries ++ named (length S.entries) h.more)
find-parts S T h name =
    ap (λ l. lookup (bytes_eq name) (named 0 l)) h.entries ∙ ap (lookup (bytes_eq name)) (named-append 0 S.entries h.more)
    ∙ ap (λ k. lookup (bytes_eq name) (named 0 S.entries ++ named k h.more)) (omega arith)

pub find-longer : (S T : Signature) → Extends S T → (name : List ℕ) (f : Found) → find S name ≡ Some f → find T name ≡ Some f
find-longer S T h name f e = find-parts S T h name ∙ lookup-some name (named 0 S.entries) (named (length S.entries) h.more) f e

-- a name that is found among entries that are no families is that of a definition
pub record IsNamedAt (entries : List Entry) (k : ℕ) (f : Found) : Type 0 where
  pub place : ℕ
  pub number : f ≡ FoundEntry (k + place)
  pub name : List ℕ
  pub type : Term
  pub body : Term
  pub there : slice_get entries place ≡ Some (Definition name type body)

pub later : (e : Entry) (entries : List Entry) (k : ℕ) (f : Found) → IsNamedAt entries (k + 1) f → IsNamedAt (e ∷ entries) k f
later e entries k f h = record {
  place = suc h.place;
  number = h.number ∙ ap FoundEntry (omega arith);
  name = h.name;
  type = h.type;
  body = h.body;
  there = h.there;
}

named-plain : (entries : List Entry) → All IsNoFamily entries → (k : ℕ) (name : List ℕ) (f : Found) → lookup (bytes_eq name) (named k entries) ≡ Some f → IsNamedAt entries k f
named-plain [] plain k name f e = absurd (none-some f e)
named-plain (FamilyOf g ∷ entries) plain k name f e = absurd (All-head IsNoFamily (FamilyOf g) entries plain g refl)
named-plain (EliminatorAt n m ∷ entries) plain k name f e =
    later (EliminatorAt n m) entries k f (named-plain entries (All-tail IsNoFamily (EliminatorAt n m) entries plain) (k + 1) name f e)
named-plain (AxiomKAt i m ∷ entries) plain k name f e =
    later (AxiomKAt i m) entries k f (named-plain entries (All-tail IsNoFamily (AxiomKAt i m) entries plain) (k + 1) name f e)
named-plain (Definition own type body ∷ entries) plain k name f e =
    by (bytes_eq name own) (λ h. named-plain entries (All-tail IsNoFamily (Definition own type body) entries plain) (k + 1) name f h) e
  where
    by : (b : Bool) → (lookup (bytes_eq name) (named (k + 1) entries) ≡ Some f → IsNamedAt entries (k + 1) f)
        → cond b (Some (FoundEntry k)) (lookup (bytes_eq name) (named (k + 1) entries)) ≡ Some f → IsNamedAt (Definition own type body ∷ entries) k f
    by true rest h = record {
      place = zero;
      number = sym (some_is h) ∙ ap FoundEntry (omega arith);
      name = own;
      type = type;
      body = body;
      there = refl;
    }
    by false rest h = later (Definition own type body) entries k f (rest h)

pub find-plain : (S T : Signature) → Extends S T → (name : List ℕ) → find S name ≡ None → (find T name ≡ None) ⊎ IsDefined T name
find-plain S T h name e = by (lookup (bytes_eq name) (named (length S.entries) h.more)) refl
  where
    whole : find T name ≡ lookup (bytes_eq name) (named (length S.entries) h.more)
    whole = find-parts S T h name ∙ lookup-none name (named 0 S.entries) (named (length S.entries) h.more) e

    by : (o : Option Found) → lookup (bytes_eq name) (named (length S.entries) h.more) ≡ o → (find T name ≡ None) ⊎ IsDefined T name
    by None is = inl (whole ∙ is)
    by (Some f) is =
        let at = named-plain h.more h.plain (length S.entries) name f is in
        inr (
          length S.entries + at.place,
          whole ∙ is ∙ ap Some at.number,
          (at.name, at.type, at.body, ap (λ l. slice_get l (length S.entries + at.place)) h.entries ∙ slice_get-append_right S.entries h.more at.place ∙ at.there),
        )

pub constant-longer : (S T : Signature) → Extends S T → (n : ℕ) → IsConstantNumber S n → IsConstantNumber T n
constant-longer S T h n (name, type, body, at) =
    (name, type, body, ap (λ l. slice_get l n) h.entries ∙ slice_get-longer S.entries h.more n (Definition name type body) at)

pub defined-longer : (S T : Signature) → Extends S T → (name : List ℕ) → IsDefined S name → IsDefined T name
defined-longer S T h name (n, found, is) = (n, find-longer S T h name (FoundEntry n) found, constant-longer S T h n is)

-- the name of a definition that is pushed
pub pushed-defined : (S : Signature) (name : List ℕ) (type body : Term) → find S name ≡ None → IsDefined (pushed S (Definition name type body)) name
unfolding extends-push
pushed-defined S name type body none = (
  length S.entries,
  find-parts S (pushed S (Definition name type body)) pushed-on name
      ∙ lookup-none name (named 0 S.entries) ((name, FoundEntry (length S.entries)) ∷ []) none
      ∙ ap (λ b. cond b (Some (FoundEntry (length S.entries))) None) ((bytes_eq-Decides name name).1 refl),
  (name, type, body, slice_get-last S.entries (Definition name type body)),
)
  where
    pushed-on : Extends S (pushed S (Definition name type body))
    pushed-on = extends-push S (Definition name type body) (λ f is. transport IsDefinitionOrNone is tt)

-- ---- generated entries

plain-none : (entries : List Entry) → All IsNoFamily entries → (k : ℕ) → of_entries k entries ≡ []
plain-none [] plain k = refl
plain-none (FamilyOf g ∷ entries) plain k = absurd (All-head IsNoFamily (FamilyOf g) entries plain g refl)
plain-none (EliminatorAt n m ∷ entries) plain k = plain-none entries (All-tail IsNoFamily (EliminatorAt n m) entries plain) (k + 1)
plain-none (AxiomKAt i m ∷ entries) plain k = plain-none entries (All-tail IsNoFamily (AxiomKAt i m) entries plain) (k + 1)
plain-none (Definition own type body ∷ entries) plain k = plain-none entries (All-tail IsNoFamily (Definition own type body) entries plain) (k + 1)

plain-more : (k : ℕ) (entries more : List Entry) → All IsNoFamily more → of_entries k (entries ++ more) ≡ of_entries k entries
plain-more k [] more plain = plain-none more plain k
plain-more k (e ∷ entries) more plain = ap (λ l. of_entry k e ++ l) (plain-more (k + 1) entries more plain)

pub generated-longer : (S T : Signature) → Extends S T → (name : List ℕ) → generated_by T name ≡ generated_by S name
generated-longer S T h name =
    ap (λ l. first_in (λ g. bytes_eq (name_of g) name) (filter is_generated (l ++ of_identities)))
    (ap (of_entries 0) h.entries ∙ plain-more 0 S.entries h.more h.plain)

pub named-longer : (S T : Signature) → Extends S T → (name : List ℕ) → IsGeneratedName S name → IsGeneratedName T name
named-longer S T h name (g, is) = (g, generated-longer S T h name ∙ is)

tabled-longer : (S T : Signature) → Extends S T → IsTabled S → IsTabled T
tabled-longer S T h tabled name (g, is) = elim (tabled name (g, sym (generated-longer S T h name) ∙ is)) [
  | inl none ↦ find-plain S T h name none
  | inr there ↦ inr (defined-longer S T h name there)
]

-- ---- the conditions of a draft

prelude-longer : (S T : Signature) → Extends S T → HasPrelude S → HasPrelude T
prelude-longer S T h p =
    transport (λ k. IsPrefix (prelude k) T) (sym h.has_k) (prefix_transitive (prelude S.has_k) S T p (extends-prefix S T h))

pub open-longer : (S T : Signature) → Extends S T → IsSettled T → IsOpen S → IsOpen T
open-longer S T h settled is = record {
  settled = settled;
  prelude = prelude-longer S T h is.prelude;
  tabled = tabled-longer S T h is.tabled;
}

pub enterable-longer : (S T : Signature) → Extends S T → (name : List ℕ) → IsEnterable S name → IsEnterable T name
enterable-longer S T h name (inl there) = inl (defined-longer S T h name there)
enterable-longer S T h name (inr made) = inr (named-longer S T h name made)

pub names-longer : (S T : Signature) → Extends S T → (names : List (List ℕ)) → All (IsEnterable S) names → All (IsEnterable T) names
names-longer S T h names all k d lt = enterable-longer S T h (get_or names k d) (all k d lt)

pub entries-longer : (S T : Signature) → Extends S T → (base count : ℕ) (t : Term) → HasDraftEntries S base count t → HasDraftEntries T base count t
entries-longer S T h base count t is =
    (draft-longer (extends-prefix S T h) {base = base} {count = count} {n = free_of t} {t = t} (record { variables = omega arith; entries = is })).entries

pub term-longer : (S T : Signature) (base : ℕ) (names : List (List ℕ)) (t : Term) → Extends S T → IsSettled T
    → IsEnterableTerm S base names t → IsEnterableTerm T base names t
term-longer S T base names t h settled is = record {
  signature = open-longer S T h settled is.signature;
  enterable = names-longer S T h names is.enterable;
  entries = entries-longer S T h base (length names) t is.entries;
}

pub has-longer : (S T : Signature) (base : ℕ) (names : List (List ℕ)) (t : Term) → Extends S T → HasDefined S base names t → HasDefined T base names t
has-longer S T base names (Pi a b) h (x, y) = (has-longer S T base names a h x, has-longer S T base names b h y)
has-longer S T base names (Lam a b) h (x, y) = (has-longer S T base names a h x, has-longer S T base names b h y)
has-longer S T base names (App f a) h (x, y) = (has-longer S T base names f h x, has-longer S T base names a h y)
has-longer S T base names (Let a t b) h (x, y, z) =
    (has-longer S T base names a h x, has-longer S T base names t h y, has-longer S T base names b h z)
has-longer S T base names (Const c) h is = λ k. defined-longer S T h (get_or names (c - base) []) (is k)
has-longer S T base names (Fam n) h is = tt
has-longer S T base names (Con n c) h is = tt
has-longer S T base names (Elim n m) h is = tt
has-longer S T base names (Var v) h is = tt
has-longer S T base names (Sort i) h is = tt
has-longer S T base names (AxiomK i m) h is = tt
