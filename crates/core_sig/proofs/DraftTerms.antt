-- The terms of a draft, once its constants are numbered anew.
use Rattle.std.proofs.Common.{◌≡◌, ℕ, ◌+◌, ◌-◌, ◌≤◌, ◌<◌, List, [], ◌∷◌, map, length, All, Some, false, get_or, nat_lt, if◌then◌else◌, slice_get, option_and_then, refl, ap, sym, ◌∙◌, subst as transport, inl, inr, arith}
use Rattle.std.specs.Option.{option_map_or}
use Rattle.std.proofs.lemmas.Bool.Decides.{nat_tests}
use Rattle.std.proofs.lemmas.Bool.{le-ltb}
use Rattle.std.proofs.lemmas.List.{length-map}
use Rattle.std.proofs.lemmas.Option.{slice_get-get_or}
use Rattle.std.proofs.lemmas.List.Elements.{All-head, All-tail, All-nil, All-cons}
use Rattle.theory.specs.Terms.{Term, free_of, height}
use Rattle.theory.specs.Terms.Term.{Var, Sort, Pi, Lam, App, Let, Const, Fam, Con, Elim, AxiomK}
use Rattle.theory.specs.Telescopes.{Telescope}
use Rattle.theory.specs.Families.{Argument, Constructor, Family, index_types}
use Rattle.theory.specs.Families.Argument.{Plain, Recursive}
use Rattle.theory.specs.Signatures.{Signature, Entry}
use Rattle.theory.specs.Signatures.Entry.{FamilyOf, EliminatorAt, AxiomKAt, Definition}
use Rattle.theory.specs.SignatureScopes.{IsConstantNumber, HasEntries, IsScoped}
use Rattle.core_sig.specs.DraftScopes.{IsDraftNumber, HasDraftEntries, IsDraftTerm, NamesConstant}
use Rattle.core_sig.specs.EntryTerms.{EachInTelescope, EachInArgument, EachInArguments, EachInConstructor, EachInFamily, EachTerm}
use Rattle.core_sig.specs.Names.{find}
use Rattle.core_sig.specs.Settling.{entry_found, renumbered, renumbered_argument, renumbered_constructor, renumbered_family, renumbered_entry, settled_number}
use Rattle.core_sig.specs.declared.entry.Found.TheVariants.{Entry as FoundEntry}

-- ---- one term

pub height-renumbered : (r : ℕ → ℕ) (t : Term) → height (renumbered r t) ≡ height t
height-renumbered r (Pi a b) = omega (arith, height-renumbered r a, height-renumbered r b)
height-renumbered r (Lam a b) = omega (arith, height-renumbered r a, height-renumbered r b)
height-renumbered r (App f a) = omega (arith, height-renumbered r f, height-renumbered r a)
height-renumbered r (Let a t b) = omega (arith, height-renumbered r a, height-renumbered r t, height-renumbered r b)
height-renumbered r _ = refl

free_of-renumbered : (r : ℕ → ℕ) (t : Term) → free_of (renumbered r t) ≡ free_of t
free_of-renumbered r (Pi a b) = omega (arith, free_of-renumbered r a, free_of-renumbered r b)
free_of-renumbered r (Lam a b) = omega (arith, free_of-renumbered r a, free_of-renumbered r b)
free_of-renumbered r (App f a) = omega (arith, free_of-renumbered r f, free_of-renumbered r a)
free_of-renumbered r (Let a t b) = omega (arith, free_of-renumbered r a, free_of-renumbered r t, free_of-renumbered r b)
free_of-renumbered r _ = refl

settled-is : (S : Signature) (base : ℕ) (names : List (List ℕ)) (c : ℕ) (name : List ℕ) (n : ℕ) → nat_lt c base ≡ false → slice_get names (c - base) ≡ Some name → find S name ≡ Some (FoundEntry n) → settled_number S base names c ≡ n
settled-is S base names c name n behind at found =
    ap (λ b. if b then c else option_map_or (λ k. k) (option_and_then entry_found (option_and_then (find S) (slice_get names (c - base)))) c) behind
    ∙ (ap (λ o. option_map_or (λ k. k) (option_and_then entry_found (option_and_then (find S) o)) c) at
    ∙ ap (λ o. option_map_or (λ k. k) (option_and_then entry_found o) c) found)

-- a name's constant
named-constant : (S T : Signature) (base : ℕ) (names : List (List ℕ)) (c : ℕ) → All (NamesConstant S T) names → base ≤ c → c < base + length names → IsConstantNumber T (settled_number S base names c)
named-constant S T base names c each from to =
    let w : c - base < length names = omega arith in
    let here = each (c - base) [] w in
    transport (IsConstantNumber T)
    (sym (settled-is S base names c (get_or names (c - base) []) here.0 (le-ltb c base from) (slice_get-get_or names (c - base) [] w) here.1))
    here.2

settled-constant : (S T : Signature) (base : ℕ) (names : List (List ℕ)) (c : ℕ) → All (NamesConstant S T) names → IsDraftNumber T base (length names) c → IsConstantNumber T (settled_number S base names c)
settled-constant S T base names c each (inl (below, is)) =
    transport (IsConstantNumber T) (sym (grind (arith, nat_tests))) is
settled-constant S T base names c each (inr (from, to)) = named-constant S T base names c each from to

settled-entries : (S T : Signature) (base : ℕ) (names : List (List ℕ)) (t : Term) → All (NamesConstant S T) names → HasDraftEntries T base (length names) t → HasEntries T (renumbered (settled_number S base names) t)
settled-entries S T base names (Pi a b) each (x, y) = (settled-entries S T base names a each x, settled-entries S T base names b each y)
settled-entries S T base names (Lam a b) each (x, y) = (settled-entries S T base names a each x, settled-entries S T base names b each y)
settled-entries S T base names (App f a) each (x, y) = (settled-entries S T base names f each x, settled-entries S T base names a each y)
settled-entries S T base names (Let a t b) each (x, y, z) =
    (settled-entries S T base names a each x, settled-entries S T base names t each y, settled-entries S T base names b each z)
settled-entries S T base names (Const c) each is = settled-constant S T base names c each is
settled-entries S T base names (Fam n) each is = is
settled-entries S T base names (Con n c) each is = is
settled-entries S T base names (Elim n m) each is = is
settled-entries S T base names (Var v) each is = is
settled-entries S T base names (Sort i) each is = is
settled-entries S T base names (AxiomK i m) each is = is

pub settled-scoped : (S T : Signature) (base : ℕ) (names : List (List ℕ)) (n : ℕ) (t : Term) → All (NamesConstant S T) names → IsDraftTerm T base (length names) n t → IsScoped T n (renumbered (settled_number S base names) t)
settled-scoped S T base names n t each is = record {
  variables = omega (arith, free_of-renumbered (settled_number S base names) t, is.variables);
  entries = settled-entries S T base names t each is.entries;
}

-- ---- each term of an entry

abbrev Moves : (ℕ → ℕ) → (P Q : ℕ → Term → Type 0) → Type 0
Moves r P Q = (n : ℕ) (t : Term) → P n t → Q n (renumbered r t)

telescope-renumbered : (r : ℕ → ℕ) (P Q : ℕ → Term → Type 0) → Moves r P Q → (n : ℕ) (tele : Telescope) → EachInTelescope P n tele → EachInTelescope Q n (map (renumbered r) tele)
telescope-renumbered r P Q moves n [] each = each
telescope-renumbered r P Q moves n (a ∷ tele) (first, rest) = (moves n a first, telescope-renumbered r P Q moves (n + 1) tele rest)

all-moved : {X Y : Type 0} (P : X → Type 0) (Q : Y → Type 0) (f : X → Y) → ((x : X) → P x → Q (f x)) → (xs : List X) → All P xs → All Q (map f xs)
all-moved P Q f moves [] each = All-nil Q
all-moved P Q f moves (x ∷ xs) each =
    All-cons Q (f x) (map f xs) (moves x (All-head P x xs each)) (all-moved P Q f moves xs (All-tail P x xs each))

argument-moved : (r : ℕ → ℕ) (P Q : ℕ → Term → Type 0) → Moves r P Q → (n : ℕ) (a : Argument) → EachInArgument P n a → EachInArgument Q n (renumbered_argument r a)
argument-moved r P Q moves n (Plain type level) is = moves n type is
argument-moved r P Q moves n (Recursive inner targets level) (first, rest) = (
  telescope-renumbered r P Q moves n inner first,
  transport (λ k. All (Q (n + k)) (map (renumbered r) targets)) (sym (length-map inner (renumbered r)))
      (all-moved (P (n + length inner)) (Q (n + length inner)) (renumbered r) (moves (n + length inner)) targets rest),
)

arguments-moved : (r : ℕ → ℕ) (P Q : ℕ → Term → Type 0) → Moves r P Q → (n : ℕ) (args : List Argument) → EachInArguments P n args → EachInArguments Q n (map (renumbered_argument r) args)
arguments-moved r P Q moves n [] each = each
arguments-moved r P Q moves n (a ∷ args) (first, rest) = (argument-moved r P Q moves n a first, arguments-moved r P Q moves (n + 1) args rest)

constructor-moved : (r : ℕ → ℕ) (P Q : ℕ → Term → Type 0) → Moves r P Q → (n : ℕ) (c : Constructor) → EachInConstructor P n c → EachInConstructor Q n (renumbered_constructor r c)
constructor-moved r P Q moves n c is = record {
  arguments = arguments-moved r P Q moves n c.arguments is.arguments;
  targets =
      transport (λ k. All (Q (n + k)) (map (renumbered r) c.targets)) (sym (length-map c.arguments (renumbered_argument r)))
      (all-moved (P (n + length c.arguments)) (Q (n + length c.arguments)) (renumbered r) (moves (n + length c.arguments)) c.targets is.targets);
}

indices-moved : (r : ℕ → ℕ) (P Q : ℕ → Term → Type 0) → Moves r P Q → (n : ℕ) (is : List (Term × ℕ)) → EachInTelescope P n (map (λ (i : Term × ℕ). i.0) is) → EachInTelescope Q n (map (λ (i : Term × ℕ). i.0) (map (λ (i : Term × ℕ). (renumbered r i.0, i.1)) is))
indices-moved r P Q moves n [] each = each
indices-moved r P Q moves n (i ∷ is) (first, rest) = (moves n i.0 first, indices-moved r P Q moves (n + 1) is rest)

family-moved : (r : ℕ → ℕ) (P Q : ℕ → Term → Type 0) → Moves r P Q → (f : Family) → EachInFamily P f → EachInFamily Q (renumbered_family r f)
family-moved r P Q moves f is =
    let p = sym (length-map f.parameters (renumbered r)) in record {
      parameters = telescope-renumbered r P Q moves 0 f.parameters is.parameters;
      indices =
          transport (λ k. EachInTelescope Q k (index_types (renumbered_family r f))) p
          (indices-moved r P Q moves (length f.parameters) f.indices is.indices);
      constructors =
          transport (λ k. All (EachInConstructor Q k) (map (renumbered_constructor r) f.constructors)) p
          (all-moved (EachInConstructor P (length f.parameters)) (EachInConstructor Q (length f.parameters)) (renumbered_constructor r)
          (constructor-moved r P Q moves (length f.parameters)) f.constructors is.constructors);
    }

pub each-renumbered : (r : ℕ → ℕ) (P Q : ℕ → Term → Type 0) → ((n : ℕ) (t : Term) → P n t → Q n (renumbered r t)) → (e : Entry) → EachTerm P e → EachTerm Q (renumbered_entry r e)
each-renumbered r P Q moves (FamilyOf f) is = family-moved r P Q moves f is
each-renumbered r P Q moves (Definition name type body) (first, rest) = (moves 0 type first, moves 0 body rest)
each-renumbered r P Q moves (EliminatorAt n m) is = is
each-renumbered r P Q moves (AxiomKAt i m) is = is
