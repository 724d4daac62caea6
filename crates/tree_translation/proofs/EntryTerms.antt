-- A property of each term of an entry is one of the list of its terms.
use Rattle.std.proofs.Common.{ℕ, ◌+◌, List, [], ◌∷◌, ◌++◌, length, flat_map, All}
use Rattle.std.proofs.lemmas.List.Elements.{All-nil, All-cons, All-head, All-append}
use Rattle.theory.specs.Terms.{Term}
use Rattle.theory.specs.Telescopes.{Telescope}
use Rattle.theory.specs.Families.{Argument, Plain, Recursive, Constructor, index_types}
use Rattle.theory.specs.Signatures.{Signature, Entry, FamilyOf, EliminatorAt, AxiomKAt, Definition}
use Rattle.theory.proofs.Lists.{All-tail, only, both}
use Rattle.core_sig.specs.DraftScopes.{IsDraftTerm, HasDraftEntries}
use Rattle.core_sig.specs.EntryTerms.{EachInTelescope, EachInArgument, EachInArguments, EachInConstructor, EachTerm}
use Rattle.tree_translation.specs.Needed.{entry_terms, argument_terms, constructor_terms}

pub telescope-terms : (S : Signature) (base count n : ℕ) (tele : Telescope) → EachInTelescope (IsDraftTerm S base count) n tele → All (HasDraftEntries S base count) tele
telescope-terms S base count n [] h = All-nil (HasDraftEntries S base count)
telescope-terms S base count n (a ∷ tele) h =
    All-cons (HasDraftEntries S base count) a tele h.0.entries (telescope-terms S base count (n + 1) tele h.1)

pub each-terms : (S : Signature) (base count n : ℕ) (terms : List Term) → All (IsDraftTerm S base count n) terms → All (HasDraftEntries S base count) terms
each-terms S base count n [] h = All-nil (HasDraftEntries S base count)
each-terms S base count n (t ∷ terms) h =
    All-cons (HasDraftEntries S base count) t terms (All-head (IsDraftTerm S base count n) t terms h).entries
    (each-terms S base count n terms (All-tail (IsDraftTerm S base count n) t terms h))

pub argument-terms : (S : Signature) (base count n : ℕ) (a : Argument) → EachInArgument (IsDraftTerm S base count) n a → All (HasDraftEntries S base count) (argument_terms a)
argument-terms S base count n (Plain type level) h = only (HasDraftEntries S base count) type h.entries
argument-terms S base count n (Recursive inner targets level) h =
    All-append (HasDraftEntries S base count) inner targets (telescope-terms S base count n inner h.0) (each-terms S base count (n + length inner) targets h.1)

pub arguments-terms : (S : Signature) (base count n : ℕ) (arguments : List Argument) → EachInArguments (IsDraftTerm S base count) n arguments
    → All (HasDraftEntries S base count) (flat_map argument_terms arguments)
arguments-terms S base count n [] h = All-nil (HasDraftEntries S base count)
arguments-terms S base count n (a ∷ arguments) h =
    All-append (HasDraftEntries S base count) (argument_terms a) (flat_map argument_terms arguments) (argument-terms S base count n a h.0)
    (arguments-terms S base count (n + 1) arguments h.1)

pub constructors-terms : (S : Signature) (base count n : ℕ) (constructors : List Constructor) → All (EachInConstructor (IsDraftTerm S base count) n) constructors
    → All (HasDraftEntries S base count) (flat_map constructor_terms constructors)
constructors-terms S base count n [] h = All-nil (HasDraftEntries S base count)
constructors-terms S base count n (c ∷ constructors) h =
    let one = All-head (EachInConstructor (IsDraftTerm S base count) n) c constructors h in
    All-append (HasDraftEntries S base count) (constructor_terms c) (flat_map constructor_terms constructors)
    (All-append (HasDraftEntries S base count) (flat_map argument_terms c.arguments) c.targets (arguments-terms S base count n c.arguments one.arguments)
    (each-terms S base count (n + length c.arguments) c.targets one.targets))
    (constructors-terms S base count n constructors (All-tail (EachInConstructor (IsDraftTerm S base count) n) c constructors h))

-- each term of a scoped draft names entries of the signature and the draft's names
pub entry-terms : (S : Signature) (base count : ℕ) (e : Entry) → EachTerm (IsDraftTerm S base count) e → All (HasDraftEntries S base count) (entry_terms e)
entry-terms S base count (FamilyOf f) h =
    All-append (HasDraftEntries S base count) f.parameters (index_types f ++ flat_map constructor_terms f.constructors)
    (telescope-terms S base count 0 f.parameters h.parameters)
    (All-append (HasDraftEntries S base count) (index_types f) (flat_map constructor_terms f.constructors)
    (telescope-terms S base count (length f.parameters) (index_types f) h.indices)
    (constructors-terms S base count (length f.parameters) f.constructors h.constructors))
entry-terms S base count (Definition name type body) h = both (HasDraftEntries S base count) type body h.0.entries h.1.entries
entry-terms S base count (EliminatorAt n m) h = All-nil (HasDraftEntries S base count)
entry-terms S base count (AxiomKAt i m) h = All-nil (HasDraftEntries S base count)
