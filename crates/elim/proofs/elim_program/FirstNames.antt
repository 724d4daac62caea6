-- The declarations before an accepted one have other names: the signature after it has each name once.
use Rattle.std.proofs.Common.{◌≡◌, ◌≢◌, ◌≤◌, ℕ, List, [], ◌∷◌, ◌+◌, length, length-append, get_or, slice_get, Option, Some, None, refl, sym, ap, subst, ◌∙◌, arith}
use Rattle.std.proofs.lemmas.List.Elements.{All-nil, All-cons}
use Rattle.std.proofs.lemmas.Option.{slice_get_within}
use Rattle.std.specs.List.{All}
use Rattle.theory.specs.Families.{Family}
use Rattle.theory.specs.Prelude.{prelude}
use Rattle.theory.specs.Telescopes.{functions, products}
use Rattle.theory.specs.Terms.{Term, Sort}
use Rattle.theory.specs.Signatures.{Definition, Entry, FamilyOf, IsEntryAt, IsPrefix, Signature}
use Rattle.theory.specs.WellFormed.{IsWellFormed, pushed}
use Rattle.theory.proofs.Lists.{slice_get-append_right, slice_get-last, some_is}
use Rattle.theory.proofs.Pushing.{prefix_reflexive, prefix_transitive}
use Rattle.theory.proofs.Widening.{prefix_keeps}
use Rattle.core_terms.proofs.Answers.{split-parts}
use Rattle.core_sig.specs.Names.{find}
use Rattle.core_sig.specs.declared.entry.Found.{Found}
use Rattle.core_sig.specs.declared.entry.Found.TheVariants.{Entry as FoundEntry}
use Rattle.core_sig.specs.Raw.{MutualRaw, RawFamily, RawMember}
use Rattle.core_sig.specs.Settling.{entry_found}
use Rattle.core_text.proofs.NamesFound.{definition-found, family-found}
use Rattle.surface_syntax.specs.Trees as surf
use Rattle.resolve.specs.DeclaredNames.{IsNewName, first_name}
use Rattle.resolve.specs.Families.{family}
use Rattle.resolve.specs.Mutual.{mutual_family}
use Rattle.resolve.proofs.NewNames.{family-new}
use Rattle.elab_session.specs.Declaring.{Declared, accepted_as}
use Rattle.elab_session.specs.Sessions.{IsReady}
use Rattle.elab_session.proofs.PreludeReady.{prelude-ready}
use Rattle.function_session.specs.Declaring.{declared_in, new_session, with_declared}
use Rattle.function_session.specs.Elaborating.{Elaborated, declared_of}
use Rattle.function_session.specs.Laws.{IsAsDeclared, KeepsReady}
use Rattle.function_session.specs.Sessions.{Session}
use Rattle.function_session.specs.decisions.Laws.{type_of_decision}
use Rattle.function_session.specs.mutual_families.Laws.{HasPackedEntries}
use Rattle.function_session.proofs.HeldDecisions.{declare-ready, declares-written}
use Rattle.elim.specs.elim_program.Acceptance.{Accepts, IsAccepted, end, next}
use Rattle.elim.specs.elim_program.Outputs.{declared_name}
use Rattle.mutual_pack.specs.MutualFamilies.{Packed}
use Rattle.mutual_pack.specs.Packing.{member_entries, members_of, pack, tagged}
use Rattle.elim.proofs.elim_program.DeclaredNames.{first-named, first_of}
use Rattle.elim.proofs.elim_program.Lines.{if_ok}
use Rattle.elim.proofs.elim_program.PackedOutcomes.{IsForeseenPacking, IsPackedAt, packs}

-- ---- what is accepted has the declared name

pub plain-name : (x : List ℕ) (T : Signature) (a : Elaborated) (name : List ℕ) → declared_of a ≡ accepted_as x T → a.name ≡ name → x ≡ name
plain-name x T a name is named = sym (ap (λ (d : Declared). d.name) is) ∙ named

pub plain-signature : (x : List ℕ) (T : Signature) (a : Elaborated) → declared_of a ≡ accepted_as x T → a.signature ≡ T
plain-signature x T a is = ap (λ (d : Declared). d.signature) is

same-name : (s : Session) (d : surf.Decl) (a : Elaborated) (name : List ℕ) → IsAsDeclared s d a → a.name ≡ name → declared_name d ≡ name
same-name s (surf.Def x ty body) a name is named =
    plain-name x.text (pushed s.signature (Definition x.text is.written.type is.written.term)) a name is.written.accepted named
same-name s (surf.Data x params ty cons) a name is named =
    plain-name x.text (pushed s.signature (FamilyOf is.written.entry)) a name is.written.accepted named
same-name s (surf.Fun x ty clauses) a name is named = plain-name x.text a.signature a name is.accepted named
same-name s (surf.Decide x family into) a name is named =
    plain-name x.text (pushed is.before (Definition x.text (type_of_decision is.given.family is.decided is.given.into) is.body)) a name is.accepted named
same-name s (surf.Mutual params members whole tag tags) a name is named =
    plain-name (first_name members whole).text a.signature a name is.accepted named

-- ---- its entry

-- an entry with a name, of which there is one where all names are different
data IsNamed (name : List ℕ) : Entry → Type 0 where
  named_family : (f : Family) → f.name ≡ name → IsNamed name (FamilyOf f)
  named_definition : (type body : Term) → IsNamed name (Definition name type body)

found-by : (T : Signature) (name : List ℕ) (n : ℕ) (e : Entry) → IsWellFormed T → IsEntryAt T n e → IsNamed name e → find T name ≡ Some (FoundEntry n)
found-by T name n _ well at (named_family f same) = ap (find T) (sym same) ∙ family-found T well.distinct n f at
found-by T name n _ well at (named_definition type body) = definition-found T well.distinct n (Definition name type body) name at refl

number-in : Option Found → Option ℕ
number-in (Some f) = entry_found f
number-in o = None

-- entry `number` of T has the name
record HasNamed (T : Signature) (name : List ℕ) : Type 0 where
  number : ℕ
  entry : Entry
  at : IsEntryAt T number entry
  named : IsNamed name entry

one-place : (T : Signature) (name : List ℕ) (n m : ℕ) (e g : Entry) → IsWellFormed T → IsEntryAt T n e → IsNamed name e → IsEntryAt T m g → IsNamed name g
    → n ≡ m
unfolding number-in
one-place T name n m e g well at named other also =
    some_is (ap number-in (sym (found-by T name n e well at named) ∙ found-by T name m g well other also))

stays : (T U : Signature) (name : List ℕ) → IsPrefix T U → HasNamed T name → HasNamed U name
stays T U name p h = record { number = h.number; entry = h.entry; at = (prefix_keeps p).entry h.number h.entry h.at; named = h.named }

longer : (S T : Signature) → IsPrefix S T → length S.entries ≤ length T.entries
longer S T p = omega (arith, ap length p.entries, length-append S.entries p.more)

-- what is accepted over S has an entry with the declared name, which is none of those of S
record HasNew (S T : Signature) (name : List ℕ) : Type 0 where
  there : HasNamed T name
  new : length S.entries ≤ there.number

stays-new : (S T U : Signature) (name : List ℕ) → IsPrefix T U → HasNew S T name → HasNew S U name
stays-new S T U name p h = record {
  there = record {
    number = h.there.number;
    entry = h.there.entry;
    at = (prefix_keeps p).entry h.there.number h.there.entry h.there.at;
    named = h.there.named;
  };
  new = h.new;
}

shorter-new : (R S T : Signature) (name : List ℕ) → IsPrefix R S → HasNew S T name → HasNew R T name
shorter-new R S T name p h = record { there = h.there; new = omega (arith, longer R S p, h.new) }

-- a name of S is none of a new entry
apart : (S T : Signature) (name : List ℕ) → IsWellFormed T → IsPrefix S T → HasNamed S name → HasNew S T name → ⊥
apart S T name well p h k =
    let within = slice_get_within S.entries h.number h.entry h.at in
    let one =
    one-place T name h.number k.there.number h.entry k.there.entry well ((prefix_keeps p).entry h.number h.entry h.at) h.named k.there.at k.there.named in
    omega (arith, within, one, k.new)

pushed-new : (S : Signature) (name : List ℕ) (e : Entry) → IsNamed name e → HasNew S (pushed S e) name
pushed-new S name e named = record {
  there = record { number = length S.entries; entry = e; at = slice_get-last S.entries e; named = named };
  new = omega arith;
}

-- an entry behind those of S
behind : (S T : Signature) (packed : Packed) (h : HasPackedEntries S packed T) (n : ℕ) (e : Entry)
    → slice_get (FamilyOf h.tag ∷ FamilyOf h.family ∷ packed.members) n ≡ Some e → IsEntryAt T (length S.entries + n) e
behind S T packed h n e at =
    let es = FamilyOf h.tag ∷ FamilyOf h.family ∷ packed.members in
    ap (λ (all : List Entry). slice_get all (length S.entries + n)) h.entries ∙ slice_get-append_right S.entries es n ∙ at

-- the entry with the first name: the definition of the first member, or else the packed family
packed-new : (S : Signature) (raw : MutualRaw) (packed : Packed) (T : Signature) → IsPackedAt S raw packed → HasPackedEntries S packed T → (members : List RawMember)
    → raw.members ≡ members → HasNew S T (first_of members raw.family)
packed-new S raw packed T is h [] none =
    let own : h.family.name ≡ raw.family =
    ap (λ (ns : List (List ℕ)). get_or ns 0 []) h.family_given.names ∙ ap (λ (p : Packed). p.family.name) is.1 in
    record {
      there = record { number = length S.entries + 1; entry = FamilyOf h.family; at = behind S T packed h 1 (FamilyOf h.family) refl; named = named_family h.family own };
      new = omega arith;
    }
packed-new S raw packed T is h (m ∷ members) some =
    let g = members_of (length S.entries) raw in
    let all : packed.members ≡ member_entries g is.0 raw.parameters 0 (m ∷ members) =
    ap (λ (p : Packed). p.members) is.1 ∙ ap (λ ms. member_entries g is.0 raw.parameters 0 ms) some in
    let type = products raw.parameters (Sort is.0) in
    let body = functions raw.parameters (tagged g 0 g.params) in
    let e = Definition m.name type body in
    record {
      there = record {
        number = length S.entries + 2;
        entry = e;
        at = behind S T packed h 2 e (ap (λ (es : List Entry). slice_get es 0) all);
        named = named_definition type body;
      };
      new = omega arith;
    }

entry-new : (s : Session) (d : surf.Decl) (a : Elaborated) → IsAsDeclared s d a → HasNew s.signature a.signature (declared_name d)
entry-new s (surf.Def x ty body) a is =
    let S = s.signature in
    let w = is.written in
    let e = Definition x.text w.type w.term in
    subst (λ T. HasNew S T x.text) (sym (plain-signature x.text (pushed S e) a w.accepted)) (pushed-new S x.text e (named_definition w.type w.term))
entry-new s (surf.Data x params ty cons) a is =
    let S = s.signature in
    let w = is.written in
    let new : IsNewName S x w.raw.name =
    if_ok (λ (raw : RawFamily). IsNewName S x raw.name) (family S x params ty cons) w.raw w.resolved (family-new S x params ty cons) in
    let named : w.entry.name ≡ x.text = ap (λ (ns : List (List ℕ)). get_or ns 0 []) w.given.names ∙ new.is in
    subst (λ T. HasNew S T x.text) (sym (plain-signature x.text (pushed S (FamilyOf w.entry)) a w.accepted))
    (pushed-new S x.text (FamilyOf w.entry) (named_family w.entry named))
entry-new s (surf.Fun x ty clauses) a is =
    let e = Definition x.text is.given.type is.body in
    shorter-new s.signature is.before a.signature x.text is.longer
    (stays-new is.before (pushed is.before e) a.signature x.text is.entered (pushed-new is.before x.text e (named_definition is.given.type is.body)))
entry-new s (surf.Decide x family into) a is =
    let type = type_of_decision is.given.family is.decided is.given.into in
    let e = Definition x.text type is.body in
    shorter-new s.signature is.before a.signature x.text is.longer
    (subst (λ T. HasNew is.before T x.text) (sym (plain-signature x.text (pushed is.before e) a is.accepted))
    (pushed-new is.before x.text e (named_definition type is.body)))
entry-new s (surf.Mutual params members whole tag tags) a is =
    let S = s.signature in
    let x = (first_name members whole).text in
    let first : first_of is.given.members is.given.family ≡ x =
    if_ok (λ raw. first_of raw.members raw.family ≡ x) (mutual_family S params members whole tag tags) is.given is.resolved (first-named S params members whole tag tags) in
    let packed = if_ok (IsPackedAt S is.given) (pack (length S.entries) is.given) is.packed is.is
    (split-parts (IsPackedAt S is.given) IsForeseenPacking (pack (length S.entries) is.given) (packs S is.given)).0 in
    stays-new S is.before a.signature x is.longer (subst (HasNew S is.before) first (packed-new S is.given is.packed is.before packed is.entered is.given.members refl))

-- ---- the declarations before it

abbrev HasDeclared : Signature → surf.Decl → Type 0
HasDeclared T d = HasNamed T (declared_name d)

-- declarations that are accepted come to a longer signature, which has an entry with the name of each
record AreThere (S : Signature) (ds : List surf.Decl) (T : Signature) : Type 0 where
  prefix : IsPrefix S T
  each : All (HasDeclared T) ds

accepted-there : (s : Session) (ds : List surf.Decl) (t : Session) → IsReady s.signature → Accepts s ds t → AreThere s.signature ds t.signature
accepted-there s _ _ ready (end _) = record { prefix = prefix_reflexive s.signature; each = All-nil (HasDeclared s.signature) }
accepted-there s _ t ready (next _ _ d ds a is more) =
    let S = s.signature in
    let T = t.signature in
    let on = if_ok (KeepsReady S) (declared_in s d) a is (declare-ready s d ready) in
    let written = if_ok (IsAsDeclared s d) (declared_in s d) a is (declares-written s d ready) in
    let rest = accepted-there (with_declared s d a.signature) ds t on.ready more in
    record {
      prefix = prefix_transitive S a.signature T on.longer rest.prefix;
      each =
          All-cons (HasDeclared T) d ds (stays a.signature T (declared_name d) rest.prefix (entry-new s d a written).there) rest.each;
    }

pub first-of_name : (words : List (List ℕ)) (bytes : List ℕ) (above : List (List ℕ)) (name : List ℕ) (a : IsAccepted words bytes above name)
    → All (λ d. declared_name d ≢ name) a.front
first-of_name words bytes above name a n d low same =
    let T = a.accepted.signature in
    let there = accepted-there (new_session a.command.k a.command.fuel) a.front a.session (prelude-ready (prelude a.command.k) a.command.k refl) a.reached in
    let own = entry-new a.session a.declaration a.accepted a.written in
    let named = same-name a.session a.declaration a.accepted name a.written a.named in
    apart a.session.signature T name a.whole.well_formed a.longer (subst (HasNamed a.session.signature) same (there.each n d low))
    (subst (HasNew a.session.signature T) named own)
