-- A property that definitions, families and instances keep is kept by a declaration that is accepted.
use Rattle.std.proofs.Common.{◌≡◌, ℕ, ◌+◌, ◌<◌, Bool, true, false, cond, List, [], ◌∷◌, length, map, Some, Result, Ok, Err, IfOk, IfErr, sym, subst, arith}
use Rattle.theory.specs.Telescopes.{context_behind}
use Rattle.theory.specs.Terms.{Term, Fam, Const}
use Rattle.theory.specs.Signatures.{Signature}
use Rattle.core_terms.specs.declared.stop.Stop.{Stop}
use Rattle.core_terms.proofs.Answers.{Answers, Splits, and_then-has, split-parts}
use Rattle.core_sig.specs.Drafts.{Draft, drafted}
use Rattle.core_sig.specs.Raw.{MutualRaw, RawConstructor, RawFamily}
use Rattle.core_text.specs.RawEntries.{RawEntry, RawFamilyOf, RawEliminator, RawAxiomK, RawDefinition}
use Rattle.core_sig.specs.FamilyShapes.{family_shape}
use Rattle.decide_eq.specs.Comparisons.{confusions_of}
use Rattle.decide_eq.specs.DecisionEntries.{decided_family, decision_entry, decision_term, names_for}
use Rattle.decide_eq.specs.Statements.{decision_type}
use Rattle.drafts.specs.draft_checks.Checks.{unmarked}
use Rattle.surface_syntax.specs.Trees as surf
use Rattle.surface_syntax.specs.declared.tree.Word.{Word}
use Rattle.resolve.specs.DeclaredNames.{first_name}
use Rattle.resolve.specs.Families.{declared, parameters, constructors, names_of}
use Rattle.resolve.specs.Families as resolve_family
use Rattle.resolve.specs.Functions as function
use Rattle.resolve.specs.Mutual.{mutual_family}
use Rattle.resolve.specs.Names.{known_in, with_name, scope_of}
use Rattle.resolve.specs.Resolving.{resolve, resolve_term}
use Rattle.resolve.specs.declared.stop.ResolveStop.{ResolveStop}
use Rattle.family_check.specs.Asking.{sort_in}
use Rattle.family_check.specs.Entering as entering
use Rattle.family_check.specs.Entering.{Entered}
use Rattle.family_check.specs.Outcomes.{FamilyStop, OfParameter}
use Rattle.kernel_reduce.specs.Comparison.{convertible_of}
use Rattle.kernel_reduce.specs.Reduction.{nesting}
use Rattle.clause_reports.specs.elaboration.Functions.{Lines}
use Rattle.clause_reports.specs.elaboration.Refusals as refusal
use Rattle.function_session.specs.function_lines.Opened.{checked_entered, deep, draft_in, function_in}
use Rattle.elab_session.specs.Declaring as session
use Rattle.elab_session.specs.Declaring.{Declared}
use Rattle.elab_session.specs.Entering.{answered, checked, refused}
use Rattle.elab_session.specs.Refusals.{unentered}
use Rattle.elab_session.proofs.Resolved.{declare-has, or_unresolved-has}
use Rattle.elab_session.specs.declared.refusal.Refusal.{Refusal}
use Rattle.function_session.specs.Declaring.{declared_in}
use Rattle.function_session.specs.Elaborating.{Elaborated, without_lines, on_lines, on_function, enter_function}
use Rattle.function_session.specs.Sessions.{Session}
use Rattle.function_session.specs.decisions.Known.{known_into}
use Rattle.function_session.specs.declared.decisions.decision.Decision.{Decision}
use Rattle.function_session.specs.mutual_families.Declaring.{declare_mutual}
use Rattle.function_session.specs.mutual_families.EquationLines.{equation_of}
use Rattle.function_session.specs.mutual_families.Refusals.{or_refused}
use Rattle.function_session.proofs.DeclaredDecisions.{IsDecided, decision-has}
use Rattle.mutual_pack.specs.Inductions.{induction_name}
use Rattle.surface_syntax.specs.word_laws.Words.{Each}
use Rattle.elim.proofs.elim_program.DecisionNames.{Named}
use Rattle.elim.proofs.elim_program.DeclaredNames.{WordsAre, constructors-are, declared-is, mutual-are, parameters-are}
use Rattle.elim.proofs.elim_program.Lines.{if_ok}
use Rattle.elim.proofs.elim_program.MutualPhases.{Comes, Phases, mutual-comes}
use Rattle.elim.proofs.elim_program.PackedOutcomes.{EntryIs as PackedIs, NamesAre, any-names, drafts-are, entries-are}
use Rattle.elim.proofs.headline.writing_laws.Carrying.{Any, any, After, DraftIs, Keeps}
use Rattle.elim.proofs.headline.writing_laws.Functions.{FunctionFew, checked_entered-is, function-keeps}
use Rattle.elim.proofs.headline.writing_laws.Reporting.{drafted-made}

-- the names that a declaration declares, and its number of parameters
abbrev pub DeclIs : (List ℕ → Type 0) → (ℕ → Type 0) → ℕ → Signature → surf.Decl → Type 0
DeclIs W Few most S (surf.Def x ty body) = W x.text
DeclIs W Few most S (surf.Data x params ty cons) = W x.text × (length params < most) × Each (λ c. W c.name.text) cons
DeclIs W Few most S (surf.Decide x family into) = W x.text
DeclIs W Few most S (surf.Mutual params members f tag tags) =
    Each (WordsAre W) members × W f.text × W tag.text × Each (λ x. W x.text) tags × (length params < most)
DeclIs W Few most S (surf.Fun x ty clauses) = W x.text × IfOk (function.function S x ty clauses) (FunctionFew Few S)

-- those of a family that is resolved
pub record RawIs (W : List ℕ → Type 0) (most : ℕ) (raw : RawFamily) : Type 0 where
  pub own : W raw.name
  pub few : length raw.parameters < most
  pub constructors : Each (λ c. W c.name) raw.constructors

pub record KeepsAll (D W : List ℕ → Type 0) (Few : ℕ → Type 0) (most : ℕ) (P : Signature → Type 0) : Type 0 where
  pub keeps : Keeps D W Few P
  pub induction : (x : List ℕ) → W x → D (induction_name x)
  pub declare : (S : Signature) (raw : RawFamily) (left : ℕ) → P S → RawIs W most raw → Answers (After P) (entering.declare_of S raw left)

-- ---- resolved names

family-is : (W : List ℕ → Type 0) (most : ℕ) (S : Signature) (x : Word) (params : List surf.Typed) (ty : surf.Surf) (cons : List surf.Typed)
    → W x.text → length params < most → Each (λ c. W c.name.text) cons → IfOk (resolve_family.family S x params ty cons) (RawIs W most)
family-is W most S x params ty cons hx few hc =
    let Are : List RawConstructor → Type 0 = Each (λ c. W c.name) in
    let scope = scope_of (names_of params) in
    and_then-has W (RawIs W most) (declared S [] x) _ (declared-is W S [] x hx) (λ own n.
    and_then-has (λ types. length types ≡ length params) (RawIs W most) (parameters (known_in S) [] params) _ (parameters-are (known_in S) [] params) (λ types e.
    and_then-has Any (RawIs W most) (resolve (known_in S) ty scope) _ (any (resolve (known_in S) ty scope)) (λ type u.
    and_then-has Are (RawIs W most) (constructors S (with_name own (Fam (length S.entries)) (known_in S)) scope (own ∷ []) cons) _
    (constructors-are W S (with_name own (Fam (length S.entries)) (known_in S)) scope (own ∷ []) cons hc) (λ list l.
    record { own = n; few = subst (λ k. k < most) (sym e) few; constructors = l }))))

-- the names of an entry that is declared
abbrev EntryIs : (List ℕ → Type 0) → ℕ → RawEntry → Type 0
EntryIs W most (RawFamilyOf raw) = RawIs W most raw
EntryIs W most (RawDefinition name type body) = W name
EntryIs W most _ = ⊥

definition-is : (W : List ℕ → Type 0) (most : ℕ) (S : Signature) (x : Word) (ty body : surf.Surf) → W x.text → IfOk (session.resolve_definition S x ty body) (EntryIs W most)
definition-is W most S x ty body h =
    and_then-has W (EntryIs W most) (declared S [] x) _ (declared-is W S [] x h) (λ name n.
    and_then-has Any (EntryIs W most) (resolve_term S [] ty) _ (any (resolve_term S [] ty)) (λ type u.
    and_then-has Any (EntryIs W most) (resolve_term S [] body) _ (any (resolve_term S [] body)) (λ term v. n)))

data-is : (W : List ℕ → Type 0) (most : ℕ) (S : Signature) (x : Word) (params : List surf.Typed) (ty : surf.Surf) (cons : List surf.Typed)
    → W x.text → length params < most → Each (λ c. W c.name.text) cons → IfOk (session.resolve_family S x params ty cons) (EntryIs W most)
data-is W most S x params ty cons hx few hc =
    and_then-has (RawIs W most) (EntryIs W most) (resolve_family.family S x params ty cons) _ (family-is W most S x params ty cons hx few hc) (λ raw r. r)

function-is : (W : List ℕ → Type 0) (S : Signature) (x : Word) (ty : surf.Surf) (cs : surf.Clauses) → W x.text → IfOk (function.function S x ty cs) (λ f. W f.name)
function-is W S x ty cs h =
    and_then-has W (λ f. W f.name) (declared S [] x) _ (declared-is W S [] x h) (λ own n.
    and_then-has Any (λ f. W f.name) (resolve (known_in S) ty []) _ (any (resolve (known_in S) ty [])) (λ type u.
    let list = function.clauses S (with_name own (Const (length S.entries)) (known_in S)) own (function.allowed_by type (function.arity_of type cs)) cs in
    and_then-has Any (λ f. W f.name) list _ (any list) (λ found v. n)))

-- ---- new entries

module _ (D W : List ℕ → Type 0) (Few : ℕ → Type 0) (most : ℕ) (P : Signature → Type 0) (all : KeepsAll D W Few most P) where
  entry-is : (S : Signature) → P S → (fuel : ℕ) (raw : RawEntry) → EntryIs W most raw → Answers (λ e. P e.signature) (checked S raw fuel)
  entry-is S p fuel (RawFamilyOf raw) r = all.declare S raw fuel p r
  entry-is S p fuel (RawDefinition name type body) n = all.keeps.define S name type body fuel p (all.keeps.own name n)
  entry-is S p fuel (RawEliminator n m) other = absurd other
  entry-is S p fuel (RawAxiomK i m) other = absurd other

  plain-is : (r : Result Declared Refusal) → IfOk r (λ d. P d.signature) → IfOk (without_lines r) (λ a. P a.signature)
  plain-is (Ok d) h = h
  plain-is (Err e) h = tt

  lines-are : (x : Word) (fuel : ℕ) (r : Result Lines refusal.Refusal) → IfOk r (λ l. P l.signature) → IfOk (on_lines x fuel r) (λ a. P a.signature)
  lines-are x fuel (Ok l) h = h
  lines-are x fuel (Err e) h = tt

  function-entered : (S : Signature) → P S → (x : Word) (fuel : ℕ) (r : Result function.Function ResolveStop) → IfOk r (λ f. W f.name) → IfOk r (FunctionFew Few S)
      → IfOk (on_function r (enter_function S fuel x)) (λ a. P a.signature)
  function-entered S p x fuel (Ok f) h few = lines-are x fuel (function_in S f fuel).0 (function-keeps D W Few P all.keeps S p f h few fuel)
  function-entered S p x fuel (Err e) h few = tt

  decided-is : (S : Signature) → P S → (decisions : List Decision) (fuel : ℕ) (x family into : Word) → W x.text → (given : Named) (T : Signature)
      → IsDecided S decisions fuel x family into given T → P T
  decided-is S p decisions fuel x family into h given T d =
      let known = known_into given.into decisions in
      let f = family_shape given.family d.decided in
      let e = decided_family (length S.entries) given.family f given.into in
      let made : IfOk (decision_entry (length S.entries) x.text given.family d.decided given.into known) (DraftIs D) =
      drafted-made D x.text (length S.entries) (names_for d.decided.name (map (λ c. c.name) d.decided.constructors) f) (decision_type e f.parameters)
      (decision_term e (confusions_of e) known f) (all.keeps.own x.text h) in
      let draft = if_ok (DraftIs D) (decision_entry (length S.entries) x.text given.family d.decided given.into known) d.draft d.drafted made in
      if_ok P (checked_entered S given.name d.draft fuel).0 T d.made (checked_entered-is D W Few P all.keeps S p given.name d.draft draft fuel)

  -- ---- families that refer to each other

  abbrev IsAt : Signature → ℕ → Type 0
  IsAt U left = P U

  abbrev IsGiven : MutualRaw → Type 0
  IsGiven raw = NamesAre W raw × (length raw.parameters < most)

  given-is : (params : List surf.Typed) → length params < most → (r : Result MutualRaw ResolveStop)
      → IfOk r (λ raw. NamesAre W raw × (length raw.parameters ≡ length params)) → Splits IsGiven Any r
  given-is params few (Ok raw) h = (h.0, subst (λ k. k < most) (sym h.1) few)
  given-is params few (Err e) h = tt

  parameter-is : (S : Signature) → P S → (told : FamilyStop → Refusal) (r : Result Term FamilyStop) (rest : ℕ)
      → Comes (λ (sort : Term) rest. P S) Any (or_refused told r) rest
  parameter-is S p told (Ok sort) rest = p
  parameter-is S p told (Err e) rest = tt

  packed-is : (U : Signature) → P U → (raw : RawEntry) (left : ℕ) → PackedIs W (λ k. k < most) raw → IfOk (checked U raw left).0 (After P)
  packed-is U p (RawFamilyOf raw) left h = all.declare U raw left p (record { own = h.0; few = h.1; constructors = h.2 })
  packed-is U p (RawEliminator n m) left h = absurd h
  packed-is U p (RawAxiomK i m) left h = absurd h
  packed-is U p (RawDefinition name type body) left h = all.keeps.define U name type body left p (all.keeps.own name h)

  answered-is : (told : FamilyStop → Refusal) (r : Result Entered FamilyStop) (rest : ℕ) → IfOk r (After P)
      → Comes (λ (e : Entered) rest. P e.signature) Any (answered told r) rest
  answered-is told (Ok e) rest h = h
  answered-is told (Err e) rest h = tt

  induction-is : (member : List ℕ) → W member → (base : ℕ) (names : List (List ℕ)) (type term : Term)
      → Splits (DraftIs D) Any (drafted (induction_name member) base names type term)
  induction-is member h base names type term =
      by (drafted (induction_name member) base names type term)
      (drafted-made D (induction_name member) base names type term (all.induction member h))
    where
      by : (r : Result Draft Stop) → IfOk r (DraftIs D) → Splits (DraftIs D) Any r
      by (Ok d) k = k
      by (Err e) k = tt

  draft-is : (r : Result Signature refusal.Refusal) (rest : ℕ) → IfOk r P → Comes IsAt Any r rest
  draft-is (Ok T) rest h = h
  draft-is (Err e) rest h = tt

  draft-in-is : (U : Signature) → P U → (name : List ℕ) (d : Draft) → DraftIs D d → (left : ℕ) → IfOk (draft_in U name d left).0 P
  draft-in-is U p name d h left = by (unmarked U)
    where
      by : (free : Bool) → Answers P (cond free (checked_entered U name d left) (deep left))
      by true = checked_entered-is D W Few P all.keeps U p name d h left
      by false = tt

  err-any : {A : Type 0} (r : Result A Stop) → IfErr r Any
  err-any (Ok a) = tt
  err-any (Err e) = tt

  module _ (S : Signature) (p : P S) (fuel : ℕ) (params : List surf.Typed) (members : List surf.Member) (f tag : Word) (tags : List Word)
      (h : Each (WordsAre W) members × W f.text × W tag.text × Each (λ x. W x.text) tags × (length params < most)) where
    phases : Phases draft_in S fuel (surf.Mutual params members f tag tags) IsAt Any IsGiven (PackedIs W (λ k. k < most)) (DraftIs D) Any
    phases =
        let x = first_name members f in
        record {
          start = p;
          names = given-is params h.4 (mutual_family S params members f tag tags) (mutual-are W S params members f tag tags h.0 h.1 h.2 h.3);
          named = λ raw given. (any-names raw).members;
          parameter = λ before a left i.
              (let sort = sort_in S (OfParameter (length before + 1)) (context_behind [] before) a left in
              parameter-is S i (unentered (λ site. S) [] (Some x) fuel) sort.0 sort.1);
          unpacks = λ raw given e is. tt;
          entered = λ raw given l. (let some = given.1 in entries-are W (λ k. k < most) (omega (arith, some)) S raw given.0 given.1 l);
          entry = λ U raw left i k.
              (let outcome = checked U raw left in answered-is (refused U x.start fuel raw) outcome.0 outcome.1 (packed-is U i raw left k));
          inductions = λ raw given l U. drafts-are W (DraftIs D) Any tt induction-is S raw given.0 l U;
          draft = λ U one left i k. (let outcome = draft_in U x.text one left in draft-is outcome.0 outcome.1 (draft-in-is U i x.text one k left));
          equation = λ T packed k con. err-any (equation_of T packed k con);
          converts = λ T left right units. err-any (convertible_of T nesting left right units).0;
          unequal = λ T left i member con hm hc packed k number units sides is same. tt;
        }

    mutual-keeps : IfOk (declare_mutual draft_in S fuel (surf.Mutual params members f tag tags)) (λ (a : Elaborated). P a.signature)
    mutual-keeps =
        let d = surf.Mutual params members f tag tags in
        let Q : Elaborated → Type 0 = λ a. P a.signature in
        (split-parts Q Any (declare_mutual draft_in S fuel d)
        (mutual-comes draft_in S fuel d IsAt Any IsGiven (PackedIs W (λ k. k < most)) (DraftIs D) Any phases Q (λ raw T left given i. i))).0

  -- ---- declarations

  pub declared-keeps : (s : Session) → P s.signature → (d : surf.Decl) → DeclIs W Few most s.signature d → IfOk (declared_in s d) (λ a. P a.signature)
  declared-keeps s p (surf.Def x ty body) h =
      let S = s.signature in
      plain-is (session.declare_of S s.fuel (surf.Def x ty body))
      (declare-has (EntryIs W most) (λ d. P d.signature) S s.fuel (surf.Def x ty body)
      (or_unresolved-has (EntryIs W most) (session.resolve_definition S x ty body) (definition-is W most S x ty body h)) (entry-is S p s.fuel))
  declared-keeps s p (surf.Data x params ty cons) h =
      let S = s.signature in
      plain-is (session.declare_of S s.fuel (surf.Data x params ty cons))
      (declare-has (EntryIs W most) (λ d. P d.signature) S s.fuel (surf.Data x params ty cons)
      (or_unresolved-has (EntryIs W most) (session.resolve_family S x params ty cons) (data-is W most S x params ty cons h.0 h.1 h.2)) (entry-is S p s.fuel))
  declared-keeps s p (surf.Decide x family into) h =
      decision-has (λ a. P a.signature) s.signature s.decisions s.fuel x family into (decided-is s.signature p s.decisions s.fuel x family into h)
  declared-keeps s p (surf.Mutual params members f tag tags) h = mutual-keeps s.signature p s.fuel params members f tag tags h
  declared-keeps s p (surf.Fun x ty clauses) h =
      let S = s.signature in
      function-entered S p x s.fuel (function.function S x ty clauses) (function-is W S x ty clauses h.0) h.1
