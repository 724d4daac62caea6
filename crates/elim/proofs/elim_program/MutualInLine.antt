-- The lines of families that refer to each other, accepted or refused, hold no line feed.
use Rattle.std.proofs.Common.{◌≡◌, ℕ, ◌+◌, length, Some, List, [], ◌∷◌, ◌++◌, map, codes, Result, Ok, Err, IfOk, IfErr, refl, sym, subst}
use Rattle.std.specs.Prelude.{decimal}
use Rattle.theory.specs.Telescopes.{Telescope, context_behind}
use Rattle.theory.specs.Terms.{Term}
use Rattle.theory.specs.Signatures.{Definition, FamilyOf, Signature, names_of}
use Rattle.core_terms.specs.declared.stop.Stop.{Stop}
use Rattle.core_terms.proofs.Answers.{Splits}
use Rattle.core_sig.specs.Drafts.{Draft, drafted}
use Rattle.core_sig.specs.Raw.{MutualRaw, RawConstructor, RawMember}
use Rattle.core_text.specs.ContextText.{context_text}
use Rattle.core_text.specs.Lines.{AreInLine}
use Rattle.core_text.specs.RawEntries.{RawEntry, RawFamilyOf, RawEliminator, RawAxiomK, RawDefinition}
use Rattle.core_text.specs.TermText.{term_text}
use Rattle.core_text.proofs.Feeds.{both, decimal-in}
use Rattle.family_check.specs.Asking.{sort_in}
use Rattle.family_check.specs.Entering as entering
use Rattle.family_check.specs.Entering.{Entered, define_of}
use Rattle.family_check.specs.Laws.{EntersAsDeclared}
use Rattle.family_check.specs.Outcomes.{FamilyStop, OfParameter}
use Rattle.family_check.proofs.AsDeclared.{declare-gives}
use Rattle.clause_reports.specs.elaboration.Refusals as function
use Rattle.kernel_reduce.specs.Comparison.{convertible_of}
use Rattle.kernel_reduce.specs.Reduction.{nesting}
use Rattle.surface_syntax.specs.Trees as surf
use Rattle.surface_syntax.specs.declared.tree.Word.{Word}
use Rattle.resolve.specs.DeclaredNames.{first_name}
use Rattle.resolve.specs.Mutual.{mutual_family}
use Rattle.resolve.specs.declared.stop.ResolveStop.{ResolveStop}
use Rattle.elab_session.specs.Declaring.{accepted_as}
use Rattle.elab_session.specs.Entering.{answered, checked, enter_with, refused}
use Rattle.elab_session.specs.Refusals.{stopped, unentered, unresolved}
use Rattle.elab_session.specs.declared.refusal.Refusal.{Refusal}
use Rattle.elab_session.proofs.Adding.{define-enters}
use Rattle.function_session.specs.Elaborating.{Elaborated, with_lines}
use Rattle.function_session.specs.function_lines.Opened.{draft_in}
use Rattle.function_session.specs.Refusals.{refused_function}
use Rattle.function_session.specs.mutual_families.Declaring.{declare_mutual}
use Rattle.function_session.specs.mutual_families.Entering.{inductions_of}
use Rattle.function_session.specs.mutual_families.EquationLines.{MutualLine, equation_of, member_lines, mutual_lines}
use Rattle.function_session.specs.mutual_families.Refusals.{constructor_named, or_refused, unequal, unpacked}
use Rattle.mutual_pack.specs.Inductions.{induction_name}
use Rattle.mutual_pack.specs.MutualFamilies.{all_constructors}
use Rattle.mutual_pack.specs.declared.stop.MutualStop.{MutualStop}
use Rattle.mutual_pack.specs.declared.stop.MutualStop.TheVariants as stop
use Rattle.elim.specs.program_texts.Refusals.{sides_text}
use Rattle.elim.proofs.elim_program.FunctionInLine.{draft_opened-in}
use Rattle.elim.proofs.elim_program.FunctionTexts.{RefusalIn, refusal-written, sides-in}
use Rattle.elim.proofs.elim_program.MutualPhases.{Comes, Phases, Runs, mutual-comes}
use Rattle.elim.proofs.elim_program.MutualWords.{mutual-in}
use Rattle.elim.proofs.elim_program.PackedOutcomes.{EntryIs, MemberIs, NamesAre, drafts-are, entries-are, packed_at}
use Rattle.elim.proofs.program_texts.EnteredNames.{DraftIn, IsIn, if-ok}
use Rattle.elim.proofs.program_texts.GrammarInLine.{DeclInLine, MemberIn, WordIn}
use Rattle.elim.proofs.program_texts.QuietWalks.{Any}
use Rattle.elim.proofs.program_texts.ReportsInLine.{drafted-made}
use Rattle.elim.proofs.program_texts.SessionInLine.{EntryNamesIn, NamesIn, Resolves, TextIn, argument-in, chosen-in, context-in, each-last, entry-refused-in, stopped-in, term-in, unentered-in, unresolved-in}
use Rattle.surface_syntax.specs.word_laws.Words.{Each}

-- the names of the line of an equation are in line
abbrev pub EquationIn : MutualLine → Type 0
EquationIn e = IsIn e.0 × IsIn e.1

-- ---- the names of lines

joined : (xs ys : List MutualLine) → Each EquationIn xs → Each EquationIn ys → Each EquationIn (xs ++ ys)
joined [] ys h k = k
joined (x ∷ xs) ys h k = (h.0, joined xs ys h.1 k)

member-lines-in : (name : List ℕ) (constructors : List RawConstructor) → IsIn name → Each (λ c. IsIn c.name) constructors → Each EquationIn (map (λ c. (name, c.name)) constructors)
member-lines-in name [] h all = tt
member-lines-in name (c ∷ constructors) h all = ((h, all.0), member-lines-in name constructors h all.1)

lines-in : (members : List RawMember) → Each (MemberIs IsIn) members → Each EquationIn (mutual_lines members)
lines-in [] all = tt
lines-in (m ∷ members) all =
    joined (member_lines m) (mutual_lines members) (member-lines-in m.name m.constructors all.0.0 all.0.1) (lines-in members all.1)

-- ---- refusals

joined-names : (cs ds : List RawConstructor) → Each (λ c. IsIn c.name) cs → AreInLine (map (λ c. c.name) ds) → AreInLine (map (λ c. c.name) (cs ++ ds))
joined-names [] ds h k = k
joined-names (c ∷ cs) ds h k = (h.0, joined-names cs ds h.1 k)

constructors-in : (members : List RawMember) → Each (MemberIs IsIn) members → AreInLine (map (λ c. c.name) (all_constructors members))
constructors-in [] all = tt
constructors-in (m ∷ members) all = joined-names m.constructors (all_constructors members) all.0.1 (constructors-in members all.1)

unpacked-in : (raw : MutualRaw) → NamesAre IsIn raw → (e : MutualStop) → TextIn (unpacked raw e)
unpacked-in raw h stop.Memory = (refl, tt)
unpacked-in raw h stop.Deep = (refl, tt)
unpacked-in raw h stop.TagCount = (both (codes "TagCount ") (decimal _) refl (decimal-in _), tt)
unpacked-in raw h (stop.MemberLevel k) = (both (codes "MemberLevel ") (decimal k) refl (decimal-in k), tt)
unpacked-in raw h (stop.NotPositive n k) =
    (argument-in (codes "NotPositive ") (constructor_named raw n) k refl (chosen-in (map (λ c. c.name) (all_constructors raw.members)) n (constructors-in raw.members h.members)), tt)

unequal-in : (S : Signature) → NamesIn S → (member con : List ℕ) → IsIn member → IsIn con → (sides : Telescope × Term × Term) → TextIn (unequal S member con sides)
unequal-in S names member con hm hc sides =
    let before = codes "Unequal " ++ member ++ codes " " ++ con ++ codes " " in
    let own = both (codes "Unequal " ++ member ++ codes " ") con (both (codes "Unequal " ++ member) (codes " ") (both (codes "Unequal ") member refl hm) refl) hc in (
      both before (sides_text (context_text S sides.0) (term_text S sides.1) (term_text S sides.2)) (both (codes "Unequal " ++ member ++ codes " " ++ con) (codes " ") own refl)
          (sides-in (context_text S sides.0) (term_text S sides.1) (term_text S sides.2) (context-in S names sides.0) (term-in S names sides.1) (term-in S names sides.2)),
      tt,
    )

-- ---- entries

names-in : (constructors : List RawConstructor) → Each (λ c. IsIn c.name) constructors → AreInLine (map (λ c. c.name) constructors)
names-in [] h = tt
names-in (c ∷ constructors) h = (h.0, names-in constructors h.1)

as-read : (raw : RawEntry) → EntryIs IsIn Any raw → EntryNamesIn raw
as-read (RawFamilyOf raw) h = (h.0, names-in raw.constructors h.2)
as-read (RawEliminator n m) h = absurd h
as-read (RawAxiomK i m) h = absurd h
as-read (RawDefinition name type body) h = h

abbrev NamesAfter : Entered → Type 0
NamesAfter e = NamesIn e.signature

checked-in : (S : Signature) → NamesIn S → (raw : RawEntry) (left : ℕ) → EntryIs IsIn Any raw → IfOk (checked S raw left).0 NamesAfter
checked-in S names (RawFamilyOf raw) left h =
    if-ok (EntersAsDeclared S raw) NamesAfter (entering.declare_of S raw left).0 (λ e is.
    subst NamesAfter (sym is.1) (each-last (λ x. AreInLine (names_of x)) S.entries (FamilyOf is.0) names (subst AreInLine (sym is.2.names) (as-read (RawFamilyOf raw) h))))
    (declare-gives S raw left)
checked-in S names (RawEliminator n m) left h = absurd h
checked-in S names (RawAxiomK i m) left h = absurd h
checked-in S names (RawDefinition name type body) left h =
    if-ok (λ x. x ≡ entering.entered S (Definition name type body)) NamesAfter (define_of S name type body left).0 (λ x is.
    subst NamesAfter (sym is) (each-last (λ x. AreInLine (names_of x)) S.entries (Definition name type body) names (h, tt))) (define-enters S name type body left)

answered-in : (refusal : FamilyStop → Refusal) (r : Result Entered FamilyStop) (left : ℕ) → ((e : FamilyStop) → TextIn (refusal e)) → IfOk r NamesAfter
    → Runs (λ (e : Entered) rest. NamesIn e.signature) TextIn (answered refusal r, left)
answered-in refusal (Ok e) left h k = k
answered-in refusal (Err e) left h k = h e

entry-in : (S : Signature) (start fuel : ℕ) (raw : RawEntry) (left : ℕ) → NamesIn S → EntryIs IsIn Any raw
    → Runs (λ (e : Entered) rest. NamesIn e.signature) TextIn (enter_with S start fuel raw left)
entry-in S start fuel raw left names h =
    answered-in (refused S start fuel raw) (checked S raw left).0 (checked S raw left).1 (entry-refused-in S names start fuel raw (as-read raw h)) (checked-in S names raw left h)

parameter-in : (S : Signature) → NamesIn S → (fuel : ℕ) (x : Word) → WordIn x → (r : Result Term FamilyStop) (left : ℕ)
    → Comes (λ (sort : Term) rest. NamesIn S) TextIn (or_refused (unentered (λ site. S) [] (Some x) fuel) r) left
parameter-in S names fuel x h (Ok sort) left = names
parameter-in S names fuel x h (Err e) left = unentered-in (λ site. S) [] (λ site. names) tt (Some x) h fuel e

-- ---- inductions

induction-in : (member : List ℕ) → IsIn member → (base : ℕ) (names : List (List ℕ)) (type term : Term) → Splits DraftIn Any (drafted (induction_name member) base names type term)
induction-in member h base names type term =
    split-any (drafted (induction_name member) base names type term) (drafted-made (induction_name member) base names type term (both member (codes "!ind") h refl))
  where
    split-any : (r : Result Draft Stop) → IfOk r DraftIn → Splits DraftIn Any r
    split-any (Ok d) k = k
    split-any (Err e) k = tt

inductions-in : (fuel : ℕ) (r : Result (List Draft) Stop) → Splits (Each DraftIn) Any r → Splits (Each DraftIn) (λ e. TextIn (stopped fuel e)) r
inductions-in fuel (Ok drafts) h = h
inductions-in fuel (Err e) h = stopped-in fuel e

draft-in : (fuel : ℕ) (r : Result Signature function.Refusal) (left : ℕ) → Splits NamesIn RefusalIn r
    → Comes (λ (U : Signature) rest. NamesIn U) (λ e. TextIn (refused_function fuel e)) r left
draft-in fuel (Ok T) left h = h
draft-in fuel (Err e) left h = refusal-written fuel e h

stop-in : {A : Type 0} (fuel : ℕ) (r : Result A Stop) → IfErr r (λ e. TextIn (stopped fuel e))
stop-in fuel (Ok a) = tt
stop-in fuel (Err e) = stopped-in fuel e

-- ---- declarations

resolved-in : {A : Type 0} (P : A → Type 0) (r : Result A ResolveStop) → Resolves P r → Splits P (λ e. TextIn (unresolved e)) r
resolved-in P (Ok a) h = h
resolved-in P (Err e) h = unresolved-in e h

pub first-in : (members : List surf.Member) (f : Word) → Each MemberIn members → WordIn f → WordIn (first_name members f)
first-in [] f h k = k
first-in (m ∷ members) f h k = h.0.0

module _ (S : Signature) (names : NamesIn S) (fuel : ℕ) (params : List surf.Typed) (members : List surf.Member) (f tag : Word) (tags : List Word)
    (h : DeclInLine (surf.Mutual params members f tag tags)) where
  phases : Phases draft_in S fuel (surf.Mutual params members f tag tags) (λ U left. NamesIn U) TextIn (NamesAre IsIn) (EntryIs IsIn Any) DraftIn IsIn
  phases =
      let x = first_name members f in
      let hx = first-in members f h.1 h.2 in
      record {
        start = names;
        names = resolved-in (NamesAre IsIn) (mutual_family S params members f tag tags) (mutual-in S params members f tag tags h);
        named = λ raw given. given.members;
        parameter = λ before a left i.
            (let sort = sort_in S (OfParameter (length before + 1)) (context_behind [] before) a left in parameter-in S names fuel x hx sort.0 sort.1);
        unpacks = λ raw given e is. unpacked-in raw given e;
        entered = λ raw given l. entries-are IsIn Any tt S raw given tt l;
        entry = λ U raw left i k. entry-in U x.start fuel raw left i k;
        inductions = λ raw given l U.
            inductions-in fuel (inductions_of U (packed_at S raw l)) (drafts-are IsIn DraftIn Any tt induction-in S raw given l U);
        draft = λ U one left i k.
            (let entered = draft_in U x.text one left in draft-in fuel entered.0 entered.1 (draft_opened-in U i x.text hx one k left));
        equation = λ T packed k con. stop-in fuel (equation_of T packed k con);
        converts = λ T left right units. stop-in fuel (convertible_of T nesting left right units).0;
        unequal = λ T left i member con hm hc packed k number units sides is same. unequal-in T i member con hm hc sides;
      }

  pub mutual-written : (P : Elaborated → Type 0)
      → ((T : Signature) (equations : List MutualLine) → NamesIn T → Each EquationIn equations
      → P (record (with_lines (accepted_as (first_name members f).text T) []) { equations = equations }))
      → Splits P TextIn (declare_mutual draft_in S fuel (surf.Mutual params members f tag tags))
  mutual-written P k =
      mutual-comes draft_in S fuel (surf.Mutual params members f tag tags) (λ U left. NamesIn U) TextIn (NamesAre IsIn) (EntryIs IsIn Any) DraftIn IsIn phases P
      (λ raw T left given i. k T (mutual_lines raw.members) i (lines-in raw.members given.members))
