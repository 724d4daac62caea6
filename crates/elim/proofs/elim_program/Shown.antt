-- A declaration that is accepted is shown by the lines above it, as the headline says.
use Rattle.std.proofs.Common.{◌≡◌, ℕ, Bool, true, false, List, [], ◌∷◌, ◌++◌, codes, Option, Some, None, Ok, refl, sym, ap, ◌∙◌, arith}
use Rattle.std.specs.Prelude.{Contains, IsTrue, bytes_eq, ◌&&◌, if◌then◌else◌}
use Rattle.std.proofs.lemmas.Bool.{true≢false}
use Rattle.std.proofs.lemmas.List.Elements.{Contains-append_right}
use Rattle.std.proofs.lemmas.Option.{slice_get_within}
use Rattle.std.proofs.lemmas.Slice.Eq.{bytes_eq-Decides}
use Rattle.theory.specs.Signatures.{Definition, FamilyOf}
use Rattle.theory.specs.WellFormed.{pushed}
use Rattle.decide_eq.proofs.PlainShapes.{decision-there}
use Rattle.surface_syntax.specs.Trees as surf
use Rattle.surface_syntax.specs.declared.tree.Word.{Word}
use Rattle.resolve.specs.DeclaredNames.{first_name}
use Rattle.elab_session.specs.Sessions.{IsReady}
use Rattle.function_session.specs.Declaring.{declared_in}
use Rattle.function_session.specs.Elaborating.{Elaborated}
use Rattle.function_session.specs.Laws.{IsAsDeclared}
use Rattle.function_session.specs.Sessions.{Session}
use Rattle.function_session.specs.decisions.Known.{known_into}
use Rattle.function_session.specs.decisions.Laws.{IsWrittenDecision, type_of_decision}
use Rattle.function_session.specs.mutual_families.Laws.{IsWrittenMutual}
use Rattle.elim.specs.declared.program_texts.words.Command.{Command}
use Rattle.elim.specs.elim_program.Acceptance.{AcceptedIsShown}
use Rattle.elim.specs.elim_program.Outputs.{head_lines}
use Rattle.elim.specs.program_texts.Words.{asked, command, flags, fuel_of, is_fuel, is_k, with_fuel}
use Rattle.elim.specs.elim_program.Written.{IsDecisionWritten, IsMutualWritten, IsWritten}
use Rattle.elim.proofs.elim_program.DecisionNames.{are-named, entry-found}
use Rattle.elim.proofs.elim_program.FirstNames.{first-of_name, plain-name, plain-signature}
use Rattle.elim.proofs.elim_program.Lines.{if_ok}
use Rattle.elim.proofs.elim_program.NoEquations.{no-equations}
use Rattle.elim.proofs.elim_program.Reading.{is-read}
use Rattle.elim.specs.written_functions.PlannedFunctions.{IsByPlannedClauses}
use Rattle.elim.proofs.written_functions.Functions.{by-clauses}

-- ---- elements

first-of : {A : Type 0} (xs : List A) (x y : A) → y ≡ x → Contains (y ∷ xs) x
first-of xs x y e = (0, omega arith, e)

later-in : {A : Type 0} (xs : List A) (x y : A) → Contains xs x → Contains (y ∷ xs) x
later-in xs x y h = Contains-append_right (y ∷ []) xs x h

-- ---- words that ask for axiom K

k-of : Option Command → Bool
k-of (Some c) = c.k
k-of None = false

none-k : (o : Option ℕ) → k-of (with_fuel false o) ≡ true → ⊥
unfolding k-of
none-k (Some n) e = true≢false (sym e)
none-k None e = true≢false (sym e)

is-word : (word : List ℕ) → is_k word ≡ true → word ≡ codes "--k"
is-word word e = (bytes_eq-Decides word (codes "--k")).0 e

flags-k : (words : List (List ℕ)) → k-of (flags words) ≡ true → Contains words (codes "--k")
unfolding k-of
flags-k [] e = absurd (true≢false (sym e))
flags-k (a ∷ []) e = by (is_k a) refl e
  where
    by : (b : Bool) → is_k a ≡ b → k-of (if b then Some (command true 100000000) else None) ≡ true → Contains (a ∷ []) (codes "--k")
    by true h e = first-of [] (codes "--k") a (is-word a h)
    by false h e = absurd (true≢false (sym e))
flags-k (a ∷ b ∷ []) e = by (is_fuel a) e
  where
    by : (is : Bool) → k-of (if is then with_fuel false (fuel_of b) else None) ≡ true → Contains (a ∷ b ∷ []) (codes "--k")
    by true e = absurd (none-k (fuel_of b) e)
    by false e = absurd (true≢false (sym e))
flags-k (a ∷ b ∷ c ∷ []) e = by (is_k a) refl (is_fuel b) (is_fuel a) (is_k c) refl e
  where
    by : (p : Bool) → is_k a ≡ p → (q r s : Bool) → is_k c ≡ s
        → k-of (if p && q then with_fuel true (fuel_of c) else (if r && s then with_fuel true (fuel_of b) else None)) ≡ true → Contains (a ∷ b ∷ c ∷ []) (codes "--k")
    by true h q r s g e = first-of (b ∷ c ∷ []) (codes "--k") a (is-word a h)
    by false h q true true g e = later-in (b ∷ c ∷ []) (codes "--k") a (later-in (c ∷ []) (codes "--k") b (first-of [] (codes "--k") c (is-word c g)))
    by false h q true false g e = absurd (true≢false (sym e))
    by false h q false s g e = absurd (true≢false (sym e))
flags-k (a ∷ b ∷ c ∷ d ∷ words) e = absurd (true≢false (sym e))

asked-k : (words : List (List ℕ)) → k-of (asked words) ≡ true → Contains words (codes "--k")
unfolding k-of
asked-k [] e = absurd (true≢false (sym e))
asked-k (mode ∷ words) e = by (bytes_eq mode (codes "compile")) e
  where
    by : (b : Bool) → k-of (if b then flags words else None) ≡ true → Contains (mode ∷ words) (codes "--k")
    by true e = later-in words (codes "--k") mode (flags-k words e)
    by false e = absurd (true≢false (sym e))

asks-k : (words : List (List ℕ)) (c : Command) → asked words ≡ Some c → IsTrue c.k → Contains words (codes "--k")
unfolding k-of
asks-k words c asks k = asked-k words (ap k-of asks ∙ k)

-- ---- decisions of equality

pub decision-written : (s : Session) (x family into : Word) (a : Elaborated) → IsWrittenDecision s x family into a → IsDecisionWritten s.signature x family into a.signature
decision-written s x family into a is =
    let S = s.signature in
    let d = is.given in
    let are = are-named S x family into d is.resolved in
    let known = known_into d.into s.decisions in
    let decision = decision-there S d.family d.into known is.decided is.there is.plain in
    let type = type_of_decision d.family is.decided d.into in
    record {
      number = d.family;
      decided = is.decided;
      found = entry-found S family d.family are.family_found (slice_get_within S.entries d.family (FamilyOf is.decided) is.there);
      there = is.there;
      target = d.into;
      target_found = entry-found S into d.into are.into_found (slice_get_within S.entries d.into (FamilyOf decision.family) decision.there);
      before = is.before;
      body = is.body;
      longer = is.longer;
      typed = is.typed;
      added = plain-signature x.text (pushed is.before (Definition x.text type is.body)) a is.accepted;
    }

-- ---- families that refer to each other

pub mutual-written : (s : Session) (params : List surf.Typed) (members : List surf.Member) (family tag : Word) (tags : List Word) (a : Elaborated)
    → IsWrittenMutual s.signature (surf.Mutual params members family tag tags) a
    → IsMutualWritten s.signature (surf.Mutual params members family tag tags) a.signature a.equations
mutual-written s params members family tag tags a is = record {
  raw = is.given;
  resolved = is.resolved;
  packed = is.packed;
  is = is.is;
  before = is.before;
  entered = is.entered;
  drafts = is.drafts;
  drafted = is.drafted;
  inductions = is.inductions;
  longer = is.longer;
  shown = is.shown;
  equal = is.equations;
}

-- ---- each form of declaration

written-as : (s : Session) (d : surf.Decl) (a : Elaborated) (name : List ℕ) → IsReady s.signature → declared_in s d ≡ Ok a → IsAsDeclared s d a
    → a.name ≡ name → IsWritten s.signature d name a.signature a.lines a.equations
written-as s (surf.Def x ty body) a name ready same is named =
    let w = is.written in
    let T = pushed s.signature (Definition x.text w.type w.term) in (
      plain-name x.text T a name w.accepted named,
      is.lines,
      no-equations s (surf.Def x ty body) a tt same,
      record {
        type = w.type;
        term = w.term;
        type_resolved = w.type_resolved;
        body_resolved = w.body_resolved;
        typed = w.typed;
        added = plain-signature x.text T a w.accepted;
      },
    )
written-as s (surf.Data x params ty cons) a name ready same is named =
    let w = is.written in
    let T = pushed s.signature (FamilyOf w.entry) in (
      plain-name x.text T a name w.accepted named,
      is.lines,
      no-equations s (surf.Data x params ty cons) a tt same,
      record {
        raw = w.raw;
        entry = w.entry;
        resolved = w.resolved;
        given = w.given;
        formed = w.formed;
        added = plain-signature x.text T a w.accepted;
      },
    )
written-as s (surf.Fun x ty clauses) a name ready same is named = (
  plain-name x.text a.signature a name is.accepted named,
  no-equations s (surf.Fun x ty clauses) a tt same,
  (if_ok (IsByPlannedClauses s.signature s.fuel x ty clauses) (declared_in s (surf.Fun x ty clauses)) a same
      (by-clauses s.signature s.fuel x ty clauses ready)).by_clauses,
)
written-as s (surf.Decide x family into) a name ready same is named =
    let type = type_of_decision is.given.family is.decided is.given.into in (
      plain-name x.text (pushed is.before (Definition x.text type is.body)) a name is.accepted named,
      is.lines,
      no-equations s (surf.Decide x family into) a tt same,
      decision-written s x family into a is,
    )
written-as s (surf.Mutual params members family tag tags) a name ready same is named = (
  plain-name (first_name members family).text a.signature a name is.accepted named,
  is.lines,
  mutual-written s params members family tag tags a is,
)

pub shown : AcceptedIsShown
shown words bytes above name a = record {
  k = a.command.k;
  asked_for = asks-k words a.command a.asked_for;
  decls = a.decls;
  text = is-read bytes a.decls a.text;
  front = a.front;
  declaration = a.declaration;
  back = a.back;
  in_text = a.in_text;
  first = first-of_name words bytes above name a;
  before = a.session.signature;
  after = a.accepted.signature;
  clauses = a.accepted.lines;
  equations = a.accepted.equations;
  written = written-as a.session a.declaration a.accepted name a.ready a.elaborated a.written a.named;
  longer = a.longer;
  formed = a.whole.well_formed;
  earlier = a.earlier;
  shown = a.so_far;
  lines = a.heads ∙ ap (λ ls. head_lines a.command.k ++ ls) a.ends;
}
