-- The lines of a plan's clauses are true of the clauses as they are written.
use Rattle.std.proofs.Common.{◌≡◌, ℕ, ◌+◌, ◌<◌, ◌≤◌, Bool, true, false, Some, List, [], ◌∷◌, ◌++◌, length, length-append, codes, Result, Ok, Err, IfOk, refl, sym, ap, ◌∙◌, subst as transport, arith}
use Rattle.std.specs.List.{All}
use Rattle.theory.specs.Signatures.{Definition, IsEntryAt, IsPrefix, Signature}
use Rattle.theory.specs.WellFormed.{IsWellFormed, provisional}
use Rattle.theory.proofs.Pushing.{prefix_transitive}
use Rattle.theory.proofs.Widening.{prefix_keeps}
use Rattle.core_terms.proofs.Answers.{Answers, and_next-has}
use Rattle.core_terms.specs.CaseTrees.{Walk}
use Rattle.core_terms.specs.Clauses.{Clauses, Is}
use Rattle.case_trees.specs.Scoped.{IsScopedWalk}
use Rattle.case_trees.specs.pattern_vectors.Matching.{matches_all}
use Rattle.std.specs.Prelude.{decimal}
use Rattle.tree_translation.specs.Plans as plans
use Rattle.tree_translation.specs.Plans.{Part, Plan}
use Rattle.elab_session.proofs.Resolved.{prelude-stays}
use Rattle.elab_session.proofs.WrittenDefinitions.{definition-of}
use Rattle.clause_reports.proofs.Keeping.{Grows, grows_on, grows_same}
use Rattle.clause_reports.proofs.Lines as found
use Rattle.clause_reports.proofs.ReportKeeping.{GrowsBy, report-grows}
use Rattle.clause_reports.specs.Equations.{part_at, pats_of, closed_type}
use Rattle.tree_translation.specs.Naming.{part_named}
use Rattle.clause_reports.specs.Reports.{Absurd, Definitional, Line, Proved, Reference, Reported, Shadowed, report_of, some_absurd}
use Rattle.clause_reports.specs.Stops.{ReportStop}
use Rattle.clause_reports.proofs.LineLaws.{absurd-line}
use Rattle.clause_reports.specs.elaboration.Functions.{ClauseLine, Following, Lines, report_parts, report_walks, with_line}
use Rattle.clause_reports.specs.elaboration.Refusals.{Owner, or_no_report, owner_of, reporting}
use Rattle.function_session.proofs.equation_laws.ShownTerms.{FamiliesStay, all-fit}
use Rattle.family_check.specs.Scopes.{HasPrelude}
use Rattle.resolve.specs.Functions.{Function}
use Rattle.elim.specs.written_functions.Clauses as written
use Rattle.elim.specs.written_functions.Clauses.{AreLinesOf, ConvertsAt, IsLineOf, Placed, Values, part_type, parts_of, placed_from, placed_in}
use Rattle.elim.proofs.written_functions.Equations.{AreLast, has-equation, placed_at, with-count}
use Rattle.elim.proofs.written_functions.Leaves.{leaves-convert}
use Rattle.elim.proofs.written_functions.Numbers.{all-under, scoped-under, telescope-under}
use Rattle.elim.proofs.written_functions.PartEntries.{HasType, part-there, type-stays}
use Rattle.elim.proofs.written_functions.PlanClauses.{ArePartsPlaced, ArePlaced, IsPlaced, earlier-there, placed-pats}
use Rattle.elim.proofs.written_functions.PlanGiven.{IsPlanGiven}
use Rattle.elim.proofs.written_functions.Proofs.{IsAsked, IsClosedUnder, IsProvedBy, SaysProved, report-asks, report-says}
use Rattle.elim.proofs.written_functions.Sides.{IsWalkUnder, type-under}

-- ---- signatures on the way

pub prefix-longer : (S T : Signature) → IsPrefix S T → length S.entries ≤ length T.entries
prefix-longer S T h = omega (arith, ap length h.entries, length-append S.entries h.more)

-- A well-formed signature that has the function, after more entries than there are before it. It comes after one with all entries of the
-- plan, where each part has its type.
pub record IsBase (S Own : Signature) (f : Function) (plan : Plan) (values : List Values) (Made : Signature) (U : Signature) : Type 0 where
  pub well : IsWellFormed U
  pub prelude : HasPrelude U
  pub own : IsPrefix Own U
  pub before : IsPrefix S U
  pub low : plan.base < length U.entries
  pub all : IsPrefix Made U
  pub parts : (k : ℕ) → k < length (parts_of f) → HasType U (part_named f.name k) (part_type (placed_at S f plan values) k)

base-grows : (S Own : Signature) (f : Function) (plan : Plan) (values : List Values) (Made U V : Signature) → Grows U V
    → IsBase S Own f plan values Made U → IsBase S Own f plan values Made V
base-grows S Own f plan values Made U V g b = record {
  well = g.keeps b.well b.prelude;
  prelude = prelude-stays U V b.prelude g.prefix;
  own = prefix_transitive Own U V b.own g.prefix;
  before = prefix_transitive S U V b.before g.prefix;
  low = omega (arith, b.low, prefix-longer U V g.prefix);
  all = prefix_transitive Made U V b.all g.prefix;
  parts = λ k low. type-stays U V (part_named f.name k) (part_type (placed_at S f plan values) k) g.prefix (b.parts k low);
}

-- ---- one clause

-- the facts of a clause's report
record IsTold (U : Signature) (plan : Plan) (c : Reference) (r : Reported) : Type 0 where
  grows : Grows U r.signature
  proved : SaysProved U plan c r
  said : found.Said U plan c r
  absurd_line : some_absurd (pats_of (part_at plan c.part) c.clause) ≡ true → r.line ≡ Absurd
  asked : some_absurd (pats_of (part_at plan c.part) c.clause) ≡ false → IsAsked U plan c

report-told : (U : Signature) (plan : Plan) (c : Reference) (left : ℕ) → IsClosedUnder U plan c → Answers (IsTold U plan c) (report_of U plan c left)
report-told U plan c left under =
    by (report_of U plan c left).0 (report-grows U plan c left) (report-says U plan c left under) (found.report-says U plan c left)
    (absurd-line U plan c left) (report-asks U plan c left)
  where
    by : (r : Result Reported ReportStop) → IfOk r (GrowsBy U) → IfOk r (SaysProved U plan c) → IfOk r (found.Said U plan c)
        → IfOk r (λ r. some_absurd (pats_of (part_at plan c.part) c.clause) ≡ true → r.line ≡ Absurd)
        → IfOk r (λ r. some_absurd (pats_of (part_at plan c.part) c.clause) ≡ false → IsAsked U plan c) → IfOk r (IsTold U plan c)
    by (Ok r) g p s a q = record { grows = g; proved = p; said = s; absurd_line = a; asked = q }
    by (Err e) g p s a q = tt

-- the line of a clause of the plan
abbrev line_at : Plan → Reference → Line → ClauseLine
line_at plan c line = record { function = part_named plan.name c.part; clause = c.clause + 1; line = line }

abbrev reference : (k number : ℕ) → Walk → Reference
reference k number w = record { part = k; clause = number; walk = w }

-- ---- a line of a clause

not-absurd : (b : Bool) (line : Line) → (b ≡ true → line ≡ Absurd) → ((line ≡ Absurd) → ⊥) → b ≡ false
not-absurd true line h never = absurd (never (h refl))
not-absurd false line h never = refl

module _ (S Own : Signature) (f : Function) (plan : Plan) (h : IsPlanGiven S f plan) (values : List Values) (Made : Signature)
    (last : (U : Signature) → IsWellFormed U → IsPrefix Made U → AreLast f plan values U) where
  proof-named : (k number : ℕ) (c : Placed) → c.part ≡ k → c.number ≡ number
      → part_named plan.name k ++ codes "!c" ++ decimal (number + 1) ≡ part_named f.name c.part ++ codes "!c" ++ decimal (c.number + 1)
  proof-named k number c part number_is =
      ap (λ name. part_named name k ++ codes "!c" ++ decimal (number + 1)) h.name
      ∙ (ap (λ i. part_named f.name i ++ codes "!c" ++ decimal (number + 1)) (sym part)
      ∙ ap (λ i. part_named f.name c.part ++ codes "!c" ++ decimal (i + 1)) (sym number_is))

  line-says : (U : Signature) (k number : ℕ) (w : Walk) (c : Placed) (p : IsPlaced S f plan h k number w c) → IsBase S Own f plan values Made U
      → (V T : Signature) (line : Line) → found.Says U plan (reference k number w) V line
      → ((n : ℕ) → line ≡ Proved n → IsProvedBy U plan (reference k number w) V n)
      → (some_absurd (pats_of (part_at plan k) number) ≡ true → line ≡ Absurd)
      → (some_absurd (pats_of (part_at plan k) number) ≡ false → IsAsked U plan (reference k number w)) → IsPrefix V T → IsWellFormed T
      → written.Says U (placed_at S f plan values) c T line
  line-says U k number w c p b V T Definitional said proved clean asked more well =
      let same = placed-pats S f plan h k number w c p in
      let none : some_absurd c.pats ≡ false =
      not-absurd (some_absurd c.pats) Definitional (λ yes. clean (ap some_absurd same ∙ yes)) (λ no. absurd (cc)) in
      record {
        equation = said.0.equation;
        of = has-equation S f plan h values U b.before k number w c (last U b.well b.all) p none said.0.equation said.0.is;
        converts = said.0.converts;
      }
  line-says U k number w c p b V T (Proved n) said proved clean asked more well =
      let same = placed-pats S f plan h k number w c p in
      let none : some_absurd c.pats ≡ false =
      not-absurd (some_absurd c.pats) (Proved n) (λ yes. clean (ap some_absurd same ∙ yes)) (λ no. absurd (cc)) in
      let by = proved n refl in
      let level = (part_at plan k).level in
      let entry : IsEntryAt T n
      (Definition (part_named f.name c.part ++ codes "!c" ++ decimal (c.number + 1)) (closed_type level by.given) by.body) =
      (prefix_keeps more).entry n _
      (transport (λ name. IsEntryAt V n (Definition name (closed_type level by.given) by.body)) (proof-named k number c p.part p.own_number) by.entry) in
      record {
        equation = by.given;
        of = has-equation S f plan h values U b.before k number w c (last U b.well b.all) p none by.given by.is;
        level = level;
        body = by.body;
        entry = entry;
        typed = definition-of (well.each n _ entry);
      }
  line-says U k number w c p b V T (Shadowed earlier context vector ls) said proved clean asked more well =
      let same = placed-pats S f plan h k number w c p in
      let none : some_absurd c.pats ≡ false =
      not-absurd (some_absurd c.pats) (Shadowed earlier context vector ls) (λ yes. clean (ap some_absurd same ∙ yes)) (λ no. absurd (cc)) in
      let other = earlier-there S f plan h k number earlier w c p said.before in
      let stay : FamiliesStay U U = λ n family at. at in
      let equates = asked (ap some_absurd same ∙ none) in
      record {
        equation = equates.given;
        of = has-equation S f plan h values U b.before k number w c (last U b.well b.all) p none equates.given equates.is;
        before = transport (λ i. earlier < i) (sym p.own_number) said.before;
        pats = other.pats;
        binds = other.binds;
        right = other.right;
        other = transport (λ i. written.clause_in f i earlier ≡ Some (Is other.pats other.binds other.right)) (sym p.part) other.there;
        other_takes = (_, _, all-fit U U (λ t. t) stay other.pats vector (ap (λ ps. matches_all U ps vector) (sym other.are) ∙ said.other));
        takes = (_, _, all-fit U U (λ t. t) stay c.pats vector (ap (λ ps. matches_all U ps vector) (sym same) ∙ said.own));
        converts =
            transport (All (ConvertsAt U (placed_at S f plan values) c)) (sym said.shown)
            (leaves-convert S f plan h values U b.before (last U b.well b.all) k number w c p said.converts);
      }
  line-says U k number w c p b V T Absurd said proved clean asked more well = ap some_absurd (sym (placed-pats S f plan h k number w c p)) ∙ said

  told-line : (U T : Signature) (k number : ℕ) (w : Walk) (c : Placed) (r : Reported) → IsPlaced S f plan h k number w c → IsBase S Own f plan values Made U
      → IsTold U plan (reference k number w) r → IsPrefix r.signature T → IsWellFormed T
      → IsLineOf Own T (placed_at S f plan values) c (line_at plan (reference k number w) r.line)
  told-line U T k number w c r p b t more well = record {
    part = ap (λ name. part_named name k) h.name ∙ ap (part_named f.name) (sym p.part);
    number = ap (λ n. n + 1) (sym p.own_number);
    over = U;
    longer = b.own;
    rest = prefix_transitive U r.signature T t.grows.prefix more;
    parts = λ i low. part-there U (placed_at S f plan values) i b.well (b.parts i low);
    says = line-says U k number w c p b r.signature T r.line t.said t.proved t.absurd_line t.asked more well;
  }

  -- ---- all clauses

  -- the lines are those of these clauses, and the signature has come from U
  pub record Tells (U : Signature) (cs : List Placed) (lines : Lines) : Type 0 where
    pub grows : Grows U lines.signature
    pub told : AreLinesOf Own lines.signature (placed_at S f plan values) cs lines.lines

  -- ones that follow
  abbrev AllTell : List Placed → Following → Type 0
  AllTell cs next = (U : Signature) (left : ℕ) → IsBase S Own f plan values Made U → Answers (Tells U cs) (next U left)

  no_report-has : {A : Type 0} (P : A → Type 0) (U : Signature) (owner : Owner) (r : Result A ReportStop) → IfOk r P → IfOk (or_no_report U owner r) P
  no_report-has P U owner (Ok a) k = k
  no_report-has P U owner (Err e) k = tt

  walk-under : (U : Signature) (w : Walk) → length (provisional S f.name f.type).entries ≤ length U.entries → IsScopedWalk (provisional S f.name f.type) w
      → IsWalkUnder (length U.entries) w
  walk-under U w le s = record {
    context = telescope-under (provisional S f.name f.type) 0 (length U.entries) w.ctx le s.context;
    goal = scoped-under (provisional S f.name f.type) (length w.ctx) (length U.entries) w.goal le s.goal;
    substitution = all-under (provisional S f.name f.type) (length w.ctx) (length U.entries) w.subst le s.substitution;
    terms = all-under (provisional S f.name f.type) (length w.ctx) (length U.entries) w.terms le s.terms;
  }

  closed-under : (U : Signature) (k number : ℕ) (w : Walk) (c : Placed) → IsPlaced S f plan h k number w c → IsBase S Own f plan values Made U
      → IsClosedUnder U plan (reference k number w)
  closed-under U k number w c p b = λ e is.
      let le : length (provisional S f.name f.type).entries ≤ length U.entries = omega (arith, with-count S f.name f.type, h.base, b.low) in
      type-under U plan (reference k number w) e b.low
      (telescope-under (provisional S f.name f.type) 0 (length U.entries) (plans.own_part plan).tele le h.own_scoped)
      (walk-under U w le p.one.fit.scoped) is

  one-more : (U : Signature) (k number : ℕ) (w : Walk) (c : Placed) (cs : List Placed) (r : Reported) (lines : Lines) → IsPlaced S f plan h k number w c
      → IsBase S Own f plan values Made U → IsTold U plan (reference k number w) r → Tells r.signature cs lines
      → Tells U (c ∷ cs) (with_line (line_at plan (reference k number w) r.line) lines)
  one-more U k number w c cs r lines p b told rest =
      let b' = base-grows S Own f plan values Made r.signature lines.signature rest.grows (base-grows S Own f plan values Made U r.signature told.grows b) in
      record {
        grows = grows_on U r.signature lines.signature told.grows rest.grows;
        told = (told-line U lines.signature k number w c r p b told rest.grows.prefix b'.well, rest.told);
      }

  walks-tell : (k number : ℕ) (walks : List Walk) (cs others : List Placed) (next : Following) → ArePlaced S f plan h k number walks cs → AllTell others next
      → AllTell (cs ++ others) (report_walks plan k number walks next)
  walks-tell k number [] [] others next placed rest U left b = rest U left b
  walks-tell k number [] (c ∷ cs) others next placed rest U left b = absurd placed
  walks-tell k number (w ∷ walks) [] others next placed rest U left b = absurd placed
  walks-tell k number (w ∷ walks) (c ∷ cs) others next placed rest U left b =
      let owner = owner_of (part_named plan.name k) number in
      let r = reference k number w in
      let P = Tells U (c ∷ (cs ++ others)) in
      and_next-has (IsTold U plan r) P (reporting U owner (report_of U plan r left)) _
      (no_report-has (IsTold U plan r) U owner (report_of U plan r left).0
      (report-told U plan r left (closed-under U k number w c placed.0 b))) (λ x more t.
      and_next-has (Tells x.signature (cs ++ others)) P (report_walks plan k (number + 1) walks next x.signature more) _
      (walks-tell k (number + 1) walks cs others next placed.1 rest x.signature more (base-grows S Own f plan values Made U x.signature t.grows b)) (λ lines end i.
      one-more U k number w c (cs ++ others) x lines placed.0 b t i))

  pub parts-tell : (k : ℕ) (parts : List Part) (lists : List Clauses) → ArePartsPlaced S f plan h k parts lists
      → AllTell (placed_from k lists) (report_parts plan k parts)
  parts-tell k [] [] placed U left b = record { grows = grows_same U; told = tt }
  parts-tell k [] (cs ∷ lists) placed U left b = absurd placed
  parts-tell k (part ∷ parts) [] placed U left b = absurd placed
  parts-tell k (part ∷ parts) (cs ∷ lists) placed U left b =
      walks-tell k 0 part.walks (placed_in k 0 (k + 1) cs) (placed_from (k + 1) lists) (report_parts plan (k + 1) parts) placed.0
      (parts-tell (k + 1) parts lists placed.1) U left b
