-- The entry of a line that says that it proves the clause's equation.
use Rattle.std.proofs.Common.{◌≡◌, ℕ, ◌<◌, ◌&&◌, Bool, true, false, cond, Option, Some, None, Result, Ok, Err, IfOk, List, [], length, refl, sym, ap, ◌∙◌, subst as transport}
use Rattle.theory.specs.Terms.{Term}
use Rattle.theory.specs.Telescopes.{Telescope, functions}
use Rattle.theory.specs.Signatures.{Definition, Entry, IsEntryAt, Signature}
use Rattle.core_sig.specs.Drafts.{Draft}
use Rattle.core_sig.specs.Settling.{renumbered, renumbered_entry, settled_number}
use Rattle.core_terms.proofs.Answers.{Answers, and_next-has}
use Rattle.core_terms.specs.Answers.{and_next}
use Rattle.core_terms.specs.declared.stop.Stop.{Stop}
use Rattle.family_check.specs.Entering.{Entered}
use Rattle.kernel_reduce.specs.Comparison.{convertible_of}
use Rattle.kernel_reduce.specs.Reduction.{nesting}
use Rattle.case_trees.specs.pattern_vectors.Matching.{matches_all}
use Rattle.unification.proofs.Cases.{first-of_two}
use Rattle.tree_translation.proofs.Drafting.{IsInOrder, in_order-is, places_of}
use Rattle.tree_translation.specs.Naming.{Naming, number_among, number_in, with_names}
use Rattle.tree_translation.specs.Plans.{Plan}
use Rattle.clause_reports.proofs.Keeping.{Any, any}
use Rattle.clause_reports.specs.DraftEntering.{enter_all, enter_entry, enter_needed, mentioned}
use Rattle.clause_reports.specs.Equations.{Equation, equation_of, part_at, pats_of, closed_type}
use Rattle.clause_reports.specs.ProofTerms.{candidate, proof_name, proof_names, proof_term}
use Rattle.clause_reports.specs.ProofWalks.{Place, Proof, leaves_in, walk_of}
use Rattle.clause_reports.specs.Reports.{Absurd, Line, Proved, Reference, Reported, at_leaf, at_vector, equation_report, if_shadowed, on_candidate, order_in, report_of, reported, shadowed, some_absurd, unless_converts}
use Rattle.clause_reports.specs.Shadows.{TreeLeaf, convert_at_all, earlier_leaf, leaves_of, vector_of}
use Rattle.clause_reports.specs.Stops.{Halts, Rejected, Rejection, ReportStop, Reporting, Stuck, answers, halting, or_halts}
use Rattle.clause_reports.proofs.ProvedTypes.{enter_entry-there}
use Rattle.elim.proofs.written_functions.Numbers.{AreUnder, under-stays}

-- ---- the entry

abbrev pub IsThere : Entry → Entered → Type 0
IsThere e x = IsEntryAt x.signature x.number e

-- ---- the candidate

-- entry n of T is a definition of the closed type of the clause's equation
pub record IsProvedBy (S : Signature) (plan : Plan) (c : Reference) (T : Signature) (n : ℕ) : Type 0 where
  pub given : Equation
  pub is : equation_of S plan c.part c.clause c.walk ≡ Ok given
  pub body : Term
  pub entry : IsEntryAt T n (Definition (proof_name plan c.part c.clause) (closed_type (part_at plan c.part).level given) body)

-- the constants of the clause's closed type are numbers of entries
abbrev pub IsClosedUnder : Signature → Plan → Reference → Type 0
IsClosedUnder S plan c =
    (e : Equation) → equation_of S plan c.part c.clause c.walk ≡ Ok e → AreUnder (length S.entries) (closed_type (part_at plan c.part).level e)

candidate-there : (S : Signature) (plan : Plan) (c : Reference) (e : Equation) → equation_of S plan c.part c.clause c.walk ≡ Ok e
    → AreUnder (length S.entries) (closed_type (part_at plan c.part).level e) → (proof : Proof) (d : Draft)
    → candidate S plan c.part c.clause e proof ≡ Ok d → (T : Signature) (left : ℕ)
    → Answers (λ x. IsProvedBy S plan c x.signature x.number) (enter_entry T (renumbered_entry (settled_number T d.base d.names) d.entry) left)
candidate-there S plan c e is under proof d h T left =
    by (enter_entry T (renumbered_entry r d.entry) left).0 (enter_entry-there T (renumbered_entry r d.entry) left)
  where
    L : ℕ
    L = (part_at plan c.part).level

    r : ℕ → ℕ
    r = settled_number T d.base d.names

    type : Term
    type = closed_type L e

    name : List ℕ
    name = proof_name plan c.part c.clause

    term : Naming → Term
    term number = functions e.context (proof_term S number L proof)

    places : List ℕ
    places = places_of (length S.entries) type (term (number_in (length S.entries) (with_names [] (proof_names S L proof))))

    made : IsInOrder name (length S.entries) (proof_names S L proof) (λ number. type) term d
    made = in_order-is name (length S.entries) (proof_names S L proof) (λ number. type) term d h

    body : Term
    body = renumbered r (renumbered (number_among (length S.entries) places) (term (number_in (length S.entries) (with_names [] (proof_names S L proof)))))

    settled : (k : ℕ) → k < length S.entries → r k ≡ k
    settled k low = first-of_two k d.base k _ (transport (λ b. k < b) (sym made.same_base) low)

    whole : renumbered_entry r d.entry ≡ Definition name type body
    whole =
        ap (renumbered_entry r) made.entry
        ∙ ap (λ t. Definition name t body)
        (ap (renumbered r) (under-stays (length S.entries) (number_among (length S.entries) places) (λ k low. first-of_two k (length S.entries) k _ low) type under)
        ∙ under-stays (length S.entries) r settled type under)

    by : (x : Result Entered ReportStop) → IfOk x (IsThere (renumbered_entry r d.entry)) → IfOk x (λ x. IsProvedBy S plan c x.signature x.number)
    by (Ok x) there = record {
      given = e;
      is = is;
      body = body;
      entry = transport (λ entry. IsEntryAt x.signature x.number entry) whole there;
    }
    by (Err stop) there = tt

-- ---- the report

-- where the line names an entry, the entry proves the equation
abbrev pub SaysProved : Signature → Plan → Reference → Reported → Type 0
SaysProved S plan c r = (n : ℕ) → r.line ≡ Proved n → IsProvedBy S plan c r.signature n

halts-is : {A : Type 0} (r : Result A Stop) → IfOk (or_halts r) (λ a. r ≡ Ok a)
halts-is (Ok a) = refl
halts-is (Err e) = tt

shadow-says : (S : Signature) (plan : Plan) (c : Reference) (r : Rejection) (earlier : ℕ) (context : Telescope) (vector : List Term) (leaves : List TreeLeaf) (b : Bool)
    → IfOk (if_shadowed S r earlier context vector leaves b) (SaysProved S plan c)
shadow-says S plan c r earlier context vector leaves true = λ n is. absurd (cc)
shadow-says S plan c r earlier context vector leaves false = tt

vector-says : (S : Signature) (plan : Plan) (c : Reference) (r : Rejection) (earlier : ℕ) (context : Telescope) (vector : List Term) (left : ℕ)
    → Answers (SaysProved S plan c) (at_vector S plan c r earlier context vector left)
vector-says S plan c r earlier context vector left =
    by (matches_all S (pats_of (part_at plan c.part) c.clause) vector && matches_all S (pats_of (part_at plan c.part) earlier) vector)
  where
    all : Reporting Bool
    all = convert_at_all S plan c.part c.clause (order_in S plan c.part) c.walk (leaves_of c.clause (part_at plan c.part).tree) left

    by : (b : Bool) → Answers (SaysProved S plan c)
        (cond b (and_next all (λ holds rest. answers (if_shadowed S r earlier context vector (leaves_of c.clause (part_at plan c.part).tree) holds) rest))
        (answers (Err (Rejected r)) left))
    by true =
        and_next-has Any (SaysProved S plan c) all _ (any all.0)
        (λ holds rest u. shadow-says S plan c r earlier context vector (leaves_of c.clause (part_at plan c.part).tree) holds)
    by false = tt

leaf-says : (S : Signature) (plan : Plan) (c : Reference) (r : Rejection) (leaf : Option (ℕ × Place)) (left : ℕ)
    → Answers (SaysProved S plan c) (at_leaf S plan c r leaf left)
leaf-says S plan c r None left = tt
leaf-says S plan c r (Some leaf) left =
    let made = halting (vector_of S (pats_of (part_at plan c.part) c.clause) (pats_of (part_at plan c.part) leaf.0) leaf.1.terms left) in
    and_next-has Any (SaysProved S plan c) made _ (any made.0) (λ vector rest u. vector-says S plan c r leaf.0 leaf.1.context vector rest)

shadowed-says : (S : Signature) (plan : Plan) (c : Reference) (proof : Proof) (r : Rejection) (left : ℕ)
    → Answers (SaysProved S plan c) (shadowed S plan c proof r left)
shadowed-says S plan c proof r left =
    let found = earlier_leaf S c.clause (leaves_in proof) left in
    and_next-has Any (SaysProved S plan c) found _ (any found.0) (λ leaf rest u. leaf-says S plan c r leaf rest)

candidate-says : (S : Signature) (plan : Plan) (c : Reference) (proof : Proof) (entered : Result Entered ReportStop) (left : ℕ)
    → IfOk entered (λ x. IsProvedBy S plan c x.signature x.number) → Answers (SaysProved S plan c) (on_candidate S plan c proof entered left)
candidate-says S plan c proof (Ok x) left h = λ n is. transport (IsProvedBy S plan c x.signature) (number x.number n is) h
  where
    number : (m n : ℕ) → ◌≡◌ {A = Line} (Proved m) (Proved n) → m ≡ n
    number m n e = cc
candidate-says S plan c proof (Err (Rejected r)) left h = shadowed-says S plan c proof r left
candidate-says S plan c proof (Err (Halts e)) left h = tt
candidate-says S plan c proof (Err (Stuck context u v why)) left h = tt

converts-says : (S : Signature) (plan : Plan) (c : Reference) (e : Equation) → IsClosedUnder S plan c → equation_of S plan c.part c.clause c.walk ≡ Ok e
    → (holds : Bool) (left : ℕ) → Answers (SaysProved S plan c) (unless_converts S plan c e holds left)
converts-says S plan c e under is true left = λ n no. absurd (cc)
converts-says S plan c e under is false left =
    let P = SaysProved S plan c in
    let walked = walk_of S plan c.part c.walk e (part_at plan c.part).tree left in
    and_next-has Any P walked _ (any walked.0) (λ proof rest u.
    let made = candidate S plan c.part c.clause e proof in
    and_next-has (λ d. made ≡ Ok d) P (answers (or_halts made) rest) _ (halts-is made) (λ d end d_is.
    let all = enter_all enter_needed S (mentioned d) end in
    and_next-has Any P all _ (any all.0) (λ T last v.
    candidate-says S plan c proof _ _ (candidate-there S plan c e is (under e is) proof d d_is T last))))

pub report-says : (S : Signature) (plan : Plan) (c : Reference) (left : ℕ) → IsClosedUnder S plan c
    → Answers (SaysProved S plan c) (report_of S plan c left)
report-says S plan c left under = by (some_absurd (pats_of (part_at plan c.part) c.clause))
  where
    P : Reported → Type 0
    P = SaysProved S plan c

    asked : Answers (SaysProved S plan c) (equation_report S plan c left)
    asked =
        let made = equation_of S plan c.part c.clause c.walk in
        and_next-has (λ e. made ≡ Ok e) P (answers (or_halts made) left) _ (halts-is made) (λ e rest is.
        let compared = halting (convertible_of S nesting e.left e.right rest) in
        and_next-has Any P compared _ (any compared.0) (λ holds end u. converts-says S plan c e under is holds end))

    by : (b : Bool) → Answers (SaysProved S plan c) (cond b (answers (Ok (reported S Absurd)) left) (equation_report S plan c left))
    by true = λ n no. absurd (cc)
    by false = asked

-- ---- the equation

-- the equation that a clause is asked about
pub record IsAsked (S : Signature) (plan : Plan) (c : Reference) : Type 0 where
  pub given : Equation
  pub is : equation_of S plan c.part c.clause c.walk ≡ Ok given

-- a clause without `( )` that has a line has an equation, whatever the line is
pub report-asks : (S : Signature) (plan : Plan) (c : Reference) (left : ℕ)
    → Answers (λ r. some_absurd (pats_of (part_at plan c.part) c.clause) ≡ false → IsAsked S plan c) (report_of S plan c left)
report-asks S plan c left = by (some_absurd (pats_of (part_at plan c.part) c.clause))
  where
    constant : {A : Type 0} (Q : Type 0) (r : Result A ReportStop) → Q → IfOk r (λ a. Q)
    constant Q (Ok a) q = q
    constant Q (Err e) q = tt

    asked : Answers (λ r. IsAsked S plan c) (equation_report S plan c left)
    asked =
        let made = equation_of S plan c.part c.clause c.walk in
        and_next-has (λ e. made ≡ Ok e) (λ (r : Reported). IsAsked S plan c) (answers (or_halts made) left) _ (halts-is made) (λ e rest is.
        constant (IsAsked S plan c) _ (record { given = e; is = is }))

    by : (b : Bool) → Answers (λ r. b ≡ false → IsAsked S plan c) (cond b (answers (Ok (reported S Absurd)) left) (equation_report S plan c left))
    by true = λ no. absurd (cc)
    by false = under (equation_report S plan c left).0 asked
      where
        under : (r : Result Reported ReportStop) → IfOk r (λ r. IsAsked S plan c) → IfOk r (λ r. false ≡ false → IsAsked S plan c)
        under (Ok r) h = λ yes. h
        under (Err e) h = tt
