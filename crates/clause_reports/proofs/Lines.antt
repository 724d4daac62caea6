-- The statement that the line of a clause makes, however the line is found.
use Rattle.std.proofs.Common.{◌≡◌, ◌<◌, subst as transport, refl, ℕ, Bool, true, false, cond, ◌&&◌, nat_lt, IsTrue, Option, Some, None, List, [], ◌∷◌, map, All, Result, Ok, Err, IfOk, arith}
use Rattle.std.proofs.lemmas.Bool.Decides.{nat_tests}
use Rattle.std.proofs.lemmas.List.Elements.{All-cons, All-nil}
use Rattle.theory.specs.Terms.{Term}
use Rattle.theory.specs.Telescopes.{Telescope}
use Rattle.theory.specs.Conversion.{Converts}
use Rattle.theory.specs.Signatures.{Signature}
use Rattle.core_terms.specs.Answers.{SpentOr, and_next, on_answer}
use Rattle.core_terms.specs.CaseTrees.{Walk}
use Rattle.core_terms.specs.declared.stop.Stop.{Stop}
use Rattle.core_terms.proofs.Answers.{Answers, and_next-has}
use Rattle.family_check.specs.Entering.{Entered}
use Rattle.kernel_reduce.specs.Comparison.{convertible_of}
use Rattle.kernel_reduce.specs.Reduction.{nesting}
use Rattle.kernel_reduce.proofs.ComparisonLaws.{convertible-converts}
use Rattle.kernel_reduce.proofs.LookUps.{both-true}
use Rattle.case_trees.specs.pattern_vectors.Matching.{matches_all}
use Rattle.tree_translation.specs.Plans.{Plan}
use Rattle.clause_reports.specs.DraftEntering.{enter_all, enter_needed, mentioned}
use Rattle.clause_reports.specs.Equations.{Equation, equation_of, part_at, pats_of}
use Rattle.clause_reports.specs.ProofTerms.{candidate}
use Rattle.clause_reports.specs.ProofWalks.{Place, Proof, walk_of, leaves_in}
use Rattle.clause_reports.specs.Reports.{Line, Definitional, Proved, Shadowed, Absurd, Reported, reported, Reference, some_absurd, order_in, shown_leaf, if_shadowed, at_vector, at_leaf, shadowed, on_candidate, unless_converts, equation_report, report_of}
use Rattle.clause_reports.specs.Shadows.{TreeLeaf, earlier_leaf, vector_of, leaves_of, equation_at_leaf, convert_at_all}
use Rattle.clause_reports.proofs.Keeping.{Grows, enter_all-grows, enter_needed-grows}
use Rattle.clause_reports.proofs.ProvedTypes.{IsProved, candidate-enters}
use Rattle.clause_reports.specs.Stops.{Rejection, ReportStop, Reporting, Halts, Stuck, Rejected, answers, or_halts, halting}

-- ---- parts of a report

on_answer-then : {A B E : Type 0} (Q : B → Type 0) (r : Result A E) (left : ℕ) (go : A → ℕ → SpentOr E B)
    → ((a : A) → Answers Q (go a left)) → Answers Q (on_answer r left go)
on_answer-then Q (Ok a) left go k = k a
on_answer-then Q (Err e) left go k = tt

after : {A B E : Type 0} (Q : B → Type 0) (first : SpentOr E A) (go : A → ℕ → SpentOr E B)
    → ((a : A) → Answers Q (go a first.1)) → Answers Q (and_next first go)
after Q first go k = on_answer-then Q first.0 first.1 go k

-- after a call whose only refusal is a halt, and whose answer may be used as an equation
after_halts : {A B : Type 0} (Q : B → Type 0) (r : Result A Stop) (left : ℕ) (go : A → ℕ → Reporting B)
    → ((a : A) → r ≡ Ok a → Answers Q (go a left)) → Answers Q (and_next (answers (or_halts r) left) go)
after_halts Q (Ok a) left go k = k a refl
after_halts Q (Err e) left go k = tt

converts-when : (S : Signature) (a b : Term) (left : ℕ) (holds : Bool) → (convertible_of S nesting a b left).0 ≡ Ok holds → IsTrue holds → Converts S a b
converts-when S a b left holds said h =
    transport (λ r. IfOk r (λ yes. IsTrue yes → Converts S a b)) said (convertible-converts S nesting a b left) h

-- ---- the statements of lines

-- the equation of the clause is there, and its sides convert
pub record SidesConvert (S : Signature) (answer : Result Equation Stop) : Type 0 where
  pub equation : Equation
  pub is : answer ≡ Ok equation
  pub converts : Converts S equation.left equation.right

abbrev ConvertsAt : Signature → Plan → (k clause : ℕ) → (order : List ℕ) → Walk → TreeLeaf → Type 0
ConvertsAt S plan k clause order w leaf =
    (e : Equation) × (equation_at_leaf S plan k clause order w leaf ≡ Ok e) × Converts S e.left e.right

pub record IsShadow (S : Signature) (plan : Plan) (c : Reference) (earlier : ℕ) (context vector : List Term) (leaves : List (List Term × List Term))
    (T : Signature) : Type 0 where
  pub before : earlier < c.clause
  pub own : matches_all S (pats_of (part_at plan c.part) c.clause) vector ≡ true
  pub other : matches_all S (pats_of (part_at plan c.part) earlier) vector ≡ true
  pub shown : leaves ≡ map shown_leaf (leaves_of c.clause (part_at plan c.part).tree)
  pub converts : All (ConvertsAt S plan c.part c.clause (order_in S plan c.part) c.walk) (leaves_of c.clause (part_at plan c.part).tree)
  pub same : T ≡ S

-- the statement of a line about its clause, with the signature T that it comes with
abbrev pub Says : Signature → Plan → Reference → (T : Signature) → Line → Type 0
Says S plan c T Definitional = SidesConvert S (equation_of S plan c.part c.clause c.walk) × (T ≡ S)
Says S plan c T (Proved n) = IsProved S plan c.part c.clause (λ e. equation_of S plan c.part c.clause c.walk ≡ Ok e) T n
Says S plan c T (Shadowed earlier context vector leaves) = IsShadow S plan c earlier context vector leaves T
Says S plan c T Absurd = some_absurd (pats_of (part_at plan c.part) c.clause) ≡ true

abbrev pub Said : Signature → Plan → Reference → Reported → Type 0
Said S plan c r = Says S plan c r.signature r.line

-- ---- shadowed clauses

convert_at_all-says : (S : Signature) (plan : Plan) (k clause : ℕ) (order : List ℕ) (w : Walk) (leaves : List TreeLeaf) (left : ℕ)
    → Answers (λ holds. IsTrue holds → All (ConvertsAt S plan k clause order w) leaves) (convert_at_all S plan k clause order w leaves left)
convert_at_all-says S plan k clause order w [] left = λ h. All-nil (ConvertsAt S plan k clause order w)
convert_at_all-says S plan k clause order w (l ∷ leaves) left =
    after_halts Goal (equation_at_leaf S plan k clause order w l) left _ (λ e is.
    after_halts Goal (convertible_of S nesting e.left e.right left).0 (convertible_of S nesting e.left e.right left).1 _ (λ holds said.
    by e is holds (converts-when S e.left e.right left holds said) (convertible_of S nesting e.left e.right left).1
    (convert_at_all-says S plan k clause order w leaves)))
  where
    Goal : Bool → Type 0
    Goal holds = IsTrue holds → All (ConvertsAt S plan k clause order w) (l ∷ leaves)

    rest-says : (e : Equation) → equation_at_leaf S plan k clause order w l ≡ Ok e → Converts S e.left e.right → (r : Result Bool ReportStop)
        → IfOk r (λ holds. IsTrue holds → All (ConvertsAt S plan k clause order w) leaves) → IfOk r Goal
    rest-says e is converts (Ok holds) h = λ yes. All-cons (ConvertsAt S plan k clause order w) l leaves (e, is, converts) (h yes)
    rest-says e is converts (Err stop) h = tt

    by : (e : Equation) → equation_at_leaf S plan k clause order w l ≡ Ok e → (holds : Bool) → (IsTrue holds → Converts S e.left e.right) → (end : ℕ)
        → ((rest : ℕ) → Answers (λ b. IsTrue b → All (ConvertsAt S plan k clause order w) leaves) (convert_at_all S plan k clause order w leaves rest))
        → Answers Goal (cond holds (convert_at_all S plan k clause order w leaves end) (answers (Ok false) end))
    by e is true converts end others = rest-says e is (converts refl) (convert_at_all S plan k clause order w leaves end).0 (others end)
    by e is false converts end others = λ no. absurd (grind arith)

abbrev IsEarlier : ℕ → Option (ℕ × Place) → Type 0
IsEarlier clause None = Unit {0}
IsEarlier clause (Some leaf) = leaf.0 < clause

earlier_leaf-is : (S : Signature) (clause : ℕ) (leaves : List (ℕ × Place)) (left : ℕ) → Answers (IsEarlier clause) (earlier_leaf S clause leaves left)
earlier_leaf-is S clause [] left = tt
earlier_leaf-is S clause (leaf ∷ leaves) left =
    after_halts (IsEarlier clause) (convertible_of S nesting leaf.1.left leaf.1.right left).0 (convertible_of S nesting leaf.1.left leaf.1.right left).1 _
    (λ holds said. by holds (nat_lt leaf.0 clause) refl (convertible_of S nesting leaf.1.left leaf.1.right left).1 (earlier_leaf-is S clause leaves))
  where
    by : (holds test : Bool) → nat_lt leaf.0 clause ≡ test → (rest : ℕ) → ((end : ℕ) → Answers (IsEarlier clause) (earlier_leaf S clause leaves end))
        → Answers (IsEarlier clause) (cond holds (earlier_leaf S clause leaves rest) (cond test (answers (Ok (Some leaf)) rest) (earlier_leaf S clause leaves rest)))
    by true test is rest others = others rest
    by false true is rest others = grind (arith, nat_tests)
    by false false is rest others = others rest

at_vector-says : (S : Signature) (plan : Plan) (c : Reference) (r : Rejection) (earlier : ℕ) → earlier < c.clause → (context : Telescope) (vector : List Term) (left : ℕ)
    → Answers (Said S plan c) (at_vector S plan c r earlier context vector left)
at_vector-says S plan c r earlier before context vector left =
    by (matches_all S (pats_of (part_at plan c.part) c.clause) vector && matches_all S (pats_of (part_at plan c.part) earlier) vector) refl
  where
    leaves : List TreeLeaf
    leaves = leaves_of c.clause (part_at plan c.part).tree

    shadow-says : (b : Bool) → (matches_all S (pats_of (part_at plan c.part) c.clause) vector && matches_all S (pats_of (part_at plan c.part) earlier) vector) ≡ true
        → (IsTrue b → All (ConvertsAt S plan c.part c.clause (order_in S plan c.part) c.walk) (leaves_of c.clause (part_at plan c.part).tree))
        → IfOk (if_shadowed S r earlier context vector (leaves_of c.clause (part_at plan c.part).tree) b) (Said S plan c)
    shadow-says true is h = record {
      before = before;
      own = (both-true (matches_all S (pats_of (part_at plan c.part) c.clause) vector) (matches_all S (pats_of (part_at plan c.part) earlier) vector) is).0;
      other = (both-true (matches_all S (pats_of (part_at plan c.part) c.clause) vector) (matches_all S (pats_of (part_at plan c.part) earlier) vector) is).1;
      shown = refl;
      converts = h refl;
      same = refl;
    }
    shadow-says false is h = tt

    all-says : (all : Reporting Bool)
        → Answers (λ holds. IsTrue holds → All (ConvertsAt S plan c.part c.clause (order_in S plan c.part) c.walk) (leaves_of c.clause (part_at plan c.part).tree)) all
        → (matches_all S (pats_of (part_at plan c.part) c.clause) vector && matches_all S (pats_of (part_at plan c.part) earlier) vector) ≡ true
        → Answers (Said S plan c) (and_next all (λ holds rest. answers (if_shadowed S r earlier context vector (leaves_of c.clause (part_at plan c.part).tree) holds) rest))
    all-says (Ok holds, rest) h is = shadow-says holds is h
    all-says (Err e, rest) h is = tt

    by : (b : Bool) → (matches_all S (pats_of (part_at plan c.part) c.clause) vector && matches_all S (pats_of (part_at plan c.part) earlier) vector) ≡ b
        → Answers (Said S plan c) (cond b (and_next (convert_at_all S plan c.part c.clause (order_in S plan c.part) c.walk (leaves_of c.clause (part_at plan c.part).tree) left)
        (λ holds rest. answers (if_shadowed S r earlier context vector (leaves_of c.clause (part_at plan c.part).tree) holds) rest)) (answers (Err (Rejected r)) left))
    by true is =
        all-says (convert_at_all S plan c.part c.clause (order_in S plan c.part) c.walk (leaves_of c.clause (part_at plan c.part).tree) left)
        (convert_at_all-says S plan c.part c.clause (order_in S plan c.part) c.walk (leaves_of c.clause (part_at plan c.part).tree) left) is
    by false is = tt

at_leaf-says : (S : Signature) (plan : Plan) (c : Reference) (r : Rejection) (leaf : Option (ℕ × Place)) → IsEarlier c.clause leaf → (left : ℕ)
    → Answers (Said S plan c) (at_leaf S plan c r leaf left)
at_leaf-says S plan c r None before left = tt
at_leaf-says S plan c r (Some leaf) before left =
    after (Said S plan c) (halting (vector_of S (pats_of (part_at plan c.part) c.clause) (pats_of (part_at plan c.part) leaf.0) leaf.1.terms left)) _
    (λ vector. at_vector-says S plan c r leaf.0 before leaf.1.context vector _)

shadowed-says : (S : Signature) (plan : Plan) (c : Reference) (proof : Proof) (r : Rejection) (left : ℕ) → Answers (Said S plan c) (shadowed S plan c proof r left)
shadowed-says S plan c proof r left = by (earlier_leaf S c.clause (leaves_in proof) left) (earlier_leaf-is S c.clause (leaves_in proof) left)
  where
    by : (found : Reporting (Option (ℕ × Place))) → Answers (IsEarlier c.clause) found → Answers (Said S plan c) (and_next found (λ leaf rest. at_leaf S plan c r leaf rest))
    by (Ok leaf, rest) h = at_leaf-says S plan c r leaf h rest
    by (Err e, rest) h = tt

-- ---- reports

on_candidate-says : (S : Signature) (plan : Plan) (c : Reference) (proof : Proof) (entered : Result Entered ReportStop) (left : ℕ)
    → IfOk entered (λ x. Says S plan c x.signature (Proved x.number)) → Answers (Said S plan c) (on_candidate S plan c proof entered left)
on_candidate-says S plan c proof (Ok e) left h = h
on_candidate-says S plan c proof (Err (Rejected r)) left h = shadowed-says S plan c proof r left
on_candidate-says S plan c proof (Err (Halts e)) left h = tt
on_candidate-says S plan c proof (Err (Stuck context u v why)) left h = tt

unless_converts-says : (S : Signature) (plan : Plan) (c : Reference) (e : Equation) → equation_of S plan c.part c.clause c.walk ≡ Ok e
    → (holds : Bool) → (IsTrue holds → Converts S e.left e.right) → (left : ℕ) → Answers (Said S plan c) (unless_converts S plan c e holds left)
unless_converts-says S plan c e is true converts left = (record { equation = e; is = is; converts = converts refl }, refl)
unless_converts-says S plan c e is false converts left =
    after (Said S plan c) (walk_of S plan c.part c.walk e (part_at plan c.part).tree left) _ (λ proof.
    after_halts (Said S plan c) (candidate S plan c.part c.clause e proof) _ _ (λ d made.
    and_next-has (Grows S) (Said S plan c) (enter_all enter_needed S (mentioned d) _) _ (enter_all-grows enter_needed enter_needed-grows S (mentioned d) _) (λ T rest g.
    on_candidate-says S plan c proof _ _
    (candidate-enters S plan c.part c.clause (λ e. equation_of S plan c.part c.clause c.walk ≡ Ok e) e is proof d made T g rest))))

pub report-says : (S : Signature) (plan : Plan) (c : Reference) (left : ℕ) → Answers (Said S plan c) (report_of S plan c left)
report-says S plan c left = by (some_absurd (pats_of (part_at plan c.part) c.clause)) refl
  where
    by : (b : Bool) → some_absurd (pats_of (part_at plan c.part) c.clause) ≡ b
        → Answers (Said S plan c) (cond b (answers (Ok (reported S Absurd)) left) (equation_report S plan c left))
    by true is = is
    by false is =
        after_halts (Said S plan c) (equation_of S plan c.part c.clause c.walk) left _ (λ e at.
        after_halts (Said S plan c) (convertible_of S nesting e.left e.right left).0 (convertible_of S nesting e.left e.right left).1 _ (λ holds said.
        unless_converts-says S plan c e at holds (converts-when S e.left e.right left holds said) _))
