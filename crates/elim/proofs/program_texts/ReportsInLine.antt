-- After the report of a clause the names of the signature hold no line feed, and a refusal in it is written without one.
use Rattle.std.proofs.Common.{ℕ, zero, suc, ◌+◌, nat_lt, Bool, true, false, ◌&&◌, cond, Option, Some, None, List, [], ◌∷◌, ◌++◌, length, map, get_or, codes, Result, Ok, Err, IfOk, refl, arith}
use Rattle.std.specs.Prelude.{◌%◌, ◌/◌, decimal}
use Rattle.theory.specs.Terms.{Term}
use Rattle.theory.specs.Telescopes.{Telescope, functions}
use Rattle.theory.specs.Signatures.{Signature, Definition}
use Rattle.core_terms.specs.Answers.{and_next, and_then, bounded}
use Rattle.core_terms.specs.CaseTrees.{Walk}
use Rattle.core_terms.specs.declared.stop.Stop.{Stop}
use Rattle.core_terms.proofs.Answers.{Splits, and_next-splits}
use Rattle.core_sig.specs.Drafts.{Draft, drafted}
use Rattle.core_sig.specs.Settling.{renumbered, renumbered_entry, settled_number}
use Rattle.core_text.proofs.Feeds.{both, decimal-in}
use Rattle.family_check.specs.Entering.{Entered}
use Rattle.kernel_reduce.specs.Comparison.{convertible_of}
use Rattle.kernel_reduce.specs.Reduction.{nesting}
use Rattle.case_trees.specs.pattern_vectors.Matching.{matches_all}
use Rattle.tree_translation.specs.Naming as naming
use Rattle.tree_translation.specs.Naming.{Naming, drafted_in_order, helper_name, mentions, number_among, number_in, once, with_names, part_named}
use Rattle.tree_translation.specs.Plans.{Part, Plan}
use Rattle.clause_reports.specs.DraftEntering.{enter_all, enter_entry, enter_needed, mentioned}
use Rattle.clause_reports.specs.Equations.{Equation, closed_type, equation_of, part_at, part_name, pats_of}
use Rattle.clause_reports.specs.ProofTerms.{candidate, proof_name, proof_names, proof_term}
use Rattle.clause_reports.specs.ProofWalks.{Place, Proof, first_place, leaves_in, walk_of}
use Rattle.clause_reports.specs.Reports.{Reference, Reported, Absurd, at_leaf, at_vector, equation_report, if_shadowed, on_candidate, order_in, report_of, reported, shadowed, some_absurd, unless_converts, with_candidate}
use Rattle.clause_reports.specs.Shadows.{TreeLeaf, convert_at_all, earlier_leaf, equation_at_leaf, leaves_of, vector_of}
use Rattle.clause_reports.specs.Stops.{Halts, Rejected, Rejection, ReportStop, Reporting, Stuck, answers, or_halts, halting}
use Rattle.elim.proofs.program_texts.EnteredNames.{IsIn, ReportIn, NamesAfter, DraftIn, enter_all-in, enter_needed-in, settled-in}
use Rattle.elim.proofs.program_texts.QuietWalks.{Any, Quiet, quietly, halts-quiet, walk_tree-quiet}
use Rattle.elim.proofs.program_texts.SessionInLine.{NamesIn}
use Rattle.elim.proofs.program_texts.TokensInLine.{apart, cons-in}

-- ---- names of parts and proofs

digits-in : (more n : ℕ) → IsIn (naming.digits more n)
digits-in zero n = cons-in (48 + n) [] (apart 48 n (omega arith)) refl
digits-in (suc more) n = by (digits-in more (n / 10)) (nat_lt n 10)
  where
    last : IsIn ((48 + n % 10) ∷ [])
    last = cons-in (48 + n % 10) [] (apart 48 (n % 10) (omega arith)) refl

    by : IsIn (naming.digits more (n / 10)) → (small : Bool) → IsIn (cond small ((48 + n) ∷ []) (naming.digits more (n / 10) ++ (48 + n % 10) ∷ []))
    by h true = cons-in (48 + n) [] (apart 48 n (omega arith)) refl
    by h false = both (naming.digits more (n / 10)) ((48 + n % 10) ∷ []) h last

pub helper-in : (function : List ℕ) (k : ℕ) → IsIn function → IsIn (helper_name function k)
helper-in function k h = both (function ++ codes "!w") (naming.decimal k) (both function (codes "!w") h refl) (digits-in 9 k)

pub part-in : (function : List ℕ) (k : ℕ) → IsIn function → IsIn (part_named function k)
part-in function zero h = h
part-in function (suc k) h = helper-in function (suc k) h

pub drafted-made : (name : List ℕ) (base : ℕ) (names : List (List ℕ)) (type term : Term) → IsIn name → IfOk (drafted name base names type term) DraftIn
drafted-made name base names type term h = by (bounded type) (bounded term)
  where
    by : (t u : Result Term Stop) → IfOk (and_then t (λ a. and_then u (λ b. Ok (record { entry = Definition name a b; base = base; names = names })))) DraftIn
    by (Ok a) (Ok b) = (h, tt)
    by (Ok a) (Err e) = tt
    by (Err e) u = tt

pub ordered-made : (name : List ℕ) (base : ℕ) (candidates : List (List ℕ)) (type term : Naming → Term) → IsIn name → IfOk (drafted_in_order name base candidates type term) DraftIn
ordered-made name base candidates type term h =
    let table = with_names [] candidates in
    let t = type (number_in base table) in
    let u = term (number_in base table) in
    let places = once [] (mentions base t ++ mentions base u) in
    drafted-made name base (map (λ i. get_or table i []) places) (renumbered (number_among base places) t) (renumbered (number_among base places) u) h

candidate-in : (S : Signature) (plan : Plan) (k clause : ℕ) (e : Equation) (proof : Proof) → IsIn plan.name → IfOk (candidate S plan k clause e proof) DraftIn
candidate-in S plan k clause e proof h =
    let L = (part_at plan k).level in
    let own : IsIn (proof_name plan k clause) =
    both (part_name plan k ++ codes "!c") (decimal (clause + 1)) (both (part_name plan k) (codes "!c") (part-in plan.name k h) refl) (decimal-in (clause + 1)) in
    ordered-made (proof_name plan k clause) (length S.entries) (proof_names S L proof) (λ number. closed_type L e)
    (λ number. functions e.context (proof_term S number L proof)) own

pub halts-in : {A : Type 0} (P : A → Type 0) (r : Result A Stop) → IfOk r P → Splits P ReportIn (or_halts r)
halts-in P (Ok a) h = h
halts-in P (Err e) h = tt

-- ---- shadowed clauses

all-quiet : (S : Signature) (plan : Plan) (k clause : ℕ) (order : List ℕ) (w : Walk) (leaves : List TreeLeaf) (left : ℕ)
    → Quiet (convert_at_all S plan k clause order w leaves left)
all-quiet S plan k clause order w [] left = tt
all-quiet S plan k clause order w (l ∷ leaves) left =
    quietly (answers (or_halts (equation_at_leaf S plan k clause order w l)) left) _ (halts-quiet (equation_at_leaf S plan k clause order w l)) (λ e rest.
    quietly (halting (convertible_of S nesting e.left e.right rest)) _ (halts-quiet (convertible_of S nesting e.left e.right rest).0) (λ holds end.
    by holds end (all-quiet S plan k clause order w leaves end)))
  where
    by : (holds : Bool) (end : ℕ) → Quiet (convert_at_all S plan k clause order w leaves end)
        → Quiet (cond holds (convert_at_all S plan k clause order w leaves end) (answers (Ok false) end))
    by true end h = h
    by false end h = tt

leaf-quiet : (S : Signature) (clause : ℕ) (leaves : List (ℕ × Place)) (left : ℕ) → Quiet (earlier_leaf S clause leaves left)
leaf-quiet S clause [] left = tt
leaf-quiet S clause (leaf ∷ leaves) left =
    quietly (halting (convertible_of S nesting leaf.1.left leaf.1.right left)) _ (halts-quiet (convertible_of S nesting leaf.1.left leaf.1.right left).0) (λ holds rest.
    by holds (nat_lt leaf.0 clause) rest (leaf-quiet S clause leaves rest))
  where
    by : (holds before : Bool) (rest : ℕ) → Quiet (earlier_leaf S clause leaves rest)
        → Quiet (cond holds (earlier_leaf S clause leaves rest) (cond before (answers (Ok (Some leaf)) rest) (earlier_leaf S clause leaves rest)))
    by true before rest h = h
    by false true rest h = tt
    by false false rest h = h

-- the signature after a line
abbrev pub ReportedIn : Reported → Type 0
ReportedIn r = NamesIn r.signature

abbrev pub Reports : Reporting Reported → Type 0
Reports r = Splits ReportedIn ReportIn r.0

after_quiet : {A : Type 0} (first : Reporting A) (go : A → ℕ → Reporting Reported) → Quiet first → ((a : A) (rest : ℕ) → Reports (go a rest)) → Reports (and_next first go)
after_quiet first go h k = and_next-splits Any ReportedIn ReportIn first go h (λ a rest u. k a rest)

if_shadowed-in : (S : Signature) → NamesIn S → (r : Rejection) → ReportIn (Rejected r) → (earlier : ℕ) (context : Telescope) (vector : List Term) (leaves : List TreeLeaf) (holds : Bool)
    → Splits ReportedIn ReportIn (if_shadowed S r earlier context vector leaves holds)
if_shadowed-in S names r denied earlier context vector leaves true = names
if_shadowed-in S names r denied earlier context vector leaves false = denied

at_vector-in : (S : Signature) → NamesIn S → (plan : Plan) (c : Reference) (r : Rejection) → ReportIn (Rejected r) → (earlier : ℕ) (context : Telescope) (vector : List Term) (left : ℕ)
    → Reports (at_vector S plan c r earlier context vector left)
at_vector-in S names plan c r denied earlier context vector left =
    by (matches_all S (pats_of part c.clause) vector && matches_all S (pats_of part earlier) vector) (leaves_of c.clause part.tree)
  where
    part : Part
    part = part_at plan c.part

    by : (match : Bool) (leaves : List TreeLeaf)
        → Reports
        (cond match
        (and_next (convert_at_all S plan c.part c.clause (order_in S plan c.part) c.walk leaves left) (λ holds rest.
        answers (if_shadowed S r earlier context vector leaves holds) rest))
        (answers (Err (Rejected r)) left))
    by true leaves =
        after_quiet (convert_at_all S plan c.part c.clause (order_in S plan c.part) c.walk leaves left) _
        (all-quiet S plan c.part c.clause (order_in S plan c.part) c.walk leaves left) (λ holds rest.
        if_shadowed-in S names r denied earlier context vector leaves holds)
    by false leaves = denied

at_leaf-in : (S : Signature) → NamesIn S → (plan : Plan) (c : Reference) (r : Rejection) → ReportIn (Rejected r) → (found : Option (ℕ × Place)) (left : ℕ)
    → Reports (at_leaf S plan c r found left)
at_leaf-in S names plan c r denied None left = denied
at_leaf-in S names plan c r denied (Some leaf) left =
    let part = part_at plan c.part in
    let vector = vector_of S (pats_of part c.clause) (pats_of part leaf.0) leaf.1.terms left in
    after_quiet (halting vector) _ (halts-quiet vector.0) (λ v rest. at_vector-in S names plan c r denied leaf.0 leaf.1.context v rest)

shadowed-in : (S : Signature) → NamesIn S → (plan : Plan) (c : Reference) (proof : Proof) (r : Rejection) → ReportIn (Rejected r) → (left : ℕ)
    → Reports (shadowed S plan c proof r left)
shadowed-in S names plan c proof r denied left =
    after_quiet (earlier_leaf S c.clause (leaves_in proof) left) _ (leaf-quiet S c.clause (leaves_in proof) left) (λ found rest.
    at_leaf-in S names plan c r denied found rest)

-- ---- reports

on_candidate-in : (S : Signature) → NamesIn S → (plan : Plan) (c : Reference) (proof : Proof) (answer : Result Entered ReportStop) (left : ℕ)
    → Splits NamesAfter ReportIn answer → Reports (on_candidate S plan c proof answer left)
on_candidate-in S names plan c proof (Ok e) left h = h
on_candidate-in S names plan c proof (Err (Rejected r)) left h = shadowed-in S names plan c proof r h left
on_candidate-in S names plan c proof (Err (Halts e)) left h = h
on_candidate-in S names plan c proof (Err (Stuck context u v why)) left h = h

with_candidate-in : (S : Signature) → NamesIn S → (plan : Plan) (c : Reference) (proof : Proof) (d : Draft) → DraftIn d → (left : ℕ)
    → Reports (with_candidate S plan c proof d left)
with_candidate-in S names plan c proof d h left =
    and_next-splits NamesIn ReportedIn ReportIn (enter_all enter_needed S (mentioned d) left) _ (enter_all-in enter_needed enter_needed-in S names (mentioned d) left) (λ T rest k.
    let entered = enter_entry T (renumbered_entry (settled_number T d.base d.names) d.entry) rest in
    on_candidate-in S names plan c proof entered.0 entered.1 (settled-in T k d h rest))

unless_converts-in : (S : Signature) → NamesIn S → (plan : Plan) → IsIn plan.name → (c : Reference) (e : Equation) (holds : Bool) (left : ℕ)
    → Reports (unless_converts S plan c e holds left)
unless_converts-in S names plan own c e true left = names
unless_converts-in S names plan own c e false left =
    after_quiet (walk_of S plan c.part c.walk e (part_at plan c.part).tree left) _
    (walk_tree-quiet S (part_at plan c.part).tree (first_place S plan c.part c.walk e) left) (λ proof rest.
    and_next-splits DraftIn ReportedIn ReportIn (answers (or_halts (candidate S plan c.part c.clause e proof)) rest) _
    (halts-in DraftIn (candidate S plan c.part c.clause e proof) (candidate-in S plan c.part c.clause e proof own))
    (λ d end h. with_candidate-in S names plan c proof d h end))

equation-in : (S : Signature) → NamesIn S → (plan : Plan) → IsIn plan.name → (c : Reference) (left : ℕ) → Reports (equation_report S plan c left)
equation-in S names plan own c left =
    after_quiet (answers (or_halts (equation_of S plan c.part c.clause c.walk)) left) _ (halts-quiet (equation_of S plan c.part c.clause c.walk)) (λ e rest.
    after_quiet (halting (convertible_of S nesting e.left e.right rest)) _ (halts-quiet (convertible_of S nesting e.left e.right rest).0) (λ holds end.
    unless_converts-in S names plan own c e holds end))

pub report-in : (S : Signature) → NamesIn S → (plan : Plan) → IsIn plan.name → (c : Reference) (left : ℕ) → Reports (report_of S plan c left)
report-in S names plan own c left = by (some_absurd (pats_of (part_at plan c.part) c.clause))
  where
    by : (there : Bool) → Reports (cond there (answers (Ok (reported S Absurd)) left) (equation_report S plan c left))
    by true = names
    by false = equation-in S names plan own c left
