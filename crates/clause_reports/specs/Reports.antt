-- The report of a clause: its equation holds by conversion; else by a proof; else the clause is shadowed by an earlier one.
use Rattle.std.specs.Prelude.{ℕ, zero, suc, Bool, true, false, ◌||◌, ◌&&◌, cond, Option, Some, None, List, map, length, Result, Ok, Err}
use Rattle.theory.specs.Terms.{Term}
use Rattle.theory.specs.Telescopes.{Telescope}
use Rattle.theory.specs.Signatures.{Signature}
use Rattle.core_terms.specs.Answers.{and_next}
use Rattle.core_terms.specs.CaseTrees.{Walk}
use Rattle.core_terms.specs.Patterns as pattern
use Rattle.core_terms.specs.Patterns.{Pat, Pats}
use Rattle.core_sig.specs.Drafts.{Draft}
use Rattle.core_sig.specs.Settling.{renumbered_entry, settled_number}
use Rattle.family_check.specs.Entering.{Entered}
use Rattle.kernel_reduce.specs.Comparison.{convertible_of}
use Rattle.kernel_reduce.specs.Reduction.{nesting}
use Rattle.case_trees.specs.pattern_vectors.Matching.{matches_all}
use Rattle.tree_translation.specs.Plans.{Plan, own_part}
use Rattle.tree_translation.specs.Recursion.{recursion_of, order_of}
use Rattle.clause_reports.specs.DraftEntering.{enter_all, enter_entry, enter_needed, mentioned}
use Rattle.clause_reports.specs.Equations.{Equation, equation_of, part_at, pats_of}
use Rattle.clause_reports.specs.ProofWalks.{Place, Proof, walk_of, leaves_in}
use Rattle.clause_reports.specs.ProofTerms.{candidate}
use Rattle.clause_reports.specs.Shadows.{TreeLeaf, earlier_leaf, vector_of, leaves_of, convert_at_all}
use Rattle.clause_reports.specs.Stops.{Rejection, ReportStop, Reporting, Rejected, answers, or_halts, halting}

-- `Definitional`: the sides convert. `Proved n`: entry n proves the equation. `Shadowed earlier context vector leaves`: the earlier clause
-- takes these arguments; the equation converts at the leaves, which are all leaves of the clause in the tree. `Absurd`: the clause has no
-- right side.
pub data Line : Type 0 where
  Definitional : Line
  Proved : (n : ℕ) → Line
  Shadowed : (earlier : ℕ) → Telescope → (vector : List Term) → (leaves : List (Telescope × List Term)) → Line
  Absurd : Line

-- a line with the signature after it
pub record Reported : Type 0 where
  pub line : Line
  pub signature : Signature

abbrev pub reported : Signature → Line → Reported
reported S line = record { line = line; signature = S }

-- ---- clauses without a right side

abbrev mutual
  pub is_absurd : Pat → Bool
  is_absurd pattern.Absurd = true
  is_absurd (pattern.Con n number pats) = some_absurd pats
  is_absurd pat = false

  -- `( )` is among the patterns, or within one
  pub some_absurd : Pats → Bool
  some_absurd pattern.nil = false
  some_absurd (pattern.cons pat pats) = is_absurd pat || some_absurd pats

-- ---- shadowed clauses

-- a clause of a part, with its own walk
pub record Reference : Type 0 where
  pub part : ℕ
  pub clause : ℕ
  pub walk : Walk

-- the order of the variables from which the tree of a part starts
abbrev pub order_in : Signature → Plan → (k : ℕ) → List ℕ
order_in S plan zero = order_of (length (own_part plan).tele) (recursion_of S plan)
order_in S plan (suc k) = order_of (length (part_at plan (suc k)).tele) None

abbrev pub shown_leaf : TreeLeaf → Telescope × List Term
shown_leaf l = (l.context, l.terms)

abbrev pub if_shadowed : Signature → Rejection → (earlier : ℕ) → Telescope → (vector : List Term) → List TreeLeaf → Bool → Result Reported ReportStop
if_shadowed S r earlier context vector leaves true = Ok (reported S (Shadowed earlier context vector (map shown_leaf leaves)))
if_shadowed S r earlier context vector leaves false = Err (Rejected r)

-- shadowed where both clauses match the arguments and the equation converts at each leaf of the clause; else the candidate's rejection
abbrev pub at_vector : Signature → Plan → Reference → Rejection → (earlier : ℕ) → Telescope → (vector : List Term) → ℕ → Reporting Reported
at_vector S plan c r earlier context vector left =
    let part = part_at plan c.part in
    let leaves = leaves_of c.clause part.tree in
    cond (matches_all S (pats_of part c.clause) vector && matches_all S (pats_of part earlier) vector)
    (and_next (convert_at_all S plan c.part c.clause (order_in S plan c.part) c.walk leaves left) (λ holds rest.
    answers (if_shadowed S r earlier context vector leaves holds) rest))
    (answers (Err (Rejected r)) left)

abbrev pub at_leaf : Signature → Plan → Reference → Rejection → Option (ℕ × Place) → ℕ → Reporting Reported
at_leaf S plan c r None left = answers (Err (Rejected r)) left
at_leaf S plan c r (Some leaf) left =
    let part = part_at plan c.part in
    and_next (halting (vector_of S (pats_of part c.clause) (pats_of part leaf.0) leaf.1.terms left)) (λ vector rest.
    at_vector S plan c r leaf.0 leaf.1.context vector rest)

-- a clause whose candidate is rejected
abbrev pub shadowed : Signature → Plan → Reference → Proof → Rejection → ℕ → Reporting Reported
shadowed S plan c proof r left =
    and_next (earlier_leaf S c.clause (leaves_in proof) left) (λ leaf rest. at_leaf S plan c r leaf rest)

-- ---- the report

-- the report by the answer of entering the candidate; the entries that it needs are there
abbrev pub on_candidate : Signature → Plan → Reference → Proof → Result Entered ReportStop → ℕ → Reporting Reported
on_candidate S plan c proof (Ok e) left = answers (Ok (reported e.signature (Proved e.number))) left
on_candidate S plan c proof (Err (Rejected r)) left = shadowed S plan c proof r left
on_candidate S plan c proof (Err e) left = answers (Err e) left

abbrev pub with_candidate : Signature → Plan → Reference → Proof → Draft → ℕ → Reporting Reported
with_candidate S plan c proof d left =
    and_next (enter_all enter_needed S (mentioned d) left) (λ T rest.
    let entered = enter_entry T (renumbered_entry (settled_number T d.base d.names) d.entry) rest in
    on_candidate S plan c proof entered.0 entered.1)

abbrev pub unless_converts : Signature → Plan → Reference → Equation → Bool → ℕ → Reporting Reported
unless_converts S plan c e true left = answers (Ok (reported S Definitional)) left
unless_converts S plan c e false left =
    and_next (walk_of S plan c.part c.walk e (part_at plan c.part).tree left) (λ proof rest.
    and_next (answers (or_halts (candidate S plan c.part c.clause e proof)) rest) (λ d end.
    with_candidate S plan c proof d end))

abbrev pub equation_report : Signature → Plan → Reference → ℕ → Reporting Reported
equation_report S plan c left =
    and_next (answers (or_halts (equation_of S plan c.part c.clause c.walk)) left) (λ e rest.
    and_next (halting (convertible_of S nesting e.left e.right rest)) (λ holds end. unless_converts S plan c e holds end))

-- The line of a clause, or why there is none.
abbrev pub report_of : Signature → Plan → Reference → ℕ → Reporting Reported
report_of S plan c left =
    cond (some_absurd (pats_of (part_at plan c.part) c.clause)) (answers (Ok (reported S Absurd)) left) (equation_report S plan c left)
