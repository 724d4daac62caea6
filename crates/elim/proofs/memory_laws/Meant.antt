-- Functions by clauses as they are meant.
use Rattle.std.proofs.Common.{ℕ, ◌+◌, Bool, true, false, Option, Some, None, Result, Ok, Err, List, [], ◌∷◌, length}
use Rattle.theory.specs.Terms.{Term}
use Rattle.theory.specs.Terms.Term.{Var, Sort}
use Rattle.theory.specs.Telescopes.{Telescope}
use Rattle.theory.specs.Signatures.{Signature}
use Rattle.theory.specs.WellFormed.{provisional}
use Rattle.core_terms.specs.CaseTrees.{Walk}
use Rattle.core_terms.specs.Patterns.{Pats}
use Rattle.core_sig.specs.Drafts.{Draft}
use Rattle.core_sig.specs.Settling.{renumbered_entry, settled_number}
use Rattle.family_check.specs.Entering.{Entered}
use Rattle.kernel_reduce.specs.Reduction.{nesting}
use Rattle.resolve.specs.Functions.{Function}
use Rattle.tree_translation.specs.structural_rec.Choices.{choose}
use Rattle.tree_translation.specs.Entries.{ordered_variables}
use Rattle.tree_translation.specs.Plans.{Part, Plan}
use Rattle.tree_translation.specs.Recursion.{Recursion, order_of, ordered_telescope, ordered_term}
use Rattle.tree_translation.proofs.EntryNames.{only_deep}
use Rattle.clause_reports.specs.DraftEntering.{Names, enter_entry, mentioned}
use Rattle.clause_reports.specs.Equations.{Equation, Site, equation_at, equation_of, left_side, leaf_site, part_at, pats_of, right_side, side_of, walk_site}
use Rattle.tree_translation.specs.Naming.{part_named}
use Rattle.clause_reports.specs.Generated.{all_name}
use Rattle.clause_reports.specs.ProofTerms.{candidate}
use Rattle.clause_reports.specs.ProofWalks.{Place, Proof, first_place, leaves_in}
use Rattle.clause_reports.specs.Reports.{Reference, at_leaf, at_vector, if_shadowed, on_candidate, order_in, report_of, shadowed, unless_converts, with_candidate}
use Rattle.clause_reports.specs.Shadows.{TreeLeaf, convert_at_all, earlier_leaf, equation_at_leaf, leaves_of}
use Rattle.clause_reports.specs.Stops.{Halts, Rejected, Rejection, ReportStop, Stuck}
use Rattle.clause_reports.specs.elaboration.Functions.{Following, enter_drafts, enter_plan, enter_values, function_level, function_of, own_finished, own_part, plan_of, planned_of, recursion_in, report_parts, report_walks, first_domains}
use Rattle.clause_reports.specs.elaboration.Refusals.{OfType, owner_of}
use Rattle.clause_reports.specs.elaboration.Walking.{Session, Walked}
use Rattle.elim.specs.memory_laws.Foreseen.{IsForeseen, IsForeseenFunction, IsForeseenReport}
use Rattle.elim.specs.memory_laws.Laws.{MeantForeseen}
use Rattle.elim.proofs.memory_laws.Runs.{Only, Ends, ok, no, now, done, next, and-then, either, either-ends, low}
use Rattle.elim.proofs.memory_laws.Kernel.{convertible, infer-sort}
use Rattle.elim.proofs.memory_laws.Walks.{split}
use Rattle.elim.proofs.memory_laws.Drafts.{all, draft-enters, drafted-low, entry, halted as halted_report, halts, name-enters, needed, only-deep}
use Rattle.elim.proofs.memory_laws.ProofWalks.{walks}
use Rattle.elim.proofs.memory_laws.Reports.{vector}
use Rattle.elim.proofs.memory_laws.Clauses.{all-clauses, grants, halted, helpers, position, reports, walked}

low-level : (S : Signature) (sort : Term) → Only IsForeseenFunction (function_level S sort)
low-level S (Sort J) = search either
low-level S (Var n) = ok
low-level S sort = ok

-- ---- equations

equation-low : (S : Signature) (plan : Plan) (k : ℕ) (pats : Pats) (side : Term) (site : Site) → Only IsForeseen (equation_at S plan k pats side site)
equation-low S plan k pats side site =
    and-then (low (left_side S plan k pats site)) (λ u. and-then (low (right_side S plan side site)) (λ v. ok))

equation : (S : Signature) (plan : Plan) (k clause : ℕ) (w : Walk) → Only IsForeseen (equation_of S plan k clause w)
equation S plan k clause w = equation-low S plan k (pats_of (part_at plan k) clause) (side_of (part_at plan k) clause) (walk_site w)

there : (S : Signature) (plan : Plan) (k clause : ℕ) (order : List ℕ) (w : Walk) (l : TreeLeaf)
    → Only IsForeseen (equation_at_leaf S plan k clause order w l)
there S plan k clause order w l =
    equation-low S plan k (pats_of (part_at plan k) clause) (side_of (part_at plan k) clause)
    (leaf_site order w l.context l.goal l.substitution l.terms l.binds)

all-convert : (S : Signature) (plan : Plan) (k clause : ℕ) (order : List ℕ) (w : Walk) (leaves : List TreeLeaf) (left : ℕ)
    → Ends IsForeseenReport (convert_at_all S plan k clause order w leaves left)
all-convert S plan k clause order w [] left = done
all-convert S plan k clause order w (l ∷ leaves) left =
    next (now {left = left} (halted_report (there S plan k clause order w l))) (λ e rest.
    next (halts (convertible S nesting e.left e.right rest)) (λ holds end.
    either-ends holds (all-convert S plan k clause order w leaves end) done))

-- ---- shadowed clauses

leaf : (S : Signature) (clause : ℕ) (leaves : List (ℕ × Place)) (left : ℕ) → Ends IsForeseenReport (earlier_leaf S clause leaves left)
leaf S clause [] left = done
leaf S clause (l ∷ leaves) left =
    next (halts (convertible S nesting l.1.left l.1.right left)) (λ holds rest.
    either-ends holds (leaf S clause leaves rest) (either-ends _ done (leaf S clause leaves rest)))

shadow : (S : Signature) (r : Rejection) (earlier : ℕ) (context : Telescope) (terms : List Term) (leaves : List TreeLeaf) (holds : Bool)
    → Only IsForeseenReport (if_shadowed S r earlier context terms leaves holds)
shadow S r earlier context terms leaves true = ok
shadow S r earlier context terms leaves false = no tt

of-vector : (S : Signature) (plan : Plan) (c : Reference) (r : Rejection) (earlier : ℕ) (context : Telescope) (terms : List Term) (left : ℕ)
    → Ends IsForeseenReport (at_vector S plan c r earlier context terms left)
of-vector S plan c r earlier context terms left =
    either-ends _
    (next
    (all-convert S plan c.part c.clause (order_in S plan c.part) c.walk (leaves_of c.clause (part_at plan c.part).tree) left) (λ holds rest.
    now (shadow S r earlier context terms (leaves_of c.clause (part_at plan c.part).tree) holds)))
    (now (no tt))

of-leaf : (S : Signature) (plan : Plan) (c : Reference) (r : Rejection) (found : Option (ℕ × Place)) (left : ℕ)
    → Ends IsForeseenReport (at_leaf S plan c r found left)
of-leaf S plan c r None left = now (no tt)
of-leaf S plan c r (Some l) left =
    next (halts (vector S (pats_of (part_at plan c.part) c.clause) (pats_of (part_at plan c.part) l.0) l.1.terms left)) (λ terms rest.
    of-vector S plan c r l.0 l.1.context terms rest)

shadows : (S : Signature) (plan : Plan) (c : Reference) (proof : Proof) (r : Rejection) (left : ℕ)
    → Ends IsForeseenReport (shadowed S plan c proof r left)
shadows S plan c proof r left = next (leaf S c.clause (leaves_in proof) left) (λ found rest. of-leaf S plan c r found rest)

-- ---- reports

of-candidate : (S : Signature) (plan : Plan) (c : Reference) (proof : Proof) (r : Result Entered ReportStop) (left : ℕ) → Only IsForeseenReport r
    → Ends IsForeseenReport (on_candidate S plan c proof r left)
of-candidate S plan c proof (Ok e) left h = done
of-candidate S plan c proof (Err (Rejected r)) left h = shadows S plan c proof r left
of-candidate S plan c proof (Err (Halts e)) left h = now (no h.is)
of-candidate S plan c proof (Err (Stuck context u v why)) left h = now (no tt)

enters : (S : Signature) (plan : Plan) (c : Reference) (proof : Proof) (d : Draft) (left : ℕ) → Ends IsForeseenReport (with_candidate S plan c proof d left)
enters S plan c proof d left =
    next (all needed S (mentioned d) left) (λ T rest.
    of-candidate S plan c proof (enter_entry T (renumbered_entry (settled_number T d.base d.names) d.entry) rest).0
    (enter_entry T (renumbered_entry (settled_number T d.base d.names) d.entry) rest).1
    (entry T (renumbered_entry (settled_number T d.base d.names) d.entry) rest).only)

drafted : (S : Signature) (plan : Plan) (k clause : ℕ) (e : Equation) (proof : Proof) → Only IsForeseen (candidate S plan k clause e proof)
drafted S plan k clause e proof = search drafted-low

unless : (S : Signature) (plan : Plan) (c : Reference) (e : Equation) (holds : Bool) (left : ℕ) → Ends IsForeseenReport (unless_converts S plan c e holds left)
unless S plan c e true left = done
unless S plan c e false left =
    next (walks S (part_at plan c.part).tree (first_place S plan c.part c.walk e) left) (λ proof rest.
    next (now {left = rest} (halted_report (drafted S plan c.part c.clause e proof))) (λ d end. enters S plan c proof d end))

report : (S : Signature) (plan : Plan) (c : Reference) (left : ℕ) → Ends IsForeseenReport (report_of S plan c left)
report S plan c left =
    either-ends _ done
    (next (now {left = left} (halted_report (equation S plan c.part c.clause c.walk))) (λ e rest.
    next (halts (convertible S nesting e.left e.right rest)) (λ holds end. unless S plan c e holds end)))

-- ---- the plan

own : (s : Session) (r : Option Recursion) (w : Walked) (left : ℕ) → Ends IsForeseenFunction (own_finished s r w left)
own s r w left =
    next
    (walked s.signature s.name
    (split s.signature (ordered_telescope w.part.tele (order_of (length w.part.tele) r))
    (ordered_term (length w.part.tele) (order_of (length w.part.tele) r) w.part.goal)
    (ordered_variables (order_of (length w.part.tele) r) (length w.part.tele)) w.clauses left))
    (λ t rest. done)

planned : (S : Signature) (f : Function) (level left : ℕ) → Ends IsForeseenFunction (plan_of S f level left)
planned S f level left =
    let s : Session = record { signature = provisional S f.name f.type; name = f.name; own = length S.entries } in
    let part = own_part f level in
    next (all-clauses s 0 part 0 1 f.clauses left) (λ given rest.
    next (now {left = rest} (position s (choose S part.tele s.own given.uses))) (λ position more.
    next (own s (recursion_in S part.tele position) (record { part = part; clauses = f.clauses; walks = given.walks; sides = given.sides }) more) (λ one end.
    next (helpers s (recursion_in S part.tele position) level 1 given.helpers end) (λ others last. done))))

-- ---- entries and lines

drafts : (S : Signature) (name : List ℕ) (ds : List Draft) (left : ℕ) → Ends IsForeseenFunction (enter_drafts S name ds left)
drafts S name [] left = done
drafts S name (d ∷ ds) left = next (reports S (owner_of name 0) (draft-enters S d left)) (λ e rest. drafts e.signature name ds rest)

values : (S : Signature) (plan : Plan) (r : Option Recursion) (parts : List Part) (left : ℕ) → Ends IsForeseenFunction (enter_values S plan r parts left)
values S plan (Some r) (one ∷ helper ∷ others) left = reports S (owner_of plan.name 0) (name-enters S (Names (all_name r.family plan.level)) left)
values S plan (Some r) (one ∷ []) left = done
values S plan (Some r) [] left = done
values S plan None parts left = done

entered : (S : Signature) (plan : Plan) (left : ℕ) → Ends IsForeseenFunction (enter_plan S plan left)
entered S plan left =
    next (now {left = left} (halted (only-deep _ (only_deep S plan)))) (λ ds rest.
    next (drafts S plan.name ds rest) (λ T end. values T plan (recursion_in S (first_domains plan.arity plan.type) plan.position) plan.parts end))

abbrev Follows : Following → Type 0
Follows following = (S : Signature) (left : ℕ) → Ends IsForeseenFunction (following S left)

lines : (plan : Plan) (k number : ℕ) (ws : List Walk) {following : Following} → Follows following → Follows (report_walks plan k number ws following)
lines plan k number [] h S left = h S left
lines plan k number (w ∷ ws) h S left =
    next (reports S (owner_of (part_named plan.name k) number) (report S plan (record { part = k; clause = number; walk = w }) left)) (λ r rest.
    next (lines plan k (number + 1) ws h r.signature rest) (λ others end. done))

all-lines : (plan : Plan) (k : ℕ) (parts : List Part) → Follows (report_parts plan k parts)
all-lines plan k [] S left = done
all-lines plan k (part ∷ parts) S left = lines plan k 0 part.walks (all-lines plan (k + 1) parts) S left

-- ---- all of it

pub plans : (S : Signature) (f : Function) (fuel : ℕ) → Ends IsForeseenFunction (planned_of S f fuel)
plans S f fuel =
    next (grants S OfType (infer-sort S nesting [] f.type fuel)) (λ sort rest.
    next (now {left = rest} (low-level S sort)) (λ level more. planned S f level more))

pub makes : (S : Signature) (f : Function) (fuel : ℕ) → Ends IsForeseenFunction (function_of S f fuel)
makes S f fuel =
    next (grants S OfType (infer-sort S nesting [] f.type fuel)) (λ sort rest.
    next (now {left = rest} (low-level S sort)) (λ level more.
    next (planned S f level more) (λ plan end.
    next (entered S plan end) (λ T last. all-lines plan 0 plan.parts T last))))

pub meant-foreseen : MeantForeseen
meant-foreseen S f fuel = (makes S f fuel).only.is
