-- The walks of a function's clauses: what they refuse has its cause, and what they give are the helpers of the function.
use Rattle.std.proofs.Common.{◌≡◌, inr, ℕ, suc, ◌+◌, ◌<◌, Bool, true, false, cond, nat_lt, Some, Result, Ok, Err, IfOk, IfErr, List, [], ◌∷◌, ◌++◌, length, length-append, reverse, slice_get, refl, sym, ap, ap₂, ◌∙◌, subst as transport, arith}
use Rattle.std.proofs.lemmas.Bool.Decides.{nat_tests}
use Rattle.std.proofs.lemmas.List.Elements.{All-append, All-cons, All-nil}
use Rattle.std.specs.List.{All}
use Rattle.theory.specs.Terms.{Term, Sort}
use Rattle.theory.specs.Telescopes.{products}
use Rattle.theory.specs.Signatures.{Signature}
use Rattle.theory.proofs.Lists.{slice_get-longer}
use Rattle.core_terms.specs.Answers.{bounded}
use Rattle.core_terms.proofs.Answers.{Splits, and_next-splits}
use Rattle.core_terms.specs.CaseTrees.{Walk}
use Rattle.core_terms.specs.Clauses as clause
use Rattle.core_terms.specs.Clauses.{Clause, Clauses, Right, Is}
use Rattle.core_terms.specs.Patterns.{Pats}
use Rattle.core_terms.specs.declared.stop.Stop.{Stop}
use Rattle.kernel_check.specs.Checking.{check_of, infer_of, infer_sort_of}
use Rattle.kernel_reduce.specs.Comparison.{convertible_of}
use Rattle.kernel_reduce.specs.Reduction.{nesting}
use Rattle.tree_translation.specs.structural_rec.Calls.{has_constant}
use Rattle.tele_eq.proofs.Growing.{snoc-append}
use Rattle.case_trees.proofs.WalkEnding.{walk_caused, walk_scoped, walk_stop_scoped}
use Rattle.case_trees.specs.OwnWalks.{own_walk_of}
use Rattle.case_trees.specs.Places.{clause_at}
use Rattle.case_trees.specs.Points.{under_solution}
use Rattle.case_trees.specs.Scoped.{IsScopedWalk}
use Rattle.case_trees.specs.Stops.{TreeStop}
use Rattle.tree_translation.proofs.Drafting.{bounded-ok}
use Rattle.with_abstraction.specs.Abstractions.{Abstracted, abstract_over_of}
use Rattle.clause_reports.proofs.Keeping.{Any}
use Rattle.tree_translation.specs.Naming.{part_named}
use Rattle.clause_reports.specs.elaboration.Refusals.{Elaborating, OfDot, OfGoal, OfSide, OfWith, Owner, Refusal, SelfInType, answers, granted, halting, level_too_high, or_halts, owner_of, walking}
use Rattle.clause_reports.specs.elaboration.Walking.{Given, Opened, Walked, after_dots, and_level, check_dot, greatest_level, if_forced, if_low_level, open_over, opened, walk_clause, walk_clauses, walk_right, without_self}
use Rattle.function_checks.proofs.function_clauses.Fitting.{clause-for}
use Rattle.function_session.specs.function_lines.Conditions.{IsFunctionOver}
use Rattle.function_session.specs.function_lines.Opened.{session_at}
use Rattle.function_session.specs.Laws.{inner, inner_of, inner_right}
use Rattle.resolve.specs.Functions.{Function}
use Rattle.elim.specs.refusal_laws.Causes.{Caused, IsPartAt, another_type, no_sort, no_type, of_walk, too_high}
use Rattle.elim.specs.refusal_laws.Parts.{helper}
use Rattle.elim.proofs.refusal_laws.Chains.{Refuses, granted-caused, halts-caused, next-refuses, splits-is, walking-caused}
use Rattle.elim.proofs.refusal_laws.Ends.{end-caused}
use Rattle.elim.proofs.refusal_laws.PartScopes.{part-walkable}
use Rattle.elim.proofs.written_functions.PartScopes.{clause-resolved}
use Rattle.elim.specs.written_functions.Clauses.{with_own, parts_of}

-- ---- numbers

second-part : {A : Type 0} (xs ys : List A) (i : ℕ) (a : A) → slice_get ys i ≡ Some a → slice_get (xs ++ ys) (length xs + i) ≡ Some a
second-part [] ys i a e = transport (λ n. slice_get ys n ≡ Some a) (let same : i ≡ 0 + i = omega arith in same) e
second-part (x ∷ xs) ys i a e =
    transport (λ n. slice_get (x ∷ (xs ++ ys)) n ≡ Some a) (let same : suc (length xs + i) ≡ suc (length xs) + i = omega arith in same)
    (second-part xs ys i a e)

-- the lists of clauses of a function, from number `next` on
abbrev AreListed : Function → (next : ℕ) → List Clauses → Type 0
AreListed f next lists = (i : ℕ) (cs : Clauses) → slice_get lists i ≡ Some cs → slice_get (parts_of f) (next + i) ≡ Some cs

listed-first : (f : Function) (next : ℕ) (cs : Clauses) (lists : List Clauses) → AreListed f next (cs ∷ lists) → slice_get (parts_of f) next ≡ Some cs
listed-first f next cs lists h =
    transport (λ n. slice_get (parts_of f) n ≡ Some cs) (let same : next + 0 ≡ next = omega arith in same) (h 0 cs refl)

listed-rest : (f : Function) (next : ℕ) (cs : Clauses) (lists : List Clauses) → AreListed f next (cs ∷ lists) → AreListed f (next + 1) lists
listed-rest f next cs lists h =
    λ i c e. transport (λ n. slice_get (parts_of f) n ≡ Some c) (let same : next + suc i ≡ next + 1 + i = omega arith in same) (h (suc i) c e)

listed-left : (f : Function) (next : ℕ) (xs ys : List Clauses) → AreListed f next (xs ++ ys) → AreListed f next xs
listed-left f next xs ys h = λ i c e. h i c (slice_get-longer xs ys i c e)

listed-right : (f : Function) (next count : ℕ) (xs ys : List Clauses) → count ≡ length xs → AreListed f next (xs ++ ys) → AreListed f (next + count) ys
listed-right f next count xs ys same h =
    λ i c e.
    transport (λ n. slice_get (parts_of f) n ≡ Some c) (let moved : next + (length xs + i) ≡ next + count + i = omega (arith, same) in moved)
    (h (length xs + i) c (second-part xs ys i c e))

pub all-listed : (f : Function) → AreListed f 1 (inner f.clauses)
all-listed f = λ i c e. transport (λ n. slice_get (parts_of f) n ≡ Some c) (let same : suc i ≡ 1 + i = omega arith in same) e

-- the clauses of a part from a number on
abbrev AreFrom : (all : Clauses) → (number : ℕ) → Clauses → Type 0
AreFrom all number rest = (i : ℕ) (c : Clause) → clause_at rest i ≡ Some c → clause_at all (number + i) ≡ Some c

pub all-from : (all : Clauses) → AreFrom all 0 all
all-from all = λ i c e. transport (λ n. clause_at all n ≡ Some c) (let same : i ≡ 0 + i = omega arith in same) e

from-first : (all : Clauses) (number : ℕ) (c : Clause) (rest : Clauses) → AreFrom all number (clause.cons c rest) → clause_at all number ≡ Some c
from-first all number c rest h = transport (λ n. clause_at all n ≡ Some c) (let same : number + 0 ≡ number = omega arith in same) (h 0 c refl)

from-rest : (all : Clauses) (number : ℕ) (c : Clause) (rest : Clauses) → AreFrom all number (clause.cons c rest) → AreFrom all (number + 1) rest
from-rest all number c rest h =
    λ i d e. transport (λ n. clause_at all n ≡ Some d) (let same : number + suc i ≡ number + 1 + i = omega arith in same) (h (suc i) d e)

-- ---- helpers

-- helpers of a function, the first of which has number k
abbrev pub AreHelpers : Signature → Function → ℕ → List Walked → Type 0
AreHelpers S f k [] = Unit {0}
AreHelpers S f k (w ∷ helpers) = (0 < k × IsPartAt S f k w.part w.clauses × All (IsScopedWalk (with_own S f)) w.walks) × AreHelpers S f (k + 1) helpers

helpers-append : (S : Signature) (f : Function) (k n : ℕ) (ws vs : List Walked) → n ≡ k + length ws → AreHelpers S f k ws → AreHelpers S f n vs
    → AreHelpers S f k (ws ++ vs)
helpers-append S f k n [] vs e h i = transport (λ n. AreHelpers S f n vs) (let same : n ≡ k = omega (arith, e) in same) i
helpers-append S f k n (w ∷ ws) vs e h i = (h.0, helpers-append S f (k + 1) n ws vs (omega (arith, e)) h.1 i)

-- scoped walks, and so many helpers, the first of which has number `next`
pub record GivesHelpers (S : Signature) (f : Function) (next many : ℕ) (given : Given) : Type 0 where
  pub helpers : AreHelpers S f next given.helpers
  pub count : length given.helpers ≡ many
  pub walks : All (IsScopedWalk (with_own S f)) given.walks

one-walk : (S : Signature) (w : Walk) → IsScopedWalk S w → All (IsScopedWalk S) (w ∷ [])
one-walk S w h = All-cons (IsScopedWalk S) w [] h (All-nil (IsScopedWalk S))

-- ---- what is asked on the way

pub splits-any : {A E : Type 0} (N : E → Type 0) (r : Result A E) → IfErr r N → Splits Any N r
splits-any N (Ok a) h = tt
splits-any N (Err e) h = h

pub halting-is : {A : Type 0} (N : Refusal → Type 0) (r : Result A Stop) → IfErr (or_halts r) N → Splits (λ a. r ≡ Ok a) N (or_halts r)
halting-is N (Ok a) h = refl
halting-is N (Err e) h = h

self-caused : (S : Signature) (f : Function) (constant : ℕ) (owner : Owner) (t : Term) → IfErr (without_self constant owner t) (Caused S f)
self-caused S f constant owner t = by (has_constant constant t)
  where
    by : (b : Bool) → IfErr (cond b (Err (SelfInType owner)) (Ok t)) (Caused S f)
    by true = tt
    by false = tt

level-caused : (S : Signature) (f : Function) (T : Signature) (owner : Owner) (a : Abstracted) (sort : Term)
    → IfErr (and_level a (if_low_level T owner sort)) (Caused S f)
level-caused S f T owner a (Sort J) = by (nat_lt greatest_level J) refl
  where
    by : (b : Bool) → nat_lt greatest_level J ≡ b
        → IfErr (and_level a (cond b (Err (level_too_high T (OfGoal owner) J greatest_level)) (Ok J))) (Caused S f)
    by true is = too_high T (OfGoal owner) J (grind (arith, nat_tests)) refl
    by false is = tt
level-caused S f T owner a _ = tt

open-caused : (S : Signature) (f : Function) (owner : Owner) (w : Walk) (t : Term) (left : ℕ) → Refuses (Caused S f) (open_over (session_at S f) owner w t left)
open-caused S f owner w t left =
    let T = with_own S f in
    let N = Caused S f in
    let found_term = granted T (OfWith owner) (infer_of T nesting (reverse w.ctx) t left) in
    next-refuses Any N found_term _
    (splits-any N found_term.0 (granted-caused S f T (OfWith owner) (infer_of T nesting (reverse w.ctx) t left).0
    (λ d is. no_type T (OfWith owner) (reverse w.ctx) t left d is refl))) (λ found rest u.
    next-refuses Any N (answers (without_self (session_at S f).own owner found) rest) _
    (splits-any N (without_self (session_at S f).own owner found) (self-caused S f (session_at S f).own owner found)) (λ type more v.
    let made = halting (abstract_over_of T w.ctx w.goal t type more) in
    next-refuses Any N made _ (splits-any N made.0 (halts-caused S f (abstract_over_of T w.ctx w.goal t type more).0)) (λ a end x.
    next-refuses Any N (answers (without_self (session_at S f).own owner a.goal) end) _
    (splits-any N (without_self (session_at S f).own owner a.goal) (self-caused S f (session_at S f).own owner a.goal)) (λ goal last y.
    let sorted = granted T (OfGoal owner) (infer_sort_of T nesting [] (products a.telescope goal) last) in
    next-refuses Any N sorted _
    (splits-any N sorted.0 (granted-caused S f T (OfGoal owner) (infer_sort_of T nesting [] (products a.telescope goal) last).0
    (λ d is. no_sort T (OfGoal owner) [] (products a.telescope goal) last d is refl))) (λ sort final z.
    level-caused S f T owner a sort)))))

-- ---- dots

-- the own walk of a clause of a part
record IsWalkOf (S : Signature) (f : Function) (k number : ℕ) (w : Walk) : Type 0 where
  part : Opened
  clauses : Clauses
  at : IsPartAt S f k part clauses
  one : Clause
  there : clause_at clauses number ≡ Some one
  left : ℕ
  walked : (own_walk_of (with_own S f) part.tele part.goal part.terms one number left).0 ≡ Ok w

forced-caused : (S : Signature) (f : Function) (k number : ℕ) (w : Walk) (first others : List (Term × Term)) (d : Term × Term) (left : ℕ) (holds : Bool)
    → IsWalkOf S f k number w → w.dots ≡ first ++ d ∷ others → (convertible_of (with_own S f) nesting d.0 d.1 left).0 ≡ Ok holds
    → IfErr (if_forced (with_own S f) (owner_of (part_named f.name k) number) w.ctx d.0 d.1 holds) (Caused S f)
forced-caused S f k number w first others d left true of parted is = tt
forced-caused S f k number w first others d left false of parted is =
    inr (record {
      k = k;
      part = of.part;
      clauses = of.clauses;
      at = of.at;
      number = number;
      one = of.one;
      there = of.there;
      walk = w;
      before = of.left;
      walked = of.walked;
      first = first;
      dot = d;
      others = others;
      parted = parted;
      shown = refl;
      left = left;
      denied = is;
    })

dot-caused : (S : Signature) (f : Function) (k number : ℕ) (w : Walk) (first others : List (Term × Term)) (d : Term × Term) (left : ℕ)
    → IsWalkOf S f k number w → w.dots ≡ first ++ d ∷ others
    → Refuses (Caused S f) (check_dot (with_own S f) (owner_of (part_named f.name k) number) w.ctx d left)
dot-caused S f k number w first others d left of parted =
    let T = with_own S f in
    let N = Caused S f in
    let owner = owner_of (part_named f.name k) number in
    let found = granted T (OfDot owner) (infer_of T nesting (reverse w.ctx) d.1 left) in
    next-refuses Any N found _ (splits-any N found.0 (granted-caused S f T (OfDot owner) (infer_of T nesting (reverse w.ctx) d.1 left).0
    (λ denial is. no_type T (OfDot owner) (reverse w.ctx) d.1 left denial is refl))) (λ type rest u.
    let checked = granted T (OfDot owner) (check_of T nesting (reverse w.ctx) d.0 type rest) in
    next-refuses Any N checked _
    (splits-any N checked.0 (granted-caused S f T (OfDot owner) (check_of T nesting (reverse w.ctx) d.0 type rest).0
    (λ denial is. another_type T (OfDot owner) (reverse w.ctx) d.0 type rest denial is refl))) (λ same more v.
    let compared = convertible_of T nesting d.0 d.1 more in
    next-refuses (λ holds. compared.0 ≡ Ok holds) N (halting compared) _ (halting-is N compared.0 (halts-caused S f compared.0)) (λ holds end is.
    forced-caused S f k number w first others d more holds of parted is)))

dots-caused : {A : Type 0} (P : A → Type 0) (S : Signature) (f : Function) (k number : ℕ) (w : Walk) (first dots : List (Term × Term))
    (next : ℕ → Elaborating A) (left : ℕ) → IsWalkOf S f k number w → w.dots ≡ first ++ dots → ((rest : ℕ) → Splits P (Caused S f) (next rest).0)
    → Splits P (Caused S f) (after_dots (with_own S f) (owner_of (part_named f.name k) number) w.ctx dots next left).0
dots-caused P S f k number w first [] next left of parted h = h left
dots-caused P S f k number w first (d ∷ dots) next left of parted h =
    let checked = check_dot (with_own S f) (owner_of (part_named f.name k) number) w.ctx d left in
    and_next-splits Any P (Caused S f) checked _
    (splits-any (Caused S f) checked.0 (dot-caused S f k number w first dots d left of parted)) (λ written rest u.
    dots-caused P S f k number w (first ++ d ∷ []) dots next rest of (parted ∙ sym (snoc-append first d dots)) h)

-- ---- clauses

mutual
  clause-caused : (S : Signature) (f : Function) → IsFunctionOver (with_own S f) f → (k : ℕ) (part : Opened) (all : Clauses) → IsPartAt S f k part all
      → (number next : ℕ) (c : Clause) → clause_at all number ≡ Some c → 0 < next → AreListed f next (inner_of c) → (left : ℕ)
      → Splits (GivesHelpers S f next (length (inner_of c))) (Caused S f) (walk_clause (session_at S f) k part number next c left).0
  clause-caused S f over k part all at number next (Is pats binds right) there after listed left =
      let T = with_own S f in
      let N = Caused S f in
      let P = GivesHelpers S f next (length (inner_right right)) in
      let name = part_named f.name k in
      let owner = owner_of name number in
      let own_walk = own_walk_of T part.tele part.goal part.terms (Is pats binds right) number left in
      let h = part-walkable S f k part all over at.is in
      let for = clause-for T part.terms (Is pats binds right) (clause-resolved T (length part.terms) all number (Is pats binds right) h.fitting there) in
      and_next-splits (λ w. own_walk.0 ≡ Ok w) P N (walking T name own_walk) _
      (walking-caused N T name own_walk.0 (λ e is.
      end-caused S f k part all e at (walk_stop_scoped T part.tele part.goal part.terms pats binds right number left e h.given for is)
      (of_walk number binds pats right there (walk_caused T part.tele part.goal part.terms pats binds right number left e h.given for is)))) (λ w rest is.
      let of : IsWalkOf S f k number w =
      record { part = part; clauses = all; at = at; one = Is pats binds right; there = there; left = left; walked = is } in
      dots-caused P S f k number w [] w.dots (walk_right (session_at S f) k number next owner w right) rest of refl (λ more.
      right-caused S f over k part all at number next binds left pats right w there is
      (transport (λ (r : Result Walk TreeStop). IfOk r (IsScopedWalk T)) is
      (walk_scoped T part.tele part.goal part.terms pats binds right number left h.given for)) after listed more))

  right-caused : (S : Signature) (f : Function) → IsFunctionOver (with_own S f) f → (k : ℕ) (part : Opened) (all : Clauses) → IsPartAt S f k part all
      → (number next binds before : ℕ) (pats : Pats) (right : Right) (w : Walk) → clause_at all number ≡ Some (Is pats binds right)
      → (own_walk_of (with_own S f) part.tele part.goal part.terms (Is pats binds right) number before).0 ≡ Ok w
      → IsScopedWalk (with_own S f) w → 0 < next
      → AreListed f next (inner_right right) → (left : ℕ)
      → Splits (GivesHelpers S f next (length (inner_right right))) (Caused S f)
      (walk_right (session_at S f) k number next (owner_of (part_named f.name k) number) w right left).0
  right-caused S f over k part all at number next binds before pats (clause.Side side) w there walked scoped after listed left =
      let T = with_own S f in
      let N = Caused S f in
      let P = GivesHelpers S f next 0 in
      let owner = owner_of (part_named f.name k) number in
      let made = bounded (under_solution w.binds side) in
      and_next-splits Any P N (answers (or_halts made) left) _ (splits-any N (or_halts made) (halts-caused S f made)) (λ body rest u.
      let checked = granted T (OfSide owner) (check_of T nesting (reverse w.ctx) body w.goal rest) in
      and_next-splits Any P N checked _
      (splits-any N checked.0 (granted-caused S f T (OfSide owner) (check_of T nesting (reverse w.ctx) body w.goal rest).0
      (λ d is. another_type T (OfSide owner) (reverse w.ctx) body w.goal rest d is refl))) (λ type end v.
      record { helpers = tt; count = refl; walks = one-walk T w scoped }))
  right-caused S f over k part all at number next binds before pats (clause.With scrutinee inside) w there walked scoped after listed left =
      let s = session_at S f in
      let N = Caused S f in
      let P = GivesHelpers S f next (suc (length (inner inside))) in
      let owner = owner_of (part_named f.name k) number in
      let made = bounded (under_solution w.binds scrutinee) in
      and_next-splits (λ t. made ≡ Ok t) P N (answers (or_halts made) left) _ (halting-is N made (halts-caused S f made)) (λ t rest t_is.
      let opening = open_over s owner w t rest in
      and_next-splits (λ o. opening.0 ≡ Ok o) P N opening _ (splits-is N opening.0 (open-caused S f owner w t rest)) (λ o more o_is.
      let opened_is : (open_over s owner w (under_solution w.binds scrutinee) rest).0 ≡ Ok o =
      transport (λ u. (open_over s owner w u rest).0 ≡ Ok o) (bounded-ok (under_solution w.binds scrutinee) t t_is) o_is in
      let helper_at : IsPartAt S f next (opened o w) inside = record {
        is = helper k number binds next before rest part all inside pats scrutinee w o at.is there walked opened_is;
        listed = listed-first f next inside (inner inside) listed;
      } in
      and_next-splits (GivesHelpers S f (next + 1) (length (inner inside))) P N (walk_clauses s next (opened o w) 0 (next + 1) inside more) _
      (clauses-caused S f over next (opened o w) inside helper_at 0 (next + 1) inside (all-from inside) (omega (arith, after))
      (listed-rest f next inside (inner inside) listed) more) (λ given end h.
      record { helpers = ((after, helper_at, h.walks), h.helpers); count = ap suc h.count; walks = one-walk (with_own S f) w scoped })))
  right-caused S f over k part all at number next binds before pats clause.Absurd w there walked scoped after listed left =
      record { helpers = tt; count = refl; walks = one-walk (with_own S f) w scoped }

  pub clauses-caused : (S : Signature) (f : Function) → IsFunctionOver (with_own S f) f → (k : ℕ) (part : Opened) (all : Clauses) → IsPartAt S f k part all
      → (number next : ℕ) (clauses : Clauses) → AreFrom all number clauses → 0 < next → AreListed f next (inner clauses) → (left : ℕ)
      → Splits (GivesHelpers S f next (length (inner clauses))) (Caused S f) (walk_clauses (session_at S f) k part number next clauses left).0
  clauses-caused S f over k part all at number next clause.nil from after listed left =
      record { helpers = tt; count = refl; walks = All-nil (IsScopedWalk (with_own S f)) }
  clauses-caused S f over k part all at number next (clause.cons c clauses) from after listed left =
      let s = session_at S f in
      let N = Caused S f in
      let P = GivesHelpers S f next (length (inner_of c ++ inner clauses)) in
      and_next-splits (GivesHelpers S f next (length (inner_of c))) P N (walk_clause s k part number next c left) _
      (clause-caused S f over k part all at number next c (from-first all number c clauses from) after
      (listed-left f next (inner_of c) (inner clauses) listed) left) (λ given rest h.
      let behind = next + length given.helpers in
      and_next-splits (GivesHelpers S f behind (length (inner clauses))) P N (walk_clauses s k part (number + 1) behind clauses rest) _
      (clauses-caused S f over k part all at (number + 1) behind clauses (from-rest all number c clauses from) (omega (arith, after))
      (listed-right f next (length given.helpers) (inner_of c) (inner clauses) h.count listed) rest) (λ others end i.
      record {
        helpers = helpers-append S f next behind given.helpers others.helpers refl h.helpers i.helpers;
        count = length-append given.helpers others.helpers ∙ (ap₂ ◌+◌ h.count i.count ∙ sym (length-append (inner_of c) (inner clauses)));
        walks = All-append (IsScopedWalk (with_own S f)) given.walks others.walks h.walks i.walks;
      }))
