-- Where the first of two calls answers something, the second answers it too: how this goes from parts to calls that are made of them.
use Rattle.std.proofs.Common.{◌≡◌, ℕ, Bool, true, false, cond, Result, Ok, Err, IfOk, refl, sym, ap, subst as transport}
use Rattle.core_terms.specs.Answers.{SpentOr, and_next, on_answer}
use Rattle.core_terms.specs.declared.stop.Stop.{Stop}
use Rattle.clause_reports.specs.Stops.{answers, or_halts}
use Rattle.drafts.proofs.draft_entering.NamedDrafts.{err-ok}

abbrev pub spent : {A E : Type 0} → Result A E → ℕ → SpentOr E A
spent r n = (r, n)

abbrev pub Follows : {A E : Type 0} → (made meant : SpentOr E A) → Type 0
Follows {A} {E} made meant = (a : A) (left : ℕ) → ◌≡◌ {A = SpentOr E A} made (Ok a, left) → ◌≡◌ {A = SpentOr E A} meant (Ok a, left)

-- a refusal is no answer
pub no-answer : {A E : Type 0} (e : E) (a : A) (n left : ℕ) → spent (Err e) n ≡ spent (Ok a) left → ⊥
no-answer e a n left h = err-ok (ap (λ o. o.0) h)

pub follows-same : {A E : Type 0} (made : SpentOr E A) → Follows made made
follows-same made a left is = is

-- the second may be put otherwise
pub follows-as : {A E : Type 0} (made meant other : SpentOr E A) → meant ≡ other → Follows made meant → Follows made other
follows-as made meant other is h = transport (Follows made) is h

pub refused : {A E : Type 0} (e : E) (n : ℕ) (meant : SpentOr E A) → Follows (spent (Err e) n) meant
refused e n meant a left is = absurd (no-answer e a n left is)

pub follows-next : {A B E : Type 0} (made meant : SpentOr E A) (go on : A → ℕ → SpentOr E B) → Follows made meant
    → ((a : A) (rest : ℕ) → Follows (go a rest) (on a rest)) → Follows (and_next made go) (and_next meant on)
follows-next {A} {B} {E} made meant go on h k = by made.0 made.1 h
  where
    by : (r : Result A E) (n : ℕ) → Follows (spent r n) meant → Follows (on_answer r n go) (and_next meant on)
    by (Ok a) n h = transport (λ m. Follows (go a n) (and_next m on)) (sym (h a n refl)) (k a n)
    by (Err e) n h = refused e n (and_next meant on)

-- one call after another, where the first goes on in two steps
pub follows-twice : {A B C E : Type 0} (made meant : SpentOr E A) (mid : A → ℕ → SpentOr E B) (go : B → ℕ → SpentOr E C) (on : A → ℕ → SpentOr E C)
    → Follows made meant → ((a : A) (rest : ℕ) → Follows (and_next (mid a rest) go) (on a rest))
    → Follows (and_next (and_next made mid) go) (and_next meant on)
follows-twice {A} {B} {C} {E} made meant mid go on h k = by made.0 made.1 h
  where
    by : (r : Result A E) (n : ℕ) → Follows (spent r n) meant → Follows (and_next (on_answer r n mid) go) (and_next meant on)
    by (Ok a) n h = transport (λ m. Follows (and_next (mid a n) go) (and_next m on)) (sym (h a n refl)) (k a n)
    by (Err e) n h = refused e n (and_next meant on)

-- a test before the first
pub follows-if : {A E : Type 0} (b : Bool) (made : SpentOr E A) (e : E) (n : ℕ) (meant : SpentOr E A) → Follows made meant
    → Follows (cond b made (spent (Err e) n)) meant
follows-if true made e n meant h = h
follows-if false made e n meant h = refused e n meant

-- the answer of a call that knows no other refusals
pub halts-follow : {A : Type 0} (made meant : Result A Stop) (left : ℕ) → ((a : A) → made ≡ Ok a → meant ≡ Ok a)
    → Follows (answers (or_halts made) left) (answers (or_halts meant) left)
halts-follow (Ok a) meant left h = transport (λ m. Follows (spent (Ok a) left) (answers (or_halts m) left)) (sym (h a refl)) (follows-same (spent (Ok a) left))
halts-follow (Err e) meant left h = refused _ left (answers (or_halts meant) left)

-- a property of each answer of the second is one of each answer of the first
pub follows-has : {A E : Type 0} (P : A → Type 0) (made meant : SpentOr E A) → Follows made meant → IfOk meant.0 P → IfOk made.0 P
follows-has {A} {E} P made meant h k = by made.0 made.1 h
  where
    by : (r : Result A E) (n : ℕ) → Follows (spent r n) meant → IfOk r P
    by (Ok a) n h = transport (λ (m : SpentOr E A). IfOk m.0 P) (h a n refl) k
    by (Err e) n h = tt
