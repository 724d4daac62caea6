-- A search goes on in each argument as it began.
use Rattle.std.proofs.Common.{◌≡◌, ℕ, zero, suc, ◌<◌, ◌≤◌, nat_lt, ◌==◌, Bool, true, false, cond, Option, Some, None, option_map, Result, Ok, Err, List, [], ◌∷◌, length, refl, ap, sym, subst, ◌∙◌, arith}
use Rattle.theory.specs.Terms.{Term, height}
use Rattle.theory.specs.Terms.Term.{App}
use Rattle.theory.specs.Spines.{spine_of}
use Rattle.theory.specs.Families.{Argument}
use Rattle.theory.specs.Signatures.{Signature}
use Rattle.core_terms.specs.Answers.{Spent, and_next, on_answer}
use Rattle.core_terms.specs.declared.stop.Stop.{Stop}
use Rattle.kernel_reduce.specs.Reduction.{answered, whnf_of}
use Rattle.unification.specs.Built.{Built, built_of, is_direct}
use Rattle.unification.specs.Solutions.{variable_in}
use Rattle.unification.specs.Cycles.{Search, not_found, found_as, here_or, Below, among_arguments, with_arguments, is_variable, below_constructor, in_form, by_less, no_argument, by_room, by_units, search_in}
use Rattle.unification.specs.Laws.{SearchGoesOn}
use Rattle.unification.proofs.SpentUnits.{Leaves, Within, Any, any-within}
use Rattle.unification.proofs.Constructors.{found}
use Rattle.unification.proofs.Reducts.{IsHead, whnf-within}
use Rattle.unification.proofs.SearchedVariables.{Finds, FindsBelow, by_less-finds, no_argument-finds, by_room-finds, by_units-finds, search-finds}
use Rattle.std.proofs.lemmas.Bool.{ltb-true, ltb-false}
use Rattle.std.proofs.lemmas.List.Elements.{All-nil, All-append, All-weaker, All-drop, All-head, All-tail}
use Rattle.std.specs.List.{All}
use Rattle.theory.proofs.Lists.{only}

-- ---- heights of arguments

-- each of the terms is lower than so much
abbrev pub AreLower : ℕ → List Term → Type 0
AreLower high us = All (λ u. height u < high) us

pub spine-lower : (t : Term) → AreLower (height t) (spine_of t)
spine-lower (App f a) =
    All-append (λ u. height u < height (App f a)) (spine_of f) (a ∷ [])
    (All-weaker (λ u. height u < height f) (λ u. height u < height (App f a)) (λ u lt. omega arith) (spine_of f) (spine-lower f))
    (only (λ u. height u < height (App f a)) a (omega arith))
spine-lower _ = All-nil _

height-positive : (t : Term) → 0 < height t
height-positive (App f a) = omega arith
height-positive _ = omega arith

pub built-lower : (S : Signature) (t : Term) (b : Built) → built_of S t ≡ Some b → AreLower (height t) b.arguments
built-lower S t b e =
    subst (AreLower (height t)) (sym (found S t b e).arguments) (All-drop (λ u. height u < height t) (length b.family.parameters) (spine_of t) (spine-lower t))

-- ---- two ways to go on

cond-same : {A : Type 0} (b : Bool) (x x' y y' : A) → (b ≡ true → x ≡ x') → (b ≡ false → y ≡ y') → cond b x y ≡ cond b x' y'
cond-same true x x' y y' h k = h refl
cond-same false x x' y y' h k = k refl

next-same : {A B : Type 0} (P : A → ℕ → Type 0) (first : Spent A) (go other : A → ℕ → Spent B) (left : ℕ) → Within left P first
    → ((a : A) (rest : ℕ) → rest ≤ left → P a rest → go a rest ≡ other a rest) → and_next first go ≡ and_next first other
next-same {A = A} P first go other left h k = by_answer first.0 first.1 h.spends h.leaves
  where
    by_answer : (r : Result A Stop) (rest : ℕ) → rest ≤ left → Leaves P r rest → on_answer r rest go ≡ on_answer r rest other
    by_answer (Ok a) rest le p = k a rest le p
    by_answer (Err e) rest le p = refl

-- a way to go on that gives no units back
abbrev BelowSpends : Below → Type 0
BelowSpends below = (before : ℕ) (t : Term) (left : ℕ) → (below before t left).1 ≤ left

below-spends : (S : Signature) (n x : ℕ) (below : Below) → FindsBelow S n x below → BelowSpends below
below-spends S n x below finds before t left = (finds before t left).spends

-- They agree on the found terms with at most so many units, if some are spent or the term is lower than so much.
abbrev Agree : (most high : ℕ) → Below → Below → Type 0
Agree most high below other =
    (before rest : ℕ) (t : Term) → before ≤ most → rest ≤ before → (rest ≡ before → height t < high) → below before t rest ≡ other before t rest

here_or-same : {A : Type 0} (found : Option A) (search other : Search A) (left : ℕ) → search left ≡ other left → here_or found search left ≡ here_or found other left
here_or-same (Some a) search other left e = refl
here_or-same None search other left e = e

found_as-same : {A B : Type 0} (f : A → B) (search other : Search A) (left : ℕ) → search left ≡ other left → found_as f search left ≡ found_as f other left
found_as-same f search other left e = ap (λ r. and_next r (λ found rest. answered (Ok (option_map f found)) rest)) e

-- an argument that has been reduced, and those after it
argument-same : (S : Signature) (below other : Below) (most high : ℕ) → Agree most high below other → BelowSpends other
    → (a : Argument) (u : Term) (arguments : List Argument) (us : List Term) (left rest : ℕ) (v : Term) → left ≤ most → rest ≤ left → (rest ≡ left → height v < high)
    → ((end : ℕ) → end ≤ most → among_arguments S below arguments us end ≡ among_arguments S other arguments us end)
    → and_next (below left v rest) (λ found end. here_or (option_map (λ w. w ∷ us) found) (found_as (λ ws. u ∷ ws) (among_arguments S below arguments us)) end)
    ≡ and_next (other left v rest) (λ found end. here_or (option_map (λ w. w ∷ us) found) (found_as (λ ws. u ∷ ws) (among_arguments S other arguments us)) end)
argument-same S below other most high agree spends a u arguments us left rest v le l low behind =
    ap (λ r. and_next r (λ found end. here_or (option_map (λ w. w ∷ us) found) (found_as (λ ws. u ∷ ws) (among_arguments S below arguments us)) end)) (agree left rest v le l low)
    ∙ next-same Any (other left v rest) _ _ rest (any-within rest (other left v rest) (spends left v rest)) (λ found end l' b.
    here_or-same (option_map (λ w. w ∷ us) found) _ _ end
    (found_as-same (λ ws. u ∷ ws) (among_arguments S below arguments us) (among_arguments S other arguments us) end (behind end (omega arith))))

among-same : (S : Signature) (below other : Below) (most high : ℕ) → Agree most high below other → BelowSpends other
    → (arguments : List Argument) (us : List Term) (left : ℕ) → left ≤ most → AreLower high us
    → among_arguments S below arguments us left ≡ among_arguments S other arguments us left
among-same S below other most high agree spends (a ∷ arguments) (u ∷ us) left le low =
    let behind : (end : ℕ) → end ≤ most → among_arguments S below arguments us end ≡ among_arguments S other arguments us end =
    λ end l. among-same S below other most high agree spends arguments us end l (All-tail (λ u. height u < high) u us low) in
    cond-same (is_direct a) _ _ _ _
    (λ e. next-same (IsHead S left u) (whnf_of S true left u) _ _ left (whnf-within S true left u) (λ v rest l reached.
    argument-same S below other most high agree spends a u arguments us left rest v le l (λ same. subst (λ w. height w < high) (sym (reached.stays same)) (All-head (λ u. height u < high) u us low)) behind))
    (λ e. found_as-same (λ ws. u ∷ ws) (among_arguments S below arguments us) (among_arguments S other arguments us) left (behind left le))
among-same S below other most high agree spends [] us left le low = refl
among-same S below other most high agree spends (a ∷ arguments) [] left le low = refl

constructor-same : (S : Signature) (n : ℕ) (below other : Below) (most high : ℕ) → Agree most high below other → BelowSpends other
    → (found : Option Built) (left : ℕ) → left ≤ most → ((b : Built) → found ≡ Some b → AreLower high b.arguments)
    → below_constructor S n below found left ≡ below_constructor S n other found left
constructor-same S n below other most high agree spends None left le low = refl
constructor-same S n below other most high agree spends (Some b) left le low =
    by_case (b.n == n)
    (found_as-same (with_arguments b) (among_arguments S below b.constructor.arguments b.arguments) (among_arguments S other b.constructor.arguments b.arguments) left
    (among-same S below other most high agree spends b.constructor.arguments b.arguments left le (low b refl)))
  where
    by_case : (test : Bool)
        → found_as (with_arguments b) (among_arguments S below b.constructor.arguments b.arguments) left
        ≡ found_as (with_arguments b) (among_arguments S other b.constructor.arguments b.arguments) left
        → cond test (found_as (with_arguments b) (among_arguments S below b.constructor.arguments b.arguments)) not_found left
        ≡ cond test (found_as (with_arguments b) (among_arguments S other b.constructor.arguments b.arguments)) not_found left
    by_case true e = e
    by_case false e = refl

form-same : (S : Signature) (n x : ℕ) (below other : Below) (t : Term) (left : ℕ) → Agree left (height t) below other → BelowSpends other
    → in_form S n x below t left ≡ in_form S n x other t left
form-same S n x below other t left agree spends =
    ap (λ r. cond (is_variable x (variable_in t)) (answered (Ok (Some t)) left) r)
    (constructor-same S n below other left (height t) agree spends (built_of S t) left (omega arith) (λ b e. built-lower S t b e))

-- ---- the measure is not used up

-- two ways find the same with fewer units
abbrev AgreeBelow : (left : ℕ) → (search other : Term → Search Term) → Type 0
AgreeBelow left search other = (t : Term) (rest : ℕ) → rest < left → search t rest ≡ other t rest

room-same : (S : Signature) (n x : ℕ) (units others : Term → Search Term) (room more : ℕ) (t : Term) (left : ℕ) → height t ≤ room → height t ≤ more
    → AgreeBelow left units others → Finds S n x others → by_room S n x units room t left ≡ by_room S n x others more t left
room-same S n x units others zero more t left le k agree spends = let h = height-positive t in absurd (omega arith)
room-same S n x units others (suc room) zero t left le k agree spends = let h = height-positive t in absurd (omega arith)
room-same S n x units others (suc room) (suc more) t left le k agree spends =
    form-same S n x (by_less units (by_room S n x units room)) (by_less others (by_room S n x others more)) t left
    (λ before rest v l l' low.
    cond-same (nat_lt rest before) _ _ _ _
    (λ e. let less = ltb-true rest before e in agree v rest (omega arith))
    (λ e. let many = ltb-false rest before e in let lower : height v < height t = low (omega arith) in
    room-same S n x units others room more v rest (omega arith) (omega arith) (λ w m less. agree w m (omega arith)) spends))
    (below-spends S n x (by_less others (by_room S n x others more))
    (by_less-finds S n x others (by_room S n x others more) spends (by_room-finds S n x others spends more)))

units-same : (S : Signature) (n x : ℕ) (units more : ℕ) (t : Term) (left : ℕ) → left ≤ units → left ≤ more → by_units S n x units t left ≡ by_units S n x more t left
units-same S n x zero zero t left le k = refl
units-same S n x zero (suc more) t left le k =
    room-same S n x no_argument (by_units S n x more) (height t) (height t) t left (omega arith) (omega arith)
    (λ v rest less. absurd (omega arith)) (by_units-finds S n x more)
units-same S n x (suc units) zero t left le k =
    room-same S n x (by_units S n x units) no_argument (height t) (height t) t left (omega arith) (omega arith)
    (λ v rest less. absurd (omega arith)) (no_argument-finds S n x)
units-same S n x (suc units) (suc more) t left le k =
    room-same S n x (by_units S n x units) (by_units S n x more) (height t) (height t) t left (omega arith) (omega arith)
    (λ v rest less. units-same S n x units more v rest (omega arith) (omega arith)) (by_units-finds S n x more)

-- with room enough, a search that agrees below so many units is the whole search
room-search : (S : Signature) (n x : ℕ) (units : Term → Search Term) (room : ℕ) (t : Term) (left : ℕ) → height t ≤ room → AgreeBelow left units (search_in S n x)
    → by_room S n x units room t left ≡ search_in S n x t left
room-search S n x units room t zero le agree =
    room-same S n x units no_argument room (height t) t zero le (omega arith) (λ v rest less. absurd (omega arith)) (no_argument-finds S n x)
room-search S n x units room t (suc left) le agree =
    room-same S n x units (by_units S n x left) room (height t) t (suc left) le (omega arith)
    (λ v rest less. agree v rest less ∙ units-same S n x rest left v rest (omega arith) (omega arith)) (by_units-finds S n x left)

room-goes_on : (S : Signature) (n x : ℕ) (units : Term → Search Term) (room : ℕ) (t : Term) (left : ℕ) → height t ≤ room → AgreeBelow left units (search_in S n x)
    → by_room S n x units room t left ≡ in_form S n x (λ before. search_in S n x) t left
room-goes_on S n x units zero t left le agree = let h = height-positive t in absurd (omega arith)
room-goes_on S n x units (suc room) t left le agree =
    form-same S n x (by_less units (by_room S n x units room)) (λ before. search_in S n x) t left
    (λ before rest v l l' low. by_test before rest v l l' low (nat_lt rest before) refl)
    (λ before v m. (search-finds S n x v m).spends)
  where
    by_test : (before rest : ℕ) (v : Term) → before ≤ left → rest ≤ before → (rest ≡ before → height v < height t) → (b : Bool) → nat_lt rest before ≡ b
        → cond b (units v rest) (by_room S n x units room v rest) ≡ search_in S n x v rest
    by_test before rest v l l' low true e = let less = ltb-true rest before e in agree v rest (omega arith)
    by_test before rest v l l' low false e =
        let many = ltb-false rest before e in
        let lower : height v < height t = low (omega arith) in
        room-search S n x units room v rest (omega arith) (λ w m less. agree w m (omega arith))

pub search-goes_on : SearchGoesOn
search-goes_on S n x t zero = room-goes_on S n x no_argument (height t) t zero (omega arith) (λ v rest less. absurd (omega arith))
search-goes_on S n x t (suc left) =
    room-goes_on S n x (by_units S n x left) (height t) t (suc left) (omega arith) (λ v rest less.
    units-same S n x left rest v rest (omega arith) (omega arith))
