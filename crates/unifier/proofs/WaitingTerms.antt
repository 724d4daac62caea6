-- Terms that wait for a search below constructors: it ends, with the result of the search in one after the other.
use Rattle.std.proofs.Common.{◌≡◌, ◌≢◌, ℕ, zero, suc, ◌+◌, ◌≤◌, ◌<◌, ◌⊎◌, Bool, true, false, cond, ◌==◌, nat_le, Option, Some, None, option_map, Result, Ok, Err, List, [], ◌∷◌, ◌++◌, refl, sym, ap, ◌∙◌, subst, subst₂, append-nil, inl, inr, arith}
use Rattle.std.proofs.lemmas.Bool.Decides.{nat_tests}
use Rattle.theory.specs.Terms.{Term, height}
use Rattle.theory.specs.Families.{Argument}
use Rattle.theory.specs.Signatures.{Signature}
use Rattle.core_terms.specs.Answers.{Spent, on_answer, and_next}
use Rattle.core_terms.specs.declared.stop.Stop.{Stop}
use Rattle.core_terms.specs.declared.stop.Stop.TheVariants.{Deep}
use Rattle.kernel_reduce.specs.Reduction.{answered, whnf_of}
use Rattle.unification.specs.Built.{Built, built_of, is_direct}
use Rattle.unification.specs.Runs.{size_of}
use Rattle.unification.specs.Solutions.{variable_in}
use Rattle.unification.specs.Cycles.{Search, found_as, here_or, among_arguments, with_arguments, below_constructor, is_variable, search_in}
use Rattle.problems.specs.CodeCycles.{within, search_within, search_each, search_too_deep, direct_among, direct_arguments, go_below}
use Rattle.unification.proofs.Sizes.{built-smaller, size_of_all, size-positive}
use Rattle.unification.proofs.Reducts.{IsHead, whnf-within}
use Rattle.unification.proofs.SearchLaws.{search-goes_on}
use Rattle.unification.proofs.SpentUnits.{Leaves}
use Rattle.unification.proofs.Cases.{less-or_same}
use Rattle.problems.proofs.CycleForms.{bounded_by, whole, mapped, found-twice, form-variable, form-other, search-below, positive}

-- ---- the search ends

-- the search in terms ends, with the direct arguments in family n before the others
data Ends (S : Signature) (n : ℕ) : List Term → ℕ → Type 0 where
  none : (left : ℕ) → Ends S n [] left
  stops : (u : Term) (terms : List Term) (left rest : ℕ) (e : Stop) → whnf_of S true left u ≡ answered (Err e) rest → Ends S n (u ∷ terms) left
  goes : (u t : Term) (terms : List Term) (left rest : ℕ) → whnf_of S true left u ≡ answered (Ok t) rest → Ends S n (direct_arguments n (built_of S t) ++ terms) rest
      → Ends S n (u ∷ terms) left

-- how many terms it reduces before its last one
abbrev turns : {S : Signature} {n : ℕ} {terms : List Term} {left : ℕ} → Ends S n terms left → ℕ
turns (none left) = 0
turns (stops u terms left rest e is) = 0
turns (goes u t terms left rest is next) = suc (turns next)

size-direct : (arguments : List Argument) (us : List Term) → size_of_all (direct_among arguments us) ≤ size_of_all us
size-direct [] us = omega arith
size-direct (a ∷ arguments) [] = omega arith
size-direct (a ∷ arguments) (u ∷ us) = go (is_direct a) (size-direct arguments us)
  where
    go : (b : Bool) → size_of_all (direct_among arguments us) ≤ size_of_all us → size_of_all (cond b (u ∷ direct_among arguments us) (direct_among arguments us)) ≤ size_of u + size_of_all us
    go true h = omega arith
    go false h = omega arith

size-arguments : (S : Signature) (n : ℕ) (u : Term) (o : Option Built) → built_of S u ≡ o → size_of_all (direct_arguments n o) < size_of u
size-arguments S n u None e = size-positive u
size-arguments S n u (Some b) e = go (b.n == n)
  where
    go : (test : Bool) → size_of_all (cond test (direct_among b.constructor.arguments b.arguments) []) < size_of u
    go true = let h = size-direct b.constructor.arguments b.arguments in let k = built-smaller S u b e in omega arith
    go false = size-positive u

size-append : (us vs : List Term) → size_of_all (us ++ vs) ≡ size_of_all us + size_of_all vs
size-append [] vs = omega arith
size-append (u ∷ us) vs = let h = size-append us vs in omega arith

-- where no unit is spent the term stays as it is
whnf-same : (S : Signature) (left : ℕ) (t u : Term) (rest : ℕ) → whnf_of S true left t ≡ answered (Ok u) rest → (rest ≤ left) × (rest ≡ left → u ≡ t)
whnf-same S left t u rest e =
    let h = whnf-within S true left t in
    (subst (λ (r : Spent Term). r.1 ≤ left) e h.spends, (subst (λ (r : Spent Term). Leaves (IsHead S left t) r.0 r.1) e h.leaves).stays)

at-head : (S : Signature) (n : ℕ) (u : Term) (terms : List Term) (left : ℕ) (r : Result Term Stop) (rest : ℕ) → whnf_of S true left u ≡ answered r rest
    → ((t : Term) → whnf_of S true left u ≡ answered (Ok t) rest → Ends S n (direct_arguments n (built_of S t) ++ terms) rest) → Ends S n (u ∷ terms) left
at-head S n u terms left (Ok t) rest e k = goes u t terms left rest e (k t e)
at-head S n u terms left (Err x) rest e k = stops u terms left rest x e

-- fewer units are left, or the terms that wait are smaller
ends-next : (S : Signature) (n units room : ℕ) (u t : Term) (terms : List Term) (left rest : ℕ) → ((terms : List Term) (left : ℕ) → left < units → Ends S n terms left)
    → ((terms : List Term) (left : ℕ) → left ≤ units → size_of_all terms ≤ room → Ends S n terms left) → left ≤ units → size_of_all (u ∷ terms) ≤ suc room
    → (rest ≡ left → t ≡ u) → ((rest < left) ⊎ (rest ≡ left)) → Ends S n (direct_arguments n (built_of S t) ++ terms) rest
ends-next S n units room u t terms left rest fewer smaller le size same (inl lt) = fewer _ rest (omega arith)
ends-next S n units room u t terms left rest fewer smaller le size same (inr eq) =
    subst (λ v. Ends S n (direct_arguments n (built_of S v) ++ terms) rest) (sym (same eq))
    (smaller (direct_arguments n (built_of S u) ++ terms) rest (omega arith)
    (let h = size-append (direct_arguments n (built_of S u)) terms in let k = size-arguments S n u (built_of S u) refl in omega arith))

ends-by : (S : Signature) (n units : ℕ) → ((terms : List Term) (left : ℕ) → left < units → Ends S n terms left) → (room : ℕ) (terms : List Term) (left : ℕ)
    → left ≤ units → size_of_all terms ≤ room → Ends S n terms left
ends-by S n units fewer room [] left le size = none left
ends-by S n units fewer zero (u ∷ terms) left le size = absurd (let h = size-positive u in omega arith)
ends-by S n units fewer (suc room) (u ∷ terms) left le size =
    at-head S n u terms left (whnf_of S true left u).0 (whnf_of S true left u).1 refl (λ t e.
    let same = whnf-same S left u t (whnf_of S true left u).1 e in
    ends-next S n units room u t terms left (whnf_of S true left u).1 fewer (ends-by S n units fewer room) le size same.1 (less-or_same _ left same.0))

ends-within : (S : Signature) (n units : ℕ) (terms : List Term) (left : ℕ) → left ≤ units → Ends S n terms left
ends-within S n zero terms left le = ends-by S n zero (λ ts l lt. absurd (omega arith)) (size_of_all terms) terms left le (omega arith)
ends-within S n (suc units) terms left le =
    ends-by S n (suc units) (λ ts l lt. ends-within S n units ts l (omega arith)) (size_of_all terms) terms left le (omega arith)

-- the turns of a search in terms
pub turns_in : (S : Signature) (n : ℕ) → List Term → ℕ → ℕ
turns_in S n terms left = turns (ends-within S n left terms left (omega arith))

same-answer : (s : Spent Term) (t v : Term) (rest end : ℕ) → s ≡ answered (Ok t) rest → s ≡ answered (Ok v) end → (t ≡ v) × (rest ≡ end)
same-answer s t v rest end e f =
    let h : ◌≡◌ {A = Result Term Stop} (Ok t) (Ok v) = sym (ap (λ (r : Spent Term). r.0) e) ∙ ap (λ (r : Spent Term). r.0) f in
    (cc, sym (ap (λ (r : Spent Term). r.1) e) ∙ ap (λ (r : Spent Term). r.1) f)

no-answer : (s : Spent Term) (t : Term) (x : Stop) (rest end : ℕ) → s ≡ answered (Ok t) rest → s ≡ answered (Err x) end → ⊥
no-answer s t x rest end e f =
    let h : ◌≡◌ {A = Result Term Stop} (Ok t) (Err x) = sym (ap (λ (r : Spent Term). r.0) e) ∙ ap (λ (r : Spent Term). r.0) f in
    cc

turns-same : (S : Signature) (n : ℕ) (terms : List Term) (left : ℕ) (p q : Ends S n terms left) → turns p ≡ turns q
turns-same S n [] left (none _) (none _) = refl
turns-same S n (u ∷ terms) left (stops _ _ _ rest e is) (stops _ _ _ end x at) = refl
turns-same S n (u ∷ terms) left (stops _ _ _ rest e is) (goes _ t _ _ end at next) = absurd (no-answer (whnf_of S true left u) t e end rest at is)
turns-same S n (u ∷ terms) left (goes _ t _ _ rest is next) (stops _ _ _ end e at) = absurd (no-answer (whnf_of S true left u) t e rest end is at)
turns-same S n (u ∷ terms) left (goes _ t _ _ rest is p) (goes _ v _ _ end at q) =
    let same = same-answer (whnf_of S true left u) t v rest end is at in
    ap suc (subst₂ (λ v l. (q : Ends S n (direct_arguments n (built_of S v) ++ terms) l) → turns p ≡ turns q) same.0 same.1 (λ q. turns-same S n _ rest p q) q)

turns-fewer : (S : Signature) (n : ℕ) (u t : Term) (terms : List Term) (left rest : ℕ) (p : Ends S n (u ∷ terms) left) (q : Ends S n (direct_arguments n (built_of S t) ++ terms) rest)
    → whnf_of S true left u ≡ answered (Ok t) rest → turns q < turns p
turns-fewer S n u t terms left rest (stops _ _ _ end e at) q is = absurd (no-answer (whnf_of S true left u) t e rest end is at)
turns-fewer S n u t terms left rest (goes _ v _ _ end at p) q is =
    let same = same-answer (whnf_of S true left u) v t end rest at is in
    let e : turns p ≡ turns q = subst₂ (λ v l. (q : Ends S n (direct_arguments n (built_of S v) ++ terms) l) → turns p ≡ turns q) same.0 same.1 (λ q. turns-same S n _ end p q) q in
    omega arith

-- they get fewer at each term that is reduced
pub turns-fall : (S : Signature) (n : ℕ) (u t : Term) (terms : List Term) (left rest : ℕ) → whnf_of S true left u ≡ answered (Ok t) rest
    → turns_in S n (direct_arguments n (built_of S t) ++ terms) rest < turns_in S n (u ∷ terms) left
unfolding turns_in
turns-fall S n u t terms left rest is =
    turns-fewer S n u t terms left rest (ends-within S n left (u ∷ terms) left (omega arith)) (ends-within S n rest (direct_arguments n (built_of S t) ++ terms) rest (omega arith)) is

-- ---- the result of the search

within-zero : (t : Term) → within zero (Some t) ≡ Err Deep
within-zero t = let h = positive t in ap (λ b. cond b (Ok (Some t)) (Err Deep)) (let f : nat_le (height t) zero ≡ false = grind (arith, nat_tests) in f)

module _ (S : Signature) (n x : ℕ) (terms : List Term) where
  -- where nothing is found, the terms that wait are searched
  abbrev or_waiting : Spent (Option Term) → Spent (Option Term)
  or_waiting r = bounded_by zero (and_next r (λ found end. here_or found (search_each S n x terms) end))

  at-found : (wrap : List Term → Term) (us : List Term) (M : Search (List Term)) (others : List Term) → ((left : ℕ) → or_waiting (mapped wrap (M left)) ≡ search_too_deep S n x others left)
      → (found : Result (Option Term) Stop) (end : ℕ)
      → or_waiting (mapped wrap (on_answer found end (λ o last. here_or (option_map (λ v. v ∷ us) o) M last)))
      ≡ bounded_by zero (on_answer found end (λ o last. here_or o (search_each S n x others) last))
  at-found wrap us M others same (Err e) end = refl
  at-found wrap us M others same (Ok None) end = same end
  at-found wrap us M others same (Ok (Some v)) end = ap (λ r. answered r end) (within-zero (wrap (v ∷ us)) ∙ sym (within-zero v))

  at-argument : (wrap : List Term → Term) (a : Argument) (u : Term) (us : List Term) (M : Search (List Term)) (others : List Term)
      → ((left : ℕ) → or_waiting (mapped wrap (M left)) ≡ search_too_deep S n x others left) → (left : ℕ) (b : Bool)
      → or_waiting (mapped wrap (cond b (and_next (whnf_of S true left u) (λ v rest. and_next (search_in S n x v rest) (λ found end. here_or (option_map (λ w. w ∷ us) found) M end))) (M left)))
      ≡ search_too_deep S n x (cond b (u ∷ others) others) left
  at-argument wrap a u us M others same left false = same left
  at-argument wrap a u us M others same left true = go (whnf_of S true left u).0 (whnf_of S true left u).1
    where
      go : (v : Result Term Stop) (rest : ℕ)
          → or_waiting (mapped wrap (on_answer v rest (λ v rest. and_next (search_in S n x v rest) (λ found end. here_or (option_map (λ w. w ∷ us) found) M end))))
          ≡ bounded_by zero (on_answer v rest (λ v rest. and_next (search_in S n x v rest) (λ found end. here_or found (search_each S n x others) end)))
      go (Err e) rest = refl
      go (Ok v) rest = at-found wrap us M others same (search_in S n x v rest).0 (search_in S n x v rest).1

  among-waiting : (wrap : List Term → Term) (arguments : List Argument) (us : List Term) (left : ℕ)
      → or_waiting (mapped wrap (among_arguments S (whole S n x) arguments us left)) ≡ search_too_deep S n x (direct_among arguments us ++ terms) left
  among-waiting wrap [] us left = refl
  among-waiting wrap (a ∷ arguments) [] left = refl
  among-waiting wrap (a ∷ arguments) (u ∷ us) left =
      at-argument wrap a u us (found_as (λ ws. u ∷ ws) (among_arguments S (whole S n x) arguments us)) (direct_among arguments us ++ terms)
      (λ left. ap or_waiting (found-twice wrap (λ ws. u ∷ ws) (among_arguments S (whole S n x) arguments us) left) ∙ among-waiting (λ ws. wrap (u ∷ ws)) arguments us left) left (is_direct a)
      ∙ ap (λ ts. search_too_deep S n x ts left) (cond-append (is_direct a))
    where
      cond-append : (b : Bool) → cond b (u ∷ direct_among arguments us ++ terms) (direct_among arguments us ++ terms) ≡ cond b (u ∷ direct_among arguments us) (direct_among arguments us) ++ terms
      cond-append true = refl
      cond-append false = refl

  below-waiting : (o : Option Built) (left : ℕ) → or_waiting (below_constructor S n (whole S n x) o left) ≡ search_too_deep S n x (direct_arguments n o ++ terms) left
  below-waiting None left = refl
  below-waiting (Some b) left = go (b.n == n)
    where
      go : (test : Bool)
          → or_waiting (cond test (found_as (with_arguments b) (among_arguments S (whole S n x) b.constructor.arguments b.arguments)) (λ left. answered (Ok None) left) left)
          ≡ search_too_deep S n x (cond test (direct_among b.constructor.arguments b.arguments) [] ++ terms) left
      go true = among-waiting (with_arguments b) b.constructor.arguments b.arguments left
      go false = refl

  at-term : (u : Term) (left : ℕ) (r : Result Term Stop) (rest : ℕ) → whnf_of S true left u ≡ answered r rest
      → search_too_deep S n x (u ∷ terms) left ≡ bounded_by zero (on_answer r rest (λ t rest. and_next (search_in S n x t rest) (λ found end. here_or found (search_each S n x terms) end)))
  at-term u left r rest e =
      ap (λ s. bounded_by zero (and_next s (λ t rest. and_next (search_in S n x t rest) (λ found end. here_or found (search_each S n x terms) end)))) e

  -- the reduction of the first term stops
  pub waiting-stops : (u : Term) (left rest : ℕ) (e : Stop) → whnf_of S true left u ≡ answered (Err e) rest → search_too_deep S n x (u ∷ terms) left ≡ answered (Err e) rest
  waiting-stops u left rest e is = at-term u left (Err e) rest is

  -- the first term is the variable
  pub waiting-found : (u t : Term) (left rest : ℕ) → whnf_of S true left u ≡ answered (Ok t) rest → variable_in t ≡ Some x → search_too_deep S n x (u ∷ terms) left ≡ answered (Err Deep) rest
  waiting-found u t left rest is at =
      at-term u left (Ok t) rest is
      ∙ (ap or_waiting (search-goes_on S n x t rest ∙ form-variable S n x (whole S n x) t rest at) ∙ ap (λ r. answered r rest) (within-zero t))

  -- the arguments of the first term wait before the other terms
  pub waiting-goes : (u t : Term) (left rest : ℕ) → whnf_of S true left u ≡ answered (Ok t) rest → variable_in t ≢ Some x
      → search_too_deep S n x (u ∷ terms) left ≡ search_too_deep S n x (direct_arguments n (built_of S t) ++ terms) rest
  waiting-goes u t left rest is other =
      at-term u left (Ok t) rest is
      ∙ (ap or_waiting (search-goes_on S n x t rest ∙ form-other S n x (whole S n x) t rest other) ∙ below-waiting (built_of S t) rest)

or-nothing : (S : Signature) (n x : ℕ) (r : Result (Option Term) Stop) (end : ℕ) → bounded_by zero (r, end) ≡ or_waiting S n x [] (r, end)
or-nothing S n x (Ok (Some t)) end = refl
or-nothing S n x (Ok None) end = refl
or-nothing S n x (Err e) end = refl

-- below a constructor of the family, where there is no room
pub search-deep : (S : Signature) (x : ℕ) (t : Term) (left : ℕ) (p : Built) → built_of S t ≡ Some p
    → search_within S p.n x zero t left ≡ search_too_deep S p.n x (direct_among p.constructor.arguments p.arguments) left
search-deep S x t left p e =
    let r = found_as (with_arguments p) (among_arguments S (whole S p.n x) p.constructor.arguments p.arguments) left in
    search-below S x zero t left p e
    ∙ (or-nothing S p.n x r.0 r.1
    ∙ (among-waiting S p.n x [] (with_arguments p) p.constructor.arguments p.arguments left
    ∙ ap (λ ts. search_too_deep S p.n x ts left) (append-nil (direct_among p.constructor.arguments p.arguments))))

-- ---- one term after the other

is-same : (x : ℕ) (o : Option ℕ) → is_variable x o ≡ true → o ≡ Some x
is-same x (Some y) e = ap Some (let f : y ≡ x = grind (arith, nat_tests) in f)
is-same x None e = absurd (cc)

pub is-apart : (x : ℕ) (o : Option ℕ) → is_variable x o ≡ false → o ≢ Some x
is-apart x o e same = absurd (let f : is_variable x (Some x) ≡ false = ap (is_variable x) (sym same) ∙ e in grind (arith, nat_tests))

pub below-all : (S : Signature) (n x : ℕ) (u : Term) (terms : List Term) (left : ℕ)
    → search_too_deep S n x (u ∷ terms) left ≡ and_next (go_below S n x u terms left) (λ made rest. search_too_deep S n x made rest)
below-all S n x u terms left = go (whnf_of S true left u).0 (whnf_of S true left u).1 refl
  where
    at-form : (t : Term) (rest : ℕ) (b : Bool) → is_variable x (variable_in t) ≡ b → whnf_of S true left u ≡ answered (Ok t) rest
        → search_too_deep S n x (u ∷ terms) left
        ≡ on_answer (cond b (Err Deep) (Ok (direct_arguments n (built_of S t) ++ terms))) rest (λ made rest. search_too_deep S n x made rest)
    at-form t rest true e is = waiting-found S n x terms u t left rest is (is-same x (variable_in t) e)
    at-form t rest false e is = waiting-goes S n x terms u t left rest is (is-apart x (variable_in t) e)

    go : (r : Result Term Stop) (rest : ℕ) → whnf_of S true left u ≡ answered r rest
        → search_too_deep S n x (u ∷ terms) left
        ≡ and_next (on_answer r rest (λ t rest. answered (cond (is_variable x (variable_in t)) (Err Deep) (Ok (direct_arguments n (built_of S t) ++ terms))) rest)) (λ made rest. search_too_deep S n x made rest)
    go (Ok t) rest is = at-form t rest (is_variable x (variable_in t)) refl is
    go (Err e) rest is = waiting-stops S n x terms u left rest e is

pub below-fewer : (S : Signature) (n x : ℕ) (u : Term) (terms made : List Term) (left rest : ℕ) → ◌≡◌ {A = Spent (List Term)} (Ok made, rest) (go_below S n x u terms left)
    → turns_in S n made rest < turns_in S n (u ∷ terms) left
below-fewer S n x u terms made left rest e = go (whnf_of S true left u).0 (whnf_of S true left u).1 refl e
  where
    at-form : (t : Term) (end : ℕ) (b : Bool) → whnf_of S true left u ≡ answered (Ok t) end
        → ◌≡◌ {A = Spent (List Term)} (Ok made, rest) (cond b (Err Deep) (Ok (direct_arguments n (built_of S t) ++ terms)), end) → turns_in S n made rest < turns_in S n (u ∷ terms) left
    at-form t end true is e = absurd (let f = ap (λ (r : Spent (List Term)). r.0) e in cc)
    at-form t end false is e =
        let f = ap (λ (r : Spent (List Term)). r.0) e in
        let m : made ≡ direct_arguments n (built_of S t) ++ terms = cc in
        subst₂ (λ m l. turns_in S n m l < turns_in S n (u ∷ terms) left) (sym m) (sym (ap (λ (r : Spent (List Term)). r.1) e)) (turns-fall S n u t terms left end is)

    go : (r : Result Term Stop) (end : ℕ) → whnf_of S true left u ≡ answered r end
        → ◌≡◌ {A = Spent (List Term)} (Ok made, rest) (on_answer r end (λ t rest. answered (cond (is_variable x (variable_in t)) (Err Deep) (Ok (direct_arguments n (built_of S t) ++ terms))) rest))
        → turns_in S n made rest < turns_in S n (u ∷ terms) left
    go (Ok t) end is e = at-form t end (is_variable x (variable_in t)) is e
    go (Err x) end is e = absurd (let f = ap (λ (r : Spent (List Term)). r.0) e in cc)
