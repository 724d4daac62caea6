-- The result of a search below constructors, by the form of the term.
use Rattle.std.proofs.Common.{◌≡◌, ◌≢◌, ℕ, suc, ◌≤◌, ◌<◌, Bool, true, false, cond, ◌==◌, nat_le, Option, Some, None, option_map, Result, Ok, Err, List, [], ◌∷◌, ◌++◌, refl, sym, ap, ◌∙◌, subst, arith}
use Rattle.std.proofs.lemmas.Bool.Decides.{nat_tests}
use Rattle.theory.specs.Terms.{Term, Con, App, height}
use Rattle.theory.specs.Telescopes.{applied}
use Rattle.theory.specs.Spines.{head_of, spine_of}
use Rattle.theory.proofs.Spines.{applied-spine}
use Rattle.theory.specs.Families.{Argument}
use Rattle.theory.specs.Signatures.{Signature}
use Rattle.core_terms.specs.Answers.{Spent, on_answer, and_next}
use Rattle.core_terms.specs.declared.stop.Stop.{Stop}
use Rattle.core_terms.specs.declared.stop.Stop.TheVariants.{Deep}
use Rattle.kernel_reduce.specs.Reduction.{answered, whnf_of}
use Rattle.unification.specs.Built.{Built, built_of, is_direct}
use Rattle.unification.specs.Solutions.{variable_in}
use Rattle.unification.specs.Cycles.{Search, Below, found_as, here_or, among_arguments, with_arguments, is_variable, below_constructor, in_form, search_in}
use Rattle.problems.specs.CodeCycles.{within, search_within}
use Rattle.unification.proofs.SearchLaws.{search-goes_on}
use Rattle.problems.proofs.BuiltForms.{built-no_variable}

-- ---- in a head form

-- an answer of a search, or Deep where it is higher than `room`
abbrev pub bounded_by : (room : ℕ) → Spent (Option Term) → Spent (Option Term)
bounded_by room r = and_next r (λ found rest. answered (within room found) rest)

-- a search goes on in any term as it began
abbrev pub whole : (S : Signature) (n x : ℕ) → Below
whole S n x before = search_in S n x

same-number : (x : ℕ) → (x == x) ≡ true
same-number x = grind (arith, nat_tests)

other-number : (y x : ℕ) → y ≢ x → (y == x) ≡ false
other-number y x h = grind (arith, nat_tests)

is-other : (x : ℕ) (o : Option ℕ) → o ≢ Some x → is_variable x o ≡ false
is-other x None h = refl
is-other x (Some y) h = other-number y x (λ e. h (ap Some e))

pub form-variable : (S : Signature) (n x : ℕ) (below : Below) (t : Term) (left : ℕ) → variable_in t ≡ Some x → in_form S n x below t left ≡ answered (Ok (Some t)) left
form-variable S n x below t left e =
    ap (λ b. cond b (answered (Ok (Some t)) left) (below_constructor S n below (built_of S t) left)) (ap (is_variable x) e ∙ same-number x)

pub form-other : (S : Signature) (n x : ℕ) (below : Below) (t : Term) (left : ℕ) → variable_in t ≢ Some x → in_form S n x below t left ≡ below_constructor S n below (built_of S t) left
form-other S n x below t left h =
    ap (λ b. cond b (answered (Ok (Some t)) left) (below_constructor S n below (built_of S t) left)) (is-other x (variable_in t) h)

search-form : (S : Signature) (n x room : ℕ) (t : Term) (left : ℕ) → search_within S n x room t left ≡ bounded_by room (in_form S n x (whole S n x) t left)
search-form S n x room t left = ap (bounded_by room) (search-goes_on S n x t left)

search-other : (S : Signature) (n x room : ℕ) (t : Term) (left : ℕ) (o : Option Built) → variable_in t ≢ Some x → built_of S t ≡ o
    → search_within S n x room t left ≡ bounded_by room (below_constructor S n (whole S n x) o left)
search-other S n x room t left o h e =
    search-form S n x room t left
    ∙ ap (bounded_by room) (form-other S n x (whole S n x) t left h ∙ ap (λ o. below_constructor S n (whole S n x) o left) e)

-- no constructor
pub search-none : (S : Signature) (n x room : ℕ) (t : Term) (left : ℕ) → variable_in t ≢ Some x → built_of S t ≡ None → search_within S n x room t left ≡ answered (Ok None) left
search-none S n x room t left h e = search-other S n x room t left None h e

-- a constructor of another family
pub search-apart : (S : Signature) (n x room : ℕ) (t : Term) (left : ℕ) (p : Built) → variable_in t ≢ Some x → built_of S t ≡ Some p → p.n ≢ n
    → search_within S n x room t left ≡ answered (Ok None) left
search-apart S n x room t left p h e apart =
    search-other S n x room t left (Some p) h e
    ∙ ap (λ b. bounded_by room (cond b (found_as (with_arguments p) (among_arguments S (whole S n x) p.constructor.arguments p.arguments)) (λ left. answered (Ok None) left) left)) (other-number p.n n apart)

not-some : (o : Option ℕ) (x : ℕ) → o ≡ None → o ≢ Some x
not-some o x e h = absurd (cc)

-- a constructor of the family
pub search-below : (S : Signature) (x room : ℕ) (t : Term) (left : ℕ) (p : Built) → built_of S t ≡ Some p
    → search_within S p.n x room t left ≡ bounded_by room (found_as (with_arguments p) (among_arguments S (whole S p.n x) p.constructor.arguments p.arguments) left)
search-below S x room t left p e =
    search-other S p.n x room t left (Some p) (not-some (variable_in t) x (built-no_variable S t p e)) e
    ∙ ap (λ b. bounded_by room (cond b (found_as (with_arguments p) (among_arguments S (whole S p.n x) p.constructor.arguments p.arguments)) (λ left. answered (Ok None) left) left)) (same-number p.n)

-- ---- found terms, mapped

-- a search whose found term is mapped, as `found_as` does
abbrev pub mapped : {A B : Type 0} → (A → B) → Spent (Option A) → Spent (Option B)
mapped f r = and_next r (λ found rest. answered (Ok (option_map f found)) rest)

mapped-twice : {A B C : Type 0} (f : B → C) (g : A → B) (r : Result (Option A) Stop) (l : ℕ) → mapped f (mapped g (r, l)) ≡ mapped (λ a. f (g a)) (r, l)
mapped-twice f g (Ok (Some a)) l = refl
mapped-twice f g (Ok None) l = refl
mapped-twice f g (Err e) l = refl

pub found-twice : {A B C : Type 0} (f : B → C) (g : A → B) (M : Search A) (left : ℕ) → found_as f (found_as g M) left ≡ found_as (λ a. f (g a)) M left
found-twice f g M left = mapped-twice f g (M left).0 (M left).1

-- ---- an argument that is found is lower than the whole

pub positive : (t : Term) → 1 ≤ height t
positive (App f a) = omega arith
positive _ = omega arith

-- each of the terms is lower than h
abbrev pub AreLower : (h : ℕ) → List Term → Type 0
AreLower h [] = Unit {0}
AreLower h (u ∷ us) = (height u < h) × AreLower h us

applied-high : (f : Term) (us : List Term) → height f ≤ height (applied f us)
applied-high f [] = omega arith
applied-high f (u ∷ us) = let h = applied-high (App f u) us in omega arith

pub applied-lower : (f : Term) (us : List Term) → AreLower (height (applied f us)) us
applied-lower f [] = tt
applied-lower f (u ∷ us) = (let h = applied-high (App f u) us in omega arith, applied-lower (App f u) us)

-- the arguments of a term
pub spine-lower : (t : Term) → AreLower (height t) (spine_of t)
spine-lower t = subst (λ u. AreLower (height u) (spine_of t)) (applied-spine t) (applied-lower (head_of t) (spine_of t))

behind-lower : (f : Term) (ps us : List Term) → AreLower (height (applied f (ps ++ us))) us
behind-lower f [] us = applied-lower f us
behind-lower f (p ∷ ps) us = behind-lower (App f p) ps us

too-high : (room : ℕ) (v t : Term) → nat_le (height v) room ≡ false → height v < height t → within (suc room) (Some t) ≡ Err Deep
too-high room v t e lt = ap (λ b. cond b (Ok (Some t)) (Err Deep)) (let f : nat_le (height t) (suc room) ≡ false = grind (arith, nat_tests) in f)

-- The bound on a search's result is one above the bound inside it, since the found term is an argument of the whole.
module _ (S : Signature) (n x room : ℕ) where
  abbrev cut : Below
  cut before = search_within S n x room

  at-found : (wrap : List Term → Term) (us : List Term) (M N : Search (List Term)) → ((v : Term) → height v < height (wrap (v ∷ us)))
      → ((left : ℕ) → bounded_by (suc room) (mapped wrap (M left)) ≡ bounded_by (suc room) (mapped wrap (N left))) → (found : Result (Option Term) Stop) (end : ℕ)
      → bounded_by (suc room) (mapped wrap (on_answer found end (λ o last. here_or (option_map (λ v. v ∷ us) o) M last)))
      ≡ bounded_by (suc room) (mapped wrap (and_next (bounded_by room (found, end)) (λ o last. here_or (option_map (λ v. v ∷ us) o) N last)))
  at-found wrap us M N lower same (Err e) end = refl
  at-found wrap us M N lower same (Ok None) end = same end
  at-found wrap us M N lower same (Ok (Some v)) end = go (nat_le (height v) room) refl
    where
      go : (b : Bool) → nat_le (height v) room ≡ b
          → answered (within (suc room) (Some (wrap (v ∷ us)))) end
          ≡ bounded_by (suc room) (mapped wrap (on_answer (cond b (Ok (Some v)) (Err Deep)) end (λ o last. here_or (option_map (λ v. v ∷ us) o) N last)))
      go true e = refl
      go false e = ap (λ r. answered r end) (too-high room v (wrap (v ∷ us)) e (lower v))

  -- two searches among arguments agree up to the bound if those among the later arguments do
  among-at : (wrap : List Term → Term) (a : Argument) (u : Term) (us : List Term) (M N : Search (List Term)) → ((v : Term) → height v < height (wrap (v ∷ us)))
      → ((left : ℕ) → bounded_by (suc room) (mapped wrap (M left)) ≡ bounded_by (suc room) (mapped wrap (N left))) → (left : ℕ) (b : Bool)
      → bounded_by (suc room) (mapped wrap (cond b (and_next (whnf_of S true left u) (λ v rest. and_next (search_in S n x v rest) (λ found end. here_or (option_map (λ w. w ∷ us) found) M end))) (M left)))
      ≡ bounded_by (suc room) (mapped wrap (cond b (and_next (whnf_of S true left u) (λ v rest. and_next (search_within S n x room v rest) (λ found end. here_or (option_map (λ w. w ∷ us) found) N end))) (N left)))
  among-at wrap a u us M N lower same left false = same left
  among-at wrap a u us M N lower same left true = go (whnf_of S true left u).0 (whnf_of S true left u).1
    where
      go : (v : Result Term Stop) (rest : ℕ)
          → bounded_by (suc room) (mapped wrap (on_answer v rest (λ v rest. and_next (search_in S n x v rest) (λ found end. here_or (option_map (λ w. w ∷ us) found) M end))))
          ≡ bounded_by (suc room) (mapped wrap (on_answer v rest (λ v rest. and_next (search_within S n x room v rest) (λ found end. here_or (option_map (λ w. w ∷ us) found) N end))))
      go (Err e) rest = refl
      go (Ok v) rest = at-found wrap us M N lower same (search_in S n x v rest).0 (search_in S n x v rest).1

  among-cut : (wrap : List Term → Term) → ((us : List Term) → AreLower (height (wrap us)) us) → (arguments : List Argument) (us : List Term) (left : ℕ)
      → bounded_by (suc room) (mapped wrap (among_arguments S (whole S n x) arguments us left))
      ≡ bounded_by (suc room) (mapped wrap (among_arguments S cut arguments us left))
  among-cut wrap lower [] us left = refl
  among-cut wrap lower (a ∷ arguments) [] left = refl
  among-cut wrap lower (a ∷ arguments) (u ∷ us) left =
      among-at wrap a u us (found_as (λ ws. u ∷ ws) (among_arguments S (whole S n x) arguments us)) (found_as (λ ws. u ∷ ws) (among_arguments S cut arguments us))
      (λ v. (lower (v ∷ us)).0) (λ left.
      ap (bounded_by (suc room)) (found-twice wrap (λ ws. u ∷ ws) (among_arguments S (whole S n x) arguments us) left)
      ∙ (among-cut (λ ws. wrap (u ∷ ws)) (λ ws. (lower (u ∷ ws)).1) arguments us left
      ∙ ap (bounded_by (suc room)) (sym (found-twice wrap (λ ws. u ∷ ws) (among_arguments S cut arguments us) left)))) left (is_direct a)

-- below a constructor of the family, where there is room for one more
pub search-among : (S : Signature) (x room : ℕ) (t : Term) (left : ℕ) (p : Built) → built_of S t ≡ Some p
    → search_within S p.n x (suc room) t left
    ≡ bounded_by (suc room) (mapped (with_arguments p) (among_arguments S (λ before. search_within S p.n x room) p.constructor.arguments p.arguments left))
search-among S x room t left p e =
    search-below S x (suc room) t left p e
    ∙ among-cut S p.n x room (with_arguments p) (behind-lower (Con p.n p.number) p.parameters) p.constructor.arguments p.arguments left
