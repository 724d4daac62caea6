-- The walk through the places of printed terms finds the shared ones.
use Rattle.std.proofs.Common.{◌≡◌, ◌+◌, Bool, true, false, cond, ◌&&◌, ◌||◌, nat_le, nat_lt, List, [], ◌∷◌, ◌++◌, filter, flat_map, length, refl, ap, ap₂, sym, ◌∙◌, subst, append_assoc, append-nil, arith}
use Rattle.std.proofs.lemmas.Bool.Decides.{nat_tests}
use Rattle.std.proofs.lemmas.Grind.{flat_map-append}
use Rattle.theory.specs.Terms.{Term, height}
use Rattle.theory.specs.Terms.Term.{Var, Sort, Pi, Lam, App, Let, Const, Fam, Con, Elim, AxiomK}
use Rattle.shared_text.specs.PrintedTerms.{same, is_among, spine_members, printed_children, ends_of, with_term, joined, printed_terms, places, times, is_shared, shared_terms}
use Rattle.shared_text.specs.Walks.{Walked, with_found, with_again, has_found, meet, meet_function, meet_inside, meet_all, is_met_shared, met_shared}
use Rattle.shared_text.proofs.Joined.{same-is, with-members, with-new, joined-append, joined-members, joined-there, joined-filter}
use Rattle.shared_text.proofs.PrintedEnds.{inner, ends-inner, shorter-ends, IsClosed, closed-ends, closed-joined, not-inner}

-- ---- how often a term is there

times-by : (u x : Term) (xs ys : List Term) (b : Bool) → times u (xs ++ ys) ≡ times u xs + times u ys
    → length (cond b (x ∷ filter (same u) (xs ++ ys)) (filter (same u) (xs ++ ys))) ≡ length (cond b (x ∷ filter (same u) xs) (filter (same u) xs)) + times u ys
times-by u x xs ys true rest = omega arith
times-by u x xs ys false rest = rest

pub times-append : (u : Term) (xs ys : List Term) → times u (xs ++ ys) ≡ times u xs + times u ys
times-append u [] ys = omega arith
times-append u (x ∷ xs) ys = times-by u x xs ys (same u x) (times-append u xs ys)

times-is : (u t : Term) → same u t ≡ true → times u (t ∷ []) ≡ 1
times-is u t h = ap (λ b. length (cond b (t ∷ []) [])) h

times-other : (u t : Term) → same u t ≡ false → times u (t ∷ []) ≡ 0
times-other u t h = ap (λ b. length (cond b (t ∷ []) [])) h

-- ---- what the walk has met

-- the walk says of each term whether it is in the trace, and whether it is there twice
pub record Tells (w : Walked) (trace : List Term) : Type 0 where
  pub once : (u : Term) → is_among w.found u ≡ nat_le 1 (times u trace)
  pub twice : (u : Term) → is_among w.again u ≡ nat_le 2 (times u trace)

true-or : (b : Bool) → (b || true) ≡ true
true-or true = refl
true-or false = refl

or-false : (b : Bool) → (b || false) ≡ b
or-false true = refl
or-false false = refl

module _ (w : Walked) (t : Term) (trace : List Term) (tells : Tells w trace) where
  one-more : (u : Term) → times u (trace ++ t ∷ []) ≡ times u trace + times u (t ∷ [])
  one-more u = times-append u trace (t ∷ [])

  tells-again : has_found t w ≡ true → Tells (with_again t w) (trace ++ t ∷ [])
  tells-again there = record { once = λ u. first u (same u t) refl; twice = λ u. second u (same u t) refl }
    where
      seen : (u : Term) → same u t ≡ true → nat_le 1 (times u trace) ≡ true
      seen u h = sym (tells.once u) ∙ subst (λ x. is_among w.found x ≡ true) (sym (same-is u t h)) there

      first : (u : Term) (b : Bool) → same u t ≡ b → is_among w.found u ≡ nat_le 1 (times u (trace ++ t ∷ []))
      first u true h =
          let more : times u (trace ++ t ∷ []) ≡ times u trace + times u (t ∷ []) = one-more u in
          let one : times u (t ∷ []) ≡ 1 = times-is u t h in
          let is : nat_le 1 (times u (trace ++ t ∷ [])) ≡ true = grind (arith, nat_tests) in
          tells.once u ∙ (seen u h ∙ sym is)
      first u false h =
          let more : times u (trace ++ t ∷ []) ≡ times u trace + times u (t ∷ []) = one-more u in
          let none : times u (t ∷ []) ≡ 0 = times-other u t h in
          let is : times u (trace ++ t ∷ []) ≡ times u trace = omega arith in
          tells.once u ∙ ap (nat_le 1) (sym is)

      second : (u : Term) (b : Bool) → same u t ≡ b → is_among (with_term w.again t) u ≡ nat_le 2 (times u (trace ++ t ∷ []))
      second u true h =
          let more : times u (trace ++ t ∷ []) ≡ times u trace + times u (t ∷ []) = one-more u in
          let one : times u (t ∷ []) ≡ 1 = times-is u t h in
          let before : nat_le 1 (times u trace) ≡ true = seen u h in
          let is : nat_le 2 (times u (trace ++ t ∷ [])) ≡ true = grind (arith, nat_tests) in
          with-members w.again t u ∙ (ap (λ b. is_among w.again u || b) h ∙ (true-or (is_among w.again u) ∙ sym is))
      second u false h =
          let more : times u (trace ++ t ∷ []) ≡ times u trace + times u (t ∷ []) = one-more u in
          let none : times u (t ∷ []) ≡ 0 = times-other u t h in
          let is : times u (trace ++ t ∷ []) ≡ times u trace = omega arith in
          with-members w.again t u ∙ (ap (λ b. is_among w.again u || b) h ∙ (or-false (is_among w.again u) ∙ (tells.twice u ∙ ap (nat_le 2) (sym is))))

  tells-found : has_found t w ≡ false → Tells (with_found t w) (trace ++ t ∷ [])
  tells-found new = record { once = λ u. first u (same u t) refl; twice = λ u. second u (same u t) refl }
    where
      unseen : (u : Term) → same u t ≡ true → nat_le 1 (times u trace) ≡ false
      unseen u h = sym (tells.once u) ∙ subst (λ x. is_among w.found x ≡ false) (sym (same-is u t h)) new

      first : (u : Term) (b : Bool) → same u t ≡ b → is_among (with_term w.found t) u ≡ nat_le 1 (times u (trace ++ t ∷ []))
      first u true h =
          let more : times u (trace ++ t ∷ []) ≡ times u trace + times u (t ∷ []) = one-more u in
          let one : times u (t ∷ []) ≡ 1 = times-is u t h in
          let is : nat_le 1 (times u (trace ++ t ∷ [])) ≡ true = grind (arith, nat_tests) in
          with-members w.found t u ∙ (ap (λ b. is_among w.found u || b) h ∙ (true-or (is_among w.found u) ∙ sym is))
      first u false h =
          let more : times u (trace ++ t ∷ []) ≡ times u trace + times u (t ∷ []) = one-more u in
          let none : times u (t ∷ []) ≡ 0 = times-other u t h in
          let is : times u (trace ++ t ∷ []) ≡ times u trace = omega arith in
          with-members w.found t u ∙ (ap (λ b. is_among w.found u || b) h ∙ (or-false (is_among w.found u) ∙ (tells.once u ∙ ap (nat_le 1) (sym is))))

      second : (u : Term) (b : Bool) → same u t ≡ b → is_among w.again u ≡ nat_le 2 (times u (trace ++ t ∷ []))
      second u true h =
          let more : times u (trace ++ t ∷ []) ≡ times u trace + times u (t ∷ []) = one-more u in
          let one : times u (t ∷ []) ≡ 1 = times-is u t h in
          let before : nat_le 1 (times u trace) ≡ false = unseen u h in
          let was : nat_le 2 (times u trace) ≡ false = grind (arith, nat_tests) in
          let is : nat_le 2 (times u (trace ++ t ∷ [])) ≡ false = grind (arith, nat_tests) in
          tells.twice u ∙ (was ∙ sym is)
      second u false h =
          let more : times u (trace ++ t ∷ []) ≡ times u trace + times u (t ∷ []) = one-more u in
          let none : times u (t ∷ []) ≡ 0 = times-other u t h in
          let is : times u (trace ++ t ∷ []) ≡ times u trace = omega arith in
          tells.twice u ∙ ap (nat_le 2) (sym is)

-- ---- from one state of the walk to another

abbrev children_of : List Term → List Term
children_of ts = flat_map printed_children ts

-- The walk ends the terms `ends`, and meets the terms at the places `met`; `trace` has all terms that it meets.
pub record Goes (w v : Walked) (ends met : List Term) : Type 0 where
  pub trace : List Term
  pub closed : IsClosed v.found
  pub found : v.found ≡ joined w.found ends
  pub tells : (before : List Term) → Tells w before → Tells v (before ++ trace)
  pub counts : (u : Term) → times u trace + times u (children_of w.found) ≡ times u met + times u (children_of v.found)

pub goes-nowhere : (w : Walked) → IsClosed w.found → Goes w w [] []
goes-nowhere w closed =
    record {
      trace = [];
      closed = closed;
      found = refl;
      tells = λ before h. subst (Tells w) (sym (append-nil before)) h;
      counts = λ u. refl;
    }

pub goes-on : (w v x : Walked) (ends others met more : List Term) → Goes w v ends met → Goes v x others more → Goes w x (ends ++ others) (met ++ more)
goes-on w v x ends others met more one other =
    record {
      trace = one.trace ++ other.trace;
      closed = other.closed;
      found = other.found ∙ (ap (λ ts. joined ts others) one.found ∙ sym (joined-append w.found ends others));
      tells = λ before h. subst (Tells x) (append_assoc before one.trace other.trace) (other.tells (before ++ one.trace) (one.tells before h));
      counts = counts;
    }
  where
    counts : (u : Term) → times u (one.trace ++ other.trace) + times u (children_of w.found) ≡ times u (met ++ more) + times u (children_of x.found)
    counts u =
        let a : times u (one.trace ++ other.trace) ≡ times u one.trace + times u other.trace = times-append u one.trace other.trace in
        let b : times u (met ++ more) ≡ times u met + times u more = times-append u met more in
        let c : times u one.trace + times u (children_of w.found) ≡ times u met + times u (children_of v.found) = one.counts u in
        let d : times u other.trace + times u (children_of v.found) ≡ times u more + times u (children_of x.found) = other.counts u in
        omega arith

goes-as : (w v : Walked) (ends others met more : List Term) → ends ≡ others → met ≡ more → Goes w v ends met → Goes w v others more
goes-as w v ends others met more e p h = subst (λ x. Goes w v x more) e (subst (λ x. Goes w v ends x) p h)

-- ---- a term at a place

module _ (t : Term) (inside : Walked → Walked) (goes : (w : Walked) → IsClosed w.found → Goes w (inside w) (inner t) (printed_children t)) where
  meet-there : (w : Walked) → IsClosed w.found → has_found t w ≡ true → Goes w (with_again t w) (ends_of false t) (t ∷ [])
  meet-there w closed there =
      record {
        trace = t ∷ [];
        closed = closed;
        found = sym (joined-there w.found (ends_of false t) (λ u h. closed t u there h));
        tells = λ before h. tells-again w t before h there;
        counts = λ u. refl;
      }

  meet-new : (w : Walked) → IsClosed w.found → has_found t w ≡ false → Goes w (with_found t (inside w)) (ends_of false t) (t ∷ [])
  meet-new w closed new =
      record {
        trace = below.trace ++ t ∷ [];
        closed = subst IsClosed (sym whole) (closed-joined w.found (ends_of false t) closed (closed-ends false t));
        found = whole;
        tells = λ before h. subst (Tells (with_found t v)) (append_assoc before below.trace (t ∷ [])) (tells-found v t (before ++ below.trace) (below.tells before h) absent);
        counts = counts;
      }
    where
      v : Walked
      v = inside w

      below : Goes w v (inner t) (printed_children t)
      below = goes w closed

      absent : has_found t v ≡ false
      absent =
          ap (λ ts. is_among ts t) below.found
          ∙ (joined-members w.found (inner t) t ∙ (ap (λ b. b || is_among (inner t) t) new ∙ not-inner t))

      last : with_term v.found t ≡ v.found ++ t ∷ []
      last = with-new v.found t absent

      whole : with_term v.found t ≡ joined w.found (ends_of false t)
      whole =
          ap (λ ts. with_term ts t) below.found
          ∙ (sym (joined-append w.found (inner t) (t ∷ [])) ∙ ap (joined w.found) (sym (ends-inner t)))

      counts : (u : Term) → times u (below.trace ++ t ∷ []) + times u (children_of w.found) ≡ times u (t ∷ []) + times u (children_of (with_term v.found t))
      counts u =
          let a : times u (below.trace ++ t ∷ []) ≡ times u below.trace + times u (t ∷ []) = times-append u below.trace (t ∷ []) in
          let b : times u below.trace + times u (children_of w.found) ≡ times u (printed_children t) + times u (children_of v.found) = below.counts u in
          let c : children_of (with_term v.found t) ≡ children_of v.found ++ printed_children t =
          ap children_of last ∙ (flat_map-append printed_children v.found (t ∷ []) ∙ ap (λ ts. children_of v.found ++ ts) (append-nil (printed_children t))) in
          let d : times u (children_of v.found ++ printed_children t) ≡ times u (children_of v.found) + times u (printed_children t) = times-append u (children_of v.found) (printed_children t) in
          let e : times u (children_of (with_term v.found t)) ≡ times u (children_of v.found) + times u (printed_children t) = ap (times u) c ∙ d in
          omega arith

  pub meet-goes : (w : Walked) → IsClosed w.found → Goes w (meet inside t w) (ends_of false t) (t ∷ [])
  meet-goes w closed = go (has_found t w) refl
    where
      go : (b : Bool) → has_found t w ≡ b → Goes w (cond b (with_again t w) (with_found t (inside w))) (ends_of false t) (t ∷ [])
      go true h = meet-there w closed h
      go false h = meet-new w closed h

-- ---- terms

abbrev IsWalked : Term → Type 0
IsWalked t = (w : Walked) → IsClosed w.found → Goes w (meet_inside t w) (inner t) (printed_children t)

at-place : (t : Term) → IsWalked t → (w : Walked) → IsClosed w.found → Goes w (meet (meet_inside t) t w) (ends_of false t) (t ∷ [])
at-place t goes w closed = meet-goes t (meet_inside t) goes w closed

as-function : (f : Term) → IsWalked f → (w : Walked) → IsClosed w.found → Goes w (meet_function (meet_inside f) f w) (ends_of true f) (spine_members f)
as-function (App g a) goes w closed =
    goes-as w (meet_inside (App g a) w) (inner (App g a)) (ends_of true (App g a)) (spine_members (App g a)) (spine_members (App g a)) (sym (shorter-ends g a)) refl (goes w closed)
as-function (Var n) goes w closed = at-place (Var n) goes w closed
as-function (Sort i) goes w closed = at-place (Sort i) goes w closed
as-function (Pi a b) goes w closed = at-place (Pi a b) goes w closed
as-function (Lam a b) goes w closed = at-place (Lam a b) goes w closed
as-function (Let a t b) goes w closed = at-place (Let a t b) goes w closed
as-function (Const n) goes w closed = at-place (Const n) goes w closed
as-function (Fam n) goes w closed = at-place (Fam n) goes w closed
as-function (Con n c) goes w closed = at-place (Con n c) goes w closed
as-function (Elim n m) goes w closed = at-place (Elim n m) goes w closed
as-function (AxiomK i m) goes w closed = at-place (AxiomK i m) goes w closed

two-places : (a b : Term) → IsWalked a → IsWalked b → (w : Walked) → IsClosed w.found →
    Goes w (meet (meet_inside b) b (meet (meet_inside a) a w)) (ends_of false a ++ ends_of false b) (a ∷ b ∷ [])
two-places a b one other w closed =
    let first = at-place a one w closed in
    let v = meet (meet_inside a) a w in
    goes-on w v (meet (meet_inside b) b v) (ends_of false a) (ends_of false b) (a ∷ []) (b ∷ []) first (at-place b other v first.closed)

inside-walked : (t : Term) → IsWalked t
inside-walked (Pi a b) w closed = two-places a b (inside-walked a) (inside-walked b) w closed
inside-walked (Lam a b) w closed = two-places a b (inside-walked a) (inside-walked b) w closed
inside-walked (App f a) w closed =
    let first = as-function f (inside-walked f) w closed in
    let v = meet_function (meet_inside f) f w in
    goes-on w v (meet (meet_inside a) a v) (ends_of true f) (ends_of false a) (spine_members f) (a ∷ []) first (at-place a (inside-walked a) v first.closed)
inside-walked (Let a t b) w closed =
    let first = two-places a t (inside-walked a) (inside-walked t) w closed in
    let v = meet (meet_inside t) t (meet (meet_inside a) a w) in
    goes-on w v (meet (meet_inside b) b v) (ends_of false a ++ ends_of false t) (ends_of false b) (a ∷ t ∷ []) (b ∷ []) first (at-place b (inside-walked b) v first.closed)
inside-walked (Var n) w closed = goes-nowhere w closed
inside-walked (Sort i) w closed = goes-nowhere w closed
inside-walked (Const n) w closed = goes-nowhere w closed
inside-walked (Fam n) w closed = goes-nowhere w closed
inside-walked (Con n c) w closed = goes-nowhere w closed
inside-walked (Elim n m) w closed = goes-nowhere w closed
inside-walked (AxiomK i m) w closed = goes-nowhere w closed

-- ---- written terms

all-walked : (ts : List Term) (w : Walked) → IsClosed w.found → Goes w (meet_all ts w) (flat_map (ends_of false) ts) ts
all-walked [] w closed = goes-nowhere w closed
all-walked (t ∷ ts) w closed =
    let first = at-place t (inside-walked t) w closed in
    let v = meet (meet_inside t) t w in
    goes-on w v (meet_all ts v) (ends_of false t) (flat_map (ends_of false) ts) (t ∷ []) ts first (all-walked ts v first.closed)

abbrev pub nothing : Walked
nothing = record { found = []; again = [] }

pub met-append : (xs ys : List Term) (w : Walked) → meet_all (xs ++ ys) w ≡ meet_all ys (meet_all xs w)
met-append [] ys w = refl
met-append (x ∷ xs) ys w = met-append xs ys (meet (meet_inside x) x w)

module _ (written : List Term) where
  abbrev pub end : Walked
  end = meet_all written nothing

  walked : Goes nothing end (flat_map (ends_of false) written) written
  walked = all-walked written nothing (λ x u h below. h)

  pub found-is : end.found ≡ printed_terms written
  found-is = walked.found

  tells-nothing : Tells nothing []
  tells-nothing = record { once = λ u. refl; twice = λ u. refl }

  told : Tells end walked.trace
  told = walked.tells [] tells-nothing

  as-places : (u : Term) → times u walked.trace ≡ times u (places written)
  as-places u =
      let a : times u walked.trace + times u [] ≡ times u written + times u (children_of end.found) = walked.counts u in
      let b : times u (children_of end.found) ≡ times u (children_of (printed_terms written)) = ap (λ ts. times u (children_of ts)) found-is in
      let c : times u (places written) ≡ times u written + times u (children_of (printed_terms written)) = times-append u written (children_of (printed_terms written)) in
      omega arith

  shared-as : (u : Term) → is_met_shared end u ≡ is_shared written u
  shared-as u = ap (λ b. nat_lt 1 (height u) && b) (told.twice u ∙ ap (nat_le 2) (as-places u))

filter-as : (p q : Term → Bool) (xs : List Term) → ((u : Term) → p u ≡ q u) → filter p xs ≡ filter q xs
filter-as p q [] same = refl
filter-as p q (x ∷ xs) same = ap₂ (λ b ts. cond b (x ∷ ts) ts) (same x) (filter-as p q xs same)

-- The walk finds the shared terms, in the order in which they are first ended.
pub met-shared : (written : List Term) → joined [] (met_shared (meet_all written nothing)) ≡ shared_terms written
met-shared written =
    ap (joined []) is ∙ (joined-filter (is_shared written) (flat_map (ends_of false) written))
  where
    is : met_shared (meet_all written nothing) ≡ shared_terms written
    is = ap (filter (is_met_shared (meet_all written nothing))) (found-is written) ∙ filter-as (is_met_shared (meet_all written nothing)) (is_shared written) (printed_terms written) (shared-as written)
