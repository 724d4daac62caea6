-- Pairs that differ in the terms of wildcards alone, where each pair with a constructor is at a shared term that is one: working
-- and keeping see no difference.
use Rattle.std.proofs.Common.{◌≡◌, ℕ, Bool, true, false, ◌||◌, ◌&&◌, cond, Option, Some, None, option_map, Ok, List, [], ◌∷◌, ◌++◌, length, map, refl, sym, ap, ap₂, ◌∙◌, subst as transport, arith}
use Rattle.theory.specs.Terms.{Term, Con}
use Rattle.theory.specs.Substitutions.{inst}
use Rattle.theory.specs.Telescopes.{applied}
use Rattle.theory.specs.Signatures.{Signature}
use Rattle.theory.proofs.Lists.{some_is}
use Rattle.core_terms.specs.Answers.{and_next, are_low}
use Rattle.core_terms.specs.Patterns.{Pat}
use Rattle.kernel_reduce.specs.Reduction.{answered}
use Rattle.unification.specs.Built.{Built, built_of}
use Rattle.unification.proofs.Constructors.{instance_of, built-instance}
use Rattle.case_trees.specs.Pairs.{Pair, Pairs, Waits, Binds, Passes, Keeps, Builds, Clashes, nil, cons, term_in, terms_in, clashes, some_clashes, or_later, clash_in, first_clash, open_in, all_open, bound_in, all_bound, dots_in, all_dots, with_terms, all_with_terms, is_low_pair, are_low_pairs}
use Rattle.case_trees.specs.Working.{Rooms, of_arguments, unless_clash, work_pair, work_pairs}
use Rattle.case_trees.specs.Keeping.{kept_over, unless_built, keep, keep_all}
use Rattle.case_trees.proofs.Arguments.{built-with}
use Rattle.clause_walks.specs.Forgetting.{forget, forget_all, Covers, CoverAll}
use Rattle.clause_walks.proofs.AlikeAnswers.{RunAlike, run-itself, and_next-alike}

-- the first shared term, where there is one, and those after it
abbrev pub first : List Term → Option Term
first [] = None
first (u ∷ us) = Some u

abbrev pub behind : List Term → List Term
behind [] = []
behind (u ∷ us) = us

-- The shared term is a constructor with these arguments. Where there is no shared term there is none for the arguments.
abbrev pub HasArguments : Signature → Option Term → List Term → Type 0
HasArguments S None us = us ≡ []
HasArguments S (Some u) us = (b : Built) × (built_of S u ≡ Some b) × (us ≡ b.arguments)

mutual
  -- two pairs at a shared term
  pub data IsAlike (S : Signature) : Pair → Pair → Option Term → Type 0 where
    same : (pair : Pair) (u : Option Term) → IsAlike S pair pair u
    passes : (t v : Term) (u : Option Term) → IsAlike S (Passes t) (Passes v) u
    inside : (n number : ℕ) (ps : List Term) (pairs others : Pairs) (u : Option Term) (us : List Term) → HasArguments S u us → AreAlike S pairs others us
        → IsAlike S (Builds n number ps pairs) (Builds n number ps others) u

  pub data AreAlike (S : Signature) : Pairs → Pairs → List Term → Type 0 where
    none : (us : List Term) → AreAlike S nil nil us
    more : (pair other : Pair) (pairs others : Pairs) (us : List Term) → IsAlike S pair other (first us) → AreAlike S pairs others (behind us)
        → AreAlike S (cons pair pairs) (cons other others) us

pub all-same : (S : Signature) (pairs : Pairs) (us : List Term) → AreAlike S pairs pairs us
all-same S nil us = none us
all-same S (cons pair pairs) us = more pair pair pairs pairs us (same pair (first us)) (all-same S pairs (behind us))

-- ---- questions about pairs

-- a question about pairs that does not look at the terms of wildcards
pub record IsBlind (A : Type 0) (q : Pair → A) (qs : Pairs → A) : Type 0 where
  pub wild : (t v : Term) → q (Passes t) ≡ q (Passes v)
  pub built : (n number : ℕ) (ps : List Term) (pairs others : Pairs) → qs pairs ≡ qs others → q (Builds n number ps pairs) ≡ q (Builds n number ps others)
  pub both : (pair other : Pair) (pairs others : Pairs) → q pair ≡ q other → qs pairs ≡ qs others → qs (cons pair pairs) ≡ qs (cons other others)

pub clash-blind : IsBlind Bool clashes some_clashes
clash-blind = record { wild = λ t v. refl; built = λ n number ps pairs others e. e; both = λ pair other pairs others e es. ap₂ (λ a b. a || b) e es }

pub first_clash-blind : IsBlind (Option (Pat × Term)) clash_in first_clash
first_clash-blind = record { wild = λ t v. refl; built = λ n number ps pairs others e. e; both = λ pair other pairs others e es. ap₂ (λ a b. or_later a b) e es }

pub open-blind : IsBlind (List (Pat × Term)) open_in all_open
open-blind = record { wild = λ t v. refl; built = λ n number ps pairs others e. e; both = λ pair other pairs others e es. ap₂ (λ a b. a ++ b) e es }

pub bound-blind : IsBlind (List (Option Term)) bound_in all_bound
bound-blind = record { wild = λ t v. refl; built = λ n number ps pairs others e. e; both = λ pair other pairs others e es. ap₂ (λ a b. a ++ b) e es }

pub dots-blind : IsBlind (List (Term × Term)) dots_in all_dots
dots-blind = record { wild = λ t v. refl; built = λ n number ps pairs others e. e; both = λ pair other pairs others e es. ap₂ (λ a b. a ++ b) e es }

pub low-blind : IsBlind Bool is_low_pair are_low_pairs
low-blind = record { wild = λ t v. refl; built = λ n number ps pairs others e. ap (λ b. are_low ps && b) e; both = λ pair other pairs others e es. ap₂ (λ a b. a && b) e es }

-- the number of pairs
abbrev one_each : Pair → ℕ
one_each pair = 1

abbrev pub count_in : Pairs → ℕ
count_in pairs = length (terms_in pairs)

pub count-blind : IsBlind ℕ one_each count_in
count-blind = record { wild = λ t v. refl; built = λ n number ps pairs others e. refl; both = λ pair other pairs others e es. grind arith }

mutual
  asked-alike : (A : Type 0) (q : Pair → A) (qs : Pairs → A) → IsBlind A q qs → (S : Signature) (pair other : Pair) (u : Option Term) → IsAlike S pair other u
      → q pair ≡ q other
  asked-alike A q qs blind S _ _ u (same pair _) = refl
  asked-alike A q qs blind S _ _ u (passes t v _) = blind.wild t v
  asked-alike A q qs blind S _ _ u (inside n number ps pairs others _ us at all) =
      blind.built n number ps pairs others (all-asked-alike A q qs blind S pairs others us all)

  -- alike pairs give one answer
  pub all-asked-alike : (A : Type 0) (q : Pair → A) (qs : Pairs → A) → IsBlind A q qs → (S : Signature) (pairs others : Pairs) (us : List Term)
      → AreAlike S pairs others us → qs pairs ≡ qs others
  all-asked-alike A q qs blind S _ _ us (none _) = refl
  all-asked-alike A q qs blind S _ _ us (more pair other pairs others _ one all) =
      blind.both pair other pairs others (asked-alike A q qs blind S pair other (first us) one)
      (all-asked-alike A q qs blind S pairs others (behind us) all)

pub clash-alike : (S : Signature) (pair other : Pair) (u : Option Term) → IsAlike S pair other u → clashes pair ≡ clashes other
clash-alike S pair other u h = asked-alike Bool clashes some_clashes clash-blind S pair other u h

mutual
  forget-asked : (A : Type 0) (q : Pair → A) (qs : Pairs → A) → IsBlind A q qs → (pair : Pair) → q (forget pair) ≡ q pair
  forget-asked A q qs blind (Waits pat t) = refl
  forget-asked A q qs blind (Binds t) = refl
  forget-asked A q qs blind (Passes t) = blind.wild _ t
  forget-asked A q qs blind (Keeps written t) = refl
  forget-asked A q qs blind (Builds n number ps pairs) = blind.built n number ps (forget_all pairs) pairs (all-forget-asked A q qs blind pairs)
  forget-asked A q qs blind (Clashes pat t) = refl

  -- no such question depends on the forgotten terms
  pub all-forget-asked : (A : Type 0) (q : Pair → A) (qs : Pairs → A) → IsBlind A q qs → (pairs : Pairs) → qs (forget_all pairs) ≡ qs pairs
  all-forget-asked A q qs blind nil = refl
  all-forget-asked A q qs blind (cons pair pairs) =
      blind.both (forget pair) pair (forget_all pairs) pairs (forget-asked A q qs blind pair) (all-forget-asked A q qs blind pairs)

-- ---- working

unless-alike : (S : Signature) (rooms : Rooms) (new other : Pair) (pairs others : Pairs) (us : List Term) (left : ℕ) → IsAlike S new other (first us)
    → AreAlike S pairs others (behind us)
    → ((rest : ℕ) → RunAlike (λ ps qs. AreAlike S ps qs (behind us)) (work_pairs S rooms pairs rest) (work_pairs S rooms others rest))
    → RunAlike (λ ps qs. AreAlike S ps qs us) (unless_clash pairs (work_pairs S rooms pairs) new left) (unless_clash others (work_pairs S rooms others) other left)
unless-alike S rooms new other pairs others us left one all work = by (clashes new) (clashes other) (clash-alike S new other (first us) one)
  where
    by : (test other_test : Bool) → test ≡ other_test
        → RunAlike (λ ps qs. AreAlike S ps qs us)
        (cond test (answered (Ok (cons new pairs)) left) (and_next (work_pairs S rooms pairs left) (λ ps rest. answered (Ok (cons new ps)) rest)))
        (cond other_test (answered (Ok (cons other others)) left) (and_next (work_pairs S rooms others left) (λ ps rest. answered (Ok (cons other ps)) rest)))
    by true true e = (more new other pairs others us one all, refl)
    by false false e =
        and_next-alike (λ ps qs. AreAlike S ps qs (behind us)) (λ ps qs. AreAlike S ps qs us) (work_pairs S rooms pairs left) (work_pairs S rooms others left) _ _
        (work left) (λ ps qs rest h. (more new other ps qs us one h, refl))
    by true false e = absurd (grind arith)
    by false true e = absurd (grind arith)

mutual
  work-alike : (S : Signature) (room : ℕ) (pair other : Pair) (u : Option Term) (left : ℕ) → IsAlike S pair other u
      → RunAlike (λ p q. IsAlike S p q u) (work_pair S room pair left) (work_pair S room other left)
  work-alike S room _ _ u left (same pair _) = run-itself (λ p q. IsAlike S p q u) (work_pair S room pair left) (λ p. same p u)
  work-alike S room _ _ u left (passes t v _) = (passes t v u, refl)
  work-alike S room _ _ u left (inside n number ps pairs others _ us at all) =
      and_next-alike (λ xs ys. AreAlike S xs ys us) (λ p q. IsAlike S p q u) (work_pairs S (of_arguments room) pairs left)
      (work_pairs S (of_arguments room) others left) _ _ (all-work-alike S (of_arguments room) pairs others us left all)
      (λ xs ys rest h. (inside n number ps xs ys u us at h, refl))

  -- alike pairs work alike
  pub all-work-alike : (S : Signature) (rooms : Rooms) (pairs others : Pairs) (us : List Term) (left : ℕ) → AreAlike S pairs others us
      → RunAlike (λ xs ys. AreAlike S xs ys us) (work_pairs S rooms pairs left) (work_pairs S rooms others left)
  all-work-alike S rooms _ _ us left (none _) = (none us, refl)
  all-work-alike S rooms _ _ us left (more pair other pairs others _ one all) =
      let counted : count_in (cons pair pairs) ≡ count_in (cons other others) =
      all-asked-alike ℕ one_each count_in count-blind S (cons pair pairs) (cons other others) us (more pair other pairs others us one all) in
      transport
      (λ k. RunAlike (λ xs ys. AreAlike S xs ys us) (work_pairs S rooms (cons pair pairs) left)
      (and_next (work_pair S (rooms k) other left) (unless_clash others (work_pairs S rooms others)))) counted
      (and_next-alike (λ p q. IsAlike S p q (first us)) (λ xs ys. AreAlike S xs ys us) (work_pair S (rooms (count_in (cons pair pairs))) pair left)
      (work_pair S (rooms (count_in (cons pair pairs))) other left) _ _
      (work-alike S (rooms (count_in (cons pair pairs))) pair other (first us) left one)
      (λ new new_other rest h. unless-alike S rooms new new_other pairs others us rest h all
      (λ next. all-work-alike S rooms pairs others (behind us) next all)))

-- ---- keeping

mutual
  keep-alike : (S : Signature) (pair other : Pair) (u : Term) → IsAlike S pair other (Some u) → keep S pair u ≡ keep S other u
  keep-alike S _ _ u (same pair _) = refl
  keep-alike S _ _ u (passes t v _) = refl
  keep-alike S _ _ u (inside n number ps pairs others _ us (b, e, args) all) =
      let kept : keep_all S pairs b.arguments ≡ keep_all S others b.arguments =
      transport (λ vs. keep_all S pairs vs ≡ keep_all S others vs) args (all-keep-alike S pairs others us all) in
      ap (kept_over (keep_all S pairs) (term_in (Builds n number ps pairs))) e
      ∙ (ap (λ vs. applied (Con b.n b.number) (b.parameters ++ vs)) kept
      ∙ sym (ap (kept_over (keep_all S others) (term_in (Builds n number ps others))) e))

  -- and the same is kept of them
  pub all-keep-alike : (S : Signature) (pairs others : Pairs) (us : List Term) → AreAlike S pairs others us → keep_all S pairs us ≡ keep_all S others us
  all-keep-alike S _ _ us (none _) = refl
  all-keep-alike S _ _ [] (more pair other pairs others _ one all) = refl
  all-keep-alike S _ _ (u ∷ us) (more pair other pairs others _ one all) =
      ap₂ (λ v vs. v ∷ vs) (keep-alike S pair other u one) (all-keep-alike S pairs others us all)

pub keep-length : (S : Signature) (pairs : Pairs) (us : List Term) → length (keep_all S pairs us) ≡ length us
keep-length S nil us = refl
keep-length S (cons pair pairs) [] = refl
keep-length S (cons pair pairs) (u ∷ us) = let e = keep-length S pairs us in grind arith

-- A constructor stays one whatever is kept there, with what is kept of its arguments.
pub built-kept : (S : Signature) (over : Pair) (u : Term) (b : Built) → built_of S u ≡ Some b
    → (overs : Pairs) × (built_of S (keep S over u) ≡ Some (record b { arguments = keep_all S overs b.arguments }))
built-kept S (Waits pat t) u b e = (nil, e)
built-kept S (Binds t) u b e = (nil, e)
built-kept S (Passes t) u b e = (nil, e)
built-kept S (Keeps written t) u b e = (nil, e)
built-kept S (Builds n number ps pairs) u b e = (
  pairs,
  ap (built_of S) (ap (kept_over (keep_all S pairs) (term_in (Builds n number ps pairs))) e)
      ∙ built-with S u b (keep_all S pairs b.arguments) e (keep-length S pairs b.arguments),
)
built-kept S (Clashes pat w) u b e = (nil, ap (built_of S) (ap (unless_built w u) e) ∙ e)

mutual
  on-alike : (S : Signature) (pair other : Pair) (u : Term) (over : Pair) → IsAlike S pair other (Some u) → IsAlike S pair other (Some (keep S over u))
  on-alike S _ _ u over (same pair _) = same pair (Some (keep S over u))
  on-alike S _ _ u over (passes t v _) = passes t v (Some (keep S over u))
  on-alike S _ _ u over (inside n number ps pairs others _ us (b, e, args) all) =
      let (overs, is) = built-kept S over u b e in
      inside n number ps pairs others (Some (keep S over u)) (keep_all S overs us)
      (record b { arguments = keep_all S overs b.arguments }, is, ap (keep_all S overs) args) (all-on-alike S pairs others us overs all)

  -- where further pairs are kept over the shared terms
  pub all-on-alike : (S : Signature) (pairs others : Pairs) (us : List Term) (overs : Pairs) → AreAlike S pairs others us
      → AreAlike S pairs others (keep_all S overs us)
  all-on-alike S _ _ us overs (none _) = none (keep_all S overs us)
  all-on-alike S _ _ us nil (more pair other pairs others _ one all) = more pair other pairs others us one all
  all-on-alike S _ _ [] (cons over overs) (more pair other pairs others _ one all) = more pair other pairs others [] one all
  all-on-alike S _ _ (u ∷ us) (cons over overs) (more pair other pairs others _ one all) =
      more pair other pairs others (keep S over u ∷ keep_all S overs us) (on-alike S pair other u over one) (all-on-alike S pairs others us overs all)

-- ---- solutions

moved-arguments : (S : Signature) (s : ℕ → Term) (u : Option Term) (us : List Term) → HasArguments S u us → HasArguments S (option_map (inst s) u) (map (inst s) us)
moved-arguments S s None us e = ap (map (inst s)) e
moved-arguments S s (Some u) us (b, e, args) = (instance_of s b, built-instance S s u b e, ap (map (inst s)) args)

first-moved : (S : Signature) (s : ℕ → Term) (pair other : Pair) (us : List Term) → IsAlike S pair other (option_map (inst s) (first us))
    → IsAlike S pair other (first (map (inst s) us))
first-moved S s pair other [] h = h
first-moved S s pair other (u ∷ us) h = h

behind-moved : (S : Signature) (s : ℕ → Term) (pairs others : Pairs) (us : List Term) → AreAlike S pairs others (map (inst s) (behind us))
    → AreAlike S pairs others (behind (map (inst s) us))
behind-moved S s pairs others [] h = h
behind-moved S s pairs others (u ∷ us) h = h

mutual
  moved-alike : (S : Signature) (s : ℕ → Term) (pair other : Pair) (u : Option Term) → IsAlike S pair other u
      → IsAlike S (with_terms (inst s) pair) (with_terms (inst s) other) (option_map (inst s) u)
  moved-alike S s _ _ u (same pair _) = same (with_terms (inst s) pair) (option_map (inst s) u)
  moved-alike S s _ _ u (passes t v _) = passes (inst s t) (inst s v) (option_map (inst s) u)
  moved-alike S s _ _ u (inside n number ps pairs others _ us at all) =
      inside n number (map (inst s) ps) (all_with_terms (inst s) pairs) (all_with_terms (inst s) others) (option_map (inst s) u) (map (inst s) us)
      (moved-arguments S s u us at) (all-moved-alike S s pairs others us all)

  -- whatever is put for the variables
  pub all-moved-alike : (S : Signature) (s : ℕ → Term) (pairs others : Pairs) (us : List Term) → AreAlike S pairs others us
      → AreAlike S (all_with_terms (inst s) pairs) (all_with_terms (inst s) others) (map (inst s) us)
  all-moved-alike S s _ _ us (none _) = none (map (inst s) us)
  all-moved-alike S s _ _ us (more pair other pairs others _ one all) =
      more (with_terms (inst s) pair) (with_terms (inst s) other) (all_with_terms (inst s) pairs) (all_with_terms (inst s) others) (map (inst s) us)
      (first-moved S s (with_terms (inst s) pair) (with_terms (inst s) other) us (moved-alike S s pair other (first us) one))
      (behind-moved S s (all_with_terms (inst s) pairs) (all_with_terms (inst s) others) us (all-moved-alike S s pairs others (behind us) all))

-- ---- forgetting

mutual
  beyond : (S : Signature) (pair : Pair) → IsAlike S pair (forget pair) None
  beyond S (Waits pat t) = same (Waits pat t) None
  beyond S (Binds t) = same (Binds t) None
  beyond S (Passes t) = passes t _ None
  beyond S (Keeps written t) = same (Keeps written t) None
  beyond S (Builds n number ps pairs) = inside n number ps pairs (forget_all pairs) None [] refl (all-beyond S pairs)
  beyond S (Clashes pat t) = same (Clashes pat t) None

  -- where there are no shared terms
  all-beyond : (S : Signature) (pairs : Pairs) → AreAlike S pairs (forget_all pairs) []
  all-beyond S nil = none []
  all-beyond S (cons pair pairs) = more pair (forget pair) pairs (forget_all pairs) [] (beyond S pair) (all-beyond S pairs)

mutual
  forget-alike : (S : Signature) (pair : Pair) (u : Term) → Covers S pair u → IsAlike S pair (forget pair) (Some u)
  forget-alike S (Waits pat t) u h = same (Waits pat t) (Some u)
  forget-alike S (Binds t) u h = same (Binds t) (Some u)
  forget-alike S (Passes t) u h = passes t _ (Some u)
  forget-alike S (Keeps written t) u h = same (Keeps written t) (Some u)
  forget-alike S (Builds n number ps pairs) u (b, e, all) =
      inside n number ps pairs (forget_all pairs) (Some u) b.arguments (b, e, refl) (all-forget-alike S pairs b.arguments all)
  forget-alike S (Clashes pat t) u h = same (Clashes pat t) (Some u)

  -- pairs that are covered, and those without the terms of wildcards
  pub all-forget-alike : (S : Signature) (pairs : Pairs) (us : List Term) → CoverAll S pairs us → AreAlike S pairs (forget_all pairs) us
  all-forget-alike S nil us h = none us
  all-forget-alike S (cons pair pairs) [] h = all-beyond S (cons pair pairs)
  all-forget-alike S (cons pair pairs) (u ∷ us) h =
      more pair (forget pair) pairs (forget_all pairs) (u ∷ us) (forget-alike S pair u h.0) (all-forget-alike S pairs us h.1)

mutual
  forget-on : (S : Signature) (pair other : Pair) (u : Term) → IsAlike S pair other (Some u) → Covers S pair u → IsAlike S pair (forget other) (Some u)
  forget-on S _ _ u (same pair _) h = forget-alike S pair u h
  forget-on S _ _ u (passes t v _) h = passes t _ (Some u)
  forget-on S _ _ u (inside n number ps pairs others _ us (b, e, args) all) (c, is, inner) =
      let found : c ≡ b = some_is (sym is ∙ e) in
      let covered : CoverAll S pairs us = transport (CoverAll S pairs) (ap (λ d. d.arguments) found ∙ sym args) inner in
      inside n number ps pairs (forget_all others) (Some u) us (b, e, args) (all-forget-on S pairs others us all covered)

  -- and alike pairs without their forgotten terms
  pub all-forget-on : (S : Signature) (pairs others : Pairs) (us : List Term) → AreAlike S pairs others us → CoverAll S pairs us
      → AreAlike S pairs (forget_all others) us
  all-forget-on S _ _ us (none _) h = none us
  all-forget-on S _ _ [] (more pair other pairs others _ one all) h =
      more pair (forget other) pairs (forget_all others) [] (beyond-on S pair other None one) (all-beyond-on S pairs others [] all)
  all-forget-on S _ _ (u ∷ us) (more pair other pairs others _ one all) h =
      more pair (forget other) pairs (forget_all others) (u ∷ us) (forget-on S pair other u one h.0) (all-forget-on S pairs others us all h.1)

  -- wherever the pairs were
  beyond-on : (S : Signature) (pair other : Pair) (u : Option Term) → IsAlike S pair other u → IsAlike S pair (forget other) None
  beyond-on S _ _ u (same pair _) = beyond S pair
  beyond-on S _ _ u (passes t v _) = passes t _ None
  beyond-on S _ _ u (inside n number ps pairs others _ us at all) =
      inside n number ps pairs (forget_all others) None [] refl (all-beyond-on S pairs others us all)

  all-beyond-on : (S : Signature) (pairs others : Pairs) (us : List Term) → AreAlike S pairs others us → AreAlike S pairs (forget_all others) []
  all-beyond-on S _ _ us (none _) = none []
  all-beyond-on S _ _ us (more pair other pairs others _ one all) =
      more pair (forget other) pairs (forget_all others) [] (beyond-on S pair other (first us) one) (all-beyond-on S pairs others (behind us) all)
