-- A helper that enters has the type that it is made with, by the numbers of the signature in which all is that it mentions.
use Rattle.std.proofs.Common.{◌≡◌, ◌⊎◌, inl, inr, ℕ, ◌+◌, ◌-◌, ◌≤◌, Bool, true, false, cond, nat_lt, List, [], ◌∷◌, ◌++◌, get_or, map, refl, sym, ap, ◌∙◌, subst as transport, arith}
use Rattle.std.proofs.lemmas.Bool.{false≢true}
use Rattle.std.proofs.lemmas.Bool.Decides.{nat_tests}
use Rattle.std.proofs.lemmas.Option.{get_or_from_slice_get}
use Rattle.theory.specs.Signatures.{Signature}
use Rattle.theory.specs.Terms.{App, AxiomK, Con, Const, Elim, Fam, Lam, Let, Pi, Sort, Term, Var}
use Rattle.core_terms.proofs.Answers.{Answers, and_next-has}
use Rattle.core_sig.specs.Drafts.{Draft}
use Rattle.core_sig.specs.Settling.{renumbered}
use Rattle.family_check.specs.Entering.{Entered}
use Rattle.tele_eq.specs.Levels.{is_among, place_in}
use Rattle.unification.proofs.Cases.{second-of_two}
use Rattle.unification.proofs.Levels.{among-cases, among-later, among-own, place-there}
use Rattle.tree_translation.specs.Naming.{mentions, number_among}
use Rattle.clause_reports.proofs.Keeping.{Grows, enter_all-grows, enter_needed-grows, weaker}
use Rattle.clause_reports.specs.DraftEntering.{Mention, Names, enter_all, enter_draft_of, enter_mention, enter_needed, mentioned, mentions_in}
use Rattle.elim.proofs.written_functions.Numbering.{get-place}
use Rattle.elim.proofs.written_functions.PartEntries.{HasName, name-stays}

-- ---- what is mentioned

pub data IsIn (m : Mention) : List Mention → Type 0 where
  here : (ms : List Mention) → IsIn m (m ∷ ms)
  later : (n : Mention) (ms : List Mention) → IsIn m ms → IsIn m (n ∷ ms)

pub in-left : (m : Mention) (xs ys : List Mention) → IsIn m xs → IsIn m (xs ++ ys)
in-left m _ ys (here ms) = here (ms ++ ys)
in-left m _ ys (later n ms h) = later n (ms ++ ys) (in-left m ms ys h)

pub in-right : (m : Mention) (xs ys : List Mention) → IsIn m ys → IsIn m (xs ++ ys)
in-right m [] ys h = h
in-right m (x ∷ xs) ys h = later x (xs ++ ys) (in-right m xs ys h)

among-either : (i : ℕ) (xs ys : List ℕ) → is_among i (xs ++ ys) ≡ true → (is_among i xs ≡ true) ⊎ (is_among i ys ≡ true)
among-either i [] ys h = inr h
among-either i (x ∷ xs) ys h = elim (among-cases i x (xs ++ ys) h) [
  | inl e ↦ inl (transport (λ j. is_among j (x ∷ xs) ≡ true) e (among-own x xs))
  | inr k ↦ elim (among-either i xs ys k) [
    | inl l ↦ inl (among-later i x xs l)
    | inr r ↦ inr r
  ]
]

module _ (base : ℕ) (table : List (List ℕ)) (places : List ℕ) (i : ℕ) (there : is_among i places ≡ true) where
  abbrev pub Mentions : Term → Type 0
  Mentions t = IsIn (Names (get_or table i [])) (mentions_in base (map (λ j. get_or table j []) places) (renumbered (number_among base places) t))

  either-of : (xs ys : List ℕ) (ms ns : List Mention) → is_among i (xs ++ ys) ≡ true
      → (is_among i xs ≡ true → IsIn (Names (get_or table i [])) ms) → (is_among i ys ≡ true → IsIn (Names (get_or table i [])) ns)
      → IsIn (Names (get_or table i [])) (ms ++ ns)
  either-of xs ys ms ns h first second = elim (among-either i xs ys h) [
    | inl l ↦ in-left (Names (get_or table i [])) ms ns (first l)
    | inr r ↦ in-right (Names (get_or table i [])) ms ns (second r)
  ]

  in-constant : (c : ℕ) (b : Bool) → nat_lt c base ≡ b → is_among i (cond b [] ((c - base) ∷ [])) ≡ true → Mentions (Const c)
  in-constant c true is h = absurd (false≢true h)
  in-constant c false is h =
      let le : base ≤ c = grind (arith, nat_tests) in
      let same : c - base ≡ i = elim (among-cases i (c - base) [] h) [
        | inl e ↦ e
        | inr k ↦ absurd (false≢true k)
      ] in
      let p = place_in places i in
      let at = get-place table places p i (place-there places i there).1 in
      let number : number_among base places c ≡ base + p =
      second-of_two c base c (base + place_in places (c - base)) le ∙ ap (λ j. base + place_in places j) same in
      let mention : mentions_in base (map (λ j. get_or table j []) places) (Const (number_among base places c)) ≡ Names (get_or table i []) ∷ [] =
      ap (λ n. mentions_in base (map (λ j. get_or table j []) places) (Const n)) number
      ∙ (second-of_two (base + p) base [] (Names (get_or (map (λ j. get_or table j []) places) (base + p - base) []) ∷ []) (omega arith)
      ∙ (ap (λ n. Names (get_or (map (λ j. get_or table j []) places) n []) ∷ []) (let e : base + p - base ≡ p = omega arith in e)
      ∙ ap (λ name. Names name ∷ []) (get_or_from_slice_get (map (λ j. get_or table j []) places) p (get_or table i []) [] at))) in
      transport (IsIn (Names (get_or table i []))) (sym mention) (here [])

  -- a name that a term mentions is mentioned in the draft of the term
  pub mention-in : (t : Term) → is_among i (mentions base t) ≡ true → Mentions t
  mention-in (Pi a b) h = either-of (mentions base a) (mentions base b) _ _ h (mention-in a) (mention-in b)
  mention-in (Lam a b) h = either-of (mentions base a) (mentions base b) _ _ h (mention-in a) (mention-in b)
  mention-in (App f a) h = either-of (mentions base f) (mentions base a) _ _ h (mention-in f) (mention-in a)
  mention-in (Let a t b) h =
      either-of (mentions base a) (mentions base t ++ mentions base b) _ _ h (mention-in a)
      (λ k. either-of (mentions base t) (mentions base b) _ _ k (mention-in t) (mention-in b))
  mention-in (Const c) h = in-constant c (nat_lt c base) refl h
  mention-in (Var v) h = absurd (false≢true h)
  mention-in (Sort i) h = absurd (false≢true h)
  mention-in (Fam i) h = absurd (false≢true h)
  mention-in (Con i c) h = absurd (false≢true h)
  mention-in (Elim i l) h = absurd (false≢true h)
  mention-in (AxiomK i l) h = absurd (false≢true h)

-- ---- names that enter

-- a property of signatures that entering keeps
pub record IsKept (Good : Signature → Type 0) : Type 0 where
  pub mention : (U : Signature) (m : Mention) (left : ℕ) → Good U → Answers Good (enter_mention enter_needed U m left)
  pub draft : (U : Signature) (d : Draft) (left : ℕ) → Good U → Answers (λ (x : Entered). Good x.signature) (enter_draft_of U d left)

-- a name that is that of a definition once it has been mentioned in a signature with the property
abbrev pub Enters : (Good : Signature → Type 0) → List ℕ → Type 0
Enters Good name = (U : Signature) (left : ℕ) → Good U → Answers (λ V. HasName V name) (enter_mention enter_needed U (Names name) left)

-- all that is mentioned enters
pub all-enter : (Good : Signature → Type 0) → IsKept Good → (name : List ℕ) (ms : List Mention) (U : Signature) (left : ℕ) → Enters Good name
    → IsIn (Names name) ms → Good U → Answers (λ V. HasName V name) (enter_all enter_needed U ms left)
all-enter Good kept name _ U left enters (here ms) good =
    let P : Signature → Type 0 = λ V. HasName V name in
    and_next-has P P (enter_mention enter_needed U (Names name) left) _ (enters U left good) (λ T rest there.
    weaker (Grows T) P (enter_all enter_needed T ms rest).0 (λ V g. name-stays T V name g.prefix there) (enter_all-grows enter_needed enter_needed-grows T ms rest))
all-enter Good kept name _ U left enters (later m ms h) good =
    let P : Signature → Type 0 = λ V. HasName V name in
    and_next-has Good P (enter_mention enter_needed U m left) _ (kept.mention U m left good) (λ T rest g. all-enter Good kept name ms T rest enters h g)
