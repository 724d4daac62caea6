-- The problem of a constructor is made of parts that are low, or Deep.
use Rattle.std.proofs.Common.{◌≡◌, ℕ, suc, ◌<◌, nat_le, ◌&&◌, Bool, true, false, cond, Result, Ok, Err, IfOk, List, [], ◌∷◌, ◌++◌, length, map, refl, sym, ap, ◌∙◌, arith}
use Rattle.std.proofs.lemmas.Bool.Decides.{nat_tests}
use Rattle.std.proofs.lemmas.List.{length-map}
use Rattle.theory.specs.Terms.{Term, Fam, Con, height}
use Rattle.theory.specs.Substitutions.{fill, inst, ups}
use Rattle.theory.specs.Telescopes.{Telescope, applied, variables, weaken_by, inst_telescope}
use Rattle.theory.specs.Eliminators.{no_variable}
use Rattle.theory.specs.Families.{Constructor, Family, index_types}
use Rattle.theory.proofs.ScopedTypes.{length-variables}
use Rattle.core_terms.specs.Answers.{and_then, is_low, are_low}
use Rattle.core_terms.specs.declared.stop.Stop.{Stop}
use Rattle.core_terms.specs.declared.stop.Stop.TheVariants.{Deep}
use Rattle.core_terms.proofs.Builders.{height-applied, ok_is}
use Rattle.tele_eq.specs.Items.{Item}
use Rattle.unification.specs.Heights.{are_low_items}
use Rattle.unification.specs.Injecting.{lifted}
use Rattle.unification.specs.Records.{items_at, argument_items, family_items, constructor_terms}
use Rattle.unification.specs.States.{Problem}
use Rattle.case_trees.specs.Problems.{Member, problem_of}
use Rattle.problems.specs.ProblemsMade.{problem_made}

pub and-none : (b : Bool) → (b && false) ≡ false
and-none true = refl
and-none false = refl

-- ---- terms that are too high

is-high : (t : Term) → 2000 < height t → is_low t ≡ false
is-high t h = grind (arith, nat_tests)

high-terms : (ts : List Term) (t : Term) → 2000 < height t → are_low (ts ++ t ∷ []) ≡ false
high-terms [] t h = ap (λ b. b && true) (is-high t h)
high-terms (u ∷ ts) t h = ap (λ b. is_low u && b) (high-terms ts t h) ∙ and-none (is_low u)

high-items : (types : Telescope) (levels : List ℕ) (t : Term) (i : ℕ) → length types ≡ length levels → 2000 < height t
    → are_low_items (items_at (types ++ t ∷ []) (levels ++ i ∷ [])) ≡ false
high-items [] [] t i e h = ap (λ b. b && true) (is-high t h)
high-items [] (j ∷ levels) t i e h = absurd (omega arith)
high-items (a ∷ types) [] t i e h = absurd (omega arith)
high-items (a ∷ types) (j ∷ levels) t i e h =
    ap (λ b. is_low a && b) (high-items types levels t i (omega arith) h) ∙ and-none (is_low a)

high-nearest : (head : Term) (count : ℕ) → 2000 < count → 2000 < height (applied head (variables count))
high-nearest head count h =
    let k = height-applied head (variables count) in
    omega (arith, length-variables count)

length-inst : (s : ℕ → Term) (tele : Telescope) → length (inst_telescope s tele) ≡ length tele
length-inst s [] = refl
length-inst s (a ∷ tele) = ap suc (length-inst (ups s) tele)

terms-high : (n number : ℕ) (ps : List Term) (c : Constructor) → 2000 < length c.arguments → are_low (constructor_terms n number ps c) ≡ false
terms-high n number ps c h =
    let count = length c.arguments in
    let parameters : ℕ → Term = λ v. weaken_by count (fill no_variable ps v) in
    high-terms (map (inst (fill parameters (variables count))) c.targets) (applied (weaken_by count (applied (Con n number) ps)) (variables count))
    (high-nearest (weaken_by count (applied (Con n number) ps)) count h)

items-high : (n : ℕ) (f : Family) (ps : List Term) → 2000 < length f.indices → are_low_items (family_items n f ps) ≡ false
items-high n f ps h =
    let count = length f.indices in
    let s : ℕ → Term = fill no_variable ps in
    let types = length-inst s (index_types f) in
    let indices = length-map f.indices (λ (i : Term × ℕ). i.0) in
    let levels = length-map f.indices (λ (i : Term × ℕ). i.1) in
    high-items (inst_telescope s (index_types f)) (map (λ i. i.1) f.indices) (applied (weaken_by count (applied (Fam n) ps)) (variables count)) f.level
    (omega arith) (high-nearest (weaken_by count (applied (Fam n) ps)) count h)

-- ---- problems that the code makes

-- the chain that makes a problem, by the parts of it that are low
abbrev pub made-by : {A B C D : Type 0} → (first second third : Bool) → A → B → C → D → Result D Stop
made-by first second third a b c d =
    and_then (cond first (Ok a) (Err Deep)) (λ a. and_then (cond second (Ok b) (Err Deep)) (λ b. and_then (cond third (Ok c) (Err Deep)) (λ c. Ok d)))

second-high : {A B C D : Type 0} (first third : Bool) (a : A) (b : B) (c : C) (d : D) → ◌≡◌ {A = Result D Stop} (Err Deep) (made-by first false third a b c d)
second-high true third a b c d = refl
second-high false third a b c d = refl

third-high : {A B C D : Type 0} (first second : Bool) (a : A) (b : B) (c : C) (d : D) → ◌≡◌ {A = Result D Stop} (Err Deep) (made-by first second false a b c d)
third-high true true a b c d = refl
third-high true false a b c d = refl
third-high false second a b c d = refl

pub err-is : {A : Type 0} {d e : Stop} → ◌≡◌ {A = Result A Stop} (Err d) (Err e) → d ≡ e
err-is h = cc

pub ok-err : {A : Type 0} {a : A} {e : Stop} → ◌≡◌ {A = Result A Stop} (Ok a) (Err e) → ⊥
ok-err h = absurd (cc)

module _ (context : Telescope) (x : ℕ) (m : Member) (number : ℕ) (c : Constructor) where
  abbrev pub whole : Problem
  whole = problem_of context x m number c

  abbrev pub arguments : List Item
  arguments = argument_items m.n m.parameters c

  abbrev pub telescope : List Item
  telescope = family_items m.n m.family (lifted (length c.arguments) m.parameters)

  abbrev pub terms : List Term
  terms = constructor_terms m.n number m.parameters c

  pub problem-many : (nat_le (length c.arguments) 2000 && nat_le (length m.family.indices) 2000) ≡ false
      → ◌≡◌ {A = Result Problem Stop} (Err Deep) (problem_made context x m number c)
  problem-many e = by (nat_le (length c.arguments) 2000) refl
    where
      by : (b : Bool) → nat_le (length c.arguments) 2000 ≡ b → ◌≡◌ {A = Result Problem Stop} (Err Deep) (problem_made context x m number c)
      by false few =
          let many : 2000 < length c.arguments = grind (arith, nat_tests) in
          third-high (are_low_items arguments) (are_low_items telescope) arguments telescope terms whole
          ∙ ap (λ b. made-by (are_low_items arguments) (are_low_items telescope) b arguments telescope terms whole) (sym (terms-high m.n number m.parameters c many))
      by true few =
          let other : nat_le (length m.family.indices) 2000 ≡ false = sym (ap (λ b. b && nat_le (length m.family.indices) 2000) few) ∙ e in
          let many : 2000 < length m.family.indices = grind (arith, nat_tests) in
          second-high (are_low_items arguments) (are_low terms) arguments telescope terms whole
          ∙ ap (λ b. made-by (are_low_items arguments) b (are_low terms) arguments telescope terms whole)
          (sym (items-high m.n m.family (lifted (length c.arguments) m.parameters) many))

  pub problem-is : (q : Problem) → ◌≡◌ {A = Result Problem Stop} (Ok q) (problem_made context x m number c) → q ≡ whole
  problem-is q e = by (are_low_items arguments) (are_low_items telescope) (are_low terms) e
    where
      by : (first second third : Bool) → ◌≡◌ {A = Result Problem Stop} (Ok q) (made-by first second third arguments telescope terms whole) → q ≡ whole
      by true true true h = ok_is h
      by true true false h = absurd (ok-err h)
      by true false third h = absurd (ok-err h)
      by false second third h = absurd (ok-err h)

  -- a property of the problem is one of the problem that is made
  pub problem-has : (P : Problem → Type 0) → P whole → IfOk (problem_made context x m number c) P
  problem-has P h = by (are_low_items arguments) (are_low_items telescope) (are_low terms)
    where
      by : (first second third : Bool) → IfOk (made-by first second third arguments telescope terms whole) P
      by true true true = h
      by true true false = tt
      by true false third = tt
      by false second third = tt
