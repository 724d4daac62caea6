-- Terms that are reduced after those that are made are those of the definition.
use Rattle.std.proofs.Common.{◌≡◌, ℕ, true, cond, Result, Ok, Err, List, [], ◌∷◌, ◌++◌, length, refl, sym, ap, ◌∙◌}
use Rattle.std.proofs.lemmas.List.{length-map}
use Rattle.theory.specs.Terms.{Term, Con}
use Rattle.theory.specs.Telescopes.{applied}
use Rattle.theory.specs.Signatures.{Signature}
use Rattle.core_terms.specs.Answers.{Gives, Runs, Spent, and_next, on_answer, bounded}
use Rattle.core_terms.specs.Meanings.{tree_of, tele_of}
use Rattle.core_terms.specs.Patterns.{Pats}
use Rattle.core_terms.specs.declared.stop.Stop.{Stop}
use Rattle.core_terms.specs.declared.term.Term as term
use Rattle.kernel_reduce.specs.Reduction.{answered, most_variables}
use Rattle.kernel_reduce.specs.WellScoped.{CanReduce}
use Rattle.kernel_reduce.proofs.WellScoped.{scoped-all}
use Rattle.unification.specs.Built.{built_of}
use Rattle.problems.specs.CodeBuilt.{IfThere, IsBuiltAs, split_of, teles_of}
use Rattle.problems.specs.declared.built.Built.{Built}
use Rattle.problems.proofs.BuiltCodes.{code-of, from_code, of-built, split-first, split-rest}
use Rattle.case_trees.specs.pattern_vectors.Matching.{is_constructor}
use Rattle.case_trees.specs.Kept.{at_arguments}
use Rattle.problems.proofs.BuiltArguments.{arguments-scoped}
use Rattle.clause_reports.specs.Shadows.{all_reduced, reduced_arguments}
use Rattle.clause_equations.specs.shadow_vectors.CodeVectors.{onto}

-- an answer that is made without units, once the units are spent
pub gives-spends : {A B : Type 0} (f : A → B) (result : Result A Stop) (meant : Result B Stop) (left : ℕ) (all : Spent B) → Gives f result meant
    → ◌≡◌ {A = Spent B} (meant, left) all → Runs f result left all
gives-spends {A} {B} f (Ok a) meant left all h is = ap (λ (r : Result B Stop). (r, left)) h ∙ is
gives-spends {A} {B} f (Err e) meant left all h is = λ other. ap (λ (r : Result B Stop). (r, left)) (h other) ∙ is

-- nothing is made yet
onto-none : (spent : Spent (List Term)) → onto [] spent ≡ spent
onto-none spent = by spent.0 spent.1
  where
    by : (r : Result (List Term) Stop) (left : ℕ) → ◌≡◌ {A = Spent (List Term)} (on_answer r left (λ us left. answered (Ok us) left)) (r, left)
    by (Ok us) left = refl
    by (Err e) left = refl

pub first-made : (made : List term.Term) (spent : Spent (List Term)) → made ≡ [] → onto (tele_of made) spent ≡ spent
first-made made spent none = ap (λ all. onto (tele_of all) spent) none ∙ onto-none spent

-- ---- a constructor's arguments

module _ (S : Signature) (w : Term) (b : Built) (there : IfThere (IsBuiltAs b) (built_of S w)) (n number k : ℕ) (pats : Pats)
    (lists : List term.Term × List term.Term) (terms : List term.Term) (split : ◌≡◌ {A = Result (List Term × List Term) Stop} (Ok (teles_of lists)) (Ok (split_of k w)))
    (same : terms ≡ lists.1) (count : k ≡ length b.record.now.params) (own : is_constructor n number (from_code b w) ≡ true) where
  counted : length b.record.now.params ≡ length (tele_of b.record.now.params)
  counted = sym (length-map b.record.now.params tree_of)

  parameters : tele_of lists.0 ≡ (from_code b w).parameters
  parameters = split-first lists k _ w split (count ∙ counted)

  arguments : tele_of terms ≡ (from_code b w).arguments
  arguments = ap tele_of same ∙ split-rest lists k _ w split (count ∙ counted)

  abbrev rebuilt : List Term → ℕ → Spent Term
  rebuilt us rest = answered (bounded (at_arguments (from_code b w) us)) rest

  is-rebuilt : (left : ℕ) → and_next (all_reduced S pats (tele_of terms) left) rebuilt ≡ reduced_arguments n number (all_reduced S pats) w (built_of S w) left
  is-rebuilt left =
      ap (λ us. and_next (all_reduced S pats us left) rebuilt) arguments
      ∙ sym
      (ap (λ o. reduced_arguments n number (all_reduced S pats) w o left) (of-built S w b (code-of S w b there))
      ∙ ap (λ test. cond test (and_next (all_reduced S pats (from_code b w).arguments left) rebuilt) (answered (Ok w) left)) own)

  refused-by : (e : Stop) (end : ℕ) (r : Result (List Term) Stop) (rest : ℕ) → ◌≡◌ {A = Spent (List Term)} (Err e, end) (onto (tele_of lists.0) (r, rest))
      → ◌≡◌ {A = Spent Term} (Err e, end) (on_answer r rest rebuilt)
  refused-by e end (Ok us) rest is = absurd (let wrong : ◌≡◌ {A = Result (List Term) Stop} (Err e) (Ok (tele_of lists.0 ++ us)) = ap (λ (r : Spent (List Term)). r.0) is in cc)
  refused-by e end (Err d) rest is = ap (λ (r : Spent (List Term)). and_next r (λ us end. answered (bounded (applied (Con b.family b.number) us)) end)) is

  pub arguments-refused : (left end : ℕ) (e : Stop) → ◌≡◌ {A = Spent (List Term)} (Err e, end) (onto (tele_of lists.0) (all_reduced S pats (tele_of terms) left))
      → ◌≡◌ {A = Spent Term} (Err e, end) (reduced_arguments n number (all_reduced S pats) w (built_of S w) left)
  arguments-refused left end e is =
      refused-by e end (all_reduced S pats (tele_of terms) left).0 (all_reduced S pats (tele_of terms) left).1 is ∙ is-rebuilt left

  answered-by : (all : List Term) (end : ℕ) (r : Result (List Term) Stop) (rest : ℕ) → ◌≡◌ {A = Spent (List Term)} (Ok all, end) (onto (tele_of lists.0) (r, rest))
      → ◌≡◌ {A = Spent Term} (bounded (applied (Con b.family b.number) all), end) (on_answer r rest rebuilt)
  answered-by all end (Ok us) rest is =
      ap (λ (r : Spent (List Term)). and_next r (λ us end. answered (bounded (applied (Con b.family b.number) us)) end)) is
      ∙ ap (λ ps. answered (bounded (applied (Con b.family b.number) (ps ++ us))) rest) parameters
  answered-by all end (Err d) rest is = absurd (let wrong : ◌≡◌ {A = Result (List Term) Stop} (Ok all) (Err d) = ap (λ (r : Spent (List Term)). r.0) is in cc)

  pub arguments-go : (left end : ℕ) (all : List Term) → ◌≡◌ {A = Spent (List Term)} (Ok all, end) (onto (tele_of lists.0) (all_reduced S pats (tele_of terms) left))
      → ◌≡◌ {A = Spent Term} (bounded (applied (Con b.family b.number) all), end) (reduced_arguments n number (all_reduced S pats) w (built_of S w) left)
  arguments-go left end all is =
      answered-by all end (all_reduced S pats (tele_of terms) left).0 (all_reduced S pats (tele_of terms) left).1 is ∙ is-rebuilt left

-- where a term may be reduced, its arguments may be
pub arguments-reducible : (S : Signature) (k : ℕ) (w : Term) (lists : List term.Term × List term.Term) → ◌≡◌ {A = Result (List Term × List Term) Stop} (Ok (teles_of lists)) (Ok (split_of k w))
    → CanReduce S (w ∷ []) → CanReduce S (tele_of lists.1)
arguments-reducible S k w lists split h =
    record { signature = h.signature; terms = scoped-all S most_variables (tele_of lists.1) (arguments-scoped S most_variables k w lists split h.terms.0) }
