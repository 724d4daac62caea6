-- Verdicts over a store: those of children, and the answers of calls that take memory and nothing else.
use Rattle.std.proofs.Common.{◌≡◌, ℕ, Bool, true, false, Result, Ok, Err, IfErr, refl, sym, ap, ◌∙◌, subst as transport, arith}
use Rattle.theory.specs.Terms.{Term}
use Rattle.theory.specs.Terms.Term.{Var, Sort}
use Rattle.theory.specs.Telescopes.{Context}
use Rattle.core_terms.specs.Answers.{Spent, Gives, Unless}
use Rattle.core_terms.specs.Verdicts.{Verdict}
use Rattle.core_terms.specs.declared.stop.Stop.{Stop}
use Rattle.core_terms.specs.declared.stop.Stop.TheVariants.{Memory, PoolFull}
use Rattle.kernel_reduce.specs.Reduction.{answered}
use Rattle.term_pool.specs.Held.{Held}
use Rattle.store_reduce.specs.Additions.{IsFullOf, LacksOne}
use Rattle.store_reduce.specs.Runs.{RunsIn}
use Rattle.kernel_check.specs.Checking.{behind, verdict_behind, sort_of, compared}
use Rattle.kernel_check.specs.Verdicts.{AnswersIn, verdict_in}
use Rattle.kernel_check.specs.declared.verdict.VerdictIn.{VerdictIn}

module _ {I : Type 0} where
  -- after a child
  behind-runs : (tree : I → Term) (child : ℕ) (v : VerdictIn I) (r : Result (VerdictIn I) Stop) (left : ℕ) (asked : Spent Verdict)
      → RunsIn (verdict_in tree) (Ok v) left asked → Gives (verdict_in tree) r (Ok (verdict_behind child (verdict_in tree v)))
      → RunsIn (verdict_in tree) r left (behind child asked)
  behind-runs tree child v (Ok w) left asked e h = ap (λ x. answered x left) h ∙ ap (behind child) e
  behind-runs tree child v (Err stop) left asked e h = λ memory full. let k = h memory in absurd (grind (arith, k))

  pub behind-given : (tree : I → Term) (child : ℕ) (given : Result (VerdictIn I) Stop) (v : VerdictIn I) (r : Result (VerdictIn I) Stop) (left : ℕ) (asked : Spent Verdict)
      → given ≡ Ok v → Gives (verdict_in tree) r (Ok (verdict_behind child (verdict_in tree v))) → RunsIn (verdict_in tree) given left asked
      → RunsIn (verdict_in tree) r left (behind child asked)
  behind-given tree child given v r left asked is h meant =
      behind-runs tree child v r left asked (transport (λ g. RunsIn (verdict_in tree) g left asked) is meant) h

  -- and where the child was refused
  pub behind-refused : (tree : I → Term) (child : ℕ) (given : Result (VerdictIn I) Stop) (e : Stop) (left : ℕ) (asked : Spent Verdict)
      → given ≡ Err e → RunsIn (verdict_in tree) given left asked → RunsIn {A = VerdictIn I} (verdict_in tree) (Err e) left (behind child asked)
  behind-refused tree child given e left asked is meant =
      let h : RunsIn {A = VerdictIn I} (verdict_in tree) (Err e) left asked = transport (λ g. RunsIn (verdict_in tree) g left asked) is meant in
      λ memory full. ap (behind child) (h memory full)

  pub behind-stops : (tree : I → Term) (given r : Result (VerdictIn I) Stop) (m : Verdict) → Gives (verdict_in tree) r (Ok m) → IfErr r (λ e. Unless (e ≡ Memory) (given ≡ Err e))
  behind-stops tree given (Ok v) m h = tt
  behind-stops tree given (Err e) m h = λ memory. let k = h memory in absurd (grind (arith, k))

-- the answer that is meant, with the units that are left
pub answers-runs : {A B : Type 0} (f : A → B) (r : Result A Stop) (left : ℕ) (meant : Result B Stop) → AnswersIn f r meant → RunsIn f r left (answered meant left)
answers-runs f (Ok a) left meant h = ap (λ x. answered x left) h
answers-runs f (Err e) left meant h = λ memory full. ap (λ x. answered x left) (h memory full)

pub gives-runs : {A B : Type 0} (f : A → B) (r : Result A Stop) (left : ℕ) (meant : Result B Stop) → Gives f r meant → RunsIn f r left (answered meant left)
gives-runs f (Ok a) left meant h = ap (λ x. answered x left) h
gives-runs f (Err e) left meant h = λ memory full. ap (λ x. answered x left) (h memory)

-- a call that takes memory and nothing else never says that the store is full
pub gives-never : {A B : Type 0} (X : Type 0) (f : A → B) (r : Result A Stop) (m : B) → Gives f r (Ok m) → IfErr r (λ e. e ≡ PoolFull → X)
gives-never X f (Ok a) m h = tt
gives-never X f (Err e) m h = λ is. let k = h (λ memory. let both = sym is ∙ memory in absurd (grind (arith, both))) in absurd (grind (arith, k))

pub gives-full : {I A B : Type 0} (P : Term → Type 0) (held : Held I) (f : A → B) (r : Result A Stop) (m : B) → Gives f r (Ok m) → IsFullOf P held r
gives-full P held f r m h = gives-never (LacksOne P held) f r m h

sort_of-is : (G : Context) (t : Term) → (v : Verdict) × (sort_of G t ≡ Ok v)
sort_of-is G (Sort i) = (_, refl)
sort_of-is G (Var n) = (_, refl)
sort_of-is G t = (_, refl)

pub sort_of-full : {I A : Type 0} (P : Term → Type 0) (held : Held I) (f : A → Verdict) (r : Result A Stop) (G : Context) (t : Term) → Gives f r (sort_of G t) → IsFullOf P held r
sort_of-full P held f r G t h = let is = sort_of-is G t in gives-full P held f r is.0 (transport (Gives f r) is.1 h)

compared-is : (G : Context) (t u : Term) (holds : Bool) → (v : Verdict) × (compared G t u holds ≡ Ok v)
compared-is G t u true = (_, refl)
compared-is G t u false = (_, refl)

pub compared-full : {I A : Type 0} (P : Term → Type 0) (held : Held I) (f : A → Verdict) (r : Result A Stop) (G : Context) (t u : Term) (holds : Bool) → Gives f r (compared G t u holds) → IsFullOf P held r
compared-full P held f r G t u holds h = let is = compared-is G t u holds in gives-full P held f r is.0 (transport (Gives f r) is.1 h)

-- an answer that takes memory alone is one over a store
pub gives-answers : {A B : Type 0} (f : A → B) (r : Result A Stop) (meant : Result B Stop) → Gives f r meant → AnswersIn f r meant
gives-answers f (Ok a) meant h = h
gives-answers f (Err e) meant h = λ memory full. h memory
