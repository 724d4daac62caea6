-- A property of the search for an open pair, from that of each look.
use Rattle.std.proofs.Common.{◌≡◌, ℕ, Option, Some, None, IfSome, Result, Ok, Err, List, [], ◌∷◌, refl, subst, arith}
use Rattle.theory.specs.Terms.{Term, Var}
use Rattle.theory.specs.Telescopes.{Telescope}
use Rattle.theory.specs.Signatures.{Signature}
use Rattle.core_terms.specs.Patterns.{Pat}
use Rattle.core_terms.specs.declared.stop.Stop.{Stop}
use Rattle.core_terms.specs.declared.stop.Stop.TheVariants.{Deep}
use Rattle.kernel_reduce.specs.Tidying.{tidy_of}
use Rattle.unification.specs.Solutions.{variable_in}
use Rattle.case_trees.specs.Pairs.{or_later}
use Rattle.case_trees.specs.Stops.{TreeStop, Halts, Forced, Stopping, or_halts, halting}
use Rattle.case_trees.specs.Looking.{Look, Found, Passed, stuck_at, none_found, Further, behind_look, at_open, first_found}
use Rattle.case_trees.proofs.Answered.{Holds, and_next-holds}

-- u is t as it is shown, with some units
pub record TidiesTo (S : Signature) (t u : Term) : Type 0 where
  pub units : ℕ
  pub run : (tidy_of S units t).0 ≡ Ok u

-- each of the pairs has O
abbrev pub AllPairs : ((Pat × Term) → Type 0) → List (Pat × Term) → Type 0
AllPairs O [] = Unit {0}
AllPairs O (pair ∷ pairs) = O pair × AllPairs O pairs

-- nothing is said of the pairs
pub any-pairs : (pairs : List (Pat × Term)) → AllPairs (λ pair. Unit {0}) pairs
any-pairs [] = tt
any-pairs (pair ∷ pairs) = (tt, any-pairs pairs)

-- a look that finds has P, and a stuck run may be answered
abbrev pub LookHas : {A : Type 0} → (A → Type 0) → (TreeStop → Type 0) → (clause : ℕ) → Look A → Type 0
LookHas P Q clause (Found a) = P a
LookHas P Q clause (Passed r) = Q (stuck_at clause r)

-- a look at a pair with a variable has P or Q
abbrev pub LookHolds : {A : Type 0} → (A → Type 0) → (TreeStop → Type 0) → ((Pat × Term) → Type 0) → Signature → (clause : ℕ)
    → (Pat → ℕ → ℕ → Stopping (Look A)) → Type 0
LookHolds P Q O S clause look =
    (pair : Pat × Term) (x rest : ℕ) → O pair → TidiesTo S pair.1 (Var x) → Holds (LookHas P Q clause) Q (look pair.0 x rest).0

-- so has a pair without one
abbrev pub ForcedHolds : (TreeStop → Type 0) → ((Pat × Term) → Type 0) → Signature → (clause : ℕ) → Telescope → Type 0
ForcedHolds Q O S clause context =
    (pair : Pat × Term) (u : Term) → O pair → TidiesTo S pair.1 u → variable_in u ≡ None → Q (Forced clause context pair.0 u)

abbrev FurtherHolds : {A : Type 0} → (A → Type 0) → (TreeStop → Type 0) → Further A → Type 0
FurtherHolds P Q further = (stuck forced : Option TreeStop) (left : ℕ) → IfSome stuck Q → IfSome forced Q → Holds P Q (further stuck forced left).0

none-holds : (Q : TreeStop → Type 0) (stuck forced : Option TreeStop) → ((e : Stop) → Q (Halts e)) → IfSome stuck Q → IfSome forced Q
    → Q (none_found stuck forced)
none-holds Q (Some e) forced halts h k = h
none-holds Q None (Some e) halts h k = k
none-holds Q None None halts h k = halts Deep

later-holds : (Q : TreeStop → Type 0) (first : Option TreeStop) (e : TreeStop) → IfSome first Q → Q e → IfSome (or_later first (Some e)) Q
later-holds Q (Some d) e h k = h
later-holds Q None e h k = k

behind-holds : {A : Type 0} (P : A → Type 0) (Q : TreeStop → Type 0) (clause : ℕ) (further : Further A) (stuck forced : Option TreeStop) (a : Look A) (left : ℕ)
    → LookHas P Q clause a → FurtherHolds P Q further → IfSome stuck Q → IfSome forced Q → Holds P Q (behind_look clause further stuck forced a left).0
behind-holds P Q clause further stuck forced (Found a) left has more h k = has
behind-holds P Q clause further stuck forced (Passed r) left has more h k =
    more (or_later stuck (Some (stuck_at clause r))) forced left (later-holds Q stuck (stuck_at clause r) h has) k

variable-is : (u : Term) (x : ℕ) → variable_in u ≡ Some x → u ≡ Var x
variable-is (Var y) x e = grind arith
variable-is (Term.Sort i) x e = absurd (grind arith)
variable-is (Term.Pi a b) x e = absurd (grind arith)
variable-is (Term.Lam a b) x e = absurd (grind arith)
variable-is (Term.App f a) x e = absurd (grind arith)
variable-is (Term.Let a t b) x e = absurd (grind arith)
variable-is (Term.Const n) x e = absurd (grind arith)
variable-is (Term.Fam n) x e = absurd (grind arith)
variable-is (Term.Con n m) x e = absurd (grind arith)
variable-is (Term.Elim n m) x e = absurd (grind arith)
variable-is (Term.AxiomK i m) x e = absurd (grind arith)

open-holds : {A : Type 0} (P : A → Type 0) (Q : TreeStop → Type 0) (O : (Pat × Term) → Type 0) (S : Signature) (clause : ℕ) (context : Telescope)
    (look : Pat → ℕ → ℕ → Stopping (Look A)) (further : Further A) (pair : Pat × Term) (u : Term) (from : Option ℕ) (stuck forced : Option TreeStop) (left : ℕ)
    → variable_in u ≡ from → O pair → TidiesTo S pair.1 u → LookHolds P Q O S clause look → ForcedHolds Q O S clause context → FurtherHolds P Q further
    → IfSome stuck Q → IfSome forced Q → Holds P Q (at_open clause context look further pair.0 u from stuck forced left).0
open-holds P Q O S clause context look further pair u None stuck forced left e o to look_holds forced_holds more h k =
    more stuck (or_later forced (Some (Forced clause context pair.0 u))) left h (later-holds Q forced (Forced clause context pair.0 u) k (forced_holds pair u o to e))
open-holds P Q O S clause context look further pair u (Some x) stuck forced left e o to look_holds forced_holds more h k =
    and_next-holds (LookHas P Q clause) P Q (look pair.0 x left) _
    (look_holds pair x left o (subst (TidiesTo S pair.1) (variable-is u x e) to))
    (λ a rest has. behind-holds P Q clause further stuck forced a rest has more h k)

tidies : (S : Signature) (t : Term) (left : ℕ) (Q : TreeStop → Type 0) → ((e : Stop) → Q (Halts e)) → Holds (TidiesTo S t) Q (halting (tidy_of S left t)).0
tidies S t left Q halts = by (tidy_of S left t).0 refl
  where
    by : (r : Result Term Stop) → (tidy_of S left t).0 ≡ r → Holds (TidiesTo S t) Q (or_halts r)
    by (Ok u) e = record { units = left; run = e }
    by (Err e) h = halts e

pub first-holds : {A : Type 0} (P : A → Type 0) (Q : TreeStop → Type 0) (O : (Pat × Term) → Type 0) (S : Signature) (clause : ℕ) (context : Telescope)
    (look : Pat → ℕ → ℕ → Stopping (Look A)) (pairs : List (Pat × Term)) → ((e : Stop) → Q (Halts e)) → AllPairs O pairs
    → LookHolds P Q O S clause look → ForcedHolds Q O S clause context
    → (stuck forced : Option TreeStop) (left : ℕ) → IfSome stuck Q → IfSome forced Q → Holds P Q (first_found S clause context look pairs stuck forced left).0
first-holds P Q O S clause context look [] halts all look_holds forced_holds stuck forced left h k = none-holds Q stuck forced halts h k
first-holds P Q O S clause context look (pair ∷ pairs) halts all look_holds forced_holds stuck forced left h k =
    and_next-holds (TidiesTo S pair.1) P Q (halting (tidy_of S left pair.1)) _ (tidies S pair.1 left Q halts) (λ u rest to.
    open-holds P Q O S clause context look (first_found S clause context look pairs) pair u (variable_in u) stuck forced rest refl all.0 to look_holds
    forced_holds (first-holds P Q O S clause context look pairs halts all.1 look_holds forced_holds) h k)
