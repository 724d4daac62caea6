-- A type that the checker finds holds no K.
use Rattle.std.proofs.Common.{ℕ, zero, suc, ◌+◌, nat_lt, Bool, true, false, Option, Some, None, IfSome, Result, Ok, Err, ◌∷◌, slice_get}
use Rattle.theory.specs.Terms.{Term, top, subst}
use Rattle.theory.specs.Terms.Term.{Var, Sort, Pi, Lam, App, Let, Const, Fam, Con, Elim, AxiomK}
use Rattle.theory.specs.Telescopes.{Context}
use Rattle.theory.specs.Signatures.{Signature, TypeOf}
use Rattle.theory.specs.AxiomKLaws.{LacksAxiomK}
use Rattle.core_terms.specs.Answers.{Spent}
use Rattle.core_terms.specs.Verdicts.{Verdict}
use Rattle.core_terms.specs.Verdicts.Verdict.{Yes, No}
use Rattle.core_terms.specs.declared.stop.Stop.{Stop}
use Rattle.kernel_reduce.specs.Comparison.{subtype_of}
use Rattle.kernel_check.specs.Checking.{Asks, Checks, typed, on_verdict, if_typed, behind, infer_product, function_type, infer_function, reduced_product, product_of, apply_product, greater_sort, infer_application, infer_body, infer_local, variable_type, universe_type, given_type, leaf_type, infer_form, sort_of, compared, infer_of, infer_sort_of, check_of, yes_of, verdict_behind}
use Rattle.kernel_check.specs.Symbols.{symbol_type}
use Rattle.kernel_check.proofs.SymbolTypes.{symbol-type_of}
use Rattle.elim.specs.k_laws.Lacking.{Lack, SignatureLacks}
use Rattle.elim.specs.k_laws.Walking.{VerdictLacks}
use Rattle.elim.proofs.k_laws.Runs.{Gives, Ends, anyhow, ok, no, now, done, refused, next, either, low, charged, if-low}
use Rattle.elim.proofs.k_laws.Terms.{lifted, substituted, at}
use Rattle.elim.proofs.k_laws.Kernel.{whnf}

abbrev GoesOn : (Term → ℕ → Spent Verdict) → Type 0
GoesOn go = (type : Term) (left : ℕ) → LacksAxiomK type → Ends VerdictLacks (go type left)

on-verdict : (verdict : Verdict) (left : ℕ) {go : Term → ℕ → Spent Verdict} → VerdictLacks verdict → GoesOn go → Ends VerdictLacks (on_verdict verdict left go)
on-verdict (Yes type) left h k = k type left h
on-verdict (No denial) left h k = done tt

if-typed : {first : Spent Verdict} {go : Term → ℕ → Spent Verdict} → Ends VerdictLacks first → GoesOn go → Ends VerdictLacks (if_typed first go)
if-typed h k = next h (λ verdict left p. on-verdict verdict left p k)

of-child : (child : ℕ) {asked : Spent Verdict} → Ends VerdictLacks asked → Ends VerdictLacks (behind child asked)
of-child child {asked} h = next h (λ verdict left p. by verdict left p)
  where
    by : (verdict : Verdict) (left : ℕ) → VerdictLacks verdict → Ends {E = Stop} VerdictLacks (Ok (verdict_behind child verdict), left)
    by (Yes type) left p = done p
    by (No denial) left p = done tt

-- a child, and what goes on with its type
child-then : (child : ℕ) {asked : Spent Verdict} {go : Term → ℕ → Spent Verdict} → Ends VerdictLacks asked → GoesOn go
    → Ends VerdictLacks (if_typed (behind child asked) go)
child-then child h k = if-typed (of-child child h) k

yes : {r : Result Term Stop} → Gives LacksAxiomK r → Gives VerdictLacks (yes_of r)
yes {r} h = by r h
  where
    by : (x : Result Term Stop) → Gives LacksAxiomK x → Gives VerdictLacks (yes_of x)
    by (Ok type) k = ok k.is
    by (Err e) k = no

type-low : (made : Term) → LacksAxiomK made → Gives VerdictLacks (typed made)
type-low made h = yes (low made h)

abbrev Asked : Asks → Type 0
Asked ask = (G : Context) (t : Term) (left : ℕ) → Lack G → LacksAxiomK t → Ends VerdictLacks (ask G t left)

abbrev Checked : Checks → Type 0
Checked check = (G : Context) (t wanted : Term) (left : ℕ) → Lack G → LacksAxiomK t → Ends VerdictLacks (check G t wanted left)

greater : (a b : Term) → LacksAxiomK a → LacksAxiomK (greater_sort a b)
greater (Sort i) (Sort j) h = tt
greater (Sort i) _ h = tt
greater (Var n) b h = h
greater (Pi a c) b h = h
greater (Lam a c) b h = h
greater (App f a) b h = h
greater (Let a t c) b h = h
greater (Const n) b h = h
greater (Fam n) b h = h
greater (Con n c) b h = h
greater (Elim n m) b h = h
greater (AxiomK i m) b h = h

product : {infer_sort : Asks} → Asked infer_sort → (G : Context) (a b : Term) (left : ℕ) → Lack G → LacksAxiomK a → LacksAxiomK b
    → Ends VerdictLacks (infer_product infer_sort G a b left)
product h G a b left hG ha hb =
    child-then _ (h G a left hG ha) (λ i rest hi. child-then _ (h (a ∷ G) b rest (ha, hG) hb) (λ j end hj. now (type-low _ (greater i j hi))))

function-typed : (G : Context) (a b : Term) → LacksAxiomK a → LacksAxiomK b → Gives VerdictLacks (function_type G a b)
function-typed G a b ha hb = either _ (ok tt) (type-low (Pi a b) (ha, hb))

function : {infer infer_sort : Asks} → Asked infer → Asked infer_sort → (G : Context) (a b : Term) (left : ℕ) → Lack G → LacksAxiomK a → LacksAxiomK b
    → Ends VerdictLacks (infer_function infer infer_sort G a b left)
function h k G a b left hG ha hb =
    child-then _ (k G a left hG ha) (λ i rest hi. child-then _ (h (a ∷ G) b rest (ha, hG) hb) (λ c end hc. now (function-typed G a c ha hc)))

reduced : {infer_sort : Asks} → Asked infer_sort → (G : Context) (c : Term) (left : ℕ) → Lack G → LacksAxiomK c
    → Ends VerdictLacks (reduced_product infer_sort G c left)
reduced h G (Pi a b) left hG hc = child-then _ (h G (Pi a b) left hG hc) (λ i end hi. done hc)
reduced h G (Var n) left hG hc = done tt
reduced h G c left hG hc = done tt

a-product : (S : Signature) → SignatureLacks S → {infer_sort : Asks} → Asked infer_sort → (G : Context) (c : Term) (left : ℕ) → Lack G → LacksAxiomK c
    → Ends VerdictLacks (product_of S infer_sort G c left)
a-product S all h G (Pi a b) left hG hc = done hc
a-product S all h G (Var n) left hG hc = next (whnf S true left (Var n) all hc) (λ u rest hu. reduced h G u rest hG hu)
a-product S all h G c left hG hc = next (whnf S true left c all hc) (λ u rest hu. reduced h G u rest hG hu)

argument : {check : Checks} → Checked check → (G : Context) (u c : Term) (left : ℕ) → Lack G → LacksAxiomK u → LacksAxiomK c
    → Ends VerdictLacks (apply_product check G u c left)
argument h G u (Pi a b) left hG hu hc = child-then _ (h G u a left hG hu) (λ found end hf. now (type-low _ (substituted b 0 u hc.1 hu)))
argument h G u (Var n) left hG hu hc = done tt
argument h G u c left hG hu hc = done tt

application : (S : Signature) → SignatureLacks S → {infer infer_sort : Asks} {check : Checks} → Asked infer → Asked infer_sort → Checked check
    → (G : Context) (f u : Term) (left : ℕ) → Lack G → LacksAxiomK f → LacksAxiomK u → Ends VerdictLacks (infer_application S infer infer_sort check G f u left)
application S all h k l G f u left hG hf hu =
    child-then _ (h G f left hG hf) (λ c rest hc. if-typed (a-product S all k G c rest hG hc) (λ d end hd. argument l G u d end hG hu hd))

body : {infer : Asks} → Asked infer → (G : Context) (made : Term) (left : ℕ) → Lack G → LacksAxiomK made → Ends VerdictLacks (infer_body infer G made left)
body h G made left hG hm = next (now (low made hm)) (λ t end ht. of-child _ (h G t end hG ht))

local : {infer infer_sort : Asks} {check : Checks} → Asked infer → Asked infer_sort → Checked check → (G : Context) (a t b : Term) (left : ℕ) → Lack G
    → LacksAxiomK a → LacksAxiomK t → LacksAxiomK b → Ends VerdictLacks (infer_local infer infer_sort check G a t b left)
local h k l G a t b left hG ha ht hb =
    child-then _ (k G a left hG ha) (λ i rest hi.
    child-then _ (l G t a rest hG ht) (λ found end hf. body h G (subst b 0 t) end hG (substituted b 0 t hb ht)))

variable-typed : (G : Context) (n : ℕ) (o : Option Term) → IfSome o LacksAxiomK → Gives VerdictLacks (variable_type G n o)
variable-typed G n (Some a) h = type-low _ (lifted a (n + 1) 0 h)
variable-typed G n None h = ok tt

given-typed : (G : Context) (o : Option Term) → IfSome o LacksAxiomK → Gives VerdictLacks (given_type G o)
given-typed G (Some type) h = type-low type h
given-typed G None h = ok tt

universe : (G : Context) (i : ℕ) → Gives VerdictLacks (universe_type G i)
universe G i = either (nat_lt i top) (type-low (Sort (i + 1)) tt) (ok tt)

symbol : (S : Signature) → SignatureLacks S → (t : Term) → IfSome (symbol_type S t) LacksAxiomK
symbol S all t = by (symbol_type S t) (symbol-type_of S t)
  where
    by : (o : Option Term) → IfSome o (TypeOf S t) → IfSome o LacksAxiomK
    by (Some a) d = all.types t a d
    by None d = tt

leaf : (S : Signature) → SignatureLacks S → (G : Context) (t : Term) → Lack G → Gives VerdictLacks (leaf_type S G t)
leaf S all G (Var n) hG = variable-typed G n (slice_get G n) (at G n hG).is
leaf S all G (Sort i) hG = universe G i
leaf S all G (Pi a b) hG = given-typed G (symbol_type S (Pi a b)) (symbol S all (Pi a b))
leaf S all G s hG = given-typed G (symbol_type S s) (symbol S all s)

form : (S : Signature) → SignatureLacks S → {infer infer_sort : Asks} {check : Checks} → Asked infer → Asked infer_sort → Checked check
    → Asked (infer_form S infer infer_sort check)
form S all h k l G (Var n) left hG ht = now (leaf S all G (Var n) hG)
form S all h k l G (Sort i) left hG ht = now (leaf S all G (Sort i) hG)
form S all h k l G (Pi a b) left hG ht = product k G a b left hG ht.0 ht.1
form S all h k l G (Lam a b) left hG ht = function h k G a b left hG ht.0 ht.1
form S all h k l G (App f u) left hG ht = application S all h k l G f u left hG ht.0 ht.1
form S all h k l G (Let a t b) left hG ht = local h k l G a t b left hG ht.0 ht.1 ht.2
form S all h k l G (Const n) left hG ht = now (leaf S all G (Const n) hG)
form S all h k l G s left hG ht = now (leaf S all G s hG)

of-sort : (G : Context) (t : Term) → Gives VerdictLacks (sort_of G t)
of-sort G (Sort i) = ok tt
of-sort G (Var n) = ok tt
of-sort G t = ok tt

of-comparison : (G : Context) (found wanted : Term) (holds : Bool) → LacksAxiomK found → Gives VerdictLacks (compared G found wanted holds)
of-comparison G found wanted true h = ok h
of-comparison G found wanted false h = ok tt

mutual
  pub infer : (S : Signature) → SignatureLacks S → (room : ℕ) → Asked (infer_of S room)
  infer S all zero G t left hG ht = refused
  infer S all (suc room) G t left hG ht =
      if-low _ (charged (λ more. form S all (infer S all room) (infer-sort S all room) (check S all room) G t more hG ht)) left

  infer-sort : (S : Signature) → SignatureLacks S → (room : ℕ) → Asked (infer_sort_of S room)
  infer-sort S all zero G t left hG ht = refused
  infer-sort S all (suc room) G t left hG ht =
      if-typed (infer S all room G t left hG ht) (λ c rest hc. next (whnf S true rest c all hc) (λ u end hu. now (of-sort G u)))

  check : (S : Signature) → SignatureLacks S → (room : ℕ) → Checked (check_of S room)
  check S all zero G t wanted left hG ht = refused
  check S all (suc room) G t wanted left hG ht =
      if-typed (infer S all room G t left hG ht) (λ found rest hf.
      next (anyhow (subtype_of S room found wanted rest)) (λ holds end p. now (of-comparison G found wanted holds hf)))
