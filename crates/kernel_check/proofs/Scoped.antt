-- The checker's answers are scoped.
use Rattle.std.proofs.Common.{◌≡◌, ℕ, ◌+◌, zero, suc, Bool, true, false, cond, nat_lt, Option, Some, None, IfSome, Ok, Err, Result, IfOk, [], ◌∷◌, length, reverse, slice_get, refl, sym, max, subst as transport, arith}
use Rattle.std.proofs.lemmas.List.{length-reverse}
use Rattle.theory.specs.Terms.{Term, lift, subst, top}
use Rattle.theory.specs.Terms.Term.{Var, Sort, Pi, Lam, App, Let, Const}
use Rattle.theory.specs.Telescopes.{Context}
use Rattle.theory.specs.Signatures.{Signature, TypeOf}
use Rattle.theory.specs.SignatureScopes.{IsScoped, IsScopedContext, IsScopedSignature}
use Rattle.theory.proofs.Lists.{some_is}
use Rattle.theory.proofs.ScopedTerms.{scoped-pi, scoped-lam, scoped-app, scoped-let, pi-scoped, sort-scoped, scoped_over_more, lift-scoped, subst-scoped, context-scoped}
use Rattle.theory.proofs.ScopedEntries.{types-scoped}
use Rattle.core_terms.specs.Answers.{Spent, bounded, and_next, is_low}
use Rattle.core_terms.specs.Verdicts.{Reason, Verdict}
use Rattle.core_terms.specs.Verdicts.Verdict.{Yes, No}
use Rattle.core_terms.specs.Verdicts.Reason.{Mismatch, NotAProduct, NotASort, NoSuchInstance, LevelTooHigh}
use Rattle.core_terms.specs.declared.stop.Stop.{Stop}
use Rattle.kernel_reduce.specs.Reduction.{answered, whnf_of}
use Rattle.kernel_reduce.specs.Comparison.{subtype_of}
use Rattle.core_terms.proofs.Answers.{Answers, and_next-has, bounded-has}
use Rattle.kernel_reduce.proofs.Answers.{charge-has, if_low-has}
use Rattle.kernel_reduce.proofs.ScopedReduction.{whnf-scoped}
use Rattle.kernel_check.specs.Symbols.{symbol_type}
use Rattle.kernel_check.specs.Checking.{Asks, Checks, typed as of_type, denied, if_typed, behind, variable_type, universe_type, greater_sort, infer_product, is_top, function_type, infer_function, reduced_product, product_of, apply_product, infer_application, infer_body, infer_local, given_type, leaf_type, infer_form, sort_of, compared, infer_of, infer_sort_of, check_of}
use Rattle.kernel_check.specs.Laws.{IsScopedReason, IsScopedDenial, IsScopedVerdict, InferScoped, InferSortScoped, CheckScoped}
use Rattle.kernel_check.proofs.Contexts.{context_back}
use Rattle.kernel_check.proofs.SymbolTypes.{symbol-type_of}
use Rattle.kernel_check.proofs.Parts.{Splits, typed-splits, if_typed-splits, behind-splits, child-splits}

denied-scoped : (S : Signature) (G : Context) (reason : Reason) → IsScopedContext S G → IsScopedReason S (length G) reason
    → IsScopedDenial S (record { place = []; ctx = reverse G; reason = reason })
denied-scoped S G reason ctx h = (
  (context-scoped S (reverse G)).1 (transport (IsScopedContext S) (sym (context_back G)) ctx),
  transport (λ n. IsScopedReason S n reason) (sym (length-reverse G)) h,
)

pub under-binder : {S : Signature} (G : Context) (a : Term) {b : Term} → IsScoped S (length G + 1) b → IsScoped S (length (a ∷ G)) b
under-binder {S} G a {b} h = let e : length G + 1 ≡ length (a ∷ G) = omega arith in transport (λ n. IsScoped S n b) e h

any-answer : (r : Result Bool Stop) → IfOk r (λ holds. Unit {0})
any-answer (Ok holds) = tt
any-answer (Err e) = tt

abbrev ScopesOk : Signature → ℕ → Result Verdict Stop → Type 0
ScopesOk S n r = IfOk r (Splits (IsScoped S n) (IsScopedDenial S))

-- a scoped answer over n variables
abbrev Scopes : Signature → ℕ → Spent Verdict → Type 0
Scopes S n r = Answers (Splits (IsScoped S n) (IsScopedDenial S)) r

of_type-scopes : (S : Signature) (n : ℕ) (made : Term) → IsScoped S n made → ScopesOk S n (of_type made)
of_type-scopes S n made h = typed-splits (IsScoped S n) (IsScopedDenial S) made h

child-scopes : (S : Signature) (m n child : ℕ) (asked : Spent Verdict) (next : Term → ℕ → Spent Verdict) → Scopes S m asked
    → ((type : Term) (rest : ℕ) → IsScoped S m type → Scopes S n (next type rest)) → Scopes S n (if_typed (behind child asked) next)
child-scopes S m n child asked next h k =
    child-splits (IsScoped S m) (IsScoped S n) (IsScopedDenial S) (IsScopedDenial S) child asked next (λ denial d. d) h k

AskScopes : Signature → Asks → Type 0
AskScopes S ask = (G : Context) (t : Term) (left : ℕ) → IsScopedContext S G → IsScoped S (length G) t → Scopes S (length G) (ask G t left)

CheckingScopes : Signature → Checks → Type 0
CheckingScopes S check =
    (G : Context) (t wanted : Term) (left : ℕ) → IsScopedContext S G → IsScoped S (length G) t → IsScoped S (length G) wanted
    → Scopes S (length G) (check G t wanted left)

-- a type of a scoped context is scoped over the variables after it
pub declared-scoped : (S : Signature) (G : Context) (n : ℕ) (a : Term) → IsScopedContext S G → slice_get G n ≡ Some a
    → (k : ℕ) × (k + (n + 1) ≡ length G) × IsScoped S k a
declared-scoped S [] n a ctx e = absurd (grind arith)
declared-scoped S (b ∷ G) zero a ctx e = (length G, omega arith, transport (IsScoped S (length G)) (some_is e) ctx.0)
declared-scoped S (b ∷ G) (suc n) a ctx e =
    let found = declared-scoped S G n a ctx.1 e in
    let m = found.1 in
    (found.0, omega arith, found.2)

variable-scopes : (S : Signature) (G : Context) (n : ℕ) (o : Option Term) → slice_get G n ≡ o → IsScopedContext S G
    → ScopesOk S (length G) (variable_type G n o)
variable-scopes S G n (Some a) e ctx =
    let found = declared-scoped S G n a ctx e in
    of_type-scopes S (length G) (lift a (n + 1) 0)
    (transport (λ k. IsScoped S k (lift a (n + 1) 0)) found.1 (lift-scoped S found.0 a (n + 1) 0 found.2))
variable-scopes S G n None e ctx = denied-scoped S G NoSuchInstance ctx tt

universe-scopes : (S : Signature) (G : Context) (i : ℕ) → IsScopedContext S G → ScopesOk S (length G) (universe_type G i)
universe-scopes S G i ctx = by_case (nat_lt i top)
  where
    by_case : (b : Bool) → ScopesOk S (length G) (cond b (of_type (Sort (i + 1))) (denied G LevelTooHigh))
    by_case true = of_type-scopes S (length G) (Sort (i + 1)) (sort-scoped (i + 1))
    by_case false = denied-scoped S G LevelTooHigh ctx tt

greater-scoped : (S : Signature) (n : ℕ) (i j : Term) → IsScoped S n i → IsScoped S n (greater_sort i j)
greater-scoped S n (Sort i) (Sort j) h = sort-scoped (max i j)
greater-scoped S n (Sort i) (Var v) h = h
greater-scoped S n (Sort i) _ h = h
greater-scoped S n (Var v) j h = h
greater-scoped S n _ j h = h

product-scopes : (S : Signature) (infer_sort : Asks) → AskScopes S infer_sort → (G : Context) (a b : Term) (left : ℕ) → IsScopedContext S G
    → IsScoped S (length G) (Pi a b) → Scopes S (length G) (infer_product infer_sort G a b left)
unfolding AskScopes
product-scopes S infer_sort h G a b left ctx ht =
    let p = scoped-pi ht in
    child-scopes S (length G) (length G) 0 (infer_sort G a left) _ (h G a left ctx p.0) (λ i rest hi.
    child-scopes S (length (a ∷ G)) (length G) 1 (infer_sort (a ∷ G) b rest) _ (h (a ∷ G) b rest (p.0, ctx) (under-binder G a p.1)) (λ j end hj.
    of_type-scopes S (length G) (greater_sort i j) (greater-scoped S (length G) i j hi)))

function_type-scopes : (S : Signature) (G : Context) (a c : Term) → IsScopedContext S G → IsScoped S (length G) a
    → IsScoped S (length (a ∷ G)) c → ScopesOk S (length G) (function_type G a c)
function_type-scopes S G a c ctx ha hc = by_case (is_top c)
  where
    by_case : (b : Bool) → ScopesOk S (length G) (cond b (denied G LevelTooHigh) (of_type (Pi a c)))
    by_case true = denied-scoped S G LevelTooHigh ctx tt
    by_case false =
        let e : length (a ∷ G) ≡ length G + 1 = omega arith in
        of_type-scopes S (length G) (Pi a c) (pi-scoped ha (transport (λ n. IsScoped S n c) e hc))

function-scopes : (S : Signature) (infer infer_sort : Asks) → AskScopes S infer → AskScopes S infer_sort → (G : Context) (a b : Term) (left : ℕ)
    → IsScopedContext S G → IsScoped S (length G) (Lam a b) → Scopes S (length G) (infer_function infer infer_sort G a b left)
unfolding AskScopes
function-scopes S infer infer_sort h k G a b left ctx ht =
    let p = scoped-lam ht in
    child-scopes S (length G) (length G) 0 (infer_sort G a left) _ (k G a left ctx p.0) (λ i rest hi.
    child-scopes S (length (a ∷ G)) (length G) 1 (infer (a ∷ G) b rest) _ (h (a ∷ G) b rest (p.0, ctx) (under-binder G a p.1)) (λ c end hc.
    function_type-scopes S G a c ctx p.0 hc))

reduced-scopes : (S : Signature) (infer_sort : Asks) → AskScopes S infer_sort → (G : Context) (c : Term) (left : ℕ) → IsScopedContext S G
    → IsScoped S (length G) c → Scopes S (length G) (reduced_product infer_sort G c left)
unfolding AskScopes
reduced-scopes S infer_sort h G (Pi a b) left ctx hc =
    child-scopes S (length G) (length G) 0 (infer_sort G (Pi a b) left) _ (h G (Pi a b) left ctx hc) (λ i end hi. hc)
reduced-scopes S infer_sort h G (Var n) left ctx hc = denied-scoped S G (NotAProduct (Var n)) ctx hc
reduced-scopes S infer_sort h G c left ctx hc = denied-scoped S G (NotAProduct c) ctx hc

head-scopes : (S : Signature) → IsScopedSignature S → (infer_sort : Asks) → AskScopes S infer_sort → (G : Context) (c : Term) (left : ℕ) → IsScopedContext S G
    → IsScoped S (length G) c → Scopes S (length G) (and_next (whnf_of S true left c) (reduced_product infer_sort G))
head-scopes S scoped infer_sort h G c left ctx hc =
    and_next-has (IsScoped S (length G)) (Splits (IsScoped S (length G)) (IsScopedDenial S)) (whnf_of S true left c) (reduced_product infer_sort G)
    (whnf-scoped S true left (length G) c scoped hc) (λ d rest hd. reduced-scopes S infer_sort h G d rest ctx hd)

product_of-scopes : (S : Signature) → IsScopedSignature S → (infer_sort : Asks) → AskScopes S infer_sort → (G : Context) (c : Term) (left : ℕ) → IsScopedContext S G
    → IsScoped S (length G) c → Scopes S (length G) (product_of S infer_sort G c left)
product_of-scopes S scoped infer_sort h G (Pi a b) left ctx hc = hc
product_of-scopes S scoped infer_sort h G (Var n) left ctx hc = head-scopes S scoped infer_sort h G (Var n) left ctx hc
product_of-scopes S scoped infer_sort h G c left ctx hc = head-scopes S scoped infer_sort h G c left ctx hc

apply-scopes : (S : Signature) (check : Checks) → CheckingScopes S check → (G : Context) (u c : Term) (left : ℕ) → IsScopedContext S G
    → IsScoped S (length G) u → IsScoped S (length G) c → Scopes S (length G) (apply_product check G u c left)
unfolding CheckingScopes
apply-scopes S check h G u (Pi a b) left ctx hu hc =
    let p = scoped-pi hc in
    child-scopes S (length G) (length G) 1 (check G u a left) _ (h G u a left ctx hu p.0) (λ found end hf.
    of_type-scopes S (length G) (subst b 0 u) (subst-scoped S (length G) 0 b u (omega arith) p.1 hu))
apply-scopes S check h G u (Var n) left ctx hu hc = denied-scoped S G (NotAProduct (Var n)) ctx hc
apply-scopes S check h G u c left ctx hu hc = denied-scoped S G (NotAProduct c) ctx hc

application-scopes : (S : Signature) → IsScopedSignature S → (infer infer_sort : Asks) (check : Checks) → AskScopes S infer → AskScopes S infer_sort → CheckingScopes S check
    → (G : Context) (f u : Term) (left : ℕ) → IsScopedContext S G → IsScoped S (length G) (App f u)
    → Scopes S (length G) (infer_application S infer infer_sort check G f u left)
unfolding AskScopes
application-scopes S scoped infer infer_sort check h k l G f u left ctx ht =
    let p = scoped-app ht in
    child-scopes S (length G) (length G) 0 (infer G f left) _ (h G f left ctx p.0) (λ c rest hc.
    if_typed-splits (IsScoped S (length G)) (IsScoped S (length G)) (IsScopedDenial S) (product_of S infer_sort G c rest) (apply_product check G u)
    (product_of-scopes S scoped infer_sort k G c rest ctx hc) (λ d end hd. apply-scopes S check l G u d end ctx p.1 hd))

body-scopes : (S : Signature) (infer : Asks) → AskScopes S infer → (G : Context) (made : Term) (left : ℕ) → IsScopedContext S G
    → IsScoped S (length G) made → Scopes S (length G) (infer_body infer G made left)
unfolding AskScopes
body-scopes S infer h G made left ctx hm =
    and_next-has (IsScoped S (length G)) (Splits (IsScoped S (length G)) (IsScopedDenial S)) (answered (bounded made) left) _
    (bounded-has (IsScoped S (length G)) made (λ low. hm)) (λ body end hb.
    behind-splits (IsScoped S (length G)) (IsScopedDenial S) (IsScopedDenial S) 2 (infer G body end) (λ denial d. d) (h G body end ctx hb))

local-scopes : (S : Signature) (infer infer_sort : Asks) (check : Checks) → AskScopes S infer → AskScopes S infer_sort → CheckingScopes S check
    → (G : Context) (a t b : Term) (left : ℕ) → IsScopedContext S G → IsScoped S (length G) (Let a t b)
    → Scopes S (length G) (infer_local infer infer_sort check G a t b left)
unfolding AskScopes CheckingScopes
local-scopes S infer infer_sort check h k l G a t b left ctx ht =
    let p = scoped-let ht in
    child-scopes S (length G) (length G) 0 (infer_sort G a left) _ (k G a left ctx p.0) (λ i rest hi.
    child-scopes S (length G) (length G) 1 (check G t a rest) _ (l G t a rest ctx p.1 p.0) (λ found end hf.
    body-scopes S infer h G (subst b 0 t) end ctx (subst-scoped S (length G) 0 b t (omega arith) p.2 p.1)))

symbol-scopes : (S : Signature) → IsScopedSignature S → (G : Context) (s : Term) (o : Option Term) → IfSome o (TypeOf S s) → IsScopedContext S G
    → ScopesOk S (length G) (given_type G o)
symbol-scopes S scoped G s (Some a) h ctx =
    of_type-scopes S (length G) a (scoped_over_more S 0 (length G) a (omega arith) (types-scoped S s a scoped h))
symbol-scopes S scoped G s None h ctx = denied-scoped S G NoSuchInstance ctx tt

leaf-scopes : (S : Signature) → IsScopedSignature S → (G : Context) (t : Term) → IsScopedContext S G → ScopesOk S (length G) (leaf_type S G t)
leaf-scopes S scoped G (Var n) ctx = variable-scopes S G n (slice_get G n) refl ctx
leaf-scopes S scoped G (Sort i) ctx = universe-scopes S G i ctx
leaf-scopes S scoped G (Const n) ctx = symbol-scopes S scoped G (Const n) (symbol_type S (Const n)) (symbol-type_of S (Const n)) ctx
leaf-scopes S scoped G s ctx = symbol-scopes S scoped G s (symbol_type S s) (symbol-type_of S s) ctx

form-scopes : (S : Signature) → IsScopedSignature S → (infer infer_sort : Asks) (check : Checks) → AskScopes S infer → AskScopes S infer_sort → CheckingScopes S check
    → AskScopes S (infer_form S infer infer_sort check)
unfolding AskScopes
form-scopes S scoped infer infer_sort check h k l G (Pi a b) left ctx ht = product-scopes S infer_sort k G a b left ctx ht
form-scopes S scoped infer infer_sort check h k l G (Lam a b) left ctx ht = function-scopes S infer infer_sort h k G a b left ctx ht
form-scopes S scoped infer infer_sort check h k l G (App f u) left ctx ht = application-scopes S scoped infer infer_sort check h k l G f u left ctx ht
form-scopes S scoped infer infer_sort check h k l G (Let a t b) left ctx ht = local-scopes S infer infer_sort check h k l G a t b left ctx ht
form-scopes S scoped infer infer_sort check h k l G (Var n) left ctx ht = leaf-scopes S scoped G (Var n) ctx
form-scopes S scoped infer infer_sort check h k l G t left ctx ht = leaf-scopes S scoped G t ctx

sort_of-scopes : (S : Signature) (G : Context) (c : Term) → IsScopedContext S G → IsScoped S (length G) c → ScopesOk S (length G) (sort_of G c)
sort_of-scopes S G (Sort i) ctx hc = hc
sort_of-scopes S G (Var n) ctx hc = denied-scoped S G (NotASort (Var n)) ctx hc
sort_of-scopes S G c ctx hc = denied-scoped S G (NotASort c) ctx hc

compared-scopes : (S : Signature) (G : Context) (found wanted : Term) (holds : Bool) → IsScopedContext S G → IsScoped S (length G) found
    → IsScoped S (length G) wanted → ScopesOk S (length G) (compared G found wanted holds)
compared-scopes S G found wanted true ctx hf hw = hf
compared-scopes S G found wanted false ctx hf hw = denied-scoped S G (Mismatch found wanted) ctx (hf, hw)

mutual
  unfolding AskScopes CheckingScopes

  infer-scopes : (S : Signature) → IsScopedSignature S → (room : ℕ) → AskScopes S (infer_of S room)
  infer-scopes S scoped zero G t left ctx ht = tt
  infer-scopes S scoped (suc room) G t left ctx ht =
      if_low-has (Splits (IsScoped S (length G)) (IsScopedDenial S)) (is_low t) _ left (λ low.
      charge-has (Splits (IsScoped S (length G)) (IsScopedDenial S)) _ left (λ rest.
      form-scopes S scoped (infer_of S room) (infer_sort_of S room) (check_of S room)
      (infer-scopes S scoped room) (infer_sort-scopes S scoped room) (check-scopes S scoped room) G t rest ctx ht))

  infer_sort-scopes : (S : Signature) → IsScopedSignature S → (room : ℕ) → AskScopes S (infer_sort_of S room)
  infer_sort-scopes S scoped zero G t left ctx ht = tt
  infer_sort-scopes S scoped (suc room) G t left ctx ht =
      if_typed-splits (IsScoped S (length G)) (IsScoped S (length G)) (IsScopedDenial S) (infer_of S room G t left) _
      (infer-scopes S scoped room G t left ctx ht) (λ c rest hc.
      and_next-has (IsScoped S (length G)) (Splits (IsScoped S (length G)) (IsScopedDenial S)) (whnf_of S true rest c) _
      (whnf-scoped S true rest (length G) c scoped hc) (λ d end hd. sort_of-scopes S G d ctx hd))

  check-scopes : (S : Signature) → IsScopedSignature S → (room : ℕ) → CheckingScopes S (check_of S room)
  check-scopes S scoped zero G t wanted left ctx ht hw = tt
  check-scopes S scoped (suc room) G t wanted left ctx ht hw =
      if_typed-splits (IsScoped S (length G)) (IsScoped S (length G)) (IsScopedDenial S) (infer_of S room G t left) _
      (infer-scopes S scoped room G t left ctx ht) (λ found rest hf.
      and_next-has (λ holds. Unit {0}) (Splits (IsScoped S (length G)) (IsScopedDenial S)) (subtype_of S room found wanted rest) _
      (any-answer (subtype_of S room found wanted rest).0) (λ holds end hb. compared-scopes S G found wanted holds ctx hf hw))

-- the words of the law
verdict-scoped : (S : Signature) (n : ℕ) (r : Result Verdict Stop) → IfOk r (Splits (IsScoped S n) (IsScopedDenial S)) → IfOk r (IsScopedVerdict S n)
verdict-scoped S n (Ok (Yes type)) h = h
verdict-scoped S n (Ok (No denial)) h = h
verdict-scoped S n (Err e) h = tt

pub infer-scoped : InferScoped
unfolding AskScopes
infer-scoped S room G t left scoped ctx ht =
    verdict-scoped S (length G) (infer_of S room G t left).0 (infer-scopes S scoped room G t left ctx ht)

pub infer_sort-scoped : InferSortScoped
unfolding AskScopes
infer_sort-scoped S room G t left scoped ctx ht =
    verdict-scoped S (length G) (infer_sort_of S room G t left).0 (infer_sort-scopes S scoped room G t left ctx ht)

pub check-scoped : CheckScoped
unfolding CheckingScopes
check-scoped S room G t wanted left scoped ctx ht hw =
    verdict-scoped S (length G) (check_of S room G t wanted left).0 (check-scopes S scoped room G t wanted left ctx ht hw)

pub product_of-scoped : (S : Signature) (room : ℕ) (G : Context) (c : Term) (left : ℕ) → IsScopedSignature S → IsScopedContext S G → IsScoped S (length G) c
    → IfOk (product_of S (infer_sort_of S room) G c left).0 (IsScopedVerdict S (length G))
product_of-scoped S room G c left scoped ctx hc =
    verdict-scoped S (length G) (product_of S (infer_sort_of S room) G c left).0
    (product_of-scopes S scoped (infer_sort_of S room) (infer_sort-scopes S scoped room) G c left ctx hc)
