-- The checker is sound: a Yes gives a derivation.
use Rattle.std.proofs.Common.{◌≡◌, ℕ, ◌+◌, ◌<◌, ◌≤◌, zero, suc, Bool, true, false, cond, ◌==◌, nat_lt, max, Option, Some, None, IfSome, Ok, Err, Result, IfOk, IsTrue, ◌∷◌, slice_get, refl, sym, subst as transport, arith}
use Rattle.std.proofs.lemmas.Bool.Decides.{nat_tests}
use Rattle.theory.specs.Terms.{Term, SortsBelow, lift, subst, top}
use Rattle.theory.specs.Terms.Term.{Var, Sort, Pi, Lam, App, Let, Const}
use Rattle.theory.specs.Telescopes.{Context}
use Rattle.theory.specs.Signatures.{Signature, TypeOf}
use Rattle.theory.specs.Conversion.{Converts, Below}
use Rattle.theory.specs.Conversion.Below.{converts}
use Rattle.theory.specs.Typing.{IsContext, Has, HasSort, IsType}
use Rattle.theory.specs.Typing.IsContext.{bind}
use Rattle.theory.specs.Typing.Has.{sort, product, function, symbol, below, below_sort}
use Rattle.theory.specs.Typing.IsType.{is_sort, has_sort}
use Rattle.theory.specs.WellFormed.{IsTyped}
use Rattle.theory.proofs.Generation.{parts}
use Rattle.theory.proofs.Validity.{product_sort, valid}
use Rattle.theory.proofs.Rules.{variable-lift, lift-sort, application-subst, local-subst}
use Rattle.theory.proofs.TermSorts.{sorts_of_term, sorts_of_symbol_type}
use Rattle.theory.proofs.SortLevels.{sorts_raised, sorts_of_subst}
use Rattle.core_terms.specs.Answers.{Spent, bounded, and_next, is_low}
use Rattle.core_terms.specs.Verdicts.{Denial, Verdict}
use Rattle.core_terms.specs.Verdicts.Verdict.{Yes, No}
use Rattle.core_terms.specs.Verdicts.Reason.{LevelTooHigh}
use Rattle.core_terms.specs.declared.stop.Stop.{Stop}
use Rattle.kernel_reduce.specs.Laws.{IsHeadForm}
use Rattle.kernel_reduce.specs.Reduction.{answered, whnf_of}
use Rattle.kernel_reduce.specs.Comparison.{subtype_of}
use Rattle.core_terms.proofs.Answers.{Answers, and_next-has, bounded-has}
use Rattle.kernel_reduce.proofs.Answers.{charge-has, if_low-has}
use Rattle.kernel_reduce.proofs.ReductionLaws.{whnf-is_head_form}
use Rattle.kernel_reduce.proofs.ComparisonLaws.{subtype-is_below}
use Rattle.kernel_check.specs.Symbols.{symbol_type}
use Rattle.kernel_check.specs.Checking.{Asks, Checks, typed as of_type, denied, if_typed, behind, variable_type, universe_type, greater_sort, infer_product, is_top, function_type, infer_function, reduced_product, product_of, apply_product, infer_application, infer_body, infer_local, given_type, leaf_type, infer_form, sort_of, compared, infer_of, infer_sort_of, check_of}
use Rattle.kernel_check.specs.Laws.{IfYes, HasType, HasUniverse, HasWanted, InferIsSound, InferSortIsSound, CheckIsSound}
use Rattle.kernel_check.proofs.Sorts.{whnf-sorts}
use Rattle.kernel_check.proofs.SymbolTypes.{symbol-type_of}
use Rattle.kernel_check.proofs.Parts.{Splits, typed-splits, if_typed-splits, behind-splits, child-splits}

NoClaim : Denial → Type 0
NoClaim denial = Unit {0}

-- a Yes comes with a type that is P
abbrev Says : (Term → Type 0) → Spent Verdict → Type 0
Says P r = Answers (Splits P NoClaim) r

child-says : (P Q : Term → Type 0) (child : ℕ) (asked : Spent Verdict) (next : Term → ℕ → Spent Verdict) → Says P asked
    → ((type : Term) (rest : ℕ) → P type → Says Q (next type rest)) → Says Q (if_typed (behind child asked) next)
unfolding NoClaim
child-says P Q child asked next h k = child-splits P Q NoClaim NoClaim child asked next (λ denial n. tt) h k

weaker : {P Q : Term → Type 0} → ((type : Term) → P type → Q type) → (r : Spent Verdict) → Says P r → Says Q r
weaker {P} {Q} f r h = by_case r.0 h
  where
    by_case : (x : Result Verdict Stop) → IfOk x (Splits P NoClaim) → IfOk x (Splits Q NoClaim)
    by_case (Ok (Yes type)) k = f type k
    by_case (Ok (No denial)) k = k
    by_case (Err e) k = tt

abbrev AskIsSound : Signature → Asks → Type 0
AskIsSound S ask = (G : Context) (t : Term) (left : ℕ) → IsContext S G → Says (HasType S G t) (ask G t left)

abbrev SortIsSound : Signature → Asks → Type 0
SortIsSound S ask = (G : Context) (t : Term) (left : ℕ) → IsContext S G → Says (HasUniverse S G t) (ask G t left)

abbrev CheckingIsSound : Signature → Checks → Type 0
CheckingIsSound S check =
    (G : Context) (t wanted : Term) (left : ℕ) → IsContext S G → IsType S G wanted → Says (HasWanted S G t wanted) (check G t wanted left)

has_type : {S : Signature} {G : Context} {t a : Term} → IsTyped S → Has S G t a → SortsBelow (top + 1) a → HasType S G t a
has_type typed d levels = record { derivation = d; is_type = valid typed d; levels = levels }

levels-of : {S : Signature} {G : Context} {t a : Term} → Has S G t a → SortsBelow (top + 1) t
levels-of {t = t} d = sorts_raised t top (top + 1) (omega arith) (sorts_of_term d)

variable-sound : (S : Signature) → IsTyped S → (G : Context) (n : ℕ) (o : Option Term) → slice_get G n ≡ o → IsContext S G
    → IfOk (variable_type G n o) (Splits (HasType S G (Var n)) NoClaim)
unfolding NoClaim
variable-sound S typed G n (Some a) e ctx =
    typed-splits (HasType S G (Var n)) NoClaim (lift a (n + 1) 0)
    (has_type typed (variable-lift n ctx e) (levels-of (lift-sort typed n a ctx e).1))
variable-sound S typed G n None e ctx = tt

universe-sound : (S : Signature) → IsTyped S → (G : Context) (i : ℕ) → IsContext S G → IfOk (universe_type G i) (Splits (HasType S G (Sort i)) NoClaim)
unfolding NoClaim
universe-sound S typed G i ctx = by_case (nat_lt i top) refl
  where
    by_case : (b : Bool) → nat_lt i top ≡ b → IfOk (cond b (of_type (Sort (i + 1))) (denied G LevelTooHigh)) (Splits (HasType S G (Sort i)) NoClaim)
    by_case true e =
        let low : i < top = grind (arith, nat_tests) in
        typed-splits (HasType S G (Sort i)) NoClaim (Sort (i + 1)) (has_type typed (sort i ctx low) (omega arith))
    by_case false e = tt

-- the sort of a product, from those of its parts
product-type : {S : Signature} {G : Context} {a b i j : Term} → IsTyped S → HasUniverse S G a i → HasUniverse S (a ∷ G) b j
    → HasType S G (Pi a b) (greater_sort i j)
product-type {S} {G} {a} {b} {i} {j} typed h k =
    transport (λ s. HasType S G (Pi a b) (greater_sort s j)) (sym h.is_sort)
    (transport (λ s. HasType S G (Pi a b) (greater_sort (Sort h.level) s)) (sym k.is_sort)
    (has_type typed (product h.level k.level h.derivation k.derivation) (greater h.level k.level h.limit k.limit)))
  where
    greater : (m n : ℕ) → m ≤ top → n ≤ top → max m n < top + 1
    greater m n p q = omega arith

product-sound : (S : Signature) → IsTyped S → (infer_sort : Asks) → SortIsSound S infer_sort → (G : Context) (a b : Term) (left : ℕ) → IsContext S G
    → Says (HasType S G (Pi a b)) (infer_product infer_sort G a b left)
product-sound S typed infer_sort h G a b left ctx =
    child-says (HasUniverse S G a) (HasType S G (Pi a b)) 0 (infer_sort G a left) _ (h G a left ctx) (λ i rest hi.
    child-says (HasUniverse S (a ∷ G) b) (HasType S G (Pi a b)) 1 (infer_sort (a ∷ G) b rest) _
    (h (a ∷ G) b rest (bind hi.level ctx hi.derivation)) (λ j end hj.
    typed-splits (HasType S G (Pi a b)) NoClaim (greater_sort i j) (product-type typed hi hj)))

-- a type that is not Type top, and has no sort above top, has a sort
codomain-sort : {S : Signature} {G : Context} {a : Term} → IsContext S G → IsType S G a → SortsBelow (top + 1) a → is_top a ≡ false → HasSort S G a
codomain-sort ctx (is_sort i) levels e =
    let low : i < top = below_top i levels e in
    (i + 1, sort i ctx low)
  where
    below_top : (n : ℕ) → n < top + 1 → (n == top) ≡ false → n < top
    below_top n p q = grind (arith, nat_tests)
codomain-sort ctx (has_sort i d) levels e = (i, d)

function_type-sound : (S : Signature) → IsTyped S → (G : Context) (a b c : Term) (i : ℕ) → IsContext S G → Has S G a (Sort i) → HasType S (a ∷ G) b c
    → IfOk (function_type G a c) (Splits (HasType S G (Lam a b)) NoClaim)
unfolding NoClaim
function_type-sound S typed G a b c i ctx ha hb = by_case (is_top c) refl
  where
    by_case : (t : Bool) → is_top c ≡ t → IfOk (cond t (denied G LevelTooHigh) (of_type (Pi a c))) (Splits (HasType S G (Lam a b)) NoClaim)
    by_case true e = tt
    by_case false e =
        let s = codomain-sort (bind i ctx ha) hb.is_type hb.levels e in
        typed-splits (HasType S G (Lam a b)) NoClaim (Pi a c)
        (has_type typed (function i s.0 ha hb.derivation s.1) (levels-of ha, hb.levels))

function-sound : (S : Signature) → IsTyped S → (infer infer_sort : Asks) → AskIsSound S infer → SortIsSound S infer_sort
    → (G : Context) (a b : Term) (left : ℕ) → IsContext S G → Says (HasType S G (Lam a b)) (infer_function infer infer_sort G a b left)
function-sound S typed infer infer_sort h k G a b left ctx =
    child-says (HasUniverse S G a) (HasType S G (Lam a b)) 0 (infer_sort G a left) _ (k G a left ctx) (λ i rest hi.
    child-says (HasType S (a ∷ G) b) (HasType S G (Lam a b)) 1 (infer (a ∷ G) b rest) _
    (h (a ∷ G) b rest (bind hi.level ctx hi.derivation)) (λ c end hc.
    function_type-sound S typed G a b c hi.level ctx hi.derivation hc))

-- f has the product, no sort of which is above top
record HasProduct (S : Signature) (G : Context) (f c : Term) : Type 0 where
  derivation : Has S G f c
  levels : SortsBelow (top + 1) c

reduced-sound : (S : Signature) → IsTyped S → (infer_sort : Asks) → SortIsSound S infer_sort → (G : Context) (f c d : Term) (left : ℕ) → IsContext S G
    → Has S G f c → Converts S c d → Says (HasProduct S G f) (reduced_product infer_sort G d left)
unfolding NoClaim
reduced-sound S typed infer_sort h G f c (Pi a b) left ctx hf hc =
    child-says (HasUniverse S G (Pi a b)) (HasProduct S G f) 0 (infer_sort G (Pi a b) left) _ (h G (Pi a b) left ctx) (λ i end hi.
    record { derivation = below hi.level hf (converts hc) hi.derivation; levels = levels-of hi.derivation })
reduced-sound S typed infer_sort h G f c (Var n) left ctx hf hc = tt
reduced-sound S typed infer_sort h G f c _ left ctx hf hc = tt

head-sound : (S : Signature) → IsTyped S → (infer_sort : Asks) → SortIsSound S infer_sort → (G : Context) (f c : Term) (left : ℕ) → IsContext S G
    → Has S G f c → Says (HasProduct S G f) (and_next (whnf_of S true left c) (reduced_product infer_sort G))
head-sound S typed infer_sort h G f c left ctx hf =
    and_next-has (IsHeadForm S true c) (Splits (HasProduct S G f) NoClaim) (whnf_of S true left c) (reduced_product infer_sort G)
    (whnf-is_head_form S true left c) (λ d rest hd. reduced-sound S typed infer_sort h G f c d rest ctx hf hd.converts)

product_of-sound : (S : Signature) → IsTyped S → (infer_sort : Asks) → SortIsSound S infer_sort → (G : Context) (f c : Term) (left : ℕ) → IsContext S G
    → HasType S G f c → Says (HasProduct S G f) (product_of S infer_sort G c left)
product_of-sound S typed infer_sort h G f (Pi a b) left ctx hf = record { derivation = hf.derivation; levels = hf.levels }
product_of-sound S typed infer_sort h G f (Var n) left ctx hf = head-sound S typed infer_sort h G f (Var n) left ctx hf.derivation
product_of-sound S typed infer_sort h G f c left ctx hf = head-sound S typed infer_sort h G f c left ctx hf.derivation

-- the domain of a product that has a sort
domain-type : {S : Signature} {G : Context} {a b : Term} → IsType S G (Pi a b) → IsType S G a
domain-type h =
    let p = parts (product_sort h).1 in
    has_sort p.domain_level p.domain

apply-sound : (S : Signature) → IsTyped S → (check : Checks) → CheckingIsSound S check → (G : Context) (f u c : Term) (left : ℕ) → IsContext S G
    → HasProduct S G f c → Says (HasType S G (App f u)) (apply_product check G u c left)
unfolding NoClaim
apply-sound S typed check h G f u (Pi a b) left ctx hf =
    child-says (HasWanted S G u a) (HasType S G (App f u)) 1 (check G u a left) _
    (h G u a left ctx (domain-type (valid typed hf.derivation))) (λ found end hu.
    typed-splits (HasType S G (App f u)) NoClaim (subst b 0 u)
    (has_type typed (application-subst hf.derivation hu.derivation) (sorts_of_subst b 0 u (top + 1) hf.levels.1 (levels-of hu.derivation))))
apply-sound S typed check h G f u (Var n) left ctx hf = tt
apply-sound S typed check h G f u _ left ctx hf = tt

application-sound : (S : Signature) → IsTyped S → (infer infer_sort : Asks) (check : Checks) → AskIsSound S infer → SortIsSound S infer_sort → CheckingIsSound S check
    → (G : Context) (f u : Term) (left : ℕ) → IsContext S G → Says (HasType S G (App f u)) (infer_application S infer infer_sort check G f u left)
application-sound S typed infer infer_sort check h k l G f u left ctx =
    child-says (HasType S G f) (HasType S G (App f u)) 0 (infer G f left) _ (h G f left ctx) (λ c rest hc.
    if_typed-splits (HasProduct S G f) (HasType S G (App f u)) NoClaim (product_of S infer_sort G c rest) (apply_product check G u)
    (product_of-sound S typed infer_sort k G f c rest ctx hc) (λ d end hd. apply-sound S typed check l G f u d end ctx hd))

body-sound : (S : Signature) → (infer : Asks) → AskIsSound S infer → (G : Context) (made : Term) (left : ℕ) → IsContext S G
    → Says (HasType S G made) (infer_body infer G made left)
unfolding NoClaim
body-sound S infer h G made left ctx =
    and_next-has (λ body. body ≡ made) (Splits (HasType S G made) NoClaim) (answered (bounded made) left) _
    (bounded-has (λ body. body ≡ made) made (λ low. refl)) (λ body end e.
    behind-splits (HasType S G made) NoClaim NoClaim 2 (infer G body end) (λ denial n. tt)
    (transport (λ t. Says (HasType S G t) (infer G body end)) e (h G body end ctx)))

local-sound : (S : Signature) → IsTyped S → (infer infer_sort : Asks) (check : Checks) → AskIsSound S infer → SortIsSound S infer_sort → CheckingIsSound S check
    → (G : Context) (a t b : Term) (left : ℕ) → IsContext S G → Says (HasType S G (Let a t b)) (infer_local infer infer_sort check G a t b left)
local-sound S typed infer infer_sort check h k l G a t b left ctx =
    child-says (HasUniverse S G a) (HasType S G (Let a t b)) 0 (infer_sort G a left) _ (k G a left ctx) (λ i rest hi.
    child-says (HasWanted S G t a) (HasType S G (Let a t b)) 1 (check G t a rest) _
    (l G t a rest ctx (has_sort hi.level hi.derivation)) (λ found end ht.
    weaker (λ c hc. record { derivation = local-subst hi.level hi.derivation ht.derivation hc.derivation; is_type = hc.is_type; levels = hc.levels })
    (infer_body infer G (subst b 0 t) end) (body-sound S infer h G (subst b 0 t) end ctx)))

symbol-sound : (S : Signature) → IsTyped S → (G : Context) (s : Term) (o : Option Term) → IfSome o (TypeOf S s) → IsContext S G
    → IfOk (given_type G o) (Splits (HasType S G s) NoClaim)
unfolding NoClaim
symbol-sound S typed G s (Some a) h ctx =
    typed-splits (HasType S G s) NoClaim a
    (has_type typed (symbol ctx h) (sorts_raised a top (top + 1) (omega arith) (sorts_of_symbol_type S typed s a h)))
symbol-sound S typed G s None h ctx = tt

leaf-sound : (S : Signature) → IsTyped S → (G : Context) (t : Term) → IsContext S G → IfOk (leaf_type S G t) (Splits (HasType S G t) NoClaim)
leaf-sound S typed G (Var n) ctx = variable-sound S typed G n (slice_get G n) refl ctx
leaf-sound S typed G (Sort i) ctx = universe-sound S typed G i ctx
leaf-sound S typed G (Const n) ctx = symbol-sound S typed G (Const n) (symbol_type S (Const n)) (symbol-type_of S (Const n)) ctx
leaf-sound S typed G s ctx = symbol-sound S typed G s (symbol_type S s) (symbol-type_of S s) ctx

form-sound : (S : Signature) → IsTyped S → (infer infer_sort : Asks) (check : Checks) → AskIsSound S infer → SortIsSound S infer_sort → CheckingIsSound S check
    → AskIsSound S (infer_form S infer infer_sort check)
form-sound S typed infer infer_sort check h k l G (Pi a b) left ctx = product-sound S typed infer_sort k G a b left ctx
form-sound S typed infer infer_sort check h k l G (Lam a b) left ctx = function-sound S typed infer infer_sort h k G a b left ctx
form-sound S typed infer infer_sort check h k l G (App f u) left ctx = application-sound S typed infer infer_sort check h k l G f u left ctx
form-sound S typed infer infer_sort check h k l G (Let a t b) left ctx = local-sound S typed infer infer_sort check h k l G a t b left ctx
form-sound S typed infer infer_sort check h k l G (Var n) left ctx = leaf-sound S typed G (Var n) ctx
form-sound S typed infer infer_sort check h k l G t left ctx = leaf-sound S typed G t ctx

sort_of-sound : (S : Signature) (G : Context) (t c d : Term) → Has S G t c → Converts S c d → SortsBelow (top + 1) d
    → IfOk (sort_of G d) (Splits (HasUniverse S G t) NoClaim)
unfolding NoClaim
sort_of-sound S G t c (Sort i) ht hc levels = record { level = i; is_sort = refl; limit = omega arith; derivation = below_sort i ht (converts hc) }
sort_of-sound S G t c (Var n) ht hc levels = tt
sort_of-sound S G t c _ ht hc levels = tt

-- the head form of a type, with its sorts
head-levels : (S : Signature) → IsTyped S → (c : Term) (left : ℕ) → SortsBelow (top + 1) c
    → Answers (λ d. Converts S c d × SortsBelow (top + 1) d) (whnf_of S true left c)
head-levels S typed c left levels =
    join (whnf_of S true left c).0 (whnf-is_head_form S true left c) (whnf-sorts S (top + 1) left c typed (omega arith) levels)
  where
    join : (r : Result Term Stop) → IfOk r (IsHeadForm S true c) → IfOk r (SortsBelow (top + 1)) → IfOk r (λ d. Converts S c d × SortsBelow (top + 1) d)
    join (Ok d) h k = (h.converts, k)
    join (Err e) h k = tt

compared-sound : (S : Signature) → IsTyped S → (G : Context) (t found wanted : Term) (holds : Bool) → HasType S G t found → IsType S G wanted
    → (IsTrue holds → Below S found wanted) → IfOk (compared G found wanted holds) (Splits (HasWanted S G t wanted) NoClaim)
unfolding NoClaim
compared-sound S typed G t found wanted true ht hw h = record { derivation = at_wanted hw (h refl); found_type = ht }
  where
    at_wanted : {w : Term} → IsType S G w → Below S found w → Has S G t w
    at_wanted (is_sort i) b = below_sort i ht.derivation b
    at_wanted (has_sort i d) b = below i ht.derivation b d
compared-sound S typed G t found wanted false ht hw h = tt

mutual
  infer-says : (S : Signature) → IsTyped S → (room : ℕ) → AskIsSound S (infer_of S room)
  infer-says S typed zero G t left ctx = tt
  infer-says S typed (suc room) G t left ctx =
      if_low-has (Splits (HasType S G t) NoClaim) (is_low t) _ left (λ low.
      charge-has (Splits (HasType S G t) NoClaim) _ left (λ rest.
      form-sound S typed (infer_of S room) (infer_sort_of S room) (check_of S room)
      (infer-says S typed room) (infer_sort-says S typed room) (check-says S typed room) G t rest ctx))

  infer_sort-says : (S : Signature) → IsTyped S → (room : ℕ) → SortIsSound S (infer_sort_of S room)
  infer_sort-says S typed zero G t left ctx = tt
  infer_sort-says S typed (suc room) G t left ctx =
      if_typed-splits (HasType S G t) (HasUniverse S G t) NoClaim (infer_of S room G t left) _ (infer-says S typed room G t left ctx) (λ c rest hc.
      and_next-has (λ d. Converts S c d × SortsBelow (top + 1) d) (Splits (HasUniverse S G t) NoClaim) (whnf_of S true rest c) _
      (head-levels S typed c rest hc.levels) (λ d end hd. sort_of-sound S G t c d hc.derivation hd.0 hd.1))

  check-says : (S : Signature) → IsTyped S → (room : ℕ) → CheckingIsSound S (check_of S room)
  check-says S typed zero G t wanted left ctx hw = tt
  check-says S typed (suc room) G t wanted left ctx hw =
      if_typed-splits (HasType S G t) (HasWanted S G t wanted) NoClaim (infer_of S room G t left) _ (infer-says S typed room G t left ctx) (λ found rest hf.
      and_next-has (λ holds. IsTrue holds → Below S found wanted) (Splits (HasWanted S G t wanted) NoClaim)
      (subtype_of S room found wanted rest) _ (subtype-is_below S room found wanted rest) (λ holds end hb.
      compared-sound S typed G t found wanted holds hf hw hb))

-- a property of a Yes, in the words of the law
yes-of : (P : Term → Type 0) (r : Result Verdict Stop) → IfOk r (Splits P NoClaim) → IfOk r (λ verdict. IfYes verdict P)
yes-of P (Ok (Yes type)) h = h
yes-of P (Ok (No denial)) h = tt
yes-of P (Err e) h = tt

pub infer-is_sound : InferIsSound
infer-is_sound S typed room G t left ctx = yes-of (HasType S G t) (infer_of S room G t left).0 (infer-says S typed room G t left ctx)

pub infer_sort-is_sound : InferSortIsSound
infer_sort-is_sound S typed room G t left ctx =
    yes-of (HasUniverse S G t) (infer_sort_of S room G t left).0 (infer_sort-says S typed room G t left ctx)

pub check-is_sound : CheckIsSound
check-is_sound S typed room G t wanted left ctx hw =
    yes-of (HasWanted S G t wanted) (check_of S room G t wanted left).0 (check-says S typed room G t wanted left ctx hw)
