-- The answers that are meant of a call, from those of the calls after it.
use Rattle.std.proofs.Common.{◌≡◌, ℕ, zero, suc, ◌+◌, ◌<◌, ◌≤◌, Bool, true, false, ◌∷◌, Ok, Err, refl, sym, ap, ◌∙◌, subst as transport, arith}
use Rattle.std.proofs.lemmas.Bool.Decides.{nat_tests}
use Rattle.theory.specs.Terms.{Term, height, subst as put}
use Rattle.theory.specs.Terms.Term.{Var, Pi, App}
use Rattle.theory.specs.Telescopes.{Context}
use Rattle.theory.specs.Signatures.{Signature}
use Rattle.core_terms.specs.Answers.{Spent, and_next, is_low}
use Rattle.core_terms.specs.Verdicts.{Verdict, NotAProduct}
use Rattle.core_terms.specs.Verdicts.Verdict.{Yes}
use Rattle.core_terms.specs.declared.stop.Stop.{Stop}
use Rattle.core_terms.specs.declared.stop.Stop.TheVariants.{Deep, Fuel}
use Rattle.core_terms.proofs.Placing.{bounded-high}
use Rattle.kernel_reduce.specs.Comparison.{subtype_of}
use Rattle.kernel_reduce.specs.Reduction.{answered, charge, if_low, whnf_of}
use Rattle.term_pool.specs.Nodes.{says}
use Rattle.term_pool.specs.declared.node.Node.{Node}
use Rattle.term_pool.specs.declared.node.Node.TheVariants as variant
use Rattle.kernel_check.specs.Checking.{Asks, Checks, typed as of_type, behind, compared, denied, function_type, greater_sort, if_typed, sort_of, reduced_product, product_of, apply_product, infer_application, infer_body, infer_form, infer_function, infer_local, infer_product, leaf_type, infer_of, infer_sort_of, check_of}
use Rattle.kernel_check.specs.Decided as decided
use Rattle.kernel_check.specs.Verdicts.{is_product}
use Rattle.kernel_check.proofs.TypedAnswers.{bounded-low, made-typed}

module _ (S : Signature) (ask : Asks) (G : Context) where
  -- the type of a function, which is a product
  pub product_of-product : (c : Term) (left : ℕ) → is_product c ≡ true → answered (Ok (Yes c)) left ≡ product_of S ask G c left
  product_of-product (Pi a b) left h = refl
  product_of-product (Var n) left h = absurd (grind (arith, h))
  product_of-product c left h = absurd (grind (arith, h))

  -- and which is none
  pub product_of-reduced : (c : Term) (left : ℕ) → is_product c ≡ false → product_of S ask G c left ≡ and_next (whnf_of S true left c) (reduced_product ask G)
  product_of-reduced (Pi a b) left h = absurd (grind (arith, h))
  product_of-reduced (Var n) left h = refl
  product_of-reduced c left h = refl

  pub product_of-refused : (c : Term) (left rest : ℕ) (e : Stop) → is_product c ≡ false → answered (Err e) rest ≡ whnf_of S true left c
      → answered (Err e) rest ≡ product_of S ask G c left
  product_of-refused c left rest e h k = ap (λ (s : Spent Term). and_next s (reduced_product ask G)) k ∙ sym (product_of-reduced c left h)

  pub product_of-then : (c u : Term) (left rest : ℕ) → is_product c ≡ false → answered (Ok u) rest ≡ whnf_of S true left c
      → reduced_product ask G u rest ≡ product_of S ask G c left
  product_of-then c u left rest h k = ap (λ (s : Spent Term). and_next s (reduced_product ask G)) k ∙ sym (product_of-reduced c left h)

module _ (ask : Asks) (G : Context) where
  -- the reduced type of a function
  pub reduced-other : (p : Term) (left : ℕ) → is_product p ≡ false → answered (denied G (NotAProduct p)) left ≡ reduced_product ask G p left
  reduced-other (Pi a b) left h = absurd (grind (arith, h))
  reduced-other (Var n) left h = refl
  reduced-other p left h = refl

  pub reduced-product : (p : Term) (left : ℕ) → is_product p ≡ true
      → if_typed (behind 0 (ask G p left)) (λ i end. answered (Ok (Yes p)) end) ≡ reduced_product ask G p left
  reduced-product (Pi a b) left h = refl
  reduced-product (Var n) left h = absurd (grind (arith, h))
  reduced-product p left h = absurd (grind (arith, h))

  pub reduced-yes : (p q i : Term) (left rest : ℕ) → is_product p ≡ true → q ≡ p → answered (Ok (Yes i)) rest ≡ behind 0 (ask G p left)
      → answered (Ok (Yes q)) rest ≡ reduced_product ask G p left
  reduced-yes p q i left rest h same e =
      ap (λ x. answered (Ok (Yes x)) rest) same ∙ ap (λ (s : Spent Verdict). if_typed s (λ i end. answered (Ok (Yes p)) end)) e ∙ reduced-product p left h

-- the body of a `let`
pub rest-then : (infer : Asks) (G K : Context) → K ≡ G → (meant made : Term) (left : ℕ) → made ≡ meant → height meant ≤ 2000
    → behind 2 (infer K made left) ≡ infer_body infer G meant left
rest-then infer G K same meant made left is low =
    rw (same, is) (sym (ap (λ r. and_next (answered r left) (λ body end. behind 2 (infer G body end))) (bounded-low meant low)))

pub rest-refused : (infer : Asks) (G : Context) (e : Stop) (made : Term) (left : ℕ) → (e ≡ Deep) × (2000 < height made) → answered (Err e) left ≡ infer_body infer G made left
rest-refused infer G e made left h =
    ap (λ s. answered (Err s) left) h.0 ∙ sym (ap (λ r. and_next (answered r left) (λ body end. behind 2 (infer G body end))) (bounded-high made h.1))

-- what has no product as its type is not applied
no-product : {I : Type 0} (tree : I → Term) (check : Checks) (G : Context) (u : Term) (node : Node I) (left : ℕ) → ((a b : I) → node ≡ variant.Pi a b → ⊥)
    → answered (denied G (NotAProduct (says tree node))) left ≡ apply_product check G u (says tree node) left
no-product tree check G u (variant.Pi a b) left other = absurd (other a b refl)
no-product tree check G u (variant.Var n) left other = refl
no-product tree check G u node left other = refl

pub apply-other : {I : Type 0} (tree : I → Term) (check : Checks) (G : Context) (u p : Term) (node : Node I) (left : ℕ) → p ≡ says tree node
    → ((a b : I) → node ≡ variant.Pi a b → ⊥) → answered (denied G (NotAProduct p)) left ≡ apply_product check G u p left
apply-other tree check G u p node left is other =
    transport (λ x. answered (denied G (NotAProduct x)) left ≡ apply_product check G u x left) (sym is) (no-product tree check G u node left other)

-- where no call more may be open
pub infer-none : (S : Signature) (room left : ℕ) (G : Context) (t : Term) → room ≡ 0 → answered (Err Deep) left ≡ infer_of S room G t left
infer-none S zero left G t is = refl
infer-none S (suc room) left G t is = absurd (omega (arith, is))

pub sort-none : (S : Signature) (room left : ℕ) (G : Context) (t : Term) → room ≡ 0 → answered (Err Deep) left ≡ infer_sort_of S room G t left
sort-none S zero left G t is = refl
sort-none S (suc room) left G t is = absurd (omega (arith, is))

pub check-none : (S : Signature) (room left : ℕ) (G : Context) (t w : Term) → room ≡ 0 → answered (Err Deep) left ≡ check_of S room G t w left
check-none S zero left G t w is = refl
check-none S (suc room) left G t w is = absurd (omega (arith, is))

-- where one call more may be open
pub sort-is : (S : Signature) (room under left : ℕ) (G : Context) (t : Term) → room ≡ under + 1
    → if_typed (infer_of S under G t left) (decided.reduced_sort S G) ≡ infer_sort_of S room G t left
sort-is S room under left G t is = let one : suc under ≡ room = omega (arith, is) in ap (λ k. infer_sort_of S k G t left) one

pub check-is : (S : Signature) (room under left : ℕ) (G : Context) (t w : Term) → room ≡ under + 1
    → if_typed (infer_of S under G t left) (decided.compare S under G w) ≡ check_of S room G t w left
check-is S room under left G t w is = let one : suc under ≡ room = omega (arith, is) in ap (λ k. check_of S k G t w left) one

-- a call that spends a unit goes on by the form of the term
pub infer-is : (S : Signature) (room under left rest : ℕ) (G : Context) (t : Term) → room ≡ under + 1 → left ≡ rest + 1 → height t ≤ 2000
    → infer_form S (infer_of S under) (infer_sort_of S under) (check_of S under) G t rest ≡ infer_of S room G t left
infer-is S room under left rest G t er el low =
    let test : is_low t ≡ true = grind (arith, nat_tests) in
    let room_is : suc under ≡ room = omega (arith, er) in
    let left_is : suc rest ≡ left = omega (arith, el) in
    sym (ap (λ x. if_low x (charge (infer_form S (infer_of S under) (infer_sort_of S under) (check_of S under) G t)) (suc rest)) test)
    ∙ ap (λ x. infer_of S (suc under) G t x) left_is ∙ ap (λ x. infer_of S x G t left) room_is

-- of an application
pub application-is : (S : Signature) (room left rest : ℕ) (G : Context) (f u c : Term) → height (App f u) ≤ 2000
    → answered (Ok (Yes c)) rest ≡ infer_application S (infer_of S room) (infer_sort_of S room) (check_of S room) G f u left
    → answered (Ok (Yes c)) rest ≡ infer_of S (room + 1) G (App f u) (left + 1)
application-is S room left rest G f u c low e = e ∙ infer-is S (room + 1) room (left + 1) left G (App f u) refl refl low

-- and needs one
pub infer-fuel : (S : Signature) (room under left : ℕ) (G : Context) (t : Term) → room ≡ under + 1 → left ≡ 0 → height t ≤ 2000
    → answered (Err Fuel) left ≡ infer_of S room G t left
infer-fuel S room under left G t er el low =
    let test : is_low t ≡ true = grind (arith, nat_tests) in
    let room_is : suc under ≡ room = omega (arith, er) in
    let left_is : zero ≡ left = omega (arith, el) in
    ap (λ x. answered (Err Fuel) x) (sym left_is)
    ∙ sym (ap (λ x. if_low x (charge (infer_form S (infer_of S under) (infer_sort_of S under) (check_of S under) G t)) zero) test)
    ∙ ap (λ x. infer_of S (suc under) G t x) left_is ∙ ap (λ x. infer_of S x G t left) room_is

-- a term of none of these forms has its type from the context or the signature
pub form-leaf : {I : Type 0} (tree : I → Term) (S : Signature) (infer ask : Asks) (check : Checks) (G : Context) (node : Node I) (left : ℕ)
    → ((a b : I) → node ≡ variant.Pi a b → ⊥) → ((a b : I) → node ≡ variant.Lam a b → ⊥) → ((f u : I) → node ≡ variant.App f u → ⊥)
    → ((a v b : I) → node ≡ variant.Let a v b → ⊥) → answered (leaf_type S G (says tree node)) left ≡ infer_form S infer ask check G (says tree node) left
form-leaf tree S infer ask check G (variant.Pi a b) left pi lam app local = absurd (pi a b refl)
form-leaf tree S infer ask check G (variant.Lam a b) left pi lam app local = absurd (lam a b refl)
form-leaf tree S infer ask check G (variant.App f u) left pi lam app local = absurd (app f u refl)
form-leaf tree S infer ask check G (variant.Let a v b) left pi lam app local = absurd (local a v b refl)
form-leaf tree S infer ask check G (variant.Var n) left pi lam app local = refl
form-leaf tree S infer ask check G (variant.Sort i) left pi lam app local = refl
form-leaf tree S infer ask check G node left pi lam app local = refl

-- ---- calls that go on with the type that was found, in a context and for terms that were the same before

module _ (G K : Context) (same : K ≡ G) where
  pub product-then : (ask : Asks) (a b c d i : Term) (left rest : ℕ) → c ≡ a → d ≡ b → answered (Ok (Yes i)) rest ≡ behind 0 (ask G a left)
      → if_typed (behind 1 (ask (c ∷ K) d rest)) (λ j end. answered (of_type (greater_sort i j)) end) ≡ infer_product ask G a b left
  product-then ask a b c d i left rest ec ed e =
      rw (same, ec, ed)
      (ap (λ (s : Spent Verdict). if_typed s (λ i rest. if_typed (behind 1 (ask (a ∷ G) b rest)) (λ j end. answered (of_type (greater_sort i j)) end))) e)

  pub function-then : (infer ask : Asks) (a b c d i : Term) (left rest : ℕ) → c ≡ a → d ≡ b → answered (Ok (Yes i)) rest ≡ behind 0 (ask G a left)
      → if_typed (behind 1 (infer (c ∷ K) d rest)) (λ t end. answered (function_type K c t) end) ≡ infer_function infer ask G a b left
  function-then infer ask a b c d i left rest ec ed e =
      rw (same, ec, ed) (ap (λ (s : Spent Verdict). if_typed s (λ i rest. if_typed (behind 1 (infer (a ∷ G) b rest)) (λ t end. answered (function_type G a t) end))) e)

  pub body-then : (infer : Asks) (a b c t : Term) (left rest : ℕ) → c ≡ a → answered (Ok (Yes t)) rest ≡ behind 1 (infer (a ∷ G) b left)
      → answered (function_type K c t) rest ≡ if_typed (behind 1 (infer (a ∷ G) b left)) (λ t end. answered (function_type G a t) end)
  body-then infer a b c t left rest ec e = rw (same, ec) (ap (λ (s : Spent Verdict). if_typed s (λ t end. answered (function_type G a t) end)) e)

  pub application-then : (S : Signature) (infer ask : Asks) (check : Checks) (f u v c : Term) (left rest : ℕ) → v ≡ u → answered (Ok (Yes c)) rest ≡ behind 0 (infer G f left)
      → if_typed (product_of S ask K c rest) (apply_product check K v) ≡ infer_application S infer ask check G f u left
  application-then S infer ask check f u v c left rest ev e =
      rw (same, ev) (ap (λ (s : Spent Verdict). if_typed s (λ c rest. if_typed (product_of S ask G c rest) (apply_product check G u))) e)

  pub applied-then : (S : Signature) (ask : Asks) (check : Checks) (u v c p : Term) (left rest : ℕ) → v ≡ u → answered (Ok (Yes p)) rest ≡ product_of S ask G c left
      → apply_product check K v p rest ≡ if_typed (product_of S ask G c left) (apply_product check G u)
  applied-then S ask check u v c p left rest ev e = rw (same, ev) (ap (λ (s : Spent Verdict). if_typed s (apply_product check G u)) e)

  pub local-then : (infer ask : Asks) (check : Checks) (a v b c w d i : Term) (left rest : ℕ) → c ≡ a → w ≡ v → d ≡ b → answered (Ok (Yes i)) rest ≡ behind 0 (ask G a left)
      → if_typed (behind 1 (check K w c rest)) (λ found end. infer_body infer K (put d 0 w) end) ≡ infer_local infer ask check G a v b left
  local-then infer ask check a v b c w d i left rest ec ew ed e =
      rw (same, ec, ew, ed) (ap (λ (s : Spent Verdict). if_typed s (λ i rest. if_typed (behind 1 (check G v a rest)) (λ found end. infer_body infer G (put b 0 v) end))) e)

  pub value-then : (infer : Asks) (check : Checks) (a v m made i : Term) (left rest : ℕ) → made ≡ m → answered (Ok (Yes i)) rest ≡ behind 1 (check G v a left)
      → infer_body infer K made rest ≡ if_typed (behind 1 (check G v a left)) (λ found end. infer_body infer G m end)
  value-then infer check a v m made i left rest em e = rw (same, em) (ap (λ (s : Spent Verdict). if_typed s (λ found end. infer_body infer G m end)) e)

  pub sort-then : (S : Signature) (under : ℕ) (t c : Term) (left rest : ℕ) → answered (Ok (Yes c)) rest ≡ infer_of S under G t left
      → and_next (whnf_of S true rest c) (λ u end. answered (sort_of K u) end)
      ≡ if_typed (infer_of S under G t left) (λ c rest. and_next (whnf_of S true rest c) (λ u end. answered (sort_of G u) end))
  sort-then S under t c left rest e =
      rw same (ap (λ (s : Spent Verdict). if_typed s (λ c rest. and_next (whnf_of S true rest c) (λ u end. answered (sort_of G u) end))) e)

  pub check-then : (S : Signature) (under : ℕ) (t c w x : Term) (left rest : ℕ) → x ≡ w → answered (Ok (Yes c)) rest ≡ infer_of S under G t left
      → and_next (subtype_of S under c x rest) (λ holds end. answered (compared K c x holds) end)
      ≡ if_typed (infer_of S under G t left) (λ c rest. and_next (subtype_of S under c w rest) (λ holds end. answered (compared G c w holds) end))
  check-then S under t c w x left rest ex e =
      rw (same, ex) (ap (λ (s : Spent Verdict). if_typed s (λ c rest. and_next (subtype_of S under c w rest) (λ holds end. answered (compared G c w holds) end))) e)

-- the argument of a function
pub at-then : (check : Checks) (G : Context) (u a b t made : Term) (left rest : ℕ) → made ≡ put b 0 u → answered (Ok (Yes t)) rest ≡ behind 1 (check G u a left)
    → answered (of_type made) rest ≡ apply_product check G u (Pi a b) left
at-then check G u a b t made left rest em e = rw em (ap (λ (s : Spent Verdict). if_typed s (λ found end. answered (of_type (put b 0 u)) end)) e)

-- where the type of the function was put together from another store
pub argument-same : (check : Checks) (G K : Context) → K ≡ G → (u v a d b x : Term) (left : ℕ) → v ≡ u → d ≡ a → x ≡ b
    → if_typed (behind 1 (check K v d left)) (decided.instance_type x v) ≡ apply_product check G u (Pi a b) left
argument-same check G K same u v a d b x left ev ed ex = rw (same, ev, ed, ex) refl

pub typed-same : (S : Signature) (ask : Asks) (check : Checks) (G K : Context) → K ≡ G → (u v c d : Term) (left : ℕ) → v ≡ u → d ≡ c
    → decided.apply_typed S ask check K v d left ≡ decided.apply_typed S ask check G u c left
typed-same S ask check G K same u v c d left ev ed = rw (same, ev, ed) refl

-- the sort of a codomain
pub codomain-then : (first : Spent Verdict) (i j k r : Term) (rest : ℕ) → answered (Ok (Yes j)) rest ≡ first → r ≡ greater_sort k j → k ≡ i → height r ≤ 2000
    → answered (Ok (Yes r)) rest ≡ if_typed first (λ j end. answered (of_type (greater_sort i j)) end)
codomain-then first i j k r rest e is same low =
    let meant : r ≡ greater_sort i j = is ∙ ap (λ x. greater_sort x j) same in
    ap (λ x. answered x rest) (made-typed r (greater_sort i j) meant (transport (λ x. height x ≤ 2000) meant low))
    ∙ ap (λ (s : Spent Verdict). if_typed s (λ j end. answered (of_type (greater_sort i j)) end)) e

-- ---- the head form of a type, and its comparison with another one

pub reduced-then : (S : Signature) (G K : Context) → K ≡ G → (c u : Term) (left rest : ℕ) → answered (Ok u) rest ≡ whnf_of S true left c
    → answered (sort_of K u) rest ≡ and_next (whnf_of S true left c) (λ u end. answered (sort_of G u) end)
reduced-then S G K same c u left rest e = rw same (ap (λ (s : Spent Term). and_next s (λ u end. answered (sort_of G u) end)) e)

pub compared-then : (S : Signature) (G K : Context) → K ≡ G → (room : ℕ) (a b c d : Term) (holds : Bool) (left rest : ℕ) → c ≡ a → d ≡ b
    → answered (Ok holds) rest ≡ subtype_of S room a b left
    → answered (compared K c d holds) rest ≡ and_next (subtype_of S room a b left) (λ holds end. answered (compared G a b holds) end)
compared-then S G K same room a b c d holds left rest ec ed e =
    rw (same, ec, ed) (ap (λ (s : Spent Bool). and_next s (λ holds end. answered (compared G a b holds) end)) e)
