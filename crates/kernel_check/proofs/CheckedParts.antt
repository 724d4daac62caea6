-- Each part of a term that the checker forms for a part is one that it forms for the whole.
use Rattle.std.proofs.Common.{◌≡◌, inl, inr, ℕ, zero, suc, true, Ok, Err, Result, IfOk, [], ◌∷◌, refl, sym, ◌∙◌, subst as transport, arith}
use Rattle.theory.specs.Terms.{Term, subst as put}
use Rattle.theory.specs.Terms.Term.{Var, Sort, Pi, Lam, App, Let, Const}
use Rattle.theory.specs.Telescopes.{Context}
use Rattle.theory.specs.Signatures.{Signature}
use Rattle.core_terms.specs.Verdicts.{Verdict}
use Rattle.core_terms.specs.Verdicts.Verdict.{Yes, No}
use Rattle.core_terms.specs.declared.stop.Stop.{Stop}
use Rattle.core_terms.proofs.Answers.{Answers, and_next-has}
use Rattle.kernel_reduce.specs.Reduction.{answered, whnf_of}
use Rattle.term_pool.specs.Parts.{IsPart}
use Rattle.store_reduce.specs.Formed.{IsPartOnTheWay, IsFormed, IsFormedPart}
use Rattle.store_reduce.specs.Formed.IsFormed.{given, step, child}
use Rattle.store_reduce.proofs.FormedParts.{first-formed, reached-formed}
use Rattle.store_reduce.proofs.PlaceLaws.{ok-ends}
use Rattle.store_reduce.proofs.Wholes.{whole_is}
use Rattle.kernel_check.specs.Checking.{Asks, reduced_product, product_of, infer_of}
use Rattle.kernel_check.specs.Applications.{IsAppliedPart}
use Rattle.kernel_check.specs.Asked.{Finds, IsCheckedPart, IsCheckedAgainst, IsProductPart, IsArgumentPart, IsLeafPart}
use Rattle.kernel_check.specs.Asked as way
use Rattle.kernel_check.proofs.Asking.{part-inside, formed-of}
use Rattle.kernel_check.proofs.Parts.{Splits, child-splits}

-- ---- what is formed of the type of a function

-- a type that is found
pub finds-by : (S : Signature) (room : ℕ) (G : Context) (t c : Term) (left rest : ℕ) → answered (Ok (Yes c)) rest ≡ infer_of S room G t left → Finds S G t c
finds-by S room G t c left rest e = record { room = room; left = left; rest = rest; found = sym e }

-- the head form of a term is formed
whnf-formed : (S : Signature) (c : Term) (left : ℕ) → IfOk (whnf_of S true left c).0 (IsFormed S true (c ∷ []))
whnf-formed S c left = by_case (whnf_of S true left c).0 (whnf_of S true left c).1 refl
  where
    by_case : (r : Result Term Stop) (rest : ℕ) → answered r rest ≡ whnf_of S true left c → IfOk r (IsFormed S true (c ∷ []))
    by_case (Ok u) rest e =
        reached-formed S true (c ∷ []) c u (first-formed S true c []) (ok-ends S true 0 left rest c u (e ∙ whole_is S true left c)).reached
    by_case (Err e) rest is = tt

-- the head form that is answered
pub head-formed : (S : Signature) (c u : Term) (left rest : ℕ) → answered (Ok u) rest ≡ whnf_of S true left c → IsFormed S true (c ∷ []) u
head-formed S c u left rest e = transport (λ r. Answers (IsFormed S true (c ∷ [])) r) (sym e) (whnf-formed S c left)

-- a part on the way to it
pub way-formed : (S : Signature) (c x : Term) → IsPartOnTheWay S true c x → IsFormedPart S true (c ∷ []) x
way-formed S c x w =
    record { whole = w.whole; formed = reached-formed S true (c ∷ []) c w.whole (first-formed S true c []) w.reached; part = w.part }

module _ (S : Signature) (c : Term) where
  abbrev IsOfType : Verdict → Type 0
  IsOfType = Splits (IsFormed S true (c ∷ [])) (λ denial. Unit {0})

  any-verdict : (r : Result Verdict Stop) → IfOk r (Splits (λ t. Unit {0}) (λ denial. Unit {0}))
  any-verdict (Ok (Yes t)) = tt
  any-verdict (Ok (No denial)) = tt
  any-verdict (Err e) = tt

  reduced-formed : (ask : Asks) (G : Context) (p : Term) (left : ℕ) → IsFormed S true (c ∷ []) p → Answers IsOfType (reduced_product ask G p left)
  reduced-formed ask G (Pi a b) left h =
      child-splits (λ t. Unit {0}) (IsFormed S true (c ∷ [])) (λ denial. Unit {0}) (λ denial. Unit {0}) 0 (ask G (Pi a b) left) _ (λ denial d. tt)
      (any-verdict (ask G (Pi a b) left).0) (λ i end any. h)
  reduced-formed ask G (Var n) left h = tt
  reduced-formed ask G p left h = tt

product_of-formed : (S : Signature) (ask : Asks) (G : Context) (c : Term) (left : ℕ) → Answers (IsOfType S c) (product_of S ask G c left)
product_of-formed S ask G (Pi a b) left = first-formed S true (Pi a b) []
product_of-formed S ask G (Var n) left =
    and_next-has (IsFormed S true (Var n ∷ [])) (IsOfType S (Var n)) (whnf_of S true left (Var n)) _ (whnf-formed S (Var n) left) (λ u rest h. reduced-formed S (Var n) ask G u rest h)
product_of-formed S ask G c left =
    and_next-has (IsFormed S true (c ∷ [])) (IsOfType S c) (whnf_of S true left c) _ (whnf-formed S c left) (λ u rest h. reduced-formed S c ask G u rest h)

-- the product that is answered is formed of the type
pub product-formed : (S : Signature) (ask : Asks) (G : Context) (c p : Term) (left rest : ℕ) → answered (Ok (Yes p)) rest ≡ product_of S ask G c left → IsFormed S true (c ∷ []) p
product-formed S ask G c p left rest e = transport (λ r. Answers (IsOfType S c) r) (sym e) (product_of-formed S ask G c left)

-- ---- parts

module _ {S : Signature} {G : Context} where
  -- a term that is formed of a type
  pub found-part : {t c : Term} → Finds S G t c → (x : Term) → IsFormedPart S true (c ∷ []) x → IsCheckedPart S G t x
  found-part found x p = record { whole = p.whole; formed = way.reduced way.itself found p.formed; part = p.part }

  -- of a type that is found
  pub type-part : {t c : Term} → Finds S G t c → (x : Term) → IsPart x c → IsCheckedPart S G t x
  type-part {t} {c} found x h = found-part found x (record { whole = c; formed = first-formed S true c []; part = h })

  pub way-part : {t c : Term} → Finds S G t c → (x : Term) → IsPartOnTheWay S true c x → IsCheckedPart S G t x
  way-part {t} {c} found x w = found-part found x (way-formed S c x w)

  pub against-part : {t c w : Term} → Finds S G t c → (x : Term) → IsFormedPart S true (c ∷ w ∷ []) x → IsCheckedAgainst S G t w x
  against-part found x p =
      elim (formed-of p.formed) [
        | inl l ↦ inl (found-part found x (record { whole = p.whole; formed = l; part = p.part }))
        | inr r ↦ inr (record { whole = p.whole; formed = r; part = p.part })
      ]

  -- of a product
  pub domain-part : {a b : Term} (x : Term) → IsCheckedPart S G a x → IsCheckedPart S G (Pi a b) x
  domain-part x p = part-inside (way.domain way.itself) p

  pub codomain-part : {a b : Term} (x : Term) → IsCheckedPart S (a ∷ G) b x → IsCheckedPart S G (Pi a b) x
  codomain-part x p = part-inside (way.codomain way.itself) p

  -- of a function
  pub argument_type-part : {a b : Term} (x : Term) → IsCheckedPart S G a x → IsCheckedPart S G (Lam a b) x
  argument_type-part x p = part-inside (way.argument_type way.itself) p

  pub body-part : {a b : Term} (x : Term) → IsCheckedPart S (a ∷ G) b x → IsCheckedPart S G (Lam a b) x
  body-part x p = part-inside (way.body way.itself) p

  pub function_type-part : {a b c d : Term} → Finds S (a ∷ G) b c → d ≡ a → (x : Term) → IsPart x (Pi d c) → IsCheckedPart S G (Lam a b) x
  function_type-part {a} {b} {c} found same x h =
      record { whole = Pi a c; formed = way.function_type way.itself found; part = transport (λ w. IsPart x (Pi w c)) same h }

  -- of an application
  pub function-part : {f u : Term} (x : Term) → IsCheckedPart S G f x → IsCheckedPart S G (App f u) x
  function-part x p = part-inside (way.function way.itself) p

  of-type : (f u c x : Term) → Finds S G f c → IsFormedPart S true (c ∷ []) x → IsCheckedPart S G (App f u) x
  of-type f u c x found p = function-part x (found-part found x p)

  product-part : (f u c x : Term) → Finds S G f c → IsProductPart S G c x → IsCheckedPart S G (App f u) x
  product-part f u c x found (inl p) = of-type f u c x found p
  product-part f u c x found (inr q) = part-inside (way.product way.itself found q.1.0) q.1.1

  argument-part : (f u c p x : Term) → Finds S G f c → IsFormed S true (c ∷ []) p → IsArgumentPart S G u p x → IsCheckedPart S G (App f u) x
  argument-part f u c (Pi a b) x found h (inl (inl q)) = part-inside (way.argument way.itself) q
  argument-part f u c (Pi a b) x found h (inl (inr q)) =
      of-type f u c x found (record { whole = q.whole; formed = from-domain q.whole q.formed; part = q.part })
    where
      from-domain : (w : Term) → IsFormed S true (a ∷ []) w → IsFormed S true (c ∷ []) w
      from-domain w (given (zero, low)) = transport (IsFormed S true (c ∷ [])) (sym low.1) (child h refl (inl refl))
      from-domain w (given (suc i, low)) = absurd (omega (arith, low.0))
      from-domain w (step d e) = step (from-domain _ d) e
      from-domain w (child d none k) = child (from-domain _ d) none k
  argument-part f u c (Pi a b) x found h (inr q) = record { whole = put b 0 u; formed = way.applied way.itself found h; part = q }
  argument-part f u c (Var n) x found h q = absurd q
  argument-part f u c _ x found h q = absurd q

  pub applied-part : {f u c : Term} → Finds S G f c → (x : Term) → IsAppliedPart S G u c x → IsCheckedPart S G (App f u) x
  applied-part {f} {u} {c} found x (inl q) = product-part f u c x found q
  applied-part {f} {u} {c} found x (inr q) = argument-part f u c q.0 x found q.1.0 q.1.1

  -- of a `let`
  pub value_type-part : {a v b : Term} (x : Term) → IsCheckedPart S G a x → IsCheckedPart S G (Let a v b) x
  value_type-part x p = part-inside (way.value_type way.itself) p

  pub value-part : {a v b : Term} (x : Term) → IsCheckedAgainst S G v a x → IsCheckedPart S G (Let a v b) x
  value-part x (inl p) = part-inside (way.value way.itself) p
  value-part x (inr p) = record { whole = p.whole; formed = way.wanted way.itself p.formed; part = p.part }

  pub rest-part : {a v b : Term} (x : Term) → IsCheckedPart S G (put b 0 v) x → IsCheckedPart S G (Let a v b) x
  rest-part x p = part-inside (way.rest way.itself) p

  -- of the term itself
  pub itself-part : {t : Term} (x : Term) → IsPart x t → IsCheckedPart S G t x
  itself-part {t} x h = record { whole = t; formed = way.asked way.itself; part = h }

  -- of a variable, a sort or a symbol
  pub leaf-part : (t : Term) (x : Term) → IsLeafPart G t x → IsCheckedPart S G t x
  leaf-part (Var n) x h = record { whole = _; formed = way.variable way.itself h.1.0; part = h.1.1 }
  leaf-part (Sort i) x h = record { whole = _; formed = way.universe way.itself; part = h }
  leaf-part (Const n) x h = absurd h
  leaf-part _ x h = absurd h
