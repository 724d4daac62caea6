-- What the checker is asked for and forms on the way to a type of a part belongs to the way to a type of the whole.
use Rattle.std.proofs.Common.{◌≡◌, ◌⊎◌, inl, inr, ℕ, zero, suc, ◌<◌, true, [], ◌∷◌, slice_index_or, arith}
use Rattle.theory.specs.Terms.{Term}
use Rattle.theory.specs.Telescopes.{Context}
use Rattle.theory.specs.Signatures.{Signature}
use Rattle.store_reduce.specs.Formed.{IsFormed}
use Rattle.store_reduce.specs.Formed.IsFormed.{given, step, child}
use Rattle.kernel_check.specs.Asked.{IsAsked, Forms, IsCheckedPart}
use Rattle.kernel_check.specs.Asked.IsAsked.{itself, domain, codomain, argument_type, body, function, argument, product, value_type, value, rest}
use Rattle.kernel_check.specs.Asked.Forms.{asked, variable, universe, function_type, applied, wanted, reduced}

module _ {S : Signature} {G H : Context} {t u : Term} (first : IsAsked S G t H u) where
  pub asked-inside : {K : Context} {v : Term} → IsAsked S H u K v → IsAsked S G t K v
  asked-inside itself = first
  asked-inside (domain a) = domain (asked-inside a)
  asked-inside (codomain a) = codomain (asked-inside a)
  asked-inside (argument_type a) = argument_type (asked-inside a)
  asked-inside (body a) = body (asked-inside a)
  asked-inside (function a) = function (asked-inside a)
  asked-inside (argument a) = argument (asked-inside a)
  asked-inside (product a finds forms) = product (asked-inside a) finds forms
  asked-inside (value_type a) = value_type (asked-inside a)
  asked-inside (value a) = value (asked-inside a)
  asked-inside (rest a) = rest (asked-inside a)

  pub forms-inside : {x : Term} → Forms S H u x → Forms S G t x
  forms-inside (asked a) = asked (asked-inside a)
  forms-inside (variable a at) = variable (asked-inside a) at
  forms-inside (universe a) = universe (asked-inside a)
  forms-inside (function_type a finds) = function_type (asked-inside a) finds
  forms-inside (applied a finds forms) = applied (asked-inside a) finds forms
  forms-inside (wanted a forms) = wanted (asked-inside a) forms
  forms-inside (reduced a finds forms) = reduced (asked-inside a) finds forms

  pub part-inside : {x : Term} → IsCheckedPart S H u x → IsCheckedPart S G t x
  part-inside p = record { whole = p.whole; formed = forms-inside p.formed; part = p.part }

-- what is formed of two terms is formed of one of them
module _ {S : Signature} {a b : Term} where
  given-of : {x : Term} (i : ℕ) → i < 2 → x ≡ slice_index_or (a ∷ b ∷ []) i x → IsFormed S true (a ∷ []) x ⊎ IsFormed S true (b ∷ []) x
  given-of zero low e = inl (given (0, (omega arith, e)))
  given-of (suc zero) low e = inr (given (0, (omega arith, e)))
  given-of (suc (suc i)) low e = absurd (omega arith)

  pub formed-of : {x : Term} → IsFormed S true (a ∷ b ∷ []) x → IsFormed S true (a ∷ []) x ⊎ IsFormed S true (b ∷ []) x
  formed-of (given among) = given-of among.0 among.1.0 among.1.1
  formed-of (step f s) = elim (formed-of f) [ inl l ↦ inl (step l s) | inr r ↦ inr (step r s) ]
  formed-of (child f none c) = elim (formed-of f) [ inl l ↦ inl (child l none c) | inr r ↦ inr (child r none c) ]
