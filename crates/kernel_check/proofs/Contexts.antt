-- The context of a telescope: its types from the last one on.
use Rattle.std.proofs.Common.{◌≡◌, ℕ, ◌-◌, ◌<◌, ◌≤◌, Some, None, option_map, List, [], ◌∷◌, ◌++◌, length, map, reverse, slice_get, get_or, inl, inr, refl, sym, ap, ◌∙◌, append_assoc, append-nil, arith}
use Rattle.std.proofs.lemmas.List.{reverse-reverse, length-reverse, reverse-append, length-map, get_or-reverse}
use Rattle.std.proofs.lemmas.Option.{none-some, slice_get-get_or, slice_get-map, slice_get_past, slice_get_within, slice_get_cases, get_or_from_slice_get}
use Rattle.theory.specs.Terms.{Term}
use Rattle.theory.specs.Telescopes.{Context, Telescope, context_behind}

pub context-behind : (G : Context) (tele : Telescope) → context_behind G tele ≡ reverse tele ++ G
context-behind G [] = refl
context-behind G (a ∷ tele) =
    context-behind (a ∷ G) tele
    ∙ (sym (append_assoc (reverse tele) (a ∷ []) G) ∙ ap (λ xs. xs ++ G) (sym (reverse-append (a ∷ []) tele)))

pub context-reverse : (tele : Telescope) → context_behind [] tele ≡ reverse tele
context-reverse tele = context-behind [] tele ∙ append-nil (reverse tele)

pub context_back : (G : Context) → context_behind [] (reverse G) ≡ G
context_back G = context-reverse (reverse G) ∙ reverse-reverse G

pub reverse_context : (tele : Telescope) → reverse (context_behind [] tele) ≡ tele
reverse_context tele = ap reverse (context-reverse tele) ∙ reverse-reverse tele

pub context-length : (tele : Telescope) → length (context_behind [] tele) ≡ length tele
context-length tele = ap length (context-reverse tele) ∙ length-reverse tele

-- elements by their numbers from the end of a list
module _ {X : Type 0} (xs : List X) (n : ℕ) where
  pub from_the_end-at : (x : X) → n < length xs → x ≡ get_or xs (length xs - 1 - n) x → Some x ≡ slice_get (reverse xs) n
  from_the_end-at x low e =
      let inside : n < length (reverse xs) = omega (arith, length-reverse xs) in
      sym (slice_get-get_or (reverse xs) n x inside ∙ ap Some (get_or-reverse xs n x low ∙ sym e))

  pub from_the_end-past : length xs ≤ n → None ≡ slice_get (reverse xs) n
  from_the_end-past past = sym (slice_get_past (reverse xs) n (omega (arith, length-reverse xs)))

  pub within-reverse : (x : X) → slice_get (reverse xs) n ≡ Some x → n < length xs
  within-reverse x at = let inside = slice_get_within (reverse xs) n x at in omega (arith, length-reverse xs)

  pub at-reverse : (x : X) → slice_get (reverse xs) n ≡ Some x → slice_get xs (length xs - 1 - n) ≡ Some x
  at-reverse x at =
      let low = within-reverse x at in
      let place : length xs - 1 - n < length xs = omega arith in
      slice_get-get_or xs (length xs - 1 - n) x place
      ∙ ap Some (sym (get_or-reverse xs n x low) ∙ get_or_from_slice_get (reverse xs) n x x at)

  pub past-reverse : slice_get (reverse xs) n ≡ None → length xs ≤ n
  past-reverse none = elim (slice_get_cases (reverse xs) n).1 [
    | inl h ↦ absurd (none-some h.0 (sym none ∙ h.2))
    | inr h ↦ (let past = h.0 in omega (arith, length-reverse xs))
  ]

-- the types that the context of mapped elements gives to variables
module _ {X : Type 0} (f : X → Term) (xs : List X) (n : ℕ) where
  pub declared-at : (x : X) → n < length xs → slice_get xs (length xs - 1 - n) ≡ Some x → slice_get (context_behind [] (map f xs)) n ≡ Some (f x)
  declared-at x low at =
      let count : length (map f xs) ≡ length xs = length-map xs f in
      let there : slice_get (map f xs) (length xs - 1 - n) ≡ Some (f x) = slice_get-map f xs (length xs - 1 - n) ∙ ap (option_map f) at in
      ap (λ G. slice_get G n) (context-reverse (map f xs))
      ∙ sym (from_the_end-at (map f xs) n (f x) (omega (arith, count)) (sym (get_or_from_slice_get (map f xs) (length (map f xs) - 1 - n) (f x) (f x) (ap (λ k. slice_get (map f xs) (k - 1 - n)) count ∙ there))))

  pub declared-past : length xs ≤ n → slice_get (context_behind [] (map f xs)) n ≡ None
  declared-past past =
      ap (λ G. slice_get G n) (context-reverse (map f xs)) ∙ sym (from_the_end-past (map f xs) n (omega (arith, length-map xs f)))
