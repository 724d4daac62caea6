-- A term is its head applied to its spine.
use Rattle.std.proofs.Common.{◌≡◌, List, [], ◌∷◌, ◌++◌, refl, ap, ◌∙◌}
use Rattle.theory.specs.Terms.{Term}
use Rattle.theory.specs.Terms.Term.{App}
use Rattle.theory.specs.Telescopes.{applied}
use Rattle.theory.specs.Spines.{head_of, spine_of}

-- arguments after arguments
pub applied-append : (h : Term) (us vs : List Term) → applied h (us ++ vs) ≡ applied (applied h us) vs
applied-append h [] vs = refl
applied-append h (u ∷ us) vs = applied-append (App h u) us vs

pub applied-spine : (t : Term) → applied (head_of t) (spine_of t) ≡ t
applied-spine (App f a) = applied-append (head_of f) (spine_of f) (a ∷ []) ∙ ap (λ g. App g a) (applied-spine f)
applied-spine _ = refl
