-- The levels of a telescope, as far as a loop along its types has come.
use Rattle.std.proofs.Common.{◌≡◌, ℕ, ◌+◌, ◌<◌, Ok, List, [], ◌∷◌, ◌++◌, length, take, drop, get_or, refl, ap, ap₂, sym, ◌∙◌, append_assoc}
use Rattle.theory.specs.Terms.{Term}
use Rattle.theory.specs.Telescopes.{Context, Telescope, context_behind}
use Rattle.theory.specs.Signatures.{Signature}
use Rattle.core_terms.proofs.Lists.{take-more}
use Rattle.core_terms.proofs.Loops.{so_far, each-goes_on}
use Rattle.family_check.specs.Families.{Role, level_in, levels_of}
use Rattle.family_check.specs.Outcomes.{Outcome, ended}

pub context-more : (ctx more ps types : Telescope) (k : ℕ) (a : Term) → ctx ≡ ps ++ take k types → more ≡ ctx ++ a ∷ [] → k < length types → a ≡ get_or types k a
    → more ≡ ps ++ take (k + 1) types
context-more ctx more ps types k a so_far_is is lt at =
    is ∙ (ap (λ c. c ++ a ∷ []) so_far_is ∙ (append_assoc ps (take k types) (a ∷ []) ∙ ap (λ ts. ps ++ ts) (sym (take-more types k a lt at))))

behind-one_more : (G : Context) (tele : Telescope) (a : Term) → context_behind G (tele ++ a ∷ []) ≡ a ∷ context_behind G tele
behind-one_more G [] a = refl
behind-one_more G (t ∷ tele) a = behind-one_more (t ∷ G) tele a

pub levels-on : (S : Signature) (role : Role) (types : Telescope) (k : ℕ) (a : Term) (xs ys : List ℕ) (ctx more : Telescope) (whole : Outcome (List ℕ)) (left level l : ℕ)
    → whole ≡ so_far xs (levels_of S role k (context_behind [] ctx) (drop k types) left) → more ≡ ctx ++ a ∷ [] → ys ≡ xs ++ level ∷ [] → k < length types → a ≡ get_or types k a
    → ended (Ok level) l ≡ level_in S role (k + 1) (context_behind [] ctx) a left
    → whole ≡ so_far ys (levels_of S role (k + 1) (context_behind [] more) (drop (k + 1) types) l)
levels-on S role types k a xs ys ctx more whole left level l before is made lt at h =
    each-goes_on (λ G k a. level_in S role (k + 1) G a) (λ G a. a ∷ G) (context_behind [] ctx) types k a left xs whole level l before lt at h
    ∙ ap₂ (λ G zs. so_far zs (levels_of S role (k + 1) G (drop (k + 1) types) l)) (sym (ap (context_behind []) is ∙ behind-one_more [] ctx a)) (sym made)
