-- How printed terms are met: each place once, and the printed children of a term at its first place.
use Rattle.std.specs.Prelude.{Bool, cond, List, [], ◌∷◌, nat_lt, ◌&&◌, filter}
use Rattle.theory.specs.Terms.{Term, Pi, Lam, App, Let, height}
use Rattle.core_text.specs.TermReading.{is_application}
use Rattle.shared_text.specs.PrintedTerms.{is_among, with_term}

-- the terms that were met, in the order in which they were first ended, and those that were met at two or more places
pub record Walked : Type 0 where
  pub found : List Term
  pub again : List Term

abbrev pub with_found : Term → Walked → Walked
with_found t w = record { found = with_term w.found t; again = w.again }

abbrev pub with_again : Term → Walked → Walked
with_again t w = record { found = w.found; again = with_term w.again t }

-- the term was met before
abbrev pub has_found : Term → Walked → Bool
has_found t w = is_among w.found t

-- a term at a place, where `inside` meets its printed children
abbrev pub meet : (Walked → Walked) → Term → Walked → Walked
meet inside t w = cond (has_found t w) (with_again t w) (with_found t (inside w))

-- the function of an application: an application there is at no place
abbrev pub meet_function : (Walked → Walked) → Term → Walked → Walked
meet_function inside f w = cond (is_application f) (inside w) (meet inside f w)

-- the printed children of a term
abbrev pub meet_inside : Term → Walked → Walked
meet_inside (Pi a b) w = meet (meet_inside b) b (meet (meet_inside a) a w)
meet_inside (Lam a b) w = meet (meet_inside b) b (meet (meet_inside a) a w)
meet_inside (App f a) w = meet (meet_inside a) a (meet_function (meet_inside f) f w)
meet_inside (Let a t b) w = meet (meet_inside b) b (meet (meet_inside t) t (meet (meet_inside a) a w))
meet_inside t w = w

-- the written terms, from left to right
abbrev pub meet_all : List Term → Walked → Walked
meet_all [] w = w
meet_all (t ∷ ts) w = meet_all ts (meet (meet_inside t) t w)

-- the term is higher than 1 and was met at two or more places
abbrev pub is_met_shared : Walked → Term → Bool
is_met_shared w t = nat_lt 1 (height t) && is_among w.again t

abbrev pub met_shared : Walked → List Term
met_shared w = filter (is_met_shared w) w.found
