-- Terms as a head with its spine: a term that is no application, applied to a list of arguments.
use Rattle.std.specs.Prelude.{List, [], ◌∷◌, ◌++◌}
use Rattle.theory.specs.Terms.{Term, App}

abbrev pub head_of : Term → Term
head_of (App f a) = head_of f
head_of t = t

-- the arguments, the first one first
abbrev pub spine_of : Term → List Term
spine_of (App f a) = spine_of f ++ a ∷ []
spine_of t = []
