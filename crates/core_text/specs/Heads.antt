-- The two lines at the head of a core file.
use Rattle.std.specs.Prelude.{ℕ, ◌+◌, ◌==◌, Bool, true, false, cond, max, if◌then◌else◌, List, [], ◌∷◌, ◌++◌, length, codes, Result, Ok, Err}
use Rattle.core_text.specs.declared.stop.CoreTextStop.{CoreTextStop}
use Rattle.core_text.specs.declared.stop.CoreTextStop.TheVariants.{NotCoreText}

-- the head of a file with K, or without
abbrev pub head : Bool → List ℕ
head has_k = codes "elim 1\nprelude" ++ cond has_k (codes " k") [] ++ codes "\n"

-- how many bytes two texts share at their beginning
abbrev pub shared : List ℕ → List ℕ → ℕ
shared [] ys = 0
shared (x ∷ xs) [] = 0
shared (x ∷ xs) (y ∷ ys) = if x == y then 1 + shared xs ys else 0

-- The longest beginning of the text with which a head begins. The head with K counts only where `k` allows it.
abbrev pub head_stop : Bool → List ℕ → ℕ
head_stop k text = max (shared text (head false)) (cond k (shared text (head true)) 0)

-- whether the text begins with the head
abbrev pub has_head : Bool → List ℕ → Bool
has_head has_k text = shared text (head has_k) == length (head has_k)

-- Whether the head has K, and the offset after it; else the first byte with which no head continues.
abbrev pub head_of : Bool → List ℕ → Result (Bool × ℕ) CoreTextStop
head_of k text =
    if has_head false text then Ok (false, length (head false))
    else (if cond k (has_head true text) false then Ok (true, length (head true)) else Err (NotCoreText (head_stop k text)))
