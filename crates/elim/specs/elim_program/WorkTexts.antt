-- The source file that the mode `work` compiles, and its summary.
use Rattle.std.specs.Prelude.{ℕ, zero, suc, ◌+◌, ◌==◌, if◌then◌else◌, List, [], ◌∷◌, ◌++◌, codes, decimal}
use Rattle.elim.specs.declared.elim_program.counts.Counts.{Counts}

-- ---- the source file

-- the template with the number in the place of each `#`
abbrev pub numbered : ℕ → List ℕ → List ℕ
numbered k [] = []
numbered k (c ∷ cs) = if c == 35 then decimal k ++ numbered k cs else c ∷ numbered k cs

-- a family and a function over it, with `#` for their number
unfoldable pub template : List ℕ
template =
    codes "data T# : Type 0 { a# : T# ; b# : T# -> T# ; c# : T# -> T# -> T# }\nfun f# : T# -> T# -> T# { f# a# y = y ; f# (b# x) y = b# (f# x y) ;\n  f# (c# u v) y = c# (f# u y) (f# v y) }\n"

-- so many of them from number k on
abbrev pub text_from : ℕ → ℕ → List ℕ
text_from k zero = []
text_from k (suc count) = numbered k template ++ text_from (k + 1) count

abbrev pub work_text : ℕ → List ℕ
work_text count = text_from 0 count

-- ---- the summary

abbrev pub summary_line : ℕ → Counts → List ℕ
summary_line n c =
    codes "# work " ++ decimal n ++ codes " accepted " ++ decimal c.accepted ++ codes " definitional " ++ decimal c.definitional
    ++ codes " proved " ++ decimal c.proved ++ codes " shadowed " ++ decimal c.shadowed ++ codes " absurd " ++ decimal c.absurd
