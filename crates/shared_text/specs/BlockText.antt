-- Core text of version 2: an entry is a block, which has a line for each shared term and then the line of the entry.
use Rattle.std.specs.Prelude.{ℕ, Bool, true, false, cond, List, [], ◌∷◌, ◌++◌, codes, decimal, if◌then◌else◌, Option, Some, None, Result, Ok, Err}
use Rattle.theory.specs.Terms.{Term, Pi, Lam, App, Let}
use Rattle.theory.specs.Telescopes.{Telescope}
use Rattle.theory.specs.Signatures.{Signature, Entry}
use Rattle.core_terms.specs.Answers.{are_low}
use Rattle.core_terms.specs.declared.stop.Stop.{Stop}
use Rattle.core_terms.specs.declared.stop.Stop.TheVariants.{Deep}
use Rattle.core_sig.specs.Raw.{RawConstructor, RawFamily}
use Rattle.core_text.specs.RawEntries.{RawEntry, RawFamilyOf, RawEliminator, RawAxiomK, RawDefinition, entry_shown}
use Rattle.core_text.specs.SymbolNames.{name_at}
use Rattle.core_text.specs.TermReading.{is_application}
use Rattle.core_text.specs.TermText.{enclosed, term_text}
use Rattle.shared_text.specs.PrintedTerms.{number_in, shared_terms, written_terms}

-- ---- terms

-- `$` and the number where there is one, else the text
abbrev pub numbered : Option ℕ → List ℕ → List ℕ
numbered (Some n) text = codes "$" ++ decimal n
numbered None text = text

-- the number of the head of a spine; a shorter application has none there
abbrev pub head_number : List Term → Term → Option ℕ
head_number shared f = cond (is_application f) None (number_in shared f)

-- A term in full, in which each shared term is written by its number; `is_function` where it is the function of an application.
abbrev pub in_full : Signature → List Term → Bool → Term → List ℕ
in_full S shared is_function (Pi a b) =
    codes "(" ++ numbered (number_in shared a) (in_full S shared false a) ++ codes " -> "
    ++ numbered (number_in shared b) (in_full S shared false b) ++ codes ")"
in_full S shared is_function (Lam a b) =
    codes "(\\" ++ numbered (number_in shared a) (in_full S shared false a) ++ codes " . "
    ++ numbered (number_in shared b) (in_full S shared false b) ++ codes ")"
in_full S shared is_function (App f a) =
    enclosed is_function
    (numbered (head_number shared f) (in_full S shared true f) ++ codes " "
    ++ numbered (number_in shared a) (in_full S shared false a))
in_full S shared is_function (Let a t b) =
    codes "(let " ++ numbered (number_in shared a) (in_full S shared false a) ++ codes " = "
    ++ numbered (number_in shared t) (in_full S shared false t) ++ codes " . "
    ++ numbered (number_in shared b) (in_full S shared false b) ++ codes ")"
in_full S shared is_function t = term_text S t

-- a term by its number where it is shared, else in full
abbrev pub shared_text : Signature → List Term → Term → List ℕ
shared_text S shared t = numbered (number_in shared t) (in_full S shared false t)

-- ---- lines

-- the lines of shared terms, each with the term in full
abbrev pub share_lines : Signature → List Term → List Term → List ℕ
share_lines S shared [] = []
share_lines S shared (t ∷ ts) = codes "share " ++ in_full S shared false t ++ codes "\n" ++ share_lines S shared ts

-- The line of an entry whose terms are written by `text`.
module _ (text : Term → List ℕ) where
  abbrev pub parameters_by : Telescope → List ℕ
  parameters_by [] = []
  parameters_by (a ∷ tele) = codes " (" ++ text a ++ codes ")" ++ parameters_by tele

  abbrev pub constructors_by : List ℕ → List RawConstructor → List ℕ
  constructors_by before [] = []
  constructors_by before (c ∷ constructors) =
      before ++ c.name ++ codes " : " ++ text c.type ++ constructors_by (codes " ; ") constructors

  abbrev pub family_by : RawFamily → List ℕ
  family_by f =
      codes "data " ++ f.name ++ parameters_by f.parameters ++ codes " : " ++ text f.type
      ++ codes " {" ++ constructors_by (codes " ") f.constructors ++ codes " }"

  -- without the line feed
  abbrev pub text_by : Signature → RawEntry → List ℕ
  text_by S (RawFamilyOf raw) = family_by raw
  text_by S (RawEliminator family m) = codes "elim " ++ name_at S family ++ codes " " ++ decimal m
  text_by S (RawAxiomK i m) = codes "axiomk " ++ decimal i ++ codes " " ++ decimal m
  text_by S (RawDefinition name type body) = codes "def " ++ name ++ codes " : " ++ text type ++ codes " = " ++ text body

-- ---- blocks

-- a block with these shared terms
abbrev pub block_with : Signature → List Term → RawEntry → List ℕ
block_with S shared raw = share_lines S shared shared ++ (text_by (shared_text S shared) S raw ++ codes "\n")

-- the block that says it, over a signature in which each number of its terms has a name
abbrev pub block_text : Signature → RawEntry → List ℕ
block_text S raw = block_with S (shared_terms (written_terms raw)) raw

-- the block of entry number n
abbrev pub entry_block : Signature → ℕ → Entry → List ℕ
entry_block S n e = block_text S (entry_shown n e)

-- the block, or Deep where the line of the entry writes a term that is higher than 2,000
abbrev pub low_block : Signature → RawEntry → Result (List ℕ) Stop
low_block S raw = if are_low (written_terms raw) then Ok (block_text S raw) else Err Deep
