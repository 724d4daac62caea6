-- The parts of a line, and the bytes between them, are read back.
use Rattle.std.proofs.Common.{◌≡◌, ℕ, ◌+◌, ◌-◌, ◌≤◌, Bool, true, false, List, [], ◌∷◌, ◌++◌, length, drop, take, refl, sym, ap, ap₂, ◌∙◌, subst, append_assoc, append-nil, arith}
use Rattle.std.specs.Prelude.{◌==◌, ◌&&◌, if◌then◌else◌, Ok, Option, None, codes, decimal}
use Rattle.std.proofs.lemmas.List.{length-append}
use Rattle.theory.specs.Terms.{Term}
use Rattle.theory.specs.Telescopes.{Telescope}
use Rattle.theory.specs.Signatures.{Signature}
use Rattle.core_sig.specs.Names.{find}
use Rattle.core_sig.specs.Raw.{RawConstructor, RawFamily}
use Rattle.core_text.specs.EntryText.{parameters_text, constructors_text}
use Rattle.core_text.specs.LineReading.{nested, ended, definition_at, family_found, levels_left, identities_left, eliminator_at, axiom_k_line, parameter_at, no_parameter, next_parameter, constructor_at, separated, next_constructor, family_at, line_at}
use Rattle.core_text.specs.RawEntries.{RawEntry, RawEliminator, RawAxiomK}
use Rattle.core_text.specs.ReadBack.{Stops, IsFoundFamily}
use Rattle.core_text.specs.Reading.{Reading, first, and_then, after, past, begins, read_level, is_left}
use Rattle.core_text.specs.SymbolLookup.{found_symbol}
use Rattle.core_text.specs.TermText.{term_text}
use Rattle.core_text.specs.declared.instances.Series.TheVariants.{Elim, AxiomK}
use Rattle.core_text.proofs.LineForms.{constructor-text}
use Rattle.core_text.proofs.NumbersBack.{begins-word, past-word, drop-word, level-back}
use Rattle.core_text.proofs.TermsBack.{stops-space, take-word}
use Rattle.core_text.proofs.LineOutcomes.{levels-below, identities-below}

pub nested-is : nested ≡ 2000
unfolding nested
nested-is = refl

abbrev pub raw_of_parts : List ℕ → Term → RawConstructor
raw_of_parts name type = record { name = name; type = type }

abbrev pub raw_family_of_parts : List ℕ → Telescope → Term → List RawConstructor → RawFamily
raw_family_of_parts name parameters type constructors = record { name = name; parameters = parameters; type = type; constructors = constructors }

pub ended-back : (e : RawEntry) (rest : List ℕ) → ended e (10 ∷ rest) ≡ Ok (e, rest)
ended-back e rest = ap (λ m. after m (λ end. Ok (e, end))) (past-word (codes "\n") rest)

-- ---- instances

pub eliminator-back : (T : Signature) (name : List ℕ) (g m : ℕ) (rest : List ℕ) → IsFoundFamily T name g → is_left (levels_left T (Elim g)) m ≡ true → eliminator_at T (name ++ (codes " " ++ (decimal m ++ 10 ∷ rest))) ≡ Ok (RawEliminator g m, rest)
eliminator-back T name g m rest is left =
    let more = codes " " ++ (decimal m ++ 10 ∷ rest) in
    let below = levels-below T (Elim g) m left in
    ap (λ k. and_then (family_found (found_symbol T (find T (take k (name ++ more)))) (name ++ more) (drop k (name ++ more))) next) (is.run more (stops-space _))
    ∙ (ap₂ (λ a b. and_then (family_found (found_symbol T (find T a)) (name ++ more) b) next) (take-word name more) (drop-word name more)
    ∙ (ap (λ o. and_then (family_found o (name ++ more) more) next) is.found
    ∙ (ap (λ k. after k (λ r2. and_then (read_level (levels_left T (Elim g)) r2) (λ m r3. ended (RawEliminator g m) r3))) (past-word (codes " ") (decimal m ++ 10 ∷ rest))
    ∙ (ap (λ k. and_then k (λ m r3. ended (RawEliminator g m) r3)) (level-back (levels_left T (Elim g)) m (10 ∷ rest) (omega arith) left refl)
    ∙ ended-back (RawEliminator g m) rest))))
  where
    next : ℕ → List ℕ → Reading RawEntry
    next n r1 = after (past (codes " ") r1) (λ r2. and_then (read_level (levels_left T (Elim n)) r2) (λ m r3. ended (RawEliminator n m) r3))

pub axiom_k-back : (T : Signature) (i m : ℕ) (rest : List ℕ) → is_left (identities_left T) i ≡ true → is_left (levels_left T (AxiomK i)) m ≡ true → axiom_k_line T (decimal i ++ (codes " " ++ (decimal m ++ 10 ∷ rest))) ≡ Ok (RawAxiomK i m, rest)
axiom_k-back T i m rest first_left left =
    let below = identities-below T i first_left in
    let under = levels-below T (AxiomK i) m left in
    ap (λ k. and_then k (λ i r1. after (past (codes " ") r1) (λ r2. and_then (read_level (levels_left T (AxiomK i)) r2) (λ m r3. ended (RawAxiomK i m) r3))))
    (level-back (identities_left T) i (codes " " ++ (decimal m ++ 10 ∷ rest)) (omega arith) first_left refl)
    ∙ (ap (λ k. after k (λ r2. and_then (read_level (levels_left T (AxiomK i)) r2) (λ m r3. ended (RawAxiomK i m) r3))) (past-word (codes " ") (decimal m ++ 10 ∷ rest))
    ∙ (ap (λ k. and_then k (λ m r3. ended (RawAxiomK i m) r3)) (level-back (levels_left T (AxiomK i)) m (10 ∷ rest) (omega arith) left refl)
    ∙ ended-back (RawAxiomK i m) rest))

-- ---- parameters

abbrev pub Parameters : Signature → Telescope → List ℕ → Reading (Option Term)
Parameters T found r = next_parameter T [] (length found) r

pub parameter-text : (S : Signature) (a : Term) (tele : Telescope) (rest : List ℕ) → parameters_text S (a ∷ tele) ++ rest ≡ 32 ∷ 40 ∷ (term_text S a ++ 41 ∷ (parameters_text S tele ++ rest))
parameter-text S a tele rest = simp append_assoc

-- the next one, after its space
pub next-space : (T : Signature) (n : ℕ) (r : List ℕ) → next_parameter T [] n (32 ∷ r) ≡ (if first r == 40 then parameter_at T [] n (drop 1 r) else no_parameter r)
next-space T n r = ap (λ m. after m (λ r. if first r == 40 then parameter_at T [] n (drop 1 r) else no_parameter r)) (past-word (codes " ") r)

pub next-none : (T : Signature) (n : ℕ) (rest : List ℕ) → next_parameter T [] n (codes " : " ++ rest) ≡ Ok (None, rest)
next-none T n rest = next-space T n (codes ": " ++ rest) ∙ ap (λ m. after m (λ end. Ok (None, end))) (past-word (codes ": ") rest)

pub parameters-long : (S : Signature) (tele : Telescope) → length tele ≤ length (parameters_text S tele)
parameters-long S [] = omega arith
parameters-long S (a ∷ tele) =
    let inner = parameters-long S tele in
    omega (arith, ap length (parameter-text S a tele []), ap length (append-nil (parameters_text S (a ∷ tele))), length-append (term_text S a) (41 ∷ (parameters_text S tele ++ [])), length-append (parameters_text S tele) [])

-- ---- constructors

-- the bytes before a constructor after those found
abbrev pub separator : List RawConstructor → List ℕ
separator [] = codes " "
separator (c ∷ found) = codes " ; "

pub no-more : (T : Signature) (own : List ℕ) (p : ℕ) (found : List RawConstructor) (rest : List ℕ) → next_constructor T own p found (codes " }" ++ rest) ≡ Ok (None, rest)
no-more T own p found rest =
    ap (λ m. after m (λ r. if first r == 125 then Ok (None, drop 1 r) else after (separated found r) (constructor_at T own p found))) (past-word (codes " ") (125 ∷ rest))

pub separator-more : (found : List RawConstructor) (c : RawConstructor) → codes " ; " ≡ separator (found ++ c ∷ [])
separator-more [] c = refl
separator-more (d ∷ found) c = refl

pub stops-next : (S : Signature) (cs : List RawConstructor) (rest : List ℕ) → Stops (constructors_text S (codes " ; ") cs ++ (codes " }" ++ rest))
stops-next S [] rest = stops-space (125 ∷ rest)
stops-next S (c ∷ cs) rest = subst Stops (sym (constructor-text S (codes " ; ") c cs (codes " }" ++ rest))) (stops-space _)

-- ---- families

-- a parameter or the colon comes after the name
pub stops-name : (S : Signature) (tele : Telescope) (rest : List ℕ) → Stops (parameters_text S tele ++ (codes " : " ++ rest))
stops-name S [] rest = stops-space _
stops-name S (a ∷ tele) rest = subst Stops (sym (parameter-text S a tele (codes " : " ++ rest))) (stops-space _)

-- ---- lines by their first word

line-if : {A : Type 0} (b : Bool) (x y : A) → b ≡ true → (if b then x else y) ≡ x
line-if b x y e = ap (λ c. if c then x else y) e

and-no : (b : Bool) → (b && false) ≡ false
and-no true = refl
and-no false = refl

pub def-line : (T : Signature) (rest : List ℕ) → line_at T [] (codes "def " ++ rest) ≡ definition_at T [] rest
def-line T rest =
    line-if (begins (codes "de") (codes "def " ++ rest)) (after (past (codes "def ") (codes "def " ++ rest)) (definition_at T [])) (if first (codes "def " ++ rest) == 101 then after (past (codes "elim ") (codes "def " ++ rest)) (eliminator_at T) else (if T.has_k && (first (codes "def " ++ rest) == 97) then after (past (codes "axiomk ") (codes "def " ++ rest)) (axiom_k_line T) else after (past (codes "data ") (codes "def " ++ rest)) (family_at T []))) (begins-word (codes "de") (codes "f " ++ rest))
    ∙ ap (λ m. after m (definition_at T [])) (past-word (codes "def ") rest)

pub elim-line : (T : Signature) (rest : List ℕ) → line_at T [] (codes "elim " ++ rest) ≡ eliminator_at T rest
elim-line T rest = ap (λ m. after m (eliminator_at T)) (past-word (codes "elim ") rest)

pub axiom_k-line : (T : Signature) (rest : List ℕ) → T.has_k ≡ true → line_at T [] (codes "axiomk " ++ rest) ≡ axiom_k_line T rest
axiom_k-line T rest has =
    ap (λ b. if b then after (past (codes "axiomk ") (codes "axiomk " ++ rest)) (axiom_k_line T) else after (past (codes "data ") (codes "axiomk " ++ rest)) (family_at T [])) (ap (λ b. b && true) has)
    ∙ ap (λ m. after m (axiom_k_line T)) (past-word (codes "axiomk ") rest)

pub data-line : (T : Signature) (rest : List ℕ) → line_at T [] (codes "data " ++ rest) ≡ family_at T [] rest
data-line T rest =
    ap (λ b. if b then after (past (codes "axiomk ") (codes "data " ++ rest)) (axiom_k_line T) else after (past (codes "data ") (codes "data " ++ rest)) (family_at T [])) (and-no T.has_k)
    ∙ ap (λ m. after m (family_at T [])) (past-word (codes "data ") rest)

-- ---- a whole entry

pub record Starts (text : List ℕ) : Type 0 where
  pub one : ℕ
  pub others : List ℕ
  pub is : text ≡ one ∷ others
  pub no_note : (one == 35) ≡ false

pub offset-is : (before line rest : List ℕ) → length (before ++ (line ++ rest)) - length rest ≡ length before + length line
offset-is before line rest = omega (arith, length-append before (line ++ rest), length-append line rest)
