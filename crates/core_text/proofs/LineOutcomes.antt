-- Properties of lines that are read.
use Rattle.std.proofs.Common.{◌≡◌, ℕ, zero, suc, ◌+◌, ◌<◌, ◌≤◌, Bool, true, false, List, [], ◌∷◌, ◌++◌, map, length, drop, take, refl, sym, subst, arith}
use Rattle.std.specs.Prelude.{◌==◌, ◌&&◌, not, Ok, Option, Some, None, codes, All}
use Rattle.std.specs.List.{list_any}
use Rattle.std.proofs.lemmas.Bool.{and_parts, false≢true}
use Rattle.std.proofs.lemmas.List.{map-append}
use Rattle.std.proofs.lemmas.List.Elements.{All-nil, All-push}
use Rattle.theory.specs.Terms.{Term, Fam, top}
use Rattle.theory.specs.Telescopes.{Telescope}
use Rattle.theory.specs.Signatures.{Signature}
use Rattle.theory.specs.SignatureScopes.{IsFamilyNumber}
use Rattle.core_sig.specs.Names.{find}
use Rattle.core_sig.specs.Raw.{RawConstructor}
use Rattle.core_text.specs.DeclaredNames.{may_declare, by_shape, new_name, shape_of}
use Rattle.core_text.specs.EntryParts.{IsLow}
use Rattle.core_text.specs.LineReading.{nested, whole_term, is_instance, some_level_left, ended, definition_at, family_found, family_name, level_list, levels_left, identities_left, eliminator_at, axiom_k_line, after_item, collected, parameter_at, no_parameter, next_parameter, parameters_at, constructor_at, separated, next_constructor, constructors_at, family_after, family_at, line_at}
use Rattle.core_text.specs.NameRuns.{run_len}
use Rattle.core_text.specs.RawEntries.{RawEntry, RawFamilyOf, RawEliminator, RawAxiomK, RawDefinition}
use Rattle.core_text.specs.ReadLaws.{IsReadEntry}
use Rattle.core_text.specs.Reading.{Reading, wrong, first, after, past, begins, read_level, is_left}
use Rattle.core_text.specs.Spellings.{IsNewName}
use Rattle.core_text.specs.SymbolLookup.{symbol, found_symbol}
use Rattle.core_text.specs.TermReading.{term_after}
use Rattle.core_text.specs.declared.declared_names.Shape.{Shape}
use Rattle.core_text.specs.declared.declared_names.Shape.TheVariants.{Declarable, Underscore, Malformed}
use Rattle.core_text.specs.declared.instances.Series.{Series}
use Rattle.core_text.specs.declared.instances.Series.TheVariants.{Elim, AxiomK}
use Rattle.core_text.proofs.Outcomes.{Ensures, ensures-then, ensures-if, ensures-past, ensures-after}
use Rattle.core_text.proofs.Over.{IsTermOver, AreTypesOver, AreConstructorsOver, types-more, constructors-more}
use Rattle.core_text.proofs.RunChars.{run-chars}
use Rattle.core_text.proofs.SymbolsOver.{family-number, symbol-over, own-symbol-over}
use Rattle.core_text.proofs.TermOutcomes.{Fits, IsLevel, drop-within, read_level-within, term-fits}

-- ---- a name that is declared

abbrev Named : Signature → List ℕ → List RawConstructor → ℕ → List ℕ → List ℕ → Type 0
Named S own found bound name r = IsNewName S own found name × (length r ≤ bound)

shape-fits : (S : Signature) (own : List ℕ) (found : List RawConstructor) (bound : ℕ) (rest : List ℕ) → length rest ≤ bound → (shape : Shape) → shape_of (take (run_len rest) rest) ≡ shape → Ensures (Named S own found bound) (by_shape shape (may_declare S own found (take (run_len rest) rest)) (take (run_len rest) rest) rest)
shape-fits S own found bound rest le Declarable is =
    let name = take (run_len rest) rest in
    ensures-if (Named S own found bound) (may_declare S own found name) (Ok (name, drop (length name) rest)) (wrong rest)
    (λ may. (record { chars = run-chars rest; shape = is; may = may }, drop-within (length name) bound rest le)) (λ e. tt)
shape-fits S own found bound rest le Underscore is = tt
shape-fits S own found bound rest le Malformed is = tt

name-fits : (S : Signature) (own : List ℕ) (found : List RawConstructor) (bound : ℕ) (rest : List ℕ) → length rest ≤ bound → Ensures (Named S own found bound) (new_name S own found rest)
name-fits S own found bound rest le = shape-fits S own found bound rest le (shape_of (take (run_len rest) rest)) refl

-- ---- a whole term

whole-fits : (S : Signature) (n bound : ℕ) (rest : List ℕ) → length rest ≤ bound → Ensures (Fits S false n bound) (whole_term S [] n rest)
whole-fits S n bound rest le = term-fits S false (symbol S []) (symbol-over S) nested n bound rest le

after-fits : (S : Signature) (word : List ℕ) (n bound : ℕ) (rest : List ℕ) → length rest ≤ bound → Ensures (Fits S false n bound) (term_after (whole_term S []) word n rest)
after-fits S word n bound rest le = ensures-after (Fits S false n bound) bound word rest (whole_term S [] n) le (λ r within. whole-fits S n bound r within)

-- in the line of the family `own`
own-fits : (S : Signature) (own word : List ℕ) (n bound : ℕ) (rest : List ℕ) → length rest ≤ bound → Ensures (Fits S true n bound) (term_after (whole_term S own) word n rest)
own-fits S own word n bound rest le =
    ensures-after (Fits S true n bound) bound word rest (whole_term S own n) le (λ r within. term-fits S true (symbol S own) (own-symbol-over S own) nested n bound r within)

-- ---- the ends of lines

abbrev pub Good : Signature → ℕ → RawEntry → List ℕ → Type 0
Good S bound e r = IsReadEntry S e × (length r ≤ bound)

ended-fits : (S : Signature) (bound : ℕ) (e : RawEntry) (rest : List ℕ) → IsReadEntry S e → length rest ≤ bound → Ensures (Good S bound) (ended e rest)
ended-fits S bound e rest good le = ensures-after (Good S bound) bound (codes "\n") rest (λ end. Ok (e, end)) le (λ r within. (good, within))

definition-fits : (S : Signature) (bound : ℕ) (rest : List ℕ) → length rest ≤ bound → Ensures (Good S bound) (definition_at S [] rest)
definition-fits S bound rest le =
    ensures-then (Named S [] [] bound) (Good S bound) (new_name S [] [] rest) _ (name-fits S [] [] bound rest le)
    (λ name r1 new. ensures-then (Fits S false 0 bound) (Good S bound) (term_after (whole_term S []) (codes " : ") 0 r1) _ (after-fits S (codes " : ") 0 bound r1 new.1)
    (λ type r2 ft. ensures-then (Fits S false 0 bound) (Good S bound) (term_after (whole_term S []) (codes " = ") 0 r2) _ (after-fits S (codes " = ") 0 bound r2 ft.within)
    (λ body r3 fb. ended-fits S bound (RawDefinition name type body) r3 ((new.0, ft.over, fb.over), (ft.low, fb.low)) fb.within)))

-- ---- instances

family-found-fits : (S : Signature) (bound : ℕ) (o : Option Term) (start rest : List ℕ) → ((n : ℕ) → o ≡ Some (Fam n) → IsFamilyNumber S n) → length rest ≤ bound → Ensures (λ n r. IsFamilyNumber S n × (length r ≤ bound)) (family_found o start rest)
family-found-fits S bound (Some (Fam n)) start rest is le = (is n refl, le)
family-found-fits S bound _ start rest is le = tt

family-name-fits : (S : Signature) (bound : ℕ) (rest : List ℕ) → length rest ≤ bound → Ensures (λ n r. IsFamilyNumber S n × (length r ≤ bound)) (family_name S rest)
family-name-fits S bound rest le =
    family-found-fits S bound (found_symbol S (find S (take (run_len rest) rest))) rest (drop (run_len rest) rest) (family-number S (take (run_len rest) rest))
    (drop-within (run_len rest) bound rest le)

-- a level of the list is below its length
left-below : (left : ℕ → Bool) (n k v : ℕ) → is_left (level_list left n k) v ≡ true → v < k
left-below left n zero v e = absurd (false≢true e)
left-below left n (suc k) zero e = omega arith
left-below left n (suc k) (suc v) e = let lt = left-below left (n + 1) k v e in omega arith

pub levels-below : (S : Signature) (series : Series) (m : ℕ) → is_left (levels_left S series) m ≡ true → m < top
unfolding levels_left
levels-below S series m e = left-below (λ k. not (list_any (is_instance series k) S.entries)) 0 top m e

pub identities-below : (S : Signature) (i : ℕ) → is_left (identities_left S) i ≡ true → i < top
unfolding identities_left
identities-below S i e = left-below (some_level_left S) 0 top i e

eliminator-fits : (S : Signature) (bound : ℕ) (rest : List ℕ) → length rest ≤ bound → Ensures (Good S bound) (eliminator_at S rest)
eliminator-fits S bound rest le =
    ensures-then (λ n r. IsFamilyNumber S n × (length r ≤ bound)) (Good S bound) (family_name S rest) _ (family-name-fits S bound rest le)
    (λ n r1 family. ensures-after (Good S bound) bound (codes " ") r1 _ family.1
    (λ r2 within. ensures-then (IsLevel (levels_left S (Elim n)) bound) (Good S bound) (read_level (levels_left S (Elim n)) r2) _ (read_level-within (levels_left S (Elim n)) bound r2 within)
    (λ m r3 level. ended-fits S bound (RawEliminator n m) r3 ((family.0, level.0), tt) level.1)))

axiom_k-fits : (S : Signature) (bound : ℕ) (rest : List ℕ) → S.has_k ≡ true → length rest ≤ bound → Ensures (Good S bound) (axiom_k_line S rest)
axiom_k-fits S bound rest has le =
    ensures-then (IsLevel (identities_left S) bound) (Good S bound) (read_level (identities_left S) rest) _ (read_level-within (identities_left S) bound rest le)
    (λ i r1 first. ensures-after (Good S bound) bound (codes " ") r1 _ first.1
    (λ r2 within. ensures-then (IsLevel (levels_left S (AxiomK i)) bound) (Good S bound) (read_level (levels_left S (AxiomK i)) r2) _ (read_level-within (levels_left S (AxiomK i)) bound r2 within)
    (λ m r3 level. ended-fits S bound (RawAxiomK i m) r3 ((has, first.0, level.0), tt) level.1)))

-- ---- items that are read one after the other

-- a property of the items so far that is kept with one more is a property of all
collected-fit : {A : Type 0} (P : List A → Type 0) (bound : ℕ) (next : List A → List ℕ → Reading (Option A)) (N : List A → Option A → Type 0) → ((found : List A) (rest : List ℕ) → P found → length rest ≤ bound → Ensures (λ o r. N found o × (length r ≤ bound)) (next found rest)) → ((found : List A) (a : A) → P found → N found (Some a) → P (found ++ a ∷ [])) → (k : ℕ) (found : List A) (rest : List ℕ) → P found → length rest ≤ bound → Ensures (λ xs r. P xs × (length r ≤ bound)) (collected next k found rest)
collected-fit {A} P bound next N step grows zero found rest so le = tt
collected-fit {A} P bound next N step grows (suc k) found rest so le =
    ensures-then (λ o r. N found o × (length r ≤ bound)) (λ xs r. P xs × (length r ≤ bound)) (next found rest) (after_item (collected next k) found) (step found rest so le)
    (λ o r is. item (λ xs r. collected-fit P bound next N step grows k xs r) o r is.0 is.1)
  where
    item : ((xs : List A) (r : List ℕ) → P xs → length r ≤ bound → Ensures (λ ys r. P ys × (length r ≤ bound)) (collected next k xs r)) → (o : Option A) (r : List ℕ) → N found o → length r ≤ bound
        → Ensures (λ xs r. P xs × (length r ≤ bound)) (after_item (collected next k) found o r)
    item others None r new within = (so, within)
    item others (Some a) r new within = others (found ++ a ∷ []) r (grows found a so new) within

-- ---- parameters

abbrev Types : Signature → Telescope → Type 0
Types S tele = AreTypesOver S 0 tele × All IsLow tele

abbrev NextType : Signature → Telescope → Option Term → Type 0
NextType S found None = Unit {0}
NextType S found (Some a) = IsTermOver S false (length found) a × IsLow a

abbrev Next : Signature → ℕ → Telescope → Option Term → List ℕ → Type 0
Next S bound found o r = NextType S found o × (length r ≤ bound)

parameter-fits : (S : Signature) (bound : ℕ) (found : Telescope) (rest : List ℕ) → length rest ≤ bound → Ensures (Next S bound found) (next_parameter S [] (length found) rest)
parameter-fits S bound found rest le =
    ensures-after (Next S bound found) bound (codes " ") rest _ le
    (λ r within. ensures-if (Next S bound found) (first r == 40) (parameter_at S [] (length found) (drop 1 r)) (no_parameter r)
    (λ e. ensures-then (Fits S false (length found) bound) (Next S bound found) (whole_term S [] (length found) (drop 1 r)) _ (whole-fits S (length found) bound (drop 1 r) (drop-within 1 bound r within))
    (λ a r2 fa. ensures-after (Next S bound found) bound (codes ")") r2 (λ end. Ok (Some a, end)) fa.within (λ r3 last. ((fa.over, fa.low), last))))
    (λ e. ensures-after (Next S bound found) bound (codes ": ") r (λ end. Ok (None, end)) within (λ r2 last. (tt, last))))

parameters-fit : (S : Signature) (bound : ℕ) (rest : List ℕ) → length rest ≤ bound → Ensures (λ tele r. Types S tele × (length r ≤ bound)) (parameters_at S [] rest)
parameters-fit S bound rest le =
    collected-fit (Types S) bound (λ found r. next_parameter S [] (length found) r) (NextType S)
    (λ found r types within. parameter-fits S bound found r within)
    (λ found a types is. (types-more S 0 found a types.0 (subst (λ k. IsTermOver S false k a) (from (length found)) is.0), All-push IsLow found a types.1 is.1))
    (length rest) [] rest (tt, All-nil IsLow) le
  where
    from : (k : ℕ) → k ≡ 0 + k
    from k = omega arith

-- ---- constructors of the family `own` with p parameters

abbrev types_of : List RawConstructor → List Term
types_of cs = map (λ c. c.type) cs

abbrev Constructors : Signature → List ℕ → ℕ → List RawConstructor → Type 0
Constructors S own p cs = AreConstructorsOver S own p [] cs × All IsLow (types_of cs)

abbrev NextConstructor : Signature → List ℕ → ℕ → List RawConstructor → Option RawConstructor → Type 0
NextConstructor S own p found None = Unit {0}
NextConstructor S own p found (Some c) = IsNewName S own found c.name × IsTermOver S true p c.type × IsLow c.type

abbrev NextOne : Signature → List ℕ → ℕ → ℕ → List RawConstructor → Option RawConstructor → List ℕ → Type 0
NextOne S own p bound found o r = NextConstructor S own p found o × (length r ≤ bound)

constructors-push : (S : Signature) (own : List ℕ) (p : ℕ) (found : List RawConstructor) (c : RawConstructor) → Constructors S own p found → NextConstructor S own p found (Some c) → Constructors S own p (found ++ c ∷ [])
constructors-push S own p found c are is = (
  constructors-more S own p [] found c are.0 is.0 is.1,
  subst (All IsLow) (sym (map-append (λ (k : RawConstructor). k.type) found (c ∷ []))) (All-push IsLow (types_of found) c.type are.1 is.2),
)

constructor-fits : (S : Signature) (own : List ℕ) (p bound : ℕ) (found : List RawConstructor) (rest : List ℕ) → length rest ≤ bound → Ensures (NextOne S own p bound found) (constructor_at S own p found rest)
constructor-fits S own p bound found rest le =
    ensures-then (Named S own found bound) (NextOne S own p bound found) (new_name S own found rest) _ (name-fits S own found bound rest le)
    (λ name r new. ensures-then (Fits S true p bound) (NextOne S own p bound found) (term_after (whole_term S own) (codes " : ") p r) _ (own-fits S own (codes " : ") p bound r new.1)
    (λ type end is. ((new.0, is.over, is.low), is.within)))

next-fits : (S : Signature) (own : List ℕ) (p bound : ℕ) (found : List RawConstructor) (rest : List ℕ) → length rest ≤ bound → Ensures (NextOne S own p bound found) (next_constructor S own p found rest)
next-fits S own p bound found rest le =
    ensures-after (NextOne S own p bound found) bound (codes " ") rest _ le
    (λ r within. ensures-if (NextOne S own p bound found) (first r == 125) (Ok (None, drop 1 r)) (after (separated found r) (constructor_at S own p found))
    (λ e. (tt, drop-within 1 bound r within)) (λ e. apart found r within))
  where
    apart : (before : List RawConstructor) (r : List ℕ) → length r ≤ bound → Ensures (NextOne S own p bound found) (after (separated before r) (constructor_at S own p found))
    apart [] r within = constructor-fits S own p bound found r within
    apart (c ∷ before) r within = ensures-after (NextOne S own p bound found) bound (codes "; ") r (constructor_at S own p found) within (λ r2 more. constructor-fits S own p bound found r2 more)

constructors-fit : (S : Signature) (own : List ℕ) (p bound : ℕ) (rest : List ℕ) → length rest ≤ bound → Ensures (λ cs r. Constructors S own p cs × (length r ≤ bound)) (constructors_at S own p rest)
constructors-fit S own p bound rest le =
    collected-fit (Constructors S own p) bound (next_constructor S own p) (NextConstructor S own p)
    (λ found r are within. next-fits S own p bound found r within)
    (λ found c are is. constructors-push S own p found c are is)
    (length rest) [] rest (tt, All-nil IsLow) le

-- ---- families, and a whole line

family-fits : (S : Signature) (bound : ℕ) (rest : List ℕ) → length rest ≤ bound → Ensures (Good S bound) (family_at S [] rest)
family-fits S bound rest le =
    ensures-then (Named S [] [] bound) (Good S bound) (new_name S [] [] rest) _ (name-fits S [] [] bound rest le)
    (λ name r1 new. ensures-then (λ tele r. Types S tele × (length r ≤ bound)) (Good S bound) (parameters_at S [] r1) _ (parameters-fit S bound r1 new.1)
    (λ parameters r2 fp. ensures-then (Fits S false (length parameters) bound) (Good S bound) (whole_term S [] (length parameters) r2) _ (whole-fits S (length parameters) bound r2 fp.1)
    (λ type r3 ft. ensures-after (Good S bound) bound (codes " {") r3 (family_after S name parameters type) ft.within
    (λ r4 within. ensures-then (λ cs r. Constructors S name (length parameters) cs × (length r ≤ bound)) (Good S bound) (constructors_at S name (length parameters) r4) _ (constructors-fit S name (length parameters) bound r4 within)
    (λ constructors end fc. ended-fits S bound (RawFamilyOf (record { name = name; parameters = parameters; type = type; constructors = constructors })) end
    (record { name = new.0; parameters = fp.0.0; type = ft.over; constructors = fc.0.0 }, (fp.0.1, ft.low, fc.0.1)) fc.1)))))

-- a line has one byte at least
pub line-fits : (S : Signature) (bound : ℕ) (rest : List ℕ) → length rest ≤ bound + 1 → Ensures (Good S bound) (line_at S [] rest)
line-fits S bound rest le =
    ensures-if (Good S bound) (begins (codes "de") rest) (after (past (codes "def ") rest) (definition_at S [])) _
    (λ e. ensures-past (Good S bound) (codes "def ") rest (definition_at S []) (λ r is. definition-fits S bound r (omega arith)))
    (λ e. ensures-if (Good S bound) (first rest == 101) (after (past (codes "elim ") rest) (eliminator_at S)) _
    (λ e. ensures-past (Good S bound) (codes "elim ") rest (eliminator_at S) (λ r is. eliminator-fits S bound r (omega arith)))
    (λ e. ensures-if (Good S bound) (S.has_k && (first rest == 97)) (after (past (codes "axiomk ") rest) (axiom_k_line S)) _
    (λ e. ensures-past (Good S bound) (codes "axiomk ") rest (axiom_k_line S) (λ r is. axiom_k-fits S bound r (and_parts S.has_k (first rest == 97) e).0 (omega arith)))
    (λ e. ensures-past (Good S bound) (codes "data ") rest (family_at S []) (λ r is. family-fits S bound r (omega arith)))))
