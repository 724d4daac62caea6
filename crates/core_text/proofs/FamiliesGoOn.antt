-- Lines that are read as those of families, and the bytes before the place where such a line is wrong.
use Rattle.std.proofs.Common.{◌≡◌, ℕ, zero, suc, ◌+◌, ◌<◌, ◌^◌, true, false, List, [], ◌∷◌, ◌++◌, length, drop, refl, sym, ap, ◌∙◌, subst, append_assoc, append-nil, arith}
use Rattle.std.specs.Prelude.{◌==◌, Ok, Option, Some, None, codes}
use Rattle.std.proofs.lemmas.List.{length-append}
use Rattle.theory.specs.Terms.{Term, Sort}
use Rattle.theory.specs.Signatures.{Signature, Definition}
use Rattle.theory.proofs.Lists.{slice_get-last, slice_get-longer}
use Rattle.core_sig.specs.Raw.{RawConstructor, RawFamily}
use Rattle.core_text.specs.DeclaredNames.{new_name}
use Rattle.core_text.specs.EntryText.{parameters_text, constructors_text}
use Rattle.core_text.specs.LineReading.{nested, whole_term, after_item, collected, parameter_at, no_parameter, next_parameter, parameters_at, constructor_at, separated, next_constructor, constructors_at, family_after, family_at}
use Rattle.core_text.specs.RawEntries.{RawFamilyOf}
use Rattle.core_text.specs.Reading.{Reading, first, and_then, after, past}
use Rattle.core_text.specs.Spellings.{IsNewName}
use Rattle.core_text.specs.SymbolLookup.{symbol}
use Rattle.core_text.specs.SymbolNames.{own_name, name_at, with_name}
use Rattle.core_text.specs.TermText.{term_text}
use Rattle.core_text.proofs.Completions.{Meets, IsFront, front-less, meets-if, meets-wrong, meets-then, meets-on, meets-word, meets-after}
use Rattle.core_text.proofs.FreshNames.{fresh, letters-for, fresh-name}
use Rattle.core_text.proofs.LinesGoOn.{Goes, Read, line-front, ended-meets, whole-meets}
use Rattle.core_text.proofs.LinesBack.{nested-is, separator, parameters-long}
use Rattle.core_text.proofs.NamesGoOn.{Named, name-meets}
use Rattle.core_text.proofs.Over.{IsTermOver, AreTypesOver, AreConstructorsOver, IsFamilyOver, over-sort, types-more, constructors-more}
use Rattle.core_text.proofs.SymbolOutcomes.{Has}
use Rattle.core_text.proofs.SymbolsOver.{own-symbol-over}
use Rattle.core_text.proofs.SymbolsRead.{symbol-written}
use Rattle.core_text.proofs.TermFronts.{IsText}
use Rattle.core_text.proofs.TermsGoOn.{term-meets}
use Rattle.core_text.proofs.WordsRead.{first-is}

-- ---- items that are read one after the other

-- one item more, or the end
abbrev pub Item : {A : Type 0} → (List A → List ℕ) → List ℕ → (List A → Type 0) → List ℕ → List A → Option A → List ℕ → Type 0
Item so_far end Good whole found None r = whole ≡ (so_far found ++ end) ++ r
Item so_far end Good whole found (Some a) r = Good (found ++ a ∷ []) × (whole ≡ so_far (found ++ a ∷ []) ++ r)

-- all of them
abbrev pub Items : {A : Type 0} → (List A → List ℕ) → List ℕ → (List A → Type 0) → List ℕ → List A → List ℕ → Type 0
Items so_far end Good whole xs r = Good xs × (whole ≡ (so_far xs ++ end) ++ r)

module _ {A : Type 0} (so_far : List A → List ℕ) (end : List ℕ) (Good : List A → Type 0) (V : List ℕ → Type 0) (whole : List ℕ) (next : List A → List ℕ → Reading (Option A)) (fronts : (found : List A) → Good found → IsFront V (so_far found)) (each : (found : List A) (rest : List ℕ) → Good found → whole ≡ so_far found ++ rest → Meets (Item so_far end Good whole found) V whole (next found rest)) where
  collected-meets : (k : ℕ) (found : List A) (rest : List ℕ) → Good found → whole ≡ so_far found ++ rest → Meets (Items so_far end Good whole) V whole (collected next k found rest)
  collected-meets zero found rest good at = meets-wrong (Items so_far end Good whole) V (so_far found) rest whole at (fronts found good)
  collected-meets (suc k) found rest good at =
      meets-on (Item so_far end Good whole found) (Items so_far end Good whole) V whole (next found rest) (after_item (collected next k) found) (each found rest good at)
      (λ o r is. by (λ a r g so. collected-meets k (found ++ a ∷ []) r g so) o r is)
    where
      by : ((a : A) (r : List ℕ) → Good (found ++ a ∷ []) → whole ≡ so_far (found ++ a ∷ []) ++ r → Meets (Items so_far end Good whole) V whole (collected next k (found ++ a ∷ []) r)) → (o : Option A) (r : List ℕ) → Item so_far end Good whole found o r → Meets (Items so_far end Good whole) V whole (after_item (collected next k) found o r)
      by others None r is = (good, is)
      by others (Some a) r is = others a r is.0 is.1

-- ---- the parts of a family so far

abbrev raw_family : List ℕ → List Term → Term → List RawConstructor → RawFamily
raw_family name parameters type constructors = record { name = name; parameters = parameters; type = type; constructors = constructors }

abbrev raw_constructor : List ℕ → Term → RawConstructor
raw_constructor name type = record { name = name; type = type }

parameters-append : (T : Signature) (xs : List Term) (a : Term) → parameters_text T (xs ++ a ∷ []) ≡ parameters_text T xs ++ (codes " (" ++ (term_text T a ++ codes ")"))
parameters-append T [] a = simp (append_assoc, append-nil)
parameters-append T (x ∷ xs) a = ap (λ r. codes " (" ++ term_text T x ++ codes ")" ++ r) (parameters-append T xs a) ∙ simp append_assoc

abbrev constructor_text : Signature → RawConstructor → List ℕ
constructor_text T c = c.name ++ (codes " : " ++ term_text T c.type)

constructors-append : (T : Signature) (found : List RawConstructor) (c : RawConstructor) → constructors_text T (codes " ") (found ++ c ∷ []) ≡ constructors_text T (codes " ") found ++ (separator found ++ constructor_text T c)
constructors-append T [] c = alone (codes " ") c.name (codes " : ") (term_text T c.type)
  where
    alone : (a b c d : List ℕ) → (((a ++ b) ++ c) ++ d) ++ [] ≡ a ++ (b ++ (c ++ d))
    alone a b c d = simp (append_assoc, append-nil)
constructors-append T (d ∷ found) c = by (codes " ") d found
  where
    both : (f a b c d : List ℕ) → f ++ ((((a ++ b) ++ c) ++ d) ++ []) ≡ (f ++ []) ++ (a ++ (b ++ (c ++ d)))
    both f a b c d = simp (append_assoc, append-nil)

    by : (before : List ℕ) (d : RawConstructor) (found : List RawConstructor) → constructors_text T before (d ∷ (found ++ c ∷ [])) ≡ constructors_text T before (d ∷ found) ++ (codes " ; " ++ constructor_text T c)
    by before d [] = both (before ++ d.name ++ codes " : " ++ term_text T d.type) (codes " ; ") c.name (codes " : ") (term_text T c.type)
    by before d (e ∷ found) =
        ap (λ r. before ++ d.name ++ codes " : " ++ term_text T d.type ++ r) (by (codes " ; ") e found)
        ∙ sym (append_assoc (before ++ d.name ++ codes " : " ++ term_text T d.type) (constructors_text T (codes " ; ") (e ∷ found)) (codes " ; " ++ constructor_text T c))

-- ---- the line of the family with that name

module _ (S : Signature) (name : List ℕ) (new : IsNewName S [] [] name) where
  abbrev T : Signature
  T = with_name S name

  has : Has T S
  has n e is = slice_get-longer S.entries (Definition name (Sort 0) (Sort 0) ∷ []) n e is

  own : name_at T (length S.entries) ≡ name
  own = ap own_name (slice_get-last S.entries (Definition name (Sort 0) (Sort 0)))

  -- ---- parameters

  abbrev head : List Term → List ℕ
  head parameters = (codes "data " ++ name) ++ parameters_text T parameters

  abbrev Parameters : List Term → Type 0
  Parameters found = AreTypesOver S 0 found

  plain-over : (parameters : List Term) → Parameters parameters → (type : Term) → IsTermOver S false (length parameters) type → IsFamilyOver S (raw_family name parameters type [])
  plain-over parameters are type over = record { name = new; parameters = are; type = over; constructors = tt }

  -- with the type
  type-front : (parameters : List Term) → Parameters parameters → (type : Term) → IsTermOver S false (length parameters) type → IsFront (Goes S) (((head parameters ++ codes " : ") ++ term_text T type) ++ codes " {")
  type-front parameters are type over =
      line-front S (((head parameters ++ codes " : ") ++ term_text T type) ++ codes " {") (codes " }\n") (RawFamilyOf (raw_family name parameters type [])) (seven (codes "data ") name (parameters_text T parameters) (codes " : ") (term_text T type) (codes " {") (codes " }\n")) (plain-over parameters are type over)
    where
      seven : (a b c d e f g : List ℕ) → (((((a ++ b) ++ c) ++ d) ++ e) ++ f) ++ g ≡ a ++ (b ++ (c ++ (d ++ (e ++ (f ++ g)))))
      seven a b c d e f g = simp append_assoc

  -- with the colon
  colon-front : (parameters : List Term) → Parameters parameters → IsFront (Goes S) (head parameters ++ codes " : ")
  colon-front parameters are =
      front-less (Goes S) (head parameters ++ codes " : ") (term_text T (Sort 0))
      (front-less (Goes S) ((head parameters ++ codes " : ") ++ term_text T (Sort 0)) (codes " {") (type-front parameters are (Sort 0) (over-sort S false (length parameters))))

  split-colon : (h : List ℕ) → h ++ codes " : " ≡ (h ++ codes " ") ++ codes ": "
  split-colon h = sym (append_assoc h (codes " ") (codes ": "))

  head-front : (parameters : List Term) → Parameters parameters → IsFront (Goes S) (head parameters)
  head-front parameters are = front-less (Goes S) (head parameters) (codes " : ") (colon-front parameters are)

  head-more : (found : List Term) (a : Term) → head (found ++ a ∷ []) ≡ head found ++ (codes " (" ++ (term_text T a ++ codes ")"))
  head-more found a = ap (λ p. (codes "data " ++ name) ++ p) (parameters-append T found a) ∙ sym (append_assoc (codes "data " ++ name) (parameters_text T found) _)

  module _ (whole : List ℕ) (short : length whole < 2 ^ 33) where
    few : (found : List Term) (rest : List ℕ) → whole ≡ head found ++ rest → length found < 2 ^ 33
    few found rest at =
        omega (arith, short, parameters-long T found, ap length at, length-append (head found) rest, length-append (codes "data " ++ name) (parameters_text T found))

    abbrev NextParameter : List Term → Option Term → List ℕ → Type 0
    NextParameter = Item head (codes " : ") Parameters whole

    -- after its parenthesis
    parameter-meets : (found : List Term) (rest : List ℕ) → Parameters found → length found < 2 ^ 33 → whole ≡ (head found ++ codes " (") ++ rest → Meets (NextParameter found) (Goes S) whole (parameter_at S [] (length found) rest)
    parameter-meets found rest are small at =
        meets-then (λ t r. (rest ≡ term_text T t ++ r) × IsTermOver S false (length found) t) (NextParameter found) (IsText T S false (length found)) (Goes S) (head found ++ codes " (") rest whole (whole_term S [] (length found) rest) _ at
        (λ x u. front-less (Goes S) ((head found ++ codes " (") ++ x) (codes ")") (closed u.0 x u.1 u.2))
        (whole-meets T S has (length found) rest small)
        (λ a r fa. let past = at ∙ (ap (λ s. (head found ++ codes " (") ++ s) fa.0 ∙ sym (append_assoc (head found ++ codes " (") (term_text T a) r)) in
        meets-word (NextParameter found) (Goes S) ((head found ++ codes " (") ++ term_text T a) (codes ")") r whole (λ end. Ok (Some a, end)) past (closed a (term_text T a) refl fa.1)
        (λ end so. (
          types-more S 0 found a are (subst (λ k. IsTermOver S false k a) (none (length found)) fa.1),
          past ∙ (ap (λ s. ((head found ++ codes " (") ++ term_text T a) ++ s) so ∙ (joined (head found) (codes " (") (term_text T a) (codes ")") end ∙ ap (λ h. h ++ end) (sym (head-more found a)))),
        )))
      where
        none : (n : ℕ) → n ≡ 0 + n
        none n = omega arith

        joined : (h a b c r : List ℕ) → ((h ++ a) ++ b) ++ (c ++ r) ≡ (h ++ (a ++ (b ++ c))) ++ r
        joined h a b c r = simp append_assoc

        grouped : (h a b c : List ℕ) → ((h ++ a) ++ b) ++ c ≡ h ++ (a ++ (b ++ c))
        grouped h a b c = simp append_assoc

        closed : (a : Term) (x : List ℕ) → x ≡ term_text T a → IsTermOver S false (length found) a → IsFront (Goes S) (((head found ++ codes " (") ++ x) ++ codes ")")
        closed a x is over =
            subst (IsFront (Goes S)) (head-more found a ∙ (sym (grouped (head found) (codes " (") (term_text T a) (codes ")")) ∙ ap (λ y. ((head found ++ codes " (") ++ y) ++ codes ")") (sym is)))
            (head-front (found ++ a ∷ []) (types-more S 0 found a are (subst (λ k. IsTermOver S false k a) (none (length found)) over)))

    next-parameter-meets : (found : List Term) (rest : List ℕ) → Parameters found → whole ≡ head found ++ rest → Meets (NextParameter found) (Goes S) whole (next_parameter S [] (length found) rest)
    next-parameter-meets found rest are at =
        let start = front-less (Goes S) (head found ++ codes " ") (codes ": ") (subst (IsFront (Goes S)) (split-colon (head found)) (colon-front found are)) in
        meets-word (NextParameter found) (Goes S) (head found) (codes " ") rest whole _ at start
        (λ r so. let past = at ∙ (ap (λ s. head found ++ s) so ∙ sym (append_assoc (head found) (codes " ") r)) in
        meets-if (NextParameter found) (Goes S) whole (first r == 40) (parameter_at S [] (length found) (drop 1 r)) (no_parameter r)
        (λ e. parameter-meets found (drop 1 r) are (few found rest at) (at ∙ (ap (λ s. head found ++ s) (so ∙ ap (λ s. codes " " ++ s) (first-is 40 r (omega arith) e)) ∙ sym (append_assoc (head found) (codes " (") (drop 1 r)))))
        (λ e. meets-word (NextParameter found) (Goes S) (head found ++ codes " ") (codes ": ") r whole (λ end. Ok (None, end)) past (subst (IsFront (Goes S)) (split-colon (head found)) (colon-front found are))
        (λ end is. past ∙ (ap (λ s. (head found ++ codes " ") ++ s) is ∙ (sym (append_assoc (head found ++ codes " ") (codes ": ") end) ∙ ap (λ h. h ++ end) (sym (split-colon (head found))))))))

    parameters-meet : (rest : List ℕ) → whole ≡ head [] ++ rest → Meets (Items head (codes " : ") Parameters whole) (Goes S) whole (parameters_at S [] rest)
    parameters-meet rest at =
        collected-meets head (codes " : ") Parameters (Goes S) whole (λ found r. next_parameter S [] (length found) r) head-front next-parameter-meets (length rest) [] rest tt at

    -- ---- constructors, after the parameters and the type

    module _ (parameters : List Term) (type : Term) (are : Parameters parameters) (over : IsTermOver S false (length parameters) type) (small : length parameters < 2 ^ 33) where
      abbrev p : ℕ
      p = length parameters

      abbrev body : List RawConstructor → List ℕ
      body cs = (((head parameters ++ codes " : ") ++ term_text T type) ++ codes " {") ++ constructors_text T (codes " ") cs

      abbrev Constructors : List RawConstructor → Type 0
      Constructors cs = AreConstructorsOver S name p [] cs

      family-over : (cs : List RawConstructor) → Constructors cs → IsFamilyOver S (raw_family name parameters type cs)
      family-over cs good = record { name = new; parameters = are; type = over; constructors = good }

      body-text : (cs : List RawConstructor) (more : List ℕ) → body cs ++ more ≡ codes "data " ++ (name ++ (parameters_text T parameters ++ (codes " : " ++ (term_text T type ++ (codes " {" ++ (constructors_text T (codes " ") cs ++ more))))))
      body-text cs more = eight (codes "data ") name (parameters_text T parameters) (codes " : ") (term_text T type) (codes " {") (constructors_text T (codes " ") cs) more
        where
          eight : (a b c d e f g h : List ℕ) → ((((((a ++ b) ++ c) ++ d) ++ e) ++ f) ++ g) ++ h ≡ a ++ (b ++ (c ++ (d ++ (e ++ (f ++ (g ++ h))))))
          eight a b c d e f g h = simp append_assoc

      end-front : (cs : List RawConstructor) → Constructors cs → IsFront (Goes S) (body cs ++ codes " }")
      end-front cs good =
          line-front S (body cs ++ codes " }") (codes "\n") (RawFamilyOf (raw_family name parameters type cs)) (append_assoc (body cs) (codes " }") (codes "\n") ∙ body-text cs (codes " }\n")) (family-over cs good)

      body-front : (cs : List RawConstructor) → Constructors cs → IsFront (Goes S) (body cs)
      body-front cs good = front-less (Goes S) (body cs) (codes " }") (end-front cs good)

      body-more : (found : List RawConstructor) (c : RawConstructor) → body (found ++ c ∷ []) ≡ (body found ++ separator found) ++ constructor_text T c
      body-more found c =
          ap (λ x. (((head parameters ++ codes " : ") ++ term_text T type) ++ codes " {") ++ x) (constructors-append T found c)
          ∙ four (((head parameters ++ codes " : ") ++ term_text T type) ++ codes " {") (constructors_text T (codes " ") found) (separator found) (constructor_text T c)
        where
          four : (a b c d : List ℕ) → a ++ (b ++ (c ++ d)) ≡ ((a ++ b) ++ c) ++ d
          four a b c d = simp append_assoc

      abbrev NextConstructor : List RawConstructor → Option RawConstructor → List ℕ → Type 0
      NextConstructor = Item body (codes " }") Constructors whole

      own-meets : (rest : List ℕ) → Meets (λ t r. (rest ≡ term_text T t ++ r) × IsTermOver S true p t) (IsText T S true p) rest (whole_term S name p rest)
      own-meets rest =
          term-meets T S true (symbol S name) (symbol-written T S name has (λ some. own)) (λ x t e. (own-symbol-over S name x t e).over) nested p rest (omega (arith, nested-is))

      -- after what separates it from the others
      constructor-meets : (found : List RawConstructor) (rest : List ℕ) → Constructors found → whole ≡ (body found ++ separator found) ++ rest → Meets (NextConstructor found) (Goes S) whole (constructor_at S name p found rest)
      constructor-meets found rest good at =
          let front = body found ++ separator found in
          meets-then (Named S name found rest) (NextConstructor found) (IsNewName S name found) (Goes S) front rest whole (new_name S name found rest) _ at
          (λ x u. front-less (Goes S) (front ++ x) (codes " : " ++ term_text T (Sort 0)) (more x (Sort 0) u (over-sort S true p)))
          (name-meets S name found rest)
          (λ x r fx. let past = at ∙ (ap (λ s. front ++ s) fx.0 ∙ sym (append_assoc front x r)) in
          meets-after (λ s t end. (s ≡ term_text T t ++ end) × IsTermOver S true p t) (NextConstructor found) (IsText T S true p) (Goes S) (front ++ x) (codes " : ") r whole (whole_term S name p) _ past
          (front-less (Goes S) ((front ++ x) ++ codes " : ") (term_text T (Sort 0)) (subst (IsFront (Goes S)) (sym (append_assoc (front ++ x) (codes " : ") (term_text T (Sort 0)))) (more x (Sort 0) fx.1 (over-sort S true p))))
          (λ y u. subst (λ z. IsFront (Goes S) ((front ++ x) ++ (codes " : " ++ z))) (sym u.1) (more x u.0 fx.1 u.2))
          own-meets
          (λ t s end so ft. (
            constructors-more S name p [] found (raw_constructor x t) good fx.1 ft.1,
            past ∙ (ap (λ z. (front ++ x) ++ z) (so ∙ ap (λ z. codes " : " ++ z) ft.0) ∙ (joined front x (codes " : ") (term_text T t) end ∙ ap (λ b. b ++ end) (sym (body-more found (raw_constructor x t))))),
          )))
        where
          joined : (a b c d e : List ℕ) → (a ++ b) ++ (c ++ (d ++ e)) ≡ (a ++ (b ++ (c ++ d))) ++ e
          joined a b c d e = simp append_assoc

          more : (x : List ℕ) (t : Term) → IsNewName S name found x → IsTermOver S true p t → IsFront (Goes S) (((body found ++ separator found) ++ x) ++ (codes " : " ++ term_text T t))
          more x t fresh is =
              subst (IsFront (Goes S)) (body-more found (raw_constructor x t) ∙ sym (append_assoc (body found ++ separator found) x (codes " : " ++ term_text T t)))
              (body-front (found ++ raw_constructor x t ∷ []) (constructors-more S name p [] found (raw_constructor x t) good fresh is))

      -- one constructor more, or the brace
      next-constructor-meets : (found : List RawConstructor) (rest : List ℕ) → Constructors found → whole ≡ body found ++ rest → Meets (NextConstructor found) (Goes S) whole (next_constructor S name p found rest)
      next-constructor-meets found rest good at =
          meets-word (NextConstructor found) (Goes S) (body found) (codes " ") rest whole _ at
          (front-less (Goes S) (body found ++ codes " ") (codes "}") (subst (IsFront (Goes S)) (sym (append_assoc (body found) (codes " ") (codes "}"))) (end-front found good)))
          (λ r so. let past = at ∙ (ap (λ s. body found ++ s) so ∙ sym (append_assoc (body found) (codes " ") r)) in
          meets-if (NextConstructor found) (Goes S) whole (first r == 125) (Ok (None, drop 1 r)) (after (separated found r) (constructor_at S name p found))
          (λ e. at ∙ (ap (λ s. body found ++ s) (so ∙ ap (λ s. codes " " ++ s) (first-is 125 r (omega arith) e)) ∙ sym (append_assoc (body found) (codes " }") (drop 1 r))))
          (λ e. apart found good r past))
        where
          apart : (found : List RawConstructor) → Constructors found → (r : List ℕ) → whole ≡ (body found ++ codes " ") ++ r → Meets (NextConstructor found) (Goes S) whole (after (separated found r) (constructor_at S name p found))
          apart [] good r at = constructor-meets [] r good at
          apart (c ∷ found) good r at =
              meets-word (NextConstructor (c ∷ found)) (Goes S) (body (c ∷ found) ++ codes " ") (codes "; ") r whole (constructor_at S name p (c ∷ found)) at
              (subst (IsFront (Goes S)) (sym (append_assoc (body (c ∷ found)) (codes " ") (codes "; "))) (separator-front (c ∷ found) good (codes " ; ") refl))
              (λ s so. constructor-meets (c ∷ found) s good (at ∙ (ap (λ x. (body (c ∷ found) ++ codes " ") ++ x) so ∙ joined (body (c ∷ found)) (codes " ") (codes "; ") s)))
            where
              joined : (a b c d : List ℕ) → (a ++ b) ++ (c ++ d) ≡ (a ++ (b ++ c)) ++ d
              joined a b c d = simp append_assoc

              separator-front : (found : List RawConstructor) → Constructors found → (x : List ℕ) → separator found ≡ x → IsFront (Goes S) (body found ++ x)
              separator-front found good x is =
                  let k = letters-for S name found in
                  let c = raw_constructor (fresh k) (Sort 0) in
                  subst (λ s. IsFront (Goes S) (body found ++ s)) is
                  (front-less (Goes S) (body found ++ separator found) (constructor_text T c)
                  (subst (IsFront (Goes S)) (body-more found c) (body-front (found ++ c ∷ []) (constructors-more S name p [] found c good (fresh-name S name found) (over-sort S true p)))))

      constructors-meet : (rest : List ℕ) → whole ≡ body [] ++ rest → Meets (Items body (codes " }") Constructors whole) (Goes S) whole (constructors_at S name p rest)
      constructors-meet rest at =
          collected-meets body (codes " }") Constructors (Goes S) whole (next_constructor S name p) body-front next-constructor-meets (length rest) [] rest tt at

      past-meets : (rest : List ℕ) → whole ≡ body [] ++ rest → Meets (Read S whole) (Goes S) whole (family_after S name parameters type rest)
      past-meets rest at =
          meets-on (Items body (codes " }") Constructors whole) (Read S whole) (Goes S) whole (constructors_at S name p rest) _ (constructors-meet rest at)
          (λ cs end is. ended-meets S whole (body cs ++ codes " }") (RawFamilyOf (raw_family name parameters type cs)) end is.1
          (append_assoc (body cs) (codes " }") (codes "\n") ∙ body-text cs (codes " }\n")) (family-over cs is.0))

    -- ---- after the name

    name-past : (rest : List ℕ) → whole ≡ head [] ++ rest → Meets (Read S whole) (Goes S) whole (and_then (parameters_at S [] rest) (λ parameters r2. and_then (whole_term S [] (length parameters) r2) (λ type r3. after (past (codes " {") r3) (family_after S name parameters type))))
    name-past rest at =
        meets-on (Items head (codes " : ") Parameters whole) (Read S whole) (Goes S) whole (parameters_at S [] rest) _ (parameters-meet rest at)
        (λ parameters r2 ps. let small = few parameters (codes " : " ++ r2) (ps.1 ∙ append_assoc (head parameters) (codes " : ") r2) in
        meets-then (λ t r. (r2 ≡ term_text T t ++ r) × IsTermOver S false (length parameters) t) (Read S whole) (IsText T S false (length parameters)) (Goes S) (head parameters ++ codes " : ") r2 whole (whole_term S [] (length parameters) r2) _ ps.1
        (λ x u. subst (λ y. IsFront (Goes S) ((head parameters ++ codes " : ") ++ y)) (sym u.1) (front-less (Goes S) ((head parameters ++ codes " : ") ++ term_text T u.0) (codes " {") (type-front parameters ps.0 u.0 u.2)))
        (whole-meets T S has (length parameters) r2 small)
        (λ type r3 ft. let past = ps.1 ∙ (ap (λ s. (head parameters ++ codes " : ") ++ s) ft.0 ∙ sym (append_assoc (head parameters ++ codes " : ") (term_text T type) r3)) in
        meets-word (Read S whole) (Goes S) ((head parameters ++ codes " : ") ++ term_text T type) (codes " {") r3 whole (family_after S name parameters type) past (type-front parameters ps.0 type ft.1)
        (λ r4 so. past-meets parameters type ps.0 ft.1 small r4
        (past ∙ (ap (λ s. ((head parameters ++ codes " : ") ++ term_text T type) ++ s) so ∙ (sym (append_assoc ((head parameters ++ codes " : ") ++ term_text T type) (codes " {") r4) ∙ ap (λ b. b ++ r4) (sym (append-nil (((head parameters ++ codes " : ") ++ term_text T type) ++ codes " {")))))))))

pub family-meets : (S : Signature) (rest : List ℕ) → length rest < 2 ^ 32 → Meets (Read S (codes "data " ++ rest)) (Goes S) (codes "data " ++ rest) (family_at S [] rest)
family-meets S rest short =
    let whole = codes "data " ++ rest in
    meets-then (Named S [] [] rest) (Read S whole) (IsNewName S [] []) (Goes S) (codes "data ") rest whole (new_name S [] [] rest) _ refl
    (λ name new. subst (IsFront (Goes S)) (append-nil (codes "data " ++ name)) (head-front S name new [] tt))
    (name-meets S [] [] rest)
    (λ name r fn. name-past S name fn.1 whole (omega (arith, short, length-append (codes "data ") rest)) r
    (ap (λ s. codes "data " ++ s) fn.0 ∙ (sym (append_assoc (codes "data ") name r) ∙ ap (λ h. h ++ r) (sym (append-nil (codes "data " ++ name))))))
