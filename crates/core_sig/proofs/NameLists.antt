-- Lists of names: names that are new to one, and how those of entries are joined.
use Rattle.std.proofs.Common.{◌≡◌, ◌≢◌, ℕ, suc, ◌+◌, ◌-◌, ◌<◌, ◌≤◌, Bool, true, false, cond, List, [], ◌∷◌, ◌++◌, map, take, drop, length, None, Some, bytes_eq, get_or, refl, ap, ap₂, sym, ◌∙◌, subst, arith, append_assoc, add-one}
use Rattle.std.proofs.lemmas.List.{map-append, length-append, length-map, length-take-le, take-take, take-append-drop, append-nil}
use Rattle.std.proofs.lemmas.Slice.Eq.{bytes_eq-Decides}
use Rattle.std.proofs.Math.Seq.{take-append_seam, take-suc, drop-cons}
use Rattle.std.specs.Map.{lookup}
use Rattle.theory.specs.Signatures as signature
use Rattle.theory.specs.Signatures.{names_of}
use Rattle.core_sig.specs.Meanings.{constructor_of, entry_of}
use Rattle.core_sig.specs.Names.{AreNew, named, named_by, named_constructors}
use Rattle.core_sig.specs.declared.entry.Entry.{Entry}
use Rattle.core_sig.specs.declared.entry.Entry.TheVariants.{Family as FamilyEntry}
use Rattle.core_sig.specs.declared.family.Family.{Family}
use Rattle.core_sig.specs.declared.entry.Found.{Found}
use Rattle.core_sig.specs.declared.entry.Found.TheVariants.{Con, Entry as FoundEntry}
use Rattle.core_sig.specs.declared.family.Constructor.{Constructor}

-- the names of constructors are those of the constructors that they stand for
pub names-constructors : (p : ℕ) (cons : List Constructor) → map (λ c. c.name) (map (constructor_of p) cons) ≡ map (λ c. c.name) cons
names-constructors p [] = refl
names-constructors p (c ∷ cons) = ap (λ names. c.name ∷ names) (names-constructors p cons)

pub length-named_constructors : (n number : ℕ) (names : List (List ℕ)) → length (named_constructors n number names) ≡ length names
length-named_constructors n number [] = refl
length-named_constructors n number (name ∷ names) = ap (λ k. suc k) (length-named_constructors n (number + 1) names)

pub named_constructors-append : (n number : ℕ) (xs ys : List (List ℕ)) → named_constructors n number (xs ++ ys) ≡ named_constructors n number xs ++ named_constructors n (number + length xs) ys
named_constructors-append n number [] ys = ap (λ k. named_constructors n k ys) (omega arith)
named_constructors-append n number (x ∷ xs) ys =
    ap (λ names. (x, Con n number) ∷ names) (named_constructors-append n (number + 1) xs ys)
    ∙ ap (λ k. (x, Con n number) ∷ (named_constructors n (number + 1) xs ++ named_constructors n k ys)) (omega arith)

-- an entry brings as many names whatever its number
pub length-named_by : (m n : ℕ) (e : signature.Entry) → length (named_by m e) ≡ length (named_by n e)
length-named_by m n (signature.FamilyOf f) =
    ap (λ k. suc k) (length-named_constructors m 0 (map (λ c. c.name) f.constructors) ∙ sym (length-named_constructors n 0 (map (λ c. c.name) f.constructors)))
length-named_by m n (signature.EliminatorAt f l) = refl
length-named_by m n (signature.AxiomKAt i l) = refl
length-named_by m n (signature.Definition name type body) = refl

-- the names of two lists of entries, one after the other
pub named-append : (n : ℕ) (xs ys : List signature.Entry) → named n (xs ++ ys) ≡ named n xs ++ named (n + length xs) ys
named-append n [] ys = ap (λ k. named k ys) (omega arith)
named-append n (x ∷ xs) ys =
    ap (λ names. named_by n x ++ names) (named-append (n + 1) xs ys)
    ∙ (sym (append_assoc (named_by n x) (named (n + 1) xs) (named (n + 1 + length xs) ys))
    ∙ ap (λ k. (named_by n x ++ named (n + 1) xs) ++ named k ys) (omega arith))

-- the names of the first n + 1 entries are those of the first n and of entry n
pub length-named-suc : (es : List Entry) (n count : ℕ) (d : Entry) → n < length es → count ≡ length (named_by 0 (entry_of (get_or es n d))) → length (named 0 (map entry_of (take (suc n) es))) ≡ length (named 0 (map entry_of (take n es))) + count
length-named-suc es n count d lt is =
    ap (λ xs. length (named 0 (map entry_of xs))) (take-suc es n d lt)
    ∙ (ap (λ xs. length (named 0 xs)) (map-append entry_of (take n es) (get_or es n d ∷ []))
    ∙ (ap length (named-append 0 (map entry_of (take n es)) (entry_of (get_or es n d) ∷ []))
    ∙ (length-append (named 0 (map entry_of (take n es))) _
    ∙ ap (λ k. length (named 0 (map entry_of (take n es))) + k)
    (ap length (append-nil (named_by (0 + length (map entry_of (take n es))) (entry_of (get_or es n d)))) ∙ (length-named_by _ 0 (entry_of (get_or es n d)) ∙ sym is)))))

-- the names of the first entries come first
pub take-named : (es : List Entry) (n : ℕ) → take (length (named 0 (map entry_of (take n es)))) (named 0 (map entry_of es)) ≡ named 0 (map entry_of (take n es))
take-named es n =
    ap (λ xs. take (length (named 0 (map entry_of (take n es)))) (named 0 xs)) (sym (ap (map entry_of) (take-append-drop n es)) ∙ map-append entry_of (take n es) (drop n es))
    ∙ (ap (take (length (named 0 (map entry_of (take n es))))) (named-append 0 (map entry_of (take n es)) (map entry_of (drop n es)))
    ∙ take-append_seam (named 0 (map entry_of (take n es))) _)

lookup-two : (test : List ℕ → Bool) (known : List (List ℕ × Found)) (name : List ℕ) (found : Found) → lookup test known ≡ None → test name ≡ false → lookup test (known ++ (name, found) ∷ []) ≡ None
lookup-two test [] name found none differs = ap (λ b. cond b (Some found) None) differs
lookup-two test (p ∷ known) name found none differs = by (test p.0) none (λ h. lookup-two test known name found h differs)
  where
    by : (b : Bool) → cond b (Some p.1) (lookup test known) ≡ None → (lookup test known ≡ None → lookup test (known ++ (name, found) ∷ []) ≡ None) → cond b (Some p.1) (lookup test (known ++ (name, found) ∷ [])) ≡ None
    by true h rest = cc
    by false h rest = rest h

pub differs : (x y : List ℕ) → x ≢ y → bytes_eq x y ≡ false
differs x y h = by (bytes_eq x y) refl
  where
    by : (b : Bool) → bytes_eq x y ≡ b → bytes_eq x y ≡ false
    by true e = absurd (h ((bytes_eq-Decides x y).0 e))
    by false e = e

-- once the first name is known, the others are still new
pub new-tail : (known : List (List ℕ × Found)) (name : List ℕ) (found : Found) (names : List (List ℕ)) → AreNew known (name ∷ names) → AreNew (known ++ (name, found) ∷ []) names
new-tail known name found names new = record {
  unknown = λ k d lt. lookup-two (bytes_eq (get_or names k d)) known name found (new.unknown (suc k) d (omega arith)) (differs (get_or names k d) name (λ e. new.distinct 0 (suc k) d (omega arith) (omega arith) (sym e)));
  distinct = λ i j d lt within. new.distinct (suc i) (suc j) d (omega arith) (omega arith);
}

-- constructor n is new where those from n on are
pub new-at : (known : List (List ℕ × Found)) (cons : List Constructor) (n : ℕ) (c : Constructor) → n < length cons → c ≡ get_or cons n c → AreNew known (map (λ k. k.name) (drop n cons)) → AreNew known (c.name ∷ map (λ k. k.name) (drop (n + 1) cons))
new-at known cons n c lt is new =
    subst (AreNew known) (ap (map (λ k. k.name)) (drop-cons cons n c lt ∙ ap₂ ◌∷◌ (sym is) (ap (λ k. drop k cons) (sym (add-one n))))) new

-- one constructor more
pub named_constructors-more : (f n : ℕ) (cons : List Constructor) (c : Constructor) → n < length cons → c ≡ get_or cons n c → named_constructors f 0 (map (λ k. k.name) (take (n + 1) cons)) ≡ named_constructors f 0 (map (λ k. k.name) (take n cons)) ++ (c.name, Con f n) ∷ []
named_constructors-more f n cons c lt is =
    ap (λ xs. named_constructors f 0 (map (λ k. k.name) xs)) (ap (λ k. take k cons) (add-one n) ∙ (take-suc cons n c lt ∙ ap (λ k. take n cons ++ k ∷ []) (sym is)))
    ∙ (ap (named_constructors f 0) (map-append (λ k. k.name) (take n cons) (c ∷ []))
    ∙ (named_constructors-append f 0 (map (λ k. k.name) (take n cons)) (c.name ∷ [])
    ∙ ap (λ k. named_constructors f 0 (map (λ k. k.name) (take n cons)) ++ (c.name, Con f k) ∷ []) counted))
  where
    counted : 0 + length (map (λ k. k.name) (take n cons)) ≡ n
    counted = omega (arith, length-map (take n cons) (λ k. k.name), length-take-le n cons)

pub length-entry_names : (f : Family) → length (named_by 0 (entry_of (FamilyEntry f))) ≡ 1 + length f.cons
length-entry_names f =
    omega (arith, length-named_constructors 0 0 (map (λ c. c.name) (map (constructor_of (length f.params)) f.cons)), length-map f.cons (constructor_of (length f.params)), length-map (map (constructor_of (length f.params)) f.cons) (λ c. c.name))

-- the names of a family are new
pub new-family : (known : List (List ℕ × Found)) (f : Family) → AreNew known (names_of (entry_of (FamilyEntry f))) → AreNew known (f.name ∷ map (λ c. c.name) f.cons)
new-family known f new = subst (λ names. AreNew known (f.name ∷ names)) (names-constructors (length f.params) f.cons) new

-- the names of a family are its own and those of its constructors
pub named_by-family : (n : ℕ) (f : Family) → named_by n (entry_of (FamilyEntry f)) ≡ (f.name, FoundEntry n) ∷ named_constructors n 0 (map (λ c. c.name) f.cons)
named_by-family n f = ap (λ names. (f.name, FoundEntry n) ∷ named_constructors n 0 names) (names-constructors (length f.params) f.cons)

-- the names of one entry more come last
pub named-push : (es : List Entry) (e : Entry) → named 0 (map entry_of (es ++ e ∷ [])) ≡ named 0 (map entry_of es) ++ named_by (length es) (entry_of e)
named-push es e =
    ap (named 0) (map-append entry_of es (e ∷ []))
    ∙ (named-append 0 (map entry_of es) (entry_of e ∷ [])
    ∙ ap (λ names. named 0 (map entry_of es) ++ names) (append-nil (named_by (0 + length (map entry_of es)) (entry_of e)) ∙ ap (λ k. named_by k (entry_of e)) counted))
  where
    counted : 0 + length (map entry_of es) ≡ length es
    counted = omega (arith, length-map es entry_of)

-- a list that keeps one with names after xs keeps xs
pub take-kept : (xs ys zs kept : List (List ℕ × Found)) → zs ≡ xs ++ ys → take (length zs) kept ≡ zs → take (length xs) kept ≡ xs
take-kept xs ys zs kept is keeps =
    sym (take-take (length xs) (length zs) kept (omega (arith, ap length is, length-append xs ys)))
    ∙ (ap (take (length xs)) (keeps ∙ is) ∙ take-append_seam xs ys)

-- the first `at` entries and the first `at - 1`
pub length-named-before : (es : List Entry) (at count : ℕ) (e : Entry) → 0 < at → at ≤ length es → e ≡ get_or es (at - 1) e → count ≡ length (named_by 0 (entry_of e)) → length (named 0 (map entry_of (take at es))) ≡ length (named 0 (map entry_of (take (at - 1) es))) + count
length-named-before es at count e some within is counted =
    let before : suc (at - 1) ≡ at = omega arith in
    ap (λ k. length (named 0 (map entry_of (take k es)))) (sym before)
    ∙ length-named-suc es (at - 1) count e (omega arith) (counted ∙ ap (λ k. length (named_by 0 (entry_of k))) is)
