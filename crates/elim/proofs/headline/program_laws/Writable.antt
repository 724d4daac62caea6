-- An entry of a well-formed signature may follow those before it in a core file, where its names may be declared and its terms
-- are not too high.
use Rattle.std.proofs.Common.{◌≡◌, ℕ, ◌+◌, ◌<◌, ◌≤◌, ◌⊎◌, inl, inr, Bool, true, false, List, [], ◌∷◌, ◌++◌, map, length, get_or, All, refl, sym, ap, subst, ◌∙◌, arith}
use Rattle.std.proofs.lemmas.List.{length-take-le}
use Rattle.std.proofs.lemmas.List.Elements.{All-nil, All-cons, All-head, All-tail}
use Rattle.std.proofs.lemmas.Option.{slice_get_within, none-some}
use Rattle.theory.specs.Families.{Constructor, Family, without_constructors, constructor_telescope}
use Rattle.theory.specs.Scopes.{IsTelescopeOver}
use Rattle.theory.specs.Signatures.{Entry, FamilyOf, EliminatorAt, AxiomKAt, Definition, Signature, IsEntryAt, TypeOf, constant, family, constructor, eliminator, axiom_k, names_of}
use Rattle.theory.specs.Substitutions.{inst, ups, extend}
use Rattle.theory.specs.Telescopes.{Context, Telescope, products}
use Rattle.theory.specs.Terms.{Term, Var, Sort, Pi, Lam, App, Let, Const, Fam, Con, Elim, AxiomK, height, free_of, top}
use Rattle.theory.specs.Typing.Has.{variable, sort, product, function, application, local, symbol, below, below_sort}
use Rattle.theory.specs.Typing.{Has}
use Rattle.theory.specs.WellFormed.IsEntry.{family as family_entry, eliminator as eliminator_entry, axiom_k as axiom_k_entry, definition as definition_entry}
use Rattle.theory.specs.WellFormed.{IsWellFormed, IsEntry, IsEliminator, IsAxiomK, IsConstructor, first_entries, pushed}
use Rattle.theory.proofs.Pushing.{entry_of-pushed, first_entries_well_formed}
use Rattle.theory.proofs.Scopes.{free_of-products}
use Rattle.theory.proofs.Scoping.{term_scoped}
use Rattle.theory.proofs.WellFormedness.{axiom_k_of, first_is_prefix}
use Rattle.theory.proofs.Widening.{prefix_keeps}
use Rattle.core_sig.specs.Raw.{RawConstructor}
use Rattle.core_text.specs.EntryParts.{IsTermWith, AreTypesWith, AreConstructorsWith, IsLow}
use Rattle.core_text.specs.LineReading.{levels_left, some_level_left, identities_left}
use Rattle.core_text.specs.RawEntries.{type_shown, constructor_type_shown, constructor_line}
use Rattle.core_text.specs.Spellings.{HasSymbols}
use Rattle.core_text.specs.WrittenEntries.{IsDeclarableName, MayFollow}
use Rattle.elim.specs.headline.program_laws.CoreFiles.{IsLowEntry, IsWritable}
use Rattle.elim.proofs.headline.program_laws.CoreFiles.{MayFollowInTurn}
use Rattle.elim.proofs.headline.program_laws.InstancesLeft.{eliminator-left, axiom_k-left, identity-left}
use Rattle.elim.proofs.headline.program_laws.RecordsShown.{record-shown}

-- ---- symbols

-- an instantiation drops no symbol
symbols-before : (T : Signature) (own : Bool) (s : ℕ → Term) (t : Term) → HasSymbols T own (inst s t) → HasSymbols T own t
symbols-before T own s (Var n) h = tt
symbols-before T own s (Sort i) h = h
symbols-before T own s (Pi a b) h = (symbols-before T own s a h.0, symbols-before T own (ups s) b h.1)
symbols-before T own s (Lam a b) h = (symbols-before T own s a h.0, symbols-before T own (ups s) b h.1)
symbols-before T own s (App f a) h = (symbols-before T own s f h.0, symbols-before T own s a h.1)
symbols-before T own s (Let a t b) h = (symbols-before T own s a h.0, symbols-before T own s t h.1, symbols-before T own (ups s) b h.2)
symbols-before T own s (Const n) h = h
symbols-before T own s (Fam n) h = h
symbols-before T own s (Con n c) h = h
symbols-before T own s (Elim n m) h = h
symbols-before T own s (AxiomK i m) h = h

-- the symbols of a term with a derivation over U are those over T, where each symbol of U is one
symbols-term : (T : Signature) (own : Bool) {U : Signature} → ((t a : Term) → TypeOf U t a → HasSymbols T own t) → {G : Context} {t a : Term} → Has U G t a → HasSymbols T own t
symbols-term T own reach (variable n context at) = tt
symbols-term T own reach (sort i context limit) = omega (arith, limit)
symbols-term T own reach (product i j da db) = (symbols-term T own reach da, symbols-term T own reach db)
symbols-term T own reach (function i j da db dc) = (symbols-term T own reach da, symbols-term T own reach db)
symbols-term T own reach (application df du) = (symbols-term T own reach df, symbols-term T own reach du)
symbols-term T own reach (local {t = t} {b = b} i da dt db) =
    (symbols-term T own reach da, symbols-term T own reach dt, symbols-before T own (extend Var t) b (symbols-term T own reach db))
symbols-term T own reach (symbol context type) = reach _ _ type
symbols-term T own reach (below i dt le db) = symbols-term T own reach dt
symbols-term T own reach (below_sort i dt le) = symbols-term T own reach dt

eliminator_of : {S : Signature} {n m : ℕ} → IsEntry S (EliminatorAt n m) → (f : Family) × IsEliminator S n m f
eliminator_of (eliminator_entry f h) = (f, h)

-- an instance of an eliminator over its signature
of-eliminator : (T : Signature) → IsWellFormed T → (n m at : ℕ) → IsEntryAt T at (EliminatorAt n m) → ((f : Family) × IsEntryAt T n (FamilyOf f)) × (m < top)
of-eliminator T formed n m at made =
    let e = eliminator_of (formed.each at (EliminatorAt n m) made) in
    ((e.0, (prefix_keeps (first_is_prefix T at)).entry n (FamilyOf e.0) e.1.family), e.1.level)

of-axiom_k : (T : Signature) → IsWellFormed T → (i m at : ℕ) → IsEntryAt T at (AxiomKAt i m) → (i < top) × (m < top)
of-axiom_k T formed i m at made = let e = axiom_k_of (formed.each at (AxiomKAt i m) made) in (e.identity.level, e.level)

plain-reach : (T : Signature) → IsWellFormed T → (t a : Term) → TypeOf T t a → HasSymbols T false t
plain-reach T formed _ _ (constant n {name} {type} {body} at) = (name, type, body, at)
plain-reach T formed _ _ (family n {f} at) = inl (f, at)
plain-reach T formed _ _ (constructor n number {f} {c} at chosen) = (f, at, slice_get_within f.constructors number c chosen)
plain-reach T formed _ _ (eliminator n m at found made) = of-eliminator T formed n m at made
plain-reach T formed _ _ (axiom_k i m at made) = of-axiom_k T formed i m at made

-- the constructors of an entry
constructors_in : Entry → List Constructor
constructors_in (FamilyOf f) = f.constructors
constructors_in _ = []

-- the symbols of a term are there, where the signature ends with a family that has no constructors yet
own-reach : (T : Signature) → IsWellFormed T → (f : Family) → (t a : Term) → TypeOf (pushed T (FamilyOf (without_constructors f))) t a → HasSymbols T true t
unfolding constructors_in
own-reach T formed f _ _ (constant n {name} {type} {body} at) = by (entry_of-pushed T (FamilyOf (without_constructors f)) n (Definition name type body) at)
  where
    by : IsEntryAt T n (Definition name type body) ⊎ ((n ≡ length T.entries) × (FamilyOf (without_constructors f) ≡ Definition name type body)) → HasSymbols T true (Const n)
    by (inl earlier) = (name, type, body, earlier)
    by (inr last) = let e = last.1 in cc
own-reach T formed f _ _ (family n {f = g} at) = by (entry_of-pushed T (FamilyOf (without_constructors f)) n (FamilyOf g) at)
  where
    by : IsEntryAt T n (FamilyOf g) ⊎ ((n ≡ length T.entries) × (FamilyOf (without_constructors f) ≡ FamilyOf g)) → HasSymbols T true (Fam n)
    by (inl earlier) = inl (g, earlier)
    by (inr last) = inr (refl, last.0)
own-reach T formed f _ _ (constructor n number {f = g} {c} at chosen) = by (entry_of-pushed T (FamilyOf (without_constructors f)) n (FamilyOf g) at)
  where
    by : IsEntryAt T n (FamilyOf g) ⊎ ((n ≡ length T.entries) × (FamilyOf (without_constructors f) ≡ FamilyOf g)) → HasSymbols T true (Con n number)
    by (inl earlier) = (g, earlier, slice_get_within g.constructors number c chosen)
    by (inr last) =
        let none : [] ≡ g.constructors = ap constructors_in last.1 in
        let lt : number < 0 = subst (λ (cs : List Constructor). number < length cs) (sym none) (slice_get_within g.constructors number c chosen) in absurd (omega arith)
own-reach T formed f _ _ (eliminator n m at found made) = by (entry_of-pushed T (FamilyOf (without_constructors f)) at (EliminatorAt n m) made)
  where
    by : IsEntryAt T at (EliminatorAt n m) ⊎ ((at ≡ length T.entries) × (FamilyOf (without_constructors f) ≡ EliminatorAt n m)) → HasSymbols T true (Elim n m)
    by (inl earlier) = of-eliminator T formed n m at earlier
    by (inr last) = let e = last.1 in cc
own-reach T formed f _ _ (axiom_k i m at made) = by (entry_of-pushed T (FamilyOf (without_constructors f)) at (AxiomKAt i m) made)
  where
    by : IsEntryAt T at (AxiomKAt i m) ⊎ ((at ≡ length T.entries) × (FamilyOf (without_constructors f) ≡ AxiomKAt i m)) → HasSymbols T true (AxiomK i m)
    by (inl earlier) = of-axiom_k T formed i m at earlier
    by (inr last) = let e = last.1 in cc

-- ---- terms

types-written : (T : Signature) (n : ℕ) (tele : Telescope) (end : Term) → HasSymbols T false (products tele end) → IsTelescopeOver n tele → AreTypesWith (HasSymbols T false) n tele
types-written T n [] end h over = tt
types-written T n (a ∷ tele) end h over = (record { symbols = h.0; free = over.0 }, types-written T (n + 1) tele end h.1 over.1)

symbols-end : (T : Signature) (own : Bool) (tele : Telescope) (end : Term) → HasSymbols T own (products tele end) → HasSymbols T own end
symbols-end T own [] end h = h
symbols-end T own (a ∷ tele) end h = symbols-end T own tele end h.1

-- a term after parameters
end-written : (T U : Signature) (own : Bool) (tele : Telescope) (t : Term) → ((u a : Term) → TypeOf U u a → HasSymbols T own u) → (i : ℕ) → Has U [] (products tele t) (Sort i) → IsTermWith (HasSymbols T own) (length tele) t
end-written T U own tele t reach i d = record {
  symbols = symbols-end T own tele t (symbols-term T own reach d);
  free = let e : 0 + length tele ≡ length tele = omega arith in subst (λ k. free_of t ≤ k) e ((free_of-products tele t 0).1 (term_scoped d)).1;
}

-- constructors of family number n
constructors-written : (T : Signature) (n p : ℕ) (f : Family) (cs : List Constructor) (found : List RawConstructor) → All IsDeclarableName (map (λ c. c.name) cs) → All (λ c. IsTermWith (HasSymbols T true) p (constructor_type_shown n f c)) cs
    → AreConstructorsWith (HasSymbols T true) (λ before. IsDeclarableName) p found (map (constructor_line n f) cs)
constructors-written T n p f [] found names types = tt
constructors-written T n p f (c ∷ cs) found names types =
    let Fits : Constructor → Type 0 = λ k. IsTermWith (HasSymbols T true) p (constructor_type_shown n f k) in (
      All-head IsDeclarableName c.name (map (λ c. c.name) cs) names,
      All-head Fits c cs types,
      constructors-written T n p f cs (found ++ constructor_line n f c ∷ []) (All-tail IsDeclarableName c.name (map (λ c. c.name) cs) names) (All-tail Fits c cs types),
    )

constructors-low : (n : ℕ) (f : Family) (cs : List Constructor) → All (λ c. height (constructor_type_shown n f c) ≤ 2000) cs → All IsLow (map (λ c. c.type) (map (constructor_line n f) cs))
constructors-low n f [] low = All-nil IsLow
constructors-low n f (c ∷ cs) low =
    All-cons IsLow (constructor_type_shown n f c) (map (λ c. c.type) (map (constructor_line n f) cs)) (All-head (λ k. height (constructor_type_shown n f k) ≤ 2000) c cs low)
    (constructors-low n f cs (All-tail (λ k. height (constructor_type_shown n f k) ≤ 2000) c cs low))

-- ---- entries

module _ (T : Signature) (formed : IsWellFormed T) where
  entry-follows : (e : Entry) → IsEntry T e → All IsDeclarableName (names_of e) → IsLowEntry (length T.entries) e → MayFollow T e
  unfolding levels_left some_level_left identities_left
  entry-follows _ (family_entry {f} h) names low = record {
    over = record {
      name = All-head IsDeclarableName f.name (map (λ c. c.name) f.constructors) names;
      parameters = types-written T 0 f.parameters (type_shown f) (symbols-term T false (plain-reach T formed) h.type.1) ((free_of-products f.parameters (type_shown f) 0).1 (term_scoped h.type.1)).0;
      type = end-written T T false f.parameters (type_shown f) (plain-reach T formed) h.type.0 h.type.1;
      constructors =
          constructors-written T (length T.entries) (length f.parameters) f f.constructors [] (All-tail IsDeclarableName f.name (map (λ c. c.name) f.constructors) names)
          (λ k d lt. (let c = h.constructors k d lt in
          end-written T (pushed T (FamilyOf (without_constructors f))) true f.parameters (constructor_type_shown (length T.entries) f (get_or f.constructors k d)) (own-reach T formed f) c.type.0 c.type.1));
    };
    low = (low.1, low.2, constructors-low (length T.entries) f f.constructors low.3);
    few = low.0;
    shown = record-shown (length T.entries) f h.level (λ k d lt. (h.constructors k d lt).targets);
  }
  entry-follows _ (eliminator_entry {n} {m} f h) names low =
      record { over = ((f, h.family), eliminator-left T.entries n m h.level h.new); low = tt; few = tt; shown = refl }
  entry-follows _ (axiom_k_entry {i} {m} h) names low =
      let left = axiom_k-left T.entries i m h.level h.new in
      record { over = (h.on, identity-left T.entries i m h.identity.level h.level left, left); low = tt; few = tt; shown = refl }
  entry-follows _ (definition_entry {name} {type} {body} h) names low = record {
    over = (
      All-head IsDeclarableName name [] names,
      end-written T T false [] type (plain-reach T formed) h.type_sort.0 h.type_sort.1,
      record { symbols = symbols-term T false (plain-reach T formed) h.body_type; free = term_scoped h.body_type },
    );
    low = low;
    few = tt;
    shown = refl;
  }

pub in-turn : (S : Signature) → IsWellFormed S → IsWritable S → MayFollowInTurn S
in-turn S formed writable = record {
  readable = writable.readable;
  follows = λ n e after at.
      let lt = slice_get_within S.entries n e at in
      let size : length (first_entries S n).entries ≡ n = length-take-le n S.entries (omega arith) in
      entry-follows (first_entries S n) (first_entries_well_formed S n formed) e (formed.each n e at) (writable.names n e after at)
      (subst (λ k. IsLowEntry k e) (sym size) (writable.low n e after at));
}
