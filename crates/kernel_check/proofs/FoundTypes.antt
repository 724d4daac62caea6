-- The ids that are found among those of entries stand for the types that the signature gives to symbols.
use Rattle.std.proofs.Common.{◌≡◌, ℕ, zero, suc, ◌+◌, Bool, true, false, cond, Option, None, Some, option_map, option_and_then, position, List, [], ◌∷◌, slice_get, refl, sym, ap, ◌∙◌, subst as transport, subst₂, arith}
use Rattle.std.specs.List.{list_any, position_from}
use Rattle.std.specs.Option.{is_some}
use Rattle.std.proofs.lemmas.Option.{none-some}
use Rattle.theory.specs.Terms.{Term, Const, Fam, Con, Elim, AxiomK}
use Rattle.theory.specs.Families.{Family, family_type}
use Rattle.theory.specs.Families as families
use Rattle.theory.specs.Eliminators.{eliminator_type}
use Rattle.theory.specs.Signatures.{Entry, FamilyOf, EliminatorAt, AxiomKAt, Definition, Signature, axiom_k_type}
use Rattle.theory.proofs.Lists.{some_is}
use Rattle.term_pool.specs.Held.{Held}
use Rattle.term_pool.specs.Nodes.{says}
use Rattle.term_pool.specs.declared.node.Node.{Node}
use Rattle.core_sig.specs.EntryIds.{IsTypeOf, IsIdWhereLow, IsBodyId, IsConstructorId, AreConstructorIds, StandsAt, Stands}
use Rattle.core_sig.specs.Instances.{is_eliminator, is_axiom_k}
use Rattle.core_sig.specs.declared.entry_ids.ConstructorId.{ConstructorId}
use Rattle.core_sig.specs.declared.entry_ids.EntryId.{EntryId}
use Rattle.core_sig.specs.declared.entry_ids.EntryIds.{EntryIds}
use Rattle.core_sig.proofs.Instances.{from-zero, some-position}
use Rattle.kernel_reduce.specs.Entries.{family_in, family_at}
use Rattle.kernel_reduce.proofs.LookUps.{family-found}
use Rattle.store_reduce.proofs.Correspondents.{first-at, second-at, first-past}
use Rattle.kernel_check.specs.Symbols.{type_in, symbol_type}
use Rattle.kernel_check.specs.TypeIds.{IsTypeId, FindsType, known_type, entry_type, definition_type, constructor_id_type, constructor_type, instance_type}
use Rattle.kernel_check.specs.declared.type_id.TypeId.{TypeId}
use Rattle.kernel_check.specs.declared.type_id.TypeId.TheVariants.{Unknown}
use Rattle.kernel_check.proofs.SymbolTypes.{eliminator-is, axiom_k-is}

passes-from : (p : Entry → Bool) (i : ℕ) (xs : List Entry) (n : ℕ) → position_from p i xs ≡ Some n
    → (k : ℕ) × ((n ≡ i + k) × ((x : Entry) × ((slice_get xs k ≡ Some x) × (p x ≡ true))))
passes-from p i [] n h = absurd (none-some n h)
passes-from p i (x ∷ xs) n h = by_case (p x) refl (passes-from p (i + 1) xs n) h
  where
    by_case : (b : Bool) → p x ≡ b
        → (position_from p (i + 1) xs ≡ Some n → (k : ℕ) × ((n ≡ i + 1 + k) × ((y : Entry) × ((slice_get xs k ≡ Some y) × (p y ≡ true)))))
        → cond b (Some i) (position_from p (i + 1) xs) ≡ Some n
        → (k : ℕ) × ((n ≡ i + k) × ((y : Entry) × ((slice_get (x ∷ xs) k ≡ Some y) × (p y ≡ true))))
    by_case true e behind f = let same : i ≡ n = some_is f in (zero, (omega arith, (x, (refl, e))))
    by_case false e behind f =
        let rest = behind f in
        (suc rest.0, (omega (arith, rest.1.0), rest.1.1))

-- the first place at which a test passes has an element that passes it
position-passes : (p : Entry → Bool) (xs : List Entry) (n : ℕ) → position p xs ≡ Some n → (x : Entry) × ((slice_get xs n ≡ Some x) × (p x ≡ true))
position-passes p xs n h =
    let found = passes-from p 0 xs n (from-zero p xs ∙ h) in
    let same : found.0 ≡ n = omega (arith, found.1.0) in
    transport (λ k. (x : Entry) × ((slice_get xs k ≡ Some x) × (p x ≡ true))) same found.1.1

module _ {I : Type 0} where
  pub given-type : (held : Held I) (ty : Option I) (t : Term) → IsIdWhereLow held ty t → IsTypeId held (known_type ty) (Some t)
  given-type held (Some id) t h = (h.0, ap Some (sym h.1))
  given-type held None t h = (t, (refl, h))

  pub meant-type : (held : Held I) (ty : Option I) (t : Term) (meant : Option Term) → IsIdWhereLow held ty t → meant ≡ Some t → IsTypeId held (known_type ty) meant
  meant-type held ty t meant h is = transport (IsTypeId held (known_type ty)) (sym is) (given-type held ty t h)

  module _ (S : Signature) (ids : EntryIds I) (n : ℕ) where
    -- of an entry, by its number
    type-at : (held : Held I) (e : Entry) → Stands held S.entries ids → slice_get S.entries n ≡ Some e
        → (t : Term) × (IsTypeOf S.entries e t × IsTypeId held (entry_type (slice_get ids.entries.items n)) (Some t))
    type-at held e s at =
        let id = first-at (StandsAt held S.entries) S.entries ids.entries.items s.each n e at in
        let found : IsTypeId held (known_type (id.0).ty) (Some (id.1.1).meant) = given-type held (id.0).ty (id.1.1).meant (id.1.1).type in
        ((id.1.1).meant, ((id.1.1).is_type, transport (λ o. IsTypeId held (entry_type o) (Some (id.1.1).meant)) (sym id.1.0) found))

    entry-of : (held : Held I) (id : EntryId I) → Stands held S.entries ids → slice_get ids.entries.items n ≡ Some id
        → (e : Entry) × ((slice_get S.entries n ≡ Some e) × StandsAt held S.entries n e id)
    entry-of held id s there = second-at (StandsAt held S.entries) S.entries ids.entries.items s.each n id there

    no-entry : (held : Held I) → Stands held S.entries ids → slice_get ids.entries.items n ≡ None → slice_get S.entries n ≡ None
    no-entry held s none = first-past (StandsAt held S.entries) S.entries ids.entries.items s.each n none

    constant-of : (held : Held I) (id : EntryId I) (b : I) (e : Entry) → slice_get S.entries n ≡ Some e → StandsAt held S.entries n e id
        → IsBodyId held e (Some b) → IsTypeId held (known_type id.ty) (symbol_type S (Const n))
    constant-of held id b (Definition name type body) at s h =
        meant-type held id.ty s.meant (symbol_type S (Const n)) s.type (ap (option_and_then type_in) at ∙ ap Some (sym s.is_type))
    constant-of held id b (FamilyOf f) at s h = absurd (none-some b (sym h))
    constant-of held id b (EliminatorAt g m) at s h = absurd (none-some b (sym h))
    constant-of held id b (AxiomKAt i m) at s h = absurd (none-some b (sym h))

    no-definition : (held : Held I) (e : Entry) → slice_get S.entries n ≡ Some e → IsBodyId held e None → symbol_type S (Const n) ≡ None
    no-definition held (Definition name type body) at h = absurd h
    no-definition held (FamilyOf f) at h = ap (option_and_then type_in) at
    no-definition held (EliminatorAt g m) at h = ap (option_and_then type_in) at
    no-definition held (AxiomKAt i m) at h = ap (option_and_then type_in) at

    pub constant-finds : FindsType S ids (Const n) (definition_type (slice_get ids.entries.items n))
    constant-finds held s = by_case (slice_get ids.entries.items n) refl
      where
        with_body : (id : EntryId I) (e : Entry) → slice_get S.entries n ≡ Some e → StandsAt held S.entries n e id → (o : Option I) → IsBodyId held e o
            → IsTypeId held (cond (is_some o) (known_type id.ty) Unknown) (symbol_type S (Const n))
        with_body id e at here (Some b) h = constant-of held id b e at here h
        with_body id e at here None h = no-definition held e at h

        by_case : (o : Option (EntryId I)) → slice_get ids.entries.items n ≡ o → IsTypeId held (definition_type o) (symbol_type S (Const n))
        by_case None none = ap (option_and_then type_in) (no-entry held s none)
        by_case (Some id) there =
            let e = entry-of held id s there in
            with_body id e.0 e.1.0 e.1.1 id.body (e.1.1).body

    pub family-finds : FindsType S ids (Fam n) (cond (is_some (family_at S n)) (entry_type (slice_get ids.entries.items n)) Unknown)
    family-finds held s = by_case (family_at S n) refl
      where
        by_case : (o : Option Family) → family_at S n ≡ o
            → IsTypeId held (cond (is_some o) (entry_type (slice_get ids.entries.items n)) Unknown) (option_map family_type o)
        by_case None none = refl
        by_case (Some f) at =
            let t = type-at held (FamilyOf f) s (family-found S n f at) in
            transport (IsTypeId held (entry_type (slice_get ids.entries.items n))) (ap Some t.1.0) t.1.1

    constructor-of : (held : Held I) (id : EntryId I) (number : ℕ) (c : ConstructorId I) (e : Entry) → slice_get S.entries n ≡ Some e
        → AreConstructorIds held n e id.cons.items → slice_get id.cons.items number ≡ Some c
        → IsTypeId held (known_type c.ty) (symbol_type S (Con n number))
    constructor-of held id number c (FamilyOf f) at h there =
        let con = second-at (λ k. IsConstructorId held n f) f.constructors id.cons.items h number c there in
        let family : family_at S n ≡ Some f = ap (option_and_then family_in) at in
        meant-type held c.ty (families.constructor_type n f con.0) (symbol_type S (Con n number)) (con.1.1).type
        (ap (option_and_then (λ (g : Family). option_map (families.constructor_type n g) (slice_get g.constructors number))) family
        ∙ ap (option_map (families.constructor_type n f)) con.1.0)
    constructor-of held id number c (EliminatorAt g m) at h there = absurd (none-some c (ap (λ xs. slice_get xs number) (sym h) ∙ there))
    constructor-of held id number c (AxiomKAt i m) at h there = absurd (none-some c (ap (λ xs. slice_get xs number) (sym h) ∙ there))
    constructor-of held id number c (Definition name type body) at h there = absurd (none-some c (ap (λ xs. slice_get xs number) (sym h) ∙ there))

    no-family : (number : ℕ) → family_at S n ≡ None → symbol_type S (Con n number) ≡ None
    no-family number none = ap (option_and_then (λ (g : Family). option_map (families.constructor_type n g) (slice_get g.constructors number))) none

    no-constructor : (held : Held I) (id : EntryId I) (number : ℕ) (e : Entry) → slice_get S.entries n ≡ Some e
        → AreConstructorIds held n e id.cons.items → slice_get id.cons.items number ≡ None → symbol_type S (Con n number) ≡ None
    no-constructor held id number (FamilyOf f) at h none =
        let family : family_at S n ≡ Some f = ap (option_and_then family_in) at in
        ap (option_and_then (λ (g : Family). option_map (families.constructor_type n g) (slice_get g.constructors number))) family
        ∙ ap (option_map (families.constructor_type n f)) (first-past (λ k. IsConstructorId held n f) f.constructors id.cons.items h number none)
    no-constructor held id number (EliminatorAt g m) at h none = no-family number (ap (option_and_then family_in) at)
    no-constructor held id number (AxiomKAt i m) at h none = no-family number (ap (option_and_then family_in) at)
    no-constructor held id number (Definition name type body) at h none = no-family number (ap (option_and_then family_in) at)

    pub constructor-finds : (number : ℕ) → FindsType S ids (Con n number) (constructor_type (slice_get ids.entries.items n) number)
    constructor-finds number held s = by_case (slice_get ids.entries.items n) refl
      where
        among : (id : EntryId I) (e : Entry) → slice_get S.entries n ≡ Some e → StandsAt held S.entries n e id → (o : Option (ConstructorId I))
            → slice_get id.cons.items number ≡ o → IsTypeId held (constructor_id_type o) (symbol_type S (Con n number))
        among id e at here (Some c) there = constructor-of held id number c e at here.constructors there
        among id e at here None none = no-constructor held id number e at here.constructors none

        by_case : (o : Option (EntryId I)) → slice_get ids.entries.items n ≡ o → IsTypeId held (constructor_type o number) (symbol_type S (Con n number))
        by_case None none = no-family number (ap (option_and_then family_in) (no-entry held s none))
        by_case (Some id) there =
            let e = entry-of held id s there in
            among id e.0 e.1.0 e.1.1 (slice_get id.cons.items number) refl

  module _ (S : Signature) (ids : EntryIds I) (held : Held I) (s : Stands held S.entries ids) where
    instance-finds : (p : Entry → Bool) (t : Option Term) → ((at : ℕ) → position p S.entries ≡ Some at → list_any p S.entries ≡ true → IsTypeId held (entry_type (slice_get ids.entries.items at)) t)
        → (list_any p S.entries ≡ false → t ≡ None) → IsTypeId held (instance_type ids (position p S.entries)) t
    instance-finds p t found none = by_case (position p S.entries) refl
      where
        by_case : (o : Option ℕ) → position p S.entries ≡ o → IsTypeId held (instance_type ids o) t
        by_case (Some at) place = found at place (sym (some-position p S.entries) ∙ ap is_some place)
        by_case None place = none (sym (some-position p S.entries) ∙ ap is_some place)

    eliminator-at : (n m at : ℕ) → position (is_eliminator n m) S.entries ≡ Some at → list_any (is_eliminator n m) S.entries ≡ true
        → IsTypeId held (entry_type (slice_get ids.entries.items at)) (symbol_type S (Elim n m))
    eliminator-at n m at place there =
        let e = position-passes (is_eliminator n m) S.entries at place in
        let entry : slice_get S.entries at ≡ Some (EliminatorAt n m) = e.1.0 ∙ ap Some (eliminator-is n m e.0 e.1.1) in
        let t = type-at S ids at held (EliminatorAt n m) s entry in
        let family : family_at S n ≡ Some (t.1.0).family = ap (option_and_then family_in) (t.1.0).entry in
        let meant : symbol_type S (Elim n m) ≡ Some t.0 =
        ap (λ (b : Bool). cond b (option_map (λ (f : Family). eliminator_type n f m) (family_at S n)) None) there
        ∙ (ap (option_map (λ (f : Family). eliminator_type n f m)) family ∙ ap Some (sym (t.1.0).type)) in
        transport (IsTypeId held (entry_type (slice_get ids.entries.items at))) (sym meant) t.1.1

    axiom_k-at : (i m at : ℕ) → position (is_axiom_k i m) S.entries ≡ Some at → list_any (is_axiom_k i m) S.entries ≡ true
        → IsTypeId held (entry_type (slice_get ids.entries.items at)) (symbol_type S (AxiomK i m))
    axiom_k-at i m at place there =
        let e = position-passes (is_axiom_k i m) S.entries at place in
        let entry : slice_get S.entries at ≡ Some (AxiomKAt i m) = e.1.0 ∙ ap Some (axiom_k-is i m e.0 e.1.1) in
        let t = type-at S ids at held (AxiomKAt i m) s entry in
        let meant : symbol_type S (AxiomK i m) ≡ Some t.0 = ap (λ (b : Bool). cond b (Some (axiom_k_type i m)) None) there ∙ ap Some (sym t.1.0) in
        transport (IsTypeId held (entry_type (slice_get ids.entries.items at))) (sym meant) t.1.1

  pub eliminator-finds : (S : Signature) (ids : EntryIds I) (n m : ℕ) → FindsType S ids (Elim n m) (instance_type ids (position (is_eliminator n m) S.entries))
  eliminator-finds S ids n m held s =
      instance-finds S ids held s (is_eliminator n m) (symbol_type S (Elim n m)) (eliminator-at S ids held s n m)
      (λ none. ap (λ (b : Bool). cond b (option_map (λ (f : Family). eliminator_type n f m) (family_at S n)) None) none)

  pub axiom_k-finds : (S : Signature) (ids : EntryIds I) (i m : ℕ) → FindsType S ids (AxiomK i m) (instance_type ids (position (is_axiom_k i m) S.entries))
  axiom_k-finds S ids i m held s =
      instance-finds S ids held s (is_axiom_k i m) (symbol_type S (AxiomK i m)) (axiom_k-at S ids held s i m)
      (λ none. ap (λ (b : Bool). cond b (Some (axiom_k_type i m)) None) none)

  -- the id for a node of this shape
  pub found-for : (S : Signature) (ids : EntryIds I) (node shape : Node I) (found meant : TypeId I) → node ≡ shape → found ≡ meant
      → ((tree : I → Term) → FindsType S ids (says tree shape) meant) → (tree : I → Term) → FindsType S ids (says tree node) found
  found-for S ids node shape found meant node_is found_is h tree =
      subst₂ (λ n r. FindsType S ids (says tree n) r) (sym node_is) (sym found_is) (h tree)
