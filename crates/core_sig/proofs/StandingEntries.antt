-- Ids that stand for entries go on to stand for them, in a store that has grown and with more entries.
use Rattle.std.proofs.Common.{◌≡◌, ℕ, ◌+◌, ◌<◌, inl, inr, IsTrue, Option, None, Some, List, [], ◌∷◌, ◌++◌, map, take, length, get_or, slice_get, refl, ap, sym, ◌∙◌, subst, subst₂, arith}
use Rattle.std.proofs.lemmas.List.{length-append, map-append}
use Rattle.std.proofs.lemmas.Option.{slice_get_within}
use Rattle.theory.specs.Terms.{Term}
use Rattle.theory.specs.Families.{Constructor, Family, family_type}
use Rattle.theory.specs.Eliminators.{eliminator_type}
use Rattle.theory.specs.Signatures.{Entry, FamilyOf, EliminatorAt, AxiomKAt, Definition, axiom_k_type}
use Rattle.theory.proofs.Lists.{some_is, slice_get-append, slice_get-last, slice_get-longer, slice_get-pushed}
use Rattle.core_terms.proofs.Lists.{take-more}
use Rattle.term_pool.specs.Held.{Held, Extends}
use Rattle.core_sig.specs.EntryIds.{Correspond, IsTypeOf, IsIdOf, IsIdWhereLow, IsBodyId, IsConstructorId, AreConstructorIds, StandsAt, Stands}
use Rattle.core_sig.specs.Meanings.{constructor_of, family_of}
use Rattle.core_sig.specs.declared.family.Constructor.{Constructor as ConstructorOfCode}
use Rattle.core_sig.specs.declared.family.Family.{Family as FamilyOfCode}
use Rattle.core_sig.specs.declared.entry_ids.ConstructorId.{ConstructorId}
use Rattle.core_sig.specs.declared.entry_ids.EntryId.{EntryId}
use Rattle.core_sig.specs.declared.entry_ids.EntryIds.{EntryIds}

module _ {X Y : Type 0} where
  pub correspond-map : (P Q : ℕ → X → Y → Type 0) (xs : List X) (ys : List Y) → ((n : ℕ) (x : X) (y : Y) → P n x y → Q n x y)
      → Correspond P xs ys → Correspond Q xs ys
  correspond-map P Q xs ys f c = record { count = c.count; each = λ n x y a b. f n x y (c.each n x y a b) }

  pub correspond-none : (P : ℕ → X → Y → Type 0) → Correspond P [] []
  correspond-none P = record { count = refl; each = λ n x y a b. let l = slice_get_within [] n x a in absurd (omega arith) }

  -- one element more on both sides
  pub correspond-push : (P : ℕ → X → Y → Type 0) (xs : List X) (ys : List Y) (x : X) (y : Y) → Correspond P xs ys → P (length xs) x y
      → Correspond P (xs ++ x ∷ []) (ys ++ y ∷ [])
  correspond-push P xs ys x y c p =
      record {
        count = omega (arith, c.count, length-append xs (x ∷ []), length-append ys (y ∷ []));
        each = λ n a b at there. elim (slice_get-pushed xs x n a at) [
          | inl old ↦
              (let l = slice_get_within xs n a old in
              c.each n a b old (sym (slice_get-append ys (y ∷ []) n (omega (arith, l, c.count))) ∙ there))
          | inr new ↦
              (let place : length ys ≡ n = omega (arith, new.0, c.count) in
              let same : y ≡ b = some_is (sym (slice_get-last ys y) ∙ (ap (slice_get (ys ++ y ∷ [])) place ∙ there)) in
              subst (λ m. P m a b) (sym new.0) (subst₂ (λ u v. P (length xs) u v) new.1 same p))
        ];
      }

-- with more entries each type is what it was
pub type-longer : (entries more : List Entry) (e : Entry) (t : Term) → IsTypeOf entries e t → IsTypeOf (entries ++ more) e t
type-longer entries more (FamilyOf f) t h = h
type-longer entries more (EliminatorAt n m) t h =
    record { family = h.family; entry = slice_get-longer entries more n (FamilyOf h.family) h.entry; type = h.type }
type-longer entries more (AxiomKAt i m) t h = h
type-longer entries more (Definition name type body) t h = h

pub at-longer : {I : Type 0} (held : Held I) (entries more : List Entry) (n : ℕ) (e : Entry) (id : EntryId I) → StandsAt held entries n e id
    → StandsAt held (entries ++ more) n e id
at-longer held entries more n e id s =
    record { meant = s.meant; is_type = type-longer entries more e s.meant s.is_type; type = s.type; body = s.body; constructors = s.constructors }

-- where ids stay live with their trees, those that stand for entries go on to do so
module _ {I : Type 0} (old new : Held I) (lives : (id : I) → IsTrue (old.live id) → IsTrue (new.live id))
    (trees : (id : I) → IsTrue (old.live id) → new.tree id ≡ old.tree id) where
  id-kept : (id : I) (t : Term) → IsIdOf old id t → IsIdOf new id t
  id-kept id t h = (lives id h.0, trees id h.0 ∙ h.1, h.2)

  where_low-kept : (o : Option I) (t : Term) → IsIdWhereLow old o t → IsIdWhereLow new o t
  where_low-kept (Some id) t h = id-kept id t h
  where_low-kept None t h = h

  body-kept : (e : Entry) (o : Option I) → IsBodyId old e o → IsBodyId new e o
  body-kept (Definition name type body) (Some id) h = id-kept id body h
  body-kept (Definition name type body) None h = h
  body-kept (FamilyOf f) o h = h
  body-kept (EliminatorAt n m) o h = h
  body-kept (AxiomKAt i m) o h = h

  constructor-kept : (n : ℕ) (f : Family) (c : Constructor) (id : ConstructorId I) → IsConstructorId old n f c id → IsConstructorId new n f c id
  constructor-kept n f c id h = record { behind = id-kept id.behind _ h.behind; type = where_low-kept id.ty _ h.type }

  constructors-kept : (n : ℕ) (e : Entry) (ids : List (ConstructorId I)) → AreConstructorIds old n e ids → AreConstructorIds new n e ids
  constructors-kept n (FamilyOf f) ids h =
      correspond-map (λ number. IsConstructorId old n f) (λ number. IsConstructorId new n f) f.constructors ids (λ number. constructor-kept n f) h
  constructors-kept n (EliminatorAt g m) ids h = h
  constructors-kept n (AxiomKAt i m) ids h = h
  constructors-kept n (Definition name type body) ids h = h

  pub at-kept : (entries : List Entry) (n : ℕ) (e : Entry) (id : EntryId I) → StandsAt old entries n e id → StandsAt new entries n e id
  at-kept entries n e id s =
      record {
        meant = s.meant;
        is_type = s.is_type;
        type = where_low-kept id.ty s.meant s.type;
        body = body-kept e id.body s.body;
        constructors = constructors-kept n e id.cons.items s.constructors;
      }

  pub each-kept : (entries : List Entry) (ids : List (EntryId I)) → Correspond (StandsAt old entries) entries ids → Correspond (StandsAt new entries) entries ids
  each-kept entries ids s = correspond-map (StandsAt old entries) (StandsAt new entries) entries ids (at-kept entries) s

  pub stands-kept : (entries : List Entry) (ids : EntryIds I) → Stands old entries ids → Stands new entries ids
  stands-kept entries ids s = record { each = each-kept entries ids.entries.items s.each }

module _ {I : Type 0} (old new : Held I) (extends : Extends old new) where
  pub id-stays : (id : I) (t : Term) → IsIdOf old id t → IsIdOf new id t
  id-stays = id-kept old new extends.lives extends.trees

  pub constructor-stays : (n : ℕ) (f : Family) (c : Constructor) (id : ConstructorId I) → IsConstructorId old n f c id → IsConstructorId new n f c id
  constructor-stays = constructor-kept old new extends.lives extends.trees

  pub where_low-stays : (o : Option I) (t : Term) → IsIdWhereLow old o t → IsIdWhereLow new o t
  where_low-stays = where_low-kept old new extends.lives extends.trees

  -- in a store that has grown the ids stand for the entries
  pub stands-stay : (entries : List Entry) (ids : EntryIds I) → Stands old entries ids → Stands new entries ids
  stands-stay = stands-kept old new extends.lives extends.trees

module _ {I : Type 0} where
  pub extends-none : (held : Held I) → Extends held held
  extends-none held =
      record { lives = λ id live. live; trees = λ id live. refl; keeps_rows = refl; told = refl; rows = refl; missed = refl }

  pub extends-then : (old mid new : Held I) → Extends old mid → Extends mid new → Extends old new
  extends-then old mid new a b =
      record {
        lives = λ id live. b.lives id (a.lives id live);
        trees = λ id live. b.trees id (a.lives id live) ∙ a.trees id live;
        keeps_rows = b.keeps_rows ∙ a.keeps_rows;
        told = b.told ∙ a.told;
        rows = b.rows ∙ a.rows;
        missed = b.missed ∙ a.missed;
      }

  -- the ids of a family's constructors, one more of them
  pub constructors-more : (old new : Held I) (n : ℕ) (f : FamilyOfCode) (k : ℕ) (con : ConstructorOfCode) (ids more : List (ConstructorId I)) (id : ConstructorId I)
      → Extends old new → k < length f.cons → con ≡ get_or f.cons k con
      → Correspond (λ number. IsConstructorId old n (family_of f)) (map (constructor_of (length f.params)) (take k f.cons)) ids
      → IsConstructorId new n (family_of f) (constructor_of (length f.params) con) id → more ≡ ids ++ id ∷ []
      → Correspond (λ number. IsConstructorId new n (family_of f)) (map (constructor_of (length f.params)) (take (k + 1) f.cons)) more
  constructors-more old new n f k con ids more id extends within is before made pushed =
      let meaning = constructor_of (length f.params) in
      let P : ℕ → Constructor → ConstructorId I → Type 0 = λ number. IsConstructorId new n (family_of f) in
      let kept = correspond-map (λ number. IsConstructorId old n (family_of f)) P (map meaning (take k f.cons)) ids (λ number. constructor-stays old new extends n (family_of f)) before in
      let list : map meaning (take (k + 1) f.cons) ≡ map meaning (take k f.cons) ++ meaning con ∷ [] =
      ap (map meaning) (take-more f.cons k con within is) ∙ map-append meaning (take k f.cons) (con ∷ []) in
      subst₂ (Correspond P) (sym list) (sym pushed) (correspond-push P (map meaning (take k f.cons)) ids (meaning con) id kept made)

  pub family-stands : (mid new : Held I) (entries : List Entry) (n : ℕ) (f : Family) (ty : Option I) (id : EntryId I) → Extends mid new
      → IsIdWhereLow mid ty (family_type f) → AreConstructorIds new n (FamilyOf f) id.cons.items → id.ty ≡ ty → id.body ≡ None
      → StandsAt new entries n (FamilyOf f) id
  family-stands mid new entries n f ty id extends type cons ty_is body_is =
      record {
        meant = family_type f;
        is_type = refl;
        type = subst (λ o. IsIdWhereLow new o (family_type f)) (sym ty_is) (where_low-stays mid new extends ty (family_type f) type);
        body = body_is;
        constructors = cons;
      }

  pub eliminator-stands : (held : Held I) (entries : List Entry) (n g m : ℕ) (f : Family) (ty : Option I) (id : EntryId I)
      → slice_get entries g ≡ Some (FamilyOf f) → IsIdWhereLow held ty (eliminator_type g f m) → id.ty ≡ ty → id.body ≡ None → id.cons.items ≡ []
      → StandsAt held entries n (EliminatorAt g m) id
  eliminator-stands held entries n g m f ty id at type ty_is body_is cons_is =
      record {
        meant = eliminator_type g f m;
        is_type = record { family = f; entry = at; type = refl };
        type = subst (λ o. IsIdWhereLow held o (eliminator_type g f m)) (sym ty_is) type;
        body = body_is;
        constructors = cons_is;
      }

  pub axiom_k-stands : (held : Held I) (entries : List Entry) (n i m : ℕ) (ty : Option I) (id : EntryId I)
      → IsIdWhereLow held ty (axiom_k_type i m) → id.ty ≡ ty → id.body ≡ None → id.cons.items ≡ [] → StandsAt held entries n (AxiomKAt i m) id
  axiom_k-stands held entries n i m ty id type ty_is body_is cons_is =
      record {
        meant = axiom_k_type i m;
        is_type = refl;
        type = subst (λ o. IsIdWhereLow held o (axiom_k_type i m)) (sym ty_is) type;
        body = body_is;
        constructors = cons_is;
      }

  pub definition-stands : (mid new : Held I) (entries : List Entry) (n : ℕ) (name : List ℕ) (type body : Term) (ty : Option I) (b : I) (id : EntryId I)
      → Extends mid new → IsIdWhereLow mid ty type → IsIdOf new b body → id.ty ≡ ty → id.body ≡ Some b → id.cons.items ≡ []
      → StandsAt new entries n (Definition name type body) id
  definition-stands mid new entries n name type body ty b id extends low is ty_is body_is cons_is =
      record {
        meant = type;
        is_type = refl;
        type = subst (λ o. IsIdWhereLow new o type) (sym ty_is) (where_low-stays mid new extends ty type low);
        body = subst (IsBodyId new (Definition name type body)) (sym body_is) is;
        constructors = cons_is;
      }
