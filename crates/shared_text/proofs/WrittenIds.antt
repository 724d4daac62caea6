-- Ids of terms stay such while a pool grows.
use Rattle.std.proofs.Common.{◌≡◌, ◌<◌, ℕ, ◌+◌, IsTrue, List, [], ◌∷◌, ◌++◌, map, take, length, get_or, refl, ap, ap₂, sym, ◌∙◌, subst}
use Rattle.std.proofs.lemmas.List.{map-append}
use Rattle.std.proofs.lemmas.List.Elements.{All-nil, All-push, All-weaker}
use Rattle.theory.specs.Terms.{Term}
use Rattle.core_terms.proofs.Lists.{take-more}
use Rattle.core_terms.specs.Meanings.{tree_of}
use Rattle.core_sig.specs.Raw.{RawFamily, raw_constructor_of}
use Rattle.core_sig.specs.declared.raw.RawCon.{RawCon}
use Rattle.term_pool.specs.Held.{Extends}
use Rattle.term_pool.specs.Pools.{Pooled, pool_held}
use Rattle.term_pool.specs.declared.ids.Id.{Id}
use Rattle.term_pool.proofs.Instancing.{map-kept}
use Rattle.shared_text.specs.CodeMeanings.{AreIdsOf, AreFamilyIds}
use Rattle.shared_text.specs.declared.written.FamilyIds.{FamilyIds}

abbrev IsLive : Pooled → Id → Type 0
IsLive p id = IsTrue ((pool_held p).live id)

pub ids-none : (p : Pooled) (ids : List Id) → ids ≡ [] → AreIdsOf p ids []
ids-none p ids e = subst (λ xs. AreIdsOf p xs []) (sym e) (record { live = All-nil (IsLive p); terms = refl })

module _ (p q : Pooled) (grows : Extends (pool_held p) (pool_held q)) where
  pub ids-kept : (ids : List Id) (ts : List Term) → AreIdsOf p ids ts → AreIdsOf q ids ts
  ids-kept ids ts h =
      record {
        live = All-weaker (IsLive p) (IsLive q) (λ id l. grows.lives id l) ids h.live;
        terms = map-kept (pool_held p) (pool_held q) ids grows h.live ∙ h.terms;
      }

  pub ids-more : (ids more : List Id) (ts : List Term) (id : Id) (t : Term) → AreIdsOf p ids ts → IsTrue ((pool_held q).live id) → (pool_held q).tree id ≡ t
      → more ≡ ids ++ id ∷ [] → AreIdsOf q more (ts ++ t ∷ [])
  ids-more ids more ts id t h live is pushed =
      let kept = ids-kept ids ts h in
      subst (λ xs. AreIdsOf q xs (ts ++ t ∷ [])) (sym pushed)
      (record {
        live = All-push (IsLive q) ids id kept.live live;
        terms = map-append (pool_held q).tree ids (id ∷ []) ∙ ap₂ (λ xs u. xs ++ u ∷ []) kept.terms is;
      })

  -- one term more of a list
  pub ids-along : {X : Type 0} (meaning : X → Term) (xs : List X) (i : ℕ) (x : X) (ids more : List Id) (id : Id) → i < length xs → x ≡ get_or xs i x
      → AreIdsOf p ids (map meaning (take i xs)) → IsTrue ((pool_held q).live id) → (pool_held q).tree id ≡ meaning x → more ≡ ids ++ id ∷ []
      → AreIdsOf q more (map meaning (take (i + 1) xs))
  ids-along meaning xs i x ids more id within is h live tree pushed =
      let list : map meaning (take (i + 1) xs) ≡ map meaning (take i xs) ++ meaning x ∷ [] =
      ap (map meaning) (take-more xs i x within is) ∙ map-append meaning (take i xs) (x ∷ []) in
      subst (AreIdsOf q more) (sym list) (ids-more ids more (map meaning (take i xs)) id (meaning x) h live tree pushed)

  -- and of the types of constructors
  pub types-along : (cons : List RawCon) (i : ℕ) (con : RawCon) (ids more : List Id) (id : Id) → i < length cons → con ≡ get_or cons i con
      → AreIdsOf p ids (map (λ c. c.type) (map raw_constructor_of (take i cons))) → IsTrue ((pool_held q).live id) → (pool_held q).tree id ≡ tree_of con.ty → more ≡ ids ++ id ∷ []
      → AreIdsOf q more (map (λ c. c.type) (map raw_constructor_of (take (i + 1) cons)))
  types-along cons i con ids more id within is h live tree pushed =
      let list : map (λ c. c.type) (map raw_constructor_of (take (i + 1) cons)) ≡ map (λ c. c.type) (map raw_constructor_of (take i cons)) ++ tree_of con.ty ∷ [] =
      ap (λ cs. map (λ c. c.type) (map raw_constructor_of cs)) (take-more cons i con within is)
      ∙ (ap (map (λ c. c.type)) (map-append raw_constructor_of (take i cons) (con ∷ [])) ∙ map-append (λ c. c.type) (map raw_constructor_of (take i cons)) (raw_constructor_of con ∷ [])) in
      subst (AreIdsOf q more) (sym list) (ids-more ids more (map (λ c. c.type) (map raw_constructor_of (take i cons))) id (tree_of con.ty) h live tree pushed)

pub family-ids : (p q r : Pooled) (ids : FamilyIds) (raw : RawFamily) → Extends (pool_held p) (pool_held q) → Extends (pool_held q) (pool_held r)
    → AreIdsOf p ids.params.items raw.parameters → IsTrue ((pool_held q).live ids.ty) → (pool_held q).tree ids.ty ≡ raw.type
    → AreIdsOf r ids.cons.items (map (λ c. c.type) raw.constructors) → AreFamilyIds r ids raw
family-ids p q r ids raw first second params live type constructors =
    record {
      params = ids-kept q r second ids.params.items raw.parameters (ids-kept p q first ids.params.items raw.parameters params);
      live = second.lives ids.ty live;
      type = second.trees ids.ty live ∙ type;
      constructors = constructors;
    }
