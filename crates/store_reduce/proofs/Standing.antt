-- What is found by entry ids that stand for the entries of a signature: bodies of definitions, and types of constructors.
use Rattle.std.proofs.Common.{◌≡◌, ℕ, ◌<◌, ◌≤◌, cond, IsTrue, Option, None, Some, option_map, option_and_then, length, get_or, slice_get, ◌⊎◌, inl, inr, refl, sym, ap, ◌∙◌, subst as transport, arith}
use Rattle.std.proofs.lemmas.Option.{slice_get_within, slice_get_cases, slice_get-map, slice_get-get_or}
use Rattle.theory.specs.Signatures.{Entry, FamilyOf, EliminatorAt, AxiomKAt, Definition, Signature, IsEntryAt}
use Rattle.theory.proofs.Lists.{some_is}
use Rattle.core_sig.specs.EntryIds.{IsIdOf, IsBodyId, Correspond, IsConstructorId, StandsAt, Stands, type_behind}
use Rattle.core_sig.specs.Kinds.{HasKinds}
use Rattle.core_sig.specs.Meanings.{constructor_of, family_of}
use Rattle.core_sig.specs.declared.family.Constructor.{Constructor}
use Rattle.core_sig.specs.declared.family.Family.{Family}
use Rattle.core_sig.specs.declared.entry_ids.ConstructorId.{ConstructorId}
use Rattle.core_sig.specs.declared.entry_ids.EntryId.{EntryId}
use Rattle.core_sig.specs.declared.entry_ids.EntryIds.{EntryIds}
use Rattle.core_sig.proofs.ConstructorTypes.{type_behind-of, kinds_at}
use Rattle.core_sig.proofs.StandingEntries.{stands-stay}
use Rattle.kernel_reduce.specs.Entries.{is_constant, body_in, body_at, family_at}
use Rattle.kernel_reduce.proofs.LookUps.{family-found}
use Rattle.term_pool.specs.Held.{Held}
use Rattle.store_reduce.specs.Arguments.{IsOver}
use Rattle.store_reduce.specs.EntryIds.{body_id, constructor_ids, behind_id}
use Rattle.store_reduce.proofs.CallLaws.{over-products}
use Rattle.store_reduce.proofs.Correspondents.{first-past, second-at}

module _ {I : Type 0} where
  body-from : (held : Held I) (n : ℕ) (e : Entry) (o : Option I) → IsBodyId held e o
      → body_in n e ≡ option_and_then (λ b. cond (is_constant n b) None (Some b)) (option_map held.tree o)
  body-from held n (Definition name type body) (Some id) h = ap (λ b. cond (is_constant n b) None (Some b)) (sym h.1)
  body-from held n (Definition name type body) None h = absurd h
  body-from held n (FamilyOf f) o h = ap (λ p. option_and_then (λ b. cond (is_constant n b) None (Some b)) (option_map held.tree p)) (sym h)
  body-from held n (EliminatorAt g m) o h = ap (λ p. option_and_then (λ b. cond (is_constant n b) None (Some b)) (option_map held.tree p)) (sym h)
  body-from held n (AxiomKAt i m) o h = ap (λ p. option_and_then (λ b. cond (is_constant n b) None (Some b)) (option_map held.tree p)) (sym h)

  body-is_live : (held : Held I) (e : Entry) (b : I) → IsBodyId held e (Some b) → IsTrue (held.live b)
  body-is_live held (Definition name type body) b h = h.0
  body-is_live held (FamilyOf f) b h = absurd (grind arith)
  body-is_live held (EliminatorAt n m) b h = absurd (grind arith)
  body-is_live held (AxiomKAt i m) b h = absurd (grind arith)

  body-found : (held : Held I) (S : Signature) (ids : EntryIds I) (n : ℕ) (id : EntryId I) → Stands held S.entries ids → slice_get ids.entries.items n ≡ Some id
      → body_at S n ≡ option_and_then (λ b. cond (is_constant n b) None (Some b)) (option_map held.tree id.body)
  body-found held S ids n id s there =
      let found = second-at (StandsAt held S.entries) S.entries ids.entries.items s.each n id there in
      ap (option_and_then (body_in n)) found.1.0 ∙ body-from held n found.0 id.body (found.1.1).body

  -- the body of a constant, by the id that stands for it
  pub body-some : (held : Held I) (S : Signature) (ids : EntryIds I) (n : ℕ) (b : I) → Stands held S.entries ids → body_id ids n ≡ Some b
      → body_at S n ≡ cond (is_constant n (held.tree b)) None (Some (held.tree b))
  body-some held S ids n b s e = by_case (slice_get ids.entries.items n) refl e
    where
      by_case : (o : Option (EntryId I)) → slice_get ids.entries.items n ≡ o → option_and_then (λ id. id.body) o ≡ Some b
          → body_at S n ≡ cond (is_constant n (held.tree b)) None (Some (held.tree b))
      by_case None there f = absurd (grind (arith, f))
      by_case (Some id) there f =
          body-found held S ids n id s there ∙ ap (λ o. option_and_then (λ b. cond (is_constant n b) None (Some b)) (option_map held.tree o)) f

  pub body-none : (held : Held I) (S : Signature) (ids : EntryIds I) (n : ℕ) → Stands held S.entries ids → body_id ids n ≡ None → body_at S n ≡ None
  body-none held S ids n s e = by_case (slice_get ids.entries.items n) refl e
    where
      by_case : (o : Option (EntryId I)) → slice_get ids.entries.items n ≡ o → option_and_then (λ id. id.body) o ≡ None → body_at S n ≡ None
      by_case None there f = ap (option_and_then (body_in n)) (first-past (StandsAt held S.entries) S.entries ids.entries.items s.each n there)
      by_case (Some id) there f =
          body-found held S ids n id s there ∙ ap (λ o. option_and_then (λ b. cond (is_constant n b) None (Some b)) (option_map held.tree o)) f

  pub body-live : (held : Held I) (S : Signature) (ids : EntryIds I) (n : ℕ) (b : I) → Stands held S.entries ids → body_id ids n ≡ Some b → IsTrue (held.live b)
  body-live held S ids n b s e = by_case (slice_get ids.entries.items n) refl e
    where
      by_case : (o : Option (EntryId I)) → slice_get ids.entries.items n ≡ o → option_and_then (λ id. id.body) o ≡ Some b → IsTrue (held.live b)
      by_case None there f = absurd (grind (arith, f))
      by_case (Some id) there f =
          let found = second-at (StandsAt held S.entries) S.entries ids.entries.items s.each n id there in
          body-is_live held found.0 b (transport (IsBodyId held found.0) f (found.1.1).body)

pub constructors-at : (f : Family) (number : ℕ) → slice_get (family_of f).constructors number ≡ option_map (constructor_of (length f.params)) (slice_get f.cons number)
constructors-at f number = slice_get-map (constructor_of (length f.params)) f.cons number

module _ {I : Type 0} (held : Held I) (S : Signature) (ids : EntryIds I) (s : Stands held S.entries ids) (n number : ℕ) (f : Family) (c : Constructor)
    (ef : Some (family_of f) ≡ family_at S n) (at : slice_get f.cons number ≡ Some c) where
  entry : IsEntryAt S n (FamilyOf (family_of f))
  entry = family-found S n (family_of f) (sym ef)

  abbrev IsBehind : I → Type 0
  IsBehind id = IsIdOf held id (type_behind n (family_of f) (constructor_of (length f.params) c))

  record IsFound (o : Option (ConstructorId I)) : Type 0 where
    pub id : ConstructorId I
    pub is : o ≡ Some id
    pub behind : IsBehind id.behind

  among : (id : EntryId I) → slice_get ids.entries.items n ≡ Some id → IsFound (slice_get id.cons.items number)
  among id there = by_case (slice_get_cases id.cons.items number).1
    where
      stand : Correspond (λ number. IsConstructorId held n (family_of f)) (family_of f).constructors id.cons.items
      stand = (s.each.each n (FamilyOf (family_of f)) id entry there).constructors

      found : slice_get (family_of f).constructors number ≡ Some (constructor_of (length f.params) c)
      found = constructors-at f number ∙ ap (option_map (constructor_of (length f.params))) at

      by_case : ((x : ConstructorId I) × (number < length id.cons.items) × (slice_get id.cons.items number ≡ Some x) × (get_or id.cons.items number x ≡ x))
          ⊎ ((length id.cons.items ≤ number) × (slice_get id.cons.items number ≡ None)) → IsFound (slice_get id.cons.items number)
      by_case (inl (x, less, is, same)) =
          record { id = x; is = is; behind = (stand.each number (constructor_of (length f.params) c) x found is).behind }
      by_case (inr (past, is)) =
          let within = slice_get_within (family_of f).constructors number (constructor_of (length f.params) c) found in
          absurd (omega (arith, stand.count))

  there : IsFound (constructor_ids ids n number)
  there = by_case (slice_get_cases ids.entries.items n).1
    where
      by_case : ((x : EntryId I) × (n < length ids.entries.items) × (slice_get ids.entries.items n ≡ Some x) × (get_or ids.entries.items n x ≡ x))
          ⊎ ((length ids.entries.items ≤ n) × (slice_get ids.entries.items n ≡ None)) → IsFound (constructor_ids ids n number)
      by_case (inl (x, less, is, same)) =
          transport IsFound (sym (ap (option_and_then (λ id. slice_get id.cons.items number)) is)) (among x is)
      by_case (inr (past, is)) =
          let within = slice_get_within S.entries n (FamilyOf (family_of f)) entry in
          absurd (omega (arith, s.each.count))

  found : behind_id ids n number ≡ Some there.id.behind
  found = ap (option_map (λ (id : ConstructorId I). id.behind)) there.is

  -- the type of a constructor has its id
  pub behind-there : None ≡ behind_id ids n number → ⊥
  behind-there e = grind (arith, e ∙ found)

  -- and that stands for it
  pub behind-stands : (id : I) → Some id ≡ behind_id ids n number → IsIdOf held id (type_behind n (family_of f) (constructor_of (length f.params) c))
  behind-stands id e = transport IsBehind (sym (some_is (e ∙ found))) there.behind

  -- it is a product over the types of the constructor's arguments
  pub behind-over : (id : I) → HasKinds n f → Some id ≡ behind_id ids n number → IsOver c.args (held.tree id)
  behind-over id kinds e =
      let within = slice_get_within f.cons number c at in
      let have = kinds_at n f number c kinds within (some_is (sym at ∙ slice_get-get_or f.cons number c within)) in
      transport (IsOver c.args) (sym ((behind-stands id e).1 ∙ type_behind-of n f c have)) (over-products c.args _)

pub ruleset body_laws = (body-some, body-none, body-live)

pub ruleset stands_laws = (stands-stay)
