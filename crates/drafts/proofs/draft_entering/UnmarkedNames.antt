-- A name that is generated holds a `!`, and so it is no family's and no constructor's.
use Rattle.std.proofs.Common.{◌≡◌, ◌⊎◌, inl, inr, ℕ, zero, ◌+◌, ◌==◌, ◌||◌, Bool, true, false, cond, Option, Some, None, List, [], ◌∷◌, ◌++◌, map, bytes_eq, codes, refl, sym, ap, ◌∙◌, arith}
use Rattle.std.specs.List.{All}
use Rattle.std.specs.Map.{lookup}
use Rattle.std.proofs.lemmas.Bool.{true≢false}
use Rattle.std.proofs.lemmas.List.Elements.{All-head, All-tail}
use Rattle.std.proofs.lemmas.Option.{none-some}
use Rattle.std.proofs.lemmas.Slice.Eq.{bytes_eq-Decides}
use Rattle.theory.specs.Families.{Constructor}
use Rattle.theory.specs.Signatures.{Signature, Entry, FamilyOf, EliminatorAt, AxiomKAt, Definition}
use Rattle.theory.specs.PreludeFamilies.{level_text}
use Rattle.theory.proofs.Lists.{some_is}
use Rattle.core_sig.specs.Names.{find, named, named_constructors}
use Rattle.core_sig.specs.declared.entry.Found.{Found}
use Rattle.core_sig.specs.declared.entry.Found.TheVariants.{Entry as FoundEntry, Con as FoundCon}
use Rattle.generators.specs.noconf_gen.NoConfusionTypes.{constructor_mark, constructor_name}
use Rattle.clause_reports.specs.Generated as pure
use Rattle.clause_reports.specs.Generated.{Generated, Case, Below, Aux, Rec, ConfusionType, NoConfusion, Direct, Acyclic, Left, name_of}
use Rattle.drafts.specs.draft_entering.Conditions.{IsDefined}
use Rattle.drafts.specs.draft_entering.FreeNames.{is_marked, HasUnmarkedNames, NamesAreFree}
use Rattle.drafts.proofs.draft_entering.Longer.{IsNamedAt, later}
use Rattle.drafts.proofs.draft_entering.TableLookups.{found-listed}

-- ---- generated entries

marked-right : (xs ys : List ℕ) → is_marked ys ≡ true → is_marked (xs ++ ys) ≡ true
marked-right [] ys h = h
marked-right (x ∷ xs) ys h = by (x == 33) (marked-right xs ys h)
  where
    by : (b : Bool) → is_marked (xs ++ ys) ≡ true → (b || is_marked (xs ++ ys)) ≡ true
    by true e = refl
    by false e = e

marked-left : (xs ys : List ℕ) → is_marked xs ≡ true → is_marked (xs ++ ys) ≡ true
marked-left [] ys h = absurd (true≢false (sym h))
marked-left (x ∷ xs) ys h = by (x == 33) (marked-left xs ys) h
  where
    by : (b : Bool) → (is_marked xs ≡ true → is_marked (xs ++ ys) ≡ true) → (b || is_marked xs) ≡ true → (b || is_marked (xs ++ ys)) ≡ true
    by true rest e = refl
    by false rest e = rest e

between : (family mark level : List ℕ) → is_marked mark ≡ true → is_marked ((family ++ mark) ++ level) ≡ true
between family mark level h = marked-left (family ++ mark) level (marked-right family mark h)

generated-marked : (g : Generated) → is_marked (name_of g) ≡ true
generated-marked (Case n f m) = between f.name (codes "!case.") (level_text m) refl
generated-marked (Below n f m) = between f.name (codes "!below.") (level_text m) refl
generated-marked (Aux n f m) = between f.name (codes "!aux.") (level_text m) refl
generated-marked (Rec n f m) = between f.name (codes "!rec.") (level_text m) refl
generated-marked (pure.All n f m) = between f.name (codes "!all.") (level_text m) refl
generated-marked (ConfusionType n f number m) =
    between f.name (constructor_mark (codes "!nct.") (constructor_name f number)) (level_text m) refl
generated-marked (NoConfusion n f number m) =
    between f.name (constructor_mark (codes "!noconf.") (constructor_name f number)) (level_text m) refl
generated-marked (Direct n f) = marked-right f.name (codes "!direct") refl
generated-marked (Acyclic n f) = marked-right f.name (codes "!acyclic") refl
generated-marked (Left i m) = between (codes "Eq." ++ level_text i) (codes "!left.") (level_text m) refl

-- ---- known names

-- a constructor's name, or one that is found after them
constructors-known : (name : List ℕ) (n number : ℕ) (constructors : List Constructor) (ys : List (List ℕ × Found)) (x : Found)
    → All (λ c. is_marked c.name ≡ false) constructors
    → lookup (bytes_eq name) (named_constructors n number (map (λ c. c.name) constructors) ++ ys) ≡ Some x
    → (is_marked name ≡ false) ⊎ (lookup (bytes_eq name) ys ≡ Some x)
constructors-known name n number [] ys x all h = inr h
constructors-known name n number (c ∷ constructors) ys x all h =
    by (bytes_eq name c.name) refl
    (constructors-known name n (number + 1) constructors ys x (All-tail (λ k. is_marked k.name ≡ false) c constructors all)) h
  where
    rest : List (List ℕ × Found)
    rest = named_constructors n (number + 1) (map (λ k. k.name) constructors) ++ ys

    by : (b : Bool) → bytes_eq name c.name ≡ b → (lookup (bytes_eq name) rest ≡ Some x → (is_marked name ≡ false) ⊎ (lookup (bytes_eq name) ys ≡ Some x))
        → cond b (Some (FoundCon n number)) (lookup (bytes_eq name) rest) ≡ Some x
        → (is_marked name ≡ false) ⊎ (lookup (bytes_eq name) ys ≡ Some x)
    by true e deeper is =
        inl (ap is_marked ((bytes_eq-Decides name c.name).0 e) ∙ All-head (λ k. is_marked k.name ≡ false) c constructors all)
    by false e deeper is = deeper is

known : (name : List ℕ) (entries : List Entry) (k : ℕ) (x : Found) → All HasUnmarkedNames entries → lookup (bytes_eq name) (named k entries) ≡ Some x
    → IsNamedAt entries k x ⊎ (is_marked name ≡ false)
known name [] k x all h = absurd (none-some x h)
known name (FamilyOf f ∷ entries) k x all h =
    by (bytes_eq name f.name) refl (known name entries (k + 1) x (All-tail HasUnmarkedNames (FamilyOf f) entries all)) h
  where
    own : HasUnmarkedNames (FamilyOf f)
    own = All-head HasUnmarkedNames (FamilyOf f) entries all

    after : (IsNamedAt entries (k + 1) x ⊎ (is_marked name ≡ false)) → IsNamedAt (FamilyOf f ∷ entries) k x ⊎ (is_marked name ≡ false)
    after (inl at) = inl (later (FamilyOf f) entries k x at)
    after (inr free) = inr free

    by : (b : Bool) → bytes_eq name f.name ≡ b → (lookup (bytes_eq name) (named (k + 1) entries) ≡ Some x → IsNamedAt entries (k + 1) x ⊎ (is_marked name ≡ false))
        → cond b (Some (FoundEntry k)) (lookup (bytes_eq name) (named_constructors k 0 (map (λ c. c.name) f.constructors) ++ named (k + 1) entries)) ≡ Some x
        → IsNamedAt (FamilyOf f ∷ entries) k x ⊎ (is_marked name ≡ false)
    by true e deeper is = inr (ap is_marked ((bytes_eq-Decides name f.name).0 e) ∙ own.0)
    by false e deeper is = elim (constructors-known name k 0 f.constructors (named (k + 1) entries) x own.1 is) [
      | inl free ↦ inr free
      | inr there ↦ after (deeper there)
    ]
known name (EliminatorAt n m ∷ entries) k x all h = elim (known name entries (k + 1) x (All-tail HasUnmarkedNames (EliminatorAt n m) entries all) h) [
  | inl at ↦ inl (later (EliminatorAt n m) entries k x at)
  | inr free ↦ inr free
]
known name (AxiomKAt i m ∷ entries) k x all h = elim (known name entries (k + 1) x (All-tail HasUnmarkedNames (AxiomKAt i m) entries all) h) [
  | inl at ↦ inl (later (AxiomKAt i m) entries k x at)
  | inr free ↦ inr free
]
known name (Definition own type body ∷ entries) k x all h =
    by (bytes_eq name own) (known name entries (k + 1) x (All-tail HasUnmarkedNames (Definition own type body) entries all)) h
  where
    by : (b : Bool) → (lookup (bytes_eq name) (named (k + 1) entries) ≡ Some x → IsNamedAt entries (k + 1) x ⊎ (is_marked name ≡ false))
        → cond b (Some (FoundEntry k)) (lookup (bytes_eq name) (named (k + 1) entries)) ≡ Some x
        → IsNamedAt (Definition own type body ∷ entries) k x ⊎ (is_marked name ≡ false)
    by true deeper is = inl (record {
      place = zero;
      number = sym (some_is is) ∙ ap FoundEntry (omega arith);
      name = own;
      type = type;
      body = body;
      there = refl;
    })
    by false deeper is = elim (deeper is) [
      | inl at ↦ inl (later (Definition own type body) entries k x at)
      | inr free ↦ inr free
    ]

named-defined : (S : Signature) (name : List ℕ) (x : Found) → find S name ≡ Some x → IsNamedAt S.entries 0 x → IsDefined S name
named-defined S name x is at =
    let same : 0 + at.place ≡ at.place = omega arith in
    (at.place, is ∙ ap Some (at.number ∙ ap FoundEntry same), (at.name, at.type, at.body, at.there))

pub names-free : NamesAreFree
names-free S all name (g, made) = by (find S name) refl
  where
    marked : is_marked name ≡ true
    marked = ap is_marked (sym (found-listed S name g made).named) ∙ generated-marked g

    by : (o : Option Found) → find S name ≡ o → (find S name ≡ None) ⊎ IsDefined S name
    by None is = inl is
    by (Some x) is = elim (known name S.entries 0 x all is) [
      | inl at ↦ inr (named-defined S name x is at)
      | inr free ↦ absurd (true≢false (sym marked ∙ free))
    ]
