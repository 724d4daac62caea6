-- The loops that write lines, one turn; and the block of an instance.
use Rattle.std.proofs.Common.{◌≡◌, ◌⊎◌, inl, inr, ◌<◌, ℕ, ◌+◌, List, ◌∷◌, ◌++◌, length, get_or, map, drop, Ok, append_assoc, refl, ap, sym, ◌∙◌, arith}
use Rattle.std.specs.Prelude.{codes}
use Rattle.std.proofs.lemmas.List.{length-map}
use Rattle.theory.specs.Signatures.{Signature}
use Rattle.theory.specs.Terms.{Term}
use Rattle.core_terms.proofs.Lists.{drop-at, get-any, map-item}
use Rattle.core_terms.specs.Meanings.{tree_of}
use Rattle.core_sig.specs.Meanings.{entry_of}
use Rattle.core_sig.specs.Raw.{raw_constructor_of}
use Rattle.core_sig.specs.declared.entry.Entry.{Entry}
use Rattle.core_sig.specs.declared.entry.Entry.TheVariants.{Elim, AxiomK}
use Rattle.core_sig.specs.declared.raw.RawCon.{RawCon}
use Rattle.core_text.specs.EntryText.{entry_line}
use Rattle.core_text.specs.RawEntries.{entry_shown}
use Rattle.term_pool.specs.Pools.{Pooled, pool_held}
use Rattle.term_pool.specs.declared.ids.Id.{Id}
use Rattle.shared_text.specs.BlockText.{constructors_by, low_block, parameters_by}
use Rattle.shared_text.specs.CodeMeanings.{trees}

-- one parameter less to write
pub parameters-less : (text : Term → List ℕ) (p : Pooled) (params : List Id) (i : ℕ) (default : Id) (out whole : List ℕ) → i < length params
    → out ++ parameters_by text (trees p (drop i params)) ≡ whole
    → out ++ codes " (" ++ text ((pool_held p).tree (get_or params i default)) ++ codes ")" ++ parameters_by text (trees p (drop (i + 1) params)) ≡ whole
parameters-less text p params i default out whole within left =
    simp append_assoc (simp append_assoc at (sym (ap (λ xs. out ++ parameters_by text (trees p xs)) split)) ∙ left)
  where
    id : Id
    id = get_or params i default

    split : drop i params ≡ id ∷ drop (i + 1) params
    split = drop-at params i id within (get-any params i default id within)

-- the id at a constructor's place is that of its type
type-at : (p : Pooled) (types : List Id) (cons : List RawCon) (i : ℕ) (con : RawCon) (default : Id) → i < length cons → con ≡ get_or cons i con
    → trees p types ≡ map (λ c. c.type) (map raw_constructor_of cons) → (pool_held p).tree (get_or types i default) ≡ tree_of con.ty
type-at p types cons i con default within is terms =
    let t = tree_of con.ty in
    let id = get_or types i default in
    let count : length types ≡ length cons =
    sym (length-map types (pool_held p).tree) ∙ (ap length terms ∙ (length-map (map raw_constructor_of cons) (λ c. c.type) ∙ length-map cons raw_constructor_of)) in
    let named = map-item (λ c. c.type) (map raw_constructor_of cons) i (raw_constructor_of con) (map-item raw_constructor_of cons i con is) in
    let low : i < length (trees p types) = omega (arith, within, count, length-map types (pool_held p).tree) in
    map-item (pool_held p).tree types i id (get-any types i default id (omega (arith, within, count)))
    ∙ (get-any (trees p types) i ((pool_held p).tree id) t low ∙ (ap (λ ts. get_or ts i t) terms ∙ sym named))

-- one constructor less to write
pub constructors-less : (text : Term → List ℕ) (p : Pooled) (types : List Id) (cons : List RawCon) (i : ℕ) (con : RawCon) (default : Id) (before out whole : List ℕ)
    → i < length cons → con ≡ get_or cons i con → trees p types ≡ map (λ c. c.type) (map raw_constructor_of cons)
    → out ++ constructors_by text before (map raw_constructor_of (drop i cons)) ≡ whole
    → out ++ before ++ con.name ++ codes " : " ++ text ((pool_held p).tree (get_or types i default)) ++ constructors_by text (codes " ; ") (map raw_constructor_of (drop (i + 1) cons)) ≡ whole
constructors-less text p types cons i con default before out whole within is terms left =
    rw (type-at p types cons i con default within is terms)
    (simp append_assoc (simp append_assoc at (sym (ap (λ xs. out ++ constructors_by text before (map raw_constructor_of xs)) split)) ∙ left))
  where
    split : drop i cons ≡ con ∷ drop (i + 1) cons
    split = drop-at cons i con within is

-- the block of an instance is its line, which writes no terms
pub instance-block : (S : Signature) (n : ℕ) (x : Entry) → ((f : ℕ) × (m : ℕ) × x ≡ Elim f m) ⊎ ((i : ℕ) × (m : ℕ) × x ≡ AxiomK i m)
    → Ok (entry_line S n (entry_of x)) ≡ low_block S (entry_shown n (entry_of x))
instance-block S n x (inl is) = rw is.2 refl
instance-block S n x (inr is) = rw is.2 refl
