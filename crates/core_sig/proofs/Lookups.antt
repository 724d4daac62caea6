-- Look-up in a list of names, and how a map keyed by owned bytes shows one.
use Rattle.std.proofs.Common.{◌≡◌, ℕ, cond, List, [], ◌∷◌, ◌++◌, map, None, Some, Vec, bytes_eq, refl, ap, sym, ◌∙◌, subst}
use Rattle.std.proofs.lemmas.List.{map-append}
use Rattle.std.specs.Map.{lookup}
use Rattle.std.specs.declared.alloc.Global.{Global}
use Rattle.indexmap.specs.IndexMap.{IndexMap, insert_entry}
use Rattle.indexmap.proofs.CallerLemmas.{insert_entry-new}
use Rattle.core_sig.specs.declared.entry.Found.{Found}

abbrev pub shown : List (Vec ℕ Global × Found) → List (List ℕ × Found)
shown es = map (λ p. (p.0.items, p.1)) es

-- a look-up by the bytes of keys is one by names
pub lookup-shown : (name : List ℕ) (es : List (Vec ℕ Global × Found)) → lookup (λ k. bytes_eq name k.items) es ≡ lookup (bytes_eq name) (shown es)
lookup-shown name [] = refl
lookup-shown name (e ∷ es) = ap (cond (bytes_eq name e.0.items) (Some e.1)) (lookup-shown name es)

-- a new name goes last
pub shown-insert : {S : Type 0} (m : IndexMap (Vec ℕ Global) Found S) (k : Vec ℕ Global) (found : Found) (name : List ℕ) → k.items ≡ name → lookup (bytes_eq name) (shown m.entries) ≡ None → shown (insert_entry (λ p q. bytes_eq p.items q.items) m.entries k found) ≡ shown m.entries ++ (name, found) ∷ []
shown-insert m k found name same none =
    ap shown (insert_entry-new (λ p q. bytes_eq p.items q.items) m k found (subst (λ n. lookup (λ q. bytes_eq n q.items) m.entries ≡ None) (sym same) (lookup-shown name m.entries ∙ none)))
    ∙ (map-append (λ (p : Vec ℕ Global × Found). (p.0.items, p.1)) m.entries ((k, found) ∷ [])
    ∙ ap (λ n. shown m.entries ++ (n, found) ∷ []) same)
