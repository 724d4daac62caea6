-- The entry that is found under a name is a definition of that name, also in each longer signature.
use Rattle.std.proofs.Common.{◌≡◌, ℕ, suc, ◌+◌, Bool, true, false, cond, Option, Some, List, [], ◌∷◌, ◌++◌, length, map, slice_get, bytes_eq, refl, sym, ap, ◌∙◌, subst as transport, arith}
use Rattle.std.specs.Map.{lookup}
use Rattle.std.proofs.lemmas.Option.{none-some}
use Rattle.std.proofs.lemmas.Slice.Eq.{bytes_eq-Decides}
use Rattle.theory.specs.Terms.{Term}
use Rattle.theory.specs.Signatures.{Entry, IsPrefix, Signature}
use Rattle.theory.specs.Signatures.Entry.{AxiomKAt, Definition, EliminatorAt, FamilyOf}
use Rattle.theory.proofs.Widening.{prefix_keeps}
use Rattle.core_sig.specs.Names.{named, named_constructors}
use Rattle.core_sig.specs.declared.entry.Found.{Found}
use Rattle.core_sig.specs.declared.entry.Found.TheVariants as found
use Rattle.core_sig.proofs.NameLists.{named-append}
use Rattle.clause_reports.specs.Conditions.{IsDefined}
use Rattle.drafts.specs.draft_entering.Conditions as entering
use Rattle.drafts.proofs.draft_entering.Longer.{lookup-some}

-- the entry at a place, if it is a definition, has the name
abbrev HasName : List ℕ → (k : ℕ) → List Entry → ℕ → Type 0
HasName name k es n =
    (j : ℕ) × (n ≡ k + j) × ((own : List ℕ) (type body : Term) → slice_get es j ≡ Some (Definition own type body) → own ≡ name)

later : (name : List ℕ) (k : ℕ) (e : Entry) (es : List Entry) (n : ℕ) → HasName name (k + 1) es n → HasName name k (e ∷ es) n
later name k e es n (j, place, own) = (suc j, omega (arith, place), own)

-- no constructor is an entry
constructors-skipped : (P : Type 0) (name : List ℕ) (f number n : ℕ) (names : List (List ℕ)) (rest : List (List ℕ × Found))
    → lookup (bytes_eq name) (named_constructors f number names ++ rest) ≡ Some (found.Entry n) → (lookup (bytes_eq name) rest ≡ Some (found.Entry n) → P) → P
constructors-skipped P name f number n [] rest e go = go e
constructors-skipped P name f number n (x ∷ names) rest e go =
    by (bytes_eq name x) e (λ h. constructors-skipped P name f (number + 1) n names rest h go)
  where
    by : (b : Bool) → cond b (Some (found.Con f number)) (lookup (bytes_eq name) (named_constructors f (number + 1) names ++ rest)) ≡ Some (found.Entry n)
        → (lookup (bytes_eq name) (named_constructors f (number + 1) names ++ rest) ≡ Some (found.Entry n) → P) → P
    by true h go = absurd (cc)
    by false h go = go h

same-entry : (n k : ℕ) → ◌≡◌ {A = Option Found} (Some (found.Entry k)) (Some (found.Entry n)) → n ≡ k
same-entry n k e = cc

named-there : (name : List ℕ) (k : ℕ) (es : List Entry) (n : ℕ) → lookup (bytes_eq name) (named k es) ≡ Some (found.Entry n) → HasName name k es n
named-there name k [] n e = absurd (none-some (found.Entry n) e)
named-there name k (FamilyOf f ∷ es) n e =
    by (bytes_eq name f.name) e (λ h. later name k (FamilyOf f) es n (named-there name (k + 1) es n h))
  where
    by : (b : Bool)
        → cond b (Some (found.Entry k)) (lookup (bytes_eq name) (named_constructors k 0 (map (λ c. c.name) f.constructors) ++ named (k + 1) es)) ≡ Some (found.Entry n)
        → (lookup (bytes_eq name) (named (k + 1) es) ≡ Some (found.Entry n) → HasName name k (FamilyOf f ∷ es) n) → HasName name k (FamilyOf f ∷ es) n
    by true h go = (0, omega (arith, same-entry n k h), λ own type body at. absurd (cc))
    by false h go =
        constructors-skipped (HasName name k (FamilyOf f ∷ es) n) name k 0 n (map (λ c. c.name) f.constructors) (named (k + 1) es) h go
named-there name k (EliminatorAt g m ∷ es) n e = later name k (EliminatorAt g m) es n (named-there name (k + 1) es n e)
named-there name k (AxiomKAt i m ∷ es) n e = later name k (AxiomKAt i m) es n (named-there name (k + 1) es n e)
named-there name k (Definition own type body ∷ es) n e =
    by (bytes_eq name own) refl e (λ h. later name k (Definition own type body) es n (named-there name (k + 1) es n h))
  where
    first : (other : List ℕ) (t u : Term) → ◌≡◌ {A = Option Entry} (Some (Definition own type body)) (Some (Definition other t u)) → own ≡ other
    first other t u h = cc

    by : (b : Bool) → bytes_eq name own ≡ b → cond b (Some (found.Entry k)) (lookup (bytes_eq name) (named (k + 1) es)) ≡ Some (found.Entry n)
        → (lookup (bytes_eq name) (named (k + 1) es) ≡ Some (found.Entry n) → HasName name k (Definition own type body ∷ es) n)
        → HasName name k (Definition own type body ∷ es) n
    by true is h go =
        (0, omega (arith, same-entry n k h), λ other t u at. sym (first other t u at) ∙ sym ((bytes_eq-Decides name own).0 is))
    by false is h go = go h

-- a name of a definition is the definition's own
pub defined-there : (S : Signature) (name : List ℕ) → entering.IsDefined S name → IsDefined S name
defined-there S name (n, at, (own, type, body, there)) =
    let (j, place, same) = named-there name 0 S.entries n at in
    let here : j ≡ n = omega (arith, place) in
    let named : own ≡ name = same own type body (ap (slice_get S.entries) here ∙ there) in
    record {
      number = n;
      type = type;
      body = body;
      there = transport (λ name. slice_get S.entries n ≡ Some (Definition name type body)) named there;
      found = at;
    }

-- ---- longer signatures

pub defined-on : (S T : Signature) → IsPrefix S T → (name : List ℕ) → IsDefined S name → IsDefined T name
defined-on S T more name d = record {
  number = d.number;
  type = d.type;
  body = d.body;
  there = (prefix_keeps more).entry d.number (Definition name d.type d.body) d.there;
  found =
      ap (λ es. lookup (bytes_eq name) (named 0 es)) more.entries
      ∙ (ap (lookup (bytes_eq name)) (named-append 0 S.entries more.more)
      ∙ lookup-some name (named 0 S.entries) (named (0 + length S.entries) more.more) (found.Entry d.number) d.found);
}
