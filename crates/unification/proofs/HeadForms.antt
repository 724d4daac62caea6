-- The head forms of both sides of an equation, where they are constructors of one family.
use Rattle.std.proofs.Common.{◌≡◌, ℕ, ◌≤◌, ◌==◌, Bool, true, false, cond, Option, Some, None, IfSome, Ok, refl, sym, subst as transport, arith}
use Rattle.std.proofs.lemmas.Bool.{eqb-true}
use Rattle.theory.specs.Terms.{Term}
use Rattle.theory.specs.Signatures.{Signature}
use Rattle.unification.specs.Built.{Built, built_of}
use Rattle.unification.specs.Constructors.{where_fits, both_heads, right_head, heads, with_built, with_heads, on_constructors}
use Rattle.unification.specs.Turns.{Turn, Trial}
use Rattle.unification.proofs.Reducts.{IsReduct, IsHead, reduced-within}
use Rattle.unification.proofs.SpentUnits.{Within, answered-within, and_next-within}
use Rattle.unification.proofs.Trials.{Found, Comes, none-comes}

-- l and r are reached from u and v, and are constructors b and d of one family
pub record AreSides (S : Signature) (fits : Built → Bool) (u v l : Term) (b : Built) (r : Term) (d : Built) : Type 0 where
  pub left_reduct : IsReduct S u l
  pub right_reduct : IsReduct S v r
  pub left_built : built_of S l ≡ Some b
  pub right_built : built_of S r ≡ Some d
  pub fitting : fits b ≡ true
  pub family : b.n ≡ d.n

-- where none of `left` units is spent, they are u and v themselves
abbrev pub Stay : (left : ℕ) → (u v l r : Term) → (rest : ℕ) → Type 0
Stay left u v l r rest = rest ≡ left → (l ≡ u) × (r ≡ v)

abbrev AreHeads : Signature → (Built → Bool) → (left : ℕ) → (u v : Term) → Term × Term → ℕ → Type 0
AreHeads S fits left u v sides rest =
    (b : Built) × (d : Built) × AreSides S fits u v sides.0 b sides.1 d × Stay left u v sides.0 sides.1 rest

-- a constructor that meets the condition is there and meets it
where_fits-has : (fits : Built → Bool) (o : Option Built) → IfSome (where_fits fits o) (λ b. (o ≡ Some b) × (fits b ≡ true))
where_fits-has fits None = tt
where_fits-has fits (Some b) = by (fits b) refl
  where
    by : (t : Bool) → t ≡ fits b → IfSome (cond t (Some b) None) (λ c. (Some b ≡ Some c) × (fits c ≡ true))
    by true e = (refl, sym e)
    by false e = tt

right_head-within : (S : Signature) (fits : Built → Bool) (left : ℕ) (u v l : Term) (found : Option Built) (rest : ℕ) → rest ≤ left → IsHead S left u l rest
    → IfSome found (λ b. (built_of S l ≡ Some b) × (fits b ≡ true)) → Within rest (Found (AreHeads S fits left u v)) (right_head S l v found rest)
right_head-within S fits left u v l None rest le hl h = answered-within (Found (AreHeads S fits left u v)) (Ok None) rest tt
right_head-within S fits left u v l (Some b) rest le hl h =
    reduced-within (Found (AreHeads S fits left u v)) S true v rest _ (λ r end le' hr.
    answered-within (Found (AreHeads S fits left u v)) (Ok (both_heads l r (where_fits (λ d. d.n == b.n) (built_of S r)))) end
    (both r end le' hr (where_fits (λ d. d.n == b.n) (built_of S r)) (where_fits-has (λ d. d.n == b.n) (built_of S r))))
  where
    both : (r : Term) (end : ℕ) → end ≤ rest → IsHead S rest v r end → (found : Option Built)
        → IfSome found (λ d. (built_of S r ≡ Some d) × ((d.n == b.n) ≡ true)) → Found (AreHeads S fits left u v) (both_heads l r found) end
    both r end le' hr None k = tt
    both r end le' hr (Some d) k = (
      b,
      d,
      record {
        left_reduct = hl.reduct;
        right_reduct = hr.reduct;
        left_built = h.0;
        right_built = k.0;
        fitting = h.1;
        family = sym (eqb-true d.n b.n k.1);
      },
      λ same. (hl.stays (omega arith), hr.stays (omega arith)),
    )

heads-within : (S : Signature) (fits : Built → Bool) (u v : Term) (left : ℕ) → Within left (Found (AreHeads S fits left u v)) (heads S fits u v left)
heads-within S fits u v left =
    reduced-within (Found (AreHeads S fits left u v)) S true u left _ (λ l rest le hl.
    right_head-within S fits left u v l (where_fits fits (built_of S l)) rest le hl (where_fits-has fits (built_of S l)))

-- trials of the constructors on both sides
pub on_constructors-comes : (P : Turn → ℕ → Type 0) (S : Signature) (fits : Built → Bool) (u v : Term)
    (go : (l : Term) (b : Built) (r : Term) (d : Built) → Trial) (left : ℕ)
    → ((l : Term) (b : Built) (r : Term) (d : Built) (rest : ℕ) → rest ≤ left → AreSides S fits u v l b r d → Stay left u v l r rest → Comes P (go l b r d) rest)
    → Comes P (on_constructors S fits u v go) left
on_constructors-comes P S fits u v go left h =
    and_next-within (Found (AreHeads S fits left u v)) (Found P) (heads S fits u v left) (λ found rest. with_heads S go found rest) left
    (heads-within S fits u v left) by
  where
    by : (found : Option (Term × Term)) (rest : ℕ) → rest ≤ left → Found (AreHeads S fits left u v) found rest → Comes P (with_heads S go found) rest
    by None rest le is = none-comes P rest
    by (Some sides) rest le (b, d, is, stay) =
        transport (λ o. Comes P (with_built go sides.0 sides.1 o (built_of S sides.1)) rest) (sym is.left_built)
        (transport (λ o. Comes P (with_built go sides.0 sides.1 (Some b) o) rest) (sym is.right_built)
        (h sides.0 b sides.1 d rest le is stay))
