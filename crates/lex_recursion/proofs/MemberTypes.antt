-- The family that a type is, with its parameters and indices.
use Rattle.std.proofs.Common.{◌≡◌, ℕ, ◌+◌, Bool, true, false, ◌==◌, cond, Option, Some, None, option_and_then, List, ◌++◌, length, take, drop, refl, sym, ap, ap₂, ◌∙◌, subst}
use Rattle.std.proofs.lemmas.Bool.Decides.{Decides-eqb}
use Rattle.std.proofs.lemmas.List.{length-append}
use Rattle.std.proofs.lemmas.Option.{none-some}
use Rattle.std.proofs.Math.Seq.{take-append_seam, drop-append_seam}
use Rattle.theory.specs.Terms.{Term, Fam}
use Rattle.theory.specs.Spines.{head_of, spine_of}
use Rattle.theory.specs.Telescopes.{applied}
use Rattle.theory.specs.Families.{Family}
use Rattle.theory.specs.Signatures.{Signature, FamilyOf, IsEntryAt}
use Rattle.theory.proofs.Lists.{some_is}
use Rattle.core_sig.proofs.Arguments.{spine_of-applied}
use Rattle.kernel_reduce.specs.Entries.{family_in, family_at}
use Rattle.tele_eq.specs.Items.{AreSmallTerms, IsSmall}
use Rattle.case_trees.specs.Problems.{Member, member_at, member_of, member_with}
use Rattle.tree_translation.proofs.structural_rec.LowerParts.{head_of-applied}
use Rattle.tree_translation.proofs.structural_rec.SmallTerms.{small-spine, small-take}

-- a head with arguments is this family with all its parameters and indices
pub record IsMemberAt (S : Signature) (h : Term) (spine : List Term) (m : Member) : Type 0 where
  pub head : h ≡ Fam m.n
  pub known : family_at S m.n ≡ Some m.family
  pub counted : length spine ≡ length m.family.parameters + length m.family.indices
  pub parameters : m.parameters ≡ take (length m.family.parameters) spine
  pub indices : m.indices ≡ drop (length m.family.parameters) spine

pub member-tells : (S : Signature) (h : Term) (spine : List Term) (m : Member) → member_at S h spine ≡ Some m → IsMemberAt S h spine m
member-tells S (Fam n) spine m e = by (family_at S n) refl e
  where
    whole : (f : Family) → family_at S n ≡ Some f → (b : Bool) → (length spine == length f.parameters + length f.indices) ≡ b
        → cond b (Some (record { n = n; family = f; parameters = take (length f.parameters) spine; indices = drop (length f.parameters) spine })) None ≡ Some m
        → IsMemberAt S (Fam n) spine m
    whole f at true t e =
        subst (IsMemberAt S (Fam n) spine) (some_is e)
        (record { head = refl; known = at; counted = (Decides-eqb (length spine) (length f.parameters + length f.indices)).0 t; parameters = refl; indices = refl })
    whole f at false t e = absurd (none-some m e)

    by : (o : Option Family) → family_at S n ≡ o → option_and_then (member_with n spine) o ≡ Some m → IsMemberAt S (Fam n) spine m
    by None at e = absurd (none-some m e)
    by (Some f) at e = whole f at (length spine == length f.parameters + length f.indices) refl e
member-tells S _ spine m e = absurd (none-some m e)

pub member-found : (S : Signature) (n : ℕ) (f : Family) (ps is : List Term) → IsEntryAt S n (FamilyOf f) → length ps ≡ length f.parameters
    → length is ≡ length f.indices → member_of S (applied (Fam n) (ps ++ is)) ≡ Some (record { n = n; family = f; parameters = ps; indices = is })
member-found S n f ps is known counted indexed =
    ap₂ (member_at S) (head_of-applied (Fam n) (ps ++ is)) (spine_of-applied (Fam n) (ps ++ is))
    ∙ (ap (λ o. option_and_then (member_with n (ps ++ is)) (option_and_then family_in o)) known
    ∙ (ap (λ b. cond b (Some (record { n = n; family = f; parameters = take count (ps ++ is); indices = drop count (ps ++ is) })) None)
    ((Decides-eqb (length (ps ++ is)) (count + length f.indices)).1 (length-append ps is ∙ ap₂ (λ x y. x + y) counted indexed))
    ∙ ap₂ (λ us vs. Some (record { n = n; family = f; parameters = us; indices = vs })) front back))
  where
    count : ℕ
    count = length f.parameters

    front : take count (ps ++ is) ≡ ps
    front = ap (λ k. take k (ps ++ is)) (sym counted) ∙ take-append_seam ps is

    back : drop count (ps ++ is) ≡ is
    back = ap (λ k. drop k (ps ++ is)) (sym counted) ∙ drop-append_seam ps is

-- the parameters of a small type are small
pub member-small : (S : Signature) (t : Term) (m : Member) → member_of S t ≡ Some m → IsSmall t → AreSmallTerms m.parameters
member-small S t m e small =
    let is = member-tells S (head_of t) (spine_of t) m e in
    subst AreSmallTerms (sym is.parameters) (small-take (length m.family.parameters) (spine_of t) (small-spine t small))
