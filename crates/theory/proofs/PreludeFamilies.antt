-- The families of the prelude are well formed, at every level below `top` and over any signature before them.
use Rattle.std.proofs.Common.{ℕ, ◌+◌, ◌<◌, length, refl, lit<, le_refl}
use Rattle.std.proofs.lemmas.List.Elements.{All-nil}
use Rattle.theory.specs.Terms.{Var, Fam, top}
use Rattle.theory.specs.Telescopes.{Context}
use Rattle.theory.specs.Families.{Plain, Family, Lacks, IsPositiveArgument, IsPositiveConstructor, family_type, without_constructors}
use Rattle.theory.specs.Signatures.{Signature, FamilyOf, family}
use Rattle.theory.specs.Typing.{Has, IsContext, empty, bind, variable, sort, application, symbol}
use Rattle.theory.specs.WellFormed.{pushed, IsFamily, IsConstructor, HasTargets, none, more}
use Rattle.theory.specs.Prelude.{empty_family, equality_family, unit_family, pair_family}
use Rattle.theory.proofs.Lists.{slice_get-last, only, both}
use Rattle.theory.proofs.Products.{pi}

-- the family that was just declared is a symbol of the signature
pub new_family : (S : Signature) (f : Family) {G : Context} → IsContext (pushed S (FamilyOf (without_constructors f))) G
    → Has (pushed S (FamilyOf (without_constructors f))) G (Fam (length S.entries)) (family_type f)
new_family S f c = symbol c (family (length S.entries) (slice_get-last S.entries (FamilyOf (without_constructors f))))

pub empty_is_family : (S : Signature) → IsFamily S empty_family
empty_is_family S = record {
  level = lit< tt;
  type = (1, sort 0 empty (lit< tt));
  indices = none;
  constructors = All-nil _;
  positive = All-nil _;
}

pub equality_is_family : (S : Signature) (i : ℕ) → i < top → IsFamily S (equality_family i)
equality_is_family S i h = record {
  level = h;
  type = (_, pi (i + 1) _ empty (sort i empty h) λ c1. pi i _ c1 (variable 0 c1 refl) λ c2. pi i (i + 1) c2 (variable 1 c2 refl) λ c3. sort i c3 h);
  indices =
      let c1 = bind (i + 1) empty (sort i empty h) in
      let c2 = bind i c1 (variable 0 c1 refl) in
      more (variable 1 c2 refl) (le_refl i) none;
  constructors = only (IsConstructor (pushed S (FamilyOf (without_constructors (equality_family i)))) (length S.entries) (equality_family i)) _ (record {
    type = (
      _,
      pi (i + 1) _ empty (sort i empty h) λ c1. pi i i c1 (variable 0 c1 refl) λ c2.
          application (application (application (new_family S (equality_family i) c2) (variable 1 c2 refl)) (variable 0 c2 refl)) (variable 0 c2 refl),
    );
    levels = none;
    targets = refl;
    argument_targets = All-nil _;
  });
  positive = only (IsPositiveConstructor (length S.entries)) _ (record { arguments = All-nil _; targets = only (Lacks (length S.entries)) (Var 0) refl });
}

pub unit_is_family : (S : Signature) (i : ℕ) → i < top → IsFamily S (unit_family i)
unit_is_family S i h = record {
  level = h;
  type = (i + 1, sort i empty h);
  indices = none;
  constructors = only (IsConstructor (pushed S (FamilyOf (without_constructors (unit_family i)))) (length S.entries) (unit_family i)) _ (record {
    type = (i, new_family S (unit_family i) empty);
    levels = none;
    targets = refl;
    argument_targets = All-nil _;
  });
  positive = only (IsPositiveConstructor (length S.entries)) _ (record { arguments = All-nil _; targets = All-nil _ });
}

pub pair_is_family : (S : Signature) (i : ℕ) → i < top → IsFamily S (pair_family i)
pair_is_family S i h = record {
  level = h;
  type = (_, pi (i + 1) _ empty (sort i empty h) λ c1. pi (i + 1) (i + 1) c1 (sort i c1 h) λ c2. sort i c2 h);
  indices = none;
  constructors = only (IsConstructor (pushed S (FamilyOf (without_constructors (pair_family i)))) (length S.entries) (pair_family i)) _ (record {
    type = (
      _,
      pi (i + 1) _ empty (sort i empty h) λ c1. pi (i + 1) _ c1 (sort i c1 h) λ c2. pi i _ c2 (variable 1 c2 refl) λ c3.
          pi i i c3 (variable 1 c3 refl) λ c4. application (application (new_family S (pair_family i) c4) (variable 3 c4 refl)) (variable 2 c4 refl),
    );
    levels =
        let c1 = bind (i + 1) empty (sort i empty h) in
        let c2 = bind (i + 1) c1 (sort i c1 h) in
        let c3 = bind i c2 (variable 1 c2 refl) in
        more (variable 1 c2 refl) (le_refl i) (more (variable 1 c3 refl) (le_refl i) none);
    targets = refl;
    argument_targets = both (HasTargets (pair_family i)) (Plain (Var 1) i) (Plain (Var 1) i) tt tt;
  });
  positive = only (IsPositiveConstructor (length S.entries)) _ (record {
    arguments = both (IsPositiveArgument (length S.entries)) (Plain (Var 1) i) (Plain (Var 1) i) refl refl;
    targets = All-nil _;
  });
}
