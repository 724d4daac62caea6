-- The generated entries of a family have names that begin with the name of the family.
use Rattle.std.proofs.Common.{◌≡◌, ℕ, Bool, true, false, cond, ◌&&◌, None, Some, List, [], ◌∷◌, ◌++◌, length, bytes_eq, codes, flat_map, refl, sym, ap, ◌∙◌, append_assoc}
use Rattle.std.specs.Option.{option_or}
use Rattle.std.specs.List.{range_with_len}
use Rattle.theory.specs.Families.{Family}
use Rattle.theory.specs.PreludeFamilies.{level_text}
use Rattle.theory.specs.Signatures.{FamilyOf}
use Rattle.core_sig.specs.Drafts.{generated_name}
use Rattle.generators.specs.noconf_gen.NoConfusionTypes.{constructor_name}
use Rattle.clause_reports.specs.Generated.{Generated, at_level, is_generated, levels, name_of, of_entry}
use Rattle.clause_reports.specs.Generated.Generated.{Case, Below, Aux, Rec, All, ConfusionType, NoConfusion, Direct, Acyclic}
use Rattle.drafts.specs.draft_entering.FoundNames.{confusions, found_in, numbers_of}
use Rattle.drafts.specs.declared.draft_entering.generated.Generated as code
use Rattle.drafts.proofs.draft_entering.FoundAmong.{found_append, found_cons}

pub none-cons : (name : List ℕ) (g : Generated) (all : List Generated) → bytes_eq (name_of g) name ≡ false → found_in name all ≡ None → found_in name (g ∷ all) ≡ None
none-cons name g all other rest = found_cons name g all ∙ by (is_generated g) (bytes_eq (name_of g) name) other
  where
    by : (b c : Bool) → c ≡ false → cond (b && c) (Some (numbers_of g)) (found_in name all) ≡ None
    by true c e = ap (λ c. cond c (Some (numbers_of g)) (found_in name all)) e ∙ rest
    by false c e = rest

none-append : (name : List ℕ) (xs ys : List Generated) → found_in name xs ≡ None → found_in name ys ≡ None → found_in name (xs ++ ys) ≡ None
none-append name xs ys first second = found_append name xs ys ∙ ap (λ o. option_or o (found_in name ys)) first ∙ second

none-flat : (name : List ℕ) (f : ℕ → List Generated) (ks : List ℕ) → ((k : ℕ) → found_in name (f k) ≡ None) → found_in name (flat_map f ks) ≡ None
none-flat name f [] h = refl
none-flat name f (k ∷ ks) h = none-append name (f k) (flat_map f ks) (h k) (none-flat name f ks h)

-- the names of a family's entries at a level, all of which have a point before the level
module _ (name : List ℕ) (n : ℕ) (f : Family) (m : ℕ) (other : (stem : List ℕ) → bytes_eq (generated_name f.name (stem ++ 46 ∷ []) m) name ≡ false) where
  confusion : (number : ℕ) → found_in name (confusions n f m number) ≡ None
  confusion number =
      none-cons name (ConfusionType n f number m) (NoConfusion n f number m ∷ []) (other (codes "!nct." ++ constructor_name f number))
      (none-cons name (NoConfusion n f number m) [] (other (codes "!noconf." ++ constructor_name f number)) refl)

  pub none-at-level : found_in name (at_level n f m) ≡ None
  none-at-level =
      let ends = flat_map (confusions n f m) (range_with_len 0 (length f.constructors)) in
      let of_all = All n f m ∷ ends in
      let of_rec = Rec n f m ∷ of_all in
      let of_aux = Aux n f m ∷ of_rec in
      none-cons name (Case n f m) (Below n f m ∷ of_aux) (other (codes "!case"))
      (none-cons name (Below n f m) of_aux (other (codes "!below"))
      (none-cons name (Aux n f m) of_rec (other (codes "!aux"))
      (none-cons name (Rec n f m) of_all (other (codes "!rec"))
      (none-cons name (All n f m) ends (other (codes "!all"))
      (none-flat name (confusions n f m) (range_with_len 0 (length f.constructors)) confusion)))))

module _ (name : List ℕ) (n : ℕ) (f : Family) (other : (rest : List ℕ) → bytes_eq (f.name ++ rest) name ≡ false) where
  marked : (m : ℕ) (stem : List ℕ) → bytes_eq (generated_name f.name (stem ++ 46 ∷ []) m) name ≡ false
  marked m stem = ap (λ t. bytes_eq t name) (append_assoc f.name (stem ++ 46 ∷ []) (level_text m)) ∙ other ((stem ++ 46 ∷ []) ++ level_text m)

  -- a name that does not begin with that of the family is no entry of it
  pub none-of-family : None ≡ found_in name (of_entry n (FamilyOf f))
  none-of-family =
      sym (none-cons name (Direct n f) (Acyclic n f ∷ flat_map (at_level n f) levels) (other (codes "!direct"))
      (none-cons name (Acyclic n f) (flat_map (at_level n f) levels) (other (codes "!acyclic"))
      (none-flat name (at_level n f) levels (λ m. none-at-level name n f m (marked m)))))
