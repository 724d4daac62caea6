-- Equations and reflexivities as the code makes them: Deep where there are more than 1,000, or where something in them is higher than
-- 2,000.
use Rattle.std.specs.Prelude.{nat_le, Bool, ◌&&◌, cond, List, length, Result, Ok, Err}
use Rattle.theory.specs.Terms.{Term}
use Rattle.core_terms.specs.Answers.{are_low}
use Rattle.core_terms.specs.declared.stop.Stop.{Stop}
use Rattle.core_terms.specs.declared.stop.Stop.TheVariants.{Deep}
use Rattle.tele_eq.specs.Items.{Item}
use Rattle.tele_eq.specs.Congruences.{congruences}
use Rattle.tele_eq.specs.TelescopicEquality.{equations, reflexivities}
use Rattle.unification.specs.Heights.{are_low_items}

abbrev pub equations_made : List Item → (us vs : List Term) → Result (List Term) Stop
equations_made X us vs =
    cond (nat_le (length X) 1000 && (are_low_items X && (are_low us && are_low vs))) (Ok (equations X us vs)) (Err Deep)

abbrev pub reflexivities_made : List Item → (us : List Term) → Result (List Term) Stop
reflexivities_made X us = cond (nat_le (length X) 1000 && (are_low_items X && are_low us)) (Ok (reflexivities X us)) (Err Deep)

-- two telescopes and terms over the first one, for congruences
abbrev pub is_low_map : (X Y : List Item) (terms : List Term) → Bool
is_low_map X Y terms =
    nat_le (length X) 1000 && (nat_le (length Y) 1000 && (are_low_items X && (are_low_items Y && are_low terms)))

abbrev pub are_low_sides : (us vs es : List Term) → Bool
are_low_sides us vs es = are_low us && (are_low vs && are_low es)

abbrev pub congruences_made : (X Y : List Item) (terms us vs es : List Term) → Result (List Term) Stop
congruences_made X Y terms us vs es =
    cond (is_low_map X Y terms) (cond (are_low_sides us vs es) (Ok (congruences X Y terms us vs es)) (Err Deep)) (Err Deep)
