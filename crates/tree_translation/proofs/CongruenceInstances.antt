-- Congruences with terms put for the variables of their context.
use Rattle.std.proofs.Common.{◌≡◌, ℕ, zero, suc, ◌+◌, List, ◌∷◌, length, map, refl, sym, ap, ap₂, ◌∙◌, arith}
use Rattle.theory.specs.Terms.{Term}
use Rattle.theory.specs.Substitutions.{inst}
use Rattle.tele_eq.specs.Items.{Item, each_position, positions_of, term_at, greatest_level}
use Rattle.tele_eq.specs.Environments.{Environment, outside, put}
use Rattle.tele_eq.specs.TelescopicEquality.{left_sides, left_below, reflexive, telescopic_j}
use Rattle.tele_eq.specs.Congruences.{images, image_equation, congruence_below, common_level, congruences}
use Rattle.tele_eq.proofs.Carrying.{ups_by, inst-none}
use Rattle.tele_eq.proofs.CarriedTerms.{every}
use Rattle.tele_eq.proofs.Positions.{positions-from}
use Rattle.tree_translation.proofs.ContextInstances.{Agrees, AgreesFrom, AreMoved, moved-put, moved-outside}
use Rattle.tree_translation.proofs.TelescopeInstances.{IsInstance, moved-reflexive, greatest-same}
use Rattle.tree_translation.proofs.EquationInstances.{IsGoalMoved, IsSetting, moved-equation, moved-left, moved-telescopic_j}

-- two telescopes and terms over the first one, with their instances
pub record AreInstances (s : ℕ → Term) (X X' Y Y' : List Item) (f f' : List Term) : Type 0 where
  pub first : IsInstance s X X'
  pub second : IsInstance s Y Y'
  pub terms : (p : ℕ) → inst (ups_by (length X) s) (term_at f p) ≡ term_at f' p

moved-images : (s : ℕ → Term) (X X' Y Y' : List Item) (f f' : List Term) → AreInstances s X X' Y Y' f f' → (z z' : Environment) (k : ℕ)
    → ((p : ℕ) → AgreesFrom s z z' k p) → (p : ℕ) → AgreesFrom s (images X f z) (images X' f' z') k p
moved-images s X X' Y Y' f f' are z z' k az p k' le =
    moved-put s z z' (length X) k' (λ q lt k'' le'. az q k'' (omega arith)) (term_at f p)
    ∙ ap₂ (λ size t. put z' size k' t) (sym are.first.count) (are.terms p)

images-moved : (s : ℕ → Term) (X X' Y Y' : List Item) (f f' : List Term) → AreInstances s X X' Y Y' f f' → (u u' : Environment)
    → AreMoved s u u' → AreMoved s (images X f u) (images X' f' u')
images-moved s X X' Y Y' f f' are u u' terms k p =
    moved-images s X X' Y Y' f f' are u u' k (λ q k' le. terms k' q) p k (omega arith)

lefts-moved : (s : ℕ → Term) (X X' : List Item) → IsInstance s X X' → (u u' : Environment) → AreMoved s u u'
    → IsSetting s X X' u u' (left_sides X u) (left_sides X' u')
lefts-moved s X X' is u u' terms = record {
  is = is;
  terms = terms;
  lefts = λ z z' e e' k j az ae.
      moved-left s (length X) X X' is u u' terms z z' e e' k j az ae ∙ ap (λ n. left_below n X' u' z' e' k j) (sym is.count);
}

common-same : (s : ℕ → Term) (X X' Y Y' : List Item) → IsInstance s X X' → IsInstance s Y Y' → common_level X' Y' ≡ common_level X Y
common-same s X X' Y Y' first second =
    ap₂ (λ count more. greatest_level Y' (greatest_level X' 0 (each_position (λ j. j) 0 count)) (each_position (λ j. j) 0 more)) first.count second.count
    ∙ (ap (λ level. greatest_level Y' level (positions_of Y)) (greatest-same s X X' first 0 (positions_of X))
    ∙ greatest-same s Y Y' second (greatest_level X 0 (positions_of X)) (positions_of Y))

-- the goal of a congruence, where the congruences before it are instantiated
goal-after : (s : ℕ → Term) (n : ℕ) (X X' Y Y' : List Item) (f f' : List Term) → AreInstances s X X' Y Y' f f' → (u u' : Environment) → AreMoved s u u'
    → ((z z' e e' : Environment) (k : ℕ) → ((p : ℕ) → AgreesFrom s z z' k p) → ((p : ℕ) → Agrees s e e' k p)
    → (p : ℕ) → Agrees s (congruence_below n X Y f u z e) (congruence_below n X' Y' f' u' z' e') k p)
    → (j : ℕ) → IsGoalMoved s (λ z e depth. image_equation X Y f u z (congruence_below n X Y f u z e) depth j)
    (λ z e depth. image_equation X' Y' f' u' z (congruence_below n X' Y' f' u' z e) depth j)
goal-after s n X X' Y Y' f f' are u u' terms earlier j z z' e e' k az ae =
    moved-equation s Y Y' are.second (left_sides Y (images X f u)) (left_sides Y' (images X' f' u'))
    (lefts-moved s Y Y' are.second (images X f u) (images X' f' u') (images-moved s X X' Y Y' f f' are u u' terms)).lefts
    (images X f z) (images X' f' z') (congruence_below n X Y f u z e) (congruence_below n X' Y' f' u' z' e') k j
    (λ q lt. moved-images s X X' Y Y' f f' are z z' k az q) (λ q lt. earlier z z' e e' k az ae q)
    (moved-images s X X' Y Y' f f' are z z' k az j k (omega arith))

moved-congruence : (s : ℕ → Term) (n : ℕ) (X X' Y Y' : List Item) (f f' : List Term) → AreInstances s X X' Y Y' f f' → (u u' : Environment)
    → AreMoved s u u' → (z z' e e' : Environment) (k : ℕ) → ((p : ℕ) → AgreesFrom s z z' k p) → ((p : ℕ) → Agrees s e e' k p)
    → (p : ℕ) → Agrees s (congruence_below n X Y f u z e) (congruence_below n X' Y' f' u' z' e') k p
moved-congruence s zero X X' Y Y' f f' are u u' terms z z' e e' k az ae p =
    moved-reflexive s Y Y' are.second (images X f u) (images X' f' u') (images-moved s X X' Y Y' f f' are u u' terms) k p
moved-congruence s (suc n) X X' Y Y' f f' are u u' terms z z' e e' k az ae p =
    moved-telescopic_j s X X' u u' (left_sides X u) (left_sides X' u') (lefts-moved s X X' are.first u u' terms) (common_level X Y)
    (λ z e depth. image_equation X Y f u z (congruence_below n X Y f u z e) depth p)
    (λ z e depth. image_equation X' Y' f' u' z (congruence_below n X' Y' f' u' z e) depth p)
    (goal-after s n X X' Y Y' f f' are u u' terms (moved-congruence s n X X' Y Y' f f' are u u' terms) p)
    (λ depth. reflexive Y (images X f u) depth p) (λ depth. reflexive Y' (images X' f' u') depth p)
    (λ k'. moved-reflexive s Y Y' are.second (images X f u) (images X' f' u') (images-moved s X X' Y Y' f f' are u u' terms) k' p)
    (positions_of X) 0 (positions-from X) z z' e e' k
    (every (Agrees s z z' k) (λ q. az q k (omega arith)) (positions_of X)) (every (Agrees s e e' k) ae (positions_of X))
    ∙ ap₂ (λ m count. telescopic_j X' u' (left_sides X' u') m
    (λ z e depth. image_equation X' Y' f' u' z (congruence_below n X' Y' f' u' z e) depth p)
    (λ depth. reflexive Y' (images X' f' u') depth p) (each_position (λ j. j) 0 count) z' e' k)
    (sym (common-same s X X' Y Y' are.first are.second)) (sym are.first.count)

map-each : (s : ℕ → Term) (f g : ℕ → Term) → ((p : ℕ) → inst s (f p) ≡ g p) → (j count : ℕ) → map (inst s) (each_position f j count) ≡ each_position g j count
map-each s f g h j zero = refl
map-each s f g h j (suc count) = ap₂ ◌∷◌ (h j) (map-each s f g h (j + 1) count)

-- all congruences
pub moved-congruences : (s : ℕ → Term) (X X' Y Y' : List Item) (f f' : List Term) → AreInstances s X X' Y Y' f f' → (us vs es : List Term)
    → map (inst s) (congruences X Y f us vs es) ≡ congruences X' Y' f' (map (inst s) us) (map (inst s) vs) (map (inst s) es)
moved-congruences s X X' Y Y' f f' are us vs es =
    map-each s (congruence_below (length Y) X Y f (outside us) (outside vs) (outside es) 0)
    (congruence_below (length Y) X' Y' f' (outside (map (inst s) us)) (outside (map (inst s) vs)) (outside (map (inst s) es)) 0) one 0 (length Y)
    ∙ ap (λ count. each_position (congruence_below count X' Y' f' (outside (map (inst s) us)) (outside (map (inst s) vs)) (outside (map (inst s) es)) 0) 0 count)
    (sym are.second.count)
  where
    one : (p : ℕ) → inst s (congruence_below (length Y) X Y f (outside us) (outside vs) (outside es) 0 p)
        ≡ congruence_below (length Y) X' Y' f' (outside (map (inst s) us)) (outside (map (inst s) vs)) (outside (map (inst s) es)) 0 p
    one p =
        sym (inst-none s _)
        ∙ moved-congruence s (length Y) X X' Y Y' f f' are (outside us) (outside (map (inst s) us)) (moved-outside s us)
        (outside vs) (outside (map (inst s) vs)) (outside es) (outside (map (inst s) es)) 0
        (λ q k le. moved-outside s vs k q) (λ q. moved-outside s es 0 q) p
