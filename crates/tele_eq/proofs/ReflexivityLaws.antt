-- On reflexivities everything computes away: eliminations, transports, congruences.
use Rattle.std.proofs.Common.{◌≡◌, ℕ, zero, suc, ◌+◌, ◌<◌, List, [], ◌∷◌, length, map, refl, ap, sym, ◌∙◌, arith}
use Rattle.std.specs.List.{All}
use mathlib.Core.Path.{fun_ext}
use Rattle.theory.specs.Terms.{Term, lift}
use Rattle.theory.specs.Terms.Term.{Var, Sort}
use Rattle.theory.specs.Substitutions.{inst}
use Rattle.theory.specs.Signatures.{Signature, HasIdentity}
use Rattle.theory.specs.Conversion.{Converts}
use Rattle.theory.specs.Conversion.Contracts.{beta}
use Rattle.theory.specs.Conversion.Step.{here}
use Rattle.theory.specs.Conversion.Converts.{same, forwards}
use Rattle.theory.proofs.Commuting.{lift_by_none}
use Rattle.theory.proofs.Congruence.{converts-trans, converts-app}
use Rattle.theory.proofs.Instances.{ren-is_inst}
use Rattle.theory.proofs.Shifts.{weaken_by-is_lift}
use Rattle.tele_eq.specs.Items.{Item, level_at, term_at, each_position, positions_of, greatest_level}
use Rattle.tele_eq.specs.Dependences.{dependences}
use Rattle.tele_eq.specs.Environments.{Environment, outside, put}
use Rattle.tele_eq.specs.TelescopicEquality.{reflexive, reflexivities, left_sides, transport_type, identity, applied_goal}
use Rattle.tele_eq.specs.Congruences.{images, congruence_below, common_level}
use Rattle.tele_eq.specs.ReflexivityLaws.{HasIdentities, EachConverts, EliminationOfReflexivities, TransportOfReflexivities, CongruencesOfReflexivities}
use Rattle.tele_eq.proofs.Carrying.{Carries, IsCarried, inst-none, carried-outside, carried-reflexive}
use Rattle.tele_eq.proofs.CarriedTerms.{carried-left, carried-transport_type, carried-identity, below-every}
use Rattle.tele_eq.proofs.CarriedGoals.{carried-applied_goal, carried-lifted, carried-image_equation, images-carried}
use Rattle.tele_eq.proofs.DependenceOrder.{dependences-from, dependences-below}
use Rattle.tele_eq.proofs.Positions.{positions-from, positions-below, below-more, each_position-at}
use Rattle.tele_eq.proofs.OnReflexivities.{converts-base, converts-same}

-- ---- a lift is carried from the context itself

abbrev shift : ℕ → Carries
shift d = record { old = 0; new = d; terms = λ n. Var (n + d); each = λ n. ap Var (omega arith) }

shift-lifts : (d : ℕ) (t : Term) → lift t d 0 ≡ inst (λ n. Var (n + d)) t
shift-lifts d t = sym (weaken_by-is_lift d t) ∙ ren-is_inst (λ n. n + d) t

lifted : (d : ℕ) (z : Environment) (p : ℕ) → IsCarried (shift d) z → lift (z 0 p) d 0 ≡ z d p
lifted d z p carried =
    shift-lifts d (z 0 p) ∙ (sym (inst-none (λ n. Var (n + d)) (z 0 p))
    ∙ carried 0 p 0 d (record { old = omega arith; new = omega arith }))

-- ---- the reflexivities as terms of the context

reflexivities-are : (X : List Item) (terms : List Term) (d p : ℕ) → p < length X
    → outside (reflexivities X terms) d p ≡ reflexive X (outside terms) d p
reflexivities-are X terms d p lt =
    ap (λ t. lift t d 0)
    (each_position-at (reflexive X (outside terms) 0) 0 (length X) p (Sort 0) lt ∙ ap (reflexive X (outside terms) 0) (omega arith))
    ∙ lifted d (reflexive X (outside terms)) p (carried-reflexive (shift d) X (outside terms) (carried-outside (shift d) terms))

all-reflexive : (X : List Item) (terms : List Term) (d : ℕ) (positions : List ℕ) → All (λ p. p < length X) positions
    → All (λ p. outside (reflexivities X terms) d p ≡ reflexive X (outside terms) d p) positions
all-reflexive X terms d positions all = below-every (λ p. outside (reflexivities X terms) d p ≡ reflexive X (outside terms) d p) (length X) (reflexivities-are X terms d) positions all

-- ---- eliminations

pub elimination_of_reflexivities : EliminationOfReflexivities
elimination_of_reflexivities S X m head base terms has =
    converts-trans
    (converts-base S X (outside terms) (left_sides X (outside terms)) m (applied_goal head (length X)) (λ depth. lift base depth 0)
    (record {
      terms = λ c. carried-outside c terms;
      lefts = λ c. carried-left c (length X) X (outside terms) (carried-outside c terms);
      into = λ c. carried-applied_goal c head (length X);
      begins = λ c. carried-lifted c base;
    })
    (positions_of X) 0 (positions-from X) (below-every (λ p. HasIdentity S (level_at X p)) (length X) has (positions_of X) (positions-below X))
    (outside (reflexivities X terms)) 0 (all-reflexive X terms 0 (positions_of X) (positions-below X)))
    (converts-same (lift_by_none base 0))

-- ---- transports

pub transport_of_reflexivities : TransportOfReflexivities
transport_of_reflexivities S X j terms has lt =
    converts-trans
    (converts-app
    (converts-base S X u (left_sides X u) (greatest_level X (level_at X j) (dependences X j)) (transport_type X u j) (identity X u j)
    (record {
      terms = λ c. carried-outside c terms;
      lefts = λ c. carried-left c (length X) X (outside terms) (carried-outside c terms);
      into = λ c. carried-transport_type c X (outside terms) (carried-outside c terms) j;
      begins = λ c. carried-identity c X (outside terms) (carried-outside c terms) j;
    })
    (dependences X j) 0 (dependences-from X j) (below-every (λ p. HasIdentity S (level_at X p)) (length X) has (dependences X j) low)
    (outside (reflexivities X terms)) 0 (all-reflexive X terms 0 (dependences X j) low)) same)
    (converts-trans (forwards (here beta) same) (converts-same (lift_by_none (term_at terms j) 0)))
  where
    u : Environment
    u = outside terms

    low : All (λ p. p < length X) (dependences X j)
    low = below-more j (length X) (omega arith) (dependences X j) (dependences-below X j)

-- ---- congruences

congruence-converts : (S : Signature) (n : ℕ) (X Y : List Item) (f terms : List Term) → HasIdentities S X → (j : ℕ)
    → Converts S (congruence_below n X Y f (outside terms) (outside terms) (outside (reflexivities X terms)) 0 j)
    (reflexive Y (images X f (outside terms)) 0 j)
congruence-converts S zero X Y f terms has j = same
congruence-converts S (suc n) X Y f terms has j =
    converts-base S X (outside terms) (left_sides X (outside terms)) (common_level X Y) _ _
    (record {
      terms = λ c. carried-outside c terms;
      lefts = λ c. carried-left c (length X) X (outside terms) (carried-outside c terms);
      into = λ c. carried-image_equation c n X Y f (outside terms) (carried-outside c terms) j;
      begins = λ c k d d' at. carried-reflexive c Y (images X f (outside terms)) (images-carried c X f (outside terms) (carried-outside c terms)) k j d d' at;
    })
    (positions_of X) 0 (positions-from X) (below-every (λ p. HasIdentity S (level_at X p)) (length X) has (positions_of X) (positions-below X))
    (outside (reflexivities X terms)) 0 (all-reflexive X terms 0 (positions_of X) (positions-below X))

image-term : (X : List Item) (f : List Term) (u : Environment) (j : ℕ)
    → put u (length X) 0 (term_at f j) ≡ term_at (map (put u (length X) 0) f) j
image-term X [] u j = refl
image-term X (t ∷ f) u zero = refl
image-term X (t ∷ f) u (suc j) = image-term X f u j

images-are : (X : List Item) (f terms : List Term) (d j : ℕ)
    → images X f (outside terms) d j ≡ outside (map (put (outside terms) (length X) 0) f) d j
images-are X f terms d j =
    sym (lifted d (images X f (outside terms)) j (images-carried (shift d) X f (outside terms) (carried-outside (shift d) terms)))
    ∙ ap (λ t. lift t d 0) (image-term X f (outside terms) j)

each-converts : (S : Signature) (g h : ℕ → Term) → ((j : ℕ) → Converts S (g j) (h j)) → (j count : ℕ)
    → EachConverts S (each_position g j count) (each_position h j count)
each-converts S g h all j zero = tt
each-converts S g h all j (suc count) = (all j, each-converts S g h all (j + 1) count)

pub congruences_of_reflexivities : CongruencesOfReflexivities
congruences_of_reflexivities S X Y f terms has =
    each-converts S _ _
    (λ j. converts-trans (congruence-converts S (length Y) X Y f terms has j)
    (converts-same (ap (λ z. reflexive Y z 0 j) (fun_ext (λ d. fun_ext (images-are X f terms d))))))
    0 (length Y)
