-- The entries of a session keep a signature open.
use Rattle.std.proofs.Common.{◌≡◌, ℕ, false, List, ◌∷◌, map, Result, Ok, Err, IfOk, All, sym, subst as transport}
use Rattle.std.proofs.lemmas.List.Elements.{All-head, All-tail}
use Rattle.theory.specs.Families.{Family}
use Rattle.theory.specs.Signatures.{Signature, FamilyOf}
use Rattle.core_sig.specs.Raw.{RawFamily, raw_names}
use Rattle.core_sig.proofs.Lists.{all-unmapped}
use Rattle.family_check.specs.Entering.{Entered, declare_of, define_of, instance_of, axiom_k_of}
use Rattle.family_check.specs.Laws.{EntersAsDeclared}
use Rattle.family_check.specs.Scopes.{IsSettled}
use Rattle.family_check.proofs.AsDeclared.{declare-gives}
use Rattle.family_check.proofs.PreludeEntries.{equality-there}
use Rattle.family_check.proofs.ScopedEntering.{declare-settles, define-settles, instance-settles, axiom_k-settles}
use Rattle.drafts.specs.draft_entering.Conditions.{IsOpen}
use Rattle.drafts.specs.draft_entering.FreeNames.{is_marked, HasUnmarkedNames}
use Rattle.drafts.proofs.draft_entering.Longer.{open-longer}
use Rattle.drafts.proofs.draft_entering.Entered.{instance-extends, axiom_k-extends, ExtendsTo}
use Rattle.drafts.specs.entering_laws.Laws.{IsUnmarked, GoesOnOpen, DeclareKeepsOpen, DefineKeepsOpen, InstanceKeepsOpen, AxiomKKeepsOpen}
use Rattle.drafts.proofs.entering_laws.EnteredOpen.{define-extends}
use Rattle.drafts.proofs.entering_laws.OpenSignatures.{family-opens}

joined : {E : Type 0} (P Q R : Entered → Type 0) (r : Result Entered E) → ((e : Entered) → P e → Q e → R e) → IfOk r P → IfOk r Q → IfOk r R
joined P Q R (Ok e) go h k = go e h k
joined P Q R (Err stop) go h k = tt

abbrev StaysSettled : Entered → Type 0
StaysSettled e = IsSettled e.signature

abbrev IsFree : List ℕ → Type 0
IsFree name = is_marked name ≡ false

-- ---- families

names-free : (f : Family) (raw : RawFamily) → f.name ∷ map (λ c. c.name) f.constructors ≡ raw_names raw → All IsFree (raw_names raw) → HasUnmarkedNames (FamilyOf f)
names-free f raw is h = (
  All-head IsFree f.name (map (λ c. c.name) f.constructors) all,
  all-unmapped IsFree (λ c. c.name) f.constructors (All-tail IsFree f.name (map (λ c. c.name) f.constructors) all),
)
  where
    all : All IsFree (f.name ∷ map (λ c. c.name) f.constructors)
    all = transport (All IsFree) (sym is) h

declared : (S : Signature) (raw : RawFamily) → IsOpen S → IsUnmarked S → All IsFree (raw_names raw) → (e : Entered) → StaysSettled e → EntersAsDeclared S raw e
    → IsOpen e.signature × IsUnmarked e.signature
declared S raw is unmarked free e settled (f, entered, given) =
    transport (λ x. IsOpen x.signature × IsUnmarked x.signature) (sym entered)
    (family-opens S f is unmarked (names-free f raw given.names free) (transport StaysSettled entered settled))

pub declare-opens : DeclareKeepsOpen
declare-opens S raw left is unmarked scoped free =
    joined StaysSettled (EntersAsDeclared S raw) (λ e. IsOpen e.signature × IsUnmarked e.signature) (declare_of S raw left).0
    (declared S raw is unmarked free) (declare-settles S raw left is.settled scoped).0 (declare-gives S raw left)

-- ---- other entries

goes-on : (S : Signature) → IsOpen S → (e : Entered) → StaysSettled e → ExtendsTo S e → GoesOnOpen S e
goes-on S is e settled more = (open-longer S e.signature more settled is, more)

pub define-opens : DefineKeepsOpen
define-opens S name type body left is h k =
    joined StaysSettled (ExtendsTo S) (GoesOnOpen S) (define_of S name type body left).0 (goes-on S is)
    (define-settles S name type body left is.settled h k).0 (define-extends S name type body left)

pub instance-opens : InstanceKeepsOpen
instance-opens S n f m left is at =
    joined StaysSettled (ExtendsTo S) (GoesOnOpen S) (instance_of S n f m left).0 (goes-on S is)
    (instance-settles S n f m left is.settled at).0 (instance-extends S n f m left)

pub axiom_k-opens : AxiomKKeepsOpen
axiom_k-opens S i m left is =
    joined StaysSettled (ExtendsTo S) (GoesOnOpen S) (axiom_k_of S i m left).0 (goes-on S is)
    (axiom_k-settles S i m left is.settled (equality-there S i is.prelude)).0 (axiom_k-extends S i m left)
