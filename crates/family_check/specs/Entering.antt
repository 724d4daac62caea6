-- How entries enter a signature: a family as declared, an instance of an eliminator or of axiom K, a definition.
use Rattle.std.specs.Prelude.{ℕ, Bool, true, false, ◌&&◌, ◌||◌, not, nat_lt, Option, Some, None, Ok, Err, List, [], ◌∷◌, length, position, bytes_eq}
use Rattle.std.specs.List.{list_any}
use Rattle.std.specs.Option.{is_some}
use Rattle.theory.specs.Terms.{Term, top}
use Rattle.theory.specs.Families.{Family}
use Rattle.theory.specs.Eliminators.{eliminator_type}
use Rattle.theory.specs.Signatures.{Entry, FamilyOf, EliminatorAt, AxiomKAt, Definition, Signature, axiom_k_type}
use Rattle.theory.specs.WellFormed.{pushed}
use Rattle.core_terms.specs.Verdicts.{LevelTooHigh}
use Rattle.core_sig.specs.Names.{find}
use Rattle.core_sig.specs.Raw.{RawFamily, raw_names}
use Rattle.core_sig.specs.Instances.{is_eliminator, is_axiom_k}
use Rattle.core_terms.specs.Answers.{and_next}
use Rattle.family_check.specs.Outcomes.{OfType, OfBody, Denied, Duplicate, Outcome, ended}
use Rattle.family_check.specs.Asking.{sort_in, type_in}
use Rattle.family_check.specs.Families.{declare_family}

-- the number of an entry, and the signature that has it
pub record Entered : Type 0 where
  pub number : ℕ
  pub signature : Signature

-- an entry of the signature
abbrev pub entered_at : Signature → ℕ → Entered
entered_at S n = record { number = n; signature = S }

-- the entry goes to the end of the signature
abbrev pub entered : Signature → Entry → Entered
entered S e = entered_at (pushed S e) (length S.entries)

-- a name occurs twice in the list
abbrev pub has_repeat : List (List ℕ) → Bool
has_repeat [] = false
has_repeat (name ∷ names) = list_any (bytes_eq name) names || has_repeat names

-- the signature knows none of the names, and none of them occurs twice
abbrev pub are_new : Signature → List (List ℕ) → Bool
are_new S names = not (list_any (λ name. is_some (find S name)) names || has_repeat names)

-- the signature knows the name, or the name is among those before it
abbrev pub is_taken : Signature → List (List ℕ) → List ℕ → Bool
is_taken S before name = is_some (find S name) || list_any (bytes_eq name) before

-- `next` goes on where names are new
abbrev pub if_new : {A : Type 0} → Bool → (ℕ → Outcome A) → ℕ → Outcome A
if_new true next left = next left
if_new false next left = ended (Err Duplicate) left

-- a family as declared
abbrev pub declare_of : Signature → RawFamily → ℕ → Outcome Entered
declare_of S raw left =
    if_new (are_new S (raw_names raw))
    (λ all. and_next (declare_family S raw all) (λ f end. ended (Ok (entered S (FamilyOf f))) end))
    left

-- an instance with the given type, where its levels fit
abbrev pub enter_instance : Signature → Entry → Bool → Term → ℕ → Outcome Entered
enter_instance S e true type left =
    and_next (sort_in S OfType [] type left) (λ sort end. ended (Ok (entered S e)) end)
enter_instance S e false type left =
    ended (Err (Denied OfType (record { place = []; ctx = []; reason = LevelTooHigh }))) left

-- an instance that is there already gives its number
abbrev pub unless_there : Signature → Option ℕ → (ℕ → Outcome Entered) → ℕ → Outcome Entered
unless_there S (Some n) enter left = ended (Ok (entered_at S n)) left
unless_there S None enter left = enter left

-- the eliminator of family n, which has the record f, into Type m
abbrev pub instance_of : Signature → ℕ → Family → ℕ → ℕ → Outcome Entered
instance_of S n f m left =
    unless_there S (position (is_eliminator n m) S.entries)
    (enter_instance S (EliminatorAt n m) (nat_lt m top) (eliminator_type n f m))
    left

-- the axiom K of Eq.i into Type m, where K is on
abbrev pub axiom_k_of : Signature → ℕ → ℕ → ℕ → Outcome Entered
axiom_k_of S i m left =
    unless_there S (position (is_axiom_k i m) S.entries)
    (enter_instance S (AxiomKAt i m) (nat_lt i top && nat_lt m top) (axiom_k_type i m))
    left

-- a definition: its type, and then its body against the type
abbrev pub check_definition : Signature → List ℕ → Term → Term → ℕ → Outcome Entered
check_definition S name type body left =
    and_next (sort_in S OfType [] type left) (λ sort rest.
    and_next (type_in S OfBody [] body type rest) (λ found end.
    ended (Ok (entered S (Definition name type body))) end))

abbrev pub define_of : Signature → List ℕ → Term → Term → ℕ → Outcome Entered
define_of S name type body left = if_new (are_new S (name ∷ [])) (check_definition S name type body) left
