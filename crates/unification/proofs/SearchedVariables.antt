-- Searches below constructors: a variable that is found is there, in a term that the searched one converts to.
use Rattle.std.proofs.Common.{◌≡◌, ℕ, zero, suc, ◌≤◌, ◌⊎◌, inl, inr, nat_lt, ◌==◌, true, IsTrue, Option, Some, None, IfSome, option_map, Ok, Err, List, [], ◌∷◌, ◌++◌, slice_get, refl, ap, sym, subst as transport, ◌∙◌, arith}
use Rattle.std.proofs.lemmas.Bool.{eqb-true}
use Rattle.std.proofs.lemmas.List.Elements.{All-cons, All-head, All-tail}
use Rattle.std.specs.List.{All}
use Rattle.theory.specs.Terms.{Term, height}
use Rattle.theory.specs.Terms.Term.{Var, Con}
use Rattle.theory.specs.Families.{Argument, Family}
use Rattle.theory.specs.Signatures.{Signature, FamilyOf, IsEntryAt}
use Rattle.theory.specs.Conversion.{Converts}
use Rattle.theory.specs.Conversion.Converts.{same}
use Rattle.theory.specs.SignatureScopes.{IsScoped, IsScopedSignature}
use Rattle.theory.proofs.Congruence.{converts-trans}
use Rattle.core_terms.specs.declared.stop.Stop.TheVariants.{Deep}
use Rattle.tele_eq.specs.ReflexivityLaws.{EachConverts}
use Rattle.unification.specs.Built.{Built, built_of, is_direct, greatest_level}
use Rattle.unification.specs.Cycles.{Search, not_found, found_as, here_or, Below, among_arguments, with_arguments, is_variable, below_constructor, in_form, by_less, no_argument, by_room, by_units, search_in}
use Rattle.unification.specs.Paths.{IsArgument, HasBelow}
use Rattle.unification.specs.Paths.HasBelow.{there, further}
use Rattle.unification.specs.Solutions.{variable_in}
use Rattle.unification.proofs.UnderInstances.{each-append, each-applied, each-same, each-length}
use Rattle.unification.proofs.BuiltScopes.{built-scoped, with_arguments-scoped}
use Rattle.unification.proofs.Constructors.{IsBuiltTerm, built-is, one-family}
use Rattle.unification.proofs.Variables.{variable-is}
use Rattle.unification.proofs.Reducts.{IsReduct, reduced-within}
use Rattle.unification.proofs.SpentUnits.{Within, answered-within, and_next-within, cond-within, cond-within_at}

-- ---- found terms

-- family n has no indices, and a level that acyclicity has
pub record IsAcyclicFamily (S : Signature) (n : ℕ) (f : Family) : Type 0 where
  pub family : IsEntryAt S n (FamilyOf f)
  pub indices : f.indices ≡ []
  pub level : f.level ≤ greatest_level

-- t converts to w, which is the variable x as t is, or has it below constructors of family n, if the family is acyclic
pub record IsFoundTerm (S : Signature) (n x : ℕ) (t w : Term) : Type 0 where
  pub reduct : IsReduct S t w
  pub place : (f : Family) → IsAcyclicFamily S n f → ((t ≡ Var x) × (w ≡ Var x)) ⊎ HasBelow S n x w

-- a search gives no units back, and finds a term with P
abbrev Finding : {A : Type 0} → (A → Type 0) → Search A → (left : ℕ) → Type 0
Finding P search left = Within left (λ found rest. IfSome found P) (search left)

-- a search in terms finds only such terms
abbrev pub Finds : Signature → (n x : ℕ) → (Term → Search Term) → Type 0
Finds S n x search = (t : Term) (left : ℕ) → Finding (IsFoundTerm S n x t) (search t) left

abbrev pub FindsBelow : Signature → (n x : ℕ) → Below → Type 0
FindsBelow S n x below = (before : ℕ) → Finds S n x (below before)

none-found : {A : Type 0} (P : A → Type 0) (left : ℕ) → Finding P not_found left
none-found P left = answered-within (λ found rest. IfSome found P) (Ok None) left tt

found_as-finding : {A B : Type 0} (P : A → Type 0) (Q : B → Type 0) (f : A → B) (search : Search A) → ((a : A) → P a → Q (f a))
    → (left : ℕ) → Finding P search left → Finding Q (found_as f search) left
found_as-finding {A} P Q f search h left k =
    and_next-within (λ found rest. IfSome found P) (λ found rest. IfSome found Q) (search left) _ left k (λ found rest le is.
    answered-within (λ found rest. IfSome found Q) (Ok (option_map f found)) rest (mapped found is))
  where
    mapped : (found : Option A) → IfSome found P → IfSome (option_map f found) Q
    mapped (Some a) p = h a p
    mapped None p = tt

-- ---- arguments

-- the arguments us are ws, one of which, a direct one, is the found term
record IsAmong (S : Signature) (n x : ℕ) (arguments : List Argument) (us ws : List Term) : Type 0 where
  pub at : ℕ
  pub argument : Argument
  pub argument_there : slice_get arguments at ≡ Some argument
  pub direct : IsTrue (is_direct argument)
  pub term : Term
  pub term_there : slice_get ws at ≡ Some term
  pub place : (f : Family) → IsAcyclicFamily S n f → (term ≡ Var x) ⊎ HasBelow S n x term
  pub each : EachConverts S us ws
  pub scoped : (m : ℕ) → IsScopedSignature S → All (IsScoped S m) us → All (IsScoped S m) ws

among-later : (S : Signature) (n x : ℕ) (a : Argument) (arguments : List Argument) (u : Term) (us ws : List Term)
    → IsAmong S n x arguments us ws → IsAmong S n x (a ∷ arguments) (u ∷ us) (u ∷ ws)
among-later S n x a arguments u us ws h = record {
  at = suc h.at;
  argument = h.argument;
  argument_there = h.argument_there;
  direct = h.direct;
  term = h.term;
  term_there = h.term_there;
  place = h.place;
  each = (same, h.each);
  scoped = λ m closed all. All-cons (IsScoped S m) u ws (All-head (IsScoped S m) u us all) (h.scoped m closed (All-tail (IsScoped S m) u us all));
}

among-here : (S : Signature) (n x : ℕ) (a : Argument) (arguments : List Argument) (u v w : Term) (us : List Term) → is_direct a ≡ true
    → IsReduct S u v → IsFoundTerm S n x v w → IsAmong S n x (a ∷ arguments) (u ∷ us) (w ∷ us)
among-here S n x a arguments u v w us direct hv h = record {
  at = 0;
  argument = a;
  argument_there = refl;
  direct = direct;
  term = w;
  term_there = refl;
  place = λ f family. elim (h.place f family) [
    | inl e ↦ inl e.1
    | inr below ↦ inr below
  ];
  each = (converts-trans hv.converts h.reduct.converts, each-same S us);
  scoped = λ m closed all.
      All-cons (IsScoped S m) w us (h.reduct.scoped m closed (hv.scoped m closed (All-head (IsScoped S m) u us all)))
      (All-tail (IsScoped S m) u us all);
}

-- a search among arguments finds the variable in one of them
among-finding : (S : Signature) (n x : ℕ) (below : Below) → FindsBelow S n x below → (arguments : List Argument) (us : List Term) (left : ℕ)
    → Finding (IsAmong S n x arguments us) (among_arguments S below arguments us) left
among-finding S n x below finds [] us left = none-found (IsAmong S n x [] us) left
among-finding S n x below finds (a ∷ arguments) [] left = none-found (IsAmong S n x (a ∷ arguments) []) left
among-finding S n x below finds (a ∷ arguments) (u ∷ us) left =
    cond-within Q (is_direct a) _ _ left
    (λ direct. reduced-within Q S true u left _ (λ v rest le hv.
    and_next-within (λ found end. IfSome found (IsFoundTerm S n x v)) Q (below left v rest) _ rest (finds left v rest) (λ found end le' h.
    here v direct hv.reduct found end h (among-finding S n x below finds arguments us end))))
    (λ other. behind left (among-finding S n x below finds arguments us left))
  where
    Q : Option (List Term) → ℕ → Type 0
    Q found rest = IfSome found (IsAmong S n x (a ∷ arguments) (u ∷ us))

    behind : (left : ℕ) → Finding (IsAmong S n x arguments us) (among_arguments S below arguments us) left
        → Within left Q (found_as (λ ws. u ∷ ws) (among_arguments S below arguments us) left)
    behind left others =
        found_as-finding (IsAmong S n x arguments us) (IsAmong S n x (a ∷ arguments) (u ∷ us)) (λ ws. u ∷ ws)
        (among_arguments S below arguments us) (λ ws h. among-later S n x a arguments u us ws h) left others

    here : (v : Term) → is_direct a ≡ true → IsReduct S u v → (found : Option Term) (end : ℕ) → IfSome found (IsFoundTerm S n x v)
        → Finding (IsAmong S n x arguments us) (among_arguments S below arguments us) end
        → Within end Q (here_or (option_map (λ w. w ∷ us) found) (found_as (λ ws. u ∷ ws) (among_arguments S below arguments us)) end)
    here v direct hv (Some w) end h others = answered-within Q (Ok (Some (w ∷ us))) end (among-here S n x a arguments u v w us direct hv h)
    here v direct hv None end h others = behind end others

-- ---- searches

-- a constructor with an argument in which the variable was found
with_arguments-found : (S : Signature) (n x : ℕ) (t : Term) (b : Built) → built_of S t ≡ Some b → b.n ≡ n
    → (ws : List Term) → IsAmong S n x b.constructor.arguments b.arguments ws → IsFoundTerm S n x t (with_arguments b ws)
with_arguments-found S n x t b e number ws h = record {
  reduct = record {
    converts =
        transport (λ a. Converts S a (with_arguments b ws)) (sym hb.term)
        (each-applied S (Con b.n b.number) (Con b.n b.number) (b.parameters ++ b.arguments) (b.parameters ++ ws) same
        (each-append S b.parameters b.parameters b.arguments ws (each-same S b.parameters) h.each));
    scoped = λ m closed ht. (let is = built-scoped S m t b e ht in with_arguments-scoped S m b ws is (h.scoped m closed is.arguments));
  };
  place = λ f family. inr (by f family (h.place f family));
}
  where
    hb : IsBuiltTerm S t b
    hb = built-is S t b e

    d : Built
    d = record {
      n = b.n;
      number = b.number;
      family = b.family;
      constructor = b.constructor;
      parameters = b.parameters;
      arguments = ws;
    }

    same-family : (f : Family) → IsAcyclicFamily S n f → b.family ≡ f
    same-family f family = one-family S b.n n b.family f hb.built.family family.family number

    argument : (f : Family) → IsAcyclicFamily S n f → IsArgument S n d h.term
    argument f family = record {
      built = record {
        family = hb.built.family;
        constructor = hb.built.constructor;
        parameters = hb.built.parameters;
        arguments = sym (each-length S b.arguments ws h.each) ∙ hb.built.arguments;
      };
      number = number;
      indices = ap (λ (g : Family). g.indices) (same-family f family) ∙ family.indices;
      level = transport (λ (g : Family). g.level ≤ greatest_level) (sym (same-family f family)) family.level;
      at = h.at;
      argument = h.argument;
      argument_there = h.argument_there;
      direct = h.direct;
      term_there = h.term_there;
    }

    by : (f : Family) → IsAcyclicFamily S n f → (h.term ≡ Var x) ⊎ HasBelow S n x h.term → HasBelow S n x (with_arguments b ws)
    by f family (inl e) = there (with_arguments b ws) h.term d same (argument f family) (transport (Converts S h.term) e same)
    by f family (inr below) = further (with_arguments b ws) h.term d same (argument f family) below

variable-found : (x : ℕ) (o : Option ℕ) → is_variable x o ≡ true → o ≡ Some x
variable-found x (Some y) e = ap Some (eqb-true y x e)
variable-found x None e = absurd (grind arith)

-- a search in a head form finds the variable in it
in_form-finds : (S : Signature) (n x : ℕ) (below : Below) → FindsBelow S n x below → Finds S n x (in_form S n x below)
in_form-finds S n x below finds t left =
    cond-within (λ found rest. IfSome found (IsFoundTerm S n x t)) (is_variable x (variable_in t)) _ _ left
    (λ e.
    let is : t ≡ Var x = variable-is t x (variable-found x (variable_in t) e) in
    answered-within (λ found rest. IfSome found (IsFoundTerm S n x t)) (Ok (Some t)) left
    (record { reduct = record { converts = same; scoped = λ m closed h. h }; place = λ f family. inl (is, is) }))
    (λ other. built (built_of S t) refl)
  where
    built : (o : Option Built) → o ≡ built_of S t → Finding (IsFoundTerm S n x t) (below_constructor S n below o) left
    built None e = none-found (IsFoundTerm S n x t) left
    built (Some b) e =
        cond-within_at (λ found rest. IfSome found (IsFoundTerm S n x t)) (b.n == n) _ _ left
        (λ at. found_as-finding (IsAmong S n x b.constructor.arguments b.arguments) (IsFoundTerm S n x t) (with_arguments b)
        (among_arguments S below b.constructor.arguments b.arguments) (λ ws h. with_arguments-found S n x t b (sym e) (eqb-true b.n n at) ws h) left
        (among-finding S n x below finds b.constructor.arguments b.arguments left))
        (λ other. none-found (IsFoundTerm S n x t) left)

pub by_less-finds : (S : Signature) (n x : ℕ) (units room : Term → Search Term) → Finds S n x units → Finds S n x room → FindsBelow S n x (by_less units room)
by_less-finds S n x units room hu hr before t left =
    cond-within (λ found rest. IfSome found (IsFoundTerm S n x t)) (nat_lt left before) _ _ left (λ fewer. hu t left) (λ as_many. hr t left)

pub no_argument-finds : (S : Signature) (n x : ℕ) → Finds S n x no_argument
no_argument-finds S n x t left = answered-within (λ found rest. IfSome found (IsFoundTerm S n x t)) (Err Deep) left tt

pub by_room-finds : (S : Signature) (n x : ℕ) (units : Term → Search Term) → Finds S n x units → (room : ℕ) → Finds S n x (by_room S n x units room)
by_room-finds S n x units h zero = no_argument-finds S n x
by_room-finds S n x units h (suc room) =
    in_form-finds S n x (by_less units (by_room S n x units room))
    (by_less-finds S n x units (by_room S n x units room) h (by_room-finds S n x units h room))

pub by_units-finds : (S : Signature) (n x units : ℕ) → Finds S n x (by_units S n x units)
by_units-finds S n x zero t left = by_room-finds S n x no_argument (no_argument-finds S n x) (height t) t left
by_units-finds S n x (suc units) t left = by_room-finds S n x (by_units S n x units) (by_units-finds S n x units) (height t) t left

-- a whole search finds the variable in the term
pub search-finds : (S : Signature) (n x : ℕ) → Finds S n x (search_in S n x)
search-finds S n x t left = by_units-finds S n x left t left
