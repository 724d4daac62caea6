-- How renaming and instantiation change the sorts in a term, and the sorts of a constructor's record.
use Rattle.std.proofs.Common.{ℕ, zero, suc, ◌<◌, List, [], ◌∷◌, map, All, subst as transport}
use Rattle.std.proofs.lemmas.List.Elements.{All-nil, All-cons, All-head, All-tail}
use Rattle.theory.specs.Terms.{Term, SortsBelow}
use Rattle.theory.specs.Terms.Term.{Var, Sort, Pi, Lam, App, Let}
use Rattle.theory.specs.Substitutions.{ren, up, weaken, inst, ups, extend, put}
use Rattle.theory.specs.Telescopes.{Telescope, products}
use Rattle.theory.specs.Families.{Argument, Plain, Recursive, Constructor, Family, argument_type, argument_types, recursive_type, constructor_type, family_head}
use Rattle.theory.specs.InstanceLaws.{SortsOfRen, SortsOfInst, SortsBeforeInst}
use Rattle.theory.proofs.Instances.{ren-is_inst}
use Rattle.theory.proofs.Bounds.{HasTerms, IsBound, applied-parts}

-- a renaming brings no sorts
pub sorts_into_ren : (r : ℕ → ℕ) (t : Term) (n : ℕ) → SortsBelow n t → SortsBelow n (ren r t)
sorts_into_ren r (Sort i) n h = h
sorts_into_ren r (Pi a b) n h = (sorts_into_ren r a n h.0, sorts_into_ren (up r) b n h.1)
sorts_into_ren r (Lam a b) n h = (sorts_into_ren r a n h.0, sorts_into_ren (up r) b n h.1)
sorts_into_ren r (App f a) n h = (sorts_into_ren r f n h.0, sorts_into_ren r a n h.1)
sorts_into_ren r (Let a t b) n h = (sorts_into_ren r a n h.0, sorts_into_ren r t n h.1, sorts_into_ren (up r) b n h.2)
sorts_into_ren r _ n h = tt

sorts_of_ups : (s : ℕ → Term) (n : ℕ) → ((i : ℕ) → SortsBelow n (s i)) → (i : ℕ) → SortsBelow n (ups s i)
sorts_of_ups s n each zero = tt
sorts_of_ups s n each (suc i) = sorts_into_ren suc (s i) n (each i)

-- an instantiation brings no sorts but those of its terms
pub sorts_of_inst : SortsOfInst
sorts_of_inst s (Var i) n h each = each i
sorts_of_inst s (Sort i) n h each = h
sorts_of_inst s (Pi a b) n h each =
    (sorts_of_inst s a n h.0 each, sorts_of_inst (ups s) b n h.1 (sorts_of_ups s n each))
sorts_of_inst s (Lam a b) n h each =
    (sorts_of_inst s a n h.0 each, sorts_of_inst (ups s) b n h.1 (sorts_of_ups s n each))
sorts_of_inst s (App f a) n h each = (sorts_of_inst s f n h.0 each, sorts_of_inst s a n h.1 each)
sorts_of_inst s (Let a t b) n h each =
    (sorts_of_inst s a n h.0 each, sorts_of_inst s t n h.1 each, sorts_of_inst (ups s) b n h.2 (sorts_of_ups s n each))
sorts_of_inst s _ n h each = tt

-- a term put for the nearest variable
pub sorts_of_put : (t u : Term) (n : ℕ) → SortsBelow n t → SortsBelow n u → SortsBelow n (put u t)
sorts_of_put t u n h k = sorts_of_inst (extend Var u) t n h each
  where
    each : (i : ℕ) → SortsBelow n (extend Var u i)
    each zero = k
    each (suc i) = tt

-- an instantiation drops no sorts
pub sorts_before_inst : SortsBeforeInst
sorts_before_inst s (Sort i) n h = h
sorts_before_inst s (Pi a b) n h = (sorts_before_inst s a n h.0, sorts_before_inst (ups s) b n h.1)
sorts_before_inst s (Lam a b) n h = (sorts_before_inst s a n h.0, sorts_before_inst (ups s) b n h.1)
sorts_before_inst s (App f a) n h = (sorts_before_inst s f n h.0, sorts_before_inst s a n h.1)
sorts_before_inst s (Let a t b) n h =
    (sorts_before_inst s a n h.0, sorts_before_inst s t n h.1, sorts_before_inst (ups s) b n h.2)
sorts_before_inst s _ n h = tt

-- a renaming brings no sorts and drops none
pub sorts_of_ren : SortsOfRen
sorts_of_ren r t n = (sorts_into_ren r t n, λ h. sorts_before_inst (λ i. Var (r i)) t n (transport (SortsBelow n) (ren-is_inst r t) h))

-- a bound on the sorts is one that formers keep
pub sorts_bound : (n : ℕ) → 0 < n → IsBound (SortsBelow n) (λ k. SortsBelow n)
sorts_bound n positive = record {
  dummy = λ k. positive;
  eliminator = λ k family level. tt;
  nearest = λ k. tt;
  function = λ k a b ha hb. (ha, hb);
  application = λ k f a hf ha. (hf, ha);
  parts = λ k f a h. h;
  weakened = λ k t h. sorts_into_ren suc t n h;
  instance = λ k s t h each. sorts_of_inst s t n h each;
}

-- products have the sorts of their telescope and of their end
pub sorts_before_products : (tele : Telescope) (body : Term) (n : ℕ) → SortsBelow n (products tele body)
    → All (SortsBelow n) tele × SortsBelow n body
sorts_before_products [] body n h = (All-nil (SortsBelow n), h)
sorts_before_products (a ∷ tele) body n h =
    let rest = sorts_before_products tele body n h.1 in
    (All-cons (SortsBelow n) a tele h.0 rest.0, rest.1)

sorts_before_map : (s : ℕ → Term) (ts : List Term) (n : ℕ) → All (SortsBelow n) (map (inst s) ts) → All (SortsBelow n) ts
sorts_before_map s [] n h = All-nil (SortsBelow n)
sorts_before_map s (t ∷ ts) n h =
    All-cons (SortsBelow n) t ts
    (sorts_before_inst s t n (All-head (SortsBelow n) (inst s t) (map (inst s) ts) h))
    (sorts_before_map s ts n (All-tail (SortsBelow n) (inst s t) (map (inst s) ts) h))

sorts_before_recursive : (s : ℕ → Term) (head : Term) (inner : Telescope) (targets : List Term) (n : ℕ)
    → SortsBelow n (recursive_type s head inner targets) → All (SortsBelow n) inner × All (SortsBelow n) targets
sorts_before_recursive s head [] targets n h = (
  All-nil (SortsBelow n),
  sorts_before_map s targets n (applied-parts (SortsBelow n) (λ f a two. two) head (map (inst s) targets) h).1,
)
sorts_before_recursive s head (a ∷ inner) targets n h =
    let rest = sorts_before_recursive (ups s) (weaken head) inner targets n h.1 in
    (All-cons (SortsBelow n) a inner (sorts_before_inst s a n h.0) rest.0, rest.1)

sorts_before_argument : (s : ℕ → Term) (head : Term) (a : Argument) (n : ℕ) → SortsBelow n (argument_type s head a)
    → HasTerms (SortsBelow n) a
sorts_before_argument s head (Plain type level) n h = tt
sorts_before_argument s head (Recursive inner targets level) n h = sorts_before_recursive s head inner targets n h

sorts_before_arguments : (s : ℕ → Term) (head : Term) (arguments : List Argument) (n : ℕ)
    → All (SortsBelow n) (argument_types s head arguments) → All (HasTerms (SortsBelow n)) arguments
sorts_before_arguments s head [] n h = All-nil (HasTerms (SortsBelow n))
sorts_before_arguments s head (a ∷ arguments) n h =
    let rest = argument_types (ups s) (weaken head) arguments in
    All-cons (HasTerms (SortsBelow n)) a arguments
    (sorts_before_argument s head a n (All-head (SortsBelow n) (argument_type s head a) rest h))
    (sorts_before_arguments (ups s) (weaken head) arguments n (All-tail (SortsBelow n) (argument_type s head a) rest h))

-- the type of a constructor has the sorts of its arguments
pub sorts_before_constructor : (number : ℕ) (f : Family) (c : Constructor) (n : ℕ)
    → SortsBelow n (constructor_type number f c) → All (HasTerms (SortsBelow n)) c.arguments
sorts_before_constructor number f c n h =
    let inside = (sorts_before_products f.parameters _ n h).1 in
    sorts_before_arguments Var (family_head number f) c.arguments n (sorts_before_products _ _ n inside).0
