-- Spines of trees, and the ids of their arguments.
use Rattle.std.proofs.Common.{◌≡◌, ◌≢◌, ℕ, zero, suc, ◌+◌, ◌-◌, ◌≤◌, IsTrue, List, [], ◌∷◌, ◌++◌, length, map, take, get_or, refl, sym, ap, ◌∙◌, subst as transport, inr, inl, arith}
use Rattle.std.proofs.lemmas.List.{length-append, length-map, map_push, take-append-le, get_or-map}
use Rattle.std.proofs.lemmas.List.Elements.{All-push}
use Rattle.std.proofs.Math.Seq.{take-length, take-suc}
use Rattle.theory.specs.Terms.{Term}
use Rattle.theory.specs.Terms.Term.{Var, App}
use Rattle.theory.specs.Spines.{head_of, spine_of}
use Rattle.theory.specs.Telescopes.{applied, variables}
use Rattle.theory.proofs.Spines.{applied-append, applied-spine}
use Rattle.term_pool.specs.Held.{Held, Extends, AddsParts}
use Rattle.term_pool.specs.Instantiation.{trees_of}
use Rattle.term_pool.specs.Nodes.{says}
use Rattle.term_pool.specs.Parts.{IsPart}
use Rattle.term_pool.specs.declared.node.Node.{Node}
use Rattle.term_pool.specs.declared.node.Node.TheVariants as variant
use Rattle.store_reduce.specs.Arguments.{AreLive}

module _ {I : Type 0} (held : Held I) where
  pub trees-none : trees_of held [] ≡ []
  unfolding trees_of
  trees-none = refl

  pub trees-push : (ids : List I) (id : I) → trees_of held (ids ++ id ∷ []) ≡ trees_of held ids ++ held.tree id ∷ []
  unfolding trees_of
  trees-push ids id = map_push held.tree ids id

  pub live-none : AreLive held []
  live-none = record { each = λ k d less. absurd (omega arith) }

  pub live-push : (ids : List I) (id : I) → AreLive held ids → IsTrue (held.live id) → AreLive held (ids ++ id ∷ [])
  live-push ids id live is = record { each = All-push (λ a. IsTrue (held.live a)) ids id live.each is }

  -- the terms of all ids of a list
  pub trees-whole : (ids : List I) → take (length ids) (trees_of held ids) ≡ trees_of held ids
  unfolding trees_of
  trees-whole ids = ap (λ n. take n (map held.tree ids)) (sym (length-map ids held.tree)) ∙ take-length (map held.tree ids)

  -- the last one of the first terms apart
  pub applied-last : (ids : List I) (count : ℕ) (id : I) (h : Term) → 1 ≤ count → count ≤ length ids → id ≡ get_or ids (count - 1) id
      → applied h (take count (trees_of held ids)) ≡ App (applied h (take (count - 1) (trees_of held ids))) (held.tree id)
  unfolding trees_of
  applied-last ids count id h some within is =
      let one : count ≡ suc (count - 1) = omega arith in
      ap (λ n. applied h (take n us)) one
      ∙ (ap (applied h) (take-suc us (count - 1) (held.tree id) (omega (arith, length-map ids held.tree)))
      ∙ (applied-append h (take (count - 1) us) (get_or us (count - 1) (held.tree id) ∷ [])
      ∙ ap (App (applied h (take (count - 1) us))) (get_or-map held.tree ids (count - 1) id (held.tree id) (omega arith) ∙ ap held.tree (sym is))))
    where
      us : List Term
      us = map held.tree ids

-- what is no application has no arguments
pub spine-none : {I : Type 0} (at : I → Term) (node : Node I) → ((f a : I) → node ≡ variant.App f a → ⊥) → spine_of (says at node) ≡ []
spine-none at (variant.App f a) other = absurd (other f a refl)
spine-none at (variant.Var n) other = refl
spine-none at _ other = refl

-- without a last argument it stays as it is
pub without-none : (t : Term) (count : ℕ) → count ≡ 0 → t ≡ applied (head_of t) (take (length (spine_of t) - count) (spine_of t))
without-none t count none =
    let all : length (spine_of t) - count ≡ length (spine_of t) = omega arith in
    sym (ap (λ n. applied (head_of t) (take n (spine_of t))) all ∙ (ap (applied (head_of t)) (take-length (spine_of t)) ∙ applied-spine t))

-- an application without its last arguments, by its function part
pub without-more : (t f a r : Term) (count : ℕ) → t ≡ App f a → count ≢ 0 → count ≤ length (spine_of t)
    → r ≡ applied (head_of f) (take (length (spine_of f) - (count - 1)) (spine_of f))
    → r ≡ applied (head_of t) (take (length (spine_of t) - count) (spine_of t))
without-more t f a r count is some within made =
    made
    ∙ (ap (applied (head_of f)) (sym (take-append-le k (spine_of f) (a ∷ []) (omega arith)))
    ∙ (ap (λ n. applied (head_of f) (take n (spine_of f ++ a ∷ []))) fewer
    ∙ ap (λ x. applied (head_of x) (take (length (spine_of x) - count) (spine_of x))) (sym is)))
  where
    k : ℕ
    k = length (spine_of f) - (count - 1)

    fewer : k ≡ length (spine_of (App f a)) - count
    fewer = omega (arith, length-append (spine_of f) (a ∷ []), ap (λ x. length (spine_of x)) is)

-- what is part of a head is part of its application
pub part-function : (f a x : Term) → IsPart x f → IsPart x (App f a)
part-function f a x part = inr (inl part)

pub part-applied : (h : Term) (us : List Term) (x : Term) → IsPart x h → IsPart x (applied h us)
part-applied h [] x part = part
part-applied h (u ∷ us) x part = part-applied (App h u) us x (part-function h u x part)

-- what calls add, one after the other, where the parts of the first term are parts of the second one
pub parts-then : {I : Type 0} (old mid new : Held I) (first second : Term) → ((x : Term) → IsPart x first → IsPart x second)
    → AddsParts old mid first → Extends mid new → AddsParts mid new second → AddsParts old new second
parts-then old mid new first second inside a e b =
    record {
      each = λ id live. elim (b.each id live) [
        | inl there ↦ elim (a.each id there) [
          | inl before ↦ inl before
          | inr part ↦ inr (inside (new.tree id) (transport (λ t. IsPart t first) (sym (e.trees id there)) part))
        ]
        | inr part ↦ inr part
      ];
    }

-- the nearest variables, the first one apart
pub variables-more : (h : Term) (n : ℕ) → n ≢ 0 → applied h (variables n) ≡ applied (App h (Var (n - 1))) (variables (n - 1))
variables-more h zero some = absurd (some refl)
variables-more h (suc n) some = let less : n ≡ suc n - 1 = omega arith in ap (λ k. applied (App h (Var k)) (variables k)) less

pub ruleset push_laws = (trees-none, trees-push, live-none, live-push)

pub ruleset whole_laws = (trees-whole)

pub ruleset part_laws = (part-applied)

pub ruleset variable_laws = (variables-more, part-applied)
