-- The core terms that written terms stand for, or the first refusal in source order.
use Rattle.std.specs.Prelude.{ℕ, if◌then◌else◌, List, [], ◌∷◌, Option, Some, None, Result, Ok, Err}
use Rattle.theory.specs.Terms as tree
use Rattle.theory.specs.Signatures.{Signature}
use Rattle.surface_syntax.specs.declared.tree.Word.{Word}
use Rattle.surface_syntax.specs.Trees as surf
use Rattle.resolve.specs.declared.stop.ResolveStop.{ResolveStop}
use Rattle.resolve.specs.declared.stop.ResolveStop.TheVariants.{Deep}
use Rattle.core_terms.specs.Answers.{and_then, is_low}
use Rattle.resolve.specs.Names.{Known, Scope, scope_of, name_of, known_in, named}

abbrev pub Answer : Type 0
Answer = Result tree.Term ResolveStop

-- a term that has just been made of its parts, Deep where it is higher than 2,000
abbrev pub low : tree.Term → Answer
low t = if is_low t then Ok t else Err Deep

-- a product or a function over two parts, the second of which is under the binder
abbrev pub binding : (tree.Term → tree.Term → tree.Term) → Answer → Answer → Answer
binding make first second = and_then first (λ a. and_then second (λ b. low (make a b)))

-- Binders with the names, all of the same type, around `inner`. The type is resolved anew for each name, under the names before it.
abbrev pub group : (tree.Term → tree.Term → tree.Term) → List (Option Word) → (Scope → Answer) → (Scope → Answer) → Scope → Answer
group make [] type inner scope = inner scope
group make (x ∷ names) type inner scope = binding make (type scope) (group make names type inner (name_of x ∷ scope))

abbrev mutual
  -- the term that t stands for under the names of the scope
  pub resolve : Known → surf.Surf → Scope → Answer
  resolve known (surf.Lam binders body) scope = telescope known tree.Lam binders (resolve known body) scope
  resolve known (surf.Pi binders body) scope = telescope known tree.Pi binders (resolve known body) scope
  resolve known (surf.Arrow a b) scope = binding tree.Pi (resolve known a scope) (resolve known b (None ∷ scope))
  resolve known (surf.App f args) scope = and_then (resolve known f scope) (λ f. applied known args scope f)
  resolve known (surf.Let x a t b) scope =
      and_then (resolve known a scope) (λ a. and_then (resolve known t scope) (λ t.
      and_then (resolve known b (Some x.text ∷ scope)) (λ b. low (tree.Let a t b))))
  resolve known (surf.Sort i) scope = Ok (tree.Sort i)
  resolve known (surf.Named x) scope = named known scope x

  -- all the names of the binders, bound around `inner`
  pub telescope : Known → (tree.Term → tree.Term → tree.Term) → surf.Binders → (Scope → Answer) → Scope → Answer
  telescope known make surf.no_binder inner scope = inner scope
  telescope known make (surf.bind (surf.Group names type) binders) inner scope =
      group make names (resolve known type) (telescope known make binders inner) scope

  -- f applied to the arguments one by one
  pub applied : Known → surf.Surfs → Scope → tree.Term → Answer
  applied known surf.nil scope f = Ok f
  applied known (surf.cons a args) scope f =
      and_then (resolve known a scope) (λ a. and_then (low (tree.App f a)) (λ f. applied known args scope f))

-- the term over a signature, under names that are listed from the outermost on
abbrev pub resolve_term : Signature → List (List ℕ) → surf.Surf → Answer
resolve_term S names t = resolve (known_in S) t (scope_of names)
