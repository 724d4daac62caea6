-- Steps, conversion and typing over a signature carry over to another one that carries its types and its steps.
use Rattle.std.proofs.Common.{ℕ, List}
use Rattle.theory.specs.Terms.{Term}
use Rattle.theory.specs.Telescopes.{Context, Telescope}
use Rattle.theory.specs.Families.{Constructor, Family}
use Rattle.theory.specs.Signatures.{Signature, TypeOf}
use Rattle.theory.specs.Conversion.{Contracts, Step, Converts, Below}
use Rattle.theory.specs.Conversion.Step.{here, domain, codomain, annotation, body, function, argument, let_type, let_value, let_body}
use Rattle.theory.specs.Conversion.Converts.{same, forwards, backwards}
use Rattle.theory.specs.Conversion.Below.{converts, sorts, products, trans}
use Rattle.theory.specs.Typing.{IsContext, Has, HasSort}
use Rattle.theory.specs.Typing.IsContext.{empty, bind}
use Rattle.theory.specs.Typing.Has.{variable, sort, product, application, local, symbol, below, below_sort}
use Rattle.theory.specs.Typing.Has.{function as function_rule}
use Rattle.theory.specs.WellFormed.{HasLevels, IsConstructor, IsDefinition}
use Rattle.theory.specs.WellFormed.HasLevels.{none, more}

-- T gives each symbol of S the same type, and has the steps of S
pub record Carries (S T : Signature) : Type 0 where
  pub types : (t a : Term) → TypeOf S t a → TypeOf T t a
  pub contracts : (t u : Term) → Contracts S t u → Contracts T t u

pub step-carried : {S T : Signature} → Carries S T → {t u : Term} → Step S t u → Step T t u
step-carried h (here c) = here (h.contracts _ _ c)
step-carried h (domain s) = domain (step-carried h s)
step-carried h (codomain s) = codomain (step-carried h s)
step-carried h (annotation s) = annotation (step-carried h s)
step-carried h (body s) = body (step-carried h s)
step-carried h (function s) = function (step-carried h s)
step-carried h (argument s) = argument (step-carried h s)
step-carried h (let_type s) = let_type (step-carried h s)
step-carried h (let_value s) = let_value (step-carried h s)
step-carried h (let_body s) = let_body (step-carried h s)

pub converts-carried : {S T : Signature} → Carries S T → {t u : Term} → Converts S t u → Converts T t u
converts-carried h same = same
converts-carried h (forwards s rest) = forwards (step-carried h s) (converts-carried h rest)
converts-carried h (backwards s rest) = backwards (step-carried h s) (converts-carried h rest)

pub below-carried : {S T : Signature} → Carries S T → {a b : Term} → Below S a b → Below T a b
below-carried h (converts c) = converts (converts-carried h c)
below-carried h (sorts le) = sorts le
below-carried h (products c b) = products (converts-carried h c) (below-carried h b)
below-carried h (trans a b) = trans (below-carried h a) (below-carried h b)

mutual
  pub context-carried : {S T : Signature} → Carries S T → {G : Context} → IsContext S G → IsContext T G
  context-carried h empty = empty
  context-carried h (bind i context d) = bind i (context-carried h context) (has-carried h d)

  pub has-carried : {S T : Signature} → Carries S T → {G : Context} {t a : Term} → Has S G t a → Has T G t a
  has-carried h (variable n context at) = variable n (context-carried h context) at
  has-carried h (sort i context limit) = sort i (context-carried h context) limit
  has-carried h (product i j da db) = product i j (has-carried h da) (has-carried h db)
  has-carried h (function_rule i j da db dc) = function_rule i j (has-carried h da) (has-carried h db) (has-carried h dc)
  has-carried h (application df du) = application (has-carried h df) (has-carried h du)
  has-carried h (local i da dt db) = local i (has-carried h da) (has-carried h dt) (has-carried h db)
  has-carried h (symbol context type) = symbol (context-carried h context) (h.types _ _ type)
  has-carried h (below i dt le db) = below i (has-carried h dt) (below-carried h le) (has-carried h db)
  has-carried h (below_sort i dt le) = below_sort i (has-carried h dt) (below-carried h le)

pub sort-carried : {S T : Signature} → Carries S T → {G : Context} {a : Term} → HasSort S G a → HasSort T G a
sort-carried h (i, d) = (i, has-carried h d)

pub levels-carried : {S T : Signature} {level : ℕ} → Carries S T → {G : Context} {tele : Telescope} {levels : List ℕ} → HasLevels S level G tele levels → HasLevels T level G tele levels
levels-carried h none = none
levels-carried h (more d le rest) = more (has-carried h d) le (levels-carried h rest)

-- constructors
pub constructor-carried : {S T : Signature} → Carries S T → {n : ℕ} {f : Family} {c : Constructor} → IsConstructor S n f c → IsConstructor T n f c
constructor-carried h c = record {
  type = sort-carried h c.type;
  levels = levels-carried h c.levels;
  targets = c.targets;
  argument_targets = c.argument_targets;
}

-- definitions
pub definition-carried : {S T : Signature} → Carries S T → {type body : Term} → IsDefinition S type body → IsDefinition T type body
definition-carried h d = record { type_sort = sort-carried h d.type_sort; body_type = has-carried h d.body_type }
