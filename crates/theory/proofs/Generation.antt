-- Generation: the parts of a derivation, by the form of its term.
use Rattle.std.proofs.Common.{[], ◌∷◌, max}
use Rattle.theory.specs.Terms.{Term}
use Rattle.theory.specs.Terms.Term.{Var, Sort, Pi, Lam, App, Let, Const, Fam, Con, Elim, AxiomK}
use Rattle.theory.specs.Substitutions.{put}
use Rattle.theory.specs.Telescopes.{Context, Telescope, context_behind}
use Rattle.theory.specs.Signatures.{Signature, TypeOf}
use Rattle.theory.specs.Signatures.TypeOf.{constant, family, constructor, eliminator, axiom_k}
use Rattle.theory.specs.Conversion.{Below}
use Rattle.theory.specs.Conversion.Converts.{same}
use Rattle.theory.specs.Conversion.Below.{converts, trans}
use Rattle.theory.specs.Generation.{Parts}
use Rattle.theory.specs.Typing.{IsContext, Has, HasSort}
use Rattle.theory.specs.Typing.IsContext.{bind}
use Rattle.theory.specs.Typing.Has.{variable, sort, product, function, application, local, symbol, below, below_sort}
use Rattle.theory.specs.TypingLaws.{TelescopeFormation, TelescopeGeneration}
use Rattle.theory.proofs.Scoping.{context_of}

-- a type is below itself
pub below_same : {S : Signature} (a : Term) → Below S a a
below_same a = converts same

-- a greater type has the same parts; for a local definition the derivations of its body are carried along
raise : {S : Signature} {G : Context} (t : Term) {a b : Term} → Below S a b → ((u : Term) → Has S G u a → Has S G u b) → Parts S G t a → Parts S G t b
raise (Var n) le carry p = record { declared = p.declared; at = p.at; order = trans p.order le }
raise (Sort i) le carry p = record { limit = p.limit; order = trans p.order le }
raise (Pi a b) le carry p = record {
  domain_level = p.domain_level;
  codomain_level = p.codomain_level;
  domain = p.domain;
  codomain = p.codomain;
  order = trans p.order le;
}
raise (Lam a b) le carry p = record {
  codomain = p.codomain;
  domain_level = p.domain_level;
  codomain_level = p.codomain_level;
  domain_sort = p.domain_sort;
  codomain_sort = p.codomain_sort;
  body = p.body;
  order = trans p.order le;
}
raise (App f u) le carry p = record {
  domain = p.domain;
  codomain = p.codomain;
  function = p.function;
  argument = p.argument;
  order = trans p.order le;
}
raise (Let a t b) le carry p =
    record { level = p.level; declared = p.declared; value = p.value; body = carry (put t b) p.body }
raise (Const c) le carry p = record { given = p.given; type_of = p.type_of; order = trans p.order le }
raise (Fam f) le carry p = record { given = p.given; type_of = p.type_of; order = trans p.order le }
raise (Con f c) le carry p = record { given = p.given; type_of = p.type_of; order = trans p.order le }
raise (Elim f m) le carry p = record { given = p.given; type_of = p.type_of; order = trans p.order le }
raise (AxiomK i m) le carry p = record { given = p.given; type_of = p.type_of; order = trans p.order le }

of_symbol : {S : Signature} (G : Context) {t a : Term} → TypeOf S t a → Parts S G t a
of_symbol G (constant n at) = record { given = _; type_of = constant n at; order = below_same _ }
of_symbol G (family n at) = record { given = _; type_of = family n at; order = below_same _ }
of_symbol G (constructor n number at chosen) =
    record { given = _; type_of = constructor n number at chosen; order = below_same _ }
of_symbol G (eliminator n m place at made) =
    record { given = _; type_of = eliminator n m place at made; order = below_same _ }
of_symbol G (axiom_k i m place made) = record { given = _; type_of = axiom_k i m place made; order = below_same _ }

-- the parts of a derivation
pub parts : {S : Signature} {G : Context} {t a : Term} → Has S G t a → Parts S G t a
parts (variable {a = a} n context at) = record { declared = a; at = at; order = below_same _ }
parts (sort i context limit) = record { limit = limit; order = below_same _ }
parts (product i j da db) =
    record { domain_level = i; codomain_level = j; domain = da; codomain = db; order = below_same _ }
parts (function {c = c} i j da db dc) = record {
  codomain = c;
  domain_level = i;
  codomain_level = j;
  domain_sort = da;
  codomain_sort = dc;
  body = db;
  order = below_same _;
}
parts (application {a = a} {b = b} df du) =
    record { domain = a; codomain = b; function = df; argument = du; order = below_same _ }
parts (local i da dt db) = record { level = i; declared = da; value = dt; body = db }
parts {G = G} (symbol context type) = of_symbol G type
parts (below {t = t} i dt le db) = raise t le (λ u du. below i du le db) (parts dt)
parts (below_sort {t = t} i dt le) = raise t le (λ u du. below_sort i du le) (parts dt)

context_before : {S : Signature} (G : Context) (tele : Telescope) → IsContext S (context_behind G tele) → IsContext S G
context_before G [] context = context
context_before G (a ∷ tele) context = elim (context_before (a ∷ G) tele context) [ bind i before d ↦ before ]

head_sort : {S : Signature} {G : Context} {a : Term} → IsContext S (a ∷ G) → HasSort S G a
head_sort (bind i context d) = (i, d)

-- products over a telescope have a sort where the body has one after it
pub telescope_formation : TelescopeFormation
telescope_formation S G [] body context d = d
telescope_formation S G (a ∷ tele) body context d =
    let (i, da) = head_sort (context_before (a ∷ G) tele context) in
    let (j, db) = telescope_formation S (a ∷ G) tele body context d in
    (max i j, product i j da db)

-- and only there
pub telescope_generation : TelescopeGeneration
telescope_generation S G [] body (i, d) = (context_of d, (i, d))
telescope_generation S G (a ∷ tele) body (i, d) =
    let p = parts d in telescope_generation S (a ∷ G) tele body (p.codomain_level, p.codomain)
