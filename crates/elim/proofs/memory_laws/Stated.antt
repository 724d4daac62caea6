-- The laws of the kernel, of entries and of functions as they are stated.
use Rattle.elim.specs.memory_laws.Laws.{AxiomKForeseen, CheckForeseen, ConvertibleForeseen, DefinitionForeseen, EliminatorForeseen, FamilyForeseen, FunctionForeseen, InferForeseen, InferSortForeseen, NormalForeseen, SubtypeForeseen, WhnfForeseen}
use Rattle.elim.proofs.memory_laws.Families.{axiom-k, declare, define, instance}
use Rattle.elim.proofs.memory_laws.Functions.{opened}
use Rattle.elim.proofs.memory_laws.Kernel.{check, convertible, infer, infer-sort, normal, subtype, whnf}

pub whnf-foreseen : WhnfForeseen
whnf-foreseen S delta left t = (whnf S delta left t).only.is

pub normal-foreseen : NormalForeseen
normal-foreseen S delta room t left = (normal S delta room t left).only.is

pub convertible-foreseen : ConvertibleForeseen
convertible-foreseen S room a b left = (convertible S room a b left).only.is

pub subtype-foreseen : SubtypeForeseen
subtype-foreseen S room a b left = (subtype S room a b left).only.is

pub infer-foreseen : InferForeseen
infer-foreseen S room G t left = (infer S room G t left).only.is

pub infer_sort-foreseen : InferSortForeseen
infer_sort-foreseen S room G t left = (infer-sort S room G t left).only.is

pub check-foreseen : CheckForeseen
check-foreseen S room G t wanted left = (check S room G t wanted left).only.is

pub family-foreseen : FamilyForeseen
family-foreseen S raw left = (declare S raw left).only.is

pub definition-foreseen : DefinitionForeseen
definition-foreseen S name type body left = (define S name type body left).only.is

pub eliminator-foreseen : EliminatorForeseen
eliminator-foreseen S n f m left = (instance S n f m left).only.is

pub axiom_k-foreseen : AxiomKForeseen
axiom_k-foreseen S i m left = (axiom-k S i m left).only.is

pub function-foreseen : FunctionForeseen
function-foreseen S f fuel = (opened S f fuel).only.is
