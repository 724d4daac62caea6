-- The types of symbols, looked up in the signature.
use Rattle.std.specs.Prelude.{cond, Option, Some, None, option_map, option_and_then, slice_get}
use Rattle.std.specs.List.{list_any}
use Rattle.theory.specs.Terms.{Term, Const, Fam, Con, Elim, AxiomK}
use Rattle.theory.specs.Families.{family_type, constructor_type}
use Rattle.theory.specs.Eliminators.{eliminator_type}
use Rattle.theory.specs.Signatures.{Entry, Definition, Signature, axiom_k_type}
use Rattle.core_sig.specs.Instances.{is_eliminator, is_axiom_k}
use Rattle.kernel_reduce.specs.Entries.{family_at}

abbrev pub type_in : Entry → Option Term
type_in (Definition name type body) = Some type
type_in _ = None

-- the type of a constant, family, constructor, eliminator or K, or None where the signature lacks it
abbrev pub symbol_type : Signature → Term → Option Term
symbol_type S (Const n) = option_and_then type_in (slice_get S.entries n)
symbol_type S (Fam n) = option_map family_type (family_at S n)
symbol_type S (Con n number) =
    option_and_then (λ f. option_map (constructor_type n f) (slice_get f.constructors number)) (family_at S n)
symbol_type S (Elim n m) =
    cond (list_any (is_eliminator n m) S.entries) (option_map (λ f. eliminator_type n f m) (family_at S n)) None
symbol_type S (AxiomK i m) = cond (list_any (is_axiom_k i m) S.entries) (Some (axiom_k_type i m)) None
symbol_type S _ = None
