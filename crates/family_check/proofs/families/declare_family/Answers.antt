use Rattle.std.proofs.Common.{◌≡◌, None, length, map, refl, sym, ap, subst as transport, arith}
use Rattle.std.proofs.lemmas.List.{length-map}
use Rattle.std.proofs.lemmas.List.Elements.{All-head}
use Rattle.theory.specs.Signatures.{FamilyOf}
use Rattle.theory.specs.WellFormed.{pushed}
use Rattle.core_terms.specs.Meanings.{tree_of, tele_of}
use Rattle.core_sig.specs.Meanings.{family_of}
use Rattle.core_sig.specs.Names.{find}
use Rattle.core_sig.specs.Raw.{raw_constructor_of, raw_names, raw_of}
use Rattle.kernel_reduce.specs.WellScoped.{AreWellScoped}
use Rattle.family_check.proofs.Declaring.{bare-given, constructors-asked, unknown-names, whole-kinds}
use Rattle.family_check.proofs.families.declare_family.Goals as goal

pub declare_type-requires-clause-asked : goal.declare_type-requires-clause-asked
declare_type-requires-clause-asked c =
    record {
      signature = c.requires.signature.scoped;
      context = c.requires.raw.parameters;
      few = omega (arith, c.requires.few, length-map c.args.raw.params tree_of);
      terms = (c.requires.raw.type, tt);
    }

pub over_bare-requires-clause-asked : goal.over_bare-requires-clause-asked
over_bare-requires-clause-asked c =
    let answer = c.in_ok-bare.ensures.answer (map raw_constructor_of c.args.raw.cons) in
    let raws = raw_of c.args.raw in
    let same = ap length (bare-given c.args.sig.now raws (family_of c.in_ok-bare.bare) _ _ answer).parameters in
    transport (λ rs. AreWellScoped (pushed c.args.sig.now (FamilyOf (family_of c.in_ok-bare.bare))) (tele_of c.in_ok-bare.bare.params) (map (λ r. tree_of r.ty) rs)) (sym c.into_vec.ensures)
    (constructors-asked c.args.sig.now c.requires.signature c.args.raw.cons raws (family_of c.in_ok-bare.bare) _ _ c.requires.raw refl answer
    (omega (arith, same, length-map c.args.raw.params tree_of, c.requires.few)))

pub over_bare-requires-clause-few : goal.over_bare-requires-clause-few
over_bare-requires-clause-few c =
    let given = bare-given c.args.sig.now (raw_of c.args.raw) (family_of c.in_ok-bare.bare) _ _ (c.in_ok-bare.ensures.answer (map raw_constructor_of c.args.raw.cons)) in
    let same : length (tele_of c.in_ok-bare.bare.params) ≡ length (tele_of c.args.raw.params) = ap length given.parameters in
    omega (arith, length-map c.in_ok-bare.bare.params tree_of, length-map c.args.raw.params tree_of, c.requires.few)

pub over_bare-requires-clause-unknown : goal.over_bare-requires-clause-unknown
over_bare-requires-clause-unknown c =
    let raw = raw_of c.args.raw in
    let given = bare-given c.args.sig.now raw (family_of c.in_ok-bare.bare) _ _ (c.in_ok-bare.ensures.answer (map raw_constructor_of c.args.raw.cons)) in
    transport (λ n. find c.args.sig.now n ≡ None) (sym given.name)
    (All-head (λ n. find c.args.sig.now n ≡ None) raw.name (map (λ r. r.name) raw.constructors) (unknown-names c.args.sig.now (raw_names raw) c.requires.new))

pub returns-clause-kinds : goal.returns-clause-kinds
returns-clause-kinds c =
    whole-kinds (length c.args.sig.now.entries) c.in_ok-bare.bare c.in_ok-cons.cons c.in_ok-bare.ensures.bare c.in_ok-cons.ensures.kinds
