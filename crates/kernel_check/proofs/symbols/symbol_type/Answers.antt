use Rattle.term_pool.specs.declared.node.Node.TheVariants as node
use Rattle.kernel_check.proofs.FoundTypes.{axiom_k-finds, constant-finds, constructor-finds, eliminator-finds, family-finds, found-for}
use Rattle.kernel_check.proofs.symbols.symbol_type.Goals as goal

pub returns-in-Const : goal.returns-in-Const
returns-in-Const g c =
    found-for c.args.sig.now c.args.ids.now c.args.symbol (node.Const c.in-Const.n) c.constant_type.result _ c.in-Const.is c.constant_type.ensures
    (λ tree. constant-finds c.args.sig.now c.args.ids.now c.in-Const.n)

pub returns-in-Fam : goal.returns-in-Fam
returns-in-Fam g c =
    found-for c.args.sig.now c.args.ids.now c.args.symbol (node.Fam c.in-Fam.n) c.family_type.result _ c.in-Fam.is c.family_type.ensures
    (λ tree. family-finds c.args.sig.now c.args.ids.now c.in-Fam.n)

pub returns-in-Con : goal.returns-in-Con
returns-in-Con g c =
    found-for c.args.sig.now c.args.ids.now c.args.symbol (node.Con c.in-Con.n c.in-Con.number) c.constructor_type.result _ c.in-Con.is c.constructor_type.ensures
    (λ tree. constructor-finds c.args.sig.now c.args.ids.now c.in-Con.n c.in-Con.number)

pub returns-in-Elim : goal.returns-in-Elim
returns-in-Elim g c =
    found-for c.args.sig.now c.args.ids.now c.args.symbol (node.Elim c.in-Elim.n c.in-Elim.m) c.eliminator_type.result _ c.in-Elim.is c.eliminator_type.ensures
    (λ tree. eliminator-finds c.args.sig.now c.args.ids.now c.in-Elim.n c.in-Elim.m)

pub returns-in-AxiomK : goal.returns-in-AxiomK
returns-in-AxiomK g c =
    found-for c.args.sig.now c.args.ids.now c.args.symbol (node.AxiomK c.in-AxiomK.i c.in-AxiomK.m) c.axiom_k_type.result _ c.in-AxiomK.is c.axiom_k_type.ensures
    (λ tree. axiom_k-finds c.args.sig.now c.args.ids.now c.in-AxiomK.i c.in-AxiomK.m)
