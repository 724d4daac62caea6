-- The meanings of the code's values: trees for terms, and for types that hold terms the same types with trees. To a contract two values
-- with one meaning are the same.
use Rattle.std.specs.Prelude.{List, map}
use Rattle.theory.specs.Terms as tree
use Rattle.core_terms.specs.Verdicts as pure
use Rattle.core_terms.specs.declared.term.Term.{Term, Var, Sort, Pi', Lam', App', Let', Const, Fam, Con, Elim, AxiomK}
use Rattle.core_terms.specs.declared.verdict.Reason.{Reason}
use Rattle.core_terms.specs.declared.verdict.Reason.TheVariants.{Mismatch, NotAProduct, NotASort, NoSuchInstance, LevelTooHigh}
use Rattle.core_terms.specs.declared.verdict.Denial.{Denial}
use Rattle.core_terms.specs.declared.verdict.Verdict.{Verdict}
use Rattle.core_terms.specs.declared.verdict.Verdict.TheVariants.{Yes, No}

-- the tree of a term
abbrev pub tree_of : Term → tree.Term
tree_of (Var n) = tree.Var n
tree_of (Sort i) = tree.Sort i
tree_of (Pi' p a q b) = tree.Pi (tree_of a) (tree_of b)
tree_of (Lam' p a q b) = tree.Lam (tree_of a) (tree_of b)
tree_of (App' p f q a) = tree.App (tree_of f) (tree_of a)
tree_of (Let' p a q t r b) = tree.Let (tree_of a) (tree_of t) (tree_of b)
tree_of (Const c) = tree.Const c
tree_of (Fam f) = tree.Fam f
tree_of (Con f c) = tree.Con f c
tree_of (Elim f m) = tree.Elim f m
tree_of (AxiomK i m) = tree.AxiomK i m

-- the trees of a list of terms
abbrev pub tele_of : List Term → List tree.Term
tele_of terms = map tree_of terms

abbrev pub reason_of : Reason → pure.Reason
reason_of (Mismatch found wanted) = pure.Mismatch (tree_of found) (tree_of wanted)
reason_of (NotAProduct found) = pure.NotAProduct (tree_of found)
reason_of (NotASort found) = pure.NotASort (tree_of found)
reason_of NoSuchInstance = pure.NoSuchInstance
reason_of LevelTooHigh = pure.LevelTooHigh

abbrev pub denial_of : Denial → pure.Denial
denial_of d = record { place = d.place; ctx = tele_of d.ctx; reason = reason_of d.reason }

abbrev pub verdict_of : Verdict → pure.Verdict
verdict_of (Yes ty) = pure.Yes (tree_of ty)
verdict_of (No denial) = pure.No (denial_of denial)
