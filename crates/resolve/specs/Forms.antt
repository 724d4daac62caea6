-- The two forms that bind a variable without giving it a value.
use Rattle.theory.specs.Terms as tree
use Rattle.resolve.specs.declared.forming.Form.{Form}
use Rattle.resolve.specs.declared.forming.Form.TheVariants.{Pi, Lam}

abbrev pub former : Form → tree.Term → tree.Term → tree.Term
former Pi = tree.Pi
former Lam = tree.Lam
