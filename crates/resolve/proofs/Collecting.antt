-- Lists that are resolved one item after the other, where the first ones are resolved already.
use Rattle.std.proofs.Common.{List, ◌++◌, Result, Ok, Err}
use Rattle.resolve.specs.declared.stop.ResolveStop.{ResolveStop}

-- the answer for the items that are left, with those before it
abbrev pub onto : {A : Type 0} → List A → Result (List A) ResolveStop → Result (List A) ResolveStop
onto xs (Ok ys) = Ok (xs ++ ys)
onto xs (Err e) = Err e
