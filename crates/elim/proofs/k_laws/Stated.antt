-- The laws of what brings no K in.
use Rattle.elim.specs.k_laws.Laws.{InferLacks, NormalLacks, OwnWalkLacks, SplitLacks, UnifyLacks, WellFormedLacks, WhnfLacks}
use Rattle.elim.proofs.k_laws.Signatures.{well-formed-lacks}
use Rattle.elim.proofs.k_laws.Kernel.{normal, whnf}
use Rattle.elim.proofs.k_laws.Checker.{infer}
use Rattle.elim.proofs.k_laws.Solving.{unify}
use Rattle.elim.proofs.k_laws.Walks.{own-walk}
use Rattle.elim.proofs.k_laws.Trees.{tree-grows}

pub signature-lacks : WellFormedLacks
signature-lacks S formed off = well-formed-lacks S formed off

pub whnf-lacks : WhnfLacks
whnf-lacks S delta left t all h = (whnf S delta left t all h).only.is

pub normal-lacks : NormalLacks
normal-lacks S delta room t left all h = (normal S delta room t left all h).only.is

pub infer-lacks : InferLacks
infer-lacks S room G t left all hG ht = (infer S all room G t left hG ht).only.is

pub unify-lacks : UnifyLacks
unify-lacks S p left all h = (unify S all p left h).only.is

pub walk-lacks : OwnWalkLacks
walk-lacks S context goal terms c number left all h k = (own-walk S all context goal terms c number left h k).only.is

pub split-lacks : SplitLacks
split-lacks S context goal terms clauses left all h k = (tree-grows S all context goal terms clauses left h k).only.is
