-- A longer signature has what holds over a shorter one: weakening of signatures.
use Rattle.std.proofs.Common.{ℕ, slice_get, ap, ◌∙◌, sym, IsTrue, subst as transport}
use Rattle.theory.specs.Terms.{Term}
use Rattle.theory.specs.Signatures.{Signature, Entry, IsEntryAt, IsPrefix, TypeOf, HasIdentity}
use Rattle.theory.specs.Signatures.TypeOf.{constant, family, constructor, eliminator, axiom_k}
use Rattle.theory.specs.Conversion.{Contracts}
use Rattle.theory.specs.Conversion.Contracts.{beta, zeta, delta, iota}
use Rattle.theory.specs.Conversion.Contracts.{axiom_k as step_k}
use Rattle.theory.proofs.Lists.{slice_get-longer}
use Rattle.theory.proofs.Carrying.{Carries}

-- each entry of S has its number in T, and T has K where S has it
pub record Keeps (S T : Signature) : Type 0 where
  pub entry : (n : ℕ) (e : Entry) → IsEntryAt S n e → IsEntryAt T n e
  pub k : IsTrue S.has_k → IsTrue T.has_k

-- a longer signature keeps the entries
pub prefix_keeps : {S T : Signature} → IsPrefix S T → Keeps S T
prefix_keeps {S} {T} h = record {
  entry = λ n e at. ap (λ es. slice_get es n) h.entries ∙ slice_get-longer S.entries h.more n e at;
  k = λ on. transport IsTrue (sym h.has_k) on;
}

-- the types of symbols
pub type_of-wider : {S T : Signature} → Keeps S T → {t a : Term} → TypeOf S t a → TypeOf T t a
type_of-wider h (constant n at) = constant n (h.entry n _ at)
type_of-wider h (family n at) = family n (h.entry n _ at)
type_of-wider h (constructor n number at chosen) = constructor n number (h.entry n _ at) chosen
type_of-wider h (eliminator n m place at made) = eliminator n m place (h.entry n _ at) (h.entry place _ made)
type_of-wider h (axiom_k i m place made) = axiom_k i m place (h.entry place _ made)

pub identity-wider : {S T : Signature} → Keeps S T → {i : ℕ} → HasIdentity S i → HasIdentity T i
identity-wider h identity = record { level = identity.level; entry = h.entry _ _ identity.entry }

contracts-wider : {S T : Signature} → Keeps S T → {t u : Term} → Contracts S t u → Contracts T t u
contracts-wider h beta = beta
contracts-wider h zeta = zeta
contracts-wider h (delta n at new) = delta n (h.entry n _ at) new
contracts-wider h (iota n m number f c ps P ms is qs us at chosen redex method) =
    iota n m number f c ps P ms is qs us (h.entry n _ at) chosen redex method
contracts-wider h (step_k i m on identity) = step_k i m (h.k on) (identity-wider h identity)

pub keeps_carries : {S T : Signature} → Keeps S T → Carries S T
keeps_carries h = record { types = λ t a. type_of-wider h; contracts = λ t u. contracts-wider h }

-- a longer signature carries the types and the steps
pub prefix_carries : {S T : Signature} → IsPrefix S T → Carries S T
prefix_carries h = keeps_carries (prefix_keeps h)
