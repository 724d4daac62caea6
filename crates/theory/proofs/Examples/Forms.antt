-- Equal terms and entries of one form have equal parts.
use Rattle.std.proofs.Common.{◌≡◌, ℕ, List}
use Rattle.theory.specs.Terms.{Term, Sort, Pi, Const}
use Rattle.theory.specs.Signatures.{Definition}

pub sort_level : {i j : ℕ} → Sort i ≡ Sort j → i ≡ j
sort_level e = cc

pub const_number : {m n : ℕ} → Const m ≡ Const n → m ≡ n
const_number e = cc

pub domain_same : {a a' b b' : Term} → Pi a b ≡ Pi a' b' → a ≡ a'
domain_same e = cc

pub type_same : {name name' : List ℕ} {t t' b b' : Term} → Definition name t b ≡ Definition name' t' b' → t ≡ t'
type_same e = cc

pub body_same : {name name' : List ℕ} {t t' b b' : Term} → Definition name t b ≡ Definition name' t' b' → b ≡ b'
body_same e = cc
