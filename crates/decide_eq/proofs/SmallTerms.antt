-- Terms that telescopic equality takes: they are not high, and have few free variables.
use Rattle.std.proofs.Common.{◌≡◌, ℕ, zero, suc, ◌+◌, ◌-◌, ◌<◌, ◌≤◌, refl, arith}
use Rattle.theory.specs.Terms.{Term, height, free_of}
use Rattle.theory.specs.Terms.Term.{Var, App, Fam, Con}
use Rattle.theory.specs.Telescopes.{applied}
use Rattle.core_terms.specs.Levels.{run}
use Rattle.core_terms.proofs.Builders.{height-applied}
use Rattle.tele_eq.specs.Items.{IsSmall}
use Rattle.generators.proofs.noconf_gen.SmallTerms.{free-run}
use Rattle.decide_eq.specs.Comparisons.{member_at}
use Rattle.decide_eq.specs.Fitting.{IsNearFamily, IsNearMember}
use Rattle.decide_eq.specs.Statements.{whole_type}
use Rattle.decide_eq.specs.declared.decided_family.DecidedFamily.{DecidedFamily}
use Rattle.decide_eq.specs.declared.members.Member.{Member}

height-run : (depth start count : ℕ) (head : Term) → 1 ≤ height head → height (applied head (run depth start count)) ≤ height head + count
height-run depth start zero head h = omega arith
height-run depth start (suc count) head h = omega (arith, height-run depth (start + 1) count (App head (Var (depth - (start + 1)))) (omega arith))

-- a symbol applied to the parameters and to variables
small-symbol : (symbol : Term) (depth p start count : ℕ) → height symbol ≡ 1 → free_of symbol ≡ 0 → depth ≤ 1100000 → p + count < 2000 → IsSmall (applied (applied symbol (run depth 0 p)) (run depth start count))
small-symbol symbol depth p start count h free le few =
    let inner = height-run depth 0 p symbol (omega arith) in
    let positive = height-applied symbol (run depth 0 p) in (
      omega (arith, height-run depth start count (applied symbol (run depth 0 p)) (omega arith)),
      omega (arith, free-run depth start count (applied symbol (run depth 0 p)) (free-run depth 0 p symbol (omega arith))),
    )

pub small-member : (d : DecidedFamily) (c : Member) (depth : ℕ) → IsNearFamily d → IsNearMember c → depth ≤ 1000000 → IsSmall (member_at d c depth)
small-member d c depth near is le =
    small-symbol (Con d.family c.number) depth d.params c.start c.count refl refl (omega arith) (omega (arith, near.params, is.count))

pub small-whole : (d : DecidedFamily) (depth : ℕ) → d.params ≤ 1000 → depth ≤ 1000000 → IsSmall (whole_type d depth)
small-whole d depth few le = small-symbol (Fam d.family) depth d.params 0 0 refl refl (omega arith) (omega arith)
