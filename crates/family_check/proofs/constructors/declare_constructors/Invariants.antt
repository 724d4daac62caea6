use Rattle.std.proofs.Common.{◌≡◌, ◌≤◌, ◌+◌, length, map, drop, All}
use Rattle.core_sig.specs.Kinds.{HaveKinds}
use Rattle.core_sig.specs.Meanings.{constructor_of, family_of}
use Rattle.core_sig.specs.Raw.{raw_constructor_of}
use Rattle.family_check.specs.Families.{declare_constructors}
use Rattle.core_terms.proofs.Loops.{so_far}
use Rattle.family_check.proofs.constructors.declare_constructors.Given as goal

abbrev pub invariant-loop-raw : goal.invariant-loop-raw
invariant-loop-raw l = record {
  count : length l.made ≡ length l.yielded;
  answer : declare_constructors l.sig l.n (family_of l.f) 0 (map raw_constructor_of l.fn.raws.items) l.fn.units.left
      ≡ so_far (map (constructor_of (length l.f.params)) l.made) (declare_constructors l.sig l.n (family_of l.f) (length l.made) (drop (length l.made) (map raw_constructor_of l.fn.raws.items)) l.units.left);
  kinds : All (λ c. HaveKinds l.n (family_of l.f) 0 c.args) l.made;
  sum : l.units.left + l.units.spent ≡ l.fn.units.left + l.fn.units.spent;
  spends : l.units.left ≤ l.fn.units.left;
}
