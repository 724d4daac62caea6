-- How `lift` and `subst` change the sorts in a term.
use Rattle.std.proofs.Common.{ℕ, ◌+◌, subst as transport, sym, inl, inr, arith}
use Rattle.theory.specs.Terms.{Term, lift, subst_var, SortsBelow}
use Rattle.theory.specs.Terms.Term.{Var, Sort, Pi, Lam, App, Let}
use Rattle.theory.specs.TermLaws.{SortsRaised, SortsOfLift, SortsOfSubst, SortsBeforeSubst}
use Rattle.theory.proofs.Shifts.{compare, subst_var-below, subst_var-at, subst_var-above}

-- a bound on the sorts may be raised
pub sorts_raised : SortsRaised
sorts_raised (Sort i) n m le s = omega arith
sorts_raised (Pi a b) n m le s = (sorts_raised a n m le s.0, sorts_raised b n m le s.1)
sorts_raised (Lam a b) n m le s = (sorts_raised a n m le s.0, sorts_raised b n m le s.1)
sorts_raised (App f a) n m le s = (sorts_raised f n m le s.0, sorts_raised a n m le s.1)
sorts_raised (Let a t b) n m le s =
    (sorts_raised a n m le s.0, sorts_raised t n m le s.1, sorts_raised b n m le s.2)
sorts_raised _ n m le s = tt

-- a lift keeps the sorts
pub sorts_into_lift : (t : Term) (by from n : ℕ) → SortsBelow n t → SortsBelow n (lift t by from)
sorts_into_lift (Sort i) by from n s = s
sorts_into_lift (Pi a b) by from n s = (sorts_into_lift a by from n s.0, sorts_into_lift b by (from + 1) n s.1)
sorts_into_lift (Lam a b) by from n s = (sorts_into_lift a by from n s.0, sorts_into_lift b by (from + 1) n s.1)
sorts_into_lift (App f a) by from n s = (sorts_into_lift f by from n s.0, sorts_into_lift a by from n s.1)
sorts_into_lift (Let a t b) by from n s =
    (sorts_into_lift a by from n s.0, sorts_into_lift t by from n s.1, sorts_into_lift b by (from + 1) n s.2)
sorts_into_lift _ by from n s = tt

-- a lift brings none
pub sorts_from_lift : (t : Term) (by from n : ℕ) → SortsBelow n (lift t by from) → SortsBelow n t
sorts_from_lift (Sort i) by from n s = s
sorts_from_lift (Pi a b) by from n s = (sorts_from_lift a by from n s.0, sorts_from_lift b by (from + 1) n s.1)
sorts_from_lift (Lam a b) by from n s = (sorts_from_lift a by from n s.0, sorts_from_lift b by (from + 1) n s.1)
sorts_from_lift (App f a) by from n s = (sorts_from_lift f by from n s.0, sorts_from_lift a by from n s.1)
sorts_from_lift (Let a t b) by from n s =
    (sorts_from_lift a by from n s.0, sorts_from_lift t by from n s.1, sorts_from_lift b by (from + 1) n s.2)
sorts_from_lift _ by from n s = tt

-- both directions
pub sorts_of_lift : SortsOfLift
sorts_of_lift t by from n = (sorts_into_lift t by from n, sorts_from_lift t by from n)

sorts_of_subst-var : (m at : ℕ) (u : Term) (n : ℕ) → SortsBelow n u → SortsBelow n (subst_var m at u)
sorts_of_subst-var m at u n s = elim (compare m at) [
  | inl lt ↦ transport (SortsBelow n) (sym (subst_var-below m at u lt)) tt
  | inr (inl eq) ↦ transport (SortsBelow n) (sym (subst_var-at m at u eq)) s
  | inr (inr gt) ↦ transport (SortsBelow n) (sym (subst_var-above m at u gt)) tt
]

-- a substitution brings no sorts but those of its term
pub sorts_of_subst : SortsOfSubst
sorts_of_subst (Var m) at u n s su = sorts_of_subst-var m at u n su
sorts_of_subst (Sort i) at u n s su = s
sorts_of_subst (Pi a b) at u n s su =
    (sorts_of_subst a at u n s.0 su, sorts_of_subst b (at + 1) (lift u 1 0) n s.1 (sorts_into_lift u 1 0 n su))
sorts_of_subst (Lam a b) at u n s su =
    (sorts_of_subst a at u n s.0 su, sorts_of_subst b (at + 1) (lift u 1 0) n s.1 (sorts_into_lift u 1 0 n su))
sorts_of_subst (App f a) at u n s su = (sorts_of_subst f at u n s.0 su, sorts_of_subst a at u n s.1 su)
sorts_of_subst (Let a t b) at u n s su = (
  sorts_of_subst a at u n s.0 su,
  sorts_of_subst t at u n s.1 su,
  sorts_of_subst b (at + 1) (lift u 1 0) n s.2 (sorts_into_lift u 1 0 n su),
)
sorts_of_subst _ at u n s su = tt

-- a substitution drops no sorts
pub sorts_before_subst : SortsBeforeSubst
sorts_before_subst (Sort i) at u n s = s
sorts_before_subst (Pi a b) at u n s =
    (sorts_before_subst a at u n s.0, sorts_before_subst b (at + 1) (lift u 1 0) n s.1)
sorts_before_subst (Lam a b) at u n s =
    (sorts_before_subst a at u n s.0, sorts_before_subst b (at + 1) (lift u 1 0) n s.1)
sorts_before_subst (App f a) at u n s = (sorts_before_subst f at u n s.0, sorts_before_subst a at u n s.1)
sorts_before_subst (Let a t b) at u n s = (
  sorts_before_subst a at u n s.0,
  sorts_before_subst t at u n s.1,
  sorts_before_subst b (at + 1) (lift u 1 0) n s.2,
)
sorts_before_subst _ at u n s = tt
