-- What calls add, one after the other.
use Rattle.std.proofs.Common.{inl, inr, sym, subst as transport}
use Rattle.theory.specs.Terms.{Term}
use Rattle.term_pool.specs.Held.{Held, Extends, AddsParts, Lacks}
use Rattle.term_pool.specs.Parts.{IsPart}
use Rattle.store_reduce.specs.Additions.{AddsOnly, LacksOne}

module _ {I : Type 0} where
  pub adds-none : (P : Term → Type 0) (held : Held I) → AddsOnly P held held
  adds-none P held = record { each = λ id live. inl live }

  pub adds-then : (P : Term → Type 0) (old mid new : Held I) → AddsOnly P old mid → Extends mid new → AddsOnly P mid new → AddsOnly P old new
  adds-then P old mid new a e b =
      record {
        each = λ id live. elim (b.each id live) [
          | inl there ↦ elim (a.each id there) [ inl first ↦ inl first | inr has ↦ inr (transport P (sym (e.trees id there)) has) ]
          | inr has ↦ inr has
        ];
      }

  pub adds-more : (P Q : Term → Type 0) (old new : Held I) → ((x : Term) → P x → Q x) → AddsOnly P old new → AddsOnly Q old new
  adds-more P Q old new h a =
      record { each = λ id live. elim (a.each id live) [ inl there ↦ inl there | inr has ↦ inr (h (new.tree id) has) ] }

  pub adds-parts : (P : Term → Type 0) (meant : Term) (old new : Held I) → ((x : Term) → IsPart x meant → P x) → AddsParts old new meant → AddsOnly P old new
  adds-parts P meant old new h a =
      record { each = λ id live. elim (a.each id live) [ inl there ↦ inl there | inr part ↦ inr (h (new.tree id) part) ] }

  pub lacks-more : (P Q : Term → Type 0) (held : Held I) → ((x : Term) → P x → Q x) → LacksOne P held → LacksOne Q held
  lacks-more P Q held h l = record { full = l.full; part = l.part; has = h l.part l.has; is_new = l.is_new }

  pub lacks-parts : (P : Term → Type 0) (meant : Term) (held : Held I) → ((x : Term) → IsPart x meant → P x) → Lacks held meant → LacksOne P held
  lacks-parts P meant held h l = record { full = l.full; part = l.part; has = h l.part l.is_part; is_new = l.is_new }

pub ruleset adding_laws = (adds-none, adds-then)
