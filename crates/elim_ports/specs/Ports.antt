-- The sources and sinks of this crate.
use Rattle.std.specs.Prelude.{ℕ, List, Option}
use Rattle.elim_ports.specs.Calls.{Calls}

-- a source in memory: the bytes still to come, and its calls
pub record Input : Type 0 where
  pub left : List ℕ
  pub calls : Calls

-- a sink in memory: the bytes that were written, and its calls
pub record Output : Type 0 where
  pub written : List ℕ
  pub calls : Calls

-- a source over a reader: the bytes that the reader has left, if it shows them, and how many reads failed
pub record OverReader : Type 0 where
  pub remaining : Option (List ℕ)
  pub faults : ℕ

-- a sink over a writer: the bytes that the writer holds, if it shows them, and how many writes failed
pub record OverWriter : Type 0 where
  pub contents : Option (List ℕ)
  pub faults : ℕ
