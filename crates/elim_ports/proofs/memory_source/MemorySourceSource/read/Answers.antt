use Rattle.std.proofs.Common.{◌≡◌, ℕ, ◌+◌, ◌≤◌, List, ◌++◌, length, take, drop, arith}
use Rattle.std.proofs.lemmas.Grind.{common_steps}
use Rattle.std.proofs.lemmas.List.{take_at, drop-drop, take-append-drop}
use Rattle.elim_ports.proofs.memory_source.MemorySourceSource.read.Goals as goal

-- the bytes that are left are the front that was copied, and the rest
left_parts : (n taken : ℕ) (bytes into : List ℕ) → n ≤ length (drop taken bytes) →
    drop taken bytes ≡ take n (take n (drop taken bytes) ++ drop n into) ++ drop (taken + n) bytes
left_parts n taken bytes into fits = grind (arith, common_steps, take_at {A = ℕ}, drop-drop {A = ℕ}, take-append-drop {A = ℕ})

pub returns-clause-bytes : goal.returns-clause-bytes
returns-clause-bytes c = (grind (arith, common_steps, left_parts), λ none some. grind (arith, common_steps))
