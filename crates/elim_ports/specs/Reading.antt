-- The effect of a read on the slice that it is given, and the bytes that are taken of a source that is read to its end.
use Rattle.std.specs.Prelude.{◌≡◌, ℕ, ◌+◌, ◌<◌, ◌≤◌, ◌↔◌, List, length, drop, Option, Result, Err, MatchResult, IfOk}
use Rattle.elim_ports.specs.declared.reading.ReadError.{ReadError}
use Rattle.elim_ports.specs.declared.reading.ReadError.TheVariants.{TooLong}
use Rattle.std.specs.Io.KnownBytes.{Consumes}

-- after the n bytes that a read gave, the slice is as it was; after an error all of it is
abbrev pub FillsFront : {E : Type 0} → Result ℕ E → List ℕ → List ℕ → Type 0
FillsFront r before after = MatchResult r (λ n. drop n after ≡ drop n before) (λ _. after ≡ before)

-- these bytes came from the front of the bytes that a source had left, at most one beyond the limit;
-- it was too long exactly where more than `limit` came, and an answer is all of them
pub record ReadsAll (before after : Option (List ℕ)) (result : Result (List ℕ) ReadError) (limit : ℕ) : Type 0 where
  pub came : List ℕ
  pub taken : Consumes before after came
  pub bounded : length came ≤ limit + 1
  pub too_long : (result ≡ Err TooLong) ↔ (limit < length came)
  pub answer : IfOk result (λ bytes. bytes ≡ came)
