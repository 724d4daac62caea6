-- Bytes that grow at their end.
use Rattle.std.proofs.Common.{append_assoc}

pub ruleset numerals = (append_assoc)
