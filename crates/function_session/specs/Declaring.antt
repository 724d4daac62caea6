-- A declaration of any form in a session, and the session after it.
use Rattle.std.specs.Prelude.{ℕ, Bool, List, [], Result, Ok, Err}
use Rattle.theory.specs.Prelude.{prelude}
use Rattle.theory.specs.Signatures.{Signature}
use Rattle.surface_syntax.specs.Trees as surf
use Rattle.elab_session.specs.declared.refusal.Refusal.{Refusal}
use Rattle.function_session.specs.Elaborating.{Elaborated, elaborate_of}
use Rattle.function_session.specs.Sessions.{Session}
use Rattle.function_session.specs.decisions.Declaring.{declare_decision, decisions_after}
use Rattle.function_session.specs.decisions.Entering.{draft_entered}
use Rattle.function_session.specs.function_lines.Opened.{draft_in}
use Rattle.function_session.specs.mutual_families.Declaring.{declare_mutual}
use Rattle.function_session.specs.declared.decisions.decision.Decision.{Decision}

-- A declaration that may spend `fuel` units, over a signature with these decisions.
abbrev pub declared_over : Signature → List Decision → (fuel : ℕ) → surf.Decl → Result Elaborated Refusal
declared_over S decisions fuel (surf.Decide x family into) = declare_decision draft_entered S decisions fuel x family into
declared_over S decisions fuel (surf.Mutual params members family tag tags) = declare_mutual draft_in S fuel (surf.Mutual params members family tag tags)
declared_over S decisions fuel d = elaborate_of S fuel d

-- the decisions once a declaration is accepted, and T is the signature with its entries
abbrev pub decisions_with : Signature → List Decision → surf.Decl → (T : Signature) → List Decision
decisions_with S decisions (surf.Decide x family into) T = decisions_after S decisions x family into T
decisions_with S decisions d T = decisions

-- the prelude, with axiom K or without
abbrev pub new_session : (k : Bool) → (fuel : ℕ) → Session
new_session k fuel = record { signature = prelude k; decisions = []; fuel = fuel }

-- the answer for a declaration
abbrev pub declared_in : Session → surf.Decl → Result Elaborated Refusal
declared_in s d = declared_over s.signature s.decisions s.fuel d

-- the session with a declaration that was accepted, and T is the signature with its entries
abbrev pub with_declared : Session → surf.Decl → (T : Signature) → Session
with_declared s d T = record { signature = T; decisions = decisions_with s.signature s.decisions d T; fuel = s.fuel }

-- the session after a declaration
abbrev pub session_after : Session → surf.Decl → Result Elaborated Refusal → Session
session_after s d (Ok a) = with_declared s d a.signature
session_after s d (Err e) = s
