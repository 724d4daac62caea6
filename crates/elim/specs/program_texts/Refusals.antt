-- The lines of refusals.
use Rattle.std.specs.Prelude.{ℕ, ◌<◌, length, List, [], ◌∷◌, ◌++◌, codes, decimal, Option, Some, None}
use Rattle.unification.specs.declared.why.Why.{Why}
use Rattle.unification.specs.declared.why.Why.TheVariants.{NeedsK, NotRigid, OccursNotRigid, Depends, NeedsIndexEquations}
use Rattle.elab_session.specs.declared.refusal.FailingCall.{FailingCall}
use Rattle.elab_session.specs.declared.refusal.PartName.{PartName}
use Rattle.elab_session.specs.declared.refusal.PartName.TheVariants.{Ty, Body, Param, Con, Dot, Side, With, Goal}
use Rattle.elab_session.specs.declared.refusal.Refusal.{Refusal}
use Rattle.elab_session.specs.declared.refusal.Refusal.TheVariants as refusal
use Rattle.elim.specs.declared.program_texts.text_stop.TextStop.{TextStop}
use Rattle.elim.specs.declared.program_texts.text_stop.TextStop.TheVariants as stop

-- Why a source file is refused at one of its bytes, or whole. `Memory` has a text here and below, so that no reason is empty; a run
-- that is out of memory ends with the status `NoMemory` and does not write it.
abbrev pub stop_text : TextStop → List ℕ
stop_text stop.Memory = codes "Memory"
stop_text stop.TooLong = codes "TooLong 1048576"
stop_text (stop.NotUtf8 offset) = codes "NotUtf8 " ++ decimal offset
stop_text (stop.BadToken offset) = codes "BadToken " ++ decimal offset
stop_text (stop.Nested offset) = codes "Nested " ++ decimal offset
stop_text (stop.Syntax offset) = codes "Syntax " ++ decimal offset
stop_text (stop.NotCoreText offset) = codes "NotCoreText " ++ decimal offset

-- no source file is refused without a reason
abbrev pub StopsHaveReasons : Type 0
StopsHaveReasons = (e : TextStop) → 0 < length (stop_text e)

abbrev pub stop_line : TextStop → List ℕ
stop_line e = codes "# refused " ++ stop_text e

-- child numbers joined by dots, or `-` for the root
abbrev pub place_text : List ℕ → List ℕ
place_text [] = codes "-"
place_text (n ∷ []) = decimal n
place_text (n ∷ m ∷ place) = decimal n ++ codes "." ++ place_text (m ∷ place)

-- a function or helper, and the number of its clause
abbrev pub clause_text : (function : List ℕ) (clause : ℕ) → List ℕ
clause_text function clause = function ++ codes " " ++ decimal clause

-- a written part
abbrev pub part_text : PartName → List ℕ
part_text Ty = codes "type"
part_text Body = codes "body"
part_text (Param k) = codes "param " ++ decimal k
part_text (Con name) = codes "con " ++ name
part_text (Dot function clause) = codes "dot " ++ clause_text function clause
part_text (Side function clause) = codes "side " ++ clause_text function clause
part_text (With function clause) = codes "with " ++ clause_text function clause
part_text (Goal function clause) = codes "goal " ++ clause_text function clause

-- the constructor whose argument is too large, or `-` for an index
abbrev pub owner_text : Option (List ℕ) → List ℕ
owner_text (Some name) = name
owner_text None = codes "-"

-- where and why the checker rejects something
abbrev pub denial_text : (place context reason : List ℕ) → List ℕ
denial_text place context reason = place_text place ++ codes " " ++ context ++ codes " " ++ reason

-- why unification does not go on
abbrev pub why_text : Why → List ℕ
why_text NeedsK = codes "NeedsK"
why_text NotRigid = codes "NotRigid"
why_text OccursNotRigid = codes "OccursNotRigid"
why_text Depends = codes "Depends"
why_text NeedsIndexEquations = codes "NeedsIndexEquations"

-- two sides that are not the same
abbrev pub sides_text : (context left right : List ℕ) → List ℕ
sides_text context left right = context ++ codes " " ++ left ++ codes " = " ++ right

-- positions, each after a space
abbrev pub positions_text : List ℕ → List ℕ
positions_text [] = []
positions_text (n ∷ positions) = codes " " ++ decimal n ++ positions_text positions

-- positions, and the first call that does not fit them
abbrev pub failing_call_text : FailingCall → List ℕ
failing_call_text c = positions_text c.positions ++ codes " " ++ clause_text c.function c.clause ++ codes " " ++ c.call

abbrev pub failing_calls_text : List FailingCall → List ℕ
failing_calls_text [] = []
failing_calls_text (c ∷ calls) = failing_call_text c ++ failing_calls_text calls

-- Why a walk or a case tree of a function ends; other refusals have no such text. In a list of terms a space precedes each.
abbrev pub ended_text : Refusal → List ℕ
ended_text (refusal.WrongConstructor function clause ctx ty) =
    codes "WrongConstructor " ++ clause_text function clause ++ codes " " ++ ctx ++ codes " " ++ ty
ended_text (refusal.Stuck function clause ctx left right why) =
    codes "Stuck " ++ clause_text function clause ++ codes " " ++ sides_text ctx left right ++ codes " " ++ why_text why
ended_text (refusal.Uncovered function ctx terms) = codes "Uncovered " ++ function ++ codes " " ++ ctx ++ terms
ended_text (refusal.NotAbsurd function clause con) = codes "NotAbsurd " ++ clause_text function clause ++ codes " " ++ con
ended_text (refusal.Impossible function clause ctx left right) =
    codes "Impossible " ++ clause_text function clause ++ codes " " ++ sides_text ctx left right
ended_text (refusal.DotMismatch function clause ctx written forced) =
    codes "DotMismatch " ++ clause_text function clause ++ codes " " ++ ctx ++ codes " " ++ written ++ codes " forced " ++ forced
ended_text e = []

-- why a function is refused, for a reason that only functions have; other refusals have no such text
abbrev pub function_text : Refusal → List ℕ
function_text (refusal.SelfInType function clause) = codes "SelfInType " ++ clause_text function clause
function_text (refusal.NotSmaller calls) = codes "NotSmaller" ++ failing_calls_text calls
function_text (refusal.Rejected entry line place ctx reason) = codes "Rejected " ++ entry ++ codes " " ++ denial_text place ctx reason
function_text e = ended_text e

-- why families that refer to each other are refused, or a function; other refusals have no such text
abbrev pub mutual_text : Refusal → List ℕ
mutual_text (refusal.TagCount count) = codes "TagCount " ++ decimal count
mutual_text (refusal.MemberLevel k) = codes "MemberLevel " ++ decimal k
mutual_text (refusal.Unequal member con ctx left right) =
    codes "Unequal " ++ member ++ codes " " ++ con ++ codes " " ++ sides_text ctx left right
mutual_text e = function_text e

-- why a decision of equality is refused, families that refer to each other, or a function; other refusals have no such text
abbrev pub undecided_text : Refusal → List ℕ
undecided_text (refusal.NotPlainFamily word) = codes "NotPlainFamily " ++ word
undecided_text (refusal.NotDecision word) = codes "NotDecision " ++ word
undecided_text (refusal.NotFirstOrder name k) = codes "NotFirstOrder " ++ name ++ codes " " ++ decimal k
undecided_text e = mutual_text e

-- why a declaration is refused
abbrev pub refusal_text : Refusal → List ℕ
refusal_text refusal.Memory = codes "Memory"
refusal_text (refusal.Fuel units) = codes "Fuel " ++ decimal units
refusal_text refusal.Deep = codes "Deep"
refusal_text (refusal.UnknownName offset word) = codes "UnknownName " ++ decimal offset ++ codes " " ++ word
refusal_text (refusal.Duplicate offset word) = codes "Duplicate " ++ decimal offset ++ codes " " ++ word
refusal_text (refusal.WrongArity offset word) = codes "WrongArity " ++ decimal offset ++ codes " " ++ word
refusal_text (refusal.NotLinear offset word) = codes "NotLinear " ++ decimal offset ++ codes " " ++ word
refusal_text refusal.BadFamily = codes "BadFamily"
refusal_text (refusal.NotPositive name k) = codes "NotPositive " ++ name ++ codes " " ++ decimal k
refusal_text (refusal.IndexTooLarge owner k) = codes "IndexTooLarge " ++ owner_text owner ++ codes " " ++ decimal k
refusal_text (refusal.IllTyped part place ctx reason) = codes "IllTyped " ++ part_text part ++ codes " " ++ denial_text place ctx reason
refusal_text e = undecided_text e

-- the line of a declaration that is refused
abbrev pub refusal_line : List ℕ → Refusal → List ℕ
refusal_line name e = codes "# refused " ++ name ++ codes " " ++ refusal_text e

-- the core line of an entry that the checker rejects
abbrev pub candidate_of : Refusal → Option (List ℕ)
candidate_of (refusal.Rejected entry line place ctx reason) = Some line
candidate_of e = None

abbrev pub candidate_lines : Option (List ℕ) → List (List ℕ)
candidate_lines (Some line) = (codes "# candidate " ++ line) ∷ []
candidate_lines None = []

-- the lines of what is refused under a name
abbrev pub refused_lines : (name : List ℕ) → Refusal → List (List ℕ)
refused_lines name e = candidate_lines (candidate_of e) ++ refusal_line name e ∷ []
