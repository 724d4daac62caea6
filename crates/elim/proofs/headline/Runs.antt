-- The output of a run has the full headline.
use Rattle.std.specs.Prelude.{ℕ, List, Option}
use Rattle.elim.specs.declared.program_texts.status.Status.{Status}
use Rattle.elim.specs.elim_program.Runs as old
use Rattle.elim.specs.elim_program.Runs.{Runs, Wrote}
use Rattle.elim.specs.headline.FullHeadline.{FullHeadline}
use Rattle.elim.specs.headline.Runs.{HasRun, HasWritten, nothing, output}

has-written : FullHeadline → (words : List (List ℕ)) (bytes : List ℕ) (before after : Option (List ℕ)) (status : Status)
    → Wrote words bytes before after status → HasWritten words bytes before after status
has-written full words bytes before after status (old.nothing appended stopped) = nothing appended stopped
has-written full words bytes before after status (old.output out is follows shown verified) =
    output out is follows (full words bytes out is follows.text follows.front.0 follows.front.1) verified

pub has-run : FullHeadline → (words : List (List ℕ)) (left before after : Option (List ℕ)) (status : Status)
    → Runs words left before after status → HasRun words left before after status
has-run full words left before after status r = record {
  bytes = r.bytes;
  known = r.known;
  written = has-written full words r.bytes before after status r.wrote;
}
