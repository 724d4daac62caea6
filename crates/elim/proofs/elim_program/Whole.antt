-- A run that ends without an error has written a whole output.
use Rattle.std.specs.Prelude.{◌||◌, is_some}
use Rattle.std.proofs.lemmas.Bool.{true≢false}
use Rattle.std.proofs.Common.{◌≡◌, ◌≢◌, ℕ, ◌⊎◌, inl, inr, Bool, true, false, List, Option, Some, None, Result, Err, IfSome, refl, subst}
use Rattle.std.specs.Io.KnownBytes.{Appends}
use Rattle.elim.specs.declared.program_texts.status.Status.{Status}
use Rattle.elim.specs.declared.program_texts.status.Status.TheVariants.{Done, Refused, Usage, ReadFault, WriteFault, NoMemory}
use Rattle.elim.specs.program_texts.Lines.{text_of}
use Rattle.elim.specs.elim_program.DefinedOutputs.{IsOutput, refused_words}
use Rattle.elim.specs.elim_program.Outputs.{Output, usage}
use Rattle.elim.specs.elim_program.Runs.{Follows, IsWhole, Runs, Wrote, nothing, output}
use Rattle.elim.specs.program_texts.Words.{asked, asks_for_source, verify_asked, work_asked}
use Rattle.elim.proofs.elim_program.OutputInLine.{headline_of_front, verify_headline_of_front}
use Rattle.elim.proofs.elim_program.Following.{no_bytes, appends-nothing}

whole : (words : List (List ℕ)) (left before after : Option (List ℕ)) (status : Status) (bytes : List ℕ) → IfSome left (λ known. bytes ≡ known) → (out : Output) → IsOutput words bytes out →
    (f : Follows out before after status) → (f.text ≡ text_of out.lines) × (out.status ≡ status) → IsWhole words left before after status
whole words left before after status bytes known out is f says = record {
  bytes = bytes;
  known = known;
  out = out;
  is_output = is;
  appended = subst (λ text. Appends before after text) says.0 f.appended;
  status_is = says.1;
}

finished : (words : List (List ℕ)) (left before after : Option (List ℕ)) (status : Status) (bytes : List ℕ) → IfSome left (λ known. bytes ≡ known) → (out : Output) → IsOutput words bytes out →
    Follows out before after status → status ≢ WriteFault → status ≢ NoMemory → IsWhole words left before after status
finished words left before after Done bytes known out is f nw nm = whole words left before after Done bytes known out is f f.says
finished words left before after Refused bytes known out is f nw nm = whole words left before after Refused bytes known out is f f.says
finished words left before after Usage bytes known out is f nw nm = whole words left before after Usage bytes known out is f f.says
finished words left before after ReadFault bytes known out is f nw nm = absurd f.says
finished words left before after WriteFault bytes known out is f nw nm = absurd (nw refl)
finished words left before after NoMemory bytes known out is f nw nm = absurd (nm refl)

-- where nothing failed the output is whole
pub complete : (words : List (List ℕ)) (left before after : Option (List ℕ)) (status : Status) → Runs words left before after status
    → status ≢ ReadFault → status ≢ WriteFault → status ≢ NoMemory → IsWhole words left before after status
complete words left before after status r nr nw nm = go r.wrote
  where
    go : Wrote words r.bytes before after status → IsWhole words left before after status
    go (nothing a (inl e)) = absurd (nr e)
    go (nothing a (inr e)) = absurd (nm e)
    go (output out is f h v) = finished words left before after status r.bytes r.known out is f nw nm

-- a run that follows a defined output has the headline
pub follow : (words : List (List ℕ)) (bytes : List ℕ) (before after : Option (List ℕ)) (status : Status) (out : Output) → IsOutput words bytes out → Follows out before after status →
    Wrote words bytes before after status
follow words bytes before after status out is f = output out is f (headline_of_front words bytes f.text out is f.front) (verify_headline_of_front words bytes f.text out is f.front)

pub usage_runs : (words : List (List ℕ)) (left before after : Option (List ℕ)) (status : Status) → asked words ≡ None → verify_asked words ≡ None → work_asked words ≡ None → Follows usage before after status
    → Runs words left before after status
usage_runs words left before after status none neither other follows =
    let b = no_bytes left in record { bytes = b.0; known = b.1; wrote = follow words b.0 before after status usage (refused_words none neither other) follows }

-- a run that reads no bytes
pub unread_runs : (words : List (List ℕ)) (left before after : Option (List ℕ)) (status : Status) → ((bytes : List ℕ) → Wrote words bytes before after status) → Runs words left before after status
unread_runs words left before after status wrote = let b = no_bytes left in record { bytes = b.0; known = b.1; wrote = wrote b.0 }

not-first : (a b : Bool) → (a || b) ≡ false → a ≡ false
not-first true b e = e
not-first false b e = refl

not-second : (a b : Bool) → (a || b) ≡ false → b ≡ false
not-second true b e = absurd (true≢false e)
not-second false b e = e

none-of : {A : Type 0} (o : Option A) → is_some o ≡ false → o ≡ None
none-of None e = refl
none-of (Some a) e = absurd (true≢false e)

-- a run whose words are not accepted
pub unaccepted_runs : (words : List (List ℕ)) (left before after : Option (List ℕ)) (status : Status) → asks_for_source words ≡ false → work_asked words ≡ None → Follows usage before after status
    → Runs words left before after status
unaccepted_runs words left before after status refused other follows =
    let first = not-first (is_some (asked words)) (is_some (verify_asked words)) refused in
    let second = not-second (is_some (asked words)) (is_some (verify_asked words)) refused in
    usage_runs words left before after status (none-of (asked words) first) (none-of (verify_asked words) second) other follows

-- where the source is not read whole nothing is written
pub stopped_runs : (words : List (List ℕ)) (left before : Option (List ℕ)) (status : Status) (bytes : List ℕ) → IfSome left (λ known. bytes ≡ known)
    → (status ≡ ReadFault) ⊎ (status ≡ NoMemory) → Runs words left before before status
stopped_runs words left before status bytes known s = record { bytes = bytes; known = known; wrote = nothing (appends-nothing before) s }

abbrev pub ErrStatus : (A : Type 0) → Status → Result A Status
ErrStatus A status = Err status

pub stop_of : {A : Type 0} (status : Status) → (ErrStatus A status ≡ ErrStatus A ReadFault) ⊎ (ErrStatus A status ≡ ErrStatus A NoMemory)
    → (status ≡ ReadFault) ⊎ (status ≡ NoMemory)
stop_of {A} status (inl e) = inl (cc)
stop_of {A} status (inr e) = inr (cc)

pub not_write_fault : (status : Status) → (status ≡ ReadFault) ⊎ (status ≡ NoMemory) → status ≢ WriteFault
not_write_fault status (inl e) w = cc
not_write_fault status (inr e) w = cc
