use Rattle.std.proofs.Common.{◌≡◌, ◌+◌, ◌<◌, drop, length, sym, ap, ◌∙◌, arith}
use Rattle.std.proofs.lemmas.List.{drop-drop, length-drop}
use Rattle.core_text.specs.NameRuns.{run_len, name_char_len}
use Rattle.core_text.proofs.RunSteps.{run_more}
use Rattle.core_text.proofs.runs.run_len.Goals as goal

pub loop-len-preserved : goal.loop-len-preserved
loop-len-preserved c =
    let bytes = c.args.bytes.now in
    let at = c.loop-len.len in
    let n = c.name_char_len-more.result in
    let some : 0 < n = omega arith in
    let step : run_len (drop at bytes) ≡ n + run_len (drop n (drop at bytes)) = run_more (drop at bytes) n (ap name_char_len (sym c.skip.ensures) ∙ sym c.name_char_len-more.ensures.value) some in
    let whole : run_len (drop at bytes) ≡ n + run_len (drop (at + n) bytes) = step ∙ ap (λ r. n + run_len r) (drop-drop n at bytes) in
    (omega (arith, ap length c.skip.ensures, length-drop at bytes), omega (arith, c.loop-len.invariant.1, whole))
