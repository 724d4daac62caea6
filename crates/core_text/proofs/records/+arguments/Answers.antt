use Rattle.core_sig.specs.Meanings.{family_of}
use Rattle.core_text.proofs.RecordTexts.{kinds-on, on-ok}
use Rattle.core_text.proofs.records.+arguments.Goals as goal

pub returns-in_ok-push-in-Pi-clause-kinds : goal.returns-in_ok-push-in-Pi-clause-kinds
returns-in_ok-push-in-Pi-clause-kinds t c =
    on-ok c.arguments.result
    (λ more kinds. more (kinds-on c.args.family (family_of c.args.f.now) c.args.args.now c.as_slice.result.now c.push.new.self _ c.as_slice.ensures c.in_ok-push-in-Pi.ensures.ok kinds c.in_ok-kind-in-Pi.ensures.ok))
    c.arguments.ensures.kinds
