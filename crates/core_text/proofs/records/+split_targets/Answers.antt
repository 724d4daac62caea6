use Rattle.std.proofs.Common.{◌≡◌, refl}
use Rattle.core_terms.specs.Meanings.{tree_of}
use Rattle.theory.specs.Terms.Term.{App}
use Rattle.core_text.proofs.RecordTexts.{targets-on}
use Rattle.core_text.proofs.records.+split_targets.Goals as goal

pub returns-in_ok-push-in-App-clause-whole : goal.returns-in_ok-push-in-App-clause-whole
returns-in_ok-push-in-App-clause-whole t c =
    let last : App (tree_of c.into_inner.result) (tree_of c.into_inner-in-App.result) ≡ tree_of c.args.t = rw (c.into_inner.ensures, c.into_inner-in-App.ensures, c.in-App.is) refl in
    targets-on (tree_of c.in_ok-head-in-App.head) c.in_ok-head-in-App.targets.items c.push.new.self.items c.into_inner-in-App.result (tree_of c.into_inner.result) (tree_of c.args.t) c.in_ok-push-in-App.ensures.items c.in_ok-head-in-App.ensures.whole last
