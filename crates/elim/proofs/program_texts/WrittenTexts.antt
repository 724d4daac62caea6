-- Texts that are written one after the other.
use Rattle.std.proofs.Common.{◌≡◌, ℕ, List, ◌++◌, Result, Ok, Err, ap, ◌∙◌, append_assoc}
use Rattle.std.specs.Prelude.{OnOk}

pub on_both : {E : Type 0} (r : Result (Unit {0}) E) (before middle after x y whole : List ℕ) → middle ≡ before ++ x → OnOk r (after ≡ middle ++ y) → x ++ y ≡ whole
    → OnOk r (after ≡ before ++ whole)
on_both (Ok u) before middle after x y whole m a e = a ∙ ap (λ l. l ++ y) m ∙ append_assoc before x y ∙ ap (λ l. before ++ l) e
on_both (Err e) before middle after x y whole m a same = tt
