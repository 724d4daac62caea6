use Rattle.std.proofs.Common.{◌≡◌, ◌+◌, ◌-◌, ◌<◌, ◌≤◌, None, Ok, [], ◌∷◌, sym, subst as transport, arith}
use Rattle.std.proofs.lemmas.Bool.Decides.{nat_tests}
use Rattle.theory.specs.Terms.{height}
use Rattle.theory.specs.SignatureScopes.{IsScoped}
use Rattle.theory.proofs.ScopedTerms.{scoped_over_more}
use Rattle.kernel_reduce.specs.Reduction.{answered, normal_of}
use Rattle.kernel_reduce.specs.Steps.{step_of}
use Rattle.store_reduce.specs.Additions.{AddsOnly, IsFullOf}
use Rattle.store_reduce.specs.Formed.{IsNormalPart}
use Rattle.store_reduce.specs.Formers.{form_of}
use Rattle.store_reduce.specs.Runs.{RunsIn}
use Rattle.store_reduce.proofs.Adding.{adds-then}
use Rattle.store_reduce.proofs.HeadPairs.{leaf-normal, pair-normal_children}
use Rattle.store_reduce.proofs.NormalAdding.{head-adds, form-adds, form-full, first_child-adds, second_child-adds}
use Rattle.store_reduce.proofs.NormalPairs.{form-height, form-scoped, made-adds, made-full, makes-bounded_in, normal-goes, pair-children, pair-deep}
use Rattle.core_sig.proofs.StandingEntries.{stands-stay}
use Rattle.store_reduce.proofs.Ways.{reached-scoped}
use Rattle.store_reduce.proofs.normalising.+normal.Goals as goal

pub normalise_in-normal_children_in-requires : goal.normalise_in-normal_children_in-requires
normalise_in-normal_children_in-requires g t c =
    let old = g.S.TermStore.held c.args.store.now in
    let mid = g.S.TermStore.held c.head_form_in.new.store in
    λ κs h. (
      omega arith,
      (
        h.0,
        (
          h.1,
          (
            omega arith,
            (
              c.requires.signature,
              (
                stands-stay old mid c.in_ok-t.ensures.extends c.args.sig.now.entries c.args.ids.now c.requires.ids,
                (
                  c.in_ok-t.ensures.live,
                  (
                    scoped_over_more c.args.sig.now (3221225472 - c.args.room) _ (mid.tree c.in_ok-t.t) (omega arith)
                        (reached-scoped c.args.sig.now c.args.delta (3221225472 - c.args.room) (old.tree c.args.t) (mid.tree c.in_ok-t.t) c.requires.signature c.requires.scoped c.in_ok-t.ensures.reaches),
                    (c.in_ok-t.ensures.rests, c.in_ok-t.ensures.low),
                  ),
                ),
              ),
            ),
          ),
        ),
      ),
    )

pub normalise_in-returns-clause-answer : goal.normalise_in-returns-clause-answer
normalise_in-returns-clause-answer g t c =
    let old = g.S.TermStore.held c.args.store.now in
    let mid = g.S.TermStore.held c.head_form_in.new.store in
    transport (RunsIn (g.S.TermStore.held c.normal_children_in.new.store).tree c.normal_children_in.result c.normal_children_in.new.units.left)
    (normal-goes c.args.sig.now c.args.delta c.args.room (c.args.room - 1) (old.tree c.args.t) (mid.tree c.in_ok-t.t) c.args.units.now.left c.head_form_in.new.units.left (omega arith)
    c.in_ok-t.ensures.answer)
    c.normal_children_in.ensures.answer

pub normalise_in-returns-clause-adds : goal.normalise_in-returns-clause-adds
normalise_in-returns-clause-adds g t c =
    let old = g.S.TermStore.held c.args.store.now in
    let mid = g.S.TermStore.held c.head_form_in.new.store in
    let new = g.S.TermStore.held c.normal_children_in.new.store in
    adds-then (IsNormalPart c.args.sig.now c.args.delta (old.tree c.args.t ∷ [])) old mid new
    (head-adds c.args.sig.now c.args.delta old mid (old.tree c.args.t) c.in_ok-t.ensures.adds) c.normal_children_in.ensures.extends
    (form-adds c.args.sig.now c.args.delta mid new (old.tree c.args.t) (mid.tree c.in_ok-t.t) c.in_ok-t.ensures.reaches c.normal_children_in.ensures.adds)

pub normalise_in-returns-clause-full : goal.normalise_in-returns-clause-full
normalise_in-returns-clause-full g t c =
    let old = g.S.TermStore.held c.args.store.now in
    let mid = g.S.TermStore.held c.head_form_in.new.store in
    form-full c.args.sig.now c.args.delta (g.S.TermStore.held c.normal_children_in.new.store) c.normal_children_in.result (old.tree c.args.t) (mid.tree c.in_ok-t.t)
    c.in_ok-t.ensures.reaches c.normal_children_in.ensures.full

pub normal_children_in-normal_pair_in-requires : goal.normal_children_in-normal_pair_in-requires
normal_children_in-normal_pair_in-requires g t c =
    let old = g.S.TermStore.held c.args.store.now in
    let scopes =
    form-scoped c.args.sig.now (3221225472 - (c.args.room + 1)) c.in-Some.p.former (old.tree c.in-Some.p.first) (old.tree c.in-Some.p.second)
    (transport (IsScoped c.args.sig.now (3221225472 - (c.args.room + 1))) c.in-Some.ensures.is c.requires.scoped) in
    λ κs h. (
      omega arith,
      (
        h.0,
        (
          h.1,
          (
            c.requires.room,
            (
              c.requires.signature,
              (
                c.requires.ids,
                (
                  c.in-Some.ensures.first,
                  (
                    c.in-Some.ensures.second,
                    (
                      scoped_over_more c.args.sig.now _ _ (old.tree c.in-Some.p.first) (omega arith) scopes.0,
                      (
                        scoped_over_more c.args.sig.now _ _ (old.tree c.in-Some.p.second) (omega arith) scopes.1,
                        (
                          transport (λ x. step_of c.args.sig.now c.args.delta x ≡ None) c.in-Some.ensures.is c.requires.rests,
                          transport (λ x. height x ≤ 2000) c.in-Some.ensures.is c.requires.low,
                        ),
                      ),
                    ),
                  ),
                ),
              ),
            ),
          ),
        ),
      ),
    )

pub normal_children_in-returns-in-Some-clause-answer : goal.normal_children_in-returns-in-Some-clause-answer
normal_children_in-returns-in-Some-clause-answer g t c =
    let old = g.S.TermStore.held c.args.store.now in
    transport (RunsIn (g.S.TermStore.held c.normal_pair_in.new.store).tree c.normal_pair_in.result c.normal_pair_in.new.units.left)
    (pair-normal_children (normal_of c.args.sig.now c.args.delta c.args.room) c.in-Some.p.former (old.tree c.args.t) (old.tree c.in-Some.p.first) (old.tree c.in-Some.p.second) c.args.units.now.left c.in-Some.ensures.is)
    c.normal_pair_in.ensures.answer

pub normal_children_in-returns-in-Some-clause-adds : goal.normal_children_in-returns-in-Some-clause-adds
normal_children_in-returns-in-Some-clause-adds g t c =
    let old = g.S.TermStore.held c.args.store.now in
    transport (λ x. AddsOnly (IsNormalPart c.args.sig.now c.args.delta (x ∷ [])) old (g.S.TermStore.held c.normal_pair_in.new.store)) (sym c.in-Some.ensures.is) c.normal_pair_in.ensures.adds

pub normal_children_in-returns-in-Some-clause-full : goal.normal_children_in-returns-in-Some-clause-full
normal_children_in-returns-in-Some-clause-full g t c =
    let old = g.S.TermStore.held c.args.store.now in
    transport (λ x. IsFullOf (IsNormalPart c.args.sig.now c.args.delta (x ∷ [])) (g.S.TermStore.held c.normal_pair_in.new.store) c.normal_pair_in.result) (sym c.in-Some.ensures.is) c.normal_pair_in.ensures.full

pub normal_children_in-returns-in-None-clause-answer : goal.normal_children_in-returns-in-None-clause-answer
normal_children_in-returns-in-None-clause-answer g t c =
    let old = g.S.TermStore.held c.args.store.now in
    leaf-normal (normal_of c.args.sig.now c.args.delta c.args.room) (old.tree c.args.t) c.args.units.now.left (sym c.in-None.ensures.former)

pub normal_pair_in-normalise_in-requires-2 : goal.normal_pair_in-normalise_in-requires-2
normal_pair_in-normalise_in-requires-2 g t c =
    let old = g.S.TermStore.held c.args.store.now in
    let one = g.S.TermStore.held c.normalise_in.new.store in
    let ext = c.in_ok-a.ensures.extends in
    λ κs h. (
      omega arith,
      (
        h.0,
        (
          h.1,
          (
            omega arith,
            (
              c.requires.signature,
              (
                stands-stay old one ext c.args.sig.now.entries c.args.ids.now c.requires.ids,
                (
                  ext.lives c.args.b c.requires.b_live,
                  transport (IsScoped c.args.sig.now (3221225472 - c.args.room)) (sym (ext.trees c.args.b c.requires.b_live)) c.requires.b,
                ),
              ),
            ),
          ),
        ),
      ),
    )

pub normal_pair_in-returns-in_err-b-clause-adds : goal.normal_pair_in-returns-in_err-b-clause-adds
normal_pair_in-returns-in_err-b-clause-adds g t c =
    let old = g.S.TermStore.held c.args.store.now in
    let one = g.S.TermStore.held c.normalise_in.new.store in
    let two = g.S.TermStore.held c.normalise_in-2.new.store in
    let same : one.tree c.args.b ≡ old.tree c.args.b = c.in_ok-a.ensures.extends.trees c.args.b c.requires.b_live in
    adds-then (IsNormalPart c.args.sig.now c.args.delta (form_of c.args.former (old.tree c.args.a) (old.tree c.args.b) ∷ [])) old one two
    (first_child-adds c.args.sig.now c.args.delta c.args.former (old.tree c.args.a) (old.tree c.args.b) c.requires.rests old one c.in_ok-a.ensures.adds) c.in_err-b.ensures.extends
    (second_child-adds c.args.sig.now c.args.delta c.args.former (old.tree c.args.a) (old.tree c.args.b) c.requires.rests one two
    (transport (λ x. AddsOnly (IsNormalPart c.args.sig.now c.args.delta (x ∷ [])) one two) same c.in_err-b.ensures.adds))

pub normal_pair_in-returns-else-fits_in-clause-answer : goal.normal_pair_in-returns-else-fits_in-clause-answer
normal_pair_in-returns-else-fits_in-clause-answer g t c =
    let old = g.S.TermStore.held c.args.store.now in
    let one = g.S.TermStore.held c.normalise_in.new.store in
    let two = g.S.TermStore.held c.normalise_in-2.new.store in
    let same : one.tree c.args.b ≡ old.tree c.args.b = c.in_ok-a.ensures.extends.trees c.args.b c.requires.b_live in
    let same_a : one.tree c.in_ok-a.a ≡ two.tree c.in_ok-a.a = sym (c.in_ok-b.ensures.extends.trees c.in_ok-a.a c.in_ok-a.ensures.live) in
    let e : answered (Ok (two.tree c.in_ok-a.a)) c.normalise_in.new.units.left ≡ normal_of c.args.sig.now c.args.delta c.args.room (old.tree c.args.a) c.args.units.now.left =
    transport (λ x. answered (Ok x) c.normalise_in.new.units.left ≡ normal_of c.args.sig.now c.args.delta c.args.room (old.tree c.args.a) c.args.units.now.left) same_a c.in_ok-a.ensures.answer in
    let f : answered (Ok (two.tree c.in_ok-b.b)) c.normalise_in-2.new.units.left ≡ normal_of c.args.sig.now c.args.delta c.args.room (old.tree c.args.b) c.normalise_in.new.units.left =
    transport (λ x. answered (Ok (two.tree c.in_ok-b.b)) c.normalise_in-2.new.units.left ≡ normal_of c.args.sig.now c.args.delta c.args.room x c.normalise_in.new.units.left) same c.in_ok-b.ensures.answer in
    let high : 2000 < height (form_of c.args.former (two.tree c.in_ok-a.a) (two.tree c.in_ok-b.b)) = let h = form-height c.args.former (two.tree c.in_ok-a.a) (two.tree c.in_ok-b.b) in let k = sym c.if-fits_in.ensures in grind (arith, nat_tests, h, k) in
    λ no_memory no_room.
    pair-deep (form_of c.args.former) (normal_of c.args.sig.now c.args.delta c.args.room (old.tree c.args.a)) (normal_of c.args.sig.now c.args.delta c.args.room (old.tree c.args.b))
    c.args.units.now.left c.normalise_in.new.units.left c.normalise_in-2.new.units.left (two.tree c.in_ok-a.a) (two.tree c.in_ok-b.b) e f high

pub normal_pair_in-returns-else-fits_in-clause-adds : goal.normal_pair_in-returns-else-fits_in-clause-adds
normal_pair_in-returns-else-fits_in-clause-adds g t c =
    let old = g.S.TermStore.held c.args.store.now in
    let one = g.S.TermStore.held c.normalise_in.new.store in
    let two = g.S.TermStore.held c.normalise_in-2.new.store in
    let same : one.tree c.args.b ≡ old.tree c.args.b = c.in_ok-a.ensures.extends.trees c.args.b c.requires.b_live in
    adds-then (IsNormalPart c.args.sig.now c.args.delta (form_of c.args.former (old.tree c.args.a) (old.tree c.args.b) ∷ [])) old one two
    (first_child-adds c.args.sig.now c.args.delta c.args.former (old.tree c.args.a) (old.tree c.args.b) c.requires.rests old one c.in_ok-a.ensures.adds) c.in_ok-b.ensures.extends
    (second_child-adds c.args.sig.now c.args.delta c.args.former (old.tree c.args.a) (old.tree c.args.b) c.requires.rests one two
    (transport (λ x. AddsOnly (IsNormalPart c.args.sig.now c.args.delta (x ∷ [])) one two) same c.in_ok-b.ensures.adds))

pub normal_pair_in-returns-then-fits_in-clause-answer : goal.normal_pair_in-returns-then-fits_in-clause-answer
normal_pair_in-returns-then-fits_in-clause-answer g t c =
    let old = g.S.TermStore.held c.args.store.now in
    let one = g.S.TermStore.held c.normalise_in.new.store in
    let two = g.S.TermStore.held c.normalise_in-2.new.store in
    let same : one.tree c.args.b ≡ old.tree c.args.b = c.in_ok-a.ensures.extends.trees c.args.b c.requires.b_live in
    let new = g.S.TermStore.held c.make_of.new.store in
    let same_a : one.tree c.in_ok-a.a ≡ two.tree c.in_ok-a.a = sym (c.in_ok-b.ensures.extends.trees c.in_ok-a.a c.in_ok-a.ensures.live) in
    let e : answered (Ok (two.tree c.in_ok-a.a)) c.normalise_in.new.units.left ≡ normal_of c.args.sig.now c.args.delta c.args.room (old.tree c.args.a) c.args.units.now.left =
    transport (λ x. answered (Ok x) c.normalise_in.new.units.left ≡ normal_of c.args.sig.now c.args.delta c.args.room (old.tree c.args.a) c.args.units.now.left) same_a c.in_ok-a.ensures.answer in
    let f : answered (Ok (two.tree c.in_ok-b.b)) c.normalise_in-2.new.units.left ≡ normal_of c.args.sig.now c.args.delta c.args.room (old.tree c.args.b) c.normalise_in.new.units.left =
    transport (λ x. answered (Ok (two.tree c.in_ok-b.b)) c.normalise_in-2.new.units.left ≡ normal_of c.args.sig.now c.args.delta c.args.room x c.normalise_in.new.units.left) same c.in_ok-b.ensures.answer in
    let fits : height (form_of c.args.former (two.tree c.in_ok-a.a) (two.tree c.in_ok-b.b)) ≤ 2000 = let h = form-height c.args.former (two.tree c.in_ok-a.a) (two.tree c.in_ok-b.b) in let k = sym c.if-fits_in.ensures in grind (arith, nat_tests, h, k) in
    transport (RunsIn new.tree c.make_of.result c.normalise_in-2.new.units.left)
    (sym (pair-children (form_of c.args.former) (normal_of c.args.sig.now c.args.delta c.args.room (old.tree c.args.a)) (normal_of c.args.sig.now c.args.delta c.args.room (old.tree c.args.b))
    c.args.units.now.left c.normalise_in.new.units.left c.normalise_in-2.new.units.left (two.tree c.in_ok-a.a) (two.tree c.in_ok-b.b) e f))
    (makes-bounded_in new c.make_of.result (form_of c.args.former (two.tree c.in_ok-a.a) (two.tree c.in_ok-b.b)) c.normalise_in-2.new.units.left fits c.make_of.ensures.makes)

pub normal_pair_in-returns-then-fits_in-clause-adds : goal.normal_pair_in-returns-then-fits_in-clause-adds
normal_pair_in-returns-then-fits_in-clause-adds g t c =
    let old = g.S.TermStore.held c.args.store.now in
    let one = g.S.TermStore.held c.normalise_in.new.store in
    let two = g.S.TermStore.held c.normalise_in-2.new.store in
    let same : one.tree c.args.b ≡ old.tree c.args.b = c.in_ok-a.ensures.extends.trees c.args.b c.requires.b_live in
    let new = g.S.TermStore.held c.make_of.new.store in
    let same_a : one.tree c.in_ok-a.a ≡ two.tree c.in_ok-a.a = sym (c.in_ok-b.ensures.extends.trees c.in_ok-a.a c.in_ok-a.ensures.live) in
    let e : answered (Ok (two.tree c.in_ok-a.a)) c.normalise_in.new.units.left ≡ normal_of c.args.sig.now c.args.delta c.args.room (old.tree c.args.a) c.args.units.now.left =
    transport (λ x. answered (Ok x) c.normalise_in.new.units.left ≡ normal_of c.args.sig.now c.args.delta c.args.room (old.tree c.args.a) c.args.units.now.left) same_a c.in_ok-a.ensures.answer in
    let f : answered (Ok (two.tree c.in_ok-b.b)) c.normalise_in-2.new.units.left ≡ normal_of c.args.sig.now c.args.delta c.args.room (old.tree c.args.b) c.normalise_in.new.units.left =
    transport (λ x. answered (Ok (two.tree c.in_ok-b.b)) c.normalise_in-2.new.units.left ≡ normal_of c.args.sig.now c.args.delta c.args.room x c.normalise_in.new.units.left) same c.in_ok-b.ensures.answer in
    let fits : height (form_of c.args.former (two.tree c.in_ok-a.a) (two.tree c.in_ok-b.b)) ≤ 2000 = let h = form-height c.args.former (two.tree c.in_ok-a.a) (two.tree c.in_ok-b.b) in let k = sym c.if-fits_in.ensures in grind (arith, nat_tests, h, k) in
    let before =
    adds-then (IsNormalPart c.args.sig.now c.args.delta (form_of c.args.former (old.tree c.args.a) (old.tree c.args.b) ∷ [])) old one two
    (first_child-adds c.args.sig.now c.args.delta c.args.former (old.tree c.args.a) (old.tree c.args.b) c.requires.rests old one c.in_ok-a.ensures.adds) c.in_ok-b.ensures.extends
    (second_child-adds c.args.sig.now c.args.delta c.args.former (old.tree c.args.a) (old.tree c.args.b) c.requires.rests one two
    (transport (λ x. AddsOnly (IsNormalPart c.args.sig.now c.args.delta (x ∷ [])) one two) same c.in_ok-b.ensures.adds)) in
    adds-then (IsNormalPart c.args.sig.now c.args.delta (form_of c.args.former (old.tree c.args.a) (old.tree c.args.b) ∷ [])) old two new before c.make_of.ensures.extends
    (made-adds c.args.sig.now c.args.delta c.args.room c.args.former (old.tree c.args.a) (old.tree c.args.b) c.requires.rests c.requires.low
    c.args.units.now.left c.normalise_in.new.units.left c.normalise_in-2.new.units.left (two.tree c.in_ok-a.a) (two.tree c.in_ok-b.b) e f fits two new c.make_of.ensures.adds)

pub normal_pair_in-returns-then-fits_in-clause-full : goal.normal_pair_in-returns-then-fits_in-clause-full
normal_pair_in-returns-then-fits_in-clause-full g t c =
    let old = g.S.TermStore.held c.args.store.now in
    let one = g.S.TermStore.held c.normalise_in.new.store in
    let two = g.S.TermStore.held c.normalise_in-2.new.store in
    let same : one.tree c.args.b ≡ old.tree c.args.b = c.in_ok-a.ensures.extends.trees c.args.b c.requires.b_live in
    let new = g.S.TermStore.held c.make_of.new.store in
    let same_a : one.tree c.in_ok-a.a ≡ two.tree c.in_ok-a.a = sym (c.in_ok-b.ensures.extends.trees c.in_ok-a.a c.in_ok-a.ensures.live) in
    let e : answered (Ok (two.tree c.in_ok-a.a)) c.normalise_in.new.units.left ≡ normal_of c.args.sig.now c.args.delta c.args.room (old.tree c.args.a) c.args.units.now.left =
    transport (λ x. answered (Ok x) c.normalise_in.new.units.left ≡ normal_of c.args.sig.now c.args.delta c.args.room (old.tree c.args.a) c.args.units.now.left) same_a c.in_ok-a.ensures.answer in
    let f : answered (Ok (two.tree c.in_ok-b.b)) c.normalise_in-2.new.units.left ≡ normal_of c.args.sig.now c.args.delta c.args.room (old.tree c.args.b) c.normalise_in.new.units.left =
    transport (λ x. answered (Ok (two.tree c.in_ok-b.b)) c.normalise_in-2.new.units.left ≡ normal_of c.args.sig.now c.args.delta c.args.room x c.normalise_in.new.units.left) same c.in_ok-b.ensures.answer in
    let fits : height (form_of c.args.former (two.tree c.in_ok-a.a) (two.tree c.in_ok-b.b)) ≤ 2000 = let h = form-height c.args.former (two.tree c.in_ok-a.a) (two.tree c.in_ok-b.b) in let k = sym c.if-fits_in.ensures in grind (arith, nat_tests, h, k) in
    made-full c.args.sig.now c.args.delta c.args.room c.args.former (old.tree c.args.a) (old.tree c.args.b) c.requires.rests c.requires.low
    c.args.units.now.left c.normalise_in.new.units.left c.normalise_in-2.new.units.left (two.tree c.in_ok-a.a) (two.tree c.in_ok-b.b) e f fits new c.make_of.result c.make_of.ensures.full
