use Rattle.std.proofs.Common.{rules, ◌≡◌, ◌*◌, Ok, length, ◌-◌, sym, subst}
use Rattle.std.proofs.lemmas.List.{length-map}
use Rattle.core_terms.specs.Answers.{Gives}
use Rattle.core_terms.specs.Meanings.{tree_of, tele_of}
use Rattle.theory.specs.Terms.{Term}
use Rattle.tele_eq.specs.CodeEnvironments.{IsSmallGoal, equations_of, environment_of, left_of, levels_of_goal, proofs_of, variables_of}
use Rattle.tele_eq.specs.Dependences.{dependences}
use Rattle.tele_eq.specs.Environments.{outside}
use Rattle.tele_eq.specs.Items.{item_of, items_of, positions_of}
use Rattle.tele_eq.specs.declared.sides.Goal.{Goal}
use Rattle.tele_eq.proofs.Calls.{congruence_below-step, goal-of_map, left_below-step, room-rest, up_to-rest}
use Rattle.tele_eq.proofs.telescopic.+elimination.Goals as goal

pub congruence_below-returns : goal.congruence_below-returns
congruence_below-returns t c =
    let P : Term → Type 0 = λ x. Gives tree_of c.telescopic_j.result (Ok x) in
    let u = outside (tele_of c.args.map.left.now) in
    let X = items_of c.args.map.from.now in
    let is : c.as_slice-positions.result.now ≡ positions_of X = cc (c.in_ok-positions.ensures.is) in
    subst P
    (sym (congruence_below-step c.args.n X (items_of c.args.map.to.now) (tele_of c.args.map.terms.now) u
    (variables_of u c.args.sides) (proofs_of X u c.args.sides) c.args.depth c.args.j (length c.args.map.from.now)
    c.common_level-m.result c.as_slice-positions.result.now c.if-n-eq0.false (sym (length-map c.args.map.from.now item_of))
    c.common_level-m.ensures is))
    c.telescopic_j.ensures

pub goal_term-returns-in-Congruence : goal.goal_term-returns-in-Congruence
goal_term-returns-in-Congruence t c =
    let X = items_of c.args.tele.now in
    let u = left_of c.args.left in
    let P : Term → Type 0 = λ x. Gives tree_of c.equation.result (Ok x) in
    let Q : Goal → Type 0 = λ g. IsSmallGoal X u g in
    let small = subst Q c.in-Congruence.is c.requires.goal in
    rw c.in-Congruence.is
    (subst P
    (sym (goal-of_map X u c.in-Congruence.map c.in-Congruence.c c.in-Congruence.j c.args.sides c.args.depth
    (length c.in-Congruence.map.to.now) small.3 small.4 (sym (length-map c.in-Congruence.map.to.now item_of))))
    c.equation.ensures)

pub left_below-returns : goal.left_below-returns
left_below-returns t c =
    let P : Term → Type 0 = λ x. Gives tree_of c.transported.result (Ok x) in
    let X = items_of c.args.tele.now in
    let u = left_of c.args.left in
    let is : dependences X c.args.j ≡ c.as_slice.result.now = cc (c.in_ok-positions.ensures.is) in
    subst P
    (sym (left_below-step c.args.n X u c.as_slice.result.now c.args.j (environment_of u c.args.pairs) (equations_of X u c.args.pairs)
    c.args.depth c.if-n-eq0.false is c.in_default.len_at_least))
    c.transported.ensures

pub telescopic_j-telescopic_j-requires : goal.telescopic_j-telescopic_j-requires
telescopic_j-telescopic_j-requires t c =
    let positions = c.args.positions.now in (
      search rules,
      (
        c.requires.items,
        (
          c.requires.left,
          (
            c.requires.goal,
            (
              search rules,
              (
                c.requires.n,
                (
                  search rules,
                  (
                    up_to-rest 1000 (length positions - 1) positions c.requires.low,
                    (
                      search rules,
                      (
                        room-rest positions c.args.depth (c.args.n * 1010000) c.in-len1-up.len_at_least c.requires.room,
                        room-rest positions c.args.depth (levels_of_goal c.args.n c.args.goal * 1010000) c.in-len1-up.len_at_least c.requires.goal_room,
                      ),
                    ),
                  ),
                ),
              ),
            ),
          ),
        ),
      ),
    )
