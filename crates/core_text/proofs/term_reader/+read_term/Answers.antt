use Rattle.std.proofs.Common.{rules, ◌≡◌, ◌-◌, true, false, ap, sym, subst, ◌∙◌, arith}
use Rattle.std.specs.Prelude.{◌==◌}
use Rattle.std.proofs.lemmas.Bool.Decides.{nat_tests}
use Rattle.core_terms.specs.Low.{low_of}
use Rattle.core_terms.specs.Meanings.{tree_of}
use Rattle.core_text.specs.Reading.{Reads, first}
use Rattle.core_text.specs.Scopes.{look_of}
use Rattle.core_text.specs.TermReading.{is_application, read_term, arguments_from, enclosed_at}
use Rattle.core_text.proofs.TermSteps.{term_open, term_named, arguments_step, arguments_more, arguments_end, arguments_none, after_arrow, after_application, after_head}
use Rattle.core_text.proofs.term_reader.+read_term.Goals as goal

pub read_arguments-returns-in_err-longer : goal.read_arguments-returns-in_err-longer
read_arguments-returns-in_err-longer t c =
    let inner = read_term (look_of c.args.scope.now) c.args.room in
    let step = arguments_step inner c.arguments.more (tree_of c.arguments.whole.term) c.args.under c.arguments.rest.now (omega arith) in
    subst (λ m. Reads low_of c.from_residual.result m) (step ∙ c.arguments.invariant) (search rules)

pub read_arguments-returns-then-first-ne32 : goal.read_arguments-returns-then-first-ne32
read_arguments-returns-then-first-ne32 t c =
    let inner = read_term (look_of c.args.scope.now) c.args.room in
    let other : (first c.in_ok-longer.end.now == 32) ≡ false = grind (arith, nat_tests) in
    let step = arguments_end inner c.arguments.more (tree_of c.arguments.whole.term) c.args.under c.arguments.rest.now _ _ (omega arith) c.in_ok-longer.ensures other in
    subst (λ m. Reads low_of c.close.result m) (step ∙ c.arguments.invariant) c.close.ensures

pub read_arguments-arguments-preserved : goal.read_arguments-arguments-preserved
read_arguments-arguments-preserved t c =
    let inner = read_term (look_of c.args.scope.now) c.args.room in
    let space : (first c.in_ok-longer.end.now == 32) ≡ true = grind (arith, nat_tests) in
    let step = arguments_more inner c.arguments.more (tree_of c.arguments.whole.term) c.args.under c.arguments.rest.now _ _ (omega arith) c.in_ok-longer.ensures space in
    ap (λ r. arguments_from inner (c.arguments.more - 1) (tree_of c.in_ok-longer.longer.term) c.args.under r) c.skip-rest.ensures
    ∙ (step ∙ c.arguments.invariant)

pub read_arguments-returns : goal.read_arguments-returns
read_arguments-returns t c not_memory =
    let inner = read_term (look_of c.args.scope.now) c.args.room in
    arguments_none inner c.arguments.more (tree_of c.arguments.whole.term) c.args.under c.arguments.rest.now (omega arith) ∙ c.arguments.invariant

pub read_after_first-returns-then-first-eq45 : goal.read_after_first-returns-then-first-eq45
read_after_first-returns-then-first-eq45 t c =
    let inner = read_term (look_of c.args.scope.now) c.args.room in
    let arrow : (first c.in_ok-rest.rest.now == 45) ≡ true = grind (arith, nat_tests) in
    let step = after_arrow inner (tree_of c.args.head.term) c.args.under c.args.rest.now c.in_ok-rest.rest.now c.in_ok-rest.ensures arrow in
    subst (λ m. Reads low_of c.read_product.result m) step c.read_product.ensures

pub read_after_first-returns-then-is_application : goal.read_after_first-returns-then-is_application
read_after_first-returns-then-is_application t c not_memory =
    let inner = read_term (look_of c.args.scope.now) c.args.room in
    let other : (first c.in_ok-rest.rest.now == 45) ≡ false = grind (arith, nat_tests) in
    let application : is_application (tree_of c.args.head.term) ≡ true = search rules in
    after_application inner (tree_of c.args.head.term) c.args.under c.args.rest.now c.in_ok-rest.rest.now c.in_ok-rest.ensures other application

pub read_after_first-returns : goal.read_after_first-returns
read_after_first-returns t c =
    let inner = read_term (look_of c.args.scope.now) c.args.room in
    let other : (first c.in_ok-rest.rest.now == 45) ≡ false = grind (arith, nat_tests) in
    let head : is_application (tree_of c.args.head.term) ≡ false = search rules in
    let step = after_head inner (tree_of c.args.head.term) c.args.under c.args.rest.now c.in_ok-rest.rest.now c.in_ok-rest.ensures other head in
    subst (λ m. Reads low_of c.read_arguments.result m) step c.read_arguments.ensures

pub read_term-returns-then-first-eq40 : goal.read_term-returns-then-first-eq40
read_term-returns-then-first-eq40 t c =
    let look = look_of c.args.scope.now in
    let paren : (first c.args.rest.now == 40) ≡ true = grind (arith, nat_tests) in
    let step = term_open look c.args.room c.args.under c.args.rest.now (omega arith) paren in
    let inside = ap (λ r. enclosed_at (read_term look (c.args.room - 1)) c.args.under r) c.skip.ensures in
    subst (λ m. Reads low_of c.read_enclosed.result m) (inside ∙ sym step) c.read_enclosed.ensures

pub read_term-returns-else-first-eq37 : goal.read_term-returns-else-first-eq37
read_term-returns-else-first-eq37 t c =
    let look = look_of c.args.scope.now in
    let paren : (first c.args.rest.now == 40) ≡ false = grind (arith, nat_tests) in
    let percent : (first c.args.rest.now == 37) ≡ false = grind (arith, nat_tests) in
    let step = term_named look c.args.room c.args.under c.args.rest.now (omega arith) paren percent in
    subst (λ m. Reads low_of c.read_named.result m) (sym step) c.read_named.ensures
