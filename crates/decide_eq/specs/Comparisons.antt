-- Two constructors at their arguments are compared: different ones are not equal, and equal ones are where all their arguments are. The
-- arguments are decided from the left.
use Rattle.std.specs.Prelude.{ℕ, ◌+◌, ◌-◌, List, [], ◌∷◌}
use Rattle.theory.specs.Terms.{Term, Var, Sort, Pi, Lam, App, Const, Fam, Con, Elim}
use Rattle.theory.specs.Telescopes.{Telescope, applied, functions}
use Rattle.theory.specs.Prelude.{empty_type}
use Rattle.core_terms.specs.Levels.{variable, run, place}
use Rattle.core_sig.specs.Shapes.{ArgumentShape, ConstructorShape, by_kind}
use Rattle.tele_eq.specs.Congruences.{congruences}
use Rattle.tele_eq.specs.Items.{Item, term_at}
use Rattle.tele_eq.specs.TelescopicEquality.{equations}
use Rattle.generators.specs.noconf_gen.Compared.{argument_items}
use Rattle.decide_eq.specs.PlainFamilies.{Known, decision_for}
use Rattle.decide_eq.specs.Statements.{whole_type, equal, decision_of}
use Rattle.decide_eq.specs.declared.decided_family.DecidedFamily.{DecidedFamily}
use Rattle.decide_eq.specs.declared.members.Member.{Member}
use Rattle.decide_eq.specs.declared.members.Members.{Members}

-- ---- members

-- c p a
abbrev pub member_at : DecidedFamily → Member → (depth : ℕ) → Term
member_at d c depth = applied (applied (Con d.family c.number) (run depth 0 d.params)) (run depth c.start c.count)

-- Eq.l (D p) (c p a) (c' p a')
abbrev pub members_equal : DecidedFamily → Members → (depth : ℕ) → Term
members_equal d m depth = equal d (whole_type d depth) (member_at d m.left depth) (member_at d m.right depth)

-- the first constructor of E at a proof of the claim
abbrev pub proved : DecidedFamily → (claim proof : Term) → Term
proved d claim proof = App (App (Con d.into 0) claim) proof

-- the second one at a refutation
abbrev pub refuted : DecidedFamily → (claim refutation : Term) → Term
refuted d claim refutation = App (App (Con d.into 1) claim) refutation

-- the constants of D!noconf.c.0: those after that of D!case.l, in the order of the constructors
abbrev pub confusions_of : DecidedFamily → (number : ℕ) → ℕ
confusions_of d number = d.analysis + 1 + number

-- D!noconf.c.0 p a, where the constant for each constructor's number is given
abbrev pub confusion_head : DecidedFamily → (confusions : ℕ → ℕ) → Member → (depth : ℕ) → Term
confusion_head d confusions c depth =
    applied (applied (Const (confusions c.number)) (run depth 0 d.params)) (run depth c.start c.count)

-- D!noconf.c.0 p a (c' p a') q (\_. Empty), where q is the nearest variable
abbrev pub confusion : DecidedFamily → (confusions : ℕ → ℕ) → Members → (depth : ℕ) → Term
confusion d confusions m depth =
    App (App (App (confusion_head d confusions m.left depth) (member_at d m.right depth)) (Var 0))
    (Lam (members_equal d m depth) (Fam empty_type))

-- different constructors are not equal: \q. D!noconf.c.0 p a (c' p a') q (\_. Empty)
abbrev pub different : DecidedFamily → (confusions : ℕ → ℕ) → Members → (depth : ℕ) → Term
different d confusions m depth =
    refuted d (members_equal d m depth) (Lam (members_equal d m depth) (confusion d confusions m (depth + 1)))

-- ---- arguments of a constructor c on both sides

-- the type of argument `at`, where the first argument has the level `start`
abbrev pub argument_type : DecidedFamily → (start at depth : ℕ) → ArgumentShape → Term
argument_type d start at depth a = place ((0, d.params) ∷ (start, at) ∷ []) (d.params + at) depth a.type

-- Eq.l A_i a_i a'_i, for the argument i = `at`
abbrev pub arguments_equal : DecidedFamily → Members → (at depth : ℕ) → ArgumentShape → Term
arguments_equal d m at depth a =
    equal d (argument_type d m.left.start at depth a) (variable depth (m.left.start + at)) (variable depth (m.right.start + at))

-- eqs(Ac; a; a')
abbrev pub argument_equations : DecidedFamily → Members → (depth : ℕ) → ConstructorShape → Telescope
argument_equations d m depth c =
    equations (argument_items d.params depth c) (run depth m.left.start m.left.count) (run depth m.right.start m.left.count)

-- What decides the equality of a plain argument: the decision for a parameter, or that of a family. The parameters have the levels from
-- 0 on, and their decisions those after them.
abbrev pub plain_decision : DecidedFamily → Known → (at depth : ℕ) → (type : Term) → Term
plain_decision d known at depth (Var n) = variable depth (d.params + (d.params + at - (n + 1)))
plain_decision d known at depth (Fam n) = decision_for known n
plain_decision d known at depth type = Sort 0

-- the decision of argument `at`: h a'_i for its hypothesis h, where it is recursive, and else what decides it at a_i and a'_i
abbrev pub argument_decided : DecidedFamily → Known → Members → (at h depth : ℕ) → ArgumentShape → Term
argument_decided d known m at h depth a =
    by_kind a.kind
    (App (App (plain_decision d known at depth a.type) (variable depth (m.left.start + at))) (variable depth (m.right.start + at)))
    (λ inner. App (variable depth h) (variable depth (m.right.start + at)))

-- where argument `at` is refuted by the variable n with a level: \es. n es_i
abbrev pub by_arguments : DecidedFamily → Members → (at n depth : ℕ) → ConstructorShape → Term
by_arguments d m at n depth c =
    let inside = depth + m.left.count in
    functions (argument_equations d m depth c) (App (variable inside n) (variable inside (depth + at)))

-- the second constructor of E at \q. D!noconf.c.0 p a (c p a') q (\_. Empty) (\es. n es_i)
abbrev pub refuted_by : DecidedFamily → (confusions : ℕ → ℕ) → Members → (at n depth : ℕ) → ConstructorShape → Term
refuted_by d confusions m at n depth c =
    let inside = depth + 1 in
    refuted d (members_equal d m depth) (Lam (members_equal d m depth) (App (confusion d confusions m inside) (by_arguments d m at n inside c)))

-- that for each refutation n : Eq.l A_i a_i a'_i -> Empty
abbrev pub by_refutation : DecidedFamily → (confusions : ℕ → ℕ) → Members → (at depth : ℕ) → ConstructorShape → ArgumentShape → Term
by_refutation d confusions m at depth c a =
    Lam (Pi (arguments_equal d m at depth a) (Fam empty_type)) (refuted_by d confusions m at depth (depth + 1) c)

-- y : D p, as a telescope
abbrev pub whole_item : DecidedFamily → (depth : ℕ) → List Item
whole_item d depth = record { type = whole_type d depth; level = d.level } ∷ []

-- c p Ac, as a list, over the arguments themselves, whose levels begin with `depth`
abbrev pub own_member : DecidedFamily → Member → (depth : ℕ) → List Term
own_member d c depth = member_at d (record { number = c.number; start = depth; count = c.count }) (depth + c.count) ∷ []

-- congs(X, Y; f; es), for Y with one type: terms f over X are equal at the arguments a and a', by equations es whose levels begin after
-- those of a'
abbrev pub first_congruence : (X Y : List Item) (f : List Term) (m : Members) (depth : ℕ) → Term
first_congruence X Y f m depth =
    let count = m.left.count in
    term_at (congruences X Y f (run depth m.left.start count) (run depth m.right.start count) (run depth (m.right.start + count) count)) 0

-- congs(Ac, D p; c p Ac; es): c p a and c p a' are equal
abbrev pub congruence : DecidedFamily → Members → (depth : ℕ) → ConstructorShape → Term
congruence d m depth c =
    first_congruence (argument_items d.params depth c) (whole_item d depth) (own_member d m.left depth) m depth

-- the level of the next hypothesis, after an argument
abbrev pub next_hypothesis : (h : ℕ) → ArgumentShape → ℕ
next_hypothesis h a = by_kind a.kind h (λ inner. h + 1)

-- \_. E (Eq.l (D p) (c p a) (c p a'))
abbrev pub elimination_motive : DecidedFamily → Members → (at depth : ℕ) → ArgumentShape → Term
elimination_motive d m at depth a =
    Lam (decision_of d (arguments_equal d m at depth a)) (decision_of d (members_equal d m (depth + 1)))

-- The decision of argument `at` taken apart, by E!elim.l (Eq.l A_i a_i a'_i): by its proof e_i follows the term `proved`, and by its
-- refutation that of the whole. Its hypothesis has the level h.
abbrev pub taken_apart : DecidedFamily → (confusions : ℕ → ℕ) → Known → Members → (at h depth : ℕ) → ConstructorShape → ArgumentShape → (proved : Term) → Term
taken_apart d confusions known m at h depth c a proved =
    App (App (App (App (App (Elim d.into d.level) (arguments_equal d m at depth a)) (elimination_motive d m at depth a))
    (Lam (arguments_equal d m at depth a) proved))
    (by_refutation d confusions m at depth c a))
    (argument_decided d known m at h depth a)

-- The arguments from `at` on are decided, and so is the equality of c p a and c p a'. The next hypothesis has the level h.
abbrev pub compared : DecidedFamily → (confusions : ℕ → ℕ) → Known → Members → (at h depth : ℕ) → ConstructorShape → List ArgumentShape → Term
compared d confusions known m at h depth c [] = proved d (members_equal d m depth) (congruence d m depth c)
compared d confusions known m at h depth c (a ∷ arguments) =
    taken_apart d confusions known m at h depth c a (compared d confusions known m (at + 1) (next_hypothesis h a) (depth + 1) c arguments)
