-- The meanings of the contexts and states of the parser's code in its machine.
use Rattle.std.specs.Prelude.{map, option_map}
use Rattle.surface_syntax.specs.Machine as machine
use Rattle.surface_syntax.specs.TreeMeanings.{surf_of, binder_of, pat_of, clause_of, param_of, member_of}
use Rattle.surface_syntax.specs.declared.context.Quantifier.{Quantifier}
use Rattle.surface_syntax.specs.declared.context.Quantifier.TheVariants.{Function, Product}
use Rattle.surface_syntax.specs.declared.context.Spine.{Spine}
use Rattle.surface_syntax.specs.declared.context.Families.{Families}
use Rattle.surface_syntax.specs.declared.context.Telescope.{Telescope}
use Rattle.surface_syntax.specs.declared.context.Headed.{Headed}
use Rattle.surface_syntax.specs.declared.context.ClausesIn.{ClausesIn, Fun, Inspect'}
use Rattle.surface_syntax.specs.declared.context.PatsIn.{PatsIn, Behind, Inside'}
use Rattle.surface_syntax.specs.declared.context.Part.{Part}
use Rattle.surface_syntax.specs.declared.context.Part.TheVariants as part
use Rattle.surface_syntax.specs.declared.context.TermIn.{TermIn, Whole, Parens', Codomain', Domain', Body', LetType', LetValue', LetBody', Dot, Side, Scrutinee}
use Rattle.surface_syntax.specs.declared.state.DefState.{DefState}
use Rattle.surface_syntax.specs.declared.state.DefState.TheVariants as def
use Rattle.surface_syntax.specs.declared.state.DataState.{DataState}
use Rattle.surface_syntax.specs.declared.state.DataState.TheVariants as family
use Rattle.surface_syntax.specs.declared.state.MutualState.{MutualState}
use Rattle.surface_syntax.specs.declared.state.MutualState.TheVariants as families
use Rattle.surface_syntax.specs.declared.state.TermState.{TermState}
use Rattle.surface_syntax.specs.declared.state.TermState.TheVariants as term
use Rattle.surface_syntax.specs.declared.state.ClauseState.{ClauseState}
use Rattle.surface_syntax.specs.declared.state.ClauseState.TheVariants as clause
use Rattle.surface_syntax.specs.declared.state.State.{State}
use Rattle.surface_syntax.specs.declared.state.State.TheVariants as state

abbrev pub quantifier_of : Quantifier → machine.Quantifier
quantifier_of Function = machine.Function
quantifier_of Product = machine.Product

abbrev pub spine_of : Spine → machine.Spine
spine_of s = record { head = surf_of s.head; args = map surf_of s.args }

abbrev pub families_of : Families → machine.Families
families_of g = record { params = map param_of g.params; members = map member_of g.members }

abbrev pub telescope_of : Telescope → machine.Telescope
telescope_of b = record { depth = b.depth; quantifier = quantifier_of b.quantifier; binders = map binder_of b.binders }

abbrev pub headed_of : Headed → machine.Headed
headed_of h = record { depth = h.depth; head = h.head; pats = map pat_of h.pats }

abbrev pub clauses_in_of : ClausesIn → machine.Clauses_in
clauses_in_of (Fun w a cs) = machine.Fun w (surf_of a) (map clause_of cs)
clauses_in_of (Inspect' h t cs p k) = machine.Inspect (headed_of h) (surf_of t) (map clause_of cs) (clauses_in_of k)

abbrev pub pats_in_of : PatsIn → machine.Pats_in
pats_in_of (Behind h k) = machine.Behind (headed_of h) (clauses_in_of k.value)
pats_in_of (Inside' h p k) = machine.Inside (headed_of h) (pats_in_of k)

abbrev pub part_of : Part → machine.Part
part_of (part.DefType w) = machine.DefType w
part_of (part.DefBody w a) = machine.DefBody w (surf_of a)
part_of (part.ParamType w ps p) = machine.ParamType w (map param_of ps) p
part_of (part.MemberType g w) = machine.MemberType (families_of g) w
part_of (part.ConType g m c) = machine.ConType (families_of g) (member_of m) c
part_of (part.FunType w) = machine.FunType w

abbrev pub term_in_of : TermIn → machine.Term_in
term_in_of (Whole p) = machine.Whole (part_of p)
term_in_of (Parens' d s p k) = machine.Parens d (option_map spine_of s) (term_in_of k)
term_in_of (Codomain' a p k) = machine.Codomain (surf_of a) (term_in_of k)
term_in_of (Domain' b ns p k) = machine.Domain (telescope_of b) ns (term_in_of k)
term_in_of (Body' b p k) = machine.Body (telescope_of b) (term_in_of k)
term_in_of (LetType' d w p k) = machine.LetType d w (term_in_of k)
term_in_of (LetValue' d w a p k) = machine.LetValue d w (surf_of a) (term_in_of k)
term_in_of (LetBody' w a v p k) = machine.LetBody w (surf_of a) (surf_of v) (term_in_of k)
term_in_of (Dot d void k) = machine.Dot d void (pats_in_of k.value)
term_in_of (Side h k) = machine.Side (headed_of h) (clauses_in_of k.value)
term_in_of (Scrutinee h k) = machine.Scrutinee (headed_of h) (clauses_in_of k.value)

abbrev pub def_state_of : DefState → machine.Def_state
def_state_of def.DefName = machine.DefName
def_state_of (def.DefNext w) = machine.DefNext w
def_state_of (def.DecideData w) = machine.DecideData w
def_state_of (def.DecideFamily w) = machine.DecideFamily w
def_state_of (def.DecideDecision w f) = machine.DecideDecision w f
def_state_of def.FunName = machine.FunName
def_state_of (def.FunColon w) = machine.FunColon w

abbrev pub data_state_of : DataState → machine.Data_state
data_state_of family.DataName = machine.DataName
data_state_of (family.Params w ps) = machine.Params w (map param_of ps)
data_state_of (family.ParamName w ps) = machine.ParamName w (map param_of ps)
data_state_of (family.ParamColon w ps p) = machine.ParamColon w (map param_of ps) p
data_state_of (family.FirstCon g m) = machine.FirstCon (families_of g) (member_of m)
data_state_of (family.ConName g m) = machine.ConName (families_of g) (member_of m)
data_state_of (family.ConColon g m c) = machine.ConColon (families_of g) (member_of m) c
data_state_of (family.FamilyEnd ps m) = machine.FamilyEnd (map param_of ps) (member_of m)

abbrev pub mutual_state_of : MutualState → machine.Mutual_state
mutual_state_of (families.MembersEnd g) = machine.MembersEnd (families_of g)
mutual_state_of (families.MemberName g) = machine.MemberName (families_of g)
mutual_state_of (families.MemberColon g w) = machine.MemberColon (families_of g) w
mutual_state_of (families.PackedName g) = machine.PackedName (families_of g)
mutual_state_of (families.TagFamily g f) = machine.TagFamily (families_of g) f
mutual_state_of (families.TagsOpen g f t) = machine.TagsOpen (families_of g) f t
mutual_state_of (families.TagName g f t tags) = machine.TagName (families_of g) f t tags
mutual_state_of (families.TagNext g f t tags) = machine.TagNext (families_of g) f t tags

abbrev pub term_state_of : TermState → machine.Term_state
term_state_of (term.Term d k) = machine.Term d (term_in_of k)
term_state_of (term.Level d s k) = machine.Level d (option_map spine_of s) (term_in_of k.value)
term_state_of (term.Opened d k) = machine.Opened d (term_in_of k.value)
term_state_of (term.Names d at w ws k) = machine.Names d at w ws (term_in_of k.value)
term_state_of (term.BinderOpen b k) = machine.BinderOpen (telescope_of b) (term_in_of k.value)
term_state_of (term.BinderNames b ns k) = machine.BinderNames (telescope_of b) ns (term_in_of k.value)
term_state_of (term.BinderNext b k) = machine.BinderNext (telescope_of b) (term_in_of k.value)
term_state_of (term.LetName d k) = machine.LetName d (term_in_of k.value)
term_state_of (term.LetColon d w k) = machine.LetColon d w (term_in_of k.value)
term_state_of (term.Atoms d s k) = machine.Atoms d (spine_of s) (term_in_of k.value)

abbrev pub clause_state_of : ClauseState → machine.Clause_state
clause_state_of (clause.Pats d void k) = machine.Pats d void (pats_in_of k.value)
clause_state_of (clause.PatOpen d void k) = machine.PatOpen d void (pats_in_of k.value)
clause_state_of (clause.DotAtom d void k) = machine.DotAtom d void (pats_in_of k.value)
clause_state_of (clause.DotLevel d void k) = machine.DotLevel d void (pats_in_of k.value)
clause_state_of (clause.FirstClause d k) = machine.FirstClause d (clauses_in_of k.value)
clause_state_of (clause.ClauseName d k) = machine.ClauseName d (clauses_in_of k.value)
clause_state_of (clause.ClauseEnd d c k) = machine.ClauseEnd d (clause_of c) (clauses_in_of k.value)

abbrev pub state_of : State → machine.State
state_of state.Start = machine.Start
state_of (state.InDef s) = machine.In_def (def_state_of s)
state_of (state.InData s) = machine.In_data (data_state_of s)
state_of (state.InMutual s) = machine.In_mutual (mutual_state_of s)
state_of (state.InTerm s) = machine.In_term (term_state_of s)
state_of (state.InClause s) = machine.In_clause (clause_state_of s)
