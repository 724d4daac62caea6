-- From every state some lexemes finish the file.
use Rattle.std.proofs.Common.{ℕ, ◌+◌, Bool, true, false, List, [], ◌∷◌, ◌++◌, refl}
use Rattle.std.specs.Prelude.{Option, None}
use Rattle.surface_syntax.specs.Trees as tree
use Rattle.surface_syntax.specs.Grammar as g
use Rattle.surface_syntax.specs.Machine as m
use Rattle.surface_syntax.specs.Viable.{every}
use Rattle.surface_syntax.specs.declared.tree.Word.{Word}
use Rattle.surface_syntax.specs.declared.lexeme.Lexeme.{Lexeme}
use Rattle.surface_syntax.specs.declared.lexeme.Lexeme.TheVariants as x
use Rattle.surface_syntax.proofs.Rest as r

abbrev word : Word
word = record { text = []; start = 0 }

term : {d : ℕ} {rest : List Lexeme} → g.Term every d (x.Plain word ∷ rest) rest (tree.Named word)
term = g.app refl g.plain g.end

data Members_left (ps : List tree.Typed) (ms : List tree.Member) : Type 0 where
  members : {ts : List Lexeme} {ds : List tree.Decl} → r.RestMembers every ps ms ts ds → Members_left ps ms

data Member_left (ps : List tree.Typed) (ms : List tree.Member) (n : tree.Member) : Type 0 where
  member : {ts : List Lexeme} {ds : List tree.Decl} → r.RestMember every ps ms n ts ds → Member_left ps ms n

member_left : (ps : List tree.Typed) (ms : List tree.Member) (n : tree.Member) → Member_left ps ms n
member_left ps [] n = member (r.only g.end)
member_left ps (n' ∷ ms) n = member (r.later (r.packed {f = word} {t = word} (r.last {w = word} g.end)))

data Family_left (f : m.Families) (n : tree.Member) : Type 0 where
  family : {ts : List Lexeme} {ds : List tree.Decl} → r.RestFamily every f n ts ds → Family_left f n

family_from : (f : m.Families) (n : tree.Member) → Member_left f.params f.members n → Family_left f n
family_from f n (member rest) = family (r.none rest)

family_left : (f : m.Families) (n : tree.Member) → Family_left f n
family_left f n = family_from f n (member_left f.params f.members n)

data Cons_left (f : m.Families) (n : tree.Member) : Type 0 where
  cons : {ts : List Lexeme} {ds : List tree.Decl} → r.RestCons every f n ts ds → Cons_left f n

cons_from : (f : m.Families) (n : tree.Member) → Member_left f.params f.members (m.with_con n word (tree.Named word)) → Cons_left f n
cons_from f n (member rest) = cons (r.last term rest)

cons_left : (f : m.Families) (n : tree.Member) → Cons_left f n
cons_left f n = cons_from f n (member_left f.params f.members (m.with_con n word (tree.Named word)))

data Params_left (v : Word) (ps : List tree.Typed) : Type 0 where
  params : {ts : List Lexeme} {ds : List tree.Decl} → r.RestParams every v ps ts ds → Params_left v ps

params_from : (v : Word) (ps : List tree.Typed) → Family_left (record { params = ps; members = [] }) (record { name = v; ty = tree.Named word; cons = [] }) → Params_left v ps
params_from v ps (family rest) = params (r.end term rest)

params_left : (v : Word) (ps : List tree.Typed) → Params_left v ps
params_left v ps = params_from v ps (family_left (record { params = ps; members = [] }) (record { name = v; ty = tree.Named word; cons = [] }))

-- clauses
data Closed_left (k : m.Clauses_in) : Type 0 where
  closed : {ts : List Lexeme} {ds : List tree.Decl} → r.RestClosed every k ts ds → Closed_left k

data Clause_left (d : ℕ) (b : tree.Clause) (k : m.Clauses_in) : Type 0 where
  clause : {ts : List Lexeme} {ds : List tree.Decl} → r.RestClause every d b k ts ds → Clause_left d b k

clause_from : (d : ℕ) (b : tree.Clause) (k : m.Clauses_in) → Closed_left (m.with_clause b k) → Clause_left d b k
clause_from d b k (closed rest) = clause (r.last rest)

inspect_from : (h : m.Headed) (t : tree.Surf) (cs : List tree.Clause) (k : m.Clauses_in) → Clause_left h.depth (m.clause h (tree.With t (tree.clauses cs))) k → Closed_left (m.Inspect h t cs k)
inspect_from h t cs k (clause rest) = closed (r.inspect rest)

clause_left : (k : m.Clauses_in) (d : ℕ) (b : tree.Clause) → Clause_left d b k
clause_left (m.Fun v a cs) d b = clause_from d b (m.Fun v a cs) (closed (r.fun g.end))
clause_left (m.Inspect h t cs k) d b = clause_from d b (m.Inspect h t cs k) (inspect_from h t (cs ++ b ∷ []) k (clause_left k h.depth (m.clause h (tree.With t (tree.clauses (cs ++ b ∷ []))))))

closed_left : (k : m.Clauses_in) → Closed_left k
closed_left (m.Fun v a cs) = closed (r.fun g.end)
closed_left (m.Inspect h t cs k) = inspect_from h t cs k (clause_left k h.depth (m.clause h (tree.With t (tree.clauses cs))))

-- patterns
data Pats_left (d : ℕ) (v : Bool) (k : m.Pats_in) : Type 0 where
  pats : {ts : List Lexeme} {ds : List tree.Decl} → r.RestPats every d v k ts ds → Pats_left d v k

side_from : (d : ℕ) (h : m.Headed) (k : m.Clauses_in) → Clause_left h.depth (m.clause h (tree.Side (tree.Named word))) k → Pats_left d false (m.Behind h k)
side_from d h k (clause rest) = pats (r.side term rest)

absurd_from : (d : ℕ) (h : m.Headed) (k : m.Clauses_in) → Clause_left h.depth (m.clause h tree.Absurd) k → Pats_left d true (m.Behind h k)
absurd_from d h k (clause rest) = pats (r.absurd rest)

con_from : (d : ℕ) (v : Bool) (h : m.Headed) (k : m.Pats_in) → Pats_left h.depth v (m.with_pat (tree.Con h.head (tree.pats h.pats)) k) → Pats_left d v (m.Inside h k)
con_from d v h k (pats rest) = pats (r.con rest)

behind_left : (d : ℕ) (v : Bool) (h : m.Headed) (k : m.Clauses_in) → Pats_left d v (m.Behind h k)
behind_left d true h k = absurd_from d h k (clause_left k h.depth (m.clause h tree.Absurd))
behind_left d false h k = side_from d h k (clause_left k h.depth (m.clause h (tree.Side (tree.Named word))))

more_left : (k : m.Pats_in) (p : tree.Pat) (d : ℕ) (v : Bool) → Pats_left d v (m.with_pat p k)
more_left (m.Behind h k) p d v = behind_left d v (m.one_more h p) k
more_left (m.Inside h k) p d v = con_from d v (m.one_more h p) k (more_left k (tree.Con h.head (tree.pats (h.pats ++ p ∷ []))) h.depth v)

pats_left : (k : m.Pats_in) (d : ℕ) (v : Bool) → Pats_left d v k
pats_left (m.Behind h k) d v = behind_left d v h k
pats_left (m.Inside h k) d v = con_from d v h k (more_left k (tree.Con h.head (tree.pats h.pats)) h.depth v)

-- terms
data Term_left (k : m.Term_in) (t : tree.Surf) : Type 0 where
  left : {ts : List Lexeme} {ds : List tree.Decl} → r.RestTerm every k t ts ds → Term_left k t

params_part : (v q : Word) (ps : List tree.Typed) (t : tree.Surf) → Params_left v (ps ++ record { name = q; ty = t } ∷ []) → Term_left (m.Whole (m.ParamType v ps q)) t
params_part v q ps t (params rest) = left (r.whole (r.param rest))

family_part : (f : m.Families) (v : Word) (t : tree.Surf) → Family_left f (record { name = v; ty = t; cons = [] }) → Term_left (m.Whole (m.MemberType f v)) t
family_part f v t (family rest) = left (r.whole (r.member rest))

con_part : (f : m.Families) (n : tree.Member) (v : Word) (t : tree.Surf) → Member_left f.params f.members (m.with_con n v t) → Term_left (m.Whole (m.ConType f n v)) t
con_part f n v t (member rest) = left (r.whole (r.last_con rest))

part_left : (q : m.Part) (t : tree.Surf) → Term_left (m.Whole q) t
part_left (m.DefType v) t = left (r.whole (r.def_type term g.end))
part_left (m.DefBody v a) t = left (r.whole (r.def_body g.end))
part_left (m.ParamType v ps q) t = params_part v q ps t (params_left v (ps ++ record { name = q; ty = t } ∷ []))
part_left (m.MemberType f v) t = family_part f v t (family_left f (record { name = v; ty = t; cons = [] }))
part_left (m.ConType f n v) t = con_part f n v t (member_left f.params f.members (m.with_con n v t))
part_left (m.FunType v) t = left (r.whole (r.fun (r.none (r.fun g.end))))

parens_left : (d : ℕ) (s : Option m.Spine) (k : m.Term_in) (t : tree.Surf) → Term_left k (m.spine (m.plus s t)) → Term_left (m.Parens d s k) t
parens_left d s k t (left rest) = left (r.parens (r.end rest))

codomain_left : (a : tree.Surf) (k : m.Term_in) (t : tree.Surf) → Term_left k (tree.Arrow a t) → Term_left (m.Codomain a k) t
codomain_left a k t (left rest) = left (r.codomain rest)

domain_left : (b : m.Telescope) (ns : List (Option Word)) (k : m.Term_in) (t : tree.Surf) → Term_left k (m.quantified b.quantifier (b.binders ++ tree.Group ns t ∷ []) (tree.Named word)) → Term_left (m.Domain b ns k) t
domain_left b ns k t (left rest) = left (r.domain (r.into term rest))

body_left : (b : m.Telescope) (k : m.Term_in) (t : tree.Surf) → Term_left k (m.quantified b.quantifier b.binders t) → Term_left (m.Body b k) t
body_left b k t (left rest) = left (r.body rest)

let_type_left : (d : ℕ) (v : Word) (k : m.Term_in) (t : tree.Surf) → Term_left k (tree.Let v t (tree.Named word) (tree.Named word)) → Term_left (m.LetType d v k) t
let_type_left d v k t (left rest) = left (r.let_type term term rest)

let_value_left : (d : ℕ) (v : Word) (a : tree.Surf) (k : m.Term_in) (t : tree.Surf) → Term_left k (tree.Let v a t (tree.Named word)) → Term_left (m.LetValue d v a k) t
let_value_left d v a k t (left rest) = left (r.let_value term rest)

let_body_left : (v : Word) (a u : tree.Surf) (k : m.Term_in) (t : tree.Surf) → Term_left k (tree.Let v a u t) → Term_left (m.LetBody v a u k) t
let_body_left v a u k t (left rest) = left (r.let_body rest)

dot_left : (d : ℕ) (v : Bool) (k : m.Pats_in) (t : tree.Surf) → Pats_left d v (m.with_pat (tree.Dot t) k) → Term_left (m.Dot d v k) t
dot_left d v k t (pats rest) = left (r.dot rest)

side_left : (h : m.Headed) (k : m.Clauses_in) (t : tree.Surf) → Clause_left h.depth (m.clause h (tree.Side t)) k → Term_left (m.Side h k) t
side_left h k t (clause rest) = left (r.side rest)

scrutinee_left : (h : m.Headed) (k : m.Clauses_in) (t : tree.Surf) → Closed_left (m.Inspect h t [] k) → Term_left (m.Scrutinee h k) t
scrutinee_left h k t (closed rest) = left (r.scrutinee (r.none rest))

term_left : (k : m.Term_in) (t : tree.Surf) → Term_left k t
term_left (m.Whole q) t = part_left q t
term_left (m.Parens d s k) t = parens_left d s k t (term_left k (m.spine (m.plus s t)))
term_left (m.Codomain a k) t = codomain_left a k t (term_left k (tree.Arrow a t))
term_left (m.Domain b ns k) t = domain_left b ns k t (term_left k (m.quantified b.quantifier (b.binders ++ tree.Group ns t ∷ []) (tree.Named word)))
term_left (m.Body b k) t = body_left b k t (term_left k (m.quantified b.quantifier b.binders t))
term_left (m.LetType d v k) t = let_type_left d v k t (term_left k (tree.Let v t (tree.Named word) (tree.Named word)))
term_left (m.LetValue d v a k) t = let_value_left d v a k t (term_left k (tree.Let v a t (tree.Named word)))
term_left (m.LetBody v a u k) t = let_body_left v a u k t (term_left k (tree.Let v a u t))
term_left (m.Dot d v k) t = dot_left d v k t (more_left k (tree.Dot t) d v)
term_left (m.Side h k) t = side_left h k t (clause_left k h.depth (m.clause h (tree.Side t)))
term_left (m.Scrutinee h k) t = scrutinee_left h k t (closed_left (m.Inspect h t [] k))

data Due_left (d : ℕ) (k : m.Term_in) : Type 0 where
  due : {ts : List Lexeme} {ds : List tree.Decl} → r.Due every d k ts ds → Due_left d k

due_from : (d : ℕ) (k : m.Term_in) → Term_left k (tree.Named word) → Due_left d k
due_from d k (left rest) = due (r.term term rest)

due_left : (d : ℕ) (k : m.Term_in) → Due_left d k
due_left d k = due_from d k (term_left k (tree.Named word))

-- states
pub data Left (s : m.State) : Type 0 where
  finished : (ts : List Lexeme) (ds : List tree.Decl) → r.Rest every s ts ds → Left s

data Def_left (s : m.Def_state) : Type 0 where
  def : {ts : List Lexeme} {ds : List tree.Decl} → r.RestDef every s ts ds → Def_left s

def_next : (v : Word) → Due_left 0 (m.Whole (m.DefType v)) → Def_left (m.DefNext v)
def_next v (due d) = def (r.type d)

fun_next : (v : Word) → Due_left 0 (m.Whole (m.FunType v)) → Def_left (m.FunColon v)
fun_next v (due d) = def (r.fun_type d)

def_name : Def_left (m.DefNext word) → Def_left m.DefName
def_name (def d) = def (r.name d)

fun_name : Def_left (m.FunColon word) → Def_left m.FunName
fun_name (def d) = def (r.fun d)

def_left : (s : m.Def_state) → Def_left s
def_left m.DefName = def_name (def_next word (due_left 0 (m.Whole (m.DefType word))))
def_left (m.DefNext v) = def_next v (due_left 0 (m.Whole (m.DefType v)))
def_left (m.DecideData v) = def (r.family (r.decision {f = word} (r.done {e = word} g.end)))
def_left (m.DecideFamily v) = def (r.decision {f = word} (r.done {e = word} g.end))
def_left (m.DecideDecision v f) = def (r.done {e = word} g.end)
def_left m.FunName = fun_name (fun_next word (due_left 0 (m.Whole (m.FunType word))))
def_left (m.FunColon v) = fun_next v (due_left 0 (m.Whole (m.FunType v)))

data Data_left (s : m.Data_state) : Type 0 where
  data_ : {ts : List Lexeme} {ds : List tree.Decl} → r.RestData every s ts ds → Data_left s

data_name : Params_left word [] → Data_left m.DataName
data_name (params rest) = data_ (r.name rest)

params_state : (v : Word) (ps : List tree.Typed) → Params_left v ps → Data_left (m.Params v ps)
params_state v ps (params rest) = data_ (r.params rest)

param_name : (v : Word) (ps : List tree.Typed) → Due_left 0 (m.Whole (m.ParamType v ps word)) → Data_left (m.ParamName v ps)
param_name v ps (due d) = data_ (r.param d)

param_colon : (v q : Word) (ps : List tree.Typed) → Due_left 0 (m.Whole (m.ParamType v ps q)) → Data_left (m.ParamColon v ps q)
param_colon v q ps (due d) = data_ (r.param_type d)

first_state : (f : m.Families) (n : tree.Member) → Family_left f n → Data_left (m.FirstCon f n)
first_state f n (family rest) = data_ (r.first rest)

con_state : (f : m.Families) (n : tree.Member) → Cons_left f n → Data_left (m.ConName f n)
con_state f n (cons rest) = data_ (r.con rest)

con_colon : (f : m.Families) (n : tree.Member) (v : Word) → Due_left 0 (m.Whole (m.ConType f n v)) → Data_left (m.ConColon f n v)
con_colon f n v (due d) = data_ (r.con_type d)

data_left : (s : m.Data_state) → Data_left s
data_left m.DataName = data_name (params_left word [])
data_left (m.Params v ps) = params_state v ps (params_left v ps)
data_left (m.ParamName v ps) = param_name v ps (due_left 0 (m.Whole (m.ParamType v ps word)))
data_left (m.ParamColon v ps q) = param_colon v q ps (due_left 0 (m.Whole (m.ParamType v ps q)))
data_left (m.FirstCon f n) = first_state f n (family_left f n)
data_left (m.ConName f n) = con_state f n (cons_left f n)
data_left (m.ConColon f n v) = con_colon f n v (due_left 0 (m.Whole (m.ConType f n v)))
data_left (m.FamilyEnd ps n) = data_ (r.end (r.only g.end))

data Mutual_left (s : m.Mutual_state) : Type 0 where
  mutual_ : {ts : List Lexeme} {ds : List tree.Decl} → r.RestMutual every s ts ds → Mutual_left s

member_name : (f : m.Families) → Due_left 0 (m.Whole (m.MemberType f word)) → Mutual_left (m.MemberName f)
member_name f (due d) = mutual_ (r.name d)

member_colon : (f : m.Families) (v : Word) → Due_left 0 (m.Whole (m.MemberType f v)) → Mutual_left (m.MemberColon f v)
member_colon f v (due d) = mutual_ (r.type d)

mutual_left : (s : m.Mutual_state) → Mutual_left s
mutual_left (m.MembersEnd f) = mutual_ (r.over (r.packed {w = word} {t = word} (r.last {w = word} g.end)))
mutual_left (m.MemberName f) = member_name f (due_left 0 (m.Whole (m.MemberType f word)))
mutual_left (m.MemberColon f v) = member_colon f v (due_left 0 (m.Whole (m.MemberType f v)))
mutual_left (m.PackedName f) = mutual_ (r.packed {w = word} {t = word} (r.last {w = word} g.end))
mutual_left (m.TagFamily f v) = mutual_ (r.family {t = word} (r.last {w = word} g.end))
mutual_left (m.TagsOpen f v t) = mutual_ (r.opens (r.last {w = word} g.end))
mutual_left (m.TagName f v t us) = mutual_ (r.tag (r.last {w = word} g.end))
mutual_left (m.TagNext f v t us) = mutual_ (r.last g.end)

data In_left (s : m.Term_state) : Type 0 where
  in_ : {ts : List Lexeme} {ds : List tree.Decl} → r.RestIn every s ts ds → In_left s

term_state : (d : ℕ) (k : m.Term_in) → Due_left d k → In_left (m.Term d k)
term_state d k (due l) = in_ (r.due l)

level_state : (d : ℕ) (s : Option m.Spine) (k : m.Term_in) → Term_left k (m.spine (m.plus s (tree.Sort 0))) → In_left (m.Level d s k)
level_state d s k (left rest) = in_ (r.level (r.end rest))

opened_state : (d : ℕ) (k : m.Term_in) → Due_left (d + 1) (m.Parens d None k) → In_left (m.Opened d k)
opened_state d k (due l) = in_ (r.opened_term l)

names_state : (d at : ℕ) (v : Word) (vs : List Word) (k : m.Term_in) → Term_left (m.Parens d None k) (m.spine (m.named v vs)) → In_left (m.Names d at v vs k)
names_state d at v vs k (left rest) = in_ (r.names_term refl (r.end rest))

domain_names : (b : m.Telescope) (n : Option Word) (ns : List (Option Word)) (k : m.Term_in) → Term_left (m.Domain b (n ∷ ns) k) (tree.Named word) → In_left (m.BinderNames b (n ∷ ns) k)
domain_names b n ns k (left (r.domain rest)) = in_ (r.names (r.colon term rest))

domain_open : (b : m.Telescope) (k : m.Term_in) → Term_left (m.Domain b (None ∷ []) k) (tree.Named word) → In_left (m.BinderOpen b k)
domain_open b k (left (r.domain rest)) = in_ (r.binder (r.blank (r.colon term rest)))

domain_first : (b : m.Telescope) (k : m.Term_in) → Term_left (m.Domain b (None ∷ []) k) (tree.Named word) → In_left (m.BinderNames b [] k)
domain_first b k (left (r.domain rest)) = in_ (r.names (r.blank (r.colon term rest)))

names_left : (b : m.Telescope) (ns : List (Option Word)) (k : m.Term_in) → In_left (m.BinderNames b ns k)
names_left b [] k = domain_first b k (term_left (m.Domain b (None ∷ []) k) (tree.Named word))
names_left b (n ∷ ns) k = domain_names b n ns k (term_left (m.Domain b (n ∷ ns) k) (tree.Named word))

next_state : (b : m.Telescope) (k : m.Term_in) → Term_left k (m.quantified b.quantifier b.binders (tree.Named word)) → In_left (m.BinderNext b k)
next_state b k (left rest) = in_ (r.binders (r.into term rest))

let_name : (d : ℕ) (k : m.Term_in) → Due_left (d + 1) (m.LetType d word k) → In_left (m.LetName d k)
let_name d k (due l) = in_ (r.let_name l)

let_colon : (d : ℕ) (v : Word) (k : m.Term_in) → Due_left (d + 1) (m.LetType d v k) → In_left (m.LetColon d v k)
let_colon d v k (due l) = in_ (r.let_colon l)

atoms_state : (d : ℕ) (s : m.Spine) (k : m.Term_in) → Term_left k (m.spine s) → In_left (m.Atoms d s k)
atoms_state d s k (left rest) = in_ (r.atoms (r.end rest))

in_left : (s : m.Term_state) → In_left s
in_left (m.Term d k) = term_state d k (due_left d k)
in_left (m.Level d s k) = level_state d s k (term_left k (m.spine (m.plus s (tree.Sort 0))))
in_left (m.Opened d k) = opened_state d k (due_left (d + 1) (m.Parens d None k))
in_left (m.Names d at v vs k) = names_state d at v vs k (term_left (m.Parens d None k) (m.spine (m.named v vs)))
in_left (m.BinderOpen b k) = domain_open b k (term_left (m.Domain b (None ∷ []) k) (tree.Named word))
in_left (m.BinderNames b ns k) = names_left b ns k
in_left (m.BinderNext b k) = next_state b k (term_left k (m.quantified b.quantifier b.binders (tree.Named word)))
in_left (m.LetName d k) = let_name d k (due_left (d + 1) (m.LetType d word k))
in_left (m.LetColon d v k) = let_colon d v k (due_left (d + 1) (m.LetType d v k))
in_left (m.Atoms d s k) = atoms_state d s k (term_left k (m.spine s))

data Among_left (s : m.Clause_state) : Type 0 where
  among : {ts : List Lexeme} {ds : List tree.Decl} → r.RestAmong every s ts ds → Among_left s

pats_state : (d : ℕ) (v : Bool) (k : m.Pats_in) → Pats_left d v k → Among_left (m.Pats d v k)
pats_state d v k (pats rest) = among (r.pats rest)

open_state : (d : ℕ) (v : Bool) (k : m.Pats_in) → Pats_left (d + 1) v (m.Inside (m.behind d word) k) → Among_left (m.PatOpen d v k)
open_state d v k (pats rest) = among (r.con rest)

dot_state : (d : ℕ) (v : Bool) (k : m.Pats_in) → Pats_left d v (m.with_pat (tree.Dot (tree.Named word)) k) → Among_left (m.DotAtom d v k)
dot_state d v k (pats rest) = among (r.dot g.plain rest)

dot_level : (d : ℕ) (v : Bool) (k : m.Pats_in) → Pats_left d v (m.with_pat (tree.Dot (tree.Sort 0)) k) → Among_left (m.DotLevel d v k)
dot_level d v k (pats rest) = among (r.level rest)

first_clause : (d : ℕ) (k : m.Clauses_in) → Closed_left k → Among_left (m.FirstClause d k)
first_clause d k (closed rest) = among (r.first (r.none rest))

clause_name : (d : ℕ) (k : m.Clauses_in) → Clause_left d (tree.Is word [] (tree.Side (tree.Named word))) k → Among_left (m.ClauseName d k)
clause_name d k (clause rest) = among (r.due (r.clause (g.side refl g.end term) rest))

clause_state : (d : ℕ) (b : tree.Clause) (k : m.Clauses_in) → Clause_left d b k → Among_left (m.ClauseEnd d b k)
clause_state d b k (clause rest) = among (r.end rest)

among_left : (s : m.Clause_state) → Among_left s
among_left (m.Pats d v k) = pats_state d v k (pats_left k d v)
among_left (m.PatOpen d v k) = open_state d v k (pats_left (m.Inside (m.behind d word) k) (d + 1) v)
among_left (m.DotAtom d v k) = dot_state d v k (more_left k (tree.Dot (tree.Named word)) d v)
among_left (m.DotLevel d v k) = dot_level d v k (more_left k (tree.Dot (tree.Sort 0)) d v)
among_left (m.FirstClause d k) = first_clause d k (closed_left k)
among_left (m.ClauseName d k) = clause_name d k (clause_left k d (tree.Is word [] (tree.Side (tree.Named word))))
among_left (m.ClauseEnd d b k) = clause_state d b k (clause_left k d b)

def_state : {s : m.Def_state} → Def_left s → Left (m.In_def s)
def_state (def l) = finished _ _ (r.in_def l)

data_state : {s : m.Data_state} → Data_left s → Left (m.In_data s)
data_state (data_ l) = finished _ _ (r.in_data l)

mutual_state : {s : m.Mutual_state} → Mutual_left s → Left (m.In_mutual s)
mutual_state (mutual_ l) = finished _ _ (r.in_mutual l)

in_state : {s : m.Term_state} → In_left s → Left (m.In_term s)
in_state (in_ l) = finished _ _ (r.in_term l)

among_state : {s : m.Clause_state} → Among_left s → Left (m.In_clause s)
among_state (among l) = finished _ _ (r.in_clause l)

-- every state
pub left_in : (s : m.State) → Left s
left_in m.Start = finished [] [] (r.start g.end)
left_in (m.In_def s) = def_state (def_left s)
left_in (m.In_data s) = data_state (data_left s)
left_in (m.In_mutual s) = mutual_state (mutual_left s)
left_in (m.In_term s) = in_state (in_left s)
left_in (m.In_clause s) = among_state (among_left s)
