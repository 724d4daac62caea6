-- The grammar follows the machine: where the machine goes on with a lexeme, so does the grammar.
use Rattle.std.proofs.Common.{◌≡◌, ℕ, ◌+◌, Bool, true, false, cond, List, [], ◌∷◌, ◌++◌, length, refl, subst, arith}
use Rattle.std.specs.Prelude.{Option, Some, None}
use Rattle.surface_syntax.specs.Trees as tree
use Rattle.surface_syntax.specs.Grammar as g
use Rattle.surface_syntax.specs.Machine as m
use Rattle.surface_syntax.specs.declared.tree.Word.{Word}
use Rattle.surface_syntax.specs.declared.lexeme.Lexeme.{Lexeme}
use Rattle.surface_syntax.specs.declared.lexeme.Lexeme.TheVariants as x
use Rattle.surface_syntax.proofs.Rest as r
use Rattle.surface_syntax.proofs.Trees_read as w
use Rattle.surface_syntax.proofs.Pieces as p
use Rattle.surface_syntax.proofs.Declarations_read as d
use Rattle.surface_syntax.proofs.Complete as c

module _ (allows : ℕ → ℕ → Bool) where
  -- a production that may begin, and the lexemes that it goes on with
  data Allowed (n left : ℕ) (out : m.Outcome) (ts : List Lexeme) (ds : List tree.Decl) : Type 0 where
    allowed : allows n left ≡ true → r.Led allows out ts ds → Allowed n left out ts ds

  by_test : (b : Bool) (n left : ℕ) (out : m.Outcome) {ts : List Lexeme} {ds : List tree.Decl} → allows n left ≡ b → r.Led allows (cond b out (m.Over left)) ts ds → Allowed n left out ts ds
  by_test true n left out e l = allowed e l
  by_test false n left out e l = elim l [ ]

  may_sound : (n left : ℕ) (out : m.Outcome) {ts : List Lexeme} {ds : List tree.Decl} → r.Led allows (m.may allows n left out) ts ds → Allowed n left out ts ds
  may_sound n left out l = by_test (allows n left) n left out refl l

  -- in a definition
  start_sound : (y : Lexeme) {ts : List Lexeme} {ds : List tree.Decl} → r.Led allows (m.start None y) ts ds → g.File allows (y ∷ ts) ds
  start_sound x.Def (r.goes (r.in_def s)) = d.def_file allows s
  start_sound x.Data (r.goes (r.in_data s)) = d.data_file allows s
  start_sound x.Fun (r.goes (r.in_def s)) = d.fun_file allows s
  start_sound _ l = elim l [ ]

  data Started (o : tree.Decl) (y : Lexeme) (ts : List Lexeme) : List tree.Decl → Type 0 where
    started : {ds : List tree.Decl} → g.File allows (y ∷ ts) ds → Started o y ts (o ∷ ds)

  starts_sound : (o : tree.Decl) (y : Lexeme) {ts : List Lexeme} {ds : List tree.Decl} → r.Led allows (m.start (Some o) y) ts ds → Started o y ts ds
  starts_sound o x.Def (r.gives (r.in_def s)) = started (d.def_file allows s)
  starts_sound o x.Data (r.gives (r.in_data s)) = started (d.data_file allows s)
  starts_sound o x.Fun (r.gives (r.in_def s)) = started (d.fun_file allows s)
  starts_sound o _ l = elim l [ ]

  def_sound : (s : m.Def_state) (y : Lexeme) {ts : List Lexeme} {ds : List tree.Decl} → r.Led allows (m.def_step s y) ts ds → r.RestDef allows s (y ∷ ts) ds
  def_sound m.DefName (x.Plain v) (r.goes (r.in_def s)) = r.name s
  def_sound m.DefName _ l = elim l [ ]
  def_sound (m.DefNext v) x.Colon (r.goes (r.in_term (r.due s))) = r.type s
  def_sound (m.DefNext v) x.Equals (r.goes (r.in_def s)) = r.decide s
  def_sound (m.DefNext v) _ l = elim l [ ]
  def_sound (m.DecideData v) x.Data (r.goes (r.in_def s)) = r.family s
  def_sound (m.DecideData v) _ l = elim l [ ]
  def_sound (m.DecideFamily v) (x.Plain f) (r.goes (r.in_def s)) = r.decision s
  def_sound (m.DecideFamily v) _ l = elim l [ ]
  def_sound (m.DecideDecision v f) (x.Plain e) (r.gives (r.start file)) = r.done file
  def_sound (m.DecideDecision v f) _ l = elim l [ ]
  def_sound m.FunName (x.Plain v) (r.goes (r.in_def s)) = r.fun s
  def_sound m.FunName _ l = elim l [ ]
  def_sound (m.FunColon v) x.Colon (r.goes (r.in_term (r.due s))) = r.fun_type s
  def_sound (m.FunColon v) _ l = elim l [ ]

  -- in families
  read_member : (ps : List tree.Typed) (n : tree.Member) (ms : List tree.Member) (v : Word) (a : tree.Surf) {ts us : List Lexeme} {ds : List tree.Decl} → g.Term allows 0 ts (x.OpenBrace ∷ us) a →
      d.Cons_read allows (record { params = ps; members = n ∷ ms }) (record { name = v; ty = a; cons = [] }) us ds → r.RestMembers allows ps (n ∷ ms) (x.With ∷ x.Plain v ∷ x.Colon ∷ ts) ds
  read_member ps n ms v a t (d.read_cons cons (r.later more)) = r.member t cons more

  read_second : (ps : List tree.Typed) (n : tree.Member) (v : Word) (a : tree.Surf) {ts us : List Lexeme} {ds : List tree.Decl} → g.Term allows 0 ts (x.OpenBrace ∷ us) a →
      d.Cons_read allows (record { params = ps; members = n ∷ [] }) (record { name = v; ty = a; cons = [] }) us ds → r.RestMember allows ps [] n (x.With ∷ x.Plain v ∷ x.Colon ∷ ts) ds
  read_second ps n v a t (d.read_cons cons (r.later more)) = r.first t cons more

  family_with : (ps : List tree.Typed) (n : tree.Member) {ts : List Lexeme} {ds : List tree.Decl} → r.RestMutual allows (m.MemberName (record { params = ps; members = n ∷ [] })) ts ds → r.RestMember allows ps [] n (x.With ∷ ts) ds
  family_with ps n (r.name {w = v} (r.term {t = a} t (r.whole (r.member more)))) = read_second ps n v a t (d.cons_read allows more)

  members_sound : (ps : List tree.Typed) (n : tree.Member) (ms : List tree.Member) {ts : List Lexeme} {ds : List tree.Decl} → r.RestMutual allows (m.MembersEnd (record { params = ps; members = n ∷ ms })) ts ds → r.RestMembers allows ps (n ∷ ms) ts ds
  members_sound ps n ms (r.over (r.packed tags)) = r.packed tags
  members_sound ps n ms (r.again (r.name {w = v} (r.term {t = a} t (r.whole (r.member more))))) = read_member ps n ms v a t (d.cons_read allows more)

  member_sound : (ps : List tree.Typed) (ms : List tree.Member) (n : tree.Member) {ts : List Lexeme} {ds : List tree.Decl} → r.Led allows (m.member_end ps ms n) ts ds → r.RestMember allows ps ms n ts ds
  member_sound ps [] n (r.goes (r.in_data (r.end s))) = s
  member_sound ps (n' ∷ ms) n (r.goes (r.in_mutual s)) = r.later (members_sound ps n' (ms ++ n ∷ []) s)

  family_end : (ps : List tree.Typed) (n : tree.Member) {y : Lexeme} {ts : List Lexeme} {ds : List tree.Decl} → Started (tree.Data n.name ps n.ty n.cons) y ts ds → r.RestMember allows ps [] n (y ∷ ts) ds
  family_end ps n (started file) = r.only file

  con_type_cons : (f : m.Families) (n : tree.Member) (v : Word) {ts : List Lexeme} {ds : List tree.Decl} → r.RestData allows (m.ConColon f n v) ts ds → r.RestCons allows f n (x.Plain v ∷ ts) ds
  con_type_cons f n v (r.con_type (r.term t (r.whole (r.con more)))) = r.more t more
  con_type_cons f n v (r.con_type (r.term t (r.whole (r.last_con more)))) = r.last t more

  param_type : (v q : Word) (ps : List tree.Typed) {ts : List Lexeme} {ds : List tree.Decl} → r.Due allows 0 (m.Whole (m.ParamType v ps q)) ts ds → r.RestParams allows v ps (x.Open ∷ x.Plain q ∷ x.Colon ∷ ts) ds
  param_type v q ps (r.term t (r.whole (r.param more))) = r.param t more

  data_sound : (s : m.Data_state) (y : Lexeme) {ts : List Lexeme} {ds : List tree.Decl} → r.Led allows (m.data_step s y) ts ds → r.RestData allows s (y ∷ ts) ds
  data_sound m.DataName (x.Plain v) (r.goes (r.in_data (r.params s))) = r.name s
  data_sound m.DataName _ l = elim l [ ]
  data_sound (m.Params v ps) x.Open (r.goes (r.in_data (r.param s))) = r.params (param_type v _ ps s)
  data_sound (m.Params v ps) x.Colon (r.goes (r.in_term (r.due (r.term t (r.whole (r.member more)))))) = r.params (r.end t more)
  data_sound (m.Params v ps) _ l = elim l [ ]
  data_sound (m.ParamName v ps) (x.Plain q) (r.goes (r.in_data (r.param_type s))) = r.param s
  data_sound (m.ParamName v ps) _ l = elim l [ ]
  data_sound (m.ParamColon v ps q) x.Colon (r.goes (r.in_term (r.due s))) = r.param_type s
  data_sound (m.ParamColon v ps q) _ l = elim l [ ]
  data_sound (m.FirstCon f n) x.CloseBrace l = r.first (r.none (member_sound f.params f.members n l))
  data_sound (m.FirstCon f n) (x.Plain v) (r.goes (r.in_data s)) = r.first (r.some (con_type_cons f n v s))
  data_sound (m.FirstCon f n) _ l = elim l [ ]
  data_sound (m.ConName f n) (x.Plain v) (r.goes (r.in_data s)) = r.con (con_type_cons f n v s)
  data_sound (m.ConName f n) _ l = elim l [ ]
  data_sound (m.ConColon f n v) x.Colon (r.goes (r.in_term (r.due s))) = r.con_type s
  data_sound (m.ConColon f n v) _ l = elim l [ ]
  data_sound (m.FamilyEnd ps n) x.With (r.goes (r.in_mutual s)) = r.end (family_with ps n s)
  data_sound (m.FamilyEnd ps n) y l = r.end (family_end ps n (starts_sound (tree.Data n.name ps n.ty n.cons) y l))

  tag_next : (f : m.Families) (v t u : Word) (us : List Word) {ts : List Lexeme} {ds : List tree.Decl} → r.RestMutual allows (m.TagNext f v t (us ++ u ∷ [])) ts ds → r.RestTags allows f.params f.members v t us (x.Plain u ∷ ts) ds
  tag_next f v t u us (r.next more) = r.more more
  tag_next f v t u us (r.last file) = r.last file

  mutual_sound : (s : m.Mutual_state) (y : Lexeme) {ts : List Lexeme} {ds : List tree.Decl} → r.Led allows (m.mutual_step s y) ts ds → r.RestMutual allows s (y ∷ ts) ds
  mutual_sound (m.MembersEnd f) x.With (r.goes (r.in_mutual s)) = r.again s
  mutual_sound (m.MembersEnd f) x.In (r.goes (r.in_mutual s)) = r.over s
  mutual_sound (m.MembersEnd f) _ l = elim l [ ]
  mutual_sound (m.MemberName f) (x.Plain v) (r.goes (r.in_mutual (r.type s))) = r.name s
  mutual_sound (m.MemberName f) _ l = elim l [ ]
  mutual_sound (m.MemberColon f v) x.Colon (r.goes (r.in_term (r.due s))) = r.type s
  mutual_sound (m.MemberColon f v) _ l = elim l [ ]
  mutual_sound (m.PackedName f) (x.Plain v) (r.goes (r.in_mutual (r.family s))) = r.packed s
  mutual_sound (m.PackedName f) _ l = elim l [ ]
  mutual_sound (m.TagFamily f v) (x.Plain t) (r.goes (r.in_mutual (r.opens s))) = r.family s
  mutual_sound (m.TagFamily f v) _ l = elim l [ ]
  mutual_sound (m.TagsOpen f v t) x.OpenBrace (r.goes (r.in_mutual (r.tag s))) = r.opens s
  mutual_sound (m.TagsOpen f v t) _ l = elim l [ ]
  mutual_sound (m.TagName f v t us) (x.Plain u) (r.goes (r.in_mutual s)) = r.tag (tag_next f v t u us s)
  mutual_sound (m.TagName f v t us) _ l = elim l [ ]
  mutual_sound (m.TagNext f v t us) x.Semicolon (r.goes (r.in_mutual (r.tag s))) = r.next s
  mutual_sound (m.TagNext f v t us) x.CloseBrace (r.gives (r.start file)) = r.last file
  mutual_sound (m.TagNext f v t us) _ l = elim l [ ]

  -- after clauses and terms
  closed_sound : (k : m.Clauses_in) {ts : List Lexeme} {ds : List tree.Decl} → r.Led allows (m.closed k) ts ds → r.RestClosed allows k ts ds
  closed_sound (m.Fun v a cs) (r.gives (r.start file)) = r.fun file
  closed_sound (m.Inspect h t cs k) (r.goes (r.in_clause (r.end s))) = r.inspect s

  clause_sound : (n : ℕ) (b : tree.Clause) (k : m.Clauses_in) (y : Lexeme) {ts : List Lexeme} {ds : List tree.Decl} → r.Led allows (m.clause_end n b k y) ts ds → r.RestClause allows n b k (y ∷ ts) ds
  clause_sound n b k x.Semicolon (r.goes (r.in_clause (r.due s))) = r.more s
  clause_sound n b k x.CloseBrace l = r.last (closed_sound (m.with_clause b k) l)
  clause_sound n b k _ l = elim l [ ]

  def_body_sound : (v : Word) (a b : tree.Surf) {y : Lexeme} {ts : List Lexeme} {ds : List tree.Decl} → Started (tree.Def v a b) y ts ds → r.RestPart allows (m.DefBody v a) b (y ∷ ts) ds
  def_body_sound v a b (started file) = r.def_body file

  def_type_sound : (v : Word) (a : tree.Surf) {ts : List Lexeme} {ds : List tree.Decl} → r.Due allows 0 (m.Whole (m.DefBody v a)) ts ds → r.RestPart allows (m.DefType v) a (x.Equals ∷ ts) ds
  def_type_sound v a (r.term t (r.whole (r.def_body file))) = r.def_type t file

  con_end_sound : (f : m.Families) (n : tree.Member) (v : Word) (a : tree.Surf) (y : Lexeme) {ts : List Lexeme} {ds : List tree.Decl} → r.Led allows (m.con_end f (m.with_con n v a) y) ts ds → r.RestPart allows (m.ConType f n v) a (y ∷ ts) ds
  con_end_sound f n v a x.Semicolon (r.goes (r.in_data (r.con s))) = r.con s
  con_end_sound f n v a x.CloseBrace l = r.last_con (member_sound f.params f.members (m.with_con n v a) l)
  con_end_sound f n v a _ l = elim l [ ]

  part_sound : (t : tree.Surf) (q : m.Part) (y : Lexeme) {ts : List Lexeme} {ds : List tree.Decl} → r.Led allows (m.part_end t q y) ts ds → r.RestPart allows q t (y ∷ ts) ds
  part_sound t (m.DefType v) x.Equals (r.goes (r.in_term (r.due s))) = def_type_sound v t s
  part_sound t (m.DefType v) _ l = elim l [ ]
  part_sound t (m.DefBody v a) y l = def_body_sound v a t (starts_sound (tree.Def v a t) y l)
  part_sound t (m.ParamType v ps q) x.Close (r.goes (r.in_data (r.params s))) = r.param s
  part_sound t (m.ParamType v ps q) _ l = elim l [ ]
  part_sound t (m.MemberType f v) x.OpenBrace (r.goes (r.in_data (r.first s))) = r.member s
  part_sound t (m.MemberType f v) _ l = elim l [ ]
  part_sound t (m.ConType f n v) y l = con_end_sound f n v t y l
  part_sound t (m.FunType v) x.OpenBrace (r.goes (r.in_clause (r.first s))) = r.fun s
  part_sound t (m.FunType v) _ l = elim l [ ]

  let_type_sound : (n : ℕ) (v : Word) (a : tree.Surf) (k : m.Term_in) {ts : List Lexeme} {ds : List tree.Decl} → r.Due allows (n + 1) (m.LetValue n v a k) ts ds → r.RestTerm allows (m.LetType n v k) a (x.Equals ∷ ts) ds
  let_type_sound n v a k (r.term t (r.let_value b more)) = r.let_type t b more

  let_value_sound : (n : ℕ) (v : Word) (a t : tree.Surf) (k : m.Term_in) {ts : List Lexeme} {ds : List tree.Decl} → r.Due allows (n + 1) (m.LetBody v a t k) ts ds → r.RestTerm allows (m.LetValue n v a k) t (x.In ∷ ts) ds
  let_value_sound n v a t k (r.term b (r.let_body more)) = r.let_value b more

  term_end_sound : (t : tree.Surf) (k : m.Term_in) (y : Lexeme) {ts : List Lexeme} {ds : List tree.Decl} → r.Led allows (m.term_end t k y) ts ds → r.RestTerm allows k t (y ∷ ts) ds
  term_end_sound t (m.Whole q) y l = r.whole (part_sound t q y l)
  term_end_sound t (m.Parens n s k) x.Close (r.goes (r.in_term (r.atoms more))) = r.parens more
  term_end_sound t (m.Parens n s k) _ l = elim l [ ]
  term_end_sound t (m.Codomain a k) y l = r.codomain (term_end_sound (tree.Arrow a t) k y l)
  term_end_sound t (m.Domain b ns k) x.Close (r.goes (r.in_term (r.binders more))) = r.domain more
  term_end_sound t (m.Domain b ns k) _ l = elim l [ ]
  term_end_sound t (m.Body b k) y l = r.body (term_end_sound (m.quantified b.quantifier b.binders t) k y l)
  term_end_sound t (m.LetType n v k) x.Equals (r.goes (r.in_term (r.due s))) = let_type_sound n v t k s
  term_end_sound t (m.LetType n v k) _ l = elim l [ ]
  term_end_sound t (m.LetValue n v a k) x.In (r.goes (r.in_term (r.due s))) = let_value_sound n v a t k s
  term_end_sound t (m.LetValue n v a k) _ l = elim l [ ]
  term_end_sound t (m.LetBody v a u k) y l = r.let_body (term_end_sound (tree.Let v a u t) k y l)
  term_end_sound t (m.Dot n void k) x.Close (r.goes (r.in_clause (r.pats more))) = r.dot more
  term_end_sound t (m.Dot n void k) _ l = elim l [ ]
  term_end_sound t (m.Side h k) y l = r.side (clause_sound h.depth (m.clause h (tree.Side t)) k y l)
  term_end_sound t (m.Scrutinee h k) x.OpenBrace (r.goes (r.in_clause (r.first more))) = r.scrutinee more
  term_end_sound t (m.Scrutinee h k) _ l = elim l [ ]

  -- in terms
  parens_atom : (n : ℕ) (s : m.Spine) (k : m.Term_in) {ts : List Lexeme} {ds : List tree.Decl} → r.Due allows (n + 1) (m.Parens n (Some s) k) ts ds → r.RestAtoms allows n s k (x.Open ∷ ts) ds
  parens_atom n s k (r.term t (r.parens more)) = r.atom (g.parens t) more

  arrow_atom : (n : ℕ) (s : m.Spine) (k : m.Term_in) {ts : List Lexeme} {ds : List tree.Decl} → r.Due allows (n + 1) (m.Codomain (m.spine s) k) ts ds → r.RestAtoms allows n s k (x.Arrow ∷ ts) ds
  arrow_atom n s k (r.term t (r.codomain more)) = r.arrow t more

  level_atom : (n : ℕ) (s : m.Spine) (k : m.Term_in) {ts : List Lexeme} {ds : List tree.Decl} → r.RestIn allows (m.Level n (Some s) k) ts ds → r.RestAtoms allows n s k (x.Type ∷ ts) ds
  level_atom n s k (r.level more) = r.atom g.sort more

  atoms_sound : (n : ℕ) (s : m.Spine) (k : m.Term_in) (y : Lexeme) {ts : List Lexeme} {ds : List tree.Decl} → r.Led allows (m.atoms n s k y) ts ds → r.RestAtoms allows n s k (y ∷ ts) ds
  atoms_sound n s k (x.Plain v) (r.goes (r.in_term (r.atoms more))) = r.atom g.plain more
  atoms_sound n s k (x.Dotted v) (r.goes (r.in_term (r.atoms more))) = r.atom g.dotted more
  atoms_sound n s k x.Type (r.goes (r.in_term l)) = level_atom n s k l
  atoms_sound n s k x.Open (r.goes (r.in_term (r.due l))) = parens_atom n s k l
  atoms_sound n s k x.Arrow (r.goes (r.in_term (r.due l))) = arrow_atom n s k l
  atoms_sound n s k y l = r.end (term_end_sound (m.spine s) k y l)

  -- where a term begins
  lam_due : (n : ℕ) (k : m.Term_in) {ts : List Lexeme} {ds : List tree.Decl} → allows n (length (x.Backslash ∷ ts)) ≡ true → r.RestIn allows (m.BinderOpen (record { depth = n; quantifier = m.Function; binders = [] }) k) ts ds → r.Due allows n k (x.Backslash ∷ ts) ds
  lam_due n k may (r.binder names) = p.function_read allows may (p.binders_read allows (r.binder names)) _ refl

  open_due : (n : ℕ) (k : m.Term_in) {ts : List Lexeme} {ds : List tree.Decl} → allows n (length (x.Open ∷ ts)) ≡ true → r.RestIn allows (m.Opened n k) ts ds → r.Due allows n k (x.Open ∷ ts) ds
  open_due n k may (r.opened_binder names) = p.product_read allows may (p.binders_read allows (r.binder names)) x.Open _ refl
  open_due n k may (r.opened_term (r.term t (r.parens more))) = p.application allows may (g.parens t) (p.atoms_read allows more)

  let_due : (n : ℕ) (k : m.Term_in) {ts : List Lexeme} {ds : List tree.Decl} → allows n (length (x.Let ∷ ts)) ≡ true → r.RestIn allows (m.LetName n k) ts ds → r.Due allows n k (x.Let ∷ ts) ds
  let_due n k may (r.let_name (r.term a (r.let_type t b more))) = r.term (g.«let» may a t b) more

  level_due : (n : ℕ) (k : m.Term_in) {ts : List Lexeme} {ds : List tree.Decl} → allows n (length (x.Type ∷ ts)) ≡ true → r.RestIn allows (m.Level n None k) ts ds → r.Due allows n k (x.Type ∷ ts) ds
  level_due n k may (r.level more) = p.application allows may g.sort (p.atoms_read allows more)

  term_start_sound : (n : ℕ) (k : m.Term_in) (y : Lexeme) {ts : List Lexeme} {ds : List tree.Decl} → allows n (length (y ∷ ts)) ≡ true → r.Led allows (m.term_start n k y) ts ds → r.Due allows n k (y ∷ ts) ds
  term_start_sound n k x.Backslash may (r.goes (r.in_term s)) = lam_due n k may s
  term_start_sound n k x.Let may (r.goes (r.in_term s)) = let_due n k may s
  term_start_sound n k x.Open may (r.goes (r.in_term s)) = open_due n k may s
  term_start_sound n k x.Type may (r.goes (r.in_term s)) = level_due n k may s
  term_start_sound n k (x.Plain v) may (r.goes (r.in_term (r.atoms more))) = p.application allows may g.plain (p.atoms_read allows more)
  term_start_sound n k (x.Dotted v) may (r.goes (r.in_term (r.atoms more))) = p.application allows may g.dotted (p.atoms_read allows more)
  term_start_sound n k _ may l = elim l [ ]

  due_sound : (n : ℕ) (k : m.Term_in) (y : Lexeme) {ts : List Lexeme} {ds : List tree.Decl} → Allowed n (length (y ∷ ts)) (m.term_start n k y) ts ds → r.Due allows n k (y ∷ ts) ds
  due_sound n k y (allowed e l) = term_start_sound n k y e l

  plain_opened : (n : ℕ) (k : m.Term_in) (v : Word) {ts : List Lexeme} {ds : List tree.Decl} → r.RestIn allows (m.Names n (length (x.Plain v ∷ ts)) v [] k) ts ds → r.RestIn allows (m.Opened n k) (x.Plain v ∷ ts) ds
  plain_opened n k v (r.names_binder names) = r.opened_binder (r.plain names)
  plain_opened n k v (r.names_term e more) = r.opened_term (p.application allows e g.plain (p.atoms_read allows more))

  opened_sound : (n : ℕ) (k : m.Term_in) (y : Lexeme) {ts : List Lexeme} {ds : List tree.Decl} → r.Led allows (m.opened allows n (length (y ∷ ts)) k y) ts ds → r.RestIn allows (m.Opened n k) (y ∷ ts) ds
  opened_sound n k (x.Plain v) (r.goes (r.in_term s)) = plain_opened n k v s
  opened_sound n k x.Underscore (r.goes (r.in_term (r.names s))) = r.opened_binder (r.blank s)
  opened_sound n k y {ts} l = r.opened_term (due_sound (n + 1) (m.Parens n None k) y (may_sound (n + 1) (length (y ∷ ts)) (m.term_start (n + 1) (m.Parens n None k) y) l))

  plain_names : (n at : ℕ) (v u : Word) (vs : List Word) (k : m.Term_in) {ts : List Lexeme} {ds : List tree.Decl} → r.RestIn allows (m.Names n at v (vs ++ u ∷ []) k) ts ds → r.RestIn allows (m.Names n at v vs k) (x.Plain u ∷ ts) ds
  plain_names n at v u vs k {ts} {ds} (r.names_binder names) =
      r.names_binder (r.plain (subst (λ (l : List (Option Word)). r.RestNames allows (m.product allows n) l k ts ds) (c.some_names_more allows (v ∷ vs) u) names))
  plain_names n at v u vs k {ts} {ds} (r.names_term e more) =
      r.names_term e (r.atom g.plain (subst (λ (l : List tree.Surf). r.RestAtoms allows (n + 1) (record { head = tree.Named v; args = l }) (m.Parens n None k) ts ds) (c.named_more allows vs u) more))

  domain_names : (n at : ℕ) (v : Word) (vs : List Word) (k : m.Term_in) {ts : List Lexeme} {ds : List tree.Decl} → r.Due allows (n + 1) (m.Domain (m.product allows n) (m.some_names (v ∷ vs)) k) ts ds → r.RestIn allows (m.Names n at v vs k) (x.Colon ∷ ts) ds
  domain_names n at v vs k (r.term t (r.domain more)) = r.names_binder (r.colon t more)

  names_application : (n at : ℕ) (v : Word) (vs : List Word) (k : m.Term_in) (y : Lexeme) {ts : List Lexeme} {ds : List tree.Decl} → Allowed (n + 1) at (m.atoms (n + 1) (m.named v vs) (m.Parens n None k) y) ts ds → r.RestIn allows (m.Names n at v vs k) (y ∷ ts) ds
  names_application n at v vs k y (allowed e l) = r.names_term e (atoms_sound (n + 1) (m.named v vs) (m.Parens n None k) y l)

  names_sound : (n at : ℕ) (v : Word) (vs : List Word) (k : m.Term_in) (y : Lexeme) {ts : List Lexeme} {ds : List tree.Decl} → r.Led allows (m.names allows n at v vs k y) ts ds → r.RestIn allows (m.Names n at v vs k) (y ∷ ts) ds
  names_sound n at v vs k (x.Plain u) (r.goes (r.in_term s)) = plain_names n at v u vs k s
  names_sound n at v vs k x.Underscore (r.goes (r.in_term (r.names s))) = r.names_binder (r.blank s)
  names_sound n at v vs k x.Colon (r.goes (r.in_term (r.due s))) = domain_names n at v vs k s
  names_sound n at v vs k y l = names_application n at v vs k y (may_sound (n + 1) at (m.atoms (n + 1) (m.named v vs) (m.Parens n None k) y) l)

  domain_sound : (b : m.Telescope) (ns : List (Option Word)) (k : m.Term_in) {ts : List Lexeme} {ds : List tree.Decl} → r.Led allows (m.domain b ns k) ts ds → r.RestNames allows b ns k (x.Colon ∷ ts) ds
  domain_sound b [] k l = elim l [ ]
  domain_sound b (v ∷ ns) k (r.goes (r.in_term (r.due (r.term t (r.domain more))))) = r.colon t more

  binder_names_sound : (b : m.Telescope) (ns : List (Option Word)) (k : m.Term_in) (y : Lexeme) {ts : List Lexeme} {ds : List tree.Decl} → r.Led allows (m.binder_names b ns k y) ts ds → r.RestNames allows b ns k (y ∷ ts) ds
  binder_names_sound b ns k (x.Plain v) (r.goes (r.in_term (r.names s))) = r.plain s
  binder_names_sound b ns k x.Underscore (r.goes (r.in_term (r.names s))) = r.blank s
  binder_names_sound b ns k x.Colon l = domain_sound b ns k l
  binder_names_sound b ns k _ l = elim l [ ]

  body_due : (b : m.Telescope) (k : m.Term_in) {ts : List Lexeme} {ds : List tree.Decl} → r.Due allows (b.depth + 1) (m.Body b k) ts ds → r.RestBinders allows b k (x.Arrow ∷ ts) ds
  body_due b k (r.term t (r.body more)) = r.into t more

  binder_next_sound : (b : m.Telescope) (k : m.Term_in) (y : Lexeme) {ts : List Lexeme} {ds : List tree.Decl} → r.Led allows (m.binder_next b k y) ts ds → r.RestBinders allows b k (y ∷ ts) ds
  binder_next_sound b k x.Open (r.goes (r.in_term (r.names s))) = r.binder s
  binder_next_sound b k x.Arrow (r.goes (r.in_term (r.due s))) = body_due b k s
  binder_next_sound b k _ l = elim l [ ]

  term_sound : (s : m.Term_state) (y : Lexeme) {ts : List Lexeme} {ds : List tree.Decl} → r.Led allows (m.term_step allows (length (y ∷ ts)) s y) ts ds → r.RestIn allows s (y ∷ ts) ds
  term_sound (m.Term n k) y {ts} l = r.due (due_sound n k y (may_sound n (length (y ∷ ts)) (m.term_start n k y) l))
  term_sound (m.Level n s k) (x.Level i) (r.goes (r.in_term (r.atoms more))) = r.level more
  term_sound (m.Level n s k) _ l = elim l [ ]
  term_sound (m.Opened n k) y l = opened_sound n k y l
  term_sound (m.Names n at v vs k) y l = names_sound n at v vs k y l
  term_sound (m.BinderOpen b k) x.Open (r.goes (r.in_term (r.names s))) = r.binder s
  term_sound (m.BinderOpen b k) _ l = elim l [ ]
  term_sound (m.BinderNames b ns k) y l = r.names (binder_names_sound b ns k y l)
  term_sound (m.BinderNext b k) y l = r.binders (binder_next_sound b k y l)
  term_sound (m.LetName n k) (x.Plain v) (r.goes (r.in_term (r.let_colon s))) = r.let_name s
  term_sound (m.LetName n k) _ l = elim l [ ]
  term_sound (m.LetColon n v k) x.Colon (r.goes (r.in_term (r.due s))) = r.let_colon s
  term_sound (m.LetColon n v k) _ l = elim l [ ]
  term_sound (m.Atoms n s k) y l = r.atoms (atoms_sound n s k y l)

  -- in patterns
  zero_more : (v : Bool) (n : ℕ) → w.count allows v + n ≡ w.count allows v → n ≡ 0
  zero_more false n e = omega arith
  zero_more true n e = omega arith

  one_more : (n : ℕ) → w.count allows false + n ≡ w.count allows true → n ≡ 1
  one_more n e = omega arith

  none_less : (n : ℕ) → w.count allows true + n ≡ w.count allows false → ⊥
  none_less n e = omega arith

  con_pat : (n i : ℕ) (v v' : Bool) (y f : Word) (k : m.Pats_in) {qs : List tree.Pat} {ts us : List Lexeme} {ds : List tree.Decl} → allows n (length (x.Open ∷ x.Plain f ∷ ts)) ≡ true →
      g.Pats allows (n + 1) ts (x.Close ∷ us) qs i → w.count allows v + i ≡ w.count allows v' → r.RestPats allows n v' (m.with_pat (tree.Con f (tree.pats qs)) k) us ds → r.RestPats allows n v k (x.Open ∷ x.Plain f ∷ ts) ds
  con_pat n i false false y f k {qs} {ts} {us} may pats e more = r.pat (g.con may (subst (λ (j : ℕ). g.Pats allows (n + 1) ts (x.Close ∷ us) qs j) (zero_more false i e) pats)) more
  con_pat n i true true y f k {qs} {ts} {us} may pats e more = r.pat (g.con may (subst (λ (j : ℕ). g.Pats allows (n + 1) ts (x.Close ∷ us) qs j) (zero_more true i e) pats)) more
  con_pat n i false true y f k {qs} {ts} {us} may pats e more = r.void (g.con may (subst (λ (j : ℕ). g.Pats allows (n + 1) ts (x.Close ∷ us) qs j) (one_more i e) pats)) more
  con_pat n i true false y f k may pats e more = absurd (none_less i e)

  dotted_con_pat : (n i : ℕ) (v v' : Bool) (f : Word) (k : m.Pats_in) {qs : List tree.Pat} {ts us : List Lexeme} {ds : List tree.Decl} → allows n (length (x.Open ∷ x.Dotted f ∷ ts)) ≡ true →
      g.Pats allows (n + 1) ts (x.Close ∷ us) qs i → w.count allows v + i ≡ w.count allows v' → r.RestPats allows n v' (m.with_pat (tree.Con f (tree.pats qs)) k) us ds → r.RestPats allows n v k (x.Open ∷ x.Dotted f ∷ ts) ds
  dotted_con_pat n i false false f k {qs} {ts} {us} may pats e more = r.pat (g.dotted_con may (subst (λ (j : ℕ). g.Pats allows (n + 1) ts (x.Close ∷ us) qs j) (zero_more false i e) pats)) more
  dotted_con_pat n i true true f k {qs} {ts} {us} may pats e more = r.pat (g.dotted_con may (subst (λ (j : ℕ). g.Pats allows (n + 1) ts (x.Close ∷ us) qs j) (zero_more true i e) pats)) more
  dotted_con_pat n i false true f k {qs} {ts} {us} may pats e more = r.void (g.dotted_con may (subst (λ (j : ℕ). g.Pats allows (n + 1) ts (x.Close ∷ us) qs j) (one_more i e) pats)) more
  dotted_con_pat n i true false f k may pats e more = absurd (none_less i e)

  con_read : (n : ℕ) (v : Bool) (f : Word) (k : m.Pats_in) {ts : List Lexeme} {ds : List tree.Decl} → allows n (length (x.Open ∷ x.Plain f ∷ ts)) ≡ true → p.Pats_read allows (n + 1) v (m.Inside (m.behind n f) k) ts ds →
      r.RestPats allows n v k (x.Open ∷ x.Plain f ∷ ts) ds
  con_read n v f k may (p.read_pats {n = i} {v' = v'} pats e (p.con more)) = con_pat n i v v' f f k may pats e more

  dotted_con_read : (n : ℕ) (v : Bool) (f : Word) (k : m.Pats_in) {ts : List Lexeme} {ds : List tree.Decl} → allows n (length (x.Open ∷ x.Dotted f ∷ ts)) ≡ true → p.Pats_read allows (n + 1) v (m.Inside (m.behind n f) k) ts ds →
      r.RestPats allows n v k (x.Open ∷ x.Dotted f ∷ ts) ds
  dotted_con_read n v f k may (p.read_pats {n = i} {v' = v'} pats e (p.con more)) = dotted_con_pat n i v v' f k may pats e more

  open_pat : (n : ℕ) (v : Bool) (k : m.Pats_in) {ts : List Lexeme} {ds : List tree.Decl} → allows n (length (x.Open ∷ ts)) ≡ true → r.RestAmong allows (m.PatOpen n v k) ts ds → r.RestPats allows n v k (x.Open ∷ ts) ds
  open_pat n v k may (r.void more) = r.void (g.void may) more
  open_pat n v k may (r.con {c = f} more) = con_read n v f k may (p.pats_read allows more)
  open_pat n v k may (r.dotted_con {c = f} more) = dotted_con_read n v f k may (p.pats_read allows more)

  dot_pat : (n : ℕ) (v : Bool) (k : m.Pats_in) {ts : List Lexeme} {ds : List tree.Decl} → allows n (length (x.Dot ∷ ts)) ≡ true → r.RestAmong allows (m.DotAtom n v k) ts ds → r.RestPats allows n v k (x.Dot ∷ ts) ds
  dot_pat n v k may (r.dot a more) = r.pat (g.dot may a) more

  plain_pat : (n : ℕ) (v : Bool) (u : Word) (k : m.Pats_in) {ts : List Lexeme} {ds : List tree.Decl} → Allowed n (length (x.Plain u ∷ ts)) (m.to (m.In_clause (m.Pats n v (m.with_pat (tree.Name u) k)))) ts ds → r.RestPats allows n v k (x.Plain u ∷ ts) ds
  plain_pat n v u k (allowed e (r.goes (r.in_clause (r.pats more)))) = r.pat (g.plain e) more

  dotted_pat : (n : ℕ) (v : Bool) (u : Word) (k : m.Pats_in) {ts : List Lexeme} {ds : List tree.Decl} → Allowed n (length (x.Dotted u ∷ ts)) (m.to (m.In_clause (m.Pats n v (m.with_pat (tree.Name u) k)))) ts ds → r.RestPats allows n v k (x.Dotted u ∷ ts) ds
  dotted_pat n v u k (allowed e (r.goes (r.in_clause (r.pats more)))) = r.pat (g.dotted e) more

  wild_pat : (n : ℕ) (v : Bool) (k : m.Pats_in) {ts : List Lexeme} {ds : List tree.Decl} → Allowed n (length (x.Underscore ∷ ts)) (m.to (m.In_clause (m.Pats n v (m.with_pat tree.Wild k)))) ts ds → r.RestPats allows n v k (x.Underscore ∷ ts) ds
  wild_pat n v k (allowed e (r.goes (r.in_clause (r.pats more)))) = r.pat (g.wild e) more

  dot_begins : (n : ℕ) (v : Bool) (k : m.Pats_in) {ts : List Lexeme} {ds : List tree.Decl} → Allowed n (length (x.Dot ∷ ts)) (m.to (m.In_clause (m.DotAtom n v k))) ts ds → r.RestPats allows n v k (x.Dot ∷ ts) ds
  dot_begins n v k (allowed e (r.goes (r.in_clause s))) = dot_pat n v k e s

  open_begins : (n : ℕ) (v : Bool) (k : m.Pats_in) {ts : List Lexeme} {ds : List tree.Decl} → Allowed n (length (x.Open ∷ ts)) (m.to (m.In_clause (m.PatOpen n v k))) ts ds → r.RestPats allows n v k (x.Open ∷ ts) ds
  open_begins n v k (allowed e (r.goes (r.in_clause s))) = open_pat n v k e s

  side_due : (n : ℕ) (h : m.Headed) (k : m.Clauses_in) {ts : List Lexeme} {ds : List tree.Decl} → r.Due allows n (m.Side h k) ts ds → r.RestPats allows n false (m.Behind h k) (x.Equals ∷ ts) ds
  side_due n h k (r.term t (r.side more)) = r.side t more

  scrutinee_due : (n : ℕ) (h : m.Headed) (k : m.Clauses_in) {ts : List Lexeme} {ds : List tree.Decl} → r.Due allows n (m.Scrutinee h k) ts ds → r.RestPats allows n false (m.Behind h k) (x.With ∷ ts) ds
  scrutinee_due n h k (r.term t (r.scrutinee more)) = r.inspect t more

  clause_right_sound : (n : ℕ) (h : m.Headed) (k : m.Clauses_in) (y : Lexeme) {ts : List Lexeme} {ds : List tree.Decl} → r.Led allows (m.clause_right n h k y) ts ds → r.RestPats allows n false (m.Behind h k) (y ∷ ts) ds
  clause_right_sound n h k x.Equals (r.goes (r.in_term (r.due s))) = side_due n h k s
  clause_right_sound n h k x.With (r.goes (r.in_term (r.due s))) = scrutinee_due n h k s
  clause_right_sound n h k _ l = elim l [ ]

  con_right_sound : (n : ℕ) (v : Bool) (h : m.Headed) (k : m.Pats_in) (y : Lexeme) {ts : List Lexeme} {ds : List tree.Decl} → r.Led allows (m.con_right v h k y) ts ds → r.RestPats allows n v (m.Inside h k) (y ∷ ts) ds
  con_right_sound n v h k x.Close (r.goes (r.in_clause (r.pats more))) = r.con more
  con_right_sound n v h k _ l = elim l [ ]

  pats_end_sound : (n : ℕ) (v : Bool) (k : m.Pats_in) (y : Lexeme) {ts : List Lexeme} {ds : List tree.Decl} → r.Led allows (m.pats_end n v k y) ts ds → r.RestPats allows n v k (y ∷ ts) ds
  pats_end_sound n v (m.Inside h k) y l = con_right_sound n v h k y l
  pats_end_sound n true (m.Behind h k) y l = r.absurd (clause_sound h.depth (m.clause h tree.Absurd) k y l)
  pats_end_sound n false (m.Behind h k) y l = clause_right_sound n h k y l

  pats_sound : (n : ℕ) (v : Bool) (k : m.Pats_in) (y : Lexeme) {ts : List Lexeme} {ds : List tree.Decl} → r.Led allows (m.pats allows n (length (y ∷ ts)) v k y) ts ds → r.RestPats allows n v k (y ∷ ts) ds
  pats_sound n v k (x.Plain u) {ts} l = plain_pat n v u k (may_sound n (length (x.Plain u ∷ ts)) (m.to (m.In_clause (m.Pats n v (m.with_pat (tree.Name u) k)))) l)
  pats_sound n v k (x.Dotted u) {ts} l = dotted_pat n v u k (may_sound n (length (x.Dotted u ∷ ts)) (m.to (m.In_clause (m.Pats n v (m.with_pat (tree.Name u) k)))) l)
  pats_sound n v k x.Underscore {ts} l = wild_pat n v k (may_sound n (length (x.Underscore ∷ ts)) (m.to (m.In_clause (m.Pats n v (m.with_pat tree.Wild k)))) l)
  pats_sound n v k x.Dot {ts} l = dot_begins n v k (may_sound n (length (x.Dot ∷ ts)) (m.to (m.In_clause (m.DotAtom n v k))) l)
  pats_sound n v k x.Open {ts} l = open_begins n v k (may_sound n (length (x.Open ∷ ts)) (m.to (m.In_clause (m.PatOpen n v k))) l)
  pats_sound n v k y l = pats_end_sound n v k y l

  pat_open_sound : (n : ℕ) (v : Bool) (k : m.Pats_in) (y : Lexeme) {ts : List Lexeme} {ds : List tree.Decl} → r.Led allows (m.pat_open n v k y) ts ds → r.RestAmong allows (m.PatOpen n v k) (y ∷ ts) ds
  pat_open_sound n v k (x.Plain f) (r.goes (r.in_clause (r.pats more))) = r.con more
  pat_open_sound n v k (x.Dotted f) (r.goes (r.in_clause (r.pats more))) = r.dotted_con more
  pat_open_sound n false k x.Close (r.goes (r.in_clause (r.pats more))) = r.void more
  pat_open_sound n true k x.Close l = elim l [ ]
  pat_open_sound n v k _ l = elim l [ ]

  dot_level : (n : ℕ) (v : Bool) (k : m.Pats_in) {ts : List Lexeme} {ds : List tree.Decl} → r.RestAmong allows (m.DotLevel n v k) ts ds → r.RestAmong allows (m.DotAtom n v k) (x.Type ∷ ts) ds
  dot_level n v k (r.level more) = r.dot g.sort more

  dot_parens : (n : ℕ) (v : Bool) (k : m.Pats_in) {ts : List Lexeme} {ds : List tree.Decl} → r.Due allows (n + 1) (m.Dot n v k) ts ds → r.RestAmong allows (m.DotAtom n v k) (x.Open ∷ ts) ds
  dot_parens n v k (r.term t (r.dot more)) = r.dot (g.parens t) more

  dot_atom_sound : (n : ℕ) (v : Bool) (k : m.Pats_in) (y : Lexeme) {ts : List Lexeme} {ds : List tree.Decl} → r.Led allows (m.dot_atom n v k y) ts ds → r.RestAmong allows (m.DotAtom n v k) (y ∷ ts) ds
  dot_atom_sound n v k (x.Plain u) (r.goes (r.in_clause (r.pats more))) = r.dot g.plain more
  dot_atom_sound n v k (x.Dotted u) (r.goes (r.in_clause (r.pats more))) = r.dot g.dotted more
  dot_atom_sound n v k x.Type (r.goes (r.in_clause s)) = dot_level n v k s
  dot_atom_sound n v k x.Open (r.goes (r.in_term (r.due s))) = dot_parens n v k s
  dot_atom_sound n v k _ l = elim l [ ]

  -- among clauses
  inspected : (n : ℕ) (f : Word) (qs : List tree.Pat) (t : tree.Surf) (k : m.Clauses_in) {ts us vs : List Lexeme} {ds : List tree.Decl} → allows n (length (x.Plain f ∷ ts)) ≡ true → g.Pats allows (n + 1) ts (x.With ∷ us) qs 0 →
      g.Term allows (n + 1) us (x.OpenBrace ∷ vs) t → p.All_clauses allows (n + 1) (m.Inspect (record { depth = n; head = f; pats = qs }) t [] k) vs ds → r.RestDue allows n k (x.Plain f ∷ ts) ds
  inspected n f qs t k may pats u (p.all cs (r.inspect more)) = r.clause (g.inspect may pats u cs) more

  clause_read : (n : ℕ) (f : Word) (k : m.Clauses_in) {ts : List Lexeme} {ds : List tree.Decl} → allows n (length (x.Plain f ∷ ts)) ≡ true → p.Pats_read allows (n + 1) false (m.Behind (m.behind n f) k) ts ds → r.RestDue allows n k (x.Plain f ∷ ts) ds
  clause_read n f k {ts} may (p.read_pats {n = i} {ps = qs} {us = us} pats e (p.side t more)) =
      r.clause (g.side may (subst (λ (j : ℕ). g.Pats allows (n + 1) ts us qs j) (zero_more false i e) pats) t) more
  clause_read n f k {ts} may (p.read_pats {n = i} {ps = qs} {us = us} pats e (p.inspect {t = t} u more)) =
      inspected n f qs t k may (subst (λ (j : ℕ). g.Pats allows (n + 1) ts us qs j) (zero_more false i e) pats) u (p.clauses_read allows more)
  clause_read n f k {ts} may (p.read_pats {n = i} {ps = qs} {us = us} pats e (p.absurd_ more)) =
      r.clause (g.absurd may (subst (λ (j : ℕ). g.Pats allows (n + 1) ts us qs j) (one_more i e) pats)) more

  name_read : (n : ℕ) (f : Word) (k : m.Clauses_in) {ts : List Lexeme} {ds : List tree.Decl} → Allowed n (length (x.Plain f ∷ ts)) (m.to (m.In_clause (m.Pats (n + 1) false (m.Behind (m.behind n f) k)))) ts ds → r.RestDue allows n k (x.Plain f ∷ ts) ds
  name_read n f k (allowed e (r.goes (r.in_clause (r.pats more)))) = clause_read n f k e (p.pats_read allows more)

  clause_name_sound : (n : ℕ) (k : m.Clauses_in) (y : Lexeme) {ts : List Lexeme} {ds : List tree.Decl} → r.Led allows (m.clause_name allows n (length (y ∷ ts)) k y) ts ds → r.RestDue allows n k (y ∷ ts) ds
  clause_name_sound n k (x.Plain f) {ts} l = name_read n f k (may_sound n (length (x.Plain f ∷ ts)) (m.to (m.In_clause (m.Pats (n + 1) false (m.Behind (m.behind n f) k)))) l)
  clause_name_sound n k _ l = elim l [ ]

  clause_state_sound : (s : m.Clause_state) (y : Lexeme) {ts : List Lexeme} {ds : List tree.Decl} → r.Led allows (m.clause_step allows (length (y ∷ ts)) s y) ts ds → r.RestAmong allows s (y ∷ ts) ds
  clause_state_sound (m.Pats n v k) y l = r.pats (pats_sound n v k y l)
  clause_state_sound (m.PatOpen n v k) y l = pat_open_sound n v k y l
  clause_state_sound (m.DotAtom n v k) y l = dot_atom_sound n v k y l
  clause_state_sound (m.DotLevel n v k) (x.Level i) (r.goes (r.in_clause (r.pats more))) = r.level more
  clause_state_sound (m.DotLevel n v k) _ l = elim l [ ]
  clause_state_sound (m.FirstClause n k) x.CloseBrace l = r.first (r.none (closed_sound k l))
  clause_state_sound (m.FirstClause n k) y l = r.first (r.some (clause_name_sound n k y l))
  clause_state_sound (m.ClauseName n k) y l = r.due (clause_name_sound n k y l)
  clause_state_sound (m.ClauseEnd n b k) y l = r.end (clause_sound n b k y l)

  -- in every state
  pub sound : (s : m.State) (y : Lexeme) {ts : List Lexeme} {ds : List tree.Decl} → r.Led allows (m.step allows (length (y ∷ ts)) s y) ts ds → r.Rest allows s (y ∷ ts) ds
  sound m.Start y l = r.start (start_sound y l)
  sound (m.In_def s) y l = r.in_def (def_sound s y l)
  sound (m.In_data s) y l = r.in_data (data_sound s y l)
  sound (m.In_mutual s) y l = r.in_mutual (mutual_sound s y l)
  sound (m.In_term s) y l = r.in_term (term_sound s y l)
  sound (m.In_clause s) y l = r.in_clause (clause_state_sound s y l)
