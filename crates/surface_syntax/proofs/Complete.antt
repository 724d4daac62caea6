-- The machine follows the grammar: where the grammar goes on with a lexeme, so does the machine.
use Rattle.std.proofs.Common.{◌≡◌, ℕ, ◌+◌, Bool, true, false, cond, List, [], ◌∷◌, ◌++◌, length, refl, sym, ap, subst, map}
use Rattle.std.specs.Prelude.{Option, Some, None}
use Rattle.surface_syntax.specs.Trees as tree
use Rattle.surface_syntax.specs.Grammar as g
use Rattle.surface_syntax.specs.Machine as m
use Rattle.surface_syntax.specs.declared.tree.Word.{Word}
use Rattle.surface_syntax.specs.declared.lexeme.Lexeme.{Lexeme}
use Rattle.surface_syntax.specs.declared.lexeme.Lexeme.TheVariants as x
use Rattle.surface_syntax.proofs.Rest as r
use Rattle.surface_syntax.proofs.Trees_read as w

module _ (allows : ℕ → ℕ → Bool) where
  -- where a declaration begins
  data Begins : Lexeme → List Lexeme → List tree.Decl → Type 0 where
    def : {ts : List Lexeme} {ds : List tree.Decl} → r.RestDef allows m.DefName ts ds → Begins x.Def ts ds
    data_ : {ts : List Lexeme} {ds : List tree.Decl} → r.RestData allows m.DataName ts ds → Begins x.Data ts ds
    fun : {ts : List Lexeme} {ds : List tree.Decl} → r.RestDef allows m.FunName ts ds → Begins x.Fun ts ds

  begins : {y : Lexeme} {ts : List Lexeme} {ds : List tree.Decl} → g.File allows (y ∷ ts) ds → Begins y ts ds
  begins (g.next (g.def ty body) file) = def (r.name (r.type (r.term ty (r.whole (r.def_type body file)))))
  begins (g.next g.decide file) = def (r.name (r.decide (r.family (r.decision (r.done file)))))
  begins (g.next (g.family {w = v} {ps = ps} {cs = cs} {a = a} params ty cons) file) =
      data_ (r.name (w.params_rest allows v [] _ params (r.end ty (w.cons_rest allows (record { params = ps; members = [] }) v a _ cons (r.only file)))))
  begins (g.next {ds = ds} (g.families {w = v} {f = f} {t = t} {ps = ps} {cs = cs} {a = a} {ms = ms} params ty cons members tags) file) =
      data_ (r.name (w.params_rest allows v [] _ params (r.end ty (w.cons_rest allows (record { params = ps; members = [] }) v a _ cons
      (w.first_rest allows ps (record { name = v; ty = a; cons = cs }) _ members (r.packed (w.tags_rest allows ps (record { name = v; ty = a; cons = cs } ∷ ms) f t [] ds tags file)))))))
  begins (g.next (g.function {w = v} {a = a} {cs = cs} ty clauses) file) =
      fun (r.fun (r.fun_type (r.term ty (r.whole (r.fun (w.clauses_rest allows (m.Fun v a []) _ clauses (r.fun file)))))))

  starts_none : {y : Lexeme} {ts : List Lexeme} {ds : List tree.Decl} → Begins y ts ds → r.Led allows (m.start None y) ts ds
  starts_none (def s) = r.goes (r.in_def s)
  starts_none (data_ s) = r.goes (r.in_data s)
  starts_none (fun s) = r.goes (r.in_def s)

  starts_some : (d : tree.Decl) {y : Lexeme} {ts : List Lexeme} {ds : List tree.Decl} → Begins y ts ds → r.Led allows (m.start (Some d) y) ts (d ∷ ds)
  starts_some d (def s) = r.gives (r.in_def s)
  starts_some d (data_ s) = r.gives (r.in_data s)
  starts_some d (fun s) = r.gives (r.in_def s)

  -- in a definition
  def_led : {s : m.Def_state} {y : Lexeme} {ts : List Lexeme} {ds : List tree.Decl} → r.RestDef allows s (y ∷ ts) ds → r.Led allows (m.def_step s y) ts ds
  def_led (r.name s) = r.goes (r.in_def s)
  def_led (r.type s) = r.goes (r.in_term (r.due s))
  def_led (r.decide s) = r.goes (r.in_def s)
  def_led (r.family s) = r.goes (r.in_def s)
  def_led (r.decision s) = r.goes (r.in_def s)
  def_led (r.done file) = r.gives (r.start file)
  def_led (r.fun s) = r.goes (r.in_def s)
  def_led (r.fun_type s) = r.goes (r.in_term (r.due s))

  -- in families
  members_state : (ps : List tree.Typed) (n : tree.Member) (ms : List tree.Member) {ts : List Lexeme} {ds : List tree.Decl} → r.RestMembers allows ps (n ∷ ms) ts ds →
      r.RestMutual allows (m.MembersEnd (record { params = ps; members = n ∷ ms })) ts ds
  members_state ps n ms (r.packed tags) = r.over (r.packed tags)
  members_state ps n ms (r.member {w = v} {a = a} t cs more) =
      r.again (r.name (r.term t (r.whole (r.member (w.cons_rest allows (record { params = ps; members = n ∷ ms }) v a _ cs (r.later more))))))

  member_led : {ps : List tree.Typed} {ms : List tree.Member} {n : tree.Member} {ts : List Lexeme} {ds : List tree.Decl} → r.RestMember allows ps ms n ts ds → r.Led allows (m.member_end ps ms n) ts ds
  member_led (r.only file) = r.goes (r.in_data (r.end (r.only file)))
  member_led (r.first t cs more) = r.goes (r.in_data (r.end (r.first t cs more)))
  member_led {ps} (r.later {m = m'} {n = n} {ms = ms} more) = r.goes (r.in_mutual (members_state ps n (ms ++ m' ∷ []) more))

  cons_led : {f : m.Families} {n : tree.Member} {y : Lexeme} {ts : List Lexeme} {ds : List tree.Decl} → r.RestCons allows f n (y ∷ ts) ds → r.Led allows (m.data_step (m.ConName f n) y) ts ds
  cons_led (r.last t more) = r.goes (r.in_data (r.con_type (r.term t (r.whole (r.last_con more)))))
  cons_led (r.more t more) = r.goes (r.in_data (r.con_type (r.term t (r.whole (r.con more)))))

  first_con_led : {f : m.Families} {n : tree.Member} {y : Lexeme} {ts : List Lexeme} {ds : List tree.Decl} → r.RestCons allows f n (y ∷ ts) ds → r.Led allows (m.data_step (m.FirstCon f n) y) ts ds
  first_con_led (r.last t more) = r.goes (r.in_data (r.con_type (r.term t (r.whole (r.last_con more)))))
  first_con_led (r.more t more) = r.goes (r.in_data (r.con_type (r.term t (r.whole (r.con more)))))

  family_led : {f : m.Families} {n : tree.Member} {y : Lexeme} {ts : List Lexeme} {ds : List tree.Decl} → r.RestFamily allows f n (y ∷ ts) ds → r.Led allows (m.data_step (m.FirstCon f n) y) ts ds
  family_led (r.none more) = member_led more
  family_led (r.some more) = first_con_led more

  params_led : {v : Word} {ps : List tree.Typed} {y : Lexeme} {ts : List Lexeme} {ds : List tree.Decl} → r.RestParams allows v ps (y ∷ ts) ds → r.Led allows (m.data_step (m.Params v ps) y) ts ds
  params_led (r.param t more) = r.goes (r.in_data (r.param (r.term t (r.whole (r.param more)))))
  params_led (r.end t more) = r.goes (r.in_term (r.due (r.term t (r.whole (r.member more)))))

  family_end_led : (ps : List tree.Typed) (n : tree.Member) {y : Lexeme} {ts : List Lexeme} {ds : List tree.Decl} → Begins y ts ds →
      r.Led allows (m.data_step (m.FamilyEnd ps n) y) ts (tree.Data n.name ps n.ty n.cons ∷ ds)
  family_end_led ps n (def s) = r.gives (r.in_def s)
  family_end_led ps n (data_ s) = r.gives (r.in_data s)
  family_end_led ps n (fun s) = r.gives (r.in_def s)

  end_led : {ps : List tree.Typed} {n : tree.Member} {y : Lexeme} {ts : List Lexeme} {ds : List tree.Decl} → r.RestMember allows ps [] n (y ∷ ts) ds → r.Led allows (m.data_step (m.FamilyEnd ps n) y) ts ds
  end_led {ps} {n} (r.only file) = family_end_led ps n (begins file)
  end_led {ps} {n} (r.first {w = v} {a = a} t cs more) =
      r.goes (r.in_mutual (r.name (r.term t (r.whole (r.member (w.cons_rest allows (record { params = ps; members = n ∷ [] }) v a _ cs (r.later more)))))))

  data_led : {s : m.Data_state} {y : Lexeme} {ts : List Lexeme} {ds : List tree.Decl} → r.RestData allows s (y ∷ ts) ds → r.Led allows (m.data_step s y) ts ds
  data_led (r.name s) = r.goes (r.in_data (r.params s))
  data_led (r.params s) = params_led s
  data_led (r.param s) = r.goes (r.in_data (r.param_type s))
  data_led (r.param_type s) = r.goes (r.in_term (r.due s))
  data_led (r.first s) = family_led s
  data_led (r.con s) = cons_led s
  data_led (r.con_type s) = r.goes (r.in_term (r.due s))
  data_led (r.end s) = end_led s

  tags_led : {f : m.Families} {v t : Word} {us : List Word} {y : Lexeme} {ts : List Lexeme} {ds : List tree.Decl} → r.RestTags allows f.params f.members v t us (y ∷ ts) ds →
      r.Led allows (m.mutual_step (m.TagName f v t us) y) ts ds
  tags_led (r.last file) = r.goes (r.in_mutual (r.last file))
  tags_led (r.more more) = r.goes (r.in_mutual (r.next more))

  mutual_led : {s : m.Mutual_state} {y : Lexeme} {ts : List Lexeme} {ds : List tree.Decl} → r.RestMutual allows s (y ∷ ts) ds → r.Led allows (m.mutual_step s y) ts ds
  mutual_led (r.again s) = r.goes (r.in_mutual s)
  mutual_led (r.over s) = r.goes (r.in_mutual s)
  mutual_led (r.name s) = r.goes (r.in_mutual (r.type s))
  mutual_led (r.type s) = r.goes (r.in_term (r.due s))
  mutual_led (r.packed s) = r.goes (r.in_mutual (r.family s))
  mutual_led (r.family s) = r.goes (r.in_mutual (r.opens s))
  mutual_led (r.opens s) = r.goes (r.in_mutual (r.tag s))
  mutual_led (r.tag s) = tags_led s
  mutual_led (r.next s) = r.goes (r.in_mutual (r.tag s))
  mutual_led (r.last file) = r.gives (r.start file)

  -- after clauses
  closed_led : {k : m.Clauses_in} {ts : List Lexeme} {ds : List tree.Decl} → r.RestClosed allows k ts ds → r.Led allows (m.closed k) ts ds
  closed_led (r.fun file) = r.gives (r.start file)
  closed_led (r.inspect more) = r.goes (r.in_clause (r.end more))

  clause_led : {d : ℕ} {c : tree.Clause} {k : m.Clauses_in} {y : Lexeme} {ts : List Lexeme} {ds : List tree.Decl} → r.RestClause allows d c k (y ∷ ts) ds → r.Led allows (m.clause_end d c k y) ts ds
  clause_led (r.more more) = r.goes (r.in_clause (r.due more))
  clause_led (r.last more) = closed_led more

  -- after terms
  part_led : {p : m.Part} {t : tree.Surf} {y : Lexeme} {ts : List Lexeme} {ds : List tree.Decl} → r.RestPart allows p t (y ∷ ts) ds → r.Led allows (m.part_end t p y) ts ds
  part_led (r.def_type t file) = r.goes (r.in_term (r.due (r.term t (r.whole (r.def_body file)))))
  part_led (r.def_body file) = starts_some _ (begins file)
  part_led (r.param more) = r.goes (r.in_data (r.params more))
  part_led (r.member more) = r.goes (r.in_data (r.first more))
  part_led (r.con more) = r.goes (r.in_data (r.con more))
  part_led (r.last_con more) = member_led more
  part_led (r.fun more) = r.goes (r.in_clause (r.first more))

  pub term_end_led : {k : m.Term_in} {t : tree.Surf} {y : Lexeme} {ts : List Lexeme} {ds : List tree.Decl} → r.RestTerm allows k t (y ∷ ts) ds → r.Led allows (m.term_end t k y) ts ds
  term_end_led (r.whole more) = part_led more
  term_end_led (r.parens more) = r.goes (r.in_term (r.atoms more))
  term_end_led (r.codomain more) = term_end_led more
  term_end_led (r.domain more) = r.goes (r.in_term (r.binders more))
  term_end_led (r.body more) = term_end_led more
  term_end_led (r.let_type v b more) = r.goes (r.in_term (r.due (r.term v (r.let_value b more))))
  term_end_led (r.let_value b more) = r.goes (r.in_term (r.due (r.term b (r.let_body more))))
  term_end_led (r.let_body more) = term_end_led more
  term_end_led (r.dot more) = r.goes (r.in_clause (r.pats more))
  term_end_led (r.side more) = clause_led more
  term_end_led (r.scrutinee more) = r.goes (r.in_clause (r.first more))

  -- a lexeme that may follow a term continues no application
  abbrev IsGoing : Lexeme → Type 0
  IsGoing (x.Plain v) = Unit {0}
  IsGoing (x.Dotted v) = Unit {0}
  IsGoing x.Type = Unit {0}
  IsGoing x.Open = Unit {0}
  IsGoing x.Arrow = Unit {0}
  IsGoing _ = ⊥

  begin_stops : {y : Lexeme} {ts : List Lexeme} {ds : List tree.Decl} → Begins y ts ds → IsGoing y → ⊥
  begin_stops (def s) g = g
  begin_stops (data_ s) g = g
  begin_stops (fun s) g = g

  part_stops : {p : m.Part} {t : tree.Surf} {y : Lexeme} {ts : List Lexeme} {ds : List tree.Decl} → r.RestPart allows p t (y ∷ ts) ds → IsGoing y → ⊥
  part_stops (r.def_type t file) g = g
  part_stops (r.def_body file) g = begin_stops (begins file) g
  part_stops (r.param more) g = g
  part_stops (r.member more) g = g
  part_stops (r.con more) g = g
  part_stops (r.last_con more) g = g
  part_stops (r.fun more) g = g

  clause_stops : {d : ℕ} {c : tree.Clause} {k : m.Clauses_in} {y : Lexeme} {ts : List Lexeme} {ds : List tree.Decl} → r.RestClause allows d c k (y ∷ ts) ds → IsGoing y → ⊥
  clause_stops (r.more more) g = g
  clause_stops (r.last more) g = g

  term_stops : {k : m.Term_in} {t : tree.Surf} {y : Lexeme} {ts : List Lexeme} {ds : List tree.Decl} → r.RestTerm allows k t (y ∷ ts) ds → IsGoing y → ⊥
  term_stops (r.whole more) g = part_stops more g
  term_stops (r.parens more) g = g
  term_stops (r.codomain more) g = term_stops more g
  term_stops (r.domain more) g = g
  term_stops (r.body more) g = term_stops more g
  term_stops (r.let_type v b more) g = g
  term_stops (r.let_value b more) g = g
  term_stops (r.let_body more) g = term_stops more g
  term_stops (r.dot more) g = g
  term_stops (r.side more) g = clause_stops more g
  term_stops (r.scrutinee more) g = g

  -- in terms
  end_of_atoms : (d : ℕ) (s : m.Spine) {k : m.Term_in} (y : Lexeme) {ts : List Lexeme} {ds : List tree.Decl} → r.RestTerm allows k (m.spine s) (y ∷ ts) ds → r.Led allows (m.atoms d s k y) ts ds
  end_of_atoms d s (x.Plain v) more = absurd (term_stops more tt)
  end_of_atoms d s (x.Dotted v) more = absurd (term_stops more tt)
  end_of_atoms d s x.Type more = absurd (term_stops more tt)
  end_of_atoms d s x.Open more = absurd (term_stops more tt)
  end_of_atoms d s x.Arrow more = absurd (term_stops more tt)
  end_of_atoms d s _ more = term_end_led more

  atom_led : {d : ℕ} (s : m.Spine) {k : m.Term_in} {a : tree.Surf} {y : Lexeme} {ts us : List Lexeme} {ds : List tree.Decl} → g.Atom allows d (y ∷ ts) us a → r.RestAtoms allows d (m.plus (Some s) a) k us ds →
      r.Led allows (m.atoms d s k y) ts ds
  atom_led s g.sort more = r.goes (r.in_term (r.level more))
  atom_led s g.plain more = r.goes (r.in_term (r.atoms more))
  atom_led s g.dotted more = r.goes (r.in_term (r.atoms more))
  atom_led s (g.parens t) more = r.goes (r.in_term (r.due (r.term t (r.parens more))))

  atoms_led : {d : ℕ} {s : m.Spine} {k : m.Term_in} {y : Lexeme} {ts : List Lexeme} {ds : List tree.Decl} → r.RestAtoms allows d s k (y ∷ ts) ds → r.Led allows (m.atoms d s k y) ts ds
  atoms_led {s = s} (r.atom a more) = atom_led s a more
  atoms_led (r.arrow t more) = r.goes (r.in_term (r.due (r.term t (r.codomain more))))
  atoms_led {d} {s} {y = y} (r.end more) = end_of_atoms d s y more

  first_atom_led : {d : ℕ} {k : m.Term_in} {a : tree.Surf} {y : Lexeme} {ts us : List Lexeme} {ds : List tree.Decl} → g.Atom allows d (y ∷ ts) us a → r.RestAtoms allows d (m.plus None a) k us ds →
      r.Led allows (m.term_start d k y) ts ds
  first_atom_led g.sort more = r.goes (r.in_term (r.level more))
  first_atom_led g.plain more = r.goes (r.in_term (r.atoms more))
  first_atom_led g.dotted more = r.goes (r.in_term (r.atoms more))
  first_atom_led (g.parens t) more = r.goes (r.in_term (r.opened_term (r.term t (r.parens more))))

  lam_led : {d : ℕ} {k : m.Term_in} {ts : List Lexeme} {ds : List tree.Decl} → w.Begun allows (record { depth = d; quantifier = m.Function; binders = [] }) k ts ds → r.Led allows (m.term_start d k x.Backslash) ts ds
  lam_led (w.begun names) = r.goes (r.in_term (r.binder names))

  pi_led : {d : ℕ} {k : m.Term_in} {y : Lexeme} {ts : List Lexeme} {ds : List tree.Decl} → w.Begun allows (m.product allows d) k (y ∷ ts) ds → r.Led allows (m.term_start d k y) ts ds
  pi_led (w.begun names) = r.goes (r.in_term (r.opened_binder names))

  term_led : {d : ℕ} {k : m.Term_in} {t : tree.Surf} {y : Lexeme} {ts us : List Lexeme} {ds : List tree.Decl} → g.Term allows d (y ∷ ts) us t → r.RestTerm allows k t us ds → r.Led allows (m.term_start d k y) ts ds
  term_led {d} {k} {ds = ds} (g.lam may bs b) more = lam_led (w.binders_rest allows d m.Function [] k ds bs b more)
  term_led {d} {k} {ds = ds} (g.pi may bs b) more = pi_led (w.binders_rest allows d m.Product [] k ds bs b more)
  term_led {d} {k} {ds = ds} (g.app {h = h} may a args) more = first_atom_led a (w.atoms_rest allows h [] k ds args (r.end more))
  term_led {d} {k} {ds = ds} (g.arrow {h = h} may a args b) more = first_atom_led a (w.atoms_rest allows h [] k ds args (r.arrow b more))
  term_led (g.«let» may a v b) more = r.goes (r.in_term (r.let_name (r.term a (r.let_type v b more))))

  term_may : {d : ℕ} {t : tree.Surf} {ts us : List Lexeme} → g.Term allows d ts us t → allows d (length ts) ≡ true
  term_may (g.lam may bs b) = may
  term_may (g.pi may bs b) = may
  term_may (g.app may a args) = may
  term_may (g.arrow may a args b) = may
  term_may (g.«let» may a v b) = may

  may_led : {d i : ℕ} {out : m.Outcome} {ts : List Lexeme} {ds : List tree.Decl} → allows d i ≡ true → r.Led allows out ts ds → r.Led allows (m.may allows d i out) ts ds
  may_led {d} {i} {out} {ts} {ds} e l = subst (λ (b : Bool). r.Led allows (cond b out (m.Over i)) ts ds) (sym e) l

  no_binder : {d : ℕ} {y : Lexeme} {ts us : List Lexeme} {b : tree.Binder} → g.Binder allows d (y ∷ ts) us b → y ≡ x.Open
  no_binder (g.group names t) = refl

  no_binders : {d : ℕ} {y : Lexeme} {ts us : List Lexeme} {bs : List tree.Binder} → g.Binders allows d (y ∷ ts) us bs → y ≡ x.Open
  no_binders (g.one b) = no_binder b
  no_binders (g.more b bs) = no_binder b

  -- after `(` at the front of a term
  plain_term : {d : ℕ} {k : m.Term_in} {t : tree.Surf} {v : Word} {ts us : List Lexeme} {ds : List tree.Decl} → g.Term allows (d + 1) (x.Plain v ∷ ts) us t → r.RestTerm allows (m.Parens d None k) t us ds →
      r.RestIn allows (m.Names d (length (x.Plain v ∷ ts)) v [] k) ts ds
  plain_term (g.pi may bs b) more = let e = no_binders bs in cc
  plain_term {d} {k} {v = v} {ds = ds} (g.app may g.plain args) more = r.names_term may (w.atoms_rest allows (tree.Named v) [] (m.Parens d None k) ds args (r.end more))
  plain_term {d} {k} {v = v} {ds = ds} (g.arrow may g.plain args b) more = r.names_term may (w.atoms_rest allows (tree.Named v) [] (m.Parens d None k) ds args (r.arrow b more))

  no_underscore : {d : ℕ} {t : tree.Surf} {ts us : List Lexeme} → g.Term allows d (x.Underscore ∷ ts) us t → ⊥
  no_underscore (g.pi may bs b) = let e = no_binders bs in cc
  no_underscore (g.app may a args) = elim a [ ]
  no_underscore (g.arrow may a args b) = elim a [ ]

  opened_term_led : {d : ℕ} {k : m.Term_in} {t : tree.Surf} (y : Lexeme) {ts us : List Lexeme} {ds : List tree.Decl} → g.Term allows (d + 1) (y ∷ ts) us t → r.RestTerm allows (m.Parens d None k) t us ds →
      r.Led allows (m.opened allows d (length (y ∷ ts)) k y) ts ds
  opened_term_led (x.Plain v) t more = r.goes (r.in_term (plain_term t more))
  opened_term_led x.Underscore t more = absurd (no_underscore t)
  opened_term_led _ t more = may_led (term_may t) (term_led t more)

  opened_names_led : {d : ℕ} {k : m.Term_in} {y : Lexeme} {ts : List Lexeme} {ds : List tree.Decl} → r.RestNames allows (m.product allows d) [] k (y ∷ ts) ds → r.Led allows (m.opened allows d (length (y ∷ ts)) k y) ts ds
  opened_names_led (r.plain more) = r.goes (r.in_term (r.names_binder more))
  opened_names_led (r.blank more) = r.goes (r.in_term (r.names more))

  -- after `(` and plain names at the front of a term
  pub some_names_more : (ws : List Word) (v : Word) → m.some_names (ws ++ v ∷ []) ≡ m.some_names ws ++ Some v ∷ []
  some_names_more [] v = refl
  some_names_more (w' ∷ ws) v = ap (λ (l : List (Option Word)). Some w' ∷ l) (some_names_more ws v)

  pub named_more : (ws : List Word) (v : Word) → map tree.Named (ws ++ v ∷ []) ≡ map tree.Named ws ++ tree.Named v ∷ []
  named_more [] v = refl
  named_more (w' ∷ ws) v = ap (λ (l : List tree.Surf). tree.Named w' ∷ l) (named_more ws v)

  names_names_led : (d at : ℕ) (v : Word) (vs : List Word) {k : m.Term_in} {y : Lexeme} {ts : List Lexeme} {ds : List tree.Decl} → r.RestNames allows (m.product allows d) (m.some_names (v ∷ vs)) k (y ∷ ts) ds →
      r.Led allows (m.names allows d at v vs k y) ts ds
  names_names_led d at v vs {k} {ts = ts} {ds = ds} (r.plain {w = u} more) =
      r.goes (r.in_term (r.names_binder (subst (λ (l : List (Option Word)). r.RestNames allows (m.product allows d) l k ts ds) (sym (some_names_more (v ∷ vs) u)) more)))
  names_names_led d at v vs (r.blank more) = r.goes (r.in_term (r.names more))
  names_names_led d at v vs (r.colon t more) = r.goes (r.in_term (r.due (r.term t (r.domain more))))

  parens_close : {d : ℕ} {s : Option m.Spine} {k : m.Term_in} {t : tree.Surf} {y : Lexeme} {ts : List Lexeme} {ds : List tree.Decl} → r.RestTerm allows (m.Parens d s k) t (y ∷ ts) ds → y ≡ x.Close
  parens_close (r.parens more) = refl

  names_plain_led : (d at : ℕ) (v u : Word) (vs : List Word) {k : m.Term_in} {ts : List Lexeme} {ds : List tree.Decl} → allows (d + 1) at ≡ true →
      r.RestAtoms allows (d + 1) (m.named v vs) (m.Parens d None k) (x.Plain u ∷ ts) ds → r.Led allows (m.names allows d at v vs k (x.Plain u)) ts ds
  names_plain_led d at v u vs {k} {ts} {ds} e (r.atom g.plain more) =
      r.goes (r.in_term (r.names_term e (subst (λ (l : List tree.Surf). r.RestAtoms allows (d + 1) (record { head = tree.Named v; args = l }) (m.Parens d None k) ts ds) (sym (named_more vs u)) more)))
  names_plain_led d at v u vs e (r.end more) = let c = parens_close more in cc

  atoms_underscore : {d : ℕ} {s : m.Spine} {k : m.Term_in} {d' : ℕ} {ts : List Lexeme} {ds : List tree.Decl} → r.RestAtoms allows d s (m.Parens d' None k) (x.Underscore ∷ ts) ds → ⊥
  atoms_underscore (r.atom a more) = elim a [ ]
  atoms_underscore (r.end more) = let c = parens_close more in cc

  atoms_colon : {d : ℕ} {s : m.Spine} {k : m.Term_in} {d' : ℕ} {ts : List Lexeme} {ds : List tree.Decl} → r.RestAtoms allows d s (m.Parens d' None k) (x.Colon ∷ ts) ds → ⊥
  atoms_colon (r.atom a more) = elim a [ ]
  atoms_colon (r.end more) = let c = parens_close more in cc

  names_term_led : (d at : ℕ) (v : Word) (vs : List Word) {k : m.Term_in} (y : Lexeme) {ts : List Lexeme} {ds : List tree.Decl} → allows (d + 1) at ≡ true →
      r.RestAtoms allows (d + 1) (m.named v vs) (m.Parens d None k) (y ∷ ts) ds → r.Led allows (m.names allows d at v vs k y) ts ds
  names_term_led d at v vs (x.Plain u) e more = names_plain_led d at v u vs e more
  names_term_led d at v vs x.Underscore e more = absurd (atoms_underscore more)
  names_term_led d at v vs x.Colon e more = absurd (atoms_colon more)
  names_term_led d at v vs _ e more = may_led e (atoms_led more)

  -- in binders
  names_led : {b : m.Telescope} {ns : List (Option Word)} {k : m.Term_in} {y : Lexeme} {ts : List Lexeme} {ds : List tree.Decl} → r.RestNames allows b ns k (y ∷ ts) ds → r.Led allows (m.binder_names b ns k y) ts ds
  names_led (r.plain more) = r.goes (r.in_term (r.names more))
  names_led (r.blank more) = r.goes (r.in_term (r.names more))
  names_led (r.colon t more) = r.goes (r.in_term (r.due (r.term t (r.domain more))))

  binders_led : {b : m.Telescope} {k : m.Term_in} {y : Lexeme} {ts : List Lexeme} {ds : List tree.Decl} → r.RestBinders allows b k (y ∷ ts) ds → r.Led allows (m.binder_next b k y) ts ds
  binders_led (r.into t more) = r.goes (r.in_term (r.due (r.term t (r.body more))))
  binders_led (r.binder more) = r.goes (r.in_term (r.names more))

  due_led : {d : ℕ} {k : m.Term_in} {y : Lexeme} {ts : List Lexeme} {ds : List tree.Decl} → r.Due allows d k (y ∷ ts) ds → r.Led allows (m.term_step allows (length (y ∷ ts)) (m.Term d k) y) ts ds
  due_led (r.term t more) = may_led (term_may t) (term_led t more)

  in_term_led : {s : m.Term_state} {y : Lexeme} {ts : List Lexeme} {ds : List tree.Decl} → r.RestIn allows s (y ∷ ts) ds → r.Led allows (m.term_step allows (length (y ∷ ts)) s y) ts ds
  in_term_led (r.due s) = due_led s
  in_term_led (r.level s) = r.goes (r.in_term (r.atoms s))
  in_term_led (r.opened_binder s) = opened_names_led s
  in_term_led {y = y} (r.opened_term (r.term t more)) = opened_term_led y t more
  in_term_led (r.names_binder {d = d} {at = at} {w = v} {ws = vs} s) = names_names_led d at v vs s
  in_term_led {y = y} (r.names_term {d = d} {at = at} {w = v} {ws = vs} e s) = names_term_led d at v vs y e s
  in_term_led (r.binder s) = r.goes (r.in_term (r.names s))
  in_term_led (r.names s) = names_led s
  in_term_led (r.binders s) = binders_led s
  in_term_led (r.let_name s) = r.goes (r.in_term (r.let_colon s))
  in_term_led (r.let_colon s) = r.goes (r.in_term (r.due s))
  in_term_led (r.atoms s) = atoms_led s

  -- in patterns
  con_rest : {d n : ℕ} {c : Word} {k : m.Pats_in} {ps : List tree.Pat} {ts us : List Lexeme} {ds : List tree.Decl} (v v' : Bool) → g.Pats allows (d + 1) ts (x.Close ∷ us) ps n → w.count allows v + n ≡ w.count allows v' →
      r.RestPats allows d v' (m.with_pat (tree.Con c (tree.pats ps)) k) us ds → r.RestPats allows (d + 1) v (m.Inside (m.behind d c) k) ts ds
  con_rest {d} {n} {c} {k} {ps} {ts} {us} {ds} v v' pats e more = w.pats_rest allows v v' (m.Inside (m.behind d c) k) ds pats e (r.con more)

  none_more : (v : Bool) → w.count allows v + 0 ≡ w.count allows v
  none_more false = refl
  none_more true = refl

  pat_led : {d : ℕ} {v : Bool} (k : m.Pats_in) {p : tree.Pat} {y : Lexeme} {ts us : List Lexeme} {ds : List tree.Decl} → g.Pat allows d (y ∷ ts) us p 0 → r.RestPats allows d v (m.with_pat p k) us ds →
      r.Led allows (m.pats allows d (length (y ∷ ts)) v k y) ts ds
  pat_led k (g.plain may) more = may_led may (r.goes (r.in_clause (r.pats more)))
  pat_led k (g.dotted may) more = may_led may (r.goes (r.in_clause (r.pats more)))
  pat_led k (g.wild may) more = may_led may (r.goes (r.in_clause (r.pats more)))
  pat_led k (g.dot may a) more = may_led may (r.goes (r.in_clause (r.dot a more)))
  pat_led {v = v} k (g.con may ps) more = may_led may (r.goes (r.in_clause (r.con (con_rest v v ps (none_more v) more))))
  pat_led {v = v} k (g.dotted_con may ps) more = may_led may (r.goes (r.in_clause (r.dotted_con (con_rest v v ps (none_more v) more))))

  void_led : {d : ℕ} (k : m.Pats_in) {p : tree.Pat} {y : Lexeme} {ts us : List Lexeme} {ds : List tree.Decl} → g.Pat allows d (y ∷ ts) us p 1 → r.RestPats allows d true (m.with_pat p k) us ds →
      r.Led allows (m.pats allows d (length (y ∷ ts)) false k y) ts ds
  void_led k (g.void may) more = may_led may (r.goes (r.in_clause (r.void more)))
  void_led k (g.con may ps) more = may_led may (r.goes (r.in_clause (r.con (con_rest false true ps refl more))))
  void_led k (g.dotted_con may ps) more = may_led may (r.goes (r.in_clause (r.dotted_con (con_rest false true ps refl more))))

  pats_led : {d : ℕ} {v : Bool} {k : m.Pats_in} {y : Lexeme} {ts : List Lexeme} {ds : List tree.Decl} → r.RestPats allows d v k (y ∷ ts) ds → r.Led allows (m.pats allows d (length (y ∷ ts)) v k y) ts ds
  pats_led {k = k} (r.pat p more) = pat_led k p more
  pats_led {k = k} (r.void p more) = void_led k p more
  pats_led (r.con more) = r.goes (r.in_clause (r.pats more))
  pats_led (r.side t more) = r.goes (r.in_term (r.due (r.term t (r.side more))))
  pats_led (r.inspect t more) = r.goes (r.in_term (r.due (r.term t (r.scrutinee more))))
  pats_led (r.absurd (r.more more)) = r.goes (r.in_clause (r.due more))
  pats_led (r.absurd (r.last more)) = closed_led more

  dot_led : {d : ℕ} {v : Bool} (k : m.Pats_in) {t : tree.Surf} {y : Lexeme} {ts us : List Lexeme} {ds : List tree.Decl} → g.Atom allows d (y ∷ ts) us t → r.RestPats allows d v (m.with_pat (tree.Dot t) k) us ds →
      r.Led allows (m.dot_atom d v k y) ts ds
  dot_led k g.sort more = r.goes (r.in_clause (r.level more))
  dot_led k g.plain more = r.goes (r.in_clause (r.pats more))
  dot_led k g.dotted more = r.goes (r.in_clause (r.pats more))
  dot_led k (g.parens t) more = r.goes (r.in_term (r.due (r.term t (r.dot more))))

  -- among clauses
  clause_due_led : {d : ℕ} {k : m.Clauses_in} {y : Lexeme} {ts : List Lexeme} {ds : List tree.Decl} → r.RestDue allows d k (y ∷ ts) ds → r.Led allows (m.clause_name allows d (length (y ∷ ts)) k y) ts ds
  clause_due_led {d} {k} {ds = ds} (r.clause (g.side {f = f} may ps t) more) =
      may_led may (r.goes (r.in_clause (r.pats (w.pats_rest allows false false (m.Behind (m.behind d f) k) ds ps refl (r.side t more)))))
  clause_due_led {d} {k} {ds = ds} (r.clause (g.inspect {f = f} {ps = qs} {t = u} may ps t cs) more) =
      may_led may (r.goes (r.in_clause (r.pats (w.pats_rest allows false false (m.Behind (m.behind d f) k) ds ps refl
      (r.inspect t (w.clauses_rest allows (m.Inspect (record { depth = d; head = f; pats = qs }) u [] k) ds cs (r.inspect more)))))))
  clause_due_led {d} {k} {ds = ds} (r.clause (g.absurd {f = f} may ps) more) =
      may_led may (r.goes (r.in_clause (r.pats (w.pats_rest allows false true (m.Behind (m.behind d f) k) ds ps refl (r.absurd more)))))

  no_brace : {d : ℕ} {k : m.Clauses_in} {ts : List Lexeme} {ds : List tree.Decl} → r.RestDue allows d k (x.CloseBrace ∷ ts) ds → ⊥
  no_brace (r.clause c more) = elim c [ ]

  first_due_led : (d : ℕ) (k : m.Clauses_in) (y : Lexeme) {ts : List Lexeme} {ds : List tree.Decl} → r.RestDue allows d k (y ∷ ts) ds → r.Led allows (m.clause_step allows (length (y ∷ ts)) (m.FirstClause d k) y) ts ds
  first_due_led d k x.CloseBrace more = absurd (no_brace more)
  first_due_led d k _ more = clause_due_led more

  clauses_led : {d : ℕ} {k : m.Clauses_in} {y : Lexeme} {ts : List Lexeme} {ds : List tree.Decl} → r.RestClauses allows d k (y ∷ ts) ds → r.Led allows (m.clause_step allows (length (y ∷ ts)) (m.FirstClause d k) y) ts ds
  clauses_led (r.none more) = closed_led more
  clauses_led {d} {k} {y} (r.some more) = first_due_led d k y more

  among_led : {s : m.Clause_state} {y : Lexeme} {ts : List Lexeme} {ds : List tree.Decl} → r.RestAmong allows s (y ∷ ts) ds → r.Led allows (m.clause_step allows (length (y ∷ ts)) s y) ts ds
  among_led (r.pats s) = pats_led s
  among_led (r.void s) = r.goes (r.in_clause (r.pats s))
  among_led (r.con s) = r.goes (r.in_clause (r.pats s))
  among_led (r.dotted_con s) = r.goes (r.in_clause (r.pats s))
  among_led (r.dot {k = k} a s) = dot_led k a s
  among_led (r.level s) = r.goes (r.in_clause (r.pats s))
  among_led (r.first s) = clauses_led s
  among_led (r.due s) = clause_due_led s
  among_led (r.end s) = clause_led s

  -- in every state
  pub led : {s : m.State} {y : Lexeme} {ts : List Lexeme} {ds : List tree.Decl} → r.Rest allows s (y ∷ ts) ds → r.Led allows (m.step allows (length (y ∷ ts)) s y) ts ds
  led (r.start file) = starts_none (begins file)
  led (r.in_def s) = def_led s
  led (r.in_data s) = data_led s
  led (r.in_mutual s) = mutual_led s
  led (r.in_term s) = in_term_led s
  led (r.in_clause s) = among_led s
