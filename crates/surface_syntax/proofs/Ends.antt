-- Reading at the end of the file.
use Rattle.std.proofs.Common.{◌≡◌, ℕ, ◌+◌, Bool, true, false, cond, List, [], ◌∷◌, refl, subst}
use Rattle.std.specs.Prelude.{Option}
use Rattle.surface_syntax.specs.Trees as tree
use Rattle.surface_syntax.specs.Grammar as g
use Rattle.surface_syntax.specs.Machine as m
use Rattle.surface_syntax.specs.Parsing.{Read, Wrong, finish}
use Rattle.surface_syntax.specs.declared.lexeme.Lexeme.{Lexeme}
use Rattle.surface_syntax.specs.declared.lexeme.Lexeme.TheVariants as x
use Rattle.surface_syntax.proofs.Rest as r

module _ (allows : ℕ → ℕ → Bool) where
  no_atom : {d : ℕ} {us : List Lexeme} {a : tree.Surf} → g.Atom allows d [] us a → ⊥
  no_atom a = elim a [ ]

  no_binders : {d : ℕ} {us : List Lexeme} {bs : List tree.Binder} → g.Binders allows d [] us bs → ⊥
  no_binders (g.one b) = elim b [ ]
  no_binders (g.more b bs) = elim b [ ]

  no_term : {d : ℕ} {us : List Lexeme} {t : tree.Surf} → g.Term allows d [] us t → ⊥
  no_term (g.pi may bs b) = no_binders bs
  no_term (g.app may a args) = no_atom a
  no_term (g.arrow may a args b) = no_atom a

  no_due : {d : ℕ} {k : m.Term_in} {ds : List tree.Decl} → r.Due allows d k [] ds → ⊥
  no_due (r.term t more) = no_term t

  no_clause : {d : ℕ} {c : tree.Clause} {k : m.Clauses_in} {ds : List tree.Decl} → r.RestClause allows d c k [] ds → ⊥
  no_clause s = elim s [ ]

  no_pats : {d : ℕ} {v : Bool} {k : m.Pats_in} {ds : List tree.Decl} → r.RestPats allows d v k [] ds → ⊥
  no_pats (r.pat p more) = elim p [ ]
  no_pats (r.void p more) = elim p [ ]
  no_pats (r.absurd more) = no_clause more

  term_end_led : (t : tree.Surf) (k : m.Term_in) {ds : List tree.Decl} → r.RestTerm allows k t [] ds → finish (m.term_end t k x.End) ≡ Read ds
  term_end_led t k (r.whole (r.def_body g.end)) = refl
  term_end_led t k (r.whole (r.def_body (g.next c file))) = elim c [ ]
  term_end_led t (m.Codomain a k) (r.codomain more) = term_end_led (tree.Arrow a t) k more
  term_end_led t (m.Body b k) (r.body more) = term_end_led (m.quantified b.quantifier b.binders t) k more
  term_end_led t (m.LetBody v a u k) (r.let_body more) = term_end_led (tree.Let v a u t) k more
  term_end_led t k (r.side more) = absurd (no_clause more)

  atoms_end_led : {d : ℕ} {s : m.Spine} {k : m.Term_in} {ds : List tree.Decl} → r.RestAtoms allows d s k [] ds → finish (m.atoms d s k x.End) ≡ Read ds
  atoms_end_led (r.atom a more) = absurd (no_atom a)
  atoms_end_led {s = s} {k} (r.end more) = term_end_led (m.spine s) k more

  parens_atoms : {d n : ℕ} {s : m.Spine} {o : Option m.Spine} {k : m.Term_in} {ds : List tree.Decl} → r.RestAtoms allows d s (m.Parens n o k) [] ds → ⊥
  parens_atoms (r.atom a more) = no_atom a
  parens_atoms (r.end more) = elim more [ ]

  no_family : {f : m.Families} {n : tree.Member} {ds : List tree.Decl} → r.RestFamily allows f n [] ds → ⊥
  no_family (r.some more) = elim more [ ]

  no_clauses : {d : ℕ} {k : m.Clauses_in} {ds : List tree.Decl} → r.RestClauses allows d k [] ds → ⊥
  no_clauses (r.some (r.clause c more)) = elim c [ ]

  pub end_led : (s : m.State) {ds : List tree.Decl} → r.Rest allows s [] ds → finish (m.step allows 0 s x.End) ≡ Read ds
  end_led s (r.start g.end) = refl
  end_led s (r.start (g.next c file)) = elim c [ ]
  end_led s (r.in_def l) = elim l [ ]
  end_led s (r.in_data (r.params l)) = elim l [ ]
  end_led s (r.in_data (r.first l)) = absurd (no_family l)
  end_led s (r.in_data (r.con l)) = elim l [ ]
  end_led s (r.in_data (r.end (r.only g.end))) = refl
  end_led s (r.in_data (r.end (r.only (g.next c file)))) = elim c [ ]
  end_led s (r.in_mutual (r.tag l)) = elim l [ ]
  end_led s (r.in_term (r.due l)) = absurd (no_due l)
  end_led s (r.in_term (r.opened_binder l)) = elim l [ ]
  end_led s (r.in_term (r.opened_term l)) = absurd (no_due l)
  end_led s (r.in_term (r.names_binder l)) = elim l [ ]
  end_led s (r.in_term (r.names_term e l)) = absurd (parens_atoms l)
  end_led s (r.in_term (r.names l)) = elim l [ ]
  end_led s (r.in_term (r.binders l)) = elim l [ ]
  end_led s (r.in_term (r.atoms l)) = atoms_end_led l
  end_led s (r.in_clause (r.pats l)) = absurd (no_pats l)
  end_led s (r.in_clause (r.dot a l)) = absurd (no_atom a)
  end_led s (r.in_clause (r.first l)) = absurd (no_clauses l)
  end_led s (r.in_clause (r.due (r.clause c l))) = elim c [ ]
  end_led s (r.in_clause (r.end l)) = absurd (no_clause l)

  -- and back
  no_answer : (b : Bool) {ds : List tree.Decl} → finish (cond b m.Stuck (m.Over 0)) ≡ Read ds → ⊥
  no_answer true e = cc
  no_answer false e = cc

  no_answer_at : (b : Bool) (n : ℕ) {ds : List tree.Decl} → finish (cond b m.Stuck (m.Over n)) ≡ Read ds → ⊥
  no_answer_at true n e = cc
  no_answer_at false n e = cc

  wrong : {ds : List tree.Decl} → Wrong 0 ≡ Read ds → ⊥
  wrong e = cc

  pub only_read : {es ds : List tree.Decl} → Read es ≡ Read ds → es ≡ ds
  only_read e = cc

  data_end : (ps : List tree.Typed) (n : tree.Member) {ds : List tree.Decl} → tree.Data n.name ps n.ty n.cons ∷ [] ≡ ds → r.RestMember allows ps [] n [] ds
  data_end ps n e = subst (λ (l : List tree.Decl). r.RestMember allows ps [] n [] l) e (r.only g.end)

  term_end_sound : (t : tree.Surf) (k : m.Term_in) {ds : List tree.Decl} → finish (m.term_end t k x.End) ≡ Read ds → r.RestTerm allows k t [] ds
  term_end_sound t (m.Whole (m.DefBody v a)) e = subst (λ (l : List tree.Decl). r.RestTerm allows (m.Whole (m.DefBody v a)) t [] l) (only_read e) (r.whole (r.def_body g.end))
  term_end_sound t (m.Whole (m.DefType v)) e = absurd (wrong e)
  term_end_sound t (m.Whole (m.ParamType v ps q)) e = absurd (wrong e)
  term_end_sound t (m.Whole (m.MemberType f v)) e = absurd (wrong e)
  term_end_sound t (m.Whole (m.ConType f n v)) e = absurd (wrong e)
  term_end_sound t (m.Whole (m.FunType v)) e = absurd (wrong e)
  term_end_sound t (m.Parens n s k) e = absurd (wrong e)
  term_end_sound t (m.Codomain a k) e = r.codomain (term_end_sound (tree.Arrow a t) k e)
  term_end_sound t (m.Domain b ns k) e = absurd (wrong e)
  term_end_sound t (m.Body b k) e = r.body (term_end_sound (m.quantified b.quantifier b.binders t) k e)
  term_end_sound t (m.LetType n v k) e = absurd (wrong e)
  term_end_sound t (m.LetValue n v a k) e = absurd (wrong e)
  term_end_sound t (m.LetBody v a u k) e = r.let_body (term_end_sound (tree.Let v a u t) k e)
  term_end_sound t (m.Dot n v k) e = absurd (wrong e)
  term_end_sound t (m.Side h k) e = absurd (wrong e)
  term_end_sound t (m.Scrutinee h k) e = absurd (wrong e)

  pats_end : (n : ℕ) (v : Bool) (k : m.Pats_in) {ds : List tree.Decl} → finish (m.pats_end n v k x.End) ≡ Read ds → ⊥
  pats_end n v (m.Inside h k) e = wrong e
  pats_end n true (m.Behind h k) e = wrong e
  pats_end n false (m.Behind h k) e = wrong e

  pub end_sound : (s : m.State) {ds : List tree.Decl} → finish (m.step allows 0 s x.End) ≡ Read ds → r.Rest allows s [] ds
  end_sound m.Start e = subst (λ (l : List tree.Decl). r.Rest allows m.Start [] l) (only_read e) (r.start g.end)
  end_sound (m.In_def m.DefName) e = absurd (wrong e)
  end_sound (m.In_def (m.DefNext v)) e = absurd (wrong e)
  end_sound (m.In_def (m.DecideData v)) e = absurd (wrong e)
  end_sound (m.In_def (m.DecideFamily v)) e = absurd (wrong e)
  end_sound (m.In_def (m.DecideDecision v f)) e = absurd (wrong e)
  end_sound (m.In_def m.FunName) e = absurd (wrong e)
  end_sound (m.In_def (m.FunColon v)) e = absurd (wrong e)
  end_sound (m.In_data (m.FamilyEnd ps n)) e = r.in_data (r.end (data_end ps n (only_read e)))
  end_sound (m.In_data m.DataName) e = absurd (wrong e)
  end_sound (m.In_data (m.Params v ps)) e = absurd (wrong e)
  end_sound (m.In_data (m.ParamName v ps)) e = absurd (wrong e)
  end_sound (m.In_data (m.ParamColon v ps q)) e = absurd (wrong e)
  end_sound (m.In_data (m.FirstCon f n)) e = absurd (wrong e)
  end_sound (m.In_data (m.ConName f n)) e = absurd (wrong e)
  end_sound (m.In_data (m.ConColon f n v)) e = absurd (wrong e)
  end_sound (m.In_mutual (m.MembersEnd f)) e = absurd (wrong e)
  end_sound (m.In_mutual (m.MemberName f)) e = absurd (wrong e)
  end_sound (m.In_mutual (m.MemberColon f v)) e = absurd (wrong e)
  end_sound (m.In_mutual (m.PackedName f)) e = absurd (wrong e)
  end_sound (m.In_mutual (m.TagFamily f v)) e = absurd (wrong e)
  end_sound (m.In_mutual (m.TagsOpen f v t)) e = absurd (wrong e)
  end_sound (m.In_mutual (m.TagName f v t us)) e = absurd (wrong e)
  end_sound (m.In_mutual (m.TagNext f v t us)) e = absurd (wrong e)
  end_sound (m.In_term (m.Term n k)) e = absurd (no_answer (allows n 0) e)
  end_sound (m.In_term (m.Level n s k)) e = absurd (wrong e)
  end_sound (m.In_term (m.Opened n k)) e = absurd (no_answer (allows (n + 1) 0) e)
  end_sound (m.In_term (m.Names n at v vs k)) e = absurd (no_answer_at (allows (n + 1) at) at e)
  end_sound (m.In_term (m.BinderOpen b k)) e = absurd (wrong e)
  end_sound (m.In_term (m.BinderNames b ns k)) e = absurd (wrong e)
  end_sound (m.In_term (m.BinderNext b k)) e = absurd (wrong e)
  end_sound (m.In_term (m.LetName n k)) e = absurd (wrong e)
  end_sound (m.In_term (m.LetColon n v k)) e = absurd (wrong e)
  end_sound (m.In_term (m.Atoms n s k)) e = r.in_term (r.atoms (r.end (term_end_sound (m.spine s) k e)))
  end_sound (m.In_clause (m.Pats n v k)) e = absurd (pats_end n v k e)
  end_sound (m.In_clause (m.PatOpen n v k)) e = absurd (wrong e)
  end_sound (m.In_clause (m.DotAtom n v k)) e = absurd (wrong e)
  end_sound (m.In_clause (m.DotLevel n v k)) e = absurd (wrong e)
  end_sound (m.In_clause (m.FirstClause n k)) e = absurd (wrong e)
  end_sound (m.In_clause (m.ClauseName n k)) e = absurd (wrong e)
  end_sound (m.In_clause (m.ClauseEnd n b k)) e = absurd (wrong e)
