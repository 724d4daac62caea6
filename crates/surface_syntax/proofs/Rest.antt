-- The lexemes that are left to read in a state of the parser, by the grammar: those that finish the file from there, and the declarations
-- from the one that is read on.
use Rattle.std.proofs.Common.{◌≡◌, ℕ, ◌+◌, Bool, true, false, List, [], ◌∷◌, ◌++◌}
use Rattle.std.specs.Prelude.{Option, Some, None}
use Rattle.surface_syntax.specs.Trees as tree
use Rattle.surface_syntax.specs.Grammar as g
use Rattle.surface_syntax.specs.Machine as m
use Rattle.surface_syntax.specs.declared.tree.Word.{Word}
use Rattle.surface_syntax.specs.declared.lexeme.Lexeme.{Lexeme}
use Rattle.surface_syntax.specs.declared.lexeme.Lexeme.TheVariants as x

module _ (allows : ℕ → ℕ → Bool) where
  -- after tags
  pub data RestTags : List tree.Typed → List tree.Member → Word → Word → List Word → List Lexeme → List tree.Decl → Type 0 where
    last : {ps : List tree.Typed} {ms : List tree.Member} {f t w : Word} {us : List Word} {ts : List Lexeme} {ds : List tree.Decl} →
        g.File allows ts ds → RestTags ps ms f t us (x.Plain w ∷ x.CloseBrace ∷ ts) (tree.Mutual ps ms f t (us ++ w ∷ []) ∷ ds)
    more : {ps : List tree.Typed} {ms : List tree.Member} {f t w : Word} {us : List Word} {ts : List Lexeme} {ds : List tree.Decl} →
        RestTags ps ms f t (us ++ w ∷ []) ts ds → RestTags ps ms f t us (x.Plain w ∷ x.Semicolon ∷ ts) ds

  -- after two members at least
  pub data RestMembers : List tree.Typed → List tree.Member → List Lexeme → List tree.Decl → Type 0 where
    packed : {ps : List tree.Typed} {ms : List tree.Member} {f t : Word} {ts : List Lexeme} {ds : List tree.Decl} →
        RestTags ps ms f t [] ts ds → RestMembers ps ms (x.In ∷ x.Plain f ∷ x.Plain t ∷ x.OpenBrace ∷ ts) ds
    member : {ps : List tree.Typed} {ms : List tree.Member} {w : Word} {ts us vs : List Lexeme} {a : tree.Surf} {cs : List tree.Typed} {ds : List tree.Decl} →
        g.Term allows 0 ts (x.OpenBrace ∷ us) a → g.Cons allows us vs cs → RestMembers ps (ms ++ record { name = w; ty = a; cons = cs } ∷ []) vs ds →
        RestMembers ps ms (x.With ∷ x.Plain w ∷ x.Colon ∷ ts) ds

  -- after a member
  pub data RestMember : List tree.Typed → List tree.Member → tree.Member → List Lexeme → List tree.Decl → Type 0 where
    only : {ps : List tree.Typed} {m : tree.Member} {ts : List Lexeme} {ds : List tree.Decl} →
        g.File allows ts ds → RestMember ps [] m ts (tree.Data m.name ps m.ty m.cons ∷ ds)
    first : {ps : List tree.Typed} {m : tree.Member} {w : Word} {ts us vs : List Lexeme} {a : tree.Surf} {cs : List tree.Typed} {ds : List tree.Decl} →
        g.Term allows 0 ts (x.OpenBrace ∷ us) a → g.Cons allows us vs cs → RestMembers ps (m ∷ record { name = w; ty = a; cons = cs } ∷ []) vs ds →
        RestMember ps [] m (x.With ∷ x.Plain w ∷ x.Colon ∷ ts) ds
    later : {ps : List tree.Typed} {m n : tree.Member} {ms : List tree.Member} {ts : List Lexeme} {ds : List tree.Decl} →
        RestMembers ps (n ∷ ms ++ m ∷ []) ts ds → RestMember ps (n ∷ ms) m ts ds

  -- where a constructor is due
  pub data RestCons : m.Families → tree.Member → List Lexeme → List tree.Decl → Type 0 where
    last : {f : m.Families} {n : tree.Member} {c : Word} {ts us : List Lexeme} {a : tree.Surf} {ds : List tree.Decl} →
        g.Term allows 0 ts (x.CloseBrace ∷ us) a → RestMember f.params f.members (m.with_con n c a) us ds → RestCons f n (x.Plain c ∷ x.Colon ∷ ts) ds
    more : {f : m.Families} {n : tree.Member} {c : Word} {ts us : List Lexeme} {a : tree.Surf} {ds : List tree.Decl} →
        g.Term allows 0 ts (x.Semicolon ∷ us) a → RestCons f (m.with_con n c a) us ds → RestCons f n (x.Plain c ∷ x.Colon ∷ ts) ds

  -- after the `{` of constructors
  pub data RestFamily : m.Families → tree.Member → List Lexeme → List tree.Decl → Type 0 where
    none : {f : m.Families} {n : tree.Member} {ts : List Lexeme} {ds : List tree.Decl} → RestMember f.params f.members n ts ds → RestFamily f n (x.CloseBrace ∷ ts) ds
    some : {f : m.Families} {n : tree.Member} {ts : List Lexeme} {ds : List tree.Decl} → RestCons f n ts ds → RestFamily f n ts ds

  -- after parameters
  pub data RestParams : Word → List tree.Typed → List Lexeme → List tree.Decl → Type 0 where
    param : {w p : Word} {ps : List tree.Typed} {ts us : List Lexeme} {a : tree.Surf} {ds : List tree.Decl} →
        g.Term allows 0 ts (x.Close ∷ us) a → RestParams w (ps ++ record { name = p; ty = a } ∷ []) us ds → RestParams w ps (x.Open ∷ x.Plain p ∷ x.Colon ∷ ts) ds
    end : {w : Word} {ps : List tree.Typed} {ts us : List Lexeme} {a : tree.Surf} {ds : List tree.Decl} →
        g.Term allows 0 ts (x.OpenBrace ∷ us) a → RestFamily (record { params = ps; members = [] }) (record { name = w; ty = a; cons = [] }) us ds → RestParams w ps (x.Colon ∷ ts) ds

  -- after a clause of depth `d`; after the `}` of clauses; where a clause is due; after the `{` of clauses
  mutual
    pub data RestClause : ℕ → tree.Clause → m.Clauses_in → List Lexeme → List tree.Decl → Type 0 where
      more : {d : ℕ} {c : tree.Clause} {k : m.Clauses_in} {ts : List Lexeme} {ds : List tree.Decl} → RestDue d (m.with_clause c k) ts ds → RestClause d c k (x.Semicolon ∷ ts) ds
      last : {d : ℕ} {c : tree.Clause} {k : m.Clauses_in} {ts : List Lexeme} {ds : List tree.Decl} → RestClosed (m.with_clause c k) ts ds → RestClause d c k (x.CloseBrace ∷ ts) ds

    pub data RestClosed : m.Clauses_in → List Lexeme → List tree.Decl → Type 0 where
      fun : {w : Word} {a : tree.Surf} {cs : List tree.Clause} {ts : List Lexeme} {ds : List tree.Decl} →
          g.File allows ts ds → RestClosed (m.Fun w a cs) ts (tree.Fun w a (tree.clauses cs) ∷ ds)
      inspect : {h : m.Headed} {t : tree.Surf} {cs : List tree.Clause} {k : m.Clauses_in} {ts : List Lexeme} {ds : List tree.Decl} →
          RestClause h.depth (m.clause h (tree.With t (tree.clauses cs))) k ts ds → RestClosed (m.Inspect h t cs k) ts ds

    pub data RestDue : ℕ → m.Clauses_in → List Lexeme → List tree.Decl → Type 0 where
      clause : {d : ℕ} {c : tree.Clause} {k : m.Clauses_in} {ts us : List Lexeme} {ds : List tree.Decl} → g.Clause allows d ts us c → RestClause d c k us ds → RestDue d k ts ds

  pub data RestClauses : ℕ → m.Clauses_in → List Lexeme → List tree.Decl → Type 0 where
    none : {d : ℕ} {k : m.Clauses_in} {ts : List Lexeme} {ds : List tree.Decl} → RestClosed k ts ds → RestClauses d k (x.CloseBrace ∷ ts) ds
    some : {d : ℕ} {k : m.Clauses_in} {ts : List Lexeme} {ds : List tree.Decl} → RestDue d k ts ds → RestClauses d k ts ds

  -- where patterns of depth `d` are; the Bool says whether `( )` came before
  pub data RestPats : ℕ → Bool → m.Pats_in → List Lexeme → List tree.Decl → Type 0 where
    pat : {d : ℕ} {void : Bool} {p : tree.Pat} {k : m.Pats_in} {ts us : List Lexeme} {ds : List tree.Decl} →
        g.Pat allows d ts us p 0 → RestPats d void (m.with_pat p k) us ds → RestPats d void k ts ds
    void : {d : ℕ} {p : tree.Pat} {k : m.Pats_in} {ts us : List Lexeme} {ds : List tree.Decl} →
        g.Pat allows d ts us p 1 → RestPats d true (m.with_pat p k) us ds → RestPats d false k ts ds
    con : {d : ℕ} {void : Bool} {h : m.Headed} {k : m.Pats_in} {ts : List Lexeme} {ds : List tree.Decl} →
        RestPats h.depth void (m.with_pat (tree.Con h.head (tree.pats h.pats)) k) ts ds → RestPats d void (m.Inside h k) (x.Close ∷ ts) ds
    side : {d : ℕ} {h : m.Headed} {k : m.Clauses_in} {t : tree.Surf} {ts us : List Lexeme} {ds : List tree.Decl} →
        g.Term allows d ts us t → RestClause h.depth (m.clause h (tree.Side t)) k us ds → RestPats d false (m.Behind h k) (x.Equals ∷ ts) ds
    inspect : {d : ℕ} {h : m.Headed} {k : m.Clauses_in} {t : tree.Surf} {ts us : List Lexeme} {ds : List tree.Decl} →
        g.Term allows d ts (x.OpenBrace ∷ us) t → RestClauses (h.depth + 1) (m.Inspect h t [] k) us ds → RestPats d false (m.Behind h k) (x.With ∷ ts) ds
    absurd : {d : ℕ} {h : m.Headed} {k : m.Clauses_in} {ts : List Lexeme} {ds : List tree.Decl} →
        RestClause h.depth (m.clause h tree.Absurd) k ts ds → RestPats d true (m.Behind h k) ts ds

  -- after a part of a declaration
  pub data RestPart : m.Part → tree.Surf → List Lexeme → List tree.Decl → Type 0 where
    def_type : {w : Word} {a b : tree.Surf} {ts us : List Lexeme} {ds : List tree.Decl} →
        g.Term allows 0 ts us b → g.File allows us ds → RestPart (m.DefType w) a (x.Equals ∷ ts) (tree.Def w a b ∷ ds)
    def_body : {w : Word} {a b : tree.Surf} {ts : List Lexeme} {ds : List tree.Decl} → g.File allows ts ds → RestPart (m.DefBody w a) b ts (tree.Def w a b ∷ ds)
    param : {w p : Word} {ps : List tree.Typed} {a : tree.Surf} {ts : List Lexeme} {ds : List tree.Decl} →
        RestParams w (ps ++ record { name = p; ty = a } ∷ []) ts ds → RestPart (m.ParamType w ps p) a (x.Close ∷ ts) ds
    member : {f : m.Families} {w : Word} {a : tree.Surf} {ts : List Lexeme} {ds : List tree.Decl} →
        RestFamily f (record { name = w; ty = a; cons = [] }) ts ds → RestPart (m.MemberType f w) a (x.OpenBrace ∷ ts) ds
    con : {f : m.Families} {n : tree.Member} {c : Word} {a : tree.Surf} {ts : List Lexeme} {ds : List tree.Decl} →
        RestCons f (m.with_con n c a) ts ds → RestPart (m.ConType f n c) a (x.Semicolon ∷ ts) ds
    last_con : {f : m.Families} {n : tree.Member} {c : Word} {a : tree.Surf} {ts : List Lexeme} {ds : List tree.Decl} →
        RestMember f.params f.members (m.with_con n c a) ts ds → RestPart (m.ConType f n c) a (x.CloseBrace ∷ ts) ds
    fun : {w : Word} {a : tree.Surf} {ts : List Lexeme} {ds : List tree.Decl} → RestClauses 0 (m.Fun w a []) ts ds → RestPart (m.FunType w) a (x.OpenBrace ∷ ts) ds

  -- after a whole term; after the atoms of an application; after a binder; after names of a binder
  mutual
    pub data RestTerm : m.Term_in → tree.Surf → List Lexeme → List tree.Decl → Type 0 where
      whole : {p : m.Part} {t : tree.Surf} {ts : List Lexeme} {ds : List tree.Decl} → RestPart p t ts ds → RestTerm (m.Whole p) t ts ds
      parens : {d : ℕ} {s : Option m.Spine} {k : m.Term_in} {t : tree.Surf} {ts : List Lexeme} {ds : List tree.Decl} →
          RestAtoms d (m.plus s t) k ts ds → RestTerm (m.Parens d s k) t (x.Close ∷ ts) ds
      codomain : {a t : tree.Surf} {k : m.Term_in} {ts : List Lexeme} {ds : List tree.Decl} → RestTerm k (tree.Arrow a t) ts ds → RestTerm (m.Codomain a k) t ts ds
      domain : {b : m.Telescope} {ns : List (Option Word)} {k : m.Term_in} {t : tree.Surf} {ts : List Lexeme} {ds : List tree.Decl} →
          RestBinders (m.with_binder b ns t) k ts ds → RestTerm (m.Domain b ns k) t (x.Close ∷ ts) ds
      body : {b : m.Telescope} {k : m.Term_in} {t : tree.Surf} {ts : List Lexeme} {ds : List tree.Decl} →
          RestTerm k (m.quantified b.quantifier b.binders t) ts ds → RestTerm (m.Body b k) t ts ds
      let_type : {d : ℕ} {w : Word} {k : m.Term_in} {a v b : tree.Surf} {ts us vs : List Lexeme} {ds : List tree.Decl} →
          g.Term allows (d + 1) ts (x.In ∷ us) v → g.Term allows (d + 1) us vs b → RestTerm k (tree.Let w a v b) vs ds → RestTerm (m.LetType d w k) a (x.Equals ∷ ts) ds
      let_value : {d : ℕ} {w : Word} {k : m.Term_in} {a v b : tree.Surf} {ts us : List Lexeme} {ds : List tree.Decl} →
          g.Term allows (d + 1) ts us b → RestTerm k (tree.Let w a v b) us ds → RestTerm (m.LetValue d w a k) v (x.In ∷ ts) ds
      let_body : {w : Word} {k : m.Term_in} {a v b : tree.Surf} {ts : List Lexeme} {ds : List tree.Decl} → RestTerm k (tree.Let w a v b) ts ds → RestTerm (m.LetBody w a v k) b ts ds
      dot : {d : ℕ} {void : Bool} {k : m.Pats_in} {t : tree.Surf} {ts : List Lexeme} {ds : List tree.Decl} →
          RestPats d void (m.with_pat (tree.Dot t) k) ts ds → RestTerm (m.Dot d void k) t (x.Close ∷ ts) ds
      side : {h : m.Headed} {k : m.Clauses_in} {t : tree.Surf} {ts : List Lexeme} {ds : List tree.Decl} →
          RestClause h.depth (m.clause h (tree.Side t)) k ts ds → RestTerm (m.Side h k) t ts ds
      scrutinee : {h : m.Headed} {k : m.Clauses_in} {t : tree.Surf} {ts : List Lexeme} {ds : List tree.Decl} →
          RestClauses (h.depth + 1) (m.Inspect h t [] k) ts ds → RestTerm (m.Scrutinee h k) t (x.OpenBrace ∷ ts) ds

    pub data RestAtoms : ℕ → m.Spine → m.Term_in → List Lexeme → List tree.Decl → Type 0 where
      atom : {d : ℕ} {s : m.Spine} {k : m.Term_in} {a : tree.Surf} {ts us : List Lexeme} {ds : List tree.Decl} →
          g.Atom allows d ts us a → RestAtoms d (m.plus (Some s) a) k us ds → RestAtoms d s k ts ds
      arrow : {d : ℕ} {s : m.Spine} {k : m.Term_in} {b : tree.Surf} {ts us : List Lexeme} {ds : List tree.Decl} →
          g.Term allows (d + 1) ts us b → RestTerm k (tree.Arrow (m.spine s) b) us ds → RestAtoms d s k (x.Arrow ∷ ts) ds
      end : {d : ℕ} {s : m.Spine} {k : m.Term_in} {ts : List Lexeme} {ds : List tree.Decl} → RestTerm k (m.spine s) ts ds → RestAtoms d s k ts ds

    pub data RestBinders : m.Telescope → m.Term_in → List Lexeme → List tree.Decl → Type 0 where
      into : {b : m.Telescope} {k : m.Term_in} {t : tree.Surf} {ts us : List Lexeme} {ds : List tree.Decl} →
          g.Term allows (b.depth + 1) ts us t → RestTerm k (m.quantified b.quantifier b.binders t) us ds → RestBinders b k (x.Arrow ∷ ts) ds
      binder : {b : m.Telescope} {k : m.Term_in} {ts : List Lexeme} {ds : List tree.Decl} → RestNames b [] k ts ds → RestBinders b k (x.Open ∷ ts) ds

    pub data RestNames : m.Telescope → List (Option Word) → m.Term_in → List Lexeme → List tree.Decl → Type 0 where
      plain : {b : m.Telescope} {ns : List (Option Word)} {k : m.Term_in} {w : Word} {ts : List Lexeme} {ds : List tree.Decl} →
          RestNames b (ns ++ Some w ∷ []) k ts ds → RestNames b ns k (x.Plain w ∷ ts) ds
      blank : {b : m.Telescope} {ns : List (Option Word)} {k : m.Term_in} {ts : List Lexeme} {ds : List tree.Decl} →
          RestNames b (ns ++ None ∷ []) k ts ds → RestNames b ns k (x.Underscore ∷ ts) ds
      colon : {b : m.Telescope} {n : Option Word} {ns : List (Option Word)} {k : m.Term_in} {a : tree.Surf} {ts us : List Lexeme} {ds : List tree.Decl} →
          g.Term allows (b.depth + 1) ts (x.Close ∷ us) a → RestBinders (m.with_binder b (n ∷ ns) a) k us ds → RestNames b (n ∷ ns) k (x.Colon ∷ ts) ds

  -- a term that is due, and what follows it
  pub data Due : ℕ → m.Term_in → List Lexeme → List tree.Decl → Type 0 where
    term : {d : ℕ} {k : m.Term_in} {t : tree.Surf} {ts us : List Lexeme} {ds : List tree.Decl} → g.Term allows d ts us t → RestTerm k t us ds → Due d k ts ds

  -- by states, within a definition or the head of a function
  pub data RestDef : m.Def_state → List Lexeme → List tree.Decl → Type 0 where
    name : {w : Word} {ts : List Lexeme} {ds : List tree.Decl} → RestDef (m.DefNext w) ts ds → RestDef m.DefName (x.Plain w ∷ ts) ds
    type : {w : Word} {ts : List Lexeme} {ds : List tree.Decl} → Due 0 (m.Whole (m.DefType w)) ts ds → RestDef (m.DefNext w) (x.Colon ∷ ts) ds
    decide : {w : Word} {ts : List Lexeme} {ds : List tree.Decl} → RestDef (m.DecideData w) ts ds → RestDef (m.DefNext w) (x.Equals ∷ ts) ds
    family : {w : Word} {ts : List Lexeme} {ds : List tree.Decl} → RestDef (m.DecideFamily w) ts ds → RestDef (m.DecideData w) (x.Data ∷ ts) ds
    decision : {w f : Word} {ts : List Lexeme} {ds : List tree.Decl} → RestDef (m.DecideDecision w f) ts ds → RestDef (m.DecideFamily w) (x.Plain f ∷ ts) ds
    done : {w f e : Word} {ts : List Lexeme} {ds : List tree.Decl} → g.File allows ts ds → RestDef (m.DecideDecision w f) (x.Plain e ∷ ts) (tree.Decide w f e ∷ ds)
    fun : {w : Word} {ts : List Lexeme} {ds : List tree.Decl} → RestDef (m.FunColon w) ts ds → RestDef m.FunName (x.Plain w ∷ ts) ds
    fun_type : {w : Word} {ts : List Lexeme} {ds : List tree.Decl} → Due 0 (m.Whole (m.FunType w)) ts ds → RestDef (m.FunColon w) (x.Colon ∷ ts) ds

  -- within a family
  pub data RestData : m.Data_state → List Lexeme → List tree.Decl → Type 0 where
    name : {w : Word} {ts : List Lexeme} {ds : List tree.Decl} → RestParams w [] ts ds → RestData m.DataName (x.Plain w ∷ ts) ds
    params : {w : Word} {ps : List tree.Typed} {ts : List Lexeme} {ds : List tree.Decl} → RestParams w ps ts ds → RestData (m.Params w ps) ts ds
    param : {w p : Word} {ps : List tree.Typed} {ts : List Lexeme} {ds : List tree.Decl} → Due 0 (m.Whole (m.ParamType w ps p)) ts ds → RestData (m.ParamName w ps) (x.Plain p ∷ x.Colon ∷ ts) ds
    param_type : {w p : Word} {ps : List tree.Typed} {ts : List Lexeme} {ds : List tree.Decl} → Due 0 (m.Whole (m.ParamType w ps p)) ts ds → RestData (m.ParamColon w ps p) (x.Colon ∷ ts) ds
    first : {f : m.Families} {n : tree.Member} {ts : List Lexeme} {ds : List tree.Decl} → RestFamily f n ts ds → RestData (m.FirstCon f n) ts ds
    con : {f : m.Families} {n : tree.Member} {ts : List Lexeme} {ds : List tree.Decl} → RestCons f n ts ds → RestData (m.ConName f n) ts ds
    con_type : {f : m.Families} {n : tree.Member} {c : Word} {ts : List Lexeme} {ds : List tree.Decl} → Due 0 (m.Whole (m.ConType f n c)) ts ds → RestData (m.ConColon f n c) (x.Colon ∷ ts) ds
    end : {ps : List tree.Typed} {n : tree.Member} {ts : List Lexeme} {ds : List tree.Decl} → RestMember ps [] n ts ds → RestData (m.FamilyEnd ps n) ts ds

  -- within families that refer to each other
  pub data RestMutual : m.Mutual_state → List Lexeme → List tree.Decl → Type 0 where
    again : {f : m.Families} {ts : List Lexeme} {ds : List tree.Decl} → RestMutual (m.MemberName f) ts ds → RestMutual (m.MembersEnd f) (x.With ∷ ts) ds
    over : {f : m.Families} {ts : List Lexeme} {ds : List tree.Decl} → RestMutual (m.PackedName f) ts ds → RestMutual (m.MembersEnd f) (x.In ∷ ts) ds
    name : {f : m.Families} {w : Word} {ts : List Lexeme} {ds : List tree.Decl} → Due 0 (m.Whole (m.MemberType f w)) ts ds → RestMutual (m.MemberName f) (x.Plain w ∷ x.Colon ∷ ts) ds
    type : {f : m.Families} {w : Word} {ts : List Lexeme} {ds : List tree.Decl} → Due 0 (m.Whole (m.MemberType f w)) ts ds → RestMutual (m.MemberColon f w) (x.Colon ∷ ts) ds
    packed : {f : m.Families} {w t : Word} {ts : List Lexeme} {ds : List tree.Decl} → RestTags f.params f.members w t [] ts ds → RestMutual (m.PackedName f) (x.Plain w ∷ x.Plain t ∷ x.OpenBrace ∷ ts) ds
    family : {f : m.Families} {w t : Word} {ts : List Lexeme} {ds : List tree.Decl} → RestTags f.params f.members w t [] ts ds → RestMutual (m.TagFamily f w) (x.Plain t ∷ x.OpenBrace ∷ ts) ds
    opens : {f : m.Families} {w t : Word} {ts : List Lexeme} {ds : List tree.Decl} → RestTags f.params f.members w t [] ts ds → RestMutual (m.TagsOpen f w t) (x.OpenBrace ∷ ts) ds
    tag : {f : m.Families} {w t : Word} {us : List Word} {ts : List Lexeme} {ds : List tree.Decl} → RestTags f.params f.members w t us ts ds → RestMutual (m.TagName f w t us) ts ds
    next : {f : m.Families} {w t : Word} {us : List Word} {ts : List Lexeme} {ds : List tree.Decl} → RestTags f.params f.members w t us ts ds → RestMutual (m.TagNext f w t us) (x.Semicolon ∷ ts) ds
    last : {f : m.Families} {w t : Word} {us : List Word} {ts : List Lexeme} {ds : List tree.Decl} → g.File allows ts ds → RestMutual (m.TagNext f w t us) (x.CloseBrace ∷ ts) (tree.Mutual f.params f.members w t us ∷ ds)

  -- within a term
  pub data RestIn : m.Term_state → List Lexeme → List tree.Decl → Type 0 where
    due : {d : ℕ} {k : m.Term_in} {ts : List Lexeme} {ds : List tree.Decl} → Due d k ts ds → RestIn (m.Term d k) ts ds
    level : {d n : ℕ} {s : Option m.Spine} {k : m.Term_in} {ts : List Lexeme} {ds : List tree.Decl} → RestAtoms d (m.plus s (tree.Sort n)) k ts ds → RestIn (m.Level d s k) (x.Level n ∷ ts) ds
    opened_binder : {d : ℕ} {k : m.Term_in} {ts : List Lexeme} {ds : List tree.Decl} → RestNames (m.product allows d) [] k ts ds → RestIn (m.Opened d k) ts ds
    opened_term : {d : ℕ} {k : m.Term_in} {ts : List Lexeme} {ds : List tree.Decl} → Due (d + 1) (m.Parens d None k) ts ds → RestIn (m.Opened d k) ts ds
    names_binder : {d at : ℕ} {w : Word} {ws : List Word} {k : m.Term_in} {ts : List Lexeme} {ds : List tree.Decl} →
        RestNames (m.product allows d) (m.some_names (w ∷ ws)) k ts ds → RestIn (m.Names d at w ws k) ts ds
    names_term : {d at : ℕ} {w : Word} {ws : List Word} {k : m.Term_in} {ts : List Lexeme} {ds : List tree.Decl} → allows (d + 1) at ≡ true →
        RestAtoms (d + 1) (m.named w ws) (m.Parens d None k) ts ds → RestIn (m.Names d at w ws k) ts ds
    binder : {b : m.Telescope} {k : m.Term_in} {ts : List Lexeme} {ds : List tree.Decl} → RestNames b [] k ts ds → RestIn (m.BinderOpen b k) (x.Open ∷ ts) ds
    names : {b : m.Telescope} {ns : List (Option Word)} {k : m.Term_in} {ts : List Lexeme} {ds : List tree.Decl} → RestNames b ns k ts ds → RestIn (m.BinderNames b ns k) ts ds
    binders : {b : m.Telescope} {k : m.Term_in} {ts : List Lexeme} {ds : List tree.Decl} → RestBinders b k ts ds → RestIn (m.BinderNext b k) ts ds
    let_name : {d : ℕ} {k : m.Term_in} {w : Word} {ts : List Lexeme} {ds : List tree.Decl} → Due (d + 1) (m.LetType d w k) ts ds → RestIn (m.LetName d k) (x.Plain w ∷ x.Colon ∷ ts) ds
    let_colon : {d : ℕ} {k : m.Term_in} {w : Word} {ts : List Lexeme} {ds : List tree.Decl} → Due (d + 1) (m.LetType d w k) ts ds → RestIn (m.LetColon d w k) (x.Colon ∷ ts) ds
    atoms : {d : ℕ} {s : m.Spine} {k : m.Term_in} {ts : List Lexeme} {ds : List tree.Decl} → RestAtoms d s k ts ds → RestIn (m.Atoms d s k) ts ds

  -- among clauses
  pub data RestAmong : m.Clause_state → List Lexeme → List tree.Decl → Type 0 where
    pats : {d : ℕ} {void : Bool} {k : m.Pats_in} {ts : List Lexeme} {ds : List tree.Decl} → RestPats d void k ts ds → RestAmong (m.Pats d void k) ts ds
    void : {d : ℕ} {k : m.Pats_in} {ts : List Lexeme} {ds : List tree.Decl} → RestPats d true (m.with_pat tree.Void k) ts ds → RestAmong (m.PatOpen d false k) (x.Close ∷ ts) ds
    con : {d : ℕ} {void : Bool} {k : m.Pats_in} {c : Word} {ts : List Lexeme} {ds : List tree.Decl} → RestPats (d + 1) void (m.Inside (m.behind d c) k) ts ds → RestAmong (m.PatOpen d void k) (x.Plain c ∷ ts) ds
    dotted_con : {d : ℕ} {void : Bool} {k : m.Pats_in} {c : Word} {ts : List Lexeme} {ds : List tree.Decl} → RestPats (d + 1) void (m.Inside (m.behind d c) k) ts ds → RestAmong (m.PatOpen d void k) (x.Dotted c ∷ ts) ds
    dot : {d : ℕ} {void : Bool} {k : m.Pats_in} {t : tree.Surf} {ts us : List Lexeme} {ds : List tree.Decl} → g.Atom allows d ts us t → RestPats d void (m.with_pat (tree.Dot t) k) us ds → RestAmong (m.DotAtom d void k) ts ds
    level : {d n : ℕ} {void : Bool} {k : m.Pats_in} {ts : List Lexeme} {ds : List tree.Decl} → RestPats d void (m.with_pat (tree.Dot (tree.Sort n)) k) ts ds → RestAmong (m.DotLevel d void k) (x.Level n ∷ ts) ds
    first : {d : ℕ} {k : m.Clauses_in} {ts : List Lexeme} {ds : List tree.Decl} → RestClauses d k ts ds → RestAmong (m.FirstClause d k) ts ds
    due : {d : ℕ} {k : m.Clauses_in} {ts : List Lexeme} {ds : List tree.Decl} → RestDue d k ts ds → RestAmong (m.ClauseName d k) ts ds
    end : {d : ℕ} {c : tree.Clause} {k : m.Clauses_in} {ts : List Lexeme} {ds : List tree.Decl} → RestClause d c k ts ds → RestAmong (m.ClauseEnd d c k) ts ds

  -- in every state
  pub data Rest : m.State → List Lexeme → List tree.Decl → Type 0 where
    start : {ts : List Lexeme} {ds : List tree.Decl} → g.File allows ts ds → Rest m.Start ts ds
    in_def : {s : m.Def_state} {ts : List Lexeme} {ds : List tree.Decl} → RestDef s ts ds → Rest (m.In_def s) ts ds
    in_data : {s : m.Data_state} {ts : List Lexeme} {ds : List tree.Decl} → RestData s ts ds → Rest (m.In_data s) ts ds
    in_mutual : {s : m.Mutual_state} {ts : List Lexeme} {ds : List tree.Decl} → RestMutual s ts ds → Rest (m.In_mutual s) ts ds
    in_term : {s : m.Term_state} {ts : List Lexeme} {ds : List tree.Decl} → RestIn s ts ds → Rest (m.In_term s) ts ds
    in_clause : {s : m.Clause_state} {ts : List Lexeme} {ds : List tree.Decl} → RestAmong s ts ds → Rest (m.In_clause s) ts ds

  -- after a lexeme: perhaps a whole declaration, and what is left then
  pub data Led : m.Outcome → List Lexeme → List tree.Decl → Type 0 where
    goes : {s : m.State} {ts : List Lexeme} {ds : List tree.Decl} → Rest s ts ds → Led (m.Goes None s) ts ds
    gives : {d : tree.Decl} {s : m.State} {ts : List Lexeme} {ds : List tree.Decl} → Rest s ts ds → Led (m.Goes (Some d) s) ts (d ∷ ds)
