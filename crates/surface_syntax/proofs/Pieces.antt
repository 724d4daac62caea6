-- The lexemes that are left to read in a state, as whole productions of the grammar and those after them.
use Rattle.std.proofs.Common.{◌≡◌, ℕ, ◌+◌, Bool, true, false, List, [], ◌∷◌, ◌++◌, length, refl, sym, subst, ◌∙◌, append_assoc, arith}
use Rattle.std.proofs.lemmas.List.{append-nil}
use Rattle.std.specs.Prelude.{Option, Some, None}
use Rattle.surface_syntax.specs.Trees as tree
use Rattle.surface_syntax.specs.Grammar as g
use Rattle.surface_syntax.specs.Grammar.{applied}
use Rattle.surface_syntax.specs.Machine as m
use Rattle.surface_syntax.specs.declared.tree.Word.{Word}
use Rattle.surface_syntax.specs.declared.lexeme.Lexeme.{Lexeme}
use Rattle.surface_syntax.specs.declared.lexeme.Lexeme.TheVariants as x
use Rattle.surface_syntax.proofs.Rest as r
use Rattle.surface_syntax.proofs.Trees_read as w

module _ (allows : ℕ → ℕ → Bool) where
  -- atoms of an application
  pub data Atoms_read : ℕ → tree.Surf → List tree.Surf → m.Term_in → List Lexeme → List tree.Decl → Type 0 where
    app : {d : ℕ} {h : tree.Surf} {acc args : List tree.Surf} {k : m.Term_in} {ts us : List Lexeme} {ds : List tree.Decl} →
        g.Atoms allows d ts us args → r.RestTerm allows k (applied h (acc ++ args)) us ds → Atoms_read d h acc k ts ds
    arrow : {d : ℕ} {h b : tree.Surf} {acc args : List tree.Surf} {k : m.Term_in} {ts us vs : List Lexeme} {ds : List tree.Decl} →
        g.Atoms allows d ts (x.Arrow ∷ us) args → g.Term allows (d + 1) us vs b → r.RestTerm allows k (tree.Arrow (applied h (acc ++ args)) b) vs ds → Atoms_read d h acc k ts ds

  one_more_atom : (d : ℕ) (h a : tree.Surf) (acc : List tree.Surf) (k : m.Term_in) {ts us : List Lexeme} {ds : List tree.Decl} → g.Atom allows d ts us a → Atoms_read d h (acc ++ a ∷ []) k us ds → Atoms_read d h acc k ts ds
  one_more_atom d h a acc k atom (app {args = args} {us = us} {ds = ds} atoms more) =
      app (g.next atom atoms) (subst (λ (l : List tree.Surf). r.RestTerm allows k (applied h l) us ds) (append_assoc acc (a ∷ []) args) more)
  one_more_atom d h a acc k atom (arrow {b = b} {args = args} {vs = vs} {ds = ds} atoms t more) =
      arrow (g.next atom atoms) t (subst (λ (l : List tree.Surf). r.RestTerm allows k (tree.Arrow (applied h l) b) vs ds) (append_assoc acc (a ∷ []) args) more)

  pub atoms_read : {d : ℕ} {s : m.Spine} {k : m.Term_in} {ts : List Lexeme} {ds : List tree.Decl} → r.RestAtoms allows d s k ts ds → Atoms_read d s.head s.args k ts ds
  atoms_read {d} {s} {k} (r.atom {a = a} atom more) = one_more_atom d s.head a s.args k atom (atoms_read more)
  atoms_read {d} {s} {k} (r.arrow {b = b} {us = us} {ds = ds} t more) =
      arrow g.end t (subst (λ (l : List tree.Surf). r.RestTerm allows k (tree.Arrow (applied s.head l) b) us ds) (sym (append-nil s.args)) more)
  atoms_read {d} {s} {k} {ts} {ds} (r.end more) = app g.end (subst (λ (l : List tree.Surf). r.RestTerm allows k (applied s.head l) ts ds) (sym (append-nil s.args)) more)

  -- an application whose first atom is read
  pub application : {d : ℕ} {h : tree.Surf} {k : m.Term_in} {ts us : List Lexeme} {ds : List tree.Decl} → allows d (length ts) ≡ true → g.Atom allows d ts us h → Atoms_read d h [] k us ds → r.Due allows d k ts ds
  application may a (app args more) = r.term (g.app may a args) more
  application may a (arrow args t more) = r.term (g.arrow may a args t) more

  -- binders
  pub data Binders_read : ℕ → m.Quantifier → List tree.Binder → m.Term_in → List Lexeme → List tree.Decl → Type 0 where
    into : {d : ℕ} {q : m.Quantifier} {acc : List tree.Binder} {t : tree.Surf} {k : m.Term_in} {ts us : List Lexeme} {ds : List tree.Decl} →
        g.Term allows (d + 1) ts us t → r.RestTerm allows k (m.quantified q acc t) us ds → Binders_read d q acc k (x.Arrow ∷ ts) ds
    more : {d : ℕ} {q : m.Quantifier} {acc bs : List tree.Binder} {t : tree.Surf} {k : m.Term_in} {ts us vs : List Lexeme} {ds : List tree.Decl} →
        g.Binders allows d ts (x.Arrow ∷ us) bs → g.Term allows (d + 1) us vs t → r.RestTerm allows k (m.quantified q (acc ++ bs) t) vs ds → Binders_read d q acc k ts ds

  -- names, or none
  pub data Some_names : List Lexeme → List Lexeme → List (Option Word) → Type 0 where
    none : {ts : List Lexeme} → Some_names ts ts []
    some : {ts us : List Lexeme} {ms : List (Option Word)} → g.Names allows ts us ms → Some_names ts us ms

  and_plain : {v : Word} {ts us : List Lexeme} {ms : List (Option Word)} → Some_names ts us ms → g.Names allows (x.Plain v ∷ ts) us (Some v ∷ ms)
  and_plain none = g.name
  and_plain (some names) = g.names names

  and_blank : {ts us : List Lexeme} {ms : List (Option Word)} → Some_names ts us ms → g.Names allows (x.Underscore ∷ ts) us (None ∷ ms)
  and_blank none = g.blank
  and_blank (some names) = g.blanks names

  -- names after the `(` of a binder, with all binders from there on
  pub data Names_read : ℕ → m.Quantifier → List tree.Binder → List (Option Word) → m.Term_in → List Lexeme → List tree.Decl → Type 0 where
    read : {d : ℕ} {q : m.Quantifier} {acc : List tree.Binder} {ns ms : List (Option Word)} {a : tree.Surf} {k : m.Term_in} {ts us vs : List Lexeme} {ds : List tree.Decl} →
        Some_names ts (x.Colon ∷ us) ms → (ns ++ ms ≡ [] → ⊥) → g.Term allows (d + 1) us (x.Close ∷ vs) a → Binders_read d q (acc ++ tree.Group (ns ++ ms) a ∷ []) k vs ds → Names_read d q acc ns k ts ds

  plain_read : (d : ℕ) (q : m.Quantifier) (acc : List tree.Binder) (ns : List (Option Word)) (k : m.Term_in) {v : Word} {ts : List Lexeme} {ds : List tree.Decl} →
      Names_read d q acc (ns ++ Some v ∷ []) k ts ds → Names_read d q acc ns k (x.Plain v ∷ ts) ds
  plain_read d q acc ns k {v} (read {ms = ms} {a = a} {vs = vs} {ds = ds} names ne t behind) =
      read (some (and_plain names)) (λ e. ne (append_assoc ns (Some v ∷ []) ms ∙ e)) t
      (subst (λ (l : List (Option Word)). Binders_read d q (acc ++ tree.Group l a ∷ []) k vs ds) (append_assoc ns (Some v ∷ []) ms) behind)

  blank_read : (d : ℕ) (q : m.Quantifier) (acc : List tree.Binder) (ns : List (Option Word)) (k : m.Term_in) {ts : List Lexeme} {ds : List tree.Decl} →
      Names_read d q acc (ns ++ None ∷ []) k ts ds → Names_read d q acc ns k (x.Underscore ∷ ts) ds
  blank_read d q acc ns k (read {ms = ms} {a = a} {vs = vs} {ds = ds} names ne t behind) =
      read (some (and_blank names)) (λ e. ne (append_assoc ns (None ∷ []) ms ∙ e)) t
      (subst (λ (l : List (Option Word)). Binders_read d q (acc ++ tree.Group l a ∷ []) k vs ds) (append_assoc ns (None ∷ []) ms) behind)

  -- a whole binder with the binders after it
  binder_read : (d : ℕ) (q : m.Quantifier) (acc : List tree.Binder) (b : tree.Binder) (k : m.Term_in) {ts us : List Lexeme} {ds : List tree.Decl} → g.Binder allows d ts us b → Binders_read d q (acc ++ b ∷ []) k us ds → Binders_read d q acc k ts ds
  binder_read d q acc b k binder (into t rest) = more (g.one binder) t rest
  binder_read d q acc b k binder (more {bs = bs} {t = t'} {vs = vs} {ds = ds} binders t rest) =
      more (g.more binder binders) t (subst (λ (l : List tree.Binder). r.RestTerm allows k (m.quantified q l t') vs ds) (append_assoc acc (b ∷ []) bs) rest)

  opened_read : (d : ℕ) (q : m.Quantifier) (acc : List tree.Binder) (k : m.Term_in) {ts : List Lexeme} {ds : List tree.Decl} → Names_read d q acc [] k ts ds → Binders_read d q acc k (x.Open ∷ ts) ds
  opened_read d q acc k (read none ne t rest) = absurd (ne refl)
  opened_read d q acc k (read {ms = ms} {a = a} (some names) ne t rest) = binder_read d q acc (tree.Group ms a) k (g.group names t) rest

  mutual
    pub binders_read : {b : m.Telescope} {k : m.Term_in} {ts : List Lexeme} {ds : List tree.Decl} → r.RestBinders allows b k ts ds → Binders_read b.depth b.quantifier b.binders k ts ds
    binders_read (r.into t rest) = into t rest
    binders_read {b} {k} (r.binder names) = opened_read b.depth b.quantifier b.binders k (names_read names)

    pub names_read : {b : m.Telescope} {ns : List (Option Word)} {k : m.Term_in} {ts : List Lexeme} {ds : List tree.Decl} → r.RestNames allows b ns k ts ds → Names_read b.depth b.quantifier b.binders ns k ts ds
    names_read {b} {ns} {k} (r.plain rest) = plain_read b.depth b.quantifier b.binders ns k (names_read rest)
    names_read {b} {ns} {k} (r.blank rest) = blank_read b.depth b.quantifier b.binders ns k (names_read rest)
    names_read {b} {ns} {k} (r.colon {n = n} {ns = ns'} {a = a} {us = us} {ds = ds} t rest) =
        read none (λ e. cc) t (subst (λ (l : List (Option Word)). Binders_read b.depth b.quantifier (b.binders ++ tree.Group l a ∷ []) k us ds) (sym (append-nil (n ∷ ns'))) (binders_read rest))

  -- a term that begins with binders
  pub product_read : {d : ℕ} {k : m.Term_in} {ts : List Lexeme} {ds : List tree.Decl} → allows d (length ts) ≡ true → Binders_read d m.Product [] k ts ds → (y : Lexeme) (us : List Lexeme) → ts ≡ x.Open ∷ us → r.Due allows d k ts ds
  product_read may (into t rest) y us e = cc
  product_read may (more binders t rest) y us e = r.term (g.pi may binders t) rest

  pub function_read : {d : ℕ} {k : m.Term_in} {ts : List Lexeme} {ds : List tree.Decl} → allows d (length (x.Backslash ∷ ts)) ≡ true → Binders_read d m.Function [] k ts ds → (us : List Lexeme) → ts ≡ x.Open ∷ us → r.Due allows d k (x.Backslash ∷ ts) ds
  function_read may (into t rest) us e = cc
  function_read may (more binders t rest) us e = r.term (g.lam may binders t) rest

  -- patterns
  pub data Ends : ℕ → Bool → m.Pats_in → List Lexeme → List tree.Decl → Type 0 where
    con : {d : ℕ} {void : Bool} {h : m.Headed} {k : m.Pats_in} {ts : List Lexeme} {ds : List tree.Decl} →
        r.RestPats allows h.depth void (m.with_pat (tree.Con h.head (tree.pats h.pats)) k) ts ds → Ends d void (m.Inside h k) (x.Close ∷ ts) ds
    side : {d : ℕ} {h : m.Headed} {k : m.Clauses_in} {t : tree.Surf} {ts us : List Lexeme} {ds : List tree.Decl} →
        g.Term allows d ts us t → r.RestClause allows h.depth (m.clause h (tree.Side t)) k us ds → Ends d false (m.Behind h k) (x.Equals ∷ ts) ds
    inspect : {d : ℕ} {h : m.Headed} {k : m.Clauses_in} {t : tree.Surf} {ts us : List Lexeme} {ds : List tree.Decl} →
        g.Term allows d ts (x.OpenBrace ∷ us) t → r.RestClauses allows (h.depth + 1) (m.Inspect h t [] k) us ds → Ends d false (m.Behind h k) (x.With ∷ ts) ds
    absurd_ : {d : ℕ} {h : m.Headed} {k : m.Clauses_in} {ts : List Lexeme} {ds : List tree.Decl} →
        r.RestClause allows h.depth (m.clause h tree.Absurd) k ts ds → Ends d true (m.Behind h k) ts ds

  pub data Pats_read : ℕ → Bool → m.Pats_in → List Lexeme → List tree.Decl → Type 0 where
    read_pats : {d n : ℕ} {v v' : Bool} {k : m.Pats_in} {ps : List tree.Pat} {ts us : List Lexeme} {ds : List tree.Decl} →
        g.Pats allows d ts us ps n → w.count allows v + n ≡ w.count allows v' → Ends d v' (w.with_pats allows ps k) us ds → Pats_read d v k ts ds

  pub add_none : (v : Bool) → w.count allows v + 0 ≡ w.count allows v
  add_none false = refl
  add_none true = refl

  no_more : (d : ℕ) (v : Bool) (k : m.Pats_in) {ts : List Lexeme} {ds : List tree.Decl} → Ends d v k ts ds → Pats_read d v k ts ds
  no_more d v k {ts} {ds} ends = read_pats g.end (add_none v) (subst (λ (l : m.Pats_in). Ends d v l ts ds) (sym (w.no_pats allows k)) ends)

  one_more : (d : ℕ) (v w' : Bool) (n : ℕ) (p : tree.Pat) (k : m.Pats_in) {ts us : List Lexeme} {ds : List tree.Decl} → g.Pat allows d ts us p n → w.count allows v + n ≡ w.count allows w' → Pats_read d w' (m.with_pat p k) us ds → Pats_read d v k ts ds
  one_more d v w' n p k pat c (read_pats {n = n'} {v' = v'} {ps = ps} {us = us} {ds = ds} pats e ends) =
      read_pats (g.next pat pats) (omega arith) (subst (λ (l : m.Pats_in). Ends d v' l us ds) (w.more_pats allows p ps k) ends)

  pub pats_read : {d : ℕ} {v : Bool} {k : m.Pats_in} {ts : List Lexeme} {ds : List tree.Decl} → r.RestPats allows d v k ts ds → Pats_read d v k ts ds
  pats_read {d} {v} {k} (r.pat {p = p} pat rest) = one_more d v v 0 p k pat (add_none v) (pats_read rest)
  pats_read {d} {v} {k} (r.void {p = p} pat rest) = one_more d false true 1 p k pat refl (pats_read rest)
  pats_read {d} {v} {k} (r.con rest) = no_more d v k (con rest)
  pats_read {d} {v} {k} (r.side t rest) = no_more d v k (side t rest)
  pats_read {d} {v} {k} (r.inspect t rest) = no_more d v k (inspect t rest)
  pats_read {d} {v} {k} (r.absurd rest) = no_more d v k (absurd_ rest)

  -- clauses
  pub data Clauses_read : ℕ → m.Clauses_in → List Lexeme → List tree.Decl → Type 0 where
    read_clauses : {d : ℕ} {k : m.Clauses_in} {cs : List tree.Clause} {ts us : List Lexeme} {ds : List tree.Decl} → g.Listed allows d ts us cs → r.RestClosed allows (w.with_clauses allows cs k) us ds → Clauses_read d k ts ds

  more_read : (d : ℕ) (c : tree.Clause) (k : m.Clauses_in) {ts us : List Lexeme} {ds : List tree.Decl} → g.Clause allows d ts (x.Semicolon ∷ us) c → Clauses_read d (m.with_clause c k) us ds → Clauses_read d k ts ds
  more_read d c k clause (read_clauses {cs = cs} {us = us} {ds = ds} clauses rest) =
      read_clauses (g.more clause clauses) (subst (λ (l : m.Clauses_in). r.RestClosed allows l us ds) (w.more_clauses allows c cs k) rest)

  pub due_read : {d : ℕ} {k : m.Clauses_in} {ts : List Lexeme} {ds : List tree.Decl} → r.RestDue allows d k ts ds → Clauses_read d k ts ds
  due_read {d} {k} {ds = ds} (r.clause {c = c} clause (r.last {ts = us} rest)) = read_clauses (g.last clause) (subst (λ (l : m.Clauses_in). r.RestClosed allows l us ds) (sym (w.one_clause allows c k)) rest)
  due_read {d} {k} {ds = ds} (r.clause {c = c} clause (r.more rest)) = more_read d c k clause (due_read rest)

  pub data All_clauses : ℕ → m.Clauses_in → List Lexeme → List tree.Decl → Type 0 where
    all : {d : ℕ} {k : m.Clauses_in} {cs : List tree.Clause} {ts us : List Lexeme} {ds : List tree.Decl} → g.Clauses allows d ts us cs → r.RestClosed allows (w.with_clauses allows cs k) us ds → All_clauses d k ts ds

  listed : {d : ℕ} {k : m.Clauses_in} {ts : List Lexeme} {ds : List tree.Decl} → Clauses_read d k ts ds → All_clauses d k ts ds
  listed (read_clauses clauses rest) = all (g.some clauses) rest

  pub clauses_read : {d : ℕ} {k : m.Clauses_in} {ts : List Lexeme} {ds : List tree.Decl} → r.RestClauses allows d k ts ds → All_clauses d k ts ds
  clauses_read {k = k} {ds = ds} (r.none {ts = us} rest) = all g.none (subst (λ (l : m.Clauses_in). r.RestClosed allows l us ds) (sym (w.no_clauses allows k)) rest)
  clauses_read (r.some due) = listed (due_read due)
