-- Whole productions of the grammar, as what is left to read in the states that read them.
use Rattle.std.proofs.Common.{◌≡◌, ℕ, ◌+◌, zero, suc, Bool, true, false, List, [], ◌∷◌, ◌++◌, refl, sym, ap, subst, append_assoc, arith}
use Rattle.std.proofs.lemmas.List.{append-nil}
use Rattle.std.specs.Prelude.{Option, Some, None}
use Rattle.surface_syntax.specs.Trees as tree
use Rattle.surface_syntax.specs.Grammar as g
use Rattle.surface_syntax.specs.Machine as m
use Rattle.surface_syntax.specs.declared.tree.Word.{Word}
use Rattle.surface_syntax.specs.declared.lexeme.Lexeme.{Lexeme}
use Rattle.surface_syntax.specs.declared.lexeme.Lexeme.TheVariants as x
use Rattle.surface_syntax.proofs.Rest as r

module _ (allows : ℕ → ℕ → Bool) where
  -- atoms of an application
  pub atoms_rest : {d : ℕ} {ts us : List Lexeme} {args : List tree.Surf} (h : tree.Surf) (acc : List tree.Surf) (k : m.Term_in) (ds : List tree.Decl) → g.Atoms allows d ts us args →
      r.RestAtoms allows d (record { head = h; args = acc ++ args }) k us ds → r.RestAtoms allows d (record { head = h; args = acc }) k ts ds
  atoms_rest {d} {ts} h acc k ds g.end more = subst (λ (l : List tree.Surf). r.RestAtoms allows d (record { head = h; args = l }) k ts ds) (append-nil acc) more
  atoms_rest {d} {ts} {us} h acc k ds (g.next {a = a} {args = args} atom atoms) more =
      r.atom atom (atoms_rest h (acc ++ a ∷ []) k ds atoms
      (subst (λ (l : List tree.Surf). r.RestAtoms allows d (record { head = h; args = l }) k us ds) (sym (append_assoc acc (a ∷ []) args)) more))

  -- names of a binder
  pub names_rest : {ts us : List Lexeme} {ns : List (Option Word)} (b : m.Telescope) (acc : List (Option Word)) (k : m.Term_in) (ds : List tree.Decl) → g.Names allows ts us ns →
      r.RestNames allows b (acc ++ ns) k us ds → r.RestNames allows b acc k ts ds
  names_rest b acc k ds g.name more = r.plain more
  names_rest b acc k ds g.blank more = r.blank more
  names_rest {ts} {us} b acc k ds (g.names {w = w} {ns = ns} names) more =
      r.plain (names_rest b (acc ++ Some w ∷ []) k ds names (subst (λ (l : List (Option Word)). r.RestNames allows b l k us ds) (sym (append_assoc acc (Some w ∷ []) ns)) more))
  names_rest {ts} {us} b acc k ds (g.blanks {ns = ns} names) more =
      r.blank (names_rest b (acc ++ None ∷ []) k ds names (subst (λ (l : List (Option Word)). r.RestNames allows b l k us ds) (sym (append_assoc acc (None ∷ []) ns)) more))

  colon_rest : {ts us vs : List Lexeme} {ns : List (Option Word)} {a : tree.Surf} (b : m.Telescope) (k : m.Term_in) (ds : List tree.Decl) → g.Names allows ts (x.Colon ∷ us) ns →
      g.Term allows (b.depth + 1) us (x.Close ∷ vs) a → r.RestBinders allows (m.with_binder b ns a) k vs ds → r.RestNames allows b ns k (x.Colon ∷ us) ds
  colon_rest b k ds g.name t more = r.colon t more
  colon_rest b k ds g.blank t more = r.colon t more
  colon_rest b k ds (g.names names) t more = r.colon t more
  colon_rest b k ds (g.blanks names) t more = r.colon t more

  -- a binder has been opened
  pub data Begun : m.Telescope → m.Term_in → List Lexeme → List tree.Decl → Type 0 where
    begun : {b : m.Telescope} {k : m.Term_in} {ts : List Lexeme} {ds : List tree.Decl} → r.RestNames allows b [] k ts ds → Begun b k (x.Open ∷ ts) ds

  into_binders : {b : m.Telescope} {k : m.Term_in} {ts : List Lexeme} {ds : List tree.Decl} → Begun b k ts ds → r.RestBinders allows b k ts ds
  into_binders (begun names) = r.binder names

  binder_rest : {ts us : List Lexeme} {b : tree.Binder} (d : ℕ) (q : m.Quantifier) (acc : List tree.Binder) (k : m.Term_in) (ds : List tree.Decl) → g.Binder allows d ts us b →
      r.RestBinders allows (record { depth = d; quantifier = q; binders = acc ++ b ∷ [] }) k us ds → Begun (record { depth = d; quantifier = q; binders = acc }) k ts ds
  binder_rest d q acc k ds (g.group names t) more =
      begun (names_rest (record { depth = d; quantifier = q; binders = acc }) [] k ds names (colon_rest (record { depth = d; quantifier = q; binders = acc }) k ds names t more))

  -- binders with what they come before
  pub binders_rest : {ts us vs : List Lexeme} {bs : List tree.Binder} {t : tree.Surf} (d : ℕ) (q : m.Quantifier) (acc : List tree.Binder) (k : m.Term_in) (ds : List tree.Decl) → g.Binders allows d ts (x.Arrow ∷ us) bs →
      g.Term allows (d + 1) us vs t → r.RestTerm allows k (m.quantified q (acc ++ bs) t) vs ds → Begun (record { depth = d; quantifier = q; binders = acc }) k ts ds
  binders_rest d q acc k ds (g.one b) t more = binder_rest d q acc k ds b (r.into t more)
  binders_rest {ts} {us} {vs} {t = t'} d q acc k ds (g.more {b = b'} {bs = bs} b rest) t more =
      binder_rest d q acc k ds b (into_binders (binders_rest d q (acc ++ b' ∷ []) k ds rest t
      (subst (λ (l : List tree.Binder). r.RestTerm allows k (m.quantified q l t') vs ds) (sym (append_assoc acc (b' ∷ []) bs)) more)))

  -- patterns
  abbrev pub with_pats : List tree.Pat → m.Pats_in → m.Pats_in
  with_pats ps (m.Behind h k) = m.Behind (record { depth = h.depth; head = h.head; pats = h.pats ++ ps }) k
  with_pats ps (m.Inside h k) = m.Inside (record { depth = h.depth; head = h.head; pats = h.pats ++ ps }) k

  abbrev pub count : Bool → ℕ
  count false = 0
  count true = 1

  pub no_pats : (k : m.Pats_in) → with_pats [] k ≡ k
  no_pats (m.Behind h k) = ap (λ (ps : List tree.Pat). m.Behind (record { depth = h.depth; head = h.head; pats = ps }) k) (append-nil h.pats)
  no_pats (m.Inside h k) = ap (λ (ps : List tree.Pat). m.Inside (record { depth = h.depth; head = h.head; pats = ps }) k) (append-nil h.pats)

  pub more_pats : (p : tree.Pat) (ps : List tree.Pat) (k : m.Pats_in) → with_pats ps (m.with_pat p k) ≡ with_pats (p ∷ ps) k
  more_pats p ps (m.Behind h k) = ap (λ (l : List tree.Pat). m.Behind (record { depth = h.depth; head = h.head; pats = l }) k) (append_assoc h.pats (p ∷ []) ps)
  more_pats p ps (m.Inside h k) = ap (λ (l : List tree.Pat). m.Inside (record { depth = h.depth; head = h.head; pats = l }) k) (append_assoc h.pats (p ∷ []) ps)

  pat_rest : {d : ℕ} {ts us : List Lexeme} {p : tree.Pat} (n m' : ℕ) (v v' : Bool) (k : m.Pats_in) (ds : List tree.Decl) → g.Pat allows d ts us p n → count v + (n + m') ≡ count v' →
      ((w : Bool) → count w + m' ≡ count v' → r.RestPats allows d w (m.with_pat p k) us ds) → r.RestPats allows d v k ts ds
  pat_rest zero m' v v' k ds p e more = r.pat p (more v (omega arith))
  pat_rest (suc zero) m' false v' k ds p e more = r.void p (more true (omega arith))
  pat_rest (suc zero) m' true false k ds p e more = absurd (omega arith)
  pat_rest (suc zero) m' true true k ds p e more = absurd (omega arith)
  pat_rest (suc (suc n)) m' v false k ds p e more = absurd (omega arith)
  pat_rest (suc (suc n)) m' v true k ds p e more = absurd (omega arith)

  same_count : (v v' : Bool) → count v + 0 ≡ count v' → v ≡ v'
  same_count false false e = refl
  same_count true true e = refl
  same_count false true e = absurd (omega arith)
  same_count true false e = absurd (omega arith)

  pub pats_rest : {d n : ℕ} {ts us : List Lexeme} {ps : List tree.Pat} (v v' : Bool) (k : m.Pats_in) (ds : List tree.Decl) → g.Pats allows d ts us ps n → count v + n ≡ count v' →
      r.RestPats allows d v' (with_pats ps k) us ds → r.RestPats allows d v k ts ds
  pats_rest {d} {n} {ts} v v' k ds g.end e more =
      subst (λ (w : Bool). r.RestPats allows d w k ts ds) (sym (same_count v v' e)) (subst (λ (l : m.Pats_in). r.RestPats allows d v' l ts ds) (no_pats k) more)
  pats_rest {d} {n} {ts} {us} v v' k ds (g.next {n = n'} {m = m'} {p = p'} {ps = ps} p rest) e more =
      pat_rest n' m' v v' k ds p e (λ w c. pats_rest w v' (m.with_pat p' k) ds rest c (subst (λ (l : m.Pats_in). r.RestPats allows d v' l us ds) (sym (more_pats p' ps k)) more))

  -- clauses
  abbrev pub with_clauses : List tree.Clause → m.Clauses_in → m.Clauses_in
  with_clauses cs (m.Fun w a es) = m.Fun w a (es ++ cs)
  with_clauses cs (m.Inspect h t es k) = m.Inspect h t (es ++ cs) k

  pub no_clauses : (k : m.Clauses_in) → with_clauses [] k ≡ k
  no_clauses (m.Fun w a es) = ap (m.Fun w a) (append-nil es)
  no_clauses (m.Inspect h t es k) = ap (λ (l : List tree.Clause). m.Inspect h t l k) (append-nil es)

  pub more_clauses : (c : tree.Clause) (cs : List tree.Clause) (k : m.Clauses_in) → with_clauses cs (m.with_clause c k) ≡ with_clauses (c ∷ cs) k
  more_clauses c cs (m.Fun w a es) = ap (m.Fun w a) (append_assoc es (c ∷ []) cs)
  more_clauses c cs (m.Inspect h t es k) = ap (λ (l : List tree.Clause). m.Inspect h t l k) (append_assoc es (c ∷ []) cs)

  pub one_clause : (c : tree.Clause) (k : m.Clauses_in) → with_clauses (c ∷ []) k ≡ m.with_clause c k
  one_clause c (m.Fun w a es) = refl
  one_clause c (m.Inspect h t es k) = refl

  listed_rest : {d : ℕ} {ts us : List Lexeme} {cs : List tree.Clause} (k : m.Clauses_in) (ds : List tree.Decl) → g.Listed allows d ts us cs →
      r.RestClosed allows (with_clauses cs k) us ds → r.RestDue allows d k ts ds
  listed_rest {d} {ts} {us} k ds (g.last {c = c} clause) more = r.clause clause (r.last (subst (λ (l : m.Clauses_in). r.RestClosed allows l us ds) (one_clause c k) more))
  listed_rest {d} {ts} {us} k ds (g.more {c = c} {cs = cs} clause rest) more =
      r.clause clause (r.more (listed_rest (m.with_clause c k) ds rest (subst (λ (l : m.Clauses_in). r.RestClosed allows l us ds) (sym (more_clauses c cs k)) more)))

  pub clauses_rest : {d : ℕ} {ts us : List Lexeme} {cs : List tree.Clause} (k : m.Clauses_in) (ds : List tree.Decl) → g.Clauses allows d ts us cs →
      r.RestClosed allows (with_clauses cs k) us ds → r.RestClauses allows d k ts ds
  clauses_rest {d} {ts} {us} k ds g.none more = r.none (subst (λ (l : m.Clauses_in). r.RestClosed allows l us ds) (no_clauses k) more)
  clauses_rest k ds (g.some listed) more = r.some (listed_rest k ds listed more)

  -- the parts of families
  pub params_rest : {ts us : List Lexeme} {ps : List tree.Typed} (w : Word) (acc : List tree.Typed) (ds : List tree.Decl) → g.Params allows ts us ps →
      r.RestParams allows w (acc ++ ps) us ds → r.RestParams allows w acc ts ds
  params_rest {ts} w acc ds g.end more = subst (λ (l : List tree.Typed). r.RestParams allows w l ts ds) (append-nil acc) more
  params_rest {ts} {us} w acc ds (g.next {w = p} {a = a} {ps = ps} t rest) more =
      let one : tree.Typed = record { name = p; ty = a } in
      r.param t (params_rest w (acc ++ one ∷ []) ds rest (subst (λ (l : List tree.Typed). r.RestParams allows w l us ds) (sym (append_assoc acc (one ∷ []) ps)) more))

  listed_cons_rest : {ts us : List Lexeme} {cs : List tree.Typed} (f : m.Families) (w : Word) (a : tree.Surf) (acc : List tree.Typed) (ds : List tree.Decl) → g.Listed_cons allows ts us cs →
      r.RestMember allows f.params f.members (record { name = w; ty = a; cons = acc ++ cs }) us ds → r.RestCons allows f (record { name = w; ty = a; cons = acc }) ts ds
  listed_cons_rest f w a acc ds (g.last t) more = r.last t more
  listed_cons_rest {ts} {us} f w a acc ds (g.more {c = c} {a = b} {cs = cs} t rest) more =
      let one : tree.Typed = record { name = c; ty = b } in
      r.more t (listed_cons_rest f w a (acc ++ one ∷ []) ds rest
      (subst (λ (l : List tree.Typed). r.RestMember allows f.params f.members (record { name = w; ty = a; cons = l }) us ds) (sym (append_assoc acc (one ∷ []) cs)) more))

  pub cons_rest : {ts us : List Lexeme} {cs : List tree.Typed} (f : m.Families) (w : Word) (a : tree.Surf) (ds : List tree.Decl) → g.Cons allows ts us cs →
      r.RestMember allows f.params f.members (record { name = w; ty = a; cons = cs }) us ds → r.RestFamily allows f (record { name = w; ty = a; cons = [] }) ts ds
  cons_rest f w a ds g.none more = r.none more
  cons_rest f w a ds (g.some listed) more = r.some (listed_cons_rest f w a [] ds listed more)

  pub members_rest : {ts us : List Lexeme} {ns : List tree.Member} (ps : List tree.Typed) (acc : List tree.Member) (ds : List tree.Decl) → g.Members allows ts us ns →
      r.RestMembers allows ps (acc ++ ns) us ds → r.RestMembers allows ps acc ts ds
  members_rest ps acc ds (g.last t cs) more = r.member t cs more
  members_rest {ts} {us} ps acc ds (g.more {w = w} {a = a} {cs = cs} {ms = ms} t cons rest) more =
      let one : tree.Member = record { name = w; ty = a; cons = cs } in
      r.member t cons (members_rest ps (acc ++ one ∷ []) ds rest (subst (λ (l : List tree.Member). r.RestMembers allows ps l us ds) (sym (append_assoc acc (one ∷ []) ms)) more))

  pub first_rest : {ts us : List Lexeme} {ns : List tree.Member} (ps : List tree.Typed) (n : tree.Member) (ds : List tree.Decl) → g.Members allows ts us ns →
      r.RestMembers allows ps (n ∷ ns) us ds → r.RestMember allows ps [] n ts ds
  first_rest ps n ds (g.last t cs) more = r.first t cs more
  first_rest ps n ds (g.more {w = w} {a = a} {cs = cs} t cons rest) more = r.first t cons (members_rest ps (n ∷ record { name = w; ty = a; cons = cs } ∷ []) ds rest more)

  pub tags_rest : {ts us : List Lexeme} {tags : List Word} (ps : List tree.Typed) (ms : List tree.Member) (f t : Word) (acc : List Word) (ds : List tree.Decl) → g.Tags allows ts us tags →
      g.File allows us ds → r.RestTags allows ps ms f t acc ts (tree.Mutual ps ms f t (acc ++ tags) ∷ ds)
  tags_rest ps ms f t acc ds g.last file = r.last file
  tags_rest {ts} ps ms f t acc ds (g.more {w = w} {tags = tags} rest) file =
      subst (λ (l : List Word). r.RestTags allows ps ms f t acc ts (tree.Mutual ps ms f t l ∷ ds)) (append_assoc acc (w ∷ []) tags)
      (r.more (tags_rest ps ms f t (acc ++ w ∷ []) ds rest file))
