-- The lexemes that are left to read in a declaration, as whole declarations.
use Rattle.std.proofs.Common.{◌≡◌, ℕ, Bool, List, [], ◌∷◌, ◌++◌, refl, sym, ap, subst, ◌∙◌, append_assoc}
use Rattle.std.proofs.lemmas.List.{append-nil}
use Rattle.surface_syntax.specs.Trees as tree
use Rattle.surface_syntax.specs.Grammar as g
use Rattle.surface_syntax.specs.Machine as m
use Rattle.surface_syntax.specs.declared.tree.Word.{Word}
use Rattle.surface_syntax.specs.declared.lexeme.Lexeme.{Lexeme}
use Rattle.surface_syntax.specs.declared.lexeme.Lexeme.TheVariants as x
use Rattle.surface_syntax.proofs.Rest as r
use Rattle.surface_syntax.proofs.Pieces as p

module _ (allows : ℕ → ℕ → Bool) where
  data Params_read : Word → List tree.Typed → List Lexeme → List tree.Decl → Type 0 where
    read_params : {v : Word} {acc ps : List tree.Typed} {a : tree.Surf} {ts us vs : List Lexeme} {ds : List tree.Decl} → g.Params allows ts (x.Colon ∷ us) ps → g.Term allows 0 us (x.OpenBrace ∷ vs) a →
        r.RestFamily allows (record { params = acc ++ ps; members = [] }) (record { name = v; ty = a; cons = [] }) vs ds → Params_read v acc ts ds

  more_params : (v q : Word) (a : tree.Surf) (acc : List tree.Typed) {ts us : List Lexeme} {ds : List tree.Decl} → g.Term allows 0 ts (x.Close ∷ us) a → Params_read v (acc ++ record { name = q; ty = a } ∷ []) us ds →
      Params_read v acc (x.Open ∷ x.Plain q ∷ x.Colon ∷ ts) ds
  more_params v q a acc t (read_params {ps = ps} {a = b} {vs = vs} {ds = ds} params ty rest) =
      read_params (g.next t params) ty (subst (λ (l : List tree.Typed). r.RestFamily allows (record { params = l; members = [] }) (record { name = v; ty = b; cons = [] }) vs ds)
      (append_assoc acc (record { name = q; ty = a } ∷ []) ps) rest)

  params_read : {v : Word} {acc : List tree.Typed} {ts : List Lexeme} {ds : List tree.Decl} → r.RestParams allows v acc ts ds → Params_read v acc ts ds
  params_read {v} {acc} (r.param {p = q} {a = a} t rest) = more_params v q a acc t (params_read rest)
  params_read {v} {acc} (r.end {us = us} {a = a} {ds = ds} t rest) =
      read_params g.end t (subst (λ (l : List tree.Typed). r.RestFamily allows (record { params = l; members = [] }) (record { name = v; ty = a; cons = [] }) us ds) (sym (append-nil acc)) rest)

  abbrev pub with_cons : tree.Member → List tree.Typed → tree.Member
  with_cons n cs = record { name = n.name; ty = n.ty; cons = n.cons ++ cs }

  data Listed_read : m.Families → tree.Member → List Lexeme → List tree.Decl → Type 0 where
    read_listed : {f : m.Families} {n : tree.Member} {cs : List tree.Typed} {ts us : List Lexeme} {ds : List tree.Decl} → g.Listed_cons allows ts us cs → r.RestMember allows f.params f.members (with_cons n cs) us ds → Listed_read f n ts ds

  more_cons : (f : m.Families) (n : tree.Member) (c : Word) (a : tree.Surf) {ts us : List Lexeme} {ds : List tree.Decl} → g.Term allows 0 ts (x.Semicolon ∷ us) a → Listed_read f (m.with_con n c a) us ds →
      Listed_read f n (x.Plain c ∷ x.Colon ∷ ts) ds
  more_cons f n c a t (read_listed {cs = cs} {us = us} {ds = ds} listed rest) =
      read_listed (g.more t listed) (subst (λ (l : List tree.Typed). r.RestMember allows f.params f.members (record { name = n.name; ty = n.ty; cons = l }) us ds)
      (append_assoc n.cons (record { name = c; ty = a } ∷ []) cs) rest)

  listed_read : {f : m.Families} {n : tree.Member} {ts : List Lexeme} {ds : List tree.Decl} → r.RestCons allows f n ts ds → Listed_read f n ts ds
  listed_read (r.last t rest) = read_listed (g.last t) rest
  listed_read {f} {n} (r.more {c = c} {a = a} t rest) = more_cons f n c a t (listed_read rest)

  pub data Cons_read : m.Families → tree.Member → List Lexeme → List tree.Decl → Type 0 where
    read_cons : {f : m.Families} {n : tree.Member} {cs : List tree.Typed} {ts us : List Lexeme} {ds : List tree.Decl} → g.Cons allows ts us cs → r.RestMember allows f.params f.members (with_cons n cs) us ds → Cons_read f n ts ds

  from_listed : {f : m.Families} {n : tree.Member} {ts : List Lexeme} {ds : List tree.Decl} → Listed_read f n ts ds → Cons_read f n ts ds
  from_listed (read_listed listed rest) = read_cons (g.some listed) rest

  pub cons_read : {f : m.Families} {n : tree.Member} {ts : List Lexeme} {ds : List tree.Decl} → r.RestFamily allows f n ts ds → Cons_read f n ts ds
  cons_read {f} {n} {ds = ds} (r.none {ts = us} rest) =
      read_cons g.none (subst (λ (l : List tree.Typed). r.RestMember allows f.params f.members (record { name = n.name; ty = n.ty; cons = l }) us ds) (sym (append-nil n.cons)) rest)
  cons_read (r.some rest) = from_listed (listed_read rest)

  data Tags_read : List tree.Typed → List tree.Member → Word → Word → List Word → List Lexeme → List tree.Decl → Type 0 where
    read_tags : {ps : List tree.Typed} {ms : List tree.Member} {f t : Word} {acc tags : List Word} {ts us : List Lexeme} {ds es : List tree.Decl} → g.Tags allows ts us tags → g.File allows us es →
        ds ≡ tree.Mutual ps ms f t (acc ++ tags) ∷ es → Tags_read ps ms f t acc ts ds

  more_tags : (ps : List tree.Typed) (ms : List tree.Member) (f t v : Word) (acc : List Word) {ts : List Lexeme} {ds : List tree.Decl} → Tags_read ps ms f t (acc ++ v ∷ []) ts ds → Tags_read ps ms f t acc (x.Plain v ∷ x.Semicolon ∷ ts) ds
  more_tags ps ms f t v acc (read_tags {tags = tags} {es = es} rest file e) = read_tags (g.more rest) file (e ∙ ap (λ (l : List Word). tree.Mutual ps ms f t l ∷ es) (append_assoc acc (v ∷ []) tags))

  tags_read : {ps : List tree.Typed} {ms : List tree.Member} {f t : Word} {acc : List Word} {ts : List Lexeme} {ds : List tree.Decl} → r.RestTags allows ps ms f t acc ts ds → Tags_read ps ms f t acc ts ds
  tags_read (r.last file) = read_tags g.last file refl
  tags_read {ps} {ms} {f} {t} {acc} (r.more {w = v} rest) = more_tags ps ms f t v acc (tags_read rest)

  -- the members after the first two, or none, and then the tags
  data Members_read : List tree.Typed → List tree.Member → List Lexeme → List tree.Decl → Type 0 where
    read_tail : {ps : List tree.Typed} {ms : List tree.Member} {f t : Word} {ts : List Lexeme} {ds : List tree.Decl} → Tags_read ps ms f t [] ts ds → Members_read ps ms (x.In ∷ x.Plain f ∷ x.Plain t ∷ x.OpenBrace ∷ ts) ds
    read_members : {ps : List tree.Typed} {ms ns : List tree.Member} {f t : Word} {ts ys : List Lexeme} {ds : List tree.Decl} → g.Members allows ts (x.In ∷ x.Plain f ∷ x.Plain t ∷ x.OpenBrace ∷ ys) ns →
        Tags_read ps (ms ++ ns) f t [] ys ds → Members_read ps ms ts ds

  more_members : (ps : List tree.Typed) (ms : List tree.Member) (v : Word) (a : tree.Surf) (cs : List tree.Typed) {ts us vs : List Lexeme} {ds : List tree.Decl} → g.Term allows 0 ts (x.OpenBrace ∷ us) a → g.Cons allows us vs cs →
      Members_read ps (ms ++ record { name = v; ty = a; cons = cs } ∷ []) vs ds → Members_read ps ms (x.With ∷ x.Plain v ∷ x.Colon ∷ ts) ds
  more_members ps ms v a cs t cons (read_tail tags) = read_members (g.last t cons) tags
  more_members ps ms v a cs t cons (read_members {ns = ns} {f = f} {t = t'} {ys = ys} {ds = ds} members tags) =
      read_members (g.more t cons members) (subst (λ (l : List tree.Member). Tags_read ps l f t' [] ys ds) (append_assoc ms (record { name = v; ty = a; cons = cs } ∷ []) ns) tags)

  members_read : {ps : List tree.Typed} {ms : List tree.Member} {ts : List Lexeme} {ds : List tree.Decl} → r.RestMembers allows ps ms ts ds → Members_read ps ms ts ds
  members_read (r.packed tags) = read_tail (tags_read tags)
  members_read {ps} {ms} (r.member {w = v} {a = a} {cs = cs} t cons rest) = more_members ps ms v a cs t cons (members_read rest)

  -- whole declarations
  tags_file : (ps : List tree.Typed) (v : Word) (a : tree.Surf) (cs : List tree.Typed) (ms : List tree.Member) {f t : Word} {ts us vs xs ys : List Lexeme} {ds : List tree.Decl} →
      g.Params allows ts (x.Colon ∷ us) ps → g.Term allows 0 us (x.OpenBrace ∷ vs) a → g.Cons allows vs xs cs → g.Members allows xs (x.In ∷ x.Plain f ∷ x.Plain t ∷ x.OpenBrace ∷ ys) ms →
      Tags_read ps (record { name = v; ty = a; cons = cs } ∷ ms) f t [] ys ds → g.File allows (x.Data ∷ x.Plain v ∷ ts) ds
  tags_file ps v a cs ms {ts = ts} params ty cons members (read_tags tags file e) =
      subst (λ (l : List tree.Decl). g.File allows (x.Data ∷ x.Plain v ∷ ts) l) (sym e) (g.next (g.families params ty cons members tags) file)

  members_file : (ps : List tree.Typed) (v : Word) (a : tree.Surf) (cs : List tree.Typed) (n : tree.Member) {ts us vs xs ys zs : List Lexeme} {ds : List tree.Decl} →
      g.Params allows ts (x.Colon ∷ us) ps → g.Term allows 0 us (x.OpenBrace ∷ vs) a → g.Cons allows vs (x.With ∷ x.Plain n.name ∷ x.Colon ∷ xs) cs → g.Term allows 0 xs (x.OpenBrace ∷ ys) n.ty → g.Cons allows ys zs n.cons →
      Members_read ps (record { name = v; ty = a; cons = cs } ∷ n ∷ []) zs ds → g.File allows (x.Data ∷ x.Plain v ∷ ts) ds
  members_file ps v a cs n params ty cons t more (read_tail tags) = tags_file ps v a cs (n ∷ []) params ty cons (g.last t more) tags
  members_file ps v a cs n params ty cons t more (read_members {ns = ns} members tags) = tags_file ps v a cs (n ∷ ns) params ty cons (g.more t more members) tags

  member_file : (ps : List tree.Typed) (v : Word) (a : tree.Surf) (cs : List tree.Typed) {ts us vs xs : List Lexeme} {ds : List tree.Decl} →
      g.Params allows ts (x.Colon ∷ us) ps → g.Term allows 0 us (x.OpenBrace ∷ vs) a → g.Cons allows vs xs cs → r.RestMember allows ps [] (record { name = v; ty = a; cons = cs }) xs ds → g.File allows (x.Data ∷ x.Plain v ∷ ts) ds
  member_file ps v a cs params ty cons (r.only file) = g.next (g.family params ty cons) file
  member_file ps v a cs params ty cons (r.first {w = u} {a = b} {cs = es} t more rest) = members_file ps v a cs (record { name = u; ty = b; cons = es }) params ty cons t more (members_read rest)

  family_file : (ps : List tree.Typed) (v : Word) (a : tree.Surf) {ts us vs : List Lexeme} {ds : List tree.Decl} → g.Params allows ts (x.Colon ∷ us) ps → g.Term allows 0 us (x.OpenBrace ∷ vs) a →
      Cons_read (record { params = ps; members = [] }) (record { name = v; ty = a; cons = [] }) vs ds → g.File allows (x.Data ∷ x.Plain v ∷ ts) ds
  family_file ps v a params ty (read_cons {cs = cs} cons rest) = member_file ps v a cs params ty cons rest

  params_file : (v : Word) {ts : List Lexeme} {ds : List tree.Decl} → Params_read v [] ts ds → g.File allows (x.Data ∷ x.Plain v ∷ ts) ds
  params_file v (read_params {ps = ps} {a = a} params ty rest) = family_file ps v a params ty (cons_read rest)

  pub data_file : {ts : List Lexeme} {ds : List tree.Decl} → r.RestData allows m.DataName ts ds → g.File allows (x.Data ∷ ts) ds
  data_file (r.name {w = v} rest) = params_file v (params_read rest)

  pub def_file : {ts : List Lexeme} {ds : List tree.Decl} → r.RestDef allows m.DefName ts ds → g.File allows (x.Def ∷ ts) ds
  def_file (r.name (r.type (r.term ty (r.whole (r.def_type body file))))) = g.next (g.def ty body) file
  def_file (r.name (r.decide (r.family (r.decision (r.done file))))) = g.next g.decide file

  clauses_file : (v : Word) (a : tree.Surf) {ts us : List Lexeme} {ds : List tree.Decl} → g.Term allows 0 ts (x.OpenBrace ∷ us) a → p.All_clauses allows 0 (m.Fun v a []) us ds → g.File allows (x.Fun ∷ x.Plain v ∷ x.Colon ∷ ts) ds
  clauses_file v a ty (p.all cs (r.fun file)) = g.next (g.function ty cs) file

  pub fun_file : {ts : List Lexeme} {ds : List tree.Decl} → r.RestDef allows m.FunName ts ds → g.File allows (x.Fun ∷ ts) ds
  fun_file (r.fun {w = v} (r.fun_type (r.term {t = a} ty (r.whole (r.fun rest))))) = clauses_file v a ty (p.clauses_read allows rest)
