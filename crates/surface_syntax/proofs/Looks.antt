-- The outcome of a lexeme in a state: always the same, or a name more, or a production that begins and may be too deep.
use Rattle.std.proofs.Common.{◌≡◌, ℕ, ◌+◌, suc, Bool, true, false, cond, List, [], ◌∷◌, ◌++◌, refl}
use Rattle.std.specs.Prelude.{Option, Some, None}
use Rattle.surface_syntax.specs.Trees as tree
use Rattle.surface_syntax.specs.Machine as m
use Rattle.surface_syntax.specs.declared.tree.Word.{Word}
use Rattle.surface_syntax.specs.declared.lexeme.Lexeme.{Lexeme}
use Rattle.surface_syntax.specs.declared.lexeme.Lexeme.TheVariants as x

-- one and the number of the names, and `n`
abbrev pub above : ℕ → List Word → ℕ
above n [] = suc n
above n (w ∷ ws) = suc (above n ws)

-- where the production that a state awaits has begun, where `n` lexemes are left
abbrev pub begun : ℕ → m.State → ℕ
begun n (m.In_term (m.Names d at w ws k)) = above n ws
begun n s = n

-- the state, where `n` lexemes are left
abbrev pub placed : ℕ → m.State → m.State
placed n (m.In_term (m.Names d at w ws k)) = m.In_term (m.Names d (above n ws) w ws k)
placed n s = s

-- the number of productions around the one that a state awaits
abbrev pub ahead : m.State → Option ℕ
ahead (m.In_term (m.Term d k)) = Some d
ahead (m.In_term (m.Opened d k)) = Some (d + 1)
ahead (m.In_term (m.Names d at w ws k)) = Some (d + 1)
ahead (m.In_clause (m.Pats d v k)) = Some d
ahead (m.In_clause (m.FirstClause d k)) = Some d
ahead (m.In_clause (m.ClauseName d k)) = Some d
ahead s = None

-- the state awaits no names of what may be a binder or a term
abbrev pub IsSteady : m.State → Type 0
IsSteady (m.In_term (m.Names d at w ws k)) = ⊥
IsSteady s = Unit {0}

-- nor does the outcome, and nothing is too deep
abbrev pub IsStill : m.Outcome → Type 0
IsStill (m.Goes o s) = IsSteady s
IsStill (m.Ends o) = Unit {0}
IsStill m.Stuck = Unit {0}
IsStill (m.Over n) = ⊥

pub data Look : m.State → Lexeme → Type 0 where
  still : {s : m.State} {y : Lexeme} (out : m.Outcome) → IsStill out → ((allows : ℕ → ℕ → Bool) (i : ℕ) → m.step allows i (placed i s) y ≡ out) → Look s y
  first_name : {d : ℕ} {k : m.Term_in} {w : Word} → Look (m.In_term (m.Opened d k)) (x.Plain w)
  next_name : {d at : ℕ} {w u : Word} {ws : List Word} {k : m.Term_in} → Look (m.In_term (m.Names d at w ws k)) (x.Plain u)
  tested : {s : m.State} {y : Lexeme} (d : ℕ) (out : m.Outcome) → IsStill out → ahead s ≡ Some d →
      ((allows : ℕ → ℕ → Bool) (i : ℕ) → m.step allows i (placed i s) y ≡ cond (allows d (begun i s)) out (m.Over (begun i s))) → Look s y

-- the outcomes
start_still : (o : Option tree.Decl) (y : Lexeme) → IsStill (m.start o y)
start_still o x.Def = tt
start_still o x.Data = tt
start_still o x.Fun = tt
start_still o x.End = tt
start_still o _ = tt

naming_still : (c : Word → m.State) (y : Lexeme) → ((w : Word) → IsStill (m.to (c w))) → IsStill (m.naming c y)
naming_still c (x.Plain w) h = h w
naming_still c _ h = tt

colon_still : (s : m.State) (y : Lexeme) → IsStill (m.to s) → IsStill (m.colon s y)
colon_still s x.Colon h = h
colon_still s _ h = tt

close_still : (s : m.State) (y : Lexeme) → IsStill (m.to s) → IsStill (m.close s y)
close_still s x.Close h = h
close_still s _ h = tt

equals_still : (s : m.State) (y : Lexeme) → IsStill (m.to s) → IsStill (m.equals s y)
equals_still s x.Equals h = h
equals_still s _ h = tt

brace_still : (s : m.State) (y : Lexeme) → IsStill (m.to s) → IsStill (m.open_brace s y)
brace_still s x.OpenBrace h = h
brace_still s _ h = tt

in_still : (s : m.State) (y : Lexeme) → IsStill (m.to s) → IsStill (m.«in» s y)
in_still s x.In h = h
in_still s _ h = tt

pub closed_still : (k : m.Clauses_in) → IsStill (m.closed k)
closed_still (m.Fun w a cs) = tt
closed_still (m.Inspect h t cs k) = tt

clause_end_still : (d : ℕ) (c : tree.Clause) (k : m.Clauses_in) (y : Lexeme) → IsStill (m.clause_end d c k y)
clause_end_still d c k x.Semicolon = tt
clause_end_still d c k x.CloseBrace = closed_still (m.with_clause c k)
clause_end_still d c k _ = tt

member_end_still : (ps : List tree.Typed) (ms : List tree.Member) (n : tree.Member) → IsStill (m.member_end ps ms n)
member_end_still ps [] n = tt
member_end_still ps (n' ∷ ms) n = tt

con_end_still : (f : m.Families) (n : tree.Member) (y : Lexeme) → IsStill (m.con_end f n y)
con_end_still f n x.Semicolon = tt
con_end_still f n x.CloseBrace = member_end_still f.params f.members n
con_end_still f n _ = tt

part_end_still : (t : tree.Surf) (p : m.Part) (y : Lexeme) → IsStill (m.part_end t p y)
part_end_still t (m.DefType w) y = equals_still (m.part (m.DefBody w t)) y tt
part_end_still t (m.DefBody w a) y = start_still (Some (tree.Def w a t)) y
part_end_still t (m.ParamType w ps p) y = close_still (m.In_data (m.Params w (ps ++ record { name = p; ty = t } ∷ []))) y tt
part_end_still t (m.MemberType f w) y = brace_still (m.In_data (m.FirstCon f (record { name = w; ty = t; cons = [] }))) y tt
part_end_still t (m.ConType f n c) y = con_end_still f (m.with_con n c t) y
part_end_still t (m.FunType w) y = brace_still (m.In_clause (m.FirstClause 0 (m.Fun w t []))) y tt

term_end_still : (t : tree.Surf) (k : m.Term_in) (y : Lexeme) → IsStill (m.term_end t k y)
term_end_still t (m.Whole p) y = part_end_still t p y
term_end_still t (m.Parens d s k) y = close_still (m.In_term (m.Atoms d (m.plus s t) k)) y tt
term_end_still t (m.Codomain a k) y = term_end_still (tree.Arrow a t) k y
term_end_still t (m.Domain b ns k) y = close_still (m.In_term (m.BinderNext (m.with_binder b ns t) k)) y tt
term_end_still t (m.Body b k) y = term_end_still (m.quantified b.quantifier b.binders t) k y
term_end_still t (m.LetType d w k) y = equals_still (m.term (d + 1) (m.LetValue d w t k)) y tt
term_end_still t (m.LetValue d w a k) y = in_still (m.term (d + 1) (m.LetBody w a t k)) y tt
term_end_still t (m.LetBody w a v k) y = term_end_still (tree.Let w a v t) k y
term_end_still t (m.Dot d void k) y = close_still (m.In_clause (m.Pats d void (m.with_pat (tree.Dot t) k))) y tt
term_end_still t (m.Side h k) y = clause_end_still h.depth (m.clause h (tree.Side t)) k y
term_end_still t (m.Scrutinee h k) y = brace_still (m.In_clause (m.FirstClause (h.depth + 1) (m.Inspect h t [] k))) y tt

pub term_start_still : (d : ℕ) (k : m.Term_in) (y : Lexeme) → IsStill (m.term_start d k y)
term_start_still d k x.Backslash = tt
term_start_still d k x.Let = tt
term_start_still d k x.Open = tt
term_start_still d k x.Type = tt
term_start_still d k (x.Plain w) = tt
term_start_still d k (x.Dotted w) = tt
term_start_still d k _ = tt

pub atoms_still : (d : ℕ) (s : m.Spine) (k : m.Term_in) (y : Lexeme) → IsStill (m.atoms d s k y)
atoms_still d s k (x.Plain w) = tt
atoms_still d s k (x.Dotted w) = tt
atoms_still d s k x.Type = tt
atoms_still d s k x.Open = tt
atoms_still d s k x.Arrow = tt
atoms_still d s k y = term_end_still (m.spine s) k y

domain_still : (b : m.Telescope) (ns : List (Option Word)) (k : m.Term_in) → IsStill (m.domain b ns k)
domain_still b [] k = tt
domain_still b (n ∷ ns) k = tt

binder_names_still : (b : m.Telescope) (ns : List (Option Word)) (k : m.Term_in) (y : Lexeme) → IsStill (m.binder_names b ns k y)
binder_names_still b ns k (x.Plain w) = tt
binder_names_still b ns k x.Underscore = tt
binder_names_still b ns k x.Colon = domain_still b ns k
binder_names_still b ns k _ = tt

binder_next_still : (b : m.Telescope) (k : m.Term_in) (y : Lexeme) → IsStill (m.binder_next b k y)
binder_next_still b k x.Open = tt
binder_next_still b k x.Arrow = tt
binder_next_still b k _ = tt

void_still : (v : Bool) (d : ℕ) (k : m.Pats_in) → IsStill (cond v m.Stuck (m.to (m.In_clause (m.Pats d true (m.with_pat tree.Void k)))))
void_still true d k = tt
void_still false d k = tt

pat_open_still : (d : ℕ) (v : Bool) (k : m.Pats_in) (y : Lexeme) → IsStill (m.pat_open d v k y)
pat_open_still d v k (x.Plain w) = tt
pat_open_still d v k (x.Dotted w) = tt
pat_open_still d v k x.Close = void_still v d k
pat_open_still d v k _ = tt

dot_atom_still : (d : ℕ) (v : Bool) (k : m.Pats_in) (y : Lexeme) → IsStill (m.dot_atom d v k y)
dot_atom_still d v k (x.Plain w) = tt
dot_atom_still d v k (x.Dotted w) = tt
dot_atom_still d v k x.Type = tt
dot_atom_still d v k x.Open = tt
dot_atom_still d v k _ = tt

con_right_still : (v : Bool) (h : m.Headed) (k : m.Pats_in) (y : Lexeme) → IsStill (m.con_right v h k y)
con_right_still v h k x.Close = tt
con_right_still v h k _ = tt

clause_right_still : (d : ℕ) (h : m.Headed) (k : m.Clauses_in) (y : Lexeme) → IsStill (m.clause_right d h k y)
clause_right_still d h k x.Equals = tt
clause_right_still d h k x.With = tt
clause_right_still d h k _ = tt

pub pats_end_still : (d : ℕ) (v : Bool) (k : m.Pats_in) (y : Lexeme) → IsStill (m.pats_end d v k y)
pats_end_still d v (m.Inside h k) y = con_right_still v h k y
pats_end_still d true (m.Behind h k) y = clause_end_still h.depth (m.clause h tree.Absurd) k y
pats_end_still d false (m.Behind h k) y = clause_right_still d h k y

def_still : (s : m.Def_state) (y : Lexeme) → IsStill (m.def_step s y)
def_still m.DefName y = naming_still (λ w. m.In_def (m.DefNext w)) y (λ w. tt)
def_still (m.DefNext w) x.Colon = tt
def_still (m.DefNext w) x.Equals = tt
def_still (m.DefNext w) _ = tt
def_still (m.DecideData w) x.Data = tt
def_still (m.DecideData w) _ = tt
def_still (m.DecideFamily w) y = naming_still (λ f. m.In_def (m.DecideDecision w f)) y (λ f. tt)
def_still (m.DecideDecision w f) (x.Plain e) = tt
def_still (m.DecideDecision w f) _ = tt
def_still m.FunName y = naming_still (λ w. m.In_def (m.FunColon w)) y (λ w. tt)
def_still (m.FunColon w) y = colon_still (m.part (m.FunType w)) y tt

data_still : (s : m.Data_state) (y : Lexeme) → IsStill (m.data_step s y)
data_still m.DataName y = naming_still (λ w. m.In_data (m.Params w [])) y (λ w. tt)
data_still (m.Params w ps) x.Open = tt
data_still (m.Params w ps) x.Colon = tt
data_still (m.Params w ps) _ = tt
data_still (m.ParamName w ps) y = naming_still (λ p. m.In_data (m.ParamColon w ps p)) y (λ p. tt)
data_still (m.ParamColon w ps p) y = colon_still (m.part (m.ParamType w ps p)) y tt
data_still (m.FirstCon f n) x.CloseBrace = member_end_still f.params f.members n
data_still (m.FirstCon f n) (x.Plain c) = tt
data_still (m.FirstCon f n) _ = tt
data_still (m.ConName f n) y = naming_still (λ c. m.In_data (m.ConColon f n c)) y (λ c. tt)
data_still (m.ConColon f n c) y = colon_still (m.part (m.ConType f n c)) y tt
data_still (m.FamilyEnd ps n) x.With = tt
data_still (m.FamilyEnd ps n) y = start_still (Some (tree.Data n.name ps n.ty n.cons)) y

mutual_still : (s : m.Mutual_state) (y : Lexeme) → IsStill (m.mutual_step s y)
mutual_still (m.MembersEnd f) x.With = tt
mutual_still (m.MembersEnd f) x.In = tt
mutual_still (m.MembersEnd f) _ = tt
mutual_still (m.MemberName f) y = naming_still (λ w. m.In_mutual (m.MemberColon f w)) y (λ w. tt)
mutual_still (m.MemberColon f w) y = colon_still (m.part (m.MemberType f w)) y tt
mutual_still (m.PackedName f) y = naming_still (λ w. m.In_mutual (m.TagFamily f w)) y (λ w. tt)
mutual_still (m.TagFamily f w) y = naming_still (λ t. m.In_mutual (m.TagsOpen f w t)) y (λ t. tt)
mutual_still (m.TagsOpen f w t) y = brace_still (m.In_mutual (m.TagName f w t [])) y tt
mutual_still (m.TagName f w t tags) y = naming_still (λ u. m.In_mutual (m.TagNext f w t (tags ++ u ∷ []))) y (λ u. tt)
mutual_still (m.TagNext f w t tags) x.Semicolon = tt
mutual_still (m.TagNext f w t tags) x.CloseBrace = tt
mutual_still (m.TagNext f w t tags) _ = tt

-- in terms
level_look : (d : ℕ) (s : Option m.Spine) (k : m.Term_in) (y : Lexeme) → Look (m.In_term (m.Level d s k)) y
level_look d s k (x.Level n) = still (m.to (m.In_term (m.Atoms d (m.plus s (tree.Sort n)) k))) tt (λ allows i. refl)
level_look d s k _ = still m.Stuck tt (λ allows i. refl)

opened_look : (d : ℕ) (k : m.Term_in) (y : Lexeme) → Look (m.In_term (m.Opened d k)) y
opened_look d k (x.Plain w) = first_name
opened_look d k x.Underscore = still (m.to (m.In_term (m.BinderNames (record { depth = d; quantifier = m.Product; binders = [] }) (None ∷ []) k))) tt (λ allows i. refl)
opened_look d k y = tested (d + 1) (m.term_start (d + 1) (m.Parens d None k) y) (term_start_still (d + 1) (m.Parens d None k) y) refl (λ allows i. refl)

names_look : (d at : ℕ) (w : Word) (ws : List Word) (k : m.Term_in) (y : Lexeme) → Look (m.In_term (m.Names d at w ws k)) y
names_look d at w ws k (x.Plain u) = next_name
names_look d at w ws k x.Underscore =
    still (m.to (m.In_term (m.BinderNames (record { depth = d; quantifier = m.Product; binders = [] }) (m.some_names (w ∷ ws) ++ None ∷ []) k))) tt (λ allows i. refl)
names_look d at w ws k x.Colon =
    still (m.to (m.term (d + 1) (m.Domain (record { depth = d; quantifier = m.Product; binders = [] }) (m.some_names (w ∷ ws)) k))) tt (λ allows i. refl)
names_look d at w ws k y = tested (d + 1) (m.atoms (d + 1) (m.named w ws) (m.Parens d None k) y) (atoms_still (d + 1) (m.named w ws) (m.Parens d None k) y) refl (λ allows i. refl)

open_look : (b : m.Telescope) (k : m.Term_in) (y : Lexeme) → Look (m.In_term (m.BinderOpen b k)) y
open_look b k x.Open = still (m.to (m.In_term (m.BinderNames b [] k))) tt (λ allows i. refl)
open_look b k _ = still m.Stuck tt (λ allows i. refl)

term_look : (s : m.Term_state) (y : Lexeme) → Look (m.In_term s) y
term_look (m.Term d k) y = tested d (m.term_start d k y) (term_start_still d k y) refl (λ allows i. refl)
term_look (m.Level d s k) y = level_look d s k y
term_look (m.Opened d k) y = opened_look d k y
term_look (m.Names d at w ws k) y = names_look d at w ws k y
term_look (m.BinderOpen b k) y = open_look b k y
term_look (m.BinderNames b ns k) y = still (m.binder_names b ns k y) (binder_names_still b ns k y) (λ allows i. refl)
term_look (m.BinderNext b k) y = still (m.binder_next b k y) (binder_next_still b k y) (λ allows i. refl)
term_look (m.LetName d k) y = still (m.naming (λ w. m.In_term (m.LetColon d w k)) y) (naming_still (λ w. m.In_term (m.LetColon d w k)) y (λ w. tt)) (λ allows i. refl)
term_look (m.LetColon d w k) y = still (m.colon (m.term (d + 1) (m.LetType d w k)) y) (colon_still (m.term (d + 1) (m.LetType d w k)) y tt) (λ allows i. refl)
term_look (m.Atoms d s k) y = still (m.atoms d s k y) (atoms_still d s k y) (λ allows i. refl)

-- among clauses
pats_look : (d : ℕ) (v : Bool) (k : m.Pats_in) (y : Lexeme) → Look (m.In_clause (m.Pats d v k)) y
pats_look d v k (x.Plain w) = tested d (m.to (m.In_clause (m.Pats d v (m.with_pat (tree.Name w) k)))) tt refl (λ allows i. refl)
pats_look d v k (x.Dotted w) = tested d (m.to (m.In_clause (m.Pats d v (m.with_pat (tree.Name w) k)))) tt refl (λ allows i. refl)
pats_look d v k x.Underscore = tested d (m.to (m.In_clause (m.Pats d v (m.with_pat tree.Wild k)))) tt refl (λ allows i. refl)
pats_look d v k x.Dot = tested d (m.to (m.In_clause (m.DotAtom d v k))) tt refl (λ allows i. refl)
pats_look d v k x.Open = tested d (m.to (m.In_clause (m.PatOpen d v k))) tt refl (λ allows i. refl)
pats_look d v k y = still (m.pats_end d v k y) (pats_end_still d v k y) (λ allows i. refl)

level_pat_look : (d : ℕ) (v : Bool) (k : m.Pats_in) (y : Lexeme) → Look (m.In_clause (m.DotLevel d v k)) y
level_pat_look d v k (x.Level n) = still (m.to (m.In_clause (m.Pats d v (m.with_pat (tree.Dot (tree.Sort n)) k)))) tt (λ allows i. refl)
level_pat_look d v k _ = still m.Stuck tt (λ allows i. refl)

first_look : (d : ℕ) (k : m.Clauses_in) (y : Lexeme) → Look (m.In_clause (m.FirstClause d k)) y
first_look d k x.CloseBrace = still (m.closed k) (closed_still k) (λ allows i. refl)
first_look d k (x.Plain f) = tested d (m.to (m.In_clause (m.Pats (d + 1) false (m.Behind (m.behind d f) k)))) tt refl (λ allows i. refl)
first_look d k _ = still m.Stuck tt (λ allows i. refl)

name_look : (d : ℕ) (k : m.Clauses_in) (y : Lexeme) → Look (m.In_clause (m.ClauseName d k)) y
name_look d k (x.Plain f) = tested d (m.to (m.In_clause (m.Pats (d + 1) false (m.Behind (m.behind d f) k)))) tt refl (λ allows i. refl)
name_look d k _ = still m.Stuck tt (λ allows i. refl)

clause_look : (s : m.Clause_state) (y : Lexeme) → Look (m.In_clause s) y
clause_look (m.Pats d v k) y = pats_look d v k y
clause_look (m.PatOpen d v k) y = still (m.pat_open d v k y) (pat_open_still d v k y) (λ allows i. refl)
clause_look (m.DotAtom d v k) y = still (m.dot_atom d v k y) (dot_atom_still d v k y) (λ allows i. refl)
clause_look (m.DotLevel d v k) y = level_pat_look d v k y
clause_look (m.FirstClause d k) y = first_look d k y
clause_look (m.ClauseName d k) y = name_look d k y
clause_look (m.ClauseEnd d c k) y = still (m.clause_end d c k y) (clause_end_still d c k y) (λ allows i. refl)

-- in every state
pub look : (s : m.State) (y : Lexeme) → Look s y
look m.Start y = still (m.start None y) (start_still None y) (λ allows i. refl)
look (m.In_def s) y = still (m.def_step s y) (def_still s y) (λ allows i. refl)
look (m.In_data s) y = still (m.data_step s y) (data_still s y) (λ allows i. refl)
look (m.In_mutual s) y = still (m.mutual_step s y) (mutual_still s y) (λ allows i. refl)
look (m.In_term s) y = term_look s y
look (m.In_clause s) y = clause_look s y
