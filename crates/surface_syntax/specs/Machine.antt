-- The parser as a machine that takes one lexeme at a time and never goes back.
use Rattle.std.specs.Prelude.{ℕ, ◌+◌, Bool, true, false, cond, List, [], ◌∷◌, ◌++◌, Option, Some, None, map}
use Rattle.surface_syntax.specs.Trees as tree
use Rattle.surface_syntax.specs.Grammar.{applied}
pub use Rattle.surface_syntax.specs.Grammar.{limit}
use Rattle.surface_syntax.specs.declared.tree.Word.{Word}
use Rattle.surface_syntax.specs.declared.lexeme.Lexeme.{Lexeme}
use Rattle.surface_syntax.specs.declared.lexeme.Lexeme.TheVariants as x

pub data Quantifier : Type 0 where
  Function : Quantifier
  Product : Quantifier

abbrev pub quantified : Quantifier → List tree.Binder → tree.Surf → tree.Surf
quantified Function bs b = tree.Lam (tree.binders bs) b
quantified Product bs b = tree.Pi (tree.binders bs) b

-- an application so far
pub record Spine : Type 0 where
  pub head : tree.Surf
  pub args : List tree.Surf

abbrev pub plus : Option Spine → tree.Surf → Spine
plus None t = record { head = t; args = [] }
plus (Some s) t = record { head = s.head; args = s.args ++ t ∷ [] }

abbrev pub spine : Spine → tree.Surf
spine s = applied s.head s.args

-- families so far, with their parameters
pub record Families : Type 0 where
  pub params : List tree.Typed
  pub members : List tree.Member

abbrev pub with_con : tree.Member → Word → tree.Surf → tree.Member
with_con m c a = record { name = m.name; ty = m.ty; cons = m.cons ++ record { name = c; ty = a } ∷ [] }

-- the binders so far of a function or a product, and the number of productions around that
pub record Telescope : Type 0 where
  pub depth : ℕ
  pub quantifier : Quantifier
  pub binders : List tree.Binder

abbrev pub with_binder : Telescope → List (Option Word) → tree.Surf → Telescope
with_binder b ns a = record { depth = b.depth; quantifier = b.quantifier; binders = b.binders ++ tree.Group ns a ∷ [] }

-- the head and the patterns so far of a clause or of a constructor pattern, and the number of productions around that
pub record Headed : Type 0 where
  pub depth : ℕ
  pub head : Word
  pub pats : List tree.Pat

abbrev pub behind : ℕ → Word → Headed
behind d w = record { depth = d; head = w; pats = [] }

abbrev pub one_more : Headed → tree.Pat → Headed
one_more h p = record { depth = h.depth; head = h.head; pats = h.pats ++ p ∷ [] }

-- the clause with this right side
abbrev pub clause : Headed → tree.Right → tree.Clause
clause h r = tree.Is h.head h.pats r

-- where clauses are, with the clauses so far: in a function, or in a `with` of a clause
pub data Clauses_in : Type 0 where
  Fun : Word → tree.Surf → List tree.Clause → Clauses_in
  Inspect : Headed → tree.Surf → List tree.Clause → Clauses_in → Clauses_in

abbrev pub with_clause : tree.Clause → Clauses_in → Clauses_in
with_clause c (Fun w a cs) = Fun w a (cs ++ c ∷ [])
with_clause c (Inspect h t cs k) = Inspect h t (cs ++ c ∷ []) k

-- where patterns are, with the patterns so far: in a clause, or in a constructor pattern
pub data Pats_in : Type 0 where
  Behind : Headed → Clauses_in → Pats_in
  Inside : Headed → Pats_in → Pats_in

abbrev pub with_pat : tree.Pat → Pats_in → Pats_in
with_pat p (Behind h k) = Behind (one_more h p) k
with_pat p (Inside h k) = Inside (one_more h p) k

-- the part of a declaration that a term is
pub data Part : Type 0 where
  DefType : Word → Part
  DefBody : Word → tree.Surf → Part
  ParamType : Word → List tree.Typed → Word → Part
  MemberType : Families → Word → Part
  ConType : Families → tree.Member → Word → Part
  FunType : Word → Part

-- where a term is: in a declaration, or in a term, a pattern or a clause, with `d` productions around that
pub data Term_in : Type 0 where
  Whole : Part → Term_in
  Parens : (d : ℕ) → Option Spine → Term_in → Term_in
  Codomain : tree.Surf → Term_in → Term_in
  Domain : Telescope → List (Option Word) → Term_in → Term_in
  Body : Telescope → Term_in → Term_in
  LetType : (d : ℕ) → Word → Term_in → Term_in
  LetValue : (d : ℕ) → Word → tree.Surf → Term_in → Term_in
  LetBody : Word → tree.Surf → tree.Surf → Term_in → Term_in
  Dot : (d : ℕ) → Bool → Pats_in → Term_in
  Side : Headed → Clauses_in → Term_in
  Scrutinee : Headed → Clauses_in → Term_in

-- The states: what is awaited, by the construct that it is in. A Bool says whether `( )` was in the patterns of the clause.
pub data Def_state : Type 0 where
  DefName : Def_state
  DefNext : Word → Def_state
  DecideData : Word → Def_state
  DecideFamily : Word → Def_state
  DecideDecision : Word → Word → Def_state
  FunName : Def_state
  FunColon : Word → Def_state

pub data Data_state : Type 0 where
  DataName : Data_state
  Params : Word → List tree.Typed → Data_state
  ParamName : Word → List tree.Typed → Data_state
  ParamColon : Word → List tree.Typed → Word → Data_state
  FirstCon : Families → tree.Member → Data_state
  ConName : Families → tree.Member → Data_state
  ConColon : Families → tree.Member → Word → Data_state
  FamilyEnd : List tree.Typed → tree.Member → Data_state

pub data Mutual_state : Type 0 where
  MembersEnd : Families → Mutual_state
  MemberName : Families → Mutual_state
  MemberColon : Families → Word → Mutual_state
  PackedName : Families → Mutual_state
  TagFamily : Families → Word → Mutual_state
  TagsOpen : Families → Word → Word → Mutual_state
  TagName : Families → Word → Word → List Word → Mutual_state
  TagNext : Families → Word → Word → List Word → Mutual_state

pub data Term_state : Type 0 where
  Term : (d : ℕ) → Term_in → Term_state
  Level : (d : ℕ) → Option Spine → Term_in → Term_state
  Opened : (d : ℕ) → Term_in → Term_state
  Names : (d at : ℕ) → Word → List Word → Term_in → Term_state
  BinderOpen : Telescope → Term_in → Term_state
  BinderNames : Telescope → List (Option Word) → Term_in → Term_state
  BinderNext : Telescope → Term_in → Term_state
  LetName : (d : ℕ) → Term_in → Term_state
  LetColon : (d : ℕ) → Word → Term_in → Term_state
  Atoms : (d : ℕ) → Spine → Term_in → Term_state

pub data Clause_state : Type 0 where
  Pats : (d : ℕ) → Bool → Pats_in → Clause_state
  PatOpen : (d : ℕ) → Bool → Pats_in → Clause_state
  DotAtom : (d : ℕ) → Bool → Pats_in → Clause_state
  DotLevel : (d : ℕ) → Bool → Pats_in → Clause_state
  FirstClause : (d : ℕ) → Clauses_in → Clause_state
  ClauseName : (d : ℕ) → Clauses_in → Clause_state
  ClauseEnd : (d : ℕ) → tree.Clause → Clauses_in → Clause_state

pub data State : Type 0 where
  Start : State
  In_def : Def_state → State
  In_data : Data_state → State
  In_mutual : Mutual_state → State
  In_term : Term_state → State
  In_clause : Clause_state → State

-- The outcome of a lexeme: perhaps a whole declaration, and the state then, or the end of the file; or it fits nowhere; or a term,
-- pattern or clause that begins where so many lexemes are left is inside too many others.
pub data Outcome : Type 0 where
  Goes : Option tree.Decl → State → Outcome
  Ends : Option tree.Decl → Outcome
  Stuck : Outcome
  Over : ℕ → Outcome

abbrev pub to : State → Outcome
to s = Goes None s

-- a term that is due in a term, a pattern or a clause
abbrev pub term : ℕ → Term_in → State
term d k = In_term (Term d k)

-- a term that is due in a declaration
abbrev pub part : Part → State
part p = term 0 (Whole p)

abbrev pub some_names : List Word → List (Option Word)
some_names [] = []
some_names (w ∷ ws) = Some w ∷ some_names ws

-- an application of names
abbrev pub named : Word → List Word → Spine
named w ws = record { head = tree.Named w; args = map tree.Named ws }

-- Where a declaration may begin, or the file may end.
abbrev pub start : Option tree.Decl → Lexeme → Outcome
start whole x.Def = Goes whole (In_def DefName)
start whole x.Data = Goes whole (In_data DataName)
start whole x.Fun = Goes whole (In_def FunName)
start whole x.End = Ends whole
start whole _ = Stuck

-- where a name is due
abbrev pub naming : (Word → State) → Lexeme → Outcome
naming c (x.Plain w) = to (c w)
naming c _ = Stuck

-- where one lexeme is due: `:`, `)`, `=`, `{`, `in`
abbrev pub colon : State → Lexeme → Outcome
colon c x.Colon = to c
colon c _ = Stuck

abbrev pub close : State → Lexeme → Outcome
close c x.Close = to c
close c _ = Stuck

abbrev pub equals : State → Lexeme → Outcome
equals c x.Equals = to c
equals c _ = Stuck

abbrev pub open_brace : State → Lexeme → Outcome
open_brace c x.OpenBrace = to c
open_brace c _ = Stuck

abbrev pub «in» : State → Lexeme → Outcome
«in» c x.In = to c
«in» c _ = Stuck

-- after the `}` that ends clauses
abbrev pub closed : Clauses_in → Outcome
closed (Fun w a cs) = Goes (Some (tree.Fun w a (tree.clauses cs))) Start
closed (Inspect h t cs k) = to (In_clause (ClauseEnd h.depth (clause h (tree.With t (tree.clauses cs))) k))

-- after a whole clause
abbrev pub clause_end : ℕ → tree.Clause → Clauses_in → Lexeme → Outcome
clause_end d c k x.Semicolon = to (In_clause (ClauseName d (with_clause c k)))
clause_end d c k x.CloseBrace = closed (with_clause c k)
clause_end d c k _ = Stuck

-- after the `}` that ends constructors
abbrev pub member_end : List tree.Typed → List tree.Member → tree.Member → Outcome
member_end ps [] m = to (In_data (FamilyEnd ps m))
member_end ps (n ∷ ns) m = to (In_mutual (MembersEnd (record { params = ps; members = n ∷ ns ++ m ∷ [] })))

-- after the type of a constructor
abbrev pub con_end : Families → tree.Member → Lexeme → Outcome
con_end g m x.Semicolon = to (In_data (ConName g m))
con_end g m x.CloseBrace = member_end g.params g.members m
con_end g m _ = Stuck

-- after a term that is a part of a declaration
abbrev pub part_end : tree.Surf → Part → Lexeme → Outcome
part_end t (DefType w) x = equals (part (DefBody w t)) x
part_end t (DefBody w a) x = start (Some (tree.Def w a t)) x
part_end t (ParamType w ps p) x = close (In_data (Params w (ps ++ record { name = p; ty = t } ∷ []))) x
part_end t (MemberType g w) x = open_brace (In_data (FirstCon g (record { name = w; ty = t; cons = [] }))) x
part_end t (ConType g m c) x = con_end g (with_con m c t) x
part_end t (FunType w) x = open_brace (In_clause (FirstClause 0 (Fun w t []))) x

-- after a whole term
abbrev pub term_end : tree.Surf → Term_in → Lexeme → Outcome
term_end t (Whole p) x = part_end t p x
term_end t (Parens d s k) x = close (In_term (Atoms d (plus s t) k)) x
term_end t (Codomain a k) x = term_end (tree.Arrow a t) k x
term_end t (Domain b ns k) x = close (In_term (BinderNext (with_binder b ns t) k)) x
term_end t (Body b k) x = term_end (quantified b.quantifier b.binders t) k x
term_end t (LetType d w k) x = equals (term (d + 1) (LetValue d w t k)) x
term_end t (LetValue d w a k) x = «in» (term (d + 1) (LetBody w a t k)) x
term_end t (LetBody w a v k) x = term_end (tree.Let w a v t) k x
term_end t (Dot d void k) x = close (In_clause (Pats d void (with_pat (tree.Dot t) k))) x
term_end t (Side h k) x = clause_end h.depth (clause h (tree.Side t)) k x
term_end t (Scrutinee h k) x = open_brace (In_clause (FirstClause (h.depth + 1) (Inspect h t [] k))) x

-- where a term begins
abbrev pub term_start : ℕ → Term_in → Lexeme → Outcome
term_start d k x.Backslash = to (In_term (BinderOpen (record { depth = d; quantifier = Function; binders = [] }) k))
term_start d k x.Let = to (In_term (LetName d k))
term_start d k x.Open = to (In_term (Opened d k))
term_start d k x.Type = to (In_term (Level d None k))
term_start d k (x.Plain w) = to (In_term (Atoms d (named w []) k))
term_start d k (x.Dotted w) = to (In_term (Atoms d (named w []) k))
term_start d k _ = Stuck

-- after the atoms of an application
abbrev pub atoms : ℕ → Spine → Term_in → Lexeme → Outcome
atoms d s k (x.Plain w) = to (In_term (Atoms d (plus (Some s) (tree.Named w)) k))
atoms d s k (x.Dotted w) = to (In_term (Atoms d (plus (Some s) (tree.Named w)) k))
atoms d s k x.Type = to (In_term (Level d (Some s) k))
atoms d s k x.Open = to (term (d + 1) (Parens d (Some s) k))
atoms d s k x.Arrow = to (term (d + 1) (Codomain (spine s) k))
atoms d s k x = term_end (spine s) k x

-- after the `:` of a binder
abbrev pub domain : Telescope → List (Option Word) → Term_in → Outcome
domain b [] k = Stuck
domain b (n ∷ ns) k = to (term (b.depth + 1) (Domain b (n ∷ ns) k))

-- after `(` and names of a binder
abbrev pub binder_names : Telescope → List (Option Word) → Term_in → Lexeme → Outcome
binder_names b ns k (x.Plain w) = to (In_term (BinderNames b (ns ++ Some w ∷ []) k))
binder_names b ns k x.Underscore = to (In_term (BinderNames b (ns ++ None ∷ []) k))
binder_names b ns k x.Colon = domain b ns k
binder_names b ns k _ = Stuck

-- after a whole binder
abbrev pub binder_next : Telescope → Term_in → Lexeme → Outcome
binder_next b k x.Open = to (In_term (BinderNames b [] k))
binder_next b k x.Arrow = to (term (b.depth + 1) (Body b k))
binder_next b k _ = Stuck

-- after `(` in a pattern
abbrev pub pat_open : ℕ → Bool → Pats_in → Lexeme → Outcome
pat_open d void k (x.Plain c) = to (In_clause (Pats (d + 1) void (Inside (behind d c) k)))
pat_open d void k (x.Dotted c) = to (In_clause (Pats (d + 1) void (Inside (behind d c) k)))
pat_open d void k x.Close = cond void Stuck (to (In_clause (Pats d true (with_pat tree.Void k))))
pat_open d void k _ = Stuck

-- after the dot of a pattern
abbrev pub dot_atom : ℕ → Bool → Pats_in → Lexeme → Outcome
dot_atom d void k (x.Plain w) = to (In_clause (Pats d void (with_pat (tree.Dot (tree.Named w)) k)))
dot_atom d void k (x.Dotted w) = to (In_clause (Pats d void (with_pat (tree.Dot (tree.Named w)) k)))
dot_atom d void k x.Type = to (In_clause (DotLevel d void k))
dot_atom d void k x.Open = to (term (d + 1) (Dot d void k))
dot_atom d void k _ = Stuck

-- where the patterns of a constructor pattern end
abbrev pub con_right : Bool → Headed → Pats_in → Lexeme → Outcome
con_right void h k x.Close = to (In_clause (Pats h.depth void (with_pat (tree.Con h.head (tree.pats h.pats)) k)))
con_right void h k _ = Stuck

-- where the patterns of a clause without `( )` end
abbrev pub clause_right : ℕ → Headed → Clauses_in → Lexeme → Outcome
clause_right d h k x.Equals = to (term d (Side h k))
clause_right d h k x.With = to (term d (Scrutinee h k))
clause_right d h k _ = Stuck

abbrev pub pats_end : ℕ → Bool → Pats_in → Lexeme → Outcome
pats_end d void (Inside h k) x = con_right void h k x
pats_end d void (Behind h k) x = cond void (clause_end h.depth (clause h tree.Absurd) k x) (clause_right d h k x)

-- the states of a definition or of the head of a function
abbrev pub def_step : Def_state → Lexeme → Outcome
def_step DefName x = naming (λ w. In_def (DefNext w)) x
def_step (DefNext w) x.Colon = to (part (DefType w))
def_step (DefNext w) x.Equals = to (In_def (DecideData w))
def_step (DefNext w) _ = Stuck
def_step (DecideData w) x.Data = to (In_def (DecideFamily w))
def_step (DecideData w) _ = Stuck
def_step (DecideFamily w) x = naming (λ f. In_def (DecideDecision w f)) x
def_step (DecideDecision w f) (x.Plain e) = Goes (Some (tree.Decide w f e)) Start
def_step (DecideDecision w f) _ = Stuck
def_step FunName x = naming (λ w. In_def (FunColon w)) x
def_step (FunColon w) x = colon (part (FunType w)) x

-- the states of a family
abbrev pub data_step : Data_state → Lexeme → Outcome
data_step DataName x = naming (λ w. In_data (Params w [])) x
data_step (Params w ps) x.Open = to (In_data (ParamName w ps))
data_step (Params w ps) x.Colon = to (part (MemberType (record { params = ps; members = [] }) w))
data_step (Params w ps) _ = Stuck
data_step (ParamName w ps) x = naming (λ p. In_data (ParamColon w ps p)) x
data_step (ParamColon w ps p) x = colon (part (ParamType w ps p)) x
data_step (FirstCon g m) x.CloseBrace = member_end g.params g.members m
data_step (FirstCon g m) (x.Plain c) = to (In_data (ConColon g m c))
data_step (FirstCon g m) _ = Stuck
data_step (ConName g m) x = naming (λ c. In_data (ConColon g m c)) x
data_step (ConColon g m c) x = colon (part (ConType g m c)) x
data_step (FamilyEnd ps m) x.With = to (In_mutual (MemberName (record { params = ps; members = m ∷ [] })))
data_step (FamilyEnd ps m) x = start (Some (tree.Data m.name ps m.ty m.cons)) x

-- the states of families that refer to each other, after the first
abbrev pub mutual_step : Mutual_state → Lexeme → Outcome
mutual_step (MembersEnd g) x.With = to (In_mutual (MemberName g))
mutual_step (MembersEnd g) x.In = to (In_mutual (PackedName g))
mutual_step (MembersEnd g) _ = Stuck
mutual_step (MemberName g) x = naming (λ w. In_mutual (MemberColon g w)) x
mutual_step (MemberColon g w) x = colon (part (MemberType g w)) x
mutual_step (PackedName g) x = naming (λ f. In_mutual (TagFamily g f)) x
mutual_step (TagFamily g f) x = naming (λ t. In_mutual (TagsOpen g f t)) x
mutual_step (TagsOpen g f t) x = open_brace (In_mutual (TagName g f t [])) x
mutual_step (TagName g f t tags) x = naming (λ w. In_mutual (TagNext g f t (tags ++ w ∷ []))) x
mutual_step (TagNext g f t tags) x.Semicolon = to (In_mutual (TagName g f t tags))
mutual_step (TagNext g f t tags) x.CloseBrace = Goes (Some (tree.Mutual g.params g.members f t tags)) Start
mutual_step (TagNext g f t tags) _ = Stuck

-- `allows d i` says whether a term, pattern or clause may begin inside `d` others where `i` lexemes are left.
module _ (allows : ℕ → ℕ → Bool) where
  abbrev pub may : ℕ → ℕ → Outcome → Outcome
  may d i out = cond (allows d i) out (Over i)

  -- where patterns are
  abbrev pub pats : ℕ → ℕ → Bool → Pats_in → Lexeme → Outcome
  pats d i void k (x.Plain w) = may d i (to (In_clause (Pats d void (with_pat (tree.Name w) k))))
  pats d i void k (x.Dotted w) = may d i (to (In_clause (Pats d void (with_pat (tree.Name w) k))))
  pats d i void k x.Underscore = may d i (to (In_clause (Pats d void (with_pat tree.Wild k))))
  pats d i void k x.Dot = may d i (to (In_clause (DotAtom d void k)))
  pats d i void k x.Open = may d i (to (In_clause (PatOpen d void k)))
  pats d i void k x = pats_end d void k x

  -- where a clause may begin
  abbrev pub clause_name : ℕ → ℕ → Clauses_in → Lexeme → Outcome
  clause_name d i k (x.Plain f) = may d i (to (In_clause (Pats (d + 1) false (Behind (behind d f) k))))
  clause_name d i k _ = Stuck

  -- the binders of a product, where the first `(` is read
  abbrev pub product : ℕ → Telescope
  product d = record { depth = d; quantifier = Product; binders = [] }

  -- after `(` at the front of a term: a binder, or a term in parentheses
  abbrev pub opened : ℕ → ℕ → Term_in → Lexeme → Outcome
  opened d i k (x.Plain w) = to (In_term (Names d i w [] k))
  opened d i k x.Underscore = to (In_term (BinderNames (product d) (None ∷ []) k))
  opened d i k x = may (d + 1) i (term_start (d + 1) (Parens d None k) x)

  -- after plain names, the first of which was where `at` lexemes were left
  abbrev pub names : ℕ → ℕ → Word → List Word → Term_in → Lexeme → Outcome
  names d at w ws k (x.Plain v) = to (In_term (Names d at w (ws ++ v ∷ []) k))
  names d at w ws k x.Underscore = to (In_term (BinderNames (product d) (some_names (w ∷ ws) ++ None ∷ []) k))
  names d at w ws k x.Colon = to (term (d + 1) (Domain (product d) (some_names (w ∷ ws)) k))
  names d at w ws k x = may (d + 1) at (atoms (d + 1) (named w ws) (Parens d None k) x)

  -- the states in a term; `i` lexemes are left, the one that is read among them
  abbrev pub term_step : ℕ → Term_state → Lexeme → Outcome
  term_step i (Term d k) x = may d i (term_start d k x)
  term_step i (Level d s k) (x.Level n) = to (In_term (Atoms d (plus s (tree.Sort n)) k))
  term_step i (Level d s k) _ = Stuck
  term_step i (Opened d k) x = opened d i k x
  term_step i (Names d at w ws k) x = names d at w ws k x
  term_step i (BinderOpen b k) x.Open = to (In_term (BinderNames b [] k))
  term_step i (BinderOpen b k) _ = Stuck
  term_step i (BinderNames b ns k) x = binder_names b ns k x
  term_step i (BinderNext b k) x = binder_next b k x
  term_step i (LetName d k) x = naming (λ w. In_term (LetColon d w k)) x
  term_step i (LetColon d w k) x = colon (term (d + 1) (LetType d w k)) x
  term_step i (Atoms d s k) x = atoms d s k x

  -- the states among clauses
  abbrev pub clause_step : ℕ → Clause_state → Lexeme → Outcome
  clause_step i (Pats d void k) x = pats d i void k x
  clause_step i (PatOpen d void k) x = pat_open d void k x
  clause_step i (DotAtom d void k) x = dot_atom d void k x
  clause_step i (DotLevel d void k) (x.Level n) = to (In_clause (Pats d void (with_pat (tree.Dot (tree.Sort n)) k)))
  clause_step i (DotLevel d void k) _ = Stuck
  clause_step i (FirstClause d k) x.CloseBrace = closed k
  clause_step i (FirstClause d k) x = clause_name d i k x
  clause_step i (ClauseName d k) x = clause_name d i k x
  clause_step i (ClauseEnd d c k) x = clause_end d c k x

  -- the outcome of a lexeme; `i` lexemes are left, that one among them
  abbrev pub step : ℕ → State → Lexeme → Outcome
  step i Start x = start None x
  step i (In_def s) x = def_step s x
  step i (In_data s) x = data_step s x
  step i (In_mutual s) x = mutual_step s x
  step i (In_term s) x = term_step i s x
  step i (In_clause s) x = clause_step i s x
