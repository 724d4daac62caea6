-- Where a run finds something too deep, a term, pattern or clause begins inside 2,000 others.
use Rattle.std.proofs.Common.{◌≡◌, ℕ, ◌+◌, ◌<◌, ◌≤◌, suc, Bool, true, false, ◌||◌, ◌⊎◌, inl, inr, List, [], ◌∷◌, ◌++◌, length, nat_le, nat_lt, refl, sym, ap, subst, subst₂, ◌∙◌, arith, append_assoc}
use Rattle.std.proofs.lemmas.List.{append-nil}
use Rattle.std.proofs.lemmas.Bool.{le-leb, lt-ltb}
use Rattle.std.proofs.Math.Bool.{or-true}
use Rattle.std.specs.Prelude.{Option, Some, None}
use Rattle.surface_syntax.specs.Trees as tree
use Rattle.surface_syntax.specs.Grammar.{File, limit}
use Rattle.surface_syntax.specs.Machine as m
use Rattle.surface_syntax.specs.Parsing.{Read, Deep, run}
use Rattle.surface_syntax.specs.Viable.{every, IsViable, Next, first, GoesOn}
use Rattle.surface_syntax.specs.Nesting.{down_to, past, IsTooDeepAt, IsNested}
use Rattle.surface_syntax.specs.declared.tree.Word.{Word}
use Rattle.surface_syntax.specs.declared.lexeme.Lexeme.{Lexeme}
use Rattle.surface_syntax.specs.declared.lexeme.Lexeme.TheVariants as x
use Rattle.surface_syntax.proofs.Looks.{begun, placed, above, ahead, IsSteady, IsStill, pats_end_still, closed_still}
use Rattle.surface_syntax.proofs.Results.{Allows, shape, result, found_step, still_placed, Future, now, later, agree}
use Rattle.surface_syntax.proofs.Ways.{Covers, every_covers, limit_covers, Text, text, file_result, result_file, Onward, onto, first_name, next_name, Passes, stop, go, front_of, Tested, deep_next, over, wrong, deep, Way, way, ways, Finish, finish, finishes, way_text}
use Rattle.surface_syntax.proofs.Places.{next_same, viable_by}

-- permissions
pub down_covers : (j : ℕ) → Covers (down_to j)
down_covers j d i e = ap (λ (b : Bool). b || nat_le i j) e

pub past_covers : (j : ℕ) → Covers (past j)
past_covers j d i e = ap (λ (b : Bool). b || nat_lt i j) e

pub down_at : (j d p : ℕ) → p ≤ j → down_to j d p ≡ true
down_at j d p h = ap (λ (b : Bool). limit d p || b) (le-leb p j h) ∙ or-true (limit d p)

pub past_at : (j d p : ℕ) → p < j → past j d p ≡ true
past_at j d p h = ap (λ (b : Bool). limit d p || b) (lt-ltb p j h) ∙ or-true (limit d p)

lt_self : (j : ℕ) → nat_lt j j ≡ false
lt_self j = grind arith

pub past_over : (j d : ℕ) → limit d 0 ≡ false → past j d j ≡ false
past_over j d h = ap (λ (b : Bool). b || nat_lt j j) h ∙ lt_self j

-- how far back what is awaited has begun
abbrev pub extra : m.State → ℕ
extra (m.In_term (m.Names d at w ws k)) = suc (length ws)
extra s = 0

above_extra : (n : ℕ) (ws : List Word) → above n ws ≡ n + suc (length ws)
above_extra n [] = omega arith
above_extra n (w ∷ ws) = let e = above_extra n ws in omega arith

pub begun_extra : (n : ℕ) (s : m.State) → begun n s ≡ n + extra s
begun_extra n (m.In_term (m.Names d at w ws k)) = above_extra n ws
begun_extra n s = omega arith

-- from where something too deep is awaited, the first that is too deep is there
deep_future : (s : m.State) (n d p : ℕ) → Future s n d p → down_to (begun n s) d p ≡ every d p
deep_future s n d p (now a q) = down_at (begun n s) d p (omega arith)
deep_future s n d p (later l) = let e = begun_extra n s in down_at (begun n s) d p (omega arith)

at_by : {ts : List Lexeme} {j : ℕ} → Text (down_to j) ts → ((ds : List tree.Decl) → File (past j) ts ds → ⊥) → IsTooDeepAt ts j
at_by (text ds file) begins = record { decls = ds; file = file; begins = begins }

pub too_deep : {front : List Lexeme} {s : m.State} (d : ℕ) (zs : List Lexeme) → Passes m.Start front s → limit d 0 ≡ false →
    ((allows : Allows) → allows d (begun (length zs) s) ≡ false → result allows (placed (length zs) s) zs ≡ Deep (begun (length zs) s)) →
    result every (placed (length zs) s) zs ≡ Read [] → IsTooDeepAt (front ++ zs) (begun (length zs) s)
too_deep {front} {s} d zs passes h e q =
    let j = begun (length zs) s in
    at_by
    (result_file (down_to j) (front ++ zs) (way_text (down_to j) (down_covers j) zs passes ∙ agree (down_to j) every zs s (λ d' p f. deep_future s (length zs) d' p f) ∙ q))
    (λ ds file. (let a = file_result file in let b = way_text (past j) (past_covers j) zs passes in let c = e (past j) (past_over j d h) in cc))

-- the states in which a production is awaited
pub data View : m.State → ℕ → Type 0 where
  term : {d : ℕ} {k : m.Term_in} → View (m.In_term (m.Term d k)) d
  opened : {d : ℕ} {k : m.Term_in} → View (m.In_term (m.Opened d k)) (d + 1)
  names : {d at : ℕ} {w : Word} {ws : List Word} {k : m.Term_in} → View (m.In_term (m.Names d at w ws k)) (d + 1)
  pats : {d : ℕ} {v : Bool} {k : m.Pats_in} → View (m.In_clause (m.Pats d v k)) d
  first_clause : {d : ℕ} {k : m.Clauses_in} → View (m.In_clause (m.FirstClause d k)) d
  clause_name : {d : ℕ} {k : m.Clauses_in} → View (m.In_clause (m.ClauseName d k)) d

some_only : {a b : ℕ} → Some a ≡ Some b → a ≡ b
some_only e = cc

pub view : (s : m.State) (d : ℕ) → ahead s ≡ Some d → View s d
view (m.In_term (m.Term e k)) d q = subst (λ (i : ℕ). View (m.In_term (m.Term e k)) i) (some_only q) term
view (m.In_term (m.Opened e k)) d q = subst (λ (i : ℕ). View (m.In_term (m.Opened e k)) i) (some_only q) opened
view (m.In_term (m.Names e at w ws k)) d q = subst (λ (i : ℕ). View (m.In_term (m.Names e at w ws k)) i) (some_only q) names
view (m.In_clause (m.Pats e v k)) d q = subst (λ (i : ℕ). View (m.In_clause (m.Pats e v k)) i) (some_only q) pats
view (m.In_clause (m.FirstClause e k)) d q = subst (λ (i : ℕ). View (m.In_clause (m.FirstClause e k)) i) (some_only q) first_clause
view (m.In_clause (m.ClauseName e k)) d q = subst (λ (i : ℕ). View (m.In_clause (m.ClauseName e k)) i) (some_only q) clause_name
view s d q = cc

-- the names that have been read of what is awaited
abbrev pub plains : List Word → List Lexeme
plains [] = []
plains (w ∷ ws) = x.Plain w ∷ plains ws

above_length : (ws : List Word) (zs : List Lexeme) → above (length zs) ws ≡ suc (length (plains ws ++ zs))
above_length [] zs = refl
above_length (w ∷ ws) zs = ap suc (above_length ws zs)

-- names after `(` come after a state in which a term or a binder is awaited
data Origin (s : m.State) (ts : List Lexeme) (d : ℕ) (w : Word) (ws : List Word) (k : m.Term_in) : Type 0 where
  inside : (at : ℕ) (vs us : List Word) → s ≡ m.In_term (m.Names d at w vs k) → ws ≡ vs ++ us → ts ≡ plains us → Origin s ts d w ws k
  behind : (front : List Lexeme) → ts ≡ front ++ x.Plain w ∷ plains ws → Passes s front (m.In_term (m.Opened d k)) → Origin s ts d w ws k

module _ (d : ℕ) (w : Word) (ws : List Word) (k : m.Term_in) where
  step_origin : {s s' : m.State} {y : Lexeme} {ts : List Lexeme} → Onward s y s' → Origin s' ts d w ws k → Origin s (y ∷ ts) d w ws k
  step_origin {y = y} on (behind front e passes) = behind (y ∷ front) (ap (λ (us : List Lexeme). y ∷ us) e) (go on passes)
  step_origin (onto o steady step) (inside at vs us e p q) = absurd (subst (λ (st : m.State). IsSteady st) e steady)
  step_origin {ts = ts} (first_name {d = d'} {w = w'} {k = k'}) (inside at vs us e p q) =
      let same : m.In_term (m.Opened d' k') ≡ m.In_term (m.Opened d k) = cc in
      let empty : vs ≡ [] = cc in
      let all : ws ≡ us = p ∙ ap (λ (l : List Word). l ++ us) empty in
      let whole : x.Plain w' ∷ ts ≡ x.Plain w ∷ plains ws = cc in
      behind [] whole (subst (λ (st : m.State). Passes (m.In_term (m.Opened d' k')) [] st) same stop)
  step_origin {ts = ts} (next_name {d = d'} {at = at'} {w = w'} {u = u} {ws = ws'} {k = k'}) (inside at vs us e p q) =
      let same : m.In_term (m.Names d' at' w' ws' k') ≡ m.In_term (m.Names d at' w ws' k) = cc in
      let more : vs ≡ ws' ++ u ∷ [] = cc in
      let all : ws ≡ ws' ++ u ∷ us = p ∙ ap (λ (l : List Word). l ++ us) more ∙ append_assoc ws' (u ∷ []) us in
      let whole : x.Plain u ∷ ts ≡ plains (u ∷ us) = cc in
      inside at' ws' (u ∷ us) same all whole

  origin : {s s' : m.State} {ts : List Lexeme} (at : ℕ) → Passes s ts s' → s' ≡ m.In_term (m.Names d at w ws k) → Origin s ts d w ws k
  origin at stop e = inside at ws [] e (sym (append-nil ws)) refl
  origin at (go on rest) e = step_origin on (origin at rest e)

-- `\` goes on where a term is awaited
slash_finish : {front : List Lexeme} {s s' : m.State} → Passes m.Start front s → ((i : ℕ) → m.step every i (placed i s) x.Backslash ≡ m.Goes None s') → IsSteady s' → Finish s' → IsViable (front ++ x.Backslash ∷ [])
slash_finish {front} {s} {s'} passes e steady (finish more q) =
    let r = found_step every (placed (suc (length more)) s) x.Backslash more (e (suc (length more))) in
    let p = ap (λ (st : m.State). result every st more) (still_placed (length more) s' steady) in
    let t = way_text every every_covers (x.Backslash ∷ more) passes ∙ r ∙ sym p ∙ q in
    viable_by (front ++ x.Backslash ∷ []) more
    (subst (λ (ts : List Lexeme). Text every ts) (sym (append_assoc front (x.Backslash ∷ []) more)) (result_file every (front ++ x.Backslash ∷ more) t))

abbrev lambda : ℕ → m.Term_in → m.State
lambda d k = m.In_term (m.BinderOpen (record { depth = d; quantifier = m.Function; binders = [] }) k)

term_viable : {front : List Lexeme} (d : ℕ) (k : m.Term_in) → Passes m.Start front (m.In_term (m.Term d k)) → IsViable (front ++ x.Backslash ∷ [])
term_viable d k passes = slash_finish {s' = lambda d k} passes (λ i. refl) tt (finishes (lambda d k))

opened_viable : {front : List Lexeme} (d : ℕ) (k : m.Term_in) → Passes m.Start front (m.In_term (m.Opened d k)) → IsViable (front ++ x.Backslash ∷ [])
opened_viable d k passes = slash_finish {s' = lambda (d + 1) (m.Parens d None k)} passes (λ i. refl) tt (finishes (lambda (d + 1) (m.Parens d None k)))

-- with some lexeme what is awaited begins, and the file goes on
data Probe (s : m.State) (d : ℕ) : Type 0 where
  probe : (y : Lexeme) (o : Option tree.Decl) (s' : m.State) → IsSteady s' → Tested s y d (m.Goes o s') → Probe s d

probes : {s : m.State} {d : ℕ} → View s d → Probe s d
probes (term {d = d} {k = k}) = probe x.Backslash None (lambda d k) tt (λ allows i. refl)
probes (opened {d = d} {k = k}) = probe x.Backslash None (lambda (d + 1) (m.Parens d None k)) tt (λ allows i. refl)
probes (names {d = d} {w = w} {ws = ws} {k = k}) = probe x.Close None (m.In_term (m.Atoms d (m.plus None (m.spine (m.named w ws))) k)) tt (λ allows i. refl)
probes (pats {d = d} {v = v} {k = k}) = probe x.Underscore None (m.In_clause (m.Pats d v (m.with_pat tree.Wild k))) tt (λ allows i. refl)
probes (first_clause {d = d} {k = k}) =
    let f : Word = record { text = []; start = 0 } in
    probe (x.Plain f) None (m.In_clause (m.Pats (d + 1) false (m.Behind (m.behind d f) k))) tt (λ allows i. refl)
probes (clause_name {d = d} {k = k}) =
    let f : Word = record { text = []; start = 0 } in
    probe (x.Plain f) None (m.In_clause (m.Pats (d + 1) false (m.Behind (m.behind d f) k))) tt (λ allows i. refl)

data Some_deep (front : List Lexeme) (s : m.State) : Type 0 where
  some_deep : (zs : List Lexeme) → IsTooDeepAt (front ++ zs) (begun (length zs) s) → Some_deep front s

probe_deep : {front : List Lexeme} {s : m.State} {d : ℕ} (y : Lexeme) (o : Option tree.Decl) (s' : m.State) → Passes m.Start front s → limit d 0 ≡ false → IsSteady s' → Tested s y d (m.Goes o s') → Finish s' → Some_deep front s
probe_deep {s = s} {d = d} y o s' passes h steady e (finish more q) =
    let r = found_step every (placed (suc (length more)) s) y more (e every (suc (length more))) in
    let p = ap (λ (st : m.State). result every st more) (still_placed (length more) s' steady) in
    some_deep (y ∷ more) (too_deep d (y ∷ more) passes h (λ allows c. deep_next s (y ∷ []) d (m.Goes o s') e allows (y ∷ more) first c) (r ∙ sym p ∙ q))

some_by : {front : List Lexeme} {s : m.State} {d : ℕ} → Passes m.Start front s → limit d 0 ≡ false → Probe s d → Some_deep front s
some_by passes h (probe y o s' steady e) = probe_deep y o s' passes h steady e (finishes s')

-- all of it
module _ (ts whole back : List Lexeme) (s : m.State) (front seen : List Lexeme) (p : ts ≡ whole ++ back) (q : whole ≡ front ++ seen) (measure : (zs : List Lexeme) → begun (length zs) s ≡ length (seen ++ zs)) where
  together : (zs : List Lexeme) → whole ++ zs ≡ front ++ (seen ++ zs)
  together zs = ap (λ (us : List Lexeme). us ++ zs) q ∙ append_assoc front seen zs

  apart : (zs : List Lexeme) → IsTooDeepAt (whole ++ zs) (begun (length zs) s) → IsTooDeepAt (front ++ (seen ++ zs)) (length (seen ++ zs))
  apart zs at = subst₂ (λ (us : List Lexeme) (i : ℕ). IsTooDeepAt us i) (together zs) (measure zs) at

  nested_by : Some_deep whole s → ((zs : List Lexeme) → Next back zs → (ds : List tree.Decl) → File every (whole ++ zs) ds → IsTooDeepAt (whole ++ zs) (begun (length zs) s)) →
      GoesOn (front ++ seen) back ⊎ IsViable (front ++ x.Backslash ∷ []) → IsNested ts (begun (length back) s)
  nested_by (some_deep zs at) always due = record {
    front = front;
    seen = seen;
    back = back;
    parts = p ∙ together back;
    left = sym (measure back);
    more = zs;
    deep = apart zs at;
    always = λ zs next ds file. apart zs (always zs next ds (subst (λ (us : List Lexeme). File every us ds) (sym (together zs)) file));
    due = due;
  }

-- a pattern or a clause begins with the next lexeme
data Goes_every (s : m.State) (y : Lexeme) : Type 0 where
  goes_every : (o : Option tree.Decl) (s' : m.State) → IsSteady s' → ((i : ℕ) → m.step every i (placed i s) y ≡ m.Goes o s') → Goes_every s y

abbrev nowhere : Allows
nowhere d i = false

not_over : {out : m.Outcome} {i : ℕ} → IsStill out → out ≡ m.Over i → ⊥
not_over still e = subst (λ (o : m.Outcome). IsStill o) e still

pats_begin : (d : ℕ) (v : Bool) (k : m.Pats_in) (y : Lexeme) (out : m.Outcome) → Tested (m.In_clause (m.Pats d v k)) y d out → Goes_every (m.In_clause (m.Pats d v k)) y
pats_begin d v k (x.Plain w) out e = goes_every None (m.In_clause (m.Pats d v (m.with_pat (tree.Name w) k))) tt (λ i. refl)
pats_begin d v k (x.Dotted w) out e = goes_every None (m.In_clause (m.Pats d v (m.with_pat (tree.Name w) k))) tt (λ i. refl)
pats_begin d v k x.Underscore out e = goes_every None (m.In_clause (m.Pats d v (m.with_pat tree.Wild k))) tt (λ i. refl)
pats_begin d v k x.Dot out e = goes_every None (m.In_clause (m.DotAtom d v k)) tt (λ i. refl)
pats_begin d v k x.Open out e = goes_every None (m.In_clause (m.PatOpen d v k)) tt (λ i. refl)
pats_begin d v k y out e = absurd (not_over (pats_end_still d v k y) (e nowhere 0))

name_begins : (d : ℕ) (k : m.Clauses_in) (y : Lexeme) (out : m.Outcome) → Tested (m.In_clause (m.ClauseName d k)) y d out → Goes_every (m.In_clause (m.ClauseName d k)) y
name_begins d k (x.Plain f) out e = goes_every None (m.In_clause (m.Pats (d + 1) false (m.Behind (m.behind d f) k))) tt (λ i. refl)
name_begins d k _ out e = let h = e nowhere 0 in cc

first_begins : (d : ℕ) (k : m.Clauses_in) (y : Lexeme) (out : m.Outcome) → Tested (m.In_clause (m.FirstClause d k)) y d out → Goes_every (m.In_clause (m.FirstClause d k)) y
first_begins d k (x.Plain f) out e = goes_every None (m.In_clause (m.Pats (d + 1) false (m.Behind (m.behind d f) k))) tt (λ i. refl)
first_begins d k x.CloseBrace out e = absurd (not_over (closed_still k) (e nowhere 0))
first_begins d k _ out e = let h = e nowhere 0 in cc

goes_on_by : {front : List Lexeme} (back more : List Lexeme) → Next back more → Text every (front ++ more) → GoesOn front back
goes_on_by back more next (text ds file) = record { more = more; next = next; decls = ds; file = file }

next_finish : {front : List Lexeme} {s s' : m.State} {o : Option tree.Decl} (y : Lexeme) (back : List Lexeme) → Passes m.Start front s → ((i : ℕ) → m.step every i (placed i s) y ≡ m.Goes o s') → IsSteady s' → Finish s' → GoesOn front (y ∷ back)
next_finish {front} {s} {s'} y back passes e steady (finish more q) =
    let r = found_step every (placed (suc (length more)) s) y more (e (suc (length more))) in
    let p = ap (λ (st : m.State). result every st more) (still_placed (length more) s' steady) in
    goes_on_by (y ∷ back) (y ∷ more) first (result_file every (front ++ y ∷ more) (way_text every every_covers (y ∷ more) passes ∙ r ∙ sym p ∙ q))

next_goes : {front : List Lexeme} {s : m.State} (y : Lexeme) (back : List Lexeme) → Passes m.Start front s → Goes_every s y → GoesOn front (y ∷ back)
next_goes y back passes (goes_every o s' steady e) = next_finish y back passes e steady (finishes s')

-- at the end of the file no pattern and no clause begins
pats_no_end : (d : ℕ) (v : Bool) (k : m.Pats_in) (out : m.Outcome) → Tested (m.In_clause (m.Pats d v k)) x.End d out → ⊥
pats_no_end d v k out e = not_over (pats_end_still d v k x.End) (e nowhere 0)

name_no_end : (d : ℕ) (k : m.Clauses_in) (out : m.Outcome) → Tested (m.In_clause (m.ClauseName d k)) x.End d out → ⊥
name_no_end d k out e = let h = e nowhere 0 in cc

first_no_end : (d : ℕ) (k : m.Clauses_in) (out : m.Outcome) → Tested (m.In_clause (m.FirstClause d k)) x.End d out → ⊥
first_no_end d k out e = let h = e nowhere 0 in cc

goes_pats : {front : List Lexeme} (d : ℕ) (v : Bool) (k : m.Pats_in) (back : List Lexeme) (out : m.Outcome) → Passes m.Start front (m.In_clause (m.Pats d v k)) → Tested (m.In_clause (m.Pats d v k)) (front_of back) d out → GoesOn front back
goes_pats d v k [] out passes e = absurd (pats_no_end d v k out e)
goes_pats d v k (y ∷ back) out passes e = next_goes y back passes (pats_begin d v k y out e)

goes_name : {front : List Lexeme} (d : ℕ) (k : m.Clauses_in) (back : List Lexeme) (out : m.Outcome) → Passes m.Start front (m.In_clause (m.ClauseName d k)) → Tested (m.In_clause (m.ClauseName d k)) (front_of back) d out → GoesOn front back
goes_name d k [] out passes e = absurd (name_no_end d k out e)
goes_name d k (y ∷ back) out passes e = next_goes y back passes (name_begins d k y out e)

goes_first : {front : List Lexeme} (d : ℕ) (k : m.Clauses_in) (back : List Lexeme) (out : m.Outcome) → Passes m.Start front (m.In_clause (m.FirstClause d k)) → Tested (m.In_clause (m.FirstClause d k)) (front_of back) d out → GoesOn front back
goes_first d k [] out passes e = absurd (first_no_end d k out e)
goes_first d k (y ∷ back) out passes e = next_goes y back passes (first_begins d k y out e)

-- a file that goes on so is too deep there
always_deep : {front : List Lexeme} {s : m.State} (d : ℕ) (out : m.Outcome) (back zs : List Lexeme) {ds : List tree.Decl} → Passes m.Start front s → limit d 0 ≡ false → Tested s (front_of back) d out →
    Next back zs → File every (front ++ zs) ds → IsTooDeepAt (front ++ zs) (begun (length zs) s)
always_deep {front} {s} d out back zs passes h e next file =
    too_deep d zs passes h (λ allows c. deep_next s back d out e allows zs next c) (sym (way_text every every_covers zs passes) ∙ file_result file)

no_start : {d : ℕ} {at : ℕ} {w : Word} {vs : List Word} {k : m.Term_in} → m.Start ≡ m.In_term (m.Names d at w vs k) → ⊥
no_start e = cc

by_origin : (ts whole back : List Lexeme) (d at : ℕ) (w : Word) (ws : List Word) (k : m.Term_in) → ts ≡ whole ++ back → Origin m.Start whole d w ws k → Some_deep whole (m.In_term (m.Names d at w ws k)) →
    ((zs : List Lexeme) → Next back zs → (ds : List tree.Decl) → File every (whole ++ zs) ds → IsTooDeepAt (whole ++ zs) (above (length zs) ws)) → IsNested ts (above (length back) ws)
by_origin ts whole back d at w ws k p (inside at' vs us e r q) some always = absurd (no_start e)
by_origin ts whole back d at w ws k p (behind front e passes) some always =
    nested_by ts whole back (m.In_term (m.Names d at w ws k)) front (x.Plain w ∷ plains ws) p e (λ zs. above_length ws zs) some always (inr (opened_viable d k passes))

by_view : (ts whole back : List Lexeme) (s : m.State) (d : ℕ) (out : m.Outcome) → ts ≡ whole ++ back → Passes m.Start whole s → View s d → limit d 0 ≡ false → Tested s (front_of back) d out → IsNested ts (begun (length back) s)
by_view ts whole back s d out p passes (term {k = k}) h e =
    nested_by ts whole back s whole [] p (sym (append-nil whole)) (λ zs. refl) (some_by passes h (probes {s = s} {d = d} term)) (λ zs next ds file. always_deep d out back zs passes h e next file) (inr (term_viable d k passes))
by_view ts whole back s d out p passes (opened {d = d'} {k = k}) h e =
    nested_by ts whole back s whole [] p (sym (append-nil whole)) (λ zs. refl) (some_by passes h (probes {s = s} {d = d} opened)) (λ zs next ds file. always_deep d out back zs passes h e next file) (inr (opened_viable d' k passes))
by_view ts whole back s d out p passes (names {d = d'} {at = at} {w = w} {ws = ws} {k = k}) h e =
    by_origin ts whole back d' at w ws k p (origin d' w ws k at passes refl) (some_by passes h (probes {s = s} {d = d} names)) (λ zs next ds file. always_deep d out back zs passes h e next file)
by_view ts whole back s d out p passes (pats {v = v} {k = k}) h e =
    nested_by ts whole back s whole [] p (sym (append-nil whole)) (λ zs. refl) (some_by passes h (probes {s = s} {d = d} pats)) (λ zs next ds file. always_deep d out back zs passes h e next file)
    (inl (subst (λ (us : List Lexeme). GoesOn us back) (sym (append-nil whole)) (goes_pats d v k back out passes e)))
by_view ts whole back s d out p passes (first_clause {k = k}) h e =
    nested_by ts whole back s whole [] p (sym (append-nil whole)) (λ zs. refl) (some_by passes h (probes {s = s} {d = d} first_clause)) (λ zs next ds file. always_deep d out back zs passes h e next file)
    (inl (subst (λ (us : List Lexeme). GoesOn us back) (sym (append-nil whole)) (goes_first d k back out passes e)))
by_view ts whole back s d out p passes (clause_name {k = k}) h e =
    nested_by ts whole back s whole [] p (sym (append-nil whole)) (λ zs. refl) (some_by passes h (probes {s = s} {d = d} clause_name)) (λ zs next ds file. always_deep d out back zs passes h e next file)
    (inl (subst (λ (us : List Lexeme). GoesOn us back) (sym (append-nil whole)) (goes_name d k back out passes e)))

nested_way : (ts : List Lexeme) (n : ℕ) → result limit m.Start ts ≡ Deep n → Way m.Start ts → IsNested ts n
nested_way ts n q (way front back parts passes (over e)) =
    let a = ap (λ (us : List Lexeme). result limit m.Start us) parts ∙ way_text limit limit_covers back passes in let b = e limit limit_covers in cc
nested_way ts n q (way front back parts passes (wrong e)) =
    let a = ap (λ (us : List Lexeme). result limit m.Start us) parts ∙ way_text limit limit_covers back passes in let b = e limit limit_covers back (next_same back) in cc
nested_way ts n q (way {s' = s} front back parts passes (deep d out a h e)) =
    let r = ap (λ (us : List Lexeme). result limit m.Start us) parts ∙ way_text limit limit_covers back passes in
    let t = deep_next s back d out e limit back (next_same back) h in
    let same : begun (length back) s ≡ n = cc in
    subst (λ (i : ℕ). IsNested ts i) same (by_view ts front back s d out parts passes (view s d a) h e)

-- where the machine finds something too deep, it begins
pub run_deep : (ts : List Lexeme) (n : ℕ) → run limit m.Start ts ≡ Deep n → IsNested ts n
run_deep ts n q = nested_way ts n (ap shape q) (ways ts m.Start)
