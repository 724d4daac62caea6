-- A production that begins inside 2,000 others is found by a run, and the conditions of the three answers exclude each other.
use Rattle.std.proofs.Common.{◌≡◌, ℕ, ◌+◌, ◌<◌, ◌≤◌, suc, Bool, true, false, ◌||◌, ◌⊎◌, inl, inr, List, [], ◌∷◌, ◌++◌, length, nat_le, nat_lt, refl, sym, ap, subst, subst₂, ◌∙◌, arith, append_assoc, length-append}
use Rattle.std.proofs.lemmas.List.{append-nil}
use Rattle.std.proofs.lemmas.Bool.{leb-true, cases_eq}
use Rattle.std.specs.Prelude.{Option, Some, None}
use Rattle.surface_syntax.specs.Trees as tree
use Rattle.surface_syntax.specs.Grammar.{File, limit}
use Rattle.surface_syntax.specs.Machine as m
use Rattle.surface_syntax.specs.Parsing.{Answer, Read, Wrong, Deep, run}
use Rattle.surface_syntax.specs.Viable.{every, IsViable, Next, nothing, first, GoesOn, GoesWrong}
use Rattle.surface_syntax.specs.Nesting.{down_to, past, IsTooDeepAt, IsNested}
use Rattle.surface_syntax.specs.declared.tree.Word.{Word}
use Rattle.surface_syntax.specs.declared.lexeme.Lexeme.{Lexeme}
use Rattle.surface_syntax.specs.declared.lexeme.Lexeme.TheVariants as x
use Rattle.surface_syntax.proofs.Looks.{begun, placed, ahead, IsSteady, IsStill, pats_end_still, closed_still, term_start_still, atoms_still}
use Rattle.surface_syntax.proofs.Results.{Allows, shape, result, found, found_step, ended_step, still_placed, still_begun, Future, now, later, agree, more_result}
use Rattle.surface_syntax.proofs.Ways.{Covers, every_covers, limit_covers, Text, text, file_result, result_file, Passes, front_of, Tested, deep_next, Halt, wrong, deep, Way, way, ways, Finish, finish, finishes, way_text}
use Rattle.surface_syntax.proofs.Places.{next_same, viable_by, viable_within, deep_shape, run_wrong, one_wrong}
use Rattle.surface_syntax.proofs.Nested.{View, term, opened, names, pats, first_clause, clause_name, view, extra, begun_extra, too_deep, down_covers, past_covers, past_at, run_deep}

-- in one file one place is the first that is too deep
less_at : (i j d p : ℕ) → i < j → (b : Bool) → limit d p ≡ b → (b || nat_le p i) ≡ true → past j d p ≡ true
less_at i j d p h true e q = ap (λ (c : Bool). c || nat_lt p j) e
less_at i j d p h false e q = let l = leb-true p i q in past_at j d p (omega arith)

not_before : {ts : List Lexeme} {i j : ℕ} → IsTooDeepAt ts i → IsTooDeepAt ts j → i < j → ⊥
not_before {ts} {i} {j} a b h = read (result_file (past j) ts (more_result (down_to i) (past j) (λ d p q. less_at i j d p h (limit d p) refl q) ts m.Start (file_result a.file)))
  where
    read : Text (past j) ts → ⊥
    read (text ds file) = b.begins ds file

equal_by : (i j : ℕ) → (i < j → ⊥) → (j < i → ⊥) → i ≡ j
equal_by i j a b = grind arith

one_deep : {ts : List Lexeme} {i j : ℕ} → IsTooDeepAt ts i → IsTooDeepAt ts j → i ≡ j
one_deep {ts} {i} {j} a b = equal_by i j (λ h. not_before a b h) (λ h. not_before b a h)

-- with a lexeme where a production is awaited, it begins, or something else goes on, or nothing is due
data Pending (s : m.State) (y : Lexeme) (d : ℕ) : Type 0 where
  begins : (out : m.Outcome) → IsStill out → Tested s y d out → Pending s y d
  elsewhere : (y ≡ x.End → ⊥) → (mid : List Lexeme) (s' : m.State) → IsSteady s' →
      ((allows : Allows) (ts : List Lexeme) → result allows (placed (length (y ∷ (mid ++ ts))) s) (y ∷ (mid ++ ts)) ≡ result allows s' ts) → Pending s y d
  none : (out : m.Outcome) → IsStill out → ((allows : Allows) (i : ℕ) → m.step allows i (placed i s) y ≡ out) → extra s ≡ 0 →
      ((allows : Allows) (i : ℕ) → m.step allows i (placed i s) x.Backslash ≡ m.Stuck) → Pending s y d

opened_pending : (d : ℕ) (k : m.Term_in) (y : Lexeme) → Pending (m.In_term (m.Opened d k)) y (d + 1)
opened_pending d k (x.Plain w) =
    elsewhere (λ e. cc) (x.Underscore ∷ []) (m.In_term (m.BinderNames (record { depth = d; quantifier = m.Product; binders = [] }) (m.some_names (w ∷ []) ++ None ∷ []) k)) tt (λ allows ts. refl)
opened_pending d k x.Underscore = elsewhere (λ e. cc) [] (m.In_term (m.BinderNames (record { depth = d; quantifier = m.Product; binders = [] }) (None ∷ []) k)) tt (λ allows ts. refl)
opened_pending d k y = begins (m.term_start (d + 1) (m.Parens d None k) y) (term_start_still (d + 1) (m.Parens d None k) y) (λ allows i. refl)

names_pending : (d at : ℕ) (w : Word) (ws : List Word) (k : m.Term_in) (y : Lexeme) → Pending (m.In_term (m.Names d at w ws k)) y (d + 1)
names_pending d at w ws k (x.Plain u) =
    elsewhere (λ e. cc) (x.Underscore ∷ []) (m.In_term (m.BinderNames (record { depth = d; quantifier = m.Product; binders = [] }) (m.some_names (w ∷ (ws ++ u ∷ [])) ++ None ∷ []) k)) tt (λ allows ts. refl)
names_pending d at w ws k x.Underscore =
    elsewhere (λ e. cc) [] (m.In_term (m.BinderNames (record { depth = d; quantifier = m.Product; binders = [] }) (m.some_names (w ∷ ws) ++ None ∷ []) k)) tt (λ allows ts. refl)
names_pending d at w ws k x.Colon = elsewhere (λ e. cc) [] (m.term (d + 1) (m.Domain (record { depth = d; quantifier = m.Product; binders = [] }) (m.some_names (w ∷ ws)) k)) tt (λ allows ts. refl)
names_pending d at w ws k y = begins (m.atoms (d + 1) (m.named w ws) (m.Parens d None k) y) (atoms_still (d + 1) (m.named w ws) (m.Parens d None k) y) (λ allows i. refl)

slash_pats : (d : ℕ) (v : Bool) (k : m.Pats_in) → m.pats_end d v k x.Backslash ≡ m.Stuck
slash_pats d v (m.Inside h k) = refl
slash_pats d true (m.Behind h k) = refl
slash_pats d false (m.Behind h k) = refl

pats_pending : (d : ℕ) (v : Bool) (k : m.Pats_in) (y : Lexeme) → Pending (m.In_clause (m.Pats d v k)) y d
pats_pending d v k (x.Plain w) = begins (m.to (m.In_clause (m.Pats d v (m.with_pat (tree.Name w) k)))) tt (λ allows i. refl)
pats_pending d v k (x.Dotted w) = begins (m.to (m.In_clause (m.Pats d v (m.with_pat (tree.Name w) k)))) tt (λ allows i. refl)
pats_pending d v k x.Underscore = begins (m.to (m.In_clause (m.Pats d v (m.with_pat tree.Wild k)))) tt (λ allows i. refl)
pats_pending d v k x.Dot = begins (m.to (m.In_clause (m.DotAtom d v k))) tt (λ allows i. refl)
pats_pending d v k x.Open = begins (m.to (m.In_clause (m.PatOpen d v k))) tt (λ allows i. refl)
pats_pending d v k y = none (m.pats_end d v k y) (pats_end_still d v k y) (λ allows i. refl) refl (λ allows i. slash_pats d v k)

first_pending : (d : ℕ) (k : m.Clauses_in) (y : Lexeme) → Pending (m.In_clause (m.FirstClause d k)) y d
first_pending d k (x.Plain f) = begins (m.to (m.In_clause (m.Pats (d + 1) false (m.Behind (m.behind d f) k)))) tt (λ allows i. refl)
first_pending d k x.CloseBrace = none (m.closed k) (closed_still k) (λ allows i. refl) refl (λ allows i. refl)
first_pending d k _ = none m.Stuck tt (λ allows i. refl) refl (λ allows i. refl)

name_pending : (d : ℕ) (k : m.Clauses_in) (y : Lexeme) → Pending (m.In_clause (m.ClauseName d k)) y d
name_pending d k (x.Plain f) = begins (m.to (m.In_clause (m.Pats (d + 1) false (m.Behind (m.behind d f) k)))) tt (λ allows i. refl)
name_pending d k _ = none m.Stuck tt (λ allows i. refl) refl (λ allows i. refl)

pendings : {s : m.State} {d : ℕ} → View s d → (y : Lexeme) → Pending s y d
pendings (term {d = d} {k = k}) y = begins (m.term_start d k y) (term_start_still d k y) (λ allows i. refl)
pendings (opened {d = d} {k = k}) y = opened_pending d k y
pendings (names {d = d} {at = at} {w = w} {ws = ws} {k = k}) y = names_pending d at w ws k y
pendings (pats {d = d} {v = v} {k = k}) y = pats_pending d v k y
pendings (first_clause {d = d} {k = k}) y = first_pending d k y
pendings (clause_name {d = d} {k = k}) y = name_pending d k y

-- where the next lexeme leads to a state that awaits nothing from before, nothing before that is too deep
past_future : (s : m.State) (n j d p : ℕ) → IsSteady s → n < j → Future s n d p → every d p ≡ past j d p
past_future s n j d p steady h (now a q) = let e = still_begun n s steady in sym (past_at j d p (omega arith))
past_future s n j d p steady h (later l) = sym (past_at j d p (omega arith))

past_steady : (s : m.State) (ts : List Lexeme) (j : ℕ) → IsSteady s → length ts < j → result every s ts ≡ result (past j) s ts
past_steady s ts j steady h = subst (λ (st : m.State). result every st ts ≡ result (past j) st ts) (still_placed (length ts) s steady) (agree every (past j) ts s (λ d p f. past_future s (length ts) j d p steady h f))

past_found : (out : m.Outcome) (ts : List Lexeme) (j : ℕ) → IsStill out → length ts < j → found every ts out ≡ found (past j) ts out
past_found (m.Goes o s) ts j still h = past_steady s ts j still h
past_found (m.Ends o) ts j still h = refl
past_found m.Stuck ts j still h = refl
past_found (m.Over i) ts j still h = refl

past_next : (s : m.State) (back zs : List Lexeme) (out : m.Outcome) → IsStill out → ((allows : Allows) (i : ℕ) → m.step allows i (placed i s) (front_of back) ≡ out) → Next back zs →
    result every (placed (length zs) s) zs ≡ result (past (begun (length zs) s)) (placed (length zs) s) zs
past_next s [] zs out still e nothing = ended_step every (placed 0 s) (e every 0) ∙ sym (ended_step (past (begun 0 s)) (placed 0 s) (e (past (begun 0 s)) 0))
past_next s (y ∷ back) zs out still e (first {more = ts}) =
    let j = begun (suc (length ts)) s in
    let b = begun_extra (suc (length ts)) s in
    found_step every (placed (suc (length ts)) s) y ts (e every (suc (length ts))) ∙ past_found out ts j still (omega arith) ∙
    sym (found_step (past j) (placed (suc (length ts)) s) y ts (e (past j) (suc (length ts))))

-- a file that has something too deep at a place isn't read if only productions that begin after that are allowed
not_past : {front : List Lexeme} {s : m.State} (zs : List Lexeme) (j : ℕ) → Passes m.Start front s → IsTooDeepAt (front ++ zs) j → result (past j) (placed (length zs) s) zs ≡ Read [] → ⊥
not_past {front} zs j passes at q = read (result_file (past j) (front ++ zs) (way_text (past j) (past_covers j) zs passes ∙ q))
  where
    read : Text (past j) (front ++ zs) → ⊥
    read (text ds file) = at.begins ds file

-- from the place of a run in a file that has something too deep at a place: that is awaited
data Mark (s : m.State) (zs : List Lexeme) (i : ℕ) : Type 0 where
  mark : (d : ℕ) → ahead s ≡ Some d → limit d 0 ≡ false → begun (length zs) s ≡ i → Mark s zs i

le_lt : (p i : ℕ) → (p ≡ i → ⊥) → nat_le p i ≡ nat_lt p i
le_lt p i h = grind arith

apart_same : (i d p : ℕ) → (p ≡ i → ⊥) → down_to i d p ≡ past i d p
apart_same i d p h = ap (λ (b : Bool). limit d p || b) (le_lt p i h)

within_same : (i d p : ℕ) → limit d 0 ≡ true → down_to i d p ≡ past i d p
within_same i d p h = ap (λ (b : Bool). b || nat_le p i) h ∙ sym (ap (λ (b : Bool). b || nat_lt p i) h)

module _ (s : m.State) (zs : List Lexeme) (i : ℕ) (within : length zs ≤ i) where
  by_future : ((d : ℕ) → ahead s ≡ Some d → down_to i d (begun (length zs) s) ≡ past i d (begun (length zs) s)) → (d p : ℕ) → Future s (length zs) d p → down_to i d p ≡ past i d p
  by_future h d p (now a q) = subst (λ (k : ℕ). down_to i d k ≡ past i d k) q (h d a)
  by_future h d p (later l) = apart_same i d p (λ e. (let f : p ≡ i = e in omega arith))

  agreed : ((d : ℕ) → ahead s ≡ Some d → down_to i d (begun (length zs) s) ≡ past i d (begun (length zs) s)) → result (down_to i) (placed (length zs) s) zs ≡ result (past i) (placed (length zs) s) zs
  agreed h = agree (down_to i) (past i) zs s (by_future h)

  marked : (result (past i) (placed (length zs) s) zs ≡ Read [] → ⊥) → result (down_to i) (placed (length zs) s) zs ≡ Read [] → Mark s zs i
  marked unread q = by_ahead (ahead s) refl
    where
      by_place : (d : ℕ) → ahead s ≡ Some d → limit d 0 ≡ false → (begun (length zs) s ≡ i) ⊎ (begun (length zs) s ≡ i → ⊥) → Mark s zs i
      by_place d a h (inl e) = mark d a h e
      by_place d a h (inr n) = absurd (unread (sym (agreed (λ d' a'. apart_same i d' (begun (length zs) s) n)) ∙ q))

      by_limit : (d : ℕ) → ahead s ≡ Some d → (b : Bool) → limit d 0 ≡ b → Mark s zs i
      by_limit d a true h = absurd (unread (sym (agreed (λ d' a'. within_same i d' (begun (length zs) s) (same_limit d d' a a' h))) ∙ q))
        where
          same_limit : (d d' : ℕ) → ahead s ≡ Some d → ahead s ≡ Some d' → limit d 0 ≡ true → limit d' 0 ≡ true
          same_limit d d' a a' h = let e : d ≡ d' = cc in subst (λ (k : ℕ). limit k 0 ≡ true) e h
      by_limit d a false h = by_place d a h (cases_eq (begun (length zs) s) i)

      by_ahead : (o : Option ℕ) → ahead s ≡ o → Mark s zs i
      by_ahead None a = absurd (unread (sym (agreed (λ d' a'. no_some a a')) ∙ q))
        where
          no_some : {o : Option ℕ} {d : ℕ} {b c : Bool} → o ≡ None → o ≡ Some d → b ≡ c
          no_some a a' = cc
      by_ahead (Some d) a = by_limit d a (limit d 0) refl

-- the answer of a run that comes to where something too deep begins
module _ (ts : List Lexeme) (n : ℕ) (w : IsNested ts n) where
  abbrev whole : List Lexeme
  whole = w.front ++ w.seen

  together : (zs : List Lexeme) → w.front ++ (w.seen ++ zs) ≡ whole ++ zs
  together zs = sym (append_assoc w.front w.seen zs)

  text_deep : IsTooDeepAt (whole ++ w.more) (length (w.seen ++ w.more))
  text_deep = subst (λ (us : List Lexeme). IsTooDeepAt us (length (w.seen ++ w.more))) (together w.more) w.deep

  always_deep : (zs : List Lexeme) → Next w.back zs → Text every (whole ++ zs) → IsTooDeepAt (whole ++ zs) (length (w.seen ++ zs))
  always_deep zs next (text ds file) =
      subst (λ (us : List Lexeme). IsTooDeepAt us (length (w.seen ++ zs))) (together zs) (w.always zs next ds (subst (λ (us : List Lexeme). File every us ds) (sym (together zs)) file))

  whole_parts : ts ≡ whole ++ w.back
  whole_parts = w.parts ∙ together w.back

  -- it is found before
  found_before : (front mid : List Lexeme) (y : Lexeme) (s : m.State) (d : ℕ) (out : m.Outcome) → whole ≡ front ++ y ∷ mid → Passes m.Start front s → limit d 0 ≡ false → Tested s y d out → result limit m.Start ts ≡ Deep n
  found_before front mid y s d out e passes h t =
      let zs = y ∷ (mid ++ w.more) in
      let us = y ∷ (mid ++ w.back) in
      let to_zs : whole ++ w.more ≡ front ++ zs = ap (λ (l : List Lexeme). l ++ w.more) e ∙ append_assoc front (y ∷ mid) w.more in
      let to_us : ts ≡ front ++ us = whole_parts ∙ ap (λ (l : List Lexeme). l ++ w.back) e ∙ append_assoc front (y ∷ mid) w.back in
      let here = subst (λ (l : List Lexeme). IsTooDeepAt l (length (w.seen ++ w.more))) to_zs text_deep in
      let read = more_result (down_to (length (w.seen ++ w.more))) every (λ d' p q. refl) (front ++ zs) m.Start (file_result here.file) in
      let there = too_deep d zs passes h (λ allows c. deep_next s (y ∷ mid) d out t allows zs first c) (sym (way_text every every_covers zs passes) ∙ read) in
      let place : begun (length zs) s ≡ length (w.seen ++ w.more) = one_deep there here in
      let run_on = ap (λ (l : List Lexeme). result limit m.Start l) to_us ∙ way_text limit limit_covers us passes ∙ deep_next s (y ∷ mid) d out t limit us first h in
      run_on ∙ ap Deep (count (length mid) place)
    where
      count : (k : ℕ) → begun (length (y ∷ (mid ++ w.more))) s ≡ length (w.seen ++ w.more) → begun (length (y ∷ (mid ++ w.back))) s ≡ n
      count k place =
          let a = begun_extra (suc (length (mid ++ w.more))) s in
          let b = begun_extra (suc (length (mid ++ w.back))) s in
          let c = length-append mid w.more in
          let d' = length-append mid w.back in
          let e' = length-append w.seen w.more in
          let f = length-append w.seen w.back in
          let g = w.left in
          omega arith

  -- a run comes through to where it is certain
  module _ (s : m.State) (passes : Passes m.Start whole s) (d : ℕ) (h : limit d 0 ≡ false) (place : begun (length w.more) s ≡ length (w.seen ++ w.more)) where
    measure : (zs : List Lexeme) → begun (length zs) s ≡ length (w.seen ++ zs)
    measure zs =
        let a = begun_extra (length zs) s in
        let b = begun_extra (length w.more) s in
        let c = length-append w.seen w.more in
        let e = length-append w.seen zs in
        omega arith

    found_here : (out : m.Outcome) → Tested s (front_of w.back) d out → result limit m.Start ts ≡ Deep n
    found_here out t =
        ap (λ (l : List Lexeme). result limit m.Start l) whole_parts ∙ way_text limit limit_covers w.back passes ∙ deep_next s w.back d out t limit w.back (next_same w.back) h ∙
        ap Deep (measure w.back ∙ w.left)

    -- no file goes on otherwise
    no_other : (zs : List Lexeme) → Next w.back zs → result every (placed (length zs) s) zs ≡ Read [] → result every (placed (length zs) s) zs ≡ result (past (begun (length zs) s)) (placed (length zs) s) zs → ⊥
    no_other zs next q e =
        let at = always_deep zs next (result_file every (whole ++ zs) (way_text every every_covers zs passes ∙ q)) in
        not_past zs (begun (length zs) s) passes (subst (λ (i : ℕ). IsTooDeepAt (whole ++ zs) i) (sym (measure zs)) at) (sym e ∙ q)

    not_elsewhere : (y : Lexeme) (mid : List Lexeme) (s' : m.State) → IsSteady s' → ((allows : Allows) (us : List Lexeme) → result allows (placed (length (y ∷ (mid ++ us))) s) (y ∷ (mid ++ us)) ≡ result allows s' us) →
        ((zs : List Lexeme) → Next w.back (y ∷ zs)) → Finish s' → ⊥
    not_elsewhere y mid s' steady f next (finish more q) =
        let zs = y ∷ (mid ++ more) in
        let p = ap (λ (st : m.State). result every st more) (still_placed (length more) s' steady) in
        let a = begun_extra (length zs) s in
        let b = length-append mid more in
        let short : length more < begun (length zs) s = omega arith in
        no_other zs (next (mid ++ more)) (f every more ∙ sym p ∙ q) (f every more ∙ past_steady s' more (begun (length zs) s) steady short ∙ sym (f (past (begun (length zs) s)) more))

    elsewhere_by : (back : List Lexeme) → w.back ≡ back → (front_of back ≡ x.End → ⊥) → (mid : List Lexeme) (s' : m.State) → IsSteady s' →
        ((allows : Allows) (us : List Lexeme) → result allows (placed (length (front_of back ∷ (mid ++ us))) s) (front_of back ∷ (mid ++ us)) ≡ result allows s' us) → ⊥
    elsewhere_by [] e ne mid s' steady f = ne refl
    elsewhere_by (y ∷ back) e ne mid s' steady f = not_elsewhere y mid s' steady f (λ zs. subst (λ (l : List Lexeme). Next l (y ∷ zs)) (sym e) first) (finishes s')

    -- nothing is due
    no_slash : (front : List Lexeme) → Passes m.Start front s → ((allows : Allows) (i : ℕ) → m.step allows i (placed i s) x.Backslash ≡ m.Stuck) → IsViable (front ++ x.Backslash ∷ []) → ⊥
    no_slash front through e viable =
        let more = viable.more in
        let r = file_result (subst (λ (l : List Lexeme). File every l viable.decls) (append_assoc front (x.Backslash ∷ []) more) viable.file) in
        let t = way_text every every_covers (x.Backslash ∷ more) through in
        let f = found_step every (placed (suc (length more)) s) x.Backslash more (e every (suc (length more))) in
        cc

    no_length : (l : List Lexeme) → length l ≡ 0 → l ≡ []
    no_length [] e = refl
    no_length (y ∷ l) e = absurd (omega arith)

    none_by : (out : m.Outcome) → IsStill out → ((allows : Allows) (i : ℕ) → m.step allows i (placed i s) (front_of w.back) ≡ out) → extra s ≡ 0 → ((allows : Allows) (i : ℕ) → m.step allows i (placed i s) x.Backslash ≡ m.Stuck) →
        GoesOn whole w.back ⊎ IsViable (w.front ++ x.Backslash ∷ []) → ⊥
    none_by out still e ex slash (inl g) =
        no_other g.more g.next (sym (way_text every every_covers g.more passes) ∙ file_result g.file) (past_next s w.back g.more out still e g.next)
    none_by out still e ex slash (inr viable) =
        let a = begun_extra 0 s in
        let b = measure [] in
        let c = length-append w.seen [] in
        let empty : w.seen ≡ [] = no_length w.seen (omega arith) in
        let bare : whole ≡ w.front = ap (λ (l : List Lexeme). w.front ++ l) empty ∙ append-nil w.front in
        no_slash w.front (subst (λ (l : List Lexeme). Passes m.Start l s) bare passes) slash viable

    by_pending : Pending s (front_of w.back) d → result limit m.Start ts ≡ Deep n
    by_pending (begins out still t) = found_here out t
    by_pending (elsewhere ne mid s' steady f) = absurd (elsewhere_by w.back refl ne mid s' steady f)
    by_pending (none out still e ex slash) = absurd (none_by out still e ex slash w.due)

  by_mark : (s : m.State) → Passes m.Start whole s → Mark s w.more (length (w.seen ++ w.more)) → result limit m.Start ts ≡ Deep n
  by_mark s passes (mark d a h place) = by_pending s passes d h place (pendings (view s d a) (front_of w.back))

  reached : (s : m.State) → Passes m.Start whole s → result limit m.Start ts ≡ Deep n
  reached s passes =
      let i = length (w.seen ++ w.more) in
      let e = length-append w.seen w.more in
      by_mark s passes (marked s w.more i (omega arith) (not_past w.more i passes text_deep) (sym (way_text (down_to i) (down_covers i) w.more passes) ∙ file_result text_deep.file))

  no_wrong : (front back : List Lexeme) (s : m.State) → whole ≡ front ++ back → Passes m.Start front s → Next back (back ++ w.more) →
      ((allows : Allows) → Covers allows → (more : List Lexeme) → Next back more → result allows (placed (length more) s) more ≡ Wrong (length more)) → ⊥
  no_wrong front back s e passes next f =
      let i = length (w.seen ++ w.more) in
      let to_zs : whole ++ w.more ≡ front ++ (back ++ w.more) = ap (λ (l : List Lexeme). l ++ w.more) e ∙ append_assoc front back w.more in
      let a = file_result text_deep.file in
      let b = ap (λ (l : List Lexeme). result (down_to i) m.Start l) to_zs in
      let c = way_text (down_to i) (down_covers i) (back ++ w.more) passes in
      let d = f (down_to i) (down_covers i) (back ++ w.more) next in
      cc

  by_way : (front back : List Lexeme) (s : m.State) → whole ≡ front ++ back → Passes m.Start front s → Halt s back → result limit m.Start ts ≡ Deep n
  by_way front [] s e passes halt = reached s (subst (λ (l : List Lexeme). Passes m.Start l s) (sym (e ∙ append-nil front)) passes)
  by_way front (y ∷ mid) s e passes (wrong f) = absurd (no_wrong front (y ∷ mid) s e passes first f)
  by_way front (y ∷ mid) s e passes (deep d out a h t) = found_before front mid y s d out e passes h t

  found_by : Way m.Start whole → result limit m.Start ts ≡ Deep n
  found_by (way {s' = s} front back e passes halt) = by_way front back s e passes halt

-- a production that begins inside 2,000 others is found
pub nested_run : (ts : List Lexeme) (n : ℕ) → IsNested ts n → run limit m.Start ts ≡ Deep n
nested_run ts n w = deep_shape (run limit m.Start ts) (found_by ts n w (ways (w.front ++ w.seen) m.Start))

-- lexemes that go wrong, and have nothing too deep, are found to be wrong
pub wrong_run : (ts : List Lexeme) (n : ℕ) → GoesWrong ts n → ((k : ℕ) → IsNested ts k → ⊥) → run limit m.Start ts ≡ Wrong n
wrong_run ts n w free = by_answer (run limit m.Start ts) refl
  where
    by_answer : (a : Answer) → run limit m.Start ts ≡ a → run limit m.Start ts ≡ Wrong n
    by_answer (Read ds) e =
        let q = more_result limit every (λ d p h. refl) ts m.Start (ap shape e) in
        absurd (not_read (result_file every (w.front ++ w.back) (ap (λ (l : List Lexeme). result every m.Start l) (sym w.parts) ∙ q)))
      where
        not_read : Text every (w.front ++ w.back) → ⊥
        not_read (text es file) = w.stops w.back (next_same w.back) es file
    by_answer (Wrong k) e = e ∙ ap Wrong (one_wrong (run_wrong ts k e) w)
    by_answer (Deep k) e = absurd (free k (run_deep ts k e))

pub wrong_not_nested : (ts : List Lexeme) (n k : ℕ) → run limit m.Start ts ≡ Wrong n → IsNested ts k → ⊥
wrong_not_nested ts n k q w = let e = nested_run ts k w in cc

-- a production that is too deep begins before lexemes go wrong, or where they do
pub nested_first : (ts : List Lexeme) (n k : ℕ) → GoesWrong ts n → IsNested ts k → n ≤ k
nested_first ts n k v w =
    let i = length (w.seen ++ w.more) in
    let read = more_result (down_to i) every (λ d p h. refl) (w.front ++ (w.seen ++ w.more)) m.Start (file_result w.deep.file) in
    subst (λ (j : ℕ). n ≤ j) w.left (viable_within w.front (w.seen ++ w.back) v w.parts (viable_by w.front (w.seen ++ w.more) (result_file every (w.front ++ (w.seen ++ w.more)) read)))

-- in a source file
pub text_nested : (ts : List Lexeme) (ds : List tree.Decl) (n : ℕ) → File every ts ds → IsNested ts n → IsTooDeepAt ts n
text_nested ts ds n file w =
    subst₂ (λ (us : List Lexeme) (i : ℕ). IsTooDeepAt us i) (sym w.parts) w.left (w.always w.back (next_same w.back) ds (subst (λ (us : List Lexeme). File every us ds) w.parts file))

pub nested_text : (ts : List Lexeme) (ds : List tree.Decl) (n : ℕ) → File every ts ds → IsTooDeepAt ts n → IsNested ts n
nested_text ts ds n file at = by_answer (run limit m.Start ts) refl
  where
    by_answer : (a : Answer) → run limit m.Start ts ≡ a → IsNested ts n
    by_answer (Read es) e = absurd (not_read (result_file (past n) ts (more_result limit (past n) (past_covers n) ts m.Start (ap shape e))))
      where
        not_read : Text (past n) ts → ⊥
        not_read (text es file) = at.begins es file
    by_answer (Wrong k) e = absurd (no_wrong_text (run_wrong ts k e))
      where
        no_wrong_text : GoesWrong ts k → ⊥
        no_wrong_text v = v.stops v.back (next_same v.back) ds (subst (λ (us : List Lexeme). File every us ds) v.parts file)
    by_answer (Deep k) e =
        let w = run_deep ts k e in
        subst (λ (i : ℕ). IsNested ts i) (one_deep (text_nested ts ds k file w) at) w
