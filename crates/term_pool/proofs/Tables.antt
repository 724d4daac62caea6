-- Tables of answers: a row that is added, and rows that go on to serve.
use Rattle.std.proofs.Common.{◌≡◌, ℕ, zero, suc, ◌<◌, ◌≤◌, Bool, true, false, if◌then◌else◌, List, [], ◌∷◌, length, slice_index_or, IsTrue, ◌⊎◌, inl, inr, Ok, sym, ◌∙◌, ap, subst, arith}
use Rattle.std.specs.List.{IsAmong}
use Rattle.std.specs.Map.{values_of}
use Rattle.theory.specs.Terms.{Term, height}
use Rattle.indexmap.specs.IndexMap.{IndexMap, insert_entry, values}
use Rattle.term_pool.specs.Held.{Held, Extends, Makes}
use Rattle.term_pool.specs.Shifts.{Serves, ServesAt, AllLive, IsAnswered, IsWith}
use Rattle.term_pool.specs.declared.shifts.Shift.{Shift}

module _ {X : Type 0} where
  later : (xs : List X) (x v : X) → IsAmong xs v → IsAmong (x ∷ xs) v
  later xs x v h = (suc h.0, (omega (arith, h.1.0), h.1.1))

  first_or_later : (xs : List X) (x v : X) → IsAmong (x ∷ xs) v → (v ≡ x) ⊎ IsAmong xs v
  first_or_later xs x v h = go h.0 h.1.0 h.1.1
    where
      go : (i : ℕ) → i < length (x ∷ xs) → v ≡ slice_index_or (x ∷ xs) i v → (v ≡ x) ⊎ IsAmong xs v
      go zero less is = inl is
      go (suc i) less is = inr (i, (omega (arith, less), is))

  among_insert : {K : Type 0} (eq : K → K → Bool) (es : List (K × X)) (k : K) (x v : X)
      → IsAmong (values_of (insert_entry eq es k x)) v → (v ≡ x) ⊎ IsAmong (values_of es) v
  among_insert eq [] k x v h = first_or_later [] x v h
  among_insert {K} eq (e ∷ es) k x v h = go (eq k e.0) (among_insert eq es k x v) h
    where
      go : (b : Bool) → (IsAmong (values_of (insert_entry eq es k x)) v → (v ≡ x) ⊎ IsAmong (values_of es) v)
          → IsAmong (values_of (if b then (e.0, x) ∷ es else e ∷ insert_entry eq es k x)) v → (v ≡ x) ⊎ IsAmong (values_of (e ∷ es)) v
      go true rest h = elim (first_or_later (values_of es) x v h) [ inl is ↦ inl is | inr r ↦ inr (later (values_of es) e.1 v r) ]
      go false rest h =
          elim (first_or_later (values_of (insert_entry eq es k x)) e.1 v h) [
            | inl is ↦ inr (0, (omega arith, is))
            | inr r ↦ elim (rest r) [ inl is ↦ inl is | inr r ↦ inr (later (values_of es) e.1 v r) ]
          ]

module _ {I : Type 0} where
  -- a table after an insertion has no rows but the new one and the old ones
  pub with-insert : {K S : Type 0} (eq : K → K → Bool) (m n : IndexMap K (Shift I) S) (k : K) (row : Shift I)
      → n.entries ≡ insert_entry eq m.entries k row → IsWith (values m) row (values n)
  with-insert eq m n k row is =
      record { each = λ other h. among_insert eq m.entries k row other (subst (λ es. IsAmong (values_of es) other) is h) }

  -- what serves is about live ids
  pub serves-live : (meant : Term → ℕ → Term) (held : Held I) (rows : List (Shift I)) → Serves meant held rows → AllLive held rows
  serves-live meant held rows s = record { each = λ row h. (s.each row h).live }

  -- an answer that is found stands for what the tree means
  pub serves-answer : (meant : Term → ℕ → Term) (held : Held I) (rows : List (Shift I)) (t answer : I) (depth : ℕ)
      → Serves meant held rows → IsAnswered held rows t depth answer → Makes held (Ok answer) (meant (held.tree t) depth)
  serves-answer meant held rows t answer depth s a =
      let at = s.each a.row a.among in
      let from : meant (held.tree a.row.from) a.row.depth ≡ meant (held.tree t) depth
      = (λ i. meant (a.from i) (a.depth_is i)) in (
        subst (λ id. IsTrue (held.live id)) a.answer_is at.answers,
        sym (ap held.tree a.answer_is) ∙ at.tree ∙ from,
        subst (λ m. height m ≤ 2000) from at.low,
      )

  -- the table serves with the answer that was made for a tree
  pub serves-noted : (meant : Term → ℕ → Term) (old new : Held I) (rows rows' : List (Shift I)) (t answer : I) (depth : ℕ)
      → Serves meant new rows → Extends old new → IsTrue (old.live t) → Makes new (Ok answer) (meant (old.tree t) depth)
      → IsWith rows (record { from = t; depth = depth; answer = answer }) rows' → Serves meant new rows'
  serves-noted meant old new rows rows' t answer depth s e live made w =
      let kept = e.trees t live in
      let here : ServesAt meant new (record { from = t; depth = depth; answer = answer })
      = record {
        live = e.lives t live;
        answers = made.0;
        tree = made.1 ∙ sym (ap (λ u. meant u depth) kept);
        low = subst (λ u. height (meant u depth) ≤ 2000) (sym kept) made.2;
      } in
      record {
        each = λ row h. elim (w.each row h) [
          | inl is ↦ subst (ServesAt meant new) (sym is) here
          | inr old ↦ s.each row old
        ];
      }

pub ruleset table_laws = (with-insert)
