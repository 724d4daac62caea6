-- The terms of entries in a pool, with one entry more and with the first entries alone.
use Rattle.std.proofs.Common.{◌≡◌, ℕ, ◌+◌, ◌≤◌, inl, inr, Some, List, [], ◌∷◌, ◌++◌, length, take, slice_get, refl, ap, sym, ◌∙◌, subst, arith}
use Rattle.std.proofs.lemmas.List.{length-append, length-take, take-append-le, take-take, take_all}
use Rattle.std.proofs.lemmas.Option.{slice_get_within}
use Rattle.theory.specs.Signatures.{Entry}
use Rattle.theory.proofs.Lists.{slice_get-pushed, slice_get-take}
use Rattle.term_pool.specs.Held.{Held, Extends, Keeps}
use Rattle.term_pool.specs.Pools.{Pooled, pool_held}
use Rattle.term_pool.specs.declared.ids.Id.{Id}
use Rattle.term_pool.specs.declared.ids.Mark.{Mark}
use Rattle.term_pool.specs.declared.node.Node.{Node}
use Rattle.core_sig.specs.EntryIds.{Correspond, StandsAt, Stands}
use Rattle.core_sig.specs.StoredEntries.{AreStored, nodes_held}
use Rattle.core_sig.specs.declared.entry_ids.EntryId.{EntryId}
use Rattle.core_sig.specs.declared.entry_ids.EntryIds.{EntryIds}
use Rattle.core_sig.proofs.StandingEntries.{correspond-map, correspond-none, correspond-push, at-longer, at-kept, each-kept, stands-kept}

pub keeps : {I : Type 0} (old new : Held I) → Extends old new → Keeps old new
keeps old new e = record { lives = e.lives; trees = e.trees; keeps_rows = e.keeps_rows }

-- the ids stand for the entries, where the pool has the nodes
abbrev StandIn : List (Node Id) → List Entry → List (EntryId Id) → Type 0
StandIn nodes entries ids = Correspond (StandsAt (nodes_held nodes) entries) entries ids

-- nothing is found in an empty list
pub nothing : {X : Type 0} (n : ℕ) (x : X) → slice_get [] n ≡ Some x → ⊥
nothing n x at = let l = slice_get_within [] n x at in omega arith

pub stored-none : AreStored [] [] [] []
stored-none =
    record {
      now = correspond-none (StandsAt (nodes_held []) []);
      count = refl;
      before = λ n m at. absurd (nothing n m at);
      within = λ n m at. absurd (nothing n m at);
      rising = λ i n a m le first at. absurd (nothing n m at);
    }

-- so it is in a pool of the nodes
pub stands-pooled : (p : Pooled) (entries : List Entry) (ids : EntryIds Id) → StandIn p.nodes entries ids.entries.items → Stands (pool_held p) entries ids
stands-pooled p entries ids s = stands-kept (nodes_held p.nodes) (pool_held p) (λ id live. live) (λ id live. refl) entries ids (record { each = s })

-- one entry more, with nodes behind those that were there
pub stored-push : (p q : Pooled) (es : List Entry) (ids : List (EntryId Id)) (marks : List Mark) (e : Entry) (id : EntryId Id) (m : Mark)
    → AreStored p.nodes es ids marks → Extends (pool_held p) (pool_held q) → take (length p.nodes) q.nodes ≡ p.nodes
    → StandsAt (pool_held q) es (length es) e id → m.len ≡ length p.nodes
    → AreStored q.nodes (es ++ e ∷ []) (ids ++ id ∷ []) (marks ++ m ∷ [])
stored-push p q es ids marks e id m s extends behind at mark =
    record {
      now = correspond-push After es ids e id (correspond-map (StandsAt (nodes_held q.nodes) es) After es ids longer kept) (longer (length es) e id last);
      count = omega (arith, s.count, length-append marks (m ∷ []), length-append es (e ∷ []));
      before = λ n k place. elim (slice_get-pushed marks m n k place) [
        | inl old ↦ old_before n k old
        | inr new ↦ new_before n k new.0 new.1
      ];
      within = λ n k place. elim (slice_get-pushed marks m n k place) [
        | inl old ↦ (let w = s.within n k old in omega (arith, w, grown))
        | inr new ↦ (let same = ap (λ (x : Mark). x.len) new.1 in omega (arith, same, mark, grown))
      ];
      rising = λ i n a k le first place. elim (slice_get-pushed marks m i a first) [
        | inl old ↦ elim (slice_get-pushed marks m n k place) [
          | inl both ↦ s.rising i n a k le old both
          | inr new ↦ (let w = s.within i a old in let same = ap (λ (x : Mark). x.len) new.1 in omega (arith, w, same, mark))
        ]
        | inr new ↦ elim (slice_get-pushed marks m n k place) [
          | inl old ↦ (let l = slice_get_within marks n k old in absurd (omega (arith, l, le, new.0)))
          | inr both ↦ (let first_same = ap (λ (x : Mark). x.len) new.1 in let same = ap (λ (x : Mark). x.len) both.1 in omega (arith, first_same, same))
        ]
      ];
    }
  where
    After : ℕ → Entry → EntryId Id → Type 0
    After = StandsAt (nodes_held q.nodes) (es ++ e ∷ [])

    longer : (n : ℕ) (x : Entry) (y : EntryId Id) → StandsAt (nodes_held q.nodes) es n x y → After n x y
    longer = at-longer (nodes_held q.nodes) es (e ∷ [])

    kept : StandIn q.nodes es ids
    kept = each-kept (nodes_held p.nodes) (nodes_held q.nodes) extends.lives extends.trees es ids s.now

    last : StandsAt (nodes_held q.nodes) es (length es) e id
    last = at-kept (pool_held q) (nodes_held q.nodes) (λ x live. live) (λ x live. refl) es (length es) e id at

    grown : length p.nodes ≤ length q.nodes
    grown = let same = ap length behind in omega (arith, same, length-take (length p.nodes) q.nodes)

    moved : (a b : List (Node Id)) (xs ys : List Entry) (us vs : List (EntryId Id)) → a ≡ b → xs ≡ ys → us ≡ vs → StandIn a xs us → StandIn b ys vs
    moved a b xs ys us vs nodes entries more h =
        subst (λ w. StandIn b ys w) more (subst (λ w. StandIn b w us) entries (subst (λ w. StandIn w xs us) nodes h))

    old_before : (n : ℕ) (k : Mark) → slice_get marks n ≡ Some k → StandIn (take k.len q.nodes) (take n (es ++ e ∷ [])) (take n (ids ++ id ∷ []))
    old_before n k old =
        let l = slice_get_within marks n k old in
        moved (take k.len p.nodes) (take k.len q.nodes) (take n es) (take n (es ++ e ∷ [])) (take n ids) (take n (ids ++ id ∷ []))
        (ap (take k.len) (sym behind) ∙ take-take k.len (length p.nodes) q.nodes (s.within n k old))
        (sym (take-append-le n es (e ∷ []) (omega (arith, l, s.count))))
        (sym (take-append-le n ids (id ∷ []) (omega (arith, l, s.count, s.now.count))))
        (s.before n k old)

    new_before : (n : ℕ) (k : Mark) → n ≡ length marks → m ≡ k → StandIn (take k.len q.nodes) (take n (es ++ e ∷ [])) (take n (ids ++ id ∷ []))
    new_before n k place same =
        let first : n ≡ length es = omega (arith, place, s.count) in
        let second : n ≡ length ids = omega (arith, place, s.count, s.now.count) in
        moved p.nodes (take k.len q.nodes) es (take n (es ++ e ∷ [])) ids (take n (ids ++ id ∷ []))
        (sym (ap (λ c. take c q.nodes) (sym (ap (λ (x : Mark). x.len) same) ∙ mark) ∙ behind))
        (sym (take-append-le n es (e ∷ []) (omega (arith, first)) ∙ take_all n es (omega (arith, first))))
        (sym (take-append-le n ids (id ∷ []) (omega (arith, second)) ∙ take_all n ids (omega (arith, second))))
        s.now

-- the first n entries alone, where the pool is cut to the nodes that it had before entry n
pub stored-take : (nodes : List (Node Id)) (es : List Entry) (ids : List (EntryId Id)) (marks : List Mark) (n : ℕ) (m : Mark) → AreStored nodes es ids marks
    → slice_get marks n ≡ Some m → AreStored (take m.len nodes) (take n es) (take n ids) (take n marks)
stored-take nodes es ids marks n m s at =
    record {
      now = s.before n m at;
      count = omega (arith, s.count, length-take n marks, length-take n es);
      before = λ i k place.
          let old = slice_get-take n marks i k place in
          let l = within i k place in
          let low = s.rising i n k m l old at in
          subst (λ w. StandIn (take k.len (take m.len nodes)) (take i (take n es)) w) (sym (take-take i n ids l))
          (subst (λ w. StandIn (take k.len (take m.len nodes)) w (take i ids)) (sym (take-take i n es l))
          (subst (λ w. StandIn w (take i es) (take i ids)) (sym (take-take k.len m.len nodes low)) (s.before i k old)));
      within = λ i k place.
          let old = slice_get-take n marks i k place in
          let low = s.rising i n k m (within i k place) old at in
          let all = s.within i k old in
          omega (arith, low, all, length-take m.len nodes);
      rising = λ i j a k le first place. s.rising i j a k le (slice_get-take n marks i a first) (slice_get-take n marks j k place);
    }
  where
    within : (i : ℕ) (k : Mark) → slice_get (take n marks) i ≡ Some k → i ≤ n
    within i k place = let l = slice_get_within (take n marks) i k place in omega (arith, l, length-take n marks)
