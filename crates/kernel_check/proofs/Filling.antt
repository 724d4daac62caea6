-- Types that are filled with the arguments of an application: with one more of them, and how high they get.
use Rattle.std.proofs.Common.{◌≡◌, Ok, IfOk, ℕ, zero, suc, ◌+◌, ◌≤◌, IsTrue, List, [], ◌∷◌, ◌++◌, map, refl, sym, ap, ◌∙◌, subst as transport, arith}
use Rattle.std.specs.List.{All}
use Rattle.std.proofs.lemmas.List.{map-append}
use Rattle.std.proofs.lemmas.List.Elements.{All-cons, All-head, All-nil, All-push, All-tail}
use Rattle.theory.specs.Terms.{Term, height, free_of, subst}
use Rattle.theory.specs.Terms.Term.{Var, Pi}
use Rattle.theory.specs.Substitutions.{extend, fill, inst, ups}
use Rattle.theory.proofs.HeightInstances.{height-inst}
use Rattle.theory.proofs.Heights.{height-positive}
use Rattle.theory.proofs.Instances.{inst-same, inst-var}
use Rattle.core_terms.specs.Bounds.{most_inner_variables}
use Rattle.core_terms.specs.Answers.{Spent}
use Rattle.core_terms.specs.Verdicts.{Verdict}
use Rattle.core_terms.specs.Verdicts.Verdict.{Yes}
use Rattle.theory.specs.Signatures.{Signature}
use Rattle.theory.specs.Telescopes.{Context}
use Rattle.kernel_reduce.specs.Reduction.{answered}
use Rattle.kernel_check.specs.Checking.{infer_of}
use Rattle.kernel_check.specs.Laws.{AreBothLow, IfYes}
use Rattle.kernel_check.proofs.AnswerHeights.{infer-is_low}
use Rattle.term_pool.specs.Held.{Held, Extends}
use Rattle.term_pool.specs.Instantiation.{AreValues, trees_of}
use Rattle.term_pool.proofs.Instancing.{values-kept, trees-kept}
use Rattle.store_reduce.proofs.ManySteps.{fill-low, filled-one}
use Rattle.kernel_check.specs.Opened.{AreFilled, WillFill, filled_tree}
use Rattle.kernel_check.specs.declared.filled.Filled.{Filled}

-- one argument more is put for the nearest variable
fill-next : (s : ℕ → Term) (us : List Term) (u : Term) (n : ℕ) → fill s (us ++ u ∷ []) n ≡ extend (fill s us) u n
fill-next s [] u zero = refl
fill-next s [] u (suc n) = refl
fill-next s (a ∷ us) u n = fill-next (extend s a) us u n

-- an instance of a codomain, filled with the arguments before, is one that is filled with this argument too
pub filled-instance : (us : List Term) (b u : Term) → subst (inst (ups (fill Var us)) b) 0 u ≡ inst (fill Var (us ++ u ∷ [])) b
filled-instance us b u = filled-one (fill Var us) b u ∙ inst-same b (λ n. sym (fill-next Var us u n))

-- a type that is found is low enough
pub found-low : (S : Signature) (room left rest : ℕ) (G : Context) (t c : Term) → answered (Ok (Yes c)) rest ≡ infer_of S room G t left → height c ≤ 2000
found-low S room left rest G t c e =
    let low : IfOk (answered (Ok (Yes c)) rest).0 (λ v. IfYes v (AreBothLow t)) = transport (λ (r : Spent Verdict). IfOk r.0 (λ v. IfYes v (AreBothLow t))) (sym e) (infer-is_low S room G t left) in
    low.type

module _ {I : Type 0} where
  trees-push : (held : Held I) (ids : List I) (id : I) → trees_of held (ids ++ id ∷ []) ≡ trees_of held ids ++ held.tree id ∷ []
  unfolding trees_of
  trees-push held ids id = map-append held.tree ids (id ∷ [])

  trees-low : (held : Held I) (ids : List I) (n : ℕ) → All (λ a. height (held.tree a) ≤ n) ids → All (λ t. height t ≤ n) (trees_of held ids)
  unfolding trees_of
  trees-low held [] n all = All-nil (λ t. height t ≤ n)
  trees-low held (id ∷ ids) n all =
      All-cons (λ t. height t ≤ n) (held.tree id) (map held.tree ids) (All-head (λ a. height (held.tree a) ≤ n) id ids all)
      (trees-low held ids n (All-tail (λ a. height (held.tree a) ≤ n) id ids all))

  -- no argument
  pub filled-none : (held : Held I) (ids : List I) (t : Term) → ids ≡ [] → filled_tree held ids t ≡ t
  unfolding trees_of
  filled-none held ids t none = ap (λ us. inst (fill Var (map held.tree us)) t) none ∙ inst-var t

  pub are_filled-none : (held : Held I) (filled : Filled I) → filled.args.items ≡ [] → AreFilled held filled
  are_filled-none held filled none =
      record {
        values =
            record {
              live = transport (All (λ a. IsTrue (held.live a))) (sym none) (All-nil (λ a. IsTrue (held.live a)));
              free = transport (All (λ a. free_of (held.tree a) ≤ most_inner_variables)) (sym none) (All-nil (λ a. free_of (held.tree a) ≤ most_inner_variables));
            };
        highest = transport (All (λ a. height (held.tree a) ≤ filled.highest)) (sym none) (All-nil (λ a. height (held.tree a) ≤ filled.highest));
      }

  -- in a store that has grown
  pub filled-kept : {old new : Held I} (ids : List I) {a : I} → Extends old new → AreValues old ids → IsTrue (old.live a)
      → filled_tree new ids (new.tree a) ≡ filled_tree old ids (old.tree a)
  filled-kept {old} {new} ids {a} e values live =
      ap (λ us. inst (fill Var us) (new.tree a)) (trees-kept old new ids e values) ∙ ap (inst (fill Var (trees_of old ids))) (e.trees a live)

  pub codomain-kept : {old new : Held I} (ids : List I) {b : I} → Extends old new → AreValues old ids → IsTrue (old.live b)
      → inst (ups (fill Var (trees_of new ids))) (new.tree b) ≡ inst (ups (fill Var (trees_of old ids))) (old.tree b)
  codomain-kept {old} {new} ids {b} e values live =
      ap (λ us. inst (ups (fill Var us)) (new.tree b)) (trees-kept old new ids e values) ∙ ap (inst (ups (fill Var (trees_of old ids)))) (e.trees b live)

  heights-kept : (old new : Held I) (ids : List I) (n : ℕ) → Extends old new → AreValues old ids → All (λ a. height (old.tree a) ≤ n) ids → All (λ a. height (new.tree a) ≤ n) ids
  heights-kept old new ids n e values all = λ i d less. transport (λ t. height t ≤ n) (sym (e.trees _ (values.live i d less))) (all i d less)

  pub are_filled-kept : {old new : Held I} (filled : Filled I) → Extends old new → AreFilled old filled → AreFilled new filled
  are_filled-kept {old} {new} filled e f =
      record {
        values = values-kept old new filled.args.items e f.values;
        highest = heights-kept old new filled.args.items filled.highest e f.values f.highest;
      }

  pub will_fill-kept : {old new : Held I} (ids : List I) (u b : I) (n : ℕ) → Extends old new → IsTrue (old.live u) → IsTrue (old.live b) → WillFill old ids u b n → WillFill new ids u b n
  will_fill-kept {old} {new} ids u b n e lu lb w =
      record {
        values = values-kept old new ids e w.values;
        bound = heights-kept old new ids n e w.values w.bound;
        free = transport (λ t. free_of t ≤ most_inner_variables) (sym (e.trees u lu)) w.free;
        more = transport (λ t. height t ≤ n) (sym (e.trees u lu)) w.more;
        low = transport (λ t. height t + n ≤ 2000) (sym (e.trees b lb)) w.low;
      }

  -- where the codomain of a product may be filled with one more
  pub will_fill : {held : Held I} (filled : Filled I) (u b : I) (a : Term) (n : ℕ) → AreFilled held filled → free_of (held.tree u) ≤ most_inner_variables → filled.highest ≤ n
      → height (held.tree u) ≤ n → height (Pi a (held.tree b)) + n ≤ 2000 → WillFill held filled.args.items u b n
  will_fill {held} filled u b a n f free more high low =
      record {
        values = f.values;
        bound = λ i d less. omega (arith, more, f.highest i d less);
        free = free;
        more = high;
        low = omega (arith, low);
      }

  module _ (held : Held I) (ids : List I) (u b : I) (n : ℕ) (w : WillFill held ids u b n) (live : IsTrue (held.live u)) where
    pub filled-more : (filled : Filled I) → filled.args.items ≡ ids ++ u ∷ [] → filled.highest ≡ n → AreFilled held filled
    filled-more filled args high =
        record {
          values =
              record {
                live = transport (All (λ a. IsTrue (held.live a))) (sym args) (All-push (λ a. IsTrue (held.live a)) ids u w.values.live live);
                free =
                    transport (All (λ a. free_of (held.tree a) ≤ most_inner_variables)) (sym args)
                    (All-push (λ a. free_of (held.tree a) ≤ most_inner_variables) ids u w.values.free w.free);
              };
          highest =
              transport (λ k. All (λ a. height (held.tree a) ≤ k) filled.args.items) (sym high)
              (transport (All (λ a. height (held.tree a) ≤ n)) (sym args) (All-push (λ a. height (held.tree a) ≤ n) ids u w.bound w.more));
        }

    -- the codomain with it
    pub filled-push : filled_tree held (ids ++ u ∷ []) (held.tree b) ≡ subst (inst (ups (fill Var (trees_of held ids))) (held.tree b)) 0 (held.tree u)
    filled-push =
        ap (λ us. inst (fill Var us) (held.tree b)) (trees-push held ids u) ∙ sym (filled-instance (trees_of held ids) (held.tree b) (held.tree u))

    pub push-low : height (subst (inst (ups (fill Var (trees_of held ids))) (held.tree b)) 0 (held.tree u)) ≤ 2000
    push-low =
        let all = All-push (λ a. height (held.tree a) ≤ n) ids u w.bound w.more in
        let var : (i : ℕ) → height (Var i) ≤ n = λ i. omega (arith, w.more, height-positive (held.tree u)) in
        let each = fill-low Var (trees_of held (ids ++ u ∷ [])) n var (trees-low held (ids ++ u ∷ []) n all) in
        let whole = height-inst (fill Var (trees_of held (ids ++ u ∷ []))) (held.tree b) n each in
        transport (λ t. height t ≤ 2000) filled-push (omega (arith, whole.1, w.low))
