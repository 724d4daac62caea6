-- Forms: they stay in a store that grows, and make forms of applications.
use Rattle.std.proofs.Common.{◌≡◌, ◌+◌, ◌<◌, ◌≤◌, Bool, IsTrue, [], ◌∷◌, length, sym, ap, ◌∙◌, arith}
use Rattle.std.proofs.lemmas.List.{length-append}
use Rattle.theory.specs.Terms.{Term, height}
use Rattle.theory.specs.Terms.Term.{App}
use Rattle.theory.specs.Spines.{head_of, spine_of}
use Rattle.kernel_reduce.proofs.SpineLengths.{spine_fits}
use Rattle.term_pool.specs.Held.{Held, Extends}
use Rattle.store_reduce.specs.Forms.{IsForm}
use Rattle.store_reduce.specs.declared.form.Form.{Form}

module _ {I : Type 0} where
  pub form-kept : (old new : Held I) (f : Form I) → Extends old new → IsForm old f → IsForm new f
  form-kept old new f e h =
      record {
        live = e.lives f.id h.live;
        head_live = e.lives f.head h.head_live;
        head = e.trees f.head h.head_live ∙ (h.head ∙ sym (ap head_of (e.trees f.id h.live)));
        count = h.count ∙ sym (ap (λ t. length (spine_of t)) (e.trees f.id h.live));
      }

  -- there are few arguments
  pub form-few : (held : Held I) (f : Form I) → IsForm held f → height (held.tree f.id) ≤ 2000 → f.count < 2147483648
  form-few held f h low = omega (arith, h.count, spine_fits (held.tree f.id))

  -- an application of a form
  pub form-applied : (held : Held I) (f : Form I) (a : Term) (id : I) (moved : Bool) → IsForm held f → IsTrue (held.live id) → held.tree id ≡ App (held.tree f.id) a
      → IsForm held (record { id = id; head = f.head; count = f.count + 1; moved = moved })
  form-applied held f a id moved h live is =
      record {
        live = live;
        head_live = h.head_live;
        head = h.head ∙ sym (ap head_of is);
        count = let n = length-append (spine_of (held.tree f.id)) (a ∷ []) in omega (arith, h.count, ap (λ t. length (spine_of t)) is, n);
      }

pub ruleset form_laws = (form-kept, form-few, form-applied)
