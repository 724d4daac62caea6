-- Terms that may be at a place, and fronts of their texts: each part that is missing is completed by `Type 0`.
use Rattle.std.proofs.Common.{◌≡◌, ℕ, ◌+◌, Bool, true, List, ◌++◌, sym, ap, ◌∙◌, subst, append_assoc}
use Rattle.std.specs.Prelude.{codes}
use Rattle.theory.specs.Terms.{Term, Sort, Pi, Lam, App, Let}
use Rattle.theory.specs.Signatures.{Signature}
use Rattle.core_text.specs.Reading.{Reading, and_then, after, past}
use Rattle.core_text.specs.TermText.{spelled, term_text}
use Rattle.core_text.proofs.Completions.{Meets, IsFront, front-less, meets-then, meets-after}
use Rattle.core_text.proofs.Over.{IsTermOver, over-sort, over-pi, over-lam, over-app, over-let}

-- the text of a term over n variables, written over T, with the symbols of S
abbrev pub IsText : Signature → Signature → Bool → ℕ → List ℕ → Type 0
IsText T S own n text = (t : Term) × (text ≡ term_text T t) × IsTermOver S own n t

-- such a term is read, whose text is at the front
abbrev pub ReadsTerm : Signature → Signature → Bool → ℕ → List ℕ → Term → List ℕ → Type 0
ReadsTerm T S own n rest t r = (rest ≡ term_text T t ++ r) × IsTermOver S own n t

module _ (T S : Signature) (own : Bool) where
  -- ---- fronts

  pub text-front : (n : ℕ) (t : Term) (front more : List ℕ) → IsTermOver S own n t → front ++ more ≡ term_text T t → IsFront (IsText T S own n) front
  text-front n t front more over is = (more, (t, is, over))

  pub lam-body-front : (n : ℕ) (a b : Term) → IsTermOver S own n a → IsTermOver S own (n + 1) b → IsFront (IsText T S own n) ((codes "(\\" ++ term_text T a) ++ (codes " . " ++ term_text T b))
  lam-body-front n a b f g =
      text-front n (Lam a b) ((codes "(\\" ++ term_text T a) ++ (codes " . " ++ term_text T b)) (codes ")") (over-lam S own n a b f g) (simp append_assoc)

  pub lam-front : (n : ℕ) (a : Term) → IsTermOver S own n a → IsFront (IsText T S own n) (codes "(\\" ++ term_text T a)
  lam-front n a f =
      front-less (IsText T S own n) (codes "(\\" ++ term_text T a) (codes " . " ++ term_text T (Sort 0))
      (lam-body-front n a (Sort 0) f (over-sort S own (n + 1)))

  pub pi-body-front : (n : ℕ) (a b : Term) → IsTermOver S own n a → IsTermOver S own (n + 1) b → IsFront (IsText T S own n) ((codes "(" ++ (term_text T a ++ codes " ")) ++ (codes "-> " ++ term_text T b))
  pi-body-front n a b f g =
      text-front n (Pi a b) ((codes "(" ++ (term_text T a ++ codes " ")) ++ (codes "-> " ++ term_text T b)) (codes ")") (over-pi S own n a b f g) (simp append_assoc)

  pub pi-front : (n : ℕ) (a : Term) → IsTermOver S own n a → IsFront (IsText T S own n) (codes "(" ++ (term_text T a ++ codes " "))
  pi-front n a f =
      front-less (IsText T S own n) (codes "(" ++ (term_text T a ++ codes " ")) (codes "-> " ++ term_text T (Sort 0))
      (pi-body-front n a (Sort 0) f (over-sort S own (n + 1)))

  pub app-front : (n : ℕ) (f a : Term) → IsTermOver S own n f → IsTermOver S own n a → IsFront (IsText T S own n) ((codes "(" ++ (spelled T true f ++ codes " ")) ++ term_text T a)
  app-front n f a g h =
      text-front n (App f a) ((codes "(" ++ (spelled T true f ++ codes " ")) ++ term_text T a) (codes ")") (over-app S own n f a g h) (simp append_assoc)

  let-text : (a t b : List ℕ) → (((codes "(let " ++ a) ++ (codes " = " ++ t)) ++ (codes " . " ++ b)) ++ codes ")" ≡ codes "(let " ++ (a ++ (codes " = " ++ (t ++ (codes " . " ++ (b ++ codes ")")))))
  let-text a t b =
      append_assoc ((codes "(let " ++ a) ++ (codes " = " ++ t)) (codes " . " ++ b) (codes ")")
      ∙ append_assoc (codes "(let " ++ a) (codes " = " ++ t) (codes " . " ++ (b ++ codes ")"))

  pub let-body-front : (n : ℕ) (a t b : Term) → IsTermOver S own n a → IsTermOver S own n t → IsTermOver S own (n + 1) b → IsFront (IsText T S own n) (((codes "(let " ++ term_text T a) ++ (codes " = " ++ term_text T t)) ++ (codes " . " ++ term_text T b))
  let-body-front n a t b f g h =
      text-front n (Let a t b) (((codes "(let " ++ term_text T a) ++ (codes " = " ++ term_text T t)) ++ (codes " . " ++ term_text T b)) (codes ")") (over-let S own n a t b f g h)
      (let-text (term_text T a) (term_text T t) (term_text T b) ∙ simp append_assoc)

  pub let-value-front : (n : ℕ) (a t : Term) → IsTermOver S own n a → IsTermOver S own n t → IsFront (IsText T S own n) ((codes "(let " ++ term_text T a) ++ (codes " = " ++ term_text T t))
  let-value-front n a t f g =
      front-less (IsText T S own n) ((codes "(let " ++ term_text T a) ++ (codes " = " ++ term_text T t)) (codes " . " ++ term_text T (Sort 0))
      (let-body-front n a t (Sort 0) f g (over-sort S own (n + 1)))

  pub let-front : (n : ℕ) (a : Term) → IsTermOver S own n a → IsFront (IsText T S own n) (codes "(let " ++ term_text T a)
  let-front n a f =
      front-less (IsText T S own n) (codes "(let " ++ term_text T a) (codes " = " ++ term_text T (Sort 0)) (let-value-front n a (Sort 0) f (over-sort S own n))

  -- ---- a term that is read, and then more

  -- A term is read after a text, and then more; that text and any such term are a front.
  pub then-term : {B : Type 0} (Q : B → List ℕ → Type 0) (V : List ℕ → Type 0) (n : ℕ) (text rest whole : List ℕ) (m : Reading Term) (next : Term → List ℕ → Reading B) → whole ≡ text ++ rest → ((t : Term) → IsTermOver S own n t → IsFront V (text ++ term_text T t)) → Meets (ReadsTerm T S own n rest) (IsText T S own n) rest m → ((t : Term) (r : List ℕ) → rest ≡ term_text T t ++ r → IsTermOver S own n t → Meets Q V whole (next t r)) → Meets Q V whole (and_then m next)
  then-term Q V n text rest whole m next at over h k =
      meets-then (ReadsTerm T S own n rest) Q (IsText T S own n) V text rest whole m next at
      (λ x u. subst (λ y. IsFront V (text ++ y)) (sym u.1) (over u.0 u.2)) h (λ t r so. k t r so.0 so.1)

  -- A term is read after the word that comes after a text, and then more; text, word and any such term are a front.
  pub after-term : {B : Type 0} (Q : B → List ℕ → Type 0) (V : List ℕ → Type 0) (n : ℕ) (text word rest whole : List ℕ) (inner : List ℕ → Reading Term) (next : Term → List ℕ → Reading B) → whole ≡ text ++ rest → ((t : Term) → IsTermOver S own n t → IsFront V (text ++ (word ++ term_text T t))) → ((r : List ℕ) → Meets (ReadsTerm T S own n r) (IsText T S own n) r (inner r)) → ((t : Term) (r : List ℕ) → rest ≡ word ++ (term_text T t ++ r) → IsTermOver S own n t → Meets Q V whole (next t r)) → Meets Q V whole (and_then (after (past word rest) inner) next)
  after-term Q V n text word rest whole inner next at over reads k =
      meets-after (ReadsTerm T S own n) Q (IsText T S own n) V text word rest whole inner next at
      (front-less V (text ++ word) (term_text T (Sort 0)) (subst (IsFront V) (sym (append_assoc text word (term_text T (Sort 0)))) (over (Sort 0) (over-sort S own n))))
      (λ x u. subst (λ y. IsFront V (text ++ (word ++ y))) (sym u.1) (over u.0 u.2)) reads
      (λ t r s is so. k t s (is ∙ ap (λ y. word ++ y) so.0) so.1)
