-- The type of a candidate is the closed equation type: numbering anew leaves terms alone that are over the entries before.
use Rattle.std.proofs.Common.{◌≡◌, ◌<◌, subst as transport, sym, refl, ap, ap₂, ◌∙◌, ℕ, ◌+◌, List, [], ◌∷◌, length, Result, Ok, Err, IfOk}
use Rattle.std.proofs.lemmas.Option.{slice_get_within}
use Rattle.theory.specs.Terms.{Term, Var, Sort, Pi, Lam, App, Let, Const, Fam, Con, Elim, AxiomK}
use Rattle.theory.specs.Telescopes.{Telescope, products, functions}
use Rattle.theory.specs.Signatures.{Signature, Entry, Definition, FamilyOf, EliminatorAt, AxiomKAt, IsEntryAt, equation}
use Rattle.theory.specs.SignatureScopes.{HasEntries, IsScopedTelescope}
use Rattle.theory.proofs.Lists.{slice_get-last}
use Rattle.core_terms.proofs.Answers.{Answers, and_next-has}
use Rattle.core_sig.specs.Drafts.{Draft}
use Rattle.core_sig.specs.Settling.{renumbered, renumbered_entry, settled_number}
use Rattle.family_check.specs.Entering.{Entered, define_of, check_definition, are_new}
use Rattle.family_check.specs.Asking.{sort_in, type_in}
use Rattle.family_check.specs.Outcomes.{OfType, OfBody}
use Rattle.family_check.proofs.Outcomes.{if_new-has}
use Rattle.unification.proofs.Cases.{first-of_two}
use Rattle.tree_translation.specs.Naming.{Naming, number_among, number_in, with_names}
use Rattle.tree_translation.specs.Plans.{Plan}
use Rattle.tree_translation.proofs.Drafting.{in_order-is, places_of, IsInOrder}
use Rattle.clause_reports.specs.DraftEntering.{enter_entry}
use Rattle.clause_reports.specs.Equations.{Equation, part_at, closed_type}
use Rattle.clause_reports.specs.Laws.{IsOver}
use Rattle.clause_reports.specs.ProofTerms.{candidate, proof_name, proof_names, proof_term}
use Rattle.clause_reports.specs.ProofWalks.{Proof}
use Rattle.clause_reports.specs.Stops.{ReportStop}
use Rattle.clause_reports.proofs.Keeping.{Grows, GrowsTo, grows_on, enter_entry-grows, Any, any, rejected-has}

-- ---- numbering anew

-- numbers of entries that are there stay
abbrev Fixes : Signature → (ℕ → ℕ) → Type 0
Fixes S r = (c : ℕ) → c < length S.entries → r c ≡ c

fixed : (S : Signature) (r : ℕ → ℕ) → Fixes S r → (t : Term) → HasEntries S t → renumbered r t ≡ t
fixed S r k (Pi a b) h = ap₂ Pi (fixed S r k a h.0) (fixed S r k b h.1)
fixed S r k (Lam a b) h = ap₂ Lam (fixed S r k a h.0) (fixed S r k b h.1)
fixed S r k (App f a) h = ap₂ App (fixed S r k f h.0) (fixed S r k a h.1)
fixed S r k (Let a t b) h =
    let e = fixed S r k a h.0 in let f = fixed S r k t h.1 in let g = fixed S r k b h.2 in cc
fixed S r k (Const c) h = ap Const (k c (slice_get_within S.entries c (Definition h.0 h.1 h.2) h.3))
fixed S r k (Var n) h = refl
fixed S r k (Sort i) h = refl
fixed S r k (Fam n) h = refl
fixed S r k (Con n c) h = refl
fixed S r k (Elim n m) h = refl
fixed S r k (AxiomK i m) h = refl

products-fixed : (S : Signature) (r : ℕ → ℕ) → Fixes S r → (n : ℕ) (tele : Telescope) (goal : Term) → IsScopedTelescope S n tele
    → renumbered r goal ≡ goal → renumbered r (products tele goal) ≡ products tele goal
products-fixed S r k n [] goal h g = g
products-fixed S r k n (a ∷ tele) goal h g = ap₂ Pi (fixed S r k a h.0.entries) (products-fixed S r k (n + 1) tele goal h.1 g)

closed-fixed : (S : Signature) (r : ℕ → ℕ) → Fixes S r → (L : ℕ) (e : Equation) → IsOver S e → renumbered r (closed_type L e) ≡ closed_type L e
closed-fixed S r k L e over =
    products-fixed S r k 0 e.context (equation L e.type e.left e.right) over.context
    (ap₂ App (ap₂ App (ap₂ App refl (fixed S r k e.type over.type.entries)) (fixed S r k e.left over.left.entries)) (fixed S r k e.right over.right.entries))

among-fixes : (S : Signature) (places : List ℕ) → Fixes S (number_among (length S.entries) places)
among-fixes S places c lt = first-of_two c (length S.entries) c _ lt

settled-fixes : (S T : Signature) (base : ℕ) (names : List (List ℕ)) → base ≡ length S.entries → Fixes S (settled_number T base names)
settled-fixes S T base names is c lt = first-of_two c base c _ (transport (λ b. c < b) (sym is) lt)

-- ---- the entry

abbrev IsThere : Entry → Entered → Type 0
IsThere e x = IsEntryAt x.signature x.number e

define-there : (S : Signature) (name : List ℕ) (type body : Term) (left : ℕ) → IfOk (define_of S name type body left).0 (IsThere (Definition name type body))
define-there S name type body left =
    if_new-has (IsThere (Definition name type body)) (are_new S (name ∷ [])) (check_definition S name type body) left (λ test.
    and_next-has Any (IsThere (Definition name type body)) (sort_in S OfType [] type left) _ (any (sort_in S OfType [] type left).0) (λ sort rest u.
    and_next-has Any (IsThere (Definition name type body)) (type_in S OfBody [] body type rest) _ (any (type_in S OfBody [] body type rest).0) (λ found end v.
    slice_get-last S.entries (Definition name type body))))

pub enter_entry-there : (S : Signature) (e : Entry) (left : ℕ) → Answers (IsThere e) (enter_entry S e left)
enter_entry-there S (Definition name type body) left =
    rejected-has (IsThere (Definition name type body)) S (Definition name type body) (define_of S name type body left).0 (define-there S name type body left)
enter_entry-there S (FamilyOf f) left = tt
enter_entry-there S (EliminatorAt n m) left = tt
enter_entry-there S (AxiomKAt i m) left = tt

-- ---- the candidate

-- entry n of T is a definition of the closed equation type, where the equation is over S
pub record IsProved (S : Signature) (plan : Plan) (part clause : ℕ) (answer : Equation → Type 0) (T : Signature) (n : ℕ) : Type 0 where
  pub equation : Equation
  pub is : answer equation
  pub body : Term
  pub entry : IsOver S equation → IsEntryAt T n (Definition (proof_name plan part clause) (closed_type (part_at plan part).level equation) body)
  pub grows : Grows S T

pub candidate-enters : (S : Signature) (plan : Plan) (k clause : ℕ) (answer : Equation → Type 0) (e : Equation) → answer e → (proof : Proof) (d : Draft)
    → candidate S plan k clause e proof ≡ Ok d → (T : Signature) → Grows S T → (left : ℕ)
    → Answers (λ x. IsProved S plan k clause answer x.signature x.number) (enter_entry T (renumbered_entry (settled_number T d.base d.names) d.entry) left)
candidate-enters S plan k clause answer e is proof d h T g left =
    by (enter_entry T (renumbered_entry r d.entry) left).0 (enter_entry-grows T (renumbered_entry r d.entry) left) (enter_entry-there T (renumbered_entry r d.entry) left)
  where
    L : ℕ
    L = (part_at plan k).level

    r : ℕ → ℕ
    r = settled_number T d.base d.names

    type : Term
    type = closed_type L e

    term : Naming → Term
    term number = functions e.context (proof_term S number L proof)

    places : List ℕ
    places = places_of (length S.entries) type (term (number_in (length S.entries) (with_names [] (proof_names S L proof))))

    made : IsInOrder (proof_name plan k clause) (length S.entries) (proof_names S L proof) (λ number. type) term d
    made = in_order-is (proof_name plan k clause) (length S.entries) (proof_names S L proof) (λ number. type) term d h

    body : Term
    body = renumbered r (renumbered (number_among (length S.entries) places) (term (number_in (length S.entries) (with_names [] (proof_names S L proof)))))

    whole : IsOver S e → renumbered_entry r d.entry ≡ Definition (proof_name plan k clause) (closed_type L e) body
    whole over =
        ap (renumbered_entry r) made.entry
        ∙ ap (λ t. Definition (proof_name plan k clause) t body)
        (ap (renumbered r) (closed-fixed S (number_among (length S.entries) places) (among-fixes S places) L e over)
        ∙ closed-fixed S r (settled-fixes S T d.base d.names made.same_base) L e over)

    by : (x : Result Entered ReportStop) → IfOk x (GrowsTo T) → IfOk x (IsThere (renumbered_entry r d.entry))
        → IfOk x (λ x. IsProved S plan k clause answer x.signature x.number)
    by (Ok x) grows there = record {
      equation = e;
      is = is;
      body = body;
      entry = λ over. transport (λ entry. IsEntryAt x.signature x.number entry) (whole over) there;
      grows = grows_on S T x.signature g grows;
    }
    by (Err stop) grows there = tt
