-- The names of the entries that a function adds hold no line feed, and so the lines of a rejected entry hold none.
use Rattle.std.proofs.Common.{◌≡◌, ℕ, zero, suc, Bool, true, false, cond, List, [], ◌∷◌, ◌++◌, length, map, codes, Option, Some, None, Result, Ok, Err, IfOk, refl, sym, ap, subst, ◌∙◌}
use Rattle.std.specs.Prelude.{get_or, position, nat_lt, ◌&&◌, slice_get, decimal}
use Rattle.theory.specs.Terms.{Term, top}
use Rattle.theory.specs.Families.{Constructor, Family}
use Rattle.theory.specs.Eliminators.{eliminator_type}
use Rattle.theory.specs.PreludeFamilies.{level_text}
use Rattle.theory.specs.Signatures.{Entry, FamilyOf, EliminatorAt, AxiomKAt, Definition, Signature, IsEntryAt, names_of, axiom_k_type}
use Rattle.theory.proofs.Lists.{some_is}
use Rattle.core_terms.specs.Verdicts.{Denial}
use Rattle.core_terms.specs.declared.stop.Stop.{Stop}
use Rattle.core_terms.specs.declared.stop.Stop.TheVariants.{Deep}
use Rattle.core_terms.proofs.Answers.{Splits, and_next-splits}
use Rattle.core_sig.specs.Drafts.{Draft, generated_name}
use Rattle.core_sig.specs.Instances.{is_eliminator, is_axiom_k}
use Rattle.core_sig.specs.Names.{find}
use Rattle.core_sig.specs.Settling.{renumbered_entry, settled_number}
use Rattle.core_text.specs.Lines.{is_in_line, AreInLine}
use Rattle.core_text.specs.SymbolNames.{name_at}
use Rattle.core_text.proofs.Feeds.{both, decimal-in, text-in}
use Rattle.family_check.specs.Entering.{Entered, enter_instance, unless_there, instance_of, axiom_k_of, define_of, entered}
use Rattle.family_check.specs.Outcomes.{FamilyStop}
use Rattle.family_check.specs.Outcomes as family
use Rattle.kernel_reduce.specs.Entries.{family_at}
use Rattle.generators.specs.noconf_gen.NoConfusionTypes.{constructor_mark, constructor_name}
use Rattle.tree_translation.specs.Needed.{is_found}
use Rattle.clause_reports.specs.DraftEntering.{Mention, Eliminates, AssumesK, Names, Entering, mentioned, with_entry, enter_eliminator, enter_axiom_k, enter_generated, enter_mention, enter_all, enter_entry, enter_with, enter_chain, longest_chain, enter_needed, enter_draft_of}
use Rattle.clause_reports.specs.Generated as gen
use Rattle.clause_reports.specs.Generated.{Generated, name_of, generated_by, generated_draft}
use Rattle.clause_reports.specs.Stops.{entry_name, Rejection, ReportStop, Halts, Stuck, Rejected, Reporting, answers, or_halts, rejection, not_entered, or_rejected, entering}
use Rattle.drafts.specs.draft_entering.Conditions.{IsDefinition}
use Rattle.drafts.specs.draft_entering.Depths.{entry_own_name}
use Rattle.drafts.specs.draft_entering.Tables.{IsListed, names_by, IsMadeOf}
use Rattle.drafts.proofs.draft_entering.TableLookups.{found-listed, generated-made}
use Rattle.elab_session.proofs.Adding.{define-enters, instance-enters}
use Rattle.elim.proofs.program_texts.SessionInLine.{NamesIn, has-names, each-last, context-in, reason-in, level-in}
use Rattle.surface_syntax.specs.word_laws.Words.{Each}

abbrev pub EntryIn : Entry → Type 0
EntryIn e = AreInLine (names_of e)

abbrev pub IsIn : List ℕ → Type 0
IsIn text = is_in_line text ≡ true

-- ---- entries that the checker rejects

pub record RejectionIn (r : Rejection) : Type 0 where
  pub entry : IsIn r.entry
  pub line : IsIn r.line
  pub context : IsIn r.context
  pub reason : IsIn r.reason

abbrev pub ReportIn : ReportStop → Type 0
ReportIn (Rejected r) = RejectionIn r
ReportIn (Halts e) = Unit {0}
ReportIn (Stuck context u v why) = Unit {0}

-- a signature with names in line, or a refusal that is written in line
abbrev pub NamesAfter : Entered → Type 0
NamesAfter e = NamesIn e.signature

abbrev pub Enters : Reporting Entered → Type 0
Enters r = Splits NamesAfter ReportIn r.0

abbrev pub Grows : Reporting Signature → Type 0
Grows r = Splits NamesIn ReportIn r.0

named-in : (S : Signature) → NamesIn S → (e : Entry) → EntryIn e → IsIn (entry_name S e)
named-in S names (FamilyOf f) h = h.0
named-in S names (EliminatorAt n m) h =
    both (name_at S n ++ codes "!elim.") (decimal m) (both (name_at S n) (codes "!elim.") ((has-names S names).entries n) refl) (decimal-in m)
named-in S names (AxiomKAt i m) h = both (decimal i ++ codes "!k.") (decimal m) (both (decimal i) (codes "!k.") (decimal-in i) refl) (decimal-in m)
named-in S names (Definition name type body) h = h.0

rejection-in : (S : Signature) → NamesIn S → (e : Entry) → EntryIn e → (d : Denial) → RejectionIn (rejection S e d)
rejection-in S names e h d = record {
  entry = named-in S names e h;
  line = text-in S (has-names S names) (length S.entries) e h;
  context = context-in S names d.ctx;
  reason = reason-in S names d.reason;
}

denied-in : (S : Signature) → NamesIn S → (e : Entry) → EntryIn e → (cause : FamilyStop) → ReportIn (not_entered S e cause)
denied-in S names e h (family.Stopped stop) = tt
denied-in S names e h (family.Denied site d) = rejection-in S names e h d
denied-in S names e h (family.NotPositive n k) = tt
denied-in S names e h (family.TooLarge owner k) = tt
denied-in S names e h family.BadFamily = tt
denied-in S names e h family.Duplicate = tt

entering-in : (S : Signature) → NamesIn S → (e : Entry) → EntryIn e → (r : Result Entered FamilyStop) → IfOk r NamesAfter → Splits NamesAfter ReportIn (or_rejected S e r)
entering-in S names e h (Ok a) k = k
entering-in S names e h (Err cause) k = denied-in S names e h cause

pushed-in : (S : Signature) → NamesIn S → (e : Entry) → EntryIn e → (x : Entered) → x ≡ entered S e → NamesAfter x
pushed-in S names e h x is = subst NamesAfter (sym is) (each-last EntryIn S.entries e names h)

pub if-ok : {A E : Type 0} (P Q : A → Type 0) (r : Result A E) → ((a : A) → P a → Q a) → IfOk r P → IfOk r Q
if-ok P Q (Ok a) f h = f a h
if-ok P Q (Err e) f h = tt

instance-in : (S : Signature) → NamesIn S → (e : Entry) → EntryIn e → (fits : Bool) (type : Term) (there : Option ℕ) (left : ℕ)
    → IfOk (unless_there S there (enter_instance S e fits type) left).0 NamesAfter
instance-in S names e h fits type (Some n) left = names
instance-in S names e h fits type None left =
    if-ok (λ x. x ≡ entered S e) NamesAfter (enter_instance S e fits type left).0 (λ x is. pushed-in S names e h x is) (instance-enters S e fits type left)

enter_entry-in : (S : Signature) → NamesIn S → (e : Entry) → EntryIn e → (left : ℕ) → Enters (enter_entry S e left)
enter_entry-in S names (Definition name type body) h left =
    entering-in S names (Definition name type body) h (define_of S name type body left).0
    (if-ok (λ x. x ≡ entered S (Definition name type body)) NamesAfter (define_of S name type body left).0
    (λ x is. pushed-in S names (Definition name type body) h x is) (define-enters S name type body left))
enter_entry-in S names (FamilyOf f) h left = tt
enter_entry-in S names (EliminatorAt n m) h left = tt
enter_entry-in S names (AxiomKAt i m) h left = tt

-- ---- generated names

text-level : (m : ℕ) → IsIn (level_text m)
text-level m = level-in m

generated-in : (family mark : List ℕ) (m : ℕ) → IsIn family → IsIn mark → IsIn (generated_name family mark m)
generated-in family mark m h k = both (family ++ mark) (level_text m) (both family mark h k) (text-level m)

constructor-in : (cs : List Constructor) (number : ℕ) → AreInLine (map (λ c. c.name) cs) → IsIn (get_or (map (λ c. c.name) cs) number [])
constructor-in [] number h = refl
constructor-in (c ∷ cs) zero h = h.0
constructor-in (c ∷ cs) (suc number) h = constructor-in cs number h.1

marked-in : (mark : List ℕ) (f : Family) (number : ℕ) → IsIn mark → EntryIn (FamilyOf f) → IsIn (constructor_mark mark (constructor_name f number))
marked-in mark f number k h =
    both (mark ++ constructor_name f number) (codes ".") (both mark (constructor_name f number) k (constructor-in f.constructors number h.1)) refl

entry-at : (es : List Entry) (n : ℕ) (e : Entry) → Each EntryIn es → slice_get es n ≡ Some e → EntryIn e
entry-at [] n e h at = cc
entry-at (x ∷ es) zero e h at = subst EntryIn (some_is at) h.0
entry-at (x ∷ es) (suc n) e h at = entry-at es n e h.1 at

family-in : (S : Signature) → NamesIn S → (n : ℕ) (f : Family) → IsEntryAt S n (FamilyOf f) → EntryIn (FamilyOf f)
family-in S names n f at = entry-at S.entries n (FamilyOf f) names at

listed-in : (S : Signature) → NamesIn S → (g : Generated) → IsListed S g → IsIn (name_of g)
listed-in S names (gen.Case n f m) h = generated-in f.name (codes "!case.") m (family-in S names n f h.0).0 refl
listed-in S names (gen.Below n f m) h = generated-in f.name (codes "!below.") m (family-in S names n f h.0).0 refl
listed-in S names (gen.Aux n f m) h = generated-in f.name (codes "!aux.") m (family-in S names n f h.0).0 refl
listed-in S names (gen.Rec n f m) h = generated-in f.name (codes "!rec.") m (family-in S names n f h.0).0 refl
listed-in S names (gen.All n f m) h = generated-in f.name (codes "!all.") m (family-in S names n f h.0).0 refl
listed-in S names (gen.ConfusionType n f number m) h =
    let k = family-in S names n f h.0 in generated-in f.name (constructor_mark (codes "!nct.") (constructor_name f number)) m k.0 (marked-in (codes "!nct.") f number refl k)
listed-in S names (gen.NoConfusion n f number m) h =
    let k = family-in S names n f h.0 in generated-in f.name (constructor_mark (codes "!noconf.") (constructor_name f number)) m k.0 (marked-in (codes "!noconf.") f number refl k)
listed-in S names (gen.Direct n f) h = both f.name (codes "!direct") (family-in S names n f h).0 refl
listed-in S names (gen.Acyclic n f) h = both f.name (codes "!acyclic") (family-in S names n f h).0 refl
listed-in S names (gen.Left i m) h =
    generated-in (codes "Eq." ++ level_text i) (codes "!left.") m (both (codes "Eq.") (level_text i) refl (text-level i)) refl

-- ---- drafts

-- the draft's own name
abbrev pub DraftIn : Draft → Type 0
DraftIn d = EntryIn d.entry

made-in : (e : Entry) (name : List ℕ) (names : List (List ℕ)) (d : Draft) → d.entry ≡ e → IsMadeOf name names d → IsIn name → EntryIn e
made-in (Definition own type body) name names d is made h =
    let e : own ≡ name = sym (ap entry_own_name is) ∙ made.own in (subst IsIn (sym e) h, tt)
made-in (FamilyOf f) name names d is made h = absurd (subst IsDefinition is made.definition)
made-in (EliminatorAt n m) name names d is made h = absurd (subst IsDefinition is made.definition)
made-in (AxiomKAt i m) name names d is made h = absurd (subst IsDefinition is made.definition)

generated-draft-in : (S : Signature) → NamesIn S → (name : List ℕ) (g : Generated) → generated_by S name ≡ Some g → (base : ℕ) → IfOk (generated_draft base g) DraftIn
generated-draft-in S names name g is base =
    if-ok (IsMadeOf (name_of g) (names_by g)) DraftIn (generated_draft base g)
    (λ d made. made-in d.entry (name_of g) (names_by g) d refl made (listed-in S names g (found-listed S name g is).listed)) (generated-made base g)

abbrev pub AllIn : Entering → Type 0
AllIn enter = (S : Signature) (d : Draft) (left : ℕ) → NamesIn S → DraftIn d → Enters (enter S d left)

with_entry-in : (outcome : Reporting Entered) → Enters outcome → Grows (with_entry outcome)
with_entry-in outcome h = and_next-splits NamesAfter NamesIn ReportIn outcome _ h (λ e rest k. k)

drafted-in : (P : Draft → Type 0) (r : Result Draft Stop) → IfOk r P → Splits P ReportIn (or_halts r)
drafted-in P (Ok d) h = h
drafted-in P (Err e) h = tt

enter_generated-in : (enter : Entering) → AllIn enter → (S : Signature) → NamesIn S → (g : Option Generated) → ((h : Generated) → g ≡ Some h → IfOk (generated_draft (length S.entries) h) DraftIn)
    → (left : ℕ) → Grows (enter_generated enter S g left)
enter_generated-in enter all S names None made left = names
enter_generated-in enter all S names (Some g) made left =
    and_next-splits DraftIn NamesIn ReportIn (or_halts (generated_draft (length S.entries) g), left) _
    (drafted-in DraftIn (generated_draft (length S.entries) g) (made g refl))
    (λ d rest k. with_entry-in (enter S d rest) (all S d rest names k))

enter_eliminator-in : (S : Signature) → NamesIn S → (n m : ℕ) (f : Option Family) (left : ℕ) → Grows (enter_eliminator S n m f left)
enter_eliminator-in S names n m None left = names
enter_eliminator-in S names n m (Some f) left =
    with_entry-in (entering S (EliminatorAt n m) (instance_of S n f m left))
    (entering-in S names (EliminatorAt n m) tt (instance_of S n f m left).0
    (instance-in S names (EliminatorAt n m) tt (nat_lt m top) (eliminator_type n f m) (position (is_eliminator n m) S.entries) left))

enter_axiom_k-in : (S : Signature) → NamesIn S → (i m : ℕ) (on : Bool) (left : ℕ) → Grows (enter_axiom_k S i m on left)
enter_axiom_k-in S names i m true left =
    with_entry-in (entering S (AxiomKAt i m) (axiom_k_of S i m left))
    (entering-in S names (AxiomKAt i m) tt (axiom_k_of S i m left).0
    (instance-in S names (AxiomKAt i m) tt (nat_lt i top && nat_lt m top) (axiom_k_type i m) (position (is_axiom_k i m) S.entries) left))
enter_axiom_k-in S names i m false left = tt

pub enter_mention-in : (enter : Entering) → AllIn enter → (S : Signature) → NamesIn S → (m : Mention) (left : ℕ) → Grows (enter_mention enter S m left)
enter_mention-in enter all S names (Eliminates n m) left = enter_eliminator-in S names n m (family_at S n) left
enter_mention-in enter all S names (AssumesK i m) left = enter_axiom_k-in S names i m S.has_k left
enter_mention-in enter all S names (Names name) left = by (is_found (find S name))
  where
    by : (there : Bool) → Grows (cond there (Ok S, left) (enter_generated enter S (generated_by S name) left))
    by true = names
    by false = enter_generated-in enter all S names (generated_by S name) (λ h is. generated-draft-in S names name h is (length S.entries)) left

pub enter_all-in : (enter : Entering) → AllIn enter → (S : Signature) → NamesIn S → (mentions : List Mention) (left : ℕ) → Grows (enter_all enter S mentions left)
enter_all-in enter all S names [] left = names
enter_all-in enter all S names (m ∷ mentions) left =
    and_next-splits NamesIn NamesIn ReportIn (enter_mention enter S m left) _ (enter_mention-in enter all S names m left)
    (λ T rest h. enter_all-in enter all T h mentions rest)

-- numbers change no name
renumbered-in : (r : ℕ → ℕ) (e : Entry) (S : Signature) (left : ℕ) → NamesIn S → EntryIn e → Enters (enter_entry S (renumbered_entry r e) left)
renumbered-in r (Definition name type body) S left names h = enter_entry-in S names (renumbered_entry r (Definition name type body)) h left
renumbered-in r (FamilyOf f) S left names h = tt
renumbered-in r (EliminatorAt n m) S left names h = tt
renumbered-in r (AxiomKAt i m) S left names h = tt

pub settled-in : (S : Signature) → NamesIn S → (d : Draft) → DraftIn d → (left : ℕ) → Enters (enter_entry S (renumbered_entry (settled_number S d.base d.names) d.entry) left)
settled-in S names d h left = renumbered-in (settled_number S d.base d.names) d.entry S left names h

enter_with-in : (enter : Entering) → AllIn enter → AllIn (enter_with enter)
enter_with-in enter all S d left names h =
    and_next-splits NamesIn NamesAfter ReportIn (enter_all enter S (mentioned d) left) _ (enter_all-in enter all S names (mentioned d) left)
    (λ T rest k. settled-in T k d h rest)

enter_chain-in : (chain : ℕ) → AllIn (enter_chain chain)
enter_chain-in zero S d left names h = enter_with-in (λ T other rest. answers (Err (Halts Deep)) rest) (λ T other rest k l. tt) S d left names h
enter_chain-in (suc chain) S d left names h = enter_with-in (enter_chain chain) (enter_chain-in chain) S d left names h

pub enter_needed-in : AllIn enter_needed
enter_needed-in S d left names h = enter_chain-in longest_chain S d left names h

pub enter_draft-in : AllIn enter_draft_of
enter_draft-in S d left names h = enter_with-in enter_needed enter_needed-in S d left names h
