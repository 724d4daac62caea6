-- How a draft enters a signature: first what it mentions and the signature lacks, from the left in its type and then in its term, each
-- in the same way, and then the draft itself.
use Rattle.std.specs.Prelude.{ℕ, zero, suc, ◌-◌, Bool, true, false, nat_lt, cond, Option, Some, None, List, [], ◌∷◌, ◌++◌, length, flat_map, get_or, Ok, Err}
use Rattle.theory.specs.Terms.{Term, Pi, Lam, App, Let, Const, Elim, AxiomK}
use Rattle.theory.specs.Families.{Family}
use Rattle.theory.specs.Signatures.{Signature, Entry, EliminatorAt, AxiomKAt, Definition}
use Rattle.core_terms.specs.Answers.{and_next}
use Rattle.core_terms.specs.declared.stop.Stop.TheVariants.{Deep}
use Rattle.core_sig.specs.Drafts.{Draft}
use Rattle.core_sig.specs.Names.{find}
use Rattle.core_sig.specs.Settling.{renumbered_entry, settled_number}
use Rattle.kernel_reduce.specs.Entries.{family_at}
use Rattle.family_check.specs.Entering.{Entered, instance_of, axiom_k_of, define_of}
use Rattle.tree_translation.specs.Needed.{entry_terms, is_found}
use Rattle.clause_reports.specs.Generated.{Generated, generated_by, generated_draft}
use Rattle.clause_reports.specs.Stops.{Reporting, Halts, answers, or_halts, entering}

-- ---- mentions

-- the eliminator of family n into Type m, the axiom K of Eq.i into Type m, or the name of a generated entry
pub data Mention : Type 0 where
  Eliminates : (n m : ℕ) → Mention
  AssumesK : (i m : ℕ) → Mention
  Names : (name : List ℕ) → Mention

-- the mentions in a term over `base` entries and names, from the left
abbrev pub mentions_in : (base : ℕ) (names : List (List ℕ)) → Term → List Mention
mentions_in base names (Pi a b) = mentions_in base names a ++ mentions_in base names b
mentions_in base names (Lam a b) = mentions_in base names a ++ mentions_in base names b
mentions_in base names (App f a) = mentions_in base names f ++ mentions_in base names a
mentions_in base names (Let a t b) = mentions_in base names a ++ (mentions_in base names t ++ mentions_in base names b)
mentions_in base names (Const c) = cond (nat_lt c base) [] (Names (get_or names (c - base) []) ∷ [])
mentions_in base names (Elim n m) = Eliminates n m ∷ []
mentions_in base names (AxiomK i m) = AssumesK i m ∷ []
mentions_in base names _ = []

-- the mentions in a draft's type and then in its term
abbrev pub mentioned : Draft → List Mention
mentioned d = flat_map (mentions_in d.base d.names) (entry_terms d.entry)

-- ---- entering

-- how a draft enters: its number and the signature that has it
abbrev pub Entering : Type 0
Entering = Signature → Draft → ℕ → Reporting Entered

-- the signature that has an entry
abbrev pub with_entry : Reporting Entered → Reporting Signature
with_entry outcome = and_next outcome (λ e rest. answers (Ok e.signature) rest)

-- An instance that the signature already has gives its number. K enters only if it is on.
abbrev pub enter_eliminator : Signature → (n m : ℕ) → Option Family → ℕ → Reporting Signature
enter_eliminator S n m None left = answers (Ok S) left
enter_eliminator S n m (Some f) left = with_entry (entering S (EliminatorAt n m) (instance_of S n f m left))

abbrev pub enter_axiom_k : Signature → (i m : ℕ) → (on : Bool) → ℕ → Reporting Signature
enter_axiom_k S i m true left = with_entry (entering S (AxiomKAt i m) (axiom_k_of S i m left))
enter_axiom_k S i m false left = answers (Err (Halts Deep)) left

-- a generated entry; if no entry is generated under a name, the name is one of the signature
abbrev pub enter_generated : Entering → Signature → Option Generated → ℕ → Reporting Signature
enter_generated enter S None left = answers (Ok S) left
enter_generated enter S (Some g) left =
    and_next (answers (or_halts (generated_draft (length S.entries) g)) left) (λ d rest. with_entry (enter S d rest))

abbrev pub enter_mention : Entering → Signature → Mention → ℕ → Reporting Signature
enter_mention enter S (Eliminates n m) left = enter_eliminator S n m (family_at S n) left
enter_mention enter S (AssumesK i m) left = enter_axiom_k S i m S.has_k left
enter_mention enter S (Names name) left =
    cond (is_found (find S name)) (answers (Ok S) left) (enter_generated enter S (generated_by S name) left)

-- each in turn, over the signature that has those before it
abbrev pub enter_all : Entering → Signature → List Mention → ℕ → Reporting Signature
enter_all enter S [] left = answers (Ok S) left
enter_all enter S (m ∷ mentions) left = and_next (enter_mention enter S m left) (λ T rest. enter_all enter T mentions rest)

-- a definition by its numbers in the signature
abbrev pub enter_entry : Signature → Entry → ℕ → Reporting Entered
enter_entry S (Definition name type body) left =
    entering S (Definition name type body) (define_of S name type body left)
enter_entry S e left = answers (Err (Halts Deep)) left

-- the entries that the draft mentions, and then the draft, with the numbers that its names have
abbrev pub enter_with : Entering → Entering
enter_with enter S d left =
    and_next (enter_all enter S (mentioned d) left) (λ T rest.
    enter_entry T (renumbered_entry (settled_number T d.base d.names) d.entry) rest)

-- Generated entries mention others: `D!acyclic` mentions `D!noconf.c.0`, that `D!nct.c.0`, that `D!case.1`, and that instances alone.
-- No chain is longer.
abbrev pub longest_chain : ℕ
longest_chain = 3

abbrev pub enter_chain : (chain : ℕ) → Entering
enter_chain zero S d left = enter_with (λ T other rest. answers (Err (Halts Deep)) rest) S d left
enter_chain (suc chain) S d left = enter_with (enter_chain chain) S d left

-- a generated entry, after all that it needs
abbrev pub enter_needed : Entering
enter_needed S d left = enter_chain longest_chain S d left

-- The draft enters, after all that it needs.
abbrev pub enter_draft_of : Entering
enter_draft_of S d left = enter_with enter_needed S d left
