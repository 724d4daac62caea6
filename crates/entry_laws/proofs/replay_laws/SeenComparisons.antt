-- The comparison that a step by injectivity or conflict makes, over the context that is seen and over the whole one.
use Rattle.std.proofs.Common.{◌≡◌, ℕ, ◌+◌, ◌-◌, Some, List, ◌++◌, length, map, take, refl, ap, ap₂, ◌∙◌, arith}
use Rattle.std.proofs.lemmas.List.{map-append}
use Rattle.theory.specs.Terms.{Term, Fam}
use Rattle.theory.specs.Families.{Family}
use Rattle.theory.specs.Signatures.{Signature}
use Rattle.theory.specs.Substitutions.{inst}
use Rattle.theory.specs.Telescopes.{applied, variables}
use Rattle.theory.proofs.Instantiation.{inst-applied}
use Rattle.core_terms.specs.CaseTrees.{Step}
use Rattle.core_terms.specs.declared.case_tree.Rule.{Rule}
use Rattle.tele_eq.proofs.Carrying.{ups_by}
use Rattle.unification.specs.Built.{Built, term_of}
use Rattle.unification.specs.Injecting.{lifted}
use Rattle.unification.specs.Paths.{IsBuilt}
use Rattle.unification.specs.Rules.{IsGroup}
use Rattle.unification.specs.States.{State, right_sides}
use Rattle.unification.proofs.Constructors.{instance_of, term-instance}
use Rattle.tree_translation.specs.Comparisons.{compared, compared_alone, compared_by}
use Rattle.tree_translation.specs.Hidden.{widened_behind}
use Rattle.tree_translation.specs.Replays.{step_in}
use Rattle.tree_translation.specs.Standings.{Standing}
use Rattle.tree_translation.proofs.Comparing.{compared-built, compared-group}
use Rattle.tree_translation.proofs.RecordInstances.{lifted-instance, near-variables}
use Rattle.tree_translation.proofs.SeenSteps.{built-seen}
use Rattle.tree_translation.proofs.SeenTerms.{behind-is, widened-is, widening}
use Rattle.entry_laws.proofs.replay_laws.LowComparisons.{comparison_of}

abbrev pub step_of : (g : ℕ) → Rule → (type : Term) (b d : Built) → Step
step_of g rule type b d = record { group = g; rule = rule; ty = type; left = term_of b; right = term_of d }

pub group-own : (S : Signature) (s : State) (rule : Rule) (k : ℕ) (f : Family) (ps : List Term) (type : Term) (b d : Built) → IsBuilt S b → IsBuilt S d
    → IsGroup S s k b.n f ps type (term_of b) (term_of d)
    → compared S s (step_of (k + 1) rule type b d) ≡ Some (comparison_of b.n f ps b d (take k (right_sides s.equations)))
group-own S s rule k f ps type b d left right group =
    let e : k + 1 - 1 ≡ k = omega arith in
    compared-built S s (step_of (k + 1) rule type b d) b d left right refl refl
    ∙ (ap (λ count. Some (compared_by s count type b d)) e ∙ ap Some (compared-group S s k f ps type b d group.members group.family left group.form))

pub group-seen : (S : Signature) (s : State) (w : Standing) (rule : Rule) (k : ℕ) (f : Family) (ps : List Term) (type : Term) (b d : Built) → IsBuilt S b
    → IsBuilt S d → IsGroup S s k b.n f ps type (term_of b) (term_of d)
    → (let q = widening (length w.state.context) w.hidden in
    compared S w.state (step_in w (step_of (k + 1) rule type b d))
    ≡ Some (comparison_of b.n f (map (inst q) ps) (instance_of q b) (instance_of q d) (take k (right_sides w.state.equations))))
group-seen S s w rule k f ps type b d left right group =
    let n = length w.state.context in
    let q = widening n w.hidden in
    let step : Step = step_of (k + 1) rule type b d in
    let e : k + 1 - 1 ≡ k = omega arith in
    let form : inst (ups_by k q) type ≡ applied (Fam b.n) (lifted k (map (inst q) ps) ++ variables k) =
    ap (inst (ups_by k q)) group.form
    ∙ (inst-applied (ups_by k q) (Fam b.n) (lifted k ps ++ variables k)
    ∙ ap (applied (Fam b.n))
    (map-append (inst (ups_by k q)) (lifted k ps) (variables k) ∙ ap₂ ◌++◌ (lifted-instance q k ps) (near-variables q k k (omega arith)))) in
    compared-built S w.state (step_in w step) (instance_of q b) (instance_of q d) (built-seen S q b left) (built-seen S q d right)
    (widened-is n w.hidden (term_of b) ∙ term-instance q b) (widened-is n w.hidden (term_of d) ∙ term-instance q d)
    ∙ (ap₂ (λ count a. Some (compared_by w.state count a (instance_of q b) (instance_of q d))) e
    (ap (λ count. widened_behind n w.hidden count type) e ∙ behind-is n w.hidden k type)
    ∙ ap Some
    (compared-group S w.state k f (map (inst q) ps) (inst (ups_by k q) type) (instance_of q b) (instance_of q d) group.members group.family (built-seen S q b left)
    form))

pub alone-own : (S : Signature) (s : State) (rule : Rule) (A : Term) (b d : Built) → IsBuilt S b → IsBuilt S d
    → compared S s (step_of 1 rule A b d) ≡ Some (compared_alone b d)
alone-own S s rule A b d left right = compared-built S s (step_of 1 rule A b d) b d left right refl refl

pub alone-seen : (S : Signature) (w : Standing) (rule : Rule) (A : Term) (b d : Built) → IsBuilt S b → IsBuilt S d
    → (let q = widening (length w.state.context) w.hidden in
    compared S w.state (step_in w (step_of 1 rule A b d)) ≡ Some (compared_alone (instance_of q b) (instance_of q d)))
alone-seen S w rule A b d left right =
    let n = length w.state.context in
    let q = widening n w.hidden in
    compared-built S w.state (step_in w (step_of 1 rule A b d)) (instance_of q b) (instance_of q d) (built-seen S q b left) (built-seen S q d right)
    (widened-is n w.hidden (term_of b) ∙ term-instance q b) (widened-is n w.hidden (term_of d) ∙ term-instance q d)
