-- A resolved declaration has the name that is written, and the name is new.
use Rattle.std.proofs.Common.{◌≡◌, ℕ, false, ◌||◌, if◌then◌else◌, Option, Some, None, List, [], ◌∷◌, length, Result, Ok, Err, IfOk, refl, ap, ◌∙◌, subst as transport, arith}
use Rattle.std.specs.Option.{is_some}
use Rattle.theory.specs.Terms.Term.{Const, Fam}
use Rattle.theory.specs.Signatures.{Signature}
use Rattle.core_sig.specs.Names.{find}
use Rattle.core_sig.specs.Raw.{RawFamily, raw_of}
use Rattle.core_sig.specs.declared.entry.Found.{Found}
use Rattle.core_sig.specs.declared.raw.RawFamily as code
use Rattle.surface_syntax.specs.Trees as surf
use Rattle.surface_syntax.specs.declared.tree.Word.{Word}
use Rattle.core_terms.proofs.Answers.{and_then-is, stands-has}
use Rattle.resolve.specs.Answers.{Gives, IsUnforeseen}
use Rattle.resolve.specs.DeclaredNames.{IsNewName}
use Rattle.resolve.specs.Families.{constructors, declared, family, names_of, parameters}
use Rattle.resolve.specs.Functions.{Function, allowed_by, arity_of, clauses, function}
use Rattle.resolve.specs.Names.{known_in, scope_of, with_name}
use Rattle.resolve.specs.PatternMeanings.{fun_of}
use Rattle.resolve.specs.Resolving.{resolve}
use Rattle.resolve.specs.declared.fun_core.FunCore.{FunCore}
use Rattle.resolve.specs.declared.stop.ResolveStop.{ResolveStop}

-- a name that is taken is refused
unknown : (found : Option Found) (e : ResolveStop) (name own : List ℕ) → (if is_some found || false then Err e else Ok name) ≡ Ok own → found ≡ None
unknown None e name own is = refl
unknown (Some f) e name own is = absurd (grind arith)

same : (found : Option Found) (e : ResolveStop) (name own : List ℕ) → (if is_some found || false then Err e else Ok name) ≡ Ok own → own ≡ name
same None e name own is = transport (λ (r : Result (List ℕ) ResolveStop). IfOk r (λ n. n ≡ name)) is refl
same (Some f) e name own is = absurd (grind arith)

pub declared-new : (S : Signature) (x : Word) (name : List ℕ) → declared S [] x ≡ Ok name → IsNewName S x name
declared-new S x name is =
    let named : name ≡ x.text = same (find S x.text) _ x.text name is in
    record { is = named; new = ap (find S) named ∙ unknown (find S x.text) _ x.text name is }

pub family-new : (S : Signature) (x : Word) (params : List surf.Typed) (ty : surf.Surf) (cons : List surf.Typed)
    → IfOk (family S x params ty cons) (λ raw. IsNewName S x raw.name)
family-new S x params ty cons =
    let P : RawFamily → Type 0 = λ raw. IsNewName S x raw.name in
    and_then-is P (declared S [] x) _ (λ own named.
    and_then-is P (parameters (known_in S) [] params) _ (λ types typed.
    and_then-is P (resolve (known_in S) ty (scope_of (names_of params))) _ (λ type is.
    and_then-is P (constructors S (with_name own (Fam (length S.entries)) (known_in S)) (scope_of (names_of params)) (own ∷ []) cons) _ (λ list made.
    declared-new S x own named))))

pub function-new : (S : Signature) (x : Word) (ty : surf.Surf) (cs : surf.Clauses) → IfOk (function S x ty cs) (λ f. IsNewName S x f.name)
function-new S x ty cs =
    let P : Function → Type 0 = λ f. IsNewName S x f.name in
    and_then-is P (declared S [] x) _ (λ own named.
    and_then-is P (resolve (known_in S) ty []) _ (λ type typed.
    and_then-is P (clauses S (with_name own (Const (length S.entries)) (known_in S)) own (allowed_by type (arity_of type cs)) cs) _ (λ list made.
    declared-new S x own named)))

-- answers of the calls

pub family_named : (S : Signature) (x : Word) (params : List surf.Typed) (ty : surf.Surf) (cons : List surf.Typed) (result : Result code.RawFamily ResolveStop)
    → Gives raw_of result (family S x params ty cons) → IfOk result (λ raw. IsNewName S x raw.name)
family_named S x params ty cons result g =
    stands-has IsUnforeseen (λ e. e) raw_of (λ (raw : RawFamily). IsNewName S x raw.name) result (family S x params ty cons) g (family-new S x params ty cons)

pub function_named : (S : Signature) (x : Word) (ty : surf.Surf) (cs : surf.Clauses) (result : Result FunCore ResolveStop)
    → Gives fun_of result (function S x ty cs) → IfOk result (λ f. IsNewName S x f.name)
function_named S x ty cs result g =
    stands-has IsUnforeseen (λ e. e) fun_of (λ (f : Function). IsNewName S x f.name) result (function S x ty cs) g (function-new S x ty cs)
