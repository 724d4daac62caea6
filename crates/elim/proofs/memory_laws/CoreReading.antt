-- The reading of core files.
use Rattle.std.proofs.Common.{◌≢◌, ℕ, zero, suc, ◌+◌, Bool, true, false, cond, if◌then◌else◌, Option, Some, None, Result, Ok, Err, List, [], ◌∷◌, length, take, drop, codes, IfErr, subst as transport}
use Rattle.std.specs.Str.{chars, is_utf8}
use Rattle.theory.specs.Terms.{Term, top}
use Rattle.theory.specs.Terms.Term.{App, Fam, Lam, Let, Pi, Sort, Var}
use Rattle.theory.specs.Signatures.{Signature}
use Rattle.core_sig.specs.Raw.{RawConstructor}
use Rattle.core_text.specs.RawEntries.{RawAxiomK, RawDefinition, RawEliminator, RawEntry, RawFamilyOf}
use Rattle.core_text.specs.Reading.{Reading, past, read_index, read_level, level_from, one_digit}
use Rattle.core_text.specs.TermReading.{after_argument, after_first, argument_of, arguments_from, as_term, closed_by, enclosed_at, function_at, known, let_at, limited, most, named, product_from, read_term, sort_at, spine_from, term_after, term_at, variable_at}
use Rattle.core_text.specs.DeclaredNames.{by_shape, marked, may_declare, new_name, shape_by}
use Rattle.core_text.specs.NameRuns.{run_len}
use Rattle.core_text.specs.SymbolLookup.{symbol}
use Rattle.surface_syntax.specs.Spelling.{piece}
use Rattle.surface_syntax.specs.declared.token.Piece.{Piece}
use Rattle.surface_syntax.specs.declared.token.Piece.TheVariants.{Bad, Found, Gap}
use Rattle.surface_syntax.specs.declared.token.TokenKind.TheVariants.{Dotted, Keyword, Mark, Number, Plain}
use Rattle.core_text.specs.LineReading.{after_item, axiom_k_line, collected, constructor_at, constructors_at, definition_at, eliminator_at, ended, family_at, family_found, family_name, line_at, nested, next_constructor, next_parameter, parameters_at, separated, whole_term}
use Rattle.core_text.specs.EntryReading.{after_notes, entry_at, next_entry, shown_by, stop_of, with_offset}
use Rattle.core_text.specs.Heads.{has_head, head_of}
use Rattle.core_text.specs.declared.stop.CoreTextStop.{CoreTextStop}
use Rattle.core_text.specs.declared.stop.CoreTextStop.TheVariants as stop
use Rattle.elim.specs.memory_laws.Laws.{EntryReadForeseen, HeadReadForeseen, IsOfFamily, ReadEntryNeedsNoMemory}
use Rattle.core_text.proofs.EntryOutcomes.{what-is-read}
use Rattle.core_text.specs.ReadLaws.{IsReadEntry}
use Rattle.elim.proofs.memory_laws.Declared.{enter-needs-no-memory}
use Rattle.elim.proofs.memory_laws.Runs.{Only, ok, no, and-then, if-else}

-- a core text is refused at a place in it
abbrev IsPlaceOf : CoreTextStop → Type 0
IsPlaceOf stop.Memory = ⊥
IsPlaceOf _ = Unit {0}

-- Reading goes on or ends at a place, whatever the size of the text is.
abbrev Placed : {A : Type 0} → Reading A → Type 0
Placed r = Only (λ e. (size : ℕ) → IsPlaceOf (stop_of size e)) r

at-word : (word rest : List ℕ) → Only (λ e. (size : ℕ) → IsPlaceOf (stop_of size e)) (past word rest)
at-word word rest = if-else _ ok (no (λ size. tt))

-- ---- numbers

index : (n : ℕ) (rest : List ℕ) → Placed (read_index n rest)
index n [] = no (λ size. tt)
index n (b ∷ rest) = if-else _ ok (no (λ size. tt))

digit : (levels : List Bool) (d : ℕ) (rest : List ℕ) → Placed (one_digit levels d rest)
digit levels d rest = if-else _ ok (no (λ size. tt))

from-digit : (levels : List Bool) (d : ℕ) (rest : List ℕ) → Placed (level_from levels d rest)
from-digit levels d [] = digit levels d []
from-digit levels d (b ∷ rest) = if-else _ ok (digit levels d (b ∷ rest))

level : (levels : List Bool) (rest : List ℕ) → Placed (read_level levels rest)
level levels [] = no (λ size. tt)
level levels (b ∷ rest) = if-else _ (from-digit levels _ rest) (no (λ size. tt))

-- ---- terms

low : (t : Term) (rest : List ℕ) → Placed (limited t rest)
low t rest = if-else _ ok (no (λ size. tt))

closes : (t : Term) (rest : List ℕ) → Placed (closed_by t rest)
closes t rest = and-then (at-word (codes ")") rest) (low t)

numbered : (form : ℕ → Term) (r : Reading ℕ) → Placed r → Placed (as_term form r)
numbered form (Ok p) h = ok
numbered form (Err e) h = no h.is

symbol-known : (found : Option Term) (start rest : List ℕ) → Placed (known found start rest)
symbol-known (Some t) start rest = ok
symbol-known None start rest = no (λ size. tt)

variable : (n : ℕ) (rest : List ℕ) → Placed (variable_at n rest)
variable zero rest = no (λ size. tt)
variable (suc n) rest = numbered Var _ (index (suc n) (drop 1 rest))

sort : (rest : List ℕ) → Placed (sort_at rest)
sort rest = and-then (at-word (codes " ") rest) (λ r. numbered Sort _ (index (top + 1) r))

a-name : (look : List ℕ → Option Term) (n : ℕ) (rest : List ℕ) → Placed (named look n rest)
a-name look n rest = if-else _ (sort (drop n rest)) (symbol-known (look (take n rest)) rest (drop n rest))

-- a term under binders
abbrev Reads : (ℕ → List ℕ → Reading Term) → Type 0
Reads inner = (n : ℕ) (rest : List ℕ) → Placed (inner n rest)

after-word : {inner : ℕ → List ℕ → Reading Term} → Reads inner → (word : List ℕ) → Reads (term_after inner word)
after-word h word n rest = and-then (at-word word rest) (h n)

function : {inner : ℕ → List ℕ → Reading Term} → Reads inner → Reads (function_at inner)
function h n rest =
    and-then (h n rest) (λ a. and-then (after-word h (codes " . ") (n + 1) a.1) (λ b. closes (Lam a.0 b.0) b.1))

local : {inner : ℕ → List ℕ → Reading Term} → Reads inner → Reads (let_at inner)
local h n rest =
    and-then (h n rest) (λ a.
    and-then (after-word h (codes " = ") n a.1) (λ t.
    and-then (after-word h (codes " . ") (n + 1) t.1) (λ b. closes (Let a.0 t.0 b.0) b.1)))

product : {inner : ℕ → List ℕ → Reading Term} → Reads inner → (a : Term) → Reads (product_from inner a)
product h a n rest = and-then (after-word h (codes "-> ") (n + 1) rest) (λ b. closes (Pi a b.0) b.1)

argument : {inner : ℕ → List ℕ → Reading Term} → Reads inner → (f : Term) → Reads (argument_of inner f)
argument h f n rest = and-then (h n rest) (λ a. low (App f a.0) a.1)

further : (inner : ℕ → List ℕ → Reading Term) {more : Term → List ℕ → Reading Term} → ((t : Term) (rest : List ℕ) → Placed (more t rest))
    → (t : Term) (rest : List ℕ) → Placed (after_argument inner more t rest)
further inner h t rest = if-else _ (h t (drop 1 rest)) (closes t rest)

arguments : {inner : ℕ → List ℕ → Reading Term} → Reads inner → (k : ℕ) (f : Term) → Reads (arguments_from inner k f)
arguments h zero f n rest = no (λ size. tt)
arguments {inner} h (suc k) f n rest =
    and-then (argument h f n rest) (λ t. further inner (λ u end. arguments h k u n end) t.0 t.1)

spine : {inner : ℕ → List ℕ → Reading Term} → Reads inner → (f : Term) → Reads (spine_from inner f)
spine h f n rest = if-else _ (no (λ size. tt)) (arguments h most f n rest)

after-head : {inner : ℕ → List ℕ → Reading Term} → Reads inner → (a : Term) → Reads (after_first inner a)
after-head h a n rest = and-then (at-word (codes " ") rest) (λ r. if-else _ (product h a n r) (spine h a n r))

enclosed : {inner : ℕ → List ℕ → Reading Term} → Reads inner → Reads (enclosed_at inner)
enclosed h n rest =
    if-else _ (function h n (drop 1 rest))
    (if-else _ (local h n (drop 4 rest)) (and-then (h n rest) (λ a. after-head h a.0 n a.1)))

by-form : {inner : ℕ → List ℕ → Reading Term} → Reads inner → (look : List ℕ → Option Term) → Reads (term_at inner look)
by-form h look n rest = if-else _ (enclosed h n (drop 1 rest)) (if-else _ (variable n rest) (a-name look _ rest))

term : (look : List ℕ → Option Term) (room : ℕ) → Reads (read_term look room)
term look zero n rest = no (λ size. tt)
term look (suc room) n rest = by-form (term look room) look n rest

whole : (S : Signature) (own : List ℕ) → Reads (whole_term S own)
whole S own n rest = term (symbol S own) nested n rest

-- ---- lines

-- The type of shapes is core_text's own: each shape is written as that of a piece here.
a-piece : (test allowed : Bool) (name rest : List ℕ)
    → Placed (by_shape (if test then shape_by (Found Dotted 0) (33 ∷ 33 ∷ []) else shape_by Bad []) allowed name rest)
a-piece true allowed name rest = if-else _ ok (no (λ size. tt))
a-piece false allowed name rest = no (λ size. tt)

a-mark : (test allowed : Bool) (name rest : List ℕ) → Placed (by_shape (if test then marked (95 ∷ []) else shape_by Bad []) allowed name rest)
a-mark true allowed name rest = no (λ size. tt)
a-mark false allowed name rest = no (λ size. tt)

by-piece : (p : Piece) (cs : List ℕ) (allowed : Bool) (name rest : List ℕ) → Placed (by_shape (shape_by p cs) allowed name rest)
by-piece (Found Plain n) cs allowed name rest = a-piece _ allowed name rest
by-piece (Found Dotted n) cs allowed name rest = a-piece _ allowed name rest
by-piece (Found Mark n) cs allowed name rest = a-mark _ allowed name rest
by-piece (Found Number n) cs allowed name rest = no (λ size. tt)
by-piece (Found Keyword n) cs allowed name rest = no (λ size. tt)
by-piece (Gap n) cs allowed name rest = no (λ size. tt)
by-piece Bad cs allowed name rest = no (λ size. tt)

shaped : (test : Bool) (p : Piece) (cs : List ℕ) (allowed : Bool) (name rest : List ℕ)
    → Placed (by_shape (if test then shape_by p cs else shape_by Bad []) allowed name rest)
shaped true p cs allowed name rest = by-piece p cs allowed name rest
shaped false p cs allowed name rest = no (λ size. tt)

new : (S : Signature) (own : List ℕ) (found : List RawConstructor) (rest : List ℕ) → Placed (new_name S own found rest)
new S own found rest =
    let name = take (run_len rest) rest in
    shaped (is_utf8 name) (piece (chars name)) (chars name) (may_declare S own found name) name rest

line-ends : (e : RawEntry) (rest : List ℕ) → Placed (ended e rest)
line-ends e rest = and-then (at-word (codes "\n") rest) (λ end. ok)

definition : (S : Signature) (own rest : List ℕ) → Placed (definition_at S own rest)
definition S own rest =
    and-then (new S own [] rest) (λ name.
    and-then (after-word (whole S own) (codes " : ") 0 name.1) (λ type.
    and-then (after-word (whole S own) (codes " = ") 0 type.1) (λ body. line-ends _ body.1)))

a-family : (found : Option Term) (start rest : List ℕ) → Placed (family_found found start rest)
a-family None start rest = no (λ size. tt)
a-family (Some (Fam n)) start rest = ok
a-family (Some (Var n)) start rest = no (λ size. tt)
a-family (Some t) start rest = no (λ size. tt)

family-name : (S : Signature) (rest : List ℕ) → Placed (family_name S rest)
family-name S rest = a-family _ rest _

eliminator : (S : Signature) (rest : List ℕ) → Placed (eliminator_at S rest)
eliminator S rest =
    and-then (family-name S rest) (λ n. and-then (at-word (codes " ") n.1) (λ r. and-then (level _ r) (λ m. line-ends _ m.1)))

axiom-k : (S : Signature) (rest : List ℕ) → Placed (axiom_k_line S rest)
axiom-k S rest = and-then (level _ rest) (λ i. and-then (at-word (codes " ") i.1) (λ r. and-then (level _ r) (λ m. line-ends _ m.1)))

one-more : {A : Type 0} {more : List A → List ℕ → Reading (List A)} → ((found : List A) (rest : List ℕ) → Placed (more found rest))
    → (found : List A) (item : Option A) (rest : List ℕ) → Placed (after_item more found item rest)
one-more h found (Some a) rest = h _ rest
one-more h found None rest = ok

items : {A : Type 0} {next : List A → List ℕ → Reading (Option A)} → ((found : List A) (rest : List ℕ) → Placed (next found rest))
    → (k : ℕ) (found : List A) (rest : List ℕ) → Placed (collected next k found rest)
items h zero found rest = no (λ size. tt)
items h (suc k) found rest = and-then (h found rest) (λ item. one-more (items h k) found item.0 item.1)

parameter : (S : Signature) (own : List ℕ) (n : ℕ) (rest : List ℕ) → Placed (next_parameter S own n rest)
parameter S own n rest =
    and-then (at-word (codes " ") rest) (λ r.
    if-else _
    (and-then (whole S own n (drop 1 r)) (λ a. and-then (at-word (codes ")") a.1) (λ end. ok)))
    (and-then (at-word (codes ": ") r) (λ end. ok)))

parameters : (S : Signature) (own rest : List ℕ) → Placed (parameters_at S own rest)
parameters S own rest = items (λ found r. parameter S own (length found) r) (length rest) [] rest

constructor : (S : Signature) (own : List ℕ) (p : ℕ) (found : List RawConstructor) (rest : List ℕ) → Placed (constructor_at S own p found rest)
constructor S own p found rest =
    and-then (new S own found rest) (λ name. and-then (after-word (whole S own) (codes " : ") p name.1) (λ type. ok))

between : (found : List RawConstructor) (rest : List ℕ) → Only (λ e. (size : ℕ) → IsPlaceOf (stop_of size e)) (separated found rest)
between [] rest = ok
between (c ∷ found) rest = at-word (codes "; ") rest

one-constructor : (S : Signature) (own : List ℕ) (p : ℕ) (found : List RawConstructor) (rest : List ℕ) → Placed (next_constructor S own p found rest)
one-constructor S own p found rest =
    and-then (at-word (codes " ") rest) (λ r. if-else _ ok (and-then (between found r) (constructor S own p found)))

constructors : (S : Signature) (own : List ℕ) (p : ℕ) (rest : List ℕ) → Placed (constructors_at S own p rest)
constructors S own p rest = items (one-constructor S own p) (length rest) [] rest

family : (S : Signature) (own rest : List ℕ) → Placed (family_at S own rest)
family S own rest =
    and-then (new S own [] rest) (λ name.
    and-then (parameters S own name.1) (λ types.
    and-then (whole S own (length types.0) types.1) (λ type.
    and-then (at-word (codes " {") type.1) (λ r. and-then (constructors S name.0 (length types.0) r) (λ list. line-ends _ list.1)))))

line : (S : Signature) (own rest : List ℕ) → Placed (line_at S own rest)
line S own rest =
    if-else _ (and-then (at-word (codes "def ") rest) (definition S own))
    (if-else _ (and-then (at-word (codes "elim ") rest) (eliminator S))
    (if-else _ (and-then (at-word (codes "axiomk ") rest) (axiom-k S)) (and-then (at-word (codes "data ") rest) (family S own))))

-- ---- entries

notes : (inside : Bool) (rest : List ℕ) → Only (λ e. (size : ℕ) → IsPlaceOf (stop_of size e)) (after_notes inside rest)
notes false [] = ok
notes true [] = no (λ size. tt)
notes false (b ∷ rest) = if-else _ (notes true rest) ok
notes true (b ∷ rest) = notes _ rest

shows : (n : ℕ) (rest : List ℕ) (r : Reading RawEntry) → Placed r → Placed (shown_by n rest r)
shows n rest (Ok p) h = if-else _ ok (no (λ size. tt))
shows n rest (Err e) h = no h.is

entry : (S : Signature) (rest : List ℕ) → Placed (entry_at S rest)
entry S [] = ok
entry S (b ∷ rest) = shows (length S.entries) (b ∷ rest) _ (line S [] (b ∷ rest))

next : (S : Signature) (rest : List ℕ) → Placed (next_entry S rest)
next S rest = and-then (notes false rest) (entry S)

offset : (size : ℕ) (r : Reading (Option RawEntry)) → Placed r → Only IsPlaceOf (with_offset size r)
offset size (Ok p) h = ok
offset size (Err s) h = no (h.is size)

never-memory : {A : Type 0} (r : Result A CoreTextStop) → Only IsPlaceOf r → r ≢ Err stop.Memory
never-memory r h e = transport (λ x. IfErr x IsPlaceOf) e h.is

pub entry-read : EntryReadForeseen
entry-read S text from = never-memory _ (offset (length text) _ (next S (drop from text)))

pub head-read : HeadReadForeseen
head-read k text =
    never-memory (head_of k text) (if-else (has_head false text) ok (if-else (cond k (has_head true text) false) ok (no tt)))

-- ---- entries that are read

of-family : (S : Signature) (raw : RawEntry) → IsReadEntry S raw → IsOfFamily S raw
of-family S (RawFamilyOf raw) is = tt
of-family S (RawEliminator n m) is = is.0.0
of-family S (RawAxiomK i m) is = tt
of-family S (RawDefinition name type body) is = tt

pub read-enters : ReadEntryNeedsNoMemory
read-enters S text from fuel raw to le e = enter-needs-no-memory S fuel raw (of-family S raw (what-is-read S text from raw to le e).0)
