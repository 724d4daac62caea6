-- Each declaration of a source file is ordinary: its names are spelled, and its parts are no more than the bytes.
use Rattle.std.proofs.Common.{ℕ, ◌≤◌, List, [], ◌∷◌, length, arith}
use Rattle.theory.specs.Signatures.{Signature}
use Rattle.surface_syntax.specs.Grammar.{limit}
use Rattle.surface_syntax.specs.Trees as surf
use Rattle.surface_syntax.specs.declared.tree.Word.{Word}
use Rattle.elim.proofs.elim_program.Reading.{is-read}
use Rattle.surface_syntax.specs.word_laws.Numbers.{HasFew}
use Rattle.surface_syntax.specs.word_laws.Words.{Each, HasWords, IsMember, IsPlain, IsTyped}
use Rattle.surface_syntax.proofs.word_laws.Spelled.{words-spelled, parts-few}
use Rattle.elim.specs.headline.writing_laws.Writing.{IsOrdinary, IsSurfaceName, TextIsOrdinary}
use Rattle.elim.proofs.headline.writing_laws.Parts.{few-parts}

names-are : (cons : List surf.Typed) → Each IsTyped cons → Each (λ c. IsSurfaceName c.name.text) cons
names-are [] h = tt
names-are (c ∷ cons) h = (h.0.0, names-are cons h.1)

members-are : (members : List surf.Member) → Each IsMember members → Each (λ m. IsSurfaceName m.name.text × Each (λ c. IsSurfaceName c.name.text) m.cons) members
members-are [] h = tt
members-are (m ∷ members) h = ((h.0.0, names-are m.cons h.0.2), members-are members h.1)

words-are : (words : List Word) → Each IsPlain words → Each (λ x. IsSurfaceName x.text) words
words-are [] h = tt
words-are (x ∷ words) h = (h.0, words-are words h.1)

ordinary : (most : ℕ) → most ≤ 1048576 → (S : Signature) (d : surf.Decl) → HasWords d → HasFew most d → IsOrdinary S d
ordinary most le S (surf.Def x ty body) h few = h.0
ordinary most le S (surf.Data x params ty cons) h few = let n = few.0 in (h.0, omega (arith, le, n), names-are cons h.3)
ordinary most le S (surf.Decide x family into) h few = h.0
ordinary most le S (surf.Mutual params members f tag tags) h few =
    let n = few.0 in (members-are members h.1, h.2, h.3, words-are tags h.4, omega (arith, le, n))
ordinary most le S (surf.Fun x ty clauses) h few = (h.0, few-parts S x ty clauses (omega (arith, le, few)))

all-ordinary : (most : ℕ) → most ≤ 1048576 → (ds : List surf.Decl) → Each HasWords ds → Each (HasFew most) ds → Each (λ d. (S : Signature) → IsOrdinary S d) ds
all-ordinary most le [] h few = tt
all-ordinary most le (d ∷ ds) h few = (λ S. ordinary most le S d h.0 few.0, all-ordinary most le ds h.1 few.1)

pub text-ordinary : TextIsOrdinary
text-ordinary bytes ds gives =
    let read = is-read bytes ds gives in
    all-ordinary (length bytes) read.few ds (words-spelled limit bytes read.tokens ds read.split read.file) (parts-few limit bytes read.tokens ds read.split read.file)
