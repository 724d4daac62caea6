-- The declarations of a source file are made as is meant, one after the other.
use Rattle.std.proofs.Common.{◌≡◌, Bool, true, false, List, [], ◌∷◌, map, Result, Ok, Err, IfOk, refl}
use Rattle.theory.specs.Prelude.{prelude}
use Rattle.surface_syntax.specs.Trees as surf
use Rattle.surface_syntax.specs.declared.tree.Word.{Word}
use Rattle.core_text.proofs.SurfaceReadable.{surface-names-are-readable}
use Rattle.resolve.specs.Families.{names_of}
use Rattle.resolve.specs.Mutual.{names_of_all}
use Rattle.drafts.specs.draft_checks.Checks.{unmarked}
use Rattle.drafts.specs.draft_entering.FreeNames.{is_marked}
use Rattle.elab_session.specs.declared.refusal.Refusal.{Refusal}
use Rattle.function_session.specs.Declaring.{declared_in, new_session, with_declared}
use Rattle.function_session.specs.Elaborating.{Elaborated}
use Rattle.function_session.specs.Sessions.{Session}
use Rattle.surface_syntax.specs.word_laws.Words.{Each, HasWords, IsMember, IsPlain, IsTyped}
use Rattle.surface_syntax.proofs.word_laws.Spelled.{words-spelled}
use Rattle.function_session.specs.function_laws.declaration_laws.Laws.{AreMeant, DeclaredIsMeant, DeclaresUnmarked, TextIsMeant, WordsAreUnmarked}
use Rattle.function_session.proofs.function_laws.declaration_laws.UnmarkedDeclarations.{declaration-stays}
use Rattle.function_session.proofs.function_laws.declaration_laws.UnmarkedMutual.{each-append}

-- ---- names

word-unmarked : (w : Word) → IsPlain w → is_marked w.text ≡ false
word-unmarked w h = (surface-names-are-readable w.text h.0 h.1).1

names-unmarked : (cons : List surf.Typed) → Each IsTyped cons → Each (λ name. is_marked name ≡ false) (names_of cons)
names-unmarked [] h = tt
names-unmarked (c ∷ cons) h = (word-unmarked c.name h.0.0, names-unmarked cons h.1)

members-unmarked : (members : List surf.Member) → Each IsMember members → Each (λ name. is_marked name ≡ false) (names_of_all members)
members-unmarked [] h = tt
members-unmarked (m ∷ members) h =
    (word-unmarked m.name h.0.0, each-append (λ name. is_marked name ≡ false) (names_of m.cons) (names_of_all members) (names-unmarked m.cons h.0.2) (members-unmarked members h.1))

words-plain : (words : List Word) → Each IsPlain words → Each (λ name. is_marked name ≡ false) (map (λ w. w.text) words)
words-plain [] h = tt
words-plain (w ∷ words) h = (word-unmarked w h.0, words-plain words h.1)

pub words-unmarked : WordsAreUnmarked
words-unmarked (surf.Def x ty body) h = tt
words-unmarked (surf.Data x params ty cons) h = (word-unmarked x h.0, names-unmarked cons h.3)
words-unmarked (surf.Decide x family decision) h = tt
words-unmarked (surf.Mutual params members family tag tags) h =
    each-append (λ name. is_marked name ≡ false) (names_of_all members) (family.text ∷ tag.text ∷ map (λ w. w.text) tags) (members-unmarked members h.1)
    (word-unmarked family h.2, (word-unmarked tag h.3, words-plain tags h.4))
words-unmarked (surf.Fun x ty clauses) h = tt

all-unmarked : (ds : List surf.Decl) → Each HasWords ds → Each DeclaresUnmarked ds
all-unmarked [] h = tt
all-unmarked (d ∷ ds) h = (words-unmarked d h.0, all-unmarked ds h.1)

-- ---- one declaration after the other

prelude-unmarked : (k : Bool) → unmarked (prelude k) ≡ true
prelude-unmarked true = refl
prelude-unmarked false = refl

meant-from : DeclaredIsMeant → (s : Session) (ds : List surf.Decl) → unmarked s.signature ≡ true → Each DeclaresUnmarked ds → AreMeant s ds
meant-from meant s [] plain names = tt
meant-from meant s (d ∷ ds) plain names =
    (meant s d names.0 plain, by (declared_in s d) (declaration-stays s d names.0 plain) (λ next free. meant-from meant next ds free names.1))
  where
    by : (r : Result Elaborated Refusal) → IfOk r (λ a. unmarked a.signature ≡ true)
        → ((next : Session) → unmarked next.signature ≡ true → AreMeant next ds) → IfOk r (λ a. AreMeant (with_declared s d a.signature) ds)
    by (Ok a) free rest = rest (with_declared s d a.signature) free
    by (Err e) free rest = tt

pub text-meant : DeclaredIsMeant → TextIsMeant
text-meant meant allows bytes tokens ds k fuel are file =
    meant-from meant (new_session k fuel) ds (prelude-unmarked k) (all-unmarked ds (words-spelled allows bytes tokens ds are file))
