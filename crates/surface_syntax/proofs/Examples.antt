-- Tokens at their limits, and short runs of the machine, by computing.
use Rattle.std.proofs.Common.{◌≡◌, ℕ, Bool, List, [], ◌∷◌, ◌++◌, replicate, nat_lt, codes, refl}
use Rattle.unicode_ident.proofs.Computing.{unicode_ident}
use Rattle.surface_syntax.specs.Spelling.{piece}
use Rattle.surface_syntax.specs.Trees as tree
use Rattle.surface_syntax.specs.Machine.{Start}
use Rattle.surface_syntax.specs.Parsing.{Read, Wrong, Deep, run}
use Rattle.surface_syntax.specs.declared.token.Piece.TheVariants.{Gap, Found, Bad}
use Rattle.surface_syntax.specs.declared.token.TokenKind.TheVariants as kind
use Rattle.surface_syntax.specs.declared.tree.Word.{Word}
use Rattle.surface_syntax.specs.declared.lexeme.Lexeme.{Lexeme}
use Rattle.surface_syntax.specs.declared.lexeme.Lexeme.TheVariants as x

-- numbers
three_digits : piece (codes "123x") ≡ Found kind.Number 3
unfolding unicode_ident
three_digits = refl

four_digits : piece (codes "1234") ≡ Bad
unfolding unicode_ident
four_digits = refl

naught_alone : piece (codes "007") ≡ Found kind.Number 1
unfolding unicode_ident
naught_alone = refl

-- dotted names
two_digits : piece (codes "Eq.12 x") ≡ Found kind.Dotted 5
unfolding unicode_ident
two_digits = refl

too_many_digits : piece (codes "Eq.123") ≡ Bad
unfolding unicode_ident
too_many_digits = refl

naught_behind_a_point : piece (codes "Eq.01") ≡ Found kind.Dotted 4
unfolding unicode_ident
naught_behind_a_point = refl

bare_point : piece (codes "x.y") ≡ Found kind.Plain 1
unfolding unicode_ident
bare_point = refl

-- keywords and plain names
keyword_before_a_point : piece (codes "data.0") ≡ Found kind.Keyword 4
unfolding unicode_ident
keyword_before_a_point = refl

longer_than_a_keyword : piece (codes "data'") ≡ Found kind.Plain 5
unfolding unicode_ident
longer_than_a_keyword = refl

bar_and_apostrophe : piece (codes "_'") ≡ Found kind.Plain 2
unfolding unicode_ident
bar_and_apostrophe = refl

outside_ascii : piece (233 ∷ 769 ∷ 32 ∷ []) ≡ Found kind.Plain 2
unfolding unicode_ident
outside_ascii = refl

mark_without_a_letter : piece (769 ∷ []) ≡ Bad
unfolding unicode_ident
mark_without_a_letter = refl

longest_name : piece (replicate 255 120) ≡ Found kind.Plain 255
unfolding unicode_ident
longest_name = refl

name_too_long : piece (replicate 256 120) ≡ Bad
unfolding unicode_ident
name_too_long = refl

longest_dotted_name : piece (replicate 255 120 ++ codes ".99") ≡ Found kind.Dotted 258
unfolding unicode_ident
longest_dotted_name = refl

-- marks, blanks and comments
bar_alone : piece (codes "_ x") ≡ Found kind.Mark 1
unfolding unicode_ident
bar_alone = refl

arrow_mark : piece (codes "->x") ≡ Found kind.Mark 2
unfolding unicode_ident
arrow_mark = refl

lone_dash : piece (codes "- x") ≡ Bad
unfolding unicode_ident
lone_dash = refl

comment_before_a_line_feed : piece (codes "--> x" ++ 13 ∷ 10 ∷ codes "y") ≡ Gap 6
unfolding unicode_ident
comment_before_a_line_feed = refl

-- Short runs, with at most two productions around another in place of 2,000.
abbrev two : ℕ → ℕ → Bool
two d i = nat_lt d 2

abbrev w : Word
w = record { text = codes "x"; start = 0 }

-- `def x : ((`
abbrev opened : List Lexeme
opened = x.Def ∷ x.Plain w ∷ x.Colon ∷ x.Open ∷ x.Open ∷ []

-- the term that is due is refused at the end, and whatever is there
due_at_the_end : run two Start opened ≡ Deep 0
due_at_the_end = refl

due_at_a_colon : run two Start (opened ++ x.Colon ∷ []) ≡ Deep 1
due_at_a_colon = refl

-- `x y =` can't be a binder, so a term begins at `x`; `x :` is one, and its type is due after that; `_` begins a binder
names_of_a_term : run two Start (opened ++ x.Plain w ∷ x.Plain w ∷ x.Equals ∷ []) ≡ Deep 3
names_of_a_term = refl

names_of_a_binder : run two Start (opened ++ x.Plain w ∷ x.Plain w ∷ x.Colon ∷ x.Equals ∷ []) ≡ Deep 1
names_of_a_binder = refl

bar_of_a_binder : run two Start (opened ++ x.Plain w ∷ x.Underscore ∷ x.Equals ∷ []) ≡ Wrong 1
bar_of_a_binder = refl

-- `fun x : x { x (x`
abbrev patterns : List Lexeme
patterns = x.Fun ∷ x.Plain w ∷ x.Colon ∷ x.Plain w ∷ x.OpenBrace ∷ x.Plain w ∷ x.Open ∷ x.Plain w ∷ []

-- a pattern counts where one begins
pattern_begins : run two Start (patterns ++ x.Underscore ∷ []) ≡ Deep 1
pattern_begins = refl

no_pattern_begins : run two Start (patterns ++ x.Equals ∷ []) ≡ Wrong 1
no_pattern_begins = refl

patterns_at_the_end : run two Start patterns ≡ Wrong 0
patterns_at_the_end = refl

-- `fun x : x { x with x { x with x`: the term is inside two clauses
inspected : List Lexeme
inspected = x.Fun ∷ x.Plain w ∷ x.Colon ∷ x.Plain w ∷ x.OpenBrace ∷ x.Plain w ∷ x.With ∷ x.Plain w ∷ x.OpenBrace ∷ x.Plain w ∷ x.With ∷ x.Plain w ∷ []

inside_two_clauses : run two Start inspected ≡ Deep 1
unfolding inspected
inside_two_clauses = refl

-- clauses within a `with`, or none
whole_clauses : run two Start (x.Fun ∷ x.Plain w ∷ x.Colon ∷ x.Plain w ∷ x.OpenBrace ∷ x.Plain w ∷ x.With ∷ x.Plain w ∷ x.OpenBrace ∷ x.CloseBrace ∷ x.CloseBrace ∷ []) ≡
    Read (tree.Fun w (tree.Named w) (tree.also (tree.Is w [] (tree.With (tree.Named w) tree.no_clause)) tree.no_clause) ∷ [])
whole_clauses = refl
