-- Rows that are kept, each for a length of the signature and a key.
use Rattle.std.specs.Prelude.{ℕ, Bool, true, false, not, ◌==◌, ◌&&◌, cond, nat_lt, List, Option, if◌then◌else◌, Some, None}
use Rattle.std.specs.Map.{lookup}
use Rattle.term_pool.specs.declared.ids.Id.{Id}
use Rattle.term_pool.specs.declared.row.Key.{Key}
use Rattle.term_pool.specs.declared.row.Key.TheVariants.{Whnf, Convertible, Subtype}
use Rattle.term_pool.specs.declared.row.Answer.{Answer}
use Rattle.term_pool.specs.declared.row.Answer.TheVariants.{Term, Truth}
use Rattle.term_pool.specs.declared.row.Row.{Row}

-- the rows in the order in which they came
abbrev pub Rows : Type 0
Rows = List ((ℕ × Key Id) × Row Id)

abbrev pub is_key : Key Id → Key Id → Bool
is_key (Whnf a b) (Whnf c d) = (a.at == c.at) && cond b d (not d)
is_key (Convertible a b) (Convertible c d) = (a.at == c.at) && (b.at == d.at)
is_key (Subtype a b) (Subtype c d) = (a.at == c.at) && (b.at == d.at)
is_key _ _ = false

-- the row for a length and a key
abbrev pub row_at : Rows → ℕ → Key Id → Option (Row Id)
row_at rows n key = lookup (λ k. (n == k.0) && is_key key k.1) rows

-- the ids in the key have places below the count
abbrev pub is_key_below : ℕ → Key Id → Bool
is_key_below count (Whnf a b) = nat_lt a.at count
is_key_below count (Convertible a b) = nat_lt a.at count && nat_lt b.at count
is_key_below count (Subtype a b) = nat_lt a.at count && nat_lt b.at count

abbrev pub is_answer_below : ℕ → Answer Id → Bool
is_answer_below count (Term a) = nat_lt a.at count
is_answer_below count (Truth b) = true

-- all ids in the row and its key have places below the count
abbrev pub is_row_below : ℕ → (ℕ × Key Id) × Row Id → Bool
is_row_below count row = is_key_below count row.0.1 && is_answer_below count row.1.answer

-- what is left of the row for a length and a key, if rows stay whose ids have places below the count
abbrev pub if_below : ℕ → ℕ → Key Id → Option (Row Id) → Option (Row Id)
if_below count n key None = None
if_below count n key (Some row) = if is_row_below count ((n, key), row) then Some row else None
