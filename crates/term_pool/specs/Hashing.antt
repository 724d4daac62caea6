-- How nodes are hashed: by one word each.
use Rattle.std.specs.Prelude.{ℕ, ◌+◌, ◌*◌, ◌/◌, ◌%◌, ◌^◌, ◌-◌, List, ◌∷◌, fold, length, if◌then◌else◌, nat_eq, slice_index, bit_and, bit_xor}
use Rattle.term_pool.specs.declared.hashing.WordHasher.{WordHasher}
use Rattle.term_pool.specs.declared.ids.Id.{Id}
use Rattle.term_pool.specs.declared.node.Node.{Node}
use Rattle.term_pool.specs.declared.node.Node.TheVariants.{Var, Sort, Pi, Lam, App, Let, Const, Fam, Con, Elim, AxiomK}

-- a word and one byte more
abbrev pub byte_step : ℕ → ℕ → ℕ
byte_step w b = ((w * 256) % 2 ^ 64 + b) % 2 ^ 64

-- eight bytes as one word, the lowest first, and other bytes by their remainder
abbrev pub word_of_bytes : List ℕ → ℕ
word_of_bytes bs =
    if nat_eq (length bs) 8 then
    slice_index bs 0 + slice_index bs 1 * 256 + slice_index bs 2 * 65536 + slice_index bs 3 * 16777216 + slice_index bs 4 * 4294967296
    + slice_index bs 5 * 1099511627776 + slice_index bs 6 * 281474976710656 + slice_index bs 7 * 72057594037927936
    else fold byte_step 0 bs

-- the two halves of a product, joined
abbrev pub halves : ℕ → ℕ → ℕ
halves a b = bit_xor (bit_and (a * b) (2 ^ 64 - 1)) (a * b / 2 ^ 64)

-- the state after a word
abbrev pub step : ℕ → ℕ → ℕ
step state word = halves (bit_xor state word) 0x9e37_79b9_7f4a_7c15

abbrev pub write : WordHasher → List ℕ → WordHasher
write h bs = record { state = step h.state (word_of_bytes bs) }

-- one word of two numbers
abbrev pub word : ℕ → ℕ → ℕ
word first second = ((first * 4294967296) % 2 ^ 64 + second) % 2 ^ 64

-- one word of a node
abbrev pub word_of : Node Id → ℕ
word_of (Var n) = n
word_of (Sort i) = word 268435456 i
word_of (Pi a b) = word (134217728 + a.at) b.at
word_of (Lam a b) = word (201326592 + a.at) b.at
word_of (App f a) = word (268435456 + f.at) a.at
word_of (Let t v b) = word (335544320 + t.at) ((word v.at 0 * 31 % 2 ^ 64 + b.at) % 2 ^ 64)
word_of (Const n) = word 1610612736 n
word_of (Fam n) = word 1879048192 n
word_of (Con n c) = word (536870912 + n) c
word_of (Elim n m) = word (603979776 + n) m
word_of (AxiomK i m) = word (671088640 + i) m
