-- Numbers in decimal, written digit by digit.
use Rattle.std.proofs.Common.{◌≡◌, ℕ, ◌+◌, ◌<◌, ◌≤◌, ◌/◌, ◌%◌, ◌^◌, List, [], ◌∷◌, ◌++◌, append_assoc, ap, sym, ◌∙◌, arith}
use Rattle.std.specs.Prelude.{decimal}
use Rattle.std.proofs.lemmas.Fmt.{decimal_digit, decimal_step}

-- one digit
pub decimal_one : (out : List ℕ) (n : ℕ) → n < 10 → out ++ (48 + n % 10) ∷ [] ≡ out ++ decimal n
decimal_one out n small =
    let e : 48 + n % 10 ≡ 48 + n = omega arith in
    ap (λ k. out ++ k ∷ []) e ∙ ap (λ ds. out ++ ds) (sym (decimal_digit n small))

-- the last digit after the others
pub decimal_more : (out mid : List ℕ) (n : ℕ) → 10 ≤ n → n < 2 ^ 64 → mid ≡ out ++ decimal (n / 10) → mid ++ (48 + n % 10) ∷ [] ≡ out ++ decimal n
decimal_more out mid n large fits before =
    ap (λ m. m ++ (48 + n % 10) ∷ []) before
    ∙ (append_assoc out (decimal (n / 10)) ((48 + n % 10) ∷ []) ∙ ap (λ ds. out ++ ds) (sym (decimal_step n large fits)))
