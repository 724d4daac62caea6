-- Texts that agree are read alike: what a name says, where a whole run is the name.
use Rattle.std.proofs.Common.{◌≡◌, ◌⊎◌, inl, inr, ℕ, zero, suc, ◌<◌, true, List, ◌++◌, length, drop, take, refl, sym, ap, ap₂, ◌∙◌, subst, append_assoc, arith}
use Rattle.std.specs.Prelude.{Ok, Err}
use Rattle.std.proofs.lemmas.List.{take-append-drop, length-take-le, take_at, drop_at}
use Rattle.core_text.specs.NameRuns.{run_len}
use Rattle.core_text.specs.Reading.{Reading, wrong, first}
use Rattle.core_text.specs.declared.halt.Halt.TheVariants.{Memory, Nested, Wrong}
use Rattle.core_text.proofs.Agreement.{Refused, by_character, by_name, Reread, Alike, StartsAt, refused-map, same-ahead, stopped-here}
use Rattle.core_text.proofs.RunChars.{run}
use Rattle.core_text.proofs.Characters.{Same, run-within, run-again, no-run-same, same-named}

-- after the bytes v, g reads as f does where the character is the same
pub reread-past : {A : Type 0} (f g : List ℕ → Reading A) (v r : List ℕ) (m : Reading A) → ((y : List ℕ) → Same r y → g (v ++ y) ≡ f y) → StartsAt r m → Reread true f r m → Reread true g (v ++ r) m
reread-past f g v r (Ok p) same starts t = record {
  front = v ++ t.front;
  is = ap (λ s. v ++ s) t.is ∙ sym (append_assoc v t.front p.1);
  again = λ y k. ap g (append_assoc v t.front y) ∙ (same (t.front ++ y) (same-ahead true r t.front p.1 y t.is starts (λ no. absurd (cc)) k) ∙ t.again y k);
}
reread-past f g v r (Err (Wrong left)) same starts t = record {
  front = v ++ t.front;
  back = t.back;
  is = ap (λ s. v ++ s) t.is ∙ sym (append_assoc v t.front t.back);
  size = t.size;
  refused = refused-map (λ y. f (t.front ++ y)) (λ y. g ((v ++ t.front) ++ y)) t.back
      (λ y k e. ap g (append_assoc v t.front y) ∙ (same (t.front ++ y) (same-ahead true r t.front t.back y t.is (at starts) (λ no. absurd (cc)) (λ so. k)) ∙ e)) t.refused;
}
  where
    at : (first r < 128) ⊎ (left ≡ length r) → (first r < 128) ⊎ (length t.back ≡ length r)
    at (inl low) = inl low
    at (inr stays) = inr (t.size ∙ stays)
reread-past f g v r (Err (Nested left)) same starts t = tt
reread-past f g v r (Err Memory) same starts t = tt

-- the bytes after the run at the front
abbrev pub after_run : List ℕ → List ℕ
after_run rest = drop (run_len rest) rest

-- the run is the same again before the same character
pub record RunAgain (rest y : List ℕ) : Type 0 where
  pub size : run_len (run rest ++ y) ≡ run_len rest
  pub name : run (run rest ++ y) ≡ run rest
  pub past : after_run (run rest ++ y) ≡ y

pub run-is-again : (rest y : List ℕ) → Same (after_run rest) y → RunAgain rest y
run-is-again rest y same =
    let size = run-again rest y same in
    let long = length-take-le (run_len rest) rest (run-within rest) in
    record {
      size = size;
      name = ap (λ k. take k (run rest ++ y)) size ∙ take_at (run rest) y (run_len rest) long;
      past = ap (λ k. drop k (run rest ++ y)) size ∙ drop_at (run rest) y (run_len rest) long;
    }

-- a refusal that depends on the run alone depends on the name, or on the first character if there is none
pub refused-named : {A : Type 0} (f : List ℕ → Reading A) (z : List ℕ) → ((y : List ℕ) → run y ≡ run z → f y ≡ wrong y) → Refused f z
refused-named f z k = by (run_len z) refl
  where
    by : (n : ℕ) → run_len z ≡ n → Refused f z
    by zero e = by_character (λ y same. k y (ap (λ m. take m y) (no-run-same z y same e) ∙ ap (λ m. take m z) (sym e)))
    by (suc n) e =
        let some : 0 < run_len z = omega arith in
        by_name some (λ y same. k y (same-named z y some same).name)

-- Of a name, N says how reading goes on after it, or that it is wrong.
pub data NameTells {A : Type 0} (N : List ℕ → List ℕ → List ℕ → Reading A) (name : List ℕ) : Type 0 where
  goes_on : (f : List ℕ → Reading A) → Alike true f → ((r : List ℕ) → StartsAt r (f r)) → ((r x : List ℕ) → N name r x ≡ f r) → NameTells N name
  is_wrong : ((r x : List ℕ) → N name r x ≡ wrong x) → NameTells N name

pub reread-named : {A : Type 0} (N : List ℕ → List ℕ → List ℕ → Reading A) (rest : List ℕ) → NameTells N (run rest) → Reread true (λ x. N (run x) (after_run x) x) rest (N (run rest) (after_run rest) rest)
reread-named {A = A} N rest (goes_on f alike starts is) =
    subst (Reread true F rest) (sym (is (after_run rest) rest))
    (subst (λ x. Reread true F x (f (after_run rest))) (take-append-drop (run_len rest) rest)
    (reread-past f F (run rest) (after_run rest) (f (after_run rest))
    (λ y same. let again = run-is-again rest y same in ap₂ (λ a b. N a b (run rest ++ y)) again.name again.past ∙ is y (run rest ++ y))
    (starts (after_run rest)) (alike.reread (after_run rest))))
  where
    F : List ℕ → Reading A
    F x = N (run x) (after_run x) x
reread-named {A = A} N rest (is_wrong is) =
    stopped-here true F rest (F rest) (is (after_run rest) rest)
    (refused-named F rest (λ y same. ap (λ a. N a (after_run y) y) same ∙ is (after_run y) y))
  where
    F : List ℕ → Reading A
    F x = N (run x) (after_run x) x
