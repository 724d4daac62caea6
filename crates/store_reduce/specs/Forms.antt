-- Terms that take no head step, with the heads and the numbers of their arguments.
use Rattle.std.specs.Prelude.{◌≡◌, ℕ, IsTrue, Option, None, Some, unwrap_or, length, Result, Ok, Err}
use Rattle.theory.specs.Terms.{Term, Sort, Lam}
use Rattle.theory.specs.Signatures.{Signature}
use Rattle.kernel_reduce.specs.Steps.{contraction}
use Rattle.theory.specs.Spines.{head_of, spine_of}
use Rattle.core_terms.specs.Answers.{Spent, Unless}
use Rattle.core_terms.specs.declared.stop.Stop.{Stop}
use Rattle.core_terms.specs.declared.stop.Stop.TheVariants.{Memory, PoolFull}
use Rattle.term_pool.specs.Held.{Held}
use Rattle.store_reduce.specs.declared.form.Form.{Form}
use Rattle.store_reduce.specs.declared.form.Turn.{Turn}
use Rattle.store_reduce.specs.declared.form.Turn.TheVariants.{Rests, Goes}
use Rattle.store_reduce.specs.declared.form.Stepped.{Stepped}
use Rattle.store_reduce.specs.declared.form.Stepped.TheVariants.{Stays, Steps}

-- the body of a function
abbrev pub function_body : Term → Option Term
function_body (Lam a b) = Some b
function_body _ = None

-- the contraction of `f`, that awaits its scrutinee, at `u`
unfoldable pub contracted : Signature → Term → Term → Term
contracted S f u = unwrap_or (contraction S (head_of f) (spine_of f) (head_of u) (spine_of u)) (Sort 0)

module _ {I : Type 0} where
  -- the form is of live ids, and has the head and the number of arguments of its tree
  pub record IsForm (held : Held I) (f : Form I) : Type 0 where
    pub live : IsTrue (held.live f.id)
    pub head_live : IsTrue (held.live f.head)
    pub head : held.tree f.head ≡ head_of (held.tree f.id)
    pub count : f.count ≡ length (spine_of (held.tree f.id))

  -- The answer of a turn and the units that it left stand for `meant`, where a term that goes on is reduced further by `next`.
  abbrev pub TurnsIn : (I → Term) → (ℕ → Term → Spent Term) → Result (Turn I) Stop → ℕ → Spent Term → Type 0
  TurnsIn tree next (Ok (Rests f)) left meant = (Ok (tree f.id), left) ≡ meant
  TurnsIn tree next (Ok (Goes id)) left meant = next left (tree id) ≡ meant
  TurnsIn tree next (Err e) left meant = Unless (e ≡ Memory) (Unless (e ≡ PoolFull) ((Err e, left) ≡ meant))

  -- the form is of a term that rests: it stands for `meant`, has its head and the number of its arguments
  abbrev pub RestsIn : Held I → Result (Form I) Stop → Term → Type 0
  RestsIn held (Ok f) meant = IsForm held f × (held.tree f.id ≡ meant)
  RestsIn held (Err e) meant = Unless (e ≡ Memory) (e ≡ PoolFull)

  -- P holds of a form that rests
  abbrev pub IfRests : Result (Turn I) Stop → (Form I → Type 0) → Type 0
  IfRests (Ok (Rests f)) P = P f
  IfRests _ P = Unit {0}

  -- P holds of an id that goes on
  abbrev pub IfGoes : Result (Turn I) Stop → (I → Type 0) → Type 0
  IfGoes (Ok (Goes id)) P = P id
  IfGoes _ P = Unit {0}

  -- the answer and the units that are left stand for `meant`, a step or none
  abbrev pub StepsIn : (I → Term) → Result (Stepped I) Stop → ℕ → Spent (Option Term) → Type 0
  StepsIn tree (Ok (Stays f)) left meant = (Ok None, left) ≡ meant
  StepsIn tree (Ok (Steps id)) left meant = (Ok (Some (tree id)), left) ≡ meant
  StepsIn tree (Err e) left meant = Unless (e ≡ Memory) (Unless (e ≡ PoolFull) ((Err e, left) ≡ meant))

  -- P holds of a form that stays
  abbrev pub IfStays : Result (Stepped I) Stop → (Form I → Type 0) → Type 0
  IfStays (Ok (Stays f)) P = P f
  IfStays _ P = Unit {0}

  -- P holds of the id of a step
  abbrev pub IfSteps : Result (Stepped I) Stop → (I → Type 0) → Type 0
  IfSteps (Ok (Steps id)) P = P id
  IfSteps _ P = Unit {0}
