-- The code finds the same constructor in a term as the definition.
use Rattle.std.proofs.Common.{◌≡◌, ◌≢◌, ℕ, ◌+◌, Option, Some, None, option_map, Result, Ok, List, length, take, drop, slice_get, refl, sym, ap, ap₂, ◌∙◌, subst, arith}
use Rattle.std.proofs.lemmas.List.{length-map}
use Rattle.std.proofs.lemmas.Option.{slice_get-map}
use Rattle.theory.specs.Terms.{Term, Con}
use Rattle.theory.specs.Spines.{head_of, spine_of}
use Rattle.theory.specs.Families as theory
use Rattle.theory.specs.Signatures.{Signature}
use Rattle.core_terms.specs.Meanings.{tree_of, tele_of}
use Rattle.core_terms.specs.declared.stop.Stop.{Stop}
use Rattle.core_terms.specs.declared.term.Term as code
use Rattle.core_terms.proofs.Builders.{ok_is}
use Rattle.core_sig.specs.Kinds.{HasKinds}
use Rattle.core_sig.specs.Meanings.{argument_of, constructor_of, family_of}
use Rattle.core_sig.specs.declared.family.Constructor.{Constructor}
use Rattle.core_sig.specs.declared.family.Family.{Family}
use Rattle.kernel_reduce.specs.Entries.{family_at}
use Rattle.unification.specs.Built as pure
use Rattle.unification.specs.Built.{built_of}
use Rattle.problems.specs.CodeBuilt.{AreOfOneFamily, IfThere, IsBuiltAs, split_of, teles_of}
use Rattle.problems.specs.declared.built.Built.{Built}
use Rattle.problems.proofs.BuiltForms.{some_arguments, all_arguments, built-is}

-- the definition counts as many arguments as the code
pub count-all : (f : Family) (c : Constructor) → length (family_of f).parameters + length (constructor_of (length f.params) c).arguments ≡ length f.params + length c.args
count-all f c = omega (arith, length-map f.params tree_of, length-map c.args (argument_of (length f.params)))

constructor-there : (f : Family) (c : Constructor) (number : ℕ) → slice_get f.cons number ≡ Some c → slice_get (family_of f).constructors number ≡ Some (constructor_of (length f.params) c)
constructor-there f c number e = slice_get-map (constructor_of (length f.params)) f.cons number ∙ ap (option_map (constructor_of (length f.params))) e

pub code-some : (S : Signature) (t : Term) (n number : ℕ) (f : Family) (c : Constructor) → head_of t ≡ Con n number → family_at S n ≡ Some (family_of f) → slice_get f.cons number ≡ Some c
    → length (spine_of t) ≢ length f.params + length c.args → built_of S t ≡ None
code-some S t n number f c head family there few =
    some_arguments S t n number head (family_of f) (constructor_of (length f.params) c) family (constructor-there f c number there) (λ e. few (e ∙ count-all f c))

pub code-all : (S : Signature) (t : Term) (b : Built) → head_of t ≡ Con b.family b.number → family_at S b.family ≡ Some (family_of b.record.now) → slice_get b.record.now.cons b.number ≡ Some b.con.now
    → length (spine_of t) ≡ length b.record.now.params + length b.con.now.args → HasKinds b.family b.record.now → IfThere (IsBuiltAs b) (built_of S t)
code-all S t b head family there all kinds =
    let f = b.record.now in
    let c = b.con.now in
    subst (IfThere (IsBuiltAs b))
    (sym (all_arguments S t b.family b.number head (family_of f) (constructor_of (length f.params) c) family (constructor-there f c b.number there) (all ∙ sym (count-all f c))))
    (record { n = refl; number = refl; family = refl; constructor = refl; kinds = kinds; there = there })

-- ---- from the constructor that the code has found

-- the constructor that a term is, by the numbers and the records of the code
abbrev pub from_code : Built → Term → pure.Built
from_code b t =
    let f = b.record.now in
    let count = length (tele_of f.params) in
    record { n = b.family; number = b.number; family = family_of f; constructor = constructor_of (length f.params) b.con.now; parameters = take count (spine_of t); arguments = drop count (spine_of t) }

-- a term is the constructor that the code has found, with all its arguments
pub record IsOf (S : Signature) (t : Term) (b : Built) : Type 0 where
  pub head : head_of t ≡ Con b.family b.number
  pub family : family_at S b.family ≡ Some (family_of b.record.now)
  pub there : slice_get b.record.now.cons b.number ≡ Some b.con.now
  pub all : length (spine_of t) ≡ length b.record.now.params + length b.con.now.args

pub of-pure : (S : Signature) (t : Term) (b : Built) (p : pure.Built) → built_of S t ≡ Some p → IsBuiltAs b p → IsOf S t b
of-pure S t b p e is =
    let h = built-is S t p e in
    record {
      head = h.head ∙ ap₂ Con is.n is.number;
      family = ap (family_at S) (sym is.n) ∙ (h.family ∙ ap Some is.family);
      there = is.there;
      all = h.all
          ∙ (ap₂ (λ (f : theory.Family) (c : theory.Constructor). length f.parameters + length c.arguments) is.family is.constructor
          ∙ count-all b.record.now b.con.now);
    }

of-there : (S : Signature) (t : Term) (b : Built) (o : Option pure.Built) → built_of S t ≡ o → IfThere (IsBuiltAs b) o → IsOf S t b
of-there S t b (Some p) e is = of-pure S t b p e is
of-there S t b None e is = absurd is

pub code-of : (S : Signature) (t : Term) (b : Built) → IfThere (IsBuiltAs b) (built_of S t) → IsOf S t b
code-of S t b is = of-there S t b (built_of S t) refl is

pub of-built : (S : Signature) (t : Term) (b : Built) → IsOf S t b → built_of S t ≡ Some (from_code b t)
of-built S t b h =
    all_arguments S t b.family b.number h.head (family_of b.record.now) (constructor_of (length b.record.now.params) b.con.now) h.family
    (constructor-there b.record.now b.con.now b.number h.there) (h.all ∙ sym (count-all b.record.now b.con.now))

con-number : (t : Term) (n m i j : ℕ) → head_of t ≡ Con n i → head_of t ≡ Con m j → n ≡ m
con-number t n m i j e f = cc

some-is : {A : Type 0} {a b : A} → ◌≡◌ {A = Option A} (Some a) (Some b) → a ≡ b
some-is e = cc

same-constructor : (b d : Built) → family_of d.record.now ≡ family_of b.record.now → b.number ≡ d.number → slice_get b.record.now.cons b.number ≡ Some b.con.now
    → slice_get d.record.now.cons d.number ≡ Some d.con.now → constructor_of (length d.record.now.params) d.con.now ≡ constructor_of (length b.record.now.params) b.con.now
same-constructor b d family same there other =
    some-is (sym (constructor-there d.record.now d.con.now d.number other)
    ∙ (ap₂ (λ (f : theory.Family) number. slice_get f.constructors number) family (sym same) ∙ constructor-there b.record.now b.con.now b.number there))

same-record : (S : Signature) (n : ℕ) (f g : theory.Family) → family_at S n ≡ Some f → family_at S n ≡ Some g → f ≡ g
same-record S n f g e k = cc

-- Two terms are constructors of one family with one number: the one found in the first is right for the second.
pub other-of : (S : Signature) (l r : Term) (b d : Built) → IfThere (IsBuiltAs b) (built_of S l) → IfThere (IsBuiltAs d) (built_of S r) → AreOfOneFamily S l r → b.number ≡ d.number → IsOf S r b
other-of S l r b d hl hr one same =
    let x = code-of S l b hl in
    let y = code-of S r d hr in
    let p = built-is S l one.b one.left in
    let q = built-is S r one.d one.right in
    let n : d.family ≡ b.family = con-number r d.family one.d.n d.number one.d.number y.head q.head ∙ (one.family ∙ con-number l one.b.n b.family one.b.number b.number p.head x.head) in
    let family : family_of d.record.now ≡ family_of b.record.now = same-record S b.family (family_of d.record.now) (family_of b.record.now) (ap (family_at S) (sym n) ∙ y.family) x.family in
    let constructor = same-constructor b d family same x.there y.there in
    record {
      head = y.head ∙ ap₂ Con n (sym same);
      family = x.family;
      there = x.there;
      all = y.all
          ∙ (sym (count-all d.record.now d.con.now)
          ∙ (ap₂ (λ (f : theory.Family) (c : theory.Constructor). length f.parameters + length c.arguments) family constructor
          ∙ count-all b.record.now b.con.now));
    }

-- ---- a spine that is split

pub split-first : (lists : List code.Term × List code.Term) (n m : ℕ) (t : Term) → ◌≡◌ {A = Result (List Term × List Term) Stop} (Ok (teles_of lists)) (Ok (split_of n t)) → n ≡ m → tele_of lists.0 ≡ take m (spine_of t)
split-first lists n m t is e = ap (λ (r : List Term × List Term). r.0) (ok_is is) ∙ ap (λ n. take n (spine_of t)) e

pub split-rest : (lists : List code.Term × List code.Term) (n m : ℕ) (t : Term) → ◌≡◌ {A = Result (List Term × List Term) Stop} (Ok (teles_of lists)) (Ok (split_of n t)) → n ≡ m → tele_of lists.1 ≡ drop m (spine_of t)
split-rest lists n m t is e = ap (λ (r : List Term × List Term). r.1) (ok_is is) ∙ ap (λ n. drop n (spine_of t)) e

-- a constructor that the code has found is found by the definition too
pub code-there : (b : Built) (o : Option pure.Built) → IfThere (IsBuiltAs b) o → (p : pure.Built) × (o ≡ Some p) × IsBuiltAs b p
code-there b (Some p) is = (p, refl, is)
code-there b None is = absurd is
