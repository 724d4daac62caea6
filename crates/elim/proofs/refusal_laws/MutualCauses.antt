-- Each refusal of families that refer to each other has its cause.
use Rattle.std.proofs.Common.{◌≡◌, ◌≢◌, ℕ, suc, ◌+◌, ◌==◌, nat_le, Bool, true, false, cond, Option, Some, None, List, [], ◌∷◌, length, slice_get, Result, Ok, Err, IfErr, refl, sym, ◌∙◌, subst as transport, arith}
use Rattle.std.proofs.lemmas.Bool.Decides.{nat_tests}
use Rattle.theory.specs.Telescopes.{Telescope, context_behind}
use Rattle.theory.specs.Terms.{Term, Var, Sort, Pi, Lam, App, Let, Const, Fam, Con, Elim, AxiomK, top}
use Rattle.theory.specs.Signatures.{Signature}
use Rattle.core_terms.specs.Answers.{and_then}
use Rattle.core_terms.specs.Verdicts.{Verdict, Yes, No}
use Rattle.core_terms.specs.declared.stop.Stop.{Stop}
use Rattle.core_terms.specs.declared.stop.Stop.TheVariants as stopped_for
use Rattle.core_terms.proofs.Answers.{Splits, split-parts}
use Rattle.core_sig.specs.Drafts.{Draft, drafted}
use Rattle.core_sig.specs.Raw.{MutualRaw, RawMember}
use Rattle.core_text.specs.RawEntries.{RawEntry}
use Rattle.clause_reports.proofs.Keeping.{Any}
use Rattle.clause_reports.specs.elaboration.Refusals as function
use Rattle.family_check.specs.Asking.{sort_in}
use Rattle.family_check.specs.Entering.{Entered}
use Rattle.family_check.specs.Outcomes.{FamilyStop, OfParameter, Site, Stopped, Denied, on_part}
use Rattle.family_check.specs.Outcomes as family
use Rattle.kernel_check.specs.Checking.{infer_sort_of}
use Rattle.kernel_reduce.specs.Comparison.{convertible_of}
use Rattle.kernel_reduce.specs.Reduction.{nesting}
use Rattle.surface_syntax.specs.Trees as surf
use Rattle.surface_syntax.specs.declared.tree.Word.{Word}
use Rattle.surface_syntax.specs.word_laws.Words.{Each}
use Rattle.resolve.specs.DeclaredNames.{first_name}
use Rattle.resolve.specs.Mutual.{resolve_mutual}
use Rattle.resolve.specs.declared.stop.ResolveStop.{ResolveStop}
use Rattle.elab_session.specs.Entering.{answered, checked, refused, constructor_names, part_signature, word_of}
use Rattle.elab_session.specs.Refusals.{stopped, unentered, unresolved}
use Rattle.elab_session.specs.declared.refusal.Refusal.{Refusal}
use Rattle.function_session.specs.Refusals.{refused_function}
use Rattle.function_session.specs.function_lines.Opened.{draft_in}
use Rattle.function_session.specs.mutual_families.Declaring.{declare_mutual}
use Rattle.function_session.specs.mutual_families.Entering.{inductions_of}
use Rattle.function_session.specs.mutual_families.EquationLines.{equation_of}
use Rattle.function_session.specs.mutual_families.Refusals.{or_refused, unpacked}
use Rattle.mutual_pack.specs.Inductions.{induction_name}
use Rattle.mutual_pack.specs.Members.{offence_among}
use Rattle.mutual_pack.specs.Packing.{bounded_packed, common_level, is_low_packed, is_sort, level_from, members_have_low_types, members_of, other_level, pack, pack_at, pack_low, packed_with, unless_offended, unless_other}
use Rattle.mutual_pack.specs.declared.stop.MutualStop.{MutualStop}
use Rattle.mutual_pack.specs.declared.stop.MutualStop.TheVariants as stop
use Rattle.elim.specs.refusal_laws.MutualCauses.{CheckerCause, IsOtherLevel, IsRefusedMutual, MutualIsCaused, PackingCause, first, later, of_checker, of_name, of_packing}
use Rattle.elim.proofs.elim_program.MutualPhases.{Comes, Phases, mutual-comes}
use Rattle.elim.proofs.elim_program.PackedOutcomes.{EntryIs, any-names, drafts-are, entries-are, packed_at}
use Rattle.elim.proofs.refusal_laws.Decisions.{IfDenied, opened-denied}

-- ---- levels

-- the first member, of those from `number` on, with another type
record IsFound (l number : ℕ) (members : List RawMember) (k : ℕ) : Type 0 where
  at : ℕ
  member : RawMember
  there : slice_get members at ≡ Some member
  other : member.type ≢ Sort l
  place : k ≡ number + at

not-sort : (l : ℕ) (t : Term) → is_sort l t ≡ false → t ≢ Sort l
not-sort l t e same = let f : is_sort l (Sort l) ≡ false = transport (λ x. is_sort l x ≡ false) same e in grind (arith, nat_tests)

other-found : (l number : ℕ) (members : List RawMember) (k : ℕ) → other_level l number members ≡ Some k → IsFound l number members k
other-found l number [] k e = absurd cc
other-found l number (m ∷ members) k e = by (is_sort l m.type) refl (other-found l (number + 1) members k) e
  where
    by : (b : Bool) → is_sort l m.type ≡ b → (other_level l (number + 1) members ≡ Some k → IsFound l (number + 1) members k)
        → cond b (other_level l (number + 1) members) (Some number) ≡ Some k → IsFound l number (m ∷ members) k
    by true is behind e =
        let h = behind e in
        let place = h.place in record { at = suc h.at; member = h.member; there = h.there; other = h.other; place = omega (arith, place) }
    by false is behind e =
        let same : number ≡ k = cc in record { at = 0; member = m; there = refl; other = not-sort l m.type is; place = omega (arith, same) }

LevelCause : List RawMember → MutualStop → Type 0
LevelCause members (stop.MemberLevel k) = IsOtherLevel members k
LevelCause members e = ⊥

level-caused : (m : RawMember) (members : List RawMember) (type : Term) → m.type ≡ type → IfErr (level_from type members) (LevelCause (m ∷ members))
unfolding LevelCause
level-caused m members (Sort l) is = by (nat_le (l + 2) top) refl
  where
    others : (o : Option ℕ) → other_level l 2 members ≡ o → nat_le (l + 2) top ≡ true → IfErr (unless_other l o) (LevelCause (m ∷ members))
    others None e room = tt
    others (Some k) e room =
        let h = other-found l 2 members k e in
        let place : h.at + 2 ≡ k = let p = h.place in omega (arith, p) in
        transport (IsOtherLevel (m ∷ members)) place (later m h.member l h.at refl (is, grind (arith, nat_tests)) (let step : h.at + 1 ≡ suc h.at = omega arith in
        transport (λ n. slice_get (m ∷ members) n ≡ Some h.member) (sym step) h.there) h.other)

    by : (b : Bool) → nat_le (l + 2) top ≡ b → IfErr (cond b (unless_other l (other_level l 2 members)) (Err (stop.MemberLevel 1))) (LevelCause (m ∷ members))
    by true room = others (other_level l 2 members) refl room
    by false room = first m refl (λ j at. let same : Sort l ≡ Sort j = sym is ∙ at.0 in let low = at.1 in let levels : l ≡ j = cc in grind (arith, nat_tests))
level-caused m members (Var n) is = first m refl (λ j at. let same : Var n ≡ Sort j = sym is ∙ at.0 in cc)
level-caused m members (Pi a b) is = first m refl (λ j at. let same : Pi a b ≡ Sort j = sym is ∙ at.0 in cc)
level-caused m members (Lam a b) is = first m refl (λ j at. let same : Lam a b ≡ Sort j = sym is ∙ at.0 in cc)
level-caused m members (App a b) is = first m refl (λ j at. let same : App a b ≡ Sort j = sym is ∙ at.0 in cc)
level-caused m members (Let a b c) is = first m refl (λ j at. let same : Let a b c ≡ Sort j = sym is ∙ at.0 in cc)
level-caused m members (Const n) is = first m refl (λ j at. let same : Const n ≡ Sort j = sym is ∙ at.0 in cc)
level-caused m members (Fam n) is = first m refl (λ j at. let same : Fam n ≡ Sort j = sym is ∙ at.0 in cc)
level-caused m members (Con n c) is = first m refl (λ j at. let same : Con n c ≡ Sort j = sym is ∙ at.0 in cc)
level-caused m members (Elim n k) is = first m refl (λ j at. let same : Elim n k ≡ Sort j = sym is ∙ at.0 in cc)
level-caused m members (AxiomK i k) is = first m refl (λ j at. let same : AxiomK i k ≡ Sort j = sym is ∙ at.0 in cc)

-- ---- what is not packed

module _ (S : Signature) (raw : MutualRaw) where
  abbrev Caused : MutualStop → Type 0
  Caused e = PackingCause S raw (unpacked raw e)

  of-levels : (members : List RawMember) → raw.members ≡ members → IfErr (common_level members) Caused
  unfolding LevelCause
  of-levels [] is = tt
  of-levels (m ∷ members) is = by (level_from m.type members) (level-caused m members m.type refl)
    where
      by : (r : Result ℕ MutualStop) → IfErr r (LevelCause (m ∷ members)) → IfErr r Caused
      by (Ok l) h = tt
      by (Err (stop.MemberLevel k)) h = transport (λ ms. IsOtherLevel ms k) (sym is) h
      by (Err stop.Memory) h = absurd h
      by (Err stop.Deep) h = absurd h
      by (Err stop.TagCount) h = absurd h
      by (Err (stop.NotPositive n k)) h = absurd h

  then-caused : {A B : Type 0} (r : Result A MutualStop) (go : A → Result B MutualStop) → IfErr r Caused → ((a : A) → IfErr (go a) Caused) → IfErr (and_then r go) Caused
  then-caused (Ok a) go h k = k a
  then-caused (Err e) go h k = h

  of-offence : (o : Option (ℕ × ℕ)) → offence_among (members_of (length S.entries) raw) 0 raw.members ≡ o → IfErr (unless_offended o) Caused
  of-offence None e = tt
  of-offence (Some (n, k)) e = (n, e, refl)

  of-height : (l : ℕ) (b : Bool) → IfErr (cond b (Ok (packed_with (members_of (length S.entries) raw) l raw)) (Err stop.Deep)) Caused
  of-height l true = tt
  of-height l false = tt

  of-tags : (b : Bool) → (length raw.tags == length raw.members) ≡ b
      → IfErr (cond b (and_then (common_level raw.members) (λ l. pack_at (members_of (length S.entries) raw) l raw)) (Err stop.TagCount)) Caused
  of-tags true e =
      let g = members_of (length S.entries) raw in
      then-caused (common_level raw.members) (λ l. pack_at g l raw) (of-levels raw.members refl) (λ l.
      then-caused (unless_offended (offence_among g 0 raw.members)) (λ u. bounded_packed (packed_with g l raw)) (of-offence (offence_among g 0 raw.members) refl) (λ u.
      of-height l (is_low_packed (packed_with g l raw))))
  of-tags false e = (refl, λ same. grind (arith, nat_tests))

  of-types : (b : Bool) → IfErr (cond b (pack_low (members_of (length S.entries) raw) raw) (Err stop.Deep)) Caused
  of-types true = of-tags (length raw.tags == length raw.members) refl
  of-types false = tt

  packing-caused : (e : MutualStop) → pack (length S.entries) raw ≡ Err e → Caused e
  packing-caused e is = transport (λ r. IfErr r Caused) is (of-types (members_have_low_types raw.members))

-- ---- the checker

of-stop : (fuel : ℕ) (e : Stop) → CheckerCause (stopped fuel e)
of-stop fuel stopped_for.Memory = tt
of-stop fuel stopped_for.Fuel = tt
of-stop fuel stopped_for.Deep = tt
of-stop fuel stopped_for.PoolFull = tt

all-stops : {A : Type 0} (fuel : ℕ) (r : Result A Stop) → IfErr r (λ e. CheckerCause (stopped fuel e))
all-stops fuel (Ok a) = tt
all-stops fuel (Err e) = of-stop fuel e

of-entry : (U : Signature) (start fuel : ℕ) (raw : RawEntry) (left : ℕ) (e : FamilyStop) → (checked U raw left).0 ≡ Err e → CheckerCause (refused U start fuel raw e)
of-entry U start fuel raw left (Stopped e) is = of-stop fuel e
of-entry U start fuel raw left (Denied site d) is = tt
of-entry U start fuel raw left (family.NotPositive n k) is =
    record { signature = U; entry = raw; left = left; number = n; refused = is; named = refl }
of-entry U start fuel raw left (family.TooLarge None k) is = tt
of-entry U start fuel raw left (family.TooLarge (Some n) k) is = tt
of-entry U start fuel raw left family.BadFamily is = tt
of-entry U start fuel raw left family.Duplicate is = by (word_of start raw)
  where
    by : (x : Option Word) → CheckerCause (unentered (part_signature U raw) (constructor_names raw) x fuel family.Duplicate)
    by (Some x) = tt
    by None = tt

of-part : (S : Signature) (fuel : ℕ) (x : Word) (site : Site) (r : Result Verdict Stop)
    → IfErr (on_part site r) (λ e. CheckerCause (unentered (λ other. S) [] (Some x) fuel e))
of-part S fuel x site (Ok (Yes type)) = tt
of-part S fuel x site (Ok (No d)) = tt
of-part S fuel x site (Err e) = of-stop fuel e

of-sort : (S : Signature) (fuel : ℕ) (x : Word) (site : Site) (G : Telescope) (a : Term) (left : ℕ)
    → IfErr (sort_in S site G a left).0 (λ e. CheckerCause (unentered (λ other. S) [] (Some x) fuel e))
unfolding sort_in
of-sort S fuel x site G a left = of-part S fuel x site (infer_sort_of S nesting G a left).0

of-draft : (fuel : ℕ) (e : function.Refusal) → IfDenied e → CheckerCause (refused_function fuel e)
of-draft fuel (function.Halts e) h = of-stop fuel e
of-draft fuel (function.IllTyped part place context why) h = tt
of-draft fuel (function.WrongConstructor owner context type) h = tt
of-draft fuel (function.Stuck owner context left right why) h = tt
of-draft fuel (function.Uncovered name context vector) h = tt
of-draft fuel (function.NotAbsurd owner constructor) h = tt
of-draft fuel (function.Impossible owner context left right) h = tt
of-draft fuel (function.DotMismatch owner context written forced) h = tt
of-draft fuel (function.SelfInType owner) h = tt
of-draft fuel (function.NotSmaller calls) h = tt
of-draft fuel (function.Rejected r) h = h

-- ---- phases

induction-any : (fuel : ℕ) (member : List ℕ) → Any member → (base : ℕ) (names : List (List ℕ)) (type term : Term)
    → Splits Any (λ e. CheckerCause (stopped fuel e)) (drafted (induction_name member) base names type term)
induction-any fuel member h base names type term = by (drafted (induction_name member) base names type term)
  where
    by : (r : Result Draft Stop) → Splits Any (λ e. CheckerCause (stopped fuel e)) r
    by (Ok d) = tt
    by (Err e) = of-stop fuel e

module _ (S : Signature) (fuel : ℕ) (params : List surf.Typed) (members : List surf.Member) (f tag : Word) (tags : List Word) where
  abbrev Refused : Refusal → Type 0
  Refused e = IsRefusedMutual S (surf.Mutual params members f tag tags) e

  abbrev Resolved : MutualRaw → Type 0
  Resolved raw = resolve_mutual S (surf.Mutual params members f tag tags) ≡ Ok raw

  by-names : (r : Result MutualRaw ResolveStop) → resolve_mutual S (surf.Mutual params members f tag tags) ≡ r → Splits Resolved (λ e. Refused (unresolved e)) r
  by-names (Ok raw) is = is
  by-names (Err e) is = of_name e is refl

  by-checker : {A E : Type 0} (P : A → ℕ → Type 0) (refusal : E → Refusal) (r : Result A E) (left : ℕ) → IfErr r (λ e. CheckerCause (refusal e))
      → ((a : A) → P a left) → Comes P Refused (or_refused refusal r) left
  by-checker P refusal (Ok a) left h k = k a
  by-checker P refusal (Err e) left h k = of_checker h

  by-entry : (U : Signature) (raw : RawEntry) (left : ℕ) (r : Result Entered FamilyStop) (rest : ℕ) → (checked U raw left).0 ≡ r
      → Comes (λ (e : Entered) rest. Unit {0}) Refused (answered (refused U (first_name members f).start fuel raw) r) rest
  by-entry U raw left (Ok e) rest is = tt
  by-entry U raw left (Err e) rest is = of_checker (of-entry U (first_name members f).start fuel raw left e is)

  by-draft : (r : Result Signature function.Refusal) (rest : ℕ) → IfErr r IfDenied
      → Comes (λ (U : Signature) rest. Unit {0}) (λ e. Refused (refused_function fuel e)) r rest
  by-draft (Ok T) rest h = tt
  by-draft (Err e) rest h = of_checker (of-draft fuel e h)

  by-stops : {A : Type 0} (r : Result A Stop) → IfErr r (λ e. CheckerCause (stopped fuel e)) → IfErr r (λ e. Refused (stopped fuel e))
  by-stops (Ok a) h = tt
  by-stops (Err e) h = of_checker h

  by-inductions : {A : Type 0} (P : A → Type 0) (r : Result A Stop) → Splits P (λ e. CheckerCause (stopped fuel e)) r → Splits P (λ e. Refused (stopped fuel e)) r
  by-inductions P (Ok a) h = h
  by-inductions P (Err e) h = of_checker h

  phases : Phases draft_in S fuel (surf.Mutual params members f tag tags) (λ U left. Unit {0}) Refused Resolved (EntryIs Any Any) Any Any
  phases =
      let x = first_name members f in
      record {
        start = tt;
        names = by-names (resolve_mutual S (surf.Mutual params members f tag tags)) refl;
        named = λ raw given. (any-names raw).members;
        parameter = λ before a left i.
            (let site = OfParameter (length before + 1) in
            let sort = sort_in S site (context_behind [] before) a left in
            by-checker (λ sort rest. Unit {0}) (unentered (λ other. S) [] (Some x) fuel) sort.0 sort.1 (of-sort S fuel x site (context_behind [] before) a left) (λ sort. tt));
        unpacks = λ raw given e is. of_packing raw given (packing-caused S raw e is);
        entered = λ raw given l. entries-are Any Any tt S raw (any-names raw) tt l;
        entry = λ U raw left i h. (let outcome = checked U raw left in by-entry U raw left outcome.0 outcome.1 refl);
        inductions = λ raw given l U.
            by-inductions (Each Any) (inductions_of U (packed_at S raw l))
            (drafts-are Any Any (λ e. CheckerCause (stopped fuel e)) tt (induction-any fuel) S raw (any-names raw) l U);
        draft = λ U one left i k. (let outcome = draft_in U x.text one left in by-draft outcome.0 outcome.1 (opened-denied U x.text one left));
        equation = λ T packed k con. by-stops (equation_of T packed k con) (all-stops fuel (equation_of T packed k con));
        converts = λ T left right units.
            (let compared = (convertible_of T nesting left right units).0 in by-stops compared (all-stops fuel compared));
        unequal = λ T left i member con hm hc packed k number units sides is same.
            of_checker (record {
              signature = T;
              packed = packed;
              k = k;
              con = number;
              sides = sides;
              is = is;
              units = units;
              apart = same;
              member = member;
              name = con;
              shown = refl;
            });
      }

  mutual-refused : IfErr (declare_mutual draft_in S fuel (surf.Mutual params members f tag tags)) Refused
  mutual-refused =
      (split-parts Any Refused (declare_mutual draft_in S fuel (surf.Mutual params members f tag tags))
      (mutual-comes draft_in S fuel (surf.Mutual params members f tag tags) (λ U left. Unit {0}) Refused Resolved (EntryIs Any Any) Any Any phases Any (λ raw T left given i. tt))).1

pub mutual-is_caused : MutualIsCaused
mutual-is_caused s params members family tag tags e is =
    transport (λ r. IfErr r (IsRefusedMutual s.signature (surf.Mutual params members family tag tags))) is
    (mutual-refused s.signature s.fuel params members family tag tags)
