-- The grammar, as relations between the lexemes that are read, those that are left after them, and a tree.
use Rattle.std.specs.Prelude.{◌≡◌, ℕ, ◌+◌, Bool, true, List, [], ◌∷◌, length, Option, Some, None, nat_lt}
use Rattle.surface_syntax.specs.Trees as tree
use Rattle.surface_syntax.specs.declared.tree.Word.{Word}
use Rattle.surface_syntax.specs.declared.lexeme.Lexeme.{Lexeme}
use Rattle.surface_syntax.specs.declared.lexeme.Lexeme.TheVariants as x

-- an application of the head to arguments, or the head itself where there are none
abbrev pub applied : tree.Surf → List tree.Surf → tree.Surf
applied h [] = h
applied h (a ∷ args) = tree.App h (tree.surfs (a ∷ args))

-- nothing is inside 2,000 other terms, patterns and clauses
abbrev pub limit : ℕ → ℕ → Bool
limit d n = nat_lt d 2000

-- `allows d n` says whether a term, pattern or clause may begin inside `d` others where `n` lexemes are left.
module _ (allows : ℕ → ℕ → Bool) where
  -- such a production may begin here
  abbrev pub May : ℕ → List Lexeme → Type 0
  May d ts = allows d (length ts) ≡ true

  -- the names of a binder
  pub data Names : List Lexeme → List Lexeme → List (Option Word) → Type 0 where
    name : {w : Word} {ts : List Lexeme} → Names (x.Plain w ∷ ts) ts (Some w ∷ [])
    blank : {ts : List Lexeme} → Names (x.Underscore ∷ ts) ts (None ∷ [])
    names : {w : Word} {ts rest : List Lexeme} {ns : List (Option Word)} → Names ts rest ns → Names (x.Plain w ∷ ts) rest (Some w ∷ ns)
    blanks : {ts rest : List Lexeme} {ns : List (Option Word)} → Names ts rest ns → Names (x.Underscore ∷ ts) rest (None ∷ ns)

  -- `Term d ts rest t`: the lexemes `ts` are a term `t` inside `d` other productions, and then `rest`
  mutual
    pub data Term : ℕ → List Lexeme → List Lexeme → tree.Surf → Type 0 where
      lam : {d : ℕ} {ts us rest : List Lexeme} {bs : List tree.Binder} {b : tree.Surf} → May d (x.Backslash ∷ ts) →
          Binders d ts (x.Arrow ∷ us) bs → Term (d + 1) us rest b → Term d (x.Backslash ∷ ts) rest (tree.Lam (tree.binders bs) b)
      pi : {d : ℕ} {ts us rest : List Lexeme} {bs : List tree.Binder} {b : tree.Surf} → May d ts →
          Binders d ts (x.Arrow ∷ us) bs → Term (d + 1) us rest b → Term d ts rest (tree.Pi (tree.binders bs) b)
      app : {d : ℕ} {ts us rest : List Lexeme} {h : tree.Surf} {args : List tree.Surf} → May d ts →
          Atom d ts us h → Atoms d us rest args → Term d ts rest (applied h args)
      arrow : {d : ℕ} {ts us vs rest : List Lexeme} {h b : tree.Surf} {args : List tree.Surf} → May d ts →
          Atom d ts us h → Atoms d us (x.Arrow ∷ vs) args → Term (d + 1) vs rest b → Term d ts rest (tree.Arrow (applied h args) b)
      «let» : {d : ℕ} {w : Word} {ts us vs rest : List Lexeme} {a t b : tree.Surf} → May d (x.Let ∷ x.Plain w ∷ x.Colon ∷ ts) →
          Term (d + 1) ts (x.Equals ∷ us) a → Term (d + 1) us (x.In ∷ vs) t → Term (d + 1) vs rest b →
          Term d (x.Let ∷ x.Plain w ∷ x.Colon ∷ ts) rest (tree.Let w a t b)

    pub data Binders : ℕ → List Lexeme → List Lexeme → List tree.Binder → Type 0 where
      one : {d : ℕ} {ts rest : List Lexeme} {b : tree.Binder} → Binder d ts rest b → Binders d ts rest (b ∷ [])
      more : {d : ℕ} {ts us rest : List Lexeme} {b : tree.Binder} {bs : List tree.Binder} → Binder d ts us b → Binders d us rest bs → Binders d ts rest (b ∷ bs)

    pub data Binder : ℕ → List Lexeme → List Lexeme → tree.Binder → Type 0 where
      group : {d : ℕ} {ts us rest : List Lexeme} {ns : List (Option Word)} {a : tree.Surf} →
          Names ts (x.Colon ∷ us) ns → Term (d + 1) us (x.Close ∷ rest) a → Binder d (x.Open ∷ ts) rest (tree.Group ns a)

    pub data Atom : ℕ → List Lexeme → List Lexeme → tree.Surf → Type 0 where
      sort : {d i : ℕ} {ts : List Lexeme} → Atom d (x.Type ∷ x.Level i ∷ ts) ts (tree.Sort i)
      plain : {d : ℕ} {w : Word} {ts : List Lexeme} → Atom d (x.Plain w ∷ ts) ts (tree.Named w)
      dotted : {d : ℕ} {w : Word} {ts : List Lexeme} → Atom d (x.Dotted w ∷ ts) ts (tree.Named w)
      parens : {d : ℕ} {ts rest : List Lexeme} {t : tree.Surf} → Term (d + 1) ts (x.Close ∷ rest) t → Atom d (x.Open ∷ ts) rest t

    pub data Atoms : ℕ → List Lexeme → List Lexeme → List tree.Surf → Type 0 where
      end : {d : ℕ} {ts : List Lexeme} → Atoms d ts ts []
      next : {d : ℕ} {ts us rest : List Lexeme} {a : tree.Surf} {args : List tree.Surf} → Atom d ts us a → Atoms d us rest args → Atoms d ts rest (a ∷ args)

  -- `Pat d ts rest p n`: `ts` are a pattern inside `d` other productions, and then `rest`; `( )` occurs `n` times in the pattern
  mutual
    pub data Pat : ℕ → List Lexeme → List Lexeme → tree.Pat → ℕ → Type 0 where
      plain : {d : ℕ} {w : Word} {ts : List Lexeme} → May d (x.Plain w ∷ ts) → Pat d (x.Plain w ∷ ts) ts (tree.Name w) 0
      dotted : {d : ℕ} {w : Word} {ts : List Lexeme} → May d (x.Dotted w ∷ ts) → Pat d (x.Dotted w ∷ ts) ts (tree.Name w) 0
      wild : {d : ℕ} {ts : List Lexeme} → May d (x.Underscore ∷ ts) → Pat d (x.Underscore ∷ ts) ts tree.Wild 0
      dot : {d : ℕ} {ts rest : List Lexeme} {t : tree.Surf} → May d (x.Dot ∷ ts) → Atom d ts rest t → Pat d (x.Dot ∷ ts) rest (tree.Dot t) 0
      void : {d : ℕ} {ts : List Lexeme} → May d (x.Open ∷ x.Close ∷ ts) → Pat d (x.Open ∷ x.Close ∷ ts) ts tree.Void 1
      con : {d n : ℕ} {w : Word} {ts rest : List Lexeme} {ps : List tree.Pat} → May d (x.Open ∷ x.Plain w ∷ ts) →
          Pats (d + 1) ts (x.Close ∷ rest) ps n → Pat d (x.Open ∷ x.Plain w ∷ ts) rest (tree.Con w (tree.pats ps)) n
      dotted_con : {d n : ℕ} {w : Word} {ts rest : List Lexeme} {ps : List tree.Pat} → May d (x.Open ∷ x.Dotted w ∷ ts) →
          Pats (d + 1) ts (x.Close ∷ rest) ps n → Pat d (x.Open ∷ x.Dotted w ∷ ts) rest (tree.Con w (tree.pats ps)) n

    pub data Pats : ℕ → List Lexeme → List Lexeme → List tree.Pat → ℕ → Type 0 where
      end : {d : ℕ} {ts : List Lexeme} → Pats d ts ts [] 0
      next : {d n m : ℕ} {ts us rest : List Lexeme} {p : tree.Pat} {ps : List tree.Pat} → Pat d ts us p n → Pats d us rest ps m → Pats d ts rest (p ∷ ps) (n + m)

  -- A clause has a right side if no `( )` is in its patterns, and has none if `( )` occurs once.
  mutual
    pub data Clause : ℕ → List Lexeme → List Lexeme → tree.Clause → Type 0 where
      side : {d : ℕ} {f : Word} {ts us rest : List Lexeme} {ps : List tree.Pat} {t : tree.Surf} → May d (x.Plain f ∷ ts) →
          Pats (d + 1) ts (x.Equals ∷ us) ps 0 → Term (d + 1) us rest t → Clause d (x.Plain f ∷ ts) rest (tree.Is f ps (tree.Side t))
      inspect : {d : ℕ} {f : Word} {ts us vs rest : List Lexeme} {ps : List tree.Pat} {t : tree.Surf} {cs : List tree.Clause} → May d (x.Plain f ∷ ts) →
          Pats (d + 1) ts (x.With ∷ us) ps 0 → Term (d + 1) us (x.OpenBrace ∷ vs) t → Clauses (d + 1) vs rest cs →
          Clause d (x.Plain f ∷ ts) rest (tree.Is f ps (tree.With t (tree.clauses cs)))
      absurd : {d : ℕ} {f : Word} {ts rest : List Lexeme} {ps : List tree.Pat} → May d (x.Plain f ∷ ts) →
          Pats (d + 1) ts rest ps 1 → Clause d (x.Plain f ∷ ts) rest (tree.Is f ps tree.Absurd)

    -- clauses after `{` with the `}` that ends them
    pub data Clauses : ℕ → List Lexeme → List Lexeme → List tree.Clause → Type 0 where
      none : {d : ℕ} {ts : List Lexeme} → Clauses d (x.CloseBrace ∷ ts) ts []
      some : {d : ℕ} {ts rest : List Lexeme} {cs : List tree.Clause} → Listed d ts rest cs → Clauses d ts rest cs

    pub data Listed : ℕ → List Lexeme → List Lexeme → List tree.Clause → Type 0 where
      last : {d : ℕ} {ts rest : List Lexeme} {c : tree.Clause} → Clause d ts (x.CloseBrace ∷ rest) c → Listed d ts rest (c ∷ [])
      more : {d : ℕ} {ts us rest : List Lexeme} {c : tree.Clause} {cs : List tree.Clause} → Clause d ts (x.Semicolon ∷ us) c → Listed d us rest cs → Listed d ts rest (c ∷ cs)

  -- parameters of a family
  pub data Params : List Lexeme → List Lexeme → List tree.Typed → Type 0 where
    end : {ts : List Lexeme} → Params ts ts []
    next : {w : Word} {ts us rest : List Lexeme} {a : tree.Surf} {ps : List tree.Typed} → Term 0 ts (x.Close ∷ us) a → Params us rest ps →
        Params (x.Open ∷ x.Plain w ∷ x.Colon ∷ ts) rest (record { name = w; ty = a } ∷ ps)

  -- constructors, one at least, with the `}` that ends them
  pub data Listed_cons : List Lexeme → List Lexeme → List tree.Typed → Type 0 where
    last : {c : Word} {ts rest : List Lexeme} {a : tree.Surf} → Term 0 ts (x.CloseBrace ∷ rest) a →
        Listed_cons (x.Plain c ∷ x.Colon ∷ ts) rest (record { name = c; ty = a } ∷ [])
    more : {c : Word} {ts us rest : List Lexeme} {a : tree.Surf} {cs : List tree.Typed} → Term 0 ts (x.Semicolon ∷ us) a → Listed_cons us rest cs →
        Listed_cons (x.Plain c ∷ x.Colon ∷ ts) rest (record { name = c; ty = a } ∷ cs)

  -- constructors after `{` with the `}` that ends them
  pub data Cons : List Lexeme → List Lexeme → List tree.Typed → Type 0 where
    none : {ts : List Lexeme} → Cons (x.CloseBrace ∷ ts) ts []
    some : {ts rest : List Lexeme} {cs : List tree.Typed} → Listed_cons ts rest cs → Cons ts rest cs

  -- the members after the first, one at least
  pub data Members : List Lexeme → List Lexeme → List tree.Member → Type 0 where
    last : {w : Word} {ts us rest : List Lexeme} {a : tree.Surf} {cs : List tree.Typed} → Term 0 ts (x.OpenBrace ∷ us) a → Cons us rest cs →
        Members (x.With ∷ x.Plain w ∷ x.Colon ∷ ts) rest (record { name = w; ty = a; cons = cs } ∷ [])
    more : {w : Word} {ts us vs rest : List Lexeme} {a : tree.Surf} {cs : List tree.Typed} {ms : List tree.Member} → Term 0 ts (x.OpenBrace ∷ us) a →
        Cons us vs cs → Members vs rest ms → Members (x.With ∷ x.Plain w ∷ x.Colon ∷ ts) rest (record { name = w; ty = a; cons = cs } ∷ ms)

  -- tags, one at least, with the `}` that ends them
  pub data Tags : List Lexeme → List Lexeme → List Word → Type 0 where
    last : {w : Word} {rest : List Lexeme} → Tags (x.Plain w ∷ x.CloseBrace ∷ rest) rest (w ∷ [])
    more : {w : Word} {ts rest : List Lexeme} {tags : List Word} → Tags ts rest tags → Tags (x.Plain w ∷ x.Semicolon ∷ ts) rest (w ∷ tags)

  pub data Decl : List Lexeme → List Lexeme → tree.Decl → Type 0 where
    def : {w : Word} {ts us rest : List Lexeme} {a t : tree.Surf} → Term 0 ts (x.Equals ∷ us) a → Term 0 us rest t →
        Decl (x.Def ∷ x.Plain w ∷ x.Colon ∷ ts) rest (tree.Def w a t)
    decide : {w f e : Word} {rest : List Lexeme} → Decl (x.Def ∷ x.Plain w ∷ x.Equals ∷ x.Data ∷ x.Plain f ∷ x.Plain e ∷ rest) rest (tree.Decide w f e)
    family : {w : Word} {ts us vs rest : List Lexeme} {ps cs : List tree.Typed} {a : tree.Surf} →
        Params ts (x.Colon ∷ us) ps → Term 0 us (x.OpenBrace ∷ vs) a → Cons vs rest cs → Decl (x.Data ∷ x.Plain w ∷ ts) rest (tree.Data w ps a cs)
    families : {w f t : Word} {ts us vs xs ys rest : List Lexeme} {ps cs : List tree.Typed} {a : tree.Surf} {ms : List tree.Member} {tags : List Word} →
        Params ts (x.Colon ∷ us) ps → Term 0 us (x.OpenBrace ∷ vs) a → Cons vs xs cs →
        Members xs (x.In ∷ x.Plain f ∷ x.Plain t ∷ x.OpenBrace ∷ ys) ms → Tags ys rest tags →
        Decl (x.Data ∷ x.Plain w ∷ ts) rest (tree.Mutual ps (record { name = w; ty = a; cons = cs } ∷ ms) f t tags)
    function : {w : Word} {ts us rest : List Lexeme} {a : tree.Surf} {cs : List tree.Clause} →
        Term 0 ts (x.OpenBrace ∷ us) a → Clauses 0 us rest cs → Decl (x.Fun ∷ x.Plain w ∷ x.Colon ∷ ts) rest (tree.Fun w a (tree.clauses cs))

  -- the lexemes are these declarations
  pub data File : List Lexeme → List tree.Decl → Type 0 where
    end : File [] []
    next : {ts us : List Lexeme} {d : tree.Decl} {ds : List tree.Decl} → Decl ts us d → File us ds → File ts (d ∷ ds)
