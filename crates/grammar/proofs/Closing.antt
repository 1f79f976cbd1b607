-- Every state can be closed: the tree that closes it begins with what was read.
use Rattle.std.proofs.Common.{◌≡◌, ℕ, ◌≤◌, List, [], ◌∷◌, ◌++◌, refl, ap, ◌∙◌, arith}
use Rattle.lexer.specs.Token.{Terminal, identifier, integer, keyword, symbol}
use Rattle.lexer.specs.declared.token.Keyword.TheVariants as word
use Rattle.lexer.specs.declared.token.Symbol.TheVariants as sign
use Rattle.grammar.specs.Tree.{Expr, Args, Text, Bare, BareClass, BareText}
use Rattle.grammar.specs.Grammar.{Kind, toks, name_toks, class_toks, tokens_of, level, Formed, FormedMethods, FormedText, operand}
use Rattle.grammar.specs.Machine.{Target, write, Callee, call, Bracket, Context, room, Stage, State, with_method}
use Rattle.grammar.proofs.Tokens.{names-last, methods-last, formed-last}
use Rattle.grammar.proofs.Reading.{bracket_toks, read_k, read_at, read, FineCallee, FineBracket, FineK, FineAt, Fine, roomy}

-- the expression 0 and the name a
abbrev digits : List ℕ
digits = 48 ∷ []

abbrev nought : Bare
nought = Expr.int tt digits

abbrev letter : List ℕ
letter = 97 ∷ []

-- the expression that closes the bracket, and the tokens that do
abbrev filled : Bracket → Bare → Bare
filled Bracket.condition e = Expr.if_then_else tt e nought nought
filled (Bracket.consequent c) e = Expr.if_then_else tt c e nought
filled (Bracket.alternative c d) e = Expr.if_then_else tt c d e
filled Bracket.guard e = Expr.while_do tt e nought
filled (Bracket.loop c) e = Expr.while_do tt c e
filled (Bracket.argument f xs) e = call f (Args.more xs e)

abbrev close_bracket : Bracket → List Terminal → List Terminal
close_bracket Bracket.condition r = keyword word.Then ∷ integer digits ∷ keyword word.Else ∷ integer digits ∷ keyword word.End ∷ r
close_bracket (Bracket.consequent c) r = keyword word.Else ∷ integer digits ∷ keyword word.End ∷ r
close_bracket (Bracket.alternative c d) r = keyword word.End ∷ r
close_bracket Bracket.guard r = keyword word.Do ∷ integer digits ∷ keyword word.End ∷ r
close_bracket (Bracket.loop c) r = keyword word.End ∷ r
close_bracket (Bracket.argument f xs) r = symbol sign.CloseParen ∷ r

filled-toks : (b : Bracket) (e : Bare) (r : List Terminal) → toks (filled b e) r ≡ bracket_toks b (toks e (close_bracket b r))
filled-toks Bracket.condition e r = refl
filled-toks (Bracket.consequent c) e r = refl
filled-toks (Bracket.alternative c d) e r = refl
filled-toks Bracket.guard e r = refl
filled-toks (Bracket.loop c) e r = refl
filled-toks (Bracket.argument (Callee.method f m) xs) e r = refl
filled-toks (Bracket.argument (Callee.new c) xs) e r = refl

filled-formed : (b : Bracket) (e : Bare) → FineBracket b → Formed e → (level (filled b e) ≤ operand) × Formed (filled b e)
filled-formed Bracket.condition e h g = (omega arith, (g, tt, tt))
filled-formed (Bracket.consequent c) e h g = (omega arith, (h, g, tt))
filled-formed (Bracket.alternative c d) e h g = (omega arith, (h.0, h.1, g))
filled-formed Bracket.guard e h g = (omega arith, (g, tt))
filled-formed (Bracket.loop c) e h g = (omega arith, (h, g))
filled-formed (Bracket.argument (Callee.method f m) xs) e h g = (omega arith, (h.0.0, h.0.1, (h.1, g)))
filled-formed (Bracket.argument (Callee.new c) xs) e h g = (omega arith, (h.1, g))

-- the text with the expression in its context, closed, and the tokens that close it
abbrev plug : Bare → Context → BareText
plug e Context.whole = Text.rule e
plug e (Context.body c m ps) = Text.class (with_method c m ps e)
plug e (Context.value t k) = plug (write t e) k
plug e (Context.rest d k) = plug (Expr.seq tt d e) k
plug e (Context.within b k) = plug (filled b e) k

abbrev close_k : Context → List Terminal
close_k Context.whole = []
close_k (Context.body c m ps) = keyword word.End ∷ keyword word.End ∷ []
close_k (Context.value t k) = close_k k
close_k (Context.rest d k) = close_k k
close_k (Context.within b k) = close_bracket b (close_k k)

-- the class with one more method, written out
added-toks : (c : BareClass) (m : List ℕ) (ps : List (List ℕ)) (e : Bare) → class_toks (with_method c m ps e) [] ≡ read_k (Context.body c m ps) (toks e (keyword word.End ∷ keyword word.End ∷ []))
added-toks c m ps e = ap (λ z. keyword word.Class ∷ identifier c.name ∷ symbol sign.Less ∷ identifier c.parent ∷ keyword word.Begin ∷ z) (methods-last c.methods _ (keyword word.End ∷ []))

plug-toks : (e : Bare) (k : Context) → tokens_of (plug e k) ≡ read_k k (toks e (close_k k))
plug-toks e Context.whole = refl
plug-toks e (Context.body c m ps) = added-toks c m ps e
plug-toks e (Context.value (Target.local x) k) = plug-toks (Expr.set_local tt x e) k
plug-toks e (Context.value (Target.field x) k) = plug-toks (Expr.set_field tt x e) k
plug-toks e (Context.rest d k) = plug-toks (Expr.seq tt d e) k
plug-toks e (Context.within b k) = plug-toks (filled b e) k ∙ ap (read_k k) (filled-toks b e (close_k k))

plug-formed : (κ : Kind) (e : Bare) (k : Context) → Formed e → level e ≤ room k → FineK κ k → FormedText κ (plug e k)
plug-formed κ e Context.whole fe h fk = (fk, fe)
plug-formed κ e (Context.body c m ps) fe h fk = (fk.0, formed-last c.methods _ fk.1 fe)
plug-formed κ e (Context.value (Target.local x) k) fe h fk = plug-formed κ (Expr.set_local tt x e) k (h, fe) (roomy k) fk
plug-formed κ e (Context.value (Target.field x) k) fe h fk = plug-formed κ (Expr.set_field tt x e) k (h, fe) (roomy k) fk
plug-formed κ e (Context.rest d k) fe h fk = plug-formed κ (Expr.seq tt d e) k (fk.0, fk.1, fe) fk.2 fk.3
plug-formed κ e (Context.within b k) fe h fk =
    let g = roomy k in let f = filled-formed b e fk.0 fe in let l = f.0 in plug-formed κ (filled b e) k f.1 (omega arith) fk.1

-- the same outside the bodies of a class
abbrev closed_at : Stage → BareClass
closed_at Stage.start = record { name = letter; parent = letter; methods = [] }
closed_at Stage.class = record { name = letter; parent = letter; methods = [] }
closed_at (Stage.class_name c) = record { name = c; parent = letter; methods = [] }
closed_at (Stage.less c) = record { name = c; parent = letter; methods = [] }
closed_at (Stage.parent c p) = record { name = c; parent = p; methods = [] }
closed_at (Stage.members c) = c
closed_at (Stage.def c) = with_method c letter [] nought
closed_at (Stage.method_name c m) = with_method c m [] nought
closed_at (Stage.open' c m) = with_method c m [] nought
closed_at (Stage.parameter c m ps p) = with_method c m (ps ++ (p ∷ [])) nought
closed_at (Stage.comma c m ps) = with_method c m (ps ++ (letter ∷ [])) nought
closed_at (Stage.end c) = c

abbrev close_at : Stage → List Terminal
close_at Stage.start = keyword word.Class ∷ identifier letter ∷ symbol sign.Less ∷ identifier letter ∷ keyword word.Begin ∷ keyword word.End ∷ []
close_at Stage.class = identifier letter ∷ symbol sign.Less ∷ identifier letter ∷ keyword word.Begin ∷ keyword word.End ∷ []
close_at (Stage.class_name c) = symbol sign.Less ∷ identifier letter ∷ keyword word.Begin ∷ keyword word.End ∷ []
close_at (Stage.less c) = identifier letter ∷ keyword word.Begin ∷ keyword word.End ∷ []
close_at (Stage.parent c p) = keyword word.Begin ∷ keyword word.End ∷ []
close_at (Stage.members c) = keyword word.End ∷ []
close_at (Stage.def c) = identifier letter ∷ symbol sign.OpenParen ∷ symbol sign.CloseParen ∷ integer digits ∷ keyword word.End ∷ keyword word.End ∷ []
close_at (Stage.method_name c m) = symbol sign.OpenParen ∷ symbol sign.CloseParen ∷ integer digits ∷ keyword word.End ∷ keyword word.End ∷ []
close_at (Stage.open' c m) = symbol sign.CloseParen ∷ integer digits ∷ keyword word.End ∷ keyword word.End ∷ []
close_at (Stage.parameter c m ps p) = symbol sign.CloseParen ∷ integer digits ∷ keyword word.End ∷ keyword word.End ∷ []
close_at (Stage.comma c m ps) = identifier letter ∷ symbol sign.CloseParen ∷ integer digits ∷ keyword word.End ∷ keyword word.End ∷ []
close_at (Stage.end c) = []

last-toks : (c : BareClass) (m : List ℕ) (ps : List (List ℕ)) (p : List ℕ) (r : List Terminal) → read_at (Stage.open' c m) (name_toks (ps ++ (p ∷ [])) r) ≡ read_at (Stage.parameter c m ps p) r
last-toks c m ps p r = ap (read_at (Stage.open' c m)) (names-last ps p r)

closed_at-toks : (p : Stage) → class_toks (closed_at p) [] ≡ read_at p (close_at p)
closed_at-toks Stage.start = refl
closed_at-toks Stage.class = refl
closed_at-toks (Stage.class_name c) = refl
closed_at-toks (Stage.less c) = refl
closed_at-toks (Stage.parent c p) = refl
closed_at-toks (Stage.members c) = refl
closed_at-toks (Stage.def c) = added-toks c letter [] nought
closed_at-toks (Stage.method_name c m) = added-toks c m [] nought
closed_at-toks (Stage.open' c m) = added-toks c m [] nought
closed_at-toks (Stage.parameter c m ps p) = added-toks c m (ps ++ (p ∷ [])) nought ∙ last-toks c m ps p _
closed_at-toks (Stage.comma c m ps) = added-toks c m (ps ++ (letter ∷ [])) nought ∙ last-toks c m ps letter _
closed_at-toks (Stage.end c) = refl

closed_at-formed : (p : Stage) → FineAt p → FormedMethods (closed_at p).methods
closed_at-formed Stage.start h = tt
closed_at-formed Stage.class h = tt
closed_at-formed (Stage.class_name c) h = tt
closed_at-formed (Stage.less c) h = tt
closed_at-formed (Stage.parent c p) h = tt
closed_at-formed (Stage.members c) h = h
closed_at-formed (Stage.def c) h = formed-last c.methods _ h tt
closed_at-formed (Stage.method_name c m) h = formed-last c.methods _ h tt
closed_at-formed (Stage.open' c m) h = formed-last c.methods _ h tt
closed_at-formed (Stage.parameter c m ps p) h = formed-last c.methods _ h tt
closed_at-formed (Stage.comma c m ps) h = formed-last c.methods _ h tt
closed_at-formed (Stage.end c) h = h

abbrev pub closed : State → BareText
closed (State.want k) = plug nought k
closed (State.have e k) = plug e k
closed (State.dotted e k) = plug (Expr.invoke tt e letter Args.none) k
closed (State.tested e k) = plug (Expr.instance_of tt e letter) k
closed (State.newed k) = plug (Expr.new tt letter Args.none) k
closed (State.named f k) = plug (call f Args.none) k
closed (State.opened f k) = plug (call f Args.none) k
closed (State.define p) = Text.class (closed_at p)

abbrev pub closing : State → List Terminal
closing (State.want k) = integer digits ∷ close_k k
closing (State.have e k) = close_k k
closing (State.dotted e k) = identifier letter ∷ symbol sign.OpenParen ∷ symbol sign.CloseParen ∷ close_k k
closing (State.tested e k) = identifier letter ∷ close_k k
closing (State.newed k) = identifier letter ∷ symbol sign.OpenParen ∷ symbol sign.CloseParen ∷ close_k k
closing (State.named f k) = symbol sign.OpenParen ∷ symbol sign.CloseParen ∷ close_k k
closing (State.opened f k) = symbol sign.CloseParen ∷ close_k k
closing (State.define p) = close_at p

pub closed-toks : (s : State) → tokens_of (closed s) ≡ read s (closing s)
closed-toks (State.want k) = plug-toks nought k
closed-toks (State.have e k) = plug-toks e k
closed-toks (State.dotted e k) = plug-toks (Expr.invoke tt e letter Args.none) k
closed-toks (State.tested e k) = plug-toks (Expr.instance_of tt e letter) k
closed-toks (State.newed k) = plug-toks (Expr.new tt letter Args.none) k
closed-toks (State.named (Callee.method e m) k) = plug-toks (Expr.invoke tt e m Args.none) k
closed-toks (State.named (Callee.new c) k) = plug-toks (Expr.new tt c Args.none) k
closed-toks (State.opened (Callee.method e m) k) = plug-toks (Expr.invoke tt e m Args.none) k
closed-toks (State.opened (Callee.new c) k) = plug-toks (Expr.new tt c Args.none) k
closed-toks (State.define p) = closed_at-toks p

module _ (κ : Kind) where
  called-formed : (f : Callee) (k : Context) → FineCallee f → FineK κ k → FormedText κ (plug (call f Args.none) k)
  called-formed (Callee.method e m) k ff fk = let g = roomy k in plug-formed κ (Expr.invoke tt e m Args.none) k (ff.0, ff.1, tt) (omega arith) fk
  called-formed (Callee.new c) k ff fk = plug-formed κ (Expr.new tt c Args.none) k tt (omega arith) fk

  pub closed-formed : (s : State) → Fine κ s → FormedText κ (closed s)
  closed-formed (State.want k) h = plug-formed κ nought k tt (omega arith) h
  closed-formed (State.have e k) h = let g = roomy k in plug-formed κ e k h.1 (omega arith) h.2
  closed-formed (State.dotted e k) h = called-formed (Callee.method e letter) k (h.0, h.1) h.2
  closed-formed (State.tested e k) h = let g = roomy k in plug-formed κ (Expr.instance_of tt e letter) k (h.0, h.1) (omega arith) h.2
  closed-formed (State.newed k) h = called-formed (Callee.new letter) k tt h
  closed-formed (State.named f k) h = called-formed f k h.0 h.1
  closed-formed (State.opened f k) h = called-formed f k h.0 h.1
  closed-formed (State.define p) h = (h.0, closed_at-formed p h.1)
