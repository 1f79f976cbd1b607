-- Notes at the nodes of a tree: how they are forgotten, and how they are taken from the notes of a text's tokens. Assumes nothing.
use Rattle.std.specs.Prelude.{◌≡◌, ℕ, List, [], ◌∷◌, length, drop}
use Rattle.grammar.specs.Tree.{Expr, Args, Method, Text, Bare, BareArgs, BareMethod, BareText}
use Rattle.grammar.specs.Grammar.{tokens_of}

-- the note at an expression's own node
abbrev pub note_of : {A : Type 0} → Expr A → A
note_of (Expr.int a w) = a
note_of (Expr.nil a) = a
note_of (Expr.self a) = a
note_of (Expr.string a w) = a
note_of (Expr.local a x) = a
note_of (Expr.set_local a x e) = a
note_of (Expr.field a x) = a
note_of (Expr.set_field a x e) = a
note_of (Expr.if_then_else a c d e) = a
note_of (Expr.while_do a c d) = a
note_of (Expr.seq a c d) = a
note_of (Expr.new a c xs) = a
note_of (Expr.instance_of a e c) = a
note_of (Expr.invoke a e m xs) = a

abbrev mutual
  -- the expression without its notes
  pub forget : {A : Type 0} → Expr A → Bare
  forget (Expr.int a w) = Expr.int tt w
  forget (Expr.nil a) = Expr.nil tt
  forget (Expr.self a) = Expr.self tt
  forget (Expr.string a w) = Expr.string tt w
  forget (Expr.local a x) = Expr.local tt x
  forget (Expr.set_local a x e) = Expr.set_local tt x (forget e)
  forget (Expr.field a x) = Expr.field tt x
  forget (Expr.set_field a x e) = Expr.set_field tt x (forget e)
  forget (Expr.if_then_else a c d e) = Expr.if_then_else tt (forget c) (forget d) (forget e)
  forget (Expr.while_do a c d) = Expr.while_do tt (forget c) (forget d)
  forget (Expr.seq a c d) = Expr.seq tt (forget c) (forget d)
  forget (Expr.new a c xs) = Expr.new tt c (forget_args xs)
  forget (Expr.instance_of a e c) = Expr.instance_of tt (forget e) c
  forget (Expr.invoke a e m xs) = Expr.invoke tt (forget e) m (forget_args xs)

  pub forget_args : {A : Type 0} → Args A → BareArgs
  forget_args Args.none = Args.none
  forget_args (Args.more xs e) = Args.more (forget_args xs) (forget e)

-- methods without their notes
abbrev pub forget_methods : {A : Type 0} → List (Method A) → List BareMethod
forget_methods [] = []
forget_methods (m ∷ ms) = record { name = m.name; parameters = m.parameters; body = forget m.body } ∷ forget_methods ms

-- the text without its notes
abbrev pub forget_text : {A : Type 0} → Text A → BareText
forget_text (Text.rule e) = Text.rule (forget e)
forget_text (Text.class c) = Text.class (record { name = c.name; parent = c.parent; methods = forget_methods c.methods })

-- a tree with its notes, and the notes of the tokens behind it
pub record Noted (T A : Type 0) : Type 0 where
  pub tree : T
  pub rest : List A

-- the first note, or d where there is none
abbrev pub first : {A : Type 0} → A → List A → A
first d [] = d
first d (a ∷ ns) = a

abbrev mutual
  -- each node has the note of the first of its tokens; ns are the notes of the expression's tokens and of those behind it
  pub annotate : {A : Type 0} → A → Bare → List A → Noted (Expr A) A
  annotate d (Expr.int a w) ns = record { tree = Expr.int (first d ns) w; rest = drop 1 ns }
  annotate d (Expr.nil a) ns = record { tree = Expr.nil (first d ns); rest = drop 1 ns }
  annotate d (Expr.self a) ns = record { tree = Expr.self (first d ns); rest = drop 1 ns }
  annotate d (Expr.string a w) ns = record { tree = Expr.string (first d ns) w; rest = drop 1 ns }
  annotate d (Expr.local a x) ns = record { tree = Expr.local (first d ns) x; rest = drop 1 ns }
  annotate d (Expr.set_local a x e) ns =
      let v = annotate d e (drop 2 ns) in
      record { tree = Expr.set_local (first d ns) x v.tree; rest = v.rest }
  annotate d (Expr.field a x) ns = record { tree = Expr.field (first d ns) x; rest = drop 1 ns }
  annotate d (Expr.set_field a x e) ns =
      let v = annotate d e (drop 2 ns) in
      record { tree = Expr.set_field (first d ns) x v.tree; rest = v.rest }
  annotate d (Expr.if_then_else a b c e) ns =
      let u = annotate d b (drop 1 ns) in
      let v = annotate d c (drop 1 u.rest) in
      let w = annotate d e (drop 1 v.rest) in
      record { tree = Expr.if_then_else (first d ns) u.tree v.tree w.tree; rest = drop 1 w.rest }
  annotate d (Expr.while_do a b c) ns =
      let u = annotate d b (drop 1 ns) in
      let v = annotate d c (drop 1 u.rest) in
      record { tree = Expr.while_do (first d ns) u.tree v.tree; rest = drop 1 v.rest }
  annotate d (Expr.seq a b c) ns =
      let u = annotate d b ns in
      let v = annotate d c (drop 1 u.rest) in
      record { tree = Expr.seq (first d ns) u.tree v.tree; rest = v.rest }
  annotate d (Expr.new a c xs) ns =
      let v = annotate_args d xs (drop 3 ns) in
      record { tree = Expr.new (first d ns) c v.tree; rest = drop 1 v.rest }
  annotate d (Expr.instance_of a e c) ns =
      let v = annotate d e ns in
      record { tree = Expr.instance_of (first d ns) v.tree c; rest = drop 2 v.rest }
  annotate d (Expr.invoke a e m xs) ns =
      let u = annotate d e ns in
      let v = annotate_args d xs (drop 3 u.rest) in
      record { tree = Expr.invoke (first d ns) u.tree m v.tree; rest = drop 1 v.rest }

  pub annotate_args : {A : Type 0} → A → BareArgs → List A → Noted (Args A) A
  annotate_args d Args.none ns = record { tree = Args.none; rest = ns }
  annotate_args d (Args.more xs e) ns =
      let u = annotate_lead d xs ns in
      let v = annotate d e u.rest in
      record { tree = Args.more u.tree v.tree; rest = v.rest }

  -- arguments, each with a comma behind it
  pub annotate_lead : {A : Type 0} → A → BareArgs → List A → Noted (Args A) A
  annotate_lead d Args.none ns = record { tree = Args.none; rest = ns }
  annotate_lead d (Args.more xs e) ns =
      let u = annotate_lead d xs ns in
      let v = annotate d e u.rest in
      record { tree = Args.more u.tree v.tree; rest = drop 1 v.rest }

-- the notes behind names parted by commas
abbrev pub past_names : {A : Type 0} → List (List ℕ) → List A → List A
past_names [] ns = ns
past_names (x ∷ []) ns = drop 1 ns
past_names (x ∷ y ∷ ys) ns = past_names (y ∷ ys) (drop 2 ns)

-- a method with the notes of its tokens
abbrev pub annotate_method : {A : Type 0} → A → BareMethod → List A → Noted (Method A) A
annotate_method d m ns =
    let v = annotate d m.body (drop 1 (past_names m.parameters (drop 3 ns))) in
    record { tree = record { name = m.name; parameters = m.parameters; body = v.tree }; rest = drop 1 v.rest }

-- methods, one behind another
abbrev pub annotate_methods : {A : Type 0} → A → List BareMethod → List A → Noted (List (Method A)) A
annotate_methods d [] ns = record { tree = []; rest = ns }
annotate_methods d (m ∷ ms) ns =
    let u = annotate_method d m ns in
    let v = annotate_methods d ms u.rest in
    record { tree = u.tree ∷ v.tree; rest = v.rest }

-- the text with the notes of its tokens
abbrev pub annotate_text : {A : Type 0} → A → BareText → List A → Noted (Text A) A
annotate_text d (Text.rule e) ns = let v = annotate d e ns in record { tree = Text.rule v.tree; rest = v.rest }
annotate_text d (Text.class c) ns =
    let v = annotate_methods d c.methods (drop 5 ns) in
    record { tree = Text.class (record { name = c.name; parent = c.parent; methods = v.tree }); rest = drop 1 v.rest }

-- notes are numbers here, as places are: taking them changes no tree, takes one for each token, and gives a node the first of its own
pub record NotesLaw : Type 0 where
  pub forgotten : (d : ℕ) (t : BareText) (ns : List ℕ) → forget_text (annotate_text d t ns).tree ≡ t
  pub one-for-each-token : (d : ℕ) (t : BareText) (ns : List ℕ) → (annotate_text d t ns).rest ≡ drop (length (tokens_of t)) ns
  pub own-is-first : (d : ℕ) (e : Bare) (ns : List ℕ) → note_of (annotate d e ns).tree ≡ first d ns
