-- What compiled code needs of an expression: names that have slots, spellings that no table key has, registers that a frame has. Assumes nothing.
use Rattle.std.specs.Prelude.{◌≡◌, ℕ, suc, ◌+◌, ◌<◌, true, false, List, [], ◌∷◌, codes}
use Rattle.std.specs.Str.{bytes_eq}
use Rattle.machine.specs.Limits.{registers_per_frame}
use Rattle.grammar.specs.Tree.{Expr, Args}
use Rattle.grammar.specs.Measure.{count}
use Rattle.rube.specs.Classes.{among}

-- a field's name begins with `@`, so it is no key of ours
abbrev pub FieldName : List ℕ → Type 0
FieldName [] = ⊥
FieldName (b ∷ x) = b ≡ 64

-- a method's name is no key of ours
abbrev pub MethodName : List ℕ → Type 0
MethodName x = bytes_eq (codes "#name") x ≡ false

-- the expression's code, with its answer in register t, fits a frame where these names have slots
abbrev mutual
  pub Fit : {A : Type 0} → List (List ℕ) → Expr A → ℕ → Type 0
  Fit ns (Expr.int a w) t = t < registers_per_frame
  Fit ns (Expr.nil a) t = t < registers_per_frame
  Fit ns (Expr.self a) t = t < registers_per_frame
  Fit ns (Expr.string a w) t = t < registers_per_frame
  Fit ns (Expr.local a x) t = (among ns x ≡ true) × (t + 1 < registers_per_frame)
  Fit ns (Expr.set_local a x e) t = (among ns x ≡ true) × Fit ns e t
  Fit ns (Expr.field a x) t = FieldName x × (t + 2 < registers_per_frame)
  Fit ns (Expr.set_field a x e) t = FieldName x × (t + 1 < registers_per_frame) × Fit ns e t
  Fit ns (Expr.if_then_else a c d e) t = (t + 1 < registers_per_frame) × Fit ns c t × Fit ns d t × Fit ns e t
  Fit ns (Expr.while_do a c d) t = (t + 1 < registers_per_frame) × Fit ns c t × Fit ns d t
  Fit ns (Expr.seq a c d) t = Fit ns c t × Fit ns d t
  Fit ns (Expr.new a C xs) t = (t + count xs + 4 < registers_per_frame) × Fits ns xs (t + 2)
  Fit ns (Expr.instance_of a e C) t = (t + 2 < registers_per_frame) × Fit ns e t
  Fit ns (Expr.invoke a e x xs) t =
      MethodName x × (t + count xs + 4 < registers_per_frame) × Fit ns e (suc t) × Fits ns xs (t + 2)

  -- arguments from register t on
  pub Fits : {A : Type 0} → List (List ℕ) → Args A → ℕ → Type 0
  Fits ns Args.none t = Unit {0}
  Fits ns (Args.more xs e) t = Fits ns xs t × Fit ns e (t + count xs)
