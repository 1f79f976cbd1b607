-- How large a tree is, and whether it is within the limits. Assumes nothing.
use Rattle.std.specs.Prelude.{ℕ, suc, ◌+◌, ◌-◌, ◌*◌, ◌≤◌, max, Bool, false, cond, ◌||◌, List, [], ◌∷◌, ◌++◌, length, ℤ, pos, neg_ℤ, ◌≤ℤ◌, ◌==◌}
use Rattle.std.specs.Str.{bytes_eq}
use Rattle.lexer.specs.Byte.{minus}
use Rattle.grammar.specs.Tree.{Expr, Args, Method, Text}
use Rattle.grammar.specs.Limits.{smallest_integer, largest_integer, string_limit, argument_limit, name_limit, depth_limit}

abbrev mutual
  -- every expression is one node
  pub nodes : {A : Type 0} → Expr A → ℕ
  nodes (Expr.int a w) = 1
  nodes (Expr.nil a) = 1
  nodes (Expr.self a) = 1
  nodes (Expr.string a w) = 1
  nodes (Expr.local a x) = 1
  nodes (Expr.set_local a x e) = suc (nodes e)
  nodes (Expr.field a x) = 1
  nodes (Expr.set_field a x e) = suc (nodes e)
  nodes (Expr.if_then_else a c d e) = suc (nodes c + nodes d + nodes e)
  nodes (Expr.while_do a c d) = suc (nodes c + nodes d)
  nodes (Expr.seq a c d) = suc (nodes c + nodes d)
  nodes (Expr.new a c xs) = suc (arg_nodes xs)
  nodes (Expr.instance_of a e c) = suc (nodes e)
  nodes (Expr.invoke a e m xs) = suc (nodes e + arg_nodes xs)

  pub arg_nodes : {A : Type 0} → Args A → ℕ
  arg_nodes Args.none = 0
  arg_nodes (Args.more xs e) = arg_nodes xs + nodes e

-- the nodes of all bodies
abbrev pub method_nodes : {A : Type 0} → List (Method A) → ℕ
method_nodes [] = 0
method_nodes (m ∷ ms) = nodes m.body + method_nodes ms

-- the nodes of a text; definitions of classes and methods are none
abbrev pub text_nodes : {A : Type 0} → Text A → ℕ
text_nodes (Text.rule e) = nodes e
text_nodes (Text.class c) = method_nodes c.methods

abbrev mutual
  -- a sequence is as deep as its deeper side, all else one deeper than its deepest part
  pub depth : {A : Type 0} → Expr A → ℕ
  depth (Expr.int a w) = 1
  depth (Expr.nil a) = 1
  depth (Expr.self a) = 1
  depth (Expr.string a w) = 1
  depth (Expr.local a x) = 1
  depth (Expr.set_local a x e) = suc (depth e)
  depth (Expr.field a x) = 1
  depth (Expr.set_field a x e) = suc (depth e)
  depth (Expr.if_then_else a c d e) = suc (max (depth c) (max (depth d) (depth e)))
  depth (Expr.while_do a c d) = suc (max (depth c) (depth d))
  depth (Expr.seq a c d) = max (depth c) (depth d)
  depth (Expr.new a c xs) = suc (arg_depth xs)
  depth (Expr.instance_of a e c) = suc (depth e)
  depth (Expr.invoke a e m xs) = suc (max (depth e) (arg_depth xs))

  -- the deepest argument's
  pub arg_depth : {A : Type 0} → Args A → ℕ
  arg_depth Args.none = 0
  arg_depth (Args.more xs e) = max (arg_depth xs) (depth e)

-- how many arguments a list has
abbrev pub count : {A : Type 0} → Args A → ℕ
count Args.none = 0
count (Args.more xs e) = suc (count xs)

abbrev mutual
  -- the most arguments in any list of the expression
  pub most_arguments : {A : Type 0} → Expr A → ℕ
  most_arguments (Expr.int a w) = 0
  most_arguments (Expr.nil a) = 0
  most_arguments (Expr.self a) = 0
  most_arguments (Expr.string a w) = 0
  most_arguments (Expr.local a x) = 0
  most_arguments (Expr.set_local a x e) = most_arguments e
  most_arguments (Expr.field a x) = 0
  most_arguments (Expr.set_field a x e) = most_arguments e
  most_arguments (Expr.if_then_else a c d e) = max (most_arguments c) (max (most_arguments d) (most_arguments e))
  most_arguments (Expr.while_do a c d) = max (most_arguments c) (most_arguments d)
  most_arguments (Expr.seq a c d) = max (most_arguments c) (most_arguments d)
  most_arguments (Expr.new a c xs) = max (count xs) (most_within xs)
  most_arguments (Expr.instance_of a e c) = most_arguments e
  most_arguments (Expr.invoke a e m xs) = max (most_arguments e) (max (count xs) (most_within xs))

  -- the most in any list of an argument
  pub most_within : {A : Type 0} → Args A → ℕ
  most_within Args.none = 0
  most_within (Args.more xs e) = max (most_within xs) (most_arguments e)

abbrev mutual
  -- the bytes of the longest string literal
  pub longest_string : {A : Type 0} → Expr A → ℕ
  longest_string (Expr.int a w) = 0
  longest_string (Expr.nil a) = 0
  longest_string (Expr.self a) = 0
  longest_string (Expr.string a w) = length w
  longest_string (Expr.local a x) = 0
  longest_string (Expr.set_local a x e) = longest_string e
  longest_string (Expr.field a x) = 0
  longest_string (Expr.set_field a x e) = longest_string e
  longest_string (Expr.if_then_else a c d e) = max (longest_string c) (max (longest_string d) (longest_string e))
  longest_string (Expr.while_do a c d) = max (longest_string c) (longest_string d)
  longest_string (Expr.seq a c d) = max (longest_string c) (longest_string d)
  longest_string (Expr.new a c xs) = longest_within xs
  longest_string (Expr.instance_of a e c) = longest_string e
  longest_string (Expr.invoke a e m xs) = max (longest_string e) (longest_within xs)

  pub longest_within : {A : Type 0} → Args A → ℕ
  longest_within Args.none = 0
  longest_within (Args.more xs e) = max (longest_within xs) (longest_string e)

-- the number that digits go on to, from n
abbrev pub digits_from : ℕ → List ℕ → ℕ
digits_from n [] = n
digits_from n (b ∷ bs) = digits_from (10 * n + (b - 48)) bs

-- the value of an integer's bytes: digits, with a `-` before them or not
abbrev pub value_of : List ℕ → ℤ
value_of [] = pos 0
value_of (b ∷ bs) = cond (b == minus) (neg_ℤ (pos (digits_from 0 bs))) (pos (digits_from 0 (b ∷ bs)))

-- the integer is one of 32 bits
abbrev pub Fits : List ℕ → Type 0
Fits w = (smallest_integer ≤ℤ value_of w) × (value_of w ≤ℤ largest_integer)

abbrev mutual
  -- every integer of the expression is one of 32 bits
  pub IntegersFit : {A : Type 0} → Expr A → Type 0
  IntegersFit (Expr.int a w) = Fits w
  IntegersFit (Expr.nil a) = Unit {0}
  IntegersFit (Expr.self a) = Unit {0}
  IntegersFit (Expr.string a w) = Unit {0}
  IntegersFit (Expr.local a x) = Unit {0}
  IntegersFit (Expr.set_local a x e) = IntegersFit e
  IntegersFit (Expr.field a x) = Unit {0}
  IntegersFit (Expr.set_field a x e) = IntegersFit e
  IntegersFit (Expr.if_then_else a c d e) = IntegersFit c × IntegersFit d × IntegersFit e
  IntegersFit (Expr.while_do a c d) = IntegersFit c × IntegersFit d
  IntegersFit (Expr.seq a c d) = IntegersFit c × IntegersFit d
  IntegersFit (Expr.new a c xs) = IntegersFitIn xs
  IntegersFit (Expr.instance_of a e c) = IntegersFit e
  IntegersFit (Expr.invoke a e m xs) = IntegersFit e × IntegersFitIn xs

  pub IntegersFitIn : {A : Type 0} → Args A → Type 0
  IntegersFitIn Args.none = Unit {0}
  IntegersFitIn (Args.more xs e) = IntegersFitIn xs × IntegersFit e

-- the name is among these
abbrev pub known : List (List ℕ) → List ℕ → Bool
known [] x = false
known (y ∷ ys) x = bytes_eq y x || known ys x

-- the names with one more, if it is not among them
abbrev pub learn : List (List ℕ) → List ℕ → List (List ℕ)
learn ns x = cond (known ns x) ns (ns ++ (x ∷ []))

-- the names with each of xs that is not among them
abbrev pub learn_all : List (List ℕ) → List (List ℕ) → List (List ℕ)
learn_all ns [] = ns
learn_all ns (x ∷ xs) = learn_all (learn ns x) xs

abbrev mutual
  -- the names with those of the locals that the expression writes or reads, in the order of the text
  pub names_after : {A : Type 0} → List (List ℕ) → Expr A → List (List ℕ)
  names_after ns (Expr.int a w) = ns
  names_after ns (Expr.nil a) = ns
  names_after ns (Expr.self a) = ns
  names_after ns (Expr.string a w) = ns
  names_after ns (Expr.local a x) = learn ns x
  names_after ns (Expr.set_local a x e) = names_after (learn ns x) e
  names_after ns (Expr.field a x) = ns
  names_after ns (Expr.set_field a x e) = names_after ns e
  names_after ns (Expr.if_then_else a c d e) = names_after (names_after (names_after ns c) d) e
  names_after ns (Expr.while_do a c d) = names_after (names_after ns c) d
  names_after ns (Expr.seq a c d) = names_after (names_after ns c) d
  names_after ns (Expr.new a c xs) = names_after_args ns xs
  names_after ns (Expr.instance_of a e c) = names_after ns e
  names_after ns (Expr.invoke a e m xs) = names_after_args (names_after ns e) xs

  pub names_after_args : {A : Type 0} → List (List ℕ) → Args A → List (List ℕ)
  names_after_args ns Args.none = ns
  names_after_args ns (Args.more xs e) = names_after (names_after_args ns xs) e

-- the distinct names of a body: its parameters, and the locals that it writes or reads
abbrev pub names_of : {A : Type 0} → List (List ℕ) → Expr A → List (List ℕ)
names_of ps e = names_after (learn_all [] ps) e

-- a body with these parameters is within the limits
pub record BodyWithin {A : Type 0} (ps : List (List ℕ)) (e : Expr A) : Type 0 where
  pub integers : IntegersFit e
  pub strings : longest_string e ≤ string_limit
  pub parameters : length ps ≤ argument_limit
  pub arguments : most_arguments e ≤ argument_limit
  pub names : length (names_of ps e) ≤ name_limit
  pub deep : depth e ≤ depth_limit

-- every method is within the limits
abbrev pub MethodsWithin : {A : Type 0} → List (Method A) → Type 0
MethodsWithin [] = Unit {0}
MethodsWithin (m ∷ ms) = BodyWithin m.parameters m.body × MethodsWithin ms

-- the text is within the limits
abbrev pub WithinLimits : {A : Type 0} → Text A → Type 0
WithinLimits (Text.rule e) = BodyWithin [] e
WithinLimits (Text.class c) = MethodsWithin c.methods
