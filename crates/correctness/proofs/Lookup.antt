-- Which methods a class finds. Assumes nothing.
use Rattle.std.proofs.Common.{◌≡◌, ℕ, zero, suc, ◌+◌, ◌<◌, Bool, true, false, cond, not, ◌&&◌, ◌||◌, eqb, List, [], ◌∷◌, ◌++◌, map, reverse, length, get_or, Some, None, codes, Option, sym, refl, ap, ◌∙◌, ⊎_elim, suc-add, zero-add, arith, length-append}
use mathlib.Core.List.{reverse_aux}
use Rattle.std.specs.List.{slice_get}
use Rattle.std.specs.Str.{bytes_eq}
use Rattle.std.proofs.lemmas.Slice.Eq.{bytes_eq-Decides}
use Rattle.std.proofs.lemmas.Bool.{both_ways, and_parts, or_cases, or_parts, or_left, or_right, eqb-true, ne_eqb}
use Rattle.machine.specs.declared.arith.Op.TheVariants.{Add, Sub, Mul, Div}
use Rattle.machine.specs.Builtin.{builtin_of}
use Rattle.grammar.specs.Tree.{Method, Class}
use Rattle.rube.specs.declared.builtin.BuiltinClass.{BuiltinClass}
use Rattle.rube.specs.declared.builtin.BuiltinClass.TheVariants.{Object, Str, Integer, Map, Bot}
use Rattle.rube.specs.declared.builtin.Operation.{Operation}
use Rattle.rube.specs.declared.builtin.Operation.TheVariants.{
  Equal,
  ClassName,
  PrintClassName,
  Itself,
  Decimal,
  PrintValue,
  NilText,
  PrintNil,
  Concat,
  Length,
  Arith,
  Find,
  Insert,
  Has,
}
use Rattle.rube.specs.declared.builtin.Builtin.{Builtin}
use Rattle.rube.specs.Builtin as builtin
use Rattle.rube.specs.Builtin.{class_name, builtin_classes}
use Rattle.rube.specs.Classes.{Named, Callee, Classes, among, names, rows_of, own, find, inherited, visible, lookup, added_methods, all_methods, known}
use Rattle.compiler.specs.Layout.{operation_function, function_of}
use Rattle.compiler.specs.Builtins.{operation_parameters}
use Rattle.correctness.proofs.Values.{bytes-either-way}
use Rattle.correctness.specs.Accepted.{added, Accepted, Few}

-- names

pub same-is : (x y : List ℕ) → bytes_eq x y ≡ true → x ≡ y
same-is x y h = (bytes_eq-Decides x y).0 h

-- names that are among others

abbrev pub built_in_names : List (List ℕ)
built_in_names = map class_name builtin_classes

pub among-append : (xs ys : List (List ℕ)) (C : List ℕ) → among (xs ++ ys) C ≡ (among xs C || among ys C)
among-append [] ys C = refl
among-append (x ∷ xs) ys C = by (bytes_eq x C) (among-append xs ys C)
  where
    by : (t : Bool) → among (xs ++ ys) C ≡ (among xs C || among ys C) → (t || among (xs ++ ys) C) ≡ ((t || among xs C) || among ys C)
    by true h = refl
    by false h = h

or_turned : (a b c : Bool) → (a || (b || c)) ≡ ((b || a) || c)
or_turned true true c = refl
or_turned true false c = refl
or_turned false true c = refl
or_turned false false c = refl

among-reversed : (xs ys : List (List ℕ)) (C : List ℕ) → among (reverse_aux xs ys) C ≡ (among xs C || among ys C)
among-reversed [] ys C = refl
among-reversed (x ∷ xs) ys C = among-reversed xs (x ∷ ys) C ∙ or_turned (among xs C) (bytes_eq x C) (among ys C)

or-none : (a : Bool) → (a || false) ≡ a
or-none true = refl
or-none false = refl

unlike-at : (xs : List (List ℕ)) (C : List ℕ) (i : ℕ) → i < length xs → among xs C ≡ false → bytes_eq C (get_or xs i []) ≡ false
unlike-at [] C i l h = absurd (omega arith)
unlike-at (x ∷ xs) C zero l h = bytes-either-way C x ∙ (or_parts (bytes_eq x C) (among xs C) h).0
unlike-at (x ∷ xs) C (suc i) l h = unlike-at xs C i (omega arith) (or_parts (bytes_eq x C) (among xs C) h).1

-- a name that is none of the built-in classes' is unlike each of them
pub unlike-built_in : (C : List ℕ) → among built_in_names C ≡ false → (b : BuiltinClass) → bytes_eq C (class_name b) ≡ false
unlike-built_in C h Object = unlike-at built_in_names C 0 (omega arith) h
unlike-built_in C h Str = unlike-at built_in_names C 1 (omega arith) h
unlike-built_in C h Integer = unlike-at built_in_names C 2 (omega arith) h
unlike-built_in C h Map = unlike-at built_in_names C 3 (omega arith) h
unlike-built_in C h Bot = unlike-at built_in_names C 4 (omega arith) h

among-classes : (bs : List BuiltinClass) (C : List ℕ) → among (map class_name bs) C ≡ true → (b : BuiltinClass) × (class_name b ≡ C)
among-classes [] C h = absurd (both_ways _ refl h)
among-classes (b ∷ bs) C h = ⊎_elim
    (λ (e : bytes_eq (class_name b) C ≡ true). (b, same-is (class_name b) C e))
    (λ (g : among (map class_name bs) C ≡ true). among-classes bs C g)
    (or_cases (bytes_eq (class_name b) C) (among (map class_name bs) C) h)

module _ {A : Type 0} where
  -- a known class is built in or added
  pub known_is : (P : Classes A) (C : List ℕ) → known P C ≡ (among built_in_names C || among (added P) C)
  known_is P C =
      among-append built_in_names (reverse (added P)) C
      ∙ ap (λ (t : Bool). among built_in_names C || t) (among-reversed (added P) [] C ∙ or-none (among (added P) C))

  pub added-known : (P : Classes A) (C : List ℕ) → among (added P) C ≡ true → known P C ≡ true
  added-known P C h = known_is P C ∙ or_right (among built_in_names C) (among (added P) C) h

  pub built_in-known : (P : Classes A) (C : List ℕ) → among built_in_names C ≡ true → known P C ≡ true
  built_in-known P C h = known_is P C ∙ or_left (among built_in_names C) (among (added P) C) h

  new-unlike : (P : Classes A) (C : List ℕ) → known P C ≡ false → (among built_in_names C ≡ false) × (among (added P) C ≡ false)
  new-unlike P C h = or_parts (among built_in_names C) (among (added P) C) (sym (known_is P C) ∙ h)

  -- a class's parent is known
  pub parent-known : (P : Classes A) (D : List ℕ) → among (codes "Object" ∷ added P) D ≡ true → known P D ≡ true
  parent-known P D h = ⊎_elim
      (λ (e : bytes_eq (codes "Object") D ≡ true). built_in-known P D (rw (← same-is (codes "Object") D e)))
      (λ (g : among (added P) D ≡ true). added-known P D g)
      (or_cases (bytes_eq (codes "Object") D) (among (added P) D) h)

  -- an added class is none of the built-in ones
  pub added-unlike : (P : Classes A) (C : List ℕ) → Accepted P → among (added P) C ≡ true → among built_in_names C ≡ false
  added-unlike [] C a h = absurd (both_ways _ refl h)
  added-unlike (K ∷ older) C a h = ⊎_elim
      (λ (e : bytes_eq K.name C ≡ true). rw (same-is K.name C e) at (new-unlike older K.name a.0.new-name).0)
      (λ (g : among (added older) C ≡ true). added-unlike older C a.1 g)
      (or_cases (bytes_eq K.name C) (among (added older) C) h)

-- a class finds its own methods before its parent's

abbrev pub or_else : {X : Type 0} → Option X → Option X → Option X
or_else None y = y
or_else (Some x) y = Some x

module _ {A : Type 0} where
  find-append : (x : List ℕ) (a b : List (Named A)) → find x (a ++ b) ≡ or_else (find x a) (find x b)
  find-append x [] b = refl
  find-append x (m ∷ a) b = by (bytes_eq m.name x) (find-append x a b)
    where
      by : (t : Bool) → find x (a ++ b) ≡ or_else (find x a) (find x b) → cond t (Some m.callee) (find x (a ++ b)) ≡ or_else (cond t (Some m.callee) (find x a)) (find x b)
      by true h = refl
      by false h = h

  names-unfound : (x : List ℕ) (ms : List (Named A)) → find x ms ≡ None → names ms x ≡ false
  names-unfound x [] h = refl
  names-unfound x (m ∷ ms) h = by (bytes_eq m.name x) (names-unfound x ms) h
    where
      by : (t : Bool) → (find x ms ≡ None → names ms x ≡ false) → cond t (Some m.callee) (find x ms) ≡ None → (t || names ms x) ≡ false
      by true f q = let z : ◌≡◌ {A = ℕ} 0 1 = cc in absurd (omega arith)
      by false f q = f q

  find-inherited : (x : List ℕ) (mine ms : List (Named A)) → names mine x ≡ false → find x (inherited mine ms) ≡ find x ms
  find-inherited x mine [] h = refl
  find-inherited x mine (m ∷ ms) h = by (names mine m.name) refl (bytes_eq m.name x) refl (find-inherited x mine ms h)
    where
      by : (t : Bool) → names mine m.name ≡ t → (u : Bool) → bytes_eq m.name x ≡ u → find x (inherited mine ms) ≡ find x ms → find x (cond t (inherited mine ms) (m ∷ inherited mine ms)) ≡ cond u (Some m.callee) (find x ms)
      by true p true q g = absurd (both_ways _ h (ap (names mine) (sym (same-is m.name x q)) ∙ p))
      by true p false q g = g
      by false p true q g = rw q
      by false p false q g = rw q g

  find-visible : (x : List ℕ) (mine ms : List (Named A)) → find x (mine ++ inherited mine ms) ≡ or_else (find x mine) (find x ms)
  find-visible x mine ms = find-append x mine (inherited mine ms) ∙ by (find x mine) refl
    where
      by : (o : Option (Callee A)) → find x mine ≡ o → or_else o (find x (inherited mine ms)) ≡ or_else o (find x ms)
      by None e = find-inherited x mine ms (names-unfound x mine e)
      by (Some f) e = refl

  -- where a method is found: in the built-in rows, in the class, by its parent, or among the older classes
  pub data Finds : Classes A → List ℕ → List ℕ → Callee A → Type 0 where
    built_in : {C x : List ℕ} {f : Callee A} → find x (rows_of C builtin.table builtin.names) ≡ Some f → Finds [] C x f
    its_own : {K : Class A} {older : Classes A} {C x : List ℕ} {f : Callee A} → bytes_eq K.name C ≡ true → find x (own (added_methods older) K.methods) ≡ Some f → Finds (K ∷ older) C x f
    by-parent : {K : Class A} {older : Classes A} {C x : List ℕ} {f : Callee A} → bytes_eq K.name C ≡ true → Finds older K.parent x f → Finds (K ∷ older) C x f
    by-older : {K : Class A} {older : Classes A} {C x : List ℕ} {f : Callee A} → bytes_eq K.name C ≡ false → Finds older C x f → Finds (K ∷ older) C x f

  -- a class finds its own method, else its parent's
  pub lookup-here : (K : Class A) (older : Classes A) (C x : List ℕ) → bytes_eq K.name C ≡ true → lookup (K ∷ older) C x ≡ or_else (find x (own (added_methods older) K.methods)) (lookup older K.parent x)
  unfolding visible
  lookup-here K older C x p = rw p (find-visible x (own (added_methods older) K.methods) (visible older K.parent))

  -- a newer class changes nothing for the others
  pub lookup-older : (K : Class A) (older : Classes A) (C x : List ℕ) → bytes_eq K.name C ≡ false → lookup (K ∷ older) C x ≡ lookup older C x
  unfolding visible
  lookup-older K older C x p = rw p

  lookup-none : (C x : List ℕ) → lookup {A = A} [] C x ≡ find x (rows_of C builtin.table builtin.names)
  unfolding visible
  lookup-none C x = refl

  -- what lookup finds stands somewhere
  pub finds : (P : Classes A) (C x : List ℕ) (f : Callee A) → lookup P C x ≡ Some f → Finds P C x f
  finds [] C x f h = built_in {C = C} {x = x} {f = f} (sym (lookup-none C x) ∙ h)
  finds (K ∷ older) C x f h = by (bytes_eq K.name C) refl (finds older K.parent x f) (finds older C x f)
    where
      found : bytes_eq K.name C ≡ true → (o : Option (Callee A)) → find x (own (added_methods older) K.methods) ≡ o → (lookup older K.parent x ≡ Some f → Finds older K.parent x f) → or_else o (lookup older K.parent x) ≡ Some f → Finds (K ∷ older) C x f
      found p None e g q = by-parent p (g q)
      found p (Some d) e g q = its_own p (e ∙ q)

      by : (t : Bool) → bytes_eq K.name C ≡ t → (lookup older K.parent x ≡ Some f → Finds older K.parent x f) → (lookup older C x ≡ Some f → Finds older C x f) → Finds (K ∷ older) C x f
      by true p g k = found p _ refl g (sym (lookup-here K older C x p) ∙ h)
      by false p g k = by-older p (k (sym (lookup-older K older C x p) ∙ h))

-- the built-in rows: one test of all of them

abbrev every : (Builtin → List ℕ → Bool) → List Builtin → List (List ℕ) → Bool
every test [] ns = true
every test (b ∷ bs) [] = true
every test (b ∷ bs) (n ∷ ns) = test b n && every test bs ns

-- which operations suit a class that is String, Integer, Map, Bot, or none of these
abbrev pub suits : (string integer map bot : Bool) → Operation → Bool
suits s i m b Equal = true
suits s i m b ClassName = not (s || i)
suits s i m b PrintClassName = not (s || i)
suits s i m b Itself = s
suits s i m b Decimal = i
suits s i m b PrintValue = s || i
suits s i m b NilText = b
suits s i m b PrintNil = b
suits s i m b Concat = s
suits s i m b Length = s
suits s i m b (Arith o) = i
suits s i m b Find = m
suits s i m b Insert = m
suits s i m b Has = m

-- the class may perform the operation
abbrev pub suited : List ℕ → Operation → Bool
suited C o = suits (bytes_eq C (codes "String")) (bytes_eq C (codes "Integer")) (bytes_eq C (codes "Map")) (bytes_eq C (codes "Bot")) o

-- a row has its operation's parameters, suits its class, and is no initialize
abbrev row_test : Builtin → List ℕ → Bool
row_test b n =
    eqb b.parameters (operation_parameters b.operation)
    && (suited (class_name b.class) b.operation && not (bytes_eq n (codes "initialize")))

table-passes : every row_test builtin.table builtin.names ≡ true
table-passes = refl

row-tested : (b : Builtin) (n : List ℕ) → row_test b n ≡ true → (b.parameters ≡ operation_parameters b.operation) × (suited (class_name b.class) b.operation ≡ true) × (not (bytes_eq n (codes "initialize")) ≡ true)
row-tested b n h =
    let first = and_parts (eqb b.parameters (operation_parameters b.operation)) _ h in
    let rest = and_parts (suited (class_name b.class) b.operation) (not (bytes_eq n (codes "initialize"))) first.1 in
    (eqb-true b.parameters (operation_parameters b.operation) first.0, rest.0, rest.1)

module _ {A : Type 0} where
  -- the row that a method was found in
  record Row (C x : List ℕ) (f : Callee A) : Type 0 where
    row : Builtin
    its-name : List ℕ
    passes : row_test row its-name ≡ true
    class-is : bytes_eq (class_name row.class) C ≡ true
    name-is : bytes_eq its-name x ≡ true
    callee-is : f ≡ Callee.built_in row.parameters row.operation

  row_of : (C x : List ℕ) (f : Callee A) (bs : List Builtin) (ns : List (List ℕ)) → every row_test bs ns ≡ true → find x (rows_of C bs ns) ≡ Some f → Row C x f
  row_of C x f [] ns t h = let z : ◌≡◌ {A = ℕ} 0 1 = cc in absurd (omega arith)
  row_of C x f (b ∷ bs) [] t h = let z : ◌≡◌ {A = ℕ} 0 1 = cc in absurd (omega arith)
  row_of C x f (b ∷ bs) (n ∷ ns) t h = by (bytes_eq (class_name b.class) C) refl (row_of C x f bs ns tested.1) h
    where
      tested : (row_test b n ≡ true) × (every row_test bs ns ≡ true)
      tested = and_parts (row_test b n) (every row_test bs ns) t

      named : bytes_eq (class_name b.class) C ≡ true → (u : Bool) → bytes_eq n x ≡ u → (find x (rows_of C bs ns) ≡ Some f → Row C x f) → cond u (Some (Callee.built_in b.parameters b.operation)) (find x (rows_of C bs ns)) ≡ Some f → Row C x f
      named p true q g k = record { row = b; its-name = n; passes = tested.0; class-is = p; name-is = q; callee-is = cc }
      named p false q g k = g k

      by : (u : Bool) → bytes_eq (class_name b.class) C ≡ u → (find x (rows_of C bs ns) ≡ Some f → Row C x f)
          → find x (cond u (record { name = n; callee = Callee.built_in b.parameters b.operation } ∷ rows_of C bs ns) (rows_of C bs ns)) ≡ Some f → Row C x f
      by true p g k = named p _ refl g k
      by false p g k = g k

-- does a class have a row of this name?
abbrev has_row : List ℕ → List ℕ → List Builtin → List (List ℕ) → Bool
has_row C x [] ns = false
has_row C x (b ∷ bs) [] = false
has_row C x (b ∷ bs) (n ∷ ns) = bytes_eq (class_name b.class) C && bytes_eq n x || has_row C x bs ns

to-s-row : (b : BuiltinClass) → has_row (class_name b) (codes "to_s") builtin.table builtin.names ≡ true
to-s-row Object = refl
to-s-row Str = refl
to-s-row Integer = refl
to-s-row Map = refl
to-s-row Bot = refl

-- which operations and methods a class finds

nth_right : {X : Type 0} (xs ys : List X) (j : ℕ) → slice_get (xs ++ ys) (length xs + j) ≡ slice_get ys j
nth_right [] ys j = rw zero-add
nth_right (x ∷ xs) ys j = rw suc-add (nth_right xs ys j)

nth_left : {X : Type 0} (xs ys : List X) (i : ℕ) (x : X) → slice_get xs i ≡ Some x → slice_get (xs ++ ys) i ≡ Some x
nth_left [] ys i x h = let z : ◌≡◌ {A = ℕ} 0 1 = cc in absurd (omega arith)
nth_left (y ∷ xs) ys zero x h = h
nth_left (y ∷ xs) ys (suc i) x h = nth_left xs ys i x h

pub nth-below : {X : Type 0} (xs : List X) (i : ℕ) (x : X) → slice_get xs i ≡ Some x → i < length xs
nth-below [] i x h = let z : ◌≡◌ {A = ℕ} 0 1 = cc in absurd (omega arith)
nth-below (y ∷ xs) zero x h = omega arith
nth-below (y ∷ xs) (suc i) x h = omega (arith, nth-below xs i x h)

suited-new : (C : List ℕ) (o : Operation) → among built_in_names C ≡ false → suited C o ≡ suits false false false false o
suited-new C o h = λ i. suits (unlike-built_in C h Str i) (unlike-built_in C h Integer i) (unlike-built_in C h Map i) (unlike-built_in C h Bot i) o

module _ {A : Type 0} where
  suited-parent : (P : Classes A) (D : List ℕ) (o : Operation) → Accepted P → among (codes "Object" ∷ added P) D ≡ true → suited D o ≡ suits false false false false o
  suited-parent P D o a h = ⊎_elim
      (λ (e : bytes_eq (codes "Object") D ≡ true). ap (λ (C : List ℕ). suited C o) (sym (same-is (codes "Object") D e)))
      (λ (g : among (added P) D ≡ true). suited-new D o (added-unlike P D a g))
      (or_cases (bytes_eq (codes "Object") D) (among (added P) D) h)

  own-found : (x : List ℕ) (k : ℕ) (ms : List (Method A)) (f : Callee A) → find x (own k ms) ≡ Some f → (j : ℕ) × (m : Method A) × (f ≡ Callee.written (k + j) m) × (slice_get ms j ≡ Some m)
  own-found x k [] f h = let z : ◌≡◌ {A = ℕ} 0 1 = cc in absurd (omega arith)
  own-found x k (m ∷ ms) f h = by (bytes_eq m.name x) (own-found x (suc k) ms f) h
    where
      by : (t : Bool) → (find x (own (suc k) ms) ≡ Some f → (j : ℕ) × (l : Method A) × (f ≡ Callee.written (suc k + j) l) × (slice_get ms j ≡ Some l))
          → cond t (Some (Callee.written k m)) (find x (own (suc k) ms)) ≡ Some f → (j : ℕ) × (l : Method A) × (f ≡ Callee.written (k + j) l) × (slice_get (m ∷ ms) j ≡ Some l)
      by true g q = let e : k ≡ k + 0 = omega arith in (0, m, cc, refl)
      by false g q =
          let r = g q in
          let e : suc k + r.0 ≡ k + suc r.0 = omega arith in
          (suc r.0, r.1, r.2 ∙ ap (λ (n : ℕ). Callee.written n r.1) e, r.3)

  suited-found : {P : Classes A} {C x : List ℕ} {n : ℕ} {o : Operation} → Accepted P → Finds P C x (Callee.built_in n o) → (n ≡ operation_parameters o) × (suited C o ≡ true)
  suited-found {C = C} {x = x} {n = n} {o = o} a (built_in h) =
      let r = row_of C x (Callee.built_in n o) builtin.table builtin.names table-passes h in
      let b = r.row in
      let t = row-tested b r.its-name r.passes in
      let same : b.operation ≡ o = cc r.callee-is in
      let as_many : n ≡ b.parameters = cc r.callee-is in
      let class_same : class_name b.class ≡ C = same-is (class_name b.class) C r.class-is in (
        as_many ∙ t.0 ∙ ap operation_parameters same,
        (λ i. suited (sym class_same i) (sym same i)) ∙ t.1,
      )
  suited-found {P = P} {x = x} {n = n} {o = o} a (its_own {K = K} {older = older} p h) =
      let r = own-found x (added_methods older) K.methods (Callee.built_in n o) h in
      let z : ◌≡◌ {A = ℕ} 0 1 = cc r.2 in
      absurd (omega arith)
  suited-found {C = C} {o = o} a (by-parent {K = K} {older = older} p g) =
      let r = suited-found a.1 g in
      let new : among built_in_names C ≡ false = rw (same-is K.name C p) at (new-unlike older K.name a.0.new-name).0 in
      (r.0, suited-new C o new ∙ sym (suited-parent older K.parent o a.1 a.0.parent-there) ∙ r.1)
  suited-found a (by-older p g) = suited-found a.1 g

  pub all-methods-length : (P : Classes A) → length (all_methods P) ≡ added_methods P
  all-methods-length [] = refl
  all-methods-length (K ∷ older) = omega (arith, length-append (all_methods older) K.methods, all-methods-length older)

  written-found : {P : Classes A} {C x : List ℕ} {i : ℕ} {m : Method A} → Finds P C x (Callee.written i m) → slice_get (all_methods P) i ≡ Some m
  written-found {C = C} {x = x} {i = i} {m = m} (built_in h) =
      let r = row_of C x (Callee.written i m) builtin.table builtin.names table-passes h in
      let z : ◌≡◌ {A = ℕ} 0 1 = cc r.callee-is in
      absurd (omega arith)
  written-found {x = x} {i = i} {m = m} (its_own {K = K} {older = older} p h) =
      let r = own-found x (added_methods older) K.methods (Callee.written i m) h in
      let number : i ≡ length (all_methods older) + r.0 = cc (r.2, all-methods-length older) in
      let this : r.1 ≡ m = cc r.2 in
      ap (slice_get (all_methods older ++ K.methods)) number ∙ nth_right (all_methods older) K.methods r.0 ∙ r.3 ∙ ap Some this
  written-found {i = i} {m = m} (by-parent {K = K} {older = older} p g) = nth_left (all_methods older) K.methods i m (written-found g)
  written-found {i = i} {m = m} (by-older {K = K} {older = older} p g) = nth_left (all_methods older) K.methods i m (written-found g)

  -- only an added class finds a written method
  in-added : {P : Classes A} {C x : List ℕ} {i : ℕ} {m : Method A} → Finds P C x (Callee.written i m) → among (added P) C ≡ true
  in-added {C = C} {x = x} {i = i} {m = m} (built_in h) =
      let r = row_of C x (Callee.written i m) builtin.table builtin.names table-passes h in
      let z : ◌≡◌ {A = ℕ} 0 1 = cc r.callee-is in
      absurd (omega arith)
  in-added {C = C} (its_own {K = K} {older = older} p h) = or_left (bytes_eq K.name C) (among (added older) C) p
  in-added {C = C} (by-parent {K = K} {older = older} p g) = or_left (bytes_eq K.name C) (among (added older) C) p
  in-added {C = C} (by-older {K = K} {older = older} p g) = or_right (bytes_eq K.name C) (among (added older) C) (in-added g)

  no-initialize : {P : Classes A} {C x : List ℕ} {f : Callee A} → Finds P C x f → x ≡ codes "initialize" → (i : ℕ) × (m : Method A) × (f ≡ Callee.written i m)
  no-initialize {C = C} {x = x} {f = f} (built_in h) e =
      let r = row_of C x f builtin.table builtin.names table-passes h in
      let name : r.its-name ≡ codes "initialize" = same-is r.its-name x r.name-is ∙ e in
      let t : false ≡ true = sym (ap (λ (n : List ℕ). not (bytes_eq n (codes "initialize"))) name) ∙ (row-tested r.row r.its-name r.passes).2 in
      absurd (both_ways _ refl t)
  no-initialize {x = x} {f = f} (its_own {K = K} {older = older} p h) e =
      let r = own-found x (added_methods older) K.methods f h in
      (_, r.1, r.2)
  no-initialize (by-parent p g) e = no-initialize g e
  no-initialize (by-older p g) e = no-initialize g e

  row-found : (C x : List ℕ) (bs : List Builtin) (ns : List (List ℕ)) → has_row C x bs ns ≡ true → (f : Callee A) × (find x (rows_of C bs ns) ≡ Some f)
  row-found C x [] ns h = absurd (both_ways _ refl h)
  row-found C x (b ∷ bs) [] h = absurd (both_ways _ refl h)
  row-found C x (b ∷ bs) (n ∷ ns) h = by (bytes_eq (class_name b.class) C) (bytes_eq n x) refl (row-found C x bs ns) h
    where
      by : (t u : Bool) → bytes_eq n x ≡ u → (has_row C x bs ns ≡ true → (f : Callee A) × (find x (rows_of C bs ns) ≡ Some f)) → (t && u || has_row C x bs ns) ≡ true
          → (f : Callee A) × (find x (cond t (record { name = n; callee = Callee.built_in b.parameters b.operation } ∷ rows_of C bs ns) (rows_of C bs ns)) ≡ Some f)
      by true true p g k = (Callee.built_in b.parameters b.operation, rw p)
      by true false p g k = let r = g k in (r.0, rw p r.1)
      by false true p g k = g k
      by false false p g k = g k

  to-s-built-in : (b : BuiltinClass) → (f : Callee A) × (lookup {A = A} [] (class_name b) (codes "to_s") ≡ Some f)
  to-s-built-in b = let r = row-found (class_name b) (codes "to_s") builtin.table builtin.names (to-s-row b) in (r.0, lookup-none (class_name b) (codes "to_s") ∙ r.1)

  one_found : (o p : Option (Callee A)) (f : Callee A) → p ≡ Some f → (g : Callee A) × (or_else o p ≡ Some g)
  one_found None p f h = (f, h)
  one_found (Some g) p f h = (g, refl)

number-outside : (g : ℕ) → g < 65280 → builtin_of g ≡ None
number-outside g h = rw (ne_eqb g 65280 (omega arith), ne_eqb g 65281 (omega arith), ne_eqb g 65282 (omega arith), ne_eqb g 65283 (omega arith))

operation-outside : (o : Operation) → builtin_of (operation_function o) ≡ None
operation-outside Equal = refl
operation-outside ClassName = refl
operation-outside PrintClassName = refl
operation-outside Itself = refl
operation-outside Decimal = refl
operation-outside PrintValue = refl
operation-outside NilText = refl
operation-outside PrintNil = refl
operation-outside Concat = refl
operation-outside Length = refl
operation-outside (Arith Add) = refl
operation-outside (Arith Sub) = refl
operation-outside (Arith Mul) = refl
operation-outside (Arith Div) = refl
operation-outside Find = refl
operation-outside Insert = refl
operation-outside Has = refl

module _ {A : Type 0} (P : Classes A) (C x : List ℕ) where
  -- a written method that is found is the one of its number
  pub found-written : (i : ℕ) (m : Method A) → lookup P C x ≡ Some (Callee.written i m) → slice_get (all_methods P) i ≡ Some m
  found-written i m h = written-found (finds P C x (Callee.written i m) h)

  -- and its number is below that of all added methods
  pub found_number : (i : ℕ) (m : Method A) → lookup P C x ≡ Some (Callee.written i m) → i < added_methods P
  found_number i m h = omega (arith, nth-below (all_methods P) i m (found-written i m h), all-methods-length P)

  -- only an added class finds a written method
  pub found-in-added : (i : ℕ) (m : Method A) → lookup P C x ≡ Some (Callee.written i m) → among (added P) C ≡ true
  found-in-added i m h = in-added (finds P C x (Callee.written i m) h)

  -- so that class is none of the built-in ones
  pub found-unlike : (i : ℕ) (m : Method A) → Accepted P → lookup P C x ≡ Some (Callee.written i m) → (b : BuiltinClass) → bytes_eq C (class_name b) ≡ false
  found-unlike i m a h = unlike-built_in C (added-unlike P C a (found-in-added i m h))

  -- a built-in method that is found has its operation's parameters, and the class may perform it
  pub found-built_in : (n : ℕ) (o : Operation) → Accepted P → lookup P C x ≡ Some (Callee.built_in n o) → (n ≡ operation_parameters o) × (suited C o ≡ true)
  found-built_in n o a h = suited-found a (finds P C x (Callee.built_in n o) h)

  -- a function that is found is none of the machine's own
  pub found-function : (f : Callee A) → Few P → lookup P C x ≡ Some f → builtin_of (function_of f) ≡ None
  found-function (Callee.built_in n o) few h = operation-outside o
  found-function (Callee.written i m) few h = number-outside (18 + i) (omega (arith, found_number i m h))

module _ {A : Type 0} (P : Classes A) (C : List ℕ) where
  -- no initialize is built in
  pub initialize-written : (f : Callee A) → lookup P C (codes "initialize") ≡ Some f → (i : ℕ) × (m : Method A) × (f ≡ Callee.written i m)
  initialize-written f h = no-initialize (finds P C (codes "initialize") f h) refl

-- a known class finds a to_s
pub to-s-found : {A : Type 0} (P : Classes A) (C : List ℕ) → Accepted P → known P C ≡ true → (f : Callee A) × (lookup P C (codes "to_s") ≡ Some f)
to-s-found {A} [] C a h =
    let b = among-classes builtin_classes C h in
    rw (← b.1) (to-s-built-in b.0)
to-s-found {A} (K ∷ older) C a h = by (bytes_eq K.name C) refl (to-s-found older K.parent a.1 (parent-known older K.parent a.0.parent-there)) (to-s-found older C a.1)
  where
    known-older : (t : Bool) → bytes_eq K.name C ≡ t → t ≡ false → known older C ≡ true
    known-older t e z = known_is older C ∙ ap (λ (u : Bool). among built_in_names C || (u || among (added older) C)) (sym (e ∙ z)) ∙ sym (known_is (K ∷ older) C) ∙ h

    by : (t : Bool) → bytes_eq K.name C ≡ t → (f : Callee A) × (lookup older K.parent (codes "to_s") ≡ Some f) → (known older C ≡ true → (f : Callee A) × (lookup older C (codes "to_s") ≡ Some f)) → (f : Callee A) × (lookup (K ∷ older) C (codes "to_s") ≡ Some f)
    by true p g k =
        let r = one_found (find (codes "to_s") (own (added_methods older) K.methods)) (lookup older K.parent (codes "to_s")) g.0 g.1 in
        (r.0, lookup-here K older C (codes "to_s") p ∙ r.1)
    by false p g k = let r = k (known-older false p refl) in (r.0, lookup-older K older C (codes "to_s") p ∙ r.1)
