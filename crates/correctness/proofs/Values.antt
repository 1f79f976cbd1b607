-- When two values are equal, what a table's key holds after a write, and what moving locations up changes. Assumes nothing.
use Rattle.std.proofs.Common.{◌≡◌, ℕ, ◌+◌, Bool, true, false, cond, eqb, List, [], ◌∷◌, is_some, Some, None, Option, sym, refl, ap, ◌∙◌, arith}
use Rattle.std.specs.Option.{option_map}
use Rattle.std.specs.Str.{bytes_eq}
use Rattle.std.proofs.lemmas.Slice.Eq.{bytes_eq-Decides}
use Rattle.std.proofs.lemmas.Bool.Decides.{Decides-eqb, Decides-like, same_from_decides}
use Rattle.text.specs.Memory.{equal_bytes}
use Rattle.text.specs.Meanings.{decides-bytes}
use Rattle.store.specs.Val.{Val, equal_val}
use Rattle.store.specs.Tables.{Table, look, put}
use Rattle.store.specs.ValuesLemmas.{decides-val}
use Rattle.rube.specs.Classes.{Classes, class_count}
use Rattle.correctness.specs.Fitting.{FieldName, MethodName}
use Rattle.compiler.specs.Layout.{class_key, name_key, contents_key}
use Rattle.correctness.proofs.Relation.{shift, shift_table}

-- a value equals itself
pub equal-same : (v : Val) → equal_val v v ≡ true
equal-same v = (decides-val v v).1 refl

-- strings are equal whose bytes are
pub string-key : (x y : List ℕ) → equal_val (Val.string x) (Val.string y) ≡ bytes_eq x y
unfolding equal_val
string-key x y = same_from_decides (equal_bytes x y) (bytes_eq x y) (decides-bytes x y) (bytes_eq-Decides x y)

-- bytes that are the same
pub same_bytes : (x : List ℕ) → bytes_eq x x ≡ true
same_bytes x = (bytes_eq-Decides x x).1 refl

-- bytes are compared either way round
pub bytes-either-way : (x y : List ℕ) → bytes_eq x y ≡ bytes_eq y x
bytes-either-way x y =
    same_from_decides (bytes_eq x y) (bytes_eq y x) (bytes_eq-Decides x y)
    (Decides-like (bytes_eq y x) sym sym (bytes_eq-Decides y x))

-- no field has a name that is a key of ours
pub field-no-class : (x : List ℕ) → FieldName x → equal_val class_key (Val.string x) ≡ false
unfolding equal_val equal_bytes
field-no-class [] h = absurd h
field-no-class (b ∷ x) h = rw h

-- no field is called as a Map's contents are
pub field-no-contents : (x : List ℕ) → FieldName x → equal_val contents_key (Val.string x) ≡ false
unfolding equal_val equal_bytes
field-no-contents [] h = absurd h
field-no-contents (b ∷ x) h = rw h

-- nor are those called as the class is
pub contents-no-class : equal_val class_key contents_key ≡ false
unfolding equal_val equal_bytes
contents-no-class = refl

-- and no method
pub method-no-name : (x : List ℕ) → MethodName x → equal_val name_key (Val.string x) ≡ false
method-no-name x h = string-key _ x ∙ h

-- a value is there as before
pub some_mapped : {X Y : Type 0} (f : X → Y) (o : Option X) → is_some (option_map f o) ≡ is_some o
some_mapped f None = refl
some_mapped f (Some x) = refl

-- a function of the one that a test chooses
pub through-cond : {X Y : Type 0} (f : X → Y) (b : Bool) (x y : X) → cond b (f x) (f y) ≡ f (cond b x y)
through-cond f true x y = refl
through-cond f false x y = refl

module _ {A : Type 0} (P : Classes A) where
  equal-moved : (p q : ℕ) → eqb (class_count P + p) (class_count P + q) ≡ eqb p q
  equal-moved p q =
      same_from_decides _ _ (Decides-eqb (class_count P + p) (class_count P + q))
      (Decides-like (eqb p q) (ap (λ (n : ℕ). class_count P + n)) (λ e. omega arith) (Decides-eqb p q))

  -- moving locations up keeps what is equal and what is not
  pub equal-shift : (a b : Val) → equal_val (shift P a) (shift P b) ≡ equal_val a b
  unfolding equal_val
  equal-shift (Val.int m) (Val.int n) = refl
  equal-shift (Val.int m) (Val.string t) = refl
  equal-shift (Val.int m) (Val.identifier j) = refl
  equal-shift (Val.int m) (Val.location q) = refl
  equal-shift (Val.string s) (Val.int n) = refl
  equal-shift (Val.string s) (Val.string t) = refl
  equal-shift (Val.string s) (Val.identifier j) = refl
  equal-shift (Val.string s) (Val.location q) = refl
  equal-shift (Val.identifier i) (Val.int n) = refl
  equal-shift (Val.identifier i) (Val.string t) = refl
  equal-shift (Val.identifier i) (Val.identifier j) = refl
  equal-shift (Val.identifier i) (Val.location q) = refl
  equal-shift (Val.location p) (Val.int n) = refl
  equal-shift (Val.location p) (Val.string t) = refl
  equal-shift (Val.location p) (Val.identifier j) = refl
  equal-shift (Val.location p) (Val.location q) = equal-moved p q

  -- a table whose locations move up holds what it held, moved up
  pub look-shift : (k : Val) (t : Table) → look (shift P k) (shift_table P t) ≡ option_map (shift P) (look k t)
  unfolding look
  look-shift k [] = refl
  look-shift k (p ∷ t) =
      rw (equal-shift p.0 k, look-shift k t)
      (through-cond (option_map (shift P)) (equal_val p.0 k) (Some p.1) (look k t))

  -- and a write moved up is the write, moved up
  pub put-shift : (k v : Val) (t : Table) → put (shift P k) (shift P v) (shift_table P t) ≡ shift_table P (put k v t)
  unfolding put
  put-shift k v [] = refl
  put-shift k v (p ∷ t) =
      rw (equal-shift p.0 k, put-shift k v t)
      (through-cond (shift_table P) (equal_val p.0 k) ((p.0, v) ∷ t) (p ∷ put k v t))
