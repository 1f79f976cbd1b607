-- Which receivers suit a built-in operation. Assumes nothing.
use Rattle.std.proofs.Common.{◌≡◌, ℕ, suc, ◌<◌, Bool, true, false, List, [], ◌∷◌, length, get_or, ℤ, codes, refl, ap, ◌∙◌, subst}
use Rattle.std.specs.Str.{bytes_eq}
use Rattle.std.proofs.lemmas.Slice.Eq.{bytes_eq-Decides}
use Rattle.std.proofs.lemmas.Bool.{false≢true}
use Rattle.store.specs.Val.{Val}
use Rattle.store.specs.Tables.{Table}
use Rattle.machine.specs.declared.arith.Op.{Op}
use Rattle.rube.specs.declared.builtin.Operation.{Operation}
use Rattle.rube.specs.declared.builtin.Operation.TheVariants.{
  Equal,
  ClassName,
  PrintClassName,
  Itself,
  Decimal,
  PrintValue,
  NilText,
  PrintNil,
  Concat,
  Length,
  Arith,
  Find,
  Insert,
  Has,
}
use Rattle.rube.specs.Classes.{Classes, known}
use Rattle.rube.specs.Heap.{Cell, Heap, no_cell, cell_class, class_of}
use Rattle.compiler.specs.Layout.{contents_key}
use Rattle.correctness.proofs.Relation.{Fine, integer, text, object, Sound}
use Rattle.correctness.proofs.Lookup.{suits, suited}
use Rattle.correctness.proofs.Heaps.{object-parts, map-parts}

module _ {A : Type 0} (P : Classes A) where
  -- an object of a known class stands at l
  pub record ObjectAt (H : Heap) (l : ℕ) : Type 0 where
    pub class : List ℕ
    pub fields : Table
    pub is : get_or H l no_cell ≡ Cell.object class fields
    pub is_known : known P class ≡ true

  -- a Map stands at l, and its contents right behind it
  pub record MapAt (H : Heap) (l : ℕ) : Type 0 where
    pub table : Table
    pub is : get_or H l no_cell ≡ Cell.object (codes "Map") ((contents_key, Val.location (suc l)) ∷ [])
    pub behind : suc l < length H
    pub contents : get_or H (suc l) no_cell ≡ Cell.contents table

  -- the operation can be performed on the receiver
  pub data Suits (H : Heap) : Operation → Val → Type 0 where
    equal : {r : Val} → Suits H Equal r
    class_name : {l : ℕ} → ObjectAt H l → Suits H ClassName (Val.location l)
    print_class_name : {l : ℕ} → ObjectAt H l → Suits H PrintClassName (Val.location l)
    itself : {r : Val} → Suits H Itself r
    decimal : {n : ℤ} → Suits H Decimal (Val.int n)
    print_integer : {n : ℤ} → Suits H PrintValue (Val.int n)
    print_string : {t : List ℕ} → Suits H PrintValue (Val.string t)
    nil_text : {r : Val} → Suits H NilText r
    print_nil : {r : Val} → Suits H PrintNil r
    concat : {t : List ℕ} → Suits H Concat (Val.string t)
    its_length : {t : List ℕ} → Suits H Length (Val.string t)
    arith : {o : Op} {n : ℤ} → Suits H (Arith o) (Val.int n)
    find : {l : ℕ} → MapAt H l → Suits H Find (Val.location l)
    insert : {l : ℕ} → MapAt H l → Suits H Insert (Val.location l)
    has : {l : ℕ} → MapAt H l → Suits H Has (Val.location l)

  suits-integer : {H : Heap} (n : ℤ) (o : Operation) → suits false true false false o ≡ true → Suits H o (Val.int n)
  suits-integer n Equal h = equal
  suits-integer n ClassName h = absurd (false≢true h)
  suits-integer n PrintClassName h = absurd (false≢true h)
  suits-integer n Itself h = absurd (false≢true h)
  suits-integer n Decimal h = decimal
  suits-integer n PrintValue h = print_integer
  suits-integer n NilText h = absurd (false≢true h)
  suits-integer n PrintNil h = absurd (false≢true h)
  suits-integer n Concat h = absurd (false≢true h)
  suits-integer n Length h = absurd (false≢true h)
  suits-integer n (Arith o) h = arith
  suits-integer n Find h = absurd (false≢true h)
  suits-integer n Insert h = absurd (false≢true h)
  suits-integer n Has h = absurd (false≢true h)

  suits-string : {H : Heap} (t : List ℕ) (o : Operation) → suits true false false false o ≡ true → Suits H o (Val.string t)
  suits-string t Equal h = equal
  suits-string t ClassName h = absurd (false≢true h)
  suits-string t PrintClassName h = absurd (false≢true h)
  suits-string t Itself h = itself
  suits-string t Decimal h = absurd (false≢true h)
  suits-string t PrintValue h = print_string
  suits-string t NilText h = absurd (false≢true h)
  suits-string t PrintNil h = absurd (false≢true h)
  suits-string t Concat h = concat
  suits-string t Length h = its_length
  suits-string t (Arith o) h = absurd (false≢true h)
  suits-string t Find h = absurd (false≢true h)
  suits-string t Insert h = absurd (false≢true h)
  suits-string t Has h = absurd (false≢true h)

  suits-map : {H : Heap} {l : ℕ} → ObjectAt H l → MapAt H l → (o : Operation) → suits false false true false o ≡ true → Suits H o (Val.location l)
  suits-map x m Equal h = equal
  suits-map x m ClassName h = class_name x
  suits-map x m PrintClassName h = print_class_name x
  suits-map x m Itself h = absurd (false≢true h)
  suits-map x m Decimal h = absurd (false≢true h)
  suits-map x m PrintValue h = absurd (false≢true h)
  suits-map x m NilText h = absurd (false≢true h)
  suits-map x m PrintNil h = absurd (false≢true h)
  suits-map x m Concat h = absurd (false≢true h)
  suits-map x m Length h = absurd (false≢true h)
  suits-map x m (Arith o) h = absurd (false≢true h)
  suits-map x m Find h = find m
  suits-map x m Insert h = insert m
  suits-map x m Has h = has m

  suits-object : {H : Heap} {l : ℕ} → ObjectAt H l → (b : Bool) (o : Operation) → suits false false false b o ≡ true → Suits H o (Val.location l)
  suits-object x b Equal h = equal
  suits-object x b ClassName h = class_name x
  suits-object x b PrintClassName h = print_class_name x
  suits-object x b Itself h = absurd (false≢true h)
  suits-object x b Decimal h = absurd (false≢true h)
  suits-object x b PrintValue h = absurd (false≢true h)
  suits-object x b NilText h = nil_text
  suits-object x b PrintNil h = print_nil
  suits-object x b Concat h = absurd (false≢true h)
  suits-object x b Length h = absurd (false≢true h)
  suits-object x b (Arith o) h = absurd (false≢true h)
  suits-object x b Find h = absurd (false≢true h)
  suits-object x b Insert h = absurd (false≢true h)
  suits-object x b Has h = absurd (false≢true h)

  -- an operation that a value's class may perform suits the value
  pub suited-suits : {H : Heap} {r : Val} (o : Operation) → Sound P H → Fine P H r → suited (class_of H r) o ≡ true → Suits H o r
  suited-suits o s integer h = suits-integer _ o h
  suited-suits o s text h = suits-string _ o h
  suited-suits {H} o s (object {l = l} {C = C} {fs = fs} e k) h = by (bytes_eq C (codes "Map")) refl where
    class-is : class_of H (Val.location l) ≡ C
    class-is = ap cell_class e

    by : (b : Bool) → bytes_eq C (codes "Map") ≡ b → Suits H o (Val.location l)
    by true m =
        let c = (bytes_eq-Decides C (codes "Map")).0 m in
        let e' = e ∙ ap (λ (D : List ℕ). Cell.object D fs) c in
        let parts = map-parts P l s.fine e' in
        let at-l : MapAt H l = record {
          table = parts.table;
          is = e' ∙ ap (Cell.object (codes "Map")) parts.place;
          behind = s.backed.behind l fs e';
          contents = parts.contents;
        } in
        suits-map (record { class = C; fields = fs; is = e; is_known = k }) at-l o (subst (λ (D : List ℕ). suited D o ≡ true) (class-is ∙ c) h)
    by false m =
        let plain = (object-parts P l s.fine e m).2 in
        suits-object (record { class = C; fields = fs; is = e; is_known = k }) (bytes_eq C (codes "Bot")) o
        (rw (plain.0, plain.1, plain.2) at (subst (λ (D : List ℕ). suited D o ≡ true) class-is h))
