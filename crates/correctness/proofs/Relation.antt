-- How the meaning's state stands in the machine: heap in tables, locals in registers. Assumes nothing.
use Rattle.std.proofs.Common.{◌≡◌, ℕ, suc, ◌+◌, ◌<◌, ◌≤◌, true, false, List, [], ◌∷◌, ◌++◌, map, length, get_or, Some, None, codes, Option}
use Rattle.std.specs.List.{AllByRecursion}
use Rattle.std.specs.Str.{bytes_eq}
use Rattle.store.specs.Val.{Val}
use Rattle.store.specs.Tables.{Table, Tables, look}
use Rattle.machine.specs.State as machine
use Rattle.machine.specs.State.{Registers}
use Rattle.machine.proofs.Judge.{Has}
use Rattle.rube.specs.Classes.{Named, Classes, visible, class_names, class_count, known, among}
use Rattle.rube.specs.Heap.{Cell, Heap, no_cell, fits}
use Rattle.rube.specs.Evaluation.{State}
use Rattle.compiler.specs.Layout.{class_key, name_key, contents_key, mark, nil_global, class_global, place_in, slot, function_of}
use Rattle.correctness.specs.Fitting.{FieldName}

-- a class whose objects have fields: an Integer and a String are values, a Map has contents
abbrev pub Plain : List ℕ → Type 0
Plain C = (bytes_eq C (codes "Map") ≡ false) × (bytes_eq C (codes "String") ≡ false) × (bytes_eq C (codes "Integer") ≡ false)

-- behind each Map stands a cell
pub record Backed (H : Heap) : Type 0 where
  pub behind : (l : ℕ) (fs : Table) → get_or H l no_cell ≡ Cell.object (codes "Map") fs → suc l < length H

module _ {A : Type 0} (P : Classes A) where
  -- the class tables come first, so a location moves up by their number
  abbrev pub shift : Val → Val
  shift (Val.int n) = Val.int n
  shift (Val.string s) = Val.string s
  shift (Val.identifier g) = Val.identifier g
  shift (Val.location l) = Val.location (class_count P + l)

  abbrev pub shift_pair : Val × Val → Val × Val
  shift_pair p = (shift p.0, shift p.1)

  abbrev pub shift_table : Table → Table
  shift_table t = map shift_pair t

  -- a class table: the name, and a function for each method that the class finds
  abbrev pub method_pair : Named A → Val × Val
  method_pair m = (Val.string m.name, Val.identifier (function_of m.callee))

  abbrev pub class_table : List ℕ → Table
  class_table C = (name_key, Val.string C) ∷ map method_pair (visible P C)

  unfoldable pub class_tables : Tables
  class_tables = map class_table (class_names P)

  -- an object's table: its class, then its fields
  abbrev pub table_of : Cell → Table
  table_of (Cell.object C fs) = (class_key, Val.location (place_in (class_names P) C)) ∷ shift_table fs
  table_of (Cell.contents t) = shift_table t

  unfoldable pub tables_of : Heap → Tables
  tables_of H = class_tables ++ map table_of H

  -- what the globals hold once the run has begun
  pub record Globals (G : Table) : Type 0 where
    pub nils : look (Val.identifier nil_global) G ≡ Some (Val.location (class_count P + 0))
    pub classes : (C : List ℕ) → known P C ≡ true → look (Val.identifier (class_global P C)) G ≡ Some (Val.location (place_in (class_names P) C))

  -- the machine's world for a state of the meaning
  abbrev pub world : Table → State → machine.World
  world G s = record { tables = tables_of s.heap; globals = G; effects = s.effects }

  -- a value of the language in this heap: an integer, a string or an object of a known class
  pub data Fine (H : Heap) : Val → Type 0 where
    integer : {n : _} → Fine H (Val.int n)
    text : {t : List ℕ} → Fine H (Val.string t)
    object : {l : ℕ} {C : List ℕ} {fs : Table} → get_or H l no_cell ≡ Cell.object C fs → known P C ≡ true → Fine H (Val.location l)

  -- a field: a name with `@`, and a value
  abbrev pub FineField : Heap → Val × Val → Type 0
  FineField H (Val.int n, v) = ⊥
  FineField H (Val.string x, v) = FieldName x × Fine H v
  FineField H (Val.identifier g, v) = ⊥
  FineField H (Val.location l, v) = ⊥

  -- a Map has its contents right behind it; any other object has fields
  pub data FineCell (H : Heap) (l : ℕ) : Cell → Type 0 where
    a_map : {t : Table} → get_or H (suc l) no_cell ≡ Cell.contents t → FineCell H l (Cell.object (codes "Map") ((contents_key, Val.location (suc l)) ∷ []))
    an_object : {C : List ℕ} {fs : Table} → Plain C → known P C ≡ true → AllByRecursion (FineField H) fs → FineCell H l (Cell.object C fs)
    its_contents : {t : Table} → AllByRecursion (λ p. Fine H p.0 × Fine H p.1) t → FineCell H l (Cell.contents t)

  pub record FineHeap (H : Heap) : Type 0 where
    pub cells : (l : ℕ) → l < length H → FineCell H l (get_or H l no_cell)
    pub bot : (fs : Table) × (get_or H 0 no_cell ≡ Cell.object (codes "Bot") fs)

  -- a heap of the language: fine, and with a cell behind each Map
  pub record Sound (H : Heap) : Type 0 where
    pub fine : FineHeap H
    pub backed : Backed H

  -- a receiver of written methods: an object that is no Map
  pub data Self (H : Heap) : Val → Type 0 where
    self : {l : ℕ} {C : List ℕ} {fs : Table} → get_or H l no_cell ≡ Cell.object C fs → bytes_eq C (codes "Map") ≡ false → known P C ≡ true → Self H (Val.location l)

  -- objects stay what they are
  pub record Grows (H H' : Heap) : Type 0 where
    pub objects : (l : ℕ) (C : List ℕ) (fs : Table) → get_or H l no_cell ≡ Cell.object C fs → (gs : Table) × (get_or H' l no_cell ≡ Cell.object C gs)

  -- what a name's register holds
  abbrev pub held : Option Val → Val
  held None = mark
  held (Some v) = shift v

  -- self and the names of the body stand in their registers
  pub record Stand (ns : List (List ℕ)) (me : Val) (locals : Table) (R : Registers) : Type 0 where
    pub me-in : Has R 1 (shift me)
    pub names_in : (x : List ℕ) → among ns x ≡ true → Has R (slot ns x) (held (look (Val.string x) locals))

  -- the state is one that evaluation comes to
  pub record Proper (limits : _) (me : Val) (s : State) : Type 0 where
    pub heap-fine : Sound s.heap
    pub me-fine : Self s.heap me
    pub locals-fine : AllByRecursion (λ p. Fine s.heap p.1) s.locals
    pub space : fits (record { classes = P; limits = limits }) s.heap 0 0 ≡ true

-- the registers from a up to b are as they were
pub record Keep (a b : ℕ) (R R' : Registers) : Type 0 where
  pub kept : (i : ℕ) → a ≤ i → i < b → machine.read R' i ≡ machine.read R i
