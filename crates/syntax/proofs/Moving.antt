-- How far each form moves on, from how far its parts do. Assumes nothing.
use Rattle.std.proofs.Common.{◌≡◌, ℕ, ◌<◌, ◌≤◌, List, length, ap, arith}
use Rattle.nodes.specs.declared.node.Node.{Node}
use Rattle.syntax.specs.declared.table.Table.{Table}
use Rattle.syntax.specs.declared.read.Size.{Size}
use Rattle.syntax.specs.declared.read.Got.{Got}
use Rattle.syntax.specs.declared.read.Given.{Given}
use Rattle.syntax.specs.Parsing.{Moves, MovesArgs, Put, With, Closed}

-- a token lies behind q, between from and to
abbrev pub Between : List ℕ → ℕ → ℕ → ℕ → Type 0
Between text q from to = (q ≤ from) × (from < to) × (to ≤ length text)

-- what moves on from q moves on from what lies before
pub earlier : {text : List ℕ} {p q : ℕ} {xs ys : Table Node} {g : Got} → p ≤ q → Moves text q xs ys g → Moves text p xs ys g
earlier h m = record { on = omega arith; inside = omega arith; few = omega arith; new = omega arith; root = omega arith }

-- what is to be read next begins behind q
abbrev pub Behind : List ℕ → ℕ → ℕ → Type 0
Behind text q to = (q < to) × (to ≤ length text)

module _ {text : List ℕ} {p : ℕ} {xs ys : Table Node} {x : Node} {size : Size} {g : Got} where
  pub leaf-moves : {to : ℕ} → xs.count ≤ p → (p < to) × (to ≤ length text) → Put xs ys x to size g → Moves text p xs ys g
  leaf-moves h i put = record { on = omega (arith, put.to_is); inside = omega (arith, put.to_is); few = omega (arith, put.to_is, put.counted); new = omega (arith, put.root); root = omega (arith, put.root, put.counted) }

  pub seq-moves : {xs0 : Table Node} {a b : Got} {ta : ℕ} {t1 : Table Node} → Moves text p xs0 t1 a → Behind text a.to ta → Moves text ta t1 xs b → Put xs ys x b.to size g → Moves text p xs0 ys g
  seq-moves ma i mb put = record { on = omega (arith, put.to_is); inside = omega (arith, put.to_is); few = omega (arith, put.to_is, put.counted); new = omega (arith, put.root); root = omega (arith, put.root, put.counted) }

  pub set-moves : {xs0 : Table Node} {e : Got} {from to value : ℕ} → (p ≤ from) × (from < to) × (to < value) × (value ≤ length text) → Moves text value xs0 xs e → Put xs ys x e.to size g → Moves text p xs0 ys g
  set-moves i me put = record { on = omega (arith, put.to_is); inside = omega (arith, put.to_is); few = omega (arith, put.to_is, put.counted); new = omega (arith, put.root); root = omega (arith, put.root, put.counted) }

  pub while-moves : {xs0 : Table Node} {a b : Got} {q ta tb : ℕ} {t1 : Table Node} → Behind text p q → Moves text q xs0 t1 a → Behind text a.to ta → Moves text ta t1 xs b → Behind text b.to tb → Put xs ys x tb size g → Moves text p xs0 ys g
  while-moves i ma ia mb ib put = record { on = omega (arith, put.to_is); inside = omega (arith, put.to_is); few = omega (arith, put.to_is, put.counted); new = omega (arith, put.root); root = omega (arith, put.root, put.counted) }

  pub if-moves : {xs0 : Table Node} {a b c : Got} {q ta tb tc : ℕ} {t1 t2 : Table Node} → Behind text p q → Moves text q xs0 t1 a → Behind text a.to ta → Moves text ta t1 t2 b → Behind text b.to tb → Moves text tb t2 xs c → Behind text c.to tc
      → Put xs ys x tc size g → Moves text p xs0 ys g
  if-moves i ma ia mb ib mc ic put = record { on = omega (arith, put.to_is); inside = omega (arith, put.to_is); few = omega (arith, put.to_is, put.counted); new = omega (arith, put.root); root = omega (arith, put.root, put.counted) }

  pub new-moves : {xs0 : Table Node} {b : Given} {q cf ct r : ℕ} → Behind text p q → Between text q cf ct → Behind text ct r → MovesArgs text r xs0 xs b → Put xs ys x b.to size g → Moves text p xs0 ys g
  new-moves i ic io mb put = record { on = omega (arith, put.to_is); inside = omega (arith, put.to_is); few = omega (arith, put.to_is, put.counted); new = omega (arith, put.root); root = omega (arith, put.root, put.counted) }

  pub test-moves : {xs0 : Table Node} {a : Got} {ta cf ct : ℕ} → Moves text p xs0 xs a → Behind text a.to ta → Between text ta cf ct → Put xs ys x ct size g → Moves text p xs0 ys g
  test-moves ma i ic put = record { on = omega (arith, put.to_is); inside = omega (arith, put.to_is); few = omega (arith, put.to_is, put.counted); new = omega (arith, put.root); root = omega (arith, put.root, put.counted) }

  pub call-moves : {xs0 : Table Node} {a : Got} {b : Given} {ta cf ct r : ℕ} {t1 : Table Node} → Moves text p xs0 t1 a → Behind text a.to ta → Between text ta cf ct → Behind text ct r → MovesArgs text r t1 xs b → Put xs ys x b.to size g → Moves text p xs0 ys g
  call-moves ma i ic io mb put = record { on = omega (arith, put.to_is); inside = omega (arith, put.to_is); few = omega (arith, put.to_is, put.counted); new = omega (arith, put.root); root = omega (arith, put.root, put.counted) }

module _ {text : List ℕ} {p : ℕ} {g : Given} where
  pub none_moves : {xs : Table Node} {a : Given} {to : ℕ} → a.arguments.count ≡ 0 → xs.count ≤ p → Behind text p to → Closed a to g → MovesArgs text p xs xs g
  none_moves z few i c =
      let s = ap (λ z. z.count) c.same in
      record { on = omega (arith, c.to_is); inside = omega (arith, c.to_is); few = omega (arith, c.to_is); more = omega arith; count = omega (arith, c.to_is) }

  pub first-moves : {xs ys : Table Node} {a : Given} {e : Got} → a.arguments.count ≡ 0 → Moves text p xs ys e → With a e g → MovesArgs text p xs ys g
  first-moves z me w = record { on = omega (arith, w.to_is); inside = omega (arith, w.to_is); few = omega (arith, w.to_is); more = omega arith; count = omega (arith, w.to_is, w.many) }

  pub next-moves : {xs0 xs ys : Table Node} {a : Given} {e : Got} {ta : ℕ} → MovesArgs text p xs0 xs a → Behind text a.to ta → Moves text ta xs ys e → With a e g → MovesArgs text p xs0 ys g
  next-moves ma i me w = record { on = omega (arith, w.to_is); inside = omega (arith, w.to_is); few = omega (arith, w.to_is); more = omega arith; count = omega (arith, w.to_is, w.many) }

  pub close-moves : {xs0 ys : Table Node} {a : Given} {to : ℕ} → MovesArgs text p xs0 ys a → Behind text a.to to → Closed a to g → MovesArgs text p xs0 ys g
  close-moves ma i c =
      let s = ap (λ z. z.count) c.same in
      record { on = omega (arith, c.to_is); inside = omega (arith, c.to_is); few = omega (arith, c.to_is); more = omega arith; count = omega (arith, c.to_is) }
