-- What a stack holds, and what stands in its slice beyond. Assumes nothing.
use Rattle.std.specs.Prelude.{ℕ, ◌-◌, List, length, take, drop}
use Rattle.stack.specs.declared.Stack.{Stack}

module _ {T : Type 0} where
  -- the items, oldest first
  abbrev pub held : Stack T → List T
  held s = take s.len s.items.now

  -- the rest of the slice: the slice is `held s ++ beyond s`
  abbrev pub beyond : Stack T → List T
  beyond s = drop s.len s.items.now

  -- how many items the stack can hold
  abbrev pub room : Stack T → ℕ
  room s = length s.items.now

  -- all but the last
  abbrev pub front : List T → List T
  front xs = take (length xs - 1) xs
