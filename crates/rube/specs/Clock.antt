-- The clock does not matter once it suffices. Assumes nothing.
use Rattle.std.specs.Prelude.{◌≡◌, ℕ, ◌+◌, Some}
use Rattle.grammar.specs.Tree.{Expr}
use Rattle.rube.specs.Heap.{Setting}
use Rattle.rube.specs.Meaning.{Ended, ended, meaning, Ends}

pub record ClockLaw : Type 0 where
  -- more clock changes nothing
  pub more : (P : Setting ℕ) (left : ℕ) (e : Expr ℕ) (k j : ℕ) (r : Ended) → ended (meaning P left e k) ≡ Some r → ended (meaning P left e (k + j)) ≡ Some r
  -- so a rule ends in one way at most
  pub one : (P : Setting ℕ) (left : ℕ) (e : Expr ℕ) (r q : Ended) → Ends P left e r → Ends P left e q → r ≡ q
