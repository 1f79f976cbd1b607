-- What a store answers, told by the tables that it holds. Assumes nothing.
use Rattle.std.specs.Prelude.{◌≡◌, ℕ, ◌<◌, ◌≤◌, Bool, true, false, [], ◌∷◌, ◌++◌, length, is_some, Some, None, Ok, Err, Option, Result}
use Rattle.text.specs.Memory.{Memory}
use Rattle.store.specs.declared.value.Location.{Location}
use Rattle.store.specs.declared.value.Value.{Value}
use Rattle.store.specs.declared.NoTable.{NoTable}
use Rattle.store.specs.declared.Refusal.{Refusal}
use Rattle.store.specs.declared.Refusal.TheVariants as refusal
use Rattle.store.specs.Val.{Val, meaning, end_of}
use Rattle.store.specs.Tables.{Tables, made, read, takes, write}

abbrev pub meant : Memory → Option Value → Option Val
meant m None = None
meant m (Some v) = Some (meaning m v)

-- make: refused exactly when t tables stand; else a new, empty table whose location is the number of tables before it
abbrev pub Makes : ℕ → Tables → Option Location → (Tables → Type 0) → Type 0
Makes t T None holds = (t ≤ length T) × holds T
Makes t T (Some l) holds = (length T < t) × (l.0 ≡ length T) × holds (T ++ [] ∷ [])

-- read: refused exactly at a location never made
abbrev pub Reads : Memory → Tables → ℕ → Val → Result (Option Value) NoTable → Type 0
Reads m T l k (Ok o) = (made T l ≡ true) × (meant m o ≡ read T l k)
Reads m T l k (Err e) = made T l ≡ false

-- the value that was read ends by u among the strings made
abbrev pub ReadsWithin : ℕ → Result (Option Value) NoTable → Type 0
ReadsWithin u (Ok None) = Unit {0}
ReadsWithin u (Ok (Some v)) = end_of v ≤ u
ReadsWithin u (Err e) = Unit {0}

abbrev pub Has : Tables → ℕ → Val → Result Bool NoTable → Type 0
Has T l k (Ok b) = (made T l ≡ true) × (b ≡ is_some (read T l k))
Has T l k (Err e) = made T l ≡ false

-- write: refused at a location never made, and where a new key finds m pairs; a refusal changes nothing
abbrev pub Writes : ℕ → Tables → ℕ → Val → Val → Result (Unit {0}) Refusal → (Tables → Type 0) → Type 0
Writes m T l k v (Ok _) holds = (made T l ≡ true) × (takes m T l k ≡ true) × holds (write T l k v)
Writes m T l k v (Err refusal.NoTable) holds = (made T l ≡ false) × holds T
Writes m T l k v (Err refusal.Full) holds = (made T l ≡ true) × (takes m T l k ≡ false) × holds T
