-- The number of a pair's bucket: equal keys of one table have the same. Assumes nothing.
use Rattle.std.specs.Prelude.{ℕ, ◌+◌, ◌-◌, ◌*◌, ◌/◌, ◌%◌, length, slice_index, unsigned_abs}
use Rattle.store.specs.Val.{Val}

-- what of a key's content is counted: of a string its length and three of its bytes
abbrev pub number_of : Val → ℕ
number_of (Val.int n) = unsigned_abs n
number_of (Val.string t) = length t + slice_index t 0 * 3 + slice_index t (length t / 2) * 5 + slice_index t (length t - 1) * 7
number_of (Val.identifier i) = i
number_of (Val.location l) = l

abbrev pub bucket_of : ℕ → ℕ × Val → ℕ
bucket_of buckets p = (p.0 * 31 + number_of p.1) % buckets
