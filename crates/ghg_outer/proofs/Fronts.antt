-- What a read from the middle of a list takes and leaves.
use Rattle.std.proofs.Common.{◌≡◌, ℕ, ◌+◌, List, ◌++◌, take, drop}
use Rattle.std.proofs.Math.Seq.{take-add}

-- a longer front is the front and what was taken after it
pub longer_front : (xs : List ℕ) (at n : ℕ) → take (at + n) xs ≡ take at xs ++ take n (drop at xs)
longer_front xs at n = take-add at n xs
