-- The rows of records, as a loop reads them.
use Rattle.std.proofs.Common.{◌≡◌, ◌<◌, ◌≤◌, ◌+◌, ℕ, List, [], ◌∷◌, ◌++◌, length, drop, get_or, map, Some, None, Result, Ok, Err, refl, sym}
use Rattle.std.proofs.lemmas.List.{drop_all}
use Rattle.csv.specs.Records.{Row as Record, fields_of}
use Rattle.ghg_splice.specs.declared.quantity.Quantity.{Quantity}
use Rattle.ghg_splice.specs.declared.refusal.SpliceRefusal.{SpliceRefusal}
use Rattle.ghg_splice.specs.declared.refusal.SpliceRefusal.TheVariants.{BadRow}
use Rattle.ghg_splice.specs.declared.series.Row.{Row}
use Rattle.ghg_splice.specs.Refusals.{joined}
use Rattle.ghg_splice.specs.Series.{row_after, rows_from, then_rows}
use Rattle.ghg_splice.proofs.Joined.{goes_on, is_done, split_at}

-- the rows from a record on
rows_at : (number after : ℕ) (records : List Record) (i : ℕ) (record' : Record) → i < length records → record' ≡ get_or records i record'
    → rows_from number after (map fields_of (drop i records))
    ≡ then_rows number (row_after after (fields_of record')) (λ year. rows_from (number + 1) year (map fields_of (drop (i + 1) records)))
unfolding rows_from
rows_at number after records i record' small is = rw (split_at records i record' small is) refl

-- a row more
pub row_more : (number after : ℕ) (records : List Record) (i : ℕ) (record' : Record) (row : Row Quantity) (rows new : List (Row Quantity)) (total : Result (List (Row Quantity)) SpliceRefusal)
    → i < length records → record' ≡ get_or records i record' → Some row ≡ row_after after (fields_of record') → new ≡ rows ++ row ∷ []
    → joined (Ok rows) (rows_from number after (map fields_of (drop i records))) ≡ total
    → joined (Ok new) (rows_from (number + 1) row.year (map fields_of (drop (i + 1) records))) ≡ total
row_more number after records i record' row rows new total small is read longer so_far =
    let here = rw (rows_at number after records i record' small is, ← read) at so_far in
    goes_on rows (row ∷ []) new (Ok (row ∷ [])) (rows_from (number + 1) row.year (map fields_of (drop (i + 1) records))) total refl longer here

-- a record that is no row
pub row_bad : (number after : ℕ) (records : List Record) (i : ℕ) (record' : Record) (rows : List (Row Quantity)) (total : Result (List (Row Quantity)) SpliceRefusal)
    → i < length records → record' ≡ get_or records i record' → None ≡ row_after after (fields_of record')
    → joined (Ok rows) (rows_from number after (map fields_of (drop i records))) ≡ total → total ≡ Err (BadRow number)
row_bad number after records i record' rows total small is read so_far = sym (rw (rows_at number after records i record' small is, ← read) at so_far)

-- the end of the records
pub rows_end : (number after : ℕ) (records : List Record) (i : ℕ) (rows : List (Row Quantity)) (total : Result (List (Row Quantity)) SpliceRefusal) → length records ≤ i
    → joined (Ok rows) (rows_from number after (map fields_of (drop i records))) ≡ total → total ≡ Ok rows
unfolding rows_from
rows_end number after records i rows total past so_far = is_done rows total (rw (drop_all i records past) at so_far)
