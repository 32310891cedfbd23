-- The submissions that were accepted, as rows that can be kept.
use Rattle.std.specs.Prelude.{ℕ, ◌+◌, if◌then◌else◌, List, [], ◌∷◌, length, sum_by, Option, Some, None, refl}
use Rattle.std.specs.Str.{bytes_eq}
use Rattle.std.specs.Coded.{Coded, code_by, coded×, coded_list, coded_ℕ}
use Rattle.ghg_keeper.specs.declared.row.KeptRow.{KeptRow}

abbrev pub row_code : Coded KeptRow
row_code =
    code_by (List ℕ × List ℕ) (coded× (coded_list coded_ℕ) (coded_list coded_ℕ))
    (λ r. (r.id, r.body)) (λ p. record { id = p.0; body = p.1 }) (λ _. refl)

-- an accepted submission and its number, which is its place from 1
pub record Kept : Type 0 where
  pub seq : ℕ
  pub body : List ℕ

-- the submission under an id, where the first of the list has this number
unfoldable pub kept_from : ℕ → List ℕ → List KeptRow → Option Kept
kept_from seq id [] = None
kept_from seq id (row ∷ rest) =
    if bytes_eq id row.id then Some (record { seq = seq; body = row.body }) else kept_from (seq + 1) id rest

-- how many bytes the bodies of the accepted submissions have
abbrev pub kept_bytes : List KeptRow → ℕ
kept_bytes accepted = sum_by (λ row. length row.body) accepted

-- ---- what contracts see of the accepted list

-- the submissions in their order, and how many more fit without memory
pub record AcceptedList : Type 0 where
  pub list : List KeptRow
  pub spare : ℕ

abbrev pub accepted_code : Coded AcceptedList
accepted_code =
    code_by (List KeptRow × ℕ) (coded× (coded_list row_code) coded_ℕ)
    (λ a. (a.list, a.spare)) (λ p. record { list = p.0; spare = p.1 }) (λ _. refl)

-- a body under an id
abbrev pub entry_row : List ℕ × List ℕ → KeptRow
entry_row e = record { id = e.0; body = e.1 }
