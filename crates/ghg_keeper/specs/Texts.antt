-- The statements of the keeper, as they are written in SQL.
use Rattle.std.specs.Prelude.{ℕ, List, ◌++◌, codes}

abbrev pub create_text : List ℕ
create_text =
    codes "CREATE TABLE IF NOT EXISTS accepted"
    ++ codes "(seq INTEGER PRIMARY KEY, id TEXT UNIQUE NOT NULL, body BLOB NOT NULL)"

abbrev pub second_text : List ℕ
second_text =
    codes "CREATE TABLE IF NOT EXISTS accepted2"
    ++ codes "(seq INTEGER PRIMARY KEY, id TEXT UNIQUE NOT NULL, format INTEGER NOT NULL, body BLOB NOT NULL)"

abbrev pub insert_text : List ℕ
insert_text = codes "INSERT INTO accepted2(id, format, body) VALUES (?1, ?2, ?3)"

abbrev pub count_text : List ℕ
count_text = codes "SELECT count(*) FROM accepted2"

abbrev pub row_text : List ℕ
row_text = codes "SELECT id, body FROM accepted2 WHERE seq = ?1"

-- ---- the move of the rows to the second table

abbrev pub first_count_text : List ℕ
first_count_text = codes "SELECT count(*) FROM accepted"

abbrev pub first_row_text : List ℕ
first_row_text = codes "SELECT id, body FROM accepted WHERE seq = ?1"

abbrev pub begin_text : List ℕ
begin_text = codes "BEGIN"

abbrev pub clear_text : List ℕ
clear_text = codes "DELETE FROM accepted"

abbrev pub commit_text : List ℕ
commit_text = codes "COMMIT"

abbrev pub roll_back_text : List ℕ
roll_back_text = codes "ROLLBACK"
