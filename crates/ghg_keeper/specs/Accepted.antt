-- The tables of the kept submissions: `accepted` of the first version of a store, and `accepted2`.
use Rattle.std.specs.Prelude.{◌≡◌, ◌≢◌, ◌⊎◌, true, false, ◌&&◌, ◌==◌, [], ◌∷◌, Option, Some, None, codes, find, ℕ, List, Bool}
use Rattle.std.specs.List.{list_any}
use Rattle.sqlite.specs.Collation.TheVariants.{Binary}
use Rattle.sqlite_value.specs.Keys.{plain}
use Rattle.sqlite.specs.declared.types.Value.TheVariants.{Null}
use Rattle.sqlite_schema.specs.declared.schema.Column.{Column}
use Rattle.sqlite_schema.specs.Names.{same_name, is_key}
use Rattle.sqlite.specs.Table.{Table}
use Rattle.sqlite.specs.Schema.{Schema}
use Rattle.sqlite_rules.specs.Audit.{refers_to}
use Rattle.sqlite.specs.Kind.{Kind}
use Rattle.sqlite.specs.Kind.TheVariants.{Integer, Text, Any}
use Rattle.sqlite_trees.specs.Tree.{IsAscending}

-- a column without a default
abbrev pub column_of : List ℕ → Kind → Bool → Column
column_of name kind not_null = record {
  name = name;
  kind = kind;
  is_strict = false;
  not_null = not_null;
  default = Null;
  collation = Binary;
}

-- accepted(seq INTEGER PRIMARY KEY, id TEXT UNIQUE NOT NULL, body BLOB NOT NULL)
abbrev pub accepted : Table
accepted = record {
  name = codes "accepted";
  tree = 0;
  columns = column_of (codes "seq") Integer false ∷ column_of (codes "id") Text true
      ∷ column_of (codes "body") Any true ∷ [];
  key = Some 0;
  primary = 0 ∷ [];
  uniques = (2 ∷ []) ∷ [];
  orders = plain ∷ [];
  checks = [];
  references = [];
  computed = [];
  stamps = record { places = []; terms = []; formats = [] };
  is_counted = false;
}

-- accepted2(seq INTEGER PRIMARY KEY, id TEXT UNIQUE NOT NULL, format INTEGER NOT NULL, body BLOB NOT NULL)
abbrev pub second : Table
second = record accepted {
  name = codes "accepted2";
  columns = column_of (codes "seq") Integer false ∷ column_of (codes "id") Text true
      ∷ column_of (codes "format") Integer true ∷ column_of (codes "body") Any true ∷ [];
}

-- ---- which tables a store has, whatever else it has

-- the table of this name
abbrev pub table_of : List ℕ → Schema → Option Table
table_of name schema = find (λ t. same_name t.name name) schema.tables

-- its name finds it as it is made here, in some tree
pub record HasTable (made : Table) (schema : Schema) : Type 0 where
  pub tree : ℕ
  pub found : table_of made.name schema ≡ Some (record made { tree = tree })

-- no table has its name, or it is there
abbrev pub IsAsMade : Table → Schema → Type 0
IsAsMade made schema = (table_of made.name schema ≡ None) ⊎ HasTable made schema

-- each table has a tree of its own
abbrev pub AreApart : Schema → Type 0
AreApart schema = IsAscending (λ s t. s.tree ≢ t.tree) schema.tables

-- both are there
pub record HasBoth (schema : Schema) : Type 0 where
  pub first : HasTable accepted schema
  pub second : HasTable second schema
  pub apart : AreApart schema

-- ---- the tests that attach makes

-- a table has a foreign key that refers to the first one
abbrev pub is_referred_to : Schema → Bool
is_referred_to schema = list_any (refers_to (codes "accepted")) schema.tables

abbrev pub is_integer : Kind → Bool
is_integer Integer = true
is_integer _ = false

abbrev pub is_text : Kind → Bool
is_text Text = true
is_text _ = false

abbrev pub is_any : Kind → Bool
is_any Any = true
is_any _ = false

-- the columns by their names and types; each row has an id and a body
abbrev pub is_seq : Column → Bool
is_seq column = same_name column.name (codes "seq") && is_integer column.kind

abbrev pub is_id : Column → Bool
is_id column = same_name column.name (codes "id") && is_text column.kind && column.not_null

abbrev pub is_body : Column → Bool
is_body column = same_name column.name (codes "body") && is_any column.kind && column.not_null

abbrev pub is_format : Column → Bool
is_format column = same_name column.name (codes "format") && is_integer column.kind && column.not_null

abbrev pub are_kept_columns : List Column → Bool
are_kept_columns (seq ∷ id ∷ body ∷ []) = is_seq seq && is_id id && is_body body
are_kept_columns _ = false

abbrev pub are_second_columns : List Column → Bool
are_second_columns (seq ∷ id ∷ format ∷ body ∷ []) =
    is_seq seq && is_id id && is_format format && is_body body
are_second_columns _ = false

-- no id stands twice, and nothing else must be unique
abbrev pub has_unique_id : List (List ℕ) → Bool
has_unique_id ((place ∷ []) ∷ []) = place == 2
has_unique_id _ = false

-- a table of kept submissions, with the first column as its primary key
abbrev pub is_keyed : Table → Bool
is_keyed table = is_key table.key 0 && has_unique_id table.uniques

abbrev pub is_kept_table : Table → Bool
is_kept_table table =
    same_name table.name (codes "accepted") && are_kept_columns table.columns && is_keyed table

abbrev pub is_second_table : Table → Bool
is_second_table table =
    same_name table.name (codes "accepted2") && are_second_columns table.columns && is_keyed table

abbrev pub has_first : Schema → Bool
has_first schema = list_any is_kept_table schema.tables

abbrev pub has_second : Schema → Bool
has_second schema = list_any is_second_table schema.tables

abbrev pub has_kept_tables : Schema → Bool
has_kept_tables schema = has_first schema && has_second schema
