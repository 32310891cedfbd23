-- Ids of submissions: which texts they are.
use Rattle.std.specs.Prelude.{ℕ, Bool, ◌&&◌, ◌||◌, ◌==◌, nat_le, nat_lt, List, length}
use Rattle.std.specs.List.{list_all}
use Rattle.std.specs.Char.{is_ascii_alphanumeric}
use Rattle.ghg_keeper.specs.declared.keeper.TheConstants.{MAX_ID_LEN}

-- a letter, a digit, a point, a low line or a hyphen
abbrev pub is_id_byte : ℕ → Bool
is_id_byte b = is_ascii_alphanumeric b || (b == 46) || (b == 95) || (b == 45)

-- at least one of them, and no more than the limit
unfoldable pub is_id : List ℕ → Bool
is_id id = nat_lt 0 (length id) && nat_le (length id) MAX_ID_LEN && list_all is_id_byte id
