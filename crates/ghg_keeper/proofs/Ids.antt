-- Ids of submissions as texts.
use Rattle.std.proofs.Common.{◌≡◌, ℕ, ◌<◌, List, ◌∷◌, [], true, IsTrue, arith}
use Rattle.std.specs.List.{list_all}
use Rattle.std.specs.Str.{IsUtf8, IsAscii}
use Rattle.std.proofs.lemmas.Str.{IsUtf8-from_ascii}
use Rattle.std.proofs.lemmas.Bool.Decides.{nat_tests}
use Rattle.std.proofs.lemmas.Str.Ascii.{IsAscii-nil, IsAscii-cons}
use Rattle.std.proofs.lemmas.Bool.{and_parts}
use Rattle.ghg_keeper.specs.Id.{is_id, is_id_byte}

id_byte_low : (b : ℕ) → is_id_byte b ≡ true → b < 128
id_byte_low b h = grind (arith, nat_tests)

ascii : (bs : List ℕ) → list_all is_id_byte bs ≡ true → IsAscii bs
ascii [] h = IsAscii-nil
ascii (b ∷ bs) h = let both = and_parts (is_id_byte b) (list_all is_id_byte bs) h in IsAscii-cons b bs (id_byte_low b both.0) (ascii bs both.1)

pub id_is_utf8 : (id : List ℕ) → IsTrue (is_id id) → IsUtf8 id
unfolding is_id
id_is_utf8 id h = IsUtf8-from_ascii id (ascii id (grind arith))
