-- Names that compare alike are one.
use Rattle.std.proofs.Common.{◌≡◌, true, is_eq, ap}
use Rattle.std.proofs.lemmas.Cmp.{tied_itself}
use Rattle.std.specs.Cmp.Lexicographic.{nat_list_cmp_total}
use Rattle.ghg_definitions.specs.Data.{Name, name_cmp}
use Rattle.ghg_definitions.proofs.Keys.{equal_by, names_same}

pub names_equal : (x k : Name) → is_eq (name_cmp x k) ≡ true → x ≡ k
names_equal x k e = names_same x k (equal_by _ e)

pub equal_itself : (x : Name) → is_eq (name_cmp x x) ≡ true
equal_itself x = ap is_eq (tied_itself nat_list_cmp_total x)
