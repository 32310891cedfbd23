-- A keeper over several turns.
use Rattle.std.proofs.Common.{◌∙◌, List, refl}
use Rattle.ghg_keeper.specs.declared.row.KeptRow.{KeptRow}
use Rattle.ghg_keeper.specs.Shelf.{Shelf}
use Rattle.ghg_office.specs.Keeping.{KeepsAccepted, Lists}

pub keeps_listed : (a : Shelf) (rows : List KeptRow) → Lists a rows → KeepsAccepted a a rows
keeps_listed a rows h = record { clean = λ c. c; told = λ t. t; rows = h; name = refl }

pub keeps_more : (a b c : Shelf) (xs ys : List KeptRow) → KeepsAccepted a b xs → KeepsAccepted b c ys → KeepsAccepted a c ys
keeps_more a b c xs ys p q = record {
  clean = λ clean. p.clean (q.clean clean);
  told = λ t. p.told (q.told t);
  rows = q.rows;
  name = q.name ∙ p.name;
}
