use Rattle.std.proofs.Common.{sym, ap, ◌≡◌, ◌∙◌, refl, is_some}
use Rattle.csv.specs.Records.{fields_of}
use Rattle.ghg_import.specs.declared.kind.Chosen.{Chosen}
use Rattle.ghg_import.specs.Shape.{Texts}
use Rattle.ghg_import.specs.Table.{chosen_in}
use Rattle.ghg_import.proofs.Right.{right_row}
use Rattle.ghg_import.proofs.form.form.Goals as goal

-- a row with a content that says no more
pub returns-in-Some : goal.returns-in-Some
returns-in-Some c =
    let row : Texts = fields_of c.args.row.now in
    let manner = c.manner_of.result in
    let unit = c.unit_of-unit.result in
    let given : Chosen = record { format = c.args.format; manner = manner; unit = unit; binds = c.is_some.result } in
    let wanted : Chosen = chosen_in c.args.format c.args.kind c.args.act row in
    let binds = c.is_some.ensures ∙ ap is_some c.in_ok-binding.ensures in
    let same : given ≡ wanted = rw (c.manner_of.ensures, c.unit_of-unit.ensures, binds) refl in
    let says = sym c.in-Some.ensures in
    right_row c.args.format c.args.kind c.args.act row given c.in-Some.form same says (sym c.if-says_no_more.ensures)
