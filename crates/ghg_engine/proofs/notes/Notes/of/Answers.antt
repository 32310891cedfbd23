use Rattle.std.proofs.Common.{ap}
use Rattle.std.specs.BTreeMap.{is_at}
use Rattle.std.specs.List.{list_any}
use Rattle.ghg_definitions.specs.Data.{name_cmp}
use Rattle.ghg_engine.proofs.Keys.{nothing_noted}
use Rattle.ghg_engine.proofs.notes.Notes.of.Goals as goal

pub loop-place-init : goal.loop-place-init
loop-place-init g c =
    let old = g.C.Cells.content c.args.change.now.before.now in
    let new = g.R.Records.content c.args.change.now.records.now in
    nothing_noted old new c.args.change.now.keys.now c.args.nodes.now c.requires.edit (record { shifts = c.new.result; edited = c.new-2.result }) (c.new.ensures.noted old new)
    (λ name. ap (λ names. list_any (is_at (name_cmp name)) names) c.new-2.ensures.empty)
