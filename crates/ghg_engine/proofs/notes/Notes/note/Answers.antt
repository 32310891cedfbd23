use Rattle.std.proofs.Common.{◌≡◌, ◌∙◌, Some, true, false, length, refl, sym, ap, take}
use Rattle.std.proofs.lemmas.Option.{slice_get_read}
use Rattle.ghg_definitions.specs.Compilation.{compilation}
use Rattle.ghg_shifts.specs.Noted.{emitted_at, with_line_in}
use Rattle.ghg_shifts.specs.Progress.{has_come, is_edited, is_gone}
use Rattle.ghg_shifts.specs.Shifts.{input_at}
use Rattle.ghg_shifts.proofs.Progress.{stood_there}
use Rattle.ghg_units.specs.declared.node.Node.TheVariants as node
use Rattle.ghg_engine.proofs.Answered.{on_ok}
use Rattle.ghg_engine.proofs.Done.{both_done, come_done, has_room, has_room_gone, not_come, not_gone, other_done}
use Rattle.ghg_engine.proofs.notes.Notes.note.Goals as goal

pub returns-in_default-clause-notes : goal.returns-in_default-clause-notes
returns-in_default-clause-notes g c = other_done _ _ _ c.args.nodes.now c.requires.edit c.args.place c.index-nodes-place.result c.requires.place c.index-nodes-place.is c.args.self.now c.requires.notes c.in_default.not-Equiv

pub note_come-requires : goal.note_come-requires
note_come-requires g c = has_room _ _ _ c.args.nodes.now c.requires.edit c.args.place c.index-nodes-place.result c.requires.place c.index-nodes-place.is c.args.self.now c.requires.notes c.in-Equiv.name c.in-Equiv.year c.in-Equiv.is

pub note_gone-requires : goal.note_gone-requires
note_gone-requires g c = has_room _ _ _ c.args.nodes.now c.requires.edit c.args.place c.index-nodes-place.result c.requires.place c.index-nodes-place.is c.args.self.now c.requires.notes c.in-Equiv.name c.in-Equiv.year c.in-Equiv.is

pub returns-then-contains-clause-notes : goal.returns-then-contains-clause-notes
returns-then-contains-clause-notes g c =
    let old = g.C.Cells.content c.args.change.now.before.now in
    let new = g.R.Records.content c.args.change.now.records.now in
    let keys = c.args.change.now.keys.now in
    let nodes = c.args.nodes.now in
    let done = take c.args.place nodes in
    let name = c.in-Equiv.name in
    let year = c.in-Equiv.year in
    let n = c.index-nodes-place.result in
    let stands = c.emitted_at-stands.ensures.category ∙ ap (λ r. emitted_at (g.R.Records.content r) c.in-Equiv.name) c.requires.reader in
    let noted = c.requires.notes.noted.noted in
    let edited : is_edited keys name ≡ true = sym (c.requires.notes.edited name) ∙ sym c.contains.ensures ∙ c.if-contains.true in
    let there = slice_get_read nodes (length nodes) c.args.place n refl c.requires.place c.index-nodes-place.is ∙ ap Some c.in-Equiv.is in
    on_ok c.note_come.result
    (λ h. come_done old new keys nodes c.requires.edit c.args.place n c.requires.place c.index-nodes-place.is c.args.self.now c.requires.notes name year c.in-Equiv.is edited
    (record { shifts = c.note_come.new.self; edited = c.args.self.now.edited })
    (h old new (is_gone keys done) (has_come keys nodes done) name noted
    (not_come old new keys nodes c.requires.edit c.args.place n c.requires.place c.index-nodes-place.is c.args.self.now c.requires.notes name year c.in-Equiv.is c.requires.once)
    stands (λ leaf e. c.requires.outcome (node.Equiv name year) there)) refl)
    c.note_come.ensures.noted

pub note_come-requires-2 : goal.note_come-requires-2
note_come-requires-2 g c =
    let old = g.C.Cells.content c.args.change.now.before.now in
    let new = g.R.Records.content c.args.change.now.records.now in
    let keys = c.args.change.now.keys.now in
    let nodes = c.args.nodes.now in
    let done = take c.args.place nodes in
    let name = c.in-Equiv.name in
    let year = c.in-Equiv.year in
    let n = c.index-nodes-place.result in
    let stands = c.emitted_at-stands.ensures.category ∙ ap (λ r. emitted_at (g.R.Records.content r) c.in-Equiv.name) c.requires.reader in
    let off : is_edited keys name ≡ false = sym (c.requires.notes.edited name) ∙ sym c.contains.ensures ∙ c.if-contains.false in
    has_room_gone old new keys nodes c.requires.edit c.args.place n c.requires.place c.index-nodes-place.is c.args.self.now c.requires.notes name year c.in-Equiv.is c.note_gone.new.self
    (c.in_ok-note_gone.ensures.noted old new (is_gone keys done) (has_come keys nodes done) name c.requires.notes.noted.noted
    (not_gone old new keys nodes c.requires.edit c.args.place n c.requires.place c.index-nodes-place.is c.args.self.now c.requires.notes name year c.in-Equiv.is c.requires.once off)
    (stands ∙ sym (stood_there old new keys nodes c.requires.edit name off))
    (c.kept_input-kept.ensures ∙ ap (input_at (compilation old)) c.in-Equiv.is))

pub returns-clause-notes : goal.returns-clause-notes
returns-clause-notes g c =
    let old = g.C.Cells.content c.args.change.now.before.now in
    let new = g.R.Records.content c.args.change.now.records.now in
    let keys = c.args.change.now.keys.now in
    let nodes = c.args.nodes.now in
    let done = take c.args.place nodes in
    let name = c.in-Equiv.name in
    let year = c.in-Equiv.year in
    let n = c.index-nodes-place.result in
    let stands = c.emitted_at-stands.ensures.category ∙ ap (λ r. emitted_at (g.R.Records.content r) c.in-Equiv.name) c.requires.reader in
    let off : is_edited keys name ≡ false = sym (c.requires.notes.edited name) ∙ sym c.contains.ensures ∙ c.if-contains.false in
    let there = slice_get_read nodes (length nodes) c.args.place n refl c.requires.place c.index-nodes-place.is ∙ ap Some c.in-Equiv.is in
    let gone = c.in_ok-note_gone.ensures.noted old new (is_gone keys done) (has_come keys nodes done) name c.requires.notes.noted.noted
    (not_gone old new keys nodes c.requires.edit c.args.place n c.requires.place c.index-nodes-place.is c.args.self.now c.requires.notes name year c.in-Equiv.is c.requires.once off)
    (stands ∙ sym (stood_there old new keys nodes c.requires.edit name off))
    (c.kept_input-kept.ensures ∙ ap (input_at (compilation old)) c.in-Equiv.is) in
    on_ok c.note_come-2.result
    (λ h. both_done old new keys nodes c.requires.edit c.args.place n c.requires.place c.index-nodes-place.is c.args.self.now c.requires.notes name year c.in-Equiv.is
    (record { shifts = c.note_come-2.new.self; edited = c.args.self.now.edited })
    (h old new (with_line_in year name (is_gone keys done)) (has_come keys nodes done) name gone
    (not_come old new keys nodes c.requires.edit c.args.place n c.requires.place c.index-nodes-place.is c.args.self.now c.requires.notes name year c.in-Equiv.is c.requires.once)
    stands (λ leaf e. c.requires.outcome (node.Equiv name year) there)) refl)
    c.note_come-2.ensures.noted
