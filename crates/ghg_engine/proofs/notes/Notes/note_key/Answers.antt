use Rattle.std.proofs.Common.{◌≡◌, ◌∙◌, ◌+◌, ◌&&◌, ℕ, false, is_some, not, sym, ap, subst, take, arith}
use Rattle.std.specs.BTreeSet.{contains}
use Rattle.ghg_graph.proofs.YearNodes.{span_is}
use Rattle.ghg_definitions.specs.Data.{Name, name_cmp}
use Rattle.ghg_shifts.specs.Noted.{emitted_at, with_line_in}
use Rattle.ghg_shifts.specs.Progress.{AreNotedUntil, has_equivalent, is_edited, is_gone_until}
use Rattle.ghg_shifts.proofs.Progress.{gives_still, line_came_on, line_not_come, line_not_gone, line_went_on, notes_have_room}
use Rattle.ghg_engine.specs.declared.notes.Notes.{Notes}
use Rattle.ghg_engine.proofs.Keys.{begun, edited_next, ended, is_within, no_years, other_noted, stood_nowhere}
use Rattle.ghg_engine.proofs.Noting.{not_edited_yet}
use Rattle.ghg_engine.proofs.notes.Notes.note_key.Goals as goal
use Rattle.ghg_engine.proofs.notes.Notes.note_key.Goals.{then-not-is_given+in_ok-note_come, else-not-is_given}

pub returns-in_default : goal.returns-in_default
returns-in_default g c = other_noted _ _ c.args.change.now.keys.now c.args.nodes.now c.requires.edit c.args.change.now.keys.now c.args.place c.index-change-place.result c.requires.place c.index-change-place.is
    (λ name e. c.in_default.not-Line name (sym c.index-change-place.is ∙ e)) c.args.self.now c.requires.notes

pub returns-then-is_none : goal.returns-then-is_none
returns-then-is_none g c =
    let keys = c.args.change.now.keys.now in
    let old = g.C.Cells.content c.args.change.now.before.now in
    let new = g.R.Records.content c.args.change.now.records.now in
    let is = c.index-change-place.is ∙ c.in-Line.is in
    let stood = c.emitted_at-stood.ensures ∙ ap (λ m. emitted_at m c.in-Line.name) c.book.ensures.content in
    stood_nowhere old new keys c.args.nodes.now c.requires.edit keys c.args.place c.index-change-place.result c.requires.place c.index-change-place.is c.in-Line.name is
    (subst (λ o. is_some o ≡ false) stood (c.is_none.ensures ∙ ap not c.if-is_none.true))
    (record { shifts = c.args.self.now.shifts; edited = c.insert.new.self }) c.requires.notes.noted
    (edited_next old new keys c.args.nodes.now c.requires.edit keys c.args.place c.index-change-place.result c.requires.place c.index-change-place.is c.in-Line.name is
    c.args.self.now.edited c.insert.new.self c.in_ok-insert.ensures.updates c.requires.notes.edited)

pub returns-in_default-span : goal.returns-in_default-span
returns-in_default-span g c =
    let keys = c.args.change.now.keys.now in
    let old = g.C.Cells.content c.args.change.now.before.now in
    let new = g.R.Records.content c.args.change.now.records.now in
    let is = c.index-change-place.is ∙ c.in-Line.is in
    no_years old new keys c.args.nodes.now c.requires.edit keys c.args.place c.index-change-place.result c.requires.place c.index-change-place.is c.in-Line.name is c.in_default-span.ensures.span
    (record { shifts = c.args.self.now.shifts; edited = c.insert.new.self })
    (edited_next old new keys c.args.nodes.now c.requires.edit keys c.args.place c.index-change-place.result c.requires.place c.index-change-place.is c.in-Line.name is
    c.args.self.now.edited c.insert.new.self c.in_ok-insert.ensures.updates c.requires.notes.edited)

pub overflow_add-year-end : goal.overflow_add-year-end
overflow_add-year-end g c =
    let years = span_is (g.R.Records.content c.args.change.now.records.now) c.in-Some.years c.span.ensures.workbook (sym c.in-Some.ensures.span) in
    let last = years.1.1 in omega (arith, last)

pub loop-year-init : goal.loop-year-init
loop-year-init g c =
    let keys = c.args.change.now.keys.now in
    let old = g.C.Cells.content c.args.change.now.before.now in
    let new = g.R.Records.content c.args.change.now.records.now in
    let is = c.index-change-place.is ∙ c.in-Line.is in (
      begun old new keys c.args.nodes.now c.requires.edit keys c.args.place c.index-change-place.result c.requires.place c.index-change-place.is c.in-Line.name is c.in-Some.years (sym c.in-Some.ensures.span)
          c.args.self.now.shifts c.requires.notes.noted,
      edited_next old new keys c.args.nodes.now c.requires.edit keys c.args.place c.index-change-place.result c.requires.place c.index-change-place.is c.in-Line.name is
          c.args.self.now.edited c.insert.new.self c.in_ok-insert.ensures.updates c.requires.notes.edited,
    )

pub note_gone-requires : goal.note_gone-requires
note_gone-requires g c =
    let keys = c.args.change.now.keys.now in
    let new = g.R.Records.content c.args.change.now.records.now in
    let some = take c.args.place keys in
    let y = c.loop-year.year in
    notes_have_room (g.C.Cells.content c.args.change.now.before.now) new keys c.args.nodes.now c.requires.edit
    (is_gone_until some c.in-Line.name y) (λ year other. is_gone_until some c.in-Line.name y year other && not (has_equivalent c.args.nodes.now year other))
    c.loop-year.self.shifts c.loop-year.invariant.0.noted y (is_within new c.in-Some.years (sym c.in-Some.ensures.span) y c.loop-year.auto.year c.loop-year-test.true)

pub note_come-requires : goal.note_come-requires
note_come-requires g c =
    let keys = c.args.change.now.keys.now in
    let old = g.C.Cells.content c.args.change.now.before.now in
    let new = g.R.Records.content c.args.change.now.records.now in
    let some = take c.args.place keys in
    let name = c.in-Line.name in
    let y = c.loop-year.year in
    let gone = is_gone_until some name y in
    let come = (λ (year : ℕ) (other : Name). is_gone_until some name y year other && not (has_equivalent c.args.nodes.now year other)) in
    let off = not_edited_yet keys c.requires.differ c.args.place name c.index-change-place.result c.requires.place (sym c.in-Line.is) in
    notes_have_room old new keys c.args.nodes.now c.requires.edit (with_line_in y name gone) come c.note_gone.new.self
    (c.in_ok-note_gone.ensures.noted old new gone come name c.loop-year.invariant.0.noted (line_not_gone old new keys c.args.nodes.now c.requires.edit some name y off)
    (c.emitted_at-stood.ensures ∙ ap (λ m. emitted_at m name) c.book.ensures.content) c.kept_input-kept.ensures)
    y (is_within new c.in-Some.years (sym c.in-Some.ensures.span) y c.loop-year.auto.year c.loop-year-test.true)

pub loop-year-preserved : goal.loop-year-preserved
loop-year-preserved g c =
    let keys = c.args.change.now.keys.now in
    let nodes = c.args.nodes.now in
    let old = g.C.Cells.content c.args.change.now.before.now in
    let new = g.R.Records.content c.args.change.now.records.now in
    let some = take c.args.place keys in
    let name = c.in-Line.name in
    let y = c.loop-year.year in
    let gone = is_gone_until some name y in
    let come = (λ (year : ℕ) (other : Name). is_gone_until some name y year other && not (has_equivalent nodes year other)) in
    let off = not_edited_yet keys c.requires.differ c.args.place name c.index-change-place.result c.requires.place (sym c.in-Line.is) in
    let on = is_within new c.in-Some.years (sym c.in-Some.ensures.span) y c.loop-year.auto.year c.loop-year-test.true in
    let went = c.in_ok-note_gone.ensures.noted old new gone come name c.loop-year.invariant.0.noted (line_not_gone old new keys nodes c.requires.edit some name y off)
    (c.emitted_at-stood.ensures ∙ ap (λ m. emitted_at m name) c.book.ensures.content) c.kept_input-kept.ensures in
    elim c.if-not-is_given.branch [
      | then-not-is_given+in_ok-note_come w ↦
          let none = sym c.is_given.ensures ∙ w.if-not-is_given.true in (
            subst (λ (n : Notes). AreNotedUntil old new some nodes name (y + 1) n.shifts) (sym w.self-is)
                (line_came_on old new keys nodes c.requires.edit some name y w.note_come.new.self none
                (w.in_ok-note_come.ensures.noted old new (with_line_in y name gone) come name went (line_not_come old new keys nodes c.requires.edit some name y off) c.emitted_at-stands.ensures
                (gives_still old new keys nodes c.requires.edit y name c.emitted_at-stands.result c.kept_input-kept.result on none c.emitted_at-stands.ensures c.kept_input-kept.ensures))),
            subst (λ (n : Notes). (other : Name) → contains name_cmp n.edited other ≡ is_edited (take (c.args.place + 1) keys) other) (sym w.self-is) c.loop-year.invariant.1,
          )
      | else-not-is_given w ↦
          let there = sym c.is_given.ensures ∙ w.if-not-is_given.false in (
            subst (λ (n : Notes). AreNotedUntil old new some nodes name (y + 1) n.shifts) (sym w.self-is)
                (line_went_on old new keys nodes c.requires.edit some name y c.note_gone.new.self there went),
            subst (λ (n : Notes). (other : Name) → contains name_cmp n.edited other ≡ is_edited (take (c.args.place + 1) keys) other) (sym w.self-is) c.loop-year.invariant.1,
          )
    ]

pub returns : goal.returns
returns g c =
    let keys = c.args.change.now.keys.now in
    let old = g.C.Cells.content c.args.change.now.before.now in
    let new = g.R.Records.content c.args.change.now.records.now in
    let is = c.index-change-place.is ∙ c.in-Line.is in
    ended old new keys c.args.nodes.now c.requires.edit keys c.args.place c.index-change-place.result c.requires.place c.index-change-place.is c.in-Line.name is c.in-Some.years (sym c.in-Some.ensures.span)
    c.loop-year.year (omega (arith, c.loop-year-test.false)) c.loop-year.self c.loop-year.invariant.0 c.loop-year.invariant.1
