use Rattle.std.proofs.Common.{◌∙◌, sym, refl, inl, inr, map, ◌∷◌, []}
use Rattle.std.proofs.lemmas.List.{map-append}
use Rattle.csv.specs.Reading.{Reached, default_config, error_kind, strip_bom}
use Rattle.csv.specs.Records.{fields_of}
use Rattle.csv.specs.declared.parser.State.TheVariants as st
use Rattle.csv.proofs.ReadFacts.{rows-end, rows-more}
use Rattle.ghg_splice.proofs.AllRecords.{all_records, fails_by_memory, rest}
use Rattle.ghg_splice.proofs.records.read_records.Goals as goal

pub loop-record-init : goal.loop-record-init
unfolding Reached
loop-record-init c =
    let made = c.from_reader-reader.ensures in
    let start = c.into_iter-record-iterator.ensures.into_iter_gives in
    let reader = c.into_byte_records-record-items.ensures.rdr in
    let setup = c.flexible.ensures in
    let first = c.has_headers.ensures in
    rw (start, reader, c.new-records.ensures.items) (
      record {
        trim = rw (setup, first) at made.trim ∙ c.new.ensures.trim;
        ready = inr (inr (rw (setup, first) at made.has_headers, made.headers));
        left = c.into_byte_records-record-items.ensures.left;
        config = rw (setup, first) at made.config ∙ c.new.ensures.config;
        flexible = rw setup at made.flexible;
      },
      record { left = strip_bom c.args.body.now; known = made.source; reached = (sym made.state, refl) },
    )

pub loop-record-preserved : goal.loop-record-preserved
loop-record-preserved c =
    let reading = c.loop-record.invariant.0 in
    let ahead = c.loop-record.invariant.1 in
    let steps = c.next.ensures.steps reading.left reading.trim in
    let step = rw (c.in-Some.is, c.in-Ok.is) at (steps.0 reading.ready) in
    let same = rw (c.in-Some.is, c.in-Ok.is) at steps.3 in
    let more = rows-more rest c.loop-record.record-iterator.rdr c.next.new.self.rdr (fields_of c.in-Ok.record) default_config st.StartRecord (strip_bom c.args.body.now) ahead.left (map fields_of c.loop-record.records.items) reading.config ahead.known ahead.reached step.0 in
    rw (c.in_ok-push-in-Ok.ensures.items, map-append fields_of c.loop-record.records.items (c.in-Ok.record ∷ [])) (
      record { trim = step.0.3 ∙ reading.trim; ready = inl step.1; left = step.2; config = step.0.2 ∙ reading.config; flexible = same ∙ reading.flexible },
      record { left = more.0; known = more.1; reached = more.2 },
    )

pub want_of_memory-requires : goal.want_of_memory-requires
want_of_memory-requires c =
    let reading = c.loop-record.invariant.0 in
    let step = rw (c.in-Some.is, c.in-Err.is) at ((c.next.ensures.steps reading.left reading.trim).0 reading.ready) in
    fails_by_memory c.loop-record.record-iterator.rdr c.next.new.self.rdr (error_kind c.in-Err.error) reading.flexible step

pub returns : goal.returns
returns c =
    let reading = c.loop-record.invariant.0 in
    let ahead = c.loop-record.invariant.1 in
    let step = rw c.in-None.is at ((c.next.ensures.steps reading.left reading.trim).0 reading.ready) in
    let none = rows-end rest c.loop-record.record-iterator.rdr c.next.new.self.rdr [] default_config ahead.left reading.config ahead.known step in
    all_records c.args.body.now (map fields_of c.loop-record.records.items) c.loop-record.record-iterator.rdr.state ahead.left ahead.reached none
