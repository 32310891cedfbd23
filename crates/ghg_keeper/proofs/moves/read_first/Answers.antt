use Rattle.ghg_keeper.proofs.Course.{reads_one}
use Rattle.std.proofs.lemmas.Result.{err_from_is_err_and}
use Rattle.std.proofs.Common.{◌≡◌, ap, length, inl, w64, sym, subst, ◌∙◌, pos, [], ◌∷◌, inr}
use Rattle.sqlite.specs.declared.types.Value.TheVariants.{Int}
use Rattle.sqlite.specs.State.{Shown}
use Rattle.ghg_keeper.proofs.Meanings.{finds_only}
use Rattle.ghg_keeper.proofs.Moving.{alone_of, only_kept}
use Rattle.ghg_keeper.proofs.Safe.{read_survives}
use Rattle.std.proofs.lemmas.Int.{to_z_pos}
use Rattle.ghg_keeper.specs.Texts.{first_row_text}
use Rattle.ghg_keeper.proofs.Files.{on_ok}
use Rattle.ghg_keeper.proofs.Texts.{first_row_parses}
use Rattle.ghg_keeper.proofs.Effects.{after_failure, showed}
use Rattle.sqlite.specs.Held.{state}
use Rattle.ghg_keeper.proofs.moves.read_first.Goals.{in_default-via-then-as_slice-lt1, in_default-via-else-as_slice-lt1+else-this-lt2}
use Rattle.ghg_keeper.proofs.moves.read_first.Goals as goal

pub returns-in_err-rows-clause-left : goal.returns-in_err-rows-clause-left
returns-in_err-rows-clause-left g c clean = after_failure (state g.S.Store c.args.connection.now) (state g.S.Store c.query_all.new.self) first_row_text _ _ first_row_parses (c.in_err-rows.ensures.err clean)

pub returns-in-len1-clause-left : goal.returns-in-len1-clause-left
returns-in-len1-clause-left g c clean = inl (showed (state g.S.Store c.args.connection.now) (state g.S.Store c.query_all.new.self) first_row_text _ _ first_row_parses (c.in_ok-rows.ensures.ok clean))

pub returns-in-len1-clause-same : goal.returns-in-len1-clause-same
returns-in-len1-clause-same g c clean = on_ok c.kept_row.result (showed (state g.S.Store c.args.connection.now) (state g.S.Store c.query_all.new.self) first_row_text _ _ first_row_parses (c.in_ok-rows.ensures.ok clean))

pub returns-in-len1-clause-found : goal.returns-in-len1-clause-found
returns-in-len1-clause-found g c clean both =
    let shows = rw (c.params-to_sql.ensures, to_z_pos w64 c.args.seq c.requires) at (c.in_ok-rows.ensures.ok clean) in
    let alone = sym c.as_slice.ensures.value ∙ alone_of c.as_slice.result.now c.row-item.result c.row-item.is c.in-len1.len_at_least c.in-len1.len_below in
    only_kept c.args.seq (state g.S.Store c.args.connection.now).now c.kept_row.result c.row-item.result c.kept_row.ensures.id c.kept_row.ensures.body
    (finds_only (state g.S.Store c.args.connection.now) (state g.S.Store c.query_all.new.self) c.args.seq c.row-item.result both.first
    (subst (Shown first_row_text (Int (pos c.args.seq) ∷ []) (state g.S.Store c.args.connection.now) (state g.S.Store c.query_all.new.self)) alone shows))

pub returns-clause-left : goal.returns-clause-left
returns-clause-left g c clean = inl (showed (state g.S.Store c.args.connection.now) (state g.S.Store c.query_all.new.self) first_row_text _ _ first_row_parses (c.in_ok-rows.ensures.ok clean))

pub returns-in_err-rows-clause-survives : goal.returns-in_err-rows-clause-survives
returns-in_err-rows-clause-survives g c = read_survives (state g.S.Store c.args.connection.now) (state g.S.Store c.query_all.new.self) first_row_text _ first_row_parses c.query_all.ensures.survives

pub returns-in-len1-clause-survives : goal.returns-in-len1-clause-survives
returns-in-len1-clause-survives g c = read_survives (state g.S.Store c.args.connection.now) (state g.S.Store c.query_all.new.self) first_row_text _ first_row_parses c.query_all.ensures.survives

pub returns-clause-survives : goal.returns-clause-survives
returns-clause-survives g c = read_survives (state g.S.Store c.args.connection.now) (state g.S.Store c.query_all.new.self) first_row_text _ first_row_parses c.query_all.ensures.survives

pub returns-in_err-rows-clause-runs : goal.returns-in_err-rows-clause-runs
returns-in_err-rows-clause-runs g c =
    let p = err_from_is_err_and c.from_residual.result c.from_residual.ensures.1 in
    rw (p.1, p.2) (inl (λ clean. rw (c.params-to_sql.ensures, to_z_pos w64 c.args.seq c.requires) at (c.in_err-rows.ensures.err clean)))

pub returns-in-len1-clause-runs : goal.returns-in-len1-clause-runs
returns-in-len1-clause-runs g c =
    let alone = sym c.as_slice.ensures.value ∙ alone_of c.as_slice.result.now c.row-item.result c.row-item.is c.in-len1.len_at_least c.in-len1.len_below in
    reads_one g.S.Store c.args.seq c.args.connection.now c.query_all.new.self _ c.row-item.result c.kept_row.result
    (λ clean. rw (c.params-to_sql.ensures, to_z_pos w64 c.args.seq c.requires) at (c.in_ok-rows.ensures.ok clean)) alone c.kept_row.ensures.id c.kept_row.ensures.body c.kept_row.ensures.none

pub returns-clause-runs : goal.returns-clause-runs
returns-clause-runs g c = inr (
  c.in_ok-rows.rows.items,
  (λ clean. rw (c.params-to_sql.ensures, to_z_pos w64 c.args.seq c.requires) at (c.in_ok-rows.ensures.ok clean)),
  λ other one.
      let size : length c.as_slice.result.now ≡ 1 = ap length (c.as_slice.ensures.value ∙ one.1) in
      elim c.in_default.branch [
        | in_default-via-then-as_slice-lt1 w ↦ absurd (let t = rw size at w.if-as_slice-lt1-1.true in cc)
        | in_default-via-else-as_slice-lt1+else-this-lt2 w ↦ absurd (let t = rw size at w.if-this-lt2-1.false in cc)
      ],
)
